use Rattle.std.proofs.Common.{sym, ap, ◌∙◌, Some, arith, bytes_eq, get_or}
use Rattle.std.proofs.lemmas.List.{get_or_default}
use Rattle.disk_change.proofs.Names.{row_here, row_missing, other_way, other_way_no}
use Rattle.disk_change.proofs.block.row_of.Goals as goal

pub returns-then-place-net : goal.returns-then-place-net
returns-then-place-net c =
    row_missing c.args.name.now c.args.net.now c.requires c.place_of-place.result c.place_of-place.ensures.parted (λ d within. absurd (omega arith))

pub returns-then-eq : goal.returns-then-eq
returns-then-eq c =
    let same =
    ap (λ n. bytes_eq n c.args.name.now) (sym (c.bytes.ensures.bytes ∙ ap (λ row. row.name) c.index-net-place.is)) ∙ sym c.eq.ensures ∙ c.if-eq.true in
    ap Some c.index-net-place.is
    ∙ row_here c.args.name.now c.args.net.now c.requires c.place_of-place.result c.index-net-place.result (omega arith)
    (other_way c.args.name.now (get_or c.args.net.now c.place_of-place.result c.index-net-place.result).name same)

pub returns-else-eq : goal.returns-else-eq
returns-else-eq c =
    let other = ap (λ n. bytes_eq n c.args.name.now) (sym c.bytes.ensures.bytes) ∙ sym c.eq.ensures ∙ c.if-eq.false in
    row_missing c.args.name.now c.args.net.now c.requires c.place_of-place.result c.place_of-place.ensures.parted
    (λ d within. other_way_no c.args.name.now (get_or c.args.net.now c.place_of-place.result d).name
    (ap (λ row. bytes_eq row.name c.args.name.now)
    (sym (c.index-net-place.is ∙ get_or_default c.args.net.now c.place_of-place.result c.index-net-place.result d within))
    ∙ other))
