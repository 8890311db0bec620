use Rattle.std.proofs.Common.{◌≡◌, ℕ, ◌+◌, ◌*◌, ◌<◌, List, None, Option, Some, length, sym, ap, subst, arith}
use Rattle.std.specs.Prelude.{slice_index}
use Rattle.sfs_image.specs.Inode.{Inode, Table}
use Rattle.block_map.specs.Kept.{pointer_kept}
use Rattle.disk_tree.specs.Apart.{entry_kept}
use Rattle.disk_tree.proofs.MarksSet.{entry_within, indirect_within_size}
use Rattle.image_check.specs.Gathered.{pointed}
use Rattle.image_check.specs.Writes.{Writes}
use Rattle.image_check.proofs.Writing.{indirect_written, table_written}
use Rattle.image_check.proofs.owners.own.Goals as goal

pub own_table-requires : goal.own_table-requires
own_table-requires c = λ k tiny.
    let size = c.loop-place.invariant.size in
    let h = entry_within c.args.meta.now c.args.tables.now.items (length c.args.owners.now) c.requires.within c.loop-place.place k (omega arith) tiny in
    subst (λ (o : Option Table). entry_kept k o < length c.loop-place.owners) (sym c.find.ensures) (omega arith)

pub loop-place-preserved : goal.loop-place-preserved
loop-place-preserved c =
    table_written (Some c.args.inode) c.args.meta.now c.args.tables.now.items c.args.owners.now c.loop-place.owners c.own_table.new.owners
    c.loop-place.place (omega arith) c.loop-place.invariant
    (subst (λ (o : Option Table). Writes c.loop-place.owners c.own_table.new.owners None (Some c.args.inode) (λ k. pointed (entry_kept k o)) 1024)
    c.find.ensures c.own_table.ensures)

pub own_each-requires-2 : goal.own_each-requires-2
own_each-requires-2 c = λ k less.
    let size = c.loop-place.invariant.size in
    let long = c.requires.meta.indirect_count in
    let e : c.meta.inside.indirect ≡ c.args.meta.now.indirect = ap (λ (i : Inode). i.indirect) c.meta.view_is in
    let small : k < 16 = omega (arith, ap length e) in
    let h = indirect_within_size c.args.meta.now c.args.tables.now.items (length c.args.owners.now) c.requires.within k small in
    subst (λ (xs : List ℕ). slice_index xs k < length c.loop-place.owners) (sym e) (omega arith)

pub returns : goal.returns
returns c =
    let all : c.loop-place.place ≡ 16 = omega arith in
    let e : c.meta.inside.indirect ≡ c.args.meta.now.indirect = ap (λ (i : Inode). i.indirect) c.meta.view_is in
    indirect_written (Some c.args.inode) c.args.meta.now c.args.tables.now.items c.args.owners.now c.loop-place.owners c.own_each-2.new.owners
    (subst
    (λ (n : ℕ). Writes c.args.owners.now c.loop-place.owners None (Some c.args.inode) (λ place. pointed (pointer_kept c.args.meta.now c.args.tables.now.items place))
    (108 + 1024 * n)) all
    c.loop-place.invariant)
    c.requires.meta.indirect_count
    (subst (λ (xs : List ℕ). Writes c.loop-place.owners c.own_each-2.new.owners None (Some c.args.inode) (λ k. pointed (slice_index xs k)) (length xs)) e
    c.own_each-2.ensures)
