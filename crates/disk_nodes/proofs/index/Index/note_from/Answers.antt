use Rattle.std.proofs.Common.{◌<◌, ◌/◌, ◌∷◌, sym, ap, ◌∙◌, arith, false, get_or, []}
use Rattle.std.proofs.lemmas.List.{length-take}
use Rattle.disk_nodes.specs.Rooms.{has_empty}
use Rattle.disk_nodes.specs.Indexed.{Indexed}
use Rattle.disk_nodes.proofs.Telling.{front_of}
use Rattle.disk_nodes.proofs.index.Index.note_from.Goals as goal

pub look_from-requires : goal.look_from-requires
look_from-requires c = λ n low before full.
    let within : n < c.args.from = omega (arith, before) in
    let cut = length-take c.args.from c.args.blocks.now in
    let was = ap (λ (index : Indexed). get_or index.full (n / 32) false) c.self.view_is in
    ap (λ block. has_empty (block ∷ []) 0) (sym (front_of c.args.blocks.now c.args.from n [] within))
    ∙ c.requires.full n (omega (arith, within, cut, low)) (sym was ∙ ap (λ l. get_or l (n / 32) false) (sym c.loop-place.invariant.full) ∙ full)
