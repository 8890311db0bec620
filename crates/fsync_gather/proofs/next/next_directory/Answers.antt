use Rattle.std.proofs.Common.{◌++◌, ◌∷◌, [], List, Option, ◌∙◌, sym, ap, subst, take}
use Rattle.std.proofs.lemmas.List.{take_more}
use Rattle.sfs_base.specs.declared.numbers.NodeId.{NodeId}
use Rattle.mem_cells.specs.Part.{CoreLog}
use Rattle.fsync_gather.specs.Next.{IsNextOfAll}
use Rattle.fsync_gather.proofs.Following.{next_more}
use Rattle.fsync_gather.proofs.next.next_directory.Goals as goal

pub loop-part-preserved : goal.loop-part-preserved
loop-part-preserved c =
    let parts = c.args.parts.now in
    let at = c.loop-part.part-index in
    let part = c.part-item.result in
    let more = take_more parts at part c.loop-part-test.true ∙ ap (λ (log : CoreLog). take at parts ++ log ∷ []) (sym c.part-item.is) in
    subst (λ (logs : List CoreLog). IsNextOfAll logs c.args.after c.lesser-next.result) (sym more)
    (subst (λ (next : Option NodeId). IsNextOfAll (take at parts ++ part ∷ []) c.args.after next) (sym c.lesser-next.ensures)
    (next_more (take at parts) part c.args.after c.loop-part.next c.next_dir.result c.loop-part.invariant c.next_dir.ensures))
