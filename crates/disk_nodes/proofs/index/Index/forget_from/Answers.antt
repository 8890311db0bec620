use Rattle.std.proofs.Common.{sym, subst}
use Rattle.disk_nodes.specs.Indexed.{IsIndexOf}
use Rattle.disk_nodes.proofs.Fronts.{index_front}
use Rattle.disk_nodes.proofs.index.Index.forget_from.Goals as goal

pub returns : goal.returns
returns c =
    index_front c.args.blocks.now c.args.from _ _ (subst (IsIndexOf c.args.blocks.now) (sym c.self.view_is) c.requires) c.loop-place.invariant.told
    c.loop-place.invariant.full
