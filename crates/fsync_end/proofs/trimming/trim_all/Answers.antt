use Rattle.std.proofs.Common.{◌<◌, map, length, sym, subst, arith}
use Rattle.tree_laws.specs.NameRow.{node_number}
use Rattle.tree_laws.specs.Tree.{TreeState}
use Rattle.mem_values.specs.Start.{given_by}
use Rattle.fsync_end.specs.Trimming.{TrimsAll}
use Rattle.fsync_end.proofs.AllTrimmed.{still_told, trims_more}
use Rattle.fsync_end.proofs.trimming.trim_all.Goals as goal

pub trim_part-requires-clause-told : goal.trim_part-requires-clause-told
trim_part-requires-clause-told g c =
    still_told (given_by c.args.shared.now) c.args.number c.loop-part.part c.args.core.now c.loop-part.core c.loop-part.core c.loop-part.invariant.trims
    c.args.stamp.0
    (map node_number c.args.members.now)
    c.requires.told

pub loop-part-preserved : goal.loop-part-preserved
loop-part-preserved g c = record {
  at = c.trim_part.ensures.at;
  trims = subst (λ n. TrimsAll (given_by c.args.shared.now) c.args.number n c.args.core.now c.trim_part.new.core) (omega arith)
      (trims_more (given_by c.args.shared.now) c.args.number c.loop-part.part c.args.core.now c.loop-part.core c.trim_part.new.core
      c.loop-part.invariant.trims c.trim_part.ensures.trims
      (subst (λ (f : TreeState). c.loop-part.part < length f.made) (sym c.requires.at.first)
      (let less = c.loop-part-test.true in let few = c.requires.cores in omega (arith, less, few))));
}
