use Rattle.std.proofs.Common.{◌^◌, ◌-◌, ◌++◌, ◌∷◌, [], Some, ◌∙◌, sym, ap, subst}
use Rattle.dep_closure.specs.declared.gathered.DirectoryChanges.{DirectoryChanges}
use Rattle.fsync_gather.proofs.Directories.{MergedSoFar, merged_more, all_merged, all_own}
use Rattle.fsync_gather.proofs.merging.merge_all.Goals as goal

pub loop-dir-preserved : goal.loop-dir-preserved
loop-dir-preserved c =
    let one : DirectoryChanges = record { dir = c.in-Some.dir; changes = c.in_ok-changes.changes } in
    let items = c.push.ensures.items ∙ ap (λ l. l ++ one ∷ []) c.in_ok-reserve.ensures.items in
    subst (MergedSoFar c.args.parts.now (Some c.in-Some.dir)) (sym items)
    (merged_more c.args.parts.now c.loop-dir.after c.loop-dir.logs.items one c.requires.own c.in-Some.ensures
    (record { all = 2 ^ 64 - 1; below = c.requires.ends; merge = c.in_ok-changes.ensures }) c.loop-dir.invariant)

pub returns-clause-merged : goal.returns-clause-merged
returns-clause-merged c = all_merged c.args.parts.now c.loop-dir.after c.loop-dir.logs.items c.in_default.ensures c.loop-dir.invariant

pub returns-clause-own : goal.returns-clause-own
returns-clause-own c = all_own c.loop-dir.logs.items c.loop-dir.invariant.own
