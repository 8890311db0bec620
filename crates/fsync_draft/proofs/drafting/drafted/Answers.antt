use Rattle.std.proofs.Common.{◌≤◌, Bool, List, ap, length, subst, ◌∙◌}
use denote.Ref.{Bor}
use Rattle.sfs_base.specs.declared.numbers.NodeId.{NodeId}
use Rattle.mem_files.specs.File.{File}
use Rattle.mem_values.specs.declared.cell.Cell.{Cell}
use Rattle.disk_nodes.specs.declared.old.OldEntry.{OldEntry}
use Rattle.dep_closure.proofs.Looked.{some_mapped}
use Rattle.flush_plan.specs.Plan.{IsPlanOf}
use Rattle.fsync_values.specs.Lending.{entries_of}
use Rattle.fsync_values.specs.Renewing.{boxes_asked}
use Rattle.fsync_draft.specs.Drafting.{seens_of}
use Rattle.fsync_draft.proofs.drafting.drafted.Goals as goal

pub returns-in-Ok-clause-drafted : goal.returns-in-Ok-clause-drafted
returns-in-Ok-clause-drafted c =
    let concern = c.args.caught.concern in
    let gathered = c.args.caught.gathered in
    let was = c.args.values.now.items in
    let change = c.in_ok-change.change in
    let entries = c.lend-old.ensures.entries ∙ ap (λ (l : List NodeId). entries_of l was) c.as_slice-nodes.ensures in
    let is_file = c.is_some.ensures ∙ some_mapped (λ (one : Bor File). one.now) c.args.file in
    record {
      change = change;
      change_is = c.in_ok-change.ensures;
      planned =
          subst (λ (b : Bool). IsPlanOf c.args.fsync.node c.args.fsync.stamp gathered concern (entries_of concern.nodes.items was)
          b change c.in-Ok.plan) is_file
          (subst (λ (l : List OldEntry). IsPlanOf c.args.fsync.node c.args.fsync.stamp gathered concern l c.is_some.result change c.in-Ok.plan) entries
          c.in-Ok.ensures.ok);
      lent = c.lend-old.ensures.values;
      boxes = subst (λ (values : List Cell). (after : List OldEntry) (nodes : List NodeId)
          → boxes_asked after nodes values ≤ length c.in_ok-spares.spares.items) c.deref-2.ensures.value
          c.in_ok-spares.ensures;
      seen = c.in_ok-seen.ensures ∙ (λ i. seens_of (c.as_slice-nodes.ensures i) (c.deref.ensures.value i));
    }
