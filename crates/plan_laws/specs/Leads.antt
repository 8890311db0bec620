-- What the plan of an fsync comes to.
use Rattle.std.specs.Prelude.{◌≡◌, ℕ, ◌==◌, ◌&&◌, not, Bool, List, map}
use Rattle.sfs_base.specs.Listed.{is_listed}
use Rattle.tree_laws.specs.declared.history.Entry.{Entry}
use Rattle.tree_laws.specs.NameRow.{node_number}
use Rattle.tree_laws.specs.Tree.{TreeState}
use Rattle.look_laws.specs.Fit.{FindsRight}
use Rattle.look_laws.specs.Made.{Found, AreMoved}
use Rattle.dep_closure.specs.Gathered.{look_of}
use Rattle.disk_change.specs.Nodes.{enter_node}
use Rattle.disk_nodes.specs.declared.old.OldEntry.{OldEntry}
use Rattle.commit_laws.specs.CommitOfPlan.{CommitPlan, change_planned}
use Rattle.cut_laws.specs.Closure.{every_entry, Flush, IsRaised, AreInodesAfter}
use Rattle.cut_laws.specs.Cut.{Cut}
use Rattle.flush_laws.specs.Planned.{IsPlanAt}
use Rattle.flush_plan.specs.Concerned.{HaveGoodNames}
use Rattle.flush_plan.specs.Moved.{cuts_after, found_by}
use Rattle.flush_plan.specs.Plan.{files_written, is_written}
use Rattle.flush_plan.specs.declared.plans.FsyncPlan.{FsyncPlan}
use Rattle.plan_laws.specs.Plans.{planned_flush, Sources, IsPlanFrom}

-- The plan of an fsync leads to the cut that the fsync raises and to the nodes with an inode after it: its change of the disk is that of a
-- commit's plan, which leads there and whose nets have rows with names.
pub record LeadsToCut (first : TreeState) (history : List Entry) (cut : Cut) (inodes : ℕ → Bool) (flush : Flush) (entries : List OldEntry)
    (plan : FsyncPlan) : Type 0 where
  pub raised : Cut
  pub after : ℕ → Bool
  pub commit : CommitPlan
  pub raises : IsRaised first history every_entry cut inodes flush raised
  pub inodes_after : AreInodesAfter first history every_entry cut inodes flush raised after
  pub made : plan.change ≡ change_planned commit
  pub leads : IsPlanAt first history cut inodes flush raised after (map node_number plan.nodes.items) entries commit
  pub names : HaveGoodNames commit.nets

-- the commit that is made of what an fsync was planned from
abbrev pub commit_made_of : (from : Sources) → IsPlanFrom from → CommitPlan
commit_made_of from plans = record {
  old = from.old;
  nets = from.concern.nets.items;
  files = files_written (is_written from.gathered plans.enter from.start.0 from.below.0) from.change;
  enter = plans.enter;
  leave = from.plan.leave.items;
}

-- what is found, but that the root is not named
abbrev pub but_root : Found → Found
but_root found = record { named = λ node. not (node == 0) && found.named node; directory = found.directory }

-- what an fsync found of its nodes, but that the root is not named
abbrev pub found_from : Sources → Found
found_from from = but_root (found_by from.old from.concern.nets.items from.is_file)

-- The plan of an fsync leads to the cut by the commit that is made of what it was planned from; and what was found of its nodes is so at that cut,
-- and moves the inodes.
pub record LeadsWith (first : TreeState) (history : List Entry) (cut : Cut) (inodes : ℕ → Bool) (from : Sources) (plans : IsPlanFrom from) : Type 0 where
  pub leads : LeadsToCut first history cut inodes (planned_flush from.start from.below) from.entries from.plan
  pub commit_is : leads.commit ≡ commit_made_of from plans
  pub finds : FindsRight first history every_entry leads.raised (look_of from.start from.below from.gathered) (found_from from)
  pub moved : AreMoved (look_of from.start from.below from.gathered) (cuts_after from.below from.gathered from.concern) (found_from from)
      (is_listed (map enter_node plans.enter)) (is_listed (map node_number from.plan.leave.items))
