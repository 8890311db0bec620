-- The end of a run: every image survives, and a read gives what was acknowledged.
use Rattle.std.proofs.Common.{◌≡◌, ℕ, ◌≤◌, List, [], ◌∷◌, inl, inr, sym, ap, subst, ◌∙◌}
use Rattle.sfs_dev.specs.Disk.{View}
use Rattle.tree_laws.specs.declared.history.Entry.{Entry}
use Rattle.tree_laws.specs.declared.reply.Reply.{Reply}
use Rattle.tree_laws.specs.declared.reply.Reply.TheVariants as reply
use Rattle.tree_laws.specs.History.{IsLegal}
use Rattle.tree_laws.specs.Laws.{IsSoundTree}
use Rattle.tree_laws.specs.Tree.{TreeState}
use Rattle.cut_laws.specs.Closure.{Flush}
use Rattle.cut_laws.specs.Rules.{IsOneOf}
use Rattle.cut_laws.proofs.Basics.{in_either}
use Rattle.cut_laws.proofs.CoveredRuns.{live_is_node}
use Rattle.cut_laws.proofs.Entries.{stamps_are_once}
use Rattle.cut_laws.proofs.Lists.{lists_keep, histories_are_covered}
use Rattle.crash_laws.specs.Laws.{ImagesSurvive, RefusalsRaiseNothing, RunsReadBack}
use Rattle.crash_laws.specs.Listed.{MayBeWritten, IsListedFsync, AreInOrder, AreListed}
use Rattle.crash_laws.specs.SoFar.{IsAtACut}
use Rattle.crash_laws.specs.Survives.{IsSafeImage, BeginsNoCommit}
use Rattle.crash_laws.proofs.Fsyncs.{listed_live, acknowledged_listed}
use Rattle.crash_laws.proofs.Numbers.{le_trans}
use Rattle.crash_laws.proofs.Splits.{ascend, list_splits}

-- what is listed at a moment is so at each earlier one
order_earlier : (history : List Entry) (moment later : ℕ) (flushes : List Flush) → moment ≤ later → AreInOrder history later flushes
    → AreInOrder history moment flushes
order_earlier history moment later [] le order = tt
order_earlier history moment later (flush ∷ flushes) le order =
    (λ other ack one acked by. order.0 other ack one acked (le_trans by le), order_earlier history moment later flushes le order.1)

listed_earlier : (history : List Entry) (moment later : ℕ) (flushes : List Flush) → moment ≤ later → AreListed history later flushes
    → AreListed history moment flushes
listed_earlier history moment later flushes le are = record {
  each = are.each;
  acked = λ flush ack acked by. are.acked flush ack acked (le_trans by le);
  order = order_earlier history moment later flushes le are.order;
  once = are.once;
}

-- an image at a cut is safe
safe : (share : ℕ) (first : TreeState) (history : List Entry) (moment : ℕ) (image : List ℕ) → IsSoundTree first → IsLegal first history
    → IsAtACut share first history moment image → IsSafeImage share first history moment image
safe share first history moment image is legal at = record {
  flushes = at.flushes;
  cut = at.cut;
  inodes = at.inodes;
  closed = (lists_keep first history at.flushes at.cut at.inodes is legal at.flushed).kept.closed;
  covers = histories_are_covered first history at.flushes at.cut at.inodes moment is legal at.flushed
      (λ flush one. live_is_node first history is legal flush (listed_live first history legal flush (at.listed.each flush one)))
      at.listed.acked;
  raises = list_splits first history legal moment at.flushes at.listed;
  raised = at.flushed;
  read = at.read;
}

pub images_survive : (disk : View) → ImagesSurvive disk
images_survive disk share from first history is legal so_far moment image since le left =
    let at = so_far left.0 image (le_trans since left.1) left.2 left.3 in
    safe share first history moment image is legal (record {
      flushes = at.flushes;
      cut = at.cut;
      inodes = at.inodes;
      listed = listed_earlier history moment left.0 at.flushes left.1 at.listed;
      flushed = at.flushed;
      read = at.read;
    })

-- no answer is both
not_both : (r : Reply) → MayBeWritten r → BeginsNoCommit r → ⊥
not_both reply.Ok written refused = refused
not_both reply.DiskFailed written refused = refused
not_both (reply.Stopped faults) written refused = refused
not_both _ written refused = written

pub refusals_raise_nothing : RefusalsRaiseNothing
refusals_raise_nothing first history moment flushes entry flush legal raises among fsync refused one =
    elim (in_either raises.firsts raises.others flush (subst (λ (l : List Flush). IsOneOf l flush) raises.whole one)) [
      | inl early ↦ let by = (raises.acknowledged flush).0 early in never (acknowledged_listed history flush by.0 by.1)
      | inr other ↦ never (raises.answered flush other)
    ]
  where
    never : IsListedFsync history flush → ⊥
    never is =
        let stamps : is.entry.stamp.0 ≡ entry.stamp.0 = ap (λ (f : Flush). f.stamp) (sym is.fsync.own ∙ fsync.own) in
        let same = stamps_are_once first history is.entry entry legal is.among among stamps in
        not_both entry.reply (subst (λ (e : Entry). MayBeWritten e.reply) same is.answered) refused

pub runs_read_back : (disk : View) → RunsReadBack disk
runs_read_back disk share first history flushes cut inodes is legal (inr failure) none = absurd (none failure)
runs_read_back disk share first history flushes cut inodes is legal (inl stands) none = record {
  flushes = flushes;
  cut = cut;
  inodes = inodes;
  exactly =
      λ flush. (
        λ one. let by = stands.each_acked flush one in
            (by.0, by.1),
        λ acked. listed.acked flush acked.0 acked.1 (stands.acked_by_now flush acked.0 acked.1),
      );
  ascending = ascend first history legal disk.now flushes listed.order stands.each_acked;
  once = listed.once;
  raised = stands.flushed;
  read = stands.holds.told;
}
  where
    listed : AreListed history disk.now flushes
    listed = stands.listed disk.now
