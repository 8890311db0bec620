-- One more entry: what a crash may have left so far, and what stands.
use Rattle.std.proofs.Common.{◌≡◌, ℕ, ◌≤◌, Bool, List, [], ◌∷◌, ◌++◌, None, inl, inr, sym, ◌∙◌}
use Rattle.sfs_base.proofs.BasicNumbers.{le_itself}
use Rattle.sfs_base.proofs.BasicOptions.{none_some}
use Rattle.sfs_dev.specs.Disk.{View}
use Rattle.tree_laws.specs.declared.history.Entry.{Entry}
use Rattle.tree_laws.specs.Tree.{TreeState}
use Rattle.cut_laws.specs.Closure.{Flush}
use Rattle.cut_laws.specs.Covers.{IsAcknowledged}
use Rattle.cut_laws.specs.Cut.{Cut, tree_at_cut}
use Rattle.cut_laws.proofs.Basics.{below_or}
use Rattle.image_laws.specs.Image.{IsReadAsTree}
use Rattle.crash_laws.specs.Laws.{CallsKeep, StoppedKeep}
use Rattle.crash_laws.specs.Listed.{AreListed}
use Rattle.crash_laws.specs.SoFar.{IsAtACut, SoFar, HoldsTree, Stands, StandsSoFar}
use Rattle.crash_laws.specs.Wrote.{WroteNothing}
use Rattle.crash_laws.proofs.Fsyncs.{HasLast, acknowledged_still, acknowledged_in, own_moment}
use Rattle.crash_laws.proofs.Growth.{flushed_on, read_on, at_cut_on}
use Rattle.crash_laws.proofs.Longer.{listed_on}
use Rattle.crash_laws.proofs.Numbers.{le_trans, less_or_same}

-- an entry without a moment was not acknowledged
never_acked : (entry : Entry) → entry.ack ≡ None → (moment : ℕ) (flush : Flush) (ack : ℕ) → IsAcknowledged (entry ∷ []) flush ack → ack ≤ moment → ⊥
never_acked entry none moment flush ack is le = none_some (sym none ∙ own_moment entry flush ack is)

pub stopped_keep : (disk : View) → StoppedKeep disk
stopped_keep disk share from first history entry is legal none so_far k image since le left =
    at_cut_on (record { sound = is; legal = legal }) share k image (never_acked entry none k) (so_far k image since le left)

-- what holds a tree holds another that each image is read as too, and so does a disk to which nothing was written
pub holds_on : (share : ℕ) (tree other : TreeState) (disk : View) → ((image : List ℕ) → IsReadAsTree image share tree → IsReadAsTree image share other)
    → HoldsTree share tree disk → HoldsTree share other disk
holds_on share tree other disk read holds = record {
  left = λ image left. read image (holds.left image left);
  told = λ content told. read content (holds.told content told);
}

holds_later : (share : ℕ) (tree : TreeState) (old new : View) → WroteNothing old new → HoldsTree share tree old → HoldsTree share tree new
holds_later share tree old new wrote holds = record {
  left = λ image left. holds.left image (wrote.moments new.now image wrote.keeps.later (le_itself new.now) left);
  told = λ content told. holds.told content (sym wrote.content ∙ told);
}

-- an entry that was not acknowledged, and nothing written
module _ {share from : ℕ} {first : TreeState} {history : List Entry} {entry : Entry} {flushes : List Flush}
    {cut : Cut} {inodes : ℕ → Bool} {old new : View}
    (last : HasLast first history entry) (none : entry.ack ≡ None) (wrote : WroteNothing old new)
    (was : StandsSoFar share from first history flushes cut inodes old) where
  abbrev one_longer : List Entry
  one_longer = history ++ entry ∷ []

  stay : (k : ℕ) (image : List ℕ) → IsAtACut share first history k image → IsAtACut share first one_longer k image
  stay k image = at_cut_on last share k image (never_acked entry none k)

  stay_listed : (moment : ℕ) → AreListed one_longer moment flushes
  stay_listed moment = listed_on history entry moment (never_acked entry none moment) flushes (was.stands.listed moment)

  call_so_far : SoFar share from first one_longer new
  call_so_far k image since le left = elim (below_or k old.now) [
    | inl before ↦ stay k image (was.so_far k image since (less_or_same before) (wrote.keeps.past k image before left))
    | inr later ↦ stay k image (record {
      flushes = flushes;
      cut = cut;
      inodes = inodes;
      listed = was.stands.listed k;
      flushed = was.stands.flushed;
      read = was.stands.holds.left image (wrote.moments k image later le left);
    })
  ]

  call_stands : Stands share first one_longer flushes cut inodes new
  call_stands = record {
    flushed = flushed_on last (stay_listed 0).each was.stands.flushed;
    listed = stay_listed;
    each_acked = λ flush one. let by = was.stands.each_acked flush one in
        (by.0, acknowledged_still history entry flush by.0 by.1, le_trans by.2 wrote.keeps.later);
    acked_by_now = λ flush ack acked. elim (acknowledged_in history entry flush ack acked) [
      | inl before ↦ le_trans (was.stands.acked_by_now flush ack before) wrote.keeps.later
      | inr mine ↦ absurd (never_acked entry none ack flush ack mine (le_itself ack))
    ];
    holds = holds_on share (tree_at_cut first history cut) (tree_at_cut first one_longer cut) new
        (read_on last (stay_listed 0).each was.stands.flushed share)
        (holds_later share (tree_at_cut first history cut) old new wrote was.stands.holds);
  }

pub calls_keep : (old new : View) → CallsKeep old new
calls_keep old new share from first history entry flushes cut inodes is legal none wrote was =
    let last : HasLast first history entry = record { sound = is; legal = legal } in
    record { so_far = call_so_far last none wrote was; stands = call_stands last none wrote was }
