-- An fsync with the device calls of its commit.
use Rattle.std.proofs.Common.{◌≡◌, ℕ, ◌<◌, ◌≤◌, Bool, List, [], ◌∷◌, ◌++◌, Option, Some, inl, inr, refl, sym, subst, ◌∙◌, arith}
use Rattle.sfs_dev.specs.Disk.{View}
use Rattle.tree_laws.specs.declared.history.Entry.{Entry}
use Rattle.tree_laws.specs.declared.reply.Reply.TheVariants as reply
use Rattle.tree_laws.specs.Tree.{TreeState}
use Rattle.cut_laws.specs.Closure.{every_entry, Flush, AreFlushed, one_more}
use Rattle.cut_laws.specs.Covers.{IsAcknowledged}
use Rattle.cut_laws.specs.Cut.{Cut, tree_at_cut}
use Rattle.cut_laws.specs.Rules.{IsOneOf}
use Rattle.cut_laws.proofs.Basics.{below_or, in_right, in_either}
use Rattle.image_laws.specs.Image.{IsReadAsTree}
use Rattle.crash_laws.specs.Laws.{CommitsKeep, FailuresKeep}
use Rattle.crash_laws.specs.Listed.{MayBeWritten, IsAcknowledgedBy, AreListed}
use Rattle.crash_laws.specs.SoFar.{IsAtACut, SoFar, Stands, StandsSoFar}
use Rattle.crash_laws.specs.Wrote.{MakesDurable, MakesIfDurable, Wrote, IsBeforeDurable, RaisesNext}
use Rattle.crash_laws.proofs.Fsyncs.{HasLast, acknowledged_still, acknowledged_in, own_moment, own_reply}
use Rattle.crash_laws.proofs.Growth.{flushed_on, read_on, at_cut_on}
use Rattle.crash_laws.proofs.Longer.{listed_more}
use Rattle.crash_laws.proofs.Numbers.{le_trans, less_or_same}
use Rattle.crash_laws.proofs.Steps.{holds_on}

-- where an entry is acknowledged, that is as its commit is durable
abbrev AcksWhenDurable : Entry → Option ℕ → Type 0
AcksWhenDurable entry durable = (flush : Flush) (ack : ℕ) → IsAcknowledged (entry ∷ []) flush ack → durable ≡ Some ack

module _ {share from : ℕ} {first : TreeState} {history : List Entry} {entry : Entry} {flushes : List Flush} {flush : Flush}
    {cut raised : Cut} {inodes after : ℕ → Bool} {old new : View} {durable : Option ℕ}
    (last : HasLast first history entry) (may : MayBeWritten entry.reply) (acks : AcksWhenDurable entry durable)
    (raises : RaisesNext first history cut inodes entry flush raised after)
    (wrote : Wrote share (tree_at_cut first history cut) (tree_at_cut first history raised) old new durable)
    (was : StandsSoFar share from first history flushes cut inodes old) where
  abbrev longer : List Entry
  longer = history ++ entry ∷ []

  made : (ack : ℕ) → durable ≡ Some ack → MakesDurable share (tree_at_cut first history raised) old new ack
  made ack is = subst (MakesIfDurable share (tree_at_cut first history raised) old new) is wrote.makes

  -- before the commit is durable its fsync is not acknowledged
  not_before : (k : ℕ) → k < old.now → (other : Flush) (ack : ℕ) → IsAcknowledged (entry ∷ []) other ack → ack ≤ k → ⊥
  not_before k before other ack mine le = let since = (made ack (acks other ack mine)).not_before in omega arith

  not_yet : (k : ℕ) → IsBeforeDurable durable k → (other : Flush) (ack : ℕ) → IsAcknowledged (entry ∷ []) other ack → ack ≤ k → ⊥
  not_yet k before other ack mine le =
      let lt : k < ack = subst (λ (d : Option ℕ). IsBeforeDurable d k) (acks other ack mine) before in
      omega arith

  -- each fsync before it was acknowledged earlier
  acked_before : (ack : ℕ) → IsAcknowledged (entry ∷ []) flush ack → (other : Flush) → IsOneOf flushes other → IsAcknowledgedBy history ack other
  acked_before ack mine other one =
      let by = was.stands.each_acked other one in
      (by.0, by.1, le_trans by.2 (made ack (acks flush ack mine)).not_before)

  listed : (moment : ℕ) → AreListed longer moment (flushes ++ flush ∷ [])
  listed moment = listed_more last raises.fsync may moment flushes (was.stands.listed moment) acked_before

  flushed : AreFlushed first history every_entry (flushes ++ flush ∷ []) raised after
  flushed = one_more flushes flush cut raised inodes after was.stands.flushed raises.raise raises.inodes_after

  flushed_longer : AreFlushed first longer every_entry (flushes ++ flush ∷ []) raised after
  flushed_longer = flushed_on last (listed 0).each flushed

  read_longer : (image : List ℕ) → IsReadAsTree image share (tree_at_cut first history raised) → IsReadAsTree image share (tree_at_cut first longer raised)
  read_longer = read_on last (listed 0).each flushed share

  stay : (k : ℕ) (image : List ℕ) → ((other : Flush) (ack : ℕ) → IsAcknowledged (entry ∷ []) other ack → ack ≤ k → ⊥) → IsAtACut share first history k image
      → IsAtACut share first longer k image
  stay k image none = at_cut_on last share k image none

  -- an image of the commit is at the raised cut, or at the one before
  at_raised : (k : ℕ) (image : List ℕ) → IsReadAsTree image share (tree_at_cut first history raised) → IsAtACut share first longer k image
  at_raised k image read = record {
    flushes = flushes ++ flush ∷ [];
    cut = raised;
    inodes = after;
    listed = listed k;
    flushed = flushed_longer;
    read = read_longer image read;
  }

  at_cut : (k : ℕ) (image : List ℕ) → IsReadAsTree image share (tree_at_cut first history cut) → IsAtACut share first history k image
  at_cut k image read = record {
    flushes = flushes;
    cut = cut;
    inodes = inodes;
    listed = was.stands.listed k;
    flushed = was.stands.flushed;
    read = read;
  }

  commit_so_far : SoFar share from first longer new
  commit_so_far k image since le left = elim (below_or k old.now) [
    | inl before ↦ stay k image (not_before k before) (was.so_far k image since (less_or_same before) (wrote.keeps.past k image before left))
    | inr later ↦ elim (wrote.moments k image later le left) [
      | inl read ↦ at_raised k image read
      | inr read ↦ stay k image (not_yet k read.1) (at_cut k image read.0)
    ]
  ]

  -- an fsync answered Ok
  module _ (ack : ℕ) (ok : entry.reply ≡ reply.Ok) (moment : entry.ack ≡ Some ack) (is : durable ≡ Some ack) where
    own_by_now : IsAcknowledgedBy longer new.now flush
    own_by_now = (
      ack,
      record {
        entry = entry;
        among = in_right history (entry ∷ []) entry (inl refl);
        node = raises.fsync.node;
        asked = raises.fsync.asked;
        own = raises.fsync.own;
        answered = ok;
        moment = moment;
      },
      (made ack is).not_after,
    )

    commit_stands : Stands share first longer (flushes ++ flush ∷ []) raised after new
    commit_stands = record {
      flushed = flushed_longer;
      listed = listed;
      each_acked = λ other one. elim (in_either flushes (flush ∷ []) other one) [
        | inl before ↦ let by = was.stands.each_acked other before in (by.0, acknowledged_still history entry other by.0 by.1, le_trans by.2 wrote.keeps.later)
        | inr behind ↦ elim behind [ inl same ↦ rw same at own_by_now | inr none ↦ absurd none ]
      ];
      acked_by_now = λ other late acked. elim (acknowledged_in history entry other late acked) [
        | inl before ↦ le_trans (was.stands.acked_by_now other late before) wrote.keeps.later
        | inr mine ↦ (made late (acks other late mine)).not_after
      ];
      holds = holds_on share (tree_at_cut first history raised) (tree_at_cut first longer raised) new read_longer (made ack is).holds;
    }

pub commits_keep : (old new : View) → CommitsKeep old new
commits_keep old new share from durable first history entry flushes flush cut raised inodes after is legal ok acked raises wrote was =
    let last : HasLast first history entry = record { sound = is; legal = legal } in
    let may : MayBeWritten entry.reply = subst MayBeWritten (sym ok) tt in
    let acks : AcksWhenDurable entry (Some durable) = λ other ack mine. sym acked ∙ own_moment entry other ack mine in
    record {
      so_far = commit_so_far last may acks raises wrote was;
      stands = commit_stands last may acks raises wrote was durable ok acked refl;
    }

pub failures_keep : (old new : View) → FailuresKeep old new
failures_keep old new share from first history entry flushes flush cut raised inodes after is legal failed raises wrote was =
    commit_so_far (record { sound = is; legal = legal }) (subst MayBeWritten (sym failed) tt)
    (λ other ack mine. absurd (not_ok (sym failed ∙ own_reply entry other ack mine)))
    raises wrote was
  where
    not_ok : reply.DiskFailed ≡ reply.Ok → ⊥
    not_ok same = cc
