-- The events of a lawful log are of the first tree's cores.
use Rattle.std.proofs.Common.{◌≡◌, ◌<◌, ◌∷◌, ◌++◌, ◌∙◌, ℕ, List, [], length, Some, inl, inr, refl, ap, subst, take, Option, filter_map, append_assoc}
use Rattle.sfs_base.proofs.BasicOptions.{none_some, some_same}
use Rattle.tree_laws.specs.Tree.{TreeState}
use Rattle.tree_laws.specs.declared.history.Entry.{Entry}
use Rattle.tree_laws.specs.History.{IsLegal}
use Rattle.tree_laws.proofs.Cores.{cores_stay}
use Rattle.disk_nodes.specs.OldKept.{OldKept}
use Rattle.cut_laws.specs.Rules.{IsOneOf}
use Rattle.cut_laws.proofs.Entries.{entries_may_come}
use Rattle.cut_laws.proofs.Basics.{in_left, in_right, in_either}
use Rattle.stamp_table.specs.declared.event.Event.{Event}
use Rattle.stamp_table.specs.Events.{event_core, calls_in, called}
use Rattle.stamp_table.specs.declared.event.Event.TheVariants.{Called, Told}
use Rattle.mem_values.specs.declared.fact.Fact.{Fact}
use Rattle.mem_values.specs.Account.{Commitment, commit_told, account_of}
use Rattle.mem_values.specs.declared.fact.Fact.TheVariants.{Committed, Trimmed}
use Rattle.mem_values.specs.Facts.{MayStandAfter, AreLawfulBehind, IsLawfulLog}
use Rattle.fsync_gather.proofs.Rising.{from_given, to_given}

-- an event that tells a commit is of the commit's core
told_core : (event : Event Fact) (commit : Commitment) → commit_told event ≡ Some commit → event_core event ≡ commit.core
told_core (Called entry) commit is = absurd (none_some is)
told_core (Told core (Committed number node stamp members held)) commit is = ap (λ (c : Commitment). c.core) (some_same is)
told_core (Told core (Trimmed number part)) commit is = absurd (none_some is)

-- each entry of a legal history is of a core
pub entry_owned : (first : TreeState) (history : List Entry) → IsLegal first history → (entry : Entry) → IsOneOf history entry
    → entry.core.0 < length first.made
entry_owned first history legal entry one =
    subst (λ n. entry.core.0 < n) (cores_stay first (take entry.stamp.0 history)) (entries_may_come first history entry legal one).may.core

module _ (given : ℕ → Option OldKept) (first : TreeState) (whole : List (Event Fact)) (legal : IsLegal first (calls_in whole)) where
  -- a call of a front is of a core
  call_owned : (done rest : List (Event Fact)) → done ++ rest ≡ whole → (entry : Entry) → IsOneOf (calls_in done) entry → entry.core.0 < length first.made
  call_owned done rest is entry one =
      let from = from_given called done entry one in
      entry_owned first (calls_in whole) legal entry
      (to_given called whole from.0 entry (subst (λ (l : List (Event Fact)). IsOneOf l from.0) is (in_left done rest from.0 from.1)) from.2)

  -- the commits of some events are of cores
  abbrev AreOwned : List (Event Fact) → Type 0
  AreOwned done = (commit : Commitment) → IsOneOf (filter_map commit_told done) commit → commit.core < length first.made

  -- an event that may stand behind such ones is
  next_owned : (done log : List (Event Fact)) (event : Event Fact) → done ++ event ∷ log ≡ whole → MayStandAfter given first (account_of done) event
      → AreOwned done → event_core event < length first.made
  next_owned done log (Called entry) is may owned =
      call_owned (done ++ Called entry ∷ []) log (append_assoc done (Called entry ∷ []) log ∙ is) entry
      (to_given called (done ++ Called entry ∷ []) (Called entry) entry (in_right done (Called entry ∷ []) (Called entry) (inl refl)) refl)
  next_owned done log (Told core (Committed number node stamp members held)) is may owned =
      subst (λ n. n < length first.made) may.own.own
      (call_owned done (Told core (Committed number node stamp members held) ∷ log) is may.own.entry may.own.among)
  next_owned done log (Told core (Trimmed number part)) is may owned = subst (λ n. n < length first.made) may.own (owned may.commit may.among)

  -- so the commits with it are
  more_owned : (done : List (Event Fact)) (event : Event Fact) → AreOwned done → event_core event < length first.made → AreOwned (done ++ event ∷ [])
  more_owned done event owned own commit one =
      let from = from_given commit_told (done ++ event ∷ []) commit one in
      elim (in_either done (event ∷ []) from.0 from.1) [
        | inl before ↦ owned commit (to_given commit_told done from.0 commit before from.2)
        | inr here ↦ subst (λ n. n < length first.made) (told_core event commit (ap commit_told (itself event from.0 here) ∙ from.2)) own
      ]
    where
      itself : (event other : Event Fact) → IsOneOf (event ∷ []) other → event ≡ other
      itself event other (inl same) = same
      itself event other (inr none) = absurd none

  owned_behind : (done log : List (Event Fact)) → done ++ log ≡ whole → AreLawfulBehind given first done log → AreOwned done → (event : Event Fact)
      → IsOneOf log event → event_core event < length first.made
  owned_behind done [] is lawful owned event one = absurd one
  owned_behind done (next ∷ log) is lawful owned event (inl same) =
      subst (λ (e : Event Fact). event_core e < length first.made) same (next_owned done log next is lawful.0 owned)
  owned_behind done (next ∷ log) is lawful owned event (inr one) =
      owned_behind (done ++ next ∷ []) log (append_assoc done (next ∷ []) log ∙ is) lawful.1
      (more_owned done next owned (next_owned done log next is lawful.0 owned)) event one

  -- each event is of a core
  pub event_owned : IsLawfulLog given first whole → (event : Event Fact) → IsOneOf whole event → event_core event < length first.made
  event_owned lawful event one = owned_behind [] whole refl lawful (λ commit none. absurd none) event one
