-- The entries of a legal history stand at their stamps, and their calls are a run.
use Rattle.std.proofs.Common.{◌≡◌, ℕ, zero, suc, ◌+◌, List, [], ◌∷◌, length, take, map, Some, refl, sym, ap, subst, ◌∙◌}
use Rattle.std.specs.Prelude.{slice_get}
use Rattle.tree_laws.specs.declared.history.Entry.{Entry}
use Rattle.tree_laws.specs.Tree.{TreeState}
use Rattle.tree_laws.specs.History.{tree_after, tree_after_entry, MayCome, IsLegalFrom, IsLegal}
use Rattle.cut_laws.specs.declared.event.Event.{Event}
use Rattle.cut_laws.specs.declared.event.Event.TheVariants as event
use Rattle.cut_laws.specs.declared.event.Refused.{Refused}
use Rattle.cut_laws.specs.declared.event.Refused.TheVariants as refused
use Rattle.cut_laws.specs.Machine.{start_of, Refuses, Accepts}
use Rattle.cut_laws.specs.LawsGrowth.{EntriesMayCome, StampsAreOnce}
use Rattle.cut_laws.specs.LawsRuns.{told, CallsAreARun}
use Rattle.cut_laws.proofs.Basics.{no_true, none_some}
use Rattle.sfs_base.proofs.BasicOptions.{some_same}
use Rattle.sfs_base.proofs.BasicNumbers.{suc_plus, zero_plus, plus_zero}
use Rattle.cut_laws.proofs.Durables.{place_of_one, take_next}

-- what stands at a place of a legal history may come there
may_from : (first : TreeState) (stamp : ℕ) (history : List Entry) (place : ℕ) (entry : Entry) → IsLegalFrom first stamp history
    → slice_get history place ≡ Some entry → MayCome (tree_after first (take place history)) (stamp + place) entry
may_from first stamp [] place entry legal stands = none_some stands
may_from first stamp (next ∷ history) zero entry legal stands = rw (plus_zero stamp) (rw (some_same stands) at legal.0)
may_from first stamp (next ∷ history) (suc place) entry legal stands =
    rw (suc_plus stamp place) at (may_from (tree_after_entry first next) (suc stamp) history place entry legal.1 stands)

may_at : (first : TreeState) (history : List Entry) (place : ℕ) (entry : Entry) → IsLegal first history → slice_get history place ≡ Some entry
    → MayCome (tree_after first (take place history)) place entry
may_at first history place entry legal stands = rw (zero_plus place) at (may_from first 0 history place entry legal stands)

pub entries_may_come : EntriesMayCome
entries_may_come first history entry legal one =
    let there = place_of_one history entry one in
    let may = may_at first history there.0 entry legal there.1 in
    record {
      stands = ap (slice_get history) may.stamped ∙ there.1;
      may = subst (λ (place : ℕ). MayCome (tree_after first (take place history)) place entry) (sym may.stamped) may;
    }

pub stamps_are_once : StampsAreOnce
stamps_are_once first history entry other legal one also same =
    some_same
    (sym (entries_may_come first history entry legal one).stands ∙ ap (slice_get history) same ∙ (entries_may_come first history other legal also).stands)

-- an entry behind a map to calls
called_at : (history : List Entry) (place : ℕ) (e : Event) → slice_get (map event.Call history) place ≡ Some e
    → (entry : Entry) × (slice_get history place ≡ Some entry) × (event.Call entry ≡ e)
called_at [] place e stands = none_some stands
called_at (entry ∷ history) zero e stands = (entry, refl, some_same stands)
called_at (entry ∷ history) (suc place) e stands = called_at history place e stands

taken_length : (history : List Entry) (place : ℕ) (entry : Entry) → slice_get history place ≡ Some entry → length (take place history) ≡ place
taken_length [] place entry stands = none_some stands
taken_length (next ∷ history) zero entry stands = refl
taken_length (next ∷ history) (suc place) entry stands = ap suc (taken_length history place entry stands)

module _ (first : TreeState) (history : List Entry) (legal : IsLegal first history) (place : ℕ) (entry : Entry)
    (stands : slice_get history place ≡ Some entry) where
  may : MayCome (tree_after first (take place history)) (length (take place history)) entry
  may = rw (taken_length history place entry stands) (may_at first history place entry legal stands)

  nothing_refuses : (why : Refused) → Refuses (told first history place) (event.Call entry) why → ⊥
  nothing_refuses refused.Crashed r = cc
  nothing_refuses (refused.NotNext want) r = r.0 may.stamped
  nothing_refuses (refused.NotLegal reply) r = r.0 may
  nothing_refuses (refused.Stopped commit) r = no_true r.0
  nothing_refuses (refused.Used commit) r = absurd r
  nothing_refuses (refused.Meets node) r = absurd r
  nothing_refuses (refused.Late stamp) r = absurd r
  nothing_refuses (refused.NotFlying commit) r = none_some r
  nothing_refuses (refused.NotOpened commit) r = none_some r.1
  nothing_refuses (refused.AlreadyOpened commit) r = absurd r
  nothing_refuses refused.NoMemory r = absurd r

  call_accepted : Accepts (told first history place) (event.Call entry) (told first history (suc place))
  call_accepted = record {
    free = nothing_refuses;
    moves = (may, ap (λ (h : List Entry). record (start_of first) { history = h }) (take_next history place entry stands));
  }

pub calls_are_a_run : CallsAreARun
calls_are_a_run first history legal = record {
  begins = refl;
  steps = λ place e stands.
      let at = called_at history place e stands in
      rw at.2 at (call_accepted first history legal place at.0 at.1);
}
