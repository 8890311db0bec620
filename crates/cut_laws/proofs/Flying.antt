-- Where the flights of a run's states come from, and what an event does to the cut.
use Rattle.std.proofs.Common.{◌≡◌, ◌≢◌, ℕ, zero, suc, ◌<◌, ◌≤◌, Bool, true, not, List, [], ◌∷◌, length, Some, None, ◌⊎◌, inl, inr, refl, ap, ◌∙◌, nat_eq, arith}
use borrow.Author.Tests.{eq-eqb}
use Rattle.std.specs.Prelude.{◌↔◌, slice_get}
use Rattle.tree_laws.specs.Tree.{TreeState}
use Rattle.cut_laws.specs.declared.event.Event.{Event}
use Rattle.cut_laws.specs.declared.event.Event.TheVariants as event
use Rattle.cut_laws.specs.Rules.{IsOneOf}
use Rattle.cut_laws.specs.Closure.{every_entry, Flush, AreRaised}
use Rattle.cut_laws.specs.Machine.{Flight, MachineState, opened_for, BeginsFlight, Accepts}
use Rattle.cut_laws.specs.Runs.{IsRun, IsBegun, view_of, Concerns, durable_by}
use Rattle.cut_laws.proofs.Basics.{below_or, in_either, is_next, none_below}
use Rattle.cut_laws.proofs.Listed.{from_map}
use Rattle.cut_laws.proofs.RunFacts.{in_filter, flight_found, event_there, steady_at}

-- A flight that is one of these, whether opened or not.
pub record IsAmong (flights : List Flight) (flight : Flight) : Type 0 where
  pub was : Flight
  pub there : IsOneOf flights was
  pub commit : was.commit ≡ flight.commit
  pub flush : was.flush ≡ flight.flush
  pub concerned : was.concerned ≡ flight.concerned

among_itself : (flights : List Flight) (flight : Flight) → IsOneOf flights flight → IsAmong flights flight
among_itself flights flight one = record { was = flight; there = one; commit = refl; flush = refl; concerned = refl }

-- A flight that begins at a place, with the nodes that it concerns there.
pub record BeginsAt (first : TreeState) (events : List Event) (states : ℕ → MachineState) (place : ℕ) (flight : Flight) : Type 0 where
  pub begun : IsBegun events place flight.commit flight.flush
  pub theirs : (node : ℕ) → (flight.concerned node ≡ true) ↔ Concerns first flight.flush (view_of (states place)) node

-- What an event does to the cut: it leaves it; or a flight raises it, and is one no more; or the run ends.
pub data CutStep (first : TreeState) (old new : MachineState) (e : Event) : Type 0 where
  stays : old.cut ≡ new.cut → old.inodes ≡ new.inodes → ((events : List Event) (chosen : ℕ → Bool) → durable_by events chosen e ≡ None)
      → CutStep first old new e
  raises : (commit : ℕ) (flight : Flight) → e ≡ event.Durable commit → IsOneOf old.flights flight → flight.commit ≡ commit
      → AreRaised first old.history every_entry old.cut old.inodes (flight.flush ∷ []) new.cut new.inodes
      → ((other : Flight) → IsOneOf new.flights other → other.commit ≢ commit) → CutStep first old new e
  ends : new.flights ≡ [] → new.crashed ≡ true → CutStep first old new e

module _ (first : TreeState) where
  still : (old new : MachineState) (e : Event) → ((events : List Event) (chosen : ℕ → Bool) → durable_by events chosen e ≡ None) → (also : MachineState)
      → new ≡ also → old.cut ≡ also.cut → old.inodes ≡ also.inodes → CutStep first old new e
  still old new e none also same cuts inodes = stays (rw same cuts) (rw same inodes) none

  pub cut_step : (old : MachineState) (e : Event) (new : MachineState) → old.first ≡ first → Accepts old e new → CutStep first old new e
  cut_step old (event.Call entry) new start takes = still old new (event.Call entry) (λ events chosen. refl) _ takes.moves.1 refl refl
  cut_step old (event.CutAt commit node stamp) new start takes = still old new (event.CutAt commit node stamp) (λ events chosen. refl) _ takes.moves.2 refl refl
  cut_step old (event.Opened commit) new start takes = still old new (event.Opened commit) (λ events chosen. refl) _ takes.moves refl refl
  cut_step old (event.Fail commit) new start takes = still old new (event.Fail commit) (λ events chosen. refl) _ takes.moves refl refl
  cut_step old (event.Crash kept) new start takes =
      ends (ap (λ (s : MachineState). s.flights) takes.moves.2) (ap (λ (s : MachineState). s.crashed) takes.moves.2)
  cut_step old (event.Durable commit) new start takes =
      let found = flight_found old commit takes.moves.0 takes.moves.2 in
      raises commit takes.moves.0 refl found.0 found.1
      (rw takes.moves.4 (rw start at takes.moves.3.raised))
      (λ other one. others other (in_filter (λ (f : Flight). not (nat_eq f.commit commit)) old.flights other (rw takes.moves.4 at one)).1)
    where
      others : (other : Flight) → not (nat_eq other.commit commit) ≡ true → other.commit ≢ commit
      others other passes same = differ (eq-eqb other.commit commit same)
        where
          differ : nat_eq other.commit commit ≡ true → ⊥
          differ e = let f : not true ≡ true = rw e at passes in cc

module _ (first : TreeState) (events : List Event) (states : ℕ → MachineState) (run : IsRun first events states) where
  begins_at : (place commit : ℕ) (flush : Flush) (flight : Flight) → (states place).first ≡ first → IsBegun events place commit flush
      → BeginsFlight (states place) commit flush flight → BeginsAt first events states place flight
  begins_at place commit flush flight start begun begins = record {
    begun = rw begins.own (rw begins.number begun);
    theirs = λ node. rw begins.own (rw start at (begins.concerned node));
  }

  from_step : (place : ℕ) (e : Event) → slice_get events place ≡ Some e → Accepts (states place) e (states (suc place)) → (states place).first ≡ first
      → (flight : Flight) → IsOneOf (states (suc place)).flights flight → IsAmong (states place).flights flight ⊎ BeginsAt first events states place flight
  from_step place (event.Call entry) stands takes start flight one = inl (among_itself (states place).flights flight (rw takes.moves.1 at one))
  from_step place (event.CutAt commit node stamp) stands takes start flight one =
      elim (in_either (states place).flights (takes.moves.0 ∷ []) flight (rw takes.moves.2 at one)) [
        | inl old ↦ inl (among_itself (states place).flights flight old)
        | inr new ↦ elim new [
          | inl same ↦
              inr
              (rw same at
              (begins_at place commit (record { node = node.0; stamp = stamp.0 }) takes.moves.0 start
              (record { event = event.CutAt commit node stamp; stands = stands; begins = refl }) takes.moves.1))
          | inr nothing ↦ absurd nothing
        ]
      ]
  from_step place (event.Opened commit) stands takes start flight one =
      let from = from_map (opened_for commit) (states place).flights flight (rw takes.moves at one) in
      inl
      (record {
        was = from.0;
        there = from.1;
        commit = ap (λ (f : Flight). f.commit) from.2;
        flush = ap (λ (f : Flight). f.flush) from.2;
        concerned = ap (λ (f : Flight). f.concerned) from.2;
      })
  from_step place (event.Durable commit) stands takes start flight one =
      inl
      (among_itself (states place).flights flight
      (in_filter (λ (f : Flight). not (nat_eq f.commit commit)) (states place).flights flight (rw takes.moves.4 at one)).0)
  from_step place (event.Fail commit) stands takes start flight one = inl (among_itself (states place).flights flight (rw takes.moves at one))
  from_step place (event.Crash kept) stands takes start flight one = absurd (rw takes.moves.2 at one)

  -- a flight of the next state is one of this state, or begins here
  pub flight_from : (place : ℕ) → suc place ≤ length events → (flight : Flight) → IsOneOf (states (suc place)).flights flight
      → IsAmong (states place).flights flight ⊎ BeginsAt first events states place flight
  flight_from place le flight one =
      let there = event_there events place (omega arith) in
      from_step place there.0 there.1 (run.steps place there.0 there.1) (steady_at first events states run place (omega arith)).start flight one

  -- a flight of a later state was one at a place, or begins from there on
  pub flight_before : (place later : ℕ) → place ≤ later → later ≤ length events → (flight : Flight) → IsOneOf (states later).flights flight
      → IsAmong (states place).flights flight ⊎ ((begin : ℕ) × (place ≤ begin) × (begin < later) × IsBegun events begin flight.commit flight.flush)
  flight_before place zero le within flight one = inl (among_itself (states place).flights flight (rw (none_below place le) one))
  flight_before place (suc later) le within flight one = elim (below_or later place) [
    | inl lt ↦ inl (among_itself (states place).flights flight (rw (is_next place later le lt) one))
    | inr less ↦ elim (flight_from later within flight one) [
      | inr new ↦ inr (later, less, omega arith, new.begun)
      | inl old ↦ elim (flight_before place later less (omega arith) old.was old.there) [
        | inl among ↦
            inl
            (record {
              was = among.was;
              there = among.there;
              commit = among.commit ∙ old.commit;
              flush = among.flush ∙ old.flush;
              concerned = among.concerned ∙ old.concerned;
            })
        | inr begins ↦ inr (begins.0, begins.1, let lt = begins.2 in omega arith, rw old.flush at (rw old.commit at begins.3))
      ]
    ]
  ]
