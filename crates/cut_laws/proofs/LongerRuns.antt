-- A run is lengthened by an event; a commit alone is accepted; and to each commit all can be tied.
use Rattle.std.proofs.Common.{◌≡◌, ℕ, zero, suc, ◌<◌, ◌≤◌, Bool, true, false, cond, not, List, [], ◌∷◌, ◌++◌, length, Some, None, is_some, ◌⊎◌, inl, inr, refl, sym, ap, subst, ◌∙◌, nat_eq, arith}
use borrow.Author.Tests.{eq-eqb, lt-ltb}
use Rattle.std.specs.Prelude.{slice_get}
use Rattle.std.specs.Option.{option_map_or}
use Rattle.sfs_base.specs.declared.numbers.NodeId.{NodeId}
use Rattle.sfs_base.specs.declared.numbers.Stamp.{Stamp}
use Rattle.cut_laws.specs.declared.event.Event.{Event}
use Rattle.cut_laws.specs.declared.event.Event.TheVariants as event
use Rattle.cut_laws.specs.declared.event.Refused.{Refused}
use Rattle.cut_laws.specs.declared.event.Refused.TheVariants as refused
use Rattle.cut_laws.specs.Cut.{Cut}
use Rattle.cut_laws.specs.Rules.{IsOneOf}
use Rattle.cut_laws.specs.Closure.{every_entry, Flush, IsRaised, AreInodesAfter, none, one_more}
use Rattle.cut_laws.specs.Machine.{Flight, MachineState, is_flying, is_opened, flight_of, Refuses, BeginsFlight, IsRaisedBy, Accepts}
use Rattle.cut_laws.specs.LawsRuns.{AllAreTied, EmptyRuns, then_state, RunsLengthen, MayCommit, with_flight, committed, CommitsAreAccepted}
use Rattle.cut_laws.proofs.Basics.{no_true, none_some}
use Rattle.sfs_base.proofs.BasicOptions.{some_same}
use Rattle.sfs_base.proofs.BasicNumbers.{not_less, not_below}
use Rattle.sfs_base.proofs.BasicTruth.{not_both}

pub all_are_tied : AllAreTied
all_are_tied first events states commit flush = record {
  tied = record { own = λ other before shares. refl; theirs = λ other earlier ties before shares. refl };
  counted = record { own = λ stamp lt. refl; theirs = λ other own stamp ties before found lt. refl };
}

pub empty_runs : EmptyRuns
empty_runs first = record { begins = refl; steps = λ place e stands. none_some stands }

-- what stands in a list with one more is one of it, or that one
stands_or_last : {X : Type 0} (xs : List X) (x : X) (place : ℕ) (y : X) → slice_get (xs ++ x ∷ []) place ≡ Some y
    → ((place < length xs) × (slice_get xs place ≡ Some y)) ⊎ ((place ≡ length xs) × (x ≡ y))
stands_or_last [] x zero y stands = inr (refl, some_same stands)
stands_or_last [] x (suc place) y stands = none_some stands
stands_or_last (z ∷ xs) x zero y stands = inl (omega arith, stands)
stands_or_last (z ∷ xs) x (suc place) y stands = elim (stands_or_last xs x place y stands) [
  | inl there ↦ inl (let lt = there.0 in omega arith, there.1)
  | inr last ↦ inr (ap suc last.0, last.1)
]

module _ (states : ℕ → MachineState) (last : ℕ) (new : MachineState) where
  up_to : (place : ℕ) → place ≤ last → then_state states last new place ≡ states place
  up_to place le = ap (λ b. cond b new (states place)) (not_below last place le)

  behind : (place : ℕ) → last < place → then_state states last new place ≡ new
  behind place lt = ap (λ b. cond b new (states place)) (lt-ltb last place lt)

pub runs_lengthen : RunsLengthen
runs_lengthen first events states e new run takes = record {
  begins = up_to states (length events) new 0 (omega arith) ∙ run.begins;
  steps = λ place f stands. elim (stands_or_last events e place f stands) [
    | inl there ↦ between place f (run.steps place f there.1) there.0
    | inr at ↦ last place f at.0 at.1
  ];
}
  where
    between : (place : ℕ) (f : Event) → Accepts (states place) f (states (suc place)) → place < length events
        → Accepts (then_state states (length events) new place) f (then_state states (length events) new (suc place))
    between place f step lt =
        subst (λ (s : MachineState). Accepts s f (then_state states (length events) new (suc place)))
        (sym (up_to states (length events) new place (omega arith)))
        (rw (up_to states (length events) new (suc place) (omega arith)) step)

    last : (place : ℕ) (f : Event) → place ≡ length events → e ≡ f
        → Accepts (then_state states (length events) new place) f (then_state states (length events) new (suc place))
    last place f at same =
        subst (λ (s : MachineState). Accepts s f (then_state states (length events) new (suc place)))
        (sym (up_to states (length events) new place (omega arith) ∙ ap states at))
        (rw (behind states (length events) new (suc place) (omega arith)) (rw same at takes))

module _ (state : MachineState) (commit : ℕ) (node : NodeId) (stamp : Stamp) (flight : Flight) (may : MayCommit state commit stamp)
    (begins : BeginsFlight state commit (record { node = node.0; stamp = stamp.0 }) flight) where
  abbrev flush : Flush
  flush = record { node = node.0; stamp = stamp.0 }

  -- the flight, opened or not
  abbrev flying : Bool → Flight
  flying opened = record flight { opened = opened }

  abbrev now : Bool → MachineState
  now opened = with_flight state commit flight opened

  same : nat_eq flight.commit commit ≡ true
  same = eq-eqb flight.commit commit begins.number

  found : (opened : Bool) → flight_of (now opened) commit ≡ Some (flying opened)
  found opened = ap (λ b. cond b (Some (flying opened)) None) same

  flies : (opened : Bool) → is_flying (now opened) commit ≡ true
  flies opened = ap is_some (found opened)

  opened_is : (opened : Bool) → is_opened (now opened) commit ≡ opened
  opened_is opened = ap (λ o. option_map_or (λ (f : Flight). f.opened) o false) (found opened)

  -- a search for what is not so finds none
  none_found : {other : ℕ} (b : Bool) → b ≡ true → cond (not b) (Some commit) None ≡ Some other → ⊥
  none_found true e found_one = none_some found_one
  none_found false e found_one = cc

  not_failed : {other : ℕ} → state.failed ≡ Some other → ⊥
  not_failed failed = none_some (sym may.failed ∙ failed)

  no_flight : (other : Flight) → IsOneOf state.flights other → ⊥
  no_flight other one = rw may.flights at one

  begin_free : (why : Refused) → Refuses state (event.CutAt commit node stamp) why → ⊥
  begin_free refused.Crashed r = not_both r may.goes
  begin_free (refused.NotNext want) r = absurd r
  begin_free (refused.NotLegal reply) r = absurd r
  begin_free (refused.Stopped other) r = not_failed r.1
  begin_free (refused.Used other) r = may.number r.0
  begin_free (refused.Meets met) r = no_flight r.0.flight r.0.flies
  begin_free (refused.Late late) r = let lt = r.0 in let le = may.low in not_less lt le
  begin_free (refused.NotFlying other) r = none_some r
  begin_free (refused.NotOpened other) r = none_some r.1
  begin_free (refused.AlreadyOpened other) r = absurd r
  begin_free refused.NoMemory r = absurd r

  begins_there : Accepts state (event.CutAt commit node stamp) (now false)
  begins_there = record {
    free = begin_free;
    moves = (
      flying false,
      record { number = begins.number; own = begins.own; members = begins.members; concerned = begins.concerned; closed = refl },
      ap (λ (l : List Flight). record state { flights = l ++ flying false ∷ []; used = state.used ++ commit ∷ [] }) (sym may.flights),
    );
  }

  open_free : (why : Refused) → Refuses (now false) (event.Opened commit) why → ⊥
  open_free refused.Crashed r = not_both r may.goes
  open_free (refused.NotNext want) r = absurd r
  open_free (refused.NotLegal reply) r = absurd r
  open_free (refused.Stopped other) r = not_failed r.1
  open_free (refused.Used other) r = absurd r
  open_free (refused.Meets met) r = absurd r
  open_free (refused.Late late) r = absurd r
  open_free (refused.NotFlying other) r = none_found (is_flying (now false) commit) (flies false) r
  open_free (refused.NotOpened other) r = no_true r.0
  open_free (refused.AlreadyOpened other) r = not_both r.0 (opened_is false)
  open_free refused.NoMemory r = absurd r

  opens_there : Accepts (now false) (event.Opened commit) (now true)
  opens_there = record { free = open_free; moves = ap now (sym same) }

  end_free : (why : Refused) → Refuses (now true) (event.Durable commit) why → ⊥
  end_free refused.Crashed r = not_both r may.goes
  end_free (refused.NotNext want) r = absurd r
  end_free (refused.NotLegal reply) r = absurd r
  end_free (refused.Stopped other) r = not_failed r.1
  end_free (refused.Used other) r = absurd r
  end_free (refused.Meets met) r = absurd r
  end_free (refused.Late late) r = absurd r
  end_free (refused.NotFlying other) r = none_found (is_flying (now true) commit) (flies true) r
  end_free (refused.NotOpened other) r = none_found (is_opened (now true) commit) (opened_is true) r.1
  end_free (refused.AlreadyOpened other) r = absurd r
  end_free refused.NoMemory r = absurd r

  module _ (raised : Cut) (after : ℕ → Bool) (raise : IsRaised state.first state.history every_entry state.cut state.inodes flush raised)
      (sets : AreInodesAfter state.first state.history every_entry state.cut state.inodes flush raised after) where
    abbrev lifted : MachineState
    lifted = record (now true) { cut = raised; inodes = after }

    raised_by : IsRaisedBy (now true) (flight.flush ∷ []) lifted
    raised_by = record {
      raised = rw begins.own (one_more [] flush state.cut raised state.inodes after none raise sets);
      others = refl;
    }

    ends_there : Accepts (now true) (event.Durable commit) (committed state commit raised after)
    ends_there = record {
      free = end_free;
      moves = (
        flying true,
        lifted,
        found true,
        raised_by,
        ap (λ (l : List Flight). record lifted { flights = l }) (may.flights ∙ sym (ap (λ b. cond (not b) (flying true ∷ []) []) same)),
      );
    }

pub commits_are_accepted : CommitsAreAccepted
commits_are_accepted state commit node stamp flight raised after may begins raise sets = record {
  begins = begins_there state commit node stamp flight may begins;
  opens = opens_there state commit node stamp flight may begins;
  ends = ends_there state commit node stamp flight may begins raised after raise sets;
}
