-- What is held over a whole history in each state of a run that leads to it.
use Rattle.std.proofs.Common.{◌≡◌, ℕ, zero, suc, ◌≤◌, Bool, true, List, [], ◌∷◌, ◌++◌, length, take, Some, is_some, inl, inr, refl, sym, ap, subst, ◌∙◌, nat_eq, not, arith}
use Rattle.std.specs.Prelude.{slice_get}
use Rattle.std.specs.FinMap.{get, empty}
use Rattle.tree_laws.specs.declared.history.Entry.{Entry}
use Rattle.tree_laws.specs.Tree.{TreeState, is_alive}
use Rattle.tree_laws.specs.History.{tree_after, IsLegal}
use Rattle.tree_laws.specs.Laws.{IsSoundTree}
use Rattle.cut_laws.specs.declared.event.Event.{Event}
use Rattle.cut_laws.specs.declared.event.Event.TheVariants as event
use Rattle.cut_laws.specs.Cut.{Cut, cut_of}
use Rattle.cut_laws.specs.Rules.{IsOneOf}
use Rattle.cut_laws.specs.Closure.{every_entry, Flush, HasLiveNode, AreRaised, none, one_more}
use Rattle.cut_laws.specs.Machine.{Flight, MachineState, opened_for, flushes_kept_by, IsRaisedBy, Accepts}
use Rattle.cut_laws.specs.Runs.{IsRun, AreAlive}
use Rattle.cut_laws.proofs.Basics.{in_either, in_left, in_right}
use Rattle.cut_laws.proofs.Lists.{first_kept_well}
use Rattle.cut_laws.proofs.Views.{IsHeld}
use Rattle.cut_laws.proofs.Listed.{from_map}
use Rattle.cut_laws.proofs.RunFacts.{IsPrefix, IsSteady, in_filter, flight_found, kept_flush, cuts_stay_low, event_there, steady_at, prefix_later}
use Rattle.cut_laws.proofs.Prefix.{take_take}
use Rattle.cut_laws.proofs.Alike.{inodes_alike}
use Rattle.cut_laws.proofs.Prefixes.{prefixes_count}
use Rattle.cut_laws.proofs.RaisesHold.{raises_hold}

-- at the cut 0, with the nodes of the first tree, it is held
pub first_held : (first : TreeState) (history : List Entry) → IsSoundTree first → IsLegal first history
    → IsHeld first history empty (λ node. is_some (get first.nodes node))
first_held first history is legal = (first_kept_well first history is legal).held

-- fsyncs of the first entries keep it over the whole history
pub flushes_hold : (first : TreeState) (history : List Entry) (n : ℕ) → IsSoundTree first → IsLegal first history → n ≤ length history
    → {cut : Cut} {inodes : ℕ → Bool} {flushes : List Flush} {raised : Cut} {after : ℕ → Bool}
    → AreRaised first (take n history) every_entry cut inodes flushes raised after
    → ((node : ℕ) → cut_of cut node ≤ n)
    → ((flush : Flush) → IsOneOf flushes flush → flush.stamp ≤ n)
    → ((flush : Flush) → IsOneOf flushes flush → HasLiveNode first history flush)
    → IsHeld first history cut inodes
    → IsHeld first history raised after
flushes_hold first history n is legal le none low stamps live held = held
flushes_hold first history n is legal le (one_more flushes flush before raised inodes_before after was raise sets) low stamps live held =
    let older = λ (other : Flush) (one : IsOneOf flushes other). in_left flushes (flush ∷ []) other one in
    let own : IsOneOf (flushes ++ flush ∷ []) flush = in_right flushes (flush ∷ []) flush (inl refl) in
    let low_before = cuts_stay_low first (take n history) every_entry n was low (λ other one. stamps other (older other one)) in
    let held_before =
    flushes_hold first history n is legal le was low (λ other one. stamps other (older other one)) (λ other one. live other (older other one)) held in
    let alike = prefixes_count first history n flush before inodes_before is legal le (stamps flush own) (live flush own) in
    raises_hold first history n flush before raised inodes_before after is legal low_before (stamps flush own) (live flush own) held_before
    ((alike.raises raised).0 raise) (inodes_alike first flush _ _ raised after alike raise sets)

module _ (first : TreeState) (events : List Event) (states : ℕ → MachineState) (is : IsSoundTree first) (run : IsRun first events states)
    (alive : AreAlive first events states) (last : ℕ) (within : last ≤ length events) where
  -- the history to which the run leads
  abbrev pub whole : List Entry
  whole = (states last).history

  prefix_at : (place : ℕ) → place ≤ last → IsPrefix (states place).history whole
  prefix_at place le = prefix_later first events states run place last le within

  legal_whole : IsLegal first whole
  legal_whole = (steady_at first events states run last within).legal

  -- what is alive after some entries of a state's history is so after those of the whole
  pub live_whole : (place : ℕ) → place ≤ last → (flush : Flush) → flush.stamp ≤ length (states place).history
      → is_alive (tree_after first (take flush.stamp (states place).history)) flush.node ≡ true → HasLiveNode first whole flush
  live_whole place le flush low live =
      rw (ap (take flush.stamp) (sym (prefix_at place le).first_part) ∙ take_take whole flush.stamp (length (states place).history) low) at live

  abbrev AreLive : MachineState → Type 0
  AreLive state = (flight : Flight) → IsOneOf state.flights flight → HasLiveNode first whole flight.flush

  live_step : (place : ℕ) (e : Event) → suc place ≤ last → slice_get events place ≡ Some e → Accepts (states place) e (states (suc place))
      → IsSteady first (states (suc place)) → AreLive (states place) → AreLive (states (suc place))
  live_step place (event.Call entry) le stands takes steady was = rw takes.moves.1 was
  live_step place (event.CutAt commit node stamp) le stands takes steady was =
      subst AreLive (sym takes.moves.2) (λ flight one. elim (in_either (states place).flights (takes.moves.0 ∷ []) flight one) [
        | inl old ↦ was flight old
        | inr new ↦ elim new [
          | inl same ↦ subst (λ (f : Flight). HasLiveNode first whole f.flush) same (subst (HasLiveNode first whole) (sym takes.moves.1.own) own)
          | inr nothing ↦ absurd nothing
        ]
      ])
    where
      flush : Flush
      flush = record { node = node.0; stamp = stamp.0 }

      own : HasLiveNode first whole flush
      own =
          live_whole place (omega arith) flush low (alive place commit flush (record { event = event.CutAt commit node stamp; stands = stands; begins = refl }))
        where
          new_one : IsOneOf (states (suc place)).flights takes.moves.0
          new_one = rw takes.moves.2 (in_right (states place).flights (takes.moves.0 ∷ []) takes.moves.0 (inl refl))

          low : stamp.0 ≤ length (states place).history
          low = rw takes.moves.2 at (rw takes.moves.1.own at (steady.stamps takes.moves.0 new_one))
  live_step place (event.Opened commit) le stands takes steady was =
      subst AreLive (sym takes.moves)
      (λ flight one. let from = from_map (opened_for commit) (states place).flights flight one in
      subst (λ (f : Flight). HasLiveNode first whole f.flush) from.2 (was from.0 from.1))
  live_step place (event.Durable commit) le stands takes steady was =
      rw takes.moves.4 (λ flight one. was flight (in_filter (λ (f : Flight). not (nat_eq f.commit commit)) (states place).flights flight one).0)
  live_step place (event.Fail commit) le stands takes steady was = rw takes.moves was
  live_step place (event.Crash kept) le stands takes steady was = rw takes.moves.2 (λ flight one. absurd one)

  -- the flights of each state are of nodes that are alive at their stamps
  pub flights_live : (place : ℕ) → place ≤ last → AreLive (states place)
  flights_live zero le = rw run.begins (λ flight one. absurd one)
  flights_live (suc place) le =
      let there = event_there events place (omega arith) in
      live_step place there.0 le there.1 (run.steps place there.0 there.1) (steady_at first events states run (suc place) (omega arith))
      (flights_live place (omega arith))

  -- fsyncs of flights that raise a state's cut keep it
  pub flights_hold : (place : ℕ) → place ≤ last → {flushes : List Flush} {cut : Cut} {inodes : ℕ → Bool}
      → AreRaised first (states place).history every_entry (states place).cut (states place).inodes flushes cut inodes
      → ((flush : Flush) → IsOneOf flushes flush → (flight : Flight) × IsOneOf (states place).flights flight × (flight.flush ≡ flush))
      → IsHeld first whole (states place).cut (states place).inodes
      → IsHeld first whole cut inodes
  flights_hold place le {flushes} {cut} {inodes} raised from held =
      let steady = steady_at first events states run place (omega arith) in
      flushes_hold first whole (length (states place).history) is legal_whole (prefix_at place le).shorter
      (rw (prefix_at place le).first_part raised) steady.cuts (λ flush one. let f = from flush one in rw f.2 at (steady.stamps f.0 f.1))
      (λ flush one. let f = from flush one in rw f.2 at (flights_live place le f.0 f.1)) held

  abbrev IsHeldIn : MachineState → Type 0
  IsHeldIn state = IsHeld first whole state.cut state.inodes

  raised_held : (place : ℕ) → place ≤ last → (flushes : List Flush) (raised : MachineState) → IsRaisedBy (states place) flushes raised
      → ((flush : Flush) → IsOneOf flushes flush → (flight : Flight) × IsOneOf (states place).flights flight × (flight.flush ≡ flush)) → IsHeldIn (states place)
      → IsHeldIn raised
  raised_held place le flushes raised by from held =
      flights_hold place le (rw (steady_at first events states run place (omega arith)).start at by.raised) from held

  held_step : (place : ℕ) (e : Event) → place ≤ last → Accepts (states place) e (states (suc place)) → IsHeldIn (states place) → IsHeldIn (states (suc place))
  held_step place (event.Call entry) le takes held = rw takes.moves.1 held
  held_step place (event.CutAt commit node stamp) le takes held = rw takes.moves.2 held
  held_step place (event.Opened commit) le takes held = rw takes.moves held
  held_step place (event.Durable commit) le takes held =
      subst IsHeldIn (sym takes.moves.4) (raised_held place le (takes.moves.0.flush ∷ []) takes.moves.1 takes.moves.3 (λ flush one. elim one [
        | inl same ↦ (takes.moves.0, (flight_found (states place) commit takes.moves.0 takes.moves.2).0, same)
        | inr nothing ↦ absurd nothing
      ]) held)
  held_step place (event.Fail commit) le takes held = rw takes.moves held
  held_step place (event.Crash kept) le takes held =
      rw takes.moves.2
      (raised_held place le (flushes_kept_by (states place) kept.items) takes.moves.0 takes.moves.1
      (λ flush one. kept_flush (states place) kept.items flush one) held)

  -- in each state it is held over the whole history
  pub held_at : (place : ℕ) → place ≤ last → IsHeldIn (states place)
  held_at zero le = rw run.begins (first_held first whole is legal_whole)
  held_at (suc place) le =
      let there = event_there events place (omega arith) in
      held_step place there.0 (omega arith) (run.steps place there.0 there.1) (held_at place (omega arith))
