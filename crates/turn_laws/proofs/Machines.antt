-- What turns do to the machine of calls and commits.
use Rattle.std.proofs.Common.{◌≡◌, ℕ, suc, ◌<◌, ◌≤◌, Bool, true, false, cond, List, [], ◌∷◌, ◌++◌, length, map, take, Option, Some, None, refl, sym, ap, subst, ◌∙◌, arith}
use borrow.Author.Tests.{lt-ltb}
use Rattle.std.specs.Prelude.{filter_map}
use Rattle.std.specs.List.{cons_option}
use Rattle.std.proofs.lemmas.List.{append_assoc, append-nil, length-append, length-map}
use Rattle.std.proofs.lemmas.List.Elements.{filter_map-append}
use Rattle.std.proofs.Math.Seq.{take-length}
use Rattle.sfs_base.proofs.BasicOptions.{some_same}
use Rattle.tree_laws.specs.declared.history.Entry.{Entry}
use Rattle.tree_laws.specs.declared.turns.Turn.{Turn}
use Rattle.tree_laws.specs.declared.turns.TurnAct.{TurnAct}
use Rattle.tree_laws.specs.declared.turns.TurnAct.TheVariants as act
use Rattle.tree_laws.specs.History.{IsLegal}
use Rattle.tree_laws.specs.Tree.{TreeState}
use Rattle.cut_laws.specs.declared.event.Event.{Event}
use Rattle.cut_laws.specs.declared.event.Event.TheVariants as event
use Rattle.cut_laws.specs.Closure.{every_entry, Flush, AreRaised, AreFlushed, none, one_more}
use Rattle.cut_laws.specs.Cut.{Cut}
use Rattle.cut_laws.specs.LawsRuns.{then_state, told}
use Rattle.cut_laws.specs.Machine.{Flight, MachineState, start_of, IsRaisedBy, Accepts}
use Rattle.cut_laws.proofs.Entries.{calls_are_a_run}
use Rattle.cut_laws.proofs.LongerRuns.{runs_lengthen}
use Rattle.cut_laws.proofs.RaiseLists.{raised_once}
use Rattle.turn_laws.specs.Need.{ImageState}
use Rattle.turn_laws.specs.Books.{Books, books_of, flush_at, SettlesCommit, Does, IsTurn, AreTurns, no_turns, one_turn}
use Rattle.turn_laws.specs.LawsTurns.{durable_by_act, durable_flush, TurnsAreFlushed, event_by, event_of_turn, events_of, IsRunTo, TurnsAreARun}

-- what some function finds in a list with one more
found_last : {X Y : Type 0} (f : X → Option Y) (xs : List X) (x : X) → filter_map f (xs ++ x ∷ []) ≡ filter_map f xs ++ cons_option (f x) []
found_last f xs x = filter_map-append f xs (x ∷ [])

-- The machine is of this first tree and history, and has the cut and the inodes that some fsyncs raise.
record IsFlushed (first : TreeState) (history : List Entry) (flushes : List Flush) (machine : MachineState) : Type 0 where
  first_is : machine.first ≡ first
  history_is : machine.history ≡ history
  flushed : AreFlushed first history every_entry flushes machine.cut machine.inodes

-- one turn more
module _ (first : TreeState) (history : List Entry) (flushes : List Flush) (turn : Turn) (books later : Books)
    (was : IsFlushed first history flushes books.machine) where
  -- a machine that differs in other things
  stays : (m : MachineState) → later.machine ≡ m → IsFlushed first history flushes m → IsFlushed first history (flushes ++ []) later.machine
  stays m same is =
      subst (λ (l : List Flush). IsFlushed first history l later.machine) (sym (append-nil flushes)) (subst (IsFlushed first history flushes) (sym same) is)

  settled : SettlesCommit books turn later → IsFlushed first history (flushes ++ flush_at turn ∷ []) later.machine
  settled does =
      let moves = does.taken.moves in
      let own : moves.0.flush ≡ flush_at turn = ap (λ (f : Flight). f.flush) (some_same (sym moves.2 ∙ does.flies.flies)) ∙ does.flies.own in
      by moves.0.flush moves.1 own moves.3
      (ap (λ (b : Books). b.machine) does.later_is ∙ moves.4)
    where
      by : (flush : Flush) (raised : MachineState) → flush ≡ flush_at turn → IsRaisedBy books.machine (flush ∷ []) raised → {flights : List Flight}
          → later.machine ≡ record raised { flights = flights }
          → IsFlushed first history (flushes ++ flush_at turn ∷ []) later.machine
      by flush raised own raises {flights} same =
          let all =
          subst (λ (h : List Entry). AreRaised first h every_entry books.machine.cut books.machine.inodes (flush ∷ []) raised.cut raised.inodes)
          was.history_is
          (subst
          (λ (t : TreeState). AreRaised t books.machine.history every_entry books.machine.cut books.machine.inodes (flush ∷ []) raised.cut raised.inodes)
          was.first_is raises.raised) in
          let once = raised_once first history every_entry books.machine.cut books.machine.inodes flush raised.cut raised.inodes all in
          let more = one_more flushes flush books.machine.cut raised.cut books.machine.inodes raised.inodes was.flushed once.0 once.1 in
          let now : IsFlushed first history (flushes ++ flush ∷ []) (record raised { flights = flights }) = record {
            first_is = ap (λ (m : MachineState). m.first) raises.others ∙ was.first_is;
            history_is = ap (λ (m : MachineState). m.history) raises.others ∙ was.history_is;
            flushed = more;
          } in
          subst (IsFlushed first history (flushes ++ flush_at turn ∷ [])) (sym same)
          (subst (λ (f : Flush). IsFlushed first history (flushes ++ f ∷ []) (record raised { flights = flights })) own now)

  step : (a : TurnAct) → Does a books turn later → IsFlushed first history (flushes ++ cons_option (durable_by_act a (flush_at turn)) []) later.machine
  step act.Granted does = stays books.machine (ap (λ (b : Books). b.machine) does.later_is) was
  step act.GivenBack does = stays books.machine (ap (λ (b : Books). b.machine) does.later_is) was
  step (act.Short kind asked have) does = stays books.machine (ap (λ (b : Books). b.machine) does.later_is) was
  step act.Halted does = stays books.machine (ap (λ (b : Books). b.machine) does) was
  step act.CutAt does =
      stays _ (ap (λ (b : Books). b.machine) does.later_is ∙ does.taken.moves.2)
      (record { first_is = was.first_is; history_is = was.history_is; flushed = was.flushed })
  step act.Opened does =
      stays _ (ap (λ (b : Books). b.machine) does.later_is ∙ does.taken.moves)
      (record { first_is = was.first_is; history_is = was.history_is; flushed = was.flushed })
  step act.Fail does =
      stays _ (ap (λ (b : Books). b.machine) does.later_is ∙ does.taken.moves)
      (record { first_is = was.first_is; history_is = was.history_is; flushed = was.flushed })
  step act.Durable does = settled does

module _ (first : TreeState) (history : List Entry) (image : ImageState) (before most : ℕ) where
  -- all turns
  all_flushed : {turns : List Turn} {books : Books} → AreTurns before most (books_of first history image) turns books
      → IsFlushed first history (filter_map durable_flush turns) books.machine
  all_flushed no_turns = record { first_is = refl; history_is = refl; flushed = none }
  all_flushed (one_turn turns turn books later earlier is) =
      subst (λ (l : List Flush). IsFlushed first history l later.machine) (sym (found_last durable_flush turns turn))
      (step first history (filter_map durable_flush turns) turn books later (all_flushed earlier) turn.act is.does)

pub turns_are_flushed : TurnsAreFlushed
turns_are_flushed first history image before most turns books are = (all_flushed first history image before most are).flushed

-- The machine stays, or accepts one event.
data GoesOn (old new : MachineState) : Option Event → Type 0 where
  still : new ≡ old → GoesOn old new None
  goes : (e : Event) → Accepts old e new → GoesOn old new (Some e)

goes_on : (turn : Turn) (books later : Books) (a : TurnAct) → Does a books turn later → GoesOn books.machine later.machine (event_by a turn)
goes_on turn books later act.Granted does = still (ap (λ (b : Books). b.machine) does.later_is)
goes_on turn books later act.GivenBack does = still (ap (λ (b : Books). b.machine) does.later_is)
goes_on turn books later (act.Short kind asked have) does = still (ap (λ (b : Books). b.machine) does.later_is)
goes_on turn books later act.Halted does = still (ap (λ (b : Books). b.machine) does)
goes_on turn books later act.CutAt does =
    goes _ (subst (Accepts books.machine (event.CutAt turn.commit turn.node turn.stamp)) (sym (ap (λ (b : Books). b.machine) does.later_is)) does.taken)
goes_on turn books later act.Opened does =
    goes _ (subst (Accepts books.machine (event.Opened turn.commit)) (sym (ap (λ (b : Books). b.machine) does.later_is)) does.taken)
goes_on turn books later act.Durable does =
    goes _ (subst (Accepts books.machine (event.Durable turn.commit)) (sym (ap (λ (b : Books). b.machine) does.later_is)) does.taken)
goes_on turn books later act.Fail does =
    goes _ (subst (Accepts books.machine (event.Fail turn.commit)) (sym (ap (λ (b : Books). b.machine) does.later_is)) does.taken)

-- a run to a state goes on
run_on : (first : TreeState) (events : List Event) (old new : MachineState) (o : Option Event) → GoesOn old new o → IsRunTo first events old
    → IsRunTo first (events ++ cons_option o []) new
run_on first events old new None (still same) is = record {
  states = is.states;
  run = rw (append-nil events) is.run;
  last_is = rw (append-nil events) (is.last_is ∙ sym same);
}
run_on first events old new (Some e) (goes _ takes) is = record {
  states = then_state is.states (length events) new;
  run = runs_lengthen first events is.states e new is.run (subst (λ (m : MachineState). Accepts m e new) (sym is.last_is) takes);
  last_is = let l = length-append events (e ∷ []) in
      ap (λ b. cond b new (is.states (length (events ++ e ∷ [])))) (lt-ltb (length events) (length (events ++ e ∷ [])) (omega arith));
}

module _ (first : TreeState) (history : List Entry) (image : ImageState) (before most : ℕ) (legal : IsLegal first history) where
  all_run : {turns : List Turn} {books : Books} → AreTurns before most (books_of first history image) turns books
      → IsRunTo first (events_of history turns) books.machine
  all_run no_turns = record {
    states = told first history;
    run = rw (append-nil (map event.Call history)) (calls_are_a_run first history legal);
    last_is =
        rw (append-nil (map event.Call history))
        (ap (λ (h : List Entry). record (start_of first) { history = h }) (ap (λ n. take n history) (length-map history event.Call) ∙ take-length history));
  }
  all_run (one_turn turns turn books later earlier is) =
      subst (λ (l : List Event). IsRunTo first l later.machine)
      (append_assoc (map event.Call history) (filter_map event_of_turn turns) _
      ∙ ap (λ (l : List Event). map event.Call history ++ l) (sym (found_last event_of_turn turns turn)))
      (run_on first (events_of history turns) books.machine later.machine (event_of_turn turn) (goes_on turn books later turn.act is.does) (all_run earlier))

pub turns_are_a_run : TurnsAreARun
turns_are_a_run first history image before most turns books legal are = all_run first history image before most legal are
