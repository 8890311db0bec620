-- Before a crash a run's state is what its durable commits have raised.
use Rattle.std.proofs.Common.{◌≡◌, ℕ, zero, suc, ◌<◌, ◌≤◌, Bool, true, List, [], ◌∷◌, length, take, Some, inl, inr, refl, sym, ap, subst, ◌∙◌, arith}
use Rattle.std.specs.Prelude.{slice_get}
use Rattle.tree_laws.specs.declared.history.Entry.{Entry}
use Rattle.tree_laws.specs.Tree.{TreeState}
use Rattle.tree_laws.specs.History.{IsLegal}
use Rattle.tree_laws.specs.Laws.{IsSoundTree}
use Rattle.cut_laws.specs.declared.event.Event.{Event}
use Rattle.cut_laws.specs.declared.event.Event.TheVariants as event
use Rattle.cut_laws.specs.declared.event.Refused.TheVariants as refused
use Rattle.cut_laws.specs.Cut.{Cut}
use Rattle.cut_laws.specs.Rules.{IsOneOf}
use Rattle.cut_laws.specs.Closure.{every_entry, Flush, AreRaised, none, one_more, AreFlushed}
use Rattle.cut_laws.specs.Machine.{Flight, MachineState}
use Rattle.cut_laws.specs.Runs.{IsRun, IsBegun, AreAlive, durable_of}
use Rattle.cut_laws.specs.LawsRuns.{every_commit, RunsAreFlushed}
use Rattle.sfs_base.proofs.BasicTruth.{not_both}
use Rattle.cut_laws.proofs.RunFacts.{IsPrefix, IsSteady, steady_at, event_there, prefix_later}
use Rattle.cut_laws.proofs.Held.{first_held, held_at, flights_live}
use Rattle.cut_laws.proofs.RaiseLists.{raised_once}
use Rattle.cut_laws.proofs.Flying.{CutStep, stays, raises, ends, cut_step, flight_before}
use Rattle.cut_laws.proofs.Stays.{live_begun}
use Rattle.cut_laws.proofs.Begun.{begun_low}
use Rattle.cut_laws.proofs.Durables.{so_far, each_chosen, none_more, one_durable}
use Rattle.cut_laws.proofs.WholeHistory.{raised_whole, none_above}

module _ (first : TreeState) (events : List Event) (states : ℕ → MachineState) (is : IsSoundTree first) (run : IsRun first events states)
    (alive : AreAlive first events states) (last : ℕ) (within : last ≤ length events) where
  abbrev whole : List Entry
  whole = (states last).history

  legal : IsLegal first whole
  legal = (steady_at first events states run last within).legal

  -- the fsyncs of the commits that became durable by the first events
  abbrev durable_till : ℕ → List Flush
  durable_till so_many = so_far first events states run last every_commit so_many

  -- they raise the cut and the inodes of the state behind these
  abbrev AreRaisedAt : ℕ → Type 0
  AreRaisedAt so_many = AreFlushed first whole every_entry (durable_till so_many) (states so_many).cut (states so_many).inodes

  pub begin_before : (so_many : ℕ) → so_many ≤ length events → (flight : Flight) → IsOneOf (states so_many).flights flight
      → (begin : ℕ) × (begin < so_many) × IsBegun events begin flight.commit flight.flush
  begin_before so_many le flight one = elim (flight_before first events states run 0 so_many (omega arith) le flight one) [
    | inl among ↦ absurd (rw run.begins at among.there)
    | inr later ↦ (later.0, later.2, later.3)
  ]

  -- a flight's raise over the state's history is one over the whole
  raise_on : (so_many : ℕ) (flight : Flight) (raised : Cut) (after : ℕ → Bool) → so_many < last → IsOneOf (states so_many).flights flight
      → AreRaised first (states so_many).history every_entry (states so_many).cut (states so_many).inodes (flight.flush ∷ []) raised after
      → AreRaised first whole every_entry (states so_many).cut (states so_many).inodes (flight.flush ∷ []) raised after
  raise_on so_many flight raised after lt one are =
      raised_whole first whole (length (states so_many).history) is legal prefix.shorter (rw prefix.first_part are) (record {
        low = λ flush own. elim own [ inl same ↦ rw same at (steady.stamps flight one) | inr nothing ↦ absurd nothing ];
        live =
            λ flush own. elim own [
              | inl same ↦
                  rw same at (flights_live first events states is run alive last within so_many (omega arith) flight one)
              | inr nothing ↦ absurd nothing
            ];
      }) steady.cuts (held_at first events states is run alive last within so_many (omega arith))
    where
      prefix : IsPrefix (states so_many).history whole
      prefix = prefix_later first events states run so_many last (omega arith) within

      steady : IsSteady first (states so_many)
      steady = steady_at first events states run so_many (omega arith)

  flushed_step : (so_many : ℕ) (e : Event) → so_many < last → slice_get events so_many ≡ Some e → ((states (suc so_many)).crashed ≡ true → ⊥)
      → CutStep first (states so_many) (states (suc so_many)) e → AreRaisedAt so_many → AreRaisedAt (suc so_many)
  flushed_step so_many e lt stands goes (stays cuts inodes_are no_durable) was =
      subst (λ (c : Cut). AreFlushed first whole every_entry (durable_till (suc so_many)) c (states (suc so_many)).inodes) cuts
      (subst (λ (i : ℕ → Bool). AreFlushed first whole every_entry (durable_till (suc so_many)) (states so_many).cut i) inodes_are
      (rw (none_more first events states run last every_commit so_many e stands (no_durable (take last events) every_commit)) was))
  flushed_step so_many e lt stands goes (raises durable raiser same there number are others) was =
      let whole_raise =
      raised_once first whole every_entry (states so_many).cut (states so_many).inodes raiser.flush (states (suc so_many)).cut (states (suc so_many)).inodes
      (raise_on so_many raiser (states (suc so_many)).cut (states (suc so_many)).inodes lt there are) in
      let began = begin_before so_many (omega arith) raiser there in
      subst (λ (l : List Flush). AreFlushed first whole every_entry l (states (suc so_many)).cut (states (suc so_many)).inodes)
      (sym
      (one_durable first events states run last every_commit so_many raiser.commit began.0 raiser.flush
      (stands ∙ ap Some (same ∙ ap event.Durable (sym number))) refl (let less = began.1 in omega arith) began.2))
      (one_more (durable_till so_many) raiser.flush (states so_many).cut (states (suc so_many)).cut (states so_many).inodes
      (states (suc so_many)).inodes was whole_raise.0 whole_raise.1)
  flushed_step so_many e lt stands goes (ends gone ended) was = absurd (goes ended)

  -- a state that accepts an event has not crashed
  pub goes_on_at : (place : ℕ) → place < length events → (states place).crashed ≡ true → ⊥
  goes_on_at place lt ended = let there = event_there events place lt in (run.steps place there.0 there.1).free refused.Crashed ended

  pub flushed_at : (so_many : ℕ) → so_many ≤ last → ((states so_many).crashed ≡ true → ⊥) → AreRaisedAt so_many
  flushed_at zero le goes = rw run.begins none
  flushed_at (suc so_many) le goes =
      let there = event_there events so_many (omega arith) in
      flushed_step so_many there.0 (omega arith) there.1 goes
      (cut_step first (states so_many) there.0 (states (suc so_many)) (steady_at first events states run so_many (omega arith)).start
      (run.steps so_many there.0 there.1))
      (flushed_at so_many (omega arith) (goes_on_at so_many (omega arith)))

pub runs_are_flushed : RunsAreFlushed
runs_are_flushed first events states place later is run alive le within goes =
    let last = steady_at first events states run later within in
    let prefix = prefix_later first events states run place later le within in
    raised_whole first (states later).history (length (states place).history) is last.legal prefix.shorter
    (rw prefix.first_part (flushed_at first events states is run alive place (omega arith) place (omega arith) (λ ended. not_both ended goes))) (record {
      low = λ flush one. low_at flush one;
      live = λ flush one.
          let chosen = each_chosen first events states run place every_commit place flush one in
          live_begun first events states is run alive later within chosen.begin chosen.commit flush (let less = chosen.before in omega arith) chosen.begun;
    }) (none_above (length (states place).history)) (first_held first (states later).history is last.legal)
  where
    low_at : (flush : Flush) → IsOneOf (durable_of (take place events) every_commit) flush → flush.stamp ≤ length (states place).history
    low_at flush one =
        let chosen = each_chosen first events states run place every_commit place flush one in
        let low = begun_low first events states run chosen.begin chosen.commit flush chosen.begun in
        let shorter = (prefix_later first events states run chosen.begin place (let less = chosen.before in omega arith) (omega arith)).shorter in
        omega arith
