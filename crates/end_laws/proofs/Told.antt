-- Where what commits bring has the stamps of the fsyncs, pens told turn by turn at the box.
use Rattle.std.proofs.Common.{◌≡◌, ◌∙◌, ◌≤◌, ℕ, List, [], Option, None, Some, slice_get, nat_eq, arith, length, inl, sym, inr, ap, subst, refl, flat_map}
use Rattle.std.proofs.lemmas.Option.{slice_get_cases}
use Rattle.sfs_base.proofs.BasicOptions.{none_some}
use Rattle.sfs_base.proofs.BasicNumbers.{not_same}
use Rattle.tree_laws.specs.declared.turns.Turn.{Turn}
use Rattle.cut_laws.specs.Rules.{IsOneOf}
use Rattle.cut_laws.specs.Closure.{Flush}
use Rattle.cut_laws.proofs.Basics.{filter_none}
use Rattle.dep_closure.proofs.Looked.{to_flat}
use Rattle.turn_laws.specs.Books.{flush_at}
use Rattle.merge_laws.proofs.Lists.{in_part}
use Rattle.book_laws.specs.Pairs.{bringing_under}
use Rattle.stamp_table.specs.declared.event.Event.{Event}
use Rattle.stamp_table.specs.Rule.{entries_by}
use Rattle.stamp_table.specs.Events.{event_core}
use Rattle.slot_laws.specs.Telling.{BoxTurn, turn_reserves, turn_empties, turn_begins, turn_works, turn_refuses, turn_returns, turn_opens, turn_lands, turn_fails, turn_fails_begun, events_in, TellTurns, PenTold, turns_in, turns_told, labels_in}
use Rattle.slot_laws.specs.declared.label.Label.{Label}
use Rattle.slot_laws.specs.Labels.{nothing_told}
use Rattle.close_laws.specs.Maps.{Numbered}
use Rattle.close_laws.specs.PenLabels.{TurnFits, PensTell}
use Rattle.close_laws.specs.Pens.{PensRest}
use Rattle.flush_agrees.specs.Agreement.{FlushTold, turns_of}
use Rattle.flush_agrees.specs.Made.{TellsNoNumber, FlushMade, GrantsNeed}
use Rattle.end_laws.proofs.Fitting.{mades_fit}
use Rattle.end_laws.specs.Mount.{MountEnd, MountEnds, AreNamedAlong, IsFsyncAt, run_at}
use Rattle.end_laws.specs.Laws.{NamedPensTell}

-- the turns at the box of a core that may have fsyncs
abbrev turns_by : Option (List FlushTold) → List BoxTurn
turns_by None = []
turns_by (Some fsyncs) = turns_of fsyncs

-- a turn that tells no number fits whatever commits bring
no_number_fits : (named : Numbered) (turn : BoxTurn) → TellsNoNumber turn → TurnFits named turn
no_number_fits named (turn_reserves number seen grant turn) none = absurd none
no_number_fits named (turn_empties number seen cut opened durable) none = absurd none
no_number_fits named (turn_begins filling number node stamp blocks inodes) none = absurd none
no_number_fits named (turn_works facts) none = tt
no_number_fits named (turn_refuses turn) none = tt
no_number_fits named (turn_returns number turn) none = tt
no_number_fits named (turn_opens slot done cut opened) none = tt
no_number_fits named (turn_lands turn) none = tt
no_number_fits named (turn_fails facts cut fail) none = tt
no_number_fits named (turn_fails_begun facts fail) none = tt

module _ (D : Type 0) (at : MountEnd) (named : Numbered) (ends : MountEnds D at) (are : AreNamedAlong at named) where
  abbrev events_at : ℕ → List (Event Label)
  events_at core = entries_by event_core core at.told.log

  fsync_at : (core : ℕ) (fsyncs : List FlushTold) → slice_get at.fsyncs core ≡ Some fsyncs → (one : FlushTold) → IsOneOf fsyncs one → IsFsyncAt at one
  fsync_at core fsyncs there one among = record { core = core; fsyncs = fsyncs; there = there; among = among }

  -- what a core told are its fsyncs' turns
  mine_by : (core : ℕ) (o : Option (List FlushTold)) → slice_get at.fsyncs core ≡ o → events_at core ≡ events_in core (turns_by o)
  mine_by core None none = filter_none (λ (event : Event Label). nat_eq (event_core event) core) at.told.log (λ event among.
      let low = ends.own event among in
      let past = past_the_end in
      not_same (event_core event) core (λ same. absurd (omega (arith, low, past, same))))
    where
      past_the_end : length at.fsyncs ≤ core
      past_the_end = elim (slice_get_cases at.fsyncs core).1 [
        | inl within ↦ absurd (none_some (sym none ∙ within.2))
        | inr past ↦ past.0
      ]
  mine_by core (Some fsyncs) there =
      let end = ends.each core fsyncs there in
      ap (entries_by event_core core) ends.labels_are
      ∙ subst (λ c. entries_by event_core c at.logs.labels ≡ events_in c (turns_of fsyncs)) end.core_is end.agree.mine

  tells_by : (core : ℕ) (o : Option (List FlushTold)) → slice_get at.fsyncs core ≡ o → TellTurns named.stamps core nothing_told (turns_by o)
  tells_by core None none = tt
  tells_by core (Some fsyncs) there =
      let end = ends.each core fsyncs there in
      subst (λ c. TellTurns named.stamps c nothing_told (turns_of fsyncs)) end.core_is
      (end.agree.tells named.stamps (λ one made among is. are.stamps one made (fsync_at core fsyncs there one among) is))

  abbrev pen_told : (core : ℕ) → PenTold named.stamps core (events_at core)
  pen_told core = record {
    turns = turns_by (slice_get at.fsyncs core);
    mine_is = mine_by core (slice_get at.fsyncs core) refl;
    tells = tells_by core (slice_get at.fsyncs core) refl;
  }

  -- a turn of an fsync fits what its commit brings
  fits_of : (one : FlushTold) (there : IsFsyncAt at one) (turn : BoxTurn) → IsOneOf one.turns turn → (o : Option FlushMade) → one.made ≡ o
      → TurnFits named turn
  fits_of one there turn among None is =
      no_number_fits named turn ((ends.each there.core there.fsyncs there.there).agree.unnumbered one there.among is turn among)
  fits_of one there turn among (Some made) is =
      let end = ends.each there.core there.fsyncs there.there in
      let has = end.agree.made one made there.among is in
      mades_fit (run_at at) at.told.layout named made turn (are.pair one made there is).is
      (subst (λ layout. GrantsNeed layout made) end.layout_is has.grants) ends.begins.few (ends.frees one made there is) (has.turns turn among)

  fit_by : (core : ℕ) (o : Option (List FlushTold)) → slice_get at.fsyncs core ≡ o → (turn : BoxTurn) → IsOneOf (turns_by o) turn → TurnFits named turn
  fit_by core None none turn among = absurd among
  fit_by core (Some fsyncs) there turn among =
      let from = in_part (λ (one : FlushTold). one.turns) fsyncs turn among in
      fits_of from.x (fsync_at core fsyncs there from.x from.among) turn from.has from.x.made refl

  abbrev pens_tell : PensTell named at.told
  pens_tell = record { along = ends.along; pens = pen_told; fit = λ core. fit_by core (slice_get at.fsyncs core) refl }

  -- and each turn of the record is of its fsync
  brought_by_one : (one : FlushTold) (there : IsFsyncAt at one) (turn : Turn) → IsOneOf (turns_in one.turns) turn
      → (bringing_under named.pairs turn.stamp.0).flush ≡ flush_at turn
  brought_by_one one there turn among =
      let own = (ends.each there.core there.fsyncs there.there).agree.of_flush one turn there.among among in
      ap (λ (f : Flush). (bringing_under named.pairs f.stamp).flush) own ∙ (are.flush one there ∙ sym own)

  brought_in : (core : ℕ) (o : Option (List FlushTold)) → slice_get at.fsyncs core ≡ o → (turn : Turn) → IsOneOf (turns_in (turns_by o)) turn
      → (bringing_under named.pairs turn.stamp.0).flush ≡ flush_at turn
  brought_in core None none turn among = absurd among
  brought_in core (Some fsyncs) there turn among =
      let told = in_part (λ (one : BoxTurn). flat_map turns_told (labels_in one)) (turns_of fsyncs) turn among in
      let from = in_part (λ (one : FlushTold). one.turns) fsyncs told.x told.among in
      brought_by_one from.x (fsync_at core fsyncs there from.x from.among) turn
      (to_flat (λ (one : BoxTurn). flat_map turns_told (labels_in one)) from.x.turns told.x turn from.has told.has)

  pens_rest : PensRest named at.told pens_tell
  pens_rest = record { rests = ends.rests; brought = λ core. brought_in core (slice_get at.fsyncs core) refl }

pub named_pens_tell : (D : Type 0) → NamedPensTell D
named_pens_tell D at named ends are = record {
  pens = pens_tell D at named ends are;
  turns = λ core fsyncs there. ap turns_by there;
  rest = pens_rest D at named ends are;
}
