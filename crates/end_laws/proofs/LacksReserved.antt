-- What a core tells of its pair at the place of a turn right behind the label that reserved its number.
use Rattle.std.proofs.Common.{◌≡◌, ◌++◌, ◌∷◌, ◌∙◌, ◌<◌, ◌+◌, List, [], ℕ, None, append_assoc, subst, ap, map, sym, true, inl, inr, arith}
use Rattle.sfs_base.specs.declared.numbers.CoreId.{CoreId}
use Rattle.sfs_base.proofs.BasicTruth.{false_not_true}
use Rattle.space_map.specs.Space.{Space}
use Rattle.tree_laws.specs.declared.turns.Turn.{Turn}
use Rattle.tree_laws.specs.declared.turns.TurnAct.TheVariants as act
use Rattle.cut_laws.specs.Closure.{Flush}
use Rattle.cut_laws.specs.Rules.{IsOneOf}
use Rattle.cut_laws.proofs.Listed.{to_map}
use Rattle.flush_laws.specs.Volume.{Volume}
use Rattle.merge_laws.specs.Plays.{PlayState, Plays, durables}
use Rattle.merge_laws.specs.Phases.{phase_of, no_turn_yet}
use Rattle.book_laws.specs.Imagined.{Imagines}
use Rattle.book_laws.specs.Walk.{IsVolumeAt, brought_under, open_stamps}
use Rattle.book_laws.specs.Pairs.{commit_under, ArePairsApart}
use Rattle.reserve_laws.specs.Fits.{TellsPair, TellsThere}
use Rattle.stamp_table.specs.declared.event.Event.{Event}
use Rattle.stamp_table.specs.declared.event.Event.TheVariants.{Told}
use Rattle.slot_laws.specs.declared.label.Label.{Label}
use Rattle.slot_laws.specs.Lasts.{Reserving, told_reserving}
use Rattle.slot_laws.specs.Labels.{past_from, BoxPast, after_label}
use Rattle.slot_laws.specs.declared.label.Label.TheVariants as label
use Rattle.slot_laws.specs.Nodes.{ReservedCommit, no_numbers}
use Rattle.slot_laws.proofs.NodesTold.{past_parts}
use Rattle.slot_laws.proofs.Numbered.{at_seam}
use Rattle.close_laws.specs.Maps.{Numbered, ReservedAs}
use Rattle.close_laws.specs.Own.{NotesTurn}
use Rattle.close_laws.specs.Beside.{stamps_under, brought_at}
use Rattle.end_laws.specs.Mount.{MountEnd, MountEnds, AreNamedAlong}
use Rattle.end_laws.specs.Recorded.{kept_at}
use Rattle.end_laws.proofs.TurnPlaces.{begun, layout, PlaceAt, place_there, opens_there, comes_returned, reserved_as}
use Rattle.end_laws.proofs.Opens.{OpensAt}
use Rattle.end_laws.proofs.Played.{plays_done, is_underway, open_underway}

module _ (D : Type 0) (at : MountEnd) (named : Numbered) (ends : MountEnds D at) (are : AreNamedAlong at named) where
  -- A turn comes right behind a label that reserved the number of its fsync.
  pub record IsBehind (front : List Turn) (turn : Turn) : Type 0 where
    pub rest : List (Event Label)
    pub one : Reserving
    pub core : CoreId
    pub fact : Label
    pub back : List (Event Label)
    pub whole : at.told.log ≡ (rest ++ told_reserving one ∷ []) ++ Told core fact ∷ back
    pub turns : (past_from (layout D at named ends are) rest (begun D at named ends are)).turns ≡ front
    pub stamp_is : turn.stamp.0 ≡ named.stamps one.commit
    pub no_back : (stamp : ℕ) → NotesTurn act.GivenBack stamp fact → ⊥

  module _ (front : List Turn) (turn : Turn) (is : IsBehind front turn) where
    abbrev past : BoxPast
    past = past_from (layout D at named ends are) is.rest (begun D at named ends are)

    abbrev event : Event Label
    event = told_reserving is.one

    abbrev done : List (Event Label)
    done = is.rest ++ event ∷ []

    abbrev later : BoxPast
    later = after_label (layout D at named ends are) is.one.core.0 (label.Reserved is.one.commit is.one.seen is.one.grant) past

    past_is : past_from (layout D at named ends are) done (begun D at named ends are) ≡ later
    past_is = past_parts (layout D at named ends are) at.told.before is.rest (event ∷ []) (begun D at named ends are)

    whole_so : at.told.log ≡ is.rest ++ event ∷ Told is.core is.fact ∷ is.back
    whole_so = is.whole ∙ append_assoc is.rest (event ∷ []) (Told is.core is.fact ∷ is.back)

    abbrev At : List (Event Label) → BoxPast → List (Event Label) → Type 0
    At = PlaceAt D at named ends are

    here : At is.rest past (event ∷ Told is.core is.fact ∷ is.back)
    here = place_there D at named ends are is.rest (event ∷ Told is.core is.fact ∷ is.back) whole_so

    then : At done later (Told is.core is.fact ∷ is.back)
    then =
        subst (λ p. At done p (Told is.core is.fact ∷ is.back)) past_is
        (place_there D at named ends are done (Told is.core is.fact ∷ is.back) is.whole)

    opens : OpensAt named done later
    opens = subst (OpensAt named done) past_is (opens_there D at named ends are done (Told is.core is.fact ∷ is.back) is.whole)

    -- its number is its pair's, with what its grant serves
    pub own_reserved : ReservedAs named is.one.commit is.one.seen.items is.one.grant
    own_reserved =
        reserved_as D at named ends are is.one
        (subst (λ l. IsOneOf l event) (sym whole_so) (at_seam is.rest (Told is.core is.fact ∷ is.back) event))

    pub own_number : (commit_under named.pairs turn.stamp.0).number ≡ is.one.commit
    own_number = ap (λ s. (commit_under named.pairs s).number) is.stamp_is ∙ own_reserved.made.number_is

    -- which is not 0
    pub number_up : 0 < is.one.commit
    number_up = let next : is.one.commit ≡ past.commits + 1 = here.is.drawing.owing.may.0.1.next in omega (arith, next)

    -- At a place where none has failed.
    module _ (play : PlayState) (volume : Volume) (plays : Plays front play) (calm : play.failed ≡ None) (imagined : IsVolumeAt (kept_at at named) play volume)
        (first : phase_of turn.stamp.0 front ≡ no_turn_yet) where
      -- done there are those that have become durable
      done_same : play.done ≡ stamps_under named past.done
      done_same = plays_done front play plays ∙ (ap (λ t. map (λ (f : Flush). f.stamp) (durables t)) (sym is.turns) ∙ opens.done)

      imagines : Imagines at.start (brought_at named past) volume
      imagines = subst (λ l. Imagines at.start (brought_under named.pairs l) volume) done_same imagined.imagines

      tells : TellsPair volume (map (commit_under named.pairs) play.done) (named.pairs turn.stamp.0)
      tells =
          subst (λ (p : List ℕ × ℕ). TellsPair volume (map (commit_under named.pairs) p.0) (named.pairs p.1)) (λ i. (sym done_same i, sym is.stamp_is i))
          (here.tell.0 volume imagines (here.is.beside.beside volume imagines))

      own_open : IsOneOf (stamps_under named later.opens) (named.stamps is.one.commit)
      own_open =
          let new : ReservedCommit =
          record { number = is.one.commit; seen = is.one.seen.items; grant = is.one.grant; gives_up = no_numbers } in
          to_map (λ (c : ReservedCommit). named.stamps c.number) later.opens new (at_seam past.opens [] new)

      other_open : (other : ℕ) → is_underway (phase_of other front) ≡ true → IsOneOf (stamps_under named later.opens) other
      other_open other up = elim (opens.opened other (subst (λ t. is_underway (phase_of other t) ≡ true) (sym is.turns) up)) [
        | inl there ↦ there
        | inr last ↦ absurd (is.no_back (named.stamps last.number)
            (comes_returned D at named ends are last.rest last.core last.number is.core is.fact is.back
            (is.whole ∙ ap (λ l. l ++ Told is.core is.fact ∷ is.back) last.whole)))
      ]

      apart : (other : ℕ) → IsOneOf (open_stamps play) other → ArePairsApart (named.pairs turn.stamp.0) (named.pairs other)
      apart other among =
          let up = open_underway front play plays calm other among in
          subst (λ s. ArePairsApart (named.pairs s) (named.pairs other)) (sym is.stamp_is)
          ((then.is.beside.beside then.is.beside.volume then.is.beside.imagines).apart (named.stamps is.one.commit) other own_open (other_open other up)
          (λ same. false_not_true (sym (ap is_underway (ap (λ s. phase_of s front) (sym (is.stamp_is ∙ same)) ∙ first)) ∙ up)))

      pub tells_there : (space : Space)
          → TellsThere named.pairs (record { front = front; at = play; volume = volume; space = space }) turn.stamp.0
      tells_there space = record { tells = tells; apart = apart }
