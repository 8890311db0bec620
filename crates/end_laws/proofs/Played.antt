-- What fsyncs have done behind turns of which none has failed, by the phases of their own.
-- whether an fsync is in the midst of its commit, and no failure has stopped that
use Rattle.std.proofs.Common.{◌≢◌, ◌≡◌, ◌++◌, ◌∷◌, ◌∙◌, Bool, true, false, List, map, [], ap, sym, ℕ, refl, None, inl, inr, subst, append-nil, append_assoc}
use Rattle.std.proofs.lemmas.List.{map-append}
use Rattle.sfs_base.specs.declared.numbers.Stamp.{Stamp}
use Rattle.sfs_base.proofs.BasicOptions.{none_some}
use Rattle.tree_laws.specs.declared.turns.Turn.{Turn}
use Rattle.tree_laws.specs.declared.turns.TurnAct.TheVariants as act
use Rattle.tree_laws.specs.declared.turns.TurnAct.{TurnAct}
use Rattle.tree_laws.specs.Tree.{TreeState}
use Rattle.tree_laws.specs.declared.history.Entry.{Entry}
use Rattle.cut_laws.specs.Closure.{Flush}
use Rattle.cut_laws.specs.Rules.{IsOneOf}
use Rattle.cut_laws.proofs.Basics.{in_either}
use Rattle.cut_laws.proofs.Listed.{from_map}
use Rattle.turn_laws.specs.Books.{flush_at}
use Rattle.turn_laws.specs.Ways.{own_turns, GoesWay, acts_of_way}
use Rattle.turn_laws.specs.Recorded.{IsOfFsync}
use Rattle.merge_laws.specs.Phases.{has_reserved, has_begun, has_opened, is_stuck, no_turn_yet, is_durable, has_ended, Phase, next_phase, phase_of, may_follow, goes_from}
use Rattle.merge_laws.specs.Plays.{no_play, one_play, PlayState, durables, PlaysAct, Plays, Aloft, PensMerge}
use Rattle.merge_laws.proofs.Phases.{own_at, phase_on, phase_stays, may_come, ways_go}
use Rattle.merge_laws.proofs.Blocks.{same_or_not}
use Rattle.merge_laws.proofs.Playing.{FitsPhase}
use Rattle.merge_laws.proofs.Lists.{among_at}
use Rattle.book_laws.specs.Walk.{open_stamps}
use Rattle.book_laws.proofs.Played.{fits_play}
use Rattle.close_laws.proofs.Flying.{durables_stay, durables_more}

abbrev pub is_underway : Phase → Bool
is_underway has_reserved = true
is_underway has_begun = true
is_underway has_opened = true
is_underway _ = false

-- done are those that became durable, in the order of their turns
module _ (turns : List Turn) (turn : Turn) where
  done_stays : turn.act ≢ act.Durable → (later at : PlayState) → later.done ≡ at.done → at.done ≡ map (λ (f : Flush). f.stamp) (durables turns)
      → later.done ≡ map (λ (f : Flush). f.stamp) (durables (turns ++ turn ∷ []))
  done_stays away later at same was = same ∙ (was ∙ ap (map (λ (f : Flush). f.stamp)) (sym (durables_stay turns turn away)))

  done_by : (did : TurnAct) → turn.act ≡ did → (at later : PlayState) → PlaysAct did turns at turn later
      → at.done ≡ map (λ (f : Flush). f.stamp) (durables turns) → later.done ≡ map (λ (f : Flush). f.stamp) (durables (turns ++ turn ∷ []))
  done_by act.Granted is at later plays was = done_stays (λ e. cc (sym is ∙ e)) later at (ap (λ (s : PlayState). s.done) plays.later_is) was
  done_by act.GivenBack is at later plays was = done_stays (λ e. cc (sym is ∙ e)) later at (ap (λ (s : PlayState). s.done) plays.later_is) was
  done_by (act.Short kind need free) is at later plays was =
      done_stays (λ e. cc (sym is ∙ e)) later at (ap (λ (s : PlayState). s.done) plays.later_is) was
  done_by act.Halted is at later plays was = done_stays (λ e. cc (sym is ∙ e)) later at (ap (λ (s : PlayState). s.done) plays.later_is) was
  done_by act.CutAt is at later plays was = done_stays (λ e. cc (sym is ∙ e)) later at (ap (λ (s : PlayState). s.done) plays.later_is) was
  done_by act.Opened is at later plays was = done_stays (λ e. cc (sym is ∙ e)) later at (ap (λ (s : PlayState). s.done) plays.later_is) was
  done_by act.Fail is at later plays was = done_stays (λ e. cc (sym is ∙ e)) later at (ap (λ (s : PlayState). s.done) plays.later_is) was
  done_by act.Durable is at later plays was =
      ap (λ (s : PlayState). s.done) plays.later_is
      ∙ (ap (λ (l : List ℕ). l ++ turn.stamp.0 ∷ []) was
      ∙ (sym (map-append (λ (f : Flush). f.stamp) (durables turns) (flush_at turn ∷ []))
      ∙ ap (map (λ (f : Flush). f.stamp)) (sym (durables_more turns turn is))))

pub plays_done : (turns : List Turn) (at : PlayState) → Plays turns at → at.done ≡ map (λ (f : Flush). f.stamp) (durables turns)
plays_done _ _ no_play = refl
plays_done _ _ (one_play turns turn at later plays did) = done_by turns turn turn.act refl at later did (plays_done turns at plays)

-- while none has failed none is stuck
module _ (turns : List Turn) (turn : Turn) (at later : PlayState) where
  abbrev StuckNow : TurnAct → Type 0
  StuckNow did = later.failed ≡ None → (next_phase (phase_of turn.stamp.0 turns) did ≡ is_stuck → ⊥) × (at.failed ≡ None)

  calm_by : (did : TurnAct) → PlaysAct did turns at turn later → StuckNow did
  calm_by act.Granted plays calm = ((λ e. cc), plays.calm)
  calm_by act.GivenBack plays calm = ((λ e. cc), sym (ap (λ (s : PlayState). s.failed) plays.later_is) ∙ calm)
  calm_by (act.Short kind need free) plays calm = ((λ e. cc), plays.calm)
  calm_by act.Halted plays calm =
      absurd (none_some (sym calm ∙ (ap (λ (s : PlayState). s.failed) plays.later_is ∙ plays.failed)))
  calm_by act.CutAt plays calm = ((λ e. cc), plays.calm)
  calm_by act.Opened plays calm = ((λ e. cc), plays.calm)
  calm_by act.Durable plays calm = ((λ e. cc), plays.calm)
  calm_by act.Fail plays calm = absurd (none_some (sym calm ∙ ap (λ (s : PlayState). s.failed) plays.later_is))

pub none_stuck : (turns : List Turn) (at : PlayState) → Plays turns at → at.failed ≡ None → (stamp : ℕ) → phase_of stamp turns ≡ is_stuck → ⊥
none_stuck _ _ no_play calm stamp is = cc
none_stuck _ _ (one_play turns turn at later plays did) calm stamp is =
    let so = calm_by turns turn at later turn.act did calm in
    elim (same_or_not stamp turn.stamp.0) [
      | inl same ↦ so.0 (sym (phase_on turns turn) ∙ (ap (λ n. phase_of n (turns ++ turn ∷ [])) (sym same) ∙ is))
      | inr apart ↦ none_stuck turns at plays so.1 stamp (sym (phase_stays turns turn stamp apart) ∙ is)
    ]

aloft_underway : (opened : Bool) (phase : Phase) → FitsPhase opened phase → (phase ≡ is_stuck → ⊥) → is_underway phase ≡ true
aloft_underway opened has_begun fits never = refl
aloft_underway opened has_opened fits never = refl
aloft_underway opened is_stuck fits never = absurd (never refl)
aloft_underway opened no_turn_yet fits never = absurd fits
aloft_underway opened has_reserved fits never = absurd fits
aloft_underway opened is_durable fits never = absurd fits
aloft_underway opened has_ended fits never = absurd fits

-- those that are open are underway
pub open_underway : (turns : List Turn) (at : PlayState) → Plays turns at → at.failed ≡ None → (stamp : ℕ) → IsOneOf (open_stamps at) stamp
    → is_underway (phase_of stamp turns) ≡ true
open_underway turns at plays calm stamp among =
    let fits = (fits_play turns at plays).fits in
    elim (in_either at.waiting (map (λ (f : Aloft). f.stamp) at.aloft) stamp among) [
      | inl waits ↦ ap is_underway (fits.waits stamp waits)
      | inr flies ↦
          let was = from_map (λ (f : Aloft). f.stamp) at.aloft stamp flies in
          subst (λ n. is_underway (phase_of n turns) ≡ true) was.2
          (aloft_underway was.0.opened (phase_of was.0.stamp turns) (fits.flies was.0 was.1)
          (none_stuck turns at plays calm was.0.stamp))
    ]

-- a turn may come where it stands
pub may_come_there : (first : TreeState) (history : List Entry) (turns : List Turn) → PensMerge first history turns → (front : List Turn) (turn : Turn)
    (back : List Turn) → turns ≡ front ++ turn ∷ back → may_follow (phase_of turn.stamp.0 front) turn.act ≡ true
may_come_there first history turns merge front turn back whole =
    may_come no_turn_yet (map (λ (t : Turn). t.act) (own_turns turn.stamp.0 front)) turn.act (map (λ (t : Turn). t.act) (own_turns turn.stamp.0 back))
    (ap (goes_from no_turn_yet) (sym acts) ∙ ways_go way.way)
  where
    its : IsOfFsync first history turn
    its = merge.each turn (subst (λ (l : List Turn). IsOneOf l turn) (sym whole) (among_at front turn back))

    way : GoesWay (own_turns its.entry.stamp.0 turns) its.entry.reply
    way = merge.goes its.entry turn.node its.fsync

    acts : acts_of_way way.way ≡ map (λ (t : Turn). t.act) (own_turns turn.stamp.0 front) ++ turn.act ∷ map (λ (t : Turn). t.act)
        (own_turns turn.stamp.0 back)
    acts =
        sym way.acts
        ∙ (ap (map (λ (t : Turn). t.act)) (ap (λ (n : ℕ). own_turns n turns) (sym (ap (λ (s : Stamp). s.0) its.stamp)) ∙ (ap (own_turns turn.stamp.0) whole
        ∙ own_at turn front back))
        ∙ map-append (λ (t : Turn). t.act) (own_turns turn.stamp.0 front) (turn ∷ own_turns turn.stamp.0 back))

-- some turns of one fsync leave the phases of all others
pub others_stay : (turns more : List Turn) (own stamp : ℕ) → ((turn : Turn) → IsOneOf more turn → turn.stamp.0 ≡ own) → stamp ≢ own
    → phase_of stamp (turns ++ more) ≡ phase_of stamp turns
others_stay turns [] own stamp are apart = ap (phase_of stamp) (append-nil turns)
others_stay turns (turn ∷ more) own stamp are apart =
    ap (phase_of stamp) (sym (append_assoc turns (turn ∷ []) more))
    ∙ (others_stay (turns ++ turn ∷ []) more own stamp (λ other among. are other (inr among)) apart
    ∙ phase_stays turns turn stamp (λ same. apart (same ∙ are turn (inl refl))))
