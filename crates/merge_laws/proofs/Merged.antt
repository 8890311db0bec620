-- The record of turns that all cores agree on with their pens is what fsyncs do.
use Rattle.std.specs.List.{cons_option, filter_map}
use borrow.Author.Tests.{eqb-true}
use Rattle.std.specs.Prelude.{◌↔◌, slice_get}
use Rattle.std.specs.Option.{option_or, option_map}
use Rattle.std.proofs.Common.{◌≡◌, ◌≢◌, ◌∷◌, ◌++◌, ◌∙◌, ℕ, Bool, true, false, cond, List, [], map, Option, Some, None, inl, inr, refl, sym, ap, subst, nat_eq}
use Rattle.std.proofs.lemmas.List.{append-nil, append_assoc, map-append}
use Rattle.std.proofs.lemmas.List.Elements.{filter-append, filter_map-append}
use Rattle.sfs_base.specs.declared.numbers.NodeId.{NodeId}
use Rattle.sfs_base.specs.declared.numbers.Stamp.{Stamp}
use Rattle.sfs_base.proofs.BasicNumbers.{same_number}
use Rattle.sfs_base.proofs.BasicOptions.{none_some, some_same, or_none}
use Rattle.tree_laws.specs.declared.history.Entry.{Entry}
use Rattle.tree_laws.specs.declared.reply.Reply.{Reply}
use Rattle.tree_laws.specs.declared.reply.Reply.TheVariants as reply
use Rattle.tree_laws.specs.declared.turns.Turn.{Turn}
use Rattle.tree_laws.specs.declared.turns.TurnAct.{TurnAct}
use Rattle.tree_laws.specs.declared.turns.TurnAct.TheVariants as act
use Rattle.tree_laws.specs.History.{IsLegal}
use Rattle.tree_laws.specs.Tree.{TreeState}
use Rattle.cut_laws.specs.Closure.{Flush}
use Rattle.cut_laws.specs.Rules.{IsOneOf}
use Rattle.cut_laws.proofs.RunFacts.{in_filter}
use Rattle.cut_laws.proofs.Basics.{in_left}
use Rattle.turn_laws.specs.LawsTurns.{durable_by_act, durable_flush}
use Rattle.turn_laws.specs.Books.{flush_at}
use Rattle.turn_laws.specs.Recorded.{IsLiveFsync, last_turn, EndsWith, EndsBy}
use Rattle.turn_laws.specs.Ways.{Way, no_turn, lacked, returned, committed, at_once, doubted, opened_doubted, halted, granted_halted, begun_halted, opened_halted, acts_of_way, answer_of, own_turns}
use Rattle.turn_laws.proofs.Causes.{last_among}
use Rattle.turn_laws.proofs.Going.{own_both, none_own}
use Rattle.merge_laws.specs.Laws.{MergedTurns}
use Rattle.merge_laws.specs.Phases.{no_turn_yet, has_reserved, may_follow, phase_after, phase_of, goes_from, Phase, flies_in}
use Rattle.merge_laws.specs.Pens.{failed_in, turns_of_core, FsyncTurns, AgreesAll, FsyncsDiffer, PenAgrees}
use Rattle.merge_laws.specs.Plays.{PlayState, nothing_played, Plays, no_play, one_play, Aloft, PlaysAct, durables}
use Rattle.merge_laws.proofs.Lists.{among_at}
use Rattle.merge_laws.proofs.Phases.{first_waits, ways_go, ways_take_up, may_come, own_at}
use Rattle.merge_laws.proofs.Blocks.{pen_turns, AreStamped, has_or_lacks, none_of_pen, own_of_pen, first_apart, in_block, same_or_not, IsInBlock}
use Rattle.merge_laws.proofs.Fsyncs.{of_fsync, one_core, own_in_core, stamped_pen, penned, fsync_agrees, IsPenned}
use Rattle.merge_laws.proofs.Playing.{FitsPhases, fits_nothing, FitsPhase, fits_flies}
use Rattle.merge_laws.proofs.Follows.{failed_more}
use Rattle.merge_laws.proofs.PlaySteps.{goes_by_turn}
use Rattle.cut_laws.proofs.Listed.{to_filter}

-- the last of a list
pub last_of : {X : Type 0} → List X → Option X
last_of [] = None
last_of (x ∷ xs) = option_or (last_of xs) (Some x)

-- it is the last with a stamp
pub last_own : (stamp : ℕ) (turns : List Turn) → last_turn stamp turns ≡ last_of (own_turns stamp turns)
unfolding last_of
last_own stamp [] = refl
last_own stamp (turn ∷ turns) = elim (nat_eq turn.stamp.0 stamp) as
    (λ b. option_or (last_turn stamp turns) (cond b (Some turn) None) ≡ last_of (cond b (turn ∷ own_turns stamp turns) (own_turns stamp turns))) [
      | true ↦ ap (λ (o : Option Turn). option_or o (Some turn)) (last_own stamp turns)
      | false ↦ or_none (last_turn stamp turns) ∙ last_own stamp turns
    ]

pub last_mapped : {X Y : Type 0} (f : X → Y) (xs : List X) → option_map f (last_of xs) ≡ last_of (map f xs)
unfolding last_of
last_mapped f [] = refl
last_mapped f (x ∷ xs) = by (last_of xs) ∙ ap (λ o. option_or o (Some (f x))) (last_mapped f xs)
  where
    by : (o : Option _) → option_map f (option_or o (Some x)) ≡ option_or (option_map f o) (Some (f x))
    by None = refl
    by (Some y) = refl

-- the last behind others
pub last_behind : {X : Type 0} (front : List X) (x : X) → last_of (front ++ x ∷ []) ≡ Some x
unfolding last_of
last_behind [] x = refl
last_behind (y ∷ front) x = ap (λ o. option_or o (Some y)) (last_behind front x)

-- how an fsync ends by the act of its last turn
module _ (failed : Option ℕ) (given : Reply) (ack : Option ℕ) where
  ends_by : (last : Option Turn) (way : Way) → option_map (λ turn. turn.act) last ≡ last_of (acts_of_way way)
      → given ≡ answer_of way
      → ((turn : Turn) → last ≡ Some turn → turn.act ≡ act.Durable → ack ≡ Some turn.now)
      → ((faults : ℕ) → given ≡ reply.Stopped faults → failed ≡ Some faults) → EndsBy failed last given ack
  unfolding last_of
  ends_by None no_turn e given_is told stopped = given_is
  ends_by None (lacked kind need free) e given_is told stopped = absurd (none_some e)
  ends_by None returned e given_is told stopped = absurd (none_some e)
  ends_by None committed e given_is told stopped = absurd (none_some e)
  ends_by None at_once e given_is told stopped = absurd (none_some e)
  ends_by None doubted e given_is told stopped = absurd (none_some e)
  ends_by None opened_doubted e given_is told stopped = absurd (none_some e)
  ends_by None (halted faults) e given_is told stopped = absurd (none_some e)
  ends_by None (granted_halted faults) e given_is told stopped = absurd (none_some e)
  ends_by None (begun_halted faults) e given_is told stopped = absurd (none_some e)
  ends_by None (opened_halted faults) e given_is told stopped = absurd (none_some e)
  ends_by (Some turn) way e given_is told stopped = by way e given_is
    where
      at : (a : TurnAct) → turn.act ≡ a → EndsWith failed a turn given ack → EndsWith failed turn.act turn given ack
      at a same = subst (λ (b : TurnAct). EndsWith failed b turn given ack) (sym same)

      by : (w : Way) → Some turn.act ≡ last_of (acts_of_way w) → given ≡ answer_of w → EndsWith failed turn.act turn given ack
      by no_turn is answered = absurd (none_some (sym is))
      by (lacked kind need free) is answered = at (act.Short kind need free) (some_same is) answered
      by returned is answered = at act.GivenBack (some_same is) answered
      by committed is answered = at act.Durable (some_same is) (answered, told turn refl (some_same is))
      by at_once is answered = at act.Durable (some_same is) (answered, told turn refl (some_same is))
      by doubted is answered = at act.Fail (some_same is) answered
      by opened_doubted is answered = at act.Fail (some_same is) answered
      by (halted faults) is answered = at act.Halted (some_same is) (faults, stopped faults answered, answered)
      by (granted_halted faults) is answered = at act.Halted (some_same is) (faults, stopped faults answered, answered)
      by (begun_halted faults) is answered = at act.Halted (some_same is) (faults, stopped faults answered, answered)
      by (opened_halted faults) is answered = at act.Halted (some_same is) (faults, stopped faults answered, answered)

-- what is found last is among the own turns
last_is_own : (stamp : ℕ) (turns : List Turn) (turn : Turn) → last_turn stamp turns ≡ Some turn → IsOneOf (own_turns stamp turns) turn
last_is_own stamp turns turn e =
    let there = last_among stamp turns turn e in
    to_filter (λ (t : Turn). nat_eq t.stamp.0 stamp) turns turn there.0
    (subst (λ (n : ℕ). nat_eq turn.stamp.0 n ≡ true) there.1 (same_number turn.stamp.0))

module _ (first : TreeState) (history : List Entry) (before most : ℕ) (turns : List Turn) (pens : List (List FsyncTurns)) (legal : IsLegal first history)
    (agrees : AgreesAll first history before most turns pens) where
  -- each turn may come where it stands
  comes : (front back : List Turn) (turn : Turn) → turns ≡ front ++ turn ∷ back → may_follow (phase_of turn.stamp.0 front) turn.act ≡ true
  comes front back turn whole =
      let its = of_fsync first history before most turns pens legal agrees turn (subst (λ (l : List Turn). IsOneOf l turn) (sym whole)
      (among_at front turn back)) in
      let goes = (fsync_agrees first history before most turns pens legal agrees its.entry turn.node its.fsync).goes in
      let own : own_turns its.entry.stamp.0 turns ≡ own_turns turn.stamp.0 front ++ turn ∷ own_turns turn.stamp.0 back =
      ap (λ (s : Stamp). own_turns s.0 turns) (sym its.stamp) ∙ ap (own_turns turn.stamp.0) whole ∙ own_at turn front back in
      let acts : acts_of_way goes.way
      ≡ map (λ (t : Turn). t.act) (own_turns turn.stamp.0 front) ++ turn.act ∷ map (λ (t : Turn). t.act) (own_turns turn.stamp.0 back) =
      sym goes.acts ∙ ap (map (λ (t : Turn). t.act)) own
      ∙ map-append (λ (t : Turn). t.act) (own_turns turn.stamp.0 front) (turn ∷ own_turns turn.stamp.0 back) in
      may_come no_turn_yet (map (λ (t : Turn). t.act) (own_turns turn.stamp.0 front)) turn.act (map (λ (t : Turn). t.act) (own_turns turn.stamp.0 back))
      (ap (goes_from no_turn_yet) (sym acts) ∙ ways_go goes.way)

  -- What is known behind a front of the turns.
  record PlaysSo (front : List Turn) : Type 0 where
    at : PlayState
    plays : Plays front at
    fits : FitsPhases (λ stamp. phase_of stamp front) at.waiting at.aloft
    failed : at.failed ≡ failed_in front

  plays_all : (back front : List Turn) → turns ≡ front ++ back → PlaysSo front → PlaysSo turns
  plays_all [] front whole so = subst PlaysSo (sym (whole ∙ append-nil front)) so
  plays_all (turn ∷ back) front whole so =
      let went = goes_by_turn before most front turn so.at so.fits so.failed (comes front back turn whole) (agrees.counts front back turn whole) in
      plays_all back (front ++ turn ∷ []) (whole ∙ sym (append_assoc front (turn ∷ []) back)) (record {
        at = went.later;
        plays = one_play front turn so.at went.later so.plays went.plays;
        fits = went.fits_later;
        failed = went.failed_later ∙ sym (failed_more front turn);
      })

  played : PlaysSo turns
  played = plays_all turns [] refl (record { at = nothing_played; plays = no_play; fits = fits_nothing; failed = refl })

  -- at the end of its way no fsync has reserved and no more
  no_wait : (stamp : ℕ) → phase_of stamp turns ≡ has_reserved → ⊥
  no_wait stamp e = by (own_turns stamp turns) refl
    where
      by : (own : List Turn) → own_turns stamp turns ≡ own → ⊥
      by [] none = absurd (first_waits (sym (ap (λ (l : List Turn). phase_after no_turn_yet (map (λ (t : Turn). t.act) l)) none) ∙ e))
      by (turn ∷ own) some =
          let among = in_filter (λ (t : Turn). nat_eq t.stamp.0 stamp) turns turn
          (subst (λ (l : List Turn). IsOneOf l turn) (sym some) (inl refl)) in
          let its = of_fsync first history before most turns pens legal agrees turn among.0 in
          let goes = (fsync_agrees first history before most turns pens legal agrees its.entry turn.node its.fsync).goes in
          let stamps : its.entry.stamp.0 ≡ stamp =
          sym (ap (λ (s : Stamp). s.0) its.stamp) ∙ eqb-true turn.stamp.0 stamp among.1 in
          ways_take_up goes.way
          (ap (phase_after no_turn_yet) (sym goes.acts) ∙ ap (λ (n : ℕ). phase_of n turns) stamps ∙ e)

  nothing_left : (waiting : List ℕ) → ((stamp : ℕ) → IsOneOf waiting stamp → phase_of stamp turns ≡ has_reserved) → waiting ≡ []
  nothing_left [] waits = refl
  nothing_left (stamp ∷ waiting) waits = absurd (no_wait stamp (waits stamp (inl refl)))

  ends : (entry : Entry) (node : NodeId) → IsLiveFsync first history entry node
      → EndsBy (failed_in turns) (last_turn entry.stamp.0 turns) entry.reply entry.ack
  ends entry node live =
      let had = fsync_agrees first history before most turns pens legal agrees entry node live in
      ends_by (failed_in turns) entry.reply entry.ack (last_turn entry.stamp.0 turns) had.goes.way
      (ap (option_map (λ (t : Turn). t.act)) (last_own entry.stamp.0 turns) ∙ last_mapped (λ (t : Turn). t.act) (own_turns entry.stamp.0 turns)
      ∙ ap last_of had.goes.acts)
      had.goes.answered (λ turn e did. had.ack turn (last_is_own entry.stamp.0 turns turn e) did) had.stopped

  -- the turns of whole fsyncs of a pen leave none that has reserved and no more
  whole_fsyncs : (core : ℕ) (fsyncs done rest : List FsyncTurns) → slice_get pens core ≡ Some fsyncs → fsyncs ≡ done ++ rest → (stamp : ℕ)
      → phase_of stamp (pen_turns done) ≡ has_reserved → ⊥
  whole_fsyncs core fsyncs done rest pen whole stamp e = elim (has_or_lacks done stamp) [
    | inl has ↦
        let way = (agrees_core.each has.one (among has.one has.among)).way in
        ways_take_up way.way
        (ap (phase_after no_turn_yet) (sym way.acts)
        ∙ ap (λ (l : List Turn). phase_after no_turn_yet (map (λ (t : Turn). t.act) l))
        (sym (own_of_pen done has.one stamped apart has.among) ∙ ap (λ (s : ℕ). own_turns s (pen_turns done)) has.own)
        ∙ e)
    | inr lacks ↦
        first_waits
        (sym (ap (λ (l : List Turn). phase_after no_turn_yet (map (λ (t : Turn). t.act) l)) (none_of_pen done stamp stamped lacks)) ∙ e)
  ]
    where
      agrees_core : PenAgrees first history turns core fsyncs
      agrees_core = agrees.each core fsyncs pen

      among : (one : FsyncTurns) → IsOneOf done one → IsOneOf fsyncs one
      among one there = subst (λ (l : List FsyncTurns). IsOneOf l one) (sym whole) (in_left done rest one there)

      stamped : AreStamped done
      stamped one there = stamped_pen first history before most turns pens legal agrees core fsyncs pen one (among one there)

      apart : FsyncsDiffer done
      apart = first_apart done rest (subst FsyncsDiffer whole agrees_core.once)

  own_waits : (front back : List Turn) (turn other : Turn) → turns ≡ front ++ turn ∷ back → IsOneOf front other → other.core.0 ≡ turn.core.0
      → phase_of other.stamp.0 front ≡ has_reserved → other.stamp.0 ≡ turn.stamp.0
  own_waits front back turn other whole one same waits = elim (same_or_not other.stamp.0 turn.stamp.0) [
    | inl e ↦ e
    | inr apart ↦
        absurd
        (whole_fsyncs turn.core.0 pen.fsyncs block.done (block.one ∷ block.rest) pen.pen block.whole other.stamp.0
        (sym (ap (λ (l : List Turn). phase_after no_turn_yet (map (λ (t : Turn). t.act) l)) (own_front apart)) ∙ waits))
  ]
    where
      in_turns : (t : Turn) → IsOneOf front t → IsOneOf turns t
      in_turns t there = subst (λ (l : List Turn). IsOneOf l t) (sym whole) (in_left front (turn ∷ back) t there)

      pen : IsPenned first history before most turns pens legal agrees turn
      pen = penned first history before most turns pens legal agrees turn (subst (λ (l : List Turn). IsOneOf l turn) (sym whole) (among_at front turn back))

      core_front : turns_of_core turn.core.0 (front ++ turn ∷ back) ≡ turns_of_core turn.core.0 front ++ turn ∷ turns_of_core turn.core.0 back
      core_front =
          filter-append (λ (t : Turn). nat_eq t.core.0 turn.core.0) front (turn ∷ back)
          ∙ ap (λ (b : Bool). turns_of_core turn.core.0 front ++ cond b (turn ∷ turns_of_core turn.core.0 back) (turns_of_core turn.core.0 back))
          (same_number turn.core.0)

      block : IsInBlock pen.fsyncs (turns_of_core turn.core.0 front) turn
      block =
          in_block pen.fsyncs (turns_of_core turn.core.0 front) turn (turns_of_core turn.core.0 back)
          (sym (agrees.merges.own turn.core.0 pen.fsyncs pen.pen) ∙ ap (turns_of_core turn.core.0) whole ∙ core_front)

      block_among : IsOneOf pen.fsyncs block.one
      block_among = subst (λ (l : List FsyncTurns). IsOneOf l block.one) (sym block.whole) (among_at block.done block.one block.rest)

      block_stamp : (t : Turn) → IsOneOf block.one.turns t → t.stamp.0 ≡ block.one.stamp
      block_stamp = stamped_pen first history before most turns pens legal agrees turn.core.0 pen.fsyncs pen.pen block.one block_among

      block_own : turn.stamp.0 ≡ block.one.stamp
      block_own = block_stamp turn (subst (λ (l : List Turn). IsOneOf l turn) (sym block.turns_are) (among_at block.some turn block.others))

      cores : (t : Turn) → IsOneOf turns t → t.stamp.0 ≡ other.stamp.0 → t.core.0 ≡ turn.core.0
      cores t there e = one_core first history before most turns pens legal agrees t other there (in_turns other one) e ∙ same

      own_front : other.stamp.0 ≢ turn.stamp.0 → own_turns other.stamp.0 front ≡ own_turns other.stamp.0 (pen_turns block.done)
      own_front apart =
          sym (own_in_core first history before most turns pens legal agrees front (turn ∷ back) whole turn.core.0 other.stamp.0 cores)
          ∙ ap (own_turns other.stamp.0) block.front_is ∙ own_both other.stamp.0 (pen_turns block.done) block.some
          ∙ ap (λ (l : List Turn). own_turns other.stamp.0 (pen_turns block.done) ++ l)
          (none_own other.stamp.0 block.some
          (λ t there e. apart
          (sym e
          ∙ block_stamp t (subst (λ (l : List Turn). IsOneOf l t) (sym block.turns_are) (in_left block.some (turn ∷ block.others) t there))
          ∙ sym block_own)))
          ∙ append-nil (own_turns other.stamp.0 (pen_turns block.done))

-- done are those of durable turns
done_are : {turns : List Turn} {at : PlayState} → Plays turns at → at.done ≡ map (λ flush. flush.stamp) (durables turns)
done_are no_play = refl
done_are (one_play turns turn at later plays did) =
    by turn.act did (done_are plays) ∙ sym (joined turn.act)
    ∙ ap (map (λ (flush : Flush). flush.stamp)) (sym (filter_map-append durable_flush turns (turn ∷ [])))
  where
    joined : (a : TurnAct) → map (λ (flush : Flush). flush.stamp) (filter_map durable_flush turns ++ cons_option (durable_by_act a (flush_at turn)) [])
        ≡ map (λ (flush : Flush). flush.stamp) (filter_map durable_flush turns) ++ map (λ (flush : Flush). flush.stamp) (cons_option
        (durable_by_act a (flush_at turn)) [])
    joined a = map-append (λ (flush : Flush). flush.stamp) (filter_map durable_flush turns) (cons_option (durable_by_act a (flush_at turn)) [])

    by : (a : TurnAct) → PlaysAct a turns at turn later → at.done ≡ map (λ (flush : Flush). flush.stamp) (durables turns)
        → later.done ≡ map (λ (flush : Flush). flush.stamp) (durables turns) ++ map (λ (flush : Flush). flush.stamp) (cons_option (durable_by_act a
        (flush_at turn)) [])
    by act.Granted is was = ap (λ (s : PlayState). s.done) is.later_is ∙ was ∙ sym (append-nil _)
    by act.GivenBack is was = ap (λ (s : PlayState). s.done) is.later_is ∙ was ∙ sym (append-nil _)
    by (act.Short kind need free) is was = ap (λ (s : PlayState). s.done) is.later_is ∙ was ∙ sym (append-nil _)
    by act.Halted is was = ap (λ (s : PlayState). s.done) is.later_is ∙ was ∙ sym (append-nil _)
    by act.CutAt is was = ap (λ (s : PlayState). s.done) is.later_is ∙ was ∙ sym (append-nil _)
    by act.Opened is was = ap (λ (s : PlayState). s.done) is.later_is ∙ was ∙ sym (append-nil _)
    by act.Fail is was = ap (λ (s : PlayState). s.done) is.later_is ∙ was ∙ sym (append-nil _)
    by act.Durable is was = ap (λ (s : PlayState). s.done) is.later_is ∙ ap (λ (l : List ℕ). l ++ turn.stamp.0 ∷ []) was

-- the stamps of what is aloft
aloft_are : (aloft : List Aloft) (phase : ℕ → Phase) → ((flight : Aloft) → IsOneOf aloft flight → FitsPhase flight.opened (phase flight.stamp))
    → ((stamp : ℕ) → flies_in (phase stamp) ≡ true → (flight : Aloft) × IsOneOf aloft flight × (flight.stamp ≡ stamp)) → (stamp : ℕ)
    → IsOneOf (map (λ flight. flight.stamp) aloft) stamp ↔ (flies_in (phase stamp) ≡ true)
aloft_are aloft phase flies flying stamp = (
  there aloft flies,
  λ e.
      let its = flying stamp e in
      subst (IsOneOf (map (λ (flight : Aloft). flight.stamp) aloft)) its.2 (here aloft its.0 its.1),
)
  where
    there : (l : List Aloft) → ((flight : Aloft) → IsOneOf l flight → FitsPhase flight.opened (phase flight.stamp))
        → IsOneOf (map (λ (flight : Aloft). flight.stamp) l) stamp → flies_in (phase stamp) ≡ true
    there [] all one = absurd one
    there (flight ∷ l) all (inl e) =
        ap (λ (n : ℕ). flies_in (phase n)) (sym e) ∙ fits_flies flight.opened (phase flight.stamp) (all flight (inl refl))
    there (flight ∷ l) all (inr one) = there l (λ other among. all other (inr among)) one

    here : (l : List Aloft) (flight : Aloft) → IsOneOf l flight → IsOneOf (map (λ (f : Aloft). f.stamp) l) flight.stamp
    here [] flight one = absurd one
    here (f ∷ l) flight (inl e) = inl (ap (λ (x : Aloft). x.stamp) e)
    here (f ∷ l) flight (inr one) = inr (here l flight one)

pub merged_turns : MergedTurns
merged_turns first history before most turns pens legal agrees =
    let so = played first history before most turns pens legal agrees in
    record {
      goes = λ entry node live. (fsync_agrees first history before most turns pens legal agrees entry node live).goes;
      each = of_fsync first history before most turns pens legal agrees;
      plays = record {
        at = so.at;
        plays = so.plays;
        done = done_are so.plays;
        failed = so.failed;
        waits = λ stamp. (so.fits.waits stamp, so.fits.reserved stamp);
        flies = aloft_are so.at.aloft (λ stamp. phase_of stamp turns) so.fits.flies so.fits.flying;
      };
      settled = nothing_left first history before most turns pens legal agrees so.at.waiting so.fits.waits;
      own = own_waits first history before most turns pens legal agrees;
      ends = ends first history before most turns pens legal agrees;
    }
