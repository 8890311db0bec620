-- Where an fsync is behind its turns, and that each of them may come where it stands.
use Rattle.std.proofs.Common.{◌≡◌, ◌≢◌, ◌∷◌, ◌++◌, ◌∙◌, ℕ, Bool, true, false, cond, List, [], map, refl, sym, ap}
use Rattle.std.proofs.lemmas.List.{append-nil, map-append}
use Rattle.sfs_base.proofs.BasicNumbers.{same_number, not_same}
use Rattle.sfs_base.proofs.BasicTruth.{and_first, and_second}
use Rattle.tree_laws.specs.declared.turns.Turn.{Turn}
use Rattle.tree_laws.specs.declared.turns.TurnAct.{TurnAct}
use Rattle.tree_laws.specs.declared.turns.TurnAct.TheVariants as act
use Rattle.turn_laws.specs.Ways.{Way, no_turn, lacked, returned, committed, at_once, doubted, opened_doubted, halted, granted_halted, begun_halted, opened_halted, acts_of_way, own_turns}
use Rattle.turn_laws.proofs.Going.{own_both}
use Rattle.merge_laws.specs.Phases.{Phase, no_turn_yet, has_reserved, is_durable, flies_in, after_halt, next_phase, may_follow, phase_after, goes_from, phase_of}

pub ways_go : (way : Way) → goes_from no_turn_yet (acts_of_way way) ≡ true
ways_go no_turn = refl
ways_go (lacked kind need free) = refl
ways_go returned = refl
ways_go committed = refl
ways_go at_once = refl
ways_go doubted = refl
ways_go opened_doubted = refl
ways_go (halted faults) = refl
ways_go (granted_halted faults) = refl
ways_go (begun_halted faults) = refl
ways_go (opened_halted faults) = refl

-- no way ends where an fsync has reserved and no more
pub ways_take_up : (way : Way) → phase_after no_turn_yet (acts_of_way way) ≡ has_reserved → ⊥
ways_take_up no_turn e = cc
ways_take_up (lacked kind need free) e = cc
ways_take_up returned e = cc
ways_take_up committed e = cc
ways_take_up at_once e = cc
ways_take_up doubted e = cc
ways_take_up opened_doubted e = cc
ways_take_up (halted faults) e = cc
ways_take_up (granted_halted faults) e = cc
ways_take_up (begun_halted faults) e = cc
ways_take_up (opened_halted faults) e = cc

-- of acts that go, each may come where it stands
pub may_come : (phase : Phase) (front : List TurnAct) (did : TurnAct) (back : List TurnAct) → goes_from phase (front ++ did ∷ back) ≡ true
    → may_follow (phase_after phase front) did ≡ true
may_come phase [] did back goes = and_first (may_follow phase did) (goes_from (next_phase phase did) back) goes
may_come phase (first ∷ front) did back goes =
    may_come (next_phase phase first) front did back (and_second (may_follow phase first) (goes_from (next_phase phase first) (front ++ did ∷ back)) goes)

-- and those behind a front go on from its phase
pub rest_goes : (phase : Phase) (front back : List TurnAct) → goes_from phase (front ++ back) ≡ true → goes_from (phase_after phase front) back ≡ true
rest_goes phase [] back goes = goes
rest_goes phase (first ∷ front) back goes =
    rest_goes (next_phase phase first) front back (and_second (may_follow phase first) (goes_from (next_phase phase first) (front ++ back)) goes)

pub phase_joined : (phase : Phase) (front back : List TurnAct) → phase_after phase (front ++ back) ≡ phase_after (phase_after phase front) back
phase_joined phase [] back = refl
phase_joined phase (first ∷ front) back = phase_joined (next_phase phase first) front back

-- behind a turn no fsync is where it was before its first one
never_first : (phase : Phase) (did : TurnAct) → next_phase phase did ≡ no_turn_yet → ⊥
never_first phase act.Granted e = cc
never_first phase act.GivenBack e = cc
never_first phase (act.Short kind need free) e = cc
never_first phase act.Halted e = by (flies_in phase) e
  where
    by : (b : Bool) → after_halt b ≡ no_turn_yet → ⊥
    by true f = cc
    by false f = cc
never_first phase act.CutAt e = cc
never_first phase act.Opened e = cc
never_first phase act.Durable e = cc
never_first phase act.Fail e = cc

never_again : (phase : Phase) (did : TurnAct) (acts : List TurnAct) → phase_after phase (did ∷ acts) ≡ no_turn_yet → ⊥
never_again phase did [] e = never_first phase did e
never_again phase did (next ∷ acts) e = never_again (next_phase phase did) next acts e

none_yet : (turns : List Turn) → phase_after no_turn_yet (map (λ turn. turn.act) turns) ≡ no_turn_yet → turns ≡ []
none_yet [] e = refl
none_yet (turn ∷ turns) e = absurd (never_again no_turn_yet turn.act (map (λ (t : Turn). t.act) turns) e)

pub first_turn : (stamp : ℕ) (turns : List Turn) → phase_of stamp turns ≡ no_turn_yet → own_turns stamp turns ≡ []
first_turn stamp turns e = none_yet (own_turns stamp turns) e

-- nothing comes behind a Durable
pub durable_is_last : (phase : Phase) (front : List TurnAct) (did : TurnAct) (back : List TurnAct)
    → goes_from phase (front ++ act.Durable ∷ did ∷ back) ≡ true → ⊥
durable_is_last phase front did back goes =
    none did
    (may_come is_durable [] did back
    (and_second (may_follow (phase_after phase front) act.Durable) (goes_from is_durable (did ∷ back))
    (rest_goes phase front (act.Durable ∷ did ∷ back) goes)))
  where
    none : (a : TurnAct) → may_follow is_durable a ≡ true → ⊥
    none act.Granted e = cc
    none act.GivenBack e = cc
    none (act.Short kind need free) e = cc
    none act.Halted e = cc
    none act.CutAt e = cc
    none act.Opened e = cc
    none act.Durable e = cc
    none act.Fail e = cc

-- the own turns of the fsync of a turn, with that turn at its place
pub own_at : (turn : Turn) (front back : List Turn)
    → own_turns turn.stamp.0 (front ++ turn ∷ back) ≡ own_turns turn.stamp.0 front ++ turn ∷ own_turns turn.stamp.0 back
own_at turn front back =
    own_both turn.stamp.0 front (turn ∷ back)
    ∙ ap
    (λ (b : Bool). own_turns turn.stamp.0 front ++ cond b (turn ∷ own_turns turn.stamp.0 back) (own_turns turn.stamp.0 back))
    (same_number turn.stamp.0)

-- what one turn more does to the phases: its fsync goes on, and each other stays
pub phase_on : (turns : List Turn) (turn : Turn) → phase_of turn.stamp.0 (turns ++ turn ∷ []) ≡ next_phase (phase_of turn.stamp.0 turns) turn.act
phase_on turns turn =
    ap (λ (l : List Turn). phase_after no_turn_yet (map (λ (t : Turn). t.act) l)) (own_at turn turns [])
    ∙ ap (phase_after no_turn_yet) (map-append (λ (t : Turn). t.act) (own_turns turn.stamp.0 turns) (turn ∷ []))
    ∙ phase_joined no_turn_yet (map (λ (t : Turn). t.act) (own_turns turn.stamp.0 turns)) (turn.act ∷ [])

pub phase_stays : (turns : List Turn) (turn : Turn) (stamp : ℕ) → stamp ≢ turn.stamp.0 → phase_of stamp (turns ++ turn ∷ []) ≡ phase_of stamp turns
phase_stays turns turn stamp apart =
    ap (λ (l : List Turn). phase_after no_turn_yet (map (λ (t : Turn). t.act) l))
    (own_both stamp turns (turn ∷ [])
    ∙ ap (λ (b : Bool). own_turns stamp turns ++ cond b (turn ∷ []) []) (not_same turn.stamp.0 stamp (λ e. apart (sym e)))
    ∙ append-nil (own_turns stamp turns))

-- an fsync without turns does not wait
pub first_waits : no_turn_yet ≡ has_reserved → ⊥
first_waits e = cc
