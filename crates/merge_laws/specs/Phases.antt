-- How far an fsync is by the acts of its turns so far, and which act may come next.
use Rattle.std.specs.Prelude.{◌&&◌, ◌∷◌, ℕ, Bool, true, false, List, [], map}
use Rattle.tree_laws.specs.declared.turns.Turn.{Turn}
use Rattle.tree_laws.specs.declared.turns.TurnAct.{TurnAct}
use Rattle.tree_laws.specs.declared.turns.TurnAct.TheVariants as act
use Rattle.turn_laws.specs.Ways.{own_turns}

-- How far an fsync is.
pub data Phase : Type 0 where
  -- it has had no turn
  no_turn_yet : Phase
  -- it has reserved, and its commit has not begun
  has_reserved : Phase
  -- its commit has begun
  has_begun : Phase
  -- its commit was opened
  has_opened : Phase
  -- its commit is durable
  is_durable : Phase
  -- it has come to its end with no commit
  has_ended : Phase
  -- its commit was begun, and stays as it is since a commit has failed
  is_stuck : Phase

-- whether the commit of an fsync is between its beginning and its end: a commit that is stuck has none
abbrev pub flies_in : Phase → Bool
flies_in has_begun = true
flies_in has_opened = true
flies_in is_stuck = true
flies_in _ = false

-- where an fsync is behind a turn that halts
abbrev pub after_halt : Bool → Phase
after_halt true = is_stuck
after_halt false = has_ended

-- where an fsync is behind an act
abbrev pub next_phase : Phase → TurnAct → Phase
next_phase phase act.Granted = has_reserved
next_phase phase act.GivenBack = has_ended
next_phase phase (act.Short kind need free) = has_ended
next_phase phase act.Halted = after_halt (flies_in phase)
next_phase phase act.CutAt = has_begun
next_phase phase act.Opened = has_opened
next_phase phase act.Durable = is_durable
next_phase phase act.Fail = is_stuck

-- whether an act may come in a phase
abbrev pub may_follow : Phase → TurnAct → Bool
may_follow no_turn_yet act.Granted = true
may_follow no_turn_yet (act.Short kind need free) = true
may_follow no_turn_yet act.CutAt = true
may_follow no_turn_yet act.Halted = true
may_follow has_reserved act.GivenBack = true
may_follow has_reserved act.CutAt = true
may_follow has_reserved act.Halted = true
may_follow has_begun act.Opened = true
may_follow has_begun act.Fail = true
may_follow has_begun act.Halted = true
may_follow has_opened act.Durable = true
may_follow has_opened act.Fail = true
may_follow has_opened act.Halted = true
may_follow _ _ = false

-- the phase behind acts, and whether each of them may come where it stands
abbrev pub phase_after : Phase → List TurnAct → Phase
phase_after phase [] = phase
phase_after phase (did ∷ acts) = phase_after (next_phase phase did) acts

abbrev pub goes_from : Phase → List TurnAct → Bool
goes_from phase [] = true
goes_from phase (did ∷ acts) = may_follow phase did && goes_from (next_phase phase did) acts

-- the phase of the fsync with a stamp, behind these turns
abbrev pub phase_of : ℕ → List Turn → Phase
phase_of stamp turns = phase_after no_turn_yet (map (λ turn. turn.act) (own_turns stamp turns))
