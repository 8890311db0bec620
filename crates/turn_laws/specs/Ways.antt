-- The ways that the turns of an fsync go, by what it did.
use Rattle.std.specs.Prelude.{◌≡◌, ◌⊎◌, ℕ, ◌<◌, ◌==◌, Bool, List, [], ◌∷◌, map, filter}
use Rattle.sfs_base.specs.declared.numbers.NodeId.{NodeId}
use Rattle.sfs_base.specs.declared.numbers.SpaceKind.{SpaceKind}
use Rattle.tree_laws.specs.declared.history.Entry.{Entry}
use Rattle.tree_laws.specs.declared.reply.Reply.{Reply}
use Rattle.tree_laws.specs.declared.reply.Reply.TheVariants as reply
use Rattle.tree_laws.specs.declared.turns.Turn.{Turn}
use Rattle.tree_laws.specs.declared.turns.TurnAct.{TurnAct}
use Rattle.tree_laws.specs.declared.turns.TurnAct.TheVariants as act
use Rattle.tree_laws.specs.Tree.{TreeState}
use Rattle.cut_laws.specs.Rules.{IsOneOf}
use Rattle.turn_laws.specs.Recorded.{IsLiveFsync}

-- What an fsync did.
pub data Way : Type 0 where
  -- memory was wanting before its first turn
  no_turn : Way
  -- there was too little of this kind: it needed more than was free
  lacked : SpaceKind → ℕ → ℕ → Way
  -- it reserved what it needed, and gave that back
  returned : Way
  -- it reserved, and its commit became durable
  committed : Way
  -- it needed nothing, and was durable at once
  at_once : Way
  -- the disk failed its commit, before the gate was opened
  doubted : Way
  -- or behind that
  opened_doubted : Way
  -- another commit had failed, with this count of faults, before its first turn
  halted : ℕ → Way
  -- once it had reserved
  granted_halted : ℕ → Way
  -- once its commit had begun
  begun_halted : ℕ → Way
  -- or once that was opened
  opened_halted : ℕ → Way

-- the acts of its turns, in their order
abbrev pub acts_of_way : Way → List TurnAct
acts_of_way no_turn = []
acts_of_way (lacked kind need free) = act.Short kind need free ∷ []
acts_of_way returned = act.Granted ∷ act.GivenBack ∷ []
acts_of_way committed = act.Granted ∷ act.CutAt ∷ act.Opened ∷ act.Durable ∷ []
acts_of_way at_once = act.CutAt ∷ act.Opened ∷ act.Durable ∷ []
acts_of_way doubted = act.Granted ∷ act.CutAt ∷ act.Fail ∷ []
acts_of_way opened_doubted = act.Granted ∷ act.CutAt ∷ act.Opened ∷ act.Fail ∷ []
acts_of_way (halted faults) = act.Halted ∷ []
acts_of_way (granted_halted faults) = act.Granted ∷ act.Halted ∷ []
acts_of_way (begun_halted faults) = act.Granted ∷ act.CutAt ∷ act.Halted ∷ []
acts_of_way (opened_halted faults) = act.Granted ∷ act.CutAt ∷ act.Opened ∷ act.Halted ∷ []

-- and its answer
abbrev pub answer_of : Way → Reply
answer_of no_turn = reply.NoMemory
answer_of (lacked kind need free) = reply.NoSpace kind need free
answer_of returned = reply.NoMemory
answer_of committed = reply.Ok
answer_of at_once = reply.Ok
answer_of doubted = reply.DiskFailed
answer_of opened_doubted = reply.DiskFailed
answer_of (halted faults) = reply.Stopped faults
answer_of (granted_halted faults) = reply.Stopped faults
answer_of (begun_halted faults) = reply.Stopped faults
answer_of (opened_halted faults) = reply.Stopped faults

-- the turns with a stamp, in their order
abbrev pub own_turns : ℕ → List Turn → List Turn
own_turns stamp turns = filter (λ turn. turn.stamp.0 == stamp) turns

-- the number of the commit that a turn has: one that begins it, opens it, makes it durable or fails it has the commit's, and any other has this
-- too, or none, which is 0
abbrev pub HasCommit : ℕ → TurnAct → ℕ → Type 0
HasCommit number act.CutAt commit = commit ≡ number
HasCommit number act.Opened commit = commit ≡ number
HasCommit number act.Durable commit = commit ≡ number
HasCommit number act.Fail commit = commit ≡ number
HasCommit number _ commit = (commit ≡ number) ⊎ (commit ≡ 0)

-- The turns of an fsync with this answer go one of the ways, and those of its commit have one number.
pub record GoesWay (turns : List Turn) (given : Reply) : Type 0 where
  pub way : Way
  pub acts : map (λ turn. turn.act) turns ≡ acts_of_way way
  pub answered : given ≡ answer_of way
  pub number : ℕ
  pub numbered : 0 < number
  pub commits : (turn : Turn) → IsOneOf turns turn → HasCommit number turn.act turn.commit

-- Each fsync of a live node goes one of the ways: so it begins one commit at most, and does nothing behind its end.
abbrev pub EachGoes : TreeState → List Entry → List Turn → Type 0
EachGoes first history turns =
    (entry : Entry) (node : NodeId) → IsLiveFsync first history entry node → GoesWay (own_turns entry.stamp.0 turns) entry.reply
