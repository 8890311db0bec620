-- The laws of ways, each of which a function of the module laws proves.
use Rattle.std.specs.Prelude.{◌≡◌, true, List, [], ◌∷◌, ◌++◌}
use Rattle.sfs_base.specs.declared.numbers.NodeId.{NodeId}
use Rattle.tree_laws.specs.declared.call.Call.TheVariants as call
use Rattle.tree_laws.specs.declared.history.Entry.{Entry}
use Rattle.tree_laws.specs.declared.turns.Turn.{Turn}
use Rattle.tree_laws.specs.declared.turns.TurnAct.{TurnAct}
use Rattle.tree_laws.specs.History.{tree_after, IsLegal}
use Rattle.tree_laws.specs.Tree.{TreeState, is_alive}
use Rattle.cut_laws.specs.Rules.{IsOneOf}
use Rattle.turn_laws.specs.OneThread.{ComesNext}
use Rattle.turn_laws.specs.Recorded.{IsOfFsync}
use Rattle.turn_laws.specs.Ways.{GoesWay, EachGoes}

-- Of no call there is no fsync.
abbrev pub NoCallGoes : Type 0
NoCallGoes = (first : TreeState) → EachGoes first [] []

-- Turns go on by those of one entry, which comes next: all of these have its stamp, and where it is an fsync of a live node they go one of the
-- ways with its answer.
pub record GoOnBy (first : TreeState) (history : List Entry) (entry : Entry) (more : List Turn) : Type 0 where
  pub next : ComesNext first history entry
  pub own : (turn : Turn) → IsOneOf more turn → turn.stamp.0 ≡ entry.stamp.0
  pub goes : (node : NodeId) → entry.call ≡ call.Fsync node → is_alive (tree_after first history) node.0 ≡ true → GoesWay more entry.reply

-- Then each fsync of the longer history goes one of the ways.
abbrev pub WaysGoOn : Type 0
WaysGoOn = (first : TreeState) (history : List Entry) (entry : Entry) (turns more : List Turn) → IsLegal first history
    → ((turn : Turn) → IsOneOf turns turn → IsOfFsync first history turn) → EachGoes first history turns → GoOnBy first history entry more
    → EachGoes first (history ++ entry ∷ []) (turns ++ more)
