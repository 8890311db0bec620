-- What a rename logs of a child that moves, in the words of the code.
use Rattle.std.specs.Prelude.{◌≡◌, ℕ, ◌≤◌, Bool, true, List, [], ◌∷◌, ◌++◌, Option, Some, None, is_some}
use Rattle.tree_laws.specs.declared.changes.Act.TheVariants.{Add, Remove}
use Rattle.tree_laws.specs.declared.changes.Change.{Change}
use Rattle.tree_laws.specs.Tree.{kind_if}
use Rattle.tree_laws.specs.Changes.{other_side}
use Rattle.tree_laws.specs.Logged.{log_entry}
use Rattle.sfs_base.specs.declared.numbers.NodeId.{NodeId}
use Rattle.mem_rename.specs.declared.sides.Move.{Move}
use Rattle.mem_rename.specs.declared.looking.Look.{Look}
use Rattle.mem_rename.specs.declared.shifts.Shift.{Shift}
use Rattle.mem_rename.specs.declared.shifts.Copied.{Copied}
use Rattle.mem_rename.specs.declared.shifts.Noted.{Noted}

-- the child of a row goes from it
abbrev pub gone_entry : ℕ → ℕ → List ℕ → NodeId → Bool → ℕ → Change
gone_entry stamp directory name child is_directory other = log_entry stamp directory name child.0 (kind_if is_directory) Remove (other_side directory other) []

-- what is replaced goes, where something is there
abbrev pub gone_by : Shift → List ℕ → ℕ → Option NodeId → List Change
gone_by shift to_name stamp None = []
gone_by shift to_name stamp (Some there) = gone_entry stamp shift.to.0 to_name there shift.there_is_directory shift.from.0 ∷ []

-- What is logged: what is replaced goes, the old row goes, and the new row comes with the directories above it.
abbrev pub shift_logged : Shift → List ℕ → List ℕ → ℕ → List ℕ → List Change
shift_logged shift name to_name stamp above =
    gone_by shift to_name stamp shift.there
    ++ gone_entry stamp shift.from.0 name shift.child shift.child_is_directory shift.to.0
    ∷ log_entry stamp shift.to.0 to_name shift.child.0 (kind_if shift.child_is_directory) Add (other_side shift.to.0 shift.from.0) above
    ∷ []

-- The names of a rename once more, the new one twice, and room for its changes.
pub record IsCopiedMove (move : Move) (copied : Copied) : Type 0 where
  pub old : copied.old ≡ move.name
  pub new : copied.new ≡ move.to_name
  pub row : copied.row ≡ move.to_name
  pub none : copied.changes.items ≡ []
  pub spare : 3 ≤ copied.changes.spare

-- The names of a rename once more, the new one twice where something is replaced, and room for its changes.
pub record IsNotedMove (move : Move) (shift : Shift) (noted : Noted) : Type 0 where
  pub gone : is_some shift.there ≡ true → noted.gone ≡ Some move.to_name
  pub old : noted.old ≡ move.name
  pub new : noted.new ≡ move.to_name
  pub none : noted.changes.items ≡ []
  pub spare : 3 ≤ noted.changes.spare

-- the move of a child by what a rename has looked at
abbrev pub shift_of : Look → Move → NodeId → Shift
shift_of look move child = record {
  from = move.directory;
  to = move.to_directory;
  child = child;
  there = look.there;
  child_is_directory = look.child_is_directory;
  there_is_directory = look.there_is_directory;
}
