-- Which further cells a rename asks for, by what it has looked at.
use Rattle.std.specs.Prelude.{◌==◌, Bool, true, false, not, ◌&&◌, List, [], ◌∷◌, ◌++◌, Option, Some, None, is_some, if◌then◌else◌}
use Rattle.sfs_base.specs.Name.{bucket as name_bucket}
use Rattle.sfs_base.specs.declared.numbers.NodeId.{NodeId}
use Rattle.mem_values.specs.declared.cell_id.CellId.{CellId}
use Rattle.mem_values.specs.declared.cell_id.CellId.TheVariants as id
use Rattle.mem_rename.specs.declared.sides.Move.{Move}
use Rattle.mem_rename.specs.declared.looking.Look.{Look}
use Rattle.mem_rename.specs.declared.plans.Plan.{Plan}
use Rattle.mem_rename.specs.Cells.{buckets_of}
use Rattle.mem_rename.specs.Decisions.{same_child}

-- no further cell
abbrev pub no_plan : Plan
no_plan = record { old_file = false; new_file = false; comes = None; directory = None; file = None }

-- whether two nodes that may be there are one
abbrev pub is_same_node : Option NodeId → Option NodeId → Bool
is_same_node None None = true
is_same_node (Some node) (Some other) = node.0 == other.0
is_same_node _ _ = false

-- whether two truth values are one
abbrev pub same_truth : Bool → Bool → Bool
same_truth true b = b
same_truth false b = not b

-- whether two plans are one
abbrev pub is_plan : Plan → Plan → Bool
is_plan plan other =
    same_truth plan.old_file other.old_file && same_truth plan.new_file other.new_file && is_same_node plan.comes other.comes
    && is_same_node plan.directory other.directory && is_same_node plan.file other.file

-- What a rename asks for: a directory that does not stand as a file, the new one where the old one stands; a directory that would come to
-- another one that stands; and what would be replaced by what is of its kind.
abbrev pub plan_by : Look → Move → Plan
plan_by look move = record {
  old_file = not look.stands;
  new_file = look.stands && not look.to_stands;
  comes = if look.to_stands && not (move.directory.0 == move.to_directory.0) && look.child_is_directory then look.child else None;
  directory = if look.child_is_directory && look.there_is_directory && not (same_child look.child look.there) then look.there else None;
  file = if is_some look.child && not look.child_is_directory && not look.there_is_directory && not
      (same_child look.child look.there) then look.there else None;
}

-- the cell of a node as a file, where it is asked for
abbrev pub file_if : Bool → NodeId → List CellId
file_if true node = id.File node ∷ []
file_if false node = []

-- the buckets of a directory that may be there, and the cell of a file
abbrev pub buckets_if : Option NodeId → List CellId
buckets_if None = []
buckets_if (Some node) = buckets_of node

abbrev pub file_of : Option NodeId → List CellId
file_of None = []
file_of (Some node) = id.File node ∷ []

-- the cells of a plan but for the lock
abbrev pub plan_cells : Move → Plan → List CellId
plan_cells move plan = file_if plan.old_file move.directory ++ file_if plan.new_file move.to_directory ++ buckets_if plan.comes ++ buckets_if plan.directory
    ++ file_of plan.file

-- both buckets, and the cells of a plan
abbrev pub asked_cells : Move → Plan → List CellId
asked_cells move plan =
    id.Bucket move.directory (name_bucket move.name) ∷ id.Bucket move.to_directory (name_bucket move.to_name) ∷ plan_cells move plan
