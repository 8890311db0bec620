-- What a rename has looked at of its new row is what the bucket has that it lies in.
use Rattle.std.proofs.Common.{◌≡◌, ℕ, Option, Some, None, refl, ap, ◌∙◌}
use Rattle.std.specs.Prelude.{option_map}
use Rattle.std.specs.FinMap.{get}
use Rattle.sfs_base.specs.declared.numbers.NodeId.{NodeId}
use Rattle.tree_laws.specs.NameRow.{number_of}
use Rattle.tree_laws.specs.Logged.{numbered_node}
use Rattle.mem_values.specs.declared.bucket.Bucket.{Bucket}
use Rattle.mem_rename.specs.declared.looking.Look.{Look}
use Rattle.mem_rename.specs.declared.shifts.Shift.{Shift}
use Rattle.mem_rename.specs.declared.sides.Move.{Move}
use Rattle.mem_rename.specs.Decisions.{look_by}
use Rattle.mem_rename.specs.Moving.{ShowsThere}
use Rattle.mem_rename.specs.Shifts.{shift_of}

number_back : (child : Option ℕ) → number_of (option_map numbered_node child) ≡ child
number_back None = refl
number_back (Some child) = refl

pub shows_seen : (old new : Bucket) (move : Move) (child : NodeId) (look : Look) (shift : Shift) → look ≡ look_by old new move → shift ≡ shift_of look move child
    → ShowsThere move.to_name shift new
shows_seen old new move child look shift is moves = record {
  rows = ap (λ (s : Shift). number_of s.there) moves ∙ ap (λ (l : Look). number_of l.there) is ∙ number_back (get new.rows move.to_name);
  directories = ap (λ (s : Shift). s.there_is_directory) moves ∙ ap (λ (l : Look). l.there_is_directory) is;
}
