-- What a core still holds, and of which kind it is.
use Rattle.std.proofs.Common.{◌≡◌, ℕ, false, Option, Some, IsSome, refl, sym, ap, subst, ◌∙◌}
use Rattle.std.specs.Option.{option_and_then, option_map_or}
use Rattle.std.proofs.lemmas.Option.{option_and_then_some}
use Rattle.sfs_base.specs.declared.numbers.NodeId.{NodeId}
use Rattle.mem_values.specs.Start.{FileHand}
use Rattle.mem_values.specs.declared.cell.Cell.{Cell}
use Rattle.mem_values.specs.declared.cell.Cell.TheVariants as cell
use Rattle.mem_values.specs.declared.cell.FileCell.{FileCell}
use Rattle.mem_values.specs.declared.cell.Pending.{Pending}
use Rattle.mem_values.specs.declared.bucket.Bucket.{Bucket}
use Rattle.mem_values.specs.declared.cell_id.CellId.{CellId}
use Rattle.mem_values.specs.declared.cell_id.CellId.TheVariants as id
use Rattle.mem_values.proofs.Basics.{is_value, some_of}
use Rattle.mem_calls.specs.Held.{value_held, as_bucket, as_file, as_pending, bucket_held, file_held, pending_held, is_standing, is_linked, HoldsDirectory, HoldsFile}
use Rattle.mem_calls.specs.Working.{IsOfKind, StillHolds, Gains}

-- a value of a kind is a bucket, a file, or a flushed node
pub bucket_kind : (node : NodeId) (number : ℕ) (value : Cell) → IsOfKind (id.Bucket node number) value → IsSome (as_bucket value)
bucket_kind node number (cell.Bucket bucket) kind = refl
bucket_kind node number (cell.Lock lock) kind = absurd kind
bucket_kind node number (cell.File file) kind = absurd kind
bucket_kind node number (cell.Pending pending) kind = absurd kind
bucket_kind node number (cell.Part part) kind = absurd kind

pub file_kind : (node : NodeId) (value : Cell) → IsOfKind (id.File node) value → IsSome (as_file value)
file_kind node (cell.File file) kind = refl
file_kind node (cell.Lock lock) kind = absurd kind
file_kind node (cell.Bucket bucket) kind = absurd kind
file_kind node (cell.Pending pending) kind = absurd kind
file_kind node (cell.Part part) kind = absurd kind

pub pending_kind : (node : NodeId) (value : Cell) → IsOfKind (id.Pending node) value → IsSome (as_pending value)
pending_kind node (cell.Pending pending) kind = refl
pending_kind node (cell.Lock lock) kind = absurd kind
pending_kind node (cell.Bucket bucket) kind = absurd kind
pending_kind node (cell.File file) kind = absurd kind
pending_kind node (cell.Part part) kind = absurd kind

some_then : {X Y : Type 0} (f : X → Option Y) (o : Option X) (x : X) → o ≡ Some x → IsSome (f x) → IsSome (option_and_then f o)
some_then f o x is some = subst (λ p. IsSome (option_and_then f p)) (sym is) some

module _ (nodes : ℕ) (before after : FileHand) where
  pub holds_file : (node : NodeId) → Gains nodes (id.File node) before after → IsSome (file_held nodes after.held node)
  holds_file node gains = some_then as_file (value_held nodes after.held (id.File node)) gains.there.0 gains.there.1
      (file_kind node gains.there.0 gains.there.2)

  pub holds_pending : (node : NodeId) → Gains nodes (id.Pending node) before after → IsSome (pending_held nodes after.held node)
  holds_pending node gains = some_then as_pending (value_held nodes after.held (id.Pending node)) gains.there.0 gains.there.1
      (pending_kind node gains.there.0 gains.there.2)

  pub holds_bucket : (node : NodeId) (number : ℕ) → Gains nodes (id.Bucket node number) before after → IsSome (bucket_held nodes after.held node number)
  holds_bucket node number gains = some_then as_bucket (value_held nodes after.held (id.Bucket node number)) gains.there.0 gains.there.1
      (bucket_kind node number gains.there.0 gains.there.2)

  still_then : {Y : Type 0} (f : Cell → Option Y) (which : CellId) (y : Y) → StillHolds nodes before after
      → option_and_then f (value_held nodes before.held which) ≡ Some y → option_and_then f (value_held nodes after.held which) ≡ Some y
  still_then f which y still is = option_and_then_some f (value_held nodes before.held which) y is
      (λ value found kind. ap (option_and_then f) (still.values which value found) ∙ kind)

  pub still_bucket : (node : NodeId) (number : ℕ) (b : Bucket) → StillHolds nodes before after → bucket_held nodes before.held node number ≡ Some b
      → bucket_held nodes after.held node number ≡ Some b
  still_bucket node number b still is = still_then as_bucket (id.Bucket node number) b still is

  pub still_file : (node : NodeId) (f : FileCell) → StillHolds nodes before after → file_held nodes before.held node ≡ Some f
      → file_held nodes after.held node ≡ Some f
  still_file node f still is = still_then as_file (id.File node) f still is

  pub still_pending : (node : NodeId) (p : Pending) → StillHolds nodes before after → pending_held nodes before.held node ≡ Some p
      → pending_held nodes after.held node ≡ Some p
  still_pending node p still is = still_then as_pending (id.Pending node) p still is

  pub still_directory : (node : NodeId) (number : ℕ) → StillHolds nodes before after → HoldsDirectory nodes before.held node number
      → HoldsDirectory nodes after.held node number
  still_directory node number still holds = record {
    bucket = λ within. let b = is_value (bucket_held nodes before.held node number) (holds.bucket within) in
        some_of (bucket_held nodes after.held node number) b.0 (still_bucket node number b.0 still b.1);
    file = λ within stands.
        let b = is_value (bucket_held nodes before.held node number) (holds.bucket within) in
        let same : bucket_held nodes before.held node number ≡ bucket_held nodes after.held node number = b.1 ∙ sym (still_bucket node number b.0 still b.1) in
        let f = is_value (file_held nodes before.held node) (holds.file within (ap (λ o. option_map_or (is_standing node) o false) same ∙ stands)) in
        some_of (file_held nodes after.held node) f.0 (still_file node f.0 still f.1);
  }

  -- one bucket, and the file
  pub bucket_and_file : (node : NodeId) (number : ℕ) (b : Bucket) → bucket_held nodes before.held node number ≡ Some b → Gains nodes (id.File node) before after
      → HoldsDirectory nodes after.held node number
  bucket_and_file node number b is gains = record {
    bucket = λ within. some_of (bucket_held nodes after.held node number) b (still_bucket node number b gains.still is);
    file = λ within stands. holds_file node gains;
  }

  -- a file, and where no row names it its first bucket
  pub still_holds_file : (node : NodeId) → StillHolds nodes before after → HoldsFile nodes before.held node → HoldsFile nodes after.held node
  still_holds_file node still holds = record {
    file = λ within. let f = is_value (file_held nodes before.held node) (holds.file within) in
        some_of (file_held nodes after.held node) f.0 (still_file node f.0 still f.1);
    bucket = λ within linked.
        let f = is_value (file_held nodes before.held node) (holds.file within) in
        let same : file_held nodes before.held node ≡ file_held nodes after.held node = f.1 ∙ sym (still_file node f.0 still f.1) in
        let b = is_value (bucket_held nodes before.held node 0) (holds.bucket within (ap (λ o. option_map_or is_linked o false) same ∙ linked)) in
        some_of (bucket_held nodes after.held node 0) b.0 (still_bucket node 0 b.0 still b.1);
  }

  pub first_and_file : (node : NodeId) → IsSome (bucket_held nodes before.held node 0) → Gains nodes (id.File node) before after
      → HoldsFile nodes after.held node
  first_and_file node first gains = record {
    file = λ within. holds_file node gains;
    bucket = λ within linked. let b = is_value (bucket_held nodes before.held node 0) first in
        some_of (bucket_held nodes after.held node 0) b.0 (still_bucket node 0 b.0 gains.still b.1);
  }
