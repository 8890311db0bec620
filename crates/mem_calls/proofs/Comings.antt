-- A row that is about to come: its bucket and the own log are out of their cells.
use Rattle.std.proofs.Common.{◌≡◌, ◌<◌, ℕ, List, Option, Some, None, IsSome, sym, ap, subst, ◌∙◌, arith}
use Rattle.std.specs.Option.{option_and_then}
use Rattle.std.specs.FinMap.{get}
use Rattle.std.proofs.lemmas.Option.{option_and_then_some}
use Rattle.disk_nodes.specs.OldKept.{OldKept}
use Rattle.sfs_base.specs.Name.{bucket}
use Rattle.sfs_base.specs.declared.numbers.NodeId.{NodeId}
use Rattle.tree_laws.specs.History.{tree_after}
use Rattle.tree_laws.proofs.Joined.{bucket_small}
use Rattle.stamp_table.specs.Events.{calls_in}
use Rattle.stamp_table.specs.declared.held.HeldCell.{HeldCell}
use Rattle.stamp_table.specs.Table.{with_value}
use Rattle.mem_values.specs.Start.{FileHand, FileState}
use Rattle.mem_values.specs.declared.cell.Cell.{Cell}
use Rattle.mem_values.specs.declared.bucket.Bucket.{Bucket}
use Rattle.mem_values.specs.declared.cell_id.CellId.{CellId}
use Rattle.mem_values.specs.declared.cell_id.CellId.TheVariants as id
use Rattle.mem_values.specs.Places.{cell_place}
use Rattle.mem_values.specs.Stands.{ShowsBucket, if_directory}
use Rattle.mem_values.proofs.Basics.{some_of}
use Rattle.mem_calls.specs.Table.{IsFileTable}
use Rattle.mem_calls.specs.Held.{value_held, as_bucket, as_part, bucket_held, part_held}
use Rattle.mem_calls.specs.Working.{IsWorking}
use Rattle.mem_calls.specs.declared.ready.Ready.{Ready}
use Rattle.mem_calls.specs.Changes.{PutsValue, IsFreePlace, IsReadyForRow}
use Rattle.mem_calls.proofs.Nothing.{some_first}
use Rattle.mem_calls.proofs.Taken.{value_with}
use Rattle.mem_calls.proofs.PutBack.{stands_now}
use Rattle.mem_calls.proofs.LinkBack.{bucket_of_value}
use Rattle.mem_calls.proofs.Unlinked.{apart_value}

module _ (nodes : ℕ) (before : FileHand) (dir : NodeId) (name : List ℕ) (free : IsFreePlace nodes before.held dir name)
    (part : IsSome (part_held nodes before.held before.view.core)) where
  abbrev mine : CellId
  mine = id.Part (record { 0 = before.view.core })

  abbrev at : CellId
  at = id.Bucket dir (bucket name)

  pub part_above : (number : ℕ) → number < 8 → cell_place nodes mine ≡ cell_place nodes (id.Bucket dir number) → ⊥
  part_above number lt same = let node = free.within in omega (arith, node, lt, same)

  bucket_below : cell_place nodes at ≡ cell_place nodes mine → ⊥
  bucket_below same = part_above (bucket name) (bucket_small name) (sym same)

  -- once the own log is out the bucket is held as before
  module _ (ready : Ready) (mid : FileHand) (is_ready : IsReadyForRow nodes dir name before ready mid) where
    mid_same : bucket_held nodes mid.held dir (bucket name) ≡ bucket_held nodes before.held dir (bucket name)
    mid_same = ap (λ (h : FileHand). bucket_held nodes h.held dir (bucket name)) is_ready.out.1
        ∙ ap (option_and_then as_bucket) (apart_value nodes before.held mine at is_ready.out.0 (part_above (bucket name) (bucket_small name)))

    pub bucket_there : IsSome (bucket_held nodes mid.held dir (bucket name))
    bucket_there = some_of (bucket_held nodes mid.held dir (bucket name)) free.bucket_of (mid_same ∙ free.bucket_is)

    pub same_bucket : (b : Bucket) → bucket_held nodes mid.held dir (bucket name) ≡ Some b → free.bucket_of ≡ b
    same_bucket b is = cc (sym free.bucket_is ∙ (sym mid_same ∙ is))

    pub row_free : (b : Bucket) → bucket_held nodes mid.held dir (bucket name) ≡ Some b → get b.rows name ≡ None
    row_free b is = ap (λ (x : Bucket). get x.rows name) (sym (same_bucket b is)) ∙ free.free

    -- and then the bucket
    module _ (out : FileHand) (none : Cell) (taken : PutsValue nodes (id.Bucket dir (bucket name)) none mid out) where
      abbrev pub out_held : List (HeldCell Cell)
      out_held = with_value (cell_place nodes (id.Bucket dir (bucket name))) none
          (with_value (cell_place nodes (id.Part (record { 0 = before.view.core }))) is_ready.out.0 before.held)

      pub out_is : out ≡ record before {
        held = with_value (cell_place nodes (id.Bucket dir (bucket name))) none
            (with_value (cell_place nodes (id.Part (record { 0 = before.view.core }))) is_ready.out.0 before.held);
      }
      out_is = taken ∙ ap (λ (h : FileHand). record h { held = with_value (cell_place nodes at) none h.held }) is_ready.out.1

      pub at_there : (h : FileHand) → h.held ≡ out.held → IsSome (value_held nodes h.held (id.Bucket dir (bucket name)))
      at_there h same = some_of (value_held nodes h.held at) none (ap (λ l. value_held nodes l at) (same ∙ ap (λ (x : FileHand). x.held) out_is)
          ∙ value_with nodes at none (with_value (cell_place nodes mine) is_ready.out.0 before.held)
          (subst (λ (x : FileHand). IsSome (value_held nodes x.held at)) is_ready.out.1
          (some_first as_bucket (value_held nodes mid.held at) bucket_there)))

      -- the own log's cell is still held
      pub part_out : value_held nodes out_held (id.Part (record { 0 = before.view.core })) ≡ Some is_ready.out.0
      part_out = apart_value nodes (with_value (cell_place nodes mine) is_ready.out.0 before.held) at mine none bucket_below
          ∙ value_with nodes mine is_ready.out.0 before.held (some_first as_part (value_held nodes before.held mine) part)

      -- also where the bucket is put back
      pub part_back : (vb : Cell) (put : FileHand) → PutsValue nodes (id.Bucket dir (bucket name)) vb out put
          → IsSome (value_held nodes put.held (id.Part (record { 0 = put.view.core })))
      part_back vb put puts =
          let core : put.view.core ≡ before.view.core = ap (λ (h : FileHand). h.view.core) puts ∙ ap (λ (h : FileHand). h.view.core) out_is in
          subst (λ (n : ℕ). IsSome (value_held nodes put.held (id.Part (record { 0 = n })))) (sym core) (some_of (value_held nodes put.held mine) is_ready.out.0
          (ap (λ l. value_held nodes l mine)
          (ap (λ (h : FileHand). h.held) puts ∙ ap (λ (h : FileHand). with_value (cell_place nodes at) vb h.held) out_is)
          ∙ (apart_value nodes out_held at mine vb bucket_below ∙ part_out)))

module _ (given : ℕ → Option OldKept) (t : FileState) (nodes : ℕ) (before : FileHand) (table : IsFileTable t nodes) (work : IsWorking given t before)
    (dir : NodeId) (name : List ℕ) (free : IsFreePlace nodes before.held dir name) where
  shows : ShowsBucket (tree_after before.view.first (calls_in before.view.seen)) dir.0 (bucket name) free.bucket_of
  shows = option_and_then_some as_bucket (value_held nodes before.held (id.Bucket dir (bucket name))) free.bucket_of free.bucket_is
      (λ v found kind. bucket_of_value given before.view.first before.view.seen dir (bucket name) v free.bucket_of kind
      (stands_now given t nodes before table work (id.Bucket dir (bucket name)) v (free.within, bucket_small name) found))

  -- a bucket in which a name has no row does not say that it names a directory
  pub directory_free : get free.bucket_of.directories name ≡ None
  directory_free = shows.directories name
      ∙ ap (if_directory (tree_after before.view.first (calls_in before.view.seen))) (ap (λ m. get m name) (sym shows.rows) ∙ free.free)
