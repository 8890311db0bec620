-- A row that does not come: its bucket and the own log are put back.
use Rattle.std.proofs.Common.{◌≡◌, ℕ, List, Option, Some, IsSome, sym, ap, ◌∙◌}
use Rattle.disk_nodes.specs.OldKept.{OldKept}
use Rattle.sfs_base.specs.Name.{bucket}
use Rattle.sfs_base.specs.declared.numbers.NodeId.{NodeId}
use Rattle.tree_laws.proofs.Joined.{bucket_small}
use Rattle.stamp_table.specs.Table.{with_value}
use Rattle.mem_values.specs.Start.{FileHand, FileState}
use Rattle.mem_values.specs.declared.cell.Cell.{Cell}
use Rattle.mem_values.specs.declared.bucket.Bucket.{Bucket}
use Rattle.mem_values.specs.declared.cell_id.CellId.{CellId}
use Rattle.mem_values.specs.declared.cell_id.CellId.TheVariants as id
use Rattle.mem_values.specs.Places.{cell_place}
use Rattle.mem_calls.specs.Table.{IsFileTable}
use Rattle.mem_calls.specs.Held.{as_bucket, as_part, bucket_held, part_held}
use Rattle.mem_calls.specs.Working.{IsWorking}
use Rattle.mem_calls.specs.Outcome.{IsRefusedMemory}
use Rattle.mem_calls.specs.declared.ready.Ready.{Ready}
use Rattle.mem_calls.specs.Changes.{PutsValue, IsFreePlace, IsReadyForRow}
use Rattle.mem_calls.proofs.LinkBack.{works_both, back_both}
use Rattle.mem_calls.proofs.Comings.{same_bucket, out_is}

-- The own log and a bucket that were out of their cells are back in them.
pub record IsBack (nodes : ℕ) (before : FileHand) (dir : NodeId) (name : List ℕ) (ready : Ready) (mid put : FileHand) : Type 0 where
  pub out : FileHand
  pub none : Cell
  pub taken : PutsValue nodes (id.Bucket dir (bucket name)) none mid out
  pub b : Bucket
  pub was : bucket_held nodes mid.held dir (bucket name) ≡ Some b
  pub vb : Cell
  pub is_b : as_bucket vb ≡ Some b
  pub then : FileHand
  pub puts_b : PutsValue nodes (id.Bucket dir (bucket name)) vb out then
  pub vp : Cell
  pub is_p : as_part vp ≡ Some ready.part.value
  pub puts_p : PutsValue nodes (id.Part (record { 0 = then.view.core })) vp then put

module _ (given : ℕ → Option OldKept) (t : FileState) (nodes : ℕ) (before : FileHand) (table : IsFileTable t nodes) (work : IsWorking given t before)
    (dir : NodeId) (name : List ℕ)
    (free : IsFreePlace nodes before.held dir name) (part : IsSome (part_held nodes before.held before.view.core)) (ready : Ready) (mid : FileHand)
    (is : IsReadyForRow nodes dir name before ready mid)
    (put : FileHand) (back : IsBack nodes before dir name ready mid put) where
  abbrev mine : CellId
  mine = id.Part (record { 0 = before.view.core })

  abbrev at : CellId
  at = id.Bucket dir (bucket name)

  out_same : back.out ≡ record before { held = with_value (cell_place nodes at) back.none (with_value (cell_place nodes mine) is.out.0 before.held) }
  out_same = out_is nodes before dir name free part ready mid is back.out back.none back.taken

  core_then : back.then.view.core ≡ before.view.core
  core_then = ap (λ (h : FileHand). h.view.core) back.puts_b ∙ ap (λ (h : FileHand). h.view.core) out_same

  puts : put ≡ record before {
    held = with_value (cell_place nodes mine) back.vp
        (with_value (cell_place nodes at) back.vb (with_value (cell_place nodes at) back.none (with_value (cell_place nodes mine) is.out.0 before.held)));
  }
  puts = back.puts_p ∙ (ap (λ (n : ℕ). record back.then { held = with_value (cell_place nodes (id.Part (record { 0 = n }))) back.vp back.then.held }) core_then
      ∙ (ap (λ (h : FileHand). record h { held = with_value (cell_place nodes mine) back.vp h.held }) back.puts_b
      ∙ ap (λ (h : FileHand). record h { held = with_value (cell_place nodes mine) back.vp (with_value (cell_place nodes at) back.vb h.held) }) out_same))

  is_old : as_bucket back.vb ≡ Some free.bucket_of
  is_old = back.is_b ∙ ap Some (sym (same_bucket nodes before dir name free part ready mid is back.b back.was))

  pub works_again : IsWorking given t put
  works_again = works_both given t nodes before table work dir (bucket name) free.within
      (bucket_small name) free.bucket_of free.bucket_is back.vb is_old is.part ready.part.value is.was is.same is.made
      back.vp back.is_p back.none is.out.0 put puts

  pub back_again : (last : FileHand) → IsRefusedMemory t put last → IsRefusedMemory t before last
  back_again last refused = back_both given t nodes before table work dir (bucket name) free.within
      (bucket_small name) free.bucket_of free.bucket_is back.vb is_old is.part ready.part.value is.was is.same is.made
      back.vp back.is_p back.none is.out.0 put puts last refused
