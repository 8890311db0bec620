-- A call that makes a node: what it keeps, and what stands once its creation is stamped.
use Rattle.std.proofs.Common.{◌≡◌, ℕ, List, length, Option, IsSome, inl, inr, arith, ⊎_elim}
use Rattle.std.proofs.lemmas.Bool.{cases_Bool}
use Rattle.disk_nodes.specs.OldKept.{OldKept}
use Rattle.sfs_base.specs.Name.{bucket}
use Rattle.sfs_base.specs.declared.numbers.NodeId.{NodeId}
use Rattle.sfs_base.specs.declared.numbers.Kind.{Kind}
use Rattle.tree_laws.specs.declared.call.Call.TheVariants as call
use Rattle.tree_laws.specs.declared.reply.Reply.TheVariants as reply
use Rattle.tree_laws.specs.Verdict.{verdict}
use Rattle.stamp_table.specs.Table.{Stamps}
use Rattle.mem_values.specs.Start.{FileHand, FileState}
use Rattle.mem_values.specs.declared.cell_id.CellId.{CellId}
use Rattle.mem_values.specs.declared.cell_id.CellId.TheVariants as id
use Rattle.mem_values.specs.Stands.{StandsAt}
use Rattle.mem_values.specs.Facts.{IsLawfulLog}
use Rattle.mem_values.proofs.Basics.{some_of}
use Rattle.mem_calls.specs.Held.{value_held, as_bucket, as_part, bucket_held, part_held, InEach}
use Rattle.mem_calls.specs.Table.{IsFileTable}
use Rattle.mem_calls.specs.Working.{IsWorking}
use Rattle.mem_calls.specs.declared.coming.Coming.{Coming}
use Rattle.mem_calls.specs.Changes.{IsComing}
use Rattle.mem_calls.specs.Creations.{creates, MayMake, is_new_cell}
use Rattle.mem_calls.proofs.Edited.{same_place, held_there}
use Rattle.mem_calls.proofs.Nothing.{some_first}
use Rattle.mem_calls.proofs.NewNodes as new_node
use Rattle.mem_calls.proofs.NewCells.{new_held}
use Rattle.mem_calls.proofs.Stamped as stamped

-- A node that is made, from the moment on at which its creation is stamped.
pub record Creation (given : ℕ → Option OldKept) (t : FileState) (nodes : ℕ) (before : FileHand) (dir : NodeId) (name : List ℕ) (child : NodeId)
    (kind : Kind) (coming : Coming) (out : FileHand) (number : ℕ) (mid : FileHand) : Type 0 where
  pub table : IsFileTable t nodes
  pub work : IsWorking given t before
  pub may : MayMake nodes before dir name child kind
  pub part : IsSome (part_held nodes before.held before.view.core)
  pub due : InEach before (λ tree. verdict tree before.view.core (call.Make dir name kind) ≡ creates child dir name kind)
  pub is : IsComing nodes dir name child.0 kind before coming out
  pub drawn : Stamps (IsLawfulLog given) (StandsAt given) (call.Make dir name kind) (reply.Node child kind) out number mid

pub creation : {given : ℕ → Option OldKept} {t : FileState} {nodes : ℕ} {before : FileHand} {dir : NodeId} {name : List ℕ} {child : NodeId} {kind : Kind}
    {coming : Coming} {out : FileHand} {number : ℕ} {mid : FileHand}
    → IsFileTable t nodes → IsWorking given t before → MayMake nodes before dir name child kind → IsSome (part_held nodes before.held before.view.core)
    → InEach before (λ tree. verdict tree before.view.core (call.Make dir name kind) ≡ creates child dir name kind)
    → IsComing nodes dir name child.0 kind before coming out
    → Stamps (IsLawfulLog given) (StandsAt given) (call.Make dir name kind) (reply.Node child kind) out number mid
    → Creation given t nodes before dir name child kind coming out number mid
creation table work may part due is drawn = record { table = table; work = work; may = may; part = part; due = due; is = is; drawn = drawn }

module _ (given : ℕ → Option OldKept) (t : FileState) (nodes : ℕ) (before : FileHand) (table : IsFileTable t nodes) (work : IsWorking given t before)
    (dir : NodeId) (name : List ℕ) (child : NodeId) (kind : Kind) (may : MayMake nodes before dir name child kind)
    (part : IsSome (part_held nodes before.held before.view.core))
    (due : InEach before (λ tree. verdict tree before.view.core (call.Make dir name kind) ≡ creates child dir name kind)) where
  abbrev own_log : CellId
  own_log = id.Part (record { 0 = before.view.core })

  abbrev row_place : CellId
  row_place = id.Bucket dir (bucket name)

  pub keeps : InEach before (λ tree. stamped.KeepsOrHolds given t nodes before table work tree (call.Make dir name kind))
  keeps tree meets which is_cell = ⊎_elim
      (λ same. inr (held_there nodes before.held own_log which same (some_first as_part (value_held nodes before.held own_log) part)))
      (λ not_part. ⊎_elim
      (λ same. inr (held_there nodes before.held row_place which same (some_first as_bucket (value_held nodes before.held row_place)
      (some_of (bucket_held nodes before.held dir (bucket name)) may.place.bucket_of may.place.bucket_is))))
      (λ not_bucket. ⊎_elim
      (λ new. inr (new_held nodes before.held child kind may.new (length t.first.made) which is_cell new))
      (λ old. inl (new_node.make_keeps tree before.view.core dir name child kind meets.sound
      (let one = meets.cores in let two = stamped.core_known given t nodes before table work in omega (arith, one, two))
      (due tree meets) nodes which not_part not_bucket old))
      (cases_Bool (is_new_cell child kind which)))
      (same_place nodes row_place which))
      (same_place nodes own_log which)
