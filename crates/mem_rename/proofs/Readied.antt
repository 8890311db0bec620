-- What is put back where a core is refused memory before a child moves.
use Rattle.std.proofs.Common.{◌≡◌, ℕ, Option, Some, Result, Ok, Err, sym, ap, subst, ◌∙◌, arith}
use Rattle.std.specs.Prelude.{OnOk, MatchResult, ◌≤◌, ◌<◌}
use Rattle.std.specs.Option.{option_and_then}
use Rattle.std.proofs.lemmas.Option.{option_and_then_some}
use Rattle.sfs_base.specs.declared.fault.NoMemory.{NoMemory}
use Rattle.sfs_base.specs.declared.numbers.NodeId.{NodeId}
use Rattle.disk_nodes.specs.OldKept.{OldKept}
use Rattle.tree_laws.specs.Tree.{TreeState}
use Rattle.mem_cells.specs.Part.{IsSamePart, room_kept}
use Rattle.stamp_table.specs.Table.{with_value}
use Rattle.mem_values.specs.Start.{FileHand, FileState}
use Rattle.mem_values.specs.declared.cell.Cell.{Cell}
use Rattle.mem_values.specs.declared.cell.Cell.TheVariants as cell
use Rattle.mem_values.specs.declared.bucket.Bucket.{Bucket}
use Rattle.mem_values.specs.declared.cell_id.CellId.TheVariants as id
use Rattle.mem_values.specs.Account.{Account, account_of}
use Rattle.mem_values.specs.Places.{cell_place}
use Rattle.mem_values.specs.Stands.{StandsForCell}
use Rattle.mem_calls.specs.Table.{IsFileTable}
use Rattle.mem_calls.specs.Held.{value_held, as_bucket, as_file, bucket_held, file_held}
use Rattle.mem_calls.proofs.Unlinked.{apart_value}
use Rattle.mem_calls.specs.Working.{IsWorking}
use Rattle.mem_calls.specs.Outcome.{IsRefusedMemory}
use Rattle.mem_calls.proofs.ReadyBack.{works_ready, back_ready}
use Rattle.mem_calls.proofs.PutBack.{stands_now, works_put, same_length, refused_back}
use Rattle.mem_rename.specs.declared.sides.Move.{Move}
use Rattle.mem_rename.specs.Moving.{PutsBucket, KeepsPart, MakesRoom}

-- parts with the same changes twice
pub same_twice : {a b c : Rattle.mem_cells.specs.Part.CoreLog} → IsSamePart a b → IsSamePart b c → IsSamePart a c
same_twice one two = record {
  logs = record { changes = λ d. two.logs.changes d ∙ one.logs.changes d; marks = λ d. two.logs.marks d ∙ one.logs.marks d };
  entries = two.entries ∙ one.entries;
}

-- what comes of a log that gets room or is refused it
pub room_or_same : {X : Type 0} (nodes : ℕ) (move : Move) (before after : FileHand) (outcome : Result X NoMemory) (keeps : KeepsPart nodes before after)
    → OnOk outcome (3 ≤ room_kept keeps.next.log move.directory.0)
    → OnOk outcome (3 ≤ room_kept keeps.next.log move.to_directory.0)
    → MatchResult outcome (λ _. MakesRoom nodes move before after) (λ _. KeepsPart nodes before after)
room_or_same nodes move before after (Ok x) keeps old new = record { keeps = keeps; old = old; new = new }
room_or_same nodes move before after (Err fault) keeps old new = keeps

module _ (given : ℕ → Option OldKept) (t : FileState) (nodes : ℕ) (before : FileHand) (table : IsFileTable t nodes)
    (work : IsWorking given t before) where
  -- a core whose log has more room
  module _ (mid : FileHand) (keeps : KeepsPart nodes before mid) where
    pub works_kept : IsWorking given t mid
    works_kept = works_ready given t nodes before table work keeps.part keeps.next keeps.was keeps.same keeps.made keeps.value keeps.is mid keeps.puts

    pub refused_kept : (last : FileHand) → IsRefusedMemory t mid last → IsRefusedMemory t before last
    refused_kept last refused =
        back_ready given t nodes before table work keeps.part keeps.next keeps.was keeps.same keeps.made keeps.value keeps.is mid keeps.puts last refused

  -- a core whose bucket is the same
  module _ (node : NodeId) (number : ℕ) (lt : node.0 < nodes) (small : number < 8) (after : FileHand)
      (same : PutsBucket nodes node number (λ b. b) before after) where
    bucket_stands : (first : TreeState) (account : Account) (x y : Cell) (b : Bucket) → as_bucket x ≡ Some b → as_bucket y ≡ Some b
        → StandsForCell given first account (id.Bucket node number) x → StandsForCell given first account (id.Bucket node number) y
    bucket_stands first account (cell.Bucket box) (cell.Bucket other) b is is_y stood =
        let equal : box.value ≡ other.value = cc (is ∙ sym is_y) in
        subst (λ (v : Bucket). Rattle.mem_values.specs.Stands.ShowsBucket
        (Rattle.tree_laws.specs.History.tree_after first account.calls) node.0 number v) equal stood
    bucket_stands first account (cell.Bucket box) (cell.Lock l) b is is_y stood = absurd (cc (is_y))
    bucket_stands first account (cell.Bucket box) (cell.File l) b is is_y stood = absurd (cc (is_y))
    bucket_stands first account (cell.Bucket box) (cell.Pending l) b is is_y stood = absurd (cc (is_y))
    bucket_stands first account (cell.Bucket box) (cell.Part l) b is is_y stood = absurd (cc (is_y))
    bucket_stands first account (cell.Lock l) y b is is_y stood = absurd (cc (is))
    bucket_stands first account (cell.File l) y b is is_y stood = absurd (cc (is))
    bucket_stands first account (cell.Pending l) y b is is_y stood = absurd (cc (is))
    bucket_stands first account (cell.Part l) y b is is_y stood = absurd (cc (is))

    stands : StandsForCell given before.view.first (account_of before.view.seen) (id.Bucket node number) same.change.value
    stands = option_and_then_some as_bucket (value_held nodes before.held (id.Bucket node number)) same.change.old same.change.was
        (λ v found kind. bucket_stands before.view.first (account_of before.view.seen) v same.change.value same.change.old kind
        (same.change.is ∙ ap Some same.is) (stands_now given t nodes before table work (id.Bucket node number) v (lt, small) found))

    pub works_same : IsWorking given t after
    works_same = works_put given t nodes before table work (id.Bucket node number) same.change.value after (lt, small) stands same.change.puts

    pub refused_same : (last : FileHand) → IsRefusedMemory t after last → IsRefusedMemory t before last
    refused_same last refused = refused_back t before after last
        (with_value (cell_place nodes (id.Bucket node number)) same.change.value before.held) same.change.puts
        (same_length given t nodes before table work (id.Bucket node number) same.change.value after (lt, small) stands same.change.puts) refused

-- what is held besides the own log is the same
module _ (nodes : ℕ) (before mid : FileHand) (keeps : KeepsPart nodes before mid) where
  pub kept_value : (which : Rattle.mem_values.specs.declared.cell_id.CellId.CellId)
      → (cell_place nodes (id.Part (record { 0 = before.view.core })) ≡ cell_place nodes which → ⊥)
      → value_held nodes mid.held which ≡ value_held nodes before.held which
  kept_value which apart = ap (λ (h : FileHand). value_held nodes h.held which) keeps.puts
      ∙ apart_value nodes before.held (id.Part (record { 0 = before.view.core })) which keeps.value apart

  pub kept_bucket : (node : NodeId) (number : ℕ) → node.0 < nodes → number < 8
      → bucket_held nodes mid.held node number ≡ bucket_held nodes before.held node number
  kept_bucket node number lt small = ap (option_and_then as_bucket) (kept_value (id.Bucket node number) (λ place. omega (arith, place, lt, small)))

  pub kept_file : (node : NodeId) → node.0 < nodes → file_held nodes mid.held node ≡ file_held nodes before.held node
  kept_file node lt = ap (option_and_then as_file) (kept_value (id.File node) (λ place. omega (arith, place, lt)))
