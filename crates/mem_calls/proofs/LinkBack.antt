-- A bucket and the own log are put back as they were.
use Rattle.std.proofs.Common.{◌≡◌, ◌<◌, ℕ, true, false, List, [], ◌∷◌, Option, Some, refl, sym, ap, subst, ◌∙◌, arith, ⊎_elim}
use borrow.Author.Tests.{eqb-true}
use Rattle.std.specs.Option.{option_and_then}
use Rattle.std.proofs.lemmas.Bool.{cases_Bool}
use Rattle.std.proofs.lemmas.Option.{option_and_then_some}
use Rattle.disk_nodes.specs.OldKept.{OldKept}
use Rattle.sfs_base.specs.declared.numbers.NodeId.{NodeId}
use Rattle.tree_laws.specs.Tree.{TreeState}
use Rattle.tree_laws.specs.History.{tree_after}
use Rattle.mem_cells.specs.Part.{IsSamePart}
use Rattle.stamp_table.specs.declared.event.Event.{Event}
use Rattle.stamp_table.specs.declared.held.HeldCell.{HeldCell}
use Rattle.stamp_table.specs.Events.{calls_in}
use Rattle.stamp_table.specs.Table.{is_at, with_value}
use Rattle.mem_values.specs.Start.{FileHand, FileState}
use Rattle.mem_values.specs.declared.cell.Cell.{Cell}
use Rattle.mem_values.specs.declared.cell.Cell.TheVariants as cell
use Rattle.mem_values.specs.declared.cell.PartCell.{PartCell}
use Rattle.mem_values.specs.declared.bucket.Bucket.{Bucket}
use Rattle.mem_values.specs.declared.cell_id.CellId.TheVariants as id
use Rattle.mem_values.specs.declared.fact.Fact.{Fact}
use Rattle.mem_values.specs.Places.{cell_place}
use Rattle.mem_values.specs.Account.{account_of}
use Rattle.mem_values.specs.Stands.{ShowsBucket, StandsForCell}
use Rattle.mem_calls.specs.Table.{IsFileTable}
use Rattle.mem_calls.specs.Held.{value_held, as_bucket, as_part, bucket_held, part_held}
use Rattle.mem_calls.specs.Working.{IsWorking}
use Rattle.mem_calls.specs.Outcome.{IsRefusedMemory}
use Rattle.mem_calls.proofs.Cells.{with_twice}
use Rattle.mem_calls.proofs.Unlinked.{value_of_bucket, apart_value}
use Rattle.mem_calls.proofs.PutBack.{stands_now, works_put, same_length, refused_back}
use Rattle.mem_calls.proofs.ReadyBack.{works_ready}

-- two cells get their values in either order
with_swap : (p q : ℕ) (v w : Cell) (cells : List (HeldCell Cell)) → (p ≡ q → ⊥) → with_value p v (with_value q w cells) ≡ with_value q w (with_value p v cells)
with_swap p q v w [] apart = refl
with_swap p q v w (c ∷ cells) apart = ⊎_elim
    (λ (at_q : is_at q c ≡ true). ⊎_elim
    (λ (at_p : is_at p c ≡ true). absurd (apart (sym (eqb-true c.place p at_p) ∙ eqb-true c.place q at_q)))
    (λ (not_p : is_at p c ≡ false). simp (at_q, not_p))
    (cases_Bool (is_at p c)))
    (λ (not_q : is_at q c ≡ false). ⊎_elim
    (λ (at_p : is_at p c ≡ true). simp (not_q, at_p))
    (λ (not_p : is_at p c ≡ false). simp (not_q, not_p) (ap (λ l. c ∷ l) (with_swap p q v w cells apart)))
    (cases_Bool (is_at p c)))
    (cases_Bool (is_at q c))

pub bucket_of_value : (given : ℕ → Option OldKept) (first : TreeState) (log : List (Event Fact)) (node : NodeId) (number : ℕ) (value : Cell) (b : Bucket)
    → as_bucket value ≡ Some b → StandsForCell given first (account_of log) (id.Bucket node number) value
    → ShowsBucket (tree_after first (calls_in log)) node.0 number b
bucket_of_value given first log node number (cell.Bucket box) b is stood = let same : box.value ≡ b = cc (is) in
    subst (ShowsBucket (tree_after first (calls_in log)) node.0 number) same stood
bucket_of_value given first log node number (cell.File box) b is stood = absurd stood
bucket_of_value given first log node number (cell.Lock lock) b is stood = absurd stood
bucket_of_value given first log node number (cell.Pending box) b is stood = absurd stood
bucket_of_value given first log node number (cell.Part box) b is stood = absurd stood

module _ (given : ℕ → Option OldKept) (t : FileState) (nodes : ℕ) (before : FileHand) (table : IsFileTable t nodes) (work : IsWorking given t before)
    (dir : NodeId) (number : ℕ) (within : dir.0 < nodes) (eight : number < 8)
    (b : Bucket) (bucket_is : bucket_held nodes before.held dir number ≡ Some b) (vb : Cell) (is_b : as_bucket vb ≡ Some b) (p q : PartCell)
    (was : part_held nodes before.held before.view.core ≡ Some p) (same : IsSamePart p.log q.log) (made : q.made ≡ p.made)
    (vp : Cell) (is_p : as_part vp ≡ Some q) (none_b none_p : Cell) (put : FileHand)
    (puts : put ≡ record before {
      held = with_value (cell_place nodes (id.Part (record { 0 = before.view.core }))) vp (with_value (cell_place nodes (id.Bucket dir number)) vb
          (with_value (cell_place nodes (id.Bucket dir number)) none_b
          (with_value (cell_place nodes (id.Part (record { 0 = before.view.core }))) none_p before.held)));
    }) where
  abbrev mine : ℕ
  mine = cell_place nodes (id.Part (record { 0 = before.view.core }))

  abbrev at : ℕ
  at = cell_place nodes (id.Bucket dir number)

  apart : at ≡ mine → ⊥
  apart e = omega (arith, within, eight, e)

  abbrev one : FileHand
  one = record before { held = with_value at vb before.held }

  puts_now : put ≡ record one { held = with_value mine vp one.held }
  puts_now = puts ∙ ap (λ (l : List (HeldCell Cell)). record before { held = with_value mine vp l })
      (with_twice at vb none_b (with_value mine none_p before.held) ∙ with_swap at mine vb none_p before.held apart)
      ∙ ap (λ (l : List (HeldCell Cell)). record before { held = l }) (with_twice mine vp none_p (with_value at vb before.held))

  stands : StandsForCell given before.view.first (account_of before.view.seen) (id.Bucket dir number) vb
  stands = value_of_bucket given before.view.first before.view.seen dir number vb b is_b
      (option_and_then_some as_bucket (value_held nodes before.held (id.Bucket dir number)) b bucket_is
      (λ v found kind. bucket_of_value given before.view.first before.view.seen dir number v b kind
      (stands_now given t nodes before table work (id.Bucket dir number) v (within, eight) found)))

  works_one : IsWorking given t one
  works_one = works_put given t nodes before table work (id.Bucket dir number) vb one (within, eight) stands refl

  was_one : part_held nodes one.held one.view.core ≡ Some p
  was_one = ap (option_and_then as_part) (apart_value nodes before.held (id.Bucket dir number) (id.Part (record { 0 = before.view.core })) vb apart) ∙ was

  pub works_both : IsWorking given t put
  works_both = works_ready given t nodes one table works_one p q was_one same made vp is_p put puts_now

  pub back_both : (last : FileHand) → IsRefusedMemory t put last → IsRefusedMemory t before last
  back_both last refused =
      refused_back t before one last (with_value at vb before.held) refl
      (same_length given t nodes before table work (id.Bucket dir number) vb one (within, eight) stands refl)
      (Rattle.mem_calls.proofs.ReadyBack.back_ready given t nodes one table works_one p q was_one same made vp is_p put puts_now last refused)
