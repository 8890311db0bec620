-- Values that stand for their cells as a table begins.
use Rattle.std.proofs.Common.{◌≡◌, ◌≢◌, ℕ, zero, suc, ◌+◌, ◌-◌, Bool, true, false, cond, List, [], ◌∷◌, length, Option, Some, refl, sym, ap, subst, ◌∙◌, arith, nat_eq}
use Rattle.std.specs.Prelude.{slice_get, option_map}
use borrow.Author.Tests.{eqb-true}
use Rattle.tree_laws.specs.Tree.{TreeState}
use Rattle.disk_nodes.specs.OldKept.{OldKept}
use Rattle.keyed_list.specs.Ascending.{item_with, without}
use Rattle.disk_nodes.specs.Nodes.{entry_node, entry_old}
use Rattle.disk_nodes.specs.declared.old.OldEntry.{OldEntry}
use Rattle.mem_values.specs.declared.cell.Cell.{Cell}
use Rattle.mem_values.specs.declared.cell_id.CellId.{CellId}
use Rattle.mem_values.specs.declared.cell_id.CellId.TheVariants.{Lock, Bucket, File, Pending, Part}
use Rattle.mem_values.specs.Places.{node_count}
use Rattle.mem_values.specs.Stands.{StandsAt}
use Rattle.mem_values.specs.Home.{BeginsAs}
use Rattle.mem_values.proofs.Begun.{cells_begin}
use Rattle.mem_values.specs.Start.{given_in}
use Rattle.mem_begin.specs.Beginning.{given_of, IsGivenOf, IsFlushedOf, HasGivenBelow}
use Rattle.mem_begin.specs.Lying.{IsWhatLiesAt}
use Rattle.mem_begin.proofs.Standing.{StandFrom}

-- a value that begins as what lies at a place stands there
pub begins_at : (given : ℕ → Option OldKept) (first : TreeState) (place : ℕ) (cell : CellId) (value : Cell) → IsWhatLiesAt (node_count first) place cell
    → BeginsAs given first cell value → StandsAt given first [] place value
begins_at given first place cell value lies begins id is at =
    cells_begin given first id value (subst (λ (c : CellId). BeginsAs given first c value) (lies (length first.made) id is at) begins)

-- the value at a place stands there
stands_there : (given : ℕ → Option OldKept) (first : TreeState) (values : List Cell) (from place : ℕ) (value : Cell) → StandFrom given first from values
    → slice_get values place ≡ Some value → StandsAt given first [] (from + place) value
stands_there given first [] from place value stand is = absurd (cc)
stands_there given first (other ∷ values) from zero value stand is =
    let same : other ≡ value = cc in let here : from ≡ from + 0 = omega arith in
    subst (λ (p : ℕ). StandsAt given first [] p value) here (subst (λ (v : Cell). StandsAt given first [] from v) same stand.0)
stands_there given first (other ∷ values) from (suc place) value stand is =
    let next : from + 1 + place ≡ from + suc place = omega arith in
    subst (λ (p : ℕ). StandsAt given first [] p value) next (stands_there given first values (from + 1) place value stand.1 is)

-- so does each value of a list that begins at the first place
pub each_stands : (given : ℕ → Option OldKept) (first : TreeState) (values : List Cell) → StandFrom given first 0 values → (place : ℕ) (value : Cell)
    → slice_get values place ≡ Some value → StandsAt given first [] place value
each_stands given first values stand place value is =
    let there : 0 + place ≡ place = omega arith in
    subst (λ (p : ℕ). StandsAt given first [] p value) there (stands_there given first values 0 place value stand is)

-- what another node has in a list stays there without one
item_with_other : (node other : ℕ) (entries : List OldEntry) → node ≢ other
    → item_with entry_node other (without entry_node node entries) ≡ item_with entry_node other entries
item_with_other node other [] apart = refl
item_with_other node other (entry ∷ entries) apart =
    by_test (nat_eq (entry_node entry) node) refl (nat_eq (entry_node entry) other) refl (item_with_other node other entries apart)
  where
    by_test : (is : Bool) → nat_eq (entry_node entry) node ≡ is → (other_is : Bool) → nat_eq (entry_node entry) other ≡ other_is
        → item_with entry_node other (without entry_node node entries) ≡ item_with entry_node other entries
        → item_with entry_node other (cond is entries (entry ∷ without entry_node node entries)) ≡ item_with entry_node other (entry ∷ entries)
    by_test true is true also rest = absurd (apart (sym (eqb-true _ _ is) ∙ eqb-true _ _ also))
    by_test true is false also rest = sym (ap (λ b. cond b (Some entry) (item_with entry_node other entries)) also)
    by_test false is other_is also rest = ap (cond (nat_eq (entry_node entry) other) (Some entry)) rest

pub given_without : (node other : ℕ) (entries : List OldEntry) → node ≢ other → given_in (without entry_node node entries) other ≡ given_in entries other
given_without node other entries apart = ap (option_map entry_old) (item_with_other node other entries apart)

-- the list has what was given of the node of a cell
pub given_there : (given : ℕ → Option OldKept) (entries : List OldEntry) (behind place : ℕ) (cell : CellId)
    → ((node : ℕ) → IsFlushedOf node cell → place ≡ behind + node) → HasGivenBelow given (place + 1 - behind) entries
    → IsGivenOf given cell (given_of entries cell)
given_there given entries behind place Lock lies has = tt
given_there given entries behind place (Bucket node number) lies has = tt
given_there given entries behind place (File node) lies has = tt
given_there given entries behind place (Pending node) lies has = let at = lies node.0 refl in has node.0 (omega (arith, at))
given_there given entries behind place (Part core) lies has = tt

-- what is left of the list has what was given of the nodes below it
pub given_left : (given : ℕ → Option OldKept) (before after : List OldEntry) (behind place : ℕ) (cell : CellId)
    → ((node : ℕ) → IsFlushedOf node cell → place ≡ behind + node) → HasGivenBelow given (place + 1 - behind) before
    → ((node : ℕ) → (IsFlushedOf node cell → ⊥) → given_in after node ≡ given_in before node) → HasGivenBelow given (place - behind) after
given_left given before after behind place cell lies has same node below =
    same node (λ flushed. let at = lies node flushed in absurd (omega (arith, at, below))) ∙ has node (omega (arith, below))
