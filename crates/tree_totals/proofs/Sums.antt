-- Sums over numbers of which few have something.
use Rattle.std.proofs.Common.{◌≡◌, ◌⊎◌, inl, inr, [], ℕ, zero, suc, ◌+◌, ◌<◌, ◌≤◌, Bool}
use Rattle.std.proofs.Common.{true, false, length, Option, Some, None, cond, refl, sym, ap, subst, arith}
use Rattle.std.specs.Prelude.{IsSome}
use Rattle.std.specs.FinMap.{get, len}
use Rattle.std.specs.Option.{option_map_or}
use Rattle.tree_laws.specs.Tree.{Node, TreeState, bytes_of, is_alive, is_directory_kind, names_of}
use Rattle.tree_laws.specs.Least.{IsLeast, NoneFrom}
use Rattle.tree_totals.specs.Totals.{LONGEST_FILE, live_bytes, rows_in, sum_below}

lt_or_same : (a b : ℕ) → a ≤ b → (a ≡ b) ⊎ (a < b)
lt_or_same a b le = grind arith

-- numbers that have nothing add nothing
pub sum_between : (has : ℕ → ℕ) (from to : ℕ) → from ≤ to → ((number : ℕ) → from ≤ number → number < to → has number ≡ 0)
    → sum_below has to ≡ sum_below has from
unfolding sum_below
sum_between has from zero within none = let same : from ≡ 0 = omega (arith, within) in sym (ap (sum_below has) same)
sum_between has from (suc to) within none = elim (lt_or_same from (suc to) within) [
  | inl same ↦ sym (ap (sum_below has) same)
  | inr below ↦
      let here = none to (omega (arith, below)) (omega arith) in
      let earlier = sum_between has from to (omega (arith, below)) (λ number low high. none number low (omega (arith, high))) in
      omega (arith, here, earlier)
]

-- a number that is no node's has neither rows nor bytes
pub no_rows : (tree : TreeState) (number : ℕ) → get tree.nodes number ≡ None → rows_in tree number ≡ 0
no_rows tree number none = ap (λ (o : Option Node). cond (option_map_or (λ n. is_directory_kind n.kind) o false) (len (names_of number tree.rows)) 0) none

pub no_bytes : (tree : TreeState) (number : ℕ) → get tree.nodes number ≡ None → live_bytes tree number ≡ 0
no_bytes tree number none = by (is_alive tree number)
  where
    empty : length (bytes_of tree number) ≡ 0
    empty = ap (λ (o : Option Node). length (option_map_or (λ n. n.bytes) o [])) none

    by : (b : Bool) → cond b (length (bytes_of tree number)) 0 ≡ 0
    by true = empty
    by false = refl

-- what the numbers up to the next node have
pub sum_to_next : (tree : TreeState) (has : ℕ → ℕ) → ((number : ℕ) → get tree.nodes number ≡ None → has number ≡ 0) → (from node : ℕ)
    → IsLeast tree.nodes from node → sum_below has (suc node) ≡ sum_below has from + has node
unfolding sum_below
sum_to_next tree has nothing from node least =
    let between = sum_between has from node least.from (λ number low high. nothing number (no_node number low high)) in
    omega (arith, between)
  where
    no_node : (number : ℕ) → from ≤ number → number < node → get tree.nodes number ≡ None
    no_node number low high = by (get tree.nodes number) refl
      where
        by : (o : Option Node) → get tree.nodes number ≡ o → get tree.nodes number ≡ None
        by None is = is
        by (Some found) is =
            let at_least = least.least number low (subst (λ (p : Option Node). IsSome p) (sym is) refl) in
            absurd (omega (arith, at_least, high))

-- behind the last node nothing is left
pub sum_ends : (tree : TreeState) (has : ℕ → ℕ) → ((number : ℕ) → get tree.nodes number ≡ None → has number ≡ 0) → (from to : ℕ) → from ≤ to
    → NoneFrom tree.nodes from → sum_below has to ≡ sum_below has from
sum_ends tree has nothing from to within none = sum_between has from to within (λ number low high. nothing number (none number low))

-- no node has more bytes than a file may have
pub live_short : (tree : TreeState) (node size : ℕ) → length (bytes_of tree node) ≤ LONGEST_FILE → size ≡ live_bytes tree node → size ≤ LONGEST_FILE
live_short tree node size short is = subst (λ n. n ≤ LONGEST_FILE) (sym is) (by (is_alive tree node))
  where
    by : (b : Bool) → cond b (length (bytes_of tree node)) 0 ≤ LONGEST_FILE
    by true = short
    by false = omega arith
