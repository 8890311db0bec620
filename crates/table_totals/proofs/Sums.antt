-- What all numbers have of a tree, by those below its count.
use Rattle.std.proofs.Common.{◌≡◌, ◌≤◌, ◌+◌, ℕ, zero, suc, true, false, cond, Option, Some, None, refl, sym, ap, subst, ◌∙◌, arith, ⊎_elim}
use Rattle.std.specs.Prelude.{IsSome}
use Rattle.std.specs.FinMap.{get}
use Rattle.std.proofs.lemmas.Bool.{cases_Bool}
use Rattle.tree_laws.specs.Tree.{Node, TreeState, is_directory, row_count}
use Rattle.tree_laws.specs.Laws.{IsSoundTree}
use Rattle.tree_laws.proofs.RowFacts.{has_row}
use Rattle.tree_totals.specs.Totals.{NUMBERS, live_bytes, rows_in, sum_below, total_bytes, total_rows}
use Rattle.tree_totals.proofs.Sums.{no_bytes, no_rows, sum_between}
use Rattle.mem_values.specs.Places.{node_count}
use Rattle.mem_calls.proofs.Faults.{node_within}

pub same_sums : (n : ℕ) (f g : ℕ → ℕ) → ((k : ℕ) → f k ≡ g k) → sum_below f n ≡ sum_below g n
unfolding sum_below
same_sums zero f g same = refl
same_sums (suc n) f g same = let rest = same_sums n f g same in let last = same n in omega (arith, rest, last)

pub sum_one_more : (n : ℕ) (f : ℕ → ℕ) → sum_below f (n + 1) ≡ sum_below f n + f n
unfolding sum_below
sum_one_more n f = ap (sum_below f) (let more : n + 1 ≡ suc n = omega arith in more)

module _ (tree : TreeState) (sound : IsSoundTree tree) where
  -- only directories have rows
  rows_are : (node : ℕ) → row_count tree node ≡ rows_in tree node
  rows_are node = ⊎_elim
      (λ (directory : is_directory tree node ≡ true). sym (ap (λ b. cond b (row_count tree node) 0) directory))
      (λ (other : is_directory tree node ≡ false). none other (row_count tree node) refl ∙ sym (ap (λ b. cond b (row_count tree node) 0) other))
      (cases_Bool (is_directory tree node))
    where
      none : is_directory tree node ≡ false → (n : ℕ) → row_count tree node ≡ n → row_count tree node ≡ 0
      none other zero is = is
      none other (suc n) is =
          let row = has_row tree node (λ empty. absurd (let never = sym is ∙ empty in omega (arith, never))) in
          absurd (let never : true ≡ false = sym (sound.sound.holds node row.0 row.1 row.2).0 ∙ other in cc (never))

  -- a number from the count on is no node's
  no_node : (number : ℕ) → node_count tree ≤ number → get tree.nodes number ≡ None
  no_node number beyond = by (get tree.nodes number) refl
    where
      by : (o : Option Node) → get tree.nodes number ≡ o → get tree.nodes number ≡ None
      by None is = is
      by (Some node) is =
          let lt = node_within tree sound number (subst (λ (p : Option Node). IsSome p) (sym is) refl) in
          absurd (omega (arith, lt, beyond))

  module _ (nodes : ℕ) (counted : node_count tree ≡ nodes) (few : nodes ≤ NUMBERS) where
    -- the rows that were counted are all
    pub all_rows : sum_below (row_count tree) nodes ≡ total_rows tree
    all_rows = same_sums nodes (row_count tree) (rows_in tree) rows_are
        ∙ sym (sum_between (rows_in tree) nodes NUMBERS few
        (λ number low high. no_rows tree number (no_node number (omega (arith, counted, low)))))

    -- so are the bytes
    pub all_bytes : sum_below (live_bytes tree) nodes ≡ total_bytes tree
    all_bytes = sym (sum_between (live_bytes tree) nodes NUMBERS few
        (λ number low high. no_bytes tree number (no_node number (omega (arith, counted, low)))))
