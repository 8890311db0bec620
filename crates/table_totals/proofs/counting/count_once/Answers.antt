use Rattle.std.proofs.Common.{rules, ◌≡◌, ◌<◌, ◌+◌, ◌^◌, ℕ, refl, sym, ap, ap₂, ◌∙◌, arith}
use Rattle.tree_laws.specs.Tree.{TreeState, row_count}
use Rattle.tree_totals.specs.Totals.{live_bytes, sum_below}
use Rattle.table_totals.specs.Seen.{tree_seen}
use Rattle.table_totals.proofs.Moments.{none_before, none_behind, on_and_on, on_itself, same_tree}
use Rattle.table_totals.proofs.Sums.{sum_one_more}
use Rattle.table_totals.proofs.Whole.{bytes_whole, rows_whole}
use Rattle.table_totals.proofs.counting.count_once.Goals as goal

pub loop-number-init : goal.loop-number-init
unfolding sum_below
loop-number-init g c =
    record { may = c.requires.may; saw = on_itself c.args.core.now; rows = λ none. refl; bytes = λ none. refl; few_rows = omega arith; few_bytes = omega arith }

pub loop-number-preserved : goal.loop-number-preserved
loop-number-preserved g c =
    let so_far = c.loop-number.invariant in
    let first = c.args.core.now in
    let mid = c.loop-number.core in
    let rowed = c.count_rows-rows.new.core in
    let new = c.count_bytes-bytes.new.core in
    let rows = c.count_rows-rows.ensures in
    let bytes = c.count_bytes-bytes.ensures in
    let both = on_and_on mid rowed new rows.saw bytes.saw in
    let number = c.loop-number.number in
    let few_rows_before = so_far.few_rows in
    let few_rows_now = rows.few in
    let few_bytes_before = so_far.few_bytes in
    let few_bytes_now = bytes.few in
    record {
      may = bytes.may;
      saw = on_and_on first mid new so_far.saw both;
      rows = λ none.
          let behind = none_behind first mid new so_far.saw both none in
          let then = same_tree rowed new bytes.saw (none_behind mid rowed new rows.saw bytes.saw behind) in
          ap₂ (λ a b. a + b)
          (so_far.rows (none_before first mid new so_far.saw both none)
          ∙ ap (λ (tree : TreeState). sum_below (row_count tree) number) (sym (same_tree mid new both behind)))
          (rows.rows (none_before mid rowed new rows.saw bytes.saw behind) ∙ ap (λ (tree : TreeState). row_count tree number) (sym then))
          ∙ sym (sum_one_more number (row_count (tree_seen new)));
      bytes = λ none.
          let behind = none_behind first mid new so_far.saw both none in
          ap₂ (λ a b. a + b)
          (so_far.bytes (none_before first mid new so_far.saw both none)
          ∙ ap (λ (tree : TreeState). sum_below (live_bytes tree) number) (sym (same_tree mid new both behind)))
          (bytes.bytes (none_behind mid rowed new rows.saw bytes.saw behind))
          ∙ sym (sum_one_more number (live_bytes (tree_seen new)));
      few_rows = omega (arith, few_rows_before, few_rows_now);
      few_bytes = omega (arith, few_bytes_before, few_bytes_now);
    }

pub returns-clause-rows : goal.returns-clause-rows
returns-clause-rows g c = λ none.
    let beyond = c.loop-number-test.false in
    let within = c.loop-number.auto.number-end in
    let end : c.loop-number.number ≡ c.args.nodes = omega (arith, beyond, within) in
    let fits : c.args.nodes < 2 ^ 32 = search rules in
    rows_whole c.args.shared.now c.args.nodes c.requires.table (omega (arith, fits)) c.args.core.now c.loop-number.core c.requires.may c.requires.legal
    c.loop-number.invariant.saw none c.loop-number.rows
    (c.loop-number.invariant.rows none ∙ ap (λ (n : ℕ). sum_below (row_count (tree_seen c.loop-number.core)) n) end)

pub returns-clause-bytes : goal.returns-clause-bytes
returns-clause-bytes g c = λ none.
    let beyond = c.loop-number-test.false in
    let within = c.loop-number.auto.number-end in
    let end : c.loop-number.number ≡ c.args.nodes = omega (arith, beyond, within) in
    let fits : c.args.nodes < 2 ^ 32 = search rules in
    bytes_whole c.args.shared.now c.args.nodes c.requires.table (omega (arith, fits)) c.args.core.now c.loop-number.core c.requires.may c.requires.legal
    c.loop-number.invariant.saw none c.loop-number.bytes
    (c.loop-number.invariant.bytes none ∙ ap (λ (n : ℕ). sum_below (live_bytes (tree_seen c.loop-number.core)) n) end)
