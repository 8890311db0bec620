-- One node more, and the end.
use Rattle.std.proofs.Common.{rules, ◌<◌, ◌≤◌, ◌+◌, ◌^◌, refl, sym, ap₂, ◌∙◌, arith}
use Rattle.tree_laws.specs.Least.{first_behind}
use Rattle.tree_laws.specs.NameRow.{number_of}
use Rattle.tree_totals.specs.Totals.{LONGEST_FILE, NUMBERS, live_bytes, rows_in, sum_below}
use Rattle.tree_totals.proofs.Sums.{live_short, no_bytes, no_rows, sum_ends, sum_to_next}
use Rattle.tree_totals.proofs.counted.totals.Goals as goal

pub loop-node-init : goal.loop-node-init
unfolding sum_below
loop-node-init c = record { rows = refl; bytes = refl; few_rows = omega arith; few_bytes = omega arith; within = omega arith }

pub loop-node-preserved : goal.loop-node-preserved
loop-node-preserved c =
    let tree = c.args.tree.now in
    let node = c.in-Some.node.0 in
    let first = first_behind (number_of c.loop-node.after) in
    let least = c.in-Some.ensures.found in
    let so_far = c.loop-node.invariant in
    let from = least.from in
    let fits : node < 2 ^ 32 = search rules in
    let few = c.rows_in-rows.ensures.few in
    let few_rows = so_far.few_rows in
    let short : c.live_bytes-bytes.result ≤ LONGEST_FILE =
    live_short tree node c.live_bytes-bytes.result (c.requires.short node) c.live_bytes-bytes.ensures.bytes in
    let few_bytes = so_far.few_bytes in
    record {
      rows = ap₂ (λ a b. a + b) so_far.rows c.rows_in-rows.ensures.rows ∙ sym (sum_to_next tree (rows_in tree) (no_rows tree) first node least);
      bytes = ap₂ (λ a b. a + b) so_far.bytes c.live_bytes-bytes.ensures.bytes ∙ sym (sum_to_next tree (live_bytes tree) (no_bytes tree) first node least);
      few_rows = omega (arith, few, few_rows, from);
      few_bytes = omega (arith, short, few_bytes, from);
      within = omega (arith, fits);
    }

pub returns-clause-rows : goal.returns-clause-rows
returns-clause-rows c =
    let tree = c.args.tree.now in
    let so_far = c.loop-node.invariant in
    so_far.rows ∙ sym (sum_ends tree (rows_in tree) (no_rows tree) (first_behind (number_of c.loop-node.after)) NUMBERS so_far.within c.in_default.ensures.none)

pub returns-clause-bytes : goal.returns-clause-bytes
returns-clause-bytes c =
    let tree = c.args.tree.now in
    let so_far = c.loop-node.invariant in
    so_far.bytes
    ∙ sym (sum_ends tree (live_bytes tree) (no_bytes tree) (first_behind (number_of c.loop-node.after)) NUMBERS so_far.within c.in_default.ensures.none)
