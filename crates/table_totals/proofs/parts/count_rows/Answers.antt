use Rattle.std.proofs.Common.{◌≡◌, ◌+◌, ℕ, refl, sym, ap, ap₂, ◌∙◌, arith}
use Rattle.std.specs.FinMap.{len}
use Rattle.tree_laws.specs.Tree.{TreeState, bucket_rows}
use Rattle.mem_calls.specs.Sums.{sum_until}
use Rattle.mem_calls.proofs.Summed.{rows_summed, sum_more}
use Rattle.table_totals.specs.Seen.{tree_seen}
use Rattle.table_totals.proofs.Moments.{none_before, none_behind, on_and_on, on_itself, same_tree}
use Rattle.table_totals.proofs.parts.count_rows.Goals as goal

pub loop-number-init : goal.loop-number-init
loop-number-init g c = record { may = c.requires.may; saw = on_itself c.args.core.now; rows = λ none. refl; few = omega arith }

pub loop-number-preserved : goal.loop-number-preserved
loop-number-preserved g c =
    let so_far = c.loop-number.invariant in
    let mid = c.loop-number.core in
    let new = c.count_bucket-rows.new.core in
    let counted = c.count_bucket-rows.ensures in
    let few_before = so_far.few in
    let few_now = counted.few in
    record {
      may = counted.may;
      saw = on_and_on c.args.core.now mid new so_far.saw counted.saw;
      rows = λ none.
          let behind = none_behind c.args.core.now mid new so_far.saw counted.saw none in
          let same = same_tree mid new counted.saw behind in
          let before = so_far.rows (none_before c.args.core.now mid new so_far.saw counted.saw none)
          ∙ ap (λ (tree : TreeState). sum_until c.loop-number.number (λ b. len (bucket_rows c.args.node.0 b tree.rows))) (sym same) in
          ap₂ (λ a b. a + b) before (counted.rows behind)
          ∙ sym (sum_more c.loop-number.number (λ b. len (bucket_rows c.args.node.0 b (tree_seen new).rows)));
      few = omega (arith, few_before, few_now);
    }

pub returns-clause-rows : goal.returns-clause-rows
returns-clause-rows g c = λ none.
    let beyond = c.loop-number-test.false in
    let within = c.loop-number.auto.number-end in
    let end : c.loop-number.number ≡ 8 = omega (arith, beyond, within) in
    c.loop-number.invariant.rows none
    ∙ (ap (λ (n : ℕ). sum_until n (λ b. len (bucket_rows c.args.node.0 b (tree_seen c.loop-number.core).rows))) end
    ∙ sym (rows_summed (tree_seen c.loop-number.core) c.args.node.0))
