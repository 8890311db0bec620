use Rattle.std.proofs.Common.{◌≡◌, ◌++◌, ◌*◌, ◌+◌, ◌∷◌, [], drop, map, reverse, sym, ap, ◌∙◌, arith}
use Rattle.std.specs.List.{range_with_len}
use Rattle.std.specs.Int.{div_ceil}
use Rattle.std.proofs.lemmas.List.{length-reverse}
use Rattle.std.proofs.lemmas.List.FromFn.{map-range_with_len_more}
use Rattle.sfs_base.proofs.BasicNumbers.{zero_plus}
use Rattle.disk_change.specs.Directory.{fill_front, rows_left, block_added, blocks_for}
use Rattle.disk_change.proofs.Directories.{drop_twice, left_of_empty}
use Rattle.disk_change.proofs.directory.blocks_behind.Goals as goal

pub loop-place-preserved : goal.loop-place-preserved
loop-place-preserved c =
    let rest = reverse c.args.waiting.now.items in
    let n = c.loop-place.place in
    let block = c.fill.ensures.block ∙ (λ i. fill_front (c.in_ok-block.ensures.ok i) (c.loop-place.invariant.left i)) in
    let next : 15 * n + 15 ≡ 15 * (n + 1) = omega arith in
    record {
      blocks =
          c.in_ok-push.ensures.items ∙ (λ i. c.loop-place.invariant.blocks i ++ block i ∷ [])
          ∙ sym (map-range_with_len_more (block_added rest) 0 n n (zero_plus n));
      left =
          c.fill.ensures.left ∙ (λ i. rows_left (c.in_ok-block.ensures.ok i) (c.loop-place.invariant.left i)) ∙ left_of_empty (drop (15 * n) rest)
          ∙ drop_twice 15 (15 * n) rest ∙ ap (λ k. drop k rest) next;
    }

pub returns : goal.returns
returns c =
    let rest = reverse c.args.waiting.now.items in
    let long = c.len.ensures ∙ c.args.waiting.now.ok.0 ∙ sym (length-reverse c.args.waiting.now.items) in
    let stop = c.div_ceil-place-end.ensures ∙ ap (λ n. div_ceil n 15) long in
    let count : c.loop-place.place ≡ blocks_for rest = omega (arith, c.loop-place.auto.place-end, c.loop-place-test.false, stop) in
    c.loop-place.invariant.blocks ∙ ap (λ n. map (block_added rest) (range_with_len 0 n)) count
