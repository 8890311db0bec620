use Rattle.std.proofs.Common.{◌≡◌, ◌<◌, map, filter}
use Rattle.std.specs.Prelude.{All}
use Rattle.std.specs.List.{range_with_len}
use Rattle.disk_change.specs.Pages.{page_block}
use Rattle.flush_plan.specs.Touched.{page_of, is_marked_from}
use Rattle.flush_plan.proofs.touched.touched_pages.Given as goal

abbrev pub invariant-loop-block : goal.invariant-loop-block
invariant-loop-block l = record {
  pages : l.pages.items ≡ map (page_of l.bytes.bytes) (filter (is_marked_from l.cut.0 l.bytes) (range_with_len 0 l.block));
  below : All (λ page. page_block page < l.block) l.pages.items;
}
