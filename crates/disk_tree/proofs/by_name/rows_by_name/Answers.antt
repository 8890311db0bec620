use Rattle.std.proofs.Common.{rules}
use Rattle.std.specs.Cmp.Lexicographic.{nat_list_cmp_total}
use Rattle.std.proofs.lemmas.List.MinMax.{ranks_by}
use Rattle.std.proofs.lemmas.List.Sorted.{answers_always}
use Rattle.sfs_image.specs.Slot.{Row}
use Rattle.disk_tree.specs.ByName.{comes_before}
use Rattle.disk_tree.proofs.by_name.rows_by_name.Goals as goal

pub returns-clause-ascend : goal.returns-clause-ascend
returns-clause-ascend c =
    c.sort_unstable_by.ensures.sorted comes_before (ranks_by nat_list_cmp_total (λ (row : Row). row.name)) (answers_always _ _ _ (λ f a r g h. search rules))
