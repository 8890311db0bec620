use Rattle.std.proofs.Common.{rules}
use Rattle.std.specs.Cmp.Lexicographic.{nat_list_cmp_total}
use Rattle.std.proofs.lemmas.List.MinMax.{ranks_by}
use Rattle.std.proofs.lemmas.List.Sorted.{answers_always}
use Rattle.tree_laws.specs.declared.listing.NameKind.{NameKind}
use Rattle.mem_calls.specs.Listed.{precedes_by_name}
use Rattle.mem_calls.proofs.lists.by_name.Goals as goal

pub returns-clause-ascend : goal.returns-clause-ascend
returns-clause-ascend c = c.sort_unstable_by.ensures.sorted precedes_by_name (ranks_by nat_list_cmp_total (λ (row : NameKind). row.name))
    (answers_always _ _ _ (λ f a r g h. search rules))
