use Rattle.std.proofs.Common.{rules}
use Rattle.std.proofs.lemmas.List.Sorted.{answers_always}
use Rattle.stamp_table.specs.Hand.{place_in}
use Rattle.stamp_table.proofs.Finding.{search_at, search_ends}
use Rattle.stamp_table.proofs.values.find_index.Goals as goal

pub unreachable-requires : goal.unreachable-requires
unreachable-requires g c =
    search_ends c.args.cells.now c.requires.ascend c.args.place c.in_default.field-0 c.in_default.ensures.bound
    (c.in_default.ensures.position place_in (answers_always _ _ _ (λ f a r h called. search rules))) c.requires.found

pub returns : goal.returns
returns g c =
    search_at c.args.cells.now c.requires.ascend c.args.place c.in-Ok.at c.in-Ok.ensures.bound
    (c.in-Ok.ensures.position place_in (answers_always _ _ _ (λ f a r h called. search rules)))
