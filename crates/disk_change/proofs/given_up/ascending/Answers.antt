use Rattle.std.proofs.Common.{ap, ◌∙◌}
use Rattle.std.proofs.lemmas.List.Filters.{dedup_is}
use Rattle.disk_change.proofs.Left.{numbers_increase, same_numbers}
use Rattle.disk_change.proofs.given_up.ascending.Goals as goal

pub returns-clause-ascending : goal.returns-clause-ascending
returns-clause-ascending c =
    numbers_increase c.sort_unstable.new.self.items c.from_vec.result.items c.sort_unstable.ensures.sorted
    (ap (λ l. l.items) c.from_vec.ensures ∙ dedup_is _ c.sort_unstable.new.self.items _ c.dedup.ensures.filtered)

pub returns-clause-each : goal.returns-clause-each
returns-clause-each c =
    same_numbers c.args.numbers.items c.sort_unstable.new.self.items c.from_vec.result.items c.sort_unstable.ensures.permutation
    (ap (λ l. l.items) c.from_vec.ensures ∙ dedup_is _ c.sort_unstable.new.self.items _ c.dedup.ensures.filtered)
