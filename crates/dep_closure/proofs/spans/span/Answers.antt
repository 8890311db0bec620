use Rattle.std.proofs.Common.{nat_lt, refl, ap, ◌∙◌, filter}
use Rattle.tree_laws.specs.declared.changes.Change.{Change}
use Rattle.std.proofs.lemmas.List.Sorted.{IsNonDecreasingBy-take}
use Rattle.mem_cells.specs.Log.{is_from, log_place}
use Rattle.dep_closure.specs.Spans.{is_in_span}
use Rattle.dep_closure.proofs.Parts.{pass_both}
use Rattle.dep_closure.proofs.spans.span.Goals as goal

pub returns-clause-items : goal.returns-clause-items
returns-clause-items c =
    c.place_of.ensures.before ∙ ap (filter (λ (change : Change). nat_lt change.stamp.0 c.args.below.0)) c.from_stamp-late.ensures.items
    ∙ pass_both (is_from c.args.from.0) (λ change. nat_lt change.stamp.0 c.args.below.0) (is_in_span c.args.from.0 c.args.below.0)
    (λ change. refl) c.args.changes.now

pub returns-clause-in_order : goal.returns-clause-in_order
returns-clause-in_order c =
    record { rises = IsNonDecreasingBy-take log_place c.place_of.result c.from_stamp-late.result.now c.from_stamp-late.ensures.in_order.rises }
