use Rattle.std.proofs.Common.{length, sym, ap, subst, ◌∙◌}
use Rattle.tree_laws.specs.Merged.{entries_in}
use Rattle.tree_laws.specs.Kept.{kept_entries, IsWhole}
use Rattle.tree_laws.proofs.ByStamps.{length-by_stamps}
use Rattle.tree_laws.proofs.history.History.len.Goals as goal

pub returns-in-Parts : goal.returns-in-Parts
returns-in-Parts c =
    c.count_entries.ensures
    ∙ ap (λ parts. length (entries_in parts)) c.deref.ensures.value
    ∙ sym (length-by_stamps (entries_in c.in-Parts.parts.items) (subst IsWhole c.in-Parts.is c.self.invariant))
    ∙ ap length (ap kept_entries (sym c.in-Parts.is) ∙ c.self.view_is)
