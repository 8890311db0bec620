use Rattle.std.proofs.Common.{sym, ap, ◌∙◌, arith}
use Rattle.std.specs.Prelude.{slice_get}
use Rattle.std.specs.FinMap.{entries}
use Rattle.tree_laws.proofs.RowsByName.{entries-map_of}
use Rattle.tree_laws.proofs.RowsRemoved.{entry_at, entry_past}
use Rattle.tree_laws.proofs.name_map.NameMap.at.Goals as goal

pub returns-then-place-len : goal.returns-then-place-len
returns-then-place-len c =
    entry_at c.self.inside.rows.items c.index.result.now c.args.place (omega (arith, c.self.inside.rows.ok.0)) c.index.ensures
    ∙ ap (λ es. slice_get es c.args.place) (sym (entries-map_of c.self.inside.rows.items c.self.invariant) ∙ ap entries c.self.view_is)

pub returns-else-place-len : goal.returns-else-place-len
returns-else-place-len c =
    entry_past c.self.inside.rows.items c.args.place (omega (arith, c.self.inside.rows.ok.0))
    ∙ ap (λ es. slice_get es c.args.place) (sym (entries-map_of c.self.inside.rows.items c.self.invariant) ∙ ap entries c.self.view_is)
