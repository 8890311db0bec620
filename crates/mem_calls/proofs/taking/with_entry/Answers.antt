use Rattle.std.proofs.Common.{subst, sym}
use Rattle.mem_cells.specs.Part.{changes_kept, StandBehind}
use Rattle.mem_values.specs.declared.cell.PartCell.{PartCell}
use Rattle.mem_calls.proofs.taking.with_entry.Goals as goal

pub add-requires-clause-behind : goal.add-requires-clause-behind
add-requires-clause-behind c =
    subst (λ (part : PartCell). StandBehind c.args.changes.items (changes_kept part.log)) (sym c.deref_mut.ensures.value) c.requires.behind
