use Rattle.std.proofs.Common.{sym, ap, ◌∙◌, arith, None}
use Rattle.std.proofs.lemmas.List.{get_or_default}
use Rattle.std.proofs.lemmas.List.Folds.{list_any_none}
use Rattle.disk_nodes.specs.Indexed.{slot_has_name}
use Rattle.disk_nodes.proofs.slots.has_name.Goals as goal

pub returns : goal.returns
returns c =
    sym
    (list_any_none (slot_has_name c.args.name.now) c.args.block.now
    (λ k d within.
    ap (slot_has_name c.args.name.now) (get_or_default c.args.block.now k d None within)
    ∙ c.loop-k.invariant k (omega (arith, c.len-k-end.ensures.count))))
