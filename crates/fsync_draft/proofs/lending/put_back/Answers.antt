use Rattle.std.proofs.Common.{◌∙◌, ap, length, sym}
use Rattle.std.proofs.lemmas.List.{length-map}
use Rattle.stamp_table.specs.Table.{with_values}
use Rattle.fsync_draft.proofs.Drafts.{back_again, hollow_long, value_of}
use Rattle.fsync_draft.proofs.lending.put_back.Goals as goal

pub swap_values-requires : goal.swap_values-requires
swap_values-requires c =
    let out = c.requires in
    ap length (c.restore.ensures out.1.nodes _ out.1.lent)
    ∙ (length-map out.0.held value_of ∙ sym (hollow_long out.0 c.args.core.now out.1.hollow))

pub returns : goal.returns
returns c = λ before out.
    back_again before c.args.core.now c.swap_values.new.self out.hollow
    (c.swap_values.ensures.cells
    ∙ ap (λ values. record c.args.core.now { held = with_values values c.args.core.now.held }) (c.restore.ensures out.nodes _ out.lent))
