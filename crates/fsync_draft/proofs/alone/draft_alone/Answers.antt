use Rattle.std.proofs.Common.{◌∙◌, ap, length, sym}
use Rattle.std.proofs.lemmas.List.{length-map}
use Rattle.stamp_table.specs.Table.{with_values}
use Rattle.fsync_draft.specs.Drafting.{IsHollow}
use Rattle.fsync_draft.proofs.Drafts.{back_again, hollow_long, value_of}
use Rattle.fsync_draft.proofs.alone.draft_alone.Goals as goal

pub swap_values-requires-in-Err : goal.swap_values-requires-in-Err
swap_values-requires-in-Err c =
    let before = c.args.core.now in
    let out = c.swap_values.new.self in
    let hollow : IsHollow before out = record {
      values = c.in_ok-values.values.items;
      count = c.in_ok-values.ensures ∙ sym c.requires.holds;
      after_is = c.swap_values.ensures.cells;
    } in
    ap length (c.in-Err.ensures.same ∙ c.swap_values.ensures.values) ∙ (length-map before.held value_of ∙ sym (hollow_long before out hollow))

pub returns-in-Err-clause-back : goal.returns-in-Err-clause-back
returns-in-Err-clause-back c =
    let before = c.args.core.now in
    let out = c.swap_values.new.self in
    let hollow : IsHollow before out = record {
      values = c.in_ok-values.values.items;
      count = c.in_ok-values.ensures ∙ sym c.requires.holds;
      after_is = c.swap_values.ensures.cells;
    } in
    back_again before out c.swap_values-in-Err.new.self hollow
    (c.swap_values-in-Err.ensures.cells
    ∙ ap (λ values. record out { held = with_values values out.held }) (c.in-Err.ensures.same ∙ c.swap_values.ensures.values))
