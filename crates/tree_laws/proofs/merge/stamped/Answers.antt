use Rattle.std.proofs.Common.{sym, ap, ◌∙◌}
use Rattle.std.specs.List.{find}
use Rattle.std.specs.Option.{option_copied}
use Rattle.tree_laws.specs.Merged.{has_stamp}
use Rattle.tree_laws.proofs.ByStamps.{here_found, here_none}
use Rattle.tree_laws.proofs.merge.stamped.Goals as goal

pub returns-in-Some : goal.returns-in-Some
returns-in-Some c =
    here_found c.args.stamp c.args.parts.now c.loop-part.part-index c.part-item.result c.loop-part-test.true c.part-item.is c.loop-part.invariant
    c.in-Some.entry.now
    (sym (ap option_copied c.in-Some.is) ∙ c.stamped_in.ensures ∙ ap (find (has_stamp c.args.stamp)) c.deref.ensures.value)

pub loop-part-preserved : goal.loop-part-preserved
loop-part-preserved c =
    here_none c.args.stamp c.args.parts.now c.loop-part.part-index c.part-item.result c.loop-part-test.true c.part-item.is c.loop-part.invariant
    (sym (ap option_copied (sym c.in_default.is) ∙ c.stamped_in.ensures ∙ ap (find (has_stamp c.args.stamp)) c.deref.ensures.value))
