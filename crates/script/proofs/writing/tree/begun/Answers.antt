-- The root alone is to be met.
use Rattle.std.proofs.Common.{refl}
use Rattle.script.proofs.TreeWalkLemmas.{begun_with}
use Rattle.script.proofs.writing.tree.begun.Goals as goal

pub returns : goal.returns
returns c =
    begun_with c.args.tree.now _ _ _ _ _ c.new-2.ensures.bytes c.new-3.ensures.empty c.new-unmet.ensures.items c.in_ok-push.ensures.items
    c.new.ensures.bytes refl
