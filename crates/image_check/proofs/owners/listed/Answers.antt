use Rattle.std.proofs.Common.{◌∙◌, sym, arith}
use Rattle.std.proofs.lemmas.List.{get_or_default}
use Rattle.image_check.proofs.OwnersRead.{listed_ascend, more_listed, none_listed}
use Rattle.image_check.proofs.owners.listed.Goals as goal

pub loop-block-init : goal.loop-block-init
loop-block-init c = c.new-list.ensures.items ∙ sym (none_listed c.args.owners.now)

pub loop-block-preserved : goal.loop-block-preserved
loop-block-preserved c =
    more_listed c.args.owners.now c.loop-block.block _ (omega arith) (get_or_default c.args.owners.now c.loop-block.block _ _ (omega arith)) _ _ c.loop-block.invariant c.in_ok-push_owner.ensures

pub from_vec-requires : goal.from_vec-requires
from_vec-requires c = listed_ascend c.args.owners.now c.loop-block.block _ c.loop-block.invariant
