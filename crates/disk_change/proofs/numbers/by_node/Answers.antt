use Rattle.std.proofs.Common.{ap, ◌∙◌, arith, None}
use Rattle.std.proofs.lemmas.List.{take_all}
use Rattle.disk_change.specs.Numbered.{number_in}
use Rattle.disk_change.specs.declared.numbers.NodeNumber.{NodeNumber}
use Rattle.disk_change.proofs.Numbering.{number_more}
use Rattle.disk_change.proofs.numbers.by_node.Goals as goal

abbrev NO_NODE : NodeNumber
NO_NODE = record { node = 0; number = None }

pub loop-one-preserved : goal.loop-one-preserved
loop-one-preserved c = λ node.
    number_more c.args.numbers.now c.loop-one.one-index NO_NODE node _ _ (omega arith) (c.loop-one.invariant node) (c.in_ok-insert.ensures.updates.0 node)

pub returns : goal.returns
returns c = λ node. c.loop-one.invariant node ∙ ap (λ those. number_in those node) (take_all c.loop-one.one-index c.args.numbers.now (omega arith))
