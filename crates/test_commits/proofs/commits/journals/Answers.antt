use Rattle.test_commits.proofs.Spaces.{all_on, all_ready, all_small}
use Rattle.test_commits.proofs.commits.journals.Goals as goal

pub returns-in-Ok-new-clause-ready : goal.returns-in-Ok-new-clause-ready
returns-in-Ok-new-clause-ready c =
    all_ready c.in-Ok-new.set c.in-Ok-new.pens.items _ c.in-Ok.space c.in-Ok-new.ensures.pens c.in-Ok-new.ensures.key

pub returns-in-Ok-new-clause-space : goal.returns-in-Ok-new-clause-space
returns-in-Ok-new-clause-space c =
    all_on c.in-Ok-new.set c.in-Ok-new.pens.items _ c.in-Ok.space c.in-Ok-new.ensures.pens c.in-Ok-new.ensures.key c.in-Ok.ensures.on

pub returns-in-Ok-new-clause-layout : goal.returns-in-Ok-new-clause-layout
returns-in-Ok-new-clause-layout c =
    all_small c.in-Ok-new.set c.in-Ok-new.pens.items _ c.in-Ok.space c.in-Ok-new.ensures.pens c.in-Ok-new.ensures.key
