use Rattle.mem_values.specs.Start.{given_by}
use Rattle.mem_rename.proofs.Standing.{works_after, saw}
use Rattle.mem_rename.proofs.ways.standing_of.Goals as goal

pub returns-clause-work : goal.returns-clause-work
returns-clause-work g c =
    works_after (given_by c.args.shared.now) c.args.shared.now c.args.nodes c.requires.table c.args.node c.requires.node c.args.core.now c.hold_more.new.core
    c.let_go.new.self c.requires.work c.requires.lock c.hold_more.ensures.work c.hold_more.ensures.gains
    c.let_go.ensures.lets_go c.let_go.ensures.left c.let_go.ensures.places

pub returns-clause-saw : goal.returns-clause-saw
returns-clause-saw g c =
    saw (given_by c.args.shared.now) c.args.shared.now c.args.nodes c.requires.table c.args.node c.requires.node c.args.core.now c.hold_more.new.core
    c.let_go.new.self
    c.requires.work c.requires.lock c.hold_more.ensures.work c.hold_more.ensures.gains
    c.let_go.ensures.lets_go c.let_go.ensures.left c.let_go.ensures.places c.bucket_in.result.now c.bucket_in.ensures
