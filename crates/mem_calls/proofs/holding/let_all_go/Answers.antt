use Rattle.mem_values.specs.Start.{given_by}
use Rattle.mem_calls.proofs.Left.{known_home, works, none, idle}
use Rattle.mem_calls.proofs.holding.let_all_go.Goals as goal

pub let_go-requires-clause-home : goal.let_go-requires-clause-home
let_go-requires-clause-home c = known_home (given_by c.args.shared.now) c.args.core.now.view c.args.core.now.held c.requires.knows

pub returns-clause-work : goal.returns-clause-work
returns-clause-work c =
    works (given_by c.args.shared.now) c.args.shared.now c.args.core.now c.let_go.new.self c.requires c.let_go.ensures.lets_go c.let_go.ensures.left
    c.let_go.ensures.places

pub returns-clause-none : goal.returns-clause-none
returns-clause-none c =
    none (given_by c.args.shared.now) c.args.shared.now c.args.core.now c.let_go.new.self c.requires c.let_go.ensures.lets_go c.let_go.ensures.left
    c.let_go.ensures.places

pub returns-clause-idle : goal.returns-clause-idle
returns-clause-idle c =
    idle (given_by c.args.shared.now) c.args.shared.now c.args.core.now c.let_go.new.self c.requires c.let_go.ensures.lets_go c.let_go.ensures.left
    c.let_go.ensures.places
