use Rattle.mem_values.specs.Start.{given_by}
use Rattle.mem_rename.proofs.Gathered.{refused}
use Rattle.mem_calls.proofs.Left.{known_home}
use Rattle.mem_rename.proofs.rounds.give_up.Goals as goal

pub let_go-requires-clause-home : goal.let_go-requires-clause-home
let_go-requires-clause-home c = known_home (given_by c.args.shared.now) c.args.core.now.view c.args.core.now.held c.requires.work.knows

pub returns : goal.returns
returns c =
    refused (given_by c.args.shared.now) c.args.shared.now c.args.core.now c.let_go.new.self c.requires.work c.requires.answered c.let_go.ensures.lets_go
    c.let_go.ensures.left
    c.let_go.ensures.places
