use Rattle.std.proofs.Common.{◌∙◌, ap}
use Rattle.mem_values.specs.Start.{given_by, FileHand}
use Rattle.mem_calls.proofs.Left.{known_home, refused}
use Rattle.test_fsync.proofs.looks.looks.Goals as goal

pub let_go-requires-clause-home : goal.let_go-requires-clause-home
let_go-requires-clause-home g c =
    known_home (given_by c.shared-shared.result.now) c.copy_logs-logs.new.core.view c.copy_logs-logs.new.core.held c.copy_logs-logs.ensures.work.knows

pub returns-in-Ok-clause-between : goal.returns-in-Ok-clause-between
returns-in-Ok-clause-between g c =
    rw c.shared-shared.ensures at (refused (given_by c.shared-shared.result.now) c.shared-shared.result.now c.copy_logs-logs.new.core c.let_go.new.self
    c.copy_logs-logs.ensures.work c.let_go.ensures.lets_go c.let_go.ensures.left c.let_go.ensures.places
    (ap (λ (h : FileHand). h.waiting) c.copy_logs-logs.ensures.saw.frame
    ∙ (ap (λ (h : FileHand). h.waiting) c.hold_nodes.ensures.on.frame
    ∙ (ap (λ (h : FileHand). h.waiting) c.reserve.ensures.same ∙ c.requires.core.none_waits)))).between

pub returns-in-Err-clause-between : goal.returns-in-Err-clause-between
returns-in-Err-clause-between g c =
    rw c.shared-shared.ensures at (refused (given_by c.shared-shared.result.now) c.shared-shared.result.now c.copy_logs-logs.new.core c.let_go.new.self
    c.copy_logs-logs.ensures.work c.let_go.ensures.lets_go c.let_go.ensures.left c.let_go.ensures.places
    (ap (λ (h : FileHand). h.waiting) c.copy_logs-logs.ensures.saw.frame
    ∙ (ap (λ (h : FileHand). h.waiting) c.hold_nodes.ensures.on.frame
    ∙ (ap (λ (h : FileHand). h.waiting) c.reserve.ensures.same ∙ c.requires.core.none_waits)))).between
