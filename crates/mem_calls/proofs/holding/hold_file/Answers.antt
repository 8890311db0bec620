use Rattle.mem_calls.proofs.HeldKinds.{holds_bucket, first_and_file}
use Rattle.mem_calls.proofs.holding.hold_file.Goals as goal

pub returns-then-file_in-eq0-clause-file : goal.returns-then-file_in-eq0-clause-file
returns-then-file_in-eq0-clause-file g c =
    first_and_file c.args.nodes c.hold_more-then-file_in-eq0.new.core c.hold_more-then-file_in-eq0-2.new.core c.args.node
    (holds_bucket c.args.nodes c.let_all_go.new.core c.hold_more-then-file_in-eq0.new.core c.args.node 0 c.hold_more-then-file_in-eq0.ensures.gains)
    c.hold_more-then-file_in-eq0-2.ensures.gains
