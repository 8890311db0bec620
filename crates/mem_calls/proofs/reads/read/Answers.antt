use Rattle.mem_calls.proofs.HeldKinds.{still_holds_file}
use Rattle.mem_calls.proofs.reads.read.Goals as goal

pub read_in-requires-clause-held : goal.read_in-requires-clause-held
read_in-requires-clause-held g c =
    still_holds_file c.nodes-nodes.result c.hold_file.new.core c.hold_part.new.core c.args.file c.hold_part.ensures.still c.hold_file.ensures.file
