use Rattle.std.proofs.Common.{subst}
use Rattle.sfs_base.specs.Name.{bucket}
use Rattle.mem_calls.specs.Held.{HoldsDirectory}
use Rattle.mem_calls.proofs.HeldKinds.{still_directory}
use Rattle.mem_calls.proofs.lookup.look.Goals as goal

pub look_in-answer-requires-clause-held : goal.look_in-answer-requires-clause-held
look_in-answer-requires-clause-held g c =
    still_directory c.nodes-nodes.result c.hold_directory.new.core c.hold_part.new.core c.args.dir (bucket c.args.name) c.hold_part.ensures.still
    (subst (λ n. HoldsDirectory c.nodes-nodes.result c.hold_directory.new.core.held c.args.dir n) c.bucket_of.ensures c.hold_directory.ensures.directory)
