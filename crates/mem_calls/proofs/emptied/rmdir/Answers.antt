use Rattle.sfs_base.specs.Name.{bucket}
use Rattle.mem_calls.proofs.HeldKinds.{still_directory}
use Rattle.mem_calls.proofs.Ending.{still_named}
use Rattle.mem_calls.proofs.emptied.rmdir.Goals as goal

pub rmdir_in-requires-clause-held : goal.rmdir_in-requires-clause-held
rmdir_in-requires-clause-held g c = still_directory c.nodes-nodes.result c.hold_ending.new.core c.hold_part.new.core c.args.dir
    (bucket c.args.name) c.hold_part.ensures.still c.hold_ending.ensures.held.directory

pub rmdir_in-requires-clause-child : goal.rmdir_in-requires-clause-child
rmdir_in-requires-clause-child g c =
    still_named c.nodes-nodes.result c.args.dir c.args.name c.hold_ending.new.core c.hold_part.new.core c.hold_part.ensures.still
    c.hold_ending.ensures.held.directory
    c.hold_ending.ensures.held.child

pub finish_rmdir-requires-clause-held : goal.finish_rmdir-requires-clause-held
finish_rmdir-requires-clause-held g c =
    still_named c.nodes-nodes.result c.args.dir c.args.name c.hold_ending.new.core c.hold_part.new.core c.hold_part.ensures.still
    c.hold_ending.ensures.held.directory
    c.hold_ending.ensures.held.child c.in-Ok.child c.in-Ok.ensures.names
