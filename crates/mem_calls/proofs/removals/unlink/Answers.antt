use Rattle.sfs_base.specs.Name.{bucket}
use Rattle.mem_values.proofs.Basics.{is_value, some_of}
use Rattle.mem_calls.specs.Held.{file_held}
use Rattle.mem_calls.proofs.HeldKinds.{still_directory, still_file}
use Rattle.mem_calls.proofs.Named.{names_back}
use Rattle.mem_calls.proofs.removals.unlink.Goals as goal

pub unlink_in-requires-clause-held : goal.unlink_in-requires-clause-held
unlink_in-requires-clause-held g c = still_directory c.nodes-nodes.result c.hold_named.new.core c.hold_part.new.core c.args.dir
    (bucket c.args.name) c.hold_part.ensures.still c.hold_named.ensures.held.directory

pub finish_unlink-requires-clause-held : goal.finish_unlink-requires-clause-held
finish_unlink-requires-clause-held g c =
    let names =
    names_back c.nodes-nodes.result c.args.dir c.args.name c.hold_named.new.core c.hold_part.new.core c.in-Ok.child c.hold_part.ensures.still
    c.hold_named.ensures.held.directory c.in-Ok.ensures.names in
    let file = c.hold_named.ensures.held.file c.in-Ok.child names in
    let f = is_value (file_held c.nodes-nodes.result c.hold_named.new.core.held c.in-Ok.child) file.1 in (
      file.0,
      some_of (file_held c.nodes-nodes.result c.hold_part.new.core.held c.in-Ok.child) f.0
          (still_file c.nodes-nodes.result c.hold_named.new.core c.hold_part.new.core c.in-Ok.child f.0 c.hold_part.ensures.still f.1),
    )
