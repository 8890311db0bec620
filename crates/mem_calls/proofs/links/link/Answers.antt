use Rattle.std.proofs.Common.{refl}
use Rattle.sfs_base.specs.Name.{bucket}
use Rattle.mem_calls.proofs.HeldKinds.{still_directory, still_holds_file}
use Rattle.mem_calls.proofs.links.link.Goals as goal

pub link_in-requires-clause-held : goal.link_in-requires-clause-held
link_in-requires-clause-held g c = record {
  place = still_directory c.nodes-nodes.result c.hold_link.new.core c.hold_part.new.core c.args.dir
      (bucket c.args.name) c.hold_part.ensures.still c.hold_link.ensures.held.place;
  other = λ apart. still_holds_file c.nodes-nodes.result c.hold_link.new.core c.hold_part.new.core c.args.file c.hold_part.ensures.still
      (c.hold_link.ensures.held.other apart);
}

pub finish_link-requires-clause-may : goal.finish_link-requires-clause-may
finish_link-requires-clause-may g c = c.in-None.ensures.may refl
