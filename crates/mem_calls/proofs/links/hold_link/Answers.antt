use Rattle.std.proofs.Common.{subst}
use Rattle.sfs_base.specs.Name.{bucket}
use Rattle.mem_calls.specs.Held.{HoldsDirectory}
use Rattle.mem_calls.proofs.HeldKinds.{holds_bucket, first_and_file, still_directory, still_holds_file}
use Rattle.mem_calls.proofs.links.hold_link.Goals as goal

pub returns-then-file-dir-clause-held : goal.returns-then-file-dir-clause-held
returns-then-file-dir-clause-held g c = record {
  place = subst (λ n. HoldsDirectory c.args.nodes c.hold_directory.new.core.held c.args.dir n) c.bucket_of-number.ensures c.hold_directory.ensures.directory;
  other =
      λ apart. still_holds_file c.args.nodes c.hold_file.new.core c.hold_directory.new.core c.args.file c.hold_directory.ensures.still c.hold_file.ensures.file;
}

pub returns-then-file-nodes-clause-held : goal.returns-then-file-nodes-clause-held
returns-then-file-nodes-clause-held g c = record {
  place = still_directory c.args.nodes c.hold_more.new.core c.hold_more-then-file-nodes.new.core c.args.dir
      (bucket c.args.name.now) c.hold_more-then-file-nodes.ensures.gains.still
      (still_directory c.args.nodes c.hold_directory-2.new.core c.hold_more.new.core c.args.dir (bucket c.args.name.now) c.hold_more.ensures.gains.still
      (subst (λ n. HoldsDirectory c.args.nodes c.hold_directory-2.new.core.held c.args.dir n) c.bucket_of-number.ensures c.hold_directory-2.ensures.directory));
  other = λ apart. first_and_file c.args.nodes c.hold_more.new.core c.hold_more-then-file-nodes.new.core c.args.file
      (holds_bucket c.args.nodes c.hold_directory-2.new.core c.hold_more.new.core c.args.file 0 c.hold_more.ensures.gains)
      c.hold_more-then-file-nodes.ensures.gains;
}
