use Rattle.std.proofs.Common.{◌<◌, subst}
use Rattle.std.specs.Prelude.{IfSome}
use Rattle.mem_calls.specs.Held.{HoldsDirectory}
use Rattle.mem_calls.proofs.HeldKinds.{still_directory}
use Rattle.mem_calls.proofs.NewCells.{still_own, creation_held}
use Rattle.sfs_base.specs.Name.{bucket}
use Rattle.mem_calls.proofs.creations.hold_places.Goals as goal

pub returns-then-dir-nodes-clause-held : goal.returns-then-dir-nodes-clause-held
returns-then-dir-nodes-clause-held g c =
    creation_held c.args.nodes c.hold_directory-then-dir-nodes.new.core c.hold_more.new.core c.args.dir c.args.name.now c.in-Some.child c.args.kind c.args.next
    (subst (λ n. HoldsDirectory c.args.nodes c.hold_directory-then-dir-nodes.new.core.held c.args.dir n) c.bucket_of-number.ensures
    c.hold_directory-then-dir-nodes.ensures.directory)
    (still_own c.args.nodes c.hold_own.new.core c.hold_directory-then-dir-nodes.new.core c.hold_directory-then-dir-nodes.ensures.still c.in-Some.child
    c.args.kind c.hold_own.ensures.own)
    c.hold_more.ensures.gains (subst (λ o. IfSome o (λ n. n.0 < c.args.nodes)) c.in-Some.is c.requires.within) c.in-Some.is

pub returns-then-dir-child-clause-held : goal.returns-then-dir-child-clause-held
returns-then-dir-child-clause-held g c =
    creation_held c.args.nodes c.hold_own-then-dir-child.new.core c.hold_more-then-dir-child.new.core c.args.dir c.args.name.now c.in-Some.child c.args.kind
    c.args.next
    (still_directory c.args.nodes c.hold_directory-2.new.core c.hold_own-then-dir-child.new.core c.args.dir
    (bucket c.args.name.now) c.hold_own-then-dir-child.ensures.still
    (subst (λ n. HoldsDirectory c.args.nodes c.hold_directory-2.new.core.held c.args.dir n) c.bucket_of-number.ensures c.hold_directory-2.ensures.directory))
    c.hold_own-then-dir-child.ensures.own c.hold_more-then-dir-child.ensures.gains
    (subst (λ o. IfSome o (λ n. n.0 < c.args.nodes)) c.in-Some.is c.requires.within) c.in-Some.is
