use Rattle.std.proofs.Common.{ap, not, subst, ◌∙◌}
use Rattle.mem_calls.proofs.HeldKinds.{still_directory}
use Rattle.fsync_stamp.specs.Copying.{copied_as}
use Rattle.fsync_stamp.specs.Stamping.{StampsHeld}
use Rattle.fsync_stamp.proofs.Copies.{has_copied, none_by, stamps_copied}
use Rattle.fsync_stamp.proofs.copying.stamp_with_copy.Goals as goal

pub directory_fault_in-fault-requires-clause-held : goal.directory_fault_in-fault-requires-clause-held
directory_fault_in-fault-requires-clause-held g c =
    still_directory c.nodes-nodes.result c.hold_directory.new.core c.hold_part.new.core c.args.node 0 c.hold_part.ensures.still
    c.hold_directory.ensures.directory

pub returns-then-lives : goal.returns-then-lives
returns-then-lives g c =
    let t = c.args.table.now in
    let nodes = c.nodes-nodes.result in
    let node = c.args.node in
    let bytes = c.copy_held-bytes.result in
    let holding = c.hold_part.new.core in
    let after = c.stamp_held-stamp.new.core in
    let held = subst (λ dead. StampsHeld t nodes node (not dead) c.stamp_held-stamp.result.0 holding after) c.if-lives.true (rw c.shared-shared.ensures at
    c.stamp_held-stamp.ensures) in
    stamps_copied t nodes node c.args.core.now c.hold_directory.new.core holding after c.requires.core.holds_none c.hold_directory.ensures.on
    c.hold_part.ensures.on c.hold_part.ensures.still c.directory_fault_in-fault.result c.directory_fault_in-fault.ensures.fault
    (rw c.shared-shared.ensures at c.hold_part.ensures.work).first
    (record { stamp = c.stamp_held-stamp.result; copied = c.copied_as-copied.result }) bytes
    (has_copied nodes c.hold_directory.new.core node bytes c.copy_held-bytes.ensures.within c.copy_held-bytes.ensures.held)
    (c.copied_as-copied.ensures ∙ ap (λ directory. copied_as directory bytes) (none_by c.directory_fault_in-fault.result c.is_none.result c.is_none.ensures)) held
