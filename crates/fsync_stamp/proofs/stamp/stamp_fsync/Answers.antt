use Rattle.std.proofs.Common.{true, false, subst}
use Rattle.mem_calls.proofs.HeldKinds.{still_directory}
use Rattle.fsync_stamp.specs.Stamping.{StampsHeld}
use Rattle.fsync_stamp.proofs.Waiting.{answers_dead, on_stamp, stamps_live}
use Rattle.fsync_stamp.proofs.stamp.stamp_fsync.Goals as goal

pub lives_in-lives-requires-clause-held : goal.lives_in-lives-requires-clause-held
lives_in-lives-requires-clause-held g c =
    still_directory c.nodes-nodes.result c.hold_directory.new.core c.hold_part.new.core c.args.node 0 c.hold_part.ensures.still
    c.hold_directory.ensures.directory

pub returns-then-lives : goal.returns-then-lives
returns-then-lives g c =
    let t = c.args.table.now in
    let stamp = c.stamp_held-stamp.result.0 in
    let after = c.stamp_held-stamp.new.core in
    let held = subst (λ lives. StampsHeld t c.nodes-nodes.result c.args.node lives stamp c.hold_part.new.core after) c.if-lives.true (rw
    c.shared-shared.ensures at c.stamp_held-stamp.ensures) in
    stamps_live t c.args.node stamp c.args.core.now after c.requires.core.holds_none
    (on_stamp t c.args.node true stamp c.args.core.now c.hold_directory.new.core after c.hold_directory.ensures.on
    (on_stamp t c.args.node true stamp c.hold_directory.new.core c.hold_part.new.core after c.hold_part.ensures.on held.ends))

pub returns-else-lives : goal.returns-else-lives
returns-else-lives g c =
    let t = c.args.table.now in
    let stamp = c.stamp_held-stamp.result.0 in
    let after = c.stamp_held-stamp.new.core in
    let held = subst (λ lives. StampsHeld t c.nodes-nodes.result c.args.node lives stamp c.hold_part.new.core after) c.if-lives.false (rw
    c.shared-shared.ensures at c.stamp_held-stamp.ensures) in
    answers_dead t c.args.node stamp c.args.core.now after
    (on_stamp t c.args.node false stamp c.args.core.now c.hold_directory.new.core after c.hold_directory.ensures.on
    (on_stamp t c.args.node false stamp c.hold_directory.new.core c.hold_part.new.core after c.hold_part.ensures.on held.ends))
