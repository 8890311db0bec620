use Rattle.std.proofs.Common.{sym}
use Rattle.slot_laws.specs.Labels.{fsync_told}
use Rattle.fsync_commit.specs.Asked.{CommitRequest}
use Rattle.fsync_commit.proofs.Low.{comes_low}
use Rattle.fsync_commit.proofs.Taken.{takes_way}
use Rattle.fsync_commit.proofs.committing.commit_plan.Goals as goal

pub returns-then-needs_nothing-clause-low : goal.returns-then-needs_nothing-clause-low
returns-then-needs_nothing-clause-low g c =
    let asked : CommitRequest = record { flush = fsync_told c.args.fsync.node c.args.fsync.stamp; seen = c.args.seen.now; change = c.args.change } in
    comes_low asked c.args.pen.now c.end_or_commit.new.pen c.requires.space c.requires.change c.end_or_commit.result c.end_or_commit.ensures.comes

pub returns-then-needs_nothing-clause-way : goal.returns-then-needs_nothing-clause-way
returns-then-needs_nothing-clause-way g c = λ given is.
    let asked : CommitRequest = record { flush = fsync_told c.args.fsync.node c.args.fsync.stamp; seen = c.args.seen.now; change = c.args.change } in
    takes_way asked c.args.pen.now c.end_or_commit.new.pen given c.end_or_commit.result c.end_or_commit.ensures.comes is

pub returns-else-needs_nothing-clause-low : goal.returns-else-needs_nothing-clause-low
returns-else-needs_nothing-clause-low g c =
    let asked : CommitRequest = record { flush = fsync_told c.args.fsync.node c.args.fsync.stamp; seen = c.args.seen.now; change = c.args.change } in
    comes_low asked c.args.pen.now c.build_and_commit.new.pen c.requires.space c.requires.change c.build_and_commit.result c.build_and_commit.ensures.comes

pub returns-else-needs_nothing-clause-way : goal.returns-else-needs_nothing-clause-way
returns-else-needs_nothing-clause-way g c = λ given is.
    let asked : CommitRequest = record { flush = fsync_told c.args.fsync.node c.args.fsync.stamp; seen = c.args.seen.now; change = c.args.change } in
    takes_way asked c.args.pen.now c.build_and_commit.new.pen given c.build_and_commit.result c.build_and_commit.ensures.comes is
