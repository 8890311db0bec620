use Rattle.test_commits.specs.Disk.{SMALL}
use Rattle.test_commits.proofs.Spaces.{none_granted, space_on}
use Rattle.test_commits.proofs.commits.free_space.Goals as goal

pub returns-clause-free : goal.returns-clause-free
returns-clause-free c =
    let is = c.in_ok-space.ensures in
    let space = c.in_ok-space.space in
    (none_granted 0 16 c.args.used.now space.inodes is.inodes, none_granted 11 15 c.args.held.now space.blocks is.blocks)

pub returns-clause-on : goal.returns-clause-on
returns-clause-on c =
    let is = c.in_ok-space.ensures in
    space_on SMALL c.args.held.now c.args.used.now c.in_ok-space.space is.blocks is.inodes
