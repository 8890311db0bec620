use Rattle.std.proofs.Common.{◌≡◌, take}
use Rattle.fsync_dir.specs.Members.{all_but}
use Rattle.fsync_dir.proofs.members.members_but.Given as goal

abbrev pub invariant-loop-member : goal.invariant-loop-member
invariant-loop-member l = l.list.items ≡ all_but l.node (take l.member-index l.members)
