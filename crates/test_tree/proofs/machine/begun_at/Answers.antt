use Rattle.std.proofs.Common.{sym, subst, arith}
use Rattle.tree_laws.specs.Sound.{IsSound}
use Rattle.tree_laws.proofs.SoundTrees.{root_alone_is_sound}
use Rattle.test_tree.proofs.machine.begun_at.Goals as goal

pub new-state-requires : goal.new-state-requires
new-state-requires c = subst IsSound (sym c.in_ok-tree.ensures.ok) (root_alone_is_sound c.args.first c.args.share 2 c.requires.first).sound
