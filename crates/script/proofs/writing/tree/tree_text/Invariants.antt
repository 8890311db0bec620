use Rattle.script.specs.TreeWalk.{IsWalkOf, left_to_meet}
use Rattle.script.proofs.writing.tree.tree_text.Given as goal

abbrev pub invariant-loop-walk : goal.invariant-loop-walk
invariant-loop-walk l = IsWalkOf l.tree l.walk

abbrev pub decreases-loop-walk : goal.decreases-loop-walk
decreases-loop-walk l = left_to_meet l.tree l.walk
