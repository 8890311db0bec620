-- How a worker's leg is seen.
use Rattle.script.specs.declared.working.steps.Walk.{Walk}
use Rattle.script.specs.declared.working.steps.Walk.TheVariants as leg
use Rattle.script.specs.Walks.{WalkState, First, Second, Last, Done, last_call}

-- what is left of the command at hand
abbrev pub walk_state_of : Walk → WalkState
walk_state_of (leg.First command node name names) = First command.now node.0 name.now names.now
walk_state_of (leg.Second command first node name names) = Second command.now first.0 node.0 name.now names.now
walk_state_of (leg.Last command first second) = Last (last_call command.now first.0 second.0)
walk_state_of leg.Done = Done
