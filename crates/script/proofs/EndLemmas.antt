-- How many calls a worker has left at most.
use Rattle.std.proofs.Common.{◌≡◌, ℕ, ◌+◌, ◌<◌, List, [], ◌∷◌, length, Some, refl, sym, ap, ◌∙◌, zero-add, sum_by, arith}
use Rattle.std.proofs.lemmas.List.Sums.{sum_by-cons}
use Rattle.tree_laws.specs.declared.call.Call.{Call}
use Rattle.tree_laws.specs.declared.reply.Reply.{Reply}
use Rattle.tree_laws.specs.declared.reply.Reply.TheVariants as reply
use Rattle.script.specs.declared.commands.Command.{Command}
use Rattle.script.specs.Walks.{WalkState, First, Second, Last, Done, first_walk, second_walk, on_first, on_second, call_of, after, Position, go_on, started, taken}
use Rattle.script.specs.Limits.{calls_ahead, most_calls, calls_left}

on_second-left : (command : Command) (first node : ℕ) (names : List (List ℕ)) → calls_ahead (on_second command first node names) ≡ length names + 1
on_second-left command first node [] = omega arith
on_second-left command first node (name ∷ names) = omega arith

on_first-left : (command : Command) (node : ℕ) (names : List (List ℕ))
    → calls_ahead (on_first command node names) ≡ length names + length (second_walk command) + 1
on_first-left command node [] = let e = on_second-left command node 0 (second_walk command) in omega arith
on_first-left command node (name ∷ names) = omega arith

-- a reply leaves fewer calls to a command
after-left : (walk : WalkState) (reply : Reply) (call : Call) → call_of walk ≡ Some call → calls_ahead (after walk reply) < calls_ahead walk
after-left (First command node name names) (reply.Node child kind) call e = let l = on_first-left command child.0 names in omega arith
after-left (First command node name names) _ call e = omega arith
after-left (Second command first node name names) (reply.Node child kind) call e = let l = on_second-left command first child.0 names in omega arith
after-left (Second command first node name names) _ call e = omega arith
after-left (Last last) reply call e = omega arith
after-left Done reply call e = cc

go_on-left : (walk : WalkState) (commands : List Command) → calls_left (go_on walk commands) ≡ calls_ahead walk + sum_by most_calls commands
go_on-left Done [] = refl
go_on-left Done (command ∷ commands) =
    let l = on_first-left command 0 (first_walk command) in
    let more = sum_by-cons most_calls command commands in
    ap (λ calls. calls + sum_by most_calls commands) l ∙ sym (zero-add (sum_by most_calls (command ∷ commands)) ∙ more)
go_on-left (First command node name names) commands = refl
go_on-left (Second command first node name names) commands = refl
go_on-left (Last last) commands = refl

-- A reply leaves fewer calls to a worker, so it comes to its end.
pub calls_left-falls : (position : Position) (reply : Reply) (call : Call) → call_of position.walk ≡ Some call
    → calls_left (taken position reply) < calls_left position
calls_left-falls position reply call e =
    let falls = after-left position.walk reply call e in
    let goes = go_on-left (after position.walk reply) position.later in
    omega arith

-- a worker before its first call
pub calls_left-started : (commands : List Command) → calls_left (started commands) ≡ sum_by most_calls commands
calls_left-started commands = let goes = go_on-left Done commands in omega arith
