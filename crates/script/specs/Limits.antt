-- How many calls a worker makes at most.
use Rattle.std.specs.Prelude.{ℕ, ◌+◌, List, length, sum_by}
use Rattle.script.specs.declared.commands.Command.{Command}
use Rattle.script.specs.declared.commands.Line.{Line}
use Rattle.script.specs.Walks.{WalkState, First, Second, Last, Done, Position, first_walk, second_walk}

-- how many calls are left of a command at most: one for each name ahead, and the last
abbrev pub calls_ahead : WalkState → ℕ
calls_ahead (First command node name names) = length names + length (second_walk command) + 2
calls_ahead (Second command first node name names) = length names + 2
calls_ahead (Last call) = 1
calls_ahead Done = 0

-- how many calls a command makes at most
abbrev pub most_calls : Command → ℕ
most_calls command = length (first_walk command) + length (second_walk command) + 1

-- How many calls a worker has left at most.
abbrev pub calls_left : Position → ℕ
calls_left position = calls_ahead position.walk + sum_by most_calls position.later

-- how many calls lines make at most
abbrev pub calls_of_lines : List Line → ℕ
calls_of_lines lines = sum_by (λ line. most_calls line.command) lines

-- How many calls a script makes at most.
abbrev pub calls_of_phases : List (List Line) → ℕ
calls_of_phases phases = sum_by calls_of_lines phases
