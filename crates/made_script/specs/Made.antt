-- The script of `load`, which is made from three numbers.
use Rattle.std.specs.Prelude.{ℕ, zero, suc, ◌+◌, ◌*◌, ◌/◌, ◌%◌, ◌^◌, List, [], ◌∷◌, ◌++◌, ◌==◌, decimal, if◌then◌else◌}
use Rattle.std.specs.Int.{to_le_bytes, w32}
use Rattle.script.specs.declared.commands.Command.{Command}
use Rattle.script.specs.declared.commands.Command.TheVariants as command
use Rattle.script.specs.declared.commands.Line.{Line}

-- a draw of a worker's generator, from the one before it
abbrev pub next_draw : ℕ → ℕ
next_draw x = (1664525 * x + 1013904223) % 2 ^ 32

-- the state of a worker's generator behind so many draws: it begins with the seed and the worker's number
abbrev pub drawn : ℕ → ℕ → ℕ → ℕ
drawn seed worker zero = (seed + worker) % 2 ^ 32
drawn seed worker (suc count) = next_draw (drawn seed worker count)

-- a letter with a number behind it, as `f12`
abbrev pub numbered : ℕ → ℕ → List ℕ
numbered letter number = letter ∷ decimal number

-- a worker's directory: `/wW`
abbrev pub home : ℕ → List (List ℕ)
home worker = numbered 119 worker ∷ []

-- a name in it, of a letter and an item: `/wW/fI` by the letter `f`, which is 102
abbrev pub place : ℕ → ℕ → ℕ → List (List ℕ)
place letter worker item = numbered 119 worker ∷ numbered letter item ∷ []

-- what is done with a file at last, by its draw: a flush, a rename to `/wW/rI`, its removal, or a second name `/wW/lI`
abbrev pub last_command : ℕ → ℕ → ℕ → Command
last_command choice worker item =
    if choice == 0 then command.Fsync (place 102 worker item) else
    if choice == 1 then command.Rename (place 102 worker item) (place 114 worker item) else
    if choice == 2 then command.Unlink (place 102 worker item) else
    command.Link (place 102 worker item) (place 108 worker item)

-- a line of a worker
abbrev pub line : ℕ → Command → Line
line worker what = record { worker = worker; command = what }

-- an item's file is made
abbrev pub create_line : ℕ → ℕ → Line
create_line worker item = line worker (command.Create (place 102 worker item))

-- its draw's four bytes are written to it, the least first
abbrev pub write_line : ℕ → ℕ → ℕ → Line
write_line worker item draw = line worker (command.Write (place 102 worker item) 0 (to_le_bytes w32 draw))

-- the lines of an item, by its draw: these two, and one thing more is done
abbrev pub item_lines : ℕ → ℕ → ℕ → List Line
item_lines worker item draw =
    create_line worker item ∷ write_line worker item draw ∷ line worker (last_command (draw / 65536 % 4) worker item) ∷ []

-- the lines of so many numbers in turn, from one on
abbrev pub each : (ℕ → List Line) → ℕ → ℕ → List Line
each lines from zero = []
each lines from (suc count) = lines from ++ each lines (from + 1) count

-- a worker's items: each takes one draw
abbrev pub item_of : ℕ → ℕ → ℕ → List Line
item_of seed worker item = item_lines worker item (drawn seed worker (item + 1))

abbrev pub worker_lines : ℕ → ℕ → ℕ → List Line
worker_lines seed count worker = each (item_of seed worker) 0 count

-- worker 0 makes a directory for each worker
abbrev pub home_line : ℕ → List Line
home_line worker = line 0 (command.Mkdir (home worker)) ∷ []

-- each worker flushes its directory
abbrev pub flush_line : ℕ → List Line
flush_line worker = line worker (command.Fsync (home worker)) ∷ []

-- The script of a seed, so many items a worker and so many workers: the directories; the items, worker beside worker; and a flush of each directory.
abbrev pub made : ℕ → ℕ → ℕ → List (List Line)
made seed count workers = each home_line 0 workers ∷ each (worker_lines seed count) 0 workers ∷ each flush_line 0 workers ∷ []
