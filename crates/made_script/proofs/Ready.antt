-- Each line of a made script is within its bounds: none reads.
use Rattle.std.proofs.Common.{ℕ, zero, suc, ◌+◌, Bool, true, false, List, [], ◌∷◌, ◌++◌, cond, ◌==◌, ◌/◌, ◌%◌}
use Rattle.std.specs.List.{All}
use Rattle.std.proofs.lemmas.List.Elements.{All-from_recursion}
use Rattle.script.specs.declared.commands.Command.TheVariants as command
use Rattle.script.specs.declared.commands.Line.{Line}
use Rattle.script.specs.Ready.{LinesMayRun, MayRun}
use Rattle.made_script.specs.Made.{drawn, each, flush_line, home_line, item_of, last_command, made, place, worker_lines}

both_may : (first second : List Line) → LinesMayRun first → LinesMayRun second → LinesMayRun (first ++ second)
both_may [] second ready later = later
both_may (line ∷ first) second ready later = (ready.0, both_may first second ready.1 later)

each_may : (lines : ℕ → List Line) → ((n : ℕ) → LinesMayRun (lines n)) → (from count : ℕ) → LinesMayRun (each lines from count)
each_may lines ready from zero = tt
each_may lines ready from (suc count) = both_may (lines from) (each lines (from + 1) count) (ready from) (each_may lines ready (from + 1) count)

last_may : (choice worker item : ℕ) → MayRun (last_command choice worker item)
last_may choice worker item = by (choice == 0) (choice == 1) (choice == 2)
  where
    by : (zero one two : Bool)
        → MayRun (cond zero (command.Fsync (place 102 worker item)) (cond one (command.Rename (place 102 worker item) (place 114 worker item))
        (cond two (command.Unlink (place 102 worker item)) (command.Link (place 102 worker item) (place 108 worker item)))))
    by true one two = tt
    by false true two = tt
    by false false true = tt
    by false false false = tt

item_may : (seed worker item : ℕ) → LinesMayRun (item_of seed worker item)
item_may seed worker item = (tt, (tt, (last_may (drawn seed worker (item + 1) / 65536 % 4) worker item, tt)))

pub made_may_run : (seed count workers : ℕ) → All LinesMayRun (made seed count workers)
made_may_run seed count workers =
    All-from_recursion LinesMayRun (made seed count workers) (
      each_may home_line (λ n. (tt, tt)) 0 workers,
      (
        each_may (worker_lines seed count) (λ n. each_may (item_of seed n) (item_may seed n) 0 count) 0 workers,
        (each_may flush_line (λ n. (tt, tt)) 0 workers, tt),
      ),
    )
