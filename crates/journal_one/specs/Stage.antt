-- How far a commit has come whose writes go out one by one.
use Rattle.std.specs.Prelude.{ℕ, ◌+◌, ◌-◌, length}
use Rattle.journal_one.specs.Job.{Job, fill_count}

-- a commit, and how many of its writes were made
pub record Stage : Type 0 where
  pub job : Job
  pub done : ℕ

-- how many writes are to come that fill the slot
abbrev pub left_to_fill : Stage → ℕ
left_to_fill stage = fill_count stage.job - stage.done

-- how many records are to be placed yet
abbrev pub left_to_place : Stage → ℕ
left_to_place stage = length stage.job.entries - stage.done

-- the same commit with one write more
abbrev pub next_stage : Stage → Stage
next_stage stage = record stage { done = stage.done + 1 }
