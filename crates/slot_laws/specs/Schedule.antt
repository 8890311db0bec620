-- How many device calls a commit in a slot takes until it is durable, where no other call is made.
use Rattle.std.specs.Prelude.{◌≡◌, ◌≢◌, ◌+◌, ◌&&◌, if◌then◌else◌, ℕ, zero, suc, Bool, true, Option, Some, None}
use Rattle.journal_one.specs.Job.{Job, fill_count}
use Rattle.cut_laws.specs.Closure.{Flush}
use Rattle.slot_laws.specs.Slots.{SlotWork, Slots, begun_work, may_be_open}

-- how many of the first pieces that fill a slot are not written
abbrev pub unwritten : (ℕ → Bool) → ℕ → ℕ
unwritten written zero = 0
unwritten written (suc n) = if written n then unwritten written n else unwritten written n + 1

-- whether each of the first pieces is on the disk
abbrev pub all_on_disk : (ℕ → Bool) → ℕ → Bool
all_on_disk left zero = true
all_on_disk left (suc n) = left n && all_on_disk left n

-- how many calls a commit takes yet: none once it is durable; a sync once its gate was opened; the gate's write and that sync once all that fills its slot
-- is on the disk; and before that a write for each piece that is not written, and a sync more
abbrev pub calls_due : SlotWork → ℕ
calls_due work =
    if work.settled then 0
    else (if may_be_open work.known.gate_read then 1
    else (if all_on_disk work.known.fill_left (fill_count work.job) then 2 else unwritten work.known.fill_read (fill_count work.job) + 3))

-- so of what is in a slot, where there is something
abbrev pub due_in : Option SlotWork → ℕ
due_in None = 0
due_in (Some work) = calls_due work

-- whether no slot but this has a commit
abbrev pub OthersIdle : Slots → ℕ → Type 0
OthersIdle slots k = (j : ℕ) → j ≢ k → slots j ≡ None

-- nor this
abbrev pub AllIdle : Slots → Type 0
AllIdle slots = (k : ℕ) → slots k ≡ None

-- A commit that begins takes a write for each piece that fills its slot, a sync, the gate's write, and a sync.
abbrev pub BeginningsTakeAll : Type 0
BeginningsTakeAll = (job : Job) (commit : ℕ) (flush : Flush) → calls_due (begun_work job commit flush) ≡ fill_count job + 3
