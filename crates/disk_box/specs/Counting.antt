-- How the device calls that a core tells of go with those that are due of a commit in a slot.
use Rattle.std.specs.Prelude.{◌≡◌, ◌+◌, ℕ}
use Rattle.slot_laws.specs.Labels.{BoxPast}
use Rattle.slot_laws.specs.Schedule.{OthersIdle, due_in}
use Rattle.disk_box.specs.Pens.{PenHand, calls_at, past_at}

-- how many device calls are due of what is in a slot
abbrev pub due_at : BoxPast → ℕ → ℕ
due_at past k = due_in (past.slots k)

-- A core has gone on with the commit in a slot, alone, from where this was told, and it had made so many device calls: by as many as it has made since
-- fewer are due.
pub record GoesDown {D : Type 0} (k : ℕ) (was : BoxPast) (made : ℕ) (after : PenHand D) : Type 0 where
  pub alone : OthersIdle (past_at after).slots k
  pub counts : calls_at after + due_at (past_at after) k ≡ made + due_at was k

-- so it has where no other slot had a commit
abbrev pub CountsFrom : {D : Type 0} → ℕ → BoxPast → ℕ → PenHand D → Type 0
CountsFrom k was made after = OthersIdle was.slots k → GoesDown k was made after

-- and from where a pen was
abbrev pub CountsDown : {D : Type 0} → ℕ → PenHand D → PenHand D → Type 0
CountsDown k before after = CountsFrom k (past_at before) (calls_at before) after
