-- How many device calls are due of a commit, by the phase of its slot.
use Rattle.std.proofs.Common.{◌≡◌, ◌≢◌, ◌+◌, ◌<◌, ℕ, Bool, true, false, cond, Option, Some, None, refl, ap, arith}
use Rattle.journal_one.specs.Job.{Job, Place, fill_count}
use Rattle.journal_one.specs.Stage.{Stage, left_to_fill}
use Rattle.slot_laws.specs.Schedule.{all_on_disk, calls_due, due_in, unwritten}
use Rattle.slot_laws.specs.Slots.{SlotWork, may_be_open}
use Rattle.slot_laws.proofs.Schedule.{each_on_disk, one_not_on_disk, unwritten_rest}
use Rattle.disk_box.specs.declared.desk.Phase.{Phase}
use Rattle.disk_box.specs.declared.desk.Phase.TheVariants as phase
use Rattle.disk_box.specs.declared.kind.Kind.TheVariants as kind
use Rattle.disk_box.specs.Calls.{FollowsWrite}
use Rattle.disk_box.specs.Kind.{kind_of}
use Rattle.disk_box.specs.Serving.{due_served}
use Rattle.disk_box.specs.Slots.{IsBeingFilled, PhaseFits}

-- how many are due in a phase
abbrev pub due_of : Phase → ℕ
due_of (phase.Filling filling) = left_to_fill filling + 3
due_of (phase.Filled filled) = 3
due_of (phase.Sealed sealed) = 2
due_of (phase.Opened opened) = 1
due_of _ = 0

-- none of a commit that is durable
pub settled_due : (work : SlotWork) → work.settled ≡ true → calls_due work ≡ 0
settled_due work settled = rw settled refl

-- Of one that is not.
module _ (work : SlotWork) (aloft : work.settled ≡ false) where
  pub opened_due : may_be_open work.known.gate_read ≡ true → calls_due work ≡ 1
  opened_due opens = rw aloft (rw opens refl)

  pub sealed_due : may_be_open work.known.gate_read ≡ false → all_on_disk work.known.fill_left (fill_count work.job) ≡ true → calls_due work ≡ 2
  sealed_due shut disk = rw aloft (rw shut (rw disk refl))

  pub filling_due : may_be_open work.known.gate_read ≡ false → all_on_disk work.known.fill_left (fill_count work.job) ≡ false
      → calls_due work ≡ unwritten work.known.fill_read (fill_count work.job) + 3
  filling_due shut disk = rw aloft (rw shut (rw disk refl))

-- what is due of a slot that is being filled
due_filling : (job : Job) (done n : ℕ) (work : SlotWork) → IsBeingFilled job done work → done + 0 < fill_count job + 1 → n < fill_count job
    → work.known.fill_left n ≡ false → calls_due work + done ≡ fill_count job + 3
due_filling job done n work fits few low lags =
    let count = ap fill_count fits.job_is in
    let all = unwritten_rest work.known.fill_read done (fill_count work.job) (omega (arith, few, count)) fits.written (λ m high. (fits.rest m high).0) in
    let due = filling_due work fits.shut.aloft (ap may_be_open fits.shut.read)
    (one_not_on_disk work.known.fill_left (fill_count work.job) n (omega (arith, low, count)) lags)
    in
    omega (arith, all, due, count)

-- a phase tells how many are due of what is in its slot
pub due_fits : (p : Phase) (place : Place) (told : Option SlotWork) → PhaseFits p place told → due_in told ≡ due_of p
due_fits (phase.Idle x) place None fits = refl
due_fits (phase.Filling x) place None fits = absurd fits
due_fits (phase.Filled x) place None fits = absurd fits
due_fits (phase.Sealed x) place None fits = absurd fits
due_fits (phase.Opened x) place None fits = absurd fits
due_fits (phase.Durable x) place None fits = absurd fits
due_fits (phase.Placed x) place None fits = absurd fits
due_fits (phase.Copied x) place None fits = absurd fits
due_fits (phase.Closing x) place None fits = absurd fits
due_fits phase.Lost place None fits = absurd fits
due_fits (phase.Idle x) place (Some work) fits = absurd fits
due_fits (phase.Filling x) place (Some work) fits =
    let more = fits.more in
    let due = due_filling x.job x.done x.done work fits.being (omega (arith, more)) more (fits.being.rest x.done (omega arith)).1 in
    omega (arith, due, more)
due_fits (phase.Filled x) place (Some work) fits =
    let due = due_filling x (fill_count x) fits.lags.0 work fits.being (omega arith) fits.lags.1 fits.lags.2 in
    omega (arith, due)
due_fits (phase.Sealed x) place (Some work) fits =
    let count = ap fill_count fits.filled.job_is in
    sealed_due work fits.filled.shut.aloft (ap may_be_open fits.filled.shut.read)
    (each_on_disk work.known.fill_left (fill_count work.job) (λ m low. fits.on_disk m (omega (arith, low, count))))
due_fits (phase.Opened x) place (Some work) fits = opened_due work fits.aloft (ap may_be_open fits.read)
due_fits (phase.Durable x) place (Some work) fits = settled_due work fits.durable
due_fits (phase.Placed x) place (Some work) fits = settled_due work fits.durable
due_fits (phase.Copied x) place (Some work) fits = settled_due work fits.placed.durable
due_fits (phase.Closing x) place (Some work) fits = settled_due work fits.durable
due_fits phase.Lost place (Some work) fits = absurd fits

-- a slot whose gate is shut, and one with a durable commit, have as many due once they were served
pub served_shut : (work : SlotWork) → may_be_open work.known.gate_read ≡ false → calls_due work ≡ due_served (Some work)
served_shut work shut = rw shut refl

served_none : (work : SlotWork) → calls_due work ≡ 0 → due_served (Some work) ≡ 0
served_none work none = by (may_be_open work.known.gate_read) where
  by : (opens : Bool) → cond opens 0 (calls_due work) ≡ 0
  by true = refl
  by false = none

none_served : (work : SlotWork) → work.settled ≡ true → calls_due work ≡ due_served (Some work)
none_served work settled = let none = settled_due work settled in let served = served_none work none in omega (arith, none, served)

pub served_still : (p : Phase) (place : Place) (told : Option SlotWork) → PhaseFits p place told → kind_of p ≢ kind.Opened → due_in told ≡ due_served told
served_still p place None fits not = refl
served_still (phase.Idle x) place (Some work) fits not = absurd fits
served_still (phase.Filling x) place (Some work) fits not = served_shut work (ap may_be_open fits.being.shut.read)
served_still (phase.Filled x) place (Some work) fits not = served_shut work (ap may_be_open fits.being.shut.read)
served_still (phase.Sealed x) place (Some work) fits not = served_shut work (ap may_be_open fits.filled.shut.read)
served_still (phase.Opened x) place (Some work) fits not = absurd (not refl)
served_still (phase.Durable x) place (Some work) fits not = none_served work fits.durable
served_still (phase.Placed x) place (Some work) fits not = none_served work fits.durable
served_still (phase.Copied x) place (Some work) fits not = none_served work fits.placed.durable
served_still (phase.Closing x) place (Some work) fits not = none_served work fits.durable
served_still phase.Lost place (Some work) fits not = absurd fits

-- by one less are due once a piece that fills a slot was written
pub fill_step : (filling : Stage) (next : Phase) → FollowsWrite (phase.Filling filling) next → due_of next + 1 ≡ due_of (phase.Filling filling)
fill_step filling (phase.Filling more) follows =
    let same = ap left_to_fill follows.0 in
    let left = follows.1 in
    omega (arith, same, left)
fill_step filling (phase.Filled all) follows = let left = follows.1 in omega (arith, left)
fill_step filling (phase.Idle x) follows = absurd follows
fill_step filling (phase.Sealed x) follows = absurd follows
fill_step filling (phase.Opened x) follows = absurd follows
fill_step filling (phase.Durable x) follows = absurd follows
fill_step filling (phase.Placed x) follows = absurd follows
fill_step filling (phase.Copied x) follows = absurd follows
fill_step filling (phase.Closing x) follows = absurd follows
fill_step filling phase.Lost follows = absurd follows
