-- The phases of slots that have a commit: what state they have, and that the commit was told.
use Rattle.std.proofs.Common.{◌≡◌, Bool, true, false, Option, Some, None, refl}
use Rattle.journal_one.specs.Job.{Job, Place}
use Rattle.journal_one.specs.Stage.{Stage}
use Rattle.slot_laws.specs.Slots.{SlotWork}
use Rattle.disk_box.specs.declared.desk.Phase.{Phase}
use Rattle.disk_box.specs.declared.desk.Phase.TheVariants as phase
use Rattle.disk_box.specs.declared.kind.Kind.{Kind}
use Rattle.disk_box.specs.declared.kind.Kind.TheVariants as kind
use Rattle.disk_box.specs.Kind.{kind_of}
use Rattle.disk_box.specs.Slots.{PhaseFits}

-- whether there is a commit in a slot of this phase
abbrev pub has_commit : Kind → Bool
has_commit kind.Idle = false
has_commit kind.Lost = false
has_commit _ = true

-- one that is there was told
pub work_told : (p : Phase) (place : Place) (told : Option SlotWork) → has_commit (kind_of p) ≡ true → PhaseFits p place told
    → (work : SlotWork) × (told ≡ Some work)
work_told p place (Some work) there fits = (work, refl)
work_told (phase.Idle idle) place None there fits = absurd (cc there)
work_told (phase.Filling state) place None there fits = absurd fits
work_told (phase.Filled state) place None there fits = absurd fits
work_told (phase.Sealed state) place None there fits = absurd fits
work_told (phase.Opened state) place None there fits = absurd fits
work_told (phase.Durable state) place None there fits = absurd fits
work_told (phase.Placed state) place None there fits = absurd fits
work_told (phase.Copied state) place None there fits = absurd fits
work_told (phase.Closing state) place None there fits = absurd fits
work_told phase.Lost place None there fits = absurd fits

-- the state that a phase has
pub filling_is : (p : Phase) → kind_of p ≡ kind.Filling → (state : Stage) × (p ≡ phase.Filling state)
filling_is (phase.Idle state) same = absurd (cc same)
filling_is (phase.Filling state) same = (state, refl)
filling_is (phase.Filled state) same = absurd (cc same)
filling_is (phase.Sealed state) same = absurd (cc same)
filling_is (phase.Opened state) same = absurd (cc same)
filling_is (phase.Durable state) same = absurd (cc same)
filling_is (phase.Placed state) same = absurd (cc same)
filling_is (phase.Copied state) same = absurd (cc same)
filling_is (phase.Closing state) same = absurd (cc same)
filling_is phase.Lost same = absurd (cc same)

pub filled_is : (p : Phase) → kind_of p ≡ kind.Filled → (state : Job) × (p ≡ phase.Filled state)
filled_is (phase.Idle state) same = absurd (cc same)
filled_is (phase.Filling state) same = absurd (cc same)
filled_is (phase.Filled state) same = (state, refl)
filled_is (phase.Sealed state) same = absurd (cc same)
filled_is (phase.Opened state) same = absurd (cc same)
filled_is (phase.Durable state) same = absurd (cc same)
filled_is (phase.Placed state) same = absurd (cc same)
filled_is (phase.Copied state) same = absurd (cc same)
filled_is (phase.Closing state) same = absurd (cc same)
filled_is phase.Lost same = absurd (cc same)

pub sealed_is : (p : Phase) → kind_of p ≡ kind.Sealed → (state : Job) × (p ≡ phase.Sealed state)
sealed_is (phase.Idle state) same = absurd (cc same)
sealed_is (phase.Filling state) same = absurd (cc same)
sealed_is (phase.Filled state) same = absurd (cc same)
sealed_is (phase.Sealed state) same = (state, refl)
sealed_is (phase.Opened state) same = absurd (cc same)
sealed_is (phase.Durable state) same = absurd (cc same)
sealed_is (phase.Placed state) same = absurd (cc same)
sealed_is (phase.Copied state) same = absurd (cc same)
sealed_is (phase.Closing state) same = absurd (cc same)
sealed_is phase.Lost same = absurd (cc same)

pub opened_is : (p : Phase) → kind_of p ≡ kind.Opened → (state : Job) × (p ≡ phase.Opened state)
opened_is (phase.Idle state) same = absurd (cc same)
opened_is (phase.Filling state) same = absurd (cc same)
opened_is (phase.Filled state) same = absurd (cc same)
opened_is (phase.Sealed state) same = absurd (cc same)
opened_is (phase.Opened state) same = (state, refl)
opened_is (phase.Durable state) same = absurd (cc same)
opened_is (phase.Placed state) same = absurd (cc same)
opened_is (phase.Copied state) same = absurd (cc same)
opened_is (phase.Closing state) same = absurd (cc same)
opened_is phase.Lost same = absurd (cc same)

pub durable_is : (p : Phase) → kind_of p ≡ kind.Durable → (state : Stage) × (p ≡ phase.Durable state)
durable_is (phase.Idle state) same = absurd (cc same)
durable_is (phase.Filling state) same = absurd (cc same)
durable_is (phase.Filled state) same = absurd (cc same)
durable_is (phase.Sealed state) same = absurd (cc same)
durable_is (phase.Opened state) same = absurd (cc same)
durable_is (phase.Durable state) same = (state, refl)
durable_is (phase.Placed state) same = absurd (cc same)
durable_is (phase.Copied state) same = absurd (cc same)
durable_is (phase.Closing state) same = absurd (cc same)
durable_is phase.Lost same = absurd (cc same)

pub placed_is : (p : Phase) → kind_of p ≡ kind.Placed → (state : Job) × (p ≡ phase.Placed state)
placed_is (phase.Idle state) same = absurd (cc same)
placed_is (phase.Filling state) same = absurd (cc same)
placed_is (phase.Filled state) same = absurd (cc same)
placed_is (phase.Sealed state) same = absurd (cc same)
placed_is (phase.Opened state) same = absurd (cc same)
placed_is (phase.Durable state) same = absurd (cc same)
placed_is (phase.Placed state) same = (state, refl)
placed_is (phase.Copied state) same = absurd (cc same)
placed_is (phase.Closing state) same = absurd (cc same)
placed_is phase.Lost same = absurd (cc same)

pub copied_is : (p : Phase) → kind_of p ≡ kind.Copied → (state : Job) × (p ≡ phase.Copied state)
copied_is (phase.Idle state) same = absurd (cc same)
copied_is (phase.Filling state) same = absurd (cc same)
copied_is (phase.Filled state) same = absurd (cc same)
copied_is (phase.Sealed state) same = absurd (cc same)
copied_is (phase.Opened state) same = absurd (cc same)
copied_is (phase.Durable state) same = absurd (cc same)
copied_is (phase.Placed state) same = absurd (cc same)
copied_is (phase.Copied state) same = (state, refl)
copied_is (phase.Closing state) same = absurd (cc same)
copied_is phase.Lost same = absurd (cc same)

pub closing_is : (p : Phase) → kind_of p ≡ kind.Closing → (state : Job) × (p ≡ phase.Closing state)
closing_is (phase.Idle state) same = absurd (cc same)
closing_is (phase.Filling state) same = absurd (cc same)
closing_is (phase.Filled state) same = absurd (cc same)
closing_is (phase.Sealed state) same = absurd (cc same)
closing_is (phase.Opened state) same = absurd (cc same)
closing_is (phase.Durable state) same = absurd (cc same)
closing_is (phase.Placed state) same = absurd (cc same)
closing_is (phase.Copied state) same = absurd (cc same)
closing_is (phase.Closing state) same = (state, refl)
closing_is phase.Lost same = absurd (cc same)
