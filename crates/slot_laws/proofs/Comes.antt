-- Commits of slots behind labels of which none begins one.
use Rattle.std.proofs.Common.{◌≡◌, ◌∷◌, ◌++◌, ◌∙◌, ◌||◌, ℕ, Bool, true, false, List, []}
use Rattle.sfs_base.proofs.BasicTruth.{true_not_false, or_first, or_second}
use Rattle.sfs_image.specs.Super.{Layout}
use Rattle.stamp_table.specs.declared.event.Event.{Event}
use Rattle.stamp_table.specs.declared.event.Event.TheVariants.{Called, Told}
use Rattle.slot_laws.specs.Rings.{BeginsApart, BeginApart}
use Rattle.slot_laws.specs.declared.label.Label.{Label}
use Rattle.slot_laws.specs.declared.label.Label.TheVariants as label
use Rattle.slot_laws.specs.Slots.{Slots, known_filled, known_placed, known_gated, open_gate, shut_gate}
use Rattle.slot_laws.specs.Labels.{BoxPast, after_event, past_from}
use Rattle.slot_laws.specs.Rules.{MayFrom}
use Rattle.slot_laws.proofs.Numbers.{SlotsCome, known_come, settled_come, synced_come, idled_come, slots_come}

-- one history behind another may be told
pub may_both : (layout : Layout) (before : ℕ) (log more : List (Event Label)) (past : BoxPast) → MayFrom layout before log past
    → MayFrom layout before more (past_from layout log past) → MayFrom layout before (log ++ more) past
may_both layout before [] more past may later = later
may_both layout before (event ∷ log) more past may later = (may.0, may_both layout before log more (after_event layout event past) may.1 later)

-- whether a commit begins with an event
abbrev pub begins : Event Label → Bool
begins (Called entry) = false
begins (Told core (label.Began filling commit node stamp blocks inodes)) = true
begins (Told core _) = false

pub come_on : {slots middle later : Slots} → SlotsCome slots middle → SlotsCome middle later → SlotsCome slots later
come_on first second k new there =
    let was = second k new there in
    let had = first k was.work was.there in
    record {
      work = had.work;
      there = had.there;
      stays = record { job = was.stays.job ∙ had.stays.job; commit = was.stays.commit ∙ had.stays.commit };
    }

-- where none begins, each commit was there before
pub event_comes : (layout : Layout) (event : Event Label) (past : BoxPast) → begins event ≡ false → SlotsCome past.slots (after_event layout event past).slots
event_comes layout (Called entry) past none = slots_come past.slots
event_comes layout (Told core label.Took) past none = slots_come past.slots
event_comes layout (Told core label.Gave) past none = slots_come past.slots
event_comes layout (Told core (label.Noted turn)) past none = slots_come past.slots
event_comes layout (Told core (label.Reserved commit seen grant)) past none = slots_come past.slots
event_comes layout (Told core (label.Returned commit)) past none = slots_come past.slots
event_comes layout (Told core (label.Began filling commit node stamp blocks inodes)) past none = absurd (true_not_false none)
event_comes layout (Told core (label.Filled k piece done)) past none = known_come past.slots k (known_filled done piece)
event_comes layout (Told core (label.Synced now)) past none = synced_come past.slots
event_comes layout (Told core (label.Opened k done cut opened)) past none = known_come past.slots k (known_gated done open_gate)
event_comes layout (Told core (label.Settled k turn)) past none = settled_come past.slots k
event_comes layout (Told core (label.Learned turn)) past none = slots_come past.slots
event_comes layout (Told core (label.Placed k n done)) past none = known_come past.slots k (known_placed done n)
event_comes layout (Told core (label.Shut k done)) past none = known_come past.slots k (known_gated done shut_gate)
event_comes layout (Told core (label.Idled k)) past none = idled_come past.slots k
event_comes layout (Told core (label.Empty commit cut opened durable)) past none = slots_come past.slots

abbrev pub NoneBegins : List (Event Label) → Type 0
NoneBegins [] = Unit {0}
NoneBegins (event ∷ log) = (begins event ≡ false) × NoneBegins log

-- by a test
abbrev pub any_begins : List (Event Label) → Bool
any_begins [] = false
any_begins (event ∷ log) = begins event || any_begins log

pub none_begin_by : (log : List (Event Label)) → any_begins log ≡ false → NoneBegins log
none_begin_by [] none = tt
none_begin_by (event ∷ log) none = (or_first (begins event) (any_begins log) none, none_begin_by log (or_second (begins event) (any_begins log) none))

pub log_comes : (layout : Layout) (log : List (Event Label)) (past : BoxPast) → NoneBegins log → SlotsCome past.slots (past_from layout log past).slots
log_comes layout [] past none = slots_come past.slots
log_comes layout (event ∷ log) past none = come_on (event_comes layout event past none.0) (log_comes layout log (after_event layout event past) none.1)

-- where none begins, nothing is asked of commits that begin
pub none_apart : (layout : Layout) (log : List (Event Label)) (past : BoxPast) → NoneBegins log → BeginApart layout log past
none_apart layout [] past none = tt
none_apart layout (event ∷ log) past none = (asks_nothing event none.0, none_apart layout log (after_event layout event past) none.1)
  where
    asks_nothing : (e : Event Label) → begins e ≡ false → BeginsApart e past
    asks_nothing (Called entry) quiet = tt
    asks_nothing (Told core label.Took) quiet = tt
    asks_nothing (Told core label.Gave) quiet = tt
    asks_nothing (Told core (label.Noted turn)) quiet = tt
    asks_nothing (Told core (label.Reserved commit seen grant)) quiet = tt
    asks_nothing (Told core (label.Returned commit)) quiet = tt
    asks_nothing (Told core (label.Began filling commit node stamp blocks inodes)) quiet = absurd (true_not_false quiet)
    asks_nothing (Told core (label.Filled k piece done)) quiet = tt
    asks_nothing (Told core (label.Synced now)) quiet = tt
    asks_nothing (Told core (label.Opened k done cut opened)) quiet = tt
    asks_nothing (Told core (label.Settled k turn)) quiet = tt
    asks_nothing (Told core (label.Learned turn)) quiet = tt
    asks_nothing (Told core (label.Placed k n done)) quiet = tt
    asks_nothing (Told core (label.Shut k done)) quiet = tt
    asks_nothing (Told core (label.Idled k)) quiet = tt
    asks_nothing (Told core (label.Empty commit cut opened durable)) quiet = tt

pub apart_both : (layout : Layout) (log more : List (Event Label)) (past : BoxPast) → BeginApart layout log past
    → BeginApart layout more (past_from layout log past) → BeginApart layout (log ++ more) past
apart_both layout [] more past first second = second
apart_both layout (event ∷ log) more past first second = (first.0, apart_both layout log more (after_event layout event past) first.1 second)
