-- What labels come to: the folds over what cores tell.
use Rattle.std.specs.Prelude.{◌/◌, ◌||◌, ◌∷◌, ◌++◌, ℕ, Bool, true, false, List, [], Option, Some, None, option_map, map}
use Rattle.std.specs.Option.{option_or}
use Rattle.sfs_base.specs.declared.numbers.NodeId.{NodeId}
use Rattle.sfs_base.specs.declared.numbers.Stamp.{Stamp}
use Rattle.sfs_image.specs.Super.{Layout}
use Rattle.tree_laws.specs.declared.turns.Turn.{Turn}
use Rattle.tree_laws.specs.declared.turns.TurnAct.{TurnAct}
use Rattle.tree_laws.specs.declared.turns.TurnAct.TheVariants as act
use Rattle.cut_laws.specs.Closure.{Flush}
use Rattle.merge_laws.specs.Pens.{failure_by}
use Rattle.stamp_table.specs.declared.event.Event.{Event}
use Rattle.stamp_table.specs.declared.event.Event.TheVariants.{Called, Told}
use Rattle.slot_laws.specs.declared.label.Label.{Label}
use Rattle.slot_laws.specs.declared.label.Label.TheVariants as label
use Rattle.slot_laws.specs.Slots.{open_gate, shut_gate, known_filled, known_placed, known_gated, SlotWork, begun_work, knowing, settled_work, Slots, with_at, changed_slot, synced_slots}
use Rattle.slot_laws.specs.Nodes.{LastCommit, ReservedCommit, no_last, ended_lasts, commits_but, commits_numbered, reserved_lasts, no_numbers, returned_lasts, giving_up}

-- whose a slot is
abbrev pub owner : Layout → ℕ → ℕ
owner layout k = k / layout.slots

-- the fsync of a node at a stamp
abbrev pub fsync_told : NodeId → Stamp → Flush
fsync_told node stamp = record { node = node.0; stamp = stamp.0 }

-- The commit that a core has in a slot and of whose end it has not told yet, and whether its gate was written.
pub record SlotFlight : Type 0 where
  pub slot : ℕ
  pub commit : ℕ
  pub flush : Flush
  pub opened : Bool

-- What a core's own labels say: the number that it has reserved, its flight, its turns, and whether a failure has stopped it.
pub record OwnTold : Type 0 where
  pub reserved : Option ℕ
  pub flight : Option SlotFlight
  pub told : List Turn
  pub over : Bool

-- before its first label
abbrev pub nothing_told : OwnTold
nothing_told = record { reserved = None; flight = None; told = []; over = false }

-- whether an act is the last of a core
abbrev pub ends_all : TurnAct → Bool
ends_all act.Fail = true
ends_all act.Halted = true
ends_all _ = false

-- a flight whose gate was written
abbrev pub opened_flight : SlotFlight → SlotFlight
opened_flight flight = record flight { opened = true }

-- what a core's own label makes of what it told
abbrev pub own_label : Label → OwnTold → OwnTold
own_label (label.Noted turn) own = record own { told = own.told ++ turn ∷ []; over = ends_all turn.act || own.over }
own_label (label.Reserved commit seen grant) own = record own { reserved = Some commit }
own_label (label.Returned commit) own = record own { reserved = None }
own_label (label.Began filling commit node stamp blocks inodes) own = record own {
  reserved = None;
  flight = Some (record { slot = filling.job.place.slot; commit = commit; flush = fsync_told node stamp; opened = false });
}
own_label (label.Opened slot done cut opened) own =
    record own { flight = option_map opened_flight own.flight; told = own.told ++ cut ∷ opened ∷ [] }
own_label (label.Learned turn) own = record own { flight = None; told = own.told ++ turn ∷ [] }
own_label (label.Empty commit cut opened durable) own = record own { reserved = None; told = own.told ++ cut ∷ opened ∷ durable ∷ [] }
own_label _ own = own

-- A commit as it began: the record of turns and the slots that it found, and what it is.
pub record BegunCommit : Type 0 where
  pub turns : List Turn
  pub slots : Slots
  pub work : SlotWork

-- What all labels come to: the record of turns; the slots; for each core the turn that made its commit durable, where it has not learned of it yet, and
-- what it told; how many numbers and commit stamps were given; the count of faults of the failure, where there was one; the core that has the
-- box; the moment of the last turn, and that of the last sync; the commits that began in slots, as they began; those that wrote nothing; the last
-- commit of each node; and the commits that have reserved and neither ended nor given back, and those that have ended, in order.
pub record BoxPast : Type 0 where
  pub turns : List Turn
  pub slots : Slots
  pub waits : ℕ → Option Turn
  pub owns : ℕ → OwnTold
  pub commits : ℕ
  pub stamps : ℕ
  pub failed : Option ℕ
  pub busy : Option ℕ
  pub moment : ℕ
  pub synced : ℕ
  pub begun : List BegunCommit
  pub empties : List ℕ
  pub lasts : ℕ → LastCommit
  pub opens : List ReservedCommit
  pub done : List ReservedCommit

-- before the first label
abbrev pub first_past : ℕ → BoxPast
first_past moment = record {
  turns = [];
  slots = λ _. None;
  waits = λ _. None;
  owns = λ _. nothing_told;
  commits = 0;
  stamps = 0;
  failed = None;
  busy = None;
  moment = moment;
  synced = moment;
  begun = [];
  empties = [];
  lasts = λ _. no_last;
  opens = [];
  done = [];
}

-- a commit with a number has ended
abbrev pub with_end : ℕ → BoxPast → BoxPast
with_end number past = record past {
  lasts = ended_lasts number past.lasts;
  opens = commits_but number past.opens;
  done = past.done ++ commits_numbered number past.opens;
}

-- what a label of a core makes of all but the cores' own
abbrev pub box_label : Layout → ℕ → Label → BoxPast → BoxPast
box_label layout core label.Took past = record past { busy = Some core }
box_label layout core label.Gave past = record past { busy = None }
box_label layout core (label.Noted turn) past =
    record past { turns = past.turns ++ turn ∷ []; failed = option_or past.failed (failure_by turn.act turn.faults); moment = turn.now }
box_label layout core (label.Reserved commit seen grant) past = record past {
  commits = commit;
  lasts = reserved_lasts commit seen.items past.lasts;
  opens = past.opens ++ record { number = commit; seen = seen.items; grant = grant; gives_up = no_numbers } ∷ [];
}
box_label layout core (label.Returned commit) past = record past {
  lasts = returned_lasts (commits_numbered commit past.opens) past.lasts;
  opens = commits_but commit past.opens;
}
box_label layout core (label.Began filling commit node stamp blocks inodes) past = record past {
  slots = with_at past.slots filling.job.place.slot (Some (begun_work filling.job commit (fsync_told node stamp)));
  stamps = filling.job.stamp;
  begun = past.begun ++ record { turns = past.turns; slots = past.slots; work = begun_work filling.job commit (fsync_told node stamp) } ∷ [];
  opens = map (giving_up commit (record { inodes = inodes.items; blocks = blocks.items })) past.opens;
}
box_label layout core (label.Filled slot piece done) past = record past { slots = changed_slot past.slots slot (knowing (known_filled done piece)) }
box_label layout core (label.Synced now) past = record past { slots = synced_slots past.slots; synced = now }
box_label layout core (label.Opened slot done cut opened) past = record past {
  turns = past.turns ++ cut ∷ opened ∷ [];
  slots = changed_slot past.slots slot (knowing (known_gated done open_gate));
  moment = opened.now;
}
box_label layout core (label.Settled slot turn) past = record (with_end turn.commit past) {
  turns = past.turns ++ turn ∷ [];
  slots = changed_slot past.slots slot settled_work;
  waits = with_at past.waits (owner layout slot) (Some turn);
  moment = turn.now;
}
box_label layout core (label.Learned turn) past = record past { waits = with_at past.waits core None }
box_label layout core (label.Placed slot n done) past = record past { slots = changed_slot past.slots slot (knowing (known_placed done n)) }
box_label layout core (label.Shut slot done) past = record past { slots = changed_slot past.slots slot (knowing (known_gated done shut_gate)) }
box_label layout core (label.Idled slot) past = record past { slots = with_at past.slots slot None }
box_label layout core (label.Empty commit cut opened durable) past =
    record (with_end commit past) { turns = past.turns ++ cut ∷ opened ∷ durable ∷ []; moment = durable.now; empties = past.empties ++ commit ∷ [] }

-- and of all
abbrev pub after_label : Layout → ℕ → Label → BoxPast → BoxPast
after_label layout core fact past = record (box_label layout core fact past) { owns = with_at past.owns core (own_label fact (past.owns core)) }

-- a call is no label
abbrev pub after_event : Layout → Event Label → BoxPast → BoxPast
after_event layout (Called entry) past = past
after_event layout (Told core fact) past = after_label layout core.0 fact past

-- what a history comes to, from something on
abbrev pub past_from : Layout → List (Event Label) → BoxPast → BoxPast
past_from layout [] past = past
past_from layout (event ∷ log) past = past_from layout log (after_event layout event past)

-- what a core's own events come to
abbrev pub own_event : Event Label → OwnTold → OwnTold
own_event (Called entry) own = own
own_event (Told core fact) own = own_label fact own

abbrev pub own_from : List (Event Label) → OwnTold → OwnTold
own_from [] own = own
own_from (event ∷ log) own = own_from log (own_event event own)
