-- Which slots count where a record is placed: each with a durable commit, until the sync after its gate was written shut.
use Rattle.std.specs.Prelude.{◌≡◌, ◌++◌, ◌∷◌, ◌<◌, List, ℕ, Bool, true, length, false}
use Rattle.sfs_base.specs.declared.numbers.CoreId.{CoreId}
use Rattle.sfs_image.specs.Super.{Layout}
use Rattle.cut_laws.specs.Rules.{IsOneOf}
use Rattle.stamp_table.specs.declared.event.Event.{Event}
use Rattle.stamp_table.specs.declared.event.Event.TheVariants.{Told}
use Rattle.slot_laws.specs.declared.label.Label.{Label}
use Rattle.slot_laws.specs.declared.label.Label.TheVariants as label
use Rattle.slot_laws.specs.Slots.{Slots, open_gate, any_gate}
use Rattle.slot_laws.specs.Rules.{HasWork, IsOldestOf, MayFrom}
use Rattle.slot_laws.specs.Labels.{first_past, past_from}

-- A record was told to be placed in a history: what was told before it, and behind it.
pub record PlacesIn (log : List (Event Label)) (k n : ℕ) : Type 0 where
  pub front : List (Event Label)
  pub core : CoreId
  pub done : Bool
  pub back : List (Event Label)
  pub whole : log ≡ front ++ Told core (label.Placed k n done) ∷ back

-- It is a durable commit's, of whose inode no other durable commit in a slot is older.
pub record TakesTheOldest (slots : Slots) (k n : ℕ) : Type 0 where
  pub has : HasWork slots k true open_gate
  pub within : n < length has.work.job.entries
  pub oldest : IsOldestOf slots k has.work n

-- So it is at each placing of a history by the rules.
abbrev pub PlacingsTakeTheOldest : Type 0
PlacingsTakeTheOldest = (layout : Layout) (before moment : ℕ) (log : List (Event Label)) (k n : ℕ) → (places : PlacesIn log k n)
    → MayFrom layout before log (first_past moment) → TakesTheOldest (past_from layout places.front (first_past moment)).slots k n

-- whether an event is a sync
abbrev pub is_sync : Event Label → Bool
is_sync (Told core (label.Synced now)) = true
is_sync _ = false

-- A slot's gate was written shut in a history, and there was no sync since.
pub record IsShutUnsynced (log : List (Event Label)) (k : ℕ) : Type 0 where
  pub front : List (Event Label)
  pub core : CoreId
  pub done : Bool
  pub back : List (Event Label)
  pub whole : log ≡ front ++ Told core (label.Shut k done) ∷ back
  pub unsynced : (event : Event Label) → IsOneOf back event → is_sync event ≡ false

-- It has its durable commit still, so it counts.
abbrev pub SlotsCountUntilSynced : Type 0
SlotsCountUntilSynced = (layout : Layout) (before moment : ℕ) (log : List (Event Label)) (k : ℕ) → IsShutUnsynced log k
    → MayFrom layout before log (first_past moment) → HasWork (past_from layout log (first_past moment)).slots k true any_gate
