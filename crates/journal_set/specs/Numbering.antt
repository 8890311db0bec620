-- What reserving a number comes to.
use Rattle.std.specs.Prelude.{◌≡◌, ◌<◌, ◌++◌, ◌∷◌, ℕ, List, [], Option, Some, None, filter_map, length}
use Rattle.sfs_dev.specs.Disk.{View}
use Rattle.space_map.specs.Space.{Space, GrantedNumbers, shortage}
use Rattle.space_map.specs.declared.grant.Need.{Need}
use Rattle.stamp_table.specs.declared.event.Event.{Event}
use Rattle.stamp_table.specs.declared.event.Event.TheVariants.{Called, Told}
use Rattle.stamp_table.specs.Table.{TableState}
use Rattle.slot_laws.specs.declared.label.Label.{Label}
use Rattle.slot_laws.specs.declared.label.Label.TheVariants as label
use Rattle.cut_laws.specs.Rules.{IsOneOf}
use Rattle.slot_laws.specs.declared.label.Seen.{Seen}
use Rattle.slot_laws.specs.Labels.{first_past}
use Rattle.slot_laws.specs.Grants.{SpaceGoes, TakesGrant}
use Rattle.slot_laws.specs.Nodes.{last_seen}
use Rattle.disk_box.specs.declared.key.BoxKey.{BoxKey}
use Rattle.disk_box.specs.declared.desk.Desk.{Desk}
use Rattle.disk_box.specs.Pens.{PenHand, PenGoes, Tells, WorksAtDesk, own_at}
use Rattle.journal_set.specs.declared.numbering.Numbered.{Numbered}
use Rattle.journal_set.specs.Grants.{grant_at}

-- A commit was reserved in a history, by a core, with its nodes as they were seen and a grant of as much as it needs: what was free then sufficed, and it was
-- taken of that. Numbers begin with 1, and this one is above the last commit of each of its nodes.
pub record WasReserved {D : Type 0} (key : BoxKey D) (log : List (Event Label)) (core number : ℕ) (seen : List Seen) (need : Need) (grant : GrantedNumbers) : Type 0 where
  pub front : List (Event Label)
  pub back : List (Event Label)
  pub told : Rattle.sfs_base.specs.Lists.Roomy Seen
  pub seen_is : told.items ≡ seen
  pub whole : log ≡ front ++ Told (record { 0 = core }) (label.Reserved number told grant) ∷ back
  pub space : Space
  pub goes : SpaceGoes key.layout front (first_past key.start) key.space space
  pub enough : shortage space need ≡ None
  pub next : Space
  pub took : TakesGrant space grant next
  pub numbered : 0 < number
  pub above : (node last : ℕ) → last_seen seen node ≡ Some last → last < number
  pub inodes : length grant.inodes ≡ need.inodes
  pub blocks : length grant.blocks ≡ need.blocks

-- the number that a label reserves
abbrev pub label_reserves : Label → Option ℕ
label_reserves (label.Reserved number seen grant) = Some number
label_reserves _ = None

abbrev pub event_reserves : Event Label → Option ℕ
event_reserves (Called entry) = None
event_reserves (Told core fact) = label_reserves fact

-- the numbers that were reserved in a history, in their order
abbrev pub numbers_reserved : List (Event Label) → List ℕ
numbers_reserved log = filter_map event_reserves log

-- A number is above each that was reserved in a history.
abbrev pub IsNewerThan : List (Event Label) → ℕ → Type 0
IsNewerThan log number = (other : ℕ) → IsOneOf (numbers_reserved log) other → other < number

-- A pen with the box has reserved a number, with a grant.
pub record Numbers {D : Type 0} (view : D → View) (t : TableState (BoxKey D)) (seen : List Seen) (need : Need) (made : Numbered) (before after : PenHand D)
    (was now : Desk D) : Type 0 where
  pub goes : PenGoes before after
  pub room : after.room ≡ before.room
  pub own : own_at after ≡ record (own_at before) { reserved = Some made.number }
  pub grant : grant_at after ≡ Some made.grant
  pub newer : IsNewerThan before.view.mine made.number
  pub reserved : WasReserved after.table.given after.view.seen after.view.core made.number seen need made.grant
  pub tells : Tells (label.Reserved made.number reserved.told made.grant ∷ []) before after
  pub work : WorksAtDesk view t after now
  pub turns : now.turns ≡ was.turns
