-- What comes of checking whether a commit may reserve.
use Rattle.std.specs.Prelude.{◌≡◌, ◌*◌, ◌≤◌, ℕ, suc, List, Some, None}
use Rattle.sfs_dev.specs.Disk.{View}
use Rattle.stamp_table.specs.Table.{TableState}
use Rattle.slot_laws.specs.declared.label.Seen.{Seen}
use Rattle.slot_laws.specs.Nodes.{last_seen, last_ended}
use Rattle.disk_box.specs.declared.key.BoxKey.{BoxKey}
use Rattle.disk_box.specs.declared.desk.Desk.{Desk}
use Rattle.disk_box.specs.Desk.{MOST_OWED}
use Rattle.disk_box.specs.Pens.{PenHand, WorksAtDesk, past_at, own_at}

-- how many turns an fsync may take at the disk at most: that of its reserving, and those that its commit owes then
abbrev pub MOST_TURNS : ℕ
MOST_TURNS = suc MOST_OWED

-- A core with the box may reserve: none has failed, it has nothing due, there is room for its turns, and none of these nodes has moved.
pub record MayReserve {D : Type 0} (view : D → View) (t : TableState (BoxKey D)) (seen : List Seen) (pen : PenHand D) (desk : Desk D) : Type 0 where
  pub work : WorksAtDesk view t pen desk
  pub rests : ((own_at pen).reserved ≡ None) × ((own_at pen).flight ≡ None)
  pub room : MOST_TURNS * pen.table.given.layout.cores ≤ desk.turns.spare
  pub unmoved : (node last : ℕ) → last_seen seen node ≡ Some last → (past_at pen).lasts node ≡ last_ended last
