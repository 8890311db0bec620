-- An fsync gives inodes the same parts once another one is on the disk.
use Rattle.std.proofs.Common.{◌≡◌, ◌∙◌, ℕ, List, Contains, sym, ap, [], get_or}
use Rattle.std.proofs.lemmas.List.Elements.{Contains-get_or}
use Rattle.sfs_image.specs.Part.{part_of}
use Rattle.sfs_image.proofs.Basics.{map_same}
use Rattle.fmt_journal.specs.declared.tx.TxRecord.{TxRecord}
use Rattle.image_laws.specs.Image.{inodes_shown}
use Rattle.disk_change.specs.Records.{records_written}
use Rattle.commit_laws.specs.CommitOfPlan.{change_planned}
use Rattle.commit_laws.specs.PartsMade.{IsPlanOverParts, store_planned}
use Rattle.commit_laws.proofs.PartsTurned.{plans_turn_parts, plans_write_parts}
use Rattle.flush_laws.specs.Volume.{Volume, OneFsync, tree_held, tree_raised, parts_left, volume_left}
use Rattle.flush_laws.specs.Journal.{parts_brought}
use Rattle.flush_laws.specs.Planned.{IsPlannedFsync}
use Rattle.flush_laws.specs.Laws.{IsStoreLeft}
use Rattle.flush_laws.proofs.Clean.{over_parts}
use Rattle.flush_laws.proofs.Written.{low_written}
use Rattle.volume_laws.proofs.Stores.{store_left}
use Rattle.book_laws.specs.Parts.{HoldsBefore, parts_gathered, PartsAreGathered, PartsStay}

module _ (volume : Volume) (one : OneFsync) (store : ℕ → List ℕ) (is : HoldsBefore volume one store) where
  abbrev records : List TxRecord
  records = records_written (change_planned one.plan) one.grant

  over : IsPlanOverParts volume.num one.nodes (tree_held volume) (tree_raised volume one) (inodes_shown volume.layout volume.parts) one.plan one.grant
      volume.store volume.parts
  over = over_parts volume one is.planned

  -- the part of a record is gathered there
  part_is : (written : TxRecord) → Contains records written → parts_left volume one written.inode ≡ part_of store written.bytes
  part_is written there =
      let low = low_written volume one is.planned written there in
      sym
      (plans_turn_parts volume.num one.nodes (tree_held volume) (tree_raised volume one) (inodes_shown volume.layout volume.parts) one.plan one.grant
      volume.store volume.parts over written.inode low store is.fresh (is.gathered written.inode low))
      ∙ ap (part_of store)
      (plans_write_parts volume.num one.nodes (tree_held volume) (tree_raised volume one) (inodes_shown volume.layout volume.parts) one.plan one.grant
      volume.store volume.parts over written there)

  none_written : TxRecord
  none_written = record { inode = 0; bytes = [] }

  pub gathered_parts : parts_brought volume one ≡ parts_gathered store one.plan one.grant
  gathered_parts =
      map_same (λ (written : TxRecord). record { inode = written.inode; part = parts_left volume one written.inode })
      (λ (written : TxRecord). record { inode = written.inode; part = part_of store written.bytes }) none_written records
      (λ k low i. record {
        inode = (get_or records k none_written).inode;
        part = part_is (get_or records k none_written) (Contains-get_or records k none_written low) i;
      })

pub parts_are_gathered : PartsAreGathered
parts_are_gathered = gathered_parts

-- a planned fsync is planned over all other blocks that have the parts of the disk
module _ (volume : Volume) (mine theirs : OneFsync) (later : ℕ → List ℕ) (planned : IsPlannedFsync volume mine)
    (left : IsStoreLeft volume theirs later) where
  abbrev over_later : Volume
  over_later = record volume { store = later }

  planned_there : IsPlannedFsync over_later mine
  planned_there = record {
    ready = record {
      history_is = planned.ready.history_is;
      flushed = planned.ready.flushed;
      numbers = planned.ready.numbers;
      sound = record {
        gathered = left.gathered;
        records = planned.ready.sound.records;
        whole = left.whole;
        good = planned.ready.sound.good;
        ranges = planned.ready.sound.ranges;
      };
      stands = planned.ready.stands;
    };
    keeps = planned.keeps;
    raises = planned.raises;
    inodes_after = planned.inodes_after;
    plans = planned.plans;
    grants = planned.grants;
  }

  -- so its fresh blocks over those leave these parts
  pub holds_first : HoldsBefore volume mine (store_planned later mine.plan mine.grant)
  holds_first =
      let held = store_left over_later mine planned_there in
      record { planned = planned; fresh = held.fresh; gathered = held.gathered }

pub parts_stay : PartsStay
parts_stay volume mine again theirs later is =
    let held = store_left (volume_left volume theirs later) again is.second in
    gathered_parts (volume_left volume theirs later) again (store_planned later again.plan again.grant)
    (record { planned = is.second; fresh = held.fresh; gathered = held.gathered })
    ∙ (λ i. parts_gathered (store_planned later (is.plan i) (is.grant i)) (is.plan i) (is.grant i))
    ∙ sym (gathered_parts volume mine (store_planned later mine.plan mine.grant) (holds_first volume mine theirs later is.first is.left))
