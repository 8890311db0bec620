-- A transaction that is built of a change with a grant can be committed where both lie on the disk.
use Rattle.std.proofs.Common.{◌≡◌, ◌∙◌, ◌<◌, ◌≤◌, ◌^◌, ◌-◌, ℕ, List, [], length, map, get_or, min, refl, sym, ap, subst, arith, Contains, is_some, Ok, Some, None, true, count_by}
use Rattle.std.specs.Prelude.{All}
use Rattle.std.proofs.lemmas.List.Elements.{All-contains, Contains-get_or}
use Rattle.sfs_image.specs.ImageOf.{FreshBlock}
use Rattle.sfs_image.specs.Super.{Layout}
use Rattle.fmt_journal.specs.declared.tx.Tx.{Tx}
use Rattle.fmt_journal.specs.declared.tx.TxRecord.{TxRecord}
use Rattle.fmt_journal.specs.declared.tx.TxBlock.{TxBlock}
use Rattle.journal_one.specs.Job.{LiesInData}
use Rattle.journal_one.specs.Packed.{block_of}
use Rattle.space_map.specs.declared.grant.Need.{Need}
use Rattle.space_map.specs.declared.status.Status.TheVariants.{Free}
use Rattle.space_map.specs.Pool.{status_of}
use Rattle.space_map.specs.Space.{GrantedNumbers, Space}
use Rattle.disk_nodes.specs.declared.old.OldEntry.{OldEntry}
use Rattle.disk_change.specs.AllBuilt.{fresh_of_commit}
use Rattle.disk_change.specs.Planned.{Planned, as_u32, enters}
use Rattle.disk_change.specs.Records.{records_written}
use Rattle.disk_change.specs.Written.{IsTransactionOf}
use Rattle.commit_laws.specs.Granted.{IsOwnInode, granted, kept, lost}
use Rattle.commit_laws.proofs.Granted.{fresh_blocks_are_granted}
use Rattle.commit_laws.proofs.OwnInodes.{inodes_are_granted_or_old, mapped_is_in}
use Rattle.slot_laws.specs.Grants.{TakesGrant}
use Rattle.slot_laws.specs.Nodes.{no_numbers}
use Rattle.disk_box.specs.declared.key.BoxKey.{BoxKey}
use Rattle.disk_box.specs.Pens.{PenGoes, PenHand}
use Rattle.journal_set.specs.Committing.{CanBeCommitted}
use Rattle.journal_set.specs.Emptying.{NOTHING}
use Rattle.journal_set.specs.Numbering.{WasReserved}
use Rattle.journal_set.specs.Reserving.{Reserves}
use Rattle.fsync_commit.specs.Asked.{CommitRequest, IsChangeOn, IsSpaceOn, LiesInArea, need_planned, reserving_of}
use Rattle.fsync_commit.specs.Granting.{IsGrantOn}
use Rattle.fsync_commit.proofs.OnDisk.{space_on}

module _ (layout : Layout) (change : Planned) (grant : GrantedNumbers) (on : IsChangeOn layout change) (given : IsGrantOn layout change grant) where
  pub own_low : (i : ℕ) → IsOwnInode change grant i → i < layout.inodes
  own_low i (granted has) = given.inodes i has
  own_low i (kept seat there is) = on.own seat i there is
  own_low i (lost entry there is) = subst (λ n. n < layout.inodes) is (on.gone entry there)

  module _ (tx : Tx) (is : IsTransactionOf change grant tx) where
    low : (one : TxRecord) → Contains tx.records.items one → one.inode < layout.inodes
    low one there =
        own_low one.inode ((inodes_are_granted_or_old change grant given.enough).records one (subst (λ l. Contains l one) is.records there))

    lies : (fresh : FreshBlock) → Contains (map block_of tx.fresh.items) fresh → LiesInData layout fresh
    lies fresh there =
        let one = mapped_is_in block_of tx.fresh.items fresh there in
        let area = given.blocks one.0.block (fresh_blocks_are_granted change grant one.0 (subst (λ l. Contains l one.0) is.fresh one.1)) in
        subst (LiesInData layout) one.2 (record { low = area.low; high = area.high })

    -- It can be committed where it has a record.
    pub can_commit : 0 < length tx.records.items → CanBeCommitted layout tx
    can_commit some = record {
      some = some;
      below = λ k d within. low (get_or tx.records.items k d) (Contains-get_or tx.records.items k d within);
      in_data = λ k d within. lies (get_or (map block_of tx.fresh.items) k d) (Contains-get_or (map block_of tx.fresh.items) k d within);
    }

-- what nobody was granted lies on each disk, and serves a change that needs no inode
pub none_on : (layout : Layout) (change : Planned) → IsChangeOn layout change → need_planned change ≡ NOTHING → IsGrantOn layout change no_numbers
none_on layout change on nothing =
    let few = on.few in
    let none : min (count_by enters change.seats) (2 ^ 32 - 1) ≡ 0 = ap (λ (n : Need). n.inodes) nothing in
    record {
      inodes = λ number has. absurd (nobody number has);
      blocks = λ number has. absurd (nobody number has);
      enough = omega (arith, few, none);
    }
  where
    nobody : (number : ℕ) → Contains [] number → ⊥
    nobody number (k, within, is) = omega (arith, within)

-- A grant that was reserved from a map of the disk lies on it, and serves the change.
pub grant_on : {D : Type 0} (asked : CommitRequest) (before after : PenHand D) (grant : GrantedNumbers) → PenGoes before after
    → Reserves (reserving_of asked) before after (Ok grant) → IsSpaceOn before.table.given.layout before.table.given.space
    → IsChangeOn before.table.given.layout asked.change → IsGrantOn before.table.given.layout asked.change grant
grant_on asked before after grant goes it space on =
    let was = it.reserved in
    let key : after.table.given ≡ before.table.given = ap (λ (h : PenHand _). h.table.given) goes.frame in
    let first : IsSpaceOn after.table.given.layout after.table.given.space = subst (λ (k : BoxKey _). IsSpaceOn k.layout k.space) (sym key) space in
    let there : IsSpaceOn before.table.given.layout was.space =
    subst (λ (k : BoxKey _). IsSpaceOn k.layout was.space) key
    (space_on after.table.given.layout was.front _ after.table.given.space was.space was.goes first)
    in
    let few = on.few in
    let long = was.inodes in
    record {
      inodes = λ number has.
          there.inodes number (ap is_some (All-contains (λ n. status_of was.space.inodes n ≡ Some Free) grant.inodes number was.took.inodes.free has));
      blocks = λ number has.
          there.blocks number (ap is_some (All-contains (λ n. status_of was.space.blocks n ≡ Some Free) grant.blocks number was.took.blocks.free has));
      enough = omega (arith, few, long);
    }
