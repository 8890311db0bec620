-- What was planned of nodes that are well kept gives nothing up, where it has no record to write.
use Rattle.std.specs.Prelude.{◌⊎◌, slice_index}
use Rattle.std.proofs.Common.{◌≡◌, ◌≢◌, ◌∙◌, ℕ, List, [], map, refl, sym, ap, subst, Contains, inl, inr}
use Rattle.std.proofs.lemmas.List.Elements.{Contains-append_cases}
use Rattle.sfs_base.specs.declared.numbers.NodeId.{NodeId}
use Rattle.sfs_base.specs.declared.numbers.Kind.{Kind}
use Rattle.sfs_base.specs.declared.numbers.Kind.TheVariants.{File, Directory}
use Rattle.sfs_image.specs.Inode.{Inode, Table}
use Rattle.sfs_image.specs.Slot.{kind_byte}
use Rattle.fmt_journal.specs.declared.tx.Tx.{Tx}
use Rattle.disk_nodes.specs.declared.old.OldEntry.{OldEntry}
use Rattle.block_map.specs.Remap.{IsGivenUp}
use Rattle.disk_change.specs.AllBuilt.{built_by, numbers_with}
use Rattle.disk_change.specs.GivenUp.{IsLeftByGone, IsLeftBySeat, entry_number}
use Rattle.disk_change.specs.Planned.{Planned, leaves, planned, seated_entering, seated_old, staying}
use Rattle.disk_change.specs.Records.{records_written}
use Rattle.disk_change.specs.Seated.{Begun, CommitChanges, Seated, begun_entering, begun_old, seated, seated_as}
use Rattle.disk_change.specs.Written.{IsTransactionOf}
use Rattle.disk_change.specs.declared.directory_net.DirectoryNet.{DirectoryNet}
use Rattle.disk_change.specs.declared.enter.Enter.{Enter}
use Rattle.disk_change.specs.declared.files.FileChange.{FileChange}
use Rattle.disk_change.specs.Built.{rewrite_in}
use Rattle.commit_laws.proofs.NumbersGiven.{kept_in}
use Rattle.commit_laws.proofs.OwnInodes.{mapped_is_in}
use Rattle.made_laws.specs.Made.{of_notes, of_file}
use Rattle.slot_laws.specs.Nodes.{no_numbers}
use Rattle.end_laws.specs.Frees.{MadesFreeNothing}
use Rattle.end_laws.specs.Kept.{AreWellKept}
use Rattle.end_laws.proofs.Rewritten.{none_given_up}
use Rattle.end_laws.proofs.Unwritten.{empty_of, gone_free, nothing_in, seat_same}

-- What becomes of a node has its pointers and its kind.
pub record IsSeatOf (begun : Begun) (seat : Seated) : Type 0 where
  pub before : seat.before ≡ begun.before
  pub direct : seat.meta.direct ≡ begun.base.direct
  pub indirect : seat.meta.indirect ≡ begun.base.indirect
  pub tables : seat.tables ≡ begun.tables
  pub kind : seat.meta.kind ≡ kind_byte begun.kind

pub seat_is : (changes : CommitChanges) (begun : Begun) → IsSeatOf begun (seated changes begun)
seat_is changes begun = by begun.kind
  where
    by : (kind : Kind) → IsSeatOf (record begun { kind = kind }) (seated_as kind changes begun)
    by File = record { before = refl; direct = refl; indirect = refl; tables = refl; kind = refl }
    by Directory = record { before = refl; direct = refl; indirect = refl; tables = refl; kind = refl }

-- What a node begins with has the pointers of its record on the disk, and each indirect block that is kept has its own there.
pub record BeginsWell (begun : Begun) : Type 0 where
  pub direct : begun.base.direct ≡ begun.before.direct
  pub indirect : begun.base.indirect ≡ begun.before.indirect
  pub well : (table : Table) → Contains begun.tables table → slice_index begun.base.indirect table.place ≢ 0

module _ (old : List OldEntry) (nets : List DirectoryNet) (files : List FileChange) (enter : List Enter) (leave : List NodeId) (well : AreWellKept old) where
  abbrev change : Planned
  change = planned old nets files enter leave

  -- Each node that has an inode afterwards is that of one that begins well.
  pub record HasBegunSeat (seat : Seated) : Type 0 where
    pub begun : Begun
    pub is : seated change.changes begun ≡ seat
    pub begins : BeginsWell begun

  pub has_begun : (seat : Seated) → Contains change.seats seat → HasBegunSeat seat
  has_begun seat there = elim
      (Contains-append_cases (map (seated_old change.changes) (staying old leave)) (map (seated_entering change.changes) enter) seat there) [
        | inl stays ↦
            let one = mapped_is_in (seated_old change.changes) (staying old leave) seat stays in
            let held = kept_in _ old one.0 one.1 in
            record { begun = begun_old one.0; is = one.2; begins = record { direct = refl; indirect = refl; well = (well one.0 held.0).tables } }
        | inr comes ↦
            let one = mapped_is_in (seated_entering change.changes) enter seat comes in
            record {
              begun = begun_entering one.0;
              is = one.2;
              begins = record { direct = refl; indirect = refl; well = λ table has. absurd (nothing_in [] table refl has) };
            }
      ]

  -- a node that loses its inode is one of the old ones
  pub gone_is_old : (entry : OldEntry) → Contains change.gone entry → Contains old entry
  gone_is_old entry there = (kept_in (leaves leave) old entry there).0

  module _ (none : records_written change no_numbers ≡ []) where
    no_gone : (entry : OldEntry) → Contains change.gone entry → ⊥
    no_gone entry there = (well entry (gone_is_old entry there)).used (ap (λ (inode : Inode). inode.kind) (gone_free change none entry there))

    of_seat : (begun : Begun) → BeginsWell begun → (seat : Seated) → IsSeatOf begun seat
        → seat.before ≡ (built_by change.changes (numbers_with change []) [] seat).meta → (block place : ℕ)
        → IsGivenUp (rewrite_in seat) block place → ⊥
    of_seat begun begins seat is same block place up =
        none_given_up seat.meta seat.tables seat.changed seat.before
        (is.direct ∙ begins.direct ∙ sym (ap (λ (inode : Inode). inode.direct) is.before))
        (is.indirect ∙ begins.indirect ∙ sym (ap (λ (inode : Inode). inode.indirect) is.before)) same
        (λ table has.
        subst (λ (pointers : List ℕ). slice_index pointers table.place ≢ 0) (sym is.indirect)
        (begins.well table (subst (λ (tables : List Table). Contains tables table) is.tables has)))
        block place up

    no_seat : (block : ℕ) → IsLeftBySeat change.seats block → ⊥
    no_seat block left =
        let has = has_begun left.seat left.one in
        of_seat has.begun has.begins left.seat (subst (IsSeatOf has.begun) has.is (seat_is change.changes has.begun))
        (seat_same change none left.seat left.one) block left.place left.left

    pub none_left : (block : ℕ) → IsLeftBySeat change.seats block ⊎ IsLeftByGone change.gone block → ⊥
    none_left block (inl by_seat) = no_seat block by_seat
    none_left block (inr by_gone) = no_gone by_gone.entry by_gone.one

    pub frees_nothing : (tx : Tx) → IsTransactionOf change no_numbers tx → (tx.freed_inodes.items ≡ []) × (tx.freed_blocks.items ≡ [])
    frees_nothing tx is = (
      empty_of tx.freed_inodes.items (λ inode there.
          let one = mapped_is_in entry_number change.gone inode ((is.freed_inodes.each inode).0 there) in no_gone one.0 one.1),
      empty_of tx.freed_blocks.items (λ block there. none_left block ((is.freed_blocks.each block).0 there)),
    )

pub mades_free_nothing : MadesFreeNothing
mades_free_nothing run made (of_notes core) well tx is none =
    let plans = core.plans in
    frees_nothing made.making.old _ _ plans.enter made.making.plan.leave.items well
    (ap (λ (change : Planned). records_written change no_numbers) (sym plans.made) ∙ sym is.records ∙ none)
    tx (subst (λ (change : Planned). IsTransactionOf change no_numbers tx) plans.made is)
mades_free_nothing run made (of_file own) well tx is none =
    frees_nothing made.making.old [] own.own.files [] [] well
    (ap (λ (change : Planned). records_written change no_numbers) (sym own.change_is) ∙ sym is.records ∙ none)
    tx (subst (λ (change : Planned). IsTransactionOf change no_numbers tx) own.change_is is)
