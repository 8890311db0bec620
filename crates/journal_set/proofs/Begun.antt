-- A commit begins in an idle slot: what lies in the box goes on to fit.
use Rattle.disk_box.specs.Desk.{GoesOnSince, HaveFew}
use Rattle.std.proofs.Common.{◌≡◌, ◌+◌, ◌<◌, ◌≤◌, ◌∙◌, ℕ, Bool, true, false, length, slice_get, slice_set, Option, Some, None, inl, inr, refl, sym, ap, subst, arith, max}
use Rattle.std.proofs.lemmas.List.{length-set}
use Rattle.std.proofs.lemmas.Option.{slice_get_within}
use Rattle.sfs_base.proofs.BasicOptions.{some_same}
use Rattle.sfs_image.specs.Settled.{slot_count}
use Rattle.sfs_dev.specs.Disk.{View}
use Rattle.space_map.specs.Space.{GrantedNumbers}
use Rattle.stamp_table.specs.Table.{TableState}
use Rattle.journal_one.specs.Job.{IsJob, Place}
use Rattle.journal_one.specs.Stage.{Stage}
use Rattle.merge_laws.proofs.Blocks.{same_or_not}
use Rattle.sfs_base.specs.Lists.{Roomy}
use Rattle.sfs_base.specs.declared.numbers.NodeId.{NodeId}
use Rattle.sfs_base.specs.declared.numbers.Stamp.{Stamp}
use Rattle.slot_laws.specs.declared.label.Label.{Label}
use Rattle.slot_laws.specs.declared.label.Label.TheVariants as label
use Rattle.slot_laws.specs.Slots.{SlotWork, begun_work, place_at, with_at}
use Rattle.slot_laws.specs.Labels.{BoxPast, OwnTold, after_label, fsync_told, own_label, owner}
use Rattle.slot_laws.specs.Rules.{BeganRule}
use Rattle.slot_laws.specs.Fits.{PastFits}
use Rattle.slot_image_laws.proofs.Running.{told_labels_fit}
use Rattle.commit_ledger.specs.View.{DebtView, OpenView, number_in}
use Rattle.commit_ledger.specs.Keeps.{LedgerGoes, WasGranted}
use Rattle.disk_box.specs.declared.key.BoxKey.{BoxKey}
use Rattle.disk_box.specs.declared.desk.Desk.{Desk}
use Rattle.disk_box.specs.declared.desk.Phase.TheVariants as phase
use Rattle.disk_box.specs.declared.desk.Slot.{Slot}
use Rattle.disk_box.specs.Desk.{DeskFits, FrameFits, open_for, open_told, owed_by, owed_of}
use Rattle.disk_box.specs.declared.kind.Kind.TheVariants as kind
use Rattle.disk_box.specs.Kind.{HasKind}
use Rattle.disk_box.specs.Pens.{PenHand, past_at, WorksAtDesk}
use Rattle.disk_box.specs.Slots.{PhaseFits, SlotFits, SlotsFit}
use Rattle.disk_box.proofs.Frames.{own_after, others_after, owed_less}
use Rattle.disk_box.proofs.After.{past_fits_at}
use Rattle.disk_box.proofs.SlotLists.{slots_put}
use Rattle.journal_set.proofs.Opens.{open_changed}
use Rattle.journal_set.specs.declared.beginning.Writing.{Writing}
use Rattle.journal_set.specs.Grants.{grant_at}
use Rattle.journal_set.proofs.Grants.{has_reserved}
use Rattle.journal_set.proofs.Returned.{none_waits, number_there, owed_three}

-- in an idle slot there is no commit
pub idle_fits : (idle : Place) (place : Place) (told : Option SlotWork) → PhaseFits (phase.Idle idle) place told → (told ≡ None) × (idle ≡ place)
idle_fits idle place None fits = (refl, fits)
idle_fits idle place (Some work) fits = absurd fits

-- What a commit begins with: its slot, its number, its state in the slot, and what it gives up.
pub record Begin : Type 0 where
  pub k : ℕ
  pub number : ℕ
  pub filling : Stage
  pub node : NodeId
  pub stamp : Stamp
  pub blocks : Roomy ℕ
  pub inodes : Roomy ℕ

abbrev pub label_of : Begin → Label
label_of b = label.Began b.filling b.number b.node b.stamp b.blocks b.inodes

-- what begins where this is written
abbrev pub begin_of : ℕ → ℕ → Stage → Writing → Begin
begin_of k number filling writing = record {
  k = k;
  number = number;
  filling = filling;
  node = writing.fsync.node;
  stamp = writing.fsync.stamp;
  blocks = writing.freed_blocks;
  inodes = writing.freed_inodes;
}

-- what a label by which a commit begins has: its state, and what it gives up
abbrev begun_in : Label → Option (Stage × (Roomy ℕ × Roomy ℕ))
begun_in (label.Began filling number node stamp blocks inodes) = Some (filling, (blocks, inodes))
begun_in _ = None

pub same_begun : (one other : Begin) → label_of one ≡ label_of other
    → ◌≡◌ {A = Stage × (Roomy ℕ × Roomy ℕ)} (one.filling, (one.blocks, one.inodes)) (other.filling, (other.blocks, other.inodes))
same_begun one other same = some_same (ap begun_in same)

module _ {D : Type 0} (view : D → View) (key : BoxKey D) (core : ℕ) (past : BoxPast) (fits : PastFits key.layout key.faults past) (was : Desk D)
    (frame : FrameFits view key past was) (low : core < key.layout.cores) (b : Begin) (reserved : (past.owns core).reserved ≡ Some b.number)
    (calm : past.failed ≡ None) (slot : Slot) (there : slice_get was.slots.items b.k ≡ Some slot) (own : owner key.layout b.k ≡ core)
    (idle : past.slots b.k ≡ None) (place : b.filling.job.place ≡ place_at key.layout b.k) (drawn : b.filling.job.stamp ≡ was.stamps + 1)
    (is : IsJob b.filling.job) where
  slot_is : b.filling.job.place.slot ≡ b.k
  slot_is = ap (λ (p : Place). p.slot) place

  within : b.k < length was.slots.items
  within = slice_get_within was.slots.items b.k slot there

  pub began_rule : BeganRule key.layout core b.filling.job b.number past
  began_rule = record {
    calm = calm;
    own = ap (owner key.layout) slot_is ∙ own;
    within = subst (λ (n : ℕ). n < slot_count key.layout) (sym slot_is) (subst (λ n. b.k < n) frame.count within);
    place = place ∙ ap (place_at key.layout) (sym slot_is);
    idle = ap past.slots slot_is ∙ idle;
    number = reserved;
    stamp = drawn ∙ ap (λ n. n + 1) frame.stamps;
    is = is;
  }

  abbrev later : BoxPast
  later = after_label key.layout core (label_of b) past

  own_now : later.owns core ≡ own_label (label_of b) (past.owns core)
  own_now = own_after key.layout core (label_of b) past

  waits : past.waits core ≡ None
  waits = none_waits view key core past fits was frame low b.number reserved

  owed_begun : (over : Bool) → (past.owns core).over ≡ over → owed_of (own_label (label_of b) (past.owns core)) None ≤ owed_of (past.owns core) None
  owed_begun true over = rw over (omega arith)
  owed_begun false over =
      let three = owed_three view key core past fits was frame low b.number reserved (past.owns core) reserved over in
      let now : owed_of (own_label (label_of b) (past.owns core)) None ≡ 3 = rw over refl in
      omega (arith, three, now)

  pub owed_now : owed_by key.layout.cores later ≤ owed_by key.layout.cores past
  owed_now = owed_less key.layout.cores past later (λ other below. elim (same_or_not other core) [
    | inl same ↦
        let one : owed_of (later.owns other) (later.waits other) ≡ owed_of (own_label (label_of b) (past.owns core)) None =
        ap (λ c. owed_of (later.owns c) (past.waits c)) same ∙ (λ i. owed_of (own_now i) (waits i))
        in
        let two : owed_of (past.owns other) (past.waits other) ≡ owed_of (past.owns core) None =
        ap (λ c. owed_of (past.owns c) (past.waits c)) same ∙ ap (owed_of (past.owns core)) waits
        in
        let less = owed_begun (past.owns core).over refl in
        omega (arith, one, two, less)
    | inr not ↦
        let same : owed_of (later.owns other) (later.waits other) ≡ owed_of (past.owns other) (past.waits other) =
        ap (λ (o : OwnTold). owed_of o (past.waits other)) (others_after key.layout core (label_of b) past other not)
        in
        omega (arith, same)
  ])

  -- The desk fits, once the slot has the commit and the ledger its debt.
  module _ (now : Desk D) (new_slot : Slot) (same : now ≡ record was { slots = now.slots; ledger = now.ledger; stamps = now.stamps })
      (slots : now.slots.items ≡ slice_set was.slots.items b.k new_slot) (stamps : now.stamps ≡ was.stamps + 1)
      (one : OpenView) (debt : DebtView) (number_is : one.number ≡ b.number)
      (opens : now.ledger.opens ≡ slice_set was.ledger.opens core (Some (record one { debt = Some debt })))
      (goes : LedgerGoes (label_of b) past was.ledger now.ledger)
      (slot_fits : SlotFits (place_at key.layout b.k) (Some (begun_work b.filling.job b.number (fsync_told b.node b.stamp))) new_slot) where
    pub begun_fits : DeskFits view key past was → DeskFits view key later now
    begun_fits old = record {
      frame = record {
        layout = frame.layout;
        large = subst (λ (d : Desk D). key.layout.blocks ≤ (view d.disk).size) (sym same) frame.large;
        laws = frame.laws;
        count = ap length slots ∙ (length-set was.slots.items b.k new_slot ∙ frame.count);
        cores = ap (λ (d : Desk D). length d.waits.items) same ∙ frame.cores;
        waits = λ c. ap (λ (d : Desk D). Rattle.disk_box.specs.Desk.wait_in d.waits.items c) same ∙ frame.waits c;
        ledger = goes.keeps key.layout core;
        places = ap length opens ∙ (length-set was.ledger.opens core (Some (record one { debt = Some debt })) ∙ frame.places);
        opens = open_changed was.ledger.opens now.ledger.opens core (Some (record one { debt = Some debt })) later.owns past.waits
            (subst (λ n. core < n) (sym frame.places) low) opens
            (ap (λ n. Some (n, true)) number_is ∙ sym (λ i. open_for (own_now i) (waits i)))
            (λ other not. frame.opens other ∙ ap (λ (o : OwnTold). open_for o (past.waits other))
            (sym (others_after key.layout core (label_of b) past other not)));
        stamps = stamps ∙ sym drawn;
        faults = ap (λ (d : Desk D). d.faults) same ∙ frame.faults;
        failed = ap (λ (d : Desk D). d.failed) same ∙ frame.failed;
        turns = ap (λ (d : Desk D). d.turns.items) same ∙ frame.turns;
        few = subst (λ (d : Desk D). HaveFew past.turns (max key.faults (view d.disk).faults)) (sym same) frame.few;
        moment = subst (λ (d : Desk D). past.moment ≤ (view d.disk).now) (sym same) frame.moment;
        since = subst (λ (d : Desk D). GoesOnSince view key d.disk) (sym same) frame.since;
        run = subst (λ (d : Desk D). Rattle.slot_image_laws.specs.Run.RunFits key.layout key.start later (view d.disk)) (sym same)
            (told_labels_fit (view was.disk) key.layout key.faults core key.start (label_of b) past fits began_rule tt (frame.laws was.disk) frame.run);
      };
      room =
          let less = owed_now in
          let room = old.room in
          let spare = ap (λ (d : Desk D). d.turns.spare) same in
          omega (arith, less, room, spare);
      faults = subst (λ (d : Desk D). Rattle.disk_box.specs.Desk.FaultsFit key.faults past.failed (view d.disk).faults) (sym same) old.faults;
      slots = λ none. subst (SlotsFit key.layout later.slots) (sym slots)
          (subst (λ (n : ℕ). SlotsFit key.layout (with_at past.slots n (Some (begun_work b.filling.job b.number (fsync_told b.node b.stamp))))
          (slice_set was.slots.items b.k new_slot)) (sym slot_is)
          (slots_put key.layout past.slots was.slots.items b.k (Some (begun_work b.filling.job b.number (fsync_told b.node b.stamp))) new_slot
          (old.slots none) slot_fits));
    }

module _ {D : Type 0} (view : D → View) (t : TableState (BoxKey D)) (pen : PenHand D) (desk : Desk D) where
  -- in an idle slot of a core at work there is no commit, and its state has its place
  pub idle_at : (k : ℕ) (idle : Place) → WorksAtDesk view t pen desk → (has : HasKind desk.slots.items k kind.Idle) → has.slot.phase ≡ phase.Idle idle
      → ((past_at pen).slots k ≡ None) × (idle ≡ place_at pen.table.given.layout k)
  idle_at k idle work has is =
      let place = place_at pen.table.given.layout k in
      let fits = (work.fits.slots work.calm).each k has.slot has.there in
      idle_fits idle place ((past_at pen).slots k) (subst (λ p. PhaseFits p place ((past_at pen).slots k)) is fits.fits)

  -- the number that its ledger has is the one that it has reserved, with what it was granted
  pub its_number : (grant : GrantedNumbers) (number : ℕ) → WorksAtDesk view t pen desk → grant_at pen ≡ Some grant
      → number_in desk.ledger pen.view.core ≡ Some number
      → (((past_at pen).owns pen.view.core).reserved ≡ Some number) × WasGranted (past_at pen).opens number grant
  its_number grant number work is given =
      let has = has_reserved t pen grant work.holds is in
      let there = number_there view pen.table.given pen.view.core (past_at pen) (past_fits_at t pen work.holds) desk work.fits.frame work.holds.core_is
      has.number has.reserved
      in
      let same : has.number ≡ number = some_same (sym there ∙ given) in
      (has.reserved ∙ ap Some same, subst (λ n. WasGranted (past_at pen).opens n grant) same has.was)
