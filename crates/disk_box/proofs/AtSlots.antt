-- A slot with a commit, of a core at work: what was told of it, and of it once it was written for.
use Rattle.std.specs.Prelude.{slice_get, option_map}
use Rattle.std.proofs.Common.{◌≡◌, ◌∙◌, ℕ, List, true, Bool, Option, Some, Result, Ok, Err, OnOk, sym, ap, subst, slice_set}
use Rattle.std.specs.Result.{is_ok}
use lib.ListN.{get_or}
use Rattle.std.proofs.lemmas.Option.{get_or_from_slice_get}
use Rattle.sfs_base.proofs.BasicOptions.{some_same}
use Rattle.sfs_dev.specs.Disk.{View}
use Rattle.sfs_image.specs.Super.{Layout}
use Rattle.journal_one.specs.Job.{Piece}
use Rattle.slot_laws.specs.Slots.{SlotKnown, SlotWork, Slots, changed_slot, knowing, place_at, with_at}
use Rattle.slot_laws.specs.Labels.{BoxPast}
use Rattle.slot_image_laws.specs.Run.{Writes}
use Rattle.stamp_table.specs.Table.{TableState}
use Rattle.disk_box.specs.declared.key.BoxKey.{BoxKey}
use Rattle.disk_box.specs.declared.desk.Desk.{Desk}
use Rattle.disk_box.specs.declared.desk.Slot.{Slot}
use Rattle.disk_box.specs.declared.kind.Kind.{Kind}
use Rattle.disk_box.specs.Kind.{HasKind, kind_of}
use Rattle.disk_box.specs.Slots.{Notes, NotesWork, PhaseFits, SlotsFit}
use Rattle.disk_box.specs.Pens.{PenHand, past_at, WorksAtDesk}
use Rattle.disk_box.proofs.Phases.{has_commit, work_told}
use Rattle.disk_box.proofs.SlotLists.{slots_put}

-- a slot as it was read has the phase
abbrev pub kind_read : (slots : List Slot) (k : ℕ) (what : Kind) (slot : Slot) → HasKind slots k what → slot ≡ get_or slots k slot → HasKind slots k what
kind_read slots k what slot has read =
    let same = read ∙ get_or_from_slice_get slots k has.slot slot has.there in
    record { slot = slot; there = has.there ∙ ap Some (sym same); kind_is = ap (λ (s : Slot). kind_of s.phase) same ∙ has.kind_is }

-- read twice it is the same
pub slot_read : (slots : List Slot) (k : ℕ) (one other slot : Slot) → slice_get slots k ≡ Some slot → one ≡ get_or slots k one
    → other ≡ get_or slots k other → one ≡ other
slot_read slots k one other slot there first second =
    (first ∙ get_or_from_slice_get slots k slot one there) ∙ sym (second ∙ get_or_from_slice_get slots k slot other there)

-- What was told of a slot.
pub record IsTold (past : BoxPast) (layout : Layout) (k : ℕ) (slot : Slot) : Type 0 where
  pub work : SlotWork
  pub there : past.slots k ≡ Some work
  pub fits : PhaseFits slot.phase (place_at layout k) (Some work)
  pub notes : NotesWork slot work

pub told_at : {D : Type 0} (view : D → View) (t : TableState (BoxKey D)) (pen : PenHand D) (desk : Desk D) (k : ℕ) (what : Kind)
    → WorksAtDesk view t pen desk → (has : HasKind desk.slots.items k what) → has_commit what ≡ true
    → IsTold (past_at pen) pen.table.given.layout k has.slot
told_at view t pen desk k what at has busy =
    let layout = pen.table.given.layout in
    let fits = (at.fits.slots at.calm).each k has.slot has.there in
    let found = work_told has.slot.phase (place_at layout k) ((past_at pen).slots k) (ap has_commit has.kind_is ∙ busy) fits.fits in
    record {
      work = found.0;
      there = found.1;
      fits = subst (PhaseFits has.slot.phase (place_at layout k)) found.1 fits.fits;
      notes = subst (Notes has.slot) found.1 fits.notes;
    }

-- a slot that was put with what is known of its commit now, where a call answered Ok
pub known_put : (layout : Layout) (told : Slots) (slots : List Slot) (k : ℕ) (work : SlotWork)
    (change : SlotKnown → SlotKnown) (was now : Slot) → SlotsFit layout told slots → told k ≡ Some work → NotesWork was work
    → now ≡ record was { phase = now.phase } → PhaseFits now.phase (place_at layout k) (Some (knowing change work))
    → SlotsFit layout (changed_slot told k (knowing change)) (slice_set slots k now)
known_put layout told slots k work change was now fits there notes beside phase =
    subst (λ (w : Option SlotWork). SlotsFit layout (with_at told k w) (slice_set slots k now)) (ap (option_map (knowing change)) (sym there))
    (slots_put layout told slots k (Some (knowing change work)) now fits (record {
      fits = phase;
      notes = subst (λ (s : Slot). NotesWork s (knowing change work)) (sym beside)
          (record { commit_is = notes.commit_is; flush_is = notes.flush_is; drawn_is = notes.drawn_is; inodes_are = notes.inodes_are; ascend = notes.ascend });
    }))

pub known_put_ok : {V : Type 0} (result : Result V ℕ) (done : Bool) (change : Bool → SlotKnown → SlotKnown)
    (layout : Layout) (told : Slots) (slots : List Slot) (k : ℕ) (now : Slot) → done ≡ is_ok result
    → OnOk result (SlotsFit layout (changed_slot told k (knowing (change true))) (slice_set slots k now))
    → OnOk result (SlotsFit layout (changed_slot told k (knowing (change done))) (slice_set slots k now))
known_put_ok (Err e) done change layout told slots k now is fits = tt
known_put_ok (Ok v) done change layout told slots k now is fits =
    subst (λ d. SlotsFit layout (changed_slot told k (knowing (change d))) (slice_set slots k now)) (sym is) fits

-- what holds of a phase that follows holds where a call answered Ok
pub ok_then : {V X Y : Type 0} (result : Result V ℕ) → (X → Y) → OnOk result X → OnOk result Y
ok_then (Err e) f x = tt
ok_then (Ok v) f x = f x

-- a write of what comes next, by what was told of the slot
pub writes_as : {V : Type 0} (result : Result V ℕ) (done : Bool) (piece other : Piece) (old new : View) → done ≡ is_ok result → other ≡ piece
    → Writes (is_ok result) piece old new → Writes done other old new
writes_as result done piece other old new is same wrote = subst (λ (z : Bool × Piece). Writes z.0 z.1 old new) (λ i. (sym is i, sym same i)) wrote

-- of each work that is there
pub of_there : (P : SlotWork → Type 0) (slots : Slots) (k : ℕ) (work : SlotWork) → slots k ≡ Some work → P work → (other : SlotWork)
    → slots k ≡ Some other → P other
of_there P slots k work there is other found = subst P (some_same (sym there ∙ found)) is
