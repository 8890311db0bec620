-- That the next record of a durable commit in a slot is the oldest of its inode.
use Rattle.std.specs.Prelude.{slice_get}
use Rattle.std.proofs.Common.{◌≡◌, ◌≢◌, ◌<◌, ◌≤◌, ◌+◌, ◌&&◌, ◌∙◌, ℕ, Bool, true, not, List, length, map, Some, get_or, inl, inr, refl, sym, ap, subst, arith, nat_eq, nat_lt}
use Rattle.std.proofs.lemmas.Bool.{cases_lt, lt-ltb}
use Rattle.std.proofs.lemmas.List.Folds.{list_any_at}
use Rattle.std.proofs.lemmas.List.{get_or-map, get_or_past, length-map}
use Rattle.std.proofs.lemmas.Option.{get_or_from_slice_get, slice_get-get_or, slice_get_within}
use Rattle.sfs_base.specs.Listed.{is_listed}
use Rattle.sfs_base.proofs.BasicNumbers.{same_number}
use Rattle.sfs_base.proofs.BasicOptions.{none_some, some_same}
use Rattle.sfs_base.proofs.BasicTruth.{true_not_false}
use Rattle.sfs_image.specs.Journal.{Entry}
use Rattle.sfs_dev.specs.Disk.{View}
use Rattle.journal_one.specs.Job.{no_entry}
use Rattle.journal_one.specs.Packed.{inode_of_entry}
use Rattle.journal_one.specs.Stage.{Stage}
use Rattle.merge_laws.proofs.Blocks.{same_or_not}
use Rattle.slot_laws.specs.Slots.{SlotWork, place_at}
use Rattle.slot_laws.specs.Rules.{HasRecordOf, inode_of_nth}
use Rattle.stamp_table.specs.Table.{TableState}
use Rattle.disk_box.specs.declared.key.BoxKey.{BoxKey}
use Rattle.disk_box.specs.declared.desk.Desk.{Desk}
use Rattle.disk_box.specs.declared.desk.Phase.{Phase}
use Rattle.disk_box.specs.declared.desk.Phase.TheVariants as phase
use Rattle.disk_box.specs.declared.desk.Slot.{Slot}
use Rattle.disk_box.specs.declared.kind.Kind.TheVariants as kind
use Rattle.disk_box.specs.Calls.{written_of}
use Rattle.disk_box.specs.Kind.{HasKind, kind_of}
use Rattle.disk_box.specs.Oldest.{IsOldestSlot, OthersWrite, goes_before, is_next_oldest, is_writing, next_inode}
use Rattle.disk_box.specs.Serving.{owner_by}
use Rattle.disk_box.specs.Slots.{IsBeingPlaced, Notes, NotesWork, PhaseFits}
use Rattle.disk_box.specs.Pens.{PenHand, past_at, WorksAtDesk}
use Rattle.disk_box.specs.Steps.{NextIsOldest, is_lingering}
use Rattle.disk_box.proofs.After.{past_fits_at}
use Rattle.disk_box.proofs.AtSlots.{IsTold, told_at}
use Rattle.disk_box.proofs.Older.{durable_lingers}
use Rattle.disk_box.proofs.Phases.{durable_is}

-- the inode of a record, in a list of inodes
inode_at : (entries : List Entry) (inodes : List ℕ) (n : ℕ) → inodes ≡ map inode_of_entry entries → n < length entries
    → get_or inodes n 0 ≡ (get_or entries n no_entry).inode
inode_at entries inodes n are low = ap (λ l. get_or l n 0) are ∙ get_or-map inode_of_entry entries n no_entry 0 low

and_all : (a b c : Bool) → a ≡ true → b ≡ true → c ≡ true → (a && (b && c)) ≡ true
and_all a b c first second third = rw first (rw second third)

module _ {D : Type 0} (view : D → View) (t : TableState (BoxKey D)) (pen : PenHand D) (desk : Desk D) (k : ℕ) (at : WorksAtDesk view t pen desk)
    (has : HasKind desk.slots.items k kind.Durable) where
  abbrev told : IsTold (past_at pen) pen.table.given.layout k has.slot
  told = told_at view t pen desk k kind.Durable at has refl

  abbrev state : (durable : Stage) × (has.slot.phase ≡ phase.Durable durable)
  state = durable_is has.slot.phase has.kind_is

  fits : IsBeingPlaced state.0.job state.0.done told.work
  fits = subst (λ (p : Phase). PhaseFits p (place_at pen.table.given.layout k) (Some told.work)) state.1 told.fits

  -- of another durable commit
  record Other (j : ℕ) (other : SlotWork) : Type 0 where
    slot : Slot
    there : slice_get desk.slots.items j ≡ Some slot
    notes : NotesWork slot other
    lingers : is_lingering (kind_of slot.phase) ≡ true

  other_at : (j : ℕ) (other : SlotWork) → (past_at pen).slots j ≡ Some other → other.settled ≡ true → Other j other
  other_at j other there settled =
      let layout = pen.table.given.layout in
      elim (cases_lt j (length desk.slots.items)) [
        | inl within ↦
            let slot = get_or desk.slots.items j has.slot in
            let found = slice_get-get_or desk.slots.items j has.slot within in
            let one = (at.fits.slots at.calm).each j slot found in
            record {
              slot = slot;
              there = found;
              notes = subst (Notes slot) there one.notes;
              lingers = durable_lingers slot.phase (place_at layout j) other (subst (PhaseFits slot.phase (place_at layout j)) there one.fits) settled;
            }
        | inr past ↦
            let count = at.fits.frame.count in
            absurd (none_some (sym ((past_fits_at t pen at.holds).numbers.beyond j (omega (arith, past, count))) ∙ there))
      ]

  -- its next record is the oldest where each other of its inode has a greater stamp
  oldest_by : ((j : ℕ) (other : SlotWork) → (past_at pen).slots j ≡ Some other → other.settled ≡ true
      → HasRecordOf other.job (inode_of_nth told.work.job state.0.done) → told.work.job.stamp ≤ other.job.stamp) → NextIsOldest (past_at pen).slots k has.slot
  oldest_by least = subst (λ (s : Slot). NextIsOldest (past_at pen).slots k s) (λ i. record has.slot { phase = sym state.1 i })
      (λ work there j other apart found settled has_record.
      let same = some_same (sym told.there ∙ there) in
      let low = least j other found settled
      (subst (λ (w : SlotWork). HasRecordOf other.job (inode_of_nth w.job state.0.done)) (sym same) has_record)
      in
      let stamp = ap (λ (w : SlotWork). w.job.stamp) same in
      elim (cases_lt work.job.stamp other.job.stamp) [
        | inl less ↦ less
        | inr not ↦ absurd (apart ((past_fits_at t pen at.holds).numbers.drawn j k other work found there (omega (arith, low, not, stamp))))
      ])

  -- so it is of the oldest slot
  pub oldest_places : IsOldestSlot desk.slots.items k → NextIsOldest (past_at pen).slots k has.slot
  oldest_places oldest = oldest_by (λ j other found settled has_record.
      let one = other_at j other found settled in
      let low = oldest.least j (record {
        what = kind_of one.slot.phase;
        has = record { slot = one.slot; there = one.there; kind_is = refl };
        lingers = one.lingers;
      }) in
      let here = ap (λ (s : Slot). s.drawn) (some_same (sym oldest.lingers.has.there ∙ has.there)) in
      let first = told.notes.drawn_is in
      let second = one.notes.drawn_is in
      omega (arith, low, here, first, second))

  -- and of one before which no other goes
  record_listed : (j : ℕ) (other : SlotWork) → (one : Other j other) → HasRecordOf other.job (inode_of_nth told.work.job state.0.done)
      → is_listed one.slot.inodes.items (next_inode has.slot) ≡ true
  record_listed j other one has_record =
      let m = has_record.0 in
      let low : m < length other.job.entries = has_record.1 in
      let long = ap length one.notes.inodes_are ∙ length-map other.job.entries inode_of_entry in
      let here : get_or one.slot.inodes.items m 0 ≡ inode_of_nth told.work.job state.0.done =
      inode_at other.job.entries one.slot.inodes.items m one.notes.inodes_are low ∙ has_record.2
      in
      let next : next_inode has.slot ≡ inode_of_nth told.work.job state.0.done = next_is in
      list_any_at (λ listed. nat_eq listed (next_inode has.slot)) one.slot.inodes.items m 0 (omega (arith, low, long))
      (ap (λ n. nat_eq n (next_inode has.slot)) (here ∙ sym next) ∙ same_number (next_inode has.slot))
    where
      in_range : state.0.done < length told.work.job.entries → next_inode has.slot ≡ inode_of_nth told.work.job state.0.done
      in_range low =
          ap (λ (p : Phase). get_or has.slot.inodes.items (written_of p) 0) state.1
          ∙ inode_at told.work.job.entries has.slot.inodes.items state.0.done told.notes.inodes_are low

      next_is : next_inode has.slot ≡ inode_of_nth told.work.job state.0.done
      next_is = elim (cases_lt state.0.done (length told.work.job.entries)) [
        | inl low ↦ in_range low
        | inr past ↦
            ap (λ (p : Phase). get_or has.slot.inodes.items (written_of p) 0) state.1
            ∙ (get_or_past has.slot.inodes.items state.0.done 0
            (let long = ap length told.notes.inodes_are ∙ length-map told.work.job.entries inode_of_entry in omega (arith, past, long))
            ∙ sym (ap inode_of_entry (get_or_past told.work.job.entries state.0.done no_entry past)))
      ]

  pub next_places : is_next_oldest desk.slots.items has.slot ≡ true → NextIsOldest (past_at pen).slots k has.slot
  next_places none = oldest_by (λ j other found settled has_record.
      let one = other_at j other found settled in
      let first = told.notes.drawn_is in
      let second = one.notes.drawn_is in
      elim (cases_lt other.job.stamp told.work.job.stamp) [
        | inl less ↦
            let before = and_all (is_lingering (kind_of one.slot.phase)) (nat_lt one.slot.drawn has.slot.drawn)
            (is_listed one.slot.inodes.items (next_inode has.slot)) one.lingers
            (lt-ltb one.slot.drawn has.slot.drawn (omega (arith, less, first, second))) (record_listed j other one has_record)
            in
            let within = slice_get_within desk.slots.items j one.slot one.there in
            let any = list_any_at (goes_before has.slot.drawn (next_inode has.slot)) desk.slots.items j one.slot within
            (ap (goes_before has.slot.drawn (next_inode has.slot)) (get_or_from_slice_get desk.slots.items j one.slot one.slot one.there) ∙ before)
            in
            absurd (true_not_false (sym none ∙ ap not any))
        | inr not ↦ not
      ])

-- as a step asks for it
module _ {D : Type 0} (view : D → View) (t : TableState (BoxKey D)) (pen : PenHand D) (desk : Desk D) (k : ℕ) (at : WorksAtDesk view t pen desk)
    (has : HasKind desk.slots.items k kind.Durable) (slot : Slot) (there : slice_get desk.slots.items k ≡ Some slot) where
  abbrev read : HasKind desk.slots.items k kind.Durable
  read = record {
    slot = slot;
    there = there;
    kind_is = ap (λ (s : Slot). kind_of s.phase) (some_same (sym there ∙ has.there)) ∙ has.kind_is;
  }

  pub oldest_may_place : IsOldestSlot desk.slots.items k → NextIsOldest (past_at pen).slots k slot
  oldest_may_place oldest = oldest_places view t pen desk k at read oldest

  pub next_may_place : is_next_oldest desk.slots.items slot ≡ true → NextIsOldest (past_at pen).slots k slot
  next_may_place none = next_places view t pen desk k at read none

-- none of the first slots is another core's and about to be written for
abbrev pub NoneBefore : List Slot → ℕ → ℕ → ℕ → Type 0
NoneBefore slots cores core k = (one : OthersWrite slots cores core) → one.slot < k → ⊥

module _ (slots : List Slot) (cores core k : ℕ) (slot : Slot) (low : k < length slots) (read : slot ≡ get_or slots k slot) where
  pub writes_here : owner_by (length slots) cores k ≢ core → is_writing (kind_of slot.phase) ≡ true → OthersWrite slots cores core
  writes_here other writes = record {
    slot = k;
    what = kind_of slot.phase;
    has = record { slot = slot; there = slice_get-get_or slots k slot low ∙ ap Some (sym read); kind_is = refl };
    writes = writes;
    other = other;
  }

  -- nor is this one
  pub none_more : NoneBefore slots cores core k → (owner_by (length slots) cores k ≢ core → is_writing (kind_of slot.phase) ≡ true → ⊥)
      → NoneBefore slots cores core (k + 1)
  none_more none not one before = elim (same_or_not one.slot k) [
    | inl same ↦
        not (λ own. one.other (ap (owner_by (length slots) cores) same ∙ own))
        (ap (λ (s : Slot). is_writing (kind_of s.phase))
        (read ∙ get_or_from_slice_get slots k one.has.slot slot (ap (slice_get slots) (sym same) ∙ one.has.there))
        ∙ (ap is_writing one.has.kind_is ∙ one.writes))
    | inr apart ↦ none one (omega (arith, before, apart))
  ]

pub none_writes : (slots : List Slot) (cores core k : ℕ) → NoneBefore slots cores core k → length slots ≤ k → OthersWrite slots cores core → ⊥
none_writes slots cores core k none past one =
    none one (let low = slice_get_within slots one.slot one.has.slot one.has.there in omega (arith, low, past))
