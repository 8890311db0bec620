-- What closing a slot does to a disk, and how closings follow one another.
use Rattle.std.proofs.Common.{◌≡◌, ℕ, ◌+◌, ◌-◌, ◌*◌, ◌^◌, ◌<◌, ◌≤◌, true, false, nat_lt, List, [], ◌∷◌, length, is_some, Option, None, Some, Result, Ok, Err, OnOk, refl, sym, ◌∙◌, ap, subst, arith}
use Rattle.std.specs.Result.{IsErr}
use Rattle.std.proofs.lemmas.Bool.Decides.{nat_tests}
use Rattle.std.proofs.lemmas.Result.{on_ok_weaker}
use Rattle.sfs_base.proofs.BasicTruth.{false_not_true}
use Rattle.sfs_image.specs.Journal.{head_of}
use Rattle.sfs_image.specs.Bytes.{part}
use Rattle.sfs_image.specs.Part.{Part}
use Rattle.sfs_image.specs.Settled.{journal_slot, slot_byte, slot_count}
use Rattle.sfs_image.specs.Super.{Layout}
use Rattle.sfs_dev.specs.Disk.{View, OnlyTold, images}
use Rattle.sfs_dev.specs.Run.{Advances}
use Rattle.sfs_dev.specs.Steps.{TellsAlike, Puts, TearsOnly}
use Rattle.sfs_dev.specs.Ranges.{SameOutside}
use Rattle.sfs_dev.specs.RangeLaws.{SameOutside-put}
use Rattle.sfs_dev.proofs.ReadRuns.{answered}
use Rattle.journal_one.specs.Job.{Place, gate_piece}
use Rattle.journal_one.specs.Known.{EachLeft}
use Rattle.journal_one.proofs.Kept.{IsLawful, put_told, written_stands, gate_put}
use Rattle.commit_one.specs.Carried.{GoesOnTelling}
use Rattle.commit_one.proofs.Moments.{telling_trans, later_trans}
use Rattle.recovery.specs.Recovering.{is_above, IsOldestAbove, HasNoneAbove, SettlesAs, IsToBeClosed, ClosesUpTo, ClosesSoFar, ClosesAll}
use Rattle.recovery.specs.declared.journals.OpenSlot.{OpenSlot}
use Rattle.recovery.proofs.SlotsClosed.{written_settles, gate_is_shut, all_are_closed}

pub no_answer : {W F : Type 0} (X : Type 0) (answer : Result W F) → IsErr answer → OnOk answer X
no_answer X (Ok value) failed = absurd (false_not_true failed)
no_answer X (Err fault) failed = tt

-- how many commit stamps are greater than the last one
abbrev pub stamps_left : Option ℕ → ℕ
stamps_left None = 2 ^ 64
stamps_left (Some last) = 2 ^ 64 - 1 - last

pub less_left : (last : Option ℕ) (stamp : ℕ) → stamp < 2 ^ 64 → is_above last stamp ≡ true → stamps_left (Some stamp) < stamps_left last
less_left None stamp fits above = omega arith
less_left (Some before) stamp fits above = lower before stamp (lt_of before stamp above) fits
  where
    lt_of : (a b : ℕ) → nat_lt a b ≡ true → a < b
    lt_of a b less = grind (arith, nat_tests)

    lower : (a b : ℕ) → a < b → b < 2 ^ 64 → 2 ^ 64 - 1 - b < 2 ^ 64 - 1 - a
    lower a b less fits = omega arith

goes_on_telling : (old new : View) → TellsAlike old new → GoesOnTelling old new
goes_on_telling old new alike content told = go new.content refl
  where
    go : (o : Option (List ℕ)) → new.content ≡ o → (now : List ℕ) × (new.content ≡ Some now)
    go (Some now) is = (now, is)
    go None is = absurd (let never : false ≡ true = sym (ap is_some is) ∙ alike ∙ ap is_some told in cc)

module _ (layout : Layout) (parts : ℕ → Part) (found : List OpenSlot) (last : Option ℕ) (place : ℕ) (one : OpenSlot) (within : one.number < slot_count layout)
    (oldest : IsOldestAbove found (length found) last place one) (old new : View) (lawful : IsLawful old)
    (large : slot_byte layout one.number + 1 ≤ 4096 * old.size)
    (torn : TearsOnly (slot_byte layout one.number) 1 old new) (tells : TellsAlike old new) (to : EachLeft old (IsToBeClosed layout parts found last)) where
  abbrev spot : Place
  spot = record { layout = layout; slot = one.number }

  closed_now : Puts (slot_byte layout one.number) (0 ∷ []) old new → EachLeft new (IsToBeClosed layout parts found (Some one.stamp))
  closed_now puts content told image left =
      let p = put_told (gate_piece spot 0) old.content new.content content puts.content told in
      let sole = subst (λ (t : Option (List ℕ)). OnlyTold t (images new)) told puts.only in
      let is : image ≡ content = sole image left in
      let same = subst (λ (l : List ℕ). SameOutside (slot_byte layout one.number) 1 p.0 l) (sym (is ∙ p.2))
      (SameOutside-put (slot_byte layout one.number) (0 ∷ []) p.0 (omega (arith, lawful.whole p.0 p.1))) in
      let stands = written_stands (gate_piece spot 0) old new large lawful puts.content content told in
      let gate = gate_put spot 0 content stands in
      let shut : (head_of (part 0 4096 (journal_slot layout image one.number))).gate ≡ false =
      ap (λ (l : List ℕ). (head_of (part 0 4096 (journal_slot layout l one.number))).gate) is ∙ gate in
      gate_is_shut layout parts found last place one within oldest p.0 image (to p.0 p.1 p.0 (lawful.read_is_left p.0 p.1)) same shut

  pub slot_closes : {V E : Type 0} (result : Result V E) → OnOk result (Puts (slot_byte layout one.number) (0 ∷ []) old new)
      → ClosesUpTo layout parts found (Some one.stamp) old new result
  slot_closes result puts = record {
    told = goes_on_telling old new tells;
    later = λ content told counts k image from up left.
        let was = torn content told counts k image from up left in
        written_settles layout parts found last place one within oldest was.0 image (to content told was.0 was.1) was.2;
    closed = on_ok_weaker result closed_now puts;
  }

-- before the first closing
pub none_closed : (layout : Layout) (parts : ℕ → Part) (found : List OpenSlot) (disk : View) → EachLeft disk (IsToBeClosed layout parts found None)
    → ClosesSoFar layout parts found None disk disk
none_closed layout parts found disk to = record {
  told = λ content told. (content, told);
  later = λ content told counts k image from up left. absurd (omega arith);
  closed = to;
}

module _ (layout : Layout) (parts : ℕ → Part) (found : List OpenSlot) (last next : Option ℕ) (old mid new : View) (goes : Advances mid new)
    (before : ClosesSoFar layout parts found last old mid) where
  -- one closing more
  pub one_more_closed : {V E : Type 0} (value : V) → ClosesUpTo layout parts found next mid new (answered {V = V} {F = E} value)
      → ClosesSoFar layout parts found next old new
  one_more_closed value run = record {
    told = telling_trans old mid new before.told run.told;
    later = later_trans (λ _ image. SettlesAs layout parts image) old mid new before.told goes before.later run.later;
    closed = run.closed;
  }

  -- one that failed
  pub closing_failed : {V W E F : Type 0} (result : Result V E) (answer : Result W F) → IsErr answer → ClosesUpTo layout parts found next mid new result
      → ClosesAll layout parts old new answer
  closing_failed result answer failed run = record {
    told = telling_trans old mid new before.told run.told;
    later = later_trans (λ _ image. SettlesAs layout parts image) old mid new before.told goes before.later run.later;
    closed = no_answer _ answer failed;
  }

-- all are closed
pub closings_end : {V E : Type 0} (layout : Layout) (parts : ℕ → Part) (found : List OpenSlot) (last : Option ℕ) (old new : View) (value : V)
    → HasNoneAbove found (length found) last
    → ClosesSoFar layout parts found last old new → ClosesAll layout parts old new (answered {V = V} {F = E} value)
closings_end layout parts found last old new value none so_far = record {
  told = so_far.told;
  later = so_far.later;
  closed = λ content told image left. all_are_closed layout parts found last image none (so_far.closed content told image left);
}
