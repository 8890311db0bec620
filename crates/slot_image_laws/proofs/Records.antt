-- A commit has a record of each inode that it gives a part.
use Rattle.std.proofs.Common.{◌≡◌, ◌<◌, ◌∷◌, ◌∙◌, ◌≢◌, List, ℕ, find, nat_eq, Some, length, map, slice_index_or, [], refl, Bool, true, arith, eqb-true, false, sym, ap, cond, suc, subst, None, get_or, zero}
use Rattle.sfs_base.proofs.BasicTruth.{not_both}
use Rattle.sfs_base.proofs.BasicNumbers.{same_number}
use Rattle.sfs_image.specs.ImageOf.{InodePart}
use Rattle.sfs_image.specs.Part.{Part}
use Rattle.sfs_image.specs.Journal.{Entry}
use Rattle.sfs_image.proofs.GivenLaws.{given_from}
use Rattle.journal_one.specs.Job.{no_entry}
use Rattle.commit_one.specs.Change.{entry_of_part}
use Rattle.slot_laws.specs.Slots.{SlotWork}
use Rattle.slot_laws.specs.Rules.{HasRecordOf}
use Rattle.slot_laws.specs.Rings.{ShareInode}
use Rattle.slot_laws.proofs.Basics.{none_there}
use Rattle.slot_image_laws.specs.Commits.{GivesPart, work_transaction}

recorded : (parts : List InodePart) (i : ℕ) (inner : InodePart) → find (λ own. nat_eq own.inode i) parts ≡ Some inner
    → (n : ℕ) × (n < length (map entry_of_part parts)) × ((slice_index_or (map entry_of_part parts) n no_entry).inode ≡ i)
recorded [] i inner found = none_there found
recorded (own ∷ parts) i inner found = by (nat_eq own.inode i) refl (recorded parts i inner)
  where
    by : (b : Bool) → nat_eq own.inode i ≡ b
        → (find (λ own. nat_eq own.inode i) parts ≡ Some inner
        → (n : ℕ) × (n < length (map entry_of_part parts)) × ((slice_index_or (map entry_of_part parts) n no_entry).inode ≡ i))
        → (n : ℕ) × (n < length (map entry_of_part (own ∷ parts))) × ((slice_index_or (map entry_of_part (own ∷ parts)) n no_entry).inode ≡ i)
    by true same rest = (0, omega arith, eqb-true own.inode i same)
    by false away rest =
        let later = rest (sym (ap (λ (b : Bool). cond b (Some own) (find (λ own. nat_eq own.inode i) parts)) away) ∙ found) in
        let low = later.1 in
        (suc later.0, omega arith, later.2)

pub record_of_given : (gives : ℕ → List InodePart) (work : SlotWork) (i : ℕ) (part : Part) → map entry_of_part (gives work.commit) ≡ work.job.entries
    → GivesPart gives work i part → HasRecordOf work.job i
record_of_given gives work i part records given =
    let from = given_from i (work_transaction gives work) (record { stamp = work.job.stamp; value = part }) given in
    subst (λ (entries : List Entry). (n : ℕ) × (n < length entries) × ((slice_index_or entries n no_entry).inode ≡ i)) records
    (recorded (gives work.commit) i from.0 from.1)

-- two commits share an inode that both give
pub share_given : (gives : ℕ → List InodePart) (one other : SlotWork) (i : ℕ) (part part_too : Part)
    → map entry_of_part (gives one.commit) ≡ one.job.entries → map entry_of_part (gives other.commit) ≡ other.job.entries
    → GivesPart gives one i part → GivesPart gives other i part_too → ShareInode one.job other.job
share_given gives one other i part part_too records records_too given given_too =
    let own = record_of_given gives one i part records given in
    let its = record_of_given gives other i part_too records_too given_too in
    (own.0, own.1, subst (HasRecordOf other.job) (sym own.2) its)

-- where no part of an inode is found, none has the inode
pub no_record : (parts : List InodePart) (i n : ℕ) (none : InodePart) → find (λ own. nat_eq own.inode i) parts ≡ None → n < length parts
    → (get_or parts n none).inode ≢ i
no_record [] i n none nothing low = absurd (omega arith)
no_record (own ∷ parts) i n none nothing low = by (nat_eq own.inode i) refl (λ m. no_record parts i m none)
  where
    rest : (b : Bool) → nat_eq own.inode i ≡ b → b ≡ false → find (λ own. nat_eq own.inode i) parts ≡ None
    rest b is away = sym (ap (λ (b : Bool). cond b (Some own) (find (λ own. nat_eq own.inode i) parts)) (is ∙ away)) ∙ nothing

    at : ((m : ℕ) → find (λ own. nat_eq own.inode i) parts ≡ None → m < length parts → (get_or parts m none).inode ≢ i)
        → (m : ℕ) → m < length (own ∷ parts) → nat_eq own.inode i ≡ false → (get_or (own ∷ parts) m none).inode ≢ i
    at others zero lower away same = not_both (ap (λ (k : ℕ). nat_eq k i) same ∙ same_number i) away
    at others (suc m) lower away same = others m (rest false away refl) (omega arith) same

    by : (b : Bool) → nat_eq own.inode i ≡ b
        → ((m : ℕ) → find (λ own. nat_eq own.inode i) parts ≡ None → m < length parts → (get_or parts m none).inode ≢ i)
        → (get_or (own ∷ parts) n none).inode ≢ i
    by true same others = absurd (none_there (sym nothing ∙ ap (λ (b : Bool). cond b (Some own) (find (λ own. nat_eq own.inode i) parts)) same))
    by false away others = at others n low away
