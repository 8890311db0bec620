-- What a commit that frees inodes leaves.
use Rattle.std.proofs.Common.{◌≡◌, ◌⊎◌, ℕ, ◌<◌, Bool, List, [], ◌∷◌, map, get_or, Result, OnOk, refl, sym, ap₂, subst, arith, inl, inr}
use Rattle.std.specs.Prelude.{All}
use Rattle.std.specs.List.{range_with_len, filter}
use Rattle.std.proofs.lemmas.Bool.{cases_lt}
use Rattle.std.proofs.lemmas.List.{length-map, get_or-map}
use Rattle.std.proofs.lemmas.List.Elements.{All-from_get_or}
use Rattle.sfs_image.specs.ImageOf.{InodePart, TurnsInto, PointsToData, IsImageOf}
use Rattle.sfs_image.specs.Journal.{Entry}
use Rattle.sfs_image.specs.Part.{Part}
use Rattle.sfs_image.specs.Super.{Layout}
use Rattle.sfs_dev.specs.Disk.{View}
use Rattle.journal_one.specs.Job.{Place, Job}
use Rattle.journal_one.specs.Known.{EachLeft}
use Rattle.journal_one.specs.Packed.{Contents}
use Rattle.commit_one.specs.Carried.{Carries, IsMomentOf, durable_at}
use Rattle.commit_one.specs.Change.{nothing_open, entry_of_part, opened_by, IsBefore, IsByItsSlot, IsAfter, IsChangeOf, job_for}
use Rattle.commit_one.proofs.Images.{own_part}
use Rattle.recovery.specs.Freed.{free_entry, freed_part, freeing, freed_by, FreesUnlinked}
use Rattle.recovery.specs.Recovering.{SettlesAs}
use Rattle.recovery.proofs.BegunFrom.{settled_again, stands_settled}
use Rattle.recovery.proofs.FreePart.{free_raw, turns_free, free_points_to_data}

-- the commit that frees inodes through the first slot
abbrev pub freeing_job : Layout → List ℕ → Job
freeing_job layout inodes = record { place = record { layout = layout; slot = 0 }; stamp = 1; entries = map free_entry inodes; fresh = [] }

entries_of_free : (inodes : List ℕ) → map entry_of_part (map freed_part inodes) ≡ map free_entry inodes
entries_of_free [] = refl
entries_of_free (inode ∷ rest) = ap₂ (λ (e : Entry) (l : List Entry). e ∷ l) (λ i. record { inode = inode; bytes = free_raw i }) (entries_of_free rest)

all_freed : (P : InodePart → Type 0) → ((inode : ℕ) → P (freed_part inode)) → (inodes : List ℕ) → All P (map freed_part inodes)
all_freed P each inodes = All-from_get_or P (map freed_part inodes) (freed_part 0) (λ k low.
    subst P (sym (get_or-map freed_part inodes k 0 (freed_part 0) (subst (λ n. k < n) (length-map inodes freed_part) low))) (each (get_or inodes k 0)))

is_change : (layout : Layout) (inodes : List ℕ) (parts : ℕ → Part) → IsChangeOf (freeing_job layout inodes) parts (map freed_part inodes)
is_change layout inodes parts = record {
  records = entries_of_free inodes;
  turns = all_freed (λ (own : InodePart). TurnsInto [] (parts own.inode) own.part) (λ inode. turns_free [] (parts inode)) inodes;
  pointers = all_freed (λ (own : InodePart). PointsToData layout own.part) (λ inode. free_points_to_data layout) inodes;
  own = λ j k low high same. absurd (omega arith);
  free = λ i place k low high. absurd (omega arith);
}

module _ (layout : Layout) (n : ℕ) (test : ℕ → Bool) (parts : ℕ → Part) where
  abbrev inodes : List ℕ
  inodes = filter test (range_with_len 0 n)

  abbrev job : Job
  job = freeing_job layout inodes

  abbrev new : List InodePart
  new = map freed_part inodes

  before_settles : (image : List ℕ) → IsBefore job parts image → SettlesAs layout parts image
  before_settles image stands = record { opened = nothing_open; stands = stands; same = own_part job parts }

  slot_settles : (image : List ℕ) → IsByItsSlot job parts new image → SettlesAs layout (freed_by layout test n parts) image
  slot_settles image stands = record {
    opened = opened_by job new;
    stands = stands_settled layout (opened_by job new) parts image stands;
    same = settled_again layout (opened_by job new) parts;
  }

  after_settles : (image : List ℕ) → IsAfter job parts new image → SettlesAs layout (freed_by layout test n parts) image
  after_settles image stands = record { opened = nothing_open; stands = stands; same = own_part job (freed_by layout test n parts) }

  moment_settles : (began k : ℕ) (image : List ℕ) → IsMomentOf job parts new began k image
      → SettlesAs layout parts image ⊎ SettlesAs layout (freed_by layout test n parts) image
  moment_settles began k image is = elim (cases_lt (durable_at began job) k) [
    | inl late ↦ inr (elim (is.durable late) [ inl slot ↦ slot_settles image slot | inr after ↦ after_settles image after ])
    | inr early ↦ elim (is.opening early) [ inl before ↦ inl (before_settles image before) | inr slot ↦ inr (slot_settles image slot) ]
  ]

  pub carried_frees : {V E W F : Type 0} (old now : View) (result : Result V E) (answer : Result W F)
      → Carries job parts new old now result → (OnOk result (EachLeft now (IsAfter job parts new)) → OnOk answer (EachLeft now (IsAfter job parts new)))
      → FreesUnlinked layout parts (freed_by layout test n parts) old now answer
  carried_frees old now result answer carries ends = record {
    told = carries.told;
    later =
        λ content told counts k image from up left. moment_settles old.now k image
        (carries.each_moment content told counts k image (omega (arith, from)) up left);
    ended = ends carries.ended;
  }

  module _ (place : Place) (packed : Contents) (layout_is : place.layout ≡ layout) (slot_is : place.slot ≡ 0) (packed_is : packed ≡ freeing inodes) where
    job_is : job_for place packed 1 ≡ job
    job_is = ap₂ (λ (p : Place) (contents : Contents). job_for p contents 1) (λ i. record { layout = layout_is i; slot = slot_is i }) packed_is

    pub commit_frees : {V E W F : Type 0} (old now : View) (result : Result V E) (answer : Result W F)
        → ((parts : ℕ → Part) (new : List InodePart) → IsChangeOf (job_for place packed 1) parts new → EachLeft old (IsBefore (job_for place packed 1) parts)
        → Carries (job_for place packed 1) parts new old now result)
        → EachLeft old (IsImageOf layout nothing_open parts)
        → (OnOk result (EachLeft now (IsAfter job parts new)) → OnOk answer (EachLeft now (IsAfter job parts new)))
        → FreesUnlinked layout parts (freed_by layout test n parts) old now answer
    commit_frees old now result answer carried before ends =
        let change = subst (λ (j : Job). IsChangeOf j parts new) (sym job_is) (is_change layout inodes parts) in
        let stands = subst (λ (j : Job). EachLeft old (IsBefore j parts)) (sym job_is) before in
        carried_frees old now result answer (subst (λ (j : Job). Carries j parts new old now result) job_is (carried parts new change stands)) ends
