-- The least free inodes of a right map are those that the books say that are reserved.
use Rattle.std.proofs.Common.{◌≡◌, ◌≢◌, ℕ, suc, ◌+◌, ◌-◌, ◌<◌, ◌≤◌, ◌^◌, Bool, true, false, cond, List, [], ◌∷◌, length, get_or, take, filter, map, Some, None, inl, inr, refl, sym, ap, subst, ◌∙◌, arith, leb, count_by, Contains}
use Rattle.std.specs.Prelude.{◌↔◌, slice_get}
use Rattle.std.specs.List.{range_with_len}
use Rattle.std.proofs.lemmas.Bool.{cases_Bool, cases_lt, leb-true, eqb-false}
use Rattle.std.proofs.lemmas.List.{take_all}
use Rattle.std.proofs.lemmas.Option.{slice_get_within}
use Rattle.sfs_base.proofs.BasicNumbers.{not_same, plus_zero}
use Rattle.sfs_base.proofs.BasicOptions.{none_some, some_same}
use Rattle.sfs_base.proofs.BasicTruth.{and_true}
use Rattle.sfs_image.specs.Seen.{SeenInodes}
use Rattle.tree_laws.specs.Tree.{kind_of}
use Rattle.image_laws.specs.Image.{inodes_shown}
use Rattle.image_laws.proofs.Standing.{not_used}
use Rattle.space_map.specs.Pool.{Pool, status_of, is_free, free_from, free_numbers}
use Rattle.space_map.specs.Space.{Space}
use Rattle.space_map.specs.declared.status.Status.{Status}
use Rattle.space_map.specs.declared.status.Status.TheVariants.{Free, Taken, Granted}
use Rattle.space_map.proofs.Changes.{status_of-here}
use Rattle.disk_change.specs.GivenUp.{entry_number}
use Rattle.disk_change.specs.Planned.{as_u32, enters}
use Rattle.disk_nodes.specs.declared.old.OldEntry.{OldEntry}
use Rattle.commit_laws.specs.CommitOfPlan.{change_planned}
use Rattle.commit_laws.proofs.OwnInodes.{mapped_is_in}
use Rattle.commit_laws.proofs.SeatsOfPlan.{in_mapped}
use Rattle.cut_laws.specs.Cut.{tree_at_cut}
use Rattle.flush_laws.specs.Ready.{IsBetweenCommits, KeepsEntries}
use Rattle.turn_laws.specs.Books.{least_open}
use Rattle.turn_laws.specs.Need.{is_unused}
use Rattle.space_laws.proofs.Counted.{inodes_tell}
use Rattle.space_laws.specs.Map.{IsRowOf}
use Rattle.flush_laws.specs.Volume.{Volume}
use Rattle.turn_ties.specs.Laws.{GrantsAreTheLeast}
use Rattle.turn_ties.specs.Plans.{IsRestingMap, books_of_rest}
use Rattle.turn_ties.proofs.Needs.{inodes_needed}

-- the free numbers of a row are those of its range that pass a test which tells the free ones
free_are_those : (test : ℕ → Bool) (a : ℕ) (statuses : List Status) → ((k : ℕ) → k < length statuses → is_free (get_or statuses k Taken) ≡ test (a + k))
    → free_from a statuses ≡ filter test (range_with_len a (length statuses))
free_are_those test a [] agree = refl
free_are_those test a (status ∷ statuses) agree =
    step (free_are_those test (a + 1) statuses (λ k low. agree (suc k) (omega (arith, low)) ∙ ap test (moved k)))
    (agree 0 (omega arith) ∙ ap test (plus_zero a))
  where
    moved : (k : ℕ) → a + suc k ≡ a + 1 + k
    moved k = omega arith

    step : free_from (a + 1) statuses ≡ filter test (range_with_len (a + 1) (length statuses)) → is_free status ≡ test a
        → free_from a (status ∷ statuses) ≡ filter test (range_with_len a (suc (length statuses)))
    step rest same = λ i. cond (same i) (a ∷ rest i) (rest i)

few_free : (a : ℕ) (statuses : List Status) → length (free_from a statuses) ≤ length statuses
few_free a [] = omega arith
few_free a (status ∷ statuses) = by (is_free status) (few_free (a + 1) statuses)
  where
    by : (b : Bool) → length (free_from (a + 1) statuses) ≤ length statuses
        → length (cond b (a ∷ free_from (a + 1) statuses) (free_from (a + 1) statuses)) ≤ suc (length statuses)
    by true rest = omega (arith, rest)
    by false rest = omega (arith, rest)

-- a row of the numbers below a count
module _ (count : ℕ) (held : ℕ → Type 0) (pool : Pool) (row : IsRowOf 0 count held pool) (some : 0 < count) where
  inside_row : (number : ℕ) (status : Status) → status_of pool number ≡ Some status → (pool.first ≤ number) × (number - pool.first < length pool.statuses)
  inside_row number status has = by (leb pool.first number) refl has
    where
      by : (b : Bool) → leb pool.first number ≡ b → cond b (slice_get pool.statuses (number - pool.first)) None ≡ Some status
          → (pool.first ≤ number) × (number - pool.first < length pool.statuses)
      by true e is = (leb-true pool.first number e, slice_get_within pool.statuses (number - pool.first) status is)
      by false e is = absurd (none_some is)

  begins : pool.first ≡ 0
  begins = let low = row.all 0 (omega arith) some in let begin = inside_row 0 low.0 low.1 in omega (arith, begin)

  here : (n : ℕ) → n < length pool.statuses → status_of pool n ≡ Some (get_or pool.statuses n Taken)
  here n inside = ap (status_of pool) at ∙ status_of-here pool n Taken inside
    where
      at : n ≡ pool.first + n
      at = let begin = begins in omega (arith, begin)

  long : length pool.statuses ≡ count
  long =
      let high = row.all (count - 1) (omega arith) (omega (arith, some)) in
      let last = inside_row (count - 1) high.0 high.1 in
      let begin = begins in
      let final = row.within (length pool.statuses - 1) (get_or pool.statuses (length pool.statuses - 1) Taken)
      (here (length pool.statuses - 1) (omega (arith, last, begin))) in
      omega (arith, last, begin, final, some)

  -- has as free numbers those that are not held
  pub free_numbers_are : (test : ℕ → Bool) → ((number : ℕ) → status_of pool number ≢ Some Granted)
      → ((number : ℕ) → number < count → (test number ≡ false) ↔ held number)
      → free_numbers pool ≡ filter test (range_with_len 0 count)
  free_numbers_are test none_granted tells =
      ap (λ a. free_from a pool.statuses) begins ∙ free_are_those test 0 pool.statuses agrees ∙ ap (λ n. filter test (range_with_len 0 n)) long
    where
      agrees : (k : ℕ) → k < length pool.statuses → is_free (get_or pool.statuses k Taken) ≡ test (0 + k)
      agrees k inside = by (get_or pool.statuses k Taken) (here k inside) ∙ ap test (again k)
        where
          again : (k : ℕ) → k ≡ 0 + k
          again k = omega arith

          low : k < count
          low = let all = long in omega (arith, inside, all)

          by : (status : Status) → status_of pool k ≡ Some status → is_free status ≡ test k
          by Granted has = absurd (none_granted k has)
          by Taken has = sym ((tells k low).1 (row.taken_is_held k has))
          by Free has = elim (cases_Bool (test k)) [
            | inl t ↦ sym t
            | inr f ↦ absurd (let never : Free ≡ Taken = row.held_is_taken k Free has ((tells k low).0 f) in cc)
          ]

  pub few_numbers : length (free_numbers pool) ≤ count
  few_numbers = let all = few_free pool.first pool.statuses in let whole = long in omega (arith, all, whole)

-- as many of a short list as 32 bits have room for are as many as are asked
take_as_u32 : (n : ℕ) (numbers : List ℕ) → length numbers ≤ 2 ^ 32 - 1 → take (as_u32 n) numbers ≡ take n numbers
take_as_u32 n numbers few = elim (cases_lt n (2 ^ 32 - 1)) [
  | inl low ↦ ap (λ k. take k numbers) (let same : as_u32 n ≡ n = omega (arith, low) in same)
  | inr high ↦ take_all (as_u32 n) numbers (omega (arith, few, high)) ∙ sym (take_all n numbers (omega (arith, few, high)))
]

module _ (volume : Volume) (entries : List OldEntry) (space : Space) (ready : IsBetweenCommits volume)
    (keeps : KeepsEntries volume.num volume.parts entries) (resting : IsRestingMap volume entries space) where
  abbrev image : SeenInodes
  image = inodes_shown volume.layout volume.parts

  pub some_inodes : 0 < volume.layout.inodes
  some_inodes = let some = ready.sound.ranges.inodes_low in omega (arith, some)

  -- the free inodes of the map are those that are open in the books
  pub free_are_open : (used : List ℕ) (n : ℕ) → take (as_u32 n) (free_numbers space.inodes) ≡ least_open (books_of_rest volume used) n
  free_are_open used n =
      take_as_u32 n (free_numbers space.inodes) few
      ∙ ap (take n) (free_numbers_are volume.layout.inodes (Contains (map entry_number entries)) space.inodes resting.right.inodes some_inodes (is_unused image)
      resting.none.inodes (inodes_tell volume entries ready keeps))
      ∙ (λ i. take n (filter (λ k. sym (and_true (is_unused image k)) i) (range_with_len 0 volume.layout.inodes)))
    where
      few : length (free_numbers space.inodes) ≤ 2 ^ 32 - 1
      few =
          let all = few_numbers volume.layout.inodes (Contains (map entry_number entries)) space.inodes resting.right.inodes some_inodes in
          let range = ready.sound.ranges.inodes_high in
          omega (arith, all, range)

pub grants_are_the_least : GrantsAreTheLeast
grants_are_the_least volume used planning space is resting =
    free_are_open volume planning.entries space is.stands.between is.keeps resting used (count_by enters (change_planned planning.plan).seats)
    ∙ ap (least_open (books_of_rest volume used)) (sym (inodes_needed volume used planning is))
