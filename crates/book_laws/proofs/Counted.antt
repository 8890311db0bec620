-- A right map with grants out counts what the books have free.
use Rattle.std.specs.Prelude.{◌↔◌, slice_get}
use Rattle.std.specs.List.{range_with_len}
use Rattle.std.proofs.Common.{◌≡◌, ◌≢◌, ◌+◌, ◌-◌, ◌<◌, ◌≤◌, ◌^◌, ◌&&◌, ◌∷◌, ◌⊎◌, ◌∙◌, ℕ, Bool, true, false, cond, not, List, [], length, take, filter, map, count_by, Option, Some, None, option_map, inl, inr, refl, sym, ap, leb, arith, Contains}
use Rattle.std.proofs.lemmas.Bool.{cases_Bool, cases_lt}
use Rattle.std.proofs.lemmas.List.{take_all}
use Rattle.std.proofs.lemmas.List.Sums.{sum_by-cons}
use Rattle.std.proofs.lemmas.Option.{slice_get-map}
use Rattle.sfs_base.specs.Listed.{is_listed}
use Rattle.sfs_base.proofs.BasicNumbers.{zero_plus}
use Rattle.sfs_base.proofs.BasicOptions.{none_some, some_same}
use Rattle.sfs_base.proofs.BasicTruth.{and_false}
use Rattle.sfs_image.specs.Seen.{SeenInodes}
use Rattle.sfs_image.specs.Super.{data_start}
use Rattle.space_map.specs.Pool.{Pool, status_of, is_free, free_count, free_from, free_numbers}
use Rattle.space_map.specs.Space.{Space}
use Rattle.space_map.specs.declared.status.Status.{Status}
use Rattle.space_map.specs.declared.status.Status.TheVariants.{Free, Taken, Granted}
use Rattle.image_laws.specs.Image.{inodes_shown}
use Rattle.image_laws.specs.Need.{rank}
use Rattle.disk_change.specs.GivenUp.{IsLeftByGone, entry_number}
use Rattle.disk_change.specs.Planned.{as_u32}
use Rattle.turn_laws.specs.Books.{free_in, least_open}
use Rattle.turn_laws.specs.Need.{is_unused, is_held_in, free_inodes, free_blocks}
use Rattle.turn_laws.proofs.ListedNeeds.{rank_agrees}
use Rattle.space_laws.specs.Map.{IsRowOf}
use Rattle.space_laws.proofs.Counted.{counts_free, inodes_tell, blocks_tell}
use Rattle.turn_ties.specs.Plans.{image_held}
use Rattle.turn_ties.proofs.Least.{free_numbers_are, few_numbers}
use Rattle.book_laws.specs.MapLaws.{MapsCountBooks}
use Rattle.book_laws.specs.Out.{Beside, inodes_out, blocks_out, ListsGranted, IsMapWithOut, books_out}
use Rattle.book_laws.proofs.Outs.{left_by, rank_left, inodes_reserved, blocks_reserved, listed_out}

-- a granted number as one that is taken
abbrev as_taken : Status → Status
as_taken Free = Free
as_taken Taken = Taken
as_taken Granted = Taken

-- a row in which all that is granted is taken
abbrev all_taken : Pool → Pool
all_taken pool = record { first = pool.first; statuses = map as_taken pool.statuses }

free_as_taken : (status : Status) → is_free (as_taken status) ≡ is_free status
free_as_taken Free = refl
free_as_taken Taken = refl
free_as_taken Granted = refl

same_count : (statuses : List Status) → count_by is_free (map as_taken statuses) ≡ count_by is_free statuses
same_count [] = refl
same_count (status ∷ statuses) =
    sum_by-cons (λ (s : Status). cond (is_free s) 1 0) (as_taken status) (map as_taken statuses)
    ∙ (λ i. cond (free_as_taken status i) 1 0 + same_count statuses i)
    ∙ sym (sum_by-cons (λ (s : Status). cond (is_free s) 1 0) status statuses)

same_numbers : (a : ℕ) (statuses : List Status) → free_from a (map as_taken statuses) ≡ free_from a statuses
same_numbers a [] = refl
same_numbers a (status ∷ statuses) =
    λ i. cond (free_as_taken status i) (a ∷ same_numbers (a + 1) statuses i) (same_numbers (a + 1) statuses i)

taken_status : (pool : Pool) (number : ℕ) → status_of (all_taken pool) number ≡ option_map as_taken (status_of pool number)
taken_status pool number = by (leb pool.first number)
  where
    by : (b : Bool) → cond b (slice_get (map as_taken pool.statuses) (number - pool.first)) None
        ≡ option_map as_taken (cond b (slice_get pool.statuses (number - pool.first)) None)
    by true = slice_get-map as_taken pool.statuses (number - pool.first)
    by false = refl

-- a number that becomes this status, and what it was
status_before : (o : Option Status) (status : Status) → option_map as_taken o ≡ Some status → (was : Status) × (o ≡ Some was) × (as_taken was ≡ status)
status_before (Some was) status is = (was, refl, some_same is)
status_before None status is = absurd (none_some is)

-- a right row of which these numbers are granted
module _ (first end : ℕ) (held : ℕ → Type 0) (pool : Pool) (numbers : List ℕ) (row : IsRowOf first end held pool) (lists : ListsGranted pool numbers) where
  abbrev held_too : ℕ → Type 0
  held_too number = held number ⊎ (is_listed numbers number ≡ true)

  -- is right with those held too
  right_too : IsRowOf first end held_too (all_taken pool)
  right_too = record {
    all = λ number low high. let there = row.all number low high in (as_taken there.0, taken_status pool number ∙ ap (option_map as_taken) there.1);
    within = λ number status has.
        let was = status_before (status_of pool number) status (sym (taken_status pool number) ∙ has) in row.within number was.0 was.1;
    held_is_taken = λ number status has holds.
        let was = status_before (status_of pool number) status (sym (taken_status pool number) ∙ has) in
        sym was.2 ∙ elim holds [
          | inl held_there ↦ ap as_taken (row.held_is_taken number was.0 was.1 held_there)
          | inr listed ↦ ap as_taken (some_same (sym was.1 ∙ (lists.each number).1 listed))
        ];
    taken_is_held = λ number has.
        let was = status_before (status_of pool number) Taken (sym (taken_status pool number) ∙ has) in by number was.0 was.1 was.2;
  }
    where
      by : (number : ℕ) (was : Status) → status_of pool number ≡ Some was → as_taken was ≡ Taken → held_too number
      by number Free is same = absurd (let never : Free ≡ Taken = same in cc)
      by number Taken is same = inl (row.taken_is_held number is)
      by number Granted is same = inr ((lists.each number).0 is)

  none_granted : (number : ℕ) → status_of (all_taken pool) number ≢ Some Granted
  none_granted number has = let was = status_before (status_of pool number) Granted (sym (taken_status pool number) ∙ has) in never was.0 was.2
    where
      never : (was : Status) → as_taken was ≡ Granted → ⊥
      never Free same = cc
      never Taken same = cc
      never Granted same = cc

  -- a granted number lies in the range, and is not held
  granted_within : (number : ℕ) → is_listed numbers number ≡ true → (first ≤ number) × (number < end)
  granted_within number listed = row.within number Granted ((lists.each number).1 listed)

  granted_not_held : (number : ℕ) → is_listed numbers number ≡ true → held number → ⊥
  granted_not_held number listed holds = let never : Granted ≡ Taken = row.held_is_taken number Granted ((lists.each number).1 listed) holds in cc

  module _ (free : ℕ → Bool) (tells : (number : ℕ) → first ≤ number → number < end → (free number ≡ false) ↔ held number) where
    tells_too : (number : ℕ) → first ≤ number → number < end → (left_by free numbers number ≡ false) ↔ held_too number
    tells_too number low high = (λ e. found (free number) (is_listed numbers number) refl refl e, back)
      where
        found : (b c : Bool) → free number ≡ b → is_listed numbers number ≡ c → (b && not c) ≡ false → held_too number
        found false c f l e = inl ((tells number low high).0 f)
        found true true f l e = inr l
        found true false f l e = absurd (let never : true ≡ false = e in cc)

        back : held_too number → left_by free numbers number ≡ false
        back (inl holds) = ap (λ b. b && not (is_listed numbers number)) ((tells number low high).1 holds)
        back (inr listed) = ap (λ b. free number && not b) listed ∙ and_false (free number)

    -- so it counts the numbers that are not held, without those that are granted
    pub counts_left : free_count pool ≡ rank (λ n. free (first + n)) (end - first) - length numbers
    counts_left =
        let count : free_count pool ≡ rank (λ n. left_by free numbers (first + n)) (end - first) =
        sym (same_count pool.statuses) ∙ counts_free first end held_too (all_taken pool) right_too (left_by free numbers) none_granted tells_too in
        let left = rank_left free first (end - first) numbers lists.once (λ number listed.
        let span = granted_within number listed in (span.0, omega (arith, span), passes number listed (span.0) (span.1))) in
        omega (arith, count, left)
      where
        passes : (number : ℕ) → is_listed numbers number ≡ true → first ≤ number → number < end → free number ≡ true
        passes number listed low high = elim (cases_Bool (free number)) [
          | inl t ↦ t
          | inr f ↦ absurd (granted_not_held number listed ((tells number low high).0 f))
        ]

module _ (beside : Beside) (space : Space) (is : IsMapWithOut beside space) where
  abbrev image : SeenInodes
  image = inodes_shown beside.volume.layout beside.volume.parts

  some_inodes : 0 < beside.volume.layout.inodes
  some_inodes = let some = is.stands.between.sound.ranges.inodes_low in omega (arith, some)

  inodes_left : free_count space.inodes ≡ (free_in (books_out beside)).inodes
  inodes_left =
      counts_left 0 beside.volume.layout.inodes (Contains (map entry_number beside.entries)) space.inodes (inodes_out beside.outs) is.right.inodes is.are_out.inodes
      (is_unused image) (λ i low high. inodes_tell beside.volume beside.entries is.stands.between is.keeps i high)
      ∙ (λ i. whole i - sym (inodes_reserved beside.outs) i)
    where
      whole : rank (λ n. is_unused image (0 + n)) (beside.volume.layout.inodes - 0) ≡ free_inodes (image_held beside.volume)
      whole =
          rank_agrees (λ n. is_unused image (0 + n)) (is_unused image) (beside.volume.layout.inodes - 0) (λ k low. ap (is_unused image) (zero_plus k))
          ∙ ap (rank (is_unused image)) (let all : beside.volume.layout.inodes - 0 ≡ beside.volume.layout.inodes = omega arith in all)

  blocks_left : free_count space.blocks ≡ (free_in (books_out beside)).blocks
  blocks_left =
      counts_left (data_start beside.volume.layout) beside.volume.layout.blocks (IsLeftByGone beside.entries) space.blocks (blocks_out beside.outs) is.right.blocks is.are_out.blocks
      (λ block. not (is_held_in image block)) (λ block low high. blocks_tell beside.volume beside.entries is.stands.between is.keeps block low)
      ∙ ap (λ n. free_blocks (image_held beside.volume) - n) (sym (blocks_reserved beside.outs))

  pub few_inodes : length (free_numbers space.inodes) ≤ 16384
  few_inodes =
      let all = few_numbers beside.volume.layout.inodes (Contains (map entry_number beside.entries)) space.inodes is.right.inodes some_inodes in
      let range = is.stands.between.sound.ranges.inodes_high in
      omega (arith, all, range)

  least_left : (n : ℕ) → take (as_u32 n) (free_numbers space.inodes) ≡ least_open (books_out beside) n
  least_left n =
      take_few n (free_numbers space.inodes) few_inodes
      ∙ ap (take n) (sym (same_numbers space.inodes.first space.inodes.statuses)
      ∙ free_numbers_are beside.volume.layout.inodes (held_too 0 beside.volume.layout.inodes (Contains (map entry_number beside.entries)) space.inodes (inodes_out beside.outs)
      is.right.inodes is.are_out.inodes)
      (all_taken space.inodes)
      (right_too 0 beside.volume.layout.inodes (Contains (map entry_number beside.entries)) space.inodes (inodes_out beside.outs) is.right.inodes is.are_out.inodes)
      some_inodes (left_by (is_unused image) (inodes_out beside.outs))
      (none_granted 0 beside.volume.layout.inodes (Contains (map entry_number beside.entries)) space.inodes (inodes_out beside.outs) is.right.inodes is.are_out.inodes)
      (λ i high. tells_too 0 beside.volume.layout.inodes (Contains (map entry_number beside.entries)) space.inodes (inodes_out beside.outs) is.right.inodes is.are_out.inodes
      (is_unused image) (λ k low up. inodes_tell beside.volume beside.entries is.stands.between is.keeps k up) i (omega arith) high))
      ∙ (λ i. take n (filter (λ k. is_unused image k && not (sym (listed_out beside.outs k) i)) (range_with_len 0 beside.volume.layout.inodes)))
    where
      take_few : (n : ℕ) (numbers : List ℕ) → length numbers ≤ 16384 → take (as_u32 n) numbers ≡ take n numbers
      take_few n numbers few = elim (cases_lt n (2 ^ 32 - 1)) [
        | inl low ↦ ap (λ k. take k numbers) (let same : as_u32 n ≡ n = omega (arith, low) in same)
        | inr high ↦ take_all (as_u32 n) numbers (omega (arith, few, high)) ∙ sym (take_all n numbers (omega (arith, few, high)))
      ]

pub maps_count_books : MapsCountBooks
maps_count_books beside space is = record {
  inodes = inodes_left beside space is;
  blocks = blocks_left beside space is;
  least = least_left beside space is;
}
