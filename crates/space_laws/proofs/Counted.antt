-- A right map with no grant out counts what the image has free.
use Rattle.std.proofs.Common.{◌≡◌, ◌≢◌, ℕ, zero, suc, ◌+◌, ◌-◌, ◌<◌, ◌≤◌, Bool, true, false, cond, not, List, length, map, get_or, take, count_by, Some, None, inl, inr, refl, sym, ap, subst, ◌∙◌, arith, leb, Contains}
use Rattle.std.specs.Prelude.{◌↔◌, slice_get}
use Rattle.std.proofs.lemmas.Bool.{cases_Bool, cases_lt, eqb-false, leb-true}
use Rattle.std.proofs.lemmas.List.{take_all}
use Rattle.std.proofs.lemmas.List.Sums.{count_by_more_yes, count_by_more_no}
use Rattle.std.proofs.lemmas.Option.{slice_get_within}
use Rattle.sfs_base.proofs.BasicLists.{take_none}
use Rattle.sfs_base.proofs.BasicNumbers.{suc_is_one_more, zero_plus, not_same}
use Rattle.sfs_base.proofs.BasicOptions.{none_some, some_same}
use Rattle.sfs_base.proofs.BasicTruth.{not_false}
use Rattle.sfs_image.specs.Seen.{SeenInodes}
use Rattle.sfs_image.specs.Super.{data_start}
use Rattle.tree_laws.specs.Tree.{kind_of}
use Rattle.image_laws.specs.Image.{inodes_shown}
use Rattle.image_laws.specs.Need.{rank}
use Rattle.image_laws.proofs.Ranks.{rank_more}
use Rattle.image_laws.proofs.Standing.{not_used}
use Rattle.space_map.specs.Pool.{Pool, status_of, is_free, free_count}
use Rattle.space_map.specs.declared.status.Status.{Status}
use Rattle.space_map.specs.declared.status.Status.TheVariants.{Free, Taken, Granted}
use Rattle.space_map.proofs.Changes.{status_of-here}
use Rattle.disk_change.specs.GivenUp.{IsLeftByGone, entry_number}
use Rattle.disk_nodes.specs.declared.old.OldEntry.{OldEntry}
use Rattle.commit_laws.proofs.OwnInodes.{mapped_is_in}
use Rattle.commit_laws.proofs.SeatsOfPlan.{in_mapped}
use Rattle.flush_laws.specs.Volume.{Volume, tree_held}
use Rattle.flush_laws.specs.Ready.{IsBetweenCommits, KeepsEntries}
use Rattle.turn_laws.specs.Need.{is_unused, is_held_in}
use Rattle.turn_laws.proofs.ListedNeeds.{none_counted, rank_agrees, held_are_found}
use Rattle.space_laws.specs.Laws.{MapsCountFree}
use Rattle.space_laws.specs.Map.{IsRowOf}
use Rattle.space_laws.proofs.Holders.{low_number, shown_at}
use Rattle.space_laws.proofs.Served.{data_behind_super}

-- how many of the first items pass a test, as a rank
count_is_rank : {X : Type 0} (test : X → Bool) (xs : List X) (d : X) (n : ℕ) → n ≤ length xs → count_by test (take n xs) ≡ rank (λ k. test (get_or xs k d)) n
count_is_rank test xs d zero low = ap (count_by test) (take_none xs) ∙ sym (none_counted (λ k. test (get_or xs k d)))
count_is_rank test xs d (suc n) low =
    ap (λ k. count_by test (take k xs)) (suc_is_one_more n) ∙ by (test (get_or xs n d)) refl (count_is_rank test xs d n (omega (arith, low)))
    ∙ sym (rank_more (λ k. test (get_or xs k d)) n)
  where
    by : (b : Bool) → test (get_or xs n d) ≡ b → count_by test (take n xs) ≡ rank (λ k. test (get_or xs k d)) n
        → count_by test (take (n + 1) xs) ≡ rank (λ k. test (get_or xs k d)) n + cond (test (get_or xs n d)) 1 0
    by true e rest =
        count_by_more_yes test xs n d (omega (arith, low)) e ∙ ap (λ k. k + 1) rest ∙ ap (λ b. rank (λ k. test (get_or xs k d)) n + cond b 1 0) (sym e)
    by false e rest =
        let none : rank (λ k. test (get_or xs k d)) n ≡ rank (λ k. test (get_or xs k d)) n + 0 = omega arith in
        count_by_more_no test xs n d (omega (arith, low)) e ∙ rest ∙ none ∙ ap (λ b. rank (λ k. test (get_or xs k d)) n + cond b 1 0) (sym e)

-- a number with a status lies in its row
inside_row : (pool : Pool) (number : ℕ) (status : Status) → status_of pool number ≡ Some status
    → (pool.first ≤ number) × (number - pool.first < length pool.statuses)
inside_row pool number status has = by (leb pool.first number) refl has
  where
    by : (b : Bool) → leb pool.first number ≡ b → cond b (slice_get pool.statuses (number - pool.first)) None ≡ Some status
        → (pool.first ≤ number) × (number - pool.first < length pool.statuses)
    by true e is = (leb-true pool.first number e, slice_get_within pool.statuses (number - pool.first) status is)
    by false e is = absurd (none_some is)

module _ (first end : ℕ) (held : ℕ → Type 0) (pool : Pool) (row : IsRowOf first end held pool) where
  there : (n : ℕ) → n < length pool.statuses → (first ≤ pool.first + n) × (pool.first + n < end)
  there n inside = row.within (pool.first + n) (get_or pool.statuses n Taken) (status_of-here pool n Taken inside)

  -- a row has as many statuses as its range has numbers, and begins with the first of them
  long : length pool.statuses ≡ end - first
  long = elim (cases_lt first end) [
    | inr none ↦ by (length pool.statuses) refl none
    | inl some ↦
        let low = row.all first (omega arith) some in
        let begin = inside_row pool first low.0 low.1 in
        let high = row.all (end - 1) (omega (arith, some)) (omega (arith, some)) in
        let last = inside_row pool (end - 1) high.0 high.1 in
        let start = there 0 (omega (arith, begin)) in
        let final = there (length pool.statuses - 1) (omega (arith, begin)) in
        omega (arith, begin, last, start, final, some)
  ]
    where
      by : (n : ℕ) → length pool.statuses ≡ n → end ≤ first → length pool.statuses ≡ end - first
      by zero e none = omega (arith, e, none)
      by (suc n) e none = absurd (let start = there 0 (omega (arith, e)) in omega (arith, start, none))

  begins : (n : ℕ) → n < length pool.statuses → pool.first ≡ first
  begins n inside =
      let span = long in
      let low = row.all first (omega arith) (omega (arith, span, inside)) in
      let begin = inside_row pool first low.0 low.1 in
      let start = there 0 (omega (arith, inside)) in
      omega (arith, begin, start)

  -- so it counts the numbers of its range that are not held
  pub counts_free : (free : ℕ → Bool) → ((number : ℕ) → status_of pool number ≢ Some Granted)
      → ((number : ℕ) → first ≤ number → number < end → (free number ≡ false) ↔ held number)
      → free_count pool ≡ rank (λ n. free (first + n)) (end - first)
  counts_free free none_granted tells =
      ap (count_by is_free) (sym (take_all (length pool.statuses) pool.statuses (omega arith)))
      ∙ count_is_rank is_free pool.statuses Taken (length pool.statuses) (omega arith)
      ∙ rank_agrees (λ k. is_free (get_or pool.statuses k Taken)) (λ n. free (first + n)) (length pool.statuses) agrees
      ∙ ap (rank (λ n. free (first + n))) long
    where
      agrees : (k : ℕ) → k < length pool.statuses → is_free (get_or pool.statuses k Taken) ≡ free (first + k)
      agrees k inside = by (get_or pool.statuses k Taken) (ap (status_of pool) (ap (λ n. n + k) (sym (begins k inside))) ∙ status_of-here pool k Taken inside)
        where
          spans : (first ≤ first + k) × (first + k < end)
          spans = let start = begins k inside in let span = there k inside in (omega arith, omega (arith, start, span))

          by : (status : Status) → status_of pool (first + k) ≡ Some status → is_free status ≡ free (first + k)
          by Granted has = absurd (none_granted (first + k) has)
          by Taken has = sym ((tells (first + k) spans.0 spans.1).1 (row.taken_is_held (first + k) has))
          by Free has = elim (cases_Bool (free (first + k))) [
            | inl t ↦ sym t
            | inr f ↦ absurd (let never : Free ≡ Taken = row.held_is_taken (first + k) Free has ((tells (first + k) spans.0 spans.1).0 f) in cc)
          ]

module _ (volume : Volume) (entries : List OldEntry) (ready : IsBetweenCommits volume) (keeps : KeepsEntries volume.num volume.parts entries) where
  abbrev image : SeenInodes
  image = inodes_shown volume.layout volume.parts

  -- the inode of an entry is in use
  in_use : (entry : OldEntry) → Contains entries entry → (image.seen entry.old.number).kind ≢ 0
  in_use entry in_entries none =
      not_used (kind_of (tree_held volume) entry.node.0)
      (sym (ready.stands.each entry.node.0 entry.old.number (keeps.each entry in_entries).0).kind ∙ none)

  -- An inode that is in use is that of an entry.
  used_entry : (i : ℕ) → i < volume.layout.inodes → (image.seen i).kind ≢ 0 → (entry : OldEntry) × Contains entries entry × (entry.old.number ≡ i)
  used_entry i low used = elim (ready.stands.rest i low) [
    | inr unused ↦ absurd (used unused.kind)
    | inl (node, has) ↦
        let entry = keeps.all node i has in
        (entry.0, entry.1, some_same (sym (keeps.each entry.0 entry.1).0 ∙ ap volume.num entry.2 ∙ has))
  ]

  -- and so the inodes in use are those of the entries
  pub inodes_tell : (i : ℕ) → i < volume.layout.inodes → (is_unused image i ≡ false) ↔ Contains (map entry_number entries) i
  inodes_tell i low = (found, back)
    where
      found : is_unused image i ≡ false → Contains (map entry_number entries) i
      found used =
          let entry = used_entry i low (eqb-false (image.seen i).kind 0 used) in
          subst (λ n. Contains (map entry_number entries) n) entry.2 (in_mapped entry_number entries entry.0 entry.1)

      back : Contains (map entry_number entries) i → is_unused image i ≡ false
      back in_numbers =
          let entry = mapped_is_in entry_number entries i in_numbers in
          not_same (image.seen i).kind 0 (λ none. in_use entry.0 entry.1 (ap (λ n. (image.seen n).kind) entry.2 ∙ none))

  pub blocks_tell : (block : ℕ) → data_start volume.layout ≤ block → (not (is_held_in image block) ≡ false) ↔ IsLeftByGone entries block
  blocks_tell block lies = (found, back)
    where
      found : not (is_held_in image block) ≡ false → IsLeftByGone entries block
      found held =
          let by = (held_are_found image block).0 (not_false (is_held_in image block) held) in
          let entry = used_entry by.inode by.within by.used in
          record {
            entry = entry.0;
            one = entry.1;
            held = record {
              some = λ none. let behind = data_behind_super volume.layout in omega (arith, lies, behind, none);
              place = by.place;
              within = by.low;
              stands =
                  shown_at volume entries ready keeps entry.0 entry.1 by.place by.low
                  ∙ ap (λ n. (image.seen n).blocks by.place) entry.2 ∙ by.has;
            };
          }

      back : IsLeftByGone entries block → not (is_held_in image block) ≡ false
      back left = ap not ((held_are_found image block).1 (record {
        inode = left.entry.old.number;
        place = left.held.place;
        within = low_number volume entries ready keeps left.entry left.one;
        low = left.held.within;
        used = in_use left.entry left.one;
        has =
            sym (shown_at volume entries ready keeps left.entry left.one left.held.place left.held.within)
            ∙ left.held.stands;
      }))

pub maps_count_free : MapsCountFree
maps_count_free volume entries space ready keeps mapped none = record {
  inodes =
      counts_free 0 volume.layout.inodes (Contains (map entry_number entries)) space.inodes mapped.inodes
      (is_unused (inodes_shown volume.layout volume.parts)) none.inodes
      (λ i low high. inodes_tell volume entries ready keeps i high)
      ∙ rank_agrees (λ n. is_unused (inodes_shown volume.layout volume.parts) (0 + n)) (is_unused (inodes_shown volume.layout volume.parts))
      (volume.layout.inodes - 0)
      (λ k low. ap (is_unused (inodes_shown volume.layout volume.parts)) (zero_plus k))
      ∙ ap (rank (is_unused (inodes_shown volume.layout volume.parts))) (whole volume.layout.inodes);
  blocks =
      counts_free (data_start volume.layout) volume.layout.blocks (IsLeftByGone entries) space.blocks mapped.blocks
      (λ block. not (is_held_in (inodes_shown volume.layout volume.parts) block)) none.blocks
      (λ block low high. blocks_tell volume entries ready keeps block low);
}
  where
    whole : (n : ℕ) → n - 0 ≡ n
    whole n = omega arith
