-- The pages of a file's change are those of the blocks that the turns say are touched.
use Rattle.std.proofs.Common.{◌≡◌, ℕ, suc, ◌+◌, ◌/◌, ◌<◌, ◌≤◌, Bool, true, false, cond, not, ◌&&◌, ◌||◌, List, [], ◌∷◌, ◌++◌, length, filter, fold, get_or, Option, Some, None, is_some, inl, inr, refl, sym, ap, ◌∙◌, arith, nat_eq, nat_lt, nat_le, Contains}
use Rattle.std.specs.Prelude.{◌⊎◌}
use Rattle.std.specs.List.{range_with_len}
use Rattle.std.specs.Option.{option_map_or}
use borrow.Author.Tests.{eqb-true, eq-eqb}
use Rattle.std.proofs.lemmas.Bool.{cases_Bool, cases_lt, ltb-true, lt-ltb, leb-true, le-leb}
use Rattle.std.proofs.lemmas.List.{get_or-map, length-map, get_or_past}
use Rattle.std.proofs.lemmas.List.FromFn.{get_or-range_with_len, length-range_with_len}
use Rattle.std.proofs.lemmas.List.Kept.{AllPairs-filter}
use Rattle.sfs_base.proofs.BasicNumbers.{not_below, zero_plus}
use Rattle.sfs_base.proofs.BasicTruth.{and_false, and_first, and_second, or_true, true_not_false}
use Rattle.sfs_base.specs.declared.numbers.Stamp.{Stamp}
use Rattle.sfs_image.proofs.Basics.{found_passes}
use Rattle.tree_laws.specs.declared.history.Entry.{Entry}
use Rattle.tree_laws.specs.Changes.{FileChange, edits_by, edits_of, bytes_at}
use Rattle.tree_laws.specs.Effect.{Effect, Stays, Adds, Removes, Moves, Edits, Edit, Puts, Resizes, edited}
use Rattle.tree_laws.specs.History.{tree_after_entry, IsLegalFrom, IsLegal}
use Rattle.tree_laws.specs.Tree.{TreeState}
use Rattle.tree_laws.specs.Verdict.{verdict}
use Rattle.mem_files.specs.File.{File, room, blocks_of, no_blocks, is_touched}
use Rattle.keyed_list.specs.Ascending.{AscendBy, item_with}
use Rattle.disk_change.specs.Pages.{page_block}
use Rattle.disk_change.specs.declared.pages.Page.{Page}
use Rattle.commit_laws.proofs.KnownDirectories.{own_item}
use Rattle.commit_laws.proofs.NumbersGiven.{kept_in}
use Rattle.commit_laws.proofs.OwnInodes.{mapped_is_in}
use Rattle.commit_laws.proofs.SeatsOfPlan.{in_mapped, in_kept}
use Rattle.commit_laws.proofs.Shown.{found_is_in}
use Rattle.cut_laws.specs.Rules.{IsOneOf}
use Rattle.raise_laws.specs.Spans.{is_edit_between}
use Rattle.raise_laws.proofs.Spans.{spans_make_bytes}
use Rattle.turn_laws.specs.Touched.{touches, is_touched_by, is_touched_between}
use Rattle.flush_plan.specs.Touched.{page_of, is_marked_from, pages_from}
use Rattle.mark_laws.specs.Touched.{touched_by, IsTouchedBetween}
use Rattle.mark_laws.proofs.Edits.{edits_from}
use Rattle.turn_ties.specs.Laws.{MarkedPagesAreTouched}
use Rattle.cut_laws.proofs.Raising.{true_alike}
use Rattle.mark_laws.proofs.Made.{in_range}

-- each change of a list has a stamp below those of all later ones
abbrev Rises : List FileChange → Type 0
Rises [] = Unit {0}
Rises (change ∷ changes) = ((later : FileChange) → IsOneOf changes later → change.stamp < later.stamp) × Rises changes

rises : (first : TreeState) (history : List Entry) (stamp : ℕ) → IsLegalFrom first stamp history → Rises (edits_of first history)
rises first [] stamp legal = tt
rises first (entry ∷ history) stamp legal =
    by (verdict first entry.core.0 entry.call).effect (rises (tree_after_entry first entry) history (suc stamp) legal.1)
  where
    by : (effect : Effect) → Rises (edits_of (tree_after_entry first entry) history)
        → Rises (edits_by entry.stamp.0 effect ++ edits_of (tree_after_entry first entry) history)
    by Stays rest = rest
    by (Adds d n c) rest = rest
    by (Removes d n c) rest = rest
    by (Moves p n q m c) rest = rest
    by (Edits file edit) rest = (
      (λ later one.
          let low = edits_from (tree_after_entry first entry) history (suc stamp) later legal.1 one in
          let same = legal.0.stamped in
          omega (arith, low, same)),
      rest,
    )

-- what no item passes leaves nothing
pub none_pass : (test : FileChange → Bool) (changes : List FileChange) → ((x : FileChange) → IsOneOf changes x → test x ≡ false) → filter test changes ≡ []
none_pass test [] none = refl
none_pass test (change ∷ changes) none =
    ap (λ b. cond b (change ∷ filter test changes) (filter test changes)) (none change (inl refl)) ∙ none_pass test changes (λ x one. none x (inr one))

module _ (file from n : ℕ) where
  -- the bytes that a change at a stamp finds
  abbrev found_at : ℕ → List FileChange → List ℕ → List ℕ
  found_at stamp changes bytes = fold (λ bytes change. edited change.edit bytes) bytes (filter (is_edit_between file from stamp) changes)

  -- A change of a span touches the block.
  record IsTouching (changes : List FileChange) (to : ℕ) (bytes : List ℕ) : Type 0 where
    change : FileChange
    among : IsOneOf changes change
    within : is_edit_between file from to change ≡ true
    touching : touches change.edit (found_at change.stamp changes bytes) n ≡ true

  below : (to : ℕ) (change : FileChange) → is_edit_between file from to change ≡ true → change.stamp < to
  below to change t =
      let spans = and_first (nat_le from change.stamp && nat_lt change.stamp to) (nat_eq change.file file) t in
      ltb-true change.stamp to (and_second (nat_le from change.stamp) (nat_lt change.stamp to) spans)

  -- an earlier change is in the span up to a later one as it is in a longer one
  earlier_alike : (change : FileChange) (stamp to : ℕ) → change.stamp < stamp → stamp < to
      → is_edit_between file from stamp change ≡ is_edit_between file from to change
  earlier_alike change stamp to low less =
      ap (λ b. (nat_le from change.stamp && b) && nat_eq change.file file)
      (lt-ltb change.stamp stamp low ∙ sym (lt-ltb change.stamp to (omega (arith, low, less))))

  -- the first change finds the bytes as they are
  none_before : (change : FileChange) (changes : List FileChange) → Rises (change ∷ changes)
      → filter (is_edit_between file from change.stamp) (change ∷ changes) ≡ []
  none_before change changes up = none_pass (is_edit_between file from change.stamp) (change ∷ changes) late
    where
      late : (x : FileChange) → IsOneOf (change ∷ changes) x → is_edit_between file from change.stamp x ≡ false
      late x one =
          ap (λ b. (nat_le from x.stamp && b) && nat_eq x.file file) (not_below x.stamp change.stamp (low one))
          ∙ ap (λ b. b && nat_eq x.file file) (and_false (nat_le from x.stamp))
        where
          low : IsOneOf (change ∷ changes) x → change.stamp ≤ x.stamp
          low (inl same) = let e = ap (λ (y : FileChange). y.stamp) same in omega (arith, e)
          low (inr later) = let less = up.0 x later in omega (arith, less)

  -- what a later change finds, by whether the first one is in the span
  found_later : (first : FileChange) (changes : List FileChange) (to : ℕ) (bytes : List ℕ) (later : FileChange) → Rises (first ∷ changes)
      → IsOneOf changes later → later.stamp < to
      → found_at later.stamp (first ∷ changes) bytes ≡ found_at later.stamp changes (cond (is_edit_between file from to first) (edited first.edit bytes) bytes)
  found_later first changes to bytes later up one less = by (is_edit_between file from to first) (earlier_alike first later.stamp to (up.0 later one) less)
    where
      by : (b : Bool) → is_edit_between file from later.stamp first ≡ b
          → found_at later.stamp (first ∷ changes) bytes ≡ found_at later.stamp changes (cond b (edited first.edit bytes) bytes)
      by b e = ap (λ c. fold (λ bytes change. edited change.edit bytes) bytes
          (cond c (first ∷ filter (is_edit_between file from later.stamp) changes) (filter (is_edit_between file from later.stamp) changes))) e ∙ split b
        where
          split : (b : Bool) → fold (λ bytes change. edited change.edit bytes) bytes
              (cond b (first ∷ filter (is_edit_between file from later.stamp) changes) (filter (is_edit_between file from later.stamp) changes))
              ≡ found_at later.stamp changes (cond b (edited first.edit bytes) bytes)
          split true = refl
          split false = refl

  touching_is_found : (changes : List FileChange) → Rises changes → (to : ℕ) (bytes : List ℕ)
      → is_touched_by (filter (is_edit_between file from to) changes) bytes n ≡ true → IsTouching changes to bytes
  touching_is_found [] up to bytes t = absurd (true_not_false (sym t))
  touching_is_found (first ∷ changes) up to bytes t = by (is_edit_between file from to first) refl t (λ b. touching_is_found changes up.1 to b)
    where
      Later : Type 0
      Later = (b : List ℕ) → is_touched_by (filter (is_edit_between file from to) changes) b n ≡ true → IsTouching changes to b

      rest : List FileChange
      rest = filter (is_edit_between file from to) changes

      then_is : (c : Bool) → is_edit_between file from to first ≡ c
          → cond (is_edit_between file from to first) (edited first.edit bytes) bytes ≡ cond c (edited first.edit bytes) bytes
      then_is c e = ap (λ b. cond b (edited first.edit bytes) bytes) e

      behind : (b : List ℕ) → cond (is_edit_between file from to first) (edited first.edit bytes) bytes ≡ b → IsTouching changes to b
          → IsTouching (first ∷ changes) to bytes
      behind b e is = record {
        change = is.change;
        among = inr is.among;
        within = is.within;
        touching =
            ap (λ l. touches is.change.edit l n)
            (found_later first changes to bytes is.change up is.among (below to is.change is.within) ∙ ap (found_at is.change.stamp changes) e)
            ∙ is.touching;
      }

      by : (c : Bool) → is_edit_between file from to first ≡ c
          → is_touched_by (cond c (first ∷ rest) rest) bytes n ≡ true → Later → IsTouching (first ∷ changes) to bytes
      by false e t later = behind bytes (then_is false e) (later bytes t)
      by true e t later = elim (cases_Bool (touches first.edit bytes n)) [
        | inl own ↦ record {
          change = first;
          among = inl refl;
          within = e;
          touching = ap (λ l. touches first.edit (fold (λ bytes change. edited change.edit bytes) bytes l) n) (none_before first changes up) ∙ own;
        }
        | inr not_own ↦ behind (edited first.edit bytes) (then_is true e)
            (later (edited first.edit bytes) (sym (ap (λ b. b || is_touched_by rest (edited first.edit bytes) n) not_own) ∙ t))
      ]

  found_is_touching : (changes : List FileChange) → Rises changes → (to : ℕ) (bytes : List ℕ) → IsTouching changes to bytes
      → is_touched_by (filter (is_edit_between file from to) changes) bytes n ≡ true
  found_is_touching [] up to bytes is = absurd is.among
  found_is_touching (first ∷ changes) up to bytes is = by is.among (λ b. found_is_touching changes up.1 to b)
    where
      rest : List FileChange
      rest = filter (is_edit_between file from to) changes

      by : (first ≡ is.change) ⊎ IsOneOf changes is.change → ((b : List ℕ) → IsTouching changes to b → is_touched_by rest b n ≡ true)
          → is_touched_by (cond (is_edit_between file from to first) (first ∷ rest) rest) bytes n ≡ true
      by (inl same) later =
          let own : touches first.edit bytes n ≡ true =
          ap (λ l. touches first.edit (fold (λ bytes change. edited change.edit bytes) bytes l) n) (sym (none_before first changes up))
          ∙ ap (λ (c : FileChange). touches c.edit (found_at c.stamp (first ∷ changes) bytes) n) same ∙ is.touching in
          ap (λ b. is_touched_by (cond b (first ∷ rest) rest) bytes n) (ap (is_edit_between file from to) same ∙ is.within)
          ∙ ap (λ b. b || is_touched_by rest (edited first.edit bytes) n) own
      by (inr one) later = split (is_edit_between file from to first) refl
        where
          still : (b : List ℕ) → cond (is_edit_between file from to first) (edited first.edit bytes) bytes ≡ b → is_touched_by rest b n ≡ true
          still b e = later b (record {
            change = is.change;
            among = one;
            within = is.within;
            touching =
                ap (λ l. touches is.change.edit l n)
                (ap (found_at is.change.stamp changes) (sym e) ∙ sym (found_later first changes to bytes is.change up one (below to is.change is.within)))
                ∙ is.touching;
          })

          split : (c : Bool) → is_edit_between file from to first ≡ c → is_touched_by (cond c (first ∷ rest) rest) bytes n ≡ true
          split false e = still bytes (ap (λ c. cond c (edited first.edit bytes) bytes) e)
          split true e =
              ap (λ b. touches first.edit bytes n || b) (still (edited first.edit bytes) (ap (λ c. cond c (edited first.edit bytes) bytes) e))
              ∙ or_true (touches first.edit bytes n)

-- of no blocks none is touched
none_touched : (n : ℕ) → false ≡ is_touched no_blocks n
none_touched n = sym (ap (λ b. nat_le (no_blocks.first) n && b) (not_below n 0 (omega arith)) ∙ and_false (nat_le no_blocks.first n))

-- an edit touches a block by either definition
touches_alike : (edit : Edit) (bytes : List ℕ) (n : ℕ) → touches edit bytes n ≡ is_touched (touched_by edit (length bytes)) n
touches_alike (Puts at from) bytes n = by (nat_eq (length from) 0)
  where
    by : (b : Bool) → (not b && (nat_le (at / 4096) n && nat_lt n ((at + length from + 4095) / 4096)))
        ≡ is_touched (cond b no_blocks (blocks_of at (at + length from))) n
    by true = none_touched n
    by false = refl
touches_alike (Resizes size) bytes n = by (nat_lt size (length bytes))
  where
    by : (b : Bool) → (b && (nat_le (size / 4096) n && nat_lt n ((length bytes + 4095) / 4096)))
        ≡ is_touched (cond b (blocks_of size (length bytes)) no_blocks) n
    by true = refl
    by false = none_touched n

module _ (first : TreeState) (history : List Entry) (legal : IsLegal first history) (file from to n : ℕ) where
  finds : (stamp : ℕ) → from ≤ stamp
      → found_at file from n stamp (edits_of first history) (bytes_at first history file from) ≡ bytes_at first history file stamp
  finds stamp low = sym (spans_make_bytes first history file from stamp legal low)

  forth : is_touched_between first history file from to n ≡ true → IsTouchedBetween first history file from to n
  forth t =
      let is = touching_is_found file from n (edits_of first history) (rises first history 0 legal) to (bytes_at first history file from) t in
      let spans = and_first (nat_le from is.change.stamp && nat_lt is.change.stamp to) (nat_eq is.change.file file) is.within in
      let low = leb-true from is.change.stamp (and_first (nat_le from is.change.stamp) (nat_lt is.change.stamp to) spans) in
      record {
        change = is.change;
        among = is.among;
        own = eqb-true is.change.file file (and_second (nat_le from is.change.stamp && nat_lt is.change.stamp to) (nat_eq is.change.file file) is.within);
        since = low;
        below = below file from n to is.change is.within;
        touches =
            sym (touches_alike is.change.edit (bytes_at first history file is.change.stamp) n)
            ∙ ap (λ l. touches is.change.edit l n) (sym (finds is.change.stamp low)) ∙ is.touching;
      }

  back : IsTouchedBetween first history file from to n → is_touched_between first history file from to n ≡ true
  back is = found_is_touching file from n (edits_of first history) (rises first history 0 legal) to (bytes_at first history file from) (record {
    change = is.change;
    among = is.among;
    within = λ i. (le-leb from is.change.stamp is.since i && lt-ltb is.change.stamp to is.below i) && eq-eqb is.change.file file is.own i;
    touching =
        ap (λ l. touches is.change.edit l n) (finds is.change.stamp is.since)
        ∙ touches_alike is.change.edit (bytes_at first history file is.change.stamp) n ∙ is.touches;
  })

-- the blocks up to a number ascend, and each is one of them
blocks_ascend : (count i j d : ℕ) → i < j → j < length (range_with_len 0 count) → get_or (range_with_len 0 count) i d < get_or (range_with_len 0 count) j d
blocks_ascend count i j d lt within =
    let long = length-range_with_len 0 count in
    let first = get_or-range_with_len 0 count i d (omega (arith, long, lt, within)) in
    let later = get_or-range_with_len 0 count j d (omega (arith, long, within)) in
    omega (arith, first, later, lt)

-- the pages of a file are those of the blocks with a mark
module _ (from : ℕ) (file : File) where
  abbrev blocks : List ℕ
  blocks = filter (is_marked_from from file) (range_with_len 0 (room file))

  pages_ascend : AscendBy page_block (pages_from from file)
  pages_ascend i j d lt within =
      let long = length-map blocks (page_of file.bytes) in
      let first = get_or-map (page_of file.bytes) blocks i 0 d (omega (arith, lt, within, long)) in
      let later = get_or-map (page_of file.bytes) blocks j 0 d (omega (arith, within, long)) in
      let up = AllPairs-filter (λ (a b : ℕ). a < b) (is_marked_from from file) (range_with_len 0 (room file)) (blocks_ascend (room file)) in
      let below = up i j 0 lt (omega (arith, within, long)) in
      let first_block : page_block (get_or (pages_from from file) i d) ≡ get_or blocks i 0 = ap page_block first in
      let later_block : page_block (get_or (pages_from from file) j d) ≡ get_or blocks j 0 = ap page_block later in
      omega (arith, below, first_block, later_block)

  marked_has_page : (n : ℕ) → is_marked_from from file n ≡ true → is_some (item_with page_block n (pages_from from file)) ≡ true
  marked_has_page n marked =
      ap is_some (own_item page_block (pages_from from file) pages_ascend (page_of file.bytes n)
      (in_mapped (page_of file.bytes) blocks n (in_kept (is_marked_from from file) (range_with_len 0 (room file)) n (in_range (room file) n inside) marked)))
    where
      inside : n < room file
      inside = elim (cases_lt n (room file)) [
        | inl low ↦ low
        | inr past ↦ absurd (true_not_false (sym marked
            ∙ ap (λ (o : Option Stamp). option_map_or (λ (mark : Stamp). nat_le from mark.0) o false) (get_or_past file.marks n None past)))
      ]

  page_is_marked : (n : ℕ) (o : Option Page) → item_with page_block n (pages_from from file) ≡ o → is_some o ≡ true → is_marked_from from file n ≡ true
  page_is_marked n None e t = absurd (true_not_false (sym t))
  page_is_marked n (Some page) e t =
      let there = found_is_in (λ p. nat_eq (page_block p) n) (pages_from from file) page e in
      let own = eqb-true (page_block page) n (found_passes (λ p. nat_eq (page_block p) n) (pages_from from file) page e) in
      let block = mapped_is_in (page_of file.bytes) blocks page there in
      let kept = kept_in (is_marked_from from file) (range_with_len 0 (room file)) block.0 block.1 in
      ap (is_marked_from from file) (sym own ∙ sym (ap page_block block.2)) ∙ kept.1

pub marked_pages_are_touched : MarkedPagesAreTouched
marked_pages_are_touched first history node from stamp file change legal at is n =
    ap (λ pages. is_some (item_with page_block n pages)) is.pages
    ∙ true_alike (is_some (item_with page_block n (pages_from from file))) (is_touched_between first history node.0 from stamp n)
    (λ t. back first history legal node.0 from stamp n
    ((at.marks from n).0 (page_is_marked from file n (item_with page_block n (pages_from from file)) refl t)))
    (λ t. marked_has_page from file n ((at.marks from n).1 (forth first history legal node.0 from stamp n t)))
