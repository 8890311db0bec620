-- The change of a file by its marks leads from its bytes at one stamp to those at a later one.
use Rattle.std.proofs.Common.{◌≡◌, ℕ, ◌+◌, ◌<◌, true, false, List, length, filter, get_or, Option, None, is_some, inl, inr, sym, ap, subst, ◌∙◌, arith, Contains}
use Rattle.std.specs.Prelude.{nat_le}
use Rattle.std.specs.List.{range_with_len}
use Rattle.std.specs.Option.{option_map_or}
use Rattle.std.proofs.lemmas.Bool.{cases_lt}
use Rattle.std.proofs.lemmas.List.{get_or-map, length-map, get_or_past}
use Rattle.std.proofs.lemmas.List.FromFn.{get_or-range_with_len, length-range_with_len}
use Rattle.std.proofs.lemmas.List.Kept.{AllPairs-filter}
use Rattle.sfs_base.proofs.BasicNumbers.{zero_plus}
use Rattle.sfs_base.specs.declared.numbers.Stamp.{Stamp}
use Rattle.sfs_base.proofs.BasicTruth.{not_both, true_not_false}
use Rattle.mem_files.specs.File.{File, room}
use Rattle.keyed_list.specs.Ascending.{AscendBy, item_with}
use Rattle.disk_change.specs.Pages.{page_block}
use Rattle.disk_change.specs.declared.pages.Page.{Page}
use Rattle.commit_laws.specs.Rewritten.{bytes_in_block}
use Rattle.commit_laws.proofs.KnownDirectories.{own_item}
use Rattle.commit_laws.proofs.OwnInodes.{mapped_is_in}
use Rattle.commit_laws.proofs.SeatsOfPlan.{in_mapped, in_kept}
use Rattle.flush_plan.specs.Touched.{page_of, is_marked_from, pages_from}
use Rattle.mark_laws.specs.Laws.{MarksMakeFiles}
use Rattle.mark_laws.proofs.Blocks.{untouched_stays, end_is_touched}
use Rattle.mark_laws.proofs.Short.{files_stay_short}

-- the blocks up to a number ascend, and each is one of them
blocks_ascend : (count i j d : ℕ) → i < j → j < length (range_with_len 0 count) → get_or (range_with_len 0 count) i d < get_or (range_with_len 0 count) j d
blocks_ascend count i j d lt within =
    let long = length-range_with_len 0 count in
    let first = get_or-range_with_len 0 count i d (omega (arith, long, lt, within)) in
    let later = get_or-range_with_len 0 count j d (omega (arith, long, within)) in
    omega (arith, first, later, lt)

pub in_range : (count n : ℕ) → n < count → Contains (range_with_len 0 count) n
in_range count n low = (n, (omega (arith, low, length-range_with_len 0 count)), get_or-range_with_len 0 count n n low ∙ zero_plus n)

module _ (from : ℕ) (file : File) where
  abbrev blocks : List ℕ
  blocks = filter (is_marked_from from file) (range_with_len 0 (room file))

  pages_ascend : AscendBy page_block (pages_from from file)
  pages_ascend i j d lt within =
      let long = length-map blocks (page_of file.bytes) in
      let first = get_or-map (page_of file.bytes) blocks i 0 d (omega (arith, lt, within, long)) in
      let later = get_or-map (page_of file.bytes) blocks j 0 d (omega (arith, within, long)) in
      let below =
      AllPairs-filter (λ (a b : ℕ). a < b) (is_marked_from from file) (range_with_len 0 (room file)) (blocks_ascend (room file)) i j 0 lt
      (omega (arith, within, long)) in
      let first_block : page_block (get_or (pages_from from file) i d) ≡ get_or blocks i 0 = ap page_block first in
      let later_block : page_block (get_or (pages_from from file) j d) ≡ get_or blocks j 0 = ap page_block later in
      omega (arith, below, first_block, later_block)

  -- a page has the bytes of its block
  page_is : (page : Page) → Contains (pages_from from file) page → page.bytes ≡ bytes_in_block page.block file.bytes
  page_is page there =
      let one = mapped_is_in (page_of file.bytes) blocks page there in
      ap (λ (p : Page). p.bytes) (sym one.2) ∙ ap (λ (p : Page). bytes_in_block p.block file.bytes) one.2

  -- a marked block has a page
  marked_has_page : (n : ℕ) → is_marked_from from file n ≡ true → is_some (item_with page_block n (pages_from from file)) ≡ true
  marked_has_page n marked =
      ap is_some
      (own_item page_block (pages_from from file) pages_ascend (page_of file.bytes n)
      (in_mapped (page_of file.bytes) blocks n
      (in_kept (is_marked_from from file) (range_with_len 0 (room file)) n (in_range (room file) n inside) marked)))
    where
      inside : n < room file
      inside = elim (cases_lt n (room file)) [
        | inl low ↦ low
        | inr past ↦
            absurd
            (true_not_false
            (sym marked ∙ ap (λ (o : Option Stamp). option_map_or (λ (mark : Stamp). nat_le from mark.0) o false) (get_or_past file.marks n None past)))
      ]

  no_page_unmarked : (n : ℕ) → is_some (item_with page_block n (pages_from from file)) ≡ false → is_marked_from from file n ≡ true → ⊥
  no_page_unmarked n none marked = not_both (marked_has_page n marked) none

pub marks_make_files : MarksMakeFiles
marks_make_files first history node from stamp file change mounted small low at is = record {
  size = is.size ∙ ap length at.bytes;
  ascend = subst (AscendBy page_block) (sym is.pages) (pages_ascend from file);
  pages = λ page there. page_is from file page (subst (λ those. Contains those page) is.pages there) ∙ ap (bytes_in_block page.block) at.bytes;
  untouched = λ n none. untouched_stays first history mounted.sound mounted.legal node.0 from n stamp low
      (λ touched. no_page_unmarked from file n (subst (λ those. is_some (item_with page_block n those) ≡ false) is.pages none) ((at.marks from n).1 touched));
  ends = λ n had gone. subst (λ those. is_some (item_with page_block n those) ≡ true) (sym is.pages)
      (marked_has_page from file n ((at.marks from n).1 (end_is_touched first history mounted.sound mounted.legal node.0 from n stamp low had gone)));
  short = files_stay_short first history mounted small node.0 stamp;
}
