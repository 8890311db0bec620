-- The tests of entries say that these tell the places of the image's directories.
use Rattle.std.proofs.Common.{◌≡◌, ◌≢◌, ℕ, suc, ◌<◌, ◌≤◌, Bool, true, false, not, ◌||◌, ◌&&◌, List, length, get_or, nat_eq, nat_lt, Option, Some, None, IsSome, option_map, refl, sym, ap, ◌∙◌, arith, inl, inr}
use Rattle.std.specs.Prelude.{is_some, ◌↔◌}
use Rattle.std.specs.List.{list_any}
use Rattle.std.specs.Option.{option_map_or}
use Rattle.std.proofs.lemmas.Bool.{cases_Bool, eq-eqb, eqb-true, eqb-false, le-ltb, lt-ltb, ltb-true, or_parts}
use Rattle.std.proofs.lemmas.List.Folds.{list_any_at, list_any_none}
use Rattle.sfs_base.proofs.BasicTruth.{and_first, and_second, not_both_of, not_false, not_true, then_false}
use Rattle.sfs_base.proofs.BasicNumbers.{not_same}
use Rattle.sfs_base.proofs.BasicOptions.{none_some, some_same, some_true}
use Rattle.sfs_base.specs.Lists.{Roomy}
use Rattle.sfs_image.specs.Inode.{Inode}
use Rattle.sfs_image.specs.Rules.{any_below}
use Rattle.sfs_image.specs.Seen.{SeenInodes}
use Rattle.sfs_image.specs.Slot.{Row}
use Rattle.sfs_image.proofs.Basics.{any_below-at, any_below-from}
use Rattle.tree_laws.specs.Tree.{TreeState, count_of, holder_of, is_directory_kind, names_it}
use Rattle.tree_laws.proofs.Counting.{found}
use Rattle.tree_laws.proofs.RowFacts.{holder_found}
use Rattle.image_laws.specs.ImageTree.{image_rows}
use Rattle.image_laws.specs.Keeps.{IsDirectoryInode, ruled_tree}
use Rattle.keyed_list.specs.Ascending.{AscendBy, item_with}
use Rattle.keyed_list.proofs.Searched.{item_at}
use Rattle.disk_tree.specs.First.{NonePasses}
use Rattle.disk_tree.specs.Inodes.{inode_at}
use Rattle.disk_tree.specs.Reached.{row_at}
use Rattle.disk_tree.specs.Rows.{NO_ROW, naming_below, rows_of_inode}
use Rattle.disk_tree.specs.Shown.{ShowsRows}
use Rattle.disk_tree.specs.Tests.{breaks_eighth, breaks_eleventh, breaks_tenth, breaks_twelfth}
use Rattle.disk_tree.proofs.CountsShown.{count_is}
use Rattle.disk_tree.proofs.ReachedShown.{child_kind, child_within, holder_is, holds_rows, kind_again, kind_forth, row_back}
use Rattle.image_check.specs.Checks.{are_places, is_below_root, is_elsewhere, is_off, is_unplaced, lies_one_deeper}
use Rattle.image_check.specs.Entries.{holder_inode}
use Rattle.image_check.specs.Holders.{AreHolders, IsPlace, depth_by}
use Rattle.image_check.specs.declared.certificate.Holder.{Holder}
use Rattle.image_check.proofs.Reaching.{named_once, placed as has_place}

-- an item does not pass a test that none passes
pub any_none : {X : Type 0} (p : X → Bool) (xs : List X) → list_any p xs ≡ false → (k : ℕ) (d : X) → k < length xs → p (get_or xs k d) ≡ false
any_none p xs none k d less = elim (cases_Bool (p (get_or xs k d))) [
  | inr fine ↦ fine
  | inl passes ↦ absurd (not_both_of (list_any p xs) (list_any_at p xs k d less passes) none)
]

pub below_none : (p : ℕ → Bool) (n : ℕ) → any_below n p ≡ false → (k : ℕ) → k < n → p k ≡ false
below_none p n none k less = elim (cases_Bool (p k)) [
  | inr fine ↦ fine
  | inl passes ↦ absurd (not_both_of (any_below n p) (any_below-at n p k less passes) none)
]

-- an entry lies one deeper than its holder
pub deeper_is : (o : Option ℕ) (depth : ℕ) → option_map_or (λ (d : ℕ). nat_eq (suc d) depth) o false ≡ true → option_map suc o ≡ Some depth
deeper_is None depth is = absurd (not_both_of false is refl)
deeper_is (Some d) depth is = ap Some (eqb-true _ _ is)

pub is_deeper : (o : Option ℕ) (depth : ℕ) → option_map suc o ≡ Some depth → option_map_or (λ (d : ℕ). nat_eq (suc d) depth) o false ≡ true
is_deeper None depth is = absurd (none_some is)
is_deeper (Some d) depth is = eq-eqb (suc d) depth (some_same is)

module _ (image : SeenInodes) (inodes : List Inode) (rows : List (Roomy Row)) (shows : ShowsRows image inodes rows) (long : length rows ≡ length inodes)
    (once : NonePasses image.count (breaks_eighth rows)) (fits : NonePasses image.count (breaks_tenth inodes rows))
    (rootless : NonePasses image.count (breaks_eleventh rows)) (unnamed : count_of (image_rows image) 0 ≡ 0) (holders : List Holder) where
  abbrev tree : TreeState
  tree = ruled_tree image

  -- the test that an inode is a directory below the root
  below_is : (i : ℕ) → is_below_root inodes i ≡ true → IsDirectoryInode image i × (i ≢ 0)
  below_is i is =
      let within : i < image.count = (let h = ltb-true _ _ (and_first (nat_lt i (length inodes)) _ is) in let c = shows.count in omega arith) in
      let both = and_second (nat_lt i (length inodes)) _ is in (
        (within, shows.kind i within ∙ eqb-true _ _ (and_first (nat_eq (inode_at inodes i).kind 2) _ both)),
        eqb-false _ _ (not_true (nat_eq i 0) (and_second (nat_eq (inode_at inodes i).kind 2) _ both)),
      )

  is_below : (i : ℕ) → IsDirectoryInode image i → i ≢ 0 → is_below_root inodes i ≡ true
  is_below i directory some =
      ap (λ b. b && (nat_eq (inode_at inodes i).kind 2 && not (nat_eq i 0))) (lt-ltb i (length inodes) (let w = directory.0 in let c = shows.count in omega arith))
      ∙ ap (λ b. b && not (nat_eq i 0)) (eq-eqb (inode_at inodes i).kind 2 (sym (shows.kind i directory.0) ∙ directory.1))
      ∙ ap not (not_same i 0 some)

  count_same : (i : ℕ) → count_of (image_rows image) i ≡ naming_below rows (length inodes) i
  count_same i = count_is image inodes rows shows long once i

  -- where one row at most names a directory no inode breaks the rule on it
  twelfth_from : ((i : ℕ) → IsDirectoryInode image i → count_of (image_rows image) i ≤ 1) → NonePasses image.count (breaks_twelfth inodes rows (length inodes))
  twelfth_from most i within = elim (cases_Bool (nat_eq (inode_at inodes i).kind 2)) [
    | inr other ↦ ap (λ b. b && nat_lt 1 (naming_below rows (length inodes) i)) other
    | inl directory ↦
        (let h = most i (within, shows.kind i within ∙ eqb-true _ _ directory) in
        let c = count_same i in
        ap (λ b. b && nat_lt 1 (naming_below rows (length inodes) i)) directory ∙ le-ltb 1 (naming_below rows (length inodes) i) (omega arith))
  ]

  -- from the tests to the places
  module _ (ascend : AscendBy holder_inode holders) (entries_fit : list_any (is_off inodes holders) holders ≡ false)
      (all_placed : any_below (length inodes) (is_unplaced inodes rows holders) ≡ false)
      (none_elsewhere : any_below (length rows) (λ directory. list_any (is_elsewhere holders directory) (rows_of_inode rows directory)) ≡ false) where
    unplaced_not : (i : ℕ) → IsDirectoryInode image i → i ≢ 0
        → (not (is_some (item_with holder_inode i holders)) || not (nat_eq (naming_below rows (length inodes) i) 1)) ≡ false
    unplaced_not i directory some =
        then_false (is_below_root inodes i) _
        (below_none (is_unplaced inodes rows holders) (length inodes) all_placed i (let w = directory.0 in let c = shows.count in omega arith))
        (is_below i directory some)

    is_there : (o : Option Holder) → is_some o ≡ true → IsSome o
    is_there None is = absurd (not_both_of false is refl)
    is_there (Some h) is = refl

    each : (i : ℕ) → IsDirectoryInode image i → i ≢ 0 → IsSome (item_with holder_inode i holders)
    each i directory some =
        is_there (item_with holder_inode i holders)
        (not_false (is_some (item_with holder_inode i holders)) (or_parts (not (is_some (item_with holder_inode i holders))) _ (unplaced_not i directory some)).0)

    count_one : (i : ℕ) → IsDirectoryInode image i → i ≢ 0 → count_of (image_rows image) i ≡ 1
    count_one i directory some =
        count_same i
        ∙ eqb-true _ _
        (not_false (nat_eq (naming_below rows (length inodes) i) 1)
        (or_parts (not (is_some (item_with holder_inode i holders))) _ (unplaced_not i directory some)).1)

    most : (i : ℕ) → IsDirectoryInode image i → count_of (image_rows image) i ≤ 1
    most i directory = elim (cases_Bool (nat_eq i 0)) [
      | inl zero_is ↦ (let e = ap (count_of (image_rows image)) (eqb-true _ _ zero_is) in omega arith)
      | inr some ↦ (let e = count_one i directory (eqb-false _ _ some) in omega arith)
    ]

    -- the entry of what a row names has the row's directory as its holder
    holder_told : (d k : ℕ) → d < image.count → k < length (rows_of_inode rows d) → is_directory_kind (row_at (rows_of_inode rows d) k).kind ≡ true
        → (h : Holder) → item_with holder_inode (row_at (rows_of_inode rows d) k).inode holders ≡ Some h → h.holder ≡ d
    holder_told d k within inside kind h is =
        let none =
        any_none (is_elsewhere holders d) (rows_of_inode rows d)
        (below_none (λ directory. list_any (is_elsewhere holders directory) (rows_of_inode rows directory)) (length rows) none_elsewhere d
        (let c = shows.count in omega arith))
        k NO_ROW inside in
        let test =
        not_false (option_map_or (λ (h : Holder). nat_eq h.holder d) (item_with holder_inode (row_at (rows_of_inode rows d) k).inode holders) false)
        (then_false (is_directory_kind (row_at (rows_of_inode rows d) k).kind) _ none kind) in
        eqb-true _ _ (sym (ap (λ (o : Option Holder). option_map_or (λ (h : Holder). nat_eq h.holder d) o false) is) ∙ test)

    place : (k : ℕ) (e : Holder) → k < length holders → IsPlace image holders (get_or holders k e)
    place k e less =
        let h = get_or holders k e in
        let off = or_parts (not (is_below_root inodes h.inode)) _ (any_none (is_off inodes holders) holders entries_fit k e less) in
        let below = below_is h.inode (not_false _ off.0) in
        let single = twelfth_from most in
        let count = count_one h.inode below.0 below.1 in
        record {
          directory = below.0;
          no_root = below.1;
          once = count;
          holder = elim (holder_found tree h.inode) [
            | inr none ↦
                (let some = found (names_it h.inode) (image_rows image) (omega arith) in
                absurd
                (none.1
                (record { directory = some.row.0.0; name = some.row.0.1; row = some.there ∙ ap Some (eqb-true _ _ some.passes) })))
            | inl f ↦
                (let back = row_back image inodes rows shows long once f.0 f.2.0 h.inode f.2.1 in
                let kind : is_directory_kind (row_at (rows_of_inode rows f.0) back.k).kind ≡ true =
                kind_again image inodes rows shows long once fits rootless single (row_at (rows_of_inode rows f.0) back.k).kind
                (sym (child_kind image inodes rows shows long once fits rootless single f.0 back.k back.inside)
                ∙ ap (λ (j : ℕ). (inode_at inodes j).kind) back.is ∙ sym (shows.kind h.inode below.0.0) ∙ below.0.1) in
                let own = item_at holder_inode holders ascend k e less in
                f.1
                ∙ ap Some
                (sym
                (holder_told f.0 back.k back.within back.inside kind h (ap (λ (j : ℕ). item_with holder_inode j holders) back.is ∙ own))))
          ];
          depth = deeper_is (depth_by holders h.holder) h.depth (not_false _ off.1);
        }

    pub told_places : AreHolders image holders
    told_places = record { ascend = ascend; each = each; right = λ k d less. place k d less }

  -- and back
  module _ (are : AreHolders image holders) where
    abbrev single : NonePasses image.count (breaks_twelfth inodes rows (length inodes))
    single = twelfth_from (named_once image holders are unnamed)

    entries_fit : list_any (is_off inodes holders) holders ≡ false
    entries_fit = list_any_none (is_off inodes holders) holders (λ k d less.
        let is = are.right k d less in
        let h = get_or holders k d in
        ap (λ b. not b || not (lies_one_deeper holders h)) (is_below h.inode is.directory is.no_root)
        ∙ ap not (is_deeper (depth_by holders h.holder) h.depth is.depth))

    all_placed : any_below (length inodes) (is_unplaced inodes rows holders) ≡ false
    all_placed = any_below-from (length inodes) (is_unplaced inodes rows holders) (λ i less. elim (cases_Bool (is_below_root inodes i)) [
      | inr other ↦
          ap (λ b. b && (not (is_some (item_with holder_inode i holders)) || not (nat_eq (naming_below rows (length inodes) i) 1))) other
      | inl below ↦
          (let is = below_is i below in
          let one = has_place image holders are unnamed i is.0 is.1 in
          let count : naming_below rows (length inodes) i ≡ 1 = sym (count_same i) ∙ ap (count_of (image_rows image)) (sym one.inode) ∙ one.place.once in
          ap (λ b. b && (not (is_some (item_with holder_inode i holders)) || not (nat_eq (naming_below rows (length inodes) i) 1))) below
          ∙ ap (λ b. not b || not (nat_eq (naming_below rows (length inodes) i) 1)) (some_true (item_with holder_inode i holders) (are.each i is.0 is.1))
          ∙ ap not (eq-eqb _ _ count))
    ])

    stands : (d k : ℕ) → k < length (rows_of_inode rows d) → is_elsewhere holders d (row_at (rows_of_inode rows d) k) ≡ false
    stands d k inside = elim (cases_Bool (is_directory_kind row.kind)) [
      | inr file ↦ ap (λ b. b && not (option_map_or (λ (h : Holder). nat_eq h.holder d) (item_with holder_inode row.inode holders) false)) file
      | inl kind ↦
          (let within = child_within image inodes rows shows long once fits rootless single d k inside in
          let directory : IsDirectoryInode image row.inode = (
            within,
            shows.kind row.inode within ∙ child_kind image inodes rows shows long once fits rootless single d k inside
                ∙ kind_forth image inodes rows shows long once fits rootless single row.kind kind,
          ) in
          let some : row.inode ≢ 0 =
          λ zero_is. not_both_of (breaks_eleventh rows d)
          (list_any_at (λ (row : Row). nat_eq row.inode 0) (rows_of_inode rows d) k NO_ROW inside (eq-eqb row.inode 0 zero_is))
          (rootless d (holds_rows image inodes rows shows long once fits rootless single d k inside)) in
          let one = has_place image holders are unnamed row.inode directory some in
          let same : one.entry.holder ≡ d =
          some_same
          (sym one.place.holder ∙ ap (holder_of tree) one.inode ∙ holder_is image inodes rows shows long once fits rootless single d k inside kind) in
          ap (λ b. b && not (option_map_or (λ (h : Holder). nat_eq h.holder d) (item_with holder_inode row.inode holders) false)) kind
          ∙ ap (λ (o : Option Holder). not (option_map_or (λ (h : Holder). nat_eq h.holder d) o false)) one.found
          ∙ ap not (eq-eqb _ _ same))
    ]
      where
        row : Row
        row = row_at (rows_of_inode rows d) k

    none_elsewhere : any_below (length rows) (λ directory. list_any (is_elsewhere holders directory) (rows_of_inode rows directory)) ≡ false
    none_elsewhere =
        any_below-from (length rows) (λ directory. list_any (is_elsewhere holders directory) (rows_of_inode rows directory))
        (λ d less. list_any_none (is_elsewhere holders d) (rows_of_inode rows d) (λ k e inside.
        ap (is_elsewhere holders d) (Rattle.std.proofs.lemmas.List.get_or_default (rows_of_inode rows d) k e NO_ROW inside) ∙ stands d k inside))

  -- the tests hold exactly where the entries tell the places
  pub places_told : AscendBy holder_inode holders → (are_places inodes rows holders ≡ true) ↔ AreHolders image holders
  places_told ascend = (
    (λ is.
        (let first = and_first (not (list_any (is_off inodes holders) holders)) _ is in
        let both = and_second (not (list_any (is_off inodes holders) holders)) _ is in
        let second = and_first (not (any_below (length inodes) (is_unplaced inodes rows holders))) _ both in
        let third = and_second (not (any_below (length inodes) (is_unplaced inodes rows holders))) _ both in
        told_places ascend (not_true _ first) (not_true _ second) (not_true _ third))),
    (λ are.
        ap (λ b. not b && (not (any_below (length inodes) (is_unplaced inodes rows holders))
        && not (any_below (length rows) (λ directory. list_any (is_elsewhere holders directory) (rows_of_inode rows directory))))) (entries_fit are)
        ∙ ap (λ b. not b && not (any_below (length rows) (λ directory. list_any (is_elsewhere holders directory) (rows_of_inode rows directory)))) (all_placed are)
        ∙ ap not (none_elsewhere are)),
  )
