-- The places of directories that a certificate tells: no row names the root, one row names each other directory, and a walk up from it
-- ends at the root.
use Rattle.std.proofs.Common.{◌≡◌, ◌≢◌, ℕ, zero, suc, ◌<◌, ◌≤◌, Bool, true, false, not, ◌||◌, ◌&&◌, List, [], ◌∷◌, length, nat_eq, Option, Some, None, option_map, IsSome, refl, sym, ap, subst, ◌∙◌, arith, inl, inr}
use Rattle.std.specs.Prelude.{bytes_eq}
use Rattle.std.specs.List.{list_any}
use Rattle.std.specs.Option.{option_map_or}
use Rattle.std.specs.FinMap.{entries, len, len-entries}
use Rattle.std.proofs.lemmas.Bool.{cases_Bool, cond-true, cond-false, eq-eqb, eqb-true, eqb-false, or_right}
use Rattle.sfs_base.proofs.BasicTruth.{not_both_of}
use Rattle.sfs_base.proofs.BasicOptions.{none_some, none_not_some, some_same}
use Rattle.tree_laws.specs.Order.{Key}
use Rattle.tree_laws.specs.Tree.{TreeState, count_of, holder_of, lies_below, names_it}
use Rattle.tree_laws.proofs.Counting.{count_none, found_none}
use Rattle.tree_laws.proofs.Walks.{Chain, chain_within, walk_meets}
use Rattle.sfs_image.specs.Slot.{Row}
use Rattle.sfs_image.specs.Seen.{SeenInodes}
use Rattle.image_laws.specs.ImageTree.{image_rows, shows_directory}
use Rattle.image_laws.specs.Keeps.{IsDirectoryInode, ruled_tree}
use Rattle.image_laws.specs.Rules.{is_unreached, names_root}
use Rattle.image_laws.specs.Slots.{looked_up}
use Rattle.image_laws.proofs.Images.{slot_back}
use Rattle.keyed_list.specs.Ascending.{item_with}
use Rattle.image_check.specs.Entries.{holder_inode}
use Rattle.image_check.specs.Holders.{AreHolders, IsPlace, depth_by}
use Rattle.image_check.specs.declared.certificate.Holder.{Holder}
use Rattle.image_check.proofs.Items.{found_item, of_found}

-- a row that is found under a name passes no test that no row passes
looked_passes : (test : Row → Bool) (n : List ℕ) (slots : List (Option Row)) (row : Row) → looked_up n slots ≡ Some row → test row ≡ true →
    list_any (λ slot. option_map_or test slot false) slots ≡ true
looked_passes test n [] row is passes = absurd (none_some is)
looked_passes test n (None ∷ slots) row is passes = looked_passes test n slots row is passes
looked_passes test n (Some one ∷ slots) row is passes = elim (cases_Bool (bytes_eq n one.name)) [
  | inl same ↦
      (let e : one ≡ row = some_same (sym (cond-true (bytes_eq n one.name) (Some one) (looked_up n slots) same) ∙ is) in
      ap (λ b. b || list_any (λ slot. option_map_or test slot false) slots) (ap test e ∙ passes))
  | inr other ↦
      (let rest = looked_passes test n slots row (sym (cond-false (bytes_eq n one.name) (Some one) (looked_up n slots) other) ∙ is) passes in
      or_right (test one) _ rest)
]

-- where no directory has a row that names the root, no row does
pub root_unnamed : (image : SeenInodes) → ((i : ℕ) → i < image.count → (shows_directory (image.seen i) && names_root image i) ≡ false)
    → count_of (image_rows image) 0 ≡ 0
root_unnamed image none = count_none (names_it 0) (image_rows image) (λ k x is. elim (cases_Bool (nat_eq x 0)) [
  | inr other ↦ other
  | inl zero_is ↦
      (let back = slot_back image k.0 k.1 x is in
      let names : names_root image k.0 ≡ true =
      looked_passes (λ (row : Row). nat_eq row.inode 0) k.1 (image.seen k.0).slots back.row back.slot
      (eq-eqb back.row.inode 0 (back.child ∙ eqb-true _ _ zero_is)) in
      absurd
      (not_both_of (shows_directory (image.seen k.0) && names_root image k.0)
      (ap (λ b. b && names_root image k.0) (eq-eqb (image.seen k.0).kind 2 back.kind) ∙ names) (none k.0 back.within)))
])

module _ (image : SeenInodes) (holders : List Holder) (are : AreHolders image holders) (unnamed : count_of (image_rows image) 0 ≡ 0) where
  abbrev tree : TreeState
  tree = ruled_tree image

  -- the entry of a directory below the root
  pub record HasPlace (i : ℕ) : Type 0 where
    pub entry : Holder
    pub found : item_with holder_inode i holders ≡ Some entry
    pub inode : entry.inode ≡ i
    pub place : IsPlace image holders entry

  has_place : (i : ℕ) → (o : Option Holder) → item_with holder_inode i holders ≡ o → IsSome o → HasPlace i
  has_place i None is some = absurd (none_not_some {X = Holder} None refl some)
  has_place i (Some h) is some =
      record { entry = h; found = is; inode = (found_item holder_inode holders i h is).number; place = of_found holder_inode (IsPlace image holders) holders i h are.right is }

  pub placed : (i : ℕ) → IsDirectoryInode image i → i ≢ 0 → HasPlace i
  placed i directory below = has_place i (item_with holder_inode i holders) refl (are.each i directory below)

  -- one row at most names a directory
  pub named_once : (i : ℕ) → IsDirectoryInode image i → count_of (image_rows image) i ≤ 1
  named_once i directory = elim (cases_Bool (nat_eq i 0)) [
    | inl zero_is ↦ (let e = ap (count_of (image_rows image)) (eqb-true _ _ zero_is) in omega arith)
    | inr below ↦
        (let one = placed i directory (eqb-false _ _ below) in
        let e = ap (count_of (image_rows image)) one.inode in
        let once = one.place.once in
        omega arith)
  ]

  root_alone : holder_of tree 0 ≡ None
  root_alone = ap (option_map (λ (row : Key × ℕ). row.0.0)) (found_none (names_it 0) (entries (image_rows image)) unnamed)

  -- the holders above a directory end with the root
  record Climbs (x : ℕ) : Type 0 where
    above : List ℕ
    chain : Chain (holder_of tree) x above
    meets : (nat_eq x 0 || list_any (λ a. nat_eq a 0) above) ≡ true

  at_root : (x : ℕ) → nat_eq x 0 ≡ true → Climbs x
  at_root x zero_is =
      record { above = []; chain = ap (holder_of tree) (eqb-true _ _ zero_is) ∙ root_alone; meets = ap (λ b. b || false) zero_is }

  -- the entry of what has a depth
  told : (x depth : ℕ) (o : Option Holder) → item_with holder_inode x holders ≡ o → option_map (λ (h : Holder). h.depth) o ≡ Some depth
      → (h : Holder) × (item_with holder_inode x holders ≡ Some h) × (h.depth ≡ depth)
  told x depth None is same = absurd (none_some same)
  told x depth (Some h) is same = (h, is, some_same same)

  one_less : (o : Option ℕ) (depth : ℕ) → option_map suc o ≡ Some (suc depth) → o ≡ Some depth
  one_less None depth same = absurd (none_some same)
  one_less (Some n) depth same = ap Some (let e : suc n ≡ suc depth = some_same same in omega arith)

  not_zero : (o : Option ℕ) → option_map suc o ≡ Some 0 → ⊥
  not_zero None same = none_some same
  not_zero (Some n) same = (let e : suc n ≡ 0 = some_same same in omega arith)

  entry_at : (depth x : ℕ) → nat_eq x 0 ≡ false → depth_by holders x ≡ Some depth
      → (h : Holder) × (item_with holder_inode x holders ≡ Some h) × (h.depth ≡ depth)
  entry_at depth x below is =
      told x depth (item_with holder_inode x holders) refl
      (sym (cond-false (nat_eq x 0) (Some 0) (option_map (λ (h : Holder). h.depth) (item_with holder_inode x holders)) below) ∙ is)

  place_at : (x : ℕ) (h : Holder) → item_with holder_inode x holders ≡ Some h → IsPlace image holders h
  place_at x h is = of_found holder_inode (IsPlace image holders) holders x h are.right is

  climbs : (depth x : ℕ) → depth_by holders x ≡ Some depth → Climbs x
  climbs zero x is = elim (cases_Bool (nat_eq x 0)) [
    | inl zero_is ↦ at_root x zero_is
    | inr below ↦
        (let one = entry_at 0 x below is in
        absurd (not_zero (depth_by holders one.0.holder) ((place_at x one.0 one.1).depth ∙ ap Some one.2)))
  ]
  climbs (suc less) x is = elim (cases_Bool (nat_eq x 0)) [
    | inl zero_is ↦ at_root x zero_is
    | inr below ↦ by (entry_at (suc less) x below is) (λ y. climbs less y)
  ]
    where
      by : (h : Holder) × (item_with holder_inode x holders ≡ Some h) × (h.depth ≡ suc less)
          → ((y : ℕ) → depth_by holders y ≡ Some less → Climbs y) → Climbs x
      by one up =
          (let h = one.0 in
          let place = place_at x h one.1 in
          let more = up h.holder (one_less (depth_by holders h.holder) less (place.depth ∙ ap Some one.2)) in
          record {
            above = h.holder ∷ more.above;
            chain = (ap (holder_of tree) (sym (found_item holder_inode holders x h one.1).number) ∙ place.holder, more.chain);
            meets = or_right (nat_eq x 0) _ more.meets;
          })

  -- a walk from the root reaches a directory
  pub reached : (i : ℕ) → IsDirectoryInode image i → is_unreached image i ≡ false
  reached i directory = ap not (below (elim (cases_Bool (nat_eq i 0)) [
    | inl zero_is ↦ at_root i zero_is
    | inr other ↦
        (let one = placed i directory (eqb-false _ _ other) in
        climbs one.entry.depth i
        (cond-false (nat_eq i 0) (Some 0) (option_map (λ (h : Holder). h.depth) (item_with holder_inode i holders)) other
        ∙ ap (option_map (λ (h : Holder). h.depth)) one.found))
  ]))
    where
      below : Climbs i → (nat_eq i 0 || lies_below tree i 0) ≡ true
      below up =
          let short = subst (λ n. length up.above ≤ n) (sym (len-entries (image_rows image))) (chain_within (entries (image_rows image)) i up.above up.chain) in
          ap (λ l. nat_eq i 0 || list_any (λ a. nat_eq a 0) l) (walk_meets tree (len (image_rows image)) i up.above up.chain short) ∙ up.meets
