-- An image without a fault has a valid certificate.
use Rattle.std.proofs.Common.{◌≡◌, ◌≢◌, ℕ, zero, suc, ◌+◌, ◌<◌, ◌≤◌, Bool, true, false, cond, not, ◌&&◌, List, ◌∷◌, All, length, nat_eq, Option, Some, None, IsSome, option_map, refl, sym, ap, subst, ◌∙◌, arith, inl, inr}
use Rattle.std.specs.Prelude.{is_none}
use Rattle.std.specs.List.{find, range_with_len}
use Rattle.std.specs.Option.{unwrap_or}
use Rattle.std.specs.FinMap.{len}
use Rattle.std.proofs.lemmas.Bool.{cases_Bool, cond-true, cond-false, eq-eqb, eqb-true, eqb-false}
use Rattle.sfs_base.proofs.BasicTruth.{and_first, and_second, not_both_of, not_true}
use Rattle.sfs_base.proofs.BasicNumbers.{not_same}
use Rattle.sfs_base.proofs.BasicOptions.{none_some, some_same}
use Rattle.tree_laws.specs.Sound.{Above, IsSound, at_root, below}
use Rattle.tree_laws.specs.Tree.{TreeState, holder_of, names_it, walk_up}
use Rattle.tree_laws.proofs.Counting.{count_some}
use Rattle.tree_laws.proofs.Walks.{holder_is, walk_is}
use Rattle.sfs_image.specs.Rules.{any_below}
use Rattle.sfs_image.specs.Seen.{PLACES, SeenInodes}
use Rattle.sfs_image.specs.Settled.{SlotFault, journal_fault_of, layout_of, parts_of, super_fault_of}
use Rattle.sfs_image.proofs.Basics.{any_below-at, any_below-some}
use Rattle.sfs_image.proofs.RuleLaws.{good_from_rule}
use Rattle.image_laws.specs.Image.{breaks_bytes_of, fault_of, first_of_faults, image_inodes, making_at_mount, tree_of}
use Rattle.image_laws.specs.ImageTree.{NOTHING_MADE, image_rows, image_tree, is_used, shows_directory}
use Rattle.image_laws.specs.Keeps.{IsDirectoryInode, KeepsRules, ruled_tree}
use Rattle.image_laws.specs.Rules.{TreeFault, breaks_rule, tree_fault}
use Rattle.image_laws.specs.Stands.{HoldsApart}
use Rattle.image_laws.proofs.Faults.{no_break, none_found}
use Rattle.image_laws.proofs.Images.{directory_shown, slot_back}
use Rattle.image_laws.proofs.Mounted.{sound_shown}
use Rattle.keyed_list.specs.Ascending.{AscendBy, item_with}
use Rattle.image_check.specs.Entries.{holder_inode, owner_block}
use Rattle.image_check.specs.Holders.{AreHolders, IsPlace, depth_by}
use Rattle.image_check.specs.Laws.{FaultlessImagesAreCertified}
use Rattle.image_check.specs.Made.{certificate_of, holders_of, is_holding, owner_of, owners_of, place_of}
use Rattle.image_check.specs.Owners.{AreOwners, IsOwner}
use Rattle.image_check.specs.Valid.{IsValid}
use Rattle.image_check.specs.declared.certificate.Holder.{Holder}
use Rattle.image_check.specs.declared.certificate.Owner.{Owner}
use Rattle.image_check.proofs.Listed.{all_given, found_given, given_ascend}

module _ (image : SeenInodes) (keeps : KeepsRules image) where
  abbrev tree : TreeState
  tree = ruled_tree image

  sound : IsSound tree
  sound = sound_shown image NOTHING_MADE keeps

  -- the entry of a directory
  abbrev entry : ℕ → Holder
  entry i = record { inode = i; holder = unwrap_or (holder_of tree i) 0; depth = length (walk_up (len (image_rows image)) tree i) }

  abbrev test : ℕ → Bool
  test i = shows_directory (image.seen i) && not (nat_eq i 0)

  is_entry : (i : ℕ) (x : Holder) → place_of image i ≡ Some x → (test i ≡ true) × (entry i ≡ x)
  is_entry i x is = elim (cases_Bool (test i)) [
    | inl there ↦ (there, some_same (sym (cond-true (test i) (Some (entry i)) None there) ∙ is))
    | inr none ↦ absurd (none_some (sym (cond-false (test i) (Some (entry i)) None none) ∙ is))
  ]

  there_is : (i : ℕ) → IsDirectoryInode image i → i ≢ 0 → place_of image i ≡ Some (entry i)
  there_is i directory some =
      cond-true (test i) (Some (entry i)) None
      (ap (λ b. b && not (nat_eq i 0)) (eq-eqb _ _ directory.1) ∙ ap not (not_same i 0 some))

  numbers : (i : ℕ) (x : Holder) → place_of image i ≡ Some x → holder_inode x ≡ i
  numbers i x is = ap holder_inode (sym (is_entry i x is).1)

  -- what a number finds among the entries
  finds : (i : ℕ) → IsDirectoryInode image i → i ≢ 0 → item_with holder_inode i (holders_of image) ≡ Some (entry i)
  unfolding holders_of
  finds i directory some =
      found_given holder_inode (place_of image) numbers 0 image.count i (omega arith) (let w = directory.0 in omega arith) ∙ there_is i directory some

  way_down : {node : ℕ} {l : List ℕ} → Above tree node l → node ≡ 0 → length l ≡ 0
  way_down at_root zero_is = refl
  way_down (below node holder name l row rest) zero_is = absurd (sound.unnamed holder name (row ∙ ap Some zero_is))

  walks : (i : ℕ) (l : List ℕ) → IsDirectoryInode image i → Above tree i l → walk_up (len (image_rows image)) tree i ≡ l
  walks i l directory way = walk_is tree sound way (directory_shown image NOTHING_MADE i directory.0 ∙ eq-eqb _ _ directory.1)

  depth_is : (i : ℕ) (l : List ℕ) → IsDirectoryInode image i → Above tree i l → depth_by (holders_of image) i ≡ Some (length l)
  depth_is i l directory way = elim (cases_Bool (nat_eq i 0)) [
    | inl zero_is ↦
        cond-true (nat_eq i 0) (Some 0) (option_map (λ (h : Holder). h.depth) (item_with holder_inode i (holders_of image))) zero_is
        ∙ ap Some (sym (way_down way (eqb-true _ _ zero_is)))
    | inr other ↦
        cond-false (nat_eq i 0) (Some 0) (option_map (λ (h : Holder). h.depth) (item_with holder_inode i (holders_of image))) other
        ∙ ap (option_map (λ (h : Holder). h.depth)) (finds i directory (eqb-false _ _ other))
        ∙ ap (λ (l : List ℕ). Some (length l)) (walks i l directory way)
  ]

  place : {i : ℕ} {l : List ℕ} → Above tree i l → IsDirectoryInode image i → i ≢ 0 → IsPlace image (holders_of image) (entry i)
  place at_root directory some = absurd (some refl)
  place (below i holder name l row rest) directory some =
      let kind = directory_shown image NOTHING_MADE i directory.0 ∙ eq-eqb _ _ directory.1 in
      let held = holder_is tree sound i holder name row kind in
      let slot = slot_back image holder name i row in
      let up : IsDirectoryInode image holder = (slot.within, slot.kind) in
      let counted = count_some (names_it i) (image_rows image) (holder, name) i row (eq-eqb i i refl) in
      let most = keeps.named_once i directory in
      let holder_is : (entry i).holder ≡ holder = ap (λ (o : Option ℕ). unwrap_or o 0) held in
      record {
        directory = directory;
        no_root = some;
        once = omega arith;
        holder = held ∙ ap Some (sym holder_is);
        depth =
            ap (λ (d : ℕ). option_map suc (depth_by (holders_of image) d)) holder_is ∙ ap (option_map suc) (depth_is holder l up rest)
            ∙ ap (λ (l : List ℕ). Some (length l)) (sym (walks i (holder ∷ l) directory (below i holder name l row rest)));
      }

  right : (i : ℕ) (x : Holder) → i < image.count → place_of image i ≡ Some x → IsPlace image (holders_of image) x
  right i x within is =
      let both = is_entry i x is in
      let directory : IsDirectoryInode image i = (within, eqb-true _ _ (and_first (shows_directory (image.seen i)) _ both.0)) in
      let some : i ≢ 0 = eqb-false _ _ (not_true (nat_eq i 0) (and_second (shows_directory (image.seen i)) _ both.0)) in
      subst (IsPlace image (holders_of image)) both.1 (place (keeps.reached i directory).1 directory some)

  ascends : AscendBy holder_inode (holders_of image)
  unfolding holders_of
  ascends = given_ascend holder_inode (place_of image) numbers 0 image.count

  rights : (list : List Holder) → list ≡ holders_of image → All (IsPlace image list) (holders_of image)
  unfolding holders_of
  rights list same = all_given holder_inode (place_of image) numbers (IsPlace image list) 0 image.count
      (λ i x low high is. subst (λ (l : List Holder). IsPlace image l x) (sym same) (right i x (omega arith) is))

  pub holders_are : AreHolders image (holders_of image)
  holders_are = record {
    ascend = ascends;
    each = λ i directory some. subst IsSome (sym (finds i directory some)) refl;
    right = rights (holders_of image) refl;
  }

-- what is found among numbers in turn passes
found_passes : (p : ℕ → Bool) (a n j : ℕ) → find p (range_with_len a n) ≡ Some j → (p j ≡ true) × (a ≤ j) × (j < a + n)
found_passes p a zero j is = absurd (none_some is)
found_passes p a (suc n) j is = elim (cases_Bool (p a)) [
  | inl passes ↦
      (let e : a ≡ j = some_same (sym (cond-true (p a) (Some a) (find p (range_with_len (a + 1) n)) passes) ∙ is) in
      (sym (ap p e) ∙ passes, omega arith, omega arith))
  | inr fails ↦
      (let rest = found_passes p (a + 1) n j (sym (cond-false (p a) (Some a) (find p (range_with_len (a + 1) n)) fails) ∙ is) in
      (rest.0, omega (arith, rest.1), omega (arith, rest.2)))
]

module _ (image : SeenInodes) (apart : HoldsApart image) (blocks : ℕ)
    (low : (i place : ℕ) → i < image.count → (image.seen i).kind ≢ 0 → place < PLACES → (image.seen i).blocks place ≢ 0 → (image.seen i).blocks place < blocks) where
  abbrev holding : ℕ → Option ℕ
  holding block = find (is_holding image block) (range_with_len 0 image.count)

  -- the inode that holds a block
  record Holds (block i : ℕ) : Type 0 where
    used : (image.seen i).kind ≢ 0
    place : ℕ
    inside : place < PLACES
    names : (image.seen i).blocks place ≡ block

  holds : (block i : ℕ) → is_holding image block i ≡ true → Holds block i
  holds block i is =
      let one = any_below-some PLACES (λ place. nat_eq ((image.seen i).blocks place) block) (and_second (is_used image i) _ is) in
      record {
        used = eqb-false _ _ (not_true (nat_eq (image.seen i).kind 0) (and_first (is_used image i) _ is));
        place = one.0;
        inside = one.1;
        names = eqb-true _ _ one.2;
      }

  is_held : (i place : ℕ) → (image.seen i).kind ≢ 0 → place < PLACES → is_holding image ((image.seen i).blocks place) i ≡ true
  is_held i place used inside =
      ap (λ b. not b && any_below PLACES (λ other. nat_eq ((image.seen i).blocks other) ((image.seen i).blocks place))) (not_same (image.seen i).kind 0 used)
      ∙ any_below-at PLACES (λ other. nat_eq ((image.seen i).blocks other) ((image.seen i).blocks place)) place inside (eq-eqb _ _ refl)

  -- the entry of a block
  record IsEntry (block : ℕ) (x : Owner) : Type 0 where
    some : block ≢ 0
    own : owner_block x ≡ block
    found : holding block ≡ Some x.inode

  abbrev made : ℕ → Option ℕ → Option Owner
  made block o = option_map (λ i. record { block = block; inode = i }) o

  is_owner : (block : ℕ) (x : Owner) → owner_of image block ≡ Some x → IsEntry block x
  is_owner block x is = elim (cases_Bool (nat_eq block 0)) [
    | inl zero_is ↦ absurd (none_some (sym (cond-true (nat_eq block 0) None (made block (holding block)) zero_is) ∙ is))
    | inr other ↦ by (holding block) refl (sym (cond-false (nat_eq block 0) None (made block (holding block)) other) ∙ is) (eqb-false _ _ other)
  ]
    where
      by : (o : Option ℕ) → holding block ≡ o → made block o ≡ Some x → block ≢ 0 → IsEntry block x
      by None e same some = absurd (none_some same)
      by (Some i) e same some =
          record { some = some; own = ap owner_block (sym (some_same same)); found = e ∙ ap (λ (o : Owner). Some o.inode) (some_same same) }

  numbers_of : (block : ℕ) (x : Owner) → owner_of image block ≡ Some x → owner_block x ≡ block
  numbers_of block x is = (is_owner block x is).own

  holder_found : (i place : ℕ) → i < image.count → (image.seen i).kind ≢ 0 → place < PLACES → (image.seen i).blocks place ≢ 0
      → holding ((image.seen i).blocks place) ≡ Some i
  holder_found i place within used inside there = by (holding ((image.seen i).blocks place)) refl
    where
      by : (o : Option ℕ) → holding ((image.seen i).blocks place) ≡ o → holding ((image.seen i).blocks place) ≡ Some i
      by None none =
          absurd (not_both_of (is_holding image ((image.seen i).blocks place) i) (is_held i place used inside)
          (none_found (is_holding image ((image.seen i).blocks place)) 0 image.count none i (omega arith) (omega arith)))
      by (Some j) is =
          (let one = found_passes (is_holding image ((image.seen i).blocks place)) 0 image.count j is in
          let held = holds ((image.seen i).blocks place) j one.0 in
          let same = apart i place j held.place within (omega (arith, one.2)) inside held.inside there (sym held.names) in
          is ∙ ap Some (sym same.0))

  owns : (block : ℕ) (x : Owner) → owner_of image block ≡ Some x → IsOwner image x
  owns block x is =
      let one = is_owner block x is in
      let found = found_passes (is_holding image block) 0 image.count x.inode one.found in
      let held = holds block x.inode found.0 in
      record {
        within = omega (arith, found.2);
        used = held.used;
        place = held.place;
        low = held.inside;
        names = held.names ∙ sym one.own;
        there = λ none. one.some (sym one.own ∙ none);
      }

  pub owners_are : AreOwners image (owners_of image blocks)
  unfolding owners_of
  owners_are = record {
    ascend = given_ascend owner_block (owner_of image) numbers_of 0 blocks;
    apart = apart;
    each = λ i place within used inside there.
        found_given owner_block (owner_of image) numbers_of 0 blocks ((image.seen i).blocks place) (omega arith)
        (let h = low i place within used inside there in omega arith)
        ∙ cond-false (nat_eq ((image.seen i).blocks place) 0) None
        (option_map (λ j. record { block = (image.seen i).blocks place; inode = j }) (holding ((image.seen i).blocks place)))
        (not_same ((image.seen i).blocks place) 0 there)
        ∙ ap (option_map (λ j. record { block = (image.seen i).blocks place; inode = j })) (holder_found i place within used inside there);
    right = all_given owner_block (owner_of image) numbers_of (IsOwner image) 0 blocks (λ block x _ _ is. owns block x is);
  }

module _ (image : List ℕ) (none : fault_of image ≡ None) where
  abbrev inodes : SeenInodes
  inodes = image_inodes image

  -- nothing is wrong in superblock, journals and inodes
  record IsClean : Type 0 where
    super : super_fault_of image ≡ None
    journals : journal_fault_of (layout_of image) image ≡ None
    tree : tree_fault (breaks_bytes_of image) inodes ≡ None

  clean : IsClean
  clean = by (super_fault_of image) (journal_fault_of (layout_of image) image) (tree_fault (breaks_bytes_of image) inodes) refl refl refl none
    where
      by : (super : Option ℕ) (journal : Option SlotFault) (tree : Option TreeFault) → super_fault_of image ≡ super
          → journal_fault_of (layout_of image) image ≡ journal → tree_fault (breaks_bytes_of image) inodes ≡ tree → first_of_faults super journal tree ≡ None
          → IsClean
      by None None None a b c e = record { super = a; journals = b; tree = c }
      by (Some at) journal tree a b c e = absurd (none_some (sym e))
      by None (Some slot) tree a b c e = absurd (none_some (sym e))
      by None None (Some fault) a b c e = absurd (none_some (sym e))

  none_broken : (rule i : ℕ) → 1 ≤ rule → rule ≤ 14 → i < inodes.count → breaks_rule (breaks_bytes_of image) inodes rule i ≡ false
  none_broken rule i low high within = no_break (breaks_rule (breaks_bytes_of image) inodes) inodes.count clean.tree rule i low (omega arith) within

  keeps : KeepsRules inodes
  keeps = rules_of (tree_of image 0) refl
    where
      rules_of : (o : Option TreeState) → tree_of image 0 ≡ o → KeepsRules inodes
      rules_of o e =
          (let mounted =
          Rattle.image_laws.proofs.WholeImages.trees_of_images_are_mounted image 0 (image_tree inodes (making_at_mount image 0))
          (ap (λ (f : Option Rattle.image_laws.specs.Image.ImageFault). cond (is_none f) (Some (image_tree inodes (making_at_mount image 0))) None) none) in
          (Rattle.image_laws.proofs.Standing.standing_images_show
          (Rattle.image_laws.specs.Mount.own_numbers inodes) (Rattle.image_laws.specs.ImageTree.tree_with_orphans inodes (making_at_mount image 0)) inodes
          (making_at_mount image 0)
          (record { sound = mounted.itself.sound; storable = mounted.itself.storable; stands = mounted.itself.stands })).rules)

  -- each block that is held lies on the disk
  blocks_low : (i place : ℕ) → i < inodes.count → (inodes.seen i).kind ≢ 0 → place < PLACES → (inodes.seen i).blocks place ≢ 0
      → (inodes.seen i).blocks place < (layout_of image).blocks
  blocks_low i place within used inside there =
      (good_from_rule (layout_of image) (parts_of (layout_of image) image i) place (none_broken 4 i (omega arith) (omega arith) within)
      (not_same (inodes.seen i).kind 0 used) inside there).high

  certified : IsValid image (certificate_of image)
  unfolding certificate_of
  certified = record {
    super = clean.super;
    journals = clean.journals;
    rules = λ rule i low high _ within. none_broken rule i low high within;
    holders = holders_are inodes keeps;
    owners = owners_are inodes keeps.apart (layout_of image).blocks blocks_low;
    files = refl;
  }

pub faultless_images_are_certified : FaultlessImagesAreCertified
faultless_images_are_certified image none = certified image none
