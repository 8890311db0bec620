-- Images without a fault: their trees are sound and they stand for them; and which images have none.
use Rattle.std.proofs.Common.{Bool, ◌≡◌, ℕ, ◌/◌, ◌<◌, ◌≤◌, true, false, cond, List, length, replicate, Option, Some, None, IsSome, inl, refl, sym, ap, subst, arith, nat_lt, ◌∙◌, ◌⊎◌, ◌≢◌, inr, nat_eq, not, ◌&&◌}
use borrow.Author.Tests.{ltb-true, ltb-false}
use Rattle.std.specs.Prelude.{is_none}
use Rattle.std.specs.FinMap.{get}
use Rattle.tree_laws.specs.Tree.{TreeState}
use Rattle.tree_laws.specs.Sound.{IsNumbered, IsWithinLimits}
use Rattle.tree_laws.specs.Laws.{IsSoundTree}
use Rattle.sfs_image.specs.Super.{Layout}
use Rattle.sfs_image.specs.Settled.{SlotFault, image_block, layout_of, settled, super_fault_of, journal_fault_of, parts_of}
use Rattle.sfs_image.specs.Seen.{SeenInodes, Seen}
use Rattle.sfs_image.proofs.SuperLaws.{super_facts}
use Rattle.sfs_base.proofs.BasicLists.{zeros_read}
use Rattle.image_laws.specs.ImageTree.{is_node, nodes_where, image_tree}
use Rattle.sfs_image.specs.Part.{Part, seen_of, is_directory_part}
use Rattle.sfs_image.specs.Rules.{breaks_record, breaks_root, breaks_size, breaks_pointers, breaks_apart, breaks_tail, breaks_slots, breaks_bytes_rule}
use Rattle.sfs_image.specs.ImageOf.{with_opened}
use Rattle.sfs_image.specs.Slot.{kind_byte}
use Rattle.sfs_image.proofs.ImageOfLaws.{read_as}
use Rattle.sfs_image.proofs.RuleLaws.{rule_from_apart}
use Rattle.sfs_base.proofs.BasicNumbers.{not_same}
use borrow.Author.Tests.{eqb-true, eqb-false, eq-eqb}
use Rattle.image_laws.specs.Renamed.{Numbering}
use Rattle.image_laws.specs.Stands.{ShowsNode, IsUnused, StandsForTree, StandsForSoundTree}
use Rattle.image_laws.proofs.Standing.{directory_kind, standing_images_show}
use Rattle.image_laws.specs.Image.{inodes_shown, image_inodes, breaks_bytes_of, ImageFault, first_of_faults, fault_of, making_at_mount, HasGoodBytes}
use Rattle.image_laws.specs.Keeps.{KeepsRules}
use Rattle.image_laws.specs.Rules.{TreeFault, tree_fault, breaks_rule, KeepsByteRules}
use Rattle.image_laws.specs.Mount.{ShowsByKind}
use Rattle.image_laws.specs.Laws.{TreesOfImagesAreMounted, StandingImagesAreRead, StandingPartsAreRead}
use Rattle.sfs_base.proofs.BasicOptions.{none_some, some_same, none_not_some}
use Rattle.image_laws.proofs.Images.{no_node_outside, directory_is_node}
use Rattle.image_laws.proofs.Faults.{no_break, no_fault_is_rules_kept}
use Rattle.image_laws.proofs.Mounted.{sound_shown, limits_where, rules_make_standing}
use Rattle.image_laws.proofs.Parts.{gathered_whole, shows_by_kind, holds_apart, root_shown}

-- the nodes of a tree of inodes have the numbers of these, and no core has made one
pub numbered : (inodes : SeenInodes) (share cores : ℕ)
    → IsNumbered (image_tree inodes (record { first = inodes.count; share = share; made = replicate cores 0 }))
numbered inodes share cores = record {
  known = λ node some. inl (below node some);
  within = λ core lt. let z = zeros_read cores core in omega arith;
}
  where
    below : (node : ℕ) → IsSome (get (nodes_where (is_node inodes) inodes) node) → node < inodes.count
    below node some = elim (nat_lt node inodes.count) as (λ b. nat_lt node inodes.count ≡ b → node < inodes.count) [
      | true ↦ λ t. ltb-true _ _ t
      | false ↦
          λ t. absurd (none_not_some (get (nodes_where (is_node inodes) inodes) node) (no_node_outside inodes (is_node inodes) node (ltb-false _ _ t)) some)
    ] refl

-- Neither the superblock nor a journal of an image has a fault.
pub record HasGoodStart (image : List ℕ) : Type 0 where
  pub super : super_fault_of image ≡ None
  pub journals : journal_fault_of (layout_of image) image ≡ None

module _ (image : List ℕ) where
  abbrev inodes : SeenInodes
  inodes = image_inodes image

  abbrev layout : Layout
  layout = layout_of image

  some_inodes : super_fault_of image ≡ None → 0 < inodes.count
  some_inodes none = let low = (super_facts (length image / 4096) layout (image_block image 0) none).fits.ranges.inodes_low in omega arith

  -- no rule on bytes is broken
  record IsGood : Type 0 where
    start : HasGoodStart image
    inodes_good : (rule i : ℕ) → 1 ≤ rule → rule ≤ 7 → i < layout.inodes → breaks_bytes_of image rule i ≡ false

  module _ (g : IsGood) where
    shows : ShowsByKind inodes
    shows =
        shows_by_kind (parts_of layout image) layout.inodes (λ i lt. gathered_whole (image_block image) (settled layout image i))
        (λ i lt. g.inodes_good 1 i (omega arith) (omega arith) lt) (λ i lt. g.inodes_good 3 i (omega arith) (omega arith) lt)

    byte_rules : KeepsByteRules inodes
    byte_rules = record {
      root = (some_inodes g.start.super, root_shown (parts_of layout image 0) (g.inodes_good 2 0 (omega arith) (omega arith) (some_inodes g.start.super)));
      apart =
          holds_apart (parts_of layout image) layout.inodes (λ i lt. gathered_whole (image_block image) (settled layout image i))
          (λ i lt. g.inodes_good 1 i (omega arith) (omega arith) lt) (λ i lt. g.inodes_good 5 i (omega arith) (omega arith) lt);
    }

    no_tree_fault : KeepsRules inodes → tree_fault (breaks_bytes_of image) inodes ≡ None
    no_tree_fault k = (no_fault_is_rules_kept inodes (breaks_bytes_of image) byte_rules g.inodes_good).1 k

    faultless : KeepsRules inodes → fault_of image ≡ None
    faultless k =
        by_faults (super_fault_of image) (journal_fault_of layout image) (tree_fault (breaks_bytes_of image) inodes) g.start.super g.start.journals
        (no_tree_fault k)
      where
        by_faults : (super : Option ℕ) (journal : Option SlotFault) (tree : Option TreeFault) → super ≡ None → journal ≡ None → tree ≡ None →
            first_of_faults super journal tree ≡ None
        by_faults None None None a b c = refl
        by_faults (Some at) journal tree a b c = absurd (none_some (sym a))
        by_faults None (Some slot) tree a b c = absurd (none_some (sym b))
        by_faults None None (Some fault) a b c = absurd (none_some (sym c))

  -- an image without a fault has good bytes, and keeps the rules
  record IsFaultless : Type 0 where
    start : HasGoodStart image
    tree : tree_fault (breaks_bytes_of image) inodes ≡ None

  parts_of_none : fault_of image ≡ None → IsFaultless
  parts_of_none e = by_faults (super_fault_of image) (journal_fault_of layout image) (tree_fault (breaks_bytes_of image) inodes) refl refl refl e
    where
      by_faults : (super : Option ℕ) (journal : Option SlotFault) (tree : Option TreeFault) → super_fault_of image ≡ super →
          journal_fault_of layout image ≡ journal → tree_fault (breaks_bytes_of image) inodes ≡ tree → first_of_faults super journal tree ≡ None → IsFaultless
      by_faults None None None a b c e = record { start = record { super = a; journals = b }; tree = c }
      by_faults (Some at) journal tree a b c e = absurd (none_some (sym e))
      by_faults None (Some slot) tree a b c e = absurd (none_some (sym e))
      by_faults None None (Some fault) a b c e = absurd (none_some (sym e))

  good_bytes : fault_of image ≡ None → IsGood
  good_bytes e =
      let f = parts_of_none e in
      record {
        start = f.start;
        inodes_good =
            λ rule i low high lt. byte_rule rule i high (no_break (breaks_rule (breaks_bytes_of image) inodes) inodes.count f.tree rule i low (omega arith) lt);
      }
    where
      byte_rule : (rule i : ℕ) → rule ≤ 7 → breaks_rule (breaks_bytes_of image) inodes rule i ≡ false → breaks_bytes_of image rule i ≡ false
      byte_rule rule i high e =
          elim (nat_lt 7 rule) as (λ b. nat_lt 7 rule ≡ b
          → cond b (Rattle.image_laws.specs.Rules.breaks_tree_rule inodes rule i) (breaks_bytes_of image rule i) ≡ false
          → breaks_bytes_of image rule i ≡ false) [
            | true ↦ λ t _. absurd (let lt = ltb-true _ _ t in omega arith)
            | false ↦ λ t h. h
          ] refl e

  rules_kept : fault_of image ≡ None → KeepsRules inodes
  rules_kept e = let g = good_bytes e in (no_fault_is_rules_kept inodes (breaks_bytes_of image) (byte_rules g) g.inodes_good).0 (parts_of_none e).tree

  no_fault : (share : ℕ) (tree : TreeState) (o : Option ImageFault) → fault_of image ≡ o →
      cond (is_none o) (Some (image_tree inodes (making_at_mount image share))) None ≡ Some tree →
      (fault_of image ≡ None) × (image_tree inodes (making_at_mount image share) ≡ tree)
  no_fault share tree None e is = (e, some_same is)
  no_fault share tree (Some fault) e is = absurd (none_some is)

  -- where the inodes stand for a tree, the rules on the root and on blocks that are held twice hold too
  module _ (h : HasGoodBytes image) (num : Numbering) (tree : TreeState) (is : StandsForSoundTree num tree inodes) where
    root_good : (i : ℕ) → breaks_root (parts_of layout image i) i ≡ false
    root_good i = elim (nat_eq i 0) as (λ b. nat_eq i 0 ≡ b → (b && not (is_directory_part (parts_of layout image i))) ≡ false) [
      | false ↦ λ _. refl
      | true ↦
          λ t. ap (λ (j : ℕ). not (is_directory_part (parts_of layout image j))) (eqb-true _ _ t)
          ∙ ap not (eq-eqb _ _ ((is.stands.each 0 0 is.stands.root).kind ∙ ap kind_byte (directory_kind tree 0 is.sound.root)))
    ] refl

    apart_good : (i : ℕ) → i < layout.inodes → breaks_apart (parts_of layout image) i ≡ false
    apart_good i lt = rule_from_apart (parts_of layout image) i (λ j p q le small tiny some same. is.stands.apart i p j q lt (omega arith) small tiny some same)

    is_good : IsGood
    is_good = record {
      start = record { super = h.super; journals = h.journals };
      inodes_good = λ rule i low high lt. elim (nat_eq rule 2) as (λ b. nat_eq rule 2 ≡ b → breaks_bytes_of image rule i ≡ false) [
        | true ↦ λ t. ap (λ (r : ℕ). breaks_bytes_of image r i) (eqb-true _ _ t) ∙ root_good i
        | false ↦ λ t. elim (nat_eq rule 5) as (λ b. nat_eq rule 5 ≡ b → breaks_bytes_of image rule i ≡ false) [
          | true ↦ λ u. ap (λ (r : ℕ). breaks_bytes_of image r i) (eqb-true _ _ u) ∙ apart_good i lt
          | false ↦ λ u. h.parts rule i low high (eqb-false _ _ t) (eqb-false _ _ u) lt
        ] refl
      ] refl;
    }

pub trees_of_images_are_mounted : TreesOfImagesAreMounted
trees_of_images_are_mounted image share tree is =
    let f = no_fault image share tree (fault_of image) refl is in
    let k = rules_kept image f.0 in
    record {
      sound =
          subst IsSoundTree f.1
          (record {
            sound = sound_shown (image_inodes image) (making_at_mount image share) k;
            numbered = numbered (image_inodes image) share (layout_of image).cores;
          });
      limits =
          subst IsWithinLimits f.1
          (limits_where (image_inodes image) (is_node (image_inodes image)) (directory_is_node (image_inodes image)) (making_at_mount image share)
          (shows image (good_bytes image f.0)).directories k);
      itself = rules_make_standing (image_inodes image) (making_at_mount image share) k (shows image (good_bytes image f.0));
    }

pub standing_images_are_read : StandingImagesAreRead
standing_images_are_read image share num tree h is =
    let shown = standing_images_show num tree (image_inodes image) (making_at_mount image share) is in
    let none = faultless image (is_good image h num tree is) shown.rules in
    record {
      faultless = none;
      shown = image_tree (image_inodes image) (making_at_mount image share);
      read = ap (λ (o : Option ImageFault). cond (is_none o) (Some (image_tree (image_inodes image) (making_at_mount image share))) None) none;
      shape = shown.shape;
    }

-- inodes stand for what others stand for that show the same
stands_alike : (num : Numbering) (tree : TreeState) (image other : SeenInodes) → other.count ≡ image.count →
    ((i : ℕ) → i < other.count → other.seen i ≡ image.seen i) → StandsForTree num tree image → StandsForTree num tree other
stands_alike num tree image other count same st = record {
  root = st.root;
  once = st.once;
  within = within;
  named = st.named;
  each = λ node i is. subst (ShowsNode num tree node) (sym (same i (within node i is))) (st.each node i is);
  rest = λ i lt. elim (st.rest i (subst (λ (n : ℕ). i < n) count lt)) as (λ _. ((node : ℕ) × (num node ≡ Some i)) ⊎ IsUnused (other.seen i)) [
    | inl node ↦ inl node
    | inr free ↦ inr (subst IsUnused (sym (same i lt)) free)
  ];
  apart = λ i p j q lt less small tiny some both.
      let a = ap (λ (seen : Seen). seen.blocks p) (same i lt) in
      let b = ap (λ (seen : Seen). seen.blocks q) (same j less) in
      st.apart i p j q (subst (λ (n : ℕ). i < n) count lt) (subst (λ (n : ℕ). j < n) count less) small tiny (λ none. some (a ∙ none)) (sym a ∙ both ∙ b);
}
  where
    within : (node i : ℕ) → num node ≡ Some i → i < other.count
    within node i is = subst (λ (n : ℕ). i < n) (sym count) (st.within node i is)

-- a rule on bytes other than that on blocks that are held twice looks at one part
module _ (divided : Layout) (parts others : ℕ → Part) (i : ℕ) (same : parts i ≡ others i) where
  pub rule_alike : (rule : ℕ) → rule ≢ 5 → breaks_bytes_rule rule divided parts i ≡ breaks_bytes_rule rule divided others i
  rule_alike rule other =
      ap (λ (p : Part). by_rule p (breaks_apart parts i) (nat_eq rule 5)) same
      ∙ ap (λ b. by_rule (others i) (breaks_apart parts i) b) (not_same rule 5 other)
      ∙ sym (ap (λ b. by_rule (others i) (breaks_apart others i) b) (not_same rule 5 other))
    where
      by_rule : Part → Bool → Bool → Bool
      by_rule part apart fifth =
          cond (nat_eq rule 1) (breaks_record part)
          (cond (nat_eq rule 2) (breaks_root part i)
          (cond (nat_eq rule 3) (breaks_size part)
          (cond (nat_eq rule 4) (breaks_pointers divided part)
          (cond fifth apart (cond (nat_eq rule 6) (breaks_tail part) (nat_eq rule 7 && breaks_slots part))))))

pub standing_parts_are_read : StandingPartsAreRead
standing_parts_are_read divided opened parts image share num tree p =
    let read = read_as divided opened parts image p.image_of in
    let settles : (i : ℕ) → i < (layout_of image).inodes → parts_of (layout_of image) image i ≡ with_opened divided opened parts i =
    subst (λ (l : Layout). (i : ℕ) → i < l.inodes → parts_of l image i ≡ with_opened divided opened parts i) (sym p.image_of.divided) read.settles in
    let count = ap (λ (l : Layout). l.inodes) p.image_of.divided in
    standing_images_are_read image share num tree (record {
      super = read.super;
      journals = subst (λ (l : Layout). journal_fault_of l image ≡ None) (sym p.image_of.divided) read.journals;
      parts = λ rule i low high no_root no_apart lt.
          rule_alike (layout_of image) (parts_of (layout_of image) image) (with_opened divided opened parts) i (settles i lt) rule no_apart
          ∙ ap (λ (l : Layout). breaks_bytes_rule rule l (with_opened divided opened parts) i) p.image_of.divided
          ∙ p.bytes rule i low high no_root no_apart (subst (λ (n : ℕ). i < n) count lt);
    }) (record {
      sound = p.stands.sound;
      storable = p.stands.storable;
      stands =
          stands_alike num tree (inodes_shown divided (with_opened divided opened parts)) (image_inodes image) count
          (λ i lt. ap seen_of (settles i lt)) p.stands.stands;
    })
