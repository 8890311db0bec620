-- An image with a valid certificate has no fault.
use Rattle.std.proofs.Common.{◌≡◌, ℕ, ◌<◌, ◌≤◌, Bool, false, cond, ◌||◌, ◌&&◌, List, nat_eq, Option, Some, None, refl, sym, ap, subst, ◌∙◌, arith, inl, inr}
use Rattle.std.specs.Prelude.{is_none}
use Rattle.std.proofs.lemmas.Bool.{cases_Bool, eqb-true, le-ltb, le-ltb}
use Rattle.sfs_base.proofs.BasicTruth.{not_both_of}
use Rattle.sfs_base.proofs.BasicOptions.{none_some}
use Rattle.tree_laws.specs.Tree.{count_of}
use Rattle.sfs_image.specs.Settled.{SlotFault, layout_of, parts_of, super_fault_of, journal_fault_of}
use Rattle.sfs_image.specs.Super.{Layout}
use Rattle.sfs_image.specs.Seen.{SeenInodes}
use Rattle.sfs_image.proofs.RuleLaws.{rule_from_apart}
use Rattle.image_laws.specs.Image.{ImageFault, breaks_bytes_of, fault_of, first_of_faults, image_inodes, making_at_mount, tree_of}
use Rattle.image_laws.specs.ImageTree.{image_rows, image_tree, shows_directory}
use Rattle.image_laws.specs.Keeps.{IsDirectoryInode}
use Rattle.image_laws.specs.Rules.{FindsFault, TreeFault, breaks_rule, first_fault, is_named_twice, is_unreached, tree_fault}
use Rattle.image_laws.proofs.FirstFault.{first_fault_is_least}
use Rattle.image_laws.proofs.WholeImages.{trees_of_images_are_mounted}
use Rattle.image_check.specs.Laws.{ValidImagesAreFaultless, ValidImagesHaveSoundTrees}
use Rattle.image_check.specs.Valid.{IsValid, is_certified_rule}
use Rattle.image_check.specs.declared.certificate.Certificate.{Certificate}
use Rattle.image_check.proofs.Reaching.{named_once, reached, root_unnamed}

module _ (image : List ℕ) (cert : Certificate) (valid : IsValid image cert) where
  abbrev inodes : SeenInodes
  inodes = image_inodes image

  abbrev layout : Layout
  layout = layout_of image

  -- whether an inode breaks a rule
  abbrev breaks : ℕ → ℕ → Bool
  breaks = breaks_rule (breaks_bytes_of image) inodes

  unnamed : count_of (image_rows inodes) 0 ≡ 0
  unnamed = root_unnamed inodes (λ i within. valid.rules 11 i (omega arith) (omega arith) refl within)

  -- what is asked of directories alone
  of_directory : (i : ℕ) (asked : Bool) → i < layout.inodes → (IsDirectoryInode inodes i → asked ≡ false) → (shows_directory (inodes.seen i) && asked) ≡ false
  of_directory i asked within none = elim (cases_Bool (shows_directory (inodes.seen i))) [
    | inl directory ↦ ap (λ b. b && asked) directory ∙ none (within, eqb-true _ _ directory)
    | inr other ↦ ap (λ b. b && asked) other
  ]

  fifth : (i : ℕ) → i < layout.inodes → breaks 5 i ≡ false
  fifth i within =
      rule_from_apart (parts_of layout image) i
      (λ j p q low small tiny some same. valid.owners.apart i p j q within (omega arith) small tiny some same)

  twelfth : (i : ℕ) → i < layout.inodes → breaks 12 i ≡ false
  twelfth i within =
      of_directory i (is_named_twice inodes i) within
      (λ directory. le-ltb 1 (count_of (image_rows inodes) i) (named_once inodes cert.holders.items valid.holders unnamed i directory))

  fourteenth : (i : ℕ) → i < layout.inodes → breaks 14 i ≡ false
  fourteenth i within = of_directory i (is_unreached inodes i) within (reached inodes cert.holders.items valid.holders unnamed i)

  -- no inode breaks a rule
  pub none_broken : (rule i : ℕ) → 1 ≤ rule → rule ≤ 14 → i < layout.inodes → breaks rule i ≡ false
  none_broken rule i low high within = elim (cases_Bool (is_certified_rule rule)) [
    | inr plain ↦ valid.rules rule i low high plain within
    | inl certified ↦ elim (cases_Bool (nat_eq rule 5)) [
      | inl is ↦ subst (λ (r : ℕ). breaks r i ≡ false) (sym (eqb-true _ _ is)) (fifth i within)
      | inr a ↦ elim (cases_Bool (nat_eq rule 12)) [
        | inl is ↦ subst (λ (r : ℕ). breaks r i ≡ false) (sym (eqb-true _ _ is)) (twelfth i within)
        | inr b ↦ elim (cases_Bool (nat_eq rule 14)) [
          | inl is ↦ subst (λ (r : ℕ). breaks r i ≡ false) (sym (eqb-true _ _ is)) (fourteenth i within)
          | inr c ↦
              absurd
              (not_both_of (is_certified_rule rule) certified
              (ap (λ x. x || nat_eq rule 12 || nat_eq rule 14) a ∙ ap (λ x. x || nat_eq rule 14) b ∙ c))
        ]
      ]
    ]
  ]

  no_tree_fault : (found : Option TreeFault) → FindsFault breaks layout.inodes found → found ≡ None
  no_tree_fault None is = refl
  no_tree_fault (Some fault) is =
      absurd (not_both_of (breaks fault.rule fault.inode) is.breaks_it (none_broken fault.rule fault.inode is.rule_low is.rule_high is.within))

  pub faultless : fault_of image ≡ None
  faultless =
      by (super_fault_of image) (journal_fault_of layout image) (tree_fault (breaks_bytes_of image) inodes) valid.super valid.journals
      (no_tree_fault (first_fault breaks layout.inodes) (first_fault_is_least breaks layout.inodes))
    where
      by : (super : Option ℕ) (journal : Option SlotFault) (tree : Option TreeFault) → super ≡ None → journal ≡ None → tree ≡ None
          → first_of_faults super journal tree ≡ None
      by None None None a b c = refl
      by (Some at) journal tree a b c = absurd (none_some (sym a))
      by None (Some slot) tree a b c = absurd (none_some (sym b))
      by None None (Some fault) a b c = absurd (none_some (sym c))

pub valid_images_are_faultless : ValidImagesAreFaultless
valid_images_are_faultless image cert valid = faultless image cert valid

pub valid_images_have_sound_trees : ValidImagesHaveSoundTrees
valid_images_have_sound_trees image cert share valid =
    let tree = image_tree (image_inodes image) (making_at_mount image share) in
    let is : tree_of image share ≡ Some tree = ap (λ (o : Option ImageFault). cond (is_none o) (Some tree) None) (faultless image cert valid) in
    record { tree = tree; is = is; sound = (trees_of_images_are_mounted image share tree is).sound }
