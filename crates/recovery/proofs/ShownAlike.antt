-- Images that settle as the same parts show the same.
use Rattle.std.proofs.Common.{◌≡◌, ℕ, ◌<◌, cond, List, Option, None, Some, sym, ◌∙◌, ap, subst}
use Rattle.std.specs.Option.{is_none}
use Rattle.std.specs.Prelude.{replicate}
use Rattle.tree_laws.specs.Tree.{TreeState}
use Rattle.sfs_image.specs.Part.{Part, seen_of}
use Rattle.sfs_image.specs.Settled.{SlotFault, super_fault_of, journal_fault_of, layout_of, parts_of}
use Rattle.sfs_image.specs.Super.{Layout}
use Rattle.sfs_image.proofs.ImageOfLaws.{read_as}
use Rattle.image_laws.specs.Image.{ImageFault, inodes_shown, first_of_faults, image_inodes, breaks_bytes_of, fault_of, making_at_mount}
use Rattle.image_laws.specs.ImageTree.{Making, image_tree}
use Rattle.image_laws.specs.Rules.{tree_fault}
use Rattle.image_laws.proofs.Alike.{tree_alike}
use Rattle.image_laws.proofs.WholeImages.{HasGoodStart}
use Rattle.disk_tree.specs.Judged.{fault_of_parts}
use Rattle.disk_tree.proofs.ToldRead.{fault_alike}
use Rattle.recovery.specs.Recovered.{ShowsTheSame}
use Rattle.recovery.specs.Recovering.{SettlesAs}

-- An image of a layout in whose superblock and journals nothing is wrong.
pub record IsReadable (layout : Layout) (image : List ℕ) : Type 0 where
  pub start : HasGoodStart image
  pub divided : layout_of image ≡ layout

-- it has a good start by the journals of its layout
pub readable_by : (layout : Layout) (image : List ℕ) → super_fault_of image ≡ None → layout_of image ≡ layout → journal_fault_of layout image ≡ None
    → IsReadable layout image
readable_by layout image super divided journals = record {
  start = record { super = super; journals = subst (λ (l : Layout). journal_fault_of l image ≡ None) (sym divided) journals };
  divided = divided;
}

module _ (layout : Layout) (image : List ℕ) (is : IsReadable layout image) where
  -- its first fault is that of its parts
  pub fault_by_parts : fault_of image ≡ first_of_faults None None (fault_of_parts layout (parts_of layout image))
  fault_by_parts =
      ap (λ (super : Option ℕ). first_of_faults super (journal_fault_of (layout_of image) image) (tree_fault (breaks_bytes_of image) (image_inodes image)))
      is.start.super
      ∙ ap (λ (journal : Option SlotFault). first_of_faults None journal (tree_fault (breaks_bytes_of image) (image_inodes image))) is.start.journals
      ∙ ap (λ (l : Layout). first_of_faults None None (fault_of_parts l (parts_of l image))) is.divided

-- what a tree has at a mount of an image of a layout
abbrev pub making_of : Layout → ℕ → Making
making_of layout share = record { first = layout.inodes; share = share; made = replicate layout.cores 0 }

module _ (layout : Layout) (image other : List ℕ) (one : IsReadable layout image) (two : IsReadable layout other)
    (same : (i : ℕ) → i < layout.inodes → parts_of layout image i ≡ parts_of layout other i) where
  faults_same : fault_of image ≡ fault_of other
  faults_same =
      fault_by_parts layout image one
      ∙ ap (first_of_faults None None) (fault_alike layout (parts_of layout image) (parts_of layout other) same)
      ∙ sym (fault_by_parts layout other two)

  pub trees_same : (share : ℕ) → image_tree (image_inodes image) (making_at_mount image share) ≡ image_tree (image_inodes other) (making_at_mount other share)
  trees_same share =
      ap (λ (l : Layout). image_tree (inodes_shown l (parts_of l image)) (making_of l share)) one.divided
      ∙ tree_alike layout.inodes (λ i. seen_of (parts_of layout image i)) (λ i. seen_of (parts_of layout other i)) (λ i low. ap seen_of (same i low))
      (making_of layout share)
      ∙ sym (ap (λ (l : Layout). image_tree (inodes_shown l (parts_of l other)) (making_of l share)) two.divided)

  pub shown_alike : ShowsTheSame image other
  shown_alike = record {
    fault = faults_same;
    tree = λ share.
        ap (λ (fault : Option ImageFault). cond (is_none fault) (Some (image_tree (image_inodes image) (making_at_mount image share))) None) faults_same
        ∙ ap (λ (tree : TreeState). cond (is_none (fault_of other)) (Some tree) None) (trees_same share);
  }

-- an image that settles as parts has these
module _ (layout : Layout) (parts : ℕ → Part) (image : List ℕ) (settles : SettlesAs layout parts image) where
  pub settling_is_readable : IsReadable layout image
  settling_is_readable =
      let read = read_as layout settles.opened parts image settles.stands in
      readable_by layout image read.super settles.stands.divided read.journals

  pub settling_parts : (i : ℕ) → i < layout.inodes → parts_of layout image i ≡ parts i
  settling_parts i low = (read_as layout settles.opened parts image settles.stands).settles i low ∙ settles.same i

pub settling_shows_the_same : (layout : Layout) (parts : ℕ → Part) (image other : List ℕ) → SettlesAs layout parts image → SettlesAs layout parts other
    → ShowsTheSame image other
settling_shows_the_same layout parts image other one two =
    shown_alike layout image other (settling_is_readable layout parts image one) (settling_is_readable layout parts other two)
    (λ i low. settling_parts layout parts image one i low ∙ sym (settling_parts layout parts other two i low))
