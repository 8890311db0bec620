-- A mount of a disk that told an image begins a volume with the image's own parts.
use Rattle.std.proofs.Common.{◌≡◌, ℕ, ◌*◌, ◌<◌, false, cond, List, [], length, replicate, Option, Some, None, is_some, inl, inr}
use Rattle.std.proofs.Common.{refl, sym, ap, subst, ◌∙◌, arith}
use Rattle.std.specs.Prelude.{is_none, slice_index_or}
use Rattle.std.proofs.lemmas.Bool.{cases_eq}
use Rattle.sfs_base.proofs.BasicOptions.{none_some, some_same}
use Rattle.sfs_base.proofs.BasicTruth.{true_not_false}
use Rattle.sfs_image.specs.Inode.{inode_of, inode_bytes, inode_fault}
use Rattle.sfs_image.specs.Part.{Part, part_of, inode_in, pointer_at, tabulate}
use Rattle.sfs_image.specs.Settled.{SlotFault, image_block, settled, layout_of, parts_of, super_fault_of, journal_fault_of}
use Rattle.sfs_image.specs.Super.{Layout}
use Rattle.sfs_image.proofs.AcceptedLaws.{raw_of}
use Rattle.sfs_image.proofs.Basics.{get_or-tabulate}
use Rattle.sfs_image.proofs.BytesLaws.{length-part}
use Rattle.sfs_image.proofs.InodeLaws.{inode_bytes-inode_of}
use Rattle.image_laws.specs.Image.{ImageFault, inodes_shown, image_inodes, first_of_faults, breaks_bytes_of, fault_of, making_at_mount}
use Rattle.image_laws.specs.ImageTree.{image_tree}
use Rattle.image_laws.specs.Rules.{TreeFault, tree_fault}
use Rattle.disk_tree.specs.Judged.{fault_of_parts}
use Rattle.disk_tree.specs.Told.{SettlesRecords}
use Rattle.disk_tree.specs.Whole.{IsReadWhole, IsWholeRecord}
use Rattle.disk_tree.proofs.PartsSound.{byte_rules_kept}
use Rattle.disk_tree.proofs.PartsWhole.{part_whole}
use Rattle.recovery.specs.Freed.{without_unlinked}
use Rattle.recovery.proofs.JudgedImage.{has_no_fault, are_faultless, parts_read, points_well}
use Rattle.mount_begin.specs.Mounted.{making_with, share_of_nodes, IsSoundMount}
use Rattle.mount_begin.specs.declared.begin.Mounted.{Mounted}
use Rattle.volume_laws.specs.Begun.{StandInBlocks, BeginsVolume, WasMountedOf, ToldMountsBegin}
use Rattle.volume_laws.proofs.Mounts.{mounts_begin}

-- Nothing is wrong in an image's superblock and journals.
record HasStart (image : List ℕ) : Type 0 where
  super : super_fault_of image ≡ None
  journals : journal_fault_of (layout_of image) image ≡ None

start_of : (image : List ℕ) → fault_of image ≡ None → HasStart image
start_of image = by (super_fault_of image) (journal_fault_of (layout_of image) image) (tree_fault (breaks_bytes_of image) (image_inodes image)) refl refl
  where
    by : (super : Option ℕ) (journal : Option SlotFault) (tree : Option TreeFault) → super_fault_of image ≡ super
        → journal_fault_of (layout_of image) image ≡ journal → first_of_faults super journal tree ≡ None → HasStart image
    by None None tree a b e = record { super = a; journals = b }
    by (Some at) journal tree a b e = absurd (none_some (sym e))
    by None (Some slot) tree a b e = absurd (none_some (sym e))

module _ (nodes size : ℕ) (image : List ℕ) (mounted : Mounted) (told : WasMountedOf nodes size image mounted) where
  abbrev layout : Layout
  layout = mounted.layout

  abbrev parts : ℕ → Part
  parts = parts_of layout image

  abbrev share : ℕ
  share = share_of_nodes nodes layout

  no_fault : fault_of image ≡ None
  no_fault = has_no_fault image share mounted.tree told.is.tree

  some : 0 < layout.inodes
  some = let low = told.sound.fits.ranges.inodes_low in omega (arith, low)

  abbrev records : List (List ℕ)
  records = tabulate layout.inodes (settled layout image)

  settles : SettlesRecords image layout records
  settles = record {
    super = (start_of image no_fault).super;
    layout_is = told.is.layout_is;
    journals = subst (λ (l : Layout). journal_fault_of l image ≡ None) (sym told.is.layout_is) (start_of image no_fault).journals;
    each = λ i low. get_or-tabulate layout.inodes (settled layout image) i [] low;
  }

  faultless : fault_of_parts layout parts ≡ None
  faultless = (are_faultless image layout records settles some no_fault).none

  shown : mounted.tree ≡ image_tree (inodes_shown layout parts) (making_with nodes layout)
  shown =
      some_same (sym told.is.tree
      ∙ ap (λ (o : Option ImageFault). cond (is_none o) (Some (image_tree (image_inodes image) (making_at_mount image share))) None) no_fault)
      ∙ sym (ap (λ (l : Layout). image_tree (inodes_shown l (parts_of l image))
      (record { first = l.inodes; share = share; made = replicate l.cores 0 })) told.is.layout_is)

  -- each pointer names a block of the disk
  pointer_low : (i place : ℕ) → i < layout.inodes → pointer_at (parts i) place < layout.blocks
  pointer_low i place low = elim (cases_eq (pointer_at (parts i) place) 0) [
    | inl hole ↦ (let room = told.sound.fits.room in omega (arith, hole, room))
    | inr there ↦ (points_well image layout records settles some no_fault i low place there).1
  ]

  -- so the image has each part whole
  whole : (i : ℕ) → i < layout.inodes → IsReadWhole (parts i)
  whole i low =
      part_whole (Some image) (slice_index_or records i []) (parts i) (parts_read image layout records settles some no_fault i low)
      (subst IsWholeRecord (sym (settles.each i low)) (told.is.whole i low)) layout
      (record { size = size; fits = told.sound.fits; sized = λ content is. sym (ap length (some_same is)) ∙ told.sized })
      (λ place within. pointer_low i place low)

  sound_of_image : IsSoundMount nodes size mounted
  sound_of_image = record {
    fits = told.sound.fits;
    sound = told.sound.sound;
    limits = told.sound.limits;
    parts = parts;
    whole = whole;
    faultless = faultless;
    shown = shown;
    entries = told.is.entries;
    space = told.sound.space;
  }

  -- a record that is sound and of bytes is spelled as its inode is
  spelled_at : (i : ℕ) → i < layout.inodes → inode_bytes (inode_in (parts i)) ≡ (parts i).raw
  spelled_at i low =
      subst (λ (raw : List ℕ). inode_bytes (inode_of raw) ≡ raw) (sym (raw_of (image_block image) (settled layout image i)))
      (inode_bytes-inode_of (settled layout image i) (told.is.whole i low).long (told.is.whole i low).bytes
      (none_of (inode_fault (settled layout image i)) kept))
    where
      kept : is_some (inode_fault (settled layout image i)) ≡ false
      kept = ap (λ (raw : List ℕ). is_some (inode_fault raw)) (sym (raw_of (image_block image) (settled layout image i)))
          ∙ byte_rules_kept layout parts faultless 1 i (omega arith) (omega arith) low

      none_of : (o : Option ℕ) → is_some o ≡ false → o ≡ None
      none_of None e = refl
      none_of (Some x) e = absurd (true_not_false e)

  stand : StandInBlocks (image_block image) layout parts
  stand = record {
    gathered = λ i low. ap (part_of (image_block image)) (raw_of (image_block image) (settled layout image i));
    records = λ i low. ap length (raw_of (image_block image) (settled layout image i)) ∙ (told.is.whole i low).long;
    spelled = spelled_at;
    whole = λ block low high.
        let within = told.sound.fits.within in
        let long = told.sized in
        length-part (4096 * block) 4096 image (omega (arith, high, within, long));
  }

  pub told_begins : BeginsVolume mounted (image_block image) (without_unlinked parts)
  unfolding sound_of_image
  told_begins = mounts_begin nodes size mounted (image_block image) sound_of_image stand

pub told_mounts_begin : ToldMountsBegin
told_mounts_begin nodes size image mounted told = told_begins nodes size image mounted told
