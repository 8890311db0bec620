-- What was read of a disk that tells its content is its image's.
use Rattle.std.proofs.Common.{◌≡◌, ℕ, ◌<◌, cond, List, [], slice_index_or, Option, None, Some, refl, sym, ◌∙◌, ap, subst, arith, inl, inr}
use Rattle.std.specs.Option.{is_none}
use Rattle.std.proofs.lemmas.Bool.{cases_Bool, cases_lt, eqb-true}
use Rattle.tree_laws.specs.Tree.{TreeState}
use Rattle.sfs_image.specs.ImageOf.{IsImageOf, PointsToData, transaction_in, table_parts}
use Rattle.sfs_image.specs.Part.{part_of, is_free_part}
use Rattle.sfs_image.specs.Seen.{PLACES}
use Rattle.sfs_image.specs.Settled.{image_block, parts_of, settled}
use Rattle.sfs_image.specs.Super.{Layout}
use Rattle.sfs_image.proofs.AcceptedLaws.{accepted_stands}
use Rattle.sfs_image.proofs.PartLaws.{none_past_places}
use Rattle.sfs_image.proofs.RuleLaws.{good_from_rule}
use Rattle.image_laws.specs.Image.{ImageFault, first_of_faults, fault_of, tree_of, image_inodes, making_at_mount}
use Rattle.image_laws.specs.ImageTree.{image_tree}
use Rattle.image_laws.specs.Rules.{TreeFault}
use Rattle.disk_tree.specs.Judged.{AreReadParts, IsReadPart, Refused, fault_of_parts}
use Rattle.disk_tree.specs.Found.{IsFoundIn}
use Rattle.disk_tree.specs.Told.{SettlesRecords}
use Rattle.disk_tree.specs.Whole.{IsWholeRecord, AreWholeRecords}
use Rattle.disk_tree.proofs.PartsSound.{byte_rules_kept, faultless_parts_are_ruled}
use Rattle.disk_tree.proofs.Refusals.{unread_is_read}
use Rattle.disk_tree.proofs.ToldRead.{faults_are_the_images}
use Rattle.recovery.specs.Judging.{IsFaultOf, IsTreeRefusal}
use Rattle.recovery.specs.declared.fault.RecoverFault.{RecoverFault}
use Rattle.recovery.specs.declared.judged.Judged.{Judged}
use Rattle.recovery.specs.declared.fault.RecoverFault.TheVariants.{DiskFailed, BadSuper, BadJournal, BadImage, NoMemory}
use Rattle.recovery.proofs.FreedShown.{AreFaultless}
use Rattle.recovery.proofs.ShownAlike.{IsReadable, readable_by, fault_by_parts}

-- an image that has a tree has no fault
pub has_no_fault : (image : List ℕ) (share : ℕ) (tree : TreeState) → tree_of image share ≡ Some tree → fault_of image ≡ None
has_no_fault image share tree is = by (fault_of image) refl
  where
    by : (o : Option ImageFault) → fault_of image ≡ o → fault_of image ≡ None
    by None none = none
    by (Some fault) some = absurd (let never : None ≡ Some tree =
        sym (ap (λ (f : Option ImageFault). cond (is_none f) (Some (image_tree (image_inodes image) (making_at_mount image share))) None) some) ∙ is in cc)

-- a refusal of the tree that settled records show is the image's
pub tree_fault_is : (image : List ℕ) (layout : Layout) (records : List (List ℕ)) → SettlesRecords image layout records → (fault : RecoverFault)
    → IsTreeRefusal (Refused (Some image) layout records) fault → IsFaultOf image fault
tree_fault_is image layout records settles (BadImage inode rule) refused = faults_are_the_images image layout records inode rule settles refused
tree_fault_is image layout records settles (BadSuper at) never = absurd never
tree_fault_is image layout records settles (BadJournal core slot at) never = absurd never
tree_fault_is image layout records settles DiskFailed plain = tt
tree_fault_is image layout records settles NoMemory plain = tt

module _ (image : List ℕ) (layout : Layout) (records : List (List ℕ)) (settles : SettlesRecords image layout records) (some : 0 < layout.inodes)
    (none : fault_of image ≡ None) where
  pub readable : IsReadable layout image
  readable = readable_by layout image settles.super (sym settles.layout_is) settles.journals

  parts_faultless : fault_of_parts layout (parts_of layout image) ≡ None
  parts_faultless = no_tree_fault (fault_of_parts layout (parts_of layout image)) (sym (fault_by_parts layout image readable) ∙ none)
    where
      no_tree_fault : (o : Option TreeFault) → first_of_faults None None o ≡ None → o ≡ None
      no_tree_fault None is = refl
      no_tree_fault (Some fault) is = cc

  pub parts_read : AreReadParts (Some image) layout records (parts_of layout image)
  parts_read i low =
      subst (IsReadPart (Some image) (slice_index_or records i [])) (ap (part_of (image_block image)) (settles.each i low))
      (unread_is_read (Some image) (slice_index_or records i []))

  pub are_faultless : AreFaultless layout (parts_of layout image)
  are_faultless = record {
    ruled = faultless_parts_are_ruled (Some image) layout records (parts_of layout image) some parts_read parts_faultless;
    none = parts_faultless;
  }

  pub points_well : (i : ℕ) → i < layout.inodes → PointsToData layout (parts_of layout image i)
  points_well i low place there = elim (cases_lt place PLACES) [
    | inr past ↦ absurd (there (none_past_places (image_block image) (settled layout image i) place past))
    | inl within ↦ elim (cases_Bool (is_free_part (parts_of layout image i))) [
      | inl free ↦ absurd (there ((are_faultless.ruled.kinds.unused i low (eqb-true _ 0 free)).blocks place within))
      | inr used ↦
          (let facts = good_from_rule layout (parts_of layout image i) place
          (byte_rules_kept layout (parts_of layout image) parts_faultless 4 i (omega arith) (omega arith) low) used within there in
          (facts.low, facts.high))
    ]
  ]

  pub image_stands : IsImageOf layout (transaction_in layout image) (table_parts layout image) image
  image_stands =
      accepted_stands layout image (record { super = settles.super; divided = sym settles.layout_is; journals = settles.journals; pointers = points_well })

-- records that were read whole, and that an image settles, are whole
pub settled_whole : {told : Option (List ℕ)} (image : List ℕ) (judged : Judged) → IsFoundIn told judged.layout judged.records.items judged.found
    → SettlesRecords image judged.layout judged.records.items → AreWholeRecords judged.layout image
settled_whole image judged found settles i low =
    subst IsWholeRecord ((found.read i low).raw_is ∙ settles.each i low)
    (record { long = (found.whole i low).record_long; bytes = (found.whole i low).record_bytes })
