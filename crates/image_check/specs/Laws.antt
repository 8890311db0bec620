-- The laws of certificates, each of which a function of the module laws proves.
use Rattle.std.specs.Prelude.{◌≡◌, ℕ, List, None, Some}
use Rattle.tree_laws.specs.Laws.{IsSoundTree}
use Rattle.tree_laws.specs.Tree.{TreeState}
use Rattle.image_laws.specs.Image.{fault_of, tree_of}
use Rattle.image_check.specs.Made.{certificate_of}
use Rattle.image_check.specs.Valid.{IsValid}
use Rattle.image_check.specs.declared.certificate.Certificate.{Certificate}

-- An image with a valid certificate has no fault.
abbrev pub ValidImagesAreFaultless : Type 0
ValidImagesAreFaultless = (image : List ℕ) (cert : Certificate) → IsValid image cert → fault_of image ≡ None

-- An image has a tree, and that is sound.
pub record HasSoundTree (image : List ℕ) (share : ℕ) : Type 0 where
  pub tree : TreeState
  pub is : tree_of image share ≡ Some tree
  pub sound : IsSoundTree tree

-- An image with a valid certificate has a sound tree.
abbrev pub ValidImagesHaveSoundTrees : Type 0
ValidImagesHaveSoundTrees = (image : List ℕ) (cert : Certificate) (share : ℕ) → IsValid image cert → HasSoundTree image share

-- An image without a fault has a valid certificate.
abbrev pub FaultlessImagesAreCertified : Type 0
FaultlessImagesAreCertified = (image : List ℕ) → fault_of image ≡ None → IsValid image (certificate_of image)

-- Two certificates have the same entries and the same number.
pub record AreOne (cert other : Certificate) : Type 0 where
  pub holders : cert.holders.items ≡ other.holders.items
  pub owners : cert.owners.items ≡ other.owners.items
  pub files : cert.files ≡ other.files

-- Two valid certificates of one image are one.
abbrev pub CertificatesAreOne : Type 0
CertificatesAreOne = (image : List ℕ) (cert other : Certificate) → IsValid image cert → IsValid image other → AreOne cert other
