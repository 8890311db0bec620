-- What the verdict on a certificate comes to.
use Rattle.std.proofs.Common.{◌≡◌, ℕ, ◌<◌, ◌≤◌, All, arith, Bool, true, false, nat_eq, inl, inr, List, [], length, Option, Some, sym, ap, subst, ◌∙◌}
use Rattle.std.specs.Prelude.{◌↔◌}
use Rattle.std.proofs.lemmas.Bool.{cases_Bool, eqb-true, eqb-false}
use Rattle.sfs_base.proofs.BasicTruth.{false_not_true, not_both_of}
use Rattle.sfs_base.specs.Lists.{Roomy}
use Rattle.sfs_dev.specs.Steps.{IfTold}
use Rattle.sfs_image.specs.Inode.{Inode, IsInode, Table}
use Rattle.sfs_image.specs.Seen.{PLACES}
use Rattle.sfs_image.specs.Slot.{Row}
use Rattle.disk_tree.specs.Apart.{pointer_in}
use Rattle.disk_tree.specs.Ordered.{AreFewRows, BreaksFirst, KeepEarlier, KeepTreeRules, breaks_numbered}
use Rattle.disk_tree.specs.Judged.{IsRefusal}
use Rattle.disk_tree.specs.declared.fault.TreeFault.{TreeFault}
use Rattle.disk_tree.specs.Rows.{AreNamingCounts, named_rows, rows_of_inode}
use Rattle.disk_tree.proofs.RulesOrdered.{few_named, rows_within}
use Rattle.image_check.specs.Agreed.{Agrees, Disagrees, files, links, places}
use Rattle.image_check.specs.Checks.{are_places}
use Rattle.image_check.specs.Gathered.{AreGatheredOwners, files_counted}
use Rattle.image_check.specs.Climbs.{AreClimbed, CanClimb, HasHolders}
use Rattle.image_check.specs.Read.{BreaksSomeRule, IsFirstFault, IsReadImage, WasRead, verify_fault}
use Rattle.image_check.specs.Valid.{IsValid}
use Rattle.image_check.specs.declared.certificate.Certificate.{Certificate}
use Rattle.image_check.specs.declared.certificate.Owner.{Owner}
use Rattle.image_check.specs.declared.fault.VerifyFault.{VerifyFault}
use Rattle.image_check.specs.declared.reading.ReadImage.{ReadImage}
use Rattle.image_check.proofs.FirstFaults.{first_judged}
use Rattle.image_check.proofs.ImageRead.{are_few_rows, few, inode_count, pointers_low, row_count, some}
use Rattle.image_check.proofs.ImageJudged.{can_climb_read, certificate_is, files_if, links_invalid, owners_if, places_if, rows_invalid, valid_if}

-- an answer is no where no certificate is valid
refuted : {P : Type 0} → (P → ⊥) → (false ≡ true) ↔ P
refuted never = ((λ e. absurd (false_not_true e)), λ is. absurd (never is))

module _ (image : List ℕ) (found : ReadImage) (is : IsReadImage (Some image) found) (cert : Certificate) where
  abbrev inodes : List Inode
  inodes = found.read.inodes.items

  abbrev rows : List (Roomy Row)
  rows = found.rows.items

  pub broken_is_no : BreaksSomeRule inodes rows → (false ≡ true) ↔ IsValid image cert
  broken_is_no broken = refuted (rows_invalid image found is cert broken)

  module _ (kept : (reached : List Bool) → KeepEarlier inodes rows reached 12) (named : List ℕ)
      (naming : AreNamingCounts rows (length inodes) (length inodes) named) where
    never : Disagrees inodes rows named cert → IsValid image cert → ⊥
    never (links i first) valid = links_invalid image found is [] (kept []) cert i first valid
    never (places fails) valid = not_both_of (are_places inodes rows cert.holders.items) (places_if image found is [] (kept []) cert valid) fails
    never (files differ) valid = differ (files_if image found is [] (kept []) cert named naming valid)

    pub disagreed_is_no : Disagrees inodes rows named cert → (false ≡ true) ↔ IsValid image cert
    disagreed_is_no differs = refuted (never differs)

    pub agreed_is : Agrees inodes rows named cert → (owners : List Owner) → AreGatheredOwners inodes found.read.tables.items owners → (one : Bool)
        → (one ≡ true) ↔ (owners ≡ cert.owners.items) → (one ≡ true) ↔ IsValid image cert
    agreed_is agrees owners gathered one same = (
      (λ e. valid_if image found is [] (kept []) agrees.links cert agrees.ascend agrees.places named naming agrees.files owners gathered (same.0 e)),
      (λ valid. same.1 (owners_if image found is [] (kept []) cert owners gathered valid)),
    )

-- the rules on rows do not ask what a walk reaches
pub any_reached : (inodes : List Inode) (rows : List (Roomy Row)) (reached : List Bool) → KeepEarlier inodes rows reached 12 → (other : List Bool)
    → KeepEarlier inodes rows other 12
any_reached inodes rows reached kept other rule i low high within = elim (cases_Bool (nat_eq rule 8)) [
  | inl e ↦ at 8 e (subst (λ (r : ℕ). breaks_numbered inodes rows reached r i ≡ false) (eqb-true rule 8 e) was)
  | inr a ↦ elim (cases_Bool (nat_eq rule 9)) [
    | inl e ↦ at 9 e (subst (λ (r : ℕ). breaks_numbered inodes rows reached r i ≡ false) (eqb-true rule 9 e) was)
    | inr b ↦ elim (cases_Bool (nat_eq rule 10)) [
      | inl e ↦ at 10 e (subst (λ (r : ℕ). breaks_numbered inodes rows reached r i ≡ false) (eqb-true rule 10 e) was)
      | inr c ↦ elim (cases_Bool (nat_eq rule 11)) [
        | inl e ↦ at 11 e (subst (λ (r : ℕ). breaks_numbered inodes rows reached r i ≡ false) (eqb-true rule 11 e) was)
        | inr d ↦
            (let no_8 = eqb-false _ _ a in
            let no_9 = eqb-false _ _ b in
            let no_10 = eqb-false _ _ c in
            let no_11 = eqb-false _ _ d in
            absurd (omega arith))
      ]
    ]
  ]
]
  where
    was : breaks_numbered inodes rows reached rule i ≡ false
    was = kept rule i low high within

    at : (n : ℕ) → nat_eq rule n ≡ true → breaks_numbered inodes rows other n i ≡ false → breaks_numbered inodes rows other rule i ≡ false
    at n e none = subst (λ (r : ℕ). breaks_numbered inodes rows other r i ≡ false) (sym (eqb-true rule n e)) none

-- an answer is the verdict on a certificate of an image that was read, where the disk tells one
abbrev pub IsVerdict : ReadImage → Certificate → Bool → Type 0
IsVerdict found cert one = (told : Option (List ℕ)) → IsReadImage told found → IfTold told (λ image. (one ≡ true) ↔ IsValid image cert)

-- the same by lists that are those of the image
module _ (found : ReadImage) (read : WasRead found) (inodes : List Inode) (rows : List (Roomy Row)) (inodes_is : inodes ≡ found.read.inodes.items)
    (rows_is : rows ≡ found.rows.items) where
  to_found : (P : List Inode → List (Roomy Row) → Type 0) → P inodes rows → P found.read.inodes.items found.rows.items
  to_found P here =
      subst (λ (rs : List (Roomy Row)). P found.read.inodes.items rs) rows_is (subst (λ (xs : List Inode). P xs rows) inodes_is here)

  from_found : (P : List Inode → List (Roomy Row) → Type 0) → P found.read.inodes.items found.rows.items → P inodes rows
  from_found P there =
      subst (λ (xs : List Inode). P xs rows) (sym inodes_is)
      (subst (λ (rs : List (Roomy Row)). P found.read.inodes.items rs) (sym rows_is) there)

  pub many : length inodes ≤ 16384
  many = from_found (λ xs _. length xs ≤ 16384) (let c = inode_count read.told found read.is in let f = few read.told found read.is in omega arith)

  pub some_inodes : 0 < length inodes
  some_inodes = from_found (λ xs _. 0 < length xs) (let c = inode_count read.told found read.is in let f = some read.told found read.is in omega arith)

  pub as_many : length rows ≡ length inodes
  as_many = from_found (λ xs rs. length rs ≡ length xs) (row_count read.told found read.is)

  pub short : AreFewRows rows
  short = from_found (λ _ rs. AreFewRows rs) (are_few_rows read.told found read.is)

  pub low : (tables : List (Roomy Table)) → tables ≡ found.read.tables.items → (i place : ℕ) → i < length inodes → place < PLACES
      → pointer_in inodes tables i place < found.layout.blocks
  low tables tables_is =
      from_found (λ xs _. (i place : ℕ) → i < length xs → place < PLACES → pointer_in xs tables i place < found.layout.blocks)
      (subst (λ (ts : List (Roomy Table)). (i place : ℕ) → i < length found.read.inodes.items → place < PLACES
      → pointer_in found.read.inodes.items ts i place < found.layout.blocks) (sym tables_is) (pointers_low read.told found read.is))

  pub as_many_tables : (tables : List (Roomy Table)) → tables ≡ found.read.tables.items → length tables ≡ length inodes
  as_many_tables tables tables_is =
      ap length tables_is ∙ read.is.well.table_count ∙ from_found (λ xs _. found.layout.inodes ≡ length xs) (sym (inode_count read.told found read.is))

  pub fit : All IsInode inodes
  fit = from_found (λ xs _. All IsInode xs) read.is.well.fit

  pub rows_fit : ((reached : List Bool) → KeepEarlier inodes rows reached 12) → (i : ℕ) → i < length rows
      → All (λ row. row.inode < length inodes) (rows_of_inode rows i)
  rows_fit kept i less = rows_within inodes rows (kept []) i (let c = as_many in omega arith)

  pub few_names : named_rows rows (length rows) < 4294967296
  few_names = few_named rows short (let c = as_many in let m = many in omega arith)

  module _ (cert : Certificate) where
    pub broken_said : BreaksSomeRule inodes rows → IsVerdict found cert false
    broken_said broken told is image e =
        broken_is_no image found (subst (λ (o : Option (List ℕ)). IsReadImage o found) e is) cert (to_found BreaksSomeRule broken)

    module _ (kept : (reached : List Bool) → KeepEarlier inodes rows reached 12) (named : List ℕ)
        (naming : AreNamingCounts rows (length inodes) (length inodes) named) where
      kept_there : (reached : List Bool) → KeepEarlier found.read.inodes.items found.rows.items reached 12
      kept_there = to_found (λ xs rs. (reached : List Bool) → KeepEarlier xs rs reached 12) kept

      naming_there : AreNamingCounts found.rows.items (length found.read.inodes.items) (length found.read.inodes.items) named
      naming_there = to_found (λ xs rs. AreNamingCounts rs (length xs) (length xs) named) naming

      pub disagreed_said : Disagrees inodes rows named cert → IsVerdict found cert false
      disagreed_said differs told is image e =
          disagreed_is_no image found (subst (λ (o : Option (List ℕ)). IsReadImage o found) e is) cert kept_there named naming_there
          (to_found (λ xs rs. Disagrees xs rs named cert) differs)

      pub agreed_said : Agrees inodes rows named cert → (tables : List (Roomy Table)) → tables ≡ found.read.tables.items → (owners : List Owner)
          → AreGatheredOwners inodes tables owners → (one : Bool) → (one ≡ true) ↔ (owners ≡ cert.owners.items) → IsVerdict found cert one
      agreed_said agrees tables tables_is owners gathered one same told is image e =
          agreed_is image found (subst (λ (o : Option (List ℕ)). IsReadImage o found) e is) cert kept_there named naming_there
          (to_found (λ xs rs. Agrees xs rs named cert) agrees) owners
          (subst (λ (ts : List (Roomy Table)). AreGatheredOwners found.read.inodes.items ts owners) tables_is
          (to_found (λ xs _. AreGatheredOwners xs tables owners) gathered))
          one same

  -- what is gathered of an image that breaks no rule
  module _ (kept : KeepTreeRules found.read.inodes.items found.rows.items) where
    pub children_fit : (i : ℕ) → i < length rows → All (λ row. row.inode < length rows) (rows_of_inode rows i)
    children_fit i less =
        subst (λ (n : ℕ). All (λ (row : Row). row.inode < n) (rows_of_inode rows i)) (sym as_many)
        (rows_fit
        (from_found (λ xs rs. (reached : List Bool) → KeepEarlier xs rs reached 12)
        (any_reached found.read.inodes.items found.rows.items kept.reached (λ rule i low high within. kept.keep rule i low (omega arith) within)))
        i less)

    module _ (made above : List ℕ) (above_is : above ≡ made) (has : HasHolders rows (length rows) made) where
      has_there : HasHolders found.rows.items (length found.rows.items) above
      has_there =
          subst (HasHolders found.rows.items (length found.rows.items)) (sym above_is) (to_found (λ _ rs. HasHolders rs (length rs) made) has)

      pub all_climb : CanClimb inodes above
      all_climb = from_found (λ xs _. CanClimb xs above) (can_climb_read read.told found read.is kept above has_there)

      pub made_said : (cert : Certificate) → AreClimbed inodes above (length inodes) cert.holders.items → (tables : List (Roomy Table))
          → tables ≡ found.read.tables.items → AreGatheredOwners inodes tables cert.owners.items → (named : List ℕ)
          → AreNamingCounts found.rows.items (length found.read.inodes.items) (length found.read.inodes.items) named
          → cert.files ≡ files_counted inodes named (length inodes) → (told : Option (List ℕ)) → IsReadImage told found
          → IfTold told (λ image. IsValid image cert)
      made_said cert climbed tables tables_is gathered named naming files_are told is image e =
          certificate_is image found (subst (λ (o : Option (List ℕ)). IsReadImage o found) e is) kept above has_there cert
          (to_found (λ xs _. AreClimbed xs above (length xs) cert.holders.items) climbed)
          (subst (λ (ts : List (Roomy Table)). AreGatheredOwners found.read.inodes.items ts cert.owners.items) tables_is
          (to_found (λ xs _. AreGatheredOwners xs tables cert.owners.items) gathered))
          named naming (to_found (λ xs _. cert.files ≡ files_counted xs named (length xs)) files_are)

  -- what is refused of an image is its first fault
  pub refused_said : (fault : TreeFault) → IsRefusal (BreaksFirst inodes rows) fault → (answer : VerifyFault)
      → answer ≡ verify_fault found.records.items fault → (told : Option (List ℕ)) → IsReadImage told found → IfTold told (λ image. IsFirstFault image answer)
  refused_said fault bad answer same told is image e =
      subst (IsFirstFault image) (sym same)
      (first_judged image found (subst (λ (o : Option (List ℕ)). IsReadImage o found) e is) fault
      (to_found (λ xs rs. IsRefusal (BreaksFirst xs rs) fault) bad))
