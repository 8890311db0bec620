-- What is judged of an image that was read: which refusals say that no certificate is valid, and what makes one valid.
use Rattle.std.proofs.Common.{◌≡◌, ◌≢◌, ℕ, zero, suc, ◌+◌, ◌<◌, ◌≤◌, Bool, true, false, cond, not, ◌&&◌, List, [], length, nat_eq, count_by, Option, Some, None, refl, sym, ap, subst, ◌∙◌, arith, inl, inr}
use Rattle.std.specs.Prelude.{slice_index_or, ◌↔◌}
use Rattle.std.specs.List.{range_with_len}
use Rattle.std.proofs.lemmas.Bool.{cases_Bool, cases_lt, eqb-true, eqb-false}
use Rattle.sfs_base.proofs.BasicTruth.{not_both_of}
use Rattle.sfs_base.proofs.BasicOptions.{some_not_none}
use Rattle.sfs_base.specs.Lists.{Roomy}
use Rattle.tree_laws.specs.Tree.{count_of}
use Rattle.tree_laws.proofs.Joined.{count-cons}
use Rattle.sfs_image.specs.Inode.{Inode}
use Rattle.sfs_image.specs.Rules.{breaks_bytes_rule}
use Rattle.sfs_image.specs.Seen.{SeenInodes}
use Rattle.sfs_image.specs.Settled.{journal_fault_of, layout_of, parts_of}
use Rattle.sfs_image.specs.Slot.{Row}
use Rattle.sfs_image.specs.Super.{Layout}
use Rattle.image_laws.specs.Image.{breaks_bytes_of, image_inodes, inodes_shown}
use Rattle.image_laws.specs.ImageTree.{image_rows}
use Rattle.image_laws.specs.Keeps.{KeepsRules}
use Rattle.image_laws.specs.Rules.{FindsFault, breaks_rule, breaks_tree_rule}
use Rattle.image_laws.proofs.FirstFault.{first_fault_is_least}
use Rattle.image_laws.proofs.WholeImages.{rule_alike}
use Rattle.keyed_list.specs.Ascending.{AscendBy}
use Rattle.disk_tree.specs.First.{IsFirst, NonePasses}
use Rattle.disk_tree.specs.Inodes.{inode_at}
use Rattle.disk_tree.specs.Judged.{AreReadParts, IsReadPart, Refused, fault_of_parts}
use Rattle.disk_tree.specs.Ordered.{BreaksFirst, KeepEarlier, KeepTreeRules, breaks_numbered}
use Rattle.disk_tree.specs.Rows.{AreNamingCounts}
use Rattle.disk_tree.specs.Shown.{AreCountTests, AreRowTests, ShowsRows}
use Rattle.disk_tree.specs.Tests.{breaks_eighth, breaks_eleventh, breaks_tenth, breaks_thirteenth}
use Rattle.disk_tree.proofs.CountsShown.{count_is, count_tests_are_rules}
use Rattle.disk_tree.proofs.PartsSound.{faultless_parts_are_ruled}
use Rattle.disk_tree.proofs.Refusals.{breaks_of, byte_rule, tree_rule}
use Rattle.disk_tree.proofs.RowsShown.{row_tests_are_rules}
use Rattle.disk_tree.proofs.RulesJudged.{broken_refused, faultless}
use Rattle.disk_tree.proofs.ToldRead.{fault_alike, faults_are_the_images}
use Rattle.image_check.specs.Checks.{are_places}
use Rattle.image_check.specs.Climbs.{AreClimbed, CanClimb, HasHolders}
use Rattle.image_check.specs.Entries.{holder_inode}
use Rattle.image_check.specs.Gathered.{AreGatheredOwners, files_counted, is_counted_file}
use Rattle.image_check.specs.Holders.{AreHolders}
use Rattle.image_check.specs.Read.{BreaksSomeRule, IsReadImage}
use Rattle.image_check.specs.Valid.{IsValid, is_certified_rule, is_named_file, named_files}
use Rattle.image_check.specs.declared.certificate.Certificate.{Certificate}
use Rattle.image_check.specs.declared.certificate.Owner.{Owner}
use Rattle.image_check.specs.declared.reading.ReadImage.{ReadImage}
use Rattle.image_check.proofs.ClimbsShown.{can_climb, places}
use Rattle.image_check.proofs.Faultless.{valid_images_are_faultless}
use Rattle.image_check.proofs.ImageRead.{are_few_rows, few, inode_count, lists, owners_are, part_is, row_count, settles, shows_image, shows_parts, some, to_image}
use Rattle.image_check.proofs.One.{one_owners}
use Rattle.image_check.proofs.PlacesTold.{places_told}
use Rattle.image_check.proofs.Reaching.{root_unnamed}

-- tests that agree on numbers in turn count alike
count_same : (p q : ℕ → Bool) (a n : ℕ) → ((k : ℕ) → a ≤ k → k < a + n → p k ≡ q k) → count_by p (range_with_len a n) ≡ count_by q (range_with_len a n)
count_same p q a zero same = refl
count_same p q a (suc n) same =
    count-cons p a (range_with_len (a + 1) n)
    ∙ ap (λ b. cond b 1 0 + count_by p (range_with_len (a + 1) n)) (same a (omega arith) (omega arith))
    ∙ ap (λ (k : ℕ). cond (q a) 1 0 + k) (count_same p q (a + 1) n (λ k low high. same k (omega arith) (omega arith)))
    ∙ sym (count-cons q a (range_with_len (a + 1) n))

-- an inode of which an image is refused is one of the image's
pub refused_within : (told : Option (List ℕ)) (layout : Layout) (records : List (List ℕ)) (inode rule : ℕ) → Refused told layout records inode rule
    → inode < layout.inodes
refused_within told layout records inode rule is =
    (subst (FindsFault (breaks_of layout is.parts) layout.inodes) is.fault
    (first_fault_is_least (breaks_of layout is.parts) layout.inodes)).within

module _ (image : List ℕ) (found : ReadImage) (is : IsReadImage (Some image) found) where
  abbrev layout : Layout
  layout = found.layout

  abbrev records : List (List ℕ)
  records = found.records.items

  abbrev inodes : List Inode
  inodes = found.read.inodes.items

  abbrev rows : List (Roomy Row)
  rows = found.rows.items

  abbrev seen : SeenInodes
  seen = image_inodes image

  abbrev shown : ShowsRows seen inodes rows
  shown = shows_image image found is

  abbrev long : length rows ≡ length inodes
  long = row_count (Some image) found is

  -- no certificate is valid for an image that is refused
  pub refused_invalid : (cert : Certificate) (inode rule : ℕ) → Refused (Some image) layout records inode rule → IsValid image cert → ⊥
  refused_invalid cert inode rule refused valid =
      some_not_none
      (sym (faults_are_the_images image layout records inode rule (settles image found is) refused) ∙ valid_images_are_faultless image cert valid)

  -- the first inode that breaks a rule across inodes is the image's first fault
  pub rows_refused : (inode rule : ℕ) → BreaksFirst inodes rows inode rule → Refused (Some image) layout records inode rule
  rows_refused =
      broken_refused (Some image) layout records is.count inodes is.well.inodes is.well.fit found.read.tables.items is.well.pointers
      found.read.contents.items found.read.slots.items is.well.well rows (lists (Some image) found is) (some (Some image) found is)

  pub rows_invalid : (cert : Certificate) → BreaksSomeRule inodes rows → IsValid image cert → ⊥
  rows_invalid cert broken = refused_invalid cert broken.inode broken.rule (rows_refused broken.inode broken.rule broken.first)

  row_tests : AreRowTests seen inodes rows
  row_tests = row_tests_are_rules seen inodes rows shown

  -- where no directory breaks one of the rules on its rows
  module _ (reached : List Bool) (kept : KeepEarlier inodes rows reached 12) where
    none_at : (rule : ℕ) → 8 ≤ rule → rule < 12 → NonePasses seen.count (breaks_numbered inodes rows reached rule)
    none_at rule low high i within = kept rule i low high (let c = shown.count in omega arith)

    pub once : NonePasses seen.count (breaks_eighth rows)
    once = none_at 8 (omega arith) (omega arith)

    pub placed : NonePasses seen.count (breaks_tenth inodes rows)
    placed = none_at 10 (omega arith) (omega arith)

    pub rootless : NonePasses seen.count (breaks_eleventh rows)
    rootless = none_at 11 (omega arith) (omega arith)

    count_tests : AreCountTests seen inodes rows
    count_tests = count_tests_are_rules seen inodes rows shown long once

    pub unnamed : count_of (image_rows seen) 0 ≡ 0
    unnamed = root_unnamed seen (λ i within. row_tests.eleventh i within ∙ rootless i within)

    -- an inode in use with a wrong link count
    pub links_invalid : (cert : Certificate) (i : ℕ) → IsFirst (length inodes) (breaks_thirteenth inodes rows (length inodes)) i → IsValid image cert → ⊥
    links_invalid cert i first valid =
        let within : i < seen.count = (let w = first.within in let c = shown.count in omega arith) in
        not_both_of (breaks_tree_rule seen 13 i) (count_tests.thirteenth placed i within ∙ first.passes)
        (valid.rules 13 i (omega arith) (omega arith) refl within)

    -- files that a row names, as they were counted
    pub files_same : (named : List ℕ) → AreNamingCounts rows (length inodes) (length inodes) named → named_files seen ≡ files_counted inodes named (length inodes)
    unfolding files_counted
    files_same named naming =
        count_same (is_named_file seen) (is_counted_file inodes named) 0 seen.count (λ i low high.
        let within : i < seen.count = omega arith in
        ap (λ (k : ℕ). nat_eq k 1 && not (nat_eq (count_of (image_rows seen) i) 0)) (shown.kind i within)
        ∙ ap (λ (n : ℕ). nat_eq (inode_at inodes i).kind 1 && not (nat_eq n 0))
        (count_is seen inodes rows shown long once i ∙ sym (naming.each i (let c = shown.count in omega arith))))
        ∙ ap (λ (n : ℕ). count_by (is_counted_file inodes named) (range_with_len 0 n)) shown.count

    -- the tests of a certificate's entries, where it is valid
    told : (cert : Certificate) → AscendBy holder_inode cert.holders.items
        → (are_places inodes rows cert.holders.items ≡ true) ↔ AreHolders seen cert.holders.items
    told cert ascend = places_told seen inodes rows shown long once placed rootless unnamed cert.holders.items ascend

    pub places_if : (cert : Certificate) → IsValid image cert → are_places inodes rows cert.holders.items ≡ true
    places_if cert valid = (told cert valid.holders.ascend).1 valid.holders

    pub files_if : (cert : Certificate) (named : List ℕ) → AreNamingCounts rows (length inodes) (length inodes) named → IsValid image cert
        → files_counted inodes named (length inodes) ≡ cert.files
    files_if cert named naming valid = sym (files_same named naming) ∙ sym valid.files

    pub owners_if : (cert : Certificate) (owners : List Owner) → AreGatheredOwners inodes found.read.tables.items owners → IsValid image cert
        → owners ≡ cert.owners.items
    owners_if cert owners gathered valid = one_owners seen owners cert.owners.items (owners_are image found is owners gathered) valid.owners

    -- the rules that entries do not stand for
    module _ (links : NonePasses (length inodes) (breaks_thirteenth inodes rows (length inodes))) where
      abbrev breaks : ℕ → ℕ → Bool
      breaks = breaks_rule (breaks_bytes_of image) seen

      tree_kept : (rule i : ℕ) → 7 < rule → breaks_tree_rule seen rule i ≡ false → breaks rule i ≡ false
      tree_kept rule i more none = tree_rule (layout_of image) (parts_of (layout_of image) image) rule i more ∙ none

      bytes_kept : (rule i : ℕ) → 1 ≤ rule → rule ≤ 7 → rule ≢ 5 → i < seen.count → breaks rule i ≡ false
      bytes_kept rule i low high other within =
          byte_rule (layout_of image) (parts_of (layout_of image) image) rule i high
          ∙ subst (λ (l : Layout). i < l.inodes → breaks_bytes_rule rule l (parts_of l image) i ≡ false) (settles image found is).layout_is
          (λ inside. sym (rule_alike layout is.well.well.parts (parts_of layout image) i (part_is image found is i inside) rule other)
          ∙ is.well.well.keep rule i low high inside) within

      rules_kept : (rule i : ℕ) → 1 ≤ rule → rule ≤ 14 → is_certified_rule rule ≡ false → i < seen.count → breaks rule i ≡ false
      rules_kept rule i low high plain within = elim (cases_lt 7 rule) [
        | inr byte ↦
            bytes_kept rule i low byte (λ fifth. not_both_of (is_certified_rule rule) (ap is_certified_rule fifth) plain) within
        | inl tree ↦ tree_kept rule i tree (by_rule tree)
      ]
        where
          at : (n : ℕ) → nat_eq rule n ≡ true → breaks_tree_rule seen n i ≡ false → breaks_tree_rule seen rule i ≡ false
          at n same none = ap (λ (r : ℕ). breaks_tree_rule seen r i) (eqb-true rule n same) ∙ none

          certified : (n : ℕ) → nat_eq rule n ≡ true → is_certified_rule n ≡ true → ⊥
          certified n same is = not_both_of (is_certified_rule rule) (ap is_certified_rule (eqb-true rule n same) ∙ is) plain

          by_rule : 7 < rule → breaks_tree_rule seen rule i ≡ false
          by_rule tree = elim (cases_Bool (nat_eq rule 8)) [
            | inl e ↦ at 8 e (row_tests.eighth i within ∙ once i within)
            | inr a ↦ elim (cases_Bool (nat_eq rule 9)) [
              | inl e ↦ at 9 e (count_tests.ninth i within ∙ none_at 9 (omega arith) (omega arith) i within)
              | inr b ↦ elim (cases_Bool (nat_eq rule 10)) [
                | inl e ↦ at 10 e (row_tests.tenth i within ∙ placed i within)
                | inr c ↦ elim (cases_Bool (nat_eq rule 11)) [
                  | inl e ↦ at 11 e (row_tests.eleventh i within ∙ rootless i within)
                  | inr d ↦ elim (cases_Bool (nat_eq rule 12)) [
                    | inl e ↦ absurd (certified 12 e refl)
                    | inr f ↦ elim (cases_Bool (nat_eq rule 13)) [
                      | inl e ↦ at 13 e (count_tests.thirteenth placed i within ∙ links i (let k = shown.count in omega arith))
                      | inr g ↦ elim (cases_Bool (nat_eq rule 14)) [
                        | inl e ↦ absurd (certified 14 e refl)
                        | inr h ↦
                            (let no_8 = eqb-false _ _ a in
                            let no_9 = eqb-false _ _ b in
                            let no_10 = eqb-false _ _ c in
                            let no_11 = eqb-false _ _ d in
                            let no_12 = eqb-false _ _ f in
                            let no_13 = eqb-false _ _ g in
                            let no_14 = eqb-false _ _ h in
                            absurd (omega arith))
                      ]
                    ]
                  ]
                ]
              ]
            ]
          ]

      -- a certificate whose entries are right is valid
      pub is_valid : (cert : Certificate) → AreHolders seen cert.holders.items
          → AreGatheredOwners inodes found.read.tables.items cert.owners.items → cert.files ≡ named_files seen → IsValid image cert
      is_valid cert holders owners files = record {
        super = (settles image found is).super;
        journals = subst (λ (l : Layout). journal_fault_of l image ≡ None) (settles image found is).layout_is (settles image found is).journals;
        rules = rules_kept;
        holders = holders;
        owners = owners_are image found is cert.owners.items owners;
        files = files;
      }

      pub valid_if : (cert : Certificate) → AscendBy holder_inode cert.holders.items → are_places inodes rows cert.holders.items ≡ true → (named : List ℕ)
          → AreNamingCounts rows (length inodes) (length inodes) named → files_counted inodes named (length inodes) ≡ cert.files → (owners : List Owner)
          → AreGatheredOwners inodes found.read.tables.items owners → owners ≡ cert.owners.items → IsValid image cert
      valid_if cert ascend tests named naming files owners gathered same =
          is_valid cert ((told cert ascend).0 tests) (subst (AreGatheredOwners inodes found.read.tables.items) same gathered)
          (sym files ∙ sym (files_same named naming))

  -- an image that breaks no rule
  module _ (kept : KeepTreeRules inodes rows) where
    earlier : KeepEarlier inodes rows kept.reached 12
    earlier rule i low high within = kept.keep rule i low (omega arith) within

    parts_none : fault_of_parts layout (parts_of layout image) ≡ None
    parts_none =
        sym (fault_alike layout is.well.well.parts (parts_of layout image) (part_is image found is))
        ∙ faultless (Some image) layout records is.count inodes is.well.inodes is.well.fit found.read.tables.items is.well.pointers
        found.read.contents.items found.read.slots.items is.well.well rows (lists (Some image) found is) (some (Some image) found is) kept

    parts_read : AreReadParts (Some image) layout records (parts_of layout image)
    parts_read i within = subst (IsReadPart (Some image) (slice_index_or records i [])) (part_is image found is i within) (is.well.well.hold.read i within)

    keeps : KeepsRules seen
    keeps =
        to_image image found is KeepsRules
        (faultless_parts_are_ruled (Some image) layout records (parts_of layout image) (some (Some image) found is) parts_read parts_none).rules

    -- the entries that were gathered make a valid certificate
    pub certificate_is : (above : List ℕ) → HasHolders rows (length rows) above → (cert : Certificate) → AreClimbed inodes above (length inodes) cert.holders.items
        → AreGatheredOwners inodes found.read.tables.items cert.owners.items → (named : List ℕ) → AreNamingCounts rows (length inodes) (length inodes) named
        → cert.files ≡ files_counted inodes named (length inodes) → IsValid image cert
    certificate_is above has cert holders owners named naming files =
        is_valid kept.reached earlier (λ i within. kept.keep 13 i (omega arith) (omega arith) within) cert
        (places seen inodes rows shown long (once kept.reached earlier) (placed kept.reached earlier) (rootless kept.reached earlier)
        (λ i within. kept.keep 12 i (omega arith) (omega arith) (let c = shown.count in omega arith)) keeps above has cert.holders.items holders)
        owners (files ∙ sym (files_same kept.reached earlier named naming))

-- what was read, whatever the disk tells, of inodes that break no rule: each directory lies at a depth
module _ (told : Option (List ℕ)) (found : ReadImage) (is : IsReadImage told found) (kept : KeepTreeRules found.read.inodes.items found.rows.items) where
  parts_shown : ShowsRows (inodes_shown found.layout is.well.well.parts) found.read.inodes.items found.rows.items
  parts_shown = shows_parts told found is

  none_of : (rule : ℕ) → 8 ≤ rule → rule < 14
      → NonePasses (inodes_shown found.layout is.well.well.parts).count (breaks_numbered found.read.inodes.items found.rows.items kept.reached rule)
  none_of rule low high i within = kept.keep rule i low (omega arith) (let c = parts_shown.count in omega arith)

  pub can_climb_read : (above : List ℕ) → HasHolders found.rows.items (length found.rows.items) above → CanClimb found.read.inodes.items above
  can_climb_read above has =
      can_climb (inodes_shown found.layout is.well.well.parts) found.read.inodes.items found.rows.items parts_shown (row_count told found is)
      (none_of 8 (omega arith) (omega arith)) (none_of 10 (omega arith) (omega arith)) (none_of 11 (omega arith) (omega arith))
      (none_of 12 (omega arith) (omega arith))
      (faultless_parts_are_ruled told found.layout found.records.items is.well.well.parts (some told found is) is.well.well.hold.read
      (faultless told found.layout found.records.items is.count found.read.inodes.items is.well.inodes is.well.fit found.read.tables.items is.well.pointers
      found.read.contents.items found.read.slots.items is.well.well found.rows.items (lists told found is) (some told found is) kept)).rules
      above has (are_few_rows told found is)
      (let c = row_count told found is in let n = inode_count told found is in let h = few told found is in omega arith)
