-- The first inode that breaks a rule across inodes, by what was read, is the first fault; and where none does there is no fault.
use Rattle.std.proofs.Common.{◌≡◌, ℕ, ◌/◌, ◌<◌, ◌≤◌, Bool, false, eqb, List, [], ◌∷◌, length, map, Option, None, Some, All, refl, sym, ap, subst, ◌∙◌, arith, inl, inr}
use Rattle.std.proofs.lemmas.Bool.{cases_Bool, cases_lt, eqb-true, eqb-false}
use Rattle.std.proofs.lemmas.List.{get_or_past}
use Rattle.sfs_base.specs.Lists.{Roomy}
use Rattle.sfs_image.specs.Inode.{Inode, IsInode, Table, inode_of}
use Rattle.sfs_image.specs.Part.{inode_in}
use Rattle.sfs_image.specs.Seen.{SeenInodes}
use Rattle.sfs_image.specs.Slot.{Row}
use Rattle.sfs_image.specs.Super.{Layout}
use Rattle.sfs_image.proofs.RuleFacts.{sizes_say}
use Rattle.sfs_image.proofs.ShownLaws.{slots_shown}
use Rattle.image_laws.specs.Image.{inodes_shown}
use Rattle.image_laws.specs.Rules.{breaks_tree_rule}
use Rattle.image_laws.proofs.Parts.{root_shown}
use Rattle.disk_tree.specs.Blocks.{ReadWell}
use Rattle.disk_tree.specs.First.{NonePasses}
use Rattle.disk_tree.specs.Gathered.{KeepPointerRules}
use Rattle.disk_tree.specs.Judged.{Refused, IsRefusal, IsReadRefusal, fault_of_parts}
use Rattle.disk_tree.specs.Ordered.{AreFewRows, BreaksFirst, KeepEarlier, KeepTreeRules, breaks_numbered}
use Rattle.disk_tree.specs.Reached.{MarksReached}
use Rattle.disk_tree.specs.Rows.{AreRowLists, rows_of_inode, rows_in_slots}
use Rattle.disk_tree.specs.Shown.{ShowsRows, AreRowTests, AreCountTests}
use Rattle.disk_tree.specs.declared.fault.TreeFault.{TreeFault}
use Rattle.disk_tree.specs.declared.fault.TreeFault.TheVariants.{DiskFailed, BadImage, NoMemory}
use Rattle.disk_tree.proofs.CountsShown.{count_tests_are_rules}
use Rattle.disk_tree.proofs.PartsShown.{read_parts_show_rows}
use Rattle.disk_tree.proofs.ReachedShown.{reached_test_is_rule}
use Rattle.disk_tree.proofs.Refusals.{breaks_of, byte_rule, tree_rule, refused_at, kept_all}
use Rattle.disk_tree.proofs.RowsShown.{row_tests_are_rules}

-- what holds of each of the rules across inodes
each_rule : (P : ℕ → Type 0) → P 8 → P 9 → P 10 → P 11 → P 12 → P 13 → P 14 → (rule : ℕ) → 8 ≤ rule → rule ≤ 14 → P rule
each_rule P eighth ninth tenth eleventh twelfth thirteenth fourteenth rule low high =
    elim (cases_Bool (eqb rule 8)) [
      | inl is ↦ subst P (sym (eqb-true _ _ is)) eighth
      | inr a ↦ elim (cases_Bool (eqb rule 9)) [
        | inl is ↦ subst P (sym (eqb-true _ _ is)) ninth
        | inr b ↦ elim (cases_Bool (eqb rule 10)) [
          | inl is ↦ subst P (sym (eqb-true _ _ is)) tenth
          | inr c ↦ elim (cases_Bool (eqb rule 11)) [
            | inl is ↦ subst P (sym (eqb-true _ _ is)) eleventh
            | inr d ↦ elim (cases_Bool (eqb rule 12)) [
              | inl is ↦ subst P (sym (eqb-true _ _ is)) twelfth
              | inr e ↦ elim (cases_Bool (eqb rule 13)) [
                | inl is ↦ subst P (sym (eqb-true _ _ is)) thirteenth
                | inr f ↦ (let no_8 = eqb-false _ _ a in
                    let no_9 = eqb-false _ _ b in
                    let no_10 = eqb-false _ _ c in
                    let no_11 = eqb-false _ _ d in
                    let no_12 = eqb-false _ _ e in
                    let no_13 = eqb-false _ _ f in
                    let last : 14 ≡ rule = omega arith in
                    subst P last fourteenth)
              ]
            ]
          ]
        ]
      ]
    ]

-- no more rows than slots
rows_few : (slots : List (Option Row)) → length (rows_in_slots slots) ≤ length slots
rows_few [] = omega arith
rows_few (None ∷ slots) = (let h = rows_few slots in omega arith)
rows_few (Some row ∷ slots) = (let h = rows_few slots in omega arith)

module _ (told : Option (List ℕ)) (layout : Layout) (records : List (List ℕ)) (count : length records ≡ layout.inodes) (inodes : List Inode)
    (are : inodes ≡ map inode_of records) (fit : All IsInode inodes)
    (tables : List (Roomy Table)) (keep : KeepPointerRules told layout records tables) (contents : List (Roomy ℕ)) (slots : List (Roomy (List (Option Row))))
    (well : ReadWell told layout records inodes tables contents slots) (rows : List (Roomy Row)) (lists : AreRowLists slots layout.inodes rows) where
  abbrev image : SeenInodes
  image = inodes_shown layout well.parts

  pub shows : ShowsRows image inodes rows
  shows = read_parts_show_rows told layout records inodes tables contents slots rows count are fit keep well lists

  -- a directory has no more rows than its blocks have slots
  pub are_few : AreFewRows rows
  are_few i = elim (cases_lt i layout.inodes) [
    | inr past ↦
        (let none : length (rows_of_inode rows i)
        ≡ 0 = ap (λ (r : Roomy Row). length r.items) (get_or_past rows i (record { items = []; spare = 0 }) (let c = lists.count in omega arith)) in
        omega arith)
    | inl within ↦ elim (cases_Bool (eqb (image.seen i).kind 2)) [
      | inr other ↦ (let none : length (rows_of_inode rows i) ≡ 0 = ap length (shows.others i within (eqb-false _ _ other)) in omega arith)
      | inl directory ↦
          (let some : length (rows_of_inode rows i) ≡ length (rows_in_slots (image.seen i).slots) = ap length (shows.slots i within (eqb-true _ _ directory)) in
          let few = rows_few (image.seen i).slots in
          let many = (slots_shown (well.parts i) directory).count in
          let blocks = Rattle.std.proofs.lemmas.List.length-take ((inode_in (well.parts i)).size / 4096) (well.parts i).blocks in
          let size = ((sizes_say (well.parts i)).0 (well.keep 3 i (omega arith) (omega arith) within)).few directory in
          omega (arith, some, few, many, blocks, size))
    ]
  ]

  module _ (some : 0 < layout.inodes) where
    -- each rule across inodes is its test, where no inode breaks a rule before it
    abbrev TestIsRule : List Bool → ℕ → ℕ → Type 0
    TestIsRule reached j rule =
        KeepEarlier inodes rows reached rule → (rule ≡ 14 → MarksReached rows (length rows) reached)
        → breaks_tree_rule image rule j ≡ breaks_numbered inodes rows reached rule j

    row_tests : AreRowTests image inodes rows
    row_tests = row_tests_are_rules image inodes rows shows

    none_at : (reached : List Bool) (rule : ℕ) → KeepEarlier inodes rows reached rule → (earlier : ℕ) → 8 ≤ earlier → earlier < rule
        → NonePasses image.count (breaks_numbered inodes rows reached earlier)
    none_at reached rule kept earlier low less i inside = kept earlier i low less (let c = shows.count in omega arith)

    count_tests : (reached : List Bool) (rule : ℕ) → 8 < rule → KeepEarlier inodes rows reached rule → AreCountTests image inodes rows
    count_tests reached rule more kept =
        count_tests_are_rules image inodes rows shows (lists.count ∙ shows.count) (none_at reached rule kept 8 (omega arith) more)

    rule_is_test : (reached : List Bool) (j : ℕ) → j < layout.inodes → (rule : ℕ) → 8 ≤ rule → rule ≤ 14 → TestIsRule reached j rule
    rule_is_test reached j within = each_rule (TestIsRule reached j)
        (λ kept marks. row_tests.eighth j within)
        (λ kept marks. (count_tests reached 9 (omega arith) kept).ninth j within)
        (λ kept marks. row_tests.tenth j within)
        (λ kept marks. row_tests.eleventh j within)
        (λ kept marks. (count_tests reached 12 (omega arith) kept).twelfth j within)
        (λ kept marks. (count_tests reached 13 (omega arith) kept).thirteenth (none_at reached 13 kept 10 (omega arith) (omega arith)) j within)
        (λ kept marks. reached_test_is_rule image inodes rows reached shows (lists.count ∙ shows.count) (none_at reached 14 kept 8 (omega arith) (omega arith))
        (none_at reached 14 kept 10 (omega arith) (omega arith))
        (none_at reached 14 kept 11 (omega arith) (omega arith)) (none_at reached 14 kept 12 (omega arith) (omega arith)) (marks refl) some
        (root_shown (well.parts 0) (well.keep 2 0 (omega arith) (omega arith) some)) j within)

    numbered_is : (reached : List Bool) (rule j : ℕ) → 8 ≤ rule → rule ≤ 14 → j < layout.inodes → KeepEarlier inodes rows reached rule
        → (rule ≡ 14 → MarksReached rows (length rows) reached) →
        breaks_of layout well.parts rule j ≡ breaks_numbered inodes rows reached rule j
    numbered_is reached rule j low high within kept marks =
        tree_rule layout well.parts rule j (omega arith) ∙ rule_is_test reached j within rule low high kept marks

    -- no inode breaks a rule before one before which the tests find none
    none_broken : (reached : List Bool) (rule : ℕ) → rule ≤ 15 → KeepEarlier inodes rows reached rule → (14 < rule → MarksReached rows (length rows) reached) →
        (lesser j : ℕ) → 1 ≤ lesser → lesser < rule → j < layout.inodes → breaks_of layout well.parts lesser j ≡ false
    none_broken reached rule high kept marks lesser j low less within = elim (cases_lt lesser 8) [
      | inl byte ↦ byte_rule layout well.parts lesser j (omega arith) ∙ well.keep lesser j low (omega arith) within
      | inr tree ↦
          numbered_is reached lesser j tree (omega arith) within (λ earlier i first before inside. kept earlier i first (omega arith) inside)
          (λ last. marks (omega arith))
          ∙ kept lesser j tree less (let c = shows.count in omega arith)
    ]

    pub broken_refused : (inode rule : ℕ) → BreaksFirst inodes rows inode rule → Refused told layout records inode rule
    broken_refused inode rule is =
        let low = is.low in
        let high = is.high in
        let inside = is.first.within in
        let c = shows.count in
        refused_at told layout records well.parts rule inode well.hold.read (omega arith) high
        (none_broken is.reached rule (omega arith) is.earlier (λ more. absurd (omega arith))) (record {
          within = omega arith;
          passes = numbered_is is.reached rule inode low high (omega arith) is.earlier is.marks ∙ is.first.passes;
          before = λ k less. numbered_is is.reached rule k low high (omega arith) is.earlier is.marks ∙ is.first.before k less;
        })

    pub tree_refusal : (fault : TreeFault) → IsRefusal (BreaksFirst inodes rows) fault → IsReadRefusal (Refused told layout records) fault
    tree_refusal (BadImage inode rule) is = broken_refused inode rule is
    tree_refusal NoMemory is = tt
    tree_refusal DiskFailed is = tt

    pub faultless : KeepTreeRules inodes rows → fault_of_parts layout well.parts ≡ None
    faultless kept =
        kept_all layout well.parts
        (λ rule j low high within. none_broken kept.reached 15 (omega arith) kept.keep (λ more. kept.marks) rule j low (omega arith) within)
