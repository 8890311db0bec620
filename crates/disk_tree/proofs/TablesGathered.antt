-- How the indirect blocks of all inodes are gathered.
use Rattle.std.proofs.Common.{◌≡◌, ℕ, ◌+◌, ◌-◌, ◌<◌, true, false, List, [], ◌∷◌, ◌++◌, length, get_or, Option, refl, sym, ap, subst, ◌∙◌, arith, inl, inr}
use Rattle.std.proofs.lemmas.Bool.{cases_lt}
use Rattle.std.proofs.lemmas.List.{length-append, get_or_append_left, get_or-append_right, get_or_read}
use Rattle.sfs_base.specs.Lists.{Roomy}
use Rattle.sfs_image.specs.Inode.{Inode, Table, inode_of}
use Rattle.sfs_image.specs.Super.{Layout}
use Rattle.disk_tree.specs.Gathered.{tables_at, AreTables, BreaksFourth}
use Rattle.disk_tree.specs.Inodes.{inode_at}
use Rattle.disk_tree.specs.Pointers.{AreJudgedTables, FindsTables}

module _ (told : Option (List ℕ)) (layout : Layout) (inodes : List Inode) (n : ℕ) (old new : List (Roomy Table))
    (before : AreTables told layout inodes n old) where
  pub more_tables : (tables : Roomy Table) → new ≡ old ++ tables ∷ [] → AreJudgedTables told layout (inode_at inodes n) false tables.items
      → AreTables told layout inodes (n + 1) new
  more_tables tables put judged = record {
    count = ap length put ∙ length-append old (tables ∷ []) ∙ (let c = before.count in omega arith);
    each = λ i less. elim (cases_lt i n) [
      | inl below ↦
          (let same : tables_at new i ≡ tables_at old i = ap (λ (xs : List (Roomy Table)). tables_at xs i) put
          ∙ ap (λ (t : Roomy Table). t.items)
          (get_or_append_left old (tables ∷ []) (record { items = []; spare = 0 }) i (let c = before.count in omega arith)) in
          subst (AreJudgedTables told layout (inode_at inodes i) false) (sym same) (before.each i below))
      | inr last ↦ (let here : n ≡ i = omega arith in
          let first : n - n ≡ 0 = omega arith in
          let same : tables_at new n ≡ tables.items =
          ap (λ (xs : List (Roomy Table)). tables_at xs n) put
          ∙ ap (λ (t : Roomy Table). t.items)
          (get_or-append_right old (tables ∷ []) n n (record { items = []; spare = 0 }) before.count (omega arith)
          ∙ ap (λ (k : ℕ). get_or (tables ∷ []) k (record { items = []; spare = 0 })) first) in
          subst (λ (j : ℕ). AreJudgedTables told layout (inode_at inodes j) false (tables_at new j)) here
          (subst (AreJudgedTables told layout (inode_at inodes n) false) (sym same) judged))
    ];
  }

  pub fourth_broken : n < length inodes → (tables : List Table) × AreJudgedTables told layout (inode_at inodes n) true tables
      → BreaksFourth told layout inodes n 4
  fourth_broken within here = record { fourth = refl; within = within; before = λ j less. (tables_at old j, before.each j less); here = here }

-- what was found of the inode of a number, where the disk tells the same
pub found_at : (now told : Option (List ℕ)) (layout : Layout) (inodes : List Inode) (place : ℕ) (inode : Inode) (found : Option (Roomy Table)) → now ≡ told
    → place < length inodes →
    inode ≡ get_or inodes place inode → FindsTables now layout inode found → FindsTables told layout (inode_at inodes place) found
found_at now told layout inodes place inode found same within is finds =
    subst (λ (t : Option (List ℕ)). FindsTables t layout (inode_at inodes place) found) same
    (subst (λ (i : Inode). FindsTables now layout i found) (get_or_read inodes place inode within is (inode_of [])) finds)
