-- A tree from what was read: the rows, the refusals, and what is found.
use Rattle.std.proofs.Common.{◌≡◌, ℕ, ◌<◌, List, length, Option, sym, subst, ◌∙◌}
use Rattle.sfs_base.specs.Lists.{Roomy}
use Rattle.sfs_image.specs.Slot.{Row}
use Rattle.sfs_image.specs.Super.{Layout}
use Rattle.disk_tree.specs.Built.{MayBuild, node_entries, row_entries, tree_of_entries}
use Rattle.disk_tree.specs.Found.{IsFoundIn, WereReadWell}
use Rattle.disk_tree.specs.Judged.{IsReadRefusal, IsRefusal, Refused}
use Rattle.disk_tree.specs.KeptParts.{gathered_in_use}
use Rattle.disk_tree.specs.Ordered.{AreFewRows, BreaksFirst, KeepTreeRules}
use Rattle.disk_tree.specs.Rows.{AreNamingCounts, AreRowLists}
use Rattle.disk_tree.specs.declared.fault.TreeFault.{TreeFault}
use Rattle.disk_tree.specs.declared.found.Found.{Found}
use Rattle.disk_tree.specs.declared.read.ReadInodes.{ReadInodes}
use Rattle.disk_tree.proofs.InodesRead.{length_inodes}
use Rattle.disk_tree.proofs.PartsWhole.{LiesOnDisk, parts_whole}
use Rattle.disk_tree.proofs.RulesJudged.{are_few, tree_refusal}
use Rattle.disk_tree.proofs.TreeShown.{may_build, found_is}

module _ (told : Option (List ℕ)) (layout : Layout) (records : List (List ℕ)) (count : length records ≡ layout.inodes) (some : 0 < layout.inodes)
    (read : ReadInodes) (ok : WereReadWell told layout records read)
    (slots : List (Roomy (List (Option Row)))) (slots_are : slots ≡ read.slots.items) (rows : List (Roomy Row))
    (gathered : AreRowLists slots (length slots) rows) where
  lists : AreRowLists read.slots.items layout.inodes rows
  lists =
      subst (λ (n : ℕ). AreRowLists read.slots.items n rows) ok.well.slots_are.count
      (subst (λ (xs : List (Roomy (List (Option Row)))). AreRowLists xs (length xs) rows) slots_are gathered)

  pub inode_count : length read.inodes.items ≡ layout.inodes
  inode_count = length_inodes layout records read.inodes.items count ok.inodes

  pub rows_few : AreFewRows rows
  rows_few =
      are_few told layout records count read.inodes.items ok.inodes ok.fit read.tables.items ok.pointers read.contents.items read.slots.items ok.well rows lists

  pub refusal : (fault : TreeFault) → IsRefusal (BreaksFirst read.inodes.items rows) fault → IsReadRefusal (Refused told layout records) fault
  refusal =
      tree_refusal told layout records count read.inodes.items ok.inodes ok.fit read.tables.items ok.pointers read.contents.items read.slots.items ok.well rows
      lists some

  module _ (kept : KeepTreeRules read.inodes.items rows) (named : List ℕ)
      (naming : AreNamingCounts rows (length read.inodes.items) (length read.inodes.items) named) where
    pub may : MayBuild layout read.inodes.items named read.contents.items rows
    may =
        may_build told layout records count read.inodes.items ok.inodes ok.fit ok.first read.tables.items ok.pointers read.contents.items read.slots.items
        ok.well rows lists some kept named naming
        (ok.well.content_count ∙ sym inode_count)

    pub is_found : LiesOnDisk told layout → (found : Found) →
        found.tree ≡ tree_of_entries layout (node_entries read.inodes.items named read.contents.items (length read.inodes.items))
        (row_entries rows (length rows)) →
        found.parts.items ≡ gathered_in_use read.inodes.items read.tables.items read.slots.items (length read.inodes.items)
        → IsFoundIn told layout records found
    is_found lies =
        found_is told layout records count read.inodes.items ok.inodes ok.fit ok.first read.tables.items ok.pointers read.contents.items read.slots.items
        ok.well rows lists some kept named naming
        (parts_whole told layout records count read ok lies)
