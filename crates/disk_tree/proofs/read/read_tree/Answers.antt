use Rattle.std.proofs.Common.{ℕ, List, length, Option, Result, sym, ap, subst, ◌∙◌, arith}
use Rattle.std.specs.Prelude.{IfErr}
use Rattle.std.proofs.lemmas.Result.{err_from_is_err_and}
use Rattle.sfs_base.specs.Lists.{Roomy}
use Rattle.sfs_image.specs.Inode.{Inode, Table}
use Rattle.sfs_image.specs.Slot.{Row}
use Rattle.disk_tree.specs.Built.{MayBuild, node_entries, row_entries, tree_of_entries}
use Rattle.disk_tree.specs.Ordered.{AreFewRows, BreaksFirst, KeepTreeRules}
use Rattle.disk_tree.specs.Judged.{IsReadRefusal, IsRefusal, Refused}
use Rattle.disk_tree.specs.KeptParts.{gathered_in_use}
use Rattle.disk_tree.specs.Rows.{AreNamingCounts}
use Rattle.disk_tree.specs.declared.fault.TreeFault.{TreeFault}
use Rattle.disk_tree.specs.declared.found.Found.{Found}
use Rattle.disk_tree.proofs.PartsWhole.{LiesOnDisk}
use Rattle.disk_tree.proofs.TreeRead.{rows_few, refusal, may, is_found}
use Rattle.disk_tree.proofs.read.read_tree.Goals as goal

pub judged_naming-requires-clause-short : goal.judged_naming-requires-clause-short
judged_naming-requires-clause-short g c =
    let low = c.requires.layout.ranges.inodes_low in
    subst AreFewRows (sym c.deref-3.ensures.value)
    (rows_few (g.D.Disk.view c.args.disk.now).content c.args.layout.now c.args.records.now.items c.requires.count
    (omega arith) c.in_ok-read.read c.in_ok-read.ensures.ok
    c.deref.result.now c.deref.ensures.value c.in_ok-rows.rows.items c.in_ok-rows.ensures)

pub returns-in_err-named-clause-bad : goal.returns-in_err-named-clause-bad
returns-in_err-named-clause-bad g c =
    let low = c.requires.layout.ranges.inodes_low in
    let told = (g.D.Disk.view c.args.disk.now).content in
    let read = c.in_ok-read.read in
    let rows = c.in_ok-rows.rows.items in
    let err = err_from_is_err_and c.from_residual-in_err-named.result c.from_residual-in_err-named.ensures.1 in
    let bad : IsRefusal (BreaksFirst read.inodes.items rows) c.in_err-named.field-0.0 =
    subst (λ (rows : List (Roomy Row)). IsRefusal (BreaksFirst read.inodes.items rows) c.in_err-named.field-0.0) c.deref-3.ensures.value
    (subst
    (λ (inodes : List Inode). IsRefusal (BreaksFirst inodes c.deref-3.result.now) c.in_err-named.field-0.0) c.deref-2.ensures.value
    c.in_err-named.ensures.bad) in
    let refused = refusal told c.args.layout.now c.args.records.now.items c.requires.count (omega arith) read c.in_ok-read.ensures.ok
    c.deref.result.now c.deref.ensures.value rows c.in_ok-rows.ensures c.in_err-named.field-0.0 bad in
    let P : Result Found TreeFault → Type 0 = λ r. IfErr r (IsReadRefusal (Refused told c.args.layout.now c.args.records.now.items)) in
    subst P (sym err.1) (subst (IsReadRefusal (Refused told c.args.layout.now c.args.records.now.items)) (sym err.2) refused)

pub built_tree-requires-clause-may : goal.built_tree-requires-clause-may
built_tree-requires-clause-may g c =
    let low = c.requires.layout.ranges.inodes_low in
    let read = c.in_ok-read.read in
    let rows = c.in_ok-rows.rows.items in
    let kept : KeepTreeRules read.inodes.items rows =
    subst (λ (rows : List (Roomy Row)). KeepTreeRules read.inodes.items rows) c.deref-3.ensures.value
    (subst (λ (inodes : List Inode). KeepTreeRules inodes c.deref-3.result.now) c.deref-2.ensures.value c.in_ok-named.ensures.keep) in
    let naming : AreNamingCounts rows (length read.inodes.items) (length read.inodes.items) c.in_ok-named.named.items =
    subst (λ (rows : List (Roomy Row)). AreNamingCounts rows (length read.inodes.items) (length read.inodes.items) c.in_ok-named.named.items)
    c.deref-3.ensures.value
    (subst
    (λ (inodes : List Inode). AreNamingCounts c.deref-3.result.now (length inodes) (length inodes) c.in_ok-named.named.items) c.deref-2.ensures.value
    c.in_ok-named.ensures.named) in
    subst (λ (named : List ℕ). MayBuild c.args.layout.now read.inodes.items named read.contents.items c.deref-5.result.now) (sym c.deref-4.ensures.value)
    (subst (λ (rows : List (Roomy Row)). MayBuild c.args.layout.now read.inodes.items c.in_ok-named.named.items read.contents.items rows)
    (sym c.deref-5.ensures.value)
    (may (g.D.Disk.view c.args.disk.now).content c.args.layout.now c.args.records.now.items c.requires.count (omega arith) read c.in_ok-read.ensures.ok
    c.deref.result.now c.deref.ensures.value rows c.in_ok-rows.ensures kept c.in_ok-named.named.items naming))

pub returns-clause-ok : goal.returns-clause-ok
returns-clause-ok g c =
    let laws = g.met.D.Disk g.world.𝓛 g.world.𝓜 g.world.𝓡 ((λ s x. x), (λ x. x), (λ x. x), λ x. x) in
    let lies : LiesOnDisk (g.D.Disk.view c.args.disk.now).content c.args.layout.now =
    record { size = (g.D.Disk.view c.args.disk.now).size; fits = c.requires.layout; sized = laws.whole c.args.disk.now } in
    let low = c.requires.layout.ranges.inodes_low in
    let read = c.in_ok-read.read in
    let rows = c.in_ok-rows.rows.items in
    let kept : KeepTreeRules read.inodes.items rows =
    subst (λ (rows : List (Roomy Row)). KeepTreeRules read.inodes.items rows) c.deref-3.ensures.value
    (subst (λ (inodes : List Inode). KeepTreeRules inodes c.deref-3.result.now) c.deref-2.ensures.value c.in_ok-named.ensures.keep) in
    let naming : AreNamingCounts rows (length read.inodes.items) (length read.inodes.items) c.in_ok-named.named.items =
    subst (λ (rows : List (Roomy Row)). AreNamingCounts rows (length read.inodes.items) (length read.inodes.items) c.in_ok-named.named.items)
    c.deref-3.ensures.value
    (subst
    (λ (inodes : List Inode). AreNamingCounts c.deref-3.result.now (length inodes) (length inodes) c.in_ok-named.named.items) c.deref-2.ensures.value
    c.in_ok-named.ensures.named) in
    is_found (g.D.Disk.view c.args.disk.now).content c.args.layout.now c.args.records.now.items c.requires.count (omega arith) read c.in_ok-read.ensures.ok
    c.deref.result.now c.deref.ensures.value rows c.in_ok-rows.ensures kept c.in_ok-named.named.items naming lies _
    (c.in_ok-tree.ensures
    ∙ ap (λ (named : List ℕ). tree_of_entries c.args.layout.now (node_entries read.inodes.items named read.contents.items (length read.inodes.items))
    (row_entries c.deref-5.result.now (length c.deref-5.result.now)))
    c.deref-4.ensures.value
    ∙ ap (λ (rows : List (Roomy Row)). tree_of_entries c.args.layout.now
    (node_entries read.inodes.items c.in_ok-named.named.items read.contents.items (length read.inodes.items)) (row_entries rows (length rows)))
    c.deref-5.ensures.value)
    (c.in_ok-parts.ensures
    ∙ ap (λ (inodes : List Inode). gathered_in_use inodes c.deref-7.result.now c.deref-8.result.now (length inodes)) c.deref-6.ensures.value
    ∙ ap (λ (tables : List (Roomy Table)). gathered_in_use read.inodes.items tables c.deref-8.result.now (length read.inodes.items)) c.deref-7.ensures.value
    ∙ ap (λ (slots : List (Roomy (List (Option Row)))). gathered_in_use read.inodes.items read.tables.items slots (length read.inodes.items))
    c.deref-8.ensures.value)
