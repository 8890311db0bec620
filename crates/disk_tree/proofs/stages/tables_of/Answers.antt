use Rattle.std.proofs.Common.{◌≡◌, ℕ, ◌<◌, None, Some, Option, List, sym, subst, ap, arith}
use Rattle.sfs_base.specs.Lists.{Roomy}
use Rattle.sfs_image.specs.Inode.{Table}
use Rattle.sfs_image.specs.Super.{Layout}
use Rattle.disk_tree.specs.Apart.{pointer_in, FindsShared}
use Rattle.disk_tree.specs.Gathered.{AreTables}
use Rattle.disk_tree.proofs.PartsRead.{fourth_refusal, pointers_below, fifth_refused, pointer_rules_kept}
use Rattle.disk_tree.proofs.InodesRead.{length_inodes}
use Rattle.disk_tree.proofs.stages.tables_of.Goals as goal

pub returns-in-Err-clause-bad : goal.returns-in-Err-clause-bad
returns-in-Err-clause-bad g c =
    fourth_refusal _ c.args.layout.now c.args.records.now.items c.requires.count c.args.inodes.now c.requires.inodes c.requires.fit c.requires.keep
    c.in-Err.fault c.in-Err.ensures.bad

pub first_that_shares-requires-clause-within : goal.first_that_shares-requires-clause-within
first_that_shares-requires-clause-within g c = λ i place less inside.
    let many = length_inodes c.args.layout.now c.args.records.now.items c.args.inodes.now c.requires.count c.requires.inodes in
    let room = c.requires.layout.room in
    let all =
    subst (λ (n : ℕ). AreTables (g.D.Disk.view c.args.disk.now).content c.args.layout.now c.args.inodes.now n c.in-Ok.tables.items) many
    c.in-Ok.ensures.ok in
    let blocks : c.layout.inside.blocks ≡ c.args.layout.now.blocks = ap (λ (l : Layout). l.blocks) c.layout.view_is in
    let h =
    pointers_below _ c.args.layout.now c.args.records.now.items c.requires.count c.args.inodes.now c.requires.inodes c.requires.fit c.in-Ok.tables.items all
    i place
    (omega arith) inside (omega arith) in
    subst (λ (xs : List (Roomy Table)). pointer_in c.args.inodes.now xs i place < c.layout.inside.blocks) (sym c.deref.ensures.value) (omega arith)

pub returns-in-Some-clause-bad : goal.returns-in-Some-clause-bad
returns-in-Some-clause-bad g c =
    let many = length_inodes c.args.layout.now c.args.records.now.items c.args.inodes.now c.requires.count c.requires.inodes in
    let all =
    subst (λ (n : ℕ). AreTables (g.D.Disk.view c.args.disk.now).content c.args.layout.now c.args.inodes.now n c.in-Ok.tables.items) many
    c.in-Ok.ensures.ok in
    fifth_refused _ c.args.layout.now c.args.records.now.items c.requires.count c.args.inodes.now c.requires.inodes c.requires.fit c.in-Ok.tables.items all
    c.requires.keep c.in-Some.inode
    (subst (λ (xs : List (Roomy Table)). FindsShared c.args.inodes.now xs (Some c.in-Some.inode)) c.deref.ensures.value
    (subst (λ (o : Option ℕ). FindsShared c.args.inodes.now c.deref.result.now o) c.in-Some.is c.in_ok-inode.ensures.ok))

pub returns-clause-keep : goal.returns-clause-keep
returns-clause-keep g c =
    let many = length_inodes c.args.layout.now c.args.records.now.items c.args.inodes.now c.requires.count c.requires.inodes in
    let all =
    subst (λ (n : ℕ). AreTables (g.D.Disk.view c.args.disk.now).content c.args.layout.now c.args.inodes.now n c.in-Ok.tables.items) many
    c.in-Ok.ensures.ok in
    let found : FindsShared c.args.inodes.now c.in-Ok.tables.items None =
    subst (λ (xs : List (Roomy Table)). FindsShared c.args.inodes.now xs None) c.deref.ensures.value
    (subst (λ (o : Option ℕ). FindsShared c.args.inodes.now c.deref.result.now o) c.in_default.is c.in_ok-inode.ensures.ok) in
    pointer_rules_kept _ c.args.layout.now c.args.records.now.items c.requires.count c.args.inodes.now c.requires.inodes c.requires.fit c.in-Ok.tables.items all
    c.requires.keep found.0 found.1
