use Rattle.std.proofs.Common.{◌≡◌, List, ◌∙◌, sym, subst, length, eqb, true, false}
use Rattle.sfs_image.specs.Inode.{Inode}
use Rattle.std.proofs.lemmas.Bool.{eqb-true, eqb-false}
use Rattle.disk_tree.specs.Inodes.{inode_at, breaks_size_by}
use Rattle.disk_tree.specs.First.{IsFirst, NonePasses}
use Rattle.disk_tree.proofs.InodesRead.{malformed_refusal, root_is_refused, size_is_refused, record_rules_kept, kind_in_record}
use Rattle.disk_tree.proofs.InodesRead.{sizes_none, sizes_first, sound_all, whole_all}
use Rattle.disk_tree.proofs.inodes.read_inodes.Goals as goal

pub returns-in-Err-clause-bad : goal.returns-in-Err-clause-bad
returns-in-Err-clause-bad c = malformed_refusal c.args.layout.now c.args.records.now.items c.in-Err.fault c.requires.count c.in-Err.ensures.bad

pub returns-then-not-has_root-clause-bad : goal.returns-then-not-has_root-clause-bad
returns-then-not-has_root-clause-bad c =
    let is = c.in-Ok.ensures.inodes in
    let other : eqb (inode_at c.in-Ok.inodes.items 0).kind 2 ≡ false =
    subst (λ (xs : List Inode). eqb (inode_at xs 0).kind 2 ≡ false) c.deref.ensures.value (sym c.if-not-has_root.ensures) in
    let same = kind_in_record c.args.layout.now c.args.records.now.items c.in-Ok.inodes.items c.requires.count is 0 c.requires.some in
    λ told. root_is_refused told c.args.layout.now c.args.records.now.items c.requires.some
    (sound_all c.args.layout.now c.args.records.now.items c.in-Ok.inodes.items c.requires.count is c.in-Ok.ensures.sound)
    (λ root. eqb-false _ _ other (same ∙ root))

pub returns-in-Some-clause-bad : goal.returns-in-Some-clause-bad
returns-in-Some-clause-bad c =
    let is = c.in-Ok.ensures.inodes in
    let two : eqb (inode_at c.in-Ok.inodes.items 0).kind 2 ≡ true =
    subst (λ (xs : List Inode). eqb (inode_at xs 0).kind 2 ≡ true) c.deref.ensures.value (sym c.if-not-has_root.ensures) in
    let same = kind_in_record c.args.layout.now c.args.records.now.items c.in-Ok.inodes.items c.requires.count is 0 c.requires.some in
    λ told. size_is_refused told c.args.layout.now c.args.records.now.items c.in-Some.inode
    (sound_all c.args.layout.now c.args.records.now.items c.in-Ok.inodes.items c.requires.count is c.in-Ok.ensures.sound) (sym same ∙ eqb-true _ _ two)
    (sizes_first c.args.layout.now c.args.records.now.items c.in-Ok.inodes.items c.requires.count is c.in-Some.inode
    (subst (λ (xs : List Inode). IsFirst (length xs) (λ i. breaks_size_by (inode_at xs i)) c.in-Some.inode) c.deref-2.ensures.value c.in-Some.ensures))

pub returns-clause-keep : goal.returns-clause-keep
returns-clause-keep c =
    let is = c.in-Ok.ensures.inodes in
    let two : eqb (inode_at c.in-Ok.inodes.items 0).kind 2 ≡ true =
    subst (λ (xs : List Inode). eqb (inode_at xs 0).kind 2 ≡ true) c.deref.ensures.value (sym c.if-not-has_root.ensures) in
    let same = kind_in_record c.args.layout.now c.args.records.now.items c.in-Ok.inodes.items c.requires.count is 0 c.requires.some in
    record_rules_kept c.args.layout.now c.args.records.now.items
    (whole_all c.args.layout.now c.args.records.now.items c.in-Ok.inodes.items c.requires.count is c.in-Ok.ensures.whole)
    (sound_all c.args.layout.now c.args.records.now.items c.in-Ok.inodes.items c.requires.count is c.in-Ok.ensures.sound) (sym same ∙ eqb-true _ _ two)
    (sizes_none c.args.layout.now c.args.records.now.items c.in-Ok.inodes.items c.requires.count is
    (subst (λ (xs : List Inode). NonePasses (length xs) (λ i. breaks_size_by (inode_at xs i))) c.deref-2.ensures.value c.in_default.ensures))
