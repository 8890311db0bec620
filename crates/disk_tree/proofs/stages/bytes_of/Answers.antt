use Rattle.std.proofs.Common.{ℕ, List, length, subst, arith}
use Rattle.sfs_base.specs.Lists.{Roomy}
use Rattle.disk_tree.specs.Blocks.{breaks_tail_at, AreSlotLists, BreaksSeventh}
use Rattle.disk_tree.specs.First.{IsFirst, NonePasses}
use Rattle.disk_tree.specs.Judged.{IsRefusal}
use Rattle.disk_tree.specs.Contents.{AreReadContents}
use Rattle.disk_tree.proofs.BytesStage.{sizes_fit, blocks_within, sixth_refused, seventh_refusal, read_well}
use Rattle.disk_tree.proofs.InodesRead.{length_inodes}
use Rattle.disk_tree.proofs.stages.bytes_of.Goals as goal

pub gather_contents-requires-clause-sizes : goal.gather_contents-requires-clause-sizes
gather_contents-requires-clause-sizes g c κs lives = λ i less.
    let many = length_inodes c.args.layout.now c.args.records.now.items c.args.inodes.now c.requires.counts.0 c.requires.inodes in
    sizes_fit
    (g.D.Disk.view c.args.disk.now).content c.args.layout.now c.args.records.now.items c.requires.counts.0 c.args.inodes.now c.requires.inodes
    c.requires.fit c.args.tables.now c.requires.records c.requires.keep i
    (omega arith)

pub gather_contents-requires-clause-within : goal.gather_contents-requires-clause-within
gather_contents-requires-clause-within g c κs lives = λ i n less inside.
    let many = length_inodes c.args.layout.now c.args.records.now.items c.args.inodes.now c.requires.counts.0 c.requires.inodes in
    let room = c.requires.layout.room in
    blocks_within
    (g.D.Disk.view c.args.disk.now).content c.args.layout.now c.args.records.now.items c.requires.counts.0 c.args.inodes.now c.requires.inodes
    c.requires.fit c.args.tables.now c.requires.records c.requires.keep
    (g.D.Disk.view c.args.disk.now).size i n (omega arith) inside (omega arith) c.requires.layout.within

pub first_of_bad_tail-requires-clause-small : goal.first_of_bad_tail-requires-clause-small
first_of_bad_tail-requires-clause-small g c = λ i less.
    let many = length_inodes c.args.layout.now c.args.records.now.items c.args.inodes.now c.requires.counts.0 c.requires.inodes in
    sizes_fit
    (g.D.Disk.view c.args.disk.now).content c.args.layout.now c.args.records.now.items c.requires.counts.0 c.args.inodes.now c.requires.inodes
    c.requires.fit c.args.tables.now c.requires.records c.requires.keep i
    (omega arith)

pub gather_slots-requires-clause-small : goal.gather_slots-requires-clause-small
gather_slots-requires-clause-small g c = λ i less.
    let many = length_inodes c.args.layout.now c.args.records.now.items c.args.inodes.now c.requires.counts.0 c.requires.inodes in
    sizes_fit
    (g.D.Disk.view c.args.disk.now).content c.args.layout.now c.args.records.now.items c.requires.counts.0 c.args.inodes.now c.requires.inodes
    c.requires.fit c.args.tables.now c.requires.records c.requires.keep i
    (omega arith)

pub returns-in-Some-clause-bad : goal.returns-in-Some-clause-bad
returns-in-Some-clause-bad g c =
    let many = length_inodes c.args.layout.now c.args.records.now.items c.args.inodes.now c.requires.counts.0 c.requires.inodes in
    let all =
    subst (λ (n : ℕ). AreReadContents (g.D.Disk.view c.args.disk.now).content c.args.inodes.now c.args.tables.now n c.in_ok-contents.contents.items) many
    c.in_ok-contents.ensures.ok in
    sixth_refused
    (g.D.Disk.view c.args.disk.now).content c.args.layout.now c.args.records.now.items c.requires.counts.0 c.args.inodes.now c.requires.inodes
    c.requires.fit c.args.tables.now c.requires.records c.requires.keep c.in_ok-contents.contents.items all c.in-Some.inode
    (subst
    (λ (xs : List (Roomy ℕ)). IsFirst (length c.args.inodes.now) (breaks_tail_at c.args.inodes.now xs) c.in-Some.inode) c.deref.ensures.value
    c.in-Some.ensures)

pub returns-in-Ok-clause-ok : goal.returns-in-Ok-clause-ok
returns-in-Ok-clause-ok g c =
    let many = length_inodes c.args.layout.now c.args.records.now.items c.args.inodes.now c.requires.counts.0 c.requires.inodes in
    let all =
    subst (λ (n : ℕ). AreReadContents (g.D.Disk.view c.args.disk.now).content c.args.inodes.now c.args.tables.now n c.in_ok-contents.contents.items) many
    c.in_ok-contents.ensures.ok in
    read_well
    (g.D.Disk.view c.args.disk.now).content c.args.layout.now c.args.records.now.items c.requires.counts.0 c.args.inodes.now c.requires.inodes
    c.requires.fit c.args.tables.now c.requires.records c.requires.keep c.in_ok-contents.contents.items all
    (subst (λ (xs : List (Roomy ℕ)). NonePasses (length c.args.inodes.now) (breaks_tail_at c.args.inodes.now xs)) c.deref.ensures.value c.in_default.ensures)
    c.in-Ok.slots.items
    (subst
    (λ (xs : List (Roomy ℕ)). AreSlotLists c.args.inodes.now xs (length c.args.inodes.now) c.in-Ok.slots.items) c.deref-2.ensures.value c.in-Ok.ensures.ok)

pub returns-in-Err-clause-bad : goal.returns-in-Err-clause-bad
returns-in-Err-clause-bad g c =
    let many = length_inodes c.args.layout.now c.args.records.now.items c.args.inodes.now c.requires.counts.0 c.requires.inodes in
    let all =
    subst (λ (n : ℕ). AreReadContents (g.D.Disk.view c.args.disk.now).content c.args.inodes.now c.args.tables.now n c.in_ok-contents.contents.items) many
    c.in_ok-contents.ensures.ok in
    seventh_refusal
    (g.D.Disk.view c.args.disk.now).content c.args.layout.now c.args.records.now.items c.requires.counts.0 c.args.inodes.now c.requires.inodes
    c.requires.fit c.args.tables.now c.requires.records c.requires.keep c.in_ok-contents.contents.items all
    (subst (λ (xs : List (Roomy ℕ)). NonePasses (length c.args.inodes.now) (breaks_tail_at c.args.inodes.now xs)) c.deref.ensures.value c.in_default.ensures)
    c.in-Err.fault
    (subst (λ (xs : List (Roomy ℕ)). IsRefusal (BreaksSeventh c.args.inodes.now xs) c.in-Err.fault) c.deref-2.ensures.value c.in-Err.ensures.bad)
