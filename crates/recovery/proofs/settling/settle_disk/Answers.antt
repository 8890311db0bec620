-- The slots are settled, and then orphans are freed.
use Rattle.std.proofs.Common.{◌≡◌, ℕ, ◌*◌, ◌<◌, ◌≤◌, List, length, Option, Some, All, sym, ap, subst, ◌∙◌, arith}
use Rattle.sfs_base.proofs.BasicOptions.{none_some}
use Rattle.sfs_image.specs.Journal.{Entry}
use Rattle.sfs_image.specs.Settled.{slot_count}
use Rattle.sfs_image.specs.Super.{Layout, IsLayout}
use Rattle.journal_one.specs.Packed.{Contents}
use Rattle.recovery.specs.Freed.{PacksFreeing, freeing, unlinked_in}
use Rattle.recovery.specs.Recovering.{settled_parts}
use Rattle.recovery.proofs.Recoveries.{unlinked_is, frees_below, settling_failed, nothing_to_free, then_freed}
use Rattle.recovery.proofs.settling.settle_disk.Goals as goal

some_slot : (size : ℕ) (layout : Layout) → IsLayout size layout → 0 < slot_count layout
some_slot size layout fits = go layout.cores layout.slots fits.ranges.cores_low fits.ranges.slots_low
  where
    go : (c s : ℕ) → 1 ≤ c → 1 ≤ s → 0 < c * s
    go c s some more = grind (arith, some, more)

pub returns-in_err-settle_slots-clause-settles : goal.returns-in_err-settle_slots-clause-settles
returns-in_err-settle_slots-clause-settles g c image told calm ready =
    let old = g.D.Disk.view c.args.disk.now in
    settling_failed c.args.layout.now (settled_parts c.args.layout.now image) c.args.records.now c.requires.records ready.newest.each old
    (g.D.Disk.view c.settle_slots.new.disk)
    c.settle_slots.result c.from_residual.result (some_slot old.size c.args.layout.now c.requires.layout) c.from_residual.ensures.0
    (c.settle_slots.ensures.settles image told calm ready)

packs : (inodes : List ℕ) (packed : Option Contents) (some : Contents) → PacksFreeing inodes packed → packed ≡ Some some → PacksFreeing inodes (Some some)
packs inodes packed some packing is = subst (PacksFreeing inodes) is packing

pub free_unlinked-requires-clause-below : goal.free_unlinked-requires-clause-below
free_unlinked-requires-clause-below g c κs within =
    let packing = packs (unlinked_in c.args.records.now) c.args.packed c.in-Some.packed c.requires.packed c.in-Some.is in
    subst (λ n. All (λ (entry : Entry). entry.inode < n) c.in-Some.packed.entries) c.requires.records
    (frees_below c.args.records.now (length c.args.records.now) c.in-Some.packed packing.1)

pub returns-in-Some-clause-settles : goal.returns-in-Some-clause-settles
returns-in-Some-clause-settles g c image told calm ready =
    let layout = c.args.layout.now in
    let records = c.args.records.now in
    let old = g.D.Disk.view c.args.disk.now in
    let mid = g.D.Disk.view c.settle_slots.new.disk in
    let closes = c.in_ok-settle_slots.ensures.settles image told calm ready in
    let packing = packs (unlinked_in records) c.args.packed c.in-Some.packed c.requires.packed c.in-Some.is in
    then_freed layout (settled_parts layout image) records c.requires.records ready.newest.each old mid c.in_ok-settle_slots.field-0
    (g.D.Disk.view c.free_unlinked.new.disk) c.free_unlinked.result
    (some_slot old.size layout c.requires.layout) c.free_unlinked.ensures.ran.advances closes
    (c.free_unlinked.ensures.frees (settled_parts layout image) (length records) _ (packing.1 ∙ ap freeing (unlinked_is records (length records)))
    (subst (λ n. n ≤ length records) c.requires.records (let le : length records ≤ length records = omega arith in le)) closes.closed)

pub returns-in-Some-clause-untouched : goal.returns-in-Some-clause-untouched
returns-in-Some-clause-untouched g c found none = absurd (none_some (sym none ∙ c.in-Some.is))

pub returns-in-None-clause-settles : goal.returns-in-None-clause-settles
returns-in-None-clause-settles g c image told calm ready =
    let layout = c.args.layout.now in
    let old = g.D.Disk.view c.args.disk.now in
    nothing_to_free layout (settled_parts layout image) c.args.records.now c.requires.records ready.newest.each old (g.D.Disk.view c.settle_slots.new.disk) tt
    (subst (PacksFreeing (unlinked_in c.args.records.now)) c.in-None.is c.requires.packed) (c.in_ok-settle_slots.ensures.settles image told calm ready)
