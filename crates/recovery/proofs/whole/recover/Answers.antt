-- A recovery reads, judges and settles.
use Rattle.std.proofs.Common.{◌≡◌, ℕ, ◌<◌, ◌≤◌, List, length, Option, Some, None, refl, sym, ap, subst, ◌∙◌, arith}
use Rattle.std.specs.List.Sorted.{IsStrictlyIncreasing}
use Rattle.sfs_base.specs.Ends.{HasRisen}
use Rattle.sfs_dev.proofs.Runs.{GoesOn-trans}
use Rattle.recovery.proofs.BegunFrom.{as_many}
use Rattle.recovery.proofs.JudgedImage.{image_stands, settled_whole}
use Rattle.recovery.proofs.KeptLinked.{kept_linked, orphans_are_those, unlinked_few, slots_few}
use Rattle.recovery.proofs.RecoverMoments.{calm_stays, read_moments, all_moments, all_ended, ready_by, failed_for}
use Rattle.recovery.proofs.Unlinked.{unlinked_ascend}
use Rattle.journal_one.specs.Packed.{Contents}
use Rattle.sfs_dev.specs.Run.{Unwritten}
use Rattle.recovery.specs.Freed.{PacksFreeing, unlinked_in, is_linked_kept}
use Rattle.sfs_image.specs.Settled.{parts_of}
use Rattle.std.specs.List.{filter}
use Rattle.recovery.proofs.whole.recover.Goals as goal

some_inode : (inodes : ℕ) → 16 ≤ inodes → 0 < inodes
some_inode inodes low = omega (arith, low)

pub returns-in_err-layout-clause-moments : goal.returns-in_err-layout-clause-moments
returns-in_err-layout-clause-moments g c image told calm counts =
    read_moments (g.D.Disk.view c.args.disk.now) (g.D.Disk.view c.judge.new.disk) image told calm c.judge.ensures.reads.unwritten counts

pub returns-in_err-parts-clause-moments : goal.returns-in_err-parts-clause-moments
returns-in_err-parts-clause-moments g c image told calm counts =
    read_moments (g.D.Disk.view c.args.disk.now) (g.D.Disk.view c.judge.new.disk) image told calm c.judge.ensures.reads.unwritten counts

pub returns-in_err-unlinked-clause-moments : goal.returns-in_err-unlinked-clause-moments
returns-in_err-unlinked-clause-moments g c image told calm counts =
    read_moments (g.D.Disk.view c.args.disk.now) (g.D.Disk.view c.judge.new.disk) image told calm c.judge.ensures.reads.unwritten counts

pub returns-in_err-packed-clause-moments : goal.returns-in_err-packed-clause-moments
returns-in_err-packed-clause-moments g c image told calm counts =
    read_moments (g.D.Disk.view c.args.disk.now) (g.D.Disk.view c.judge.new.disk) image told calm c.judge.ensures.reads.unwritten counts

pub pack_freeing-requires : goal.pack_freeing-requires
pack_freeing-requires g c = subst IsStrictlyIncreasing (sym (c.deref.ensures.value ∙ c.in_ok-unlinked.ensures)) (unlinked_ascend _ _)

pub returns-in_err-settle_disk-clause-moments : goal.returns-in_err-settle_disk-clause-moments
returns-in_err-settle_disk-clause-moments g c image told calm counts =
    let view = g.D.Disk.view in
    let judged = c.in_ok-layout.field-0 in
    let own = c.in_ok-layout.ensures.ok image told in
    let some = some_inode judged.layout.inodes c.in_ok-layout.ensures.fits.ranges.inodes_low in
    let stands = image_stands image judged.layout judged.records.items own.settles some own.faultless in
    let mid_told = c.in_ok-layout.ensures.reads.unwritten.content ∙ told in
    let calm_mid = calm_stays (view c.args.disk.now) (view c.judge.new.disk) c.in_ok-layout.ensures.reads.unwritten calm in
    let ready =
    ready_by image judged.layout judged.open_slots.items c.deref-2.result.now judged.stamps.items c.deref-3.result.now judged.records.items
    c.as_slice-2.result.now
    c.deref-2.ensures.value c.deref-3.ensures.value c.as_slice-2.ensures stands own.open_slots (own.newest stands) in
    all_moments image judged.layout judged.records.items own.settles some own.faultless (view c.args.disk.now) (view c.judge.new.disk)
    (view c.settle_disk.new.disk) c.settle_disk.result
    told mid_told calm c.in_ok-layout.ensures.reads.unwritten counts c.settle_disk.ensures.ran.advances
    (c.settle_disk.ensures.settles image mid_told calm_mid ready)

pub returns-in_err-settle_disk-clause-runs : goal.returns-in_err-settle_disk-clause-runs
returns-in_err-settle_disk-clause-runs g c =
    let view = g.D.Disk.view in
    let old = view c.args.disk.now in
    let mid = view c.judge.new.disk in
    let new = view c.settle_disk.new.disk in
    record {
      advances = GoesOn-trans old mid new c.in_ok-layout.ensures.reads.advances c.in_err-settle_disk.ensures.ran.advances;
      cause = failed_for old.faults new.faults c.from_residual-in_err-settle_disk.result c.from_residual-in_err-settle_disk.ensures.1
          (subst (λ (n : ℕ). HasRisen n new.faults) c.in_ok-layout.ensures.reads.cause c.in_err-settle_disk.ensures.ran.cause.risen);
    }

pub returns-clause-ok : goal.returns-clause-ok
returns-clause-ok g c image told =
    let own = c.in_ok-layout.ensures.ok image told in
    let judged = c.in_ok-layout.field-0 in
    record {
      layout_is = own.settles.layout_is;
      whole = settled_whole image judged c.in_ok-layout.ensures.found own.settles;
      tree = own.found.tree;
      kept = c.in_ok-parts.ensures ∙ ap (filter is_linked_kept) own.found.kept ∙ kept_linked judged.layout.inodes (parts_of judged.layout image);
      closed = c.count_of.ensures ∙ ap length c.deref-4.ensures.value ∙ as_many judged.layout image judged.open_slots.items own.open_slots;
      freed = c.count_of-2.ensures ∙ ap length (c.deref-5.ensures.value ∙ c.in_ok-unlinked.ensures ∙ ap unlinked_in c.as_slice.ensures
          ∙ orphans_are_those judged.layout image judged.records.items c.in_ok-layout.ensures.fit.records own.settles.each);
    }

pub returns-clause-sound : goal.returns-clause-sound
returns-clause-sound g c =
    let judged = c.in_ok-layout.field-0 in
    let found = c.in_ok-layout.ensures.found in
    record {
      fits = c.in_ok-layout.ensures.fits;
      sound = found.sound;
      limits = found.limits;
      parts = found.parts;
      whole = found.whole;
      faultless = found.faultless;
      shown = found.tree;
      kept = c.in_ok-parts.ensures ∙ ap (filter is_linked_kept) found.kept ∙ kept_linked judged.layout.inodes found.parts;
    }

pub count_of-requires : goal.count_of-requires
count_of-requires g c =
    let judged = c.in_ok-layout.field-0 in
    let few = c.in_ok-layout.ensures.fit.few in
    let most = slots_few judged.layout c.in_ok-layout.ensures.fits.ranges in
    let same = ap length c.deref-4.ensures.value in
    omega (arith, few, most, same)

pub count_of-requires-2 : goal.count_of-requires-2
count_of-requires-2 g c =
    let judged = c.in_ok-layout.field-0 in
    let few = unlinked_few judged.records.items in
    let most = c.in_ok-layout.ensures.fits.ranges.inodes_high in
    let count = c.in_ok-layout.ensures.fit.records in
    let same = ap length (c.deref-5.ensures.value ∙ c.in_ok-unlinked.ensures ∙ ap unlinked_in c.as_slice.ensures) in
    omega (arith, few, most, count, same)

pub returns-clause-moments : goal.returns-clause-moments
returns-clause-moments g c image told calm counts =
    let view = g.D.Disk.view in
    let judged = c.in_ok-layout.field-0 in
    let own = c.in_ok-layout.ensures.ok image told in
    let some = some_inode judged.layout.inodes c.in_ok-layout.ensures.fits.ranges.inodes_low in
    let stands = image_stands image judged.layout judged.records.items own.settles some own.faultless in
    let mid_told = c.in_ok-layout.ensures.reads.unwritten.content ∙ told in
    let calm_mid = calm_stays (view c.args.disk.now) (view c.judge.new.disk) c.in_ok-layout.ensures.reads.unwritten calm in
    let ready =
    ready_by image judged.layout judged.open_slots.items c.deref-2.result.now judged.stamps.items c.deref-3.result.now judged.records.items
    c.as_slice-2.result.now
    c.deref-2.ensures.value c.deref-3.ensures.value c.as_slice-2.ensures stands own.open_slots (own.newest stands) in
    all_moments image judged.layout judged.records.items own.settles some own.faultless (view c.args.disk.now) (view c.judge.new.disk)
    (view c.settle_disk.new.disk) c.settle_disk.result
    told mid_told calm c.in_ok-layout.ensures.reads.unwritten counts c.settle_disk.ensures.ran.advances
    (c.settle_disk.ensures.settles image mid_told calm_mid ready)

pub returns-clause-ended : goal.returns-clause-ended
returns-clause-ended g c image told calm =
    let view = g.D.Disk.view in
    let judged = c.in_ok-layout.field-0 in
    let own = c.in_ok-layout.ensures.ok image told in
    let some = some_inode judged.layout.inodes c.in_ok-layout.ensures.fits.ranges.inodes_low in
    let stands = image_stands image judged.layout judged.records.items own.settles some own.faultless in
    let mid_told = c.in_ok-layout.ensures.reads.unwritten.content ∙ told in
    let calm_mid = calm_stays (view c.args.disk.now) (view c.judge.new.disk) c.in_ok-layout.ensures.reads.unwritten calm in
    let ready =
    ready_by image judged.layout judged.open_slots.items c.deref-2.result.now judged.stamps.items c.deref-3.result.now judged.records.items
    c.as_slice-2.result.now
    c.deref-2.ensures.value c.deref-3.ensures.value c.as_slice-2.ensures stands own.open_slots (own.newest stands) in
    let done = c.in_ok-settle_disk.ensures.settles image mid_told calm_mid ready in
    record {
      left = all_ended image judged.layout judged.records.items own.settles some own.faultless (view c.judge.new.disk) (view c.settle_disk.new.disk) _ done;
      tells = λ content is. done.told content (c.in_ok-layout.ensures.reads.unwritten.content ∙ is);
    }

-- nothing is packed where there is nothing to free
packs_nothing : (inodes : List ℕ) (packed : Option Contents) → PacksFreeing inodes packed → length inodes ≡ 0 → packed ≡ None
packs_nothing inodes None packs none = refl
packs_nothing inodes (Some some) packs none = absurd (let few = packs.0 in omega (arith, few, none))

pub returns-clause-unwritten : goal.returns-clause-unwritten
returns-clause-unwritten g c closed freed =
    let view = g.D.Disk.view in
    let none_open = ap length c.deref-2.ensures.value ∙ sym (c.count_of.ensures ∙ ap length c.deref-4.ensures.value) ∙ closed in
    let none_freed = ap length c.deref.ensures.value ∙ sym (c.count_of-2.ensures ∙ ap length c.deref-5.ensures.value) ∙ freed in
    let same = c.in_ok-settle_disk.ensures.untouched none_open (packs_nothing _ _ c.in_ok-packed.ensures none_freed) in
    subst (λ disk. Unwritten (view c.args.disk.now) (view disk)) (sym same) c.in_ok-layout.ensures.reads.unwritten

pub returns-clause-calm : goal.returns-clause-calm
returns-clause-calm g c calm =
    c.in_ok-settle_disk.ensures.calm (calm_stays (g.D.Disk.view c.args.disk.now) (g.D.Disk.view c.judge.new.disk) c.in_ok-layout.ensures.reads.unwritten calm)

pub returns-clause-runs : goal.returns-clause-runs
returns-clause-runs g c =
    let view = g.D.Disk.view in
    record {
      advances =
          GoesOn-trans (view c.args.disk.now) (view c.judge.new.disk)
          (view c.settle_disk.new.disk) c.in_ok-layout.ensures.reads.advances c.in_ok-settle_disk.ensures.ran.advances;
      cause = c.in_ok-settle_disk.ensures.ran.cause.kept ∙ c.in_ok-layout.ensures.reads.cause;
    }
