use Rattle.std.proofs.Common.{◌≡◌, List, Some, sym, subst}
use Rattle.stamp_table.specs.Table.{IsLogAtEnd}
use Rattle.std.specs.Prelude.{slice_get}
use Rattle.mem_values.specs.Facts.{IsLawfulLog}
use Rattle.mem_values.specs.Start.{FileHand, given_by}
use Rattle.disk_box.specs.Pens.{PenHand}
use Rattle.journal_set.specs.Making.{LeavesDisk, MayClose}
use Rattle.slot_image_laws.specs.Run.{KeepsLaws}
use Rattle.mount.proofs.Surviving.{unmounted_survive}
use Rattle.mount.proofs.Teams.{pens_close, there_too}
use Rattle.mount.proofs.unmounting.unmount.Goals as goal

pub close-disk-requires-clause-may : goal.close-disk-requires-clause-may
close-disk-requires-clause-may g c κs within =
    subst (MayClose c.args.volume.set) (sym c.part-cores.ensures.pens)
    (pens_close c.args.volume c.args.workers.items c.requires.volume c.requires.workers)

pub returns-clause-leaves : goal.returns-clause-leaves
returns-clause-leaves g c =
    let parted = c.part-cores.ensures in
    let closed = c.close-history.ensures in
    record {
      legal = rw c.into_shared.ensures at closed.legal;
      own = λ core worker there. closed.own core worker.core
          (subst (λ (l : List FileHand). slice_get l core ≡ Some worker.core) (sym parted.cores) (there_too c.args.workers.items core worker there));
      log = closed.log.0;
      events = subst (λ (l : List FileHand). IsLogAtEnd (IsLawfulLog (given_by c.args.volume.table)) c.args.volume.table.first l c.close-history.result.0
          closed.log.0) parted.cores (rw c.into_shared.ensures at closed.log.1);
      labels = c.close-disk.ensures.leaves.0;
      leaves = subst (λ (l : List (PenHand g.row.D.Denot)). LeavesDisk g.D.Disk.view c.args.volume.set.table.given l c.close-disk.ensures.leaves.0
          c.close-disk.result.0 c.close-disk.result.1.items) parted.pens c.close-disk.ensures.leaves.1;
    }

pub returns-clause-survives : goal.returns-clause-survives
returns-clause-survives g c =
    let view = g.D.Disk.view in
    let told = g.met.D.Disk g.world.𝓛 g.world.𝓜 g.world.𝓡 ((λ s x. x), (λ x. x), (λ x. x), λ x. x) in
    let laws : (disk : g.row.D.Denot) → KeepsLaws (view disk) =
    λ disk. record { whole = told.whole disk; read_is_left = told.read_is_left disk; now_fits = told.now_fits disk }
    in
    unmounted_survive view c.args.volume c.args.workers.items _ _ _ laws c.requires.volume c.requires.workers (returns-clause-leaves g c)
