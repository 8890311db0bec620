use Rattle.std.proofs.Common.{None, Some, ap, arith}
use Rattle.sfs_image.specs.Seen.{PLACES}
use Rattle.disk_tree.specs.Apart.{pointer_in}
use Rattle.disk_tree.proofs.HeldOnce.{same_pointers}
use Rattle.image_check.specs.Gathered.{pointed}
use Rattle.image_check.proofs.OwnersRead.{more_own}
use Rattle.image_check.proofs.Writing.{writes_same}
use Rattle.image_check.proofs.owners.own_all.Goals as goal

pub own-requires-clause-within : goal.own-requires-clause-within
own-requires-clause-within c = λ place less.
    let e =
    same_pointers c.args.inodes.now c.args.tables.now c.loop-place.place _ _ (omega arith)
    (omega arith) c.index-inodes-place.is c.index-tables-place.is place in
    let h = c.requires.within c.loop-place.place place (omega arith) less in
    let size = c.loop-place.auto.owners in
    omega arith

pub loop-place-preserved : goal.loop-place-preserved
loop-place-preserved c = record {
  owners = more_own c.args.inodes.now c.args.tables.now c.loop-place.place c.loop-place.owners c.own.new.owners c.loop-place.invariant.owners
      (writes_same None (Some c.loop-place.place) c.loop-place.owners c.own.new.owners _
      (λ place. pointed (pointer_in c.args.inodes.now c.args.tables.now c.loop-place.place place))
      (λ place. ap pointed
      (same_pointers c.args.inodes.now c.args.tables.now c.loop-place.place _ _ (omega arith)
      (omega arith) c.index-inodes-place.is c.index-tables-place.is place))
      PLACES c.own.ensures);
}
