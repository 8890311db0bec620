use Rattle.std.proofs.Common.{arith, []}
use Rattle.disk_tree.proofs.InodesRead.{sound_more, whole_more, whole_read, fault_read, decoded_more, fit_more}
use Rattle.disk_tree.proofs.inodes.decoded.Goals as goal

pub loop-place-preserved : goal.loop-place-preserved
loop-place-preserved c =
    let records = c.args.records.now.items in
    let same = c.as_slice-record-items.ensures in
    record {
      inodes =
          decoded_more records _ same c.loop-place.place _
          (omega arith) _ _ _ c.in_ok-push-in-Ok.ensures.items c.loop-place.invariant.inodes c.in-Ok.ensures.ok.1;
      fit = fit_more records _ same c.loop-place.place [] (omega arith) _ _ _ c.in_ok-push-in-Ok.ensures.items c.loop-place.invariant.fit c.in-Ok.ensures.fits;
      whole = whole_more c.loop-place.place records c.loop-place.invariant.whole
          (whole_read records _ same c.loop-place.place _ (omega arith) c.inode_in.ensures.whole);
      sound =
          sound_more c.loop-place.place records c.loop-place.invariant.sound
          (fault_read records _ same c.loop-place.place _ (omega arith) c.in-Ok.ensures.ok.0);
    }
