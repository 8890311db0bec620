use Rattle.std.proofs.Common.{refl, sym, ap, subst, ◌∙◌, map, take, None}
use Rattle.disk_change.specs.Parts.{SeatParts}
use Rattle.std.specs.Ordering.{nat_cmp}
use Rattle.std.specs.BTreeMap.{get}
use Rattle.std.specs.Option.{unwrap_or}
use Rattle.disk_change.specs.Numbered.{block_numbered}
use Rattle.disk_change.specs.Patched.{FitsBlocks, IsPatchFor, patched}
use Rattle.disk_change.proofs.node_built.build_node.Goals as goal

pub patch_numbered-requires-clause-patch : goal.patch_numbered-requires-clause-patch
patch_numbered-requires-clause-patch c =
    subst (λ l. IsPatchFor c.args.net.now c.seat.inside.end l c.seat.inside.patch) (sym c.as_slice.ensures)
    (subst (λ (s : SeatParts). IsPatchFor c.args.net.now s.end c.args.slots.now s.patch) (sym c.seat.view_is) c.requires.patch)

pub returns-clause-built : goal.returns-clause-built
returns-clause-built c =
    let lent = c.as_slice.ensures in
    let slots =
    ap (λ l. take c.seat.inside.end (patched c.in_ok-patch.patch l)) (sym lent) ∙ c.in_ok-patch.ensures.slots
    ∙ ap
    (λ l. map (block_numbered (λ node. unwrap_or (get nat_cmp c.args.numbers.now node) None) c.args.net.now)
    (take c.seat.inside.end (patched c.seat.inside.patch l)))
    lent in
    rw (← c.seat.view_is) (λ i. record {
      node = c.seat.inside.node.0;
      number = c.args.number;
      before = c.seat.inside.before;
      meta = c.in_ok-after.ensures.inode i;
      tables = c.in_ok-after.ensures.tables i;
      slots = slots i;
      changed = c.in_ok-changed.ensures i;
      fates = c.in_ok-after.ensures.fates i;
    })

pub returns-clause-own : goal.returns-clause-own
returns-clause-own c = rw (← c.seat.view_is) refl

pub returns-clause-put : goal.returns-clause-put
returns-clause-put c = record {
  fits = subst (λ l. FitsBlocks l c.in_ok-patch.patch) c.as_slice.ensures c.in_ok-patch.ensures.fits;
  room = c.in_ok-room.ensures;
}

pub returns-clause-freed : goal.returns-clause-freed
returns-clause-freed c = rw (← c.seat.view_is) c.in_ok-after.ensures.freed

pub room_for-requires : goal.room_for-requires
room_for-requires c = subst (λ l. FitsBlocks l c.in_ok-patch.patch) c.as_slice.ensures c.in_ok-patch.ensures.fits
