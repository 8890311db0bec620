use Rattle.std.proofs.Common.{◌+◌, List, sym, subst, arith}
use Rattle.mem_cells.specs.Part.{CoreLog}
use Rattle.mem_values.specs.Start.{given_by}
use Rattle.fsync_look.specs.Look.{AreCopies}
use Rattle.fsync_look.proofs.Copied.{saw_again, copies_more}
use Rattle.fsync_look.proofs.logs.copy_logs.Goals as goal

pub push_reserved-requires : goal.push_reserved-requires
push_reserved-requires g c =
    let count = c.loop-number.invariant.copies.count in
    let room = c.loop-number.invariant.room in
    let less = c.loop-number-test.true in
    let long = c.loop-number.logs.ok.0 in
    omega (arith, count, room, less, long)

pub loop-number-preserved : goal.loop-number-preserved
loop-number-preserved g c =
    let inv = c.loop-number.invariant in
    record {
      work = c.in_ok-copy_log.ensures.work;
      saw = saw_again c.args.core.now c.loop-number.core c.copy_log.new.core inv.saw c.in_ok-copy_log.ensures.saw;
      copies = subst
          (λ (l : List CoreLog). AreCopies (given_by c.args.shared.now) c.args.nodes (c.loop-number.number + 1)
          c.args.held.now c.args.core.now c.copy_log.new.core l)
          (sym c.push_reserved.ensures.items)
          (copies_more (given_by c.args.shared.now) c.args.nodes c.loop-number.number c.args.core.now c.loop-number.core c.copy_log.new.core
          c.args.held.now c.loop-number.logs.items inv.copies inv.saw c.in_ok-copy_log.ensures.saw c.in_ok-copy_log.field-0 c.in_ok-copy_log.ensures.copy);
      room = let same = c.push_reserved.ensures.capacity in let room = inv.room in omega (arith, same, room);
    }
