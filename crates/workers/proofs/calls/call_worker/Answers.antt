use Rattle.std.proofs.Common.{arith}
use Rattle.workers.specs.declared.worker.Worker.{Worker}
use Rattle.workers.proofs.Added.{counts_seen, more_between, more_keeps, sees_more}
use Rattle.workers.proofs.Once.{CallsOnce, once_made, once_rests, once_same}
use Rattle.workers.proofs.calls.call_worker.Goals as goal

pub make_call-made-requires-clause-core : goal.make_call-made-requires-clause-core
make_call-made-requires-clause-core g c κs within =
    more_between c.args.worker.now.core c.look_for-worker.new.self
    (sees_more c.args.table.now c.args.worker.now.core c.look_for-worker.new.self c.look_for-worker.result (rw c.shared-shared.ensures at
    c.look_for-worker.ensures.looked)) c.args.table.now
    c.requires.rest.between

pub make_call-made-requires-clause-agrees : goal.make_call-made-requires-clause-agrees
make_call-made-requires-clause-agrees g c κs within =
    g.met.F.Flush.others_keep c.args.flush.now c.args.worker.now.core c.look_for-worker.new.self c.args.worker.now.pen
    (more_keeps c.args.worker.now.core c.look_for-worker.new.self
    (sees_more c.args.table.now c.args.worker.now.core c.look_for-worker.new.self c.look_for-worker.result (rw c.shared-shared.ensures at
    c.look_for-worker.ensures.looked)))
    c.requires.rest.agree

pub returns : goal.returns
returns g c =
    let t = c.args.table.now in
    let before = c.args.worker.now in
    let looked = c.look_for-worker.new.self in
    let called = c.make_call-made.new.core in
    let after = c.look-worker.new.self in
    let first = sees_more t before.core looked c.look_for-worker.result (rw c.shared-shared.ensures at c.look_for-worker.ensures.looked) in
    let last = sees_more t called after c.look-worker.result (rw c.shared-shared.ensures at c.look-worker.ensures) in
    let seen = counts_seen t before.core looked c.look_for-worker.result (rw c.shared-shared.ensures at c.look_for-worker.ensures.looked) in
    let enough = c.look_for-worker.ensures.enough in
    let done = c.make_call-made.ensures in
    let worker : Worker _ = record { core = after; pen = c.make_call-made.new.pen; refused = before.refused; until = c.look-worker.result } in
    let once : CallsOnce t (g.F.Flush.agrees c.args.flush.now) c.args.asked before worker c.make_call-made.result = record {
      looked = looked;
      called = called;
      first_look = first;
      enough = omega (arith, seen, enough);
      made = done.made;
      between = done.between;
      same = done.same;
      last_look = last;
      until_is = counts_seen t called after c.look-worker.result (rw c.shared-shared.ensures at c.look-worker.ensures);
      agree = g.met.F.Flush.others_keep c.args.flush.now called after c.make_call-made.new.pen (more_keeps called after last) done.agrees;
      rests = c.requires.rest;
    } in
    record {
      made = once_made t (g.F.Flush.agrees c.args.flush.now) c.args.asked before worker c.make_call-made.result once;
      rest = once_rests t (g.F.Flush.agrees c.args.flush.now) c.args.asked before worker c.make_call-made.result once;
      same = once_same t (g.F.Flush.agrees c.args.flush.now) c.args.asked before worker c.make_call-made.result once;
    }
