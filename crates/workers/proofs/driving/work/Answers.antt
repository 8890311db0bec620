use Rattle.std.proofs.Common.{sym, subst, ℕ, arith}
use Rattle.script.specs.Walks.{commands_of}
use Rattle.workers.specs.Works.{MakesCalls}
use Rattle.workers.proofs.Added.{sees_more, more_keeps, more_same, counts_seen}
use Rattle.workers.proofs.UnderWay.{has_worked}
use Rattle.workers.proofs.driving.work.Goals as goal

pub make_calls-made-requires-clause-agrees : goal.make_calls-made-requires-clause-agrees
make_calls-made-requires-clause-agrees g c κs within =
    g.met.F.Flush.others_keep c.args.flush.now c.args.worker.now.core c.look_for-worker.new.self c.args.worker.now.pen
    (more_keeps c.args.worker.now.core c.look_for-worker.new.self
    (sees_more c.args.table.now c.args.worker.now.core c.look_for-worker.new.self c.look_for-worker.result (rw c.shared-shared.ensures at
    c.look_for-worker.ensures.looked)))
    c.requires.rest.agree

pub returns : goal.returns
returns g c =
    let t = c.args.table.now in
    let agrees = g.F.Flush.agrees c.args.flush.now in
    let before = c.args.worker.now in
    let looked = c.look_for-worker.new.self in
    let called = c.make_calls-made.new.core in
    let after = c.look-worker.new.self in
    let first = sees_more t before.core looked c.look_for-worker.result (rw c.shared-shared.ensures at c.look_for-worker.ensures.looked) in
    let last = sees_more t called after c.look-worker.result (rw c.shared-shared.ensures at c.look-worker.ensures) in
    let seen = counts_seen t before.core looked c.look_for-worker.result (rw c.shared-shared.ensures at c.look_for-worker.ensures.looked) in
    let enough = c.look_for-worker.ensures.enough in
    let calls = subst (λ (z : ℕ). MakesCalls t agrees (commands_of z c.args.phase.now) looked called c.make_calls-made.new.pen c.is_err-worker.result)
    (more_same before.core looked first).number
    (subst (λ b. MakesCalls t agrees (commands_of looked.view.core c.args.phase.now) looked called c.make_calls-made.new.pen b)
    (sym c.is_err-worker.ensures.value)
    c.make_calls-made.ensures) in
    has_worked t agrees (commands_of before.core.view.core c.args.phase.now) c.args.from before _ (record {
      looked = looked;
      called = called;
      first_look = first;
      enough = omega (arith, seen, enough);
      calls = calls;
      last_look = last;
      until_is = counts_seen t called after c.look-worker.result (rw c.shared-shared.ensures at c.look-worker.ensures);
      agree = g.met.F.Flush.others_keep c.args.flush.now called after c.make_calls-made.new.pen (more_keeps called after last) c.make_calls-made.ensures.agree;
      rests = c.requires.rest;
      reached = c.requires.reached;
    })
