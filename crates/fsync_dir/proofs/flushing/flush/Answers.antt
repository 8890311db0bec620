use Rattle.std.proofs.Common.{None, subst, sym}
use Rattle.tree_laws.specs.declared.reply.Reply.{Reply}
use Rattle.tree_laws.specs.declared.reply.Reply.TheVariants as reply
use Rattle.fsync_catch.specs.declared.looking.WaitingFsync.{WaitingFsync}
use Rattle.fsync_stamp.specs.Stamping.{AnswersFsync}
use Rattle.fsync_dir.specs.Answering.{EndsUntold}
use Rattle.fsync_dir.specs.Attempt.{attempt_at}
use Rattle.fsync_dir.specs.Flush.{IsServed, live}
use Rattle.fsync_dir.proofs.Coming.{no_turn_yet, untold_serves}
use Rattle.fsync_dir.proofs.Served.{agrees_then, answers_dead, answers_stamped, call_agrees, ends_answered, no_turn_agrees}
use Rattle.fsync_dir.proofs.Waiting.{waits_stamped}
use Rattle.mem_calls.specs.Table.{nodes_of}
use Rattle.fsync_dir.proofs.flushing.flush.Goals as goal

pub returns-in_default-clause-answers : goal.returns-in_default-clause-answers
returns-in_default-clause-answers g c =
    answers_dead c.args.site.now.table.now c.args.node c.args.core.now c.stamp_with_copy-stamped.new.core c.in_default.ensures

pub returns-in_default-clause-agree : goal.returns-in_default-clause-agree
returns-in_default-clause-agree g c =
    let dead = c.in_default.ensures in
    call_agrees c.args.core.now c.stamp_with_copy-stamped.new.core dead.stands.1 c.args.pen.now dead.same.number dead.stands.4 c.requires.agree

pub serve-requires-clause-agree : goal.serve-requires-clause-agree
serve-requires-clause-agree g c κs within =
    let stamps = c.in-Some.ensures in
    call_agrees c.args.core.now c.stamp_with_copy-stamped.new.core stamps.stamps.entry c.args.pen.now stamps.stamps.waits.same.number stamps.stamps.mine
    c.requires.agree

pub serve-requires-clause-waits : goal.serve-requires-clause-waits
serve-requires-clause-waits g c κs within =
    waits_stamped c.args.site.now.table.now (nodes_of c.args.site.now.table.now) c.args.node c.in-Some.stamped c.args.core.now
    c.stamp_with_copy-stamped.new.core
    c.in-Some.ensures c.requires.site.table c.in-Ok.own c.in-Ok.ensures

pub returns-in-Ok-clause-answers : goal.returns-in-Ok-clause-answers
returns-in-Ok-clause-answers g c =
    let at = attempt_at c.args.site.now.table.now (nodes_of c.args.site.now.table.now) c.in-Ok.own c.stamp_with_copy-stamped.new.core c.args.pen.now in
    let ends = ends_answered at c.serve.new.core c.serve.new.pen c.serve.result c.serve.ensures.comes.comes in
    answers_stamped c.args.site.now.table.now c.args.node c.in-Some.stamped c.in-Ok.own.fsync c.serve.result ends.0 c.args.core.now
    c.stamp_with_copy-stamped.new.core c.serve.new.core c.in-Some.ensures ends.1

pub returns-in-Ok-clause-agree : goal.returns-in-Ok-clause-agree
returns-in-Ok-clause-agree g c =
    let stamps = c.in-Some.ensures in
    agrees_then (attempt_at c.args.site.now.table.now (nodes_of c.args.site.now.table.now) c.in-Ok.own c.stamp_with_copy-stamped.new.core c.args.pen.now)
    c.serve.new.core c.serve.new.pen c.serve.ensures.goes
    (call_agrees c.args.core.now c.stamp_with_copy-stamped.new.core stamps.stamps.entry c.args.pen.now stamps.stamps.waits.same.number stamps.stamps.mine
    c.requires.agree)
    c.serve.result c.serve.ensures.comes.comes

pub returns-in-Ok-clause-comes : goal.returns-in-Ok-clause-comes
returns-in-Ok-clause-comes g c = live (record {
  stamped = c.in-Some.stamped;
  waiting = c.stamp_with_copy-stamped.new.core;
  stamps = c.in-Some.ensures;
  file = c.in-Ok.own.file;
  served = subst (λ (fsync : WaitingFsync). IsServed (record {
    t = c.args.site.now.table.now;
    nodes = nodes_of c.args.site.now.table.now;
    fsync = fsync;
    file = c.in-Ok.own.file;
    hand = c.stamp_with_copy-stamped.new.core;
    pen = c.args.pen.now;
  }) c.serve.new.core c.serve.new.pen c.serve.result) c.in-Ok.ensures.fsync_is c.serve.ensures.comes;
})

pub returns-in-Err-clause-answers : goal.returns-in-Err-clause-answers
returns-in-Err-clause-answers g c =
    subst (λ (given : Reply). AnswersFsync c.args.site.now.table.now c.args.node given c.args.core.now c.answer_wanting.new.core)
    (sym c.answer_wanting.ensures.reply)
    (answers_stamped c.args.site.now.table.now c.args.node c.in-Some.stamped c.in-Err.fsync reply.NoMemory None c.args.core.now
    c.stamp_with_copy-stamped.new.core c.answer_wanting.new.core c.in-Some.ensures
    c.answer_wanting.ensures.ends.ends)

pub returns-in-Err-clause-agree : goal.returns-in-Err-clause-agree
returns-in-Err-clause-agree g c =
    let stamps = c.in-Some.ensures in
    let ends = c.answer_wanting.ensures.ends in
    no_turn_agrees c.stamp_with_copy-stamped.new.core c.answer_wanting.new.core c.args.pen.now c.args.pen.now ends.ends.same.number ends.mine
    (no_turn_yet c.args.pen.now)
    (call_agrees c.args.core.now c.stamp_with_copy-stamped.new.core stamps.stamps.entry c.args.pen.now stamps.stamps.waits.same.number stamps.stamps.mine
    c.requires.agree)

pub returns-in-Err-clause-comes : goal.returns-in-Err-clause-comes
returns-in-Err-clause-comes g c = live (record {
  stamped = c.in-Some.stamped;
  waiting = c.stamp_with_copy-stamped.new.core;
  stamps = c.in-Some.ensures;
  file = None;
  served = untold_serves (record {
    t = c.args.site.now.table.now;
    nodes = nodes_of c.args.site.now.table.now;
    fsync = record { node = c.args.node; stamp = c.in-Some.stamped.stamp };
    file = None;
    hand = c.stamp_with_copy-stamped.new.core;
    pen = c.args.pen.now;
  }) c.answer_wanting.new.core c.answer_wanting.result c.answer_wanting.ensures.reply
      (subst (λ (fsync : WaitingFsync). EndsUntold c.args.site.now.table.now fsync reply.NoMemory c.stamp_with_copy-stamped.new.core
      c.answer_wanting.new.core) c.in-Err.ensures c.answer_wanting.ensures.ends);
})
