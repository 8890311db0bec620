use Rattle.std.proofs.Common.{◌∙◌, ap}
use Rattle.mem_calls.specs.Table.{nodes_of}
use Rattle.fsync_dir.specs.Attempt.{attempt_at}
use Rattle.fsync_dir.proofs.Coming.{no_turn_yet, untold_serves}
use Rattle.fsync_dir.proofs.Served.{attempt_since, no_turn_agrees}
use Rattle.fsync_dir.proofs.Waiting.{copied_on, ends_since, mine_on, waiting_on}
use Rattle.fsync_dir.proofs.attempt.attempt_by_look.Goals as goal

pub catch_nodes-requires-clause-none : goal.catch_nodes-requires-clause-none
catch_nodes-requires-clause-none g c = (c.requires.waits.holds_none, c.requires.waits.none_held)

pub commit_caught-requires-clause-agree : goal.commit_caught-requires-clause-agree
commit_caught-requires-clause-agree g c κs within =
    let on = c.in-Ok.ensures.on in
    no_turn_agrees c.args.core.now c.catch_nodes.new.core c.args.pen.now c.args.pen.now (ap (λ v. v.core) on.view) (ap (λ v. v.mine) on.view)
    (no_turn_yet c.args.pen.now) c.requires.agree

pub commit_caught-requires-clause-caught : goal.commit_caught-requires-clause-caught
commit_caught-requires-clause-caught g c κs within = record {
  holds = record {
    waiting = waiting_on c.args.core.now c.catch_nodes.new.core c.in-Ok.ensures.on ∙ c.requires.waits.waiting;
    mine = mine_on c.args.core.now c.catch_nodes.new.core c.args.own.now.fsync.node.0 c.args.own.now.fsync.stamp.0 c.in-Ok.ensures.on c.requires.waits.mine;
    copied = copied_on c.args.site.now.table.now c.args.own.now.fsync c.args.own.now.file c.args.core.now c.catch_nodes.new.core c.in-Ok.ensures.on
        c.requires.waits.copied;
    room = c.in-Ok.ensures.room;
    below = c.in-Ok.ensures.below;
    few = c.catch_nodes.ensures.few;
  };
  work = c.in-Ok.ensures.work;
  has = c.in-Ok.ensures.caught;
}

pub answer_wanting-requires-clause-waits : goal.answer_wanting-requires-clause-waits
answer_wanting-requires-clause-waits g c = waiting_on c.args.core.now c.catch_nodes.new.core c.in-Err.ensures.on ∙ c.requires.waits.waiting

pub returns-in-Ok-clause-comes : goal.returns-in-Ok-clause-comes
returns-in-Ok-clause-comes g c =
    attempt_since (attempt_at c.args.site.now.table.now (nodes_of c.args.site.now.table.now) c.args.own.now c.args.core.now c.args.pen.now)
    c.catch_nodes.new.core c.args.pen.now
    c.in-Ok.ensures.on (no_turn_yet c.args.pen.now) c.commit_caught.new.core c.commit_caught.new.pen c.commit_caught.result c.commit_caught.ensures.comes

pub returns-in-Err-clause-comes : goal.returns-in-Err-clause-comes
returns-in-Err-clause-comes g c =
    untold_serves (attempt_at c.args.site.now.table.now (nodes_of c.args.site.now.table.now) c.args.own.now c.args.core.now c.args.pen.now)
    c.answer_wanting.new.core c.answer_wanting.result
    c.answer_wanting.ensures.reply
    (ends_since c.args.site.now.table.now c.args.own.now.fsync _ c.args.core.now c.catch_nodes.new.core c.answer_wanting.new.core c.in-Err.ensures.on
    c.answer_wanting.ensures.ends)
