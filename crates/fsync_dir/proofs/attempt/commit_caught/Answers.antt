use Rattle.std.proofs.Common.{◌∙◌, ap, subst, sym}
use Rattle.mem_values.specs.Start.{FileHand, given_by}
use Rattle.mem_calls.specs.Working.{IsWorking}
use Rattle.fsync_dir.specs.Answering.{EndsUntold}
use Rattle.fsync_dir.proofs.Coming.{no_turn_yet, untold_serves}
use Rattle.fsync_dir.proofs.Served.{no_turn_agrees}
use Rattle.fsync_dir.proofs.Tried.{as_many, has_drafted, planned}
use Rattle.fsync_dir.specs.Attempt.{attempt_at}
use Rattle.mem_calls.specs.Table.{nodes_of}
use Rattle.fsync_dir.proofs.attempt.commit_caught.Goals as goal

pub planned-requires-clause-holds : goal.planned-requires-clause-holds
planned-requires-clause-holds g c =
    as_many c.args.site.now.table.now (nodes_of c.args.site.now.table.now) c.args.own.now c.args.caught c.args.core.now c.requires.caught c.requires.site.table

pub planned-requires-clause-orderly : goal.planned-requires-clause-orderly
planned-requires-clause-orderly g c = c.requires.caught.has.look.orderly

pub planned-requires-clause-concern : goal.planned-requires-clause-concern
planned-requires-clause-concern g c = c.requires.caught.has.look.concern_is

pub commit_planned-requires-clause-agree : goal.commit_planned-requires-clause-agree
commit_planned-requires-clause-agree g c κs within =
    let same = c.in-Ok.ensures.hollow.after_is in
    no_turn_agrees c.args.core.now c.planned.new.core c.args.pen.now c.args.pen.now (ap (λ (h : FileHand). h.view.core) same)
    (ap (λ (h : FileHand). h.view.mine) same) (no_turn_yet c.args.pen.now) c.requires.agree

pub commit_planned-requires-clause-drafted : goal.commit_planned-requires-clause-drafted
commit_planned-requires-clause-drafted g c κs within = (
  planned c.args.site.now.table.now (nodes_of c.args.site.now.table.now) c.args.own.now c.args.caught c.args.core.now c.requires.caught c.requires.site.table
      c.requires.site.disk c.in-Ok.todo c.planned.new.core c.in-Ok.ensures.drafted c.in-Ok.ensures.directories c.in-Ok.ensures.hollow,
  has_drafted c.args.site.now.table.now (nodes_of c.args.site.now.table.now) c.args.own.now c.args.caught c.args.core.now c.requires.caught
      c.requires.site.table
      c.requires.site.disk c.in-Ok.todo c.planned.new.core c.in-Ok.ensures.drafted c.in-Ok.ensures.directories c.in-Ok.ensures.hollow c.args.pen.now,
)

pub returns-in-Ok-clause-comes : goal.returns-in-Ok-clause-comes
returns-in-Ok-clause-comes g c =
    c.commit_planned.ensures.comes
    (planned c.args.site.now.table.now (nodes_of c.args.site.now.table.now) c.args.own.now c.args.caught c.args.core.now c.requires.caught c.requires.site.table
    c.requires.site.disk c.in-Ok.todo c.planned.new.core c.in-Ok.ensures.drafted c.in-Ok.ensures.directories c.in-Ok.ensures.hollow)
    (has_drafted c.args.site.now.table.now (nodes_of c.args.site.now.table.now) c.args.own.now c.args.caught c.args.core.now c.requires.caught
    c.requires.site.table
    c.requires.site.disk c.in-Ok.todo c.planned.new.core c.in-Ok.ensures.drafted c.in-Ok.ensures.directories c.in-Ok.ensures.hollow c.args.pen.now)

pub answer_wanting-requires-clause-work : goal.answer_wanting-requires-clause-work
answer_wanting-requires-clause-work g c =
    subst (λ (h : FileHand). IsWorking (given_by c.args.site.now.table.now) c.args.site.now.table.now h) (sym c.in-Err.ensures.back) c.requires.caught.work

pub answer_wanting-requires-clause-waits : goal.answer_wanting-requires-clause-waits
answer_wanting-requires-clause-waits g c = ap (λ (h : FileHand). h.waiting) c.in-Err.ensures.back ∙ c.requires.caught.holds.waiting

pub returns-in-Err-clause-comes : goal.returns-in-Err-clause-comes
returns-in-Err-clause-comes g c =
    untold_serves (attempt_at c.args.site.now.table.now (nodes_of c.args.site.now.table.now) c.args.own.now c.args.core.now c.args.pen.now)
    c.answer_wanting.new.core c.answer_wanting.result
    c.answer_wanting.ensures.reply
    (subst (λ (h : FileHand). EndsUntold c.args.site.now.table.now c.args.own.now.fsync _ h c.answer_wanting.new.core)
    c.in-Err.ensures.back c.answer_wanting.ensures.ends)
