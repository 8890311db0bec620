use Rattle.std.specs.Prelude.{MatchOption}
use Rattle.std.proofs.Common.{◌∙◌, Option, ap, subst}
use Rattle.sfs_base.specs.declared.numbers.Stamp.{Stamp}
use Rattle.mem_calls.specs.Table.{nodes_of}
use Rattle.fsync_catch.specs.Catch.{LetsAllGo}
use Rattle.fsync_dir.specs.Attempt.{HoldsFileAlone, attempt_at}
use Rattle.fsync_dir.proofs.Coming.{no_turn_yet, untold_serves}
use Rattle.fsync_dir.proofs.Served.{attempt_since, no_turn_agrees}
use Rattle.fsync_dir.proofs.Waiting.{copied_on, ends_since, mine_on, waiting_on, waits_again}
use Rattle.fsync_dir.proofs.attempt.attempt.Goals as goal

pub commit_alone-requires-clause-agree : goal.commit_alone-requires-clause-agree
commit_alone-requires-clause-agree g c κs within =
    let on = c.hold_file.ensures.on in
    no_turn_agrees c.args.core.now c.hold_file.new.core c.args.pen.now c.args.pen.now (ap (λ v. v.core) on.view) (ap (λ v. v.mine) on.view)
    (no_turn_yet c.args.pen.now) c.requires.agree

pub commit_alone-requires-clause-alone : goal.commit_alone-requires-clause-alone
commit_alone-requires-clause-alone g c κs within =
    let on = c.hold_file.ensures.on in
    let t = c.args.site.now.table.now in
    let has : HoldsFileAlone t (nodes_of c.args.site.now.table.now) c.args.own.now c.hold_file.new.core c.in-Ok-Some.cut =
    subst (λ (o : Option Stamp). MatchOption o (LetsAllGo c.hold_file.new.core) (HoldsFileAlone t (nodes_of c.args.site.now.table.now) c.args.own.now
    c.hold_file.new.core))
    c.in-Ok-Some.field-0-is c.in-Ok-Some.ensures.alone in
    record {
      holds = record {
        waiting = waiting_on c.args.core.now c.hold_file.new.core on ∙ c.requires.waits.waiting;
        mine = mine_on c.args.core.now c.hold_file.new.core c.args.own.now.fsync.node.0 c.args.own.now.fsync.stamp.0 on c.requires.waits.mine;
        copied = copied_on t c.args.own.now.fsync c.args.own.now.file c.args.core.now c.hold_file.new.core on c.requires.waits.copied;
        room = has.alone.room;
        below = has.alone.below;
        few = has.few;
      };
      work = c.hold_file.ensures.work;
      alone = has.alone;
      within = c.requires.waits.within;
      file = has.file;
    }

pub attempt_by_look-requires-clause-agree : goal.attempt_by_look-requires-clause-agree
attempt_by_look-requires-clause-agree g c κs within =
    let on = c.hold_file.ensures.on in
    no_turn_agrees c.args.core.now c.hold_file.new.core c.args.pen.now c.args.pen.now (ap (λ v. v.core) on.view) (ap (λ v. v.mine) on.view)
    (no_turn_yet c.args.pen.now) c.requires.agree

pub attempt_by_look-requires-clause-waits : goal.attempt_by_look-requires-clause-waits
attempt_by_look-requires-clause-waits g c κs within =
    let t = c.args.site.now.table.now in
    let none : LetsAllGo c.hold_file.new.core =
    subst (λ (o : Option Stamp). MatchOption o (LetsAllGo c.hold_file.new.core) (HoldsFileAlone t (nodes_of c.args.site.now.table.now) c.args.own.now
    c.hold_file.new.core))
    c.in-Ok-None.field-0-is c.in-Ok-None.ensures.alone in
    waits_again t (nodes_of c.args.site.now.table.now) c.args.own.now.fsync c.args.own.now.file c.args.core.now c.hold_file.new.core
    (record { work = c.hold_file.ensures.work; on = c.hold_file.ensures.on; holds_none = none.holds_none; none_held = none.none_held }) c.requires.waits

pub answer_wanting-requires-clause-waits : goal.answer_wanting-requires-clause-waits
answer_wanting-requires-clause-waits g c = waiting_on c.args.core.now c.hold_file.new.core c.hold_file.ensures.on ∙ c.requires.waits.waiting

pub returns-in-Ok-Some-clause-comes : goal.returns-in-Ok-Some-clause-comes
returns-in-Ok-Some-clause-comes g c =
    attempt_since (attempt_at c.args.site.now.table.now (nodes_of c.args.site.now.table.now) c.args.own.now c.args.core.now c.args.pen.now)
    c.hold_file.new.core c.args.pen.now
    c.hold_file.ensures.on (no_turn_yet c.args.pen.now) c.commit_alone.new.core c.commit_alone.new.pen c.commit_alone.result c.commit_alone.ensures.comes

pub returns-in-Ok-None-clause-comes : goal.returns-in-Ok-None-clause-comes
returns-in-Ok-None-clause-comes g c =
    attempt_since (attempt_at c.args.site.now.table.now (nodes_of c.args.site.now.table.now) c.args.own.now c.args.core.now c.args.pen.now)
    c.hold_file.new.core c.args.pen.now
    c.hold_file.ensures.on (no_turn_yet c.args.pen.now) c.attempt_by_look.new.core c.attempt_by_look.new.pen c.attempt_by_look.result
    c.attempt_by_look.ensures.comes

pub returns-in-Err-clause-comes : goal.returns-in-Err-clause-comes
returns-in-Err-clause-comes g c =
    untold_serves (attempt_at c.args.site.now.table.now (nodes_of c.args.site.now.table.now) c.args.own.now c.args.core.now c.args.pen.now)
    c.answer_wanting.new.core c.answer_wanting.result
    c.answer_wanting.ensures.reply
    (ends_since c.args.site.now.table.now c.args.own.now.fsync _ c.args.core.now c.hold_file.new.core c.answer_wanting.new.core c.hold_file.ensures.on
    c.answer_wanting.ensures.ends)
