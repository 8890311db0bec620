use Rattle.std.proofs.Common.{ap, subst, sym}
use Rattle.disk_box.specs.declared.key.BoxKey.{BoxKey}
use Rattle.fsync_catch.proofs.Going.{goes_again, goes_none}
use Rattle.fsync_dir.specs.Attempt.{attempt_at}
use Rattle.fsync_dir.specs.Site.{IsSite}
use Rattle.fsync_dir.proofs.Coming.{no_turn_yet}
use Rattle.fsync_dir.proofs.Served.{no_turn_again, no_turn_agrees, served_since}
use Rattle.fsync_dir.proofs.Waiting.{waits_again}
use Rattle.mem_calls.specs.Table.{nodes_of}
use Rattle.fsync_dir.proofs.serving.serve.Goals as goal

pub loop-init : goal.loop-init
loop-init g c = record {
  site = c.requires.site;
  ready = c.requires.ready;
  waits = c.requires.waits;
  agree = c.requires.agree;
  on = goes_none c.args.core.now;
  none = no_turn_yet c.args.pen.now;
}

pub loop-preserved : goal.loop-preserved
loop-preserved g c =
    let anew = c.in_default.ensures.comes in
    let on = anew.lets.on in
    record {
      site = subst (λ (key : BoxKey _). IsSite c.args.site.now.table.now (nodes_of c.args.site.now.table.now) c.args.site.now.cores key)
          (sym (ap (λ h. h.table.given) c.attempt.ensures.goes.frame)) c.loop.invariant.site;
      ready = c.attempt.ensures.ready;
      waits = waits_again c.args.site.now.table.now (nodes_of c.args.site.now.table.now) c.args.own.now.fsync c.args.own.now.file c.loop.core
          c.attempt.new.core anew.lets
          c.loop.invariant.waits;
      agree = no_turn_agrees c.loop.core c.attempt.new.core c.loop.pen c.attempt.new.pen (ap (λ v. v.core) on.view) (ap (λ v. v.mine) on.view) anew.no_turn
          c.loop.invariant.agree;
      on = goes_again c.args.core.now c.loop.core c.attempt.new.core c.loop.invariant.on on;
      none = no_turn_again c.args.pen.now c.loop.pen c.attempt.new.pen c.loop.invariant.none anew.no_turn;
    }

pub returns-in-Some-attempt-clause-comes : goal.returns-in-Some-attempt-clause-comes
returns-in-Some-attempt-clause-comes g c =
    served_since (attempt_at c.args.site.now.table.now (nodes_of c.args.site.now.table.now) c.args.own.now c.args.core.now c.args.pen.now)
    c.loop.core c.loop.pen c.loop.invariant.on c.loop.invariant.none
    c.attempt.new.core c.attempt.new.pen c.in-Some-attempt.given c.in-Some-attempt.ensures.comes
