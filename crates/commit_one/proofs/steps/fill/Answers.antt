-- What the writes that fill the slot have done, at each exit.
use Rattle.std.proofs.Common.{subst, arith}
use Rattle.journal_one.specs.Outcome.{FillsOn}
use Rattle.commit_one.proofs.Loops.{fills_more, fills_done, fill_goes, fill_shows, fill_time}
use Rattle.commit_one.proofs.steps.fill.Goals as goal

pub returns-in_err-next-clause-keeps : goal.returns-in_err-next-clause-keeps
returns-in_err-next-clause-keeps g c =
    let laws = g.met.D.Disk g.world.𝓛 g.world.𝓜 g.world.𝓡 ((λ s x. x), (λ x. x), (λ x. x), λ x. x) in
    let view = g.D.Disk.view in
    fill_shows c.args.filling c.loop-next.filling (view c.args.disk.now) (view c.loop-next.disk)
    (view c.put_next.new.disk) c.put_next.result c.loop-next.invariant (laws.now_fits c.loop-next.disk)
    c.put_next.ensures.write c.put_next.ensures.whole

pub loop-next-preserved : goal.loop-next-preserved
loop-next-preserved g c =
    let laws = g.met.D.Disk g.world.𝓛 g.world.𝓜 g.world.𝓡 ((λ s x. x), (λ x. x), (λ x. x), λ x. x) in
    let view = g.D.Disk.view in
    let on = subst (FillsOn c.loop-next.filling) c.in-More.is c.in_ok-next.ensures.ok in
    fills_more c.args.filling c.loop-next.filling c.in-More.next (view c.args.disk.now) (view c.loop-next.disk)
    (view c.put_next.new.disk) c.in_ok-next.field-0 c.loop-next.invariant (laws.now_fits c.loop-next.disk)
    c.in_ok-next.ensures.write c.put_next.ensures.whole on.0 on.1 c.in_ok-next.ensures.written

pub returns-in-Done-clause-goes : goal.returns-in-Done-clause-goes
returns-in-Done-clause-goes g c =
    let laws = g.met.D.Disk g.world.𝓛 g.world.𝓜 g.world.𝓡 ((λ s x. x), (λ x. x), (λ x. x), λ x. x) in
    let view = g.D.Disk.view in
    fill_goes c.args.filling c.loop-next.filling (view c.args.disk.now) (view c.loop-next.disk)
    (view c.put_next.new.disk) c.put_next.result c.loop-next.invariant (laws.now_fits c.loop-next.disk)
    c.put_next.ensures.write c.put_next.ensures.whole

pub returns-in-Done-clause-time : goal.returns-in-Done-clause-time
returns-in-Done-clause-time g c =
    let laws = g.met.D.Disk g.world.𝓛 g.world.𝓜 g.world.𝓡 ((λ s x. x), (λ x. x), (λ x. x), λ x. x) in
    let view = g.D.Disk.view in
    let on = subst (FillsOn c.loop-next.filling) c.in-Done.is c.in_ok-next.ensures.ok in
    let time =
    fill_time c.args.filling c.loop-next.filling (view c.args.disk.now) (view c.loop-next.disk)
    (view c.put_next.new.disk) c.put_next.result c.loop-next.invariant (laws.now_fits c.loop-next.disk)
    c.put_next.ensures.write c.put_next.ensures.whole in
    record {
      most = λ counts. let t = time counts in let last = on.1 in omega arith;
      all = λ counts. let t = time counts in let last = on.1 in omega arith;
    }

pub returns-in-Done-clause-filled : goal.returns-in-Done-clause-filled
returns-in-Done-clause-filled g c =
    let view = g.D.Disk.view in
    let on = subst (FillsOn c.loop-next.filling) c.in-Done.is c.in_ok-next.ensures.ok in
    fills_done c.args.filling c.loop-next.filling (view c.args.disk.now) (view c.loop-next.disk)
    (view c.put_next.new.disk) c.loop-next.invariant on.1 c.in_ok-next.ensures.written

pub returns-in-Done-clause-keeps : goal.returns-in-Done-clause-keeps
returns-in-Done-clause-keeps g c =
    let laws = g.met.D.Disk g.world.𝓛 g.world.𝓜 g.world.𝓡 ((λ s x. x), (λ x. x), (λ x. x), λ x. x) in
    let view = g.D.Disk.view in
    fill_shows c.args.filling c.loop-next.filling (view c.args.disk.now) (view c.loop-next.disk)
    (view c.put_next.new.disk) c.put_next.result c.loop-next.invariant (laws.now_fits c.loop-next.disk)
    c.put_next.ensures.write c.put_next.ensures.whole
