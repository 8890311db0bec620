-- What the writes that place the records have done, at each exit.
use Rattle.std.proofs.Common.{subst, arith}
use Rattle.journal_one.specs.Outcome.{PlacesOn}
use Rattle.commit_one.proofs.Loops.{places_more, places_done, place_goes, place_shows, place_time}
use Rattle.commit_one.proofs.steps.place.Goals as goal

pub returns-in_err-next-clause-keeps : goal.returns-in_err-next-clause-keeps
returns-in_err-next-clause-keeps g c =
    let laws = g.met.D.Disk g.world.𝓛 g.world.𝓜 g.world.𝓡 ((λ s x. x), (λ x. x), (λ x. x), λ x. x) in
    let view = g.D.Disk.view in
    place_shows c.args.durable c.loop-next.durable (view c.args.disk.now) (view c.loop-next.disk)
    (view c.place_next.new.disk) c.place_next.result c.loop-next.invariant (laws.now_fits c.loop-next.disk)
    c.place_next.ensures.write

pub loop-next-preserved : goal.loop-next-preserved
loop-next-preserved g c =
    let laws = g.met.D.Disk g.world.𝓛 g.world.𝓜 g.world.𝓡 ((λ s x. x), (λ x. x), (λ x. x), λ x. x) in
    let view = g.D.Disk.view in
    let on = subst (PlacesOn c.loop-next.durable) c.in-More.is c.in_ok-next.ensures.ok in
    places_more c.args.durable c.loop-next.durable c.in-More.next (view c.args.disk.now) (view c.loop-next.disk)
    (view c.place_next.new.disk) c.in_ok-next.field-0 c.loop-next.invariant (laws.now_fits c.loop-next.disk)
    c.in_ok-next.ensures.write on.0 on.1 c.in_ok-next.ensures.placed

pub returns-in-Done-clause-goes : goal.returns-in-Done-clause-goes
returns-in-Done-clause-goes g c =
    let laws = g.met.D.Disk g.world.𝓛 g.world.𝓜 g.world.𝓡 ((λ s x. x), (λ x. x), (λ x. x), λ x. x) in
    let view = g.D.Disk.view in
    place_goes c.args.durable c.loop-next.durable (view c.args.disk.now) (view c.loop-next.disk)
    (view c.place_next.new.disk) c.place_next.result c.loop-next.invariant (laws.now_fits c.loop-next.disk)
    c.place_next.ensures.write

pub returns-in-Done-clause-time : goal.returns-in-Done-clause-time
returns-in-Done-clause-time g c =
    let laws = g.met.D.Disk g.world.𝓛 g.world.𝓜 g.world.𝓡 ((λ s x. x), (λ x. x), (λ x. x), λ x. x) in
    let view = g.D.Disk.view in
    let on = subst (PlacesOn c.loop-next.durable) c.in-Done.is c.in_ok-next.ensures.ok in
    let time =
    place_time c.args.durable c.loop-next.durable (view c.args.disk.now) (view c.loop-next.disk)
    (view c.place_next.new.disk) c.place_next.result c.loop-next.invariant (laws.now_fits c.loop-next.disk)
    c.place_next.ensures.write in
    record {
      most = λ counts. let t = time counts in let last = on.1 in omega arith;
      all = λ counts. let t = time counts in let last = on.1 in omega arith;
    }

pub returns-in-Done-clause-placed : goal.returns-in-Done-clause-placed
returns-in-Done-clause-placed g c =
    let view = g.D.Disk.view in
    let on = subst (PlacesOn c.loop-next.durable) c.in-Done.is c.in_ok-next.ensures.ok in
    places_done c.args.durable c.loop-next.durable (view c.args.disk.now) (view c.loop-next.disk)
    (view c.place_next.new.disk) c.loop-next.invariant on.1 c.in_ok-next.ensures.placed

pub returns-in-Done-clause-keeps : goal.returns-in-Done-clause-keeps
returns-in-Done-clause-keeps g c =
    let laws = g.met.D.Disk g.world.𝓛 g.world.𝓜 g.world.𝓡 ((λ s x. x), (λ x. x), (λ x. x), λ x. x) in
    let view = g.D.Disk.view in
    place_shows c.args.durable c.loop-next.durable (view c.args.disk.now) (view c.loop-next.disk)
    (view c.place_next.new.disk) c.place_next.result c.loop-next.invariant (laws.now_fits c.loop-next.disk)
    c.place_next.ensures.write
