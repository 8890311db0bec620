use Rattle.std.proofs.Common.{◌≡◌, ◌<◌, Some, sym, ap, subst, ◌∙◌}
use Rattle.std.specs.Prelude.{is_some}
use Rattle.script.specs.Limits.{calls_left}
use Rattle.script.specs.Walks.{Position, call_of, started, commands_of}
use Rattle.script.proofs.EndLemmas.{calls_left-falls}
use Rattle.script.proofs.ReadyLemmas.{started_ready}
use Rattle.workers.specs.Works.{MakesCalls}
use Rattle.workers.proofs.UnderWay.{IsUnderWay, sets_out, one_more, is_refused, readable_next}
use Rattle.workers.proofs.driving.make_calls.Goals as goal

pub loop-call-init : goal.loop-call-init
loop-call-init g c =
    let number : c.from.result ≡ c.args.core.now.view.core = c.from.ensures ∙ c.number.ensures in
    sets_out c.args.table.now (g.F.Flush.agrees c.args.flush.now) (commands_of c.args.core.now.view.core c.args.phase.now) c.args.core.now c.args.pen.now
    c.new-course.result c.requires.core c.requires.agrees
    (c.new-course.ensures ∙ ap (λ n. started (commands_of n c.args.phase.now)) number)
    (started_ready c.args.core.now.view.core c.args.phase.now c.requires.ready)

pub make_call-requires-clause-readable : goal.make_call-requires-clause-readable
make_call-requires-clause-readable g c κs within =
    readable_next c.loop-call.course.walk c.in-Some.call c.loop-call.invariant.ready.now (sym c.in_ok-call.ensures ∙ c.in-Some.is)

pub returns-in_err-reply : goal.returns-in_err-reply
returns-in_err-reply g c =
    let t = c.args.table.now in
    let agrees = g.F.Flush.agrees c.args.flush.now in
    let commands = commands_of c.args.core.now.view.core c.args.phase.now in
    let next : call_of c.loop-call.course.walk ≡ Some c.in-Some.call = sym c.in_ok-call.ensures ∙ c.in-Some.is in
    subst (λ b. MakesCalls t agrees commands c.args.core.now c.make_call.new.core c.make_call.new.pen b) (sym c.from_residual-in_err-reply.ensures.0)
    (is_refused t agrees commands c.args.core.now c.loop-call.core c.loop-call.pen c.loop-call.course c.loop-call.invariant c.make_call.new.core
    c.make_call.new.pen (ap is_some next) c.in_err-reply.ensures.made
    (record { between = c.in_err-reply.ensures.between; same = c.in_err-reply.ensures.same; agree = c.in_err-reply.ensures.agrees }))

pub loop-call-smaller-in_ok-reply : goal.loop-call-smaller-in_ok-reply
loop-call-smaller-in_ok-reply g c =
    let next : call_of c.loop-call.course.walk ≡ Some c.in-Some.call = sym c.in_ok-call.ensures ∙ c.in-Some.is in
    subst (λ (p : Position). calls_left p < calls_left c.loop-call.course) (sym c.take.ensures)
    (calls_left-falls c.loop-call.course c.in_ok-reply.reply c.in-Some.call next)

pub loop-call-preserved-in_ok-reply : goal.loop-call-preserved-in_ok-reply
loop-call-preserved-in_ok-reply g c =
    let t = c.args.table.now in
    let agrees = g.F.Flush.agrees c.args.flush.now in
    let commands = commands_of c.args.core.now.view.core c.args.phase.now in
    let next : call_of c.loop-call.course.walk ≡ Some c.in-Some.call = sym c.in_ok-call.ensures ∙ c.in-Some.is in
    subst (λ (p : Position). IsUnderWay t agrees commands c.args.core.now c.make_call.new.core c.make_call.new.pen p) (sym c.take.ensures)
    (one_more t agrees commands c.args.core.now c.loop-call.core c.loop-call.pen c.loop-call.course c.loop-call.invariant c.make_call.new.core
    c.make_call.new.pen c.in-Some.call c.in_ok-reply.reply next c.in_ok-reply.ensures.made
    (record { between = c.in_ok-reply.ensures.between; same = c.in_ok-reply.ensures.same; agree = c.in_ok-reply.ensures.agrees }))

pub loop-call-smaller-in_ok-reply-2 : goal.loop-call-smaller-in_ok-reply-2
loop-call-smaller-in_ok-reply-2 g c =
    let next : call_of c.loop-call.course.walk ≡ Some c.in-Some.call = sym c.in_ok-call.ensures ∙ c.in-Some.is in
    subst (λ (p : Position). calls_left p < calls_left c.loop-call.course) (sym c.take.ensures)
    (calls_left-falls c.loop-call.course c.in_ok-reply.reply c.in-Some.call next)

pub loop-call-preserved-in_ok-reply-2 : goal.loop-call-preserved-in_ok-reply-2
loop-call-preserved-in_ok-reply-2 g c =
    let t = c.args.table.now in
    let agrees = g.F.Flush.agrees c.args.flush.now in
    let commands = commands_of c.args.core.now.view.core c.args.phase.now in
    let next : call_of c.loop-call.course.walk ≡ Some c.in-Some.call = sym c.in_ok-call.ensures ∙ c.in-Some.is in
    subst (λ (p : Position). IsUnderWay t agrees commands c.args.core.now c.make_call.new.core c.make_call.new.pen p) (sym c.take.ensures)
    (one_more t agrees commands c.args.core.now c.loop-call.core c.loop-call.pen c.loop-call.course c.loop-call.invariant c.make_call.new.core
    c.make_call.new.pen c.in-Some.call c.in_ok-reply.reply next c.in_ok-reply.ensures.made
    (record { between = c.in_ok-reply.ensures.between; same = c.in_ok-reply.ensures.same; agree = c.in_ok-reply.ensures.agrees }))

pub loop-call-smaller : goal.loop-call-smaller
loop-call-smaller g c =
    let next : call_of c.loop-call.course.walk ≡ Some c.in-Some.call = sym c.in_ok-call.ensures ∙ c.in-Some.is in
    subst (λ (p : Position). calls_left p < calls_left c.loop-call.course) (sym c.take.ensures)
    (calls_left-falls c.loop-call.course c.in_ok-reply.reply c.in-Some.call next)

pub loop-call-preserved : goal.loop-call-preserved
loop-call-preserved g c =
    let t = c.args.table.now in
    let agrees = g.F.Flush.agrees c.args.flush.now in
    let commands = commands_of c.args.core.now.view.core c.args.phase.now in
    let next : call_of c.loop-call.course.walk ≡ Some c.in-Some.call = sym c.in_ok-call.ensures ∙ c.in-Some.is in
    subst (λ (p : Position). IsUnderWay t agrees commands c.args.core.now c.make_call.new.core c.make_call.new.pen p) (sym c.take.ensures)
    (one_more t agrees commands c.args.core.now c.loop-call.core c.loop-call.pen c.loop-call.course c.loop-call.invariant c.make_call.new.core
    c.make_call.new.pen c.in-Some.call c.in_ok-reply.reply next c.in_ok-reply.ensures.made
    (record { between = c.in_ok-reply.ensures.between; same = c.in_ok-reply.ensures.same; agree = c.in_ok-reply.ensures.agrees }))
