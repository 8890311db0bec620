use Rattle.std.proofs.Common.{Err, Ok, refl, subst, sym}
use Rattle.std.specs.Prelude.{MatchOption}
use Rattle.mem_values.specs.Start.{FileHand}
use Rattle.fsync_commit.specs.declared.landing.CommitRefusal.{CommitRefusal}
use Rattle.fsync_dir.specs.Answering.{EndsUntold, LetsGoWaiting}
use Rattle.fsync_dir.specs.Attempt.{attempt_at}
use Rattle.fsync_dir.specs.Flush.{AttemptComes}
use Rattle.fsync_dir.proofs.Coming.{change_lies, is_lent, landed_here, plan_asked, serves_ok, serves_refused, waits_back, works_back}
use Rattle.fsync_dir.proofs.Landing.{got_number, landed_of}
use Rattle.tree_laws.specs.declared.reply.Reply.TheVariants as reply
use Rattle.mem_calls.specs.Table.{nodes_of}
use Rattle.fsync_dir.proofs.attempt.commit_planned.Goals as goal

pub commit_plan-requires-clause-change : goal.commit_plan-requires-clause-change
commit_plan-requires-clause-change g c κs within =
    let planned = c.requires.drafted.0 in
    let has = c.requires.drafted.1 in
    let at = attempt_at c.args.site.now.table.now (nodes_of c.args.site.now.table.now) c.args.own.now planned.hand c.args.pen.now in
    change_lies at planned c.args.todo c.args.core.now c.args.site.now.cores has c.requires.site c.requires.agree

pub end_landed-requires-clause-landed : goal.end_landed-requires-clause-landed
end_landed-requires-clause-landed g c κs within =
    let planned = c.requires.drafted.0 in
    let has = c.requires.drafted.1 in
    let at = attempt_at c.args.site.now.table.now (nodes_of c.args.site.now.table.now) c.args.own.now planned.hand c.args.pen.now in
    let comes = plan_asked at planned c.args.todo c.args.core.now c.args.site.now.cores has c.requires.site c.requires.agree c.deref.result.now
    c.deref.ensures.value c.commit_plan.new.pen
    (Ok c.in-Ok.landed) c.in-Ok.ensures.comes in
    let got = got_number at planned c.args.todo c.args.core.now c.args.site.now.cores has c.requires.site c.commit_plan.new.pen c.in-Ok.landed comes in (
      landed_of planned got.0 c.in-Ok.landed,
      landed_here at planned c.args.todo c.args.core.now c.args.site.now.cores has c.requires.site c.requires.agree c.commit_plan.new.pen c.in-Ok.landed comes
          c.in-Ok.ensures.low,
    )

pub put_back-requires : goal.put_back-requires
put_back-requires g c =
    let planned = c.requires.drafted.0 in
    let has = c.requires.drafted.1 in
    let at = attempt_at c.args.site.now.table.now (nodes_of c.args.site.now.table.now) c.args.own.now planned.hand c.args.pen.now in
    let refusal : CommitRefusal = c.in-Err.field-0 in
    let comes = plan_asked at planned c.args.todo c.args.core.now c.args.site.now.cores has c.requires.site c.requires.agree c.deref.result.now
    c.deref.ensures.value c.commit_plan.new.pen
    (Err refusal) c.in-Err.ensures.comes in (
      planned.hand,
      is_lent at planned c.args.todo c.args.core.now c.args.site.now.cores has c.requires.site c.requires.agree c.commit_plan.new.pen
          refusal comes,
    )

pub answer_refused-requires-clause-work : goal.answer_refused-requires-clause-work
answer_refused-requires-clause-work g c =
    let planned = c.requires.drafted.0 in
    let has = c.requires.drafted.1 in
    let at = attempt_at c.args.site.now.table.now (nodes_of c.args.site.now.table.now) c.args.own.now planned.hand c.args.pen.now in
    let refusal : CommitRefusal = c.in-Err.field-0 in
    let comes = plan_asked at planned c.args.todo c.args.core.now c.args.site.now.cores has c.requires.site c.requires.agree c.deref.result.now
    c.deref.ensures.value c.commit_plan.new.pen
    (Err refusal) c.in-Err.ensures.comes in
    let back = c.put_back.ensures planned.hand
    (is_lent at planned c.args.todo c.args.core.now c.args.site.now.cores has c.requires.site c.requires.agree c.commit_plan.new.pen refusal comes) in
    works_back at planned c.args.todo c.args.core.now c.args.site.now.cores has c.requires.site c.requires.agree c.put_back.new.core back

pub answer_refused-requires-clause-waits : goal.answer_refused-requires-clause-waits
answer_refused-requires-clause-waits g c =
    let planned = c.requires.drafted.0 in
    let has = c.requires.drafted.1 in
    let at = attempt_at c.args.site.now.table.now (nodes_of c.args.site.now.table.now) c.args.own.now planned.hand c.args.pen.now in
    let refusal : CommitRefusal = c.in-Err.field-0 in
    let comes = plan_asked at planned c.args.todo c.args.core.now c.args.site.now.cores has c.requires.site c.requires.agree c.deref.result.now
    c.deref.ensures.value c.commit_plan.new.pen
    (Err refusal) c.in-Err.ensures.comes in
    let back = c.put_back.ensures planned.hand
    (is_lent at planned c.args.todo c.args.core.now c.args.site.now.cores has c.requires.site c.requires.agree c.commit_plan.new.pen refusal comes) in
    waits_back at planned c.args.todo c.args.core.now c.args.site.now.cores has c.requires.site c.requires.agree c.put_back.new.core back

pub returns-in-Ok-clause-comes : goal.returns-in-Ok-clause-comes
returns-in-Ok-clause-comes g c = λ planned has.
    let at = attempt_at c.args.site.now.table.now (nodes_of c.args.site.now.table.now) c.args.own.now planned.hand c.args.pen.now in
    let comes = plan_asked at planned c.args.todo c.args.core.now c.args.site.now.cores has c.requires.site c.requires.agree c.deref.result.now
    c.deref.ensures.value c.commit_plan.new.pen
    (Ok c.in-Ok.landed) c.in-Ok.ensures.comes in
    let got = got_number at planned c.args.todo c.args.core.now c.args.site.now.cores has c.requires.site c.commit_plan.new.pen c.in-Ok.landed comes in
    serves_ok at planned c.args.todo c.args.core.now c.args.site.now.cores has c.requires.site c.requires.agree refl c.commit_plan.new.pen
    c.in-Ok.ensures.goes c.in-Ok.ensures.room c.in-Ok.landed comes c.in-Ok.ensures.low c.end_landed.new.core
    (c.end_landed.ensures.lands (landed_of planned got.0 c.in-Ok.landed)
    (landed_here at planned c.args.todo c.args.core.now c.args.site.now.cores has c.requires.site c.requires.agree c.commit_plan.new.pen c.in-Ok.landed comes
    c.in-Ok.ensures.low))
    (c.in-Ok.ensures.way reply.Ok refl)

pub returns-in-Err-clause-comes : goal.returns-in-Err-clause-comes
returns-in-Err-clause-comes g c = λ planned has.
    let at = attempt_at c.args.site.now.table.now (nodes_of c.args.site.now.table.now) c.args.own.now planned.hand c.args.pen.now in
    let refusal : CommitRefusal = c.in-Err.field-0 in
    let comes = plan_asked at planned c.args.todo c.args.core.now c.args.site.now.cores has c.requires.site c.requires.agree c.deref.result.now
    c.deref.ensures.value c.commit_plan.new.pen
    (Err refusal) c.in-Err.ensures.comes in
    let back = c.put_back.ensures planned.hand
    (is_lent at planned c.args.todo c.args.core.now c.args.site.now.cores has c.requires.site c.requires.agree c.commit_plan.new.pen refusal comes) in
    subst (λ given. AttemptComes at c.answer_refused.new.core c.commit_plan.new.pen given) (sym c.answer_refused.ensures.reply)
    (serves_refused at planned c.args.todo c.args.core.now c.args.site.now.cores has c.requires.site c.requires.agree refl c.commit_plan.new.pen
    c.in-Err.ensures.goes c.in-Err.ensures.room refusal comes c.in-Err.ensures.way c.answer_refused.new.core
    c.in-Err.field-0.fault refl
    (subst (λ (z : _ × FileHand). MatchOption z.0 (LetsGoWaiting c.args.site.now.table.now z.1 c.answer_refused.new.core)
    (λ given. EndsUntold c.args.site.now.table.now c.args.own.now.fsync given z.1 c.answer_refused.new.core))
    (λ i. (c.answer_refused.ensures.reply i, back i)) c.answer_refused.ensures.ends))
