use Rattle.std.proofs.Common.{◌≡◌, ap, ◌∙◌, subst, sym, IfOk}
use Rattle.std.specs.Prelude.{Result, Ok, Err}
use Rattle.disk_change.specs.Planned.{planned}
use Rattle.flush_plan.specs.Plan.{IsPlanOf, MovesInodes, files_written, is_written}
use Rattle.flush_plan.specs.declared.plans.FsyncPlan.{FsyncPlan}
use Rattle.flush_plan.proofs.planning.plan.Goals as goal

-- four facts of what is answered make a fifth
joined : {X E : Type 0} (result : Result X E) (P Q R S T : X → Type 0) → ((x : X) → P x → Q x → R x → S x → T x) → IfOk result P → IfOk result Q
    → IfOk result R → IfOk result S → IfOk result T
joined (Ok x) P Q R S T make p q r s = make x p q r s
joined (Err e) P Q R S T make p q r s = tt

pub returns-in-Ok-clause-ok : goal.returns-in-Ok-clause-ok
returns-in-Ok-clause-ok c =
    let concern = c.args.concern in
    let moves = c.in-Ok.moves in
    let old = c.args.old.items in
    joined c.plan_with.result
    (λ (plan : FsyncPlan). plan.change ≡ planned old concern.nets.items moves.files.items moves.enter.items moves.leave.items)
    (λ (plan : FsyncPlan). plan.members.items ≡ concern.members.items) (λ (plan : FsyncPlan). plan.nodes.items ≡ concern.nodes.items)
    (λ (plan : FsyncPlan). plan.leave.items ≡ moves.leave.items)
    (λ (plan : FsyncPlan). IsPlanOf c.args.start c.args.below c.args.logs.now concern old c.args.is_file c.args.change plan)
    (λ plan made members nodes leave. record {
      enter = moves.enter.items;
      members = members;
      nodes = nodes;
      moves = subst (MovesInodes c.args.start c.args.below c.args.logs.now concern old c.args.is_file moves.enter.items) (sym leave) c.in-Ok.ensures.moves;
      made =
          made ∙ ap (λ files. planned old concern.nets.items files moves.enter.items moves.leave.items) c.in-Ok.ensures.files
          ∙ ap
          (planned old concern.nets.items (files_written (is_written c.args.logs.now moves.enter.items c.args.start.0 c.args.below.0) c.args.change)
          moves.enter.items)
          (sym leave);
    })
    c.plan_with.ensures.change c.plan_with.ensures.members c.plan_with.ensures.nodes c.plan_with.ensures.leave
