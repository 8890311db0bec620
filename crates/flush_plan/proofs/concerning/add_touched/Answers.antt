use Rattle.std.proofs.Common.{◌≡◌, ℕ, List, subst}
use Rattle.std.proofs.lemmas.Result.{on_ok_weaker}
use Rattle.tree_laws.specs.declared.changes.Change.{Change}
use Rattle.cut_laws.specs.Elements.{OfSome}
use Rattle.dep_closure.specs.Brought.{AddsTo}
use Rattle.dep_closure.specs.Gathered.{span_in}
use Rattle.dep_closure.proofs.Growing.{set_one, set_both}
use Rattle.flush_plan.proofs.concerning.add_touched.Goals as goal

pub returns : goal.returns
returns c =
    let names : Change → ℕ → Type 0 = λ change other. change.child.0 ≡ other in
    on_ok_weaker c.add_children.result
    (λ grows.
    set_both c.args.touched.now c.insert.new.self c.add_children.new.named (λ other. c.args.member.0 ≡ other)
    (OfSome (span_in c.args.logs.now c.args.below c.args.member.0) names)
    (set_one c.args.touched.now c.insert.new.self c.args.member.0 c.in_ok-insert.ensures.keys)
    (subst (λ (l : List Change). AddsTo c.insert.new.self c.add_children.new.named (OfSome l names)) c.span.ensures grows))
    c.add_children.ensures
