use Rattle.std.proofs.Common.{◌≡◌, Some, subst, ◌⊎◌}
use Rattle.std.proofs.lemmas.Result.{on_ok_weaker}
use Rattle.tree_laws.specs.NameRow.{number_of}
use Rattle.cut_laws.specs.Rules.{IsOneOf}
use Rattle.cut_laws.specs.Elements.{OfSome}
use Rattle.dep_closure.specs.Brought.{GrowsBy}
use Rattle.dep_closure.specs.Spans.{ended_by}
use Rattle.dep_closure.proofs.Ends.{some_listed, listed_some}
use Rattle.dep_closure.proofs.Growing.{grows_both, grows_as}
use Rattle.dep_closure.proofs.following.follow_change.Goals as goal

pub returns : goal.returns
returns c =
    let first = c.in_ok-add_some.ensures in
    let second =
    subst (λ (child : _). GrowsBy c.add_some.new.self c.add_some-2.new.self (λ other. number_of child ≡ Some other)) c.ended_child.ensures
    c.in_ok-add_some-2.ensures in
    on_ok_weaker c.add_all.result (λ third.
    let above =
    grows_as c.add_some-2.new.self c.add_all.new.self (OfSome c.nodes.result.now (λ one other. one.0 ≡ other)) (IsOneOf c.args.change.now.above) third
    (some_listed c.nodes.result.now c.args.change.now.above c.nodes.ensures) (listed_some c.nodes.result.now c.args.change.now.above c.nodes.ensures) in
    let later =
    grows_both c.add_some.new.self c.add_some-2.new.self c.add_all.new.self (λ other. number_of (ended_by c.args.later.now c.args.change.now) ≡ Some other)
    (IsOneOf c.args.change.now.above) second above in
    grows_both c.args.found.now c.add_some.new.self c.add_all.new.self (λ other. number_of c.args.change.now.other ≡ Some other)
    (λ other. (number_of (ended_by c.args.later.now c.args.change.now) ≡ Some other) ⊎ IsOneOf c.args.change.now.above other) first later)
    c.add_all.ensures
