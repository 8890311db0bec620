use Rattle.std.proofs.Common.{◌≡◌, ℕ, refl, take, subst}
use Rattle.std.proofs.lemmas.List.{take_all}
use Rattle.tree_laws.specs.declared.changes.Change.{Change}
use Rattle.cut_laws.specs.Elements.{OfSome}
use Rattle.dep_closure.specs.Brought.{AddsTo}
use Rattle.dep_closure.proofs.Growing.{set_more, set_same}
use Rattle.dep_closure.proofs.births.add_children.Goals as goal

names : Change → ℕ → Type 0
names change node = change.child.0 ≡ node

pub loop-change-init : goal.loop-change-init
loop-change-init c =
    set_same c.args.named.now c.args.named.now (OfSome (take 0 c.args.changes.now) (λ change node. change.child.0 ≡ node)) refl (λ node some. absurd some.1)

pub loop-change-preserved : goal.loop-change-preserved
loop-change-preserved c =
    let brings : Change → ℕ → Type 0 = λ change node. change.child.0 ≡ node in
    set_more brings c.args.changes.now c.loop-change.change-index c.change-item.result c.change-item.result c.args.named.now c.loop-change.named
    c.add_child.new.named c.loop-change-test.true c.change-item.is c.loop-change.invariant c.in_ok-add_child.ensures

pub returns : goal.returns
returns c =
    subst (λ (l : _). AddsTo c.args.named.now c.loop-change.named (OfSome l (λ change node. change.child.0 ≡ node)))
    (take_all c.loop-change.change-index c.args.changes.now c.loop-change-test.false) c.loop-change.invariant
