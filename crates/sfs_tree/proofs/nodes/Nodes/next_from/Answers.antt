use Rattle.std.proofs.Common.{◌≡◌, ◌≤◌, true, false, ltb, Option, Some, None, is_some, IsSome, option_map, sym, ap, subst, ◌∙◌, arith, refl}
use borrow.Author.Tests.{ltb-true, ltb-false}
use Rattle.std.specs.FinMap.{get}
use Rattle.std.proofs.lemmas.List.{get_or_read, get_or_past}
use Rattle.sfs_tree.specs.declared.nodes.NodeData.{NodeData}
use Rattle.sfs_tree.specs.NodesState.{NodesState}
use Rattle.sfs_tree.specs.Nodes.{node_of}
use Rattle.sfs_tree.proofs.Numbered.{get-numbered}
use Rattle.sfs_tree.proofs.nodes.Nodes.next_from.Goals as goal
use Rattle.sfs_base.proofs.BasicOptions.{none_not_some}

seen : (o : Option NodeData) → is_some o ≡ true → IsSome (option_map node_of o)
seen (Some n) e = refl
seen None e = cc

pub returns-then-is_some-clause-found : goal.returns-then-is_some-clause-found
returns-then-is_some-clause-found c =
    let place = c.loop-place.place in
    let lt = c.loop-place-test.true in
    let at = get_or_read c.self.inside.places.items place c.index.result.now (omega (arith, c.self.inside.places.ok.0)) c.index.ensures None in
    record {
      node =
          subst (λ (s : NodesState). IsSome (get s.nodes place)) c.self.view_is
          (subst IsSome (ap (option_map node_of) at ∙ sym (get-numbered c.self.inside.places.items place))
          (seen c.index.result.now (sym c.is_some.ensures ∙ c.if-is_some.true)));
      from = c.loop-place.auto.place;
      least = λ other from some. elim (ltb other place) as (λ b. ltb other place ≡ b → place ≤ other) [
        | true ↦ λ t. absurd (none_not_some _ (c.loop-place.invariant other from (ltb-true _ _ t)) some)
        | false ↦ λ t. ltb-false _ _ t
      ] refl;
    }

unseen : (o : Option NodeData) → is_some o ≡ false → option_map node_of o ≡ None
unseen (Some n) e = cc
unseen None e = refl

pub loop-place-preserved : goal.loop-place-preserved
loop-place-preserved c = λ other from below.
    let place = c.loop-place.place in
    let lt = c.loop-place-test.true in
    let at = get_or_read c.self.inside.places.items place c.index.result.now (omega (arith, c.self.inside.places.ok.0)) c.index.ensures None in
    let none : get c.args.self.now.nodes place ≡ None =
    ap (λ (s : NodesState). get s.nodes place) (sym c.self.view_is) ∙ get-numbered c.self.inside.places.items place ∙ ap (option_map node_of) (sym at)
    ∙ unseen c.index.result.now (sym c.is_some.ensures ∙ c.if-is_some.false) in
    elim (ltb other place) as (λ b. ltb other place ≡ b → get c.args.self.now.nodes other ≡ None) [
      | true ↦ λ t. c.loop-place.invariant other from (ltb-true _ _ t)
      | false ↦ λ t. let same : other ≡ place = (let ge = ltb-false _ _ t in omega arith) in ap (get c.args.self.now.nodes) same ∙ none
    ] refl

pub returns-clause-none : goal.returns-clause-none
returns-clause-none c = λ other from.
    elim (ltb other c.loop-place.place) as (λ b. ltb other c.loop-place.place ≡ b → get c.args.self.now.nodes other ≡ None) [
      | true ↦ λ t. c.loop-place.invariant other from (ltb-true _ _ t)
      | false ↦ λ t.
          let ge = ltb-false _ _ t in
          let stop = c.loop-place-test.false in
          ap (λ (s : NodesState). get s.nodes other) (sym c.self.view_is) ∙ get-numbered c.self.inside.places.items other
          ∙ ap (option_map node_of) (get_or_past c.self.inside.places.items other None (omega (arith, c.self.inside.places.ok.0)))
    ] refl
