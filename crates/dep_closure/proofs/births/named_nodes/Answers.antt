use Rattle.std.proofs.Common.{ℕ, ◌∙◌, subst, List, map, inl, inr}
use Rattle.std.proofs.lemmas.List.{take_all}
use Rattle.cut_laws.specs.Elements.{OfSome}
use Rattle.cut_laws.specs.Rules.{IsOneOf}
use Rattle.cut_laws.proofs.Listed.{one_at}
use Rattle.dep_closure.specs.declared.gathered.DirectoryChanges.{DirectoryChanges}
use Rattle.dep_closure.specs.Brought.{AddsTo}
use Rattle.tree_laws.specs.NameRow.{node_number}
use Rattle.dep_closure.specs.Gathered.{IsNamedByLog, IsOwnLog, lifted_cut}
use Rattle.dep_closure.proofs.Growing.{set_more, has_one, one_has}
use Rattle.dep_closure.proofs.Looked.{one_of_all}
use Rattle.dep_closure.proofs.Tying.{seen_named, named_seen}
use Rattle.dep_closure.proofs.births.named_nodes.Goals as goal

pub add_named-requires : goal.add_named-requires
add_named-requires c =
    let log = c.log-item.result in
    let one =
    subst (λ (l : List DirectoryChanges). IsOneOf l log) c.as_slice-logs.ensures
    (one_at c.as_slice-logs.result.now c.loop-log.log-index log log c.loop-log-test.true c.log-item.is) in
    (one_of_all IsOwnLog c.args.gathered.now.logs.items log c.requires.gathered.own_logs one).in_order

pub loop-log-preserved : goal.loop-log-preserved
loop-log-preserved c =
    let cut : ℕ → ℕ = lifted_cut c.args.gathered.now.cuts.items (map node_number c.args.lifted.now) c.args.to.0 in
    let brings : DirectoryChanges → ℕ → Type 0 = IsNamedByLog cut in
    set_more brings c.as_slice-logs.result.now c.loop-log.log-index c.log-item.result c.log-item.result c.new-named.result c.loop-log.named
    c.add_named.new.named c.loop-log-test.true c.log-item.is c.loop-log.invariant
    (c.in_ok-add_named.ensures cut c.lifted_stamp-cut.ensures)

pub returns : goal.returns
returns c = λ start below node.
    let gathered = c.args.gathered.now in
    let cut : ℕ → ℕ = lifted_cut gathered.cuts.items (map node_number c.args.lifted.now) c.args.to.0 in
    let grown = subst (λ (l : List DirectoryChanges). AddsTo c.new-named.result c.loop-log.named (OfSome l (IsNamedByLog cut)))
    (take_all c.loop-log.log-index c.as_slice-logs.result.now c.loop-log-test.false ∙ c.as_slice-logs.ensures) c.loop-log.invariant in (
      λ has. elim ((grown node).0 (has_one c.loop-log.named node has)) [
        | inl old ↦ absurd (subst (λ (l : List ℕ). IsOneOf l node) c.new-named.ensures.empty old)
        | inr names ↦ seen_named gathered c.requires.gathered start below cut node names
      ],
      λ sees. one_has c.loop-log.named node ((grown node).1 (inr (named_seen gathered c.requires.gathered start below cut node sees))),
    )
