use Rattle.std.proofs.Common.{◌≡◌, ℕ, List, filter, ap, subst, ◌∙◌}
use Rattle.std.proofs.lemmas.Result.{on_ok_weaker}
use Rattle.tree_laws.specs.declared.changes.Change.{Change}
use Rattle.mem_cells.specs.Log.{is_from}
use Rattle.cut_laws.specs.Elements.{OfSome}
use Rattle.dep_closure.specs.Brought.{AddsTo}
use Rattle.dep_closure.specs.Gathered.{IsNamedByLog}
use Rattle.dep_closure.proofs.Growing.{set_as}
use Rattle.dep_closure.proofs.Tying.{named_from, from_named}
use Rattle.dep_closure.proofs.births.add_named.Goals as goal

pub returns : goal.returns
returns c =
    let log = c.args.log.now in
    let from = c.args.from.0 in
    let is = c.from_stamp.ensures.items ∙ ap (filter (is_from from)) c.as_slice.ensures in
    on_ok_weaker c.add_children.result
    (λ grows cut from_is.
    set_as c.args.named.now c.add_children.new.named (OfSome (filter (is_from from) log.changes.items) (λ change other. change.child.0 ≡ other))
    (IsNamedByLog cut log)
    (subst (λ (l : List Change). AddsTo c.args.named.now c.add_children.new.named (OfSome l (λ change other. change.child.0 ≡ other))) is grows)
    (named_from cut log from from_is) (from_named cut log from from_is))
    c.add_children.ensures
