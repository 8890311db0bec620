use Rattle.std.proofs.Common.{ap, sym, ◌∙◌, get_or, take}
use Rattle.std.proofs.lemmas.List.{take_all}
use Rattle.std.specs.Option.{option_or}
use Rattle.disk_change.proofs.Counted.{flat_map_last}
use Rattle.sfs_base.specs.declared.numbers.NodeId.{NodeId}
use Rattle.tree_laws.specs.declared.changes.Change.{Change}
use Rattle.dep_closure.specs.Gathered.{span_in}
use Rattle.std.proofs.Common.{List}
use Rattle.flush_plan.specs.Kinds.{kind_told, spans_in}
use Rattle.flush_plan.proofs.Told.{told_append}
use Rattle.flush_plan.proofs.kinds.kinds_told.Goals as goal

pub loop-member-preserved : goal.loop-member-preserved
loop-member-preserved c = λ node.
    let logs = c.args.logs.now in
    let nodes = c.as_slice-nodes.result.now in
    let i = c.loop-member.member-index in
    let no_node : NodeId = record { 0 = 0 } in
    let own = get_or nodes i no_node in
    let span_of : NodeId → List Change = λ member. span_in logs c.args.below member.0 in
    c.in_ok-add_kinds.ensures node
    ∙ ap (option_or (kind_told c.span.result.now node)) (c.loop-member.invariant node)
    ∙ ap (λ l. option_or (kind_told l node) (kind_told (spans_in logs c.args.below (take i nodes)) node)) c.span.ensures
    ∙ sym (told_append (spans_in logs c.args.below (take i nodes)) (span_of own) node)
    ∙ ap (λ l. kind_told l node) (sym (flat_map_last span_of nodes i no_node c.loop-member-test.true))

pub returns : goal.returns
returns c = λ node.
    c.loop-member.invariant node
    ∙ ap (λ l. kind_told (spans_in c.args.logs.now c.args.below l) node)
    (take_all c.loop-member.member-index c.as_slice-nodes.result.now c.loop-member-test.false ∙ c.as_slice-nodes.ensures)
