use Rattle.std.proofs.Common.{rules, sym, ap, ◌∙◌}
use Rattle.std.specs.Prelude.{is_some}
use Rattle.std.proofs.lemmas.List.Sorted.{answers_always}
use Rattle.tree_laws.specs.NameRow.{node_number}
use Rattle.keyed_list.proofs.Searched.{search_finds, search_misses}
use Rattle.log_copy.proofs.Among.{listed_item, nodes_ascend}
use Rattle.log_copy.proofs.naming.is_among.Goals as goal

pub returns-in-Ok : goal.returns-in-Ok
returns-in-Ok c =
    let by_key = c.in-Ok.ensures.position node_number (answers_always _ _ _ (λ f a r h called. search rules)) in
    let found = search_finds node_number c.args.nodes.now (nodes_ascend c.args.nodes.now c.requires) c.args.node.0 c.in-Ok.field-0 c.args.node
    c.in-Ok.ensures.bound by_key in
    sym (listed_item c.args.nodes.now c.args.node.0 ∙ ap is_some (sym found))

pub returns-in-Err : goal.returns-in-Err
returns-in-Err c =
    let by_key = c.in-Err.ensures.position node_number (answers_always _ _ _ (λ f a r h called. search rules)) in
    let missed = search_misses node_number c.args.nodes.now (nodes_ascend c.args.nodes.now c.requires) c.args.node.0 c.in-Err.field-0
    c.in-Err.ensures.bound by_key in
    sym (listed_item c.args.nodes.now c.args.node.0 ∙ ap is_some (sym missed))
