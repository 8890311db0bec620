use Rattle.std.proofs.Common.{◌≡◌, ◌<◌, ◌+◌, ◌++◌, [], length, map, filter, filter_map, not, nat_eq, take, sym, ap, ◌∙◌}
use Rattle.std.proofs.lemmas.List.{append-nil, take_all}
use Rattle.std.proofs.lemmas.Result.{IfOk-weaker}
use Rattle.sfs_base.proofs.BasicNumbers.{not_same}
use Rattle.disk_nodes.specs.declared.old.OldEntry.{OldEntry}
use Rattle.disk_change.specs.Links.{times_in}
use Rattle.disk_change.specs.Lists.{ascending_by}
use Rattle.disk_change.specs.Parts.{BuiltParts, built_with}
use Rattle.disk_change.specs.Planned.{has_listed_node}
use Rattle.disk_change.specs.Records.{record_keyed, record_inode, written_of_built, written_of_gone}
use Rattle.disk_change.proofs.Ascending.{ascending_more}
use Rattle.disk_change.proofs.Leaving.{one_leaves, one_stays, put_leaving, filter_of_map}
use Rattle.disk_change.proofs.records.records.Goals as goal
use Rattle.disk_change.proofs.records.records.Goals.{then-times_of-ne0+in_ok-put_gone, else-times_of-ne0}

pub loop-node-preserved : goal.loop-node-preserved
loop-node-preserved c =
    ascending_more record_inode (λ (node : BuiltParts). written_of_built (built_with [] node)) [] c.args.nodes.now c.loop-node.node-index
    c.node-item.result _ _ (written_of_built (built_with [] c.node-item.result)) c.loop-node-test.true
    c.loop-node.invariant (ap (λ (node : BuiltParts). written_of_built (built_with [] node)) c.node-item.is) c.in_ok-put_built.ensures

pub loop-entry-init : goal.loop-entry-init
loop-entry-init c =
    let front = filter_map (λ (node : BuiltParts). written_of_built (built_with [] node)) c.args.nodes.now in
    c.loop-node.invariant
    ∙ ap (λ l. ascending_by record_inode (filter_map (λ (node : BuiltParts). written_of_built (built_with [] node)) l))
    (take_all c.loop-node.node-index c.args.nodes.now c.loop-node-test.false)
    ∙ ap (ascending_by record_inode) (sym (append-nil front))

pub loop-entry-preserved : goal.loop-entry-preserved
loop-entry-preserved c =
    let old = c.args.old.now in
    let leaving = c.args.leaving.now in
    let entry : OldEntry = c.entry-item.result in
    let i = c.loop-entry.entry-index in
    let within : i < length old = c.loop-entry-test.true in
    let times : c.times_of.result ≡ times_in leaving entry.node.0 = c.times_of.ensures in
    let front = filter_map (λ (node : BuiltParts). written_of_built (built_with [] node)) c.args.nodes.now in
    elim c.if-times_of-ne0.branch [
      | then-times_of-ne0+in_ok-put_gone w ↦
          ap (λ m. map record_keyed m.entries) w.records-is
          ∙ put_leaving record_inode written_of_gone front (filter (has_listed_node leaving) (take i old)) (filter (has_listed_node leaving) (take (i + 1) old))
          entry _ _ (one_leaves leaving old i entry within c.entry-item.is (ap not (not_same (times_in leaving entry.node.0) 0 (λ e. w.if-times_of-ne0.true (times ∙ e))))) c.loop-entry.invariant w.in_ok-put_gone.ensures
      | else-times_of-ne0 w ↦
          ap (λ m. map record_keyed m.entries) w.records-is ∙ c.loop-entry.invariant
          ∙ ap (λ l. ascending_by record_inode (front ++ filter_map written_of_gone l)) (sym (one_stays leaving old i entry within c.entry-item.is (ap (λ n. not (nat_eq n 0)) (sym times ∙ w.if-times_of-ne0.false))))
    ]

pub returns-clause-items : goal.returns-clause-items
returns-clause-items c =
    let all = take_all c.loop-entry.entry-index c.args.old.now c.loop-entry-test.false in
    IfOk-weaker c.listed.result (λ list. list.items ≡ map record_keyed c.loop-entry.records.entries)
    (λ list. list.items
    ≡ ascending_by record_inode (filter_map written_of_built (map (built_with []) c.args.nodes.now)
    ++ filter_map written_of_gone (filter (has_listed_node c.args.leaving.now) c.args.old.now)))
    (λ list is. is ∙ c.loop-entry.invariant
    ∙ (λ i. ascending_by record_inode
    (filter_of_map [] written_of_built c.args.nodes.now i ++ filter_map written_of_gone (filter (has_listed_node c.args.leaving.now) (all i)))))
    c.listed.ensures.items
