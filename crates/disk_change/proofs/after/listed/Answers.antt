use Rattle.std.proofs.Common.{◌++◌, ◌∷◌, [], refl, sym, ap, ◌∙◌, map}
use Rattle.std.proofs.lemmas.List.{map-append}
use Rattle.std.proofs.lemmas.Iterator.Consumers.{YieldsList-end, YieldsList-from_rest}
use Rattle.disk_change.specs.Parts.{parts_keyed, parts_node}
use Rattle.disk_change.proofs.Ascending.{keys_are, sorted_ascend}
use Rattle.disk_change.proofs.Directories.{map_itself}
use Rattle.disk_change.proofs.after.listed.Goals as goal

pub loop-node-preserved : goal.loop-node-preserved
loop-node-preserved c =
    c.in_ok-push.ensures.items ∙ (λ i. c.loop-node.invariant i ++ parts_keyed (c.in-Some.node, c.one.view_is i) ∷ [])
    ∙ sym (map-append parts_keyed c.loop-node.yielded ((c.in-Some.node, c.in-Some.built) ∷ []))

pub returns : goal.returns
returns c =
    let gives = c.into_iter-node-iterator.ensures.into_iter_gives in
    let end =
    YieldsList-end
    (YieldsList-from_rest c.args.by_node.entries gives.0) c.loop-node.yielded c.loop-node.node-iterator c.loop-node.yielded_by _ c.next.new.self
    c.in-None.is c.next.ensures.steps in
    let all = c.loop-node.invariant ∙ ap (map parts_keyed) (sym (map_itself c.loop-node.yielded) ∙ end.0) in
    record {
      items = all;
      ascending =
          sorted_ascend parts_node c.loop-node.list.items (map (λ e. e.0) c.args.by_node.entries)
          (ap (map parts_node) all ∙ keys_are parts_keyed parts_node (λ e. refl) c.args.by_node.entries) gives.5;
    }
