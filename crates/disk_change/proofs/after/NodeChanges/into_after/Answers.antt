use Rattle.std.proofs.Common.{◌++◌, ◌∷◌, [], List, length, map, reverse, refl, sym, ap, subst, ◌∙◌, arith}
use Rattle.std.proofs.lemmas.List.{append-nil, length-append}
use Rattle.keyed_list.specs.Ascending.{AscendBy}
use Rattle.disk_nodes.specs.Nodes.{entry_node}
use Rattle.disk_nodes.specs.declared.old.OldEntry.{OldEntry}
use Rattle.disk_change.specs.Parts.{OldAndAfter}
use Rattle.disk_change.proofs.Putting.{Putting, put_entry, node_put, one_put, entries_ascend, all_made}
use Rattle.disk_change.proofs.after.NodeChanges.into_after.Goals as goal

pub loop-node-init : goal.loop-node-init
loop-node-init c =
    let none = c.self.invariant.2 in
    record {
      putting = record {
        items =
            sym (append-nil (map (put_entry c.self.inside.old.items) c.self.inside.nodes.items))
            ∙ ap (λ (l : List OldEntry). map (put_entry c.self.inside.old.items) c.self.inside.nodes.items ++ reverse l) (sym none);
        ascending = c.self.invariant.0;
        same = λ k d low. refl;
        put = c.self.invariant.1;
      };
      room = let long = c.self.inside.list.ok.0 in let empty = ap length none in omega (arith, long, empty, c.self.invariant.3);
    }

pub put_node-requires : goal.put_node-requires
put_node-requires c =
    node_put c.self.inside.old.items c.self.inside.nodes.items c.loop-node.old.items c.loop-node.nodes.items c.pop.new.self.items c.in-Some.node c.loop-node.list.items
    c.loop-node.invariant.putting c.in-Some.ensures.items

pub push_reserved-requires : goal.push_reserved-requires
push_reserved-requires c =
    let long = ap length c.in-Some.ensures.items ∙ length-append c.pop.new.self.items (c.in-Some.node ∷ []) in
    omega (arith, long, c.loop-node.invariant.room)

pub loop-node-preserved : goal.loop-node-preserved
loop-node-preserved c = record {
  putting =
      subst (Putting c.self.inside.old.items c.self.inside.nodes.items c.put_node.new.old.items c.pop.new.self.items) (sym c.push_reserved.ensures.items)
      (one_put c.self.inside.old.items c.self.inside.nodes.items c.loop-node.old.items c.loop-node.nodes.items c.pop.new.self.items c.in-Some.node c.loop-node.list.items
      c.loop-node.invariant.putting c.in-Some.ensures.items
      c.put_node.new.old.items c.put_node.result c.put_node.ensures.entry c.put_node.ensures.others);
  room =
      let long = ap length c.in-Some.ensures.items ∙ length-append c.pop.new.self.items (c.in-Some.node ∷ []) in
      omega (arith, long, c.loop-node.invariant.room, c.push_reserved.ensures.len, c.push_reserved.ensures.capacity);
}

pub loop-node-smaller : goal.loop-node-smaller
loop-node-smaller c =
    let long = ap length c.in-Some.ensures.items ∙ length-append c.pop.new.self.items (c.in-Some.node ∷ []) in
    omega (arith, long)

pub from_vec-requires : goal.from_vec-requires
from_vec-requires c =
    let all =
    all_made c.self.inside.old.items c.self.inside.nodes.items c.loop-node.old.items c.loop-node.nodes.items c.loop-node.list.items c.reverse.new.self.items
    c.loop-node.invariant.putting (sym c.loop-node.nodes.ok.0 ∙ c.in_default.ensures.cases.0) c.reverse.ensures.items in
    subst (AscendBy entry_node) (sym all) (entries_ascend c.self.inside.old.items c.self.inside.nodes.items c.self.invariant.0)

pub returns : goal.returns
returns c =
    let all =
    all_made c.self.inside.old.items c.self.inside.nodes.items c.loop-node.old.items c.loop-node.nodes.items c.loop-node.list.items c.reverse.new.self.items
    c.loop-node.invariant.putting (sym c.loop-node.nodes.ok.0 ∙ c.in_default.ensures.cases.0) c.reverse.ensures.items in
    c.from_vec.ensures ∙ all ∙ ap (λ (both : OldAndAfter). both.after) c.self.view_is
