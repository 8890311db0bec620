use Rattle.std.proofs.Common.{◌≡◌, ◌<◌, IsSome, Some, None, false, refl, sym, ap, subst, ◌∙◌}
use Rattle.std.specs.FinMap.{get}
use Rattle.std.specs.Option.{option_map_or}
use Rattle.tree_laws.specs.Tree.{Node, is_directory_kind}
use Rattle.sfs_tree.specs.StoreState.{StoreState}
use Rattle.sfs_tree.specs.Nodes.{node_of}
use Rattle.sfs_tree.specs.Store.{IsStored}
use Rattle.sfs_tree.proofs.StoreKept.{IsStored-row, IsStored-node, may_rise, has_place, this_node}
use Rattle.sfs_tree.proofs.store.Store.put_both.Goals as goal
use Rattle.sfs_tree.proofs.store.Store.put_both.Goals.{After-put}

lt : (c : After-put) → c.args.directory < c.self.inside.nodes.places
lt c =
    has_place c.self.inside.nodes c.self.inside.counts c.self.inside.rows c.args.self.now c.args.directory c.self.invariant c.self.view_is c.requires.directory

none : (c : After-put) → get c.self.inside.rows.rows (c.args.directory, c.args.name) ≡ None
none c = ap (λ (s : StoreState). get s.rows (c.args.directory, c.args.name)) c.self.view_is ∙ c.requires.absent

place : (c : After-put) → c.args.child.0 < c.self.inside.nodes.places
place c = subst (λ (s : StoreState). c.args.child.0 < s.places) (sym c.self.view_is) c.requires.place

-- with the new node
with_node : (c : After-put) → IsStored c.put.new.self c.self.inside.counts c.self.inside.rows
with_node c =
    IsStored-node c.self.inside.nodes c.self.inside.counts c.self.inside.rows c.self.invariant c.put.new.self c.args.child.0
    (node_of c.args.node) c.put.ensures.nodes c.put.ensures.places (place c)
    (ap (λ (s : StoreState). get s.nodes c.args.child.0) c.self.view_is ∙ c.requires.new)

pub add-requires : goal.add-requires
add-requires c =
    let at = (goal.at.add-requires c).After-put in
    may_rise c.self.inside.nodes c.self.inside.counts c.self.inside.rows c.self.invariant c.args.directory c.args.name c.args.child.0 c.insert.new.self
    c.in_ok-insert.ensures.ok c.insert.ensures.places c.insert.ensures.few
    (none at) (lt at) (place at)

pub invariant_of-self-2 : goal.invariant_of-self-2
invariant_of-self-2 c =
    let at = (goal.at.invariant_of-self-2 c).After-put in
    let new : get c.put.new.self.nodes c.args.child.0 ≡ Some (node_of c.args.node) =
    ap (λ m. get m c.args.child.0) c.put.ensures.nodes ∙ this_node c.self.inside.nodes.nodes c.args.child.0 (node_of c.args.node) in
    let is = c.is_directory-is_directory.ensures ∙ sym (ap (λ o. option_map_or (λ (n : Node). is_directory_kind n.kind) o false) new) in
    IsStored-row c.put.new.self c.self.inside.counts c.self.inside.rows
    (with_node at) c.args.directory c.args.name c.args.child.0 c.add.new.self c.insert.new.self c.in_ok-insert.ensures.ok c.insert.ensures.places
    c.insert.ensures.few
    (c.add.ensures.counted c.self.inside.rows.rows c.put.new.self.nodes c.args.name (with_node at).counted (none at) is)
    (c.add.ensures.wide c.put.new.self.places (with_node at).wide) (subst (λ n. c.args.directory < n) (sym c.put.ensures.places) (lt at))
    (subst IsSome (sym new) refl)
