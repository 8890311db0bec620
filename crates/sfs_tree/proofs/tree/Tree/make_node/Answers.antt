use Rattle.std.proofs.Common.{◌≡◌, ◌+◌, ◌*◌, ◌<◌, length, set, slice_index, sym, ap, subst, ◌∙◌}
use Rattle.std.proofs.lemmas.List.{get_or_read}
use Rattle.std.specs.FinMap.{get, insert}
use Rattle.tree_laws.specs.Tree.{TreeState, Node, next_number}
use Rattle.tree_laws.specs.Build.{IsFounded}
use Rattle.sfs_tree.proofs.Founded.{new_number, IsFounded-made}
use Rattle.sfs_tree.proofs.tree.Tree.make_node.Goals as goal
use Rattle.sfs_tree.proofs.tree.Tree.make_node.Goals.{In_ok-grow}

within : (c : In_ok-grow) → c.args.core.0 < length c.self.inside.made.items
within c = subst (λ (t : TreeState). c.args.core.0 < length t.made) (sym c.self.view_is) c.requires.core

room : (c : In_ok-grow) → slice_index c.self.inside.made.items c.args.core.0 < c.self.inside.share
room c = subst (λ (t : TreeState). slice_index t.made c.args.core.0 < t.share) (sym c.self.view_is) c.requires.share

number : (c : In_ok-grow) → c.args.node.0 ≡ c.self.inside.first + c.args.core.0 * c.self.inside.share + slice_index c.self.inside.made.items c.args.core.0
number c = c.requires.node ∙ ap (λ (t : TreeState). next_number t c.args.core.0) (sym c.self.view_is)

pub put_both-requires-clause-new : goal.put_both-requires-clause-new
put_both-requires-clause-new c =
    let at = (goal.at.put_both-requires-clause-new c).In_ok-grow in
    ap (λ m. get m c.args.node.0) c.grow.ensures.nodes ∙ ap (get c.self.inside.store.nodes) (number at)
    ∙ new_number c.self.inside.store.nodes c.self.inside.first c.self.inside.share c.self.inside.made.items c.self.invariant c.args.core.0 (within at) (room at)

pub invariant_of-self-2 : goal.invariant_of-self-2
invariant_of-self-2 c =
    let at = (goal.at.invariant_of-self-2 c).In_ok-grow in
    let node : Node = record { kind = c.args.kind; bytes = c.new.result.items } in
    let nodes : c.put_both.new.self.nodes
    ≡ insert c.self.inside.store.nodes
    (c.self.inside.first + c.args.core.0 * c.self.inside.share + slice_index c.self.inside.made.items c.args.core.0) node =
    c.in_ok-put_both.ensures.nodes ∙ ap (λ m. insert m c.args.node.0 node) c.grow.ensures.nodes
    ∙ ap (λ n. insert c.self.inside.store.nodes n node) (number at) in
    let made : set c.self.inside.made.items c.args.core.0 (c.index_mut.result.now + 1)
    ≡ set c.self.inside.made.items c.args.core.0 (slice_index c.self.inside.made.items c.args.core.0 + 1) =
    ap (λ n. set c.self.inside.made.items c.args.core.0 (n + 1))
    (get_or_read c.self.inside.made.items c.args.core.0 c.index_mut.result.now (within at) c.index_mut.ensures.value 0) in
    subst (λ m. IsFounded m c.self.inside.first c.self.inside.share (set c.self.inside.made.items c.args.core.0 (c.index_mut.result.now + 1))) (sym nodes)
    (subst
    (IsFounded
    (insert c.self.inside.store.nodes
    (c.self.inside.first + c.args.core.0 * c.self.inside.share + slice_index c.self.inside.made.items c.args.core.0) node)
    c.self.inside.first c.self.inside.share)
    (sym made)
    (IsFounded-made c.self.inside.store.nodes c.self.inside.first c.self.inside.share c.self.inside.made.items c.self.invariant c.args.core.0 (within at)
    (room at) node))
