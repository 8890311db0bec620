use Rattle.std.proofs.Common.{◌≡◌, true, Some, sym, ap, ◌∙◌}
use Rattle.std.specs.FinMap.{get}
use Rattle.tree_laws.specs.Tree.{count_of}
use Rattle.sfs_tree.specs.StoreState.{StoreState}
use Rattle.sfs_tree.specs.Counts.{is_directory_in}
use Rattle.sfs_tree.proofs.StoreKept.{IsStored-removed, may_fall}
use Rattle.sfs_tree.proofs.store.Store.remove_row.Goals as goal
use Rattle.sfs_tree.proofs.store.Store.remove_row.Goals.{After-remove}

some : (c : After-remove) → get c.self.inside.rows.rows (c.args.directory, c.args.name.now) ≡ Some c.args.child.0
some c = ap (λ (s : StoreState). get s.rows (c.args.directory, c.args.name.now)) c.self.view_is ∙ c.requires.row

once : (c : After-remove) → is_directory_in c.self.inside.nodes.nodes c.args.child.0 ≡ true → count_of c.self.inside.rows.rows c.args.child.0 ≡ 1
once c =
    λ is. ap (λ (s : StoreState). count_of s.rows c.args.child.0) c.self.view_is
    ∙ c.requires.once (ap (λ (s : StoreState). is_directory_in s.nodes c.args.child.0) (sym c.self.view_is) ∙ is)

pub take-requires : goal.take-requires
take-requires c =
    let at = (goal.at.take-requires c).After-remove in
    may_fall c.self.inside.nodes c.self.inside.counts c.self.inside.rows c.self.invariant c.args.directory c.args.name.now c.args.child.0
    c.is_directory-is_directory.result
    (some at) c.is_directory-is_directory.ensures

pub invariant_of-self : goal.invariant_of-self
invariant_of-self c =
    let at = (goal.at.invariant_of-self c).After-remove in
    IsStored-removed c.self.inside.nodes c.self.inside.counts c.self.inside.rows c.self.invariant c.args.directory c.args.name.now c.args.child.0
    c.take.new.self c.remove.new.self c.remove.ensures.rows c.remove.ensures.places c.remove.ensures.few
    (c.take.ensures.counted c.self.inside.rows.rows c.self.inside.nodes.nodes c.args.name.now c.self.invariant.counted
    (some at) c.is_directory-is_directory.ensures (λ is. once at (sym c.is_directory-is_directory.ensures ∙ is)))
    (c.take.ensures.wide c.self.inside.nodes.places c.self.invariant.wide)
