use Rattle.std.proofs.Common.{◌≡◌, ◌<◌, IsSome, None, sym, ap, subst, ◌∙◌}
use Rattle.std.specs.FinMap.{get}
use Rattle.sfs_tree.specs.StoreState.{StoreState}
use Rattle.sfs_tree.proofs.StoreKept.{IsStored-row, may_rise, has_place}
use Rattle.sfs_tree.proofs.store.Store.put_row.Goals as goal
use Rattle.sfs_tree.proofs.store.Store.put_row.Goals.{In_ok-insert}

lt : (c : In_ok-insert) → c.args.directory < c.self.inside.nodes.places
lt c =
    has_place c.self.inside.nodes c.self.inside.counts c.self.inside.rows c.args.self.now c.args.directory c.self.invariant c.self.view_is c.requires.directory

some : (c : In_ok-insert) → IsSome (get c.self.inside.nodes.nodes c.args.child.0)
some c = subst (λ (s : StoreState). IsSome (get s.nodes c.args.child.0)) (sym c.self.view_is) c.requires.child

none : (c : In_ok-insert) → get c.self.inside.rows.rows (c.args.directory, c.args.name) ≡ None
none c = ap (λ (s : StoreState). get s.rows (c.args.directory, c.args.name)) c.self.view_is ∙ c.requires.absent

pub add-requires : goal.add-requires
add-requires c =
    let at = (goal.at.add-requires c).In_ok-insert in
    may_rise c.self.inside.nodes c.self.inside.counts c.self.inside.rows c.self.invariant c.args.directory c.args.name c.args.child.0 c.insert.new.self
    c.in_ok-insert.ensures.ok c.insert.ensures.places c.insert.ensures.few
    (none at) (lt at) (c.self.invariant.within c.args.child.0 (some at))

pub invariant_of-self-2 : goal.invariant_of-self-2
invariant_of-self-2 c =
    let at = (goal.at.invariant_of-self-2 c).In_ok-insert in
    IsStored-row c.self.inside.nodes c.self.inside.counts c.self.inside.rows c.self.invariant c.args.directory c.args.name c.args.child.0 c.add.new.self
    c.insert.new.self c.in_ok-insert.ensures.ok c.insert.ensures.places c.insert.ensures.few
    (c.add.ensures.counted c.self.inside.rows.rows c.self.inside.nodes.nodes c.args.name c.self.invariant.counted
    (none at) c.is_directory-is_directory.ensures)
    (c.add.ensures.wide c.self.inside.nodes.places c.self.invariant.wide) (lt at) (some at)
