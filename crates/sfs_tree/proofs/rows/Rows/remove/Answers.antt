use Rattle.std.proofs.Common.{◌≡◌, ◌+◌, ◌*◌, ◌<◌, set, IsSome, sym, ap, subst, ◌∙◌, arith, vec_len}
use Rattle.std.specs.FinMap.{get, remove}
use Rattle.sfs_base.specs.Name.{bucket}
use Rattle.sfs_tree.specs.RowsState.{RowsState}
use Rattle.tree_laws.specs.Buckets.{joined, bucket_at, IsBuilt}
use Rattle.sfs_tree.proofs.JoinedChanged.{row_stands, row_within, row_there, IsPlaced-removed, joined-removed, IsBuilt-set, len-built}
use Rattle.sfs_tree.proofs.rows.Rows.remove.Goals as goal
use Rattle.sfs_tree.proofs.rows.Rows.remove.Goals.{After-remove_at}

pub remove_at-requires-clause-within : goal.remove_at-requires-clause-within
remove_at-requires-clause-within c =
    let some = row_stands c.args.self.now (c.args.directory, c.args.name.now) c.self.view_is c.requires in
    subst (λ b. 8 * c.args.directory + b < vec_len c.self.inside.buckets) (sym c.bucket_of.ensures)
    (omega (arith, c.self.inside.buckets.ok.0, row_within c.self.inside.buckets.items c.args.directory c.args.name.now c.self.invariant.rows some))

pub remove_at-requires-clause-present : goal.remove_at-requires-clause-present
remove_at-requires-clause-present c =
    let some = row_stands c.args.self.now (c.args.directory, c.args.name.now) c.self.view_is c.requires in
    subst (λ b. IsSome (get (bucket_at c.self.inside.buckets.items (8 * c.args.directory + b)) c.args.name.now)) (sym c.bucket_of.ensures)
    (row_there c.self.inside.buckets.items c.args.directory c.args.name.now c.self.invariant.rows some)

-- the buckets after the call
after : (c : After-remove_at)
    → c.remove_at.new.buckets.items
    ≡ set c.self.inside.buckets.items (8 * c.args.directory + bucket c.args.name.now)
    (remove (bucket_at c.self.inside.buckets.items (8 * c.args.directory + bucket c.args.name.now)) c.args.name.now)
after c =
    c.remove_at.ensures
    ∙ ap (λ b. set c.self.inside.buckets.items (8 * c.args.directory + b)
    (remove (bucket_at c.self.inside.buckets.items (8 * c.args.directory + b)) c.args.name.now))
    c.bucket_of.ensures

there : (c : After-remove_at) → IsSome (get (joined c.self.inside.buckets.items) (c.args.directory, c.args.name.now))
there c = subst (λ (s : RowsState). IsSome (get s.rows (c.args.directory, c.args.name.now))) (sym c.self.view_is) c.requires

built : (c : After-remove_at) → IsBuilt c.remove_at.new.buckets.items
built c =
    subst IsBuilt (sym (after c))
    (IsBuilt-set c.self.inside.buckets.items _ _ c.self.invariant
    (IsPlaced-removed c.self.inside.buckets.items c.args.directory c.args.name.now c.self.invariant.rows (there c)))

pub invariant_of-self : goal.invariant_of-self
invariant_of-self c = built (goal.at.invariant_of-self c).After-remove_at

pub returns-clause-rows : goal.returns-clause-rows
returns-clause-rows c =
    let at = (goal.at.returns-clause-rows c).After-remove_at in
    ap joined (after at)
    ∙ joined-removed c.self.inside.buckets.items c.args.directory c.args.name.now c.self.invariant.rows (there at)
    ∙ ap (λ (s : RowsState). remove s.rows (c.args.directory, c.args.name.now)) c.self.view_is

pub returns-clause-few : goal.returns-clause-few
returns-clause-few c = len-built c.remove_at.new.buckets.items (built (goal.at.returns-clause-few c).After-remove_at)
