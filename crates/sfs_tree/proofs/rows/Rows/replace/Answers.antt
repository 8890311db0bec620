use Rattle.std.proofs.Common.{◌≡◌, ◌+◌, ◌*◌, ◌<◌, set, IsSome, sym, ap, subst, ◌∙◌, arith, vec_len}
use Rattle.std.specs.FinMap.{get, insert}
use Rattle.sfs_base.specs.Name.{bucket}
use Rattle.sfs_tree.specs.RowsState.{RowsState}
use Rattle.tree_laws.specs.Buckets.{joined, bucket_at, IsBuilt}
use Rattle.sfs_tree.proofs.JoinedChanged.{row_stands, row_within, row_there, IsPlaced-replaced, joined-replaced, IsBuilt-set, len-built}
use Rattle.sfs_tree.proofs.rows.Rows.replace.Goals as goal
use Rattle.sfs_tree.proofs.rows.Rows.replace.Goals.{After-replace_at}

pub replace_at-requires-clause-within : goal.replace_at-requires-clause-within
replace_at-requires-clause-within c =
    let some = row_stands c.args.self.now (c.args.directory, c.args.name.now) c.self.view_is c.requires in
    subst (λ b. 8 * c.args.directory + b < vec_len c.self.inside.buckets) (sym c.bucket_of.ensures)
    (omega (arith, c.self.inside.buckets.ok.0, row_within c.self.inside.buckets.items c.args.directory c.args.name.now c.self.invariant.rows some))

pub replace_at-requires-clause-present : goal.replace_at-requires-clause-present
replace_at-requires-clause-present c =
    let some = row_stands c.args.self.now (c.args.directory, c.args.name.now) c.self.view_is c.requires in
    subst (λ b. IsSome (get (bucket_at c.self.inside.buckets.items (8 * c.args.directory + b)) c.args.name.now)) (sym c.bucket_of.ensures)
    (row_there c.self.inside.buckets.items c.args.directory c.args.name.now c.self.invariant.rows some)

-- the buckets after the call
after : (c : After-replace_at)
    → c.replace_at.new.buckets.items
    ≡ set c.self.inside.buckets.items (8 * c.args.directory + bucket c.args.name.now)
    (insert (bucket_at c.self.inside.buckets.items (8 * c.args.directory + bucket c.args.name.now)) c.args.name.now c.args.child.0)
after c =
    c.replace_at.ensures
    ∙ ap (λ b. set c.self.inside.buckets.items (8 * c.args.directory + b)
    (insert (bucket_at c.self.inside.buckets.items (8 * c.args.directory + b)) c.args.name.now c.args.child.0))
    c.bucket_of.ensures

there : (c : After-replace_at) → IsSome (get (joined c.self.inside.buckets.items) (c.args.directory, c.args.name.now))
there c = subst (λ (s : RowsState). IsSome (get s.rows (c.args.directory, c.args.name.now))) (sym c.self.view_is) c.requires

built : (c : After-replace_at) → IsBuilt c.replace_at.new.buckets.items
built c =
    subst IsBuilt (sym (after c))
    (IsBuilt-set c.self.inside.buckets.items _ _ c.self.invariant
    (IsPlaced-replaced c.self.inside.buckets.items c.args.directory c.args.name.now c.self.invariant.rows (there c) c.args.child.0))

pub invariant_of-self : goal.invariant_of-self
invariant_of-self c = built (goal.at.invariant_of-self c).After-replace_at

pub returns-clause-rows : goal.returns-clause-rows
returns-clause-rows c =
    let at = (goal.at.returns-clause-rows c).After-replace_at in
    ap joined (after at)
    ∙ joined-replaced c.self.inside.buckets.items c.args.directory c.args.name.now c.self.invariant.rows (there at) c.args.child.0
    ∙ ap (λ (s : RowsState). insert s.rows (c.args.directory, c.args.name.now) c.args.child.0) c.self.view_is

pub returns-clause-few : goal.returns-clause-few
returns-clause-few c = len-built c.replace_at.new.buckets.items (built (goal.at.returns-clause-few c).After-replace_at)
