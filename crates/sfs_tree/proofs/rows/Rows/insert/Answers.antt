use Rattle.std.proofs.Common.{◌≡◌, ◌+◌, ◌*◌, ◌/◌, ◌<◌, ◌≤◌, ℕ, List, length, set, None, sym, ap, subst, ◌∙◌, arith}
use Rattle.std.specs.FinMap.{get, insert, len}
use Rattle.sfs_base.specs.Name.{bucket}
use Rattle.sfs_tree.specs.RowsState.{RowsState}
use Rattle.tree_laws.specs.Tree.{bucket_rows}
use Rattle.tree_laws.specs.Buckets.{Bucket, joined, bucket_at, IsBuilt}
use Rattle.tree_laws.proofs.Names.{bucket_rows-joined}
use Rattle.tree_laws.proofs.Joined.{bucket_small, get-joined, IsPlaced-insert, joined-insert}
use Rattle.sfs_tree.proofs.JoinedChanged.{IsBuilt-set, len-built}
use Rattle.sfs_tree.proofs.rows.Rows.insert.Goals as goal
use Rattle.sfs_tree.proofs.rows.Rows.insert.Goals.{In_ok-insert_at}

-- the bucket of the name has no such row, and room
absent : (ms : List Bucket) (s : RowsState) (d : ℕ) (name : List ℕ) → IsBuilt ms → joined ms ≡ s.rows → get s.rows (d, name) ≡ None
    → get (bucket_at ms (8 * d + bucket name)) name ≡ None
absent ms s d name h is none = sym (get-joined ms d name h.rows) ∙ ap (λ m. get m (d, name)) is ∙ none

room : (ms : List Bucket) (s : RowsState) (d : ℕ) (name : List ℕ) → IsBuilt ms → joined ms ≡ s.rows → len (bucket_rows d (bucket name) s.rows) < 4096
    → len (bucket_at ms (8 * d + bucket name)) < 4096
room ms s d name h is few =
    subst (λ m. len m < 4096) (ap (bucket_rows d (bucket name)) (sym is) ∙ bucket_rows-joined ms d (bucket name) (bucket_small name) h.rows) few

within : (ms : List Bucket) (s : RowsState) (d : ℕ) (name : List ℕ) → IsBuilt ms → length ms / 8 ≡ s.places → d < s.places → 8 * d + bucket name < length ms
within ms s d name h is lt = let b = bucket_small name in let e = h.eight in omega arith

rows_is : (c : In_ok-insert_at) → joined c.self.inside.buckets.items ≡ c.args.self.now.rows
rows_is c = ap (λ (s : RowsState). s.rows) c.self.view_is

places_is : (c : In_ok-insert_at) → length c.self.inside.buckets.items / 8 ≡ c.args.self.now.places
places_is c = ap (λ (s : RowsState). s.places) c.self.view_is

-- the buckets after the call
after : (c : In_ok-insert_at)
    → c.insert_at.new.buckets.items
    ≡ set c.self.inside.buckets.items (8 * c.args.directory + bucket c.args.name)
    (insert (bucket_at c.self.inside.buckets.items (8 * c.args.directory + bucket c.args.name)) c.args.name c.args.child.0)
after c =
    c.in_ok-insert_at.ensures.ok
    ∙ ap (λ b. set c.self.inside.buckets.items (8 * c.args.directory + b)
    (insert (bucket_at c.self.inside.buckets.items (8 * c.args.directory + b)) c.args.name c.args.child.0))
    c.bucket_of.ensures

built : (c : In_ok-insert_at) → IsBuilt c.insert_at.new.buckets.items
built c =
    let ms = c.self.inside.buckets.items in
    let s = c.args.self.now in
    let small = bucket_small c.args.name in
    subst IsBuilt (sym (after c))
    (IsBuilt-set ms _ _ c.self.invariant
    (IsPlaced-insert ms (8 * c.args.directory + bucket c.args.name) c.args.name c.args.child.0 c.self.invariant.rows
    (within ms s c.args.directory c.args.name c.self.invariant (places_is c) c.requires.place) (omega arith)
    (absent ms s c.args.directory c.args.name c.self.invariant (rows_is c) c.requires.absent)
    (room ms s c.args.directory c.args.name c.self.invariant (rows_is c) c.requires.room)))

pub insert_at-requires-clause-absent : goal.insert_at-requires-clause-absent
insert_at-requires-clause-absent c =
    ap (λ b. get (bucket_at c.self.inside.buckets.items (8 * c.args.directory + b)) c.args.name) c.bucket_of.ensures
    ∙ absent c.self.inside.buckets.items c.args.self.now c.args.directory c.args.name c.self.invariant
    (ap (λ (s : RowsState). s.rows) c.self.view_is) c.requires.absent

pub returns-in_err-insert_at-clause-few : goal.returns-in_err-insert_at-clause-few
returns-in_err-insert_at-clause-few c =
    subst (λ ms. len (joined ms) ≤ 32768 * (length ms / 8)) (sym c.in_err-insert_at.ensures.err) (len-built c.self.inside.buckets.items c.self.invariant)

pub invariant_of-self-2 : goal.invariant_of-self-2
invariant_of-self-2 c = built (goal.at.invariant_of-self-2 c).In_ok-insert_at

pub returns-clause-ok : goal.returns-clause-ok
returns-clause-ok c =
    let at = (goal.at.returns-clause-ok c).In_ok-insert_at in
    let ms = c.self.inside.buckets.items in
    let s = c.args.self.now in
    ap joined (after at)
    ∙ joined-insert ms c.args.directory c.args.name c.args.child.0 c.self.invariant.rows
    (within ms s c.args.directory c.args.name c.self.invariant (places_is at) c.requires.place)
    (absent ms s c.args.directory c.args.name c.self.invariant (rows_is at) c.requires.absent)
    (room ms s c.args.directory c.args.name c.self.invariant (rows_is at) c.requires.room)
    ∙ ap (λ m. insert m (c.args.directory, c.args.name) c.args.child.0) (rows_is at)

pub returns-clause-few : goal.returns-clause-few
returns-clause-few c = len-built c.insert_at.new.buckets.items (built (goal.at.returns-clause-few c).In_ok-insert_at)
