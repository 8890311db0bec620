use Rattle.std.proofs.Common.{◌≡◌, ◌≢◌, true, IsSome, Some, None, sym, ap, subst, ◌∙◌}
use Rattle.std.specs.FinMap.{get, insert, remove}
use Rattle.sfs_tree.specs.declared.counts.Counts.{Counts}
use Rattle.tree_laws.specs.Order.{Key}
use Rattle.tree_laws.specs.Tree.{count_of}
use Rattle.sfs_tree.specs.StoreState.{StoreState}
use Rattle.sfs_tree.specs.Counts.{is_directory_in, IsCounted, IsWide}
use Rattle.sfs_tree.specs.Store.{IsStored}
use Rattle.tree_laws.proofs.Counting.{get_other-remove, none_removed}
use Rattle.sfs_tree.proofs.StoreKept.{IsStored-row, may_fall}
use Rattle.sfs_tree.proofs.Moved.{apart_by_child, still_some, once_still, IsStored-without, may_rise_again}
use Rattle.tree_laws.proofs.Swapped.{swapped, replaced}
use Rattle.sfs_tree.proofs.store.Store.move_onto.Goals as goal
use Rattle.sfs_tree.proofs.store.Store.move_onto.Goals.{After-replace, After-take, After-take-2}

some : (c : After-replace) → get c.self.inside.rows.rows (c.args.directory, c.args.name.now) ≡ Some c.args.child.0
some c = ap (λ (s : StoreState). get s.rows (c.args.directory, c.args.name.now)) c.self.view_is ∙ c.requires.row

other : (c : After-replace) → get c.self.inside.rows.rows (c.args.to_directory, c.args.to_name.now) ≡ Some c.args.there.0
other c = ap (λ (s : StoreState). get s.rows (c.args.to_directory, c.args.to_name.now)) c.self.view_is ∙ c.requires.other_row

two : (c : After-replace) → ◌≢◌ {A = Key} (c.args.directory, c.args.name.now) (c.args.to_directory, c.args.to_name.now)
two c =
    apart_by_child c.self.inside.rows.rows (c.args.directory, c.args.name.now) (c.args.to_directory, c.args.to_name.now) c.args.child.0 c.args.there.0 (some c)
    (other c) c.requires.apart

once : (c : After-replace) → is_directory_in c.self.inside.nodes.nodes c.args.child.0 ≡ true → count_of c.self.inside.rows.rows c.args.child.0 ≡ 1
once c =
    λ is. ap (λ (s : StoreState). count_of s.rows c.args.child.0) c.self.view_is
    ∙ c.requires.once (ap (λ (s : StoreState). is_directory_in s.nodes c.args.child.0) (sym c.self.view_is) ∙ is)

other_once : (c : After-replace) → is_directory_in c.self.inside.nodes.nodes c.args.there.0 ≡ true → count_of c.self.inside.rows.rows c.args.there.0 ≡ 1
other_once c =
    λ is. ap (λ (s : StoreState). count_of s.rows c.args.there.0) c.self.view_is
    ∙ c.requires.other_once (ap (λ (s : StoreState). is_directory_in s.nodes c.args.there.0) (sym c.self.view_is) ∙ is)

-- the row that moves is still there once the other is gone
still : (c : After-replace)
    → get (remove c.self.inside.rows.rows (c.args.to_directory, c.args.to_name.now)) (c.args.directory, c.args.name.now) ≡ Some c.args.child.0
still c = get_other-remove c.self.inside.rows.rows (c.args.to_directory, c.args.to_name.now) (c.args.directory, c.args.name.now) (two c) ∙ some c

still_once : (c : After-replace) → is_directory_in c.self.inside.nodes.nodes c.args.child.0 ≡ true
    → count_of (remove c.self.inside.rows.rows (c.args.to_directory, c.args.to_name.now)) c.args.child.0 ≡ 1
still_once c =
    λ is. once_still c.self.inside.rows.rows (c.args.to_directory, c.args.to_name.now) c.args.child.0 c.args.there.0 (other c) c.requires.apart (once c is)

-- once the first row is taken
first : (c : After-replace) (d : Counts) → IsCounted (remove c.self.inside.rows.rows (c.args.to_directory, c.args.to_name.now)) c.self.inside.nodes.nodes d
    → IsWide d c.self.inside.nodes.places
    → IsStored c.self.inside.nodes d
    (record { rows = remove c.self.inside.rows.rows (c.args.to_directory, c.args.to_name.now); places = c.self.inside.rows.places })
first c d counted wide =
    IsStored-without c.self.inside.nodes c.self.inside.counts c.self.inside.rows c.self.invariant c.args.to_directory c.args.to_name.now c.args.there.0
    (other c) d counted wide

pub remove-requires : goal.remove-requires
remove-requires c =
    let at = (goal.at.remove-requires c).After-replace in
    subst (λ rows. IsSome (get rows (c.args.directory, c.args.name.now))) (sym c.replace.ensures.rows)
    (still_some c.self.inside.rows.rows (c.args.directory, c.args.name.now) (c.args.to_directory, c.args.to_name.now) c.args.child.0 c.args.child.0
    (some at) (two at))

pub take-requires : goal.take-requires
take-requires c =
    let at = (goal.at.take-requires c).After-replace in
    may_fall c.self.inside.nodes c.self.inside.counts c.self.inside.rows c.self.invariant c.args.to_directory c.args.to_name.now c.args.there.0
    c.is_directory-was_directory.result
    (other at) c.is_directory-was_directory.ensures

pub take-requires-2 : goal.take-requires-2
take-requires-2 c =
    let at = (goal.at.take-requires-2 c).After-replace in
    let counted =
    c.take.ensures.counted c.self.inside.rows.rows c.self.inside.nodes.nodes c.args.to_name.now c.self.invariant.counted
    (other at) c.is_directory-was_directory.ensures (λ is. other_once at (sym c.is_directory-was_directory.ensures ∙ is)) in
    let wide = c.take.ensures.wide c.self.inside.nodes.places c.self.invariant.wide in
    may_fall c.self.inside.nodes c.take.new.self _
    (first at c.take.new.self counted wide) c.args.directory c.args.name.now c.args.child.0 c.is_directory-is_directory.result
    (still at) c.is_directory-is_directory.ensures

pub add-requires : goal.add-requires
add-requires c =
    let at = (goal.at.add-requires c).After-replace in
    let counted =
    c.take.ensures.counted c.self.inside.rows.rows c.self.inside.nodes.nodes c.args.to_name.now c.self.invariant.counted
    (other at) c.is_directory-was_directory.ensures (λ is. other_once at (sym c.is_directory-was_directory.ensures ∙ is)) in
    let wide = c.take.ensures.wide c.self.inside.nodes.places c.self.invariant.wide in
    may_rise_again c.self.inside.nodes c.take.new.self _ (first at c.take.new.self counted wide) c.args.directory c.args.name.now c.args.child.0
    (still at) c.take-2.new.self
    (c.take-2.ensures.counted _ c.self.inside.nodes.nodes c.args.name.now counted (still at) c.is_directory-is_directory.ensures
    (λ is. still_once at (sym c.is_directory-is_directory.ensures ∙ is)))
    (c.take-2.ensures.wide c.self.inside.nodes.places wide) c.args.to_directory
    (c.self.invariant.placed c.args.to_directory c.args.to_name.now c.args.there.0 (other at))

pub invariant_of-self : goal.invariant_of-self
invariant_of-self c =
    let at = (goal.at.invariant_of-self c).After-replace in
    let n = c.self.inside.nodes in
    let rows = c.self.inside.rows.rows in
    let k : Key = (c.args.directory, c.args.name.now) in
    let to : Key = (c.args.to_directory, c.args.to_name.now) in
    let counted : IsCounted (remove rows to) n.nodes c.take.new.self =
    c.take.ensures.counted rows n.nodes c.args.to_name.now c.self.invariant.counted (other at) c.is_directory-was_directory.ensures
    (λ is. other_once at (sym c.is_directory-was_directory.ensures ∙ is)) in
    let wide = c.take.ensures.wide n.places c.self.invariant.wide in
    let counted_then : IsCounted (remove (remove rows to) k) n.nodes c.take-2.new.self =
    c.take-2.ensures.counted (remove rows to) n.nodes c.args.name.now counted (still at) c.is_directory-is_directory.ensures
    (λ is. still_once at (sym c.is_directory-is_directory.ensures ∙ is)) in
    let wide_then = c.take-2.ensures.wide n.places wide in
    let gone =
    IsStored-without n c.take.new.self _ (first at c.take.new.self counted wide) c.args.directory c.args.name.now c.args.child.0
    (still at) c.take-2.new.self counted_then wide_then in
    let none_left : get (remove (remove rows to) k) to ≡ None = get_other-remove (remove rows to) k to (λ same. two at (sym same)) ∙ none_removed rows to in
    IsStored-row n c.take-2.new.self _ gone c.args.to_directory c.args.to_name.now c.args.child.0 c.add.new.self c.remove.new.self
    (c.remove.ensures.rows ∙ ap (λ rows. remove rows k) c.replace.ensures.rows ∙ swapped rows k to c.args.child.0 (two at)
    ∙ sym (replaced rows k to c.args.child.0))
    (c.remove.ensures.places ∙ c.replace.ensures.places) c.remove.ensures.few
    (c.add.ensures.counted (remove (remove rows to) k) n.nodes c.args.to_name.now counted_then none_left c.is_directory-is_directory.ensures)
    (c.add.ensures.wide n.places wide_then) (c.self.invariant.placed c.args.to_directory c.args.to_name.now c.args.there.0 (other at))
    (c.self.invariant.children c.args.directory c.args.name.now c.args.child.0 (some at))

pub returns-clause-rows : goal.returns-clause-rows
returns-clause-rows c =
    let at = (goal.at.returns-clause-rows c).After-replace in
    let k : Key = (c.args.directory, c.args.name.now) in
    let to : Key = (c.args.to_directory, c.args.to_name.now) in
    c.remove.ensures.rows ∙ ap (λ rows. remove rows k) c.replace.ensures.rows ∙ swapped c.self.inside.rows.rows k to c.args.child.0 (two at)
    ∙ ap (λ (s : StoreState). insert (remove s.rows k) to c.args.child.0) c.self.view_is
