use Rattle.std.proofs.Common.{◌≡◌, ◌≢◌, ◌<◌, true, IsSome, Some, None, sym, ap, subst, ◌∙◌}
use Rattle.std.specs.FinMap.{get, insert, remove}
use Rattle.tree_laws.specs.Order.{Key}
use Rattle.tree_laws.specs.Tree.{count_of}
use Rattle.sfs_tree.specs.StoreState.{StoreState}
use Rattle.sfs_tree.specs.Counts.{is_directory_in, IsCounted}
use Rattle.tree_laws.proofs.Counting.{get_other-remove}
use Rattle.sfs_tree.proofs.StoreKept.{IsStored-row, may_fall, has_place}
use Rattle.sfs_tree.proofs.Moved.{apart, still_some, without, IsStored-without, may_rise_again}
use Rattle.tree_laws.proofs.Swapped.{swapped}
use Rattle.sfs_tree.proofs.store.Store.move_row.Goals as goal
use Rattle.sfs_tree.proofs.store.Store.move_row.Goals.{In_ok-insert, After-take}

some : (c : In_ok-insert) → get c.self.inside.rows.rows (c.args.directory, c.args.name.now) ≡ Some c.args.child.0
some c = ap (λ (s : StoreState). get s.rows (c.args.directory, c.args.name.now)) c.self.view_is ∙ c.requires.row

none : (c : In_ok-insert) → get c.self.inside.rows.rows (c.args.to_directory, c.args.to_name) ≡ None
none c = ap (λ (s : StoreState). get s.rows (c.args.to_directory, c.args.to_name)) c.self.view_is ∙ c.requires.absent

two : (c : In_ok-insert) → ◌≢◌ {A = Key} (c.args.directory, c.args.name.now) (c.args.to_directory, c.args.to_name)
two c = apart c.self.inside.rows.rows (c.args.directory, c.args.name.now) (c.args.to_directory, c.args.to_name) c.args.child.0 (some c) (none c)

once : (c : In_ok-insert) → is_directory_in c.self.inside.nodes.nodes c.args.child.0 ≡ true → count_of c.self.inside.rows.rows c.args.child.0 ≡ 1
once c =
    λ is. ap (λ (s : StoreState). count_of s.rows c.args.child.0) c.self.view_is
    ∙ c.requires.once (ap (λ (s : StoreState). is_directory_in s.nodes c.args.child.0) (sym c.self.view_is) ∙ is)

lt : (c : In_ok-insert) → c.args.to_directory < c.self.inside.nodes.places
lt c =
    has_place c.self.inside.nodes c.self.inside.counts c.self.inside.rows c.args.self.now c.args.to_directory c.self.invariant c.self.view_is
    c.requires.directory

pub remove-requires : goal.remove-requires
remove-requires c =
    let at = (goal.at.remove-requires c).In_ok-insert in
    subst (λ rows. IsSome (get rows (c.args.directory, c.args.name.now))) (sym c.in_ok-insert.ensures.ok)
    (still_some c.self.inside.rows.rows (c.args.directory, c.args.name.now) (c.args.to_directory, c.args.to_name) c.args.child.0 c.args.child.0 (some at)
    (two at))

pub take-requires : goal.take-requires
take-requires c =
    let at = (goal.at.take-requires c).In_ok-insert in
    may_fall c.self.inside.nodes c.self.inside.counts c.self.inside.rows c.self.invariant c.args.directory c.args.name.now c.args.child.0
    c.is_directory-is_directory.result
    (some at) c.is_directory-is_directory.ensures

pub add-requires : goal.add-requires
add-requires c =
    let at = (goal.at.add-requires c).In_ok-insert in
    may_rise_again c.self.inside.nodes c.self.inside.counts c.self.inside.rows c.self.invariant c.args.directory c.args.name.now c.args.child.0
    (some at) c.take.new.self
    (c.take.ensures.counted c.self.inside.rows.rows c.self.inside.nodes.nodes c.args.name.now c.self.invariant.counted
    (some at) c.is_directory-is_directory.ensures (λ is. once at (sym c.is_directory-is_directory.ensures ∙ is)))
    (c.take.ensures.wide c.self.inside.nodes.places c.self.invariant.wide) c.args.to_directory (lt at)

pub invariant_of-self-2 : goal.invariant_of-self-2
invariant_of-self-2 c =
    let at = (goal.at.invariant_of-self-2 c).In_ok-insert in
    let n = c.self.inside.nodes in
    let k : Key = (c.args.directory, c.args.name.now) in
    let to : Key = (c.args.to_directory, c.args.to_name) in
    let counted : IsCounted (remove c.self.inside.rows.rows k) n.nodes c.take.new.self =
    c.take.ensures.counted c.self.inside.rows.rows n.nodes c.args.name.now c.self.invariant.counted (some at) c.is_directory-is_directory.ensures
    (λ is. once at (sym c.is_directory-is_directory.ensures ∙ is)) in
    let gone =
    IsStored-without n c.self.inside.counts c.self.inside.rows c.self.invariant c.args.directory c.args.name.now c.args.child.0
    (some at) c.take.new.self counted (c.take.ensures.wide n.places c.self.invariant.wide) in
    let none_left : get (remove c.self.inside.rows.rows k) to ≡ None = get_other-remove c.self.inside.rows.rows k to (λ same. two at (sym same)) ∙ none at in
    IsStored-row n c.take.new.self
    (without n c.self.inside.counts c.self.inside.rows c.self.invariant c.args.directory c.args.name.now c.args.child.0 (some at)) gone c.args.to_directory
    c.args.to_name c.args.child.0 c.add.new.self c.remove.new.self
    (c.remove.ensures.rows ∙ ap (λ rows. remove rows k) c.in_ok-insert.ensures.ok ∙ swapped c.self.inside.rows.rows k to c.args.child.0 (two at))
    (c.remove.ensures.places ∙ c.insert.ensures.places) c.remove.ensures.few
    (c.add.ensures.counted (remove c.self.inside.rows.rows k) n.nodes c.args.to_name counted none_left c.is_directory-is_directory.ensures)
    (c.add.ensures.wide n.places (c.take.ensures.wide n.places c.self.invariant.wide)) (lt at)
    (c.self.invariant.children c.args.directory c.args.name.now c.args.child.0 (some at))

pub returns-clause-ok : goal.returns-clause-ok
returns-clause-ok c =
    let at = (goal.at.returns-clause-ok c).In_ok-insert in
    let k : Key = (c.args.directory, c.args.name.now) in
    let to : Key = (c.args.to_directory, c.args.to_name) in
    c.remove.ensures.rows ∙ ap (λ rows. remove rows k) c.in_ok-insert.ensures.ok ∙ swapped c.self.inside.rows.rows k to c.args.child.0 (two at)
    ∙ ap (λ (s : StoreState). insert (remove s.rows k) to c.args.child.0) c.self.view_is
