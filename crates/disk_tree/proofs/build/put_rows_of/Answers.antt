use Rattle.std.proofs.Common.{◌≡◌, ◌<◌, ℕ, List, IsSome, length, sym, ap, subst, ◌∙◌, arith}
use Rattle.std.specs.FinMap.{FinMap, len, get}
use Rattle.std.specs.List.Sorted.{IsPermutation}
use Rattle.std.proofs.lemmas.List.{get_or_read}
use Rattle.sfs_base.specs.Name.{bucket}
use Rattle.sfs_image.specs.Slot.{Row}
use Rattle.tree_laws.specs.Build.{with_row}
use Rattle.tree_laws.specs.Order.{key_cmp}
use Rattle.tree_laws.specs.Tree.{TreeState, is_directory, row_of, bucket_rows}
use Rattle.disk_tree.specs.Built.{with_entries, entries_to, MayPut}
use Rattle.disk_tree.specs.Reached.{row_at}
use Rattle.disk_tree.specs.Rows.{NO_ROW, rows_of_inode}
use Rattle.disk_tree.proofs.Entries.{first_entries, whole_entries}
use Rattle.disk_tree.proofs.Putting.{put_directory, put_child, put_absent, put_room, put_more}
use Rattle.disk_tree.proofs.RowsCounted.{rows_of_number}
use Rattle.disk_tree.proofs.RowsSorted.{reordered, own_reordered, reordered_may, first_stay, whole_reordered}
use Rattle.disk_tree.proofs.build.put_rows_of.Goals as goal
use Rattle.disk_tree.proofs.build.put_rows_of.Goals.{After-deref-row-items}

-- the rows are those of the directory in another order
moved : (c : After-deref-row-items) → IsPermutation (rows_of_inode c.args.rows.now c.args.directory) c.deref-row-items.result.now
moved c =
    subst (IsPermutation (rows_of_inode c.args.rows.now c.args.directory)) (sym c.deref-row-items.ensures.value)
    (subst (λ (own : List Row). IsPermutation own c.in_ok-sorted.sorted.items)
    (c.as_slice.ensures ∙ rows_of_number c.args.rows.now c.args.directory _ c.requires.within c.index-rows-directory.is) c.in_ok-sorted.ensures.rows)

-- so they are the directory's among rows that may be put too
own_rows : (c : After-deref-row-items)
    → c.deref-row-items.result.now ≡ rows_of_inode (reordered c.args.rows.now c.args.directory c.deref-row-items.result.now) c.args.directory
own_rows c = sym (own_reordered c.args.rows.now c.args.directory c.deref-row-items.result.now c.requires.within (moved c))

may_put : (c : After-deref-row-items) → MayPut c.args.tree.now (reordered c.args.rows.now c.args.directory c.deref-row-items.result.now)
may_put c = reordered_may c.args.rows.now c.args.directory c.deref-row-items.result.now c.requires.within (moved c) c.args.tree.now c.requires.may

pub loop-row-init : goal.loop-row-init
loop-row-init c =
    let all = reordered c.args.rows.now c.args.directory c.deref-row-items.result.now in
    c.requires.start
    ∙ ap (with_entries c.args.tree.now)
    (first_stay c.args.rows.now c.args.directory c.deref-row-items.result.now c.requires.within (moved c) ∙ sym (first_entries all c.args.directory))

pub put_row-requires-clause-directory : goal.put_row-requires-clause-directory
put_row-requires-clause-directory c =
    let at = (goal.at.put_row-requires-clause-directory c).After-deref-row-items in
    let all = reordered c.args.rows.now c.args.directory c.deref-row-items.result.now in
    let own = own_rows at in
    let less : c.loop-row.row-index < length (rows_of_inode all c.args.directory) = omega (arith, ap length own) in
    ap (λ (t : TreeState). is_directory t c.args.directory) c.loop-row.invariant
    ∙ put_directory c.args.tree.now all (may_put at) c.args.directory c.loop-row.row-index less

pub put_row-requires-clause-absent : goal.put_row-requires-clause-absent
put_row-requires-clause-absent c =
    let at = (goal.at.put_row-requires-clause-absent c).After-deref-row-items in
    let all = reordered c.args.rows.now c.args.directory c.deref-row-items.result.now in
    let own = own_rows at in
    let less : c.loop-row.row-index < length (rows_of_inode all c.args.directory) = omega (arith, ap length own) in
    let row =
    get_or_read c.deref-row-items.result.now c.loop-row.row-index _ (omega arith) c.row-item.is NO_ROW
    ∙ ap (λ (rows : List Row). row_at rows c.loop-row.row-index) own in
    let name = c.in_ok-copy.ensures.ok ∙ ap (λ (r : Row). r.name) (c.row.view_is ∙ row) in
    ap (λ (t : TreeState). row_of t c.args.directory c.in_ok-copy.field-0) c.loop-row.invariant
    ∙ ap (λ (n : List ℕ). row_of (with_entries c.args.tree.now (entries_to all c.args.directory c.loop-row.row-index)) c.args.directory n) name
    ∙ put_absent c.args.tree.now all (may_put at) c.args.directory c.loop-row.row-index less

pub put_row-requires-clause-room : goal.put_row-requires-clause-room
put_row-requires-clause-room c =
    let at = (goal.at.put_row-requires-clause-room c).After-deref-row-items in
    let all = reordered c.args.rows.now c.args.directory c.deref-row-items.result.now in
    let own = own_rows at in
    let less : c.loop-row.row-index < length (rows_of_inode all c.args.directory) = omega (arith, ap length own) in
    let row =
    get_or_read c.deref-row-items.result.now c.loop-row.row-index _ (omega arith) c.row-item.is NO_ROW
    ∙ ap (λ (rows : List Row). row_at rows c.loop-row.row-index) own in
    let name = c.in_ok-copy.ensures.ok ∙ ap (λ (r : Row). r.name) (c.row.view_is ∙ row) in
    subst (λ (t : TreeState). len (bucket_rows c.args.directory (bucket c.in_ok-copy.field-0) t.rows) < 4096) (sym c.loop-row.invariant)
    (subst
    (λ (n : List ℕ). len
    (bucket_rows c.args.directory (bucket n) (with_entries c.args.tree.now (entries_to all c.args.directory c.loop-row.row-index)).rows)
    < 4096)
    (sym name)
    (put_room c.args.tree.now all (may_put at) c.args.directory c.loop-row.row-index less))

pub put_row-requires-clause-child : goal.put_row-requires-clause-child
put_row-requires-clause-child c =
    let at = (goal.at.put_row-requires-clause-child c).After-deref-row-items in
    let all = reordered c.args.rows.now c.args.directory c.deref-row-items.result.now in
    let own = own_rows at in
    let less : c.loop-row.row-index < length (rows_of_inode all c.args.directory) = omega (arith, ap length own) in
    let row =
    get_or_read c.deref-row-items.result.now c.loop-row.row-index _ (omega arith) c.row-item.is NO_ROW
    ∙ ap (λ (rows : List Row). row_at rows c.loop-row.row-index) own in
    subst (λ (t : TreeState). IsSome (get t.nodes c.row.inside.inode)) (sym c.loop-row.invariant)
    (subst (λ (r : Row). IsSome (get (with_entries c.args.tree.now (entries_to all c.args.directory c.loop-row.row-index)).nodes r.inode))
    (sym (c.row.view_is ∙ row))
    (put_child c.args.tree.now all (may_put at) c.args.directory c.loop-row.row-index less))

pub loop-row-preserved : goal.loop-row-preserved
loop-row-preserved c =
    let at = (goal.at.loop-row-preserved c).After-deref-row-items in
    let all = reordered c.args.rows.now c.args.directory c.deref-row-items.result.now in
    let own = own_rows at in
    let less : c.loop-row.row-index < length (rows_of_inode all c.args.directory) = omega (arith, ap length own) in
    let row =
    get_or_read c.deref-row-items.result.now c.loop-row.row-index _ (omega arith) c.row-item.is NO_ROW
    ∙ ap (λ (rows : List Row). row_at rows c.loop-row.row-index) own in
    let name = c.in_ok-copy.ensures.ok ∙ ap (λ (r : Row). r.name) (c.row.view_is ∙ row) in
    let inode = ap (λ (r : Row). r.inode) (c.row.view_is ∙ row) in
    c.in_ok-put_row.ensures.ok
    ∙ ap (λ (t : TreeState). with_row t c.args.directory c.in_ok-copy.field-0 c.row.inside.inode) c.loop-row.invariant
    ∙ ap (λ (n : List ℕ). with_row (with_entries c.args.tree.now (entries_to all c.args.directory c.loop-row.row-index)) c.args.directory n c.row.inside.inode)
    name
    ∙ ap (λ (n : ℕ). with_row (with_entries c.args.tree.now (entries_to all c.args.directory c.loop-row.row-index)) c.args.directory
    (row_at (rows_of_inode all c.args.directory) c.loop-row.row-index).name n)
    inode
    ∙ put_more c.args.tree.now all (may_put at) c.args.directory c.loop-row.row-index less

pub returns : goal.returns
returns c =
    let at = (goal.at.returns c).After-deref-row-items in
    let all = reordered c.args.rows.now c.args.directory c.deref-row-items.result.now in
    let own = own_rows at in
    let end : c.loop-row.row-index ≡ length (rows_of_inode all c.args.directory) = omega (arith, ap length own) in
    c.loop-row.invariant ∙ ap (λ (k : ℕ). with_entries c.args.tree.now (entries_to all c.args.directory k)) end
    ∙ ap (with_entries c.args.tree.now) (whole_entries all c.args.directory)
    ∙ ap (λ (rows : FinMap key_cmp ℕ). record c.args.tree.now { rows = rows })
    (whole_reordered c.args.rows.now c.args.directory c.deref-row-items.result.now c.requires.within (moved at) (c.requires.may.own c.args.directory))
