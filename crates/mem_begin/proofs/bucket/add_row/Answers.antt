use Rattle.std.proofs.Common.{◌≡◌, List, ℕ, sym, ap, ◌∙◌}
use Rattle.std.specs.FinMap.{FinMap, get, insert}
use Rattle.tree_laws.specs.Order.{name_cmp}
use Rattle.mem_values.specs.Stands.{if_directory}
use Rattle.mem_begin.proofs.Rows.{directory_more, file_more}
use Rattle.mem_begin.proofs.bucket.add_row.Goals as goal

pub returns-in_ok-insert-2-clause-directories : goal.returns-in_ok-insert-2-clause-directories
returns-in_ok-insert-2-clause-directories c = λ other.
    let tree = c.args.tree.now in
    let before = c.args.bucket.now in
    let rows : c.insert.new.self ≡ insert before.rows c.args.name.now c.args.child.0 = c.in_ok-insert.ensures.ok
    ∙ ap (λ (n : List ℕ). insert before.rows n c.args.child.0) c.in_ok-copy.ensures.ok in
    let directories : c.insert-then-is_directory.new.self ≡ insert before.directories c.args.name.now c.args.child.0 =
    c.in_ok-insert-2.ensures.ok ∙ ap (λ (n : List ℕ). insert before.directories n c.args.child.0) c.in_ok-copy-2.ensures.ok in
    ap (λ (m : FinMap name_cmp ℕ). get m other) directories
    ∙ directory_more tree before.rows before.directories c.args.name.now c.args.child.0
    (sym c.is_directory.ensures ∙ c.if-is_directory.true) c.requires.directories other
    ∙ ap (λ (m : FinMap name_cmp ℕ). if_directory tree (get m other)) (sym rows)

pub returns-else-is_directory-clause-directories : goal.returns-else-is_directory-clause-directories
returns-else-is_directory-clause-directories c = λ other.
    let tree = c.args.tree.now in
    let before = c.args.bucket.now in
    let rows : c.insert.new.self ≡ insert before.rows c.args.name.now c.args.child.0 = c.in_ok-insert.ensures.ok
    ∙ ap (λ (n : List ℕ). insert before.rows n c.args.child.0) c.in_ok-copy.ensures.ok in
    file_more tree before.rows before.directories c.args.name.now c.args.child.0
    (sym c.is_directory.ensures ∙ c.if-is_directory.false) c.requires.new c.requires.directories other
    ∙ ap (λ (m : FinMap name_cmp ℕ). if_directory tree (get m other)) (sym rows)
