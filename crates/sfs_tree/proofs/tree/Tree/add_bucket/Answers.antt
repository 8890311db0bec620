use Rattle.std.proofs.Common.{◌≡◌, ℕ, List, map, IsSome, IsTrue, OnOk, Ok, Err, sym, ap, subst, ◌∙◌}
use Rattle.std.specs.FinMap.{get, find, entries_sorted, is_sorted, get-entries, get-empty}
use Rattle.tree_laws.specs.Order.{name_cmp}
use Rattle.tree_laws.specs.Tree.{bucket_rows, TreeState}
use Rattle.tree_laws.specs.NameRow.{name_and_child}
use Rattle.std.specs.Option.{option_or}
use Rattle.tree_laws.proofs.RowsByName.{was_true}
use Rattle.sfs_tree.proofs.tree.Tree.add_bucket.Goals as goal
use Rattle.sfs_tree.proofs.tree.Tree.add_bucket.Goals.{After-rows}

pub add_rows-requires-clause-sorted : goal.add_rows-requires-clause-sorted
add_rows-requires-clause-sorted c = subst (λ es. IsTrue (is_sorted name_cmp es)) (sym c.rows.ensures) (was_true _ (entries_sorted c.in-Some.rows.now))

-- what a bucket's rows have, the directory has in that bucket
found : (c : After-rows) (name : List ℕ)
    → find name_cmp name (map name_and_child c.rows.result.now) ≡ get (bucket_rows c.args.dir.0 c.args.number c.args.self.now.rows) name
found c name =
    ap (find name_cmp name) c.rows.ensures
    ∙ sym (get-entries c.in-Some.rows.now name)
    ∙ ap (λ m. get m name) (c.in-Some.ensures.found ∙ ap (λ (t : TreeState). bucket_rows c.args.dir.0 c.args.number t.rows) c.self.view_is)

pub add_rows-requires-clause-apart : goal.add_rows-requires-clause-apart
add_rows-requires-clause-apart c = λ name some. c.requires.apart name (subst IsSome (found (goal.at.add_rows-requires-clause-apart c).After-rows name) some)

pub returns-in-Some : goal.returns-in-Some
returns-in-Some c =
    let found = found (goal.at.returns-in-Some c).After-rows in
    elim c.add_rows.result as (λ r. OnOk r
    ((name : List ℕ) → get c.add_rows.new.self name ≡ option_or (find name_cmp name (map name_and_child c.rows.result.now)) (get c.args.names.now name))
    → OnOk r
    ((name : List ℕ)
    → get c.add_rows.new.self name
    ≡ option_or (get (bucket_rows c.args.dir.0 c.args.number c.args.self.now.rows) name) (get c.args.names.now name))) [
      | Ok u ↦ λ h name. h name ∙ ap (λ o. option_or o (get c.args.names.now name)) (found name)
      | Err e ↦ λ _. tt
    ] c.add_rows.ensures.ok

pub returns-in-None : goal.returns-in-None
returns-in-None c = λ name.
    ap (λ o. option_or o (get c.args.names.now name))
    (sym (get-empty name_cmp name)
    ∙ ap (λ m. get m name) (sym c.in-None.ensures.none ∙ ap (λ (t : TreeState). bucket_rows c.args.dir.0 c.args.number t.rows) c.self.view_is))
