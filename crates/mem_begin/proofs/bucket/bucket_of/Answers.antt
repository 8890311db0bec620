use Rattle.std.proofs.Common.{◌≡◌, ◌≤◌, ℕ, length, take, sym, ap, ◌∙◌, arith}
use Rattle.std.specs.FinMap.{FinMap, entries, from_entries, get, get-empty, insert}
use Rattle.tree_laws.specs.Order.{name_cmp}
use Rattle.tree_laws.specs.NameRow.{number_of}
use Rattle.tree_laws.specs.Tree.{TreeState, bucket_rows}
use Rattle.tree_laws.specs.Lock.{stands_of}
use Rattle.mem_values.specs.declared.bucket.Bucket.{Bucket}
use Rattle.mem_values.specs.Stands.{if_directory, ShowsBucket}
use Rattle.mem_begin.specs.Beginning.{ShowsDirectories}
use Rattle.mem_begin.proofs.Rows.{bucket_fits, new_name, one_more_row, all_rows, past_last}
use Rattle.mem_begin.proofs.bucket.bucket_of.Goals as goal

pub loop-place-init : goal.loop-place-init
loop-place-init c =
    let new = c.new-bucket.ensures in
    record {
      rows = new.rows;
      directories = λ name.
          ap (λ (m : FinMap name_cmp ℕ). get m name) new.directories ∙ get-empty name_cmp name
          ∙ ap (if_directory c.args.tree.now) (sym (ap (λ (m : FinMap name_cmp ℕ). get m name) new.rows ∙ get-empty name_cmp name));
      stands = ap number_of new.stands ∙ c.stands_in.ensures;
    }

pub add_row-requires-clause-new : goal.add_row-requires-clause-new
add_row-requires-clause-new c =
    let rows = bucket_rows c.args.node.0 c.args.number c.args.tree.now.rows in
    ap (λ (m : FinMap name_cmp ℕ). get m c.in-Some.name.now) c.loop-place.invariant.rows
    ∙ new_name rows c.loop-place.place c.in-Some.name.now c.in-Some.child.0 (sym c.in-Some.ensures)

pub loop-place-preserved : goal.loop-place-preserved
loop-place-preserved c =
    let rows = bucket_rows c.args.node.0 c.args.number c.args.tree.now.rows in
    let added = c.in_ok-add_row.ensures in
    record {
      rows = added.rows ∙ ap (λ (m : FinMap name_cmp ℕ). insert m c.in-Some.name.now c.in-Some.child.0) c.loop-place.invariant.rows
          ∙ one_more_row rows c.loop-place.place c.in-Some.name.now c.in-Some.child.0 (sym c.in-Some.ensures);
      directories = added.directories;
      stands = ap number_of added.stands ∙ c.loop-place.invariant.stands;
    }

-- a bucket that has all rows shows them
shown : (tree : TreeState) (node number place : ℕ) (bucket : Bucket) → length (entries (bucket_rows node number tree.rows)) ≤ place
    → bucket.rows ≡ from_entries {R = name_cmp} (take place (entries (bucket_rows node number tree.rows)))
    → ShowsDirectories tree bucket → number_of bucket.stands ≡ stands_of tree node → ShowsBucket tree node number bucket
shown tree node number place bucket past rows directories stands =
    let same : bucket.rows ≡ bucket_rows node number tree.rows = rows ∙ all_rows (bucket_rows node number tree.rows) place past in
    record { rows = same; directories = λ name. directories name ∙ ap (λ (m : FinMap name_cmp ℕ). if_directory tree (get m name)) same; stands = stands }

pub returns-in_default : goal.returns-in_default
returns-in_default c =
    let tree = c.args.tree.now in
    let past = past_last (entries (bucket_rows c.args.node.0 c.args.number tree.rows)) c.loop-place.place (sym c.in_default.ensures) in
    shown tree c.args.node.0 c.args.number c.loop-place.place c.loop-place.bucket past c.loop-place.invariant.rows c.loop-place.invariant.directories
    c.loop-place.invariant.stands

pub returns : goal.returns
returns c =
    let tree = c.args.tree.now in
    let past : length (entries (bucket_rows c.args.node.0 c.args.number tree.rows)) ≤ c.loop-place.place =
    (let fits = bucket_fits c.args.node.0 c.args.number tree.rows in let all = c.row_count-place-end.ensures in let end = c.loop-place-test.false in
    omega (arith, fits, all, end)) in
    shown tree c.args.node.0 c.args.number c.loop-place.place c.loop-place.bucket past c.loop-place.invariant.rows c.loop-place.invariant.directories
    c.loop-place.invariant.stands
