use Rattle.std.proofs.Common.{◌≡◌, ◌≤◌, ◌<◌, ℕ, None, cond, false, nat_eq, option_map, sym, ap, ◌∙◌, arith}
use Rattle.std.proofs.lemmas.Bool.Decides.{nat_tests}
use Rattle.std.specs.Prelude.{slice_get}
use Rattle.std.specs.FinMap.{FinMap, get, entries, empty, len, len-entries, len-empty, get-empty, same_map}
use Rattle.sfs_base.specs.Name.{bucket}
use Rattle.tree_laws.proofs.Names.{get-names_where}
use Rattle.tree_laws.proofs.Joined.{bucket_small, name_cmp-IsAntisymmetric}
use Rattle.std.specs.Cmp.Lexicographic.{nat_list_cmp_total}
use Rattle.std.proofs.lemmas.List.{nil_from_length}
use Rattle.tree_laws.specs.Order.{name_cmp, key_cmp}
use Rattle.tree_laws.specs.Buckets.{Bucket}
use Rattle.tree_laws.specs.Tree.{TreeState, bucket_rows}
use Rattle.sfs_tree.proofs.tree.Tree.row.Goals as goal

-- no rows have none at any place
none_at : (m : Bucket) (place : ℕ) → m ≡ empty → None ≡ slice_get (entries m) place
none_at m place e = ap (λ es. slice_get es place) (sym (nil_from_length (entries m) (sym (len-entries m) ∙ ap len e ∙ len-empty name_cmp ℕ)))

pub returns-in_err-rows : goal.returns-in_err-rows
returns-in_err-rows c =
    ap (option_map _) c.from_residual.ensures
    ∙ none_at (bucket_rows c.args.dir.0 c.args.bucket c.args.self.now.rows) c.args.place
    (ap (λ (t : TreeState). bucket_rows c.args.dir.0 c.args.bucket t.rows) (sym c.self.view_is) ∙ c.in_err-rows.ensures.none)

-- no name lies past the eight buckets
none_past : (rows : FinMap key_cmp ℕ) (directory number : ℕ) → 8 ≤ number → bucket_rows directory number rows ≡ empty
none_past rows directory number past = same_map nat_list_cmp_total name_cmp-IsAntisymmetric _ _ (λ name.
    let below : bucket name < 8 = bucket_small name in
    let test : nat_eq (bucket name) number ≡ false = grind (arith, nat_tests) in
    get-names_where directory (λ name. nat_eq (bucket name) number) rows name ∙ ap (λ b. cond b (get rows (directory, name)) None) test
    ∙ sym (get-empty name_cmp name))

pub returns-then-bucket-ge8 : goal.returns-then-bucket-ge8
returns-then-bucket-ge8 c =
    none_at (bucket_rows c.args.dir.0 c.args.bucket c.args.self.now.rows) c.args.place (none_past c.args.self.now.rows c.args.dir.0 c.args.bucket (omega arith))
