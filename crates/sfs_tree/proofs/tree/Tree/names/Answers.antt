use Rattle.std.proofs.Common.{cond, nat_lt, None, sym, ap, ◌∙◌, arith}
use Rattle.std.specs.FinMap.{get, get-empty}
use Rattle.sfs_base.specs.Name.{bucket}
use Rattle.tree_laws.specs.Order.{name_cmp}
use Rattle.tree_laws.specs.Tree.{bucket_rows}
use Rattle.std.specs.Option.{option_or}
use Rattle.tree_laws.proofs.Names.{next_bucket, bucket_apart, all_buckets, none_below}
use Rattle.sfs_tree.proofs.tree.Tree.names.Goals as goal

pub loop-number-init : goal.loop-number-init
loop-number-init c =
    λ name. ap (λ m. get m name) c.new-names.ensures ∙ get-empty name_cmp name ∙ sym (none_below (bucket name) (get c.args.self.now.rows (c.args.dir.0, name)))

pub add_bucket-requires-clause-apart : goal.add_bucket-requires-clause-apart
add_bucket-requires-clause-apart c = λ name some. c.loop-number.invariant name ∙ bucket_apart c.args.dir.0 c.loop-number.number name c.args.self.now.rows some

pub loop-number-preserved : goal.loop-number-preserved
loop-number-preserved c = λ name.
    c.in_ok-add_bucket.ensures name
    ∙ ap (option_or (get (bucket_rows c.args.dir.0 c.loop-number.number c.args.self.now.rows) name)) (c.loop-number.invariant name)
    ∙ next_bucket c.args.dir.0 c.loop-number.number name c.args.self.now.rows

pub returns : goal.returns
returns c = let t = c.loop-number-test.false in let a = c.loop-number.auto in
    all_buckets c.args.dir.0 c.loop-number.names c.args.self.now.rows
    (λ name. c.loop-number.invariant name ∙ ap (λ n. cond (nat_lt (bucket name) n) (get c.args.self.now.rows (c.args.dir.0, name)) None) (omega arith))
