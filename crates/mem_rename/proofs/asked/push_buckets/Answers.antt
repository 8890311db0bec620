use Rattle.std.proofs.Common.{◌++◌, [], ◌∷◌, take, sym, ap, ◌∙◌, append-nil, append_assoc}
use Rattle.mem_values.specs.declared.cell_id.CellId.TheVariants as id
use Rattle.mem_rename.specs.Cells.{buckets_of}
use Rattle.mem_rename.proofs.Buckets.{next_bucket, all_eight}
use Rattle.mem_rename.proofs.asked.push_buckets.Goals as goal

pub loop-bucket-init : goal.loop-bucket-init
loop-bucket-init c = sym (append-nil c.args.cells.now.items)

pub loop-bucket-preserved : goal.loop-bucket-preserved
loop-bucket-preserved c =
    c.in_ok-push.ensures.items ∙ (ap (λ l. l ++ id.Bucket c.in-Some.node c.loop-bucket.bucket ∷ []) c.loop-bucket.invariant
    ∙ (append_assoc c.args.cells.now.items (take c.loop-bucket.bucket (buckets_of c.in-Some.node)) (id.Bucket c.in-Some.node c.loop-bucket.bucket ∷ [])
    ∙ ap (λ l. c.args.cells.now.items ++ l) (sym (next_bucket c.in-Some.node c.loop-bucket.bucket c.loop-bucket-test.true))))

pub returns : goal.returns
returns c = c.loop-bucket.invariant
    ∙ (ap (λ l. c.args.cells.now.items ++ l) (all_eight c.in-Some.node c.loop-bucket.bucket c.loop-bucket-test.false)
    ∙ ap (λ o. c.args.cells.now.items ++ Rattle.mem_rename.specs.Plans.buckets_if o) (sym c.in-Some.is))
