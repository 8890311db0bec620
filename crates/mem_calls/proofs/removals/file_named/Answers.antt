use Rattle.std.proofs.Common.{◌≡◌, Some, sym, ◌∙◌, subst}
use Rattle.mem_calls.specs.Held.{bucket_held}
use Rattle.mem_calls.proofs.Named.{names_if, child_within}
use Rattle.mem_calls.proofs.removals.file_named.Goals as goal
use Rattle.mem_calls.proofs.Faults.{same_some}

pub returns-clause-names : goal.returns-clause-names
returns-clause-names c =
    let held = subst (λ n. bucket_held c.args.nodes c.args.core.now.held c.args.dir n
    ≡ Some c.bucket_in-bucket.result.now) c.bucket_of.ensures c.bucket_in-bucket.ensures in
    names_if c.args.nodes c.args.core.now.held c.args.dir c.args.name.now c.get-2.result c.bucket_in-bucket.result.now c.if-dir-nodes.false held
    (sym c.if-not-is_standing.ensures) c.get-2.ensures (same_some c.get.result _ c.get.ensures ∙ sym c.if-is_some.ensures)

pub returns-clause-within : goal.returns-clause-within
returns-clause-within c =
    let held = subst (λ n. bucket_held c.args.nodes c.args.core.now.held c.args.dir n
    ≡ Some c.bucket_in-bucket.result.now) c.bucket_of.ensures c.bucket_in-bucket.ensures in
    child_within c.args.core.now c.args.nodes c.args.dir c.args.name.now c.get-2.result c.bucket_in-bucket.result.now c.requires.counted
    (c.requires.met c.if-dir-nodes.false) c.if-dir-nodes.false held c.get-2.ensures
