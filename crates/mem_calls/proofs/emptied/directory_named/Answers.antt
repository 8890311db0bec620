use Rattle.std.proofs.Common.{◌≡◌, Some, sym, subst}
use Rattle.mem_calls.specs.Held.{bucket_held}
use Rattle.mem_calls.proofs.Ending.{names_if, within_if, apart_if}
use Rattle.mem_calls.proofs.emptied.directory_named.Goals as goal

pub returns-clause-names : goal.returns-clause-names
returns-clause-names c =
    let held = subst (λ n. bucket_held c.args.nodes c.args.core.now.held c.args.dir n
    ≡ Some c.bucket_in-bucket.result.now) c.bucket_of.ensures c.bucket_in-bucket.ensures in
    names_if c.args.nodes c.args.core.now.held c.args.dir c.args.name.now c.get.result c.bucket_in-bucket.result.now c.if-dir-nodes.false held
    (sym c.if-not-is_standing.ensures) c.get.ensures

pub returns-clause-within : goal.returns-clause-within
returns-clause-within c =
    let held = subst (λ n. bucket_held c.args.nodes c.args.core.now.held c.args.dir n
    ≡ Some c.bucket_in-bucket.result.now) c.bucket_of.ensures c.bucket_in-bucket.ensures in
    within_if c.args.core.now c.args.nodes c.args.dir c.args.name.now c.requires.counted (c.requires.met c.if-dir-nodes.false) c.get.result
    (names_if c.args.nodes c.args.core.now.held c.args.dir c.args.name.now c.get.result c.bucket_in-bucket.result.now c.if-dir-nodes.false held
    (sym c.if-not-is_standing.ensures) c.get.ensures)

pub returns-clause-apart : goal.returns-clause-apart
returns-clause-apart c =
    let held = subst (λ n. bucket_held c.args.nodes c.args.core.now.held c.args.dir n
    ≡ Some c.bucket_in-bucket.result.now) c.bucket_of.ensures c.bucket_in-bucket.ensures in
    apart_if c.args.core.now c.args.nodes c.args.dir c.args.name.now c.requires.counted (c.requires.met c.if-dir-nodes.false) c.get.result
    (names_if c.args.nodes c.args.core.now.held c.args.dir c.args.name.now c.get.result c.bucket_in-bucket.result.now c.if-dir-nodes.false held
    (sym c.if-not-is_standing.ensures) c.get.ensures)
