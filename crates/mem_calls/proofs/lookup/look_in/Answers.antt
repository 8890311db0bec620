use Rattle.std.proofs.Common.{refl, sym, ◌∙◌, ap, subst, IsSome}
use Rattle.tree_laws.specs.declared.reply.Reply.TheVariants as reply
use Rattle.tree_laws.specs.Verdict.{answered}
use Rattle.mem_calls.specs.Held.{bucket_held}
use Rattle.mem_calls.proofs.Shown.{name_shows}
use Rattle.mem_calls.proofs.Looks.{look_found, look_missed}
use Rattle.mem_calls.proofs.lookup.look_in.Goals as goal

pub bucket_in-bucket-requires : goal.bucket_in-bucket-requires
bucket_in-bucket-requires c = subst (λ n. IsSome (bucket_held c.args.nodes c.args.core.now.held c.args.dir n)) (sym c.bucket_of-number.ensures)
    (c.requires.held.bucket (c.in_default.ensures.within refl))

pub returns-in-Some-get : goal.returns-in-Some-get
returns-in-Some-get c = λ tree meets.
    let within = c.directory_fault_in.ensures.within c.in_default.is in
    let shows =
    name_shows c.args.core.now c.args.nodes c.requires.counted tree meets c.args.dir c.args.name.now c.bucket_of-number.result c.bucket_in-bucket.result.now
    within c.bucket_of-number.ensures c.bucket_in-bucket.ensures in
    let fault = sym (c.directory_fault_in.ensures.fault tree meets) ∙ c.in_default.is in
    look_found tree c.args.core.now.view.core c.args.dir c.args.name.now c.bucket_in-bucket.result.now shows fault c.in-Some-get.node
    (sym c.in-Some-get.ensures) ∙ ap (λ k. answered (reply.Node c.in-Some-get.node k)) (sym c.kind.ensures)

pub returns-in-None : goal.returns-in-None
returns-in-None c = λ tree meets.
    let within = c.directory_fault_in.ensures.within c.in_default.is in
    let shows =
    name_shows c.args.core.now c.args.nodes c.requires.counted tree meets c.args.dir c.args.name.now c.bucket_of-number.result c.bucket_in-bucket.result.now
    within c.bucket_of-number.ensures c.bucket_in-bucket.ensures in
    let fault = sym (c.directory_fault_in.ensures.fault tree meets) ∙ c.in_default.is in
    look_missed tree c.args.core.now.view.core c.args.dir c.args.name.now c.bucket_in-bucket.result.now shows fault (sym c.in-None.ensures)
