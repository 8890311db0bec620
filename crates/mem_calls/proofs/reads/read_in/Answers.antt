use Rattle.std.proofs.Common.{List, ℕ, sym, ◌∙◌, ap, take, drop}
use Rattle.tree_laws.specs.declared.reply.Reply.TheVariants as reply
use Rattle.tree_laws.specs.Verdict.{answered, or_else, read_bytes}
use Rattle.mem_calls.proofs.Shown.{file_shows}
use Rattle.mem_calls.proofs.reads.read_in.Goals as goal

pub returns-clause-due : goal.returns-clause-due
returns-clause-due c = λ tree meets.
    let within = c.file_fault_in.ensures.within c.in_default.is in
    let file = file_shows c.args.core.now c.args.nodes c.requires.counted tree meets c.args.file c.file_in.result.now within c.file_in.ensures in
    ap (λ f. or_else f (read_bytes tree c.args.file.0 c.args.at c.args.count)) (sym (c.file_fault_in.ensures.fault tree meets) ∙ c.in_default.is)
    ∙ ap (λ b. answered (reply.Bytes b)) (sym (c.in_ok-bytes.ensures ∙ ap (λ (l : List ℕ). take c.args.count (drop c.args.at l)) file.1))
