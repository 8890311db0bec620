use Rattle.std.proofs.Common.{arith}
use Rattle.script.specs.Lines.{words}
use Rattle.script.proofs.LineLemmas.{parts_more}
use Rattle.script.proofs.reading.exact_words.one_word.Goals as goal

pub returns-in-Some : goal.returns-in-Some
returns-in-Some c =
    let parted = rw c.in-Some.is at c.first_part.ensures.parts in
    let more = parts_more 32 c.in-Some.field-0.now (words c.args.bytes.now) _ parted in
    λ e. omega (arith, more)
