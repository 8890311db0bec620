use Rattle.std.proofs.Common.{◌∷◌, suc, drop, sym, ap, ◌∙◌}
use Rattle.script.specs.Lines.{lines}
use Rattle.script.proofs.LineLemmas.{lines-ended, lines_open, split_line, split_open}
use Rattle.script.proofs.reading.split.first_line.Goals as goal

pub returns-in-Some-clause-lines : goal.returns-in-Some-clause-lines
returns-in-Some-clause-lines c =
    lines-ended c.args.bytes.now c.in-Some.end (sym c.place_of.ensures ∙ c.in-Some.is)
    ∙ ap (λ line. line ∷ lines (drop (suc c.in-Some.end) c.args.bytes.now)) (sym c.split_at.ensures.front)
    ∙ ap (λ rest. c.split_at.result.0.now ∷ lines rest) (split_line c.args.bytes.now c.split_at.result.1.now c.in-Some.end c.split_at.ensures.back)

pub returns-in-None-clause-lines : goal.returns-in-None-clause-lines
returns-in-None-clause-lines c =
    lines_open c.args.bytes.now c.requires (sym c.place_of.ensures ∙ c.in-None.is)
    ∙ split_open c.args.bytes.now c.split_at-in-None.result.0.now c.split_at-in-None.result.1.now c.split_at-in-None.ensures.front
    c.split_at-in-None.ensures.back
