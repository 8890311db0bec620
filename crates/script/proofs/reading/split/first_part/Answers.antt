use Rattle.std.proofs.Common.{◌∷◌, suc, drop, sym, ap, ◌∙◌}
use Rattle.script.specs.Lines.{parts}
use Rattle.script.proofs.LineLemmas.{parts-ended, parts_alone, split_line}
use Rattle.script.proofs.reading.split.first_part.Goals as goal

pub returns-in-Some-clause-parts : goal.returns-in-Some-clause-parts
returns-in-Some-clause-parts c =
    parts-ended c.args.separator c.args.bytes.now c.in-Some.end (sym c.place_of.ensures ∙ c.in-Some.is)
    ∙ ap (λ part. part ∷ parts c.args.separator (drop (suc c.in-Some.end) c.args.bytes.now)) (sym c.split_at.ensures.front)
    ∙ ap (λ rest. c.split_at.result.0.now ∷ parts c.args.separator rest)
    (split_line c.args.bytes.now c.split_at.result.1.now c.in-Some.end c.split_at.ensures.back)

pub returns-in-None-clause-parts : goal.returns-in-None-clause-parts
returns-in-None-clause-parts c = parts_alone c.args.separator c.args.bytes.now (sym c.place_of.ensures ∙ c.in-None.is)
