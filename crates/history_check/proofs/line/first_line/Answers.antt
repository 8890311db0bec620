use Rattle.std.proofs.Common.{sym, ◌∙◌}
use Rattle.history_check.specs.Reading.{is_line_end}
use Rattle.history_check.proofs.FirstWords.{before_place, before_none}
use Rattle.history_check.proofs.line.first_line.Goals as goal

pub returns-in-Some : goal.returns-in-Some
returns-in-Some c = before_place is_line_end c.args.text.now c.in-Some.end (sym c.place_of.ensures ∙ c.in-Some.is)

pub returns-in-None : goal.returns-in-None
returns-in-None c = before_none is_line_end c.args.text.now (sym c.place_of.ensures ∙ c.in-None.is)
