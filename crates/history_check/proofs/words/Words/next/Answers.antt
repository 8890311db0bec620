use Rattle.std.proofs.Common.{arith, ◌+◌, length, sym, ap, ◌∙◌}
use Rattle.std.proofs.lemmas.List.{take_rest, drop_all}
use Rattle.history_check.specs.Reading.{is_space, word, behind}
use Rattle.history_check.proofs.FirstWords.{before_place, after_place, before_none, after_none}
use Rattle.history_check.proofs.words.Words.next.Goals as goal

pub returns-in-Some-clause-word : goal.returns-in-Some-clause-word
returns-in-Some-clause-word c =
    before_place is_space c.self.inside.left.now c.in-Some.end (sym c.place_of.ensures ∙ c.in-Some.is) ∙ ap word c.self.view_is

pub returns-in-Some-clause-left : goal.returns-in-Some-clause-left
returns-in-Some-clause-left c =
    take_rest c.self.inside.left.now (c.in-Some.end + 1)
    ∙ after_place is_space c.self.inside.left.now c.in-Some.end (sym c.place_of.ensures ∙ c.in-Some.is)
    ∙ ap behind c.self.view_is

pub returns-in-None-clause-word : goal.returns-in-None-clause-word
returns-in-None-clause-word c = before_none is_space c.self.inside.left.now (sym c.place_of.ensures ∙ c.in-None.is) ∙ ap word c.self.view_is

pub returns-in-None-clause-left : goal.returns-in-None-clause-left
returns-in-None-clause-left c =
    take_rest c.self.inside.left.now (length c.self.inside.left.now)
    ∙ drop_all (length c.self.inside.left.now) c.self.inside.left.now (omega arith)
    ∙ after_none is_space c.self.inside.left.now (sym c.place_of.ensures ∙ c.in-None.is)
    ∙ ap behind c.self.view_is
