use Rattle.std.proofs.Common.{◌<◌, sym, ◌∙◌, length, reverse, arith}
use Rattle.std.proofs.lemmas.List.{length-reverse}
use Rattle.std.proofs.lemmas.Bool.{eqb-true, eqb-false}
use Rattle.disk_change.proofs.Untouched.{named_touched, unwaited_untouched, by_room}
use Rattle.disk_change.proofs.directory.is_touched.Goals as goal

pub returns-then-has_name : goal.returns-then-has_name
returns-then-has_name c = λ directories.
    sym
    (named_touched directories c.args.net.now c.args.block.now (reverse c.args.waiting.now.items) (sym c.has_name.ensures ∙ c.if-has_name.true))

pub returns-then-is_empty : goal.returns-then-is_empty
returns-then-is_empty c = λ directories.
    let none = eqb-true _ 0 (sym c.is_empty.ensures ∙ c.if-is_empty.true) in
    sym
    (unwaited_untouched directories c.args.net.now c.args.block.now (reverse c.args.waiting.now.items) (sym c.has_name.ensures ∙ c.if-has_name.false)
    (length-reverse c.args.waiting.now.items ∙ sym c.args.waiting.now.ok.0 ∙ none))

pub returns : goal.returns
returns c = λ directories.
    let some = eqb-false _ 0 (sym c.is_empty.ensures ∙ c.if-is_empty.false) in
    let long = length-reverse c.args.waiting.now.items in
    let count = c.args.waiting.now.ok.0 in
    let waits : 0 < length (reverse c.args.waiting.now.items) = grind (arith, some, long, count) in
    c.has_room.ensures
    ∙ sym
    (by_room directories c.args.net.now c.args.block.now (reverse c.args.waiting.now.items) (sym c.has_name.ensures ∙ c.if-has_name.false) waits)
