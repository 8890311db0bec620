-- Each number is that of its four bytes.
use Rattle.std.proofs.Common.{◌≡◌, ◌*◌, ℕ, List, drop, length, ap, ◌∙◌}
use Rattle.std.proofs.lemmas.List.{with_items_is}
use Rattle.sfs_image.specs.Bytes.{u32s_at, number_from}
use Rattle.sfs_image.proofs.PiecesLaws.{u32s_read}
use Rattle.recovery.proofs.journals.read_numbers.Goals as goal

pub returns-clause-ok : goal.returns-clause-ok
returns-clause-ok g c = λ image told.
    let count : length c.read_u32_into.new.dst ≡ c.args.count = c.read_u32_into.auto.dst ∙ c.deref_mut.ensures.len ∙ c.in_ok-numbers.ensures.len in
    let bytes = c.deref.ensures.value ∙ c.in_ok-bytes.ensures.ok image told in
    let numbers : c.read_u32_into.new.dst ≡ u32s_at c.args.at c.args.count image =
    u32s_read c.args.at c.args.count image c.read_u32_into.new.dst count
    (λ k h. c.read_u32_into.ensures k h ∙ ap (λ (xs : List ℕ). number_from 0 4 (drop (4 * k) xs)) bytes) in
    with_items_is c.in_ok-numbers.numbers c.read_u32_into.new.dst (c.read_u32_into.auto.dst ∙ c.deref_mut.ensures.len) ∙ numbers
