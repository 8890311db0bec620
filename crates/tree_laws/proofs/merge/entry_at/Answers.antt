use Rattle.std.proofs.Common.{slice_get, refl, sym, ap, ◌∙◌, ltb-true}
use Rattle.std.proofs.lemmas.Option.{slice_get_read}
use Rattle.tree_laws.proofs.ByStamps.{entry_found}
use Rattle.tree_laws.proofs.merge.entry_at.Goals as goal

pub returns-then-entry-stamp-clause-entry : goal.returns-then-entry-stamp-clause-entry
returns-then-entry-stamp-clause-entry c =
    let lists = c.in_ok-get.ensures.lookup in
    let there = c.in_ok-entry.ensures.lookup in
    entry_found c.args.parts.now c.args.list c.args.place c.in_ok-get.field-0.now c.in_ok-entry.entry.now c.args.stamp c.requires
    (slice_get_read c.args.parts.now _ c.args.list c.in_ok-get.field-0.now refl (ltb-true _ _ (sym lists.0)) lists.1)
    (ap (λ xs. slice_get xs c.args.place) (sym c.deref.ensures.value)
    ∙ slice_get_read c.deref.result.now _ c.args.place c.in_ok-entry.entry.now refl (ltb-true _ _ (sym there.0)) there.1)
    c.if-entry-stamp.true
