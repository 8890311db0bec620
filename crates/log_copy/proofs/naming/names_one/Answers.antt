use Rattle.std.proofs.Common.{◌≡◌, ◌∙◌, false, sym, ap}
use Rattle.std.specs.Option.{option_copied}
use Rattle.tree_laws.specs.declared.changes.Change.{Change}
use Rattle.mem_cells.specs.Part.{changes_kept}
use Rattle.log_copy.specs.Copies.{is_one_of}
use Rattle.log_copy.proofs.Counted.{all_read, all_passed}
use Rattle.log_copy.proofs.naming.names_one.Goals as goal

pub loop-place-preserved : goal.loop-place-preserved
loop-place-preserved c =
    all_read (λ (change : Change). is_one_of c.args.nodes.now change.child.0 ≡ false) (changes_kept c.args.part.now c.args.dir.0) c.loop-place.place
    c.in-Some.change.now c.loop-place.invariant (sym c.get.ensures.value ∙ ap option_copied c.in-Some.is) (sym c.is_among.ensures ∙ c.if-is_among.false)

pub returns-in-None : goal.returns-in-None
returns-in-None c none =
    all_passed (λ (change : Change). is_one_of c.args.nodes.now change.child.0 ≡ false) (changes_kept c.args.part.now c.args.dir.0) c.loop-place.place
    c.loop-place.invariant (sym c.get.ensures.value ∙ ap option_copied c.in-None.is)
