use Rattle.std.proofs.Common.{rules, ◌<◌, ◌^◌, ◌∙◌, sym, refl, inl, inr, ap, arith}
use Rattle.std.specs.Prelude.{if◌then◌else◌}
use Rattle.mem_cells.specs.Part.{changes_kept}
use Rattle.sfs_base.proofs.BasicNumbers.{same_number}
use Rattle.log_copy.proofs.Growing.{names_more, rises}
use Rattle.log_copy.proofs.copying.copy_naming.Goals.{else-not-is_among-via-then-not-is_among+else-names_one, else-not-is_among-via-else-not-is_among}
use Rattle.log_copy.proofs.copying.copy_naming.Goals as goal

pub copy_directory-requires-clause-few : goal.copy_directory-requires-clause-few
copy_directory-requires-clause-few c =
    let few = c.loop-dir.invariant.entries in
    let long = c.requires.few in
    let rise = rises c.loop-dir.after c.in-Some.dir c.in-Some.ensures.comes_after in
    let fits : c.in-Some.dir.0 < 2 ^ 32 = search rules in
    omega (arith, few, long, rise, fits)

pub loop-dir-preserved-in_ok-copy_directory : goal.loop-dir-preserved-in_ok-copy_directory
loop-dir-preserved-in_ok-copy_directory c =
    let gets = c.in_ok-copy_directory.ensures in
    names_more c.args.part.now c.args.nodes.now c.loop-dir.after c.in-Some.dir c.loop-dir.copy c.copy_directory.new.copy c.loop-dir.invariant
    c.in-Some.ensures
    (λ directory apart. gets.changes directory
    ∙ ap (λ b. if b then changes_kept c.args.part.now directory else changes_kept c.loop-dir.copy directory) apart)
    (inl (gets.changes c.in-Some.dir.0
    ∙ ap (λ b. if b then changes_kept c.args.part.now c.in-Some.dir.0 else changes_kept c.loop-dir.copy c.in-Some.dir.0) (same_number c.in-Some.dir.0)))
    gets.entries

pub loop-dir-preserved : goal.loop-dir-preserved
loop-dir-preserved c =
    names_more c.args.part.now c.args.nodes.now c.loop-dir.after c.in-Some.dir c.loop-dir.copy c.loop-dir.copy c.loop-dir.invariant
    c.in-Some.ensures (λ directory apart. refl) (elim c.else-not-is_among.branch [
      | else-not-is_among-via-then-not-is_among+else-names_one w ↦ inr (refl, w.names_one.ensures w.if-names_one.false)
      | else-not-is_among-via-else-not-is_among w ↦ inl (c.loop-dir.invariant.own c.in-Some.dir.0 (sym c.is_among.ensures ∙ w.if-not-is_among.false))
    ]) (omega arith)
