use Rattle.std.proofs.Common.{◌<◌, ◌∙◌, None, refl, sym, ap, subst, slice_set}
use Rattle.slot_laws.specs.Labels.{OwnTold, own_label}
use Rattle.slot_laws.specs.declared.label.Label.TheVariants as label
use Rattle.disk_box.specs.Pens.{past_at}
use Rattle.disk_box.specs.Turns.{Lands}
use Rattle.disk_box.proofs.After.{at_told, past_fits_at}
use Rattle.disk_box.proofs.Learned.{lands, learned_fits, learned_rule}
use Rattle.disk_box.proofs.Owes.{owns_own}
use Rattle.disk_box.proofs.Waits.{wait_read}
use Rattle.disk_box.proofs.learning.learn.Goals as goal

pub note-requires-clause-may : goal.note-requires-clause-may
note-requires-clause-may g c κs within =
    let pen = c.args.pen.now in
    let at = c.requires.at in
    let low = subst (λ n. pen.view.core < n) (sym at.fits.frame.cores) at.holds.core_is in
    let waits = wait_read c.args.desk.now.waits.items c.number-core.result.0 pen.view.core c.index.result.now (past_at pen).waits at.fits.frame.waits low
    c.number-core.ensures c.index.ensures
    in
    learned_rule pen.table.given pen.view.core (past_at pen) (past_fits_at c.args.table.now pen at.holds) c.in_ok-turn.turn (waits ∙ c.in_ok-turn.was)

pub returns-clause-at : goal.returns-clause-at
returns-clause-at g c =
    let pen = c.args.pen.now in
    let desk = c.args.desk.now in
    let at = c.requires.at in
    let low = subst (λ n. pen.view.core < n) (sym at.fits.frame.cores) at.holds.core_is in
    let waits = wait_read desk.waits.items c.number-core.result.0 pen.view.core c.index.result.now (past_at pen).waits at.fits.frame.waits low
    c.number-core.ensures c.index.ensures
    in
    let now = record desk { waits = Rattle.std.specs.Vec.with_item desk.waits c.number-core.result.0 None } in
    at_told g.D.Disk.view c.args.table.now pen c.note.new.pen (label.Learned c.in_ok-turn.turn) c.note.ensures.holds c.note.ensures.tells desk now
    at.space refl
    (learned_fits pen.table.given pen.view.core (past_at pen) (past_fits_at c.args.table.now pen at.holds) c.in_ok-turn.turn
    (waits ∙ c.in_ok-turn.was) g.D.Disk.view desk now at.holds.core_is refl (ap (λ n. slice_set desk.waits.items n None) c.number-core.ensures) at.fits)

pub returns-clause-some : goal.returns-clause-some
returns-clause-some g c =
    let pen = c.args.pen.now in
    let at = c.requires.at in
    let low = subst (λ n. pen.view.core < n) (sym at.fits.frame.cores) at.holds.core_is in
    let waits = wait_read c.args.desk.now.waits.items c.number-core.result.0 pen.view.core c.index.result.now (past_at pen).waits at.fits.frame.waits low
    c.number-core.ensures c.index.ensures
    in
    let own = owns_own c.args.table.now pen at.holds in
    subst (λ (o : OwnTold). Lands c.in_ok-turn.turn pen.view.core (Rattle.disk_box.specs.Pens.own_at pen) o) (sym c.note.ensures.tells.own)
    (subst (λ (o : OwnTold). Lands c.in_ok-turn.turn pen.view.core o (own_label (label.Learned c.in_ok-turn.turn) o)) own
    (lands pen.table.given pen.view.core (past_at pen) (past_fits_at c.args.table.now pen at.holds) c.in_ok-turn.turn (waits ∙ c.in_ok-turn.was)))

pub returns-clause-tells : goal.returns-clause-tells
returns-clause-tells g c = c.note.ensures.tells

pub returns-clause-waits : goal.returns-clause-waits
returns-clause-waits g c =
    let pen = c.args.pen.now in
    let at = c.requires.at in
    let low = subst (λ n. pen.view.core < n) (sym at.fits.frame.cores) at.holds.core_is in
    let waits = wait_read c.args.desk.now.waits.items c.number-core.result.0 pen.view.core c.index.result.now (past_at pen).waits at.fits.frame.waits low
    c.number-core.ensures c.index.ensures
    in
    waits ∙ c.in_ok-turn.was
