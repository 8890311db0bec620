use Rattle.std.proofs.Common.{◌≡◌, ◌∙◌, length, refl, sym, subst, arith}
use Rattle.std.specs.Vec.{vec_len}
use Rattle.std.proofs.lemmas.Grind.{common_steps}
use Rattle.std.proofs.lemmas.Option.{slice_get_read}
use Rattle.stamp_table.specs.Table.{TableState}
use Rattle.disk_box.specs.declared.key.BoxKey.{BoxKey}
use Rattle.journal_set.specs.Making.{LeavesDisk, MayClose}
use Rattle.journal_set.proofs.Closed.{home_of, home_some, leaves_disk, some_places}
use Rattle.journal_set.proofs.set.JournalSet.close.Goals as goal

pub swap_remove-value-requires : goal.swap_remove-value-requires
swap_remove-value-requires g c =
    let inner = c.self.inside.table in
    let may : MayClose inner c.args.pens.items = subst (λ (t : TableState (BoxKey _)). MayClose t c.args.pens.items) (sym c.self.view_is) c.requires.may in
    let count = c.close-values.ensures.log.2.count in
    let some = some_places inner c.args.pens.items may in
    let counted : vec_len c.close-values.result.1 ≡ length c.close-values.result.1.items = grind (arith, common_steps) in
    omega (arith, counted, count, some)

pub unreachable-requires : goal.unreachable-requires
unreachable-requires g c =
    let inner = c.self.inside.table in
    let may : MayClose inner c.args.pens.items = subst (λ (t : TableState (BoxKey _)). MayClose t c.args.pens.items) (sym c.self.view_is) c.requires.may in
    let log = c.close-values.ensures.log in
    let count = log.2.count in
    let some = some_places inner c.args.pens.items may in
    let there = slice_get_read c.close-values.result.1.items (length c.close-values.result.1.items) 0 c.swap_remove-value.result refl
    (omega (arith, count, some)) c.swap_remove-value.ensures.value
    in
    home_of g.D.Disk.view inner.table.given log.0 c.swap_remove-value.result (log.2.each 0 c.swap_remove-value.result there refl) c.in_default.is

pub returns : goal.returns
returns g c =
    let inner = c.self.inside.table in
    let may : MayClose inner c.args.pens.items = subst (λ (t : TableState (BoxKey _)). MayClose t c.args.pens.items) (sym c.self.view_is) c.requires.may in
    let log = c.close-values.ensures.log in
    let count = log.2.count in
    let some = some_places inner c.args.pens.items may in
    let there = slice_get_read c.close-values.result.1.items (length c.close-values.result.1.items) 0 c.swap_remove-value.result refl
    (omega (arith, count, some)) c.swap_remove-value.ensures.value
    in
    let home = home_some g.D.Disk.view inner.table.given log.0 c.swap_remove-value.result c.in-Some.desk
    (log.2.each 0 c.swap_remove-value.result there refl) c.in-Some.is
    in
    record {
      leaves = (
        log.0,
        subst (λ (t : TableState (BoxKey _)). LeavesDisk g.D.Disk.view t.table.given c.args.pens.items log.0 c.in-Some.desk.disk c.in-Some.desk.turns.items)
            c.self.view_is
            (leaves_disk g.D.Disk.view inner.table.given inner c.args.pens.items log.0 c.in-Some.desk may (sym (may.all.count ∙ c.self.invariant))
            log.1.lawful_log.told log.1.mine log.1.seen home),
      );
    }
