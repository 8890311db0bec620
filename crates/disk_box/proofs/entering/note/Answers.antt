use Rattle.std.proofs.Common.{◌∙◌, ap, sym, subst}
use Rattle.stamp_table.specs.Hand.{Desk as TableName}
use Rattle.stamp_table.specs.Table.{MayTell, TellsFact}
use Rattle.disk_box.specs.declared.key.BoxKey.{BoxKey}
use Rattle.disk_box.specs.Pens.{PenHand, past_at}
use Rattle.disk_box.proofs.Amid.{amid_turn, amid_busy}
use Rattle.disk_box.proofs.Telling.{Lawful, Stood, may_tell_here, past_told, own_told, seen_is, goes_told, holds_told}
use Rattle.disk_box.proofs.entering.note.Goals as goal

pub tell-requires-clause-may : goal.tell-requires-clause-may
tell-requires-clause-may g c =
    subst (λ (d : TableName (BoxKey _)). MayTell (Lawful g.D.Disk.view d.given) (Stood g.D.Disk.view d.given) c.args.pen.now.view c.args.label.now)
    c.requires.holds.table_is
    (may_tell_here g.D.Disk.view c.args.table.now c.args.pen.now c.requires.holds c.args.label.now
    (amid_turn c.args.label.now c.args.pen.now.view.core (past_at c.args.pen.now).busy c.requires.amid c.requires.holds.busy) c.requires.may)

pub returns-clause-holds : goal.returns-clause-holds
returns-clause-holds g c =
    let tells = subst (λ (d : TableName (BoxKey _)). TellsFact (Lawful g.D.Disk.view d.given) (Stood g.D.Disk.view d.given) c.args.label.now c.args.pen.now
    c.tell.new.self) (sym c.requires.holds.table_is) c.tell.ensures
    in
    holds_told g.D.Disk.view c.args.table.now c.args.pen.now c.requires.holds c.args.label.now c.tell.new.self tells
    (amid_busy c.args.pen.now.table.given.layout c.args.label.now c.args.pen.now.view.core (past_at c.args.pen.now) c.requires.amid ∙ c.requires.holds.busy)

pub returns-clause-tells : goal.returns-clause-tells
returns-clause-tells g c =
    let tells = subst (λ (d : TableName (BoxKey _)). TellsFact (Lawful g.D.Disk.view d.given) (Stood g.D.Disk.view d.given) c.args.label.now c.args.pen.now
    c.tell.new.self) (sym c.requires.holds.table_is) c.tell.ensures
    in
    record {
      room = ap (λ (h : PenHand g.row.D.Denot). h.room) tells.frame;
      seen_is = seen_is g.D.Disk.view c.args.table.now c.args.pen.now c.requires.holds c.args.label.now c.tell.new.self tells;
      mine_is = tells.told.2.mine;
      goes = goes_told g.D.Disk.view c.args.table.now c.args.pen.now c.requires.holds c.args.label.now c.tell.new.self tells;
      past = past_told g.D.Disk.view c.args.table.now c.args.pen.now c.requires.holds c.args.label.now c.tell.new.self tells;
      own = own_told g.D.Disk.view c.args.table.now c.args.pen.now c.requires.holds c.args.label.now c.tell.new.self tells;
    }
