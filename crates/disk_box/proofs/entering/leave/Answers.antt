use Rattle.std.proofs.Common.{sym, subst}
use Rattle.stamp_table.specs.Hand.{Desk as TableName}
use Rattle.stamp_table.specs.Table.{EachFrom, MayTell, Stands, TellsFact}
use Rattle.slot_laws.specs.declared.label.Label.TheVariants as label
use Rattle.disk_box.specs.declared.key.BoxKey.{BoxKey}
use Rattle.disk_box.proofs.Left.{goes_home, may_leave, mine_left, own_left, seen_left}
use Rattle.disk_box.proofs.Telling.{Lawful, Stood}
use Rattle.disk_box.proofs.entering.leave.Goals as goal

pub tell-requires-clause-may : goal.tell-requires-clause-may
tell-requires-clause-may g c =
    let at = c.requires.at in
    subst (λ (d : TableName (BoxKey _)). MayTell (Lawful g.D.Disk.view d.given) (Stood g.D.Disk.view d.given) c.args.pen.now.view label.Gave) at.holds.table_is
    (may_leave g.D.Disk.view c.args.table.now c.args.pen.now at.holds c.args.desk at.fits at.space)

pub let_go-requires-clause-home : goal.let_go-requires-clause-home
let_go-requires-clause-home g c =
    let at = c.requires.at in
    let tells = subst (λ (d : TableName (BoxKey _)). TellsFact (Lawful g.D.Disk.view d.given) (Stood g.D.Disk.view d.given) label.Gave c.args.pen.now
    c.tell.new.self) (sym at.holds.table_is) c.tell.ensures
    in
    subst (λ (d : TableName (BoxKey _)). EachFrom 0 (Stands (Lawful g.D.Disk.view d.given) (Stood g.D.Disk.view d.given) c.replace.new.self.view)
    c.replace.new.self.held) at.holds.table_is
    (goes_home g.D.Disk.view c.args.table.now c.args.pen.now at.holds c.args.desk at.fits at.space c.tell.new.self c.replace.new.self
    tells c.replace.ensures.new)

pub returns-clause-own : goal.returns-clause-own
returns-clause-own g c =
    let at = c.requires.at in
    let tells = subst (λ (d : TableName (BoxKey _)). TellsFact (Lawful g.D.Disk.view d.given) (Stood g.D.Disk.view d.given) label.Gave c.args.pen.now
    c.tell.new.self) (sym at.holds.table_is) c.tell.ensures
    in
    own_left g.D.Disk.view c.args.table.now c.args.pen.now at.holds c.args.desk at.fits at.space c.tell.new.self c.replace.new.self
    tells c.replace.ensures.new c.let_go.new.self c.let_go.ensures.lets_go c.let_go.ensures.left c.let_go.ensures.places

pub returns-clause-mine : goal.returns-clause-mine
returns-clause-mine g c =
    let at = c.requires.at in
    let tells = subst (λ (d : TableName (BoxKey _)). TellsFact (Lawful g.D.Disk.view d.given) (Stood g.D.Disk.view d.given) label.Gave c.args.pen.now
    c.tell.new.self) (sym at.holds.table_is) c.tell.ensures
    in
    mine_left g.D.Disk.view c.args.table.now c.args.pen.now at.holds c.args.desk at.fits at.space c.tell.new.self c.replace.new.self
    tells c.replace.ensures.new c.let_go.new.self c.let_go.ensures.lets_go c.let_go.ensures.left c.let_go.ensures.places

pub returns-clause-seen : goal.returns-clause-seen
returns-clause-seen g c =
    let at = c.requires.at in
    let tells = subst (λ (d : TableName (BoxKey _)). TellsFact (Lawful g.D.Disk.view d.given) (Stood g.D.Disk.view d.given) label.Gave c.args.pen.now
    c.tell.new.self) (sym at.holds.table_is) c.tell.ensures
    in
    seen_left g.D.Disk.view c.args.table.now c.args.pen.now at.holds c.args.desk at.fits at.space c.tell.new.self c.replace.new.self
    tells c.replace.ensures.new c.let_go.new.self c.let_go.ensures.lets_go c.let_go.ensures.left c.let_go.ensures.places
