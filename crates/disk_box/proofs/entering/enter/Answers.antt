use Rattle.std.proofs.Common.{◌∙◌, sym, ap}
use Rattle.disk_box.specs.Pens.{PenHand}
use Rattle.disk_box.proofs.Entered.{fits_now, holds_now, is_desk, may_take, mine_now, own_now, space_now, takes_now}
use Rattle.disk_box.proofs.entering.enter.Goals as goal

pub tell-requires-clause-may : goal.tell-requires-clause-may
tell-requires-clause-may g c =
    may_take g.D.Disk.view c.args.table.now c.args.pen.now c.hold_one.new.self c.requires.outside c.hold_one.ensures c.replace.new.self.view
    (ap (λ (h : PenHand g.row.D.Denot). h.view) c.replace.ensures.new)

pub returns-clause-at : goal.returns-clause-at
returns-clause-at g c =
    let t = c.args.table.now in
    let pen = c.args.pen.now in
    let holding = c.hold_one.new.self in
    let brought = sym (is_desk g.D.Disk.view t pen holding c.requires.outside c.hold_one.ensures c.replace.result c.replace.ensures.old) ∙ c.in-Some.is in
    record {
      holds = holds_now g.D.Disk.view t pen holding c.requires.outside c.hold_one.ensures c.in-Some.desk brought c.replace.new.self c.tell.new.self
          c.replace.ensures.new c.tell.ensures;
      fits = fits_now g.D.Disk.view t pen holding c.requires.outside c.hold_one.ensures c.in-Some.desk brought c.replace.new.self c.tell.new.self
          c.replace.ensures.new c.tell.ensures;
      space = space_now g.D.Disk.view t pen holding c.requires.outside c.hold_one.ensures c.in-Some.desk brought c.replace.new.self c.tell.new.self
          c.replace.ensures.new c.tell.ensures;
    }

pub returns-clause-own : goal.returns-clause-own
returns-clause-own g c =
    let t = c.args.table.now in
    let pen = c.args.pen.now in
    let holding = c.hold_one.new.self in
    let brought = sym (is_desk g.D.Disk.view t pen holding c.requires.outside c.hold_one.ensures c.replace.result c.replace.ensures.old) ∙ c.in-Some.is in
    own_now g.D.Disk.view t pen holding c.requires.outside c.hold_one.ensures c.in-Some.desk brought c.replace.new.self c.tell.new.self
    c.replace.ensures.new c.tell.ensures

pub returns-clause-mine : goal.returns-clause-mine
returns-clause-mine g c =
    let t = c.args.table.now in
    let pen = c.args.pen.now in
    let holding = c.hold_one.new.self in
    let brought = sym (is_desk g.D.Disk.view t pen holding c.requires.outside c.hold_one.ensures c.replace.result c.replace.ensures.old) ∙ c.in-Some.is in
    mine_now g.D.Disk.view t pen holding c.requires.outside c.hold_one.ensures c.in-Some.desk brought c.replace.new.self c.tell.new.self
    c.replace.ensures.new c.tell.ensures

pub returns-clause-takes : goal.returns-clause-takes
returns-clause-takes g c =
    let t = c.args.table.now in
    let pen = c.args.pen.now in
    let holding = c.hold_one.new.self in
    let brought = sym (is_desk g.D.Disk.view t pen holding c.requires.outside c.hold_one.ensures c.replace.result c.replace.ensures.old) ∙ c.in-Some.is in
    takes_now g.D.Disk.view t pen holding c.requires.outside c.hold_one.ensures c.in-Some.desk brought c.replace.new.self c.tell.new.self
    c.replace.ensures.new c.tell.ensures
