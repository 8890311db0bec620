use Rattle.std.proofs.Common.{sym, subst, ap, ◌∙◌}
use Rattle.std.proofs.lemmas.Result.{IfOk-weaker}
use Rattle.stamp_table.specs.Table.{Stands, EachFrom, left_below}
use Rattle.mem_values.specs.Start.{given_by}
use Rattle.mem_values.specs.Stands.{StandsAt}
use Rattle.mem_values.specs.Facts.{IsLawfulLog}
use Rattle.log_copy.specs.Copies.{is_one_of, KeepsFor}
use Rattle.fsync_look.specs.Look.{IsCopyOf}
use Rattle.fsync_look.proofs.Copied.{goes_home, works, saw_more, keeps_own, copied}
use Rattle.fsync_look.proofs.logs.copy_log.Goals as goal

pub let_go-requires-clause-home : goal.let_go-requires-clause-home
let_go-requires-clause-home g c =
    subst (λ p. EachFrom p (Stands (IsLawfulLog (given_by c.args.shared.now)) (StandsAt (given_by c.args.shared.now)) c.hold_more.new.core.view)
    c.hold_more.new.core.held)
    (sym c.place.ensures)
    (goes_home
    (record {
      given = given_by c.args.shared.now;
      t = c.args.shared.now;
      nodes = c.args.nodes;
      number = c.args.number;
      before = c.args.core.now;
      holding = c.hold_more.new.core;
    })
    (record {
      table = c.requires.table;
      was = c.requires.work;
      within = c.requires.within;
      above = c.requires.above;
      work = c.hold_more.ensures.work;
      gains = c.hold_more.ensures.gains;
    }))

pub returns-clause-work : goal.returns-clause-work
returns-clause-work g c =
    works
    (record {
      given = given_by c.args.shared.now;
      t = c.args.shared.now;
      nodes = c.args.nodes;
      number = c.args.number;
      before = c.args.core.now;
      holding = c.hold_more.new.core;
    })
    (record {
      table = c.requires.table;
      was = c.requires.work;
      within = c.requires.within;
      above = c.requires.above;
      work = c.hold_more.ensures.work;
      gains = c.hold_more.ensures.gains;
    })
    c.let_go.new.self c.let_go.ensures.lets_go
    (c.let_go.ensures.left ∙ ap (λ p. left_below p c.hold_more.new.core.held) c.place.ensures) c.let_go.ensures.places

pub returns-clause-saw : goal.returns-clause-saw
returns-clause-saw g c =
    saw_more
    (record {
      given = given_by c.args.shared.now;
      t = c.args.shared.now;
      nodes = c.args.nodes;
      number = c.args.number;
      before = c.args.core.now;
      holding = c.hold_more.new.core;
    })
    (record {
      table = c.requires.table;
      was = c.requires.work;
      within = c.requires.within;
      above = c.requires.above;
      work = c.hold_more.ensures.work;
      gains = c.hold_more.ensures.gains;
    })
    c.let_go.new.self c.let_go.ensures.lets_go
    (c.let_go.ensures.left ∙ ap (λ p. left_below p c.hold_more.new.core.held) c.place.ensures) c.let_go.ensures.places

pub copy_asked-copy-requires-clause-own : goal.copy_asked-copy-requires-clause-own
copy_asked-copy-requires-clause-own g c =
    keeps_own
    (record {
      given = given_by c.args.shared.now;
      t = c.args.shared.now;
      nodes = c.args.nodes;
      number = c.args.number;
      before = c.args.core.now;
      holding = c.hold_more.new.core;
    })
    (record {
      table = c.requires.table;
      was = c.requires.work;
      within = c.requires.within;
      above = c.requires.above;
      work = c.hold_more.ensures.work;
      gains = c.hold_more.ensures.gains;
    })
    c.log_in.result.now c.log_in.ensures

pub returns-clause-copy : goal.returns-clause-copy
returns-clause-copy g c =
    IfOk-weaker c.copy_asked-copy.result (KeepsFor (is_one_of c.args.held.now) c.log_in.result.now.log)
    (IsCopyOf (given_by c.args.shared.now) c.args.nodes c.args.held.now c.args.core.now c.let_go.new.self c.args.number.0)
    (λ copy keeps. copied
    (record {
      given = given_by c.args.shared.now;
      t = c.args.shared.now;
      nodes = c.args.nodes;
      number = c.args.number;
      before = c.args.core.now;
      holding = c.hold_more.new.core;
    })
    (record {
      table = c.requires.table;
      was = c.requires.work;
      within = c.requires.within;
      above = c.requires.above;
      work = c.hold_more.ensures.work;
      gains = c.hold_more.ensures.gains;
    })
    c.let_go.new.self c.let_go.ensures.lets_go
    (c.let_go.ensures.left ∙ ap (λ p. left_below p c.hold_more.new.core.held) c.place.ensures) c.let_go.ensures.places c.args.held.now c.log_in.result.now copy
    c.log_in.ensures keeps)
    c.copy_asked-copy.ensures
