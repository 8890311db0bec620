use Rattle.std.proofs.Common.{◌≡◌, ◌∙◌, map, refl, sym, subst, ap}
use Rattle.sfs_base.proofs.BasicOptions.{some_same}
use Rattle.tree_laws.specs.NameRow.{node_number}
use Rattle.stamp_table.specs.Table.{HoldsMore, Stands, EachFrom, left_below}
use Rattle.mem_values.specs.Start.{given_by}
use Rattle.mem_values.specs.Stands.{StandsAt}
use Rattle.mem_values.specs.Facts.{IsLawfulLog}
use Rattle.mem_values.specs.declared.cell.Cell.TheVariants as cell
use Rattle.mem_values.specs.declared.cell.PartCell.{PartCell}
use Rattle.mem_values.specs.Start.{FileHand}
use Rattle.fsync_end.specs.Trimming.{AreTrimmedOrBlank}
use Rattle.fsync_end.proofs.Trims.{LogTrim, MayTrim, log_some, value_some, log_there, log_held, may_tell, put_twice, goes_home, flushes, trims_part}
use Rattle.fsync_end.proofs.trimming.trim_part.Goals as goal

pub take_log-requires : goal.take_log-requires
take_log-requires g c =
    let s : LogTrim = record {
      given = given_by c.args.shared.now;
      t = c.args.shared.now;
      nodes = c.args.nodes;
      part = c.args.part;
      number = c.args.number;
      stamp = c.args.stamp.0;
      members = map node_number c.args.members.now;
      before = c.args.core.now;
      holding = c.hold_one.new.self;
    } in
    let may : MayTrim s = record {
      table = c.requires.table;
      at = c.requires.at;
      within = c.requires.within;
      above = c.requires.above;
      told = c.requires.told;
      holds = subst (λ p. HoldsMore (IsLawfulLog (given_by c.args.shared.now)) (StandsAt (given_by c.args.shared.now)) p c.args.core.now c.hold_one.new.self)
          c.place.ensures c.hold_one.ensures;
    } in
    log_some s may

pub put-requires : goal.put-requires
put-requires g c =
    let s : LogTrim = record {
      given = given_by c.args.shared.now;
      t = c.args.shared.now;
      nodes = c.args.nodes;
      part = c.args.part;
      number = c.args.number;
      stamp = c.args.stamp.0;
      members = map node_number c.args.members.now;
      before = c.args.core.now;
      holding = c.hold_one.new.self;
    } in
    let may : MayTrim s = record {
      table = c.requires.table;
      at = c.requires.at;
      within = c.requires.within;
      above = c.requires.above;
      told = c.requires.told;
      holds = subst (λ p. HoldsMore (IsLawfulLog (given_by c.args.shared.now)) (StandsAt (given_by c.args.shared.now)) p c.args.core.now c.hold_one.new.self)
          c.place.ensures c.hold_one.ensures;
    } in
    value_some s may c.take_log.ensures.held.0 c.take_log.new.core c.take_log.ensures.held.1

pub tell-requires-clause-may : goal.tell-requires-clause-may
tell-requires-clause-may g c =
    let s : LogTrim = record {
      given = given_by c.args.shared.now;
      t = c.args.shared.now;
      nodes = c.args.nodes;
      part = c.args.part;
      number = c.args.number;
      stamp = c.args.stamp.0;
      members = map node_number c.args.members.now;
      before = c.args.core.now;
      holding = c.hold_one.new.self;
    } in
    let may : MayTrim s = record {
      table = c.requires.table;
      at = c.requires.at;
      within = c.requires.within;
      above = c.requires.above;
      told = c.requires.told;
      holds = subst (λ p. HoldsMore (IsLawfulLog (given_by c.args.shared.now)) (StandsAt (given_by c.args.shared.now)) p c.args.core.now c.hold_one.new.self)
          c.place.ensures c.hold_one.ensures;
    } in
    may_tell s may c.put.new.core.view (ap (λ (h : FileHand). h.view) c.put.ensures ∙ ap (λ (h : FileHand). h.view) c.take_log.ensures.held.1)

pub let_go-requires-clause-home : goal.let_go-requires-clause-home
let_go-requires-clause-home g c =
    let s : LogTrim = record {
      given = given_by c.args.shared.now;
      t = c.args.shared.now;
      nodes = c.args.nodes;
      part = c.args.part;
      number = c.args.number;
      stamp = c.args.stamp.0;
      members = map node_number c.args.members.now;
      before = c.args.core.now;
      holding = c.hold_one.new.self;
    } in
    let may : MayTrim s = record {
      table = c.requires.table;
      at = c.requires.at;
      within = c.requires.within;
      above = c.requires.above;
      told = c.requires.told;
      holds = subst (λ p. HoldsMore (IsLawfulLog (given_by c.args.shared.now)) (StandsAt (given_by c.args.shared.now)) p c.args.core.now c.hold_one.new.self)
          c.place.ensures c.hold_one.ensures;
    } in
    let same : c.take_log.result.value ≡ (log_there s may).0 = some_same (sym c.take_log.ensures.part ∙ log_held s may) in
    let trims = subst (λ (p : PartCell). AreTrimmedOrBlank p.log (map node_number c.args.members.now) c.args.stamp.0 c.trimmed-log.result.value.log) same
    c.trimmed-log.ensures.log in
    let made : c.trimmed-log.result.value.made ≡ (log_there s may).0.made = c.trimmed-log.ensures.made ∙ ap (λ (p : PartCell). p.made) same in
    let put_is = put_twice s may c.take_log.ensures.held.0 (cell.Part c.trimmed-log.result) c.take_log.new.core c.put.new.core c.take_log.ensures.held.1
    c.put.ensures in
    subst (λ p. EachFrom p (Stands (IsLawfulLog (given_by c.args.shared.now)) (StandsAt (given_by c.args.shared.now)) c.tell.new.self.view)
    c.tell.new.self.held)
    (sym c.place-2.ensures)
    (goes_home s may (cell.Part c.trimmed-log.result) c.trimmed-log.result.value c.put.new.core c.tell.new.self refl trims made put_is c.tell.ensures)

pub returns-clause-at : goal.returns-clause-at
returns-clause-at g c =
    let s : LogTrim = record {
      given = given_by c.args.shared.now;
      t = c.args.shared.now;
      nodes = c.args.nodes;
      part = c.args.part;
      number = c.args.number;
      stamp = c.args.stamp.0;
      members = map node_number c.args.members.now;
      before = c.args.core.now;
      holding = c.hold_one.new.self;
    } in
    let may : MayTrim s = record {
      table = c.requires.table;
      at = c.requires.at;
      within = c.requires.within;
      above = c.requires.above;
      told = c.requires.told;
      holds = subst (λ p. HoldsMore (IsLawfulLog (given_by c.args.shared.now)) (StandsAt (given_by c.args.shared.now)) p c.args.core.now c.hold_one.new.self)
          c.place.ensures c.hold_one.ensures;
    } in
    let same : c.take_log.result.value ≡ (log_there s may).0 = some_same (sym c.take_log.ensures.part ∙ log_held s may) in
    let trims = subst (λ (p : PartCell). AreTrimmedOrBlank p.log (map node_number c.args.members.now) c.args.stamp.0 c.trimmed-log.result.value.log) same
    c.trimmed-log.ensures.log in
    let made : c.trimmed-log.result.value.made ≡ (log_there s may).0.made = c.trimmed-log.ensures.made ∙ ap (λ (p : PartCell). p.made) same in
    let put_is = put_twice s may c.take_log.ensures.held.0 (cell.Part c.trimmed-log.result) c.take_log.new.core c.put.new.core c.take_log.ensures.held.1
    c.put.ensures in
    flushes s may (cell.Part c.trimmed-log.result) c.trimmed-log.result.value c.put.new.core c.tell.new.self refl trims made put_is c.tell.ensures
    c.let_go.new.self c.let_go.ensures.lets_go
    (c.let_go.ensures.left ∙ ap (λ p. left_below p c.tell.new.self.held) c.place-2.ensures) c.let_go.ensures.places

pub returns-clause-trims : goal.returns-clause-trims
returns-clause-trims g c =
    let s : LogTrim = record {
      given = given_by c.args.shared.now;
      t = c.args.shared.now;
      nodes = c.args.nodes;
      part = c.args.part;
      number = c.args.number;
      stamp = c.args.stamp.0;
      members = map node_number c.args.members.now;
      before = c.args.core.now;
      holding = c.hold_one.new.self;
    } in
    let may : MayTrim s = record {
      table = c.requires.table;
      at = c.requires.at;
      within = c.requires.within;
      above = c.requires.above;
      told = c.requires.told;
      holds = subst (λ p. HoldsMore (IsLawfulLog (given_by c.args.shared.now)) (StandsAt (given_by c.args.shared.now)) p c.args.core.now c.hold_one.new.self)
          c.place.ensures c.hold_one.ensures;
    } in
    let same : c.take_log.result.value ≡ (log_there s may).0 = some_same (sym c.take_log.ensures.part ∙ log_held s may) in
    let trims = subst (λ (p : PartCell). AreTrimmedOrBlank p.log (map node_number c.args.members.now) c.args.stamp.0 c.trimmed-log.result.value.log) same
    c.trimmed-log.ensures.log in
    let made : c.trimmed-log.result.value.made ≡ (log_there s may).0.made = c.trimmed-log.ensures.made ∙ ap (λ (p : PartCell). p.made) same in
    let put_is = put_twice s may c.take_log.ensures.held.0 (cell.Part c.trimmed-log.result) c.take_log.new.core c.put.new.core c.take_log.ensures.held.1
    c.put.ensures in
    trims_part s may (cell.Part c.trimmed-log.result) c.trimmed-log.result.value c.put.new.core c.tell.new.self refl trims made put_is c.tell.ensures
    c.let_go.new.self c.let_go.ensures.lets_go
    (c.let_go.ensures.left ∙ ap (λ p. left_below p c.tell.new.self.held) c.place-2.ensures) c.let_go.ensures.places
