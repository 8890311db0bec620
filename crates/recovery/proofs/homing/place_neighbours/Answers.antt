-- The records of neighbours are written home.
use Rattle.std.proofs.Common.{Ok}
use Rattle.journal_one.proofs.Kept.{IsLawful}
use Rattle.recovery.proofs.RecordsHome.{records_kept, home_where_written}
use Rattle.recovery.proofs.homing.place_neighbours.Goals as goal

pub returns-in_err-write_records-clause-keeps : goal.returns-in_err-write_records-clause-keeps
returns-in_err-write_records-clause-keeps g c opened parts are to =
    let laws = g.met.D.Disk g.world.𝓛 g.world.𝓜 g.world.𝓡 ((λ s x. x), (λ x. x), (λ x. x), λ x. x) in
    let old = g.D.Disk.view c.args.disk.now in
    let new = g.D.Disk.view c.write_records.new.disk in
    let lawful : IsLawful old = record { whole = laws.whole c.args.disk.now; read_is_left = laws.read_is_left c.args.disk.now } in
    records_kept c.args.layout.now c.args.stamps.now c.args.records.now c.args.first c.neighbours_end-end.result c.neighbours_end-end.ensures
    c.requires.stamps c.requires.records c.told-records old new c.requires.layout lawful opened parts c.write_records.result c.write_records.ensures.write are to

pub returns-clause-keeps : goal.returns-clause-keeps
returns-clause-keeps g c opened parts are to =
    let laws = g.met.D.Disk g.world.𝓛 g.world.𝓜 g.world.𝓡 ((λ s x. x), (λ x. x), (λ x. x), λ x. x) in
    let old = g.D.Disk.view c.args.disk.now in
    let new = g.D.Disk.view c.write_records.new.disk in
    let lawful : IsLawful old = record { whole = laws.whole c.args.disk.now; read_is_left = laws.read_is_left c.args.disk.now } in
    records_kept c.args.layout.now c.args.stamps.now c.args.records.now c.args.first c.neighbours_end-end.result c.neighbours_end-end.ensures
    c.requires.stamps c.requires.records c.told-records old new c.requires.layout lawful opened parts c.write_records.result c.write_records.ensures.write are to

pub returns-clause-home : goal.returns-clause-home
returns-clause-home g c =
    let laws = g.met.D.Disk g.world.𝓛 g.world.𝓜 g.world.𝓡 ((λ s x. x), (λ x. x), (λ x. x), λ x. x) in
    let old = g.D.Disk.view c.args.disk.now in
    let new = g.D.Disk.view c.write_records.new.disk in
    let lawful : IsLawful old = record { whole = laws.whole c.args.disk.now; read_is_left = laws.read_is_left c.args.disk.now } in
    home_where_written c.args.layout.now c.args.stamps.now c.args.records.now c.args.first c.neighbours_end-end.result c.neighbours_end-end.ensures
    c.requires.stamps c.requires.records c.told-records old new c.requires.layout lawful (Ok c.in_ok-write_records.field-0) c.in_ok-write_records.ensures.write
