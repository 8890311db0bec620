use Rattle.std.proofs.Common.{subst}
use Rattle.journal_one.specs.Job.{IsJob}
use Rattle.journal_one.proofs.Kept.{IsLawful, synced_rests}
use Rattle.sfs_base.proofs.BasicOptions.{on_err}
use Rattle.journal_one.proofs.Steps.{copied_then, durable_rests}
use Rattle.journal_one.proofs.close.Placed.copy.Goals as goal

pub returns-in_err-sync-clause-err : goal.returns-in_err-sync-clause-err
returns-in_err-sync-clause-err g c =
    let laws = g.met.D.Disk g.world.𝓛 g.world.𝓜 g.world.𝓡 ((λ s x. x), (λ x. x), (λ x. x), λ x. x) in
    let sound : IsJob c.args.self = subst IsJob c.self.view_is c.self.inside.work.sound in
    let old = g.D.Disk.view c.args.disk.now in
    let new = g.D.Disk.view c.sync.new.disk in
    let lawful : IsLawful old = record { whole = laws.whole c.args.disk.now; read_is_left = laws.read_is_left c.args.disk.now } in
    on_err c.from_residual.result (durable_rests c.args.self sound _ old new (synced_rests old new c.sync.result lawful c.sync.ensures.sync))

pub returns-clause-copied : goal.returns-clause-copied
returns-clause-copied g c =
    let laws = g.met.D.Disk g.world.𝓛 g.world.𝓜 g.world.𝓡 ((λ s x. x), (λ x. x), (λ x. x), λ x. x) in
    let sound : IsJob c.args.self = subst IsJob c.self.view_is c.self.inside.work.sound in
    let old = g.D.Disk.view c.args.disk.now in
    let new = g.D.Disk.view c.sync.new.disk in
    let lawful : IsLawful old = record { whole = laws.whole c.args.disk.now; read_is_left = laws.read_is_left c.args.disk.now } in
    copied_then c.args.self sound old new (synced_rests old new c.sync.result lawful c.sync.ensures.sync) c.in_ok-sync.ensures.sync.ok
