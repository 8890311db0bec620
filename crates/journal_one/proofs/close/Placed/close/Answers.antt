-- What the three calls of a close do, at each exit.
use Rattle.std.proofs.Common.{◌≡◌, refl, ap, subst}
use Rattle.journal_one.specs.Job.{Job, gate_piece}
use Rattle.journal_one.specs.Known.{AreAllPlaced, IsCopied, IsClosing, IsEnded, IsBetween}
use Rattle.journal_one.specs.Work.{job_of}
use Rattle.journal_one.proofs.Kept.{IsLawful, synced_rests}
use Rattle.journal_one.proofs.Spans.{Span, span_none, span_sync, span_write, span_tears}
use Rattle.sfs_base.proofs.BasicOptions.{on_err}
use Rattle.journal_one.proofs.Steps.{placed_between, closing_between, copied_then, closed_then}
use Rattle.journal_one.proofs.close.Placed.close.Goals as goal

pub returns-in_err-sync-clause-err : goal.returns-in_err-sync-clause-err
returns-in_err-sync-clause-err g c =
    let laws = g.met.D.Disk g.world.𝓛 g.world.𝓜 g.world.𝓡 ((λ s x. x), (λ x. x), (λ x. x), λ x. x) in
    let job = job_of c.self.inside.work in
    let at = (gate_piece c.args.self.place 0).at in
    let old = g.D.Disk.view c.args.disk.now in
    let first = g.D.Disk.view c.sync.new.disk in
    let lawful : IsLawful old = record { whole = laws.whole c.args.disk.now; read_is_left = laws.read_is_left c.args.disk.now } in
    let placed = placed_between job c.self.inside.work.sound old first (synced_rests old first c.sync.result lawful c.sync.ensures.sync) in
    on_err c.from_residual.result (subst (λ (j : Job). AreAllPlaced j old → IsBetween j first) c.self.view_is placed)

pub returns-in_err-work-clause-advances : goal.returns-in_err-work-clause-advances
returns-in_err-work-clause-advances g c =
    let laws = g.met.D.Disk g.world.𝓛 g.world.𝓜 g.world.𝓡 ((λ s x. x), (λ x. x), (λ x. x), λ x. x) in
    let job = job_of c.self.inside.work in
    let at = (gate_piece c.args.self.place 0).at in
    let old = g.D.Disk.view c.args.disk.now in
    let first = g.D.Disk.view c.sync.new.disk in
    let lawful : IsLawful old = record { whole = laws.whole c.args.disk.now; read_is_left = laws.read_is_left c.args.disk.now } in
    let one : Span at 1 old first =
    span_sync at 1 old old first (span_none at 1 old) (laws.now_fits c.args.disk.now) c.sync.result lawful c.sync.ensures.sync in
    let second = g.D.Disk.view c.shut_gate.new.disk in
    let same : (gate_piece job.place 0).at ≡ at = ap (λ (j : Job). (gate_piece j.place 0).at) c.self.view_is in
    let two : Span at 1 old second =
    span_write at 1 old first second one (laws.now_fits c.sync.new.disk) (gate_piece job.place 0) c.shut_gate.result same refl c.shut_gate.ensures.write in
    two.goes

pub returns-in_err-work-clause-torn : goal.returns-in_err-work-clause-torn
returns-in_err-work-clause-torn g c =
    let laws = g.met.D.Disk g.world.𝓛 g.world.𝓜 g.world.𝓡 ((λ s x. x), (λ x. x), (λ x. x), λ x. x) in
    let job = job_of c.self.inside.work in
    let at = (gate_piece c.args.self.place 0).at in
    let old = g.D.Disk.view c.args.disk.now in
    let first = g.D.Disk.view c.sync.new.disk in
    let lawful : IsLawful old = record { whole = laws.whole c.args.disk.now; read_is_left = laws.read_is_left c.args.disk.now } in
    let one : Span at 1 old first =
    span_sync at 1 old old first (span_none at 1 old) (laws.now_fits c.args.disk.now) c.sync.result lawful c.sync.ensures.sync in
    let second = g.D.Disk.view c.shut_gate.new.disk in
    let same : (gate_piece job.place 0).at ≡ at = ap (λ (j : Job). (gate_piece j.place 0).at) c.self.view_is in
    let two : Span at 1 old second =
    span_write at 1 old first second one (laws.now_fits c.sync.new.disk) (gate_piece job.place 0) c.shut_gate.result same refl c.shut_gate.ensures.write in
    span_tears at 1 old second two

pub returns-in_err-work-clause-err : goal.returns-in_err-work-clause-err
returns-in_err-work-clause-err g c =
    let laws = g.met.D.Disk g.world.𝓛 g.world.𝓜 g.world.𝓡 ((λ s x. x), (λ x. x), (λ x. x), λ x. x) in
    let job = job_of c.self.inside.work in
    let at = (gate_piece c.args.self.place 0).at in
    let old = g.D.Disk.view c.args.disk.now in
    let first = g.D.Disk.view c.sync.new.disk in
    let lawful : IsLawful old = record { whole = laws.whole c.args.disk.now; read_is_left = laws.read_is_left c.args.disk.now } in
    let lawful_first : IsLawful first = record { whole = laws.whole c.sync.new.disk; read_is_left = laws.read_is_left c.sync.new.disk } in
    let rests = synced_rests old first c.sync.result lawful c.sync.ensures.sync in
    let second = g.D.Disk.view c.shut_gate.new.disk in
    let doubted : IsCopied job first → IsBetween job second = c.in_err-work.ensures.err in
    let after : AreAllPlaced job old → IsBetween job second =
    λ knows. doubted (copied_then job c.self.inside.work.sound old first rests c.in_ok-sync.ensures.sync.ok knows) in
    on_err c.from_residual-in_err-work.result (subst (λ (j : Job). AreAllPlaced j old → IsBetween j second) c.self.view_is after)

pub returns-in_err-sync-2-clause-advances : goal.returns-in_err-sync-2-clause-advances
returns-in_err-sync-2-clause-advances g c =
    let laws = g.met.D.Disk g.world.𝓛 g.world.𝓜 g.world.𝓡 ((λ s x. x), (λ x. x), (λ x. x), λ x. x) in
    let job = job_of c.self.inside.work in
    let at = (gate_piece c.args.self.place 0).at in
    let old = g.D.Disk.view c.args.disk.now in
    let first = g.D.Disk.view c.sync.new.disk in
    let lawful : IsLawful old = record { whole = laws.whole c.args.disk.now; read_is_left = laws.read_is_left c.args.disk.now } in
    let one : Span at 1 old first =
    span_sync at 1 old old first (span_none at 1 old) (laws.now_fits c.args.disk.now) c.sync.result lawful c.sync.ensures.sync in
    let second = g.D.Disk.view c.shut_gate.new.disk in
    let same : (gate_piece job.place 0).at ≡ at = ap (λ (j : Job). (gate_piece j.place 0).at) c.self.view_is in
    let two : Span at 1 old second =
    span_write at 1 old first second one (laws.now_fits c.sync.new.disk) (gate_piece job.place 0) c.shut_gate.result same refl c.shut_gate.ensures.write in
    let lawful_second : IsLawful second = record { whole = laws.whole c.shut_gate.new.disk; read_is_left = laws.read_is_left c.shut_gate.new.disk } in
    let new = g.D.Disk.view c.sync-2.new.disk in
    let three : Span at 1 old new =
    span_sync at 1 old second new two (laws.now_fits c.shut_gate.new.disk) c.sync-2.result lawful_second c.sync-2.ensures.sync in
    three.goes

pub returns-in_err-sync-2-clause-torn : goal.returns-in_err-sync-2-clause-torn
returns-in_err-sync-2-clause-torn g c =
    let laws = g.met.D.Disk g.world.𝓛 g.world.𝓜 g.world.𝓡 ((λ s x. x), (λ x. x), (λ x. x), λ x. x) in
    let job = job_of c.self.inside.work in
    let at = (gate_piece c.args.self.place 0).at in
    let old = g.D.Disk.view c.args.disk.now in
    let first = g.D.Disk.view c.sync.new.disk in
    let lawful : IsLawful old = record { whole = laws.whole c.args.disk.now; read_is_left = laws.read_is_left c.args.disk.now } in
    let one : Span at 1 old first =
    span_sync at 1 old old first (span_none at 1 old) (laws.now_fits c.args.disk.now) c.sync.result lawful c.sync.ensures.sync in
    let second = g.D.Disk.view c.shut_gate.new.disk in
    let same : (gate_piece job.place 0).at ≡ at = ap (λ (j : Job). (gate_piece j.place 0).at) c.self.view_is in
    let two : Span at 1 old second =
    span_write at 1 old first second one (laws.now_fits c.sync.new.disk) (gate_piece job.place 0) c.shut_gate.result same refl c.shut_gate.ensures.write in
    let lawful_second : IsLawful second = record { whole = laws.whole c.shut_gate.new.disk; read_is_left = laws.read_is_left c.shut_gate.new.disk } in
    let new = g.D.Disk.view c.sync-2.new.disk in
    let three : Span at 1 old new =
    span_sync at 1 old second new two (laws.now_fits c.shut_gate.new.disk) c.sync-2.result lawful_second c.sync-2.ensures.sync in
    span_tears at 1 old new three

pub returns-in_err-sync-2-clause-err : goal.returns-in_err-sync-2-clause-err
returns-in_err-sync-2-clause-err g c =
    let laws = g.met.D.Disk g.world.𝓛 g.world.𝓜 g.world.𝓡 ((λ s x. x), (λ x. x), (λ x. x), λ x. x) in
    let job = job_of c.self.inside.work in
    let at = (gate_piece c.args.self.place 0).at in
    let old = g.D.Disk.view c.args.disk.now in
    let first = g.D.Disk.view c.sync.new.disk in
    let lawful : IsLawful old = record { whole = laws.whole c.args.disk.now; read_is_left = laws.read_is_left c.args.disk.now } in
    let lawful_first : IsLawful first = record { whole = laws.whole c.sync.new.disk; read_is_left = laws.read_is_left c.sync.new.disk } in
    let rests = synced_rests old first c.sync.result lawful c.sync.ensures.sync in
    let second = g.D.Disk.view c.shut_gate.new.disk in
    let lawful_second : IsLawful second = record { whole = laws.whole c.shut_gate.new.disk; read_is_left = laws.read_is_left c.shut_gate.new.disk } in
    let new = g.D.Disk.view c.sync-2.new.disk in
    let last = synced_rests second new c.sync-2.result lawful_second c.sync-2.ensures.sync in
    let closing : IsCopied job first → IsClosing job second = c.in_ok-work.ensures.closing in
    let shut : AreAllPlaced job old → IsClosing job second =
    λ knows. closing (copied_then job c.self.inside.work.sound old first rests c.in_ok-sync.ensures.sync.ok knows) in
    on_err c.from_residual-in_err-sync-2.result
    (subst (λ (j : Job). AreAllPlaced j old → IsBetween j new) c.self.view_is
    (λ knows. closing_between job c.self.inside.work.sound second new last (shut knows)))

pub returns-clause-advances : goal.returns-clause-advances
returns-clause-advances g c =
    let laws = g.met.D.Disk g.world.𝓛 g.world.𝓜 g.world.𝓡 ((λ s x. x), (λ x. x), (λ x. x), λ x. x) in
    let job = job_of c.self.inside.work in
    let at = (gate_piece c.args.self.place 0).at in
    let old = g.D.Disk.view c.args.disk.now in
    let first = g.D.Disk.view c.sync.new.disk in
    let lawful : IsLawful old = record { whole = laws.whole c.args.disk.now; read_is_left = laws.read_is_left c.args.disk.now } in
    let one : Span at 1 old first =
    span_sync at 1 old old first (span_none at 1 old) (laws.now_fits c.args.disk.now) c.sync.result lawful c.sync.ensures.sync in
    let second = g.D.Disk.view c.shut_gate.new.disk in
    let same : (gate_piece job.place 0).at ≡ at = ap (λ (j : Job). (gate_piece j.place 0).at) c.self.view_is in
    let two : Span at 1 old second =
    span_write at 1 old first second one (laws.now_fits c.sync.new.disk) (gate_piece job.place 0) c.shut_gate.result same refl c.shut_gate.ensures.write in
    let lawful_second : IsLawful second = record { whole = laws.whole c.shut_gate.new.disk; read_is_left = laws.read_is_left c.shut_gate.new.disk } in
    let new = g.D.Disk.view c.sync-2.new.disk in
    let three : Span at 1 old new =
    span_sync at 1 old second new two (laws.now_fits c.shut_gate.new.disk) c.sync-2.result lawful_second c.sync-2.ensures.sync in
    three.goes

pub returns-clause-torn : goal.returns-clause-torn
returns-clause-torn g c =
    let laws = g.met.D.Disk g.world.𝓛 g.world.𝓜 g.world.𝓡 ((λ s x. x), (λ x. x), (λ x. x), λ x. x) in
    let job = job_of c.self.inside.work in
    let at = (gate_piece c.args.self.place 0).at in
    let old = g.D.Disk.view c.args.disk.now in
    let first = g.D.Disk.view c.sync.new.disk in
    let lawful : IsLawful old = record { whole = laws.whole c.args.disk.now; read_is_left = laws.read_is_left c.args.disk.now } in
    let one : Span at 1 old first =
    span_sync at 1 old old first (span_none at 1 old) (laws.now_fits c.args.disk.now) c.sync.result lawful c.sync.ensures.sync in
    let second = g.D.Disk.view c.shut_gate.new.disk in
    let same : (gate_piece job.place 0).at ≡ at = ap (λ (j : Job). (gate_piece j.place 0).at) c.self.view_is in
    let two : Span at 1 old second =
    span_write at 1 old first second one (laws.now_fits c.sync.new.disk) (gate_piece job.place 0) c.shut_gate.result same refl c.shut_gate.ensures.write in
    let lawful_second : IsLawful second = record { whole = laws.whole c.shut_gate.new.disk; read_is_left = laws.read_is_left c.shut_gate.new.disk } in
    let new = g.D.Disk.view c.sync-2.new.disk in
    let three : Span at 1 old new =
    span_sync at 1 old second new two (laws.now_fits c.shut_gate.new.disk) c.sync-2.result lawful_second c.sync-2.ensures.sync in
    span_tears at 1 old new three

pub returns-clause-closed : goal.returns-clause-closed
returns-clause-closed g c =
    let laws = g.met.D.Disk g.world.𝓛 g.world.𝓜 g.world.𝓡 ((λ s x. x), (λ x. x), (λ x. x), λ x. x) in
    let job = job_of c.self.inside.work in
    let at = (gate_piece c.args.self.place 0).at in
    let old = g.D.Disk.view c.args.disk.now in
    let first = g.D.Disk.view c.sync.new.disk in
    let lawful : IsLawful old = record { whole = laws.whole c.args.disk.now; read_is_left = laws.read_is_left c.args.disk.now } in
    let lawful_first : IsLawful first = record { whole = laws.whole c.sync.new.disk; read_is_left = laws.read_is_left c.sync.new.disk } in
    let rests = synced_rests old first c.sync.result lawful c.sync.ensures.sync in
    let second = g.D.Disk.view c.shut_gate.new.disk in
    let lawful_second : IsLawful second = record { whole = laws.whole c.shut_gate.new.disk; read_is_left = laws.read_is_left c.shut_gate.new.disk } in
    let new = g.D.Disk.view c.sync-2.new.disk in
    let last = synced_rests second new c.sync-2.result lawful_second c.sync-2.ensures.sync in
    let closing : IsCopied job first → IsClosing job second = c.in_ok-work.ensures.closing in
    let shut : AreAllPlaced job old → IsClosing job second =
    λ knows. closing (copied_then job c.self.inside.work.sound old first rests c.in_ok-sync.ensures.sync.ok knows) in
    subst (λ (j : Job). AreAllPlaced j old → IsEnded j new) c.self.view_is
    (λ knows. closed_then job c.self.inside.work.sound second new last c.in_ok-sync-2.ensures.sync.ok (shut knows))
