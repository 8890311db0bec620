-- What the three calls that make a slot durable leave, at each exit.
use Rattle.std.proofs.Common.{◌≡◌, arith, subst, sym, ◌∙◌}
use Rattle.std.specs.Prelude.{OnOk}
use Rattle.std.proofs.lemmas.Result.{err_from_is_err_and, on_ok_weaker}
use Rattle.sfs_base.proofs.BasicOptions.{on_ok}
use Rattle.sfs_dev.specs.Run.{Advances}
use Rattle.sfs_dev.proofs.Runs.{GoesOn-trans}
use Rattle.journal_one.specs.Calls.{IsWrite}
use Rattle.journal_one.specs.Job.{Job, gate_piece}
use Rattle.journal_one.specs.Known.{AreFilled, IsSealed, IsOpened, IsDurable}
use Rattle.journal_one.proofs.Kept.{IsLawful}
use Rattle.journal_one.proofs.Places.{fresh_whole}
use Rattle.commit_one.specs.Carried.{Opens}
use Rattle.commit_one.proofs.Gates.{seal_keeps, seal_later, gate_tells, gate_later, settle_tells, settle_later, settle_leaves}
use Rattle.sfs_dev.proofs.Runs.{call_advances}
use Rattle.commit_one.proofs.steps.make_durable.Goals as goal

pub returns-in_err-seal-clause-opens : goal.returns-in_err-seal-clause-opens
returns-in_err-seal-clause-opens g c parts new is change knows leaves =
    let laws = g.met.D.Disk g.world.𝓛 g.world.𝓜 g.world.𝓡 ((λ s x. x), (λ x. x), (λ x. x), λ x. x) in
    let view = g.D.Disk.view in
    let job = c.args.filled in
    let old = view c.args.disk.now in
    let first = view c.seal.new.disk in
    let lawful : IsLawful old = record { whole = laws.whole c.args.disk.now; read_is_left = laws.read_is_left c.args.disk.now } in
    let err = err_from_is_err_and c.from_residual.result c.from_residual.ensures.1 in
    subst (λ r. Opens job parts new old first r) (sym err.1)
    (record {
      told = (seal_keeps job is parts new change old first c.seal.result c.seal.ensures.sync lawful leaves).told;
      later = seal_later job is parts new change old first c.seal.result c.seal.ensures.sync lawful leaves;
      opened = tt;
    })

pub returns-in_err-open_gate-clause-goes : goal.returns-in_err-open_gate-clause-goes
returns-in_err-open_gate-clause-goes g c =
    let laws = g.met.D.Disk g.world.𝓛 g.world.𝓜 g.world.𝓡 ((λ s x. x), (λ x. x), (λ x. x), λ x. x) in
    let view = g.D.Disk.view in
    let job = c.args.filled in
    let old = view c.args.disk.now in
    let first = view c.seal.new.disk in
    let lawful : IsLawful old = record { whole = laws.whole c.args.disk.now; read_is_left = laws.read_is_left c.args.disk.now } in
    let second = view c.open_gate.new.disk in
    let write = subst (λ (j : Job). IsWrite (gate_piece j.place 1) first second c.open_gate.result) c.in_ok-seal.ensures.ok c.open_gate.ensures.write in
    let goes_one : Advances old first = call_advances old first c.seal.result (laws.now_fits c.args.disk.now) c.seal.ensures.sync.call in
    let goes_two : Advances old second =
    GoesOn-trans old first second goes_one (call_advances first second c.open_gate.result (laws.now_fits c.seal.new.disk) c.open_gate.ensures.write.call) in
    goes_two

pub returns-in_err-open_gate-clause-opens : goal.returns-in_err-open_gate-clause-opens
returns-in_err-open_gate-clause-opens g c parts new is change knows leaves =
    let laws = g.met.D.Disk g.world.𝓛 g.world.𝓜 g.world.𝓡 ((λ s x. x), (λ x. x), (λ x. x), λ x. x) in
    let view = g.D.Disk.view in
    let job = c.args.filled in
    let old = view c.args.disk.now in
    let first = view c.seal.new.disk in
    let lawful : IsLawful old = record { whole = laws.whole c.args.disk.now; read_is_left = laws.read_is_left c.args.disk.now } in
    let second = view c.open_gate.new.disk in
    let write = subst (λ (j : Job). IsWrite (gate_piece j.place 1) first second c.open_gate.result) c.in_ok-seal.ensures.ok c.open_gate.ensures.write in
    let filled : AreFilled job first = (c.in_ok-seal.ensures.sealed knows).filled in
    let gate_args = fresh_whole job is in
    let err = err_from_is_err_and c.from_residual-in_err-open_gate.result c.from_residual-in_err-open_gate.ensures.1 in
    subst (λ r. Opens job parts new old second r) (sym err.1)
    (record {
      told =
          gate_tells job is parts new change old first c.seal.result c.seal.ensures.sync lawful leaves second c.open_gate.result write
          (laws.now_fits c.seal.new.disk) filled gate_args;
      later =
          gate_later job is parts new change old first c.seal.result c.seal.ensures.sync lawful leaves second c.open_gate.result write
          (laws.now_fits c.seal.new.disk) filled gate_args;
      opened = tt;
    })

pub returns-clause-goes : goal.returns-clause-goes
returns-clause-goes g c =
    let laws = g.met.D.Disk g.world.𝓛 g.world.𝓜 g.world.𝓡 ((λ s x. x), (λ x. x), (λ x. x), λ x. x) in
    let view = g.D.Disk.view in
    let job = c.args.filled in
    let old = view c.args.disk.now in
    let first = view c.seal.new.disk in
    let lawful : IsLawful old = record { whole = laws.whole c.args.disk.now; read_is_left = laws.read_is_left c.args.disk.now } in
    let second = view c.open_gate.new.disk in
    let write = subst (λ (j : Job). IsWrite (gate_piece j.place 1) first second c.open_gate.result) c.in_ok-seal.ensures.ok c.open_gate.ensures.write in
    let now = view c.settle.new.disk in
    let lawful_second : IsLawful second = record { whole = laws.whole c.open_gate.new.disk; read_is_left = laws.read_is_left c.open_gate.new.disk } in
    let goes_one : Advances old first = call_advances old first c.seal.result (laws.now_fits c.args.disk.now) c.seal.ensures.sync.call in
    let goes_two : Advances old second =
    GoesOn-trans old first second goes_one (call_advances first second c.open_gate.result (laws.now_fits c.seal.new.disk) c.open_gate.ensures.write.call) in
    GoesOn-trans old second now goes_two (call_advances second now c.settle.result (laws.now_fits c.open_gate.new.disk) c.settle.ensures.sync.call)

pub returns-clause-time : goal.returns-clause-time
returns-clause-time g c =
    let laws = g.met.D.Disk g.world.𝓛 g.world.𝓜 g.world.𝓡 ((λ s x. x), (λ x. x), (λ x. x), λ x. x) in
    let view = g.D.Disk.view in
    let job = c.args.filled in
    let old = view c.args.disk.now in
    let first = view c.seal.new.disk in
    let lawful : IsLawful old = record { whole = laws.whole c.args.disk.now; read_is_left = laws.read_is_left c.args.disk.now } in
    record {
      most =
          λ counts. omega
          (arith, c.seal.ensures.sync.call.time.counted, c.open_gate.ensures.write.call.time.counted, c.settle.ensures.sync.call.time.counted, counts);
      all =
          on_ok c.settle.result
          (λ counts. omega
          (arith, c.seal.ensures.sync.call.time.counted, c.open_gate.ensures.write.call.time.counted, c.settle.ensures.sync.call.time.counted, counts));
    }

pub returns-clause-durable : goal.returns-clause-durable
returns-clause-durable g c =
    let laws = g.met.D.Disk g.world.𝓛 g.world.𝓜 g.world.𝓡 ((λ s x. x), (λ x. x), (λ x. x), λ x. x) in
    let view = g.D.Disk.view in
    let job = c.args.filled in
    let old = view c.args.disk.now in
    let first = view c.seal.new.disk in
    let lawful : IsLawful old = record { whole = laws.whole c.args.disk.now; read_is_left = laws.read_is_left c.args.disk.now } in
    let second = view c.open_gate.new.disk in
    let write = subst (λ (j : Job). IsWrite (gate_piece j.place 1) first second c.open_gate.result) c.in_ok-seal.ensures.ok c.open_gate.ensures.write in
    let now = view c.settle.new.disk in
    let lawful_second : IsLawful second = record { whole = laws.whole c.open_gate.new.disk; read_is_left = laws.read_is_left c.open_gate.new.disk } in
    let same : c.in_ok-open_gate.field-0 ≡ job = c.in_ok-open_gate.ensures.ok ∙ c.in_ok-seal.ensures.ok in
    let opened : IsSealed job first → IsOpened job second =
    subst (λ (j : Job). IsSealed j first → IsOpened j second) c.in_ok-seal.ensures.ok c.in_ok-open_gate.ensures.opened in
    let durable : OnOk c.settle.result (IsOpened job second → IsDurable job 0 now) =
    subst (λ (j : Job). OnOk c.settle.result (IsOpened j second → IsDurable j 0 now)) same c.settle.ensures.durable in
    on_ok_weaker c.settle.result (λ last knows. last (opened (c.in_ok-seal.ensures.sealed knows))) durable

pub returns-clause-opens : goal.returns-clause-opens
returns-clause-opens g c parts new is change knows leaves =
    let laws = g.met.D.Disk g.world.𝓛 g.world.𝓜 g.world.𝓡 ((λ s x. x), (λ x. x), (λ x. x), λ x. x) in
    let view = g.D.Disk.view in
    let job = c.args.filled in
    let old = view c.args.disk.now in
    let first = view c.seal.new.disk in
    let lawful : IsLawful old = record { whole = laws.whole c.args.disk.now; read_is_left = laws.read_is_left c.args.disk.now } in
    let second = view c.open_gate.new.disk in
    let write = subst (λ (j : Job). IsWrite (gate_piece j.place 1) first second c.open_gate.result) c.in_ok-seal.ensures.ok c.open_gate.ensures.write in
    let now = view c.settle.new.disk in
    let lawful_second : IsLawful second = record { whole = laws.whole c.open_gate.new.disk; read_is_left = laws.read_is_left c.open_gate.new.disk } in
    let same : c.in_ok-open_gate.field-0 ≡ job = c.in_ok-open_gate.ensures.ok ∙ c.in_ok-seal.ensures.ok in
    let opened : IsSealed job first → IsOpened job second =
    subst (λ (j : Job). IsSealed j first → IsOpened j second) c.in_ok-seal.ensures.ok c.in_ok-open_gate.ensures.opened in
    let durable : OnOk c.settle.result (IsOpened job second → IsDurable job 0 now) =
    subst (λ (j : Job). OnOk c.settle.result (IsOpened j second → IsDurable j 0 now)) same c.settle.ensures.durable in
    let filled : AreFilled job first = (c.in_ok-seal.ensures.sealed knows).filled in
    let gate_args = fresh_whole job is in
    record {
      told =
          settle_tells job is parts new change old first c.seal.result c.seal.ensures.sync lawful leaves second c.open_gate.result write
          (laws.now_fits c.seal.new.disk) filled gate_args now c.settle.result c.settle.ensures.sync (laws.now_fits c.open_gate.new.disk) lawful_second;
      later =
          settle_later job is parts new change old first c.seal.result c.seal.ensures.sync lawful leaves second c.open_gate.result write
          (laws.now_fits c.seal.new.disk) filled gate_args now c.settle.result c.settle.ensures.sync (laws.now_fits c.open_gate.new.disk) lawful_second;
      opened =
          on_ok_weaker c.settle.result
          (λ last. settle_leaves job is parts new change old first c.seal.result c.seal.ensures.sync lawful leaves second c.open_gate.result write
          (laws.now_fits c.seal.new.disk) filled gate_args now c.settle.result c.settle.ensures.sync (laws.now_fits c.open_gate.new.disk) lawful_second
          (last (opened (c.in_ok-seal.ensures.sealed knows)))) durable;
    }
