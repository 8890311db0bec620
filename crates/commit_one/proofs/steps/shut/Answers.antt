-- What the three calls that close a slot leave, at each exit.
use Rattle.std.proofs.Common.{◌≡◌, arith, subst, sym, ◌∙◌}
use Rattle.std.specs.Prelude.{OnOk}
use Rattle.std.proofs.lemmas.Result.{err_from_is_err_and, on_ok_weaker}
use Rattle.sfs_base.proofs.BasicOptions.{on_ok}
use Rattle.sfs_dev.specs.Run.{Advances}
use Rattle.sfs_dev.proofs.Runs.{GoesOn-trans}
use Rattle.journal_one.specs.Calls.{IsWrite}
use Rattle.journal_one.specs.Job.{Job, gate_piece}
use Rattle.journal_one.specs.Known.{IsCopied, IsClosing, IsEnded}
use Rattle.journal_one.proofs.Kept.{IsLawful}
use Rattle.commit_one.specs.Carried.{Shuts}
use Rattle.commit_one.proofs.Gates.{copy_keeps, copy_later, shut_tells, shut_later, finish_tells, finish_later, finish_leaves}
use Rattle.sfs_dev.proofs.Runs.{call_advances}
use Rattle.commit_one.proofs.steps.shut.Goals as goal

pub returns-in_err-copy-clause-shuts : goal.returns-in_err-copy-clause-shuts
returns-in_err-copy-clause-shuts g c parts new is change knows leaves =
    let laws = g.met.D.Disk g.world.𝓛 g.world.𝓜 g.world.𝓡 ((λ s x. x), (λ x. x), (λ x. x), λ x. x) in
    let view = g.D.Disk.view in
    let job = c.args.placed in
    let old = view c.args.disk.now in
    let first = view c.copy.new.disk in
    let lawful : IsLawful old = record { whole = laws.whole c.args.disk.now; read_is_left = laws.read_is_left c.args.disk.now } in
    let err = err_from_is_err_and c.from_residual.result c.from_residual.ensures.1 in
    subst (λ r. Shuts job parts new old first r) (sym err.1)
    (record {
      told = (copy_keeps job is parts new change old first c.copy.result c.copy.ensures.sync lawful leaves).told;
      later = copy_later job is parts new change old first c.copy.result c.copy.ensures.sync lawful leaves;
      ended = tt;
    })

pub returns-in_err-shut_gate-clause-goes : goal.returns-in_err-shut_gate-clause-goes
returns-in_err-shut_gate-clause-goes g c =
    let laws = g.met.D.Disk g.world.𝓛 g.world.𝓜 g.world.𝓡 ((λ s x. x), (λ x. x), (λ x. x), λ x. x) in
    let view = g.D.Disk.view in
    let job = c.args.placed in
    let old = view c.args.disk.now in
    let first = view c.copy.new.disk in
    let lawful : IsLawful old = record { whole = laws.whole c.args.disk.now; read_is_left = laws.read_is_left c.args.disk.now } in
    let second = view c.shut_gate.new.disk in
    let write = subst (λ (j : Job). IsWrite (gate_piece j.place 0) first second c.shut_gate.result) c.in_ok-copy.ensures.ok c.shut_gate.ensures.write in
    let goes_one : Advances old first = call_advances old first c.copy.result (laws.now_fits c.args.disk.now) c.copy.ensures.sync.call in
    let goes_two : Advances old second =
    GoesOn-trans old first second goes_one (call_advances first second c.shut_gate.result (laws.now_fits c.copy.new.disk) c.shut_gate.ensures.write.call) in
    goes_two

pub returns-in_err-shut_gate-clause-shuts : goal.returns-in_err-shut_gate-clause-shuts
returns-in_err-shut_gate-clause-shuts g c parts new is change knows leaves =
    let laws = g.met.D.Disk g.world.𝓛 g.world.𝓜 g.world.𝓡 ((λ s x. x), (λ x. x), (λ x. x), λ x. x) in
    let view = g.D.Disk.view in
    let job = c.args.placed in
    let old = view c.args.disk.now in
    let first = view c.copy.new.disk in
    let lawful : IsLawful old = record { whole = laws.whole c.args.disk.now; read_is_left = laws.read_is_left c.args.disk.now } in
    let second = view c.shut_gate.new.disk in
    let write = subst (λ (j : Job). IsWrite (gate_piece j.place 0) first second c.shut_gate.result) c.in_ok-copy.ensures.ok c.shut_gate.ensures.write in
    let filled = c.in_ok-copy.ensures.copied knows in
    let err = err_from_is_err_and c.from_residual-in_err-shut_gate.result c.from_residual-in_err-shut_gate.ensures.1 in
    subst (λ r. Shuts job parts new old second r) (sym err.1)
    (record {
      told =
          shut_tells job is parts new change old first c.copy.result c.copy.ensures.sync lawful leaves second c.shut_gate.result write
          (laws.now_fits c.copy.new.disk) filled;
      later =
          shut_later job is parts new change old first c.copy.result c.copy.ensures.sync lawful leaves second c.shut_gate.result write
          (laws.now_fits c.copy.new.disk) filled;
      ended = tt;
    })

pub returns-clause-goes : goal.returns-clause-goes
returns-clause-goes g c =
    let laws = g.met.D.Disk g.world.𝓛 g.world.𝓜 g.world.𝓡 ((λ s x. x), (λ x. x), (λ x. x), λ x. x) in
    let view = g.D.Disk.view in
    let job = c.args.placed in
    let old = view c.args.disk.now in
    let first = view c.copy.new.disk in
    let lawful : IsLawful old = record { whole = laws.whole c.args.disk.now; read_is_left = laws.read_is_left c.args.disk.now } in
    let second = view c.shut_gate.new.disk in
    let write = subst (λ (j : Job). IsWrite (gate_piece j.place 0) first second c.shut_gate.result) c.in_ok-copy.ensures.ok c.shut_gate.ensures.write in
    let now = view c.finish.new.disk in
    let lawful_second : IsLawful second = record { whole = laws.whole c.shut_gate.new.disk; read_is_left = laws.read_is_left c.shut_gate.new.disk } in
    let goes_one : Advances old first = call_advances old first c.copy.result (laws.now_fits c.args.disk.now) c.copy.ensures.sync.call in
    let goes_two : Advances old second =
    GoesOn-trans old first second goes_one (call_advances first second c.shut_gate.result (laws.now_fits c.copy.new.disk) c.shut_gate.ensures.write.call) in
    GoesOn-trans old second now goes_two (call_advances second now c.finish.result (laws.now_fits c.shut_gate.new.disk) c.finish.ensures.sync.call)

pub returns-clause-time : goal.returns-clause-time
returns-clause-time g c =
    let laws = g.met.D.Disk g.world.𝓛 g.world.𝓜 g.world.𝓡 ((λ s x. x), (λ x. x), (λ x. x), λ x. x) in
    let view = g.D.Disk.view in
    let job = c.args.placed in
    let old = view c.args.disk.now in
    let first = view c.copy.new.disk in
    let lawful : IsLawful old = record { whole = laws.whole c.args.disk.now; read_is_left = laws.read_is_left c.args.disk.now } in
    record {
      most =
          λ counts. omega
          (arith, c.copy.ensures.sync.call.time.counted, c.shut_gate.ensures.write.call.time.counted, c.finish.ensures.sync.call.time.counted, counts);
      all =
          on_ok c.finish.result
          (λ counts. omega
          (arith, c.copy.ensures.sync.call.time.counted, c.shut_gate.ensures.write.call.time.counted, c.finish.ensures.sync.call.time.counted, counts));
    }

pub returns-clause-closed : goal.returns-clause-closed
returns-clause-closed g c =
    let laws = g.met.D.Disk g.world.𝓛 g.world.𝓜 g.world.𝓡 ((λ s x. x), (λ x. x), (λ x. x), λ x. x) in
    let view = g.D.Disk.view in
    let job = c.args.placed in
    let old = view c.args.disk.now in
    let first = view c.copy.new.disk in
    let lawful : IsLawful old = record { whole = laws.whole c.args.disk.now; read_is_left = laws.read_is_left c.args.disk.now } in
    let second = view c.shut_gate.new.disk in
    let write = subst (λ (j : Job). IsWrite (gate_piece j.place 0) first second c.shut_gate.result) c.in_ok-copy.ensures.ok c.shut_gate.ensures.write in
    let now = view c.finish.new.disk in
    let lawful_second : IsLawful second = record { whole = laws.whole c.shut_gate.new.disk; read_is_left = laws.read_is_left c.shut_gate.new.disk } in
    let same : c.in_ok-shut_gate.field-0 ≡ job = c.in_ok-shut_gate.ensures.ok ∙ c.in_ok-copy.ensures.ok in
    let closing : IsCopied job first → IsClosing job second =
    subst (λ (j : Job). IsCopied j first → IsClosing j second) c.in_ok-copy.ensures.ok c.in_ok-shut_gate.ensures.closing in
    let closed : OnOk c.finish.result (IsClosing job second → IsEnded job now) =
    subst (λ (j : Job). OnOk c.finish.result (IsClosing j second → IsEnded j now)) same c.finish.ensures.closed in
    on_ok_weaker c.finish.result (λ last knows. last (closing (c.in_ok-copy.ensures.copied knows))) closed

pub returns-clause-shuts : goal.returns-clause-shuts
returns-clause-shuts g c parts new is change knows leaves =
    let laws = g.met.D.Disk g.world.𝓛 g.world.𝓜 g.world.𝓡 ((λ s x. x), (λ x. x), (λ x. x), λ x. x) in
    let view = g.D.Disk.view in
    let job = c.args.placed in
    let old = view c.args.disk.now in
    let first = view c.copy.new.disk in
    let lawful : IsLawful old = record { whole = laws.whole c.args.disk.now; read_is_left = laws.read_is_left c.args.disk.now } in
    let second = view c.shut_gate.new.disk in
    let write = subst (λ (j : Job). IsWrite (gate_piece j.place 0) first second c.shut_gate.result) c.in_ok-copy.ensures.ok c.shut_gate.ensures.write in
    let now = view c.finish.new.disk in
    let lawful_second : IsLawful second = record { whole = laws.whole c.shut_gate.new.disk; read_is_left = laws.read_is_left c.shut_gate.new.disk } in
    let same : c.in_ok-shut_gate.field-0 ≡ job = c.in_ok-shut_gate.ensures.ok ∙ c.in_ok-copy.ensures.ok in
    let closing : IsCopied job first → IsClosing job second =
    subst (λ (j : Job). IsCopied j first → IsClosing j second) c.in_ok-copy.ensures.ok c.in_ok-shut_gate.ensures.closing in
    let closed : OnOk c.finish.result (IsClosing job second → IsEnded job now) =
    subst (λ (j : Job). OnOk c.finish.result (IsClosing j second → IsEnded j now)) same c.finish.ensures.closed in
    let filled = c.in_ok-copy.ensures.copied knows in
    record {
      told =
          finish_tells job is parts new change old first c.copy.result c.copy.ensures.sync lawful leaves second c.shut_gate.result write
          (laws.now_fits c.copy.new.disk) filled now c.finish.result c.finish.ensures.sync (laws.now_fits c.shut_gate.new.disk) lawful_second;
      later =
          finish_later job is parts new change old first c.copy.result c.copy.ensures.sync lawful leaves second c.shut_gate.result write
          (laws.now_fits c.copy.new.disk) filled now c.finish.result c.finish.ensures.sync (laws.now_fits c.shut_gate.new.disk) lawful_second;
      ended =
          on_ok_weaker c.finish.result
          (λ last. finish_leaves job is parts new change old first c.copy.result c.copy.ensures.sync lawful leaves second c.shut_gate.result write
          (laws.now_fits c.copy.new.disk) filled now c.finish.result c.finish.ensures.sync (laws.now_fits c.shut_gate.new.disk) lawful_second
          (last (closing (c.in_ok-copy.ensures.copied knows)))) closed;
    }
