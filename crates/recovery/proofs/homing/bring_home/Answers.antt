-- The newest records come home one after another.
use Rattle.std.proofs.Common.{◌≤◌, subst}
use Rattle.sfs_image.specs.ImageOf.{IsImageOf}
use Rattle.journal_one.proofs.Kept.{IsLawful}
use Rattle.commit_one.proofs.Moments.{keeps_trans}
use Rattle.recovery.proofs.ClosedOnDisk.{no_answer}
use Rattle.recovery.proofs.RecordsHome.{all_home}
use Rattle.recovery.proofs.Undisturbed.{undisturbed-ran}
use Rattle.sfs_dev.proofs.Runs.{call_advances}
use Rattle.recovery.proofs.homing.bring_home.Goals as goal

pub returns-in_err-first-clause-home : goal.returns-in_err-first-clause-home
returns-in_err-first-clause-home g c opened parts are to =
    let view = g.D.Disk.view in
    let before = c.loop-first.invariant.keeps opened parts are to in
    record {
      keeps =
          keeps_trans (IsImageOf c.args.layout.now opened parts) (view c.args.disk.now) (view c.loop-first.disk)
          (view c.place_neighbours.new.disk) c.place_neighbours.ensures.ran.advances before
          (c.place_neighbours.ensures.keeps opened parts are before.now);
      full = no_answer _ c.from_residual.result c.from_residual.ensures.0;
    }

pub loop-first-preserved : goal.loop-first-preserved
loop-first-preserved g c =
    let view = g.D.Disk.view in
    record {
      so_far =
          undisturbed-ran (view c.args.disk.now) (view c.loop-first.disk)
          (view c.place_neighbours.new.disk) _ c.loop-first.invariant.so_far c.in_ok-first.ensures.ran;
      keeps = λ opened parts are to.
          let before = c.loop-first.invariant.keeps opened parts are to in
          keeps_trans (IsImageOf c.args.layout.now opened parts) (view c.args.disk.now) (view c.loop-first.disk)
          (view c.place_neighbours.new.disk) c.place_neighbours.ensures.ran.advances before
          (c.place_neighbours.ensures.keeps opened parts are before.now);
      home = c.in_ok-first.ensures.home c.loop-first.invariant.home;
    }

pub returns-clause-home : goal.returns-clause-home
returns-clause-home g c opened parts are to =
    let laws = g.met.D.Disk g.world.𝓛 g.world.𝓜 g.world.𝓡 ((λ s x. x), (λ x. x), (λ x. x), λ x. x) in
    let view = g.D.Disk.view in
    let mid = view c.loop-first.disk in
    let new = view c.sync.new.self in
    let lawful : IsLawful mid = record { whole = laws.whole c.loop-first.disk; read_is_left = laws.read_is_left c.loop-first.disk } in
    let reached : c.args.layout.now.inodes ≤ c.loop-first.first = subst (λ n. n ≤ c.loop-first.first) c.requires.stamps c.loop-first-test.false in
    all_home c.args.layout.now opened parts c.args.stamps.now c.args.records.now c.loop-first.first (view c.args.disk.now) mid new reached lawful are
    (call_advances mid new c.sync.result (laws.now_fits c.loop-first.disk) c.sync.ensures.call)
    c.loop-first.invariant.home (c.loop-first.invariant.keeps opened parts are to) c.sync.result
    (record { ok = c.sync.ensures.ok; err = c.sync.ensures.images; content = c.sync.ensures.content; call = c.sync.ensures.call })
