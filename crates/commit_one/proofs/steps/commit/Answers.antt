-- What a whole commit leaves, at each exit.
use Rattle.std.proofs.Common.{◌≡◌, subst, sym, ◌∙◌, ap}
use Rattle.std.proofs.lemmas.Result.{err_from_is_err_and}
use Rattle.sfs_dev.proofs.Runs.{GoesOn-trans}
use Rattle.journal_one.specs.Job.{Job, IsJob}
use Rattle.journal_one.specs.Known.{IsFilled, IsDurable}
use Rattle.journal_one.specs.Stage.{Stage}
use Rattle.commit_one.specs.Carried.{Carries, TakesCalls, device_calls}
use Rattle.commit_one.specs.Change.{job_for}
use Rattle.commit_one.proofs.Parts.{fill_goes, fill_made, fill_keeps, is_filled, place_goes, place_made, place_keeps, is_placed}
use Rattle.commit_one.proofs.Whole.{Goes, OpenTells, ShutTells, second_calls, third_calls, now_calls, now_made, first_carried, second_carried, third_carried, now_carried, done_carried}
use Rattle.commit_one.proofs.steps.commit.Goals as goal

pub returns-in_err-filled-clause-carried : goal.returns-in_err-filled-clause-carried
returns-in_err-filled-clause-carried g c parts new change before =
    let view = g.D.Disk.view in
    let job = job_for c.args.idle c.args.packed c.args.stamp in
    let old = view c.args.disk.now in
    let first = view c.fill.new.disk in
    let begun : c.begin.result.job ≡ job = c.begin.ensures.job in
    let fills = fill_goes c.begin.result job begun c.begin.ensures.done old first c.fill.ensures.goes c.fill.ensures.time.most in
    let sound : IsJob job = subst IsJob begun c.begin.ensures.sound in
    let keeps = fill_keeps c.begin.result job begun c.begin.ensures.done old first c.fill.ensures.keeps in
    let err = err_from_is_err_and c.from_residual.result c.from_residual.ensures.1 in
    subst (λ r. Carries job parts new old first r) (sym err.1) (first_carried job sound parts new change old before first fills keeps _)

pub returns-in_err-durable-clause-goes : goal.returns-in_err-durable-clause-goes
returns-in_err-durable-clause-goes g c =
    let view = g.D.Disk.view in
    let old = view c.args.disk.now in
    let first = view c.fill.new.disk in
    let second = view c.make_durable.new.disk in
    GoesOn-trans old first second c.fill.ensures.goes c.make_durable.ensures.goes

pub returns-in_err-durable-clause-time : goal.returns-in_err-durable-clause-time
returns-in_err-durable-clause-time g c =
    let view = g.D.Disk.view in
    let job = job_for c.args.idle c.args.packed c.args.stamp in
    let old = view c.args.disk.now in
    let first = view c.fill.new.disk in
    let begun : c.begin.result.job ≡ job = c.begin.ensures.job in
    let fills = fill_goes c.begin.result job begun c.begin.ensures.done old first c.fill.ensures.goes c.fill.ensures.time.most in
    let second = view c.make_durable.new.disk in
    let filled = fill_made c.begin.result job begun c.begin.ensures.done old first c.in_ok-filled.ensures.time.all in
    let opens : Goes 3 first second = record { on = c.make_durable.ensures.goes; most = c.make_durable.ensures.time.most } in
    let err = err_from_is_err_and c.from_residual-in_err-durable.result c.from_residual-in_err-durable.ensures.1 in
    subst (λ r. TakesCalls (device_calls job) old second r) (sym err.1) (second_calls job old first second fills filled opens _)

pub returns-in_err-durable-clause-carried : goal.returns-in_err-durable-clause-carried
returns-in_err-durable-clause-carried g c parts new change before =
    let view = g.D.Disk.view in
    let job = job_for c.args.idle c.args.packed c.args.stamp in
    let old = view c.args.disk.now in
    let first = view c.fill.new.disk in
    let begun : c.begin.result.job ≡ job = c.begin.ensures.job in
    let fills = fill_goes c.begin.result job begun c.begin.ensures.done old first c.fill.ensures.goes c.fill.ensures.time.most in
    let sound : IsJob job = subst IsJob begun c.begin.ensures.sound in
    let keeps = fill_keeps c.begin.result job begun c.begin.ensures.done old first c.fill.ensures.keeps in
    let second = view c.make_durable.new.disk in
    let filled = fill_made c.begin.result job begun c.begin.ensures.done old first c.in_ok-filled.ensures.time.all in
    let opens : Goes 3 first second = record { on = c.make_durable.ensures.goes; most = c.make_durable.ensures.time.most } in
    let same : c.in_ok-filled.filled ≡ job = c.in_ok-filled.ensures.job ∙ begun in
    let all_filled = is_filled c.begin.result job begun c.begin.ensures.done old first c.in_ok-filled.ensures.filled in
    let tells = subst (λ (j : Job). OpenTells j first second c.make_durable.result) same c.make_durable.ensures.opens in
    let err = err_from_is_err_and c.from_residual-in_err-durable.result c.from_residual-in_err-durable.ensures.1 in
    subst (λ r. Carries job parts new old second r) (sym err.1) (second_carried job sound parts new change old before first fills keeps second c.make_durable.result filled all_filled opens tells _)

pub returns-in_err-placed-clause-goes : goal.returns-in_err-placed-clause-goes
returns-in_err-placed-clause-goes g c =
    let view = g.D.Disk.view in
    let old = view c.args.disk.now in
    let first = view c.fill.new.disk in
    let second = view c.make_durable.new.disk in
    let third = view c.place.new.disk in
    GoesOn-trans old second third (GoesOn-trans old first second c.fill.ensures.goes c.make_durable.ensures.goes) c.place.ensures.goes

pub returns-in_err-placed-clause-time : goal.returns-in_err-placed-clause-time
returns-in_err-placed-clause-time g c =
    let view = g.D.Disk.view in
    let job = job_for c.args.idle c.args.packed c.args.stamp in
    let old = view c.args.disk.now in
    let first = view c.fill.new.disk in
    let begun : c.begin.result.job ≡ job = c.begin.ensures.job in
    let fills = fill_goes c.begin.result job begun c.begin.ensures.done old first c.fill.ensures.goes c.fill.ensures.time.most in
    let second = view c.make_durable.new.disk in
    let filled = fill_made c.begin.result job begun c.begin.ensures.done old first c.in_ok-filled.ensures.time.all in
    let opens : Goes 3 first second = record { on = c.make_durable.ensures.goes; most = c.make_durable.ensures.time.most } in
    let same : c.in_ok-filled.filled ≡ job = c.in_ok-filled.ensures.job ∙ begun in
    let third = view c.place.new.disk in
    let stage = c.in_ok-durable.durable in
    let lies : stage.job ≡ job = ap (λ (s : Stage). s.job) c.in_ok-durable.ensures.job ∙ same in
    let none : stage.done ≡ 0 = ap (λ (s : Stage). s.done) c.in_ok-durable.ensures.job in
    let places = place_goes stage job lies none second third c.place.ensures.goes c.place.ensures.time.most in
    let err = err_from_is_err_and c.from_residual-in_err-placed.result c.from_residual-in_err-placed.ensures.1 in
    subst (λ r. TakesCalls (device_calls job) old third r) (sym err.1)
    (third_calls job old first second fills filled opens third c.in_ok-durable.ensures.time.all places _)

pub returns-in_err-placed-clause-carried : goal.returns-in_err-placed-clause-carried
returns-in_err-placed-clause-carried g c parts new change before =
    let view = g.D.Disk.view in
    let job = job_for c.args.idle c.args.packed c.args.stamp in
    let old = view c.args.disk.now in
    let first = view c.fill.new.disk in
    let begun : c.begin.result.job ≡ job = c.begin.ensures.job in
    let fills = fill_goes c.begin.result job begun c.begin.ensures.done old first c.fill.ensures.goes c.fill.ensures.time.most in
    let sound : IsJob job = subst IsJob begun c.begin.ensures.sound in
    let keeps = fill_keeps c.begin.result job begun c.begin.ensures.done old first c.fill.ensures.keeps in
    let second = view c.make_durable.new.disk in
    let filled = fill_made c.begin.result job begun c.begin.ensures.done old first c.in_ok-filled.ensures.time.all in
    let opens : Goes 3 first second = record { on = c.make_durable.ensures.goes; most = c.make_durable.ensures.time.most } in
    let same : c.in_ok-filled.filled ≡ job = c.in_ok-filled.ensures.job ∙ begun in
    let all_filled = is_filled c.begin.result job begun c.begin.ensures.done old first c.in_ok-filled.ensures.filled in
    let tells = subst (λ (j : Job). OpenTells j first second c.make_durable.result) same c.make_durable.ensures.opens in
    let third = view c.place.new.disk in
    let stage = c.in_ok-durable.durable in
    let lies : stage.job ≡ job = ap (λ (s : Stage). s.job) c.in_ok-durable.ensures.job ∙ same in
    let none : stage.done ≡ 0 = ap (λ (s : Stage). s.done) c.in_ok-durable.ensures.job in
    let places = place_goes stage job lies none second third c.place.ensures.goes c.place.ensures.time.most in
    let placing = place_keeps stage job lies none second third c.place.ensures.keeps in
    let durable = subst (λ (j : Job). IsFilled j first → IsDurable j 0 second) same c.in_ok-durable.ensures.durable in
    let err = err_from_is_err_and c.from_residual-in_err-placed.result c.from_residual-in_err-placed.ensures.1 in
    subst (λ r. Carries job parts new old third r) (sym err.1)
    (third_carried job sound parts new change old before first fills keeps second c.make_durable.result filled all_filled opens tells
    third _ c.in_ok-durable.was c.in_ok-durable.ensures.time.all durable places placing _)

pub returns-in_err-idle-clause-goes : goal.returns-in_err-idle-clause-goes
returns-in_err-idle-clause-goes g c =
    let view = g.D.Disk.view in
    let old = view c.args.disk.now in
    let first = view c.fill.new.disk in
    let second = view c.make_durable.new.disk in
    let third = view c.place.new.disk in
    let now = view c.shut.new.disk in
    GoesOn-trans old third now (GoesOn-trans old second third (GoesOn-trans old first second c.fill.ensures.goes c.make_durable.ensures.goes) c.place.ensures.goes) c.shut.ensures.goes

pub returns-in_err-idle-clause-time : goal.returns-in_err-idle-clause-time
returns-in_err-idle-clause-time g c =
    let view = g.D.Disk.view in
    let job = job_for c.args.idle c.args.packed c.args.stamp in
    let old = view c.args.disk.now in
    let first = view c.fill.new.disk in
    let begun : c.begin.result.job ≡ job = c.begin.ensures.job in
    let fills = fill_goes c.begin.result job begun c.begin.ensures.done old first c.fill.ensures.goes c.fill.ensures.time.most in
    let second = view c.make_durable.new.disk in
    let filled = fill_made c.begin.result job begun c.begin.ensures.done old first c.in_ok-filled.ensures.time.all in
    let opens : Goes 3 first second = record { on = c.make_durable.ensures.goes; most = c.make_durable.ensures.time.most } in
    let same : c.in_ok-filled.filled ≡ job = c.in_ok-filled.ensures.job ∙ begun in
    let third = view c.place.new.disk in
    let stage = c.in_ok-durable.durable in
    let lies : stage.job ≡ job = ap (λ (s : Stage). s.job) c.in_ok-durable.ensures.job ∙ same in
    let none : stage.done ≡ 0 = ap (λ (s : Stage). s.done) c.in_ok-durable.ensures.job in
    let places = place_goes stage job lies none second third c.place.ensures.goes c.place.ensures.time.most in
    let now = view c.shut.new.disk in
    let placed = place_made stage job lies none second third c.in_ok-placed.ensures.time.all in
    let shuts : Goes 3 third now = record { on = c.shut.ensures.goes; most = c.shut.ensures.time.most } in
    let err = err_from_is_err_and c.from_residual-in_err-idle.result c.from_residual-in_err-idle.ensures.1 in
    subst (λ r. TakesCalls (device_calls job) old now r) (sym err.1)
    (record { most = now_calls job old first second fills filled opens third c.in_ok-durable.ensures.time.all places now placed shuts; all = tt })

pub returns-in_err-idle-clause-carried : goal.returns-in_err-idle-clause-carried
returns-in_err-idle-clause-carried g c parts new change before =
    let view = g.D.Disk.view in
    let job = job_for c.args.idle c.args.packed c.args.stamp in
    let old = view c.args.disk.now in
    let first = view c.fill.new.disk in
    let begun : c.begin.result.job ≡ job = c.begin.ensures.job in
    let fills = fill_goes c.begin.result job begun c.begin.ensures.done old first c.fill.ensures.goes c.fill.ensures.time.most in
    let sound : IsJob job = subst IsJob begun c.begin.ensures.sound in
    let keeps = fill_keeps c.begin.result job begun c.begin.ensures.done old first c.fill.ensures.keeps in
    let second = view c.make_durable.new.disk in
    let filled = fill_made c.begin.result job begun c.begin.ensures.done old first c.in_ok-filled.ensures.time.all in
    let opens : Goes 3 first second = record { on = c.make_durable.ensures.goes; most = c.make_durable.ensures.time.most } in
    let same : c.in_ok-filled.filled ≡ job = c.in_ok-filled.ensures.job ∙ begun in
    let all_filled = is_filled c.begin.result job begun c.begin.ensures.done old first c.in_ok-filled.ensures.filled in
    let tells = subst (λ (j : Job). OpenTells j first second c.make_durable.result) same c.make_durable.ensures.opens in
    let third = view c.place.new.disk in
    let stage = c.in_ok-durable.durable in
    let lies : stage.job ≡ job = ap (λ (s : Stage). s.job) c.in_ok-durable.ensures.job ∙ same in
    let none : stage.done ≡ 0 = ap (λ (s : Stage). s.done) c.in_ok-durable.ensures.job in
    let places = place_goes stage job lies none second third c.place.ensures.goes c.place.ensures.time.most in
    let placing = place_keeps stage job lies none second third c.place.ensures.keeps in
    let durable = subst (λ (j : Job). IsFilled j first → IsDurable j 0 second) same c.in_ok-durable.ensures.durable in
    let now = view c.shut.new.disk in
    let placed = place_made stage job lies none second third c.in_ok-placed.ensures.time.all in
    let shuts : Goes 3 third now = record { on = c.shut.ensures.goes; most = c.shut.ensures.time.most } in
    let all_placed = is_placed stage job lies none second third c.in_ok-placed.ensures.placed in
    let closes = subst (λ (j : Job). ShutTells j third now c.shut.result) (c.in_ok-placed.ensures.job ∙ lies) c.shut.ensures.shuts in
    let err = err_from_is_err_and c.from_residual-in_err-idle.result c.from_residual-in_err-idle.ensures.1 in
    subst (λ r. Carries job parts new old now r) (sym err.1)
    (now_carried job sound parts new change old before first fills keeps second c.make_durable.result filled all_filled opens tells
    third _ c.in_ok-durable.was c.in_ok-durable.ensures.time.all durable places placing now c.shut.result all_placed shuts closes _)

pub returns-clause-goes : goal.returns-clause-goes
returns-clause-goes g c =
    let view = g.D.Disk.view in
    let old = view c.args.disk.now in
    let first = view c.fill.new.disk in
    let second = view c.make_durable.new.disk in
    let third = view c.place.new.disk in
    let now = view c.shut.new.disk in
    GoesOn-trans old third now (GoesOn-trans old second third (GoesOn-trans old first second c.fill.ensures.goes c.make_durable.ensures.goes) c.place.ensures.goes) c.shut.ensures.goes

pub returns-clause-time : goal.returns-clause-time
returns-clause-time g c =
    let view = g.D.Disk.view in
    let job = job_for c.args.idle c.args.packed c.args.stamp in
    let old = view c.args.disk.now in
    let first = view c.fill.new.disk in
    let begun : c.begin.result.job ≡ job = c.begin.ensures.job in
    let fills = fill_goes c.begin.result job begun c.begin.ensures.done old first c.fill.ensures.goes c.fill.ensures.time.most in
    let second = view c.make_durable.new.disk in
    let filled = fill_made c.begin.result job begun c.begin.ensures.done old first c.in_ok-filled.ensures.time.all in
    let opens : Goes 3 first second = record { on = c.make_durable.ensures.goes; most = c.make_durable.ensures.time.most } in
    let same : c.in_ok-filled.filled ≡ job = c.in_ok-filled.ensures.job ∙ begun in
    let third = view c.place.new.disk in
    let stage = c.in_ok-durable.durable in
    let lies : stage.job ≡ job = ap (λ (s : Stage). s.job) c.in_ok-durable.ensures.job ∙ same in
    let none : stage.done ≡ 0 = ap (λ (s : Stage). s.done) c.in_ok-durable.ensures.job in
    let places = place_goes stage job lies none second third c.place.ensures.goes c.place.ensures.time.most in
    let now = view c.shut.new.disk in
    let placed = place_made stage job lies none second third c.in_ok-placed.ensures.time.all in
    let shuts : Goes 3 third now = record { on = c.shut.ensures.goes; most = c.shut.ensures.time.most } in
    let calls = now_calls job old first second fills filled opens third c.in_ok-durable.ensures.time.all places now placed shuts in
    let made = now_made job old first second fills filled opens third c.in_ok-durable.ensures.time.all places now placed shuts in
    record { most = calls; all = made c.in_ok-idle.ensures.time.all }

pub returns-clause-carried : goal.returns-clause-carried
returns-clause-carried g c parts new change before =
    let view = g.D.Disk.view in
    let job = job_for c.args.idle c.args.packed c.args.stamp in
    let old = view c.args.disk.now in
    let first = view c.fill.new.disk in
    let begun : c.begin.result.job ≡ job = c.begin.ensures.job in
    let fills = fill_goes c.begin.result job begun c.begin.ensures.done old first c.fill.ensures.goes c.fill.ensures.time.most in
    let sound : IsJob job = subst IsJob begun c.begin.ensures.sound in
    let keeps = fill_keeps c.begin.result job begun c.begin.ensures.done old first c.fill.ensures.keeps in
    let second = view c.make_durable.new.disk in
    let filled = fill_made c.begin.result job begun c.begin.ensures.done old first c.in_ok-filled.ensures.time.all in
    let opens : Goes 3 first second = record { on = c.make_durable.ensures.goes; most = c.make_durable.ensures.time.most } in
    let same : c.in_ok-filled.filled ≡ job = c.in_ok-filled.ensures.job ∙ begun in
    let all_filled = is_filled c.begin.result job begun c.begin.ensures.done old first c.in_ok-filled.ensures.filled in
    let tells = subst (λ (j : Job). OpenTells j first second c.make_durable.result) same c.make_durable.ensures.opens in
    let third = view c.place.new.disk in
    let stage = c.in_ok-durable.durable in
    let lies : stage.job ≡ job = ap (λ (s : Stage). s.job) c.in_ok-durable.ensures.job ∙ same in
    let none : stage.done ≡ 0 = ap (λ (s : Stage). s.done) c.in_ok-durable.ensures.job in
    let places = place_goes stage job lies none second third c.place.ensures.goes c.place.ensures.time.most in
    let placing = place_keeps stage job lies none second third c.place.ensures.keeps in
    let durable = subst (λ (j : Job). IsFilled j first → IsDurable j 0 second) same c.in_ok-durable.ensures.durable in
    let now = view c.shut.new.disk in
    let placed = place_made stage job lies none second third c.in_ok-placed.ensures.time.all in
    let shuts : Goes 3 third now = record { on = c.shut.ensures.goes; most = c.shut.ensures.time.most } in
    let all_placed = is_placed stage job lies none second third c.in_ok-placed.ensures.placed in
    let closes = subst (λ (j : Job). ShutTells j third now c.shut.result) (c.in_ok-placed.ensures.job ∙ lies) c.shut.ensures.shuts in
    done_carried job sound parts new change old before first fills keeps second c.make_durable.result filled all_filled opens tells
    third _ c.in_ok-durable.was c.in_ok-durable.ensures.time.all durable places placing now c.shut.result all_placed shuts closes _ _ c.in_ok-idle.was
