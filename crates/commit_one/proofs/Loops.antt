-- What the writes of a loop have done so far.
use Rattle.std.proofs.Common.{◌≡◌, ℕ, ◌+◌, ◌^◌, ◌<◌, List, length, Result, Ok, refl, sym, ◌∙◌, ap, subst, arith}
use Rattle.sfs_image.specs.ImageOf.{InodePart}
use Rattle.sfs_image.specs.Part.{Part}
use Rattle.sfs_dev.specs.Disk.{View}
use Rattle.sfs_dev.specs.Run.{Advances, CountsOn}
use Rattle.sfs_dev.proofs.Runs.{GoesOn-refl, GoesOn-trans}
use Rattle.journal_one.specs.Calls.{IsWrite}
use Rattle.journal_one.specs.Job.{Job, Piece, fill_count, fill_piece, table_piece, IsJob}
use Rattle.journal_one.specs.Known.{EachLeft, IsFilling, IsFilled, IsDurable, AreAllPlaced}
use Rattle.journal_one.specs.Stage.{Stage, left_to_fill, left_to_place, next_stage}
use Rattle.commit_one.specs.Carried.{Keeps}
use Rattle.commit_one.specs.Change.{IsBefore, IsByItsSlot, AreFree, IsChangeOf}
use Rattle.commit_one.proofs.Images.{fill_keeps, place_keeps}
use Rattle.sfs_dev.proofs.Runs.{call_advances}
use Rattle.commit_one.proofs.Moments.{keeps_none, keeps_trans, write_keeps, writes_told}

-- From the first stage, on a disk as it was, so many writes were made that a loop is at this stage, with some writes left to make.
pub record LoopsSoFar (left : Stage → ℕ) (first : Stage) (old : View) (stage : Stage) (now : View) : Type 0 where
  pub job : stage.job ≡ first.job
  pub some : 0 < left stage
  pub goes : Advances old now
  pub time : CountsOn now → now.now + left stage ≡ old.now + left first
  pub faults : now.faults ≡ old.faults

loops_none : (left : Stage → ℕ) (first : Stage) (disk : View) → 0 < left first → LoopsSoFar left first disk first disk
loops_none left first disk some = record { job = refl; some = some; goes = GoesOn-refl disk; time = λ counts. refl; faults = refl }

-- a write of a loop
module _ {V E : Type 0} (left : Stage → ℕ) (first stage : Stage) (old mid new : View) (piece : Piece) (result : Result V E)
    (before : LoopsSoFar left first old stage mid) (fits : mid.now < 2 ^ 64)
    (write : IsWrite piece mid new result) where
  loop_goes : Advances old new
  loop_goes = GoesOn-trans old mid new before.goes (call_advances mid new result fits write.call)

  -- it takes one call
  loop_time : CountsOn new → new.now + left stage ≡ old.now + left first + 1
  loop_time counts =
      let t = before.time (omega (arith, write.call.time.counted, counts)) in
      omega (arith, write.call.time.counted, counts, t)

-- a write that answered Ok, with more to come
loops_more : {V E : Type 0} (left : Stage → ℕ) (first stage next : Stage) (old mid new : View) (piece : Piece) (value : V) → LoopsSoFar left first old stage mid
    → mid.now < 2 ^ 64
    → IsWrite {V = V} {E = E} piece mid new (Ok value) → next.job ≡ stage.job → left stage ≡ left next + 1 → 1 < left stage → LoopsSoFar left first old next new
loops_more {V} {E} left first stage next old mid new piece value before fits write same one_less many =
    let result : Result V E = Ok value in
    record {
      job = same ∙ before.job;
      some = omega arith;
      goes = loop_goes left first stage old mid new piece result before fits write;
      time = λ counts. let t = loop_time left first stage old mid new piece result before fits write counts in omega (arith, t, one_less);
      faults = write.call.cause.kept ∙ before.faults;
    }

-- What the writes of a loop that fills the slot have done.
pub record FillsSoFar (first : Stage) (old : View) (stage : Stage) (now : View) : Type 0 where
  pub loop : LoopsSoFar left_to_fill first old stage now
  pub filled : IsFilling first.job first.done old → IsFilling first.job stage.done now
  pub keeps : (parts : ℕ → Part) → IsJob first.job → AreFree first.job parts → EachLeft old (IsBefore first.job parts)
      → Keeps (IsBefore first.job parts) old now

pub fills_none : (first : Stage) (disk : View) → 0 < left_to_fill first → FillsSoFar first disk first disk
fills_none first disk some = record {
  loop = loops_none left_to_fill first disk some;
  filled = λ knows. knows;
  keeps = λ parts is free leaves. keeps_none (IsBefore first.job parts) disk leaves;
}

-- a write of the loop
module _ {V E : Type 0} (first stage : Stage) (old mid new : View) (result : Result V E) (before : FillsSoFar first old stage mid) (fits : mid.now < 2 ^ 64)
    (write : IsWrite (fill_piece stage.job stage.done) mid new result)
    (whole : stage.done < length stage.job.fresh → length (fill_piece stage.job stage.done).bytes ≡ 4096) where
  pub fill_goes : Advances old new
  fill_goes = loop_goes left_to_fill first stage old mid new (fill_piece stage.job stage.done) result before.loop fits write

  pub fill_shows : (parts : ℕ → Part) → IsJob first.job → AreFree first.job parts → EachLeft old (IsBefore first.job parts)
      → Keeps (IsBefore first.job parts) old new
  fill_shows parts is free leaves =
      let sofar = before.keeps parts is free leaves in
      let same_job : IsWrite (fill_piece first.job stage.done) mid new result =
      subst (λ (j : Job). IsWrite (fill_piece j stage.done) mid new result) before.loop.job write in
      let same_whole : stage.done < length first.job.fresh → length (fill_piece first.job stage.done).bytes ≡ 4096 =
      subst (λ (j : Job). stage.done < length j.fresh → length (fill_piece j stage.done).bytes ≡ 4096) before.loop.job whole in
      keeps_trans (IsBefore first.job parts) old mid new (call_advances mid new result fits write.call) sofar
      (write_keeps (IsBefore first.job parts) (fill_piece first.job stage.done) mid new result
      (λ was image same stands. fill_keeps first.job is parts free stage.done was image same_whole same stands)
      (writes_told (fill_piece first.job stage.done) mid new result same_job) same_job sofar.now)

  pub fill_time : CountsOn new → new.now + left_to_fill stage ≡ old.now + left_to_fill first + 1
  fill_time = loop_time left_to_fill first stage old mid new (fill_piece stage.job stage.done) result before.loop fits write

-- a write that answered Ok, with more to come
pub fills_more : {V E : Type 0} (first stage next : Stage) (old mid new : View) (value : V) → FillsSoFar first old stage mid → mid.now < 2 ^ 64
    → IsWrite {V = V} {E = E} (fill_piece stage.job stage.done) mid new (Ok value)
    → (stage.done < length stage.job.fresh → length (fill_piece stage.job stage.done).bytes ≡ 4096)
    → next ≡ next_stage stage → 1 < left_to_fill stage
    → (IsFilling stage.job stage.done mid → IsFilling stage.job (stage.done + 1) new) → FillsSoFar first old next new
fills_more {V} {E} first stage next old mid new value before fits write whole is many filled =
    let result : Result V E = Ok value in
    subst (λ (s : Stage). FillsSoFar first old s new) (sym is)
    (record {
      loop =
          loops_more left_to_fill first stage (next_stage stage) old mid new (fill_piece stage.job stage.done) value before.loop fits write refl
          (omega arith) many;
      filled = λ knows. subst (λ (j : Job). IsFilling j stage.done mid → IsFilling j (stage.done + 1) new) before.loop.job filled (before.filled knows);
      keeps = fill_shows first stage old mid new result before fits write whole;
    })

-- the last write
pub fills_done : (first stage : Stage) (old mid new : View) → FillsSoFar first old stage mid → left_to_fill stage ≡ 1
    → (IsFilling stage.job stage.done mid → IsFilling stage.job (stage.done + 1) new) → IsFilling first.job first.done old → IsFilled first.job new
fills_done first stage old mid new before last filled knows =
    let then = subst (λ (j : Job). IsFilling j stage.done mid → IsFilling j (stage.done + 1) new) before.loop.job filled (before.filled knows) in
    let end : stage.done + 1 ≡ fill_count first.job = omega (arith, ap fill_count before.loop.job) in
    subst (λ (n : ℕ). IsFilling first.job n new) end then

-- Until a later moment each image stands for parts that are changed by the slot of a job.
abbrev pub PlacingKeeps : Job → View → View → Type 0
PlacingKeeps job old now =
    (parts : ℕ → Part) (new : List InodePart) → IsJob job → IsChangeOf job parts new → EachLeft old (IsByItsSlot job parts new)
    → Keeps (IsByItsSlot job parts new) old now

-- The same of the records that are placed.
pub record PlacesSoFar (first : Stage) (old : View) (stage : Stage) (now : View) : Type 0 where
  pub loop : LoopsSoFar left_to_place first old stage now
  pub placed : IsDurable first.job first.done old → IsDurable first.job stage.done now
  pub keeps : PlacingKeeps first.job old now

pub places_none : (first : Stage) (disk : View) → 0 < left_to_place first → PlacesSoFar first disk first disk
places_none first disk some = record {
  loop = loops_none left_to_place first disk some;
  placed = λ knows. knows;
  keeps = λ parts new is change leaves. keeps_none (IsByItsSlot first.job parts new) disk leaves;
}

module _ {V E : Type 0} (first stage : Stage) (old mid now : View) (result : Result V E) (before : PlacesSoFar first old stage mid) (fits : mid.now < 2 ^ 64)
    (write : IsWrite (table_piece stage.job stage.done) mid now result) where
  pub place_goes : Advances old now
  place_goes = loop_goes left_to_place first stage old mid now (table_piece stage.job stage.done) result before.loop fits write

  pub place_shows : PlacingKeeps first.job old now
  place_shows parts new is change leaves =
      let sofar = before.keeps parts new is change leaves in
      let same_job : IsWrite (table_piece first.job stage.done) mid now result =
      subst (λ (j : Job). IsWrite (table_piece j stage.done) mid now result) before.loop.job write in
      let within : stage.done < length first.job.entries = omega (arith, before.loop.some, ap (λ (j : Job). length j.entries) before.loop.job) in
      keeps_trans (IsByItsSlot first.job parts new) old mid now (call_advances mid now result fits write.call) sofar
      (write_keeps (IsByItsSlot first.job parts new) (table_piece first.job stage.done) mid now result
      (λ was image same stands. place_keeps first.job is parts new change stage.done was image within same stands)
      (writes_told (table_piece first.job stage.done) mid now result same_job) same_job sofar.now)

  pub place_time : CountsOn now → now.now + left_to_place stage ≡ old.now + left_to_place first + 1
  place_time = loop_time left_to_place first stage old mid now (table_piece stage.job stage.done) result before.loop fits write

pub places_more : {V E : Type 0} (first stage next : Stage) (old mid now : View) (value : V) → PlacesSoFar first old stage mid → mid.now < 2 ^ 64
    → IsWrite {V = V} {E = E} (table_piece stage.job stage.done) mid now (Ok value)
    → next ≡ next_stage stage → 1 < left_to_place stage
    → (IsDurable stage.job stage.done mid → IsDurable stage.job (stage.done + 1) now) → PlacesSoFar first old next now
places_more {V} {E} first stage next old mid now value before fits write is many placed =
    let result : Result V E = Ok value in
    subst (λ (s : Stage). PlacesSoFar first old s now) (sym is)
    (record {
      loop =
          loops_more left_to_place first stage (next_stage stage) old mid now (table_piece stage.job stage.done) value before.loop fits write refl
          (omega arith) many;
      placed = λ knows. subst (λ (j : Job). IsDurable j stage.done mid → IsDurable j (stage.done + 1) now) before.loop.job placed (before.placed knows);
      keeps = place_shows first stage old mid now result before fits write;
    })

pub places_done : (first stage : Stage) (old mid now : View) → PlacesSoFar first old stage mid → left_to_place stage ≡ 1
    → (IsDurable stage.job stage.done mid → IsDurable stage.job (stage.done + 1) now) → IsDurable first.job first.done old → AreAllPlaced first.job now
places_done first stage old mid now before last placed knows =
    let then = subst (λ (j : Job). IsDurable j stage.done mid → IsDurable j (stage.done + 1) now) before.loop.job placed (before.placed knows) in
    let end : stage.done + 1 ≡ length first.job.entries = omega (arith, ap (λ (j : Job). length j.entries) before.loop.job) in
    subst (λ (n : ℕ). IsDurable first.job n now) end then
