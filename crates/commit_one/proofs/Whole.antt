-- A whole commit, from the four parts that it is made of.
use Rattle.std.proofs.Common.{◌≡◌, ◌⊎◌, ℕ, ◌+◌, ◌<◌, ◌≤◌, List, length, Some, Result, Ok, Err, sym, subst, arith, inl, inr}
use Rattle.std.specs.Prelude.{OnOk}
use Rattle.std.proofs.lemmas.Bool.{cases_lt}
use Rattle.sfs_image.specs.ImageOf.{InodePart}
use Rattle.sfs_image.specs.Part.{Part}
use Rattle.sfs_dev.specs.Disk.{View, images}
use Rattle.sfs_dev.specs.Run.{Advances, CountsOn, EachMoment}
use Rattle.sfs_dev.proofs.Runs.{GoesOn-trans}
use Rattle.journal_one.specs.Job.{Job, fill_count, IsJob}
use Rattle.journal_one.specs.Known.{EachLeft, IsIdle, IsFilling, IsFilled, IsDurable, AreAllPlaced}
use Rattle.commit_one.specs.Carried.{LaterLeaves, GoesOnTelling, Keeps, Opens, Shuts, Carries, TakesCalls, IsMomentOf, device_calls, durable_at}
use Rattle.commit_one.specs.Change.{IsBefore, IsByItsSlot, IsAfter, AreFree, IsChangeOf}
use Rattle.commit_one.proofs.Moments.{later_trans, telling_trans}

-- What a part of a commit says however it ends: the disk goes on, and makes so many calls at most.
pub record Goes (calls : ℕ) (old now : View) : Type 0 where
  pub on : Advances old now
  pub most : CountsOn now → now.now ≤ old.now + calls

-- Once a part has ended well it made so many calls.
abbrev pub HasMade : ℕ → View → View → Type 0
HasMade calls old now = CountsOn now → now.now ≡ old.now + calls

-- what the parts say of images: filling keeps them, opening the gate is told of by what it answers, placing keeps them, shutting is told of
abbrev pub FillKeeps : Job → View → View → Type 0
FillKeeps job old now = (parts : ℕ → Part) → IsJob job → AreFree job parts → EachLeft old (IsBefore job parts) → Keeps (IsBefore job parts) old now

abbrev pub OpenTells : {V E : Type 0} → Job → View → View → Result V E → Type 0
OpenTells job old now result = (parts : ℕ → Part) (new : List InodePart) → IsJob job → IsChangeOf job parts new → IsFilled job old
    → EachLeft old (IsBefore job parts) → Opens job parts new old now result

abbrev pub PlaceKeeps : Job → View → View → Type 0
PlaceKeeps job old now = (parts : ℕ → Part) (new : List InodePart) → IsJob job → IsChangeOf job parts new
    → EachLeft old (IsByItsSlot job parts new) → Keeps (IsByItsSlot job parts new) old now

abbrev pub ShutTells : {V E : Type 0} → Job → View → View → Result V E → Type 0
ShutTells job old now result = (parts : ℕ → Part) (new : List InodePart) → IsJob job → IsChangeOf job parts new → AreAllPlaced job old
    → EachLeft old (IsByItsSlot job parts new) → Shuts job parts new old now result

-- what each moment leaves, where it is known how many calls were made
later_counted : (P Q : ℕ → List ℕ → Type 0) (old new : View) → (CountsOn new → (k : ℕ) (image : List ℕ) → old.now < k → k ≤ new.now → P k image → Q k image)
    → LaterLeaves P old new → LaterLeaves Q old new
later_counted P Q old new more leaves content is counts k image from to left = more counts k image from to (leaves content is counts k image from to left)

-- The parts of a commit that came to its end, or failed in one of them, by their calls.
module _ (job : Job) (old first second : View) (fills : Goes (fill_count job) old first) (filled : HasMade (fill_count job) old first)
    (opens : Goes 3 first second) where
  pub second_calls : {V E : Type 0} (fault : E) → TakesCalls (device_calls job) old second (let r : Result V E = Err fault in r)
  second_calls fault = record {
    most = λ counts. let a = filled (omega (arith, opens.on.later, counts)) in let b = opens.most counts in omega arith;
    all = tt;
  }

  module _ (third : View) (opened : HasMade 3 first second) (places : Goes (length job.entries) second third) where
    pub third_calls : {V E : Type 0} (fault : E) → TakesCalls (device_calls job) old third (let r : Result V E = Err fault in r)
    third_calls fault = record {
      most = λ counts. let a = filled (omega (arith, opens.on.later, places.on.later, counts)) in
          let b = opened (omega (arith, places.on.later, counts)) in let d = places.most counts in omega arith;
      all = tt;
    }

    module _ (now : View) (placed : HasMade (length job.entries) second third) (shuts : Goes 3 third now) where
      -- the calls up to the last part
      before_shut : CountsOn now → third.now + 3 ≡ old.now + device_calls job
      before_shut counts =
          let a = filled (omega (arith, opens.on.later, places.on.later, shuts.on.later, counts)) in
          let b = opened (omega (arith, places.on.later, shuts.on.later, counts)) in
          let d = placed (omega (arith, shuts.on.later, counts)) in omega arith

      pub now_calls : CountsOn now → now.now ≤ old.now + device_calls job
      now_calls counts = let b = before_shut counts in let e = shuts.most counts in omega arith

      pub now_made : HasMade 3 third now → HasMade (device_calls job) old now
      now_made shut counts = let b = before_shut counts in let e = shut counts in omega arith

module _ (job : Job) (is : IsJob job) (parts : ℕ → Part) (new : List InodePart) (change : IsChangeOf job parts new) (old : View)
    (before : EachLeft old (IsBefore job parts)) where
  abbrev Moment : ℕ → List ℕ → Type 0
  Moment k image = IsMomentOf job parts new old.now k image

  -- before the commit the slot is idle, and it begins to be filled
  pub idle_before : IsIdle job.place old
  idle_before content told image left = (before content told image left).slots job.place.slot is.place.within

  pub filling_before : IsFilling job 0 old
  filling_before = record {
    own = change.own;
    shut = idle_before;
    written = λ k lt. absurd (omega arith);
  }

  -- from the later moments to all of them
  each_moment : (now : View) → LaterLeaves Moment old now → Advances old now → (content : List ℕ) → old.content ≡ Some content → CountsOn now
      → EachMoment old now Moment
  each_moment now later goes content told counts k image from to left =
      elim (cases_lt old.now k) [
        | inl late ↦ later content told counts k image late to left
        | inr early ↦
            let here : k ≡ old.now = omega arith in
            let was : old.crash_images k image = (goes.past k image (omega (arith, counts)) early).0 left in
            let stands = before content told image (subst (λ (n : ℕ). old.crash_images n image) here was) in
            record { sealed = λ le. stands; opening = λ le. inl stands; durable = λ lt. absurd (omega arith) }
      ]

  -- a commit that failed is carried so far
  failed : {V E : Type 0} (now : View) (fault : E) → GoesOnTelling old now → LaterLeaves Moment old now → Advances old now
      → Carries job parts new old now (let r : Result V E = Err fault in r)
  failed now fault told later goes = record { told = told; each_moment = each_moment now later goes; acknowledged = tt; ended = tt }

  module _ (first : View) (fills : Goes (fill_count job) old first) (fill_keeps : FillKeeps job old first) where
    kept : Keeps (IsBefore job parts) old first
    kept = fill_keeps parts is change.free before

    fill_moments : LaterLeaves Moment old first
    fill_moments =
        later_counted (λ k image. IsBefore job parts image) Moment old first
        (λ counts k image from to stands. let m = fills.most counts in
        record { sealed = λ le. stands; opening = λ le. inl stands; durable = λ lt. absurd (omega arith) })
        kept.later

    pub first_carried : {V E : Type 0} (fault : E) → Carries job parts new old first (let r : Result V E = Err fault in r)
    first_carried fault = failed first fault kept.told fill_moments fills.on

    module _ {V E : Type 0} (second : View) (result : Result V E) (filled : HasMade (fill_count job) old first)
        (is_filled : IsFilling job 0 old → IsFilled job first) (opens : Goes 3 first second) (open_tells : OpenTells job first second result) where
      opening : Opens job parts new first second result
      opening = open_tells parts new is change (is_filled filling_before) kept.now

      open_moments : LaterLeaves Moment old second
      open_moments =
          later_trans Moment old first second kept.told opens.on fill_moments
          (later_counted
          (λ k image. (k ≤ first.now + 1 → IsBefore job parts image) × (IsBefore job parts image ⊎ IsByItsSlot job parts new image)) Moment first second
          (λ counts k image from to stands.
          let a = filled (omega (arith, opens.on.later, counts)) in
          let m = opens.most counts in
          record { sealed = λ le. stands.0 (omega arith); opening = λ le. stands.1; durable = λ lt. absurd (omega arith) })
          opening.later)

      second_tells : GoesOnTelling old second
      second_tells = telling_trans old first second kept.told opening.told

      pub second_carried : {W F : Type 0} (fault : F) → Carries job parts new old second (let r : Result W F = Err fault in r)
      second_carried fault = failed second fault second_tells open_moments (GoesOn-trans old first second fills.on opens.on)

      module _ (third : View) (value : V) (was : result ≡ Ok value) (opened : HasMade 3 first second)
          (is_durable : IsFilled job first → IsDurable job 0 second) (places : Goes (length job.entries) second third)
          (place_keeps : PlaceKeeps job second third) where
        by_its_slot : EachLeft second (IsByItsSlot job parts new)
        by_its_slot = subst (λ r. OnOk r (EachLeft second (IsByItsSlot job parts new))) was opening.opened

        placed_keeps : Keeps (IsByItsSlot job parts new) second third
        placed_keeps = place_keeps parts new is change by_its_slot

        -- the moment at which it is durable
        durable_is : CountsOn second → second.now ≡ durable_at old.now job
        durable_is counts = let a = filled (omega (arith, opens.on.later, counts)) in let b = opened counts in omega arith

        place_moments : LaterLeaves Moment old third
        place_moments =
            later_trans Moment old second third second_tells places.on open_moments
            (later_counted (λ k image. IsByItsSlot job parts new image) Moment second third
            (λ counts k image from to stands.
            let d = durable_is (omega (arith, places.on.later, counts)) in
            record { sealed = λ le. absurd (omega arith); opening = λ le. absurd (omega arith); durable = λ lt. inl stands })
            placed_keeps.later)

        third_tells : GoesOnTelling old third
        third_tells = telling_trans old second third second_tells placed_keeps.told

        goes_third : Advances old third
        goes_third = GoesOn-trans old second third (GoesOn-trans old first second fills.on opens.on) places.on

        pub third_carried : {W F : Type 0} (fault : F) → Carries job parts new old third (let r : Result W F = Err fault in r)
        third_carried fault = failed third fault third_tells place_moments goes_third

        module _ {W F : Type 0} (now : View) (answer : Result W F) (is_placed : IsDurable job 0 second → AreAllPlaced job third)
            (shuts : Goes 3 third now) (shut_tells : ShutTells job third now answer) where
          shutting : Shuts job parts new third now answer
          shutting = shut_tells parts new is change (is_placed (is_durable (is_filled filling_before))) placed_keeps.now

          shut_moments : LaterLeaves Moment old now
          shut_moments =
              later_trans Moment old third now third_tells shuts.on place_moments
              (later_counted (λ k image. IsByItsSlot job parts new image ⊎ IsAfter job parts new image) Moment third now
              (λ counts k image from to stands.
              let d = durable_is (omega (arith, places.on.later, shuts.on.later, counts)) in
              let l = places.on.later in
              record { sealed = λ le. absurd (omega arith); opening = λ le. absurd (omega arith); durable = λ lt. stands })
              shutting.later)

          now_tells : GoesOnTelling old now
          now_tells = telling_trans old third now third_tells shutting.told

          pub now_carried : {X Y : Type 0} (fault : Y) → Carries job parts new old now (let r : Result X Y = Err fault in r)
          now_carried fault = failed now fault now_tells shut_moments (GoesOn-trans old third now goes_third shuts.on)

          -- what a crash at the moment at which it was durable leaves
          acknowledged : (content : List ℕ) → old.content ≡ Some content → CountsOn now → (image : List ℕ)
              → now.crash_images (durable_at old.now job) image → IsByItsSlot job parts new image
          acknowledged content told counts image left =
              let d = durable_is (omega (arith, places.on.later, shuts.on.later, counts)) in
              let goes : Advances second now = GoesOn-trans second third now places.on shuts.on in
              let at : now.crash_images second.now image = subst (λ (n : ℕ). now.crash_images n image) (sym d) left in
              let was : images second image = (goes.past second.now image (omega (arith, goes.later, counts)) (omega arith)).0 at in
              let m = second_tells content told in
              by_its_slot m.0 m.1 image was

          -- a commit that came to its end is carried
          pub done_carried : {X Y : Type 0} (shut : W) (made : X) → answer ≡ Ok shut → Carries job parts new old now (let r : Result X Y = Ok made in r)
          done_carried shut made is = record {
            told = now_tells;
            each_moment = each_moment now shut_moments (GoesOn-trans old third now goes_third shuts.on);
            acknowledged = acknowledged;
            ended = subst (λ r. OnOk r (EachLeft now (IsAfter job parts new))) is shutting.ended;
          }
