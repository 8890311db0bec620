-- What the trail of a run says of later turns and of later moments.
use Rattle.std.proofs.Common.{◌≤◌, ◌∷◌, ◌++◌, ◌<◌, ◌≡◌, ◌∙◌, ℕ, List, [], arith, All, refl, sym, append-nil, Some, subst, ap, inl, inr, append_assoc}
use Rattle.std.proofs.lemmas.List.Elements.{All-head, All-nil, All-append, All-cons, All-tail}
use Rattle.std.proofs.lemmas.Bool.{cases_lt}
use Rattle.sfs_image.specs.ImageOf.{InodePart}
use Rattle.sfs_dev.specs.Disk.{View, images, Elapses}
use Rattle.sfs_dev.specs.Run.{CountsOn}
use Rattle.tree_laws.specs.declared.turns.Turn.{Turn}
use Rattle.slot_image_laws.specs.Run.{RisesFrom}
use Rattle.slot_image_laws.specs.Images.{DiskBooks, books_from, book_act, RunStart, Shows, disk_books, ShowsFront, LeavesPrefixes}

-- where moments rise, the last is not before the first
pub rises_within : (from : ℕ) (turns : List Turn) (to : ℕ) → RisesFrom from turns to → from ≤ to
rises_within from [] to rises = rises
rises_within from (turn ∷ turns) to rises = let first = rises.0 in let rest = rises_within turn.now turns to rises.1 in omega arith

-- a longer record that goes on rising
pub rises_on : (from : ℕ) (turns more : List Turn) (to : ℕ) → RisesFrom from turns to → RisesFrom to more to → RisesFrom from (turns ++ more) to
rises_on from [] more to rises goes = rises_from from more to rises goes
  where
    rises_from : (from : ℕ) (more : List Turn) (to : ℕ) → from ≤ to → RisesFrom to more to → RisesFrom from more to
    rises_from from [] to low goes = low
    rises_from from (turn ∷ more) to low goes = (let high = goes.0 in omega arith, goes.1)
rises_on from (turn ∷ turns) more to rises goes = (rises.0, rises_on turn.now turns more to rises.1 goes)

pub rises_later : (from : ℕ) (turns : List Turn) (to later : ℕ) → RisesFrom from turns to → to ≤ later → RisesFrom from turns later
rises_later from [] to later rises low = omega arith
rises_later from (turn ∷ turns) to later rises low = (rises.0, rises_later turn.now turns to later rises.1 low)

-- turns one after another
pub books_more : (gives : ℕ → List InodePart) (turns more : List Turn) (books : DiskBooks)
    → books_from gives (turns ++ more) books ≡ books_from gives more (books_from gives turns books)
books_more gives [] more books = refl
books_more gives (turn ∷ turns) more books = books_more gives turns more (book_act gives turn.act turn.commit books)

-- all turns are a front
whole_front : (run : RunStart) (turns : List Turn) (moment : ℕ) (image : List ℕ) → Shows run.gives run.layout (disk_books run turns) image
    → ShowsFront run turns moment image
whole_front run turns moment image shows =
    record { front = turns; back = []; split = sym (append-nil turns); later = All-nil (λ (turn : Turn). moment < turn.now); shows = shows }

-- turns of a moment come after each earlier one
all_after : (t now : ℕ) (list : List Turn) → All (λ (turn : Turn). turn.now ≡ now) list → t < now → All (λ (turn : Turn). t < turn.now) list
all_after t now [] same lt = All-nil (λ (turn : Turn). t < turn.now)
all_after t now (turn ∷ list) same lt =
    let is = All-head (λ (turn : Turn). turn.now ≡ now) turn list same in
    All-cons (λ (turn : Turn). t < turn.now) turn list (omega arith)
    (all_after t now list (All-tail (λ (turn : Turn). turn.now ≡ now) turn list same) lt)

module _ (run : RunStart) (turns : List Turn) (old : View) where
  -- one device call later
  pub trail_goes : (new : View) → Elapses old new
      → ((content : List ℕ) → new.content ≡ Some content → (was : List ℕ) × (old.content ≡ Some was)) → LeavesPrefixes run turns old
      → ((content : List ℕ) → new.content ≡ Some content → CountsOn old → (image : List ℕ) → images new image
      → Shows run.gives run.layout (disk_books run turns) image)
      → LeavesPrefixes run turns new
  trail_goes new time before trail here content told counts t image from left =
      let counted = time.counted in
      let counted_on : CountsOn old = omega arith in
      elim (cases_lt left.0 new.now) [
        | inl past ↦
            let was = before content told in
            let low = left.1 in
            trail was.0 was.1 counted_on t image from (left.0, low, omega arith, (time.past left.0 image past).0 left.3)
        | inr late ↦
            let high = left.2 in
            let now : left.0 ≡ new.now = omega arith in
            whole_front run turns t image (here content told counted_on image (subst (λ (n : ℕ). new.crash_images n image) now left.3))
      ]

  -- one device call later, with some turns more of its moment
  pub trail_more : (more : List Turn) (new : View) → Elapses old new → All (λ (turn : Turn). turn.now ≡ new.now) more
      → ((content : List ℕ) → new.content ≡ Some content → (was : List ℕ) × (old.content ≡ Some was)) → LeavesPrefixes run turns old
      → ((content : List ℕ) → new.content ≡ Some content → (image : List ℕ) → images new image
      → Shows run.gives run.layout (disk_books run (turns ++ more)) image)
      → LeavesPrefixes run (turns ++ more) new
  trail_more more new time moments before trail here content told counts t image from left =
      let counted = time.counted in
      let counted_on : CountsOn old = omega arith in
      elim (cases_lt left.0 new.now) [
        | inl past ↦
            let was = before content told in
            let low = left.1 in
            let shown = trail was.0 was.1 counted_on t image from (left.0, low, omega arith, (time.past left.0 image past).0 left.3) in
            record {
              front = shown.front;
              back = shown.back ++ more;
              split = ap (λ (l : List Turn). l ++ more) shown.split ∙ append_assoc shown.front shown.back more;
              later = All-append (λ (turn : Turn). t < turn.now) shown.back more shown.later (all_after t new.now more moments (omega arith));
              shows = shown.shows;
            }
        | inr late ↦
            let high = left.2 in
            let now : left.0 ≡ new.now = omega arith in
            whole_front run (turns ++ more) t image (here content told image (subst (λ (n : ℕ). new.crash_images n image) now left.3))
      ]

  -- some turns more, at the moment of now
  pub trail_turns : (more : List Turn) → All (λ (turn : Turn). turn.now ≡ old.now) more → LeavesPrefixes run turns old
      → ((content : List ℕ) → old.content ≡ Some content → CountsOn old → (image : List ℕ) → images old image
      → Shows run.gives run.layout (disk_books run (turns ++ more)) image)
      → LeavesPrefixes run (turns ++ more) old
  trail_turns more moments trail here content told counts t image from left =
      elim (cases_lt left.0 old.now) [
        | inl past ↦
            let low = left.1 in
            let shown = trail content told counts t image from left in
            record {
              front = shown.front;
              back = shown.back ++ more;
              split = ap (λ (l : List Turn). l ++ more) shown.split ∙ append_assoc shown.front shown.back more;
              later = All-append (λ (turn : Turn). t < turn.now) shown.back more shown.later (all_after t old.now more moments (omega arith));
              shows = shown.shows;
            }
        | inr late ↦
            let high = left.2 in
            let now : left.0 ≡ old.now = omega arith in
            whole_front run (turns ++ more) t image (here content told counts image (subst (λ (n : ℕ). old.crash_images n image) now left.3))
      ]
