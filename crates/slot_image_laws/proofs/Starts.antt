-- A run begins, and turns are told that move no part.
use Rattle.std.proofs.Common.{◌≡◌, ◌++◌, ◌≢◌, ◌∷◌, ◌∙◌, ◌<◌, List, subst, sym, All, ℕ, refl, [], ap, Bool, not, nat_eq, filter, cond, append-nil, None, Option, false, arith}
use Rattle.std.proofs.lemmas.List.Elements.{All-cons, All-nil, filter-append}
use Rattle.std.proofs.Math.Path.{fun_ext}
use Rattle.sfs_base.proofs.BasicNumbers.{same_number, not_same}
use Rattle.sfs_image.specs.ImageOf.{InodePart, with_opened, Transaction, IsImageOf}
use Rattle.sfs_image.specs.Super.{Layout}
use Rattle.sfs_image.specs.Part.{Part}
use Rattle.sfs_image.specs.Journal.{head_of}
use Rattle.sfs_image.specs.Settled.{journal_slot}
use Rattle.sfs_image.specs.Bytes.{part}
use Rattle.sfs_dev.specs.Disk.{View, images}
use Rattle.journal_one.specs.Job.{Job}
use Rattle.commit_one.specs.Change.{nothing_open}
use Rattle.commit_one.proofs.Images.{own_part}
use Rattle.tree_laws.specs.declared.turns.Turn.{Turn}
use Rattle.tree_laws.specs.declared.turns.TurnAct.{TurnAct}
use Rattle.tree_laws.specs.declared.turns.TurnAct.TheVariants as act
use Rattle.cut_laws.specs.Rules.{IsOneOf}
use Rattle.cut_laws.proofs.Basics.{filter_all}
use Rattle.slot_laws.specs.Slots.{Slots, place_at}
use Rattle.slot_laws.specs.Rules.{EmptyTurns}
use Rattle.slot_laws.proofs.Basics.{none_there}
use Rattle.slot_image_laws.specs.Images.{RunStart, disk_books, LeavesPrefixes, DiskBooks, IsBox, Shows, book_act, first_books, books_from}
use Rattle.slot_image_laws.specs.Run.{IsDiskRun, Matches}
use Rattle.slot_image_laws.specs.Laws.{QuietTurnsKeep, AreEmptyTurns, EmptyCommitsKeep, RunsStart}
use Rattle.slot_image_laws.specs.Commits.{parts_over, opened_in, WorksFit}
use Rattle.slot_image_laws.proofs.Trails.{trail_turns, books_more}
use Rattle.slot_image_laws.proofs.Shown.{shown}
use Rattle.slot_image_laws.proofs.Anew.{none_either}

-- two records of what turns say that are the same
pub run_with : (run : RunStart) (turns later : List Turn) (slots : Slots) (disk : View) → disk_books run later ≡ disk_books run turns
    → IsDiskRun run turns slots disk → LeavesPrefixes run later disk → IsDiskRun run later slots disk
run_with run turns later slots disk same runs trail = record {
  box = subst (λ (books : DiskBooks). IsBox run.gives run.layout books.base slots disk) (sym same) runs.box;
  matches = subst (λ (books : DiskBooks). Matches books.flying slots) (sym same) runs.matches;
  trail = trail;
}

-- turns that move nothing, at the moment of now
pub more_turns : (run : RunStart) (turns more : List Turn) (slots : Slots) (disk : View)
    → disk_books run (turns ++ more) ≡ disk_books run turns → All (λ (turn : Turn). turn.now ≡ disk.now) more
    → IsDiskRun run turns slots disk → IsDiskRun run (turns ++ more) slots disk
more_turns run turns more slots disk same moments runs =
    run_with run turns (turns ++ more) slots disk same runs
    (trail_turns run turns disk more moments runs.trail
    (λ content told counts image left.
    subst (λ (books : DiskBooks). Shows run.gives run.layout books image) (sym same) (shown run.gives run.layout (disk_books run turns) slots disk runs.box content told runs.matches image left)))

-- an act that neither opens a commit nor makes one durable
quiet_act : (gives : ℕ → List InodePart) (did : TurnAct) (commit : ℕ) (books : DiskBooks) → did ≢ act.Opened → did ≢ act.Durable
    → book_act gives did commit books ≡ books
quiet_act gives act.Opened commit books no_open no_durable = absurd (no_open refl)
quiet_act gives act.Durable commit books no_open no_durable = absurd (no_durable refl)
quiet_act gives act.Granted commit books no_open no_durable = refl
quiet_act gives act.GivenBack commit books no_open no_durable = refl
quiet_act gives (act.Short kind need free) commit books no_open no_durable = refl
quiet_act gives act.Halted commit books no_open no_durable = refl
quiet_act gives act.CutAt commit books no_open no_durable = refl
quiet_act gives act.Fail commit books no_open no_durable = refl

-- one turn at the moment of now
only_now : (turn : Turn) (now : ℕ) → turn.now ≡ now → All (λ (turn : Turn). turn.now ≡ now) (turn ∷ [])
only_now turn now is = All-cons (λ (turn : Turn). turn.now ≡ now) turn [] is (All-nil (λ (turn : Turn). turn.now ≡ now))

pub quiet_turns_keep : (disk : View) → QuietTurnsKeep disk
quiet_turns_keep disk run turns slots turn no_open no_durable now runs =
    more_turns run turns (turn ∷ []) slots disk
    (books_more run.gives turns (turn ∷ []) (first_books run) ∙ quiet_act run.gives turn.act turn.commit (disk_books run turns) no_open no_durable)
    (only_now turn disk.now now) runs

module _ (run : RunStart) (books : DiskBooks) (three : EmptyTurns) (commit : ℕ) where
  -- three turns of a commit that gives nothing, and that is none of those that are open
  empty_books : AreEmptyTurns three commit → run.gives commit ≡ [] → ((other : ℕ) → IsOneOf books.flying other → other ≢ commit)
      → books_from run.gives (three.cut ∷ three.opened ∷ three.durable ∷ []) books ≡ books
  empty_books are nothing apart =
      let cut : books_from run.gives (three.cut ∷ three.opened ∷ three.durable ∷ []) books
      ≡ books_from run.gives (three.opened ∷ three.durable ∷ []) books =
      ap (λ (did : TurnAct). books_from run.gives (three.opened ∷ three.durable ∷ []) (book_act run.gives did three.cut.commit books)) are.cut_is in
      let opens : books_from run.gives (three.opened ∷ three.durable ∷ []) books ≡ books_from run.gives (three.durable ∷ []) opened =
      ap (λ (did : TurnAct). books_from run.gives (three.durable ∷ []) (book_act run.gives did three.opened.commit books)) are.opened_is
      ∙ ap (λ (c : ℕ). books_from run.gives (three.durable ∷ []) (book_act run.gives act.Opened c books)) are.opened_commit in
      let settles : books_from run.gives (three.durable ∷ []) opened ≡ durable =
      ap (λ (did : TurnAct). book_act run.gives did three.durable.commit opened) are.durable_is
      ∙ ap (λ (c : ℕ). book_act run.gives act.Durable c opened) are.durable_commit in
      cut ∙ opens ∙ settles ∙ both_same
    where
      opened : DiskBooks
      opened = book_act run.gives act.Opened commit books

      durable : DiskBooks
      durable = book_act run.gives act.Durable commit opened

      last_goes : filter (λ (other : ℕ). not (nat_eq other commit)) (commit ∷ []) ≡ []
      last_goes = ap (λ (b : Bool). cond (not b) (commit ∷ []) []) (same_number commit)

      flying_same : filter (λ (other : ℕ). not (nat_eq other commit)) (books.flying ++ commit ∷ []) ≡ books.flying
      flying_same =
          filter-append (λ (other : ℕ). not (nat_eq other commit)) books.flying (commit ∷ [])
          ∙ ap (λ (l : List ℕ). l ++ filter (λ (other : ℕ). not (nat_eq other commit)) (commit ∷ []))
          (filter_all (λ (other : ℕ). not (nat_eq other commit)) books.flying (λ other one. ap not (not_same other commit (apart other one))))
          ∙ ap (λ (l : List ℕ). books.flying ++ l) last_goes
          ∙ append-nil books.flying

      both_same : durable ≡ books
      both_same =
          ap (λ (l : List InodePart). record { base = parts_over l books.base; flying = durable.flying }) nothing
          ∙ ap (λ (l : List ℕ). record { base = books.base; flying = l }) flying_same

pub empty_commits_keep : (disk : View) → EmptyCommitsKeep disk
empty_commits_keep disk run turns slots three commit are nothing apart now runs =
    let flying = (disk_books run turns).flying in
    more_turns run turns (three.cut ∷ three.opened ∷ three.durable ∷ []) slots disk
    (books_more run.gives turns (three.cut ∷ three.opened ∷ three.durable ∷ []) (first_books run)
    ∙ empty_books run (disk_books run turns) three commit are nothing
    (λ other one same.
    let flight = runs.matches.flown other one in
    apart flight.slot flight.work flight.there (flight.number ∙ same)))
    (All-cons (λ (turn : Turn). turn.now ≡ disk.now) three.cut (three.opened ∷ three.durable ∷ []) now.0
    (All-cons (λ (turn : Turn). turn.now ≡ disk.now) three.opened (three.durable ∷ []) now.1 (only_now three.durable disk.now now.2)))
    runs

-- an image without an open slot stands for the parts of its table
module _ (layout : Layout) (parts : ℕ → Part) where
  abbrev any_job : Job
  any_job = record { place = place_at layout 0; stamp = 0; entries = []; fresh = [] }

  pub nothing_given : (i : ℕ) → with_opened layout nothing_open parts i ≡ parts i
  nothing_given = own_part any_job parts

  pub nothing_opened : (gives : ℕ → List InodePart) (image : List ℕ) → opened_in gives layout (λ _. None) image ≡ nothing_open
  nothing_opened gives image = fun_ext (λ k. none_either (head_of (part 0 4096 (journal_slot layout image k))).gate)

-- no commit is in a slot
nothing_fits : (gives : ℕ → List InodePart) (layout : Layout) (base : ℕ → Part) → WorksFit gives layout base (λ _. None)
nothing_fits gives layout base = record {
  beyond = λ k high. refl;
  each = λ k work there. none_there there;
  stamps = λ j k one other here there same. none_there here;
  rings = record {
    apart = λ j k one other pair shares. none_there pair.here;
    later = λ j k one other pair shares. none_there pair.here;
    started = λ j k one other pair begun. none_there pair.here;
    unplaced = λ k work there aloft n. none_there there;
  };
  apart = λ j k one other pair. none_there pair.here;
  newest = λ k i work part there durable gives last. none_there there;
}

pub runs_start : (disk : View) → RunsStart disk
runs_start disk run large now began = record {
  box = record {
    large = large;
    fits = began.fits;
    works = nothing_fits run.gives run.layout run.parts;
    knows = λ k low content told image left. (first image left).slots k low;
    stands = λ content told image left.
        subst (λ (opened : ℕ → Option Transaction). IsImageOf run.layout opened run.parts image) (sym (nothing_opened run.layout run.parts run.gives image))
        (first image left);
  };
  matches = record {
    once = λ j k one other here there same. none_there here;
    flies = λ k work there aloft may. none_there there;
    flown = λ commit one. absurd one;
  };
  trail = λ content told counts t image from left. record {
    front = [];
    back = [];
    split = refl;
    later = All-nil (λ (turn : Turn). t < turn.now);
    shows = record {
      kept = λ _. false;
      table = run.parts;
      opened = nothing_open;
      stands = began.left image (let low = left.1 in let high = left.2 in at_moment left.0 run.moment image (omega arith) left.3);
      parts = λ i low. nothing_given run.layout run.parts i;
    };
  };
}
  where
    at_moment : (n m : ℕ) (image : List ℕ) → n ≡ m → disk.crash_images n image → disk.crash_images m image
    at_moment n m image is = subst (λ (k : ℕ). disk.crash_images k image) is

    first : (image : List ℕ) → images disk image → IsImageOf run.layout nothing_open run.parts image
    first image left = began.left image (at_moment disk.now run.moment image now left)
