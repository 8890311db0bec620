-- The run that labels tell, through each label.
use Rattle.std.proofs.Common.{◌++◌, ◌∷◌, ◌≤◌, ◌≡◌, ◌<◌, ◌∙◌, List, All, [], ℕ, arith, subst, sym, refl, false}
use Rattle.std.proofs.lemmas.List.Elements.{All-nil, All-cons, All-head, All-tail}
use Rattle.sfs_image.specs.Super.{Layout}
use Rattle.sfs_image.specs.Part.{Part}
use Rattle.sfs_image.specs.Settled.{slot_count}
use Rattle.sfs_dev.specs.Disk.{View, Elapses}
use Rattle.tree_laws.specs.declared.turns.Turn.{Turn}
use Rattle.slot_laws.specs.Labels.{BoxPast, BegunCommit, after_label, fsync_told}
use Rattle.slot_laws.specs.Fits.{PastFits}
use Rattle.slot_laws.specs.Slots.{Slots, place_at}
use Rattle.slot_laws.specs.declared.label.Label.{Label}
use Rattle.slot_laws.specs.Rules.{MayLabel}
use Rattle.slot_laws.specs.declared.label.Label.TheVariants as label
use Rattle.slot_image_laws.specs.Run.{BeganWith, KeepsLaws, IsDiskRun, RisesFrom, RunFits, BeginWell, Syncs}
use Rattle.slot_image_laws.specs.Labels.{FirstRunsFit, RecordsAreLeft, IsToldOf, ToldLabelsFit, IsDoneBy, DoneLabelsFit, FailedSyncsFit}
use Rattle.slot_image_laws.specs.Commits.{IsCommitAt}
use Rattle.slot_image_laws.specs.Images.{disk_books, RunStart}
use Rattle.slot_image_laws.proofs.Starts.{runs_start, quiet_turns_keep, empty_commits_keep}
use Rattle.slot_image_laws.proofs.Trails.{rises_on, rises_within, rises_later}
use Rattle.slot_image_laws.proofs.Begun.{begins_keep}
use Rattle.slot_image_laws.proofs.Settled.{settles_keep}
use Rattle.slot_image_laws.proofs.Idled.{idles_keep}
use Rattle.slot_image_laws.proofs.Synced.{failed_syncs_keep, syncs_keep}
use Rattle.slot_image_laws.proofs.Filled.{fills_keep}
use Rattle.slot_image_laws.proofs.Opened.{opens_keep}
use Rattle.slot_image_laws.proofs.Placed.{places_keep}
use Rattle.slot_image_laws.proofs.Shut.{shuts_keep}

all_left : {X : Type 0} (P : X → Type 0) (xs ys : List X) → All P (xs ++ ys) → All P xs
all_left P [] ys all = All-nil P
all_left P (x ∷ xs) ys all = All-cons P x xs (All-head P x (xs ++ ys) all) (all_left P xs ys (All-tail P x (xs ++ ys) all))

all_last : {X : Type 0} (P : X → Type 0) (xs : List X) (x : X) → All P (xs ++ x ∷ []) → P x
all_last P [] x all = All-head P x [] all
all_last P (y ∷ xs) x all = all_last P xs x (All-tail P y (xs ++ x ∷ []) all)

-- a run that began so before a device call began so behind it
began_before : (layout : Layout) (parts : ℕ → Part) (start : ℕ) (old new : View) → start ≤ old.now → Elapses old new
    → BeganWith layout parts start new → BeganWith layout parts start old
began_before layout parts start old new low time began =
    let counted = time.counted in
    let counts = began.counts in
    record {
      fits = began.fits;
      counts = omega arith;
      left = λ image left. began.left image ((time.past start image (omega arith)).1 left);
    }

now_later : (old new : View) → KeepsLaws old → Elapses old new → old.now ≤ new.now
now_later old new lawful time = let counted = time.counted in let fits = lawful.now_fits in omega arith

pub first_runs_fit : (disk : View) → FirstRunsFit disk
first_runs_fit disk layout large = record {
  rises = omega arith;
  runs = λ run same moment began well.
      runs_start disk run (subst (λ (l : Layout). l.blocks ≤ disk.size) (sym same) large) (sym moment)
      (subst (λ (l : Layout). BeganWith l run.parts run.moment disk) (sym same)
      (subst (λ (n : ℕ). BeganWith layout run.parts n disk) (sym moment) began));
}

pub records_are_left : (disk : View) → RecordsAreLeft disk
records_are_left disk run past fits began well = (fits.runs run refl refl began well).trail

-- one turn at the moment of now
module _ (start : ℕ) (turns : List Turn) (now : ℕ) (rises : RisesFrom start turns now) where
  rises_turn : (turn : Turn) → turn.now ≡ now → RisesFrom start (turns ++ turn ∷ []) now
  rises_turn turn is = rises_on start turns (turn ∷ []) now rises (omega arith, omega arith)

module _ (disk : View) (layout : Layout) (before core start : ℕ) (past : BoxPast) (all : PastFits layout before past) (lawful : KeepsLaws disk)
    (fits : RunFits layout start past disk) where
  -- nothing of the run is another
  same_run : (later : BoxPast) → later.turns ≡ past.turns → later.slots ≡ past.slots → later.begun ≡ past.begun → later.empties ≡ past.empties
      → RunFits layout start later disk
  same_run later turns slots begun empties = record {
    rises = subst (λ (l : List Turn). RisesFrom start l disk.now) (sym turns) fits.rises;
    runs = λ run same moment began well.
        subst (λ (l : List Turn). IsDiskRun run l later.slots disk) (sym turns)
        (subst (λ (s : Slots). IsDiskRun run past.turns s disk) (sym slots)
        (fits.runs run same moment began
        (record {
          begun = subst (All (λ (one : BegunCommit). IsCommitAt run.gives run.layout (disk_books run one.turns).base one.slots one.work)) begun well.begun;
          empties = subst (All (λ (commit : ℕ). run.gives commit ≡ [])) empties well.empties;
        })));
  }

  told_fits : (fact : Label) → MayLabel layout before core fact past → IsToldOf fact disk → RunFits layout start (after_label layout core fact past) disk
  told_fits label.Took rule told = same_run _ refl refl refl refl
  told_fits label.Gave rule told = same_run _ refl refl refl refl
  told_fits (label.Reserved commit seen grant) rule told = same_run _ refl refl refl refl
  told_fits (label.Returned commit) rule told = same_run _ refl refl refl refl
  told_fits (label.Learned turn) rule told = same_run _ refl refl refl refl
  told_fits (label.Noted turn) rule told = record {
    rises = rises_turn start past.turns disk.now fits.rises turn told;
    runs = λ run same moment began well.
        quiet_turns_keep disk run past.turns past.slots turn rule.no_open
        rule.no_durable told (fits.runs run same moment began (record { begun = well.begun; empties = well.empties }));
  }
  told_fits (label.Began filling commit node stamp blocks inodes) rule told = record {
    rises = fits.rises;
    runs = λ run same moment began well.
        let old_well : BeginWell run past = record {
          begun = all_left (λ (one : BegunCommit). IsCommitAt run.gives run.layout (disk_books run one.turns).base one.slots one.work) past.begun _ well.begun;
          empties = well.empties;
        } in
        begins_keep disk run past.turns past.slots filling.job.place.slot filling.job commit (fsync_told node stamp) (record {
          idle = rule.idle;
          within = subst (λ (l : Layout). filling.job.place.slot < slot_count l) (sym same) rule.within;
          place = subst (λ (l : Layout). filling.job.place ≡ place_at l filling.job.place.slot) (sym same) rule.place;
          is = rule.is;
          stamp = λ j other there. (let low = all.numbers.stamped j other there in let next = rule.stamp in omega arith);
          number = λ j other there. all.numbers.unused core commit j other rule.number there;
        })
        (all_last (λ (one : BegunCommit). IsCommitAt run.gives run.layout (disk_books run one.turns).base one.slots one.work) past.begun _ well.begun) lawful
        (fits.runs run same moment began old_well);
  }
  told_fits (label.Settled slot turn) rule told = record {
    rises = rises_turn start past.turns disk.now fits.rises turn told;
    runs = λ run same moment began well.
        settles_keep disk run past.turns past.slots slot turn rule.has rule.is.did_is rule.is.commit_is told
        (fits.runs run same moment began (record { begun = well.begun; empties = well.empties }));
  }
  told_fits (label.Idled slot) rule told = record {
    rises = fits.rises;
    runs = λ run same moment began well.
        idles_keep disk run past.turns past.slots slot rule.has
        (fits.runs run same moment began (record { begun = well.begun; empties = well.empties }));
  }
  told_fits (label.Empty commit cut opened durable) rule told =
      let second : opened.now ≡ disk.now = rule.opened_now.0 ∙ told in
      let third : durable.now ≡ disk.now = rule.durable_now.0 ∙ told in
      record {
        rises = rises_on start past.turns (cut ∷ opened ∷ durable ∷ []) disk.now fits.rises (omega arith, (omega arith, (omega arith, omega arith)));
        runs = λ run same moment began well.
            empty_commits_keep disk run past.turns past.slots (record { cut = cut; opened = opened; durable = durable }) commit
            (record {
              cut_is = rule.cut_is.did_is;
              opened_is = rule.opened_is.did_is;
              opened_commit = rule.opened_is.commit_is;
              durable_is = rule.durable_is.did_is;
              durable_commit = rule.durable_is.commit_is;
            })
            (all_last (λ (commit : ℕ). run.gives commit ≡ []) past.empties commit well.empties)
            (λ k work there. all.numbers.unused core commit k work rule.number there) (told, second, third)
            (fits.runs run same moment began
            (record { begun = well.begun; empties = all_left (λ (commit : ℕ). run.gives commit ≡ []) past.empties _ well.empties }));
      }
  told_fits (label.Filled slot piece done) rule told = absurd told
  told_fits (label.Synced now) rule told = absurd told
  told_fits (label.Opened slot done cut opened) rule told = absurd told
  told_fits (label.Placed slot n done) rule told = absurd told
  told_fits (label.Shut slot done) rule told = absurd told

pub told_labels_fit : (disk : View) → ToldLabelsFit disk
told_labels_fit disk layout before core start fact past all rule told lawful fits = told_fits disk layout before core start past all lawful fits fact rule told

module _ (old new : View) (layout : Layout) (start : ℕ) (past : BoxPast) (lawful : KeepsLaws old) (fits : RunFits layout start past old) where
  -- the run before a device call
  run_before : Elapses old new → (run : RunStart) → run.layout ≡ layout → run.moment ≡ start → BeganWith layout run.parts start new → BeginWell run past
      → IsDiskRun run past.turns past.slots old
  run_before time run same moment began well =
      fits.runs run same moment (began_before layout run.parts start old new (rises_within start past.turns old.now fits.rises) time began) well

  rises_then : Elapses old new → RisesFrom start past.turns new.now
  rises_then time = rises_later start past.turns old.now new.now fits.rises (now_later old new lawful time)

  well_same : (run : RunStart) (later : BoxPast) → later.begun ≡ past.begun → later.empties ≡ past.empties → BeginWell run later → BeginWell run past
  well_same run later begun empties well = record {
    begun = subst (All (λ (one : BegunCommit). IsCommitAt run.gives run.layout (disk_books run one.turns).base one.slots one.work)) begun well.begun;
    empties = subst (All (λ (commit : ℕ). run.gives commit ≡ [])) empties well.empties;
  }

  failed_fits : Syncs false old new → RunFits layout start past new
  failed_fits is = record {
    rises = rises_then is.time;
    runs = λ run same moment began well.
        failed_syncs_keep old new run past.turns past.slots is (run_before is.time run same moment began well);
  }

  module _ (before core : ℕ) where
    done_fits : (fact : Label) → MayLabel layout before core fact past → IsDoneBy fact past.slots old new
        → RunFits layout start (after_label layout core fact past) new
    done_fits (label.Filled slot piece done) rule is =
        let wrote = is rule.has.work rule.has.there in
        record {
          rises = rises_then wrote.time;
          runs = λ run same moment began well.
              fills_keep old new run past.turns past.slots slot piece done rule.has rule.within lawful wrote
              (run_before wrote.time run same moment began (well_same run _ refl refl well));
        }
    done_fits (label.Synced now) rule is = record {
      rises = rises_then is.1.time;
      runs = λ run same moment began well.
          syncs_keep old new run past.turns past.slots lawful is.1
          (run_before is.1.time run same moment began (well_same run _ refl refl well));
    }
    done_fits (label.Opened slot done cut opened) rule is =
        let wrote = is.1 rule.has.work rule.has.there in
        let first = is.0 in
        let second : opened.now ≡ new.now = rule.opened_now.0 ∙ is.0 in
        record {
          rises = rises_on start past.turns (cut ∷ opened ∷ []) new.now (rises_then wrote.time) (omega arith, (omega arith, omega arith));
          runs = λ run same moment began well.
              opens_keep old new run past.turns past.slots slot done (record { cut = cut; opened = opened }) rule.has rule.filled (record {
                cut_is = rule.cut_is.did_is;
                opened_is = rule.opened_is.did_is;
                opened_commit = rule.opened_is.commit_is;
                cut_now = first;
                opened_now = second;
              }) lawful wrote (run_before wrote.time run same moment began (well_same run _ refl refl well));
        }
    done_fits (label.Placed slot n done) rule is =
        let wrote = is rule.has.work rule.has.there in
        record {
          rises = rises_then wrote.time;
          runs = λ run same moment began well.
              places_keep old new run past.turns past.slots slot n done rule.has rule.within rule.oldest lawful wrote
              (run_before wrote.time run same moment began (well_same run _ refl refl well));
        }
    done_fits (label.Shut slot done) rule is =
        let wrote = is rule.has.work rule.has.there in
        record {
          rises = rises_then wrote.time;
          runs = λ run same moment began well.
              shuts_keep old new run past.turns past.slots slot done rule.has rule.placed lawful wrote
              (run_before wrote.time run same moment began (well_same run _ refl refl well));
        }
    done_fits label.Took rule is = absurd is
    done_fits label.Gave rule is = absurd is
    done_fits (label.Noted turn) rule is = absurd is
    done_fits (label.Reserved commit seen grant) rule is = absurd is
    done_fits (label.Returned commit) rule is = absurd is
    done_fits (label.Began filling commit node stamp blocks inodes) rule is = absurd is
    done_fits (label.Settled slot turn) rule is = absurd is
    done_fits (label.Learned turn) rule is = absurd is
    done_fits (label.Idled slot) rule is = absurd is
    done_fits (label.Empty commit cut opened durable) rule is = absurd is

pub done_labels_fit : (old new : View) → DoneLabelsFit old new
done_labels_fit old new layout before core start fact past rule is lawful fits = done_fits old new layout start past lawful fits before core fact rule is

pub failed_syncs_fit : (old new : View) → FailedSyncsFit old new
failed_syncs_fit old new layout start past is lawful fits = failed_fits old new layout start past lawful fits is
