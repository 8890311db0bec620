-- What a crash leaves of the device calls of a commit.
use Rattle.std.proofs.Common.{◌≡◌, ℕ, ◌<◌, ◌≤◌, List, Some, None, inl, inr, subst, arith}
use Rattle.std.specs.Prelude.{◌⊎◌, Result, Ok, Err}
use Rattle.std.proofs.lemmas.Bool.{cases_lt}
use Rattle.sfs_dev.specs.Disk.{View, images}
use Rattle.sfs_image.specs.ImageOf.{InodePart}
use Rattle.sfs_image.specs.Part.{Part}
use Rattle.tree_laws.specs.Tree.{TreeState}
use Rattle.journal_one.specs.Job.{Job}
use Rattle.commit_one.specs.Carried.{durable_at}
use Rattle.image_laws.specs.Image.{IsReadAsTree}
use Rattle.crash_laws.specs.Wrote.{Wrote}
use Rattle.crash_laws.proofs.Untouched.{past_is_kept}
use Rattle.flush_laws.specs.Journal.{ShowsCommit, CarriesCommit, CarriedCommitsWrite, DoubtfulCommitsWrite}

module _ (old now : View) (share : ℕ) (before next_tree : TreeState) (job : Job) (parts next : ℕ → Part) (given : List InodePart)
    (shows : ShowsCommit share before next_tree job parts next given) where
  abbrev durable : ℕ
  durable = durable_at old.now job

  -- an image of a moment behind the durable one is the new tree
  at_late : {V E : Type 0} (result : Result V E) → CarriesCommit job parts given old now result → (k : ℕ) (image : List ℕ) → old.now ≤ k → k ≤ now.now
      → now.crash_images k image → durable < k → IsReadAsTree image share next_tree
  at_late result is k image low high left late = elim ((is.carried.each_moment is.content is.tells is.counts k image low high left).durable late) [
    | inl by_slot ↦ shows.slot_shows image by_slot
    | inr behind ↦ shows.after_shows image behind
  ]

  -- an image of a moment is the old tree or the new one
  at_moment : {V E : Type 0} (result : Result V E) → CarriesCommit job parts given old now result → (k : ℕ) (image : List ℕ) → old.now ≤ k → k ≤ now.now
      → now.crash_images k image → IsReadAsTree image share next_tree ⊎ (IsReadAsTree image share before × (k ≤ durable))
  at_moment result is k image low high left = elim (cases_lt durable k) [
    | inl late ↦ inl (at_late result is k image low high left late)
    | inr early ↦ elim ((is.carried.each_moment is.content is.tells is.counts k image low high left).opening early) [
      | inl is_before ↦ inr (shows.before_shows image is_before, early)
      | inr by_slot ↦ inl (shows.slot_shows image by_slot)
    ]
  ]

  pub carried_write : {V E : Type 0} (value : V) → CarriesCommit {V = V} {E = E} job parts given old now (Ok value)
      → Wrote share before next_tree old now (Some durable)
  carried_write value is = record {
    keeps = past_is_kept old now is.counts is.goes;
    moments = λ k image low high left. elim (at_moment (Ok value) is k image low high left) [
      | inl is_new ↦ inl is_new
      | inr (is_old, early) ↦ elim (cases_lt k durable) [
        | inl earlier ↦ inr (is_old, earlier)
        | inr late ↦
            let same : k ≡ durable = omega arith in
            inl (shows.slot_shows image (is.carried.acknowledged is.content is.tells is.counts image (subst (λ m. now.crash_images m image) same left)))
      ]
    ];
    makes = record {
      not_before = omega arith;
      not_after = let all = is.takes.all is.counts in omega (arith, all);
      holds = record {
        left = held;
        told = λ content told. held content (is.leaves_content content told);
      };
    };
  }
    where
      held : (image : List ℕ) → images now image → IsReadAsTree image share next_tree
      held image left =
          let all = is.takes.all is.counts in
          at_late (Ok value) is now.now image (omega (arith, all)) (omega arith) left (omega (arith, all))

  pub doubtful_write : {V E : Type 0} (fault : E) → CarriesCommit {V = V} {E = E} job parts given old now (Err fault)
      → Wrote share before next_tree old now None
  doubtful_write fault is = record {
    keeps = past_is_kept old now is.counts is.goes;
    moments = λ k image low high left. elim (at_moment (Err fault) is k image low high left) [
      | inl is_new ↦ inl is_new
      | inr (is_old, early) ↦ inr (is_old, tt)
    ];
    makes = tt;
  }

pub carried_commits_write : (old now : View) → CarriedCommitsWrite old now
carried_commits_write old now share before next_tree job parts next given shows is =
    carried_write old now share before next_tree job parts next given shows 0 is

pub doubtful_commits_write : (old now : View) → DoubtfulCommitsWrite old now
doubtful_commits_write old now share before next_tree job parts next given shows is =
    doubtful_write old now share before next_tree job parts next given shows 0 is
