-- What is known of a slot's commit once it was written for: the phase that comes next fits.
use Rattle.std.proofs.Common.{◌≡◌, ◌+◌, ◌<◌, ◌&&◌, ◌||◌, ◌∙◌, ℕ, Bool, true, false, length, Some, inl, inr, refl, sym, ap, subst, arith}
use Rattle.sfs_base.proofs.BasicNumbers.{not_same, same_number}
use Rattle.journal_one.specs.Job.{Job, Place, fill_count}
use Rattle.journal_one.specs.Stage.{Stage}
use Rattle.merge_laws.proofs.Blocks.{same_or_not}
use Rattle.slot_laws.specs.Slots.{SlotWork, knowing, known_filled, known_gated, known_placed, open_gate, shut_gate, with_number, without_number}
use Rattle.disk_box.specs.declared.desk.Phase.{Phase}
use Rattle.disk_box.specs.declared.desk.Phase.TheVariants as phase
use Rattle.disk_box.specs.Calls.{FollowsWrite}
use Rattle.disk_box.specs.Slots.{IsBeingFilled, IsBeingPlaced, IsFillingOf, IsCopiedOf, IsSealedOf, PhaseFits}

-- one more of the first numbers is marked
marked_more : (marks : ℕ → Bool) (done n : ℕ) → ((m : ℕ) → m < done → marks m ≡ true) → n < done + 1 → with_number marks done n ≡ true
marked_more marks done n before low = elim (same_or_not n done) [
  | inl same ↦ ap (λ m. with_number marks done m) same ∙ ap (λ b. b || marks done) (same_number done)
  | inr not ↦ or_true (Rattle.std.proofs.Common.nat_eq n done) (marks n) (before n (omega (arith, low, not)))
] where
  or_true : (a b : Bool) → b ≡ true → (a || b) ≡ true
  or_true true b is = refl
  or_true false b is = is

-- of the others none is
marked_not : (marks : ℕ → Bool) (done n : ℕ) → (n ≡ done → ⊥) → marks n ≡ false → with_number marks done n ≡ false
marked_not marks done n not is = ap (λ b. b || marks n) (not_same n done not) ∙ is

-- and one that is taken off is not
taken_off : (marks : ℕ → Bool) (done : ℕ) → without_number marks done done ≡ false
taken_off marks done = ap (λ b. Rattle.std.proofs.Common.not b && marks done) (same_number done)

-- one that was not marked is not
still_off : (marks : ℕ → Bool) (done n : ℕ) → marks n ≡ false → without_number marks done n ≡ false
still_off marks done n is = off (Rattle.std.proofs.Common.not (Rattle.std.proofs.Common.nat_eq n done)) (marks n) is where
  off : (a b : Bool) → b ≡ false → (a && b) ≡ false
  off true b is = is
  off false b is = refl

module _ (place : Place) (work : SlotWork) where
  -- a piece that fills it
  module _ (filling : Stage) (filled : IsFillingOf filling work) where
    abbrev fits : IsBeingFilled filling.job filling.done work
    fits = filled.being

    filled_so : (job : Job) (done : ℕ) → job ≡ filling.job → done ≡ filling.done + 1
        → IsBeingFilled job done (knowing (known_filled true filling.done) work)
    filled_so job done same count = record {
      job_is = fits.job_is ∙ sym same;
      shut = record { aloft = fits.shut.aloft; left = fits.shut.left; read = fits.shut.read };
      written = λ n low. marked_more work.known.fill_read filling.done n fits.written (subst (λ d. n < d) count low);
      rest = λ n high.
          let before = fits.rest n (omega (arith, high, count)) in (
            marked_not work.known.fill_read filling.done n (λ e. absurd (omega (arith, e, high, count))) before.0,
            still_off work.known.fill_left filling.done n before.1,
          );
    }

    pub next_filled : (next : Phase) → FollowsWrite (phase.Filling filling) next
        → PhaseFits next place (Some (knowing (known_filled true filling.done) work))
    next_filled (phase.Filling more) follows =
        let same = ap (λ (s : Stage). s.job) follows.0 in
        let done = ap (λ (s : Stage). s.done) follows.0 in
        record {
          being = filled_so more.job more.done same done;
          more = (let left = follows.1 in let count = ap fill_count same in omega (arith, done, left, count));
        }
    next_filled (phase.Filled all) follows =
        let left = follows.1 in
        let count = ap fill_count follows.0 in
        record {
          being = filled_so all (fill_count all) follows.0 (count ∙ omega (arith, left));
          lags = (filling.done, (let more = filled.more in omega (arith, more, count)), taken_off work.known.fill_left filling.done);
        }
    next_filled (phase.Idle state) follows = absurd follows
    next_filled (phase.Sealed state) follows = absurd follows
    next_filled (phase.Opened state) follows = absurd follows
    next_filled (phase.Durable state) follows = absurd follows
    next_filled (phase.Placed state) follows = absurd follows
    next_filled (phase.Copied state) follows = absurd follows
    next_filled (phase.Closing state) follows = absurd follows
    next_filled phase.Lost follows = absurd follows

  -- the gate, open
  module _ (sealed : Job) (fits : IsSealedOf sealed work) where
    pub next_opened : (next : Phase) → FollowsWrite (phase.Sealed sealed) next → PhaseFits next place (Some (knowing (known_gated true open_gate) work))
    next_opened (phase.Opened opened) follows = record { job_is = fits.filled.job_is ∙ sym follows; aloft = fits.filled.shut.aloft; read = refl }
    next_opened (phase.Idle state) follows = absurd follows
    next_opened (phase.Filling state) follows = absurd follows
    next_opened (phase.Filled state) follows = absurd follows
    next_opened (phase.Sealed state) follows = absurd follows
    next_opened (phase.Durable state) follows = absurd follows
    next_opened (phase.Placed state) follows = absurd follows
    next_opened (phase.Copied state) follows = absurd follows
    next_opened (phase.Closing state) follows = absurd follows
    next_opened phase.Lost follows = absurd follows

  -- a record in the table
  module _ (durable : Stage) (fits : IsBeingPlaced durable.job durable.done work) where
    placed_so : (job : Job) (done : ℕ) → job ≡ durable.job → done ≡ durable.done + 1
        → IsBeingPlaced job done (knowing (known_placed true durable.done) work)
    placed_so job done same count = record {
      job_is = same ∙ fits.job_is;
      durable = fits.durable;
      left = fits.left;
      read = fits.read;
      placed = λ n low. marked_more work.known.table_read durable.done n fits.placed (subst (λ d. n < d) count low);
    }

    pub next_placed : (next : Phase) → FollowsWrite (phase.Durable durable) next
        → PhaseFits next place (Some (knowing (known_placed true durable.done) work))
    next_placed (phase.Durable more) follows =
        placed_so more.job more.done (ap (λ (s : Stage). s.job) follows) (ap (λ (s : Stage). s.done) follows)
    next_placed (phase.Placed placed) follows =
        let left = follows.1 in
        placed_so placed (length placed.entries) follows.0 (ap (λ (j : Job). length j.entries) follows.0 ∙ omega (arith, left))
    next_placed (phase.Idle state) follows = absurd follows
    next_placed (phase.Filling state) follows = absurd follows
    next_placed (phase.Filled state) follows = absurd follows
    next_placed (phase.Sealed state) follows = absurd follows
    next_placed (phase.Opened state) follows = absurd follows
    next_placed (phase.Copied state) follows = absurd follows
    next_placed (phase.Closing state) follows = absurd follows
    next_placed phase.Lost follows = absurd follows

  -- the gate, shut
  module _ (copied : Job) (fits : IsCopiedOf copied work) where
    pub next_shut : (next : Phase) → FollowsWrite (phase.Copied copied) next → PhaseFits next place (Some (knowing (known_gated true shut_gate) work))
    next_shut (phase.Closing closing) follows = record { job_is = follows ∙ fits.placed.job_is; durable = fits.placed.durable; read = refl }
    next_shut (phase.Idle state) follows = absurd follows
    next_shut (phase.Filling state) follows = absurd follows
    next_shut (phase.Filled state) follows = absurd follows
    next_shut (phase.Sealed state) follows = absurd follows
    next_shut (phase.Opened state) follows = absurd follows
    next_shut (phase.Durable state) follows = absurd follows
    next_shut (phase.Placed state) follows = absurd follows
    next_shut (phase.Copied state) follows = absurd follows
    next_shut phase.Lost follows = absurd follows
