-- What is kept beside the slots, through labels that leave it as it is.
use Rattle.std.proofs.Common.{◌≡◌, ◌≢◌, ◌+◌, ◌<◌, ◌≤◌, ◌∙◌, ℕ, zero, suc, inl, inr, refl, sym, ap, subst, arith}
use Rattle.merge_laws.proofs.Blocks.{same_or_not}
use Rattle.slot_laws.specs.Slots.{with_at}
use Rattle.slot_laws.specs.Labels.{BoxPast, after_label, own_label}
use Rattle.slot_laws.specs.declared.label.Label.{Label}
use Rattle.slot_laws.proofs.Basics.{at_same, at_other}
use Rattle.disk_box.specs.Desk.{owed_by, owed_of}

-- one put where it is already
pub at_itself : {X : Type 0} (all : ℕ → X) (place : ℕ) (one : X) (other : ℕ) → one ≡ all place → with_at all place one other ≡ all other
at_itself all place one other is = elim (same_or_not other place) [
  | inl same ↦ at_same all place one other same ∙ is ∙ ap all (sym same)
  | inr not ↦ at_other all place one other not
]

-- the turns that may come: no more than before where no core may take more
pub owed_less : (n : ℕ) (old new : BoxPast)
    → ((core : ℕ) → core < n → owed_of (new.owns core) (new.waits core) ≤ owed_of (old.owns core) (old.waits core)) → owed_by n new ≤ owed_by n old
owed_less zero old new less = omega arith
owed_less (suc n) old new less =
    let front = owed_less n old new (λ core low. less core (omega arith)) in
    let last = less n (omega arith) in
    omega arith

-- and so many less where one core took so many
pub owed_taken : (n core took : ℕ) (old new : BoxPast) → core < n
    → owed_of (new.owns core) (new.waits core) + took ≤ owed_of (old.owns core) (old.waits core)
    → ((other : ℕ) → other < n → other ≢ core → owed_of (new.owns other) (new.waits other) ≤ owed_of (old.owns other) (old.waits other))
    → owed_by n new + took ≤ owed_by n old
owed_taken zero core took old new low own others = absurd (omega arith)
owed_taken (suc n) core took old new low own others = elim (same_or_not core n) [
  | inl same ↦
      let front = owed_less n old new (λ other below. others other (omega arith) (λ e. absurd (omega (arith, same, below, e)))) in
      let here : owed_of (new.owns n) (new.waits n) + took ≤ owed_of (old.owns n) (old.waits n) =
      subst (λ c. owed_of (new.owns c) (new.waits c) + took ≤ owed_of (old.owns c) (old.waits c)) same own
      in
      omega arith
  | inr not ↦
      let front = owed_taken n core took old new (omega (arith, low, not)) own (λ other below. others other (omega arith)) in
      let last = others n (omega arith) (λ e. not (sym e)) in
      omega arith
]

-- What a core told is at a label's end: its own, with the label.
module _ (layout : Rattle.sfs_image.specs.Super.Layout) (core : ℕ) (fact : Label) (past : BoxPast) where
  pub own_after : (after_label layout core fact past).owns core ≡ own_label fact (past.owns core)
  own_after = at_same past.owns core (own_label fact (past.owns core)) core refl

  pub others_after : (other : ℕ) → other ≢ core → (after_label layout core fact past).owns other ≡ past.owns other
  others_after other not = at_other past.owns core (own_label fact (past.owns core)) other not
