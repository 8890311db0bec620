-- Something at a place, and the others as they were.
use Rattle.std.specs.Prelude.{option_map}
use Rattle.std.proofs.Common.{◌≡◌, ◌≢◌, ◌∙◌, ◌||◌, ◌⊎◌, ℕ, Bool, true, false, cond, Option, Some, None, inl, inr, refl, sym, ap, nat_eq}
use Rattle.std.proofs.Math.Path.{fun_ext}
use Rattle.sfs_base.proofs.BasicNumbers.{same_number, not_same}
use Rattle.merge_laws.proofs.Blocks.{same_or_not}
use Rattle.slot_laws.specs.Labels.{OwnTold}
use Rattle.slot_laws.specs.Slots.{with_at}

module _ {X : Type 0} (all : ℕ → X) (place : ℕ) (one : X) where
  pub at_here : with_at all place one place ≡ one
  at_here = ap (λ (b : Bool). cond b one (all place)) (same_number place)

  pub at_same : (other : ℕ) → other ≡ place → with_at all place one other ≡ one
  at_same other same = ap (with_at all place one) same ∙ at_here

  pub at_other : (other : ℕ) → other ≢ place → with_at all place one other ≡ all other
  at_other other apart = ap (λ (b : Bool). cond b one (all other)) (not_same other place apart)

-- what a core tells of itself, where it stays and where it is another
abbrev pub parts : {Y : Type 0} → (OwnTold → Y) → (ℕ → OwnTold) → ℕ → Y
parts part all c = part (all c)

module _ {Y : Type 0} (part : OwnTold → Y) (owns : ℕ → OwnTold) (core : ℕ) (own : OwnTold) where
  pub own_put : parts part (with_at owns core own) ≡ with_at (parts part owns) core (part own)
  own_put = fun_ext (λ c. by (nat_eq c core) c)
    where
      by : (b : Bool) (c : ℕ) → part (cond b own (owns c)) ≡ cond b (part own) (part (owns c))
      by true c = refl
      by false c = refl

  pub own_same : part own ≡ part (owns core) → parts part (with_at owns core own) ≡ parts part owns
  own_same e = fun_ext (λ c. elim (same_or_not c core) [
    | inl same ↦ ap part (at_same owns core own c same) ∙ e ∙ ap (λ (n : ℕ). part (owns n)) (sym same)
    | inr apart ↦ ap part (at_other owns core own c apart)
  ])

pub none_there : {X : Type 0} {x : X} {P : Type 0} → ◌≡◌ {A = Option X} None (Some x) → P
none_there e = cc

-- something that is there under a map
pub mapped_some : {X Y : Type 0} (f : X → Y) (o : Option X) (y : Y) → option_map f o ≡ Some y → (x : X) × (o ≡ Some x) × (f x ≡ y)
mapped_some f None y e = none_there e
mapped_some f (Some x) y e = (x, refl, cc)

-- of two that one is true
pub either_true : (a b : Bool) → (a || b) ≡ true → (a ≡ true) ⊎ (b ≡ true)
either_true true b e = inl refl
either_true false b e = inr e
