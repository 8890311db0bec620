-- Truth values.
use Rattle.std.proofs.Common.{◌≡◌, ◌⊎◌, inl, inr, Bool, true, false, not, ◌&&◌, ◌||◌, T, refl}

pub or_first : (a b : Bool) → (a || b) ≡ false → a ≡ false
or_first true b e = e
or_first false b e = refl

pub or_second : (a b : Bool) → (a || b) ≡ false → b ≡ false
or_second true b e = cc
or_second false b e = e

pub or_true : (b : Bool) → (b || true) ≡ true
or_true true = refl
or_true false = refl

pub or_false : (b : Bool) → (b || false) ≡ b
or_false true = refl
or_false false = refl

pub and_first : (a b : Bool) → (a && b) ≡ true → a ≡ true
and_first true b e = refl
and_first false b e = cc

pub and_second : (a b : Bool) → (a && b) ≡ true → b ≡ true
and_second true b e = e
and_second false b e = cc

pub and_true : (b : Bool) → (b && true) ≡ b
and_true true = refl
and_true false = refl

pub and_false : (b : Bool) → (b && false) ≡ false
and_false true = refl
and_false false = refl

pub then_false : (b p : Bool) → (b && p) ≡ false → b ≡ true → p ≡ false
then_false true p e is = e
then_false false p e is = cc

pub not_true : (b : Bool) → not b ≡ true → b ≡ false
not_true true e = cc
not_true false e = refl

pub not_false : (b : Bool) → not b ≡ false → b ≡ true
not_false true e = refl
not_false false e = cc

pub not_both : {b : Bool} → b ≡ true → b ≡ false → ⊥
not_both t f = cc

pub not_both_of : (b : Bool) → b ≡ true → b ≡ false → ⊥
not_both_of b t f = cc

pub true_not_false : true ≡ false → ⊥
true_not_false e = cc

pub false_not_true : false ≡ true → ⊥
false_not_true e = cc

pub true_or_false : (b : Bool) → (b ≡ true) ⊎ (b ≡ false)
true_or_false true = inl refl
true_or_false false = inr refl

pub both_first : (a b : Bool) → T (a && b) → T a
both_first true b t = tt
both_first false b t = t

pub both_second : (a b : Bool) → T (a && b) → T b
both_second true b t = t
both_second false b t = absurd t

pub both_of : (a b : Bool) → T a → T b → T (a && b)
both_of true b s t = t
both_of false b s t = absurd s
