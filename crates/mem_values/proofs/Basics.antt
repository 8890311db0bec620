-- Truth values, and what is there.
use Rattle.std.proofs.Common.{◌≡◌, Bool, true, false, ◌&&◌, ◌||◌, Option, Some, None, IsSome, refl}

pub left_false : (b : Bool) → (b && true) ≡ false → b ≡ false
left_false true is = is
left_false false is = refl

pub first_false : (a b : Bool) → a ≡ false → (a && b) ≡ false
first_false true b is = absurd (cc (is))
first_false false b is = refl

pub second_false : (a b : Bool) → b ≡ false → (a && b) ≡ false
second_false true b is = is
second_false false b is = refl

pub both_false : (a b : Bool) → a ≡ false → b ≡ false → (a || b) ≡ false
both_false true b one two = one
both_false false b one two = two

pub is_value : {X : Type 0} (o : Option X) → IsSome o → (x : X) × (o ≡ Some x)
is_value None some = absurd cc
is_value (Some x) some = (x, refl)

pub some_of : {X : Type 0} (o : Option X) (x : X) → o ≡ Some x → IsSome o
some_of None x is = absurd (cc (is))
some_of (Some y) x is = refl
