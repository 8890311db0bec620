-- Options and results.
use Rattle.std.proofs.Common.{◌≡◌, ℕ, true, false, Option, Some, None, is_some, IsSome, Result, Ok, Err, OnErr, OnOk, refl}
use Rattle.std.specs.Option.{option_or}

pub none_some : {X : Type 0} {x : X} → ◌≡◌ {A = Option X} None (Some x) → ⊥
none_some e = cc

pub some_not_none : {X : Type 0} {x : X} → ◌≡◌ {A = Option X} (Some x) None → ⊥
some_not_none e = cc

pub none_not_some : {X : Type 0} (o : Option X) → o ≡ None → IsSome o → ⊥
none_not_some o none some = cc

pub some_is_no_none : {X : Type 0} {o : Option X} → IsSome o → o ≡ None → ⊥
some_is_no_none some none = cc

pub some_same : {X : Type 0} {x y : X} → ◌≡◌ {A = Option X} (Some x) (Some y) → x ≡ y
some_same e = cc

pub some_is : {X : Type 0} (x y : X) → ◌≡◌ {A = Option X} (Some x) (Some y) → x ≡ y
some_is x y e = cc

pub none_of : {X : Type 0} (o : Option X) → is_some o ≡ false → o ≡ None
none_of (Some x) e = cc
none_of None e = refl

pub none_there : {X : Type 0} (o : Option X) → (IsSome o → ⊥) → o ≡ None
none_there (Some x) never = absurd (never refl)
none_there None never = refl

pub some_true : {X : Type 0} (o : Option X) → IsSome o → is_some o ≡ true
some_true (Some x) some = refl
some_true None some = cc

pub or_none : {X : Type 0} (o : Option X) → option_or o None ≡ o
or_none (Some x) = refl
or_none None = refl

pub on_err : {A E : Type 0} {X : Type 0} (r : Result A E) → X → OnErr r X
on_err (Ok a) x = tt
on_err (Err e) x = x

pub on_ok : {A E : Type 0} {X : Type 0} (r : Result A E) → X → OnOk r X
on_ok (Ok a) holds = holds
on_ok (Err e) holds = tt
