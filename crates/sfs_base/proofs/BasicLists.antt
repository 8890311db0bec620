-- Lists and bytes.
use Rattle.std.proofs.Common.{◌≡◌, ℕ, zero, suc, true, false, List, [], ◌∷◌, take, replicate, refl}
use Rattle.std.specs.Prelude.{bytes_eq, slice_index}
use Rattle.std.proofs.lemmas.Slice.Eq.{bytes_eq-Decides}

pub take_none : {X : Type 0} (items : List X) → take 0 items ≡ []
take_none [] = refl
take_none (x ∷ items) = refl

pub zeros_read : (n k : ℕ) → slice_index (replicate n 0) k ≡ 0
zeros_read zero zero = refl
zeros_read zero (suc k) = refl
zeros_read (suc n) zero = refl
zeros_read (suc n) (suc k) = zeros_read n k

pub same_bytes : (bytes : List ℕ) → bytes_eq bytes bytes ≡ true
same_bytes bytes = (bytes_eq-Decides bytes bytes).1 refl

pub bytes_same : (a b : List ℕ) → bytes_eq a b ≡ true → a ≡ b
bytes_same a b e = (bytes_eq-Decides a b).0 e

pub bytes_unlike : (a b : List ℕ) → a ≡ b → bytes_eq a b ≡ false → ⊥
bytes_unlike a b same e = let equal = (bytes_eq-Decides a b).1 same in cc
