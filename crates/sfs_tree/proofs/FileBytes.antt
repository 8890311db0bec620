-- The bytes of a file, where others are put.
use Rattle.std.proofs.Common.{◌≡◌, ◌<◌, false, nat_eq, ℕ, zero, suc, ◌+◌, ◌-◌, ◌≤◌, List, [], ◌∷◌, ◌++◌, length, take, drop, replicate, refl, sym, ap, ◌∙◌, arith}
use Rattle.std.proofs.lemmas.List.{take-replicate, drop_all, length-replicate, append-nil}
use Rattle.std.proofs.lemmas.Bool.Decides.{nat_tests}
use Rattle.sfs_base.specs.Files.{resized, written}

take_zeros : (at n : ℕ) (bytes : List ℕ) → at - length bytes ≤ n → take at (bytes ++ replicate n 0) ≡ take at bytes ++ replicate (at - length bytes) 0
take_zeros zero n [] le = ap (λ k. replicate k 0) (let e : 0 ≡ 0 - length {A = ℕ} [] = omega arith in e)
take_zeros (suc at) n [] le =
    take-replicate (suc at) n 0 (omega arith) ∙ ap (λ k. replicate k 0) (let e : suc at ≡ suc at - length {A = ℕ} [] = omega arith in e)
take_zeros zero n (x ∷ bytes) le = ap (λ k. replicate k 0) (let e : 0 ≡ 0 - suc (length bytes) = omega arith in e)
take_zeros (suc at) n (x ∷ bytes) le =
    ap (λ l. x ∷ l)
    (take_zeros at n bytes (omega arith)
    ∙ ap (λ k. take at bytes ++ replicate k 0) (let e : at - length bytes ≡ suc at - suc (length bytes) = omega arith in e))

drop_zeros : (end n : ℕ) (bytes : List ℕ) → n ≡ end - length bytes → drop end (bytes ++ replicate n 0) ≡ drop end bytes
drop_zeros end n [] e =
    let zeros : List ℕ = replicate n 0 in
    let l : length zeros ≡ n = length-replicate n 0 in
    let none : length {A = ℕ} [] ≡ 0 = refl in
    drop_all end zeros (omega (arith, e, l, none)) ∙ sym (drop_all end [] (omega arith))
drop_zeros zero n (x ∷ bytes) e = ap (λ k. x ∷ bytes ++ replicate k 0) (let z : n ≡ 0 = omega arith in z) ∙ append-nil (x ∷ bytes)
drop_zeros (suc end) n (x ∷ bytes) e = drop_zeros end n bytes (omega arith)

-- the bytes written over those with enough zeros behind them
pub written_over : (at : ℕ) (from bytes zeros : List ℕ) → 0 < length from → zeros ≡ bytes ++ replicate (at + length from - length bytes) 0
    → take at zeros ++ from ++ drop (at + length from) zeros ≡ written at from bytes
written_over at from bytes zeros some is =
    let test : nat_eq (length from) 0 ≡ false = grind (arith, nat_tests) in
    rw test
    (ap (λ z. take at z ++ from ++ drop (at + length from) z) is
    ∙ ap (λ front. front ++ from ++ drop (at + length from) (bytes ++ replicate (at + length from - length bytes) 0))
    (take_zeros at (at + length from - length bytes) bytes (omega arith))
    ∙ ap (λ rest. resized at bytes ++ from ++ rest) (drop_zeros (at + length from) (at + length from - length bytes) bytes refl))
