-- Pages that keep more bytes.
use Rattle.std.proofs.Common.{◌≡◌, ◌∙◌, sym, ap, ◌⊎◌, inl, inr, ◌-◌, ◌<◌, ◌≤◌, ◌++◌, ℕ, true, false, cond, List, length, get_or, take, ltb, arith}
use Rattle.std.proofs.lemmas.List.{get_or_past}
use Rattle.std.proofs.lemmas.Bool.{cases_lt}
use Rattle.std.proofs.lemmas.Bool.Decides.{nat_tests}
use Rattle.sfs_base.proofs.Bytes.{get_or-resized, zeros}

-- bytes with zeros behind them are the same at each place
pub same_filled : (size len : ℕ) (bytes filled : List ℕ) → len ≡ length bytes → len < size → filled ≡ take size bytes ++ zeros (size - len) → (place : ℕ)
    → get_or filled place 0 ≡ get_or bytes place 0
same_filled size len bytes filled counted short is place = whole ∙ by_place (cases_lt place size)
  where
    whole : get_or filled place 0 ≡ cond (ltb place size) (get_or bytes place 0) 0
    whole = ap (λ (xs : List ℕ). get_or xs place 0) (is ∙ ap (λ n. take size bytes ++ zeros (size - n)) counted) ∙ get_or-resized size bytes place

    by_place : (place < size) ⊎ (size ≤ place) → cond (ltb place size) (get_or bytes place 0) 0 ≡ get_or bytes place 0
    by_place (inl below) = let test : ltb place size ≡ true = grind (arith, nat_tests) in ap (λ b. cond b (get_or bytes place 0) 0) test
    by_place (inr past) =
        let test : ltb place size ≡ false = grind (arith, nat_tests) in
        ap (λ b. cond b (get_or bytes place 0) 0) test ∙ sym (get_or_past bytes place 0 (omega (arith, past, short, counted)))
