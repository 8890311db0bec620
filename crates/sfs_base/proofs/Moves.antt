-- How bytes move from a list into a buffer.
use Rattle.std.proofs.Common.{◌≡◌, ◌∙◌, sym, ap, ◌+◌, ◌-◌, ◌≤◌, ℕ, List, ◌++◌, length, take, drop, arith}
use Rattle.std.proofs.lemmas.Grind.{common_steps}
use Rattle.std.proofs.lemmas.List.{take-append-drop, drop-drop, length-drop, length-take}

-- the front of a buffer after a write of that many bytes
pub take_front : (moved behind : List ℕ) (count : ℕ) → length moved ≡ count → take count (moved ++ behind) ≡ moved
take_front moved behind count e = grind (arith, common_steps)

-- what is left from a place on is what the buffer's front has, and then what is left from behind it on
pub takes_front : (bytes moved behind : List ℕ) (at count : ℕ) → moved ≡ take (at + count - at) (drop at bytes) → at + count ≤ length bytes
    → drop at bytes ≡ take count (moved ++ behind) ++ drop (at + count) bytes
takes_front bytes moved behind at count e fits =
    let same : at + count - at ≡ count = omega arith in
    let front : moved ≡ take count (drop at bytes) = e ∙ ap (λ n. take n (drop at bytes)) same in
    let long : length moved ≡ count = ap length front ∙ omega (arith, length-take count (drop at bytes), length-drop at bytes) in
    sym (take-append-drop count (drop at bytes))
    ∙ ap (λ (rest : List ℕ). take count (drop at bytes) ++ rest) (drop-drop count at bytes)
    ∙ ap (λ (xs : List ℕ). xs ++ drop (at + count) bytes) (sym front ∙ sym (take_front moved behind count long))
