-- Fewer than three words are no image, nor are more than four.
use Rattle.std.proofs.Common.{◌≡◌, ℕ, ◌<◌, ◌≤◌, List, [], ◌∷◌, length, map, Bor, Err, refl, arith}
use Rattle.std.proofs.lemmas.List.{length-map}
use Rattle.words.specs.Words.{mkfs_asked}
use Rattle.words.proofs.reading.mkfs_asked.Goals as goal

few_words : (words : List (List ℕ)) → length words < 3 → Err 0 ≡ mkfs_asked words
few_words [] low = refl
few_words (a ∷ []) low = refl
few_words (a ∷ b ∷ []) low = refl
few_words (a ∷ b ∷ c ∷ words) low = absurd (omega arith)

many_words : (words : List (List ℕ)) → 5 ≤ length words → Err 0 ≡ mkfs_asked words
many_words [] low = absurd (omega arith)
many_words (a ∷ []) low = absurd (omega arith)
many_words (a ∷ b ∷ []) low = absurd (omega arith)
many_words (a ∷ b ∷ c ∷ []) low = absurd (omega arith)
many_words (a ∷ b ∷ c ∷ d ∷ []) low = absurd (omega arith)
many_words (a ∷ b ∷ c ∷ d ∷ e ∷ words) low = refl

pub returns-in_default-clause-command : goal.returns-in_default-clause-command
returns-in_default-clause-command c =
    let below = c.in_default.len_below in
    let same = length-map c.args.values.now (λ (value : Bor (List ℕ)). value.now) in
    few_words (map (λ (value : Bor (List ℕ)). value.now) c.args.values.now) (omega (arith, below, same))
