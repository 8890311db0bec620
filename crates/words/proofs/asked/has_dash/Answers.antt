use Rattle.std.proofs.Common.{◌≡◌, ℕ, zero, suc, ◌<◌, true, List, [], ◌∷◌, ◌||◌, length, map, string_bytes, Global, get_or, sym, ap, ◌∙◌, arith}
use Rattle.std.specs.List.{list_any}
use Rattle.words.specs.Words.{begins_with_dash}
use Rattle.words.proofs.asked.has_dash.Goals as goal
use Rattle.sfs_base.proofs.BasicTruth.{or_true}

-- a word that passes
any_at : {A : Type 0} (f : A → List ℕ) (xs : List A) (k : ℕ) (x : A) → k < length xs → x ≡ get_or xs k x → begins_with_dash (f x) ≡ true
    → list_any begins_with_dash (map f xs) ≡ true
any_at f [] k x lt is passes = absurd (omega arith)
any_at f (y ∷ xs) zero x lt is passes =
    ap (λ z. begins_with_dash (f z) || list_any begins_with_dash (map f xs)) (sym is) ∙ ap (λ b. b || list_any begins_with_dash (map f xs)) passes
any_at f (y ∷ xs) (suc k) x lt is passes = ap (λ b. begins_with_dash (f y) || b) (any_at f xs k x (omega arith) is passes) ∙ or_true (begins_with_dash (f y))

pub returns-then-begins_with_dash : goal.returns-then-begins_with_dash
returns-then-begins_with_dash c =
    sym (any_at (string_bytes {Z = Global}) c.args.words.now c.loop-word.word-index c.word-item.result
    (let test = c.loop-word-test.true in let end = c.loop-word.auto.word-index-end in omega arith) c.word-item.is
    (sym c.begins_with_dash.ensures ∙ c.if-begins_with_dash.true))
