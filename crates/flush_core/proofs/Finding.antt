-- Looking through a list one by one for the first that passes a test.
use Rattle.std.proofs.Common.{◌≡◌, ℕ, suc, ◌<◌, ◌≤◌, Bool, true, false, cond, List, length, map, drop, get_or, Some, None, sym, ap, ◌∙◌}
use Rattle.std.specs.List.{find}
use Rattle.std.proofs.Math.Seq.{drop-cons}
use Rattle.std.proofs.lemmas.List.{drop_all}

-- what is looked for among the rest is this one, or among those behind it
find_on : {X Y : Type 0} (test : X → Bool) (f : Y → X) (xs : List Y) (i : ℕ) (x d : Y) → i < length xs → x ≡ get_or xs i d
    → find test (map f (drop i xs)) ≡ cond (test (f x)) (Some (f x)) (find test (map f (drop (suc i) xs)))
find_on test f xs i x d less is =
    ap (λ l. find test (map f l)) (drop-cons xs i d less)
    ∙ ap (λ y. cond (test (f y)) (Some (f y)) (find test (map f (drop (suc i) xs)))) (sym is)

pub found_here : {X Y : Type 0} (test : X → Bool) (f : Y → X) (xs : List Y) (i : ℕ) (x d : Y) → i < length xs → x ≡ get_or xs i d → test (f x) ≡ true
    → find test (map f (drop i xs)) ≡ Some (f x)
found_here test f xs i x d less is passes = find_on test f xs i x d less is ∙ ap (λ b. cond b (Some (f x)) (find test (map f (drop (suc i) xs)))) passes

pub not_here : {X Y : Type 0} (test : X → Bool) (f : Y → X) (xs : List Y) (i : ℕ) (x d : Y) → i < length xs → x ≡ get_or xs i d → test (f x) ≡ false
    → find test (map f (drop i xs)) ≡ find test (map f (drop (suc i) xs))
not_here test f xs i x d less is fails = find_on test f xs i x d less is ∙ ap (λ b. cond b (Some (f x)) (find test (map f (drop (suc i) xs)))) fails

pub none_behind : {X Y : Type 0} (test : X → Bool) (f : Y → X) (xs : List Y) (i : ℕ) → length xs ≤ i → find test (map f (drop i xs)) ≡ None
none_behind test f xs i le = ap (λ l. find test (map f l)) (drop_all i xs le)
