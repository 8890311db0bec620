-- A fact of each item of a list.
use Rattle.std.proofs.Common.{◌≡◌, suc, Bool, true, false, List, [], ◌∷◌, ◌++◌, sym, subst, arith}
use Rattle.std.specs.Prelude.{All, if◌then◌else◌}
use Rattle.std.proofs.lemmas.List.Elements.{All-push}

module _ {X : Type 0} (P : X → Type 0) where
  -- where all items have it, the last one has it
  pub last_has : (items : List X) (last : X) → All P (items ++ last ∷ []) → P last
  last_has [] last all = all 0 last (omega arith)
  last_has (item ∷ items) last all = last_has items last (λ k d lt. all (suc k) d (omega (arith, lt)))

  -- and so have all where one more may have come that has it
  pub put_has : (items after : List X) (item : X) (came : Bool) → after ≡ (if came then items ++ item ∷ [] else items) → All P items → P item → All P after
  put_has items after item came is all one = subst (All P) (sym is) (by_test came)
    where
      by_test : (b : Bool) → All P (if b then items ++ item ∷ [] else items)
      by_test true = All-push P items item all one
      by_test false = all
