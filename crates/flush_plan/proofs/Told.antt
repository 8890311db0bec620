-- The kinds that changes tell, of one list behind another.
use Rattle.std.proofs.Common.{◌≡◌, ℕ, ◌+◌, ◌<◌, Bool, true, false, cond, List, [], ◌∷◌, ◌++◌, length, take, get_or, reverse, Option, Some, None, refl, sym, ap, subst, ◌∙◌, nat_eq}
use Rattle.std.specs.Prelude.{option_map}
use borrow.Author.Tests.{eqb-true}
use Rattle.std.specs.BTreeMap.{is_at}
use Rattle.std.specs.Cmp.{nat_cmp_is}
use Rattle.std.specs.FinMap.{nat_cmp-IsAntisymmetric}
use Rattle.std.specs.Ordering.{nat_cmp, is_eq}
use Rattle.std.specs.declared.cmp.Ordering.TheVariants.{Less, Equal, Greater}
use Rattle.sfs_base.proofs.BasicNumbers.{same_number}
use Rattle.std.specs.List.{find}
use Rattle.std.specs.Option.{option_or}
use Rattle.std.proofs.lemmas.List.{reverse-append, take_more}
use Rattle.std.proofs.lemmas.List.Folds.{find-append}
use Rattle.sfs_base.specs.declared.numbers.Kind.{Kind}
use Rattle.tree_laws.specs.declared.changes.Change.{Change}
use Rattle.flush_plan.specs.Kinds.{kind_told}

-- what the later changes tell goes first
pub told_append : (xs ys : List Change) (node : ℕ) → kind_told (xs ++ ys) node ≡ option_or (kind_told ys node) (kind_told xs node)
told_append xs ys node =
    ap (λ l. option_map (λ (change : Change). change.kind) (find names l)) (reverse-append xs ys)
    ∙ ap (option_map (λ (change : Change). change.kind)) (find-append names (reverse ys) (reverse xs))
    ∙ either (find names (reverse ys)) (find names (reverse xs))
  where
    names : Change → Bool
    names change = nat_eq change.child.0 node

    either : (late early : Option Change)
        → option_map (λ (change : Change). change.kind) (option_or late early)
        ≡ option_or (option_map (λ change. change.kind) late) (option_map (λ change. change.kind) early)
    either None early = refl
    either (Some change) early = refl

-- of one change more
pub told_more : (changes : List Change) (i : ℕ) (change : Change) (node : ℕ) (old : Option Kind) → i < length changes → change ≡ get_or changes i change
    → option_or (kind_told (take (i + 1) changes) node) old
    ≡ cond (nat_eq change.child.0 node) (Some change.kind) (option_or (kind_told (take i changes) node) old)
told_more changes i change node old within is =
    ap (λ l. option_or (kind_told l node) old) (take_more changes i change within ∙ ap (λ (c : Change). take i changes ++ c ∷ []) (sym is))
    ∙ ap (λ o. option_or o old) (told_append (take i changes) (change ∷ []) node)
    ∙ by (nat_eq change.child.0 node)
  where
    by : (b : Bool)
        → option_or (option_or (option_map (λ (c : Change). c.kind) (cond b (Some change) None)) (kind_told (take i changes) node)) old
        ≡ cond b (Some change.kind) (option_or (kind_told (take i changes) node) old)
    by true = refl
    by false = refl

-- a key is at a number where they are one
pub at_number : (key number : ℕ) → is_at (nat_cmp key) number ≡ nat_eq key number
at_number key number = elim (nat_eq key number) as (λ b. nat_eq key number ≡ b → is_at (nat_cmp key) number ≡ b) [
  | true ↦ λ same. sym (ap is_eq (nat_cmp_is key number Equal (eqb-true key number same)))
  | false ↦ λ other. elim (nat_cmp key number) as (λ o. nat_cmp key number ≡ o → is_eq o ≡ false) [
    | Less ↦ λ _. refl
    | Equal ↦ λ is. absurd (apart (nat_cmp-IsAntisymmetric key number is) other)
    | Greater ↦ λ _. refl
  ] refl
] refl
  where
    apart : key ≡ number → nat_eq key number ≡ false → ⊥
    apart same other = let one = subst (λ n. nat_eq key n ≡ true) same (same_number key) in absurd (cc)
