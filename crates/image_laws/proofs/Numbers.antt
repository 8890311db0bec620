-- A serving grant gives a commit its numbers.
use Rattle.std.proofs.Common.{◌≡◌, ℕ, suc, ◌<◌, Bool, true, false, cond, ◌||◌, List, [], ◌∷◌, length, slice_index, Option, Some, None, is_some, refl, sym, ap, subst, ◌∙◌, arith, nat_eq}
use borrow.Author.Tests.{eqb-true}
use Rattle.std.specs.Prelude.{slice_get}
use Rattle.std.specs.List.{list_any}
use Rattle.sfs_base.proofs.BasicOptions.{none_some, some_same}
use Rattle.sfs_base.proofs.BasicTruth.{not_both}
use Rattle.sfs_image.specs.Seen.{SeenInodes}
use Rattle.image_laws.specs.Stands.{IsUnused}
use Rattle.image_laws.specs.Commit.{Commit, ComesBy, had, enters}
use Rattle.image_laws.specs.Numbers.{grant_for, numbers_after, InodeGrantServes, NumbersAreGiven}
use Rattle.image_laws.specs.Laws.{GrantsGiveNumbers}

-- where a node enters, and the number that it gets
pub record IsGranted (entering grant : List ℕ) (node i : ℕ) : Type 0 where
  pub place : ℕ
  pub enters_there : slice_get entering place ≡ Some node
  pub within : place < length grant
  pub number : slice_index grant place ≡ i

pub granted : (entering grant : List ℕ) (node i : ℕ) → grant_for entering grant node ≡ Some i → IsGranted entering grant node i
granted [] grant node i e = absurd (none_some e)
granted (x ∷ entering) [] node i e = absurd (none_some e)
granted (x ∷ entering) (j ∷ grant) node i e =
    elim (nat_eq x node) as (λ b. nat_eq x node ≡ b → cond b (Some j) (grant_for entering grant node) ≡ Some i → IsGranted (x ∷ entering) (j ∷ grant) node i) [
      | true ↦ λ t f. record { place = 0; enters_there = ap Some (eqb-true _ _ t); within = omega arith; number = some_same f }
      | false ↦ λ t f.
          let rest = granted entering grant node i f in
          let lt = rest.within in
          record { place = suc rest.place; enters_there = rest.enters_there; within = omega arith; number = rest.number }
    ] refl e

enough_for : (entering grant : List ℕ) (node : ℕ) → length grant ≡ length entering → list_any (λ x. nat_eq x node) entering ≡ true
    → (i : ℕ) × (grant_for entering grant node ≡ Some i)
enough_for [] grant node same listed = absurd (not_both listed refl)
enough_for (x ∷ entering) [] node same listed = absurd (omega arith)
enough_for (x ∷ entering) (j ∷ grant) node same listed =
    elim (nat_eq x node) as (λ b. (b || list_any (λ x. nat_eq x node) entering) ≡ true → (i : ℕ) × (cond b (Some j) (grant_for entering grant node) ≡ Some i)) [
      | true ↦ λ _. (j, refl)
      | false ↦ λ f. enough_for entering grant node (omega arith) f
    ] listed

module _ (commit : Commit) (image : SeenInodes) (leaves : ℕ → Bool) (entering grant : List ℕ) (g : InodeGrantServes image entering grant)
    (after : (node : ℕ) → commit.after node ≡ numbers_after commit.before leaves entering grant node) where
  -- a node without a number gets what the grant has for it
  entered : (node : ℕ) → commit.before node ≡ None → commit.after node ≡ grant_for entering grant node
  entered node none = after node ∙ ap (λ (o : Option ℕ). cond (is_some o) (cond (leaves node) None o) (grant_for entering grant node)) none

  comes : (node i : ℕ) → commit.after node ≡ Some i → ComesBy commit image node i
  comes node i is = by_number (commit.before node) refl
    where
      by_number : (o : Option ℕ) → commit.before node ≡ o → ComesBy commit image node i
      by_number (Some j) e =
          kept (leaves node) (sym (after node ∙ ap (λ (o : Option ℕ). cond (is_some o) (cond (leaves node) None o) (grant_for entering grant node)) e) ∙ is)
        where
          kept : (b : Bool) → cond b None (Some j) ≡ Some i → ComesBy commit image node i
          kept true f = absurd (none_some f)
          kept false f = had (e ∙ f)
      by_number None e =
          let found = granted entering grant node i (sym (entered node e) ∙ is) in
          enters e (subst (λ (n : ℕ). n < image.count) found.number (g.within found.place found.within))
          (subst (λ (n : ℕ). IsUnused (image.seen n)) found.number (g.free found.place found.within))

  given : NumbersAreGiven commit image entering
  given = record {
    gives = record {
      comes = comes;
      once = λ node twin i none no_twin is also.
          let first = granted entering grant node i (sym (entered node none) ∙ is) in
          let second = granted entering grant twin i (sym (entered twin no_twin) ∙ also) in
          let places = g.once first.place second.place first.within second.within (first.number ∙ sym second.number) in
          some_same (sym first.enters_there ∙ ap (slice_get entering) places ∙ second.enters_there);
    };
    each = λ node none listed. let found = enough_for entering grant node g.enough listed in (found.0, entered node none ∙ found.1);
  }

pub grants_give_numbers : GrantsGiveNumbers
grants_give_numbers = given
