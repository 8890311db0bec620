-- A cut with the stamps of some nodes raised, made of a list of them.
use Rattle.std.proofs.Common.{◌≡◌, ℕ, true, false, cond, max, nat_eq, List, [], ◌∷◌, Option, Some, refl, sym, ap, ◌∙◌}
use Rattle.std.specs.Prelude.{◌||◌}
use Rattle.std.specs.Cmp.{nat_cmp_total, unsigned_ties}
use Rattle.std.specs.FinMap.{get, insert, get-insert}
use Rattle.std.specs.Option.{unwrap_or}
use borrow.Author.Tests.{eqb-true}
use Rattle.std.proofs.lemmas.Bool.{eqb-false}
use Rattle.sfs_base.specs.Listed.{is_listed}
use Rattle.sfs_base.proofs.BasicNumbers.{same_number, not_same}
use Rattle.cut_laws.specs.Cut.{Cut, cut_of}

-- a cut with the stamps of some nodes raised to this one at least
pub raised_cut : Cut → List ℕ → ℕ → Cut
raised_cut cut [] to = cut
raised_cut cut (node ∷ nodes) to = insert (raised_cut cut nodes to) node (max (cut_of cut node) to)

-- each of them has it, and any other its own
pub stamp_raised : (cut : Cut) (nodes : List ℕ) (to x : ℕ)
    → cut_of (raised_cut cut nodes to) x ≡ cond (is_listed nodes x) (max (cut_of cut x) to) (cut_of cut x)
unfolding raised_cut
stamp_raised cut [] to x = refl
stamp_raised cut (node ∷ nodes) to x =
    let found = get-insert nat_cmp_total (raised_cut cut nodes to) node (max (cut_of cut node) to) x
    ∙ ap (λ b. cond b (Some (max (cut_of cut node) to)) (get (raised_cut cut nodes to) x)) (sym (unsigned_ties x node)) in
    ap (λ (o : Option ℕ). unwrap_or o 0) found
    ∙ elim (nat_eq x node) as (λ b. nat_eq x node ≡ b
    → unwrap_or (cond b (Some (max (cut_of cut node) to)) (get (raised_cut cut nodes to) x)) 0
    ≡ cond (nat_eq node x || is_listed nodes x) (max (cut_of cut x) to) (cut_of cut x)) [
      | true ↦ λ t.
          let same : x ≡ node = eqb-true x node t in
          ap (λ n. max (cut_of cut n) to) (sym same)
          ∙ sym (ap (λ b. cond (b || is_listed nodes x) (max (cut_of cut x) to) (cut_of cut x)) (ap (λ n. nat_eq n x) (sym same) ∙ same_number x))
      | false ↦ λ f.
          stamp_raised cut nodes to x
          ∙ sym (ap (λ b. cond (b || is_listed nodes x) (max (cut_of cut x) to) (cut_of cut x)) (not_same node x (λ same. eqb-false x node f (sym same))))
    ] refl
