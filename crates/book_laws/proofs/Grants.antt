-- What is reserved behind turns: each open fsync finds its own inodes there, and one without turns finds nothing.
use borrow.Author.Tests.{eqb-true}
use Rattle.std.specs.List.{find}
use Rattle.std.specs.Option.{option_map_or}
use Rattle.std.proofs.Common.{◌≡◌, ◌≢◌, ◌⊎◌, ◌∷◌, ◌++◌, ◌∙◌, ℕ, Bool, true, false, cond, not, nat_eq, List, [], Option, Some, None, filter, inl, inr, refl, sym, ap}
use Rattle.sfs_base.proofs.BasicNumbers.{same_number, not_same}
use Rattle.sfs_base.proofs.BasicTruth.{false_not_true}
use Rattle.tree_laws.specs.declared.turns.Turn.{Turn}
use Rattle.cut_laws.specs.Rules.{IsOneOf}
use Rattle.turn_laws.specs.Books.{Grant, is_other_grant}
use Rattle.turn_laws.specs.Ways.{own_turns}
use Rattle.turn_laws.proofs.Going.{own_both}
use Rattle.book_laws.specs.Pairs.{Pair, bringing_under}
use Rattle.book_laws.specs.Walk.{grant_at, grants_by, grants_after}

module _ {X : Type 0} (test : X → Bool) where
  found_last : (xs : List X) (last : X) → find test xs ≡ None → test last ≡ true → find test (xs ++ last ∷ []) ≡ Some last
  found_last [] last none is = ap (λ (b : Bool). cond b (Some last) None) is
  found_last (x ∷ xs) last none is = by (test x) refl (λ rest. found_last xs last rest is)
    where
      by : (b : Bool) → test x ≡ b → (find test xs ≡ None → find test (xs ++ last ∷ []) ≡ Some last)
          → cond (test x) (Some x) (find test (xs ++ last ∷ [])) ≡ Some last
      by true e more = let never : Some x ≡ None = sym (ap (λ (c : Bool). cond c (Some x) (find test xs)) e) ∙ none in cc
      by false e more =
          ap (λ (c : Bool). cond c (Some x) (find test (xs ++ last ∷ []))) e
          ∙ more (sym (ap (λ (c : Bool). cond c (Some x) (find test xs)) e) ∙ none)

  found_before : (xs : List X) (last : X) → test last ≡ false → find test (xs ++ last ∷ []) ≡ find test xs
  found_before [] last is = ap (λ (b : Bool). cond b (Some last) None) is
  found_before (x ∷ xs) last is = ap (cond (test x) (Some x)) (found_before xs last is)

  found_filtered : (keep : X → Bool) (xs : List X) → ((x : X) → test x ≡ true → keep x ≡ true) → find test (filter keep xs) ≡ find test xs
  found_filtered keep [] each = refl
  found_filtered keep (x ∷ xs) each = by (found_filtered keep xs each) (keep x) refl (test x) refl
    where
      by : find test (filter keep xs) ≡ find test xs → (k : Bool) → keep x ≡ k → (t : Bool) → test x ≡ t
          → find test (cond (keep x) (x ∷ filter keep xs) (filter keep xs)) ≡ cond (test x) (Some x) (find test xs)
      by more true e t f =
          ap (λ (k : Bool). find test (cond k (x ∷ filter keep xs) (filter keep xs))) e
          ∙ ap (cond (test x) (Some x)) more
      by more false e true f = absurd (false_not_true (sym e ∙ each x f))
      by more false e false f =
          ap (λ (k : Bool). find test (cond k (x ∷ filter keep xs) (filter keep xs))) e ∙ more
          ∙ sym (ap (λ (t : Bool). cond t (Some x) (find test xs)) f)

-- a grant of a stamp
abbrev pub has_stamp_of : ℕ → Grant → Bool
has_stamp_of stamp grant = nat_eq grant.stamp stamp

-- the inodes that an fsync finds
abbrev pub inodes_found : ℕ → List Grant → List ℕ
inodes_found stamp grants = option_map_or (λ (grant : Grant). grant.inodes) (find (has_stamp_of stamp) grants) []

pub grants_more : (pairs : ℕ → Pair) (front : List Turn) (turn : Turn) (grants : List Grant)
    → grants_after pairs grants (front ++ turn ∷ []) ≡ grants_by pairs turn.act turn.stamp.0 (grants_after pairs grants front)
grants_more pairs [] turn grants = refl
grants_more pairs (first ∷ front) turn grants = grants_more pairs front turn (grants_by pairs first.act first.stamp.0 grants)

-- What is reserved fits the open fsyncs.
pub record GrantsFit (pairs : ℕ → Pair) (turns : List Turn) (opens : List ℕ) (grants : List Grant) : Type 0 where
  pub own : (stamp : ℕ) → IsOneOf opens stamp → inodes_found stamp grants ≡ (bringing_under pairs stamp).grant.inodes
  pub none : (stamp : ℕ) → own_turns stamp turns ≡ [] → find (has_stamp_of stamp) grants ≡ None

-- what has no part has none of its parts
parts_none : {X : Type 0} (xs ys : List X) → xs ++ ys ≡ [] → (xs ≡ []) × (ys ≡ [])
parts_none [] ys e = (refl, e)
parts_none (x ∷ xs) ys e = cc

-- an fsync without turns up to behind a turn had none before it, and is not the turn's
pub none_before : (front : List Turn) (turn : Turn) (stamp : ℕ) → own_turns stamp (front ++ turn ∷ []) ≡ []
    → (own_turns stamp front ≡ []) × (stamp ≢ turn.stamp.0)
none_before front turn stamp e =
    let parts = parts_none (own_turns stamp front) (own_turns stamp (turn ∷ [])) (sym (own_both stamp front (turn ∷ [])) ∙ e) in (
      parts.0,
      λ same.
          let never : turn ∷ [] ≡ [] =
          sym (ap (λ (b : Bool). cond b (turn ∷ []) []) (ap (λ (n : ℕ). nat_eq turn.stamp.0 n) same ∙ same_number turn.stamp.0)) ∙ parts.1 in cc,
    )

module _ (pairs : ℕ → Pair) (front : List Turn) (turn : Turn) (opens : List ℕ) (grants : List Grant) (fit : GrantsFit pairs front opens grants) where
  -- an act that leaves what is reserved as it is
  pub fits_same : (fewer : List ℕ) → ((stamp : ℕ) → IsOneOf fewer stamp → IsOneOf opens stamp) → GrantsFit pairs (front ++ turn ∷ []) fewer grants
  fits_same fewer within = record {
    own = λ stamp one. fit.own stamp (within stamp one);
    none = λ stamp e. fit.none stamp (none_before front turn stamp e).0;
  }

  -- an fsync with its first turn, to which nothing is granted
  pub fits_at_once : (more : List ℕ) → ((stamp : ℕ) → IsOneOf more stamp → (stamp ≡ turn.stamp.0) ⊎ IsOneOf opens stamp)
      → own_turns turn.stamp.0 front ≡ [] → (bringing_under pairs turn.stamp.0).grant.inodes ≡ [] → GrantsFit pairs (front ++ turn ∷ []) more grants
  fits_at_once more within first nothing = record {
    own = λ stamp one. elim (within stamp one) [
      | inl e ↦
          ap (λ (n : ℕ). inodes_found n grants) e
          ∙ ap (λ (o : Option Grant). option_map_or (λ (grant : Grant). grant.inodes) o []) (fit.none turn.stamp.0 first) ∙ sym nothing
          ∙ ap (λ (n : ℕ). (bringing_under pairs n).grant.inodes) (sym e)
      | inr there ↦ fit.own stamp there
    ];
    none = λ stamp e. fit.none stamp (none_before front turn stamp e).0;
  }

  -- an fsync that reserves
  pub fits_granted : (more : List ℕ) → ((stamp : ℕ) → IsOneOf more stamp → (stamp ≡ turn.stamp.0) ⊎ (IsOneOf opens stamp × (stamp ≢ turn.stamp.0)))
      → own_turns turn.stamp.0 front ≡ [] → GrantsFit pairs (front ++ turn ∷ []) more (grants ++ grant_at pairs turn.stamp.0 ∷ [])
  fits_granted more within first = record {
    own = λ stamp one. elim (within stamp one) [
      | inl e ↦
          ap (λ (n : ℕ). inodes_found n (grants ++ grant_at pairs turn.stamp.0 ∷ [])) e
          ∙ ap (λ (o : Option Grant). option_map_or (λ (grant : Grant). grant.inodes) o [])
          (found_last (has_stamp_of turn.stamp.0) grants (grant_at pairs turn.stamp.0) (fit.none turn.stamp.0 first) (same_number turn.stamp.0))
          ∙ ap (λ (n : ℕ). (bringing_under pairs n).grant.inodes) (sym e)
      | inr there ↦
          ap (λ (o : Option Grant). option_map_or (λ (grant : Grant). grant.inodes) o []) (still stamp there.1) ∙ fit.own stamp there.0
    ];
    none = λ stamp e. let was = none_before front turn stamp e in still stamp was.1 ∙ fit.none stamp was.0;
  }
    where
      still : (stamp : ℕ) → stamp ≢ turn.stamp.0
          → find (has_stamp_of stamp) (grants ++ grant_at pairs turn.stamp.0 ∷ []) ≡ find (has_stamp_of stamp) grants
      still stamp differ =
          found_before (has_stamp_of stamp) grants (grant_at pairs turn.stamp.0) (not_same turn.stamp.0 stamp (λ e. differ (sym e)))

  -- an fsync for which nothing is reserved any more
  pub fits_taken : (fewer : List ℕ) → ((stamp : ℕ) → IsOneOf fewer stamp → IsOneOf opens stamp × (stamp ≢ turn.stamp.0))
      → GrantsFit pairs (front ++ turn ∷ []) fewer (filter (is_other_grant turn.stamp.0) grants)
  fits_taken fewer within = record {
    own = λ stamp one.
        let its = within stamp one in
        ap (λ (o : Option Grant). option_map_or (λ (grant : Grant). grant.inodes) o []) (still stamp its.1) ∙ fit.own stamp its.0;
    none = λ stamp e. let was = none_before front turn stamp e in still stamp was.1 ∙ fit.none stamp was.0;
  }
    where
      still : (stamp : ℕ) → stamp ≢ turn.stamp.0
          → find (has_stamp_of stamp) (filter (is_other_grant turn.stamp.0) grants) ≡ find (has_stamp_of stamp) grants
      still stamp differ =
          found_filtered (has_stamp_of stamp) (is_other_grant turn.stamp.0) grants
          (λ grant is. ap not (not_same grant.stamp turn.stamp.0 (λ e. differ (sym (eqb-true grant.stamp stamp is) ∙ e))))
