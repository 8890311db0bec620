-- The stamps of the fsyncs for which something is reserved, behind turns.
use Rattle.std.proofs.Common.{◌++◌, ◌∷◌, ◌≡◌, ◌∙◌, List, ℕ, [], refl, filter, not, nat_eq, ap, cond, inl, inr, map, Bool, true, false, sym}
use Rattle.std.proofs.lemmas.List.{map-append}
use Rattle.sfs_base.proofs.BasicNumbers.{not_same, same_number}
use Rattle.tree_laws.specs.declared.turns.Turn.{Turn}
use Rattle.tree_laws.specs.declared.turns.TurnAct.{TurnAct}
use Rattle.tree_laws.specs.declared.turns.TurnAct.TheVariants as act
use Rattle.cut_laws.specs.Rules.{IsOneOf}
use Rattle.turn_laws.specs.Books.{is_other_grant}
use Rattle.book_laws.specs.Pairs.{Pair}
use Rattle.book_laws.specs.Walk.{grant_at, grants_by, grants_after, grants_in}
use Rattle.book_laws.specs.Along.{stamps_after, stamps_by}

pub stamps_more : (stamps : List ℕ) (front : List Turn) (turn : Turn)
    → stamps_after stamps (front ++ turn ∷ []) ≡ stamps_by turn.act turn.stamp.0 (stamps_after stamps front)
stamps_more stamps [] turn = refl
stamps_more stamps (first ∷ front) turn = stamps_more (stamps_by first.act first.stamp.0 stamps) front turn

-- none is taken from a list where it does not stand, and one from where it stands once
pub none_taken : (stamp : ℕ) (stamps : List ℕ) → (IsOneOf stamps stamp → ⊥) → filter (λ other. not (nat_eq other stamp)) stamps ≡ stamps
none_taken stamp [] away = refl
none_taken stamp (other ∷ stamps) away =
    ap (λ b. cond (not b) (other ∷ filter (λ (one : ℕ). not (nat_eq one stamp)) stamps) (filter (λ (one : ℕ). not (nat_eq one stamp)) stamps))
    (not_same other stamp (λ e. away (inl e)))
    ∙ ap (λ rest. other ∷ rest) (none_taken stamp stamps (λ one. away (inr one)))

pub one_taken : (stamp : ℕ) (before behind : List ℕ) → (IsOneOf (before ++ behind) stamp → ⊥)
    → filter (λ other. not (nat_eq other stamp)) (before ++ stamp ∷ behind) ≡ before ++ behind
one_taken stamp [] behind away =
    ap (λ b. cond (not b) (stamp ∷ filter (λ (one : ℕ). not (nat_eq one stamp)) behind) (filter (λ (one : ℕ). not (nat_eq one stamp)) behind))
    (same_number stamp)
    ∙ none_taken stamp behind away
one_taken stamp (other ∷ before) behind away =
    ap
    (λ b. cond (not b) (other ∷ filter (λ (one : ℕ). not (nat_eq one stamp)) (before ++ stamp ∷ behind))
    (filter (λ (one : ℕ). not (nat_eq one stamp)) (before ++ stamp ∷ behind)))
    (not_same other stamp (λ e. away (inl e)))
    ∙ ap (λ rest. other ∷ rest) (one_taken stamp before behind (λ one. away (inr one)))

-- the grants of the books are those of these stamps
module _ (pairs : ℕ → Pair) where
  filtered : (stamp : ℕ) (stamps : List ℕ)
      → filter (is_other_grant stamp) (map (grant_at pairs) stamps) ≡ map (grant_at pairs) (filter (λ other. not (nat_eq other stamp)) stamps)
  filtered stamp [] = refl
  filtered stamp (other ∷ stamps) = by (not (nat_eq other stamp)) (filtered stamp stamps)
    where
      by : (b : Bool)
          → filter (is_other_grant stamp) (map (grant_at pairs) stamps) ≡ map (grant_at pairs) (filter (λ one. not (nat_eq one stamp)) stamps)
          → cond b (grant_at pairs other ∷ filter (is_other_grant stamp) (map (grant_at pairs) stamps))
          (filter (is_other_grant stamp) (map (grant_at pairs) stamps))
          ≡ map (grant_at pairs) (cond b (other ∷ filter (λ one. not (nat_eq one stamp)) stamps) (filter (λ one. not (nat_eq one stamp)) stamps))
      by true rest = ap (λ more. grant_at pairs other ∷ more) rest
      by false rest = rest

  by_act : (did : TurnAct) (stamp : ℕ) (stamps : List ℕ)
      → grants_by pairs did stamp (map (grant_at pairs) stamps) ≡ map (grant_at pairs) (stamps_by did stamp stamps)
  by_act act.Granted stamp stamps = sym (map-append (grant_at pairs) stamps (stamp ∷ []))
  by_act act.GivenBack stamp stamps = filtered stamp stamps
  by_act act.Durable stamp stamps = filtered stamp stamps
  by_act (act.Short kind asked have) stamp stamps = refl
  by_act act.CutAt stamp stamps = refl
  by_act act.Opened stamp stamps = refl
  by_act act.Fail stamp stamps = refl
  by_act act.Halted stamp stamps = refl

  grants_behind : (turns : List Turn) (stamps : List ℕ)
      → grants_after pairs (map (grant_at pairs) stamps) turns ≡ map (grant_at pairs) (stamps_after stamps turns)
  grants_behind [] stamps = refl
  grants_behind (turn ∷ turns) stamps =
      ap (λ grants. grants_after pairs grants turns) (by_act turn.act turn.stamp.0 stamps)
      ∙ grants_behind turns (stamps_by turn.act turn.stamp.0 stamps)

  pub grants_are : (turns : List Turn) → grants_in pairs turns ≡ map (grant_at pairs) (stamps_after [] turns)
  grants_are turns = grants_behind turns []
