-- Of commits with numbers of their own, the one with a number.
use Rattle.std.specs.Prelude.{not}
use Rattle.std.proofs.Common.{◌≡◌, ◌≢◌, ◌⊎◌, ◌∷◌, ◌++◌, ◌∙◌, ℕ, Bool, cond, List, [], inl, inr, refl, sym, ap, subst, nat_eq, true}
use Rattle.sfs_base.proofs.BasicNumbers.{same_number, not_same}
use Rattle.cut_laws.specs.Rules.{IsOneOf}
use Rattle.cut_laws.proofs.Basics.{in_left, in_right, in_either, filter_all, filter_none}
use Rattle.merge_laws.proofs.Blocks.{same_or_not}
use Rattle.slot_laws.specs.Nodes.{ReservedCommit, is_numbered, is_numbered_otherwise, commits_numbered, commits_but}
use Rattle.slot_laws.specs.Lasts.{AreNumberedOnce}

-- one more in a list, and one more at its end
pub put_in : {X : Type 0} (before behind : List X) (one other : X) → IsOneOf (before ++ behind) other → IsOneOf (before ++ one ∷ behind) other
put_in before behind one other among = elim (in_either before behind other among) [
  | inl left ↦ in_left before (one ∷ behind) other left
  | inr right ↦ in_right before (one ∷ behind) other (inr right)
]

pub at_seam : {X : Type 0} (before behind : List X) (one : X) → IsOneOf (before ++ one ∷ behind) one
at_seam before behind one = in_right before (one ∷ behind) one (inl refl)

pub last_or_before : {X : Type 0} (list : List X) (one other : X) → IsOneOf (list ++ one ∷ []) other → IsOneOf list other ⊎ (one ≡ other)
last_or_before list one other among = elim (in_either list (one ∷ []) other among) [
  | inl before ↦ inl before
  | inr last ↦ elim last [ inl same ↦ inr same | inr never ↦ absurd never ]
]

module _ (number : ℕ) where
  -- of some commits one has the number, and is taken out
  pub record SplitAt (commits : List ReservedCommit) : Type 0 where
    pub before : List ReservedCommit
    pub behind : List ReservedCommit
    pub one : ReservedCommit
    pub whole : commits ≡ before ++ one ∷ behind
    pub number_is : one.number ≡ number
    pub own : commits_numbered number commits ≡ one ∷ []
    pub rest : commits_but number commits ≡ before ++ behind
    pub others : (other : ReservedCommit) → IsOneOf (before ++ behind) other → other.number ≢ number
    pub still : AreNumberedOnce (before ++ behind)

  -- none has it
  pub record Lacks (commits : List ReservedCommit) : Type 0 where
    pub none : (other : ReservedCommit) → IsOneOf commits other → other.number ≢ number
    pub own : commits_numbered number commits ≡ []
    pub rest : commits_but number commits ≡ commits

  pub lacks_where : (commits : List ReservedCommit) → ((other : ReservedCommit) → IsOneOf commits other → other.number ≢ number) → Lacks commits
  lacks_where commits none = record {
    none = none;
    own = filter_none (is_numbered number) commits (λ other among. not_same other.number number (none other among));
    rest = filter_all (is_numbered_otherwise number) commits (λ other among. ap not (not_same other.number number (none other among)));
  }

  own_test : (one : ReservedCommit) → one.number ≡ number → nat_eq one.number number ≡ true
  own_test one same = subst (λ (n : ℕ). nat_eq one.number n ≡ true) same (same_number one.number)

  pub find_split : (commits : List ReservedCommit) → AreNumberedOnce commits → SplitAt commits ⊎ Lacks commits
  find_split [] once = inr (lacks_where [] (λ other never. absurd never))
  find_split (one ∷ rest) once = elim (same_or_not one.number number) [
    | inl same ↦
        let lacks = lacks_where rest (λ other among e. once.0 other among (e ∙ sym same)) in
        inl (record {
          before = [];
          behind = rest;
          one = one;
          whole = refl;
          number_is = same;
          own =
              ap (λ (b : Bool). cond b (one ∷ commits_numbered number rest) (commits_numbered number rest)) (own_test one same)
              ∙ ap (λ (l : List ReservedCommit). one ∷ l) lacks.own;
          rest =
              ap (λ (b : Bool). cond (not b) (one ∷ commits_but number rest) (commits_but number rest)) (own_test one same) ∙ lacks.rest;
          others = lacks.none;
          still = once.1;
        })
    | inr apart ↦ elim (find_split rest once.1) [
      | inl split ↦
          let test = not_same one.number number apart in
          inl (record {
            before = one ∷ split.before;
            behind = split.behind;
            one = split.one;
            whole = ap (λ (l : List ReservedCommit). one ∷ l) split.whole;
            number_is = split.number_is;
            own =
                ap (λ (b : Bool). cond b (one ∷ commits_numbered number rest) (commits_numbered number rest)) test ∙ split.own;
            rest =
                ap (λ (b : Bool). cond (not b) (one ∷ commits_but number rest) (commits_but number rest)) test
                ∙ ap (λ (l : List ReservedCommit). one ∷ l) split.rest;
            others = λ other among. elim among [
              | inl same ↦ subst (λ (c : ReservedCommit). c.number ≢ number) same apart
              | inr there ↦ split.others other there
            ];
            still = (
              (λ other among.
                  once.0 other
                  (subst (λ (l : List ReservedCommit). IsOneOf l other) (sym split.whole) (put_in split.before split.behind split.one other among))),
              split.still,
            );
          })
      | inr lacks ↦ inr (lacks_where (one ∷ rest) (λ other among. elim among [
        | inl same ↦ subst (λ (c : ReservedCommit). c.number ≢ number) same apart
        | inr there ↦ lacks.none other there
      ]))
    ]
  ]

-- one more commit of a number of its own
pub once_more : (commits : List ReservedCommit) (one : ReservedCommit) → AreNumberedOnce commits
    → ((other : ReservedCommit) → IsOneOf commits other → other.number ≢ one.number) → AreNumberedOnce (commits ++ one ∷ [])
once_more [] one once apart = ((λ other never. absurd never), tt)
once_more (first ∷ rest) one once apart = (
  (λ other among. elim (last_or_before rest one other among) [
    | inl before ↦ once.0 other before
    | inr same ↦ λ e. apart first (inl refl) (sym e ∙ ap (λ (c : ReservedCommit). c.number) (sym same))
  ]),
  once_more rest one once.1 (λ other among. apart other (inr among)),
)
