-- The least node of a list that a flight concerns.
use Rattle.std.proofs.Common.{◌≡◌, ℕ, ◌≤◌, true, false, cond, List, [], ◌∷◌, ◌++◌, Option, Some, None, inl, inr, ◌↔◌, refl, sym, ◌∙◌, arith, nat_le}
use Rattle.std.proofs.lemmas.Bool.{leb-true, leb-false}
use Rattle.flush_core.specs.declared.sets.NodeSet.{NodeSet}
use Rattle.flush_core.specs.NodeSets.{has_node}
use Rattle.cut_laws.specs.Machine.{Flight}
use Rattle.cut_laws.specs.Rules.{IsOneOf}
use Rattle.flush_core.specs.Flights.{IsTaken, lesser_of, IsLeastTaken}
use Rattle.cut_laws.proofs.Basics.{in_either, in_left, in_right, le_of, none_some}
use Rattle.sfs_base.proofs.BasicOptions.{some_same}

pub record IsLeastOf (flights : List Flight) (nodes : List ℕ) (least : Option ℕ) : Type 0 where
  pub is_in : (node : ℕ) → least ≡ Some node → IsOneOf nodes node
  pub taken : (node : ℕ) → least ≡ Some node → IsTaken flights node
  pub least_of : (node other : ℕ) → least ≡ Some node → IsOneOf nodes other → IsTaken flights other → node ≤ other
  pub none : (other : ℕ) → least ≡ None → IsOneOf nodes other → IsTaken flights other → ⊥

some_no : {P : Type 0} {n : ℕ} → Some n ≡ None → P
some_no e = cc

pub least_none : (flights : List Flight) → IsLeastOf flights [] None
least_none flights = record {
  is_in = λ node e. none_some e;
  taken = λ node e. none_some e;
  least_of = λ node other e one taken. none_some e;
  none = λ other e one taken. absurd one;
}

-- a node that no flight concerns
pub least_passed : (flights : List Flight) (nodes : List ℕ) (node : ℕ) (least : Option ℕ) → IsLeastOf flights nodes least → (IsTaken flights node → ⊥)
    → IsLeastOf flights (nodes ++ node ∷ []) least
least_passed flights nodes node least is free = record {
  is_in = λ n e. in_left nodes (node ∷ []) n (is.is_in n e);
  taken = is.taken;
  least_of = λ n other e one taken. elim (in_either nodes (node ∷ []) other one) [
    | inl old ↦ is.least_of n other e old taken
    | inr new ↦ elim new [ inl same ↦ absurd (free (rw same taken)) | inr nothing ↦ absurd nothing ]
  ];
  none = λ other e one taken. elim (in_either nodes (node ∷ []) other one) [
    | inl old ↦ is.none other e old taken
    | inr new ↦ elim new [ inl same ↦ free (rw same taken) | inr nothing ↦ absurd nothing ]
  ];
}

module _ (flights : List Flight) (nodes : List ℕ) (node : ℕ) (taken : IsTaken flights node) where
  first_one : IsLeastOf flights nodes None → IsLeastOf flights (nodes ++ node ∷ []) (Some node)
  first_one is = record {
    is_in = λ n e. in_right nodes (node ∷ []) n (inl (some_same e));
    taken = λ n e. rw (some_same e) at taken;
    least_of = λ n other e one theirs. elim (in_either nodes (node ∷ []) other one) [
      | inl old ↦ absurd (is.none other refl old theirs)
      | inr new ↦ elim new [ inl same ↦ le_of (sym (some_same e) ∙ same) | inr nothing ↦ absurd nothing ]
    ];
    none = λ other e one theirs. some_no e;
  }

  stays_least : (other : ℕ) → other ≤ node → IsLeastOf flights nodes (Some other) → IsLeastOf flights (nodes ++ node ∷ []) (Some other)
  stays_least other le is = record {
    is_in = λ n e. in_left nodes (node ∷ []) n (is.is_in n e);
    taken = is.taken;
    least_of = λ n third e one theirs. elim (in_either nodes (node ∷ []) third one) [
      | inl old ↦ is.least_of n third e old theirs
      | inr new ↦ elim new [ inl same ↦ below (some_same e) same | inr nothing ↦ absurd nothing ]
    ];
    none = λ third e one theirs. some_no e;
  }
    where
      below : {n third : ℕ} → other ≡ n → node ≡ third → n ≤ third
      below e same = omega arith

  less_now : (other : ℕ) → node ≤ other → IsLeastOf flights nodes (Some other) → IsLeastOf flights (nodes ++ node ∷ []) (Some node)
  less_now other le is = record {
    is_in = λ n e. in_right nodes (node ∷ []) n (inl (some_same e));
    taken = λ n e. rw (some_same e) at taken;
    least_of = λ n third e one theirs. elim (in_either nodes (node ∷ []) third one) [
      | inl old ↦ low (some_same e) (is.least_of other third refl old theirs)
      | inr new ↦ elim new [ inl same ↦ le_of (sym (some_same e) ∙ same) | inr nothing ↦ absurd nothing ]
    ];
    none = λ third e one theirs. some_no e;
  }
    where
      low : {n third : ℕ} → node ≡ n → other ≤ third → n ≤ third
      low e below = omega arith

  -- one that a flight concerns
  pub least_more : (least : Option ℕ) → IsLeastOf flights nodes least → IsLeastOf flights (nodes ++ node ∷ []) (lesser_of least node)
  least_more None is = first_one is
  least_more (Some other) is =
      elim (nat_le other node) as (λ b. nat_le other node ≡ b → IsLeastOf flights (nodes ++ node ∷ []) (cond b (Some other) (Some node))) [
        | true ↦ λ t. stays_least other (is_below t) is
        | false ↦ λ t. less_now other (is_above t) is
      ] refl
    where
      is_below : nat_le other node ≡ true → other ≤ node
      is_below t = leb-true _ _ t

      is_above : nat_le other node ≡ false → node ≤ other
      is_above t = let lt = leb-false _ _ t in omega arith

-- of all nodes of a set
pub least_in : (flights : List Flight) (nodes : NodeSet) (list : List ℕ) (least : Option ℕ) → ((node : ℕ) → IsOneOf list node ↔ (has_node nodes node ≡ true))
    → IsLeastOf flights list least → IsLeastTaken flights nodes least
least_in flights nodes list least lists is = record {
  is_in = λ node e. (lists node).0 (is.is_in node e);
  taken = is.taken;
  least_of = λ node other e has taken. is.least_of node other e ((lists other).1 has) taken;
  none = λ other e has taken. is.none other e ((lists other).1 has) taken;
}
