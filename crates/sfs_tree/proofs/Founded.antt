-- The numbers of nodes, kept by each change.
use Rattle.std.proofs.Common.{◌≡◌, ℕ, ◌+◌, ◌*◌, ◌/◌, ◌%◌, ◌<◌, ◌≤◌, true, false, List, length, set, replicate, Option, Some, None, IsSome, ◌⊎◌, inl, inr, refl, sym, ap, subst, ◌∙◌, arith, nat_eq, slice_index}
use borrow.Author.Tests.{eqb-true, eqb-false}
use Rattle.std.specs.Ordering.{nat_cmp}
use Rattle.std.proofs.lemmas.Nat.{div-mul-add, mod-mul-add}
use Rattle.std.proofs.lemmas.List.{get_or-set_same, get_or-set_other, length-set, length-replicate}
use Rattle.std.specs.FinMap.{FinMap, get, insert, empty, get-empty}
use Rattle.tree_laws.specs.Tree.{Node, TreeState}
use Rattle.tree_laws.specs.Sound.{IsNumbered}
use Rattle.tree_laws.specs.Effect.{Edit, edited, with_edit}
use Rattle.tree_laws.specs.Build.{IsFounded}
use Rattle.sfs_tree.proofs.StoreKept.{some_before}
use Rattle.sfs_base.proofs.BasicOptions.{none_not_some, none_there}
use Rattle.sfs_base.proofs.BasicLists.{zeros_read}

-- a tree in which no core has made a node has the nodes below the first new one alone
pub IsFounded-new : (nodes : FinMap nat_cmp Node) (first share cores : ℕ) → first ≤ 16384 → share * cores ≤ 65536
    → ((node : ℕ) → IsSome (get nodes node) → node < first) → IsFounded nodes first share (replicate cores 0)
IsFounded-new nodes first share cores low shares below = record {
  allowed = record {
    low = low;
    shares = subst (λ n. share * n ≤ 65536) (sym (length-replicate cores 0)) shares;
    within = λ core. let z = zeros_read cores core in omega arith;
  };
  drawn = record { known = λ node some. inl (below node some) };
}

-- the root alone lies below the first new one
pub root_below : (first : ℕ) (root : Node) (node : ℕ) → 1 ≤ first → IsSome (get (insert (empty {R = nat_cmp}) 0 root) node) → node < first
root_below first root node le some = elim (some_before empty 0 node root some) as (λ _. node < first) [
  | inl same ↦ omega arith
  | inr old ↦ absurd (none_not_some _ (get-empty nat_cmp node) old)
]

module _ (nodes : FinMap nat_cmp Node) (first share : ℕ) (made : List ℕ) (h : IsFounded nodes first share made) where
  -- a further node below the first new one
  pub IsFounded-node : (number : ℕ) (node : Node) → number < first → IsFounded (insert nodes number node) first share made
  IsFounded-node number node lt = record {
    allowed = h.allowed;
    drawn = record {
      known =
          λ x some. elim (some_before nodes number x node some) as (λ _. (x < first)
          ⊎ ((core creation : ℕ) × (core < length made) × (creation < slice_index made core) × (x ≡ first + core * share + creation))) [
            | inl same ↦ inl (omega arith)
            | inr old ↦ h.drawn.known x old
          ];
    };
  }

  -- another node in the place of one
  pub IsFounded-edited : (number : ℕ) (edit : Edit) → IsFounded (with_edit nodes number edit (get nodes number)) first share made
  IsFounded-edited number edit = by_node (get nodes number) refl
    where
      by_node : (o : Option Node) → get nodes number ≡ o → IsFounded (with_edit nodes number edit o) first share made
      by_node None e = h
      by_node (Some node) e = record {
        allowed = h.allowed;
        drawn = record {
          known =
              λ x some. elim (some_before nodes number x (record node { bytes = edited edit node.bytes }) some) as (λ _. (x < first)
              ⊎ ((core creation : ℕ) × (core < length made) × (creation < slice_index made core) × (x ≡ first + core * share + creation))) [
                | inl same ↦ h.drawn.known x (subst IsSome (sym (ap (get nodes) same ∙ e)) refl)
                | inr old ↦ h.drawn.known x old
              ];
        };
      }

  -- another share, while no core has made a node
  pub IsFounded-share : (more : ℕ) → ((core : ℕ) → slice_index made core ≡ 0) → more * length made ≤ 65536 → IsFounded nodes first more made
  IsFounded-share more unmade shares = record {
    allowed = record {
      low = h.allowed.low;
      shares = shares;
      within = λ core. let z = unmade core in omega arith;
    };
    drawn = record {
      known =
          λ x some. elim (h.drawn.known x some) as (λ _. (x < first)
          ⊎ ((core creation : ℕ) × (core < length made) × (creation < slice_index made core) × (x ≡ first + core * more + creation))) [
            | inl below ↦ inl below
            | inr made_by ↦ absurd (let z = unmade made_by.0 in let lt = made_by.3 in omega arith)
          ];
    };
  }

  module _ (core : ℕ) (within : core < length made) (room : slice_index made core < share) where
    not_there : IsSome (get nodes (first + core * share + slice_index made core)) → ⊥
    not_there some = elim (h.drawn.known (first + core * share + slice_index made core) some) as (λ _. ⊥) [
      | inl below ↦ omega arith
      | inr other ↦
          let le = h.allowed.within other.0 in
          let lt = other.3 in
          let same : core * share + slice_index made core ≡ other.0 * share + other.1 = omega (arith, other.4) in
          let quotient : core ≡ other.0 =
          sym (div-mul-add core share (slice_index made core) room) ∙ ap (λ n. n / share) same ∙ div-mul-add other.0 share other.1 (omega arith) in
          let remainder : slice_index made core ≡ other.1 =
          sym (mod-mul-add core share (slice_index made core) room) ∙ ap (λ n. n % share) same ∙ mod-mul-add other.0 share other.1 (omega arith) in
          let there : slice_index made core ≡ slice_index made other.0 = ap (slice_index made) quotient in
          omega arith
    ]

    -- the number that a core draws is new
    pub new_number : get nodes (first + core * share + slice_index made core) ≡ None
    new_number = none_there _ not_there

    more_made : (k : ℕ) → slice_index made k ≤ slice_index (set made core (slice_index made core + 1)) k
    more_made k = elim (nat_eq k core) as (λ b. nat_eq k core ≡ b → slice_index made k ≤ slice_index (set made core (slice_index made core + 1)) k) [
      | true ↦ λ t.
          let a : slice_index (set made core (slice_index made core + 1)) k ≡ slice_index made core + 1 =
          ap (slice_index (set made core (slice_index made core + 1))) (eqb-true _ _ t) ∙ get_or-set_same made core (slice_index made core + 1) 0 within in
          let b : slice_index made k ≡ slice_index made core = ap (slice_index made) (eqb-true _ _ t) in
          omega arith
      | false ↦ λ t. let a : slice_index (set made core (slice_index made core + 1)) k ≡ slice_index made k =
          get_or-set_other made core k (slice_index made core + 1) 0 (eqb-false _ _ t) in
          omega arith
    ] refl

    -- and once it is drawn, it is one that the core has given
    pub IsFounded-made : (node : Node)
        → IsFounded (insert nodes (first + core * share + slice_index made core) node) first share (set made core (slice_index made core + 1))
    IsFounded-made node =
        let n : length (set made core (slice_index made core + 1)) ≡ length made = length-set made core _ in
        record {
          allowed = record {
            low = h.allowed.low;
            shares = subst (λ n. share * n ≤ 65536) (sym n) h.allowed.shares;
            within = λ k. elim (nat_eq k core) as (λ b. nat_eq k core ≡ b → slice_index (set made core (slice_index made core + 1)) k ≤ share) [
              | true ↦ λ t. let a : slice_index (set made core (slice_index made core + 1)) k ≡ slice_index made core + 1 =
                  ap (slice_index (set made core (slice_index made core + 1))) (eqb-true _ _ t)
                  ∙ get_or-set_same made core (slice_index made core + 1) 0 within in
                  omega arith
              | false ↦ λ t. let a : slice_index (set made core (slice_index made core + 1)) k ≡ slice_index made k =
                  get_or-set_other made core k (slice_index made core + 1) 0 (eqb-false _ _ t) in
                  let b = h.allowed.within k in omega arith
            ] refl;
          };
          drawn = record {
            known =
                λ x some. elim (some_before nodes (first + core * share + slice_index made core) x node some) as (λ _. (x < first)
                ⊎ ((k creation : ℕ) × (k < length (set made core (slice_index made core + 1)))
                × (creation < slice_index (set made core (slice_index made core + 1)) k) × (x ≡ first + k * share + creation))) [
                  | inl same ↦
                      inr (
                        core,
                        slice_index made core,
                        omega arith,
                        (let a : slice_index (set made core (slice_index made core + 1)) core
                            ≡ slice_index made core + 1 = get_or-set_same made core (slice_index made core + 1) 0 within in
                            omega arith),
                        same,
                      )
                  | inr old ↦
                      elim (h.drawn.known x old) as (λ _. (x < first)
                      ⊎ ((k creation : ℕ) × (k < length (set made core (slice_index made core + 1)))
                      × (creation < slice_index (set made core (slice_index made core + 1)) k) × (x ≡ first + k * share + creation))) [
                        | inl below ↦ inl below
                        | inr by ↦ inr (by.0, by.1, (let lt = by.2 in omega arith), (let lt = by.3 in let m = more_made by.0 in omega arith), by.4)
                      ]
                ];
          };
        }

-- the numbers of a tree as it is kept
pub founded_numbers : (tree : TreeState) → IsFounded tree.nodes tree.first tree.share tree.made → IsNumbered tree
founded_numbers tree founded = record { known = founded.drawn.known; within = λ core less. let le = founded.allowed.within core in omega arith }

-- where no core has made a node, another share changes nothing
pub numbered_unmade : (tree : TreeState) (share : ℕ) → IsNumbered tree → ((core : ℕ) → slice_index tree.made core ≡ 0)
    → IsNumbered (record tree { share = share })
numbered_unmade tree share numbered unmade = record {
  known = λ node some. elim (numbered.known node some) [
    | inl low ↦ inl low
    | inr made ↦ let none = unmade made.0 in let less = made.3 in absurd (omega arith)
  ];
  within = λ core less. let none = unmade core in omega arith;
}
