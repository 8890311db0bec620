-- The walk up from a directory meets the directories above it.
use Rattle.std.proofs.Common.{◌≡◌, ◌≢◌, ℕ, zero, suc, ◌<◌, ◌≤◌, Bool, true, false, cond, ◌||◌, List, [], ◌∷◌, length, Option, Some, None, option_map, inl, inr, refl, sym, ap, ap₂, subst, ◌∙◌, arith, nat_eq}
use borrow.Author.Tests.{eqb-true, eqb-false}
use Rattle.std.specs.List as lists
use Rattle.std.specs.FinMap.{entries, len, len-entries}
use Rattle.tree_laws.specs.Order.{Key}
use Rattle.tree_laws.specs.Tree.{TreeState, row_of, is_directory, names_it, holder_of, and_above, walk_up, lies_below}
use Rattle.tree_laws.specs.Sound.{Above, at_root, below, IsSound}
use Rattle.tree_laws.specs.Fits.{Lacks}
use Rattle.tree_laws.specs.Laws.{WalksMeetThoseAbove}
use Rattle.tree_laws.proofs.RowFacts.{holder_found}
use Rattle.sfs_base.proofs.BasicOptions.{some_is}
use Rattle.sfs_base.proofs.BasicNumbers.{suc_same, less_next, none_below, less_earlier}
use Rattle.sfs_base.proofs.BasicTruth.{or_first, or_second, not_both}

-- the steps of a function from a number on, up to where it has none
abbrev pub Chain : (ℕ → Option ℕ) → ℕ → List ℕ → Type 0
Chain f x [] = f x ≡ None
Chain f x (h ∷ l) = (f x ≡ Some h) × Chain f h l

same_length : (f : ℕ → Option ℕ) (x : ℕ) (l k : List ℕ) → Chain f x l → Chain f x k → length k ≡ length l
same_length f x [] [] a b = refl
same_length f x [] (h ∷ k) a b = cc
same_length f x (h ∷ l) [] a b = cc
same_length f x (h ∷ l) (g ∷ k) a b =
    let same : g ≡ h = some_is g h (sym b.0 ∙ a.0) in
    suc_same (same_length f h l k a.1 (subst (λ y. Chain f y k) same b.1))

-- the steps from a number on are one list
same_chain : (f : ℕ → Option ℕ) (x : ℕ) (l k : List ℕ) → Chain f x l → Chain f x k → l ≡ k
same_chain f x [] [] a b = refl
same_chain f x [] (h ∷ k) a b = cc
same_chain f x (h ∷ l) [] a b = cc
same_chain f x (h ∷ l) (g ∷ k) a b =
    let same : g ≡ h = some_is g h (sym b.0 ∙ a.0) in
    ap₂ (λ (y : ℕ) (ys : List ℕ). y ∷ ys) (sym same) (same_chain f h l k a.1 (subst (λ y. Chain f y k) same b.1))

-- no step comes back
no_loop : (f : ℕ → Option ℕ) (x n : ℕ) → ((k : List ℕ) → Chain f x k → length k ≡ n) → (y : ℕ) (l : List ℕ) → Chain f y l → length l < n → Lacks (y ∷ l) x
no_loop f x n all y [] chain lt = (λ same. let e = all [] (subst (λ z. f z ≡ None) same chain) in not_less e lt, tt)
  where
    not_less : {n : ℕ} → 0 ≡ n → 0 < n → ⊥
    not_less e lt = omega arith
no_loop f x n all y (z ∷ l) chain lt =
    (λ same. not_less (all (z ∷ l) (subst (λ w. Chain f w (z ∷ l)) same chain)) lt, no_loop f x n all z l chain.1 (less_earlier lt))
  where
    not_less : {a n : ℕ} → suc a ≡ n → suc a < n → ⊥
    not_less e lt = omega arith

-- the directory of the first entry that names a node
abbrev pub holder_in : List (Key × ℕ) → ℕ → Option ℕ
holder_in es node = option_map (λ (row : Key × ℕ). row.0.0) (lists.find (names_it node) es)

-- entries without the first that names a node
without : ℕ → List (Key × ℕ) → List (Key × ℕ)
without x [] = []
without x (e ∷ es) = cond (names_it x e) es (e ∷ without x es)

one_fewer : (x h : ℕ) (es : List (Key × ℕ)) → holder_in es x ≡ Some h → length es ≡ suc (length (without x es))
unfolding without
one_fewer x h [] found = cc
one_fewer x h (e ∷ es) found =
    elim (nat_eq e.1 x) as (λ b. option_map (λ (row : Key × ℕ). row.0.0) (cond b (Some e) (lists.find (names_it x) es)) ≡ Some h
    → length (e ∷ es) ≡ suc (length (cond b es (e ∷ without x es)))) [
      | true ↦ λ f. refl
      | false ↦ λ f. suc_same (one_fewer x h es f)
    ] found

others_found : (x y : ℕ) (es : List (Key × ℕ)) → y ≢ x → lists.find (names_it y) (without x es) ≡ lists.find (names_it y) es
unfolding without
others_found x y [] other = refl
others_found x y (e ∷ es) other =
    elim (nat_eq e.1 x) as (λ b. nat_eq e.1 x ≡ b
    → lists.find (names_it y) (cond b es (e ∷ without x es)) ≡ cond (nat_eq e.1 y) (Some e) (lists.find (names_it y) es)) [
      | true ↦ λ t. sym (ap (λ b. cond b (Some e) (lists.find (names_it y) es)) (differs e.1 (eqb-true _ _ t)))
      | false ↦ λ t. ap (cond (nat_eq e.1 y) (Some e)) (others_found x y es other)
    ] refl
  where
    differs : (z : ℕ) → z ≡ x → nat_eq z y ≡ false
    differs z same =
        elim (nat_eq z y) as (λ b. nat_eq z y ≡ b → b ≡ false) [ true ↦ λ t. absurd (other (sym (eqb-true _ _ t) ∙ same)) | false ↦ λ t. refl ] refl

chain_without : (x : ℕ) (es : List (Key × ℕ)) (y : ℕ) (l : List ℕ) → Chain (holder_in es) y l → Lacks (y ∷ l) x → Chain (holder_in (without x es)) y l
chain_without x es y [] chain lacks = ap (option_map (λ (row : Key × ℕ). row.0.0)) (others_found x y es lacks.0) ∙ chain
chain_without x es y (h ∷ l) chain lacks =
    (ap (option_map (λ (row : Key × ℕ). row.0.0)) (others_found x y es lacks.0) ∙ chain.0, chain_without x es h l chain.1 lacks.1)

-- a chain is no longer than the entries
pub chain_within : (es : List (Key × ℕ)) (x : ℕ) (l : List ℕ) → Chain (holder_in es) x l → length l ≤ length es
chain_within es x [] chain = omega arith
chain_within es x (h ∷ l) chain =
    one_more (one_fewer x h es chain.0)
    (chain_within (without x es) h l
    (chain_without x es h l chain.1
    (no_loop (holder_in es) x (suc (length l)) (λ k other. same_length (holder_in es) x (h ∷ l) k chain other) h l chain.1 (less_next (length l)))))
  where
    one_more : {a b n : ℕ} → n ≡ suc b → a ≤ b → suc a ≤ n
    one_more e le = omega arith

-- and it is shorter than they are many where a further number is named that the chain lacks
chain_below : (es : List (Key × ℕ)) (x : ℕ) (l : List ℕ) (c g : ℕ) → holder_in es c ≡ Some g → Lacks (x ∷ l) c → Chain (holder_in es) x l → length l < length es
chain_below [] x [] c g named lacks chain = cc
chain_below (e ∷ es) x [] c g named lacks chain = omega arith
chain_below es x (h ∷ l) c g named lacks chain =
    one_more (one_fewer x h es chain.0)
    (chain_below (without x es) h l c g (ap (option_map (λ (row : Key × ℕ). row.0.0)) (others_found x c es (λ same. lacks.0 (sym same))) ∙ named) lacks.1
    (chain_without x es h l chain.1
    (no_loop (holder_in es) x (suc (length l)) (λ k other. same_length (holder_in es) x (h ∷ l) k chain other) h l chain.1 (less_next (length l)))))
  where
    one_more : {a b n : ℕ} → n ≡ suc b → a < b → suc a < n
    one_more e lt = omega arith

-- a walk of as many steps meets the chain
pub walk_meets : (tree : TreeState) (steps x : ℕ) (l : List ℕ) → Chain (holder_of tree) x l → length l ≤ steps → walk_up steps tree x ≡ l
walk_meets tree zero x [] chain le = refl
walk_meets tree (suc steps) x [] chain le = ap (and_above (walk_up steps tree)) chain
walk_meets tree zero x (h ∷ l) chain le = absurd (none_below le)
walk_meets tree (suc steps) x (h ∷ l) chain le = ap (and_above (walk_up steps tree)) chain.0 ∙ ap (λ k. h ∷ k) (walk_meets tree steps h l chain.1 (one_less le))
  where
    one_less : {a b : ℕ} → suc a ≤ suc b → a ≤ b
    one_less le = omega arith

module _ (tree : TreeState) (s : IsSound tree) where
  -- a directory's holder is the directory of any row that names it
  pub holder_is : (node holder : ℕ) (name : List ℕ) → row_of tree holder name ≡ Some node → is_directory tree node ≡ true → holder_of tree node ≡ Some holder
  holder_is node holder name row kind = elim (holder_found tree node) [
    | inl f ↦ f.1 ∙ ap Some (s.once f.0 holder f.2.0 name node f.2.1 row kind).0
    | inr none ↦ absurd (none.1 (record { directory = holder; name = name; row = row }))
  ]

  above_chain : {node : ℕ} {above : List ℕ} → Above tree node above → is_directory tree node ≡ true → Chain (holder_of tree) node above
  above_chain at_root kind = elim (holder_found tree 0) [ inl f ↦ absurd (s.unnamed f.0 f.2.0 f.2.1) | inr none ↦ none.0 ]
  above_chain (below node holder name above row rest) kind = (holder_is node holder name row kind, above_chain rest (s.holds holder name node row).0)

  -- the directories above one are one list
  pub above_same : {node : ℕ} {above other : List ℕ} → Above tree node above → Above tree node other → is_directory tree node ≡ true → above ≡ other
  above_same {node} {above} {other} way also kind = same_chain (holder_of tree) node above other (above_chain way kind) (above_chain also kind)

  -- a walk of as many steps as there are rows meets those above
  pub walk_is : {node : ℕ} {above : List ℕ} → Above tree node above → is_directory tree node ≡ true → walk_up (len tree.rows) tree node ≡ above
  walk_is {node} {above} way kind =
      let chain = above_chain way kind in
      walk_meets tree (len tree.rows) node above chain
      (subst (λ n. length above ≤ n) (sym (len-entries tree.rows)) (chain_within (entries tree.rows) node above chain))

  -- a directory that another does not lie below is not above it
  pub not_above : {node : ℕ} {above : List ℕ} (directory : ℕ) → Above tree node above → is_directory tree node ≡ true → lies_below tree node directory ≡ false
      → Lacks above directory
  not_above {node} {above} directory way kind apart =
      lacks above (subst (λ l. lists.list_any (λ a. nat_eq a directory) l ≡ false) (walk_is way kind) apart)
    where
      lacks : (l : List ℕ) → lists.list_any (λ a. nat_eq a directory) l ≡ false → Lacks l directory
      lacks [] e = tt
      lacks (a ∷ l) e = (eqb-false _ _ (or_first _ _ e), lacks l (or_second _ _ e))

  -- those above are directories, so a node that is none is not among them
  lacks_other : {node : ℕ} {above : List ℕ} (other : ℕ) → Above tree node above → is_directory tree node ≡ true → is_directory tree other ≡ false
      → Lacks (node ∷ above) other
  lacks_other other at_root kind none = (λ same. not_both (subst (λ x. is_directory tree x ≡ true) same kind) none, tt)
  lacks_other other (below node holder name above row rest) kind none =
      (λ same. not_both (subst (λ x. is_directory tree x ≡ true) same kind) none, lacks_other other rest (s.holds holder name node row).0 none)

  -- above a directory that has a row there are fewer than there are rows
  pub fewer_above : {node : ℕ} {above : List ℕ} (name : List ℕ) (child : ℕ) → Above tree node above → is_directory tree node ≡ true
      → row_of tree node name ≡ Some child
      → length above < len tree.rows
  fewer_above {node} {above} name child way kind row =
      elim (is_directory tree child) as (λ b. is_directory tree child ≡ b → length above < len tree.rows) [
        | true ↦ λ directory. counted (chain_within (entries tree.rows) child (node ∷ above) (above_chain (below child node name above row way) directory))
        | false ↦ λ file. shorter (named child row) (lacks_other child way kind file)
      ] refl
    where
      counted : suc (length above) ≤ length (entries tree.rows) → length above < len tree.rows
      counted le = subst (λ n. length above < n) (sym (len-entries tree.rows)) le

      named : (x : ℕ) → row_of tree node name ≡ Some x → (g : ℕ) × (holder_of tree x ≡ Some g)
      named x is = elim (holder_found tree x) [
        | inl f ↦ (f.0, f.1)
        | inr none ↦ absurd (none.1 (record { directory = node; name = name; row = is }))
      ]

      shorter : (g : ℕ) × (holder_of tree child ≡ Some g) → Lacks (node ∷ above) child → length above < len tree.rows
      shorter g lacks =
          subst (λ n. length above < n) (sym (len-entries tree.rows)) (chain_below (entries tree.rows) node above child g.0 g.1 lacks (above_chain way kind))

  list_lacks : (l : List ℕ) (directory : ℕ) → Lacks l directory → lists.list_any (λ a. nat_eq a directory) l ≡ false
  list_lacks [] directory lacks = refl
  list_lacks (a ∷ l) directory lacks =
      elim (nat_eq a directory) as (λ b. nat_eq a directory ≡ b → (b || lists.list_any (λ a. nat_eq a directory) l) ≡ false) [
        | true ↦ λ t. absurd (lacks.0 (eqb-true _ _ t))
        | false ↦ λ t. list_lacks l directory lacks.1
      ] refl

  -- a directory is not its own child's, and does not lie below it
  above_own : (holder node : ℕ) (l : List ℕ) → Chain (holder_of tree) node l → holder_of tree node ≡ Some holder
      → (nat_eq holder node || lies_below tree holder node) ≡ false
  above_own holder node [] chain is = cc
  above_own holder node (h ∷ l) chain is =
      let same : h ≡ holder = some_is h holder (sym chain.0 ∙ is) in
      let rest : Chain (holder_of tree) holder l = subst (λ y. Chain (holder_of tree) y l) same chain.1 in
      let lacks : Lacks (holder ∷ l) node =
      no_loop (holder_of tree) node (suc (length l)) (λ k other. same_length (holder_of tree) node (h ∷ l) k chain other) holder l rest
      (less_next (length l)) in
      let walk =
      walk_meets tree (len tree.rows) holder l rest
      (subst (λ n. length l ≤ n) (sym (len-entries tree.rows)) (chain_within (entries tree.rows) holder l rest)) in
      ap (λ k. nat_eq holder node || lists.list_any (λ a. nat_eq a node) k) walk ∙ list_lacks (holder ∷ l) node lacks

  pub not_below_own : (holder node : ℕ) (name : List ℕ) → row_of tree holder name ≡ Some node → is_directory tree node ≡ true
      → (nat_eq holder node || lies_below tree holder node) ≡ false
  not_below_own holder node name row kind =
      let way = s.climbs holder name node row kind in
      above_own holder node way.0 (above_chain way.1 kind) (holder_is node holder name row kind)

pub walks_meet_those_above : WalksMeetThoseAbove
walks_meet_those_above tree node above is kind way = walk_is tree is.sound way kind
