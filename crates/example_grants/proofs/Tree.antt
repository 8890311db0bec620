-- The tree of two files.
use Rattle.std.specs.FinMap.Entries as list
use Rattle.std.specs.FinMap.{get, get-from_sorted, entries, entries-from_sorted, len, len-entries}
use Rattle.std.specs.Cmp.{unsigned_ties}
use Rattle.std.specs.Option.{option_map_or}
use Rattle.std.specs.Ordering.{eq_by_cmp}
use Rattle.std.specs.List.{cons_option}
use Rattle.std.proofs.Common.{◌∷◌, ◌≡◌, ◌⊎◌, ◌∙◌, ◌<◌, ◌≤◌, ◌≢◌, ◌==◌, ◌||◌, [], List, ℕ, nat_cmp, None, zero, inl, refl, suc, inr, Some, sym, ap, cond, Option, true, not, arith, subst, IsSome, slice_index, nat_eq, ne_eqb, false, length, filter_map, count_by}
use Rattle.std.proofs.lemmas.Bool.{cases_eq}
use Rattle.sfs_base.specs.Name.{bucket}
use Rattle.sfs_base.proofs.BasicOptions.{none_some, some_same}
use Rattle.sfs_base.proofs.BasicTruth.{true_not_false}
use Rattle.tree_laws.specs.Tree.{Node, row_of, is_alive, bytes_of, is_directory, bucket_rows, BUCKET_ROWS, is_directory_kind, name_row, names_it}
use Rattle.tree_laws.specs.Order.{Key, key_cmp}
use Rattle.tree_laws.specs.Laws.{IsSoundTree}
use Rattle.tree_laws.specs.Sound.{IsWithinLimits}
use Rattle.tree_laws.proofs.RowFacts.{key_cases}
use Rattle.tree_laws.proofs.Names.{entries-names_where}
use Rattle.cut_laws.specs.LawsInodes.{AreAllAlive}
use Rattle.example_grants.specs.Calls.{tree_holding, root_node, node_with, FIRST_TREE}
use Rattle.example_laws.proofs.Tree.{some_of, not_there}

abbrev pub nodes_listed : List ℕ → List ℕ → List (ℕ × Node)
nodes_listed own other = (0, root_node) ∷ (1, node_with own) ∷ (2, node_with other) ∷ []

abbrev pub ROWS : List (Key × ℕ)
ROWS = ((0, 97 ∷ []), 1) ∷ ((0, 98 ∷ []), 2) ∷ []

-- A number is one of the first three, or none of them.
pub first_three : (n : ℕ) → ((n ≡ 0) ⊎ ((n ≡ 1) ⊎ (n ≡ 2))) ⊎ ((n ≢ 0) × (n ≢ 1) × (n ≢ 2))
first_three n = elim (cases_eq n 0) [
  | inl zero_is ↦ inl (inl zero_is)
  | inr no_zero ↦ elim (cases_eq n 1) [
    | inl one_is ↦ inl (inr (inl one_is))
    | inr no_one ↦ elim (cases_eq n 2) [ inl two_is ↦ inl (inr (inr two_is)) | inr no_two ↦ inr (no_zero, no_one, no_two) ]
  ]
]

-- what is said of the first three, and of all others
pub of_others : {X : Type 0} (n : ℕ) (a b c d : X) → (n ≢ 0) × (n ≢ 1) × (n ≢ 2) → cond (nat_eq n 0) a (cond (nat_eq n 1) b (cond (nat_eq n 2) c d)) ≡ d
of_others n a b c d other =
    ap (λ t. cond t a (cond (nat_eq n 1) b (cond (nat_eq n 2) c d))) (ne_eqb n 0 other.0) ∙ ap (λ t. cond t b (cond (nat_eq n 2) c d)) (ne_eqb n 1 other.1)
    ∙ ap (λ t. cond t c d) (ne_eqb n 2 other.2)

pub rows_are : (own other : List ℕ) (directory : ℕ) (name : List ℕ) → row_of (tree_holding own other) directory name ≡ list.find key_cmp (directory, name) ROWS
rows_are own other directory name = get-from_sorted key_cmp ROWS (directory, name) tt

pub entries_are : (own other : List ℕ) → entries (tree_holding own other).rows ≡ ROWS
entries_are own other = entries-from_sorted key_cmp ROWS tt

pub node_get : (own other : List ℕ) (node : ℕ) → get (tree_holding own other).nodes node
    ≡ cond (nat_eq node 0) (Some root_node) (cond (nat_eq node 1) (Some (node_with own)) (cond (nat_eq node 2) (Some (node_with other)) None))
node_get own other node =
    get-from_sorted nat_cmp (nodes_listed own other) node tt
    ∙ ap (λ b. cond b (Some root_node) (cond (eq_by_cmp nat_cmp node 1) (Some (node_with own)) (cond (eq_by_cmp nat_cmp node 2) (Some (node_with other)) None)))
    (sym (unsigned_ties node 0))
    ∙ ap (λ b. cond (nat_eq node 0) (Some root_node) (cond b (Some (node_with own)) (cond (eq_by_cmp nat_cmp node 2) (Some (node_with other)) None)))
    (sym (unsigned_ties node 1))
    ∙ ap (λ b. cond (nat_eq node 0) (Some root_node) (cond (nat_eq node 1) (Some (node_with own)) (cond b (Some (node_with other)) None)))
    (sym (unsigned_ties node 2))

pub root_directory : (own other : List ℕ) → is_directory (tree_holding own other) 0 ≡ true
root_directory own other = ap (λ (o : Option Node). option_map_or (λ n. is_directory_kind n.kind) o false) (node_get own other 0)

pub own_no_directory : (own other : List ℕ) → is_directory (tree_holding own other) 1 ≡ false
own_no_directory own other = ap (λ (o : Option Node). option_map_or (λ n. is_directory_kind n.kind) o false) (node_get own other 1)

pub other_no_directory : (own other : List ℕ) → is_directory (tree_holding own other) 2 ≡ false
other_no_directory own other = ap (λ (o : Option Node). option_map_or (λ n. is_directory_kind n.kind) o false) (node_get own other 2)

pub own_alive : (own other : List ℕ) → is_alive (tree_holding own other) 1 ≡ true
own_alive own other = ap (λ (l : List (Key × ℕ)). (1 == 0) || not (count_by (names_it 1) l == 0)) (entries_are own other)

pub other_alive : (own other : List ℕ) → is_alive (tree_holding own other) 2 ≡ true
other_alive own other = ap (λ (l : List (Key × ℕ)). (2 == 0) || not (count_by (names_it 2) l == 0)) (entries_are own other)

-- a node that is none of the three is not there
pub none_there : (own other : List ℕ) (node : ℕ) → (node ≢ 0) × (node ≢ 1) × (node ≢ 2) → get (tree_holding own other).nodes node ≡ None
none_there own other node apart =
    node_get own other node ∙ of_others node (Some root_node) (Some (node_with own)) (Some (node_with other)) (let o : Option Node = None in o) apart

-- a row stands in the root, and names one of the files
pub row_is : (own other : List ℕ) (directory child : ℕ) (name : List ℕ) → row_of (tree_holding own other) directory name ≡ Some child
    → (directory ≡ 0) × (((name ≡ 97 ∷ []) × (child ≡ 1)) ⊎ ((name ≡ 98 ∷ []) × (child ≡ 2)))
row_is own other directory child name is = elim (key_cases directory 0 name (97 ∷ [])) [
  | inl same ↦ (
    same.1,
    inl (same.2, sym (some_same (ap (λ b. cond b (Some 1) (list.find key_cmp (directory, name) (((0, 98 ∷ []), 2) ∷ []))) (sym same.0) ∙ there))),
  )
  | inr first ↦ second (ap (λ b. cond b (Some 1) (list.find key_cmp (directory, name) (((0, 98 ∷ []), 2) ∷ []))) (sym first.0) ∙ there)
]
  where
    there : list.find key_cmp (directory, name) ROWS ≡ Some child
    there = sym (rows_are own other directory name) ∙ is

    second : list.find key_cmp (directory, name) (((0, 98 ∷ []), 2) ∷ []) ≡ Some child
        → (directory ≡ 0) × (((name ≡ 97 ∷ []) × (child ≡ 1)) ⊎ ((name ≡ 98 ∷ []) × (child ≡ 2)))
    second found = elim (key_cases directory 0 name (98 ∷ [])) [
      | inl same ↦ (same.1, inr (same.2, sym (some_same (ap (λ b. cond b (Some 2) None) (sym same.0) ∙ found))))
      | inr last ↦ absurd (none_some (ap (λ b. cond b (Some 2) (let o : Option ℕ = None in o)) (sym last.0) ∙ found))
    ]

-- so no row names a directory or the root
pub row_child : (own other : List ℕ) (directory child : ℕ) (name : List ℕ) → row_of (tree_holding own other) directory name ≡ Some child
    → (child ≡ 1) ⊎ (child ≡ 2)
row_child own other directory child name is = elim (row_is own other directory child name is).1 [ inl first ↦ inl first.1 | inr second ↦ inr second.1 ]

pub child_file : (own other : List ℕ) (child : ℕ) → (child ≡ 1) ⊎ (child ≡ 2) → is_directory (tree_holding own other) child ≡ false
child_file own other child which = elim which [
  | inl first ↦ ap (is_directory (tree_holding own other)) first ∙ own_no_directory own other
  | inr second ↦ ap (is_directory (tree_holding own other)) second ∙ other_no_directory own other
]

child_there : (child : ℕ) → (child ≡ 1) ⊎ (child ≡ 2) → IsSome (get FIRST_TREE.nodes child)
child_there child which = elim which [
  | inl first ↦ subst (λ n. IsSome (get FIRST_TREE.nodes n)) (sym first) (some_of (node_get [] [] 1))
  | inr second ↦ subst (λ n. IsSome (get FIRST_TREE.nodes n)) (sym second) (some_of (node_get [] [] 2))
]

-- both files are empty at first
pub no_bytes : (node : ℕ) → bytes_of FIRST_TREE node ≡ []
no_bytes node = elim (first_three node) [
  | inl known ↦ elim known [
    | inl root ↦ ap (bytes_of FIRST_TREE) root ∙ ap (λ (o : Option Node). option_map_or (λ n. n.bytes) o []) (node_get [] [] 0)
    | inr file ↦ elim file [
      | inl first ↦ ap (bytes_of FIRST_TREE) first ∙ ap (λ (o : Option Node). option_map_or (λ n. n.bytes) o []) (node_get [] [] 1)
      | inr second ↦ ap (bytes_of FIRST_TREE) second ∙ ap (λ (o : Option Node). option_map_or (λ n. n.bytes) o []) (node_get [] [] 2)
    ]
  ]
  | inr apart ↦ ap (λ (o : Option Node). option_map_or (λ n. n.bytes) o []) (none_there [] [] node apart)
]

pub first_sound : IsSoundTree FIRST_TREE
first_sound = record {
  sound = record {
    root = root_directory [] [];
    unnamed = λ directory name is. elim (row_child [] [] directory 0 name is) [
      | inl first ↦ absurd (omega (arith, first))
      | inr second ↦ absurd (omega (arith, second))
    ];
    node = λ directory name child is. child_there child (row_child [] [] directory child name is);
    once = λ directory other name other_name child one two kind.
        absurd (true_not_false (sym kind ∙ child_file [] [] child (row_child [] [] directory child name one)));
    holds = λ directory name child is. let row = row_is [] [] directory child name is in (
      subst (λ n. is_directory FIRST_TREE n ≡ true) (sym row.0) (root_directory [] []),
      subst (λ n. is_alive FIRST_TREE n ≡ true) (sym row.0) refl,
    );
    climbs = λ directory name child is kind.
        absurd (true_not_false (sym kind ∙ child_file [] [] child (row_child [] [] directory child name is)));
  };
  numbered = record {
    known = λ node some. elim (first_three node) [
      | inl known ↦ elim known [
        | inl root ↦ inl (omega (arith, root))
        | inr file ↦ elim file [ inl first ↦ inl (omega (arith, first)) | inr second ↦ inl (omega (arith, second)) ]
      ]
      | inr apart ↦ absurd (not_there (none_there [] [] node apart) some)
    ];
    within = λ core low. within core low;
  };
}
  where
    within : (core : ℕ) → core < 2 → slice_index (0 ∷ 0 ∷ []) core < 2
    within zero low = omega arith
    within (suc zero) low = omega arith
    within (suc (suc core)) low = absurd (omega (arith, low))

pub first_limits : IsWithinLimits FIRST_TREE
first_limits = record {
  buckets = few;
  plain = λ node kind. no_bytes node;
}
  where
    at_most : (one two : Option (List ℕ × ℕ)) → length (cons_option one (cons_option two [])) ≤ 2
    at_most None None = omega arith
    at_most None (Some row) = omega arith
    at_most (Some row) None = omega arith
    at_most (Some row) (Some other) = omega arith

    few : (directory number : ℕ) → len (bucket_rows directory number FIRST_TREE.rows) ≤ BUCKET_ROWS
    few directory number =
        let few_rows = at_most (name_row directory (λ name. bucket name == number) ((0, 97 ∷ []), 1))
        (name_row directory (λ name. bucket name == number) ((0, 98 ∷ []), 2)) in
        let long = len-entries (bucket_rows directory number FIRST_TREE.rows)
        ∙ ap length (entries-names_where directory (λ name. bucket name == number) FIRST_TREE.rows
        ∙ ap (filter_map (name_row directory (λ name. bucket name == number))) (entries_are [] [])) in
        omega (arith, long, few_rows)

pub all_alive : AreAllAlive FIRST_TREE
all_alive node some = elim (first_three node) [
  | inl known ↦ elim known [
    | inl root ↦ subst (λ n. is_alive FIRST_TREE n ≡ true) (sym root) refl
    | inr file ↦ elim file [
      | inl first ↦ subst (λ n. is_alive FIRST_TREE n ≡ true) (sym first) (own_alive [] [])
      | inr second ↦ subst (λ n. is_alive FIRST_TREE n ≡ true) (sym second) (other_alive [] [])
    ]
  ]
  | inr apart ↦ absurd (not_there (none_there [] [] node apart) some)
]
