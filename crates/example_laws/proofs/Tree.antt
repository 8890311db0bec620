-- The tree of two directories, and a history of two fsyncs in which nothing changes.
use Rattle.std.specs.FinMap.Entries as list
use Rattle.std.specs.FinMap.{get, get-from_sorted, empty, entries, entries-from_sorted, from_sorted, len, len-entries}
use Rattle.std.specs.Cmp.{unsigned_ties}
use Rattle.std.specs.Option.{option_map_or}
use Rattle.std.specs.Ordering.{eq_by_cmp}
use Rattle.std.specs.List.{cons_option}
use Rattle.std.proofs.Common.{◌∷◌, ◌≡◌, ◌⊎◌, ◌∙◌, if◌then◌else◌, ◌++◌, ◌<◌, ◌≤◌, ◌≢◌, ◌==◌, [], List, ℕ, nat_cmp, None, zero, inl, refl, suc, inr, Some, sym, ap, cond, Option, true, not, fold, filter, map, arith, subst, IsSome, slice_index, nat_eq, ne_eqb, false, length, filter_map}
use Rattle.std.proofs.lemmas.Bool.{cases_eq}
use Rattle.sfs_base.specs.declared.numbers.Kind.TheVariants.{Directory}
use Rattle.sfs_base.specs.Name.{bucket}
use Rattle.sfs_base.proofs.BasicOptions.{none_some, some_same}
use Rattle.tree_laws.specs.Tree.{Node, row_of, is_alive, TreeState, bytes_of, is_directory, bucket_rows, BUCKET_ROWS, is_directory_kind, name_row}
use Rattle.tree_laws.specs.Order.{Key, key_cmp}
use Rattle.tree_laws.specs.declared.reply.Reply.TheVariants as reply
use Rattle.tree_laws.specs.History.{IsLegal, tree_after}
use Rattle.tree_laws.specs.Changes.{FileChange, changes_of, changes_by, edits_of, edits_by, is_edit_below}
use Rattle.tree_laws.specs.Verdict.{or_else, answered}
use Rattle.tree_laws.specs.declared.reply.Code.TheVariants.{NoEntry}
use Rattle.tree_laws.specs.Effect.{tree_with, edited}
use Rattle.tree_laws.specs.Laws.{IsSoundTree}
use Rattle.tree_laws.specs.Sound.{Above, IsWithinLimits, below, at_root}
use Rattle.tree_laws.proofs.RowFacts.{key_cases}
use Rattle.tree_laws.proofs.Names.{entries-names_where}
use Rattle.cut_laws.specs.Rules.{births_of, births_by}
use Rattle.cut_laws.specs.Cut.{tree_at_cut, rows_at_cut, with_own, is_within, nodes_at_cut, node_at_cut, cut_of}
use Rattle.cut_laws.specs.LawsInodes.{AreAllAlive}
use Rattle.merge_laws.specs.Worked.{TWO_CORES, own_fsync, other_fsync, BOTH_HISTORY}
use Rattle.merge_laws.proofs.Worked.{own_live, two_pens_agree}

abbrev pub NODE : Node
NODE = record { kind = Directory; bytes = [] }

abbrev pub NODES : List (ℕ × Node)
NODES = (0, NODE) ∷ (1, NODE) ∷ []

abbrev pub ROWS : List (Key × ℕ)
ROWS = ((0, 97 ∷ []), 1) ∷ []

pub nodes_are : (node : ℕ) → get TWO_CORES.nodes node ≡ list.find nat_cmp node NODES
nodes_are node = get-from_sorted nat_cmp NODES node tt

pub rows_are : (directory : ℕ) (name : List ℕ) → row_of TWO_CORES directory name ≡ list.find key_cmp (directory, name) ROWS
rows_are directory name = get-from_sorted key_cmp ROWS (directory, name) tt

node_get : (node : ℕ) → get TWO_CORES.nodes node ≡ cond (nat_eq node 0) (Some NODE) (cond (nat_eq node 1) (Some NODE) None)
node_get node =
    nodes_are node
    ∙ ap (λ b. cond b (Some NODE) (cond (eq_by_cmp nat_cmp node 1) (Some NODE) None)) (sym (unsigned_ties node 0))
    ∙ ap (λ b. cond (nat_eq node 0) (Some NODE) (cond b (Some NODE) None)) (sym (unsigned_ties node 1))

pub root_there : get TWO_CORES.nodes 0 ≡ Some NODE
root_there = node_get 0

pub one_there : get TWO_CORES.nodes 1 ≡ Some NODE
one_there = node_get 1

pub node_is : (node : ℕ) → ((node ≡ 0) ⊎ (node ≡ 1)) ⊎ ((node ≢ 0) × (node ≢ 1) × (get TWO_CORES.nodes node ≡ None))
node_is node = elim (cases_eq node 0) [
  | inl root ↦ inl (inl root)
  | inr other ↦ elim (cases_eq node 1) [
    | inl one ↦ inl (inr one)
    | inr neither ↦ inr (
      other,
      neither,
      node_get node ∙ ap (λ b. cond b (Some NODE) (cond (nat_eq node 1) (Some NODE) None)) (ne_eqb node 0 other)
          ∙ ap (λ b. cond b (Some NODE) (let o : Option Node = None in o)) (ne_eqb node 1 neither),
    )
  ]
]

pub is_root_directory : is_directory TWO_CORES 0 ≡ true
is_root_directory = ap (λ (o : Option Node). option_map_or (λ n. is_directory_kind n.kind) o false) root_there

pub is_one_directory : is_directory TWO_CORES 1 ≡ true
is_one_directory = ap (λ (o : Option Node). option_map_or (λ n. is_directory_kind n.kind) o false) one_there

pub no_bytes : (node : ℕ) → bytes_of TWO_CORES node ≡ []
no_bytes node = elim (node_is node) [
  | inl known ↦ elim known [
    | inl root ↦ ap (bytes_of TWO_CORES) root ∙ ap (λ (o : Option Node). option_map_or (λ n. n.bytes) o []) root_there
    | inr one ↦ ap (bytes_of TWO_CORES) one ∙ ap (λ (o : Option Node). option_map_or (λ n. n.bytes) o []) one_there
  ]
  | inr none ↦ ap (λ (o : Option Node). option_map_or (λ n. n.bytes) o []) none.2
]

pub row_is : (directory child : ℕ) (name : List ℕ) → row_of TWO_CORES directory name ≡ Some child → (directory ≡ 0) × (name ≡ 97 ∷ []) × (child ≡ 1)
row_is directory child name is = elim (key_cases directory 0 name (97 ∷ [])) [
  | inl same ↦ (
    same.1,
    same.2,
    sym (some_same (ap (λ b. cond b (Some 1) None) (sym same.0) ∙ sym (rows_are directory name) ∙ is)),
  )
  | inr other ↦ absurd (none_some (ap (λ b. cond b (Some 1) (let o : Option ℕ = None in o)) (sym other.0) ∙ sym (rows_are directory name) ∙ is))
]

-- the directory is alive
pub alive_there : is_alive TWO_CORES 1 ≡ true
alive_there = (own_live (own_fsync reply.Ok None) (other_fsync reply.Ok None) reply.Ok None refl).alive

pub history_legal : IsLegal TWO_CORES BOTH_HISTORY
history_legal = two_pens_agree.legal

pub nothing_changes : changes_of TWO_CORES BOTH_HISTORY ≡ []
nothing_changes =
    ap (λ b. changes_by TWO_CORES 0 (or_else (if not b then Some NoEntry else None) (answered reply.Ok)).effect ++ []) alive_there

pub nothing_is_born : births_of TWO_CORES BOTH_HISTORY ≡ []
nothing_is_born =
    ap (λ b. births_by 0 (or_else (if not b then Some NoEntry else None) (answered reply.Ok)).effect
    (or_else (if not b then Some NoEntry else None) (answered reply.Ok)).makes ++ []) alive_there

pub nothing_is_edited : edits_of TWO_CORES BOTH_HISTORY ≡ []
nothing_is_edited =
    ap (λ b. edits_by 0 (or_else (if not b then Some NoEntry else None) (answered reply.Ok)).effect ++ []) alive_there

pub same_after : tree_after TWO_CORES BOTH_HISTORY ≡ TWO_CORES
same_after =
    ap (λ b. tree_after (tree_with TWO_CORES 0 (or_else (if not b then Some NoEntry else None) (answered reply.Ok)).effect
    (or_else (if not b then Some NoEntry else None) (answered reply.Ok)).makes) (other_fsync reply.Ok (Some 5) ∷ [])) alive_there

-- at the cut 0 the tree is the first one
pub same_at_cut : tree_at_cut TWO_CORES BOTH_HISTORY empty ≡ TWO_CORES
same_at_cut = λ i. record {
  rows = rows i;
  nodes = nodes i;
  first = 2;
  share = 1;
  made = (ap (λ (t : TreeState). t.made) same_after) i;
}
  where
    rows : rows_at_cut TWO_CORES BOTH_HISTORY empty ≡ TWO_CORES.rows
    rows = ap (λ l. fold with_own TWO_CORES.rows (filter (is_within empty) l)) nothing_changes

    entries_are : entries (tree_after TWO_CORES BOTH_HISTORY).nodes ≡ NODES
    entries_are = ap (λ (t : TreeState). entries t.nodes) same_after ∙ entries-from_sorted nat_cmp NODES tt

    nodes : nodes_at_cut TWO_CORES BOTH_HISTORY empty ≡ TWO_CORES.nodes
    nodes =
        ap (λ l. from_sorted {R = nat_cmp} (map (node_at_cut TWO_CORES BOTH_HISTORY empty) l)) entries_are
        ∙ ap (λ (l : List FileChange). from_sorted {R = nat_cmp} (with_edits l)) nothing_is_edited
        ∙ ap (λ (bytes : List ℕ). from_sorted {R = nat_cmp}
        ((0, record NODE { bytes = bytes }) ∷ (1, record NODE { bytes = bytes_of TWO_CORES 1 }) ∷ [])) (no_bytes 0)
        ∙ ap (λ (bytes : List ℕ). from_sorted {R = nat_cmp} ((0, NODE) ∷ (1, record NODE { bytes = bytes }) ∷ [])) (no_bytes 1)
      where
        with_edit : List FileChange → ℕ → List ℕ
        with_edit l node =
            fold (λ bytes (change : FileChange). edited change.edit bytes) (bytes_of TWO_CORES node) (filter (is_edit_below node (cut_of empty node)) l)

        with_edits : List FileChange → List (ℕ × Node)
        with_edits l = (0, record NODE { bytes = with_edit l 0 }) ∷ (1, record NODE { bytes = with_edit l 1 }) ∷ []

pub some_of : {X : Type 0} {o : Option X} {x : X} → o ≡ Some x → IsSome o
some_of is = subst IsSome (sym is) refl

pub not_there : {X : Type 0} {o : Option X} → o ≡ None → IsSome o → ⊥
not_there {X} none some = cc (subst (λ (o : Option X). IsSome o) none some)

pub two_sound : IsSoundTree TWO_CORES
two_sound = record {
  sound = record {
    root = is_root_directory;
    unnamed = λ directory name is. let row = row_is directory 0 name is in absurd (let e = row.2 in omega (arith, e));
    node = λ directory name child is. subst (λ n. IsSome (get TWO_CORES.nodes n)) (sym (row_is directory child name is).2) (some_of one_there);
    once = λ directory other name other_name child one two kind.
        let here = row_is directory child name one in
        let there = row_is other child other_name two in
        (here.0 ∙ sym there.0, here.1 ∙ sym there.1);
    holds = λ directory name child is. let row = row_is directory child name is in (
      subst (λ n. is_directory TWO_CORES n ≡ true) (sym row.0) is_root_directory,
      subst (λ n. is_alive TWO_CORES n ≡ true) (sym row.0) refl,
    );
    climbs = λ directory name child is kind. let row = row_is directory child name is in (
      0 ∷ [],
      subst (λ n. Above TWO_CORES n (0 ∷ [])) (sym row.2) (below 1 0 (97 ∷ []) [] (rows_are 0 (97 ∷ [])) at_root),
    );
  };
  numbered = record {
    known = λ node some. elim (node_is node) [
      | inl known ↦ elim known [ inl zero_is ↦ inl (omega (arith, zero_is)) | inr one_is ↦ inl (omega (arith, one_is)) ]
      | inr none ↦ absurd (not_there none.2 some)
    ];
    within = λ core low. within core low;
  };
}
  where
    within : (core : ℕ) → core < 2 → slice_index (0 ∷ 0 ∷ []) core < 2
    within zero low = omega arith
    within (suc zero) low = omega arith
    within (suc (suc core)) low = absurd (omega (arith, low))

pub two_limits : IsWithinLimits TWO_CORES
two_limits = record {
  buckets = few;
  plain = λ node kind. no_bytes node;
}
  where
    at_most : (o : Option (List ℕ × ℕ)) → length (cons_option o []) ≤ 1
    at_most None = omega arith
    at_most (Some row) = omega arith

    few : (directory number : ℕ) → len (bucket_rows directory number TWO_CORES.rows) ≤ BUCKET_ROWS
    few directory number =
        let few_rows = at_most (name_row directory (λ name. bucket name == number) ((0, 97 ∷ []), 1)) in
        let long = len-entries (bucket_rows directory number TWO_CORES.rows)
        ∙ ap length (entries-names_where directory (λ name. bucket name == number) TWO_CORES.rows
        ∙ ap (filter_map (name_row directory (λ name. bucket name == number))) (entries-from_sorted key_cmp ROWS tt)) in
        omega (arith, long, few_rows)

pub two_alive : AreAllAlive TWO_CORES
two_alive node some = elim (node_is node) [
  | inl known ↦ elim known [
    | inl zero_is ↦ subst (λ n. is_alive TWO_CORES n ≡ true) (sym zero_is) refl
    | inr one_is ↦ subst (λ n. is_alive TWO_CORES n ≡ true) (sym one_is) alive_there
  ]
  | inr none ↦ absurd (not_there none.2 some)
]
