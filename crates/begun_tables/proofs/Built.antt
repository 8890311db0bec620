-- A tree that is built node by node and row by row is one with which a table may begin.
use Rattle.std.proofs.Common.{◌≡◌, ℕ, ◌+◌, ◌<◌, ◌≤◌, Bool, true, false, not, ◌&&◌, ◌||◌, cond, List, [], ◌∷◌, length}
use Rattle.std.proofs.Common.{Option, Some, None, IsSome, inl, inr, refl, sym, subst, ap, ◌∙◌, nat_eq, nat_lt, arith}
use Rattle.std.specs.Prelude.{is_some, is_none, filter_map}
use Rattle.std.proofs.lemmas.Bool.{eqb-true}
use borrow.Author.Tests.{ltb-true}
use Rattle.std.specs.Cmp.Lexicographic.{nat_list_cmp_total}
use Rattle.sfs_base.specs.Name.{bucket}
use Rattle.tree_laws.specs.Order.{Key, key_cmp, name_cmp}
use Rattle.std.specs.Option.{option_map_or}
use Rattle.std.specs.FinMap.{FinMap, empty, entries, get, insert, len, len-empty, len-entries, len-insert, get-empty}
use Rattle.std.specs.Ordering.{nat_cmp}
use Rattle.sfs_base.specs.declared.numbers.Kind.{Kind}
use Rattle.sfs_base.specs.declared.numbers.Kind.TheVariants.{Directory, File}
use Rattle.sfs_base.proofs.BasicLists.{zeros_read}
use Rattle.sfs_base.proofs.BasicTruth.{and_first, and_second, not_true, not_both_of}
use Rattle.tree_laws.specs.Tree.{BUCKET_ROWS, TreeState, Node, is_alive, is_directory, is_directory_kind, names_of, row_of, name_row, bucket_rows}
use Rattle.tree_laws.specs.Build.{root_alone, with_node, with_row}
use Rattle.tree_laws.specs.Effect.{Adds}
use Rattle.tree_laws.specs.Fits.{FitsAdds, IsUnnamed}
use Rattle.tree_laws.specs.Sound.{IsSound, IsWithinLimits}
use Rattle.tree_laws.specs.Verdict.{LARGEST_FILE}
use Rattle.tree_laws.proofs.Kept.{fitting_keeps_sound}
use Rattle.tree_laws.proofs.SoundTrees.{root_alone_is_sound}
use Rattle.tree_laws.proofs.Names.{entries-names_where}
use Rattle.tree_laws.proofs.Parts.{parts_after}
use Rattle.tree_laws.proofs.RowFacts.{named_alive}
use Rattle.tree_laws.proofs.KeepsNodes.{IsSound-nodes, KeepKinds-new, node_cases}
use Rattle.mem_begin.specs.Beginning.{CanBeginTable}
use Rattle.begun_tables.specs.Begun.{may_get_name, may_hold_rows, may_put}

pub begins_with_node : (tree : TreeState) (node : ℕ) (kind : Kind) (bytes : List ℕ) → CanBeginTable tree
    → get tree.nodes node ≡ None → length bytes ≤ LARGEST_FILE → CanBeginTable (with_node tree node kind bytes)
begins_with_node tree node kind bytes begins new small = record {
  sound = IsSound-nodes tree (insert tree.nodes node (record { kind = kind; bytes = bytes })) tree.made begins.sound
      (KeepKinds-new tree node (record { kind = kind; bytes = bytes }) tree.made new);
  short = λ other. elim (node_cases tree.nodes node (record { kind = kind; bytes = bytes }) other) [
    | inl here ↦ subst (λ (o : Option Node). length (option_map_or (λ (n : Node). n.bytes) o []) ≤ LARGEST_FILE) (sym here.1) small
    | inr there ↦ subst (λ (o : Option Node). length (option_map_or (λ (n : Node). n.bytes) o []) ≤ LARGEST_FILE) (sym there.1) (begins.short other)
  ];
  unmade = begins.unmade;
}

pub begins_with_row : (tree : TreeState) (directory : ℕ) (name : List ℕ) (child : ℕ) → CanBeginTable tree
    → FitsAdds tree directory name child → CanBeginTable (with_row tree directory name child)
begins_with_row tree directory name child begins fits = record {
  sound = fitting_keeps_sound tree 0 (Adds directory name child) None begins.sound fits;
  short = begins.short;
  unmade = begins.unmade;
}

-- so is the root alone
pub root_begins : (first share cores : ℕ) → 1 ≤ first → CanBeginTable (root_alone first share cores)
root_begins first share cores low = record {
  sound = (root_alone_is_sound first share cores low).sound;
  short = λ node. elim (node_cases empty 0 (record { kind = Directory; bytes = [] }) node) [
    | inl here ↦ subst (λ (o : Option Node). length (option_map_or (λ (n : Node). n.bytes) o []) ≤ LARGEST_FILE) (sym here.1) (omega arith)
    | inr there ↦ subst (λ (o : Option Node). length (option_map_or (λ (n : Node). n.bytes) o []) ≤ LARGEST_FILE)
        (sym (there.1 ∙ get-empty nat_cmp node)) (omega arith)
  ];
  unmade = λ core. zeros_read cores core;
}

-- what is not alive has no name
pub unnamed : (tree : TreeState) (node : ℕ) → is_alive tree node ≡ false → IsUnnamed tree node
unnamed tree node dead directory name row =
    not_both_of (is_alive tree node) (named_alive tree node (record { directory = directory; name = name; row = row })) dead

-- what may get a name is a node, and a directory among these is not alive
named_node : (o : Option Node) (alive : Bool) → option_map_or (λ (n : Node). not (is_directory_kind n.kind) || not alive) o false ≡ true → IsSome o
named_node None alive may = absurd (cc (may))
named_node (Some n) alive may = refl

dead_directory : (o : Option Node) (alive : Bool) → option_map_or (λ (n : Node). not (is_directory_kind n.kind) || not alive) o false ≡ true
    → option_map_or (λ (n : Node). is_directory_kind n.kind) o false ≡ true → alive ≡ false
dead_directory None alive may kind = absurd (cc (may))
dead_directory (Some n) alive may kind = not_true alive (ap (λ b. not b || not alive) (sym kind) ∙ may)

module _ (tree : TreeState) (directory : ℕ) (name : List ℕ) (child : ℕ) (sound : IsSound tree) (may : may_put tree directory name child ≡ true) where
  first_three : (may_hold_rows tree directory && is_none (row_of tree directory name) && nat_lt (len (names_of directory tree.rows)) BUCKET_ROWS) ≡ true
  first_three = and_first _ (may_get_name tree child) may

  first_two : (may_hold_rows tree directory && is_none (row_of tree directory name)) ≡ true
  first_two = and_first _ (nat_lt (len (names_of directory tree.rows)) BUCKET_ROWS) first_three

  holds : may_hold_rows tree directory ≡ true
  holds = and_first _ (is_none (row_of tree directory name)) first_two

  gets_name : may_get_name tree child ≡ true
  gets_name = and_second (may_hold_rows tree directory && is_none (row_of tree directory name) && nat_lt (len (names_of directory tree.rows)) BUCKET_ROWS) _ may

  dead : is_directory tree child ≡ true → is_alive tree child ≡ false
  dead kind = dead_directory (get tree.nodes child) (is_alive tree child) gets_name kind

  pub few_rows : len (names_of directory tree.rows) < BUCKET_ROWS
  few_rows = ltb-true _ _ (and_second (may_hold_rows tree directory && is_none (row_of tree directory name)) _ first_three)

  -- a row that may be put fits the tree
  pub row_fits : FitsAdds tree directory name child
  row_fits = record {
    holder = record {
      kind = and_first _ (is_alive tree directory) holds;
      alive = and_second (is_directory tree directory) _ holds;
    };
    free = none_is (row_of tree directory name) (and_second (may_hold_rows tree directory) _ first_two);
    no_root = λ same. not_both_of (is_alive tree child) (subst (λ c. is_alive tree c ≡ true) (sym same) refl)
        (dead (subst (λ c. is_directory tree c ≡ true) (sym same) sound.root));
    placeless = λ kind. unnamed tree child (dead kind);
    node = named_node (get tree.nodes child) (is_alive tree child) gets_name;
  }
    where
      none_is : (o : Option ℕ) → is_none o ≡ true → o ≡ None
      none_is None is = refl
      none_is (Some n) is = absurd (cc (is))

-- a node's bytes are none where it is a directory
abbrev IsPlain : Option Node → Type 0
IsPlain o = option_map_or (λ (n : Node). is_directory_kind n.kind) o false ≡ true → option_map_or (λ (n : Node). n.bytes) o [] ≡ []

is_directory_is : (kind : Kind) → is_directory_kind kind ≡ true → kind ≡ Directory
is_directory_is Directory is = refl
is_directory_is File is = absurd (let never : false ≡ true = is in cc)

-- a node more keeps a tree within its limits
pub within_with_node : (tree : TreeState) (node : ℕ) (kind : Kind) (bytes : List ℕ) → IsWithinLimits tree
    → (kind ≡ Directory → bytes ≡ []) → IsWithinLimits (with_node tree node kind bytes)
within_with_node tree node kind bytes within none = record {
  buckets = within.buckets;
  plain = λ other. elim (node_cases tree.nodes node (record { kind = kind; bytes = bytes }) other) [
    | inl here ↦ subst IsPlain (sym here.1) (λ is. none (is_directory_is kind is))
    | inr there ↦ subst IsPlain (sym there.1) (within.plain other)
  ];
}

-- a row more, in a bucket that has room for it, does too
pub within_with_row : (tree : TreeState) (directory : ℕ) (name : List ℕ) (child : ℕ) → IsWithinLimits tree
    → len (bucket_rows directory (bucket name) tree.rows) < BUCKET_ROWS → IsWithinLimits (with_row tree directory name child)
within_with_row tree directory name child within room = record {
  buckets = λ d b. subst (λ (m : FinMap name_cmp ℕ). len m ≤ BUCKET_ROWS)
      (sym (parts_after tree 0 (Adds directory name child) None d (λ n. nat_eq (bucket n) b))) (bounded d b);
  plain = within.plain;
}
  where
    one_more : (rows : FinMap name_cmp ℕ) → len (insert rows name child) ≤ len rows + 1
    one_more rows =
        let one : len (insert rows name child) ≡ cond (is_some (get rows name)) (len rows) (len rows + 1) = len-insert nat_list_cmp_total rows name child in
        rw one (of (is_some (get rows name)))
      where
        of : (b : Bool) → cond b (len rows) (len rows + 1) ≤ len rows + 1
        of true = omega arith
        of false = omega arith

    here : (d b : ℕ) → (nat_eq directory d && nat_eq (bucket name) b) ≡ true → len (bucket_rows d b tree.rows) < BUCKET_ROWS
    here d b both = of (nat_eq directory d) (nat_eq (bucket name) b) refl refl both
      where
        of : (s t : Bool) → nat_eq directory d ≡ s → nat_eq (bucket name) b ≡ t → (s && t) ≡ true → len (bucket_rows d b tree.rows) < BUCKET_ROWS
        of true true a c e = subst (λ (k : ℕ). len (bucket_rows d k tree.rows) < BUCKET_ROWS) (eqb-true _ _ c)
            (subst (λ (z : ℕ). len (bucket_rows z (bucket name) tree.rows) < BUCKET_ROWS) (eqb-true _ _ a) room)
        of true false a c e = absurd (let never : false ≡ true = e in cc)
        of false t a c e = absurd (let never : false ≡ true = e in cc)

    bounded : (d b : ℕ)
        → len (cond (nat_eq directory d && nat_eq (bucket name) b) (insert (bucket_rows d b tree.rows) name child) (bucket_rows d b tree.rows)) ≤ BUCKET_ROWS
    bounded d b =
        elim (nat_eq directory d && nat_eq (bucket name) b) as (λ t. (nat_eq directory d && nat_eq (bucket name) b) ≡ t
        → len (cond t (insert (bucket_rows d b tree.rows) name child) (bucket_rows d b tree.rows)) ≤ BUCKET_ROWS) [
          | true ↦ λ is. let less = here d b is in let most = one_more (bucket_rows d b tree.rows) in omega (arith, less, most)
          | false ↦ λ is. within.buckets d b
        ] refl

-- so is the root alone
pub root_within : (first share cores : ℕ) → IsWithinLimits (root_alone first share cores)
root_within first share cores = record {
  buckets = λ directory number. let none = few directory number in omega (arith, none);
  plain = λ node. elim (node_cases empty 0 (record { kind = Directory; bytes = [] }) node) [
    | inl here ↦ subst IsPlain (sym here.1) (λ is. refl)
    | inr there ↦ subst IsPlain (sym (there.1 ∙ get-empty nat_cmp node)) (λ is. refl)
  ];
}
  where
    shorter : (d n : ℕ) (rows : List (Key × ℕ)) → length rows ≡ 0 → length (filter_map (name_row d (λ name. nat_eq (bucket name) n)) rows) ≡ 0
    shorter d n [] none = refl
    shorter d n (row ∷ rows) none = absurd (omega (arith, none))

    few : (d n : ℕ) → len (bucket_rows d n empty) ≡ 0
    few d n = len-entries (bucket_rows d n empty) ∙ ap length (entries-names_where d (λ name. nat_eq (bucket name) n) empty)
        ∙ shorter d n (entries empty) (sym (len-entries empty) ∙ len-empty key_cmp ℕ)
