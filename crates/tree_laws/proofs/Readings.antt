-- Trees that agree on what a call reads have one verdict.
use Rattle.std.proofs.Common.{◌≡◌, ℕ, ◌+◌, ◌*◌, Bool, true, false, cond, not, ◌||◌, ◌&&◌, T, List, [], ◌∷◌, map, length, take, drop, Option, Some, None, is_some, refl, sym, ap, ap₂, subst, ◌∙◌, count_by, filter_map, nat_eq, nat_le}
use borrow.Author.Tests.{eqb-true, eqb-false}
use Rattle.std.specs.Option.{option_map_or, option_or}
use Rattle.std.specs.List.{cons_option}
use Rattle.std.specs.Ordering.{is_eq}
use Rattle.std.specs.Cmp.{tied_itself}
use Rattle.std.specs.Cmp.Lexicographic.{nat_list_cmp_total}
use Rattle.std.specs.FinMap.{find, entries, get, len, is_sorted, same_map, get-entries, entries_sorted}
use Rattle.sfs_base.specs.declared.numbers.Kind.{Kind}
use Rattle.sfs_base.specs.Name.{bucket}
use Rattle.tree_laws.specs.declared.call.Call.TheVariants as call
use Rattle.tree_laws.specs.declared.reply.Code.{Code}
use Rattle.tree_laws.specs.declared.reply.Code.TheVariants.{NoEntry, NotDir, IsDir, NotPermitted, NotEmpty, Exists, DirFull, NoNodes, TooManyLinks, Invalid}
use Rattle.tree_laws.specs.declared.reply.Reply.TheVariants as reply
use Rattle.tree_laws.specs.Order.{Key, name_cmp}
use Rattle.tree_laws.specs.Names.{with_kinds}
use Rattle.tree_laws.specs.Tree.{BUCKET_ROWS, TreeState, Node, row_of, is_alive, is_directory, is_directory_kind, kind_of, bytes_of, count_of, row_count, links_of, lies_below, names_of, made_by, next_number, holds_directory, name_row}
use Rattle.tree_laws.specs.Effect.{Adds, Removes, Moves}
use Rattle.tree_laws.specs.Verdict.{MOST_LINKS, Verdict, refused, answered, done, or_else, directory_fault, file_fault, node_fault, size_of, is_full, make_fault, link_fault, unlink_row, rmdir_row, place_fault, names_child, move_row, look_row, write_bytes, trunc_file}
use Rattle.tree_laws.specs.Readings.{SameKind, SameNode, SameBucket, SameRows, SameCount, SameKindsIn, SamePlace, SameNumbers, SameMove, SameStat}
use Rattle.tree_laws.specs.Laws.{IsSoundTree, ReadingsDecide, BucketsMakeRows}
use Rattle.tree_laws.proofs.Joined.{name_cmp-IsAntisymmetric, bucket_small, count-cons}
use Rattle.tree_laws.proofs.Names.{get-own_bucket, get-names_where, entries-names_where}
use Rattle.sfs_base.proofs.BasicTruth.{both_second}
use Rattle.sfs_base.proofs.BasicTruth.{both_first}
use Rattle.tree_laws.specs.Fits.{MayHold}
use Rattle.tree_laws.proofs.Fitting.{may_hold, neither}
use Rattle.tree_laws.proofs.RowFacts.{behind_apart}
use Rattle.tree_laws.proofs.Walks.{not_below_own}
use Rattle.sfs_base.proofs.BasicNumbers.{zero_plus}

pub buckets_make_rows : BucketsMakeRows
buckets_make_rows tree other d same =
    same_map nat_list_cmp_total name_cmp-IsAntisymmetric _ _ (λ n.
    get-names_where d (λ _. true) tree.rows n
    ∙ sym (get-own_bucket d n tree.rows)
    ∙ ap (λ m. get m n) (same (bucket n) (bucket_small n))
    ∙ get-own_bucket d n other.rows
    ∙ sym (get-names_where d (λ _. true) other.rows n))

-- whether a node is a directory goes by its kind
pub directory_by_kind : (tree : TreeState) (node : ℕ) → is_directory tree node ≡ is_directory_kind (kind_of tree node)
directory_by_kind tree node =
    elim (get tree.nodes node) as (λ o. option_map_or (λ (n : Node). is_directory_kind n.kind) o false
    ≡ is_directory_kind (option_map_or (λ (n : Node). n.kind) o Rattle.sfs_base.specs.declared.numbers.Kind.TheVariants.File)) [
      | Some n ↦ refl
      | None ↦ refl
    ]

module _ (tree other : TreeState) where
  same_directory : (node : ℕ) → SameKind tree other node → is_directory tree node ≡ is_directory other node
  same_directory node kind = directory_by_kind tree node ∙ ap is_directory_kind kind ∙ sym (directory_by_kind other node)

  same_row : (directory : ℕ) (name : List ℕ) → SameBucket tree other directory name → row_of tree directory name ≡ row_of other directory name
  same_row d n rows = sym (get-own_bucket d n tree.rows) ∙ ap (λ m. get m n) rows ∙ get-own_bucket d n other.rows

  same_full : (directory : ℕ) (name : List ℕ) → SameBucket tree other directory name → is_full tree directory name ≡ is_full other directory name
  same_full d n rows = ap (λ m. nat_le BUCKET_ROWS (len m)) rows

  same_directory_fault : (directory : ℕ) → SameNode tree other directory → directory_fault tree directory ≡ directory_fault other directory
  same_directory_fault d same =
      elim (is_alive tree d) as (λ b. is_alive tree d ≡ b
      → cond (not b) (Some NoEntry) (cond (not (is_directory tree d)) (Some NotDir) None) ≡ directory_fault other d) [
        | true ↦
            λ alive. ap₂ (λ a k. cond (not a) (Some NoEntry) (cond (not k) (Some NotDir) None)) (sym alive ∙ same.alive) (same_directory d (same.kind alive))
        | false ↦ λ dead. ap (λ a. cond (not a) (Some NoEntry) (cond (not (is_directory other d)) (Some NotDir) None)) (sym dead ∙ same.alive)
      ] refl

  same_file_fault : (file : ℕ) → SameNode tree other file → file_fault tree file ≡ file_fault other file
  same_file_fault f same =
      elim (is_alive tree f) as (λ b. is_alive tree f ≡ b → cond (not b) (Some NoEntry) (cond (is_directory tree f) (Some IsDir) None) ≡ file_fault other f) [
        | true ↦ λ alive. ap₂ (λ a k. cond (not a) (Some NoEntry) (cond k (Some IsDir) None)) (sym alive ∙ same.alive) (same_directory f (same.kind alive))
        | false ↦ λ dead. ap (λ a. cond (not a) (Some NoEntry) (cond (is_directory other f) (Some IsDir) None)) (sym dead ∙ same.alive)
      ] refl

  same_node_fault : (node : ℕ) → SameNode tree other node → node_fault tree node ≡ node_fault other node
  same_node_fault node same = ap (λ a. cond (not a) (Some NoEntry) None) same.alive

  -- what follows a look at a row goes by that row
  at_row : (directory : ℕ) (name : List ℕ) (here there : Option ℕ → Verdict) → SamePlace tree other directory name
      → ((o : Option ℕ) → row_of tree directory name ≡ o → here o ≡ there o)
      → or_else (directory_fault tree directory) (here (row_of tree directory name))
      ≡ or_else (directory_fault other directory) (there (row_of other directory name))
  at_row d n here there same each = ap₂ or_else (same_directory_fault d same.node) (each (row_of tree d n) refl ∙ ap there (same_row d n same.rows))

  look_same : (directory : ℕ) (name : List ℕ) → ((child : ℕ) → row_of tree directory name ≡ Some child → SameKind tree other child) → (o : Option ℕ)
      → row_of tree directory name ≡ o → look_row tree o ≡ look_row other o
  look_same d n kinds None e = refl
  look_same d n kinds (Some child) e = ap (λ k. answered (reply.Node (record { 0 = child }) k)) (kinds child e)

  unlink_same : (directory : ℕ) (name : List ℕ) → ((child : ℕ) → row_of tree directory name ≡ Some child → SameKind tree other child) → (o : Option ℕ)
      → row_of tree directory name ≡ o → unlink_row tree directory name o ≡ unlink_row other directory name o
  unlink_same d n kinds None e = refl
  unlink_same d n kinds (Some child) e = ap (λ k. cond k (refused NotPermitted) (done (Removes d n child))) (same_directory child (kinds child e))

  -- a directory's count matters, and that of no file
  same_bare : (node : ℕ) → SameKind tree other node → (is_directory tree node ≡ true → SameCount tree other node)
      → (is_directory tree node && not (nat_eq (row_count tree node) 0)) ≡ (is_directory other node && not (nat_eq (row_count other node) 0))
  same_bare node kind count =
      elim (is_directory tree node) as (λ b. is_directory tree node ≡ b
      → (b && not (nat_eq (row_count tree node) 0)) ≡ (is_directory other node && not (nat_eq (row_count other node) 0))) [
        | true ↦ λ k. ap (λ r. not (nat_eq r 0)) (count k) ∙ ap (λ b. b && not (nat_eq (row_count other node) 0)) (sym k ∙ same_directory node kind)
        | false ↦ λ k. ap (λ b. b && not (nat_eq (row_count other node) 0)) (sym k ∙ same_directory node kind)
      ] refl

  rmdir_same : (directory : ℕ) (name : List ℕ) → ((child : ℕ) → row_of tree directory name ≡ Some child → SameKind tree other child)
      → ((child : ℕ) → row_of tree directory name ≡ Some child → is_directory tree child ≡ true → SameCount tree other child) → (o : Option ℕ)
      → row_of tree directory name ≡ o → rmdir_row tree directory name o ≡ rmdir_row other directory name o
  rmdir_same d n kinds counts None e = refl
  rmdir_same d n kinds counts (Some child) e =
      elim (is_directory tree child) as (λ b. is_directory tree child ≡ b
      → cond (not b) (refused NotDir) (cond (not (nat_eq (row_count tree child) 0)) (refused NotEmpty) (done (Removes d n child)))
      ≡ rmdir_row other d n (Some child)) [
        | true ↦
            λ k. ap₂ (λ b r. cond (not b) (refused NotDir) (cond (not (nat_eq r 0)) (refused NotEmpty) (done (Removes d n child))))
            (sym k ∙ same_directory child (kinds child e)) (counts child e k)
        | false ↦
            λ k. ap (λ b. cond (not b) (refused NotDir) (cond (not (nat_eq (row_count other child) 0)) (refused NotEmpty) (done (Removes d n child))))
            (sym k ∙ same_directory child (kinds child e))
      ] refl

  make_same : (core directory : ℕ) (name : List ℕ) → SamePlace tree other directory name → SameNumbers tree other core
      → make_fault tree core directory name ≡ make_fault other core directory name
  make_same core d n same numbers =
      ap₂ option_or (same_directory_fault d same.node)
      (ap₂ (λ o f. cond (is_some o) (Some Exists) (cond f (Some DirFull) (cond (nat_le tree.share (made_by tree core)) (Some NoNodes) None)))
      (same_row d n same.rows) (same_full d n same.rows)
      ∙ ap₂
      (λ s m. cond (is_some (row_of other d n)) (Some Exists) (cond (is_full other d n) (Some DirFull) (cond (nat_le s m) (Some NoNodes) None)))
      numbers.share numbers.made)

  same_next : (core : ℕ) → SameNumbers tree other core → next_number tree core ≡ next_number other core
  same_next core numbers =
      ap₂ (λ f s. f + core * s + made_by tree core) numbers.first numbers.share ∙ ap (λ m. other.first + core * other.share + m) numbers.made

  link_same : (file directory : ℕ) (name : List ℕ) → SamePlace tree other directory name → SameNode tree other file
      → (is_directory tree file ≡ false → count_of tree.rows file ≡ count_of other.rows file)
      → link_fault tree file directory name ≡ link_fault other file directory name
  link_same f d n same node links =
      elim (is_alive tree f) as (λ b. is_alive tree f ≡ b
      → cond (not b) (Some NoEntry) (cond (is_directory tree f) (Some NotPermitted) (linked tree)) ≡ link_fault other f d n) [
        | true ↦
            λ alive. of_live alive
            ∙ ap (λ a. cond (not a) (Some NoEntry) (cond (is_directory other f) (Some NotPermitted) (linked other))) (sym alive ∙ node.alive)
        | false ↦ λ dead. ap (λ a. cond (not a) (Some NoEntry) (cond (is_directory other f) (Some NotPermitted) (linked other))) (sym dead ∙ node.alive)
      ] refl
    where
      linked : TreeState → Option Code
      linked t =
          option_or (directory_fault t d)
          (cond (is_some (row_of t d n)) (Some Exists)
          (cond (nat_le MOST_LINKS (count_of t.rows f)) (Some TooManyLinks) (cond (is_full t d n) (Some DirFull) None)))

      same_linked : count_of tree.rows f ≡ count_of other.rows f → linked tree ≡ linked other
      same_linked count =
          ap₂ option_or (same_directory_fault d same.node)
          (ap₂ (λ o c. cond (is_some o) (Some Exists) (cond (nat_le MOST_LINKS c) (Some TooManyLinks) (cond (is_full tree d n) (Some DirFull) None)))
          (same_row d n same.rows) count
          ∙ ap (λ b. cond (is_some (row_of other d n)) (Some Exists)
          (cond (nat_le MOST_LINKS (count_of other.rows f)) (Some TooManyLinks) (cond b (Some DirFull) None)))
          (same_full d n same.rows))

      of_live : is_alive tree f ≡ true
          → cond (is_directory tree f) (Some NotPermitted) (linked tree) ≡ cond (is_directory other f) (Some NotPermitted) (linked other)
      of_live alive =
          elim (is_directory tree f) as (λ b. is_directory tree f ≡ b
          → cond b (Some NotPermitted) (linked tree) ≡ cond (is_directory other f) (Some NotPermitted) (linked other)) [
            | true ↦ λ k. ap (λ b. cond b (Some NotPermitted) (linked other)) (sym k ∙ same_directory f (node.kind alive))
            | false ↦ λ k. same_linked (links k) ∙ ap (λ b. cond b (Some NotPermitted) (linked other)) (sym k ∙ same_directory f (node.kind alive))
          ] refl

  place_same : (child to_directory : ℕ) (to_name : List ℕ) (o : Option ℕ) → SameBucket tree other to_directory to_name
      → is_directory tree child ≡ is_directory other child → ((there : ℕ) → o ≡ Some there → SameKind tree other there)
      → ((there : ℕ) → o ≡ Some there → is_directory tree there ≡ true → SameCount tree other there)
      → place_fault tree child to_directory to_name o ≡ place_fault other child to_directory to_name o
  place_same child q m None rows kind kinds counts = ap (λ b. cond b (Some DirFull) None) (same_full q m rows)
  place_same child q m (Some there) rows kind kinds counts =
      ap₂
      (λ k t. cond (k && not t) (Some NotDir)
      (cond (not k && t) (Some IsDir) (cond (is_directory tree there && not (nat_eq (row_count tree there) 0)) (Some NotEmpty) None)))
      kind
      (same_directory there (kinds there refl))
      ∙ ap (λ r. cond (is_directory other child && not (is_directory other there)) (Some NotDir)
      (cond (not (is_directory other child) && is_directory other there) (Some IsDir) (cond r (Some NotEmpty) None)))
      (same_bare there (kinds there refl) (counts there refl))

  move_same : IsSoundTree tree → IsSoundTree other → (directory : ℕ) (name : List ℕ) (to_directory : ℕ) (to_name : List ℕ) → MayHold tree to_directory
      → SameMove tree other directory name to_directory to_name → (o : Option ℕ) → row_of tree directory name ≡ o
      → move_row tree directory name to_directory to_name o ≡ move_row other directory name to_directory to_name o
  move_same s t d n q m holder same None e = refl
  move_same s t d n q m holder same (Some child) e =
      let kind : is_directory tree child ≡ is_directory other child = same_directory child (same.child child e) in
      ap₂ (λ r f. cond (names_child r child) (answered reply.Ok) (or_else f (done (Moves d n q m child)))) (same_row q m same.to.rows)
      (ap₂ (λ b f. cond b (Some Invalid) f) (below kind)
      (place_same child q m (row_of tree q m) same.to.rows kind same.kind same.rows ∙ ap (place_fault other child q m) (same_row q m same.to.rows)))
    where
      own : (u : TreeState) → IsSoundTree u → row_of u d n ≡ Some child → is_directory u child ≡ true → d ≡ q → (nat_eq q child || lies_below u q child) ≡ false
      own u is row kind here = subst (λ (z : ℕ). (nat_eq z child || lies_below u z child) ≡ false) here (not_below_own u is.sound d child n row kind)

      below : is_directory tree child ≡ is_directory other child
          → (is_directory tree child && (nat_eq q child || lies_below tree q child))
          ≡ (is_directory other child && (nat_eq q child || lies_below other q child))
      below kind =
          elim (is_directory tree child) as (λ b. is_directory tree child ≡ b
          → (b && (nat_eq q child || lies_below tree q child)) ≡ (is_directory other child && (nat_eq q child || lies_below other q child))) [
            | false ↦ λ k. ap (λ b. b && (nat_eq q child || lies_below other q child)) (sym k ∙ kind)
            | true ↦ λ k.
                let also : is_directory other child ≡ true = sym kind ∙ k in
                (elim (nat_eq d q) as (λ b. nat_eq d q ≡ b → (nat_eq q child || lies_below tree q child) ≡ (nat_eq q child || lies_below other q child)) [
                  | true ↦ λ h. own tree s e k (eqb-true _ _ h) ∙ sym (own other t (sym (same_row d n same.from.rows) ∙ e) also (eqb-true _ _ h))
                  | false ↦ λ h. ap (λ b. nat_eq q child || b) (same.below holder child e k (eqb-false _ _ h))
                ]) refl
                ∙ sym (ap (λ b. b && (nat_eq q child || lies_below other q child)) also)
          ] refl

-- a name with the kind of its node
abbrev pub with_kind : TreeState → List ℕ × ℕ → List ℕ × Kind
with_kind tree row = (row.0, kind_of tree row.1)

-- the names of a list with the kinds of their nodes go by the kinds that its rows have
kinds_listed : (tree other : TreeState) (es : List (List ℕ × ℕ)) → T (is_sorted name_cmp es)
    → ((name : List ℕ) (child : ℕ) → find name_cmp name es ≡ Some child → SameKind tree other child) → map (with_kind tree) es ≡ map (with_kind other) es
kinds_listed tree other [] sorted same = refl
kinds_listed tree other (e ∷ es) sorted same =
    ap₂ (λ (k : Kind) (l : List (List ℕ × Kind)). (e.0, k) ∷ l)
    (same e.0 e.1 (ap (λ o. cond (is_eq o) (Some e.1) (find name_cmp e.0 es)) (tied_itself nat_list_cmp_total e.0)))
    (kinds_listed tree other es (both_second _ _ sorted)
    (λ name child found. same name child
    (ap (λ b. cond b (Some e.1) (find name_cmp name es))
    (behind_apart nat_list_cmp_total name_cmp-IsAntisymmetric e.0 name child es (both_first _ _ sorted) found)
    ∙ found)))

same_with_kinds : (tree other : TreeState) (directory : ℕ) → SameRows tree other directory → SameKindsIn tree other directory
    → with_kinds tree (names_of directory tree.rows) ≡ with_kinds other (names_of directory other.rows)
same_with_kinds tree other d rows kinds =
    kinds_listed tree other (entries (names_of d tree.rows)) (entries_sorted (names_of d tree.rows))
    (λ name child found. kinds name child (sym (get-names_where d (λ _. true) tree.rows name) ∙ get-entries (names_of d tree.rows) name ∙ found))
    ∙ ap (λ m. map (with_kind other) (entries m)) rows

abbrev names_directory : List ℕ × Kind → Bool
names_directory row = is_directory_kind row.1

-- the rows of a directory that name directories, counted by the names with their kinds
directories_in : (tree : TreeState) (directory : ℕ)
    → count_by (holds_directory tree directory) (entries tree.rows) ≡ count_by names_directory (with_kinds tree (names_of directory tree.rows))
directories_in tree d =
    in_list (entries tree.rows) ∙ ap (λ es. count_by names_directory (map (with_kind tree) es)) (sym (entries-names_where d (λ _. true) tree.rows))
  where
    in_list : (es : List (Key × ℕ))
        → count_by (holds_directory tree d) es ≡ count_by names_directory (map (with_kind tree) (filter_map (name_row d (λ _. true)) es))
    in_list [] = refl
    in_list (e ∷ es) =
        count-cons (holds_directory tree d) e es
        ∙ ap (λ n. cond (holds_directory tree d e) 1 0 + n) (in_list es)
        ∙ elim (nat_eq e.0.0 d) as (λ b. cond (b && is_directory tree e.1) 1 0
        + count_by names_directory (map (with_kind tree) (filter_map (name_row d (λ _. true)) es))
        ≡ count_by names_directory
        (map (with_kind tree) (cons_option (cond (b && true) (Some (e.0.1, e.1)) None) (filter_map (name_row d (λ _. true)) es)))) [
          | true ↦
              ap (λ b. cond b 1 0 + count_by names_directory (map (with_kind tree) (filter_map (name_row d (λ _. true)) es))) (directory_by_kind tree e.1)
              ∙ sym (count-cons names_directory (e.0.1, kind_of tree e.1) (map (with_kind tree) (filter_map (name_row d (λ _. true)) es)))
          | false ↦ zero_plus _
        ]

links_same : (tree other : TreeState) (node : ℕ) → is_alive tree node ≡ true → SameStat tree other node → links_of tree node ≡ links_of other node
links_same tree other node alive same =
    elim (is_directory tree node) as (λ b. is_directory tree node ≡ b
    → cond b (2 + count_by (holds_directory tree node) (entries tree.rows)) (count_of tree.rows node) ≡ links_of other node) [
      | true ↦ λ k.
          ap (λ n. 2 + n)
          (directories_in tree node ∙ ap (count_by names_directory) (same_with_kinds tree other node (same.rows k) (same.kinds k))
          ∙ sym (directories_in other node))
          ∙ sym
          (ap (λ b. cond b (2 + count_by (holds_directory other node) (entries other.rows)) (count_of other.rows node))
          (sym (same_directory tree other node (same.same.kind alive)) ∙ k))
      | false ↦ λ k.
          same.links k
          ∙ sym
          (ap (λ b. cond b (2 + count_by (holds_directory other node) (entries other.rows)) (count_of other.rows node))
          (sym (same_directory tree other node (same.same.kind alive)) ∙ k))
    ] refl

size_same : (tree other : TreeState) (node : ℕ) → is_alive tree node ≡ true → SameStat tree other node → size_of tree node ≡ size_of other node
size_same tree other node alive same =
    elim (is_directory tree node) as (λ b. is_directory tree node ≡ b → cond b (row_count tree node) (length (bytes_of tree node)) ≡ size_of other node) [
      | true ↦
          λ k. ap len (same.rows k)
          ∙ sym (ap (λ b. cond b (row_count other node) (length (bytes_of other node))) (sym (same_directory tree other node (same.same.kind alive)) ∙ k))
      | false ↦
          λ k. ap length (same.bytes k)
          ∙ sym (ap (λ b. cond b (row_count other node) (length (bytes_of other node))) (sym (same_directory tree other node (same.same.kind alive)) ∙ k))
    ] refl

pub readings_decide : ReadingsDecide
readings_decide tree other core (call.Look d n) s t same = at_row tree other d.0 n (look_row tree) (look_row other) same.0 (look_same tree other d.0 n same.1)
readings_decide tree other core (call.Make d n k) s t same =
    ap₂ or_else (make_same tree other core d.0 n same.0 same.1)
    (ap (λ x. record { reply = reply.Node (record { 0 = x }) k; effect = Adds d.0 n x; makes = Some k }) (same_next tree other core same.1))
readings_decide tree other core (call.Link f d n) s t same =
    ap (λ fault. or_else fault (done (Adds d.0 n f.0))) (link_same tree other f.0 d.0 n same.0 same.1 same.2)
readings_decide tree other core (call.Unlink d n) s t same =
    at_row tree other d.0 n (unlink_row tree d.0 n) (unlink_row other d.0 n) same.0 (unlink_same tree other d.0 n same.1)
readings_decide tree other core (call.Rmdir d n) s t same =
    at_row tree other d.0 n (rmdir_row tree d.0 n) (rmdir_row other d.0 n) same.0 (rmdir_same tree other d.0 n same.1 same.2)
readings_decide tree other core (call.Rename d n q m) s t same =
    let faults = ap₂ option_or (same_directory_fault tree other d.0 same.from.node) (same_directory_fault tree other q.0 same.to.node) in
    let after : Option Code → Verdict = λ fault. or_else fault (move_row other d.0 n q.0 m (row_of other d.0 n)) in
    elim (option_or (directory_fault tree d.0) (directory_fault tree q.0)) as (λ o. o ≡ option_or (directory_fault tree d.0) (directory_fault tree q.0)
    → or_else o (move_row tree d.0 n q.0 m (row_of tree d.0 n)) ≡ after (option_or (directory_fault other d.0) (directory_fault other q.0))) [
      | Some code ↦ λ is. ap after (is ∙ faults)
      | None ↦ λ is.
          let holder = may_hold tree q.0 (neither (directory_fault tree d.0) (directory_fault tree q.0) (sym is)).1 in
          move_same tree other s t d.0 n q.0 m holder same (row_of tree d.0 n) refl
          ∙ ap (move_row other d.0 n q.0 m) (same_row tree other d.0 n same.from.rows)
          ∙ ap after (is ∙ faults)
    ] refl
readings_decide tree other core (call.Write f at bytes) s t same = ap (λ fault. or_else fault (write_bytes f.0 at bytes)) (same_file_fault tree other f.0 same)
readings_decide tree other core (call.Read f at count) s t same =
    ap₂ (λ fault b. or_else fault (answered (reply.Bytes (take count (drop at b))))) (same_file_fault tree other f.0 same.0) same.1
readings_decide tree other core (call.Trunc f size) s t same = ap (λ fault. or_else fault (trunc_file f.0 size)) (same_file_fault tree other f.0 same)
readings_decide tree other core (call.Stat x) s t same =
    let after : Bool → Verdict =
    λ alive. or_else (cond (not alive) (Some NoEntry) None) (answered (reply.Stat (kind_of other x.0) (links_of other x.0) (size_of other x.0))) in
    elim (is_alive tree x.0) as (λ b. is_alive tree x.0 ≡ b
    → or_else (cond (not b) (Some NoEntry) None) (answered (reply.Stat (kind_of tree x.0) (links_of tree x.0) (size_of tree x.0)))
    ≡ after (is_alive other x.0)) [
      | true ↦ λ alive.
          ap (λ k. answered (reply.Stat k (links_of tree x.0) (size_of tree x.0))) (same.same.kind alive)
          ∙ ap₂ (λ l z. answered (reply.Stat (kind_of other x.0) l z)) (links_same tree other x.0 alive same) (size_same tree other x.0 alive same)
          ∙ ap after (sym alive ∙ same.same.alive)
      | false ↦ λ dead. ap after (sym dead ∙ same.same.alive)
    ] refl
readings_decide tree other core (call.List d) s t same =
    ap₂ (λ fault names. or_else fault (answered (reply.Names names))) (same_directory_fault tree other d.0 same.0)
    (same_with_kinds tree other d.0 same.1 same.2)
readings_decide tree other core (call.Fsync x) s t same = ap (λ fault. or_else fault (answered reply.Ok)) (same_node_fault tree other x.0 same)
