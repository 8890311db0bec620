-- The names of a directory, by its eight buckets.
use Rattle.std.proofs.Common.{◌≡◌, ◌<◌, ◌+◌, ℕ, zero, suc, Bool, true, false, cond, ◌&&◌, ◌==◌, T, List, [], ◌∷◌, map, count_by, Some, None, refl, sym, ap, subst, ◌∙◌, arith}
use borrow.Author.Tests.{eqb-true}
use Rattle.std.proofs.Math.Path.{fun_ext}
use Rattle.std.specs.Prelude.{filter_map, if◌then◌else◌}
use Rattle.std.specs.List.{cons_option}
use Rattle.std.specs.List.Sorted.{IsPermutation}
use Rattle.std.specs.Option.{option_map_or}
use Rattle.std.specs.FinMap.{FinMap, get, entries, entries_sorted, is_sorted}
use Rattle.std.proofs.lemmas.List.Sorted.{sum_by-IsPermutation, IsPermutation-map}
use Rattle.std.proofs.lemmas.List.Sums.{sum_by-append}
use Rattle.sfs_base.proofs.BasicTruth.{and_true, and_false}
use Rattle.sfs_base.specs.Name.{bucket}
use Rattle.sfs_base.specs.declared.numbers.NodeId.{NodeId}
use Rattle.tree_laws.specs.Order.{Key, name_cmp}
use Rattle.tree_laws.specs.Tree.{TreeState, row_of, kind_of, name_row, names_of}
use Rattle.tree_laws.specs.Names.{with_kinds}
use Rattle.tree_laws.specs.NameKinds.{name_kind}
use Rattle.tree_laws.specs.declared.listing.NameKind.{NameKind}
use Rattle.tree_laws.proofs.Joined.{count-cons, bucket_small}
use Rattle.tree_laws.proofs.Names.{entries-names_where}
use Rattle.tree_laws.proofs.Counting.{count_agree}
use Rattle.mem_values.specs.Start.{FileHand}
use Rattle.mem_values.specs.declared.bucket.Bucket.{Bucket}
use Rattle.mem_values.specs.Places.{node_count}
use Rattle.mem_values.specs.Stands.{ShowsBucket}
use Rattle.mem_values.specs.Laws.{MayMeet}
use Rattle.mem_values.proofs.Basics.{is_value}
use Rattle.mem_calls.specs.Held.{bucket_held}
use Rattle.mem_calls.specs.Sums.{sum_until, HoldsBuckets}
use Rattle.mem_calls.specs.Listed.{with_kind, kinds_in, kinds_held, join_until, AreInNameOrder}
use Rattle.mem_calls.proofs.Shown.{bucket_shows}
use Rattle.mem_calls.proofs.NamedRows.{row_in, kind_in}
use Rattle.mem_calls.proofs.Summed.{split, sum_same}
use Rattle.mem_calls.proofs.Uniquely.{Row, SameCounts, one_list}

-- what is counted of lists one behind the other
joined : (test : Row → Bool) (n : ℕ) (f : ℕ → List Row) → count_by test (join_until n f) ≡ sum_until n (λ b. count_by test (f b))
joined test zero f = refl
joined test (suc n) f =
    let rest = joined test n f in
    let both = sum_by-append (λ (row : Row). cond (test row) 1 0) (join_until n f) (f n) in
    omega (arith, rest, both)

-- what is counted of the rows of a part of a directory, each made into another one, is counted of all rows
counted : (d : ℕ) (part : List ℕ → Bool) (make : List ℕ × ℕ → Row) (test : Row → Bool) (es : List (Key × ℕ))
    → count_by test (map make (filter_map (name_row d part) es)) ≡ count_by (λ row. (test (make (row.0.1, row.1)) && (row.0.0 == d)) && part row.0.1) es
counted d part make test [] = refl
counted d part make test (e ∷ es) = by (e.0.0 == d) (part e.0.1) (counted d part make test es)
    ∙ sym (count-cons (λ row. (test (make (row.0.1, row.1)) && (row.0.0 == d)) && part row.0.1) e es)
  where
    x : Row
    x = make (e.0.1, e.1)

    rows : List (List ℕ × ℕ)
    rows = filter_map (name_row d part) es

    all : ℕ
    all = count_by (λ (row : Key × ℕ). (test (make (row.0.1, row.1)) && (row.0.0 == d)) && part row.0.1) es

    by : (h t : Bool) → count_by test (map make rows) ≡ all
        → count_by test (map make (cons_option (if h && t then Some (e.0.1, e.1) else None) rows)) ≡ cond ((test x && h) && t) 1 0 + all
    by true true rest =
        let first : ◌≡◌ {A = ℕ} (cond ((test x && true) && true) 1 0) (cond (test x) 1 0) = ap (λ b. cond b 1 0)
        (and_true (test x && true) ∙ and_true (test x)) in
        let more = count-cons test x (map make rows) in
        omega (arith, rest, first, more)
    by true false rest = let first : ◌≡◌ {A = ℕ} (cond ((test x && true) && false) 1 0) 0 = ap (λ b. cond b 1 0) (and_false (test x && true)) in
        omega (arith, rest, first)
    by false t rest = let first : ◌≡◌ {A = ℕ} (cond ((test x && false) && t) 1 0) 0 = ap (λ b. cond (b && t) 1 0) (and_false (test x)) in
        omega (arith, rest, first)

pick : (p q h t : Bool) → (h ≡ true → t ≡ true → p ≡ q) → ((p && h) && t) ≡ ((q && h) && t)
pick p q true true same = ap (λ x. (x && true) && true) (same refl refl)
pick p q true false same = and_false (p && true) ∙ sym (and_false (q && true))
pick p q false t same = ap (λ x. x && t) (and_false p ∙ sym (and_false q))

module _ (tree : TreeState) (d : ℕ) where
  abbrev kinded : List ℕ × ℕ → Row
  kinded row = (row.0, kind_of tree row.1)

  -- the rows of a bucket with their kinds
  bucket_counted : (number : ℕ) (B : Bucket) → ShowsBucket tree d number B → (test : Row → Bool)
      → count_by test (kinds_in B) ≡ count_by (λ row. (test (kinded (row.0.1, row.1)) && (row.0.0 == d)) && (bucket row.0.1 == number)) (entries tree.rows)
  bucket_counted number B shows test =
      ap (λ es. count_by test (map (with_kind B) es)) (ap entries shows.rows ∙ entries-names_where d (λ n. bucket n == number) tree.rows)
      ∙ (counted d (λ n. bucket n == number) (with_kind B) test (entries tree.rows)
      ∙ count_agree _ _ tree.rows (λ k x there. pick (test (with_kind B (k.1, x))) (test (kinded (k.1, x))) (k.0 == d) (bucket k.1 == number) (same k x there)))
    where
      same : (k : Key) (x : ℕ) → get tree.rows k ≡ Some x → (k.0 == d) ≡ true → (bucket k.1 == number) ≡ true
          → test (with_kind B (k.1, x)) ≡ test (kinded (k.1, x))
      same k x there here lies =
          let shown : ShowsBucket tree d (bucket k.1) B = subst (λ n. ShowsBucket tree d n B) (sym (eqb-true (bucket k.1) number lies)) shows in
          let row : row_of tree d k.1 ≡ Some x = subst (λ n. get tree.rows (n, k.1) ≡ Some x) (eqb-true k.0 d here) there in
          ap (λ kind. test (k.1, kind)) (kind_in tree d k.1 B shown x (sym (row_in tree d k.1 B shown) ∙ row))

  -- the rows of all buckets are those of the directory
  all_counted : (f : ℕ → List Row) → ((number : ℕ) → number < 8 → (B : Bucket) × (f number ≡ kinds_in B) × ShowsBucket tree d number B)
      → SameCounts (join_until 8 f) (with_kinds tree (names_of d tree.rows))
  all_counted f each test =
      joined test 8 f
      ∙ (sum_same 8 (λ b. count_by test (f b))
      (λ b. count_by (λ row. (test (kinded (row.0.1, row.1)) && (row.0.0 == d)) && (bucket row.0.1 == b)) (entries tree.rows))
      (λ b lt. let B = each b lt in ap (count_by test) B.1 ∙ bucket_counted b B.0 B.2 test)
      ∙ (sym (split 8 (λ row. test (kinded (row.0.1, row.1)) && (row.0.0 == d)) (entries tree.rows) bucket_small)
      ∙ (ap (λ p. count_by p (entries tree.rows)) (fun_ext (λ (row : Key × ℕ). sym (and_true (test (kinded (row.0.1, row.1)) && (row.0.0 == d)))))
      ∙ (sym (counted d (λ _. true) kinded test (entries tree.rows))
      ∙ ap (λ es. count_by test (map kinded es)) (sym (entries-names_where d (λ _. true) tree.rows))))))

  -- and strictly rise by their names
  kinds_sorted : (es : List (List ℕ × ℕ)) → T (is_sorted name_cmp es) → T (is_sorted name_cmp (map kinded es))
  kinds_sorted [] sorted = tt
  kinds_sorted (e ∷ es) sorted = Rattle.sfs_base.proofs.BasicTruth.both_of _ _ (below e.0 es (Rattle.sfs_base.proofs.BasicTruth.both_first _ _ sorted))
      (kinds_sorted es (Rattle.sfs_base.proofs.BasicTruth.both_second _ _ sorted))
    where
      below : (name : List ℕ) (rows : List (List ℕ × ℕ)) → T (Rattle.std.specs.FinMap.Entries.below_all name_cmp name rows)
          → T (Rattle.std.specs.FinMap.Entries.below_all name_cmp name (map kinded rows))
      below name [] all = tt
      below name (row ∷ rows) all = Rattle.sfs_base.proofs.BasicTruth.both_of _ _ (Rattle.sfs_base.proofs.BasicTruth.both_first _ _ all)
          (below name rows (Rattle.sfs_base.proofs.BasicTruth.both_second _ _ all))

-- The names that are sorted are those of each tree that a core may meet.
pub names_are : (hand : FileHand) (nodes : ℕ) (node : NodeId) (rows sorted : List NameKind) → nodes ≡ node_count hand.view.first → node.0 < nodes
    → HoldsBuckets nodes hand.held node → map name_kind rows ≡ join_until 8 (kinds_held nodes hand.held node)
    → IsPermutation rows sorted → AreInNameOrder sorted → (tree : TreeState) → MayMeet hand.view hand.held tree
    → map name_kind sorted ≡ with_kinds tree (names_of node.0 tree.rows)
names_are hand nodes node rows sorted counted within holds are moved up tree meets =
    one_list sorted (with_kinds tree (names_of node.0 tree.rows)) up
    (kinds_sorted tree node.0 (entries (names_of node.0 tree.rows)) (entries_sorted (names_of node.0 tree.rows)))
    (λ test. sum_by-IsPermutation (λ (row : Row). cond (test row) 1 0) (map name_kind rows) (map name_kind sorted)
    (IsPermutation-map name_kind rows sorted moved)
    ∙ (ap (count_by test) are ∙ all_counted tree node.0 (kinds_held nodes hand.held node) each test))
  where
    each : (number : ℕ) → number < 8 → (B : Bucket) × (kinds_held nodes hand.held node number ≡ kinds_in B) × ShowsBucket tree node.0 number B
    each number lt =
        let B = is_value (bucket_held nodes hand.held node number) (holds number lt) in
        (B.0, ap (λ o. option_map_or kinds_in o []) B.1, bucket_shows hand nodes counted tree meets node number B.0 within lt B.1)
