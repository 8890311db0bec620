-- Rows counted by a test: after one comes or goes, where two tests agree, and which row a test finds.
use Rattle.std.proofs.Common.{◌≡◌, ◌≢◌, ℕ, ◌+◌, ◌<◌, ◌≤◌, Bool, true, false, cond, T, List, [], ◌∷◌, Option, Some, None, is_some, refl, sym, ap, subst, ◌∙◌, arith, count_by}
use Rattle.std.specs.List as list
use Rattle.std.specs.Ordering.{eq_by_cmp, is_eq}
use Rattle.std.specs.Cmp.{tied_itself}
use Rattle.std.specs.FinMap.{FinMap, find, entries, get, insert, remove, len, is_sorted, same_map, get-insert, get-remove, get-entries, entries_sorted, len-insert}
use Rattle.std.specs.FinMap.Entries.{below_all}
use Rattle.std.proofs.lemmas.List.Sums.{count_by-le-length}
use Rattle.std.specs.FinMap.{len-entries}
use Rattle.tree_laws.specs.Order.{Key, key_cmp}
use Rattle.tree_laws.proofs.Joined.{key_cmp_total, key_cmp-IsAntisymmetric, is_equal, other_key, count-cons, count-insert}
use Rattle.tree_laws.proofs.Search.{not_found}
use Rattle.sfs_base.proofs.BasicTruth.{both_second}
use Rattle.sfs_base.proofs.BasicTruth.{both_first}
use Rattle.sfs_base.proofs.BasicOptions.{none_some}
use Rattle.sfs_base.proofs.BasicTruth.{true_not_false}

pub same_itself : (k : Key) → eq_by_cmp key_cmp k k ≡ true
same_itself k = ap is_eq (tied_itself key_cmp_total k)

-- maps of rows that answer alike are one
pub same_rows : (m n : FinMap key_cmp ℕ) → ((q : Key) → get m q ≡ get n q) → m ≡ n
same_rows m n h = same_map key_cmp_total key_cmp-IsAntisymmetric m n h

pub none_removed : (rows : FinMap key_cmp ℕ) (k : Key) → get (remove rows k) k ≡ None
none_removed rows k = get-remove key_cmp_total rows k k ∙ ap (λ b. cond b None (get rows k)) (same_itself k)

pub get_other-remove : (rows : FinMap key_cmp ℕ) (k q : Key) → q ≢ k → get (remove rows k) q ≡ get rows q
get_other-remove rows k q differ = get-remove key_cmp_total rows k q ∙ ap (λ b. cond b None (get rows q)) (other_key q k differ)

pub get_other-insert : (rows : FinMap key_cmp ℕ) (k q : Key) (x : ℕ) → q ≢ k → get (insert rows k x) q ≡ get rows q
get_other-insert rows k q x differ = get-insert key_cmp_total rows k x q ∙ ap (λ b. cond b (Some x) (get rows q)) (other_key q k differ)

pub get_same-insert : (rows : FinMap key_cmp ℕ) (k : Key) (x : ℕ) → get (insert rows k x) k ≡ Some x
get_same-insert rows k x = get-insert key_cmp_total rows k x k ∙ ap (λ b. cond b (Some x) (get rows k)) (same_itself k)

-- what is there after a row came: the new row, or an old one under another key
pub data Came (rows : FinMap key_cmp ℕ) (k : Key) (x : ℕ) (q : Key) (y : ℕ) : Type 0 where
  new : q ≡ k → y ≡ x → Came rows k x q y
  old : q ≢ k → get rows q ≡ Some y → Came rows k x q y

some_is : {x y : ℕ} → ◌≡◌ {A = Option ℕ} (Some x) (Some y) → y ≡ x
some_is e = cc

differ_false : (q k : Key) → eq_by_cmp key_cmp q k ≡ false → q ≢ k
differ_false q k e same = absurd (true_not_false (sym (same_itself k) ∙ ap (λ x. eq_by_cmp key_cmp x k) (sym same) ∙ e))

pub came : (rows : FinMap key_cmp ℕ) (k : Key) (x : ℕ) (q : Key) (y : ℕ) → get (insert rows k x) q ≡ Some y → Came rows k x q y
came rows k x q y is =
    elim (eq_by_cmp key_cmp q k) as (λ b. eq_by_cmp key_cmp q k ≡ b → cond b (Some x) (get rows q) ≡ Some y → Came rows k x q y) [
      | true ↦ λ t e. Came.new (key_cmp-IsAntisymmetric q k (is_equal _ t)) (some_is e)
      | false ↦ λ t e. Came.old (differ_false q k t) e
    ] refl (sym (get-insert key_cmp_total rows k x q) ∙ is)

-- what is there after a row went was there under another key
pub stayed : (rows : FinMap key_cmp ℕ) (k q : Key) (y : ℕ) → get (remove rows k) q ≡ Some y → (q ≢ k) × (get rows q ≡ Some y)
stayed rows k q y is =
    elim (eq_by_cmp key_cmp q k) as (λ b. eq_by_cmp key_cmp q k ≡ b → cond b None (get rows q) ≡ Some y → (q ≢ k) × (get rows q ≡ Some y)) [
      | true ↦ λ t e. absurd (none_some e)
      | false ↦ λ t e. (differ_false q k t, e)
    ] refl (sym (get-remove key_cmp_total rows k q) ∙ is)

-- a row that goes and comes again
pub put_back : (rows : FinMap key_cmp ℕ) (k : Key) (x : ℕ) → get rows k ≡ Some x → insert (remove rows k) k x ≡ rows
put_back rows k x is =
    same_rows _ _ (λ q.
    get-insert key_cmp_total (remove rows k) k x q
    ∙ ap (cond (eq_by_cmp key_cmp q k) (Some x)) (get-remove key_cmp_total rows k q)
    ∙ elim (eq_by_cmp key_cmp q k) as (λ b. eq_by_cmp key_cmp q k ≡ b → cond b (Some x) (cond b None (get rows q)) ≡ get rows q) [
      | true ↦ λ t. sym is ∙ ap (get rows) (sym (key_cmp-IsAntisymmetric q k (is_equal _ t)))
      | false ↦ λ t. refl
    ] refl)

-- how many rows pass a test, once one goes
pub count-remove : (rows : FinMap key_cmp ℕ) (k : Key) (x : ℕ) (p : Key × ℕ → Bool) → get rows k ≡ Some x
    → count_by p (entries rows) ≡ count_by p (entries (remove rows k)) + cond (p (k, x)) 1 0
count-remove rows k x p is =
    ap (λ m. count_by p (entries m)) (sym (put_back rows k x is)) ∙ count-insert (remove rows k) k x p (none_removed rows k)

-- how many rows there are, once one comes or goes
pub len_more : (rows : FinMap key_cmp ℕ) (k : Key) (x : ℕ) → get rows k ≡ None → len (insert rows k x) ≡ len rows + 1
len_more rows k x none = len-insert key_cmp_total rows k x ∙ ap (λ (o : Option ℕ). cond (is_some o) (len rows) (len rows + 1)) none

pub len_less : (rows : FinMap key_cmp ℕ) (k : Key) (x : ℕ) → get rows k ≡ Some x → len rows ≡ len (remove rows k) + 1
len_less rows k x is = ap len (sym (put_back rows k x is)) ∙ len_more (remove rows k) k x (none_removed rows k)

pub count-le-len : (rows : FinMap key_cmp ℕ) (p : Key × ℕ → Bool) → count_by p (entries rows) ≤ len rows
count-le-len rows p = let a = count_by-le-length p (entries rows) in let b = len-entries rows in omega arith

-- behind the first entry stand others
behind : (e : Key × ℕ) (es : List (Key × ℕ)) (k : Key) (x : ℕ) → T (is_sorted key_cmp (e ∷ es)) → find key_cmp k es ≡ Some x → find key_cmp k (e ∷ es) ≡ Some x
behind e es k x s is =
    elim (eq_by_cmp key_cmp k e.0) as (λ b. eq_by_cmp key_cmp k e.0 ≡ b → cond b (Some e.1) (find key_cmp k es) ≡ Some x) [
      | true ↦
          λ t. absurd
          (none_some
          (sym
          (not_found key_cmp_total k es
          (subst (λ j. T (below_all key_cmp j es)) (sym (key_cmp-IsAntisymmetric k e.0 (is_equal _ t))) (both_first _ _ s)))
          ∙ is))
      | false ↦ λ t. is
    ] refl

head : (e : Key × ℕ) (es : List (Key × ℕ)) → find key_cmp e.0 (e ∷ es) ≡ Some e.1
head e es = ap (λ b. cond b (Some e.1) (find key_cmp e.0 es)) (same_itself e.0)

agree_list : (p q : Key × ℕ → Bool) (es : List (Key × ℕ)) → T (is_sorted key_cmp es) → ((k : Key) (x : ℕ) → find key_cmp k es ≡ Some x → p (k, x) ≡ q (k, x))
    → count_by p es ≡ count_by q es
agree_list p q [] s h = refl
agree_list p q (e ∷ es) s h =
    count-cons p e es
    ∙ ap (λ b. cond b 1 0 + count_by p es) (h e.0 e.1 (head e es))
    ∙ ap (λ n. cond (q e) 1 0 + n) (agree_list p q es (both_second _ _ s) (λ k x is. h k x (behind e es k x s is)))
    ∙ sym (count-cons q e es)

-- tests that agree on the rows count alike
pub count_agree : (p q : Key × ℕ → Bool) (rows : FinMap key_cmp ℕ) → ((k : Key) (x : ℕ) → get rows k ≡ Some x → p (k, x) ≡ q (k, x))
    → count_by p (entries rows) ≡ count_by q (entries rows)
count_agree p q rows h = agree_list p q (entries rows) (entries_sorted rows) (λ k x is. h k x (get-entries rows k ∙ is))

never : (es : List (Key × ℕ)) → count_by (λ _. false) es ≡ 0
never [] = refl
never (e ∷ es) = let a = count-cons (λ (_ : Key × ℕ). false) e es in let b = never es in omega arith

-- no row passes a test that none of them passes
pub count_none : (p : Key × ℕ → Bool) (rows : FinMap key_cmp ℕ) → ((k : Key) (x : ℕ) → get rows k ≡ Some x → p (k, x) ≡ false) → count_by p (entries rows) ≡ 0
count_none p rows h = count_agree p (λ _. false) rows h ∙ never (entries rows)

-- a row passes where one does
pub count_some : (p : Key × ℕ → Bool) (rows : FinMap key_cmp ℕ) (k : Key) (x : ℕ) → get rows k ≡ Some x → p (k, x) ≡ true → 0 < count_by p (entries rows)
count_some p rows k x is passes =
    let e : count_by p (entries rows) ≡ count_by p (entries (remove rows k)) + 1 =
    count-remove rows k x p is ∙ ap (λ b. count_by p (entries (remove rows k)) + cond b 1 0) passes in
    omega arith

-- a row that a test finds
pub record Found (p : Key × ℕ → Bool) (rows : FinMap key_cmp ℕ) : Type 0 where
  pub row : Key × ℕ
  pub is : list.find p (entries rows) ≡ Some row
  pub there : get rows row.0 ≡ Some row.1
  pub passes : p row ≡ true

record FoundIn (p : Key × ℕ → Bool) (es : List (Key × ℕ)) : Type 0 where
  row : Key × ℕ
  is : list.find p es ≡ Some row
  there : find key_cmp row.0 es ≡ Some row.1
  passes : p row ≡ true

found_in : (p : Key × ℕ → Bool) (es : List (Key × ℕ)) → T (is_sorted key_cmp es) → 0 < count_by p es → FoundIn p es
found_in p [] s lt = absurd (omega arith)
found_in p (e ∷ es) s lt =
    elim (p e) as (λ b. p e ≡ b → FoundIn p (e ∷ es)) [
      | true ↦ λ t. record { row = e; is = ap (λ b. cond b (Some e) (list.find p es)) t; there = head e es; passes = t }
      | false ↦ λ t.
          let fewer : count_by p (e ∷ es) ≡ 0 + count_by p es = count-cons p e es ∙ ap (λ b. cond b 1 0 + count_by p es) t in
          let rest : FoundIn p es = found_in p es (both_second _ _ s) (omega arith) in
          record {
            row = rest.row;
            is = ap (λ b. cond b (Some e) (list.find p es)) t ∙ rest.is;
            there = behind e es rest.row.0 rest.row.1 s rest.there;
            passes = rest.passes;
          }
    ] refl

-- where some row passes a test, one is found
pub found : (p : Key × ℕ → Bool) (rows : FinMap key_cmp ℕ) → 0 < count_by p (entries rows) → Found p rows
found p rows lt =
    let f = found_in p (entries rows) (entries_sorted rows) lt in
    record { row = f.row; is = f.is; there = get-entries rows f.row.0 ∙ f.there; passes = f.passes }

-- where none does, none is
pub found_none : (p : Key × ℕ → Bool) (es : List (Key × ℕ)) → count_by p es ≡ 0 → list.find p es ≡ None
found_none p [] e = refl
found_none p (x ∷ es) e =
    elim (p x) as (λ b. p x ≡ b → cond b (Some x) (list.find p es) ≡ None) [
      | true ↦ λ t. let more : count_by p (x ∷ es) ≡ 1 + count_by p es = count-cons p x es ∙ ap (λ b. cond b 1 0 + count_by p es) t in absurd (omega arith)
      | false ↦ λ t. let same : count_by p (x ∷ es) ≡ 0 + count_by p es = count-cons p x es ∙ ap (λ b. cond b 1 0 + count_by p es) t in
          found_none p es (omega arith)
    ] refl

-- two rows that pass a test which one row passes are one
pub only : (p : Key × ℕ → Bool) (rows : FinMap key_cmp ℕ) (k q : Key) (x y : ℕ) → count_by p (entries rows) ≡ 1 → get rows k ≡ Some x → p (k, x) ≡ true
    → get rows q ≡ Some y → p (q, y) ≡ true → q ≡ k
only p rows k q x y one is passes was also =
    elim (eq_by_cmp key_cmp q k) as (λ b. eq_by_cmp key_cmp q k ≡ b → q ≡ k) [
      | true ↦ λ t. key_cmp-IsAntisymmetric q k (is_equal _ t)
      | false ↦ λ t.
          let left : count_by p (entries rows) ≡ count_by p (entries (remove rows k)) + 1 =
          count-remove rows k x p is ∙ ap (λ b. count_by p (entries (remove rows k)) + cond b 1 0) passes in
          let more : 0 < count_by p (entries (remove rows k)) = count_some p (remove rows k) q y (get_other-remove rows k q (differ_false q k t) ∙ was) also in
          absurd (omega arith)
    ] refl
