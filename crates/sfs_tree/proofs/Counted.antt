-- The stored counts, kept by each change.
use Rattle.std.proofs.Common.{◌≡◌, ℕ, zero, suc, ◌+◌, ◌-◌, ◌^◌, ◌<◌, ◌≤◌, Bool, true, false, cond, ◌&&◌, List, [], ◌∷◌, ◌++◌, length, set, Some, None, refl, sym, ap, subst, ◌∙◌, arith, count_by, nat_eq, slice_index}
use borrow.Author.Tests.{eqb-true, eqb-false}
use Rattle.std.specs.Ordering.{nat_cmp}
use Rattle.std.proofs.lemmas.List.{get_or-set_same, get_or-set_other, length-append, length-set}
use Rattle.std.specs.FinMap.{FinMap, get, insert, remove, empty, entries, len, get-empty, len-empty}
use Rattle.sfs_tree.specs.declared.counts.Counts.{Counts}
use Rattle.tree_laws.specs.Order.{Key, key_cmp}
use Rattle.tree_laws.specs.Tree.{Node, count_of, names_it}
use Rattle.tree_laws.specs.Buckets.{stands_in}
use Rattle.sfs_tree.specs.Counts.{is_directory_in, holds_directory_in, count_inside, count_directories, IsCounted, IsWide, MayRise, MayFall}
use Rattle.tree_laws.specs.Tree.{one_if}
use Rattle.tree_laws.proofs.Joined.{count-insert}
use Rattle.tree_laws.proofs.Counting.{count-remove, count-le-len, len_more, len_less, count_agree, count_some, came, Came, stayed}
use Rattle.sfs_base.proofs.BasicNumbers.{plus_zero, same_number}
use Rattle.sfs_base.proofs.BasicOptions.{none_some}

-- a count that is more at one place
counted_more : (ns : List ℕ) (x k more old new : ℕ) → x < length ns → slice_index ns k ≡ old → new ≡ old + cond (nat_eq x k) more 0
    → slice_index (set ns x (slice_index ns x + more)) k ≡ new
counted_more ns x k more old new lt was is =
    elim (nat_eq x k) as (λ t. nat_eq x k ≡ t → new ≡ old + cond t more 0 → slice_index (set ns x (slice_index ns x + more)) k ≡ new) [
      | true ↦ λ t e.
          ap (λ j. slice_index (set ns x (slice_index ns x + more)) j) (sym (eqb-true _ _ t))
          ∙ get_or-set_same ns x (slice_index ns x + more) 0 lt
          ∙ ap (λ n. n + more) (ap (slice_index ns) (eqb-true _ _ t) ∙ was)
          ∙ sym e
      | false ↦ λ t e. get_or-set_other ns x k (slice_index ns x + more) 0 (λ same. eqb-false _ _ t (sym same)) ∙ was ∙ sym (e ∙ plus_zero old)
    ] refl is

-- a count that is less at one place
counted_less : (ns : List ℕ) (x k less old new : ℕ) → x < length ns → slice_index ns k ≡ old → old ≡ new + cond (nat_eq x k) less 0
    → slice_index (set ns x (slice_index ns x - less)) k ≡ new
counted_less ns x k less old new lt was is =
    elim (nat_eq x k) as (λ t. nat_eq x k ≡ t → old ≡ new + cond t less 0 → slice_index (set ns x (slice_index ns x - less)) k ≡ new) [
      | true ↦ λ t e.
          ap (λ j. slice_index (set ns x (slice_index ns x - less)) j) (sym (eqb-true _ _ t))
          ∙ get_or-set_same ns x (slice_index ns x - less) 0 lt
          ∙ ap (λ n. n - less) (ap (slice_index ns) (eqb-true _ _ t) ∙ was ∙ e)
          ∙ taken new less
      | false ↦ λ t e. get_or-set_other ns x k (slice_index ns x - less) 0 (λ same. eqb-false _ _ t (sym same)) ∙ was ∙ e ∙ plus_zero new
    ] refl is
  where
    taken : (n m : ℕ) → n + m - m ≡ n
    taken n m = omega arith

-- a test of two parts, as a number
in_two : (a b : Bool) → ◌≡◌ {A = ℕ} (cond (a && b) 1 0) (cond a (cond b 1 0) 0)
in_two true b = refl
in_two false b = refl

no_rows : (p : Key × ℕ → Bool) → count_by p (entries (empty {X = ℕ} {R = key_cmp})) ≡ 0
no_rows p =
    let a = count-le-len (empty {X = ℕ} {R = key_cmp}) p in
    let b = len-empty key_cmp ℕ in
    omega arith

pub IsCounted-new : (nodes : FinMap nat_cmp Node) (counts : Counts) → counts.named.items ≡ [] → counts.inside.items ≡ [] → counts.directories.items ≡ []
    → counts.total ≡ 0 → IsCounted empty nodes counts
IsCounted-new nodes counts named inside directories total = record {
  naming = λ node. ap (λ ns. slice_index ns node) named ∙ sym (no_rows (names_it node));
  standing = λ directory. ap (λ ns. slice_index ns directory) inside ∙ sym (no_rows (stands_in directory));
  directories = λ directory. ap (λ ns. slice_index ns directory) directories ∙ sym (no_rows (holds_directory_in nodes directory));
  holders = λ directory name child is. absurd (none_some (sym (get-empty key_cmp (directory, name)) ∙ is));
  total = total ∙ sym (len-empty key_cmp ℕ);
}

zero_behind : (ns : List ℕ) (k : ℕ) → slice_index (ns ++ 0 ∷ []) k ≡ slice_index ns k
zero_behind [] zero = refl
zero_behind [] (suc k) = refl
zero_behind (n ∷ ns) zero = refl
zero_behind (n ∷ ns) (suc k) = zero_behind ns k

-- counts that are 0 behind the last
pub record IsLonger (old new : Counts) : Type 0 where
  pub named : new.named.items ≡ old.named.items ++ 0 ∷ []
  pub inside : new.inside.items ≡ old.inside.items ++ 0 ∷ []
  pub directories : new.directories.items ≡ old.directories.items ++ 0 ∷ []
  pub holders : new.holders.items ≡ old.holders.items ++ 0 ∷ []
  pub total : new.total ≡ old.total

module _ (old new : Counts) (l : IsLonger old new) where
  pub IsCounted-longer : (rows : FinMap key_cmp ℕ) (nodes : FinMap nat_cmp Node) → IsCounted rows nodes old → IsCounted rows nodes new
  IsCounted-longer rows nodes h = record {
    naming = λ node. ap (λ ns. slice_index ns node) l.named ∙ zero_behind old.named.items node ∙ h.naming node;
    standing = λ directory. ap (λ ns. slice_index ns directory) l.inside ∙ zero_behind old.inside.items directory ∙ h.standing directory;
    directories = λ directory. ap (λ ns. slice_index ns directory) l.directories ∙ zero_behind old.directories.items directory ∙ h.directories directory;
    holders =
        λ directory name child is dir one. ap (λ ns. slice_index ns child) l.holders ∙ zero_behind old.holders.items child
        ∙ h.holders directory name child is dir one;
    total = l.total ∙ h.total;
  }

  pub IsWide-longer : (places : ℕ) → IsWide old places → IsWide new (places + 1)
  IsWide-longer places h = record {
    named = longer _ _ l.named h.named;
    inside = longer _ _ l.inside h.inside;
    directories = longer _ _ l.directories h.directories;
    holders = longer _ _ l.holders h.holders;
  }
    where
      longer : (xs ys : List ℕ) → ys ≡ xs ++ 0 ∷ [] → places ≤ length xs → places + 1 ≤ length ys
      longer xs ys e le = let n : length ys ≡ length xs + 1 = ap length e ∙ length-append xs (0 ∷ []) in omega arith

-- counts in which a row of a directory has come
pub record IsRaised (directory child : ℕ) (is_directory : Bool) (old new : Counts) : Type 0 where
  pub named : new.named.items ≡ set old.named.items child (slice_index old.named.items child + 1)
  pub inside : new.inside.items ≡ set old.inside.items directory (slice_index old.inside.items directory + 1)
  pub directories : new.directories.items ≡ set old.directories.items directory (slice_index old.directories.items directory + one_if is_directory)
  pub holders : new.holders.items ≡ set old.holders.items child directory
  pub total : new.total ≡ old.total + 1

same_length : (xs ys : List ℕ) (i y places : ℕ) → ys ≡ set xs i y → places ≤ length xs → places ≤ length ys
same_length xs ys i y places e le = let n : length ys ≡ length xs = ap length e ∙ length-set xs i y in omega arith

module _ (directory child : ℕ) (is_directory : Bool) (old new : Counts) (r : IsRaised directory child is_directory old new) where
  pub IsWide-raised : (places : ℕ) → IsWide old places → IsWide new places
  IsWide-raised places h = record {
    named = same_length _ _ _ _ places r.named h.named;
    inside = same_length _ _ _ _ places r.inside h.inside;
    directories = same_length _ _ _ _ places r.directories h.directories;
    holders = same_length _ _ _ _ places r.holders h.holders;
  }

  module _ (may : MayRise old directory child) (rows : FinMap key_cmp ℕ) (nodes : FinMap nat_cmp Node) (name : List ℕ) (h : IsCounted rows nodes old)
      (none : get rows (directory, name) ≡ None) (is : is_directory ≡ is_directory_in nodes child) where
    named_more : (node : ℕ) → count_of (insert rows (directory, name) child) node ≡ count_of rows node + cond (nat_eq child node) 1 0
    named_more node = count-insert rows (directory, name) child (names_it node) none

    held : (d : ℕ) (n : List ℕ) (x : ℕ) → get (insert rows (directory, name) child) (d, n) ≡ Some x → is_directory_in nodes x ≡ true
        → count_of (insert rows (directory, name) child) x ≡ 1 → slice_index (set old.holders.items child directory) x ≡ d
    held d n x there dir one =
        elim (came rows (directory, name) child (d, n) x there) as (λ _. slice_index (set old.holders.items child directory) x ≡ d) [
          | Came.new key same ↦
              ap (slice_index (set old.holders.items child directory)) same ∙ get_or-set_same old.holders.items child directory 0 may.holders
              ∙ sym (ap (λ (k : Key). k.0) key)
          | Came.old differ was ↦
              elim (nat_eq child x) as (λ t. nat_eq child x ≡ t → slice_index (set old.holders.items child directory) x ≡ d) [
                | true ↦ λ t.
                    let some : 0 < count_of rows x = count_some (names_it x) rows (d, n) x was (same_number x) in
                    let more : count_of (insert rows (directory, name) child) x ≡ count_of rows x + 1 =
                    named_more x ∙ ap (λ b. count_of rows x + cond b 1 0) t in
                    absurd (omega arith)
                | false ↦ λ t.
                    let same : count_of (insert rows (directory, name) child) x ≡ count_of rows x + 0 =
                    named_more x ∙ ap (λ b. count_of rows x + cond b 1 0) t in
                    get_or-set_other old.holders.items child x directory 0 (λ e. eqb-false _ _ t (sym e)) ∙ h.holders d n x was dir (omega arith)
              ] refl
        ]

    pub IsCounted-raised : IsCounted (insert rows (directory, name) child) nodes new
    IsCounted-raised = record {
      naming = λ node. ap (λ ns. slice_index ns node) r.named ∙ counted_more old.named.items child node 1 _ _ may.named (h.naming node) (named_more node);
      standing =
          λ d. ap (λ ns. slice_index ns d) r.inside
          ∙ counted_more old.inside.items directory d 1 _ _ may.inside (h.standing d) (count-insert rows (directory, name) child (stands_in d) none);
      directories =
          λ d. ap (λ ns. slice_index ns d) r.directories
          ∙ counted_more old.directories.items directory d (one_if is_directory) _ _ may.directories (h.directories d)
          (count-insert rows (directory, name) child (holds_directory_in nodes d) none
          ∙ ap (λ n. count_directories rows nodes d + n)
          (in_two (nat_eq directory d) (is_directory_in nodes child) ∙ ap (λ b. cond (nat_eq directory d) (cond b 1 0) 0) (sym is)));
      holders = λ d n x there dir one. ap (λ ns. slice_index ns x) r.holders ∙ held d n x there dir one;
      total = r.total ∙ ap (λ n. n + 1) h.total ∙ sym (len_more rows (directory, name) child none);
    }

-- counts in which a row of a directory has gone
pub record IsLowered (directory child : ℕ) (is_directory : Bool) (old new : Counts) : Type 0 where
  pub named : new.named.items ≡ set old.named.items child (slice_index old.named.items child - 1)
  pub inside : new.inside.items ≡ set old.inside.items directory (slice_index old.inside.items directory - 1)
  pub directories : new.directories.items ≡ set old.directories.items directory (slice_index old.directories.items directory - one_if is_directory)
  pub holders : new.holders.items ≡ old.holders.items
  pub total : new.total ≡ old.total - 1

module _ (directory child : ℕ) (is_directory : Bool) (old new : Counts) (r : IsLowered directory child is_directory old new) where
  pub IsWide-lowered : (places : ℕ) → IsWide old places → IsWide new places
  IsWide-lowered places h = record {
    named = same_length _ _ _ _ places r.named h.named;
    inside = same_length _ _ _ _ places r.inside h.inside;
    directories = same_length _ _ _ _ places r.directories h.directories;
    holders = subst (λ ns. places ≤ length ns) (sym r.holders) h.holders;
  }

  module _ (may : MayFall old directory child is_directory) (rows : FinMap key_cmp ℕ) (nodes : FinMap nat_cmp Node) (name : List ℕ)
      (h : IsCounted rows nodes old) (some : get rows (directory, name) ≡ Some child) (is : is_directory ≡ is_directory_in nodes child)
      (once : is_directory ≡ true → count_of rows child ≡ 1) where
    named_less : (node : ℕ) → count_of rows node ≡ count_of (remove rows (directory, name)) node + cond (nat_eq child node) 1 0
    named_less node = count-remove rows (directory, name) child (names_it node) some

    held_still : (d : ℕ) (n : List ℕ) (x : ℕ) → get (remove rows (directory, name)) (d, n) ≡ Some x → is_directory_in nodes x ≡ true
        → count_of (remove rows (directory, name)) x ≡ 1 → slice_index old.holders.items x ≡ d
    held_still d n x there dir one =
        let was = stayed rows (directory, name) (d, n) x there in
        elim (nat_eq child x) as (λ t. nat_eq child x ≡ t → slice_index old.holders.items x ≡ d) [
          | true ↦ λ t.
              let more : count_of rows x ≡ count_of (remove rows (directory, name)) x + 1 =
              named_less x ∙ ap (λ b. count_of (remove rows (directory, name)) x + cond b 1 0) t in
              let single : count_of rows x ≡ 1 = ap (count_of rows) (sym (eqb-true _ _ t)) ∙ once (is ∙ ap (is_directory_in nodes) (eqb-true _ _ t) ∙ dir) in
              absurd (omega arith)
          | false ↦ λ t.
              let same : count_of rows x ≡ count_of (remove rows (directory, name)) x + 0 =
              named_less x ∙ ap (λ b. count_of (remove rows (directory, name)) x + cond b 1 0) t in
              h.holders d n x was.1 dir (omega arith)
        ] refl

    fewer : (a b c : ℕ) → a ≡ b → b ≡ c + 1 → a - 1 ≡ c
    fewer a b c e f = omega arith

    pub IsCounted-lowered : IsCounted (remove rows (directory, name)) nodes new
    IsCounted-lowered = record {
      naming = λ node. ap (λ ns. slice_index ns node) r.named ∙ counted_less old.named.items child node 1 _ _ may.named (h.naming node) (named_less node);
      standing =
          λ d. ap (λ ns. slice_index ns d) r.inside
          ∙ counted_less old.inside.items directory d 1 _ _ may.inside (h.standing d) (count-remove rows (directory, name) child (stands_in d) some);
      directories =
          λ d. ap (λ ns. slice_index ns d) r.directories
          ∙ counted_less old.directories.items directory d (one_if is_directory) _ _ may.directories (h.directories d)
          (count-remove rows (directory, name) child (holds_directory_in nodes d) some
          ∙ ap (λ n. count_directories (remove rows (directory, name)) nodes d + n)
          (in_two (nat_eq directory d) (is_directory_in nodes child) ∙ ap (λ b. cond (nat_eq directory d) (cond b 1 0) 0) (sym is)));
      holders = λ d n x there dir one. ap (λ ns. slice_index ns x) r.holders ∙ held_still d n x there dir one;
      total = r.total ∙ fewer _ _ _ h.total (len_less rows (directory, name) child some);
    }

module _ (rows : FinMap key_cmp ℕ) (nodes : FinMap nat_cmp Node) (counts : Counts) (h : IsCounted rows nodes counts) where
  -- where a further row can be stored, its counts can be raised
  pub MayRise-counted : (directory child places : ℕ) → IsWide counts places → directory < places → child < places → len rows + 1 < 2 ^ 32
      → MayRise counts directory child
  MayRise-counted directory child places w d x few =
      let wn = w.named in
      let wi = w.inside in
      let wd = w.directories in
      let wh = w.holders in
      let t = h.total in
      let a = h.naming child in
      let b = h.standing directory in
      let c = h.directories directory in
      let p = count-le-len rows (names_it child) in
      let q = count-le-len rows (stands_in directory) in
      let s = count-le-len rows (holds_directory_in nodes directory) in
      record {
        named = omega arith;
        inside = omega arith;
        directories = omega arith;
        holders = omega arith;
        total = omega arith;
        named_small = omega arith;
        inside_small = omega arith;
        directories_small = omega arith;
      }

  -- the counts of a row that is there can be lowered
  pub MayFall-counted : (directory child places : ℕ) (name : List ℕ) (is_directory : Bool) → IsWide counts places → directory < places → child < places
      → get rows (directory, name) ≡ Some child → is_directory ≡ is_directory_in nodes child → MayFall counts directory child is_directory
  MayFall-counted directory child places name is_directory w d x some is =
      let wn = w.named in
      let wi = w.inside in
      let wd = w.directories in
      let t = h.total in
      let a = h.naming child in
      let b = h.standing directory in
      let c = h.directories directory in
      let l = len_less rows (directory, name) child some in
      let p : 0 < count_of rows child = count_some (names_it child) rows (directory, name) child some (same_number child) in
      let q : 0 < count_inside rows directory = count_some (stands_in directory) rows (directory, name) child some (same_number directory) in
      record {
        named = omega arith;
        inside = omega arith;
        directories = omega arith;
        total = omega arith;
        named_some = omega arith;
        inside_some = omega arith;
        directories_some = subst (λ b. one_if b < slice_index counts.directories.items directory + 1) (sym is) (enough (is_directory_in nodes child) refl);
      }
    where
      enough : (b : Bool) → is_directory_in nodes child ≡ b → one_if b < slice_index counts.directories.items directory + 1
      enough true e =
          let c = h.directories directory in
          let s : 0 < count_directories rows nodes directory =
          count_some (holds_directory_in nodes directory) rows (directory, name) child some
          (ap (λ b. b && is_directory_in nodes child) (same_number directory) ∙ e) in
          omega arith
      enough false e = omega arith

  -- nodes of which the children of rows are the same kinds have the same counts
  pub IsCounted-nodes : (others : FinMap nat_cmp Node) → ((k : Key) (x : ℕ) → get rows k ≡ Some x → is_directory_in others x ≡ is_directory_in nodes x)
      → IsCounted rows others counts
  IsCounted-nodes others same = record {
    naming = h.naming;
    standing = h.standing;
    directories =
        λ d. h.directories d
        ∙ count_agree (holds_directory_in nodes d) (holds_directory_in others d) rows (λ k x there. ap (λ b. nat_eq k.0 d && b) (sym (same k x there)));
    holders = λ d n x there dir one. h.holders d n x there (sym (same (d, n) x there) ∙ dir) one;
    total = h.total;
  }
