-- Entries by their stamps.
use Rattle.std.proofs.Common.{◌≡◌, ◌≢◌, ℕ, zero, suc, ◌+◌, ◌<◌, ◌≤◌, ◌^◌, Bool, true, false, cond, List, [], ◌∷◌, ◌++◌, length, get_or, drop, Option, Some, None, IsSome, Vec, All, refl, sym, ap, subst, ◌∙◌, arith, count_by, drop-cons, slice_get, ltb, Bor, OnSome}
use borrow.Author.Tests.{eqb-true, eq-eqb, ltb-true, ltb-false}
use Rattle.std.specs.List.{find, cons_option}
use Rattle.std.specs.Option.{option_or, option_copied}
use Rattle.std.proofs.lemmas.List.Folds.{find-append}
use Rattle.std.proofs.lemmas.Option.{slice_get_past, slice_get_within, get_or_from_slice_get}
use Rattle.std.specs.declared.alloc.Global.{Global}
use Rattle.tree_laws.specs.declared.history.Entry.{Entry}
use Rattle.tree_laws.specs.Merged.{entries_in, has_stamp, entry_with, entries_from, by_stamps, EachOnce}
use Rattle.tree_laws.proofs.Joined.{count-cons}
use Rattle.sfs_base.proofs.BasicOptions.{some_is}
use Rattle.sfs_base.proofs.BasicNumbers.{one_is_more, none_left, one_left, suc_same, le_itself, less_plus, le_earlier, less_plus_suc, from_plus_zero, suc_plus, zero_plus, not_less, less_lower, suc_is_one_more}

module _ (test : Entry → Bool) where
  -- what stands in a list and passes is counted
  counted_at : (es : List Entry) (i : ℕ) (e : Entry) → slice_get es i ≡ Some e → test e ≡ true → count_by test es ≢ 0
  counted_at [] i e there passes none = cc
  counted_at (x ∷ es) zero e there passes none =
      one_is_more _ (ap (λ b. cond b 1 0 + count_by test es) (sym passes ∙ ap test (sym (some_is x e there))) ∙ sym (count-cons test x es) ∙ none)
  counted_at (x ∷ es) (suc i) e there passes none = counted_at es i e there passes (none_left _ _ (sym (count-cons test x es) ∙ none))

  -- the only one that passes is found
  only_found : (es : List Entry) (i : ℕ) (e : Entry) → count_by test es ≡ 1 → slice_get es i ≡ Some e → test e ≡ true → find test es ≡ Some e
  only_found [] i e one there passes = cc
  only_found (x ∷ es) zero e one there passes = ap (λ b. cond b (Some x) (find test es)) (ap test (some_is x e there) ∙ passes) ∙ there
  only_found (x ∷ es) (suc i) e one there passes =
      elim (test x) as (λ b. test x ≡ b → cond b (Some x) (find test es) ≡ Some e) [
        | true ↦ λ t. absurd (counted_at es i e there passes (none_left _ (ap (λ b. cond b 1 0 + count_by test es) (sym t) ∙ sym (count-cons test x es) ∙ one)))
        | false ↦ λ t. only_found es i e (one_left _ (ap (λ b. cond b 1 0 + count_by test es) (sym t) ∙ sym (count-cons test x es) ∙ one)) there passes
      ] refl
    where
      none_left : (n : ℕ) → 1 + n ≡ 1 → n ≡ 0
      none_left n e = omega arith

  -- what is found passes, and what holds of all holds of it
  pub found_is : (P : Entry → Type 0) (es : List Entry) (e : Entry) → All P es → find test es ≡ Some e → P e × (test e ≡ true)
  found_is P [] e all found = cc
  found_is P (x ∷ es) e all found =
      elim (test x) as (λ b. test x ≡ b → cond b (Some x) (find test es) ≡ Some e → P e × (test e ≡ true)) [
        | true ↦ λ t f. let same = some_is x e f in (subst P same (all 0 x (more (length es))), ap test (sym same) ∙ t)
        | false ↦ λ t f. found_is P es e (λ k d lt. all (suc k) d (less lt)) f
      ] refl found
    where
      more : (n : ℕ) → 0 < suc n
      more n = omega arith

      less : {k n : ℕ} → k < n → suc k < suc n
      less lt = omega arith

  -- one is found where one is counted
  pub one_found : (es : List Entry) → count_by test es ≡ 1 → IsSome (find test es)
  one_found [] one = cc
  one_found (x ∷ es) one =
      elim (test x) as (λ b. test x ≡ b → IsSome (cond b (Some x) (find test es))) [
        | true ↦ λ t. refl
        | false ↦ λ t. one_found es (one_left _ (ap (λ b. cond b 1 0 + count_by test es) (sym t) ∙ sym (count-cons test x es) ∙ one))
      ] refl

-- what stands in a list stands among all
before : (xs ys : List Entry) (i : ℕ) (e : Entry) → slice_get xs i ≡ Some e → slice_get (xs ++ ys) i ≡ Some e
before [] ys i e there = cc
before (x ∷ xs) ys zero e there = there
before (x ∷ xs) ys (suc i) e there = before xs ys i e there

behind : (xs ys : List Entry) (i : ℕ) (e : Entry) → slice_get ys i ≡ Some e → (j : ℕ) × (slice_get (xs ++ ys) j ≡ Some e)
behind [] ys i e there = (i, there)
behind (x ∷ xs) ys i e there = let rest = behind xs ys i e there in (suc rest.0, rest.1)

among : (parts : List (Vec Entry Global)) (p i : ℕ) (part : Vec Entry Global) (e : Entry) → slice_get parts p ≡ Some part → slice_get part.items i ≡ Some e
    → (j : ℕ) × (slice_get (entries_in parts) j ≡ Some e)
among [] p i part e here there = cc
among (x ∷ parts) zero i part e here there =
    (i, before x.items (entries_in parts) i e (ap (λ (v : Vec Entry Global). slice_get v.items i) (some_is x part here) ∙ there))
  where
    some_is : (a b : Vec Entry Global) → Some a ≡ Some b → a ≡ b
    some_is a b e = cc
among (x ∷ parts) (suc p) i part e here there = let rest = among parts p i part e here there in behind x.items (entries_in parts) rest.0 e rest.1

-- an entry that stands in a list is the one with its stamp
pub entry_found : (parts : List (Vec Entry Global)) (p i : ℕ) (part : Vec Entry Global) (e : Entry) (stamp : ℕ) → EachOnce (entries_in parts)
    → slice_get parts p ≡ Some part → slice_get part.items i ≡ Some e → e.stamp.0 ≡ stamp → entry_with (entries_in parts) stamp ≡ Some e
entry_found parts p i part e stamp each here there is =
    let j = among parts p i part e here there in
    let within = each.below j.0 e (slice_get_within (entries_in parts) j.0 e j.1) in
    only_found (has_stamp stamp) (entries_in parts) j.0 e (each.once stamp (below_it j.0 j.1)) j.1 (eq-eqb e.stamp.0 stamp is)
  where
    below_it : (j : ℕ) → slice_get (entries_in parts) j ≡ Some e → stamp < length (entries_in parts)
    below_it j at =
        subst (λ (x : ℕ). x < length (entries_in parts)) is
        (subst (λ (x : Entry). x.stamp.0 < length (entries_in parts)) (get_or_from_slice_get (entries_in parts) j e e at)
        (each.below j e (slice_get_within (entries_in parts) j e at)))

-- a stamp that is found is below the number of entries
pub stamp_within : (es : List Entry) (stamp : ℕ) (e : Entry) → EachOnce es → entry_with es stamp ≡ Some e → stamp < length es
stamp_within es stamp e each found =
    let is = found_is (has_stamp stamp) (λ x. x.stamp.0 < length es) es e each.below found in
    subst (λ (x : ℕ). x < length es) (eqb-true _ _ is.1) is.0

-- the entries from a stamp on, each of which is there
from_length : (es : List Entry) (s c : ℕ) → ((k : ℕ) → s ≤ k → k < s + c → IsSome (entry_with es k)) → length (entries_from es s c) ≡ c
from_length es s zero there = refl
from_length es s (suc c) there =
    elim (entry_with es s) as (λ o. IsSome o → length (cons_option o (entries_from es (suc s) c)) ≡ suc c) [
      | Some e ↦ λ some. suc_same (from_length es (suc s) c (λ k le lt. there k (le_earlier le) (less_plus_suc k s c lt)))
      | None ↦ λ some. cc
    ] (there s (le_itself s) (less_plus s c))

from_get : (es : List Entry) (s c i : ℕ) → ((k : ℕ) → s ≤ k → k < s + c → IsSome (entry_with es k)) → i < c
    → slice_get (entries_from es s c) i ≡ entry_with es (s + i)
from_get es s zero i there lt = absurd (omega arith)
from_get es s (suc c) zero there lt =
    (elim (entry_with es s) as (λ o. IsSome o → slice_get (cons_option o (entries_from es (suc s) c)) 0 ≡ o) [
      | Some e ↦ λ some. refl
      | None ↦ λ some. cc
    ]) (there s (le_itself s) (less_plus s c))
    ∙ ap (entry_with es) (from_plus_zero s)
from_get es s (suc c) (suc i) there lt =
    (elim (entry_with es s) as (λ o. IsSome o → slice_get (cons_option o (entries_from es (suc s) c)) (suc i) ≡ slice_get (entries_from es (suc s) c) i) [
      | Some e ↦ λ some. refl
      | None ↦ λ some. cc
    ]) (there s (le_itself s) (less_plus s c))
    ∙ from_get es (suc s) c i (λ k le less. there k (le_earlier le) (less_plus_suc k s c less)) (less_lower lt)
    ∙ ap (entry_with es) (suc_plus s i)

each_there : (es : List Entry) → EachOnce es → (k : ℕ) → 0 ≤ k → k < 0 + length es → IsSome (entry_with es k)
each_there es each k le lt = one_found (has_stamp k) es (each.once k (no_more k (length es) lt))
  where
    no_more : (k n : ℕ) → k < 0 + n → k < n
    no_more k n lt = omega arith

pub length-by_stamps : (es : List Entry) → EachOnce es → length (by_stamps es) ≡ length es
unfolding by_stamps
length-by_stamps es each = from_length es 0 (length es) (each_there es each)

-- at each place stands the entry with that stamp
pub get-by_stamps : (es : List Entry) → EachOnce es → (k : ℕ) → slice_get (by_stamps es) k ≡ entry_with es k
unfolding by_stamps
get-by_stamps es each k =
    elim (ltb k (length es)) as (λ b. ltb k (length es) ≡ b → slice_get (entries_from es 0 (length es)) k ≡ entry_with es k) [
      | true ↦ λ t. from_get es 0 (length es) k (each_there es each) (ltb-true _ _ t) ∙ ap (entry_with es) (zero_plus k)
      | false ↦ λ t.
          slice_get_past (entries_from es 0 (length es)) k (past (from_length es 0 (length es) (each_there es each)) (ltb-false _ _ t))
          ∙ sym (none_is (entry_with es k) (λ e found. not_less (stamp_within es k e each found) (ltb-false _ _ t)))
    ] refl
  where
    past : {a n k : ℕ} → a ≡ n → n ≤ k → a ≤ k
    past e le = omega arith

    none_is : (o : Option Entry) → ((e : Entry) → o ≡ Some e → ⊥) → o ≡ None
    none_is None h = refl
    none_is (Some e) h = absurd (h e refl)

-- one list after another is searched
pub find_next : (stamp : ℕ) (part : Vec Entry Global) (parts : List (Vec Entry Global)) → find (has_stamp stamp) part.items ≡ None
    → entry_with (entries_in (part ∷ parts)) stamp ≡ entry_with (entries_in parts) stamp
find_next stamp part parts none = find-append (has_stamp stamp) part.items (entries_in parts) ∙ ap (λ o. option_or o (entry_with (entries_in parts) stamp)) none

pub find_here : (stamp : ℕ) (part : Vec Entry Global) (parts : List (Vec Entry Global)) (e : Entry) → find (has_stamp stamp) part.items ≡ Some e
    → entry_with (entries_in (part ∷ parts)) stamp ≡ Some e
find_here stamp part parts e found =
    find-append (has_stamp stamp) part.items (entries_in parts) ∙ ap (λ o. option_or o (entry_with (entries_in parts) stamp)) found

module _ (stamp : ℕ) (parts : List (Vec Entry Global)) (i : ℕ) (part : Vec Entry Global) (lt : i < length parts) (is : part ≡ get_or parts i part)
    (before : entry_with (entries_in (drop i parts)) stamp ≡ entry_with (entries_in parts) stamp) where
  this_list : drop i parts ≡ part ∷ drop (i + 1) parts
  this_list = drop-cons parts i part lt ∙ ap (λ x. x ∷ drop (suc i) parts) (sym is) ∙ ap (λ n. part ∷ drop n parts) (suc_is_one_more i)

  -- a list has the entry
  pub here_found : (e : Entry) → Some e ≡ find (has_stamp stamp) part.items → Some e ≡ entry_with (entries_in parts) stamp
  here_found e found = sym (find_here stamp part (drop (i + 1) parts) e (sym found)) ∙ sym (ap (λ ps. entry_with (entries_in ps) stamp) this_list) ∙ before

  -- a list does not have it
  pub here_none : find (has_stamp stamp) part.items ≡ None → entry_with (entries_in (drop (i + 1) parts)) stamp ≡ entry_with (entries_in parts) stamp
  here_none none = sym (find_next stamp part (drop (i + 1) parts) none) ∙ sym (ap (λ ps. entry_with (entries_in ps) stamp) this_list) ∙ before

-- a stamp that is found leaves room for the next
pub room_for_next : (es : List Entry) (stamp : ℕ) (o : Option (Bor Entry)) → EachOnce es → option_copied o ≡ entry_with es stamp → OnSome o (stamp + 1 < 2 ^ 64)
room_for_next es stamp None each is = tt
room_for_next es stamp (Some e) each is = let lt = stamp_within es stamp e.now each (sym is) in let few = each.few in omega arith
