-- Two lists in order become one: what was taken stands before what is left.
use Rattle.std.proofs.Common.{◌≡◌, ℕ, suc, ◌<◌, ◌≤◌, Bool, true, false, cond, nat_eq, nat_le, List, [], ◌∷◌, ◌++◌, Some, None, length, get_or, filter, refl, sym, ap, ◌∙◌, subst, arith, inl, inr}
use borrow.Author.Tests.{leb-true, eqb-true}
use Rattle.std.specs.Prelude.{All, drop, Option, option_to_list}
use Rattle.std.proofs.lemmas.Bool.{cond-false}
use Rattle.std.proofs.lemmas.Bool.Decides.{nat_tests}
use Rattle.std.proofs.lemmas.List.{append_assoc, append-nil}
use Rattle.std.proofs.lemmas.List.Elements.{All-nil, All-append, All-cons, All-head, All-tail, filter-append, All-from_get_or}
use Rattle.tree_laws.specs.declared.changes.Change.{Change}
use Rattle.mem_cells.specs.Log.{log_place, IsInOrder}
use Rattle.mem_cells.proofs.Order.{nothing_in_order, in_order-push, in_order-drop}
use Rattle.log_merge.specs.Merge.{stands_at, IsMergeOf, is_first_next, GoesFrom, TakesNext}

-- Each of some changes stands no later than each of others.
abbrev pub IsBefore : List Change → List Change → Type 0
IsBefore taken left = All (λ one. All (λ other. log_place one ≤ log_place other) left) taken

-- What was taken of two lists, in order, before what is left of them.
pub record MergesTo (first second first_left second_left taken : List Change) : Type 0 where
  pub in_order : IsInOrder taken
  pub first_order : IsInOrder first_left
  pub second_order : IsInOrder second_left
  pub before_first : IsBefore taken first_left
  pub before_second : IsBefore taken second_left
  pub same : (place : ℕ)
      → filter (stands_at place) taken ++ (filter (stands_at place) first_left ++ filter (stands_at place) second_left)
      ≡ filter (stands_at place) first ++ filter (stands_at place) second

-- the first of changes in order stands no later than the others
pub first_no_later : (change : Change) (rest : List Change) → IsInOrder (change ∷ rest) → All (λ one. log_place change ≤ log_place one) rest
first_no_later change rest order =
    All-from_get_or (λ one. log_place change ≤ log_place one) rest change (λ i within. order.rises 0 (suc i) change (omega arith) (omega arith))

-- none of changes that stand later stands at a place
none_at : (place : ℕ) (changes : List Change) → All (λ one. place < log_place one) changes → filter (stands_at place) changes ≡ []
none_at place [] later = refl
none_at place (one ∷ changes) later =
    cond-false (stands_at place one) (one ∷ filter (stands_at place) changes) (filter (stands_at place) changes)
    (let less = All-head (λ one. place < log_place one) one changes later in apart place (log_place one) less)
    ∙ none_at place changes (All-tail (λ one. place < log_place one) one changes later)
  where
    apart : (a b : ℕ) → a < b → nat_eq b a ≡ false
    apart a b less = grind (arith, nat_tests)

-- nothing was taken yet
pub merges_begin : (first second : List Change) → IsInOrder first → IsInOrder second → MergesTo first second first second []
merges_begin first second first_order second_order = record {
  in_order = nothing_in_order;
  first_order = first_order;
  second_order = second_order;
  before_first = All-nil (λ one. All (λ other. log_place one ≤ log_place other) first);
  before_second = All-nil (λ one. All (λ other. log_place one ≤ log_place other) second);
  same = λ place. refl;
}

-- all was taken
pub merges_end : (first second taken : List Change) → MergesTo first second [] [] taken → IsMergeOf (first ++ second) taken
merges_end first second taken m = record {
  in_order = m.in_order;
  same = λ place. sym (append-nil (filter (stands_at place) taken)) ∙ m.same place ∙ sym (filter-append (stands_at place) first second);
}

-- what stood before a list stands before its rest, and what the list's first joins stands before it too
module _ (taken : List Change) (change : Change) where
  no_later : (rest : List Change) → IsBefore taken (change ∷ rest) → All (λ one. log_place one ≤ log_place change) taken
  no_later rest before = λ k d within. All-head (λ other. log_place (get_or taken k d) ≤ log_place other) change rest (before k d within)

  before_rest : (rest : List Change) → IsBefore taken (change ∷ rest) → All (λ one. log_place change ≤ log_place one) rest
      → IsBefore (taken ++ change ∷ []) rest
  before_rest rest before later =
      All-append (λ one. All (λ other. log_place one ≤ log_place other) rest) taken (change ∷ [])
      (λ k d within. All-tail (λ other. log_place (get_or taken k d) ≤ log_place other) change rest (before k d within)) (one later)
    where
      one : All (λ one. log_place change ≤ log_place one) rest → All (λ one. All (λ other. log_place one ≤ log_place other) rest) (change ∷ [])
      one later =
          All-cons (λ one. All (λ other. log_place one ≤ log_place other) rest) change [] later
          (All-nil (λ one. All (λ other. log_place one ≤ log_place other) rest))

  before_other : (rest : List Change) → IsBefore taken rest → All (λ one. log_place change ≤ log_place one) rest → IsBefore (taken ++ change ∷ []) rest
  before_other rest before later =
      All-append (λ one. All (λ other. log_place one ≤ log_place other) rest) taken (change ∷ []) before
      (All-cons (λ one. All (λ other. log_place one ≤ log_place other) rest) change [] later
      (All-nil (λ one. All (λ other. log_place one ≤ log_place other) rest)))

-- the change at a place, moved from the front of what is left behind what was taken
moved : {X : Type 0} (b : Bool) (taken : List X) (x : X) (rest others whole : List X) → taken ++ (cond b (x ∷ rest) rest ++ others) ≡ whole
    → (taken ++ cond b (x ∷ []) []) ++ (rest ++ others) ≡ whole
moved true taken x rest others whole e = append_assoc taken (x ∷ []) (rest ++ others) ∙ e
moved false taken x rest others whole e = ap (λ l. l ++ (rest ++ others)) (append-nil taken) ∙ e

-- the same from the front of the second, where none of the first stands there
moved_second : {X : Type 0} (b : Bool) (taken : List X) (x : X) (first rest whole : List X) → (b ≡ true → first ≡ [])
    → taken ++ (first ++ cond b (x ∷ rest) rest) ≡ whole → (taken ++ cond b (x ∷ []) []) ++ (first ++ rest) ≡ whole
moved_second true taken x first rest whole none e =
    append_assoc taken (x ∷ []) (first ++ rest) ∙ ap (λ l. taken ++ (x ∷ (l ++ rest))) (none refl) ∙ ap (λ l. taken ++ (l ++ (x ∷ rest))) (sym (none refl)) ∙ e
moved_second false taken x first rest whole none e = ap (λ l. l ++ (first ++ rest)) (append-nil taken) ∙ e

filter_push : (place : ℕ) (taken : List Change) (change : Change)
    → filter (stands_at place) (taken ++ change ∷ []) ≡ filter (stands_at place) taken ++ cond (stands_at place change) (change ∷ []) []
filter_push place taken change = filter-append (stands_at place) taken (change ∷ [])

-- a change more is taken
pub merges_step : (first second first_left second_left first_after second_after taken : List Change) (change : Change)
    → MergesTo first second first_left second_left taken → TakesNext first_left second_left (Some change) first_after second_after
    → MergesTo first second first_after second_after (taken ++ change ∷ [])
merges_step first second first_left second_left first_after second_after taken change m takes = elim takes [
  | inl leaves ↦ from_first leaves
  | inr (leaves, sooner) ↦ from_second leaves sooner
]
  where
    from_first : GoesFrom first_left second_left change first_after second_after → MergesTo first second first_after second_after (taken ++ change ∷ [])
    from_first leaves =
        let order = subst IsInOrder leaves.taken m.first_order in
        let before = subst (IsBefore taken) leaves.taken m.before_first in
        record {
          in_order = in_order-push taken change m.in_order (no_later taken change first_after before);
          first_order = in_order-drop 1 (change ∷ first_after) order;
          second_order = subst IsInOrder (sym leaves.same_other) m.second_order;
          before_first = before_rest taken change first_after before (first_no_later change first_after order);
          before_second =
              subst (IsBefore (taken ++ change ∷ [])) (sym leaves.same_other) (before_other taken change second_left m.before_second leaves.no_later);
          same = λ place.
              ap (λ l. l ++ (filter (stands_at place) first_after ++ filter (stands_at place) second_after)) (filter_push place taken change)
              ∙ moved (stands_at place change) (filter (stands_at place) taken) change (filter (stands_at place) first_after)
              (filter (stands_at place) second_after) (filter (stands_at place) first ++ filter (stands_at place) second)
              (ap (λ l. filter (stands_at place) taken ++ (filter (stands_at place) (change ∷ first_after) ++ filter (stands_at place) l)) leaves.same_other
              ∙ ap (λ l. filter (stands_at place) taken ++ (filter (stands_at place) l ++ filter (stands_at place) second_left)) (sym leaves.taken)
              ∙ m.same place);
        }

    from_second : GoesFrom second_left first_left change second_after first_after → All (λ one. log_place change < log_place one) first_left
        → MergesTo first second first_after second_after (taken ++ change ∷ [])
    from_second leaves sooner =
        let order = subst IsInOrder leaves.taken m.second_order in
        let before = subst (IsBefore taken) leaves.taken m.before_second in
        record {
          in_order = in_order-push taken change m.in_order (no_later taken change second_after before);
          first_order = subst IsInOrder (sym leaves.same_other) m.first_order;
          second_order = in_order-drop 1 (change ∷ second_after) order;
          before_first = subst (IsBefore (taken ++ change ∷ [])) (sym leaves.same_other) (before_other taken change first_left m.before_first leaves.no_later);
          before_second = before_rest taken change second_after before (first_no_later change second_after order);
          same = λ place.
              ap (λ l. l ++ (filter (stands_at place) first_after ++ filter (stands_at place) second_after)) (filter_push place taken change)
              ∙ moved_second (stands_at place change) (filter (stands_at place) taken) change (filter (stands_at place) first_after)
              (filter (stands_at place) second_after) (filter (stands_at place) first ++ filter (stands_at place) second)
              (λ here. ap (filter (stands_at place)) leaves.same_other
              ∙ none_at place first_left (subst (λ n. All (λ one. n < log_place one) first_left) (eqb-true (log_place change) place here) sooner))
              (ap (λ l. filter (stands_at place) taken ++ (filter (stands_at place) l ++ filter (stands_at place) (change ∷ second_after))) leaves.same_other
              ∙ ap (λ l. filter (stands_at place) taken ++ (filter (stands_at place) first_left ++ filter (stands_at place) l)) (sym leaves.taken)
              ∙ m.same place);
        }

-- what is taken from the front of a list with a first is that first
taken_first : (next : Change) (left : List Change) (result : Option Change) (after : List Change) → (next ∷ left) ≡ option_to_list result ++ after
    → after ≡ left → result ≡ Some next
taken_first next left (Some change) after items rest = cc
taken_first next left None after items rest = let longer = ap length (items ∙ rest) in absurd (omega arith)

taken_nothing : (result : Option Change) (after : List Change) → [] ≡ option_to_list result ++ after → result ≡ None
taken_nothing (Some change) after items = absurd (cc)
taken_nothing None after items = refl

-- the first list's is taken where it is the next
pub first_taken : (first second : List Change) (result : Option Change) (after : List Change) → IsInOrder second → is_first_next first second ≡ true
    → first ≡ option_to_list result ++ after → after ≡ drop 1 first → TakesNext first second result after second
first_taken [] second result after order e items rest = absurd (cc)
first_taken (next ∷ first) [] result after order e items rest =
    subst (λ (r : Option Change). TakesNext (next ∷ first) [] r after []) (sym (taken_first next first result after items rest))
    (inl (record { taken = ap (λ l. next ∷ l) (sym rest); same_other = refl; no_later = All-nil (λ one. log_place next ≤ log_place one) }))
first_taken (next ∷ first) (other ∷ second) result after order e items rest =
    let low = leb-true _ _ e in
    subst (λ (r : Option Change). TakesNext (next ∷ first) (other ∷ second) r after (other ∷ second)) (sym (taken_first next first result after items rest))
    (inl (record {
      taken = ap (λ l. next ∷ l) (sym rest);
      same_other = refl;
      no_later =
          All-cons (λ one. log_place next ≤ log_place one) other second low
          (λ k d within. let rise = first_no_later other second order k d within in omega arith);
    }))

-- and the second's otherwise
pub second_taken : (first second : List Change) (result : Option Change) (after : List Change) → IsInOrder first → is_first_next first second ≡ false
    → second ≡ option_to_list result ++ after → after ≡ drop 1 second → TakesNext first second result first after
second_taken [] [] result after order e items rest =
    subst (λ (r : Option Change). TakesNext [] [] r [] after) (sym (taken_nothing result after items)) (refl, refl)
second_taken (next ∷ first) [] result after order e items rest = absurd (cc)
second_taken [] (other ∷ second) result after order e items rest =
    subst (λ (r : Option Change). TakesNext [] (other ∷ second) r [] after) (sym (taken_first other second result after items rest))
    (inr (
      record { taken = ap (λ l. other ∷ l) (sym rest); same_other = refl; no_later = All-nil (λ one. log_place other ≤ log_place one) },
      All-nil (λ one. log_place other < log_place one),
    ))
second_taken (next ∷ first) (other ∷ second) result after order e items rest =
    subst (λ (r : Option Change). TakesNext (next ∷ first) (other ∷ second) r (next ∷ first) after) (sym (taken_first other second result after items rest))
    (inr (
      record {
        taken = ap (λ l. other ∷ l) (sym rest);
        same_other = refl;
        no_later =
            All-cons (λ one. log_place other ≤ log_place one) next first (weaken (sooner e))
            (λ k d within. let rise = first_no_later next first order k d within in let less = sooner e in omega arith);
      },
      All-cons (λ one. log_place other < log_place one) next first (sooner e)
          (λ k d within. let rise = first_no_later next first order k d within in let less = sooner e in omega arith),
    ))
  where
    sooner : nat_le (log_place next) (log_place other) ≡ false → log_place other < log_place next
    sooner e = grind (arith, nat_tests)

    weaken : {a b : ℕ} → a < b → a ≤ b
    weaken less = omega arith
