-- Room for the changes of an entry, and what is left once some directories are trimmed.
use Prim.Native.Nat.{zero}
use Rattle.std.proofs.Common.{◌≡◌, ℕ, suc, ◌+◌, ◌<◌, ◌≤◌, Bool, true, false, nat_eq, max, List, [], ◌∷◌, ◌++◌, length, take, get_or, ◌⊎◌, inl, inr, refl, sym, ap, ◌∙◌, subst, arith, Bor}
use Rattle.std.specs.Prelude.{All, filter, slice_index_or, slice_get, Some, None, Option, is_some, ◌||◌}
use borrow.Author.Tests.{eqb-true, eq-eqb}
use Rattle.std.proofs.lemmas.List.{take_more}
use Rattle.std.proofs.lemmas.List.Elements.{All-push}
use Rattle.std.proofs.lemmas.List.Sums.{count_by-le-length, length-filter}
use Rattle.tree_laws.specs.declared.changes.Change.{Change}
use Rattle.tree_laws.specs.Logged.{is_logged_in}
use Rattle.std.specs.Option.{option_copied}
use Rattle.std.specs.Ordering.{nat_cmp}
use Rattle.std.specs.BTreeSet.{contains}
use Rattle.mem_cells.specs.Part.{CoreLog, IsSamePart}
use Rattle.cut_laws.specs.Rules.{IsOneOf}
use Rattle.cut_laws.proofs.RunFacts.{in_filter}
use Rattle.dep_closure.proofs.Looked.{one_of_all}
use Rattle.mem_cells.specs.Log.{is_from}
use Rattle.mem_cells.specs.Part.{changes_kept}
use Rattle.mem_cells.proofs.Left.{twice_kept}
use Rattle.sfs_base.specs.Listed.{is_listed}
use Rattle.sfs_base.proofs.BasicTruth.{true_not_false, or_false}
use Rattle.core_logs.specs.Logs.{Logs, part_of, AreSameChanges, AreTrimmedOf, IsTrimmedLog, IsSameLog}

-- what all of the first have, and the next one, all of one more have
pub all_more : {X : Type 0} (P Q : X → Type 0) (xs : List X) (i : ℕ) (d : X) → i < length xs → ((x : X) → P x → Q x) → All P (take i xs) → Q (get_or xs i d)
    → All Q (take (i + 1) xs)
all_more P Q xs i d less still all next =
    subst (All Q) (sym (take_more xs i d less)) (All-push Q (take i xs) (get_or xs i d) (λ k e lt. still (get_or (take i xs) k e) (all k e lt)) next)

-- room for as many changes as an entry has is room for those of a directory
pub room_for : (entry : List Change) (room : ℕ → ℕ) → All (λ change. length entry ≤ room change.dir.0) entry → (directory : ℕ)
    → length (filter (is_logged_in directory) entry) ≤ room directory
room_for entry room each directory = by (filter (is_logged_in directory) entry) (λ change one. in_filter (is_logged_in directory) entry change one) low
  where
    low : length (filter (is_logged_in directory) entry) ≤ length entry
    low = let count = length-filter (is_logged_in directory) entry in let le = count_by-le-length (is_logged_in directory) entry in omega (arith, count, le)

    by : (l : List Change) → ((change : Change) → IsOneOf l change → IsOneOf entry change × (is_logged_in directory change ≡ true)) → length l ≤ length entry
        → length l ≤ room directory
    by [] within le = omega arith
    by (change ∷ l) within le =
        let own = within change (inl refl) in
        let most =
        subst (λ d. length entry ≤ room d) (eqb-true change.dir.0 directory own.1)
        (one_of_all (λ c. length entry ≤ room c.dir.0) entry change each own.0) in
        omega (arith, most, le)

-- a list without a first one is empty
pub none_first : {X : Type 0} (xs : List X) → is_some (slice_get xs 0) ≡ false → xs ≡ []
none_first [] none = refl
none_first (x ∷ xs) none = absurd cc

none_copied : {X : Type 0} (o : Option (Bor X)) → is_some (option_copied o) ≡ is_some o
none_copied None = refl
none_copied (Some x) = refl

-- a list whose first one is not there is empty
pub none_got : {X : Type 0} (xs : List X) (first : Option (Bor X)) → option_copied first ≡ slice_get xs 0 → is_some first ≡ false → xs ≡ []
none_got xs first is none = none_first xs (ap is_some (sym is) ∙ none_copied first ∙ none)

same_part_both : (a b c : CoreLog) → IsSamePart a b → IsSamePart b c → IsSamePart a c
same_part_both a b c one other = record {
  logs = record { changes = λ d. other.logs.changes d ∙ one.logs.changes d; marks = λ d. other.logs.marks d ∙ one.logs.marks d };
  entries = other.entries ∙ one.entries;
}

-- logs that have the same twice have the same
pub same_both : (a b c : Logs) → AreSameChanges a b → AreSameChanges b c → AreSameChanges a c
same_both a b c one other = record {
  count = other.count ∙ one.count;
  parts = λ core. same_part_both (part_of a core) (part_of b core) (part_of c core) (one.parts core) (other.parts core);
  listed = λ directory there. other.listed directory (one.listed directory there);
}

-- nothing trimmed yet
pub trimmed_none : (logs : Logs) (below : ℕ) → AreTrimmedOf logs [] below logs
trimmed_none logs below = record {
  count = refl;
  parts =
      λ core. record {
        trimmed = λ directory is. absurd (true_not_false (sym is));
        others = λ directory is. record { changes = refl; mark = refl };
        entries = refl;
      };
  listed = λ directory is. refl;
  ended = λ directory is. absurd (true_not_false (sym is));
}

or_three : (a b c : Bool) → (a || (b || c)) ≡ ((a || b) || c)
or_three true b c = refl
or_three false b c = refl

-- a number in a list with one more is in the list or is that one
listed_more : (numbers : List ℕ) (last number : ℕ) → is_listed (numbers ++ last ∷ []) number ≡ (is_listed numbers number || nat_eq last number)
listed_more [] last number = or_false (nat_eq last number)
listed_more (one ∷ numbers) last number =
    ap (λ b. nat_eq one number || b) (listed_more numbers last number) ∙ or_three (nat_eq one number) (is_listed numbers number) (nat_eq last number)

-- a log that is trimmed again, or for the first time
trimmed_again : (a b c : CoreLog) (directory below : ℕ) → IsTrimmedLog a directory below b → IsTrimmedLog b directory below c → IsTrimmedLog a directory below c
trimmed_again a b c directory below (inl one) (inl other) = inl (
  (let x = one.0 in let y = other.0 in grind (arith, x, y)),
  other.1 ∙ ap (filter (is_from below)) one.1 ∙ twice_kept below below (changes_kept a directory)
      ∙ ap (λ n. filter (is_from n) (changes_kept a directory)) (max_same below),
)
  where
    max_same : (n : ℕ) → max n n ≡ n
    max_same n = grind arith
trimmed_again a b c directory below (inl one) (inr blank) = inl (blank.0 ∙ one.0, blank.1 ∙ sym blank.2 ∙ one.1)
trimmed_again a b c directory below (inr blank) (inl other) =
    inl (other.0 ∙ ap (λ n. max n below) blank.0, other.1 ∙ ap (filter (is_from below)) (blank.1 ∙ sym blank.2))
trimmed_again a b c directory below (inr blank) (inr other) = inr (other.0 ∙ blank.0, other.1, blank.2)

trimmed_then_same : (a b c : CoreLog) (directory below : ℕ) → IsTrimmedLog a directory below b → IsSameLog b directory c → IsTrimmedLog a directory below c
trimmed_then_same a b c directory below (inl one) same = inl (same.mark ∙ one.0, same.changes ∙ one.1)
trimmed_then_same a b c directory below (inr blank) same = inr (same.mark ∙ blank.0, same.changes ∙ blank.1, blank.2)

same_then_trimmed : (a b c : CoreLog) (directory below : ℕ) → IsSameLog a directory b → IsTrimmedLog b directory below c → IsTrimmedLog a directory below c
same_then_trimmed a b c directory below same (inl one) = inl (one.0 ∙ ap (λ n. max n below) same.mark, one.1 ∙ ap (filter (is_from below)) same.changes)
same_then_trimmed a b c directory below same (inr blank) = inr (blank.0 ∙ same.mark, blank.1, sym same.changes ∙ blank.2)

module _ (a b c : Logs) (numbers : List ℕ) (last below : ℕ) (one : AreTrimmedOf a numbers below b) (other : AreTrimmedOf b (last ∷ []) below c) where
  -- a number is listed with one more where it was or is that one
  abbrev both : ℕ → Bool
  both number = is_listed numbers number || nat_eq last number

  last_is : (number : ℕ) (own : Bool) → nat_eq last number ≡ own → is_listed (last ∷ []) number ≡ own
  last_is number own is = or_false (nat_eq last number) ∙ is

  trimmed_by : (core number : ℕ) (first own : Bool) → is_listed numbers number ≡ first → nat_eq last number ≡ own → (first || own) ≡ true
      → IsTrimmedLog (part_of a core) number below (part_of c core)
  trimmed_by core number true true in_list is some =
      trimmed_again (part_of a core) (part_of b core) (part_of c core) number below ((one.parts core).trimmed number in_list)
      ((other.parts core).trimmed number (last_is number true is))
  trimmed_by core number true false in_list is some =
      trimmed_then_same (part_of a core) (part_of b core) (part_of c core) number below ((one.parts core).trimmed number in_list)
      ((other.parts core).others number (last_is number false is))
  trimmed_by core number false true in_list is some =
      same_then_trimmed (part_of a core) (part_of b core) (part_of c core) number below ((one.parts core).others number in_list)
      ((other.parts core).trimmed number (last_is number true is))
  trimmed_by core number false false in_list is some = absurd (true_not_false (sym some))

  same_by : (core number : ℕ) (first own : Bool) → is_listed numbers number ≡ first → nat_eq last number ≡ own → (first || own) ≡ false
      → IsSameLog (part_of a core) number (part_of c core)
  same_by core number true own in_list is none = absurd (true_not_false none)
  same_by core number false true in_list is none = absurd (true_not_false none)
  same_by core number false false in_list is none =
      let x = (one.parts core).others number in_list in let y = (other.parts core).others number (last_is number false is) in
      record { changes = y.changes ∙ x.changes; mark = y.mark ∙ x.mark }

  listed_by : (number : ℕ) (first own : Bool) → is_listed numbers number ≡ first → nat_eq last number ≡ own → (first || own) ≡ false
      → contains nat_cmp c.directories number ≡ contains nat_cmp a.directories number
  listed_by number true own in_list is none = absurd (true_not_false none)
  listed_by number false true in_list is none = absurd (true_not_false none)
  listed_by number false false in_list is none = other.listed number (last_is number false is) ∙ one.listed number in_list

  ended_by : (number : ℕ) (first own : Bool) → is_listed numbers number ≡ first → nat_eq last number ≡ own → (first || own) ≡ true
      → contains nat_cmp c.directories number ≡ false
  ended_by number first true in_list is some = other.ended number (last_is number true is)
  ended_by number true false in_list is some = other.listed number (last_is number false is) ∙ one.ended number in_list
  ended_by number false false in_list is some = absurd (true_not_false (sym some))

  -- one more directory is trimmed
  pub trimmed_more : AreTrimmedOf a (numbers ++ last ∷ []) below c
  trimmed_more = record {
    count = other.count ∙ one.count;
    parts = λ core. record {
      trimmed = λ number is. trimmed_by core number (is_listed numbers number) (nat_eq last number) refl refl (sym (listed_more numbers last number) ∙ is);
      others = λ number is. same_by core number (is_listed numbers number) (nat_eq last number) refl refl (sym (listed_more numbers last number) ∙ is);
      entries = (other.parts core).entries ∙ (one.parts core).entries;
    };
    listed = λ number is. listed_by number (is_listed numbers number) (nat_eq last number) refl refl (sym (listed_more numbers last number) ∙ is);
    ended = λ number is. ended_by number (is_listed numbers number) (nat_eq last number) refl refl (sym (listed_more numbers last number) ∙ is);
  }
