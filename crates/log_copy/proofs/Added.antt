-- A directory's changes are added to a copy that has none of them.
use Rattle.std.specs.Prelude.{All, if◌then◌else◌, nat_eq}
use Rattle.std.proofs.Common.{◌≡◌, ◌≤◌, ◌∷◌, ◌++◌, ◌∙◌, ℕ, Bool, true, false, List, [], length, filter, slice_get, Option, Some, None, is_some, refl, ap, sym, subst, arith, eqb-true, append-nil, eq-eqb}
use Rattle.sfs_base.proofs.BasicNumbers.{turned}
use Rattle.tree_laws.specs.Logged.{is_logged_in}
use Rattle.tree_laws.specs.declared.changes.Change.{Change}
use Rattle.cut_laws.proofs.Basics.{filter_all, filter_none}
use Rattle.mem_cells.specs.Part.{CoreLog, changes_kept, IsSamePart, IsAddedTo}
use Rattle.log_copy.specs.Steps.{GetsDirectory}
use Rattle.log_copy.proofs.Counted.{of_all}

-- changes of one directory: all are of it, and none of another one
module _ (directory : ℕ) (changes : List Change) (own : All (λ (change : Change). change.dir.0 ≡ directory) changes) where
  pub all_logged : filter (is_logged_in directory) changes ≡ changes
  all_logged = filter_all (is_logged_in directory) changes (λ change one. eq-eqb change.dir.0 directory (of_all (λ (c : Change). c.dir.0 ≡ directory) changes change own one))

  pub none_logged : (other : ℕ) → nat_eq other directory ≡ false → filter (is_logged_in other) changes ≡ []
  none_logged other apart =
      filter_none (is_logged_in other) changes (λ change one.
      ap (λ n. nat_eq n other) (of_all (λ (c : Change). c.dir.0 ≡ directory) changes change own one) ∙ turned directory other ∙ apart)

  -- room for all of them in their directory is room for each
  pub room_enough : (room : ℕ → ℕ) → length changes ≤ room directory → (other : ℕ) → length (filter (is_logged_in other) changes) ≤ room other
  room_enough room enough other = by (nat_eq other directory) refl
    where
      by : (b : Bool) → nat_eq other directory ≡ b → length (filter (is_logged_in other) changes) ≤ room other
      by true same = subst (λ n. length (filter (is_logged_in n) changes) ≤ room n) (sym (eqb-true other directory same))
          (let all = ap length all_logged in omega (arith, all, enough))
      by false apart = let none = ap length (none_logged other apart) in omega (arith, none)

-- what is not some is none
pub is_none_of : {X : Type 0} (o : Option X) → is_some o ≡ false → o ≡ None
is_none_of None is = refl
is_none_of (Some x) is = absurd (cc (is))

-- a log without changes of a directory: the copy has all of it
pub gets_none : (log copy : CoreLog) (directory : ℕ) → changes_kept copy directory ≡ [] → slice_get (changes_kept log directory) 0 ≡ None
    → GetsDirectory log directory copy copy
gets_none log copy directory none no_first = record {
  changes = λ other. by other (nat_eq other directory) refl;
  entries = omega arith;
}
  where
    empty : (l : List Change) → slice_get l 0 ≡ None → l ≡ []
    empty [] is = refl
    empty (change ∷ l) is = absurd (cc (is))

    by : (other : ℕ) (b : Bool) → nat_eq other directory ≡ b
        → changes_kept copy other ≡ (if b then changes_kept log other else changes_kept copy other)
    by other false apart = refl
    by other true same =
        subst (λ n. changes_kept copy n ≡ changes_kept log n) (sym (eqb-true other directory same)) (none ∙ sym (empty (changes_kept log directory) no_first))

-- else they are added
pub gets_added : (log copy roomy after : CoreLog) (directory : ℕ) (changes : List Change) → All (λ (change : Change). change.dir.0 ≡ directory) changes
    → changes ≡ changes_kept log directory → changes_kept copy directory ≡ [] → IsSamePart copy roomy → IsAddedTo roomy changes after
    → GetsDirectory log directory copy after
gets_added log copy roomy after directory changes own whole none same added = record {
  changes = λ other. added.changes other ∙ ap (λ l. l ++ filter (is_logged_in other) changes) (same.logs.changes other) ∙ by other (nat_eq other directory) refl;
  entries = let one = added.entries in let as_many = same.entries in omega (arith, one, as_many);
}
  where
    by : (other : ℕ) (b : Bool) → nat_eq other directory ≡ b
        → (changes_kept copy other ++ filter (is_logged_in other) changes) ≡ (if b then changes_kept log other else changes_kept copy other)
    by other false apart = ap (λ l. changes_kept copy other ++ l) (none_logged directory changes own other apart) ∙ append-nil (changes_kept copy other)
    by other true is =
        subst (λ n. (changes_kept copy n ++ filter (is_logged_in n) changes) ≡ changes_kept log n) (sym (eqb-true other directory is))
        (ap (λ l. l ++ filter (is_logged_in directory) changes) none ∙ all_logged directory changes own ∙ whole)
