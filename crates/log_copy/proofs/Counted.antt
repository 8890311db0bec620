-- Where a copy has as many changes that name a node as its log keeps, none of a directory that is left out names it.
use Rattle.std.specs.Prelude.{All, if◌then◌else◌}
use Rattle.std.specs.List.Sorted.{IsStrictlyIncreasing}
use Rattle.std.proofs.Common.{◌≡◌, ◌≤◌, ◌+◌, ◌∷◌, ◌++◌, ◌∙◌, ◌⊎◌, ℕ, zero, suc, Bool, true, false, List, [], map, length, take, get_or, slice_get, Some, None, refl, ap, sym, subst, arith, inl, inr}
use Rattle.std.proofs.lemmas.List.{take_more, take_all}
use Rattle.std.proofs.lemmas.List.Elements.{All-append, All-cons}
use Rattle.std.proofs.lemmas.List.Sums.{sum_by-cons}
use Rattle.std.proofs.lemmas.Option.{slice_get_within, get_or_from_slice_get}
use Rattle.sfs_base.specs.declared.numbers.NodeId.{NodeId}
use Rattle.sfs_base.proofs.BasicOptions.{none_some}
use Rattle.tree_laws.specs.NameRow.{node_number}
use Rattle.tree_laws.specs.declared.changes.Change.{Change}
use Rattle.cut_laws.specs.Rules.{IsOneOf}
use Rattle.cut_laws.proofs.Listed.{from_map, listed_one}
use Rattle.mem_cells.specs.Part.{CoreLog, changes_kept}
use Rattle.mem_cells.specs.Named.{namings_of, namings_within, IsNamedOutside}
use Rattle.mem_cells.proofs.Named.{outside_namings_tell}
use Rattle.log_copy.specs.Copies.{is_one_of, KeepsFor}
use Rattle.log_copy.specs.Steps.{HasDirectories, IsCounted}

-- one of a list has a place there
place_of : {X : Type 0} (xs : List X) (x : X) → IsOneOf xs x → (place : ℕ) × (slice_get xs place ≡ Some x)
place_of [] x one = absurd one
place_of (first ∷ xs) x one = elim one [
  | inl same ↦ (0, ap Some same)
  | inr later ↦ let found = place_of xs x later in (suc found.0, found.1)
]

-- what holds of all of a list holds of each of it
pub of_all : {X : Type 0} (P : X → Type 0) (xs : List X) (x : X) → All P xs → IsOneOf xs x → P x
of_all P [] x all one = absurd one
of_all P (first ∷ xs) x all one = elim one [
  | inl same ↦ subst P same (all 0 first (omega arith))
  | inr later ↦ of_all P xs x (λ i d less. all (suc i) d (omega (arith, less))) later
]

-- what holds of some and of one more holds of all of these
pub one_more : {X : Type 0} (P : X → Type 0) (xs : List X) (x : X) → All P xs → P x → All P (xs ++ x ∷ [])
one_more P xs x all one = All-append P xs (x ∷ []) all (All-cons P x [] one (λ i d less. absurd (omega (arith, less))))

-- the same of those at a list's first places, by what is read there
pub all_read : {X : Type 0} (P : X → Type 0) (xs : List X) (k : ℕ) (x : X) → All P (take k xs) → slice_get xs k ≡ Some x → P x → All P (take (k + 1) xs)
all_read P xs k x all is one =
    subst (All P) (sym (take_more xs k x (slice_get_within xs k x is)))
    (one_more P (take k xs) (get_or xs k x) all (subst P (sym (get_or_from_slice_get xs k x x is)) one))

-- and of all where nothing is read
pub all_passed : {X : Type 0} (P : X → Type 0) (xs : List X) (k : ℕ) → All P (take k xs) → slice_get xs k ≡ None → All P xs
all_passed P xs k all none = subst (All P) (take_all k xs (past xs k none)) all
  where
    past : {X : Type 0} (xs : List X) (k : ℕ) → slice_get xs k ≡ None → length xs ≤ k
    past [] k none = omega arith
    past (x ∷ xs) zero none = absurd (cc (none))
    past (x ∷ xs) (suc k) none = let le = past xs k none in omega (arith, le)

-- logs that keep the same of each of some directories have as many changes there that name a node
same_within : (log copy : CoreLog) (node : ℕ) (directories : List ℕ)
    → ((directory : ℕ) → IsOneOf directories directory → changes_kept copy directory ≡ changes_kept log directory)
    → namings_within copy directories node ≡ namings_within log directories node
same_within log copy node [] same = refl
same_within log copy node (directory ∷ directories) same =
    let here = ap (λ (l : List Change). namings_of l node) (same directory (inl refl)) in
    let rest = same_within log copy node directories (λ other one. same other (inr one)) in
    let one = sum_by-cons (λ d. namings_of (changes_kept copy d) node) directory directories in
    let other = sum_by-cons (λ d. namings_of (changes_kept log d) node) directory directories in omega (arith, here, rest, one, other)

-- of a directory that is none of those which a copy has it has nothing
pub none_yet : (log : CoreLog) (directories : List NodeId) (copy : CoreLog) → HasDirectories log directories copy → (directory : ℕ)
    → is_one_of directories directory ≡ false → changes_kept copy directory ≡ []
none_yet log directories copy has directory is = has.changes directory ∙ ap (λ b. if b then changes_kept log directory else []) is

module _ (log copy : CoreLog) (nodes : List NodeId) (up : IsStrictlyIncreasing (map node_number nodes)) (has : HasDirectories log nodes copy) where
  -- of each of the nodes the copy has all
  pub all_own : (directory : ℕ) → is_one_of nodes directory ≡ true → changes_kept copy directory ≡ changes_kept log directory
  all_own directory is = has.changes directory ∙ ap (λ b. if b then changes_kept log directory else []) is

  pub none_other : (directory : ℕ) → is_one_of nodes directory ≡ false → changes_kept copy directory ≡ []
  none_other directory is = none_yet log nodes copy has directory is

  pub all_or_none : (directory : ℕ) → (changes_kept copy directory ≡ changes_kept log directory) ⊎ (changes_kept copy directory ≡ [])
  all_or_none directory = by (is_one_of nodes directory) refl
    where
      by : (b : Bool) → is_one_of nodes directory ≡ b → (changes_kept copy directory ≡ changes_kept log directory) ⊎ (changes_kept copy directory ≡ [])
      by true is = inl (all_own directory is)
      by false is = inr (none_other directory is)

  -- the copy names no node in other directories
  none_outside : (node : ℕ) → IsNamedOutside copy (map node_number nodes) node → ⊥
  none_outside node outside =
      none_some (ap (λ (l : List Change). slice_get l outside.place) (sym (none_other outside.directory outside.is_outside)) ∙ outside.is_kept)

  -- a directory that is left out names none that is counted
  named_inside : (node : NodeId) → IsCounted log copy node → IsNamedOutside log (map node_number nodes) node.0 → ⊥
  named_inside node counted outside =
      let directories = map node_number nodes in
      let less = (outside_namings_tell log directories node.0 counted.log_ascends up).1 outside in
      let same = same_within log copy node.0 directories (λ directory one. all_own directory ((listed_one directories directory).1 one)) in
      let few = counted.no_more in
      none_outside node.0 ((outside_namings_tell copy directories node.0 counted.copy_ascends up).0 (omega (arith, less, same, few)))

  pub counted_enough : All (IsCounted log copy) nodes → KeepsFor (is_one_of nodes) log copy
  counted_enough counted = record {
    each = all_or_none;
    own = all_own;
    naming = λ directory change one child. by directory change one child (is_one_of nodes directory) refl;
  }
    where
      by : (directory : ℕ) (change : Change) → IsOneOf (changes_kept log directory) change → is_one_of nodes change.child.0 ≡ true
          → (b : Bool) → is_one_of nodes directory ≡ b → changes_kept copy directory ≡ changes_kept log directory
      by directory change one child true own = all_own directory own
      by directory change one child false other =
          let node = from_map node_number nodes change.child.0 ((listed_one (map node_number nodes) change.child.0).0 child) in
          let at = place_of (changes_kept log directory) change one in
          absurd (named_inside node.0 (of_all (IsCounted log copy) nodes node.0 counted node.1) (record {
            directory = directory;
            is_outside = other;
            place = at.0;
            change = change;
            is_kept = at.1;
            child = sym node.2;
          }))
