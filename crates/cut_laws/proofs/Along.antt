-- A legal history as a run.
use Rattle.std.proofs.Common.{◌≡◌, ℕ, zero, suc, ◌+◌, ◌≤◌, true, false, List, [], ◌∷◌, ◌++◌, length, take, Option, Some, None, IsSome, option_map, inl, inr, refl, sym, ap, subst, ◌∙◌, arith, append_assoc}
use Rattle.std.specs.FinMap.{get}
use Rattle.sfs_base.specs.declared.numbers.Kind.{Kind}
use Rattle.tree_laws.specs.declared.history.Entry.{Entry}
use Rattle.tree_laws.specs.declared.call.Call.{Call}
use Rattle.tree_laws.specs.declared.call.Call.TheVariants as call
use Rattle.tree_laws.specs.Tree.{TreeState, row_of, is_alive, is_directory}
use Rattle.tree_laws.specs.Effect.{Effect, Stays, Adds, Removes, Moves, tree_with}
use Rattle.tree_laws.specs.Verdict.{verdict, done, or_else, link_fault}
use Rattle.tree_laws.specs.History.{tree_after, tree_after_entry, IsLegalFrom, IsLegal}
use Rattle.tree_laws.specs.Changes.{RowChange, changes_by, changes_of}
use Rattle.tree_laws.specs.Sound.{IsSound}
use Rattle.tree_laws.specs.Fits.{Fits}
use Rattle.tree_laws.specs.Laws.{IsSoundTree}
use Rattle.tree_laws.specs.Footprints.{own_effect}
use Rattle.tree_laws.proofs.SoundTrees.{calls_keep_sound, calls_fit}
use Rattle.tree_laws.proofs.Fitting.{not_so}
use Rattle.tree_laws.proofs.Holders.{directory_stays}
use Rattle.tree_laws.proofs.OwnEffects as own
use Rattle.cut_laws.specs.Rules.{IsOneOf, Birth, births_by, births_of}
use Rattle.cut_laws.proofs.Basics.{in_either, in_left, in_right}
use Rattle.sfs_base.proofs.BasicNumbers.{suc_plus, zero_plus, plus_zero}
use Rattle.sfs_base.proofs.BasicTruth.{not_false}
use Rattle.cut_laws.proofs.Nodes.{node_stays}
use Rattle.cut_laws.proofs.Own.{stamp_of}
use Rattle.cut_laws.proofs.Runs.{Run, Made}

-- the tree after so many entries, and what the next one does
abbrev pub tree_at : TreeState → List Entry → ℕ → TreeState
tree_at first history zero = first
tree_at first [] (suc t) = first
tree_at first (entry ∷ history) (suc t) = tree_at (tree_after_entry first entry) history t

abbrev pub core_at : TreeState → List Entry → ℕ → ℕ
core_at first [] t = 0
core_at first (entry ∷ history) zero = entry.core.0
core_at first (entry ∷ history) (suc t) = core_at (tree_after_entry first entry) history t

abbrev pub effect_at : TreeState → List Entry → ℕ → Effect
effect_at first [] t = Stays
effect_at first (entry ∷ history) zero = (verdict first entry.core.0 entry.call).effect
effect_at first (entry ∷ history) (suc t) = effect_at (tree_after_entry first entry) history t

abbrev pub makes_at : TreeState → List Entry → ℕ → Option Kind
makes_at first [] t = None
makes_at first (entry ∷ history) zero = (verdict first entry.core.0 entry.call).makes
makes_at first (entry ∷ history) (suc t) = makes_at (tree_after_entry first entry) history t

pub tree_at-after : (first : TreeState) (history : List Entry) (t : ℕ) → tree_at first history t ≡ tree_after first (take t history)
tree_at-after first [] zero = refl
tree_at-after first (entry ∷ history) zero = refl
tree_at-after first [] (suc t) = refl
tree_at-after first (entry ∷ history) (suc t) = tree_at-after (tree_after_entry first entry) history t

pub tree_at-first : (first : TreeState) (history : List Entry) → tree_at first history 0 ≡ first
tree_at-first first [] = refl
tree_at-first first (entry ∷ history) = refl

-- so it has the first tree's nodes
pub node_first : (first : TreeState) (history : List Entry) (x : ℕ) → IsSome (get first.nodes x) → IsSome (get (tree_at first history 0).nodes x)
node_first first history x some = rw (tree_at-first first history) some

pub tree_at-end : (first : TreeState) (history : List Entry) → tree_at first history (length history) ≡ tree_after first history
tree_at-end first [] = refl
tree_at-end first (entry ∷ history) = tree_at-end (tree_after_entry first entry) history

pub sound_at : (first : TreeState) (history : List Entry) (stamp t : ℕ) → IsSoundTree first → IsLegalFrom first stamp history
    → IsSound (tree_at first history t)
sound_at first history stamp zero is legal = is.sound
sound_at first [] stamp (suc t) is legal = is.sound
sound_at first (entry ∷ history) stamp (suc t) is legal =
    sound_at (tree_after_entry first entry) history (suc stamp) t (calls_keep_sound first entry.core.0 entry.call is legal.0.core) legal.1

pub fits_at : (first : TreeState) (history : List Entry) (stamp t : ℕ) → IsSoundTree first → IsLegalFrom first stamp history
    → Fits (tree_at first history t) (core_at first history t) (effect_at first history t) (makes_at first history t)
fits_at first [] stamp t is legal = tt
fits_at first (entry ∷ history) stamp zero is legal = calls_fit first entry.core.0 entry.call is legal.0.core
fits_at first (entry ∷ history) stamp (suc t) is legal =
    fits_at (tree_after_entry first entry) history (suc stamp) t (calls_keep_sound first entry.core.0 entry.call is legal.0.core) legal.1

pub next_at : (first : TreeState) (history : List Entry) (t : ℕ)
    → tree_at first history (suc t) ≡ tree_with (tree_at first history t) (core_at first history t) (effect_at first history t) (makes_at first history t)
next_at first [] zero = refl
next_at first [] (suc t) = refl
next_at first (entry ∷ []) zero = refl
next_at first (entry ∷ (other ∷ history)) zero = refl
next_at first (entry ∷ history) (suc t) = next_at (tree_after_entry first entry) history t

-- what adds a row without making a node is a link, whose file is alive and no directory
abbrev LinksFile : TreeState → Effect → Option Kind → Type 0
LinksFile tree effect makes = (d : ℕ) (n : List ℕ) (c : ℕ) → effect ≡ Adds d n c → makes ≡ None → (is_directory tree c ≡ false) × (is_alive tree c ≡ true)

stays_file : (tree : TreeState) (makes : Option Kind) → LinksFile tree Stays makes
stays_file tree makes d n c e mk = cc

link_file : (tree : TreeState) (file directory : ℕ) (name : List ℕ)
    → LinksFile tree (or_else (link_fault tree file directory name) (done (Adds directory name file))).effect
    (or_else (link_fault tree file directory name) (done (Adds directory name file))).makes
link_file tree file directory name =
    elim (link_fault tree file directory name) as (λ o. link_fault tree file directory name ≡ o
    → LinksFile tree (or_else o (done (Adds directory name file))).effect (or_else o (done (Adds directory name file))).makes) [
      | Some code ↦ λ e d n c same mk. cc
      | None ↦ λ e d n c same mk.
          let one = not_so _ _ _ e in
          subst (λ (x : ℕ). (is_directory tree x ≡ false) × (is_alive tree x ≡ true)) (child d n c same)
          ((not_so _ _ _ one.1).0, not_false (is_alive tree file) one.0)
    ] refl
  where
    child : (d : ℕ) (n : List ℕ) (c : ℕ) → Adds directory name file ≡ Adds d n c → file ≡ c
    child d n c e = cc

no_child : {d : ℕ} {n : List ℕ} {c : ℕ} (own : ℕ → Effect) (o : Option ℕ) → ((x : ℕ) → own x ≡ Adds d n c → ⊥) → option_map own o ≡ Some (Adds d n c) → ⊥
no_child own None h e = cc
no_child own (Some x) h e = h x (some_is e)
  where
    some_is : {a b : Effect} → Some a ≡ Some b → a ≡ b
    some_is e = cc

module _ (tree : TreeState) (core : ℕ) where
  -- a call that is no creation and no link adds no row
  abbrev AddsNone : Call → Type 0
  AddsNone c = (d : ℕ) (n : List ℕ) (x : ℕ) → own_effect tree core c ≡ Some (Adds d n x) → ⊥

  by_own : (c : Call) → AddsNone c → LinksFile tree (verdict tree core c).effect (verdict tree core c).makes
  by_own c none d n x e mk = elim (own.does_its_own tree core c) [
    | inl quiet ↦ absurd (differ (sym quiet.effect ∙ e))
    | inr this ↦ absurd (none d n x (this.effect ∙ ap Some e))
  ]
    where
      differ : Stays ≡ Adds d n x → ⊥
      differ q = cc

  files : (c : Call) → LinksFile tree (verdict tree core c).effect (verdict tree core c).makes
  files (call.Look directory name) = by_own (call.Look directory name) (λ d n x e. cc)
  files (call.Make directory name kind) = λ d n x e mk. elim (own.does_its_own tree core (call.Make directory name kind)) [
    | inl quiet ↦ absurd (differ d n x (sym quiet.effect ∙ e))
    | inr this ↦ absurd (made (this.makes ∙ mk))
  ]
    where
      differ : (d : ℕ) (n : List ℕ) (x : ℕ) → Stays ≡ Adds d n x → ⊥
      differ d n x q = cc

      made : Some kind ≡ None → ⊥
      made q = cc
  files (call.Link file directory name) = link_file tree file.0 directory.0 name
  files (call.Unlink directory name) =
      by_own (call.Unlink directory name) (λ d n x e. no_child (Removes directory.0 name) (row_of tree directory.0 name) (λ y q. cc) e)
  files (call.Rmdir directory name) =
      by_own (call.Rmdir directory name) (λ d n x e. no_child (Removes directory.0 name) (row_of tree directory.0 name) (λ y q. cc) e)
  files (call.Rename directory name to_directory to_name) =
      by_own (call.Rename directory name to_directory to_name)
      (λ d n x e. no_child (Moves directory.0 name to_directory.0 to_name) (row_of tree directory.0 name) (λ y q. cc) e)
  files (call.Write file at bytes) = by_own (call.Write file at bytes) (λ d n x e. cc)
  files (call.Read file at count) = by_own (call.Read file at count) (λ d n x e. cc)
  files (call.Trunc file size) = by_own (call.Trunc file size) (λ d n x e. cc)
  files (call.Stat node) = by_own (call.Stat node) (λ d n x e. cc)
  files (call.List directory) = by_own (call.List directory) (λ d n x e. cc)
  files (call.Fsync node) = by_own (call.Fsync node) (λ d n x e. cc)

pub files_at : (first : TreeState) (history : List Entry) (t : ℕ) → LinksFile (tree_at first history t) (effect_at first history t) (makes_at first history t)
files_at first [] t = stays_file (tree_at first [] t) None
files_at first (entry ∷ history) zero = files first entry.core.0 entry.call
files_at first (entry ∷ history) (suc t) = files_at (tree_after_entry first entry) history t

-- the run of a legal history
abbrev pub run_of : (first : TreeState) (history : List Entry) → IsSoundTree first → IsLegal first history → Run
run_of first history is legal = record {
  tree = tree_at first history;
  core = core_at first history;
  effect = effect_at first history;
  makes = makes_at first history;
  sound = λ t. sound_at first history 0 t is legal;
  fits = λ t. fits_at first history 0 t is legal;
  next = next_at first history;
  files = λ t d n c adds makes. (files_at first history t d n c adds makes).0;
}

-- the changes at a stamp, and the births
abbrev pub changes_in : TreeState → List Entry → ℕ → ℕ → List RowChange
changes_in first history stamp t = changes_by (tree_at first history t) (stamp + t) (effect_at first history t)

stamped : (tree : TreeState) (effect : Effect) (a b : ℕ) (x : RowChange) → a ≡ b → IsOneOf (changes_by tree a effect) x → IsOneOf (changes_by tree b effect) x
stamped tree effect a b x e one = rw e at one

change_from : (first : TreeState) (history : List Entry) (stamp t : ℕ) (x : RowChange) → IsLegalFrom first stamp history
    → IsOneOf (changes_by (tree_at first history t) (stamp + t) (effect_at first history t)) x → IsOneOf (changes_of first history) x
change_from first [] stamp t x legal one = absurd one
change_from first (entry ∷ history) stamp zero x legal one =
    in_left _ _ x (stamped first (verdict first entry.core.0 entry.call).effect (stamp + 0) entry.stamp.0 x (plus_zero stamp ∙ sym legal.0.stamped) one)
change_from first (entry ∷ history) stamp (suc t) x legal one =
    in_right _ _ x
    (change_from (tree_after_entry first entry) history (suc stamp) t x legal.1
    (stamped (tree_at (tree_after_entry first entry) history t) (effect_at (tree_after_entry first entry) history t) (stamp + suc t) (suc stamp + t) x
    (sym (suc_plus stamp t)) one))

-- a change of a history stands at one of its stamps
change_at : (first : TreeState) (history : List Entry) (stamp : ℕ) (x : RowChange) → IsLegalFrom first stamp history → IsOneOf (changes_of first history) x
    → (t : ℕ) × IsOneOf (changes_by (tree_at first history t) (stamp + t) (effect_at first history t)) x
change_at first [] stamp x legal one = absurd one
change_at first (entry ∷ history) stamp x legal one = elim (in_either _ _ x one) [
  | inl here ↦ (0, stamped first (verdict first entry.core.0 entry.call).effect entry.stamp.0 (stamp + 0) x (legal.0.stamped ∙ sym (plus_zero stamp)) here)
  | inr rest ↦ let found = change_at (tree_after_entry first entry) history (suc stamp) x legal.1 rest in (
    suc found.0,
    stamped (tree_at (tree_after_entry first entry) history found.0) (effect_at (tree_after_entry first entry) history found.0) (suc stamp + found.0)
        (stamp + suc found.0) x (suc_plus stamp found.0) found.1,
  )
]

birth_from : (first : TreeState) (history : List Entry) (stamp t : ℕ) (birth : Birth) → IsLegalFrom first stamp history
    → IsOneOf (births_by (stamp + t) (effect_at first history t) (makes_at first history t)) birth → IsOneOf (births_of first history) birth
birth_from first [] stamp t birth legal one = absurd one
birth_from first (entry ∷ history) stamp zero birth legal one = in_left _ _ birth (rw (plus_zero stamp ∙ sym legal.0.stamped) at one)
birth_from first (entry ∷ history) stamp (suc t) birth legal one =
    in_right _ _ birth (birth_from (tree_after_entry first entry) history (suc stamp) t birth legal.1 (rw (suc_plus stamp t) one))

-- each change at a stamp is one of the history
pub change_in : (first : TreeState) (history : List Entry) (t : ℕ) (x : RowChange) → IsLegal first history
    → IsOneOf (changes_by (tree_at first history t) t (effect_at first history t)) x → IsOneOf (changes_of first history) x
change_in first history t x legal one =
    change_from first history 0 t x legal (stamped (tree_at first history t) (effect_at first history t) t (0 + t) x (sym (zero_plus t)) one)

-- each change of a history is one at its stamp
pub change_of : (first : TreeState) (history : List Entry) (x : RowChange) → IsLegal first history → IsOneOf (changes_of first history) x
    → IsOneOf (changes_by (tree_at first history x.stamp) x.stamp (effect_at first history x.stamp)) x
change_of first history x legal one =
    let found = change_at first history 0 x legal one in
    let here : IsOneOf (changes_by (tree_at first history found.0) found.0 (effect_at first history found.0)) x =
    stamped (tree_at first history found.0) (effect_at first history found.0) (0 + found.0) found.0 x (zero_plus found.0) found.1 in
    subst (λ (t : ℕ). IsOneOf (changes_by (tree_at first history t) t (effect_at first history t)) x)
    (sym (stamp_of (tree_at first history found.0) found.0 (effect_at first history found.0) x here)) here

pub made_at : (first : TreeState) (history : List Entry) (is : IsSoundTree first) (legal : IsLegal first history) (x : RowChange)
    → IsOneOf (changes_of first history) x → Made (run_of first history is legal) x.stamp x
made_at first history is legal x one = change_of first history x legal one

-- each birth at a stamp is one of the history
pub birth_in : (first : TreeState) (history : List Entry) (t : ℕ) (birth : Birth) → IsLegal first history
    → IsOneOf (births_by t (effect_at first history t) (makes_at first history t)) birth → IsOneOf (births_of first history) birth
birth_in first history t birth legal one = birth_from first history 0 t birth legal (rw (zero_plus t) one)

-- the changes of so many entries, one more entry's at a time
abbrev pub changes_till : TreeState → List Entry → ℕ → List RowChange
changes_till first history zero = []
changes_till first [] (suc t) = []
changes_till first (entry ∷ history) (suc t) =
    changes_by first entry.stamp.0 (verdict first entry.core.0 entry.call).effect ++ changes_till (tree_after_entry first entry) history t

pub changes_till-end : (first : TreeState) (history : List Entry) → changes_till first history (length history) ≡ changes_of first history
changes_till-end first [] = refl
changes_till-end first (entry ∷ history) =
    ap (λ l. changes_by first entry.stamp.0 (verdict first entry.core.0 entry.call).effect ++ l) (changes_till-end (tree_after_entry first entry) history)

-- past the end they are all changes
pub changes_till-past : (first : TreeState) (history : List Entry) (t : ℕ) → length history ≤ t → changes_till first history t ≡ changes_of first history
changes_till-past first [] zero le = refl
changes_till-past first [] (suc t) le = refl
changes_till-past first (entry ∷ history) zero le = absurd (omega arith)
changes_till-past first (entry ∷ history) (suc t) le =
    ap (λ l. changes_by first entry.stamp.0 (verdict first entry.core.0 entry.call).effect ++ l)
    (changes_till-past (tree_after_entry first entry) history t (omega arith))

till_from : (first : TreeState) (history : List Entry) (stamp t : ℕ) → IsLegalFrom first stamp history
    → changes_till first history (suc t) ≡ changes_till first history t ++ changes_by (tree_at first history t) (stamp + t) (effect_at first history t)
till_from first [] stamp zero legal = refl
till_from first [] stamp (suc t) legal = refl
till_from first (entry ∷ history) stamp zero legal =
    ap (λ l. changes_by first entry.stamp.0 (verdict first entry.core.0 entry.call).effect ++ l) (nothing history)
    ∙ append_none (changes_by first entry.stamp.0 (verdict first entry.core.0 entry.call).effect)
    ∙ ap (λ s. changes_by first s (verdict first entry.core.0 entry.call).effect) (legal.0.stamped ∙ sym (plus_zero stamp))
  where
    nothing : (h : List Entry) → changes_till (tree_after_entry first entry) h 0 ≡ []
    nothing [] = refl
    nothing (e ∷ h) = refl

    append_none : {X : Type 0} (xs : List X) → xs ++ [] ≡ xs
    append_none [] = refl
    append_none (x ∷ xs) = ap (λ l. x ∷ l) (append_none xs)
till_from first (entry ∷ history) stamp (suc t) legal =
    ap (λ l. changes_by first entry.stamp.0 (verdict first entry.core.0 entry.call).effect ++ l)
    (till_from (tree_after_entry first entry) history (suc stamp) t legal.1)
    ∙ sym
    (append_assoc (changes_by first entry.stamp.0 (verdict first entry.core.0 entry.call).effect) (changes_till (tree_after_entry first entry) history t) _)
    ∙ ap (λ s. changes_till first (entry ∷ history) (suc t)
    ++ changes_by (tree_at (tree_after_entry first entry) history t) s (effect_at (tree_after_entry first entry) history t))
    (suc_plus stamp t)

pub changes_till-more : (first : TreeState) (history : List Entry) (t : ℕ) → IsLegal first history
    → changes_till first history (suc t) ≡ changes_till first history t ++ changes_by (tree_at first history t) t (effect_at first history t)
changes_till-more first history t legal =
    till_from first history 0 t legal
    ∙ ap (λ s. changes_till first history t ++ changes_by (tree_at first history t) s (effect_at first history t)) (zero_plus t)

-- every tree of a run has its nodes in the last one, with their kinds
abbrev pub HasItsNodes : TreeState → TreeState → Type 0
HasItsNodes tree last = (x : ℕ) → IsSome (get tree.nodes x) → IsSome (get last.nodes x) × (is_directory last x ≡ is_directory tree x)

pub first_nodes : (first : TreeState) (history : List Entry) (stamp : ℕ) → IsSoundTree first → IsLegalFrom first stamp history
    → HasItsNodes first (tree_after first history)
first_nodes first [] stamp is legal x some = (some, refl)
first_nodes first (entry ∷ history) stamp is legal x some =
    let fits = calls_fit first entry.core.0 entry.call is legal.0.core in
    let v = verdict first entry.core.0 entry.call in
    let rest =
    first_nodes (tree_after_entry first entry) history (suc stamp) (calls_keep_sound first entry.core.0 entry.call is legal.0.core) legal.1 x
    (node_stays first entry.core.0 v.effect v.makes x fits some) in
    (rest.0, rest.1 ∙ directory_stays first entry.core.0 v.effect v.makes x fits some)

nodes_from : (first : TreeState) (history : List Entry) (stamp t : ℕ) → IsSoundTree first → IsLegalFrom first stamp history
    → HasItsNodes (tree_at first history t) (tree_after first history)
nodes_from first history stamp zero is legal x some = first_nodes first history stamp is legal x some
nodes_from first [] stamp (suc t) is legal x some = (some, refl)
nodes_from first (entry ∷ history) stamp (suc t) is legal x some =
    nodes_from (tree_after_entry first entry) history (suc stamp) t (calls_keep_sound first entry.core.0 entry.call is legal.0.core) legal.1 x some

pub nodes_at : (first : TreeState) (history : List Entry) (t : ℕ) → IsSoundTree first → IsLegal first history
    → HasItsNodes (tree_at first history t) (tree_after first history)
nodes_at first history t is legal = nodes_from first history 0 t is legal
