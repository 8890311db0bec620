-- A run of effects, what its trees keep, and the rules of a cut as they speak of it.
use Rattle.std.proofs.Common.{◌≡◌, ◌≢◌, ℕ, suc, ◌<◌, ◌≤◌, Bool, true, false, List, ◌∷◌, Option, Some, None, nat_lt}
use Rattle.std.specs.Prelude.{filter, fold}
use Rattle.std.specs.FinMap.{FinMap}
use Rattle.sfs_base.specs.declared.numbers.Kind.{Kind}
use Rattle.tree_laws.specs.Order.{key_cmp}
use Rattle.tree_laws.specs.Tree.{TreeState, row_of, is_directory}
use Rattle.tree_laws.specs.Effect.{Effect, Adds, tree_with}
use Rattle.tree_laws.specs.Changes.{RowChange, changes_by}
use Rattle.tree_laws.specs.Sound.{Above, IsSound}
use Rattle.tree_laws.specs.Fits.{Fits}
use Rattle.cut_laws.specs.Cut.{with_own}
use Rattle.cut_laws.specs.Rules.{IsOneOf}
use Rattle.cut_laws.proofs.Placed.{placed}

-- Sound trees, each made of the one before by an effect that fits; what comes without being made is no directory.
pub record Run : Type 0 where
  pub tree : ℕ → TreeState
  pub core : ℕ → ℕ
  pub effect : ℕ → Effect
  pub makes : ℕ → Option Kind
  pub sound : (t : ℕ) → IsSound (tree t)
  pub fits : (t : ℕ) → Fits (tree t) (core t) (effect t) (makes t)
  pub next : (t : ℕ) → tree (suc t) ≡ tree_with (tree t) (core t) (effect t) (makes t)
  pub files : (t d : ℕ) (n : List ℕ) (c : ℕ) → effect t ≡ Adds d n c → makes t ≡ None → is_directory (tree t) c ≡ false

-- the changes at a stamp
abbrev pub changes_at : Run → ℕ → List RowChange
changes_at r t = changes_by (r.tree t) t (r.effect t)

abbrev pub Made : Run → ℕ → RowChange → Type 0
Made r t x = IsOneOf (changes_at r t) x

-- the last stamp below this one at which a node is placed
pub record IsLast (r : Run) (node t s : ℕ) : Type 0 where
  pub below : s < t
  pub places : placed (r.effect s) ≡ Some node
  pub latest : (u : ℕ) → u < t → placed (r.effect u) ≡ Some node → u ≤ s

-- the rules of a cut
pub record Keeps (r : Run) (cut : ℕ → ℕ) : Type 0 where
  pub renames : (t : ℕ) (x : RowChange) (other : ℕ) → Made r t x → x.other ≡ Some other → t < cut x.directory → t < cut other
  pub removals : (t : ℕ) (x : RowChange) (u : ℕ) (y : RowChange) → Made r t x → x.ends ≡ true → t < cut x.directory → Made r u y → y.directory ≡ x.child
      → u < cut y.directory
  pub births : (b d : ℕ) (n : List ℕ) (kind : Kind) (c u : ℕ) (x : RowChange) → r.effect b ≡ Adds d n c → r.makes b ≡ Some kind → Made r u x → x.directory ≡ c
      → u < cut c → b < cut d
  pub ancestors : (t : ℕ) (x : RowChange) (above : List ℕ) (node holder : ℕ) (name : List ℕ) (s : ℕ) → Made r t x → x.places ≡ true → x.other ≢ None
      → is_directory (r.tree t) x.child ≡ true → t < cut x.directory → Above (r.tree t) x.directory above → IsOneOf (x.directory ∷ above) node
      → row_of (r.tree t) holder name ≡ Some node → IsLast r node t s → s < cut holder

-- whether a change lies below the cut of its directory
abbrev pub below_cut : (ℕ → ℕ) → RowChange → Bool
below_cut cut x = nat_lt x.stamp (cut x.directory)

-- rows at cuts, stamp by stamp
pub record Seen (r : Run) (cut : ℕ → ℕ) : Type 0 where
  pub rows : ℕ → FinMap key_cmp ℕ
  pub begin : rows 0 ≡ (r.tree 0).rows
  pub more : (t : ℕ) → rows (suc t) ≡ fold with_own (rows t) (filter (below_cut cut) (changes_at r t))
