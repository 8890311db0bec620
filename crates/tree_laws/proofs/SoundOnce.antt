-- A tree is sound in one way at most, and its nodes are numbered in one, so both may stand in a ghost field.
use Rattle.std.proofs.Common.{◌≡◌, ◌≢◌, ℕ, ◌+◌, ◌*◌, ◌<◌, true, List, length, slice_index, Some, IsSome, ◌⊎◌, inl, inr, refl, sym, ap, ◌∙◌, arith}
use Rattle.std.specs.FinMap.{get}
use Rattle.std.proofs.Props.{props}
use mathlib.Core.HLevel.{is_prop→PathP, Σ_prop_path}
use Rattle.tree_laws.specs.Tree.{TreeState, row_of, is_alive, is_directory}
use Rattle.tree_laws.specs.Sound.{Above, at_root, below, IsSound, IsMade, IsNumbered}
use Rattle.tree_laws.specs.Laws.{IsSoundTree}
use Rattle.tree_laws.proofs.Numbers.{same_drawn}
use Rattle.tree_laws.proofs.Walks.{above_same}

row_once : (tree : TreeState) (directory : ℕ) (name : List ℕ) (child : ℕ) → IsProp (row_of tree directory name ≡ Some child)
row_once tree directory name child = hlevel props

module _ (tree : TreeState) (s : IsSound tree) where
  above_once : {node : ℕ} {above : List ℕ} → is_directory tree node ≡ true → (x y : Above tree node above) → x ≡ y
  above_once kind at_root at_root = refl
  above_once kind (below node holder name above row rest) (below _ _ other _ other_row other_rest) =
      let names : name ≡ other = (s.once holder holder name other node row other_row kind).1 in
      let rows = is_prop→PathP (λ i. row_of tree holder (names i) ≡ Some node) (λ i. row_once tree holder (names i) node) row other_row in
      let same = above_once (s.holds holder name node row).0 rest other_rest in
      λ i. below node holder (names i) above (rows i) (same i)

  way_once : (node : ℕ) → is_directory tree node ≡ true → (x y : (above : List ℕ) × Above tree node above) → x ≡ y
  way_once node kind x y = Σ_prop_path (λ above. above_once kind) (above_same tree s x.1 y.1 kind)

-- a tree is sound in one way at most
pub IsSound-prop : (tree : TreeState) → IsProp (IsSound tree)
IsSound-prop tree a b =
    let root : IsProp (is_directory tree 0 ≡ true) = hlevel props in
    let unnamed : IsProp ((d : ℕ) (n : List ℕ) → row_of tree d n ≢ Some 0) = hlevel props in
    let node : IsProp ((d : ℕ) (n : List ℕ) (c : ℕ) → row_of tree d n ≡ Some c → IsSome (get tree.nodes c)) = hlevel props in
    let once : IsProp
    ((d o : ℕ) (n m : List ℕ) (c : ℕ) → row_of tree d n ≡ Some c → row_of tree o m ≡ Some c → is_directory tree c ≡ true → (d ≡ o) × (n ≡ m)) =
    hlevel props in
    let holds : IsProp ((d : ℕ) (n : List ℕ) (c : ℕ) → row_of tree d n ≡ Some c → (is_directory tree d ≡ true) × (is_alive tree d ≡ true)) = hlevel props in
    λ i. record {
      root = root a.root b.root i;
      unnamed = unnamed a.unnamed b.unnamed i;
      node = node a.node b.node i;
      once = once a.once b.once i;
      holds = holds a.holds b.holds i;
      climbs = λ d n c row kind. way_once tree a c kind (a.climbs d n c row kind) (b.climbs d n c row kind) i;
    }

module _ (tree : TreeState) (n : IsNumbered tree) where
  made_once : (node : ℕ) (x y : IsMade tree node) → x ≡ y
  made_once node x y =
      let a : x.1 < slice_index tree.made x.0 = x.3 in
      let b : y.1 < slice_index tree.made y.0 = y.3 in
      let same = same_drawn tree.first tree.share x.0 y.0 x.1 y.1 (within x.0 x.1 x.2 a) (within y.0 y.1 y.2 b) (sym x.4 ∙ y.4) in
      let core : x.0 ≡ y.0 = same.0 in
      let creation : x.1 ≡ y.1 = same.1 in
      let cores = is_prop→PathP (λ i. core i < length tree.made) (λ i. less_once (core i) (length tree.made)) x.2 y.2 in
      let creations = is_prop→PathP (λ i. creation i < slice_index tree.made (core i)) (λ i. less_once (creation i) (slice_index tree.made (core i))) x.3 y.3 in
      let numbers =
      is_prop→PathP (λ i. node ≡ tree.first + core i * tree.share + creation i)
      (λ i. number_once node (tree.first + core i * tree.share + creation i)) x.4 y.4 in
      λ i. (core i, creation i, cores i, creations i, numbers i)
    where
      less_once : (a b : ℕ) → IsProp (a < b)
      less_once a b = hlevel props

      number_once : (a b : ℕ) → IsProp (a ≡ b)
      number_once a b = hlevel props

      within : (core creation : ℕ) → core < length tree.made → creation < slice_index tree.made core → creation < tree.share
      within core creation lt before = let few = n.within core lt in omega arith

  apart : (node : ℕ) → node < tree.first → IsMade tree node → ⊥
  apart node lt made = let e = made.4 in omega arith

  known_once : (node : ℕ) (x y : (node < tree.first) ⊎ IsMade tree node) → x ≡ y
  known_once node (inl x) (inl y) = let less : IsProp (node < tree.first) = hlevel props in ap inl (less x y)
  known_once node (inl x) (inr y) = absurd (apart node x y)
  known_once node (inr x) (inl y) = absurd (apart node y x)
  known_once node (inr x) (inr y) = ap inr (made_once node x y)

pub IsNumbered-prop : (tree : TreeState) → IsProp (IsNumbered tree)
IsNumbered-prop tree a b =
    let within : IsProp ((core : ℕ) → core < length tree.made → slice_index tree.made core < tree.share + 1) = hlevel props in
    λ i. record { known = λ node some. known_once tree a node (a.known node some) (b.known node some) i; within = within a.within b.within i }

pub IsSoundTree-prop : (tree : TreeState) → IsProp (IsSoundTree tree)
IsSoundTree-prop tree a b = λ i. record { sound = IsSound-prop tree a.sound b.sound i; numbered = IsNumbered-prop tree a.numbered b.numbered i }
