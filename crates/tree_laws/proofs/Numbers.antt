-- The numbers of nodes: which are given, and that the next one is new.
use Rattle.std.proofs.Common.{◌≡◌, ℕ, ◌+◌, ◌*◌, ◌<◌, ◌≤◌, length, slice_index, None, inl, inr, sym, ap, arith, lt_of_lt_of_le}
use Rattle.std.proofs.lemmas.Nat.{mul-add-lt}
use Rattle.sfs_base.proofs.BasicOptions.{none_there}
use Rattle.std.specs.FinMap.{get}
use Rattle.tree_laws.specs.Tree.{TreeState, made_by, next_number}
use Rattle.tree_laws.specs.Sound.{IsNumbered}

below_next : (share a b x y : ℕ) → a < b → x < share → a * share + x ≡ b * share + y → ⊥
below_next share a b x y lt small same = let h = mul-add-lt a share x b lt small in omega arith

-- numbers below the share of one core are not those of another
pub same_number : (share core other creation before : ℕ) → creation < share → before < share → core * share + creation ≡ other * share + before
    → (core ≡ other) × (creation ≡ before)
same_number share core other creation before lt below e =
    let up : core < other → ⊥ = λ less. below_next share core other creation before less lt e in
    let down : other < core → ⊥ = λ less. below_next share other core before creation less below (sym e) in
    let same : core ≡ other = omega arith in
    (same, rest (core * share) _ _ _ (ap (λ k. k * share) same) e)
  where
    rest : (a b x y : ℕ) → a ≡ b → a + x ≡ b + y → x ≡ y
    rest a b x y same e = omega arith

-- the same, from a first number on
pub same_drawn : (first share core other creation before : ℕ) → creation < share → before < share
    → first + core * share + creation ≡ first + other * share + before → (core ≡ other) × (creation ≡ before)
same_drawn first share core other creation before lt below e = same_number share core other creation before lt below (omega arith)

-- a number that a core draws next is no node's
pub fresh_number : (tree : TreeState) (core : ℕ) → IsNumbered tree → core < length tree.made → made_by tree core < tree.share
    → get tree.nodes (next_number tree core) ≡ None
fresh_number tree core n lt room = none_there (get tree.nodes (next_number tree core)) (λ some. elim (n.known (next_number tree core) some) [
  | inl low ↦ omega arith
  | inr made ↦
      let other = made.0 in
      let creation = made.1 in
      let within = n.within other made.2 in
      let before : creation < slice_index tree.made other = made.3 in
      let same = same_drawn tree.first tree.share core other (made_by tree core) creation room (lt_of_lt_of_le before (le_of_suc within)) made.4 in
      let more : slice_index tree.made core ≡ slice_index tree.made other = ap (slice_index tree.made) same.0 in
      absurd (omega arith)
])
  where
    le_of_suc : {a b : ℕ} → a < b + 1 → a ≤ b
    le_of_suc lt = omega arith
