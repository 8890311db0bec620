-- What a commit gives up, in lists.
use Rattle.std.proofs.Common.{◌≡◌, ℕ, zero, suc, ◌+◌, ◌<◌, List, [], ◌∷◌, ◌++◌, length, get_or, take, inl, inr, refl, sym, ap, subst, ◌∙◌, arith, Contains, eqb}
use Rattle.std.specs.Prelude.{◌↔◌, ◌⊎◌}
use Rattle.std.specs.List.{range_with_len, flat_map, dedup}
use Rattle.std.specs.List.Sorted.{IsPermutation, IsSorted, IsStrictlyIncreasing}
use Rattle.std.specs.Ordering.{nat_cmp}
use Rattle.std.proofs.lemmas.List.{append-nil, take_more, append_assoc}
use Rattle.std.proofs.lemmas.Grind.{flat_map-append}
use Rattle.std.proofs.lemmas.List.Elements.{Contains-append_left, Contains-append_right, Contains-append_cases}
use Rattle.std.proofs.lemmas.List.Kept.{Contains-dedup_nat, Contains-from_dedup}
use Rattle.std.proofs.lemmas.List.Sorted.{Contains-permutation, IsPermutation-sym}
use Rattle.std.proofs.lemmas.Map.Keys.{IsStrictlyIncreasing-dedup}
use Rattle.sfs_base.proofs.BasicNumbers.{zero_plus}
use Rattle.block_map.specs.Remap.{AreFreed, IsGivenUp}
use Rattle.block_map.proofs.Places.{range_more}
use Rattle.disk_change.specs.Built.{rewrite_in}
use Rattle.disk_change.specs.GivenUp.{IsLeftBySeat, IsLeftByGone}
use Rattle.disk_change.specs.Planned.{Planned}
use Rattle.disk_change.specs.Seated.{Seated}
use Rattle.disk_nodes.specs.declared.old.OldEntry.{OldEntry}

-- numbers that are sorted and each once ascend
pub numbers_increase : (sorted once : List ℕ) → IsSorted nat_cmp sorted → once ≡ dedup eqb sorted → IsStrictlyIncreasing once
numbers_increase sorted once order is = subst IsStrictlyIncreasing (sym is) (IsStrictlyIncreasing-dedup sorted order)

-- and are the same numbers
pub same_numbers : (numbers sorted once : List ℕ) → IsPermutation numbers sorted → once ≡ dedup eqb sorted → (n : ℕ) → Contains once n ↔ Contains numbers n
same_numbers numbers sorted once same is n = (
  λ has. Contains-permutation sorted numbers n (IsPermutation-sym numbers sorted same) (Contains-from_dedup eqb sorted n (subst (λ xs. Contains xs n) is has)),
  λ has. subst (λ xs. Contains xs n) (sym is) (Contains-dedup_nat sorted n (Contains-permutation numbers sorted n same has)),
)

-- what a function gives of one item more comes behind
pub flat_more : {X A : Type 0} (f : X → List A) (front : List A) (xs : List X) (i : ℕ) (d : X) (before new own : List A) → i < length xs
    → before ≡ front ++ flat_map f (take i xs)
    → own ≡ f (get_or xs i d) → new ≡ before ++ own → new ≡ front ++ flat_map f (take (i + 1) xs)
flat_more f front xs i d before new own within was is after =
    after ∙ (λ j. was j ++ is j) ∙ append_assoc front (flat_map f (take i xs)) (f (get_or xs i d))
    ∙ ap (λ rest. front ++ rest)
    (sym
    (ap (flat_map f) (take_more xs i d within) ∙ flat_map-append f (take i xs) (get_or xs i d ∷ [])
    ∙ ap (λ rest. flat_map f (take i xs) ++ rest) (append-nil (f (get_or xs i d)))))

-- and so of a number more
pub range_more_flat : {A : Type 0} (f : ℕ → List A) (front : List A) (k : ℕ) (before new : List A) → before ≡ front ++ flat_map f (range_with_len 0 k)
    → new ≡ before ++ f k
    → new ≡ front ++ flat_map f (range_with_len 0 (k + 1))
range_more_flat f front k before new was after =
    after ∙ ap (λ xs. xs ++ f k) was ∙ append_assoc front (flat_map f (range_with_len 0 k)) (f k)
    ∙ ap (λ rest. front ++ rest) (sym (ap (flat_map f) (range_more 0 k) ∙ flat_map-append f (range_with_len 0 k) ((0 + k) ∷ [])
    ∙ ap (λ rest. flat_map f (range_with_len 0 k) ++ rest) (append-nil (f (0 + k)) ∙ ap f (zero_plus k))))

-- what is in a list of one more is in the list, or is that one
pub in_last : {X : Type 0} (xs : List X) (x y : X) → Contains (xs ++ x ∷ []) y → Contains xs y ⊎ (x ≡ y)
in_last xs x y has = elim (Contains-append_cases xs (x ∷ []) y has) [
  | inl before ↦ inl before
  | inr one ↦ inr (only one)
]
  where
    only : {X : Type 0} {x y : X} → Contains (x ∷ []) y → x ≡ y
    only (zero, lt, e) = e
    only (suc k, lt, e) = absurd (omega arith)

pub last_in : {X : Type 0} (xs : List X) (x y : X) → Contains xs y ⊎ (x ≡ y) → Contains (xs ++ x ∷ []) y
last_in xs x y (inl has) = Contains-append_left xs (x ∷ []) y has
last_in xs x y (inr is) = Contains-append_right xs (x ∷ []) y (0, omega arith, is)

-- nodes that are built leave what they give up
pub seats_more : (seats : List Seated) (seat : Seated) (before own after : List ℕ) → ((block : ℕ) → Contains before block ↔ IsLeftBySeat seats block)
    → AreFreed (rewrite_in seat) own
    → after ≡ before ++ own → (block : ℕ) → Contains after block ↔ IsLeftBySeat (seats ++ seat ∷ []) block
seats_more seats seat before own after was freed is block = (
  λ has. elim (Contains-append_cases before own block (subst (λ xs. Contains xs block) is has)) [
    | inl earlier ↦ let one = (was block).0 earlier in
        record { seat = one.seat; one = last_in seats seat one.seat (inl one.one); place = one.place; left = one.left }
    | inr given ↦ let up = (freed.each block).0 given in record { seat = seat; one = last_in seats seat seat (inr refl); place = up.0; left = up.1 }
  ],
  λ one. subst (λ xs. Contains xs block) (sym is) (elim (in_last seats seat one.seat one.one) [
    | inl earlier ↦ Contains-append_left before own block ((was block).1 (record { seat = one.seat; one = earlier; place = one.place; left = one.left }))
    | inr same ↦
        Contains-append_right before own block
        ((freed.each block).1 (subst (λ (s : Seated). (place : ℕ) × IsGivenUp (rewrite_in s) block place) (sym same) (one.place, one.left)))
  ]),
)

-- what a commit gives up is what its nodes give up, and what those hold that lose their inodes
pub all_left : (change : Planned) (seats : List Seated) (gone : List OldEntry) (freed blocks : List ℕ) → seats ≡ change.seats → gone ≡ change.gone
    → ((block : ℕ) → Contains freed block ↔ IsLeftBySeat seats block)
    → ((block : ℕ) → Contains blocks block ↔ (Contains freed block ⊎ IsLeftByGone gone block)) → (block : ℕ)
    → Contains blocks block ↔ (IsLeftBySeat change.seats block ⊎ IsLeftByGone change.gone block)
all_left change seats gone freed blocks same_seats same_gone by_seats by_all block = (
  λ has. elim ((by_all block).0 has) [
    | inl one ↦ inl (subst (λ (those : List Seated). IsLeftBySeat those block) same_seats ((by_seats block).0 one))
    | inr one ↦ inr (subst (λ (those : List OldEntry). IsLeftByGone those block) same_gone one)
  ],
  λ has. elim has [
    | inl one ↦ (by_all block).1 (inl ((by_seats block).1 (subst (λ (those : List Seated). IsLeftBySeat those block) (sym same_seats) one)))
    | inr one ↦ (by_all block).1 (inr (subst (λ (those : List OldEntry). IsLeftByGone those block) (sym same_gone) one))
  ],
)

-- equal numbers are in the same lists
pub same_inodes : (numbers others inodes : List ℕ) → numbers ≡ others → ((n : ℕ) → Contains inodes n ↔ Contains numbers n) → (n : ℕ)
    → Contains inodes n ↔ Contains others n
same_inodes numbers others inodes same each = subst (λ those. (n : ℕ) → Contains inodes n ↔ Contains those n) same each
