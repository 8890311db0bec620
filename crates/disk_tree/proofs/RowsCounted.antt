-- How the rows that name each inode are counted.
use Rattle.std.proofs.Common.{◌≡◌, ℕ, zero, suc, ◌+◌, ◌<◌, ◌≤◌, List, [], length, take, get_or, All, refl, sym, ap, subst, ◌∙◌, arith, inl, inr}
use Rattle.std.specs.Prelude.{slice_index}
use Rattle.std.proofs.lemmas.Bool.{cases_lt}
use Rattle.std.proofs.lemmas.List.{take_all, get_or_read, get_or_past}
use Rattle.sfs_base.specs.Lists.{Roomy}
use Rattle.sfs_image.specs.Slot.{Row}
use Rattle.disk_tree.specs.Rows.{rows_of_inode, naming, naming_below, named_rows, AreNamingCounts, CountsNamings}

-- The rows of the first n inodes were counted.
pub record CountedSoFar (rows : List (Roomy Row)) (n : ℕ) (old named : List ℕ) : Type 0 where
  pub size : length named ≡ length old
  pub each : (i : ℕ) → i < length old → slice_index named i ≡ naming_below rows n i
  pub room : (i : ℕ) → slice_index named i ≤ named_rows rows n

pub none_counted : (rows : List (Roomy Row)) (old : List ℕ) → ((i : ℕ) → slice_index old i ≡ 0) → CountedSoFar rows 0 old old
none_counted rows old zeros = record { size = refl; each = λ i less. zeros i; room = λ i. (let z = zeros i in omega arith) }

-- no more rows than there are
pub rows_below : (rows : List (Roomy Row)) (k n : ℕ) → k < n → named_rows rows k + length (rows_of_inode rows k) ≤ named_rows rows n
rows_below rows k zero less = absurd (omega arith)
rows_below rows k (suc n) less = elim (cases_lt k n) [
  | inl below ↦ (let h = rows_below rows k n below in omega arith)
  | inr last ↦
      (let e : k ≡ n = omega arith in
      subst (λ (m : ℕ). named_rows rows k + length (rows_of_inode rows k) ≤ named_rows rows m + length (rows_of_inode rows m)) e (omega arith))
]

named_next : (rows : List (Roomy Row)) (n i : ℕ) → naming_below rows (n + 1) i ≡ naming_below rows n i + naming i (rows_of_inode rows n)
named_next rows n i = (let e : n + 1 ≡ suc n = omega arith in ap (λ (k : ℕ). naming_below rows k i) e)

rows_next : (rows : List (Roomy Row)) (n : ℕ) → named_rows rows (n + 1) ≡ named_rows rows n + length (rows_of_inode rows n)
rows_next rows n = (let e : n + 1 ≡ suc n = omega arith in ap (named_rows rows) e)

naming_le : (i : ℕ) (rows : List Row) → naming i rows ≤ length rows
naming_le i rows = Rattle.std.proofs.lemmas.List.Sums.count_by-le-length (λ (row : Row). Rattle.std.proofs.Common.nat_eq row.inode i) rows

module _ (rows : List (Roomy Row)) (n : ℕ) (old held new : List ℕ) (before : CountedSoFar rows n old held) (own : List Row) (is : own ≡ rows_of_inode rows n)
    (counts : CountsNamings held new own (length own)) where
  here : (i : ℕ) → i < length held → slice_index new i ≡ slice_index held i + naming i (rows_of_inode rows n)
  here i less = counts.each i less ∙ ap (λ (xs : List Row). slice_index held i + naming i xs) (take_all (length own) own (omega arith) ∙ is)

  pub more_counted : CountedSoFar rows (n + 1) old new
  more_counted = record {
    size = counts.size ∙ before.size;
    each =
        λ i less. here i (let s = before.size in omega arith) ∙ ap (λ (k : ℕ). k + naming i (rows_of_inode rows n)) (before.each i less)
        ∙ sym (named_next rows n i);
    room = λ i. elim (cases_lt i (length held)) [
      | inl less ↦ (let h = here i less in
          let r = before.room i in
          let le = naming_le i (rows_of_inode rows n) in
          let next = rows_next rows n in
          omega arith)
      | inr past ↦ (let none = get_or_past new i 0 (let s = counts.size in omega arith) in omega arith)
    ];
  }

pub counted_all : (rows : List (Roomy Row)) (old named : List ℕ) → CountedSoFar rows (length rows) old named
    → AreNamingCounts rows (length rows) (length old) named
counted_all rows old named so = record { size = so.size; each = so.each }

-- the rows of an element of the list are those of its number
pub rows_of_number : (rows : List (Roomy Row)) (place : ℕ) (own : Roomy Row) → place < length rows → own ≡ get_or rows place own
    → own.items ≡ rows_of_inode rows place
rows_of_number rows place own within is = ap (λ (r : Roomy Row). r.items) (get_or_read rows place own within is (record { items = []; spare = 0 }))
