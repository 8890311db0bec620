-- Slots in which each name stands once: what is looked up is what stands there.
use Rattle.std.proofs.Common.{◌≡◌, ◌≢◌, ℕ, ◌+◌, ◌<◌, ◌≤◌, true, false, cond, List, [], ◌∷◌, Option, Some, None, refl, sym, ap, ◌∙◌, arith}
use Rattle.std.specs.Prelude.{bytes_eq}
use Rattle.std.specs.List.{AllByRecursion}
use Rattle.tree_laws.proofs.Joined.{count-cons}
use Rattle.sfs_base.proofs.BasicLists.{bytes_same, same_bytes}
use Rattle.sfs_image.specs.Slot.{Row}
use Rattle.image_laws.specs.Slots.{has_name, looked_up, name_count}
use Rattle.sfs_base.proofs.BasicOptions.{none_some, some_same}

-- names that differ have bytes that do
pub bytes_apart : (n m : List ℕ) → n ≢ m → bytes_eq n m ≡ false
bytes_apart n m other = elim (bytes_eq n m) as (λ b. bytes_eq n m ≡ b → b ≡ false) [ true ↦ λ t. absurd (other (bytes_same n m t)) | false ↦ λ _. refl ] refl

-- a name's slot, first or behind
pub count_slot : (n : List ℕ) (slot : Option Row) (slots : List (Option Row)) → name_count n (slot ∷ slots) ≡ cond (has_name n slot) 1 0 + name_count n slots
count_slot n slot slots = count-cons (has_name n) slot slots

-- what is looked up has the name
pub looked_named : (n : List ℕ) (slots : List (Option Row)) (row : Row) → looked_up n slots ≡ Some row → row.name ≡ n
looked_named n [] row is = absurd (none_some is)
looked_named n (None ∷ slots) row is = looked_named n slots row is
looked_named n (Some held ∷ slots) row is =
    elim (bytes_eq n held.name) as (λ b. bytes_eq n held.name ≡ b → cond b (Some held) (looked_up n slots) ≡ Some row → row.name ≡ n) [
      | true ↦ λ t e. ap (λ (r : Row). r.name) (sym (some_same e)) ∙ sym (bytes_same n held.name t)
      | false ↦ λ t e. looked_named n slots row e
    ] refl is

-- a name that is looked up is counted
pub looked_counts : (n : List ℕ) (slots : List (Option Row)) (row : Row) → looked_up n slots ≡ Some row → 0 < name_count n slots
looked_counts n [] row is = absurd (none_some is)
looked_counts n (slot ∷ slots) row is =
    elim (has_name n slot) as (λ b. has_name n slot ≡ b → cond b slot (looked_up n slots) ≡ Some row → 0 < name_count n (slot ∷ slots)) [
      | true ↦ λ t e. let c : name_count n (slot ∷ slots) ≡ 1 + name_count n slots = count_slot n slot slots ∙ ap (λ b. cond b 1 0 + name_count n slots) t in
          omega arith
      | false ↦ λ t e. let c : name_count n (slot ∷ slots) ≡ 0 + name_count n slots = count_slot n slot slots ∙ ap (λ b. cond b 1 0 + name_count n slots) t in
          let d = looked_counts n slots row e in omega arith
    ] refl is

-- a name that is counted nowhere is not found
pub none_looked : (n : List ℕ) (slots : List (Option Row)) → name_count n slots ≡ 0 → looked_up n slots ≡ None
none_looked n slots zero = by_found (looked_up n slots) refl
  where
    by_found : (o : Option Row) → looked_up n slots ≡ o → looked_up n slots ≡ None
    by_found None e = e
    by_found (Some row) e = absurd (let c = looked_counts n slots row e in omega arith)

-- a fact of each row that stands in slots
abbrev pub OnRow : (Row → Type 0) → Option Row → Type 0
OnRow P None = Unit {0}
OnRow P (Some row) = P row

-- where each name stands once, what holds of all that is looked up holds of each slot
pub each_found : (P : Row → Type 0) (slots : List (Option Row)) → ((n : List ℕ) → name_count n slots ≤ 1) →
    ((row : Row) → looked_up row.name slots ≡ Some row → P row) → AllByRecursion (OnRow P) slots
each_found P [] once h = tt
each_found P (slot ∷ slots) once h = (first slot h, each_found P slots (λ n. fewer n (once n)) (λ row is. h row (behind row is)))
  where
    first : (slot : Option Row) → ((row : Row) → looked_up row.name (slot ∷ slots) ≡ Some row → P row) → OnRow P slot
    first None h = tt
    first (Some row) h = h row (ap (λ b. cond b (Some row) (looked_up row.name slots)) (same_bytes row.name))

    fewer : (n : List ℕ) → name_count n (slot ∷ slots) ≤ 1 → name_count n slots ≤ 1
    fewer n le = let c = count_slot n slot slots in omega arith

    behind : (row : Row) → looked_up row.name slots ≡ Some row → looked_up row.name (slot ∷ slots) ≡ Some row
    behind row is =
        elim (has_name row.name slot) as (λ b. has_name row.name slot ≡ b → cond b slot (looked_up row.name slots) ≡ Some row) [
          | true ↦ λ t.
              let c : name_count row.name (slot ∷ slots) ≡ 1 + name_count row.name slots =
              count_slot row.name slot slots ∙ ap (λ b. cond b 1 0 + name_count row.name slots) t in
              let d = looked_counts row.name slots row is in
              let e = once row.name in
              absurd (omega arith)
          | false ↦ λ t. is
        ] refl
