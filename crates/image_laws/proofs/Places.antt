-- Where a net leaves rows, and which blocks of a directory are rewritten.
use Rattle.std.proofs.Common.{◌≡◌, ℕ, zero, suc, ◌<◌, ◌≤◌, true, false, not, ◌||◌, ◌&&◌, List, [], ◌∷◌, map, Option, Some, None, option_map, refl, sym, ap, ◌∙◌, arith, nat_eq}
use Rattle.std.proofs.lemmas.Bool.Decides.{nat_tests}
use borrow.Author.Tests.{eqb-true, eq-eqb}
use Rattle.std.specs.Prelude.{slice_get, bytes_eq, nat_le}
use Rattle.std.specs.Option.{option_map_or, option_eq}
use Rattle.std.proofs.lemmas.Option.{slice_get-map}
use Rattle.sfs_base.proofs.BasicOptions.{none_some, some_same}
use Rattle.sfs_base.proofs.BasicLists.{same_bytes, bytes_same}
use Rattle.sfs_base.proofs.BasicTruth.{or_first, or_second, not_false, and_first, and_second, then_false}
use Rattle.sfs_base.proofs.BasicNumbers.{same_number}
use Rattle.sfs_base.specs.declared.numbers.Kind.{Kind}
use Rattle.sfs_base.specs.declared.numbers.Kind.TheVariants.{File, Directory}
use Rattle.sfs_image.specs.Slot.{Row, kind_byte}
use Rattle.image_laws.specs.Slots.{blocks_up_to_last}
use Rattle.image_laws.specs.Commit.{brought_row, slot_after, new_rows, filled}
use Rattle.image_laws.specs.Need.{slots_in_block, same_row, same_slots, rewrites_slots, KeepsBlock}
use Rattle.image_laws.specs.Laws.{NetsKeepPlaces, BlocksAreKeptOrRewritten}

-- a test of an order is true where this holds
pub le_true : (a b : ℕ) → a ≤ b → nat_le a b ≡ true
le_true a b le = grind (arith, nat_tests)

true_le : (a b : ℕ) → nat_le a b ≡ true → a ≤ b
true_le a b t = grind (arith, nat_tests)

-- a row stays where it stands while others fill up
filled_stays : (slots : List (Option Row)) (rows : List Row) (k : ℕ) (row : Row) → slice_get slots k ≡ Some (Some row) →
    slice_get (filled slots rows) k ≡ Some (Some row)
filled_stays [] rows k row is = absurd (none_some is)
filled_stays (slot ∷ slots) [] k row is = is
filled_stays (None ∷ slots) (r ∷ rows) zero row is = absurd (none_some (some_same is))
filled_stays (None ∷ slots) (r ∷ rows) (suc k) row is = filled_stays slots rows k row is
filled_stays (Some held ∷ slots) (r ∷ rows) zero row is = is
filled_stays (Some held ∷ slots) (r ∷ rows) (suc k) row is = filled_stays slots (r ∷ rows) k row is

all_have_rows : (rows : List Row) (k : ℕ) → slice_get (map Some rows) k ≡ Some None → ⊥
all_have_rows [] k is = none_some is
all_have_rows (row ∷ rows) zero is = none_some (sym (some_same is))
all_have_rows (row ∷ rows) (suc k) is = all_have_rows rows k is

-- behind a slot that stays empty nothing was filled
filled_lowest : (slots : List (Option Row)) (rows : List Row) (k j : ℕ) → slice_get (filled slots rows) k ≡ Some None → k < j →
    slice_get (filled slots rows) j ≡ slice_get slots j
filled_lowest [] rows k j is lt = absurd (all_have_rows rows k is)
filled_lowest (slot ∷ slots) [] k j is lt = refl
filled_lowest (None ∷ slots) (row ∷ rows) zero j is lt = absurd (none_some (sym (some_same is)))
filled_lowest (None ∷ slots) (row ∷ rows) (suc k) zero is lt = absurd (omega arith)
filled_lowest (None ∷ slots) (row ∷ rows) (suc k) (suc j) is lt = filled_lowest slots rows k j is (omega arith)
filled_lowest (Some held ∷ slots) (row ∷ rows) zero j is lt = absurd (none_some (sym (some_same is)))
filled_lowest (Some held ∷ slots) (row ∷ rows) (suc k) zero is lt = absurd (omega arith)
filled_lowest (Some held ∷ slots) (row ∷ rows) (suc k) (suc j) is lt = filled_lowest slots (row ∷ rows) k j is (omega arith)

pub nets_keep_places : NetsKeepPlaces
nets_keep_places num tree net slots = record {
  stays =
      λ place row is none. filled_stays (map (slot_after num tree net) slots) (new_rows num tree net) place row
      (slice_get-map (slot_after num tree net) slots place ∙ ap (option_map (slot_after num tree net)) is
      ∙ ap (λ o. Some (option_map_or (brought_row num tree) o (Some row))) none);
  changes =
      λ place row brought change is found same. filled_stays (map (slot_after num tree net) slots) (new_rows num tree net) place brought
      (slice_get-map (slot_after num tree net) slots place ∙ ap (option_map (slot_after num tree net)) is
      ∙ ap (λ o. Some (option_map_or (brought_row num tree) o (Some row))) found ∙ ap Some same);
  lowest = λ place later is lt. filled_lowest (map (slot_after num tree net) slots) (new_rows num tree net) place later is lt;
}

-- the test of two rows tells whether they are one
kinds_same : (a b : Kind) → kind_byte a ≡ kind_byte b → a ≡ b
kinds_same File File e = refl
kinds_same Directory Directory e = refl
kinds_same File Directory e = absurd (cc)
kinds_same Directory File e = absurd (cc)

rows_are : (a b : Row) → same_row a b ≡ true → a ≡ b
rows_are a b e =
    let rest = and_second (nat_eq a.inode b.inode) _ e in
    let inodes = eqb-true a.inode b.inode (and_first (nat_eq a.inode b.inode) _ e) in
    let kinds = kinds_same a.kind b.kind (eqb-true _ _ (and_first (nat_eq (kind_byte a.kind) (kind_byte b.kind)) _ rest)) in
    let names = bytes_same a.name b.name (and_second (nat_eq (kind_byte a.kind) (kind_byte b.kind)) _ rest) in
    λ i. record { inode = inodes i; kind = kinds i; name = names i }

row_itself : (a : Row) → same_row a a ≡ true
row_itself a =
    ap (λ b. b && (nat_eq (kind_byte a.kind) (kind_byte a.kind) && bytes_eq a.name a.name)) (same_number a.inode)
    ∙ ap (λ b. b && bytes_eq a.name a.name) (same_number (kind_byte a.kind))
    ∙ same_bytes a.name

pub slot_is : (a b : Option Row) → option_eq same_row a b ≡ true → a ≡ b
slot_is None None e = refl
slot_is None (Some b) e = absurd (cc)
slot_is (Some a) None e = absurd (cc)
slot_is (Some a) (Some b) e = ap Some (rows_are a b e)

-- and each slot is itself
pub slot_itself : (a : Option Row) → option_eq same_row a a ≡ true
slot_itself None = refl
slot_itself (Some a) = row_itself a

slots_are : (xs ys : List (Option Row)) → same_slots xs ys ≡ true → xs ≡ ys
slots_are [] [] e = refl
slots_are [] (y ∷ ys) e = absurd (cc)
slots_are (x ∷ xs) [] e = absurd (cc)
slots_are (x ∷ xs) (y ∷ ys) e =
    ap (λ z. z ∷ xs) (slot_is x y (and_first (option_eq same_row x y) _ e)) ∙ ap (λ l. y ∷ l) (slots_are xs ys (and_second (option_eq same_row x y) _ e))

slots_itself : (xs : List (Option Row)) → same_slots xs xs ≡ true
slots_itself [] = refl
slots_itself (x ∷ xs) = ap (λ b. b && same_slots xs xs) (slot_itself x) ∙ slots_itself xs

pub blocks_are_kept_or_rewritten : BlocksAreKeptOrRewritten
blocks_are_kept_or_rewritten old slots n = (kept, unwritten)
  where
    kept : rewrites_slots old slots n ≡ false → KeepsBlock old slots n
    kept e = record {
      slots_kept =
          sym
          (slots_are (slots_in_block n old.slots) (slots_in_block n slots)
          (not_false _ (or_first (not (same_slots (slots_in_block n old.slots) (slots_in_block n slots))) _ e)));
      gone =
          λ le. eqb-true _ _
          (not_false _
          (then_false (nat_le (blocks_up_to_last slots) n) _ (or_second (not (same_slots (slots_in_block n old.slots) (slots_in_block n slots))) _ e)
          (le_true _ _ le)));
    }

    unwritten : KeepsBlock old slots n → rewrites_slots old slots n ≡ false
    unwritten k =
        ap (λ b. not b || (nat_le (blocks_up_to_last slots) n && not (nat_eq (old.blocks n) 0)))
        (ap (same_slots (slots_in_block n old.slots)) k.slots_kept ∙ slots_itself (slots_in_block n old.slots))
        ∙ elim (nat_le (blocks_up_to_last slots) n) as (λ b. nat_le (blocks_up_to_last slots) n ≡ b → (b && not (nat_eq (old.blocks n) 0)) ≡ false) [
          | true ↦ λ t. ap not (eq-eqb _ _ (k.gone (true_le _ _ t)))
          | false ↦ λ _. refl
        ] refl
