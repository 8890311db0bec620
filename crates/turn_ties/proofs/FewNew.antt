-- A net brings a directory few new rows, and so its slots are few after it.
use Rattle.std.proofs.Common.{◌≡◌, ◌≢◌, ℕ, zero, suc, ◌+◌, ◌-◌, ◌/◌, ◌≤◌, Bool, true, false, cond, ◌&&◌, List, [], ◌∷◌, length, map, Option, Some, None, IsSome, option_map, refl, sym, ap, subst, ◌∙◌, arith, nat_eq, Contains}
use Rattle.std.specs.Prelude.{bytes_eq, is_none}
use Rattle.std.specs.List.{cons_option}
use Rattle.std.specs.Cmp.Lexicographic.{nat_list_cmp_total}
use Rattle.std.specs.FinMap.{FinMap, get, remove, len, len-remove, get-remove, empty_of_len, get-empty}
use Rattle.std.proofs.lemmas.List.{length-map}
use Rattle.std.proofs.lemmas.Map.Text.{is_eq-slice_cmp}
use Rattle.sfs_base.proofs.BasicLists.{bytes_same, same_bytes}
use Rattle.sfs_base.proofs.BasicOptions.{none_not_some, some_not_none}
use Rattle.sfs_image.specs.Slot.{Row}
use Rattle.tree_laws.specs.NameRow.{number_of}
use Rattle.tree_laws.specs.Order.{name_cmp}
use Rattle.tree_laws.specs.Tree.{TreeState}
use Rattle.absorb.specs.declared.nets.NetRow.{NetRow}
use Rattle.image_laws.specs.Commit.{row_in_net, slot_after, new_rows, filled, slots_after}
use Rattle.image_laws.specs.Renamed.{Numbering}
use Rattle.image_laws.specs.Slots.{rows_end, blocks_up_to_last}
use Rattle.image_laws.specs.Stands.{row_on}
use Rattle.image_laws.proofs.NetRows.{HasNamesOnce}

abbrev Names : Type 0
Names = FinMap name_cmp ℕ

-- each row of a net that brings a child has one of these names
abbrev AreNamed : Names → List NetRow → Type 0
AreNamed names net = (row : NetRow) → Contains net row → (child : ℕ) → number_of row.after ≡ Some child → IsSome (get names row.name)

-- a row of a net in which no row has a name has another one
other_name : (net : List NetRow) (name : List ℕ) → row_in_net name net ≡ None → (row : NetRow) → Contains net row → bytes_eq row.name name ≡ false
other_name net name none row there = by (bytes_eq row.name name) refl
  where
    found : (net : List NetRow) → Contains net row → row.name ≡ name → row_in_net name net ≡ None → ⊥
    found [] (k, within, is) same none = absurd (omega arith)
    found (first ∷ rest) (zero, within, is) same none =
        let here : bytes_eq name first.name ≡ true = ap (bytes_eq name) (ap (λ (r : NetRow). r.name) is ∙ same) ∙ same_bytes name in
        some_not_none (sym (ap (λ b. cond b (Some first) (row_in_net name rest)) here) ∙ none)
    found (first ∷ rest) (suc k, within, is) same none = further (bytes_eq name first.name) none (λ left. found rest (k, omega arith, is) same left)
      where
        further : (b : Bool) → cond b (Some first) (row_in_net name rest) ≡ None → (row_in_net name rest ≡ None → ⊥) → ⊥
        further true e later = some_not_none e
        further false e later = later e

    by : (b : Bool) → bytes_eq row.name name ≡ b → b ≡ false
    by false t = refl
    by true t = absurd (found net there (bytes_same row.name name t) none)

-- without a name there is one fewer
one_fewer : (names : Names) (name : List ℕ) → IsSome (get names name) → len names ≡ suc (len (remove names name))
one_fewer names name here =
    let less : len (remove names name) ≡ len names - 1 = len-remove nat_list_cmp_total names name ∙ ap (λ b. cond b (len names - 1) (len names)) here in
    omega (arith, less, some)
  where
    some : len names ≢ 0
    some none = none_not_some (get names name) (ap (λ (m : Names). get m name) (empty_of_len names none) ∙ get-empty name_cmp name) here

-- a net brings no more new rows than there are names
pub few_new : (num : Numbering) (tree : TreeState) (net : List NetRow) (names : Names) → HasNamesOnce net → AreNamed names net
    → length (new_rows num tree net) ≤ len names
unfolding HasNamesOnce
few_new num tree [] names once named = omega arith
few_new num tree (row ∷ net) names once named =
    by (few_new num tree net names once.1 others) (few_new num tree net (remove names row.name) once.1 without) (number_of row.after) refl
  where
    others : AreNamed names net
    others change (k, within, is) = named change (suc k, omega arith, is)

    without : AreNamed (remove names row.name) net
    without change there child e =
        subst IsSome (sym (get-remove nat_list_cmp_total names row.name change.name
        ∙ ap (λ b. cond b None (get names change.name)) (is_eq-slice_cmp change.name row.name ∙ other_name net row.name once.0 change there)))
        (others change there child e)

    at_most : (b : Bool) (made : Option Row) → length (cons_option (cond b made None) (new_rows num tree net)) ≤ suc (length (new_rows num tree net))
    at_most true None = omega arith
    at_most true (Some made) = omega arith
    at_most false made = omega arith

    none_more : (b : Bool) → length (cons_option (cond b None None) (new_rows num tree net)) ≤ length (new_rows num tree net)
    none_more true = omega arith
    none_more false = omega arith

    by : length (new_rows num tree net) ≤ len names → length (new_rows num tree net) ≤ len (remove names row.name)
        → (o : Option ℕ) → number_of row.after ≡ o
        → length (cons_option (cond (is_none row.before) (option_map (row_on num tree row.name) o) None) (new_rows num tree net)) ≤ len names
    by all rest None e = let same = none_more (is_none row.before) in omega (arith, all, same)
    by all rest (Some child) e =
        let more = at_most (is_none row.before) (Some (row_on num tree row.name child)) in
        let less = one_fewer names row.name (named row (0, omega arith, refl) child e) in
        omega (arith, rest, more, less)

-- slots that are filled up are no more than they were and the further rows together
length_filled : (slots : List (Option Row)) (rows : List Row) → length (filled slots rows) ≤ length slots + length rows
length_filled [] rows = let long = length-map rows Some in omega (arith, long)
length_filled (slot ∷ slots) [] = omega arith
length_filled (None ∷ slots) (row ∷ rows) = let rest = length_filled slots rows in omega (arith, rest)
length_filled (Some held ∷ slots) (row ∷ rows) = let rest = length_filled slots (row ∷ rows) in omega (arith, rest)

rows_end-le : (slots : List (Option Row)) → rows_end slots ≤ length slots
rows_end-le [] = omega arith
rows_end-le (slot ∷ slots) =
    let rest = rows_end-le slots in
    elim (is_none slot && nat_eq (rows_end slots) 0) as (λ b. cond b 0 (suc (rows_end slots)) ≤ suc (length slots)) [
      | true ↦ omega arith
      | false ↦ omega (arith, rest)
    ]

-- so a directory has few blocks after a net
pub few_blocks : (num : Numbering) (tree : TreeState) (net : List NetRow) (slots : List (Option Row)) (most names : ℕ)
    → length slots ≤ most → length (new_rows num tree net) ≤ names → blocks_up_to_last (slots_after num tree net slots) ≤ most + names
few_blocks num tree net slots most names few new =
    let own = length-map slots (slot_after num tree net) in
    let all = length_filled (map (slot_after num tree net) slots) (new_rows num tree net) in
    let end = rows_end-le (slots_after num tree net slots) in
    short (rows_end (slots_after num tree net slots)) (omega (arith, own, all, end, few, new))
  where
    short : (n : ℕ) → n ≤ most + names → (n + 14) / 15 ≤ most + names
    short n low = omega (arith, low)
