-- The rows of a directory as a list, where one is taken out or gets another child, and the row at a place.
use Rattle.std.proofs.Common.{◌≡◌, ℕ, zero, suc, ◌<◌, ◌≤◌, cond, List, [], ◌∷◌, ◌++◌, length, take, drop, set, map, get_or, Some, None, IsTrue, IsSome, refl, sym, ap, subst, ◌∙◌, arith}
use Rattle.std.specs.Prelude.{slice_get}
use Rattle.std.specs.List.{remove}
use Rattle.std.specs.Ordering.{eq_by_cmp}
use Rattle.std.proofs.Math.ListN.{get_or-map}
use Rattle.std.proofs.lemmas.List.{map-append, map-set, length-map}
use Rattle.std.specs.Cmp.Lexicographic.{nat_list_cmp_total}
use Rattle.std.specs.FinMap.{find, is_sorted, from_sorted, get-remove, get-insert, same_map}
use Rattle.std.specs.FinMap as finmap
use Rattle.tree_laws.specs.Order.{name_cmp}
use Rattle.tree_laws.specs.declared.name_map.NameRow.{NameRow}
use Rattle.tree_laws.specs.NameRow.{name_and_child, IsPlaceOf}
use Rattle.tree_laws.proofs.Joined.{name_cmp-IsAntisymmetric}
use Rattle.tree_laws.proofs.Search.{find_there}
use Rattle.tree_laws.proofs.Removed.{sorted_removed, find_removed, sorted_replaced, find_replaced, found_at, key_at}
use Rattle.tree_laws.proofs.RowsByName.{is_true, was_true, map-take, map-drop, get-map_of}

-- a row of a name stands where the search for the name ended
pub stands_there : (rows : List NameRow) (name : List ℕ) (place : ℕ) → IsTrue (is_sorted name_cmp (map name_and_child rows))
    → IsPlaceOf (map name_and_child rows) name place → IsSome (find name_cmp name (map name_and_child rows))
    → (place < length (map name_and_child rows)) × key_at nat_list_cmp_total name_cmp-IsAntisymmetric (map name_and_child rows) place name
stands_there rows name place s p some =
    found_at nat_list_cmp_total name_cmp-IsAntisymmetric name (map name_and_child rows) place
    (subst IsSome (find_there nat_list_cmp_total name (map name_and_child rows) place (is_true _ s) p.before p.behind) some)

pub place_within : (rows : List NameRow) (name : List ℕ) (place : ℕ) → IsTrue (is_sorted name_cmp (map name_and_child rows))
    → IsPlaceOf (map name_and_child rows) name place → IsSome (find name_cmp name (map name_and_child rows)) → place < length rows
place_within rows name place s p some =
    let there = stands_there rows name place s p some in
    let n = length-map rows name_and_child in
    let lt : place < length (map name_and_child rows) = there.0 in
    omega arith

map-remove : (rows : List NameRow) (place : ℕ)
    → map name_and_child (remove rows place) ≡ take place (map name_and_child rows) ++ drop (suc place) (map name_and_child rows)
map-remove rows place =
    map-append name_and_child (take place rows) (drop (suc place) rows)
    ∙ ap (λ l. l ++ map name_and_child (drop (suc place) rows)) (map-take name_and_child place rows)
    ∙ ap (λ l. take place (map name_and_child rows) ++ l) (map-drop name_and_child (suc place) rows)

pub sorted_without : (rows : List NameRow) (place : ℕ) → IsTrue (is_sorted name_cmp (map name_and_child rows))
    → IsTrue (is_sorted name_cmp (map name_and_child (remove rows place)))
sorted_without rows place s =
    subst (λ l. IsTrue (is_sorted name_cmp l)) (sym (map-remove rows place))
    (was_true _ (sorted_removed nat_list_cmp_total name_cmp-IsAntisymmetric (map name_and_child rows) place (is_true _ s)))

pub map_removed : (rows : List NameRow) (name : List ℕ) (place : ℕ) → IsTrue (is_sorted name_cmp (map name_and_child rows))
    → IsPlaceOf (map name_and_child rows) name place → IsSome (find name_cmp name (map name_and_child rows))
    → from_sorted {R = name_cmp} (map name_and_child (remove rows place)) ≡ finmap.remove (from_sorted {R = name_cmp} (map name_and_child rows)) name
map_removed rows name place s p some =
    let there = stands_there rows name place s p some in
    same_map nat_list_cmp_total name_cmp-IsAntisymmetric _ _ (λ q.
    get-map_of (remove rows place) q (sorted_without rows place s)
    ∙ ap (find name_cmp q) (map-remove rows place)
    ∙ find_removed nat_list_cmp_total name_cmp-IsAntisymmetric q name (map name_and_child rows) place there.0 (is_true _ s) p.before there.1
    ∙ ap (cond (eq_by_cmp name_cmp q name) None) (sym (get-map_of rows q s))
    ∙ sym (get-remove nat_list_cmp_total (from_sorted {R = name_cmp} (map name_and_child rows)) name q))

-- a row with another child
abbrev pub with_child : NameRow → ℕ → NameRow
with_child row child = record row { child = record { 0 = child } }

map-replaced : (rows : List NameRow) (row : NameRow) (name : List ℕ) (place child : ℕ) → place < length rows → row ≡ get_or rows place row
    → key_at nat_list_cmp_total name_cmp-IsAntisymmetric (map name_and_child rows) place name
    → map name_and_child (set rows place (with_child row child)) ≡ set (map name_and_child rows) place (name, child)
map-replaced rows row name place child lt is at =
    map-set name_and_child rows place (with_child row child)
    ∙ ap (λ n. set (map name_and_child rows) place (n, child))
    (ap (λ (e : List ℕ × ℕ). e.0) (ap name_and_child is ∙ sym (get_or-map name_and_child rows place row))
    ∙ at (name_and_child row) (let n = length-map rows name_and_child in omega arith))

module _ (rows : List NameRow) (row : NameRow) (name : List ℕ) (place child : ℕ) (is : row ≡ get_or rows place row)
    (s : IsTrue (is_sorted name_cmp (map name_and_child rows))) (p : IsPlaceOf (map name_and_child rows) name place)
    (some : IsSome (find name_cmp name (map name_and_child rows))) where
  pub sorted_with : IsTrue (is_sorted name_cmp (map name_and_child (set rows place (with_child row child))))
  sorted_with =
      let there = stands_there rows name place s p some in
      subst (λ l. IsTrue (is_sorted name_cmp l)) (sym (map-replaced rows row name place child (place_within rows name place s p some) is there.1))
      (was_true _ (sorted_replaced nat_list_cmp_total name_cmp-IsAntisymmetric name child (map name_and_child rows) place there.1 (is_true _ s)))

  pub map_replaced : from_sorted {R = name_cmp} (map name_and_child (set rows place (with_child row child)))
      ≡ finmap.insert (from_sorted {R = name_cmp} (map name_and_child rows)) name child
  map_replaced =
      let there = stands_there rows name place s p some in
      same_map nat_list_cmp_total name_cmp-IsAntisymmetric _ _ (λ q.
      get-map_of (set rows place (with_child row child)) q sorted_with
      ∙ ap (find name_cmp q) (map-replaced rows row name place child (place_within rows name place s p some) is there.1)
      ∙ find_replaced nat_list_cmp_total name_cmp-IsAntisymmetric q name child (map name_and_child rows) place there.0 p.before there.1
      ∙ ap (cond (eq_by_cmp name_cmp q name) (Some child)) (sym (get-map_of rows q s))
      ∙ sym (get-insert nat_list_cmp_total (from_sorted {R = name_cmp} (map name_and_child rows)) name child q))

-- the row at a place
pub entry_at : (rows : List NameRow) (row : NameRow) (place : ℕ) → place < length rows → row ≡ get_or rows place row
    → Some (name_and_child row) ≡ slice_get (map name_and_child rows) place
entry_at [] row place lt is = absurd (omega arith)
entry_at (r ∷ rows) row zero lt is = ap (λ r. Some (name_and_child r)) is
entry_at (r ∷ rows) row (suc place) lt is = entry_at rows row place (omega arith) is

pub entry_past : (rows : List NameRow) (place : ℕ) → length rows ≤ place → None ≡ slice_get (map name_and_child rows) place
entry_past [] place le = refl
entry_past (r ∷ rows) zero le = absurd (omega arith)
entry_past (r ∷ rows) (suc place) le = entry_past rows place (omega arith)
