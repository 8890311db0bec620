-- The rows of a directory as a list: where one is found, and where one is put.
use Rattle.std.proofs.Common.{◌≡◌, ℕ, zero, suc, ◌<◌, ◌≤◌, Bool, true, false, cond, T, List, [], ◌∷◌, ◌++◌, length, take, drop, map, get_or, Some, None, IsSome, IsTrue, ◌≢◌, refl, sym, ap, subst, ◌∙◌, arith}
use Rattle.std.specs.Prelude.{insert}
use Rattle.std.specs.declared.cmp.Ordering.{Ordering}
use Rattle.std.specs.declared.cmp.Ordering.TheVariants.{Less}
use Rattle.std.specs.List.Sorted.{IsPartitionedBy, IsPartitionPoint}
use Rattle.std.proofs.lemmas.List.{map-append, length-map}
use Rattle.std.proofs.Math.ListN.{get_or-map}
use Rattle.std.specs.Prelude.{bytes_eq}
use Rattle.std.specs.Ordering.{eq_by_cmp, is_lt}
use Rattle.std.specs.Cmp.{eq_by_cmp_equiv}
use Rattle.std.proofs.lemmas.Map.Text.{is_eq-slice_cmp}
use Rattle.std.proofs.Math.Seq.{drop-cons}
use Rattle.std.specs.Cmp.Lexicographic.{nat_list_cmp_total}
use Rattle.std.specs.FinMap.{FinMap, find, put, is_sorted, get, entries, from_sorted, get-from_sorted, entries-from_sorted, entries-insert, same_entries_map}
use Rattle.std.specs.FinMap as finmap
use Rattle.std.specs.FinMap.Entries.{is_sorted-put}
use Rattle.tree_laws.specs.Order.{name_cmp}
use Rattle.tree_laws.specs.declared.name_map.NameRow.{NameRow}
use Rattle.tree_laws.specs.NameRow.{name_and_child, IsPlaceOf}
use Rattle.tree_laws.proofs.Search.{find_there, put_there, first_if, sorted_less}

pub is_true : (b : Bool) → IsTrue b → T b
is_true b e = subst T (sym e) tt

pub was_true : (b : Bool) → T b → IsTrue b
was_true true h = refl
was_true false h = absurd h

pub map-take : {A B : Type 0} (f : A → B) (i : ℕ) (xs : List A) → map f (take i xs) ≡ take i (map f xs)
map-take f zero [] = refl
map-take f zero (x ∷ xs) = refl
map-take f (suc i) [] = refl
map-take f (suc i) (x ∷ xs) = ap (λ l. f x ∷ l) (map-take f i xs)

pub map-drop : {A B : Type 0} (f : A → B) (i : ℕ) (xs : List A) → map f (drop i xs) ≡ drop i (map f xs)
map-drop f zero [] = refl
map-drop f zero (x ∷ xs) = refl
map-drop f (suc i) [] = refl
map-drop f (suc i) (x ∷ xs) = map-drop f i xs

pub entries-map_of : (rows : List NameRow) → IsTrue (is_sorted name_cmp (map name_and_child rows))
    → entries (from_sorted {R = name_cmp} (map name_and_child rows)) ≡ map name_and_child rows
entries-map_of rows s = entries-from_sorted name_cmp (map name_and_child rows) (is_true _ s)

pub get-map_of : (rows : List NameRow) (name : List ℕ) → IsTrue (is_sorted name_cmp (map name_and_child rows))
    → get (from_sorted {R = name_cmp} (map name_and_child rows)) name ≡ find name_cmp name (map name_and_child rows)
get-map_of rows name s = get-from_sorted name_cmp (map name_and_child rows) name (is_true _ s)

-- a name that is shown is found in the rows
pub found_in_rows : (rows : List NameRow) (now : FinMap name_cmp ℕ) (name : List ℕ) → IsTrue (is_sorted name_cmp (map name_and_child rows))
    → from_sorted {R = name_cmp} (map name_and_child rows) ≡ now → IsSome (get now name)
    → IsSome (find name_cmp name (map name_and_child rows))
found_in_rows rows now name s same some = subst IsSome (sym (ap (λ m. get m name) same) ∙ get-map_of rows name s) some

-- what stands where the search ended
pub find-at_place : (rows : List NameRow) (name : List ℕ) (place : ℕ) → IsTrue (is_sorted name_cmp (map name_and_child rows))
    → IsPlaceOf (map name_and_child rows) name place
    → find name_cmp name (map name_and_child rows) ≡ first_if {R = name_cmp} nat_list_cmp_total name (map name_and_child (drop place rows))
find-at_place rows name place s p =
    find_there nat_list_cmp_total name (map name_and_child rows) place (is_true _ s) p.before p.behind
    ∙ ap (first_if {R = name_cmp} nat_list_cmp_total name) (sym (map-drop name_and_child place rows))

-- the rows after an insertion where the search ended
pub entries_inserted : (rows : List NameRow) (row : NameRow) (place : ℕ) → IsTrue (is_sorted name_cmp (map name_and_child rows))
    → IsPlaceOf (map name_and_child rows) row.name place → find name_cmp row.name (map name_and_child rows) ≡ None
    → map name_and_child (insert rows place row) ≡ put name_cmp row.name row.child.0 (map name_and_child rows)
entries_inserted rows row place s p none =
    map-append name_and_child (take place rows) (row ∷ drop place rows)
    ∙ ap (λ l. l ++ name_and_child row ∷ map name_and_child (drop place rows)) (map-take name_and_child place rows)
    ∙ ap (λ l. take place (map name_and_child rows) ++ name_and_child row ∷ l) (map-drop name_and_child place rows)
    ∙ sym (put_there nat_list_cmp_total row.name row.child.0 (map name_and_child rows) place p.within (is_true _ s) p.before p.behind none)

pub sorted_inserted : (rows : List NameRow) (row : NameRow) (place : ℕ) → IsTrue (is_sorted name_cmp (map name_and_child rows))
    → IsPlaceOf (map name_and_child rows) row.name place → find name_cmp row.name (map name_and_child rows) ≡ None
    → IsTrue (is_sorted name_cmp (map name_and_child (insert rows place row)))
sorted_inserted rows row place s p none =
    subst (λ l. IsTrue (is_sorted name_cmp l)) (sym (entries_inserted rows row place s p none))
    (was_true _ (is_sorted-put name_cmp nat_list_cmp_total row.name row.child.0 (map name_and_child rows) (is_true _ s)))

pub map_inserted : (rows : List NameRow) (row : NameRow) (place : ℕ) → IsTrue (is_sorted name_cmp (map name_and_child rows))
    → IsPlaceOf (map name_and_child rows) row.name place → find name_cmp row.name (map name_and_child rows) ≡ None
    → from_sorted {R = name_cmp} (map name_and_child (insert rows place row))
    ≡ finmap.insert (from_sorted {R = name_cmp} (map name_and_child rows)) row.name row.child.0
map_inserted rows row place s p none =
    same_entries_map _ _ (entries-map_of (insert rows place row) (sorted_inserted rows row place s p none)
    ∙ entries_inserted rows row place s p none
    ∙ ap (put name_cmp row.name row.child.0) (sym (entries-map_of rows s))
    ∙ sym (entries-insert nat_list_cmp_total (from_sorted (map name_and_child rows)) row.name row.child.0))

-- what holds of each row holds of each entry
point_of : {A B : Type 0} (f : A → B) (P : B → Type 0) (xs : List A) (k : ℕ) → k < length xs → ((d : A) → P (f (get_or xs k d))) → (d : B)
    → P (get_or (map f xs) k d)
point_of f P [] k lt h d = absurd (omega arith)
point_of f P (x ∷ xs) zero lt h d = h x
point_of f P (x ∷ xs) (suc k) lt h d = point_of f P xs k (omega arith) h d

-- where a name stands among rows, it stands among the same rows by the same bytes
pub same_place : (rows other : List NameRow) (bytes name : List ℕ) (place : ℕ) → rows ≡ other → bytes ≡ name → IsPlaceOf (map name_and_child rows) bytes place
    → IsPlaceOf (map name_and_child other) name place
same_place rows other bytes name place same_rows same_name is =
    subst (λ n. IsPlaceOf (map name_and_child other) n place) same_name (subst (λ r. IsPlaceOf (map name_and_child r) bytes place) same_rows is)

pub less_true : (o : Ordering) → is_lt o ≡ true → o ≡ Less
less_true o e = elim o as (λ r. is_lt r ≡ true → r ≡ Less) [ Less ↦ λ _. refl | _ ↦ λ h. cc ] e

not_less : (o : Ordering) → is_lt o ≡ false → o ≢ Less
not_less o e p = cc

-- the names that are less than this one come first
pub IsPartitionedBy-sorted : (rows : List NameRow) (name : List ℕ) → IsTrue (is_sorted name_cmp (map name_and_child rows))
    → IsPartitionedBy (λ (row : NameRow). is_lt (name_cmp row.name name)) rows
IsPartitionedBy-sorted rows name s i j d le lt p =
    let n = length-map rows name_and_child in
    let ej = get_or-map name_and_child rows j d in
    let ei = get_or-map name_and_child rows i d in
    let less : name_cmp (get_or (map name_and_child rows) j (name_and_child d)).0 name ≡ Less =
    subst (λ (e : List ℕ × ℕ). name_cmp e.0 name ≡ Less) (sym ej) (less_true _ p) in
    let before : name_cmp (get_or (map name_and_child rows) i (name_and_child d)).0 name ≡ Less =
    sorted_less nat_list_cmp_total name (map name_and_child rows) i j (name_and_child d) (is_true _ s) le (omega arith) less in
    ap is_lt (subst (λ (e : List ℕ × ℕ). name_cmp e.0 name ≡ Less) ei before)

pub IsPlaceOf-partition : (rows : List NameRow) (name : List ℕ) (place : ℕ) → place ≤ length rows
    → IsPartitionPoint (λ (row : NameRow). is_lt (name_cmp row.name name) ≡ true) (λ (row : NameRow). is_lt (name_cmp row.name name) ≡ false) rows place
    → IsPlaceOf (map name_and_child rows) name place
IsPlaceOf-partition rows name place le p =
    let n = length-map rows name_and_child in
    record {
      within = omega arith;
      before =
          λ k d low high. point_of name_and_child (λ (e : List ℕ × ℕ). name_cmp e.0 name ≡ Less) rows k (omega arith)
          (λ row. less_true _ (p.0 k row low high)) d;
      behind =
          λ k d low high. point_of name_and_child (λ (e : List ℕ × ℕ). name_cmp e.0 name ≢ Less) rows k (omega arith)
          (λ row. not_less _ (p.1 k row low (omega arith))) d;
    }

-- what the row where the search ended tells: it is the one, or there is none
pub find-at_row : (rows : List NameRow) (row : NameRow) (name : List ℕ) (place : ℕ) (same : Bool) → row ≡ get_or rows place row → place < length rows
    → same ≡ bytes_eq row.name name → IsTrue (is_sorted name_cmp (map name_and_child rows)) → IsPlaceOf (map name_and_child rows) name place
    → cond same (Some row.child.0) None ≡ find name_cmp name (map name_and_child rows)
find-at_row rows row name place same is lt e s p =
    let split : drop place rows ≡ row ∷ drop (suc place) rows = drop-cons rows place row lt ∙ ap (λ r. r ∷ drop (suc place) rows) (sym is) in
    let test : same ≡ eq_by_cmp name_cmp name row.name = e ∙ sym (is_eq-slice_cmp row.name name) ∙ (eq_by_cmp_equiv nat_list_cmp_total).symm row.name name in
    ap (λ b. cond b (Some row.child.0) None) test
    ∙ sym (find-at_place rows name place s p ∙ ap (λ l. first_if {R = name_cmp} nat_list_cmp_total name (map name_and_child l)) split)
