-- The nets of all directories whose rows differ give each node's link count.
use Rattle.std.proofs.Common.{◌≡◌, ◌≢◌, ℕ, ◌+◌, Bool, true, false, cond, ◌||◌, ◌&&◌, List, [], ◌∷◌, ◌++◌, map, Option, Some, None, ◌⊎◌, inl, inr, refl, sym, ap, subst, ◌∙◌, arith, count_by, nat_eq}
use borrow.Author.Tests.{eqb-true}
use Rattle.std.specs.Prelude.{bytes_eq, All}
use Rattle.std.specs.List.{AllByRecursion, list_any}
use Rattle.std.specs.List.Sorted.{IsStrictlySortedBy}
use Rattle.std.specs.declared.cmp.Ordering.TheVariants.{Less}
use Rattle.std.specs.Ordering.{nat_cmp, is_eq}
use Rattle.std.specs.Cmp.{tied_itself, nat_cmp_total}
use Rattle.std.specs.FinMap.{FinMap, get, entries, insert, remove}
use Rattle.std.proofs.lemmas.List.Elements.{All-head, All-tail}
use Rattle.std.proofs.lemmas.List.Sums.{sum_by-cons}
use Rattle.tree_laws.specs.NameRow.{number_of}
use Rattle.tree_laws.specs.Order.{Key, key_cmp}
use Rattle.tree_laws.specs.Tree.{TreeState, is_directory, is_directory_kind, count_of, links_of, names_it, names_of, holds_directory}
use Rattle.tree_laws.proofs.Counting.{same_rows, none_removed, count-remove, get_other-remove, get_other-insert, get_same-insert, count_agree}
use Rattle.tree_laws.proofs.Joined.{is_equal, count-insert}
use Rattle.tree_laws.proofs.Names.{get-names_where}
use Rattle.tree_laws.proofs.RowFacts.{is_here}
use Rattle.absorb.specs.declared.nets.NetRow.{NetRow}
use Rattle.absorb.specs.Net.{IsNetRow, IsNet}
use Rattle.image_laws.specs.Commit.{row_in_net}
use Rattle.image_laws.specs.LinkChanges.{NetChange, net_changes, counted_row, gained, lost, AreAllNets}
use Rattle.image_laws.specs.Laws.{NetsGiveLinks}
use Rattle.sfs_base.proofs.BasicTruth.{not_both}
use Rattle.sfs_base.proofs.BasicOptions.{none_some}
use Rattle.sfs_base.proofs.BasicLists.{bytes_same, same_bytes}
use Rattle.image_laws.proofs.NetRows.{no_net_row, HasNamesOnce, once_ascending, equal_not_less}
use Rattle.tree_laws.proofs.Readings.{directory_by_kind}
use Rattle.sfs_base.proofs.BasicNumbers.{from_plus_zero}

Rows : Type 0
Rows = FinMap key_cmp ℕ

abbrev key_of : NetChange → Key
key_of change = (change.0, change.1.name)

-- no change is at a key
NotAmong : Key → List NetChange → Type 0
NotAmong k [] = Unit {0}
NotAmong k (c ∷ cs) = (key_of c ≢ k) × NotAmong k cs

-- each change is at a key of its own
AtOwnKeys : List NetChange → Type 0
unfolding NotAmong
AtOwnKeys [] = Unit {0}
AtOwnKeys (c ∷ cs) = NotAmong (key_of c) cs × AtOwnKeys cs

-- each change tells what stands at its key before and after
Tells : FinMap key_cmp ℕ → FinMap key_cmp ℕ → List NetChange → Type 0
Tells old new [] = Unit {0}
Tells old new (c ∷ cs) = ((number_of c.1.before ≡ get old (key_of c)) × (number_of c.1.after ≡ get new (key_of c))) × Tells old new cs

-- rows with what stands at a key afterwards
abbrev with_child : FinMap key_cmp ℕ → Key → Option ℕ → FinMap key_cmp ℕ
with_child rows k None = remove rows k
with_child rows k (Some x) = insert (remove rows k) k x

other_child : (rows : FinMap key_cmp ℕ) (k q : Key) (o : Option ℕ) → q ≢ k → get (with_child rows k o) q ≡ get rows q
other_child rows k q None other = get_other-remove rows k q other
other_child rows k q (Some x) other = get_other-insert (remove rows k) k q x other ∙ get_other-remove rows k q other

own_child : (rows : FinMap key_cmp ℕ) (k : Key) (o : Option ℕ) → get (with_child rows k o) k ≡ o
own_child rows k None = none_removed rows k
own_child rows k (Some x) = get_same-insert (remove rows k) k x

same_key : (q k : Key) → (q ≡ k) ⊎ (q ≢ k)
same_key q k = elim (is_here q.0 k.0 q.1 k.1) [
  | inl same ↦ inl (λ i. (same.0 i, same.1 i))
  | inr apart ↦ inr (λ e. apart (ap (λ (z : Key). z.0) e) (ap (λ (z : Key). z.1) e))
]

module _ (p : Key × ℕ → Bool) where
  abbrev passing : FinMap key_cmp ℕ → ℕ
  passing rows = count_by p (entries rows)

  count_without : (rows : FinMap key_cmp ℕ) (k : Key) (o : Option ℕ) → o ≡ get rows k → passing rows ≡ passing (remove rows k) + counted_row p k o
  count_without rows k (Some x) is = count-remove rows k x p (sym is)
  count_without rows k None is = ap passing (sym unchanged) ∙ from_plus_zero _
    where
      unchanged : remove rows k ≡ rows
      unchanged = same_rows (remove rows k) rows (λ q. elim (same_key q k) [
        | inl same ↦ ap (get (remove rows k)) same ∙ none_removed rows k ∙ is ∙ ap (get rows) (sym same)
        | inr other ↦ get_other-remove rows k q other
      ])

  count_with : (rows : FinMap key_cmp ℕ) (k : Key) (o : Option ℕ) → passing (with_child rows k o) ≡ passing (remove rows k) + counted_row p k o
  count_with rows k None = from_plus_zero _
  count_with rows k (Some x) = count-insert (remove rows k) k x p (none_removed rows k)

  -- what all changes come to in a count
  counted_changes : (cs : List NetChange) (old new : FinMap key_cmp ℕ) → AtOwnKeys cs → Tells old new cs →
      ((k : Key) → NotAmong k cs → get old k ≡ get new k) → passing new + lost p cs ≡ passing old + gained p cs
  unfolding AtOwnKeys Tells NotAmong
  counted_changes [] old new own tells rest = ap (λ rows. passing rows + 0) (sym (same_rows old new (λ k. rest k tt)))
  counted_changes (c ∷ cs) old new own tells rest =
      let step = counted_changes cs (with_child old (key_of c) (number_of c.1.after)) new own.1 (moved cs own.0 tells.1) others in
      let a = count_without old (key_of c) (number_of c.1.before) tells.0.0 in
      let b = count_with old (key_of c) (number_of c.1.after) in
      let d = sum_by-cons (λ (change : NetChange). counted_row p (change.0, change.1.name) (number_of change.1.before)) c cs in
      let e = sum_by-cons (λ (change : NetChange). counted_row p (change.0, change.1.name) (number_of change.1.after)) c cs in
      omega arith
    where
      moved : (cs : List NetChange) → NotAmong (key_of c) cs → Tells old new cs → Tells (with_child old (key_of c) (number_of c.1.after)) new cs
      moved [] apart tells = tt
      moved (b ∷ bs) apart tells =
          ((tells.0.0 ∙ sym (other_child old (key_of c) (key_of b) (number_of c.1.after) apart.0), tells.0.1), moved bs apart.1 tells.1)

      others : (k : Key) → NotAmong k cs → get (with_child old (key_of c) (number_of c.1.after)) k ≡ get new k
      others k apart = elim (same_key k (key_of c)) [
        | inl same ↦
            ap (get (with_child old (key_of c) (number_of c.1.after))) same ∙ own_child old (key_of c) (number_of c.1.after) ∙ tells.0.1
            ∙ ap (get new) (sym same)
        | inr other ↦ other_child old (key_of c) k (number_of c.1.after) other ∙ rest k (λ same. other (sym same), apart)
      ]

-- the changes of one directory
abbrev in_directory : ℕ → List NetRow → List NetChange
in_directory d net = map (λ row. (d, row)) net

not_among_append : (k : Key) (xs ys : List NetChange) → NotAmong k xs → NotAmong k ys → NotAmong k (xs ++ ys)
unfolding NotAmong
not_among_append k [] ys a b = b
not_among_append k (x ∷ xs) ys a b = (a.0, not_among_append k xs ys a.1 b)

not_among_first : (k : Key) (xs ys : List NetChange) → NotAmong k (xs ++ ys) → NotAmong k xs
unfolding NotAmong
not_among_first k [] ys a = tt
not_among_first k (x ∷ xs) ys a = (a.0, not_among_first k xs ys a.1)

not_among_second : (k : Key) (xs ys : List NetChange) → NotAmong k (xs ++ ys) → NotAmong k ys
unfolding NotAmong
not_among_second k [] ys a = a
not_among_second k (x ∷ xs) ys a = not_among_second k xs ys a.1

-- another directory's changes are at other keys
elsewhere : (k : Key) (d : ℕ) (net : List NetRow) → d ≢ k.0 → NotAmong k (in_directory d net)
unfolding NotAmong
elsewhere k d [] other = tt
elsewhere k d (row ∷ rows) other = (λ same. other (ap (λ (z : Key). z.0) same), elsewhere k d rows other)

-- a name without a row in the net of a directory, and back
no_change : (d : ℕ) (n : List ℕ) (net : List NetRow) → row_in_net n net ≡ None → NotAmong (d, n) (in_directory d net)
unfolding NotAmong
no_change d n [] none = tt
no_change d n (row ∷ rows) none =
    elim (bytes_eq n row.name) as (λ b. bytes_eq n row.name ≡ b → cond b (Some row) (row_in_net n rows) ≡ None
    → NotAmong (d, n) (in_directory d (row ∷ rows))) [
      | true ↦ λ t e. absurd (none_some (sym e))
      | false ↦ λ t e. (λ same. not_both (ap (bytes_eq n) (ap (λ (z : Key). z.1) same) ∙ same_bytes n) t, no_change d n rows e)
    ] refl none

change_none : (d : ℕ) (n : List ℕ) (net : List NetRow) → NotAmong (d, n) (in_directory d net) → row_in_net n net ≡ None
unfolding NotAmong
change_none d n [] apart = refl
change_none d n (row ∷ rows) apart =
    elim (bytes_eq n row.name) as (λ b. bytes_eq n row.name ≡ b → cond b (Some row) (row_in_net n rows) ≡ None) [
      | true ↦ λ t. absurd (apart.0 (ap (λ (m : List ℕ). (d, m)) (sym (bytes_same n row.name t))))
      | false ↦ λ t. change_none d n rows apart.1
    ] refl

own_keys : (d : ℕ) (net : List NetRow) → HasNamesOnce net → AtOwnKeys (in_directory d net)
unfolding AtOwnKeys HasNamesOnce
own_keys d [] once = tt
own_keys d (row ∷ rows) once = (no_change d row.name rows once.0, own_keys d rows once.1)

less_apart : (d e : ℕ) → nat_cmp d e ≡ Less → e ≢ d
less_apart d e less same = equal_not_less (sym (is_equal _ (ap is_eq (tied_itself nat_cmp_total d))) ∙ ap (nat_cmp d) (sym same) ∙ less)

module _ (old new : TreeState) (nets : ℕ → List NetRow) (each : (d : ℕ) → IsNet (names_of d old.rows) (names_of d new.rows) (nets d)) where
  -- a directory's changes are at keys that no later member's changes have
  later_apart : (k : Key) (members : List ℕ) → AllByRecursion (λ other. nat_cmp k.0 other ≡ Less) members → NotAmong k (net_changes nets members)
  unfolding NotAmong
  later_apart k [] all = tt
  later_apart k (m ∷ members) all =
      not_among_append k (in_directory m (nets m)) (net_changes nets members) (elsewhere k m (nets m) (less_apart k.0 m all.0)) (later_apart k members all.1)

  joined_keys : (d : ℕ) (net : List NetRow) (rest : List NetChange) → AtOwnKeys (in_directory d net) → AtOwnKeys rest →
      ((n : List ℕ) → NotAmong (d, n) rest) → AtOwnKeys (in_directory d net ++ rest)
  unfolding AtOwnKeys
  joined_keys d [] rest own others apart = others
  joined_keys d (row ∷ rows) rest own others apart =
      (not_among_append (d, row.name) (in_directory d rows) rest own.0 (apart row.name), joined_keys d rows rest own.1 others apart)

  all_keys : (members : List ℕ) → IsStrictlySortedBy nat_cmp members → AtOwnKeys (net_changes nets members)
  unfolding AtOwnKeys IsStrictlySortedBy
  all_keys [] up = tt
  all_keys (m ∷ members) up =
      joined_keys m (nets m) (net_changes nets members) (own_keys m (nets m) (once_ascending (nets m) (each m).ascending)) (all_keys members up.1)
      (λ n. later_apart (m, n) members up.0)

  tells_one : (d : ℕ) (net : List NetRow) (rest : List NetChange) → All (IsNetRow (names_of d old.rows) (names_of d new.rows)) net →
      Tells old.rows new.rows rest → Tells old.rows new.rows (in_directory d net ++ rest)
  unfolding Tells
  tells_one d [] rest all others = others
  tells_one d (row ∷ rows) rest all others =
      let here = All-head (IsNetRow (names_of d old.rows) (names_of d new.rows)) row rows all in (
        (here.before ∙ get-names_where d (λ _. true) old.rows row.name, here.after ∙ get-names_where d (λ _. true) new.rows row.name),
        tells_one d rows rest (All-tail (IsNetRow (names_of d old.rows) (names_of d new.rows)) row rows all) others,
      )

  tells_all : (members : List ℕ) → Tells old.rows new.rows (net_changes nets members)
  unfolding Tells
  tells_all [] = tt
  tells_all (m ∷ members) = tells_one m (nets m) (net_changes nets members) (each m).each (tells_all members)

  -- a key that no change is at has no change in its directory's net
  own_net : (k : Key) (members : List ℕ) → list_any (λ member. nat_eq member k.0) members ≡ true → NotAmong k (net_changes nets members) →
      NotAmong k (in_directory k.0 (nets k.0))
  own_net k [] has apart = absurd (not_both has refl)
  own_net k (m ∷ members) has apart =
      elim (nat_eq m k.0) as (λ b. nat_eq m k.0 ≡ b → (b || list_any (λ member. nat_eq member k.0) members) ≡ true → NotAmong k (in_directory k.0 (nets k.0))) [
        | true ↦
            λ t _. subst (λ (d : ℕ). NotAmong k (in_directory d (nets d))) (eqb-true _ _ t)
            (not_among_first k (in_directory m (nets m)) (net_changes nets members) apart)
        | false ↦ λ t h. own_net k members h (not_among_second k (in_directory m (nets m)) (net_changes nets members) apart)
      ] refl has

  unchanged : (members : List ℕ) → ((d : ℕ) → list_any (λ member. nat_eq member d) members ≡ false → nets d ≡ []) → (k : Key) →
      NotAmong k (net_changes nets members) → get old.rows k ≡ get new.rows k
  unchanged members others k apart =
      sym (get-names_where k.0 (λ _. true) old.rows k.1)
      ∙ no_net_row (names_of k.0 old.rows) (names_of k.0 new.rows) (nets k.0) (each k.0) k.1 no_row
      ∙ get-names_where k.0 (λ _. true) new.rows k.1
    where
      no_row : row_in_net k.1 (nets k.0) ≡ None
      no_row =
          elim (list_any (λ member. nat_eq member k.0) members) as (λ b. list_any (λ member. nat_eq member k.0) members ≡ b
          → row_in_net k.1 (nets k.0) ≡ None) [
            | true ↦ λ t. change_none k.0 k.1 (nets k.0) (own_net k members t apart)
            | false ↦ λ t. ap (row_in_net k.1) (others k.0 t)
          ] refl

-- rows that pass a test, with those that went, are those before with those that came
pub counted_by_nets : (old new : TreeState) (nets : ℕ → List NetRow) (members : List ℕ) (p : Key × ℕ → Bool) → AreAllNets old new nets members →
    count_by p (entries new.rows) + lost p (net_changes nets members) ≡ count_by p (entries old.rows) + gained p (net_changes nets members)
counted_by_nets old new nets members p h =
    counted_changes p (net_changes nets members) old.rows new.rows (all_keys old new nets h.each members h.ascending) (tells_all old new nets h.each members)
    (unchanged old new nets h.each members h.others)

pub nets_give_links : NetsGiveLinks
nets_give_links old new nets members x h =
    elim (is_directory new x) as (λ b. is_directory new x ≡ b
    → links_of new x + lost (cond b (holds_directory new x) (names_it x)) (net_changes nets members)
    ≡ links_of old x + gained (cond b (holds_directory new x) (names_it x)) (net_changes nets members)) [
      | true ↦ λ t.
          let a = links_if new true t in
          let b = links_if old true (same x ∙ t) in
          let c = counted_by_nets old new nets members (holds_directory new x) h in
          let d = agree in
          omega arith
      | false ↦ λ t.
          let a = links_if new false t in
          let b = links_if old false (same x ∙ t) in
          let c = counted_by_nets old new nets members (names_it x) h in
          omega arith
    ] refl
  where
    same : (y : ℕ) → is_directory old y ≡ is_directory new y
    same y = directory_by_kind old y ∙ ap is_directory_kind (sym (h.kinds y)) ∙ sym (directory_by_kind new y)

    agree : count_by (holds_directory old x) (entries old.rows) ≡ count_by (holds_directory new x) (entries old.rows)
    agree = count_agree (holds_directory old x) (holds_directory new x) old.rows (λ k y _. ap (λ b. nat_eq k.0 x && b) (same y))

    links_if : (tree : TreeState) (b : Bool) → is_directory tree x ≡ b →
        links_of tree x ≡ cond b (2 + count_by (holds_directory tree x) (entries tree.rows)) (count_of tree.rows x)
    links_if tree b e = ap (λ b. cond b (2 + count_by (holds_directory tree x) (entries tree.rows)) (count_of tree.rows x)) e
