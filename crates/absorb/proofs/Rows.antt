-- The rows that the last changes make are the net.
use Rattle.std.proofs.Common.{◌≡◌, ◌≢◌, ℕ, Bool, true, false, cond, T, List, [], ◌∷◌, map, Option, Some, None, refl, sym, ap, subst, ◌∙◌, arith}
use Rattle.std.specs.Prelude.{bytes_eq, filter_map, Contains, All, if◌then◌else◌}
use Rattle.std.specs.List.{AllByRecursion, cons_option, find}
use Rattle.std.specs.Option.{option_eq}
use Rattle.std.specs.Ordering.{eq_by_cmp, is_eq}
use Rattle.std.specs.List.Sorted.{IsStrictlySortedBy}
use Rattle.std.specs.declared.cmp.Ordering.TheVariants.{Less}
use Rattle.std.specs.Cmp.{tied_itself}
use Rattle.std.specs.Cmp.Lexicographic.{nat_list_cmp_total}
use Rattle.std.specs.FinMap as finmap
use Rattle.std.specs.FinMap.{FinMap, get, is_sorted}
use Rattle.std.specs.FinMap.Entries.{below_all}
use Rattle.std.proofs.lemmas.List.Elements.{All-nil, All-cons, Contains-append_right}
use Rattle.std.proofs.lemmas.Map.Text.{is_eq-slice_cmp}
use denote.Ref.{Bor}
use Rattle.sfs_base.specs.declared.numbers.NodeId.{NodeId}
use Rattle.tree_laws.specs.Order.{name_cmp}
use Rattle.tree_laws.specs.NameRow.{number_of}
use Rattle.tree_laws.specs.declared.changes.Change.{Change}
use Rattle.tree_laws.proofs.Joined.{is_equal, name_cmp-IsAntisymmetric}
use Rattle.tree_laws.proofs.RowsByName.{is_true}
use Rattle.tree_laws.proofs.Search.{is_less, not_found, below_if_tied}
use Rattle.sfs_base.proofs.BasicTruth.{both_second}
use Rattle.sfs_base.proofs.BasicTruth.{both_first}
use borrow.Author.Tests.{eqb-true, eq-eqb}
use Rattle.absorb.specs.declared.nets.NetRow.{NetRow}
use Rattle.absorb.specs.Net.{rows_with_changes, child_after, net_name, IsNetRow, IsNet}
use Rattle.absorb.specs.Last.{last_change, lent, lent_row, AreLast, node_id_of, same_node, net_row, net_row_by}
use Rattle.absorb.proofs.LastChanges.{left_by, get-rows_after}

pub number-of_node : (o : Option ℕ) → number_of (node_id_of o) ≡ o
number-of_node (Some number) = refl
number-of_node None = refl

-- the test of two children tells whether they are one
pub same_child : (a b : Option NodeId) → option_eq same_node a b ≡ true → a ≡ b
same_child (Some a) (Some b) e = ap (λ number. Some (record { 0 = number })) (eqb-true _ _ e)
same_child (Some a) None e = absurd (cc)
same_child None (Some b) e = absurd (cc)
same_child None None e = refl

pub same_itself : (a : Option NodeId) → option_eq same_node a a ≡ true
same_itself (Some a) = eq-eqb a.0 a.0 refl
same_itself None = refl

pub not_same : (a b : Option NodeId) → option_eq same_node a b ≡ false → a ≢ b
not_same a b e is = let both = sym e ∙ ap (option_eq same_node a) (sym is) ∙ same_itself a in absurd (cc)

-- what holds with a name's row and without it, as its children differ or not, holds of what the name adds
pub by_children : (P : List NetRow → Type 0) (name : List ℕ) (before after : Option NodeId) (rest : List NetRow) → (before ≡ after → P rest)
    → (before ≢ after → P (record { name = name; before = before; after = after } ∷ rest)) → P (cons_option (net_row name before after) rest)
by_children P name before after rest f g =
    elim (option_eq same_node before after) as (λ b. option_eq same_node before after ≡ b
    → P (cons_option (if b then None else Some (record { name = name; before = before; after = after })) rest)) [
      | true ↦ λ e. f (same_child before after e)
      | false ↦ λ e. g (not_same before after e)
    ] refl

-- Changes that are found under their own names, and leave them the children that they have later.
record IsTold (later : FinMap name_cmp ℕ) (last : List (List ℕ × Change)) : Type 0 where
  sorted : T (is_sorted name_cmp last)
  named : (name : List ℕ) (change : Change) → finmap.find name_cmp name last ≡ Some change → change.name ≡ name
  leaves : (name : List ℕ) (change : Change) → finmap.find name_cmp name last ≡ Some change → get later name ≡ number_of (child_after change.act change.child)

first_found : (e : List ℕ × Change) (es : List (List ℕ × Change)) → finmap.find name_cmp e.0 (e ∷ es) ≡ Some e.1
first_found e es = ap (λ r. cond (is_eq r) (Some e.1) (finmap.find name_cmp e.0 es)) (tied_itself nat_list_cmp_total e.0)

-- what is found behind the first of an ascending list is found in all of it
later_found : (e : List ℕ × Change) (es : List (List ℕ × Change)) (name : List ℕ) (change : Change) → T (is_sorted name_cmp (e ∷ es))
    → finmap.find name_cmp name es ≡ Some change → finmap.find name_cmp name (e ∷ es) ≡ Some change
later_found e es name change s is =
    elim (eq_by_cmp name_cmp name e.0) as (λ b. eq_by_cmp name_cmp name e.0 ≡ b → cond b (Some e.1) (finmap.find name_cmp name es) ≡ Some change) [
      | true ↦ λ t.
          let none = not_found nat_list_cmp_total name es (below_if_tied nat_list_cmp_total name e.0 es (is_equal _ t) (both_first _ _ s)) in
          absurd (cc)
      | false ↦ λ _. is
    ] refl

told_rest : (later : FinMap name_cmp ℕ) (e : List ℕ × Change) (es : List (List ℕ × Change)) → IsTold later (e ∷ es) → IsTold later es
told_rest later e es h = record {
  sorted = both_second _ _ h.sorted;
  named = λ name change is. h.named name change (later_found e es name change h.sorted is);
  leaves = λ name change is. h.leaves name change (later_found e es name change h.sorted is);
}

module _ (earlier later : FinMap name_cmp ℕ) where
  abbrev rows_by : List (List ℕ × Change) → List NetRow
  rows_by = filter_map (λ e. net_row_by earlier e.1)

  each_row : (last : List (List ℕ × Change)) → IsTold later last → All (IsNetRow earlier later) (rows_by last)
  each_row [] h = All-nil (IsNetRow earlier later)
  each_row (e ∷ es) h =
      let rest = each_row es (told_rest later e es h) in
      let found = first_found e es in
      by_children (All (IsNetRow earlier later)) e.1.name (node_id_of (get earlier e.1.name)) (child_after e.1.act e.1.child) (rows_by es) (λ _. rest)
      (λ differ.
      All-cons (IsNetRow earlier later) _ _ (record {
        before = number-of_node (get earlier e.1.name);
        after = sym (h.leaves e.0 e.1 found) ∙ ap (get later) (sym (h.named e.0 e.1 found));
        differs = differ;
      }) rest)

  names_behind : (name : List ℕ) (last : List (List ℕ × Change)) → T (below_all name_cmp name last) → IsTold later last
      → AllByRecursion (λ other. name_cmp name other ≡ Less) (map net_name (rows_by last))
  names_behind name [] below h = tt
  names_behind name (e ∷ es) below h =
      let rest = names_behind name es (both_second _ _ below) (told_rest later e es h) in
      by_children (λ rows. AllByRecursion (λ other. name_cmp name other ≡ Less) (map net_name rows)) e.1.name (node_id_of (get earlier e.1.name))
      (child_after e.1.act e.1.child) (rows_by es) (λ _. rest) (λ _.
      (ap (name_cmp name) (h.named e.0 e.1 (first_found e es)) ∙ is_less _ (both_first _ _ below), rest))

  names_ascend : (last : List (List ℕ × Change)) → IsTold later last → IsStrictlySortedBy name_cmp (map net_name (rows_by last))
  unfolding IsStrictlySortedBy
  names_ascend [] h = tt
  names_ascend (e ∷ es) h =
      let rest = names_ascend es (told_rest later e es h) in
      let below = subst (λ name. T (below_all name_cmp name es)) (sym (h.named e.0 e.1 (first_found e es))) (both_first _ _ h.sorted) in
      by_children (λ rows. IsStrictlySortedBy name_cmp (map net_name rows)) e.1.name (node_id_of (get earlier e.1.name)) (child_after e.1.act e.1.child)
      (rows_by es) (λ _. rest) (λ _.
      (names_behind e.1.name es below (told_rest later e es h), rest))

  first_in : (name : List ℕ) (names : List (List ℕ)) → Contains (name ∷ names) name
  first_in name names = (0, omega arith, refl)

  -- a change that leaves its name another child has its row
  has_row : (name : List ℕ) (change : Change) (last : List (List ℕ × Change)) → IsTold later last → finmap.find name_cmp name last ≡ Some change
      → get earlier name ≢ get later name → Contains (map net_name (rows_by last)) name
  has_row name change [] h is differ = absurd (cc)
  has_row name change (e ∷ es) h is differ =
      elim (eq_by_cmp name_cmp name e.0) as (λ b. eq_by_cmp name_cmp name e.0 ≡ b → cond b (Some e.1) (finmap.find name_cmp name es) ≡ Some change
      → Contains (map net_name (rows_by (e ∷ es))) name) [
        | true ↦ λ t _. here (name_cmp-IsAntisymmetric name e.0 (is_equal _ t) ∙ sym (h.named e.0 e.1 (first_found e es)))
        | false ↦ λ _ rest. behind (has_row name change es (told_rest later e es h) rest differ)
      ] refl is
    where
      here : name ≡ e.1.name → Contains (map net_name (rows_by (e ∷ es))) name
      here same =
          let found = first_found e es in
          by_children (λ rows. Contains (map net_name rows) name) e.1.name (node_id_of (get earlier e.1.name)) (child_after e.1.act e.1.child) (rows_by es)
          (λ one.
          absurd
          (differ
          (ap (get earlier) same ∙ sym (number-of_node _) ∙ ap number_of one ∙ sym (h.leaves e.0 e.1 found)
          ∙ ap (get later) (sym (h.named e.0 e.1 found)) ∙ ap (get later) (sym same))))
          (λ _.
          subst (λ n. Contains (e.1.name ∷ map net_name (rows_by es)) n) (sym same) (first_in e.1.name _))

      behind : Contains (map net_name (rows_by es)) name → Contains (map net_name (rows_by (e ∷ es))) name
      behind has =
          by_children (λ rows. Contains (map net_name rows) name) e.1.name (node_id_of (get earlier e.1.name)) (child_after e.1.act e.1.child) (rows_by es)
          (λ _. has) (λ _.
          Contains-append_right (e.1.name ∷ []) (map net_name (rows_by es)) name has)

-- a change that is found by a test passes it
found_passes : (test : Change → Bool) (changes : List Change) (change : Change) → find test changes ≡ Some change → test change ≡ true
found_passes test [] change is = absurd (cc)
found_passes test (c ∷ cs) change is =
    elim (test c) as (λ b. test c ≡ b → cond b (Some c) (find test cs) ≡ Some change → test change ≡ true) [
      | true ↦ λ t found. let one : c ≡ change = cc in ap test (sym one) ∙ t
      | false ↦ λ _ found. found_passes test cs change found
    ] refl is

last_has_name : (name : List ℕ) (changes : List Change) (change : Change) → last_change name changes ≡ Some change → change.name ≡ name
last_has_name name changes change is =
    sym (name_cmp-IsAntisymmetric name change.name (is_equal _ (is_eq-slice_cmp name change.name ∙ found_passes (λ c. bytes_eq name c.name) _ change is)))

-- what a change that is found in the last ones leaves
told : (earlier : FinMap name_cmp ℕ) (changes : List Change) (last : List (List ℕ × Change)) → AreLast changes last
    → IsTold (rows_with_changes earlier changes) last
told earlier changes last h = record {
  sorted = is_true _ h.ascending;
  named = λ name change is. last_has_name name changes change (sym (h.found name) ∙ is);
  leaves = λ name change is. get-rows_after earlier changes name ∙ ap (λ o. left_by o (get earlier name)) (sym (h.found name) ∙ is);
}

-- the rows that the last changes make are the net of the rows before all changes and after them
IsNet-from_last : (earlier : FinMap name_cmp ℕ) (changes : List Change) (last : List (List ℕ × Change)) → AreLast changes last
    → IsNet earlier (rows_with_changes earlier changes) (filter_map (λ e. net_row_by earlier e.1) last)
IsNet-from_last earlier changes last h = record {
  ascending = names_ascend earlier (rows_with_changes earlier changes) last (told earlier changes last h);
  each = each_row earlier (rows_with_changes earlier changes) last (told earlier changes last h);
  complete = λ name differ. by_last name differ (finmap.find name_cmp name last) refl;
}
  where
    by_last : (name : List ℕ) → get earlier name ≢ get (rows_with_changes earlier changes) name → (o : Option Change) → finmap.find name_cmp name last ≡ o
        → Contains (map net_name (filter_map (λ e. net_row_by earlier e.1) last)) name
    by_last name differ (Some change) is = has_row earlier (rows_with_changes earlier changes) name change last (told earlier changes last h) is differ
    by_last name differ None is = absurd (differ (sym (get-rows_after earlier changes name ∙ ap (λ o. left_by o (get earlier name)) (sym (h.found name) ∙ is))))

-- what changes that are lent make
rows-lent : (earlier : FinMap name_cmp ℕ) (entries : List (Bor (List ℕ) × Bor Change))
    → filter_map (lent_row earlier) entries ≡ filter_map (λ e. net_row_by earlier e.1) (lent entries)
rows-lent earlier [] = refl
rows-lent earlier (e ∷ es) = ap (cons_option (net_row_by earlier e.1.now)) (rows-lent earlier es)

-- the same of last changes that are lent
pub IsNet-from_lent : (earlier : FinMap name_cmp ℕ) (changes given : List Change) (entries : List (Bor (List ℕ) × Bor Change)) (net : List NetRow)
    → given ≡ changes → net ≡ filter_map (lent_row earlier) entries → AreLast given (lent entries) → IsNet earlier (rows_with_changes earlier changes) net
IsNet-from_lent earlier changes given entries net same is h =
    subst (IsNet earlier (rows_with_changes earlier changes)) (sym (is ∙ rows-lent earlier entries))
    (IsNet-from_last earlier changes (lent entries) (subst (λ cs. AreLast cs (lent entries)) same h))
