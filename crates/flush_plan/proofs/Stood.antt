-- The net of changes by the changes alone is that of any rows which the changes fit, and the changes fit the rows that they tell.
use Rattle.std.proofs.Common.{◌≡◌, ◌≢◌, ℕ, Bool, true, false, cond, List, [], ◌∷◌, ◌++◌, map, reverse, Option, Some, None, refl, sym, ap, ◌∙◌}
use Rattle.std.specs.Prelude.{bytes_eq, Contains, filter_map, option_map}
use denote.Ref.{Bor}
use Rattle.std.specs.List.{find, cons_option}
use Rattle.std.specs.Ordering.{nat_cmp, is_eq}
use Rattle.std.specs.BTreeMap.{is_at}
use Rattle.std.specs.Map.{lookup}
use Rattle.std.specs.Cmp.Lexicographic.{slice_cmp}
use Rattle.std.specs.FinMap as finmap
use Rattle.std.specs.FinMap.{FinMap, get, empty, get-empty}
use Rattle.std.proofs.lemmas.List.{reverse-append, reverse-reverse}
use Rattle.std.proofs.lemmas.List.Folds.{find-append}
use Rattle.std.specs.Option.{option_or}
use Rattle.std.proofs.lemmas.Map.Text.{is_eq-slice_cmp}
use Rattle.sfs_base.proofs.BasicOptions.{none_some}
use Rattle.sfs_base.specs.declared.numbers.NodeId.{NodeId}
use Rattle.tree_laws.specs.Order.{name_cmp}
use Rattle.tree_laws.specs.NameRow.{number_of}
use Rattle.tree_laws.specs.declared.changes.Act.{Act}
use Rattle.tree_laws.specs.declared.changes.Act.TheVariants.{Add, Remove}
use Rattle.tree_laws.specs.declared.changes.Change.{Change}
use Rattle.tree_laws.proofs.Joined.{is_equal, name_cmp-IsAntisymmetric}
use Rattle.absorb.specs.declared.nets.NetRow.{NetRow}
use Rattle.absorb.specs.Last.{last_change, lent, lent_row, AreLast, node_id_of, net_row}
use Rattle.absorb.specs.Net.{IsNetRow, IsNet, rows_with_changes, child_after}
use Rattle.absorb.proofs.LastChanges.{left_by, get-rows_after}
use Rattle.absorb.proofs.Rows.{IsNet-from_lent}
use Rattle.flush_plan.specs.Ends.{LentChanges, child_lent, lent_between}
use Rattle.flush_plan.specs.Net.{child_before, first_change, stood_before, left_by_change, before_by, after_by, IsRowBy, IsNetBy}
use Rattle.flush_plan.specs.Laws.{FitsRows, FitRows, NetsNeedNoRows}

module _ {X : Type 0} (test : X → Bool) where
  -- what is found in neither of two lists is not found in both together
  none_joined : (xs ys : List X) → find test xs ≡ None → find test ys ≡ None → find test (xs ++ ys) ≡ None
  none_joined xs ys front back = find-append test xs ys ∙ ap (λ o. option_or o (find test ys)) front ∙ back

  -- what is not found is not found from the end either
  pub none_reversed : (xs : List X) → find test xs ≡ None → find test (reverse xs) ≡ None
  none_reversed [] none = refl
  none_reversed (x ∷ xs) none =
      ap (find test) (reverse-append (x ∷ []) xs)
      ∙ elim (test x) as (λ b. test x ≡ b → cond b (Some x) (find test xs) ≡ None → find test (reverse xs ++ x ∷ []) ≡ None) [
        | true ↦ λ is found. absurd (none_some (sym found))
        | false ↦ λ is rest. none_joined (reverse xs) (x ∷ []) (none_reversed xs rest) (ap (λ b. cond b (Some x) None) is)
      ] refl none

-- a name has a last change where it has a first one, and a first one where it has a last one
no_last : (name : List ℕ) (changes : List Change) → first_change name changes ≡ None → last_change name changes ≡ None
no_last name changes none = none_reversed (λ change. bytes_eq name change.name) changes none

no_first : (name : List ℕ) (changes : List Change) → last_change name changes ≡ None → first_change name changes ≡ None
no_first name changes none = ap (first_change name) (sym (reverse-reverse changes)) ∙ none_reversed (λ change. bytes_eq name change.name) (reverse changes) none

-- what one change leaves a name with
one_made : (rows : FinMap name_cmp ℕ) (change : Change) (name : List ℕ)
    → get (rows_with_changes rows (change ∷ [])) name ≡ cond (bytes_eq name change.name) (number_of (child_after change.act change.child)) (get rows name)
one_made rows change name = get-rows_after rows (change ∷ []) name ∙ by (bytes_eq name change.name)
  where
    by : (b : Bool) → left_by (cond b (Some change) None) (get rows name) ≡ cond b (number_of (child_after change.act change.child)) (get rows name)
    by true = refl
    by false = refl

-- a name that has a child before some changes where their first change of it tells one has afterwards what the last one leaves
left_is : (rows : FinMap name_cmp ℕ) (changes : List Change) (name : List ℕ) → get rows name ≡ before_by changes name
    → get (rows_with_changes rows changes) name ≡ after_by changes name
left_is rows changes name before = get-rows_after rows changes name ∙ by (last_change name changes) refl
  where
    by : (o : Option Change) → last_change name changes ≡ o → left_by o (get rows name) ≡ number_of (left_by_change o)
    by (Some change) is = refl
    by None is = before ∙ ap (λ o. number_of (stood_before o)) (no_first name changes is)

-- a change that undoes another
undone_act : Act → Act
undone_act Add = Remove
undone_act Remove = Add

undone : Change → Change
undone change = record change { act = undone_act change.act }

-- the rows that changes tell to have stood before
pub stood : List Change → FinMap name_cmp ℕ
stood [] = empty
stood (change ∷ changes) = rows_with_changes (stood changes) (undone change ∷ [])

pub get-stood : (changes : List Change) (name : List ℕ) → get (stood changes) name ≡ before_by changes name
unfolding stood undone undone_act
get-stood [] name = get-empty name_cmp name
get-stood (change ∷ changes) name =
    one_made (stood changes) (undone change) name
    ∙ ap (cond (bytes_eq name change.name) (number_of (child_after (undone_act change.act) change.child))) (get-stood changes name)
    ∙ by (bytes_eq name change.name)
  where
    undoes : (act : Act) (child : NodeId) → number_of (child_after (undone_act act) child) ≡ number_of (child_before act child)
    undoes Add child = refl
    undoes Remove child = refl

    by : (b : Bool)
        → cond b (number_of (child_after (undone_act change.act) change.child)) (before_by changes name)
        ≡ number_of (stood_before (cond b (Some change) (first_change name changes)))
    by true = undoes change.act change.child
    by false = refl

-- the net of the rows that changes tell is their net by the changes alone
pub IsNetBy-from_stood : (changes : List Change) (net : List NetRow) → IsNet (stood changes) (rows_with_changes (stood changes) changes) net
    → IsNetBy changes net
IsNetBy-from_stood changes net h = record {
  ascending = h.ascending;
  each = λ k d within. let row = h.each k d within in record {
    before = row.before ∙ get-stood changes _;
    after = row.after ∙ left_is (stood changes) changes _ (get-stood changes _);
    differs = row.differs;
  };
  complete =
      λ name differ. h.complete name (λ same. differ (sym (get-stood changes name) ∙ same ∙ left_is (stood changes) changes name (get-stood changes name)));
}

-- What changes tell of the names that they have is so in rows that they fit.
stands : (act : Act) (rows : FinMap name_cmp ℕ) (name : List ℕ) (child : NodeId) → FitsRows act rows name child.0
    → get rows name ≡ number_of (child_before act child)
stands Add rows name child fits = fits
stands Remove rows name child fits = fits

first_stands : (rows : FinMap name_cmp ℕ) (changes : List Change) → FitRows rows changes → (name : List ℕ) (first : Change)
    → first_change name changes ≡ Some first → get rows name ≡ before_by changes name
first_stands rows [] fit name first is = absurd (none_some is)
first_stands rows (change ∷ changes) fit name first is =
    elim (bytes_eq name change.name) as (λ b. bytes_eq name change.name ≡ b → cond b (Some change) (first_change name changes) ≡ Some first
    → get rows name ≡ number_of (stood_before (cond b (Some change) (first_change name changes)))) [
      | true ↦ λ same _.
          let one : name ≡ change.name = name_cmp-IsAntisymmetric name change.name (is_equal _ (is_eq-slice_cmp name change.name ∙ same)) in
          ap (get rows) one ∙ stands change.act rows change.name change.child fit.0
      | false ↦ λ other rest.
          sym (one_made rows change name ∙ ap (λ b. cond b (number_of (child_after change.act change.child)) (get rows name)) other)
          ∙ first_stands (rows_with_changes rows (change ∷ [])) changes fit.1 name first rest
    ] refl is

-- The net of changes by the changes alone is the net of the rows before and after them, where the changes fit the rows.
pub nets_need_no_rows : NetsNeedNoRows
nets_need_no_rows rows changes net fit h = record {
  ascending = h.ascending;
  each = λ k d within. row_is _ (h.each k d within);
  complete = λ name differ. by_first name differ (first_change name changes) refl;
}
  where
    -- a row of the net has a name that the changes have
    row_is : (row : NetRow) → IsRowBy changes row → IsNetRow rows (rows_with_changes rows changes) row
    row_is row is = by (first_change row.name changes) refl
      where
        same_nodes : (a b : Option NodeId) → number_of a ≡ None → number_of b ≡ None → a ≡ b
        same_nodes None None _ _ = refl
        same_nodes (Some a) b e _ = absurd (none_some (sym e))
        same_nodes None (Some b) _ e = absurd (none_some (sym e))

        by : (o : Option Change) → first_change row.name changes ≡ o → IsNetRow rows (rows_with_changes rows changes) row
        by (Some first) found =
            let before = first_stands rows changes fit row.name first found in
            record { before = is.before ∙ sym before; after = is.after ∙ sym (left_is rows changes row.name before); differs = is.differs }
        by None none =
            absurd
            (is.differs
            (same_nodes row.before row.after (is.before ∙ ap (λ o. number_of (stood_before o)) none)
            (is.after ∙ ap (λ o. number_of (left_by_change o)) (no_last row.name changes none))))

    by_first : (name : List ℕ) → get rows name ≢ get (rows_with_changes rows changes) name → (o : Option Change) → first_change name changes ≡ o
        → Contains (map (λ (row : NetRow). row.name) net) name
    by_first name differ (Some first) found =
        let before = first_stands rows changes fit name first found in
        h.complete name (λ same. differ (before ∙ same ∙ sym (left_is rows changes name before)))
    by_first name differ None none = absurd (differ (sym (get-rows_after rows changes name ∙ ap (λ o. left_by o (get rows name)) (no_last name changes none))))

-- a look-up among what is lent
found_lent : (entries : List (Bor (List ℕ) × Bor Change)) (name : List ℕ)
    → option_map (λ (change : Bor Change). change.now) (lookup (is_at (λ (key : Bor (List ℕ)). slice_cmp nat_cmp name key.now)) entries)
    ≡ finmap.find name_cmp name (lent entries)
found_lent [] name = refl
found_lent (e ∷ es) name =
    elim (is_eq (slice_cmp nat_cmp name e.0.now)) as (λ b. option_map (λ (change : Bor Change). change.now)
    (cond b (Some e.1) (lookup (is_at (λ (key : Bor (List ℕ)). slice_cmp nat_cmp name key.now)) es))
    ≡ cond b (Some e.1.now) (finmap.find name_cmp name (lent es))) [
      | true ↦ refl
      | false ↦ found_lent es name
    ]

node_again : (o : Option NodeId) → node_id_of (number_of o) ≡ o
node_again (Some node) = refl
node_again None = refl

module _ (changes : List Change) (first : LentChanges) (are : AreLast (reverse changes) (lent first.entries)) where
  -- the child that the first change of a name tells is that of the rows that stood
  child_stood : (name : List ℕ) → child_lent first name ≡ node_id_of (get (stood changes) name)
  child_stood name =
      ap stood_before (found_lent first.entries name ∙ are.found name ∙ ap (first_change name) (reverse-reverse changes))
      ∙ sym (node_again (stood_before (first_change name changes)))
      ∙ ap node_id_of (sym (get-stood changes name))

  rows_same : (entries : List (Bor (List ℕ) × Bor Change)) → filter_map (lent_between first) entries ≡ filter_map (lent_row (stood changes)) entries
  rows_same [] = refl
  rows_same (e ∷ es) = (λ i. cons_option (net_row e.1.now.name (child_stood e.1.now.name i) (child_after e.1.now.act e.1.now.child)) (rows_same es i))

  -- the rows by the first and the last changes are the net by the changes
  pub IsNetBy-from_lent : (last : List (Bor (List ℕ) × Bor Change)) (net : List NetRow) → AreLast changes (lent last)
      → net ≡ filter_map (lent_between first) last → IsNetBy changes net
  IsNetBy-from_lent last net are_last is =
      IsNetBy-from_stood changes net (IsNet-from_lent (stood changes) changes changes last net refl (is ∙ rows_same last) are_last)
