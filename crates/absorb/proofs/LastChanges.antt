-- The last change of each name: how a map that is filled in turn keeps it, and what it says of the rows after.
use Rattle.std.proofs.Common.{◌≡◌, ℕ, Bool, true, false, cond, List, [], ◌∷◌, ◌++◌, reverse, Option, Some, None, refl, sym, ap, ◌∙◌}
use Rattle.std.specs.Prelude.{bytes_eq, find}
use Rattle.std.specs.Ordering.{match_ordering, eq_by_cmp, nat_cmp}
use Rattle.std.specs.declared.cmp.Ordering.TheVariants.{Less, Equal, Greater}
use Rattle.std.specs.Cmp.Lexicographic.{slice_cmp, nat_list_cmp_total}
use Rattle.std.specs.BTreeMap.{insert_entry}
use Rattle.std.specs.FinMap.{FinMap, get, get-insert, get-remove}
use Rattle.std.specs.FinMap.Entries.{put, by_order, is_sorted-put, find-put}
use Rattle.std.proofs.lemmas.List.{reverse-append, reverse-reverse}
use Rattle.std.proofs.lemmas.List.Sums.{fold-append}
use Rattle.std.proofs.lemmas.Map.Text.{is_eq-slice_cmp}
use denote.Ref.{Bor}
use Rattle.sfs_base.specs.declared.numbers.NodeId.{NodeId}
use Rattle.tree_laws.specs.Order.{name_cmp}
use Rattle.tree_laws.specs.NameRow.{number_of}
use Rattle.tree_laws.specs.declared.changes.Act.{Act}
use Rattle.tree_laws.specs.declared.changes.Act.TheVariants.{Add, Remove}
use Rattle.tree_laws.specs.declared.changes.Change.{Change}
use Rattle.tree_laws.proofs.RowsByName.{is_true, was_true}
use Rattle.absorb.specs.Net.{with_act, rows_with_changes, child_after}
use Rattle.absorb.specs.Last.{last_change, lent, AreLast}

-- what a map lends after an insertion
pub lent-inserted : (entries : List (Bor (List ℕ) × Bor Change)) (name : Bor (List ℕ)) (change : Bor Change)
    → lent (insert_entry (λ x y. slice_cmp nat_cmp x.now y.now) entries name change) ≡ put name_cmp name.now change.now (lent entries)
lent-inserted [] name change = refl
lent-inserted (e ∷ es) name change =
    elim (slice_cmp nat_cmp name.now e.0.now) as (λ o. lent
    (match_ordering o ((name, change) ∷ e ∷ es) ((e.0, change) ∷ es) (e ∷ insert_entry (λ x y. slice_cmp nat_cmp x.now y.now) es name change))
    ≡ by_order o ((name.now, change.now) ∷ lent (e ∷ es)) ((e.0.now, change.now) ∷ lent es)
    ((e.0.now, e.1.now) ∷ put name_cmp name.now change.now (lent es))) [
      | Less ↦ refl
      | Equal ↦ refl
      | Greater ↦ ap (λ l. (e.0.now, e.1.now) ∷ l) (lent-inserted es name change)
    ]

-- the last change of a name, once one more has come
last_of-push : (name : List ℕ) (changes : List Change) (change : Change)
    → last_change name (changes ++ change ∷ []) ≡ cond (bytes_eq name change.name) (Some change) (last_change name changes)
last_of-push name changes change = ap (find (λ c. bytes_eq name c.name)) (reverse-append changes (change ∷ []))

-- one more change, put under its name, is the last of it
pub AreLast-push : (changes : List Change) (last : List (List ℕ × Change)) (change : Change) → AreLast changes last
    → AreLast (changes ++ change ∷ []) (put name_cmp change.name change last)
AreLast-push changes last change h = record {
  ascending = was_true _ (is_sorted-put name_cmp nat_list_cmp_total change.name change last (is_true _ h.ascending));
  found = λ name.
      find-put name_cmp nat_list_cmp_total name change.name change last
      ∙ ap (cond (eq_by_cmp name_cmp name change.name) (Some change)) (h.found name)
      ∙ ap (λ b. cond b (Some change) (last_change name changes)) (is_eq-slice_cmp name change.name)
      ∙ sym (last_of-push name changes change);
}

-- the child that a name has after its last change, and the one before where it has none
abbrev pub left_by : Option Change → Option ℕ → Option ℕ
left_by None child = child
left_by (Some change) child = number_of (child_after change.act change.child)

-- what one change leaves a name with
get-with_act : (act : Act) (rows : FinMap name_cmp ℕ) (own : List ℕ) (child : NodeId) (name : List ℕ)
    → get (with_act act rows own child.0) name ≡ cond (bytes_eq name own) (number_of (child_after act child)) (get rows name)
get-with_act Add rows own child name =
    get-insert nat_list_cmp_total rows own child.0 name ∙ ap (λ b. cond b (Some child.0) (get rows name)) (is_eq-slice_cmp name own)
get-with_act Remove rows own child name =
    get-remove nat_list_cmp_total rows own name ∙ ap (λ b. cond b None (get rows name)) (is_eq-slice_cmp name own)

joined : (change : Change) (b : Bool) (before : Option Change) (child : Option ℕ)
    → cond b (number_of (child_after change.act change.child)) (left_by before child) ≡ left_by (cond b (Some change) before) child
joined change true before child = refl
joined change false before child = refl

-- the same of changes from the last to the first
get-from_back : (back : List Change) (rows : FinMap name_cmp ℕ) (name : List ℕ)
    → get (rows_with_changes rows (reverse back)) name ≡ left_by (find (λ c. bytes_eq name c.name) back) (get rows name)
get-from_back [] rows name = refl
get-from_back (change ∷ back) rows name =
    ap (λ l. get (rows_with_changes rows l) name) (reverse-append (change ∷ []) back)
    ∙ ap (λ m. get m name) (fold-append (λ (m : FinMap name_cmp ℕ) (c : Change). with_act c.act m c.name c.child.0) rows (reverse back) (change ∷ []))
    ∙ get-with_act change.act (rows_with_changes rows (reverse back)) change.name change.child name
    ∙ ap (cond (bytes_eq name change.name) (number_of (child_after change.act change.child))) (get-from_back back rows name)
    ∙ joined change (bytes_eq name change.name) (find (λ c. bytes_eq name c.name) back) (get rows name)

-- after some changes a name has the child that its last change leaves it, and its old one where it has none
pub get-rows_after : (rows : FinMap name_cmp ℕ) (changes : List Change) (name : List ℕ)
    → get (rows_with_changes rows changes) name ≡ left_by (last_change name changes) (get rows name)
get-rows_after rows changes name =
    ap (λ l. get (rows_with_changes rows l) name) (sym (reverse-reverse changes))
    ∙ get-from_back (reverse changes) rows name
