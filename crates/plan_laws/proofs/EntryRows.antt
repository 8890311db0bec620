-- What one entry logs fits the rows that it finds, and makes of them those of the next tree.
use Rattle.std.proofs.Common.{◌≡◌, ◌≢◌, ℕ, true, false, cond, List, [], ◌∷◌, ◌++◌, Option, Some, None, refl, sym, ap, subst, ◌∙◌, nat_eq}
use Rattle.std.specs.Prelude.{filter}
use Rattle.std.specs.FinMap.{FinMap, get, insert, remove, get-insert, get-remove}
use Rattle.std.specs.Ordering.{eq_by_cmp}
use borrow.Author.Tests.{eqb-true}
use Rattle.sfs_base.specs.declared.numbers.Kind.{Kind}
use Rattle.tree_laws.specs.Order.{name_cmp, Key, key_cmp}
use Rattle.tree_laws.specs.Tree.{TreeState, names_of, row_of, kind_of}
use Rattle.tree_laws.specs.Effect.{Effect, Stays, Adds, Removes, Moves, Edits, rows_after}
use Rattle.tree_laws.specs.Fits.{Fits}
use Rattle.tree_laws.specs.Changes.{other_side}
use Rattle.tree_laws.specs.Parts.{kind_after}
use Rattle.tree_laws.specs.Logged.{log_entry, logged_replaced, recorded_above, logged_by, is_logged_in}
use Rattle.tree_laws.specs.declared.changes.Act.{Act}
use Rattle.tree_laws.specs.declared.changes.Act.TheVariants.{Add, Remove}
use Rattle.tree_laws.specs.declared.changes.Change.{Change}
use Rattle.tree_laws.proofs.Counting.{none_removed, same_rows}
use Rattle.tree_laws.proofs.Histories.{names_of-insert, names_of-remove}
use Rattle.tree_laws.proofs.Joined.{key_cmp_total}
use Rattle.tree_laws.proofs.Names.{get-names_where}
use Rattle.tree_laws.proofs.RowFacts.{removed_other}
use Rattle.absorb.specs.Net.{with_act, rows_with_changes}
use Rattle.flush_plan.specs.Laws.{FitsRows, FitRows}

-- Changes lead rows to others: each fits the rows that it finds, and together they make the others of them.
pub record LeadRows (rows : FinMap name_cmp ℕ) (changes : List Change) (later : FinMap name_cmp ℕ) : Type 0 where
  pub fit : FitRows rows changes
  pub make : rows_with_changes rows changes ≡ later

-- no changes lead rows to themselves
pub no_changes : (rows : FinMap name_cmp ℕ) → LeadRows rows [] rows
no_changes rows = record { fit = tt; make = refl }

-- changes that lead on from where others lead
pub lead_on : (rows mid later : FinMap name_cmp ℕ) (xs ys : List Change) → LeadRows rows xs mid → LeadRows mid ys later → LeadRows rows (xs ++ ys) later
lead_on rows mid later [] ys one two = subst (λ r. LeadRows r ys later) (sym one.make) two
lead_on rows mid later (x ∷ xs) ys one two =
    let rest = lead_on (with_act x.act rows x.name x.child.0) mid later xs ys (record { fit = one.fit.1; make = one.make }) two in
    record { fit = (one.fit.0, rest.fit); make = rest.make }

-- a change made in the rows of all directories, and when it fits them
abbrev act_made : Act → FinMap key_cmp ℕ → Key → ℕ → FinMap key_cmp ℕ
act_made Add rows key child = insert rows key child
act_made Remove rows key child = remove rows key

abbrev FitsAll : Act → FinMap key_cmp ℕ → Key → ℕ → Type 0
FitsAll Add rows key child = get rows key ≡ None
FitsAll Remove rows key child = get rows key ≡ Some child

own_made : (act : Act) (d e : ℕ) (name : List ℕ) (child : ℕ) (rows : FinMap key_cmp ℕ)
    → names_of d (act_made act rows (e, name) child) ≡ cond (nat_eq e d) (with_act act (names_of d rows) name child) (names_of d rows)
own_made Add d e name child rows = names_of-insert d e name child rows
own_made Remove d e name child rows = names_of-remove d e name rows

own_fits : (act : Act) (d e : ℕ) (name : List ℕ) (child : ℕ) (rows : FinMap key_cmp ℕ) → nat_eq e d ≡ true → FitsAll act rows (e, name) child
    → FitsRows act (names_of d rows) name child
own_fits Add d e name child rows same free = get-names_where d (λ _. true) rows name ∙ subst (λ n. get rows (n, name) ≡ None) (eqb-true e d same) free
own_fits Remove d e name child rows same there = get-names_where d (λ _. true) rows name
    ∙ subst (λ n. get rows (n, name) ≡ Some child) (eqb-true e d same) there

-- one change more in front, which a directory's log has where it is its own
lead_first : (d : ℕ) (change : Change) (rest : List Change) (rows : FinMap key_cmp ℕ) (later : FinMap name_cmp ℕ)
    → FitsAll change.act rows (change.dir.0, change.name) change.child.0
    → LeadRows (names_of d (act_made change.act rows (change.dir.0, change.name) change.child.0)) (filter (is_logged_in d) rest) later
    → LeadRows (names_of d rows) (filter (is_logged_in d) (change ∷ rest)) later
lead_first d change rest rows later fits lead =
    elim (nat_eq change.dir.0 d) as (λ b. nat_eq change.dir.0 d ≡ b
    → LeadRows (cond b (with_act change.act (names_of d rows) change.name change.child.0) (names_of d rows)) (filter (is_logged_in d) rest) later
    → LeadRows (names_of d rows) (cond b (change ∷ filter (is_logged_in d) rest) (filter (is_logged_in d) rest)) later) [
      | true ↦ λ same own. record { fit = (own_fits change.act d change.dir.0 change.name change.child.0 rows same fits, own.fit); make = own.make }
      | false ↦ λ other own. own
    ] refl (subst (λ r. LeadRows r (filter (is_logged_in d) rest) later) (own_made change.act d change.dir.0 change.name change.child.0 rows) lead)

-- where none stands none stands once a row went
still_none : (rows : FinMap key_cmp ℕ) (key other : Key) → get rows key ≡ None → get (remove rows other) key ≡ None
still_none rows key other none =
    get-remove key_cmp_total rows other key ∙ ap (λ o. cond (eq_by_cmp key_cmp key other) None o) none
    ∙ elim (eq_by_cmp key_cmp key other) as (λ b. ◌≡◌ {A = Option ℕ} (cond b None None) None) [ true ↦ refl | false ↦ refl ]

-- what is put at a place covers what went there before
covered : (rows : FinMap key_cmp ℕ) (key other : Key) (child : ℕ) → insert (remove (remove rows key) other) key child ≡ insert (remove rows other) key child
covered rows key other child = same_rows _ _ (λ k.
    get-insert key_cmp_total (remove (remove rows key) other) key child k
    ∙ ap (cond (eq_by_cmp key_cmp k key) (Some child))
    (get-remove key_cmp_total (remove rows key) other k ∙ ap (cond (eq_by_cmp key_cmp k other) None) (get-remove key_cmp_total rows key k))
    ∙ elim (eq_by_cmp key_cmp k key) as (λ b. cond b (Some child) (cond (eq_by_cmp key_cmp k other) None (cond b None (get rows k)))
    ≡ cond b (Some child) (cond (eq_by_cmp key_cmp k other) None (get rows k))) [
      | true ↦
          refl
      | false ↦ refl
    ]
    ∙ ap (cond (eq_by_cmp key_cmp k key) (Some child)) (sym (get-remove key_cmp_total rows other k))
    ∙ sym (get-insert key_cmp_total (remove rows other) key child k))

module _ (tree : TreeState) (core stamp d : ℕ) where
  abbrev Leads : Effect → Option Kind → Type 0
  Leads effect makes =
      LeadRows (names_of d tree.rows) (filter (is_logged_in d) (logged_by tree core stamp effect makes)) (names_of d (rows_after tree.rows effect))

  -- a row that comes
  of_addition : (e : ℕ) (name : List ℕ) (child : ℕ) (makes : Option Kind) → row_of tree e name ≡ None → Leads (Adds e name child) makes
  of_addition e name child makes free =
      lead_first d (log_entry stamp e name child (kind_after tree core makes child) Add None []) [] tree.rows _ free
      (no_changes (names_of d (insert tree.rows (e, name) child)))

  -- a row that goes
  of_removal : (e : ℕ) (name : List ℕ) (child : ℕ) (makes : Option Kind) → row_of tree e name ≡ Some child → Leads (Removes e name child) makes
  of_removal e name child makes there =
      lead_first d (log_entry stamp e name child (kind_of tree child) Remove None []) [] tree.rows _ there
      (no_changes (names_of d (remove tree.rows (e, name))))

  -- a row that moves, in place of what stands there
  module _ (p : ℕ) (n : List ℕ) (q : ℕ) (m : List ℕ) (x : ℕ) (makes : Option Kind) (row : row_of tree p n ≡ Some x) (apart : row_of tree q m ≢ Some x) where
    abbrev goes : Change
    goes = log_entry stamp p n x (kind_of tree x) Remove (other_side p q) []

    abbrev comes : Change
    comes = log_entry stamp q m x (kind_of tree x) Add (other_side q p) (recorded_above tree (Moves p n q m x) q)

    -- its two changes, in rows that have it and where its new place is free
    both : (rows : FinMap key_cmp ℕ) → get rows (p, n) ≡ Some x → get rows (q, m) ≡ None
        → LeadRows (names_of d rows) (filter (is_logged_in d) (goes ∷ comes ∷ [])) (names_of d (insert (remove rows (p, n)) (q, m) x))
    both rows there free =
        lead_first d goes (comes ∷ []) rows _ there
        (lead_first d comes [] (remove rows (p, n)) _ (still_none rows (q, m) (p, n) free) (no_changes (names_of d (insert (remove rows (p, n)) (q, m) x))))

    of_move : Leads (Moves p n q m x) makes
    of_move =
        elim (row_of tree q m) as (λ o. row_of tree q m ≡ o
        → LeadRows (names_of d tree.rows) (filter (is_logged_in d) (logged_replaced tree stamp p q m o ++ goes ∷ comes ∷ []))
        (names_of d (rows_after tree.rows (Moves p n q m x)))) [
          | None ↦ λ free. both tree.rows row free
          | Some there ↦ λ stands.
              lead_first d (log_entry stamp q m there (kind_of tree there) Remove (other_side q p) []) (goes ∷ comes ∷ []) tree.rows _ stands
              (subst (λ (r : FinMap key_cmp ℕ). LeadRows (names_of d (remove tree.rows (q, m))) (filter (is_logged_in d) (goes ∷ comes ∷ [])) (names_of d r))
              (covered tree.rows (q, m) (p, n) x)
              (both (remove tree.rows (q, m))
              (removed_other tree.rows p q n m
              (λ same_directory same_name. let same : row_of tree p n ≡ row_of tree q m = λ i. row_of tree (same_directory i) (same_name i) in
              apart (sym same ∙ row))
              ∙ row)
              (none_removed tree.rows (q, m))))
        ] refl

  -- what an entry logs leads from the rows of the tree at its call to those of the next tree
  pub lead_entry : (effect : Effect) (makes : Option Kind) → Fits tree core effect makes → Leads effect makes
  lead_entry Stays makes fits = no_changes (names_of d tree.rows)
  lead_entry (Edits file edit) makes fits = no_changes (names_of d tree.rows)
  lead_entry (Adds e name child) None fits = of_addition e name child None fits.free
  lead_entry (Adds e name child) (Some kind) fits = of_addition e name child (Some kind) fits.free
  lead_entry (Removes e name child) None fits = of_removal e name child None fits.row
  lead_entry (Removes e name child) (Some kind) fits = absurd fits
  lead_entry (Moves p n q m x) None fits = of_move p n q m x None fits.row fits.apart
  lead_entry (Moves p n q m x) (Some kind) fits = absurd fits
