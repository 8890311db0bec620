-- What was taken out of the values that a core holds is what it sees that the disk has of their nodes.
use Rattle.std.proofs.Common.{◌≡◌, ◌↔◌, ◌∙◌, ◌<◌, ◌⊎◌, ℕ, zero, suc, Bool, true, false, nat_eq, List, [], ◌∷◌, map, length, Option, Some, None, inl, inr, refl, sym, ap, subst, Contains, arith, eq-eqb}
use Rattle.std.specs.Prelude.{option_map, option_and_then, if◌then◌else◌}
use Rattle.std.specs.List.{cons_option}
use Rattle.std.specs.List.Sorted.{IsStrictlyIncreasing}
use Rattle.std.proofs.lemmas.Bool.{cases_Bool}
use Rattle.std.proofs.lemmas.Bool.Decides.{eqb_tells}
use Rattle.sfs_base.specs.declared.numbers.NodeId.{NodeId}
use Rattle.sfs_base.specs.Listed.{is_listed}
use Rattle.sfs_base.proofs.BasicOptions.{none_some, some_same}
use Rattle.sfs_base.proofs.BasicTruth.{true_not_false}
use Rattle.tree_laws.specs.NameRow.{node_number}
use Rattle.cut_laws.specs.Rules.{IsOneOf}
use Rattle.cut_laws.proofs.Listed.{listed_one}
use Rattle.disk_nodes.specs.OldKept.{OldKept}
use Rattle.disk_nodes.specs.declared.old.OldEntry.{OldEntry}
use Rattle.disk_change.specs.AllBuilt.{entry_keyed}
use Rattle.disk_change.proofs.NumbersGiven.{first_in, further_in}
use Rattle.stamp_table.specs.Hand.{places_of}
use Rattle.stamp_table.specs.Table.{cell_at, values_in}
use Rattle.stamp_table.specs.declared.held.HeldCell.{HeldCell}
use Rattle.mem_values.specs.declared.cell.Cell.{Cell}
use Rattle.mem_values.specs.declared.cell.Cell.TheVariants as cell
use Rattle.mem_values.specs.declared.cell.Pending.{Pending}
use Rattle.mem_calls.specs.Held.{as_pending, pending_held}
use Rattle.fsync_look.specs.Look.{flushed_place}
use Rattle.fsync_gather.proofs.Rising.{head_below, tail_rises}
use Rattle.fsync_values.specs.Lending.{entries_of, entry_of, old_of_value}
use Rattle.made_laws.specs.Made.{old_of}
use Rattle.landing_laws.proofs.HeldNodes.{first_held, other_held, later_listed}

-- what the disk has of a node by its value is what it has by what was flushed of it
pub old_same : (value : Cell) → old_of_value value ≡ old_of (as_pending value)
old_same (cell.Pending pending) = refl
old_same (cell.Lock lock) = refl
old_same (cell.Bucket bucket) = refl
old_same (cell.File file) = refl
old_same (cell.Part part) = refl

-- an entry of the first node, or of another one
cons_cases : (o : Option OldEntry) (entries : List OldEntry) (entry : OldEntry) → Contains (cons_option o entries) entry
    → (o ≡ Some entry) ⊎ Contains entries entry
cons_cases None entries entry has = inr has
cons_cases (Some one) entries entry (zero, within, is) = inl (ap Some is)
cons_cases (Some one) entries entry (suc k, within, is) = inr (k, omega (arith, within), is)

cons_first : (o : Option OldEntry) (entries : List OldEntry) (entry : OldEntry) → o ≡ Some entry → Contains (cons_option o entries) entry
cons_first o entries entry is = subst (λ x. Contains (cons_option x entries) entry) (sym is) (first_in entry entries)

cons_further : (o : Option OldEntry) (entries : List OldEntry) (entry : OldEntry) → Contains entries entry → Contains (cons_option o entries) entry
cons_further None entries entry has = has
cons_further (Some one) entries entry has = further_in one entry entries has

entry_is : (node : NodeId) (o : Option OldKept) (entry : OldEntry) → option_map (λ old. record { node = node; old = old }) o ≡ Some entry
    → (node.0 ≡ entry.node.0) × (o ≡ Some entry.old)
entry_is node None entry is = absurd (none_some is)
entry_is node (Some old) entry is = (ap (λ (e : OldEntry). e.node.0) (some_same is), ap (λ (e : OldEntry). Some e.old) (some_same is))

-- What was taken is exactly what is seen.
module _ (nodes : ℕ) where
  abbrev Sees : List NodeId → List (HeldCell Cell) → ℕ → OldKept → Type 0
  Sees list cells node kept = (is_listed (map node_number list) node ≡ true) × (old_of (pending_held nodes cells (record { 0 = node })) ≡ Some kept)

  pub taken_is_seen : (list : List NodeId) (cells : List (HeldCell Cell)) → places_of cells ≡ map (flushed_place nodes) list
      → IsStrictlyIncreasing (map node_number list) → (node : ℕ) (kept : OldKept) → Contains (entries_of list (values_in cells)) (entry_keyed (node, kept))
      → Sees list cells node kept
  taken_is_seen [] cells places up node kept (k, within, is) = absurd (omega (arith, within))
  taken_is_seen (n ∷ list) [] places up node kept (k, within, is) = absurd (omega (arith, within))
  taken_is_seen (n ∷ list) (c ∷ cells) places up node kept has =
      let place : c.place ≡ flushed_place nodes n = cc (places) in
      let rest : places_of cells ≡ map (flushed_place nodes) list = cc (places) in
      elim (cons_cases (entry_of n c.value) (entries_of list (values_in cells)) (entry_keyed (node, kept)) has) [
        | inl own ↦
            let e = entry_is n (old_of_value c.value) (entry_keyed (node, kept)) own in
            let same : n ≡ record { 0 = node } = λ i. record { 0 = e.0 i } in (
              (listed_one (map node_number (n ∷ list)) node).1 (inl e.0),
              subst (λ (m : NodeId). old_of (pending_held nodes (c ∷ cells) m) ≡ Some kept) same
                  (ap old_of (first_held nodes c cells n place) ∙ (sym (old_same c.value) ∙ e.1)),
            )
        | inr later ↦
            let s = taken_is_seen list cells rest (tail_rises n.0 (map node_number list) up) node kept later in
            let above = head_below n.0 (map node_number list) up node ((listed_one (map node_number list) node).0 s.0) in (
              later_listed n list node s.0,
              ap old_of (other_held nodes c cells n (record { 0 = node }) place (λ same. omega (arith, same, above))) ∙ s.1,
            )
      ]

  pub seen_is_taken : (list : List NodeId) (cells : List (HeldCell Cell)) → places_of cells ≡ map (flushed_place nodes) list
      → IsStrictlyIncreasing (map node_number list) → (node : ℕ) (kept : OldKept) → Sees list cells node kept
      → Contains (entries_of list (values_in cells)) (entry_keyed (node, kept))
  seen_is_taken [] cells places up node kept sees = absurd (true_not_false (sym sees.0))
  seen_is_taken (n ∷ list) [] places up node kept sees = absurd (cc (places))
  seen_is_taken (n ∷ list) (c ∷ cells) places up node kept sees =
      let place : c.place ≡ flushed_place nodes n = cc (places) in
      let rest : places_of cells ≡ map (flushed_place nodes) list = cc (places) in
      elim ((listed_one (map node_number (n ∷ list)) node).0 sees.0) [
        | inl own ↦
            let same : n ≡ record { 0 = node } = λ i. record { 0 = own i } in
            let old : old_of_value c.value ≡ Some kept =
            old_same c.value ∙ (sym (ap old_of (first_held nodes c cells n place))
            ∙ subst (λ (m : NodeId). old_of (pending_held nodes (c ∷ cells) m) ≡ Some kept) (sym same) sees.1)
            in
            cons_first (entry_of n c.value) (entries_of list (values_in cells)) (entry_keyed (node, kept))
            (ap (option_map (λ o. record { node = n; old = o })) old ∙ ap (λ (m : NodeId). Some (record { node = m; old = kept })) same)
        | inr later ↦
            let above = head_below n.0 (map node_number list) up node later in
            let held = other_held nodes c cells n (record { 0 = node }) place (λ same. omega (arith, same, above)) in
            cons_further (entry_of n c.value) (entries_of list (values_in cells)) (entry_keyed (node, kept))
            (seen_is_taken list cells rest (tail_rises n.0 (map node_number list) up) node kept
            ((listed_one (map node_number list) node).1 later, sym (ap old_of held) ∙ sees.1))
      ]
