-- What a net says under a name, and the rows that it brings.
use Rattle.std.proofs.Common.{◌≡◌, ◌≢◌, ℕ, ◌+◌, true, false, cond, List, [], ◌∷◌, map, Option, Some, None, ◌⊎◌, inl, inr, refl, sym, ap, subst, ◌∙◌, arith, nat_eq}
use borrow.Author.Tests.{eqb-true, eqb-false}
use Rattle.std.specs.Prelude.{bytes_eq, filter_map, All}
use Rattle.std.specs.List.{AllByRecursion, cons_option}
use Rattle.std.specs.Option.{option_and_then}
use Rattle.std.specs.List.Sorted.{IsStrictlySortedBy}
use Rattle.std.specs.declared.cmp.Ordering.TheVariants.{Less, Equal}
use Rattle.std.specs.Ordering.{is_eq}
use Rattle.std.specs.Cmp.{tied_itself}
use Rattle.std.specs.Cmp.Lexicographic.{nat_list_cmp_total}
use Rattle.std.specs.FinMap.{FinMap, get}
use Rattle.std.proofs.lemmas.List.Elements.{All-nil, All-cons, All-head, All-tail, All-contains}
use Rattle.tree_laws.specs.Order.{name_cmp}
use Rattle.tree_laws.proofs.Joined.{is_equal}
use Rattle.sfs_image.specs.Slot.{Row}
use Rattle.absorb.specs.declared.nets.NetRow.{NetRow}
use Rattle.absorb.specs.Net.{net_name, IsNetRow, IsNet}
use Rattle.image_laws.specs.Slots.{looked_up, name_count}
use Rattle.image_laws.specs.Commit.{row_in_net}
use Rattle.sfs_base.proofs.BasicTruth.{not_both}
use Rattle.sfs_base.proofs.BasicOptions.{none_some, some_same}
use Rattle.sfs_base.proofs.BasicLists.{bytes_same, same_bytes}
use Rattle.image_laws.proofs.SlotRows.{bytes_apart, count_slot}

-- two numbers that may be there are one or not
pub same_option : (a b : Option ℕ) → (a ≡ b) ⊎ (a ≢ b)
same_option None None = inl refl
same_option None (Some b) = inr (λ e. none_some e)
same_option (Some a) None = inr (λ e. none_some (sym e))
same_option (Some a) (Some b) = elim (nat_eq a b) as (λ t. nat_eq a b ≡ t → (Some a ≡ Some b) ⊎ (Some a ≢ Some b)) [
  | true ↦ λ t. inl (ap Some (eqb-true _ _ t))
  | false ↦ λ t. inr (λ e. eqb-false _ _ t (some_same e))
] refl

-- a row that is found under a name has it, and what all rows have
found_row : (P : NetRow → Type 0) (net : List NetRow) (name : List ℕ) (row : NetRow) → All P net → row_in_net name net ≡ Some row → (row.name ≡ name) × P row
found_row P [] name row h is = absurd (none_some is)
found_row P (first ∷ rows) name row h is =
    elim (bytes_eq name first.name) as (λ b. bytes_eq name first.name ≡ b → cond b (Some first) (row_in_net name rows) ≡ Some row → (row.name ≡ name) × P row) [
      | true ↦ λ t e.
          let one : first ≡ row = some_same e in
          (ap net_name (sym one) ∙ sym (bytes_same name first.name t), subst P one (All-head P first rows h))
      | false ↦ λ _ e. found_row P rows name row (All-tail P first rows h) e
    ] refl is

-- a name under which no row is found is no row's
not_among : (net : List NetRow) (name : List ℕ) → row_in_net name net ≡ None → All (λ other. other ≢ name) (map net_name net)
not_among [] name is = All-nil (λ other. other ≢ name)
not_among (row ∷ rows) name is =
    elim (bytes_eq name row.name) as (λ b. bytes_eq name row.name ≡ b → cond b (Some row) (row_in_net name rows) ≡ None
    → All (λ other. other ≢ name) (net_name row ∷ map net_name rows)) [
      | true ↦ λ t none. absurd (none_some (sym none))
      | false ↦
          λ t none. All-cons (λ other. other ≢ name) row.name (map net_name rows) (λ same. not_both (ap (bytes_eq name) same ∙ same_bytes name) t)
          (not_among rows name none)
    ] refl is

module _ (earlier later : FinMap name_cmp ℕ) (net : List NetRow) (h : IsNet earlier later net) where
  pub net_row_is : (name : List ℕ) (row : NetRow) → row_in_net name net ≡ Some row → (row.name ≡ name) × IsNetRow earlier later row
  net_row_is name row is = found_row (IsNetRow earlier later) net name row h.each is

  -- a name without a row in the net keeps its child
  pub no_net_row : (name : List ℕ) → row_in_net name net ≡ None → get earlier name ≡ get later name
  no_net_row name is = elim (same_option (get earlier name) (get later name)) [
    | inl same ↦ same
    | inr differ ↦ absurd (All-contains (λ other. other ≢ name) (map net_name net) name (not_among net name is) (h.complete name differ) refl)
  ]

-- no name stands in a net twice
unfoldable pub HasNamesOnce : List NetRow → Type 0
HasNamesOnce [] = Unit {0}
HasNamesOnce (row ∷ rows) = (row_in_net row.name rows ≡ None) × HasNamesOnce rows

pub equal_not_less : Equal ≡ Less → ⊥
equal_not_less e = cc

pub once_ascending : (net : List NetRow) → IsStrictlySortedBy name_cmp (map net_name net) → HasNamesOnce net
unfolding HasNamesOnce IsStrictlySortedBy
once_ascending [] h = tt
once_ascending (row ∷ rows) h = (none_behind row.name rows h.0, once_ascending rows h.1)
  where
    less_apart : (n m : List ℕ) → name_cmp n m ≡ Less → n ≢ m
    less_apart n m less same = equal_not_less (sym (is_equal _ (ap is_eq (tied_itself nat_list_cmp_total n))) ∙ ap (name_cmp n) same ∙ less)

    none_behind : (n : List ℕ) (rows : List NetRow) → AllByRecursion (λ other. name_cmp n other ≡ Less) (map net_name rows) → row_in_net n rows ≡ None
    none_behind n [] h = refl
    none_behind n (r ∷ rs) h = ap (λ b. cond b (Some r) (row_in_net n rs)) (bytes_apart n r.name (less_apart n r.name h.0)) ∙ none_behind n rs h.1

-- how many there are of what may be there
abbrev pub one_if_some : Option Row → ℕ
one_if_some None = 0
one_if_some (Some row) = 1

-- rows that are made of the rows of a net, each with its name
module _ (make : NetRow → Option Row) (named : (row : NetRow) (made : Row) → make row ≡ Some made → made.name ≡ row.name) where
  abbrev made_of : List NetRow → List (Option Row)
  made_of net = map Some (filter_map make net)

  abbrev made_at : List ℕ → List NetRow → Option Row
  made_at n net = option_and_then make (row_in_net n net)

  -- under a name stands what is made of its row, once
  pub record StandsOnce (n : List ℕ) (net : List NetRow) : Type 0 where
    pub looked : looked_up n (made_of net) ≡ made_at n net
    pub counted : name_count n (made_of net) ≡ one_if_some (made_at n net)

  absent : (n : List ℕ) (row : NetRow) (rows : List NetRow) (o : Option Row) → make row ≡ o → bytes_eq n row.name ≡ false → StandsOnce n rows →
      (looked_up n (map Some (cons_option o (filter_map make rows))) ≡ made_at n rows)
      × (name_count n (map Some (cons_option o (filter_map make rows))) ≡ one_if_some (made_at n rows))
  absent n row rows None is other rest = (rest.looked, rest.counted)
  absent n row rows (Some made) is other rest =
      let test : bytes_eq n made.name ≡ false = ap (bytes_eq n) (named row made is) ∙ other in
      let c = count_slot n (Some made) (made_of rows) in
      let d : name_count n (Some made ∷ made_of rows) ≡ 0 + name_count n (made_of rows) = c ∙ ap (λ b. cond b 1 0 + name_count n (made_of rows)) test in
      let e = rest.counted in
      (ap (λ b. cond b (Some made) (looked_up n (made_of rows))) test ∙ rest.looked, omega arith)

  present : (n : List ℕ) (row : NetRow) (rows : List NetRow) (o : Option Row) → make row ≡ o → bytes_eq n row.name ≡ true → row_in_net n rows ≡ None →
      StandsOnce n rows →
      (looked_up n (map Some (cons_option o (filter_map make rows))) ≡ make row)
      × (name_count n (map Some (cons_option o (filter_map make rows))) ≡ one_if_some (make row))
  present n row rows None is here none rest =
      (rest.looked ∙ ap (option_and_then make) none ∙ sym is, rest.counted ∙ ap (λ o. one_if_some (option_and_then make o)) none ∙ sym (ap one_if_some is))
  present n row rows (Some made) is here none rest =
      let test : bytes_eq n made.name ≡ true = ap (bytes_eq n) (named row made is) ∙ here in
      let c = count_slot n (Some made) (made_of rows) in
      let d : name_count n (Some made ∷ made_of rows) ≡ 1 + name_count n (made_of rows) = c ∙ ap (λ b. cond b 1 0 + name_count n (made_of rows)) test in
      let e : name_count n (made_of rows) ≡ 0 = rest.counted ∙ ap (λ o. one_if_some (option_and_then make o)) none in
      let f : name_count n (Some made ∷ made_of rows) ≡ 1 = omega arith in
      (ap (λ b. cond b (Some made) (looked_up n (made_of rows))) test ∙ sym is, f ∙ sym (ap one_if_some is))

  pub is_made : (n : List ℕ) (net : List NetRow) → HasNamesOnce net → StandsOnce n net
  unfolding HasNamesOnce
  is_made n [] once = record { looked = refl; counted = refl }
  is_made n (row ∷ rows) once =
      let rest = is_made n rows once.1 in
      elim (bytes_eq n row.name) as (λ b. bytes_eq n row.name ≡ b → StandsOnce n (row ∷ rows)) [
        | true ↦ λ t.
            let none = ap (λ m. row_in_net m rows) (bytes_same n row.name t) ∙ once.0 in
            let p = present n row rows (make row) refl t none rest in
            let at : made_at n (row ∷ rows) ≡ make row = ap (λ b. option_and_then make (cond b (Some row) (row_in_net n rows))) t in
            record { looked = p.0 ∙ sym at; counted = p.1 ∙ sym (ap one_if_some at) }
        | false ↦ λ t.
            let p = absent n row rows (make row) refl t rest in
            let at : made_at n (row ∷ rows) ≡ made_at n rows = ap (λ b. option_and_then make (cond b (Some row) (row_in_net n rows))) t in
            record { looked = p.0 ∙ sym at; counted = p.1 ∙ sym (ap one_if_some at) }
      ] refl
