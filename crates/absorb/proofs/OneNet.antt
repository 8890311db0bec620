-- Two lists of rows have one net: what `IsNet` says leaves no choice.
use Rattle.std.proofs.Common.{◌≡◌, ◌≢◌, ℕ, true, false, cond, T, List, [], ◌∷◌, map, Option, Some, None, refl, sym, ap, subst, ◌∙◌}
use Rattle.std.specs.Prelude.{All}
use Rattle.std.specs.List.{AllByRecursion}
use Rattle.std.specs.Option.{option_eq}
use Rattle.std.specs.Ordering.{eq_by_cmp, is_lt, is_eq}
use Rattle.std.specs.Cmp.{tied_itself}
use Rattle.std.specs.List.Sorted.{IsStrictlySortedBy}
use Rattle.std.specs.declared.cmp.Ordering.TheVariants.{Less}
use Rattle.std.specs.Cmp.Lexicographic.{nat_list_cmp_total}
use Rattle.std.specs.FinMap as finmap
use Rattle.std.specs.FinMap.{FinMap, get, is_sorted}
use Rattle.std.specs.FinMap.Entries.{below_all, same_entries}
use Rattle.std.proofs.lemmas.List.Elements.{All-nil, All-cons, All-head, All-tail, All-contains}
use Rattle.sfs_base.specs.declared.numbers.NodeId.{NodeId}
use Rattle.tree_laws.specs.Order.{name_cmp}
use Rattle.tree_laws.specs.NameRow.{number_of}
use Rattle.tree_laws.proofs.Joined.{is_equal, name_cmp-IsAntisymmetric}
use Rattle.sfs_base.proofs.BasicTruth.{both_of}
use Rattle.absorb.specs.declared.nets.NetRow.{NetRow}
use Rattle.absorb.specs.Net.{net_name, IsNetRow, IsNet}
use Rattle.absorb.specs.Last.{node_id_of, same_node, net_row}
use Rattle.absorb.proofs.Rows.{same_child, not_same}

-- rows under their names
named : List NetRow → List (List ℕ × NetRow)
named = map (λ row. (row.name, row))

rows-named : (net : List NetRow) → map (λ e. e.1) (named net) ≡ net
unfolding named
rows-named [] = refl
rows-named (row ∷ rows) = ap (λ l. row ∷ l) (rows-named rows)

named_below : (name : List ℕ) (net : List NetRow) → AllByRecursion (λ other. name_cmp name other ≡ Less) (map net_name net)
    → T (below_all name_cmp name (named net))
unfolding named
named_below name [] h = tt
named_below name (row ∷ rows) h = both_of _ _ (subst (λ o. T (is_lt o)) (sym h.0) tt) (named_below name rows h.1)

named_ascend : (net : List NetRow) → IsStrictlySortedBy name_cmp (map net_name net) → T (is_sorted name_cmp (named net))
unfolding named IsStrictlySortedBy
named_ascend [] h = tt
named_ascend (row ∷ rows) h = both_of _ _ (named_below row.name rows h.0) (named_ascend rows h.1)

-- what is found under a name is a row of that name
found_row : (P : NetRow → Type 0) (net : List NetRow) (name : List ℕ) (row : NetRow) → All P net → finmap.find name_cmp name (named net) ≡ Some row
    → (row.name ≡ name) × P row
unfolding named
found_row P [] name row h is = absurd (cc)
found_row P (first ∷ rows) name row h is =
    elim (eq_by_cmp name_cmp name first.name) as (λ b. eq_by_cmp name_cmp name first.name ≡ b
    → cond b (Some first) (finmap.find name_cmp name (named rows)) ≡ Some row → (row.name ≡ name) × P row) [
      | true ↦ λ t found.
          let one : first ≡ row = cc in
          (ap net_name (sym one) ∙ sym (name_cmp-IsAntisymmetric name first.name (is_equal _ t)), subst P one (All-head P first rows h))
      | false ↦ λ _ found. found_row P rows name row (All-tail P first rows h) found
    ] refl is

-- a name under which nothing is found is the name of no row
not_among : (net : List NetRow) (name : List ℕ) → finmap.find name_cmp name (named net) ≡ None → All (λ other. other ≢ name) (map net_name net)
unfolding named
not_among [] name is = All-nil (λ other. other ≢ name)
not_among (row ∷ rows) name is =
    elim (eq_by_cmp name_cmp name row.name) as (λ b. eq_by_cmp name_cmp name row.name ≡ b → cond b (Some row) (finmap.find name_cmp name (named rows)) ≡ None
    → All (λ other. other ≢ name) (net_name row ∷ map net_name rows)) [
      | true ↦ λ t none. absurd (cc)
      | false ↦ λ t none. All-cons (λ other. other ≢ name) row.name (map net_name rows) (apart t) (not_among rows name none)
    ] refl is
  where
    apart : eq_by_cmp name_cmp name row.name ≡ false → row.name ≢ name
    apart t same =
        let tied : eq_by_cmp name_cmp name row.name ≡ true = ap (λ n. eq_by_cmp name_cmp name n) same ∙ ap is_eq (tied_itself nat_list_cmp_total name) in
        absurd (cc)

node-of_number : (o : Option NodeId) → node_id_of (number_of o) ≡ o
node-of_number (Some node) = refl
node-of_number None = refl

not_one : (a b : Option NodeId) → a ≢ b → option_eq same_node a b ≡ false
not_one a b differ =
    elim (option_eq same_node a b) as (λ t. option_eq same_node a b ≡ t → t ≡ false) [
      | true ↦ λ e. absurd (differ (same_child a b e))
      | false ↦ λ _. refl
    ] refl

-- the row of a name and two children that differ
own_row : (row : NetRow) (name : List ℕ) (before after : Option NodeId) → row.before ≢ row.after → row.name ≡ name → row.before ≡ before → row.after ≡ after
    → Some row ≡ net_row name before after
own_row row name before after differ n b a =
    ap (λ t. cond t None (Some row)) (sym (not_one row.before row.after differ)) ∙ (λ i. net_row (n i) (b i) (a i))

-- children that are those of a name in two lists of rows
child_is : (child : Option NodeId) (rows : FinMap name_cmp ℕ) (own name : List ℕ) → own ≡ name → number_of child ≡ get rows own
    → child ≡ node_id_of (get rows name)
child_is child rows own name same is = sym (node-of_number child) ∙ ap node_id_of (is ∙ ap (get rows) same)

-- a net has under each name what the name's two children say
under_name : (earlier later : FinMap name_cmp ℕ) (net : List NetRow) → IsNet earlier later net → (name : List ℕ)
    → finmap.find name_cmp name (named net) ≡ net_row name (node_id_of (get earlier name)) (node_id_of (get later name))
under_name earlier later net h name = by_found (finmap.find name_cmp name (named net)) refl
  where
    by_found : (o : Option NetRow) → finmap.find name_cmp name (named net) ≡ o → o ≡ net_row name (node_id_of (get earlier name)) (node_id_of (get later name))
    by_found (Some row) is =
        let found = found_row (IsNetRow earlier later) net name row h.each is in
        own_row row name (node_id_of (get earlier name)) (node_id_of (get later name)) found.1.differs found.0
        (child_is row.before earlier row.name name found.0 found.1.before) (child_is row.after later row.name name found.0 found.1.after)
    by_found None is =
        elim (option_eq same_node (node_id_of (get earlier name)) (node_id_of (get later name))) as (λ t. option_eq same_node (node_id_of (get earlier name))
        (node_id_of (get later name))
        ≡ t
        → ◌≡◌ {A = Option NetRow} None
        (cond t None (Some (record { name = name; before = node_id_of (get earlier name); after = node_id_of (get later name) })))) [
          | true ↦ λ _. refl
          | false ↦
              λ e. absurd
              (All-contains (λ other. other ≢ name) (map net_name net) name (not_among net name is)
              (h.complete name (λ same. not_same _ _ e (ap node_id_of same))) refl)
        ] refl

-- the same two lists of rows have the same net
pub one_net : (earlier later : FinMap name_cmp ℕ) (net other : List NetRow) → IsNet earlier later net → IsNet earlier later other → net ≡ other
one_net earlier later net other h g =
    sym (rows-named net)
    ∙ ap (map (λ e. e.1))
    (same_entries name_cmp nat_list_cmp_total name_cmp-IsAntisymmetric (named net) (named other) (named_ascend net h.ascending)
    (named_ascend other g.ascending) (λ name. under_name earlier later net h name ∙ sym (under_name earlier later other g name)))
    ∙ rows-named other
