-- Nodes whose changes are put in, from the last one on.
use Rattle.std.proofs.Common.{◌≡◌, ◌≢◌, ℕ, zero, suc, ◌+◌, ◌<◌, Bool, true, false, cond, List, [], ◌∷◌, ◌++◌, length, get_or, map, reverse, Option, Some, None, refl, sym, ap, subst, ◌∙◌, arith, nat_eq, All}
use Rattle.std.specs.Prelude.{fold}
use Rattle.std.specs.Option.{option_map_or}
use Rattle.std.specs.Ordering.{nat_cmp, match_ordering}
use Rattle.std.specs.declared.cmp.Ordering.{Ordering}
use Rattle.std.specs.declared.cmp.Ordering.TheVariants.{Less, Equal, Greater}
use Rattle.std.proofs.lemmas.List.Elements.{All-cons}
use Rattle.std.proofs.lemmas.Bool.{cond-false, eqb-true}
use Rattle.std.proofs.lemmas.List.{append_assoc, get_or-map, length-append, length-map, map-append, reverse-append}
use Rattle.sfs_base.proofs.BasicNumbers.{not_same}
use Rattle.keyed_list.specs.Ascending.{AscendBy, item_with, without}
use Rattle.disk_nodes.specs.Nodes.{entry_node}
use Rattle.disk_nodes.specs.declared.old.OldEntry.{OldEntry}
use Rattle.disk_change.specs.AllBuilt.{entry_after}
use Rattle.disk_change.specs.Lists.{ascending_by, put_over}
use Rattle.disk_change.specs.Parts.{BuiltParts, CanAllBePut, CanBePut, built_in, built_with, parts_node, slots_begun}

-- what is left out hides no other
pub without_other : {X : Type 0} (key : X → ℕ) (items : List X) (n other : ℕ) → other ≢ n → item_with key other (without key n items) ≡ item_with key other items
without_other key [] n other apart = refl
without_other {X} key (item ∷ items) n other apart = by (nat_eq (key item) n) refl (without_other key items n other apart)
  where
    by : (b : Bool) → nat_eq (key item) n ≡ b → item_with key other (without key n items) ≡ item_with key other items
        → item_with key other (cond b items (item ∷ without key n items)) ≡ item_with key other (item ∷ items)
    by true is rest =
        let same : key item ≡ n = eqb-true (key item) n is in
        sym (cond-false (nat_eq (key item) other) (Some item) (item_with key other items) (not_same (key item) other (λ e. apart (sym e ∙ same))))
    by false is rest = ap (λ o. cond (nat_eq (key item) other) (Some item) o) rest

-- what a node is once its changes are put in
abbrev pub put_entry : List OldEntry → BuiltParts → OldEntry
put_entry old parts = entry_after (built_in old parts)

-- What is so while nodes are put in, the last one first: those that are left, and the entries that are made, last first.
pub record Putting (first : List OldEntry) (all : List BuiltParts) (old : List OldEntry) (nodes : List BuiltParts) (list : List OldEntry) : Type 0 where
  pub items : map (put_entry first) all ≡ map (put_entry first) nodes ++ reverse list
  pub ascending : AscendBy parts_node nodes
  pub same : All (λ parts. item_with entry_node parts.node old ≡ item_with entry_node parts.node first) nodes
  pub put : CanAllBePut first nodes

-- a node's slots are found alike where its entry is
same_begun : (old first : List OldEntry) (parts : BuiltParts) → item_with entry_node parts.node old ≡ item_with entry_node parts.node first
    → slots_begun old parts.own parts.node ≡ slots_begun first parts.own parts.node
same_begun old first parts same = by parts.own
  where
    by : (own : Option ℕ) → slots_begun old own parts.node ≡ slots_begun first own parts.node
    by None = refl
    by (Some number) = ap (λ (o : Option OldEntry). option_map_or (λ entry. entry.old.kept.slots) o []) same

pub last_at : {X : Type 0} (xs : List X) (x d : X) → get_or (xs ++ x ∷ []) (length xs) d ≡ x
last_at [] x d = refl
last_at (y ∷ xs) x d = last_at xs x d

pub front_at : {X : Type 0} (xs : List X) (x d : X) (k : ℕ) → k < length xs → get_or (xs ++ x ∷ []) k d ≡ get_or xs k d
front_at [] x d k lt = absurd (omega arith)
front_at (y ∷ xs) x d zero lt = refl
front_at (y ∷ xs) x d (suc k) lt = front_at xs x d k (omega arith)

module _ (first : List OldEntry) (all : List BuiltParts) (old : List OldEntry) (nodes rest : List BuiltParts) (node : BuiltParts) (list : List OldEntry)
    (was : Putting first all old nodes list) (popped : nodes ≡ rest ++ node ∷ []) where
  long : length nodes ≡ length rest + 1
  long = ap length popped ∙ length-append rest (node ∷ [])

  own_same : item_with entry_node node.node old ≡ item_with entry_node node.node first
  own_same =
      let at = last_at rest node node in
      subst (λ (p : BuiltParts). item_with entry_node p.node old ≡ item_with entry_node p.node first)
      (ap (λ (l : List BuiltParts). get_or l (length rest) node) popped ∙ at) (was.same (length rest) node (omega (arith, long)))

  pub node_put : CanBePut (slots_begun old node.own node.node) node
  node_put =
      subst (λ slots. CanBePut slots node) (sym (same_begun old first node own_same))
      (subst (λ (p : BuiltParts). CanBePut (slots_begun first p.own p.node) p)
      (ap (λ (l : List BuiltParts). get_or l (length rest) node) popped ∙ last_at rest node node) (was.put (length rest) node (omega (arith, long))))

  pub one_put : (now : List OldEntry) (entry : OldEntry) → entry ≡ entry_after (built_in old node)
      → ((other : ℕ) → other ≢ node.node → item_with entry_node other now ≡ item_with entry_node other old)
      → Putting first all now rest (list ++ entry ∷ [])
  one_put now entry is others = record {
    items =
        was.items
        ∙ (λ i. map (put_entry first) (popped i) ++ reverse list)
        ∙ ap (λ l. l ++ reverse list) (map-append (put_entry first) rest (node ∷ []))
        ∙ append_assoc (map (put_entry first) rest) (put_entry first node ∷ []) (reverse list)
        ∙ ap (λ e. map (put_entry first) rest ++ e ∷ reverse list)
        (ap (λ slots. entry_after (built_with slots node)) (sym (same_begun old first node own_same)) ∙ sym is)
        ∙ ap (λ l. map (put_entry first) rest ++ l) (sym (reverse-append list (entry ∷ [])));
    ascending = λ i j d lt low.
        let up = was.ascending i j d lt (omega (arith, long, low)) in
        let here = ap (λ (l : List BuiltParts). parts_node (get_or l i d)) popped ∙ ap parts_node (front_at rest node d i (omega (arith, lt, low))) in
        let later = ap (λ (l : List BuiltParts). parts_node (get_or l j d)) popped ∙ ap parts_node (front_at rest node d j low) in
        omega (arith, up, here, later);
    same = λ k d low.
        let here = ap (λ (l : List BuiltParts). get_or l k d) popped ∙ front_at rest node d k low in
        let own = subst (λ (p : BuiltParts). item_with entry_node p.node old ≡ item_with entry_node p.node first) here (was.same k d (omega (arith, long, low))) in
        let less = was.ascending k (length rest) d low (omega (arith, long)) in
        let last = ap (λ (l : List BuiltParts). parts_node (get_or l (length rest) d)) popped ∙ ap parts_node (last_at rest node d) in
        let named = ap parts_node here in
        others (get_or rest k d).node (λ e. omega (arith, less, last, named, e)) ∙ own;
    put = λ k d low.
        subst (λ (p : BuiltParts). CanBePut (slots_begun first p.own p.node) p)
        (ap (λ (l : List BuiltParts). get_or l k d) popped ∙ front_at rest node d k low) (was.put k d (omega (arith, long, low)));
  }

-- entries ascend as their nodes do
pub entries_ascend : (old : List OldEntry) (nodes : List BuiltParts) → AscendBy parts_node nodes → AscendBy entry_node (map (put_entry old) nodes)
entries_ascend old [] up i j d lt within = absurd (omega (arith, within))
entries_ascend old (node ∷ more) up i j d lt within =
    let low : j < length (node ∷ more) = omega (arith, within, length-map more (put_entry old)) in
    let first = ap entry_node (get_or-map (put_entry old) (node ∷ more) i node d (omega (arith, lt, low))) in
    let later = ap entry_node (get_or-map (put_entry old) (node ∷ more) j node d low) in
    let less = up i j node lt low in
    omega (arith, first, later, less)

pub none_left : {X : Type 0} (xs : List X) → length xs ≡ 0 → xs ≡ []
none_left [] none = refl
none_left (x ∷ xs) none = absurd (omega (arith, none))

-- once none is left all are made, the first one first
pub all_made : (first : List OldEntry) (all : List BuiltParts) (old : List OldEntry) (nodes : List BuiltParts) (list made : List OldEntry)
    → Putting first all old nodes list → length nodes ≡ 0 → made ≡ reverse list → made ≡ map (put_entry first) all
all_made first all old nodes list made was none is =
    is ∙ sym (was.items ∙ ap (λ l. map (put_entry first) l ++ reverse list) (none_left nodes none))

-- nodes that ascend are made into entries that do
pub made_of_sorted : (old : List OldEntry) (nodes : List BuiltParts)
    → map (put_entry old) (ascending_by parts_node nodes) ≡ ascending_by entry_node (map entry_after (map (built_in old) nodes))
made_of_sorted old nodes = by_fold nodes [] [] refl
  where
    over : (parts : BuiltParts) (others : List BuiltParts)
        → map (put_entry old) (put_over parts_node parts others) ≡ put_over entry_node (put_entry old parts) (map (put_entry old) others)
    over parts [] = refl
    over parts (other ∷ others) = by (nat_cmp (parts_node parts) (parts_node other)) (over parts others)
      where
        by : (o : Ordering) → map (put_entry old) (put_over parts_node parts others) ≡ put_over entry_node (put_entry old parts) (map (put_entry old) others)
            → map (put_entry old) (match_ordering o (parts ∷ other ∷ others) (parts ∷ others) (other ∷ put_over parts_node parts others))
            ≡ match_ordering o (put_entry old parts ∷ put_entry old other ∷ map (put_entry old) others) (put_entry old parts ∷ map (put_entry old) others)
            (put_entry old other ∷ put_over entry_node (put_entry old parts) (map (put_entry old) others))
        by Less rest = refl
        by Equal rest = refl
        by Greater rest = ap (λ l. put_entry old other ∷ l) rest

    by_fold : (nodes : List BuiltParts) (others : List BuiltParts) (made : List OldEntry) → map (put_entry old) others ≡ made
        → map (put_entry old) (fold (λ those one. put_over parts_node one those) others nodes)
        ≡ fold (λ those one. put_over entry_node one those) made (map entry_after (map (built_in old) nodes))
    by_fold [] others made is = is
    by_fold (parts ∷ nodes) others made is =
        by_fold nodes (put_over parts_node parts others) (put_over entry_node (put_entry old parts) made)
        (over parts others ∙ ap (put_over entry_node (put_entry old parts)) is)

-- what holds of each node holds of each that is listed
pub all_ascending : (P : BuiltParts → Type 0) (nodes : List BuiltParts) → All P nodes → All P (ascending_by parts_node nodes)
all_ascending P nodes each = by_fold nodes [] each (λ k d low. absurd (omega (arith, low)))
  where
    over : (parts : BuiltParts) (others : List BuiltParts) → P parts → All P others → All P (put_over parts_node parts others)
    over parts [] own all = All-cons P parts [] own all
    over parts (other ∷ others) own all =
        by (nat_cmp (parts_node parts) (parts_node other)) (over parts others own (λ k d low. all (suc k) d (omega (arith, low))))
      where
        by : (o : Ordering) → All P (put_over parts_node parts others)
            → All P (match_ordering o (parts ∷ other ∷ others) (parts ∷ others) (other ∷ put_over parts_node parts others))
        by Less rest = All-cons P parts (other ∷ others) own all
        by Equal rest = All-cons P parts others own (λ k d low. all (suc k) d (omega (arith, low)))
        by Greater rest = All-cons P other (put_over parts_node parts others) (all 0 other (omega arith)) rest

    by_fold : (nodes others : List BuiltParts) → All P nodes → All P others → All P (fold (λ those one. put_over parts_node one those) others nodes)
    by_fold [] others each all = all
    by_fold (parts ∷ nodes) others each all =
        by_fold nodes (put_over parts_node parts others) (λ k d low. each (suc k) d (omega (arith, low))) (over parts others (each 0 parts (omega arith)) all)
