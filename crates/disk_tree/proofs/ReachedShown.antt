-- The rule on walks from the root, by what a walk reaches.
use Rattle.std.proofs.Common.{◌≡◌, ◌≢◌, ◌⊎◌, ℕ, zero, suc, ◌+◌, ◌<◌, ◌≤◌, Bool, true, false, cond, not, ◌&&◌, ◌||◌, List, [], ◌∷◌, ◌++◌, ◌-◌, map, length, nat_eq, nat_lt, eqb, Option, None, Some, refl, sym, ap, subst, ◌∙◌, arith, inl, inr}
use Rattle.std.specs.List.{list_any}
use Rattle.std.specs.FinMap.{FinMap, find, get, entries, len, len-entries, get-from_entries}
use Rattle.std.specs.Option.{option_or}
use Rattle.std.specs.Ordering.{eq_by_cmp}
use Rattle.tree_laws.specs.Order.{Key, key_cmp}
use Rattle.tree_laws.proofs.Joined.{key_cmp_total, find-append}
use Rattle.std.proofs.lemmas.List.{get_or_past}
use Rattle.sfs_base.specs.declared.numbers.Kind.{Kind}
use Rattle.sfs_base.specs.declared.numbers.Kind.TheVariants.{File, Directory}
use Rattle.disk_tree.proofs.Entries.{other_directory, no_entries, more_entries, entry_more, whole_entries, fresh_entry}
use Rattle.std.proofs.lemmas.Bool.{cases_Bool, cases_lt, cond-true, cond-false, eq-eqb, eqb-true, eqb-false, ltb-true, ltb-false, or_parts, or_right, or_cases}
use Rattle.std.proofs.lemmas.List.Folds.{list_any_at}
use Rattle.sfs_base.proofs.BasicTruth.{not_both_of, not_false}
use Rattle.sfs_base.proofs.BasicOptions.{some_same, none_some}
use Rattle.sfs_base.specs.Lists.{Roomy}
use Rattle.sfs_image.specs.Inode.{Inode}
use Rattle.sfs_image.specs.Seen.{SeenInodes}
use Rattle.sfs_image.specs.Slot.{Row, kind_byte}
use Rattle.tree_laws.specs.Tree.{TreeState, row_of, count_of, names_it, is_directory_kind, holder_of, walk_up, and_above, lies_below}
use Rattle.tree_laws.proofs.Counting.{count_some, only, same_itself}
use Rattle.tree_laws.proofs.RowFacts.{holder_found}
use Rattle.tree_laws.proofs.Walks.{Chain, chain_within, walk_meets}
use Rattle.image_laws.specs.ImageTree.{image_rows}
use Rattle.image_laws.specs.Keeps.{ruled_tree}
use Rattle.image_laws.specs.Rules.{is_unreached}
use Rattle.disk_tree.specs.Apart.{is_marked}
use Rattle.disk_tree.specs.Built.{entry_of_row, row_entries, entries_at, entries_to}
use Rattle.disk_tree.specs.First.{NonePasses}
use Rattle.disk_tree.specs.Inodes.{inode_at}
use Rattle.disk_tree.specs.Reached.{row_at, IsReachedFromRoot, root, named, MarksReached}
use Rattle.disk_tree.specs.Rows.{NO_ROW, rows_of_inode, naming_below, is_misplaced_by}
use Rattle.disk_tree.specs.Shown.{ShowsRows, ReachedTestIsRule}
use Rattle.disk_tree.specs.Tests.{breaks_eighth, breaks_tenth, breaks_eleventh, breaks_twelfth}
use Rattle.disk_tree.proofs.CountsShown.{count_is, rows_are, own}

module _ (image : SeenInodes) (inodes : List Inode) (rows : List (Roomy Row)) (shows : ShowsRows image inodes rows) (long : length rows ≡ length inodes)
    (once : NonePasses image.count (breaks_eighth rows)) where
  abbrev tree : TreeState
  tree = ruled_tree image

  -- what is found among entries is found among more
  stay_more : (q : Key) (xs ys : List (Key × ℕ)) (x : ℕ) → find key_cmp q xs ≡ Some x → find key_cmp q (xs ++ ys) ≡ Some x
  stay_more q xs ys x is = find-append key_cmp q xs ys ∙ ap (λ o. option_or o (find key_cmp q ys)) is

  -- a row of the tree, as the row of a place
  pub record RowBack (d : ℕ) (name : List ℕ) (x n : ℕ) : Type 0 where
    pub within : d < n
    pub k : ℕ
    pub inside : k < length (rows_of_inode rows d)
    pub is : (row_at (rows_of_inode rows d) k).inode ≡ x

  record InRows (d : ℕ) (x : ℕ) (own : List Row) : Type 0 where
    k : ℕ
    inside : k < length own
    is : (row_at own k).inode ≡ x

  in_rows : (d n : ℕ) (name : List ℕ) (x : ℕ) (own : List Row) → find key_cmp (d, name) (map (entry_of_row n) own) ≡ Some x → (d ≡ n) × InRows d x own
  in_rows d n name x [] is = absurd (none_some is)
  in_rows d n name x (row ∷ own) is = by (cases_Bool (eq_by_cmp key_cmp (d, name) (n, row.name))) (in_rows d n name x own)
    where
      by : (eq_by_cmp key_cmp (d, name) (n, row.name) ≡ true) ⊎ (eq_by_cmp key_cmp (d, name) (n, row.name) ≡ false)
          → (find key_cmp (d, name) (map (entry_of_row n) own) ≡ Some x → (d ≡ n) × InRows d x own) → (d ≡ n) × InRows d x (row ∷ own)
      by (inl same) rest = (
        elim (cases_Bool (nat_eq d n)) [
          | inl e ↦ eqb-true _ _ e
          | inr other ↦ absurd (not_both_of (eq_by_cmp key_cmp (d, name) (n, row.name)) same (other_directory d n name row.name (eqb-false _ _ other)))
        ],
        record {
          k = 0;
          inside = omega arith;
          is =
              some_same
              (sym (cond-true (eq_by_cmp key_cmp (d, name) (n, row.name)) (Some row.inode) (find key_cmp (d, name) (map (entry_of_row n) own)) same)
              ∙ is);
        },
      )
      by (inr other) rest =
          (let found = rest
          (sym (cond-false (eq_by_cmp key_cmp (d, name) (n, row.name)) (Some row.inode) (find key_cmp (d, name) (map (entry_of_row n) own)) other) ∙ is) in
          let one = found.1 in
          (found.0, record { k = suc one.k; inside = (let h = one.inside in omega arith); is = one.is }))

  in_entries : (n d : ℕ) (name : List ℕ) (x : ℕ) → find key_cmp (d, name) (row_entries rows n) ≡ Some x → RowBack d name x n
  in_entries zero d name x is = absurd (none_some (sym (ap (find key_cmp (d, name)) (no_entries rows)) ∙ is))
  in_entries (suc n) d name x is = by (find key_cmp (d, name) (row_entries rows n)) refl split (in_entries n d name x)
    where
      split : option_or (find key_cmp (d, name) (row_entries rows n)) (find key_cmp (d, name) (entries_at rows n)) ≡ Some x
      split =
          sym
          ((let e : suc n ≡ n + 1 = omega arith in ap (λ (k : ℕ). find key_cmp (d, name) (row_entries rows k)) e)
          ∙ ap (find key_cmp (d, name)) (more_entries rows n) ∙ find-append key_cmp (d, name) (row_entries rows n) (entries_at rows n))
          ∙ is

      by : (o : Option ℕ) → find key_cmp (d, name) (row_entries rows n) ≡ o → option_or o (find key_cmp (d, name) (entries_at rows n)) ≡ Some x
          → (find key_cmp (d, name) (row_entries rows n) ≡ Some x → RowBack d name x n) → RowBack d name x (suc n)
      by (Some y) found same rest =
          (let one = rest (found ∙ same) in record { within = (let h = one.within in omega arith); k = one.k; inside = one.inside; is = one.is })
      by None found same rest =
          (let one = in_rows d n name x (rows_of_inode rows n) same in
          let e : n ≡ d = sym one.0 in
          let own = one.1 in
          record {
            within = (let h = one.0 in omega arith);
            k = own.k;
            inside = subst (λ (j : ℕ). own.k < length (rows_of_inode rows j)) e own.inside;
            is = subst (λ (j : ℕ). (row_at (rows_of_inode rows j) own.k).inode ≡ x) e own.is;
          })

  pub row_back : (d : ℕ) (name : List ℕ) (x : ℕ) → row_of tree d name ≡ Some x → RowBack d name x image.count
  row_back d name x is =
      in_entries image.count d name x
      (sym
      (ap (λ (m : FinMap key_cmp ℕ). get m (d, name)) (rows_are image inodes rows shows long once)
      ∙ get-from_entries key_cmp_total (row_entries rows image.count) (d, name))
      ∙ is)

  module _ (d k : ℕ) (inside : k < length (rows_of_inode rows d)) where
    abbrev key : Key
    key = (d, (row_at (rows_of_inode rows d) k).name)

    at_k : find key_cmp key (entries_to rows d (k + 1)) ≡ Some (row_at (rows_of_inode rows d) k).inode
    at_k =
        ap (find key_cmp key) (entry_more rows d k inside)
        ∙ find-append key_cmp key (entries_to rows d k) (entry_of_row d (row_at (rows_of_inode rows d) k) ∷ [])
        ∙ ap (λ o. option_or o (find key_cmp key (entry_of_row d (row_at (rows_of_inode rows d) k) ∷ [])))
        (fresh_entry rows (own image inodes rows shows long once) d k inside)
        ∙ ap (λ b. cond b (Some (row_at (rows_of_inode rows d) k).inode) None) (same_itself key)

    to_end : (j : ℕ) → k + 1 + j ≤ length (rows_of_inode rows d)
        → find key_cmp key (entries_to rows d (k + 1 + j)) ≡ Some (row_at (rows_of_inode rows d) k).inode
    to_end zero le = (let e : k + 1 + 0 ≡ k + 1 = omega arith in ap (λ (n : ℕ). find key_cmp key (entries_to rows d n)) e) ∙ at_k
    to_end (suc j) le =
        (let e : k + 1 + suc j ≡ k + 1 + j + 1 = omega arith in ap (λ (n : ℕ). find key_cmp key (entries_to rows d n)) e)
        ∙ ap (find key_cmp key) (entry_more rows d (k + 1 + j) (omega arith))
        ∙ stay_more key (entries_to rows d (k + 1 + j)) (entry_of_row d (row_at (rows_of_inode rows d) (k + 1 + j)) ∷ [])
        (row_at (rows_of_inode rows d) k).inode (to_end j (omega arith))

    own_all : find key_cmp key (row_entries rows (d + 1)) ≡ Some (row_at (rows_of_inode rows d) k).inode
    own_all =
        ap (find key_cmp key) (sym (whole_entries rows d))
        ∙ (let e : length (rows_of_inode rows d) ≡ k + 1 + (length (rows_of_inode rows d) - (k + 1)) = omega arith in
        ap (λ (n : ℕ). find key_cmp key (entries_to rows d n)) e)
        ∙ to_end (length (rows_of_inode rows d) - (k + 1)) (omega arith)

    to_all : (j : ℕ) → find key_cmp key (row_entries rows (d + 1 + j)) ≡ Some (row_at (rows_of_inode rows d) k).inode
    to_all zero = (let e : d + 1 + 0 ≡ d + 1 = omega arith in ap (λ (n : ℕ). find key_cmp key (row_entries rows n)) e) ∙ own_all
    to_all (suc j) =
        (let e : d + 1 + suc j ≡ d + 1 + j + 1 = omega arith in ap (λ (n : ℕ). find key_cmp key (row_entries rows n)) e)
        ∙ ap (find key_cmp key) (more_entries rows (d + 1 + j))
        ∙ stay_more key (row_entries rows (d + 1 + j)) (entries_at rows (d + 1 + j)) (row_at (rows_of_inode rows d) k).inode (to_all j)

    pub row_forth : d < image.count → row_of tree d (row_at (rows_of_inode rows d) k).name ≡ Some (row_at (rows_of_inode rows d) k).inode
    row_forth within =
        ap (λ (m : FinMap key_cmp ℕ). get m key) (rows_are image inodes rows shows long once)
        ∙ get-from_entries key_cmp_total (row_entries rows image.count) key
        ∙ (let e : image.count ≡ d + 1 + (image.count - (d + 1)) = omega arith in ap (λ (n : ℕ). find key_cmp key (row_entries rows n)) e)
        ∙ to_all (image.count - (d + 1))

  module _ (placed : NonePasses image.count (breaks_tenth inodes rows)) (rootless : NonePasses image.count (breaks_eleventh rows))
      (few : NonePasses image.count (breaks_twelfth inodes rows (length inodes))) where
    -- an inode with a row is one of the image's
    pub holds_rows : (d k : ℕ) → k < length (rows_of_inode rows d) → d < image.count
    holds_rows d k inside = elim (cases_lt d image.count) [
      | inl within ↦ within
      | inr past ↦
          absurd
          (let e = ap (λ (r : Roomy Row). length r.items) (get_or_past rows d (record { items = []; spare = 0 }) (let c = shows.count in omega arith)) in
          omega arith)
    ]

    -- a row is not misplaced
    placed_at : (d k : ℕ) → k < length (rows_of_inode rows d) → is_misplaced_by inodes (row_at (rows_of_inode rows d) k) ≡ false
    placed_at d k inside = elim (cases_Bool (is_misplaced_by inodes (row_at (rows_of_inode rows d) k))) [
      | inr fine ↦ fine
      | inl wrong ↦
          absurd
          (not_both_of (breaks_tenth inodes rows d) (list_any_at (is_misplaced_by inodes) (rows_of_inode rows d) k NO_ROW inside wrong)
          (placed d (holds_rows d k inside)))
    ]

    pub child_within : (d k : ℕ) → k < length (rows_of_inode rows d) → (row_at (rows_of_inode rows d) k).inode < image.count
    child_within d k inside =
        (let both = or_parts (not (nat_lt (row_at (rows_of_inode rows d) k).inode (length inodes))) _ (placed_at d k inside) in
        let h = ltb-true _ _ (not_false _ both.0) in
        let c = shows.count in
        omega arith)

    pub child_kind : (d k : ℕ) → k < length (rows_of_inode rows d)
        → (inode_at inodes (row_at (rows_of_inode rows d) k).inode).kind ≡ kind_byte (row_at (rows_of_inode rows d) k).kind
    child_kind d k inside =
        eqb-true _ _ (not_false _ (or_parts (not (nat_lt (row_at (rows_of_inode rows d) k).inode (length inodes))) _ (placed_at d k inside)).1)

    pub kind_again : (kind : Kind) → kind_byte kind ≡ 2 → is_directory_kind kind ≡ true
    kind_again File e = absurd (let h : 1 ≡ 2 = e in omega arith)
    kind_again Directory e = refl

    pub kind_forth : (kind : Kind) → is_directory_kind kind ≡ true → kind_byte kind ≡ 2
    kind_forth File e = absurd (not_both_of true refl (sym e))
    kind_forth Directory e = refl

    -- no row names the root
    root_free : (d k : ℕ) → k < length (rows_of_inode rows d) → (row_at (rows_of_inode rows d) k).inode ≢ 0
    root_free d k inside same =
        not_both_of (breaks_eleventh rows d) (list_any_at (λ (row : Row). nat_eq row.inode 0) (rows_of_inode rows d) k NO_ROW inside (eq-eqb _ _ same))
        (rootless d (holds_rows d k inside))

    -- the holder of a directory is the one of a row that names it
    pub holder_is : (d k : ℕ) → k < length (rows_of_inode rows d) → is_directory_kind (row_at (rows_of_inode rows d) k).kind ≡ true
        → holder_of tree (row_at (rows_of_inode rows d) k).inode ≡ Some d
    holder_is d k inside kind =
        let x = (row_at (rows_of_inode rows d) k).inode in
        let within = child_within d k inside in
        let row = row_forth d k inside (holds_rows d k inside) in
        let some = count_some (names_it x) (image_rows image) (d, (row_at (rows_of_inode rows d) k).name) x row (eq-eqb x x refl) in
        let directory : nat_eq (inode_at inodes x).kind 2 ≡ true =
        eq-eqb _ _ (child_kind d k inside ∙ kind_forth (row_at (rows_of_inode rows d) k).kind kind) in
        let most =
        ltb-false 1 (naming_below rows (length inodes) x) (sym (ap (λ b. b && nat_lt 1 (naming_below rows (length inodes) x)) directory) ∙ few x within) in
        let counted = count_is image inodes rows shows long once x in
        let one : count_of (image_rows image) x ≡ 1 = omega arith in
        elim (holder_found tree x) [
          | inl f ↦
              f.1
              ∙ ap Some
              (ap (λ (q : Key). q.0)
              (only (names_it x) (image_rows image) (d, (row_at (rows_of_inode rows d) k).name) (f.0, f.2.0) x x one row (eq-eqb x x refl) f.2.1
              (eq-eqb x x refl)))
          | inr none ↦ absurd (none.1 (record { directory = d; name = (row_at (rows_of_inode rows d) k).name; row = row }))
        ]

    root_alone : holder_of tree 0 ≡ None
    root_alone = elim (holder_found tree 0) [
      | inr none ↦ none.0
      | inl f ↦ (let back = row_back f.0 f.2.0 0 f.2.1 in absurd (root_free f.0 back.k back.inside back.is))
    ]

    -- the holders above a reached directory end with the root
    record Climbs (x : ℕ) : Type 0 where
      above : List ℕ
      chain : Chain (holder_of tree) x above
      meets : (nat_eq x 0 || list_any (λ a. nat_eq a 0) above) ≡ true

    climbs : {x : ℕ} → IsReachedFromRoot rows x → Climbs x
    climbs root = record { above = []; chain = root_alone; meets = refl }
    climbs (named d k inside kind rest) =
        (let up = climbs rest in
        record {
          above = d ∷ up.above;
          chain = (holder_is d k inside kind, up.chain);
          meets = or_right (nat_eq (row_at (rows_of_inode rows d) k).inode 0) _ up.meets;
        })

    reached_below : (x : ℕ) → IsReachedFromRoot rows x → (nat_eq x 0 || lies_below tree x 0) ≡ true
    reached_below x is =
        (let up = climbs is in
        let short = subst (λ n. length up.above ≤ n) (sym (len-entries (image_rows image))) (chain_within (entries (image_rows image)) x up.above up.chain) in
        ap (λ l. nat_eq x 0 || list_any (λ a. nat_eq a 0) l) (walk_meets tree (len (image_rows image)) x up.above up.chain short) ∙ up.meets)

    module _ (reached : List Bool) (marks : MarksReached rows (length rows) reached) where
      -- what meets the root by its holders has a mark
      met_marked : (steps x : ℕ) → (inode_at inodes x).kind ≡ 2 → list_any (λ a. nat_eq a 0) (walk_up steps tree x) ≡ true → is_marked reached x ≡ true
      met_marked zero x kind met = absurd (not_both_of false met refl)
      met_marked (suc steps) x kind met = by (holder_found tree x) (met_marked steps)
        where
          by : ((h : ℕ) × (holder_of tree x ≡ Some h) × ((name : List ℕ) × (row_of tree h name ≡ Some x)))
              ⊎ ((holder_of tree x ≡ None) × (Rattle.tree_laws.proofs.RowFacts.IsNamed tree.rows x → ⊥)) →
              ((y : ℕ) → (inode_at inodes y).kind ≡ 2 → list_any (λ a. nat_eq a 0) (walk_up steps tree y) ≡ true → is_marked reached y ≡ true)
              → is_marked reached x ≡ true
          by (inr none) up =
              absurd
              (not_both_of (list_any (λ a. nat_eq a 0) (and_above (walk_up steps tree) (holder_of tree x))) met
              (ap (λ o. list_any (λ a. nat_eq a 0) (and_above (walk_up steps tree) o)) none.0))
          by (inl f) up =
              let back = row_back f.0 f.2.0 x f.2.1 in
              let holder_kind : (inode_at inodes f.0).kind ≡ 2 = elim (cases_Bool (eqb (image.seen f.0).kind 2)) [
                | inl directory ↦ sym (shows.kind f.0 back.within) ∙ eqb-true _ _ directory
                | inr other ↦ absurd (let e = ap length (shows.others f.0 back.within (eqb-false _ _ other)) in let h = back.inside in omega arith)
              ] in
              let meets : (nat_eq f.0 0 || list_any (λ a. nat_eq a 0) (walk_up steps tree f.0)) ≡ true =
              sym (ap (λ o. list_any (λ a. nat_eq a 0) (and_above (walk_up steps tree) o)) f.1) ∙ met in
              let marked : is_marked reached f.0 ≡ true = elim (or_cases (nat_eq f.0 0) _ meets) [
                | inl zero_is ↦ subst (λ (j : ℕ). is_marked reached j ≡ true) (sym (eqb-true _ _ zero_is)) marks.root
                | inr above ↦ up f.0 holder_kind above
              ] in
              let own_kind =
              kind_again (row_at (rows_of_inode rows f.0) back.k).kind
              (sym (child_kind f.0 back.k back.inside) ∙ ap (λ (j : ℕ). (inode_at inodes j).kind) back.is ∙ kind) in
              subst (λ (j : ℕ). is_marked reached j ≡ true) back.is (marks.closed f.0 marked back.k back.inside own_kind)

      unreached_is : (x : ℕ) → (inode_at inodes x).kind ≡ 2 → is_unreached image x ≡ not (is_marked reached x)
      unreached_is x kind = ap not (elim (cases_Bool (is_marked reached x)) [
        | inl marked ↦ reached_below x (marks.sound x marked) ∙ sym marked
        | inr none ↦ elim (cases_Bool (nat_eq x 0 || lies_below tree x 0)) [
          | inr apart ↦ apart ∙ sym none
          | inl meets ↦ absurd (not_both_of (is_marked reached x) (elim (or_cases (nat_eq x 0) _ meets) [
            | inl zero_is ↦ subst (λ (j : ℕ). is_marked reached j ≡ true) (sym (eqb-true _ _ zero_is)) marks.root
            | inr below ↦ met_marked (len (image_rows image)) x kind below
          ]) none)
        ]
      ])

pub reached_test_is_rule : ReachedTestIsRule
reached_test_is_rule image inodes rows reached shows long once placed rootless few marks some kind i within =
    elim (cases_Bool (eqb (inode_at inodes i).kind 2)) [
      | inl directory ↦
          ap (λ (k : ℕ). nat_eq k 2 && is_unreached image i) (shows.kind i within)
          ∙ ap (λ b. nat_eq (inode_at inodes i).kind 2 && b)
          (unreached_is image inodes rows shows long once placed rootless few reached marks i (eqb-true _ _ directory))
      | inr other ↦
          ap (λ (k : ℕ). nat_eq k 2 && is_unreached image i) (shows.kind i within) ∙ ap (λ b. b && is_unreached image i) other
          ∙ sym (ap (λ b. b && not (is_marked reached i)) other)
    ]
