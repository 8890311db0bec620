-- The walk that writes a tree's text meets what the walk of its shape meets.
use Rattle.std.proofs.Common.{◌≡◌, ℕ, zero, suc, ◌+◌, ◌<◌, ◌≤◌, Bool, true, false, cond, not, List, [], ◌∷◌, ◌++◌, length, map, Some, arith, refl, sym, ap, subst, ◌∙◌, codes, append_assoc, length-append, ap₂, None, unwrap_or, nat_eq, zero-add, drop, slice_get, string_bytes}
use Rattle.std.proofs.lemmas.Grind.{flat_map-append}
use Rattle.std.proofs.lemmas.Bool.{lt-ltb}
use Rattle.std.proofs.lemmas.List.{append-nil, map-append, reverse-append}
use Rattle.std.proofs.Math.Seq.{drop-length}
use Rattle.std.proofs.lemmas.List.Folds.{flat_map-map}
use Rattle.std.specs.List.{AllByRecursion, flat_map, filter, fold, list_any, position_or_len}
use Rattle.std.specs.Cmp.Lexicographic.{nat_list_cmp_total}
use Rattle.std.specs.FinMap.{entries, entries_sorted, get-entries, len}
use Rattle.sfs_base.proofs.BasicNumbers.{not_less}
use Rattle.sfs_base.proofs.BasicOptions.{some_same}
use Rattle.tree_laws.specs.Tree.{TreeState, row_of, is_directory, names_of}
use Rattle.tree_laws.specs.Sound.{Above, at_root, below, IsSound}
use Rattle.tree_laws.specs.Shape.{Met, met_from, met, with_file, files_met}
use Rattle.tree_laws.proofs.Found.{each_entry}
use Rattle.tree_laws.proofs.Joined.{name_cmp-IsAntisymmetric}
use Rattle.tree_laws.proofs.Names.{get-names_where}
use Rattle.tree_laws.proofs.Walks.{fewer_above}
use Rattle.script.specs.declared.writing.tree.Unmet.{Unmet}
use Rattle.script.specs.Texts.{name_text}
use Rattle.script.specs.TreeTexts.{names_text, path_text, directory_text, file_text, group_in, met_text, tree_text}
use Rattle.script.specs.TreeWalk.{Item, IsGroupIn, line_text, child_item, child_items, items_from, still_to_meet, files_then, shown_path, IsBelowRoot, IsWalk, item_of, items_of}

group_is : (file group : ℕ) (files : List ℕ) → IsGroupIn files file group → group_in files file ≡ group
group_is file group files at =
    ap (λ b. unwrap_or (cond b (Some (position_or_len (λ x. nat_eq x file) files)) None) 0)
    (lt-ltb _ _ (subst (λ g. g < length files) (sym at.place) at.within))
    ∙ at.place

-- it stands there in a longer list too
longer : (file group : ℕ) (files more : List ℕ) → IsGroupIn files file group → IsGroupIn (files ++ more) file group
longer file group files more at = record {
  place = stays files (subst (λ g. g < length files) (sym at.place) at.within) ∙ at.place;
  within = subst (λ n. group < n) (sym (length-append files more)) (further (length more) at.within);
}
  where
    further : {a b : ℕ} (c : ℕ) → a < b → a < b + c
    further c lt = omega arith

    stays : (xs : List ℕ) → position_or_len (λ x. nat_eq x file) xs < length xs
        → position_or_len (λ x. nat_eq x file) (xs ++ more) ≡ position_or_len (λ x. nat_eq x file) xs
    stays [] lt = absurd (none lt)
      where
        none : 0 < 0 → ⊥
        none lt = omega arith
    stays (x ∷ xs) lt =
        elim (nat_eq x file) as (λ b. cond (not b) (1 + position_or_len (λ x. nat_eq x file) xs) 0 < suc (length xs)
        → cond (not b) (1 + position_or_len (λ x. nat_eq x file) (xs ++ more)) 0 ≡ cond (not b) (1 + position_or_len (λ x. nat_eq x file) xs) 0) [
          | true ↦ λ _. refl
          | false ↦ λ less. ap (λ n. 1 + n) (stays xs (lower less))
        ] lt
      where
        lower : {a b : ℕ} → 1 + a < suc b → a < b
        lower lt = omega arith

with_file_longer : (files : List ℕ) (x : ℕ) → (more : List ℕ) × (with_file files x ≡ files ++ more)
with_file_longer files x =
    elim (list_any (λ before. nat_eq before x) files) as (λ b. (more : List ℕ) × (cond b files (files ++ x ∷ []) ≡ files ++ more)) [
      | true ↦ ([], sym (append-nil files))
      | false ↦ (x ∷ [], refl)
    ]

group_kept : (file group : ℕ) (files others : List ℕ) → IsGroupIn files file group → IsGroupIn (fold with_file files others) file group
group_kept file group files [] at = at
group_kept file group files (x ∷ others) at =
    let w = with_file_longer files x in
    group_kept file group (with_file files x) others (subst (λ fs. IsGroupIn fs file group) (sym w.1) (longer file group files w.0 at))

-- a node that was met, with its path as text
abbrev shown : Met → Item
shown m = record { path = names_text m.path; node = m.node }

names_more : (path : List (List ℕ)) (name : List ℕ) → names_text (path ++ name ∷ []) ≡ names_text path ++ (codes "/" ++ name_text name)
names_more path name =
    flat_map-append (λ n. codes "/" ++ name_text n) path (name ∷ []) ∙ ap (λ t. names_text path ++ t) (append-nil (codes "/" ++ name_text name))

map_flat : {A B C : Type 0} (h : B → C) (f : A → List B) (xs : List A) → map h (flat_map f xs) ≡ flat_map (λ x. map h (f x)) xs
map_flat h f [] = refl
map_flat h f (x ∷ xs) = map-append h (f x) (flat_map f xs) ∙ ap (λ t. map h (f x) ++ t) (map_flat h f xs)

rows_shown : (steps : ℕ) (tree : TreeState) (path : List (List ℕ)) (node : ℕ)
    → ((row : List ℕ × ℕ)
    → map shown (met_from steps tree (path ++ row.0 ∷ []) row.1) ≡ items_from steps tree (record { path = names_text (path ++ row.0 ∷ []); node = row.1 }))
    → (rows : List (List ℕ × ℕ)) → flat_map (λ (row : List ℕ × ℕ). map shown (met_from steps tree (path ++ row.0 ∷ []) row.1)) rows
    ≡ flat_map (λ (row : List ℕ × ℕ). items_from steps tree (child_item (record { path = names_text path; node = node }) row)) rows
rows_shown steps tree path node each [] = refl
rows_shown steps tree path node each (row ∷ rows) =
    ap₂ (λ (a b : List Item). a ++ b)
    (each row ∙ ap (λ (t : List ℕ). items_from steps tree (record { path = t; node = row.1 })) (names_more path row.0))
    (rows_shown steps tree path node each rows)

-- the walk of a shape, with paths as text, is the walk of items
shown_from : (steps : ℕ) (tree : TreeState) (path : List (List ℕ)) (node : ℕ)
    → map shown (met_from steps tree path node) ≡ items_from steps tree (record { path = names_text path; node = node })
shown_from zero tree path node = refl
shown_from (suc steps) tree path node =
    let rows = cond (is_directory tree node) (entries (names_of node tree.rows)) [] in
    let item : Item = record { path = names_text path; node = node } in
    ap (λ (t : List Item). item ∷ t)
    (map_flat shown (λ (row : List ℕ × ℕ). met_from steps tree (path ++ row.0 ∷ []) row.1) rows
    ∙ rows_shown steps tree path node (λ row. shown_from steps tree (path ++ row.0 ∷ []) row.1) rows
    ∙ sym (flat_map-map (items_from steps tree) (child_item item) rows))

shown_path_is : (path : List (List ℕ)) → shown_path (names_text path) ≡ path_text path
shown_path_is [] = refl
shown_path_is (name ∷ names) = refl

line_shown : (tree : TreeState) (files : List ℕ) (m : Met) → met_text tree files m ≡ line_text tree files (shown m)
line_shown tree files m =
    ap (λ path. cond (is_directory tree m.node) (directory_text tree path m.node) (file_text tree (group_in files m.node) path m.node))
    (sym (shown_path_is m.path))

lines_shown : (tree : TreeState) (files : List ℕ) (ms : List Met) → flat_map (met_text tree files) ms ≡ flat_map (line_text tree files) (map shown ms)
lines_shown tree files [] = refl
lines_shown tree files (m ∷ ms) = ap₂ (λ (a b : List ℕ). a ++ b) (line_shown tree files m) (lines_shown tree files ms)

nodes_shown : (ms : List Met) → map (λ (m : Met). m.node) ms ≡ map (λ (item : Item). item.node) (map shown ms)
nodes_shown [] = refl
nodes_shown (m ∷ ms) = ap (λ t. m.node ∷ t) (nodes_shown ms)

-- the root, where a walk begins
abbrev pub root_item : Item
root_item = record { path = []; node = 0 }

-- a walk that is to meet the root alone stands at the begin
pub walk_begins : (tree : TreeState) → IsWalk tree [] [] (root_item ∷ [])
walk_begins tree = record {
  written = ap (flat_map (line_text tree (files_met tree))) (all tree) ∙ sym (lines_shown tree (files_met tree) (met tree));
  found =
      ap (λ items. files_then tree [] items) (all tree)
      ∙ ap (λ nodes. fold with_file [] (filter (λ node. not (is_directory tree node)) nodes)) (sym (nodes_shown (met tree)));
  reached = (λ directory. ([], at_root), tt);
}
  where
    all : (tree : TreeState) → still_to_meet tree (root_item ∷ []) ≡ map shown (met tree)
    all tree = append-nil (items_from (len tree.rows) tree root_item) ∙ sym (shown_from (len tree.rows) tree [] 0)

-- a walk with nothing to meet has written the text
pub walk_ends : (tree : TreeState) (text files : List ℕ) → IsWalk tree text files [] → text ≡ tree_text tree
walk_ends tree text files walk = sym (append-nil text) ∙ walk.written

further : (n s a : ℕ) → n ≤ suc s + a → n ≤ s + suc a
further n s a le = omega arith

same_by : (f g : Item → List Item) (P : Item → Type 0) → ((item : Item) → P item → f item ≡ g item) → (items : List Item) → AllByRecursion P items
    → flat_map f items ≡ flat_map g items
same_by f g P same [] all = refl
same_by f g P same (item ∷ items) all = ap₂ (λ (a b : List Item). a ++ b) (same item all.0) (same_by f g P same items all.1)

-- a walk after a call, with what it is then to meet
pub moved : (tree : TreeState) (text old_text files old_files : List ℕ) (items old_items : List Item) → text ≡ old_text → files ≡ old_files → items ≡ old_items
    → IsWalk tree old_text old_files old_items → IsWalk tree text files items
moved tree text old_text files old_files items old_items a b c walk = rw a (rw b (rw c walk))

-- what was put behind what is to meet is the next one
pub items_after : (new old : List Unmet) (one : Unmet) → new ≡ old ++ one ∷ [] → items_of new ≡ item_of one ∷ items_of old
items_after new old one put = ap items_of put ∙ ap (map item_of) (reverse-append old (one ∷ []))

-- an item is what its two parts are
item_is : (one : Unmet) (path : List ℕ) (node : ℕ) → string_bytes one.path ≡ path → one.node.0 ≡ node
    → ◌≡◌ {A = Item} (item_of one) (record { path = path; node = node })
item_is one path node a b = ap₂ (λ (p : List ℕ) (n : ℕ). let item : Item = record { path = p; node = n } in item) a b

-- a walk that was put together for the root
pub begun_with : (tree : TreeState) (text files : List ℕ) (new old : List Unmet) (one : Unmet) → text ≡ [] → files ≡ [] → old ≡ [] → new ≡ old ++ one ∷ []
    → string_bytes one.path ≡ [] → one.node.0 ≡ 0 → IsWalk tree text files (items_of new)
begun_with tree text files new old one a b c put path node =
    moved tree text [] files [] (items_of new) (root_item ∷ []) a b
    (items_after new old one put ∙ ap₂ (λ (i : Item) (is : List Item). i ∷ is) (item_is one [] 0 path node) (ap items_of c))
    (walk_begins tree)

drop_at : (rows : List (List ℕ × ℕ)) (k : ℕ) (row : List ℕ × ℕ) → slice_get rows k ≡ Some row → drop k rows ≡ row ∷ drop (suc k) rows
drop_at [] k row at = cc
drop_at (r ∷ rows) zero row at = ap (λ x. x ∷ rows) (some_same at)
drop_at (r ∷ rows) (suc k) row at = drop_at rows k row at

-- a child was put before those with names behind its own
pub child_put : (rows : List (List ℕ × ℕ)) (item : Item) (left k : ℕ) (row : List ℕ × ℕ) (new old : List Unmet) (one : Unmet) (before : List Item)
    → slice_get rows k ≡ Some row
    → left ≡ suc k → new ≡ old ++ one ∷ [] → string_bytes one.path ≡ item.path ++ (codes "/" ++ name_text row.0) → one.node.0 ≡ row.1
    → items_of old ≡ map (child_item item) (drop left rows) ++ before → items_of new ≡ map (child_item item) (drop k rows) ++ before
child_put rows item left k row new old one before at next put path node were =
    items_after new old one put
    ∙ ap₂ (λ (i : Item) (is : List Item). i ∷ is) (item_is one _ row.1 path node) (were ∙ ap (λ n. map (child_item item) (drop n rows) ++ before) next)
    ∙ ap (λ l. map (child_item item) l ++ before) (sym (drop_at rows k row at))

-- at the begin none was put
pub none_put : (rows : List (List ℕ × ℕ)) (item : Item) (left : ℕ) (before : List Item) → left ≡ length rows
    → before ≡ map (child_item item) (drop left rows) ++ before
none_put rows item left before all = ap (λ l. map (child_item item) l ++ before) (sym (ap (λ n. drop n rows) all ∙ drop-length rows))

module _ (tree : TreeState) (sound : IsSound tree) where
  -- so many steps go past all that lies below a node
  abbrev IsDeep : ℕ → Item → Type 0
  IsDeep steps item = is_directory tree item.node ≡ true → (above : List ℕ) × Above tree item.node above × (len tree.rows ≤ steps + length above)

  -- each row of a directory has a P that each of the tree's rows in it has
  each_row : (P : List ℕ × ℕ → Type 0) (node : ℕ) → ((name : List ℕ) (child : ℕ) → row_of tree node name ≡ Some child → P (name, child))
      → AllByRecursion P (entries (names_of node tree.rows))
  each_row P node h =
      each_entry nat_list_cmp_total name_cmp-IsAntisymmetric P (entries (names_of node tree.rows)) (entries_sorted _)
      (λ name child is. h name child (sym (get-names_where node (λ _. true) tree.rows name) ∙ get-entries _ name ∙ is))

  -- where no step is left, a directory that is deep enough has no rows
  no_rows : (rows : List (List ℕ × ℕ)) (node : ℕ) (above : List ℕ) → Above tree node above → is_directory tree node ≡ true → len tree.rows ≤ length above
      → AllByRecursion (λ (row : List ℕ × ℕ). row_of tree node row.0 ≡ Some row.1) rows → rows ≡ []
  no_rows [] node above way kind deep all = refl
  no_rows (row ∷ rows) node above way kind deep all = absurd (not_less (fewer_above tree sound row.0 row.1 way kind all.0) deep)

  childless : (item : Item) → IsDeep 0 item → child_items tree item ≡ []
  childless item deep =
      elim (is_directory tree item.node) as (λ b. is_directory tree item.node ≡ b
      → map (child_item item) (cond b (entries (names_of item.node tree.rows)) []) ≡ []) [
        | true ↦ λ kind.
            let d = deep kind in
            ap (map (child_item item))
            (no_rows (entries (names_of item.node tree.rows)) item.node d.0 d.1 kind (subst (λ n. len tree.rows ≤ n) (zero-add (length d.0)) d.2)
            (each_row _ item.node (λ name child row. row)))
        | false ↦ λ kind. refl
      ] refl

  -- a child of what is deep enough for one step more is deep enough
  deep_children : (steps : ℕ) (item : Item) → IsDeep (suc steps) item → AllByRecursion (IsDeep steps) (child_items tree item)
  deep_children steps item deep =
      elim (is_directory tree item.node) as (λ b. is_directory tree item.node ≡ b
      → AllByRecursion (IsDeep steps) (map (child_item item) (cond b (entries (names_of item.node tree.rows)) []))) [
        | true ↦ λ kind.
            let d = deep kind in
            mapped (entries (names_of item.node tree.rows)) (each_row (λ row. IsDeep steps (child_item item row)) item.node (λ name child row child_kind.
            (item.node ∷ d.0, below child item.node name d.0 row d.1, further (len tree.rows) steps (length d.0) d.2)))
        | false ↦ λ kind. tt
      ] refl
    where
      mapped : (rows : List (List ℕ × ℕ)) → AllByRecursion (λ row. IsDeep steps (child_item item row)) rows
          → AllByRecursion (IsDeep steps) (map (child_item item) rows)
      mapped [] all = tt
      mapped (row ∷ rows) all = (all.0, mapped rows all.1)

  -- a step more meets nothing more
  one_step_more : (steps : ℕ) (item : Item) → IsDeep steps item → items_from (suc steps) tree item ≡ items_from steps tree item
  one_step_more zero item deep = ap (λ children. item ∷ flat_map (items_from zero tree) children) (childless item deep)
  one_step_more (suc steps) item deep =
      ap (λ t. item ∷ t)
      (same_by (items_from (suc steps) tree) (items_from steps tree) (IsDeep steps) (one_step_more steps) (child_items tree item)
      (deep_children steps item deep))

  more_of_each : (steps : ℕ) (items : List Item) → AllByRecursion (IsDeep steps) items
      → flat_map (items_from (suc steps) tree) items ≡ flat_map (items_from steps tree) items
  more_of_each steps items all = same_by (items_from (suc steps) tree) (items_from steps tree) (IsDeep steps) (one_step_more steps) items all

  -- with as many steps as there are rows the children of a node are met with as many
  unfolds_by : (steps : ℕ) (item : Item) → IsDeep steps item → items_from steps tree item ≡ item ∷ flat_map (items_from steps tree) (child_items tree item)
  unfolds_by zero item deep = ap (λ children. item ∷ flat_map (items_from zero tree) children) (sym (childless item deep))
  unfolds_by (suc steps) item deep = ap (λ t. item ∷ t) (sym (more_of_each steps (child_items tree item) (deep_children steps item deep)))

  deep_at_all : (item : Item) → IsBelowRoot tree item → IsDeep (len tree.rows) item
  deep_at_all item reached kind = let r = reached kind in (r.0, r.1, at_most (len tree.rows) (length r.0))
    where
      at_most : (n a : ℕ) → n ≤ n + a
      at_most n a = omega arith

  -- once a node was met its children are to be met, and then the others
  next_met : (item : Item) (items : List Item) → IsBelowRoot tree item
      → still_to_meet tree (item ∷ items) ≡ item ∷ still_to_meet tree (child_items tree item ++ items)
  next_met item items reached =
      ap (λ t. t ++ still_to_meet tree items) (unfolds_by (len tree.rows) item (deep_at_all item reached))
      ∙ ap (λ t. item ∷ t) (sym (flat_map-append (items_from (len tree.rows) tree) (child_items tree item) items))

  reached_children : (item : Item) → IsBelowRoot tree item → AllByRecursion (IsBelowRoot tree) (child_items tree item)
  reached_children item reached =
      elim (is_directory tree item.node) as (λ b. is_directory tree item.node ≡ b
      → AllByRecursion (IsBelowRoot tree) (map (child_item item) (cond b (entries (names_of item.node tree.rows)) []))) [
        | true ↦ λ kind.
            let r = reached kind in
            mapped (entries (names_of item.node tree.rows)) (each_row (λ row. IsBelowRoot tree (child_item item row)) item.node (λ name child row child_kind.
            (item.node ∷ r.0, below child item.node name r.0 row r.1)))
        | false ↦ λ kind. tt
      ] refl
    where
      mapped : (rows : List (List ℕ × ℕ)) → AllByRecursion (λ row. IsBelowRoot tree (child_item item row)) rows
          → AllByRecursion (IsBelowRoot tree) (map (child_item item) rows)
      mapped [] all = tt
      mapped (row ∷ rows) all = (all.0, mapped rows all.1)

  all_append : (first more : List Item) → AllByRecursion (IsBelowRoot tree) first → AllByRecursion (IsBelowRoot tree) more
      → AllByRecursion (IsBelowRoot tree) (first ++ more)
  all_append [] more all others = others
  all_append (item ∷ first) more all others = (all.0, all_append first more all.1 others)

  -- fewer nodes are to be met then
  pub fewer_to_meet : (item : Item) (items : List Item) → IsBelowRoot tree item
      → length (still_to_meet tree (child_items tree item ++ items)) < length (still_to_meet tree (item ∷ items))
  fewer_to_meet item items reached =
      subst (λ n. length (still_to_meet tree (child_items tree item ++ items)) < n) (sym (ap length (next_met item items reached))) (omega arith)

  -- a directory is met: its line is written, and its children are to be met
  pub directory_met : (text files : List ℕ) (item : Item) (items : List Item) → is_directory tree item.node ≡ true → IsWalk tree text files (item ∷ items)
      → IsWalk tree (text ++ directory_text tree (shown_path item.path) item.node) files (child_items tree item ++ items)
  directory_met text files item items kind walk = record {
    written =
        append_assoc text (directory_text tree (shown_path item.path) item.node) (flat_map (line_text tree F) rest)
        ∙ ap (λ line. text ++ (line ++ flat_map (line_text tree F) rest))
        (ap (λ b. cond b (directory_text tree (shown_path item.path) item.node) (file_text tree (group_in F item.node) (shown_path item.path) item.node))
        (sym kind))
        ∙ ap (λ t. text ++ flat_map (line_text tree F) t) (sym (next_met item items walk.reached.0))
        ∙ walk.written;
    found =
        ap (λ b. fold with_file files
        (cond (not b) (item.node ∷ filter file (map (λ (other : Item). other.node) rest)) (filter file (map (λ (other : Item). other.node) rest))))
        (sym kind)
        ∙ ap (λ t. files_then tree files t) (sym (next_met item items walk.reached.0))
        ∙ walk.found;
    reached = all_append (child_items tree item) items (reached_children item walk.reached.0) walk.reached.1;
  }
    where
      F : List ℕ
      F = files_met tree

      rest : List Item
      rest = still_to_meet tree (child_items tree item ++ items)

      file : ℕ → Bool
      file node = not (is_directory tree node)

  -- a file is met: it is noted, and its line is written, with its place among the files that were met
  pub file_met : (text files : List ℕ) (group : ℕ) (item : Item) (items : List Item) → is_directory tree item.node ≡ false
      → IsWalk tree text files (item ∷ items)
      → IsGroupIn (with_file files item.node) item.node group
      → IsWalk tree (text ++ file_text tree group (shown_path item.path) item.node) (with_file files item.node) items
  file_met text files group item items kind walk at = record {
    written =
        append_assoc text (file_text tree group (shown_path item.path) item.node) (flat_map (line_text tree F) rest)
        ∙ ap (λ line. text ++ (line ++ flat_map (line_text tree F) rest))
        (ap (λ g. file_text tree g (shown_path item.path) item.node) (sym grouped)
        ∙ ap (λ b. cond b (directory_text tree (shown_path item.path) item.node) (file_text tree (group_in F item.node) (shown_path item.path) item.node))
        (sym kind))
        ∙ ap (λ t. text ++ flat_map (line_text tree F) t) (sym here)
        ∙ walk.written;
    found = found;
    reached = walk.reached.1;
  }
    where
      F : List ℕ
      F = files_met tree

      rest : List Item
      rest = still_to_meet tree items

      file : ℕ → Bool
      file node = not (is_directory tree node)

      -- a file has no children
      here : still_to_meet tree (item ∷ items) ≡ item ∷ rest
      here =
          next_met item items walk.reached.0
          ∙ ap (λ b. item ∷ still_to_meet tree (map (child_item item) (cond b (entries (names_of item.node tree.rows)) []) ++ items)) kind

      found : files_then tree (with_file files item.node) rest ≡ F
      found =
          ap (λ b. fold with_file files
          (cond (not b) (item.node ∷ filter file (map (λ (other : Item). other.node) rest)) (filter file (map (λ (other : Item). other.node) rest))))
          (sym kind)
          ∙ ap (λ t. files_then tree files t) (sym here)
          ∙ walk.found

      grouped : group_in F item.node ≡ group
      grouped =
          subst (λ files. group_in files item.node ≡ group) found
          (group_is item.node group _ (group_kept item.node group (with_file files item.node) (filter file (map (λ (other : Item). other.node) rest)) at))
