-- What a log's changes name.
use Rattle.std.specs.FinMap.{len}
use Rattle.std.proofs.Common.{◌≡◌, ◌∙◌, if◌then◌else◌, ◌==◌, ◌∷◌, ℕ, List, Some, inl, subst, sym, inr, All, zero, suc, refl, Option, None, Bool, [], true, false, option_map, ap, filter}
use Rattle.std.proofs.lemmas.List.Elements.{All-nil, All-cons, All-append, All-filter}
use Rattle.sfs_base.specs.declared.numbers.Kind.{Kind}
use Rattle.sfs_base.specs.declared.numbers.NodeId.{NodeId}
use Rattle.sfs_base.proofs.BasicOptions.{some_same}
use Rattle.tree_laws.specs.Changes.{other_side}
use Rattle.tree_laws.specs.Fits.{Fits}
use Rattle.tree_laws.specs.Effect.{Moves}
use Rattle.tree_laws.specs.Tree.{TreeState, row_of, holder_of, walk_up, and_above, kind_of}
use Rattle.tree_laws.specs.declared.changes.Change.{Change}
use Rattle.tree_laws.specs.Sound.{IsSound}
use Rattle.tree_laws.specs.declared.changes.Act.{Act}
use Rattle.tree_laws.specs.Logged.{log_entry, logged_replaced, logged_by, recorded_above, is_logged_in}
use Rattle.tree_laws.specs.declared.changes.Act.TheVariants.{Remove, Add}
use Rattle.tree_laws.specs.Effect.{Effect, Adds, Stays, Edits, Removes, tree_with}
use Rattle.tree_laws.specs.Parts.{kind_after}
use Rattle.tree_laws.specs.Lock.{moves_between}
use Rattle.tree_laws.specs.declared.history.Entry.{Entry}
use Rattle.tree_laws.specs.Laws.{IsSoundTree}
use Rattle.tree_laws.specs.History.{MayCome, tree_after_entry, IsLegalFrom, tree_after}
use Rattle.tree_laws.specs.Verdict.{verdict}
use Rattle.tree_laws.specs.Merged.{is_core}
use Rattle.tree_laws.proofs.KeepsNodes.{directory_node}
use Rattle.tree_laws.proofs.RowFacts.{holder_found}
use Rattle.tree_laws.proofs.SoundTrees.{calls_fit, calls_keep_sound}
use Rattle.mem_cells.specs.Log.{is_from}
use Rattle.mem_cells.specs.Part.{mark_kept}
use Rattle.cut_laws.proofs.Along.{first_nodes}
use Rattle.cut_laws.proofs.Lives.{made_node}
use Rattle.mem_values.specs.Logs.{entry_logged, own_logged}
use Rattle.home_laws.specs.Laws.{IsNodeOf, NamesNodes, LogsNameNodes}

-- what names nodes of a tree names nodes of a tree that has them
names_later : (tree next : TreeState) (change : Change) → ((x : ℕ) → IsNodeOf tree x → IsNodeOf next x) → NamesNodes tree change → NamesNodes next change
names_later tree next change kept names = record {
  directory = kept change.dir.0 names.directory;
  child = kept change.child.0 names.child;
  other = λ node is. kept node.0 (names.other node is);
  above = λ i d within. kept _ (names.above i d within);
}

module _ (tree : TreeState) (sound : IsSound tree) where
  -- what has a row is a node
  row_node : (directory : ℕ) (name : List ℕ) (child : ℕ) → row_of tree directory name ≡ Some child → IsNodeOf tree directory
  row_node directory name child row = directory_node tree directory (sound.holds directory name child row).0

  -- so is what holds a node
  holder_node : (node holder : ℕ) → holder_of tree node ≡ Some holder → IsNodeOf tree holder
  holder_node node holder is = elim (holder_found tree node) [
    | inl found ↦ subst (IsNodeOf tree) (some_same (sym found.1 ∙ is)) (row_node found.0 found.2.0 node found.2.1)
    | inr none ↦ absurd (let never = sym none.0 ∙ is in cc never)
  ]

  -- and what a walk up meets
  walk_nodes : (steps node : ℕ) → All (IsNodeOf tree) (walk_up steps tree node)
  walk_nodes zero node = All-nil (IsNodeOf tree)
  walk_nodes (suc steps) node = above_nodes (λ holder. walk_nodes steps holder) (holder_of tree node) refl
    where
      above_nodes : ((holder : ℕ) → All (IsNodeOf tree) (walk_up steps tree holder)) → (o : Option ℕ) → holder_of tree node ≡ o
          → All (IsNodeOf tree) (and_above (walk_up steps tree) o)
      above_nodes walks None is = All-nil (IsNodeOf tree)
      above_nodes walks (Some holder) is = All-cons (IsNodeOf tree) holder (walk_up steps tree holder) (holder_node node holder is) (walks holder)

  recorded_nodes : (b : Bool) (to : ℕ) → All (IsNodeOf tree) (if b then walk_up (len tree.rows) tree to else [])
  recorded_nodes true to = walk_nodes (len tree.rows) to
  recorded_nodes false to = All-nil (IsNodeOf tree)

  -- a change that a log keeps of nodes of the tree
  entry_names : (stamp directory : ℕ) (name : List ℕ) (child : ℕ) (kind : Kind) (act : Act) (other : Option ℕ) (above : List ℕ) → IsNodeOf tree directory
      → IsNodeOf tree child → ((node : ℕ) → other ≡ Some node → IsNodeOf tree node) → All (IsNodeOf tree) above
      → NamesNodes tree (log_entry stamp directory name child kind act other above)
  entry_names stamp directory name child kind act other above d c o a = record {
    directory = d;
    child = c;
    other = λ node is. other_by other o node is;
    above = a;
  }
    where
      other_by : (other : Option ℕ) → ((node : ℕ) → other ≡ Some node → IsNodeOf tree node) → (node : NodeId)
          → option_map (λ n. record { 0 = n }) other ≡ Some node → IsNodeOf tree node.0
      other_by None o node is = absurd (cc is)
      other_by (Some n) o node is = o node.0 (ap (option_map (λ (x : NodeId). x.0)) is)

  -- what an effect logs names nodes of the tree after it
  module _ (core stamp : ℕ) (next : TreeState) (kept : (x : ℕ) → IsNodeOf tree x → IsNodeOf next x) where
    abbrev Names : Change → Type 0
    Names = NamesNodes next

    up : (change : Change) → NamesNodes tree change → Names change
    up change names = names_later tree next change kept names

    no_other : (node : ℕ) → None ≡ Some node → IsNodeOf tree node
    no_other node is = absurd (cc is)

    side_there : (p q : ℕ) → IsNodeOf tree q → (node : ℕ) → other_side p q ≡ Some node → IsNodeOf tree node
    side_there p q there node is = side_by (p == q) is where
      side_by : (b : Bool) → (if b then None else Some q) ≡ Some node → IsNodeOf tree node
      side_by true is = absurd (cc is)
      side_by false is = subst (IsNodeOf tree) (some_same is) there

    replaced_names : (p q : ℕ) (m : List ℕ) (row : Option ℕ) → row_of tree q m ≡ row → IsNodeOf tree p → All Names (logged_replaced tree stamp p q m row)
    replaced_names p q m None is there = All-nil Names
    replaced_names p q m (Some c) is there =
        All-cons Names _ [] (up _ (entry_names stamp q m c (kind_of tree c) Remove (other_side q p) [] (row_node q m c is) (sound.node q m c is)
        (side_there q p there) (All-nil (IsNodeOf tree)))) (All-nil Names)

    logged_names : (effect : Effect) (makes : Option Kind) → Fits tree core effect makes
        → ((d : ℕ) (n : List ℕ) (c : ℕ) (kind : Kind) → effect ≡ Adds d n c → makes ≡ Some kind → IsNodeOf next c)
        → All Names (logged_by tree core stamp effect makes)
    logged_names Stays makes fits made = All-nil Names
    logged_names (Edits file edit) makes fits made = All-nil Names
    logged_names (Adds d n c) None fits made =
        All-cons Names _ [] (up _ (entry_names stamp d n c (kind_after tree core None c) Add None []
        (directory_node tree d fits.holder.kind) fits.node no_other (All-nil (IsNodeOf tree)))) (All-nil Names)
    logged_names (Adds d n c) (Some kind) fits made =
        All-cons Names _ [] (record {
          directory = kept d (directory_node tree d fits.holder.kind);
          child = made d n c kind refl refl;
          other = λ node is. absurd (cc is);
          above = All-nil (IsNodeOf next);
        }) (All-nil Names)
    logged_names (Removes d n c) None fits made =
        All-cons Names _ [] (up _ (entry_names stamp d n c (kind_of tree c) Remove None [] (row_node d n c fits.row) (sound.node d n c fits.row)
        no_other (All-nil (IsNodeOf tree)))) (All-nil Names)
    logged_names (Removes d n c) (Some kind) fits made = absurd fits
    logged_names (Moves p n q m c) None fits made =
        let from = row_node p n c fits.row in
        let to = directory_node tree q fits.holder.kind in
        let child = sound.node p n c fits.row in
        All-append Names (logged_replaced tree stamp p q m (row_of tree q m)) _ (replaced_names p q m (row_of tree q m) refl from)
        (All-cons Names _ (log_entry stamp q m c (kind_of tree c) Add (other_side q p) (recorded_above tree (Moves p n q m c) q) ∷ [])
        (up _ (entry_names stamp p n c (kind_of tree c) Remove (other_side p q) [] from child (side_there p q to) (All-nil (IsNodeOf tree))))
        (All-cons Names _ [] (up _ (entry_names stamp q m c (kind_of tree c) Add (other_side q p) (recorded_above tree (Moves p n q m c) q) to child
        (side_there q p from) (recorded_nodes (moves_between tree (Moves p n q m c)) q))) (All-nil Names)))
    logged_names (Moves p n q m c) (Some kind) fits made = absurd fits

-- a node of a tree is one of the tree after a legal entry
kept_by : (tree : TreeState) (stamp : ℕ) (entry : Entry) → IsSoundTree tree → MayCome tree stamp entry → (x : ℕ) → IsNodeOf tree x
    → IsNodeOf (tree_after_entry tree entry) x
kept_by tree stamp entry sound may x there = (first_nodes tree (entry ∷ []) stamp sound (may, tt) x there).0

-- what an entry logs names nodes of the tree after it
entry_logs : (tree : TreeState) (stamp : ℕ) (entry : Entry) → IsSoundTree tree → MayCome tree stamp entry
    → All (NamesNodes (tree_after_entry tree entry)) (entry_logged tree entry)
entry_logs tree stamp entry sound may =
    let core = entry.core.0 in
    let effect = (verdict tree core entry.call).effect in
    let makes = (verdict tree core entry.call).makes in
    let fits : Fits tree core effect makes = calls_fit tree core entry.call sound may.core in
    logged_names tree sound.sound core entry.stamp.0 (tree_after_entry tree entry) (kept_by tree stamp entry sound may) effect makes fits
    (λ d n c kind adds make.
    subst (λ (z : Effect × Option Kind). IsNodeOf (tree_with tree core z.0 z.1) c) (λ i. (sym adds i, sym make i))
    (made_node tree core d n c kind (subst (λ (z : Effect × Option Kind). Fits tree core z.0 z.1) (λ i. (adds i, make i)) fits)))

-- what one core's entries log names nodes of the tree after all
pub own_names : (first : TreeState) (stamp core : ℕ) (calls : List Entry) → IsSoundTree first → IsLegalFrom first stamp calls
    → All (NamesNodes (tree_after first calls)) (own_logged first core calls)
own_names first stamp core [] sound legal = All-nil (NamesNodes first)
own_names first stamp core (entry ∷ calls) sound legal =
    let next = tree_after_entry first entry in
    let last = tree_after next calls in
    let next_sound = calls_keep_sound first entry.core.0 entry.call sound legal.0.core in
    let here : All (NamesNodes last) (entry_logged first entry) =
    λ i d within. names_later next last _ (λ x there. (first_nodes next calls (suc stamp) next_sound legal.1 x there).0)
    (entry_logs first stamp entry sound legal.0 i d within) in
    All-append (NamesNodes last) (if is_core core entry then entry_logged first entry else []) (own_logged next core calls)
    (own_by last (entry_logged first entry) (is_core core entry) here) (own_names next (suc stamp) core calls next_sound legal.1)
  where
    own_by : (last : TreeState) (changes : List Change) (b : Bool) → All (NamesNodes last) changes → All (NamesNodes last) (if b then changes else [])
    own_by last changes true all = all
    own_by last changes false all = All-nil (NamesNodes last)

pub logs_name_nodes : LogsNameNodes
logs_name_nodes first account core directory part sound legal stands =
    let Names = NamesNodes (tree_after first account.calls) in
    let own = own_names first 0 core account.calls sound legal in
    subst (All Names) (sym (stands.left.changes_left directory))
    (All-filter (is_from (mark_kept part.log directory)) Names (filter (is_logged_in directory) (own_logged first core account.calls))
    (All-filter (is_logged_in directory) Names (own_logged first core account.calls) own))
