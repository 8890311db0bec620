-- What a commit rewrites and makes, between trees that have more nodes.
use Rattle.std.proofs.Common.{◌≡◌, ℕ, ◌+◌, Bool, true, false, cond, ◌&&◌, List, [], ◌∷◌, map, Option, Some, None, IsSome, option_map, is_none, inl, inr, refl, sym, ap, subst, ◌∙◌, nat_eq, count_by}
use Rattle.std.specs.Prelude.{All, ◌↔◌}
use Rattle.std.specs.FinMap.{FinMap, get, entries}
use Rattle.std.specs.List.{cons_option}
use Rattle.std.specs.Option.{option_map_or}
use Rattle.std.proofs.lemmas.List.Elements.{All-head, All-tail}
use Rattle.sfs_base.proofs.BasicTruth.{and_first, and_second}
use Rattle.sfs_base.specs.declared.numbers.Kind.{Kind}
use Rattle.sfs_base.specs.declared.numbers.Kind.TheVariants.{File}
use Rattle.sfs_image.specs.Seen.{SeenInodes}
use Rattle.sfs_image.specs.Slot.{Row, kind_byte}
use Rattle.tree_laws.specs.NameRow.{number_of}
use Rattle.tree_laws.specs.Order.{Key, name_cmp}
use Rattle.tree_laws.specs.Sound.{IsSound}
use Rattle.tree_laws.specs.Tree.{TreeState, Node, row_of, kind_of, bytes_of, links_of, count_of, is_directory, is_directory_kind, holds_directory, names_of}
use Rattle.tree_laws.proofs.Names.{get-names_where}
use Rattle.absorb.specs.declared.nets.NetRow.{NetRow}
use Rattle.absorb.specs.Net.{IsNetRow, IsNet}
use Rattle.cut_laws.specs.LawsGrowth.{HasMoreNodes}
use Rattle.image_laws.specs.Commit.{row_in_net, brought_row, slot_after, new_rows, filled, slots_after, Commit, seen_before, IsBuiltAnew, IsAside, IsCommit}
use Rattle.image_laws.specs.Renamed.{Numbering}
use Rattle.image_laws.specs.Slots.{in_blocks}
use Rattle.image_laws.specs.Stands.{inode_under, row_on}
use Rattle.image_laws.proofs.Committed.{count_alike}
use Rattle.image_laws.proofs.NetRows.{net_row_is}

module _ (tree more : TreeState) (is : IsSound tree) (has : HasMoreNodes tree more) where
  -- a node of the tree is in the other as it is
  pub kind_more : (x : ℕ) → IsSome (get tree.nodes x) → kind_of more x ≡ kind_of tree x
  kind_more x some = ap (λ (o : Option Node). option_map_or (λ (n : Node). n.kind) o File) (has.nodes x some)

  pub directory_more : (x : ℕ) → IsSome (get tree.nodes x) → is_directory more x ≡ is_directory tree x
  directory_more x some = ap (λ (o : Option Node). option_map_or (λ (n : Node). is_directory_kind n.kind) o false) (has.nodes x some)

  pub bytes_more : (x : ℕ) → IsSome (get tree.nodes x) → bytes_of more x ≡ bytes_of tree x
  bytes_more x some = ap (λ (o : Option Node). option_map_or (λ (n : Node). n.bytes) o []) (has.nodes x some)

  pub row_more : (directory : ℕ) (name : List ℕ) → row_of more directory name ≡ row_of tree directory name
  row_more directory name = ap (λ rows. get rows (directory, name)) has.rows

  child_directory : (k : Key) (x : ℕ) → get tree.rows k ≡ Some x → is_directory more x ≡ is_directory tree x
  child_directory k x row = directory_more x (is.node k.0 k.1 x row)

  holds_more : (x : ℕ) → count_by (holds_directory more x) (entries more.rows) ≡ count_by (holds_directory tree x) (entries tree.rows)
  holds_more x = count_alike (holds_directory more x) (holds_directory tree x) more.rows tree.rows (λ k y row passes.
      let own : get tree.rows k ≡ Some y = sym (ap (λ rows. get rows k) has.rows) ∙ row in
      (own, sym (ap (λ b. nat_eq k.0 x && b) (child_directory k y own)) ∙ passes)) (λ k y row passes.
      (ap (λ rows. get rows k) has.rows ∙ row, ap (λ b. nat_eq k.0 x && b) (child_directory k y row) ∙ passes))

  pub links_more : (x : ℕ) → IsSome (get tree.nodes x) → links_of more x ≡ links_of tree x
  links_more x some = λ i. cond (directory_more x some i) (2 + holds_more x i) (count_of (has.rows i) x)

  -- the children that a net brings are nodes
  module _ (num : Numbering) (node : ℕ) (earlier : FinMap name_cmp ℕ) where
    brought_more : (row : NetRow) → IsNetRow earlier (names_of node tree.rows) row → brought_row num more row ≡ brought_row num tree row
    brought_more row one = by (number_of row.after) refl
      where
        by : (o : Option ℕ) → number_of row.after ≡ o → option_map (row_on num more row.name) o ≡ option_map (row_on num tree row.name) o
        by None e = refl
        by (Some child) e =
            let kind = kind_more child (is.node node row.name child (sym (get-names_where node (λ _. true) tree.rows row.name) ∙ sym one.after ∙ e)) in
            λ i. Some (record { inode = inode_under num child; kind = kind i; name = row.name })

    new_more : (net : List NetRow) → All (IsNetRow earlier (names_of node tree.rows)) net → new_rows num more net ≡ new_rows num tree net
    new_more [] all = refl
    new_more (row ∷ net) all =
        let head = brought_more row (All-head (IsNetRow earlier (names_of node tree.rows)) row net all) in
        let rest = new_more net (All-tail (IsNetRow earlier (names_of node tree.rows)) row net all) in
        λ i. cons_option (cond (is_none row.before) (head i) None) (rest i)

    module _ (net : List NetRow) (net_is : IsNet earlier (names_of node tree.rows) net) where
      slot_more : (slot : Option Row) → slot_after num more net slot ≡ slot_after num tree net slot
      slot_more None = refl
      slot_more (Some row) = by (row_in_net row.name net) refl
        where
          by : (o : Option NetRow) → row_in_net row.name net ≡ o
              → option_map_or (brought_row num more) o (Some row) ≡ option_map_or (brought_row num tree) o (Some row)
          by None e = refl
          by (Some change) e = brought_more change (net_row_is earlier (names_of node tree.rows) net net_is row.name change e).1

      all_more : (slots : List (Option Row)) → map (slot_after num more net) slots ≡ map (slot_after num tree net) slots
      all_more [] = refl
      all_more (slot ∷ slots) = λ i. slot_more slot i ∷ all_more slots i

      pub slots_more : (slots : List (Option Row)) → slots_after num more net slots ≡ slots_after num tree net slots
      slots_more slots = λ i. filled (all_more slots i) (new_more net net_is.each i)

-- a commit between two trees, and those that have more nodes
module _ (commit : Commit) (old new more_old more_new : TreeState) (image next : SeenInodes) (sound_old : IsSound old) (sound_new : IsSound new)
    (has_old : HasMoreNodes old more_old) (has_new : HasMoreNodes new more_new)
    (is : IsCommit commit old new image next)
    (old_nodes : (node i : ℕ) → commit.after node ≡ Some i → IsSome (get old.nodes node))
    (new_nodes : (node i : ℕ) → commit.after node ≡ Some i → IsSome (get new.nodes node)) where
  built_more : (node i : ℕ) → commit.after node ≡ Some i → IsBuiltAnew commit new node (seen_before commit image node) (next.seen i)
      → IsBuiltAnew commit more_new node (seen_before commit image node) (next.seen i)
  built_more node i numbered built = record {
    kind = built.kind ∙ ap kind_byte (sym (kind_more new more_new sound_new has_new node (new_nodes node i numbered)));
    links = built.links ∙ sym (links_more new more_new sound_new has_new node (new_nodes node i numbered));
    size = built.size;
    bytes = built.bytes ∙ sym (bytes_more new more_new sound_new has_new node (new_nodes node i numbered));
    slots =
        built.slots
        ∙ ap in_blocks
        (sym
        (slots_more new more_new sound_new has_new commit.after node (names_of node old.rows) (commit.nets node) (is.nets node)
        (seen_before commit image node).slots));
  }

  aside_more : (node i : ℕ) → commit.after node ≡ Some i → IsAside old new node → IsAside more_old more_new node
  aside_more node i numbered aside = record {
    rows = λ name. row_more new more_new sound_new has_new node name ∙ aside.rows name ∙ sym (row_more old more_old sound_old has_old node name);
    bytes =
        bytes_more new more_new sound_new has_new node (new_nodes node i numbered) ∙ aside.bytes
        ∙ sym (bytes_more old more_old sound_old has_old node (old_nodes node i numbered));
    naming = λ directory name.
        let there = row_more new more_new sound_new has_new directory name in
        let was = row_more old more_old sound_old has_old directory name in
        (λ row. was ∙ (aside.naming directory name).0 (sym there ∙ row), λ row. there ∙ (aside.naming directory name).1 (sym was ∙ row));
  }

  pub commit_more : IsCommit commit more_old more_new image next
  commit_more = record {
    count = is.count;
    nets =
        λ node. subst (λ rows. IsNet (names_of node rows) (names_of node more_new.rows) (commit.nets node)) (sym has_old.rows)
        (subst (λ rows. IsNet (names_of node old.rows) (names_of node rows) (commit.nets node)) (sym has_new.rows) (is.nets node));
    numbers = is.numbers;
    built = λ node i numbered concerned. built_more node i numbered (is.built node i numbered concerned);
    stays = λ node i numbered other. let was = is.stays node i numbered other in (was.0, was.1, aside_more node i numbered was.2);
    rest = is.rest;
    blocks = is.blocks;
  }
