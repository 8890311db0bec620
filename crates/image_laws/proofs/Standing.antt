-- An image that stands for a sound tree shows that tree, and keeps the rules.
use Rattle.sfs_base.proofs.BasicNumbers.{some_counted}
use Rattle.std.proofs.Common.{◌≡◌, ◌≢◌, ℕ, zero, suc, ◌+◌, ◌<◌, ◌≤◌, Bool, true, false, cond, length, List, [], ◌∷◌, Option, Some, None, option_map, IsSome, inl, inr, refl, sym, ap, subst, ◌∙◌, arith, count_by, nat_eq}
use borrow.Author.Tests.{eqb-true, eq-eqb}
use Rattle.std.specs.List.{AllByRecursion}
use Rattle.std.specs.Option.{option_and_then, option_map_or}
use Rattle.std.specs.FinMap.{FinMap, get, entries, remove, len, len-entries}
use Rattle.std.proofs.lemmas.List.{length-map}
use Rattle.sfs_base.specs.Name.{bucket}
use Rattle.sfs_base.specs.declared.numbers.Kind.{Kind}
use Rattle.sfs_base.specs.declared.numbers.Kind.TheVariants.{File, Directory}
use Rattle.tree_laws.specs.Order.{Key, key_cmp}
use Rattle.tree_laws.specs.Tree.{TreeState, Node, is_directory_kind, row_of, is_directory, kind_of, bytes_of, count_of, links_of, names_it, bucket_rows, holds_directory}
use Rattle.tree_laws.specs.Sound.{Above, at_root, IsSound}
use Rattle.tree_laws.specs.Shape.{shape_of}
use Rattle.tree_laws.proofs.Counting.{count-remove, count_none, count_some, found, stayed}
use Rattle.tree_laws.proofs.RowFacts.{alive_named}
use Rattle.sfs_image.specs.Slot.{Row, kind_byte}
use Rattle.sfs_image.specs.Seen.{SeenInodes}
use Rattle.image_laws.specs.Slots.{looked_up}
use Rattle.image_laws.specs.ImageTree.{Making, NOTHING_MADE, shows_directory, image_rows, is_node, node_shown, image_tree}
use Rattle.image_laws.specs.Renamed.{Numbering, HasNumber, IsMet, root, named, IsRenamed}
use Rattle.image_laws.specs.Stands.{inode_under, row_on, StandsForTree, IsStorable}
use Rattle.image_laws.specs.Laws.{StandingImagesShow}
use Rattle.image_laws.specs.Keeps.{ruled_tree, IsDirectoryInode, MayName, MayStand, KeepsRules}
use Rattle.sfs_base.proofs.BasicTruth.{not_both}
use Rattle.sfs_base.proofs.BasicOptions.{none_some, some_same}
use Rattle.tree_laws.proofs.Readings.{directory_by_kind}
use Rattle.image_laws.proofs.Renaming.{under_is, naming_renamed, links_renamed, sound_renamed, above_renamed}
use Rattle.image_laws.proofs.Shapes.{part_renamed, shape_renamed, with_value}
use Rattle.image_laws.proofs.SlotRows.{OnRow, each_found}
use Rattle.image_laws.proofs.Images.{row_shown, no_row_shown, slot_back, node_is, directory_is_node, file_is_node, directory_shown, kind_again}

-- a row of which there is only one is counted once at most
pub counted_once : (p : Key × ℕ → Bool) (rows : FinMap key_cmp ℕ) →
    ((k l : Key) (x y : ℕ) → get rows k ≡ Some x → p (k, x) ≡ true → get rows l ≡ Some y → p (l, y) ≡ true → k ≡ l) → count_by p (entries rows) ≤ 1
counted_once p rows once = by_count (count_by p (entries rows)) refl
  where
    by_count : (n : ℕ) → count_by p (entries rows) ≡ n → count_by p (entries rows) ≤ 1
    by_count zero e = omega arith
    by_count (suc n) e =
        let f = found p rows (omega arith) in
        let less = count-remove rows f.row.0 f.row.1 p f.there in
        let rest : count_by p (entries (remove rows f.row.0)) ≡ 0 =
        count_none p (remove rows f.row.0) (λ k x is. alone f.row.0 f.row.1 f.there f.passes k x is (p (k, x)) refl) in
        one_or_none (p (f.row.0, f.row.1)) (omega arith)
      where
        alone : (l : Key) (y : ℕ) → get rows l ≡ Some y → p (l, y) ≡ true → (k : Key) (x : ℕ) → get (remove rows l) k ≡ Some x → (b : Bool) →
            p (k, x) ≡ b → p (k, x) ≡ false
        alone l y there passes k x is false t = t
        alone l y there passes k x is true t = let was = stayed rows l k x is in absurd (was.0 (once k l x y was.1 t there passes))

        one_or_none : (b : Bool) → count_by p (entries rows) ≡ cond b 1 0 → count_by p (entries rows) ≤ 1
        one_or_none true e = omega arith
        one_or_none false e = omega arith

-- the test of a tree's node for being a directory tells its kind
pub directory_kind : (tree : TreeState) (x : ℕ) → is_directory tree x ≡ true → kind_of tree x ≡ Directory
directory_kind tree x e = by_node (get tree.nodes x) e
  where
    by_kind : (k : Kind) → is_directory_kind k ≡ true → k ≡ Directory
    by_kind Directory e = refl
    by_kind File e = absurd (cc)

    by_node : (o : Option Node) → option_map_or (λ n. is_directory_kind n.kind) o false ≡ true → option_map_or (λ n. n.kind) o File ≡ Directory
    by_node (Some n) e = by_kind n.kind e
    by_node None e = absurd (cc)

pub not_used : (k : Kind) → kind_byte k ≡ 0 → ⊥
not_used File e = cc
not_used Directory e = cc

-- a kind's byte says whether it is that of directories
pub byte_directory : (k : Kind) → nat_eq (kind_byte k) (kind_byte Directory) ≡ is_directory_kind k
byte_directory File = refl
byte_directory Directory = refl

-- a directory with a row has a number
pub holder_number : (num : Numbering) (tree : TreeState) (image : SeenInodes) → IsSound tree → StandsForTree num tree image →
    (d : ℕ) (n : List ℕ) (x : ℕ) → row_of tree d n ≡ Some x → HasNumber num d
holder_number num tree image s st d n x row = elim (alive_named tree d (s.holds d n x row).1) [
  | inl is ↦ subst (HasNumber num) (sym is) (0, st.root)
  | inr name ↦ st.named name.directory name.name d name.row
]

module _ (num : Numbering) (tree : TreeState) (image : SeenInodes) (making : Making) (s : IsSound tree) (st : StandsForTree num tree image) where
  abbrev shown : TreeState
  shown = image_tree image making

  is_shown : (x i : ℕ) → num x ≡ Some i → shows_directory (image.seen i) ≡ is_directory tree x
  is_shown x i is = ap (λ k. nat_eq k (kind_byte Directory)) (st.each x i is).kind ∙ byte_directory (kind_of tree x) ∙ sym (directory_by_kind tree x)

  directory_seen : (x i : ℕ) → num x ≡ Some i → is_directory tree x ≡ true → (image.seen i).kind ≡ kind_byte Directory
  directory_seen x i is kind = (st.each x i is).kind ∙ ap kind_byte (directory_kind tree x kind)

  rows_shown : (d i : ℕ) → num d ≡ Some i → (n : List ℕ) → row_of shown i n ≡ option_and_then num (row_of tree d n)
  rows_shown d i is n =
      elim (is_directory tree d) as (λ b. is_directory tree d ≡ b → row_of shown i n ≡ option_and_then num (row_of tree d n)) [
        | true ↦ λ t.
            row_shown image i n (st.within d i is) (directory_seen d i is t)
            ∙ ap (option_map (λ (row : Row). row.inode)) ((st.each d i is).slots n)
            ∙ by_child (row_of tree d n) refl
        | false ↦ λ t.
            no_row_shown image i n (st.within d i is) (λ kind. not_both (eq-eqb _ _ kind) (is_shown d i is ∙ t))
            ∙ no_child t (row_of tree d n) refl
      ] refl
    where
      by_child : (o : Option ℕ) → row_of tree d n ≡ o → option_map (λ (row : Row). row.inode) (option_map (row_on num tree n) o) ≡ option_and_then num o
      by_child None e = refl
      by_child (Some x) e = let h = st.named d n x e in ap Some (under_is num x h.0 h.1) ∙ sym h.1

      no_child : is_directory tree d ≡ false → (o : Option ℕ) → row_of tree d n ≡ o → None ≡ option_and_then num o
      no_child t None e = refl
      no_child t (Some x) e = absurd (not_both (s.holds d n x e).0 t)

  node_shown_as : (x i : ℕ) → num x ≡ Some i → (o : Option Node) → get tree.nodes x ≡ o → IsSome o → is_node image i ≡ true → get shown.nodes i ≡ o
  node_shown_as x i is None e some node = absurd (none_is_some some)
    where
      none_is_some : IsSome {T = Node} None → ⊥
      none_is_some h = cc
  node_shown_as x i is (Some nd) e some node = node_is image (is_node image) i (st.within x i is) node ∙ ap Some same
    where
      same : ◌≡◌ {A = Node} (node_shown (image.seen i)) nd
      same = λ j. record {
        kind =
            (ap Rattle.sfs_image.specs.Slot.kind_of (st.each x i is).kind ∙ kind_again (kind_of tree x)
            ∙ ap (λ (o : Option Node). option_map_or (λ n. n.kind) o File) e)
            j;
        bytes = ((st.each x i is).bytes ∙ ap (λ (o : Option Node). option_map_or (λ n. n.bytes) o []) e) j;
      }

  some_directory : (x : ℕ) → is_directory tree x ≡ true → IsSome (get tree.nodes x)
  some_directory x e = by_node (get tree.nodes x) e
    where
      by_node : (o : Option Node) → option_map_or (λ n. is_directory_kind n.kind) o false ≡ true → IsSome o
      by_node (Some n) e = refl
      by_node None e = absurd (cc)

  -- the image's tree is the tree under the numbering
  pub shown_renamed : IsRenamed num tree shown
  shown_renamed = record {
    root = st.root;
    once = st.once;
    holder = holder_number num tree image s st;
    child = st.named;
    rows = rows_shown;
    only = λ i n j row.
        let b = slot_back image i n j row in
        elim (st.rest i b.within) as (λ _. (d : ℕ) × (num d ≡ Some i)) [ inl node ↦ node | inr free ↦ absurd (not_used Directory (sym b.kind ∙ free.kind)) ];
    nodes = λ x i is met. by_met x i is met;
  }
    where
      as_file : (x i : ℕ) → num x ≡ Some i → (d : ℕ) (n : List ℕ) → row_of tree d n ≡ Some x → (k : Kind) → kind_of tree x ≡ k → is_node image i ≡ true
      as_file x i is d n row Directory e = directory_is_node image i ((st.each x i is).kind ∙ ap kind_byte e)
      as_file x i is d n row File e =
          let h = holder_number num tree image s st d n x row in
          file_is_node image i ((st.each x i is).kind ∙ ap kind_byte e)
          (some_counted
          (count_some (names_it i) (image_rows image) (h.0, n) i (rows_shown d h.0 h.1 n ∙ ap (option_and_then num) row ∙ is) (eq-eqb i i refl)))

      by_met : (x i : ℕ) → num x ≡ Some i → IsMet tree x → get shown.nodes i ≡ get tree.nodes x
      by_met _ i is root = node_shown_as 0 i is (get tree.nodes 0) refl (some_directory 0 s.root) (directory_is_node image i (directory_seen 0 i is s.root))
      by_met _ i is (named d n x row) = node_shown_as x i is (get tree.nodes x) refl (s.node d n x row) (as_file x i is d n row (kind_of tree x) refl)

  -- a used inode is that of a node
  node_of_used : (i : ℕ) → i < image.count → (image.seen i).kind ≢ 0 → (x : ℕ) × (num x ≡ Some i)
  node_of_used i lt used = elim (st.rest i lt) as (λ _. (x : ℕ) × (num x ≡ Some i)) [ inl node ↦ node | inr free ↦ absurd (used free.kind) ]

  node_of_directory : (i : ℕ) → IsDirectoryInode image i → (x : ℕ) × (num x ≡ Some i) × (is_directory tree x ≡ true)
  node_of_directory i is =
      let x = node_of_used i is.0 (λ free. not_used Directory (sym is.1 ∙ free)) in
      (x.0, x.1, sym (is_shown x.0 i x.1) ∙ eq-eqb _ _ is.1)

  may_name : (x i : ℕ) → num x ≡ Some i → (row : Row) → looked_up row.name (image.seen i).slots ≡ Some row → MayName image row
  may_name x i is row found = by_row (row_of tree x row.name) refl (sym ((st.each x i is).slots row.name) ∙ found)
    where
      by_row : (o : Option ℕ) → row_of tree x row.name ≡ o → option_map (row_on num tree row.name) o ≡ Some row → MayName image row
      by_row None e same = absurd (none_some same)
      by_row (Some y) e same =
          let h = st.named x row.name y e in
          let inode : row.inode ≡ h.0 = ap (λ (r : Row). r.inode) (sym (some_same same)) ∙ under_is num y h.0 h.1 in
          record {
            within = subst (λ (j : ℕ). j < image.count) (sym inode) (st.within y h.0 h.1);
            kind = ap (λ (j : ℕ). (image.seen j).kind) inode ∙ (st.each y h.0 h.1).kind ∙ ap (λ (r : Row). kind_byte r.kind) (some_same same);
            no_root = λ zero. s.unnamed x row.name (e ∙ ap Some (st.once y 0 0 (h.1 ∙ ap Some (sym inode ∙ zero)) st.root));
          }

  named_at_most_once : (x : ℕ) → is_directory tree x ≡ true → count_of tree.rows x ≤ 1
  named_at_most_once x kind = counted_once (names_it x) tree.rows (λ k l y z a pa b pb.
      let first : row_of tree k.0 k.1 ≡ Some x = a ∙ ap Some (eqb-true _ _ pa) in
      let second : row_of tree l.0 l.1 ≡ Some x = b ∙ ap Some (eqb-true _ _ pb) in
      let places = s.once k.0 l.0 k.1 l.1 x first second kind in
      λ j. (places.0 j, places.1 j))

  module _ (may : IsStorable num tree) where
    links_shown : (x i : ℕ) → num x ≡ Some i → links_of shown i ≡ links_of tree x
    links_shown x i is = elim (is_directory tree x) as (λ b. is_directory tree x ≡ b → links_of shown i ≡ links_of tree x) [
      | true ↦ λ t. links_renamed num tree shown shown_renamed x i is (may.placed x i is t)
      | false ↦ λ t.
          ap (λ b. cond b (2 + count_by (holds_directory shown i) (entries shown.rows)) (count_of shown.rows i))
          (directory_shown image making i (st.within x i is) ∙ is_shown x i is ∙ t)
          ∙ naming_renamed num tree shown shown_renamed x i is
          ∙ sym (ap (λ b. cond b (2 + count_by (holds_directory tree x) (entries tree.rows)) (count_of tree.rows x)) t)
    ] refl

    reached_shown : (x i : ℕ) → num x ≡ Some i → is_directory tree x ≡ true → (above : List ℕ) × Above shown i above
    reached_shown x i is kind = by_met x (may.placed x i is kind) kind is
      where
        by_met : (x : ℕ) → IsMet tree x → is_directory tree x ≡ true → num x ≡ Some i → (above : List ℕ) × Above shown i above
        by_met _ root kind is = ([], subst (λ (j : ℕ). Above shown j []) (some_same (sym st.root ∙ is)) at_root)
        by_met _ (named d n x row) kind is = let way = s.climbs d n x row kind in above_renamed num tree shown shown_renamed s x i way.0 is way.1

  -- its tree is sound and has the tree's shape
  pub shown_sound : IsSound shown
  shown_sound = sound_renamed num tree shown shown_renamed s

  pub shown_shape : shape_of shown ≡ shape_of tree
  shown_shape = shape_renamed num tree shown shown_renamed

module _ (num : Numbering) (tree : TreeState) (image : SeenInodes) (s : IsSound tree) (st : StandsForTree num tree image) (may : IsStorable num tree) where
  -- an image that stands for a sound tree keeps the rules
  pub keeps : KeepsRules image
  keeps = record {
    root = (st.within 0 0 st.root, directory_seen num tree image NOTHING_MADE s st 0 0 st.root s.root);
    apart = st.apart;
    once = λ i is n. let x = node_of_directory num tree image NOTHING_MADE s st i is in (st.each x.0 i x.1).once n;
    full = λ i number is lt.
        let x = node_of_directory num tree image NOTHING_MADE s st i is in
        subst (λ (k : ℕ). k ≤ 4096) (sym (len_part (λ name. nat_eq (bucket name) number) x.0 i x.1)) (may.limits.buckets x.0 number);
    children = λ i is. let x = node_of_directory num tree image NOTHING_MADE s st i is in
        stand (image.seen i).slots
        (each_found (MayName image) (image.seen i).slots (st.each x.0 i x.1).once
        (λ row found. may_name num tree image NOTHING_MADE s st x.0 i x.1 row found));
    named_once = λ i is. let x = node_of_directory num tree image NOTHING_MADE s st i is in
        subst (λ (k : ℕ). k ≤ 1) (sym (naming_renamed num tree (ruled_tree image) (shown_renamed num tree image NOTHING_MADE s st) x.0 i x.1))
        (named_at_most_once num tree image NOTHING_MADE s st x.0 x.2);
    links = λ i lt used. let x = node_of_used num tree image NOTHING_MADE s st i lt used in
        (st.each x.0 i x.1).links ∙ sym (links_shown num tree image NOTHING_MADE s st may x.0 i x.1);
    reached = λ i is. let x = node_of_directory num tree image NOTHING_MADE s st i is in reached_shown num tree image NOTHING_MADE s st may x.0 i x.1 x.2;
  }
    where
      len_part : (test : List ℕ → Bool) (x i : ℕ) → num x ≡ Some i
          → len (Rattle.tree_laws.specs.Tree.names_where i test (image_rows image)) ≡ len (Rattle.tree_laws.specs.Tree.names_where x test tree.rows)
      len_part test x i is =
          len-entries _ ∙ ap length (part_renamed num tree (ruled_tree image) (shown_renamed num tree image NOTHING_MADE s st) test x i is)
          ∙ length-map (entries (Rattle.tree_laws.specs.Tree.names_where x test tree.rows)) (with_value (inode_under num)) ∙ sym (len-entries _)

      stand_at : (slot : Option Row) → OnRow (MayName image) slot → MayStand image slot
      stand_at None h = tt
      stand_at (Some row) h = h

      stand : (slots : List (Option Row)) → AllByRecursion (OnRow (MayName image)) slots → AllByRecursion (MayStand image) slots
      stand [] h = tt
      stand (slot ∷ slots) h = (stand_at slot h.0, stand slots h.1)

pub standing_images_show : StandingImagesShow
standing_images_show num tree image making is = record {
  rules = keeps num tree image is.sound is.stands is.storable;
  sound = shown_sound num tree image making is.sound is.stands;
  shape = shown_shape num tree image making is.sound is.stands;
}
