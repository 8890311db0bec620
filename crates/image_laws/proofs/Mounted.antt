-- An image that keeps the rules shows a sound tree, and stands for its own.
use Rattle.std.proofs.Common.{◌≡◌, ◌≢◌, ℕ, ◌+◌, ◌<◌, ◌≤◌, Bool, true, false, cond, not, ◌||◌, ◌&&◌, List, [], ◌∷◌, Option, Some, None, option_map, IsSome, ◌⊎◌, inl, inr, refl, sym, ap, subst, ◌∙◌, arith, count_by, nat_eq, nat_lt}
use borrow.Author.Tests.{eqb-true, eq-eqb, eqb-false, ltb-true, ltb-false, lt-ltb}
use Rattle.std.specs.Prelude.{bytes_eq}
use Rattle.std.specs.List.{AllByRecursion}
use Rattle.std.specs.Option.{unwrap_or, option_map_or}
use Rattle.std.specs.Cmp.{nat_cmp_total}
use Rattle.std.specs.Cmp.Lexicographic.{nat_list_cmp_total}
use Rattle.std.specs.FinMap.{get, entries, len, empty, get-empty, len-empty, same_map, nat_cmp-IsAntisymmetric}
use Rattle.sfs_base.specs.Name.{bucket}
use Rattle.sfs_base.specs.declared.numbers.Kind.{Kind}
use Rattle.sfs_base.specs.declared.numbers.Kind.TheVariants.{File, Directory}
use Rattle.tree_laws.specs.Order.{name_cmp, Key}
use Rattle.tree_laws.specs.Tree.{BUCKET_ROWS, TreeState, Node, row_of, is_directory, is_alive, kind_of, bytes_of, count_of, links_of, names_it, holds_directory, bucket_rows}
use Rattle.tree_laws.specs.Sound.{Above, at_root, below, IsSound, IsWithinLimits}
use Rattle.tree_laws.proofs.Counting.{count_some, count_agree, only}
use Rattle.tree_laws.proofs.Joined.{name_cmp-IsAntisymmetric, bucket_small}
use Rattle.sfs_base.proofs.BasicNumbers.{not_same, some_counted}
use Rattle.tree_laws.proofs.Names.{get-names_where}
use Rattle.tree_laws.proofs.RowFacts.{root_alive, named_alive}
use Rattle.sfs_image.specs.Slot.{Row, kind_byte, kind_of as slot_kind}
use Rattle.sfs_image.specs.Seen.{SeenInodes}
use Rattle.image_laws.specs.Slots.{looked_up, name_count}
use Rattle.image_laws.specs.ImageTree.{Making, NOTHING_MADE, shows_directory, image_rows, is_node, is_used, node_shown, nodes_where, tree_where, image_tree, tree_with_orphans}
use Rattle.image_laws.specs.Renamed.{Numbering, IsMet, root, named}
use Rattle.image_laws.specs.Stands.{inode_under, row_on, ShowsNode, IsUnused, StandsForTree, IsStorable}
use Rattle.image_laws.specs.Keeps.{ruled_tree, IsDirectoryInode, MayName, MayStand, KeepsRules}
use Rattle.image_laws.specs.Mount.{own_numbers, ShowsByKind, HasNoOrphans}
use Rattle.image_laws.specs.Laws.{RulesMakeStanding}
use Rattle.sfs_base.proofs.BasicTruth.{not_both}
use Rattle.sfs_base.proofs.BasicOptions.{none_some, some_same}
use Rattle.image_laws.proofs.SlotRows.{looked_named}
use Rattle.image_laws.proofs.Images.{row_shown, no_row_shown, no_rows_outside, slot_back, get_node, no_node_outside, node_is, directory_where, directory_shown, directory_is_node, file_is_node, kind_again}

-- what may stand in each slot may be looked up
pub looked_may : (image : SeenInodes) (n : List ℕ) (slots : List (Option Row)) (row : Row) → AllByRecursion (MayStand image) slots →
    looked_up n slots ≡ Some row → MayName image row
looked_may image n [] row all is = absurd (none_some is)
looked_may image n (None ∷ slots) row all is = looked_may image n slots row all.1 is
looked_may image n (Some held ∷ slots) row all is =
    elim (bytes_eq n held.name) as (λ b. cond b (Some held) (looked_up n slots) ≡ Some row → MayName image row) [
      | true ↦ λ e. subst (MayName image) (some_same e) all.0
      | false ↦ λ e. looked_may image n slots row all.1 e
    ] is

-- the kind of a file is not that of a directory
pub file_is_no_directory : kind_byte File ≡ kind_byte Directory → ⊥
file_is_no_directory e = cc

-- an image that keeps the rules, with chosen inodes as nodes: directories, and files that a row names
module _ (image : SeenInodes) (k : KeepsRules image) (chosen : ℕ → Bool) (directories : (i : ℕ) → (image.seen i).kind ≡ kind_byte Directory → chosen i ≡ true)
    (files : (i : ℕ) → (image.seen i).kind ≡ kind_byte File → count_of (image_rows image) i ≢ 0 → chosen i ≡ true) (making : Making) where
  abbrev tree : TreeState
  tree = tree_where chosen image making

  -- the row of a tree of an image: its directory, and what its child is
  pub record RowShown (d : ℕ) (n : List ℕ) (x : ℕ) : Type 0 where
    pub directory : IsDirectoryInode image d
    pub within : x < image.count
    pub kind : Kind
    pub child : (image.seen x).kind ≡ kind_byte kind
    pub no_root : x ≢ 0

  pub row_is : (d : ℕ) (n : List ℕ) (x : ℕ) → row_of tree d n ≡ Some x → RowShown d n x
  row_is d n x row =
      let b = slot_back image d n x row in
      let may = looked_may image n (image.seen d).slots b.row (k.children d (b.within, b.kind)) b.slot in
      record {
        directory = (b.within, b.kind);
        within = subst (λ (j : ℕ). j < image.count) b.child may.within;
        kind = b.row.kind;
        child = subst (λ (j : ℕ). (image.seen j).kind ≡ kind_byte b.row.kind) b.child may.kind;
        no_root = subst (λ (j : ℕ). j ≢ 0) b.child may.no_root;
      }

  directory_there : (i : ℕ) → i < image.count → is_directory tree i ≡ shows_directory (image.seen i)
  directory_there i lt = directory_where image chosen making directories i lt

  directory_inode : (i : ℕ) → i < image.count → is_directory tree i ≡ true → IsDirectoryInode image i
  directory_inode i lt is = (lt, eqb-true _ _ (sym (directory_there i lt) ∙ is))

  above_same : {i : ℕ} {l : List ℕ} → Above (ruled_tree image) i l → Above tree i l
  above_same at_root = at_root
  above_same (below node holder name l row rest) = below node holder name l row (above_same rest)

  reached : (i : ℕ) → IsDirectoryInode image i → (l : List ℕ) × Above tree i l
  reached i is = let r = k.reached i is in (r.0, above_same r.1)

  named_count : (d : ℕ) (n : List ℕ) (x : ℕ) → row_of tree d n ≡ Some x → 0 < count_of (image_rows image) x
  named_count d n x row = count_some (names_it x) (image_rows image) (d, n) x row (eq-eqb x x refl)

  chosen_child : (d : ℕ) (n : List ℕ) (x : ℕ) → row_of tree d n ≡ Some x → (kind : Kind) → (image.seen x).kind ≡ kind_byte kind → chosen x ≡ true
  chosen_child d n x row Directory is = directories x is
  chosen_child d n x row File is = files x is (some_counted (named_count d n x row))

  one_row : (x : ℕ) (d e : ℕ) (n m : List ℕ) → row_of tree d n ≡ Some x → row_of tree e m ≡ Some x → count_of (image_rows image) x ≤ 1 → (d ≡ e) × (n ≡ m)
  one_row x d e n m first second le =
      let lt = named_count d n x first in
      let same = only (names_it x) (image_rows image) (e, m) (d, n) x x (omega arith) second (eq-eqb x x refl) first (eq-eqb x x refl) in
      (ap (λ (q : Key). q.0) same, ap (λ (q : Key). q.1) same)

  alive : (i : ℕ) (l : List ℕ) → Above tree i l → is_alive tree i ≡ true
  alive _ _ at_root = root_alive tree 0 refl
  alive _ _ (below node holder name l row rest) = named_alive tree node (record { directory = holder; name = name; row = row })

  pub sound_where : IsSound tree
  sound_where = record {
    root = directory_there 0 k.root.0 ∙ eq-eqb _ _ k.root.1;
    unnamed = λ d n row. (row_is d n 0 row).no_root refl;
    node = λ d n x row. let r = row_is d n x row in subst IsSome (sym (node_is image chosen x r.within (chosen_child d n x row r.kind r.child))) refl;
    once = λ d e n m x first second kind. one_row x d e n m first second (k.named_once x (directory_inode x (row_is d n x first).within kind));
    holds = λ d n x row.
        let r = row_is d n x row in
        let up = reached d r.directory in
        (directory_there d r.directory.0 ∙ eq-eqb _ _ r.directory.1, alive d up.0 up.1);
    climbs = λ d n x row kind. reached x (directory_inode x (row_is d n x row).within kind);
  }

-- the tree of an image with chosen inodes as nodes is within its limits, where its directories have no bytes and no overfull bucket
module _ (image : SeenInodes) (chosen : ℕ → Bool) (directories : (i : ℕ) → (image.seen i).kind ≡ kind_byte Directory → chosen i ≡ true) (making : Making) where
  no_bucket : (d number : ℕ) → ((n : List ℕ) → cond (nat_eq (bucket n) number) (get (image_rows image) (d, n)) None ≡ None) →
      len (bucket_rows d number (image_rows image)) ≡ 0
  no_bucket d number none =
      ap len (same_map nat_list_cmp_total name_cmp-IsAntisymmetric (bucket_rows d number (image_rows image)) empty (λ n.
      get-names_where d (λ name. nat_eq (bucket name) number) (image_rows image) n ∙ none n ∙ sym (get-empty name_cmp n)))
      ∙ len-empty name_cmp ℕ

  either_none : (b : Bool) → ◌≡◌ {A = Option ℕ} (cond b None None) None
  either_none true = refl
  either_none false = refl

  abbrev Fits : ℕ → ℕ → Type 0
  Fits d number = len (bucket_rows d number (image_rows image)) ≤ BUCKET_ROWS

  empty_fits : (d number : ℕ) → ((n : List ℕ) → get (image_rows image) (d, n) ≡ None) → Fits d number
  empty_fits d number none =
      subst (λ (c : ℕ). c ≤ BUCKET_ROWS)
      (sym (no_bucket d number (λ n. ap (λ o. cond (nat_eq (bucket n) number) o None) (none n) ∙ either_none (nat_eq (bucket n) number)))) (omega arith)

  late_fits : (d number : ℕ) → 8 ≤ number → Fits d number
  late_fits d number le =
      subst (λ (c : ℕ). c ≤ BUCKET_ROWS)
      (sym (no_bucket d number (λ n. ap (λ b. cond b (get (image_rows image) (d, n)) None) (not_same (bucket n) number (apart n))))) (omega arith)
    where
      apart : (n : List ℕ) → bucket n ≢ number
      apart n same = let small = bucket_small n in omega arith

  buckets_fit : KeepsRules image → (d number : ℕ) → Fits d number
  buckets_fit k d number = elim (nat_lt number 8) as (λ b. nat_lt number 8 ≡ b → Fits d number) [
    | false ↦ λ t. late_fits d number (ltb-false _ _ t)
    | true ↦ λ t. elim (nat_lt d image.count) as (λ b. nat_lt d image.count ≡ b → Fits d number) [
      | false ↦ λ u. empty_fits d number (λ n. no_rows_outside image d n (ltb-false _ _ u))
      | true ↦ λ u. elim (shows_directory (image.seen d)) as (λ b. shows_directory (image.seen d) ≡ b → Fits d number) [
        | true ↦ λ v. k.full d number (ltb-true _ _ u, eqb-true _ _ v) (ltb-true _ _ t)
        | false ↦ λ v. empty_fits d number (λ n. no_row_shown image d n (ltb-true _ _ u) (eqb-false _ _ v))
      ] refl
    ] refl
  ] refl

  plain_where : ((i : ℕ) → i < image.count → (image.seen i).kind ≡ kind_byte Directory → (image.seen i).bytes ≡ []) → (x : ℕ) →
      is_directory (tree_where chosen image making) x ≡ true → bytes_of (tree_where chosen image making) x ≡ []
  plain_where plain x is = elim (nat_lt x image.count) as (λ b. nat_lt x image.count ≡ b → bytes_of (tree_where chosen image making) x ≡ []) [
    | false ↦ λ t. ap (λ (o : Option Node). option_map_or (λ n. n.bytes) o []) (no_node_outside image chosen x (ltb-false _ _ t))
    | true ↦ λ t.
        let lt = ltb-true _ _ t in
        let kind = eqb-true _ _ (sym (directory_where image chosen making directories x lt) ∙ is) in
        ap (λ (o : Option Node). option_map_or (λ n. n.bytes) o []) (node_is image chosen x lt (directories x kind)) ∙ plain x lt kind
  ] refl

  pub limits_where : ((i : ℕ) → i < image.count → (image.seen i).kind ≡ kind_byte Directory → (image.seen i).bytes ≡ []) → KeepsRules image →
      IsWithinLimits (tree_where chosen image making)
  limits_where plain k = record { buckets = buckets_fit k; plain = plain_where plain }

-- the tree of an image that keeps the rules is sound
pub sound_shown : (image : SeenInodes) (making : Making) → KeepsRules image → IsSound (image_tree image making)
sound_shown image making k = sound_where image k (is_node image) (directory_is_node image) (file_is_node image) making

-- the image's own tree, with its orphans
pub used_not_free : (image : SeenInodes) (x : ℕ) → is_used image x ≡ true → (image.seen x).kind ≢ 0
used_not_free image x u free = not_both u (ap (λ b. not (nat_eq b 0)) free)

module _ (image : SeenInodes) (making : Making) (k : KeepsRules image) (g : ShowsByKind image) where
  abbrev own : TreeState
  own = tree_with_orphans image making

  abbrev num : Numbering
  num = own_numbers image

  used_directory : (i : ℕ) → (image.seen i).kind ≡ kind_byte Directory → is_used image i ≡ true
  used_directory i e = ap (λ b. not (nat_eq b 0)) e

  used_file : (i : ℕ) → (image.seen i).kind ≡ kind_byte File → is_used image i ≡ true
  used_file i e = ap (λ b. not (nat_eq b 0)) e

  own_sound : IsSound own
  own_sound = sound_where image k (is_used image) used_directory (λ i e _. used_file i e) making

  shown_row : (d : ℕ) (n : List ℕ) (x : ℕ) → row_of own d n ≡ Some x → RowShown image k (is_used image) used_directory (λ i e _. used_file i e) making d n x
  shown_row = row_is image k (is_used image) used_directory (λ i e _. used_file i e) making

  number_of : (i : ℕ) → i < image.count → is_used image i ≡ true → num i ≡ Some i
  number_of i lt used = ap (λ b. cond (b && is_used image i) (Some i) None) (lt-ltb i image.count lt) ∙ ap (λ b. cond b (Some i) None) used

  -- a node with a number is an inode in use, which is its number
  record IsOwn (x i : ℕ) : Type 0 where
    is : x ≡ i
    within : x < image.count
    used : is_used image x ≡ true

  own_is : (x i : ℕ) → num x ≡ Some i → IsOwn x i
  own_is x i e = elim (nat_lt x image.count) as (λ b. nat_lt x image.count ≡ b → cond (b && is_used image x) (Some x) None ≡ Some i → IsOwn x i) [
    | false ↦ λ t e. absurd (none_some e)
    | true ↦ λ t e. elim (is_used image x) as (λ b. is_used image x ≡ b → cond b (Some x) None ≡ Some i → IsOwn x i) [
      | false ↦ λ u e. absurd (none_some e)
      | true ↦ λ u e. record { is = some_same e; within = ltb-true _ _ t; used = u }
    ] refl e
  ] refl e

  own_directory : (i : ℕ) → i < image.count → is_directory own i ≡ shows_directory (image.seen i)
  own_directory i lt = directory_where image (is_used image) making used_directory i lt

  own_child : (d : ℕ) (n : List ℕ) (x : ℕ) → row_of own d n ≡ Some x → num x ≡ Some x
  own_child d n x row = let r = shown_row d n x row in number_of x r.within (used_by r.kind x r.child)
    where
      used_by : (kind : Kind) (x : ℕ) → (image.seen x).kind ≡ kind_byte kind → is_used image x ≡ true
      used_by File x e = used_file x e
      used_by Directory x e = used_directory x e

  -- link counts are those of the tree that the rules speak of
  own_links : (x : ℕ) → x < image.count → links_of own x ≡ links_of (ruled_tree image) x
  own_links x lt =
      ap (λ b. cond b (2 + count_by (holds_directory own x) (entries (image_rows image))) (count_of (image_rows image) x))
      (own_directory x lt ∙ sym (directory_shown image NOTHING_MADE x lt))
      ∙ ap (λ n. cond (is_directory (ruled_tree image) x) (2 + n) (count_of (image_rows image) x))
      (count_agree (holds_directory own x) (holds_directory (ruled_tree image) x) (image_rows image) (λ q y row.
      let r = shown_row q.0 q.1 y row in
      ap (λ b. nat_eq q.0 x && b) (own_directory y r.within ∙ sym (directory_shown image NOTHING_MADE y r.within))))

  own_node : (x : ℕ) → x < image.count → is_used image x ≡ true → get own.nodes x ≡ Some (node_shown (image.seen x))
  own_node x lt used = node_is image (is_used image) x lt used

  own_kind : (x : ℕ) → x < image.count → is_used image x ≡ true → kind_of own x ≡ slot_kind (image.seen x).kind
  own_kind x lt used = ap (λ (o : Option Node). option_map_or (λ n. n.kind) o File) (own_node x lt used)

  byte_again : (kind : ℕ) → (kind ≡ kind_byte File) ⊎ (kind ≡ kind_byte Directory) → kind ≡ kind_byte (slot_kind kind)
  byte_again kind (inl e) = e ∙ sym (ap (λ n. kind_byte (slot_kind n)) e)
  byte_again kind (inr e) = e ∙ sym (ap (λ n. kind_byte (slot_kind n)) e)

  own_slots : (x : ℕ) → x < image.count → (image.seen x).kind ≡ kind_byte Directory → (n : List ℕ) →
      looked_up n (image.seen x).slots ≡ option_map (row_on num own n) (row_of own x n)
  own_slots x lt kind n = by_slot (looked_up n (image.seen x).slots) refl ∙ sym (ap (option_map (row_on num own n)) (row_shown image x n lt kind))
    where
      by_slot : (o : Option Row) → looked_up n (image.seen x).slots ≡ o → o ≡ option_map (row_on num own n) (option_map (λ (row : Row). row.inode) o)
      by_slot None e = refl
      by_slot (Some row) e =
          let may = looked_may image n (image.seen x).slots row (k.children x (lt, kind)) e in
          let used : is_used image row.inode ≡ true = ap (λ b. not (nat_eq b 0)) may.kind ∙ some_kind row.kind in
          let inode : row.inode ≡ inode_under num row.inode = sym (ap (λ o. unwrap_or o 0) (number_of row.inode may.within used)) in
          let kinds : row.kind ≡ kind_of own row.inode = sym (own_kind row.inode may.within used ∙ ap slot_kind may.kind ∙ kind_again row.kind) in
          let names : row.name ≡ n = looked_named n (image.seen x).slots row e in
          ap Some (λ i. record { inode = inode i; kind = kinds i; name = names i })
        where
          some_kind : (kind : Kind) → not (nat_eq (kind_byte kind) 0) ≡ true
          some_kind File = refl
          some_kind Directory = refl

  file_slots : (x : ℕ) → x < image.count → (image.seen x).kind ≡ kind_byte File → (n : List ℕ) →
      looked_up n (image.seen x).slots ≡ option_map (row_on num own n) (row_of own x n)
  file_slots x lt kind n =
      ap (looked_up n) (g.files x lt kind)
      ∙ sym (ap (option_map (row_on num own n)) (no_row_shown image x n lt (λ other. file_is_no_directory (sym kind ∙ other))))

  own_shows : (x : ℕ) → x < image.count → is_used image x ≡ true → ShowsNode num own x (image.seen x)
  own_shows x lt used =
      let some = used_not_free image x used in
      record {
        kind = byte_again (image.seen x).kind (g.kinds x lt some) ∙ ap kind_byte (sym (own_kind x lt used));
        links = k.links x lt some ∙ sym (own_links x lt);
        size = g.sizes x lt some;
        bytes = sym (ap (λ (o : Option Node). option_map_or (λ n. n.bytes) o []) (own_node x lt used));
        slots = by_kind (g.kinds x lt some);
        once = once_by_kind (g.kinds x lt some);
      }
    where
      by_kind : ((image.seen x).kind ≡ kind_byte File) ⊎ ((image.seen x).kind ≡ kind_byte Directory) → (n : List ℕ) →
          looked_up n (image.seen x).slots ≡ option_map (row_on num own n) (row_of own x n)
      by_kind (inl file) = file_slots x lt file
      by_kind (inr directory) = own_slots x lt directory

      once_by_kind : ((image.seen x).kind ≡ kind_byte File) ⊎ ((image.seen x).kind ≡ kind_byte Directory) → (n : List ℕ) → name_count n (image.seen x).slots ≤ 1
      once_by_kind (inl file) n = subst (λ (slots : List (Option Row)). name_count n slots ≤ 1) (sym (g.files x lt file)) (omega arith)
      once_by_kind (inr directory) n = k.once x (lt, directory) n

  own_stands : StandsForTree num own image
  own_stands = record {
    root = number_of 0 k.root.0 (used_directory 0 k.root.1);
    once = λ x y i a b. let p = own_is x i a in let q = own_is y i b in p.is ∙ sym q.is;
    within = λ x i a. let p = own_is x i a in subst (λ (j : ℕ). j < image.count) p.is p.within;
    named = λ d n x row. (x, own_child d n x row);
    each = λ x i a. let p = own_is x i a in subst (λ (j : ℕ). ShowsNode num own x (image.seen j)) p.is (own_shows x p.within p.used);
    rest = λ i lt. elim (nat_eq (image.seen i).kind 0) as (λ b. nat_eq (image.seen i).kind 0 ≡ b → ((x : ℕ) × (num x ≡ Some i)) ⊎ IsUnused (image.seen i)) [
      | true ↦ λ t. inr (g.unused i lt (eqb-true _ _ t))
      | false ↦ λ t. inl (i, number_of i lt (ap not t))
    ] refl;
    apart = k.apart;
  }

  own_storable : IsStorable num own
  own_storable = record {
    placed = λ x i a kind.
        let p = own_is x i a in
        by_way x (reached_own x (p.within, eqb-true _ _ (sym (own_directory x p.within) ∙ kind)));
    limits = limits_where image (is_used image) used_directory making g.directories k;
  }
    where
      reached_own : (x : ℕ) → IsDirectoryInode image x → (l : List ℕ) × Above (ruled_tree image) x l
      reached_own x is = k.reached x is

      by_way : (x : ℕ) → (l : List ℕ) × Above (ruled_tree image) x l → IsMet own x
      by_way x way = go way.1
        where
          go : {x : ℕ} {l : List ℕ} → Above (ruled_tree image) x l → IsMet own x
          go at_root = root
          go (below node holder name l row rest) = named holder name node row

  own_shown : HasNoOrphans image → own ≡ image_tree image making
  own_shown none =
      let nodes = same_map nat_cmp_total nat_cmp-IsAntisymmetric (nodes_where (is_used image) image) (nodes_where (is_node image) image) by_inode in
      λ i. record { rows = image_rows image; nodes = nodes i; first = making.first; share = making.share; made = making.made }
    where
      chosen : (x : ℕ) → x < image.count → is_used image x ≡ is_node image x
      chosen x lt = elim (nat_eq (image.seen x).kind 0) as (λ b. nat_eq (image.seen x).kind 0 ≡ b → not b ≡ is_node image x) [
        | true ↦
            λ t. sym
            (ap (λ n. nat_eq n (kind_byte Directory) || (nat_eq n (kind_byte File) && not (nat_eq (count_of (image_rows image) x) 0))) (eqb-true _ _ t))
        | false ↦ λ t. elim (g.kinds x lt (eqb-false _ _ t)) as (λ _. true ≡ is_node image x) [
          | inl file ↦ sym (file_is_node image x file (none x lt file))
          | inr directory ↦ sym (directory_is_node image x directory)
        ]
      ] refl

      by_inode : (x : ℕ) → get (nodes_where (is_used image) image) x ≡ get (nodes_where (is_node image) image) x
      by_inode x =
          elim (nat_lt x image.count) as (λ b. nat_lt x image.count ≡ b
          → get (nodes_where (is_used image) image) x ≡ get (nodes_where (is_node image) image) x) [
            | true ↦ λ t.
                let lt = ltb-true _ _ t in
                get_node image (is_used image) x lt ∙ ap (λ b. cond b (Some (node_shown (image.seen x))) None) (chosen x lt)
                ∙ sym (get_node image (is_node image) x lt)
            | false ↦ λ t. no_node_outside image (is_used image) x (ltb-false _ _ t) ∙ sym (no_node_outside image (is_node image) x (ltb-false _ _ t))
          ] refl

pub rules_make_standing : RulesMakeStanding
rules_make_standing image making k g = record {
  sound = own_sound image making k g;
  storable = own_storable image making k g;
  stands = own_stands image making k g;
  shown = own_shown image making k g;
}
