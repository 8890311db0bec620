-- The tree that is built of what was read is the tree that the parts show.
use Rattle.std.proofs.Common.{◌≡◌, ℕ, zero, suc, ◌+◌, ◌*◌, ◌/◌, ◌%◌, ◌<◌, ◌≤◌, Bool, true, false, cond, not, ◌&&◌, ◌||◌, eqb, List, [], ◌∷◌, map, length, take, drop, Option, None, Some, IsSome, All, refl, sym, ap, subst, ◌∙◌, arith, inl, inr}
use Rattle.std.specs.Prelude.{slice_index, slice_index_or}
use Rattle.std.specs.FinMap.{FinMap, get, from_entries}
use Rattle.std.specs.Option.{option_map_or}
use Rattle.std.specs.Ordering.{nat_cmp}
use Rattle.std.proofs.lemmas.Bool.{cases_Bool, cases_lt, cond-true, cond-false, eq-eqb, eqb-true, eqb-false, ltb-true, or_parts}
use Rattle.std.proofs.lemmas.List.{get_or_past, get_or-take, get_or-drop, length-take-le}
use Rattle.std.proofs.lemmas.List.Folds.{list_any_at}
use Rattle.std.proofs.lemmas.List.Sums.{count_by_more_yes}
use Rattle.sfs_base.proofs.BasicTruth.{not_both_of, not_false}
use Rattle.sfs_base.specs.Lists.{Roomy}
use Rattle.sfs_base.specs.declared.numbers.Kind.{Kind}
use Rattle.sfs_base.specs.declared.numbers.Kind.TheVariants.{File, Directory}
use Rattle.sfs_image.specs.Inode.{Inode, IsInode, Table, inode_of}
use Rattle.sfs_image.specs.Part.{inode_in, file_byte, directory_blocks}
use Rattle.sfs_image.specs.Seen.{SeenInodes}
use Rattle.sfs_image.specs.Slot.{Row, kind_byte, kind_of}
use Rattle.sfs_image.specs.SlotBlock.{slots_of}
use Rattle.sfs_image.specs.Super.{Layout}
use Rattle.sfs_image.proofs.Basics.{pieces_same}
use Rattle.tree_laws.specs.Laws.{IsSoundTree}
use Rattle.tree_laws.specs.Order.{key_cmp}
use Rattle.tree_laws.specs.Sound.{IsWithinLimits}
use Rattle.tree_laws.specs.Tree.{Node, count_of, is_directory_kind}
use Rattle.block_map.specs.Kept.{kept_slots}
use Rattle.image_laws.specs.Image.{inodes_shown}
use Rattle.image_laws.specs.ImageTree.{image_rows, image_tree, is_node, node_in, nodes_where}
use Rattle.image_laws.specs.Keeps.{KeepsRules}
use Rattle.image_laws.specs.Mount.{ShowsByKind}
use Rattle.image_laws.proofs.BlockRows.{byte_blocks_show}
use Rattle.image_laws.proofs.Images.{directory_is_node, directory_shown, file_is_node, node_is}
use Rattle.image_laws.proofs.Mounted.{limits_where, sound_shown}
use Rattle.image_laws.proofs.WholeImages.{numbered}
use Rattle.disk_tree.specs.Blocks.{ReadWell, slots_at}
use Rattle.disk_tree.specs.Built.{MayBuild, MayPut, node_at, node_entries, row_entries, tree_of_entries}
use Rattle.disk_tree.specs.Contents.{bytes_of_inode}
use Rattle.disk_tree.specs.First.{NonePasses}
use Rattle.disk_tree.specs.Found.{IsFoundIn, making_when_read}
use Rattle.disk_tree.specs.Gathered.{KeepPointerRules}
use Rattle.disk_tree.specs.Inodes.{KeepRecordRules, inode_at}
use Rattle.disk_tree.specs.KeptParts.{gathered_if_used, gathered_in_use, kept_if_used, kept_in_use}
use Rattle.disk_tree.specs.Whole.{IsReadWhole}
use Rattle.disk_tree.specs.Ordered.{KeepTreeRules}
use Rattle.disk_tree.specs.Reached.{row_at}
use Rattle.disk_tree.specs.Rows.{NO_ROW, AreNamingCounts, AreRowLists, is_misplaced_by, naming, naming_below, rows_in_bucket, rows_of_inode}
use Rattle.disk_tree.specs.Tests.{breaks_eighth}
use Rattle.disk_tree.specs.declared.found.Found.{Found}
use Rattle.disk_tree.proofs.BytesJudged.{block_is, blocks_are, part_inode}
use Rattle.disk_tree.proofs.BytesStage.{sizes_fit}
use Rattle.disk_tree.proofs.CountsShown.{bucket_is, count_is, own, rows_are}
use Rattle.disk_tree.proofs.PartsRead.{own_inode}
use Rattle.disk_tree.proofs.PartsSound.{faultless_parts_are_ruled}
use Rattle.disk_tree.proofs.Putting.{count_take}
use Rattle.disk_tree.proofs.RulesJudged.{faultless, shows}
use Rattle.disk_tree.proofs.TablesRead.{filter_map_same}

-- the inode that a row names is named once at least
naming_some : (own : List Row) (k : ℕ) → k < length own → 1 ≤ naming (row_at own k).inode own
naming_some own k less =
    (let one = count_by_more_yes (λ (row : Row). eqb row.inode (row_at own k).inode) own k NO_ROW less
    (eq-eqb (row_at own k).inode (row_at own k).inode refl) in
    let few = count_take (λ (row : Row). eqb row.inode (row_at own k).inode) own (k + 1) in
    omega arith)

naming_met : (rows : List (Roomy Row)) (n i k : ℕ) → i < n → k < length (rows_of_inode rows i) → 1 ≤ naming_below rows n (row_at (rows_of_inode rows i) k).inode
naming_met rows zero i k less inside = absurd (omega arith)
naming_met rows (suc n) i k less inside = elim (cases_lt i n) [
  | inl below ↦ (let h = naming_met rows n i k below inside in omega arith)
  | inr last ↦ (let e : i ≡ n = omega arith in
      subst (λ (m : ℕ). 1 ≤ naming_below rows n (row_at (rows_of_inode rows i) k).inode + naming (row_at (rows_of_inode rows i) k).inode (rows_of_inode rows m))
      e
      (let h = naming_some (rows_of_inode rows i) k inside in omega arith))
]

-- a node of an inode, by its kind, by how many rows name it, and by its bytes
abbrev node_of : ℕ → ℕ → ℕ → List ℕ → List (ℕ × Node)
node_of i kind named bytes =
    cond (eqb kind 2 || (eqb kind 1 && not (eqb named 0))) ((let node : ℕ × Node = (i, record { kind = kind_of kind; bytes = bytes }) in node) ∷ []) []

abbrev node_by : ℕ → ℕ → ℕ → List ℕ → List (ℕ × Node)
node_by i kind named bytes =
    cond (eqb kind 2) ((let node : ℕ × Node = (i, record { kind = Directory; bytes = [] }) in node) ∷ [])
    (cond (eqb kind 1 && not (eqb named 0)) ((let node : ℕ × Node = (i, record { kind = File; bytes = bytes }) in node) ∷ []) [])

same_node : (i kind named : ℕ) (shown held : List ℕ) → (kind ≡ 2 → shown ≡ []) → (kind ≡ 1 → shown ≡ held)
    → node_of i kind named shown ≡ node_by i kind named held
same_node i kind named shown held directory file = elim (cases_Bool (eqb kind 2)) [
  | inl is ↦ (let two = eqb-true _ _ is in
      ap (λ (n : ℕ). node_of i n named shown) two ∙ ap (λ (bytes : List ℕ). node_of i 2 named bytes) (directory two)
      ∙ sym (ap (λ (n : ℕ). node_by i n named held) two))
  | inr other ↦ elim (cases_Bool (eqb kind 1)) [
    | inl is ↦ (let one = eqb-true _ _ is in
        ap (λ (n : ℕ). node_of i n named shown) one ∙ ap (λ (bytes : List ℕ). node_of i 1 named bytes) (file one)
        ∙ sym (ap (λ (n : ℕ). node_by i n named held) one))
    | inr none ↦ nothing (eqb kind 2) (eqb kind 1) other none
  ]
]
  where
    nothing : (a b : Bool) → a ≡ false → b ≡ false
        → cond (a || (b && not (eqb named 0))) ((let node : ℕ × Node = (i, record { kind = kind_of kind; bytes = shown }) in node) ∷ []) []
        ≡ cond a ((let node : ℕ × Node = (i, record { kind = Directory; bytes = [] }) in node) ∷ [])
        (cond (b && not (eqb named 0)) ((let node : ℕ × Node = (i, record { kind = File; bytes = held }) in node) ∷ []) [])
    nothing false false e f = refl
    nothing true b e f = absurd cc
    nothing false true e f = absurd cc

module _ (told : Option (List ℕ)) (layout : Layout) (records : List (List ℕ)) (count : length records ≡ layout.inodes) (inodes : List Inode)
    (are : inodes ≡ map inode_of records) (fit : All IsInode inodes)
    (first : KeepRecordRules layout records) (tables : List (Roomy Table)) (keep : KeepPointerRules told layout records tables) (contents : List (Roomy ℕ))
    (slots : List (Roomy (List (Option Row))))
    (well : ReadWell told layout records inodes tables contents slots) (rows : List (Roomy Row)) (lists : AreRowLists slots layout.inodes rows)
    (some : 0 < layout.inodes) (kept : KeepTreeRules inodes rows) where
  abbrev image : SeenInodes
  image = inodes_shown layout well.parts

  abbrev inode_is : (i : ℕ) → i < layout.inodes → inode_in (well.parts i) ≡ inode_at inodes i
  inode_is = part_inode told layout records count inodes are fit tables keep contents well.parts well.hold

  abbrev rows_shown : Rattle.disk_tree.specs.Shown.ShowsRows image inodes rows
  rows_shown = shows told layout records count inodes are fit tables keep contents slots well rows lists

  abbrev as_many : length rows ≡ length inodes
  as_many = lists.count ∙ rows_shown.count

  once : NonePasses image.count (breaks_eighth rows)
  once i within = kept.keep 8 i (omega arith) (omega arith) (let m = rows_shown.count in omega arith)

  no_fault : Rattle.disk_tree.specs.Judged.fault_of_parts layout well.parts ≡ None
  no_fault = faultless told layout records count inodes are fit tables keep contents slots well rows lists some kept

  rules : KeepsRules image
  rules = (faultless_parts_are_ruled told layout records well.parts some well.hold.read no_fault).rules

  kinds : ShowsByKind image
  kinds = (faultless_parts_are_ruled told layout records well.parts some well.hold.read no_fault).kinds

  limits : IsWithinLimits (image_tree image (making_when_read layout))
  limits = limits_where image (is_node image) (directory_is_node image) (making_when_read layout) kinds.directories rules

  -- the bytes of an inode fill its blocks
  bytes_long : (i : ℕ) → i < layout.inodes → (inode_at inodes i).size ≤ length (bytes_of_inode contents i)
  bytes_long i within =
      (let long = well.hold.size i within in
      let size = ap (λ (inode : Inode). inode.size) (own_inode told layout records count inodes are fit i within) in
      omega arith)

  file_bytes : (i : ℕ) → i < layout.inodes → (inode_at inodes i).kind ≡ 1 → (image.seen i).bytes ≡ take (inode_at inodes i).size (bytes_of_inode contents i)
  file_bytes i within kind = byte_blocks_show (well.parts i) (take (inode_at inodes i).size (bytes_of_inode contents i)) (record {
    kind = ap (λ (inode : Inode). inode.kind) (inode_is i within) ∙ kind;
    size = ap (λ (inode : Inode). inode.size) (inode_is i within) ∙ sym taken;
    each = λ place less. here place (let t = taken in omega arith);
  })
    where
      taken : length (take (inode_at inodes i).size (bytes_of_inode contents i)) ≡ (inode_at inodes i).size
      taken = length-take-le (inode_at inodes i).size (bytes_of_inode contents i) (bytes_long i within)

      again : (place : ℕ) → 4096 * (place / 4096) + place % 4096 ≡ place
      again place = omega arith

      here : (place : ℕ) → place < (inode_at inodes i).size
          → file_byte (well.parts i) place ≡ slice_index (take (inode_at inodes i).size (bytes_of_inode contents i)) place
      here place less =
          ap (λ (block : List ℕ). slice_index block (place % 4096))
          (block_is told layout records count inodes are fit tables keep contents well.parts well.hold i (place / 4096) within (omega arith))
          ∙ get_or-take 4096 (drop (4096 * (place / 4096)) (bytes_of_inode contents i)) (place % 4096) 0 (omega arith)
          ∙ get_or-drop (4096 * (place / 4096)) (bytes_of_inode contents i) (place % 4096) 0
          ∙ ap (slice_index (bytes_of_inode contents i)) (again place)
          ∙ sym (get_or-take (inode_at inodes i).size (bytes_of_inode contents i) place 0 less)

  -- a directory has rows alone
  record HasRows (i : ℕ) : Type 0 where
    within : i < layout.inodes
    kind : (image.seen i).kind ≡ 2

  has_rows : (i k : ℕ) → k < length (rows_of_inode rows i) → HasRows i
  has_rows i k less = elim (cases_lt i layout.inodes) [
    | inr past ↦
        (let none : length (rows_of_inode rows i)
        ≡ 0 = ap (λ (r : Roomy Row). length r.items) (get_or_past rows i (record { items = []; spare = 0 }) (let c = lists.count in omega arith)) in
        absurd (omega arith))
    | inl within ↦ elim (cases_Bool (eqb (image.seen i).kind 2)) [
      | inl directory ↦ record { within = within; kind = eqb-true _ _ directory }
      | inr other ↦ (let none : length (rows_of_inode rows i) ≡ 0 = ap length (rows_shown.others i within (eqb-false _ _ other)) in absurd (omega arith))
    ]
  ]

  -- what a row names is an inode of the row's kind
  record IsPlaced (row : Row) : Type 0 where
    within : row.inode < layout.inodes
    kind : (image.seen row.inode).kind ≡ kind_byte row.kind

  placed : (i k : ℕ) → k < length (rows_of_inode rows i) → IsPlaced (row_at (rows_of_inode rows i) k)
  placed i k less = elim (cases_Bool (is_misplaced_by inodes row)) [
    | inl wrong ↦
        absurd
        (not_both_of _ (list_any_at (is_misplaced_by inodes) (rows_of_inode rows i) k NO_ROW less wrong)
        (kept.keep 10 i (omega arith) (omega arith) (let h = (has_rows i k less).within in let m = rows_shown.count in omega arith)))
    | inr right ↦ (let both = or_parts (not (Rattle.std.specs.Prelude.nat_lt row.inode (length inodes))) _ right in
        let within : row.inode < layout.inodes = (let h = ltb-true _ _ (not_false _ both.0) in let m = rows_shown.count in omega arith) in
        record { within = within; kind = rows_shown.kind row.inode within ∙ eqb-true _ _ (not_false _ both.1) })
  ]
    where
      row : Row
      row = row_at (rows_of_inode rows i) k

  module _ (named : List ℕ) (naming_is : AreNamingCounts rows (length inodes) (length inodes) named) where
    counted : (i : ℕ) → i < layout.inodes → count_of (image_rows image) i ≡ slice_index named i
    counted i within = count_is image inodes rows rows_shown as_many once i ∙ sym (naming_is.each i (let m = rows_shown.count in omega arith))

    nodes_are : nodes_where (is_node image) image ≡ from_entries (node_entries inodes named contents (length inodes))
    unfolding node_entries
    nodes_are =
        ap from_entries (pieces_same (node_in (is_node image) image) (node_at inodes named contents) 0 layout.inodes (λ i low high. here i (omega arith)))
        ∙ ap (λ (n : ℕ). from_entries {R = nat_cmp} (node_entries inodes named contents n)) rows_shown.count
      where
        here : (i : ℕ) → i < layout.inodes → node_in (is_node image) image i ≡ node_at inodes named contents i
        here i within =
            ap (λ (n : ℕ). node_of i (image.seen i).kind n (image.seen i).bytes) (counted i within)
            ∙ ap (λ (n : ℕ). node_of i n (slice_index named i) (image.seen i).bytes) (rows_shown.kind i within)
            ∙ same_node i (inode_at inodes i).kind (slice_index named i) (image.seen i).bytes (take (inode_at inodes i).size (bytes_of_inode contents i))
            (λ two. kinds.directories i within (rows_shown.kind i within ∙ two)) (λ one. file_bytes i within one)

    chosen : (row : Row) → IsPlaced row → 1 ≤ naming_below rows (length inodes) row.inode → is_node image row.inode ≡ true
    chosen row is met = by row.kind is.kind
      where
        by : (kind : Kind) → (image.seen row.inode).kind ≡ kind_byte kind → is_node image row.inode ≡ true
        by Directory is_kind = directory_is_node image row.inode is_kind
        by File is_kind =
            file_is_node image row.inode is_kind (λ none. absurd (let c = count_is image inodes rows rows_shown as_many once row.inode in omega arith))

    rows_may : MayPut (tree_of_entries layout (node_entries inodes named contents (length inodes)) []) rows
    rows_may = record {
      directories = λ i k less.
          ap (λ (m : FinMap nat_cmp Node). option_map_or (λ (n : Node). is_directory_kind n.kind) (get m i) false) (sym nodes_are)
          ∙ directory_shown image (making_when_read layout) i (has_rows i k less).within ∙ eq-eqb _ _ (has_rows i k less).kind;
      children = λ i k less.
          (let row = row_at (rows_of_inode rows i) k in
          let is = placed i k less in
          let met = naming_met rows (length inodes) i k (let h = (has_rows i k less).within in let m = rows_shown.count in omega arith) less in
          subst (λ (m : FinMap nat_cmp Node). IsSome (get m row.inode)) nodes_are
          (subst IsSome (sym (node_is image (is_node image) row.inode is.within (chosen row is met))) refl));
      own = own image inodes rows rows_shown as_many once;
      room = λ i number. elim (cases_lt i layout.inodes) [
        | inl within ↦ (let same = bucket_is image inodes rows rows_shown as_many once i number within in let few = limits.buckets i number in omega arith)
        | inr past ↦
            (let none : rows_in_bucket (rows_of_inode rows i) number
            ≡ 0 =
            ap (λ (r : Roomy Row). rows_in_bucket r.items number)
            (get_or_past rows i (record { items = []; spare = 0 }) (let c = lists.count in omega arith)) in
            omega arith)
      ];
    }

    pub may_build : length contents ≡ length inodes → MayBuild layout inodes named contents rows
    may_build content_count = record {
      inode_count = sym rows_shown.count;
      named_count = naming_is.size;
      content_count = content_count;
      row_count = as_many;
      root = sym (rows_shown.kind 0 some) ∙ rules.root.1;
      sizes = λ i less. sizes_fit told layout records count inodes are fit tables first keep i (let m = rows_shown.count in omega arith);
      bytes = λ i less. bytes_long i (let m = rows_shown.count in omega arith);
      rows_may = rows_may;
    }

    tree_is : tree_of_entries layout (node_entries inodes named contents (length inodes)) (row_entries rows (length rows))
        ≡ image_tree image (making_when_read layout)
    tree_is =
        let same_rows : from_entries {R = key_cmp} (row_entries rows (length rows)) ≡ image_rows image =
        ap (λ (n : ℕ). from_entries {R = key_cmp} (row_entries rows n)) lists.count ∙ sym (rows_are image inodes rows rows_shown as_many once) in
        let same_nodes = sym nodes_are in
        λ j. record { rows = same_rows j; nodes = same_nodes j; first = layout.inodes; share = 0; made = Rattle.std.specs.Prelude.replicate layout.cores 0 }

    slots_kept : (i : ℕ) → i < layout.inodes → kept_slots (well.parts i) ≡ slots_at slots i
    slots_kept i within =
        ap (λ (inode : Inode). cond (eqb inode.kind 2) (map slots_of (directory_blocks (well.parts i))) []) (inode_is i within)
        ∙ elim (cases_Bool (eqb (inode_at inodes i).kind 2)) [
          | inl directory ↦ cond-true (eqb (inode_at inodes i).kind 2) _ _ directory
              ∙ ap (map slots_of)
              (blocks_are told layout records count inodes are fit tables keep contents well.parts well.hold i within (eqb-true _ _ directory))
              ∙ sym (cond-true (eqb (inode_at inodes i).kind 2) _ _ directory)
          | inr other ↦ cond-false (eqb (inode_at inodes i).kind 2) _ _ other ∙ sym (cond-false (eqb (inode_at inodes i).kind 2) _ _ other)
        ]
        ∙ sym (well.slots_are.each i within)

    kept_is : gathered_in_use inodes tables slots (length inodes) ≡ kept_in_use layout.inodes well.parts
    unfolding gathered_in_use kept_in_use
    kept_is =
        ap (gathered_in_use inodes tables slots) (sym rows_shown.count)
        ∙ filter_map_same (gathered_if_used inodes tables slots) (kept_if_used well.parts) 0 layout.inodes (λ i low high. here i (omega arith))
      where
        here : (i : ℕ) → i < layout.inodes → gathered_if_used inodes tables slots i ≡ kept_if_used well.parts i
        here i within =
            let inode = sym (inode_is i within) in
            let own_tables = sym (well.hold.kept i within) in
            let own_slots = sym (slots_kept i within) in
            λ j. cond (eqb (inode j).kind 0) None (Some (record { number = i; kept = record { inode = inode j; tables = own_tables j; slots = own_slots j } }))

    pub found_is : ((i : ℕ) → i < layout.inodes → IsReadWhole (well.parts i)) → (found : Found) →
        found.tree ≡ tree_of_entries layout (node_entries inodes named contents (length inodes)) (row_entries rows (length rows)) →
        found.parts.items ≡ gathered_in_use inodes tables slots (length inodes) → IsFoundIn told layout records found
    found_is whole found tree parts = record {
      parts = well.parts;
      read = well.hold.read;
      whole = whole;
      faultless = no_fault;
      tree = tree ∙ tree_is;
      sound =
          subst IsSoundTree (sym (tree ∙ tree_is))
          (record { sound = sound_shown image (making_when_read layout) rules; numbered = numbered image 0 layout.cores });
      limits = subst IsWithinLimits (sym (tree ∙ tree_is)) limits;
      kept = parts ∙ kept_is;
    }
