-- The volume of two files stands.
use Rattle.std.specs.FinMap.Entries as list
use Rattle.std.specs.FinMap.{entries, get}
use Rattle.std.specs.Option.{option_map_or}
use Rattle.std.proofs.Common.{◌≡◌, ◌∙◌, ◌+◌, ◌∷◌, ◌≤◌, ◌*◌, ◌/◌, ◌⊎◌, ◌≢◌, ◌↔◌, ap, cond, nat_eq, flat_map, [], append-nil, count_by, Option, List, ℕ, option_map, inl, Some, None, sym, inr, refl, bytes_eq, Bool, true, arith, false, length, subst, is_some}
use Rattle.std.proofs.lemmas.Bool.{cases_eq}
use Rattle.sfs_base.specs.declared.numbers.Kind.TheVariants.{File, Directory}
use Rattle.sfs_base.proofs.BasicOptions.{some_same, none_some}
use Rattle.sfs_base.proofs.BasicTruth.{true_not_false}
use Rattle.sfs_image.specs.Part.{shown_slots, directory_blocks, shown_bytes, tabulate, file_byte, seen_of, pointer_at}
use Rattle.sfs_image.specs.Inode.{Inode}
use Rattle.sfs_image.specs.SlotBlock.{slots_of, slots_bytes}
use Rattle.sfs_image.specs.Slot.{kind_byte, Row}
use Rattle.sfs_image.proofs.SlotBlockLaws.{slots_of-slots_bytes}
use Rattle.tree_laws.specs.Order.{key_cmp}
use Rattle.tree_laws.specs.Tree.{kind_of, links_of, holds_directory, count_of, names_it, Node, row_of, is_directory}
use Rattle.tree_laws.proofs.RowFacts.{key_cases}
use Rattle.image_laws.specs.Slots.{looked_up, name_count, BLOCK_SLOTS}
use Rattle.image_laws.specs.Stands.{row_on, ShowsNode, BLOCK_BYTES, StandsForTree}
use Rattle.image_laws.specs.Image.{inodes_shown}
use Rattle.image_laws.specs.Renamed.{HasNumber}
use Rattle.image_laws.proofs.SlotRows.{bytes_apart}
use Rattle.cut_laws.specs.Closure.{none}
use Rattle.raise_laws.specs.Next.{IsMountedHistory}
use Rattle.volume_laws.specs.Volume.{IsVolumeStanding}
use Rattle.book_laws.specs.Walk.{BeginsWalk}
use Rattle.example_grants.specs.Calls.{FIRST_TREE, WRITES_AND_FSYNCS}
use Rattle.example_grants.specs.Image.{TWO_ROWS, FIRST_NUMBERS, FIRST_PARTS, FIFTEEN_BLOCKS, TWO_FILES}
use Rattle.example_grants.proofs.Image.{ROOT_PART, root_is, root_blocks, root_slots, FILE_PART, file_is, inode_cases, free_record, root_others, file_has_none, free_has, free_kind, sound_parts}
use Rattle.example_grants.proofs.Tree.{ROWS, first_three, of_others, root_directory, own_no_directory, other_no_directory, node_get, none_there, rows_are, entries_are, no_bytes, row_child, first_sound, first_limits, all_alive}
use Rattle.example_grants.proofs.Calls.{history_legal, same_at_cut}

-- what the parts show
root_shows : shown_slots ROOT_PART ≡ TWO_ROWS
root_shows =
    ap (λ (inode : Inode). cond (nat_eq inode.kind 2) (flat_map slots_of (directory_blocks ROOT_PART)) []) root_is
    ∙ ap (flat_map slots_of) root_blocks ∙ append-nil (slots_of (slots_bytes TWO_ROWS)) ∙ slots_of-slots_bytes TWO_ROWS root_slots

file_shows : shown_slots FILE_PART ≡ []
file_shows = ap (λ (inode : Inode). cond (nat_eq inode.kind 2) (flat_map slots_of (directory_blocks FILE_PART)) []) file_is

root_bytes : shown_bytes ROOT_PART ≡ []
root_bytes = ap (λ (inode : Inode). cond (nat_eq inode.kind 1) (tabulate inode.size (file_byte ROOT_PART)) []) root_is

file_bytes : shown_bytes FILE_PART ≡ []
unfolding tabulate
file_bytes = ap (λ (inode : Inode). cond (nat_eq inode.kind 1) (tabulate inode.size (file_byte FILE_PART)) []) file_is

-- the links of the nodes
root_links : links_of FIRST_TREE 0 ≡ 2
root_links =
    ap (λ b. cond b (2 + count_by (holds_directory FIRST_TREE 0) (entries FIRST_TREE.rows)) (count_of FIRST_TREE.rows 0)) (root_directory [] [])
    ∙ ap (λ l. 2 + count_by (holds_directory FIRST_TREE 0) l) (entries_are [] [])
    ∙ ap (λ b. 2 + count_by (λ (b : Bool). b) (b ∷ is_directory FIRST_TREE 2 ∷ [])) (own_no_directory [] [])
    ∙ ap (λ b. 2 + count_by (λ (b : Bool). b) (false ∷ b ∷ [])) (other_no_directory [] [])

file_links : (node : ℕ) → is_directory FIRST_TREE node ≡ false → links_of FIRST_TREE node ≡ count_by (names_it node) ROWS
file_links node no_directory =
    ap (λ b. cond b (2 + count_by (holds_directory FIRST_TREE node) (entries FIRST_TREE.rows)) (count_of FIRST_TREE.rows node)) no_directory
    ∙ ap (count_by (names_it node)) (entries_are [] [])

-- their kinds
pub root_kind : kind_of FIRST_TREE 0 ≡ Directory
root_kind = ap (λ (o : Option Node). option_map_or (λ n. n.kind) o File) (node_get [] [] 0)

pub own_kind : kind_of FIRST_TREE 1 ≡ File
own_kind = ap (λ (o : Option Node). option_map_or (λ n. n.kind) o File) (node_get [] [] 1)

pub other_kind : kind_of FIRST_TREE 2 ≡ File
other_kind = ap (λ (o : Option Node). option_map_or (λ n. n.kind) o File) (node_get [] [] 2)

-- the slots of a file are the root's rows of this name
row_named : List ℕ → ℕ → Row
row_named name inode = record { inode = inode; kind = File; name = name }

-- the root's slots have its two rows
root_looked : (name : List ℕ) → looked_up name TWO_ROWS ≡ option_map (row_on FIRST_NUMBERS FIRST_TREE name) (row_of FIRST_TREE 0 name)
unfolding row_named
root_looked name = elim (key_cases 0 0 name (97 ∷ [])) [
  | inl same ↦
      let found : row_of FIRST_TREE 0 name ≡ Some 1 =
      rows_are [] [] 0 name ∙ ap (λ b. cond b (Some 1) (list.find key_cmp (0, name) (((0, 98 ∷ []), 2) ∷ []))) same.0 in
      ap (λ n. looked_up n TWO_ROWS) same.2
      ∙ ap (λ kind. Some (record { inode = 1; kind = kind; name = 97 ∷ [] })) (sym own_kind)
      ∙ ap (λ n. Some (row_on FIRST_NUMBERS FIRST_TREE n 1)) (sym same.2)
      ∙ ap (option_map (row_on FIRST_NUMBERS FIRST_TREE name)) (sym found)
  | inr first ↦ elim (key_cases 0 0 name (98 ∷ [])) [
    | inl same ↦
        let found : row_of FIRST_TREE 0 name ≡ Some 2 =
        rows_are [] [] 0 name ∙ ap (λ b. cond b (Some 1) (list.find key_cmp (0, name) (((0, 98 ∷ []), 2) ∷ []))) first.0
        ∙ ap (λ b. cond b (Some 2) (let o : Option ℕ = None in o)) same.0 in
        ap (λ n. looked_up n TWO_ROWS) same.2
        ∙ ap (λ kind. Some (record { inode = 2; kind = kind; name = 98 ∷ [] })) (sym other_kind)
        ∙ ap (λ n. Some (row_on FIRST_NUMBERS FIRST_TREE n 2)) (sym same.2)
        ∙ ap (option_map (row_on FIRST_NUMBERS FIRST_TREE name)) (sym found)
    | inr last ↦
        let none : row_of FIRST_TREE 0 name ≡ None =
        rows_are [] [] 0 name ∙ ap (λ b. cond b (Some 1) (list.find key_cmp (0, name) (((0, 98 ∷ []), 2) ∷ []))) first.0
        ∙ ap (λ b. cond b (Some 2) (let o : Option ℕ = None in o)) last.0 in
        ap (λ b. cond b (Some (row_named (97 ∷ []) 1)) (cond (bytes_eq name (98 ∷ [])) (Some (row_named (98 ∷ []) 2)) None))
        (bytes_apart name (97 ∷ []) (λ same. first.1 refl same))
        ∙ ap (λ b. cond b (Some (row_named (98 ∷ []) 2)) (let o : Option Row = None in o)) (bytes_apart name (98 ∷ []) (λ same. last.1 refl same))
        ∙ ap (option_map (row_on FIRST_NUMBERS FIRST_TREE name)) (sym none)
  ]
]

root_once : (name : List ℕ) → name_count name TWO_ROWS ≤ 1
root_once name = elim (key_cases 0 0 name (97 ∷ [])) [
  | inl same ↦ subst (λ n. name_count n TWO_ROWS ≤ 1) (sym same.2) (omega arith)
  | inr first ↦
      let count = ap (λ b. cond b 1 0 + cond (bytes_eq name (98 ∷ [])) 1 0) (bytes_apart name (97 ∷ []) (λ same. first.1 refl same)) in
      let le = by (bytes_eq name (98 ∷ [])) in omega (arith, count, le)
]
  where
    by : (b : Bool) → cond b 1 0 ≤ 1
    by true = omega arith
    by false = omega arith

-- in a file there is no row
no_rows : (directory : ℕ) (name : List ℕ) → directory ≢ 0 → row_of FIRST_TREE directory name ≡ None
no_rows directory name no_root = elim (key_cases directory 0 name (97 ∷ [])) [
  | inl same ↦ absurd (no_root same.1)
  | inr first ↦ elim (key_cases directory 0 name (98 ∷ [])) [
    | inl same ↦ absurd (no_root same.1)
    | inr last ↦ rows_are [] [] directory name
        ∙ ap (λ b. cond b (Some 1) (list.find key_cmp (directory, name) (((0, 98 ∷ []), 2) ∷ []))) first.0
        ∙ ap (λ b. cond b (Some 2) (let o : Option ℕ = None in o)) last.0
  ]
]

root_shown : ShowsNode FIRST_NUMBERS FIRST_TREE 0 (seen_of ROOT_PART)
root_shown = record {
  kind = ap (λ (inode : Inode). inode.kind) root_is ∙ sym (ap kind_byte root_kind);
  links = ap (λ (inode : Inode). inode.links) root_is ∙ sym root_links;
  size = ap (λ (inode : Inode). inode.size) root_is
      ∙ sym
      (ap (λ (inode : Inode). cond (nat_eq inode.kind 2) (BLOCK_BYTES * (length (shown_slots ROOT_PART) / BLOCK_SLOTS))
      (length (shown_bytes ROOT_PART))) root_is
      ∙ ap (λ (l : List (Option Row)). BLOCK_BYTES * (length l / BLOCK_SLOTS)) root_shows);
  bytes = root_bytes ∙ sym (no_bytes 0);
  slots = λ name. ap (looked_up name) root_shows ∙ root_looked name;
  once = λ name. subst (λ (l : List (Option Row)). name_count name l ≤ 1) (sym root_shows) (root_once name);
}

file_shown : (node : ℕ) → node ≢ 0 → kind_of FIRST_TREE node ≡ File → links_of FIRST_TREE node ≡ 1
    → ShowsNode FIRST_NUMBERS FIRST_TREE node (seen_of FILE_PART)
file_shown node no_root kind links = record {
  kind = ap (λ (inode : Inode). inode.kind) file_is ∙ sym (ap kind_byte kind);
  links = ap (λ (inode : Inode). inode.links) file_is ∙ sym links;
  size = ap (λ (inode : Inode). inode.size) file_is
      ∙ sym
      (ap (λ (inode : Inode). cond (nat_eq inode.kind 2) (BLOCK_BYTES * (length (shown_slots FILE_PART) / BLOCK_SLOTS))
      (length (shown_bytes FILE_PART))) file_is
      ∙ ap (λ (l : List ℕ). length l) file_bytes);
  bytes = file_bytes ∙ sym (no_bytes node);
  slots = λ name. ap (looked_up name) file_shows ∙ ap (option_map (row_on FIRST_NUMBERS FIRST_TREE name)) (sym (no_rows node name no_root));
  once = λ name. subst (λ (l : List (Option Row)). name_count name l ≤ 1) (sym file_shows) (omega arith);
}

own_shown : ShowsNode FIRST_NUMBERS FIRST_TREE 1 (seen_of FILE_PART)
own_shown = file_shown 1 (λ e. omega (arith, e)) own_kind (file_links 1 (own_no_directory [] []))

other_shown : ShowsNode FIRST_NUMBERS FIRST_TREE 2 (seen_of FILE_PART)
other_shown = file_shown 2 (λ e. omega (arith, e)) other_kind (file_links 2 (other_no_directory [] []))

-- a numbered node is one of the three, and has its own number
pub numbered : (node i : ℕ) → FIRST_NUMBERS node ≡ Some i → (node ≡ i) × ((node ≡ 0) ⊎ ((node ≡ 1) ⊎ (node ≡ 2)))
numbered node i has = elim (first_three node) [
  | inl known ↦ (own known, known)
  | inr apart ↦ absurd (none_some (sym (of_others node (Some 0) (Some 1) (Some 2) (let o : Option ℕ = None in o) apart) ∙ has))
]
  where
    own : (node ≡ 0) ⊎ ((node ≡ 1) ⊎ (node ≡ 2)) → node ≡ i
    own known = elim known [
      | inl root ↦ root ∙ some_same (ap FIRST_NUMBERS (sym root) ∙ has)
      | inr file ↦ elim file [
        | inl first ↦ first ∙ some_same (ap FIRST_NUMBERS (sym first) ∙ has)
        | inr second ↦ second ∙ some_same (ap FIRST_NUMBERS (sym second) ∙ has)
      ]
    ]

-- each of the three has one
pub number_of : (node : ℕ) → (node ≡ 0) ⊎ ((node ≡ 1) ⊎ (node ≡ 2)) → FIRST_NUMBERS node ≡ Some node
number_of node known = elim known [
  | inl root ↦ subst (λ n. FIRST_NUMBERS n ≡ Some n) (sym root) refl
  | inr file ↦ elim file [
    | inl first ↦ subst (λ n. FIRST_NUMBERS n ≡ Some n) (sym first) refl
    | inr second ↦ subst (λ n. FIRST_NUMBERS n ≡ Some n) (sym second) refl
  ]
]

-- a block that is there is the root's first
held_first : (i place : ℕ) → pointer_at (FIRST_PARTS i) place ≢ 0 → (i ≡ 0) × (place ≡ 0)
held_first i place there = elim (inode_cases i) [
  | inl known ↦ elim known [
    | inl root ↦ (
      root,
      elim (cases_eq place 0) [
        | inl first ↦ first
        | inr other ↦ absurd (there (ap (λ j. pointer_at (FIRST_PARTS j) place) root ∙ root_others place other))
      ],
    )
    | inr file ↦ absurd (there (ap (λ part. pointer_at part place) file ∙ file_has_none place))
  ]
  | inr free ↦ absurd (there (free_has i free.3 place))
]

pub stands_for_files : StandsForTree FIRST_NUMBERS FIRST_TREE (inodes_shown FIFTEEN_BLOCKS FIRST_PARTS)
stands_for_files = record {
  root = refl;
  once = λ node twin i has other. (numbered node i has).0 ∙ sym (numbered twin i other).0;
  within = λ node i has. let own = numbered node i has in elim own.1 [
    | inl root ↦ let same = own.0 in omega (arith, root, same)
    | inr file ↦ let same = own.0 in elim file [ inl first ↦ omega (arith, first, same) | inr second ↦ omega (arith, second, same) ]
  ];
  named = λ directory name child row. elim (row_child [] [] directory child name row) [
    | inl first ↦ (1, ap FIRST_NUMBERS first)
    | inr second ↦ (2, ap FIRST_NUMBERS second)
  ];
  each = λ node i has. let own = numbered node i has in subst (λ j. ShowsNode FIRST_NUMBERS FIRST_TREE node (seen_of (FIRST_PARTS j))) own.0 (shown node own.1);
  rest = λ i low. elim (first_three i) [
    | inl known ↦ inl (i, number_of i known)
    | inr apart ↦ inr (record { kind = free_kind i (free_record i apart); blocks = λ place within. free_has i (free_record i apart) place })
  ];
  apart = λ i place j other low inside within there held same.
      let mine = held_first i place held in
      let theirs = held_first j other (λ none. held (same ∙ none)) in
      (mine.0 ∙ sym theirs.0, mine.1 ∙ sym theirs.1);
}
  where
    shown : (node : ℕ) → (node ≡ 0) ⊎ ((node ≡ 1) ⊎ (node ≡ 2)) → ShowsNode FIRST_NUMBERS FIRST_TREE node (seen_of (FIRST_PARTS node))
    shown node known = elim known [
      | inl root ↦ subst (λ n. ShowsNode FIRST_NUMBERS FIRST_TREE n (seen_of (FIRST_PARTS n))) (sym root) root_shown
      | inr file ↦ elim file [
        | inl first ↦ subst (λ n. ShowsNode FIRST_NUMBERS FIRST_TREE n (seen_of (FIRST_PARTS n))) (sym first) own_shown
        | inr second ↦ subst (λ n. ShowsNode FIRST_NUMBERS FIRST_TREE n (seen_of (FIRST_PARTS n))) (sym second) other_shown
      ]
    ]

pub mounted : IsMountedHistory FIRST_TREE WRITES_AND_FSYNCS
mounted = record { sound = first_sound; limits = first_limits; alive = all_alive; legal = history_legal }

-- the nodes of the tree are those with a number
pub numbers_nodes : (node : ℕ) → (is_some (get FIRST_TREE.nodes node) ≡ true) ↔ HasNumber FIRST_NUMBERS node
numbers_nodes node = (
  λ there. elim (first_three node) [
    | inl known ↦ (node, number_of node known)
    | inr apart ↦ absurd (true_not_false (sym there ∙ ap (λ (o : Option Node). is_some o) (none_there [] [] node apart)))
  ],
  λ has. elim (numbered node has.0 has.1).1 [
    | inl root ↦ ap (λ n. is_some (get FIRST_TREE.nodes n)) root ∙ ap (λ (o : Option Node). is_some o) (node_get [] [] 0)
    | inr file ↦ elim file [
      | inl first ↦ ap (λ n. is_some (get FIRST_TREE.nodes n)) first ∙ ap (λ (o : Option Node). is_some o) (node_get [] [] 1)
      | inr second ↦ ap (λ n. is_some (get FIRST_TREE.nodes n)) second ∙ ap (λ (o : Option Node). is_some o) (node_get [] [] 2)
    ]
  ],
)

pub volume_stands : IsVolumeStanding TWO_FILES
volume_stands = record {
  between = record {
    history_is = mounted;
    flushed = none;
    numbers = record { root = refl; each = numbers_nodes };
    sound = sound_parts;
    stands = subst (λ tree. StandsForTree FIRST_NUMBERS tree (inodes_shown FIFTEEN_BLOCKS FIRST_PARTS)) (sym same_at_cut) stands_for_files;
  };
  among = record { low = λ flush one. absurd one; live = λ flush one. absurd one };
}

pub walk_begins : BeginsWalk TWO_FILES
walk_begins = record { stands = volume_stands; cut = refl; inodes = refl }
