-- The volume of two directories stands.
use Rattle.std.specs.FinMap.{entries, entries-from_sorted, get}
use Rattle.std.specs.Option.{option_map_or}
use Rattle.std.proofs.Common.{◌≡◌, ◌∙◌, ◌+◌, ◌∷◌, ◌≤◌, ◌*◌, ◌/◌, ◌⊎◌, ◌≢◌, ◌↔◌, ap, cond, nat_eq, flat_map, [], append-nil, count_by, Option, List, ℕ, option_map, inl, Some, None, sym, inr, refl, bytes_eq, Bool, true, arith, false, length, subst, ne_eqb, is_some}
use Rattle.std.proofs.lemmas.Bool.{cases_eq}
use Rattle.sfs_base.specs.declared.numbers.Kind.TheVariants.{File, Directory}
use Rattle.sfs_base.proofs.BasicOptions.{some_same, none_some}
use Rattle.sfs_base.proofs.BasicTruth.{true_not_false}
use Rattle.sfs_image.specs.Part.{shown_slots, directory_blocks, shown_bytes, tabulate, file_byte, seen_of, pointer_at}
use Rattle.sfs_image.specs.Inode.{Inode}
use Rattle.sfs_image.specs.SlotBlock.{slots_of, slots_bytes}
use Rattle.sfs_image.specs.Slot.{kind_byte, Row}
use Rattle.sfs_image.proofs.SlotBlockLaws.{slots_of-slots_bytes}
use Rattle.tree_laws.specs.Order.{key_cmp, Key}
use Rattle.tree_laws.specs.Tree.{kind_of, links_of, holds_directory, count_of, Node, row_of}
use Rattle.tree_laws.proofs.RowFacts.{key_cases}
use Rattle.image_laws.specs.Slots.{looked_up, name_count, BLOCK_SLOTS}
use Rattle.image_laws.specs.Stands.{row_on, ShowsNode, BLOCK_BYTES, StandsForTree}
use Rattle.image_laws.specs.Image.{inodes_shown}
use Rattle.image_laws.specs.Renamed.{HasNumber}
use Rattle.image_laws.proofs.SlotRows.{bytes_apart}
use Rattle.cut_laws.specs.Closure.{none}
use Rattle.raise_laws.specs.Next.{IsMountedHistory}
use Rattle.merge_laws.specs.Worked.{TWO_CORES, BOTH_HISTORY}
use Rattle.volume_laws.specs.Volume.{IsVolumeStanding}
use Rattle.book_laws.specs.Walk.{BeginsWalk}
use Rattle.example_laws.specs.Image.{ROOT_SLOTS, TWO_NUMBERS, TWO_PARTS, TWELVE_BLOCKS, TWO_DIRECTORIES}
use Rattle.example_laws.proofs.Image.{ROOT_PART, root_is, root_blocks, root_slots, ONE_PART, one_is, one_blocks, inode_cases, root_others, one_has_none, free_has, free_kind, sound_parts}
use Rattle.example_laws.proofs.Tree.{ROWS, is_root_directory, is_one_directory, root_there, one_there, rows_are, no_bytes, row_is, two_sound, two_limits, two_alive, history_legal, same_at_cut, node_is}

-- what the parts show
root_shows : shown_slots ROOT_PART ≡ ROOT_SLOTS
root_shows =
    ap (λ (inode : Inode). cond (nat_eq inode.kind 2) (flat_map slots_of (directory_blocks ROOT_PART)) []) root_is
    ∙ ap (flat_map slots_of) root_blocks ∙ append-nil (slots_of (slots_bytes ROOT_SLOTS)) ∙ slots_of-slots_bytes ROOT_SLOTS root_slots

one_shows : shown_slots ONE_PART ≡ []
one_shows =
    ap (λ (inode : Inode). cond (nat_eq inode.kind 2) (flat_map slots_of (directory_blocks ONE_PART)) []) one_is
    ∙ ap (flat_map slots_of) one_blocks

root_bytes : shown_bytes ROOT_PART ≡ []
root_bytes = ap (λ (inode : Inode). cond (nat_eq inode.kind 1) (tabulate inode.size (file_byte ROOT_PART)) []) root_is

one_bytes : shown_bytes ONE_PART ≡ []
one_bytes = ap (λ (inode : Inode). cond (nat_eq inode.kind 1) (tabulate inode.size (file_byte ONE_PART)) []) one_is

-- the tree's rows
entries_are : entries TWO_CORES.rows ≡ ROWS
entries_are = entries-from_sorted key_cmp ROWS tt

root_links : links_of TWO_CORES 0 ≡ 3
root_links =
    ap (λ b. cond b (2 + count_by (holds_directory TWO_CORES 0) (entries TWO_CORES.rows)) (count_of TWO_CORES.rows 0)) is_root_directory
    ∙ ap (λ l. 2 + count_by (holds_directory TWO_CORES 0) l) entries_are
    ∙ ap (λ b. 2 + count_by (λ (row : Key × ℕ). b) ROWS) is_one_directory

one_links : links_of TWO_CORES 1 ≡ 2
one_links =
    ap (λ b. cond b (2 + count_by (holds_directory TWO_CORES 1) (entries TWO_CORES.rows)) (count_of TWO_CORES.rows 1)) is_one_directory
    ∙ ap (λ l. 2 + count_by (holds_directory TWO_CORES 1) l) entries_are

pub root_kind : kind_of TWO_CORES 0 ≡ Directory
root_kind = ap (λ (o : Option Node). option_map_or (λ n. n.kind) o File) root_there

pub one_kind : kind_of TWO_CORES 1 ≡ Directory
one_kind = ap (λ (o : Option Node). option_map_or (λ n. n.kind) o File) one_there

-- the root's slots have its one row
root_looked : (name : List ℕ) → looked_up name ROOT_SLOTS ≡ option_map (row_on TWO_NUMBERS TWO_CORES name) (row_of TWO_CORES 0 name)
root_looked name = elim (key_cases 0 0 name (97 ∷ [])) [
  | inl same ↦
      let found : row_of TWO_CORES 0 name ≡ Some 1 = rows_are 0 name ∙ ap (λ b. cond b (Some 1) None) same.0 in
      ap (λ n. looked_up n ROOT_SLOTS) same.2
      ∙ ap (λ kind. Some (record { inode = 1; kind = kind; name = 97 ∷ [] })) (sym one_kind)
      ∙ ap (λ n. Some (row_on TWO_NUMBERS TWO_CORES n 1)) (sym same.2)
      ∙ ap (option_map (row_on TWO_NUMBERS TWO_CORES name)) (sym found)
  | inr other ↦
      let none : row_of TWO_CORES 0 name ≡ None = rows_are 0 name ∙ ap (λ b. cond b (Some 1) None) other.0 in
      ap (λ b. cond b (Some (record { inode = 1; kind = Directory; name = 97 ∷ [] })) None) (bytes_apart name (97 ∷ []) (λ same. other.1 refl same))
      ∙ ap (option_map (row_on TWO_NUMBERS TWO_CORES name)) (sym none)
]

root_once : (name : List ℕ) → name_count name ROOT_SLOTS ≤ 1
root_once name = let le = by (bytes_eq name (97 ∷ [])) in omega (arith, le)
  where
    by : (b : Bool) → cond b 1 0 ≤ 1
    by true = omega arith
    by false = omega arith

one_looked : (name : List ℕ) → row_of TWO_CORES 1 name ≡ None
one_looked name = elim (key_cases 1 0 name (97 ∷ [])) [
  | inl same ↦ absurd (let e = same.1 in omega (arith, e))
  | inr other ↦ rows_are 1 name ∙ ap (λ b. cond b (Some 1) None) other.0
]

root_shown : ShowsNode TWO_NUMBERS TWO_CORES 0 (seen_of ROOT_PART)
root_shown = record {
  kind = ap (λ (inode : Inode). inode.kind) root_is ∙ sym (ap kind_byte root_kind);
  links = ap (λ (inode : Inode). inode.links) root_is ∙ sym root_links;
  size = ap (λ (inode : Inode). inode.size) root_is
      ∙ sym
      (ap (λ (inode : Inode). cond (nat_eq inode.kind 2) (BLOCK_BYTES * (length (shown_slots ROOT_PART) / BLOCK_SLOTS))
      (length (shown_bytes ROOT_PART))) root_is
      ∙ ap (λ (l : List (Option Row)). BLOCK_BYTES * (length l / BLOCK_SLOTS)) root_shows);
  bytes = root_bytes ∙ sym (no_bytes 0);
  slots = λ name. ap (looked_up name) root_shows ∙ root_looked name;
  once = λ name. subst (λ (l : List (Option Row)). name_count name l ≤ 1) (sym root_shows) (root_once name);
}

one_shown : ShowsNode TWO_NUMBERS TWO_CORES 1 (seen_of ONE_PART)
one_shown = record {
  kind = ap (λ (inode : Inode). inode.kind) one_is ∙ sym (ap kind_byte one_kind);
  links = ap (λ (inode : Inode). inode.links) one_is ∙ sym one_links;
  size = ap (λ (inode : Inode). inode.size) one_is
      ∙ sym
      (ap (λ (inode : Inode). cond (nat_eq inode.kind 2) (BLOCK_BYTES * (length (shown_slots ONE_PART) / BLOCK_SLOTS)) (length (shown_bytes ONE_PART))) one_is
      ∙ ap (λ (l : List (Option Row)). BLOCK_BYTES * (length l / BLOCK_SLOTS)) one_shows);
  bytes = one_bytes ∙ sym (no_bytes 1);
  slots = λ name. ap (looked_up name) one_shows ∙ ap (option_map (row_on TWO_NUMBERS TWO_CORES name)) (sym (one_looked name));
  once = λ name. subst (λ (l : List (Option Row)). name_count name l ≤ 1) (sym one_shows) (omega arith);
}

-- a numbered node is one of the two, and has its own number
pub numbered : (node i : ℕ) → TWO_NUMBERS node ≡ Some i → ((node ≡ 0) × (i ≡ 0)) ⊎ ((node ≡ 1) × (i ≡ 1))
numbered node i has = elim (cases_eq node 0) [
  | inl root ↦ inl (root, sym (some_same (ap TWO_NUMBERS (sym root) ∙ has)))
  | inr other ↦ elim (cases_eq node 1) [
    | inl one ↦ inr (one, sym (some_same (ap TWO_NUMBERS (sym one) ∙ has)))
    | inr neither ↦ absurd (none_some
        (sym (ap (λ b. cond b (Some 0) (cond (nat_eq node 1) (Some 1) None)) (ne_eqb node 0 other)
        ∙ ap (λ b. cond b (Some 1) (let o : Option ℕ = None in o)) (ne_eqb node 1 neither)) ∙ has))
  ]
]

-- a block that is there is the root's first
held_first : (i place : ℕ) → pointer_at (TWO_PARTS i) place ≢ 0 → (i ≡ 0) × (place ≡ 0)
held_first i place there = elim (inode_cases i) [
  | inl known ↦ elim known [
    | inl root ↦ (
      root,
      elim (cases_eq place 0) [
        | inl first ↦ first
        | inr other ↦ absurd (there (ap (λ j. pointer_at (TWO_PARTS j) place) root ∙ root_others place other))
      ],
    )
    | inr one ↦ absurd (there (ap (λ j. pointer_at (TWO_PARTS j) place) one ∙ one_has_none place))
  ]
  | inr free ↦ absurd (there (free_has i free.2 place))
]

pub stands_for_two : StandsForTree TWO_NUMBERS TWO_CORES (inodes_shown TWELVE_BLOCKS TWO_PARTS)
stands_for_two = record {
  root = refl;
  once = λ node twin i has other. elim (numbered node i has) [
    | inl root ↦ elim (numbered twin i other) [
      | inl again ↦ root.0 ∙ sym again.0
      | inr one ↦ absurd (let a = root.1 in let b = one.1 in omega (arith, a, b))
    ]
    | inr one ↦ elim (numbered twin i other) [
      | inl root ↦ absurd (let a = root.1 in let b = one.1 in omega (arith, a, b))
      | inr again ↦ one.0 ∙ sym again.0
    ]
  ];
  within = λ node i has. elim (numbered node i has) [
    | inl root ↦ let e = root.1 in omega (arith, e)
    | inr one ↦ let e = one.1 in omega (arith, e)
  ];
  named = λ directory name child row.
      subst (HasNumber TWO_NUMBERS) (sym (row_is directory child name row).2) (1, refl);
  each = λ node i has. elim (numbered node i has) [
    | inl root ↦ subst (λ n. ShowsNode TWO_NUMBERS TWO_CORES n (seen_of (TWO_PARTS i))) (sym root.0)
        (subst (λ j. ShowsNode TWO_NUMBERS TWO_CORES 0 (seen_of (TWO_PARTS j))) (sym root.1) root_shown)
    | inr one ↦ subst (λ n. ShowsNode TWO_NUMBERS TWO_CORES n (seen_of (TWO_PARTS i))) (sym one.0)
        (subst (λ j. ShowsNode TWO_NUMBERS TWO_CORES 1 (seen_of (TWO_PARTS j))) (sym one.1) one_shown)
  ];
  rest = λ i low. elim (inode_cases i) [
    | inl known ↦ elim known [
      | inl root ↦ inl (0, ap Some (sym root))
      | inr one ↦ inl (1, ap Some (sym one))
    ]
    | inr free ↦ inr (record { kind = free_kind i free.2; blocks = λ place within. free_has i free.2 place })
  ];
  apart = λ i place j other low inside within there held same.
      let mine = held_first i place held in
      let theirs = held_first j other (λ none. held (same ∙ none)) in
      (mine.0 ∙ sym theirs.0, mine.1 ∙ sym theirs.1);
}

pub mounted : IsMountedHistory TWO_CORES BOTH_HISTORY
mounted = record { sound = two_sound; limits = two_limits; alive = two_alive; legal = history_legal }

-- the nodes of the tree are those with a number
pub numbers_nodes : (node : ℕ) → (is_some (get TWO_CORES.nodes node) ≡ true) ↔ HasNumber TWO_NUMBERS node
numbers_nodes node = (
  λ there. elim (node_is node) [
    | inl known ↦ elim known [ inl root ↦ (0, ap TWO_NUMBERS root) | inr one ↦ (1, ap TWO_NUMBERS one) ]
    | inr neither ↦ absurd (true_not_false (sym there ∙ ap (λ (o : Option Node). is_some o) neither.2))
  ],
  λ has. elim (numbered node has.0 has.1) [
    | inl root ↦ ap (λ n. is_some (get TWO_CORES.nodes n)) root.0 ∙ ap (λ (o : Option Node). is_some o) root_there
    | inr one ↦ ap (λ n. is_some (get TWO_CORES.nodes n)) one.0 ∙ ap (λ (o : Option Node). is_some o) one_there
  ],
)

pub volume_stands : IsVolumeStanding TWO_DIRECTORIES
volume_stands = record {
  between = record {
    history_is = mounted;
    flushed = none;
    numbers = record { root = refl; each = numbers_nodes };
    sound = sound_parts;
    stands = subst (λ tree. StandsForTree TWO_NUMBERS tree (inodes_shown TWELVE_BLOCKS TWO_PARTS)) (sym same_at_cut) stands_for_two;
  };
  among = record { low = λ flush one. absurd one; live = λ flush one. absurd one };
}

pub walk_begins : BeginsWalk TWO_DIRECTORIES
walk_begins = record { stands = volume_stands; cut = refl; inodes = refl }
