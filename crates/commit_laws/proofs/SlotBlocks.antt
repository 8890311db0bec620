-- The slots of one block among all slots of a directory.
use Rattle.std.proofs.Common.{◌≡◌, ℕ, zero, suc, ◌+◌, ◌*◌, ◌<◌, List, [], ◌∷◌, ◌++◌, length, get_or, map, drop, replicate, Option, None, option_map, refl, sym, ap, ◌∙◌, arith}
use Rattle.std.proofs.lemmas.List.{get_or-take, get_or-drop, get_or_past, get_or-append-add, get_or_append_left, ext_get_or, length-append, length-replicate, length-take-le, length-map}
use Rattle.sfs_base.proofs.BasicNumbers.{zero_plus}
use Rattle.sfs_image.specs.Slot.{Row}
use Rattle.image_laws.specs.Commit.{filled, slots_after}
use Rattle.image_laws.specs.Need.{slots_in_block}
use Rattle.image_laws.specs.Renamed.{Numbering}
use Rattle.tree_laws.specs.Tree.{TreeState}
use Rattle.absorb.specs.declared.nets.NetRow.{NetRow}
use Rattle.disk_change.specs.Directory.{slot_moved, rows_new, empty_block, slot_blocks_after}
use Rattle.disk_change.specs.Numbered.{row_numbered, slot_numbered, block_numbered}
use Rattle.commit_laws.specs.KnownKinds.{KnowsChildren, NumbersChildren}
use Rattle.commit_laws.specs.SlotsKept.{slots_joined}
use Rattle.commit_laws.proofs.JoinedSlots.{Slots, AreLong}
use Rattle.commit_laws.proofs.SlotsKept.{all_are, joined_after, long_after}

-- empty slots behind are as good as none
get_padded : (slots : Slots) (j k : ℕ) → get_or (slots ++ replicate j None) k None ≡ get_or slots k None
get_padded [] zero k = refl
get_padded [] (suc j) zero = refl
get_padded [] (suc j) (suc k) = get_padded [] j k ∙ get_or_past [] k None (omega arith)
get_padded (slot ∷ slots) j zero = refl
get_padded (slot ∷ slots) j (suc k) = get_padded slots j k

get_mapped : (f : Row → Row) (slots : Slots) (k : ℕ) → get_or (map (option_map f) slots) k None ≡ option_map f (get_or slots k None)
get_mapped f [] k = refl
get_mapped f (slot ∷ slots) zero = refl
get_mapped f (slot ∷ slots) (suc k) = get_mapped f slots k

-- each slot of a block, and that there are 15
pub get_in_block : (n : ℕ) (slots : Slots) (k : ℕ) → k < 15 → get_or (slots_in_block n slots) k None ≡ get_or slots (15 * n + k) None
get_in_block n slots k within =
    get_or-take 15 (drop (15 * n) slots ++ replicate 15 None) k None within ∙ get_padded (drop (15 * n) slots) 15 k ∙ get_or-drop (15 * n) slots k None

pub length_in_block : (n : ℕ) (slots : Slots) → length (slots_in_block n slots) ≡ 15
length_in_block n slots =
    length-take-le 15 (drop (15 * n) slots ++ replicate 15 None)
    (omega (arith, length-append (drop (15 * n) slots) (replicate 15 None), length-replicate {A = Option Row} 15 None))

-- slots that are the same at each place are so in each block
pub in_block_alike : (n : ℕ) (slots others : Slots) → ((k : ℕ) → get_or slots k None ≡ get_or others k None) → slots_in_block n slots ≡ slots_in_block n others
in_block_alike n slots others alike =
    ext_get_or None (slots_in_block n slots) (slots_in_block n others) (length_in_block n slots ∙ sym (length_in_block n others))
    (λ k within. let low : k < 15 = omega (arith, within, length_in_block n slots) in
    get_in_block n slots k low ∙ alike (15 * n + k) ∙ sym (get_in_block n others k low))

pub in_block_mapped : (f : Row → Row) (n : ℕ) (slots : Slots) → slots_in_block n (map (option_map f) slots) ≡ map (option_map f) (slots_in_block n slots)
in_block_mapped f n slots =
    ext_get_or None (slots_in_block n (map (option_map f) slots)) (map (option_map f) (slots_in_block n slots))
    (length_in_block n (map (option_map f) slots) ∙ sym (length-map (slots_in_block n slots) (option_map f) ∙ length_in_block n slots))
    (λ k within. let low : k < 15 = omega (arith, within, length_in_block n (map (option_map f) slots)) in
    get_in_block n (map (option_map f) slots) k low ∙ get_mapped f slots (15 * n + k) ∙ ap (option_map f) (sym (get_in_block n slots k low))
    ∙ sym (get_mapped f (slots_in_block n slots) k))

long_at : (blocks : List Slots) → AreLong blocks → (n : ℕ) → length (get_or blocks n empty_block) ≡ 15
unfolding AreLong
long_at [] long n = refl
long_at (block ∷ blocks) long zero = long.0
long_at (block ∷ blocks) long (suc n) = long_at blocks long.1 n

empty_at : (k : ℕ) → get_or empty_block k None ≡ None
empty_at k = get_padded [] 15 k ∙ get_or_past [] k None (omega arith)

get_joined : (blocks : List Slots) → AreLong blocks → (n k : ℕ) → k < 15
    → get_or (slots_joined blocks) (15 * n + k) None ≡ get_or (get_or blocks n empty_block) k None
unfolding AreLong
get_joined [] long n k low =
    get_or_past [] (15 * n + k) None (omega arith) ∙ sym (ap (λ block. get_or block k None) (get_or_past [] n empty_block (omega arith)) ∙ empty_at k)
get_joined (block ∷ blocks) long zero k low =
    ap (λ i. get_or (block ++ slots_joined blocks) i None) (zero_plus k)
    ∙ get_or_append_left block (slots_joined blocks) None k (let first = long.0 in omega arith)
get_joined (block ∷ blocks) long (suc n) k low =
    ap (λ i. get_or (block ++ slots_joined blocks) i None) (let first = long.0 in next first) ∙ get_or-append-add block (slots_joined blocks) (15 * n + k) None
    ∙ get_joined blocks long.1 n k low
  where
    next : length block ≡ 15 → 15 * suc n + k ≡ length block + (15 * n + k)
    next first = omega arith

-- a block among those of a directory
pub in_block_joined : (blocks : List Slots) → AreLong blocks → (n : ℕ) → slots_in_block n (slots_joined blocks) ≡ get_or blocks n empty_block
in_block_joined blocks long n =
    ext_get_or None (slots_in_block n (slots_joined blocks)) (get_or blocks n empty_block)
    (length_in_block n (slots_joined blocks) ∙ sym (long_at blocks long n))
    (λ k within. let low : k < 15 = omega (arith, within, length_in_block n (slots_joined blocks)) in
    get_in_block n (slots_joined blocks) k low ∙ get_joined blocks long n k low)

-- the block of a place after a net, with the numbers of its children
pub block_after : (numbers : ℕ → Option ℕ) (num : Numbering) (tree : TreeState) (directories : List ℕ) (net : List NetRow) (blocks : List Slots)
    → KnowsChildren directories tree net → NumbersChildren numbers num net → AreLong blocks
    → (n : ℕ)
    → slots_in_block n (slots_after num tree net (slots_joined blocks))
    ≡ block_numbered numbers net (get_or (slot_blocks_after directories net blocks) n empty_block)
block_after numbers num tree directories net blocks known agree long n =
    let moved : Slots = filled (map (slot_moved directories net) (slots_joined blocks)) (rows_new directories net) in
    let after : List Slots = slot_blocks_after directories net blocks in
    let padding = joined_after directories net blocks in
    ap (slots_in_block n) (sym (all_are numbers num tree directories net known agree (slots_joined blocks)))
    ∙ in_block_mapped (row_numbered numbers net) n moved
    ∙ ap (map (slot_numbered numbers net))
    (in_block_alike n moved (slots_joined after) (λ k. sym (get_padded moved padding.0 k) ∙ ap (λ slots. get_or slots k None) (sym padding.1))
    ∙ in_block_joined after (long_after directories net blocks long) n)
