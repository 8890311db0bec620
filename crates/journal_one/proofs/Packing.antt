-- How numbers and records come to stand one behind another.
use Rattle.std.proofs.Common.{◌≡◌, ℕ, zero, suc, ◌+◌, ◌<◌, ◌≤◌, All, List, [], ◌∷◌, ◌++◌, map, length, take, get_or, refl, sym, ◌∙◌, ap, subst, arith, append-nil, inl, inr}
use Rattle.std.specs.List.{flat_map}
use Rattle.std.specs.List.Sorted.{IsStrictlyIncreasing}
use Rattle.std.proofs.lemmas.List.{take_more, take_all, map-append, length-map, get_or-map}
use Rattle.std.proofs.lemmas.Bool.{cases_lt}
use Rattle.std.proofs.lemmas.List.Elements.{All-append, All-nil, All-from_get_or}
use Rattle.std.proofs.lemmas.Grind.{flat_map-append}
use Rattle.sfs_image.specs.Bytes.{u32_bytes, u32s_bytes}
use Rattle.sfs_image.specs.ImageOf.{FreshBlock}
use Rattle.sfs_image.specs.Journal.{Entry}
use Rattle.fmt_journal.specs.declared.tx.TxBlock.{TxBlock}
use Rattle.fmt_journal.specs.declared.tx.TxRecord.{TxRecord}
use Rattle.journal_one.specs.Job.{no_entry, no_block}
use Rattle.journal_one.specs.Packed.{record_entry, block_of, inode_of_entry, bytes_of_entry, IsPacked}

-- an entry has its 512 bytes
abbrev pub IsLong : Entry → Type 0
IsLong entry = length entry.bytes ≡ 512

-- The numbers and the bytes of these records stand one behind another, and each record has its bytes.
pub record Packing (records : List TxRecord) (numbers bytes : List ℕ) : Type 0 where
  pub long : All IsLong (map record_entry records)
  pub numbered : numbers ≡ u32s_bytes (map inode_of_entry (map record_entry records))
  pub laid : bytes ≡ flat_map bytes_of_entry (map record_entry records)

pub packing_none : Packing [] [] []
packing_none = record { long = All-nil IsLong; numbered = refl; laid = refl }

one_long : (entry : Entry) → IsLong entry → All IsLong (entry ∷ [])
one_long entry long zero d lt = long
one_long entry long (suc k) d lt = absurd (omega arith)

pub packing_more : (records : List TxRecord) (one : TxRecord) (numbers bytes : List ℕ) → length one.bytes ≡ 512 → Packing records numbers bytes
    → Packing (records ++ one ∷ []) (numbers ++ u32_bytes one.inode) (bytes ++ one.bytes)
packing_more records one numbers bytes long before =
    let more : map record_entry (records ++ one ∷ []) ≡ map record_entry records ++ record_entry one ∷ [] = map-append record_entry records (one ∷ []) in
    let inodes : map inode_of_entry (map record_entry (records ++ one ∷ [])) ≡ map inode_of_entry (map record_entry records) ++ one.inode ∷ [] =
    ap (map inode_of_entry) more ∙ map-append inode_of_entry (map record_entry records) (record_entry one ∷ []) in
    record {
      long =
          subst (All IsLong) (sym more) (All-append IsLong (map record_entry records) (record_entry one ∷ []) before.long (one_long (record_entry one) long));
      numbered =
          ap (λ (l : List ℕ). l ++ u32_bytes one.inode) before.numbered
          ∙ sym
          (ap u32s_bytes inodes ∙ flat_map-append u32_bytes (map inode_of_entry (map record_entry records)) (one.inode ∷ [])
          ∙ ap (λ (l : List ℕ). u32s_bytes (map inode_of_entry (map record_entry records)) ++ l) (append-nil (u32_bytes one.inode)));
      laid =
          ap (λ (l : List ℕ). l ++ one.bytes) before.laid
          ∙ sym
          (ap (flat_map bytes_of_entry) more ∙ flat_map-append bytes_of_entry (map record_entry records) (record_entry one ∷ [])
          ∙ ap (λ (l : List ℕ). flat_map bytes_of_entry (map record_entry records) ++ l) (append-nil one.bytes));
    }

map_inodes : (records : List TxRecord) → map inode_of_entry (map record_entry records) ≡ map (λ (one : TxRecord). one.inode) records
map_inodes [] = refl
map_inodes (one ∷ records) = ap (λ (l : List ℕ). one.inode ∷ l) (map_inodes records)

-- no record, where there is none
abbrev pub no_record : TxRecord
no_record = record { inode = 0; bytes = [] }

-- no block, where there is none
abbrev pub no_tx_block : TxBlock
no_tx_block = record { block = 0; bytes = [] }

-- a loop's turn
pub packing_next : (items : List TxRecord) (i : ℕ) (numbers bytes new_numbers new_bytes : List ℕ) → i < length items
    → length (get_or items i no_record).bytes ≡ 512
    → new_numbers ≡ numbers ++ u32_bytes (get_or items i no_record).inode → new_bytes ≡ bytes ++ (get_or items i no_record).bytes
    → Packing (take i items) numbers bytes → Packing (take (i + 1) items) new_numbers new_bytes
packing_next items i numbers bytes new_numbers new_bytes lt long added laid before =
    let one = get_or items i no_record in
    let grown : take (i + 1) items ≡ take i items ++ one ∷ [] = take_more items i no_record lt in
    subst (λ (l : List TxRecord). Packing l new_numbers new_bytes) (sym grown)
    (subst (λ (l : List ℕ). Packing (take i items ++ one ∷ []) l new_bytes) (sym added)
    (subst (λ (l : List ℕ). Packing (take i items ++ one ∷ []) (numbers ++ u32_bytes one.inode) l) (sym laid)
    (packing_more (take i items) one numbers bytes long before)))

-- a fresh block has its 4,096 bytes
abbrev pub IsWholeBlock : FreshBlock → Type 0
IsWholeBlock one = length one.bytes ≡ 4096

-- of the fresh blocks those that were looked at have them
abbrev pub AreLookedAt : List TxBlock → ℕ → Type 0
AreLookedAt items i = (k : ℕ) → k < i → k < length items → length (get_or items k no_tx_block).bytes ≡ 4096

pub looked_next : (items : List TxBlock) (i : ℕ) → length (get_or items i no_tx_block).bytes ≡ 4096 → AreLookedAt items i → AreLookedAt items (i + 1)
looked_next items i here before k lt within =
    elim (cases_lt k i) [
      | inl low ↦ before k low within
      | inr high ↦ subst (λ (m : ℕ). length (get_or items m no_tx_block).bytes ≡ 4096) (let e : i ≡ k = omega arith in e) here
    ]

pub looked_all : (items : List TxBlock) (i : ℕ) → length items ≤ i → AreLookedAt items i → All IsWholeBlock (map block_of items)
looked_all items i all looked =
    All-from_get_or IsWholeBlock (map block_of items) no_block
    (λ k lt.
    let within : k < length items = omega (arith, length-map items block_of) in
    subst IsWholeBlock (sym (get_or-map block_of items k no_tx_block no_block within)) (looked k (omega arith) within))

-- all records are packed
pub packed_all : (records : List TxRecord) (fresh : List FreshBlock) (numbers bytes : List ℕ) (i : ℕ) → length records ≤ i → 0 < length records
    → IsStrictlyIncreasing (map (λ (one : TxRecord). one.inode) records) → All IsWholeBlock fresh → Packing (take i records) numbers bytes
    → IsPacked (record { entries = map record_entry records; fresh = fresh }) numbers bytes
packed_all records fresh numbers bytes i all some ascend whole before =
    let full : take i records ≡ records = take_all i records all in
    let p : Packing records numbers bytes = subst (λ (l : List TxRecord). Packing l numbers bytes) full before in
    record {
      sound = record {
        some = omega (arith, length-map records record_entry);
        ascend = subst IsStrictlyIncreasing (sym (map_inodes records)) ascend;
        long = p.long;
        whole = whole;
      };
      numbered = p.numbered;
      laid = p.laid;
    }

-- what a list of records, and one of blocks, has at a number
pub record_at : (items : List TxRecord) (entries : List Entry) (k : ℕ) → map record_entry items ≡ entries → k < length entries
    → record_entry (get_or items k no_record) ≡ get_or entries k no_entry
record_at items entries k are lt =
    let as_many : length items ≡ length entries = sym (length-map items record_entry) ∙ ap length are in
    sym (get_or-map record_entry items k no_record no_entry (omega (arith, as_many))) ∙ ap (λ (l : List Entry). get_or l k no_entry) are

pub block_at : (items : List TxBlock) (fresh : List FreshBlock) (k : ℕ) → map block_of items ≡ fresh → k < length fresh
    → block_of (get_or items k no_tx_block) ≡ get_or fresh k no_block
block_at items fresh k are lt =
    let as_many : length items ≡ length fresh = sym (length-map items block_of) ∙ ap length are in
    sym (get_or-map block_of items k no_tx_block no_block (omega (arith, as_many))) ∙ ap (λ (l : List FreshBlock). get_or l k no_block) are
