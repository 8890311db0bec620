-- An inode is read again from its record, and a record without a fault is spelled as its inode is.
use Rattle.std.proofs.Common.{◌≡◌, ℕ, zero, suc, ◌+◌, ◌-◌, ◌*◌, ◌<◌, ◌≤◌, false, cond, eqb, ltb, ◌==◌, List, [], ◌∷◌, ◌++◌, take, drop, length, slice_index, replicate, None, refl, sym, ap, ◌∙◌, subst, arith, inl, inr}
use Rattle.std.specs.Prelude.{nat_lt}
use Rattle.std.proofs.lemmas.List.{length-append, take_at, drop_at, drop_more, take_all, same_lists, get_or-replicate, length-replicate, get_or_past}
use Rattle.std.proofs.lemmas.Bool.{cases_Bool, cases_lt, le-ltb, ltb-false, eqb-true, eq-eqb, cond-true, cond-false}
use Rattle.std.proofs.Math.Seq.{take-add}
use Rattle.sfs_image.specs.Bytes.{AreBytes, part, zeros, number_from, u32_at, u64_at, u32s_at, u32_bytes, u64_bytes, u32s_bytes, nonzero_in, fault_at}
use Rattle.sfs_image.specs.Inode.{Inode, IsFree, IsInode, AreU32s, inode_of, inode_fault, inode_bytes, ArePointers, pointers_of, pointers_bytes}
use Rattle.sfs_image.proofs.BytesLaws.{option_or-None, false_from_fault, number_from-u32_bytes, number_from-u64_bytes, nonzero_in-zeros, part_from_none, part_in_zeros, u32_at-lt, u64_at-lt, number_from-lt, number_from-zeros, number_from-8_zeros, zeros-append, zeros-is, front_u32, front_u64, AreBytes-drop, AreBytes-part, drop_zeros, length-zeros}
use Rattle.sfs_image.proofs.PiecesLaws.{u32s_at-u32s_bytes, u32s_bytes-u32s_at, length-u32s_at, get_or-u32s_at, length-pieces}
use Rattle.sfs_base.proofs.BasicLists.{zeros_read}

-- the bytes of n numbers
pub length-u32s_bytes : (xs : List ℕ) → length (u32s_bytes xs) ≡ 4 * length xs
length-u32s_bytes xs = length-pieces u32_bytes 4 0 xs (λ j h. refl)

pub length-inode_bytes : (inode : Inode) → IsInode inode → length (inode_bytes inode) ≡ 512
length-inode_bytes inode is =
    let a = is.direct_count in
    let b = is.indirect_count in
    omega (arith, length-append (u32s_bytes inode.direct) (u32s_bytes inode.indirect), length-u32s_bytes inode.direct, length-u32s_bytes inode.indirect)

-- an inode is read again from its record
pub inode_of-inode_bytes : (inode : Inode) → IsInode inode → inode_of (inode_bytes inode) ≡ inode
inode_of-inode_bytes inode is =
    let links : u32_at 4 (inode_bytes inode) ≡ inode.links = number_from-u32_bytes inode.links [] is.links in
    let size : u64_at 8 (inode_bytes inode) ≡ inode.size = number_from-u64_bytes inode.size [] is.size in
    let long : length (u32s_bytes inode.direct) ≡ 432 = length-u32s_bytes inode.direct ∙ ap (λ (n : ℕ). 4 * n) is.direct_count in
    let short : length (u32s_bytes inode.indirect) ≡ 64 = length-u32s_bytes inode.indirect ∙ ap (λ (n : ℕ). 4 * n) is.indirect_count in
    let first : part 16 432 (inode_bytes inode) ≡ u32s_bytes inode.direct = take_at (u32s_bytes inode.direct) (u32s_bytes inode.indirect) 432 long in
    let behind : drop 448 (inode_bytes inode) ≡ u32s_bytes inode.indirect = drop_at (u32s_bytes inode.direct) (u32s_bytes inode.indirect) 432 long in
    let second : part 448 64 (inode_bytes inode) ≡ u32s_bytes inode.indirect = ap (take 64) behind ∙ take_all 64 (u32s_bytes inode.indirect) (omega arith) in
    let direct : u32s_at 16 108 (inode_bytes inode) ≡ inode.direct =
    u32s_at-u32s_bytes 16 inode.direct (inode_bytes inode) 108 is.direct_count first is.direct in
    let indirect : u32s_at 448 16 (inode_bytes inode) ≡ inode.indirect =
    u32s_at-u32s_bytes 448 inode.indirect (inode_bytes inode) 16 is.indirect_count second is.indirect in
    same_inode inode links size direct indirect
  where
    same_inode : (i : Inode) {a b : ℕ} {c d : List ℕ} → a ≡ i.links → b ≡ i.size → c ≡ i.direct → d ≡ i.indirect →
        (let x : Inode = record { kind = i.kind; links = a; size = b; direct = c; indirect = d } in x) ≡ i
    same_inode i p q r s = λ j. record { kind = i.kind; links = p j; size = q j; direct = r j; indirect = s j }

-- the bytes of holes
u32s_bytes-holes : (n : ℕ) → u32s_bytes (replicate n 0) ≡ zeros (4 * n)
u32s_bytes-holes zero = rw (zeros-is (4 * zero)) refl
u32s_bytes-holes (suc n) =
    let four : u32_bytes 0 ≡ zeros 4 = sym (zeros-is 4) in
    let next : 4 * suc n ≡ 4 + 4 * n = omega arith in
    ap (λ (xs : List ℕ). u32_bytes 0 ++ xs) (u32s_bytes-holes n) ∙ ap (λ (xs : List ℕ). xs ++ zeros (4 * n)) four ∙ zeros-append 4 (4 * n) ∙ ap zeros (sym next)

-- what stands behind the first four bytes of a free record
free_behind : (inode : Inode) → IsFree inode → drop 4 (inode_bytes inode) ≡ zeros 508
free_behind inode free =
    ap (λ (x : ℕ). u32_bytes x ++ u64_bytes inode.size ++ u32s_bytes inode.direct ++ u32s_bytes inode.indirect) free.links
    ∙ ap (λ (x : ℕ). u32_bytes 0 ++ u64_bytes x ++ u32s_bytes inode.direct ++ u32s_bytes inode.indirect) free.size
    ∙ ap (λ (xs : List ℕ). u32_bytes 0 ++ u64_bytes 0 ++ u32s_bytes xs ++ u32s_bytes inode.indirect) free.direct
    ∙ ap (λ (xs : List ℕ). u32_bytes 0 ++ u64_bytes 0 ++ xs ++ u32s_bytes inode.indirect) (u32s_bytes-holes 108)
    ∙ ap (λ (xs : List ℕ). u32_bytes 0 ++ u64_bytes 0 ++ zeros 432 ++ u32s_bytes xs) free.indirect
    ∙ ap (λ (xs : List ℕ). u32_bytes 0 ++ u64_bytes 0 ++ zeros 432 ++ xs) (u32s_bytes-holes 16)
    ∙ ap (λ (xs : List ℕ). xs ++ zeros 432 ++ zeros 64) (let e : u32_bytes 0 ++ u64_bytes 0 ≡ zeros 12 = sym (zeros-is 12) in e)
    ∙ ap (λ (xs : List ℕ). xs ++ zeros 64) (zeros-append 12 432)
    ∙ zeros-append 444 64

-- no byte of a record's bytes is wrong
pub inode_fault-inode_bytes : (inode : Inode) → IsInode inode → inode_fault (inode_bytes inode) ≡ None
inode_fault-inode_bytes inode is =
    let kind : ltb 2 inode.kind ≡ false = le-ltb 2 inode.kind is.kind in
    rw kind (elim (cases_Bool (eqb inode.kind 0)) [
      | inl free ↦ cond-true (eqb inode.kind 0) (nonzero_in 4 508 (inode_bytes inode)) None free
          ∙ nonzero_in-zeros 4 508 (inode_bytes inode) (free_behind inode (is.free (eqb-true _ _ free)))
      | inr used ↦ cond-false (eqb inode.kind 0) (nonzero_in 4 508 (inode_bytes inode)) None used
    ])

-- numbers behind the front
front_u32s : (at n : ℕ) (bytes front : List ℕ) → at + 4 * n ≤ length bytes → AreBytes bytes → front ≡ take at bytes →
    front ++ u32s_bytes (u32s_at at n bytes) ≡ take (at + 4 * n) bytes
front_u32s at n bytes front within small is =
    ap (λ (xs : List ℕ). xs ++ u32s_bytes (u32s_at at n bytes)) is
    ∙ ap (λ (xs : List ℕ). take at bytes ++ xs) (u32s_bytes-u32s_at at n bytes within small)
    ∙ sym (take-add at (4 * n) bytes)

-- the first four bytes of a record without a fault
first_four : (raw : List ℕ) → length raw ≡ 512 → nonzero_in 1 3 raw ≡ None → slice_index raw 0 ∷ 0 ∷ 0 ∷ 0 ∷ [] ≡ take 4 raw
first_four raw len none =
    let gap : part 1 3 raw ≡ zeros 3 = part_from_none 1 3 raw (omega arith) none in
    let is : raw ≡ slice_index raw 0 ∷ drop 1 raw = drop_more raw 0 0 (omega arith) in
    ap (λ (xs : List ℕ). slice_index raw 0 ∷ xs) (sym (zeros-is 3) ∙ sym gap) ∙ sym (ap (take 4) is)

-- the facts of a record without a fault
pub record InodeFacts (raw : List ℕ) : Type 0 where
  pub kind : slice_index raw 0 ≤ 2
  pub gap : nonzero_in 1 3 raw ≡ None
  pub free : slice_index raw 0 ≡ 0 → nonzero_in 4 508 raw ≡ None

pub inode_facts : (raw : List ℕ) → inode_fault raw ≡ None → InodeFacts raw
inode_facts raw none =
    let a = option_or-None (fault_at (nat_lt 2 (slice_index raw 0)) 0) _ none in
    let b = option_or-None (nonzero_in 1 3 raw) (cond (slice_index raw 0 == 0) (nonzero_in 4 508 raw) None) a.1 in
    record {
      kind = ltb-false 2 (slice_index raw 0) (false_from_fault (nat_lt 2 (slice_index raw 0)) 0 a.0);
      gap = b.0;
      free = λ zero. sym (cond-true (slice_index raw 0 == 0) (nonzero_in 4 508 raw) None (eq-eqb _ _ zero)) ∙ b.1;
    }

-- a record without a fault is spelled as its inode is
pub inode_bytes-inode_of : (raw : List ℕ) → length raw ≡ 512 → AreBytes raw → inode_fault raw ≡ None → inode_bytes (inode_of raw) ≡ raw
inode_bytes-inode_of raw len small none =
    let facts = inode_facts raw none in
    let head = slice_index raw 0 ∷ 0 ∷ 0 ∷ 0 ∷ [] in
    let four = first_four raw len facts.gap in
    let links = front_u32 4 raw head (omega arith) small four in
    let size = front_u64 8 raw (head ++ u32_bytes (u32_at 4 raw)) (omega arith) small links in
    let direct = front_u32s 16 108 raw (head ++ u32_bytes (u32_at 4 raw) ++ u64_bytes (u64_at 8 raw)) (omega arith) small size in
    let indirect =
    front_u32s 448 16 raw (head ++ u32_bytes (u32_at 4 raw) ++ u64_bytes (u64_at 8 raw) ++ u32s_bytes (u32s_at 16 108 raw)) (omega arith) small direct in
    indirect ∙ take_all 512 raw (omega arith)

-- numbers read from bytes are u32s
AreU32s-u32s_at : (at n : ℕ) (bytes : List ℕ) → AreBytes bytes → AreU32s (u32s_at at n bytes)
AreU32s-u32s_at at n bytes small k =
    elim (cases_lt k n) [
      | inl h ↦
          rw (get_or-u32s_at at n bytes k 0 h)
          (number_from-lt (drop (4 * k) (part at (4 * n) bytes)) (AreBytes-drop (4 * k) (part at (4 * n) bytes) (AreBytes-part at (4 * n) bytes small)))
      | inr past ↦ rw (get_or_past (u32s_at at n bytes) k 0 (omega (arith, length-u32s_at at n bytes))) (omega arith)
    ]

-- numbers read from zeros are holes
holes_at : (at n : ℕ) (bytes : List ℕ) → part at (4 * n) bytes ≡ zeros (4 * n) → u32s_at at n bytes ≡ replicate n 0
holes_at at n bytes are =
    same_lists (u32s_at at n bytes) (replicate n 0) (length-u32s_at at n bytes ∙ sym (length-replicate n 0))
    (λ k d h.
    let within : k < n = subst (λ (l : ℕ). k < l) (length-u32s_at at n bytes) h in
    get_or-u32s_at at n bytes k d within
    ∙ ap (λ (xs : List ℕ). number_from 0 4 (drop (4 * k) xs)) are
    ∙ ap (number_from 0 4) (drop_zeros (4 * k) (4 * n))
    ∙ number_from-zeros (4 * n - 4 * k)
    ∙ sym (get_or-replicate n k 0 d within))

-- a free record without a fault has nothing
pub IsFree-inode_of : (raw : List ℕ) → length raw ≡ 512 → inode_fault raw ≡ None → slice_index raw 0 ≡ 0 → IsFree (inode_of raw)
IsFree-inode_of raw len none kind =
    let all : part 4 508 raw ≡ zeros 508 = part_from_none 4 508 raw (omega arith) ((inode_facts raw none).free kind) in
    let within : (a m : ℕ) → 4 ≤ a → a + m ≤ 512 → part a m raw ≡ zeros m = λ a m low high. part_in_zeros 4 508 a m raw (omega arith) all low high in
    record {
      links = ap (number_from 0 4) (within 4 4 (omega arith) (omega arith)) ∙ number_from-zeros 4;
      size = ap (number_from 0 8) (within 8 8 (omega arith) (omega arith)) ∙ number_from-8_zeros;
      direct = holes_at 16 108 raw (within 16 432 (omega arith) (omega arith));
      indirect = holes_at 448 16 raw (within 448 64 (omega arith) (omega arith));
    }

-- the inode in a record without a fault can stand in one
pub IsInode-inode_of : (raw : List ℕ) → length raw ≡ 512 → AreBytes raw → inode_fault raw ≡ None → IsInode (inode_of raw)
IsInode-inode_of raw len small none = record {
  kind = (inode_facts raw none).kind;
  links = u32_at-lt 4 raw small;
  size = u64_at-lt 8 raw small;
  direct_count = length-u32s_at 16 108 raw;
  direct = AreU32s-u32s_at 16 108 raw small;
  indirect_count = length-u32s_at 448 16 raw;
  indirect = AreU32s-u32s_at 448 16 raw small;
  free = IsFree-inode_of raw len none;
}

-- an indirect block of zeros has holes
pub pointers_of-zeros : (k : ℕ) → slice_index (pointers_of (zeros 4096)) k ≡ 0
pointers_of-zeros k =
    ap (λ (xs : List ℕ). slice_index xs k) (holes_at 0 1024 (zeros 4096) (take_all 4096 (zeros 4096) (omega (arith, length-zeros 4096)))) ∙ zeros_read 1024 k

-- the pointers of an indirect block, likewise
pub length-pointers_bytes : (pointers : List ℕ) → ArePointers pointers → length (pointers_bytes pointers) ≡ 4096
length-pointers_bytes pointers are = length-u32s_bytes pointers ∙ ap (λ (n : ℕ). 4 * n) are.count

pub pointers_of-pointers_bytes : (pointers : List ℕ) → ArePointers pointers → pointers_of (pointers_bytes pointers) ≡ pointers
pointers_of-pointers_bytes pointers are =
    u32s_at-u32s_bytes 0 pointers (pointers_bytes pointers) 1024 are.count
    (take_all 4096 (u32s_bytes pointers) (let e = length-pointers_bytes pointers are in omega arith)) are.numbers

pub pointers_bytes-pointers_of : (block : List ℕ) → length block ≡ 4096 → AreBytes block → pointers_bytes (pointers_of block) ≡ block
pointers_bytes-pointers_of block len small = u32s_bytes-u32s_at 0 1024 block (omega arith) small ∙ take_all 4096 block (omega arith)

pub ArePointers-pointers_of : (block : List ℕ) → AreBytes block → ArePointers (pointers_of block)
ArePointers-pointers_of block small = record { count = length-u32s_at 0 1024 block; numbers = AreU32s-u32s_at 0 1024 block small }
