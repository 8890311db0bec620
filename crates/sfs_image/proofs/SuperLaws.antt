-- A superblock is read again from its bytes, and a block without a fault is spelled as its layout is.
use Rattle.std.proofs.Common.{◌≡◌, ℕ, ◌+◌, ◌≤◌, Bool, true, not, ◌==◌, ◌&&◌, List, [], ◌++◌, take, length, None, refl, sym, ap, ◌∙◌, subst, arith, eqb, leb}
use Rattle.std.specs.Prelude.{nat_le, codes, bytes_eq}
use Rattle.std.proofs.lemmas.Bool.{leb-true, le-leb, eqb-true, eq-eqb, not-false, and_parts, and_from}
use Rattle.std.proofs.lemmas.Slice.Eq.{bytes_eq-Decides}
use Rattle.sfs_image.specs.declared.limits.TheConstants.{MOST_SLOTS}
use Rattle.sfs_image.specs.Bytes.{AreBytes, part, u32_at, u32_bytes, nonzero_in, fault_at}
use Rattle.sfs_image.specs.Super.{Layout, IsLayout, data_start, super_of, is_between, layout_fault, super_fault, super_bytes}
use Rattle.sfs_image.proofs.BytesLaws.{option_or-None, false_from_fault, number_from-u32_bytes, nonzero_in-zeros, length-zeros, front_u32, rest_from_none}

-- a test of bounds, both ways
between-true : (low high x : ℕ) → low ≤ x → x ≤ high → is_between low high x ≡ true
between-true low high x a b = and_from (leb low x) (leb x high) (le-leb low x a) (le-leb x high b)

true-between : (low high x : ℕ) → is_between low high x ≡ true → (low ≤ x) × (x ≤ high)
true-between low high x is = let both = and_parts (leb low x) (leb x high) is in (leb-true low x both.0, leb-true x high both.1)

-- a layout is read again from its superblock
pub super_of-super_bytes : (layout : Layout) (len : ℕ) → IsLayout len layout → super_of (super_bytes layout) ≡ layout
super_of-super_bytes layout len is =
    let ranges = is.ranges in
    let blocks : u32_at 16 (super_bytes layout) ≡ layout.blocks = number_from-u32_bytes layout.blocks [] (let h = ranges.blocks in omega arith) in
    let inodes : u32_at 20 (super_bytes layout) ≡ layout.inodes = number_from-u32_bytes layout.inodes [] (let h = ranges.inodes_high in omega arith) in
    let cores : u32_at 12 (super_bytes layout) ≡ layout.cores = number_from-u32_bytes layout.cores [] (let h = ranges.cores_high in omega arith) in
    let slots : u32_at 24 (super_bytes layout) ≡ layout.slots = number_from-u32_bytes layout.slots [] (let h = ranges.slots_high in omega arith) in
    same_layout blocks inodes cores slots
  where
    same_layout : {a b c d e f g h : ℕ} → a ≡ b → c ≡ d → e ≡ f → g ≡ h →
        (let x : Layout = record { blocks = a; inodes = c; cores = e; slots = g } in x) ≡ record { blocks = b; inodes = d; cores = f; slots = h }
    same_layout p q r s = λ i. record { blocks = p i; inodes = q i; cores = r i; slots = s i }

-- the tests of a superblock pass for a layout
pub super_passes : (len : ℕ) (layout : Layout) (block : List ℕ) → IsLayout len layout → super_of block ≡ layout → part 0 8 block ≡ codes "SCALEFS1"
    → u32_at 8 block ≡ 1 → nonzero_in 28 4068 block ≡ None → super_fault len block ≡ None
super_passes len layout block is reads text version clean =
    let ranges = is.ranges in
    let has : leb 1 len ≡ true = le-leb 1 len (let a = is.within in let b = is.room in omega arith) in
    let same : bytes_eq (part 0 8 block) (codes "SCALEFS1") ≡ true = (bytes_eq-Decides _ _).1 text in
    let first : eqb (u32_at 8 block) 1 ≡ true = eq-eqb _ _ version in
    let cores = between-true 1 16 layout.cores ranges.cores_low ranges.cores_high in
    let inodes = between-true 16 16384 layout.inodes ranges.inodes_low ranges.inodes_high in
    let slots = between-true 1 MOST_SLOTS layout.slots ranges.slots_low ranges.slots_high in
    let most : leb layout.blocks 262144 ≡ true = le-leb _ _ ranges.blocks in
    let within : leb layout.blocks len ≡ true = le-leb _ _ is.within in
    let room : leb (data_start layout + 1) layout.blocks ≡ true = le-leb _ _ is.room in
    let tests : (l : Layout) → l ≡ layout → layout_fault len l block ≡ None =
    λ l e. subst (λ (m : Layout). layout_fault len m block ≡ None) (sym e) (rw (has, same, first, cores, inodes, slots, most, within, room) clean) in
    tests (super_of block) reads

-- no byte of a superblock's bytes is wrong
pub super_fault-super_bytes : (len : ℕ) (layout : Layout) → IsLayout len layout → super_fault len (super_bytes layout) ≡ None
super_fault-super_bytes len layout is =
    super_passes len layout (super_bytes layout) is (super_of-super_bytes layout len is) refl (number_from-u32_bytes 1 [] (omega arith))
    (nonzero_in-zeros 28 4068 (super_bytes layout) refl)

pub length-super_bytes : (layout : Layout) → length (super_bytes layout) ≡ 4096
length-super_bytes layout = omega (arith, length-zeros 4068)

-- the facts of a superblock without a fault
pub record SuperFacts (len : ℕ) (layout : Layout) (block : List ℕ) : Type 0 where
  pub text : part 0 8 block ≡ codes "SCALEFS1"
  pub version : u32_at 8 block ≡ 1
  pub clean : nonzero_in 28 4068 block ≡ None
  pub fits : IsLayout len layout

pub super_facts : (len : ℕ) (layout : Layout) (block : List ℕ) → layout_fault len layout block ≡ None → SuperFacts len layout block
super_facts len layout block none =
    let a = option_or-None (fault_at (not (nat_le 1 len && bytes_eq (part 0 8 block) (codes "SCALEFS1"))) 0) _ none in
    let b = option_or-None (fault_at (not (u32_at 8 block == 1)) 8) _ a.1 in
    let c = option_or-None (fault_at (not (is_between 1 16 layout.cores)) 12) _ b.1 in
    let d = option_or-None (fault_at (not (is_between 16 16384 layout.inodes)) 20) _ c.1 in
    let e = option_or-None (fault_at (not (is_between 1 MOST_SLOTS layout.slots)) 24) _ d.1 in
    let f =
    option_or-None (fault_at (not (nat_le layout.blocks 262144 && nat_le layout.blocks len && nat_le (data_start layout + 1) layout.blocks)) 16)
    (nonzero_in 28 4068 block) e.1 in
    let cores = true-between 1 16 layout.cores (passed _ 12 c.0) in
    let inodes = true-between 16 16384 layout.inodes (passed _ 20 d.0) in
    let slots = true-between 1 MOST_SLOTS layout.slots (passed _ 24 e.0) in
    let sizes = and_parts (nat_le layout.blocks 262144 && nat_le layout.blocks len) (nat_le (data_start layout + 1) layout.blocks) (passed _ 16 f.0) in
    let tops = and_parts (nat_le layout.blocks 262144) (nat_le layout.blocks len) sizes.0 in
    record {
      text = (bytes_eq-Decides _ _).0 (and_parts (nat_le 1 len) (bytes_eq (part 0 8 block) (codes "SCALEFS1")) (passed _ 0 a.0)).1;
      version = eqb-true _ _ (passed _ 8 b.0);
      clean = f.1;
      fits = record {
        ranges = record {
          blocks = leb-true layout.blocks 262144 tops.0;
          inodes_low = inodes.0;
          inodes_high = inodes.1;
          cores_low = cores.0;
          cores_high = cores.1;
          slots_low = slots.0;
          slots_high = slots.1;
        };
        room = leb-true (data_start layout + 1) layout.blocks sizes.1;
        within = leb-true layout.blocks len tops.1;
      };
    }
  where
    passed : (test : Bool) (at : ℕ) → fault_at (not test) at ≡ None → test ≡ true
    passed test at h = not-false test (false_from_fault (not test) at h)

-- a block without a fault is the superblock of its layout
pub super_bytes-super_of : (len : ℕ) (block : List ℕ) → length block ≡ 4096 → AreBytes block → super_fault len block ≡ None
    → super_bytes (super_of block) ≡ block
super_bytes-super_of len block long small none =
    let facts = super_facts len (super_of block) block none in
    let text : codes "SCALEFS1" ≡ take 8 block = sym facts.text in
    let version = ap (λ (v : ℕ). codes "SCALEFS1" ++ u32_bytes v) (sym facts.version) ∙ front_u32 8 block (codes "SCALEFS1") (omega arith) small text in
    let cores = front_u32 12 block (codes "SCALEFS1" ++ u32_bytes 1) (omega arith) small version in
    let blocks = front_u32 16 block (codes "SCALEFS1" ++ u32_bytes 1 ++ u32_bytes (u32_at 12 block)) (omega arith) small cores in
    let inodes =
    front_u32 20 block (codes "SCALEFS1" ++ u32_bytes 1 ++ u32_bytes (u32_at 12 block) ++ u32_bytes (u32_at 16 block)) (omega arith) small blocks in
    let slots =
    front_u32 24 block (codes "SCALEFS1" ++ u32_bytes 1 ++ u32_bytes (u32_at 12 block) ++ u32_bytes (u32_at 16 block) ++ u32_bytes (u32_at 20 block))
    (omega arith) small inodes in
    rest_from_none 28 4068 block _ (omega arith) facts.clean slots
