-- How the slots of a directory are read block by block, and those of all inodes.
use Rattle.std.proofs.Common.{◌≡◌, ◌≢◌, ℕ, zero, suc, ◌+◌, ◌-◌, ◌*◌, ◌/◌, ◌<◌, Bool, true, false, ◌&&◌, ◌||◌, eqb, List, [], ◌∷◌, ◌++◌, map, length, get_or, Option, None, Some, is_some, refl, sym, ap, subst, ◌∙◌, arith, inl, inr}
use Rattle.std.specs.List.{list_any}
use Rattle.std.proofs.lemmas.Bool.{cases_lt, cond-true, cond-false, eq-eqb, ne_eqb, or_from, or_left, or_right}
use Rattle.std.proofs.lemmas.List.{length-append, get_or_append_left, get_or-append_right, get_or_read, map-append}
use Rattle.std.proofs.lemmas.List.FromFn.{map-range_with_len_more}
use Rattle.sfs_base.specs.Lists.{Roomy}
use Rattle.sfs_image.specs.Bytes.{part}
use Rattle.sfs_image.specs.Inode.{Inode, inode_of}
use Rattle.sfs_image.specs.Slot.{Row}
use Rattle.sfs_image.specs.SlotBlock.{slots_of, slots_fault}
use Rattle.disk_tree.specs.Blocks.{blocks_in, is_malformed, slots_badly, slots_by, slots_at, FindsSlots, breaks_slots_at, AreSlotLists, BreaksSeventh}
use Rattle.disk_tree.specs.Contents.{bytes_of_inode}
use Rattle.disk_tree.specs.First.{NonePasses}
use Rattle.disk_tree.specs.Inodes.{inode_at}

pub no_blocks : (bytes : List ℕ) → blocks_in 0 bytes ≡ []
unfolding blocks_in
no_blocks bytes = refl

pub one_more_block : (n : ℕ) (bytes : List ℕ) → blocks_in (n + 1) bytes ≡ blocks_in n bytes ++ part (4096 * n) 4096 bytes ∷ []
unfolding blocks_in
one_more_block n bytes = map-range_with_len_more (λ n. part (4096 * n) 4096 bytes) 0 n n (omega arith)

list_any_more : {X : Type 0} (p : X → Bool) (xs ys : List X) → list_any p (xs ++ ys) ≡ (list_any p xs || list_any p ys)
list_any_more p [] ys = refl
list_any_more p (x ∷ xs) ys = ap (λ b. p x || b) (list_any_more p xs ys) ∙ three (p x) (list_any p xs) (list_any p ys)
  where
    three : (a b c : Bool) → (a || (b || c)) ≡ ((a || b) || c)
    three true b c = refl
    three false b c = refl

-- one more block in which nothing is wrong
pub more_slots : (n : ℕ) (bytes block : List ℕ) (old new : List (List (Option Row))) (slots : List (Option Row)) → block ≡ part (4096 * n) 4096 bytes
    → old ≡ map slots_of (blocks_in n bytes) →
    new ≡ old ++ slots ∷ [] → slots ≡ slots_of block → new ≡ map slots_of (blocks_in (n + 1) bytes)
more_slots n bytes block old new slots is before put read =
    put ∙ ap (λ (xs : List (List (Option Row))). xs ++ slots ∷ []) before
    ∙ ap (λ (s : List (Option Row)). map slots_of (blocks_in n bytes) ++ s ∷ []) (read ∙ ap slots_of is)
    ∙ sym (ap (map slots_of) (one_more_block n bytes) ∙ map-append slots_of (blocks_in n bytes) (part (4096 * n) 4096 bytes ∷ []))

pub more_kept : (n : ℕ) (bytes block : List ℕ) → block ≡ part (4096 * n) 4096 bytes → list_any is_malformed (blocks_in n bytes) ≡ false
    → slots_fault block ≡ None →
    list_any is_malformed (blocks_in (n + 1) bytes) ≡ false
more_kept n bytes block is before none =
    ap (list_any is_malformed) (one_more_block n bytes) ∙ list_any_more is_malformed (blocks_in n bytes) (part (4096 * n) 4096 bytes ∷ [])
    ∙ or_from (list_any is_malformed (blocks_in n bytes)) _ before
    (or_from (is_malformed (part (4096 * n) 4096 bytes)) false (ap is_malformed (sym is) ∙ ap is_some none) refl)

-- a block in which something is wrong, among more
wrong_among : (n : ℕ) (bytes : List ℕ) → is_malformed (part (4096 * n) 4096 bytes) ≡ true → (more : ℕ)
    → list_any is_malformed (blocks_in (n + 1 + more) bytes) ≡ true
wrong_among n bytes wrong zero = (let e : n + 1 + 0 ≡ n + 1 = omega arith in ap (λ (k : ℕ). list_any is_malformed (blocks_in k bytes)) e)
    ∙ ap (list_any is_malformed) (one_more_block n bytes) ∙ list_any_more is_malformed (blocks_in n bytes) (part (4096 * n) 4096 bytes ∷ [])
    ∙ or_right (list_any is_malformed (blocks_in n bytes)) _ (or_left (is_malformed (part (4096 * n) 4096 bytes)) false wrong)
wrong_among n bytes wrong (suc more) =
    (let e : n + 1 + suc more ≡ (n + 1 + more) + 1 = omega arith in ap (λ (k : ℕ). list_any is_malformed (blocks_in k bytes)) e)
    ∙ ap (list_any is_malformed) (one_more_block (n + 1 + more) bytes)
    ∙ list_any_more is_malformed (blocks_in (n + 1 + more) bytes) (part (4096 * (n + 1 + more)) 4096 bytes ∷ [])
    ∙ or_left (list_any is_malformed (blocks_in (n + 1 + more) bytes)) _ (wrong_among n bytes wrong more)

pub seventh_broken : (inode : Inode) (bytes block : List ℕ) (n at : ℕ) → inode.kind ≡ 2 → n < inode.size / 4096 → block ≡ part (4096 * n) 4096 bytes
    → slots_fault block ≡ Some at → slots_badly inode bytes ≡ true
seventh_broken inode bytes block n at kind less is wrong =
    let e : n + 1 + (inode.size / 4096 - (n + 1)) ≡ inode.size / 4096 = omega arith in
    ap (λ b. b && list_any is_malformed (blocks_in (inode.size / 4096) bytes)) (eq-eqb _ _ kind)
    ∙ ap (λ (k : ℕ). list_any is_malformed (blocks_in k bytes)) (sym e)
    ∙ wrong_among n bytes (ap is_malformed (sym is) ∙ ap is_some wrong) (inode.size / 4096 - (n + 1))

-- a directory in whose blocks nothing is wrong, and what is none
pub directory_slots : (inode : Inode) (bytes : List ℕ) (slots : List (List (Option Row))) → inode.kind ≡ 2
    → slots ≡ map slots_of (blocks_in (inode.size / 4096) bytes) →
    list_any is_malformed (blocks_in (inode.size / 4096) bytes) ≡ false → (slots ≡ slots_by inode bytes) × (slots_badly inode bytes ≡ false)
directory_slots inode bytes slots kind are none = (
  are
      ∙ sym (cond-true (eqb inode.kind 2) _ _ (eq-eqb _ _ kind)),
  ap (λ b. b && list_any is_malformed (blocks_in (inode.size / 4096) bytes)) (eq-eqb _ _ kind)
      ∙ none,
)

pub other_slots : (inode : Inode) (bytes : List ℕ) (slots : List (List (Option Row))) → inode.kind ≢ 2 → slots ≡ []
    → (slots ≡ slots_by inode bytes) × (slots_badly inode bytes ≡ false)
other_slots inode bytes slots other are = (
  are
      ∙ sym (cond-false (eqb inode.kind 2) _ _ (ne_eqb _ _ other)),
  ap (λ b. b && list_any is_malformed (blocks_in (inode.size / 4096) bytes)) (ne_eqb _ _ other),
)

-- elements of the lists are those of a number
module _ (inodes : List Inode) (contents : List (Roomy ℕ)) (place : ℕ) (inode : Inode) (own : Roomy ℕ) (within : place < length inodes)
    (there : place < length contents) (is : inode ≡ get_or inodes place inode) (own_is : own ≡ get_or contents place own) where
  pub inode_is : inode ≡ inode_at inodes place
  inode_is = get_or_read inodes place inode within is (inode_of [])

  pub bytes_are : own.items ≡ bytes_of_inode contents place
  bytes_are = ap (λ (b : Roomy ℕ). b.items) (get_or_read contents place own there own_is (record { items = []; spare = 0 }))

pub none_passes_more : (n : ℕ) (test : ℕ → Bool) → NonePasses n test → test n ≡ false → NonePasses (n + 1) test
none_passes_more n test before here k less = elim (cases_lt k n) [
  | inl below ↦ before k below
  | inr last ↦ (let e : n ≡ k = omega arith in ap test (sym e) ∙ here)
]

-- the slots of one more inode
module _ (inodes : List Inode) (contents : List (Roomy ℕ)) (n : ℕ) (old new : List (Roomy (List (Option Row))))
    (before : AreSlotLists inodes contents n old) where
  pub more_lists : (slots : Roomy (List (Option Row))) → new ≡ old ++ slots ∷ [] → FindsSlots (inode_at inodes n) (bytes_of_inode contents n) (Some slots)
      → AreSlotLists inodes contents (n + 1) new
  more_lists slots put finds = record {
    count = ap length put ∙ length-append old (slots ∷ []) ∙ (let c = before.count in omega arith);
    each = λ i less. elim (cases_lt i n) [
      | inl below ↦
          ap (λ (xs : List (Roomy (List (Option Row)))). slots_at xs i) put
          ∙ ap (λ (s : Roomy (List (Option Row))). s.items)
          (get_or_append_left old (slots ∷ []) (record { items = []; spare = 0 }) i (let c = before.count in omega arith))
          ∙ before.each i below
      | inr last ↦ (let here : n ≡ i = omega arith in
          let first : n - n ≡ 0 = omega arith in
          let same : slots_at new n ≡ slots.items =
          ap (λ (xs : List (Roomy (List (Option Row)))). slots_at xs n) put
          ∙ ap (λ (s : Roomy (List (Option Row))). s.items)
          (get_or-append_right old (slots ∷ []) n n (record { items = []; spare = 0 }) before.count (omega arith)
          ∙ ap (λ (k : ℕ). get_or (slots ∷ []) k (record { items = []; spare = 0 })) first) in
          subst (λ (j : ℕ). slots_at new j ≡ slots_by (inode_at inodes j) (bytes_of_inode contents j)) here (same ∙ finds.0))
    ];
    keep = none_passes_more n (breaks_slots_at inodes contents) before.keep finds.1;
  }

  pub seventh_first : n < length inodes → FindsSlots (inode_at inodes n) (bytes_of_inode contents n) None → BreaksSeventh inodes contents n 7
  seventh_first within finds = record { seventh = refl; first = record { within = within; passes = finds; before = before.keep } }
