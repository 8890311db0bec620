-- The first three rules, which speak of one record each.
use Rattle.std.proofs.Common.{◌≡◌, ◌≢◌, All, ℕ, zero, suc, ◌+◌, ◌<◌, ◌≤◌, true, false, not, ◌&&◌, eqb, List, [], ◌∷◌, ◌++◌, length, map, take, get_or, is_some, Option, None, Some, refl, sym, ap, subst, ◌∙◌, arith, inl, inr}
use Rattle.std.specs.Prelude.{slice_index_or}
use Rattle.std.proofs.lemmas.Bool.{cases_lt, eq-eqb, ne_eqb, eqb-true}
use Rattle.std.proofs.lemmas.List.{get_or-map, length-map, get_or_default, take_more, map-append}
use Rattle.std.proofs.lemmas.List.Elements.{All-push}
use Rattle.sfs_image.specs.Inode.{Inode, IsInode, inode_of, inode_fault}
use Rattle.sfs_image.specs.Part.{Part, part_of}
use Rattle.sfs_image.specs.Rules.{breaks_bytes_rule}
use Rattle.sfs_image.specs.Super.{Layout}
use Rattle.disk_tree.specs.First.{IsFirst, NonePasses}
use Rattle.disk_tree.specs.Inodes.{inode_at, breaks_size_by, SoundRecords, IsMalformed, HaveRecords, KeepRecordRules}
use Rattle.disk_tree.specs.Judged.{AreReadParts, Refused, IsRefusal}
use Rattle.disk_tree.specs.Whole.{IsWholeRecord, WholeRecords}
use Rattle.disk_tree.specs.declared.fault.TreeFault.{TreeFault}
use Rattle.disk_tree.specs.declared.fault.TreeFault.TheVariants.{DiskFailed, BadImage, NoMemory}
use Rattle.disk_tree.proofs.Refusals.{store_of, unread_is_read, refused_at, byte_rule, breaks_of}

-- the inode of a number among those of records
pub inode_at_record : (records : List (List ℕ)) (inodes : List Inode) (i : ℕ) → inodes ≡ map inode_of records → i < length records →
    inode_at inodes i ≡ inode_of (slice_index_or records i [])
inode_at_record records inodes i is within =
    ap (λ (xs : List Inode). slice_index_or xs i (inode_of [])) is ∙ get_or-map inode_of records i [] (inode_of []) within

some_wrong : (o : Option ℕ) → (o ≡ None → ⊥) → is_some o ≡ true
some_wrong None some = absurd (some refl)
some_wrong (Some at) some = refl

-- what the first three rules say of parts, by their records
module _ (layout : Layout) (records : List (List ℕ)) (parts : ℕ → Part) (have : HaveRecords layout records parts) where
  first_rule : (i : ℕ) → i < layout.inodes → breaks_bytes_rule 1 layout parts i ≡ is_some (inode_fault (slice_index_or records i []))
  first_rule i within = ap (λ (raw : List ℕ). is_some (inode_fault raw)) (have i within)

  third_rule : (i : ℕ) → i < layout.inodes → breaks_bytes_rule 3 layout parts i ≡ breaks_size_by (inode_of (slice_index_or records i []))
  third_rule i within = ap (λ (raw : List ℕ). breaks_size_by (inode_of raw)) (have i within)

  second_rule : (i : ℕ) → i < layout.inodes → breaks_bytes_rule 2 layout parts i ≡ (eqb i 0 && not (eqb (inode_of (slice_index_or records i [])).kind 2))
  second_rule i within = ap (λ (raw : List ℕ). eqb i 0 && not (eqb (inode_of raw).kind 2)) (have i within)

  root_keeps : (inode_of (slice_index_or records 0 [])).kind ≡ 2 → (i : ℕ) → i < layout.inodes → breaks_bytes_rule 2 layout parts i ≡ false
  root_keeps kind i within =
      second_rule i within
      ∙ elim (eqb i 0) as (λ b. eqb i 0 ≡ b → (b && not (eqb (inode_of (slice_index_or records i [])).kind 2)) ≡ false) [
        | false ↦ λ _. refl
        | true ↦ λ t. ap (λ (j : ℕ). not (eqb (inode_of (slice_index_or records j [])).kind 2)) (eqb-true i 0 t) ∙ ap not (eq-eqb _ 2 kind)
      ] refl

  keep_three : SoundRecords layout.inodes records → (inode_of (slice_index_or records 0 [])).kind ≡ 2
      → NonePasses layout.inodes (λ i. breaks_size_by (inode_of (slice_index_or records i []))) →
      (rule i : ℕ) → 1 ≤ rule → rule ≤ 3 → i < layout.inodes → breaks_bytes_rule rule layout parts i ≡ false
  keep_three sound root sizes zero i low high within = absurd (omega arith)
  keep_three sound root sizes (suc zero) i low high within = first_rule i within ∙ ap is_some (sound i within)
  keep_three sound root sizes (suc (suc zero)) i low high within = root_keeps root i within
  keep_three sound root sizes (suc (suc (suc zero))) i low high within = third_rule i within ∙ sizes i within
  keep_three sound root sizes (suc (suc (suc (suc n)))) i low high within = absurd (omega arith)

-- parts of which nothing but the records was read
abbrev pub unread : Option (List ℕ) → List (List ℕ) → ℕ → Part
unread told records i = part_of (store_of told) (slice_index_or records i [])

module _ (told : Option (List ℕ)) (layout : Layout) (records : List (List ℕ)) where
  pub unread_read : AreReadParts told layout records (unread told records)
  unread_read i within = unread_is_read told (slice_index_or records i [])

  pub unread_have : HaveRecords layout records (unread told records)
  unread_have i within = (unread_read i within).raw_is

  none_lesser : (j rule : ℕ) → 1 ≤ rule → rule < 1 → breaks_of layout (unread told records) rule j ≡ false
  none_lesser j rule low high = absurd (omega arith)

  malformed_is_refused : (inode rule : ℕ) → length records ≡ layout.inodes → IsMalformed records inode rule → Refused told layout records inode rule
  malformed_is_refused inode rule count is =
      let within : inode < layout.inodes = (let h = is.within in omega arith) in
      subst (λ (r : ℕ). Refused told layout records inode r) (sym is.first)
      (refused_at told layout records (unread told records) 1 inode unread_read (omega arith) (omega arith)
      (λ lesser j low high _. none_lesser j lesser low high) (record {
        within = within;
        passes =
            byte_rule layout (unread told records) 1 inode (omega arith) ∙ first_rule layout records (unread told records) unread_have inode within
            ∙ some_wrong _ is.wrong;
        before =
            λ j less. byte_rule layout (unread told records) 1 j (omega arith) ∙ first_rule layout records (unread told records) unread_have j (omega arith)
            ∙ ap is_some (is.before j less);
      }))

  pub root_is_refused : 0 < layout.inodes → SoundRecords layout.inodes records → (inode_of (slice_index_or records 0 [])).kind ≢ 2
      → Refused told layout records 0 2
  root_is_refused some sound other =
      refused_at told layout records (unread told records) 2 0 unread_read (omega arith) (omega arith)
      (λ lesser j low high within. let one : 1 ≡ lesser = omega arith in
      subst (λ (r : ℕ). breaks_of layout (unread told records) r j ≡ false) one
      (byte_rule layout (unread told records) 1 j (omega arith) ∙ first_rule layout records (unread told records) unread_have j within
      ∙ ap is_some (sound j within)))
      (record {
        within = some;
        passes =
            byte_rule layout (unread told records) 2 0 (omega arith) ∙ second_rule layout records (unread told records) unread_have 0 some
            ∙ ap not (ne_eqb _ 2 other);
        before = λ j less. absurd (omega arith);
      })

  pub size_is_refused : (inode : ℕ) → SoundRecords layout.inodes records → (inode_of (slice_index_or records 0 [])).kind ≡ 2 →
      IsFirst layout.inodes (λ i. breaks_size_by (inode_of (slice_index_or records i []))) inode → Refused told layout records inode 3
  size_is_refused inode sound root first =
      refused_at told layout records (unread told records) 3 inode unread_read (omega arith) (omega arith) lesser_kept
      (record {
        within = first.within;
        passes =
            byte_rule layout (unread told records) 3 inode (omega arith) ∙ third_rule layout records (unread told records) unread_have inode first.within
            ∙ first.passes;
        before =
            λ j less. byte_rule layout (unread told records) 3 j (omega arith)
            ∙ third_rule layout records (unread told records) unread_have j (let h = first.within in omega arith) ∙ first.before j less;
      })
    where
      lesser_kept : (lesser j : ℕ) → 1 ≤ lesser → lesser < 3 → j < layout.inodes → breaks_of layout (unread told records) lesser j ≡ false
      lesser_kept zero j low high within = absurd (omega arith)
      lesser_kept (suc zero) j low high within =
          byte_rule layout (unread told records) 1 j (omega arith) ∙ first_rule layout records (unread told records) unread_have j within
          ∙ ap is_some (sound j within)
      lesser_kept (suc (suc zero)) j low high within =
          byte_rule layout (unread told records) 2 j (omega arith) ∙ root_keeps layout records (unread told records) unread_have root j within
      lesser_kept (suc (suc (suc n))) j low high within = absurd (omega arith)

-- a refusal by the first rule, as one of a whole image
pub malformed_refusal : (layout : Layout) (records : List (List ℕ)) (fault : TreeFault) → length records ≡ layout.inodes
    → IsRefusal (IsMalformed records) fault →
    IsRefusal (λ inode rule. (told : Option (List ℕ)) → Refused told layout records inode rule) fault
malformed_refusal layout records (BadImage inode rule) count is = λ told. malformed_is_refused told layout records inode rule count is
malformed_refusal layout records NoMemory count is = tt
malformed_refusal layout records DiskFailed count is = is

pub record_rules_kept : (layout : Layout) (records : List (List ℕ)) → WholeRecords layout.inodes records → SoundRecords layout.inodes records
    → (inode_of (slice_index_or records 0 [])).kind ≡ 2 →
    NonePasses layout.inodes (λ i. breaks_size_by (inode_of (slice_index_or records i []))) → KeepRecordRules layout records
record_rules_kept layout records whole sound root sizes = record {
  whole = whole;
  sound = sound;
  keep = λ parts have. keep_three layout records parts have sound root sizes;
}

-- one more record that is not malformed
pub sound_more : (n : ℕ) (records : List (List ℕ)) → SoundRecords n records → inode_fault (slice_index_or records n []) ≡ None → SoundRecords (n + 1) records
sound_more n records before here i less = elim (cases_lt i n) [
  | inl below ↦ before i below
  | inr last ↦ (let same : n ≡ i = omega arith in subst (λ (k : ℕ). inode_fault (slice_index_or records k []) ≡ None) same here)
]

-- one more record that is whole
pub whole_more : (n : ℕ) (records : List (List ℕ)) → WholeRecords n records → IsWholeRecord (slice_index_or records n []) → WholeRecords (n + 1) records
whole_more n records before here i less = elim (cases_lt i n) [
  | inl below ↦ before i below
  | inr last ↦ (let same : n ≡ i = omega arith in subst (λ (k : ℕ). IsWholeRecord (slice_index_or records k [])) same here)
]

-- what the inodes say of the records from which they were decoded
module _ (layout : Layout) (records : List (List ℕ)) (inodes : List Inode) (count : length records ≡ layout.inodes) (is : inodes ≡ map inode_of records) where
  pub kind_in_record : (i : ℕ) → i < layout.inodes → (inode_at inodes i).kind ≡ (inode_of (slice_index_or records i [])).kind
  kind_in_record i within = ap (λ (inode : Inode). inode.kind) (inode_at_record records inodes i is (omega arith))

  pub length_inodes : length inodes ≡ layout.inodes
  length_inodes = ap length is ∙ length-map records inode_of ∙ count

  size_in_record : (i : ℕ) → i < layout.inodes → breaks_size_by (inode_at inodes i) ≡ breaks_size_by (inode_of (slice_index_or records i []))
  size_in_record i within = ap breaks_size_by (inode_at_record records inodes i is (omega arith))

  pub sizes_none : NonePasses (length inodes) (λ i. breaks_size_by (inode_at inodes i))
      → NonePasses layout.inodes (λ i. breaks_size_by (inode_of (slice_index_or records i [])))
  sizes_none none i within = sym (size_in_record i within) ∙ none i (subst (λ (n : ℕ). i < n) (sym length_inodes) within)

  pub sizes_first : (i : ℕ) → IsFirst (length inodes) (λ i. breaks_size_by (inode_at inodes i)) i
      → IsFirst layout.inodes (λ i. breaks_size_by (inode_of (slice_index_or records i []))) i
  sizes_first i first =
      let within : i < layout.inodes = subst (λ (n : ℕ). i < n) length_inodes first.within in
      record {
        within = within;
        passes = sym (size_in_record i within) ∙ first.passes;
        before = λ j less. sym (size_in_record j (omega arith)) ∙ first.before j less;
      }

  pub sound_all : SoundRecords (length records) records → SoundRecords layout.inodes records
  sound_all sound i within = sound i (omega arith)

  pub whole_all : WholeRecords (length records) records → WholeRecords layout.inodes records
  whole_all whole i within = whole i (omega arith)

-- one more record that is decoded
module _ (records seen : List (List ℕ)) (same : seen ≡ records) (n : ℕ) (d : List ℕ) (within : n < length seen) where
  pub fault_read : inode_fault (get_or seen n d) ≡ None → inode_fault (slice_index_or records n []) ≡ None
  fault_read none =
      ap (λ (xs : List (List ℕ)). inode_fault (slice_index_or xs n [])) (sym same) ∙ ap inode_fault (sym (get_or_default seen n d [] within)) ∙ none

  pub whole_read : IsWholeRecord (get_or seen n d) → IsWholeRecord (slice_index_or records n [])
  whole_read whole = subst (λ (xs : List (List ℕ)). IsWholeRecord (slice_index_or xs n [])) same (subst IsWholeRecord (get_or_default seen n d [] within) whole)

  module _ (inode : Inode) (old new : List Inode) (put : new ≡ old ++ inode ∷ []) where
    pub decoded_more : old ≡ map inode_of (take n records) → inode ≡ inode_of (get_or seen n d) → new ≡ map inode_of (take (n + 1) records)
    decoded_more before is =
        put ∙ ap (λ (xs : List Inode). xs ++ inode ∷ []) (before ∙ ap (λ (xs : List (List ℕ)). map inode_of (take n xs)) (sym same))
        ∙ ap (λ (x : Inode). map inode_of (take n seen) ++ x ∷ []) is
        ∙ sym (ap (map inode_of) (take_more seen n d within) ∙ map-append inode_of (take n seen) (get_or seen n d ∷ []))
        ∙ ap (λ (xs : List (List ℕ)). map inode_of (take (n + 1) xs)) same

    pub fit_more : All IsInode old → IsInode inode → All IsInode new
    fit_more before fits = subst (All IsInode) (sym put) (All-push IsInode old inode before fits)
