-- How marks come to the blocks that pointers name.
use Rattle.std.proofs.Common.{◌≡◌, ◌≢◌, ℕ, ◌+◌, ◌-◌, ◌*◌, ◌<◌, ◌≤◌, Bool, true, false, eqb, ltb, List, length, refl, sym, ap, subst, ◌∙◌, arith, inl, inr}
use Rattle.std.specs.Prelude.{slice_index}
use Rattle.std.specs.List.{find}
use Rattle.std.proofs.lemmas.Bool.{cases_Bool, cases_lt, cond-true, cond-false, lt-ltb, le-ltb}
use Rattle.sfs_base.proofs.BasicTruth.{not_both_of}
use Rattle.sfs_image.specs.Inode.{Inode, Table, table_of, entry_of}
use Rattle.sfs_image.specs.Seen.{FILE_BLOCKS, PLACES}
use Rattle.block_map.specs.Kept.{pointer_kept}
use Rattle.disk_tree.specs.Apart.{entry_kept, is_marked, Meets, MarksEach, AnswersMarks}

-- no pointer was met
pub marks_none : (held : List Bool) (pointers : ℕ → ℕ) → MarksEach held held pointers 0
marks_none held pointers = record {
  size = refl;
  fresh = λ k less _. absurd (omega arith);
  once = λ k earlier less _ _. absurd (omega arith);
  keeps = λ block marked. marked;
  marks = λ k less _. absurd (omega arith);
  only = λ block marked. inl marked;
}

-- marks that come after marks: pointers from n on, as others from 0 on
module _ (old mid new : List Bool) (pointers more : ℕ → ℕ) (n len : ℕ) (same : (k : ℕ) → k < len → pointers (n + k) ≡ more k)
    (first : MarksEach old mid pointers n) where
  -- a later pointer, as one of the others
  later : (k : ℕ) → n ≤ k → k < n + len → (j : ℕ) × (j < len) × (n + j ≡ k) × (pointers k ≡ more j)
  later k low high =
      let e : n + (k - n) ≡ k = omega arith in
      (k - n, omega arith, e, sym (ap pointers e) ∙ same (k - n) (omega arith))

  -- a pointer before n has a mark, which a fresh one has not
  apart_from_first : (earlier : ℕ) (block : ℕ) → earlier < n → is_marked mid block ≡ false → block ≢ 0 → pointers earlier ≢ block
  apart_from_first earlier block less fresh some e =
      not_both_of (is_marked mid block) (subst (λ (b : ℕ). is_marked mid b ≡ true) e (first.marks earlier less (λ none. some (sym e ∙ none)))) fresh

  fresh_before : (block : ℕ) → is_marked mid block ≡ false → is_marked old block ≡ false
  fresh_before block fresh = elim (cases_Bool (is_marked old block)) [
    | inl marked ↦ absurd (not_both_of (is_marked mid block) (first.keeps block marked) fresh)
    | inr none ↦ none
  ]

  pub marks_more : MarksEach mid new more len → MarksEach old new pointers (n + len)
  marks_more second = record {
    size = second.size ∙ first.size;
    fresh = fresh;
    once = once;
    keeps = λ block marked. second.keeps block (first.keeps block marked);
    marks = marks;
    only = λ block marked. elim (second.only block marked) [
      | inl before ↦ elim (first.only block before) [
        | inl old_mark ↦ inl old_mark
        | inr one ↦ inr (one.0, (let h = one.1 in omega arith), one.2, one.3)
      ]
      | inr one ↦ inr (n + one.0, (let h = one.1 in omega arith), (λ none. one.2 (sym (same one.0 one.1) ∙ none)), same one.0 one.1 ∙ one.3)
    ];
  }
    where
      fresh : (k : ℕ) → k < n + len → pointers k ≢ 0 → is_marked old (pointers k) ≡ false
      fresh k less some = elim (cases_lt k n) [
        | inl below ↦ first.fresh k below some
        | inr behind ↦ (let one = later k behind less in
            fresh_before (pointers k) (subst (λ (b : ℕ). is_marked mid b ≡ false) (sym one.3) (second.fresh one.0 one.1 (λ none. some (one.3 ∙ none)))))
      ]

      once : (k earlier : ℕ) → k < n + len → earlier < k → pointers k ≢ 0 → pointers earlier ≢ pointers k
      once k earlier less before some e = elim (cases_lt k n) [
        | inl below ↦ first.once k earlier below before some e
        | inr behind ↦ (let one = later k behind less in
            let there : more one.0 ≢ 0 = λ none. some (one.3 ∙ none) in
            let unmarked : is_marked mid (pointers k) ≡ false = subst (λ (b : ℕ). is_marked mid b ≡ false) (sym one.3) (second.fresh one.0 one.1 there) in
            elim (cases_lt earlier n) [
              | inl low ↦ apart_from_first earlier (pointers k) low unmarked some e
              | inr high ↦ (let two = later earlier high (omega arith) in
                  let place_one = one.2 in
                  let place_two = two.2 in
                  second.once one.0 two.0 one.1 (omega arith) there (sym two.3 ∙ e ∙ one.3))
            ])
      ]

      marks : (k : ℕ) → k < n + len → pointers k ≢ 0 → is_marked new (pointers k) ≡ true
      marks k less some = elim (cases_lt k n) [
        | inl below ↦ second.keeps (pointers k) (first.marks k below some)
        | inr behind ↦ (let one = later k behind less in
            subst (λ (b : ℕ). is_marked new b ≡ true) (sym one.3) (second.marks one.0 one.1 (λ none. some (one.3 ∙ none))))
      ]

  pub meets_more : (count : ℕ) → n + len ≤ count → Meets mid more len → Meets old pointers count
  meets_more count le meets = record {
    at = n + meets.at;
    within = (let h = meets.within in omega arith);
    there = λ none. meets.there (sym (same meets.at meets.within) ∙ none);
    before = elim meets.before [
      | inl marked ↦ elim (first.only (more meets.at) marked) [
        | inl old_mark ↦ inl (subst (λ (b : ℕ). is_marked old b ≡ true) (sym (same meets.at meets.within)) old_mark)
        | inr one ↦ inr (one.0, (let h = one.1 in omega arith), one.3 ∙ sym (same meets.at meets.within))
      ]
      | inr one ↦
          inr (
            n + one.0,
            (let h = one.1 in omega arith),
            same one.0 (let h = one.1 in let w = meets.within in omega arith) ∙ one.2
                ∙ sym (same meets.at meets.within),
          )
    ];
  }

-- the pointers of an inode, by where they are kept
module _ (inode : Inode) (tables : List Table) where
  pub kept_direct : (k : ℕ) → k < 108 → pointer_kept inode tables (0 + k) ≡ slice_index inode.direct k
  kept_direct k near =
      let e : 0 + k ≡ k = omega arith in
      ap (pointer_kept inode tables) e ∙ cond-true (ltb k FILE_BLOCKS) _ _ (lt-ltb k FILE_BLOCKS (omega arith)) ∙ cond-true (ltb k 108) _ _ (lt-ltb k 108 near)

  pub kept_entry : (place k : ℕ) → place < 16 → k < 1024
      → pointer_kept inode tables (108 + 1024 * place + k) ≡ entry_kept k (find (λ table. eqb table.place place) tables)
  kept_entry place k small tiny =
      let n = 108 + 1024 * place + k in
      let table : table_of n ≡ place = omega arith in
      let entry : entry_of n ≡ k = omega arith in
      cond-true (ltb n FILE_BLOCKS) _ _ (lt-ltb n FILE_BLOCKS (omega arith)) ∙ cond-false (ltb n 108) _ _ (le-ltb n 108 (omega arith))
      ∙ ap (λ (t : ℕ). entry_kept (entry_of n) (find (λ table. eqb table.place t) tables)) table
      ∙ ap (λ (e : ℕ). entry_kept e (find (λ table. eqb table.place place) tables)) entry

  pub kept_indirect : (k : ℕ) → pointer_kept inode tables (FILE_BLOCKS + k) ≡ slice_index inode.indirect k
  kept_indirect k =
      let e : FILE_BLOCKS + k - FILE_BLOCKS ≡ k = omega arith in
      cond-false (ltb (FILE_BLOCKS + k) FILE_BLOCKS) _ _ (le-ltb (FILE_BLOCKS + k) FILE_BLOCKS (omega arith)) ∙ ap (slice_index inode.indirect) e

  -- the first 108 places
  pub direct_marked : (old new : List Bool) → length inode.direct ≡ 108 → MarksEach old new (slice_index inode.direct) (length inode.direct)
      → MarksEach old new (pointer_kept inode tables) (108 + 1024 * 0)
  direct_marked old new long marks =
      marks_more old old new (pointer_kept inode tables) (slice_index inode.direct) 0 108 kept_direct (marks_none old (pointer_kept inode tables))
      (subst (MarksEach old new (slice_index inode.direct)) long marks)

  pub direct_meets : (old : List Bool) → length inode.direct ≡ 108 → Meets old (slice_index inode.direct) (length inode.direct)
      → Meets old (pointer_kept inode tables) PLACES
  direct_meets old long meets =
      meets_more old old old (pointer_kept inode tables) (slice_index inode.direct) 0 108 kept_direct (marks_none old (pointer_kept inode tables)) PLACES
      (omega arith) (subst (Meets old (slice_index inode.direct)) long meets)

  module _ (old mid : List Bool) (place : ℕ) (small : place < 16) (first : MarksEach old mid (pointer_kept inode tables) (108 + 1024 * place)) where
    pub table_marked : (new : List Bool) → MarksEach mid new (λ k. entry_kept k (find (λ table. eqb table.place place) tables)) 1024
        → MarksEach old new (pointer_kept inode tables) (108 + 1024 * (place + 1))
    table_marked new marks =
        let e : 108 + 1024 * place + 1024 ≡ 108 + 1024 * (place + 1) = omega arith in
        subst (MarksEach old new (pointer_kept inode tables)) e
        (marks_more old mid new (pointer_kept inode tables) (λ k. entry_kept k (find (λ table. eqb table.place place) tables)) (108 + 1024 * place) 1024
        (λ k tiny. kept_entry place k small tiny) first marks)

    pub table_meets : Meets mid (λ k. entry_kept k (find (λ table. eqb table.place place) tables)) 1024 → Meets old (pointer_kept inode tables) PLACES
    table_meets meets =
        meets_more old mid mid (pointer_kept inode tables) (λ k. entry_kept k (find (λ table. eqb table.place place) tables)) (108 + 1024 * place) 1024
        (λ k tiny. kept_entry place k small tiny) first PLACES (omega arith) meets

  module _ (old mid new : List Bool) (first : MarksEach old mid (pointer_kept inode tables) (108 + 1024 * 16)) (long : length inode.indirect ≡ 16) where
    indirect_answers : (met : Bool) → AnswersMarks mid new (slice_index inode.indirect) 16 met → AnswersMarks old new (pointer_kept inode tables) PLACES met
    indirect_answers true meets =
        meets_more old mid new (pointer_kept inode tables) (slice_index inode.indirect) FILE_BLOCKS 16 (λ k _. kept_indirect k) first PLACES (omega arith) meets
    indirect_answers false marks =
        marks_more old mid new (pointer_kept inode tables) (slice_index inode.indirect) FILE_BLOCKS 16 (λ k _. kept_indirect k) first marks

    pub indirect_answered : (met : Bool) → AnswersMarks mid new (slice_index inode.indirect) (length inode.indirect) met
        → AnswersMarks old new (pointer_kept inode tables) PLACES met
    indirect_answered met answers = indirect_answers met (subst (λ (n : ℕ). AnswersMarks mid new (slice_index inode.indirect) n met) long answers)

  module _ (size : ℕ) (within : (place : ℕ) → place < PLACES → pointer_kept inode tables place < size) where
    pub direct_within : (k : ℕ) → k < 108 → slice_index inode.direct k < size
    direct_within k near = subst (λ (p : ℕ). p < size) (kept_direct k near) (within (0 + k) (omega arith))

    pub entry_within : (place k : ℕ) → place < 16 → k < 1024 → entry_kept k (find (λ table. eqb table.place place) tables) < size
    entry_within place k small tiny = subst (λ (p : ℕ). p < size) (kept_entry place k small tiny) (within (108 + 1024 * place + k) (omega arith))

    pub indirect_within_size : (k : ℕ) → k < 16 → slice_index inode.indirect k < size
    indirect_within_size k small = subst (λ (p : ℕ). p < size) (kept_indirect k) (within (FILE_BLOCKS + k) (omega arith))
