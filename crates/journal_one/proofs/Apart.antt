-- The pieces of a commit lie apart from one another and from the gate.
use Rattle.std.proofs.Common.{◌≡◌, ◌≢◌, ℕ, zero, suc, ◌+◌, ◌-◌, ◌*◌, ◌<◌, ◌≤◌, map, length, get_or, refl, sym, ap, subst, arith, inl, inr}
use Rattle.std.proofs.lemmas.Bool.{cases_lt, cases_order}
use Rattle.std.proofs.lemmas.List.{length-map, get_or-map}
use Rattle.std.proofs.lemmas.List.Kept.{AllPairs-from_increasing}
use Rattle.sfs_image.specs.Journal.{Entry}
use Rattle.sfs_image.specs.Super.{data_start}
use Rattle.sfs_dev.specs.Ranges.{Apart}
use Rattle.journal_one.specs.Job.{Job, Piece, numbers_piece, records_piece, head_piece, body_piece, fill_count, fill_piece, table_piece, gate_piece, no_block, no_entry, IsJob, HaveOwnBlocks}
use Rattle.journal_one.proofs.Places.{body_lies, slot_ends, fresh_is, body_is, body_as, in_data, entry_long, record_ends, length-numbers, length-head, last_number}

-- two pieces share no byte
abbrev pub AreApart : Piece → Piece → Type 0
AreApart one other = Apart one.at (length one.bytes) other.at (length other.bytes)

pub AreApart-swap : (one other : Piece) → AreApart one other → AreApart other one
AreApart-swap one other (inl before) = inr before
AreApart-swap one other (inr behind) = inl behind

module _ (job : Job) (is : IsJob job) where
  -- a fresh block lies behind the table, and so behind the slot
  data_behind : (k : ℕ) → k < length job.fresh → 4096 * data_start job.place.layout ≤ (fill_piece job k).at
  data_behind k lt = subst (λ (p : Piece). 4096 * data_start job.place.layout ≤ p.at) (sym (fresh_is job is k lt)) (omega (arith, (in_data job is k lt).low))

  -- each piece is apart from the gate
  pub apart_from_gate : (k byte : ℕ) → AreApart (fill_piece job k) (gate_piece job.place byte)
  apart_from_gate k byte =
      elim (cases_lt k (length job.fresh)) [
        | inl lt ↦ inr (omega (arith, data_behind k lt, slot_ends job is))
        | inr le ↦
            let lies = body_lies job is (k - length job.fresh) in
            subst (λ (p : Piece). AreApart p (gate_piece job.place byte)) (sym (body_is job is k le)) (inr (omega (arith, lies.begins, lies.behind)))
      ]

  pub table_from_gate : (k byte : ℕ) → AreApart (table_piece job k) (gate_piece job.place byte)
  table_from_gate k byte = inr (omega (arith, slot_ends job is))

  -- a record of the table is apart from each piece that fills the slot
  pub table_from_fill : (j k : ℕ) → j < length job.entries → AreApart (table_piece job j) (fill_piece job k)
  table_from_fill j k within =
      elim (cases_lt k (length job.fresh)) [
        | inl lt ↦ inl (omega (arith, data_behind k lt, entry_long job is j within, record_ends job is j within))
        | inr le ↦
            let lies = body_lies job is (k - length job.fresh) in
            subst (λ (p : Piece). AreApart (table_piece job j) p) (sym (body_is job is k le)) (inr (omega (arith, lies.begins, lies.fits, slot_ends job is)))
      ]

  -- a piece of the body is apart from the gate, and from each record of the table
  pub body_from_gate : (k byte : ℕ) → AreApart (body_piece job k) (gate_piece job.place byte)
  body_from_gate k byte = subst (λ (p : Piece). AreApart p (gate_piece job.place byte)) (body_as job is k) (apart_from_gate (length job.fresh + k) byte)

  pub table_from_body : (j k : ℕ) → j < length job.entries → AreApart (table_piece job j) (body_piece job k)
  table_from_body j k within = subst (AreApart (table_piece job j)) (body_as job is k) (table_from_fill j (length job.fresh + k) within)

  -- the records of the table are apart from one another
  inode_below : (j k : ℕ) → j < k → k < length job.entries → (get_or job.entries j no_entry).inode < (get_or job.entries k no_entry).inode
  inode_below j k lt within =
      let inode : Entry → ℕ = λ entry. entry.inode in
      let numbers = map inode job.entries in
      let as_many : length numbers ≡ length job.entries = length-map job.entries inode in
      let a : get_or numbers j 0 ≡ (get_or job.entries j no_entry).inode = get_or-map inode job.entries j no_entry 0 (omega arith) in
      let b : get_or numbers k 0 ≡ (get_or job.entries k no_entry).inode = get_or-map inode job.entries k no_entry 0 within in
      omega (arith, AllPairs-from_increasing numbers is.are.ascend j k 0 lt (omega (arith, as_many)), a, b)

  pub tables_apart : (j k : ℕ) → j ≢ k → j < length job.entries → k < length job.entries → AreApart (table_piece job j) (table_piece job k)
  tables_apart j k other low high =
      elim (cases_order j k) [
        | inl same ↦ absurd (other same)
        | inr (inl lt) ↦ inl (omega (arith, inode_below j k lt high, entry_long job is j low))
        | inr (inr gt) ↦ inr (omega (arith, inode_below k j gt low, entry_long job is k high))
      ]

  -- the three pieces of the body
  numbers_from_records : AreApart (numbers_piece job) (records_piece job)
  numbers_from_records = inl (omega (arith, length-numbers job is, last_number job is))

  head_from_numbers : AreApart (head_piece job) (numbers_piece job)
  head_from_numbers = inl (omega (arith, length-head job is))

  head_from_records : AreApart (head_piece job) (records_piece job)
  head_from_records = inl (omega (arith, length-head job is, last_number job is))

  bodies_apart : (j k : ℕ) → j ≢ k → j < 3 → k < 3 → AreApart (body_piece job j) (body_piece job k)
  bodies_apart zero zero other a b = absurd (other refl)
  bodies_apart zero (suc zero) other a b = numbers_from_records
  bodies_apart zero (suc (suc k)) other a b = AreApart-swap (head_piece job) (numbers_piece job) head_from_numbers
  bodies_apart (suc zero) zero other a b = AreApart-swap (numbers_piece job) (records_piece job) numbers_from_records
  bodies_apart (suc zero) (suc zero) other a b = absurd (other refl)
  bodies_apart (suc zero) (suc (suc k)) other a b = AreApart-swap (head_piece job) (records_piece job) head_from_records
  bodies_apart (suc (suc j)) zero other a b = head_from_numbers
  bodies_apart (suc (suc j)) (suc zero) other a b = head_from_records
  bodies_apart (suc (suc j)) (suc (suc k)) other a b = absurd (other (let e : suc (suc j) ≡ suc (suc k) = omega arith in e))

  fresh_from_body : (j k : ℕ) → j < length job.fresh → length job.fresh ≤ k → AreApart (fill_piece job j) (fill_piece job k)
  fresh_from_body j k lt le =
      let lies = body_lies job is (k - length job.fresh) in
      subst (λ (p : Piece). AreApart (fill_piece job j) p) (sym (body_is job is k le))
      (inr (omega (arith, data_behind j lt, lies.begins, lies.fits, slot_ends job is)))

  fresh_from_fresh : (j k : ℕ) → j ≢ k → HaveOwnBlocks job.fresh → j < length job.fresh → k < length job.fresh → length (fill_piece job j).bytes ≡ 4096
      → length (fill_piece job k).bytes ≡ 4096
      → AreApart (fill_piece job j) (fill_piece job k)
  fresh_from_fresh j k other own low high whole_j whole_k =
      let at_j : (fill_piece job j).at ≡ 4096 * (get_or job.fresh j no_block).block = ap (λ (p : Piece). p.at) (fresh_is job is j low) in
      let at_k : (fill_piece job k).at ≡ 4096 * (get_or job.fresh k no_block).block = ap (λ (p : Piece). p.at) (fresh_is job is k high) in
      elim (cases_order (get_or job.fresh j no_block).block (get_or job.fresh k no_block).block) [
        | inl same ↦ absurd (other (own j k low high same))
        | inr (inl lt) ↦ inl (omega arith)
        | inr (inr gt) ↦ inr (omega arith)
      ]

  -- the pieces that fill the slot
  pub fills_apart : (j k : ℕ) → j ≢ k → HaveOwnBlocks job.fresh → j < fill_count job → k < fill_count job
      → (j < length job.fresh → length (fill_piece job j).bytes ≡ 4096) → (k < length job.fresh → length (fill_piece job k).bytes ≡ 4096)
      → AreApart (fill_piece job j) (fill_piece job k)
  fills_apart j k other own low high whole_j whole_k =
      elim (cases_lt j (length job.fresh)) [
        | inl a ↦ elim (cases_lt k (length job.fresh)) [
          | inl b ↦ fresh_from_fresh j k other own a b (whole_j a) (whole_k b)
          | inr b ↦ fresh_from_body j k a b
        ]
        | inr a ↦ elim (cases_lt k (length job.fresh)) [
          | inl b ↦ AreApart-swap (fill_piece job k) (fill_piece job j) (fresh_from_body k j b a)
          | inr b ↦
              subst (λ (p : Piece). AreApart p (fill_piece job k)) (sym (body_is job is j a))
              (subst (λ (p : Piece). AreApart (body_piece job (j - length job.fresh)) p) (sym (body_is job is k b))
              (bodies_apart (j - length job.fresh) (k - length job.fresh) (λ same. other (omega arith)) (omega arith) (omega arith)))
        ]
      ]
