-- The blocks of a sound part of a file have its bytes.
use Rattle.std.proofs.Common.{◌≡◌, ℕ, ◌+◌, ◌*◌, ◌/◌, ◌%◌, ◌<◌, ◌≤◌, true, false, List, [], ◌++◌, length, take, get_or, inl, inr, sym, ap, subst, ◌∙◌, arith, nat_eq, nat_lt}
use Rattle.std.specs.Prelude.{slice_index, slice_index_or}
use borrow.Author.Tests.{eqb-true, eq-eqb}
use Rattle.std.proofs.Math.ListN.{drop_of_length-le}
use Rattle.std.proofs.lemmas.Bool.{cond-true, cases_Bool, cases_lt, eqb-false, lt-ltb}
use Rattle.std.proofs.lemmas.List.{ext_get_or, get_or_past, take_all}
use Rattle.sfs_base.specs.declared.numbers.Kind.TheVariants.{File}
use Rattle.sfs_image.specs.Bytes.{zeros}
use Rattle.sfs_image.specs.Part.{Part, inode_in, is_file_part, is_free_part, pointer_at, read_block, file_byte, seen_of}
use Rattle.sfs_image.specs.Seen.{FILE_BLOCKS}
use Rattle.sfs_image.specs.Slot.{kind_byte}
use Rattle.sfs_image.specs.Super.{Layout}
use Rattle.sfs_image.proofs.Basics.{get_or-tabulate}
use Rattle.sfs_image.proofs.BytesLaws.{length-zeros}
use Rattle.sfs_image.proofs.MadeLaws.{gathered_is_read}
use Rattle.sfs_image.proofs.PartLaws.{hole_is_read, block_behind}
use Rattle.sfs_image.proofs.RuleFacts.{tails_say, blocks_cover}
use Rattle.sfs_image.proofs.RuleLaws.{good_from_rule}
use Rattle.commit_laws.specs.FilesMade.{HasBytesInBlocks}
use Rattle.commit_laws.specs.Rewritten.{bytes_in_block}
use Rattle.commit_laws.proofs.FilesMade.{byte_in_block, length_block}
use Rattle.commit_laws.proofs.GoodParts.{IsGoodPart, good_part}
use Rattle.flush_laws.specs.Ready.{AreSoundParts}

module _ (layout : Layout) (store : ℕ → List ℕ) (parts : ℕ → Part) (sound : AreSoundParts layout store parts) (i : ℕ) (low : i < layout.inodes) (bytes : List ℕ)
    (kind : (inode_in (parts i)).kind ≡ kind_byte File) (size : (inode_in (parts i)).size ≡ length bytes) (shown : (seen_of (parts i)).bytes ≡ bytes) where
  abbrev part : Part
  part = parts i

  good : IsGoodPart layout part
  good = good_part layout parts sound.good i low

  is_file : is_file_part part ≡ true
  is_file = eq-eqb (inode_in part).kind (kind_byte File) kind

  used : is_free_part part ≡ false
  used = ap (λ k. nat_eq k 0) kind

  block_is : (n : ℕ) → n < FILE_BLOCKS → slice_index_or part.blocks n [] ≡ read_block store (pointer_at part n)
  block_is n within =
      sym (cond-true (nat_lt n FILE_BLOCKS) _ _ (lt-ltb n FILE_BLOCKS within)) ∙ gathered_is_read store part n (sound.gathered i low) (omega arith)

  -- each block is whole
  long : (n : ℕ) → n < FILE_BLOCKS → length (slice_index_or part.blocks n []) ≡ 4096
  long n within = ap length (block_is n within) ∙ elim (cases_Bool (nat_eq (pointer_at part n) 0)) [
    | inl none ↦ ap length (hole_is_read store (pointer_at part n) (eqb-true _ 0 none)) ∙ length-zeros 4096
    | inr some ↦
        let there = eqb-false (pointer_at part n) 0 some in
        let well = good_from_rule layout part n good.pointers used (omega arith) there in
        ap length (block_behind store (pointer_at part n) there) ∙ sound.whole (pointer_at part n) well.low well.high
  ]

  -- a byte of the file is that of its block
  byte_is : (place : ℕ) → place < length bytes → file_byte part place ≡ slice_index bytes place
  byte_is place inside =
      sym (get_or-tabulate (inode_in part).size (file_byte part) place 0 (omega (arith, inside, size)))
      ∙ ap (λ those. get_or those place 0) (sym (cond-true (is_file_part part) _ [] is_file) ∙ shown)

  inside_block : (n : ℕ) → n < FILE_BLOCKS → 4096 * n < length bytes → slice_index_or part.blocks n [] ≡ bytes_in_block n bytes
  inside_block n within begins =
      ext_get_or 0 (slice_index_or part.blocks n []) (bytes_in_block n bytes) (long n within ∙ sym (length_block n bytes)) (λ r inside.
      let low_r : r < 4096 = subst (λ l. r < l) (long n within) inside in
      let block : (4096 * n + r) / 4096 ≡ n = omega arith in
      let rest : (4096 * n + r) % 4096 ≡ r = omega arith in
      sym (ap (λ m. slice_index (slice_index_or part.blocks m []) ((4096 * n + r) % 4096)) block ∙ ap (slice_index (slice_index_or part.blocks n [])) rest)
      ∙ elim (cases_lt (4096 * n + r) (length bytes)) [
        | inl there ↦ byte_is (4096 * n + r) there
        | inr past ↦
            (tails_say part).0 good.tail is_file (4096 * n + r) (omega (arith, past, size)) (omega (arith, begins, size))
            ∙ sym (get_or_past bytes (4096 * n + r) 0 past)
      ] ∙ sym (byte_in_block n r bytes low_r))

  outside_block : (n : ℕ) → n < FILE_BLOCKS → length bytes ≤ 4096 * n → slice_index_or part.blocks n [] ≡ bytes_in_block n bytes
  outside_block n within past =
      block_is n within ∙ elim (cases_Bool (nat_eq (pointer_at part n) 0)) [
        | inl none ↦ hole_is_read store (pointer_at part n) (eqb-true _ 0 none)
        | inr some ↦ absurd (
            let well = good_from_rule layout part n good.pointers used (omega arith) (eqb-false (pointer_at part n) 0 some) in
            let covered = well.covers in
            let first = blocks_cover n within in
            omega (arith, covered, first, past, size))
      ]
      ∙ sym (take_all 4096 (zeros 4096) (omega (arith, length-zeros 4096))) ∙ sym (ap (λ those. take 4096 (those ++ zeros 4096)) (drop_of_length-le bytes past))

  pub file_has_blocks : HasBytesInBlocks part bytes
  file_has_blocks n within = elim (cases_lt (4096 * n) (length bytes)) [
    | inl begins ↦ inside_block n within begins
    | inr past ↦ outside_block n within past
  ]
