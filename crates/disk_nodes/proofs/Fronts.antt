-- The index of the first blocks.
use Rattle.std.proofs.Common.{◌≡◌, ℕ, ◌/◌, ◌<◌, true, false, List, [], length, get_or, take, Option, sym, ap, subst, ◌∙◌, arith}
use Rattle.std.specs.List.{list_any}
use Rattle.std.specs.Prelude.{is_none}
use Rattle.std.proofs.lemmas.List.{length-take}
use Rattle.sfs_image.specs.Slot.{Row}
use Rattle.disk_nodes.specs.Indexed.{Indexed, IsIndexOf}
use Rattle.disk_nodes.specs.Names.{TellOf, bucket_with, tells}
use Rattle.disk_nodes.proofs.Telling.{front_of}

-- an index that goes on telling of the first blocks is one of these
pub index_front : (blocks : List (List (Option Row))) (count : ℕ) (before after : Indexed) → IsIndexOf blocks before
    → ((name : List ℕ) (n : ℕ) → n < count → tells (bucket_with before.buckets name) n ≡ true → tells (bucket_with after.buckets name) n ≡ true)
    → after.full ≡ before.full → IsIndexOf (take count blocks) after
index_front blocks count before after was told same = record {
  names = λ n low.
      let within : n < length blocks = let cut = length-take count blocks in omega (arith, cut, low) in
      let first : n < count = let cut = length-take count blocks in omega (arith, cut, low) in
      subst (TellOf after.buckets n) (sym (front_of blocks count n [] first)) (λ k row is. told row.name n first (was.names n within k row is));
  full = λ n low full.
      let within : n < length blocks = let cut = length-take count blocks in omega (arith, cut, low) in
      let first : n < count = let cut = length-take count blocks in omega (arith, cut, low) in
      ap (list_any is_none) (front_of blocks count n [] first) ∙ was.full n within (ap (λ l. get_or l (n / 32) false) (sym same) ∙ full);
}
