-- Buckets by which a directory stands elsewhere, one after the other.
use Rattle.std.proofs.Common.{◌≡◌, ◌<◌, ◌≤◌, ◌+◌, ◌*◌, ℕ, List, Option, Some, IsSome, refl, sym, ap, subst, ◌∙◌, arith, ⊎_elim, true, false, ◌==◌}
use borrow.Author.Tests.{eqb-true}
use Rattle.std.specs.Option.{option_and_then}
use Rattle.std.proofs.lemmas.Bool.{cases_Bool, both_ways}
use Rattle.std.proofs.lemmas.Bool.Decides.{nat_tests}
use Rattle.sfs_base.specs.declared.numbers.NodeId.{NodeId}
use Rattle.stamp_table.specs.Hand.{places_of}
use Rattle.stamp_table.specs.Table.{with_value}
use Rattle.stamp_table.proofs.Replacing.{same_places}
use Rattle.mem_values.specs.Start.{FileHand}
use Rattle.mem_values.specs.declared.bucket.Bucket.{Bucket}
use Rattle.mem_values.specs.declared.cell_id.CellId.{CellId}
use Rattle.mem_values.specs.declared.cell_id.CellId.TheVariants as id
use Rattle.mem_values.specs.Places.{cell_place}
use Rattle.mem_values.proofs.Basics.{some_of}
use Rattle.mem_calls.specs.Held.{value_held, as_bucket, bucket_held}
use Rattle.mem_calls.specs.Ends.{IsPlacedBucket, PlacesBucket, PlacesDirectory}
use Rattle.mem_calls.proofs.Nothing.{some_first}
use Rattle.mem_calls.proofs.Taken.{value_with}
use Rattle.mem_calls.proofs.Unlinked.{apart_value}

module _ (nodes : ℕ) (node : NodeId) (count : ℕ) (place : Option NodeId) (before now : FileHand)
    (done : PlacesDirectory nodes node count place before now) where
  -- a bucket whose turn has not come is as it was
  same_next : bucket_held nodes now.held node count ≡ bucket_held nodes before.held node count
  same_next = ap (option_and_then as_bucket)
      (done.rest (id.Bucket node count) (λ k lt same. let at : 16 + 9 * node.0 + k ≡ 16 + 9 * node.0 + count = same in omega (arith, lt, at)))

  pub still_there : IsSome (bucket_held nodes before.held node count) → IsSome (bucket_held nodes now.held node count)
  still_there some = subst IsSome (sym same_next) some

  pub one_more : (after : FileHand) → count < 8 → PlacesBucket nodes node count place now after
      → PlacesDirectory nodes node (count + 1) place before after
  one_more after eight leaves = record {
    frame = ap (λ (h : FileHand). record h { held = before.held }) leaves.change.puts ∙ done.frame;
    places = ap (λ (h : FileHand). places_of h.held) leaves.change.puts
        ∙ (same_places (cell_place nodes (id.Bucket node count)) now.held leaves.change.value ∙ done.places);
    placed = λ k old lt was. ⊎_elim
        (λ (here : (count == k) ≡ true). this k old (eqb-true count k here) was)
        (λ (other : (count == k) ≡ false). let new = done.placed k old (below_other k lt other) was in
        (new.0, ap (option_and_then as_bucket) (apart_now (id.Bucket node k) (λ same. not_here k same other)) ∙ new.1, new.2))
        (cases_Bool (count == k));
    rest = λ which apart. apart_now which (apart count (omega arith)) ∙ done.rest which (λ k lt. apart k (omega (arith, lt)));
  }
    where
      after_held : after.held ≡ with_value (cell_place nodes (id.Bucket node count)) leaves.change.value now.held
      after_held = ap (λ (h : FileHand). h.held) leaves.change.puts

      apart_now : (which : CellId) → (cell_place nodes (id.Bucket node count) ≡ cell_place nodes which → ⊥)
          → value_held nodes after.held which ≡ value_held nodes now.held which
      apart_now which apart = ap (λ l. value_held nodes l which) after_held ∙ apart_value nodes now.held (id.Bucket node count) which leaves.change.value apart

      below_other : (k : ℕ) → k < count + 1 → (count == k) ≡ false → k < count
      below_other k lt other = grind (arith, nat_tests)

      not_here : (k : ℕ) → cell_place nodes (id.Bucket node count) ≡ cell_place nodes (id.Bucket node k) → (count == k) ≡ false → ⊥
      not_here k same other = let at : 16 + 9 * node.0 + count ≡ 16 + 9 * node.0 + k = same in
          both_ways (count == k) other (Rattle.std.proofs.Common.eq-eqb count k (omega (arith, at)))

      found_new : bucket_held nodes after.held node count ≡ Some leaves.change.new
      found_new = ap (λ l. bucket_held nodes l node count) after_held
          ∙ (ap (option_and_then as_bucket)
          (value_with nodes (id.Bucket node count) leaves.change.value now.held
          (some_first as_bucket (value_held nodes now.held (id.Bucket node count))
          (some_of (bucket_held nodes now.held node count) leaves.change.old leaves.change.was)))
          ∙ leaves.change.is)

      this : (k : ℕ) (old : Bucket) → count ≡ k → bucket_held nodes before.held node k ≡ Some old → (new : Bucket)
          × (bucket_held nodes after.held node k ≡ Some new) × IsPlacedBucket place old new
      this k old here was =
          let same : leaves.change.old ≡ old = cc (sym leaves.change.was ∙ (same_next ∙ (ap (bucket_held nodes before.held node) here ∙ was))) in (
            leaves.change.new,
            ap (bucket_held nodes after.held node) (sym here)
                ∙ found_new,
            subst (λ b. IsPlacedBucket place b leaves.change.new) same leaves.placed,
          )

-- before the first bucket nothing has changed
pub at_first : (nodes : ℕ) (node : NodeId) (place : Option NodeId) (hand : FileHand) → PlacesDirectory nodes node 0 place hand hand
at_first nodes node place hand = record {
  frame = refl;
  places = refl;
  placed = λ k old lt was. absurd (omega (arith, lt));
  rest = λ which apart. refl;
}
