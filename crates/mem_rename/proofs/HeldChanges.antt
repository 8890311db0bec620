-- What a core holds of which some buckets and files change.
use Rattle.std.proofs.Common.{◌≡◌, ℕ, ◌+◌, ◌*◌, ◌<◌, ◌≤◌, Bool, true, false, cond, ◌&&◌, nat_eq, nat_lt, Option, Some, None, IsSome, option_map, List, ◌⊎◌, inl, inr, refl, sym, ap, subst, ◌∙◌, arith}
use borrow.Author.Tests.{eqb-true, eqb-false, eq-eqb, ltb-true, ltb-false}
use Rattle.std.specs.Prelude.{Result, Ok, Err, OnOk, OnErr, MatchResult}
use Rattle.std.specs.Option.{option_and_then}
use Rattle.sfs_base.specs.declared.fault.NoMemory.{NoMemory}
use Rattle.sfs_base.proofs.BasicTruth.{and_first, and_second, true_or_false}
use Rattle.sfs_base.specs.declared.numbers.NodeId.{NodeId}
use Rattle.stamp_table.specs.declared.held.HeldCell.{HeldCell}
use Rattle.stamp_table.specs.Hand.{places_of}
use Rattle.stamp_table.specs.Table.{with_value}
use Rattle.stamp_table.proofs.Replacing.{same_places}
use Rattle.mem_values.specs.Start.{FileHand}
use Rattle.mem_values.specs.declared.cell.Cell.{Cell}
use Rattle.mem_values.specs.declared.cell.FileCell.{FileCell}
use Rattle.mem_values.specs.declared.bucket.Bucket.{Bucket}
use Rattle.mem_values.specs.declared.cell_id.CellId.{CellId}
use Rattle.mem_values.specs.declared.cell_id.CellId.TheVariants as id
use Rattle.mem_values.specs.Places.{cell_place}
use Rattle.mem_calls.specs.Held.{value_held, as_bucket, as_file, bucket_held, file_held}
use Rattle.mem_calls.specs.Changes.{PutsValue}
use Rattle.mem_calls.proofs.Taken.{value_with, put_twice, some_and_then}
use Rattle.mem_calls.proofs.Unlinked.{apart_value}
use Rattle.mem_rename.specs.Moving.{same_bucket, same_file, at_bucket, in_buckets_of, at_file, PutsBucket, PutsFile, IsOther, ChangesHeld}

mapped_same : {X : Type 0} (o : Option X) → option_map (λ x. x) o ≡ o
mapped_same None = refl
mapped_same (Some x) = refl

mapped_twice : {X : Type 0} (f g : X → X) (o : Option X) → option_map g (option_map f o) ≡ option_map (λ x. g (f x)) o
mapped_twice f g None = refl
mapped_twice f g (Some x) = refl

mapped_like : {X : Type 0} (f g : X → X) (o : Option X) → ((x : X) → f x ≡ g x) → option_map f o ≡ option_map g o
mapped_like f g None like = refl
mapped_like f g (Some x) like = ap Some (like x)

-- a value that was taken out of a bucket's cell and another one that was put there
pub puts_bucket : (nodes : ℕ) (before out after : FileHand) (node : NodeId) (number : ℕ) (by : Bucket → Bucket) (none value : Cell) (old new : Bucket)
    → bucket_held nodes before.held node number ≡ Some old → as_bucket value ≡ Some new
    → new ≡ by old → PutsValue nodes (id.Bucket node number) none before out → PutsValue nodes (id.Bucket node number) value out after
    → PutsBucket nodes node number by before after
puts_bucket nodes before out after node number by none value old new was is by_is one two = record {
  change = record {
    old = old;
    was = was;
    value = value;
    new = new;
    is = is;
    puts = put_twice nodes before out after (id.Bucket node number) none value one two;
  };
  is = by_is;
}

pub puts_file : (nodes : ℕ) (before out after : FileHand) (node : NodeId) (by : FileCell → FileCell) (none value : Cell) (old new : FileCell)
    → file_held nodes before.held node ≡ Some old → as_file value ≡ Some new
    → new ≡ by old → PutsValue nodes (id.File node) none before out → PutsValue nodes (id.File node) value out after → PutsFile nodes node by before after
puts_file nodes before out after node by none value old new was is by_is one two = record {
  change = record { old = old; was = was; value = value; new = new; is = is; puts = put_twice nodes before out after (id.File node) none value one two };
  is = by_is;
}

module _ (nodes : ℕ) where
  -- nothing changes
  pub same_held : (hand : FileHand) → ChangesHeld nodes same_bucket same_file hand hand
  same_held hand = record {
    frame = refl;
    places = refl;
    buckets = λ at n lt small. sym (mapped_same (bucket_held nodes hand.held at n));
    files = λ at lt. sym (mapped_same (file_held nodes hand.held at));
    others = λ which other. refl;
  }

  -- one change after the other
  pub both_held : (b c : NodeId → ℕ → Bucket → Bucket) (f g : NodeId → FileCell → FileCell) (before mid after : FileHand)
      → ChangesHeld nodes b f before mid → ChangesHeld nodes c g mid after
      → ChangesHeld nodes (λ at n x. c at n (b at n x)) (λ at x. g at (f at x)) before after
  both_held b c f g before mid after one two = record {
    frame = two.frame ∙ ap (λ (h : FileHand). record h { held = after.held }) one.frame;
    places = two.places ∙ one.places;
    buckets = λ at n lt small. two.buckets at n lt small
        ∙ (ap (option_map (c at n)) (one.buckets at n lt small) ∙ mapped_twice (b at n) (c at n) (bucket_held nodes before.held at n));
    files = λ at lt. two.files at lt ∙ (ap (option_map (g at)) (one.files at lt) ∙ mapped_twice (f at) (g at) (file_held nodes before.held at));
    others = λ which other. two.others which other ∙ one.others which other;
  }

  -- the same change in other words
  pub like_held : (b c : NodeId → ℕ → Bucket → Bucket) (f g : NodeId → FileCell → FileCell) (before after : FileHand)
      → ((at : NodeId) (n : ℕ) (x : Bucket) → n < 8 → b at n x ≡ c at n x) → ((at : NodeId) (x : FileCell) → f at x ≡ g at x)
      → ChangesHeld nodes b f before after → ChangesHeld nodes c g before after
  like_held b c f g before after like alike one = record {
    frame = one.frame;
    places = one.places;
    buckets = λ at n lt small. one.buckets at n lt small ∙ mapped_like (b at n) (c at n) (bucket_held nodes before.held at n) (λ x. like at n x small);
    files = λ at lt. one.files at lt ∙ mapped_like (f at) (g at) (file_held nodes before.held at) (alike at);
    others = one.others;
  }

  some_mapped : {X : Type 0} (f : X → X) (o p : Option X) → p ≡ option_map f o → IsSome o → IsSome p
  some_mapped f None p is some = absurd cc
  some_mapped f (Some x) p is some = subst IsSome (sym is) refl

  -- what is held of buckets and files still is
  pub bucket_stays : (b : NodeId → ℕ → Bucket → Bucket) (f : NodeId → FileCell → FileCell) (before after : FileHand) (at : NodeId) (n : ℕ)
      → ChangesHeld nodes b f before after → at.0 < nodes → n < 8 → IsSome (bucket_held nodes before.held at n)
      → IsSome (bucket_held nodes after.held at n)
  bucket_stays b f before after at n one lt small some = some_mapped (b at n) (bucket_held nodes before.held at n) (bucket_held nodes after.held at n)
      (one.buckets at n lt small) some

  pub file_stays : (b : NodeId → ℕ → Bucket → Bucket) (f : NodeId → FileCell → FileCell) (before after : FileHand) (at : NodeId)
      → ChangesHeld nodes b f before after → at.0 < nodes → IsSome (file_held nodes before.held at)
      → IsSome (file_held nodes after.held at)
  file_stays b f before after at one lt some = some_mapped (f at) (file_held nodes before.held at) (file_held nodes after.held at) (one.files at lt) some

  module _ (node : NodeId) (number : ℕ) (by : Bucket → Bucket) (before after : FileHand) (lt : node.0 < nodes) (small : number < 8)
      (one : PutsBucket nodes node number by before after) where
    abbrev value : Cell
    value = one.change.value

    abbrev here : CellId
    here = id.Bucket node number

    held_is : after.held ≡ with_value (cell_place nodes here) value before.held
    held_is = ap (λ (h : FileHand). h.held) one.change.puts

    else_where : (which : CellId) → (cell_place nodes here ≡ cell_place nodes which → ⊥)
        → value_held nodes after.held which ≡ value_held nodes before.held which
    else_where which apart = ap (λ l. value_held nodes l which) held_is ∙ apart_value nodes before.held here which value apart

    bucket_here : bucket_held nodes after.held node number ≡ Some (by one.change.old)
    bucket_here =
        ap (λ l. bucket_held nodes l node number) held_is
        ∙ (ap (option_and_then as_bucket)
        (value_with nodes here value before.held (some_and_then as_bucket (value_held nodes before.held here) one.change.old one.change.was))
        ∙ (one.change.is ∙ ap Some one.is))

    by_place : (at : NodeId) (n : ℕ) → n < 8 → (b : Bool) → (nat_eq node.0 at.0 && nat_eq number n) ≡ b
        → bucket_held nodes after.held at n ≡ option_map (λ x. cond b (by x) x) (bucket_held nodes before.held at n)
    by_place at n n_small true is =
        let same : node.0 ≡ at.0 = eqb-true _ _ (and_first _ _ is) in
        let same_n : number ≡ n = eqb-true _ _ (and_second (nat_eq node.0 at.0) _ is) in
        let there : bucket_held nodes after.held at n ≡ Some (by one.change.old) =
        (λ i. bucket_held nodes after.held (record { 0 = sym same i }) (sym same_n i)) ∙ bucket_here in
        let was : bucket_held nodes before.held at n ≡ Some one.change.old = (λ i. bucket_held nodes before.held (record { 0 = sym same i }) (sym same_n i))
        ∙ one.change.was in
        there ∙ sym (ap (option_map by) was)
    by_place at n n_small false is =
        ap (option_and_then as_bucket) (else_where (id.Bucket at n) (apart (nat_eq node.0 at.0) (nat_eq number n) refl refl is))
        ∙ sym (mapped_same (bucket_held nodes before.held at n))
      where
        apart : (a b : Bool) → nat_eq node.0 at.0 ≡ a → nat_eq number n ≡ b → (a && b) ≡ false → 16 + 9 * node.0 + number ≡ 16 + 9 * at.0 + n → ⊥
        apart true true one two e place = Rattle.sfs_base.proofs.BasicTruth.true_not_false e
        apart false b one two e place = let no = eqb-false _ _ one in no (omega (arith, place, small, n_small))
        apart true false one two e place = let no = eqb-false _ _ two in let same = eqb-true _ _ one in no (omega (arith, place, same))

    pub bucket_step : ChangesHeld nodes (at_bucket node number by) same_file before after
    bucket_step = record {
      frame = one.change.puts ∙ ap (λ (l : List (HeldCell Cell)). record before { held = l }) (sym held_is);
      places = ap (λ (l : List (HeldCell Cell)). places_of l) held_is ∙ same_places (cell_place nodes here) before.held value;
      buckets = λ at n at_lt n_small. by_place at n n_small (nat_eq node.0 at.0 && nat_eq number n) refl;
      files = λ at at_lt. ap (option_and_then as_file) (else_where (id.File at) (λ place. not_file at place))
          ∙ sym (mapped_same (file_held nodes before.held at));
      others = λ which other. else_where which (not_other which other);
    }
      where
        not_file : (at : NodeId) → 16 + 9 * node.0 + number ≡ 24 + 9 * at.0 → ⊥
        not_file at place = omega (arith, place, small)

        not_other : (which : CellId) → IsOther nodes which → cell_place nodes here ≡ cell_place nodes which → ⊥
        not_other id.Lock other place = omega (arith, place)
        not_other (id.Bucket at n) other place = other
        not_other (id.File at) other place = other
        not_other (id.Pending at) other place = omega (arith, place, lt, small)
        not_other (id.Part core) other place = omega (arith, place, lt, small)

  module _ (node : NodeId) (by : FileCell → FileCell) (before after : FileHand) (lt : node.0 < nodes) (one : PutsFile nodes node by before after) where
    abbrev file_cell : CellId
    file_cell = id.File node

    file_held_is : after.held ≡ with_value (cell_place nodes file_cell) one.change.value before.held
    file_held_is = ap (λ (h : FileHand). h.held) one.change.puts

    file_else : (which : CellId) → (cell_place nodes file_cell ≡ cell_place nodes which → ⊥)
        → value_held nodes after.held which ≡ value_held nodes before.held which
    file_else which apart = ap (λ l. value_held nodes l which) file_held_is ∙ apart_value nodes before.held file_cell which one.change.value apart

    file_here : file_held nodes after.held node ≡ Some (by one.change.old)
    file_here =
        ap (λ l. file_held nodes l node) file_held_is
        ∙ (ap (option_and_then as_file)
        (value_with nodes file_cell one.change.value before.held
        (some_and_then as_file (value_held nodes before.held file_cell) one.change.old one.change.was)) ∙ (one.change.is ∙ ap Some one.is))

    by_node : (at : NodeId) (b : Bool) → nat_eq node.0 at.0 ≡ b
        → file_held nodes after.held at ≡ option_map (λ x. cond b (by x) x) (file_held nodes before.held at)
    by_node at true is =
        let same : node.0 ≡ at.0 = eqb-true _ _ is in
        let there : file_held nodes after.held at ≡ Some (by one.change.old) = (λ i. file_held nodes after.held (record { 0 = sym same i })) ∙ file_here in
        let was : file_held nodes before.held at ≡ Some one.change.old = (λ i. file_held nodes before.held (record { 0 = sym same i })) ∙ one.change.was in
        there ∙ sym (ap (option_map by) was)
    by_node at false is =
        let no = eqb-false _ _ is in
        ap (option_and_then as_file) (file_else (id.File at) (λ place. no (omega (arith, place)))) ∙ sym (mapped_same (file_held nodes before.held at))

    pub file_step : ChangesHeld nodes same_bucket (at_file (Some node) by) before after
    file_step = record {
      frame = one.change.puts ∙ ap (λ (l : List (HeldCell Cell)). record before { held = l }) (sym file_held_is);
      places = ap (λ (l : List (HeldCell Cell)). places_of l) file_held_is ∙ same_places (cell_place nodes file_cell) before.held one.change.value;
      buckets = λ at n at_lt n_small. ap (option_and_then as_bucket) (file_else (id.Bucket at n) (λ place. not_bucket at n n_small place))
          ∙ sym (mapped_same (bucket_held nodes before.held at n));
      files = λ at at_lt. by_node at (nat_eq node.0 at.0) refl;
      others = λ which other. file_else which (not_other which other);
    }
      where
        not_bucket : (at : NodeId) (n : ℕ) → n < 8 → 24 + 9 * node.0 ≡ 16 + 9 * at.0 + n → ⊥
        not_bucket at n small place = omega (arith, place, small)

        not_other : (which : CellId) → IsOther nodes which → cell_place nodes file_cell ≡ cell_place nodes which → ⊥
        not_other id.Lock other place = omega (arith, place)
        not_other (id.Bucket at n) other place = other
        not_other (id.File at) other place = other
        not_other (id.Pending at) other place = omega (arith, place, lt)
        not_other (id.Part core) other place = omega (arith, place, lt)

-- the buckets of a directory below a number change
abbrev pub below_in : NodeId → ℕ → (Bucket → Bucket) → NodeId → ℕ → Bucket → Bucket
below_in node bound change at n bucket = cond (nat_eq node.0 at.0 && nat_lt n bound) (change bucket) bucket

lower_same : (a b : Bool) (x y : Bucket) → (b ≡ true → ⊥) → cond (a && b) x y ≡ y
lower_same true true x y never = absurd (never refl)
lower_same true false x y never = refl
lower_same false b x y never = refl

lower_more : (a b c d : Bool) (by : Bucket → Bucket) (x : Bucket) → (d ≡ true → (b ≡ true) ⊎ (c ≡ true)) → (b ≡ true → (c ≡ false) × (d ≡ true))
    → (c ≡ true → d ≡ true)
    → cond (a && c) (by (cond (a && b) (by x) x)) (cond (a && b) (by x) x) ≡ cond (a && d) (by x) x
lower_more false b c d by x front more end = refl
lower_more true true true d by x front more end = absurd (Rattle.sfs_base.proofs.BasicTruth.true_not_false (more refl).0)
lower_more true true false true by x front more end = refl
lower_more true true false false by x front more end = absurd (Rattle.sfs_base.proofs.BasicTruth.false_not_true (more refl).1)
lower_more true false true true by x front more end = refl
lower_more true false true false by x front more end = absurd (Rattle.sfs_base.proofs.BasicTruth.false_not_true (end refl))
lower_more true false false false by x front more end = refl
lower_more true false false true by x front more end = elim (front refl)
    [ inl bad ↦ absurd (Rattle.sfs_base.proofs.BasicTruth.false_not_true bad) | inr bad ↦ absurd (Rattle.sfs_base.proofs.BasicTruth.false_not_true bad) ]

lt-true : (a b : ℕ) → a < b → nat_lt a b ≡ true
lt-true a b lt = elim (true_or_false (nat_lt a b)) [ inl less ↦ less | inr other ↦ let ge = ltb-false a b other in absurd (omega (arith, lt, ge)) ]

module _ (nodes : ℕ) (node : NodeId) (by : Bucket → Bucket) (before : FileHand) where
  pub below_begins : ChangesHeld nodes (below_in node 0 by) same_file before before
  below_begins = like_held nodes same_bucket (below_in node 0 by) same_file same_file before before
      (λ at n x small. sym (lower_same (nat_eq node.0 at.0) (nat_lt n 0) (by x) x (λ (is : nat_lt n 0 ≡ true). let lt = ltb-true n 0 is in omega (arith, lt))))
      (λ at x. refl)
      (same_held nodes before)

  pub below_more : (k : ℕ) (mid after : FileHand) → node.0 < nodes → k < 8 → ChangesHeld nodes (below_in node k by) same_file before mid
      → PutsBucket nodes node k by mid after → ChangesHeld nodes (below_in node (k + 1) by) same_file before after
  below_more k mid after lt small one two =
      like_held nodes (λ at n x. at_bucket node k by at n (below_in node k by at n x)) (below_in node (k + 1) by) same_file same_file before after
      (λ at n x n_small. lower_more (nat_eq node.0 at.0) (nat_lt n k) (nat_eq k n) (nat_lt n (k + 1)) by x (front n) (more n) (end n)) (λ at x. refl)
      (both_held nodes (below_in node k by) (at_bucket node k by) same_file same_file before mid after one (bucket_step nodes node k by mid after lt small two))
    where
      front : (n : ℕ) → nat_lt n (k + 1) ≡ true → (nat_lt n k ≡ true) ⊎ (nat_eq k n ≡ true)
      front n is = elim (true_or_false (nat_lt n k)) [
        | inl less ↦ inl less
        | inr other ↦ let lt = ltb-true n (k + 1) is in let ge = ltb-false n k other in inr (eq-eqb k n (omega (arith, lt, ge)))
      ]

      more : (n : ℕ) → nat_lt n k ≡ true → (nat_eq k n ≡ false) × (nat_lt n (k + 1) ≡ true)
      more n is = let lt = ltb-true n k is in (
        elim (true_or_false (nat_eq k n)) [ inl here ↦ let same = eqb-true k n here in absurd (omega (arith, lt, same)) | inr other ↦ other ],
        lt-true n
            (k + 1) (omega (arith, lt)),
      )

      end : (n : ℕ) → nat_eq k n ≡ true → nat_lt n (k + 1) ≡ true
      end n is = let same = eqb-true k n is in lt-true n (k + 1) (omega (arith, same))

  pub below_ends : (k : ℕ) (after : FileHand) → 8 ≤ k → ChangesHeld nodes (below_in node k by) same_file before after
      → ChangesHeld nodes (in_buckets_of (Some node) by) same_file before after
  below_ends k after all one =
      like_held nodes (below_in node k by) (in_buckets_of (Some node) by) same_file same_file before after
      (λ at n x small. ap (λ b. cond (nat_eq node.0 at.0 && b) (by x) x) (lt-true n k (omega (arith, small, all))) ∙ drop (nat_eq node.0 at.0) (by x) x)
      (λ at x. refl) one
    where
      drop : (a : Bool) (x y : Bucket) → cond (a && true) x y ≡ cond a x y
      drop true x y = refl
      drop false x y = refl

-- what comes of a row that is put or refused memory
pub put_or_same : {X : Type 0} (nodes : ℕ) (node : NodeId) (number : ℕ) (by : Bucket → Bucket) (before after : FileHand) (outcome : Result X NoMemory)
    (old new : Bucket) → OnOk outcome (new ≡ by old) → OnErr outcome (new ≡ old)
    → ((change : Bucket → Bucket) → new ≡ change old → PutsBucket nodes node number change before after)
    → MatchResult outcome (λ _. PutsBucket nodes node number by before after) (λ _. PutsBucket nodes node number (λ b. b) before after)
put_or_same nodes node number by before after (Ok x) old new ok err puts = puts by ok
put_or_same nodes node number by before after (Err fault) old new ok err puts = puts (λ b. b) err
