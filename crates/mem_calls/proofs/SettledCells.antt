-- Cells of a node that get what its creation makes of them.
use Rattle.std.proofs.Common.{◌≡◌, ◌<◌, ◌+◌, ℕ, Bool, true, false, Some, IsSome, refl, sym, ap, subst, ◌∙◌, eq-eqb, ⊎_elim}
use borrow.Author.Tests.{eqb-true}
use Rattle.std.specs.Prelude.{◌||◌}
use Rattle.std.specs.Option.{option_and_then}
use Rattle.std.proofs.lemmas.Bool.{cases_Bool, both_ways}
use Rattle.sfs_base.proofs.BasicTruth.{or_first, or_second}
use Rattle.sfs_base.specs.declared.numbers.NodeId.{NodeId}
use Rattle.sfs_base.specs.declared.numbers.Kind.{Kind}
use Rattle.sfs_base.specs.declared.numbers.Kind.TheVariants.{File, Directory}
use Rattle.stamp_table.specs.Hand.{places_of}
use Rattle.stamp_table.proofs.Replacing.{same_places}
use Rattle.mem_values.specs.Start.{FileHand}
use Rattle.mem_values.specs.declared.cell.Cell.{Cell}
use Rattle.mem_values.specs.declared.cell.Cell.TheVariants as cell
use Rattle.mem_values.specs.declared.cell.FileCell.{FileCell}
use Rattle.mem_values.specs.declared.cell.Pending.{Pending}
use Rattle.mem_values.specs.declared.bucket.Bucket.{Bucket}
use Rattle.mem_values.specs.declared.cell_id.CellId.{CellId}
use Rattle.mem_values.specs.declared.cell_id.CellId.TheVariants as id
use Rattle.mem_values.specs.Places.{cell_place, IsCell}
use Rattle.mem_values.proofs.Places.{places_apart}
use Rattle.mem_values.proofs.Basics.{is_value, some_of}
use Rattle.mem_calls.specs.Held.{value_held, as_bucket, as_file, as_pending, bucket_held, file_held, pending_held}
use Rattle.mem_calls.specs.Sums.{HoldsBuckets}
use Rattle.mem_calls.specs.Changes.{PutsValue, RaisesLinks}
use Rattle.mem_calls.specs.Ends.{IsPlacedBucket, PlacesDirectory}
use Rattle.mem_calls.specs.Creations.{is_own_cell, is_flushed_cell, IsSettled, SettlesCreation}
use Rattle.mem_calls.proofs.Nothing.{some_first}
use Rattle.mem_calls.proofs.Taken.{value_with}
use Rattle.mem_calls.proofs.Unlinked.{apart_value}

-- what becomes of a value by what becomes of the bucket, the file or the flushed node that it is
settled_bucket : (dir : NodeId) (x y : Cell) (old new : Bucket) → as_bucket x ≡ Some old → as_bucket y ≡ Some new → IsPlacedBucket (Some dir) old new
    → IsSettled dir x y
settled_bucket dir (cell.Bucket p) (cell.Bucket q) old new one two placed =
    let was : old ≡ p.value = cc (one) in
    let is : new ≡ q.value = cc (two) in
    subst (λ (b : Bucket × Bucket). IsPlacedBucket (Some dir) b.0 b.1) (λ i. (was i, is i)) placed
settled_bucket dir (cell.Bucket p) (cell.Lock q) old new one two placed = absurd (cc (two))
settled_bucket dir (cell.Bucket p) (cell.File q) old new one two placed = absurd (cc (two))
settled_bucket dir (cell.Bucket p) (cell.Pending q) old new one two placed = absurd (cc (two))
settled_bucket dir (cell.Bucket p) (cell.Part q) old new one two placed = absurd (cc (two))
settled_bucket dir (cell.Lock p) y old new one two placed = absurd (cc (one))
settled_bucket dir (cell.File p) y old new one two placed = absurd (cc (one))
settled_bucket dir (cell.Pending p) y old new one two placed = absurd (cc (one))
settled_bucket dir (cell.Part p) y old new one two placed = absurd (cc (one))

settled_file : (dir : NodeId) (x y : Cell) (old new : FileCell) → as_file x ≡ Some old → as_file y ≡ Some new → new.links ≡ old.links + 1 → new.file ≡ old.file
    → IsSettled dir x y
settled_file dir (cell.File p) (cell.File q) old new one two links file =
    let was : old ≡ p.value = cc (one) in
    let is : new ≡ q.value = cc (two) in
    subst (λ (f : FileCell × FileCell). (f.1.links ≡ f.0.links + 1) × (f.1.file ≡ f.0.file)) (λ i. (was i, is i)) (links, file)
settled_file dir (cell.File p) (cell.Lock q) old new one two links file = absurd (cc (two))
settled_file dir (cell.File p) (cell.Bucket q) old new one two links file = absurd (cc (two))
settled_file dir (cell.File p) (cell.Pending q) old new one two links file = absurd (cc (two))
settled_file dir (cell.File p) (cell.Part q) old new one two links file = absurd (cc (two))
settled_file dir (cell.Lock p) y old new one two links file = absurd (cc (one))
settled_file dir (cell.Bucket p) y old new one two links file = absurd (cc (one))
settled_file dir (cell.Pending p) y old new one two links file = absurd (cc (one))
settled_file dir (cell.Part p) y old new one two links file = absurd (cc (one))

settled_pending : (dir : NodeId) (x y : Cell) (old new : Pending) → as_pending x ≡ Some old → as_pending y ≡ Some new → new ≡ record old { made_in = Some dir }
    → IsSettled dir x y
settled_pending dir (cell.Pending p) (cell.Pending q) old new one two made =
    let was : old ≡ p.value = cc (one) in
    let is : new ≡ q.value = cc (two) in
    subst (λ (f : Pending × Pending). f.1 ≡ record f.0 { made_in = Some dir }) (λ i. (was i, is i)) made
settled_pending dir (cell.Pending p) (cell.Lock q) old new one two made = absurd (cc (two))
settled_pending dir (cell.Pending p) (cell.Bucket q) old new one two made = absurd (cc (two))
settled_pending dir (cell.Pending p) (cell.File q) old new one two made = absurd (cc (two))
settled_pending dir (cell.Pending p) (cell.Part q) old new one two made = absurd (cc (two))
settled_pending dir (cell.Lock p) y old new one two made = absurd (cc (one))
settled_pending dir (cell.Bucket p) y old new one two made = absurd (cc (one))
settled_pending dir (cell.File p) y old new one two made = absurd (cc (one))
settled_pending dir (cell.Part p) y old new one two made = absurd (cc (one))

-- the cells of a new file, and what was flushed of a new node
file_only : (child : NodeId) (which : CellId) → is_own_cell child File which ≡ true → which ≡ id.File child
file_only child (id.File node) is = λ i. id.File (record { 0 = sym (eqb-true child.0 node.0 is) i })
file_only child id.Lock is = absurd (cc (is))
file_only child (id.Bucket node number) is = absurd (cc (is))
file_only child (id.Pending node) is = absurd (cc (is))
file_only child (id.Part core) is = absurd (cc (is))

flushed_only : (child : NodeId) (which : CellId) → is_flushed_cell child which ≡ true → which ≡ id.Pending child
flushed_only child (id.Pending node) is = λ i. id.Pending (record { 0 = sym (eqb-true child.0 node.0 is) i })
flushed_only child id.Lock is = absurd (cc (is))
flushed_only child (id.Bucket node number) is = absurd (cc (is))
flushed_only child (id.File node) is = absurd (cc (is))
flushed_only child (id.Part core) is = absurd (cc (is))

-- no cell is both
pub own_or_flushed : (child : NodeId) (kind : Kind) (which : CellId) → is_own_cell child kind which ≡ true → is_flushed_cell child which ≡ false
own_or_flushed child kind id.Lock is = refl
own_or_flushed child kind (id.Bucket node number) is = refl
own_or_flushed child kind (id.File node) is = refl
own_or_flushed child kind (id.Part core) is = refl
own_or_flushed child File (id.Pending node) is = absurd (cc (is))
own_or_flushed child Directory (id.Pending node) is = absurd (cc (is))

module _ (nodes : ℕ) (dir : NodeId) (before after : FileHand) where
  -- one cell alone
  settles_one : (test : CellId → Bool) (one : CellId) (old new : Cell) → ((cores : ℕ) → IsCell nodes cores one) → test one ≡ true
      → ((which : CellId) → test which ≡ true → which ≡ one)
      → value_held nodes before.held one ≡ Some old → PutsValue nodes one new before after → IsSettled dir old new → SettlesCreation nodes test dir before after
  settles_one test one old new is_one passes only was puts is = record {
    frame = ap (λ (h : FileHand). record h { held = before.held }) puts;
    places = ap (λ (h : FileHand). places_of h.held) puts ∙ same_places (cell_place nodes one) before.held new;
    settled = λ cores which x is_cell of_test found.
        let same : which ≡ one = only which of_test in
        let old_is : old ≡ x = cc (sym was ∙ (ap (value_held nodes before.held) (sym same) ∙ found)) in (
          new,
          ap (value_held nodes after.held) same ∙ (ap (λ (h : FileHand). value_held nodes h.held one) puts
              ∙ value_with nodes one new before.held (some_of (value_held nodes before.held one) old was)),
          subst (λ v. IsSettled dir v new) old_is is,
        );
    rest = λ cores which is_cell fails. ap (λ (h : FileHand). value_held nodes h.held which) puts
        ∙ apart_value nodes before.held one which new
        (λ at. both_ways (test which) fails (ap test (places_apart nodes cores which one is_cell (is_one cores) (sym at)) ∙ passes));
  }

  pub settles_file : (child : NodeId) → child.0 < nodes → RaisesLinks nodes child before after → SettlesCreation nodes (is_own_cell child File) dir before after
  settles_file child within raised =
      let there = is_value (value_held nodes before.held (id.File child)) (some_first as_file (value_held nodes before.held (id.File child))
      (some_of (file_held nodes before.held child) raised.change.old raised.change.was)) in
      settles_one (is_own_cell child File) (id.File child) there.0 raised.change.value (λ cores. within) (eq-eqb child.0 child.0 refl)
      (file_only child) there.1 raised.change.puts
      (settled_file dir there.0 raised.change.value raised.change.old raised.change.new
      (sym (ap (option_and_then as_file) there.1) ∙ raised.change.was) raised.change.is raised.links raised.file)

  pub settles_pending : (child : NodeId) (old new : Pending) (value : Cell) → child.0 < nodes → pending_held nodes before.held child ≡ Some old
      → as_pending value ≡ Some new
      → new ≡ record old { made_in = Some dir } → PutsValue nodes (id.Pending child) value before after
      → SettlesCreation nodes (is_flushed_cell child) dir before after
  settles_pending child old new value within was is made puts =
      let there = is_value (value_held nodes before.held (id.Pending child)) (some_first as_pending (value_held nodes before.held (id.Pending child))
      (some_of (pending_held nodes before.held child) old was)) in
      settles_one (is_flushed_cell child) (id.Pending child) there.0 value (λ cores. within) (eq-eqb child.0 child.0 refl) (flushed_only child) there.1 puts
      (settled_pending dir there.0 value old new (sym (ap (option_and_then as_pending) there.1) ∙ was) is made)

  module _ (child : NodeId) (within : child.0 < nodes) (holds : HoldsBuckets nodes before.held child)
      (all : PlacesDirectory nodes child 8 (Some dir) before after) where
    here : (number : ℕ) (x : Cell) → number < 8 → value_held nodes before.held (id.Bucket child number) ≡ Some x
        → (new : Cell) × (value_held nodes after.held (id.Bucket child number) ≡ Some new) × IsSettled dir x new
    here number x lt found =
        let old = is_value (bucket_held nodes before.held child number) (holds number lt) in
        let new = all.placed number old.0 lt old.1 in
        let there = is_value (value_held nodes after.held (id.Bucket child number)) (some_first as_bucket (value_held nodes after.held (id.Bucket child number))
        (some_of (bucket_held nodes after.held child number) new.0 new.1)) in (
          there.0,
          there.1,
          settled_bucket dir x there.0 old.0 new.0 (sym (ap (option_and_then as_bucket) found) ∙ old.1)
              (sym (ap (option_and_then as_bucket) there.1) ∙ new.1) new.2,
        )

    one_bucket : (cores : ℕ) (which : CellId) (x : Cell) → IsCell nodes cores which → is_own_cell child Directory which ≡ true
        → value_held nodes before.held which ≡ Some x
        → (new : Cell) × (value_held nodes after.held which ≡ Some new) × IsSettled dir x new
    one_bucket cores (id.Bucket node number) x is_cell passes found =
        let same : child ≡ node = λ i. record { 0 = eqb-true child.0 node.0 passes i } in
        subst (λ (n : NodeId). (new : Cell) × (value_held nodes after.held (id.Bucket n number) ≡ Some new) × IsSettled dir x new) same
        (here number x is_cell.1 (ap (λ (n : NodeId). value_held nodes before.held (id.Bucket n number)) same ∙ found))
    one_bucket cores id.Lock x is_cell passes found = absurd (cc (passes))
    one_bucket cores (id.File node) x is_cell passes found = absurd (cc (passes))
    one_bucket cores (id.Pending node) x is_cell passes found = absurd (cc (passes))
    one_bucket cores (id.Part core) x is_cell passes found = absurd (cc (passes))

    pub settles_directory : SettlesCreation nodes (is_own_cell child Directory) dir before after
    settles_directory = record {
      frame = all.frame;
      places = all.places;
      settled = one_bucket;
      rest = λ cores which is_cell fails. all.rest which (λ number lt at. both_ways (is_own_cell child Directory which) fails
          (ap (is_own_cell child Directory) (places_apart nodes cores which (id.Bucket child number) is_cell (within, lt) (sym at))
          ∙ eq-eqb child.0 child.0 refl));
    }

module _ (nodes : ℕ) (dir : NodeId) (before mid after : FileHand) where
  -- cells of one sort and then those of another
  pub settles_both : (one two : CellId → Bool) → ((which : CellId) → one which ≡ true → two which ≡ false) → SettlesCreation nodes one dir before mid
      → SettlesCreation nodes two dir mid after → SettlesCreation nodes (λ which. one which || two which) dir before after
  settles_both one two apart first second = record {
    frame = ap (λ (h : FileHand). record h { held = before.held }) second.frame ∙ first.frame;
    places = second.places ∙ first.places;
    settled = λ cores which x is_cell passes found. ⊎_elim
        (λ is. let s = first.settled cores which x is_cell is found in (s.0, second.rest cores which is_cell (apart which is) ∙ s.1, s.2))
        (λ not. second.settled cores which x is_cell (sym (ap (λ b. b || two which) not) ∙ passes) (first.rest cores which is_cell not ∙ found))
        (cases_Bool (one which));
    rest = λ cores which is_cell fails. second.rest cores which is_cell (or_second (one which) (two which) fails)
        ∙ first.rest cores which is_cell (or_first (one which) (two which) fails);
  }

  -- what was flushed of a node is still held when its own cells have changed
  pub flushed_still : (child : NodeId) (kind : Kind) → child.0 < nodes → SettlesCreation nodes (is_own_cell child kind) dir before mid
      → IsSome (pending_held nodes before.held child) → IsSome (pending_held nodes mid.held child)
  flushed_still child kind within settles some =
      subst (λ o. IsSome (option_and_then as_pending o)) (sym (settles.rest 0 (id.Pending child) within (by kind))) some
    where
      by : (k : Kind) → is_own_cell child k (id.Pending child) ≡ false
      by File = refl
      by Directory = refl
