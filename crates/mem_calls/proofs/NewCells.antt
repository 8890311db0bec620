-- The cells of a node that is made, as a core holds them.
use Rattle.std.proofs.Common.{◌≡◌, ◌≢◌, ◌<◌, ℕ, Bool, true, false, ◌==◌, List, Option, Some, IsSome, ◌⊎◌, inl, inr, refl, sym, ap, subst, ◌∙◌, eq-eqb}
use borrow.Author.Tests.{eqb-true}
use Rattle.std.specs.Prelude.{◌||◌}
use Rattle.std.specs.Option.{option_and_then}
use Rattle.std.proofs.lemmas.Bool.{both_ways}
use Rattle.sfs_base.specs.Name.{bucket}
use Rattle.sfs_base.specs.declared.numbers.NodeId.{NodeId}
use Rattle.sfs_base.specs.declared.numbers.Kind.{Kind}
use Rattle.sfs_base.specs.declared.numbers.Kind.TheVariants.{File, Directory}
use Rattle.stamp_table.specs.declared.held.HeldCell.{HeldCell}
use Rattle.mem_values.specs.Start.{FileHand}
use Rattle.mem_values.specs.declared.cell.Cell.{Cell}
use Rattle.mem_values.specs.declared.cell_id.CellId.{CellId}
use Rattle.mem_values.specs.declared.cell_id.CellId.TheVariants as id
use Rattle.mem_values.specs.Places.{cell_place, IsCell}
use Rattle.mem_values.proofs.Places.{places_apart}
use Rattle.mem_values.proofs.Basics.{is_value, some_of}
use Rattle.mem_calls.specs.Held.{value_held, as_bucket, as_file, as_pending, file_held, pending_held, HoldsDirectory}
use Rattle.mem_calls.specs.Working.{StillHolds, Gains}
use Rattle.mem_calls.specs.Creations.{HoldsOwn, HoldsCreated, HoldsCreation, is_new_cell}
use Rattle.mem_calls.proofs.Nothing.{some_first}
use Rattle.mem_calls.proofs.HeldKinds.{still_file, still_pending, still_directory, holds_pending}
use Rattle.mem_calls.proofs.Statuses.{still_buckets}
use Rattle.mem_calls.proofs.StandsNowhere.{not_equal}

or_same : (b : Bool) → (b || false) ≡ true → b ≡ true
or_same true is = refl
or_same false is = is

node_is : (a b : NodeId) → (a.0 == b.0) ≡ true → b ≡ a
node_is a b same = λ i. record { 0 = sym (eqb-true a.0 b.0 same) i }

-- such a cell is the node's file, one of its buckets, or what was flushed of it
abbrev pub IsNewCell : NodeId → Kind → CellId → Type 0
IsNewCell child kind which =
    ((kind ≡ File) × (which ≡ id.File child)) ⊎ (((kind ≡ Directory) × ((number : ℕ) × (which ≡ id.Bucket child number))) ⊎ (which ≡ id.Pending child))

pub new_is : (child : NodeId) (kind : Kind) (which : CellId) → is_new_cell child kind which ≡ true → IsNewCell child kind which
new_is child Directory (id.Bucket node number) new = inr
    (inl (refl, (number, ap (λ (n : NodeId). id.Bucket n number) (node_is child node (or_same (child.0 == node.0) new)))))
new_is child File (id.File node) new = inl (refl, ap id.File (node_is child node (or_same (child.0 == node.0) new)))
new_is child Directory (id.Pending node) new = inr (inr (ap id.Pending (node_is child node new)))
new_is child File (id.Pending node) new = inr (inr (ap id.Pending (node_is child node new)))
new_is child File (id.Bucket node number) new = absurd (cc (new))
new_is child Directory (id.File node) new = absurd (cc (new))
new_is child File id.Lock new = absurd (cc (new))
new_is child Directory id.Lock new = absurd (cc (new))
new_is child File (id.Part core) new = absurd (cc (new))
new_is child Directory (id.Part core) new = absurd (cc (new))

-- a log is none, and no bucket of another node is one
pub part_old : (child : NodeId) (kind : Kind) (core : ℕ) → is_new_cell child kind (id.Part (record { 0 = core })) ≡ false
part_old child File core = refl
part_old child Directory core = refl

pub bucket_old : (child : NodeId) (kind : Kind) (dir : NodeId) (number : ℕ) → child.0 ≢ dir.0 → is_new_cell child kind (id.Bucket dir number) ≡ false
bucket_old child File dir number apart = refl
bucket_old child Directory dir number apart = ap (λ b. b || false) (not_equal child.0 dir.0 apart)

-- a cell that passes a test lies apart from one that does not
module _ (nodes cores : ℕ) (test : CellId → Bool) (one other : CellId) where
  pub apart_by : IsCell nodes cores one → IsCell nodes cores other → test one ≡ false → test other ≡ true → cell_place nodes one ≡ cell_place nodes other → ⊥
  apart_by first second fails passes same = both_ways (test one) fails (ap test (places_apart nodes cores one other first second same) ∙ passes)

module _ (nodes : ℕ) (held : List (HeldCell Cell)) (child : NodeId) (kind : Kind) (holds : HoldsCreated nodes held child kind) where
  -- they are held
  pub new_held : (cores : ℕ) (which : CellId) → IsCell nodes cores which → is_new_cell child kind which ≡ true → IsSome (value_held nodes held which)
  new_held cores which is_cell new = elim (new_is child kind which new) [
    | inl file ↦ subst (λ w. IsSome (value_held nodes held w)) (sym file.1)
        (some_first as_file (value_held nodes held (id.File child)) (subst (HoldsOwn nodes held child) file.0 holds.own))
    | inr other ↦ elim other [
      | inl directory ↦
          let lt = (subst (IsCell nodes cores) directory.1.1 is_cell).1 in
          subst (λ w. IsSome (value_held nodes held w)) (sym directory.1.1)
          (some_first as_bucket (value_held nodes held (id.Bucket child directory.1.0))
          (subst (HoldsOwn nodes held child) directory.0 holds.own directory.1.0 lt))
      | inr flushed ↦ subst (λ w. IsSome (value_held nodes held w)) (sym flushed)
          (some_first as_pending (value_held nodes held (id.Pending child)) holds.pending)
    ]
  ]

  -- and are so in other hands, where these have the same values of them
  pub new_again : (other : List (HeldCell Cell))
      → ((cores : ℕ) (which : CellId) → IsCell nodes cores which → is_new_cell child kind which ≡ true
      → value_held nodes other which ≡ value_held nodes held which)
      → HoldsCreated nodes other child kind
  new_again other same = record {
    within = holds.within;
    own = by kind refl;
    pending = subst (λ o. IsSome (option_and_then as_pending o)) (sym (same 0 (id.Pending child) holds.within (flushed_new kind))) holds.pending;
  }
    where
      itself : (child.0 == child.0) ≡ true
      itself = eq-eqb child.0 child.0 refl

      flushed_new : (k : Kind) → is_new_cell child k (id.Pending child) ≡ true
      flushed_new File = itself
      flushed_new Directory = itself

      by : (k : Kind) → kind ≡ k → HoldsOwn nodes other child kind
      by File is = subst (HoldsOwn nodes other child) (sym is) (subst (λ o. IsSome (option_and_then as_file o))
          (sym (same 0 (id.File child) holds.within (ap (λ k. is_new_cell child k (id.File child)) is ∙ ap (λ b. b || false) itself)))
          (subst (HoldsOwn nodes held child) is holds.own))
      by Directory is = subst (HoldsOwn nodes other child) (sym is) (λ number lt. subst (λ o. IsSome (option_and_then as_bucket o))
          (sym (same 0 (id.Bucket child number) (holds.within, lt) (ap (λ k. is_new_cell child k (id.Bucket child number)) is ∙ ap (λ b. b || false) itself)))
          (subst (HoldsOwn nodes held child) is holds.own number lt))

-- what is held for a creation still is
module _ (nodes : ℕ) (before after : FileHand) (still : StillHolds nodes before after) where
  pub still_own : (child : NodeId) (kind : Kind) → HoldsOwn nodes before.held child kind → HoldsOwn nodes after.held child kind
  still_own child File own = let f = is_value (file_held nodes before.held child) own in
      some_of (file_held nodes after.held child) f.0 (still_file nodes before after child f.0 still f.1)
  still_own child Directory own = still_buckets nodes before after child still own

  pub still_flushed : (child : NodeId) → IsSome (pending_held nodes before.held child) → IsSome (pending_held nodes after.held child)
  still_flushed child some = let p = is_value (pending_held nodes before.held child) some in
      some_of (pending_held nodes after.held child) p.0 (still_pending nodes before after child p.0 still p.1)

  pub still_creation : (dir : NodeId) (name : List ℕ) (kind : Kind) (next : Option NodeId) → HoldsCreation nodes before.held dir name kind next
      → HoldsCreation nodes after.held dir name kind next
  still_creation dir name kind next holds = record {
    place = still_directory nodes before after dir (bucket name) still holds.place;
    new = λ child is within apart. let new = holds.new child is within apart in
        record { within = new.within; own = still_own child kind new.own; pending = still_flushed child new.pending };
  }

-- the place of a name, the node's own cells, and then what was flushed of it
module _ (nodes : ℕ) (before after : FileHand) (dir : NodeId) (name : List ℕ) (child : NodeId) (kind : Kind) (next : Option NodeId) where
  pub creation_held : HoldsDirectory nodes before.held dir (bucket name) → HoldsOwn nodes before.held child kind → Gains nodes (id.Pending child) before after
      → child.0 < nodes → next ≡ Some child → HoldsCreation nodes after.held dir name kind next
  creation_held place own gains within is = record {
    place = still_directory nodes before after dir (bucket name) gains.still place;
    new = λ other is_other lt apart. subst (λ n. HoldsCreated nodes after.held n kind) (some_node child other (sym is ∙ is_other))
        (record { within = within; own = still_own nodes before after gains.still child kind own; pending = holds_pending nodes before after child gains });
  }
    where
      some_node : (a b : NodeId) → ◌≡◌ {A = Option NodeId} (Some a) (Some b) → a ≡ b
      some_node a b e = cc (e)
