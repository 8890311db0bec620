-- A call that ends a directory.
use Rattle.std.proofs.Common.{◌≡◌, ◌≢◌, ◌<◌, ◌≤◌, ◌+◌, ◌*◌, ◌^◌, ℕ, reverse, Bool, true, false, not, ◌&&◌, ◌==◌, List, [], ◌∷◌, ◌++◌, length, Option, Some, None, IsSome, ◌⊎◌, inl, inr, refl, sym, ap, subst, ◌∙◌, eq-eqb, arith, ⊎_elim}
use borrow.Author.Tests.{eqb-true}
use Rattle.std.specs.Option.{option_and_then}
use Rattle.std.specs.FinMap.{get}
use Rattle.std.proofs.lemmas.Bool.{cases_Bool, both_ways}
use Rattle.disk_nodes.specs.OldKept.{OldKept}
use Rattle.sfs_base.specs.Name.{bucket}
use Rattle.sfs_base.specs.declared.numbers.NodeId.{NodeId}
use Rattle.sfs_base.specs.declared.numbers.Kind.TheVariants.{Directory}
use Rattle.tree_laws.specs.Tree.{TreeState, row_of, is_directory, kind_of, kind_if, kind_again, made_by}
use Rattle.tree_laws.specs.declared.changes.Change.{Change}
use Rattle.tree_laws.specs.declared.changes.Act.TheVariants.{Remove}
use Rattle.tree_laws.specs.declared.call.Call.{Call}
use Rattle.tree_laws.specs.declared.call.Call.TheVariants as call
use Rattle.tree_laws.specs.declared.reply.Reply.TheVariants as reply
use Rattle.tree_laws.specs.declared.history.Entry.{Entry}
use Rattle.tree_laws.specs.Effect.{Removes}
use Rattle.tree_laws.specs.Parts.{is_this, is_in_part}
use Rattle.tree_laws.specs.Lock.{moves_between}
use Rattle.tree_laws.specs.Logged.{log_entry, logged_by}
use Rattle.tree_laws.specs.Verdict.{Verdict, verdict, done, tree_after_call}
use Rattle.tree_laws.proofs.Readings.{directory_by_kind}
use Rattle.tree_laws.proofs.KeepsRest.{calls_keep_the_rest}
use Rattle.tree_laws.proofs.Joined.{bucket_small}
use Rattle.mem_cells.specs.Part.{IsAddedTo}
use Rattle.stamp_table.specs.declared.event.Event.{Event}
use Rattle.stamp_table.specs.declared.event.Event.TheVariants.{Called}
use Rattle.stamp_table.specs.declared.held.HeldCell.{HeldCell}
use Rattle.stamp_table.specs.Hand.{places_of}
use Rattle.stamp_table.specs.Table.{with_value, Stamps, LetsGo, Stands, EachFrom, left_below}
use Rattle.stamp_table.proofs.Replacing.{same_places}
use Rattle.stamp_table.specs.Events.{calls_in}
use Rattle.mem_values.specs.Start.{FileHand, FileState}
use Rattle.mem_values.specs.declared.cell.Cell.{Cell}
use Rattle.mem_values.specs.declared.cell.PartCell.{PartCell}
use Rattle.mem_values.specs.declared.bucket.Bucket.{Bucket}
use Rattle.mem_values.specs.declared.cell_id.CellId.{CellId}
use Rattle.mem_values.specs.declared.cell_id.CellId.TheVariants as id
use Rattle.mem_values.specs.declared.fact.Fact.{Fact}
use Rattle.mem_values.specs.Places.{cell_place, IsCell}
use Rattle.mem_values.specs.Account.{account_of}
use Rattle.mem_values.specs.Logs.{entry_logged}
use Rattle.mem_values.specs.Stands.{StandsForCell, StandsPart, StandsAt}
use Rattle.mem_values.specs.Facts.{IsLawfulLog}
use Rattle.mem_values.specs.Touches.{KeepsCell}
use Rattle.mem_values.proofs.Basics.{is_value, some_of, first_false, second_false, both_false}
use Rattle.mem_values.proofs.Kept.{directory_kept}
use Rattle.mem_calls.specs.Held.{value_held, as_bucket, as_part, bucket_held, part_held, InEach}
use Rattle.mem_calls.specs.Table.{IsFileTable}
use Rattle.mem_calls.specs.Working.{IsWorking}
use Rattle.mem_calls.specs.Outcome.{IsAnswered}
use Rattle.mem_calls.specs.Parts.{HasRoomFor}
use Rattle.mem_calls.specs.Sums.{HoldsBuckets}
use Rattle.mem_calls.specs.Changes.{IsWithoutRow, RemovesRow, IsReadyForRow}
use Rattle.mem_calls.specs.Ends.{NamesDirectory, IsPlacedBucket, PlacesDirectory}
use Rattle.mem_calls.specs.declared.ready.Ready.{Ready}
use Rattle.mem_calls.proofs.PartKept.{same_part_stands, room_for_one}
use Rattle.mem_calls.proofs.Nothing.{some_first}
use Rattle.mem_calls.proofs.Taken.{value_with}
use Rattle.mem_calls.proofs.Shown.{name_shows, bucket_shows}
use Rattle.mem_calls.proofs.RowsGo.{bucket_after}
use Rattle.mem_calls.proofs.Edited.{same_place, held_there}
use Rattle.mem_calls.proofs.Stamped as stamped
use Rattle.mem_calls.proofs.Finished.{of_changed}
use Rattle.mem_calls.proofs.Changed as changed
use Rattle.mem_calls.proofs.Changed.{Turn}
use Rattle.mem_calls.proofs.Unlinked.{value_of_bucket, apart_value}
use Rattle.mem_calls.proofs.Ending.{named_row, not_itself}
use Rattle.mem_calls.proofs.StandsNowhere.{not_equal, kind_next, stays, nowhere_after}

-- It keeps each cell but the bucket of the name, the buckets of the directory and the own log.
pub rmdir_keeps : (nodes cores : ℕ) (tree : TreeState) (core : ℕ) (dir : NodeId) (name : List ℕ) (child : NodeId) (which : CellId)
    → verdict tree core (call.Rmdir dir name) ≡ done (Removes dir.0 name child.0) → row_of tree dir.0 name ≡ Some child.0
    → is_directory (tree_after_call tree core (call.Rmdir dir name)) child.0 ≡ true → IsCell nodes cores which
    → (cell_place nodes (id.Part (record { 0 = core })) ≡ cell_place nodes which → ⊥)
    → (cell_place nodes (id.Bucket dir (bucket name)) ≡ cell_place nodes which → ⊥)
    → ((number : ℕ) → number < 8 → cell_place nodes (id.Bucket child number) ≡ cell_place nodes which → ⊥) → KeepsCell tree core (call.Rmdir dir name) which
rmdir_keeps nodes cores tree core dir name child id.Lock does row kind is_cell part here below = inl (ap (λ (v : Verdict). moves_between tree v.effect) does)
rmdir_keeps nodes cores tree core dir name child (id.Bucket node number) does row kind is_cell part here below = inl
    (both_false (is_in_part node.0 (λ n. bucket n == number) dir.0 name) (is_this node.0 (row_of tree dir.0 name))
    (apart (dir.0 == node.0) (bucket name == number) refl refl)
    (ap (is_this node.0) row ∙ not_equal child.0 node.0 (λ same. below number is_cell.1 (ap (λ n. 16 + 9 * n + number) same))))
  where
    apart : (a b : Bool) → (dir.0 == node.0) ≡ a → (bucket name == number) ≡ b → (a && b) ≡ false
    apart true true one two = absurd (here (λ i. 16 + 9 * eqb-true dir.0 node.0 one i + eqb-true (bucket name) number two i))
    apart true false one two = refl
    apart false b one two = refl
rmdir_keeps nodes cores tree core dir name child (id.File node) does row kind is_cell part here below = inl (⊎_elim
    (λ same. second_false (is_this node.0 (row_of tree dir.0 name)) _
    (ap not (subst (λ n. is_directory (tree_after_call tree core (call.Rmdir dir name)) n ≡ true) (eqb-true child.0 node.0 same) kind)))
    (λ other. first_false (is_this node.0 (row_of tree dir.0 name)) _ (ap (is_this node.0) row ∙ other))
    (cases_Bool (child.0 == node.0)))
rmdir_keeps nodes cores tree core dir name child (id.Pending node) does row kind is_cell part here below = inl refl
rmdir_keeps nodes cores tree core dir name child (id.Part owner) does row kind is_cell part here below = ⊎_elim
    (λ same. absurd (part (ap (λ (n : ℕ). cell_place nodes (id.Part (record { 0 = n }))) (eqb-true core owner.0 same))))
    (λ other. inl other)
    (cases_Bool (core == owner.0))

-- two buckets of different nodes are different cells
pub buckets_apart : (d e b k : ℕ) → b < 8 → k < 8 → 16 + 9 * d + b ≡ 16 + 9 * e + k → d ≡ e
buckets_apart d e b k one two same = omega (arith, one, two, same)

-- a cell is one of the buckets of a node, or none
pub is_bucket : (nodes cores : ℕ) (node : NodeId) (which : CellId) → node.0 < nodes → IsCell nodes cores which
    → ((number : ℕ) × (number < 8) × (which ≡ id.Bucket node number))
    ⊎ ((number : ℕ) → number < 8 → cell_place nodes (id.Bucket node number) ≡ cell_place nodes which → ⊥)
is_bucket nodes cores node id.Lock within is_cell = inr (λ number lt same. let at : 16 + 9 * node.0 + number ≡ 0 = same in omega (arith, at))
is_bucket nodes cores node (id.Bucket other number) within is_cell = ⊎_elim
    (λ same. inl (number, is_cell.1, λ i. id.Bucket (record { 0 = sym (eqb-true node.0 other.0 same) i }) number))
    (λ apart. inr (λ k lt at. both_ways (node.0 == other.0) apart (eq-eqb node.0 other.0 (buckets_apart node.0 other.0 k number lt is_cell.1 at))))
    (cases_Bool (node.0 == other.0))
is_bucket nodes cores node (id.File other) within is_cell = inr (λ number lt same. file node.0 other.0 number lt same)
  where
    file : (d e k : ℕ) → k < 8 → 16 + 9 * d + k ≡ 24 + 9 * e → ⊥
    file d e k lt same = omega (arith, lt, same)
is_bucket nodes cores node (id.Pending other) within is_cell = inr (λ number lt same. pending node.0 nodes other.0 number within lt same)
  where
    pending : (d n p k : ℕ) → d < n → k < 8 → 16 + 9 * d + k ≡ 16 + 9 * n + p → ⊥
    pending d n p k less lt same = omega (arith, less, lt, same)
is_bucket nodes cores node (id.Part owner) within is_cell = inr (λ number lt same. part node.0 nodes owner.0 number within lt same)
  where
    part : (d n p k : ℕ) → d < n → k < 8 → 16 + 9 * d + k ≡ 32 + 10 * n + 16 * p → ⊥
    part d n p k less lt same = omega (arith, less, lt, same)

-- A directory that ends, from the moment on at which its removal is stamped.
pub record Removal (given : ℕ → Option OldKept) (t : FileState) (nodes : ℕ) (before : FileHand) (dir : NodeId) (name : List ℕ) (child : NodeId)
    (ready : Ready) (out : FileHand) (number : ℕ) (mid : FileHand) : Type 0 where
  pub table : IsFileTable t nodes
  pub work : IsWorking given t before
  pub names : NamesDirectory nodes before.held dir (bucket name) name child
  pub within : child.0 < nodes
  pub buckets : HoldsBuckets nodes before.held child
  pub part : IsSome (part_held nodes before.held before.view.core)
  pub due : InEach before (λ tree. verdict tree before.view.core (call.Rmdir dir name) ≡ done (Removes dir.0 name child.0))
  pub is_ready : IsReadyForRow nodes dir name before ready out
  pub drawn : Stamps (IsLawfulLog given) (StandsAt given) (call.Rmdir dir name) reply.Ok out number mid

module _ (given : ℕ → Option OldKept) (t : FileState) (nodes : ℕ) (before : FileHand) (table : IsFileTable t nodes) (work : IsWorking given t before)
    (dir : NodeId) (name : List ℕ) (child : NodeId)
    (names : NamesDirectory nodes before.held dir (bucket name) name child) (within : child.0 < nodes) (buckets : HoldsBuckets nodes before.held child)
    (part : IsSome (part_held nodes before.held before.view.core))
    (due : InEach before (λ tree. verdict tree before.view.core (call.Rmdir dir name) ≡ done (Removes dir.0 name child.0))) where
  pub keeps : InEach before (λ tree. stamped.KeepsOrHolds given t nodes before table work tree (call.Rmdir dir name))
  keeps tree meets which is_cell = ⊎_elim
      (λ same. inr (held_there nodes before.held (id.Part (record { 0 = before.view.core })) which same
      (some_first as_part (value_held nodes before.held (id.Part (record { 0 = before.view.core }))) part)))
      (λ not_part. ⊎_elim
      (λ same. inr (held_there nodes before.held (id.Bucket dir (bucket name)) which same
      (some_first as_bucket (value_held nodes before.held (id.Bucket dir (bucket name)))
      (some_of (bucket_held nodes before.held dir (bucket name)) names.bucket names.held_is))))
      (λ not_here. elim (is_bucket nodes (length t.first.made) child which within is_cell) [
        | inl one ↦ inr (subst (λ x. IsSome (value_held nodes before.held x)) (sym one.2)
            (some_first as_bucket (value_held nodes before.held (id.Bucket child one.0)) (buckets one.0 one.1)))
        | inr below ↦ inl (rmdir_keeps nodes (length t.first.made) tree before.view.core dir name child which
            (due tree meets) row.0 kind is_cell not_part not_here below)
      ])
      (same_place nodes (id.Bucket dir (bucket name)) which))
      (same_place nodes (id.Part (record { 0 = before.view.core })) which)
    where
      row : (row_of tree dir.0 name ≡ Some child.0) × (is_directory tree child.0 ≡ true)
      row = named_row before nodes dir name child tree (stamped.counted given t nodes before table work) names meets

      kind : is_directory (tree_after_call tree before.view.core (call.Rmdir dir name)) child.0 ≡ true
      kind = directory_kept tree before.view.core (call.Rmdir dir name) meets.sound
          (let one = meets.cores in let two = stamped.core_known given t nodes before table work in omega (arith, one, two)) child.0
          (meets.sound.sound.node dir.0 name child.0 row.0) ∙ row.1

module _ (given : ℕ → Option OldKept) (t : FileState) (nodes : ℕ) (before : FileHand) (dir : NodeId) (name : List ℕ) (child : NodeId) (ready : Ready)
    (out : FileHand) (number : ℕ) (mid : FileHand)
    (r : Removal given t nodes before dir name child ready out number mid) where
  abbrev c : Call
  c = call.Rmdir dir name

  abbrev v : Verdict
  v = done (Removes dir.0 name child.0)

  abbrev mine : CellId
  mine = id.Part (record { 0 = before.view.core })

  abbrev at : CellId
  at = id.Bucket dir (bucket name)

  abbrev out_held : List (HeldCell Cell)
  out_held = with_value (cell_place nodes mine) r.is_ready.out.0 before.held

  abbrev turn : Turn given t nodes before c v number mid
  turn = record { table = r.table; work = r.work; not = refl; due = r.due; held = out_held; out = out; out_is = r.is_ready.out.1; drawn = r.drawn }

  abbrev S : TreeState
  S = changed.S given t nodes before c v number mid turn

  abbrev next : TreeState
  next = changed.next given t nodes before c v number mid turn

  abbrev log : List (Event Fact)
  log = changed.log given t nodes before c v number mid turn

  abbrev entry : Entry
  entry = changed.entry given t nodes before c v number mid turn

  abbrev after_log : List (Event Fact)
  after_log = log ++ Called entry ∷ []

  row : (row_of S dir.0 name ≡ Some child.0) × (is_directory S child.0 ≡ true)
  row = named_row before nodes dir name child S (stamped.counted given t nodes before r.table r.work) r.names
      (changed.meets given t nodes before c v number mid turn)

  apart : child.0 ≢ dir.0
  apart same = not_itself S (changed.sound given t nodes before c v number mid turn).sound dir.0 name (row.0 ∙ ap Some same)
      (ap (is_directory S) (sym same) ∙ row.1)

  verdict_is : verdict S before.view.core c ≡ v
  verdict_is = changed.verdict_is given t nodes before c v number mid turn

  removes : (verdict S before.view.core c).effect ≡ Removes dir.0 name child.0
  removes = ap (λ (w : Verdict). w.effect) verdict_is

  kept_kind : is_directory next child.0 ≡ true
  kept_kind = kind_next S before.view.core dir name child (changed.sound given t nodes before c v number mid turn)
      (changed.core_known given t nodes before c v number mid turn) removes row.0 row.1

  mid_held : mid.held ≡ out_held
  mid_held = changed.mid_held given t nodes before c v number mid turn

  part_apart : (node : NodeId) (k : ℕ) → node.0 < nodes → k < 8 → cell_place nodes mine ≡ cell_place nodes (id.Bucket node k) → ⊥
  part_apart node k within lt same = omega (arith, within, lt, same)

  at_apart : (k : ℕ) → k < 8 → cell_place nodes at ≡ cell_place nodes (id.Bucket child k) → ⊥
  at_apart k lt same = apart (sym (buckets_apart dir.0 child.0 (bucket name) k (bucket_small name) lt same))

  bucket_same : bucket_held nodes mid.held dir (bucket name) ≡ bucket_held nodes before.held dir (bucket name)
  bucket_same = ap (λ l. bucket_held nodes l dir (bucket name)) mid_held
      ∙ ap (option_and_then as_bucket)
      (apart_value nodes before.held mine at r.is_ready.out.0 (part_apart dir (bucket name) r.names.within (bucket_small name)))

  pub bucket_there : IsSome (bucket_held nodes mid.held dir (bucket name))
  bucket_there = some_of (bucket_held nodes mid.held dir (bucket name)) r.names.bucket (bucket_same ∙ r.names.held_is)

  same_bucket : (b : Bucket) → bucket_held nodes mid.held dir (bucket name) ≡ Some b → r.names.bucket ≡ b
  same_bucket b is = cc (sym r.names.held_is ∙ (sym bucket_same ∙ is))

  pub row_there : (b : Bucket) → bucket_held nodes mid.held dir (bucket name) ≡ Some b → IsSome (get b.rows name)
  row_there b is = subst (λ (x : Bucket). IsSome (get x.rows name)) (same_bucket b is) (some_of (get r.names.bucket.rows name) child.0
      (sym (Rattle.mem_calls.proofs.NamedRows.row_in S dir.0 name r.names.bucket
      (name_shows before nodes (stamped.counted given t nodes before r.table r.work) S (changed.meets given t nodes before c v number mid turn) dir name
      (bucket name) r.names.bucket r.names.within refl r.names.held_is)) ∙ row.0))

  -- what goes home of the bucket of the name
  row_home : (value : Cell) (new : Bucket) → as_bucket value ≡ Some new → IsWithoutRow name r.names.bucket new
      → StandsForCell given before.view.first (account_of after_log) at value
  row_home value new is without = value_of_bucket given before.view.first after_log dir (bucket name) value new is
      (subst (λ x. Rattle.mem_values.specs.Stands.ShowsBucket x dir.0 (bucket name) new) (sym (changed.next_is given t nodes before c v number mid turn))
      (bucket_after S before.view.core c (changed.sound given t nodes before c v number mid turn)
      (changed.core_known given t nodes before c v number mid turn) dir.0 name child.0 removes r.names.bucket new
      (name_shows before nodes (stamped.counted given t nodes before r.table r.work) S (changed.meets given t nodes before c v number mid turn) dir name
      (bucket name) r.names.bucket r.names.within refl r.names.held_is) without
      (stays S before.view.core dir name child (changed.sound given t nodes before c v number mid turn)
      (changed.core_known given t nodes before c v number mid turn) removes row.0 row.1 apart)))

  -- and of the directory's own
  own_home : (k : ℕ) (value : Cell) (old new : Bucket) → k < 8 → bucket_held nodes before.held child k ≡ Some old → as_bucket value ≡ Some new
      → IsPlacedBucket None old new → StandsForCell given before.view.first (account_of after_log) (id.Bucket child k) value
  own_home k value old new lt was is nowhere = value_of_bucket given before.view.first after_log child k value new is
      (subst (λ x. Rattle.mem_values.specs.Stands.ShowsBucket x child.0 k new) (sym (changed.next_is given t nodes before c v number mid turn))
      (nowhere_after S before.view.core dir name child (changed.sound given t nodes before c v number mid turn)
      (changed.core_known given t nodes before c v number mid turn) removes row.0 row.1 apart k old new
      (bucket_shows before nodes (stamped.counted given t nodes before r.table r.work) S
      (changed.meets given t nodes before c v number mid turn) child k old r.within lt was) nowhere))

  -- what the entry logs
  abbrev change : Change
  change = log_entry number dir.0 name child.0 Directory Remove None []

  logs : entry_logged S entry ≡ change ∷ []
  logs = ap (λ (w : Verdict). logged_by S before.view.core number w.effect w.makes) verdict_is
      ∙ ap (λ k. log_entry number dir.0 name child.0 k Remove None [] ∷ [])
      (sym (kind_again (kind_of S child.0)) ∙ ap kind_if (sym (directory_by_kind S child.0) ∙ row.1))

  made_next : made_by S before.view.core ≡ made_by next before.view.core
  made_next = sym ((calls_keep_the_rest S before.view.core c (changed.sound given t nodes before c v number mid turn)
      (changed.core_known given t nodes before c v number mid turn)).own refl)

  part_stands : StandsPart before.view.first (account_of log) before.view.core ready.part.value
  part_stands = same_part_stands given before.view.first (account_of log) before.view.core r.is_ready.part ready.part.value r.is_ready.same r.is_ready.made
      (changed.part_stood given t nodes before c v number mid turn r.is_ready.part r.is_ready.was)

  pub has_room : length (calls_in before.view.mine) ≤ 2 ^ 50 → HasRoomFor (change ∷ []) ready.part.value
  has_room few = room_for_one before.view.first (account_of log) before.view.core ready.part.value change part_stands
      (changed.legal_log given t nodes before c v number mid turn) (changed.number_is given t nodes before c v number mid turn) r.is_ready.room
      (let e = r.is_ready.same.entries in let lt = changed.few_entries given t nodes before c v number mid turn r.is_ready.part r.is_ready.was few in
      omega (arith, e, lt))

  module _ (two : FileHand) (gone : RemovesRow nodes dir (bucket name) name mid two) where
    two_held : two.held ≡ with_value (cell_place nodes at) gone.change.value out_held
    two_held = ap (λ (h : FileHand). h.held) gone.change.puts ∙ ap (with_value (cell_place nodes at) gone.change.value) mid_held

    bucket_kept : (k : ℕ) → k < 8 → bucket_held nodes two.held child k ≡ bucket_held nodes before.held child k
    bucket_kept k lt = ap (λ l. bucket_held nodes l child k) two_held
        ∙ ap (option_and_then as_bucket)
        (apart_value nodes out_held at (id.Bucket child k) gone.change.value (at_apart k lt)
        ∙ apart_value nodes before.held mine (id.Bucket child k) r.is_ready.out.0 (part_apart child k r.within lt))

    pub buckets_there : HoldsBuckets nodes two.held child
    buckets_there k lt = subst IsSome (sym (bucket_kept k lt)) (r.buckets k lt)

    module _ (three : FileHand) (ends : PlacesDirectory nodes child 8 None two three) where
      three_is : three ≡ record two { held = three.held }
      three_is = ap (λ (h : FileHand). record h { held = three.held }) ends.frame

      two_is : two ≡ record mid { held = two.held }
      two_is = gone.change.puts ∙ ap (λ (l : List (HeldCell Cell)). record mid { held = l }) (ap (λ (h : FileHand). h.held) (sym gone.change.puts))

      pub core_three : three.view.core ≡ before.view.core
      core_three = ap (λ (h : FileHand). h.view.core) three_is
          ∙ (ap (λ (h : FileHand). h.view.core) two_is ∙ changed.core_mid given t nodes before c v number mid turn)

      pub part_there : IsSome (value_held nodes three.held mine)
      part_there = some_of (value_held nodes three.held mine) r.is_ready.out.0
          (ends.rest mine (λ k lt same. part_apart child k r.within lt (sym same)) ∙ (ap (λ l. value_held nodes l mine) two_held
          ∙ (apart_value nodes out_held at mine gone.change.value (λ same. part_apart dir (bucket name) r.names.within (bucket_small name) (sym same))
          ∙ value_with nodes mine r.is_ready.out.0 before.held (some_first as_part (value_held nodes before.held mine) r.part))))

      module _ (after : PartCell) (value : Cell) (is : as_part value ≡ Some after) (added : IsAddedTo ready.part.value.log (change ∷ []) after.log)
          (made : after.made ≡ ready.part.value.made) (final : FileHand)
          (puts : final ≡ record three { held = with_value (cell_place nodes mine) value three.held }) where
        abbrev new_held : List (HeldCell Cell)
        new_held = with_value (cell_place nodes mine) value three.held

        final_is : final ≡ record mid { held = new_held }
        final_is = puts ∙ (ap (λ (h : FileHand). record h { held = new_held }) three_is
            ∙ ap (λ (h : FileHand). record h { held = new_held }) two_is)

        cells : places_of new_held ≡ places_of before.held
        cells = same_places (cell_place nodes mine) three.held value
            ∙ (ends.places ∙ (ap places_of two_held
            ∙ (same_places (cell_place nodes at) out_held gone.change.value ∙ same_places (cell_place nodes mine) before.held r.is_ready.out.0)))

        without : IsWithoutRow name r.names.bucket gone.change.new
        without = subst (λ (b : Bucket). IsWithoutRow name b gone.change.new) (sym (same_bucket gone.change.old gone.change.was)) gone.row

        stood_by : (which other : CellId) (x y : Cell) → which ≡ other → x ≡ y → StandsForCell given before.view.first (account_of after_log) other y
            → StandsForCell given before.view.first (account_of after_log) which x
        stood_by which other x y one same stands = subst (λ (z : CellId × Cell). StandsForCell given before.view.first (account_of after_log) z.0 z.1)
            (λ i. (sym one i, sym same i)) stands

        -- a bucket of the directory
        ended_home : (k : ℕ) (x : Cell) → k < 8 → value_held nodes three.held (id.Bucket child k) ≡ Some x
            → StandsForCell given before.view.first (account_of after_log) (id.Bucket child k) x
        ended_home k x lt found =
            let old = is_value (bucket_held nodes before.held child k) (r.buckets k lt) in
            let new = ends.placed k old.0 lt (bucket_kept k lt ∙ old.1) in
            own_home k x old.0 new.0 lt old.1 (sym (ap (option_and_then as_bucket) found) ∙ new.1) new.2

        other_home : (which : CellId) (x : Cell) → IsCell nodes (length t.first.made) which → (cell_place nodes mine ≡ cell_place nodes which → ⊥)
            → ((k : ℕ) → k < 8 → cell_place nodes (id.Bucket child k) ≡ cell_place nodes which → ⊥)
            → value_held nodes two.held which ≡ Some x → StandsForCell given before.view.first (account_of after_log) which x
        other_home which x is_cell not_mine below found = elim
            (of_changed nodes (length t.first.made) which at x gone.change.value out_held is_cell (r.names.within, bucket_small name)
            (sym (ap (λ l. value_held nodes l which) two_held) ∙ found)) [
              | inl here ↦ stood_by which at x gone.change.value here.0 here.1 (row_home gone.change.value gone.change.new gone.change.is without)
              | inr not_here ↦ elim (of_changed nodes (length t.first.made) which mine x r.is_ready.out.0 before.held is_cell r.work.core not_here.1) [
                | inl own ↦ absurd (not_mine (ap (cell_place nodes) (sym own.0)))
                | inr last ↦ changed.kept given t nodes before c v number mid turn which x is_cell last.1
                    (rmdir_keeps nodes
                    (length t.first.made) S before.view.core dir name child which verdict_is row.0 kept_kind is_cell not_mine not_here.0 below)
              ]
            ]

        each : (which : CellId) (x : Cell) → IsCell nodes (length t.first.made) which → value_held nodes new_held which ≡ Some x
            → StandsForCell given before.view.first (account_of after_log) which x
        each which x is_cell found = elim (of_changed nodes (length t.first.made) which mine x value three.held is_cell r.work.core found) [
          | inl one ↦ stood_by which mine x value one.0 one.1
              (changed.part_home given t nodes before c v number mid turn ready.part.value after value part_stands is
              (subst (λ l. IsAddedTo ready.part.value.log l after.log) (sym logs) added) (made ∙ (part_stands.made ∙ made_next)))
          | inr not_mine ↦ elim (is_bucket nodes (length t.first.made) child which r.within is_cell) [
            | inl of_child ↦ stood_by which (id.Bucket child of_child.0) x x of_child.2 refl
                (ended_home of_child.0 x of_child.1 (ap (value_held nodes three.held) (sym of_child.2) ∙ not_mine.1))
            | inr below ↦ other_home which x is_cell not_mine.0 below (sym (ends.rest which below) ∙ not_mine.1)
          ]
        ]

        pub goes_home : EachFrom 0 (Stands (IsLawfulLog given) (StandsAt given) final.view) final.held
        goes_home = changed.goes_home given t nodes before c v number mid turn final new_held final_is cells each

        pub answers : (last : FileHand) → LetsGo final last → last.held ≡ left_below 0 final.held → last.view.held ≡ reverse (places_of last.held)
            → IsAnswered t c reply.Ok before last
        answers last lets left at_places = changed.ended given t nodes before c v number mid turn final new_held final_is cells last lets left at_places
