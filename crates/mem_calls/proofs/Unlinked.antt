-- A call that takes the row of a file away.
use Rattle.std.proofs.Common.{◌≡◌, ◌≢◌, ◌<◌, ◌≤◌, ◌+◌, ◌*◌, ◌-◌, ◌^◌, ℕ, reverse, Bool, true, false, not, ◌&&◌, ◌==◌, nat_eq, List, [], ◌∷◌, ◌++◌, length, Option, Some, None, IsSome, option_map, ◌⊎◌, inl, inr, refl, sym, ap, subst, ◌∙◌, eq-eqb, arith, ⊎_elim}
use borrow.Author.Tests.{eqb-true}
use Rattle.std.specs.Prelude.{◌||◌, if◌then◌else◌}
use Rattle.std.specs.Option.{option_and_then}
use Rattle.std.specs.FinMap.{get}
use Rattle.std.proofs.lemmas.Bool.{cases_Bool, both_ways}
use Rattle.std.proofs.lemmas.Option.{option_and_then_some}
use Rattle.disk_nodes.specs.OldKept.{OldKept}
use Rattle.sfs_base.specs.Name.{bucket}
use Rattle.sfs_base.specs.declared.numbers.NodeId.{NodeId}
use Rattle.sfs_base.specs.declared.numbers.Kind.TheVariants.{File}
use Rattle.tree_laws.specs.Tree.{TreeState, row_of, is_directory, kind_of, kind_if, kind_again, count_of, bytes_of, made_by}
use Rattle.tree_laws.specs.declared.changes.Change.{Change}
use Rattle.tree_laws.specs.declared.changes.Act.TheVariants.{Remove}
use Rattle.tree_laws.specs.declared.call.Call.{Call}
use Rattle.tree_laws.specs.declared.call.Call.TheVariants as call
use Rattle.tree_laws.specs.declared.history.Entry.{Entry}
use Rattle.tree_laws.specs.History.{tree_after}
use Rattle.tree_laws.specs.Effect.{Edits, Removes}
use Rattle.tree_laws.specs.Parts.{is_this, is_in_part, links_after}
use Rattle.tree_laws.specs.Lock.{moves_between}
use Rattle.tree_laws.specs.Logged.{log_entry, logged_by}
use Rattle.tree_laws.specs.Verdict.{Verdict, verdict, done}
use Rattle.tree_laws.proofs.Parts.{nodes_after}
use Rattle.tree_laws.proofs.Readings.{directory_by_kind}
use Rattle.tree_laws.proofs.KeepsRest.{calls_keep_the_rest}
use Rattle.mem_cells.specs.Part.{IsAddedTo}
use Rattle.stamp_table.specs.declared.event.Event.{Event}
use Rattle.stamp_table.specs.declared.event.Event.TheVariants.{Called}
use Rattle.stamp_table.specs.declared.held.HeldCell.{HeldCell}
use Rattle.stamp_table.specs.Events.{calls_in}
use Rattle.stamp_table.specs.Hand.{places_of}
use Rattle.stamp_table.specs.Table.{with_value}
use Rattle.stamp_table.proofs.Calling.{calls_snoc}
use Rattle.stamp_table.proofs.Replacing.{same_places}
use Rattle.mem_values.specs.declared.cell.Cell.{Cell}
use Rattle.mem_values.specs.declared.cell.Cell.TheVariants as cell
use Rattle.mem_values.specs.declared.cell.FileCell.{FileCell}
use Rattle.mem_values.specs.declared.cell.PartCell.{PartCell}
use Rattle.mem_values.specs.declared.bucket.Bucket.{Bucket}
use Rattle.mem_values.specs.declared.cell_id.CellId.{CellId}
use Rattle.mem_values.specs.declared.cell_id.CellId.TheVariants as id
use Rattle.mem_values.specs.declared.fact.Fact.{Fact}
use Rattle.mem_values.specs.Places.{cell_place, IsCell}
use Rattle.mem_values.specs.Account.{account_of}
use Rattle.mem_values.specs.Logs.{entry_logged}
use Rattle.mem_values.specs.Stands.{ShowsBucket, StandsFile, StandsForCell, file_links}
use Rattle.mem_values.specs.Touches.{KeepsCell}
use Rattle.mem_values.proofs.Pushes.{last_touch-push}
use Rattle.mem_calls.specs.Held.{value_held, as_bucket, as_file, as_part, bucket_held, file_held, part_held, InEach}
use Rattle.mem_calls.specs.Table.{IsFileTable}
use Rattle.mem_calls.specs.Working.{IsWorking}
use Rattle.tree_laws.specs.declared.reply.Reply.TheVariants as reply
use Rattle.tree_laws.proofs.Joined.{bucket_small}
use Rattle.stamp_table.specs.Table.{Stamps, LetsGo, Stands, EachFrom, left_below}
use Rattle.mem_values.specs.Start.{FileHand, FileState}
use Rattle.mem_values.specs.Stands.{StandsAt}
use Rattle.mem_values.specs.Facts.{IsLawfulLog}
use Rattle.mem_values.proofs.Basics.{some_of, first_false, both_false}
use Rattle.mem_values.proofs.Kept.{directory_kept}
use Rattle.mem_calls.specs.Outcome.{IsAnswered}
use Rattle.mem_calls.specs.Parts.{HasRoomFor}
use Rattle.mem_calls.specs.declared.ready.Ready.{Ready}
use Rattle.mem_calls.specs.Changes.{IsWithoutRow, RemovesRow, LowersLinks, NamesFile, IsReadyForRow}
use Rattle.mem_calls.proofs.PartKept.{same_part_stands, room_for_one}
use Rattle.mem_calls.proofs.Nothing.{some_first}
use Rattle.mem_calls.proofs.Taken.{value_with}
use Rattle.mem_calls.proofs.Cells.{with_other}
use Rattle.mem_calls.proofs.Shown.{name_shows}
use Rattle.mem_calls.proofs.NamedRows.{row_in, directory_in}
use Rattle.mem_calls.proofs.RowsGo.{bucket_after}
use Rattle.mem_calls.proofs.Edited.{same_place, held_there}
use Rattle.mem_calls.proofs.Stamped as stamped
use Rattle.mem_calls.proofs.Finished.{of_changed}
use Rattle.mem_calls.proofs.Changed as changed
use Rattle.mem_calls.proofs.Changed.{Turn}

-- It keeps each cell but the bucket of the name, the file and the own log.
pub unlink_keeps : (nodes : ℕ) (tree : TreeState) (core : ℕ) (dir : NodeId) (name : List ℕ) (child : NodeId) (which : CellId)
    → verdict tree core (call.Unlink dir name) ≡ done (Removes dir.0 name child.0) → row_of tree dir.0 name ≡ Some child.0
    → (cell_place nodes (id.Part (record { 0 = core })) ≡ cell_place nodes which → ⊥) → (cell_place nodes (id.File child) ≡ cell_place nodes which → ⊥)
    → (cell_place nodes (id.Bucket dir (bucket name)) ≡ cell_place nodes which → ⊥)
    → KeepsCell tree core (call.Unlink dir name) which
unlink_keeps nodes tree core dir name child id.Lock does row part file here = inl (ap (λ (v : Verdict). moves_between tree v.effect) does)
unlink_keeps nodes tree core dir name child (id.Bucket node number) does row part file here =
    inl (both_false (is_in_part node.0 (λ n. bucket n == number) dir.0 name) false
    (apart (dir.0 == node.0) (bucket name == number) refl refl) refl)
  where
    apart : (a b : Bool) → (dir.0 == node.0) ≡ a → (bucket name == number) ≡ b → (a && b) ≡ false
    apart true true one two = absurd (here (λ i. 16 + 9 * eqb-true dir.0 node.0 one i + eqb-true (bucket name) number two i))
    apart true false one two = refl
    apart false b one two = refl
unlink_keeps nodes tree core dir name child (id.File node) does row part file here =
    inl (first_false (is_this node.0 (row_of tree dir.0 name)) _ (ap (is_this node.0) row ∙ ⊎_elim
    (λ same. absurd (file (ap (λ (n : ℕ). cell_place nodes (id.File (record { 0 = n }))) (eqb-true child.0 node.0 same))))
    (λ other. other)
    (cases_Bool (child.0 == node.0))))
unlink_keeps nodes tree core dir name child (id.Pending node) does row part file here = inl refl
unlink_keeps nodes tree core dir name child (id.Part owner) does row part file here = ⊎_elim
    (λ same. absurd (part (ap (λ (n : ℕ). cell_place nodes (id.Part (record { 0 = n }))) (eqb-true core owner.0 same))))
    (λ other. inl other)
    (cases_Bool (core == owner.0))

-- a file's value, and what it stands for
module _ (given : ℕ → Option OldKept) (first : TreeState) (log : List (Event Fact)) (file : NodeId) where
  pub file_of_value : (value : Cell) (f : FileCell) → as_file value ≡ Some f → StandsForCell given first (account_of log) (id.File file) value
      → StandsFile first (calls_in log) file.0 f
  file_of_value (cell.File box) f is stood = let same : box.value ≡ f = cc (is) in subst (StandsFile first (calls_in log) file.0) same stood
  file_of_value (cell.Bucket box) f is stood = absurd stood
  file_of_value (cell.Lock lock) f is stood = absurd stood
  file_of_value (cell.Pending box) f is stood = absurd stood
  file_of_value (cell.Part box) f is stood = absurd stood

  pub value_of_file : (value : Cell) (f : FileCell) → as_file value ≡ Some f → StandsFile first (calls_in log) file.0 f
      → StandsForCell given first (account_of log) (id.File file) value
  value_of_file (cell.File box) f is stands = let same : box.value ≡ f = cc (is) in subst (StandsFile first (calls_in log) file.0) (sym same) stands
  value_of_file (cell.Bucket box) f is stands = absurd (cc (is))
  value_of_file (cell.Lock lock) f is stands = absurd (cc (is))
  value_of_file (cell.Pending box) f is stands = absurd (cc (is))
  value_of_file (cell.Part box) f is stands = absurd (cc (is))

  pub value_of_bucket : (number : ℕ) (value : Cell) (b : Bucket) → as_bucket value ≡ Some b → ShowsBucket (tree_after first (calls_in log)) file.0 number b
      → StandsForCell given first (account_of log) (id.Bucket file number) value
  value_of_bucket number (cell.Bucket box) b is shows = let same : box.value ≡ b = cc (is) in
      subst (ShowsBucket (tree_after first (calls_in log)) file.0 number) (sym same) shows
  value_of_bucket number (cell.File box) b is shows = absurd (cc (is))
  value_of_bucket number (cell.Lock lock) b is shows = absurd (cc (is))
  value_of_bucket number (cell.Pending box) b is shows = absurd (cc (is))
  value_of_bucket number (cell.Part box) b is shows = absurd (cc (is))

-- a row of a file in a tree that the core may meet
pub names_row : (hand : FileHand) (nodes : ℕ) (dir : NodeId) (name : List ℕ) (child : NodeId) (tree : TreeState)
    → nodes ≡ Rattle.mem_values.specs.Places.node_count hand.view.first → NamesFile nodes hand.held dir (bucket name) name child
    → Rattle.mem_values.specs.Laws.MayMeet hand.view hand.held tree → (row_of tree dir.0 name ≡ Some child.0) × (is_directory tree child.0 ≡ false)
names_row hand nodes dir name child tree counted names meets =
    let shows = name_shows hand nodes counted tree meets dir name (bucket name) names.bucket names.within refl names.held_is in
    (row_in tree dir.0 name names.bucket shows ∙ names.row, sym (directory_in tree dir.0 name names.bucket shows child.0 names.row) ∙ names.file)

module _ (given : ℕ → Option OldKept) (t : FileState) (nodes : ℕ) (before : FileHand) (table : IsFileTable t nodes) (work : IsWorking given t before)
    (dir : NodeId) (name : List ℕ) (child : NodeId)
    (names : NamesFile nodes before.held dir (bucket name) name child) (part : IsSome (part_held nodes before.held before.view.core))
    (file : IsSome (file_held nodes before.held child))
    (due : InEach before (λ tree. verdict tree before.view.core (call.Unlink dir name) ≡ done (Removes dir.0 name child.0))) where
  pub keeps : InEach before (λ tree. stamped.KeepsOrHolds given t nodes before table work tree (call.Unlink dir name))
  keeps tree meets which is_cell = ⊎_elim
      (λ same. inr
      (held_there nodes before.held (id.Part (record { 0 = before.view.core })) which same
      (Rattle.mem_calls.proofs.Nothing.some_first as_part (value_held nodes before.held (id.Part (record { 0 = before.view.core }))) part)))
      (λ not_part. ⊎_elim
      (λ same. inr
      (held_there nodes before.held (id.File child) which same
      (Rattle.mem_calls.proofs.Nothing.some_first as_file (value_held nodes before.held (id.File child)) file)))
      (λ not_file. ⊎_elim
      (λ same. inr
      (held_there nodes before.held (id.Bucket dir (bucket name)) which same
      (Rattle.mem_calls.proofs.Nothing.some_first as_bucket (value_held nodes before.held (id.Bucket dir (bucket name)))
      (Rattle.mem_values.proofs.Basics.some_of (bucket_held nodes before.held dir (bucket name)) names.bucket names.held_is))))
      (λ not_bucket. inl
      (unlink_keeps nodes tree before.view.core dir name child which (due tree meets)
      (names_row before nodes dir name child tree (stamped.counted given t nodes before table work) names meets).0 not_part not_file not_bucket))
      (same_place nodes (id.Bucket dir (bucket name)) which))
      (same_place nodes (id.File child) which))
      (same_place nodes (id.Part (record { 0 = before.view.core })) which)

module _ (given : ℕ → Option OldKept) (t : FileState) (nodes : ℕ) (before : FileHand) (dir : NodeId) (name : List ℕ) (child : NodeId) (number : ℕ)
    (mid : FileHand)
    (turn : Turn given t nodes before (call.Unlink dir name) (done (Removes dir.0 name child.0)) number mid)
    (names : NamesFile nodes before.held dir (bucket name) name child) (within : child.0 < nodes) where
  abbrev c : Call
  c = call.Unlink dir name

  abbrev v : Verdict
  v = done (Removes dir.0 name child.0)

  abbrev S : TreeState
  S = changed.S given t nodes before c v number mid turn

  abbrev next : TreeState
  next = changed.next given t nodes before c v number mid turn

  abbrev log : List (Event Fact)
  log = changed.log given t nodes before c v number mid turn

  abbrev entry : Entry
  entry = changed.entry given t nodes before c v number mid turn

  abbrev own : CellId
  own = id.Part (record { 0 = before.view.core })

  row : row_of S dir.0 name ≡ Some child.0
  row =
      (names_row before nodes dir name child S (stamped.counted given t nodes before turn.table turn.work) names
      (changed.meets given t nodes before c v number mid turn)).0

  is_file : is_directory S child.0 ≡ false
  is_file =
      (names_row before nodes dir name child S (stamped.counted given t nodes before turn.table turn.work) names
      (changed.meets given t nodes before c v number mid turn)).1

  removes : (verdict S before.view.core c).effect ≡ Removes dir.0 name child.0
  removes = ap (λ (w : Verdict). w.effect) (changed.verdict_is given t nodes before c v number mid turn)

  -- what goes home of the bucket
  pub bucket_home : (value : Cell) (new : Bucket) → as_bucket value ≡ Some new → IsWithoutRow name names.bucket new
      → StandsForCell given before.view.first (account_of (log ++ Called entry ∷ [])) (id.Bucket dir (bucket name)) value
  bucket_home value new is without = value_of_bucket given before.view.first (log ++ Called entry ∷ []) dir (bucket name) value new is
      (subst (λ x. ShowsBucket x dir.0 (bucket name) new) (sym (changed.next_is given t nodes before c v number mid turn))
      (bucket_after S before.view.core c (changed.sound given t nodes before c v number mid turn)
      (changed.core_known given t nodes before c v number mid turn) dir.0 name child.0 removes names.bucket new
      (name_shows before nodes (stamped.counted given t nodes before turn.table turn.work) S (changed.meets given t nodes before c v number mid turn) dir name
      (bucket name) names.bucket names.within refl names.held_is)
      without refl))

  file_stood : (old : FileCell) → file_held nodes before.held child ≡ Some old → StandsFile before.view.first (calls_in log) child.0 old
  file_stood old is = option_and_then_some as_file (value_held nodes before.held (id.File child)) old is
      (λ x found kind. file_of_value given before.view.first log child x old kind
      (changed.stood given t nodes before c v number mid turn (id.File child) x within found))

  counted_links : (old : FileCell) → file_held nodes before.held child ≡ Some old → old.links ≡ count_of S.rows child.0
  counted_links old is = (file_stood old is).links ∙ ap (λ b. if b then 0 else count_of S.rows child.0) is_file

  -- the file has a name
  pub some_links : (old : FileCell) → file_held nodes before.held child ≡ Some old → 0 < old.links
  some_links old is = let e = counted_links old is in let lt = named (count_of S.rows child.0) refl in omega (arith, e, lt)
    where
      named : (n : ℕ) → count_of S.rows child.0 ≡ n → 0 < n
      named Rattle.std.proofs.Common.zero none = absurd (both_ways (Rattle.tree_laws.specs.Tree.is_alive S child.0)
          (λ i. (root i) || not (nat_eq (none i) 0))
          (Rattle.tree_laws.proofs.RowFacts.named_alive S child.0 (record { directory = dir.0; name = name; row = row })))
        where
          root : (child.0 == 0) ≡ false
          root =
              ⊎_elim
              (λ zero. absurd ((changed.sound given t nodes before c v number mid turn).sound.unnamed dir.0 name (row ∙ ap Some (eqb-true child.0 0 zero))))
              (λ other. other) (cases_Bool (child.0 == 0))
      named (Rattle.std.proofs.Common.suc n) some = omega arith

  -- what goes home of the file
  pub file_home : (old new : FileCell) (value : Cell) → file_held nodes before.held child ≡ Some old → as_file value ≡ Some new → new.links + 1 ≡ old.links
      → new.file ≡ old.file
      → StandsForCell given before.view.first (account_of (log ++ Called entry ∷ [])) (id.File child) value
  file_home old new value was is links same = value_of_file given before.view.first (log ++ Called entry ∷ []) child value new is (record {
    links = links_next ∙ ap (λ x. file_links x child.0) (sym (changed.next_is given t nodes before c v number mid turn));
    bytes =
        ap (λ f. f.bytes) same
        ∙ ((file_stood old was).bytes
        ∙ (sym
        ((calls_keep_the_rest S before.view.core c (changed.sound given t nodes before c v number mid turn)
        (changed.core_known given t nodes before c v number mid turn)).bytes
        child.0 refl)
        ∙ ap (λ x. bytes_of x child.0) (sym (changed.next_is given t nodes before c v number mid turn))));
    marks = λ block. ap (λ f. Rattle.mem_files.specs.File.mark_of f block) same ∙ ((file_stood old was).marks block
        ∙ (sym
        (last_touch-push before.view.first (calls_in log) entry child.0 block
        (λ edit is_edit. let never : Removes dir.0 name child.0 ≡ Edits child.0 edit = sym removes ∙ is_edit in cc))
        ∙ ap (λ l. Rattle.mem_values.specs.Logs.last_touch before.view.first None l child.0 block) (sym (calls_snoc log entry))));
  })
    where
      here : (child.0 == child.0) ≡ true
      here = eq-eqb child.0 child.0 refl

      count_next : count_of next.rows child.0 ≡ count_of S.rows child.0 - 1
      count_next =
          (nodes_after S before.view.core (verdict S before.view.core c).effect (verdict S before.view.core c).makes child.0
          (changed.fits given t nodes before c v number mid turn)).links
          ∙ (ap (λ e. links_after S e child.0 (count_of S.rows child.0)) removes
          ∙ ap (λ b. if b then count_of S.rows child.0 - 1 else count_of S.rows child.0) here)

      file_next : is_directory next child.0 ≡ false
      file_next =
          directory_kept S before.view.core c (changed.sound given t nodes before c v number mid turn)
          (changed.core_known given t nodes before c v number mid turn) child.0
          ((changed.sound given t nodes before c v number mid turn).sound.node dir.0 name child.0 row) ∙ is_file

      links_next : new.links ≡ file_links next child.0
      links_next =
          (let e = counted_links old was in let count = count_next in let one : new.links ≡ count_of next.rows child.0 = omega (arith, e, links, count) in one)
          ∙ sym (ap (λ b. if b then 0 else count_of next.rows child.0) file_next)

  -- what the entry logs
  pub logs : entry_logged S entry ≡ log_entry number dir.0 name child.0 File Remove None [] ∷ []
  logs = ap (λ (w : Verdict). logged_by S before.view.core number w.effect w.makes) (changed.verdict_is given t nodes before c v number mid turn)
      ∙ ap (λ k. log_entry number dir.0 name child.0 k Remove None [] ∷ [])
      (sym (kind_again (kind_of S child.0)) ∙ ap kind_if (sym (directory_by_kind S child.0) ∙ is_file))

  made_next : made_by S before.view.core ≡ made_by next before.view.core
  made_next =
      sym
      ((calls_keep_the_rest S before.view.core c (changed.sound given t nodes before c v number mid turn)
      (changed.core_known given t nodes before c v number mid turn)).own refl)

  module _ (p after : PartCell) (stands : Rattle.mem_values.specs.Stands.StandsPart before.view.first (account_of log) before.view.core p)
      (vb vf vp none : Cell) (new_b : Bucket) (old_f new_f : FileCell) (is_b : as_bucket vb ≡ Some new_b)
      (without : IsWithoutRow name names.bucket new_b)
      (was_f : file_held nodes before.held child ≡ Some old_f) (is_f : as_file vf ≡ Some new_f) (links : new_f.links + 1 ≡ old_f.links)
      (same : new_f.file ≡ old_f.file)
      (is_p : as_part vp ≡ Some after) (added : IsAddedTo p.log (log_entry number dir.0 name child.0 File Remove None [] ∷ []) after.log)
      (made : after.made ≡ p.made) where
    abbrev pub new_held : List (HeldCell Cell)
    new_held =
        with_value (cell_place nodes own) vp
        (with_value (cell_place nodes (id.File child)) vf
        (with_value (cell_place nodes (id.Bucket dir (bucket name))) vb (with_value (cell_place nodes own) none before.held)))

    pub same_cells : places_of new_held ≡ places_of before.held
    same_cells =
        same_places (cell_place nodes own) _ vp
        ∙ (same_places (cell_place nodes (id.File child)) _ vf
        ∙ (same_places (cell_place nodes (id.Bucket dir (bucket name))) _ vb ∙ same_places (cell_place nodes own) before.held none))

    stood_by : (which other : CellId) (x y : Cell) → which ≡ other → x ≡ y
        → StandsForCell given before.view.first (account_of (log ++ Called entry ∷ [])) other y
        → StandsForCell given before.view.first (account_of (log ++ Called entry ∷ [])) which x
    stood_by which other x y one two stands_other =
        subst (λ (z : CellId × Cell). StandsForCell given before.view.first (account_of (log ++ Called entry ∷ [])) z.0 z.1)
        (λ i. (sym one i, sym two i)) stands_other

    pub each : (which : CellId) (x : Cell) → IsCell nodes (length t.first.made) which → value_held nodes new_held which ≡ Some x
        → StandsForCell given before.view.first (account_of (log ++ Called entry ∷ [])) which x
    each which x is_cell found = elim (of_changed nodes (length t.first.made) which own x vp _ is_cell turn.work.core found) [
      | inl one ↦
          stood_by which own x vp one.0 one.1
          (changed.part_home given t nodes before c v number mid turn p after vp stands is_p (subst (λ l. IsAddedTo p.log l after.log) (sym logs) added)
          (made ∙ (stands.made ∙ made_next)))
      | inr not_own ↦ elim (of_changed nodes (length t.first.made) which (id.File child) x vf _ is_cell within not_own.1) [
        | inl two ↦ stood_by which (id.File child) x vf two.0 two.1 (file_home old_f new_f vf was_f is_f links same)
        | inr not_file ↦
            elim (of_changed nodes (length t.first.made) which (id.Bucket dir (bucket name)) x vb _ is_cell (names.within, bucket_small name) not_file.1) [
              | inl three ↦ stood_by which (id.Bucket dir (bucket name)) x vb three.0 three.1 (bucket_home vb new_b is_b without)
              | inr not_bucket ↦ elim (of_changed nodes (length t.first.made) which own x none _ is_cell turn.work.core not_bucket.1) [
                | inl four ↦ absurd (not_own.0 (ap (cell_place nodes) (sym four.0)))
                | inr last ↦
                    changed.kept given t nodes before c v number mid turn which x is_cell last.1
                    (unlink_keeps nodes S before.view.core dir name child which
                    (changed.verdict_is given t nodes before c v number mid turn) row not_own.0 not_file.0 not_bucket.0)
              ]
            ]
      ]
    ]

-- the same value is held of a cell when another one has another value
pub apart_value : (nodes : ℕ) (held : List (HeldCell Cell)) (changed which : CellId) (new : Cell) → (cell_place nodes changed ≡ cell_place nodes which → ⊥)
    → value_held nodes (with_value (cell_place nodes changed) new held) which ≡ value_held nodes held which
apart_value nodes held changed which new apart =
    ap (option_map (λ (x : HeldCell Cell). x.value)) (with_other (cell_place nodes changed) new held (cell_place nodes which) apart)

module _ (given : ℕ → Option OldKept) (t : FileState) (nodes : ℕ) (before : FileHand) (table : IsFileTable t nodes) (work : IsWorking given t before)
    (dir : NodeId) (name : List ℕ) (child : NodeId)
    (names : NamesFile nodes before.held dir (bucket name) name child) (within : child.0 < nodes) (part : IsSome (part_held nodes before.held before.view.core))
    (file : IsSome (file_held nodes before.held child))
    (due : InEach before (λ tree. verdict tree before.view.core (call.Unlink dir name) ≡ done (Removes dir.0 name child.0)))
    (ready : Ready) (out : FileHand) (is_ready : IsReadyForRow nodes dir name before ready out) (number : ℕ) (mid : FileHand)
    (drawn : Stamps (IsLawfulLog given) (StandsAt given) (call.Unlink dir name) reply.Ok out number mid) where
  abbrev mine : CellId
  mine = id.Part (record { 0 = before.view.core })

  abbrev at : CellId
  at = id.Bucket dir (bucket name)

  abbrev out_held : List (HeldCell Cell)
  out_held = with_value (cell_place nodes mine) is_ready.out.0 before.held

  abbrev turn : Turn given t nodes before (call.Unlink dir name) (done (Removes dir.0 name child.0)) number mid
  turn = record { table = table; work = work; not = refl; due = due; held = out_held; out = out; out_is = is_ready.out.1; drawn = drawn }

  mid_held : mid.held ≡ out_held
  mid_held = changed.mid_held given t nodes before (call.Unlink dir name) (done (Removes dir.0 name child.0)) number mid turn

  part_above : (number : ℕ) → number < 8 → cell_place nodes mine ≡ cell_place nodes (id.Bucket dir number) → ⊥
  part_above number lt same = let node = names.within in omega (arith, node, lt, same)

  part_above_file : cell_place nodes mine ≡ cell_place nodes (id.File child) → ⊥
  part_above_file same = omega (arith, within, same)

  bucket_apart : cell_place nodes at ≡ cell_place nodes (id.File child) → ⊥
  bucket_apart same = let lt = bucket_small name in apart (bucket name) lt same
    where
      apart : (b : ℕ) → b < 8 → 16 + 9 * dir.0 + b ≡ 24 + 9 * child.0 → ⊥
      apart b lt same = omega (arith, lt, same)

  bucket_same : bucket_held nodes mid.held dir (bucket name) ≡ bucket_held nodes before.held dir (bucket name)
  bucket_same =
      ap (λ l. bucket_held nodes l dir (bucket name)) mid_held
      ∙ ap (option_and_then as_bucket) (apart_value nodes before.held mine at is_ready.out.0 (part_above (bucket name) (bucket_small name)))

  pub bucket_there : IsSome (bucket_held nodes mid.held dir (bucket name))
  bucket_there = some_of (bucket_held nodes mid.held dir (bucket name)) names.bucket (bucket_same ∙ names.held_is)

  same_bucket : (b : Bucket) → bucket_held nodes mid.held dir (bucket name) ≡ Some b → names.bucket ≡ b
  same_bucket b is = cc (sym names.held_is ∙ (sym bucket_same ∙ is))

  pub row_there : (b : Bucket) → bucket_held nodes mid.held dir (bucket name) ≡ Some b → IsSome (get b.rows name)
  row_there b is = some_of (get b.rows name) child.0 (ap (λ (x : Bucket). get x.rows name) (sym (same_bucket b is)) ∙ names.row)

  module _ (two : FileHand) (gone : RemovesRow nodes dir (bucket name) name mid two) where
    two_held : two.held ≡ with_value (cell_place nodes at) gone.change.value out_held
    two_held = ap (λ (h : FileHand). h.held) gone.change.puts ∙ ap (with_value (cell_place nodes at) gone.change.value) mid_held

    file_same : file_held nodes two.held child ≡ file_held nodes before.held child
    file_same =
        ap (λ l. file_held nodes l child) two_held
        ∙ ap (option_and_then as_file)
        (apart_value nodes out_held at (id.File child) gone.change.value bucket_apart
        ∙ apart_value nodes before.held mine (id.File child) is_ready.out.0 part_above_file)

    pub file_there : IsSome (file_held nodes two.held child)
    file_there = subst IsSome (sym file_same) file

    pub named_there : (f : FileCell) → file_held nodes two.held child ≡ Some f → 0 < f.links
    named_there f is = some_links given t nodes before dir name child number mid turn names within f (sym file_same ∙ is)

    module _ (three : FileHand) (lowered : LowersLinks nodes child two three) where
      three_held : three.held ≡ with_value (cell_place nodes (id.File child)) lowered.change.value (with_value (cell_place nodes at) gone.change.value out_held)
      three_held = ap (λ (h : FileHand). h.held) lowered.change.puts ∙ ap (with_value (cell_place nodes (id.File child)) lowered.change.value) two_held

      abbrev change : Change
      change = log_entry number dir.0 name child.0 File Remove None []

      part_stands : Rattle.mem_values.specs.Stands.StandsPart before.view.first
          (account_of (log given t nodes before dir name child number mid turn names within)) before.view.core ready.part.value
      part_stands =
          same_part_stands given before.view.first
          (account_of (log given t nodes before dir name child number mid turn names within)) before.view.core is_ready.part ready.part.value is_ready.same
          is_ready.made
          (changed.part_stood given t nodes before (call.Unlink dir name) (done (Removes dir.0 name child.0)) number mid turn is_ready.part is_ready.was)

      pub has_room : length (calls_in before.view.mine) ≤ 2 ^ 50 → HasRoomFor (change ∷ []) ready.part.value
      has_room few =
          room_for_one before.view.first
          (account_of (log given t nodes before dir name child number mid turn names within)) before.view.core ready.part.value change part_stands
          (changed.legal_log given t nodes before (call.Unlink dir name) (done (Removes dir.0 name child.0)) number mid turn)
          (changed.number_is given t nodes before (call.Unlink dir name) (done (Removes dir.0 name child.0)) number mid turn) is_ready.room
          (let e = is_ready.same.entries in
          let lt =
          changed.few_entries given t nodes before (call.Unlink dir name)
          (done (Removes dir.0 name child.0)) number mid turn is_ready.part is_ready.was few in
          omega (arith, e, lt))

      three_core : three.view.core ≡ before.view.core
      three_core = ap (λ (h : FileHand). h.view.core) lowered.change.puts ∙ (ap (λ (h : FileHand). h.view.core) gone.change.puts
          ∙ changed.core_mid given t nodes before (call.Unlink dir name) (done (Removes dir.0 name child.0)) number mid turn)

      pub core_three : three.view.core ≡ before.view.core
      core_three = three_core

      file_above : cell_place nodes (id.File child) ≡ cell_place nodes mine → ⊥
      file_above same = part_above_file (sym same)

      pub part_there : IsSome (value_held nodes three.held mine)
      part_there = some_of (value_held nodes three.held mine) is_ready.out.0
          (ap (λ l. value_held nodes l mine) three_held
          ∙ (apart_value nodes (with_value (cell_place nodes at) gone.change.value out_held) (id.File child) mine lowered.change.value file_above
          ∙ (apart_value nodes out_held at mine gone.change.value (λ same. part_above (bucket name) (bucket_small name) (sym same))
          ∙ value_with nodes mine is_ready.out.0 before.held (some_first as_part (value_held nodes before.held mine) part))))

      module _ (after : PartCell) (value : Cell) (is : as_part value ≡ Some after) (added : IsAddedTo ready.part.value.log (change ∷ []) after.log)
          (made : after.made ≡ ready.part.value.made) (final : FileHand)
          (puts : final ≡ record three { held = with_value (cell_place nodes (id.Part (record { 0 = before.view.core }))) value three.held }) where
        old_file : file_held nodes before.held child ≡ Some lowered.change.old
        old_file = sym file_same ∙ lowered.change.was

        without : IsWithoutRow name names.bucket gone.change.new
        without = subst (λ (b : Bucket). IsWithoutRow name b gone.change.new) (sym (same_bucket gone.change.old gone.change.was)) gone.row

        final_is : final
            ≡ record mid {
              held = with_value (cell_place nodes mine) value
                  (with_value (cell_place nodes (id.File child)) lowered.change.value (with_value (cell_place nodes at) gone.change.value out_held));
            }
        final_is = puts ∙ ((λ i. record (lowered.change.puts i) { held = with_value (cell_place nodes mine) value (three_held i) })
            ∙ ap (λ (h : FileHand). record h {
              held = with_value (cell_place nodes mine) value
                  (with_value (cell_place nodes (id.File child)) lowered.change.value (with_value (cell_place nodes at) gone.change.value out_held));
            })
            gone.change.puts)

        cells : places_of
            (with_value (cell_place nodes mine) value
            (with_value (cell_place nodes (id.File child)) lowered.change.value (with_value (cell_place nodes at) gone.change.value out_held)))
            ≡ places_of before.held
        cells =
            same_cells given t nodes before dir name child number mid turn names within ready.part.value after part_stands gone.change.value
            lowered.change.value value is_ready.out.0 gone.change.new lowered.change.old lowered.change.new
            gone.change.is without old_file lowered.change.is lowered.links lowered.file is added made

        pub goes_home : EachFrom 0 (Stands (IsLawfulLog given) (StandsAt given) final.view) final.held
        goes_home = changed.goes_home given t nodes before (call.Unlink dir name) (done (Removes dir.0 name child.0)) number mid turn final
            (with_value (cell_place nodes mine) value
            (with_value (cell_place nodes (id.File child)) lowered.change.value (with_value (cell_place nodes at) gone.change.value out_held)))
            final_is cells
            (each given t nodes before dir name child number mid turn names within ready.part.value after part_stands gone.change.value lowered.change.value
            value is_ready.out.0 gone.change.new lowered.change.old lowered.change.new
            gone.change.is without old_file lowered.change.is lowered.links lowered.file is added made)

        pub answers : (last : FileHand) → LetsGo final last → last.held ≡ left_below 0 final.held → last.view.held ≡ reverse (places_of last.held)
            → IsAnswered t (call.Unlink dir name) reply.Ok before last
        answers last lets left at_places = changed.ended given t nodes before (call.Unlink dir name) (done (Removes dir.0 name child.0)) number mid turn final
            (with_value (cell_place nodes mine) value
            (with_value (cell_place nodes (id.File child)) lowered.change.value (with_value (cell_place nodes at) gone.change.value out_held)))
            final_is cells last lets left at_places
