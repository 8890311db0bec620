-- What goes home of a call that makes a node, and its end.
use Rattle.std.proofs.Common.{◌≡◌, ◌<◌, ◌≤◌, ◌+◌, ◌^◌, ℕ, reverse, true, false, List, [], ◌∷◌, ◌++◌, length, Option, Some, None, IsSome, inl, inr, refl, sym, ap, subst, ◌∙◌, arith, ⊎_elim}
use Rattle.std.specs.Option.{option_and_then}
use Rattle.std.proofs.lemmas.Bool.{cases_Bool}
use Rattle.std.proofs.lemmas.Option.{option_and_then_some}
use Rattle.disk_nodes.specs.OldKept.{OldKept}
use Rattle.sfs_base.specs.Name.{bucket}
use Rattle.sfs_base.specs.declared.numbers.NodeId.{NodeId}
use Rattle.sfs_base.specs.declared.numbers.Kind.{Kind}
use Rattle.sfs_base.specs.declared.numbers.Kind.TheVariants.{File, Directory}
use Rattle.tree_laws.specs.Tree.{TreeState, bytes_of}
use Rattle.tree_laws.specs.declared.changes.Change.{Change}
use Rattle.tree_laws.specs.declared.changes.Act.TheVariants.{Add}
use Rattle.tree_laws.specs.declared.call.Call.{Call}
use Rattle.tree_laws.specs.declared.call.Call.TheVariants as call
use Rattle.tree_laws.specs.declared.reply.Reply.TheVariants as reply
use Rattle.tree_laws.specs.declared.history.Entry.{Entry}
use Rattle.tree_laws.specs.History.{tree_after}
use Rattle.tree_laws.specs.Effect.{Edits, Adds}
use Rattle.tree_laws.specs.Logged.{log_entry, logged_by}
use Rattle.tree_laws.specs.Verdict.{Verdict, verdict}
use Rattle.tree_laws.specs.Laws.{IsSoundTree}
use Rattle.tree_laws.proofs.KeepsRest.{calls_keep_the_rest}
use Rattle.tree_laws.proofs.Joined.{bucket_small}
use Rattle.mem_cells.specs.Part.{IsAddedTo}
use Rattle.stamp_table.specs.declared.event.Event.{Event}
use Rattle.stamp_table.specs.declared.event.Event.TheVariants.{Called}
use Rattle.stamp_table.specs.declared.held.HeldCell.{HeldCell}
use Rattle.stamp_table.specs.Events.{calls_in}
use Rattle.stamp_table.specs.Hand.{places_of}
use Rattle.stamp_table.specs.Table.{with_value, LetsGo, Stands, EachFrom, left_below}
use Rattle.stamp_table.proofs.Calling.{calls_snoc}
use Rattle.stamp_table.proofs.Replacing.{same_places}
use Rattle.mem_values.specs.Start.{FileHand, FileState}
use Rattle.mem_values.specs.declared.cell.Cell.{Cell}
use Rattle.mem_values.specs.declared.cell.FileCell.{FileCell}
use Rattle.mem_values.specs.declared.cell.PartCell.{PartCell}
use Rattle.mem_values.specs.declared.cell.Pending.{Pending}
use Rattle.mem_values.specs.declared.bucket.Bucket.{Bucket}
use Rattle.mem_values.specs.declared.cell_id.CellId.{CellId}
use Rattle.mem_values.specs.declared.cell_id.CellId.TheVariants as id
use Rattle.mem_values.specs.declared.fact.Fact.{Fact}
use Rattle.mem_values.specs.Places.{cell_place, IsCell}
use Rattle.mem_values.specs.Account.{account_of}
use Rattle.mem_values.specs.Logs.{entry_logged, last_touch}
use Rattle.mem_values.specs.Stands.{Flushed, ShowsBucket, StandsFile, StandsPending, StandsPart, StandsForCell, StandsAt, file_links}
use Rattle.mem_values.specs.Facts.{IsLawfulLog}
use Rattle.mem_values.proofs.Places.{places_apart}
use Rattle.mem_values.proofs.Pushes.{account_called, last_touch-push}
use Rattle.mem_values.proofs.Basics.{is_value, some_of}
use Rattle.mem_calls.specs.Held.{value_held, as_bucket, as_file, as_part, file_held}
use Rattle.mem_calls.specs.Outcome.{IsAnswered}
use Rattle.mem_calls.specs.Parts.{HasRoomFor}
use Rattle.mem_calls.specs.declared.coming.Coming.{Coming}
use Rattle.mem_calls.specs.Changes.{PutsValue, IsWithRow}
use Rattle.mem_calls.specs.Ends.{IsPlacedBucket}
use Rattle.mem_calls.specs.Creations.{creates, HoldsCreated, is_new_cell, IsSettled, SettlesCreation}
use Rattle.mem_calls.proofs.Shown.{name_shows}
use Rattle.mem_calls.proofs.RowsCome.{bucket_after}
use Rattle.mem_calls.proofs.Comings.{out_is, at_there, part_out}
use Rattle.mem_calls.proofs.PartKept.{same_part_stands, room_for_one}
use Rattle.mem_calls.proofs.Finished.{of_changed}
use Rattle.mem_calls.proofs.Unlinked.{file_of_value, value_of_bucket, apart_value}
use Rattle.mem_calls.proofs.NewNodes as new_node
use Rattle.mem_calls.proofs.SettledHome.{bucket_settled, file_settled, pending_settled}
use Rattle.mem_calls.proofs.NewCells.{new_is, new_held, new_again, part_old, bucket_old, apart_by}
use Rattle.mem_calls.proofs.Stamped as stamped
use Rattle.mem_calls.proofs.Changed as changed
use Rattle.mem_calls.proofs.Changed.{Turn}
use Rattle.mem_calls.proofs.Creation.{Creation}

module _ {given : ℕ → Option OldKept} {t : FileState} {nodes : ℕ} {before : FileHand} {dir : NodeId} {name : List ℕ} {child : NodeId} {kind : Kind}
    {coming : Coming} {out : FileHand} {number : ℕ} {mid : FileHand}
    (r : Creation given t nodes before dir name child kind coming out number mid) where
  abbrev mine : CellId
  mine = id.Part (record { 0 = before.view.core })

  abbrev at : CellId
  at = id.Bucket dir (bucket name)

  abbrev none_b : Cell
  none_b = r.is.out.0

  abbrev none_p : Cell
  none_p = r.is.ready.out.0

  abbrev out_held : List (HeldCell Cell)
  out_held = with_value (cell_place nodes at) none_b (with_value (cell_place nodes mine) none_p before.held)

  out_same : out ≡ record before { held = out_held }
  out_same = out_is nodes before dir name r.may.place r.part coming.ready r.is.mid r.is.ready out none_b r.is.out.1

  abbrev c : Call
  c = call.Make dir name kind

  abbrev v : Verdict
  v = creates child dir name kind

  abbrev turn : Turn given t nodes before c v number mid
  turn = record { table = r.table; work = r.work; not = refl; due = r.due; held = out_held; out = out; out_is = out_same; drawn = r.drawn }

  abbrev S : TreeState
  S = changed.S given t nodes before c v number mid turn

  abbrev next : TreeState
  next = changed.next given t nodes before c v number mid turn

  abbrev log : List (Event Fact)
  log = changed.log given t nodes before c v number mid turn

  abbrev entry : Entry
  entry = changed.entry given t nodes before c v number mid turn

  abbrev after_log : List (Event Fact)
  after_log = log ++ Called entry ∷ []

  abbrev cores : ℕ
  cores = length t.first.made

  sound : IsSoundTree S
  sound = changed.sound given t nodes before c v number mid turn

  core_known : before.view.core < length S.made
  core_known = changed.core_known given t nodes before c v number mid turn

  does : verdict S before.view.core (call.Make dir name kind) ≡ creates child dir name kind
  does = changed.verdict_is given t nodes before c v number mid turn

  adds : (verdict S before.view.core c).effect ≡ Adds dir.0 name child.0
  adds = ap (λ (w : Verdict). w.effect) does

  mid_held : mid.held ≡ out_held
  mid_held = changed.mid_held given t nodes before c v number mid turn

  at_cell : IsCell nodes cores at
  at_cell = (r.may.place.within, bucket_small name)

  pub bucket_out : IsSome (value_held nodes mid.held (id.Bucket dir (bucket name)))
  bucket_out = at_there nodes before dir name r.may.place r.part coming.ready r.is.mid r.is.ready out none_b r.is.out.1 mid
      (ap (λ (h : FileHand). h.held) r.drawn.frame)

  -- the bucket of the name, which is the one that was made ready
  row : IsWithRow name child.0 kind r.may.place.bucket_of coming.bucket.value
  row = let same : r.is.old ≡ r.may.place.bucket_of = cc (sym r.is.was ∙ r.may.place.bucket_is) in
      subst (λ b. IsWithRow name child.0 kind b coming.bucket.value) same r.is.row

  bucket_home : (value : Cell) → as_bucket value ≡ Some coming.bucket.value → StandsForCell given before.view.first (account_of after_log) at value
  bucket_home value is = value_of_bucket given before.view.first after_log dir (bucket name) value coming.bucket.value is
      (subst (λ x. ShowsBucket x dir.0 (bucket name) coming.bucket.value) (sym (changed.next_is given t nodes before c v number mid turn))
      (bucket_after S before.view.core c sound core_known dir.0 name child.0 adds r.may.place.bucket_of coming.bucket.value
      (name_shows before nodes (stamped.counted given t nodes before r.table r.work) S (changed.meets given t nodes before c v number mid turn) dir name
      (bucket name)
      r.may.place.bucket_of r.may.place.within refl r.may.place.bucket_is)
      kind row r.may.place.free (new_node.kind_next S before.view.core dir name child kind sound core_known does)
      (new_node.stays S before.view.core dir name child kind sound core_known does r.may.apart)))

  -- what goes home of the new node's cells
  file_home : (old new : FileCell) → kind ≡ File → StandsFile before.view.first (calls_in log) child.0 old → new.links ≡ old.links + 1 → new.file ≡ old.file
      → StandsFile before.view.first (calls_in after_log) child.0 new
  file_home old new is_file stood links same = record {
    links = links ∙ (ap (λ n. n + 1) stood.links ∙ (sym (new_node.links_next S before.view.core dir name child kind sound core_known does is_file)
        ∙ ap (λ x. file_links x child.0) (sym (changed.next_is given t nodes before c v number mid turn))));
    bytes = ap (λ f. f.bytes) same ∙ (stood.bytes
        ∙ (sym ((calls_keep_the_rest S before.view.core c sound core_known).bytes child.0 refl)
        ∙ ap (λ x. bytes_of x child.0) (sym (changed.next_is given t nodes before c v number mid turn))));
    marks = λ block. ap (λ f. Rattle.mem_files.specs.File.mark_of f block) same ∙ (stood.marks block
        ∙ (sym (last_touch-push before.view.first (calls_in log) entry child.0 block
        (λ edit is_edit. let never : Adds dir.0 name child.0 ≡ Edits child.0 edit = sym adds ∙ is_edit in cc))
        ∙ ap (λ l. last_touch before.view.first None l child.0 block) (sym (calls_snoc log entry))));
  }

  place_home : (k : ℕ) (old new : Bucket) → kind ≡ Directory → ShowsBucket S child.0 k old → IsPlacedBucket (Some dir) old new
      → ShowsBucket (tree_after before.view.first (calls_in after_log)) child.0 k new
  place_home k old new is_directory shows placed = subst (λ x. ShowsBucket x child.0 k new) (sym (changed.next_is given t nodes before c v number mid turn))
      (new_node.placed_next S before.view.core dir name child kind sound core_known does r.may.apart k old new is_directory shows placed)

  abbrev flushed_of : Pending → Flushed
  flushed_of p = record { cut = p.cut.0; last = p.last; old = p.old }

  pending_home : (old new : Pending) → StandsPending given before.view.first (account_of log) child.0 old → new ≡ record old { made_in = Some dir }
      → StandsPending given before.view.first (account_of after_log) child.0 new
  pending_home old new stood made = subst (λ a. StandsPending given before.view.first a child.0 new) (sym (account_called log entry)) (record {
    flushed = ap flushed_of made ∙ stood.flushed;
    made_in = ap (λ (p : Pending). Rattle.tree_laws.specs.NameRow.number_of p.made_in) made
        ∙ sym (new_node.birthplace_next before.view.first (calls_in log) entry dir name child kind (stamped.sound given t nodes before r.table r.work)
        (changed.legal_log given t nodes before c v number mid turn)
        core_known refl does);
    trimmed = λ writer member is has other lt. stood.trimmed writer member is has other lt;
  })

  abbrev Before : CellId → Cell → Type 0
  Before which x = StandsForCell given before.view.first (account_of log) which x

  abbrev After : CellId → Cell → Type 0
  After which x = StandsForCell given before.view.first (account_of after_log) which x

  -- a value of a cell of the node goes home with what the creation makes of it
  new_home : (which : CellId) (x y : Cell) → is_new_cell child kind which ≡ true → Before which x → IsSettled dir x y → After which y
  new_home which x y new stood settled = elim (new_is child kind which new) [
    | inl file ↦ subst (λ w. After w y) (sym file.1)
        (file_settled given before.view.first log after_log dir child x y (λ old new. file_home old new file.0) (subst (λ w. Before w x) file.1 stood) settled)
    | inr other ↦ elim other [
      | inl directory ↦ subst (λ w. After w y) (sym directory.1.1)
          (bucket_settled given before.view.first log after_log dir child directory.1.0 x y (λ old new. place_home directory.1.0 old new directory.0)
          (subst (λ w. Before w x) directory.1.1 stood) settled)
      | inr flushed ↦ subst (λ w. After w y) (sym flushed)
          (pending_settled given before.view.first log after_log dir child x y pending_home (subst (λ w. Before w x) flushed stood) settled)
    ]
  ]

  -- what the entry logs
  abbrev change : Change
  change = log_entry number dir.0 name child.0 kind Add None []

  logs : entry_logged S entry ≡ change ∷ []
  logs = ap (λ (w : Verdict). logged_by S before.view.core number w.effect w.makes) does
      ∙ ap (λ k. log_entry number dir.0 name child.0 k Add None [] ∷ []) (new_node.kind_made S before.view.core dir name child kind sound core_known does)

  part_stands : StandsPart before.view.first (account_of log) before.view.core coming.ready.part.value
  part_stands = same_part_stands given before.view.first
      (account_of log) before.view.core r.is.ready.part coming.ready.part.value r.is.ready.same r.is.ready.made
      (changed.part_stood given t nodes before c v number mid turn r.is.ready.part r.is.ready.was)

  pub has_room : length (calls_in before.view.mine) ≤ 2 ^ 50 → HasRoomFor (log_entry number dir.0 name child.0 kind Add None [] ∷ []) coming.ready.part.value
  has_room few = room_for_one before.view.first (account_of log) before.view.core coming.ready.part.value change part_stands
      (changed.legal_log given t nodes before c v number mid turn)
      (changed.number_is given t nodes before c v number mid turn) r.is.ready.room
      (let e = r.is.ready.same.entries in let lt = changed.few_entries given t nodes before c v number mid turn r.is.ready.part r.is.ready.was few in
      omega (arith, e, lt))

  pub few_made : coming.ready.part.value.made < 4294967295
  few_made = let same = r.is.ready.made in let few = r.may.few r.is.ready.part r.is.ready.was in omega (arith, same, few)

  module _ (vb : Cell) (three : FileHand) (puts_b : PutsValue nodes (id.Bucket dir (bucket name)) vb mid three) where
    three_held : three.held ≡ with_value (cell_place nodes at) vb out_held
    three_held = ap (λ (h : FileHand). h.held) puts_b ∙ ap (with_value (cell_place nodes at) vb) mid_held

    -- the cells of the node are as they were
    same_by : (which : CellId) → (cell_place nodes at ≡ cell_place nodes which → ⊥) → (cell_place nodes mine ≡ cell_place nodes which → ⊥)
        → value_held nodes three.held which ≡ value_held nodes before.held which
    same_by which not_at not_mine = ap (λ l. value_held nodes l which) three_held ∙ (apart_value nodes out_held at which vb not_at
        ∙ (apart_value nodes (with_value (cell_place nodes mine) none_p before.held) at which none_b not_at
        ∙ apart_value nodes before.held mine which none_p not_mine))

    not_at : (which : CellId) → IsCell nodes cores which → is_new_cell child kind which ≡ true → cell_place nodes at ≡ cell_place nodes which → ⊥
    not_at which is_cell new = apart_by nodes cores (is_new_cell child kind) at which at_cell is_cell (bucket_old child kind dir (bucket name) r.may.apart) new

    not_mine : (which : CellId) → IsCell nodes cores which → is_new_cell child kind which ≡ true → cell_place nodes mine ≡ cell_place nodes which → ⊥
    not_mine which is_cell new = apart_by nodes cores (is_new_cell child kind) mine which r.work.core is_cell (part_old child kind before.view.core) new

    same_new : (which : CellId) → IsCell nodes cores which → is_new_cell child kind which ≡ true
        → value_held nodes three.held which ≡ value_held nodes before.held which
    same_new which is_cell new = same_by which (not_at which is_cell new) (not_mine which is_cell new)

    pub new_there : HoldsCreated nodes three.held child kind
    new_there = new_again nodes before.held child kind r.may.new three.held (λ other which is_cell new. same_new which (to_cell other which is_cell new) new)
      where
        to_cell : (other : ℕ) (which : CellId) → IsCell nodes other which → is_new_cell child kind which ≡ true → IsCell nodes cores which
        to_cell other which is_cell new = elim (new_is child kind which new) [
          | inl file ↦ subst (IsCell nodes cores) (sym file.1) r.may.new.within
          | inr more ↦ elim more [
            | inl directory ↦ subst (IsCell nodes cores) (sym directory.1.1) (subst (IsCell nodes other) directory.1.1 is_cell)
            | inr flushed ↦ subst (IsCell nodes cores) (sym flushed) r.may.new.within
          ]
        ]

    -- no row names the node as a file yet
    pub links_few : (f : FileCell) → file_held nodes three.held child ≡ Some f → f.links < 65535
    links_few f is =
        let was : file_held nodes before.held child ≡ Some f = sym (ap (option_and_then as_file) (same_by (id.File child) file_at file_mine)) ∙ is in
        let stood : StandsFile before.view.first (calls_in log) child.0 f = option_and_then_some as_file (value_held nodes before.held (id.File child)) f was
        (λ x found kind_is. file_of_value given before.view.first log child x f kind_is
        (changed.stood given t nodes before c v number mid turn (id.File child) x r.may.new.within found)) in
        let links = stood.links in
        let none = new_node.no_links S before.view.core dir name child kind sound core_known does in
        omega (arith, links, none)
      where
        file_at : cell_place nodes at ≡ cell_place nodes (id.File child) → ⊥
        file_at same = let never : at ≡ id.File child = places_apart nodes cores at (id.File child) at_cell r.may.new.within same in absurd (cc (never))

        file_mine : cell_place nodes mine ≡ cell_place nodes (id.File child) → ⊥
        file_mine same = let never : mine ≡ id.File child = places_apart nodes cores mine (id.File child) r.work.core r.may.new.within same in
            absurd (cc (never))

    module _ (four : FileHand) (settles : SettlesCreation nodes (is_new_cell child kind) dir three four) where
      four_is : four ≡ record three { held = four.held }
      four_is = ap (λ (h : FileHand). record h { held = four.held }) settles.frame

      three_is : three ≡ record mid { held = three.held }
      three_is = puts_b ∙ ap (λ (l : List (HeldCell Cell)). record mid { held = l }) (ap (λ (h : FileHand). h.held) (sym puts_b))

      core_four : four.view.core ≡ before.view.core
      core_four = ap (λ (h : FileHand). h.view.core) four_is
          ∙ (ap (λ (h : FileHand). h.view.core) three_is ∙ changed.core_mid given t nodes before c v number mid turn)

      at_below : cell_place nodes at ≡ cell_place nodes mine → ⊥
      at_below same = let never : at ≡ mine = places_apart nodes cores at mine at_cell r.work.core same in absurd (cc (never))

      mine_there : value_held nodes four.held mine ≡ Some none_p
      mine_there = settles.rest cores mine r.work.core (part_old child kind before.view.core)
          ∙ (ap (λ l. value_held nodes l mine) three_held ∙ (apart_value nodes out_held at mine vb at_below
          ∙ part_out nodes before dir name r.may.place r.part coming.ready r.is.mid r.is.ready out none_b r.is.out.1))

      pub part_there : IsSome (value_held nodes four.held (id.Part (record { 0 = four.view.core })))
      part_there = subst (λ (n : ℕ). IsSome (value_held nodes four.held (id.Part (record { 0 = n })))) (sym core_four)
          (some_of (value_held nodes four.held mine) none_p mine_there)

      module _ (is_b : as_bucket vb ≡ Some coming.bucket.value) (entered after : PartCell) (vp : Cell) (is_p : as_part vp ≡ Some after)
          (added : IsAddedTo coming.ready.part.value.log (log_entry number dir.0 name child.0 kind Add None [] ∷ []) entered.log)
          (made : entered.made ≡ coming.ready.part.value.made)
          (same_log : after.log ≡ entered.log) (one_more : after.made ≡ entered.made + 1) (final : FileHand)
          (puts_p : PutsValue nodes (id.Part (record { 0 = four.view.core })) vp four final) where
        abbrev new_cells : List (HeldCell Cell)
        new_cells = with_value (cell_place nodes mine) vp four.held

        puts : final ≡ record four { held = with_value (cell_place nodes mine) vp four.held }
        puts = puts_p ∙ ap (λ (n : ℕ). record four { held = with_value (cell_place nodes (id.Part (record { 0 = n }))) vp four.held }) core_four

        final_is : final ≡ record mid { held = new_cells }
        final_is = puts ∙ (ap (λ (h : FileHand). record h { held = new_cells }) four_is
            ∙ ap (λ (h : FileHand). record h { held = new_cells }) three_is)

        places : places_of new_cells ≡ places_of before.held
        places = same_places (cell_place nodes mine) four.held vp ∙ (settles.places ∙ (ap places_of three_held ∙ (same_places (cell_place nodes at) out_held vb
            ∙ (same_places (cell_place nodes at) _ none_b ∙ same_places (cell_place nodes mine) before.held none_p))))

        part_goes : After mine vp
        part_goes = changed.part_home given t nodes before c v number mid turn coming.ready.part.value after vp part_stands is_p
            (subst (λ l. IsAddedTo coming.ready.part.value.log l after.log) (sym logs)
            (subst (IsAddedTo coming.ready.part.value.log (change ∷ [])) (sym same_log) added))
            (one_more ∙ (ap (λ n. n + 1) (made ∙ part_stands.made) ∙ sym (new_node.made_next S before.view.core dir name child kind sound core_known does)))

        stood_by : (which other : CellId) (x y : Cell) → which ≡ other → x ≡ y → After other y → After which x
        stood_by which other x y one two stands = subst (λ (z : CellId × Cell). After z.0 z.1) (λ i. (sym one i, sym two i)) stands

        -- a cell of the node
        new_goes : (which : CellId) (x : Cell) → IsCell nodes cores which → is_new_cell child kind which ≡ true → value_held nodes four.held which ≡ Some x
            → After which x
        new_goes which x is_cell new found =
            let old = is_value (value_held nodes before.held which) (new_held nodes before.held child kind r.may.new cores which is_cell new) in
            let settled = settles.settled cores which old.0 is_cell new (same_new which is_cell new ∙ old.1) in
            let same : settled.0 ≡ x = cc (sym settled.1 ∙ found) in
            new_home which old.0 x new (changed.stood given t nodes before c v number mid turn which old.0 is_cell old.1)
            (subst (IsSettled dir old.0) same settled.2)

        -- any other one
        old_goes : (which : CellId) (x : Cell) → IsCell nodes cores which → is_new_cell child kind which ≡ false
            → (cell_place nodes mine ≡ cell_place nodes which → ⊥)
            → value_held nodes three.held which ≡ Some x → After which x
        old_goes which x is_cell old not_own found = elim
            (of_changed nodes cores which at x vb out_held is_cell at_cell (sym (ap (λ l. value_held nodes l which) three_held) ∙ found)) [
              | inl here ↦ stood_by which at x vb here.0 here.1 (bucket_home vb is_b)
              | inr not_here ↦ elim (of_changed nodes cores which at x none_b _ is_cell at_cell not_here.1) [
                | inl again ↦ absurd (not_here.0 (ap (cell_place nodes) (sym again.0)))
                | inr not_again ↦ elim (of_changed nodes cores which mine x none_p before.held is_cell r.work.core not_again.1) [
                  | inl own ↦ absurd (not_own (ap (cell_place nodes) (sym own.0)))
                  | inr last ↦ changed.kept given t nodes before c v number mid turn which x is_cell last.1
                      (new_node.make_keeps S before.view.core dir name child kind sound core_known does nodes which not_own not_here.0 old)
                ]
              ]
            ]

        each : (which : CellId) (x : Cell) → IsCell nodes cores which → value_held nodes new_cells which ≡ Some x → After which x
        each which x is_cell found = elim (of_changed nodes cores which mine x vp four.held is_cell r.work.core found) [
          | inl one ↦ stood_by which mine x vp one.0 one.1 part_goes
          | inr not_own ↦ ⊎_elim
              (λ new. new_goes which x is_cell new not_own.1)
              (λ old. old_goes which x is_cell old not_own.0 (sym (settles.rest cores which is_cell old) ∙ not_own.1))
              (cases_Bool (is_new_cell child kind which))
        ]

        pub goes_home : EachFrom 0 (Stands (IsLawfulLog given) (StandsAt given) final.view) final.held
        goes_home = changed.goes_home given t nodes before c v number mid turn final new_cells final_is places each

        pub answers : (last : FileHand) → LetsGo final last → last.held ≡ left_below 0 final.held → last.view.held ≡ reverse (places_of last.held)
            → IsAnswered t (call.Make dir name kind) (reply.Node child kind) before last
        answers last lets left at_places = changed.ended given t nodes before c v number mid turn final new_cells final_is places last lets left at_places
