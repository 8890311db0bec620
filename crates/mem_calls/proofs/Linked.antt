-- A call that gives a file a further row.
use Rattle.std.proofs.Common.{◌≡◌, ◌<◌, ◌≤◌, ◌+◌, ◌*◌, ◌^◌, ℕ, reverse, Bool, true, false, ◌&&◌, ◌==◌, List, [], ◌∷◌, ◌++◌, length, Option, Some, None, IsSome, inl, inr, refl, sym, ap, subst, ◌∙◌, eq-eqb, arith, ⊎_elim}
use borrow.Author.Tests.{eqb-true}
use Rattle.std.specs.Prelude.{if◌then◌else◌}
use Rattle.std.specs.Option.{option_and_then}
use Rattle.std.proofs.lemmas.Bool.{cases_Bool}
use Rattle.std.proofs.lemmas.Option.{option_and_then_some}
use Rattle.disk_nodes.specs.OldKept.{OldKept}
use Rattle.sfs_base.specs.Name.{bucket}
use Rattle.sfs_base.specs.declared.numbers.NodeId.{NodeId}
use Rattle.sfs_base.specs.declared.numbers.Kind.TheVariants.{File}
use Rattle.tree_laws.specs.Tree.{TreeState, is_directory, kind_of, kind_if, kind_again, count_of, bytes_of, made_by}
use Rattle.tree_laws.specs.declared.changes.Act.TheVariants.{Add}
use Rattle.tree_laws.specs.declared.call.Call.{Call}
use Rattle.tree_laws.specs.declared.call.Call.TheVariants as call
use Rattle.tree_laws.specs.declared.reply.Reply.TheVariants as reply
use Rattle.tree_laws.specs.declared.history.Entry.{Entry}
use Rattle.tree_laws.specs.Effect.{Edits, Adds}
use Rattle.tree_laws.specs.Parts.{is_in_part, links_after}
use Rattle.tree_laws.specs.Lock.{moves_between}
use Rattle.tree_laws.specs.Logged.{log_entry, logged_by}
use Rattle.tree_laws.specs.Verdict.{Verdict, verdict, done}
use Rattle.tree_laws.specs.Laws.{IsSoundTree}
use Rattle.tree_laws.proofs.Parts.{nodes_after}
use Rattle.tree_laws.proofs.SoundTree.{sound_file}
use Rattle.tree_laws.proofs.Readings.{directory_by_kind}
use Rattle.tree_laws.proofs.KeepsRest.{calls_keep_the_rest}
use Rattle.tree_laws.proofs.Joined.{bucket_small}
use Rattle.mem_cells.specs.Part.{IsAddedTo}
use Rattle.stamp_table.specs.declared.event.Event.{Event}
use Rattle.stamp_table.specs.declared.event.Event.TheVariants.{Called}
use Rattle.stamp_table.specs.declared.held.HeldCell.{HeldCell}
use Rattle.stamp_table.specs.Events.{calls_in}
use Rattle.stamp_table.specs.Hand.{places_of}
use Rattle.stamp_table.specs.Table.{with_value, Stamps, LetsGo, Stands, EachFrom, left_below}
use Rattle.stamp_table.proofs.Calling.{calls_snoc}
use Rattle.stamp_table.proofs.Replacing.{same_places}
use Rattle.mem_values.specs.Start.{FileHand, FileState}
use Rattle.mem_values.specs.declared.cell.Cell.{Cell}
use Rattle.mem_values.specs.declared.cell.FileCell.{FileCell}
use Rattle.mem_values.specs.declared.cell.PartCell.{PartCell}
use Rattle.mem_values.specs.declared.cell_id.CellId.{CellId}
use Rattle.mem_values.specs.declared.cell_id.CellId.TheVariants as id
use Rattle.mem_values.specs.declared.fact.Fact.{Fact}
use Rattle.mem_values.specs.Places.{cell_place, IsCell}
use Rattle.mem_values.specs.Account.{account_of}
use Rattle.mem_values.specs.Logs.{entry_logged, last_touch}
use Rattle.mem_values.specs.Stands.{ShowsBucket, StandsFile, StandsPart, StandsForCell, StandsAt, file_links}
use Rattle.mem_values.specs.Facts.{IsLawfulLog}
use Rattle.mem_values.specs.Touches.{KeepsCell}
use Rattle.mem_values.proofs.Pushes.{last_touch-push}
use Rattle.mem_values.proofs.Basics.{some_of, first_false}
use Rattle.mem_values.proofs.Kept.{directory_kept}
use Rattle.mem_calls.specs.Held.{value_held, as_bucket, as_file, as_part, bucket_held, file_held, part_held, InEach}
use Rattle.mem_calls.specs.Table.{IsFileTable}
use Rattle.mem_calls.specs.Working.{IsWorking}
use Rattle.mem_calls.specs.Outcome.{IsAnswered}
use Rattle.mem_calls.specs.Parts.{HasRoomFor}
use Rattle.mem_calls.specs.declared.coming.Coming.{Coming}
use Rattle.mem_calls.specs.Changes.{PutsValue, IsWithRow, MayLink, RaisesLinks, IsComing}
use Rattle.mem_calls.proofs.Shown.{name_shows}
use Rattle.mem_calls.proofs.RowsCome.{bucket_after}
use Rattle.mem_calls.proofs.Comings.{part_above, out_is, at_there, part_out}
use Rattle.mem_calls.proofs.Edited.{same_place, held_there}
use Rattle.mem_calls.proofs.Faults.{linked_alive, linked_file}
use Rattle.mem_calls.proofs.PartKept.{same_part_stands, room_for_one}
use Rattle.mem_calls.proofs.Nothing.{some_first}
use Rattle.mem_calls.proofs.Finished.{of_changed}
use Rattle.mem_calls.proofs.Unlinked.{file_of_value, value_of_file, value_of_bucket, apart_value}
use Rattle.mem_calls.proofs.Stamped as stamped
use Rattle.mem_calls.proofs.Changed as changed
use Rattle.mem_calls.proofs.Changed.{Turn}

or_false : (b : Bool) → b ≡ false → Rattle.std.specs.Prelude.◌||◌ b false ≡ false
or_false true is = is
or_false false is = refl

-- It keeps each cell but the bucket of the name, the file and the own log.
link_keeps : (nodes : ℕ) (tree : TreeState) (core : ℕ) (file dir : NodeId) (name : List ℕ) (which : CellId)
    → verdict tree core (call.Link file dir name) ≡ done (Adds dir.0 name file.0)
    → (cell_place nodes (id.Part (record { 0 = core })) ≡ cell_place nodes which → ⊥) → (cell_place nodes (id.File file) ≡ cell_place nodes which → ⊥)
    → (cell_place nodes (id.Bucket dir (bucket name)) ≡ cell_place nodes which → ⊥)
    → KeepsCell tree core (call.Link file dir name) which
link_keeps nodes tree core file dir name id.Lock does part not_file here = inl (ap (λ (v : Verdict). moves_between tree v.effect) does)
link_keeps nodes tree core file dir name (id.Bucket node number) does part not_file here = inl
    (or_false (is_in_part node.0 (λ n. bucket n == number) dir.0 name) (apart (dir.0 == node.0) (bucket name == number) refl refl))
  where
    apart : (a b : Bool) → (dir.0 == node.0) ≡ a → (bucket name == number) ≡ b → (a && b) ≡ false
    apart true true one two = absurd (here (λ i. 16 + 9 * eqb-true dir.0 node.0 one i + eqb-true (bucket name) number two i))
    apart true false one two = refl
    apart false b one two = refl
link_keeps nodes tree core file dir name (id.File node) does part not_file here = inl (first_false (file.0 == node.0) _ (⊎_elim
    (λ same. absurd (not_file (ap (λ (n : ℕ). cell_place nodes (id.File (record { 0 = n }))) (eqb-true file.0 node.0 same))))
    (λ other. other)
    (cases_Bool (file.0 == node.0))))
link_keeps nodes tree core file dir name (id.Pending node) does part not_file here = inl refl
link_keeps nodes tree core file dir name (id.Part owner) does part not_file here = ⊎_elim
    (λ same. absurd (part (ap (λ (n : ℕ). cell_place nodes (id.Part (record { 0 = n }))) (eqb-true core owner.0 same))))
    (λ other. inl other)
    (cases_Bool (core == owner.0))

-- A file that gets a further row, from the moment on at which that is stamped.
pub record Linking (given : ℕ → Option OldKept) (t : FileState) (nodes : ℕ) (before : FileHand) (file dir : NodeId) (name : List ℕ)
    (coming : Coming) (out : FileHand) (number : ℕ) (mid : FileHand) : Type 0 where
  pub table : IsFileTable t nodes
  pub work : IsWorking given t before
  pub may : MayLink nodes before.held file dir name
  pub part : IsSome (part_held nodes before.held before.view.core)
  pub due : InEach before (λ tree. verdict tree before.view.core (call.Link file dir name) ≡ done (Adds dir.0 name file.0))
  pub is : IsComing nodes dir name file.0 File before coming out
  pub drawn : Stamps (IsLawfulLog given) (StandsAt given) (call.Link file dir name) reply.Ok out number mid

pub linking : {given : ℕ → Option OldKept} {t : FileState} {nodes : ℕ} {before : FileHand} {file dir : NodeId} {name : List ℕ} {coming : Coming}
    {out : FileHand} {number : ℕ}
    {mid : FileHand} → IsFileTable t nodes → IsWorking given t before → MayLink nodes before.held file dir name
    → IsSome (part_held nodes before.held before.view.core)
    → InEach before (λ tree. verdict tree before.view.core (call.Link file dir name) ≡ done (Adds dir.0 name file.0))
    → IsComing nodes dir name file.0 File before coming out
    → Stamps (IsLawfulLog given) (StandsAt given) (call.Link file dir name) reply.Ok out number mid
    → Linking given t nodes before file dir name coming out number mid
linking table work may part due is drawn = record { table = table; work = work; may = may; part = part; due = due; is = is; drawn = drawn }

module _ (given : ℕ → Option OldKept) (t : FileState) (nodes : ℕ) (before : FileHand) (table : IsFileTable t nodes) (work : IsWorking given t before)
    (file dir : NodeId)
    (name : List ℕ) (may : MayLink nodes before.held file dir name) (part : IsSome (part_held nodes before.held before.view.core))
    (due : InEach before (λ tree. verdict tree before.view.core (call.Link file dir name) ≡ done (Adds dir.0 name file.0))) where
  abbrev own_log : CellId
  own_log = id.Part (record { 0 = before.view.core })

  abbrev row_place : CellId
  row_place = id.Bucket dir (bucket name)

  pub keeps : InEach before (λ tree. stamped.KeepsOrHolds given t nodes before table work tree (call.Link file dir name))
  keeps tree meets which is_cell = ⊎_elim
      (λ same. inr (held_there nodes before.held own_log which same (some_first as_part (value_held nodes before.held own_log) part)))
      (λ not_part. ⊎_elim
      (λ same. inr (held_there nodes before.held (id.File file) which same (some_first as_file (value_held nodes before.held (id.File file))
      (some_of (file_held nodes before.held file) may.file_of may.file_is))))
      (λ not_file. ⊎_elim
      (λ same. inr (held_there nodes before.held row_place which same (some_first as_bucket (value_held nodes before.held row_place)
      (some_of (bucket_held nodes before.held dir (bucket name)) may.place.bucket_of may.place.bucket_is))))
      (λ not_bucket. inl (link_keeps nodes tree before.view.core file dir name which (due tree meets) not_part not_file not_bucket))
      (same_place nodes row_place which))
      (same_place nodes (id.File file) which))
      (same_place nodes own_log which)

module _ {given : ℕ → Option OldKept} {t : FileState} {nodes : ℕ} {before : FileHand} {file dir : NodeId} {name : List ℕ} {coming : Coming}
    {out : FileHand} {number : ℕ}
    {mid : FileHand} (r : Linking given t nodes before file dir name coming out number mid) where
  abbrev mine : CellId
  mine = id.Part (record { 0 = before.view.core })

  abbrev at : CellId
  at = id.Bucket dir (bucket name)

  above_bucket : cell_place nodes mine ≡ cell_place nodes at → ⊥
  above_bucket = part_above nodes before dir name r.may.place r.part (bucket name) (bucket_small name)

  part_above_file : cell_place nodes mine ≡ cell_place nodes (id.File file) → ⊥
  part_above_file same = let node = r.may.file_within in omega (arith, node, same)

  bucket_apart : cell_place nodes at ≡ cell_place nodes (id.File file) → ⊥
  bucket_apart same = apart (bucket name) (bucket_small name) same
    where
      apart : (b : ℕ) → b < 8 → 16 + 9 * dir.0 + b ≡ 24 + 9 * file.0 → ⊥
      apart b lt same = omega (arith, lt, same)

  -- what is out of its cells
  abbrev none_b : Cell
  none_b = r.is.out.0

  abbrev none_p : Cell
  none_p = r.is.ready.out.0

  abbrev out_held : List (HeldCell Cell)
  out_held = with_value (cell_place nodes at) none_b (with_value (cell_place nodes mine) none_p before.held)

  out_same : out ≡ record before { held = out_held }
  out_same = out_is nodes before dir name r.may.place r.part coming.ready r.is.mid r.is.ready out none_b r.is.out.1

  abbrev c : Call
  c = call.Link file dir name

  abbrev v : Verdict
  v = done (Adds dir.0 name file.0)

  abbrev turn : Turn given t nodes before c v number mid
  turn = record { table = r.table; work = r.work; not = refl; due = r.due; held = out_held; out = out; out_is = out_same; drawn = r.drawn }

  abbrev S : TreeState
  S = changed.S given t nodes before c v number mid turn

  abbrev next : TreeState
  next = changed.next given t nodes before c v number mid turn

  abbrev log : List (Event Fact)
  log = changed.log given t nodes before c v number mid turn

  abbrev entry : Entry
  entry = changed.entry given t nodes before c v number mid turn

  abbrev after_log : List (Event Fact)
  after_log = log ++ Called entry ∷ []

  sound : IsSoundTree S
  sound = changed.sound given t nodes before c v number mid turn

  core_known : before.view.core < length S.made
  core_known = changed.core_known given t nodes before c v number mid turn

  mid_held : mid.held ≡ out_held
  mid_held = changed.mid_held given t nodes before c v number mid turn

  pub bucket_out : IsSome (value_held nodes mid.held (id.Bucket dir (bucket name)))
  bucket_out = at_there nodes before dir name r.may.place r.part coming.ready r.is.mid r.is.ready out none_b r.is.out.1 mid
      (ap (λ (h : FileHand). h.held) r.drawn.frame)

  -- the bucket of the name, which is the one that was made ready
  row : IsWithRow name file.0 File r.may.place.bucket_of coming.bucket.value
  row = let same : r.is.old ≡ r.may.place.bucket_of = cc (sym r.is.was ∙ r.may.place.bucket_is) in
      subst (λ b. IsWithRow name file.0 File b coming.bucket.value) same r.is.row

  adds : (verdict S before.view.core c).effect ≡ Adds dir.0 name file.0
  adds = ap (λ (w : Verdict). w.effect) (changed.verdict_is given t nodes before c v number mid turn)

  file_stood : StandsFile before.view.first (calls_in log) file.0 r.may.file_of
  file_stood = option_and_then_some as_file (value_held nodes before.held (id.File file)) r.may.file_of r.may.file_is
      (λ x found kind. file_of_value given before.view.first log file x r.may.file_of kind
      (changed.stood given t nodes before c v number mid turn (id.File file) x r.may.file_within found))

  some : 0 < file_links S file.0
  some = let e = file_stood.links in let lt = r.may.linked in omega (arith, e, lt)

  is_file : is_directory S file.0 ≡ false
  is_file = linked_file S sound file.0 some

  counted : r.may.file_of.links ≡ count_of S.rows file.0
  counted = file_stood.links ∙ ap (λ b. if b then 0 else count_of S.rows file.0) is_file

  file_next : is_directory next file.0 ≡ false
  file_next = directory_kept S before.view.core c sound core_known file.0 (sound_file S sound.sound file.0 (linked_alive S sound file.0 some) is_file) ∙ is_file

  bucket_home : (value : Cell) → as_bucket value ≡ Some coming.bucket.value → StandsForCell given before.view.first (account_of after_log) at value
  bucket_home value is = value_of_bucket given before.view.first after_log dir (bucket name) value coming.bucket.value is
      (subst (λ x. ShowsBucket x dir.0 (bucket name) coming.bucket.value) (sym (changed.next_is given t nodes before c v number mid turn))
      (bucket_after S before.view.core c sound core_known dir.0 name file.0 adds r.may.place.bucket_of coming.bucket.value
      (name_shows before nodes (stamped.counted given t nodes before r.table r.work) S (changed.meets given t nodes before c v number mid turn) dir name
      (bucket name)
      r.may.place.bucket_of r.may.place.within refl r.may.place.bucket_is)
      File row r.may.place.free file_next refl))

  file_home : (new : FileCell) (value : Cell) → as_file value ≡ Some new → new.links ≡ r.may.file_of.links + 1 → new.file ≡ r.may.file_of.file
      → StandsForCell given before.view.first (account_of after_log) (id.File file) value
  file_home new value is links same = value_of_file given before.view.first after_log file value new is (record {
    links = links_next ∙ ap (λ x. file_links x file.0) (sym (changed.next_is given t nodes before c v number mid turn));
    bytes = ap (λ f. f.bytes) same ∙ (file_stood.bytes
        ∙ (sym ((calls_keep_the_rest S before.view.core c sound core_known).bytes file.0 refl)
        ∙ ap (λ x. bytes_of x file.0) (sym (changed.next_is given t nodes before c v number mid turn))));
    marks = λ block. ap (λ f. Rattle.mem_files.specs.File.mark_of f block) same ∙ (file_stood.marks block
        ∙ (sym (last_touch-push before.view.first (calls_in log) entry file.0 block
        (λ edit is_edit. let never : Adds dir.0 name file.0 ≡ Edits file.0 edit = sym adds ∙ is_edit in cc))
        ∙ ap (λ l. last_touch before.view.first None l file.0 block) (sym (calls_snoc log entry))));
  })
    where
      here : (file.0 == file.0) ≡ true
      here = eq-eqb file.0 file.0 refl

      count_next : count_of next.rows file.0 ≡ count_of S.rows file.0 + 1
      count_next =
          (nodes_after S before.view.core (verdict S before.view.core c).effect (verdict S before.view.core c).makes file.0
          (changed.fits given t nodes before c v number mid turn)).links
          ∙ (ap (λ e. links_after S e file.0 (count_of S.rows file.0)) adds ∙ ap (λ b. if b then count_of S.rows file.0 + 1 else count_of S.rows file.0) here)

      links_next : new.links ≡ file_links next file.0
      links_next =
          (let e = counted in let count = count_next in let one : new.links ≡ count_of next.rows file.0 = omega (arith, e, links, count) in one)
          ∙ sym (ap (λ b. if b then 0 else count_of next.rows file.0) file_next)

  logs : entry_logged S entry ≡ log_entry number dir.0 name file.0 File Add None [] ∷ []
  logs = ap (λ (w : Verdict). logged_by S before.view.core number w.effect w.makes) (changed.verdict_is given t nodes before c v number mid turn)
      ∙ ap (λ k. log_entry number dir.0 name file.0 k Add None [] ∷ [])
      (sym (kind_again (kind_of S file.0)) ∙ ap kind_if (sym (directory_by_kind S file.0) ∙ is_file))

  made_next : made_by S before.view.core ≡ made_by next before.view.core
  made_next = sym ((calls_keep_the_rest S before.view.core c sound core_known).own refl)

  part_stands : StandsPart before.view.first (account_of log) before.view.core coming.ready.part.value
  part_stands = same_part_stands given before.view.first
      (account_of log) before.view.core r.is.ready.part coming.ready.part.value r.is.ready.same r.is.ready.made
      (changed.part_stood given t nodes before c v number mid turn r.is.ready.part r.is.ready.was)

  pub has_room : length (calls_in before.view.mine) ≤ 2 ^ 50 → HasRoomFor (log_entry number dir.0 name file.0 File Add None [] ∷ []) coming.ready.part.value
  has_room few = room_for_one before.view.first (account_of log) before.view.core coming.ready.part.value
      (log_entry number dir.0 name file.0 File Add None []) part_stands
      (changed.legal_log given t nodes before c v number mid turn) (changed.number_is given t nodes before c v number mid turn) r.is.ready.room
      (let e = r.is.ready.same.entries in let lt = changed.few_entries given t nodes before c v number mid turn r.is.ready.part r.is.ready.was few in
      omega (arith, e, lt))

  module _ (vb : Cell) (three : FileHand) (puts_b : PutsValue nodes (id.Bucket dir (bucket name)) vb mid three) where
    three_held : three.held ≡ with_value (cell_place nodes at) vb out_held
    three_held = ap (λ (h : FileHand). h.held) puts_b ∙ ap (with_value (cell_place nodes at) vb) mid_held

    file_same : file_held nodes three.held file ≡ file_held nodes before.held file
    file_same = ap (λ l. file_held nodes l file) three_held ∙ ap (option_and_then as_file) (apart_value nodes out_held at (id.File file) vb bucket_apart
        ∙ (apart_value nodes (with_value (cell_place nodes mine) none_p before.held) at (id.File file) none_b bucket_apart
        ∙ apart_value nodes before.held mine (id.File file) none_p part_above_file))

    pub file_there : IsSome (file_held nodes three.held file)
    file_there = some_of (file_held nodes three.held file) r.may.file_of (file_same ∙ r.may.file_is)

    same_file : (f : FileCell) → file_held nodes three.held file ≡ Some f → r.may.file_of ≡ f
    same_file f is = cc (sym r.may.file_is ∙ (sym file_same ∙ is))

    pub links_few : (f : FileCell) → file_held nodes three.held file ≡ Some f → f.links < 65535
    links_few f is = subst (λ (x : FileCell). x.links < 65535) (same_file f is) r.may.few

    module _ (four : FileHand) (raised : RaisesLinks nodes file three four) where
      four_held : four.held ≡ with_value (cell_place nodes (id.File file)) raised.change.value (with_value (cell_place nodes at) vb out_held)
      four_held = ap (λ (h : FileHand). h.held) raised.change.puts ∙ ap (with_value (cell_place nodes (id.File file)) raised.change.value) three_held

      pub core_four : four.view.core ≡ before.view.core
      core_four = ap (λ (h : FileHand). h.view.core) raised.change.puts
          ∙ (ap (λ (h : FileHand). h.view.core) puts_b ∙ changed.core_mid given t nodes before c v number mid turn)

      mine_there : value_held nodes four.held mine ≡ Some none_p
      mine_there = ap (λ l. value_held nodes l mine) four_held
          ∙ (apart_value nodes (with_value (cell_place nodes at) vb out_held) (id.File file) mine raised.change.value (λ same. part_above_file (sym same))
          ∙ (apart_value nodes out_held at mine vb (λ same. above_bucket (sym same))
          ∙ part_out nodes before dir name r.may.place r.part coming.ready r.is.mid r.is.ready out none_b r.is.out.1))

      pub part_there : IsSome (value_held nodes four.held (id.Part (record { 0 = four.view.core })))
      part_there = subst (λ (n : ℕ). IsSome (value_held nodes four.held (id.Part (record { 0 = n })))) (sym core_four)
          (some_of (value_held nodes four.held mine) none_p mine_there)

      module _ (is_b : as_bucket vb ≡ Some coming.bucket.value) (after : PartCell) (vp : Cell) (is_p : as_part vp ≡ Some after)
          (added : IsAddedTo coming.ready.part.value.log (log_entry number dir.0 name file.0 File Add None [] ∷ []) after.log)
          (made : after.made ≡ coming.ready.part.value.made)
          (final : FileHand) (puts_p : PutsValue nodes (id.Part (record { 0 = four.view.core })) vp four final) where
        abbrev new_held : List (HeldCell Cell)
        new_held = with_value (cell_place nodes mine) vp
            (with_value (cell_place nodes (id.File file)) raised.change.value (with_value (cell_place nodes at) vb out_held))

        puts : final ≡ record four { held = with_value (cell_place nodes mine) vp four.held }
        puts = puts_p ∙ ap (λ (n : ℕ). record four { held = with_value (cell_place nodes (id.Part (record { 0 = n }))) vp four.held }) core_four

        final_is : final ≡ record mid { held = new_held }
        final_is = puts ∙ ((λ i. record (raised.change.puts i) { held = with_value (cell_place nodes mine) vp (four_held i) })
            ∙ ap (λ (h : FileHand). record h { held = new_held }) puts_b)

        cells : places_of new_held ≡ places_of before.held
        cells = same_places (cell_place nodes mine) _ vp ∙ (same_places (cell_place nodes (id.File file)) _ raised.change.value
            ∙ (same_places (cell_place nodes at) _ vb ∙ (same_places (cell_place nodes at) _ none_b ∙ same_places (cell_place nodes mine) before.held none_p)))

        stood_by : (which other : CellId) (x y : Cell) → which ≡ other → x ≡ y → StandsForCell given before.view.first (account_of after_log) other y
            → StandsForCell given before.view.first (account_of after_log) which x
        stood_by which other x y one two stands_other =
            subst (λ (z : CellId × Cell). StandsForCell given before.view.first (account_of after_log) z.0 z.1) (λ i. (sym one i, sym two i)) stands_other

        raised_links : raised.change.new.links ≡ r.may.file_of.links + 1
        raised_links = raised.links ∙ ap (λ (f : FileCell). f.links + 1) (sym (same_file raised.change.old raised.change.was))

        raised_file : raised.change.new.file ≡ r.may.file_of.file
        raised_file = raised.file ∙ ap (λ (f : FileCell). f.file) (sym (same_file raised.change.old raised.change.was))

        part_goes : StandsForCell given before.view.first (account_of after_log) mine vp
        part_goes = changed.part_home given t nodes before c v number mid turn coming.ready.part.value after vp part_stands is_p
            (subst (λ l. IsAddedTo coming.ready.part.value.log l after.log) (sym logs) added) (made ∙ (part_stands.made ∙ made_next))

        each : (which : CellId) (x : Cell) → IsCell nodes (length t.first.made) which → value_held nodes new_held which ≡ Some x
            → StandsForCell given before.view.first (account_of after_log) which x
        each which x is_cell found = elim (of_changed nodes (length t.first.made) which mine x vp _ is_cell r.work.core found) [
          | inl one ↦ stood_by which mine x vp one.0 one.1 part_goes
          | inr not_own ↦ elim (of_changed nodes (length t.first.made) which (id.File file) x raised.change.value _ is_cell r.may.file_within not_own.1) [
            | inl two ↦ stood_by which (id.File file) x raised.change.value two.0 two.1
                (file_home raised.change.new raised.change.value raised.change.is raised_links raised_file)
            | inr not_file ↦ elim (of_changed nodes (length t.first.made) which at x vb _ is_cell (r.may.place.within, bucket_small name) not_file.1) [
              | inl three_is ↦ stood_by which at x vb three_is.0 three_is.1 (bucket_home vb is_b)
              | inr not_bucket ↦ elim (of_changed nodes (length t.first.made) which at x none_b _ is_cell (r.may.place.within, bucket_small name)
                  not_bucket.1) [
                    | inl again ↦ absurd (not_bucket.0 (ap (cell_place nodes) (sym again.0)))
                    | inr not_again ↦ elim (of_changed nodes (length t.first.made) which mine x none_p _ is_cell r.work.core not_again.1) [
                      | inl own_again ↦ absurd (not_own.0 (ap (cell_place nodes) (sym own_again.0)))
                      | inr last ↦ changed.kept given t nodes before c v number mid turn which x is_cell last.1
                          (link_keeps nodes S before.view.core file dir name which
                          (changed.verdict_is given t nodes before c v number mid turn) not_own.0 not_file.0 not_bucket.0)
                    ]
                  ]
            ]
          ]
        ]

        pub goes_home : EachFrom 0 (Stands (IsLawfulLog given) (StandsAt given) final.view) final.held
        goes_home = changed.goes_home given t nodes before c v number mid turn final new_held final_is cells each

        pub answers : (last : FileHand) → LetsGo final last → last.held ≡ left_below 0 final.held → last.view.held ≡ reverse (places_of last.held)
            → IsAnswered t (call.Link file dir name) reply.Ok before last
        answers last lets left at_places = changed.ended given t nodes before c v number mid turn final new_held final_is cells last lets left at_places
