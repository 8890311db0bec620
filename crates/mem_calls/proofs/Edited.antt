-- A call that changes a file's bytes.
use Rattle.std.proofs.Common.{◌≡◌, ◌<◌, ◌≤◌, ◌^◌, ℕ, Bool, true, false, ◌==◌, nat_eq, List, [], ◌∷◌, ◌++◌, length, Option, Some, None, IsSome, option_map, ◌⊎◌, inl, inr, refl, sym, ap, subst, ◌∙◌, eq-eqb, arith, ⊎_elim}
use borrow.Author.Tests.{eqb-true}
use Rattle.std.specs.Prelude.{if◌then◌else◌, ◌&&◌, not}
use Rattle.std.proofs.lemmas.Bool.{cases_Bool, both_ways}
use Rattle.std.proofs.lemmas.Option.{option_and_then_some}
use Rattle.disk_nodes.specs.OldKept.{OldKept}
use Rattle.sfs_base.specs.declared.numbers.NodeId.{NodeId}
use Rattle.tree_laws.specs.Tree.{TreeState, is_directory, bytes_of, made_by}
use Rattle.tree_laws.specs.declared.call.Call.{Call}
use Rattle.tree_laws.specs.declared.reply.Reply.{Reply}
use Rattle.tree_laws.specs.declared.reply.Reply.TheVariants as reply
use Rattle.tree_laws.specs.declared.history.Entry.{Entry}
use Rattle.tree_laws.specs.History.{tree_after}
use Rattle.tree_laws.specs.Effect.{Edits, edited}
use Rattle.tree_laws.specs.Lock.{moves_between}
use Rattle.tree_laws.specs.Logged.{logged_by}
use Rattle.tree_laws.specs.Parts.{bytes_after}
use Rattle.tree_laws.specs.Footprints.{own_kind, touches_links}
use Rattle.tree_laws.specs.Verdict.{Verdict, verdict, done, tree_after_call}
use Rattle.tree_laws.specs.Laws.{IsSoundTree}
use Rattle.tree_laws.proofs.Histories.{tree_after-push}
use Rattle.tree_laws.proofs.SoundTrees.{calls_fit}
use Rattle.tree_laws.proofs.Parts.{nodes_after}
use Rattle.tree_laws.proofs.KeepsRest.{calls_keep_the_rest}
use Rattle.mem_files.specs.File.{mark_of, is_touched}
use Rattle.mem_files.specs.declared.touched.Touched.{Touched}
use Rattle.mem_cells.specs.Part.{IsAddedTo}
use Rattle.stamp_table.specs.declared.event.Event.{Event}
use Rattle.stamp_table.specs.declared.event.Event.TheVariants.{Called}
use Rattle.stamp_table.specs.declared.held.HeldCell.{HeldCell}
use Rattle.stamp_table.specs.Answered.{asks_fsync}
use Rattle.stamp_table.specs.Events.{calls_in}
use Rattle.stamp_table.specs.Hand.{places_of}
use Rattle.stamp_table.specs.Table.{Stamps, Stands, EachFrom, with_value}
use Rattle.stamp_table.proofs.Calling.{calls_snoc}
use Rattle.stamp_table.proofs.Replacing.{same_places}
use Rattle.mem_values.specs.Start.{FileHand, FileState}
use Rattle.mem_values.specs.declared.cell.Cell.{Cell}
use Rattle.mem_values.specs.declared.cell.Cell.TheVariants as cell
use Rattle.mem_values.specs.declared.cell.FileCell.{FileCell}
use Rattle.mem_values.specs.declared.cell_id.CellId.{CellId}
use Rattle.mem_values.specs.declared.cell_id.CellId.TheVariants as id
use Rattle.mem_values.specs.declared.fact.Fact.{Fact}
use Rattle.mem_values.specs.Places.{cell_place, IsCell}
use Rattle.mem_values.specs.Account.{account_of}
use Rattle.mem_values.specs.Logs.{entry_logged, edit_touches, last_touch, touches_block}
use Rattle.mem_values.specs.Stands.{file_links, StandsFile, StandsForCell, StandsAt}
use Rattle.mem_values.specs.Facts.{IsLawfulLog}
use Rattle.mem_values.specs.Touches.{KeepsCell}
use Rattle.mem_values.proofs.Kept.{links_kept}
use Rattle.mem_values.proofs.Pushes.{last_touch-append}
use Rattle.mem_values.proofs.Basics.{both_false}
use Rattle.mem_calls.specs.declared.edit.FileEdit.{FileEdit}
use Rattle.mem_calls.specs.declared.edit.FileEdit.TheVariants.{Put, Resize}
use Rattle.mem_calls.specs.Edits.{edit_of, edit_call, IsEdited}
use Rattle.mem_calls.specs.Table.{IsFileTable}
use Rattle.mem_calls.specs.Held.{value_held, as_file, as_part, file_held, part_held, HoldsPart, InEach}
use Rattle.mem_calls.specs.Parts.{MayTake, TakesEntry}
use Rattle.mem_calls.specs.Working.{IsWorking}
use Rattle.mem_calls.specs.Outcome.{IsRefusedMemory}
use Rattle.mem_calls.proofs.PutBack.{stands_now, works_put, same_length, refused_back}
use Rattle.mem_calls.proofs.Cells.{with_twice, with_other}
use Rattle.mem_calls.proofs.Nothing.{some_first, no_changes}
use Rattle.mem_calls.proofs.Finished as finished
use Rattle.mem_calls.proofs.Stamped as stamped

-- a call of a core that has taken values out of its cells is one of the core as it was
pub stamps_back : (given : ℕ → Option OldKept) (c : Call) (r : Reply) (before out : FileHand) (number : ℕ) (mid : FileHand)
    (held : List (HeldCell Cell)) → out ≡ record before { held = held }
    → Stamps (IsLawfulLog given) (StandsAt given) c r out number mid
    → Stamps (IsLawfulLog given) (StandsAt given) c r before number (record mid { held = before.held })
stamps_back given c r before out number mid held out_is stamps =
    let s : Stamps (IsLawfulLog given) (StandsAt given) c r (record before { held = held }) number mid = subst
    (λ (o : FileHand). Stamps (IsLawfulLog given) (StandsAt given) c r o number mid) out_is stamps in
    record {
      frame = ap (λ (h : FileHand). record h { held = before.held }) s.frame;
      spare = s.spare;
      entries = s.entries;
      waiting = s.waiting;
      drew = s.drew;
    }

pub not_fsync : (file : NodeId) (edit : FileEdit) → asks_fsync (edit_call file edit) ≡ false
not_fsync file (Put at bytes) = refl
not_fsync file (Resize size) = refl

no_kind : (file : NodeId) (edit : FileEdit) → own_kind (edit_call file edit) ≡ None
no_kind file (Put at bytes) = refl
no_kind file (Resize size) = refl

no_links : (tree : TreeState) (core : ℕ) (file : NodeId) (edit : FileEdit) (node : ℕ) → touches_links tree core (edit_call file edit) node ≡ false
no_links tree core file (Put at bytes) node = refl
no_links tree core file (Resize size) node = refl

-- it keeps each cell but the file and the own log
edit_keeps : (nodes : ℕ) (tree : TreeState) (core : ℕ) (file : NodeId) (edit : FileEdit) (which : CellId)
    → verdict tree core (edit_call file edit) ≡ done (Edits file.0 (edit_of edit))
    → (cell_place nodes (id.Part (record { 0 = core })) ≡ cell_place nodes which → ⊥) → (cell_place nodes (id.File file) ≡ cell_place nodes which → ⊥)
    → KeepsCell tree core (edit_call file edit) which
edit_keeps nodes tree core file edit id.Lock does apart other = inl (ap (λ (v : Verdict). moves_between tree v.effect) does)
edit_keeps nodes tree core file (Put at bytes) (id.Bucket node number) does apart other = inl refl
edit_keeps nodes tree core file (Resize size) (id.Bucket node number) does apart other = inl refl
edit_keeps nodes tree core file (Put at bytes) (id.File node) does apart other = ⊎_elim
    (λ same. absurd (other (ap (λ (n : ℕ). cell_place nodes (id.File (record { 0 = n }))) (eqb-true file.0 node.0 same))))
    (λ not_same. inl (both_false (file.0 == node.0) false not_same refl))
    (cases_Bool (file.0 == node.0))
edit_keeps nodes tree core file (Resize size) (id.File node) does apart other = ⊎_elim
    (λ same. absurd (other (ap (λ (n : ℕ). cell_place nodes (id.File (record { 0 = n }))) (eqb-true file.0 node.0 same))))
    (λ not_same. inl (both_false (file.0 == node.0) false not_same refl))
    (cases_Bool (file.0 == node.0))
edit_keeps nodes tree core file (Put at bytes) (id.Pending node) does apart other = inl refl
edit_keeps nodes tree core file (Resize size) (id.Pending node) does apart other = inl refl
edit_keeps nodes tree core file edit (id.Part owner) does apart other = ⊎_elim
    (λ same. absurd (apart (ap (λ (n : ℕ). cell_place nodes (id.Part (record { 0 = n }))) (eqb-true core owner.0 same))))
    (λ not_same. inl not_same)
    (cases_Bool (core == owner.0))

-- a cell lies where another one does, or elsewhere
pub same_place : (nodes : ℕ) (one other : CellId) → (cell_place nodes one ≡ cell_place nodes other) ⊎ (cell_place nodes one ≡ cell_place nodes other → ⊥)
same_place nodes one other = ⊎_elim
    (λ same. inl (eqb-true (cell_place nodes one) (cell_place nodes other) same))
    (λ apart. inr (λ same. both_ways (nat_eq (cell_place nodes one) (cell_place nodes other)) apart
    (eq-eqb (cell_place nodes one) (cell_place nodes other) same)))
    (cases_Bool (nat_eq (cell_place nodes one) (cell_place nodes other)))

pub held_there : (nodes : ℕ) (held : List (HeldCell Cell)) (one other : CellId) → cell_place nodes one ≡ cell_place nodes other
    → IsSome (value_held nodes held one) → IsSome (value_held nodes held other)
held_there nodes held one other same some = subst
    (λ p. IsSome (option_map (λ (h : HeldCell Cell). h.value) (Rattle.stamp_table.specs.Table.cell_at p held))) same some

module _ (given : ℕ → Option OldKept) (t : FileState) (nodes : ℕ) (before : FileHand) (table : IsFileTable t nodes) (work : IsWorking given t before)
    (part : HoldsPart nodes before)
    (file : NodeId) (edit : FileEdit) (within : file.0 < nodes) (holds : IsSome (file_held nodes before.held file))
    (due : InEach before (λ tree. verdict tree before.view.core (edit_call file edit) ≡ done (Edits file.0 (edit_of edit)))) where
  abbrev c : Call
  c = edit_call file edit

  abbrev own : CellId
  own = id.Part (record { 0 = before.view.core })

  pub keeps : InEach before (λ tree. stamped.KeepsOrHolds given t nodes before table work tree c)
  keeps tree meets which is_cell = ⊎_elim
      (λ same. inr (held_there nodes before.held own which same (some_first as_part (value_held nodes before.held own) part)))
      (λ apart. ⊎_elim
      (λ same. inr (held_there nodes before.held (id.File file) which same (some_first as_file (value_held nodes before.held (id.File file)) holds)))
      (λ other. inl (edit_keeps nodes tree before.view.core file edit which (due tree meets) apart other))
      (same_place nodes (id.File file) which))
      (same_place nodes own which)

  file_of_value : (log : List (Event Fact)) (value : Cell) (f : FileCell) → as_file value ≡ Some f
      → StandsForCell given before.view.first (account_of log) (id.File file) value → StandsFile before.view.first (calls_in log) file.0 f
  file_of_value log (cell.File box) f is stood = let same : box.value ≡ f = cc (is) in subst (StandsFile before.view.first (calls_in log) file.0) same stood
  file_of_value log (cell.Bucket box) f is stood = absurd stood
  file_of_value log (cell.Lock lock) f is stood = absurd stood
  file_of_value log (cell.Pending box) f is stood = absurd stood
  file_of_value log (cell.Part box) f is stood = absurd stood

  value_of_file : (log : List (Event Fact)) (value : Cell) (f : FileCell) → as_file value ≡ Some f → StandsFile before.view.first (calls_in log) file.0 f
      → StandsForCell given before.view.first (account_of log) (id.File file) value
  value_of_file log (cell.File box) f is stands = let same : box.value ≡ f = cc (is) in
      subst (StandsFile before.view.first (calls_in log) file.0) (sym same) stands
  value_of_file log (cell.Bucket box) f is stands = absurd (cc (is))
  value_of_file log (cell.Lock lock) f is stands = absurd (cc (is))
  value_of_file log (cell.Pending box) f is stands = absurd (cc (is))
  value_of_file log (cell.Part box) f is stands = absurd (cc (is))

  -- where the edit is refused memory, the file is put back
  module _ (none : Cell) (out : FileHand) (out_is : out ≡ record before { held = with_value (cell_place nodes (id.File file)) none before.held })
      (old : FileCell) (old_is : file_held nodes before.held file ≡ Some old)
      (value : Cell) (is : as_file value ≡ Some old) (put : FileHand)
      (put_is : put ≡ record out { held = with_value (cell_place nodes (id.File file)) value out.held }) where
    pub put_back : put ≡ record before { held = with_value (cell_place nodes (id.File file)) value before.held }
    put_back = put_is ∙ (ap (λ (h : FileHand). record h { held = with_value (cell_place nodes (id.File file)) value h.held }) out_is
        ∙ ap (λ (l : List (HeldCell Cell)). record before { held = l }) (with_twice (cell_place nodes (id.File file)) value none before.held))

    stands : StandsForCell given before.view.first (account_of before.view.seen) (id.File file) value
    stands = value_of_file before.view.seen value old is (option_and_then_some as_file (value_held nodes before.held (id.File file)) old old_is
        (λ v found kind. file_of_value before.view.seen v old kind (stands_now given t nodes before table work (id.File file) v within found)))

    pub works_again : IsWorking given t put
    works_again = works_put given t nodes before table work (id.File file) value put within stands put_back

    pub back_again : (last : FileHand) → IsRefusedMemory t put last → IsRefusedMemory t before last
    back_again last refused = refused_back t before put last (with_value (cell_place nodes (id.File file)) value before.held) put_back
        (same_length given t nodes before table work (id.File file) value put within stands put_back) refused

  module _ (none : Cell) (out : FileHand) (out_is : out ≡ record before { held = with_value (cell_place nodes (id.File file)) none before.held })
      (number : ℕ) (mid : FileHand)
      (drawn : Stamps (IsLawfulLog given) (StandsAt given) c reply.Ok out number mid) where
    abbrev place : ℕ
    place = cell_place nodes (id.File file)

    abbrev mid0 : FileHand
    mid0 = record mid { held = before.held }

    abbrev pub stamps : Stamps (IsLawfulLog given) (StandsAt given) c reply.Ok before number mid0
    stamps = stamps_back given c reply.Ok before out number mid (with_value (cell_place nodes (id.File file)) none before.held) out_is drawn

    abbrev S : TreeState
    S = stamped.tree given t nodes before table work c reply.Ok number mid0 stamps

    abbrev log : List (Event Fact)
    log = stamped.log given t nodes before table work c reply.Ok number mid0 stamps

    abbrev entry : Entry
    entry = stamped.entry given t nodes before table work c reply.Ok number mid0 stamps

    mid_held : mid.held ≡ with_value place none before.held
    mid_held = ap (λ (h : FileHand). h.held) drawn.frame ∙ ap (λ (h : FileHand). h.held) out_is

    verdict_is : verdict S before.view.core c ≡ done (Edits file.0 (edit_of edit))
    verdict_is = due S (stamped.meets given t nodes before table work c reply.Ok number mid0 stamps)

    sound : IsSoundTree S
    sound = (stamped.meets given t nodes before table work c reply.Ok number mid0 stamps).sound

    core_known : before.view.core < length S.made
    core_known =
        let one = (stamped.meets given t nodes before table work c reply.Ok number mid0 stamps).cores in
        let two = stamped.core_known given t nodes before table work in
        omega (arith, one, two)

    next_tree : tree_after before.view.first (calls_in (log ++ Called entry ∷ [])) ≡ tree_after_call S before.view.core c
    next_tree = ap (tree_after before.view.first) (calls_snoc log entry) ∙ tree_after-push before.view.first (calls_in log) entry

    pub put_may : IsSome (value_held nodes mid.held (id.File file))
    put_may = Rattle.mem_values.proofs.Basics.some_of (value_held nodes mid.held (id.File file)) none (ap (λ l. value_held nodes l (id.File file)) mid_held
        ∙ Rattle.mem_calls.proofs.Taken.value_with nodes (id.File file) none before.held
        (some_first as_file (value_held nodes before.held (id.File file)) holds))

    module _ (value : Cell) (next : FileCell) (is : as_file value ≡ Some next) (put : FileHand)
        (put_is : put ≡ record mid { held = with_value (cell_place nodes (id.File file)) value mid.held }) where
      put_held : put.held ≡ with_value place value before.held
      put_held = ap (λ (h : FileHand). h.held) put_is ∙ (ap (with_value place value) mid_held ∙ with_twice place value none before.held)

      put_core : put.view.core ≡ before.view.core
      put_core = ap (λ (h : FileHand). h.view.core) put_is ∙ finished.core_mid given t nodes before table work c reply.Ok number mid0 stamps

      parts_apart : place ≡ cell_place nodes own → ⊥
      parts_apart same = omega (arith, within, same)

      own_part : part_held nodes put.held put.view.core ≡ part_held nodes before.held before.view.core
      own_part = (λ i. part_held nodes (put_held i) (put_core i))
          ∙ ap (λ o. Rattle.std.specs.Option.option_and_then as_part (option_map (λ (h : HeldCell Cell). h.value) o))
          (with_other place value before.held (cell_place nodes own) parts_apart)

      pub part_may : HoldsPart nodes put
      part_may = subst IsSome (sym own_part) part

      pub room_may : length (calls_in before.view.mine) ≤ 2 ^ 50 → MayTake nodes [] put
      room_may few p held = no_changes p (finished.few_entries given t nodes before table work c reply.Ok number mid0 stamps p (sym own_part ∙ held) few)

      module _ (final : FileHand) (takes : TakesEntry nodes [] put final) where
        final_held : final.held ≡ with_value (cell_place nodes own) takes.value (with_value place value before.held)
        final_held = ap (λ (h : FileHand). h.held) takes.frame
            ∙ (λ i. with_value (cell_place nodes (id.Part (record { 0 = put_core i }))) takes.value (put_held i))

        pub final_is : record final { held = mid0.held } ≡ mid0
        final_is = ap (λ (h : FileHand). record h { held = before.held })
            (takes.frame ∙ ap (λ (h : FileHand). record h
            { held = with_value (cell_place nodes (id.Part (record { 0 = put.view.core }))) takes.value put.held }) put_is)

        places : places_of final.held ≡ places_of before.held
        places = ap (λ (l : List (HeldCell Cell)). places_of l) final_held
            ∙ (same_places (cell_place nodes own) (with_value place value before.held) takes.value ∙ same_places place before.held value)

        pub same_count : length final.held ≡ length before.held
        same_count =
            let same = ap (λ (l : List ℕ). length l) places in
            let one = Rattle.std.proofs.lemmas.List.length-map final.held (λ (h : HeldCell Cell). h.place) in
            let two = Rattle.std.proofs.lemmas.List.length-map before.held (λ (h : HeldCell Cell). h.place) in
            omega (arith, same, one, two)

        logs_none : entry_logged S entry ≡ []
        logs_none = ap (λ (v : Verdict). logged_by S before.view.core number v.effect v.makes) verdict_is

        part_stands : StandsForCell given before.view.first (account_of (log ++ Called entry ∷ [])) own takes.value
        part_stands =
            let was = sym own_part ∙ takes.was in
            finished.part_home given t nodes before table work c reply.Ok number mid0 stamps takes.part takes.next takes.value was takes.is
            (subst (λ l. IsAddedTo takes.part.log l takes.next.log) (sym logs_none) takes.log)
            (takes.made ∙ ((finished.part_stood given t nodes before table work c reply.Ok number mid0 stamps takes.part was).made
            ∙ (sym ((calls_keep_the_rest S before.view.core c sound core_known).own (no_kind file edit))
            ∙ ap (λ (x : TreeState). made_by x before.view.core) (sym next_tree))))

        module _ (old g : FileCell) (old_is : file_held nodes before.held file ≡ Some old) (touched : Touched) (edits : IsEdited old edit touched g)
            (links : next.links ≡ g.links) (bytes : next.file.bytes ≡ g.file.bytes)
            (marks : (block : ℕ) → mark_of next.file block ≡
            (if is_touched touched block then Some (record { 0 = number }) else mark_of g.file block)) where
          old_stood : StandsFile before.view.first (calls_in log) file.0 old
          old_stood = option_and_then_some as_file (value_held nodes before.held (id.File file)) old old_is
              (λ v found kind. file_of_value log v old kind
              (stamped.stood given t nodes before table work c reply.Ok number mid0 stamps (id.File file) v within found))

          links_stand : next.links ≡ file_links (tree_after before.view.first (calls_in (log ++ Called entry ∷ []))) file.0
          links_stand = links ∙ (edits.links
              ∙ (old_stood.links ∙ (sym (links_kept S before.view.core c sound core_known file.0
              (untouched (not (is_directory (tree_after_call S before.view.core c) file.0)) (no_links S before.view.core file edit file.0)))
              ∙ ap (λ x. file_links x file.0) (sym next_tree))))
            where
              untouched : (b : Bool) → touches_links S before.view.core c file.0 ≡ false → (touches_links S before.view.core c file.0 && b) ≡ false
              untouched b is = ap (λ x. x && b) is

          here : (file.0 == file.0) ≡ true
          here = eq-eqb file.0 file.0 refl

          bytes_stand : next.file.bytes ≡ bytes_of (tree_after before.view.first (calls_in (log ++ Called entry ∷ []))) file.0
          bytes_stand = bytes ∙ (edits.bytes ∙ (ap (edited (edit_of edit)) old_stood.bytes ∙ (sym after ∙ ap (λ x. bytes_of x file.0) (sym next_tree))))
            where
              after : bytes_of (tree_after_call S before.view.core c) file.0 ≡ edited (edit_of edit) (bytes_of S file.0)
              after = (nodes_after S before.view.core (verdict S before.view.core c).effect (verdict S before.view.core c).makes file.0
                  (calls_fit S before.view.core c sound core_known)).bytes
                  ∙ (ap (λ (v : Verdict). bytes_after v.effect file.0 (bytes_of S file.0)) verdict_is
                  ∙ ap (λ b. if b then edited (edit_of edit) (bytes_of S file.0) else bytes_of S file.0) here)

          marks_stand : (block : ℕ) → mark_of next.file block ≡ last_touch before.view.first None (calls_in (log ++ Called entry ∷ [])) file.0 block
          marks_stand block =
              marks block
              ∙ (ap (λ o. if is_touched touched block then Some (record { 0 = number }) else o) (edits.marks block ∙ old_stood.marks block)
              ∙ (ap (λ b. if b then Some (record { 0 = number }) else last_touch before.view.first None (calls_in log) file.0 block) touches
              ∙ (sym (last_touch-append before.view.first None (calls_in log) (entry ∷ []) file.0 block)
              ∙ ap (λ l. last_touch before.view.first None l file.0 block) (sym (calls_snoc log entry)))))
            where
              touches : is_touched touched block ≡ touches_block (verdict S before.view.core c).effect file.0 block (length (bytes_of S file.0))
              touches = ap (λ x. is_touched x block) (edits.touches ∙ ap (λ (l : List ℕ). edit_touches (edit_of edit) (length l)) old_stood.bytes)
                  ∙ sym (ap (λ (v : Verdict). touches_block v.effect file.0 block (length (bytes_of S file.0))) verdict_is
                  ∙ ap (λ b. b && is_touched (edit_touches (edit_of edit) (length (bytes_of S file.0))) block) here)

          each : (which : CellId) (v : Cell) → IsCell nodes (length t.first.made) which → value_held nodes final.held which ≡ Some v
              → StandsForCell given before.view.first (account_of (log ++ Called entry ∷ [])) which v
          each which v is_cell found = elim
              (finished.of_changed nodes (length t.first.made) which own v takes.value (with_value place value before.held) is_cell work.core
              (ap (λ (l : List (HeldCell Cell)). value_held nodes l which) (sym final_held) ∙ found)) [
                | inl mine ↦ subst (λ (z : CellId × Cell). StandsForCell given before.view.first (account_of (log ++ Called entry ∷ [])) z.0 z.1)
                    (λ i. (sym mine.0 i, sym mine.1 i)) part_stands
                | inr apart ↦ elim (finished.of_changed nodes (length t.first.made) which (id.File file) v value before.held is_cell within apart.1) [
                  | inl same ↦ subst (λ (z : CellId × Cell). StandsForCell given before.view.first (account_of (log ++ Called entry ∷ [])) z.0 z.1)
                      (λ i. (sym same.0 i, sym same.1 i))
                      (value_of_file (log ++ Called entry ∷ []) value next is (record { links = links_stand; bytes = bytes_stand; marks = marks_stand }))
                  | inr other ↦ stamped.kept given t nodes before table work c reply.Ok number mid0 stamps which v is_cell other.1
                      (edit_keeps nodes S before.view.core file edit which verdict_is apart.0 other.0)
                ]
              ]

          pub goes_home : EachFrom 0 (Stands (IsLawfulLog given) (StandsAt given) final.view) final.held
          goes_home = stamped.home given t nodes before table work c reply.Ok number mid0 stamps final (ap (λ (h : FileHand). h.view) final_is)
              (finished.view_held_mid given t nodes before table work c reply.Ok number mid0 stamps) places each
