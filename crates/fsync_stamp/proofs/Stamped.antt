-- An fsync that is stamped by what its core holds: it may come, the cells go home, and the core waits.
use Rattle.std.proofs.Common.{◌≡◌, ◌<◌, ◌≤◌, ◌^◌, ℕ, Bool, true, false, List, [], ◌∷◌, ◌++◌, length, reverse, Option, Some, None, inl, inr, refl, sym, ap, subst, ◌∙◌, arith}
use Rattle.std.specs.Prelude.{if◌then◌else◌}
use Rattle.std.proofs.lemmas.Option.{option_and_then_some}
use Rattle.disk_nodes.specs.OldKept.{OldKept}
use Rattle.sfs_base.specs.declared.numbers.NodeId.{NodeId}
use Rattle.tree_laws.specs.Tree.{TreeState, is_alive, made_by}
use Rattle.tree_laws.specs.declared.call.Call.{Call}
use Rattle.tree_laws.specs.declared.call.Call.TheVariants as call
use Rattle.tree_laws.specs.declared.reply.Reply.{Reply}
use Rattle.tree_laws.specs.declared.history.Entry.{Entry}
use Rattle.tree_laws.specs.Footprints.{DoesNothing}
use Rattle.tree_laws.specs.History.{tree_after}
use Rattle.tree_laws.specs.Logged.{logged_by}
use Rattle.tree_laws.specs.Verdict.{verdict}
use Rattle.tree_laws.proofs.Histories.{tree_after-push}
use Rattle.mem_cells.specs.Part.{IsAddedTo}
use Rattle.stamp_table.specs.declared.event.Event.{Event}
use Rattle.stamp_table.specs.declared.event.Event.TheVariants.{Called}
use Rattle.stamp_table.specs.declared.held.HeldCell.{HeldCell}
use Rattle.stamp_table.specs.declared.view.View.{View}
use Rattle.stamp_table.specs.Answered.{waits_for_answer}
use Rattle.stamp_table.specs.Events.{calls_in}
use Rattle.stamp_table.specs.Hand.{places_of}
use Rattle.stamp_table.specs.Rule.{Has}
use Rattle.stamp_table.specs.Table.{MayCall, Stamps, Stands, EachFrom, LetsGo, left_below, with_value, entry_numbered}
use Rattle.stamp_table.proofs.Calling.{calls_snoc}
use Rattle.stamp_table.proofs.Replacing.{same_places}
use Rattle.mem_values.specs.Start.{FileHand, FileState}
use Rattle.mem_values.specs.declared.cell.Cell.{Cell}
use Rattle.mem_values.specs.declared.cell.FileCell.{FileCell}
use Rattle.mem_values.specs.declared.cell_id.CellId.{CellId}
use Rattle.mem_values.specs.declared.cell_id.CellId.TheVariants as id
use Rattle.mem_values.specs.declared.fact.Fact.{Fact}
use Rattle.mem_values.specs.Account.{account_of}
use Rattle.mem_values.specs.Facts.{IsLawfulLog}
use Rattle.mem_values.specs.Laws.{CallFits, MayMeet}
use Rattle.mem_values.specs.Logs.{entry_logged}
use Rattle.mem_values.specs.Places.{cell_place, IsCell}
use Rattle.mem_values.specs.Stands.{StandsFile, StandsForCell, StandsAt}
use Rattle.mem_values.proofs.Kept.{same_tree}
use Rattle.mem_values.proofs.Stamping.{calls_may_come}
use Rattle.mem_calls.specs.Table.{IsFileTable}
use Rattle.mem_calls.specs.Held.{as_file, file_held, value_held, part_held, HoldsPart, InEach}
use Rattle.mem_calls.specs.Parts.{MayTake, TakesEntry}
use Rattle.mem_calls.specs.Working.{IsWorking}
use Rattle.mem_calls.proofs.Finished.{of_changed, none_left, held_mid, view_held_mid, core_mid, part_stood, part_home, few_entries}
use Rattle.mem_calls.proofs.Nothing.{no_changes, nothing_keeps, nothing_or_part}
use Rattle.mem_calls.proofs.Stamped as stamped
use Rattle.mem_calls.proofs.Unlinked.{file_of_value}
use Rattle.fsync_stamp.specs.Stamping.{EndsStamp, StampsHeld, reply_for_now}
use Rattle.fsync_stamp.proofs.Fsyncs.{changes_nothing, is_due, unacknowledged}

-- An fsync may be stamped where it is known whether its node is alive, and the own log is held.
pub may_stamp : (given : ℕ → Option OldKept) (t : FileState) (nodes : ℕ) (hand : FileHand) (table : IsFileTable t nodes) (work : IsWorking given t hand)
    (node : NodeId) (lives : Bool) → HoldsPart nodes hand → InEach hand (λ tree. lives ≡ is_alive tree node.0)
    → MayCall (IsLawfulLog given) (StandsAt given) hand.view (call.Fsync node) (reply_for_now lives)
may_stamp given t nodes hand table work node lives part living =
    calls_may_come given hand.view hand.held (call.Fsync node) (reply_for_now lives) (stamped.sound given t nodes hand table work)
    (stamped.core_known given t nodes hand table work) work.knows (λ tree meets. fits tree meets)
  where
    same_counted : nodes ≡ Rattle.mem_values.specs.Places.node_count hand.view.first
    same_counted = stamped.counted given t nodes hand table work

    fits : (tree : TreeState) → MayMeet hand.view hand.held tree → CallFits hand.view tree (call.Fsync node) (reply_for_now lives)
    fits tree meets = record {
      due = is_due tree hand.view.core node lives (living tree meets);
      unanswered = unacknowledged tree node lives;
      keeps = λ which is_cell. elim
          (nothing_or_part nodes hand tree (call.Fsync node) which (changes_nothing tree hand.view.core node lives (living tree meets)) part) [
            | inl kept ↦ inl kept
            | inr held ↦
                inr (subst (λ n. Has hand.view.held (cell_place n which)) same_counted (stamped.held_has given t nodes hand table work which held))
          ];
    }

module _ (given : ℕ → Option OldKept) (t : FileState) (nodes : ℕ) (before : FileHand) (table : IsFileTable t nodes) (work : IsWorking given t before)
    (node : NodeId) (lives : Bool) (living : InEach before (λ tree. lives ≡ is_alive tree node.0)) (number : ℕ) (mid : FileHand)
    (stamps : Stamps (IsLawfulLog given) (StandsAt given) (call.Fsync node) (reply_for_now lives) before number mid) where
  abbrev c : Call
  c = call.Fsync node

  abbrev reply : Reply
  reply = reply_for_now lives

  abbrev S : TreeState
  S = stamped.tree given t nodes before table work c reply number mid stamps

  abbrev log : List (Event Fact)
  log = stamped.log given t nodes before table work c reply number mid stamps

  abbrev entry : Entry
  entry = stamped.entry given t nodes before table work c reply number mid stamps

  -- the tree at the stamp is one that the core could meet
  pub alive_at : lives ≡ is_alive S node.0
  alive_at = living S (stamped.meets given t nodes before table work c reply number mid stamps)

  nothing : DoesNothing (verdict S before.view.core c)
  nothing = changes_nothing S before.view.core node lives alive_at

  logs_none : entry_logged S entry ≡ []
  logs_none = λ i. logged_by S before.view.core number (nothing.effect i) (nothing.makes i)

  same_hand : {A : Type 0} (read : List (HeldCell Cell) → ℕ → A) → read mid.held mid.view.core ≡ read before.held before.view.core
  same_hand read = λ i. read (held_mid given t nodes before table work c reply number mid stamps i)
      (core_mid given t nodes before table work c reply number mid stamps i)

  -- the own log has room for its entry
  pub room_for_none : length (calls_in before.view.mine) ≤ 2 ^ 50 → MayTake nodes [] mid
  room_for_none few part held = no_changes part
      (few_entries given t nodes before table work c reply number mid stamps part (sym (same_hand (part_held nodes)) ∙ held) few)

  module _ (final : FileHand) (takes : TakesEntry nodes [] mid final) where
    abbrev own : CellId
    own = id.Part (record { 0 = before.view.core })

    held_is : final.held ≡ with_value (cell_place nodes own) takes.value before.held
    held_is = ap (λ (h : FileHand). h.held) takes.frame
        ∙ same_hand (λ held core. with_value (cell_place nodes (id.Part (record { 0 = core }))) takes.value held)

    was : part_held nodes before.held before.view.core ≡ Some takes.part
    was = sym (same_hand (part_held nodes)) ∙ takes.was

    after_entry : tree_after before.view.first (calls_in (log ++ Called entry ∷ [])) ≡ S
    after_entry = ap (tree_after before.view.first) (calls_snoc log entry)
        ∙ (tree_after-push before.view.first (calls_in log) entry ∙ same_tree S before.view.core c nothing)

    made : takes.next.made ≡ made_by (tree_after before.view.first (calls_in (log ++ Called entry ∷ []))) before.view.core
    made = takes.made ∙ ((part_stood given t nodes before table work c reply number mid stamps takes.part was).made
        ∙ ap (λ (x : TreeState). made_by x before.view.core) (sym after_entry))

    each : (which : CellId) (value : Cell) → IsCell nodes (length t.first.made) which → value_held nodes final.held which ≡ Some value
        → StandsForCell given before.view.first (account_of (log ++ Called entry ∷ [])) which value
    each which value is_cell is = elim
        (of_changed nodes (length t.first.made) which own value takes.value before.held is_cell work.core
        (ap (λ (l : List (HeldCell Cell)). value_held nodes l which) (sym held_is) ∙ is)) [
          | inl changed ↦
              subst (λ (z : CellId × Cell). StandsForCell given before.view.first (account_of (log ++ Called entry ∷ [])) z.0 z.1)
              (λ i. (sym changed.0 i, sym changed.1 i))
              (part_home given t nodes before table work c reply number mid stamps takes.part takes.next takes.value was takes.is
              (subst (λ l. IsAddedTo takes.part.log l takes.next.log) (sym logs_none) takes.log) made)
          | inr other ↦
              stamped.kept given t nodes before table work c reply number mid stamps which value is_cell other.1
              (nothing_keeps nodes S before.view.core c which nothing other.0)
        ]

    places_same : places_of final.held ≡ places_of before.held
    places_same = ap (λ (l : List (HeldCell Cell)). places_of l) held_is ∙ same_places (cell_place nodes own) before.held takes.value

    many : length final.held ≡ length before.held
    many =
        let same = ap (λ (l : List ℕ). length l) places_same in
        let one = Rattle.std.proofs.lemmas.List.length-map final.held (λ (h : HeldCell Cell). h.place) in
        let two = Rattle.std.proofs.lemmas.List.length-map before.held (λ (h : HeldCell Cell). h.place) in
        omega (arith, same, one, two)

    -- each cell goes home
    pub all_home : EachFrom 0 (Stands (IsLawfulLog given) (StandsAt given) final.view) final.held
    all_home = stamped.home given t nodes before table work c reply number mid stamps final (ap (λ (h : FileHand). h.view) takes.frame)
        (view_held_mid given t nodes before table work c reply number mid stamps) places_same each

    module _ (last : FileHand) (lets : LetsGo final last) where
      -- what differs between the stamp and the end
      kept_of : {A : Type 0} (read : FileHand → A) → ((h : FileHand) (view : View TreeState (Event Fact)) (held : List (HeldCell Cell)) (room : ℕ)
          → read (record h { view = view; held = held; room = room }) ≡ read h) → read last ≡ read mid
      kept_of read blind = sym (blind last final.view final.held final.room) ∙ (ap read lets.frame ∙ (ap read takes.frame ∙ blind mid mid.view _ mid.room))

      view_is : record last.view { held = mid.view.held } ≡ mid.view
      view_is = ap (λ (v : View TreeState (Event Fact)). record v { held = mid.view.held }) lets.view
          ∙ ap (λ (h : FileHand). record h.view { held = mid.view.held }) takes.frame

      of_view : {A : Type 0} (read : View TreeState (Event Fact) → A)
          → ((v : View TreeState (Event Fact)) (held : List ℕ) → read (record v { held = held }) ≡ read v) → read last.view ≡ read mid.view
      of_view read blind = sym (blind last.view mid.view.held) ∙ ap read view_is

      core_is : last.view.core ≡ before.view.core
      core_is = of_view (λ v. v.core) (λ v held. refl) ∙ core_mid given t nodes before table work c reply number mid stamps

      table_is : last.table ≡ before.table
      table_is = kept_of (λ h. h.table) (λ h view held room. refl) ∙ ap (λ (h : FileHand). h.table) stamps.frame

      waits_by : (lives : Bool)
          → (if waits_for_answer (call.Fsync node) (reply_for_now lives) then Some number else None) ≡ (if lives then Some number else None)
      waits_by true = refl
      waits_by false = refl

      -- what the stamp of an fsync comes to whose cells have all gone home
      pub ends : last.held ≡ left_below 0 final.held → last.view.held ≡ reverse (places_of last.held) → EndsStamp t node lives number before last
      ends left places =
          let none : last.held ≡ [] = left ∙ none_left final.held in
          record {
            table_is = table_is ∙ work.table;
            first_is = of_view (λ v. v.first) (λ v held. refl) ∙ (stamped.first_is given t nodes before table work c reply number mid stamps ∙ work.first);
            core_is = subst (λ n. n < length t.first.made) (sym core_is) work.core;
            holds_none = none;
            none_held = places ∙ ap (λ (l : List (HeldCell Cell)). reverse (places_of l)) none;
            same = record {
              table = table_is;
              cores = kept_of (λ h. h.cores) (λ h view held room. refl) ∙ ap (λ (h : FileHand). h.cores) stamps.frame;
              leads = kept_of (λ h. h.leads) (λ h view held room. refl) ∙ ap (λ (h : FileHand). h.leads) stamps.frame;
              number = core_is;
            };
            waiting = kept_of (λ h. h.waiting) (λ h view held room. refl) ∙ (stamps.waiting ∙ waits_by lives);
            log = log;
            entry = entry;
            entry_is = ap (entry_numbered before.view.core c reply) (stamped.number_is given t nodes before table work c reply number mid stamps);
            stamp_is = stamped.number_is given t nodes before table work c reply number mid stamps;
            began = stamps.drew.1.seen;
            seen = of_view (λ v. v.seen) (λ v held. refl) ∙ stamped.seen_is given t nodes before table work c reply number mid stamps;
            entries = kept_of (λ h. h.entries) (λ h view held room. refl) ∙ stamps.entries;
            mine = of_view (λ v. v.mine) (λ v held. refl) ∙ stamps.drew.1.mine;
            alive = sym (alive_at ∙ ap (λ f. is_alive (tree_after f (calls_in log)) node.0) work.first);
            room =
                let r = lets.room in
                let empty = ap (λ (l : List (HeldCell Cell)). length l) none in
                let same = ap (λ (h : FileHand). h.room) takes.frame in
                let old = ap (λ (h : FileHand). h.room) stamps.frame in
                let count = many in
                omega (arith, r, empty, same, old, count);
            spare =
                let same = kept_of (λ h. h.spare) (λ h view held room. refl) in
                let s = stamps.spare in
                omega (arith, same, s);
          }

      -- and by what was held
      pub held_ends : last.held ≡ left_below 0 final.held → last.view.held ≡ reverse (places_of last.held) → StampsHeld t nodes node lives number before last
      unfolding ends
      held_ends left places = record {
        ends = ends left places;
        met = subst (λ f. MayMeet before.view before.held (tree_after f (calls_in log))) work.first
            (stamped.meets given t nodes before table work c reply number mid stamps);
        stood = λ file within held.
            subst (λ f. StandsFile f (calls_in log) node.0 file) work.first
            (option_and_then_some as_file (value_held nodes before.held (id.File node)) file held (λ value found kind.
            file_of_value given before.view.first log node value file kind
            (stamped.stood given t nodes before table work c reply number mid stamps (id.File node) value within found)));
      }
