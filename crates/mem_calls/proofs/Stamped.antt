-- A call that is stamped: what stands behind it.
use Rattle.std.proofs.Common.{◌≡◌, ◌<◌, ℕ, false, ◌&&◌, List, [], ◌∷◌, ◌++◌, length, reverse, Option, Some, IsSome, option_map, ◌⊎◌, inl, inr, refl, sym, ap, subst, ◌∙◌}
use Rattle.std.proofs.lemmas.List.{append_cancel_right}
use Rattle.disk_nodes.specs.OldKept.{OldKept}
use Rattle.tree_laws.specs.Tree.{TreeState}
use Rattle.tree_laws.specs.declared.call.Call.{Call}
use Rattle.tree_laws.specs.declared.call.Call.TheVariants as call
use Rattle.tree_laws.specs.declared.reply.Reply.{Reply}
use Rattle.tree_laws.specs.declared.history.Entry.{Entry}
use Rattle.tree_laws.specs.History.{tree_after, flushes, is_ok_reply, IsDue, IsLegal}
use Rattle.tree_laws.specs.Verdict.{Verdict, verdict}
use Rattle.tree_laws.specs.Laws.{IsSoundTree}
use Rattle.stamp_table.specs.declared.event.Event.{Event}
use Rattle.stamp_table.specs.declared.event.Event.TheVariants.{Called}
use Rattle.stamp_table.specs.declared.view.View.{View}
use Rattle.stamp_table.specs.declared.held.HeldCell.{HeldCell}
use Rattle.stamp_table.specs.Answered.{asks_fsync}
use Rattle.stamp_table.specs.Events.{event_core, is_call, calls_in, IsLawful, stands_for}
use Rattle.stamp_table.specs.Rule.{Has, entries_by}
use Rattle.stamp_table.specs.Steps.{IsPast}
use Rattle.stamp_table.specs.Hand.{places_of}
use Rattle.stamp_table.specs.Table.{MayCall, Stamps, Stands, EachFrom, cell_at, entry_numbered}
use Rattle.stamp_table.proofs.Calling.{calls_snoc, stamps_are_calls}
use Rattle.stamp_table.proofs.Logs.{own_comes}
use Rattle.mem_values.specs.Start.{FileHand, FileState}
use Rattle.mem_values.specs.declared.cell.Cell.{Cell}
use Rattle.mem_values.specs.declared.cell_id.CellId.{CellId}
use Rattle.mem_values.specs.declared.fact.Fact.{Fact}
use Rattle.mem_values.specs.Places.{node_count, cell_place, IsCell}
use Rattle.mem_values.specs.Account.{account_of}
use Rattle.mem_values.specs.Stands.{StandsForCell, StandsAt}
use Rattle.mem_values.specs.Facts.{AreLawfulBehind, IsLawfulLog}
use Rattle.mem_values.specs.Laws.{CallFits, MayMeet}
use Rattle.mem_values.specs.Touches.{KeepsCell}
use Rattle.mem_values.proofs.Stamping.{calls_may_come, still_stands, met}
use Rattle.mem_values.proofs.Keeping.{calls_keep_cells}
use Rattle.mem_values.proofs.Moves.{legal_front}
use Rattle.mem_values.proofs.Basics.{is_value}
use Rattle.mem_calls.specs.Table.{IsFileTable}
use Rattle.mem_calls.specs.Held.{value_held, InEach}
use Rattle.mem_calls.specs.Working.{IsWorking}
use Rattle.mem_calls.proofs.Cells.{has_reverse, found_place, found_has, each_of_found}
use Rattle.mem_calls.proofs.Shown.{held_cell, knows_found}

-- a call that is no fsync flushes nothing
pub no_flush : (tree : TreeState) (c : Call) → asks_fsync c ≡ false → flushes tree c ≡ false
no_flush tree (call.Fsync node) not = absurd (cc (not))
no_flush tree (call.Look d n) not = refl
no_flush tree (call.Make d n k) not = refl
no_flush tree (call.Link f d n) not = refl
no_flush tree (call.Unlink d n) not = refl
no_flush tree (call.Rmdir d n) not = refl
no_flush tree (call.Rename p n q m) not = refl
no_flush tree (call.Write f at bytes) not = refl
no_flush tree (call.Read f at count) not = refl
no_flush tree (call.Trunc f size) not = refl
no_flush tree (call.Stat d) not = refl
no_flush tree (call.List d) not = refl

module _ (given : ℕ → Option OldKept) (t : FileState) (nodes : ℕ) (hand : FileHand) (table : IsFileTable t nodes) (work : IsWorking given t hand) where
  pub counted : nodes ≡ node_count hand.view.first
  counted = table.counted ∙ ap node_count (sym work.first)

  pub sound : IsSoundTree hand.view.first
  sound = subst IsSoundTree (sym work.first) table.sound

  pub core_known : hand.view.core < length hand.view.first.made
  core_known = subst (λ (f : TreeState). hand.view.core < length f.made) (sym work.first) work.core

  -- a core has each cell of which it holds the value
  pub held_has : (which : CellId) → IsSome (value_held nodes hand.held which) → Has hand.view.held (cell_place nodes which)
  held_has which some =
      let v = is_value (value_held nodes hand.held which) some in
      let h = held_cell nodes hand.held which v.0 v.1 in
      subst (λ l. Has l (cell_place nodes which)) (sym work.places)
      (has_reverse (places_of hand.held) (cell_place nodes which) (found_has (cell_place nodes which) hand.held h.0 h.1))

  -- each cell that a call does not keep is held
  abbrev pub KeepsOrHolds : TreeState → Call → Type 0
  KeepsOrHolds tree c = (which : CellId) → IsCell nodes (length t.first.made) which → KeepsCell tree hand.view.core c which
      ⊎ IsSome (value_held nodes hand.held which)

  -- such a call may be stamped with the reply that it has in each tree that the values show
  pub may_come : (c : Call) (v : Verdict) → asks_fsync c ≡ false → InEach hand (λ tree. verdict tree hand.view.core c ≡ v)
      → InEach hand (λ tree. KeepsOrHolds tree c)
      → MayCall (IsLawfulLog given) (StandsAt given) hand.view c v.reply
  may_come c v not due keeps = calls_may_come given hand.view hand.held c v.reply sound core_known work.knows (λ tree meets. fits tree meets)
    where
      fits : (tree : TreeState) → MayMeet hand.view hand.held tree → CallFits hand.view tree c v.reply
      fits tree meets = record {
        due = subst (λ b. IsDue b (verdict tree hand.view.core c).reply v.reply) (sym (no_flush tree c not))
            (sym (ap (λ (w : Verdict). w.reply) (due tree meets)));
        unanswered = ap (λ b. b && is_ok_reply v.reply) (no_flush tree c not);
        keeps = λ which is_cell. elim (keeps tree meets which
            (subst (λ (f : TreeState). IsCell nodes (length f.made) which) work.first
            (subst (λ n. IsCell n (length hand.view.first.made) which) (sym counted) is_cell))) [
              | inl kept ↦ inl kept
              | inr held ↦ inr (subst (λ n. Has hand.view.held (cell_place n which)) counted (held_has which held))
            ];
      }

-- a beginning of a lawful log is lawful
pub lawful_front : (given : ℕ → Option OldKept) (first : TreeState) (before log rest : List (Event Fact)) → AreLawfulBehind given first before (log ++ rest)
    → AreLawfulBehind given first before log
lawful_front given first before [] rest lawful = tt
lawful_front given first before (e ∷ log) rest lawful = (lawful.0, lawful_front given first (before ++ e ∷ []) log rest lawful.1)

module _ (given : ℕ → Option OldKept) (t : FileState) (nodes : ℕ) (before : FileHand) (table : IsFileTable t nodes) (work : IsWorking given t before)
    (c : Call) (reply : Reply) (number : ℕ) (mid : FileHand) (stamps : Stamps (IsLawfulLog given) (StandsAt given) c reply before number mid) where
  abbrev pub first : TreeState
  first = before.view.first

  abbrev pub log : List (Event Fact)
  log = stamps.drew.0

  abbrev pub entry : Entry
  entry = entry_numbered before.view.core c reply number

  abbrev pub after_log : List (Event Fact)
  after_log = log ++ Called entry ∷ []

  abbrev pub tree : TreeState
  tree = tree_after first (calls_in log)

  pub seen_is : mid.view.seen ≡ after_log
  seen_is = stamps.drew.1.entry_last

  pub first_is : mid.view.first ≡ first
  first_is = ap (λ (v : View TreeState (Event Fact)). v.first) stamps.drew.1.frame

  pub legal_next : IsLegal first (calls_in after_log)
  legal_next = subst (λ l. IsLegal first (calls_in l)) seen_is stamps.drew.1.legal_seen.legal_calls

  pub legal_log : IsLegal first (calls_in log)
  legal_log = legal_front first 0 (calls_in log) (entry ∷ []) (subst (λ l. IsLegal first l) (calls_snoc log entry) legal_next)

  pub lawful_log : IsLawfulLog given first log
  lawful_log = lawful_front given first [] log (Called entry ∷ []) (subst (λ l. IsLawfulLog given first l) seen_is stamps.drew.1.legal_seen.told)

  pub number_is : number ≡ length (calls_in log)
  number_is = stamps.drew.1.number_is ∙ stamps_are_calls log

  pub past : IsPast event_core is_call (IsLawful (IsLawfulLog given)) (stands_for (StandsAt given)) before.view log
  past = record {
    legal_log = record { legal_calls = legal_log; told = lawful_log };
    seen = stamps.drew.1.seen;
    mine = append_cancel_right before.view.mine (entries_by event_core before.view.core log) (Called entry ∷ [])
        (sym stamps.drew.1.mine ∙ (stamps.drew.1.own
        ∙ (ap (entries_by event_core before.view.core) seen_is ∙ own_comes event_core before.view.core log (Called entry) refl)));
    held = stamps.drew.1.kept;
  }

  pub mine_is : before.view.mine ≡ entries_by event_core before.view.core log
  mine_is = past.mine

  pub meets : MayMeet before.view before.held tree
  meets = met given before.view log past before.held (sound given t nodes before table work) work.knows

  pub cell_there : (which : CellId) → IsCell nodes (length t.first.made) which → IsCell (node_count first) (length first.made) which
  cell_there which is_cell = subst (λ (f : TreeState). IsCell (node_count f) (length f.made) which) (sym work.first)
      (subst (λ n. IsCell n (length t.first.made) which) table.counted is_cell)

  -- what was held of a cell stood for it right before the call
  pub stood : (which : CellId) (value : Cell) → IsCell nodes (length t.first.made) which → value_held nodes before.held which ≡ Some value
      → StandsForCell given first (account_of log) which value
  stood which value is_cell is =
      let h = held_cell nodes before.held which value is in
      let place = found_place (cell_place nodes which) before.held h.0 h.1 in
      let stands : StandsAt given first log h.0.place h.0.value = still_stands given before.view log past h.0
      (knows_found given before.view before.held (cell_place nodes which) h.0 work.knows h.1) in
      subst (StandsForCell given first (account_of log) which) h.2
      (stands which (cell_there which is_cell) (ap (λ n. cell_place n which) (sym (counted given t nodes before table work)) ∙ sym place))

  -- and still does where the call keeps the cell
  pub kept : (which : CellId) (value : Cell) → IsCell nodes (length t.first.made) which → value_held nodes before.held which ≡ Some value
      → KeepsCell tree before.view.core c which
      → StandsForCell given first (account_of after_log) which value
  kept which value is_cell is keeps = calls_keep_cells given first log entry which value (sound given t nodes before table work) legal_next keeps
      (stood which value is_cell is)

  -- each cell goes home where what is held of each stands for it behind the call
  pub home : (final : FileHand) → final.view ≡ mid.view → mid.view.held ≡ before.view.held → places_of final.held ≡ places_of before.held
      → ((which : CellId) (value : Cell) → IsCell nodes (length t.first.made) which → value_held nodes final.held which ≡ Some value
      → StandsForCell given first (account_of after_log) which value)
      → EachFrom 0 (Stands (IsLawfulLog given) (StandsAt given) final.view) final.held
  home final view_is held_same places each =
      each_of_found (Stands (IsLawfulLog given) (StandsAt given) final.view) final.held
      (subst Rattle.stamp_table.specs.Ascending.Falls (work.places ∙ ap reverse (sym places)) work.falls)
      (λ place h is. subst (λ (v : View TreeState (Event Fact)). StandsAt given v.first v.seen h.place h.value) (sym view_is)
      (subst (λ (z : TreeState × List (Event Fact)). StandsAt given z.0 z.1 h.place h.value) (λ i. (sym first_is i, sym seen_is i)) (stands place h is)))
    where
      stands : (place : ℕ) (h : HeldCell Cell) → cell_at place final.held ≡ Some h → StandsAt given first after_log h.place h.value
      stands place h is which is_cell at =
          let there : cell_place nodes which ≡ place = ap (λ n. cell_place n which) (counted given t nodes before table work)
          ∙ (at ∙ found_place place final.held h is) in
          each which h.value
          (subst (λ (f : TreeState). IsCell nodes (length f.made) which) work.first
          (subst (λ n. IsCell n (length first.made) which) (sym (counted given t nodes before table work)) is_cell))
          (ap (λ p. option_map (λ (x : HeldCell Cell). x.value) (cell_at p final.held)) there ∙ ap (option_map (λ (x : HeldCell Cell). x.value)) is)
