-- What was held in one round, and how it is let go without a call.
use Rattle.std.proofs.Common.{◌≡◌, ℕ, ◌+◌, ◌<◌, ◌≤◌, Bool, true, List, [], ◌∷◌, ◌++◌, length, reverse, Option, Some, option_map, inl, refl, sym, ap, subst, ◌∙◌, arith, append-nil, eq-eqb, None}
use Rattle.std.specs.Prelude.{is_some, if◌then◌else◌}
use Rattle.sfs_base.specs.Name.{bucket as name_bucket}
use Rattle.disk_nodes.specs.OldKept.{OldKept}
use Rattle.tree_laws.specs.Tree.{TreeState}
use Rattle.tree_laws.specs.Lock.{AreHolders}
use Rattle.tree_laws.specs.History.{tree_after, IsLegal}
use Rattle.tree_laws.specs.Laws.{IsSoundTree}
use Rattle.stamp_table.specs.declared.event.Event.{Event}
use Rattle.stamp_table.specs.declared.view.View.{View}
use Rattle.stamp_table.specs.declared.held.HeldCell.{HeldCell}
use Rattle.stamp_table.specs.Events.{calls_in}
use Rattle.stamp_table.specs.Hand.{places_of}
use Rattle.stamp_table.specs.Table.{LetsGo, left_below}
use Rattle.mem_values.specs.Start.{FileHand, FileState}
use Rattle.mem_values.specs.declared.cell.Cell.{Cell}
use Rattle.mem_values.specs.declared.cell_id.CellId.TheVariants as id
use Rattle.mem_values.specs.declared.fact.Fact.{Fact}
use Rattle.mem_values.specs.Account.{account_of}
use Rattle.mem_values.specs.Stands.{StandsForCell}
use Rattle.mem_calls.specs.Table.{IsFileTable}
use Rattle.mem_calls.specs.Held.{value_held}
use Rattle.mem_calls.specs.Outcome.{IsRefusedMemory}
use Rattle.mem_calls.specs.Working.{IsWorking, WorksOn, StillHolds}
use Rattle.mem_calls.proofs.Cells.{found_place}
use Rattle.mem_calls.proofs.Shown.{held_cell, knows_found}
use Rattle.mem_calls.proofs.Finished.{none_left}
use Rattle.mem_calls.proofs.Left.{on_again}
use Rattle.mem_rename.specs.declared.sides.Move.{Move}
use Rattle.mem_rename.specs.declared.plans.Plan.{Plan}
use Rattle.mem_rename.specs.Plans.{asked_cells}
use Rattle.mem_rename.specs.Holding.{HoldsAsked}
use Rattle.mem_rename.specs.Ways.{HoldsLock, HasMet, HasRead, HasReadAll, tree_seen}
use Rattle.mem_rename.specs.Rounds.{HoldsRound}
use Rattle.mem_rename.proofs.Upwards.{read_ways_stay}

-- a core that lets go of all has made no call
pub refused : (given : ℕ → Option OldKept) (t : FileState) (before after : FileHand) → IsWorking given t before → before.waiting ≡ None → LetsGo before after
    → after.held ≡ left_below 0 before.held → after.view.held ≡ reverse (places_of after.held) → IsRefusedMemory t before after
refused given t before after work answered lets left places =
    let none : after.held ≡ [] = left ∙ none_left before.held in
    let core_is : after.view.core ≡ before.view.core = ap (λ (v : View TreeState (Event Fact)). v.core) lets.view in
    record {
      between = record {
        table_is = ap (λ (h : FileHand). h.table) lets.frame ∙ work.table;
        first_is = ap (λ (v : View TreeState (Event Fact)). v.first) lets.view ∙ work.first;
        core_is = subst (λ n. n < length t.first.made) (sym core_is) work.core;
        holds_none = none;
        none_held = places ∙ ap (λ (l : List (HeldCell Cell)). reverse (places_of l)) none;
        none_waits = ap (λ (h : FileHand). h.waiting) lets.frame ∙ answered;
      };
      same = record {
        table = ap (λ (h : FileHand). h.table) lets.frame;
        cores = ap (λ (h : FileHand). h.cores) lets.frame;
        leads = ap (λ (h : FileHand). h.leads) lets.frame;
        number = core_is;
      };
      room = (let r = lets.room in let n = ap length none in omega (arith, r, n));
      spare = ap (λ (h : FileHand). h.spare) lets.frame;
      seen = ([], append-nil before.view.seen ∙ sym (ap (λ (v : View TreeState (Event Fact)). v.seen) lets.view));
      entries = ap (λ (h : FileHand). h.entries) lets.frame;
      mine = ap (λ (v : View TreeState (Event Fact)). v.mine) lets.view;
    }

-- Directories above another one that were read are so still, as long as the lock has its value.
module _ (given : ℕ → Option OldKept) (t : FileState) (nodes : ℕ) (table : IsFileTable t nodes) (node : ℕ) (above : List ℕ) (before after : FileHand)
    (work : IsWorking given t before) (work_after : IsWorking given t after) (on : WorksOn before after) (still : StillHolds nodes before after)
    (legal : IsLegal after.view.first (calls_in after.view.seen)) (value : Cell) (found : value_held nodes before.held id.Lock ≡ Some value) where
  first_same : after.view.first ≡ before.view.first
  first_same = ap (λ (v : View TreeState (Event Fact)). v.first) on.view

  pub way_stays : AreHolders (tree_seen before) node above → HasRead given after.view node above
  way_stays holders =
      let b = held_cell nodes before.held id.Lock value found in
      let b_place : b.0.place ≡ 0 = found_place 0 before.held b.0 b.1 in
      let knew = knows_found given before.view before.held 0 b.0 work.knows b.1 in
      let h = held_cell nodes after.held id.Lock value (still.values id.Lock value found) in
      let place : h.0.place ≡ 0 = found_place 0 after.held h.0 h.1 in
      let knows = knows_found given after.view after.held 0 h.0 work_after.knows h.1 in
      record {
        lock = h.0;
        knows = knows;
        there = sym place;
        holders = subst (λ (z : TreeState × List (Event Fact)). AreHolders (tree_after z.0 (calls_in z.1)) node above) (λ i. (sym first_same i, on.seen.1 i))
            (read_ways_stay given before.view.first before.view.seen on.seen.0 value node above (subst IsSoundTree (sym work.first) table.sound)
            (subst (λ (z : TreeState × List (Event Fact)). IsLegal z.0 (calls_in z.1)) (λ i. (first_same i, sym on.seen.1 i)) legal)
            (subst (StandsForCell given before.view.first (account_of before.view.seen) id.Lock) b.2 (knew.stood id.Lock tt (sym b_place)))
            (subst (λ (z : TreeState × List (Event Fact)). StandsForCell given z.0 (account_of z.1) id.Lock value) (λ i. (first_same i, sym on.seen.1 i))
            (subst (StandsForCell given after.view.first (account_of after.view.seen) id.Lock) h.2 (knows.stood id.Lock tt (sym place))))
            holders);
      }

module _ (given : ℕ → Option OldKept) (t : FileState) (nodes : ℕ) (table : IsFileTable t nodes) (move : Move) (plan : Plan) (above : List ℕ)
    (before locked after : FileHand) (work_locked : IsWorking given t locked) (work : IsWorking given t after) (on_locked : WorksOn before locked)
    (holds : HoldsAsked nodes (asked_cells move plan) locked after)
    (lock : is_some plan.comes ≡ true → HoldsLock locked) (read : is_some plan.comes ≡ true → HasReadAll locked move.to_directory.0 above) where
  lock_value : (comes : is_some plan.comes ≡ true) → value_held nodes locked.held id.Lock ≡ Some (lock comes).lock.value
  lock_value comes =
      ap (λ l. value_held nodes l id.Lock) (lock comes).alone
      ∙ ap (λ b. option_map (λ (h : HeldCell Cell). h.value) (if b then Some (lock comes).lock else Rattle.std.proofs.Common.None))
      (eq-eqb (lock comes).lock.place 0 (lock comes).place)

  met : HasMet after
  met = holds.met (id.Bucket move.directory (name_bucket move.name)) (inl refl)

  -- All is held but the own log.
  pub round : 0 < after.room → HoldsRound given t nodes move plan above before after
  round room = record {
    work = work;
    on = on_again before locked after on_locked holds.on;
    cells = holds.holds;
    lock = λ comes. ((lock comes).lock.value, holds.still.values id.Lock (lock comes).lock.value (lock_value comes), (lock comes).kind);
    read = λ comes. way_stays given t nodes table move.to_directory.0 above locked after work_locked work holds.on holds.still met.legal
        (lock comes).lock.value (lock_value comes) (read comes).holders;
    ends = λ comes. (read comes).ends;
    met = met.met;
    below = holds.below;
    room = room;
  }
