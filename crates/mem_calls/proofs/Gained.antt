-- A core that holds one cell more.
use Rattle.std.proofs.Common.{◌≡◌, ◌<◌, ℕ, List, [], ◌∷◌, ◌++◌, length, reverse, Option, Some, refl, sym, ap, subst, ◌∙◌, arith, inl, inr, length-append}
use Rattle.std.proofs.lemmas.List.{take_all}
use Rattle.disk_nodes.specs.OldKept.{OldKept}
use Rattle.tree_laws.specs.Sound.{IsWithinLimits}
use Rattle.tree_laws.specs.Laws.{IsSoundTree}
use Rattle.tree_laws.specs.History.{tree_after}
use Rattle.tree_laws.proofs.Limits.{histories_stay_within}
use Rattle.stamp_table.specs.Events.{event_core, is_call, calls_in, IsLawful, stands_for}
use Rattle.stamp_table.specs.Steps.{IsPast}
use Rattle.stamp_table.proofs.Keeps.{begins_itself}
use Rattle.mem_values.proofs.Stamping.{met}
use Rattle.tree_laws.specs.Tree.{TreeState}
use Rattle.stamp_table.specs.declared.view.View.{View}
use Rattle.stamp_table.specs.declared.event.Event.{Event}
use Rattle.stamp_table.specs.declared.held.HeldCell.{HeldCell}
use Rattle.stamp_table.specs.Rule.{Has, entries_by}
use Rattle.stamp_table.specs.Hand.{places_of}
use Rattle.stamp_table.specs.Ascending.{LiesAbove, Falls}
use Rattle.stamp_table.specs.Table.{HoldsMore}
use Rattle.stamp_table.proofs.Hands.{places_snoc, held_once}
use Rattle.mem_values.specs.Start.{FileHand, FileState}
use Rattle.mem_values.specs.declared.cell.Cell.{Cell}
use Rattle.mem_values.specs.declared.cell.Cell.TheVariants as cell
use Rattle.mem_values.specs.declared.cell_id.CellId.{CellId}
use Rattle.mem_values.specs.declared.cell_id.CellId.TheVariants as id
use Rattle.mem_values.specs.declared.fact.Fact.{Fact}
use Rattle.mem_values.specs.Places.{node_count, cell_place, IsCell}
use Rattle.mem_values.specs.Account.{Account, account_of}
use Rattle.mem_values.specs.Stands.{StandsForCell, StandsAt}
use Rattle.mem_values.specs.Facts.{IsLawfulLog}
use Rattle.mem_values.specs.Laws.{ShowCells, KnowsCells}
use Rattle.mem_calls.specs.Table.{IsFileTable}
use Rattle.mem_calls.specs.Held.{value_held, CanMeet}
use Rattle.mem_calls.specs.Working.{IsWorking, IsOfKind, StillHolds, Gains}
use Rattle.mem_calls.proofs.Cells.{has_reverse, there_append, last_at}
use Rattle.mem_calls.proofs.Shown.{show_front, held_cell}

-- what stands for a cell is of its kind
pub kind_stands : (given : ℕ → Option OldKept) (first : TreeState) (account : Account) (which : CellId) (value : Cell)
    → StandsForCell given first account which value → IsOfKind which value
kind_stands given first account id.Lock (cell.Lock lock) stood = tt
kind_stands given first account id.Lock (cell.Bucket b) stood = absurd stood
kind_stands given first account id.Lock (cell.File f) stood = absurd stood
kind_stands given first account id.Lock (cell.Pending p) stood = absurd stood
kind_stands given first account id.Lock (cell.Part p) stood = absurd stood
kind_stands given first account (id.Bucket node number) (cell.Lock lock) stood = absurd stood
kind_stands given first account (id.Bucket node number) (cell.Bucket b) stood = tt
kind_stands given first account (id.Bucket node number) (cell.File f) stood = absurd stood
kind_stands given first account (id.Bucket node number) (cell.Pending p) stood = absurd stood
kind_stands given first account (id.Bucket node number) (cell.Part p) stood = absurd stood
kind_stands given first account (id.File node) (cell.Lock lock) stood = absurd stood
kind_stands given first account (id.File node) (cell.Bucket b) stood = absurd stood
kind_stands given first account (id.File node) (cell.File f) stood = tt
kind_stands given first account (id.File node) (cell.Pending p) stood = absurd stood
kind_stands given first account (id.File node) (cell.Part p) stood = absurd stood
kind_stands given first account (id.Pending node) (cell.Lock lock) stood = absurd stood
kind_stands given first account (id.Pending node) (cell.Bucket b) stood = absurd stood
kind_stands given first account (id.Pending node) (cell.File f) stood = absurd stood
kind_stands given first account (id.Pending node) (cell.Pending p) stood = tt
kind_stands given first account (id.Pending node) (cell.Part p) stood = absurd stood
kind_stands given first account (id.Part core) (cell.Lock lock) stood = absurd stood
kind_stands given first account (id.Part core) (cell.Bucket b) stood = absurd stood
kind_stands given first account (id.Part core) (cell.File f) stood = absurd stood
kind_stands given first account (id.Part core) (cell.Pending p) stood = absurd stood
kind_stands given first account (id.Part core) (cell.Part p) stood = tt

pub knows_append : (given : ℕ → Option OldKept) (view : View TreeState (Event Fact)) (cells more : List (HeldCell Cell)) → KnowsCells given view cells
    → KnowsCells given view more → KnowsCells given view (cells ++ more)
knows_append given view [] more one two = two
knows_append given view (c ∷ cells) more one two = (one.0, knows_append given view cells more one.1 two)

module _ (given : ℕ → Option OldKept) (t : FileState) (nodes : ℕ) (which : CellId) (before after : FileHand) (table : IsFileTable t nodes)
    (work : IsWorking given t before)
    (is_cell : IsCell nodes (length t.first.made) which) (above : LiesAbove (cell_place nodes which) before.view.held)
    (holds : HoldsMore (IsLawfulLog given) (StandsAt given) (cell_place nodes which) before after) where
  first_same : after.view.first ≡ before.view.first
  first_same = ap (λ (v : View TreeState (Event Fact)). v.first) holds.saw.frame

  falls : Falls (cell_place nodes which ∷ before.view.held)
  falls = (above, work.falls)

  abbrev last : HeldCell Cell
  last = record { place = cell_place nodes which; value = holds.value.0 }

  held_is : after.held ≡ before.held ++ last ∷ []
  held_is = holds.value.1

  still_known : (cells : List (HeldCell Cell)) → KnowsCells given before.view cells → KnowsCells given after.view cells
  still_known [] knows = tt
  still_known (c ∷ cells) knows = (
    record {
      holds = subst (λ l. Has l c.place) (sym holds.saw.held) (inr knows.0.holds);
      stood = subst (λ f. StandsAt given f after.view.seen c.place c.value) (sym first_same)
          (holds.saw.kept c.place (Some c.value) knows.0.holds knows.0.stood);
    },
    still_known cells knows.1,
  )

  pub works : IsWorking given t after
  works = record {
    table = ap (λ (h : FileHand). h.table) holds.frame ∙ work.table;
    first = first_same ∙ work.first;
    core = subst (λ n. n < length t.first.made) (sym (ap (λ (v : View TreeState (Event Fact)). v.core) holds.saw.frame)) work.core;
    places = holds.saw.held ∙ (ap (λ l. cell_place nodes which ∷ l) work.places
        ∙ (sym (places_snoc before.held last) ∙ ap (λ (l : List (HeldCell Cell)). reverse (places_of l)) (sym held_is)));
    falls = subst Falls (sym holds.saw.held) falls;
    knows = subst (KnowsCells given after.view) (sym held_is) (knows_append given after.view before.held (last ∷ []) (still_known before.held work.knows) (
      record {
        holds = subst (λ l. Has l (cell_place nodes which)) (sym holds.saw.held) (inl refl);
        stood = subst (λ f. StandsAt given f after.view.seen (cell_place nodes which) holds.value.0) (sym first_same) holds.value.2;
      },
      tt,
    ));
  }

  not_yet : Has (places_of before.held) (cell_place nodes which) → ⊥
  not_yet has = held_once (cell_place nodes which) before.view.held falls
      (subst (λ l. Has l (cell_place nodes which)) (sym work.places) (has_reverse (places_of before.held) (cell_place nodes which) has))

  still : StillHolds nodes before after
  still = record {
    values = λ other value is. let h = held_cell nodes before.held other value is in
        ap (λ (l : List (HeldCell Cell)). value_held nodes l other) held_is
        ∙ (ap (Rattle.std.specs.Prelude.option_map (λ (c : HeldCell Cell). c.value)) (there_append (cell_place nodes other) before.held (last ∷ []) h.0 h.1)
        ∙ ap Some h.2);
    trees = λ tree meets. record {
      sound = meets.sound;
      first = meets.first ∙ ap (λ (f : TreeState). f.first) first_same;
      share = meets.share ∙ ap (λ (f : TreeState). f.share) first_same;
      cores = meets.cores ∙ ap (λ (f : TreeState). length f.made) first_same;
      shows = subst (λ f. ShowCells f tree before.held) first_same
          (show_front after.view.first tree before.held (last ∷ []) (subst (ShowCells after.view.first tree) held_is meets.shows));
    };
  }

  past : IsPast event_core is_call (IsLawful (IsLawfulLog given)) (stands_for (StandsAt given)) after.view after.view.seen
  past = record {
    legal_log = subst (λ f. IsLawful (IsLawfulLog given) f after.view.seen) (sym first_same) holds.saw.legal_seen;
    seen = begins_itself after.view.seen;
    mine = ap (λ (v : View TreeState (Event Fact)). v.mine) holds.saw.frame
        ∙ (holds.saw.mine ∙ ap (λ c. entries_by event_core c after.view.seen) (sym (ap (λ (v : View TreeState (Event Fact)). v.core) holds.saw.frame)));
    held = λ place value has stood. stood;
  }

  -- there is a tree that it may meet: the one after what it has seen
  can_meet : CanMeet after
  can_meet = (
    tree_after after.view.first (calls_in after.view.seen),
    met given after.view after.view.seen past after.held (subst IsSoundTree (sym (first_same ∙ work.first)) table.sound) works.knows,
    subst (λ l. IsWithinLimits (tree_after after.view.first l)) (take_all (length (calls_in after.view.seen)) (calls_in after.view.seen) (omega arith))
        (histories_stay_within after.view.first (calls_in after.view.seen) (length (calls_in after.view.seen))
        (subst IsSoundTree (sym (first_same ∙ work.first)) table.sound) past.legal_log.legal_calls
        (subst IsWithinLimits (sym (first_same ∙ work.first)) table.within)),
  )

  pub gains : Gains nodes which before after
  gains = record {
    on = record {
      frame = holds.frame;
      view = holds.saw.frame;
      seen = holds.saw.seen;
      room = let r = holds.room in let l = ap length held_is ∙ length-append before.held (last ∷ []) in omega (arith, r, l);
    };
    still = still;
    held = (last, held_is, refl);
    top = holds.saw.held;
    room = holds.room;
    met = can_meet;
    legal = past.legal_log.legal_calls;
    seen_met = met given after.view after.view.seen past after.held (subst IsSoundTree (sym works.first) table.sound) works.knows;
    there = (
      holds.value.0,
      ap (λ (l : List (HeldCell Cell)). value_held nodes l which) held_is
          ∙ ap (Rattle.std.specs.Prelude.option_map (λ (c : HeldCell Cell). c.value)) (last_at (cell_place nodes which) before.held holds.value.0 not_yet),
      kind_stands given before.view.first (account_of after.view.seen) which holds.value.0
          (holds.value.2 which (subst (λ f. IsCell (node_count f) (length f.made) which) (sym work.first)
          (subst (λ n. IsCell n (length t.first.made) which) table.counted is_cell))
          (ap (λ n. cell_place n which) (ap node_count work.first ∙ sym table.counted))),
    );
  }
