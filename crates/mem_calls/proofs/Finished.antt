-- The end of a call: the own log has its entry, and each cell goes home.
use Rattle.std.proofs.Common.{◌≡◌, ◌<◌, ◌≤◌, ◌-◌, ◌^◌, ℕ, suc, true, false, ◌&&◌, nat_eq, List, [], ◌∷◌, ◌++◌, length, filter, reverse, Option, Some, None, option_map, ◌⊎◌, inl, inr, refl, sym, ap, subst, ◌∙◌, eq-eqb, arith, ⊎_elim}
use borrow.Author.Tests.{eqb-true}
use Rattle.std.specs.Prelude.{if◌then◌else◌, nat_le}
use Rattle.std.proofs.lemmas.Bool.{cases_Bool, both_ways, leb-false}
use Rattle.std.proofs.lemmas.Option.{option_and_then_some}
use Rattle.sfs_base.proofs.BasicOptions.{some_same}
use Rattle.disk_nodes.specs.OldKept.{OldKept}
use Rattle.tree_laws.specs.Tree.{TreeState, made_by}
use Rattle.tree_laws.specs.declared.call.Call.{Call}
use Rattle.tree_laws.specs.declared.reply.Reply.{Reply}
use Rattle.tree_laws.specs.declared.history.Entry.{Entry}
use Rattle.tree_laws.specs.History.{tree_after}
use Rattle.tree_laws.specs.Merged.{is_core}
use Rattle.tree_laws.specs.Verdict.{Verdict, verdict}
use Rattle.mem_cells.specs.Part.{IsAddedTo}
use Rattle.stamp_table.specs.declared.event.Event.{Event}
use Rattle.stamp_table.specs.declared.event.Event.TheVariants.{Called, Told}
use Rattle.stamp_table.specs.declared.view.View.{View}
use Rattle.stamp_table.specs.declared.held.HeldCell.{HeldCell}
use Rattle.stamp_table.specs.Answered.{asks_fsync, is_want}
use Rattle.stamp_table.specs.Events.{event_core, calls_in}
use Rattle.stamp_table.specs.Rule.{entries_by}
use Rattle.stamp_table.specs.Hand.{places_of}
use Rattle.stamp_table.specs.Table.{Stamps, LetsGo, cell_at, with_value, is_at, drop_from, left_below, entry_numbered}
use Rattle.stamp_table.proofs.Closing.{own_calls}
use Rattle.mem_values.specs.Start.{FileHand, FileState}
use Rattle.mem_values.specs.declared.cell.Cell.{Cell}
use Rattle.mem_values.specs.declared.cell.Cell.TheVariants as cell
use Rattle.mem_values.specs.declared.cell.PartCell.{PartCell}
use Rattle.mem_values.specs.declared.cell_id.CellId.{CellId}
use Rattle.mem_values.specs.declared.cell_id.CellId.TheVariants as id
use Rattle.mem_values.specs.declared.fact.Fact.{Fact}
use Rattle.mem_values.specs.Places.{cell_place, IsCell}
use Rattle.mem_values.specs.Account.{Account, account_of}
use Rattle.mem_values.specs.Logs.{entry_logged}
use Rattle.mem_values.specs.Stands.{StandsForCell, StandsAt, StandsPart}
use Rattle.mem_values.specs.Facts.{IsLawfulLog}
use Rattle.mem_values.proofs.Places.{places_apart}
use Rattle.mem_values.proofs.Home.{parts_take_entries}
use Rattle.mem_calls.specs.Table.{IsFileTable}
use Rattle.mem_calls.specs.Held.{value_held, as_part, part_held, InEach}
use Rattle.mem_calls.specs.Working.{IsWorking}
use Rattle.mem_calls.specs.Outcome.{IsAnswered}
use Rattle.mem_calls.proofs.Cells.{with_other}
use Rattle.mem_calls.proofs.Shown.{held_cell}
use Rattle.mem_calls.proofs.Stamped as stamped

-- a cell that got another value has it
found_with : (place : ℕ) (value : Cell) (cells : List (HeldCell Cell)) (h : HeldCell Cell) → cell_at place (with_value place value cells) ≡ Some h
    → h.value ≡ value
found_with place value [] h is = absurd (cc (is))
found_with place value (c ∷ cells) h is = ⊎_elim
    (λ here.
    let same : record { place = c.place; value = value } ≡ h = cc (
      subst (λ (l : List (HeldCell Cell)). cell_at place l ≡ Some h)
          (ap (λ b. if b then record { place = c.place; value = value } ∷ cells else c ∷ with_value place value cells) here) is,
      here,
    ) in
    ap (λ (x : HeldCell Cell). x.value) (sym same))
    (λ other. found_with place value cells h
    (cc (
      subst (λ (l : List (HeldCell Cell)). cell_at place l ≡ Some h)
          (ap (λ b. if b then record { place = c.place; value = value } ∷ cells else c ∷ with_value place value cells) other) is,
      other,
    )))
    (cases_Bool (is_at place c))

-- of cells of which one got another value, a value is that one's or the old one of another cell
pub of_changed : (nodes cores : ℕ) (which changed : CellId) (value new : Cell) (held : List (HeldCell Cell)) → IsCell nodes cores which
    → IsCell nodes cores changed
    → value_held nodes (with_value (cell_place nodes changed) new held) which ≡ Some value → ((which ≡ changed) × (value ≡ new))
    ⊎ ((cell_place nodes changed ≡ cell_place nodes which → ⊥) × (value_held nodes held which ≡ Some value))
of_changed nodes cores which changed value new held one two is = ⊎_elim
    (λ here.
    let place : cell_place nodes changed ≡ cell_place nodes which = eqb-true (cell_place nodes changed) (cell_place nodes which) here in
    let h = held_cell nodes (with_value (cell_place nodes changed) new held) which value is in
    inl (
      places_apart nodes cores which changed one two (sym place),
      sym h.2
          ∙ found_with (cell_place nodes changed) new held h.0
          (subst (λ p. cell_at p (with_value (cell_place nodes changed) new held) ≡ Some h.0) (sym place) h.1),
    ))
    (λ other.
    let apart : cell_place nodes changed ≡ cell_place nodes which
    → ⊥ = λ same. both_ways (nat_eq (cell_place nodes changed) (cell_place nodes which)) other
    (eq-eqb (cell_place nodes changed) (cell_place nodes which) same) in
    inr (apart, ap (option_map (λ (x : HeldCell Cell). x.value)) (sym (with_other (cell_place nodes changed) new held (cell_place nodes which) apart)) ∙ is))
    (cases_Bool (nat_eq (cell_place nodes changed) (cell_place nodes which)))

drop_all : (cells : List (HeldCell Cell)) → drop_from 0 cells ≡ []
drop_all [] = refl
drop_all (c ∷ cells) = ⊎_elim
    (λ (yes : nat_le 0 c.place ≡ true). rw yes (drop_all cells))
    (λ (no : nat_le 0 c.place ≡ false). let lt = leb-false 0 c.place no in absurd (omega (arith, lt)))
    (cases_Bool (nat_le 0 c.place))

pub none_left : (cells : List (HeldCell Cell)) → left_below 0 cells ≡ []
none_left cells = ap reverse (drop_all (reverse cells))

module _ (given : ℕ → Option OldKept) (t : FileState) (nodes : ℕ) (before : FileHand) (table : IsFileTable t nodes) (work : IsWorking given t before)
    (c : Call) (reply : Reply) (number : ℕ) (mid : FileHand) (stamps : Stamps (IsLawfulLog given) (StandsAt given) c reply before number mid) where
  abbrev S : TreeState
  S = stamped.tree given t nodes before table work c reply number mid stamps

  abbrev log : List (Event Fact)
  log = stamped.log given t nodes before table work c reply number mid stamps

  abbrev entry : Entry
  entry = stamped.entry given t nodes before table work c reply number mid stamps

  abbrev first : TreeState
  first = before.view.first

  abbrev own : CellId
  own = id.Part (record { 0 = before.view.core })

  pub held_mid : mid.held ≡ before.held
  held_mid = ap (λ (h : FileHand). h.held) stamps.frame

  pub view_held_mid : mid.view.held ≡ before.view.held
  view_held_mid = ap (λ (v : View TreeState (Event Fact)). v.held) stamps.drew.1.frame

  pub core_mid : mid.view.core ≡ before.view.core
  core_mid = ap (λ (v : View TreeState (Event Fact)). v.core) stamps.drew.1.frame

  part_of_value : (value : Cell) (p : PartCell) → as_part value ≡ Some p → StandsForCell given first (account_of log) own value
      → StandsPart first (account_of log) before.view.core p
  part_of_value (cell.Part part) p is stood = let same : part.value ≡ p = cc (is) in subst (StandsPart first (account_of log) before.view.core) same stood
  part_of_value (cell.Bucket bucket) p is stood = absurd stood
  part_of_value (cell.Lock lock) p is stood = absurd stood
  part_of_value (cell.Pending pending) p is stood = absurd stood
  part_of_value (cell.File file) p is stood = absurd stood

  value_of_part : (account : Account) (value : Cell) (p : PartCell) → as_part value ≡ Some p → StandsPart first account before.view.core p
      → StandsForCell given first account own value
  value_of_part account (cell.Part part) p is stands = let same : p ≡ part.value = sym (some_same is) in
      subst (StandsPart first account before.view.core) same stands
  value_of_part account (cell.Bucket bucket) p is stands = absurd (cc (is))
  value_of_part account (cell.Lock lock) p is stands = absurd (cc (is))
  value_of_part account (cell.Pending pending) p is stands = absurd (cc (is))
  value_of_part account (cell.File file) p is stands = absurd (cc (is))

  -- the own log stood for what its core had logged
  pub part_stood : (p : PartCell) → part_held nodes before.held before.view.core ≡ Some p → StandsPart first (account_of log) before.view.core p
  part_stood p is = option_and_then_some as_part (value_held nodes before.held own) p is
      (λ value found kind. part_of_value value p kind (stamped.stood given t nodes before table work c reply number mid stamps own value work.core found))

  -- it counts fewer entries than it can
  pub few_entries : (p : PartCell) → part_held nodes before.held before.view.core ≡ Some p
      → length (calls_in before.view.mine) ≤ 2 ^ 50 → p.log.entries < 2 ^ 64 - 1
  few_entries p is few =
      let counted = (part_stood p is).left.entries_counted in
      let own_few = ap length (own_calls before.view.core log) in
      let mine = ap (λ l. length (calls_in l)) (stamped.mine_is given t nodes before table work c reply number mid stamps) in
      omega (arith, counted, own_few, mine, few)

  -- it goes home with what its entry logs
  pub part_home : (p next : PartCell) (value : Cell) → part_held nodes before.held before.view.core ≡ Some p → as_part value ≡ Some next
      → IsAddedTo p.log (entry_logged S entry) next.log
      → next.made ≡ made_by (tree_after first (calls_in (log ++ Called entry ∷ []))) before.view.core
      → StandsForCell given first (account_of (log ++ Called entry ∷ [])) own value
  part_home p next value was is added made = value_of_part (account_of (log ++ Called entry ∷ [])) value next is
      (parts_take_entries given first log entry p next (stamped.legal_next given t nodes before table work c reply number mid stamps)
      (stamped.lawful_log given t nodes before table work c reply number mid stamps) (part_stood p was) added made)

  -- what a call comes to whose cells have all gone home
  pub ends_as : (v : Verdict) (final last : FileHand) → verdict S before.view.core c ≡ v → v.reply ≡ reply → asks_fsync c ≡ false
      → record final { held = mid.held } ≡ mid → length final.held ≡ length before.held → LetsGo final last → last.held ≡ left_below 0 final.held
      → last.view.held ≡ reverse (places_of last.held)
      → IsAnswered t c reply before last
  ends_as v final last verdict_is reply_is not final_is many lets left places =
      let last_held : last.held ≡ [] = left ∙ none_left final.held in
      let view_final : final.view ≡ mid.view = ap (λ (h : FileHand). h.view) final_is in
      let table_is : last.table ≡ before.table = ap (λ (h : FileHand). h.table) lets.frame
      ∙ (ap (λ (h : FileHand). h.table) final_is ∙ ap (λ (h : FileHand). h.table) stamps.frame) in
      let core_is : last.view.core ≡ before.view.core = ap (λ (v : View TreeState (Event Fact)). v.core) lets.view
      ∙ (ap (λ (v : View TreeState (Event Fact)). v.core) view_final ∙ core_mid) in
      record {
        between = record {
          table_is = table_is ∙ work.table;
          first_is = ap (λ (v : View TreeState (Event Fact)). v.first) lets.view
              ∙ (ap (λ (v : View TreeState (Event Fact)). v.first) view_final
              ∙ (stamped.first_is given t nodes before table work c reply number mid stamps ∙ work.first));
          core_is = subst (λ n. n < length t.first.made) (sym core_is) work.core;
          holds_none = last_held;
          none_held = places ∙ ap (λ (l : List (HeldCell Cell)). reverse (places_of l)) last_held;
          none_waits = ap (λ (h : FileHand). h.waiting) lets.frame
              ∙ (ap (λ (h : FileHand). h.waiting) final_is ∙ (stamps.waiting ∙ ap (λ b. if b && is_want reply then Some number else None) not));
        };
        same = record {
          table = table_is;
          cores = ap (λ (h : FileHand). h.cores) lets.frame
              ∙ (ap (λ (h : FileHand). h.cores) final_is ∙ ap (λ (h : FileHand). h.cores) stamps.frame);
          leads = ap (λ (h : FileHand). h.leads) lets.frame
              ∙ (ap (λ (h : FileHand). h.leads) final_is ∙ ap (λ (h : FileHand). h.leads) stamps.frame);
          number = core_is;
        };
        room = (let r = lets.room in let none = ap length last_held in let same = ap (λ (h : FileHand). h.room) final_is in
            let was = ap (λ (h : FileHand). h.room) stamps.frame in omega (arith, r, none, same, was, many));
        spare = (let l = ap (λ (h : FileHand). h.spare) lets.frame in let f = ap (λ (h : FileHand). h.spare) final_is in let s = stamps.spare in
            omega (arith, l, f, s));
        stands = (
          log,
          entry,
          record {
            entry_is = ap (entry_numbered before.view.core c reply) (stamped.number_is given t nodes before table work c reply number mid stamps);
            began = stamps.drew.1.seen;
            seen = ap (λ (v : View TreeState (Event Fact)). v.seen) lets.view
                ∙ (ap (λ (v : View TreeState (Event Fact)). v.seen) view_final ∙ stamped.seen_is given t nodes before table work c reply number mid stamps);
            due = sym reply_is ∙ (sym (ap (λ (w : Verdict). w.reply) verdict_is)
                ∙ ap (λ f. (verdict (tree_after f (calls_in log)) before.view.core c).reply) work.first);
          },
          ap (λ (h : FileHand). h.entries) lets.frame ∙ (ap (λ (h : FileHand). h.entries) final_is ∙ stamps.entries),
          ap (λ (v : View TreeState (Event Fact)). v.mine) lets.view ∙ (ap (λ (v : View TreeState (Event Fact)). v.mine) view_final ∙ stamps.drew.1.mine),
        );
      }

  -- the same by what is due in each tree that the core may meet
  pub ends : (v : Verdict) (final last : FileHand) → InEach before (λ tree. verdict tree before.view.core c ≡ v) → v.reply ≡ reply → asks_fsync c ≡ false
      → record final { held = mid.held } ≡ mid → length final.held ≡ length before.held → LetsGo final last → last.held ≡ left_below 0 final.held
      → last.view.held ≡ reverse (places_of last.held)
      → IsAnswered t c reply before last
  ends v final last due reply_is not final_is many lets left places =
      ends_as v final last (due S (stamped.meets given t nodes before table work c reply number mid stamps)) reply_is not final_is many lets left places
