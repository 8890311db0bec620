use Rattle.std.proofs.Common.{◌≡◌, ◌∷◌, ◌++◌, ◌∙◌, ℕ, List, [], Option, Some, None, length, refl, sym, ap, subst}
use Rattle.std.proofs.lemmas.List.{length-replicate}
use Rattle.std.specs.Prelude.{MatchOption, ⊤}
use Rattle.std.specs.declared.snapshot.Snapshot.{Snapshot}
use Rattle.tree_laws.specs.Tree.{TreeState}
use Rattle.stamp_table.specs.declared.event.Event.{Event}
use Rattle.stamp_table.specs.Table.{AreInSlots, IsTableOf}
use Rattle.slot_laws.specs.declared.label.Label.{Label}
use Rattle.slot_image_laws.specs.Run.{KeepsLaws}
use Rattle.commit_ledger.specs.View.{LedgerView}
use Rattle.disk_box.specs.declared.key.BoxKey.{BoxKey}
use Rattle.disk_box.specs.declared.desk.Desk.{Desk}
use Rattle.disk_box.specs.Box.{StandsBox}
use Rattle.journal_set.proofs.Made.{IsNewDesk, fresh_home, one_in_slots, pens_new}
use Rattle.journal_set.proofs.set.JournalSet.new.Goals as goal

pub make_of_slots-requires-clause-cells : goal.make_of_slots-requires-clause-cells
make_of_slots-requires-clause-cells g c =
    let fresh = c.in-Ok.ensures.fresh in
    let key : BoxKey _ = record { layout = c.args.layout; faults = c.faults.result; start = c.now.result; space = c.args.space; first = Some c.of.result } in
    let desk : Desk g.row.D.Denot = record {
      disk = c.args.disk;
      slots = c.in-Ok.fresh.slots;
      waits = c.in-Ok.fresh.waits;
      ledger = c.in-Ok.fresh.ledger;
      stamps = 0;
      faults = c.faults-2.result;
      failed = None;
      turns = c.in-Ok.fresh.turns;
    } in
    let items : c.push_reserved.new.self.items ≡ Some (Some desk) ∷ [] =
    c.push_reserved.ensures.items ∙ ap (λ l. l ++ Some (Some desk) ∷ []) fresh.cells_none
    in
    let view = g.D.Disk.view in
    let told = g.met.D.Disk g.world.𝓛 g.world.𝓜 g.world.𝓡 ((λ s x. x), (λ x. x), (λ x. x), λ x. x) in
    let laws : (disk : g.row.D.Denot) → KeepsLaws (view disk) =
    λ disk. record { whole = told.whole disk; read_is_left = told.read_is_left disk; now_fits = told.now_fits disk }
    in
    let new : IsNewDesk view key desk = record {
      slots_idle = fresh.slots_idle;
      waits_none = fresh.waits_none;
      keeps = fresh.keeps;
      opens_none = ap (λ (l : LedgerView). l.opens) fresh.ledger_is;
      space_is = ap (λ (l : LedgerView). l.space) fresh.ledger_is;
      no_stamps = refl;
      faults_are = c.faults-2.ensures.faults ∙ sym c.faults.ensures.faults;
      calm = refl;
      no_turns = fresh.no_turns;
      counts = (sym c.now.ensures.now, sym c.faults.ensures.faults);
      began = λ first is. subst (λ (o : Option (Snapshot _)). MatchOption o ⊤ (λ s. s.value ≡ c.args.disk)) is c.of.ensures;
    } in
    let stands : BoxKey _ → TreeState → List (Event Label) → ℕ → Option (Desk g.row.D.Denot) → Type 0 =
    λ key first log place value. place ≡ 0 → StandsBox view key log value
    in
    subst (λ (z : BoxKey _ × List (Option (Option (Desk g.row.D.Denot)))). AreInSlots stands (λ measure slot. slot) z.0 0 c.in-Ok.fresh.tree z.1)
    (λ i. (sym c.of-given.ensures i, sym items i))
    (one_in_slots stands (λ measure slot. slot) key 0 c.in-Ok.fresh.tree (Some desk)
    (λ zero. fresh_home view laws key desk c.requires.layout c.requires.large new))

pub make_of_slots-requires-clause-lawful : goal.make_of_slots-requires-clause-lawful
make_of_slots-requires-clause-lawful g c = record { rules = tt; cores = λ event none. absurd none }

pub returns-in-Ok-make_of_slots-clause-pens : goal.returns-in-Ok-make_of_slots-clause-pens
returns-in-Ok-make_of_slots-clause-pens g c =
    let fresh = c.in-Ok.ensures.fresh in
    let key : BoxKey _ = record { layout = c.args.layout; faults = c.faults.result; start = c.now.result; space = c.args.space; first = Some c.of.result } in
    let desk : Desk g.row.D.Denot = record {
      disk = c.args.disk;
      slots = c.in-Ok.fresh.slots;
      waits = c.in-Ok.fresh.waits;
      ledger = c.in-Ok.fresh.ledger;
      stamps = 0;
      faults = c.faults-2.result;
      failed = None;
      turns = c.in-Ok.fresh.turns;
    } in
    let items : c.push_reserved.new.self.items ≡ Some (Some desk) ∷ [] =
    c.push_reserved.ensures.items ∙ ap (λ l. l ++ Some (Some desk) ∷ []) fresh.cells_none
    in
    let made = c.in-Ok-make_of_slots.ensures in
    pens_new c.in-Ok-make_of_slots.table c.in-Ok.fresh.tree c.of-given.result.value c.in-Ok-make_of_slots.pens.items
    (subst (λ n. IsTableOf c.in-Ok.fresh.tree c.of-given.result.value 0 n c.in-Ok-make_of_slots.table) (ap length items) made.table)
    (ap (λ (f : TreeState). length f.made) fresh.tree_is
    ∙ (length-replicate c.args.layout.cores 0 ∙ ap (λ (k : BoxKey _). k.layout.cores) (sym c.of-given.ensures))) made.cores made.new made.room

pub handed_back-requires-clause-one : goal.handed_back-requires-clause-one
handed_back-requires-clause-one g c κs within =
    let fresh = c.in-Ok.ensures.fresh in
    let key : BoxKey _ = record { layout = c.args.layout; faults = c.faults.result; start = c.now.result; space = c.args.space; first = Some c.of.result } in
    let desk : Desk g.row.D.Denot = record {
      disk = c.args.disk;
      slots = c.in-Ok.fresh.slots;
      waits = c.in-Ok.fresh.waits;
      ledger = c.in-Ok.fresh.ledger;
      stamps = 0;
      faults = c.faults-2.result;
      failed = None;
      turns = c.in-Ok.fresh.turns;
    } in
    let items : c.push_reserved.new.self.items ≡ Some (Some desk) ∷ [] =
    c.push_reserved.ensures.items ∙ ap (λ l. l ++ Some (Some desk) ∷ []) fresh.cells_none
    in
    (desk, c.in-Err.ensures.back ∙ items)

pub returns-in-Ok-make_of_slots-clause-began : goal.returns-in-Ok-make_of_slots-clause-began
returns-in-Ok-make_of_slots-clause-began g c = record {
  first = c.of.result;
  told = ap (λ (k : BoxKey _). k.first) (c.in-Ok-make_of_slots.ensures.table.given_is ∙ c.of-given.ensures);
  is = c.of.ensures;
}
