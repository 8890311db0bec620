-- A box that begins fits what no label has told, and its pens are new.
use Rattle.std.specs.declared.snapshot.Snapshot.{Snapshot}
use Rattle.std.specs.Prelude.{slice_get, slice_index_or}
use lib.ListN.{get_elem?}
use mathlib.Core.Option.{some}
use Rattle.std.proofs.Common.{◌≡◌, ◌+◌, ◌*◌, ◌<◌, ◌≤◌, ◌∷◌, ◌++◌, ◌∙◌, ◌/◌, ◌%◌, ℕ, zero, suc, List, [], length, Option, Some, None, refl, sym, ap, subst, arith, replicate, max}
use Rattle.std.proofs.lemmas.List.{length-replicate}
use Rattle.std.proofs.Math.Nat.{div-add-mod, mul_comm}
use Rattle.sfs_base.proofs.BasicOptions.{some_same}
use Rattle.sfs_image.specs.Super.{IsLayout, Layout}
use Rattle.sfs_dev.specs.Run.{Advances}
use Rattle.sfs_dev.specs.Disk.{View}
use Rattle.sfs_dev.specs.Steps.{TellsAlike}
use Rattle.sfs_dev.proofs.Runs.{GoesOn-refl}
use Rattle.journal_one.specs.Job.{Place}
use Rattle.tree_laws.specs.Tree.{TreeState}
use Rattle.tree_laws.specs.declared.turns.Turn.{Turn}
use Rattle.stamp_table.specs.declared.event.Event.{Event}
use Rattle.stamp_table.specs.Events.{event_core}
use Rattle.stamp_table.specs.Rule.{entries_by}
use Rattle.stamp_table.specs.Hand.{Desk as TableDesk}
use Rattle.stamp_table.specs.Table.{AreAllCores, AreIdleFrom, AreInSlots, AreNew, CoresHaveRoom, IsTableOf, TableState}
use Rattle.slot_laws.specs.Labels.{first_past}
use Rattle.slot_laws.specs.Slots.{place_at}
use Rattle.commit_ledger.specs.View.{OpenView}
use Rattle.commit_ledger.specs.Keeps.{LedgerKeeps}
use Rattle.slot_image_laws.specs.Run.{KeepsLaws}
use Rattle.slot_image_laws.proofs.Running.{first_runs_fit}
use Rattle.disk_box.specs.declared.key.BoxKey.{BoxKey}
use Rattle.disk_box.specs.declared.desk.Desk.{Desk}
use Rattle.disk_box.specs.Box.{IsHome}
use Rattle.disk_box.specs.Desk.{DeskFits, open_told, owed_by, wait_in}
use Rattle.disk_box.specs.Pens.{PenHand}
use Rattle.disk_box.specs.Slots.{PhaseFits, SlotsFit}
use Rattle.disk_box.proofs.Few.{few_none}
use Rattle.journal_set.specs.Making.{AreIdleSlots, AreNewPens}

-- nothing lies in a list of nothing
none_in : {A : Type 0} (n k : ℕ) → let none : Option A = None in Rattle.std.specs.Prelude.unwrap_or (slice_get (replicate n none) k) none ≡ none
none_in zero k = refl
none_in (suc n) zero = refl
none_in (suc n) (suc k) = none_in n k

none_open : (n k : ℕ) → let none : Option OpenView = None in slice_index_or (replicate n none) k none ≡ none
none_open zero k = refl
none_open (suc n) zero = refl
none_open (suc n) (suc k) = none_open n k

owed_none : (n moment : ℕ) → owed_by n (first_past moment) ≡ 0
owed_none zero moment = refl
owed_none (suc n) moment = (let rest = owed_none n moment in omega (arith, rest))

-- A desk that begins.
pub record IsNewDesk {D : Type 0} (view : D → View) (key : BoxKey D) (desk : Desk D) : Type 0 where
  pub slots_idle : AreIdleSlots key.layout desk.slots.items
  pub waits_none : desk.waits.items ≡ replicate key.layout.cores None
  pub keeps : LedgerKeeps desk.ledger (first_past key.start)
  pub opens_none : desk.ledger.opens ≡ replicate key.layout.cores None
  pub space_is : desk.ledger.space ≡ key.space
  pub no_stamps : desk.stamps ≡ 0
  pub faults_are : desk.faults ≡ key.faults
  pub calm : desk.failed ≡ None
  pub no_turns : desk.turns.items ≡ []
  pub counts : ((view desk.disk).now ≡ key.start) × ((view desk.disk).faults ≡ key.faults)
  pub began : (first : Snapshot D) → key.first ≡ Some first → first.value ≡ desk.disk

module _ {D : Type 0} (view : D → View) (laws : (disk : D) → KeepsLaws (view disk)) (key : BoxKey D) (desk : Desk D)
    (layout : IsLayout key.layout.blocks key.layout) (large : key.layout.blocks ≤ (view desk.disk).size) (new : IsNewDesk view key desk) where
  idle_fits : SlotsFit key.layout (λ _. None) desk.slots.items
  idle_fits = record {
    each = λ k slot there. record {
      fits = subst (λ p. PhaseFits p (place_at key.layout k) None) (sym (new.slots_idle.each k slot there)) refl;
      notes = tt;
    };
  }

  fresh_fits : DeskFits view key (first_past key.start) desk
  fresh_fits = record {
    frame = record {
      layout = layout;
      large = large;
      laws = laws;
      count = new.slots_idle.count;
      cores = ap length new.waits_none ∙ length-replicate key.layout.cores None;
      waits = λ core. ap (λ (l : List (Option Turn)). wait_in l core) new.waits_none ∙ none_in key.layout.cores core;
      ledger = new.keeps;
      places = ap length new.opens_none ∙ length-replicate key.layout.cores None;
      opens = λ core. ap (λ (l : List (Option OpenView)). Rattle.std.specs.Prelude.option_map open_told (slice_index_or l core None)) new.opens_none
          ∙ ap (Rattle.std.specs.Prelude.option_map open_told) (none_open key.layout.cores core);
      stamps = new.no_stamps;
      faults = new.faults_are;
      failed = new.calm;
      turns = new.no_turns;
      few = few_none (max key.faults (view desk.disk).faults);
      moment = (let same = new.counts.0 in omega (arith, same));
      since = record {
        goes = λ first is. subst (λ (d : D). Advances (view d) (view desk.disk)) (sym (new.began first is)) (GoesOn-refl (view desk.disk));
        tells = λ first is. subst (λ (d : D). TellsAlike (view d) (view desk.disk)) (sym (new.began first is)) refl;
      };
      run = subst (λ n. Rattle.slot_image_laws.specs.Run.RunFits key.layout n (first_past n) (view desk.disk)) new.counts.0
          (first_runs_fit (view desk.disk) key.layout large);
    };
    room = (let none = owed_none key.layout.cores key.start in omega (arith, none));
    faults = new.counts.1;
    slots = λ calm. idle_fits;
  }

  pub fresh_home : IsHome view key [] desk
  fresh_home = record { fits = fresh_fits; space = new.space_is; busy = refl }

-- the cores of a table, from a number on, are so each
cores_each : {D : Type 0} (table : TableDesk (BoxKey D)) (cores number room : ℕ) (first : TreeState) (pens : List (PenHand D)) → AreIdleFrom table cores number pens
    → AreNew first pens → CoresHaveRoom room pens → (k : ℕ) (pen : PenHand D) → slice_get pens k ≡ Some pen
    → (pen.table ≡ table) × (pen.view.core ≡ number + k) × (pen.held ≡ []) × (pen.view.held ≡ []) × (pen.view.seen ≡ []) × (pen.view.mine ≡ []) × (room ≤
    pen.room)
cores_each table cores number room first [] idle new have k pen there = absurd (cc there)
cores_each table cores number room first (p ∷ pens) idle new have zero pen there =
    let same = some_same there in
    subst (λ (h : PenHand _). (h.table ≡ table) × (h.view.core ≡ number + 0) × (h.held ≡ []) × (h.view.held ≡ []) × (h.view.seen ≡ []) × (h.view.mine ≡ [])
    × (room ≤ h.room)) same
    (idle.0.table_is, (let n = idle.0.number_is in omega (arith, n)), idle.0.holds_none, new.0.none_held, new.0.none_seen, new.0.none_mine, have.0)
cores_each table cores number room first (p ∷ pens) idle new have (suc k) pen there =
    let rest = cores_each table cores (number + 1) room first pens idle.1 new.1 have.1 k pen there in
    (rest.0, (let n = rest.1 in omega (arith, n)), rest.2, rest.3, rest.4, rest.5, rest.6)

pub pens_new : {D : Type 0} (t : TableState (BoxKey D)) (first : TreeState) (key : BoxKey D) (pens : List (PenHand D)) → IsTableOf first key 0 1 t
    → length first.made ≡ key.layout.cores → AreAllCores t pens → AreNew first pens → CoresHaveRoom 1 pens → AreNewPens t pens
pens_new {D = D} t first key pens table made all new room = record {
  all = all;
  cores = cores;
  each = λ core pen there.
      let is = cores_each t.table t.cores 0 1 first pens all.ready new room core pen there in
      let low = Rattle.std.proofs.lemmas.Option.slice_get_within pens core pen there in
      let count = all.count in
      let number = is.1 in
      record {
        outside = record {
          table_is = is.0;
          place = subst (λ (d : TableDesk (BoxKey D)). 0 < d.id.slots) (sym is.0) (let one = table.cells_are in omega (arith, one));
          core_is = subst (λ (d : TableDesk (BoxKey D)). pen.view.core < d.given.layout.cores) (sym is.0) (omega (arith, low, count, number, cores));
          holds_none = is.2;
          none_held = is.3;
          mine = is.5 ∙ sym (ap (entries_by event_core pen.view.core) is.4);
        };
        room = (let have = is.6 in omega (arith, have));
        core_is = omega (arith, number);
        none_seen = is.4;
        none_told = is.5;
      };
} where
  cores : t.cores ≡ t.table.given.layout.cores
  cores = table.made ∙ (ap (λ (f : TreeState). length f.made) table.first_is ∙ (made ∙ ap (λ (k : BoxKey D). k.layout.cores) (sym table.given_is)))

-- what is so of each item by its place is so with one item more
pub each_more : {A : Type 0} (P : ℕ → A → Type 0) (items : List A) (item : A) (n : ℕ)
    → ((j : ℕ) (one : A) → slice_get items j ≡ Some one → P (n + j) one) → P (n + length items) item
    → (j : ℕ) (one : A) → slice_get (items ++ item ∷ []) j ≡ Some one → P (n + j) one
each_more P [] item n each next zero one is = subst (P (n + 0)) (some_same is) next
each_more P [] item n each next (suc j) one is = absurd (cc is)
each_more P (first ∷ items) item n each next zero one is = each zero one is
each_more P (first ∷ items) item n each next (suc j) one is =
    subst (λ m. P m one) (omega arith)
    (each_more P items item (n + 1) (λ k other at. subst (λ m. P m other) (omega arith) (each (suc k) other at)) (subst (λ m. P m item) (omega arith) next) j
    one
    is)

pub each_item : {A : Type 0} (P : ℕ → A → Type 0) (items : List A) (item : A)
    → ((j : ℕ) (one : A) → slice_get items j ≡ Some one → P j one) → P (length items) item
    → (j : ℕ) (one : A) → slice_get (items ++ item ∷ []) j ≡ Some one → P j one
each_item P items item each next j one is =
    subst (λ m. P m one) (omega arith)
    (each_more P items item 0 (λ k other at. subst (λ m. P m other) (omega arith) (each k other at)) (subst (λ m. P m item) (omega arith) next) j one is)

-- a value that stands lies in the one slot of its table
pub one_in_slots : {C X G : Type 0} (stands : G → TreeState → List (Event X) → ℕ → C → Type 0) (place_at : ℕ → ℕ → ℕ) (given : G) (measure : ℕ)
    (first : TreeState) (value : C) → stands given first [] (place_at measure 0) value → AreInSlots stands place_at given measure first (Some value ∷ [])
one_in_slots {C} {X} {G} stands place_at given measure first value stood = record { each = by } where
  by : (slot : ℕ) → slot < 1 → (v : C) × (get_elem? (Some value ∷ []) slot ≡ some (Some v)) × stands given first [] (place_at measure slot) v
  by zero low = (value, refl, stood)
  by (suc n) low = absurd (omega (arith, low))

-- an idle slot that was made at a place of the layout has that place
pub idle_place : (layout : Layout) (k : ℕ) (idle : Place) → idle.layout ≡ layout → idle.slot ≡ k / layout.slots * layout.slots + k % layout.slots
    → idle ≡ place_at layout k
idle_place layout k idle one two =
    λ i. record { layout = one i; slot = (two ∙ (ap (λ n. n + k % layout.slots) (mul_comm (k / layout.slots) layout.slots) ∙ div-add-mod k layout.slots)) i }

-- what was read first of a list of one item is that item
pub first_read : {A : Type 0} (items : List A) (item read : A) → items ≡ item ∷ [] → read ≡ slice_index_or items 0 read → read ≡ item
first_read items item read is value = value ∙ ap (λ l. slice_index_or l 0 read) is
