-- How what a core knows is stored, so that contracts may see it.
use Rattle.std.specs.Prelude.{◌≡◌, ◌⊎◌, ℕ, Bool, List, Option, refl}
use Rattle.std.proofs.Common.{inl, inr}
use Rattle.std.specs.Coded.{Coded, code_by, coded×, coded⊎, coded_ℕ, coded_bool, coded_list, coded_option}
use Rattle.atomic_table.specs.Seated.{TableId, table_id_coded}
use Rattle.tree_laws.specs.Tree.{TreeState, tree_code}
use Rattle.tree_laws.specs.declared.history.Entry.{Entry}
use Rattle.stamp_table.specs.declared.event.Event.{Event}
use Rattle.stamp_table.specs.declared.event.Event.TheVariants.{Called, Told}
use Rattle.stamp_table.specs.declared.view.View.{View}
use Rattle.stamp_table.specs.declared.held.HeldCell.{HeldCell}
use Rattle.stamp_table.specs.Hand.{Hand, Desk}

-- an event as a call's entry, or as a core and what it told
abbrev pub parts_of_event : {X : Type 0} → Event X → Entry ⊎ (ℕ × X)
parts_of_event (Called entry) = inl entry
parts_of_event (Told core fact) = inr (core.0, fact)

abbrev pub event_of : {X : Type 0} → Entry ⊎ (ℕ × X) → Event X
event_of (inl entry) = Called entry
event_of (inr told) = Told (record { 0 = told.0 }) told.1

pub event_again : {X : Type 0} → (event : Event X) → event_of (parts_of_event event) ≡ event
event_again (Called entry) = refl
event_again (Told core fact) = refl

abbrev pub event_code : {X : Type 0} → Coded Entry → Coded X → Coded (Event X)
event_code {X} entry fact = code_by (Entry ⊎ (ℕ × X)) (coded⊎ entry (coded× coded_ℕ fact)) parts_of_event event_of event_again

-- a view as its fields
abbrev pub view_code : {T E : Type 0} → Coded T → Coded E → Coded (View T E)
view_code {T} {E} first event =
    code_by (Bool × (Bool × (T × (ℕ × (List E × (List E × (List ℕ × (ℕ × (List (List E) × List (List E))))))))))
    (coded× coded_bool
    (coded× coded_bool
    (coded× first
    (coded× coded_ℕ
    (coded× (coded_list event)
    (coded× (coded_list event)
    (coded× (coded_list coded_ℕ) (coded× coded_ℕ (coded× (coded_list (coded_list event)) (coded_list (coded_list event)))))))))))
    (λ v. (v.gathers, (v.gone, (v.first, (v.core, (v.seen, (v.mine, (v.held, (v.cores, (v.lists, v.saws)))))))))) (λ p. record {
      gathers = p.0;
      gone = p.1.0;
      first = p.1.1.0;
      core = p.1.1.1.0;
      seen = p.1.1.1.1.0;
      mine = p.1.1.1.1.1.0;
      held = p.1.1.1.1.1.1.0;
      cores = p.1.1.1.1.1.1.1.0;
      lists = p.1.1.1.1.1.1.1.1.0;
      saws = p.1.1.1.1.1.1.1.1.1;
    }) (λ _. refl)

-- a held cell as its place and its value
abbrev pub cell_code : {C : Type 0} → Coded C → Coded (HeldCell C)
cell_code {C} value = code_by (ℕ × C) (coded× coded_ℕ value) (λ c. (c.place, c.value)) (λ p. record { place = p.0; value = p.1 }) (λ _. refl)

-- a table's name as its fields
abbrev pub desk_code : {G : Type 0} → Coded G → Coded (Desk G)
desk_code {G} given =
    code_by (TableId × (G × ℕ)) (coded× table_id_coded (coded× given coded_ℕ)) (λ d. (d.id, (d.given, d.measure))) (λ p. record {
      id = p.0;
      given = p.1.0;
      measure = p.1.1;
    }) (λ _. refl)

-- a core as its fields
abbrev pub hand_code : {C X G : Type 0} → Coded Entry → Coded C → Coded X → Coded G → Coded (Hand C X G)
hand_code {C} {X} {G} entry value fact given =
    code_by (Desk G × (View TreeState (Event X) × (List Entry × (Option ℕ × (List (HeldCell C) × (ℕ × (ℕ × (Bool × ℕ))))))))
    (coded× (desk_code given)
    (coded× (view_code tree_code (event_code entry fact))
    (coded× (coded_list entry)
    (coded× (coded_option coded_ℕ) (coded× (coded_list (cell_code value)) (coded× coded_ℕ (coded× coded_ℕ (coded× coded_bool coded_ℕ))))))))
    (λ h. (h.table, (h.view, (h.entries, (h.waiting, (h.held, (h.spare, (h.room, (h.leads, h.cores))))))))) (λ p. record {
      table = p.0;
      view = p.1.0;
      entries = p.1.1.0;
      waiting = p.1.1.1.0;
      held = p.1.1.1.1.0;
      spare = p.1.1.1.1.1.0;
      room = p.1.1.1.1.1.1.0;
      leads = p.1.1.1.1.1.1.1.0;
      cores = p.1.1.1.1.1.1.1.1;
    }) (λ _. refl)
