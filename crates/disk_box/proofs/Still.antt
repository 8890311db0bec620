-- While a core has the box nobody else tells a label.
use Rattle.std.proofs.Common.{◌≡◌, ◌∷◌, ◌∙◌, ℕ, cond, List, [], Option, Some, refl, sym, ap, nat_eq}
use Rattle.sfs_base.proofs.BasicOptions.{none_some, some_same}
use Rattle.sfs_base.proofs.BasicNumbers.{same_number}
use Rattle.sfs_image.specs.Super.{Layout}
use Rattle.stamp_table.specs.declared.event.Event.{Event}
use Rattle.stamp_table.specs.declared.event.Event.TheVariants.{Called, Told}
use Rattle.stamp_table.specs.Events.{event_core}
use Rattle.stamp_table.specs.Rule.{entries_by}
use Rattle.slot_laws.specs.declared.label.Label.{Label}
use Rattle.slot_laws.specs.declared.label.Label.TheVariants as label
use Rattle.slot_laws.specs.Labels.{BoxPast}
use Rattle.slot_laws.specs.Rules.{HasTurn, MayFrom}

-- who tells while a core has the box is this core
pub who_tells : (core owner : ℕ) (fact : Label) (busy : Option ℕ) → HasTurn core fact busy → busy ≡ Some owner → core ≡ owner
who_tells core owner label.Took busy turn is = absurd (none_some (sym turn ∙ is))
who_tells core owner label.Gave busy turn is = some_same (sym turn ∙ is)
who_tells core owner (label.Noted t) busy turn is = some_same (sym turn ∙ is)
who_tells core owner (label.Reserved c s g) busy turn is = some_same (sym turn ∙ is)
who_tells core owner (label.Returned c) busy turn is = some_same (sym turn ∙ is)
who_tells core owner (label.Began f c n s b i) busy turn is = some_same (sym turn ∙ is)
who_tells core owner (label.Filled k p d) busy turn is = some_same (sym turn ∙ is)
who_tells core owner (label.Synced n) busy turn is = some_same (sym turn ∙ is)
who_tells core owner (label.Opened k d c o) busy turn is = some_same (sym turn ∙ is)
who_tells core owner (label.Settled k t) busy turn is = some_same (sym turn ∙ is)
who_tells core owner (label.Learned t) busy turn is = some_same (sym turn ∙ is)
who_tells core owner (label.Placed k n d) busy turn is = some_same (sym turn ∙ is)
who_tells core owner (label.Shut k d) busy turn is = some_same (sym turn ∙ is)
who_tells core owner (label.Idled k) busy turn is = some_same (sym turn ∙ is)
who_tells core owner (label.Empty c u o d) busy turn is = some_same (sym turn ∙ is)

pub some_own : (core : ℕ) (event : Event Label) (more : List (Event Label)) → event_core event ≡ core → entries_by event_core core (event ∷ more) ≡ [] → ⊥
some_own core event more own none =
    let there : entries_by event_core core (event ∷ more) ≡ event ∷ entries_by event_core core more =
    ap (λ b. cond b (event ∷ entries_by event_core core more) (entries_by event_core core more)) (ap (λ n. nat_eq n core) own ∙ same_number core)
    in
    cc (there, none)

-- a history that goes on while a core has the box, without a label of its, goes on with nothing
pub stands_still : (layout : Layout) (before core : ℕ) (more : List (Event Label)) (past : BoxPast) → MayFrom layout before more past
    → past.busy ≡ Some core → entries_by event_core core more ≡ [] → more ≡ []
stands_still layout before core [] past may busy none = refl
stands_still layout before core (Called entry ∷ more) past may busy none = absurd may.0
stands_still layout before core (Told other fact ∷ more) past may busy none =
    absurd (some_own core (Told other fact) more (who_tells other.0 core fact past.busy may.0.0 busy) none)
