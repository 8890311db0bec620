-- The slots are settled, where some are open.
use Rattle.std.proofs.Common.{◌≡◌, ℕ, true, false, nat_eq, List, [], ◌∷◌, length, refl, sym, ap, ◌∙◌, arith}
use Rattle.sfs_base.proofs.BasicTruth.{false_not_true}
use Rattle.std.proofs.lemmas.Bool.{eqb-true}
use Rattle.recovery.specs.declared.journals.OpenSlot.{OpenSlot}
use Rattle.sfs_image.specs.ImageOf.{transaction_in, table_parts}
use Rattle.recovery.specs.Recovering.{settled_parts}
use Rattle.recovery.proofs.Stages.{none_to_settle, first_leaves, home_failed, to_be_closed, closed_after}
use Rattle.recovery.proofs.settling.settle_slots.Goals as goal

none_found : (found : List OpenSlot) → true ≡ nat_eq (length found) 0 → found ≡ []
none_found [] none = refl
none_found (one ∷ rest) some = absurd (let e = eqb-true (length (one ∷ rest)) 0 (sym some) in omega (arith, e))

some_found : (found : List OpenSlot) → false ≡ nat_eq (length found) 0 → length found ≡ 0 → ⊥
some_found found some none = false_not_true (some ∙ ap (λ (n : ℕ). nat_eq n 0) none)

pub returns-in_err-bring_home-clause-untouched : goal.returns-in_err-bring_home-clause-untouched
returns-in_err-bring_home-clause-untouched g c none = absurd (some_found c.args.found.now c.if-is_empty.ensures none)

pub returns-clause-untouched : goal.returns-clause-untouched
returns-clause-untouched g c none = absurd (some_found c.args.found.now c.if-is_empty.ensures none)

pub returns-then-is_empty-clause-settles : goal.returns-then-is_empty-clause-settles
returns-then-is_empty-clause-settles g c image told calm ready =
    none_to_settle c.args.layout.now c.args.found.now c.args.stamps.now c.args.records.now image ready (g.D.Disk.view c.args.disk.now) told calm tt
    (none_found c.args.found.now c.if-is_empty.ensures)

pub returns-in_err-bring_home-clause-settles : goal.returns-in_err-bring_home-clause-settles
returns-in_err-bring_home-clause-settles g c image told calm ready =
    let layout = c.args.layout.now in
    let old = g.D.Disk.view c.args.disk.now in
    home_failed layout c.args.found.now c.args.stamps.now c.args.records.now image ready old told calm
    (g.D.Disk.view c.bring_home.new.disk) c.bring_home.result c.from_residual.result c.from_residual.ensures.0
    (c.bring_home.ensures.home (transaction_in layout image) (table_parts layout image) ready.newest
    (first_leaves layout c.args.found.now c.args.stamps.now c.args.records.now image ready old told calm))

pub returns-clause-settles : goal.returns-clause-settles
returns-clause-settles g c image told calm ready =
    let layout = c.args.layout.now in
    let old = g.D.Disk.view c.args.disk.now in
    let mid = g.D.Disk.view c.bring_home.new.disk in
    let home = c.in_ok-bring_home.ensures.home (transaction_in layout image) (table_parts layout image) ready.newest
    (first_leaves layout c.args.found.now c.args.stamps.now c.args.records.now image ready old told calm) in
    closed_after layout c.args.found.now c.args.stamps.now c.args.records.now image ready old told calm mid c.in_ok-bring_home.field-0 home
    (g.D.Disk.view c.close_slots.new.disk) c.close_slots.result
    c.close_slots.ensures.ran.advances
    (c.close_slots.ensures.closed (settled_parts layout image)
    (to_be_closed layout c.args.found.now c.args.stamps.now c.args.records.now image ready old told calm mid c.in_ok-bring_home.field-0 home))
