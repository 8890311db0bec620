-- Journals that were closed: their cores are at rest, and their disk began as it did.
use Rattle.std.proofs.Common.{List, length, inl, inr, refl, sym, subst, ℕ}
use Rattle.std.proofs.lemmas.Option.{slice_get_cases}
use Rattle.sfs_dev.specs.Disk.{View}
use Rattle.sfs_dev.specs.Run.{Advances}
use Rattle.stamp_table.specs.declared.event.Event.{Event}
use Rattle.slot_laws.specs.declared.label.Label.{Label}
use Rattle.slot_laws.specs.Labels.{OwnTold, own_from, nothing_told}
use Rattle.slot_laws.specs.Laws.{IsAtRest}
use Rattle.slot_laws.proofs.Lawful.{none_by}
use Rattle.slot_image_laws.specs.Run.{BeganWith}
use Rattle.disk_box.specs.Pens.{own_at}
use Rattle.journal_set.specs.Ready.{HasNothingDue}
use Rattle.end_laws.specs.Rests.{ClosedPensRest, ClosedDisksBegan}
use Rattle.end_laws.proofs.Begins.{begun_disks_go_on}

-- a core of which nothing is due is at rest
rests : (own : OwnTold) → HasNothingDue own → IsAtRest own
rests own (inl over) = inr over
rests own (inr none) = inl none.1

pub closed_pens_rest : {D : Type 0} (view : D → View) → ClosedPensRest view
closed_pens_rest {D} view t pens log disk turns may leaves core = elim (slice_get_cases pens core).1 [
  | inl there ↦
      subst (λ (mine : List (Event Label)). IsAtRest (own_from mine nothing_told)) (leaves.mine core there.0 there.2)
      (rests (own_at there.0) (may.rests core there.0 there.2))
  | inr past ↦
      subst (λ (mine : List (Event Label)). IsAtRest (own_from mine nothing_told)) (sym (none_by log (length pens) core leaves.own past.0)) (inl refl)
]

pub closed_disks_began : {D : Type 0} (view : D → View) → ClosedDisksBegan view
closed_disks_began {D} view key parts first last over =
    let began = over.began in
    let goes : Advances (view first) (view last) = subst (λ (d : D). Advances (view d) (view last)) began.is (over.since.goes began.first began.told) in
    subst (λ (moment : ℕ). BeganWith key.layout parts moment (view last)) (sym over.key_is.start_is)
    (begun_disks_go_on (view first) (view last) key.layout parts (record { fits = over.fits; left = over.left; advances = goes; counts = over.counts }))
