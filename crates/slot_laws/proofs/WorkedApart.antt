-- The commits of the worked history begin apart where they share no inode.
use Rattle.std.proofs.Common.{◌≡◌, ◌++◌, ◌∙◌, ℕ, Some, inl, inr, refl, sym, subst}
use Rattle.sfs_base.proofs.BasicOptions.{some_same}
use Rattle.journal_one.specs.declared.slot.Filling.{Filling}
use Rattle.merge_laws.proofs.Blocks.{same_or_not}
use Rattle.slot_laws.specs.Rings.{ShareInode, BeginApart}
use Rattle.slot_laws.specs.Slots.{SlotWork, begun_work, with_at}
use Rattle.slot_laws.specs.Labels.{first_past, past_from}
use Rattle.slot_laws.specs.Worked.{TWO_RINGS, both_reserve, both_fill, both_land, one_goes_home, rings_log, own_begins, other_begins}
use Rattle.slot_laws.proofs.Rings.{share_back}
use Rattle.slot_laws.proofs.WorkedBegins.{reserved_past}
use Rattle.slot_laws.proofs.Comes.{none_apart, apart_both, none_begin_by}
use Rattle.slot_laws.proofs.Basics.{at_same, at_other, none_there}

-- both begin apart where they share no inode
module _ (own other : Filling) (strangers : ShareInode own.job other.job → ⊥) where
  began_apart : (k : ℕ) (work : SlotWork)
      → with_at reserved_past.slots own.job.place.slot (Some (begun_work own.job 1 (record { node = 1; stamp = 0 }))) k ≡ Some work
      → ShareInode other.job work.job → ⊥
  began_apart k work there shares = elim (same_or_not k own.job.place.slot) [
    | inl same ↦
        let is = some_same
        (sym (at_same reserved_past.slots own.job.place.slot (Some (begun_work own.job 1 (record { node = 1; stamp = 0 }))) k same) ∙ there) in
        strangers (share_back other.job own.job (subst (λ (w : SlotWork). ShareInode other.job w.job) (sym is) shares))
    | inr apart ↦
        none_there (sym (at_other reserved_past.slots own.job.place.slot (Some (begun_work own.job 1 (record { node = 1; stamp = 0 }))) k apart) ∙ there)
  ]

  pub begin_apart : BeginApart TWO_RINGS (rings_log own other) (first_past 0)
  begin_apart =
      let rest = both_fill ++ both_land ++ one_goes_home in
      apart_both TWO_RINGS both_reserve (own_begins own ++ other_begins other ++ rest) (first_past 0)
      (none_apart TWO_RINGS both_reserve (first_past 0) (none_begin_by both_reserve refl)) (
        tt,
        (
          (λ k work there aloft shares. none_there there),
          (
            tt,
            (
              tt,
              (
                (λ k work there aloft shares. began_apart k work there shares),
                (
                  tt,
                  none_apart TWO_RINGS rest (past_from TWO_RINGS (other_begins other) (past_from TWO_RINGS (own_begins own) reserved_past))
                      (none_begin_by rest refl),
                ),
              ),
            ),
          ),
        ),
      )
