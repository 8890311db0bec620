-- The worked history may be told.
use Rattle.std.proofs.Common.{◌≡◌, ◌≢◌, ◌<◌, ◌++◌, ◌∙◌, ◌⊎◌, ◌∷◌, ℕ, Some, inl, inr, refl, sym, ap, subst, arith, []}
use Rattle.sfs_base.proofs.BasicOptions.{some_same}
use Rattle.journal_one.specs.Job.{fill_count, Job}
use Rattle.journal_one.specs.declared.slot.Filling.{Filling}
use Rattle.merge_laws.proofs.Blocks.{same_or_not}
use Rattle.stamp_table.specs.Events.{event_core}
use Rattle.stamp_table.specs.Rule.{entries_by}
use Rattle.slot_laws.specs.Slots.{SlotWork, begun_work}
use Rattle.slot_laws.specs.Labels.{nothing_told, first_past, past_from, own_from}
use Rattle.slot_laws.specs.Rules.{MayFrom}
use Rattle.slot_laws.specs.Laws.{IsAtRest}
use Rattle.slot_laws.specs.Worked.{TWO_RINGS, BeginsIn, both_reserve, both_fill, both_land, one_goes_home, rings_log, WORKED_RECORD, LabelsCanBeMet, own_begins, other_begins}
use Rattle.slot_laws.proofs.WorkedApart.{begin_apart}
use Rattle.slot_laws.proofs.WorkedBegins.{three_marked, one_marked, reserved_past, own_begun, both_begun, filled_past, landed_past, may_reserve, own_may, own_goes_on, other_may, other_goes_on, four_marked}
use Rattle.slot_laws.proofs.Comes.{may_both, log_comes, none_begin_by}
use Rattle.slot_laws.proofs.Basics.{at_same, at_other, none_there}
use Rattle.slot_laws.proofs.Numbers.{CameFrom}

turns_are : (own other : Filling) → (past_from TWO_RINGS (rings_log own other) (first_past 0)).turns ≡ WORKED_RECORD
turns_are own other = refl

own_at_rest : (own other : Filling) → IsAtRest (own_from (entries_by event_core 0 (rings_log own other)) nothing_told)
own_at_rest own other = inl refl

other_at_rest : (own other : Filling) → IsAtRest (own_from (entries_by event_core 1 (rings_log own other)) nothing_told)
other_at_rest own other = inl refl

module _ (own other : Filling) (own_is : BeginsIn own 0 1 (0 ∷ [])) (other_is : BeginsIn other 2 2 []) where
  -- a number below four is that of a piece of the first, and below three of the second
  own_piece : (n : ℕ) → n < 4 → n < fill_count own.job
  own_piece n = subst (λ (count : ℕ). n < count) (sym own_is.pieces)

  other_piece : (n : ℕ) → n < 3 → n < fill_count other.job
  other_piece n = subst (λ (count : ℕ). n < count) (sym other_is.pieces)

  pub may_fill : MayFrom TWO_RINGS 0 both_fill (both_begun own other 2 2)
  may_fill = (
    (refl, tt),
    (
      (refl, record { calm = refl; own = refl; has = record { work = _; there = refl; aloft = refl; gate_is = refl }; within = own_piece 0 (omega arith) }),
      (
        (refl, record { calm = refl; own = refl; has = record { work = _; there = refl; aloft = refl; gate_is = refl }; within = own_piece 1 (omega arith) }),
        (
          (refl, record { calm = refl; own = refl; has = record { work = _; there = refl; aloft = refl; gate_is = refl }; within = own_piece 2 (omega arith) }),
          (
            (
              refl,
              record { calm = refl; own = refl; has = record { work = _; there = refl; aloft = refl; gate_is = refl }; within = own_piece 3 (omega arith) },
            ),
            (
              (refl, tt),
              (
                (refl, tt),
                (
                  (
                    refl,
                    record {
                      calm = refl;
                      own = refl;
                      has = record { work = _; there = refl; aloft = refl; gate_is = refl };
                      within = other_piece
                          0 (omega arith);
                    },
                  ),
                  (
                    (
                      refl,
                      record {
                        calm = refl;
                        own = refl;
                        has = record { work = _; there = refl; aloft = refl; gate_is = refl };
                        within =
                            other_piece 1 (omega arith);
                      },
                    ),
                    (
                      (
                        refl,
                        record {
                          calm = refl;
                          own = refl;
                          has = record { work = _; there = refl; aloft = refl; gate_is = refl };
                          within =
                              other_piece 2 (omega arith);
                        },
                      ),
                      (
                        (refl, refl),
                        (
                          (refl, tt),
                          tt,
                        ),
                      ),
                    ),
                  ),
                ),
              ),
            ),
          ),
        ),
      ),
    ),
  )

  own_filled : (n : ℕ) → n < fill_count own.job → n < 4
  own_filled n = subst (λ (count : ℕ). n < count) own_is.pieces

  other_filled : (n : ℕ) → n < fill_count other.job → n < 3
  other_filled n = subst (λ (count : ℕ). n < count) other_is.pieces

  pub may_land : MayFrom TWO_RINGS 0 both_land (filled_past own other)
  may_land = (
    (refl, tt),
    (
      (
        refl,
        record {
          calm = refl;
          own = refl;
          has = record { work = _; there = refl; aloft = refl; gate_is = refl };
          filled = λ n low. three_marked n (other_filled n low);
          cut_is = record { did_is = refl; core_is = refl; commit_is = refl; flush_is = refl };
          opened_is = record { did_is = refl; core_is = refl; commit_is = refl; flush_is = refl };
          cut_now = record { rises = omega arith; counts = refl };
          opened_now = (refl, refl);
        },
      ),
      (
        (refl, tt),
        (
          (refl, tt),
          (
            (
              refl,
              record {
                calm = refl;
                own = refl;
                has = record { work = _; there = refl; aloft = refl; gate_is = refl };
                filled = λ n low. four_marked n (own_filled n low);
                cut_is = record { did_is = refl; core_is = refl; commit_is = refl; flush_is = refl };
                opened_is = record { did_is = refl; core_is = refl; commit_is = refl; flush_is = refl };
                cut_now = record { rises = omega arith; counts = refl };
                opened_now = (refl, refl);
              },
            ),
            (
              (refl, tt),
              (
                (refl, tt),
                (
                  (refl, refl),
                  (
                    (
                      refl,
                      record {
                        calm = refl;
                        has = record { work = _; there = refl; aloft = refl; gate_is = refl };
                        is = record { did_is = refl; core_is = refl; commit_is = refl; flush_is = refl };
                        moment = refl;
                        now = record { rises = omega arith; counts = refl };
                      },
                    ),
                    (
                      (
                        refl,
                        record {
                          calm = refl;
                          has = record { work = _; there = refl; aloft = refl; gate_is = refl };
                          is = record { did_is = refl; core_is = refl; commit_is = refl; flush_is = refl };
                          moment = refl;
                          now = record { rises = omega arith; counts = refl };
                        },
                      ),
                      (
                        (refl, record { own = refl; waits = refl }),
                        (
                          (refl, tt),
                          (
                            (refl, tt),
                            (
                              (refl, record { own = refl; waits = refl }),
                              (
                                (refl, tt),
                                tt,
                              ),
                            ),
                          ),
                        ),
                      ),
                    ),
                  ),
                ),
              ),
            ),
          ),
        ),
      ),
    ),
  )

  -- each commit but the own one has a greater stamp
  pub later_stamp : (k : ℕ) (work : SlotWork) → k ≢ 0 → (landed_past own other).slots k ≡ Some work → own.job.stamp < work.job.stamp
  later_stamp k work apart there = by (same_or_not k 2)
    where
      was : CameFrom (both_begun own other 2 2).slots k work
      was =
          log_comes TWO_RINGS (both_fill ++ both_land) (both_begun own other 2 2) (none_begin_by (both_fill ++ both_land) refl)
          k work there

      by : (k ≡ 2) ⊎ (k ≢ 2) → own.job.stamp < work.job.stamp
      by (inl second) =
          let same = some_same (sym (at_same (own_begun own 0 1).slots 2 (Some (begun_work other.job 2 (record { node = 0; stamp = 1 }))) k second)
          ∙ was.there) in
          let drawn : work.job.stamp ≡ 2 =
          ap (λ (job : Job). job.stamp) was.stays.job ∙ ap (λ (w : SlotWork). w.job.stamp) (sym same) ∙ other_is.stamp in
          let first = own_is.stamp in
          omega (arith, drawn, first)
      by (inr away) =
          none_there
          (sym (at_other reserved_past.slots 0 (Some (begun_work own.job 1 (record { node = 1; stamp = 0 }))) k apart)
          ∙ sym (at_other (own_begun own 0 1).slots 2 (Some (begun_work other.job 2 (record { node = 0; stamp = 1 }))) k away) ∙ was.there)

  may_go_home : MayFrom TWO_RINGS 0 one_goes_home (landed_past own other)
  may_go_home = (
    (refl, tt),
    (
      (
        refl,
        record {
          calm = refl;
          has = record { work = _; there = refl; aloft = refl; gate_is = refl };
          within = subst (λ (count : ℕ). 0 < count) (sym own_is.one) (omega arith);
          oldest = λ k work apart there durable shares. later_stamp k work apart there;
        },
      ),
      (
        (refl, refl),
        (
          (
            refl,
            record {
              calm = refl;
              has = record { work = _; there = refl; aloft = refl; gate_is = refl };
              placed = λ n low. one_marked n (subst (λ (count : ℕ). n < count) own_is.one low);
            },
          ),
          (
            (refl, refl),
            (
              (refl, record { calm = refl; has = record { work = _; there = refl; aloft = refl; gate_is = refl } }),
              (
                (refl, tt),
                tt,
              ),
            ),
          ),
        ),
      ),
    ),
  )

pub labels_can_be_met : LabelsCanBeMet
labels_can_be_met own other own_is other_is = record {
  may = may_both TWO_RINGS 0 both_reserve (own_begins own ++ other_begins other ++ both_fill ++ both_land ++ one_goes_home) (first_past 0) may_reserve
      (may_both TWO_RINGS 0 (own_begins own) (other_begins other ++ both_fill ++ both_land ++ one_goes_home) reserved_past (own_may own own_is)
      (own_goes_on own own_is (other_begins other ++ both_fill ++ both_land ++ one_goes_home)
      (may_both TWO_RINGS 0 (other_begins other) (both_fill ++ both_land ++ one_goes_home) (own_begun own 0 1) (other_may own other other_is)
      (other_goes_on own other other_is (both_fill ++ both_land ++ one_goes_home)
      (may_both TWO_RINGS 0 both_fill (both_land ++ one_goes_home) (both_begun own other 2 2) (may_fill own other own_is other_is)
      (may_both TWO_RINGS 0 both_land one_goes_home (filled_past own other) (may_land own other own_is other_is)
      (may_go_home own other own_is other_is)))))));
  apart = begin_apart own other;
  turns = turns_are own other;
  own_rests = own_at_rest own other;
  other_rests = other_at_rest own other;
}
