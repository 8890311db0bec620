-- The longer worked history may be told.
use Rattle.std.proofs.Common.{◌++◌, ◌∷◌, ◌≡◌, ◌<◌, ◌∙◌, ◌≢◌, ℕ, [], ap, subst, sym, refl, arith, List, Some, inl, inr}
use Rattle.sfs_base.proofs.BasicOptions.{some_same}
use Rattle.journal_one.specs.declared.slot.Filling.{Filling}
use Rattle.journal_one.specs.Job.{Place, fill_count, Job}
use Rattle.cut_laws.proofs.Lives.{later}
use Rattle.merge_laws.proofs.Blocks.{same_or_not}
use Rattle.stamp_table.specs.declared.event.Event.{Event}
use Rattle.stamp_table.proofs.Laying.{apart}
use Rattle.slot_laws.specs.Labels.{BoxPast, past_from, after_label, owner, first_past}
use Rattle.slot_laws.specs.Worked.{TWO_RINGS, one_block, BeginsIn, both_reserve, own_begins, other_begins, both_fill, both_land}
use Rattle.slot_laws.specs.WorkedLonger.{later_reserves, later_lands, last_reserves, later_begins, last_begins, last_writes, first_goes_home, WorkedCommits, longer_log}
use Rattle.slot_laws.specs.declared.label.Label.TheVariants as label
use Rattle.slot_laws.specs.Nodes.{no_numbers}
use Rattle.slot_laws.specs.Rules.{MayFrom}
use Rattle.slot_laws.specs.Slots.{place_at, SlotWork, begun_work}
use Rattle.slot_laws.specs.declared.label.Label.{Label}
use Rattle.slot_laws.proofs.WorkedBegins.{landed_past, begun_past, one_unmoved, four_marked, one_marked, may_reserve, reserved_past, own_may, own_goes_on, own_begun, other_may, other_goes_on, both_begun, filled_past}
use Rattle.slot_laws.proofs.Basics.{at_same, at_other}
use Rattle.slot_laws.proofs.Worked.{later_stamp, may_fill, may_land}
use Rattle.slot_laws.proofs.Numbers.{CameFrom}
use Rattle.slot_laws.proofs.Comes.{log_comes, none_begin_by, may_both}

-- what is told once the later commit has reserved, and once it has begun
abbrev later_reserved : Filling → Filling → BoxPast
later_reserved own other = past_from TWO_RINGS later_reserves (landed_past own other)

abbrev later_begun : Filling → Filling → Filling → ℕ → ℕ → BoxPast
later_begun own other later k drawn =
    after_label TWO_RINGS 1 label.Gave
    (begun_past (after_label TWO_RINGS 1 label.Took (later_reserved own other)) 1 later 3 (record { node = 1; stamp = 2 }) (one_block 0) k drawn)

-- once it is durable and the last one has reserved, and once that has begun
abbrev last_reserved : Filling → Filling → Filling → BoxPast
last_reserved own other later = past_from TWO_RINGS (later_lands ++ last_reserves) (later_begun own other later 3 3)

abbrev last_begun : Filling → Filling → Filling → Filling → ℕ → ℕ → BoxPast
last_begun own other later last k drawn =
    after_label TWO_RINGS 0 label.Gave
    (begun_past (after_label TWO_RINGS 0 label.Took (last_reserved own other later)) 0 last 4 (record { node = 2; stamp = 3 }) no_numbers k drawn)

module _ (own other later last : Filling) (own_is : BeginsIn own 0 1 (0 ∷ [])) (other_is : BeginsIn other 2 2 []) (later_is : BeginsIn later 3 3 (1 ∷ []))
    (last_is : BeginsIn last 1 4 (0 ∷ [])) where
  later_slot : later.job.place.slot ≡ 3
  later_slot = ap (λ (p : Place). p.slot) later_is.place

  last_slot : last.job.place.slot ≡ 1
  last_slot = ap (λ (p : Place). p.slot) last_is.place

  later_piece : (n : ℕ) → n < 4 → n < fill_count later.job
  later_piece n = subst (λ (count : ℕ). n < count) (sym later_is.pieces)

  later_filled : (n : ℕ) → n < fill_count later.job → n < 4
  later_filled n = subst (λ (count : ℕ). n < count) later_is.pieces

  may_later_reserve : MayFrom TWO_RINGS 0 later_reserves (landed_past own other)
  may_later_reserve = (
    (refl, tt),
    (
      (refl, record { calm = refl; next = refl; none = refl; rests = refl; unmoved = one_unmoved _ 1 1 refl }),
      (
        (refl, record { own = refl; no_open = λ e. cc; no_durable = λ e. cc; learned = refl; now = record { rises = omega arith; counts = refl } }),
        (
          (refl, tt),
          tt,
        ),
      ),
    ),
  )

  may_later_begin : MayFrom TWO_RINGS 0 (later_begins later) (later_reserved own other)
  may_later_begin = (
    (refl, tt),
    (
      (
        refl,
        record {
          calm = refl;
          own = ap (owner TWO_RINGS) later_slot;
          within = subst (λ (k : ℕ). k < 4) (sym later_slot) (omega arith);
          place = later_is.place ∙ ap (place_at TWO_RINGS) (sym later_slot);
          idle = ap (later_reserved own other).slots later_slot;
          number = refl;
          stamp = later_is.stamp;
          is = later_is.is;
        },
      ),
      (
        (refl, tt),
        tt,
      ),
    ),
  )

  later_goes_on : (log : List (Event Label)) → MayFrom TWO_RINGS 0 log (later_begun own other later 3 3)
      → MayFrom TWO_RINGS 0 log (past_from TWO_RINGS (later_begins later) (later_reserved own other))
  later_goes_on log may =
      subst (λ (k : ℕ). MayFrom TWO_RINGS 0 log (later_begun own other later k later.job.stamp)) (sym later_slot)
      (subst (λ (n : ℕ). MayFrom TWO_RINGS 0 log (later_begun own other later 3 n)) (sym later_is.stamp) may)

  may_later_land : MayFrom TWO_RINGS 0 (later_lands ++ last_reserves) (later_begun own other later 3 3)
  may_later_land = (
    (refl, tt),
    (
      (
        refl,
        record {
          calm = refl;
          own = refl;
          has = record { work = _; there = refl; aloft = refl; gate_is = refl };
          within = later_piece 0 (omega arith);
        },
      ),
      (
        (
          refl,
          record {
            calm = refl;
            own = refl;
            has = record { work = _; there = refl; aloft = refl; gate_is = refl };
            within = later_piece 1 (omega arith);
          },
        ),
        (
          (
            refl,
            record {
              calm = refl;
              own = refl;
              has = record { work = _; there = refl; aloft = refl; gate_is = refl };
              within = later_piece 2 (omega arith);
            },
          ),
          (
            (
              refl,
              record {
                calm = refl;
                own = refl;
                has = record { work = _; there = refl; aloft = refl; gate_is = refl };
                within = later_piece 3 (omega arith);
              },
            ),
            (
              (refl, refl),
              (
                (
                  refl,
                  record {
                    calm = refl;
                    own = refl;
                    has = record { work = _; there = refl; aloft = refl; gate_is = refl };
                    filled = λ n low. four_marked n (later_filled n low);
                    cut_is = record { did_is = refl; core_is = refl; commit_is = refl; flush_is = refl };
                    opened_is = record { did_is = refl; core_is = refl; commit_is = refl; flush_is = refl };
                    cut_now = record { rises = omega arith; counts = refl };
                    opened_now = (refl, refl);
                  },
                ),
                (
                  (refl, refl),
                  (
                    (
                      refl,
                      record {
                        calm = refl;
                        has = record { work = _; there = refl; aloft = refl; gate_is = refl };
                        is = record { did_is = refl; core_is = refl; commit_is = refl; flush_is = refl };
                        moment = refl;
                        now = record { rises = omega arith; counts = refl };
                      },
                    ),
                    (
                      (refl, record { own = refl; waits = refl }),
                      (
                        (refl, tt),
                        (
                          (refl, tt),
                          (
                            (refl, record { calm = refl; next = refl; none = refl; rests = refl; unmoved = one_unmoved _ 2 0 refl }),
                            (
                              (
                                refl,
                                record {
                                  own = refl;
                                  no_open = λ e. cc;
                                  no_durable = λ e. cc;
                                  learned = refl;
                                  now = record { rises = omega arith; counts = refl };
                                },
                              ),
                              (
                                (refl, tt),
                                tt,
                              ),
                            ),
                          ),
                        ),
                      ),
                    ),
                  ),
                ),
              ),
            ),
          ),
        ),
      ),
    ),
  )

  may_last_begin : MayFrom TWO_RINGS 0 (last_begins last) (last_reserved own other later)
  may_last_begin = (
    (refl, tt),
    (
      (
        refl,
        record {
          calm = refl;
          own = ap (owner TWO_RINGS) last_slot;
          within = subst (λ (k : ℕ). k < 4) (sym last_slot) (omega arith);
          place = last_is.place ∙ ap (place_at TWO_RINGS) (sym last_slot);
          idle = ap (last_reserved own other later).slots last_slot;
          number = refl;
          stamp = last_is.stamp;
          is = last_is.is;
        },
      ),
      (
        (refl, tt),
        tt,
      ),
    ),
  )

  last_goes_on : (log : List (Event Label)) → MayFrom TWO_RINGS 0 log (last_begun own other later last 1 4)
      → MayFrom TWO_RINGS 0 log (past_from TWO_RINGS (last_begins last) (last_reserved own other later))
  last_goes_on log may =
      subst (λ (k : ℕ). MayFrom TWO_RINGS 0 log (last_begun own other later last k last.job.stamp)) (sym last_slot)
      (subst (λ (n : ℕ). MayFrom TWO_RINGS 0 log (last_begun own other later last 1 n)) (sym last_is.stamp) may)

  -- each commit but the first has a greater stamp
  first_is_oldest : (k : ℕ) (work : SlotWork) → k ≢ 0 → (past_from TWO_RINGS last_writes (last_begun own other later last 1 4)).slots k ≡ Some work
      → own.job.stamp < work.job.stamp
  first_is_oldest k work apart there = elim (same_or_not k 1) [
    | inl same ↦
        let is = some_same
        (sym (at_same (last_reserved own other later).slots 1 (Some (begun_work last.job 4 (record { node = 2; stamp = 3 }))) k same) ∙ was.there) in
        let drawn : work.job.stamp ≡ 4 = ap (λ (job : Job). job.stamp) was.stays.job ∙ ap (λ (w : SlotWork). w.job.stamp) (sym is) ∙ last_is.stamp in
        omega (arith, drawn, own_is.stamp)
    | inr away ↦ elim (same_or_not k 3) [
      | inl same ↦
          let is = some_same
          (sym (at_same (later_reserved own other).slots 3 (Some (begun_work later.job 3 (record { node = 1; stamp = 2 }))) k same) ∙ (before away).there) in
          let drawn : work.job.stamp ≡ 3 =
          ap (λ (job : Job). job.stamp) (was.stays.job ∙ (before away).stays.job) ∙ ap (λ (w : SlotWork). w.job.stamp) (sym is) ∙ later_is.stamp in
          omega (arith, drawn, own_is.stamp)
      | inr out ↦
          let low = later_stamp own other own_is other_is k (before away).work apart
          (sym (at_other (later_reserved own other).slots 3 (Some (begun_work later.job 3 (record { node = 1; stamp = 2 }))) k out) ∙ (before away).there) in
          let drawn : work.job.stamp ≡ (before away).work.job.stamp = ap (λ (job : Job). job.stamp) (was.stays.job ∙ (before away).stays.job) in
          omega (arith, drawn, low)
    ]
  ]
    where
      was : CameFrom (last_begun own other later last 1 4).slots k work
      was = log_comes TWO_RINGS last_writes (last_begun own other later last 1 4) (none_begin_by last_writes refl) k work there

      before : k ≢ 1 → CameFrom (later_begun own other later 3 3).slots k was.work
      before away =
          log_comes TWO_RINGS (later_lands ++ last_reserves) (later_begun own other later 3 3) (none_begin_by (later_lands ++ last_reserves) refl) k was.work
          (sym (at_other (last_reserved own other later).slots 1 (Some (begun_work last.job 4 (record { node = 2; stamp = 3 }))) k away) ∙ was.there)

  last_piece : (n : ℕ) → n < 4 → n < fill_count last.job
  last_piece n = subst (λ (count : ℕ). n < count) (sym last_is.pieces)

  may_write : MayFrom TWO_RINGS 0 last_writes (last_begun own other later last 1 4)
  may_write = (
    (refl, tt),
    (
      (
        refl,
        record {
          calm = refl;
          own = refl;
          has = record { work = _; there = refl; aloft = refl; gate_is = refl };
          within = last_piece 0 (omega arith);
        },
      ),
      (
        (refl, tt),
        tt,
      ),
    ),
  )

  may_end : MayFrom TWO_RINGS 0 first_goes_home (past_from TWO_RINGS last_writes (last_begun own other later last 1 4))
  may_end = (
    (refl, tt),
    (
      (
        refl,
        record {
          calm = refl;
          has = record { work = _; there = refl; aloft = refl; gate_is = refl };
          within = subst (λ (count : ℕ). 0 < count) (sym own_is.one) (omega arith);
          oldest = λ k work apart there durable shares. first_is_oldest k work apart there;
        },
      ),
      (
        (refl, refl),
        (
          (
            refl,
            record {
              calm = refl;
              has = record { work = _; there = refl; aloft = refl; gate_is = refl };
              placed = λ n low. one_marked n (subst (λ (count : ℕ). n < count) own_is.one low);
            },
          ),
          (
            (refl, refl),
            (
              (refl, record { calm = refl; has = record { work = _; there = refl; aloft = refl; gate_is = refl } }),
              (
                (refl, tt),
                tt,
              ),
            ),
          ),
        ),
      ),
    ),
  )

  abbrev all_four : WorkedCommits
  all_four = record { own = own; other = other; later = later; last = last }

  abbrev behind_last : List (Event Label)
  behind_last = last_writes ++ first_goes_home

  abbrev behind_later : List (Event Label)
  behind_later = later_lands ++ last_reserves ++ last_begins last ++ behind_last

  abbrev behind_both : List (Event Label)
  behind_both = later_reserves ++ later_begins later ++ behind_later

  may_behind : MayFrom TWO_RINGS 0 behind_both (landed_past own other)
  may_behind =
      may_both TWO_RINGS 0 later_reserves (later_begins later ++ behind_later) (landed_past own other) may_later_reserve
      (may_both TWO_RINGS 0 (later_begins later) behind_later (later_reserved own other) may_later_begin
      (later_goes_on behind_later
      (may_both TWO_RINGS 0 (later_lands ++ last_reserves) (last_begins last ++ behind_last) (later_begun own other later 3 3) may_later_land
      (may_both TWO_RINGS 0 (last_begins last) behind_last (last_reserved own other later) may_last_begin
      (last_goes_on behind_last
      (may_both TWO_RINGS 0 last_writes first_goes_home (last_begun own other later last 1 4) may_write may_end))))))

  pub longer_may : MayFrom TWO_RINGS 0 (longer_log all_four) (first_past 0)
  longer_may =
      may_both TWO_RINGS 0 both_reserve (own_begins own ++ other_begins other ++ both_fill ++ both_land ++ behind_both) (first_past 0) may_reserve
      (may_both TWO_RINGS 0 (own_begins own) (other_begins other ++ both_fill ++ both_land ++ behind_both) reserved_past (own_may own own_is)
      (own_goes_on own own_is (other_begins other ++ both_fill ++ both_land ++ behind_both)
      (may_both TWO_RINGS 0 (other_begins other) (both_fill ++ both_land ++ behind_both) (own_begun own 0 1) (other_may own other other_is)
      (other_goes_on own other other_is (both_fill ++ both_land ++ behind_both)
      (may_both TWO_RINGS 0 both_fill (both_land ++ behind_both) (both_begun own other 2 2) (may_fill own other own_is other_is)
      (may_both TWO_RINGS 0 both_land behind_both (filled_past own other) (may_land own other own_is other_is) may_behind))))))
