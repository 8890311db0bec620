-- A map goes along the longer worked history.
use Rattle.std.proofs.Common.{◌++◌, List, refl, inr, inl}
use Rattle.journal_one.specs.declared.slot.Filling.{Filling}
use Rattle.space_map.specs.declared.status.Status.{Status}
use Rattle.space_map.specs.Space.{Space}
use Rattle.space_map.specs.declared.status.Status.TheVariants.{Free, Granted, Taken}
use Rattle.stamp_table.specs.declared.event.Event.{Event}
use Rattle.slot_laws.specs.WorkedLonger.{two_numbers, WorkedCommits, later_lands, last_reserves, last_begins, last_writes, first_goes_home, later_reserves, later_begins, longer_log, FREE_MAP, LAST_MAP, LingeringSlotsCanBeMet}
use Rattle.slot_laws.specs.declared.label.Label.{Label}
use Rattle.slot_laws.specs.Labels.{BoxPast, past_from, first_past}
use Rattle.slot_laws.specs.Worked.{TWO_RINGS, own_begins, other_begins, both_fill, both_land, both_reserve}
use Rattle.slot_laws.specs.Grants.{SpaceGoes}
use Rattle.slot_laws.proofs.WorkedBegins.{reserved_past}
use Rattle.slot_laws.proofs.WorkedMaps.{first_inodes, first_blocks, second_inodes, second_blocks, second_ends_inodes, second_ends_blocks, first_ends_inodes, first_ends_blocks, third_inodes, third_blocks, third_ends_inodes, third_ends_blocks, fourth_inodes, fourth_blocks, none_granted_yet}
use Rattle.slot_laws.proofs.GrantsTold.{goes_both, quiet_goes}
use Rattle.slot_laws.proofs.WorkedLonger.{longer_may}

-- a map of two blocks and two inodes
abbrev map_of : Status → Status → Status → Status → Space
map_of one two three four = record { blocks = two_numbers one two; inodes = two_numbers three four }

module _ (own other later last : Filling) where
  abbrev all_four : WorkedCommits
  all_four = record { own = own; other = other; later = later; last = last }

  abbrev behind_later : List (Event Label)
  behind_later = later_lands ++ last_reserves ++ last_begins last ++ last_writes ++ first_goes_home

  abbrev behind_both : List (Event Label)
  behind_both = later_reserves ++ later_begins later ++ behind_later

  -- what is told before each part of the history in which the map moves
  abbrev past_filled : BoxPast
  past_filled = past_from TWO_RINGS (own_begins own ++ other_begins other ++ both_fill) reserved_past

  abbrev past_ended : BoxPast
  past_ended = past_from TWO_RINGS both_land past_filled

  abbrev past_later : BoxPast
  past_later = past_from TWO_RINGS (later_begins later) (past_from TWO_RINGS later_reserves past_ended)

  abbrev past_last : BoxPast
  past_last = past_from TWO_RINGS later_lands past_later

  both_take : SpaceGoes TWO_RINGS both_reserve (first_past 0) (map_of Free Free Free Free) (map_of Granted Free Granted Free)
  both_take = (
    record { next = map_of Free Free Free Free; does = refl },
    (
      record {
        next = map_of Granted Free Free Free;
        does = record { inodes = first_inodes; blocks = first_blocks; least = refl };
      },
      (
        record { next = map_of Granted Free Free Free; does = refl },
        (
          record { next = map_of Granted Free Free Free; does = refl },
          (
            record { next = map_of Granted Free Free Free; does = refl },
            (
              record {
                next = map_of Granted Free Granted Free;
                does = record { inodes = second_inodes; blocks = second_blocks; least = refl };
              },
              (
                record { next = map_of Granted Free Granted Free; does = refl },
                (
                  record { next = map_of Granted Free Granted Free; does = refl },
                  refl,
                ),
              ),
            ),
          ),
        ),
      ),
    ),
  )

  both_end_grants : SpaceGoes TWO_RINGS both_land past_filled (map_of Granted Free Granted Free) (map_of Taken Free Taken Free)
  both_end_grants = (
    record { next = map_of Granted Free Granted Free; does = refl },
    (
      record { next = map_of Granted Free Granted Free; does = refl },
      (
        record { next = map_of Granted Free Granted Free; does = refl },
        (
          record { next = map_of Granted Free Granted Free; does = refl },
          (
            record { next = map_of Granted Free Granted Free; does = refl },
            (
              record { next = map_of Granted Free Granted Free; does = refl },
              (
                record { next = map_of Granted Free Granted Free; does = refl },
                (
                  record { next = map_of Granted Free Granted Free; does = refl },
                  (
                    record {
                      next = map_of Granted Free Taken Free;
                      does = record {
                        own = record { commit = _; among = inr (inl refl); number_is = refl };
                        inodes = second_ends_inodes;
                        blocks = second_ends_blocks;
                      };
                    },
                    (
                      record {
                        next = map_of Taken Free Taken Free;
                        does = record {
                          own = record { commit = _; among = inl refl; number_is = refl };
                          inodes = first_ends_inodes;
                          blocks = first_ends_blocks;
                        };
                      },
                      (
                        record { next = map_of Taken Free Taken Free; does = refl },
                        (
                          record { next = map_of Taken Free Taken Free; does = refl },
                          (
                            record { next = map_of Taken Free Taken Free; does = refl },
                            (
                              record { next = map_of Taken Free Taken Free; does = refl },
                              (
                                record { next = map_of Taken Free Taken Free; does = refl },
                                refl,
                              ),
                            ),
                          ),
                        ),
                      ),
                    ),
                  ),
                ),
              ),
            ),
          ),
        ),
      ),
    ),
  )

  later_takes : SpaceGoes TWO_RINGS later_reserves past_ended (map_of Taken Free Taken Free) (map_of Taken Granted Taken Free)
  later_takes = (
    record { next = map_of Taken Free Taken Free; does = refl },
    (
      record {
        next = map_of Taken Granted Taken Free;
        does = record { inodes = third_inodes; blocks = third_blocks; least = refl };
      },
      (
        record { next = map_of Taken Granted Taken Free; does = refl },
        (
          record { next = map_of Taken Granted Taken Free; does = refl },
          refl,
        ),
      ),
    ),
  )

  later_ends : SpaceGoes TWO_RINGS later_lands past_later (map_of Taken Granted Taken Free) (map_of Free Taken Taken Free)
  later_ends = (
    record { next = map_of Taken Granted Taken Free; does = refl },
    (
      record { next = map_of Taken Granted Taken Free; does = refl },
      (
        record { next = map_of Taken Granted Taken Free; does = refl },
        (
          record { next = map_of Taken Granted Taken Free; does = refl },
          (
            record { next = map_of Taken Granted Taken Free; does = refl },
            (
              record { next = map_of Taken Granted Taken Free; does = refl },
              (
                record { next = map_of Taken Granted Taken Free; does = refl },
                (
                  record { next = map_of Taken Granted Taken Free; does = refl },
                  (
                    record {
                      next = map_of Free Taken Taken Free;
                      does = record {
                        own = record { commit = _; among = inl refl; number_is = refl };
                        inodes = third_ends_inodes;
                        blocks = third_ends_blocks;
                      };
                    },
                    (
                      record { next = map_of Free Taken Taken Free; does = refl },
                      (
                        record { next = map_of Free Taken Taken Free; does = refl },
                        refl,
                      ),
                    ),
                  ),
                ),
              ),
            ),
          ),
        ),
      ),
    ),
  )

  last_takes : SpaceGoes TWO_RINGS last_reserves past_last (map_of Free Taken Taken Free) (map_of Granted Taken Taken Free)
  last_takes = (
    record { next = map_of Free Taken Taken Free; does = refl },
    (
      record {
        next = map_of Granted Taken Taken Free;
        does = record { inodes = fourth_inodes; blocks = fourth_blocks; least = refl };
      },
      (
        record { next = map_of Granted Taken Taken Free; does = refl },
        (
          record { next = map_of Granted Taken Taken Free; does = refl },
          refl,
        ),
      ),
    ),
  )

  -- the map goes along
  map_goes : SpaceGoes TWO_RINGS (longer_log all_four) (first_past 0) FREE_MAP LAST_MAP
  map_goes =
      let begun = own_begins own ++ other_begins other ++ both_fill in
      let end = last_begins last ++ last_writes ++ first_goes_home in
      goes_both TWO_RINGS (begun ++ both_land ++ behind_both) (map_of Granted Free Granted Free) LAST_MAP both_reserve (first_past 0) FREE_MAP both_take
      (goes_both TWO_RINGS (both_land ++ behind_both) (map_of Granted Free Granted Free) LAST_MAP begun reserved_past (map_of Granted Free Granted Free)
      (quiet_goes TWO_RINGS begun reserved_past (map_of Granted Free Granted Free) refl)
      (goes_both TWO_RINGS behind_both (map_of Taken Free Taken Free) LAST_MAP both_land past_filled (map_of Granted Free Granted Free) both_end_grants
      (goes_both TWO_RINGS (later_begins later ++ behind_later) (map_of Taken Granted Taken Free) LAST_MAP later_reserves past_ended
      (map_of Taken Free Taken Free) later_takes
      (goes_both TWO_RINGS behind_later (map_of Taken Granted Taken Free) LAST_MAP (later_begins later) (past_from TWO_RINGS later_reserves past_ended)
      (map_of Taken Granted Taken Free)
      (quiet_goes TWO_RINGS (later_begins later) (past_from TWO_RINGS later_reserves past_ended) (map_of Taken Granted Taken Free) refl)
      (goes_both TWO_RINGS (last_reserves ++ end) (map_of Free Taken Taken Free) LAST_MAP later_lands past_later (map_of Taken Granted Taken Free) later_ends
      (goes_both TWO_RINGS end (map_of Granted Taken Taken Free) LAST_MAP last_reserves past_last (map_of Free Taken Taken Free) last_takes
      (quiet_goes TWO_RINGS end (past_from TWO_RINGS last_reserves past_last) (map_of Granted Taken Taken Free) refl)))))))

pub lingering_slots_can_be_met : LingeringSlotsCanBeMet
lingering_slots_can_be_met all are = record {
  may = longer_may all.own all.other all.later all.last are.own are.other are.later are.last;
  no_inodes = none_granted_yet;
  no_blocks = none_granted_yet;
  goes = map_goes all.own all.other all.later all.last;
}
