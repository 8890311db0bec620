-- What the pens told at the box is by the rules, and the map of free space goes along it.
use Rattle.std.proofs.Common.{◌<◌, ap, arith, inl, refl, suc, zero, ℕ}
use Rattle.merge_laws.proofs.Worked.{of_each}
use Rattle.stamp_table.specs.Events.{event_core}
use Rattle.stamp_table.specs.Rule.{entries_by}
use Rattle.stamp_table.specs.declared.event.Event.{Event}
use Rattle.slot_laws.specs.Grants.{GoesAlong, SpaceDoes, SpaceGoes, SpaceStep}
use Rattle.slot_laws.specs.Labels.{BoxPast, first_past, nothing_told, own_from, past_from}
use Rattle.slot_laws.specs.Laws.{AreOfCores, IsAtRest}
use Rattle.slot_laws.specs.Nodes.{no_last}
use Rattle.slot_laws.specs.Rules.{MayFrom}
use Rattle.slot_laws.specs.declared.label.Label.{Label}
use Rattle.slot_laws.proofs.Comes.{may_both}
use Rattle.slot_laws.proofs.Lawful.{none_by}
use Rattle.slot_laws.proofs.WorkedBegins.{one_unmoved}
use Rattle.example_laws.specs.Image.{TWELVE_BLOCKS}
use Rattle.example_laws.specs.Map.{TWO_TAKEN}
use Rattle.example_laws.proofs.Labels.{ends_nothing, takes_nothing}
use Rattle.example_laws.proofs.Mapped.{nothing_granted}
use Rattle.example_mount.specs.Box.{OTHER_ENDS, OWN_ENDS, TURN_BY_TURN}

-- the second core's commit ends at the fifth call
pub may_other : MayFrom TWELVE_BLOCKS 0 OTHER_ENDS (first_past 5)
may_other = (
  (refl, tt),
  (
    (refl, record { calm = refl; next = refl; none = refl; rests = refl; unmoved = one_unmoved (λ _. no_last) 0 0 refl }),
    (
      (
        refl,
        record {
          calm = refl;
          number = refl;
          flush = record { node = 0; stamp = 1 };
          cut_is = record { did_is = refl; core_is = refl; commit_is = refl; flush_is = refl };
          opened_is = record { did_is = refl; core_is = refl; commit_is = refl; flush_is = refl };
          durable_is = record { did_is = refl; core_is = refl; commit_is = refl; flush_is = refl };
          cut_now = record { rises = omega arith; counts = refl };
          opened_now = (refl, refl);
          durable_now = (refl, refl);
        },
      ),
      ((refl, tt), tt),
    ),
  ),
)

-- and the first one's at the eighth
pub may_own : MayFrom TWELVE_BLOCKS 0 OWN_ENDS (past_from TWELVE_BLOCKS OTHER_ENDS (first_past 5))
may_own = (
  (refl, tt),
  (
    (refl, record { calm = refl; next = refl; none = refl; rests = refl; unmoved = one_unmoved _ 1 0 refl }),
    (
      (
        refl,
        record {
          calm = refl;
          number = refl;
          flush = record { node = 1; stamp = 0 };
          cut_is = record { did_is = refl; core_is = refl; commit_is = refl; flush_is = refl };
          opened_is = record { did_is = refl; core_is = refl; commit_is = refl; flush_is = refl };
          durable_is = record { did_is = refl; core_is = refl; commit_is = refl; flush_is = refl };
          cut_now = record { rises = omega arith; counts = refl };
          opened_now = (refl, refl);
          durable_now = (refl, refl);
        },
      ),
      ((refl, tt), tt),
    ),
  ),
)

pub labels_may : MayFrom TWELVE_BLOCKS 0 TURN_BY_TURN.log (first_past 5)
labels_may = may_both TWELVE_BLOCKS 0 OTHER_ENDS OWN_ENDS (first_past 5) may_other may_own

abbrev stays : (event : Event Label) (past : BoxPast) → SpaceDoes event past TWO_TAKEN TWO_TAKEN → SpaceStep event past TWO_TAKEN
stays event past does = record { next = TWO_TAKEN; does = does }

map_goes : SpaceGoes TWELVE_BLOCKS TURN_BY_TURN.log (first_past 5) TWO_TAKEN TWO_TAKEN
map_goes = (
  stays _ _ refl,
  (
    stays _ _ takes_nothing,
    (
      stays _ _ (ends_nothing _ 1 _ (inl refl) refl refl refl),
      (
        stays _ _ refl,
        (
          stays _ _ refl,
          (stays _ _ takes_nothing, (stays _ _ (ends_nothing _ 2 _ (inl refl) refl refl refl), (stays _ _ refl, refl))),
        ),
      ),
    ),
  ),
)

pub labels_go : GoesAlong TWELVE_BLOCKS 0 5 TURN_BY_TURN.log TWO_TAKEN TWO_TAKEN
labels_go = record { may = labels_may; no_inodes = nothing_granted.inodes; no_blocks = nothing_granted.blocks; goes = map_goes }

-- each label is one of the two cores', which are at rest
pub labels_own : AreOfCores 2 TURN_BY_TURN.log
labels_own = of_each (λ (event : Event Label). event_core event < 2) TURN_BY_TURN.log
    (omega arith, (omega arith, (omega arith, (omega arith, (omega arith, (omega arith, (omega arith, (omega arith, tt))))))))

pub cores_rest : (core : ℕ) → IsAtRest (own_from (entries_by event_core core TURN_BY_TURN.log) nothing_told)
cores_rest zero = inl refl
cores_rest (suc zero) = inl refl
cores_rest (suc (suc core)) =
    inl (ap (λ l. (own_from l nothing_told).flight) (none_by TURN_BY_TURN.log 2 (suc (suc core)) labels_own (omega arith)))
