-- What a plan says of a turn in the midst of a record: its need, what it reserves or lacks, and what its commit leaves.
use Rattle.std.proofs.Common.{◌≡◌, ℕ, [], refl, sym, subst}
use Rattle.sfs_base.specs.declared.numbers.SpaceKind.{SpaceKind}
use Rattle.cut_laws.specs.Closure.{Flush}
use Rattle.flush_laws.specs.Planned.{IsPlannedFsync}
use Rattle.flush_laws.specs.Volume.{OneFsync}
use Rattle.tree_laws.specs.declared.turns.Turn.{Turn}
use Rattle.turn_laws.specs.Books.{free_in, IsShortOf, flush_at, LacksRoom, Leaves}
use Rattle.turn_laws.specs.Need.{IsMadeBy, IsNeed}
use Rattle.turn_ties.specs.Plans.{image_held, image_once_left, Planning, planning_of, made_of, amount_planned, HasTouchedPages}
use Rattle.turn_ties.proofs.Leaves.{leaves}
use Rattle.turn_ties.proofs.Made.{plans_are_made}
use Rattle.turn_ties.proofs.Needs.{needs_are_the_books}
use Rattle.volume_laws.specs.Volume.{IsVolumeStanding}
use Rattle.book_laws.specs.Midway.{Midway, machine_beside, books_beside, books_granted, PlansTurn}

module _ (midway : Midway) (planning : Planning) (turn : Turn) (plans : PlansTurn midway.volume planning turn) where
  pub made_there : IsMadeBy (machine_beside midway) (flush_at turn) (made_of planning)
  made_there =
      let made = plans_are_made midway.volume [] planning plans.has in
      subst (λ (f : Flush). IsMadeBy (machine_beside midway) f (made_of planning)) plans.own
      (record { concerned = made.concerned; raises = made.raises; inodes_after = made.inodes_after; each_net = made.each_net })

  pub need_there : IsNeed (machine_beside midway) (image_held midway.volume) (flush_at turn) (amount_planned planning.plan)
  need_there = record {
    made = made_of planning;
    is_made = made_there;
    counted = sym (needs_are_the_books midway.volume [] planning plans.has plans.touched);
  }

  pub lacks_there : (kind : SpaceKind) (asked have : ℕ)
      → IsShortOf (amount_planned planning.plan) (free_in (books_granted midway.volume midway.grants)) kind asked have
      → LacksRoom kind asked have (books_beside midway) turn (books_beside midway)
  lacks_there kind asked have short = record { need = amount_planned planning.plan; needs = need_there; short = short; later_is = refl }

-- What a planned fsync leaves of the image, with what it was granted.
pub leaves_there : (midway : Midway) (one : OneFsync) → IsVolumeStanding midway.volume → IsPlannedFsync midway.volume one
    → HasTouchedPages midway.volume (planning_of one)
    → Leaves (machine_beside midway) (made_of (planning_of one)) one.grant.inodes (image_held midway.volume) (image_once_left midway.volume one)
leaves_there midway one stands planned touched =
    let left = leaves midway.volume [] one stands planned touched in
    record {
      takes = left.takes;
      fresh = left.fresh;
      commits = left.commits;
      gives = record {
        entering = left.gives.entering;
        ascending = left.gives.ascending;
        each = left.gives.each;
        enough = left.gives.enough;
        numbers = left.gives.numbers;
      };
      rewrites = λ node i place numbered concerned low.
          let its = left.rewrites node i place numbered concerned low in record { taken = its.taken; pointer = its.pointer };
      lies = left.lies;
      first_block = left.first_block;
      end_block = left.end_block;
    }

-- a planned fsync has its plan
pub planned_has : (midway : Midway) (one : OneFsync) (turn : Turn) → IsVolumeStanding midway.volume → IsPlannedFsync midway.volume one
    → HasTouchedPages midway.volume (planning_of one) → one.flush ≡ flush_at turn → PlansTurn midway.volume (planning_of one) turn
planned_has midway one turn stands planned touched own = record {
  has = record { stands = stands; keeps = planned.keeps; raises = planned.raises; inodes_after = planned.inodes_after; plans = planned.plans };
  touched = touched;
  own = own;
}
