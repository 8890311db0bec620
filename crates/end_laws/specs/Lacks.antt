-- What a core made for an fsync that is refused for want of space, and that the turns of a mount tell so.
use Rattle.std.specs.Prelude.{◌≡◌, ◌++◌, ◌∷◌, ◌<◌, ◌^◌, ◌≤◌, List, ℕ, Some, count_by}
use Rattle.sfs_base.specs.declared.numbers.CoreId.{CoreId}
use Rattle.space_map.specs.declared.fault.SpaceFault.TheVariants.{NoSpace}
use Rattle.space_map.specs.Space.{Space, shortage}
use Rattle.tree_laws.specs.declared.turns.Turn.{Turn}
use Rattle.tree_laws.specs.declared.turns.TurnAct.TheVariants as act
use Rattle.disk_change.specs.Planned.{enters}
use Rattle.cut_laws.specs.Rules.{IsOneOf}
use Rattle.turn_laws.specs.Books.{flush_at}
use Rattle.turn_laws.specs.Recorded.{IsRecorded}
use Rattle.turn_ties.specs.Plans.{image_held}
use Rattle.book_laws.specs.Along.{LackTold}
use Rattle.stamp_table.specs.declared.event.Event.{Event}
use Rattle.stamp_table.specs.declared.event.Event.TheVariants.{Told}
use Rattle.made_laws.specs.Made.{CoreMaking, making_flush, MadeEitherWay}
use Rattle.slot_laws.specs.declared.label.Seen.{Seen}
use Rattle.slot_laws.specs.declared.label.Label.{Label}
use Rattle.slot_laws.specs.declared.label.Label.TheVariants as label
use Rattle.slot_laws.specs.Nodes.{last_seen, last_ended}
use Rattle.slot_laws.specs.Labels.{past_from, first_past}
use Rattle.slot_laws.specs.Grants.{SpaceGoes}
use Rattle.close_laws.specs.Maps.{past_of, Numbered}
use Rattle.fsync_commit.specs.Asked.{need_planned}
use Rattle.flush_agrees.specs.Made.{SeesConcerned}
use Rattle.end_laws.specs.Mount.{MountEnd, run_at, MountEnds, AreNamedAlong}
use Rattle.end_laws.specs.Recorded.{LacksAreTold}

-- What a core made for the fsync of a turn, as a mount ends, by a plan with no more new inodes than a word counts; and the place of its labels where the
-- turn was noted: the nodes that the fsync concerns had not moved there, and a map that has gone along the labels up to there has too little of this for what
-- the plan needs.
pub record LackMade (at : MountEnd) (turn : Turn) (told : LackTold) : Type 0 where
  pub making : CoreMaking
  pub made_in : MadeEitherWay (run_at at) making
  pub flush_is : making_flush making ≡ flush_at turn
  pub seen : List Seen
  pub sees : SeesConcerned making seen
  pub front : List (Event Label)
  pub core : CoreId
  pub back : List (Event Label)
  pub whole : at.told.log ≡ front ++ Told core (label.Noted turn) ∷ back
  pub unmoved : (node last : ℕ) → last_seen seen node ≡ Some last
      → (past_from at.told.layout front (first_past at.told.moment)).lasts node ≡ last_ended last
  pub space : Space
  pub goes : SpaceGoes at.told.layout front (first_past at.told.moment) at.told.first space
  pub inodes : count_by enters making.plan.change.seats < 2 ^ 32
  pub short : shortage space (need_planned making.plan.change) ≡ Some (NoSpace told.kind told.asked told.have)

-- So it is of each turn that tells a shortage.
abbrev pub LacksAreMade : MountEnd → Type 0
LacksAreMade at = (turn : Turn) (told : LackTold) → IsOneOf (past_of at.told).turns turn → turn.act ≡ act.Short told.kind told.asked told.have
    → LackMade at turn told

-- Then each tells what was so at its place of the turns.
abbrev pub MadeLacksAreTold : Type 0 → Type 0
MadeLacksAreTold D = (at : MountEnd) (named : Numbered) (most : ℕ) → MountEnds D at → AreNamedAlong at named
    → ((turn : Turn) → IsOneOf (past_of at.told).turns turn → turn.faults ≤ most) → LacksAreMade at → LacksAreTold at named

-- What cores and pens agree on at the end of a mount is that.
abbrev pub LacksAreAgreed : Type 0 → Type 0
LacksAreAgreed D = (at : MountEnd) → MountEnds D at → LacksAreMade at

-- So the turns of each mount are recorded as it ends, between any count of faults up to that of its begin and any last one that no turn is above.
abbrev pub AgreedMountsAreRecorded : Type 0 → Type 0
AgreedMountsAreRecorded D = (at : MountEnd) (entry_faults most : ℕ) → MountEnds D at → entry_faults ≤ at.told.before
    → ((turn : Turn) → IsOneOf (past_of at.told).turns turn → turn.faults ≤ most)
    → IsRecorded at.start.first at.start.history (image_held at.start) entry_faults most (past_of at.told).turns
