-- The turns of both fsyncs: both commits are aloft at a time, and the second one ends first.
use Rattle.std.specs.Prelude.{ℕ, ◌∷◌, List, []}
use Rattle.tree_laws.specs.declared.turns.Turn.{Turn}
use Rattle.tree_laws.specs.declared.turns.TurnAct.{TurnAct}
use Rattle.tree_laws.specs.declared.turns.TurnAct.TheVariants as act
use Rattle.merge_laws.specs.Pens.{FsyncTurns}

-- a turn of each, at a moment
abbrev pub own_act : ℕ → TurnAct → Turn
own_act now did = record {
  core = record { 0 = 0 };
  node = record { 0 = 1 };
  stamp = record { 0 = 2 };
  commit = 1;
  now = now;
  faults = 0;
  act = did;
}

abbrev pub other_act : ℕ → TurnAct → Turn
other_act now did = record {
  core = record { 0 = 1 };
  node = record { 0 = 2 };
  stamp = record { 0 = 3 };
  commit = 2;
  now = now;
  faults = 0;
  act = did;
}

-- both reserve; both commits are opened; and the second one is durable before the first one
abbrev pub FILES_TURNS : List Turn
FILES_TURNS =
    own_act 0 act.Granted
    ∷ other_act 0 act.Granted
    ∷ other_act 10 act.CutAt
    ∷ other_act 10 act.Opened
    ∷ own_act 11 act.CutAt
    ∷ own_act 11 act.Opened
    ∷ other_act 12 act.Durable
    ∷ own_act 13 act.Durable
    ∷ []

-- what each pen has of them
abbrev pub OWN_TURNS : List Turn
OWN_TURNS = own_act 0 act.Granted ∷ own_act 11 act.CutAt ∷ own_act 11 act.Opened ∷ own_act 13 act.Durable ∷ []

abbrev pub OTHER_TURNS : List Turn
OTHER_TURNS = other_act 0 act.Granted ∷ other_act 10 act.CutAt ∷ other_act 10 act.Opened ∷ other_act 12 act.Durable ∷ []

abbrev pub FILES_PENS : List (List FsyncTurns)
FILES_PENS = (record { stamp = 2; turns = OWN_TURNS } ∷ []) ∷ (record { stamp = 3; turns = OTHER_TURNS } ∷ []) ∷ []
