-- Worked records of two cores: one with both commits aloft at a time, and one for each way that the turns of an fsync go.
use Rattle.std.specs.Prelude.{◌≡◌, ◌<◌, ◌∷◌, ℕ, true, List, [], take, map, Option, Some, None}
use Rattle.std.specs.FinMap.{from_sorted}
use Rattle.sfs_base.specs.declared.numbers.Kind.TheVariants.{Directory}
use Rattle.tree_laws.specs.Tree.{TreeState}
use Rattle.tree_laws.specs.declared.call.Call.TheVariants as call
use Rattle.tree_laws.specs.declared.history.Entry.{Entry}
use Rattle.tree_laws.specs.declared.reply.Reply.{Reply}
use Rattle.tree_laws.specs.declared.reply.Reply.TheVariants as reply
use Rattle.tree_laws.specs.declared.turns.Turn.{Turn}
use Rattle.tree_laws.specs.declared.turns.TurnAct.{TurnAct}
use Rattle.tree_laws.specs.declared.turns.TurnAct.TheVariants as act
use Rattle.tree_laws.specs.History.{IsLegal}
use Rattle.turn_laws.specs.Ways.{Way, no_turn, lacked, returned, committed, at_once, doubted, opened_doubted, halted, granted_halted, begun_halted, opened_halted, acts_of_way, answer_of, own_turns}
use Rattle.merge_laws.specs.LeftByTurns.{TimesRise}
use Rattle.merge_laws.specs.Pens.{FsyncTurns, AgreesAll}
use Rattle.merge_laws.specs.Plays.{durables, Plays}

-- a tree of two cores: a root in which "a" names a directory
abbrev pub TWO_CORES : TreeState
TWO_CORES = record {
  rows = from_sorted (((0, 97 ∷ []), 1) ∷ []);
  nodes = from_sorted ((0, record { kind = Directory; bytes = [] }) ∷ (1, record { kind = Directory; bytes = [] }) ∷ []);
  first = 2;
  share = 1;
  made = 0 ∷ 0 ∷ [];
}

-- an fsync of that directory by the first core, and behind it one of the root by the second
abbrev pub own_fsync : Reply → Option ℕ → Entry
own_fsync given ack =
    record { stamp = record { 0 = 0 }; core = record { 0 = 0 }; call = call.Fsync (record { 0 = 1 }); reply = given; ack = ack }

abbrev pub other_fsync : Reply → Option ℕ → Entry
other_fsync given ack =
    record { stamp = record { 0 = 1 }; core = record { 0 = 1 }; call = call.Fsync (record { 0 = 0 }); reply = given; ack = ack }

-- a turn of each, at a moment and with a count of faults; the commit of the first core is the first
abbrev pub own_turn : ℕ → ℕ → TurnAct → Turn
own_turn now faults did = record {
  core = record { 0 = 0 };
  node = record { 0 = 1 };
  stamp = record { 0 = 0 };
  commit = 1;
  now = now;
  faults = faults;
  act = did;
}

abbrev pub other_turn : ℕ → ℕ → TurnAct → Turn
other_turn now faults did = record {
  core = record { 0 = 1 };
  node = record { 0 = 0 };
  stamp = record { 0 = 1 };
  commit = 2;
  now = now;
  faults = faults;
  act = did;
}

-- both are answered Ok, the second sooner
abbrev pub BOTH_HISTORY : List Entry
BOTH_HISTORY = own_fsync reply.Ok (Some 8) ∷ other_fsync reply.Ok (Some 5) ∷ []

-- both commits are aloft at a time, and the second ends first
abbrev pub BOTH_TURNS : List Turn
BOTH_TURNS =
    own_turn 0 0 act.Granted
    ∷ other_turn 0 0 act.Granted
    ∷ own_turn 0 0 act.CutAt
    ∷ other_turn 0 0 act.CutAt
    ∷ other_turn 3 0 act.Opened
    ∷ own_turn 4 0 act.Opened
    ∷ other_turn 5 0 act.Durable
    ∷ own_turn 8 0 act.Durable
    ∷ []

-- what each pen has of them
abbrev pub BOTH_OWN : List Turn
BOTH_OWN = own_turn 0 0 act.Granted ∷ own_turn 0 0 act.CutAt ∷ own_turn 4 0 act.Opened ∷ own_turn 8 0 act.Durable ∷ []

abbrev pub BOTH_OTHER : List Turn
BOTH_OTHER = other_turn 0 0 act.Granted ∷ other_turn 0 0 act.CutAt ∷ other_turn 3 0 act.Opened ∷ other_turn 5 0 act.Durable ∷ []

abbrev pub BOTH_PENS : List (List FsyncTurns)
BOTH_PENS = (record { stamp = 0; turns = BOTH_OWN } ∷ []) ∷ (record { stamp = 1; turns = BOTH_OTHER } ∷ []) ∷ []

-- All cores agree there with their pens, moments don't fall, both commits are aloft behind the sixth turn, and the second is durable first.
pub record TwoPensAgree : Type 0 where
  pub legal : IsLegal TWO_CORES BOTH_HISTORY
  pub agrees : AgreesAll TWO_CORES BOTH_HISTORY 0 0 BOTH_TURNS BOTH_PENS
  pub rises : TimesRise BOTH_TURNS
  pub both : Plays (take 6 BOTH_TURNS)
      (record { done = []; waiting = []; aloft = record { stamp = 0; opened = true } ∷ record { stamp = 1; opened = true } ∷ []; failed = None })
  pub ends : durables BOTH_TURNS ≡ record { node = 0; stamp = 1 } ∷ record { node = 1; stamp = 0 } ∷ []

-- the moment at which a commit that goes this way is durable
abbrev pub worked_ack : Way → Option ℕ
worked_ack committed = Some 3
worked_ack at_once = Some 3
worked_ack _ = None

-- how the other fsync is answered: the disk fails its commit where the own one is to halt, and it is refused memory elsewhere
abbrev pub other_answer : Way → Reply
other_answer (halted faults) = reply.DiskFailed
other_answer (granted_halted faults) = reply.DiskFailed
other_answer (begun_halted faults) = reply.DiskFailed
other_answer (opened_halted faults) = reply.DiskFailed
other_answer _ = reply.NoMemory

-- the history in which the own fsync goes this way
abbrev pub worked_history : Way → List Entry
worked_history way = own_fsync (answer_of way) (worked_ack way) ∷ other_fsync (other_answer way) None ∷ []

-- the turns of a commit of the other fsync that fails with a count of faults
abbrev pub failing_turns : ℕ → List Turn
failing_turns faults = other_turn 1 0 act.Granted ∷ other_turn 1 0 act.CutAt ∷ other_turn 2 faults act.Fail ∷ []

-- the count of faults of the failure there
abbrev pub worked_faults : Way → ℕ
worked_faults (halted faults) = faults
worked_faults (granted_halted faults) = faults
worked_faults (begun_halted faults) = faults
worked_faults (opened_halted faults) = faults
worked_faults _ = 1

-- the own turns, and those of the other fsync
abbrev pub worked_own : Way → List Turn
worked_own no_turn = []
worked_own (lacked kind need free) = own_turn 0 0 (act.Short kind need free) ∷ []
worked_own returned = own_turn 0 0 act.Granted ∷ own_turn 1 0 act.GivenBack ∷ []
worked_own committed = own_turn 0 0 act.Granted ∷ own_turn 1 0 act.CutAt ∷ own_turn 2 0 act.Opened ∷ own_turn 3 0 act.Durable ∷ []
worked_own at_once = own_turn 3 0 act.CutAt ∷ own_turn 3 0 act.Opened ∷ own_turn 3 0 act.Durable ∷ []
worked_own doubted = own_turn 0 0 act.Granted ∷ own_turn 1 0 act.CutAt ∷ own_turn 2 1 act.Fail ∷ []
worked_own opened_doubted = own_turn 0 0 act.Granted ∷ own_turn 1 0 act.CutAt ∷ own_turn 2 0 act.Opened ∷ own_turn 3 1 act.Fail ∷ []
worked_own (halted faults) = own_turn 2 faults act.Halted ∷ []
worked_own (granted_halted faults) = own_turn 0 0 act.Granted ∷ own_turn 2 faults act.Halted ∷ []
worked_own (begun_halted faults) = own_turn 0 0 act.Granted ∷ own_turn 0 0 act.CutAt ∷ own_turn 2 faults act.Halted ∷ []
worked_own (opened_halted faults) =
    own_turn 0 0 act.Granted ∷ own_turn 0 0 act.CutAt ∷ own_turn 0 0 act.Opened ∷ own_turn 2 faults act.Halted ∷ []

abbrev pub worked_other : Way → List Turn
worked_other (halted faults) = failing_turns faults
worked_other (granted_halted faults) = failing_turns faults
worked_other (begun_halted faults) = failing_turns faults
worked_other (opened_halted faults) = failing_turns faults
worked_other _ = []

-- the record of both: the other commit fails before the own fsync halts
abbrev pub worked_turns : Way → List Turn
worked_turns (halted faults) =
    other_turn 1 0 act.Granted ∷ other_turn 1 0 act.CutAt ∷ other_turn 2 faults act.Fail ∷ own_turn 2 faults act.Halted ∷ []
worked_turns (granted_halted faults) =
    own_turn 0 0 act.Granted
    ∷ other_turn 1 0 act.Granted ∷ other_turn 1 0 act.CutAt ∷ other_turn 2 faults act.Fail ∷ own_turn 2 faults act.Halted ∷ []
worked_turns (begun_halted faults) =
    own_turn 0 0 act.Granted
    ∷ own_turn 0 0 act.CutAt
    ∷ other_turn 1 0 act.Granted ∷ other_turn 1 0 act.CutAt ∷ other_turn 2 faults act.Fail ∷ own_turn 2 faults act.Halted ∷ []
worked_turns (opened_halted faults) =
    own_turn 0 0 act.Granted
    ∷ own_turn 0 0 act.CutAt
    ∷ own_turn 0 0 act.Opened
    ∷ other_turn 1 0 act.Granted ∷ other_turn 1 0 act.CutAt ∷ other_turn 2 faults act.Fail ∷ own_turn 2 faults act.Halted ∷ []
worked_turns way = worked_own way

-- what a pen has of its one fsync
abbrev pub pen_with : ℕ → List Turn → List FsyncTurns
pen_with stamp [] = []
pen_with stamp (turn ∷ turns) = record { stamp = stamp; turns = turn ∷ turns } ∷ []

abbrev pub worked_pens : Way → List (List FsyncTurns)
worked_pens way = pen_with 0 (worked_own way) ∷ pen_with 1 (worked_other way) ∷ []

-- All cores agree with their pens where an fsync goes this way.
pub record WayIsMet (way : Way) : Type 0 where
  pub legal : IsLegal TWO_CORES (worked_history way)
  pub agrees : AgreesAll TWO_CORES (worked_history way) 0 (worked_faults way) (worked_turns way) (worked_pens way)
  pub goes : map (λ turn. turn.act) (own_turns 0 (worked_turns way)) ≡ acts_of_way way

-- So it is for each way, where a count of faults that has risen is not 0.
abbrev pub EachWayIsMet : Type 0
EachWayIsMet = (way : Way) → 0 < worked_faults way → WayIsMet way
