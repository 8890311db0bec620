-- The nodes that an fsync touches were there as one of the parts was noted.
use Rattle.std.proofs.Common.{ℕ}
use Rattle.cut_laws.specs.Rules.{IsOneOf}
use Rattle.look_laws.specs.Look.{Born, Gathers, Touches, member}
use Rattle.note_laws.specs.Run.{TableRun, IsTableRun}
use Rattle.note_laws.specs.There.{look_noted, SawBirth, GathersByNotes, WasThere}
use Rattle.note_laws.proofs.There.{touched_were_there}
use Rattle.made_laws.specs.Made.{CoreMaking, CoreMade}

-- what a core made it gathered by its notes
gathers_by_notes : (run : TableRun) (making : CoreMaking) → IsTableRun run → CoreMade run making → GathersByNotes run making.noted making.gathered
gathers_by_notes run making is made = record {
  sound = is.sound;
  legal = is.legal;
  some_core = made.some_core;
  notes = made.notes;
  merged = made.gathers.merged;
  births = born_of;
}
  where
    born_of : (born : Born) → IsOneOf (look_noted making.noted making.gathered).born born → Gathers (look_noted making.noted making.gathered) born.node
        → SawBirth making.noted born
    born_of born one gathers =
        let seen = made.gathers.seen born.node ((made.concern_is.nodes.each born.node).1 (member born.node gathers)) in
        record { value = seen.0; seen = seen.1.seen; made_in = (seen.1.born born.directory).0 one }

pub touched_there : (run : TableRun) (making : CoreMaking) → IsTableRun run → CoreMade run making → (node : ℕ)
    → Touches (look_noted making.noted making.gathered) node → WasThere run making.noted node
touched_there run making is made node touches =
    touched_were_there run making.noted making.gathered node (gathers_by_notes run making is made) touches
