-- The nodes that an fsync touches by what a core gathered of its notes.
use Rattle.std.specs.Prelude.{◌≡◌, ℕ, ◌<◌, length, Some}
use Rattle.tree_laws.specs.NameRow.{number_of}
use Rattle.tree_laws.specs.History.{tree_after, IsLegal}
use Rattle.tree_laws.specs.Laws.{IsSoundTree}
use Rattle.cut_laws.specs.Rules.{IsOneOf}
use Rattle.look_laws.specs.Look.{Look, Born, Gathers, Touches}
use Rattle.dep_closure.specs.declared.gathered.Gathered.{Gathered}
use Rattle.dep_closure.specs.Gathered.{look_of}
use Rattle.mem_values.specs.declared.cell.Pending.{Pending}
use Rattle.home_laws.specs.Laws.{IsNodeOf}
use Rattle.note_laws.specs.Run.{TableRun, calls_of}
use Rattle.note_laws.specs.Notes.{CoreNotes, calls_noted, HasNotedAll}
use Rattle.note_laws.specs.Merged.{AreMergedFor}

-- the look of what was gathered for the fsync of a core's notes
abbrev pub look_noted : CoreNotes → Gathered → Look
look_noted noted gathered = look_of (record { 0 = noted.node }) (record { 0 = noted.stamp }) gathered

-- What the core saw of a node tells that it was made in a directory.
pub record SawBirth (noted : CoreNotes) (born : Born) : Type 0 where
  pub value : Pending
  pub seen : noted.pending born.node ≡ Some value
  pub made_in : number_of value.made_in ≡ Some born.directory

-- A core gathered by its notes, of legal calls from a sound tree with some core: it noted all parts, the changes of directories are merged of copies of these, and of
-- each member where it was made is what the core saw of it.
pub record GathersByNotes (run : TableRun) (noted : CoreNotes) (gathered : Gathered) : Type 0 where
  pub sound : IsSoundTree run.first
  pub legal : IsLegal run.first (calls_of run)
  pub some_core : 0 < length run.first.made
  pub notes : HasNotedAll run noted
  pub merged : AreMergedFor noted gathered.logs.items
  pub births : (born : Born) → IsOneOf (look_noted noted gathered).born born → Gathers (look_noted noted gathered) born.node → SawBirth noted born

-- A node was one of the tree as a part was noted.
pub record WasThere (run : TableRun) (noted : CoreNotes) (node : ℕ) : Type 0 where
  pub part : ℕ
  pub known : part < length run.first.made
  pub there : IsNodeOf (tree_after run.first (calls_noted noted part)) node

-- Each node that the fsync touches was.
abbrev pub TouchedWereThere : Type 0
TouchedWereThere = (run : TableRun) (noted : CoreNotes) (gathered : Gathered) (node : ℕ) → GathersByNotes run noted gathered
    → Touches (look_noted noted gathered) node → WasThere run noted node
