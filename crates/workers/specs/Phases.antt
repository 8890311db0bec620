-- Phases in one history: the calls of a phase have their stamps behind those of the phases before it.
use Rattle.std.specs.Prelude.{◌≡◌, ℕ, ◌<◌, ◌≤◌, List, [], ◌∷◌, ◌++◌}
use Rattle.std.specs.List.{AllByRecursion}
use Rattle.tree_laws.specs.Tree.{TreeState}
use Rattle.tree_laws.specs.History.{IsLegal}
use Rattle.tree_laws.specs.declared.history.Entry.{Entry}
use Rattle.script.specs.declared.commands.Line.{Line}
use Rattle.script.specs.Walks.{commands_of}
use Rattle.script.specs.Follows.{core_entries, Makes, MakesAll, Follows, FollowsSoFar}

-- entries with stamps below a number
abbrev pub AreBefore : ℕ → List Entry → Type 0
AreBefore number entries = AllByRecursion (λ entry. entry.stamp.0 < number) entries

-- entries with stamps from a number on
abbrev pub AreFrom : ℕ → List Entry → Type 0
AreFrom number entries = AllByRecursion (λ entry. number ≤ entry.stamp.0) entries

-- a history has these entries of each core
abbrev pub HasOwn : (ℕ → List Entry) → List Entry → Type 0
HasOwn own history = (core : ℕ) → core_entries core history ≡ own core

-- Each legal history in which each core has these entries follows the phases.
abbrev pub HasMadePhases : TreeState → (ℕ → List Entry) → List (List Line) → Type 0
HasMadePhases first own phases = (history : List Entry) → IsLegal first history → HasOwn own history → Follows phases history

-- Each such history follows them so far.
abbrev pub HasMadeSoFar : TreeState → (ℕ → List Entry) → List (List Line) → Type 0
HasMadeSoFar first own phases = (history : List Entry) → IsLegal first history → HasOwn own history → FollowsSoFar phases history

-- The cores have run on: each has made further entries of which this holds, and all of these have stamps from a number on which no entry of
-- before has reached.
pub record RanPhase (Holds : ℕ → List Entry → Type 0) (own next : ℕ → List Entry) : Type 0 where
  pub from : ℕ
  pub made : ℕ → List Entry
  pub grown : (core : ℕ) → next core ≡ own core ++ made core
  pub past : (core : ℕ) → AreBefore from (own core)
  pub late : (core : ℕ) → AreFrom from (made core)
  pub holds : (core : ℕ) → Holds core (made core)

-- all calls of each worker of a phase
abbrev pub EndsPhase : List Line → ℕ → List Entry → Type 0
EndsPhase phase core made = MakesAll (commands_of core phase) made

-- calls of each worker of a phase
abbrev pub RunsPhase : List Line → ℕ → List Entry → Type 0
RunsPhase phase core made = Makes (commands_of core phase) made

-- Before any entry no phase has been made.
abbrev pub MadeNothing : Type 0
MadeNothing = (first : TreeState) (own : ℕ → List Entry) → ((core : ℕ) → own core ≡ []) → HasMadePhases first own []

-- A phase that each worker ended is one more.
abbrev pub MadeMore : Type 0
MadeMore = (first : TreeState) (own next : ℕ → List Entry) (phases : List (List Line)) (phase : List Line)
    → RanPhase (EndsPhase phase) own next → HasMadePhases first own phases → HasMadePhases first next (phases ++ phase ∷ [])

-- A phase that not each worker ended is the last one that was begun.
abbrev pub MadePart : Type 0
MadePart = (first : TreeState) (own next : ℕ → List Entry) (phases later : List (List Line)) (phase : List Line)
    → RanPhase (RunsPhase phase) own next → HasMadePhases first own phases → HasMadeSoFar first next (phases ++ phase ∷ later)
