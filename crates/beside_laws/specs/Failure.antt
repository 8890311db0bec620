-- A commit that is left in doubt: what stands behind its failure, and what a crash keeps.
use Rattle.std.specs.Prelude.{◌≡◌, ℕ, ◌==◌, Bool, true, List, [], ◌++◌, filter, Option, Some}
use Rattle.std.specs.List.{list_any}
use Rattle.sfs_base.specs.Lists.{Roomy}
use Rattle.cut_laws.specs.declared.event.Event.{Event}
use Rattle.cut_laws.specs.declared.event.Event.TheVariants as event
use Rattle.cut_laws.specs.Cut.{Cut}
use Rattle.cut_laws.specs.Machine.{MachineState, Accepts, goes_on}
use Rattle.cut_laws.specs.Rules.{IsOneOf}
use Rattle.beside_laws.specs.Progress.{Standing}
use Rattle.beside_laws.specs.Steps.{Flown, commits_of, RecordPlace, machine_amid, IsMidst, IsLegalRun}

-- the machine at a place of the record, with the first commit that was left in doubt, if there is one: all that was open is open still
abbrev pub machine_in_doubt : RecordPlace → Option ℕ → MachineState
machine_in_doubt place failed = record (machine_amid place) { failed = failed }

-- A commit that flies may fail at any time: the machine takes it and has its number in mind. From then on no commit begins, none is opened and
-- none becomes durable; one more that fails changes nothing.
pub record LeavesInDoubt (place : RecordPlace) (number : ℕ) : Type 0 where
  pub taken : Accepts (machine_amid place) (event.Fail number) (machine_in_doubt place (Some number))
  pub stopped : (e : Event) (next : MachineState) → goes_on e ≡ true → Accepts (machine_in_doubt place (Some number)) e next → ⊥
  pub again : (other : Flown) → IsOneOf place.flying other
      → Accepts (machine_in_doubt place (Some number)) (event.Fail other.commit.number) (machine_in_doubt place (Some number))

abbrev pub CommitsFail : Type 0
CommitsFail = (place : RecordPlace) (flown : Flown) → IsOneOf place.flying flown → IsMidst place → LeavesInDoubt place flown.commit.number

-- the flown commits that have one of these numbers
abbrev pub flown_with : RecordPlace → List ℕ → List Flown
flown_with place numbers = filter (λ flown. list_any (λ number. number == flown.commit.number) numbers) place.flying

-- Each of these numbers is that of a commit that was opened.
abbrev pub AreOpened : RecordPlace → List ℕ → Type 0
AreOpened place numbers =
    (number : ℕ) → IsOneOf numbers number → (flown : Flown) × IsOneOf place.flying flown × (flown.commit.number ≡ number) × (flown.opened ≡ true)

-- A crash keeps some commits of those that fly: the machine takes it, to a state in which no commit is open, and all stands with these commits
-- done beside those that were.
pub record CrashKeeps (place : RecordPlace) (failed : Option ℕ) (kept : Roomy ℕ) : Type 0 where
  pub cut : Cut
  pub inodes : ℕ → Bool
  pub taken : Accepts (machine_in_doubt place failed) (event.Crash kept)
      (record (machine_in_doubt place failed) { cut = cut; inodes = inodes; flights = []; crashed = true })
  pub stands : Standing (record place.run { done = place.run.done ++ commits_of (flown_with place kept.items); cut = cut; inodes = inodes })

-- It may keep any opened ones, whether a commit was left in doubt or none was, that one too.
abbrev pub CrashesKeep : Type 0
CrashesKeep =
    (place : RecordPlace) (failed : Option ℕ) (kept : Roomy ℕ) → IsLegalRun place.run → IsMidst place → AreOpened place kept.items
    → CrashKeeps place failed kept
