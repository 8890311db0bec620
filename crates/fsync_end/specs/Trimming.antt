-- The logs that an fsync trims once its commit is told, one after another.
use Rattle.std.specs.Prelude.{◌≡◌, ℕ, ◌<◌, List, [], ◌∷◌, ◌++◌, zero, suc, length, reverse, filter_map, Option, Some}
use mathlib.Core.List.{IsPrefix}
use Rattle.tree_laws.specs.Tree.{TreeState}
use Rattle.mem_cells.specs.Part.{CoreLog, IsTrimmedOrBlank}
use Rattle.disk_nodes.specs.OldKept.{OldKept}
use Rattle.cut_laws.specs.Rules.{IsOneOf}
use Rattle.stamp_table.specs.declared.event.Event.{Event}
use Rattle.stamp_table.specs.declared.view.View.{View}
use Rattle.stamp_table.specs.Rule.{entries_by}
use Rattle.stamp_table.specs.Events.{event_core, told_by, IsLawful}
use Rattle.stamp_table.specs.Hand.{places_of}
use Rattle.stamp_table.specs.Ascending.{Falls}
use Rattle.mem_values.specs.Start.{FileHand, FileState}
use Rattle.mem_values.specs.declared.fact.Fact.{Fact}
use Rattle.mem_values.specs.declared.fact.Fact.TheVariants.{Trimmed}
use Rattle.mem_values.specs.declared.fact.HeldNode.{HeldNode}
use Rattle.mem_values.specs.Account.{Commitment, commit_told, trimming_told, account_of, held_by, last_writer}
use Rattle.mem_values.specs.Facts.{IsLawfulLog}

-- A core of a table that holds cells, whose values need not stand for anything yet.
pub record IsFlushing (t : FileState) (hand : FileHand) : Type 0 where
  pub table : hand.table ≡ t.table
  pub first : hand.view.first ≡ t.first
  pub core : hand.view.core < length t.first.made
  pub places : hand.view.held ≡ reverse (places_of hand.held)
  pub falls : Falls hand.view.held

-- A core has told a commit: its number, the stamp of its fsync, and its members.
pub record HasTold (mine : List (Event Fact)) (core number stamp : ℕ) (members : List ℕ) : Type 0 where
  pub commit : Commitment
  pub among : IsOneOf (filter_map commit_told mine) commit
  pub own : commit.core ≡ core
  pub numbered : commit.number ≡ number
  pub stamped : commit.stamp ≡ stamp
  pub members_are : commit.members ≡ members

-- of each of some directories a log keeps no change below a stamp any more, or kept none at all
abbrev pub AreTrimmedOrBlank : CoreLog → List ℕ → ℕ → CoreLog → Type 0
AreTrimmedOrBlank log [] below after = after ≡ log
AreTrimmedOrBlank log (directory ∷ members) below after =
    (between : CoreLog) × IsTrimmedOrBlank log directory below between × AreTrimmedOrBlank between members below after

-- what a core tells when it has trimmed a log for its commit of a number
abbrev pub trim_event : ℕ → ℕ → ℕ → Event Fact
trim_event core number part = told_by core (Trimmed number (record { 0 = part })) 0

-- A core has trimmed a log for its commit of a number, and told so. It holds what it held.
pub record TrimsPart (given : ℕ → Option OldKept) (number part : ℕ) (before after : FileHand) : Type 0 where
  pub frame : record after { view = before.view } ≡ before
  pub view : record after.view { seen = before.view.seen; mine = before.view.mine } ≡ before.view
  pub log : List (Event Fact)
  pub seen : IsPrefix before.view.seen log
  pub last : after.view.seen ≡ log ++ trim_event before.view.core number part ∷ []
  pub mine : after.view.mine ≡ before.view.mine ++ trim_event before.view.core number part ∷ []
  pub lawful : IsLawful (IsLawfulLog given) after.view.first after.view.seen
  pub own : after.view.mine ≡ entries_by event_core after.view.core after.view.seen

-- what a core tells when it has trimmed the first logs, so many of them, for its commit of a number
abbrev pub trim_events : ℕ → ℕ → ℕ → List (Event Fact)
trim_events core number zero = []
trim_events core number (suc count) = trim_events core number count ++ trim_event core number count ∷ []

-- A commit on its way home: what a core told before it, the event that tells it, and the commit.
pub record Homeward : Type 0 where
  pub mine : List (Event Fact)
  pub event : Event Fact
  pub commit : Commitment

-- A core has told a commit, and behind it that the first logs are trimmed for it, so many of them; of no log had it told so before. The commit is
-- the last one of each node that it holds.
pub record IsHomeward (given : ℕ → Option OldKept) (way : Homeward) (count : ℕ) (view : View TreeState (Event Fact)) : Type 0 where
  pub lawful : IsLawful (IsLawfulLog given) view.first view.seen
  pub own : view.mine ≡ entries_by event_core view.core view.seen
  pub tells : commit_told way.event ≡ Some way.commit
  pub is_own : way.commit.core ≡ view.core
  pub mine_is : view.mine ≡ (way.mine ++ way.event ∷ []) ++ trim_events view.core way.commit.number count
  pub fresh : (part : ℕ) → IsOneOf (filter_map trimming_told way.mine) (record { core = view.core; number = way.commit.number; part = part }) → ⊥
  pub among : IsOneOf (account_of view.seen).commits way.commit
  pub last : (node : ℕ) (what : HeldNode) → held_by way.commit node ≡ Some what
      → last_writer node (account_of view.seen).commits ≡ Some (way.commit, what)

-- A core has trimmed the first logs for its commit of a number, so many of them, and told so. It holds what it held. A commit with a member goes on
-- its way home by that.
pub record TrimsAll (given : ℕ → Option OldKept) (number count : ℕ) (before after : FileHand) : Type 0 where
  pub frame : record after { view = before.view } ≡ before
  pub view : record after.view { seen = before.view.seen; mine = before.view.mine } ≡ before.view
  pub seen : IsPrefix before.view.seen after.view.seen
  pub mine : after.view.mine ≡ before.view.mine ++ trim_events before.view.core number count
  pub home : (way : Homeward) → way.commit.number ≡ number → (0 < count → (member : ℕ) × IsOneOf way.commit.members member)
      → IsHomeward given way 0 before.view → IsHomeward given way count after.view
