-- Histories that differ in the answers of fsyncs alone.
use Rattle.std.specs.Prelude.{◌≡◌, ℕ, List, length, map, take}
use Rattle.sfs_base.specs.declared.numbers.CoreId.{CoreId}
use Rattle.sfs_base.specs.declared.numbers.Stamp.{Stamp}
use Rattle.tree_laws.specs.declared.call.Call.{Call}
use Rattle.tree_laws.specs.declared.history.Entry.{Entry}
use Rattle.tree_laws.specs.Changes.{changes_of}
use Rattle.tree_laws.specs.History.{tree_after}
use Rattle.tree_laws.specs.Tree.{TreeState}
use Rattle.cut_laws.specs.Rules.{births_of}

-- What an entry asks: its stamp, its core and its call. What it was answered is left out.
pub record Asked : Type 0 where
  pub stamp : Stamp
  pub core : CoreId
  pub call : Call

abbrev pub asked : Entry → Asked
asked entry = record { stamp = entry.stamp; core = entry.core; call = entry.call }

-- Two histories come to the same: the same trees after each number of entries, the same changes and births, and they are as long.
pub record ComeToTheSame (first : TreeState) (history other : List Entry) : Type 0 where
  pub trees : (n : ℕ) → tree_after first (take n history) ≡ tree_after first (take n other)
  pub whole : tree_after first history ≡ tree_after first other
  pub changes : changes_of first history ≡ changes_of first other
  pub births : births_of first history ≡ births_of first other
  pub long : length history ≡ length other

-- So do those that ask the same, whatever they were answered.
abbrev pub AnswersTellNothing : Type 0
AnswersTellNothing = (first : TreeState) (history other : List Entry) → map asked history ≡ map asked other → ComeToTheSame first history other
