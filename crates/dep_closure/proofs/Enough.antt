-- What has all of a legal history that counts and is not flushed is enough of it.
use Rattle.std.proofs.Common.{◌≡◌, ℕ, ◌≤◌, Bool, true, List, sym, ap, ◌∙◌, subst, arith}
use Rattle.sfs_base.specs.declared.numbers.NodeId.{NodeId}
use Rattle.sfs_base.specs.declared.numbers.Stamp.{Stamp}
use Rattle.tree_laws.specs.declared.history.Entry.{Entry}
use Rattle.tree_laws.specs.Tree.{TreeState}
use Rattle.tree_laws.specs.Changes.{RowChange}
use Rattle.tree_laws.specs.History.{IsLegal}
use Rattle.tree_laws.specs.Laws.{IsSoundTree}
use Rattle.cut_laws.specs.Cut.{Cut, cut_of}
use Rattle.cut_laws.specs.Closure.{Counts}
use Rattle.cut_laws.specs.Rules.{IsChange}
use Rattle.cut_laws.proofs.Listed.{to_map}
use Rattle.look_laws.specs.Look.{Noted}
use Rattle.look_laws.specs.Fit.{IsNoted}
use Rattle.dep_closure.specs.declared.gathered.Gathered.{Gathered}
use Rattle.dep_closure.specs.Gathered.{look_of, noted_as, noted_in}
use Rattle.dep_closure.specs.History.{HasUnflushed}
use Rattle.dep_closure.specs.Laws.{UnflushedIsEnough}
use Rattle.dep_closure.proofs.Looked.{to_flat}
use Rattle.dep_closure.proofs.True.{logged_row, stands_in_history, logs_are_true}

-- each change of rows that counts and is not flushed was gathered
is_noted : (first : TreeState) (history : List Entry) (counts : Counts) (cut : Cut) (inodes : ℕ → Bool) (gathered : Gathered) (start : NodeId) (below : Stamp)
    → IsSoundTree first → IsLegal first history → HasUnflushed first history counts cut inodes gathered
    → (row : RowChange) → IsChange first history row → counts row.stamp ≡ true → cut_of cut row.directory ≤ row.stamp
    → IsNoted (look_of start below gathered) row
is_noted first history counts cut inodes gathered start below sound legal has row is counted unflushed =
    let logged = logged_row first history row sound legal is in
    let change = logged.0 in
    let there =
    has.changes change logged.1 (subst (λ (r : RowChange). counts r.stamp ≡ true) (sym logged.2) counted)
    (subst (λ (r : RowChange). cut_of cut r.directory ≤ r.stamp) (sym logged.2) unflushed) in
    let log = there.0 in
    let stands = stands_in_history first history counts log legal (has.logs log there.1) change there.2 in (
      noted_as log.changes.items change,
      to_flat noted_in gathered.logs.items log (noted_as log.changes.items change) there.1
          (to_map (noted_as log.changes.items) log.changes.items change there.2),
      ap (λ (noted : Noted). noted.change) stands.noted ∙ logged.2,
    )

pub unflushed_is_enough : UnflushedIsEnough
unflushed_is_enough first history counts cut inodes gathered start below sound legal has =
    let there = is_noted first history counts cut inodes gathered start below sound legal has in
    record {
      cuts = λ node touched. has.cuts node;
      cuts_low = λ node. let same = has.cuts node in omega arith;
      same_inodes = λ node touched. has.with_inode node;
      born = λ node directory touched. has.births node directory;
      truths = logs_are_true first history counts gathered start below sound legal has.logs;
      spans = λ change own span. there change span.is_change span.counted span.from;
      namings = λ change touched is counted unflushed. there change is counted unflushed;
      unflushed = λ noted one touched le. subst (λ n. n ≤ noted.change.stamp) (has.cuts noted.change.directory) le;
    }
