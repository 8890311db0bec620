-- What a core saw of a node is what those that are done left of it in a volume's words.
use Rattle.std.proofs.Common.{◌∙◌, ℕ, List, map, subst, sym, ap, arith}
use Rattle.disk_change.specs.AllBuilt.{after_commit}
use Rattle.commit_laws.specs.CommitOfPlan.{change_planned}
use Rattle.cut_laws.proofs.Listed.{to_map, from_map}
use Rattle.beside_laws.specs.Commits.{CoreCommit}
use Rattle.book_laws.specs.Pairs.{commit_under, bringing_under}
use Rattle.reserve_laws.specs.Olds.{DoneBeside, SawLeftOf, by_none, IsKeptIn, by_last}
use Rattle.mem_values.specs.Stands.{Flushed}
use Rattle.note_laws.specs.Run.{TableRun, LeftSeen, TellsCommit}
use Rattle.tell_laws.specs.Kept.{TellsDisk, SawsAreKept}
use Rattle.note_laws.proofs.Saws.{saws_are_left}

module _ (run : TableRun) (beside : DoneBeside) (node : ℕ) (seen : Flushed) (tells : TellsDisk run beside) where
  abbrev commits : List CoreCommit
  commits = map (commit_under beside.pairs) beside.done

  kept_so : LeftSeen run commits node seen → SawLeftOf beside node seen.old
  kept_so (LeftSeen.nobody none cut old) =
      by_none (λ other one. none (commit_under beside.pairs other) (to_map (commit_under beside.pairs) beside.done other one))
      (subst (IsKeptIn beside.entries node) (sym old) (tells.first node))
  kept_so (LeftSeen.somebody commit told held last told_there holds cut old) =
      let at = from_map (commit_under beside.pairs) beside.done commit last.among in
      let stamp = at.0 in
      by_last stamp (record {
        among = at.1;
        held = ap (λ (c : CoreCommit). c.holds node) at.2 ∙ last.held;
        latest = λ other one theirs.
            let low = last.latest (commit_under beside.pairs other) (to_map (commit_under beside.pairs) beside.done other one) theirs in
            let number = ap (λ (c : CoreCommit). c.number) at.2 in omega (arith, low, number);
      })
      (subst (IsKeptIn (after_commit (change_planned (bringing_under beside.pairs stamp).plan) (bringing_under beside.pairs stamp).grant) node) (sym old)
      (tells.wrote stamp told node held at.1 (subst (λ c. TellsCommit run c told) (sym at.2) told_there) holds))

pub saws_are_kept : SawsAreKept
saws_are_kept run beside node seen is tells saw =
    kept_so run beside node seen tells (saws_are_left run (map (commit_under beside.pairs) beside.done) node seen is saw).0
