use Rattle.std.proofs.Common.{◌≡◌, List, [], ◌∷◌, ◌++◌, map, sym, ap, ◌∙◌, subst, append-nil}
use Rattle.std.specs.Prelude.{All}
use Rattle.std.specs.List.Sorted.{IsStrictlyIncreasing}
use Rattle.std.proofs.lemmas.List.{append_assoc, map-append}
use Rattle.std.proofs.lemmas.List.Elements.{All-push}
use Rattle.std.proofs.lemmas.Map.Keys.{IsStrictlyIncreasing-from_sorted}
use Rattle.log_merge.specs.Merge.{parts_changes, IsMergeOf}
use Rattle.dep_closure.specs.declared.gathered.DirectoryChanges.{DirectoryChanges}
use Rattle.dep_closure.specs.Gathered.{log_directory}
use Rattle.core_logs.specs.Logs.{Logs}
use Rattle.core_logs.proofs.logs.CoreLogs.gather.Goals as goal

pub loop-directory-preserved : goal.loop-directory-preserved
loop-directory-preserved c =
    let one : DirectoryChanges = record { dir = record { 0 = c.in-Some.directory.now }; changes = c.in_ok-changes.changes } in
    let old : List DirectoryChanges = c.loop-directory.logs.items in
    let pushed : c.push.new.self.items ≡ old ++ one ∷ [] = c.push.ensures.items ∙ ap (λ l. l ++ one ∷ []) c.reserve.ensures.items in
    record {
      directories = ap (λ l. map log_directory l ++ c.next.new.self) pushed ∙ ap (λ l. l ++ c.next.new.self) (map-append log_directory old (one ∷ []))
          ∙ append_assoc (map log_directory old) (c.in-Some.directory.now ∷ []) c.next.new.self
          ∙ ap (λ l. map log_directory old ++ l) (sym c.in-Some.ensures.steps) ∙ c.loop-directory.invariant.directories;
      merged = subst (All (λ log. IsMergeOf (parts_changes log.dir.0 c.args.below.0 c.args.self.now.parts) log.changes.items)) (sym pushed)
          (All-push
          (λ log. IsMergeOf (parts_changes log.dir.0 c.args.below.0 c.args.self.now.parts) log.changes.items) old one c.loop-directory.invariant.merged
          (subst (λ (logs : Logs). IsMergeOf (parts_changes c.in-Some.directory.now c.args.below.0 logs.parts) c.in_ok-changes.changes.items) c.self.view_is
          (subst
          (λ parts. IsMergeOf (parts_changes c.in-Some.directory.now c.args.below.0 parts) c.in_ok-changes.changes.items) c.deref.ensures.value
          c.in_ok-changes.ensures)));
    }

pub returns : goal.returns
returns c =
    let all =
    sym (append-nil (map log_directory c.loop-directory.logs.items))
    ∙ ap (λ l. map log_directory c.loop-directory.logs.items ++ l) (sym c.in-None.ensures.steps.0) ∙ c.loop-directory.invariant.directories in
    record {
      ascending =
          subst IsStrictlyIncreasing (sym all)
          (IsStrictlyIncreasing-from_sorted c.self.inside.directories.keys c.into_iter-directory-iterator.ensures.into_iter_gives.4);
      directories = all ∙ ap (λ (logs : Logs). logs.directories.keys) c.self.view_is;
      merged = c.loop-directory.invariant.merged;
    }
