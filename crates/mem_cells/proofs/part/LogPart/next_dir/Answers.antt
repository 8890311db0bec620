use Rattle.std.proofs.Common.{rules, ◌≡◌, ◌<◌, ℕ, true, List, length, ap, sym, subst, ◌∙◌, arith}
use Rattle.std.specs.Prelude.{All}
use Rattle.std.proofs.lemmas.List.Elements.{All-head, All-tail}
use Rattle.std.proofs.lemmas.Map.Keys.{sorted_tail}
use Rattle.std.specs.List.Sorted.{IsStrictlySortedBy}
use Rattle.std.specs.Map.{keys_of}
use Rattle.std.specs.Ordering.{nat_cmp}
use Rattle.mem_cells.specs.Log.{Log}
use Rattle.mem_cells.specs.Part.{CoreLog, log_of, changes_kept, is_after}
use Rattle.mem_cells.proofs.Logs.{logs_after, log_after, ordered_after, above_after, first_log, none_before, passed_log, some_there, none_there}
use Rattle.mem_cells.proofs.part.LogPart.next_dir.Goals as goal

pub loop-dir-init : goal.loop-dir-init
loop-dir-init c =
    let logs = c.self.inside.logs.entries in
    let there : logs_after c.args.after logs ≡ c.into_iter-dir-iterator.result = search rules in
    record {
      left = λ directory after.
          ap (λ (those : List (ℕ × Log)). (log_of those directory).changes) (sym there)
          ∙ ap (λ (log : Log). log.changes) (log_after c.args.after logs directory after)
          ∙ ap (λ (part : CoreLog). changes_kept part directory) c.self.view_is;
      ordered = subst (λ (those : List (ℕ × Log)). IsStrictlySortedBy nat_cmp (keys_of those)) there
          (ordered_after c.args.after logs c.range-dir-items.ensures.ordered);
      above = subst (λ (those : List (ℕ × Log)). All (λ directory. is_after c.args.after directory ≡ true) (keys_of those)) there
          (above_after c.args.after logs);
    }

pub returns-then-not-is_empty : goal.returns-then-not-is_empty
returns-then-not-is_empty c =
    let directory = c.in-Some.dir.now in
    let log = c.in-Some.log.now in
    let rest = c.next.new.self in
    let ordered =
    subst (λ (logs : List (ℕ × Log)). IsStrictlySortedBy nat_cmp (keys_of logs)) c.in-Some.ensures.steps c.loop-dir.invariant.ordered in
    let left =
    subst (λ (logs : List (ℕ × Log)). (other : ℕ) → is_after c.args.after other ≡ true → (log_of logs other).changes ≡ changes_kept c.args.self.now other)
    c.in-Some.ensures.steps c.loop-dir.invariant.left in
    let above =
    All-head (λ other. is_after c.args.after other ≡ true) directory (keys_of rest)
    (subst (λ (logs : List (ℕ × Log)). All (λ other. is_after c.args.after other ≡ true) (keys_of logs)) c.in-Some.ensures.steps
    c.loop-dir.invariant.above) in
    let has_some : 0 < length log.changes = some_there log.changes _ c.is_empty.ensures c.if-not-is_empty.true in
    record {
      comes_after = above;
      has_changes =
          let some = has_some in
          let here = ap (λ (one : Log). length one.changes) (sym (first_log directory log rest)) ∙ ap length (left directory above) in
          omega arith;
      is_least = λ other after below.
          sym (left other after) ∙ ap (λ (one : Log). one.changes) (none_before directory other log rest ordered below);
    }

pub loop-dir-preserved : goal.loop-dir-preserved
loop-dir-preserved c =
    let directory = c.in-Some.dir.now in
    let log = c.in-Some.log.now in
    let rest = c.next.new.self in
    let ordered =
    subst (λ (logs : List (ℕ × Log)). IsStrictlySortedBy nat_cmp (keys_of logs)) c.in-Some.ensures.steps c.loop-dir.invariant.ordered in
    let left =
    subst (λ (logs : List (ℕ × Log)). (other : ℕ) → is_after c.args.after other ≡ true → (log_of logs other).changes ≡ changes_kept c.args.self.now other)
    c.in-Some.ensures.steps c.loop-dir.invariant.left in
    record {
      left = λ other after.
          passed_log directory log rest ordered (none_there log.changes _ c.is_empty.ensures c.if-not-is_empty.false) other ∙ left other after;
      ordered = sorted_tail nat_cmp directory (keys_of rest) ordered;
      above = All-tail (λ other. is_after c.args.after other ≡ true) directory (keys_of rest)
          (subst (λ (logs : List (ℕ × Log)). All (λ other. is_after c.args.after other ≡ true) (keys_of logs)) c.in-Some.ensures.steps
          c.loop-dir.invariant.above);
    }
