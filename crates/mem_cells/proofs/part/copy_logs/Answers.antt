use Rattle.std.proofs.Common.{rules, ◌≡◌, ℕ, List, subst}
use Rattle.std.proofs.lemmas.Cmp.{nat_cmp_total}
use Rattle.std.proofs.lemmas.Map.Keys.{sorted_tail}
use Rattle.std.proofs.lemmas.Map.Lookups.{btree_map_from_get, exact_unsigned}
use Rattle.std.specs.BTreeMap.{get, IsOrdered}
use Rattle.std.specs.List.Sorted.{IsStrictlySortedBy}
use Rattle.std.specs.Map.{keys_of}
use Rattle.std.specs.Ordering.{nat_cmp}
use Rattle.mem_cells.specs.Log.{Log}
use Rattle.mem_cells.proofs.Logs.{found_past, copied_more}
use Rattle.mem_cells.proofs.part.copy_logs.Goals as goal

pub loop-dir-preserved : goal.loop-dir-preserved
loop-dir-preserved c =
    let directory = c.in-Some.dir.now in
    let log = c.in-Some.log.now in
    let rest = c.next.new.self in
    let there = c.loop-dir.copies.entries in
    let ordered =
    subst (λ (logs : List (ℕ × Log)). IsStrictlySortedBy nat_cmp (keys_of logs)) c.in-Some.ensures.steps c.loop-dir.invariant.ordered in
    record {
      found =
          copied_more directory log c.in_ok-copy.field-0 rest there c.put_log.new.logs.entries (get nat_cmp c.args.logs.now) ordered
          c.in_ok-put_log.ensures.ok.0 c.in_ok-copy.ensures
          (subst (λ (logs : List (ℕ × Log)). (other : ℕ) → found_past logs there other ≡ get nat_cmp c.args.logs.now other) c.in-Some.ensures.steps
          c.loop-dir.invariant.found);
      ordered = sorted_tail nat_cmp directory (keys_of rest) ordered;
      copies_ordered = c.in_ok-put_log.ensures.ordered.1;
    }

pub returns : goal.returns
returns c =
    let ordered : IsOrdered nat_cmp c.args.logs.now = search rules in
    btree_map_from_get nat_cmp_total c.loop-dir.copies c.args.logs.now c.loop-dir.invariant.copies_ordered ordered
    (subst (λ (logs : List (ℕ × Log)). (other : ℕ) → found_past logs c.loop-dir.copies.entries other ≡ get nat_cmp c.args.logs.now other)
    c.in-None.ensures.steps.0 c.loop-dir.invariant.found)
    exact_unsigned
