use Rattle.std.proofs.Common.{rules, ◌≡◌, ◌≤◌, ◌∷◌, [], ◌++◌, List, ap, sym, subst, ◌∙◌, arith}
use Rattle.std.specs.Prelude.{All}
use Rattle.std.proofs.lemmas.List.Elements.{All-cons, All-nil}
use Rattle.sfs_base.specs.Lists.{Roomy}
use Rattle.tree_laws.specs.declared.changes.Change.{Change}
use Rattle.mem_cells.specs.Log.{log_place, IsInOrder}
use Rattle.mem_cells.specs.Part.{CoreLog, changes_kept, StandBehind}
use Rattle.core_logs.specs.Logs.{AreBlank, part_of}
use Rattle.core_logs.proofs.Ordered.{one_in_order}
use Rattle.test_scripts.proofs.logs.logs_of_two.Goals as goal

pub add-requires-clause-may : goal.add-requires-clause-may
add-requires-clause-may g c =
    let one = c.args.one in
    let blank : AreBlank 2 c.got-logs.result = search rules in
    let same = c.reserve-2.ensures.same.parts 0 in
    let kept = changes_kept (part_of c.reserve-2.new.self 0) in
    let alone : c.push.new.self.items ≡ one ∷ [] =
    c.push.ensures.items
    ∙ ap (λ (l : List Change). l ++ one ∷ []) (c.reserve.ensures.items ∙ ap (λ (l : Roomy Change). l.items) c.new-entry.ensures) in
    let entries : (part_of c.reserve-2.new.self 0).entries ≡ 0 = same.entries ∙ ap (λ (part : CoreLog). part.entries) (blank.each 0) in
    record {
      has_room = search rules;
      order = subst IsInOrder (sym alone) (one_in_order one);
      behind =
          subst (λ (entry : List Change). StandBehind entry kept) (sym alone)
          (All-cons (λ (change : Change). All (λ other. log_place other ≤ log_place change) (kept change.dir.0)) one []
          (subst (All (λ other. log_place other ≤ log_place one))
          (sym (same.logs.changes one.dir.0 ∙ ap (λ (part : CoreLog). changes_kept part one.dir.0) (blank.each 0)))
          (All-nil (λ other. log_place other ≤ log_place one)))
          (All-nil (λ (change : Change). All (λ other. log_place other ≤ log_place change) (kept change.dir.0))));
      entries = omega arith;
    }
