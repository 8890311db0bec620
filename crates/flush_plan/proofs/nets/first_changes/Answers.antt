use Rattle.std.proofs.Common.{◌≡◌, ◌<◌, ◌+◌, ◌-◌, ◌++◌, ◌∷◌, [], ◌∙◌, sym, ap, subst, length, drop, reverse, arith, List}
use Rattle.std.specs.FinMap.Entries.{put}
use Rattle.std.proofs.lemmas.List.{reverse-append}
use Rattle.tree_laws.specs.Order.{name_cmp}
use Rattle.tree_laws.specs.declared.changes.Change.{Change}
use Rattle.absorb.specs.Last.{lent, AreLast}
use Rattle.absorb.proofs.LastChanges.{lent-inserted, AreLast-push}
use Rattle.dep_closure.proofs.Ends.{from_there}
use Rattle.flush_plan.proofs.nets.first_changes.Goals as goal

pub loop-left-preserved : goal.loop-left-preserved
loop-left-preserved c =
    let changes = c.args.changes.now in
    let change = c.index-changes-left.result in
    let at = c.loop-left.left - 1 in
    let within : c.loop-left.left - 1 < length changes = omega arith in
    let next : c.loop-left.left - 1 + 1 ≡ c.loop-left.left = omega arith in
    let behind = reverse (drop c.loop-left.left changes) in
    let entries =
    ap lent c.in_ok-insert.ensures.entries
    ∙ lent-inserted c.loop-left.first.entries c.bytes.result _
    ∙ ap (λ name. put name_cmp name change (lent c.loop-left.first.entries)) c.bytes.ensures.bytes in
    let more =
    ap reverse (from_there changes (c.loop-left.left - 1) change within c.index-changes-left.is ∙ ap (λ n. change ∷ drop n changes) next)
    ∙ reverse-append (change ∷ []) (drop c.loop-left.left changes) in
    record {
      within = omega arith;
      first = subst (λ (cs : List Change). AreLast cs (lent c.insert.new.self.entries)) (sym more)
          (subst (AreLast (behind ++ change ∷ [])) (sym entries) (AreLast-push behind (lent c.loop-left.first.entries) change c.loop-left.invariant.first));
    }
