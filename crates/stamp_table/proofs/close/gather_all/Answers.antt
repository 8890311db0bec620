use Rattle.std.proofs.Common.{rules, arith, ap, sym, ◌∙◌, subst, List, [], ◌∷◌, ◌++◌, map}
use Rattle.std.proofs.lemmas.Grind.{common_steps}
use Rattle.std.proofs.lemmas.List.{map-append}
use Rattle.std.specs.List.{AllZip}
use Rattle.tree_laws.specs.declared.history.Entry.{Entry}
use Rattle.stamp_table.specs.declared.event.Event.{Event}
use Rattle.stamp_table.specs.Answered.{AreCallsOf}
use Rattle.stamp_table.proofs.Closing.{calls_snoc}
use Rattle.stamp_table.proofs.close.gather_all.Goals as goal

pub loop-core-preserved : goal.loop-core-preserved
loop-core-preserved g c =
    let inv = c.loop-core.invariant in
    let pushed = c.push_reserved.ensures.items in
    let entries = c.gather-entries.ensures.entries in
    record {
      table = search rules;
      gathers = search rules;
      ready = grind (arith, common_steps);
      lists = grind (arith, common_steps);
      saws = grind (arith, common_steps);
      parts = grind (arith, common_steps);
      calls =
          subst (λ (z : List (List (Event g.row.X.Denot)) × List (List Entry)). AllZip AreCallsOf z.0 z.1)
          (λ i. (
            sym c.gather-entries.ensures.lists i,
            sym
                (ap (map (λ p. p.items)) pushed
                ∙ (map-append (λ p. p.items) c.loop-core.parts.items (c.gather-entries.result ∷ [])
                ∙ ap (λ e. map (λ p. p.items) c.loop-core.parts.items ++ e ∷ []) entries))
                i,
          ))
          (calls_snoc c.loop-core.lead.me.0.lists
          (map (λ p. p.items) c.loop-core.parts.items) c.in-Some.core.view.mine c.in-Some.core.entries inv.calls c.gather-entries.ensures.calls);
      room = search rules;
    }
