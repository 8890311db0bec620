use Rattle.std.proofs.Common.{◌≡◌, suc, List, ◌+◌, ◌-◌, ◌++◌, ap, ◌∙◌, arith}
use Rattle.script.specs.declared.commands.Line.{Line}
use Rattle.made_script.specs.Made.{drawn, each, item_lines, item_of, next_draw}
use Rattle.made_script.proofs.InTurn.{turn_done}
use Rattle.made_script.proofs.lines.push_items.Goals as goal

pub loop-item-preserved : goal.loop-item-preserved
loop-item-preserved c =
    let item = c.loop-item.item in
    let count = c.args.count in
    let lines = item_of c.args.seed c.args.worker in
    let next : suc item ≡ item + 1 = omega arith in
    let draw : c.next_draw-draw.result ≡ drawn c.args.seed c.args.worker (item + 1) =
    c.next_draw-draw.ensures ∙ ap next_draw c.loop-item.invariant.draw ∙ ap (drawn c.args.seed c.args.worker) next in
    record {
      lines =
          ap (λ (l : List Line). l ++ each lines (item + 1) (count - (item + 1))) (c.in_ok-push_item.ensures
          ∙ ap (λ d. c.loop-item.lines.items ++ item_lines c.args.worker item d) draw)
          ∙ turn_done lines c.loop-item.lines.items item count c.loop-item-test.true
          ∙ c.loop-item.invariant.lines;
      draw = draw;
    }
