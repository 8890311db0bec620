use Rattle.std.proofs.Common.{arith, sym, ◌∙◌}
use Rattle.script.proofs.PhaseLemmas.{read_more}
use Rattle.script.proofs.reading.read_lines.Goals as goal

pub loop-rest-preserved : goal.loop-rest-preserved
loop-rest-preserved c = record {
  read =
      read_more _ c.loop-rest.so_far c.add.new.self c.loop-rest.number c.in-Some.line_kind c.first_line.result.0.now c.loop-rest.rest.now
      c.first_line.result.1.now c.loop-rest.invariant.read c.first_line.ensures.lines
      (sym c.in-Some.is ∙ c.in_ok-line_kind.ensures) c.in_ok-add-in-Some.ensures;
  few = omega arith;
}
