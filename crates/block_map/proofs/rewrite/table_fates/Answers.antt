use Rattle.std.proofs.Common.{arith, ◌∙◌}
use Rattle.std.proofs.lemmas.List.{length-set}
use Rattle.block_map.proofs.Tables.{tabulated, set_more}
use Rattle.block_map.proofs.rewrite.table_fates.Goals as goal

pub loop-k-preserved : goal.loop-k-preserved
loop-k-preserved c = record {
  count = length-set _ _ _ ∙ c.loop-k.invariant.count;
  each = set_more c.loop-k.fates c.loop-k.k _ _ (omega (arith, c.loop-k.invariant.count)) c.loop-k.invariant.each c.fate_of.ensures;
}

pub returns : goal.returns
returns c = tabulated 16 _ c.loop-k.fates c.loop-k.invariant.count (λ j d within. c.loop-k.invariant.each j d (omega arith))
