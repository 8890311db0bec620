use Rattle.std.proofs.Common.{◌++◌, ◌∷◌, [], List, filter_map, ap, sym, ◌∙◌}
use Rattle.mem_files.specs.declared.touched.TouchedBlock.{TouchedBlock}
use Rattle.mem_files.specs.TouchedFrom.{touched_at}
use Rattle.mem_files.proofs.Padded.{given_more}
use Rattle.mem_files.proofs.file.FileBytes.touched_from.Goals as goal

pub loop-block-preserved : goal.loop-block-preserved
loop-block-preserved c =
    let give = touched_at c.args.cut.0 c.args.self.now in
    c.in_ok-copy_touched.ensures
    ∙ ap (λ (l : List TouchedBlock). l ++ filter_map give (c.loop-block.block ∷ [])) c.loop-block.invariant
    ∙ sym (given_more give c.loop-block.block)
