use Rattle.std.proofs.Common.{◌∙◌, ap, cond, Some, None, get_or}
use Rattle.mem_files.proofs.Passed.{all_passed}
use Rattle.mem_files.proofs.file.FileBytes.mark.Goals as goal

pub returns-clause-marks : goal.returns-clause-marks
returns-clause-marks c block =
    let kept = c.loop-block.invariant in
    let passed = all_passed c.args.touched.first c.args.touched.end c.loop-block.block block c.loop-block.auto.block c.loop-block-test.false kept.passed in
    kept.marks block ∙ ap (λ b. cond b (Some c.args.stamp) (get_or c.args.self.now.marks block None)) passed
