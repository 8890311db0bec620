use Rattle.std.proofs.Common.{◌≡◌, ℕ, ◌*◌, ◌++◌, ◌∙◌, length, min, take, drop, ap, length-drop, arith}
use Rattle.std.specs.Prelude.{replicate}
use Rattle.std.proofs.lemmas.List.{length-replicate}
use Rattle.mem_files.proofs.Padded.{filled}
use Rattle.mem_files.proofs.file.FileBytes.block_at.Goals as goal

pub returns : goal.returns
returns c =
    let bytes = c.args.self.now.bytes in
    let rest = drop (4096 * c.args.block) bytes in
    let at : c.from.result * 4096 ≡ 4096 * c.args.block = omega arith in
    let count : c.read.result ≡ min 4096 (length rest) =
    omega (arith, c.read.ensures.count, length-drop (4096 * c.args.block) bytes, length-replicate {A = ℕ} 4096 0) in
    c.read.ensures.bytes
    ∙ ap (λ n. take c.read.result (drop n bytes) ++ drop c.read.result (replicate 4096 0)) at
    ∙ filled c.read.result 4096 rest count
