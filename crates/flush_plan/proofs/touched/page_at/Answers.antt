use Rattle.std.proofs.Common.{◌≡◌, ℕ, ◌*◌, ◌++◌, ◌∙◌, List, length, min, take, drop, ap, length-drop, arith}
use Rattle.std.specs.Prelude.{replicate}
use Rattle.std.proofs.lemmas.List.{length-replicate}
use Rattle.sfs_image.specs.Bytes.{zeros}
use Rattle.mem_files.proofs.Padded.{filled}
use Rattle.flush_plan.proofs.touched.page_at.Goals as goal

pub returns : goal.returns
unfolding zeros
returns c =
    let bytes = c.args.bytes.now.bytes in
    let rest = drop (4096 * c.args.block) bytes in
    let at : c.from.result * 4096 ≡ 4096 * c.args.block = omega arith in
    let count : c.read.result ≡ min 4096 (length rest) =
    omega (arith, c.read.ensures.count, length-drop (4096 * c.args.block) bytes, length-replicate {A = ℕ} 4096 0) in
    let read : c.read.new.into ≡ take 4096 (rest ++ replicate 4096 0) =
    c.read.ensures.bytes
    ∙ ap (λ n. take c.read.result (drop n bytes) ++ drop c.read.result (replicate 4096 0)) at
    ∙ filled c.read.result 4096 rest count in
    ap (λ (l : List ℕ). record { block = c.args.block; bytes = l }) read
