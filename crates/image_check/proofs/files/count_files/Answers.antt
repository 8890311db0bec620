use Rattle.std.proofs.Common.{◌≡◌, ℕ, ◌+◌, Bool, cond, ◌∙◌, sym, ap, arith}
use Rattle.image_check.proofs.FilesCounted.{few_counted, none_counted, one_counted}
use Rattle.image_check.proofs.files.count_files.Goals.{then-is_named_file, else-is_named_file}
use Rattle.image_check.proofs.files.count_files.Goals as goal

pub loop-place-init : goal.loop-place-init
loop-place-init c = sym (none_counted c.args.inodes.now c.args.named.now)

pub overflow_add-files : goal.overflow_add-files
overflow_add-files c =
    let few = few_counted c.args.inodes.now c.args.named.now c.loop-place.place in
    let files = c.loop-place.invariant in
    let most = c.requires.few in
    omega arith

pub loop-place-preserved : goal.loop-place-preserved
loop-place-preserved c =
    let inodes = c.args.inodes.now in
    let named = c.args.named.now in
    let n = c.loop-place.place in
    let more =
    one_counted inodes named n c.index-inodes-place.result (omega arith) c.index-inodes-place.is c.is_named_file.result c.is_named_file.ensures
    c.loop-place.files c.loop-place.invariant in
    elim c.if-is_named_file.branch [
      | then-is_named_file w ↦
          w.files-is ∙ ap (λ (b : Bool). c.loop-place.files + cond {A = ℕ} b 1 0) (sym w.if-is_named_file.true) ∙ more
      | else-is_named_file w ↦
          w.files-is ∙ (let same : c.loop-place.files ≡ c.loop-place.files + 0 = omega arith in same)
          ∙ ap (λ (b : Bool). c.loop-place.files + cond {A = ℕ} b 1 0) (sym w.if-is_named_file.false) ∙ more
    ]
