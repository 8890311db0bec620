use Rattle.std.proofs.Common.{◌≡◌, ◌<◌, ◌++◌, ◌∙◌, ap, ℕ, List, length, get_or, arith}
use Rattle.std.proofs.lemmas.Grind.{common_steps}
use Rattle.std.specs.Prelude.{vec_len}
use Rattle.mem_files.proofs.Filled.{same_filled}
use Rattle.mem_files.proofs.page.Page.filled.Goals as goal
use Rattle.mem_files.proofs.page.Page.filled.Goals.{then-len-lt-PAGE+in_ok-resize, else-len-lt-PAGE}

pub returns-clause-same : goal.returns-clause-same
returns-clause-same c place = elim c.if-len-lt-PAGE.branch [
  | then-len-lt-PAGE+in_ok-resize w ↦
      let counted : vec_len c.extend_from_slice.new.self ≡ length c.extend_from_slice.new.self.items = grind (arith, common_steps) in
      let short : vec_len c.extend_from_slice.new.self < 4096 = omega (arith, w.if-len-lt-PAGE.true, c.len.ensures) in
      rw w.bytes-is
      (same_filled 4096 (vec_len c.extend_from_slice.new.self) c.extend_from_slice.new.self.items _ counted short w.in_ok-resize.ensures.items place
      ∙ ap (λ (l : List ℕ). get_or l place 0) whole)
  | else-len-lt-PAGE w ↦ rw w.bytes-is (ap (λ (l : List ℕ). get_or l place 0) whole)
]
  where
    whole : c.extend_from_slice.new.self.items ≡ c.args.self.now
    whole = c.in_ok-extend_from_slice.ensures.items ∙ ap (λ (l : List ℕ). l ++ c.bytes.result.now) c.in_ok-bytes.ensures.items ∙ c.bytes.ensures
