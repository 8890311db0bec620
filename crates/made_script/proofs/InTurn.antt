-- One turn more of a list of lines.
use Rattle.std.proofs.Common.{◌≡◌, ℕ, suc, ◌+◌, ◌-◌, ◌<◌, List, ◌++◌, refl, sym, ap, ◌∙◌, arith, append_assoc}
use Rattle.std.proofs.lemmas.List.{append-nil}
use Rattle.script.specs.declared.commands.Line.{Line}
use Rattle.made_script.specs.Made.{each}

-- what is left of so many turns begins with the next one
each_next : (lines : ℕ → List Line) (from left : ℕ) → each lines from (suc left) ≡ lines from ++ each lines (from + 1) left
each_next lines from left = refl

-- the lines so far, and those that are left
pub turn_done : (lines : ℕ → List Line) (so_far : List Line) (from count : ℕ) → from < count
    → (so_far ++ lines from) ++ each lines (from + 1) (count - (from + 1)) ≡ so_far ++ each lines from (count - from)
turn_done lines so_far from count below =
    let left : count - from ≡ suc (count - (from + 1)) = omega (arith, below) in
    append_assoc so_far (lines from) (each lines (from + 1) (count - (from + 1)))
    ∙ ap (λ l. so_far ++ l) (sym (ap (each lines from) left ∙ each_next lines from (count - (from + 1))))

pub none_left : (lines : ℕ → List Line) (so_far : List Line) (count : ℕ) → so_far ++ each lines count (count - count) ≡ so_far
none_left lines so_far count =
    let none : count - count ≡ 0 = omega arith in
    ap (λ n. so_far ++ each lines count n) none ∙ append-nil so_far
