-- A worker at its commands.
use Rattle.std.proofs.Common.{◌≡◌, ℕ, zero, suc, ◌<◌, ◌≤◌, true, false, cond, List, [], ◌∷◌, ◌-◌, length, take, drop, get_or, filter, map, refl, sym, ap, ◌∙◌, arith, nat_eq, eq-eqb}
use borrow.Author.Tests.{ne_eqb}
use Rattle.script.specs.declared.commands.Line.{Line}
use Rattle.script.specs.Walks.{Position, WalkState, Done, begun, go_on, commands_of}

-- the commands of a worker in lines that begin with this one
first_line : (number : ℕ) (line : Line) (lines : List Line)
    → commands_of number (line ∷ lines) ≡ cond (nat_eq line.worker number) (line.command ∷ commands_of number lines) (commands_of number lines)
first_line number line lines =
    elim (nat_eq line.worker number) as (λ t. map (λ line. line.command)
    (cond t (line ∷ filter (λ line. nat_eq line.worker number) lines) (filter (λ line. nat_eq line.worker number) lines))
    ≡ cond t (line.command ∷ commands_of number lines) (commands_of number lines)) [
      | true ↦
          refl
      | false ↦ refl
    ]

-- a line of another worker is passed over
pub passed : (number : ℕ) (lines : List Line) (place : ℕ) (line : Line) → place < length lines → line ≡ get_or lines place line → (line.worker ≡ number → ⊥)
    → commands_of number (drop place lines) ≡ commands_of number (drop (suc place) lines)
passed number [] place line within is other = absurd (omega arith)
passed number (first ∷ lines) zero line within is other =
    first_line number first lines
    ∙ ap (λ t. cond t (first.command ∷ commands_of number lines) (commands_of number lines))
    (ap (λ l. nat_eq l.worker number) (sym is) ∙ ne_eqb line.worker number other)
passed number (first ∷ lines) (suc place) line within is other = passed number lines place line (omega arith) is other

-- a line of the worker is the next
pub found : (number : ℕ) (lines : List Line) (place : ℕ) (line : Line) → place < length lines → line ≡ get_or lines place line → line.worker ≡ number
    → commands_of number (drop place lines) ≡ line.command ∷ commands_of number (drop (suc place) lines)
found number [] place line within is own = absurd (omega arith)
found number (first ∷ lines) zero line within is own =
    first_line number first lines
    ∙ ap (λ t. cond t (first.command ∷ commands_of number lines) (commands_of number lines))
    (ap (λ l. nat_eq l.worker number) (sym is) ∙ eq-eqb line.worker number own)
    ∙ ap (λ l. l.command ∷ commands_of number lines) (sym is)
found number (first ∷ lines) (suc place) line within is own = found number lines place line (omega arith) is own

-- no line stands past the last
past_last : (lines : List Line) (place : ℕ) → length lines ≤ place → drop place lines ≡ []
past_last [] zero within = refl
past_last [] (suc place) within = refl
past_last (line ∷ lines) zero within = absurd (omega arith)
past_last (line ∷ lines) (suc place) within = past_last lines place (omega arith)

-- where a worker stands
abbrev stand : ℕ → WalkState → List Line → Position
stand number walk lines = record { walk = walk; later = commands_of number lines }

-- a worker at a line of its own
pub at_own : (number : ℕ) (lines rest : List Line) (place next : ℕ) (line : Line) (walk : WalkState) → place < length lines → line ≡ get_or lines place line
    → line.worker ≡ number → commands_of number lines ≡ commands_of number (drop place lines) → walk ≡ begun line.command → rest ≡ drop next lines
    → next ≡ suc place → ◌≡◌ {A = Position} (record { walk = walk; later = commands_of number rest }) (go_on Done (commands_of number lines))
at_own number lines rest place next line walk within is own so_far begins behind one_more =
    ap (λ p. stand number p rest) begins
    ∙ ap (stand number (begun line.command)) (behind ∙ ap (λ n. drop n lines) one_more)
    ∙ sym (ap (go_on Done) (so_far ∙ found number lines place line within is own))

-- a worker past the last line
pub at_end : (number : ℕ) (lines rest : List Line) (place : ℕ) → length lines ≤ place → commands_of number lines ≡ commands_of number (drop place lines)
    → rest ≡ [] → ◌≡◌ {A = Position} (record { walk = Done; later = commands_of number rest }) (go_on Done (commands_of number lines))
at_end number lines rest place past so_far none =
    ap (stand number Done) none ∙ sym (ap (go_on Done) (so_far ∙ ap (commands_of number) (past_last lines place past)))

-- nothing is left past all lines
pub none_left : (lines : List Line) → take (length lines - length lines) (drop (length lines) lines) ≡ []
none_left lines = ap (take (length lines - length lines)) (past_last lines (length lines) (omega arith)) ∙ take_none (length lines - length lines)
  where
    take_none : (n : ℕ) → take {A = Line} n [] ≡ []
    take_none zero = refl
    take_none (suc n) = refl
