-- The phases of a script, line by line.
use Rattle.std.proofs.Common.{◌≡◌, ℕ, suc, ◌+◌, arith, List, [], ◌∷◌, ◌++◌, Some, Result, Ok, Err, refl, sym, ap, ◌∙◌, append_assoc, append-nil}
use Rattle.script.specs.declared.commands.Line.{Line}
use Rattle.script.specs.declared.reading.line_kind.LineKind.{LineKind}
use Rattle.script.specs.declared.reading.line_kind.LineKind.TheVariants.{Skipped, Ends, Does}
use Rattle.script.specs.Commands.{kind_of_line}
use Rattle.script.specs.Phases.{with_line, first_phase_longer, phases_from}
use Rattle.script.specs.NextLine.{with_next}
use Rattle.script.specs.Lines.{lines}

-- lines at the front of the first phase
abbrev pub longer_front : List Line → List (List Line) → List (List Line)
longer_front front (phase ∷ phases) = (front ++ phase) ∷ phases
longer_front (line ∷ front) [] = (line ∷ front) ∷ []
longer_front [] [] = []

-- phases behind those that have been read
abbrev pub behind : List (List Line) × List Line → Result (List (List Line)) ℕ → Result (List (List Line)) ℕ
behind so_far (Ok phases) = Ok (so_far.0 ++ longer_front so_far.1 phases)
behind so_far (Err number) = Err number

-- a line at the front of the phases behind stands at the end of those read
line_moves : (front : List Line) (line : Line) (phases : List (List Line))
    → longer_front front (first_phase_longer line phases) ≡ longer_front (front ++ line ∷ []) phases
line_moves front line (phase ∷ phases) = ap (λ lines. lines ∷ phases) (sym (append_assoc front (line ∷ []) phase))
line_moves [] line [] = refl
line_moves (first ∷ front) line [] = refl

-- nothing at the front changes nothing
front_nil : (phases : List (List Line)) → longer_front [] phases ≡ phases
front_nil [] = refl
front_nil (phase ∷ phases) = refl

-- one more line is read
pub behind_more : (so_far : List (List Line) × List Line) (number : ℕ) (line_kind : LineKind) (later : Result (List (List Line)) ℕ)
    → behind so_far (with_line number (Some line_kind) later) ≡ behind (with_next line_kind so_far) later
behind_more so_far number line_kind (Err later) = refl
behind_more so_far number Skipped (Ok phases) = refl
behind_more so_far number Ends (Ok phases) =
    ap Ok
    (ap (λ lines. so_far.0 ++ lines ∷ phases) (append-nil so_far.1) ∙ ap (λ later. so_far.0 ++ so_far.1 ∷ later) (sym (front_nil phases))
    ∙ sym (append_assoc so_far.0 (so_far.1 ∷ []) (longer_front [] phases)))
behind_more so_far number (Does line) (Ok phases) = ap (λ later. Ok (so_far.0 ++ later)) (line_moves so_far.1 line phases)

-- before the first line
pub behind_nothing : (phases : Result (List (List Line)) ℕ) → behind ([], []) phases ≡ phases
behind_nothing (Ok phases) = ap Ok (front_nil phases)
behind_nothing (Err number) = refl

-- after the last line
pub behind_all : (so_far : List (List Line) × List Line) → behind so_far (Ok ([] ∷ [])) ≡ Ok (so_far.0 ++ so_far.1 ∷ [])
behind_all so_far = ap (λ lines. Ok (so_far.0 ++ lines ∷ [])) (append-nil so_far.1)

-- one more line is read, by what it is
pub read_more : (all : Result (List (List Line)) ℕ) (old new : List (List Line) × List Line) (number : ℕ) (line_kind : LineKind) (line rest after : List ℕ)
    → all ≡ behind old (phases_from (number + 1) (lines rest)) → lines rest ≡ line ∷ lines after → Some line_kind ≡ kind_of_line line
    → new ≡ with_next line_kind old → all ≡ behind new (phases_from (number + 1 + 1) (lines after))
read_more all old new number line_kind line rest after so_far split is added =
    so_far
    ∙ ap (λ lines. behind old (phases_from (number + 1) lines)) split
    ∙ ap (λ found. behind old (with_line (number + 1) found (phases_from (suc (number + 1)) (lines after)))) (sym is)
    ∙ behind_more old (number + 1) line_kind (phases_from (suc (number + 1)) (lines after))
    ∙ ap (λ so_far. behind so_far (phases_from (suc (number + 1)) (lines after))) (sym added)
    ∙ ap (λ next. behind new (phases_from next (lines after))) next
  where
    next : suc (number + 1) ≡ number + 1 + 1
    next = omega arith
