-- How long a made script is, and what it is read from.
use Rattle.std.proofs.Common.{◌≡◌, ℕ, zero, suc, ◌+◌, ◌*◌, List, length, refl, ap, ap₂, ◌∙◌, arith}
use Rattle.std.proofs.lemmas.List.{length-append}
use Rattle.std.specs.Fmt.{digits}
use Rattle.hex.specs.Hex.{decode_pairs}
use Rattle.percent_encoding.specs.Percent.{percent_decode}
use Rattle.script.specs.declared.commands.Line.{Line}
use Rattle.made_script.specs.Laws.{AreReadFromTheirTexts, IsAsLong}
use Rattle.made_script.specs.Made.{each, flush_line, home_line, item_of, worker_lines}

-- as many lines in each turn
length-each : (lines : ℕ → List Line) (size : ℕ) → ((n : ℕ) → length (lines n) ≡ size) → (from count : ℕ) → length (each lines from count) ≡ size * count
length-each lines size same from zero = omega arith
length-each lines size same from (suc count) =
    let here = same from in
    let later = length-each lines size same (from + 1) count in
    length-append (lines from) (each lines (from + 1) count) ∙ ap₂ (λ a b. a + b) here later ∙ omega arith

pub as_long : IsAsLong
as_long seed count workers =
    let homes = length-each home_line 1 (λ n. refl) 0 workers in
    let items = length-each (worker_lines seed count) (3 * count) (λ n. length-each (item_of seed n) 3 (λ i. refl) 0 count) 0 workers in
    let flushes = length-each flush_line 1 (λ n. refl) 0 workers in
    ap₂ (λ a b. a + b) (ap₂ (λ a b. a + b) (ap (λ a. 0 + a) homes) items) flushes ∙ omega arith

pub read_from_their_texts : AreReadFromTheirTexts
unfolding percent_decode decode_pairs digits
read_from_their_texts = record { one_worker = refl; two_workers = refl }
