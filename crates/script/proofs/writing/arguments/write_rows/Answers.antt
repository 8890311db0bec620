use Rattle.std.proofs.Common.{◌≡◌, ◌++◌, take, length, flat_map, string_bytes, ap, ◌∙◌, arith}
use Rattle.std.proofs.Math.Seq.{take-length}
use Rattle.script.specs.Texts.{listed_text}
use Rattle.script.proofs.TextLemmas.{row_listed, rows_listed}
use Rattle.script.proofs.writing.arguments.write_rows.Goals as goal

pub returns : goal.returns
returns c =
    let rows = c.rows-rows.result.now in
    let all : c.loop-row.row-index ≡ length rows = omega arith in
    c.loop-row.invariant
    ∙ ap (λ listed. string_bytes c.args.text.now ++ listed)
    (ap (λ count. flat_map row_listed (take count rows)) all ∙ ap (flat_map row_listed) (take-length rows) ∙ rows_listed rows
    ∙ ap (flat_map listed_text) c.rows-rows.ensures)
