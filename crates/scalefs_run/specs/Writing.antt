-- What a run writes at its end.
use Rattle.std.specs.Prelude.{◌++◌, ℕ, List, codes, decimal, length}
use Rattle.tree_laws.specs.declared.history.Entry.{Entry}
use Rattle.tree_laws.specs.History.{tree_after}
use Rattle.tree_laws.specs.Tree.{TreeState}
use Rattle.tree_totals.specs.Totals.{total_bytes, total_rows}
use Rattle.script.specs.Texts.{history_text}
use Rattle.scalefs_run.specs.declared.writing.Ending.{Ending}
use Rattle.scalefs_run.specs.declared.writing.Ending.TheVariants as ending
use Rattle.scalefs_run.specs.declared.writing.Writing.{Writing}
use Rattle.scalefs_run.specs.declared.writing.Writing.TheVariants.{History, Load}

-- the line `load SEED COUNT WORKERS: E calls, R rows, B bytes`
abbrev pub line_text : ℕ → ℕ → ℕ → ℕ → ℕ → ℕ → List ℕ
line_text seed count workers calls rows bytes =
    ((codes "load " ++ decimal seed) ++ ((codes " " ++ decimal count) ++ ((codes " " ++ decimal workers) ++ codes ": ")))
    ++ (decimal calls ++ ((codes " calls, " ++ decimal rows) ++ ((codes " rows, " ++ decimal bytes) ++ codes " bytes\n")))

-- what `load` writes: E is the entries of the history, R and B the rows and the bytes of live files of the tree after it
abbrev pub load_text : ℕ → ℕ → ℕ → TreeState → List Entry → List ℕ
load_text seed count workers tree history = line_text seed count workers (length history) (total_rows tree) (total_bytes tree)

-- the text of a run, from the tree with which it began: that of its history, or the line of `load` of the tree after it
abbrev pub text_behind : Writing → TreeState → List Entry → List ℕ
text_behind History first history = history_text history
text_behind (Load seed count workers) first history = load_text seed count workers (tree_after first history) history

-- and the text that is due by what was found at its end
abbrev pub text_due : Ending → List Entry → List ℕ
text_due ending.History history = history_text history
text_due (ending.Load seed count workers found) history = line_text seed count workers (length history) found.rows found.bytes
