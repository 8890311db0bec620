use Rattle.std.proofs.Common.{sym}
use Rattle.script.proofs.PathLemmas.{long_path}
use Rattle.script.proofs.reading.paths.path_of.Goals as goal

pub returns-then-word-gt-LONGEST_TEXT : goal.returns-then-word-gt-LONGEST_TEXT
returns-then-word-gt-LONGEST_TEXT c = sym (long_path c.args.word.now c.if-word-gt-LONGEST_TEXT.true)
