-- What is proved of a made script.
use Rattle.std.specs.Prelude.{◌≡◌, ℕ, ◌+◌, ◌*◌, ◌++◌, List, Ok, codes, length, sum_by}
use Rattle.script.specs.declared.commands.Line.{Line}
use Rattle.script.specs.Phases.{phases_of}
use Rattle.made_script.specs.Made.{made}

-- how many lines a script has
abbrev pub line_count : List (List Line) → ℕ
line_count phases = sum_by length phases

-- A made script has a line for each directory, three for each item, and one for each flush of a directory.
abbrev pub IsAsLong : Type 0
IsAsLong = (seed count workers : ℕ) → line_count (made seed count workers) ≡ workers + 3 * count * workers + workers

-- the text of the script of the seed 1, with four items of one worker, whose draws are 1015568748, 1586005467, 2165703038 and 3027450565
abbrev pub ONE_WORKER : List ℕ
ONE_WORKER =
    codes "0 mkdir /w0\n---\n0 create /w0/f0\n0 write /w0/f0 0 6c59883c\n0 fsync /w0/f0\n0 create /w0/f1\n"
    ++ codes "0 write /w0/f1 0 db85885e\n0 fsync /w0/f1\n0 create /w0/f2\n0 write /w0/f2 0 7e011681\n"
    ++ codes "0 unlink /w0/f2\n0 create /w0/f3\n0 write /w0/f3 0 c53a73b4\n0 link /w0/f3 /w0/l3\n---\n"
    ++ codes "0 fsync /w0\n"

-- that of the same seed with one item of each of two workers
abbrev pub TWO_WORKERS : List ℕ
TWO_WORKERS =
    codes "0 mkdir /w0\n0 mkdir /w1\n---\n0 create /w0/f0\n0 write /w0/f0 0 6c59883c\n0 fsync /w0/f0\n"
    ++ codes "1 create /w1/f0\n1 write /w1/f0 0 79bfa13c\n1 rename /w1/f0 /w1/r0\n---\n0 fsync /w0\n1 fsync /w1\n"

-- Made scripts are those that are read from these texts.
pub record AreReadFromTheirTexts : Type 0 where
  pub one_worker : phases_of ONE_WORKER ≡ Ok (made 1 4 1)
  pub two_workers : phases_of TWO_WORKERS ≡ Ok (made 1 1 2)
