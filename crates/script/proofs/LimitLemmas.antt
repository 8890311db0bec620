-- A script makes no more calls than it has bytes.
use Rattle.std.proofs.Common.{◌≡◌, ℕ, suc, ◌+◌, ◌-◌, ◌≤◌, true, false, cond, List, [], ◌∷◌, length, Option, Some, None, Result, Ok, Err, option_map, refl, ap, arith, nat_eq, nat_le, bytes_eq, codes, length-take}
use Rattle.std.specs.Option.{option_zip}
use Rattle.std.proofs.lemmas.List.Sums.{sum_by-cons}
use Rattle.script.specs.declared.commands.Command.{Command}
use Rattle.script.specs.declared.commands.Command.TheVariants as command
use Rattle.script.specs.declared.commands.Line.{Line}
use Rattle.script.specs.declared.reading.verbs.Verb.{Verb}
use Rattle.script.specs.declared.reading.verbs.Verb.TheVariants.{Create, Mkdir, Link, Unlink, Rmdir, Rename, Write, Read, Trunc, Stat, List as Lists, Fsync}
use Rattle.script.specs.declared.reading.line_kind.LineKind.{LineKind}
use Rattle.script.specs.declared.reading.line_kind.LineKind.TheVariants.{Skipped, Ends, Does}
use Rattle.sfs_base.specs.Path.{path_length}
use Rattle.script.specs.Lines.{lines, parts, words, first_longer}
use Rattle.script.specs.Paths.{with_name, name_in, names_in, names_behind, path_names, short_path, path_of, named, name_path_of}
use Rattle.script.specs.Words.{hex_bytes}
use Rattle.script.specs.Commands.{one, two, three, all_three, offset_of, read_count, command_of, verb_of, command_with, worker_of, worker_line, line_in, kind_of_line}
use Rattle.script.specs.Phases.{first_phase_longer, with_line, phases_from, phases_of}
use Rattle.script.specs.Places.{parent}
use Rattle.script.proofs.LineLemmas.{total, parts_total}
use Rattle.script.specs.Limits.{most_calls, calls_of_lines, calls_of_phases}

-- the lines of some bytes have no others
lines_total : (bytes : List ℕ) → total (lines bytes) ≤ length bytes
lines_total [] = omega arith
lines_total (b ∷ bs) =
    let before = lines_total bs in
    elim (nat_eq b 10) as (λ t. total (cond t ([] ∷ lines bs) (first_longer b (lines bs))) ≤ suc (length bs)) [
      | true ↦ omega (arith, before)
      | false ↦ longer b (lines bs) (length bs) before
    ]
  where
    longer : (b : ℕ) (later : List (List ℕ)) (n : ℕ) → total later ≤ n → total (first_longer b later) ≤ suc n
    longer b [] n le = omega (arith, le)
    longer b (l ∷ ls) n le = omega (arith, le)

-- how many names there are, where there are any
abbrev count : Option (List (List ℕ)) → ℕ
count (Some names) = length names
count None = 0

with_name-count : (name : Option (List ℕ)) (names : Option (List (List ℕ))) → count (with_name name names) ≤ suc (count names)
with_name-count (Some name) (Some names) = omega arith
with_name-count (Some name) None = omega arith
with_name-count None names = omega arith

names_of-count : (texts : List (List ℕ)) → count (names_in texts) ≤ length texts
names_of-count [] = omega arith
names_of-count (text ∷ texts) =
    let later = names_of-count texts in
    let one_more = with_name-count (name_in text) (names_in texts) in
    omega (arith, later, one_more)

names_behind-count : (bytes : List ℕ) → count (names_behind bytes) ≤ length bytes + 1
names_behind-count [] = omega arith
names_behind-count (b ∷ bs) =
    let few = names_of-count (parts 47 (b ∷ bs)) in
    let all = parts_total 47 (b ∷ bs) in
    omega (arith, few, all)

path_names-count : (word : List ℕ) → count (path_names word) ≤ length word
path_names-count [] = omega arith
path_names-count (b ∷ bs) =
    let behind = names_behind-count bs in
    elim (nat_eq b 47) as (λ t. count (cond t (names_behind bs) None) ≤ suc (length bs)) [ true ↦ omega (arith, behind) | false ↦ omega arith ]

short_path-count : (names : Option (List (List ℕ))) → count (short_path names) ≤ count names
short_path-count (Some names) =
    elim (nat_le (path_length names) 4096) as (λ t. count (cond t (Some names) None) ≤ length names) [ true ↦ omega arith | false ↦ omega arith ]
short_path-count None = omega arith

named-count : (names : Option (List (List ℕ))) → count (named names) ≤ count names
named-count (Some []) = omega arith
named-count (Some (name ∷ names)) = omega arith
named-count None = omega arith

path_of-count : (word : List ℕ) → count (path_of word) ≤ length word
path_of-count word =
    let all = path_names-count word in
    let short = short_path-count (path_names word) in
    omega (arith, all, short)

name_path_of-count : (word : List ℕ) → count (name_path_of word) ≤ length word
name_path_of-count word =
    let all = path_of-count word in
    let some = named-count (path_of word) in
    omega (arith, all, some)

-- how many calls a command makes at most, where there is one
abbrev calls : Option Command → ℕ
calls (Some command) = most_calls command
calls None = 0

parent-count : (path : List (List ℕ)) → length (parent path) ≤ length path
parent-count path = omega (arith, length-take (length path - 1) path)

-- a command with one path
one_calls : (make : List (List ℕ) → Command) (read : List ℕ → Option (List (List ℕ))) → ((path : List (List ℕ)) → most_calls (make path) ≤ length path + 1)
    → ((word : List ℕ) → count (read word) ≤ length word) → (words : List (List ℕ)) → calls (option_map make (one read words)) ≤ total words + 1
one_calls make read few short [] = omega arith
one_calls make read few short (word ∷ []) = let long = short word in let made = make_calls (read word) in omega (arith, long, made)
  where
    make_calls : (path : Option (List (List ℕ))) → calls (option_map make path) ≤ count path + 1
    make_calls (Some path) = few path
    make_calls None = omega arith
one_calls make read few short (word ∷ other ∷ words) = omega arith

-- a command with two paths
two_calls : (make : List (List ℕ) → List (List ℕ) → Command) (read : List ℕ → Option (List (List ℕ)))
    → ((from to : List (List ℕ)) → most_calls (make from to) ≤ length from + length to + 1) → ((word : List ℕ) → count (read word) ≤ length word)
    → (words : List (List ℕ)) → calls (option_map (λ read. make read.0 read.1) (two read name_path_of words)) ≤ total words + 1
two_calls make read few short [] = omega arith
two_calls make read few short (word ∷ []) = omega arith
two_calls make read few short (first ∷ second ∷ []) =
    let one = short first in
    let other = name_path_of-count second in
    let made = make_calls (read first) (name_path_of second) in
    omega (arith, one, other, made)
  where
    make_calls : (from to : Option (List (List ℕ))) → calls (option_map (λ read. make read.0 read.1) (option_zip from to)) ≤ count from + count to + 1
    make_calls (Some from) (Some to) = few from to
    make_calls (Some from) None = omega arith
    make_calls None to = omega arith
two_calls make read few short (first ∷ second ∷ third ∷ words) = omega arith

-- a truncation
trunc_calls : (words : List (List ℕ)) → calls (option_map (λ read. command.Trunc read.0 read.1) (two path_of offset_of words)) ≤ total words + 1
trunc_calls [] = omega arith
trunc_calls (word ∷ []) = omega arith
trunc_calls (first ∷ second ∷ []) = let long = path_of-count first in let made = make_calls (path_of first) (offset_of second) in omega (arith, long, made)
  where
    make_calls : (path : Option (List (List ℕ))) (size : Option ℕ)
        → calls (option_map (λ read. command.Trunc read.0 read.1) (option_zip path size)) ≤ count path + 1
    make_calls (Some path) (Some size) = omega arith
    make_calls (Some path) None = omega arith
    make_calls None size = omega arith
trunc_calls (first ∷ second ∷ third ∷ words) = omega arith

-- a write or a read
three_calls : {A : Type 0} (make : List (List ℕ) → ℕ → A → Command) (read : List ℕ → Option A)
    → ((path : List (List ℕ)) (at : ℕ) (last : A) → most_calls (make path at last) ≤ length path + 1) → (words : List (List ℕ))
    → calls (option_map (λ read. make read.0 read.1 read.2) (three path_of offset_of read words)) ≤ total words + 1
three_calls make read few [] = omega arith
three_calls make read few (word ∷ []) = omega arith
three_calls make read few (first ∷ second ∷ []) = omega arith
three_calls {A = A} make read few (first ∷ second ∷ third ∷ []) = let long = path_of-count first in
    let made = make_calls (path_of first) (offset_of second) (read third) in omega (arith, long, made)
  where
    make_calls : (path : Option (List (List ℕ))) (at : Option ℕ) (last : Option A)
        → calls (option_map (λ read. make read.0 read.1 read.2) (all_three path at last)) ≤ count path + 1
    make_calls (Some path) (Some at) (Some last) = few path at last
    make_calls (Some path) (Some at) None = omega arith
    make_calls (Some path) None last = omega arith
    make_calls None at last = omega arith
three_calls make read few (first ∷ second ∷ third ∷ fourth ∷ words) = omega arith

-- a command makes no more calls than its words have bytes, and one
command_calls : (verb : Verb) (words : List (List ℕ)) → calls (command_of verb words) ≤ total words + 1
command_calls Create words = one_calls command.Create name_path_of (λ path. let few = parent-count path in omega (arith, few)) name_path_of-count words
command_calls Mkdir words = one_calls command.Mkdir name_path_of (λ path. let few = parent-count path in omega (arith, few)) name_path_of-count words
command_calls Link words = two_calls command.Link path_of (λ from to. let few = parent-count to in omega (arith, few)) path_of-count words
command_calls Unlink words = one_calls command.Unlink name_path_of (λ path. let few = parent-count path in omega (arith, few)) name_path_of-count words
command_calls Rmdir words = one_calls command.Rmdir name_path_of (λ path. let few = parent-count path in omega (arith, few)) name_path_of-count words
command_calls Rename words =
    two_calls command.Rename name_path_of
    (λ from to. let few = parent-count from in let also = parent-count to in omega (arith, few, also)) name_path_of-count words
command_calls Write words = three_calls command.Write hex_bytes (λ path at last. omega arith) words
command_calls Read words = three_calls command.Read read_count (λ path at last. omega arith) words
command_calls Trunc words = trunc_calls words
command_calls Stat words = one_calls command.Stat path_of (λ path. omega arith) path_of-count words
command_calls Lists words = one_calls command.List path_of (λ path. omega arith) path_of-count words
command_calls Fsync words = one_calls command.Fsync path_of (λ path. omega arith) path_of-count words

-- how many calls a line makes at most, where it is one
abbrev line_calls : Option Line → ℕ
line_calls (Some line) = most_calls line.command
line_calls None = 0

zip_calls : (worker : Option ℕ) (command : Option Command) → line_calls (option_map worker_line (option_zip worker command)) ≤ calls command
zip_calls (Some worker) (Some command) = omega arith
zip_calls (Some worker) None = omega arith
zip_calls None command = omega arith

with_calls : (verb : Option Verb) (words : List (List ℕ)) → calls (command_with verb words) ≤ total words + 1
with_calls (Some verb) words = command_calls verb words
with_calls None words = omega arith

line_of-calls : (words : List (List ℕ)) → line_calls (line_in words) ≤ total words + length words - 1
line_of-calls [] = omega arith
line_of-calls (worker ∷ []) = omega arith
line_of-calls (worker ∷ verb ∷ words) =
    let zipped = zip_calls (worker_of worker) (command_with (verb_of verb) words) in
    let made = with_calls (verb_of verb) words in
    omega (arith, zipped, made)

-- how many calls what a line is makes at most
abbrev kind_calls : Option LineKind → ℕ
kind_calls (Some (Does line)) = most_calls line.command
kind_calls (Some Skipped) = 0
kind_calls (Some Ends) = 0
kind_calls None = 0

does_calls : (line : Option Line) → kind_calls (option_map Does line) ≡ line_calls line
does_calls (Some line) = refl
does_calls None = refl

kind_of_line-calls : (line : List ℕ) → kind_calls (kind_of_line line) ≤ length line
kind_of_line-calls [] = omega arith
kind_of_line-calls (b ∷ bs) =
    let made = line_of-calls (words (b ∷ bs)) in
    let all = parts_total 32 (b ∷ bs) in
    let same = does_calls (line_in (words (b ∷ bs))) in
    let within : kind_calls (option_map Does (line_in (words (b ∷ bs)))) ≤ suc (length bs) = omega (arith, made, all, same) in
    elim (nat_eq b 35) as (λ t. kind_calls
    (cond t (Some Skipped) (cond (bytes_eq (b ∷ bs) (codes "---")) (Some Ends) (option_map Does (line_in (words (b ∷ bs))))))
    ≤ suc (length bs)) [
      | true ↦ omega arith
      | false ↦
          elim (bytes_eq (b ∷ bs) (codes "---")) as (λ t. kind_calls (cond t (Some Ends) (option_map Does (line_in (words (b ∷ bs)))))
          ≤ suc (length bs)) [
            | true ↦
                omega arith
            | false ↦ within
          ]
    ]

-- how many calls phases make at most, where there are some
abbrev read_calls : Result (List (List Line)) ℕ → ℕ
read_calls (Ok phases) = calls_of_phases phases
read_calls (Err number) = 0

longer_calls : (line : Line) (phases : List (List Line)) → calls_of_phases (first_phase_longer line phases) ≡ most_calls line.command + calls_of_phases phases
longer_calls line [] = omega (arith, sum_by-cons calls_of_lines (line ∷ []) [], sum_by-cons (λ line. most_calls line.command) line [])
longer_calls line (phase ∷ phases) =
    omega (
      arith,
      sum_by-cons calls_of_lines (line ∷ phase) phases,
      sum_by-cons (λ line. most_calls line.command) line phase,
      sum_by-cons calls_of_lines phase phases,
    )

with_line-calls : (number : ℕ) (line_kind : Option LineKind) (later : Result (List (List Line)) ℕ)
    → read_calls (with_line number line_kind later) ≤ kind_calls line_kind + read_calls later
with_line-calls number None later = omega arith
with_line-calls number (Some line_kind) (Err line) = omega arith
with_line-calls number (Some Skipped) (Ok phases) = omega arith
with_line-calls number (Some Ends) (Ok phases) = omega (arith, sum_by-cons calls_of_lines [] phases)
with_line-calls number (Some (Does line)) (Ok phases) = omega (arith, longer_calls line phases)

phases_from-calls : (number : ℕ) (ls : List (List ℕ)) → read_calls (phases_from number ls) ≤ total ls
phases_from-calls number [] = omega (arith, sum_by-cons calls_of_lines [] [])
phases_from-calls number (line ∷ later) =
    let first = kind_of_line-calls line in
    let behind = phases_from-calls (suc number) later in
    let both = with_line-calls number (kind_of_line line) (phases_from (suc number) later) in
    omega (arith, first, behind, both)

-- A script makes no more calls than it has bytes.
pub calls_within : (text : List ℕ) (phases : List (List Line)) → phases_of text ≡ Ok phases → calls_of_phases phases ≤ length text
calls_within text phases read =
    let few = phases_from-calls 1 (lines text) in
    let all = lines_total text in
    let same : read_calls (phases_of text) ≡ calls_of_phases phases = ap read_calls read in
    omega (arith, few, all, same)
