-- What is read is within its bounds, and so are a worker's calls.
use Rattle.std.proofs.Common.{◌≡◌, ℕ, ◌≤◌, Bool, true, false, cond, ◌&&◌, List, [], ◌∷◌, filter, map, Option, Some, None, option_map, Result, Ok, Err, refl, sym, ap, subst, ◌∙◌, arith, nat_eq, nat_le, bytes_eq, codes}
use Rattle.std.proofs.lemmas.Bool.Decides.{nat_tests}
use Rattle.std.specs.List.{AllByRecursion}
use Rattle.std.specs.Option.{option_zip}
use Rattle.tree_laws.specs.declared.reply.Reply.{Reply}
use Rattle.tree_laws.specs.declared.reply.Reply.TheVariants as reply
use Rattle.script.specs.declared.commands.Command.{Command}
use Rattle.script.specs.declared.commands.Command.TheVariants as command
use Rattle.script.specs.declared.commands.Line.{Line}
use Rattle.script.specs.declared.reading.line_kind.LineKind.{LineKind}
use Rattle.script.specs.declared.reading.line_kind.LineKind.TheVariants.{Skipped, Ends, Does}
use Rattle.script.specs.declared.reading.verbs.Verb.{Verb}
use Rattle.script.specs.declared.reading.verbs.Verb.TheVariants.{Create, Mkdir, Link, Unlink, Rmdir, Rename, Write, Read, Trunc, Stat, List as Lists, Fsync}
use Rattle.script.specs.Commands.{command_of, command_with, verb_of, worker_of, line_in, worker_line, kind_of_line, read_count, offset_of, all_three}
use Rattle.script.specs.Words.{number_up_to, is_number, value_of}
use Rattle.script.specs.Paths.{path_of}
use Rattle.script.specs.Lines.{lines, words}
use Rattle.script.specs.Phases.{phases_of, phases_from, with_line, with_line_kind, first_phase_longer}
use Rattle.script.specs.Walks.{WalkState, First, Second, Last, Done, first_walk, second_walk, on_first, on_second, begun, after, Position, go_on, started, taken, commands_of}
use Rattle.script.specs.Ready.{MayRun, EndsWell, IsReady, PositionReady, LinesMayRun}
use Rattle.sfs_base.proofs.BasicTruth.{and_second}

on_second_ready : (command : Command) (first node : ℕ) (names : List (List ℕ)) → EndsWell command → IsReady (on_second command first node names)
on_second_ready command first node [] well = well first node
on_second_ready command first node (name ∷ names) well = well

on_first_ready : (command : Command) (node : ℕ) (names : List (List ℕ)) → EndsWell command → IsReady (on_first command node names)
on_first_ready command node [] well = on_second_ready command node 0 (second_walk command) well
on_first_ready command node (name ∷ names) well = well

begun_ready : (command : Command) → MayRun command → IsReady (begun command)
begun_ready (command.Create path) may = on_first_ready (command.Create path) 0 (first_walk (command.Create path)) (λ first second. tt)
begun_ready (command.Mkdir path) may = on_first_ready (command.Mkdir path) 0 (first_walk (command.Mkdir path)) (λ first second. tt)
begun_ready (command.Link from to) may = on_first_ready (command.Link from to) 0 (first_walk (command.Link from to)) (λ first second. tt)
begun_ready (command.Unlink path) may = on_first_ready (command.Unlink path) 0 (first_walk (command.Unlink path)) (λ first second. tt)
begun_ready (command.Rmdir path) may = on_first_ready (command.Rmdir path) 0 (first_walk (command.Rmdir path)) (λ first second. tt)
begun_ready (command.Rename from to) may = on_first_ready (command.Rename from to) 0 (first_walk (command.Rename from to)) (λ first second. tt)
begun_ready (command.Write path at bytes) may = on_first_ready (command.Write path at bytes) 0 (first_walk (command.Write path at bytes)) (λ first second. tt)
begun_ready (command.Read path at count) may = on_first_ready (command.Read path at count) 0 (first_walk (command.Read path at count)) (λ first second. may)
begun_ready (command.Trunc path size) may = on_first_ready (command.Trunc path size) 0 (first_walk (command.Trunc path size)) (λ first second. tt)
begun_ready (command.Stat path) may = on_first_ready (command.Stat path) 0 (first_walk (command.Stat path)) (λ first second. tt)
begun_ready (command.List path) may = on_first_ready (command.List path) 0 (first_walk (command.List path)) (λ first second. tt)
begun_ready (command.Fsync path) may = on_first_ready (command.Fsync path) 0 (first_walk (command.Fsync path)) (λ first second. tt)

after_ready : (walk : WalkState) (reply : Reply) → IsReady walk → IsReady (after walk reply)
after_ready (First command node name names) (reply.Node child kind) ready = on_first_ready command child.0 names ready
after_ready (First command node name names) _ ready = tt
after_ready (Second command first node name names) (reply.Node child kind) ready = on_second_ready command first child.0 names ready
after_ready (Second command first node name names) _ ready = tt
after_ready (Last call) reply ready = tt
after_ready Done reply ready = tt

go_on_ready : (walk : WalkState) (commands : List Command) → IsReady walk → AllByRecursion MayRun commands → PositionReady (go_on walk commands)
go_on_ready Done [] ready later = record { now = tt; later = tt }
go_on_ready Done (command ∷ commands) ready later = record { now = begun_ready command later.0; later = later.1 }
go_on_ready (First command node name names) commands ready later = record { now = ready; later = later }
go_on_ready (Second command first node name names) commands ready later = record { now = ready; later = later }
go_on_ready (Last call) commands ready later = record { now = ready; later = later }

-- a worker after one more reply
pub taken_ready : (position : Position) (reply : Reply) → PositionReady position → PositionReady (taken position reply)
taken_ready position reply ready = go_on_ready (after position.walk reply) position.later (after_ready position.walk reply ready.now) ready.later

commands_may : (worker : ℕ) (phase : List Line) → LinesMayRun phase → AllByRecursion MayRun (commands_of worker phase)
commands_may worker [] may = tt
commands_may worker (line ∷ phase) may =
    elim (nat_eq line.worker worker) as (λ t. AllByRecursion MayRun
    (map (λ l. l.command) (cond t (line ∷ filter (λ l. nat_eq l.worker worker) phase) (filter (λ l. nat_eq l.worker worker) phase)))) [
      | true ↦ (may.0, commands_may worker phase may.1)
      | false ↦ commands_may worker phase may.1
    ]

-- a worker before its first call
pub started_ready : (worker : ℕ) (phase : List Line) → LinesMayRun phase → PositionReady (started (commands_of worker phase))
started_ready worker phase may = go_on_ready Done (commands_of worker phase) tt (commands_may worker phase may)

-- a number that is read is at most the bound
number_within : (most : ℕ) (word : List ℕ) (n : ℕ) → number_up_to most word ≡ Some n → n ≤ most
number_within most word n e =
    elim (is_number word && nat_le (value_of word) most) as (λ t. (is_number word && nat_le (value_of word) most) ≡ t
    → cond t (Some (value_of word)) None ≡ Some n → n ≤ most) [
      | true ↦ λ t f. let is : value_of word ≡ n = cc in let le = and_second (is_number word) (nat_le (value_of word) most) t in grind (arith, nat_tests)
      | false ↦ λ t f. absurd (none_some f)
    ] refl e
  where
    none_some : None ≡ Some n → ⊥
    none_some e = cc

-- a command that is there may run
abbrev SomeMay : Option Command → Type 0
SomeMay (Some command) = MayRun command
SomeMay None = Unit {0}

some_may : (found : Option Command) (command : Command) → SomeMay found → found ≡ Some command → MayRun command
some_may (Some given) command may e = let is : given ≡ command = cc in subst MayRun is may
some_may None command may e = absurd (let never : None ≡ Some command = e in cc)

read_may : (path : Option (List (List ℕ))) (at count : Option ℕ) → ((n : ℕ) → count ≡ Some n → n ≤ 65536)
    → SomeMay (option_map (λ read. command.Read read.0 read.1 read.2) (all_three path at count))
read_may (Some path) (Some at) (Some count) within = within count refl
read_may (Some path) (Some at) None within = tt
read_may (Some path) None count within = tt
read_may None at count within = tt

other_may : {A : Type 0} (found : Option A) (make : A → Command) → ((a : A) → MayRun (make a)) → SomeMay (option_map make found)
other_may (Some a) make may = may a
other_may None make may = tt

reads_may : (words : List (List ℕ)) → SomeMay (command_of Read words)
reads_may [] = tt
reads_may (first ∷ []) = tt
reads_may (first ∷ second ∷ []) = tt
reads_may (first ∷ second ∷ third ∷ []) = read_may (path_of first) (offset_of second) (read_count third) (λ n e. number_within 65536 third n e)
reads_may (first ∷ second ∷ third ∷ fourth ∷ words) = tt

command_may : (verb : Verb) (words : List (List ℕ)) → SomeMay (command_of verb words)
command_may Create words = other_may _ command.Create (λ a. tt)
command_may Mkdir words = other_may _ command.Mkdir (λ a. tt)
command_may Link words = other_may _ (λ read. command.Link read.0 read.1) (λ a. tt)
command_may Unlink words = other_may _ command.Unlink (λ a. tt)
command_may Rmdir words = other_may _ command.Rmdir (λ a. tt)
command_may Rename words = other_may _ (λ read. command.Rename read.0 read.1) (λ a. tt)
command_may Write words = other_may _ (λ read. command.Write read.0 read.1 read.2) (λ a. tt)
command_may Read words = reads_may words
command_may Trunc words = other_may _ (λ read. command.Trunc read.0 read.1) (λ a. tt)
command_may Stat words = other_may _ command.Stat (λ a. tt)
command_may Lists words = other_may _ command.List (λ a. tt)
command_may Fsync words = other_may _ command.Fsync (λ a. tt)

-- a line that is there has a command that may run
abbrev LineMay : Option Line → Type 0
LineMay (Some line) = MayRun line.command
LineMay None = Unit {0}

with_may : (worker : Option ℕ) (found : Option Command) → SomeMay found → LineMay (option_map worker_line (option_zip worker found))
with_may (Some worker) (Some command) may = may
with_may (Some worker) None may = tt
with_may None (Some command) may = tt
with_may None None may = tt

verb_may : (verb : Option Verb) (words : List (List ℕ)) → SomeMay (command_with verb words)
verb_may (Some verb) words = command_may verb words
verb_may None words = tt

line_may : (words : List (List ℕ)) → LineMay (line_in words)
line_may [] = tt
line_may (worker ∷ []) = tt
line_may (worker ∷ verb ∷ words) = with_may (worker_of worker) (command_with (verb_of verb) words) (verb_may (verb_of verb) words)

-- what a line is leads to a command that may run
abbrev KindMay : Option LineKind → Type 0
KindMay (Some (Does line)) = MayRun line.command
KindMay (Some Skipped) = Unit {0}
KindMay (Some Ends) = Unit {0}
KindMay None = Unit {0}

does_may : (found : Option Line) → LineMay found → KindMay (option_map Does found)
does_may (Some line) may = may
does_may None may = tt

kind_may : (line : List ℕ) → KindMay (kind_of_line line)
kind_may [] = tt
kind_may (byte ∷ bytes) =
    elim (nat_eq byte 35) as (λ t. KindMay
    (cond t (Some Skipped) (cond (bytes_eq (byte ∷ bytes) (codes "---")) (Some Ends) (option_map Does (line_in (words (byte ∷ bytes))))))) [
      | true ↦ tt
      | false ↦ elim (bytes_eq (byte ∷ bytes) (codes "---")) as (λ t. KindMay (cond t (Some Ends) (option_map Does (line_in (words (byte ∷ bytes)))))) [
        | true ↦ tt
        | false ↦ does_may (line_in (words (byte ∷ bytes))) (line_may (words (byte ∷ bytes)))
      ]
    ]

longer_may : (line : Line) (phases : List (List Line)) → MayRun line.command → AllByRecursion LinesMayRun phases
    → AllByRecursion LinesMayRun (first_phase_longer line phases)
longer_may line [] may all = ((may, tt), tt)
longer_may line (phase ∷ phases) may all = ((may, all.0), all.1)

added_may : (line_kind : LineKind) (phases : List (List Line)) → KindMay (Some line_kind) → AllByRecursion LinesMayRun phases
    → AllByRecursion LinesMayRun (with_line_kind line_kind phases)
added_may Skipped phases may all = all
added_may Ends phases may all = (tt, all)
added_may (Does line) phases may all = longer_may line phases may all

-- the phases that are read, where all lines are in the grammar
abbrev ReadMay : Result (List (List Line)) ℕ → Type 0
ReadMay (Ok phases) = AllByRecursion LinesMayRun phases
ReadMay (Err line) = Unit {0}

with_line_may : (number : ℕ) (line_kind : Option LineKind) (behind : Result (List (List Line)) ℕ) → KindMay line_kind → ReadMay behind
    → ReadMay (with_line number line_kind behind)
with_line_may number None behind may all = tt
with_line_may number (Some line_kind) (Ok phases) may all = added_may line_kind phases may all
with_line_may number (Some line_kind) (Err later) may all = tt

from_may : (number : ℕ) (ls : List (List ℕ)) → ReadMay (phases_from number ls)
from_may number [] = (tt, tt)
from_may number (line ∷ later) =
    with_line_may number (kind_of_line line) (phases_from (Rattle.std.proofs.Common.suc number) later) (kind_may line)
    (from_may (Rattle.std.proofs.Common.suc number) later)

-- Every command of a script that is read is within its bounds.
pub phases_may : (text : List ℕ) (phases : List (List Line)) → phases_of text ≡ Ok phases → AllByRecursion LinesMayRun phases
phases_may text phases e = subst ReadMay e (from_may 1 (lines text))
