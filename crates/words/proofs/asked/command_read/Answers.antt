-- What was read is the first word and the values behind it.
use Rattle.std.proofs.Common.{◌≡◌, List, [], Option, Some, None, Box, sym, ap, ap₂, ◌∙◌}
use Rattle.std.specs.Prelude.{option_map, unwrap_or}
use Rattle.std.specs.Box.{box_value}
use Rattle.clap.specs.Matches.{found_of}
use Rattle.clap.specs.Simple.{subcommand_rows}
use Rattle.clap.specs.Walk.{Text, Row, all_of, rows_of}
use Rattle.clap.specs.declared.parser.matches.ArgMatches.TheViews.{out-ArgMatches, out-SubCommand}
use Rattle.clap.specs.declared.parser.matches.SubCommand.{SubCommand}
use Rattle.clap.proofs.WalkLemmas.{raw_values-rows}
use Rattle.sfs_base.proofs.BasicOptions.{some_same}
use Rattle.words.specs.Grammar.{NUMBERS}
use Rattle.words.specs.Words.{command_in, command_of}
use Rattle.words.proofs.asked.command_read.Goals as goal

-- the name and the rows of a subcommand stand together
names_match : {Z : Type 0} (o : Option (Box SubCommand Z)) (word : Text) (rows : List Row) → subcommand_rows o ≡ Some (word, rows)
    → option_map (λ b. (out-SubCommand (box_value b)).name.now) o ≡ Some word
names_match None word rows e = cc
names_match (Some b) word rows e = ap (λ (p : Option (Text × List Row)). option_map (λ q. q.0) p) e

pub returns-in-Some-get_strs-clause-command : goal.returns-in-Some-get_strs-clause-command
returns-in-Some-get_strs-clause-command c words read =
    let matches = c.args.matches.now in
    let word : c.in-Some.word.now ≡ read.word =
    some_same (c.in-Some.ensures.name ∙ names_match (out-ArgMatches matches).subcommand read.word read.rows read.entered) in
    let rows : rows_of (found_of c.in-Some.given.now) ≡ read.rows =
    some_same (c.in-Some.ensures.rows ∙ ap (λ (p : Option (Text × List Row)). option_map (λ q. q.1) p) read.entered) in
    let values = c.in-Some-get_strs.ensures ∙ raw_values-rows (found_of c.in-Some.given.now) NUMBERS ∙ ap (all_of NUMBERS) rows in
    c.command_of.ensures.command ∙ ap₂ command_of word (ap (λ v. unwrap_or v []) values) ∙ sym (ap command_in read.is)

pub returns-in-None-clause-command : goal.returns-in-None-clause-command
returns-in-None-clause-command c words read =
    let matches = c.args.matches.now in
    let word : c.in-Some.word.now ≡ read.word =
    some_same (c.in-Some.ensures.name ∙ names_match (out-ArgMatches matches).subcommand read.word read.rows read.entered) in
    let rows : rows_of (found_of c.in-Some.given.now) ≡ read.rows =
    some_same (c.in-Some.ensures.rows ∙ ap (λ (p : Option (Text × List Row)). option_map (λ q. q.1) p) read.entered) in
    let values = c.in-None.ensures ∙ raw_values-rows (found_of c.in-Some.given.now) NUMBERS ∙ ap (all_of NUMBERS) rows in
    c.command_of-in-None.ensures.command ∙ ap₂ command_of word (ap (λ v. unwrap_or v []) values) ∙ sym (ap command_in read.is)
