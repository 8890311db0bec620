-- What clap makes of a first word: it enters a subcommand, or knows none of this name.
use Rattle.std.proofs.Common.{◌≡◌, true, false, List, [], ◌∷◌, Option, Some, None, refl, sym, ap, ◌∙◌, codes, fold, find}
use Rattle.std.specs.Prelude.{is_some, option_map}
use Rattle.std.specs.Option.{option_map_or}
use Rattle.clap.specs.Walk.{Text, Names, Held, Step, Walk, answers_to, finished, idle, nothing_held, rows_after, settled, walk_from, walked, word_met}
use Rattle.clap.specs.Kinds.{Kinds, or_else}
use Rattle.clap.specs.Faults.{check_fault, defaults_fault, entered_fault, fault_of, is_simple_and_free}
use Rattle.clap.specs.Faults.{level_fault, settle_fault, step_fault, stray_fault, turn_fault, walk_fault}
use Rattle.clap.specs.Simple.{Shape, built, entered, is_simple, label_of, names_of, rows_at, subcommand_of}
use Rattle.clap.proofs.FaultLemmas.{stopped_fault}
use Rattle.clap.proofs.WalkLemmas.{walk_stopped}
use Rattle.words.specs.Grammar.{grammar}
use Rattle.words.specs.Words.{begins_with_dash}
use Rattle.words.proofs.Plain.{plain, word_is_plain, word_has_no_fault}
use Rattle.words.proofs.Walked.{argument, subcommand, then_nothing}

pub is_free : is_simple_and_free grammar ≡ true
is_free = refl

pub is_plain : is_simple grammar ≡ true
is_plain = refl

-- the subcommands as clap builds them
abbrev pub shapes : List Shape
shapes =
    subcommand (codes "mkfs") (argument 3 4 ∷ []) ∷ subcommand (codes "run") (argument 0 1 ∷ []) ∷ subcommand (codes "load") (argument 3 3 ∷ [])
    ∷ subcommand (codes "check") (argument 0 1 ∷ []) ∷ subcommand (codes "show") [] ∷ subcommand (codes "verify") [] ∷ []

shapes_are : (built grammar).subs ≡ shapes
shapes_are = refl

abbrev pub top : Shape
top = (built grammar).top

abbrev pub names : Names
names = names_of (built grammar)

abbrev pub start : Walk
start = walk_from nothing_held

-- what is checked behind the walk, by where it stopped
abbrev pub rest_of : Walk → Kinds
rest_of w =
    or_else (entered_fault (built grammar) w.stopped)
    (or_else (settle_fault [] false w.held)
    (or_else (defaults_fault (settled [] w.held).rows []) (check_fault top (finished [] w.held) (is_some (entered (built grammar) w.stopped)))))

-- a first word that is the name of a subcommand enters it with the words behind it
module _ (name : Text) (shape : Shape) (met : walked [] names start name ≡ record start { stopped = Some (name, []) })
    (passes : turn_fault top names start name ≡ []) (found : find (λ s. answers_to name (label_of s)) shapes ≡ Some shape) where
  stops : (values : List Text) → fold (walked [] names) start (name ∷ values) ≡ record start { stopped = Some (name, values) }
  stops values = ap (λ w. fold (walked [] names) w values) met ∙ sym (walk_stopped [] names start name [] values)

  walk_passes : (values : List Text) → walk_fault top names start (name ∷ values) ≡ []
  unfolding walk_fault
  walk_passes values =
      ap (λ kinds. or_else kinds (walk_fault top names (walked [] names start name) values)) passes
      ∙ ap (λ w. walk_fault top names w values) met
      ∙ stopped_fault top names start (name, []) values

  below : List Text → Option Shape → Kinds
  below values found =
      or_else (option_map_or (λ s. level_fault s [] nothing_held values false []) found [])
      (check_fault top [] (is_some (option_map (λ s. rows_at s values) found)))

  pub fault_is : (values : List Text) → fault_of grammar (name ∷ values) ≡ level_fault shape [] nothing_held values false []
  unfolding below defaults_fault
  fault_is values =
      ap (λ kinds. or_else kinds (rest_of (fold (walked [] names) start (name ∷ values)))) (walk_passes values)
      ∙ ap rest_of (stops values)
      ∙ ap (below values) found
      ∙ then_nothing (level_fault shape [] nothing_held values false [])

  pub entered_is : (values : List Text) → subcommand_of grammar (name ∷ values) ≡ Some (shape.name, rows_after shape.rules [] values)
  entered_is values =
      ap (λ (w : Walk). entered (built grammar) w.stopped) (stops values) ∙ ap (λ o. option_map (λ s. rows_at s values) o) found

-- a first word that is no name is a fault
pub stray_is : (word : Text) → begins_with_dash word ≡ false → option_map (λ (s : Text × List Text). s.0) (find (answers_to word) names) ≡ None
    → turn_fault top names start word ≡ stray_fault top
stray_is word not none =
    ap (λ kinds. or_else kinds (step_fault top 1 (word_met [] names false idle 1 word nothing_held).0 (word_met [] names false idle 1 word nothing_held).1))
    (word_has_no_fault word (plain word not) top names idle nothing_held none)
    ∙ ap (λ (p : Held × Step). step_fault top 1 p.0 p.1) (word_is_plain word (plain word not) [] names idle 1 nothing_held none)

-- so is a word behind a name that takes none
pub stray_value_is : (name word : Text) → begins_with_dash word ≡ false
    → turn_fault (subcommand name []) [] start word ≡ stray_fault (subcommand name [])
stray_value_is name word not =
    ap (λ kinds. or_else kinds (step_fault (subcommand name []) 1 (word_met [] [] false idle 1 word nothing_held).0
    (word_met [] [] false idle 1 word nothing_held).1)) (word_has_no_fault word (plain word not) (subcommand name []) [] idle nothing_held refl)
    ∙ ap (λ (p : Held × Step). step_fault (subcommand name []) 1 p.0 p.1) (word_is_plain word (plain word not) [] [] idle 1 nothing_held refl)
