-- A word that does not begin with `-` is no flag to clap.
use Rattle.std.proofs.Common.{◌≡◌, ℕ, false, List, [], ◌∷◌, Option, Some, None, cond, refl, ap, ◌∙◌, ◌&&◌}
use Rattle.std.specs.Prelude.{option_and_then}
use Rattle.std.specs.Option.{option_map_or}
use Rattle.std.specs.Str.{bytes_eq}
use Rattle.clap.specs.Lexer.{long_of, long_of_rest, short_of, short_of_rest, strip_byte}
use Rattle.clap.specs.Walk.{Text, Names, Rule, Held, Waiting, trailing}
use Rattle.clap.specs.Walk.{subcommand_met, subcommand_or_other, long_or_other, short_or_plain, plain_word, word_met}
use Rattle.clap.specs.Faults.{bundle_fault, flag_word_fault, other_fault, word_fault}
use Rattle.clap.specs.Simple.{Shape}
use Rattle.words.specs.Words.{begins_with_dash}

-- no flag, neither long nor short nor `--`
pub record IsPlain (word : Text) : Type 0 where
  pub dashes : bytes_eq word (45 ∷ 45 ∷ []) ≡ false
  pub long : long_of word ≡ None
  pub short : short_of word ≡ None

pub plain : (word : Text) → begins_with_dash word ≡ false → IsPlain word
plain [] not = record { dashes = refl; long = refl; short = refl }
plain (x ∷ xs) not = record {
  dashes = ap (λ b. b && bytes_eq xs (45 ∷ [])) not;
  long = ap (λ b. option_and_then long_of_rest (option_and_then (strip_byte 45) (cond b (Some xs) None))) not;
  short = ap (λ b. option_and_then short_of_rest (cond b (Some xs) None)) not;
}

-- it goes where a word goes that is no flag, and is no fault by itself
module _ (word : Text) (is : IsPlain word) where
  pub word_is_plain : (rules : List Rule) (names : Names) (waiting : Waiting) (position : ℕ) (held : Held) → subcommand_met names waiting word ≡ None
      → word_met rules names false waiting position word held ≡ plain_word rules waiting word held
  word_is_plain rules names waiting position held none =
      ap (λ (o : Option Text). subcommand_or_other rules o waiting position word held) none
      ∙ ap (λ b. cond b (held, trailing position) (long_or_other rules waiting word (long_of word) held)) is.dashes
      ∙ ap (λ o. long_or_other rules waiting word o held) is.long
      ∙ ap (λ o. short_or_plain rules waiting word o held) is.short

  pub word_has_no_fault : (shape : Shape) (names : Names) (waiting : Waiting) (held : Held) → subcommand_met names waiting word ≡ None
      → word_fault shape names false waiting word held ≡ []
  word_has_no_fault shape names waiting held none =
      ap (λ (o : Option Text). other_fault shape o word held) none
      ∙ ap (λ b. cond b [] (flag_word_fault shape.rules shape.args_override_self (long_of word) word held)) is.dashes
      ∙ ap (λ o. flag_word_fault shape.rules shape.args_override_self o word held) is.long
      ∙ ap (λ (o : Option Text). option_map_or (λ flags. bundle_fault shape.rules shape.args_override_self flags held) o []) is.short
