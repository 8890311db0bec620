-- What clap makes of the words behind a first word: they are the values of its one argument, as many as there are.
use Rattle.std.proofs.Common.{◌≡◌, ℕ, Bool, true, false, not, List, [], ◌∷◌, ◌++◌, length}
use Rattle.std.proofs.Common.{min, Some, None, cond, refl, sym, ap, ◌∙◌, ◌&&◌, ◌||◌, fold, append_assoc}
use Rattle.std.proofs.lemmas.List.{append-nil}
use Rattle.std.specs.Prelude.{nat_lt, if◌then◌else◌}
use Rattle.std.specs.List.{list_any}
use Rattle.sfs_base.proofs.BasicTruth.{or_first, or_second, and_false}
use Rattle.clap.specs.Lexer.{usize_max}
use Rattle.clap.specs.Walk.{Text, Rule, Held, Step, Walk, action_of, after_step, all_of, idle, positional}
use Rattle.clap.specs.Walk.{is_append, is_pending, nothing_held, pushed, rows_after, settled, takes_several, walk_from, walked, word_met, finished}
use Rattle.clap.specs.Kinds.{Kinds, or_else, range_kinds, values_kinds}
use Rattle.clap.specs.Faults.{level_fault, check_fault, settle_fault, step_fault, turn_fault, walk_fault, defaults_fault}
use Rattle.clap.specs.Simple.{Shape, new_shape}
use Rattle.clap.specs.declared.builder.action.ArgAction.TheVariants.{Set}
use Rattle.clap.specs.declared.builder.value_parser.ValueParser.TheVariants as vp
use Rattle.clap.specs.declared.error.kind.ErrorKind.TheVariants as kind
use Rattle.words.specs.Grammar.{NUMBERS, numbers}
use Rattle.words.specs.Words.{begins_with_dash}
use Rattle.words.proofs.Plain.{plain, word_is_plain, word_has_no_fault}

-- the argument as clap builds it
abbrev pub argument : ℕ → ℕ → Rule
argument least most = record (numbers least most) { index = Some 1; action = Some Set; parser = Some vp.String }

-- a subcommand as clap builds it
abbrev pub subcommand : Text → List Rule → Shape
subcommand name rules =
    record (new_shape name) { rules = rules; no_binary_name = true; disable_help_flag = true; disable_help_subcommand = true; is_built = true }

-- what is held once these values were met
abbrev pub holding : List Text → Held
holding values = record { rows = []; pending = Some (NUMBERS, values); skip = 0 }

abbrev at : List Text → Walk
at values = record { held = holding values; waiting = positional; position = 1; is_trailing = false; stopped = None }

pub then_nothing : (kinds : Kinds) → or_else kinds [] ≡ kinds
then_nothing [] = refl
then_nothing (k ∷ ks) = refl

-- what is checked at the end of a subcommand's values
abbrev pub end_fault : Shape → Walk → Kinds
end_fault shape w =
    or_else (settle_fault shape.rules false w.held)
    (or_else (defaults_fault (settled shape.rules w.held).rows shape.rules) (check_fault shape (finished shape.rules w.held) false))

module _ (name : Text) (least most : ℕ) (several : takes_several (argument least most) ≡ true) where
  abbrev rule : Rule
  rule = argument least most

  abbrev rules : List Rule
  rules = rule ∷ []

  abbrev pub shape : Shape
  shape = subcommand name rules

  -- where a word goes, by whether the argument takes several
  abbrev to : Held → Text → Bool → Walk
  to held word b = record {
    held = pushed NUMBERS word (if is_pending rule held.pending && b then held else settled rules held);
    waiting = if b || is_append (action_of rule) then positional else idle;
    position = if b || is_append (action_of rule) then 1 else min 2 usize_max;
    is_trailing = false;
    stopped = None;
  }

  first_word : (word : Text) → begins_with_dash word ≡ false → walked rules [] (walk_from nothing_held) word ≡ at (word ∷ [])
  unfolding walked
  first_word word not =
      ap (λ (p : Held × Step). after_step rules word (walk_from nothing_held) p.0 p.1)
      (word_is_plain word (plain word not) rules [] idle 1 nothing_held refl)
      ∙ ap (to nothing_held word) several

  next_word : (values : List Text) (word : Text) → begins_with_dash word ≡ false → walked rules [] (at values) word ≡ at (values ++ word ∷ [])
  unfolding walked
  next_word values word not =
      ap (λ (p : Held × Step). after_step rules word (at values) p.0 p.1)
      (word_is_plain word (plain word not) rules [] positional 1 (holding values) refl)
      ∙ ap (to (holding values) word) several

  more_words : (values words : List Text) → list_any begins_with_dash words ≡ false → fold (walked rules []) (at values) words ≡ at (values ++ words)
  more_words values [] not = ap at (sym (append-nil values))
  more_words values (word ∷ words) not =
      ap (λ w. fold (walked rules []) w words) (next_word values word (or_first _ _ not))
      ∙ more_words (values ++ word ∷ []) words (or_second (begins_with_dash word) _ not)
      ∙ ap at (append_assoc values (word ∷ []) words)

  -- the walk over one value or more
  walk_is : (word : Text) (words : List Text) → list_any begins_with_dash (word ∷ words) ≡ false
      → fold (walked rules []) (walk_from nothing_held) (word ∷ words) ≡ at (word ∷ words)
  walk_is word words not =
      ap (λ w. fold (walked rules []) w words) (first_word word (or_first _ _ not)) ∙ more_words (word ∷ []) words (or_second (begins_with_dash word) _ not)

  -- no word is a fault by itself
  first_passes : (word : Text) → begins_with_dash word ≡ false → turn_fault shape [] (walk_from nothing_held) word ≡ []
  first_passes word not =
      ap (λ kinds. or_else kinds (step_fault shape 1 (word_met rules [] false idle 1 word nothing_held).0 (word_met rules [] false idle 1 word nothing_held).1))
      (word_has_no_fault word (plain word not) shape [] idle nothing_held refl)
      ∙ ap (λ (p : Held × Step). step_fault shape 1 p.0 p.1) (word_is_plain word (plain word not) rules [] idle 1 nothing_held refl)

  next_passes : (values : List Text) (word : Text) → begins_with_dash word ≡ false → turn_fault shape [] (at values) word ≡ []
  next_passes values word not =
      ap (λ kinds. or_else kinds (step_fault shape 1 (word_met rules [] false positional 1 word (holding values)).0
      (word_met rules [] false positional 1 word (holding values)).1))
      (word_has_no_fault word (plain word not) shape [] positional (holding values) refl)
      ∙ ap (λ (p : Held × Step). step_fault shape 1 p.0 p.1) (word_is_plain word (plain word not) rules [] positional 1 (holding values) refl)
      ∙ ap (λ b. cond b [] (settle_fault rules false (holding values))) several

  more_pass : (values words : List Text) → list_any begins_with_dash words ≡ false → walk_fault shape [] (at values) words ≡ []
  unfolding walk_fault
  more_pass values [] not = refl
  more_pass values (word ∷ words) not =
      ap (λ kinds. or_else kinds (walk_fault shape [] (walked rules [] (at values) word) words)) (next_passes values word (or_first _ _ not))
      ∙ ap (λ w. walk_fault shape [] w words) (next_word values word (or_first _ _ not))
      ∙ more_pass (values ++ word ∷ []) words (or_second (begins_with_dash word) _ not)

  walk_passes : (word : Text) (words : List Text) → list_any begins_with_dash (word ∷ words) ≡ false
      → walk_fault shape [] (walk_from nothing_held) (word ∷ words) ≡ []
  unfolding walk_fault
  walk_passes word words not =
      ap (λ kinds. or_else kinds (walk_fault shape [] (walked rules [] (walk_from nothing_held) word) words)) (first_passes word (or_first _ _ not))
      ∙ ap (λ w. walk_fault shape [] w words) (first_word word (or_first _ _ not))
      ∙ more_pass (word ∷ []) words (or_second (begins_with_dash word) _ not)

  -- each text is a value
  all_texts : (values : List Text) → values_kinds false vp.String values ≡ []
  all_texts [] = refl
  all_texts (text ∷ values) = all_texts values

  -- one value or more: how many they are
  ends : (word : Text) (words : List Text) → end_fault shape (at (word ∷ words)) ≡ range_kinds least most (length (word ∷ words))
  unfolding defaults_fault
  ends word words =
      ap (λ kinds. or_else (or_else (range_kinds least most (length (word ∷ words))) kinds)
      (if (nat_lt 0 least && false) || false then kind.MissingRequiredArgument ∷ [] else [])) (all_texts (word ∷ words))
      ∙ ap (λ b. or_else (or_else (range_kinds least most (length (word ∷ words))) [])
      (if b || false then kind.MissingRequiredArgument ∷ [] else [])) (and_false (nat_lt 0 least))
      ∙ then_nothing (or_else (range_kinds least most (length (word ∷ words))) [])
      ∙ then_nothing (range_kinds least most (length (word ∷ words)))

  pub level_is : (word : Text) (words : List Text) → list_any begins_with_dash (word ∷ words) ≡ false
      → level_fault shape [] nothing_held (word ∷ words) false [] ≡ range_kinds least most (length (word ∷ words))
  level_is word words not =
      ap (λ kinds. or_else kinds (end_fault shape (fold (walked rules []) (walk_from nothing_held) (word ∷ words)))) (walk_passes word words not)
      ∙ ap (end_fault shape) (walk_is word words not)
      ∙ ends word words

  pub values_are : (word : Text) (words : List Text) → list_any begins_with_dash (word ∷ words) ≡ false
      → all_of NUMBERS (rows_after rules [] (word ∷ words)) ≡ Some (word ∷ words)
  values_are word words not = ap (λ (w : Walk). all_of NUMBERS (finished rules w.held)) (walk_is word words not)
