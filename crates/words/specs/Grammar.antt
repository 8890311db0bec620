-- What clap is told of the words.
use Rattle.std.specs.Prelude.{ℕ, true, [], ◌∷◌, Some, codes, fold, nat_lt}
use Rattle.clap.specs.Walk.{Text, Rule}
use Rattle.clap.specs.Simple.{App, new_app, new_rule, new_shape, on_top, with_rule, with_subcommand}

-- the one argument of a subcommand, which takes all its numbers
abbrev pub NUMBERS : Text
NUMBERS = codes "numbers"

-- from so many to so many numbers; they are required where none is too few
abbrev pub numbers : ℕ → ℕ → Rule
numbers least most =
    record (new_rule NUMBERS) { range = Some (record { start_inclusive = least; end_inclusive = most }); required = nat_lt 0 least }

-- a subcommand with so many numbers
abbrev pub numbered : Text → ℕ → ℕ → App
numbered name least most = with_rule (new_app name) (numbers least most)

-- a command that needs a subcommand, without clap's own words of help
abbrev pub bare : App
bare = on_top (λ s. record s {
  no_binary_name = true;
  disable_help_flag = true;
  disable_help_subcommand = true;
  subcommand_required = true;
}) (new_app (codes "scalefs"))

-- the command with its subcommands
abbrev pub grammar : App
grammar =
    fold with_subcommand bare
    ((numbered (codes "mkfs") 3 4).top ∷ (numbered (codes "run") 0 1).top ∷ (numbered (codes "load") 3 3).top ∷ (numbered (codes "check") 0 1).top
    ∷ new_shape (codes "show") ∷ new_shape (codes "verify") ∷ [])
