-- What a made name is of.
use Rattle.std.specs.Prelude.{ℕ}
use Rattle.made_script.specs.declared.names.Letter.{Letter}
use Rattle.made_script.specs.declared.names.Letter.TheVariants.{Worker, File, Renamed, Linked}

-- the letter of a name: `w`, `f`, `r` and `l`
abbrev pub letter_byte : Letter → ℕ
letter_byte Worker = 119
letter_byte File = 102
letter_byte Renamed = 114
letter_byte Linked = 108
