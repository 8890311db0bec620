-- The texts of a verdict.
use Rattle.std.specs.Prelude.{ℕ, ◌+◌, List, [], ◌∷◌, ◌++◌, codes, decimal, flat_map, length}
use Rattle.hex.specs.Hex.{encode_lower}
use Rattle.image_check.specs.declared.certificate.Certificate.{Certificate}
use Rattle.image_check.specs.declared.certificate.Holder.{Holder}

-- the line of a directory: `INODE HOLDER DEPTH`
abbrev pub place_text : Holder → List ℕ
place_text h = decimal h.inode ++ codes " " ++ decimal h.holder ++ codes " " ++ decimal h.depth ++ 10 ∷ []

-- the line of so many directories, the root being counted, and so many files: `sound D directories F files`
abbrev pub counts_text : ℕ → ℕ → List ℕ
counts_text directories files = codes "sound " ++ decimal directories ++ codes " directories " ++ decimal files ++ codes " files" ++ 10 ∷ []

-- the text of entries on directories and of a number of files: the line of both, and a line for each entry
abbrev pub sound_text : List Holder → ℕ → List ℕ
sound_text holders files = counts_text (length holders + 1) files ++ flat_map place_text holders

-- the text of a certificate
abbrev pub certificate_text : Certificate → List ℕ
certificate_text cert = sound_text cert.holders.items cert.files

-- the text of an inode that breaks a rule, with its record: `inode I rule R`, and `record HEX`
abbrev pub broken_text : ℕ → ℕ → List ℕ → List ℕ
broken_text inode rule bytes = codes "inode " ++ decimal inode ++ codes " rule " ++ decimal rule ++ 10 ∷ codes "record " ++ encode_lower bytes ++ 10 ∷ []
