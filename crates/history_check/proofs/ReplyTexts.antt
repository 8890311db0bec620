-- What is written of a reply to an fsync is read as it, and no reply ends a line.
use Rattle.std.proofs.Common.{◌≡◌, ℕ, ◌-◌, ◌<◌, ◌^◌, List, [], ◌∷◌, ◌++◌, codes, Option, Some, option_map, refl, ap, ◌∙◌, arith, flat_map}
use Rattle.std.specs.Fmt.{decimal}
use Rattle.std.specs.Option.{option_zip}
use Rattle.sfs_base.specs.declared.numbers.Kind.{Kind}
use Rattle.sfs_base.specs.declared.numbers.Kind.TheVariants.{File, Directory}
use Rattle.sfs_base.specs.declared.numbers.SpaceKind.{SpaceKind}
use Rattle.sfs_base.specs.declared.numbers.SpaceKind.TheVariants.{Inodes, Blocks}
use Rattle.tree_laws.specs.declared.reply.Code.{Code}
use Rattle.tree_laws.specs.declared.reply.Code.TheVariants.{NoEntry, Exists, NotDir, IsDir, NotEmpty, Invalid, NotPermitted, TooManyLinks, FileTooBig, DirFull, NoNodes}
use Rattle.tree_laws.specs.declared.reply.Reply.{Reply}
use Rattle.tree_laws.specs.declared.reply.Reply.TheVariants as reply
use Rattle.tree_laws.specs.History.{IsFsyncReply}
use Rattle.script.specs.Texts.{name_text, bytes_text, kind_text, code_text, space_text, mark_text, listed_text, reply_text}
use Rattle.script.specs.Words.{number_up_to}
use Rattle.history_check.specs.Reading.{behind, short_number, long_number, spelled_space, spelled_no_space, flush_reply_of, flush_reply_in}
use Rattle.history_check.specs.Values.{HasNumbers}
use Rattle.history_check.proofs.FirstWords.{IsPlain, IsSolid, plain_of_solid, word_first, word_alone, behind_first}
use Rattle.history_check.proofs.Solid.{plain_both, decimal_solid, name_solid, bytes_solid}
use Rattle.history_check.proofs.Spelled.{number_again}
use Rattle.history_check.proofs.CallTexts.{short_again, four_more}

-- numbers at the end of a line
short_last : (n : ℕ) → n < 2 ^ 32 → short_number (decimal n) ≡ Some n
short_last n small = ap (number_up_to (2 ^ 32 - 1)) (word_alone (decimal n) (decimal_solid n)) ∙ number_again (2 ^ 32 - 1) n (omega arith) (omega arith)

long_last : (n : ℕ) → n < 2 ^ 64 → long_number (decimal n) ≡ Some n
long_last n small = ap (number_up_to (2 ^ 64 - 1)) (word_alone (decimal n) (decimal_solid n)) ∙ number_again (2 ^ 64 - 1) n (omega arith) (omega arith)

-- a reply's first word
reply_first : (w rest : List ℕ) → IsSolid w → flush_reply_in (w ++ 32 ∷ rest) ≡ flush_reply_of w rest
reply_first w rest solid =
    ap (λ first. flush_reply_of first (behind (w ++ 32 ∷ rest))) (word_first w rest solid) ∙ ap (flush_reply_of w) (behind_first w rest solid)

space_again : (kind : SpaceKind) → spelled_space (space_text kind) ≡ Some kind
space_again Inodes = refl
space_again Blocks = refl

space_solid : (kind : SpaceKind) → IsSolid (space_text kind)
space_solid Inodes = refl
space_solid Blocks = refl

-- what is told of a disk that has too little
no_space_again : (kind : SpaceKind) (need free : ℕ) → need < 2 ^ 32 → free < 2 ^ 32
    → spelled_no_space (space_text kind ++ 32 ∷ (codes "need" ++ 32 ∷ (decimal need ++ 32 ∷ (codes "free" ++ 32 ∷ decimal free))))
    ≡ Some (reply.NoSpace kind need free)
no_space_again kind need free small few =
    ap (λ w. option_map made (option_zip (spelled_space w) (numbers (behind all)))) (word_first (space_text kind) later (space_solid kind))
    ∙ ap (λ k. option_map made (option_zip k (numbers (behind all)))) (space_again kind)
    ∙ ap (λ left. option_map made (option_zip (Some kind) (numbers left))) (behind_first (space_text kind) later (space_solid kind))
    ∙ ap (λ left. option_map made (option_zip (Some kind) (option_zip (short_number left) (short_number (behind (behind left))))))
    (behind_first (codes "need") last refl)
    ∙ ap (λ n. option_map made (option_zip (Some kind) (option_zip n (short_number (behind (behind last))))))
    (short_again need (codes "free" ++ 32 ∷ decimal free) small)
    ∙ ap (λ left. option_map made (option_zip (Some kind) (option_zip (Some need) (short_number (behind left)))))
    (behind_first (decimal need) (codes "free" ++ 32 ∷ decimal free) (decimal_solid need))
    ∙ ap (λ left. option_map made (option_zip (Some kind) (option_zip (Some need) (short_number left)))) (behind_first (codes "free") (decimal free) refl)
    ∙ ap (λ n. option_map made (option_zip (Some kind) (option_zip (Some need) n))) (short_last free few)
  where
    made : SpaceKind × (ℕ × ℕ) → Reply
    made told = reply.NoSpace told.0 told.1.0 told.1.1

    numbers : List ℕ → Option (ℕ × ℕ)
    numbers left = option_zip (short_number (behind left)) (short_number (behind (behind (behind left))))

    last : List ℕ
    last = decimal need ++ 32 ∷ (codes "free" ++ 32 ∷ decimal free)

    later : List ℕ
    later = codes "need" ++ 32 ∷ last

    all : List ℕ
    all = space_text kind ++ 32 ∷ later

-- What is written of a reply to an fsync is read as it.
pub flush_reply_again : (r : Reply) → IsFsyncReply r → HasNumbers r → flush_reply_in (reply_text r) ≡ Some r
flush_reply_again reply.Ok is has = refl
flush_reply_again (reply.Node node kind) is has = absurd is
flush_reply_again (reply.Bytes bytes) is has = absurd is
flush_reply_again (reply.Stat kind links size) is has = absurd is
flush_reply_again (reply.Names rows) is has = absurd is
flush_reply_again (reply.Error code) is has = absurd is
flush_reply_again reply.DiskFailed is has = refl
flush_reply_again (reply.NoSpace kind need free) is has =
    ap flush_reply_in (four_more (codes "nospace " ++ space_text kind) (codes " need ") (decimal need) (codes " free ") (decimal free))
    ∙ reply_first (codes "nospace") (space_text kind ++ 32 ∷ (codes "need" ++ 32 ∷ (decimal need ++ 32 ∷ (codes "free" ++ 32 ∷ decimal free)))) refl
    ∙ no_space_again kind need free has.0 has.1
flush_reply_again (reply.Stopped faults) is has =
    reply_first (codes "stopped") (decimal faults) refl ∙ ap (option_map reply.Stopped) (long_last faults has)
flush_reply_again reply.NoMemory is has = refl

-- words that end no line
kind_plain : (kind : Kind) → IsPlain (kind_text kind)
kind_plain File = refl
kind_plain Directory = refl

code_plain : (code : Code) → IsPlain (code_text code)
code_plain NoEntry = refl
code_plain Exists = refl
code_plain NotDir = refl
code_plain IsDir = refl
code_plain NotEmpty = refl
code_plain Invalid = refl
code_plain NotPermitted = refl
code_plain TooManyLinks = refl
code_plain FileTooBig = refl
code_plain DirFull = refl
code_plain NoNodes = refl

mark_plain : (kind : Kind) → IsPlain (mark_text kind)
mark_plain File = refl
mark_plain Directory = refl

rows_plain : (rows : List (List ℕ × Kind)) → IsPlain (flat_map listed_text rows)
rows_plain [] = refl
rows_plain (row ∷ rows) =
    let name = plain_of_solid (name_text row.0) (name_solid row.0) in
    plain_both (listed_text row) (flat_map listed_text rows)
    (plain_both (codes " " ++ name_text row.0) (mark_text row.1) name (mark_plain row.1)) (rows_plain rows)

pub number_plain : (n : ℕ) → IsPlain (decimal n)
number_plain n = plain_of_solid (decimal n) (decimal_solid n)

-- No reply's text has an end of a line.
pub reply_plain : (r : Reply) → IsPlain (reply_text r)
reply_plain reply.Ok = refl
reply_plain (reply.Node node kind) =
    plain_both (codes "node " ++ decimal node.0 ++ codes " ") (kind_text kind)
    (plain_both (codes "node " ++ decimal node.0) (codes " ") (plain_both (codes "node ") (decimal node.0) refl (number_plain node.0)) refl) (kind_plain kind)
reply_plain (reply.Bytes bytes) = plain_both (codes "bytes ") (bytes_text bytes) refl (plain_of_solid (bytes_text bytes) (bytes_solid bytes))
reply_plain (reply.Stat kind links size) =
    let first = plain_both (codes "stat ") (kind_text kind) refl (kind_plain kind) in
    let spaced = plain_both (codes "stat " ++ kind_text kind) (codes " ") first refl in
    let second = plain_both (codes "stat " ++ kind_text kind ++ codes " ") (decimal links) spaced (number_plain links) in
    plain_both (codes "stat " ++ kind_text kind ++ codes " " ++ decimal links ++ codes " ") (decimal size)
    (plain_both (codes "stat " ++ kind_text kind ++ codes " " ++ decimal links) (codes " ") second refl) (number_plain size)
reply_plain (reply.Names rows) = plain_both (codes "list") (flat_map listed_text rows) refl (rows_plain rows)
reply_plain (reply.Error code) = plain_both (codes "error ") (code_text code) refl (code_plain code)
reply_plain reply.DiskFailed = refl
reply_plain (reply.NoSpace kind need free) =
    let first = plain_both (codes "nospace ") (space_text kind) refl (plain_of_solid (space_text kind) (space_solid kind)) in
    let second = plain_both (codes "nospace " ++ space_text kind) (codes " need ") first refl in
    let third = plain_both (codes "nospace " ++ space_text kind ++ codes " need ") (decimal need) second (number_plain need) in
    let fourth = plain_both (codes "nospace " ++ space_text kind ++ codes " need " ++ decimal need) (codes " free ") third refl in
    plain_both (codes "nospace " ++ space_text kind ++ codes " need " ++ decimal need ++ codes " free ") (decimal free) fourth (number_plain free)
reply_plain (reply.Stopped faults) = plain_both (codes "stopped ") (decimal faults) refl (number_plain faults)
reply_plain reply.NoMemory = refl
