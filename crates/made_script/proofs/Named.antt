-- A letter with a number behind it is a name of at most eleven bytes.
use Rattle.std.proofs.Common.{◌≡◌, ℕ, ◌+◌, ◌^◌, ◌<◌, ◌≤◌, Bool, false, not, List, [], ◌∷◌}
use Rattle.std.proofs.Common.{length, Option, Some, None, cond, nat_lt, refl, ap, ap₂, ◌∙◌, arith, ◌==◌, ◌||◌}
use Rattle.std.specs.Fmt.{decimal}
use Rattle.std.specs.List.{position, position_or_len}
use Rattle.std.proofs.lemmas.Bool.{ne_eqb}
use Rattle.std.proofs.lemmas.Fmt.{digits_decimal, length-decimal-le}
use Rattle.std.proofs.lemmas.Str.Parse.{IsDigitsTest, numerals_by_value}
use Rattle.std.specs.Int.{IsInRange}
use Rattle.std.specs.Prelude.{if◌then◌else◌}
use borrow.Author.Tests.{le-ltb}
use Rattle.sfs_base.specs.Name.{is_bad_byte, is_dots, name_fault}
use Rattle.sfs_base.specs.declared.name.NameFault.{NameFault}
use Rattle.sfs_base.specs.declared.name.NameFault.TheVariants.{Empty, TooLong, BadByte, Dot}
use Rattle.made_script.specs.Letters.{letter_byte}
use Rattle.made_script.specs.declared.names.Letter.{Letter}
use Rattle.made_script.specs.declared.names.Letter.TheVariants.{Worker, File, Renamed, Linked}
use Rattle.made_script.specs.Made.{numbered}

-- decimal digits alone
AreDigits : List ℕ → Type 0
AreDigits [] = Unit {0}
AreDigits (c ∷ cs) = IsInRange 48 57 c × AreDigits cs

digits_test : IsDigitsTest AreDigits
unfolding AreDigits
digits_test = record { empty = tt; parts = λ c cs digits. digits; more = λ c cs digit digits. (digit, digits) }

are_digits : (n : ℕ) → n < 2 ^ 64 → AreDigits (decimal n)
are_digits n below = digits_decimal (numerals_by_value AreDigits digits_test) n below

-- no digit is bad in a name
none_bad : (cs : List ℕ) → AreDigits cs → position_or_len is_bad_byte cs ≡ length cs
unfolding AreDigits
none_bad [] digits = refl
none_bad (c ∷ cs) digits =
    let not_zero : (c == 0) ≡ false = ne_eqb c 0 (λ e. let low = digits.0 in omega (arith, low, e)) in
    let not_slash : (c == 47) ≡ false = ne_eqb c 47 (λ e. let low = digits.0 in omega (arith, low, e)) in
    let good : is_bad_byte c ≡ false = ap₂ (λ a b. a || b) not_zero not_slash in
    ap (λ b. cond (not b) (1 + position_or_len is_bad_byte cs) 0) good ∙ ap (λ n. 1 + n) (none_bad cs digits.1) ∙ omega arith

pub name_is_short : (letter : Letter) (number : ℕ) → number < 2 ^ 32 → length (numbered (letter_byte letter) number) ≤ 11
name_is_short letter number below = let short = length-decimal-le 10 number (omega arith) (omega (arith, below)) (omega (arith, below)) in omega (arith, short)

-- the faults of a name in their order
abbrev bad_or_dots : Option ℕ → Bool → Option NameFault
bad_or_dots (Some at) dots = Some (BadByte at)
bad_or_dots None dots = if dots then Some Dot else None

abbrev fault_by : ℕ → Bool → Bool → Option ℕ → Bool → Option NameFault
fault_by size empty long bad dots = if empty then Some Empty else if long then Some (TooLong size) else bad_or_dots bad dots

no_fault : (name : List ℕ) → 0 < length name → length name ≤ 255 → position is_bad_byte name ≡ None → is_dots name ≡ false → name_fault name ≡ None
no_fault name some short good dots =
    let by_cases : name_fault name ≡ fault_by (length name) (length name == 0) (nat_lt 255 (length name)) (position is_bad_byte name) (is_dots name) = refl in
    let not_empty : (length name == 0) ≡ false = ne_eqb (length name) 0 (λ e. omega (arith, some, e)) in
    by_cases
    ∙ ap₂ (λ a b. fault_by (length name) a b (position is_bad_byte name) (is_dots name)) not_empty (le-ltb _ _ short)
    ∙ ap₂ (λ (a : Option ℕ) b. fault_by (length name) false false a b) good dots

-- no byte is bad where the letter is not, and digits follow
good_bytes : (letter : ℕ) (digits : List ℕ) → is_bad_byte letter ≡ false → AreDigits digits → position is_bad_byte (letter ∷ digits) ≡ None
good_bytes letter digits good are =
    let all : position_or_len is_bad_byte (letter ∷ digits) ≡ length (letter ∷ digits) =
    ap (λ b. cond (not b) (1 + position_or_len is_bad_byte digits) 0) good ∙ ap (λ n. 1 + n) (none_bad digits are) ∙ omega arith in
    ap (λ n. cond (nat_lt n (length (letter ∷ digits))) (Some n) None) all
    ∙ ap (λ b. cond b (Some (length (letter ∷ digits))) None) (le-ltb (length (letter ∷ digits)) (length (letter ∷ digits)) (omega arith))

pub is_name : (letter : Letter) (number : ℕ) → number < 2 ^ 32 → name_fault (numbered (letter_byte letter) number) ≡ None
is_name letter number below =
    let short = name_is_short letter number below in
    let digits = are_digits number (omega (arith, below)) in
    no_fault (numbered (letter_byte letter) number) (omega arith) (omega (arith, short)) (good_bytes (letter_byte letter) (decimal number) (good letter) digits)
    (no_dots letter)
  where
    good : (l : Letter) → is_bad_byte (letter_byte l) ≡ false
    good Worker = refl
    good File = refl
    good Renamed = refl
    good Linked = refl

    no_dots : (l : Letter) → is_dots (numbered (letter_byte l) number) ≡ false
    no_dots Worker = refl
    no_dots File = refl
    no_dots Renamed = refl
    no_dots Linked = refl
