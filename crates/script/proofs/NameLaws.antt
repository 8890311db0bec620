-- What is written of a name is read as that name.
use Rattle.std.proofs.Common.{◌≡◌, ℕ, suc, ◌<◌, ◌/◌, ◌%◌, Bool, true, false, cond, not, ◌&&◌, ◌||◌, List, [], ◌∷◌, ◌++◌, length, get_or, Some, None, is_none, inl, inr, All, refl, sym, ap, ◌∙◌, arith, nat_eq, nat_lt, nat_le, position}
use Rattle.std.proofs.lemmas.Bool.{cases_Bool}
use borrow.Author.Tests.{ne_eqb, eqb-false}
use Rattle.std.specs.Fmt.{digit_glyph}
use Rattle.std.specs.List.{list_all, range_with_len}
use Rattle.percent_encoding.specs.Percent.{percent_decode}
use Rattle.percent_encoding.proofs.PercentLemmas.{round_trip, IsByte}
use Rattle.hex.specs.Hex.{is_hex_digit}
use Rattle.sfs_base.specs.declared.name.NameFault.TheVariants.{Empty, TooLong, BadByte}
use Rattle.sfs_base.specs.Name.{name_fault, is_bad_byte}
use Rattle.script.specs.declared.writing.arguments.TheConstants.{ESCAPED}
use Rattle.script.specs.Paths.{is_text_byte, begins_with_digits, is_name_text, name_in}
use Rattle.script.specs.Texts.{is_shown, byte_text, name_text}
use Rattle.sfs_base.proofs.BasicTruth.{and_second, or_second, not_true}
use Rattle.sfs_base.proofs.BasicTruth.{and_first}
use Rattle.script.proofs.LineLemmas.{none_passes}
use Rattle.script.proofs.TextLemmas.{tested, percent_encode-name_text}

-- a digit of an escape may stand in a name's text, and is not `%`
abbrev is_good_digit : ℕ → Bool
is_good_digit digit = is_text_byte digit && not (nat_eq digit 37) && is_hex_digit digit

all_digits : list_all (λ d. is_good_digit (digit_glyph true d)) (range_with_len 0 16) ≡ true
all_digits = refl

good_digit : (d : ℕ) → d < 16 → is_good_digit (digit_glyph true d) ≡ true
good_digit d small = tested (λ d. is_good_digit (digit_glyph true d)) 0 16 d all_digits (omega arith) (omega arith)

-- a byte of a text that may stand there whatever comes behind
stands : (b : ℕ) (text : List ℕ) → is_text_byte b ≡ true → nat_eq b 37 ≡ false → is_name_text text ≡ true → is_name_text (b ∷ text) ≡ true
stands b text is plain behind =
    ap (λ t. (t && (not (nat_eq b 37) || begins_with_digits text)) && is_name_text text) is
    ∙ ap (λ t. (not t || begins_with_digits text) && is_name_text text) plain
    ∙ behind

-- a digit of an escape, likewise
digit_stands : (digit : ℕ) (text : List ℕ) → is_good_digit digit ≡ true → is_name_text text ≡ true → is_name_text (digit ∷ text) ≡ true
digit_stands digit text good behind =
    let both : (is_text_byte digit && not (nat_eq digit 37)) ≡ true = and_first _ _ good in
    stands digit text (and_first _ _ both) (not_true _ (and_second _ _ both)) behind

-- an escape
escape_stands : (b : ℕ) (text : List ℕ) → is_name_text text ≡ true
    → is_name_text (37 ∷ digit_glyph true (b / 16 % 16) ∷ digit_glyph true (b % 16) ∷ text) ≡ true
escape_stands b text behind =
    escaped (digit_glyph true (b / 16 % 16)) (digit_glyph true (b % 16)) (good_digit (b / 16 % 16) (omega arith)) (good_digit (b % 16) (omega arith))
  where
    escaped : (high low : ℕ) → is_good_digit high ≡ true → is_good_digit low ≡ true → is_name_text (37 ∷ high ∷ low ∷ text) ≡ true
    escaped high low h l =
        ap (λ t. (t && is_hex_digit low) && is_name_text (high ∷ low ∷ text)) (and_second (is_text_byte high && not (nat_eq high 37)) (is_hex_digit high) h)
        ∙ ap (λ t. t && is_name_text (high ∷ low ∷ text)) (and_second (is_text_byte low && not (nat_eq low 37)) (is_hex_digit low) l)
        ∙ digit_stands high (low ∷ text) h (digit_stands low text l behind)

-- what is written of a byte other than `/`
byte_stands : (b : ℕ) (text : List ℕ) → (b ≡ 47 → ⊥) → is_name_text text ≡ true → is_name_text (byte_text b ++ text) ≡ true
byte_stands b text other behind =
    elim (is_shown b) as (λ t. is_shown b ≡ t
    → is_name_text (cond t (b ∷ []) (37 ∷ digit_glyph true (b / 16 % 16) ∷ digit_glyph true (b % 16) ∷ []) ++ text) ≡ true) [
      | true ↦ λ shown.
          let within : (nat_le 33 b && nat_le b 126) ≡ true = and_first _ _ shown in
          let is : is_text_byte b ≡ true = ap (λ t. t && not (nat_eq b 47)) within ∙ ap not (ne_eqb b 47 other) in
          stands b text is (not_true _ (and_second _ _ shown)) behind
      | false ↦ λ _. escape_stands b text behind
    ] refl

-- what is written of bytes other than `/`
text_stands : (name : List ℕ) → ((k : ℕ) → k < length name → get_or name k 0 ≡ 47 → ⊥) → is_name_text (name_text name) ≡ true
text_stands [] other = refl
text_stands (b ∷ bs) other = byte_stands b (name_text bs) (other 0 (omega arith)) (text_stands bs (λ k lt. other (suc k) (omega arith)))

-- a name has no byte 0 and no `/`
none_bad : (name : List ℕ) → name_fault name ≡ None → position is_bad_byte name ≡ None
none_bad name named =
    elim (cases_Bool (nat_eq (length name) 0)) [
      | inl empty ↦ absurd (let e : name_fault name ≡ Some Empty = rw empty refl in cc)
      | inr some ↦ elim (cases_Bool (nat_lt 255 (length name))) [
        | inl long ↦ absurd (let e : name_fault name ≡ Some (TooLong (length name)) = rw (some, long) refl in cc)
        | inr fits ↦ elim (position is_bad_byte name) as (λ p. position is_bad_byte name ≡ p → p ≡ None) [
          | None ↦ λ _. refl
          | Some at ↦ λ found. absurd (let e : name_fault name ≡ Some (BadByte at) = rw (some, fits, found) refl in cc)
        ] refl
      ]
    ]

-- What is written of a name is read as that name.
pub name_read_back : (name : List ℕ) → name_fault name ≡ None → All IsByte name → name_in (name_text name) ≡ Some name
name_read_back name named small =
    let other =
    λ (k : ℕ) (lt : k < length name). eqb-false (get_or name k 0) 47
    (or_second (nat_eq (get_or name k 0) 0) _ (none_passes is_bad_byte name (none_bad name named) k lt)) in
    let spelled : percent_decode (name_text name) ≡ name = ap percent_decode (sym (percent_encode-name_text name)) ∙ round_trip ESCAPED name refl small in
    ap (λ t. cond (t && is_none (name_fault (percent_decode (name_text name)))) (Some (percent_decode (name_text name))) None) (text_stands name other)
    ∙ ap (λ n. cond (is_none (name_fault n)) (Some n) None) spelled
    ∙ ap (λ fault. cond (is_none fault) (Some name) None) named
