-- What is written of a number, a name and bytes is read again.
use Rattle.std.proofs.Common.{All, Option, ◌≡◌, ℕ, ◌*◌, ◌<◌, ◌≤◌, ◌^◌, ◌/◌, ◌%◌, Bool, true, false, cond, not, ◌&&◌, List, [], ◌∷◌, length, get_or, fold, codes, Some, None, is_none, inl, inr, refl, ap, ◌∙◌, arith, rules, nat_eq, nat_lt, nat_le}
use borrow.Author.Tests.{ltb-true, ltb-false, eqb-true, ne_eqb}
use Rattle.std.proofs.lemmas.Bool.{le-leb, cases_Bool}
use Rattle.sfs_base.specs.declared.name.NameFault.TheVariants.{TooLong}
use Rattle.sfs_base.proofs.BasicTruth.{and_first}
use Rattle.std.proofs.lemmas.List.{length-append, get_or_past, get_or_default}
use Rattle.std.proofs.lemmas.Fmt.{digits_decimal, digits_value-decimal, decimal_digit, decimal_nonempty, first_decimal}
use Rattle.std.proofs.lemmas.Str.Parse.{IsNumeralModel, numerals_by_fold}
use Rattle.std.proofs.lemmas.Slice.Eq.{bytes_eq-Decides}
use Rattle.std.specs.Fmt.{digit_glyph, decimal}
use Rattle.std.specs.Str.{bytes_eq}
use Rattle.std.specs.List.{list_all}
use Rattle.hex.specs.Hex.{encode_lower, lower_digits, decode_of, IsBytes}
use Rattle.hex.proofs.HexLemmas.{decode_of-encode_lower, length-encode_with}
use Rattle.percent_encoding.specs.Percent.{percent_decode}
use Rattle.sfs_base.specs.Name.{name_fault}
use Rattle.script.specs.Texts.{is_shown, byte_text, name_text, bytes_text}
use Rattle.script.specs.Words.{is_decimal, is_number, with_digit, value_of, number_up_to, decoded, hex_bytes, MOST_DIGITS}
use Rattle.script.specs.Paths.{is_name_text}
use Rattle.script.proofs.NameLaws.{name_read_back}
use Rattle.history_check.specs.Reading.{LONGEST_NAME_TEXT, if_name, spelled_name}
use Rattle.history_check.specs.Values.{IsName, IsChunk}

-- digits, and the number that they spell
own : IsNumeralModel (λ ds. list_all is_decimal ds ≡ true) value_of
own = numerals_by_fold _ (search rules) (λ value ds. fold with_digit value ds) (search rules)

-- digits with no zero before others
number_is : (ds : List ℕ) → list_all is_decimal ds ≡ true → 0 < length ds → (1 < length ds → 48 < get_or ds 0 0) → is_number ds ≡ true
number_is [] all some high = absurd (omega arith)
number_is (d ∷ []) all some high = and_first (is_decimal d) true all
number_is (d ∷ e ∷ ds) all some high =
    let first = high (omega arith) in
    ap (λ t. not t && list_all is_decimal (d ∷ e ∷ ds)) (ne_eqb d 48 (λ e. omega (arith, e))) ∙ all

decimal_number : (n : ℕ) → n < 2 ^ 64 → is_number (decimal n) ≡ true
decimal_number n small =
    number_is (decimal n) (digits_decimal own n small) (decimal_nonempty n small)
    (elim (nat_lt n 10) as (λ t. nat_lt n 10 ≡ t → 1 < length (decimal n) → 48 < get_or (decimal n) 0 0) [
      | true ↦ λ t two. let one = ap length (decimal_digit n (ltb-true n 10 t)) in absurd (omega (arith, one))
      | false ↦ λ t two. let high = ltb-false n 10 t in first_decimal n (omega arith) small
    ] refl)

-- What is written of a number is read as it.
pub number_again : (most n : ℕ) → n ≤ most → n < 2 ^ 64 → number_up_to most (decimal n) ≡ Some n
number_again most n within small =
    let value : value_of (decimal n) ≡ n = digits_value-decimal own n small in
    ap (λ t. cond (t && nat_le (value_of (decimal n)) most) (Some (value_of (decimal n))) None) (decimal_number n small)
    ∙ ap (λ v. cond (nat_le v most) (Some v) None) value
    ∙ ap (λ t. cond t (Some n) None) (le-leb n most within)

-- the text of a name is not long
byte_short : (b : ℕ) → length (byte_text b) ≤ 3
byte_short b = elim (is_shown b) as (λ t. length (cond t (b ∷ []) (37 ∷ digit_glyph true (b / 16 % 16) ∷ digit_glyph true (b % 16) ∷ [])) ≤ 3) [
  | true ↦ omega arith
  | false ↦ omega arith
]

name_short : (name : List ℕ) → length (name_text name) ≤ 3 * length name
name_short [] = omega arith
name_short (b ∷ bs) =
    let first = byte_short b in let later = name_short bs in let both = length-append (byte_text b) (name_text bs) in omega (arith, first, later, both)

-- a name has at most 255 bytes
few_bytes : (name : List ℕ) → name_fault name ≡ None → length name ≤ 255
few_bytes name named =
    elim (cases_Bool (nat_eq (length name) 0)) [
      | inl empty ↦ let none = eqb-true (length name) 0 empty in omega (arith, none)
      | inr some ↦ elim (cases_Bool (nat_lt 255 (length name))) [
        | inl long ↦ absurd (let e : name_fault name ≡ Some (TooLong (length name)) = rw (some, long) refl in cc)
        | inr fits ↦ ltb-false 255 (length name) fits
      ]
    ]

-- what is there in one case alone
there : (t : Bool) (x y : List ℕ) → cond t (Some x) None ≡ Some y → x ≡ y
there true x y e = cc
there false x y e = cc

-- bytes, each of which is one
pub each_byte : (bytes : List ℕ) → IsBytes bytes → All (λ byte. byte < 256) bytes
each_byte bytes are k d lt = let same = get_or_default bytes k d 0 lt in let small = are k in omega (arith, same, small)

pub are_bytes : (bytes : List ℕ) → All (λ byte. byte < 256) bytes → IsBytes bytes
are_bytes bytes each i =
    elim (nat_lt i (length bytes)) as (λ t. nat_lt i (length bytes) ≡ t → get_or bytes i 0 < 256) [
      | true ↦ λ t. each i 0 (ltb-true i (length bytes) t)
      | false ↦ λ t. let past = ltb-false i (length bytes) t in let zero = get_or_past bytes i 0 past in omega (arith, zero)
    ] refl

-- the escapes of a name stand for its bytes
pub unescaped : (name : List ℕ) → IsName name → percent_decode (name_text name) ≡ name
unescaped name is =
    there (is_name_text (name_text name) && is_none (name_fault (percent_decode (name_text name)))) (percent_decode (name_text name)) name
    (name_read_back name is.grammar (each_byte name is.bytes))

-- What is written of a name is read as it.
pub name_again : (name : List ℕ) → IsName name → spelled_name (name_text name) ≡ Some name
name_again name is =
    let short = name_short name in
    let few = few_bytes name is.grammar in
    ap (λ t. cond t (if_name (percent_decode (name_text name))) None) (le-leb (length (name_text name)) LONGEST_NAME_TEXT (omega arith))
    ∙ ap if_name (unescaped name is)
    ∙ ap (λ fault. cond (is_none fault) (Some name) None) is.grammar

-- bytes that differ are not equal
bytes_apart : (xs ys : List ℕ) → (xs ≡ ys → ⊥) → bytes_eq xs ys ≡ false
bytes_apart xs ys apart =
    elim (bytes_eq xs ys) as (λ t. bytes_eq xs ys ≡ t → t ≡ false) [
      | true ↦ λ t. absurd (apart ((bytes_eq-Decides xs ys).0 t))
      | false ↦ λ _. refl
    ] refl

-- What is written of bytes is read as them.
pub chunk_again : (bytes : List ℕ) → IsChunk bytes → hex_bytes (bytes_text bytes) ≡ Some bytes
chunk_again [] is = refl
chunk_again (b ∷ bs) is =
    let long = length-encode_with lower_digits (b ∷ bs) in
    let short = is.short in
    other (encode_lower (b ∷ bs)) (λ e. let one = ap length e in omega (arith, one, long))
    ∙ ap (λ t. cond (t && nat_le (length (encode_lower (b ∷ bs))) MOST_DIGITS) (decoded (decode_of (encode_lower (b ∷ bs)))) None)
    (le-leb 2 (length (encode_lower (b ∷ bs))) (omega (arith, long)))
    ∙ ap (λ t. cond t (decoded (decode_of (encode_lower (b ∷ bs)))) None) (le-leb (length (encode_lower (b ∷ bs))) MOST_DIGITS (omega (arith, long, short)))
    ∙ ap decoded (decode_of-encode_lower (b ∷ bs) is.bytes)
  where
    read : List ℕ → Option (List ℕ)
    read text = cond (nat_le 2 (length text) && nat_le (length text) MOST_DIGITS) (decoded (decode_of text)) None

    other : (text : List ℕ) → (text ≡ codes "-" → ⊥) → hex_bytes text ≡ read text
    other text none = ap (λ t. cond t (Some []) (read text)) (bytes_apart text (codes "-") none)
