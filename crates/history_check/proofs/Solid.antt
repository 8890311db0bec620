-- What a line has is without ends of words or lines, where it should be.
use Rattle.std.proofs.Common.{◌≡◌, ℕ, zero, suc, ◌<◌, ◌/◌, ◌%◌, Bool, true, false, cond, not, ◌&&◌, List, [], ◌∷◌, ◌++◌, refl, ap, ◌∙◌, arith, nat_eq, nat_lt, nat_le}
use borrow.Author.Tests.{ltb-true, ltb-false, leb-true, ne_eqb}
use Rattle.std.specs.Fmt.{digit_glyph, digits, digits_onto, decimal}
use Rattle.std.specs.List.{list_all, slice_index}
use Rattle.std.proofs.lemmas.List.{get_or_past}
use Rattle.std.proofs.lemmas.List.Folds.{list_all-append}
use Rattle.hex.specs.Hex.{encode_with, encode_lower, lower_digits}
use Rattle.sfs_base.proofs.BasicTruth.{and_first}
use Rattle.script.specs.Texts.{is_shown, byte_text, name_text, bytes_text}
use Rattle.script.proofs.TextLemmas.{tested}
use Rattle.history_check.proofs.FirstWords.{is_plain, is_solid, IsPlain, IsSolid}

-- two texts without ends of words are one
pub solid_both : (xs ys : List ℕ) → IsSolid xs → IsSolid ys → IsSolid (xs ++ ys)
solid_both xs ys first second = list_all-append is_solid xs ys ∙ ap (λ t. t && list_all is_solid ys) first ∙ second

pub plain_both : (xs ys : List ℕ) → IsPlain xs → IsPlain ys → IsPlain (xs ++ ys)
plain_both xs ys first second = list_all-append is_plain xs ys ∙ ap (λ t. t && list_all is_plain ys) first ∙ second

-- one byte before others
solid_more : (byte : ℕ) (bytes : List ℕ) → is_solid byte ≡ true → IsSolid bytes → IsSolid (byte ∷ bytes)
solid_more byte bytes first second = ap (λ t. t && list_all is_solid bytes) first ∙ second

-- a byte above a space
above_space : (byte : ℕ) → nat_le 33 byte ≡ true → is_solid byte ≡ true
above_space byte high =
    let low = leb-true 33 byte high in
    let space : nat_eq byte 32 ≡ false = ne_eqb byte 32 (λ e. omega (arith, e)) in
    let end : nat_eq byte 10 ≡ false = ne_eqb byte 10 (λ e. omega (arith, e)) in
    ap (λ t. not t && not (nat_eq byte 10)) space ∙ ap not end

-- a digit
digit_is : (d : ℕ) → d < 16 → (upper : Bool) → is_solid (digit_glyph upper d) ≡ true
digit_is d small true = tested (λ d. is_solid (digit_glyph true d)) 0 16 d refl (omega arith) (omega arith)
digit_is d small false = tested (λ d. is_solid (digit_glyph false d)) 0 16 d refl (omega arith) (omega arith)

digits_are : (k n : ℕ) (more : List ℕ) → IsSolid more → IsSolid (digits_onto k 10 false n more)
digits_are zero n more solid = solid
digits_are (suc k) n more solid =
    let d = digit_is (n % 10) (omega arith) false in
    let front : IsSolid (digit_glyph false (n % 10) ∷ more) = solid_more (digit_glyph false (n % 10)) more d solid in
    elim (nat_eq (n / 10) 0) as (λ t. IsSolid (cond t (digit_glyph false (n % 10) ∷ more)
    (digits_onto k 10 false (n / 10) (digit_glyph false (n % 10) ∷ more)))) [
      | true ↦ front
      | false ↦ digits_are k (n / 10) (digit_glyph false (n % 10) ∷ more) front
    ]

-- a number
pub decimal_solid : (n : ℕ) → IsSolid (decimal n)
unfolding digits
decimal_solid n = digits_are 64 n [] refl

-- a name
byte_solid : (b : ℕ) → IsSolid (byte_text b)
byte_solid b = elim (is_shown b) as (λ t. is_shown b ≡ t → IsSolid (cond t (b ∷ []) (37 ∷ digit_glyph true (b / 16 % 16) ∷ digit_glyph true (b % 16) ∷ []))) [
  | true ↦ λ shown. solid_more b [] (above_space b (and_first (nat_le 33 b) (nat_le b 126) (and_first (nat_le 33 b && nat_le b 126) _ shown))) refl
  | false ↦ λ _. escape
] refl
  where
    escape : IsSolid (37 ∷ digit_glyph true (b / 16 % 16) ∷ digit_glyph true (b % 16) ∷ [])
    escape =
        let last : IsSolid (digit_glyph true (b % 16) ∷ []) = solid_more (digit_glyph true (b % 16)) [] (digit_is (b % 16) (omega arith) true) refl in
        solid_more (digit_glyph true (b / 16 % 16)) (digit_glyph true (b % 16) ∷ []) (digit_is (b / 16 % 16) (omega arith) true) last

pub name_solid : (name : List ℕ) → IsSolid (name_text name)
name_solid [] = refl
name_solid (b ∷ bs) = solid_both (byte_text b) (name_text bs) (byte_solid b) (name_solid bs)

-- bytes in hex
glyph_solid : (k : ℕ) → is_solid (slice_index lower_digits k) ≡ true
glyph_solid k =
    elim (nat_lt k 16) as (λ t. nat_lt k 16 ≡ t → is_solid (slice_index lower_digits k) ≡ true) [
      | true ↦ λ t. let small = ltb-true k 16 t in tested (λ k. is_solid (slice_index lower_digits k)) 0 16 k refl (omega arith) (omega arith)
      | false ↦ λ t. let past = ltb-false k 16 t in ap is_solid (get_or_past lower_digits k 0 past)
    ] refl

hex_solid : (bytes : List ℕ) → IsSolid (encode_lower bytes)
unfolding encode_with
hex_solid [] = refl
hex_solid (b ∷ bs) =
    let last : IsSolid (slice_index lower_digits (b % 16) ∷ encode_lower bs) =
    solid_more (slice_index lower_digits (b % 16)) (encode_lower bs) (glyph_solid (b % 16)) (hex_solid bs) in
    solid_more (slice_index lower_digits (b / 16)) (slice_index lower_digits (b % 16) ∷ encode_lower bs) (glyph_solid (b / 16)) last

pub bytes_solid : (bytes : List ℕ) → IsSolid (bytes_text bytes)
bytes_solid [] = refl
bytes_solid (b ∷ bs) = hex_solid (b ∷ bs)
