-- The first word of some bytes, and the first of their lines.
use Rattle.std.proofs.Common.{◌≡◌, ℕ, suc, ◌+◌, ◌≤◌, Bool, true, false, cond, not, ◌&&◌, List, [], ◌∷◌, ◌++◌, take, drop, length, position, Some, None, refl, sym, ap, ◌∙◌, arith, nat_eq, nat_lt}
use borrow.Author.Tests.{eqb-true, ltb-false}
use Rattle.std.proofs.lemmas.List.{take_all, drop_all}
use Rattle.sfs_base.proofs.BasicOptions.{some_same}
use Rattle.std.specs.List.{list_all, concat, position_or_len, before_first, after_first}
use Rattle.sfs_base.proofs.BasicTruth.{and_first, and_second}
use Rattle.script.specs.Lines.{first_longer}
use Rattle.history_check.specs.Lines.{whole_lines}
use Rattle.history_check.specs.Reading.{is_space, is_line_end, word, behind}

-- a byte that ends no line
abbrev pub is_plain : ℕ → Bool
is_plain byte = not (nat_eq byte 10)

-- a byte that ends neither word nor line
abbrev pub is_solid : ℕ → Bool
is_solid byte = not (nat_eq byte 32) && not (nat_eq byte 10)

-- bytes without an end of a line
abbrev pub IsPlain : List ℕ → Type 0
IsPlain bytes = list_all is_plain bytes ≡ true

-- bytes without an end of a word or a line
abbrev pub IsSolid : List ℕ → Type 0
IsSolid bytes = list_all is_solid bytes ≡ true

no_space : (byte : ℕ) (w : List ℕ) → IsSolid (byte ∷ w) → not (nat_eq byte 32) ≡ true
no_space byte w solid = and_first (not (nat_eq byte 32)) (not (nat_eq byte 10)) (and_first (is_solid byte) (list_all is_solid w) solid)

no_end : (byte : ℕ) (w : List ℕ) → IsSolid (byte ∷ w) → not (nat_eq byte 10) ≡ true
no_end byte w solid = and_second (not (nat_eq byte 32)) (not (nat_eq byte 10)) (and_first (is_solid byte) (list_all is_solid w) solid)

solid_rest : (byte : ℕ) (w : List ℕ) → IsSolid (byte ∷ w) → IsSolid w
solid_rest byte w solid = and_second (is_solid byte) (list_all is_solid w) solid

pub plain_of_solid : (bytes : List ℕ) → IsSolid bytes → IsPlain bytes
plain_of_solid [] solid = refl
plain_of_solid (byte ∷ bytes) solid = ap (λ t. t && list_all is_plain bytes) (no_end byte bytes solid) ∙ plain_of_solid bytes (solid_rest byte bytes solid)

-- one byte more before the first that passes
take_more : (n byte : ℕ) (bytes : List ℕ) → take (1 + n) (byte ∷ bytes) ≡ byte ∷ take n bytes
take_more n byte bytes = let e : 1 + n ≡ suc n = omega arith in ap (λ k. take k (byte ∷ bytes)) e

drop_more : (n byte : ℕ) (bytes : List ℕ) → drop (1 + n + 1) (byte ∷ bytes) ≡ drop (n + 1) bytes
drop_more n byte bytes = let e : 1 + n + 1 ≡ suc (n + 1) = omega arith in ap (λ k. drop k (byte ∷ bytes)) e

before_more : (p : ℕ → Bool) (byte : ℕ) (bytes : List ℕ) → not (p byte) ≡ true → before_first p (byte ∷ bytes) ≡ byte ∷ before_first p bytes
before_more p byte bytes e = ap (λ t. take (cond t (1 + position_or_len p bytes) 0) (byte ∷ bytes)) e ∙ take_more (position_or_len p bytes) byte bytes

after_more : (p : ℕ → Bool) (byte : ℕ) (bytes : List ℕ) → not (p byte) ≡ true → after_first p (byte ∷ bytes) ≡ after_first p bytes
after_more p byte bytes e = ap (λ t. drop (cond t (1 + position_or_len p bytes) 0 + 1) (byte ∷ bytes)) e ∙ drop_more (position_or_len p bytes) byte bytes

-- the first word is what stands before the first space
pub word_first : (w rest : List ℕ) → IsSolid w → word (w ++ 32 ∷ rest) ≡ w
word_first [] rest solid = refl
word_first (byte ∷ w) rest solid =
    before_more is_space byte (w ++ 32 ∷ rest) (no_space byte w solid) ∙ ap (λ later. byte ∷ later) (word_first w rest (solid_rest byte w solid))

pub behind_first : (w rest : List ℕ) → IsSolid w → behind (w ++ 32 ∷ rest) ≡ rest
behind_first [] rest solid = refl
behind_first (byte ∷ w) rest solid = after_more is_space byte (w ++ 32 ∷ rest) (no_space byte w solid) ∙ behind_first w rest (solid_rest byte w solid)

-- a word that nothing follows
pub word_alone : (w : List ℕ) → IsSolid w → word w ≡ w
word_alone [] solid = refl
word_alone (byte ∷ w) solid = before_more is_space byte w (no_space byte w solid) ∙ ap (λ later. byte ∷ later) (word_alone w (solid_rest byte w solid))

-- where a byte first stands is where the first word or line ends
place_is : (p : ℕ → Bool) (bytes : List ℕ) (place : ℕ) → position p bytes ≡ Some place → position_or_len p bytes ≡ place
place_is p bytes place e =
    elim (nat_lt (position_or_len p bytes) (length bytes)) as (λ t. cond t (Some (position_or_len p bytes)) None ≡ Some place
    → position_or_len p bytes ≡ place) [
      | true ↦ λ e. some_same e
      | false ↦ λ e. cc
    ] e

pub before_place : (p : ℕ → Bool) (bytes : List ℕ) (place : ℕ) → position p bytes ≡ Some place → take place bytes ≡ before_first p bytes
before_place p bytes place e = ap (λ n. take n bytes) (sym (place_is p bytes place e))

pub after_place : (p : ℕ → Bool) (bytes : List ℕ) (place : ℕ) → position p bytes ≡ Some place → drop (place + 1) bytes ≡ after_first p bytes
after_place p bytes place e = ap (λ n. drop (n + 1) bytes) (sym (place_is p bytes place e))

-- where it stands nowhere all bytes are one word or line
no_place : (p : ℕ → Bool) (bytes : List ℕ) → position p bytes ≡ None → length bytes ≤ position_or_len p bytes
no_place p bytes e =
    elim (nat_lt (position_or_len p bytes) (length bytes)) as (λ t. nat_lt (position_or_len p bytes) (length bytes) ≡ t
    → cond t (Some (position_or_len p bytes)) None ≡ None → length bytes ≤ position_or_len p bytes) [
      | true ↦ λ t e. cc
      | false ↦ λ t e. ltb-false (position_or_len p bytes) (length bytes) t
    ] refl e

pub before_none : (p : ℕ → Bool) (bytes : List ℕ) → position p bytes ≡ None → bytes ≡ before_first p bytes
before_none p bytes e = sym (take_all (position_or_len p bytes) bytes (no_place p bytes e))

pub after_none : (p : ℕ → Bool) (bytes : List ℕ) → position p bytes ≡ None → [] ≡ after_first p bytes
after_none p bytes e = let past = no_place p bytes e in sym (drop_all (position_or_len p bytes + 1) bytes (omega (arith, past)))

-- the first line is what stands before the first end of a line
pub line_first : (line rest : List ℕ) → IsPlain line → before_first is_line_end (line ++ 10 ∷ rest) ≡ line
line_first [] rest plain = refl
line_first (byte ∷ line) rest plain =
    before_more is_line_end byte (line ++ 10 ∷ rest) (and_first (is_plain byte) _ plain)
    ∙ ap (λ later. byte ∷ later) (line_first line rest (and_second (is_plain byte) _ plain))

pub lines_first : (line rest : List ℕ) → IsPlain line → whole_lines (line ++ 10 ∷ rest) ≡ (line ++ 10 ∷ []) ∷ whole_lines rest
lines_first [] rest plain = refl
lines_first (byte ∷ line) rest plain =
    plainly (nat_eq byte 10) (and_first (is_plain byte) _ plain)
    ∙ ap (first_longer byte) (lines_first line rest (and_second (is_plain byte) _ plain))
  where
    plainly : (t : Bool) → not t ≡ true
        → cond t ((10 ∷ []) ∷ whole_lines (line ++ 10 ∷ rest)) (first_longer byte (whole_lines (line ++ 10 ∷ rest)))
        ≡ first_longer byte (whole_lines (line ++ 10 ∷ rest))
    plainly true e = cc
    plainly false e = refl

-- the lines of some bytes are these bytes
pub lines_all : (bytes : List ℕ) → concat (whole_lines bytes) ≡ bytes
lines_all [] = refl
lines_all (byte ∷ bytes) =
    elim (nat_eq byte 10) as (λ t. nat_eq byte 10 ≡ t
    → concat (cond t ((10 ∷ []) ∷ whole_lines bytes) (first_longer byte (whole_lines bytes))) ≡ byte ∷ bytes) [
      | true ↦ λ t. ap (λ b. b ∷ concat (whole_lines bytes)) (sym (eqb-true byte 10 t)) ∙ ap (λ later. byte ∷ later) (lines_all bytes)
      | false ↦ λ _. longer (whole_lines bytes) ∙ ap (λ later. byte ∷ later) (lines_all bytes)
    ] refl
  where
    longer : (lines : List (List ℕ)) → concat (first_longer byte lines) ≡ byte ∷ concat lines
    longer [] = refl
    longer (line ∷ lines) = refl
