-- The text of a name and of a path.
use Rattle.std.proofs.Common.{◌≡◌, ℕ, zero, suc, ◌<◌, true, false, ◌&&◌, List, [], ◌∷◌, ◌++◌, length, drop, get_or, Option, Some, None, refl, sym, ap, ◌∙◌, arith, append_assoc}
use Rattle.std.specs.Borrow.{Bor}
use Rattle.script.specs.Lines.{parts}
use Rattle.std.specs.Char.{digit_value}
use Rattle.std.proofs.Common.{◌+◌, ◌*◌, ◌≤◌, cond, is_none, nat_eq, sum_by, subst}
use Rattle.std.proofs.lemmas.List.Sums.{sum_by-cons}
use borrow.Author.Tests.{lt-leb}
use Rattle.percent_encoding.specs.Percent.{percent_decode, is_escape}
use Rattle.sfs_base.specs.Name.{name_fault}
use Rattle.sfs_base.specs.Path.{path_length}
use Rattle.script.specs.Paths.{may_stand, is_name_text, name_in, with_name, names_in, short_path, path_of}
use Rattle.script.proofs.LineLemmas.{total, parts_total}

-- the text from a place on: its byte, and the text behind
pub text_at : (text : List ℕ) (place : ℕ) → place < length text
    → is_name_text (drop place text) ≡ (may_stand (get_or text place 0) (drop (suc place) text) && is_name_text (drop (suc place) text))
text_at [] place lt = absurd (omega arith)
text_at (b ∷ bs) zero lt = refl
text_at (b ∷ bs) (suc place) lt = text_at bs place (omega arith)

-- a byte that may not stand where it does
pub text_fails : (text : List ℕ) (place : ℕ) → place < length text → is_name_text text ≡ is_name_text (drop place text)
    → may_stand (get_or text place 0) (drop (suc place) text) ≡ false → false ≡ is_name_text text
text_fails text place lt so_far fails = sym (so_far ∙ text_at text place lt ∙ ap (λ t. t && is_name_text (drop (suc place) text)) fails)

-- a byte that may stand where it does
pub text_goes_on : (text : List ℕ) (place : ℕ) → place < length text → is_name_text text ≡ is_name_text (drop place text)
    → may_stand (get_or text place 0) (drop (suc place) text) ≡ true → is_name_text text ≡ is_name_text (drop (suc place) text)
text_goes_on text place lt so_far passes = so_far ∙ text_at text place lt ∙ ap (λ t. t && is_name_text (drop (suc place) text)) passes

-- names behind others
abbrev pub names_behind_front : List (List ℕ) → Option (List (List ℕ)) → Option (List (List ℕ))
names_behind_front front (Some names) = Some (front ++ names)
names_behind_front front None = None

-- one more name is read
pub names_more : (front : List (List ℕ)) (name : List ℕ) (later : Option (List (List ℕ)))
    → names_behind_front front (with_name (Some name) later) ≡ names_behind_front (front ++ name ∷ []) later
names_more front name (Some names) = ap Some (sym (append_assoc front (name ∷ []) names))
names_more front name None = refl

-- the texts that are left
abbrev pub texts_left : Option (Bor (List ℕ)) → List (List ℕ)
texts_left (Some rest) = parts 47 rest.now
texts_left None = []

-- how much is left
abbrev pub bytes_left : Option (Bor (List ℕ)) → ℕ
bytes_left (Some rest) = suc (length rest.now)
bytes_left None = 0

-- what a text spells has at least a third of its bytes
decode_third : (text : List ℕ) → length text ≤ 3 * length (percent_decode text)
unfolding percent_decode
decode_third [] = omega arith
decode_third (b ∷ []) = omega arith
decode_third (b ∷ c ∷ []) = omega arith
decode_third (b ∷ high ∷ low ∷ text) =
    let escaped = decode_third text in
    let plain = decode_third (high ∷ low ∷ text) in
    elim (is_escape b high low) as (λ t. suc (suc (suc (length text)))
    ≤ 3 * length (cond t ((16 * digit_value high + digit_value low) ∷ percent_decode text) (b ∷ percent_decode (high ∷ low ∷ text)))) [
      | true ↦ omega (arith, escaped)
      | false ↦ omega (arith, plain)
    ]

-- a name, where there is one, has at least a third of so many bytes
abbrev IsNameOf : ℕ → Option (List ℕ) → Type 0
IsNameOf bytes (Some name) = bytes ≤ 3 * length name
IsNameOf bytes None = Unit {0}

name_of-third : (text : List ℕ) → IsNameOf (length text) (name_in text)
name_of-third text =
    elim (is_name_text text && is_none (name_fault (percent_decode text))) as (λ t. IsNameOf (length text) (cond t (Some (percent_decode text)) None)) [
      | true ↦ decode_third text
      | false ↦ tt
    ]

-- names with a byte before each
abbrev spread : List (List ℕ) → ℕ
spread [] = 0
spread (name ∷ names) = 1 + length name + spread names

-- names, where there are some, have at least a third of so many bytes
abbrev AreNamesOf : ℕ → Option (List (List ℕ)) → Type 0
AreNamesOf bytes (Some names) = bytes ≤ 3 * spread names
AreNamesOf bytes None = Unit {0}

with_name-third : (bytes more : ℕ) (name : Option (List ℕ)) (names : Option (List (List ℕ))) → IsNameOf bytes name → AreNamesOf more names
    → AreNamesOf (bytes + more + 1) (with_name name names)
with_name-third bytes more (Some name) (Some names) first later = omega (arith, first, later)
with_name-third bytes more (Some name) None first later = tt
with_name-third bytes more None names first later = tt

names_of-third : (texts : List (List ℕ)) → AreNamesOf (total texts + length texts) (names_in texts)
names_of-third [] = omega arith
names_of-third (text ∷ texts) =
    let P : ℕ → Type 0 = λ bytes. AreNamesOf bytes (with_name (name_in text) (names_in texts)) in
    let sum : length text + (total texts + length texts) + 1 ≡ length text + total texts + suc (length texts) = omega arith in
    subst P sum (with_name-third (length text) (total texts + length texts) (name_in text) (names_in texts) (name_of-third text) (names_of-third texts))

spread-sum : (names : List (List ℕ)) → spread names ≡ sum_by (λ part. 1 + length part) names
spread-sum [] = refl
spread-sum (name ∷ names) = let before = spread-sum names in let sum = sum_by-cons (λ part. 1 + length part) name names in omega (arith, before, sum)

spread-path : (names : List (List ℕ)) → spread names ≤ path_length names
spread-path [] = omega arith
spread-path (name ∷ names) = let sum = spread-sum (name ∷ names) in omega (arith, sum)

long_names : (bytes : ℕ) (names : Option (List (List ℕ))) → 12288 < bytes → AreNamesOf bytes names → short_path names ≡ None
long_names bytes (Some names) long third =
    let path = spread-path names in
    ap (λ t. cond t (Some names) None) (lt-leb (path_length names) 4096 (omega (arith, long, third, path)))
long_names bytes None long third = refl

-- a word of more than three times 4,096 bytes spells no path
pub long_path : (word : List ℕ) → 12288 < length word → path_of word ≡ None
long_path [] long = absurd (omega arith)
long_path (b ∷ []) long = absurd (omega arith)
long_path (b ∷ c ∷ bytes) long =
    let all = parts_total 47 (c ∷ bytes) in
    elim (nat_eq b 47) as (λ t. short_path (cond t (names_in (parts 47 (c ∷ bytes))) None) ≡ None) [
      | true ↦
          long_names (total (parts 47 (c ∷ bytes)) + length (parts 47 (c ∷ bytes))) (names_in (parts 47 (c ∷ bytes))) (omega (arith, all, long))
          (names_of-third (parts 47 (c ∷ bytes)))
      | false ↦ refl
    ]
