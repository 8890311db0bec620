-- The escapes of a name.
use Rattle.std.proofs.Common.{◌≡◌, ℕ, zero, suc, ◌+◌, ◌<◌, ◌≤◌, Bool, true, false, cond, not, List, [], ◌∷◌, ◌++◌, length, refl, sym, ap, ◌∙◌, arith, flat_map}
use Rattle.std.proofs.Common.{◌||◌, ◌&&◌, ◌/◌, ◌%◌, nat_eq, nat_lt, nat_le}
use Rattle.std.specs.Fmt.{digit_glyph}
use borrow.Author.Tests.{eqb-true, eqb-false, ltb-true, ltb-false, le-ltb, lt-leb}
use Rattle.std.specs.List.{list_all, range_with_len}
use Rattle.sfs_base.proofs.BasicTruth.{and_second, and_false}
use Rattle.sfs_base.proofs.BasicTruth.{and_first}
use Rattle.percent_encoding.specs.Percent.{percent_encode, encode_byte, percent_encode_byte}
use Rattle.percent_encoding.specs.AsciiSet.{should_percent_encode, contains}
use Rattle.script.specs.declared.writing.arguments.TheConstants.{ESCAPED}
use Rattle.tree_laws.specs.declared.listing.NameKind.{NameKind}
use Rattle.tree_laws.specs.NameKinds.{name_kind}
use Rattle.std.proofs.Common.{map}
use Rattle.script.specs.Texts.{is_shown, byte_text, name_text, listed_text, entry_text, history_text}
use Rattle.tree_laws.specs.declared.history.Entry.{Entry}
use Rattle.std.proofs.Common.{take, Option, Some, None, IsSome, slice_get}
use Rattle.std.proofs.Math.Seq.{take-length}
use Rattle.std.proofs.lemmas.Option.{slice_get_within, get_or_from_slice_get}
use Rattle.std.proofs.lemmas.List.{take_more, flat_map_more}

same_bool : Bool → Bool → Bool
same_bool true b = b
same_bool false b = not b

same : (a b : Bool) → same_bool a b ≡ true → a ≡ b
unfolding same_bool
same true true e = refl
same true false e = sym e
same false true e = e
same false false e = refl

-- the bytes of ASCII, tested one by one
all_same : list_all (λ b. same_bool (should_percent_encode ESCAPED b) (not (is_shown b))) (range_with_len 0 128) ≡ true
unfolding same_bool should_percent_encode
all_same = refl

pub tested : (p : ℕ → Bool) (from n b : ℕ) → list_all p (range_with_len from n) ≡ true → from ≤ b → b < from + n → p b ≡ true
tested p from zero b all low high = absurd (omega arith)
tested p from (suc n) b all low high =
    elim (nat_eq b from) as (λ t. nat_eq b from ≡ t → p b ≡ true) [
      | true ↦ λ t. ap p (eqb-true _ _ t) ∙ and_first _ _ all
      | false ↦ λ t. let other = eqb-false b from t in tested p (from + 1) n b (and_second _ _ all) (omega arith) (omega arith)
    ] refl

above : (b : ℕ) → 128 ≤ b → should_percent_encode ESCAPED b ≡ not (is_shown b)
unfolding should_percent_encode
above b high =
    let shown : is_shown b ≡ false =
    ap (λ t. nat_le 33 b && t && not (nat_eq b 37)) (lt-leb b 126 (omega arith)) ∙ ap (λ t. t && not (nat_eq b 37)) (and_false (nat_le 33 b)) in
    ap (λ t. not t || contains ESCAPED b) (le-ltb b 128 high) ∙ ap not (sym shown)

-- a byte is escaped exactly where it does not stand for itself
pub escaped : (b : ℕ) → should_percent_encode ESCAPED b ≡ not (is_shown b)
escaped b =
    elim (nat_lt b 128) as (λ t. nat_lt b 128 ≡ t → should_percent_encode ESCAPED b ≡ not (is_shown b)) [
      | true ↦ λ t. let low = ltb-true b 128 t in
          same _ _ (tested (λ b. same_bool (should_percent_encode ESCAPED b) (not (is_shown b))) 0 128 b all_same (omega arith) (omega arith))
      | false ↦ λ t. above b (ltb-false b 128 t)
    ] refl

-- the escapes of a name are its text
pub percent_encode-name_text : (name : List ℕ) → percent_encode ESCAPED name ≡ name_text name
unfolding percent_encode percent_encode_byte
percent_encode-name_text name = ap (λ f. flat_map f name) (λ i b. one b i)
  where
    one : (b : ℕ) → encode_byte ESCAPED b ≡ byte_text b
    one b =
        ap (λ t. cond t (percent_encode_byte b) (b ∷ [])) (escaped b)
        ∙ elim (is_shown b) as (λ t. cond (not t) (percent_encode_byte b) (b ∷ [])
        ≡ cond t (b ∷ []) (37 ∷ digit_glyph true (b / 16 % 16) ∷ digit_glyph true (b % 16) ∷ [])) [
          | true ↦
              refl
          | false ↦ refl
        ]

-- one more entry is written
pub entry_more : (history : List Entry) (cursor next : ℕ) (entry : Entry) (old new : List ℕ) → Some entry ≡ slice_get history cursor → next ≡ cursor + 1
    → old ≡ flat_map entry_text (take cursor history) → new ≡ old ++ entry_text entry → new ≡ flat_map entry_text (take next history)
entry_more history cursor next entry old new found moved before after =
    let within = slice_get_within history cursor entry (sym found) in
    after ∙ ap (λ l. l ++ entry_text entry) before
    ∙ flat_map_more entry_text [] (take cursor history) entry
    ∙ ap (flat_map entry_text)
    (ap (λ e. take cursor history ++ e ∷ []) (sym (get_or_from_slice_get history cursor entry entry (sym found)))
    ∙ sym (take_more history cursor entry within) ∙ ap (λ n. take n history) (sym moved))

-- all entries are written
pub entries_all : (history : List Entry) (cursor : ℕ) (text : List ℕ) → None ≡ slice_get history cursor → cursor ≤ length history
    → text ≡ flat_map entry_text (take cursor history) → text ≡ history_text history
entries_all history cursor text none within written =
    elim (nat_lt cursor (length history)) as (λ t. nat_lt cursor (length history) ≡ t → text ≡ history_text history) [
      | true ↦ λ t. absurd (none_some none (slice_get_within_some history cursor (ltb-true _ _ t)))
      | false ↦ λ t. let past = ltb-false cursor (length history) t in
          written ∙ ap (flat_map entry_text) (ap (λ n. take n history) (omega arith) ∙ take-length history)
    ] refl
  where
    none_some : {o : Option Entry} → None ≡ o → IsSome o → ⊥
    none_some {o} e some = elim o as (λ o. None ≡ o → IsSome o → ⊥) [ Some x ↦ λ e _. clash x e | None ↦ λ _ s. absurd (not_some s) ] e some
      where
        clash : (x : Entry) → None ≡ Some x → ⊥
        clash x e = cc

        not_some : IsSome {T = Entry} None → ⊥
        not_some e = cc

    slice_get_within_some : (xs : List Entry) (k : ℕ) → k < length xs → IsSome (slice_get xs k)
    slice_get_within_some [] k lt = absurd (omega arith)
    slice_get_within_some (x ∷ xs) zero lt = refl
    slice_get_within_some (x ∷ xs) (suc k) lt = slice_get_within_some xs k (omega arith)

-- a listed row
abbrev pub row_listed : NameKind → List ℕ
row_listed row = listed_text (name_kind row)

-- the rows as pairs
pub rows_listed : (rows : List NameKind) → flat_map row_listed rows ≡ flat_map listed_text (map name_kind rows)
rows_listed [] = refl
rows_listed (row ∷ rows) = ap (λ later. row_listed row ++ later) (rows_listed rows)
