-- Pieces written one behind another, each by a write to a part of a slice.
use Rattle.std.proofs.Common.{◌≡◌, ℕ, ◌+◌, ◌≤◌, List, ◌++◌, take, drop, length, refl, sym, ap, ◌∙◌, arith}
use Rattle.std.proofs.lemmas.List.{take_at, drop_at, append_assoc, append-nil, drop_all, length-append, length-drop, length-take-le}
use borrow.Rule.Slice.PartMut.{put_mid}

-- a piece that is written behind what is done
pub put_mid-next : (bytes done rest piece : List ℕ) (at n : ℕ) → bytes ≡ done ++ rest → length done ≡ at
    → put_mid at n bytes piece ≡ done ++ piece ++ drop n rest
put_mid-next bytes done rest piece at n is len =
    ap (λ (xs : List ℕ). put_mid at n xs piece) is
    ∙ ap (λ (xs : List ℕ). xs ++ (piece ++ drop n (drop at (done ++ rest)))) (take_at done rest at len)
    ∙ ap (λ (xs : List ℕ). done ++ (piece ++ drop n xs)) (drop_at done rest at len)
    ∙ sym (append_assoc done piece (drop n rest))

-- a piece that is written over all that is left
pub put_mid-last : (bytes done rest piece : List ℕ) (at n : ℕ) → bytes ≡ done ++ rest → length done ≡ at → length rest ≤ n
    → put_mid at n bytes piece ≡ done ++ piece
put_mid-last bytes done rest piece at n is len all =
    put_mid-next bytes done rest piece at n is len ∙ ap (λ (xs : List ℕ). done ++ piece ++ xs) (drop_all n rest all) ∙ append-nil (done ++ piece)

-- a write of as many bytes keeps the length
pub length-put_mid : (at n : ℕ) (bytes piece : List ℕ) → length piece ≡ n → at + n ≤ length bytes → length (put_mid at n bytes piece) ≡ length bytes
length-put_mid at n bytes piece len within =
    let a = length-append (take at bytes) (piece ++ drop n (drop at bytes)) in
    let b = length-append piece (drop n (drop at bytes)) in
    let c = length-drop n (drop at bytes) in
    let d = length-drop at bytes in
    let e = length-take-le at bytes (omega arith) in
    omega arith

-- five pieces that are written one behind another, the last over all that is left
pub five_written : (raw a b c d e : List ℕ) (n1 n2 n3 n4 last : ℕ) → length a ≡ n1 → length b ≡ n2 → length c ≡ n3 → length d ≡ n4
    → length raw ≤ n1 + n2 + n3 + n4 + last →
    put_mid (n1 + n2 + n3 + n4) last (put_mid (n1 + n2 + n3) n4 (put_mid (n1 + n2) n3 (put_mid n1 n2 (a ++ drop n1 raw) b) c) d) e ≡ a ++ b ++ c ++ d ++ e
five_written raw a b c d e n1 n2 n3 n4 last la lb lc ld all =
    let r1 = drop n1 raw in
    let r2 = drop n2 r1 in
    let r3 = drop n3 r2 in
    let r4 = drop n4 r3 in
    let s1 = length-drop n1 raw in
    let s2 = length-drop n2 r1 in
    let s3 = length-drop n3 r2 in
    let s4 = length-drop n4 r3 in
    let m2 = length-append a b in
    let m3 = length-append (a ++ b) c in
    let m4 = length-append (a ++ b ++ c) d in
    let x1 = put_mid-next (a ++ r1) a r1 b n1 n2 refl la in
    let x2 = put_mid-next (put_mid n1 n2 (a ++ r1) b) (a ++ b) r2 c (n1 + n2) n3 x1 (omega arith) in
    let x3 = put_mid-next (put_mid (n1 + n2) n3 (put_mid n1 n2 (a ++ r1) b) c) (a ++ b ++ c) r3 d (n1 + n2 + n3) n4 x2 (omega arith) in
    put_mid-last (put_mid (n1 + n2 + n3) n4 (put_mid (n1 + n2) n3 (put_mid n1 n2 (a ++ r1) b) c) d) (a ++ b ++ c ++ d) r4 e (n1 + n2 + n3 + n4) last x3
    (omega arith) (omega arith)
