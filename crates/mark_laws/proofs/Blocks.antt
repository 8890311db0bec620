-- What the changes of a span leave of a file's blocks.
use Rattle.std.proofs.Common.{◌≡◌, ℕ, zero, suc, ◌+◌, ◌*◌, ◌/◌, ◌<◌, ◌≤◌, true, false, cond, ◌&&◌, List, length, inl, inr, refl, sym, ap, subst, ◌∙◌, arith, nat_eq, nat_lt, nat_le}
use Rattle.std.proofs.lemmas.Bool.{cases_Bool, cases_lt}
use Rattle.std.proofs.lemmas.Bool.Decides.{nat_tests}
use Rattle.std.proofs.lemmas.List.{ext_get_or}
use Rattle.sfs_base.specs.Files.{resized, written}
use Rattle.sfs_base.proofs.Bytes.{length-resized, length-written}
use Rattle.mem_files.specs.File.{blocks_of, no_blocks, is_touched}
use Rattle.mem_files.specs.Laws.{byte_in}
use Rattle.mem_files.proofs.Inside.{writes_stay_inside, truncations_stay_inside}
use Rattle.tree_laws.specs.declared.history.Entry.{Entry}
use Rattle.tree_laws.specs.Changes.{bytes_at}
use Rattle.tree_laws.specs.Effect.{Edit, Puts, Resizes, edited}
use Rattle.tree_laws.specs.History.{IsLegal}
use Rattle.tree_laws.specs.Laws.{IsSoundTree}
use Rattle.tree_laws.specs.Tree.{TreeState}
use Rattle.commit_laws.specs.Rewritten.{bytes_in_block}
use Rattle.commit_laws.proofs.FilesMade.{byte_in_block, length_block}
use Rattle.mark_laws.specs.Touched.{touched_by, IsTouchedBetween}
use Rattle.mark_laws.proofs.Edits.{IsEditAt, step}

-- bytes that are the same at each place of a block are the same in it
same_block : (n : ℕ) (a b : List ℕ) → ((place : ℕ) → place < 4096 → byte_in a n place ≡ byte_in b n place) → bytes_in_block n a ≡ bytes_in_block n b
same_block n a b same = ext_get_or 0 (bytes_in_block n a) (bytes_in_block n b) (length_block n a ∙ sym (length_block n b)) (λ r inside.
    let low : r < 4096 = subst (λ l. r < l) (length_block n a) inside in
    byte_in_block n r a low ∙ same r low ∙ sym (byte_in_block n r b low))

-- an edit leaves each block that it does not touch
edit_leaves : (edit : Edit) (bytes : List ℕ) (n : ℕ) → is_touched (touched_by edit (length bytes)) n ≡ false
    → bytes_in_block n (edited edit bytes) ≡ bytes_in_block n bytes
edit_leaves (Puts at from) bytes n untouched = same_block n (written at from bytes) bytes (λ place low. writes_stay_inside at from bytes n place low untouched)
edit_leaves (Resizes size) bytes n untouched = same_block n (resized size bytes) bytes (λ place low. truncations_stay_inside size bytes n place low untouched)

-- a write cuts nothing off
no_shorter : (at : ℕ) (from bytes : List ℕ) → length bytes ≤ length (written at from bytes)
no_shorter at from bytes = elim (cases_lt 0 (length from)) [
  | inl some ↦ omega (arith, length-written at from bytes some)
  | inr none ↦
      let test : nat_eq (length from) 0 ≡ true = grind (arith, nat_tests) in
      let same : length (written at from bytes) ≡ length bytes = rw test refl in
      omega (arith, same)
]

-- an edit touches each block that had bytes and has none afterwards
end_touched : (edit : Edit) (bytes : List ℕ) (n : ℕ) → 4096 * n < length bytes → length (edited edit bytes) ≤ 4096 * n
    → is_touched (touched_by edit (length bytes)) n ≡ true
end_touched (Puts at from) bytes n had none = absurd (let more = no_shorter at from bytes in omega (arith, more, had, none))
end_touched (Resizes size) bytes n had none =
    let low : size ≤ 4096 * n = subst (λ l. l ≤ 4096 * n) (length-resized size bytes) none in
    let less : nat_lt size (length bytes) ≡ true = grind (arith, nat_tests) in
    let first : nat_le (size / 4096) n ≡ true = grind (arith, nat_tests) in
    let last : nat_lt n ((length bytes + 4095) / 4096) ≡ true = grind (arith, nat_tests) in
    ap (λ b. is_touched (cond b (blocks_of size (length bytes)) no_blocks) n) less ∙ ap (λ b. b && nat_lt n ((length bytes + 4095) / 4096)) first ∙ last

module _ (first : TreeState) (history : List Entry) (is : IsSoundTree first) (legal : IsLegal first history) (node from n : ℕ) where
  -- a span that is longer by one touches no less
  pub longer : (k : ℕ) → IsTouchedBetween first history node from k n → IsTouchedBetween first history node from (suc k) n
  longer k t = record { change = t.change; among = t.among; own = t.own; since = t.since; below = let low = t.below in omega (arith, low); touches = t.touches }

  -- a change at a stamp of the span is one of the span
  here : (k : ℕ) (edit : IsEditAt first history node k) → from ≤ k → is_touched (touched_by edit.change.edit (length (bytes_at first history node k))) n ≡ true
      → IsTouchedBetween first history node from (suc k) n
  here k edit low touches = record {
    change = edit.change;
    among = edit.among;
    own = edit.own;
    since = let at = edit.stamp in omega (arith, at, low);
    below = let at = edit.stamp in omega (arith, at);
    touches = subst (λ (s : ℕ). is_touched (touched_by edit.change.edit (length (bytes_at first history node s))) n ≡ true) (sym edit.stamp) touches;
  }

  -- a block that no change of a span touches has the bytes that it had
  pub untouched_stays : (k : ℕ) → from ≤ k → (IsTouchedBetween first history node from k n → ⊥)
      → bytes_in_block n (bytes_at first history node k) ≡ bytes_in_block n (bytes_at first history node from)
  untouched_stays zero low never = ap (λ s. bytes_in_block n (bytes_at first history node s)) (omega (arith, low))
  untouched_stays (suc k) low never = elim (cases_lt k from) [
    | inl past ↦ ap (λ s. bytes_in_block n (bytes_at first history node s)) (omega (arith, low, past))
    | inr le ↦ elim (step first history is legal node k) [
      | inl same ↦ ap (bytes_in_block n) same ∙ untouched_stays k le (λ t. never (longer k t))
      | inr edit ↦ elim (cases_Bool (is_touched (touched_by edit.change.edit (length (bytes_at first history node k))) n)) [
        | inl touches ↦ absurd (never (here k edit le touches))
        | inr not ↦
            ap (bytes_in_block n) edit.makes ∙ edit_leaves edit.change.edit (bytes_at first history node k) n not
            ∙ untouched_stays k le (λ t. never (longer k t))
      ]
    ]
  ]

  -- a block that had bytes and lies behind the end at a later stamp was touched
  pub end_is_touched : (k : ℕ) → from ≤ k → 4096 * n < length (bytes_at first history node from) → length (bytes_at first history node k) ≤ 4096 * n
      → IsTouchedBetween first history node from k n
  end_is_touched zero low had none =
      absurd
      (let same : length (bytes_at first history node from)
      ≡ length (bytes_at first history node 0) = ap (λ s. length (bytes_at first history node s)) (omega (arith, low)) in
      omega (arith, same, had, none))
  end_is_touched (suc k) low had none = elim (cases_lt k from) [
    | inl past ↦
        absurd
        (let same : length (bytes_at first history node from)
        ≡ length (bytes_at first history node (suc k)) = ap (λ s. length (bytes_at first history node s)) (omega (arith, low, past)) in
        omega (arith, same, had, none))
    | inr le ↦ elim (cases_lt (4096 * n) (length (bytes_at first history node k))) [
      | inr gone ↦ longer k (end_is_touched k le had gone)
      | inl still ↦ elim (step first history is legal node k) [
        | inl same ↦
            absurd
            (let alike : length (bytes_at first history node (suc k)) ≡ length (bytes_at first history node k) = ap length same in
            omega (arith, alike, still, none))
        | inr edit ↦ here k edit le (end_touched edit.change.edit (bytes_at first history node k) n still (subst (λ l. length l ≤ 4096 * n) edit.makes none))
      ]
    ]
  ]
