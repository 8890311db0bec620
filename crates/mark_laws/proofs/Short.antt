-- No file comes to have more bytes than a file may have.
use Rattle.std.proofs.Common.{◌≡◌, ℕ, zero, suc, ◌+◌, ◌≤◌, Bool, true, false, cond, List, [], ◌∷◌, length, Option, Some, None, inl, inr, refl, sym, ap, subst, ◌∙◌, arith, nat_eq, nat_lt}
use Rattle.std.proofs.lemmas.Bool.{cases_lt}
use Rattle.std.proofs.lemmas.Bool.Decides.{nat_tests}
use Rattle.sfs_base.specs.Files.{written}
use Rattle.sfs_base.proofs.Bytes.{length-resized, length-written}
use Rattle.tree_laws.specs.declared.call.Call.{Call}
use Rattle.tree_laws.specs.declared.call.Call.TheVariants as call
use Rattle.tree_laws.specs.declared.history.Entry.{Entry}
use Rattle.tree_laws.specs.declared.reply.Code.{Code}
use Rattle.tree_laws.specs.declared.reply.Code.TheVariants.{FileTooBig}
use Rattle.tree_laws.specs.declared.reply.Reply.TheVariants as reply
use Rattle.tree_laws.specs.Changes.{bytes_at}
use Rattle.tree_laws.specs.Effect.{Effect, Stays, Adds, Removes, Moves, Edits, Puts, Resizes, edited}
use Rattle.tree_laws.specs.Footprints.{own_effect}
use Rattle.tree_laws.specs.History.{tree_after_entry}
use Rattle.tree_laws.specs.Parts.{bytes_after}
use Rattle.tree_laws.specs.Tree.{TreeState, bytes_of, row_of}
use Rattle.tree_laws.specs.Verdict.{LARGEST_FILE, Verdict, verdict, or_else, done, refused, answered, file_fault, write_bytes, trunc_file}
use Rattle.tree_laws.proofs.OwnEffects.{of_one, of_child, of_what_it_does}
use Rattle.cut_laws.proofs.Along.{tree_at-first, effect_at}
use Rattle.mark_laws.specs.Laws.{FilesStayShort}
use Rattle.mark_laws.proofs.Edits.{bytes_in_tree, next_bytes}

-- an effect leaves no file longer than one may be
abbrev KeepsShort : Effect → Type 0
KeepsShort (Edits file edit) = (bytes : List ℕ) → length bytes ≤ LARGEST_FILE → length (edited edit bytes) ≤ LARGEST_FILE
KeepsShort _ = Unit {0}

or_else_short : (fault : Option Code) (v : Verdict) → KeepsShort v.effect → KeepsShort (or_else fault v).effect
or_else_short (Some code) v keeps = tt
or_else_short None v keeps = keeps

puts_short : (at : ℕ) (from : List ℕ) → nat_lt LARGEST_FILE (at + length from) ≡ false → (bytes : List ℕ) → length bytes ≤ LARGEST_FILE
    → length (written at from bytes) ≤ LARGEST_FILE
puts_short at from within bytes low = elim (cases_lt 0 (length from)) [
  | inl some ↦ let end : at + length from ≤ LARGEST_FILE = grind (arith, nat_tests) in omega (arith, length-written at from bytes some, end, low)
  | inr none ↦
      let test : nat_eq (length from) 0 ≡ true = grind (arith, nat_tests) in
      let same : length (written at from bytes) ≡ length bytes = rw test refl in
      omega (arith, same, low)
]

write_short : (file at : ℕ) (from : List ℕ) → KeepsShort (write_bytes file at from).effect
write_short file at from = by (nat_eq (length from) 0) (nat_lt LARGEST_FILE (at + length from)) refl
  where
    by : (a b : Bool) → nat_lt LARGEST_FILE (at + length from) ≡ b
        → KeepsShort (cond a (answered reply.Ok) (cond b (refused FileTooBig) (done (Edits file (Puts at from))))).effect
    by true b e = tt
    by false true e = tt
    by false false e = puts_short at from e

trunc_short : (file size : ℕ) → KeepsShort (trunc_file file size).effect
trunc_short file size = by (nat_lt LARGEST_FILE size) refl
  where
    by : (b : Bool) → nat_lt LARGEST_FILE size ≡ b → KeepsShort (cond b (refused FileTooBig) (done (Edits file (Resizes size)))).effect
    by true e = tt
    by false e = λ bytes low. let end : size ≤ LARGEST_FILE = grind (arith, nat_tests) in omega (arith, length-resized size bytes, end)

module _ (tree : TreeState) (core : ℕ) where
  -- a call without an edit leaves them
  edits_none : (c : Call) → ((effect : Effect) → own_effect tree core c ≡ Some effect → KeepsShort effect) → KeepsShort (verdict tree core c).effect
  edits_none c own = of_what_it_does KeepsShort tree core c tt own

  pub calls_keep_short : (c : Call) → KeepsShort (verdict tree core c).effect
  calls_keep_short (call.Write file at from) = or_else_short (file_fault tree file.0) (write_bytes file.0 at from) (write_short file.0 at from)
  calls_keep_short (call.Trunc file size) = or_else_short (file_fault tree file.0) (trunc_file file.0 size) (trunc_short file.0 size)
  calls_keep_short (call.Make d n k) = edits_none (call.Make d n k) (λ effect own. of_one KeepsShort (Adds d.0 n _) effect own tt)
  calls_keep_short (call.Link f d n) = edits_none (call.Link f d n) (λ effect own. of_one KeepsShort (Adds d.0 n f.0) effect own tt)
  calls_keep_short (call.Unlink d n) =
      edits_none (call.Unlink d n) (λ effect own. of_child KeepsShort (Removes d.0 n) (row_of tree d.0 n) effect own (λ x e. tt))
  calls_keep_short (call.Rmdir d n) = edits_none (call.Rmdir d n) (λ effect own. of_child KeepsShort (Removes d.0 n) (row_of tree d.0 n) effect own (λ x e. tt))
  calls_keep_short (call.Rename p n q m) =
      edits_none (call.Rename p n q m) (λ effect own. of_child KeepsShort (Moves p.0 n q.0 m) (row_of tree p.0 n) effect own (λ x e. tt))
  calls_keep_short (call.Look d n) = edits_none (call.Look d n) (λ effect own. absurd (let never : None ≡ Some effect = own in cc))
  calls_keep_short (call.Read f at count) = edits_none (call.Read f at count) (λ effect own. absurd (let never : None ≡ Some effect = own in cc))
  calls_keep_short (call.Stat d) = edits_none (call.Stat d) (λ effect own. absurd (let never : None ≡ Some effect = own in cc))
  calls_keep_short (call.List d) = edits_none (call.List d) (λ effect own. absurd (let never : None ≡ Some effect = own in cc))
  calls_keep_short (call.Fsync d) = edits_none (call.Fsync d) (λ effect own. absurd (let never : None ≡ Some effect = own in cc))

-- so what happens at each stamp does
effects_keep_short : (first : TreeState) (history : List Entry) (t : ℕ) → KeepsShort (effect_at first history t)
effects_keep_short first [] t = tt
effects_keep_short first (entry ∷ history) zero = calls_keep_short first entry.core.0 entry.call
effects_keep_short first (entry ∷ history) (suc t) = effects_keep_short (tree_after_entry first entry) history t

after_short : (effect : Effect) (node : ℕ) (bytes : List ℕ) → KeepsShort effect → length bytes ≤ LARGEST_FILE
    → length (bytes_after effect node bytes) ≤ LARGEST_FILE
after_short Stays node bytes keeps low = low
after_short (Adds d n c) node bytes keeps low = low
after_short (Removes d n c) node bytes keeps low = low
after_short (Moves p n q m c) node bytes keeps low = low
after_short (Edits file edit) node bytes keeps low =
    elim (nat_eq file node) as (λ b. length (cond b (edited edit bytes) bytes) ≤ LARGEST_FILE) [ true ↦ keeps bytes low | false ↦ low ]

pub files_stay_short : FilesStayShort
files_stay_short first history is small node zero =
    subst (λ l. length l ≤ LARGEST_FILE)
    (sym (bytes_in_tree first history is.sound is.legal node 0 ∙ ap (λ (t : TreeState). bytes_of t node) (tree_at-first first history))) (small node)
files_stay_short first history is small node (suc k) =
    subst (λ l. length l ≤ LARGEST_FILE) (sym (next_bytes first history is.sound is.legal node k))
    (after_short (effect_at first history k) node (bytes_at first history node k) (effects_keep_short first history k)
    (files_stay_short first history is small node k))
