-- The value of a file cell is the file of a history.
use Rattle.std.proofs.lemmas.List.{get_or_past}
use Rattle.std.specs.List.{range_with_len}
use mathlib.Core.Logic.{dite}
use native.Mathlib.Decide.{ℕ_discrete}
use Rattle.std.specs.Option.{option_map_or}
use Rattle.std.proofs.Common.{◌≡◌, ◌≤◌, ◌∷◌, if◌then◌else◌, ◌+◌, ◌∙◌, ◌⊎◌, ◌≢◌, ◌++◌, ◌&&◌, ◌↔◌, ℕ, refl, List, Option, length, None, [], arith, suc, false, Some, map, ⊎_elim, sym, ap, inr, inl, length-append, subst, eq-eqb, append-nil, append_assoc, nat_le, true}
use Rattle.std.proofs.lemmas.Bool.Decides.{nat_tests}
use Rattle.std.proofs.lemmas.List.FromFn.{get_or-map-range_with_len, length-map-range_with_len}
use Rattle.std.proofs.lemmas.Bool.{cases_lt}
use Rattle.std.proofs.Math.Seq.{take-length}
use Rattle.sfs_base.specs.declared.numbers.Stamp.{Stamp}
use Rattle.sfs_base.proofs.BasicNumbers.{zero_plus}
use Rattle.mem_files.specs.declared.touched.Touched.{Touched}
use Rattle.mem_files.specs.File.{is_touched, File, mark_of}
use Rattle.tree_laws.specs.Effect.{Edit, Puts, Resizes, edited, Effect, Edits, Stays, Adds, Removes, Moves}
use Rattle.tree_laws.specs.Tree.{TreeState, bytes_of}
use Rattle.tree_laws.specs.declared.history.Entry.{Entry}
use Rattle.tree_laws.specs.Verdict.{verdict}
use Rattle.tree_laws.specs.History.{tree_after, IsLegal}
use Rattle.tree_laws.specs.Laws.{IsSoundTree}
use Rattle.tree_laws.specs.Changes.{bytes_at}
use Rattle.tree_laws.proofs.FileHistories.{bytes_at-tree_after}
use Rattle.raise_laws.specs.Next.{IsMountedHistory}
use Rattle.mark_laws.specs.Touched.{touched_by, IsTouchedBetween}
use Rattle.mark_laws.specs.FileAt.{IsMarkedEdit, IsFileAt}
use Rattle.mark_laws.proofs.Kept.{edits_keep_files, others_keep_files, files_begin}
use Rattle.mem_values.specs.Logs.{edit_touches, last_touch, touches_block}
use Rattle.mem_values.proofs.Moves.{legal_front}
use Rattle.mem_values.proofs.Pushes.{last_touch-push, last_touch-append}
use Rattle.home_laws.specs.Files.{ValuesAreFiles}

-- the blocks that an edit touches have two names
same_touches : (edit : Edit) (before : ℕ) → edit_touches edit before ≡ touched_by edit before
same_touches (Puts at bytes) before = refl
same_touches (Resizes size) before = refl

-- no block behind the end of those that are touched is one of them
behind_end : (touched : Touched) (block : ℕ) → touched.end ≤ block → is_touched touched block ≡ false
behind_end touched block le = grind (arith, nat_tests, le)

-- the file once an edit was made and marked
module _ (edit : Edit) (stamp : Stamp) (file : File) where
  abbrev touched : Touched
  touched = touched_by edit (length file.bytes)

  abbrev mark_then : ℕ → Option Stamp
  mark_then block = if is_touched touched block then Some stamp else mark_of file block

  abbrev edited_file : File
  edited_file = record { bytes = edited edit file.bytes; marks = map mark_then (range_with_len 0 (length file.marks + touched.end)) }

  marks_are : (block : ℕ) → mark_of edited_file block ≡ mark_then block
  marks_are block = ⊎_elim
      (λ low. get_or-map-range_with_len mark_then 0 (length file.marks + touched.end) block block None low (zero_plus block))
      (λ high.
      let long = length-map-range_with_len mark_then 0 (length file.marks + touched.end) in
      get_or_past edited_file.marks block None (omega (arith, high, long))
      ∙ sym (ap (λ b. if b then Some stamp else mark_of file block) (behind_end touched block (omega (arith, high)))
      ∙ get_or_past file.marks block None (omega (arith, high))))
      (cases_lt block (length file.marks + touched.end))

  is_marked_edit : IsMarkedEdit edit stamp file edited_file
  is_marked_edit = record { bytes = refl; marks = marks_are }

-- the file of a node at the end of some calls, by the calls that touched its blocks
record HasFile (first : TreeState) (calls : List Entry) (node : ℕ) : Type 0 where
  file : File
  at : IsFileAt first calls node (length calls) file
  marks : (block : ℕ) → mark_of file block ≡ last_touch first None calls node block

-- an effect edits this file, or no edit of it is the effect
edits_or_not : (effect : Effect) (node : ℕ) → ((edit : Edit) × (effect ≡ Edits node edit)) ⊎ ((edit : Edit) → effect ≢ Edits node edit)
edits_or_not Stays node = inr (λ edit is. absurd (cc is))
edits_or_not (Adds d n c) node = inr (λ edit is. absurd (cc is))
edits_or_not (Removes d n c) node = inr (λ edit is. absurd (cc is))
edits_or_not (Moves p n q m c) node = inr (λ edit is. absurd (cc is))
edits_or_not (Edits file edit) node = dite (ℕ_discrete file node)
    (λ same. inl (edit, ap (λ f. Edits f edit) same)) (λ apart. inr (λ other is. apart (cc is)))

module _ (first : TreeState) (node : ℕ) where
  mounted_front : (calls more : List Entry) → IsMountedHistory first (calls ++ more) → IsMountedHistory first calls
  mounted_front calls more mounted =
      record { sound = mounted.sound; limits = mounted.limits; alive = mounted.alive; legal = legal_front first 0 calls more mounted.legal }

  abbrev effect_then : List Entry → Entry → Effect
  effect_then calls entry = (verdict (tree_after first calls) entry.core.0 entry.call).effect

  end_bytes : (calls : List Entry) → IsSoundTree first → IsLegal first calls → bytes_at first calls node (length calls) ≡ bytes_of (tree_after first calls) node
  end_bytes calls sound legal =
      bytes_at-tree_after first calls node (length calls) sound legal ∙ ap (λ l. bytes_of (tree_after first l) node) (take-length calls)

  one_longer : (calls : List Entry) (entry : Entry) → suc (length calls) ≡ length (calls ++ entry ∷ [])
  one_longer calls entry = let l = length-append calls (entry ∷ []) in omega (arith, l)

  -- the file behind one call more
  more_file : (calls : List Entry) (entry : Entry) → IsMountedHistory first (calls ++ entry ∷ []) → HasFile first calls node
      → HasFile first (calls ++ entry ∷ []) node
  more_file calls entry mounted has = elim (edits_or_not (effect_then calls entry) node) [
    | inl edits ↦
        let edit = edits.0 in
        let after = edited_file edit entry.stamp has.file in
        record {
          file = after;
          at = subst (λ n. IsFileAt first (calls ++ entry ∷ []) node n after) (one_longer calls entry)
              (edits_keep_files first calls entry node edit has.file after mounted edits.1 has.at (is_marked_edit edit entry.stamp has.file));
          marks = λ block. marks_are edit entry.stamp has.file block ∙ sym (touch_more calls entry mounted has edit edits.1 block);
        }
    | inr none ↦ record {
      file = has.file;
      at = subst (λ n. IsFileAt first (calls ++ entry ∷ []) node n has.file) (one_longer calls entry)
          (others_keep_files first calls entry node has.file mounted none has.at);
      marks = λ block. has.marks block ∙ sym (last_touch-push first calls entry node block none);
    }
  ]
    where
      touch_more : (calls : List Entry) (entry : Entry) (mounted : IsMountedHistory first (calls ++ entry ∷ [])) (has : HasFile first calls node) (edit : Edit)
          → effect_then calls entry ≡ Edits node edit → (block : ℕ)
          → last_touch first None (calls ++ entry ∷ []) node block ≡ mark_then edit entry.stamp has.file block
      touch_more calls entry mounted has edit is block =
          let legal = legal_front first 0 calls (entry ∷ []) mounted.legal in
          let found : bytes_of (tree_after first calls) node ≡ has.file.bytes = sym (has.at.bytes ∙ end_bytes calls mounted.sound legal) in
          last_touch-append first None calls (entry ∷ []) node block
          ∙ (ap (λ e. if touches_block e node block (length (bytes_of (tree_after first calls) node)) then Some entry.stamp
          else last_touch first None calls node block) is
          ∙ (ap (λ b. if b && is_touched (edit_touches edit (length (bytes_of (tree_after first calls) node))) block then Some entry.stamp
          else last_touch first None calls node block) (eq-eqb node node refl)
          ∙ (ap (λ (l : List ℕ). if is_touched (edit_touches edit (length l)) block then Some entry.stamp else last_touch first None calls node block) found
          ∙ (ap (λ t. if is_touched t block then Some entry.stamp else last_touch first None calls node block) (same_touches edit (length has.file.bytes))
          ∙ ap (λ o. if is_touched (touched_by edit (length has.file.bytes)) block then Some entry.stamp else o) (sym (has.marks block))))))

  files_along : (before rest : List Entry) → IsMountedHistory first (before ++ rest) → HasFile first before node → HasFile first (before ++ rest) node
  files_along before [] mounted has = subst (λ l. HasFile first l node) (sym (append-nil before)) has
  files_along before (entry ∷ rest) mounted has =
      let whole = append_assoc before (entry ∷ []) rest in
      let next : IsMountedHistory first ((before ++ entry ∷ []) ++ rest) = subst (IsMountedHistory first) (sym whole) mounted in
      subst (λ l. HasFile first l node) whole
      (files_along (before ++ entry ∷ []) rest next (more_file before entry (mounted_front (before ++ entry ∷ []) rest next) has))

  first_file : HasFile first [] node
  first_file = let file : File = record { bytes = bytes_of first node; marks = [] } in
      record { file = file; at = files_begin first node file refl (λ block. refl); marks = λ block. refl }

pub values_are_files : ValuesAreFiles
values_are_files first calls node value mounted stands =
    let has = files_along first node [] calls mounted (first_file first node) in
    record {
      bytes = stands.bytes ∙ sym (end_bytes first node calls mounted.sound mounted.legal);
      marks = λ from block.
          subst (λ (o : Option Stamp). (option_map_or (λ (mark : Stamp). nat_le from mark.0) o false ≡ true)
          ↔ IsTouchedBetween first calls node from (length calls) block)
          (has.marks block ∙ sym (stands.marks block)) (has.at.marks from block);
    }
