-- A file in memory is that of a history, from its begin on and from entry to entry.
use Rattle.std.proofs.Common.{◌≡◌, ◌≢◌, ℕ, zero, suc, ◌+◌, ◌<◌, ◌≤◌, Bool, true, false, cond, List, [], ◌∷◌, ◌++◌, length, Option, Some, None, IsSome, inl, inr, refl, sym, ap, subst, ◌∙◌, arith, nat_eq}
use Rattle.std.specs.Prelude.{◌↔◌, nat_le}
use Rattle.std.specs.FinMap.{get}
use Rattle.std.specs.Option.{option_map_or}
use Rattle.std.proofs.lemmas.Bool.{cases_Bool, cases_lt}
use Rattle.std.proofs.lemmas.Bool.Decides.{nat_tests}
use Rattle.sfs_base.specs.declared.numbers.Kind.{Kind}
use Rattle.sfs_base.specs.declared.numbers.Stamp.{Stamp}
use Rattle.sfs_base.proofs.BasicNumbers.{same_number, zero_plus}
use Rattle.sfs_base.proofs.BasicOptions.{none_not_some}
use Rattle.sfs_base.proofs.BasicTruth.{not_both, false_not_true}
use Rattle.mem_files.specs.File.{File, mark_of, is_touched}
use Rattle.tree_laws.specs.declared.history.Entry.{Entry}
use Rattle.tree_laws.specs.Changes.{edits_by, edits_of, bytes_at}
use Rattle.tree_laws.specs.Effect.{Effect, Stays, Adds, Removes, Moves, Edits, Edit, edited}
use Rattle.tree_laws.specs.Fits.{Fits}
use Rattle.tree_laws.specs.History.{tree_after, tree_after_entry, IsLegal}
use Rattle.tree_laws.specs.Laws.{IsSoundTree}
use Rattle.tree_laws.specs.Parts.{bytes_after}
use Rattle.tree_laws.specs.Tree.{TreeState, Node}
use Rattle.flush_plan.specs.Touched.{is_marked_from}
use Rattle.cut_laws.specs.Rules.{IsOneOf}
use Rattle.cut_laws.proofs.Along.{tree_at, core_at, effect_at, makes_at, fits_at, next_at}
use Rattle.cut_laws.proofs.Basics.{in_left, in_either}
use Rattle.cut_laws.proofs.Nodes.{node_stays}
use Rattle.turn_laws.proofs.LongerEdits.{edits_joined, legal_rest, bytes_longer}
use Rattle.mark_laws.specs.FileAt.{IsFileAt, IsMarkedEdit}
use Rattle.mark_laws.specs.Laws.{IsUnmarked, verdict_behind, FilesBegin, NewFilesBegin, LongerHistoriesKeepFiles, EditsKeepFiles, OthersKeepFiles}
use Rattle.mark_laws.specs.Touched.{touched_by, IsTouchedBetween}
use Rattle.mark_laws.proofs.Blocks.{longer}
use Rattle.mark_laws.proofs.Edits.{edit_in, edit_at, edits_from, bytes_in_tree, next_bytes}

-- no block of a file without marks is marked
unmarked : (file : File) → IsUnmarked file → (from block : ℕ) → is_marked_from from file block ≡ true → ⊥
unmarked file none from block marked =
    false_not_true (sym (ap (λ (o : Option Stamp). option_map_or (λ (mark : Stamp). nat_le from mark.0) o false) (none block)) ∙ marked)

pub files_begin : FilesBegin
files_begin first node file same none = record {
  bytes = same;
  marks = λ from block. ((λ marked. absurd (unmarked file none from block marked)), (λ touched. absurd touched.among));
}

-- what happens at the end of a history's begin is what the entry there does
effect_behind : (first : TreeState) (history : List Entry) (entry : Entry) (rest : List Entry)
    → effect_at first (history ++ entry ∷ rest) (length history) ≡ (verdict_behind first history entry).effect
effect_behind first [] entry rest = refl
effect_behind first (e ∷ history) entry rest = effect_behind (tree_after_entry first e) history entry rest

makes_behind : (first : TreeState) (history : List Entry) (entry : Entry) (rest : List Entry)
    → makes_at first (history ++ entry ∷ rest) (length history) ≡ (verdict_behind first history entry).makes
makes_behind first [] entry rest = refl
makes_behind first (e ∷ history) entry rest = makes_behind (tree_after_entry first e) history entry rest

module _ (first : TreeState) (history rest : List Entry) (is : IsSoundTree first) (legal : IsLegal first (history ++ rest)) (node stamp : ℕ)
    (low : stamp ≤ length history) where
  -- what a change of the begin finds
  found_same : (s : ℕ) → s < stamp → bytes_at first (history ++ rest) node s ≡ bytes_at first history node s
  found_same s below = bytes_longer first history rest is legal node s s (omega (arith, below, low)) (omega (arith, below, low))

  touched_still : (from block : ℕ) → IsTouchedBetween first history node from stamp block → IsTouchedBetween first (history ++ rest) node from stamp block
  touched_still from block t = record {
    change = t.change;
    among =
        subst (λ those. IsOneOf those t.change) (sym (edits_joined first history rest))
        (in_left (edits_of first history) (edits_of (tree_after first history) rest) t.change t.among);
    own = t.own;
    since = t.since;
    below = t.below;
    touches = subst (λ those. is_touched (touched_by t.change.edit (length those)) block ≡ true) (sym (found_same t.change.stamp t.below)) t.touches;
  }

  touched_before : (from block : ℕ) → IsTouchedBetween first (history ++ rest) node from stamp block → IsTouchedBetween first history node from stamp block
  touched_before from block t = record {
    change = t.change;
    among =
        elim (in_either (edits_of first history) (edits_of (tree_after first history) rest) t.change
        (subst (λ those. IsOneOf those t.change) (edits_joined first history rest) t.among)) [
          | inl early ↦ early
          | inr late ↦
              absurd
              (let high = edits_from (tree_after first history) rest (0 + length history) t.change (legal_rest first 0 history rest legal) late in
              let below = t.below in omega (arith, high, below, low))
        ];
    own = t.own;
    since = t.since;
    below = t.below;
    touches = subst (λ those. is_touched (touched_by t.change.edit (length those)) block ≡ true) (found_same t.change.stamp t.below) t.touches;
  }

  file_longer : (file : File) → IsFileAt first history node stamp file → IsFileAt first (history ++ rest) node stamp file
  file_longer file at = record {
    bytes = at.bytes ∙ sym (bytes_longer first history rest is legal node stamp stamp low low);
    marks =
        λ from block.
        ((λ marked. touched_still from block ((at.marks from block).0 marked)), (λ touched. (at.marks from block).1 (touched_before from block touched)));
  }

pub longer_histories_keep_files : LongerHistoriesKeepFiles
longer_histories_keep_files first history rest node stamp file mounted low at =
    file_longer first history rest mounted.sound mounted.legal node stamp low file at

module _ (first : TreeState) (history : List Entry) (is : IsSoundTree first) (legal : IsLegal first history) (node k : ℕ) (file : File)
    (at : IsFileAt first history node k file) where
  -- a block that is touched up to the next stamp was touched before, or by what happens at this one
  touched_earlier : (from block : ℕ) (t : IsTouchedBetween first history node from (suc k) block) → (t.change.stamp ≡ k → ⊥)
      → IsTouchedBetween first history node from k block
  touched_earlier from block t other = record {
    change = t.change;
    among = t.among;
    own = t.own;
    since = t.since;
    below = let low = t.below in omega (arith, low, other);
    touches = t.touches;
  }

  -- what happens at the stamp where a change of the file stands
  happens : (from block : ℕ) (t : IsTouchedBetween first history node from (suc k) block) → t.change.stamp ≡ k
      → effect_at first history k ≡ Edits node t.change.edit
  happens from block t same = ap (effect_at first history) (sym same) ∙ edit_at first history t.change legal t.among ∙ ap (λ f. Edits f t.change.edit) t.own

  module _ (other : (edit : Edit) → effect_at first history k ≢ Edits node edit) where
    bytes_stay : (effect : Effect) → effect_at first history k ≡ effect → bytes_after effect node file.bytes ≡ file.bytes
    bytes_stay Stays e = refl
    bytes_stay (Adds d n c) e = refl
    bytes_stay (Removes d n c) e = refl
    bytes_stay (Moves p n q m c) e = refl
    bytes_stay (Edits own edit) e = elim (cases_Bool (nat_eq own node)) [
      | inl same ↦ absurd (other edit (e ∙ ap (λ f. Edits f edit) (let is_same : own ≡ node = grind (arith, nat_tests) in is_same)))
      | inr apart ↦ ap (λ b. cond b (edited edit file.bytes) file.bytes) apart
    ]

    pub file_stays : IsFileAt first history node (suc k) file
    file_stays = record {
      bytes =
          sym
          (next_bytes first history is legal node k ∙ ap (bytes_after (effect_at first history k) node) (sym at.bytes)
          ∙ bytes_stay (effect_at first history k) refl);
      marks = λ from block. (
        (λ marked. longer first history is legal node from block k ((at.marks from block).0 marked)),
        (λ touched. (at.marks from block).1 (touched_earlier from block touched (λ same. other touched.change.edit (happens from block touched same)))),
      );
    }

  module _ (edit : Edit) (stamp : Stamp) (after : File) (does : effect_at first history k ≡ Edits node edit) (stamped : stamp.0 ≡ k)
      (marked : IsMarkedEdit edit stamp file after) where
    bytes_edited : after.bytes ≡ bytes_at first history node (suc k)
    bytes_edited =
        marked.bytes ∙ ap (edited edit) at.bytes
        ∙ ap (λ b. cond b (edited edit (bytes_at first history node k)) (bytes_at first history node k)) (sym (same_number node))
        ∙ ap (λ o. bytes_after o node (bytes_at first history node k)) (sym does)
        ∙ sym (next_bytes first history is legal node k)

    -- the test of a mark, by what the edit touches
    test_is : (from block : ℕ) (b : Bool) → is_touched (touched_by edit (length file.bytes)) block ≡ b
        → is_marked_from from after block ≡ cond b (nat_le from k) (is_marked_from from file block)
    test_is from block b e =
        ap (λ (o : Option Stamp). option_map_or (λ (mark : Stamp). nat_le from mark.0) o false)
        (marked.marks block ∙ ap (λ c. cond c (Some stamp) (mark_of file block)) e)
        ∙ by b
      where
        by : (c : Bool)
            → option_map_or (λ (mark : Stamp). nat_le from mark.0) (cond c (Some stamp) (mark_of file block)) false
            ≡ cond c (nat_le from k) (is_marked_from from file block)
        by true = ap (nat_le from) stamped
        by false = refl

    touched_now : (from block : ℕ) → is_touched (touched_by edit (length file.bytes)) block ≡ true → nat_le from k ≡ true
        → IsTouchedBetween first history node from (suc k) block
    touched_now from block touches low = record {
      change = record { stamp = k; file = node; edit = edit };
      among =
          edit_in first history k (record { stamp = k; file = node; edit = edit }) legal
          (subst (λ o. IsOneOf (edits_by k o) (record { stamp = k; file = node; edit = edit })) (sym does) (inl refl));
      own = refl;
      since = grind (arith, nat_tests);
      below = omega arith;
      touches = subst (λ those. is_touched (touched_by edit (length those)) block ≡ true) at.bytes touches;
    }

    -- a change at this stamp is this one
    same_edit : (from block : ℕ) (t : IsTouchedBetween first history node from (suc k) block) → t.change.stamp ≡ k
        → is_touched (touched_by edit (length file.bytes)) block ≡ true
    same_edit from block t same =
        let is_edit : t.change.edit ≡ edit = the_edit t.change.edit (sym (happens from block t same) ∙ does) in
        ap (λ e. is_touched (touched_by e (length file.bytes)) block) (sym is_edit)
        ∙ ap (λ those. is_touched (touched_by t.change.edit (length those)) block) (at.bytes ∙ ap (bytes_at first history node) (sym same))
        ∙ t.touches
      where
        the_edit : (e : Edit) → Edits node e ≡ Edits node edit → e ≡ edit
        the_edit e q = cc

    marks_edited : (from block : ℕ) (b : Bool) → is_touched (touched_by edit (length file.bytes)) block ≡ b
        → (is_marked_from from after block ≡ true) ↔ IsTouchedBetween first history node from (suc k) block
    marks_edited from block true touches = (
      (λ test. touched_now from block touches (sym (test_is from block true touches) ∙ test)),
      (λ t. test_is from block true touches ∙ (let since = t.since in let below = t.below in grind (arith, nat_tests))),
    )
    marks_edited from block false none = (
      (λ test. longer first history is legal node from block k ((at.marks from block).0 (sym (test_is from block false none) ∙ test))),
      (λ t. test_is from block false none ∙ (at.marks from block).1 (touched_earlier from block t (λ same. not_both (same_edit from block t same) none))),
    )

    pub file_edited : IsFileAt first history node (suc k) after
    file_edited = record {
      bytes = bytes_edited;
      marks = λ from block. marks_edited from block (is_touched (touched_by edit (length file.bytes)) block) refl;
    }

module _ (first : TreeState) (history : List Entry) (is : IsSoundTree first) (legal : IsLegal first history) (node : ℕ) where
  -- a node that is there at a stamp is there at each later one
  there_later : (s k : ℕ) → s ≤ k → IsSome (get (tree_at first history s).nodes node) → IsSome (get (tree_at first history k).nodes node)
  there_later s zero le some = subst (λ t. IsSome (get (tree_at first history t).nodes node)) (let e : s ≡ 0 = omega (arith, le) in e) some
  there_later s (suc k) le some = elim (cases_lt k s) [
    | inl past ↦ subst (λ t. IsSome (get (tree_at first history t).nodes node)) (let e : s ≡ suc k = omega (arith, le, past) in e) some
    | inr low ↦
        subst (λ (t : TreeState). IsSome (get t.nodes node)) (sym (next_at first history k))
        (node_stays (tree_at first history k) (core_at first history k) (effect_at first history k) (makes_at first history k) node
        (fits_at first history 0 k is legal) (there_later s k low some))
  ]

  -- a node whose bytes change is there
  edited_there : (tree : TreeState) (core : ℕ) (effect : Effect) (makes : Option Kind) (edit : Edit) → Fits tree core effect makes → effect ≡ Edits node edit
      → IsSome (get tree.nodes node)
  edited_there tree core effect makes edit fits e = by makes (subst (λ o. Fits tree core o makes) e fits)
    where
      by : (m : Option Kind) → Fits tree core (Edits node edit) m → IsSome (get tree.nodes node)
      by None f = f.node
      by (Some kind) f = absurd f

  module _ (k directory : ℕ) (name : List ℕ) (kind : Kind) (adds : effect_at first history k ≡ Adds directory name node)
      (makes : makes_at first history k ≡ Some kind) where
    -- the node was not there before
    fresh : get (tree_at first history k).nodes node ≡ None
    fresh =
        let there : Fits (tree_at first history k) (core_at first history k) (Adds directory name node) (makes_at first history k) =
        subst (λ o. Fits (tree_at first history k) (core_at first history k) o (makes_at first history k)) adds (fits_at first history 0 k is legal) in
        let fits : Fits (tree_at first history k) (core_at first history k) (Adds directory name node) (Some kind) =
        subst (λ m. Fits (tree_at first history k) (core_at first history k) (Adds directory name node) m) makes there in
        fits.fresh

    never_touched : (from block : ℕ) → IsTouchedBetween first history node from k block → ⊥
    never_touched from block t =
        let does : effect_at first history t.change.stamp ≡ Edits node t.change.edit =
        edit_at first history t.change legal t.among ∙ ap (λ f. Edits f t.change.edit) t.own in
        let there =
        edited_there (tree_at first history t.change.stamp) (core_at first history t.change.stamp) (effect_at first history t.change.stamp)
        (makes_at first history t.change.stamp) t.change.edit (fits_at first history 0 t.change.stamp is legal) does in
        none_not_some _ fresh (there_later t.change.stamp k (let below = t.below in omega (arith, below)) there)

    made_file : (file : File) → file.bytes ≡ [] → IsUnmarked file → IsFileAt first history node (suc k) file
    made_file file empty none = file_stays first history is legal node k file (record {
      bytes = empty ∙ sym (bytes_in_tree first history is legal node k ∙ ap (λ (o : Option Node). option_map_or (λ (n : Node). n.bytes) o []) fresh);
      marks = λ from block. ((λ marked. absurd (unmarked file none from block marked)), (λ touched. absurd (never_touched from block touched)));
    }) (λ edit does. differ edit (sym adds ∙ does))
      where
        differ : (edit : Edit) → Adds directory name node ≡ Edits node edit → ⊥
        differ edit q = cc

pub new_files_begin : NewFilesBegin
new_files_begin first history entry rest directory name node kind file mounted adds makes empty none =
    made_file first (history ++ entry ∷ rest) mounted.sound mounted.legal node (length history) directory name kind
    (effect_behind first history entry rest ∙ adds) (makes_behind first history entry rest ∙ makes) file empty none

pub others_keep_files : OthersKeepFiles
others_keep_files first history entry node file mounted other at =
    file_stays first (history ++ entry ∷ []) mounted.sound mounted.legal node (length history) file
    (file_longer first history (entry ∷ []) mounted.sound mounted.legal node (length history)
    (let le : length history ≤ length history = omega arith in le) file at)
    (λ edit does. other edit (sym (effect_behind first history entry []) ∙ does))

pub edits_keep_files : EditsKeepFiles
edits_keep_files first history entry node edit file after mounted does at marked =
    file_edited first (history ++ entry ∷ []) mounted.sound mounted.legal node (length history) file
    (file_longer first history (entry ∷ []) mounted.sound mounted.legal node (length history)
    (let le : length history ≤ length history = omega arith in le) file at)
    edit entry.stamp after (effect_behind first history entry [] ∙ does)
    ((legal_rest first 0 history (entry ∷ []) mounted.legal).0.stamped ∙ zero_plus (length history)) marked
