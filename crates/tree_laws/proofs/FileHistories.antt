-- Trees along a legal history: they stay sound, and a file's bytes at a stamp are those of the tree there.
use Rattle.std.proofs.Common.{◌≡◌, ℕ, zero, suc, ◌+◌, ◌<◌, ◌≤◌, true, false, cond, ◌&&◌, List, [], ◌∷◌, ◌++◌, take, Option, Some, None, inl, inr, refl, sym, ap, subst, ◌∙◌, arith, nat_eq}
use borrow.Author.Tests.{eq-eqb, lt-ltb}
use Rattle.std.specs.Prelude.{filter, fold}
use Rattle.std.specs.Option.{option_map_or}
use Rattle.std.specs.FinMap.{get}
use Rattle.std.proofs.lemmas.List.Sums.{fold-append}
use Rattle.std.proofs.lemmas.List.Elements.{filter-append}
use Rattle.sfs_base.specs.declared.numbers.Kind.{Kind}
use Rattle.tree_laws.specs.declared.history.Entry.{Entry}
use Rattle.tree_laws.specs.Tree.{TreeState, Node, bytes_of, next_number}
use Rattle.tree_laws.specs.Effect.{Effect, Stays, Adds, Removes, Moves, Edits, edited, with_edit, tree_with}
use Rattle.tree_laws.specs.Verdict.{verdict}
use Rattle.tree_laws.specs.History.{tree_after, tree_after_entry, IsLegalFrom, IsLegal}
use Rattle.tree_laws.specs.Changes.{FileChange, edits_by, edits_of, is_edit_below, bytes_at}
use Rattle.tree_laws.specs.Fits.{Fits}
use Rattle.tree_laws.specs.Parts.{bytes_after}
use Rattle.tree_laws.specs.Laws.{IsSoundTree}
use Rattle.tree_laws.proofs.KeepsNodes.{node_cases}
use Rattle.tree_laws.proofs.SoundTrees.{calls_keep_sound, calls_fit}
use Rattle.sfs_base.proofs.BasicOptions.{none_not_some}
use Rattle.sfs_base.proofs.BasicNumbers.{not_same, not_below, zero_plus}
use Rattle.sfs_base.proofs.BasicLists.{take_none}

-- each tree of a legal history is sound, where the first one is
sound_from : (stamp k : ℕ) (first : TreeState) (history : List Entry) → IsSoundTree first → IsLegalFrom first stamp history
    → IsSoundTree (tree_after first (take k history))
sound_from stamp zero first [] is legal = is
sound_from stamp zero first (entry ∷ history) is legal = is
sound_from stamp (suc k) first [] is legal = is
sound_from stamp (suc k) first (entry ∷ history) is legal =
    sound_from (suc stamp) k (tree_after_entry first entry) history (calls_keep_sound first entry.core.0 entry.call is legal.0.core) legal.1

pub histories_keep_sound : (first : TreeState) (history : List Entry) (count : ℕ) → IsSoundTree first → IsLegal first history
    → IsSoundTree (tree_after first (take count history))
histories_keep_sound first history count is legal = sound_from 0 count first history is legal

pub bytes_with : (tree : TreeState) (core : ℕ) (effect : Effect) (makes : Option Kind) (f : ℕ) → Fits tree core effect makes
    → bytes_of (tree_with tree core effect makes) f ≡ bytes_after effect f (bytes_of tree f)
bytes_with tree core Stays None f fits = refl
bytes_with tree core (Adds d n c) None f fits = refl
bytes_with tree core (Removes d n c) None f fits = refl
bytes_with tree core (Moves p n q m c) None f fits = refl
bytes_with tree core Stays (Some kind) f fits = absurd fits
bytes_with tree core (Removes d n c) (Some kind) f fits = absurd fits
bytes_with tree core (Moves p n q m c) (Some kind) f fits = absurd fits
bytes_with tree core (Edits file edit) (Some kind) f fits = absurd fits
bytes_with tree core (Adds d n c) (Some kind) f fits =
    elim (node_cases tree.nodes (next_number tree core) (record { kind = kind; bytes = [] }) f) [
      | inl here ↦
          ap (λ (o : Option Node). option_map_or (λ (n : Node). n.bytes) o []) here.1
          ∙ sym (ap (λ (o : Option Node). option_map_or (λ (n : Node). n.bytes) o []) (ap (get tree.nodes) (here.0 ∙ sym fits.number) ∙ fits.fresh))
      | inr other ↦ ap (λ (o : Option Node). option_map_or (λ (n : Node). n.bytes) o []) other.1
    ]
bytes_with tree core (Edits file edit) None f fits =
    elim (get tree.nodes file) as (λ o. get tree.nodes file ≡ o
    → option_map_or (λ (n : Node). n.bytes) (get (with_edit tree.nodes file edit o) f) []
    ≡ cond (nat_eq file f) (edited edit (bytes_of tree f)) (bytes_of tree f)) [
      | None ↦ λ e. absurd (none_not_some _ e fits.node)
      | Some node ↦ λ e. elim (node_cases tree.nodes file (record node { bytes = edited edit node.bytes }) f) [
        | inl here ↦
            ap (λ (o : Option Node). option_map_or (λ (n : Node). n.bytes) o []) here.1
            ∙ ap (edited edit) (sym (ap (λ (o : Option Node). option_map_or (λ (n : Node). n.bytes) o []) (ap (get tree.nodes) here.0 ∙ e)))
            ∙ sym (ap (λ b. cond b (edited edit (bytes_of tree f)) (bytes_of tree f)) (eq-eqb file f (sym here.0)))
        | inr other ↦
            ap (λ (o : Option Node). option_map_or (λ (n : Node). n.bytes) o []) other.1
            ∙ sym (ap (λ b. cond b (edited edit (bytes_of tree f)) (bytes_of tree f)) (not_same file f (λ same. other.0 (sym same))))
      ]
    ] refl

-- bytes with a change made
abbrev change_made : List ℕ → FileChange → List ℕ
change_made bytes change = edited change.edit bytes

-- the changes of an effect below a stamp, folded in, give the bytes after it
folded : (f stamp c : ℕ) (effect : Effect) (bytes : List ℕ) → stamp < c
    → fold change_made bytes (filter (is_edit_below f c) (edits_by stamp effect)) ≡ bytes_after effect f bytes
folded f stamp c Stays bytes lt = refl
folded f stamp c (Adds d n child) bytes lt = refl
folded f stamp c (Removes d n child) bytes lt = refl
folded f stamp c (Moves p n q m child) bytes lt = refl
folded f stamp c (Edits file edit) bytes lt =
    ap (λ b. fold change_made bytes (cond (b && nat_eq file f) (record { stamp = stamp; file = file; edit = edit } ∷ []) [])) (lt-ltb _ _ lt)
    ∙ elim (nat_eq file f) as (λ b. fold change_made bytes (cond (true && b) (record { stamp = stamp; file = file; edit = edit } ∷ []) [])
    ≡ cond b (edited edit bytes) bytes) [
      | true ↦
          refl
      | false ↦ refl
    ]

dropped : (f c stamp : ℕ) (effect : Effect) → c ≤ stamp → filter (is_edit_below f c) (edits_by stamp effect) ≡ []
dropped f c stamp Stays le = refl
dropped f c stamp (Adds d n child) le = refl
dropped f c stamp (Removes d n child) le = refl
dropped f c stamp (Moves p n q m child) le = refl
dropped f c stamp (Edits file edit) le = ap (λ b. cond (b && nat_eq file f) (record { stamp = stamp; file = file; edit = edit } ∷ []) []) (not_below stamp c le)

all_dropped : (f c stamp : ℕ) (first : TreeState) (history : List Entry) → c ≤ stamp → IsLegalFrom first stamp history
    → filter (is_edit_below f c) (edits_of first history) ≡ []
all_dropped f c stamp first [] le legal = refl
all_dropped f c stamp first (e ∷ history) le legal =
    filter-append (is_edit_below f c) (edits_by e.stamp.0 (verdict first e.core.0 e.call).effect) (edits_of (tree_after_entry first e) history)
    ∙ ap (λ l. l ++ filter (is_edit_below f c) (edits_of (tree_after_entry first e) history))
    (dropped f c e.stamp.0 (verdict first e.core.0 e.call).effect (subst (λ n. c ≤ n) (sym legal.0.stamped) le))
    ∙ all_dropped f c (suc stamp) (tree_after_entry first e) history (omega arith) legal.1

bytes_from_stamp : (f c stamp k : ℕ) (first : TreeState) (history : List Entry) → stamp + k ≡ c → IsSoundTree first → IsLegalFrom first stamp history
    → fold change_made (bytes_of first f) (filter (is_edit_below f c) (edits_of first history)) ≡ bytes_of (tree_after first (take k history)) f
bytes_from_stamp f c stamp zero first history e is legal =
    ap (fold change_made (bytes_of first f)) (all_dropped f c stamp first history (omega arith) legal)
    ∙ ap (λ h. bytes_of (tree_after first h) f) (sym (take_none history))
bytes_from_stamp f c stamp (suc k) first [] e is legal = refl
bytes_from_stamp f c stamp (suc k) first (entry ∷ history) e is legal =
    ap (fold change_made (bytes_of first f))
    (filter-append (is_edit_below f c) (edits_by entry.stamp.0 (verdict first entry.core.0 entry.call).effect)
    (edits_of (tree_after_entry first entry) history))
    ∙ fold-append change_made (bytes_of first f) (filter (is_edit_below f c) (edits_by entry.stamp.0 (verdict first entry.core.0 entry.call).effect))
    (filter (is_edit_below f c) (edits_of (tree_after_entry first entry) history))
    ∙ ap (λ bytes. fold change_made bytes (filter (is_edit_below f c) (edits_of (tree_after_entry first entry) history)))
    (folded f entry.stamp.0 c (verdict first entry.core.0 entry.call).effect (bytes_of first f) (subst (λ n. n < c) (sym legal.0.stamped) (omega arith))
    ∙ sym
    (bytes_with first entry.core.0 (verdict first entry.core.0 entry.call).effect (verdict first entry.core.0 entry.call).makes f
    (calls_fit first entry.core.0 entry.call is legal.0.core)))
    ∙ bytes_from_stamp f c (suc stamp) k (tree_after_entry first entry) history (omega arith)
    (calls_keep_sound first entry.core.0 entry.call is legal.0.core) legal.1

-- the bytes of a file at a stamp are those of the tree after the entries below it
pub bytes_at-tree_after : (first : TreeState) (history : List Entry) (f c : ℕ) → IsSoundTree first → IsLegal first history
    → bytes_at first history f c ≡ bytes_of (tree_after first (take c history)) f
bytes_at-tree_after first history f c is legal = bytes_from_stamp f c 0 c first history (zero_plus c) is legal
