-- What a history's changes and births come to with one entry more.
use Rattle.std.proofs.Common.{◌≡◌, List, [], ◌∷◌, ◌++◌, sym, ap, ◌∙◌}
use Rattle.std.proofs.lemmas.List.{append_assoc, append-nil}
use Rattle.tree_laws.specs.declared.history.Entry.{Entry}
use Rattle.tree_laws.specs.Tree.{TreeState}
use Rattle.tree_laws.specs.Verdict.{verdict}
use Rattle.tree_laws.specs.Changes.{changes_by, changes_of}
use Rattle.tree_laws.specs.History.{tree_after, tree_after_entry}
use Rattle.cut_laws.specs.Rules.{births_by, births_of}

-- the changes and births of a history with an entry more
pub changes_of-push : (first : TreeState) (history : List Entry) (entry : Entry)
    → changes_of first (history ++ entry ∷ [])
    ≡ changes_of first history ++ changes_by (tree_after first history) entry.stamp.0 (verdict (tree_after first history) entry.core.0 entry.call).effect
changes_of-push first [] entry = append-nil (changes_by first entry.stamp.0 (verdict first entry.core.0 entry.call).effect)
changes_of-push first (e ∷ history) entry =
    ap (λ l. changes_by first e.stamp.0 (verdict first e.core.0 e.call).effect ++ l) (changes_of-push (tree_after_entry first e) history entry)
    ∙ sym (append_assoc (changes_by first e.stamp.0 (verdict first e.core.0 e.call).effect) (changes_of (tree_after_entry first e) history) _)

pub births_of-push : (first : TreeState) (history : List Entry) (entry : Entry)
    → births_of first (history ++ entry ∷ [])
    ≡ births_of first history
    ++ births_by entry.stamp.0 (verdict (tree_after first history) entry.core.0 entry.call).effect
    (verdict (tree_after first history) entry.core.0 entry.call).makes
births_of-push first [] entry =
    append-nil (births_by entry.stamp.0 (verdict first entry.core.0 entry.call).effect (verdict first entry.core.0 entry.call).makes)
births_of-push first (e ∷ history) entry =
    ap (λ l. births_by e.stamp.0 (verdict first e.core.0 e.call).effect (verdict first e.core.0 e.call).makes ++ l)
    (births_of-push (tree_after_entry first e) history entry)
    ∙ sym
    (append_assoc (births_by e.stamp.0 (verdict first e.core.0 e.call).effect (verdict first e.core.0 e.call).makes)
    (births_of (tree_after_entry first e) history) _)
