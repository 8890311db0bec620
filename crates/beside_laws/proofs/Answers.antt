-- What entries were answered tells nothing of trees and changes.
use Rattle.std.proofs.Common.{◌≡◌, suc, List, [], ◌∷◌, ◌++◌, length, map, take, refl, sym, ap, ◌∙◌}
use Rattle.std.proofs.lemmas.List.{take-map}
use Rattle.tree_laws.specs.declared.history.Entry.{Entry}
use Rattle.tree_laws.specs.Changes.{RowChange, changes_by, changes_of}
use Rattle.tree_laws.specs.History.{tree_after, tree_after_entry}
use Rattle.tree_laws.specs.Verdict.{tree_after_call}
use Rattle.tree_laws.specs.Tree.{TreeState}
use Rattle.tree_laws.specs.Verdict.{verdict}
use Rattle.cut_laws.specs.Rules.{Birth, births_by, births_of}
use Rattle.beside_laws.specs.Answers.{Asked, asked, AnswersTellNothing}

-- the same by what was asked
tree_asked : TreeState → List Asked → TreeState
tree_asked first [] = first
tree_asked first (one ∷ rest) = tree_asked (tree_after_call first one.core.0 one.call) rest

changes_asked : TreeState → List Asked → List RowChange
changes_asked first [] = []
changes_asked first (one ∷ rest) =
    changes_by first one.stamp.0 (verdict first one.core.0 one.call).effect ++ changes_asked (tree_after_call first one.core.0 one.call) rest

births_asked : TreeState → List Asked → List Birth
births_asked first [] = []
births_asked first (one ∷ rest) =
    births_by one.stamp.0 (verdict first one.core.0 one.call).effect (verdict first one.core.0 one.call).makes
    ++ births_asked (tree_after_call first one.core.0 one.call) rest

tree_is : (first : TreeState) (history : List Entry) → tree_after first history ≡ tree_asked first (map asked history)
unfolding tree_asked
tree_is first [] = refl
tree_is first (entry ∷ history) = tree_is (tree_after_entry first entry) history

changes_are : (first : TreeState) (history : List Entry) → changes_of first history ≡ changes_asked first (map asked history)
unfolding changes_asked
changes_are first [] = refl
changes_are first (entry ∷ history) =
    ap (λ l. changes_by first entry.stamp.0 (verdict first entry.core.0 entry.call).effect ++ l) (changes_are (tree_after_entry first entry) history)

births_are : (first : TreeState) (history : List Entry) → births_of first history ≡ births_asked first (map asked history)
unfolding births_asked
births_are first [] = refl
births_are first (entry ∷ history) =
    ap (λ l. births_by entry.stamp.0 (verdict first entry.core.0 entry.call).effect (verdict first entry.core.0 entry.call).makes ++ l)
    (births_are (tree_after_entry first entry) history)

long_is : (history : List Entry) → length history ≡ length (map asked history)
long_is [] = refl
long_is (entry ∷ history) = ap suc (long_is history)

pub answers_tell_nothing : AnswersTellNothing
answers_tell_nothing first history other same = record {
  trees = λ n.
      tree_is first (take n history) ∙ ap (tree_asked first) (sym (take-map asked n history) ∙ ap (take n) same ∙ take-map asked n other)
      ∙ sym (tree_is first (take n other));
  whole = tree_is first history ∙ ap (tree_asked first) same ∙ sym (tree_is first other);
  changes = changes_are first history ∙ ap (changes_asked first) same ∙ sym (changes_are first other);
  births = births_are first history ∙ ap (births_asked first) same ∙ sym (births_are first other);
  long = long_is history ∙ ap length same ∙ sym (long_is other);
}
