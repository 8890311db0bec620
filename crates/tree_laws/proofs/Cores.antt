-- A call leaves as many cores as there were.
use Rattle.std.proofs.Common.{◌≡◌, ℕ, ◌+◌, List, [], ◌∷◌, length, Option, Some, None, refl, ◌∙◌}
use Rattle.std.proofs.lemmas.List.{length-set}
use Rattle.sfs_base.specs.declared.numbers.Kind.{Kind}
use Rattle.tree_laws.specs.declared.call.Call.{Call}
use Rattle.tree_laws.specs.declared.history.Entry.{Entry}
use Rattle.tree_laws.specs.Tree.{TreeState, made_by}
use Rattle.tree_laws.specs.Effect.{made_after}
use Rattle.tree_laws.specs.Verdict.{verdict, tree_after_call}
use Rattle.tree_laws.specs.History.{tree_after, tree_after_entry}

length-made_after : (made : List ℕ) (core before : ℕ) (makes : Option Kind) → length (made_after made core before makes) ≡ length made
length-made_after made core before None = refl
length-made_after made core before (Some kind) = length-set made core (before + 1)

pub cores_after : (tree : TreeState) (core : ℕ) (c : Call) → length (tree_after_call tree core c).made ≡ length tree.made
cores_after tree core c = length-made_after tree.made core (made_by tree core) (verdict tree core c).makes

pub cores_stay : (first : TreeState) (history : List Entry) → length (tree_after first history).made ≡ length first.made
cores_stay first [] = refl
cores_stay first (entry ∷ history) = cores_stay (tree_after_entry first entry) history ∙ cores_after first entry.core.0 entry.call
