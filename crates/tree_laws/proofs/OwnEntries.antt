-- Of a legal history the lists of its cores' own entries are its cores' lists.
use Rattle.std.proofs.Common.{◌≡◌, ℕ, zero, suc, ◌+◌, ◌<◌, List, [], ◌∷◌, length, Some, sym, subst, ◌∙◌, arith}
use Rattle.std.specs.Prelude.{slice_get}
use Rattle.sfs_base.proofs.BasicOptions.{some_is}
use Rattle.tree_laws.specs.declared.history.Entry.{Entry}
use Rattle.tree_laws.specs.Tree.{TreeState}
use Rattle.tree_laws.specs.History.{tree_after_entry, IsLegalFrom}
use Rattle.tree_laws.specs.Laws.{OwnEntriesAreCores}
use Rattle.tree_laws.proofs.Cores.{cores_after}

-- each entry has its place as its stamp, and a core of the tree's
pub record IsInPlace (cores stamp place : ℕ) (entry : Entry) : Type 0 where
  pub stamped : entry.stamp.0 ≡ stamp + place
  pub core : entry.core.0 < cores

in_place : (tree : TreeState) (stamp : ℕ) (history : List Entry) (place : ℕ) (entry : Entry) → IsLegalFrom tree stamp history
    → slice_get history place ≡ Some entry → IsInPlace (length tree.made) stamp place entry
in_place tree stamp [] place entry legal there = cc
in_place tree stamp (first ∷ history) zero entry legal there =
    subst (IsInPlace (length tree.made) stamp 0) (some_is first entry there) (record { stamped = legal.0.stamped ∙ omega arith; core = legal.0.core })
in_place tree stamp (first ∷ history) (suc place) entry legal there =
    let later = in_place (tree_after_entry tree first) (suc stamp) history place entry legal.1 there in
    record {
      stamped = later.stamped ∙ omega arith;
      core = subst (λ (n : ℕ). entry.core.0 < n) (cores_after tree first.core.0 first.call) later.core;
    }

pub own_entries_are_cores : OwnEntriesAreCores
own_entries_are_cores first history parts legal few as_many own = record {
  stamped = λ place entry there. (in_place first 0 history place entry legal there).stamped ∙ omega arith;
  cores = λ place entry there. subst (λ (n : ℕ). entry.core.0 < n) (sym as_many) (in_place first 0 history place entry legal there).core;
  own = own;
  few = few;
}
