-- The nodes that an fsync concerns.
use Rattle.std.proofs.Common.{◌≡◌, ℕ, true, List, ◌⊎◌, inl, inr, sym, ap, subst}
use Rattle.tree_laws.specs.declared.history.Entry.{Entry}
use Rattle.tree_laws.specs.Tree.{TreeState}
use Rattle.tree_laws.specs.Changes.{RowChange}
use Rattle.flush_core.specs.declared.past.Past.{Past}
use Rattle.flush_core.specs.declared.sets.NodeSet.{NodeSet}
use Rattle.cut_laws.specs.Cut.{Cut}
use Rattle.cut_laws.specs.Closure.{every_entry, Flush, IsConcerned, member, named}
use Rattle.flush_core.specs.Past.{IsPast, row_change_of}
use Rattle.flush_core.specs.NodeSets.{has_node}
use Rattle.flush_core.specs.Engine.{Joins, NamesFor}
use Rattle.cut_laws.specs.Elements.{OfSome}
use Rattle.flush_core.specs.Members.{AreMembers, AreConcerned}
use Rattle.flush_core.proofs.Required.{change_kept, in_span, spans_of}

module _ (first : TreeState) (history : List Entry) (past : Past) (is : IsPast first history past) (cut : Cut) (inodes members : NodeSet) (flush : Flush)
    (are : AreMembers first history cut inodes flush members) where
  names_for : (node : ℕ) → IsConcerned first history every_entry cut (has_node inodes) flush node
      → (has_node members node ≡ true) ⊎ OfSome past.changes.items (NamesFor cut flush.stamp members) node
  names_for node (member _ in_closure) = inl ((are node).1 in_closure)
  names_for _ (named change in_closure span) =
      let kept = change_kept first history past is change span.is_change in
      inr (
        kept.0,
        kept.1,
        record {
          member = subst (λ (c : RowChange). has_node members c.directory ≡ true) (sym kept.2) ((are change.directory).1 in_closure);
          spans = spans_of first history past is cut flush.stamp kept.0 change kept.2 span;
          child = ap (λ (c : RowChange). c.child) kept.2;
        },
      )

  -- the members, and the children of the changes in their spans
  pub are_concerned : (concerned : NodeSet) → Joins (OfSome past.changes.items (NamesFor cut flush.stamp members)) members concerned
      → AreConcerned first history cut inodes flush concerned
  are_concerned concerned joins node = (
    λ has. elim ((joins node).0 has) [
      | inl own ↦ member node ((are node).0 own)
      | inr some ↦
          rw some.2.child at
          (named (row_change_of some.0) ((are some.0.directory).0 some.2.member) (in_span first history past is cut flush.stamp some.0 some.1 some.2.spans))
    ],
    λ concerns. (joins node).1 (names_for node concerns),
  )
