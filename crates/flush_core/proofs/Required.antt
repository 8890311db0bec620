-- What the members bring in is in the closure, and the closure has no more.
use Rattle.std.proofs.Common.{◌≡◌, ℕ, ◌<◌, ◌≤◌, true, false, List, [], take, Option, Some, None, inl, inr, refl, sym, ap, subst, ◌∙◌, Vec, Global}
use Rattle.std.specs.Option.{option_map_or}
use Rattle.tree_laws.specs.declared.history.Entry.{Entry}
use Rattle.tree_laws.specs.Tree.{TreeState}
use Rattle.tree_laws.specs.Sound.{Above}
use Rattle.tree_laws.specs.Changes.{RowChange}
use Rattle.tree_laws.specs.History.{tree_after}
use Rattle.flush_core.specs.declared.past.OwnChange.{OwnChange}
use Rattle.flush_core.specs.declared.past.BornNode.{BornNode}
use Rattle.flush_core.specs.declared.past.Past.{Past}
use Rattle.flush_core.specs.declared.sets.NodeSet.{NodeSet}
use Rattle.cut_laws.specs.Cut.{Cut, cut_of}
use Rattle.cut_laws.specs.Rules.{IsOneOf, IsChange, MovesDirectory, IsMove, Birth, births_of}
use Rattle.cut_laws.specs.Closure.{every_entry, Flush, InSpan, HasNaming, Closure, itself, other_side, ended, ancestor, birth_place}
use Rattle.flush_core.specs.Past.{IsPast, row_change_of, birth_of}
use Rattle.flush_core.specs.NodeSets.{has_node}
use Rattle.flush_core.specs.Engine.{Spans, IsNaming, RequiresNode, IsRequired}
use Rattle.cut_laws.proofs.Listed.{from_map, to_map}

-- one of those that are kept as above is kept in a list
kept_above : (kept : Option (Vec ℕ Global)) (node : ℕ) → IsOneOf (option_map_or (λ (above : Vec ℕ Global). above.items) kept []) node
    → (v : Vec ℕ Global) × (kept ≡ Some v) × IsOneOf v.items node
kept_above None node one = absurd one
kept_above (Some v) node one = (v, refl, one)

module _ (first : TreeState) (history : List Entry) (past : Past) (is : IsPast first history past) where
  -- the changes that are kept are those of the history
  pub kept_change : (own : OwnChange) → IsOneOf past.changes.items own → IsChange first history (row_change_of own)
  kept_change own one = rw is.changes at (to_map row_change_of past.changes.items own one)

  pub change_kept : (change : RowChange) → IsChange first history change → (own : OwnChange) × IsOneOf past.changes.items own × (row_change_of own ≡ change)
  change_kept change one = from_map row_change_of past.changes.items change (rw is.changes one)

  kept_birth : (born : BornNode) → IsOneOf past.births.items born → IsOneOf (births_of first history) (birth_of born)
  kept_birth born one = rw is.births at (to_map birth_of past.births.items born one)

  birth_kept : (birth : Birth) → IsOneOf (births_of first history) birth → (born : BornNode) × IsOneOf past.births.items born × (birth_of born ≡ birth)
  birth_kept birth one = from_map birth_of past.births.items birth (rw is.births one)

  -- a span and a naming, of a change and of the one that is kept
  pub in_span : (cut : Cut) (stamp : ℕ) (own : OwnChange) → IsOneOf past.changes.items own → Spans cut stamp own
      → InSpan first history every_entry cut stamp (row_change_of own)
  in_span cut stamp own one spans = record { is_change = kept_change own one; counted = refl; from = spans.from; below = spans.below }

  pub spans_of : (cut : Cut) (stamp : ℕ) (own : OwnChange) (change : RowChange) → row_change_of own ≡ change → InSpan first history every_entry cut stamp change
      → Spans cut stamp own
  spans_of cut stamp own change e span = record {
    from = subst (λ (c : RowChange). cut_of cut c.directory ≤ c.stamp) (sym e) span.from;
    below = subst (λ (c : RowChange). c.stamp < stamp) (sym e) span.below;
  }

  pub naming_is : (cut : Cut) (node : ℕ) → IsNaming past.changes.items cut node → HasNaming first history every_entry cut node
  naming_is cut node (own, one, names) =
      record { change = row_change_of own; is_change = kept_change own one; counted = refl; child = names.child; unflushed = names.unflushed }

  pub is_naming : (cut : Cut) (node : ℕ) → HasNaming first history every_entry cut node → IsNaming past.changes.items cut node
  is_naming cut node naming =
      let kept = change_kept naming.change naming.is_change in (
        kept.0,
        kept.1,
        record {
          child = ap (λ (c : RowChange). c.child) kept.2 ∙ naming.child;
          unflushed = subst (λ (c : RowChange). cut_of cut c.directory ≤ c.stamp) (sym kept.2) naming.unflushed;
        },
      )

  module _ (cut : Cut) (inodes members : NodeSet) (flush : Flush) where
    abbrev IsIn : ℕ → Type 0
    IsIn = Closure first history every_entry cut (has_node inodes) flush

    brought : (own : OwnChange) (node : ℕ) → IsOneOf past.changes.items own → IsIn own.directory → Spans cut flush.stamp own → RequiresNode own node → IsIn node
    brought own node one member spans (inl other) = other_side (row_change_of own) node member (in_span cut flush.stamp own one spans) other
    brought own node one member spans (inr (inl (ends, child))) = rw child at (ended (row_change_of own) member (in_span cut flush.stamp own one spans) ends)
    brought own node one member spans (inr (inr above)) =
        let kept = kept_above own.above node above in
        let keeps = is.above own one in
        ancestor (row_change_of own) kept.0.items node member (in_span cut flush.stamp own one spans)
        (record { is_change = kept_change own one; moves = keeps.moves kept.0 kept.1 }) (keeps.stand kept.0 kept.1) kept.2

    -- what the members bring in is in the closure where they are
    pub required_is_in : ((node : ℕ) → has_node members node ≡ true → IsIn node) → (node : ℕ) → IsRequired past cut inodes flush.stamp members node → IsIn node
    required_is_in all node (inl (own, one, b)) = brought own node one (all own.directory b.member) b.spans b.requires_it
    required_is_in all node (inr (born, one, b)) =
        rw b.place at (birth_place (birth_of born) (all born.node b.member) (kept_birth born one) b.no_inode (naming_is cut born.node b.naming))

    -- members that bring in no others are the closure
    module _ (own : has_node members flush.node ≡ true)
        (closed : (node : ℕ) → IsRequired past cut inodes flush.stamp members node → has_node members node ≡ true) where
      by_change : (change : RowChange) (node : ℕ) → has_node members change.directory ≡ true → InSpan first history every_entry cut flush.stamp change
          → ((kept : OwnChange) → IsOneOf past.changes.items kept → row_change_of kept ≡ change → RequiresNode kept node) → has_node members node ≡ true
      by_change change node member span brings =
          let kept = change_kept change span.is_change in
          closed node (inl (
            kept.0,
            kept.1,
            record {
              member = subst (λ (c : RowChange). has_node members c.directory ≡ true) (sym kept.2) member;
              spans = spans_of cut flush.stamp kept.0 change kept.2 span;
              requires_it = brings kept.0 kept.1 kept.2;
            },
          ))

      by_birth : (birth : Birth) → has_node members birth.node ≡ true → IsOneOf (births_of first history) birth → has_node inodes birth.node ≡ false
          → HasNaming first history every_entry cut birth.node → has_node members birth.directory ≡ true
      by_birth birth member one none naming =
          let kept = birth_kept birth one in
          closed birth.directory (inr (
            kept.0,
            kept.1,
            record {
              member = subst (λ (b : Birth). has_node members b.node ≡ true) (sym kept.2) member;
              no_inode = subst (λ (b : Birth). has_node inodes b.node ≡ false) (sym kept.2) none;
              naming = subst (λ (b : Birth). IsNaming past.changes.items cut b.node) (sym kept.2) (is_naming cut birth.node naming);
              place = ap (λ (b : Birth). b.directory) kept.2;
            },
          ))

      those_above : (change : RowChange) (above : List ℕ) (node : ℕ) → IsMove first history change
          → Above (tree_after first (take change.stamp history)) change.directory above → IsOneOf above node → (kept : OwnChange)
          → IsOneOf past.changes.items kept → row_change_of kept ≡ change → RequiresNode kept node
      those_above change above node move stand one kept in_past e =
          let found =
          (is.above kept in_past).all (subst (λ (c : RowChange). MovesDirectory (tree_after first (take c.stamp history)) c) (sym e) move.moves) above
          (subst (λ (c : RowChange). Above (tree_after first (take c.stamp history)) c.directory above) (sym e) stand) in
          inr (inr (rw found.1 (rw found.2 one)))

      pub in_members : (node : ℕ) → IsIn node → has_node members node ≡ true
      in_members _ itself = own
      in_members _ (other_side change other member span e) =
          by_change change other (in_members change.directory member) span (λ kept _ same. inl (ap (λ (c : RowChange). c.other) same ∙ e))
      in_members _ (ended change member span ends) =
          by_change change change.child (in_members change.directory member) span
          (λ kept _ same. inr (inl (ap (λ (c : RowChange). c.ends) same ∙ ends, ap (λ (c : RowChange). c.child) same)))
      in_members _ (ancestor change above node member span move stand one) =
          by_change change node (in_members change.directory member) span (those_above change above node move stand one)
      in_members _ (birth_place birth member one none naming) = by_birth birth (in_members birth.node member) one none naming
