-- What an fsync planned is what its core made, and it asked its pen for exactly the nodes that it concerns.
use Rattle.std.specs.Prelude.{if◌then◌else◌, is_some}
use Rattle.std.proofs.Common.{◌≡◌, ◌∙◌, ◌∷◌, ℕ, Bool, true, false, List, map, Option, Some, None, refl, sym, ap, subst, [], find, nat_eq, inl, inr, option_map}
use Rattle.std.proofs.lemmas.Bool.Decides.{eqb_tells}
use Rattle.sfs_base.specs.declared.numbers.NodeId.{NodeId}
use Rattle.sfs_base.specs.Listed.{is_listed}
use Rattle.sfs_base.proofs.BasicOptions.{none_some, some_same}
use Rattle.sfs_base.proofs.BasicTruth.{true_not_false}
use Rattle.tree_laws.specs.NameRow.{node_number}
use Rattle.cut_laws.proofs.Listed.{listed_one}
use Rattle.flush_plan.specs.declared.concern.Concern.{Concern}
use Rattle.stamp_table.specs.Table.{values_in}
use Rattle.mem_values.specs.declared.cell.Pending.{Pending}
use Rattle.mem_values.specs.declared.cell.Cell.{Cell}
use Rattle.made_laws.specs.Made.{CoreMaking, is_concerned}
use Rattle.made_laws.specs.Tells.{last_of_seen}
use Rattle.slot_laws.specs.Nodes.{last_seen}
use Rattle.slot_laws.specs.declared.label.Seen.{Seen}
use Rattle.mem_calls.specs.Held.{pending_held}
use Rattle.fsync_draft.specs.Drafting.{seens_of, last_of_value}
use Rattle.landing_laws.specs.Made.{IsDraftedFsync, MakesPlanned, PlannedFsync}
use Rattle.landing_laws.proofs.HeldNodes.{later_listed}
use Rattle.landing_laws.proofs.Seen.{last_is_seen}
use Rattle.landing_laws.proofs.Drafted.{drafts_are_made, held_of_listed}
use Rattle.flush_agrees.specs.Made.{SeesConcerned}

-- what is seen of nodes is of one of the list
seens_listed : (list : List NodeId) (values : List Cell) (node last : ℕ) → last_seen (seens_of list values) node ≡ Some last
    → is_listed (map node_number list) node ≡ true
seens_listed [] values node last is = absurd (none_some is)
seens_listed (n ∷ list) [] node last is = absurd (none_some is)
seens_listed (n ∷ list) (value ∷ values) node last is =
    let found : Bool → Option Seen = λ b. if b then Some (record { node = n; last = last_of_value value })
    else find (λ (one : Seen). nat_eq one.node.0 node) (seens_of list values) in
    elim (eqb_tells n.0 node) [
      | inl same ↦ (listed_one (map node_number (n ∷ list)) node).1 (inl same.1)
      | inr away ↦ later_listed n list node
          (seens_listed list values node last (sym (ap (λ b. option_map (λ (one : Seen). one.last) (found b)) away.0) ∙ is))
    ]

-- A core made what was planned, of exactly the nodes that were seen.
pub record MadeSeen (s : PlannedFsync) : Type 0 where
  pub makes : MakesPlanned s
  pub sees : SeesConcerned makes.making s.drafted.draft.seen.items

module _ (s : PlannedFsync) (is : IsDraftedFsync s) where
  abbrev list : List NodeId
  list = s.caught.concern.nodes.items

  abbrev makes : MakesPlanned s
  makes = drafts_are_made s is

  abbrev making : CoreMaking
  making = makes.making

  concerned_is : (node : ℕ) → is_concerned making node ≡ is_listed (map node_number list) node
  concerned_is node = ap (λ (c : Concern). is_listed (map node_number c.nodes.items) node) makes.concern_is

  -- what the core saw of a node that is concerned is what it holds of it
  saw_held : (node : ℕ) → is_listed (map node_number list) node ≡ true
      → making.noted.pending node ≡ pending_held s.nodes s.hand.held (record { 0 = node })
  saw_held node listed =
      ap (λ (f : ℕ → Option Pending). f node) makes.saw
      ∙ ap (λ b. if b then pending_held s.nodes s.hand.held (record { 0 = node }) else None) listed

  -- what the core saw of a node is what its number was asked for
  sees_last : (node last : ℕ) → last_seen (seens_of list (values_in s.hand.held)) node ≡ Some last → last_of_seen (making.noted.pending node) ≡ last
  sees_last node last seen =
      let listed = seens_listed list (values_in s.hand.held) node last seen in
      let held = held_of_listed s is is.how node listed in
      let there = last_is_seen s.nodes list s.hand.held is.holds (record { 0 = node }) held.0 held.1 in
      ap last_of_seen (saw_held node listed ∙ held.1) ∙ some_same (sym there ∙ seen)

  sees_holds : (node : ℕ) → is_listed (map node_number list) node ≡ is_some (last_seen (seens_of list (values_in s.hand.held)) node)
  sees_holds node = by (is_listed (map node_number list) node) refl (last_seen (seens_of list (values_in s.hand.held)) node) refl
    where
      by : (b : Bool) → is_listed (map node_number list) node ≡ b → (o : Option ℕ) → last_seen (seens_of list (values_in s.hand.held)) node ≡ o
          → is_listed (map node_number list) node ≡ is_some (last_seen (seens_of list (values_in s.hand.held)) node)
      by true listed o seen =
          let held = held_of_listed s is is.how node listed in
          listed ∙ ap is_some (sym (last_is_seen s.nodes list s.hand.held is.holds (record { 0 = node }) held.0 held.1))
      by false other None seen = other ∙ ap is_some (sym seen)
      by false other (Some last) seen = absurd (true_not_false (sym (seens_listed list (values_in s.hand.held) node last seen) ∙ other))

  -- so a core made it, and its number was asked for exactly the nodes that it concerns
  pub made_seen : MadeSeen s
  made_seen = record {
    makes = makes;
    sees = subst (SeesConcerned making) (sym is.lent.seen)
        (record { holds = λ node. concerned_is node ∙ sees_holds node; last = sees_last });
  }
