-- The nodes that members touch are those that the look touches.
use Rattle.std.proofs.Common.{◌≡◌, ℕ, true, List, map, inl, inr, refl, sym, subst, ◌∙◌, ◌↔◌}
use Rattle.sfs_base.specs.declared.numbers.NodeId.{NodeId}
use Rattle.sfs_base.specs.declared.numbers.Stamp.{Stamp}
use Rattle.sfs_base.specs.Listed.{is_listed}
use Rattle.tree_laws.specs.NameRow.{node_number}
use Rattle.cut_laws.specs.Elements.{OfSome}
use Rattle.cut_laws.specs.Rules.{IsOneOf}
use Rattle.cut_laws.proofs.Listed.{from_map, to_map}
use Rattle.look_laws.specs.Look.{Look, Gathers, Touches}
use Rattle.dep_closure.specs.declared.gathered.Gathered.{Gathered}
use Rattle.dep_closure.specs.Gathered.{look_of, IsOrderly}
use Rattle.cut_laws.proofs.Listed.{listed_one}
use Rattle.dep_closure.proofs.Tying.{sight_there, sight_back}
use Rattle.flush_plan.specs.Concerned.{IsTouchedBy}

module _ (gathered : Gathered) (orderly : IsOrderly gathered) (start : NodeId) (below : Stamp) (members : List NodeId)
    (are : (node : ℕ) → (is_listed (map node_number members) node ≡ true) ↔ Gathers (look_of start below gathered) node) where
  abbrev look : Look
  look = look_of start below gathered

  -- a gathered node is one of the members
  member_of : (node : ℕ) → Gathers look node → (member : NodeId) × IsOneOf members member × (member.0 ≡ node)
  member_of node gathers = from_map node_number members node ((listed_one (map node_number members) node).0 ((are node).1 gathers))

  gathers_of : (member : NodeId) → IsOneOf members member → Gathers look member.0
  gathers_of member one = (are member.0).0 ((listed_one (map node_number members) member.0).1 (to_map node_number members member one))

  pub touches_there : (node : ℕ) → OfSome members (IsTouchedBy gathered below) node → Touches look node
  touches_there node (member, one, inl same) = subst (Touches look) same (Touches.member member.0 (gathers_of member one))
  touches_there node (member, one, inr (change, among, child)) =
      let sight = sight_there gathered orderly start below member.0 change among in
      subst (Touches look) (sight.child ∙ child) (Touches.named sight.noted (subst (Gathers look) (sym sight.own) (gathers_of member one)) sight.in_sight)

  pub touches_back : (node : ℕ) → Touches look node → OfSome members (IsTouchedBy gathered below) node
  touches_back _ (Touches.member node gathers) = let member = member_of node gathers in (member.0, member.1, inl member.2)
  touches_back _ (Touches.named noted gathers in_sight) =
      let member = member_of noted.change.directory gathers in
      let back =
      sight_back gathered orderly start below member.0.0 noted.change.child
      (record { noted = noted; in_sight = in_sight; own = sym member.2; child = refl }) in
      (member.0, member.1, inr back)
