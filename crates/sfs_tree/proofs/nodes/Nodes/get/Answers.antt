use Rattle.std.proofs.Common.{◌≡◌, ℕ, List, get_or, Option, Some, None, option_map, sym, ap, ◌∙◌, arith}
use Rattle.std.specs.FinMap.{get}
use Rattle.std.proofs.lemmas.List.{get_or_past, get_or_read}
use Rattle.sfs_tree.specs.declared.nodes.NodeData.{NodeData}
use Rattle.sfs_tree.specs.NodesState.{NodesState}
use Rattle.sfs_tree.specs.Nodes.{numbered, node_of}
use Rattle.sfs_tree.proofs.Numbered.{get-numbered}
use Rattle.sfs_tree.proofs.nodes.Nodes.get.Goals as goal

-- what lies at a place
found : (nodes : List (Option NodeData)) (place : ℕ) (s : NodesState) (o : Option NodeData) → numbered nodes ≡ s.nodes → o ≡ get_or nodes place None
    → option_map node_of o ≡ get s.nodes place
found nodes place s o is at = ap (option_map node_of) at ∙ sym (get-numbered nodes place) ∙ ap (λ m. get m place) is

pub returns-then-place-len : goal.returns-then-place-len
returns-then-place-len c =
    found c.self.inside.places.items c.args.number c.args.self.now None (ap (λ (s : NodesState). s.nodes) c.self.view_is)
    (sym (get_or_past c.self.inside.places.items c.args.number None (omega (arith, c.self.inside.places.ok.0))))

pub returns-in-Some : goal.returns-in-Some
returns-in-Some c =
    found c.self.inside.places.items c.args.number c.args.self.now (Some c.in-Some.node) (ap (λ (s : NodesState). s.nodes) c.self.view_is)
    (sym c.in-Some.is
    ∙ get_or_read c.self.inside.places.items c.args.number c.index.result.now (omega (arith, c.self.inside.places.ok.0)) c.index.ensures None)

pub returns-in-None : goal.returns-in-None
returns-in-None c =
    found c.self.inside.places.items c.args.number c.args.self.now None (ap (λ (s : NodesState). s.nodes) c.self.view_is)
    (sym c.in-None.is
    ∙ get_or_read c.self.inside.places.items c.args.number c.index.result.now (omega (arith, c.self.inside.places.ok.0)) c.index.ensures None)
