use Rattle.std.proofs.Common.{◌≡◌, None, option_map, get_or, set, sym, ap, ◌∙◌, arith}
use Rattle.std.specs.FinMap.{get}
use Rattle.std.proofs.lemmas.List.{get_or_read, get_or_past, set-get_or}
use Rattle.sfs_tree.specs.declared.nodes.Nodes.TheInside.{Inside}
use Rattle.sfs_tree.specs.NodesState.{NodesState}
use Rattle.sfs_tree.specs.Nodes.{numbered, node_of}
use Rattle.tree_laws.specs.Effect.{Puts, with_edit}
use Rattle.sfs_tree.proofs.Numbered.{numbered_same, numbered_edited, get-numbered}
use Rattle.sfs_tree.proofs.nodes.Nodes.write.Goals as goal
use Rattle.sfs_tree.proofs.nodes.Nodes.write.Goals.{in-Some+in_ok-write-in-Some, in-None}
use Rattle.sfs_base.proofs.BasicOptions.{on_err}

pub returns-then-place-len-clause-ok : goal.returns-then-place-len-clause-ok
returns-then-place-len-clause-ok c =
    let none : get_or c.self.inside.places.items c.args.number None ≡ None =
    get_or_past c.self.inside.places.items c.args.number None (omega (arith, c.self.inside.places.ok.0)) in
    let absent : get c.args.self.now.nodes c.args.number ≡ None =
    ap (λ (s : NodesState). get s.nodes c.args.number) (sym c.self.view_is) ∙ get-numbered c.self.inside.places.items c.args.number
    ∙ ap (option_map node_of) none in
    sym (ap (with_edit c.args.self.now.nodes c.args.number (Puts c.args.at c.args.written.now)) absent)

pub returns-in_err-write-in-Some-clause-err : goal.returns-in_err-write-in-Some-clause-err
returns-in_err-write-in-Some-clause-err c =
    let there =
    sym
    (get_or_read c.self.inside.places.items c.args.number c.index_mut.result.now
    (omega (arith, c.self.inside.places.ok.0)) c.index_mut.ensures.value None) in
    on_err c.from_residual.result
    (numbered_same c.self.inside.places.items c.args.number c.in-Some.node (there ∙ c.in-Some.is) c.write.new.self c.in_err-write-in-Some.ensures.err
    ∙ ap (λ (s : NodesState). s.nodes) c.self.view_is)

pub returns-clause-ok : goal.returns-clause-ok
returns-clause-ok c =
    let there =
    sym
    (get_or_read c.self.inside.places.items c.args.number c.index_mut.result.now
    (omega (arith, c.self.inside.places.ok.0)) c.index_mut.ensures.value None) in
    elim c.match-index_mut.branch [
      | in-Some+in_ok-write-in-Some w ↦
          ap (λ (s : Inside). numbered s.places.items) w.self-inside-is
          ∙ numbered_edited c.self.inside.places.items c.args.number w.in-Some.node (there ∙ w.in-Some.is) w.write.new.self
          (Puts c.args.at c.args.written.now) w.in_ok-write-in-Some.ensures.ok
          ∙ ap (λ (s : NodesState). with_edit s.nodes c.args.number (Puts c.args.at c.args.written.now) (get s.nodes c.args.number)) c.self.view_is
      | in-None w ↦
          let absent : get c.args.self.now.nodes c.args.number ≡ None =
          ap (λ (s : NodesState). get s.nodes c.args.number) (sym c.self.view_is) ∙ get-numbered c.self.inside.places.items c.args.number
          ∙ ap (option_map node_of) (there ∙ w.in-None.is) in
          let view : numbered c.self.inside.places.items ≡ c.args.self.now.nodes = ap (λ (s : NodesState). s.nodes) c.self.view_is in
          let still : numbered c.match-index_mut.self-inside.places.items ≡ numbered c.self.inside.places.items =
          ap (λ (s : Inside). numbered s.places.items) w.self-inside-is
          ∙ ap numbered
          (ap (set c.self.inside.places.items c.args.number) c.index_mut.ensures.value
          ∙ set-get_or c.self.inside.places.items c.args.number c.index_mut.result.now) in
          still ∙ view ∙ sym (ap (with_edit c.args.self.now.nodes c.args.number (Puts c.args.at c.args.written.now)) absent)
    ]
