use Rattle.std.proofs.Common.{◌≡◌, ◌-◌, ◌<◌, ◌≤◌, ◌++◌, ℕ, zero, suc, List, [], ◌∷◌, map, Some, sym, ap, subst, ◌∙◌, arith}
use Rattle.std.proofs.lemmas.List.{map-append, append_assoc}
use Rattle.sfs_base.specs.declared.numbers.NodeId.{NodeId}
use Rattle.tree_laws.specs.Tree.{TreeState, count_of, holder_of, and_above, walk_up}
use Rattle.tree_laws.specs.NameRow.{node_number}
use Rattle.tree_laws.proofs.SoundTree.{sound_few, sound_holder}
use Rattle.sfs_tree.proofs.tree.Tree.above.Goals as goal

pub holder-requires-clause-once : goal.holder-requires-clause-once
holder-requires-clause-once c =
    subst (λ (t : TreeState). count_of t.rows c.loop-steps.place ≤ 1) (sym c.self.view_is)
    (sound_few c.args.self.now c.requires.sound c.loop-steps.place c.loop-steps.invariant.directory)

-- a walk goes on from the holder
walk_on : (tree : TreeState) (steps place holder : ℕ) → 0 < steps → holder_of tree place ≡ Some holder
    → walk_up steps tree place ≡ holder ∷ walk_up (steps - 1) tree holder
walk_on tree zero place holder less is = absurd (omega arith)
walk_on tree (suc steps) place holder less is =
    ap (and_above (walk_up steps tree)) is ∙ ap (λ n. holder ∷ walk_up n tree holder) (let e : steps ≡ suc steps - 1 = omega arith in e)

-- the holder joins those above that were met
one_more : (above : List NodeId) (holder : NodeId) (rest : List ℕ) → map node_number (above ++ holder ∷ []) ++ rest ≡ map node_number above ++ holder.0 ∷ rest
one_more above holder rest = ap (λ l. l ++ rest) (map-append node_number above (holder ∷ [])) ∙ append_assoc (map node_number above) (holder.0 ∷ []) rest

pub loop-steps-preserved : goal.loop-steps-preserved
loop-steps-preserved c =
    let tree = c.args.self.now in
    let is : holder_of tree c.loop-steps.place ≡ Some c.in-Some.holder =
    sym (c.in-Some.ensures ∙ ap (λ (t : TreeState). holder_of t c.loop-steps.place) c.self.view_is) in
    record {
      directory = sound_holder tree c.requires.sound c.loop-steps.place c.in-Some.holder is;
      rest =
          ap (λ items. map node_number items ++ walk_up (c.loop-steps.steps - 1) tree c.in-Some.holder) c.in_ok-push.ensures.items
          ∙ one_more c.loop-steps.above.items (record { 0 = c.in-Some.holder }) (walk_up (c.loop-steps.steps - 1) tree c.in-Some.holder)
          ∙ ap (λ l. map node_number c.loop-steps.above.items ++ l)
          (sym (walk_on tree c.loop-steps.steps c.loop-steps.place c.in-Some.holder c.loop-steps-test.true is))
          ∙ c.loop-steps.invariant.rest;
    }
