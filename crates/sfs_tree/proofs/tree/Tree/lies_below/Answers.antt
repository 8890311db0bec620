use Rattle.std.proofs.Common.{◌≡◌, ◌≢◌, ◌-◌, ◌<◌, ◌≤◌, ℕ, zero, suc, true, false, ◌||◌, Some, nat_eq, refl, sym, ap, subst, ◌∙◌, arith}
use borrow.Author.Tests.{eqb-true}
use Rattle.std.specs.List.{list_any}
use Rattle.tree_laws.specs.Tree.{TreeState, count_of, holder_of, walk_up}
use Rattle.tree_laws.proofs.SoundTree.{sound_few, sound_holder, walk_some}
use Rattle.sfs_tree.proofs.tree.Tree.lies_below.Goals as goal

pub holder-requires-clause-once : goal.holder-requires-clause-once
holder-requires-clause-once c =
    subst (λ (t : TreeState). count_of t.rows c.loop-steps.place ≤ 1) (sym c.self.view_is)
    (sound_few c.args.self.now c.requires.sound c.loop-steps.place c.loop-steps.invariant.directory)

-- a holder that is not the one that is looked for is passed
passed : (tree : TreeState) (steps place holder directory : ℕ) → 0 < steps → holder_of tree place ≡ Some holder → holder ≢ directory
    → list_any (λ above. nat_eq above directory) (walk_up steps tree place) ≡ list_any (λ above. nat_eq above directory) (walk_up (steps - 1) tree holder)
passed tree zero place holder directory lt is differ = absurd (omega arith)
passed tree (suc steps) place holder directory lt is differ =
    walk_some tree steps place directory holder is
    ∙ elim (nat_eq holder directory) as (λ b. nat_eq holder directory ≡ b
    → (b || list_any (λ above. nat_eq above directory) (walk_up steps tree holder))
    ≡ list_any (λ above. nat_eq above directory) (walk_up steps tree holder)) [
      | true ↦ λ t. absurd (differ (eqb-true _ _ t))
      | false ↦ λ t. refl
    ] refl
    ∙ ap (λ n. list_any (λ above. nat_eq above directory) (walk_up n tree holder)) (let e : steps ≡ suc steps - 1 = omega arith in e)

pub loop-steps-preserved : goal.loop-steps-preserved
loop-steps-preserved c =
    let tree = c.args.self.now in
    let is : holder_of tree c.loop-steps.place ≡ Some c.in-Some.holder =
    sym (c.in-Some.ensures ∙ ap (λ (t : TreeState). holder_of t c.loop-steps.place) c.self.view_is) in
    record {
      directory = sound_holder tree c.requires.sound c.loop-steps.place c.in-Some.holder is;
      rest =
          sym (passed tree c.loop-steps.steps c.loop-steps.place c.in-Some.holder c.args.directory.0 c.loop-steps-test.true is c.if-holder-directory.false)
          ∙ c.loop-steps.invariant.rest;
    }
