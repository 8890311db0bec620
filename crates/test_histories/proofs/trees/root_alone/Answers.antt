use Rattle.std.proofs.Common.{◌≡◌, length, IfOk, Result, Ok, sym, ap, subst, arith}
use Rattle.tree_laws.specs.Tree.{TreeState}
use Rattle.tree_laws.specs.Build.{root_alone}
use Rattle.tree_laws.specs.Sound.{IsSound}
use Rattle.tree_laws.proofs.SoundTrees.{root_alone_is_sound}
use Rattle.test_histories.proofs.trees.root_alone.Goals as goal

-- the tree of an answer that is no error
got_is : {E : Type 0} (answer : Result TreeState E) (tree due : TreeState) → answer ≡ Ok tree → IfOk answer (λ tree. tree ≡ due) → tree ≡ due
got_is answer tree due e is = subst (λ r. IfOk r (λ tree. tree ≡ due)) e is

pub returns-clause-sound : goal.returns-clause-sound
returns-clause-sound g c =
    let is = got_is c.empty.result c.got.result (root_alone c.args.first 2048 2) c.got.ensures c.empty.ensures.ok in
    subst IsSound (sym is) (root_alone_is_sound c.args.first 2048 2 (omega arith)).sound

pub returns-clause-cores : goal.returns-clause-cores
returns-clause-cores g c =
    let is = got_is c.empty.result c.got.result (root_alone c.args.first 2048 2) c.got.ensures c.empty.ensures.ok in
    sym (ap (λ t. length t.made) is)
