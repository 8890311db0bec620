use Rattle.std.proofs.Common.{◌≡◌, ℕ, IfOk, Result, Ok, Err, sym, subst, arith}
use Rattle.tree_laws.specs.Tree.{TreeState}
use Rattle.tree_laws.specs.Build.{root_alone}
use Rattle.tree_laws.specs.Sound.{IsSound}
use Rattle.tree_laws.proofs.SoundTrees.{root_alone_is_sound}
use Rattle.second_reader.proofs.trees.root_alone.Goals as goal

-- the root alone is sound, where memory is not refused
sound : {E : Type 0} (answer : Result TreeState E) (cores : ℕ) → IfOk answer (λ tree. tree ≡ root_alone 64 4096 cores) → IfOk answer (λ tree. IsSound tree)
sound (Ok tree) cores is = subst IsSound (sym is) (root_alone_is_sound 64 4096 cores (omega arith)).sound
sound (Err fault) cores is = tt

pub returns-clause-sound : goal.returns-clause-sound
returns-clause-sound c = sound c.empty.result c.args.cores c.empty.ensures.ok
