-- A trial stays a sound tree of two cores.
use Rattle.std.proofs.Common.{◌≡◌, ◌<◌, ℕ, ◌+◌, List, length, Option, Some, None, refl, sym, subst, ◌∙◌}
use Rattle.tree_laws.specs.declared.call.Call.{Call}
use Rattle.tree_laws.specs.Tree.{TreeState}
use Rattle.tree_laws.specs.Verdict.{tree_after_call}
use Rattle.tree_laws.specs.Laws.{IsSoundTree}
use Rattle.tree_laws.proofs.Cores.{cores_after}
use Rattle.tree_laws.proofs.SoundTrees.{calls_keep_sound}

-- this is a sound tree of two cores
abbrev pub IsTrial : TreeState → Type 0
IsTrial tree = IsSoundTree tree × (length tree.made ≡ 2)

pub after_call : (tree : TreeState) (core : ℕ) (c : Call) → IsTrial tree → core < 2 → IsTrial (tree_after_call tree core c)
after_call tree core c is within =
    let sound = calls_keep_sound tree core c is.0 (subst (λ cores. core < cores) (sym is.1) within) in
    (sound, cores_after tree core c ∙ is.1)
