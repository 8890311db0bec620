use Rattle.std.proofs.Common.{◌≡◌, ℕ, ◌<◌, length, Result, Ok, Err, OnErr, IfOk, sym, subst}
use Rattle.tree_laws.specs.declared.call.Call.{Call}
use Rattle.tree_laws.specs.declared.reply.Reply.{Reply}
use Rattle.tree_laws.specs.Tree.{TreeState}
use Rattle.tree_laws.specs.Sound.{IsNumbered}
use Rattle.tree_laws.specs.Laws.{IsSoundTree}
use Rattle.tree_laws.specs.Step.{IsStep}
use Rattle.sfs_tree.proofs.Founded.{founded_numbers}
use Rattle.tree_laws.proofs.SoundTrees.{calls_keep_sound}
use Rattle.sfs_tree.proofs.tree.Tree.step.Goals as goal

-- the tree after a call, or as it was
stepped : {E : Type 0} (tree : TreeState) (core : ℕ) (call : Call) (after : TreeState) (r : Result Reply E) → IsSoundTree tree → core < length tree.made
    → IfOk r (λ reply. IsStep tree core call reply after) → OnErr r (after ≡ tree) → IsSoundTree after
stepped tree core call after (Ok reply) is lt step kept = subst IsSoundTree (sym step.result) (calls_keep_sound tree core call is lt)
stepped tree core call after (Err e) is lt step kept = subst IsSoundTree (sym kept) is

pub returns-clause-sound : goal.returns-clause-sound
returns-clause-sound c =
    let numbered = subst IsNumbered c.self.view_is (founded_numbers _ c.self.invariant) in
    stepped c.args.self.now c.args.core.0 c.args.call.now _ c.run.result
    (record { sound = c.requires.sound; numbered = numbered }) c.requires.core c.run.ensures.ok c.run.ensures.err
