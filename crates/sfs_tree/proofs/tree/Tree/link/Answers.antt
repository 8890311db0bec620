use Rattle.std.proofs.Common.{◌≡◌, ℕ, List, Bool, true, false, not, Option, Some, None, cond, IsSome, refl, sym, subst}
use Rattle.std.specs.FinMap.{get}
use Rattle.tree_laws.specs.Tree.{TreeState, is_alive, is_directory}
use Rattle.tree_laws.specs.Verdict.{link_fault}
use Rattle.tree_laws.specs.declared.reply.Code.{Code}
use Rattle.tree_laws.specs.declared.reply.Code.TheVariants.{NoEntry, NotPermitted}
use Rattle.tree_laws.proofs.SoundTree.{sound_file}
use Rattle.sfs_tree.proofs.tree.Tree.link.Goals as goal

-- where no condition holds, the file is alive and no directory
first : (a b : Bool) (rest : Option Code) → ◌≡◌ {A = Option Code} None (cond (not a) (Some NoEntry) (cond b (Some NotPermitted) rest))
    → (a ≡ true) × (b ≡ false)
first true true rest e = absurd (never e)
  where
    never : ◌≡◌ {A = Option Code} None (Some NotPermitted) → ⊥
    never e = cc
first true false rest e = (refl, refl)
first false b rest e = absurd (never e)
  where
    never : ◌≡◌ {A = Option Code} None (Some NoEntry) → ⊥
    never e = cc

alive_file : (tree : TreeState) (file directory : ℕ) (name : List ℕ) → None ≡ link_fault tree file directory name
    → (is_alive tree file ≡ true) × (is_directory tree file ≡ false)
alive_file tree file directory name e = first (is_alive tree file) (is_directory tree file) _ e

pub put_row-requires-clause-child : goal.put_row-requires-clause-child
put_row-requires-clause-child c =
    let h = alive_file c.args.self.now c.args.file.0 c.args.dir.0 c.args.name.now c.in-None.ensures in
    subst (λ (t : TreeState). IsSome (get t.nodes c.args.file.0)) (sym c.self.view_is) (sound_file c.args.self.now c.requires c.args.file.0 h.0 h.1)
