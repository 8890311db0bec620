use Rattle.std.proofs.Common.{rules, arith, ap, sym, ◌∙◌, subst, length}
use Rattle.std.proofs.lemmas.List.{length-replicate}
use Rattle.tree_laws.specs.Sound.{IsSound}
use Rattle.tree_laws.proofs.SoundTrees.{root_alone_is_sound}
use Rattle.test_table.proofs.table.is_right.Goals as goal

pub loop-place-init : goal.loop-place-init
loop-place-init c = record {
  sound = subst IsSound (sym c.in_ok-tree.ensures.ok) (root_alone_is_sound 1 1 c.args.cores (omega arith)).sound;
  cores = ap (λ t. length t.made) c.in_ok-tree.ensures.ok ∙ length-replicate c.args.cores 0;
  counts = search rules;
}
