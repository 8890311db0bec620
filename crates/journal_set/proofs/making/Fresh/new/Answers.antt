use Rattle.std.proofs.Common.{rules, ◌∙◌, None, ap, replicate}
use Rattle.sfs_base.specs.Lists.{Roomy}
use Rattle.sfs_image.specs.Super.{Layout}
use Rattle.tree_laws.specs.Build.{root_alone}
use Rattle.tree_laws.specs.declared.turns.Turn.{Turn}
use Rattle.journal_set.proofs.making.Fresh.new.Goals as goal

pub returns : goal.returns
returns g c = record {
  fresh = record {
    cells_none = c.in_ok-cells.ensures.items;
    cells_room = search rules;
    tree_is = c.in_ok-tree.ensures.ok ∙ ap (λ (l : Layout). root_alone 1 0 l.cores) c.layout.view_is;
    slots_idle = c.in_ok-slots.ensures;
    waits_none = c.in_ok-waits.ensures ∙ ap (λ (l : Layout). replicate l.cores None) c.layout.view_is;
    ledger_is = search rules;
    keeps = c.in_ok-ledger.ensures.first c.args.key.start c.requires.free.0 c.requires.free.1;
    no_turns = ap (λ (l : Roomy Turn). l.items) c.new-2.ensures;
  };
}
