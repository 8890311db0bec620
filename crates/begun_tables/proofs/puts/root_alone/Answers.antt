use Rattle.std.proofs.Common.{sym, ap, subst, ◌∙◌, length}
use Rattle.std.proofs.lemmas.List.{length-replicate}
use Rattle.begun_tables.specs.Begun.{IsBuiltTree}
use Rattle.begun_tables.proofs.Built.{root_begins, root_within}
use Rattle.begun_tables.proofs.puts.root_alone.Goals as goal

pub returns-clause-built : goal.returns-clause-built
returns-clause-built c = subst IsBuiltTree (sym c.in_ok-tree.ensures.ok) (record {
  begins = root_begins c.args.first c.args.share c.args.cores c.requires.first.0;
  within = root_within c.args.first c.args.share c.args.cores;
})

pub returns-clause-made : goal.returns-clause-made
returns-clause-made c = ap (λ t. length t.made) c.in_ok-tree.ensures.ok ∙ length-replicate c.args.cores 0
