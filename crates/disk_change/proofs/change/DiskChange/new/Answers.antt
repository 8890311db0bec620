use Rattle.disk_change.proofs.change.DiskChange.new.Goals as goal

pub returns-in-Ok-clause-ok : goal.returns-in-Ok-clause-ok
returns-in-Ok-clause-ok c = λ i. record {
  old = c.args.old.items;
  seats = c.in-Ok.ensures.seats i;
  gone = c.in-Ok.ensures.gone i;
  changes = c.in-Ok.ensures.changes i;
}
