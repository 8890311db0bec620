use Rattle.std.proofs.Common.{rules, ℕ, subst}
use Rattle.tree_laws.specs.declared.history.Entry.{Entry}
use Rattle.stamp_table.specs.Placing.{by_given, at_slots}
use Rattle.stamp_table.specs.Table.{AddsEntry}
use Rattle.stamp_table.proofs.Asking.{asks_draw}
use Rattle.stamp_table.proofs.shared.Shared.draw.Goals as goal

pub fetch_add-requires : goal.fetch_add-requires
fetch_add-requires g c = (
  search rules,
  search rules,
  asks_draw (by_given g.M.Meaning.lawful)
      (at_slots g.M.Meaning.place_at g.M.Meaning.stands) _ _ _ _ g.J.Drawing.entry c.requires.seat.lives c.requires.seat.calls c.requires.entry,
)

pub returns-clause-adds : goal.returns-clause-adds
returns-clause-adds g c =
    subst (λ (e : ℕ → Entry). AddsEntry (by_given g.M.Meaning.lawful)
    (at_slots g.M.Meaning.place_at g.M.Meaning.stands) e c.args.seat.now.me c.fetch_add.result c.fetch_add.new.seat.me) c.requires.picked
    c.fetch_add.ensures.2
