use Rattle.std.proofs.Common.{rules, reverse, subst, ap, sym, ◌∙◌, List}
use Rattle.stamp_table.specs.declared.held.HeldCell.{HeldCell}
use Rattle.stamp_table.specs.Table.{EachFrom, Stands, begins_from, left_below}
use Rattle.stamp_table.proofs.Leaving.{each_front, left_pop, lets_go_again, stands_on}
use Rattle.stamp_table.proofs.hand.Core.let_go.Goals as goal

pub give_last-requires-clause-home : goal.give_last-requires-clause-home
give_last-requires-clause-home g c =
    stands_on (g.M.Meaning.lawful c.args.shared.now.table.given) (g.M.Meaning.stands c.args.shared.now.table.given) c.args.from c.args.self.now
    c.loop-self.self c.loop-self.invariant.0 c.loop-self.invariant.1 (search rules)

pub loop-self-preserved : goal.loop-self-preserved
loop-self-preserved g c =
    let last = c.give_last.ensures.last in (
      lets_go_again c.args.self.now c.loop-self.self c.give_last.new.self c.loop-self.invariant.0 c.give_last.ensures.lets_go,
      each_front c.args.from (Stands (g.M.Meaning.lawful c.args.shared.now.table.given) (g.M.Meaning.stands c.args.shared.now.table.given)
          c.args.self.now.view) c.give_last.new.self.held last.0
          (subst
          (λ (cells : List (HeldCell g.row.C.Denot)). EachFrom c.args.from (Stands (g.M.Meaning.lawful c.args.shared.now.table.given)
          (g.M.Meaning.stands c.args.shared.now.table.given) c.args.self.now.view) cells) last.1
          c.loop-self.invariant.1),
      sym
          (left_pop c.args.from c.give_last.new.self.held last.0
          (ap (λ (cells : List (HeldCell g.row.C.Denot)). begins_from c.args.from (reverse cells)) (sym last.1) ∙ (search rules)))
          ∙ (ap (left_below c.args.from) (sym last.1) ∙ c.loop-self.invariant.2),
    )
