use Rattle.std.proofs.Common.{rules, ap, sym, ◌∙◌, subst, List, refl}
use Rattle.tree_laws.specs.declared.history.Entry.{Entry}
use Rattle.stamp_table.specs.Hand.{IsCore}
use Rattle.stamp_table.proofs.Entering.{IsWaitingEntry, last_waits, has_answered}
use Rattle.stamp_table.proofs.hand.Core.answer.Goals as goal

pub invariant_of-self : goal.invariant_of-self
invariant_of-self g c =
    let ends = c.in-Some.ensures.items in
    let last : IsWaitingEntry c.in-Some.field-0 c.args.stamp.0 =
    last_waits c.self.inside.entries.items c.pop.new.self.items c.in-Some.field-0 c.self.inside.waiting c.args.stamp.0
    (ap (λ h. h.waiting) c.self.view_is ∙ c.requires.waits) c.self.invariant.2 ends in (
      subst (λ (l : List Entry). IsCore g.M.Meaning.place_at c.self.inside.seat c.self.inside.number.0 l c.self.inside.held.items)
          (sym c.push_reserved.ensures.items)
          (has_answered g.M.Meaning.place_at c.self.inside.seat _ _ _ c.self.invariant.0 c.pop.new.self.items c.in-Some.field-0 c.args.reply c.args.ack ends
          last.waits
          c.requires.reply c.requires.acknowledged),
      c.self.invariant.1,
      tt,
    )

pub returns : goal.returns
returns g c =
    let ends = c.in-Some.ensures.items in
    let last : IsWaitingEntry c.in-Some.field-0 c.args.stamp.0 =
    last_waits c.self.inside.entries.items c.pop.new.self.items c.in-Some.field-0 c.self.inside.waiting c.args.stamp.0
    (ap (λ h. h.waiting) c.self.view_is ∙ c.requires.waits) c.self.invariant.2 ends in
    record {
      frame = search rules;
      waiting = refl;
      answered = (c.pop.new.self.items, c.in-Some.field-0, last.stamped, sym (ap (λ h. h.entries) c.self.view_is) ∙ ends, c.push_reserved.ensures.items);
    }
