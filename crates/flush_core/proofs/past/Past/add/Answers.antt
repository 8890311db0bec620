use Rattle.std.proofs.Common.{refl, sym, ap, subst, ◌∙◌}
use Rattle.flush_core.specs.declared.past.Past.{Past}
use Rattle.flush_core.specs.Grows.{Grows}
use Rattle.flush_core.proofs.past.Past.add.Goals.{in-Make+in-Node+in_ok-add_birth-in-Make, in-Make+in_default-reply, in_default+in-Ok+in_ok-append-in_default, in_default+in_default-reply-2}
use Rattle.flush_core.proofs.Growing.{grows_born, grows_unborn, grows_planned, grows_refused}
use Rattle.flush_core.proofs.past.Past.add.Goals as goal

pub returns-clause-grows : goal.returns-clause-grows
returns-clause-grows c = elim c.match-entry.branch [
  | in-Make+in-Node+in_ok-add_birth-in-Make w ↦
      subst (λ (p : Past). Grows c.args.self.now c.args.entry.now p) (sym w.self-is)
      (grows_born c.args.self.now w.add_birth.new.past c.args.entry.now (w.in_ok-add_birth-in-Make.ensures.tree ∙ c.in_ok-reply.ensures.tree)
      (record { tree = c.step.new.self; changes = c.args.self.now.changes; births = c.args.self.now.births })
      w.in-Make.dir w.in-Node.node w.in-Make.name w.in-Make.kind w.in-Node.kind w.in-Make.is
      (sym c.in_ok-reply.ensures.ok ∙ w.in-Node.is) refl refl w.in_ok-add_birth-in-Make.ensures)
  | in-Make+in_default-reply w ↦
      grows_unborn c.args.self.now c.match-entry.self c.args.entry.now
      (ap (λ (p : Past). p.tree) w.self-is ∙ c.in_ok-reply.ensures.tree) w.in-Make.dir w.in-Make.name w.in-Make.kind w.in-Make.is
      (λ node given e. w.in_default-reply.not-Node node given (c.in_ok-reply.ensures.ok ∙ e)) (ap (λ (p : Past). p.changes.items) w.self-is)
      (ap (λ (p : Past). p.births.items) w.self-is)
  | in_default+in-Ok+in_ok-append-in_default w ↦
      grows_planned c.args.self.now c.match-entry.self c.args.entry.now
      (ap (λ (p : Past). p.tree) w.self-is ∙ c.in_ok-reply.ensures.tree) c.in_ok-planned.planned.items w.in_default.not-Make
      (sym c.in_ok-reply.ensures.ok ∙ w.in-Ok.is)
      c.in_ok-planned.ensures.changes c.in_ok-planned.ensures.above (ap (λ (p : Past). p.changes.items) w.self-is ∙ w.in_ok-append-in_default.ensures.items)
      (ap (λ (p : Past). p.births.items) w.self-is)
  | in_default+in_default-reply-2 w ↦
      grows_refused c.args.self.now c.match-entry.self c.args.entry.now (ap (λ (p : Past). p.tree) w.self-is ∙ c.in_ok-reply.ensures.tree) w.in_default.not-Make
      (λ e. w.in_default-reply-2.not-Ok (c.in_ok-reply.ensures.ok ∙ e))
      (ap (λ (p : Past). p.changes.items) w.self-is) (ap (λ (p : Past). p.births.items) w.self-is)
]
