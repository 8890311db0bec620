use Rattle.std.proofs.Common.{rules, ◌≡◌, ◌<◌, ◌++◌, ◌∷◌, [], length, inr, sym, ap, subst, ◌∙◌}
use Rattle.tree_laws.specs.declared.history.Entry.{Entry}
use Rattle.tree_laws.specs.History.{MayCome}
use Rattle.cut_laws.specs.declared.event.Event.TheVariants as event
use Rattle.cut_laws.specs.declared.event.Refused.TheVariants as refused
use Rattle.cut_laws.specs.Machine.{IsRefused, Accepts}
use Rattle.flush_core.specs.State.{KeptState, machine_of}
use Rattle.flush_core.specs.Story.{StoryState, end_of, with_entry, IsReadyPast}
use Rattle.flush_core.specs.contracts.state.State as shown
use Rattle.cut_laws.proofs.Basics.{no_true}
use Rattle.flush_core.proofs.Stories.{past_sound, past_core, joined_ready}
use Rattle.flush_core.proofs.Called.{not_legal, may_come, takes_call}
use Rattle.flush_core.proofs.state.State.call.Goals as goal

pub add-requires-clause-core : goal.add-requires-clause-core
add-requires-clause-core c =
    past_core _ _ c.in_ok-past.past c.in_ok-past.ensures.past c.args.entry.now.core.0
    (subst (λ (s : KeptState). c.args.entry.now.core.0 < length s.first.made) (sym c.self.view_is) c.requires.core)

pub add-requires-clause-sound : goal.add-requires-clause-sound
add-requires-clause-sound c = past_sound _ _ c.in_ok-past.past c.in_ok-past.ensures.past

pub returns-then-not-is_answer : goal.returns-then-not-is_answer
returns-then-not-is_answer c = (
  inr
      (subst (λ (s : KeptState). IsRefused (machine_of s) (event.Call c.args.entry.now) (refused.NotLegal c.in_ok-reply.reply)) c.self.view_is
      (not_legal (shown.the_view c.self.inside) c.in_ok-past.past c.in_ok-past.ensures.past
      c.args.entry.now (ap (λ (s : KeptState). s.crashed) c.self.view_is ∙ c.requires.running) (search rules)
      (subst (λ (s : KeptState). c.args.entry.now.core.0 < length s.first.made) (sym c.self.view_is) c.requires.core) c.flushes-is_flush.result
      c.flushes-is_flush.ensures c.in_ok-reply.reply c.in_ok-reply.ensures.reply
      (λ right. no_true (sym c.if-not-is_answer.true ∙ c.is_answer.ensures.1 right)))),
  (λ i. record (shown.the_view c.self.inside) { first = (c.take_past.ensures.same i).first; entries = (c.take_past.ensures.same i).history }) ∙ c.self.view_is,
)

pub join-requires-clause-may : goal.join-requires-clause-may
join-requires-clause-may c =
    subst (λ (st : StoryState). MayCome (end_of st) (length st.history) c.in_ok-copy_of.field-0) (sym c.take_past.ensures.same)
    (subst (λ (e : Entry). MayCome (end_of c.self.inside.story) (length c.self.inside.story.history) e) (sym c.in_ok-copy_of.ensures)
    (may_come (shown.the_view c.self.inside) c.in_ok-past.past c.in_ok-past.ensures.past
    c.args.entry.now (ap (λ (s : KeptState). s.crashed) c.self.view_is ∙ c.requires.running) (search rules)
    (subst (λ (s : KeptState). c.args.entry.now.core.0 < length s.first.made) (sym c.self.view_is) c.requires.core) c.flushes-is_flush.result
    c.flushes-is_flush.ensures c.in_ok-reply.reply c.in_ok-reply.ensures.reply
    (c.is_answer.ensures.0 c.if-not-is_answer.false)))

pub join-requires-clause-past : goal.join-requires-clause-past
join-requires-clause-past c =
    subst (λ (st : StoryState). IsReadyPast st.first (with_entry st c.in_ok-copy_of.field-0).history c.add.new.self) (sym c.take_past.ensures.same)
    (subst (λ (e : Entry). IsReadyPast c.self.inside.story.first (c.self.inside.story.history ++ e ∷ []) c.add.new.self) (sym c.in_ok-copy_of.ensures)
    (joined_ready c.self.inside.story.first c.self.inside.story.history c.in_ok-past.past c.in_ok-past.ensures.past c.args.entry.now
    (may_come (shown.the_view c.self.inside) c.in_ok-past.past c.in_ok-past.ensures.past
    c.args.entry.now (ap (λ (s : KeptState). s.crashed) c.self.view_is ∙ c.requires.running) (search rules)
    (subst (λ (s : KeptState). c.args.entry.now.core.0 < length s.first.made) (sym c.self.view_is) c.requires.core) c.flushes-is_flush.result
    c.flushes-is_flush.ensures c.in_ok-reply.reply c.in_ok-reply.ensures.reply
    (c.is_answer.ensures.0 c.if-not-is_answer.false))
    c.add.new.self c.in_ok-reply.ensures.grows))

pub returns : goal.returns
returns c =
    subst (λ (s : KeptState). Accepts (machine_of s) (event.Call c.args.entry.now)
    (machine_of (record (shown.the_view c.self.inside) { first = c.join.new.self.first; entries = c.join.new.self.history })))
    c.self.view_is
    (takes_call (shown.the_view c.self.inside) c.in_ok-past.past c.in_ok-past.ensures.past
    c.args.entry.now (ap (λ (s : KeptState). s.crashed) c.self.view_is ∙ c.requires.running) (search rules)
    (subst (λ (s : KeptState). c.args.entry.now.core.0 < length s.first.made) (sym c.self.view_is) c.requires.core) c.flushes-is_flush.result
    c.flushes-is_flush.ensures c.in_ok-reply.reply c.in_ok-reply.ensures.reply
    (c.is_answer.ensures.0 c.if-not-is_answer.false) _ (λ i. record (shown.the_view c.self.inside) {
      first = (joined i).first;
      entries = (joined i).history;
    }))
  where
    joined : c.join.new.self ≡ with_entry c.self.inside.story c.args.entry.now
    joined =
        c.in_ok-join.ensures.ok ∙ ap (λ (st : StoryState). with_entry st c.in_ok-copy_of.field-0) c.take_past.ensures.same
        ∙ ap (with_entry c.self.inside.story) c.in_ok-copy_of.ensures
