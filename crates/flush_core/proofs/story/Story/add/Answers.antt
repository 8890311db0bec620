use Rattle.std.proofs.Common.{ap, ◌∙◌}
use Rattle.flush_core.specs.Story.{answered_entry}
use Rattle.flush_core.proofs.Stories.{past_sound, past_core, joined_ready, called}
use Rattle.flush_core.proofs.story.Story.add.Goals as goal

pub joined-requires-clause-core : goal.joined-requires-clause-core
joined-requires-clause-core c = past_core _ _ c.in_ok-past.past c.in_ok-past.ensures.past c.args.core.0 c.requires.core

pub joined-requires-clause-sound : goal.joined-requires-clause-sound
joined-requires-clause-sound c = past_sound _ _ c.in_ok-past.past c.in_ok-past.ensures.past

pub join-requires-clause-may : goal.join-requires-clause-may
join-requires-clause-may c =
    called c.take_past.new.self c.in_ok-past.past (rw c.take_past.ensures.same c.in_ok-past.ensures.past) c.args.core c.args.call.now
    (rw c.take_past.ensures.same c.requires.core) c.in_ok-entry.entry
    (c.in_ok-entry.ensures.entry ∙ ap (λ n. answered_entry c.in_ok-past.past.tree n c.args.core c.args.call.now) c.len.ensures)

pub join-requires-clause-past : goal.join-requires-clause-past
join-requires-clause-past c =
    joined_ready c.take_past.new.self.first c.take_past.new.self.history c.in_ok-past.past
    (rw c.take_past.ensures.same c.in_ok-past.ensures.past) c.in_ok-entry.entry
    (called c.take_past.new.self c.in_ok-past.past (rw c.take_past.ensures.same c.in_ok-past.ensures.past) c.args.core c.args.call.now
    (rw c.take_past.ensures.same c.requires.core) c.in_ok-entry.entry
    (c.in_ok-entry.ensures.entry ∙ ap (λ n. answered_entry c.in_ok-past.past.tree n c.args.core c.args.call.now) c.len.ensures))
    c.joined.new.past (rw c.in_ok-entry.ensures.entry c.in_ok-entry.ensures.grows)
