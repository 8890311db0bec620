use Rattle.cut_laws.proofs.Listed.{one_at}
use Rattle.flush_core.proofs.Stories.{past_sound, next_core, next_ready}
use Rattle.flush_core.proofs.story.replayed.Goals as goal

pub add-requires-clause-core : goal.add-requires-clause-core
add-requires-clause-core c =
    next_core c.args.first.now c.args.entries.now c.loop-entry.entry-index c.entry-item.result c.entry-item.result c.requires.legal c.loop-entry-test.true
    c.entry-item.is c.loop-entry.past c.loop-entry.invariant

pub add-requires-clause-sound : goal.add-requires-clause-sound
add-requires-clause-sound c = past_sound _ _ c.loop-entry.past c.loop-entry.invariant

pub add-requires-clause-readable : goal.add-requires-clause-readable
add-requires-clause-readable c =
    c.requires.readable c.entry-item.result
    (one_at c.args.entries.now c.loop-entry.entry-index c.entry-item.result c.entry-item.result c.loop-entry-test.true c.entry-item.is)

pub loop-entry-preserved : goal.loop-entry-preserved
loop-entry-preserved c =
    next_ready c.args.first.now c.args.entries.now c.loop-entry.entry-index c.entry-item.result c.entry-item.result c.requires.legal c.loop-entry-test.true
    c.entry-item.is c.loop-entry.past c.add.new.self c.loop-entry.invariant c.in_ok-add.ensures.grows
