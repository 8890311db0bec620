use Rattle.std.proofs.Common.{subst}
use Rattle.flush_core.specs.Broken.{FindsBroken}
use Rattle.flush_core.specs.Story.{StoryState}
use Rattle.flush_core.proofs.story.Story.broken_rule.Goals as goal

pub returns-in-Some : goal.returns-in-Some
returns-in-Some c =
    let ready = c.self.invariant.ready c.in-Some.past c.in-Some.is in
    subst (λ (s : StoryState). FindsBroken s.first s.history c.args.cut.now c.broken_rule.result) c.self.view_is
    (c.broken_rule.ensures c.self.inside.first c.self.inside.entries.items ready.sound ready.legal ready.is_past)
