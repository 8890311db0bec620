use Rattle.std.proofs.Common.{◌++◌, ◌∷◌, [], Some, sym, subst}
use Rattle.flush_core.specs.Story.{StoryState, IsStanding, IsReadyPast}
use Rattle.flush_core.proofs.Stories.{still_standing}
use Rattle.flush_core.proofs.story.Story.join.Goals as goal

pub invariant_of-self-2 : goal.invariant_of-self-2
invariant_of-self-2 c =
    subst (λ l. IsStanding c.self.inside.first l (Some c.args.past)) (sym c.in_ok-push.ensures.items)
    (still_standing c.self.inside.first c.self.inside.entries.items c.self.inside.past c.args.entry c.args.past c.self.invariant c.requires.readable
    (subst (λ (s : StoryState). IsReadyPast s.first (s.history ++ c.args.entry ∷ []) c.args.past) (sym c.self.view_is) c.requires.past))
