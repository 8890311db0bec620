use Rattle.std.proofs.Common.{◌≡◌, ◌+◌, ◌∙◌, ◌++◌, ◌∷◌, suc, [], get_or, take, ap, sym, arith}
use Rattle.fsync_draft.specs.Drafting.{last_of_value, seens_of}
use Rattle.fsync_draft.proofs.Drafts.{seens_next}
use Rattle.fsync_draft.proofs.seeing.seen_of.Goals as goal

pub loop-at-preserved : goal.loop-at-preserved
loop-at-preserved c =
    let at = c.loop-at.at in
    let nodes = c.args.nodes.now in
    let values = c.args.values.now in
    let value = c.index-values-at.result in
    let node = get_or nodes at (record { 0 = 0 }) in
    let next : at + 1 ≡ suc at = omega arith in
    c.in_ok-push.ensures.items
    ∙ ((λ i. c.loop-at.invariant i ++ record { node = node; last = (c.last_of.ensures ∙ ap last_of_value c.index-values-at.is) i } ∷ [])
    ∙ (sym (seens_next nodes values at (record { 0 = 0 }) value c.requires c.loop-at-test.true) ∙ ap (λ k. seens_of (take k nodes) (take k values)) (sym next)))
