use Rattle.std.proofs.Common.{◌≡◌, ◌<◌, ◌+◌, ◌++◌, ◌∷◌, [], List, length, reverse, get_or, sym, ap, subst, ◌∙◌, arith}
use Rattle.std.specs.Option.{unwrap_or}
use Rattle.std.proofs.lemmas.List.{get_or_default}
use Rattle.disk_change.specs.Directory.{block_moved, fill_front, rows_left, block_is_touched}
use Rattle.disk_change.specs.declared.placed.PlacedSlots.{PlacedSlots}
use Rattle.disk_change.proofs.Passing.{stays_passed}
use Rattle.disk_change.proofs.Walked.{Walked, walked_none, walked_changed, walked_past, walked_on, walked_all}
use Rattle.disk_change.proofs.directory.blocks_changed.Goals as goal
use Rattle.disk_change.proofs.directory.blocks_changed.Goals.{in-Some+in_ok-push, in_default}

pub loop-place-init : goal.loop-place-init
loop-place-init c =
    let dirs = c.args.directories.now in
    let net = c.args.net.now in
    let slots = c.args.slots.now in
    let rows = reverse c.args.waiting.now.items in
    record {
      walked =
          walked_on dirs net rows slots 0 c.next_place-place.result c.new-changed.result.items rows
          (walked_none dirs net rows slots c.new-changed.result.items c.new-changed.ensures.items) (omega arith) c.next_place-place.ensures.within
          (λ k over under.
          stays_passed dirs net slots c.args.named.now c.args.waiting.now.items k c.requires.named
          (let within = c.next_place-place.ensures.within in omega (arith, under, within)) (c.next_place-place.ensures.passed k over under));
      within = c.next_place-place.ensures.within;
    }

pub loop-place-preserved : goal.loop-place-preserved
loop-place-preserved c =
    let slots = c.args.slots.now in
    let dirs = c.args.directories.now in
    let net = c.args.net.now in
    let rows = reverse c.args.waiting.now.items in
    let lent = c.as_slice-blocks.ensures in
    let within : c.loop-place.place < length slots = let long = ap length lent in omega (arith, long, c.loop-place-test.true) in
    let here : c.index-blocks-place.result ≡ get_or slots c.loop-place.place [] =
    c.index-blocks-place.is ∙ ap (λ l. get_or l c.loop-place.place c.index-blocks-place.result) lent
    ∙ get_or_default slots c.loop-place.place c.index-blocks-place.result [] within in
    let left = reverse c.loop-place.waiting.items in
    let rest = reverse c.block_after.new.waiting.items in
    let filled = ap (unwrap_or c.in_ok-slots.field-0) (sym here) ∙ c.in_ok-slots.ensures.block ∙ ap (λ b. fill_front (block_moved dirs net b) left) here in
    let is_left = c.in_ok-slots.ensures.left ∙ ap (λ b. rows_left (block_moved dirs net b) left) here in
    let touched = c.in_ok-slots.ensures.touched ∙ ap (λ b. block_is_touched dirs net b left) here in
    let next = c.next_place-place-in-loop-place.ensures in
    let on : (changed : List PlacedSlots) → Walked dirs net rows slots (c.loop-place.place + 1) changed rest
    → Walked dirs net rows slots c.next_place-place-in-loop-place.result changed rest =
    λ changed walked.
    walked_on dirs net rows slots (c.loop-place.place + 1) c.next_place-place-in-loop-place.result changed rest walked next.on next.within
    (λ k over under.
    stays_passed dirs net slots c.args.named.now c.block_after.new.waiting.items k c.requires.named (omega (arith, under, next.within))
    (next.passed k over under)) in
    elim c.match-branch-2.branch [
      | in-Some+in_ok-push w ↦ record {
        walked =
            subst (λ (changed : List PlacedSlots). Walked dirs net rows slots c.next_place-place-in-loop-place.result changed rest)
            (sym (ap (λ v. v.items) w.changed-is ∙ w.in_ok-push.ensures.items))
            (on _
            (walked_changed dirs net rows slots c.loop-place.place within c.loop-place.changed.items left c.loop-place.invariant.walked
            c.in_ok-slots.field-0 rest filled is_left touched w.in-Some.slots w.in-Some.is));
        within = next.within;
      }
      | in_default w ↦ record {
        walked =
            subst (λ (changed : List PlacedSlots). Walked dirs net rows slots c.next_place-place-in-loop-place.result changed rest)
            (sym (ap (λ v. v.items) w.changed-is))
            (on _
            (walked_past dirs net rows slots c.loop-place.place within c.loop-place.changed.items left c.loop-place.invariant.walked
            c.in_ok-slots.field-0 rest filled is_left touched w.in_default.is));
        within = next.within;
      }
    ]

pub returns : goal.returns
returns c =
    let long = ap length c.as_slice-blocks.ensures in
    let all =
    walked_all c.args.directories.now c.args.net.now (reverse c.args.waiting.now.items) c.args.slots.now c.loop-place.place c.loop-place.changed.items
    (reverse c.loop-place.waiting.items) c.loop-place.invariant.walked (omega (arith, long, c.loop-place.invariant.within, c.loop-place-test.false)) in
    record {
      blocks = all.blocks;
      touched = all.touched;
      left = all.left;
      within = all.below;
      ascending = all.ascending;
      alone = all.alone;
    }
