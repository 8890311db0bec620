use Rattle.std.proofs.Common.{◌≡◌, ◌+◌, ◌<◌, ◌++◌, ◌∷◌, [], Bool, List, filter_map, sym, ap, ◌∙◌, arith, All}
use Rattle.block_map.specs.Kept.{pointer_kept}
use Rattle.block_map.specs.declared.changed.ChangedBlock.{ChangedBlock}
use Rattle.block_map.proofs.Places.{one_more_given, one_more_none}
use Rattle.std.specs.List.{range_with_len}
use Rattle.disk_change.specs.Patched.{TellsTouched, patched}
use Rattle.disk_change.specs.Seat.{block_said}
use Rattle.disk_change.proofs.Passing.{nothing_between, said_passed}
use Rattle.disk_change.proofs.Rewriting.{all_below_next, all_below_more}
use Rattle.disk_change.proofs.rewritten.directory_changed.Goals as goal
use Rattle.disk_change.proofs.rewritten.directory_changed.Goals.{in-Some+in_ok-reserve, in_default}

pub loop-n-init : goal.loop-n-init
loop-n-init c =
    let pointers = pointer_kept c.args.inode.now c.args.tables.now.items in
    let nothing = ap (λ l. l.items) c.new-changed.ensures in
    record {
      items = λ touched told.
          nothing
          ∙ sym
          (nothing_between (block_said pointers (patched c.args.patch.now c.args.slots.now) touched) 0 c.next_said-n.result (omega arith)
          (λ k over under.
          said_passed pointers c.args.slots.now c.args.patch.now touched c.args.end k told c.requires.end (c.next_said-n.ensures.passed k over under)));
      below = rw nothing (λ k d low. absurd (omega (arith, low)));
      within = c.next_said-n.ensures.within;
    }

pub push-requires-clause-above : goal.push-requires-clause-above
push-requires-clause-above c =
    rw c.in_ok-reserve.ensures.items
    (λ k d within. let below = c.loop-n.invariant.below k d within in let own = c.in-Some.ensures.own in omega (arith, below, own))

pub loop-n-preserved : goal.loop-n-preserved
loop-n-preserved c =
    let pointers = pointer_kept c.args.inode.now c.args.tables.now.items in
    let blocks = patched c.args.patch.now c.args.slots.now in
    let next = c.next_said-n-in-loop-n.result in
    let on : (touched : List Bool) → TellsTouched c.args.slots.now c.args.patch.now touched
    → filter_map (block_said pointers blocks touched) (range_with_len 0 next)
    ≡ filter_map (block_said pointers blocks touched) (range_with_len 0 (c.loop-n.n + 1)) =
    λ touched told.
    nothing_between (block_said pointers blocks touched) (c.loop-n.n + 1) next c.next_said-n-in-loop-n.ensures.on
    (λ k over under.
    said_passed pointers c.args.slots.now c.args.patch.now touched c.args.end k told c.requires.end (c.next_said-n-in-loop-n.ensures.passed k over under)) in
    let rise : (changed : List ChangedBlock) → All (λ one. one.block < c.loop-n.n + 1) changed → All (λ one. one.block < next) changed =
    λ changed below k d low. let less = below k d low in omega (arith, less, c.next_said-n-in-loop-n.ensures.on) in
    elim c.match-said_of.branch [
      | in-Some+in_ok-reserve w ↦ rw (w.changed-is) (record {
        items = λ touched told.
            w.push.ensures.items ∙ ap (λ items. items ++ w.in-Some.one ∷ []) (w.in_ok-reserve.ensures.items ∙ c.loop-n.invariant.items touched told)
            ∙ sym
            (on touched told
            ∙ one_more_given (block_said pointers blocks touched) c.loop-n.n w.in-Some.one (sym (c.said_of.ensures.said touched told) ∙ w.in-Some.is));
        below =
            rw (w.push.ensures.items, w.in_ok-reserve.ensures.items)
            (rise _ (all_below_more c.loop-n.changed.items c.loop-n.n w.in-Some.one c.loop-n.invariant.below w.in-Some.ensures.own));
        within = c.next_said-n-in-loop-n.ensures.within;
      })
      | in_default w ↦ rw (w.changed-is) (record {
        items = λ touched told.
            c.loop-n.invariant.items touched told
            ∙ sym
            (on touched told
            ∙ one_more_none (block_said pointers blocks touched) c.loop-n.n (sym (c.said_of.ensures.said touched told) ∙ w.in_default.is));
        below = rise _ (all_below_next c.loop-n.changed.items c.loop-n.n c.loop-n.invariant.below);
        within = c.next_said-n-in-loop-n.ensures.within;
      })
    ]
