-- What the log says of the calls that are undone and of those that are drawn for.
use Rattle.std.proofs.Common.{[], take, drop, min, arith, length, ap, ◌∙◌}
use Rattle.sfs_dev.proofs.Drawing.{undo_can, kept_within, draw_can, drawn_is, drawn_whole, drawn_is_left}
use Rattle.sfs_dev.proofs.memory.Memory.left.Goals as goal

pub returns-in_err-bytes-clause-left : goal.returns-in_err-bytes-clause-left
returns-in_err-bytes-clause-left c k were =
    let m = c.args.self.now in
    drawn_is_left _ (min c.args.calls (length m.calls.items)) m.calls.items m.bytes.items m.replaced.items m.written.items m.whole
    (omega arith) m.logged m.written_as_replaced k c.args.pick were

pub returns-clause-left : goal.returns-clause-left
returns-clause-left c k were =
    let m = c.args.self.now in
    drawn_is_left _ (min c.args.calls (length m.calls.items)) m.calls.items m.bytes.items m.replaced.items m.written.items m.whole
    (omega arith) m.logged m.written_as_replaced k c.args.pick were

pub undo-requires : goal.undo-requires
undo-requires c =
    let m = c.args.self.now in
    undo_can _ (min c.args.calls (length m.calls.items)) m.calls.items m.bytes.items m.replaced.items m.written.items m.whole
    (omega arith) m.logged m.written_as_replaced
    c.min-made.result c.pending.result 0 c.split_at.result.0.now [] c.split_at-3.result.1.now c.in_ok-bytes.bytes.items c.deref-5.result.now []
    (omega (arith, c.min-made.ensures, c.len.ensures)) (c.split_at.ensures.front ∙ ap (take c.min-made.result) c.deref.ensures.value) c.pending.ensures.count
    (c.split_at-3.ensures.back ∙ ap (drop _) c.deref-2.ensures.value) (c.in_ok-bytes.ensures.items ∙ c.deref-3.ensures.value) c.deref-5.ensures.value

pub split_at-requires-4 : goal.split_at-requires-4
split_at-requires-4 c =
    let m = c.args.self.now in
    kept_within _ (min c.args.calls (length m.calls.items)) m.calls.items m.bytes.items m.replaced.items m.written.items m.whole
    (omega arith) m.logged m.written_as_replaced
    c.min-made.result c.pending.result c.undo.result c.split_at.result.0.now [] c.split_at-3.result.1.now c.in_ok-bytes.bytes.items c.deref-5.result.now
    c.deref-4.result.now
    (omega (arith, c.min-made.ensures, c.len.ensures)) (c.split_at.ensures.front ∙ ap (take c.min-made.result) c.deref.ensures.value) c.pending.ensures.count
    (c.split_at-3.ensures.back ∙ ap (drop _) c.deref-2.ensures.value) (c.in_ok-bytes.ensures.items ∙ c.deref-3.ensures.value) c.deref-5.ensures.value
    c.undo.ensures.count c.deref-4.ensures.value

pub draw-requires : goal.draw-requires
draw-requires c =
    let m = c.args.self.now in
    draw_can _ (min c.args.calls (length m.calls.items)) m.calls.items m.bytes.items m.replaced.items m.written.items m.whole
    (omega arith) m.logged m.written_as_replaced
    c.min-made.result c.pending.result c.undo.result c.split_at.result.0.now c.split_at-2.result.1.now c.split_at-3.result.1.now c.in_ok-bytes.bytes.items
    c.deref-5.result.now c.deref-4.result.now
    (omega (arith, c.min-made.ensures, c.len.ensures)) (c.split_at.ensures.front ∙ ap (take c.min-made.result) c.deref.ensures.value) c.pending.ensures.count
    (c.split_at-3.ensures.back ∙ ap (drop _) c.deref-2.ensures.value) (c.in_ok-bytes.ensures.items ∙ c.deref-3.ensures.value) c.deref-5.ensures.value
    c.undo.new.bytes.items [] c.split_at-4.result.1.now 0 c.split_at-2.ensures.back c.undo.ensures.count c.undo.ensures.content c.deref-4.ensures.value
    c.split_at-4.ensures.back

pub fresh-requires-clause-whole : goal.fresh-requires-clause-whole
fresh-requires-clause-whole c =
    let m = c.args.self.now in
    ap length
    (drawn_is _ (min c.args.calls (length m.calls.items)) m.calls.items m.bytes.items m.replaced.items m.written.items m.whole
    (omega arith) m.logged m.written_as_replaced
    c.min-made.result c.pending.result c.undo.result c.split_at.result.0.now c.split_at-2.result.1.now c.split_at-3.result.1.now c.in_ok-bytes.bytes.items
    c.deref-5.result.now c.deref-4.result.now
    (omega (arith, c.min-made.ensures, c.len.ensures)) (c.split_at.ensures.front ∙ ap (take c.min-made.result) c.deref.ensures.value) c.pending.ensures.count
    (c.split_at-3.ensures.back ∙ ap (drop _) c.deref-2.ensures.value) (c.in_ok-bytes.ensures.items ∙ c.deref-3.ensures.value) c.deref-5.ensures.value
    c.undo.new.bytes.items c.draw.new.bytes.items c.split_at-4.result.1.now c.args.pick c.split_at-2.ensures.back c.undo.ensures.count c.undo.ensures.content
    c.deref-4.ensures.value c.split_at-4.ensures.back
    c.draw.ensures)
    ∙ drawn_whole _ (min c.args.calls (length m.calls.items)) m.calls.items m.bytes.items m.replaced.items m.written.items m.whole
    (omega arith) m.logged m.written_as_replaced c.args.pick
