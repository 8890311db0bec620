use Rattle.std.proofs.Common.{refl, sym, subst, ap, arith}
use Rattle.mem_values.specs.Start.{FileHand, given_by}
use Rattle.mem_rename.proofs.Walking.{HasWalked, walk_begins, walk_goes_on, walk_ends, reads_on_both}
use Rattle.mem_rename.proofs.ways.read_way.Goals as goal

pub loop-init : goal.loop-init
loop-init g c =
    subst (λ l. HasWalked (given_by c.args.shared.now) c.args.shared.now c.args.nodes c.args.node.0 c.args.core.now c.args.core.now l c.args.node)
    (sym c.new-above.ensures.items)
    (walk_begins (given_by c.args.shared.now) c.args.shared.now c.args.nodes c.requires.table c.args.node.0 c.args.core.now c.args.node refl
    c.requires.work c.requires.lock
    c.requires.legal c.requires.node)

pub returns-then-at-eq0-clause-on : goal.returns-then-at-eq0-clause-on
returns-then-at-eq0-clause-on g c = c.loop.invariant.on

pub returns-then-at-eq0-clause-work : goal.returns-then-at-eq0-clause-work
returns-then-at-eq0-clause-work g c = c.loop.invariant.work

pub returns-then-at-eq0-clause-way : goal.returns-then-at-eq0-clause-way
returns-then-at-eq0-clause-way g c =
    walk_ends (given_by c.args.shared.now) c.args.shared.now c.args.nodes c.requires.table c.args.node.0 c.args.core.now c.loop.core c.loop.above.items
    c.loop.at
    c.loop.invariant c.if-at-eq0.true

pub standing_of-requires-clause-work : goal.standing_of-requires-clause-work
standing_of-requires-clause-work g c = c.loop.invariant.work

pub standing_of-requires-clause-lock : goal.standing_of-requires-clause-lock
standing_of-requires-clause-lock g c = c.loop.invariant.lock

pub standing_of-requires-clause-node : goal.standing_of-requires-clause-node
standing_of-requires-clause-node g c = c.loop.invariant.within

pub standing_of-requires-clause-room : goal.standing_of-requires-clause-room
standing_of-requires-clause-room g c = let same = ap (λ (h : FileHand). h.room) c.loop.invariant.on.frame in let room = c.requires.room in
    omega (arith, same, room)

pub returns-in_default-clause-on : goal.returns-in_default-clause-on
returns-in_default-clause-on g c = reads_on_both c.args.core.now c.loop.core c.standing_of.new.core c.loop.invariant.on c.standing_of.ensures.saw.on

pub returns-in_err-push-clause-on : goal.returns-in_err-push-clause-on
returns-in_err-push-clause-on g c = reads_on_both c.args.core.now c.loop.core c.standing_of.new.core c.loop.invariant.on c.standing_of.ensures.saw.on

pub loop-preserved : goal.loop-preserved
loop-preserved g c =
    subst (λ l. HasWalked (given_by c.args.shared.now) c.args.shared.now c.args.nodes c.args.node.0 c.args.core.now c.standing_of.new.core l
    c.in-Some-standing_of.holder)
    (sym c.in_ok-push.ensures.items)
    (walk_goes_on (given_by c.args.shared.now) c.args.shared.now c.args.nodes c.requires.table c.args.node.0 c.args.core.now c.loop.core c.loop.above.items
    c.loop.at
    c.loop.invariant c.standing_of.new.core c.in-Some-standing_of.holder
    c.in-Some-standing_of.ensures.work c.in-Some-standing_of.ensures.saw)
