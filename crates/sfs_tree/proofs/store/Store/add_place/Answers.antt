use Rattle.std.proofs.Common.{◌≡◌, ◌+◌, ap, arith}
use Rattle.sfs_tree.specs.StoreState.{StoreState}
use Rattle.sfs_tree.proofs.StoreKept.{IsStored-place, IsStored-wider, IsWide-fewer}
use Rattle.sfs_tree.proofs.store.Store.add_place.Goals as goal

pub invariant_of-self-in_err-grow-2 : goal.invariant_of-self-in_err-grow-2
invariant_of-self-in_err-grow-2 c =
    let places : c.self.inside.nodes.places ≡ c.args.self.now.places = ap (λ (s : StoreState). s.places) c.self.view_is in
    IsStored-wider c.self.inside.nodes c.self.inside.counts c.self.inside.rows c.self.invariant c.grow-2.new.self c.grow.new.self
    (omega arith) c.grow.ensures.never_lowers c.grow.ensures.rows (c.in_err-grow-2.ensures.err c.self.inside.nodes.places c.self.invariant.wide)
    (c.grow-2.ensures.counted c.self.inside.rows.rows c.self.inside.nodes.nodes c.self.invariant.counted)

pub invariant_of-self-in_err-grow-3 : goal.invariant_of-self-in_err-grow-3
invariant_of-self-in_err-grow-3 c =
    let n = c.self.inside.nodes in
    let places : n.places ≡ c.args.self.now.places = ap (λ (s : StoreState). s.places) c.self.view_is in
    let wide =
    IsWide-fewer c.grow-2.new.self (n.places + 1) c.grow-3.new.self.places (c.in_ok-grow-2.ensures.ok n.places c.self.invariant.wide)
    (omega (arith, c.in_err-grow-3.ensures.err)) in
    IsStored-place n c.self.inside.counts c.self.inside.rows c.self.invariant c.grow-3.new.self c.grow-2.new.self c.grow.new.self c.grow-3.ensures.nodes
    (omega (arith, c.in_err-grow-3.ensures.err, c.in_ok-grow.ensures.ok)) (omega (arith, c.in_err-grow-3.ensures.err))
    (omega arith) c.grow.ensures.never_lowers c.grow.ensures.rows wide (c.grow-2.ensures.counted c.self.inside.rows.rows n.nodes c.self.invariant.counted)

pub invariant_of-self-2 : goal.invariant_of-self-2
invariant_of-self-2 c =
    let n = c.self.inside.nodes in
    let places : n.places ≡ c.args.self.now.places = ap (λ (s : StoreState). s.places) c.self.view_is in
    let wide =
    IsWide-fewer c.grow-2.new.self (n.places + 1) c.grow-3.new.self.places (c.in_ok-grow-2.ensures.ok n.places c.self.invariant.wide)
    (omega (arith, c.in_ok-grow-3.ensures.ok)) in
    IsStored-place n c.self.inside.counts c.self.inside.rows c.self.invariant c.grow-3.new.self c.grow-2.new.self c.grow.new.self c.grow-3.ensures.nodes
    (omega (arith, c.in_ok-grow-3.ensures.ok, c.in_ok-grow.ensures.ok)) (omega (arith, c.in_ok-grow-3.ensures.ok))
    (omega arith) c.grow.ensures.never_lowers c.grow.ensures.rows wide (c.grow-2.ensures.counted c.self.inside.rows.rows n.nodes c.self.invariant.counted)
