use Rattle.std.proofs.Common.{◌≡◌, ◌+◌, ◌∷◌, ℕ, List, length, drop, get_or, subst, sym, ap, ◌∙◌, arith}
use Rattle.std.proofs.lemmas.List.{drop_more}
use Rattle.stamp_table.specs.Ascending.{AreBelow, RiseAbove}
use Rattle.stamp_table.specs.Table.{HoldsAll}
use Rattle.stamp_table.proofs.hand.Core.hold.Goals as goal

pub loop-place-preserved : goal.loop-place-preserved
loop-place-preserved g c =
    let inv = c.loop-place.invariant in
    let h = c.hold_one.ensures in
    let next : drop c.loop-place.place-index c.args.places.now
    ≡ get_or c.args.places.now c.loop-place.place-index 0 ∷ drop (c.loop-place.place-index + 1) c.args.places.now =
    drop_more c.args.places.now c.loop-place.place-index 0 c.loop-place-test.true in
    record {
      table = ap (λ x. x.table) h.frame ∙ inv.table;
      cells = (subst (λ (l : List ℕ). AreBelow c.args.shared.now.table.id.slots l) next inv.cells).1;
      above =
          subst (λ (l : List ℕ). RiseAbove l (drop (c.loop-place.place-index + 1) c.args.places.now)) (sym h.saw.held)
          (subst (λ (l : List ℕ). RiseAbove c.loop-place.self.view.held l) next inv.above).1;
      room = (let r = inv.room in let l = ap length next in let less = h.room in omega (arith, r, l, less));
      rest =
          λ after tail. inv.rest after
          (subst (λ (l : List ℕ). HoldsAll (g.M.Meaning.lawful c.args.shared.now.table.given) (g.M.Meaning.stands c.args.shared.now.table.given) l
          c.loop-place.self after) (sym next) (c.hold_one.new.self, h, tail));
    }
