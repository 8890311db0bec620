-- A core lets go of its last cells.
use Rattle.std.proofs.Common.{◌≡◌, ℕ, ◌≤◌, true, false, List, [], ◌∷◌, ◌++◌, reverse, nat_le, sym, refl, ap, ◌∙◌, subst, arith}
use Rattle.std.proofs.lemmas.Bool.Decides.{nat_tests}
use Rattle.std.proofs.lemmas.List.{reverse-append, reverse-reverse}
use Rattle.stamp_table.specs.declared.held.HeldCell.{HeldCell}
use Rattle.tree_laws.specs.Tree.{TreeState}
use Rattle.stamp_table.specs.declared.event.Event.{Event}
use Rattle.stamp_table.specs.declared.view.View.{View}
use Rattle.stamp_table.specs.Hand.{Hand}
use Rattle.stamp_table.specs.Table.{begins_from, drop_from, left_below, EachFrom, OfLast, Stands, LetsGo, Looked}
use Rattle.stamp_table.specs.Rule.{Has, entries_by}
use Rattle.stamp_table.specs.Events.{event_core, IsLawful, stands_for}
use Rattle.stamp_table.proofs.Keeps.{begins_on}

module _ {C : Type 0} (from : ℕ) where
  pub each_front : (P : HeldCell C → Type 0) (front : List (HeldCell C)) (cell : HeldCell C) → EachFrom from P (front ++ cell ∷ []) → EachFrom from P front
  each_front P [] cell each = tt
  each_front P (x ∷ front) cell each = (each.0, each_front P front cell each.1)

  pub each_last : (P : HeldCell C → Type 0) (front : List (HeldCell C)) (cell : HeldCell C) → EachFrom from P (front ++ cell ∷ []) → from ≤ cell.place → P cell
  each_last P [] cell each le = each.0 le
  each_last P (x ∷ front) cell each le = each_last P front cell each.1 le

  last_first : (front : List (HeldCell C)) (cell : HeldCell C) → reverse (front ++ cell ∷ []) ≡ cell ∷ reverse front
  last_first front cell = reverse-append front (cell ∷ [])

  pub begins_last : (front : List (HeldCell C)) (cell : HeldCell C) → begins_from from (reverse (front ++ cell ∷ [])) ≡ nat_le from cell.place
  begins_last front cell = ap (begins_from from) (last_first front cell)

  -- where the last cell stands from the place on, it makes no difference to what is left
  pub left_pop : (front : List (HeldCell C)) (cell : HeldCell C) → begins_from from (reverse (front ++ cell ∷ [])) ≡ true
      → left_below from (front ++ cell ∷ []) ≡ left_below from front
  left_pop front cell does = let here : nat_le from cell.place ≡ true = sym (begins_last front cell) ∙ does in
      ap (λ cells. reverse (drop_from from cells)) (last_first front cell) ∙ rw here refl

  drop_stays : (cells : List (HeldCell C)) → begins_from from cells ≡ false → drop_from from cells ≡ cells
  drop_stays [] not = refl
  drop_stays (cell ∷ cells) not = rw not refl

  -- where it does not, all are left
  pub left_stays : (cells : List (HeldCell C)) → begins_from from (reverse cells) ≡ false → left_below from cells ≡ cells
  left_stays cells not = ap reverse (drop_stays (reverse cells) not) ∙ reverse-reverse cells

module _ {C X G : Type 0} where
  -- who lets go of some cells and then of others lets go of both
  pub lets_go_again : (a b c : Hand C X G) → LetsGo a b → LetsGo b c → LetsGo a c
  lets_go_again a b c one two = record {
    frame = ap (λ (h : Hand C X G). record h { view = a.view; held = a.held; room = a.room }) two.frame ∙ one.frame;
    view = ap (λ (v : View TreeState (Event X)). record v { held = a.view.held }) two.view ∙ one.view;
    room = let p = one.room in let q = two.room in omega (arith, p, q);
  }

  -- what stands for what a core has seen still does once it has let go of some cells
  pub stands_on : (lawful : TreeState → List (Event X) → Type 0) (stands : TreeState → List (Event X) → ℕ → C → Type 0) (from : ℕ) (a b : Hand C X G)
      → LetsGo a b
      → EachFrom from (Stands lawful stands a.view) b.held → begins_from from (reverse b.held) ≡ true → OfLast (Stands lawful stands b.view) b.held
  stands_on lawful stands from a b lets each does front cell is =
      let le : from ≤ cell.place =
      (let e : nat_le from cell.place ≡ true = sym (begins_last from front cell) ∙ (ap (λ cells. begins_from from (reverse cells)) (sym is) ∙ does) in
      grind (arith, nat_tests, e)) in
      let old = each_last from (Stands lawful stands a.view) front cell (subst (λ cells. EachFrom from (Stands lawful stands a.view) cells) is each) le in
      subst (λ (v : View TreeState (Event X)). stands v.first v.seen cell.place cell.value) (sym lets.view) old

module _ {C X G : Type 0} (lawful : TreeState → List (Event X) → Type 0) (stands : TreeState → List (Event X) → ℕ → C → Type 0) where
  -- who looks twice has looked once, and found what was found last
  pub looked_again : (a b c : Hand C X G) (found more : ℕ) → Looked lawful stands a found b → Looked lawful stands b more c → Looked lawful stands a more c
  looked_again a b c found more one two = record {
    frame = ap (λ (h : Hand C X G). record h { view = a.view }) two.frame ∙ one.frame;
    saw = record {
      frame = ap (λ (v : View TreeState (Event X)). record v { seen = a.view.seen }) two.saw.frame ∙ one.saw.frame;
      number_is = two.saw.number_is;
      seen = begins_on a.view.seen b.view.seen c.view.seen one.saw.seen two.saw.seen;
      legal_seen = subst (λ f. IsLawful lawful f c.view.seen) (ap (λ (v : View TreeState (Event X)). v.first) one.saw.frame) two.saw.legal_seen;
      mine =
          ap (λ (v : View TreeState (Event X)). v.mine) (sym one.saw.frame)
          ∙ (two.saw.mine ∙ ap (λ (v : View TreeState (Event X)). entries_by event_core v.core c.view.seen) one.saw.frame);
      kept = λ other value has stood.
          subst (λ (v : View TreeState (Event X)). stands_for stands v.first c.view.seen other value) one.saw.frame
          (two.saw.kept other value (subst (λ (v : View TreeState (Event X)). Has v.held other) (sym one.saw.frame) has)
          (subst (λ (v : View TreeState (Event X)). stands_for stands v.first b.view.seen other value) (sym one.saw.frame)
          (one.saw.kept other value has stood)));
    };
  }
