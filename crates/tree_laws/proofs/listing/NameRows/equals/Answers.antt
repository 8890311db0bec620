use Rattle.std.proofs.Common.{rules, ◌≡◌, true, false, map, length, ℕ, ◌<◌, List, get_or, ap, sym, ◌∙◌}
use Rattle.std.proofs.lemmas.List.{get_or-map}
use Rattle.tree_laws.specs.NameKinds.{name_kind}
use Rattle.tree_laws.proofs.listing.NameRows.equals.Goals as goal

-- lists that look alike look alike at each place
alike_at : {X Y : Type 0} (f : X → Y) (xs ys : List X) (i : ℕ) (d e : X) → i < length xs → i < length ys → map f xs ≡ map f ys
    → f (get_or xs i d) ≡ f (get_or ys i e)
alike_at f xs ys i d e less other_less same = sym (get_or-map f xs i d (f d) less) ∙ ap (λ l. get_or l i (f d)) same ∙ get_or-map f ys i e (f d) other_less

pub returns-then-not-equals : goal.returns-then-not-equals
returns-then-not-equals c = (λ e. cc, λ e. no (c.equals.ensures.1 (same e)))
  where
    no : c.equals.result ≡ true → false ≡ true
    no is = sym c.if-not-equals.true ∙ is

    in_first : c.loop-place.place < length c.self.inside.rows.items
    in_first = search rules

    in_other : c.loop-place.place < length c.other.inside.rows.items
    in_other = search rules

    same : c.args.self.now ≡ c.args.other.now → name_kind c.index.result.now ≡ name_kind c.index-in-loop-place.result.now
    same e =
        ap name_kind c.index.ensures
        ∙ alike_at name_kind c.self.inside.rows.items c.other.inside.rows.items c.loop-place.place c.index.result.now c.index-in-loop-place.result.now in_first
        in_other
        (c.self.view_is ∙ e ∙ sym c.other.view_is)
        ∙ ap name_kind (sym c.index-in-loop-place.ensures)
