-- The map at each place of a record along which it goes.
use Rattle.std.proofs.Common.{if◌then◌else◌, ◌≤◌, ◌≡◌, ◌<◌, ◌++◌, ◌∷◌, ◌∙◌, ℕ, List, nat_le, length, ap, Bool, arith, refl, [], length-append, inl, subst, sym, inr, append-nil, true, false}
use Rattle.std.proofs.lemmas.Bool.Decides.{nat_tests}
use Rattle.space_map.specs.Space.{Space}
use Rattle.tree_laws.specs.declared.turns.Turn.{Turn}
use Rattle.merge_laws.proofs.Lists.{nothing_there, joined_at, heads_are}
use Rattle.book_laws.specs.Pairs.{Pair}
use Rattle.book_laws.specs.Along.{no_turn_made, one_turn_made, MapGoes, MapDoes}

module _ (pairs : ℕ → Pair) (first : Space) where
  -- the map behind so many turns
  pub map_behind : {turns : List Turn} {now : Space} → MapGoes pairs first turns now → ℕ → Space
  map_behind no_turn_made n = first
  map_behind (one_turn_made front turn old new goes does) n = if nat_le n (length front) then map_behind goes n else new

  low_is : {X : Type 0} (n m : ℕ) (x y : X) → n ≤ m → (if nat_le n m then x else y) ≡ x
  low_is n m x y low = let test : nat_le n m ≡ true = grind (low, arith, nat_tests) in ap (λ (b : Bool). if b then x else y) test

  high_is : {X : Type 0} (n m : ℕ) (x y : X) → m < n → (if nat_le n m then x else y) ≡ y
  high_is n m x y high = let test : nat_le n m ≡ false = grind (high, arith, nat_tests) in ap (λ (b : Bool). if b then x else y) test

  behind_all : {turns : List Turn} {now : Space} (goes : MapGoes pairs first turns now) → map_behind goes (length turns) ≡ now
  unfolding map_behind
  behind_all no_turn_made = refl
  behind_all (one_turn_made front turn old new goes does) =
      high_is (length (front ++ turn ∷ [])) (length front) (map_behind goes (length (front ++ turn ∷ []))) new
      (let many = length-append front (turn ∷ []) in omega (arith, many))

  -- At a place of a record the map has gone along up to there, and goes on with the turn.
  pub record GoesAt {turns : List Turn} {now : Space} (goes : MapGoes pairs first turns now) (front : List Turn) (turn : Turn) : Type 0 where
    pub front_goes : MapGoes pairs first front (map_behind goes (length front))
    pub left : Space
    pub does : MapDoes turn.act pairs front turn.stamp.0 (map_behind goes (length front)) left

  pub goes_at : {turns : List Turn} {now : Space} (goes : MapGoes pairs first turns now) (front : List Turn) (turn : Turn) (back : List Turn)
      → turns ≡ front ++ turn ∷ back → GoesAt goes front turn
  unfolding map_behind
  goes_at no_turn_made front turn back whole = absurd (nothing_there front turn back whole)
  goes_at (one_turn_made some last old new goes does) front turn back whole = elim (joined_at some (last ∷ []) front turn back whole) [
    | inl within ↦
        let there = goes_at goes front turn within.others within.whole in
        let many = ap length within.whole ∙ length-append front (turn ∷ within.others) in
        let is = low_is (length front) (length some) (map_behind goes (length front)) new (omega (arith, many)) in
        record {
          front_goes = subst (MapGoes pairs first front) (sym is) there.front_goes;
          left = there.left;
          does = subst (λ s. MapDoes turn.act pairs front turn.stamp.0 s there.left) (sym is) there.does;
        }
    | inr at_end ↦
        let split = last_split at_end.more at_end.back at_end.whole in
        let front_is : front ≡ some = at_end.front_is ∙ (ap (λ l. some ++ l) split.0 ∙ append-nil some) in
        let is : map_behind (one_turn_made some last old new goes does) (length front) ≡ old =
        ap (λ (l : List Turn). map_behind (one_turn_made some last old new goes does) (length l)) front_is
        ∙ (low_is (length some) (length some) (map_behind goes (length some)) new (omega arith) ∙ behind_all goes) in
        record {
          front_goes = subst (MapGoes pairs first front) (sym is) (subst (λ l. MapGoes pairs first l old) (sym front_is) goes);
          left = new;
          does =
              subst (λ s. MapDoes turn.act pairs front turn.stamp.0 s new) (sym is)
              (subst (λ (t : Turn). MapDoes t.act pairs front t.stamp.0 old new) split.1
              (subst (λ l. MapDoes last.act pairs l last.stamp.0 old new) (sym front_is) does));
        }
  ]
    where
      last_split : (more rest : List Turn) → last ∷ [] ≡ more ++ turn ∷ rest → (more ≡ []) × (last ≡ turn)
      last_split [] rest e = (refl, (heads_are last turn [] rest e).0)
      last_split (x ∷ more) rest e = absurd (nothing_there more turn rest (heads_are last x [] (more ++ turn ∷ rest) e).1)
