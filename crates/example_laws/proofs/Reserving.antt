-- Both fsyncs reserve with the first volume, one behind the other.
use Rattle.std.specs.List.{range_with_len}
use Rattle.std.proofs.Common.{◌≡◌, ◌∷◌, arith, List, ℕ, take, [], zero, refl, suc, ap, sym, filter, eqb-true, inl, subst, inr}
use Rattle.commit_laws.specs.CommitOfPlan.{CommitPlan}
use Rattle.turn_laws.specs.Need.{Amount}
use Rattle.turn_laws.specs.Books.{FitsFree, Books, least_open, is_open_in}
use Rattle.turn_ties.specs.Plans.{amount_planned}
use Rattle.book_laws.specs.Pairs.{ArePairsApart}
use Rattle.book_laws.specs.Worked.{TwoReserve}
use Rattle.book_laws.specs.Midway.{books_granted}
use Rattle.book_laws.specs.Walk.{grant_at}
use Rattle.example_laws.specs.Fsyncs.{pair_by, SECOND_FLUSH, FIRST_FLUSH, TWO_KEPT, commit_plan}
use Rattle.example_laws.specs.Image.{TWO_DIRECTORIES}
use Rattle.example_laws.proofs.Plans.{NeedsNone, first_needs, second_needs}
use Rattle.example_laws.proofs.Standing.{walk_begins}
use Rattle.example_laws.proofs.Telling.{opens, first_told, second_told}

-- what needs nothing fits, and gets no inode
fits_none : (plan : CommitPlan) (free : Amount) → NeedsNone plan → FitsFree (amount_planned plan) free
fits_none plan free needs = record {
  inodes = let none = needs.inodes in omega (arith, none);
  blocks = let none = needs.blocks in omega (arith, none);
}

pub take_none : {X : Type 0} (xs : List X) (n : ℕ) → n ≡ 0 → take n xs ≡ []
take_none [] n none = take_nil n
  where
    take_nil : {X : Type 0} (n : ℕ) → take n (let l : List X = [] in l) ≡ []
    take_nil zero = refl
    take_nil (suc n) = refl
take_none (x ∷ xs) n none = ap (λ k. take k (x ∷ xs)) none

least_none : (books : Books) (plan : CommitPlan) → NeedsNone plan → [] ≡ least_open books (amount_planned plan).inodes
least_none books plan needs =
    sym (take_none (filter (is_open_in books) (range_with_len 0 books.image.image.count)) (amount_planned plan).inodes needs.inodes)

-- they share nothing
pub apart : ArePairsApart (pair_by SECOND_FLUSH) (pair_by FIRST_FLUSH)
apart = record {
  numbers = λ same. omega (arith, same);
  nodes = λ share.
      let root = eqb-true share.node 0 share.one in
      let one = eqb-true share.node 1 share.two in omega (arith, root, one);
  inodes = λ i mine. absurd (let low = mine.1 in omega (arith, low));
  blocks = λ block mine. absurd (let low = mine.1 in omega (arith, low));
}

pub two_reserve : TwoReserve TWO_KEPT
two_reserve = record {
  begins = walk_begins;
  first = refl;
  history = refl;
  own = record { core_is = refl; flush_is = refl; number_is = refl };
  other = record { core_is = refl; flush_is = refl; number_is = refl };
  own_reserves = record {
    pair = record { opens = opens FIRST_FLUSH first_told; apart = λ other one. absurd one };
    fits = fits_none (commit_plan FIRST_FLUSH) _ first_needs;
    least = least_none (books_granted TWO_DIRECTORIES []) (commit_plan FIRST_FLUSH) first_needs;
  };
  other_reserves = record {
    pair = record {
      opens = opens SECOND_FLUSH second_told;
      apart = λ other one. elim one [
        | inl same ↦ subst (λ stamp. ArePairsApart (pair_by SECOND_FLUSH) (TWO_KEPT.pairs stamp)) same apart
        | inr never ↦ absurd never
      ];
    };
    fits = fits_none (commit_plan SECOND_FLUSH) _ second_needs;
    least = least_none (books_granted TWO_DIRECTORIES (grant_at TWO_KEPT.pairs 0 ∷ [])) (commit_plan SECOND_FLUSH) second_needs;
  };
}
