-- What the box says of a commit as it reserves.
use Rattle.std.proofs.Common.{◌≡◌, ◌⊎◌, ℕ, ◌<◌, ◌≤◌, true, List, [], ◌∷◌, ◌++◌, inl, inr, sym, ap, subst, arith}
use Rattle.sfs_base.proofs.BasicTruth.{not_both}
use Rattle.cut_laws.specs.Rules.{IsOneOf}
use Rattle.cut_laws.proofs.Basics.{in_left, in_right, in_either}
use Rattle.beside_laws.specs.Box.{BoxState, NO_COMMIT, KnewLast, nobody, somebody, IsUnmoved, with_open, BoxGoesOn, here, reserves, ends, gives_back, BoxGives}
use Rattle.beside_laws.specs.Commits.{CoreCommit}
use Rattle.beside_laws.specs.Laws.{BoxesGive}

-- one of a list from which another was taken is one of the list
pub put_back : (before behind : List CoreCommit) (commit other : CoreCommit) → IsOneOf (before ++ behind) other → IsOneOf (before ++ commit ∷ behind) other
put_back before behind commit other one = elim (in_either before behind other one) [
  | inl left ↦ in_left before (commit ∷ behind) other left
  | inr right ↦ in_right before (commit ∷ behind) other (inr right)
]

pub taken : (before behind : List CoreCommit) (commit : CoreCommit) → IsOneOf (before ++ commit ∷ behind) commit
taken before behind commit = in_right before (commit ∷ behind) commit (inl Rattle.std.proofs.Common.refl)

-- one more at the end of a list
pub last_or : (list : List CoreCommit) (commit other : CoreCommit) → IsOneOf (list ++ commit ∷ []) other → IsOneOf list other ⊎ (other ≡ commit)
last_or list commit other one = elim (in_either list (commit ∷ []) other one) [
  | inl before ↦ inl before
  | inr last ↦ elim last [ inl same ↦ inr (sym same) | inr never ↦ absurd never ]
]

-- Each commit of the box has a number that was given.
record AreGiven (box : BoxState) : Type 0 where
  done : (other : CoreCommit) → IsOneOf box.done other → other.number ≤ box.number
  open_ones : (other : CoreCommit) → IsOneOf box.opens other → other.number ≤ box.number

given : {box : BoxState} → BoxGoesOn NO_COMMIT box → AreGiven box
given here = record { done = λ other none. absurd none; open_ones = λ other none. absurd none }
given (reserves box commit on greater unmoved) =
    let were = given on in
    record {
      done = λ other one. let low = were.done other one in omega arith;
      open_ones = λ other one. elim (last_or box.opens commit other one) [
        | inl before ↦ let low = were.open_ones other before in omega arith
        | inr same ↦ let number = ap (λ (c : CoreCommit). c.number) same in omega arith
      ];
    }
given (ends done before behind number commit on) =
    let were = given on in
    record {
      done = λ other one. elim (last_or done commit other one) [
        | inl there ↦ were.done other there
        | inr same ↦ subst (λ (c : CoreCommit). c.number ≤ number) (sym same) (were.open_ones commit (taken before behind commit))
      ];
      open_ones = λ other one. were.open_ones other (put_back before behind commit other one);
    }
given (gives_back done before behind number commit on) =
    let were = given on in
    record { done = were.done; open_ones = λ other one. were.open_ones other (put_back before behind commit other one) }

-- A commit was done or open in a state, or has a greater number than was given there.
abbrev WasThere : BoxState → CoreCommit → Type 0
WasThere from other = IsOneOf from.done other ⊎ IsOneOf from.opens other ⊎ (from.number < other.number)

-- So it is of each that is done or open in a later state, and no number falls.
record CameFrom (from box : BoxState) : Type 0 where
  done : (other : CoreCommit) → IsOneOf box.done other → WasThere from other
  open_ones : (other : CoreCommit) → IsOneOf box.opens other → WasThere from other
  number : from.number ≤ box.number

came : {from box : BoxState} → BoxGoesOn from box → CameFrom from box
came here = record { done = λ other one. inl one; open_ones = λ other one. inr (inl one); number = omega arith }
came (reserves box commit on greater unmoved) =
    let were = came on in
    let low = were.number in
    record {
      done = were.done;
      open_ones = λ other one. elim (last_or box.opens commit other one) [
        | inl before ↦ were.open_ones other before
        | inr same ↦ let number = ap (λ (c : CoreCommit). c.number) same in inr (inr (omega arith))
      ];
      number = omega arith;
    }
came {from} (ends done before behind number commit on) =
    let were = came on in
    record {
      done = λ other one. elim (last_or done commit other one) [
        | inl there ↦ were.done other there
        | inr same ↦ subst (WasThere from) (sym same) (were.open_ones commit (taken before behind commit))
      ];
      open_ones = λ other one. were.open_ones other (put_back before behind commit other one);
      number = were.number;
    }
came (gives_back done before behind number commit on) =
    let were = came on in
    record { done = were.done; open_ones = λ other one. were.open_ones other (put_back before behind commit other one); number = were.number }

module _ (box after : BoxState) (commit : CoreCommit) (on : BoxGoesOn NO_COMMIT box) (greater : box.number < commit.number)
    (unmoved : IsUnmoved box commit) (further : BoxGoesOn (with_open box commit) after) where
  -- what it knew of a node is no number above those that were given
  knew_low : (node : ℕ) → commit.holds node ≡ true → commit.last node ≤ box.number
  knew_low node holds = by (unmoved.knew node holds)
    where
      by : KnewLast box.done node (commit.last node) → commit.last node ≤ box.number
      by (nobody none zero) = omega arith
      by (somebody last is same) = let low = (given on).done last is.among in omega arith

  knew_of : (other : CoreCommit) (node : ℕ) → IsOneOf box.done other → commit.holds node ≡ true → other.holds node ≡ true
      → other.number ≤ commit.last node
  knew_of other node one holds also = by (unmoved.knew node holds)
    where
      by : KnewLast box.done node (commit.last node) → other.number ≤ commit.last node
      by (nobody none zero) = absurd (not_both also (none other one))
      by (somebody last is same) = let up = is.latest other one also in omega arith

  pub gives : BoxGives box after.done commit
  gives = record {
    later = record {
      other_number = λ other one same. let low = (given on).done other one in omega arith;
      greater = λ other one share. let low = (given on).done other one in omega arith;
    };
    apart = unmoved.none_open;
    other_open = λ other one same. let low = (given on).open_ones other one in omega arith;
    known = knew_of;
    behind = λ other node one holds also low.
        let known = knew_low node holds in
        elim ((came further).done other one) [
          | inl before ↦ before
          | inr rest ↦ elim rest [
            | inr above ↦ absurd (omega arith)
            | inl open_one ↦ elim (last_or box.opens commit other open_one) [
              | inl was ↦ absurd (unmoved.none_open other was (record { node = node; one = holds; two = also }))
              | inr same ↦ let number = ap (λ (c : CoreCommit). c.number) same in absurd (omega arith)
            ]
          ]
        ];
  }

pub boxes_give : BoxesGive
boxes_give box after commit on greater unmoved further = gives box after commit on greater unmoved further
