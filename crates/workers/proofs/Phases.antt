-- A legal history is cut at a number of calls, and a phase that begins there is a part of it.
use Rattle.std.proofs.Common.{◌≡◌, ℕ, suc, ◌<◌, ◌≤◌, ◌+◌, true, false, cond, nat_eq, List, [], ◌∷◌, ◌++◌, length, filter, refl, sym, ap, ◌∙◌, subst, arith, ⊎_elim, append-nil}
use Rattle.std.proofs.lemmas.Bool.{cases_Bool}
use Rattle.std.proofs.lemmas.List.Elements.{filter-append}
use Rattle.tree_laws.specs.Tree.{TreeState}
use Rattle.tree_laws.specs.History.{tree_after_entry, IsLegal, IsLegalFrom}
use Rattle.tree_laws.specs.declared.history.Entry.{Entry}
use Rattle.script.specs.Walks.{commands_of}
use Rattle.script.specs.Follows.{core_entries, MakesAll, Makes, Follows, FollowsSoFar}
use Rattle.script.proofs.FollowLemmas.{Follows-more, FollowsSoFar-part}
use Rattle.mem_values.proofs.Moves.{legal_front}
use Rattle.workers.specs.Phases.{AreBefore, AreFrom, HasOwn, RanPhase, EndsPhase, RunsPhase, MadeNothing, MadeMore, MadePart}

-- entries from a number on are so from each lower one on
pub from_lower : (low high : ℕ) → low ≤ high → (entries : List Entry) → AreFrom high entries → AreFrom low entries
from_lower low high le [] from = tt
from_lower low high le (e ∷ entries) from = ((let f = from.0 in omega (arith, f, le)), from_lower low high le entries from.1)

-- the stamps of a legal history from a number on
from_legal : (tree : TreeState) (stamp : ℕ) (history : List Entry) → IsLegalFrom tree stamp history → AreFrom stamp history
from_legal tree stamp [] legal = tt
from_legal tree stamp (entry ∷ history) legal =
    let at = legal.0.stamped in
    (omega (arith, at), from_lower stamp (suc stamp) (omega arith) history (from_legal (tree_after_entry tree entry) (suc stamp) history legal.1))

-- A history that is cut in two: what has stamps below a number, and what has not.
record IsCut (number : ℕ) (history : List Entry) : Type 0 where
  front : List Entry
  back : List Entry
  joined : history ≡ front ++ back
  below : AreBefore number front
  above : AreFrom number back

-- so is each legal history
cut : (number : ℕ) (tree : TreeState) (stamp : ℕ) (history : List Entry) → IsLegalFrom tree stamp history → IsCut number history
cut number tree stamp [] legal = record { front = []; back = []; joined = refl; below = tt; above = tt }
cut number tree stamp (entry ∷ history) legal = ⊎_elim
    (λ (early : Rattle.std.specs.Prelude.nat_lt stamp number ≡ true).
    let rest = cut number (tree_after_entry tree entry) (suc stamp) history legal.1 in
    let at = legal.0.stamped in
    record {
      front = entry ∷ rest.front;
      back = rest.back;
      joined = ap (λ (l : List Entry). entry ∷ l) rest.joined;
      below = (let l = borrow.Author.Tests.ltb-true stamp number early in omega (arith, l, at), rest.below);
      above = rest.above;
    })
    (λ (late : Rattle.std.specs.Prelude.nat_lt stamp number ≡ false).
    record {
      front = [];
      back = entry ∷ history;
      joined = refl;
      below = tt;
      above =
          from_lower number stamp (Rattle.std.proofs.lemmas.Bool.ltb-false stamp number late) (entry ∷ history)
          (from_legal tree stamp (entry ∷ history) legal);
    })
    (cases_Bool (Rattle.std.specs.Prelude.nat_lt stamp number))

-- what a core has of such entries
before_own : (number core : ℕ) (entries : List Entry) → AreBefore number entries → AreBefore number (core_entries core entries)
before_own number core [] below = tt
before_own number core (e ∷ entries) below =
    elim (nat_eq e.core.0 core) as (λ t. AreBefore number (cond t (e ∷ core_entries core entries) (core_entries core entries))) [
      | true ↦ (below.0, before_own number core entries below.1)
      | false ↦ before_own number core entries below.1
    ]

from_own : (number core : ℕ) (entries : List Entry) → AreFrom number entries → AreFrom number (core_entries core entries)
from_own number core [] above = tt
from_own number core (e ∷ entries) above =
    elim (nat_eq e.core.0 core) as (λ t. AreFrom number (cond t (e ∷ core_entries core entries) (core_entries core entries))) [
      | true ↦ (above.0, from_own number core entries above.1)
      | false ↦ from_own number core entries above.1
    ]

-- Two cuts of one list at one number are the same.
record IsSameCut (front back front' back' : List Entry) : Type 0 where
  fronts : front ≡ front'
  backs : back ≡ back'

one_way : (number : ℕ) (front front' back back' : List Entry) → front ++ back ≡ front' ++ back' → AreBefore number front → AreBefore number front'
    → (AreFrom number back × AreFrom number back') → IsSameCut front back front' back'
one_way number [] [] back back' same below below' above = record { fronts = refl; backs = same }
one_way number [] (e ∷ front') [] back' same below below' above = absurd (let none : [] ≡ e ∷ (front' ++ back') = same in cc (none))
one_way number [] (e ∷ front') (b ∷ back) back' same below below' above =
    let heads : b ≡ e = cc (same) in
    let high = above.0.0 in let low = below'.0 in let at = ap (λ (x : Entry). x.stamp.0) heads in absurd (omega (arith, high, low, at))
one_way number (e ∷ front) [] back [] same below below' above = absurd (let none : e ∷ (front ++ back) ≡ [] = same in cc (none))
one_way number (e ∷ front) [] back (b ∷ back') same below below' above =
    let heads : e ≡ b = cc (same) in
    let high = above.1.0 in let low = below.0 in let at = ap (λ (x : Entry). x.stamp.0) heads in absurd (omega (arith, high, low, at))
one_way number (e ∷ front) (e' ∷ front') back back' same below below' above =
    let heads : e ≡ e' = cc (same) in
    let tails : front ++ back ≡ front' ++ back' = cc (same) in
    let rest = one_way number front front' back back' tails below.1 below'.1 above in
    record { fronts = λ i. heads i ∷ rest.fronts i; backs = rest.backs }

-- The history of a phase that ran: what was there, and the phase's own part of it.
record IsPhaseAtEnd (first : TreeState) (own made : ℕ → List Entry) (history : List Entry) : Type 0 where
  front : List Entry
  back : List Entry
  joined : history ≡ front ++ back
  legal : IsLegal first front
  was : HasOwn own front
  is : HasOwn made back

parts : (Holds : ℕ → List Entry → Type 0) (first : TreeState) (own next : ℕ → List Entry) (ran : RanPhase Holds own next) (history : List Entry)
    → IsLegal first history → HasOwn next history → IsPhaseAtEnd first own ran.made history
parts Holds first own next ran history legal has =
    let two = cut ran.from first 0 history legal in
    let each : (core : ℕ) → IsSameCut (core_entries core two.front) (core_entries core two.back) (own core) (ran.made core) = λ core.
    one_way ran.from (core_entries core two.front) (own core) (core_entries core two.back) (ran.made core)
    (sym (filter-append (λ (e : Entry). nat_eq e.core.0 core) two.front two.back) ∙ (ap (core_entries core) (sym two.joined) ∙ (has core ∙ ran.grown core)))
    (before_own ran.from core two.front two.below) (ran.past core) (from_own ran.from core two.back two.above, ran.late core) in
    record {
      front = two.front;
      back = two.back;
      joined = two.joined;
      legal = legal_front first 0 two.front two.back (subst (λ h. IsLegalFrom first 0 h) two.joined legal);
      was = λ core. (each core).fronts;
      is = λ core. (each core).backs;
    }

-- nothing is left of a history where no core has an entry
none_at_all : (history : List Entry) → ((core : ℕ) → core_entries core history ≡ []) → history ≡ []
none_at_all [] none = refl
none_at_all (e ∷ history) none = absurd (shown (nat_eq e.core.0 e.core.0) (borrow.Author.Tests.eq-eqb e.core.0 e.core.0 refl) (none e.core.0))
  where
    shown : (t : Rattle.std.proofs.Common.Bool) → t ≡ true → cond t (e ∷ core_entries e.core.0 history) (core_entries e.core.0 history) ≡ [] → ⊥
    shown true is here = cc (here)
    shown false is here = cc (is)

pub made_nothing : MadeNothing
made_nothing first own none history legal has = none_at_all history (λ core. has core ∙ none core)

pub made_more : MadeMore
made_more first own next phases phase ran before history legal has =
    let two = parts (EndsPhase phase) first own next ran history legal has in
    subst (λ h. Follows (phases ++ phase ∷ []) h) (sym two.joined)
    (Follows-more phases phase two.front two.back (before two.front two.legal two.was)
    (λ core. subst (λ (made : List Entry). MakesAll (commands_of core phase) made) (sym (two.is core)) (ran.holds core)))

pub made_part : MadePart
made_part first own next phases later phase ran before history legal has =
    let two = parts (RunsPhase phase) first own next ran history legal has in
    subst (λ h. FollowsSoFar (phases ++ phase ∷ later) h) (sym two.joined)
    (FollowsSoFar-part phases phase later two.front two.back (before two.front two.legal two.was)
    (λ core. subst (λ (made : List Entry). Makes (commands_of core phase) made) (sym (two.is core)) (ran.holds core)))
