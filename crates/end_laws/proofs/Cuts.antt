-- What commits have left of a node is what the last of them that holds it did.
use Rattle.std.specs.Option.{option_map_or}
use Rattle.std.proofs.Common.{◌≡◌, ◌∷◌, ◌≤◌, ◌∙◌, if◌then◌else◌, List, ℕ, Option, false, None, Some, true, inl, refl, subst, arith, inr, ap, nat_le, Bool, leb-true, leb-false, sym, map, []}
use Rattle.sfs_base.proofs.BasicTruth.{not_both}
use Rattle.cut_laws.specs.Rules.{IsOneOf}
use Rattle.beside_laws.specs.Commits.{CoreCommit, has_inode_behind}
use Rattle.beside_laws.specs.Progress.{IsLastOf, HasLeft, Left, nobody, somebody}
use Rattle.beside_laws.proofs.Ruled.{left_once}
use Rattle.end_laws.specs.Cuts.{Lift, lift_of, later_lift, last_lift, cuts_left}

-- The last commit of a list that holds a node, where one does.
data LastLift (done : List CoreCommit) (node : ℕ) : Option Lift → Type 0 where
  none_holds : ((other : CoreCommit) → IsOneOf done other → other.holds node ≡ false) → LastLift done node None
  one_holds : (commit : CoreCommit) → IsLastOf done node commit → LastLift done node (Some (lift_of commit))

module _ (node : ℕ) (first : CoreCommit) (rest : List CoreCommit) where
  -- none of those behind it holds the node, or one does
  first_alone : first.holds node ≡ true → ((other : CoreCommit) → IsOneOf rest other → other.holds node ≡ false) → IsLastOf (first ∷ rest) node first
  first_alone held none = record {
    among = inl refl;
    held = held;
    latest = λ other one holds. elim one [
      | inl same ↦ subst (λ (c : CoreCommit). c.number ≤ first.number) same (omega arith)
      | inr more ↦ absurd (not_both holds (none other more))
    ];
  }

  first_later : first.holds node ≡ true → (last : CoreCommit) → IsLastOf rest node last → last.number ≤ first.number → IsLastOf (first ∷ rest) node first
  first_later held last is low = record {
    among = inl refl;
    held = held;
    latest = λ other one holds. elim one [
      | inl same ↦ subst (λ (c : CoreCommit). c.number ≤ first.number) same (omega arith)
      | inr more ↦ let less = is.latest other more holds in omega (arith, less, low)
    ];
  }

  still_last : (last : CoreCommit) → IsLastOf rest node last → (first.holds node ≡ true → first.number ≤ last.number) → IsLastOf (first ∷ rest) node last
  still_last last is low = record {
    among = inr is.among;
    held = is.held;
    latest = λ other one holds. elim one [
      | inl same ↦ subst (λ (c : CoreCommit). c.number ≤ last.number) same (low (ap (λ (c : CoreCommit). c.holds node) same ∙ holds))
      | inr more ↦ is.latest other more holds
    ];
  }

  -- the greater number of two
  by_number : first.holds node ≡ true → (last : CoreCommit) → IsLastOf rest node last
      → LastLift (first ∷ rest) node (Some (if nat_le last.number first.number then lift_of first else lift_of last))
  by_number held last is = by (nat_le last.number first.number) refl
    where
      by : (b : Bool) → nat_le last.number first.number ≡ b → LastLift (first ∷ rest) node (Some (if b then lift_of first else lift_of last))
      by true low = one_holds first (first_later held last is (leb-true last.number first.number low))
      by false high = one_holds last (still_last last is (λ _. let above = leb-false last.number first.number high in omega (arith, above)))

  next_lift : (b : Bool) → first.holds node ≡ b → (o : Option Lift) → LastLift rest node o
      → LastLift (first ∷ rest) node (if b then Some (later_lift (lift_of first) o) else o)
  next_lift true held None (none_holds none) = one_holds first (first_alone held none)
  next_lift true held (Some _) (one_holds last is) = by_number held last is
  next_lift false free None (none_holds none) = none_holds (λ other one. elim one [
    | inl same ↦ ap (λ (c : CoreCommit). c.holds node) (sym same) ∙ free
    | inr more ↦ none other more
  ])
  next_lift false free (Some _) (one_holds last is) = one_holds last (still_last last is (λ held. absurd (not_both held free)))

last_is : (node : ℕ) (done : List CoreCommit) → LastLift done node (last_lift node (map lift_of done))
last_is node [] = none_holds (λ other never. absurd never)
last_is node (first ∷ rest) = next_lift node first rest (first.holds node) refl (last_lift node (map lift_of rest)) (last_is node rest)

-- so it has left this
left_so : (done : List CoreCommit) (node : ℕ) (at_first : Bool) (o : Option Lift) → LastLift done node o
    → (inode : Bool) × HasLeft done node at_first (record { stamp = option_map_or (λ (lift : Lift). lift.lifted node) o 0; inode = inode })
left_so done node at_first None (none_holds none) = (at_first, nobody none refl refl)
left_so done node at_first (Some _) (one_holds commit is) = (has_inode_behind commit node, somebody commit is refl refl)

-- and whatever they left is that
pub cuts_are_left : (done : List CoreCommit) (node : ℕ) (at_first : Bool) (left : Left)
    → ((one two : CoreCommit) → IsOneOf done one → IsOneOf done two → one.number ≡ two.number → one ≡ two) → HasLeft done node at_first left
    → cuts_left (map lift_of done) node ≡ left.stamp
cuts_are_left done node at_first left numbered has =
    let so = left_so done node at_first (last_lift node (map lift_of done)) (last_is node done) in
    (left_once done node at_first (record { stamp = cuts_left (map lift_of done) node; inode = so.0 }) left numbered so.1 has).0
