-- Where a node was made, by a history's births.
use Rattle.std.proofs.Common.{◌≡◌, ◌∷◌, ◌∙◌, ◌≤◌, ◌↔◌, ℕ, List, find, nat_eq, Some, [], refl, Bool, true, ap, cond, sym, inl, subst, eqb-true, false, inr, eq-eqb, None, arith, Option, option_map}
use Rattle.sfs_base.proofs.BasicOptions.{some_same}
use Rattle.sfs_base.proofs.BasicTruth.{not_both}
use Rattle.tree_laws.specs.Effect.{Adds}
use Rattle.tree_laws.specs.Tree.{TreeState}
use Rattle.tree_laws.specs.declared.history.Entry.{Entry}
use Rattle.tree_laws.specs.Laws.{IsSoundTree}
use Rattle.tree_laws.specs.History.{IsLegal}
use Rattle.tree_laws.specs.Changes.{added}
use Rattle.cut_laws.specs.Rules.{Birth, IsOneOf, births_of}
use Rattle.cut_laws.proofs.Commit.{birth_at}
use Rattle.cut_laws.proofs.Prefixes.{born_by}
use Rattle.cut_laws.proofs.Along.{change_in, effect_at}
use Rattle.cut_laws.proofs.Basics.{none_some}
use Rattle.mem_values.specs.Logs.{birthplace}

-- what is found by a node is one of the births and of that node
found_one : (node : ℕ) (births : List Birth) (birth : Birth) → find (λ (b : Birth). nat_eq b.node node) births ≡ Some birth
    → IsOneOf births birth × (birth.node ≡ node)
found_one node [] birth is = absurd (cc is)
found_one node (first ∷ births) birth is = by (nat_eq first.node node) refl (found_one node births birth)
  where
    by : (b : Bool) → nat_eq first.node node ≡ b
        → (find (λ (x : Birth). nat_eq x.node node) births ≡ Some birth → IsOneOf births birth × (birth.node ≡ node))
        → IsOneOf (first ∷ births) birth × (birth.node ≡ node)
    by true own rest =
        let same : first ≡ birth = some_same (ap (λ b. cond b (Some first) (find (λ (x : Birth). nat_eq x.node node) births)) (sym own) ∙ is) in
        (inl same, subst (λ (b : Birth). b.node ≡ node) same (eqb-true first.node node own))
    by false other rest =
        let more = rest (ap (λ b. cond b (Some first) (find (λ (x : Birth). nat_eq x.node node) births)) (sym other) ∙ is) in (inr more.0, more.1)

-- a birth of the node is found, or one before it
is_found : (node : ℕ) (births : List Birth) (birth : Birth) → IsOneOf births birth → birth.node ≡ node
    → (other : Birth) × (find (λ (b : Birth). nat_eq b.node node) births ≡ Some other)
is_found node [] birth one same = absurd one
is_found node (first ∷ births) birth one same = by (nat_eq first.node node) refl (λ more. is_found node births birth more same) one
  where
    by : (b : Bool) → nat_eq first.node node ≡ b
        → (IsOneOf births birth → (other : Birth) × (find (λ (x : Birth). nat_eq x.node node) births ≡ Some other))
        → IsOneOf (first ∷ births) birth
        → (other : Birth) × (cond (nat_eq first.node node) (Some first) (find (λ (x : Birth). nat_eq x.node node) births) ≡ Some other)
    by true own rest here = (first, ap (λ b. cond b (Some first) (find (λ (x : Birth). nat_eq x.node node) births)) own)
    by false other rest here = elim here [
      | inl is_first ↦ absurd (not_both (eq-eqb first.node node (ap (λ (b : Birth). b.node) is_first ∙ same)) other)
      | inr more ↦ let found = rest more in
          (found.0, ap (λ b. cond b (Some first) (find (λ (x : Birth). nat_eq x.node node) births)) other ∙ found.1)
    ]

module _ (first : TreeState) (history : List Entry) (sound : IsSoundTree first) (legal : IsLegal first history) where
  abbrev HasBirth : Birth → Type 0
  HasBirth birth = IsOneOf (births_of first history) birth

  -- no node is made before or after it is made
  no_later : (one other : Birth) → HasBirth one → HasBirth other → one.node ≡ other.node → one.stamp ≤ other.stamp
  no_later one other has theirs same =
      let born = birth_at first history other legal theirs in
      born_by first history sound legal one (added other.stamp other.directory born.name other.node None) has
      (change_in first history other.stamp (added other.stamp other.directory born.name other.node None) legal (rw born.adds (inl refl))) (sym same)

  -- it is made in one directory
  one_birthplace : (one other : Birth) → HasBirth one → HasBirth other → one.node ≡ other.node → one.directory ≡ other.directory
  one_birthplace one other has theirs same =
      let born = birth_at first history one legal has in
      let other_born = birth_at first history other legal theirs in
      let early = no_later one other has theirs same in
      let late = no_later other one theirs has (sym same) in
      let stamps : one.stamp ≡ other.stamp = omega (arith, early, late) in
      same_directory (sym born.adds ∙ ap (effect_at first history) stamps ∙ other_born.adds)
    where
      same_directory : {d e : ℕ} {n m : List ℕ} {x y : ℕ} → Adds d n x ≡ Adds e m y → d ≡ e
      same_directory same = cc same

  -- so the birthplace is that of each birth
  pub birthplace_is : (node directory : ℕ) → (birthplace first history node ≡ Some directory)
      ↔ ((stamp : ℕ) × HasBirth (record { stamp = stamp; directory = directory; node = node }))
  birthplace_is node directory = (there (find (λ (b : Birth). nat_eq b.node node) (births_of first history)) refl, back)
    where
      there : (o : Option Birth) → find (λ (b : Birth). nat_eq b.node node) (births_of first history) ≡ o
          → birthplace first history node ≡ Some directory
          → (stamp : ℕ) × HasBirth (record { stamp = stamp; directory = directory; node = node })
      there None found is = absurd (none_some (ap (option_map (λ (b : Birth). b.directory)) (sym found) ∙ is))
      there (Some birth) found is =
          let one = found_one node (births_of first history) birth found in
          let place : birth.directory ≡ directory = some_same (ap (option_map (λ (b : Birth). b.directory)) (sym found) ∙ is) in
          (birth.stamp, subst (HasBirth) (λ i. record { stamp = birth.stamp; directory = place i; node = one.1 i }) one.0)

      back : (stamp : ℕ) × HasBirth (record { stamp = stamp; directory = directory; node = node }) → birthplace first history node ≡ Some directory
      back has =
          let birth : Birth = record { stamp = has.0; directory = directory; node = node } in
          let found = is_found node (births_of first history) birth has.1 refl in
          let one = found_one node (births_of first history) found.0 found.1 in
          ap (option_map (λ (b : Birth). b.directory)) found.1 ∙ ap Some (one_birthplace found.0 birth one.0 has.1 one.1)
