-- A history is filled with the answers that its cores know.
use Rattle.std.proofs.Common.{◌≡◌, ℕ, ◌<◌, ◌==◌, true, false, List, [], ◌∷◌, map, filter, sym, refl, ap, ◌∙◌, subst, ⊎_elim, eq-eqb}
use Rattle.std.specs.Prelude.{if◌then◌else◌}
use Rattle.std.proofs.lemmas.Bool.{cases_Bool, eqb-true}
use Rattle.sfs_base.specs.declared.numbers.CoreId.{CoreId}
use Rattle.tree_laws.specs.Merged.{is_core}
use Rattle.tree_laws.specs.declared.history.Entry.{Entry}
use Rattle.stamp_table.specs.Answered.{unanswered, IsWellAnswered, AreWellAnswered}
use Rattle.stamp_table.proofs.Answered.{same_call}

-- entries are of the first cores, so many of them
abbrev pub AreOfCores : ℕ → List Entry → Type 0
AreOfCores cores [] = Unit {0}
AreOfCores cores (entry ∷ history) = (entry.core.0 < cores) × AreOfCores cores history

-- what each core has are its entries of a history but for their answers, which they may have
pub record AreOwnOf (cores : ℕ) (own : ℕ → List Entry) (history : List Entry) : Type 0 where
  pub same : (core : ℕ) → core < cores → map unanswered (own core) ≡ map unanswered (filter (is_core core) history)
  pub well : (core : ℕ) → core < cores → AreWellAnswered (own core)

-- the history with the answers that the cores have
pub record IsFilled (cores : ℕ) (own : ℕ → List Entry) (history filled : List Entry) : Type 0 where
  pub same : map unanswered filled ≡ map unanswered history
  pub own_are : (core : ℕ) → core < cores → filter (is_core core) filled ≡ own core
  pub well : AreWellAnswered filled

-- a list that is another but for its answers begins as that does
record Begins (entries : List Entry) (entry : Entry) (rest : List Entry) : Type 0 where
  first : Entry
  others : List Entry
  entries_are : entries ≡ first ∷ others
  same : unanswered first ≡ unanswered entry
  same_rest : map unanswered others ≡ map unanswered rest

begins : (entries : List Entry) (entry : Entry) (rest : List Entry) → map unanswered entries ≡ map unanswered (entry ∷ rest) → Begins entries entry rest
begins [] entry rest same = absurd (cc)
begins (e ∷ entries) entry rest same = record { first = e; others = entries; entries_are = refl; same = cc (same); same_rest = cc (same) }

none : (entries : List Entry) → map unanswered entries ≡ [] → entries ≡ []
none [] same = refl
none (e ∷ entries) same = absurd (cc)

module _ (cores : ℕ) where
  -- what is left of each core's entries once the first of one core is taken
  abbrev left : ℕ → List Entry → (ℕ → List Entry) → ℕ → List Entry
  left core others own other = if core == other then others else own other

  module _ (entry : Entry) (history : List Entry) (own : ℕ → List Entry) (known : entry.core.0 < cores) (are : AreOwnOf cores own (entry ∷ history)) where
    first_of : Begins (own entry.core.0) entry (filter (is_core entry.core.0) history)
    first_of =
        begins (own entry.core.0) entry (filter (is_core entry.core.0) history) (are.same entry.core.0 known ∙ rw (eq-eqb entry.core.0 entry.core.0 refl) refl)

    well_first : IsWellAnswered first_of.first × AreWellAnswered first_of.others
    well_first = subst AreWellAnswered first_of.entries_are (are.well entry.core.0 known)

    left_are : AreOwnOf cores (left entry.core.0 first_of.others own) history
    left_are = record {
      same = λ core lt. ⊎_elim
          (λ is. let here : entry.core.0 ≡ core = eqb-true entry.core.0 core is in
          rw is (first_of.same_rest ∙ ap (λ c. map unanswered (filter (is_core c) history)) here))
          (λ not. rw not (are.same core lt ∙ rw not refl)) (cases_Bool (entry.core.0 == core));
      well = λ core lt. ⊎_elim (λ is. rw is well_first.1) (λ not. rw not (are.well core lt)) (cases_Bool (entry.core.0 == core));
    }

    filled_more : (filled : List Entry) → IsFilled cores (left entry.core.0 first_of.others own) history filled
        → IsFilled cores own (entry ∷ history) (first_of.first ∷ filled)
    filled_more filled is_filled =
        let same_core : first_of.first.core.0 ≡ entry.core.0 = ap (λ (c : CoreId). c.0) (same_call first_of.first entry first_of.same).core in
        record {
          same = (λ i. first_of.same i ∷ is_filled.same i);
          own_are = λ core lt. ⊎_elim
              (λ is.
              let here : entry.core.0 ≡ core = eqb-true entry.core.0 core is in
              let mine : (first_of.first.core.0 == core) ≡ true = eq-eqb first_of.first.core.0 core (same_core ∙ here) in
              rw mine (ap (λ l. first_of.first ∷ l) (is_filled.own_are core lt ∙ rw is refl) ∙ (sym first_of.entries_are ∙ ap own here)))
              (λ not.
              let mine : (first_of.first.core.0 == core) ≡ false = ap (λ c. c == core) same_core ∙ not in
              rw mine (is_filled.own_are core lt ∙ rw not refl)) (cases_Bool (entry.core.0 == core));
          well = (well_first.0, is_filled.well);
        }

  -- what the cores have fills the history
  pub fills : (history : List Entry) (own : ℕ → List Entry) → AreOfCores cores history → AreOwnOf cores own history
      → (filled : List Entry) × IsFilled cores own history filled
  fills [] own known are = ([], record { same = refl; own_are = λ core lt. sym (none (own core) (are.same core lt)); well = tt })
  fills (entry ∷ history) own known are =
      let rest = fills history (left entry.core.0 (first_of entry history own known.0 are).others own) known.1 (left_are entry history own known.0 are) in
      ((first_of entry history own known.0 are).first ∷ rest.0, filled_more entry history own known.0 are rest.0 rest.1)
