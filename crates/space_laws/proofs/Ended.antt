-- A row of numbers in which a grant has ended.
use Rattle.std.proofs.Common.{◌≡◌, ℕ, Bool, true, false, cond, List, Option, Some, None, option_map, refl, sym, ap, ◌∙◌}
use Rattle.sfs_base.proofs.BasicOptions.{none_some, some_same}
use Rattle.sfs_base.specs.Listed.{is_listed}
use Rattle.space_map.specs.Pool.{Pool, status_of, released, Ends}
use Rattle.space_map.specs.declared.status.Status.{Status}
use Rattle.space_map.specs.declared.status.Status.TheVariants.{Free, Taken, Granted}
use Rattle.space_laws.specs.Map.{IsRowOf}

-- What is held later than a grant's end: what was held and was not listed as freed, and the grant's numbers.
pub record HoldsLater (held later : ℕ → Type 0) (granted freed : List ℕ) : Type 0 where
  pub kept : (number : ℕ) → later number → is_listed granted number ≡ false → held number × (is_listed freed number ≡ false)
  pub still : (number : ℕ) → held number → is_listed freed number ≡ false → later number
  pub used : (number : ℕ) → is_listed granted number ≡ true → later number

-- no number is taken by being released
never_taken : (status : Status) → released status ≡ Taken → ⊥
never_taken Free e = cc
never_taken Taken e = cc
never_taken Granted e = cc

module _ (first end : ℕ) (held later : ℕ → Type 0) (old new : Pool) (granted freed : List ℕ) (row : IsRowOf first end held old)
    (ends : Ends granted freed old new) (holds : HoldsLater held later granted freed) where
  abbrev ended : ℕ → Bool → Bool → Option Status
  ended number g f = cond g (option_map (λ _. Taken) (status_of old number)) (cond f (option_map released (status_of old number)) (status_of old number))

  -- a number has a status afterwards exactly where it had one
  came : (number : ℕ) (status : Status) (g f : Bool) → ended number g f ≡ Some status → (before : Status) × (status_of old number ≡ Some before)
  came number status g f has = by (status_of old number) refl g f has
    where
      by : (o : Option Status) → status_of old number ≡ o → (g f : Bool) → cond g (option_map (λ _. Taken) o) (cond f (option_map released o) o) ≡ Some status
          → (before : Status) × (status_of old number ≡ Some before)
      by (Some before) e g f has = (before, e)
      by None e true f has = absurd (none_some has)
      by None e false true has = absurd (none_some has)
      by None e false false has = absurd (none_some has)

  goes : (number : ℕ) (before : Status) → status_of old number ≡ Some before → (g f : Bool) → (status : Status) × (ended number g f ≡ Some status)
  goes number before e true f = (Taken, ap (option_map (λ _. Taken)) e)
  goes number before e false true = (released before, ap (option_map released) e)
  goes number before e false false = (before, e)

  taken : (number : ℕ) (status : Status) → later number → (g f : Bool) → is_listed granted number ≡ g → is_listed freed number ≡ f
      → ended number g f ≡ Some status → status ≡ Taken
  taken number status is true f g_is f_is has =
      let before = came number status true f has in
      some_same (sym has ∙ ap (option_map (λ _. Taken)) before.1)
  taken number status is false true g_is f_is has = absurd (let kept = (holds.kept number is g_is).1 in let never : true ≡ false = sym f_is ∙ kept in cc)
  taken number status is false false g_is f_is has = row.held_is_taken number status has (holds.kept number is g_is).0

  left : (number : ℕ) (g f : Bool) → is_listed granted number ≡ g → is_listed freed number ≡ f → ended number g f ≡ Some Taken → later number
  left number true f g_is f_is has = holds.used number g_is
  left number false true g_is f_is has =
      let before = came number Taken false true has in
      absurd (never_taken before.0 (some_same (ap (option_map released) (sym before.1) ∙ has)))
  left number false false g_is f_is has = holds.still number (row.taken_is_held number has) f_is

  pub ends_right : IsRowOf first end later new
  ends_right = record {
    all = λ number low high.
        let before = row.all number low high in
        let after = goes number before.0 before.1 (is_listed granted number) (is_listed freed number) in
        (after.0, ends number ∙ after.1);
    within = λ number status has.
        let before = came number status (is_listed granted number) (is_listed freed number) (sym (ends number) ∙ has) in
        row.within number before.0 before.1;
    held_is_taken = λ number status has is. taken number status is (is_listed granted number) (is_listed freed number) refl refl (sym (ends number) ∙ has);
    taken_is_held = λ number has. left number (is_listed granted number) (is_listed freed number) refl refl (sym (ends number) ∙ has);
  }
