-- The fsyncs of the flights whose commits are listed.
use Rattle.std.proofs.Common.{◌≡◌, ℕ, ◌+◌, ◌<◌, Bool, true, false, cond, List, [], ◌∷◌, ◌++◌, length, map, take, get_or, inl, inr, refl, sym, ap, ◌∙◌, nat_eq}
use borrow.Author.Tests.{eqb-true, eqb-false}
use Rattle.std.specs.Prelude.{filter, ◌||◌, ◌⊎◌}
use Rattle.std.specs.List.{list_any}
use Rattle.std.proofs.lemmas.List.{take_more, map-append, append-nil}
use Rattle.std.proofs.lemmas.List.Elements.{filter-append}
use Rattle.flush_core.specs.declared.flight.InFlight.{InFlight}
use Rattle.cut_laws.specs.Rules.{IsOneOf}
use Rattle.cut_laws.specs.Machine.{Flight}
use Rattle.flush_core.specs.Flights.{flight_as}
use Rattle.flush_core.specs.State.{kept_flushes}
use Rattle.sfs_base.proofs.BasicTruth.{not_both}

-- whether a flight's commit is listed
abbrev pub is_kept : List ℕ → Flight → Bool
is_kept kept flight = list_any (λ commit. nat_eq commit flight.commit) kept

module _ (flights : List InFlight) (kept : List ℕ) (i : ℕ) (flight : InFlight) (less : i < length flights) (is : flight ≡ get_or flights i flight) where
  more : kept_flushes (map flight_as (take (i + 1) flights)) kept
      ≡ kept_flushes (map flight_as (take i flights)) kept ++ map (λ (f : Flight). f.flush) (filter (is_kept kept) (flight_as flight ∷ []))
  more =
      ap (λ l. kept_flushes (map flight_as l) kept) (take_more flights i flight less ∙ ap (λ f. take i flights ++ f ∷ []) (sym is))
      ∙ ap (λ l. kept_flushes l kept) (map-append flight_as (take i flights) (flight ∷ []))
      ∙ ap (map (λ (f : Flight). f.flush)) (filter-append (is_kept kept) (map flight_as (take i flights)) (flight_as flight ∷ []))
      ∙ map-append (λ (f : Flight). f.flush) (filter (is_kept kept) (map flight_as (take i flights))) (filter (is_kept kept) (flight_as flight ∷ []))

  pub kept_more : list_any (λ commit. nat_eq commit flight.commit) kept ≡ true
      → kept_flushes (map flight_as (take (i + 1) flights)) kept ≡ kept_flushes (map flight_as (take i flights)) kept ++ (flight_as flight).flush ∷ []
  kept_more in_list =
      more ∙ ap (λ b. kept_flushes (map flight_as (take i flights)) kept ++ map (λ (f : Flight). f.flush) (cond b (flight_as flight ∷ []) [])) in_list

  pub kept_same : list_any (λ commit. nat_eq commit flight.commit) kept ≡ false
      → kept_flushes (map flight_as (take (i + 1) flights)) kept ≡ kept_flushes (map flight_as (take i flights)) kept
  kept_same out =
      more ∙ ap (λ b. kept_flushes (map flight_as (take i flights)) kept ++ map (λ (f : Flight). f.flush) (cond b (flight_as flight ∷ []) [])) out
      ∙ append-nil (kept_flushes (map flight_as (take i flights)) kept)

-- a number that is looked for in a list is one of it, or is not
pub listed_one : (numbers : List ℕ) (number : ℕ) → list_any (λ n. nat_eq n number) numbers ≡ true → IsOneOf numbers number
listed_one [] number e = cc
listed_one (n ∷ numbers) number e =
    elim (nat_eq n number) as (λ b. nat_eq n number ≡ b → (b || list_any (λ m. nat_eq m number) numbers) ≡ true → (n ≡ number) ⊎ IsOneOf numbers number) [
      | true ↦ λ t _. inl (eqb-true _ _ t)
      | false ↦ λ _ rest. inr (listed_one numbers number rest)
    ] refl e

pub not_listed : (numbers : List ℕ) (number : ℕ) → list_any (λ n. nat_eq n number) numbers ≡ false → IsOneOf numbers number → ⊥
not_listed [] number e one = one
not_listed (n ∷ numbers) number e one = elim (nat_eq n number) as (λ b. nat_eq n number ≡ b → (b || list_any (λ m. nat_eq m number) numbers) ≡ false → ⊥) [
  | true ↦ λ _ f. not_both refl f
  | false ↦ λ t rest. elim one [ inl same ↦ eqb-false _ _ t same | inr later ↦ not_listed numbers number rest later ]
] refl e
