-- Lists of commits with different numbers, and their flights.
use Rattle.std.proofs.Common.{◌≡◌, ◌≢◌, ℕ, true, false, cond, not, ◌||◌, nat_eq, List, [], ◌∷◌, ◌++◌, map, filter, Some, inl, inr, refl, sym, ap, ◌∙◌}
use Rattle.std.specs.List.{find}
use Rattle.sfs_base.proofs.BasicNumbers.{same_number, not_same}
use Rattle.cut_laws.specs.Machine.{Flight, opened_for}
use Rattle.cut_laws.specs.Rules.{IsOneOf}
use Rattle.sfs_base.proofs.BasicTruth.{or_false}
use Rattle.beside_laws.specs.Commits.{CoreCommit}
use Rattle.beside_laws.specs.Laws.{HaveOtherNumbers}
use Rattle.beside_laws.specs.Steps.{Flown, flight_of_flown, commits_of}
use Rattle.beside_laws.proofs.Boxes.{put_back, taken, last_or}

-- no commit of a list has a number
abbrev pub NoneHas : List CoreCommit → ℕ → Type 0
NoneHas commits number = (other : CoreCommit) → IsOneOf commits other → other.number ≢ number

-- one that is taken out has another number than those that stay
pub taken_out : (before behind : List CoreCommit) (commit : CoreCommit) → HaveOtherNumbers (before ++ commit ∷ behind)
    → NoneHas (before ++ behind) commit.number × HaveOtherNumbers (before ++ behind)
taken_out [] behind commit once = once
taken_out (first ∷ before) behind commit once =
    let rest = taken_out before behind commit once.1 in (
      λ other one. elim one [
        | inl same ↦ λ number. once.0 commit (taken before behind commit) (sym (ap (λ (c : CoreCommit). c.number) same ∙ number))
        | inr more ↦ rest.0 other more
      ],
      (λ other one. once.0 other (put_back before behind commit other one), rest.1),
    )

-- one that has another number than all may stand behind them
pub put_last : (commits : List CoreCommit) (commit : CoreCommit) → NoneHas commits commit.number → HaveOtherNumbers commits
    → HaveOtherNumbers (commits ++ commit ∷ [])
put_last [] commit other once = (λ third none. absurd none, tt)
put_last (first ∷ commits) commit other once = (
  λ third one. elim (last_or commits commit third one) [
    | inl there ↦ once.0 third there
    | inr same ↦ λ number. other first (inl refl) (sym (ap (λ (c : CoreCommit). c.number) (sym same) ∙ number))
  ],
  put_last commits commit (λ third one. other third (inr one)) once.1,
)

-- a flown commit's number, for a test by a number
apart : (flown : Flown) (number : ℕ) → flown.commit.number ≢ number → nat_eq flown.commit.number number ≡ false
apart flown number other = not_same _ _ other

-- a flight is found by its number
pub found_flight : (before behind : List Flown) (flown : Flown) → NoneHas (commits_of before) flown.commit.number
    → find (λ (flight : Flight). nat_eq flight.commit flown.commit.number) (map flight_of_flown (before ++ flown ∷ behind)) ≡ Some (flight_of_flown flown)
found_flight [] behind flown other =
    ap (λ b. cond b (Some (flight_of_flown flown)) (find (λ (flight : Flight). nat_eq flight.commit flown.commit.number) (map flight_of_flown behind)))
    (same_number flown.commit.number)
found_flight (first ∷ before) behind flown other =
    ap (λ b. cond b (Some (flight_of_flown first))
    (find (λ (flight : Flight). nat_eq flight.commit flown.commit.number) (map flight_of_flown (before ++ flown ∷ behind))))
    (apart first flown.commit.number (other first.commit (inl refl)))
    ∙ found_flight before behind flown (λ third one. other third (inr one))

-- flights of other numbers stay as they are where one is opened
others_unopened : (flying : List Flown) (number : ℕ) → NoneHas (commits_of flying) number
    → map (opened_for number) (map flight_of_flown flying) ≡ map flight_of_flown flying
others_unopened [] number other = refl
others_unopened (first ∷ flying) number other =
    ap (λ (f : Flight). f ∷ map (opened_for number) (map flight_of_flown flying))
    (ap (λ b. record (flight_of_flown first) { opened = b })
    (ap (λ b. first.opened || b) (apart first number (other first.commit (inl refl))) ∙ or_false first.opened))
    ∙ ap (λ l. flight_of_flown first ∷ l) (others_unopened flying number (λ third one. other third (inr one)))

pub opened_flights : (before behind : List Flown) (commit : CoreCommit) → NoneHas (commits_of before) commit.number
    → NoneHas (commits_of behind) commit.number
    → map (opened_for commit.number) (map flight_of_flown (before ++ record { commit = commit; opened = false } ∷ behind))
    ≡ map flight_of_flown (before ++ record { commit = commit; opened = true } ∷ behind)
opened_flights [] behind commit earlier later =
    ap (λ b. (let f : Flight = record (flight_of_flown (record { commit = commit; opened = false })) { opened = b } in f)
    ∷ map (opened_for commit.number) (map flight_of_flown behind)) (same_number commit.number)
    ∙ ap (λ l. flight_of_flown (record { commit = commit; opened = true }) ∷ l) (others_unopened behind commit.number later)
opened_flights (first ∷ before) behind commit earlier later =
    ap (λ (f : Flight). f ∷ map (opened_for commit.number) (map flight_of_flown (before ++ record { commit = commit; opened = false } ∷ behind)))
    (ap (λ b. record (flight_of_flown first) { opened = b })
    (ap (λ b. first.opened || b) (apart first commit.number (earlier first.commit (inl refl))) ∙ or_false first.opened))
    ∙ ap (λ l. flight_of_flown first ∷ l) (opened_flights before behind commit (λ third one. earlier third (inr one)) later)

-- flights of other numbers stay where one is taken away
others_stay_flying : (flying : List Flown) (number : ℕ) → NoneHas (commits_of flying) number
    → filter (λ (flight : Flight). not (nat_eq flight.commit number)) (map flight_of_flown flying) ≡ map flight_of_flown flying
others_stay_flying [] number other = refl
others_stay_flying (first ∷ flying) number other =
    ap (λ b. cond (not b) (flight_of_flown first ∷ filter (λ (flight : Flight). not (nat_eq flight.commit number)) (map flight_of_flown flying))
    (filter (λ (flight : Flight). not (nat_eq flight.commit number)) (map flight_of_flown flying)))
    (apart first number (other first.commit (inl refl)))
    ∙ ap (λ l. flight_of_flown first ∷ l) (others_stay_flying flying number (λ third one. other third (inr one)))

pub left_flights : (before behind : List Flown) (flown : Flown) → NoneHas (commits_of before) flown.commit.number
    → NoneHas (commits_of behind) flown.commit.number
    → filter (λ (flight : Flight). not (nat_eq flight.commit flown.commit.number)) (map flight_of_flown (before ++ flown ∷ behind))
    ≡ map flight_of_flown (before ++ behind)
left_flights [] behind flown earlier later =
    ap (λ b. cond (not b)
    (flight_of_flown flown ∷ filter (λ (flight : Flight). not (nat_eq flight.commit flown.commit.number)) (map flight_of_flown behind))
    (filter (λ (flight : Flight). not (nat_eq flight.commit flown.commit.number)) (map flight_of_flown behind))) (same_number flown.commit.number)
    ∙ others_stay_flying behind flown.commit.number later
left_flights (first ∷ before) behind flown earlier later =
    ap (λ b. cond (not b)
    (flight_of_flown first ∷ filter (λ (flight : Flight). not (nat_eq flight.commit flown.commit.number)) (map flight_of_flown (before ++ flown ∷ behind)))
    (filter (λ (flight : Flight). not (nat_eq flight.commit flown.commit.number)) (map flight_of_flown (before ++ flown ∷ behind))))
    (apart first flown.commit.number (earlier first.commit (inl refl)))
    ∙ ap (λ l. flight_of_flown first ∷ l) (left_flights before behind flown (λ third one. earlier third (inr one)) later)
