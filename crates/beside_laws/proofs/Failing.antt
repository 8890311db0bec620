-- The machine takes that a commit is left in doubt, and a crash that keeps any opened ones.
use Rattle.std.proofs.Common.{◌≡◌, ℕ, Bool, true, false, cond, not, nat_eq, List, [], ◌∷◌, ◌++◌, map, filter, Option, Some, None, inl, inr, refl, sym, ap, subst, ◌∙◌}
use Rattle.std.specs.List.{find, list_any}
use Rattle.sfs_base.specs.Lists.{Roomy}
use Rattle.sfs_base.proofs.BasicTruth.{false_not_true}
use Rattle.cut_laws.specs.declared.event.Event.TheVariants as event
use Rattle.cut_laws.specs.declared.event.Refused.{Refused}
use Rattle.cut_laws.specs.declared.event.Refused.TheVariants as refused
use Rattle.cut_laws.specs.Machine.{Flight, Refuses, is_flying, is_opened}
use Rattle.cut_laws.specs.Closure.{every_entry, AreRaised}
use Rattle.cut_laws.specs.Rules.{IsOneOf}
use Rattle.cut_laws.proofs.Basics.{in_right}
use Rattle.beside_laws.specs.Commits.{CoreCommit, commit_fsync}
use Rattle.beside_laws.specs.Failure.{machine_in_doubt, LeavesInDoubt, CommitsFail, flown_with, AreOpened, CrashKeeps, CrashesKeep}
use Rattle.beside_laws.specs.Laws.{HaveOtherNumbers}
use Rattle.beside_laws.specs.Steps.{Flown, flight_of_flown, commits_of, RecordPlace, open_at, IsMidst, IsLegalRun}
use Rattle.beside_laws.proofs.Kept.{ready_raise}
use Rattle.beside_laws.proofs.Stepping.{ready_among, none_missing, flies, is_open}

-- one of a list stands between those before it and those behind it
pub stands_between : {X : Type 0} (xs : List X) (x : X) → IsOneOf xs x → (before : List X) × (behind : List X) × (xs ≡ before ++ x ∷ behind)
stands_between [] x one = absurd one
stands_between {X} (first ∷ xs) x one = elim one [
  | inl same ↦ ([], xs, ap (λ (y : X). y ∷ xs) same)
  | inr more ↦ let rest = stands_between xs x more in (first ∷ rest.0, rest.1, ap (λ l. first ∷ l) rest.2)
]

-- One that flies: the machine has its flight, and whether it was opened.
module _ (place : RecordPlace) (midst : IsMidst place) (failed : Option ℕ) where
  abbrev Told : Flown → Type 0
  Told flown =
      (is_flying (machine_in_doubt place failed) flown.commit.number ≡ true)
      × (is_opened (machine_in_doubt place failed) flown.commit.number ≡ flown.opened)

  told : (flown : Flown) → IsOneOf place.flying flown → Told flown
  told flown one =
      let between = stands_between place.flying flown one in
      let there = subst (λ (l : List Flown). IsMidst (record place { flying = l })) between.2 midst in
      subst (λ (l : List Flown).
      (is_flying (machine_in_doubt (record place { flying = l }) failed) flown.commit.number ≡ true)
      × (is_opened (machine_in_doubt (record place { flying = l }) failed) flown.commit.number ≡ flown.opened)) (sym between.2) (
        flies place.run place.waiting between.0 between.1 place.used flown.commit flown.opened there,
        is_open place.run place.waiting between.0 between.1 place.used flown.commit flown.opened there,
      )

  -- none of these numbers is one that a test finds
  none_found : (numbers : List ℕ) (test : ℕ → Bool) → ((number : ℕ) → IsOneOf numbers number → test number ≡ true)
      → find (λ number. not (test number)) numbers ≡ None
  none_found [] test all = refl
  none_found (number ∷ numbers) test all =
      ap (λ b. cond (not b) (Some number) (find (λ n. not (test n)) numbers)) (all number (inl refl))
      ∙ none_found numbers test (λ other one. all other (inr one))

no_some : {o : Option ℕ} {n : ℕ} → o ≡ None → o ≡ Some n → ⊥
no_some none some = cc

-- A commit that flies fails.
module _ (place : RecordPlace) (midst : IsMidst place) (flown : Flown) (one : IsOneOf place.flying flown) where
  free_to_fail : (failed : Option ℕ) (why : Refused) → Refuses (machine_in_doubt place failed) (event.Fail flown.commit.number) why → ⊥
  free_to_fail failed refused.Crashed h = cc
  free_to_fail failed (refused.NotNext want) h = h
  free_to_fail failed (refused.NotLegal reply) h = h
  free_to_fail failed (refused.Stopped other) h = false_not_true h.0
  free_to_fail failed (refused.Used used) h = h
  free_to_fail failed (refused.Meets met) h = h
  free_to_fail failed (refused.Late late) h = h
  free_to_fail failed (refused.NotFlying other) h =
      none_missing (is_flying (machine_in_doubt place failed) flown.commit.number) flown.commit.number other (told place midst failed flown one).0 h
  free_to_fail failed (refused.NotOpened other) h = false_not_true h.0
  free_to_fail failed (refused.AlreadyOpened other) h = h
  free_to_fail failed refused.NoMemory h = h

commits_fail_there : (place : RecordPlace) (flown : Flown) → IsOneOf place.flying flown → IsMidst place → LeavesInDoubt place flown.commit.number
commits_fail_there place flown one midst = record {
  taken = record { free = free_to_fail place midst flown one None; moves = refl };
  stopped = λ e next goes accepts. accepts.free (refused.Stopped flown.commit.number) (goes, refl);
  again = λ other there. record { free = free_to_fail place midst other there (Some flown.commit.number); moves = refl };
}

pub commits_fail : CommitsFail
commits_fail = commits_fail_there

-- the flights that a crash keeps are those of the flown commits with these numbers
kept_flights : (flying : List Flown) (numbers : List ℕ)
    → map (λ (flight : Flight). flight.flush)
    (filter (λ (flight : Flight). list_any (λ number. nat_eq number flight.commit) numbers) (map flight_of_flown flying))
    ≡ map commit_fsync (commits_of (filter (λ (flown : Flown). list_any (λ number. nat_eq number flown.commit.number) numbers) flying))
kept_flights [] numbers = refl
kept_flights (flown ∷ flying) numbers =
    by (list_any (λ number. nat_eq number flown.commit.number) numbers)
    (filter (λ (flight : Flight). list_any (λ number. nat_eq number flight.commit) numbers) (map flight_of_flown flying))
    (filter (λ (other : Flown). list_any (λ number. nat_eq number other.commit.number) numbers) flying) (kept_flights flying numbers)
  where
    by : (b : Bool) (flights : List Flight) (rest : List Flown) → map (λ (flight : Flight). flight.flush) flights ≡ map commit_fsync (commits_of rest)
        → map (λ (flight : Flight). flight.flush) (cond b (flight_of_flown flown ∷ flights) flights)
        ≡ map commit_fsync (commits_of (cond b (flown ∷ rest) rest))
    by true flights rest is = ap (λ l. commit_fsync flown.commit ∷ l) is
    by false flights rest is = is

-- those that a test leaves of some are among them
among : {X : Type 0} (test : X → Bool) (flying : List X) (f : X → CoreCommit) (commit : CoreCommit) → IsOneOf (map f (filter test flying)) commit
    → IsOneOf (map f flying) commit
among test [] f commit one = one
among {X} test (flown ∷ flying) f commit one = by (test flown) (λ more. among test flying f commit more) one
  where
    by : (b : Bool) → (IsOneOf (map f (filter test flying)) commit → IsOneOf (map f flying) commit)
        → IsOneOf (map f (cond b (flown ∷ filter test flying) (filter test flying))) commit → IsOneOf (map f (flown ∷ flying)) commit
    by true rest there = elim there [
      | inl same ↦ inl same
      | inr more ↦ inr (rest more)
    ]
    by false rest there = inr (rest there)

-- and have different numbers where all have
once_among : (test : Flown → Bool) (flying : List Flown) → HaveOtherNumbers (commits_of flying) → HaveOtherNumbers (commits_of (filter test flying))
once_among test [] once = once
once_among test (flown ∷ flying) once = by (test flown) (once_among test flying once.1)
  where
    by : (b : Bool) → HaveOtherNumbers (commits_of (filter test flying))
        → HaveOtherNumbers (commits_of (cond b (flown ∷ filter test flying) (filter test flying)))
    by true rest = (λ other one. once.0 other (among test flying (λ (f : Flown). f.commit) other one), rest)
    by false rest = rest

once_behind : (waiting flying : List CoreCommit) → HaveOtherNumbers (waiting ++ flying) → HaveOtherNumbers flying
once_behind [] flying once = once
once_behind (commit ∷ waiting) flying once = once_behind waiting flying once.1

-- A crash keeps opened ones.
module _ (place : RecordPlace) (failed : Option ℕ) (kept : Roomy ℕ) (run_is : IsLegalRun place.run) (midst : IsMidst place)
    (opened : AreOpened place kept.items) where
  flying_all : (number : ℕ) → IsOneOf kept.items number → is_flying (machine_in_doubt place failed) number ≡ true
  flying_all number one =
      let flown = opened number one in
      subst (λ n. is_flying (machine_in_doubt place failed) n ≡ true) flown.2 (told place midst failed flown.0 flown.1).0

  opened_all : (number : ℕ) → IsOneOf kept.items number → is_opened (machine_in_doubt place failed) number ≡ true
  opened_all number one =
      let flown = opened number one in
      subst (λ n. is_opened (machine_in_doubt place failed) n ≡ true) flown.2 ((told place midst failed flown.0 flown.1).1 ∙ flown.3)

  free_to_crash : (why : Refused) → Refuses (machine_in_doubt place failed) (event.Crash kept) why → ⊥
  free_to_crash refused.Crashed h = cc
  free_to_crash (refused.NotNext want) h = h
  free_to_crash (refused.NotLegal reply) h = h
  free_to_crash (refused.Stopped other) h = false_not_true h.0
  free_to_crash (refused.Used used) h = h
  free_to_crash (refused.Meets met) h = h
  free_to_crash (refused.Late late) h = h
  free_to_crash (refused.NotFlying other) h =
      no_some (none_found place midst failed kept.items (is_flying (machine_in_doubt place failed)) flying_all) h
  free_to_crash (refused.NotOpened other) h =
      no_some (none_found place midst failed kept.items (is_opened (machine_in_doubt place failed)) opened_all) h.1
  free_to_crash (refused.AlreadyOpened other) h = h
  free_to_crash refused.NoMemory h = h

  crash_keeps : CrashKeeps place failed kept
  crash_keeps =
      let commits = commits_of (flown_with place kept.items) in
      let ready =
      ready_among place.run (open_at place) commits
      (λ other one. in_right place.waiting (commits_of place.flying) other
      (among (λ (f : Flown). list_any (λ number. nat_eq number f.commit.number) kept.items) place.flying (λ (f : Flown). f.commit) other one))
      (once_among (λ (f : Flown). list_any (λ number. nat_eq number f.commit.number) kept.items) place.flying
      (once_behind place.waiting (commits_of place.flying) midst.ready.once)) midst.ready in
      let all = ready_raise place.run commits run_is.sound run_is.legal midst.standing ready in
      record {
        cut = all.cut;
        inodes = all.inodes;
        taken = record {
          free = free_to_crash;
          moves = (
            record (machine_in_doubt place failed) { cut = all.cut; inodes = all.inodes },
            record {
              raised = subst (λ l. AreRaised place.run.first place.run.history every_entry place.run.cut place.run.inodes l all.cut all.inodes)
                  (sym (kept_flights place.flying kept.items)) all.raised;
              others = refl;
            },
            refl,
          );
        };
        stands = all.stands;
      }

pub crashes_keep : CrashesKeep
crashes_keep place failed kept run_is midst opened = crash_keeps place failed kept run_is midst opened
