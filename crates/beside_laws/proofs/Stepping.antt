-- The machine takes the steps of commits that are open beside one another.
use Rattle.std.proofs.Common.{◌≡◌, ℕ, Bool, true, false, cond, not, nat_eq, List, [], ◌∷◌, ◌++◌, Option, Some, None, is_some, inl, inr, refl, sym, ap, subst, ◌∙◌, arith}
use Rattle.std.specs.List.{find}
use Rattle.std.specs.Option.{option_map_or}
use Rattle.std.proofs.lemmas.List.{append_assoc, map-append}
use Rattle.sfs_base.proofs.BasicTruth.{not_both, false_not_true}
use Rattle.cut_laws.specs.declared.event.Event.TheVariants as event
use Rattle.cut_laws.specs.declared.event.Refused.{Refused}
use Rattle.cut_laws.specs.declared.event.Refused.TheVariants as refused
use Rattle.cut_laws.specs.Closure.{none, one_more}
use Rattle.cut_laws.specs.Cut.{Cut}
use Rattle.cut_laws.specs.Machine.{Flight, Refuses, Accepts, is_flying, is_opened}
use Rattle.cut_laws.specs.Rules.{IsOneOf}
use Rattle.cut_laws.proofs.Basics.{in_left, in_right, in_either}
use Rattle.cut_laws.proofs.Listed.{from_map, to_map, listed_one}
use Rattle.look_laws.specs.Beside.{IsOfTheWhole}
use Rattle.beside_laws.specs.Commits.{CoreCommit, commit_fsync, observed_by}
use Rattle.beside_laws.specs.Laws.{AreReady, IsDoneWith, RaisesTo, HaveOtherNumbers, with_done}
use Rattle.beside_laws.specs.Progress.{Progress}
use Rattle.beside_laws.specs.Steps.{Flown, flight_of_flown, commits_of, RecordPlace, open_at, machine_amid, IsMidst, IsLegalRun, TakesEvent, begins, CommitsBegin, CommitsOpen, CommitsEnd}
use Rattle.beside_laws.proofs.Boxes.{put_back, taken, last_or}
use Rattle.beside_laws.proofs.Kept.{first_ready, rest_ready}
use Rattle.beside_laws.proofs.Numbered.{NoneHas, taken_out, put_last, found_flight, opened_flights, left_flights}
use Rattle.beside_laws.proofs.Raising.{knowing_raise, of_the_whole}

-- those that are ready are so in another order, and so are fewer
pub ready_among : (run : Progress) (from to : List CoreCommit) → ((commit : CoreCommit) → IsOneOf to commit → IsOneOf from commit) → HaveOtherNumbers to
    → AreReady run from → AreReady run to
ready_among run from to within once ready = record {
  made = λ commit one. ready.made commit (within commit one);
  knows = λ commit one. ready.knows commit (within commit one);
  finds = λ commit one. ready.finds commit (within commit one);
  later = λ commit one. ready.later commit (within commit one);
  apart = λ commit other one two. ready.apart commit other (within commit one) (within other two);
  once = once;
}

-- A commit that waits begins.
module _ (place : RecordPlace) (before behind : List CoreCommit) (commit : CoreCommit) (run_is : IsLegalRun place.run)
    (waits : place.waiting ≡ before ++ commit ∷ behind) (midst : IsMidst place) where
  abbrev flown : List CoreCommit
  flown = commits_of place.flying

  abbrev others : List CoreCommit
  others = before ++ (behind ++ flown)

  abbrev all : List CoreCommit
  all = before ++ commit ∷ (behind ++ flown)

  here : open_at place ≡ all
  here = ap (λ l. l ++ flown) waits ∙ append_assoc before (commit ∷ behind) flown

  ready : AreReady place.run all
  ready = subst (AreReady place.run) here midst.ready

  apart : NoneHas others commit.number × HaveOtherNumbers others
  apart = taken_out before (behind ++ flown) commit ready.once

  own : IsOneOf all commit
  own = taken before (behind ++ flown) commit

  flies_there : (other : CoreCommit) → IsOneOf flown other → IsOneOf others other
  flies_there other one = in_right before (behind ++ flown) other (in_right behind flown other one)

  whole : IsOfTheWhole (observed_by place.run.first place.run.history commit) place.run.cut place.run.inodes
  whole = of_the_whole place.run run_is.sound run_is.legal midst.standing commit (ready.knows commit own)

  abbrev next : RecordPlace
  next = record place {
    waiting = before ++ behind;
    flying = place.flying ++ record { commit = commit; opened = false } ∷ [];
    used = place.used ++ commit.number ∷ [];
  }

  there : open_at next ≡ others ++ commit ∷ []
  there =
      ap (λ l. (before ++ behind) ++ l) (map-append (λ (flown : Flown). flown.commit) place.flying (record { commit = commit; opened = false } ∷ []))
      ∙ sym (append_assoc (before ++ behind) flown (commit ∷ []))
      ∙ ap (λ l. l ++ commit ∷ []) (append_assoc before behind flown)

  within : (other : CoreCommit) → IsOneOf (others ++ commit ∷ []) other → IsOneOf all other
  within other one = elim (last_or others commit other one) [
    | inl there ↦ put_back before (behind ++ flown) commit other there
    | inr same ↦ subst (IsOneOf all) (sym same) own
  ]

  free : (why : Refused) → Refuses (machine_amid place) (begins commit) why → ⊥
  free refused.Crashed h = cc
  free (refused.NotNext want) h = h
  free (refused.NotLegal reply) h = h
  free (refused.Stopped other) h = none_some h.1
    where
      none_some : {n : ℕ} → (let o : Option ℕ = None in o) ≡ Some n → ⊥
      none_some e = cc
  free (refused.Used used) h =
      let found = midst.used_by commit.number h.0 in
      elim (in_either place.run.done flown found.0 found.1) [
        | inl done ↦ (ready.later commit own).other_number found.0 done found.2
        | inr flies ↦ apart.0 found.0 (flies_there found.0 flies) found.2
      ]
  free (refused.Meets met) h =
      let shared = h.0 in
      let found = from_map flight_of_flown place.flying shared.flight shared.flies in
      let flies = to_map (λ (f : Flown). f.commit) place.flying found.0 found.1 in
      ready.apart commit found.0.commit own (put_back before (behind ++ flown) commit found.0.commit (flies_there found.0.commit flies))
      (λ same. apart.0 found.0.commit (flies_there found.0.commit flies) (sym same))
      (record {
        node = met.0;
        one = ((ready.made commit own).holds met.0).1 ((whole.fits.concerned met.0).1 shared.concerned);
        two = ap (λ (f : Flight). f.concerned met.0) found.2 ∙ shared.theirs;
      })
  free (refused.Late late) h =
      let low = midst.low commit (subst (λ l. IsOneOf l commit) (sym here) own) in
      let above = h.0 in omega arith
  free (refused.NotFlying other) h = cc
  free (refused.NotOpened other) h = false_not_true h.0
  free (refused.AlreadyOpened other) h = h
  free refused.NoMemory h = h

  taken_now : Accepts (machine_amid place) (begins commit) (machine_amid next)
  taken_now = record {
    free = free;
    moves = (
      flight_of_flown (record { commit = commit; opened = false }),
      record {
        number = refl;
        own = refl;
        members = λ node. (
          λ listed. (whole.fits.members node).0 (((ready.made commit own).members node).0 ((listed_one commit.members node).0 listed)),
          λ one. (listed_one commit.members node).1 (((ready.made commit own).members node).1 ((whole.fits.members node).1 one)),
        );
        concerned = λ node. (
          λ held. (whole.fits.concerned node).0 (((ready.made commit own).holds node).0 held),
          λ one. ((ready.made commit own).holds node).1 ((whole.fits.concerned node).1 one),
        );
        closed = refl;
      },
      ap (λ (l : List Flight). record (machine_amid next) { flights = l })
          (map-append flight_of_flown place.flying (record { commit = commit; opened = false } ∷ [])),
    );
  }

  midst_now : IsMidst next
  midst_now = record {
    standing = midst.standing;
    ready =
        subst (AreReady place.run) (sym there)
        (ready_among place.run all (others ++ commit ∷ []) within (put_last others commit apart.0 apart.1) ready);
    low = λ other one. midst.low other (subst (λ l. IsOneOf l other) (sym here) (within other (subst (λ l. IsOneOf l other) there one)));
    used_by = λ number one. elim (in_either place.used (commit.number ∷ []) number one) [
      | inl before_it ↦
          let found = midst.used_by number before_it in (
            found.0,
            elim (in_either place.run.done flown found.0 found.1) [
              | inl done ↦ in_left place.run.done (commits_of next.flying) found.0 done
              | inr flies ↦ flying_more found.0 (in_left flown (commit ∷ []) found.0 flies)
            ],
            found.2,
          )
      | inr new ↦ elim new [
        | inl same ↦ (commit, flying_more commit (in_right flown (commit ∷ []) commit (inl refl)), same)
        | inr never ↦ absurd never
      ]
    ];
  }
    where
      flying_more : (other : CoreCommit) → IsOneOf (flown ++ commit ∷ []) other → IsOneOf (place.run.done ++ commits_of next.flying) other
      flying_more other one =
          in_right place.run.done (commits_of next.flying) other
          (subst (λ l. IsOneOf l other)
          (sym (map-append (λ (f : Flown). f.commit) place.flying (record { commit = commit; opened = false } ∷ []))) one)

  pub begins_now : TakesEvent place (begins commit) next
  begins_now = record { taken = taken_now; midst = midst_now }

pub commits_begin : CommitsBegin
commits_begin place before behind commit run_is waits midst = begins_now place before behind commit run_is waits midst

-- One that flies: its place among the open ones, and the flights beside it.
module _ (run : Progress) (waiting : List CoreCommit) (before behind : List Flown) (used : List ℕ) (commit : CoreCommit) (opened : Bool) where
  abbrev flying : RecordPlace
  flying = record { run = run; waiting = waiting; flying = before ++ record { commit = commit; opened = opened } ∷ behind; used = used }

  open_there : open_at flying ≡ (waiting ++ commits_of before) ++ commit ∷ commits_of behind
  open_there =
      ap (λ l. waiting ++ l) (map-append (λ (f : Flown). f.commit) before (record { commit = commit; opened = opened } ∷ behind))
      ∙ sym (append_assoc waiting (commits_of before) (commit ∷ commits_of behind))

  module _ (midst : IsMidst flying) where
    ready_there : AreReady run ((waiting ++ commits_of before) ++ commit ∷ commits_of behind)
    ready_there = subst (AreReady run) open_there midst.ready

    others_apart : NoneHas ((waiting ++ commits_of before) ++ commits_of behind) commit.number
        × HaveOtherNumbers ((waiting ++ commits_of before) ++ commits_of behind)
    others_apart = taken_out (waiting ++ commits_of before) (commits_of behind) commit ready_there.once

    earlier : NoneHas (commits_of before) commit.number
    earlier other one =
        others_apart.0 other (in_left (waiting ++ commits_of before) (commits_of behind) other (in_right waiting (commits_of before) other one))

    later : NoneHas (commits_of behind) commit.number
    later other one = others_apart.0 other (in_right (waiting ++ commits_of before) (commits_of behind) other one)

    found : find (λ (flight : Flight). nat_eq flight.commit commit.number) (machine_amid flying).flights
        ≡ Some (flight_of_flown (record { commit = commit; opened = opened }))
    found = found_flight before behind (record { commit = commit; opened = opened }) earlier

    pub flies : is_flying (machine_amid flying) commit.number ≡ true
    flies = ap (λ (o : Option Flight). is_some o) found

    pub is_open : is_opened (machine_amid flying) commit.number ≡ opened
    is_open = ap (λ (o : Option Flight). option_map_or (λ flight. flight.opened) o false) found

-- a commit that flies is none that an event misses
pub none_missing : (test : Bool) (number other : ℕ) → test ≡ true → cond (not test) (Some number) None ≡ Some other → ⊥
none_missing true number other is e = cc
none_missing false number other is e = cc

-- It is opened.
module _ (run : Progress) (waiting : List CoreCommit) (before behind : List Flown) (used : List ℕ) (commit : CoreCommit)
    (midst : IsMidst (flying run waiting before behind used commit false)) where
  abbrev shut : RecordPlace
  shut = flying run waiting before behind used commit false

  abbrev open_one : RecordPlace
  open_one = flying run waiting before behind used commit true

  free_to_open : (why : Refused) → Refuses (machine_amid shut) (event.Opened commit.number) why → ⊥
  free_to_open refused.Crashed h = cc
  free_to_open (refused.NotNext want) h = h
  free_to_open (refused.NotLegal reply) h = h
  free_to_open (refused.Stopped other) h = let never = h.1 in cc
  free_to_open (refused.Used used) h = h
  free_to_open (refused.Meets met) h = h
  free_to_open (refused.Late late) h = h
  free_to_open (refused.NotFlying other) h =
      none_missing (is_flying (machine_amid shut) commit.number) commit.number other (flies run waiting before behind used commit false midst) h
  free_to_open (refused.NotOpened other) h = let never = h.0 in cc
  free_to_open (refused.AlreadyOpened other) h = not_both h.0 (is_open run waiting before behind used commit false midst)
  free_to_open refused.NoMemory h = h

  same_commits : commits_of shut.flying ≡ commits_of open_one.flying
  same_commits =
      map-append (λ (f : Flown). f.commit) before (record { commit = commit; opened = false } ∷ behind)
      ∙ sym (map-append (λ (f : Flown). f.commit) before (record { commit = commit; opened = true } ∷ behind))

  pub opens_now : TakesEvent shut (event.Opened commit.number) open_one
  opens_now = record {
    taken = record {
      free = free_to_open;
      moves = ap (λ (l : List Flight). record (machine_amid open_one) { flights = l })
          (sym (opened_flights before behind commit (earlier run waiting before behind used commit false midst)
          (later run waiting before behind used commit false midst)));
    };
    midst = record {
      standing = midst.standing;
      ready = subst (λ l. AreReady run (waiting ++ l)) same_commits midst.ready;
      low = λ other one. midst.low other (subst (λ l. IsOneOf (waiting ++ l) other) (sym same_commits) one);
      used_by = λ number one.
          let found = midst.used_by number one in
          (found.0, subst (λ l. IsOneOf (run.done ++ l) found.0) same_commits found.1, found.2);
    };
  }

pub commits_open : CommitsOpen
commits_open place before behind commit flies midst =
    subst (λ (l : List Flown). TakesEvent (record place { flying = l }) (event.Opened commit.number)
    (record place { flying = before ++ record { commit = commit; opened = true } ∷ behind })) (sym flies)
    (opens_now place.run place.waiting before behind place.used commit (subst (λ (l : List Flown). IsMidst (record place { flying = l })) flies midst))

-- It becomes durable.
module _ (run : Progress) (waiting : List CoreCommit) (before behind : List Flown) (used : List ℕ) (commit : CoreCommit) (run_is : IsLegalRun run)
    (raised : Cut) (after : ℕ → Bool) (to : RaisesTo run commit raised after)
    (midst : IsMidst (flying run waiting before behind used commit true)) where
  abbrev aloft : RecordPlace
  aloft = flying run waiting before behind used commit true

  abbrev landed : RecordPlace
  landed = record { run = with_done run commit raised after; waiting = waiting; flying = before ++ behind; used = used }

  abbrev rest : List CoreCommit
  rest = (waiting ++ commits_of before) ++ commits_of behind

  rest_there : open_at landed ≡ rest
  rest_there =
      ap (λ l. waiting ++ l) (map-append (λ (f : Flown). f.commit) before behind) ∙ sym (append_assoc waiting (commits_of before) (commits_of behind))

  fronted : AreReady run (commit ∷ rest)
  fronted =
      ready_among run ((waiting ++ commits_of before) ++ commit ∷ commits_of behind) (commit ∷ rest) (λ other one. elim one [
        | inl same ↦
            subst (IsOneOf ((waiting ++ commits_of before) ++ commit ∷ commits_of behind)) same
            (taken (waiting ++ commits_of before) (commits_of behind) commit)
        | inr more ↦ put_back (waiting ++ commits_of before) (commits_of behind) commit other more
      ])
      (others_apart run waiting before behind used commit true midst) (ready_there run waiting before behind used commit true midst)

  done : IsDoneWith run commit raised after
  done = (knowing_raise run commit run_is.sound run_is.legal midst.standing (first_ready run commit rest fronted midst.standing)).done raised after to

  free_to_end : (why : Refused) → Refuses (machine_amid aloft) (event.Durable commit.number) why → ⊥
  free_to_end refused.Crashed h = cc
  free_to_end (refused.NotNext want) h = h
  free_to_end (refused.NotLegal reply) h = h
  free_to_end (refused.Stopped other) h = let never = h.1 in cc
  free_to_end (refused.Used used) h = h
  free_to_end (refused.Meets met) h = h
  free_to_end (refused.Late late) h = h
  free_to_end (refused.NotFlying other) h =
      none_missing (is_flying (machine_amid aloft) commit.number) commit.number other (flies run waiting before behind used commit true midst) h
  free_to_end (refused.NotOpened other) h =
      none_missing (is_opened (machine_amid aloft) commit.number) commit.number other (is_open run waiting before behind used commit true midst) h.1
  free_to_end (refused.AlreadyOpened other) h = h
  free_to_end refused.NoMemory h = h

  pub ends_now : TakesEvent aloft (event.Durable commit.number) landed
  ends_now = record {
    taken = record {
      free = free_to_end;
      moves = (
        flight_of_flown (record { commit = commit; opened = true }),
        record (machine_amid aloft) { cut = raised; inodes = after },
        found run waiting before behind used commit true midst,
        record { raised = one_more [] (commit_fsync commit) run.cut raised run.inodes after none to.raises to.inodes_after; others = refl },
        ap (λ (l : List Flight). record (machine_amid landed) { flights = l })
            (sym (left_flights before behind (record { commit = commit; opened = true }) (earlier run waiting before behind used commit true midst)
            (later run waiting before behind used commit true midst))),
      );
    };
    midst = record {
      standing = done.stands;
      ready = subst (AreReady landed.run) (sym rest_there) (rest_ready run commit rest fronted raised after done);
      low = λ other one.
          midst.low other (subst (λ l. IsOneOf l other) (sym (open_there run waiting before behind used commit true))
          (put_back (waiting ++ commits_of before) (commits_of behind) commit other (subst (λ l. IsOneOf l other) rest_there one)));
      used_by = λ number one. let was = midst.used_by number one in (was.0, still was.0 was.1, was.2);
    };
  }
    where
      still : (other : CoreCommit) → IsOneOf (run.done ++ commits_of aloft.flying) other → IsOneOf (landed.run.done ++ commits_of landed.flying) other
      still other one = elim (in_either run.done (commits_of aloft.flying) other one) [
        | inl before_it ↦ in_left landed.run.done (commits_of landed.flying) other (in_left run.done (commit ∷ []) other before_it)
        | inr flew ↦
            elim (in_either (commits_of before) (commit ∷ commits_of behind) other
            (subst (λ l. IsOneOf l other)
            (map-append (λ (f : Flown). f.commit) before (record { commit = commit; opened = true } ∷ behind)) flew)) [
              | inl first ↦ flies_on (in_left (commits_of before) (commits_of behind) other first)
              | inr rest_of ↦ elim rest_of [
                | inl same ↦
                    in_left landed.run.done (commits_of landed.flying) other
                    (subst (IsOneOf landed.run.done) same (in_right run.done (commit ∷ []) commit (inl refl)))
                | inr more ↦ flies_on (in_right (commits_of before) (commits_of behind) other more)
              ]
            ]
      ]
        where
          flies_on : IsOneOf (commits_of before ++ commits_of behind) other → IsOneOf (landed.run.done ++ commits_of landed.flying) other
          flies_on flown_one =
              in_right landed.run.done (commits_of landed.flying) other
              (subst (λ l. IsOneOf l other) (sym (map-append (λ (f : Flown). f.commit) before behind)) flown_one)

pub commits_end : CommitsEnd
commits_end place before behind commit raised after may midst =
    subst (λ (l : List Flown). TakesEvent (record place { flying = l }) (event.Durable commit.number)
    (record place { run = with_done place.run commit raised after; flying = before ++ behind })) (sym may.flies)
    (ends_now place.run place.waiting before behind place.used commit may.legal raised after may.raises
    (subst (λ (l : List Flown). IsMidst (record place { flying = l })) may.flies midst))
