-- The machine in the midst of a record takes what a commit does there.
use Rattle.std.specs.List.{find}
use Rattle.std.proofs.Common.{◌≡◌, ◌≢◌, ◌∷◌, ◌++◌, ◌∙◌, ℕ, Bool, true, false, nat_eq, List, [], map, Option, Some, None, is_some, sym, ap, subst}
use Rattle.std.proofs.lemmas.List.{map-append}
use Rattle.sfs_base.proofs.BasicTruth.{false_not_true}
use Rattle.tree_laws.specs.declared.turns.Turn.{Turn}
use Rattle.cut_laws.specs.Cut.{Cut}
use Rattle.cut_laws.specs.Machine.{Flight, MachineState, flight_of, is_flying, Refuses, Accepts}
use Rattle.cut_laws.specs.Rules.{IsOneOf}
use Rattle.cut_laws.specs.declared.event.Event.TheVariants as event
use Rattle.cut_laws.specs.declared.event.Refused.{Refused}
use Rattle.cut_laws.specs.declared.event.Refused.TheVariants as refused
use Rattle.cut_laws.proofs.Listed.{from_map}
use Rattle.beside_laws.specs.Commits.{CoreCommit, commit_fsync}
use Rattle.beside_laws.specs.Laws.{RaisesTo}
use Rattle.beside_laws.specs.Steps.{Flown, flight_of_flown, commits_of, machine_amid, IsMidst, IsLegalRun, begins}
use Rattle.beside_laws.proofs.Numbered.{NoneHas, found_flight}
use Rattle.beside_laws.proofs.Stepping.{commits_begin, commits_open, commits_end, none_missing}
use Rattle.flush_laws.specs.Volume.{Volume}
use Rattle.turn_laws.specs.Books.{flush_at}
use Rattle.merge_laws.specs.Plays.{Aloft, PlayState, FliesOnce}
use Rattle.book_laws.specs.Pairs.{Pair, commit_under, run_with}
use Rattle.book_laws.specs.Walk.{flown_by}
use Rattle.book_laws.proofs.Beside.{place_by, commits_aloft}

-- Turns tell of the commit of their fsync: under its number, and of its fsync.
pub record TellsCommit (pairs : ℕ → Pair) (turn : Turn) : Type 0 where
  pub number : turn.commit ≡ (commit_under pairs turn.stamp.0).number
  pub own : commit_fsync (commit_under pairs turn.stamp.0) ≡ flush_at turn

pub begins_event : (pairs : ℕ → Pair) (turn : Turn) → TellsCommit pairs turn
    → begins (commit_under pairs turn.stamp.0) ≡ event.CutAt turn.commit turn.node turn.stamp
begins_event pairs turn tells =
    λ i. event.CutAt ((sym tells.number) i) (record { 0 = (tells.own i).node }) (record { 0 = (tells.own i).stamp })

module _ (pairs : ℕ → Pair) (volume : Volume) (at : PlayState) (used : List ℕ) (own : ℕ) (midst : IsMidst (place_by pairs volume at used)) where
  abbrev commit : CoreCommit
  commit = commit_under pairs own

  -- a machine of the volume with these commits in flight
  abbrev flying_so : MachineState → List Flown → MachineState
  flying_so machine flying = record machine { flights = map flight_of_flown flying }

  pub begin_taken : (before behind : List ℕ) → IsLegalRun (run_with volume (map (commit_under pairs) at.done)) → at.waiting ≡ before ++ own ∷ behind
      → Accepts (machine_amid (place_by pairs volume at used)) (begins commit)
      (machine_amid (place_by pairs volume (record at { aloft = at.aloft ++ record { stamp = own; opened = false } ∷ [] }) (used ++ commit.number ∷ [])))
  begin_taken before behind legal whole =
      subst
      (λ (l : List Flown). Accepts (machine_amid (place_by pairs volume at used)) (begins commit)
      (flying_so (machine_amid (place_by pairs volume at (used ++ commit.number ∷ []))) l))
      (sym (map-append (flown_by pairs) at.aloft (record { stamp = own; opened = false } ∷ [])))
      (commits_begin (place_by pairs volume at used) (map (commit_under pairs) before) (map (commit_under pairs) behind) commit legal
      (ap (map (commit_under pairs)) whole ∙ map-append (commit_under pairs) before (own ∷ behind)) midst).taken

  flown_there : (before behind : List Aloft) (opened : Bool) → at.aloft ≡ before ++ record { stamp = own; opened = opened } ∷ behind
      → map (flown_by pairs) at.aloft
      ≡ map (flown_by pairs) before ++ record { commit = commit; opened = opened } ∷ map (flown_by pairs) behind
  flown_there before behind opened whole =
      ap (map (flown_by pairs)) whole ∙ map-append (flown_by pairs) before (record { stamp = own; opened = opened } ∷ behind)

  pub open_taken : (before behind : List Aloft) → at.aloft ≡ before ++ record { stamp = own; opened = false } ∷ behind
      → Accepts (machine_amid (place_by pairs volume at used)) (event.Opened commit.number)
      (machine_amid (place_by pairs volume (record at { aloft = before ++ record { stamp = own; opened = true } ∷ behind }) used))
  open_taken before behind whole =
      subst
      (λ (l : List Flown). Accepts (machine_amid (place_by pairs volume at used)) (event.Opened commit.number)
      (flying_so (machine_amid (place_by pairs volume at used)) l))
      (sym (map-append (flown_by pairs) before (record { stamp = own; opened = true } ∷ behind)))
      (commits_open (place_by pairs volume at used) (map (flown_by pairs) before) (map (flown_by pairs) behind) commit
      (flown_there before behind false whole) midst).taken

  pub end_taken : (before behind : List Aloft) (raised : Cut) (after : ℕ → Bool) → IsLegalRun (run_with volume (map (commit_under pairs) at.done))
      → RaisesTo (run_with volume (map (commit_under pairs) at.done)) commit raised after
      → at.aloft ≡ before ++ record { stamp = own; opened = true } ∷ behind
      → Accepts (machine_amid (place_by pairs volume at used)) (event.Durable commit.number)
      (record (machine_amid (place_by pairs volume (record at { aloft = before ++ behind }) used)) { cut = raised; inodes = after })
  end_taken before behind raised after legal raises whole =
      subst
      (λ (l : List Flown). Accepts (machine_amid (place_by pairs volume at used)) (event.Durable commit.number)
      (record (flying_so (machine_amid (place_by pairs volume at used)) l) { cut = raised; inodes = after }))
      (sym (map-append (flown_by pairs) before behind))
      (commits_end (place_by pairs volume at used) (map (flown_by pairs) before) (map (flown_by pairs) behind) commit raised after
      (record { legal = legal; flies = flown_there before behind true whole; raises = raises }) midst).taken

  -- its flight is found by its number
  pub flight_found : (before behind : List Aloft) (opened : Bool) → FliesOnce at.aloft before behind (record { stamp = own; opened = opened })
      → ((other : ℕ) → IsOneOf (map (λ flight. flight.stamp) before) other → other ≢ own → (commit_under pairs other).number ≢ commit.number)
      → flight_of (machine_amid (place_by pairs volume at used)) commit.number ≡ Some (flight_of_flown (record { commit = commit; opened = opened }))
  flight_found before behind opened flies numbers =
      ap (λ (l : List Flown). find (λ (flight : Flight). nat_eq flight.commit commit.number) (map flight_of_flown l))
      (flown_there before behind opened flies.whole)
      ∙ found_flight (map (flown_by pairs) before) (map (flown_by pairs) behind) (record { commit = commit; opened = opened }) others
    where
      others : NoneHas (commits_of (map (flown_by pairs) before)) commit.number
      others other one same =
          let stamps = from_map (commit_under pairs) (map (λ (flight : Aloft). flight.stamp) before) other
          (subst (λ (l : List CoreCommit). IsOneOf l other) (commits_aloft pairs before) one) in
          let flight = from_map (λ (flight : Aloft). flight.stamp) before stamps.0 stamps.1 in
          numbers stamps.0 stamps.1
          (λ e. flies.once flight.0 (Rattle.cut_laws.proofs.Basics.in_left before behind flight.0 flight.1) (flight.2 ∙ e))
          (ap (λ (c : CoreCommit). c.number) stamps.2 ∙ same)

-- A commit in flight may fail, where none has.
pub fail_taken : (machine : MachineState) (number : ℕ) (flight : Flight) → machine.crashed ≡ false → machine.failed ≡ None
    → flight_of machine number ≡ Some flight → Accepts machine (event.Fail number) (record machine { failed = Some number })
fail_taken machine number flight goes calm flies = record {
  free = free;
  moves = ap (λ (o : Option ℕ). record machine { failed = Rattle.std.specs.Option.option_or o (Some number) }) (sym calm);
}
  where
    free : (why : Refused) → Refuses machine (event.Fail number) why → ⊥
    free refused.Crashed h = false_not_true (sym goes ∙ h)
    free (refused.NotNext want) h = h
    free (refused.NotLegal reply) h = h
    free (refused.Stopped other) h = let never = h.0 in cc
    free (refused.Used used) h = h
    free (refused.Meets met) h = h
    free (refused.Late late) h = h
    free (refused.NotFlying other) h = none_missing (is_flying machine number) number other (ap (λ (o : Option Flight). is_some o) flies) h
    free (refused.NotOpened other) h = let never = h.0 in cc
    free (refused.AlreadyOpened other) h = h
    free refused.NoMemory h = h
