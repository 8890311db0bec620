-- The books are kept along a record, turn by turn, and the turns of cores that agree with their pens are recorded.
use borrow.Author.Tests.{eqb-true}
use Rattle.std.proofs.Common.{◌≡◌, ◌⊎◌, ◌∷◌, ◌++◌, ◌∙◌, ℕ, List, [], map, filter, nat_eq, Option, Some, None, inl, inr, refl, sym, ap, subst}
use Rattle.std.proofs.lemmas.List.{append-nil, append_assoc}
use Rattle.tree_laws.specs.declared.turns.Turn.{Turn}
use Rattle.tree_laws.specs.declared.turns.TurnAct.{TurnAct}
use Rattle.tree_laws.specs.declared.turns.TurnAct.TheVariants as act
use Rattle.cut_laws.specs.Rules.{IsOneOf}
use Rattle.cut_laws.proofs.Listed.{from_map}
use Rattle.cut_laws.proofs.RunFacts.{in_filter}
use Rattle.cut_laws.proofs.Basics.{in_left}
use Rattle.turn_laws.specs.Books.{Waiting, Books, flush_at, waiting_for, without_waiting, without_grant, CountsFaults, Does, one_turn}
use Rattle.turn_laws.specs.Recorded.{EachEnds}
use Rattle.turn_laws.specs.Ways.{own_turns, HasCommit}
use Rattle.merge_laws.specs.Phases.{phase_of, has_reserved, no_turn_yet, phase_after}
use Rattle.merge_laws.specs.Plays.{PlayState, PlaysAct, Plays, no_play, one_play, PensMerge, StopsWaiting}
use Rattle.merge_laws.proofs.Lists.{among_at}
use Rattle.merge_laws.proofs.Merged.{merged_turns}
use Rattle.merge_laws.proofs.Phases.{first_waits}
use Rattle.book_laws.specs.WalkLaws.{MayBeWalked, WalksAreBooked, RecordsAreKept}
use Rattle.book_laws.specs.Midway.{books_beside}
use Rattle.book_laws.specs.Pairs.{bringing_under}
use Rattle.book_laws.specs.Walk.{Bookkeeping, FitsAct, grants_in, grants_by, waits_at}
use Rattle.book_laws.proofs.Calm.{CalmSo, TurnAt, midway_of, StepsTo, waiting_same, waiting_left, reserves_step, lacks_step, gives_step, waits_as}
use Rattle.book_laws.proofs.Commits.{begins_step}
use Rattle.book_laws.proofs.Grants.{grants_more}
use Rattle.book_laws.proofs.Landing.{fails_now, failed_books, failed_waiting, failed_failed, opens_step, ends_step}
use Rattle.book_laws.proofs.Played.{PlayFits, fits_play}
use Rattle.book_laws.proofs.Walked.{WalkedCalm, WalkedFailed, Walked, booked, walked_first}

-- an fsync that has reserved has a turn
turn_of_waiting : (front : List Turn) (stamp : ℕ) → phase_of stamp front ≡ has_reserved → (turn : Turn) × IsOneOf front turn × (turn.stamp.0 ≡ stamp)
turn_of_waiting front stamp reserved = by (own_turns stamp front) refl
  where
    by : (own : List Turn) → own_turns stamp front ≡ own → (turn : Turn) × IsOneOf front turn × (turn.stamp.0 ≡ stamp)
    by [] e = absurd (first_waits (sym (ap (λ (l : List Turn). phase_after no_turn_yet (map (λ (t : Turn). t.act) l)) e) ∙ reserved))
    by (turn ∷ own) e =
        let there = in_filter (λ (t : Turn). nat_eq t.stamp.0 stamp) front turn (subst (λ (l : List Turn). IsOneOf l turn) (sym e) (inl refl)) in
        (turn, there.0, eqb-true turn.stamp.0 stamp there.1)

-- What one act of a turn leaves of the books where one fails, and behind a failure.
record FailsTo (kept : Bookkeeping) (turn : Turn) (did : TurnAct) (books : Books) (later : PlayState) : Type 0 where
  faults : ℕ
  stopped : later.failed ≡ Some faults
  next : Books
  does : Does did books turn next
  waiting : next.waiting ≡ map (waits_at kept.cores) later.waiting
  failed : next.failed ≡ Some faults

-- What a walk goes by.
pub record Walking : Type 0 where
  pub kept : Bookkeeping
  pub before : ℕ
  pub most : ℕ
  pub turns : List Turn
  pub may : MayBeWalked kept before most turns

-- A turn of the record, and what fsyncs had done before it.
pub record TurnOf (turns : List Turn) : Type 0 where
  pub front : List Turn
  pub back : List Turn
  pub turn : Turn
  pub whole : turns ≡ front ++ turn ∷ back
  pub at : PlayState
  pub plays : Plays front at

module _ (walking : Walking) where
  abbrev kept : Bookkeeping
  kept = walking.kept

  abbrev before : ℕ
  before = walking.before

  abbrev most : ℕ
  most = walking.most

  abbrev turns : List Turn
  turns = walking.turns

  abbrev may : MayBeWalked kept before most turns
  may = walking.may

  module _ (there : TurnOf turns) where
    abbrev front : List Turn
    front = there.front

    abbrev back : List Turn
    back = there.back

    abbrev turn : Turn
    turn = there.turn

    abbrev whole : turns ≡ front ++ turn ∷ back
    whole = there.whole

    abbrev at : PlayState
    at = there.at

    abbrev plays : Plays front at
    plays = there.plays

    so : PlayFits front at
    so = fits_play front at plays

    abbrev own : ℕ
    own = turn.stamp.0

    abbrev among : IsOneOf turns turn
    among = subst (λ (l : List Turn). IsOneOf l turn) (sym whole) (among_at front turn back)

    core_is : turn.core.0 ≡ kept.cores own
    core_is = may.fits.core turn among

    flush_is : (bringing_under kept.pairs own).flush ≡ flush_at turn
    flush_is = may.fits.flush turn among

    -- one that waits has its core for itself
    own_core : (waits : Waiting) → IsOneOf (map (waits_at kept.cores) at.waiting) waits → waits.core ≡ turn.core.0 → waits.stamp ≡ own
    own_core waits one same =
        let from = from_map (waits_at kept.cores) at.waiting waits one in
        let reserved = so.fits.waits from.0 from.1 in
        let other = turn_of_waiting front from.0 reserved in
        sym (ap (λ (w : Waiting). w.stamp) from.2) ∙ sym other.2
        ∙ may.own front back turn other.0 whole other.1
        (may.fits.core other.0 (subst (λ (l : List Turn). IsOneOf l other.0) (sym whole) (in_left front (turn ∷ back) other.0 other.1))
        ∙ ap kept.cores other.2 ∙ ap (λ (w : Waiting). w.core) from.2 ∙ same)
        (ap (λ (n : ℕ). phase_of n front) other.2 ∙ reserved)

    counted : CountsFaults before most at.failed turn.act turn.faults
    counted =
        subst (λ (o : Option ℕ). CountsFaults before most o turn.act turn.faults) (sym so.failed) (may.counts front back turn whole)

    -- where none has failed
    module _ (walked : WalkedCalm kept before most front at) where
      abbrev calm : CalmSo kept front at
      calm = walked.calm

      abbrev place : TurnAt kept
      place =
          record { front = front; turn = turn; at = at; so = so; calm = calm; core_is = core_is; flush_is = flush_is }

      calm_by : (did : TurnAct) (later : PlayState) → PlaysAct did front at turn later
          → FitsAct did kept (grants_in kept.pairs front) at calm.volume turn → HasCommit (kept.pairs own).commit.number did turn.commit
          → CountsFaults before most None did turn.faults
          → grants_in kept.pairs (front ++ turn ∷ []) ≡ grants_by kept.pairs did own (grants_in kept.pairs front)
          → ((later.failed ≡ None) × StepsTo kept front turn at calm did later)
          ⊎ FailsTo kept turn did (books_beside (midway_of kept front at calm)) later
      calm_by act.Granted later did fit number counts grants_are =
          inl (
            ap (λ (s : PlayState). s.failed) did.later_is ∙ walked.quiet,
            reserves_step kept place later did fit grants_are,
          )
      calm_by act.GivenBack later did fit number counts grants_are =
          inl (
            ap (λ (s : PlayState). s.failed) did.later_is ∙ walked.quiet,
            gives_step kept place later did grants_are,
          )
      calm_by (act.Short kind asked have) later did fit number counts grants_are =
          inl (
            ap (λ (s : PlayState). s.failed) did.later_is ∙ walked.quiet,
            lacks_step kept place kind asked have later did fit grants_are,
          )
      calm_by act.Halted later did fit number counts grants_are = absurd counts
      calm_by act.CutAt later did fit number counts grants_are =
          inl (
            ap (λ (s : PlayState). s.failed) did.later_is ∙ walked.quiet,
            begins_step kept place number grants_are later did fit,
          )
      calm_by act.Opened later did fit number counts grants_are =
          inl (
            ap (λ (s : PlayState). s.failed) did.later_is ∙ walked.quiet,
            opens_step kept place later did number grants_are,
          )
      calm_by act.Durable later did fit number counts grants_are =
          inl (
            ap (λ (s : PlayState). s.failed) did.later_is ∙ walked.quiet,
            ends_step kept place later did number grants_are,
          )
      calm_by act.Fail later did fit number counts grants_are = inr (record {
        faults = turn.faults;
        stopped = ap (λ (s : PlayState). s.failed) did.later_is;
        next = failed_books kept place did.before did.behind did.opened did.flies number;
        does = fails_now kept place did.before did.behind did.opened did.flies number;
        waiting =
            failed_waiting kept place did.before did.behind did.opened did.flies number
            ∙ ap (λ (s : PlayState). map (waits_at kept.cores) s.waiting) (sym did.later_is);
        failed = failed_failed kept place did.before did.behind did.opened did.flies number;
      })

      calm_on : (later : PlayState) → PlaysAct turn.act front at turn later → Walked kept before most (front ++ turn ∷ []) later
      calm_on later did =
          let counts = subst (λ (o : Option ℕ). CountsFaults before most o turn.act turn.faults) walked.quiet counted in
          elim (calm_by turn.act later did
          (may.fits.fits front turn at calm.volume
          (record { back = back; whole = whole; plays = plays; calm = walked.quiet; imagined = calm.imagined }))
          (may.fits.commit turn among) counts (grants_more kept.pairs front turn [])) [
            | inl steps ↦ inl (record {
              quiet = steps.0;
              calm = steps.1.next;
              are = one_turn front turn (books_beside (midway_of kept front at calm))
                  (books_beside (midway_of kept (front ++ turn ∷ []) later steps.1.next)) walked.are
                  (record { own = own_core; faults = counts; does = steps.1.does });
            })
            | inr fails ↦ inr (record {
              faults = fails.faults;
              stopped = fails.stopped;
              books = fails.next;
              are = one_turn front turn (books_beside (midway_of kept front at calm)) fails.next walked.are
                  (record { own = own_core; faults = counts; does = fails.does });
              waiting = fails.waiting;
              failed = fails.failed;
            })
          ]

    -- where one has
    module _ (walked : WalkedFailed kept before most front at) where
      abbrev books : Books
      books = walked.books

      left_waiting : (left : List ℕ) → StopsWaiting at own left
          → (without_waiting own books).waiting ≡ map (waits_at kept.cores) left
      left_waiting left stops =
          ap (filter (Rattle.turn_laws.specs.Books.is_other_waiting own)) walked.waiting ∙ waiting_left kept.cores at own left stops

      failed_by : (did : TurnAct) (later : PlayState) → PlaysAct did front at turn later → CountsFaults before most (Some walked.faults) did turn.faults
          → FailsTo kept turn did books later
      failed_by act.Granted later did counts = absurd counts
      failed_by act.GivenBack later did counts = record {
        faults = walked.faults;
        stopped = ap (λ (s : PlayState). s.failed) did.later_is ∙ walked.stopped;
        next = without_grant own (without_waiting own books);
        does = record {
          waits =
              subst (λ (l : List Waiting). IsOneOf l (waiting_for turn)) (sym walked.waiting)
              (subst (IsOneOf (map (waits_at kept.cores) at.waiting)) (waits_as kept turn core_is)
              (Rattle.cut_laws.proofs.Listed.to_map (waits_at kept.cores) at.waiting own
              (Rattle.book_laws.proofs.Calm.waited_there at own did.left did.waited)));
          later_is = refl;
        };
        waiting = left_waiting did.left did.waited ∙ ap (λ (s : PlayState). map (waits_at kept.cores) s.waiting) (sym did.later_is);
        failed = walked.failed;
      }
      failed_by (act.Short kind asked have) later did counts = absurd counts
      failed_by act.Halted later did counts = record {
        faults = walked.faults;
        stopped = ap (λ (s : PlayState). s.failed) did.later_is ∙ walked.stopped;
        next = without_waiting own books;
        does = refl;
        waiting =
            elim did.waited as (λ _. (without_waiting own books).waiting ≡ map (waits_at kept.cores) did.left) [
              | inl stops ↦ left_waiting did.left stops
              | inr stays ↦
                  ap (filter (Rattle.turn_laws.specs.Books.is_other_waiting own)) walked.waiting
                  ∙ waiting_same kept.cores own at.waiting stays.1 ∙ ap (map (waits_at kept.cores)) (sym stays.0)
            ]
            ∙ ap (λ (s : PlayState). map (waits_at kept.cores) s.waiting) (sym did.later_is);
        failed = walked.failed;
      }
      failed_by act.CutAt later did counts = absurd counts
      failed_by act.Opened later did counts = absurd counts
      failed_by act.Durable later did counts = absurd counts
      failed_by act.Fail later did counts = absurd counts

      failed_on : (later : PlayState) → PlaysAct turn.act front at turn later → Walked kept before most (front ++ turn ∷ []) later
      failed_on later did =
          let counts = subst (λ (o : Option ℕ). CountsFaults before most o turn.act turn.faults) walked.stopped counted in
          let fails = failed_by turn.act later did counts in
          inr (record {
            faults = fails.faults;
            stopped = fails.stopped;
            books = fails.next;
            are = one_turn front turn books fails.next walked.are (record {
              own = λ waits one. own_core waits (subst (λ (l : List Waiting). IsOneOf l waits) walked.waiting one);
              faults = subst (λ (o : Option ℕ). CountsFaults before most o turn.act turn.faults) (sym walked.failed) counts;
              does = fails.does;
            });
            waiting = fails.waiting;
            failed = fails.failed;
          })

    walked_on : (later : PlayState) → PlaysAct turn.act front at turn later → Walked kept before most front at
        → Walked kept before most (front ++ turn ∷ []) later
    walked_on later did walked = elim walked [ inl calm ↦ calm_on calm later did | inr failed ↦ failed_on failed later did ]

  pub walk : (front : List Turn) (at : PlayState) → Plays front at → (back : List Turn) → turns ≡ front ++ back → Walked kept before most front at
  walk _ _ no_play _ _ = walked_first kept before most may.begins
  walk _ _ (one_play front turn at later plays did) back whole =
      let here : turns ≡ front ++ turn ∷ back = whole ∙ append_assoc front (turn ∷ []) back in
      walked_on (record { front = front; back = back; turn = turn; whole = here; at = at; plays = plays }) later did (walk front at plays (turn ∷ back) here)

pub walks_are_booked : WalksAreBooked
walks_are_booked kept before most turns may front at leads =
    booked kept before most front at
    (walk (record { kept = kept; before = before; most = most; turns = turns; may = may }) front at leads.plays leads.back leads.whole)

pub records_are_kept : RecordsAreKept
records_are_kept kept entry_faults before exit_faults turns pens agrees =
    let merged : PensMerge kept.start.first kept.start.history turns =
    merged_turns kept.start.first kept.start.history before exit_faults turns pens agrees.begins.stands.between.history_is.legal agrees.agrees in
    let is = booked kept before exit_faults turns merged.plays.at
    (walk (record {
      kept = kept;
      before = before;
      most = exit_faults;
      turns = turns;
      may = record { begins = agrees.begins; fits = agrees.fits; counts = agrees.agrees.counts; own = merged.own };
    }) turns merged.plays.at merged.plays.plays []
    (sym (append-nil turns))) in
    record {
      before = before;
      since = agrees.since;
      books = is.books;
      kept = is.are;
      settled = is.waiting ∙ ap (map (waits_at kept.cores)) merged.settled;
      each = merged.each;
      ends = subst (EachEnds kept.start.first kept.start.history turns) (sym (is.failed ∙ merged.plays.failed)) merged.ends;
    }
