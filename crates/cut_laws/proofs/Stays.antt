-- From where a flight began on, the cut is agreed on for each node that it concerns.
use Rattle.std.proofs.Common.{◌≡◌, ◌≢◌, ℕ, ◌≤◌, Bool, true, List, [], ◌∷◌, ◌++◌, length, map, inl, inr, refl, sym, ap, subst, ◌∙◌, arith}
use borrow.Author.Tests.{lt-ltb}
use Rattle.tree_laws.specs.declared.history.Entry.{Entry}
use Rattle.tree_laws.specs.Tree.{TreeState}
use Rattle.tree_laws.specs.History.{IsLegal}
use Rattle.tree_laws.specs.Laws.{IsSoundTree}
use Rattle.cut_laws.specs.declared.event.Event.{Event}
use Rattle.cut_laws.specs.Cut.{Cut, cut_of}
use Rattle.cut_laws.specs.Rules.{IsOneOf}
use Rattle.cut_laws.specs.Closure.{every_entry, Flush, HasLiveNode, IsConcerned, IsRaised, AreInodesAfter, AreRaised, none, one_more}
use Rattle.cut_laws.specs.Machine.{Flight, MachineState}
use Rattle.cut_laws.specs.Runs.{IsRun, IsBegun, AreAlive, AreApart, view_of, IsOneCommit, view_by}
use Rattle.cut_laws.proofs.Basics.{in_left, in_right}
use Rattle.cut_laws.proofs.Views.{below, AreAlike, IsHeld, Agree}
use Rattle.cut_laws.proofs.Listed.{from_map}
use Rattle.cut_laws.proofs.RunFacts.{IsPrefix, IsSteady, prefix_later, steady_at, cuts_stay_low}
use Rattle.cut_laws.proofs.Held.{live_whole, flights_hold, held_at}
use Rattle.cut_laws.proofs.Alike.{inodes_alike}
use Rattle.cut_laws.proofs.OneCommit.{alike_on, alike_then}
use Rattle.cut_laws.proofs.Prefixes.{prefixes_count}
use Rattle.cut_laws.proofs.Recount.{recounts}
use Rattle.cut_laws.proofs.Agree.{agree_on, concerned_back, agrees}
use Rattle.cut_laws.proofs.Raising.{raise_apart}
use Rattle.cut_laws.proofs.RaiseLists.{HasLast, map_last}
use Rattle.cut_laws.proofs.Begun.{begun_low}
use Rattle.cut_laws.proofs.Flying.{BeginsAt}

-- flights with different numbers have so without the last one, and that is none of theirs
apart_last : (flights : List Flight) (last : Flight) → AreApart (flights ++ last ∷ [])
    → AreApart flights × ((flight : Flight) → IsOneOf flights flight → flight.commit ≢ last.commit)
apart_last [] last apart = (tt, λ flight one. absurd one)
apart_last (first ∷ flights) last apart =
    let rest = apart_last flights last apart.1 in (
      (λ other one. apart.0 other (in_left flights (last ∷ []) other one), rest.0),
      λ flight one. elim one [
        | inl same ↦ λ e. apart.0 last (in_right flights (last ∷ []) last (inl refl)) (sym e ∙ sym (ap (λ (f : Flight). f.commit) same))
        | inr more ↦ rest.1 flight more
      ],
    )

module _ (first : TreeState) (events : List Event) (states : ℕ → MachineState) (is : IsSoundTree first) (run : IsRun first events states)
    (alive : AreAlive first events states) (last : ℕ) (within : last ≤ length events) where
  -- the history to which the run leads, and its length
  abbrev pub whole : List Entry
  whole = (states last).history

  abbrev pub all : ℕ
  all = length whole

  pub legal_whole : IsLegal first whole
  legal_whole = (steady_at first events states run last within).legal

  -- an fsync does by a state's history what it does by the whole one
  pub whole_alike : (place : ℕ) → place ≤ last → (flush : Flush) (cut : Cut) (inodes : ℕ → Bool) → flush.stamp ≤ length (states place).history
      → HasLiveNode first whole flush → ((node : ℕ) → cut_of cut node ≤ length (states place).history) → IsHeld first whole cut inodes
      → AreAlike first flush (view_by ((states place).history) every_entry cut inodes) (view_by whole (below all) cut inodes)
  whole_alike place le flush cut inodes low live cuts held =
      alike_on first flush (view_by ((states place).history) every_entry cut inodes) (view_by whole (below (length (states place).history)) cut inodes)
      (view_by whole (below all) cut inodes)
      (rw prefix.first_part at (prefixes_count first whole (length (states place).history) flush cut inodes is legal_whole prefix.shorter low live))
      (recounts first whole (length (states place).history) (below (length (states place).history)) (below all) flush cut inodes is legal_whole
      (λ t lt. lt-ltb t (length (states place).history) lt) (λ t lt. lt-ltb t all (let more = prefix.shorter in omega arith)) cuts low live held)
    where
      prefix : IsPrefix (states place).history whole
      prefix = prefix_later first events states run place last le within

  -- a commit's node is alive in the whole history
  pub live_begun : (place commit : ℕ) (flush : Flush) → place ≤ last → IsBegun events place commit flush → HasLiveNode first whole flush
  live_begun place commit flush le begun =
      live_whole first events states is run alive last within place le flush (begun_low first events states run place commit flush begun)
      (alive place commit flush begun)

  -- as a commit begins, it does by the whole history what it does by its state's
  pub begun_alike : (place commit : ℕ) (flush : Flush) → place ≤ last → IsBegun events place commit flush
      → AreAlike first flush (view_of (states place)) (view_by whole (below all) ((states place).cut) ((states place).inodes))
  begun_alike place commit flush le begun =
      whole_alike place le flush (states place).cut (states place).inodes (begun_low first events states run place commit flush begun)
      (live_begun place commit flush le begun) (steady_at first events states run place (omega arith)).cuts
      (held_at first events states is run alive last within place le)

  -- A flight that began at a state with whose cut and inodes these agree on each node that it concerns.
  pub record Stays (flight : Flight) (cut : Cut) (inodes : ℕ → Bool) : Type 0 where
    pub begin : ℕ
    pub earlier : begin ≤ last
    pub at : BeginsAt first events states begin flight
    pub agree : (node : ℕ) → flight.concerned node ≡ true → Agree first whole all (states begin).cut cut (states begin).inodes inodes node

  module _ (flight : Flight) (cut : Cut) (inodes : ℕ → Bool) (s : Stays flight cut inodes) where
    stays_alike : AreAlike first flight.flush (view_of (states s.begin)) (view_by whole (below all) ((states s.begin).cut) ((states s.begin).inodes))
    stays_alike = begun_alike s.begin flight.commit flight.flush s.earlier s.at.begun

    then_concerned : (node : ℕ) → IsConcerned first whole (below all) (states s.begin).cut (states s.begin).inodes flight.flush node
        → flight.concerned node ≡ true
    then_concerned node concerned = (s.at.theirs node).1 ((stays_alike.concerned node).1 concerned)

    agree_then : (node : ℕ) → IsConcerned first whole (below all) (states s.begin).cut (states s.begin).inodes flight.flush node
        → Agree first whole all (states s.begin).cut cut (states s.begin).inodes inodes node
    agree_then node concerned = s.agree node (then_concerned node concerned)

    -- it concerns what it concerned
    pub stays_concerned : (node : ℕ) → IsConcerned first whole (below all) cut inodes flight.flush node → flight.concerned node ≡ true
    stays_concerned node concerned =
        then_concerned node
        (concerned_back first whole all is legal_whole flight.flush (states s.begin).cut cut (states s.begin).inodes inodes agree_then node concerned)

    -- and makes the commit that it would have made
    pub stays_one : IsOneCommit first flight.flush (view_of (states s.begin)) (view_by whole (below all) cut inodes)
    stays_one =
        alike_then first flight.flush (view_of (states s.begin)) (view_by whole (below all) ((states s.begin).cut) ((states s.begin).inodes))
        (view_by whole (below all) cut inodes) stays_alike
        (agrees first whole all flight.flush (states s.begin).cut cut (states s.begin).inodes inodes is legal_whole agree_then)

  -- a flight that concerns none of its nodes leaves it so, when it raises the cut
  raise_stays : (place : ℕ) → place ≤ last → (raiser flight : Flight) (cut raised : Cut) (inodes after : ℕ → Bool) → Stays raiser cut inodes
      → Stays flight cut inodes → ((node : ℕ) → raiser.concerned node ≡ true → flight.concerned node ≡ true → ⊥)
      → raiser.flush.stamp ≤ length (states place).history → ((node : ℕ) → cut_of cut node ≤ length (states place).history) → IsHeld first whole cut inodes
      → IsRaised first (states place).history every_entry cut inodes raiser.flush raised
      → AreInodesAfter first (states place).history every_entry cut inodes raiser.flush raised after → Stays flight raised after
  raise_stays place le raiser flight cut raised inodes after theirs own apart low cuts held raise sets = record {
    begin = own.begin;
    earlier = own.earlier;
    at = own.at;
    agree = λ node concerned. agree_on first whole all (states own.begin).cut cut raised (states own.begin).inodes inodes after node (own.agree node concerned)
        (raise_apart first whole all raiser.flush cut raised inodes after ((alike.raises raised).0 raise)
        (inodes_alike first raiser.flush _ _ raised after alike raise sets) node
        (λ also. apart node (stays_concerned raiser cut inodes theirs node also) concerned));
  }
    where
      alike : AreAlike first raiser.flush (view_by ((states place).history) every_entry cut inodes) (view_by whole (below all) cut inodes)
      alike = whole_alike place le raiser.flush cut inodes low (live_begun theirs.begin raiser.commit raiser.flush theirs.earlier theirs.at.begun) cuts held

  -- All flights of a state stay so, and no two concern one node.
  pub record StayApart (place : ℕ) : Type 0 where
    pub each : (flight : Flight) → IsOneOf (states place).flights flight → Stays flight (states place).cut (states place).inodes
    pub apart : (flight other : Flight) → IsOneOf (states place).flights flight → IsOneOf (states place).flights other → flight.commit ≢ other.commit
        → (node : ℕ) → flight.concerned node ≡ true → other.concerned node ≡ true → ⊥

  -- other flights of the state leave it so, when they raise the cut one after the other
  pub others_stay : (place : ℕ) → place ≤ last → StayApart place → {flushes : List Flush} {raised : Cut} {after : ℕ → Bool}
      → AreRaised first (states place).history every_entry (states place).cut (states place).inodes flushes raised after → (others : List Flight)
      → flushes ≡ map (λ (f : Flight). f.flush) others
      → ((other : Flight) → IsOneOf others other → IsOneOf (states place).flights other) → AreApart others → (flight : Flight)
      → IsOneOf (states place).flights flight → ((other : Flight) → IsOneOf others other → other.commit ≢ flight.commit) → Stays flight raised after
  others_stay place le kept none others e among apart flight one differ = kept.each flight one
  others_stay place le kept (one_more flushes flush before raised inodes_before after was raise sets) others e among apart flight one differ =
      raise_stays place le own flight before raised inodes_before after
      (others_stay place le kept was split.before split.images before_among apart_both.0 own (among own own_one) apart_both.1)
      (others_stay place le kept was split.before split.images before_among apart_both.0 flight one (λ other it. differ other (older other it)))
      (kept.apart own flight (among own own_one) one (differ own own_one))
      (steady.stamps own (among own own_one))
      (cuts_stay_low first (states place).history every_entry (length (states place).history) was steady.cuts
      (λ f it. let g = from f it in rw g.2 at (steady.stamps g.0 g.1)))
      (flights_hold first events states is run alive last within place le was from (held_at first events states is run alive last within place le))
      (rw split.image at raise)
      (rw split.image at sets)
    where
      split : HasLast (λ (f : Flight). f.flush) others flushes flush
      split = map_last (λ (f : Flight). f.flush) others flushes flush e

      own : Flight
      own = split.last

      steady : IsSteady first (states place)
      steady = steady_at first events states run place (omega arith)

      older : (other : Flight) → IsOneOf split.before other → IsOneOf others other
      older other it = rw split.whole (in_left split.before (split.last ∷ []) other it)

      own_one : IsOneOf others own
      own_one = subst (λ (l : List Flight). IsOneOf l split.last) (sym split.whole) (in_right split.before (split.last ∷ []) split.last (inl refl))

      before_among : (other : Flight) → IsOneOf split.before other → IsOneOf (states place).flights other
      before_among other it = among other (older other it)

      apart_both : AreApart split.before × ((other : Flight) → IsOneOf split.before other → other.commit ≢ split.last.commit)
      apart_both = apart_last split.before split.last (rw split.whole at apart)

      from : (f : Flush) → IsOneOf flushes f → (g : Flight) × IsOneOf (states place).flights g × (g.flush ≡ f)
      from f it = let found = from_map (λ (g : Flight). g.flush) split.before f (rw split.images at it) in (found.0, before_among found.0 found.1, found.2)
