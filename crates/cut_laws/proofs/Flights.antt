-- A flight makes the commit that it would have made as it began.
use Rattle.std.proofs.Common.{◌≡◌, ◌≢◌, ℕ, zero, suc, ◌≤◌, Bool, true, List, [], ◌∷◌, length, map, Option, Some, None, is_some, inl, inr, refl, sym, ap, subst, ◌∙◌, arith}
use Rattle.tree_laws.specs.Tree.{TreeState}
use Rattle.tree_laws.specs.Laws.{IsSoundTree}
use Rattle.cut_laws.specs.declared.event.Event.{Event}
use Rattle.cut_laws.specs.Cut.{Cut, cut_of}
use Rattle.cut_laws.specs.Rules.{IsOneOf}
use Rattle.cut_laws.specs.Closure.{every_entry, Flush, AreRaised}
use Rattle.cut_laws.specs.Machine.{Flight, MachineState, flight_of}
use Rattle.cut_laws.specs.Runs.{IsRun, IsBegun, AreAlive, view_of, IsOneCommit, view_by}
use Rattle.cut_laws.specs.Laws.{FlightsStay}
use Rattle.cut_laws.proofs.Views.{below, IsHeld}
use Rattle.cut_laws.proofs.Listed.{from_map}
use Rattle.cut_laws.proofs.RunFacts.{IsSteady, steady_at, event_there, flight_found, cuts_stay_low}
use Rattle.cut_laws.proofs.Held.{flights_hold, held_at}
use Rattle.cut_laws.proofs.OneCommit.{alike_back, then_alike}
use Rattle.cut_laws.proofs.Begun.{takes_cut, begun_once, one_flush, one_begun, begun_apart}
use Rattle.cut_laws.proofs.Flying.{IsAmong, BeginsAt, CutStep, stays, raises, ends, cut_step, flight_from}
use Rattle.cut_laws.proofs.Stays.{whole, all, whole_alike, live_begun, Stays, stays_one, StayApart, others_stay}
use Rattle.cut_laws.proofs.Agree.{agree_itself}

module _ (first : TreeState) (events : List Event) (states : ℕ → MachineState) (is : IsSoundTree first) (run : IsRun first events states)
    (alive : AreAlive first events states) (last : ℕ) (within : last ≤ length events) where
  abbrev StaysSo : Flight → Cut → (ℕ → Bool) → Type 0
  StaysSo flight cut inodes = Stays first events states is run alive last within flight cut inodes

  -- a flight stays so, whether opened or not
  stays_as : (flights : List Flight) (flight : Flight) (cut : Cut) (inodes : ℕ → Bool) (old : IsAmong flights flight) → StaysSo old.was cut inodes
      → StaysSo flight cut inodes
  stays_as flights flight cut inodes old s = record {
    begin = s.begin;
    earlier = s.earlier;
    at = record {
      begun = rw old.flush at (rw old.commit at s.at.begun);
      theirs = λ node. rw old.flush at (rw old.concerned at (s.at.theirs node));
    };
    agree = λ node concerned. s.agree node (ap (λ (c : ℕ → Bool). c node) old.concerned ∙ concerned);
  }

  begins_so : (place : ℕ) → suc place ≤ last → (flight : Flight) → BeginsAt first events states place flight
      → StaysSo flight (states (suc place)).cut (states (suc place)).inodes
  begins_so place le flight new =
      let takes = takes_cut first events states run place flight.commit flight.flush new.begun in
      rw takes.moves.2
      (record {
        begin = place;
        earlier = omega arith;
        at = new;
        agree =
            λ node concerned. agree_itself first (whole first events states is run alive last within) (all first events states is run alive last within)
            (states place).cut (states place).inodes node;
      })

  goes_on : (place : ℕ) (e : Event) → suc place ≤ last → StayApart first events states is run alive last within place
      → CutStep first (states place) (states (suc place)) e → (flight : Flight) → IsOneOf (states (suc place)).flights flight
      → IsAmong (states place).flights flight → StaysSo flight (states (suc place)).cut (states (suc place)).inodes
  goes_on place e le kept (stays cuts inodes none) flight one old =
      rw cuts at (rw inodes at (stays_as (states place).flights flight (states place).cut (states place).inodes old (kept.each old.was old.there)))
  goes_on place e le kept (raises commit raiser same there number are others) flight one old =
      stays_as (states place).flights flight (states (suc place)).cut (states (suc place)).inodes old
      (others_stay first events states is run alive last within place (omega arith) kept are (raiser ∷ []) refl
      (λ f it. elim it [ inl e ↦ rw e at there | inr nothing ↦ absurd nothing ])
      (λ f it. absurd it, tt) old.was old.there
      (λ f it. elim it [
        | inl e ↦ λ equal. others flight one (sym old.commit ∙ sym equal ∙ ap (λ (g : Flight). g.commit) (sym e) ∙ number)
        | inr nothing ↦
            absurd nothing
      ]))
  goes_on place e le kept (ends gone ended) flight one old = absurd (rw gone at one)

  abbrev ConcernApart : Flight → Flight → Type 0
  ConcernApart flight other = (node : ℕ) → flight.concerned node ≡ true → other.concerned node ≡ true → ⊥

  new_apart : (place : ℕ) → suc place ≤ last → (flight other : Flight) → BeginsAt first events states place flight → IsAmong (states place).flights other
      → ConcernApart flight other
  new_apart place le flight other new old node own theirs =
      begun_apart first events states run place flight.commit flight.flush new.begun old.was old.there node
      (ap (λ (c : ℕ → Bool). c node) old.concerned ∙ theirs) ((new.theirs node).0 own)

  apart_step : (place : ℕ) → suc place ≤ last → StayApart first events states is run alive last within place → (flight other : Flight)
      → IsOneOf (states (suc place)).flights flight → IsOneOf (states (suc place)).flights other → flight.commit ≢ other.commit → ConcernApart flight other
  apart_step place le kept flight other one also differ = elim (flight_from first events states run place (omega arith) flight one) [
    | inr new ↦ elim (flight_from first events states run place (omega arith) other also) [
      | inr both ↦ absurd (differ (one_begun first events states run place flight.commit other.commit flight.flush other.flush new.begun both.begun))
      | inl old ↦ new_apart place le flight other new old
    ]
    | inl old ↦ elim (flight_from first events states run place (omega arith) other also) [
      | inr new ↦ λ node own theirs. new_apart place le other flight new old node theirs own
      | inl older ↦
          λ node own theirs. kept.apart old.was older.was old.there older.there (λ e. differ (sym old.commit ∙ e ∙ older.commit)) node
          (ap (λ (c : ℕ → Bool). c node) old.concerned ∙ own) (ap (λ (c : ℕ → Bool). c node) older.concerned ∙ theirs)
    ]
  ]

  -- in each state all flights stay so, and no two concern one node
  pub stay_apart : (place : ℕ) → place ≤ last → StayApart first events states is run alive last within place
  stay_apart zero le = record {
    each = λ flight one. absurd (rw run.begins at one);
    apart = λ flight other one. absurd (rw run.begins at one);
  }
  stay_apart (suc place) le =
      let there = event_there events place (omega arith) in
      let kept = stay_apart place (omega arith) in
      record {
        each = λ flight one. elim (flight_from first events states run place (omega arith) flight one) [
          | inl old ↦
              goes_on place there.0 le kept
              (cut_step first (states place) there.0 (states (suc place)) (steady_at first events states run place (omega arith)).start
              (run.steps place there.0 there.1))
              flight one old
          | inr new ↦ begins_so place le flight new
        ];
        apart = apart_step place le kept;
      }

-- what is found to be there is there
found : (o : Option Flight) → is_some o ≡ true → (flight : Flight) × (o ≡ Some flight)
found (Some flight) e = (flight, refl)
found None e = cc

module _ (first : TreeState) (events : List Event) (states : ℕ → MachineState) (is : IsSoundTree first) (run : IsRun first events states)
    (alive : AreAlive first events states) (later : ℕ) (within : later ≤ length events)
    (others : List Flight) (cut : Cut) (inodes : ℕ → Bool) (among : (other : Flight) → IsOneOf others other → IsOneOf (states later).flights other)
    (raised : AreRaised first (states later).history every_entry (states later).cut (states later).inodes
    (map (λ (other : Flight). other.flush) others) cut inodes) where
  steady : IsSteady first (states later)
  steady = steady_at first events states run later within

  from : (f : Flush) → IsOneOf (map (λ (other : Flight). other.flush) others) f → (g : Flight) × IsOneOf (states later).flights g × (g.flush ≡ f)
  from f it = let one = from_map (λ (g : Flight). g.flush) others f it in (one.0, among one.0 one.1, one.2)

  cuts : (node : ℕ) → cut_of cut node ≤ length (states later).history
  cuts =
      cuts_stay_low first (states later).history every_entry (length (states later).history) raised steady.cuts
      (λ f it. let g = from f it in rw g.2 at (steady.stamps g.0 g.1))

  held : IsHeld first (states later).history cut inodes
  held =
      flights_hold first events states is run alive later within later (omega arith) raised from
      (held_at first events states is run alive later within later (omega arith))

  -- a flight of the state that stays so makes the commit that it would have made
  one_commit : (place commit : ℕ) (flush : Flush) → IsBegun events place commit flush → (flight : Flight) → IsOneOf (states later).flights flight
      → flight.commit ≡ commit → Stays first events states is run alive later within flight cut inodes
      → IsOneCommit first flush (view_of (states place)) (view_by ((states later).history) every_entry cut inodes)
  one_commit place commit flush begun flight one number s =
      subst (λ (p : ℕ). IsOneCommit first flush (view_of (states p)) (view_by ((states later).history) every_entry cut inodes))
      (sym (begun_once first events states run place s.begin commit flush flight.flush begun also))
      (subst (λ (f : Flush). IsOneCommit first f (view_of (states s.begin)) (view_by ((states later).history) every_entry cut inodes))
      (sym (one_flush first events states run place s.begin commit flush flight.flush begun also))
      (then_alike first flight.flush (view_of (states s.begin)) (view_by ((states later).history) (below (length (states later).history)) cut inodes)
      (view_by ((states later).history) every_entry cut inodes)
      (stays_one first events states is run alive later within flight cut inodes s)
      (alike_back first flight.flush (view_by ((states later).history) every_entry cut inodes)
      (view_by ((states later).history) (below (length (states later).history)) cut inodes)
      (whole_alike first events states is run alive later within later (omega arith) flight.flush cut inodes (steady.stamps flight one)
      (live_begun first events states is run alive later within s.begin flight.commit flight.flush s.earlier s.at.begun) cuts held))))
    where
      also : IsBegun events s.begin commit flight.flush
      also = rw number at s.at.begun

pub flights_stay : FlightsStay
flights_stay first events states place later commit flush others cut inodes is run alive flies apart among raised =
    let there = found (flight_of (states later) commit) flies.flying in
    let one = flight_found (states later) commit there.0 there.1 in
    one_commit first events states is run alive later flies.within others cut inodes
    (λ f it. (among f it).0) raised place commit flush flies.begun there.0 one.0 one.1
    (others_stay first events states is run alive later flies.within later (omega arith)
    (stay_apart first events states is run alive later flies.within later (omega arith)) raised others refl (λ f it. (among f it).0) apart there.0 one.0
    (λ f it same. (among f it).1 (same ∙ one.1)))
