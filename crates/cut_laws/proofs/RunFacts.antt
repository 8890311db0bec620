-- What holds of each state of a run of the machine.
use Rattle.std.proofs.Common.{◌≡◌, ◌≢◌, ℕ, zero, suc, ◌<◌, ◌≤◌, Bool, true, false, cond, not, List, [], ◌∷◌, ◌++◌, length, take, map, Option, Some, inl, inr, refl, sym, ap, subst, ◌∙◌, nat_eq, arith, length-append}
use borrow.Author.Tests.{eqb-true}
use Rattle.std.specs.Prelude.{filter, slice_get, max}
use Rattle.std.specs.List.{find}
use Rattle.std.specs.Option.{unwrap_or}
use Rattle.std.specs.Ordering.{nat_cmp}
use Rattle.std.specs.FinMap.{get-empty}
use Rattle.std.proofs.Math.Nat.{max-le}
use Rattle.std.proofs.Math.Seq.{take-length, take-append_seam}
use Rattle.tree_laws.specs.declared.history.Entry.{Entry}
use Rattle.tree_laws.specs.Tree.{TreeState}
use Rattle.tree_laws.specs.History.{MayCome, IsLegal}
use Rattle.tree_laws.proofs.Histories.{IsLegal-push}
use Rattle.cut_laws.specs.declared.event.Event.{Event}
use Rattle.cut_laws.specs.declared.event.Event.TheVariants as event
use Rattle.cut_laws.specs.declared.event.Refused.TheVariants as refused
use Rattle.cut_laws.specs.Cut.{Cut, cut_of}
use Rattle.cut_laws.specs.Rules.{IsOneOf}
use Rattle.cut_laws.specs.Closure.{Counts, Flush, IsRaised, AreRaised, none, one_more}
use Rattle.cut_laws.specs.Machine.{Flight, MachineState, start_of, tree_now, flight_of, opened_for, flushes_kept_by, IsRaisedBy, BeginsFlight, Accepts}
use Rattle.cut_laws.specs.Runs.{IsRun, AreApart}
use Rattle.cut_laws.proofs.Basics.{below_or, in_either, in_left, in_right, is_next, none_below, none_some}
use Rattle.cut_laws.proofs.Listed.{from_map}
use Rattle.cut_laws.proofs.Prefix.{take_take}

-- The history is legal from the run's first tree; no cut and no flight's stamp lies above its length; and the flights have
-- different numbers, which are among those that were used.
pub record IsSteady (first : TreeState) (state : MachineState) : Type 0 where
  pub start : state.first ≡ first
  pub legal : IsLegal first state.history
  pub cuts : (node : ℕ) → cut_of state.cut node ≤ length state.history
  pub stamps : (flight : Flight) → IsOneOf state.flights flight → flight.flush.stamp ≤ length state.history
  pub used : (flight : Flight) → IsOneOf state.flights flight → IsOneOf state.used flight.commit
  pub apart : AreApart state.flights

-- A history that is the first part of another.
pub record IsPrefix (short long : List Entry) : Type 0 where
  pub first_part : take (length short) long ≡ short
  pub shorter : length short ≤ length long

-- the one that is found is one of the list, and passes the test
pub found_in : {X : Type 0} (w : X → Bool) (xs : List X) (x : X) → find w xs ≡ Some x → IsOneOf xs x × (w x ≡ true)
found_in w [] x found = absurd (none_some found)
found_in {X} w (y ∷ xs) x found =
    elim (w y) as (λ b. w y ≡ b → cond b (Some y) (find w xs) ≡ Some x → IsOneOf (y ∷ xs) x × (w x ≡ true)) [
      | true ↦ λ t f. let same = some_is f in (inl same, rw same at t)
      | false ↦ λ t f. let rest = found_in w xs x f in (inr rest.0, rest.1)
    ] refl found
  where
    some_is : Some y ≡ Some x → y ≡ x
    some_is e = cc

-- what passes a test was there
pub in_filter : {X : Type 0} (w : X → Bool) (xs : List X) (x : X) → IsOneOf (filter w xs) x → IsOneOf xs x × (w x ≡ true)
in_filter w [] x one = absurd one
in_filter {X} w (y ∷ xs) x one =
    elim (w y) as (λ b. w y ≡ b → IsOneOf (cond b (y ∷ filter w xs) (filter w xs)) x → IsOneOf (y ∷ xs) x × (w x ≡ true)) [
      | true ↦ λ t h. elim h [
        | inl same ↦ (inl same, rw same at t)
        | inr more ↦ let rest = in_filter w xs x more in (inr rest.0, rest.1)
      ]
      | false ↦ λ t h. let rest = in_filter w xs x h in (inr rest.0, rest.1)
    ] refl one

pub flight_found : (state : MachineState) (commit : ℕ) (flight : Flight) → flight_of state commit ≡ Some flight
    → IsOneOf state.flights flight × (flight.commit ≡ commit)
flight_found state commit flight found = let there = found_in (λ (other : Flight). nat_eq other.commit commit) state.flights flight found in
    (there.0, eqb-true _ _ there.1)

-- the fsyncs that a crash keeps are those of flights
pub kept_flush : (state : MachineState) (kept : List ℕ) (flush : Flush) → IsOneOf (flushes_kept_by state kept) flush
    → (flight : Flight) × IsOneOf state.flights flight × (flight.flush ≡ flush)
kept_flush state kept flush one =
    let from = from_map (λ (flight : Flight). flight.flush) _ flush one in
    (from.0, (in_filter _ state.flights from.0 from.1).0, from.2)

-- flights that are left have different numbers
apart_filter : (w : Flight → Bool) (flights : List Flight) → AreApart flights → AreApart (filter w flights)
apart_filter w [] apart = tt
apart_filter w (flight ∷ flights) apart =
    elim (w flight) as (λ b. AreApart (cond b (flight ∷ filter w flights) (filter w flights))) [
      | true ↦ (λ other one. apart.0 other (in_filter w flights other one).0, apart_filter w flights apart.1)
      | false ↦ apart_filter w flights apart.1
    ]

-- so have they once one is opened
apart_opened : (commit : ℕ) (flights : List Flight) → AreApart flights → AreApart (map (opened_for commit) flights)
apart_opened commit [] apart = tt
apart_opened commit (flight ∷ flights) apart = (
  λ other one same. let from = from_map (opened_for commit) flights other one in
      apart.0 from.0 from.1 (ap (λ (f : Flight). f.commit) from.2 ∙ same),
  apart_opened commit flights apart.1,
)

-- and with one more of another number
apart_more : (flights : List Flight) (flight : Flight) → AreApart flights → ((other : Flight) → IsOneOf flights other → other.commit ≢ flight.commit)
    → AreApart (flights ++ flight ∷ [])
apart_more [] flight apart new = (λ other one. absurd one, tt)
apart_more (first ∷ flights) flight apart new = (
  λ other one. elim (in_either flights (flight ∷ []) other one) [
    | inl old ↦ apart.0 other old
    | inr last ↦ elim last [
      | inl same ↦ λ e. new first (inl refl) (sym e ∙ sym (ap (λ (f : Flight). f.commit) same))
      | inr nothing ↦ absurd nothing
    ]
  ],
  apart_more flights flight apart.1 (λ other one. new other (inr one)),
)

-- fsyncs whose stamps are at most this raise no cut above it
pub raised_low : (first : TreeState) (history : List Entry) (counts : Counts) (cut : Cut) (inodes : ℕ → Bool) (flush : Flush) (raised : Cut) (n : ℕ)
    → IsRaised first history counts cut inodes flush raised → ((node : ℕ) → cut_of cut node ≤ n) → flush.stamp ≤ n → (node : ℕ) → cut_of raised node ≤ n
raised_low first history counts cut inodes flush raised n raise low stamp node = elim (raise.other node) [
  | inl member ↦ let e = raise.member node member in let le = both_low (low node) in omega arith
  | inr e ↦ let le = low node in omega arith
]
  where
    both_low : cut_of cut node ≤ n → max (cut_of cut node) flush.stamp ≤ n
    both_low le = max-le le stamp

pub cuts_stay_low : (first : TreeState) (history : List Entry) (counts : Counts) (n : ℕ) {cut : Cut} {inodes : ℕ → Bool} {flushes : List Flush} {raised : Cut}
    {after : ℕ → Bool}
    → AreRaised first history counts cut inodes flushes raised after → ((node : ℕ) → cut_of cut node ≤ n)
    → ((flush : Flush) → IsOneOf flushes flush → flush.stamp ≤ n) → (node : ℕ) → cut_of raised node ≤ n
cuts_stay_low first history counts n none low stamps = low
cuts_stay_low first history counts n (one_more flushes flush before raised inodes_before after was raise sets) low stamps =
    raised_low first history counts before inodes_before flush raised n raise
    (cuts_stay_low first history counts n was low (λ other one. stamps other (in_left flushes (flush ∷ []) other one)))
    (stamps flush (in_right flushes (flush ∷ []) flush (inl refl)))

-- an event stands at each place of a run
pub event_there : {X : Type 0} (xs : List X) (place : ℕ) → place < length xs → (x : X) × (slice_get xs place ≡ Some x)
event_there [] place lt = absurd (omega arith)
event_there (x ∷ xs) zero lt = (x, refl)
event_there (x ∷ xs) (suc place) lt = event_there xs place (omega arith)

length_more : (history : List Entry) (entry : Entry) → length (history ++ entry ∷ []) ≡ suc (length history)
length_more history entry = let e = length-append history (entry ∷ []) in omega arith

module _ (first : TreeState) where
  raised_steady : (old raised : MachineState) (flushes : List Flush) (flights : List Flight) (crashed : Bool) → IsRaisedBy old flushes raised
      → IsSteady first old → ((flush : Flush) → IsOneOf flushes flush → flush.stamp ≤ length old.history)
      → ((flight : Flight) → IsOneOf flights flight → IsOneOf old.flights flight) → AreApart flights
      → IsSteady first (record raised { flights = flights; crashed = crashed })
  raised_steady old raised flushes flights crashed by is stamps among apart = record {
    start = ap (λ (s : MachineState). s.first) by.others ∙ is.start;
    legal = rw same is.legal;
    cuts = λ node. rw same (cuts_stay_low old.first old.history _ (length old.history) by.raised is.cuts stamps node);
    stamps = λ flight one. rw same (is.stamps flight (among flight one));
    used =
        λ flight one. subst (λ (l : List ℕ). IsOneOf l flight.commit) (sym (ap (λ (s : MachineState). s.used) by.others)) (is.used flight (among flight one));
    apart = apart;
  }
    where
      same : raised.history ≡ old.history
      same = ap (λ (s : MachineState). s.history) by.others

  called_steady : (old : MachineState) (entry : Entry) → MayCome (tree_now old) (length old.history) entry → IsSteady first old
      → IsSteady first (record old { history = old.history ++ entry ∷ [] })
  called_steady old entry may is = record {
    start = is.start;
    legal = IsLegal-push first old.history entry is.legal (rw is.start at may);
    cuts = λ node. let le = is.cuts node in let e = length_more old.history entry in omega arith;
    stamps = λ flight one. let le = is.stamps flight one in let e = length_more old.history entry in omega arith;
    used = is.used;
    apart = is.apart;
  }

  begun_steady : (old : MachineState) (commit : ℕ) (flush : Flush) (flight : Flight) → BeginsFlight old commit flush flight → flush.stamp ≤ length old.history
      → (IsOneOf old.used commit → ⊥) → IsSteady first old
      → IsSteady first (record old { flights = old.flights ++ flight ∷ []; used = old.used ++ commit ∷ [] })
  begun_steady old commit flush flight begins low new is = record {
    start = is.start;
    legal = is.legal;
    cuts = is.cuts;
    stamps = λ other one. elim (in_either old.flights (flight ∷ []) other one) [
      | inl was ↦ is.stamps other was
      | inr last ↦ elim last [
        | inl same ↦ subst (λ (f : Flight). f.flush.stamp ≤ length old.history) same (subst (λ (f : Flush). f.stamp ≤ length old.history) (sym begins.own) low)
        | inr nothing ↦ absurd nothing
      ]
    ];
    used = λ other one. elim (in_either old.flights (flight ∷ []) other one) [
      | inl was ↦ in_left old.used (commit ∷ []) other.commit (is.used other was)
      | inr last ↦ elim last [
        | inl same ↦ in_right old.used (commit ∷ []) other.commit (inl (sym begins.number ∙ ap (λ (f : Flight). f.commit) same))
        | inr nothing ↦ absurd nothing
      ]
    ];
    apart = apart_more old.flights flight is.apart (λ other one same. new (rw (same ∙ begins.number) at (is.used other one)));
  }

  opened_steady : (old : MachineState) (commit : ℕ) → IsSteady first old → IsSteady first (record old { flights = map (opened_for commit) old.flights })
  opened_steady old commit is = record {
    start = is.start;
    legal = is.legal;
    cuts = is.cuts;
    stamps = λ flight one. let from = from_map (opened_for commit) old.flights flight one in
        subst (λ (f : Flight). f.flush.stamp ≤ length old.history) from.2 (is.stamps from.0 from.1);
    used = λ flight one. let from = from_map (opened_for commit) old.flights flight one in
        subst (λ (f : Flight). IsOneOf old.used f.commit) from.2 (is.used from.0 from.1);
    apart = apart_opened commit old.flights is.apart;
  }

  -- an event keeps it
  steady_step : (old : MachineState) (e : Event) (new : MachineState) → Accepts old e new → IsSteady first old → IsSteady first new
  steady_step old (event.Call entry) new takes is = rw takes.moves.1 (called_steady old entry takes.moves.0 is)
  steady_step old (event.CutAt commit node stamp) new takes is =
      rw takes.moves.2
      (begun_steady old commit (record { node = node.0; stamp = stamp.0 }) takes.moves.0 takes.moves.1 low
      (λ used. takes.free (refused.Used commit) (used, refl)) is)
    where
      low : stamp.0 ≤ length old.history
      low = elim (below_or (length old.history) stamp.0) [ inl lt ↦ absurd (takes.free (refused.Late stamp) (lt, refl)) | inr le ↦ le ]
  steady_step old (event.Opened commit) new takes is = rw takes.moves (opened_steady old commit is)
  steady_step old (event.Durable commit) new takes is =
      subst (IsSteady first) (sym takes.moves.4)
      (raised_steady old takes.moves.1 (flight.flush ∷ [])
      (filter (λ (other : Flight). not (nat_eq other.commit commit)) old.flights) takes.moves.1.crashed takes.moves.3 is (λ flush one. elim one [
        | inl same ↦ rw same at (is.stamps flight (flight_found old commit flight takes.moves.2).0)
        | inr nothing ↦ absurd nothing
      ]) (λ other one. (in_filter (λ (f : Flight). not (nat_eq f.commit commit)) old.flights other one).0)
      (apart_filter (λ (f : Flight). not (nat_eq f.commit commit)) old.flights is.apart))
    where
      flight : Flight
      flight = takes.moves.0
  steady_step old (event.Fail commit) new takes is =
      rw takes.moves (record { start = is.start; legal = is.legal; cuts = is.cuts; stamps = is.stamps; used = is.used; apart = is.apart })
  steady_step old (event.Crash kept) new takes is =
      rw takes.moves.2
      (raised_steady old takes.moves.0 (flushes_kept_by old kept.items) [] true takes.moves.1 is
      (λ flush one. let from = kept_flush old kept.items flush one in rw from.2 at (is.stamps from.0 from.1)) (λ flight one. absurd one) tt)

  start_steady : IsSteady first (start_of first)
  start_steady = record {
    start = refl;
    legal = tt;
    cuts = λ node. let e = ap (λ (o : Option ℕ). unwrap_or o 0) (get-empty nat_cmp node) in omega arith;
    stamps = λ flight one. absurd one;
    used = λ flight one. absurd one;
    apart = tt;
  }

  -- each state of a run is steady
  pub steady_at : (events : List Event) (states : ℕ → MachineState) → IsRun first events states → (place : ℕ) → place ≤ length events
      → IsSteady first (states place)
  steady_at events states run zero le = rw run.begins start_steady
  steady_at events states run (suc place) le =
      let there = event_there events place (omega arith) in
      steady_step (states place) there.0 (states (suc place)) (run.steps place there.0 there.1) (steady_at events states run place (omega arith))

-- a history is the first part of itself, and of what has it as a first part
pub prefix_itself : (history : List Entry) → IsPrefix history history
prefix_itself history = record { first_part = take-length history; shorter = omega arith }

pub prefix_onward : (a b c : List Entry) → IsPrefix a b → IsPrefix b c → IsPrefix a c
prefix_onward a b c p q = record {
  first_part = sym (take_take c (length a) (length b) p.shorter) ∙ ap (take (length a)) q.first_part ∙ p.first_part;
  shorter = let le = p.shorter in let more = q.shorter in omega arith;
}

prefix_more : (history : List Entry) (entry : Entry) → IsPrefix history (history ++ entry ∷ [])
prefix_more history entry = record { first_part = take-append_seam history (entry ∷ []); shorter = let e = length_more history entry in omega arith }

-- an event leaves the history or makes it longer
pub prefix_step : (old : MachineState) (e : Event) (new : MachineState) → Accepts old e new → IsPrefix old.history new.history
prefix_step old (event.Call entry) new takes = rw takes.moves.1 (prefix_more old.history entry)
prefix_step old (event.CutAt commit node stamp) new takes = rw takes.moves.2 (prefix_itself old.history)
prefix_step old (event.Opened commit) new takes = rw takes.moves (prefix_itself old.history)
prefix_step old (event.Durable commit) new takes =
    rw takes.moves.4 (rw (ap (λ (s : MachineState). s.history) takes.moves.3.others) (prefix_itself old.history))
prefix_step old (event.Fail commit) new takes = rw takes.moves (prefix_itself old.history)
prefix_step old (event.Crash kept) new takes =
    rw takes.moves.2 (rw (ap (λ (s : MachineState). s.history) takes.moves.1.others) (prefix_itself old.history))

-- each state's history is the first part of a later one's
pub prefix_later : (first : TreeState) (events : List Event) (states : ℕ → MachineState) → IsRun first events states → (place later : ℕ) → place ≤ later
    → later ≤ length events → IsPrefix (states place).history (states later).history
prefix_later first events states run place zero le within = rw (none_below place le) (prefix_itself (states 0).history)
prefix_later first events states run place (suc later) le within = elim (below_or later place) [
  | inl lt ↦ rw (is_next place later le lt) (prefix_itself (states (suc later)).history)
  | inr less ↦
      let there = event_there events later (omega arith) in
      prefix_onward (states place).history (states later).history (states (suc later)).history
      (prefix_later first events states run place later less (omega arith))
      (prefix_step (states later) there.0 (states (suc later)) (run.steps later there.0 there.1))
]
