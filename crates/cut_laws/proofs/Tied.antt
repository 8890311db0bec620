-- A commit is the one that it would have been, had only the commits come before it to which it is tied.
use Rattle.std.proofs.Common.{◌≡◌, ℕ, zero, suc, ◌<◌, ◌≤◌, Bool, true, false, List, [], ◌∷◌, length, take, Some, is_some, inl, inr, refl, sym, ap, subst, ◌∙◌, arith}
use borrow.Author.Tests.{lt-ltb}
use Rattle.std.specs.Prelude.{slice_get, max}
use Rattle.std.specs.FinMap.{get, empty}
use Rattle.std.proofs.Math.Nat.{le-max_left, le-max_right, max-le}
use Rattle.tree_laws.specs.declared.history.Entry.{Entry}
use Rattle.tree_laws.specs.Tree.{TreeState}
use Rattle.tree_laws.specs.History.{IsLegal}
use Rattle.tree_laws.specs.Laws.{IsSoundTree}
use Rattle.cut_laws.specs.declared.event.Event.{Event}
use Rattle.cut_laws.specs.declared.event.Event.TheVariants as event
use Rattle.cut_laws.specs.declared.event.Refused.TheVariants as refused
use Rattle.cut_laws.specs.Cut.{Cut, cut_of}
use Rattle.cut_laws.specs.Rules.{IsOneOf}
use Rattle.cut_laws.specs.Closure.{Counts, every_entry, Flush, HasLiveNode, IsConcerned, IsRaised, AreInodesAfter, AreRaised, none, one_more, AreFlushed}
use Rattle.cut_laws.specs.Machine.{Flight, MachineState}
use Rattle.cut_laws.specs.Runs.{IsRun, IsBegun, AreAlive, view_of, IsOneCommit, AreTied, CountEnough, view_by}
use Rattle.cut_laws.specs.Laws.{CommitsAreTied}
use Rattle.cut_laws.proofs.Basics.{below_or, in_left, in_right}
use Rattle.cut_laws.proofs.Views.{below, AreAlike, IsHeld, Agree}
use Rattle.cut_laws.proofs.RunFacts.{IsSteady, prefix_later, steady_at, event_there, cuts_stay_low}
use Rattle.cut_laws.proofs.Lists.{nothing_within}
use Rattle.cut_laws.proofs.Held.{first_held, held_at}
use Rattle.cut_laws.proofs.Alike.{inodes_alike}
use Rattle.cut_laws.proofs.OneCommit.{alike_back, alike_then, then_alike}
use Rattle.cut_laws.proofs.Recount.{recounts}
use Rattle.cut_laws.proofs.RaisesHold.{raises_hold}
use Rattle.cut_laws.proofs.Agree.{agree_itself, agree_back, agree_on, agrees}
use Rattle.cut_laws.proofs.Raising.{raise_apart, raise_both}
use Rattle.cut_laws.proofs.RaiseLists.{RaisedLast, raised_last, nothing_raised, raised_once}
use Rattle.cut_laws.proofs.Begun.{begun_within, begun_low}
use Rattle.cut_laws.proofs.Flying.{CutStep, stays, raises, ends, cut_step, flight_before}
use Rattle.cut_laws.proofs.Stays.{legal_whole, whole_alike, live_begun, begun_alike, Stays, stays_concerned}
use Rattle.cut_laws.proofs.Flights.{stay_apart}
use Rattle.cut_laws.proofs.Durables.{not_chosen, so_far, each_chosen, more_so_far, none_more, one_durable, greatest, at_most_greatest, greatest_least, below_greater, below_greatest}
use Rattle.cut_laws.proofs.Awaited.{IsAwaited, own_awaited, still_awaited, raiser_awaited, untied_apart}

module _ (first : TreeState) (events : List Event) (states : ℕ → MachineState) (is : IsSoundTree first) (run : IsRun first events states)
    (alive : AreAlive first events states) (within : length events ≤ length events)
    (place commit : ℕ) (flush : Flush) (tied : ℕ → Bool) (begun : IsBegun events place commit flush) (tied_are : AreTied first events states commit tied)
    (counts : Counts) (enough : CountEnough events commit flush tied counts) where
  abbrev whole : List Entry
  whole = (states (length events)).history

  abbrev all : ℕ
  all = length whole

  legal : IsLegal first whole
  legal = legal_whole first events states is run alive (length events) within

  -- the tied fsyncs of the first events
  abbrev tied_till : ℕ → List Flush
  tied_till so_many = so_far first events states run place tied so_many

  -- the greatest stamp of the commit and of those to which it is tied
  abbrev most : ℕ
  most = max flush.stamp (greatest (tied_till place))

  place_within : place < length events
  place_within = begun_within first events states run place commit flush begun

  stamp_low : (begin other : ℕ) (own : Flush) → IsBegun events begin other own → own.stamp ≤ all
  stamp_low begin other own begins =
      let low = begun_low first events states run begin other own begins in
      let less = begun_within first events states run begin other own begins in
      let shorter = (prefix_later first events states run begin (length events) (omega arith) within).shorter in
      omega arith

  chosen_low : (own : Flush) → IsOneOf (tied_till place) own → own.stamp ≤ all
  chosen_low own one = let chosen = each_chosen first events states run place tied place own one in stamp_low chosen.begin chosen.commit own chosen.begun

  most_low : most ≤ all
  most_low = max-le (stamp_low place commit flush begun) (greatest_least (tied_till place) all chosen_low)

  -- all below it count
  all_count : (t : ℕ) → t < most → counts t ≡ true
  all_count t lt = elim (below_greater t flush.stamp (greatest (tied_till place)) lt) [
    | inl less ↦ enough.own t less
    | inr less ↦
        let one = below_greatest (tied_till place) t less in
        let chosen = each_chosen first events states run place tied place one.0 one.1 in
        enough.theirs chosen.commit one.0 t chosen.fsync.is_chosen
        (record { place = chosen.durable; durable = chosen.stands; later = place; flush = flush; begun = begun; before = chosen.earlier }) chosen.fsync.own
        one.2
  ]

  -- An fsync of a live node, at a stamp that is not above the greatest.
  record IsFit (own : Flush) : Type 0 where
    low : own.stamp ≤ most
    live : HasLiveNode first whole own

  own_fit : IsFit flush
  own_fit =
      record {
        low = le-max_left flush.stamp (greatest (tied_till place));
        live = live_begun first events states is run alive (length events) within place commit flush (let less = place_within in omega arith) begun;
      }

  tied_fit : (so_many : ℕ) → so_many ≤ place → (own : Flush) → IsOneOf (tied_till so_many) own → IsFit own
  tied_fit so_many le own one =
      let chosen = each_chosen first events states run place tied so_many own one in
      let less = begun_within first events states run chosen.begin chosen.commit own chosen.begun in
      record {
        low = let low = at_most_greatest (tied_till place) own (more_so_far first events states run place tied so_many place le own one) in
            let up = le-max_right flush.stamp (greatest (tied_till place)) in omega arith;
        live = live_begun first events states is run alive (length events) within chosen.begin chosen.commit own (omega arith) chosen.begun;
      }

  abbrev TheirCuts : List Flush → Cut → (ℕ → Bool) → Type 0
  TheirCuts flushes cut inodes = AreFlushed first whole counts flushes cut inodes

  cuts_low : {flushes : List Flush} {cut : Cut} {inodes : ℕ → Bool} → TheirCuts flushes cut inodes → ((own : Flush) → IsOneOf flushes own → IsFit own)
      → (node : ℕ) → cut_of cut node ≤ most
  cuts_low flushed fit = cuts_stay_low first whole counts most flushed (λ node. none_above node) (λ own one. (fit own one).low)
    where
      none_above : (node : ℕ) → cut_of empty node ≤ most
      none_above node = elim (below_or most (cut_of empty node)) [ inl lt ↦ nothing_within most node lt | inr le ↦ le ]

  -- an fsync does by the entries that count what it does by all
  counted_alike : (own : Flush) (cut : Cut) (inodes : ℕ → Bool) → IsFit own → ((node : ℕ) → cut_of cut node ≤ most) → IsHeld first whole cut inodes
      → AreAlike first own (view_by whole counts cut inodes) (view_by whole (below all) cut inodes)
  counted_alike own cut inodes fit low held =
      recounts first whole most counts (below all) own cut inodes is legal all_count
      (λ t lt. lt-ltb t all (let le = most_low in omega arith)) low fit.low fit.live held

  their_held : {flushes : List Flush} {cut : Cut} {inodes : ℕ → Bool} → TheirCuts flushes cut inodes → ((own : Flush) → IsOneOf flushes own → IsFit own)
      → IsHeld first whole cut inodes
  their_held none fit = first_held first whole is legal
  their_held (one_more flushes own before raised inodes_before after was raise sets) fit =
      let earlier = λ (other : Flush) (one : IsOneOf flushes other). fit other (in_left flushes (own ∷ []) other one) in
      let own_is = fit own (in_right flushes (own ∷ []) own (inl refl)) in
      let low = cuts_low was earlier in
      let held = their_held was earlier in
      let alike = counted_alike own before inodes_before own_is low held in
      raises_hold first whole all own before raised inodes_before after is legal (λ node. let le = low node in let more = most_low in omega arith)
      (let le = own_is.low in let more = most_low in omega arith) own_is.live held ((alike.raises raised).0 raise)
      (inodes_alike first own _ _ raised after alike raise sets)

  abbrev Awaited : ℕ → ℕ → Type 0
  Awaited from node = IsAwaited first events states is run alive within place commit flush tied begun tied_are from node

  -- the cuts agree on what is awaited
  abbrev AgreeAt : ℕ → Cut → (ℕ → Bool) → Type 0
  AgreeAt from cut inodes = (node : ℕ) → Awaited from node → Agree first whole all (states from).cut cut (states from).inodes inodes node

  abbrev AgreeAll : ℕ → Type 0
  AgreeAll from = (cut : Cut) (inodes : ℕ → Bool) → TheirCuts (tied_till from) cut inodes → AgreeAt from cut inodes

  agree_first : AgreeAll 0
  agree_first cut inodes flushed node awaited =
      let same = nothing_raised first whole counts empty (λ node. is_some (get first.nodes node)) flushed refl in
      subst (λ (s : MachineState). Agree first whole all s.cut cut s.inodes inodes node) (sym run.begins)
      (subst (λ (c : Cut). Agree first whole all empty c (λ x. is_some (get first.nodes x)) inodes node) same.0
      (subst (λ (i : ℕ → Bool). Agree first whole all empty empty (λ x. is_some (get first.nodes x)) i node) same.1
      (agree_itself first whole all empty (λ x. is_some (get first.nodes x)) node)))

  module _ (from : ℕ) (lt : from < place) (again : AgreeAll from) (raiser : Flight) (there : IsOneOf (states from).flights raiser)
      (stands : slice_get events from ≡ Some (event.Durable raiser.commit))
      (are : AreRaised first (states from).history every_entry (states from).cut (states from).inodes (raiser.flush ∷ []) (states (suc from)).cut
      (states (suc from)).inodes) where
    from_within : from ≤ length events
    from_within = let less = place_within in omega arith

    steady : IsSteady first (states from)
    steady = steady_at first events states run from from_within

    its : Stays first events states is run alive (length events) within raiser (states from).cut (states from).inodes
    its = (stay_apart first events states is run alive (length events) within from from_within).each raiser there

    its_alike : AreAlike first raiser.flush (view_of (states from)) (view_by whole (below all) ((states from).cut) ((states from).inodes))
    its_alike =
        whole_alike first events states is run alive (length events) within from from_within raiser.flush (states from).cut (states from).inodes
        (steady.stamps raiser there)
        (live_begun first events states is run alive (length events) within its.begin raiser.commit raiser.flush its.earlier its.at.begun) steady.cuts
        (held_at first events states is run alive (length events) within from from_within)

    once : IsRaised first (states from).history every_entry (states from).cut (states from).inodes raiser.flush (states (suc from)).cut
        × AreInodesAfter first (states from).history every_entry (states from).cut (states from).inodes raiser.flush (states (suc from)).cut
        (states (suc from)).inodes
    once =
        raised_once first (states from).history every_entry (states from).cut (states from).inodes raiser.flush (states (suc from)).cut
        (states (suc from)).inodes are

    raise : IsRaised first whole (below all) (states from).cut (states from).inodes raiser.flush (states (suc from)).cut
    raise = (its_alike.raises (states (suc from)).cut).0 once.0

    sets : AreInodesAfter first whole (below all) (states from).cut (states from).inodes raiser.flush (states (suc from)).cut (states (suc from)).inodes
    sets = inodes_alike first raiser.flush _ _ (states (suc from)).cut (states (suc from)).inodes its_alike once.0 once.1

    concerns : (node : ℕ) → IsConcerned first whole (below all) (states from).cut (states from).inodes raiser.flush node → raiser.concerned node ≡ true
    concerns node concerned =
        stays_concerned first events states is run alive (length events) within raiser (states from).cut (states from).inodes its node concerned

    still : (node : ℕ) → Awaited (suc from) node → Awaited from node
    still node awaited = still_awaited first events states is run alive within place commit flush tied begun tied_are from node awaited

    -- a commit that isn't tied raises the run's cut alone
    untied_step : tied raiser.commit ≡ false → AgreeAll (suc from)
    untied_step untied cut inodes flushed node awaited =
        agree_on first whole all (states (suc from)).cut (states from).cut cut (states (suc from)).inodes (states from).inodes inodes node
        (agree_back first whole all (states from).cut (states (suc from)).cut (states from).inodes (states (suc from)).inodes node
        (raise_apart first whole all raiser.flush (states from).cut (states (suc from)).cut (states from).inodes (states (suc from)).inodes raise sets node
        (λ concerned. untied_apart first events states is run alive within place commit flush tied begun tied_are from lt raiser there stands untied
        node awaited
        (concerns node concerned))))
        (again cut inodes
        (rw
        (none_more first events states run place tied from (event.Durable raiser.commit) stands
        (not_chosen (take place events) tied raiser.commit untied))
        at flushed)
        node
        (still node awaited))

    -- a tied one raises both
    its_begin : (begin : ℕ) × (begin < place) × IsBegun events begin raiser.commit raiser.flush
    its_begin = elim (flight_before first events states run 0 from (omega arith) from_within raiser there) [
      | inl among ↦ absurd (rw run.begins at among.there)
      | inr later ↦ (later.0, let less = later.2 in omega arith, later.3)
    ]

    tied_step : tied raiser.commit ≡ true → AgreeAll (suc from)
    tied_step ties cut inodes flushed node awaited =
        raise_both first whole all is legal raiser.flush (states from).cut last.before (states from).inodes last.inodes_before
        (λ x concerned. again last.before last.inodes_before last.earlier x
        (raiser_awaited first events states is run alive within place commit flush tied begun tied_are from lt raiser there stands ties x
        (concerns x concerned)))
        (states (suc from)).cut cut (states (suc from)).inodes inodes raise ((alike.raises cut).0 last.raise) sets
        (inodes_alike first raiser.flush _ _ cut inodes alike last.raise last.sets) node
        (again last.before last.inodes_before last.earlier node (still node awaited))
      where
        last : RaisedLast first whole counts empty (λ x. is_some (get first.nodes x)) (tied_till from) raiser.flush cut inodes
        last =
            raised_last first whole counts empty (λ x. is_some (get first.nodes x)) flushed (tied_till from) raiser.flush
            (one_durable first events states run place tied from raiser.commit its_begin.0 raiser.flush stands ties its_begin.1 its_begin.2)

        now_one : IsOneOf (tied_till (suc from)) raiser.flush
        now_one =
            rw (one_durable first events states run place tied from raiser.commit its_begin.0 raiser.flush stands ties its_begin.1 its_begin.2)
            (in_right (tied_till from) (raiser.flush ∷ []) raiser.flush (inl refl))

        fit : (own : Flush) → IsOneOf (tied_till from) own → IsFit own
        fit = tied_fit from (omega arith)

        alike : AreAlike first raiser.flush (view_by whole counts last.before last.inodes_before) (view_by whole (below all) last.before last.inodes_before)
        alike =
            counted_alike raiser.flush last.before last.inodes_before (tied_fit (suc from) (omega arith) raiser.flush now_one) (cuts_low last.earlier fit)
            (their_held last.earlier fit)

  agree_step : (from : ℕ) (e : Event) → from < place → slice_get events from ≡ Some e → CutStep first (states from) (states (suc from)) e → AgreeAll from
      → AgreeAll (suc from)
  agree_step from e lt stands (stays cuts inodes_are no_durable) again = λ cut inodes flushed node awaited.
      subst (λ (c : Cut). Agree first whole all c cut (states (suc from)).inodes inodes node) cuts
      (subst (λ (i : ℕ → Bool). Agree first whole all (states from).cut cut i inodes node) inodes_are
      (again cut inodes (rw (none_more first events states run place tied from e stands (no_durable (take place events) tied)) at flushed) node
      (still_awaited first events states is run alive within place commit flush tied begun tied_are from node awaited)))
  agree_step from e lt stands (raises durable raiser same there number are others) again =
      elim (tied raiser.commit) as (λ b. tied raiser.commit ≡ b → AgreeAll (suc from)) [
        | true ↦ λ ties. tied_step from lt again raiser there here are ties
        | false ↦ λ untied. untied_step from lt again raiser there here are untied
      ] refl
    where
      here : slice_get events from ≡ Some (event.Durable raiser.commit)
      here = stands ∙ ap Some (same ∙ ap event.Durable (sym number))
  agree_step from e lt stands (ends gone ended) again =
      let less = place_within in
      let there = event_there events (suc from) (omega arith) in
      absurd ((run.steps (suc from) there.0 there.1).free refused.Crashed ended)

  -- at each place up to that of the commit they agree
  agree_at : (from : ℕ) → from ≤ place → AgreeAll from
  agree_at zero le = agree_first
  agree_at (suc from) le =
      let less = place_within in
      let there = event_there events from (omega arith) in
      agree_step from there.0 (omega arith) there.1
      (cut_step first (states from) there.0 (states (suc from)) (steady_at first events states run from (omega arith)).start
      (run.steps from there.0 there.1))
      (agree_at from (omega arith))

  module _ (cut : Cut) (inodes : ℕ → Bool) (flushed : TheirCuts (tied_till place) cut inodes) where
    own_alike : AreAlike first flush (view_of (states place)) (view_by whole (below all) ((states place).cut) ((states place).inodes))
    own_alike = begun_alike first events states is run alive (length events) within place commit flush (let less = place_within in omega arith) begun

    agree_own : (node : ℕ) → IsConcerned first whole (below all) (states place).cut (states place).inodes flush node
        → Agree first whole all (states place).cut cut (states place).inodes inodes node
    agree_own node concerned =
        agree_at place (omega arith) cut inodes flushed node
        (own_awaited first events states is run alive within place commit flush tied begun tied_are place node ((own_alike.concerned node).1 concerned))

    fit : (own : Flush) → IsOneOf (tied_till place) own → IsFit own
    fit = tied_fit place (omega arith)

    tied_commit : IsOneCommit first flush (view_of (states place)) (view_by whole counts cut inodes)
    tied_commit =
        alike_then first flush (view_of (states place)) (view_by whole (below all) ((states place).cut) ((states place).inodes))
        (view_by whole counts cut inodes) own_alike
        (then_alike first flush (view_by whole (below all) ((states place).cut) ((states place).inodes)) (view_by whole (below all) cut inodes)
        (view_by whole counts cut inodes)
        (agrees first whole all flush (states place).cut cut (states place).inodes inodes is legal agree_own)
        (alike_back first flush (view_by whole counts cut inodes) (view_by whole (below all) cut inodes)
        (counted_alike flush cut inodes own_fit (cuts_low flushed fit) (their_held flushed fit))))

pub commits_are_tied : CommitsAreTied
commits_are_tied first events states place commit flush tied counts cut inodes is run alive begun tied_are enough flushed =
    tied_commit first events states is run alive (omega arith) place commit flush tied begun tied_are counts enough cut inodes flushed
