-- The nodes that matter to a commit while others become durable before it.
use Rattle.std.proofs.Common.{◌≡◌, ℕ, suc, ◌<◌, ◌≤◌, Bool, true, false, List, length, Some, ◌⊎◌, inl, inr, sym, ap, ◌∙◌, arith}
use Rattle.std.specs.Prelude.{slice_get}
use Rattle.tree_laws.specs.Tree.{TreeState}
use Rattle.tree_laws.specs.Laws.{IsSoundTree}
use Rattle.cut_laws.specs.declared.event.Event.{Event}
use Rattle.cut_laws.specs.declared.event.Event.TheVariants as event
use Rattle.cut_laws.specs.Cut.{Cut}
use Rattle.cut_laws.specs.Rules.{IsOneOf}
use Rattle.cut_laws.specs.Closure.{Flush}
use Rattle.cut_laws.specs.Machine.{Flight, MachineState}
use Rattle.cut_laws.specs.Runs.{IsRun, flush_by, IsBegun, AreAlive, view_of, Concerns, ComesBefore, ShareANode, AreTied}
use Rattle.cut_laws.proofs.Basics.{below_or, none_some}
use Rattle.sfs_base.proofs.BasicOptions.{some_same}
use Rattle.sfs_base.proofs.BasicTruth.{not_both}
use Rattle.cut_laws.proofs.RunFacts.{flight_found}
use Rattle.cut_laws.proofs.Begun.{begun_within, begun_once, one_flush}
use Rattle.cut_laws.proofs.Flying.{flight_before}
use Rattle.cut_laws.proofs.Stays.{Stays, StayApart}
use Rattle.cut_laws.proofs.Flights.{stay_apart}

module _ (first : TreeState) (events : List Event) (states : ℕ → MachineState) (is : IsSoundTree first) (run : IsRun first events states)
    (alive : AreAlive first events states) (within : length events ≤ length events) where
  -- what a commit concerned as it began, its flight concerns
  began_concerned : (flight : Flight) (cut : Cut) (inodes : ℕ → Bool) → Stays first events states is run alive (length events) within flight cut inodes
      → (begin : ℕ) (flush : Flush) → IsBegun events begin flight.commit flush → (node : ℕ) → Concerns first flush (view_of (states begin)) node
      → flight.concerned node ≡ true
  began_concerned flight cut inodes s begin flush begun node concerned =
      (s.at.theirs node).1
      (rw (begun_once first events states run begin s.begin flight.commit flush flight.flush begun s.at.begun) at
      (rw (one_flush first events states run begin s.begin flight.commit flush flight.flush begun s.at.begun) at concerned))

  -- a commit that becomes durable is a flight till then
  pub durable_flies : (place commit : ℕ) → slice_get events place ≡ Some (event.Durable commit)
      → (flight : Flight) × IsOneOf (states place).flights flight × (flight.commit ≡ commit)
  durable_flies place commit stands =
      let takes = run.steps place (event.Durable commit) stands in
      let found = flight_found (states place) commit takes.moves.0 takes.moves.2 in
      (takes.moves.0, found.0, found.1)

  -- where a commit becomes durable none begins
  none_begins : (place commit other : ℕ) (flush : Flush) → slice_get events place ≡ Some (event.Durable commit) → IsBegun events place other flush → ⊥
  none_begins place commit other flush stands begun = none_some (ap flush_by (some_same (sym stands ∙ begun.stands)) ∙ begun.begins)

  module _ (place commit : ℕ) (flush : Flush) (tied : ℕ → Bool) (begun : IsBegun events place commit flush)
      (tied_are : AreTied first events states commit tied) where
    -- A tied commit that becomes durable from a place on, before the commit begins.
    pub record IsToCome (from other : ℕ) : Type 0 where
      pub ties : tied other ≡ true
      pub durable : ℕ
      pub not_before : from ≤ durable
      pub earlier : durable < place
      pub stands : slice_get events durable ≡ Some (event.Durable other)

    -- A node that the commit concerns, or that such a tied one does.
    pub record IsAwaited (from node : ℕ) : Type 0 where
      pub other : ℕ
      pub begin : ℕ
      pub fsync : Flush
      pub begins : IsBegun events begin other fsync
      pub concerned : Concerns first fsync (view_of (states begin)) node
      pub when : (other ≡ commit) ⊎ IsToCome from other

    pub own_awaited : (from node : ℕ) → Concerns first flush (view_of (states place)) node → IsAwaited from node
    own_awaited from node concerned = record { other = commit; begin = place; fsync = flush; begins = begun; concerned = concerned; when = inl (λ i. commit) }

    pub still_awaited : (from node : ℕ) → IsAwaited (suc from) node → IsAwaited from node
    still_awaited from node w = record {
      other = w.other;
      begin = w.begin;
      fsync = w.fsync;
      begins = w.begins;
      concerned = w.concerned;
      when = elim w.when [
        | inl own ↦ inl own
        | inr come ↦
            inr
            (record {
              ties = come.ties;
              durable = come.durable;
              not_before = let le = come.not_before in
                  omega arith;
              earlier = come.earlier;
              stands = come.stands;
            })
      ];
    }

    module _ (from : ℕ) (lt : from < place) (raiser : Flight) (there : IsOneOf (states from).flights raiser)
        (stands : slice_get events from ≡ Some (event.Durable raiser.commit)) where
      from_within : from ≤ length events
      from_within = let less = begun_within first events states run place commit flush begun in omega arith

      kept : StayApart first events states is run alive (length events) within from
      kept = stay_apart first events states is run alive (length events) within from from_within

      its : Stays first events states is run alive (length events) within raiser (states from).cut (states from).inodes
      its = kept.each raiser there

      -- what a tied commit concerns as it becomes durable is awaited
      pub raiser_awaited : tied raiser.commit ≡ true → (node : ℕ) → raiser.concerned node ≡ true → IsAwaited from node
      raiser_awaited ties node concerned = record {
        other = raiser.commit;
        begin = its.begin;
        fsync = raiser.flush;
        begins = its.at.begun;
        concerned = (its.at.theirs node).0 concerned;
        when = inr (record { ties = ties; durable = from; not_before = omega arith; earlier = lt; stands = stands });
      }

      share : (node : ℕ) → raiser.concerned node ≡ true → (other begin : ℕ) (own : Flush) → IsBegun events begin other own
          → Concerns first own (view_of (states begin)) node → ShareANode first events states raiser.commit other
      share node theirs other begin own begins concerned = record {
        node = node;
        place = its.begin;
        flush = raiser.flush;
        begun = its.at.begun;
        concerned = (its.at.theirs node).0 theirs;
        other_place = begin;
        other_flush = own;
        other_begun = begins;
        other_concerned = concerned;
      }

      comes : (other later : ℕ) (own : Flush) → IsBegun events later other own → from < later → ComesBefore events raiser.commit other
      comes other later own begins before = record { place = from; durable = stands; later = later; flush = own; begun = begins; before = before }

      -- a tied commit that has begun shares no node with another flight
      begun_shares_none : tied raiser.commit ≡ false → (node : ℕ) (w : IsAwaited (suc from) node) → IsToCome (suc from) w.other → w.begin ≤ from
          → raiser.concerned node ≡ true → ⊥
      begun_shares_none untied node w come before theirs =
          let fly = durable_flies come.durable w.other come.stands in
          elim (flight_before first events states run from come.durable (let le = come.not_before in omega arith)
          (let less = come.earlier in let more = begun_within first events states run place commit flush begun in omega arith) fly.0 fly.1) [
            | inl among ↦
                let number = among.commit ∙ fly.2 in
                kept.apart raiser among.was there among.there (λ e. not_both come.ties (rw (e ∙ number) at untied)) node theirs
                (began_concerned among.was (states from).cut (states from).inodes (kept.each among.was among.there) w.begin w.fsync
                (rw number w.begins) node w.concerned)
            | inr late ↦
                let again = begun_once first events states run late.0 w.begin w.other fly.0.flush w.fsync (rw fly.2 at late.3) w.begins in
                let same = at_once late.0 again late.1 in
                none_begins from raiser.commit w.other w.fsync stands (rw same at w.begins)
          ]
        where
          at_once : (b : ℕ) → b ≡ w.begin → from ≤ b → w.begin ≡ from
          at_once b e le = omega arith

      -- a commit that isn't tied concerns nothing that is still awaited
      pub untied_apart : tied raiser.commit ≡ false → (node : ℕ) → IsAwaited (suc from) node → raiser.concerned node ≡ true → ⊥
      untied_apart untied node w theirs = elim w.when [
        | inl own ↦
            not_both
            (tied_are.own raiser.commit (comes commit place flush begun lt) (rw own at (share node theirs w.other w.begin w.fsync w.begins w.concerned)))
            untied
        | inr come ↦ elim (below_or from w.begin) [
          | inl less ↦
              not_both
              (tied_are.theirs w.other raiser.commit come.ties (comes w.other w.begin w.fsync w.begins less)
              (share node theirs w.other w.begin w.fsync w.begins w.concerned))
              untied
          | inr le ↦ begun_shares_none untied node w come le theirs
        ]
      ]
