-- A commit that became durable is covered from then on, and after a failure nothing but a crash moves the cut.
use Rattle.std.proofs.Common.{◌≡◌, ℕ, zero, suc, ◌<◌, ◌≤◌, Bool, true, false, List, [], ◌∷◌, length, take, Option, Some, inl, inr, refl, sym, ap, subst, ◌∙◌, arith}
use Rattle.std.specs.Prelude.{slice_get}
use Rattle.std.specs.Option.{option_or}
use Rattle.tree_laws.specs.declared.history.Entry.{Entry}
use Rattle.tree_laws.specs.Tree.{TreeState}
use Rattle.tree_laws.specs.History.{tree_after, IsLegal}
use Rattle.tree_laws.specs.Laws.{IsSoundTree}
use Rattle.tree_laws.proofs.FileHistories.{histories_keep_sound}
use Rattle.std.proofs.lemmas.Option.{slice_get_within}
use Rattle.cut_laws.specs.declared.event.Event.{Event}
use Rattle.cut_laws.specs.declared.event.Event.TheVariants as event
use Rattle.cut_laws.specs.declared.event.Refused.TheVariants as refused
use Rattle.cut_laws.specs.Cut.{Cut}
use Rattle.cut_laws.specs.Rules.{IsOneOf}
use Rattle.cut_laws.specs.Closure.{every_entry, Flush, HasLiveNode, HasNode, AreRaised, none, one_more}
use Rattle.cut_laws.specs.Covers.{IsCovered}
use Rattle.cut_laws.specs.Machine.{MachineState, Accepts}
use Rattle.cut_laws.specs.Runs.{IsRun, IsBegun, AreAlive}
use Rattle.cut_laws.specs.LawsRuns.{every_commit, DurablesAreCovered, HasSameCut, FailuresStopCuts}
use Rattle.cut_laws.proofs.Basics.{below_or, in_right, is_next, none_below}
use Rattle.sfs_base.proofs.BasicTruth.{not_both}
use Rattle.cut_laws.proofs.RunFacts.{steady_at, event_there}
use Rattle.cut_laws.proofs.Lists.{lists_cover}
use Rattle.cut_laws.proofs.Prefixes.{alive_node}
use Rattle.cut_laws.proofs.Begun.{begun_once}
use Rattle.cut_laws.proofs.Awaited.{durable_flies}
use Rattle.cut_laws.proofs.Stays.{live_begun}
use Rattle.cut_laws.proofs.Durables.{so_far, each_chosen, more_so_far, one_durable}
use Rattle.cut_laws.proofs.RaisedRuns.{begin_before, goes_on_at, flushed_at}
use Rattle.cut_laws.proofs.Covered.{raised_covers}

-- a live node is one
pub live_is_node : (first : TreeState) (history : List Entry) → IsSoundTree first → IsLegal first history → (flush : Flush) → HasLiveNode first history flush
    → HasNode first history flush
live_is_node first history is legal flush live =
    alive_node (tree_after first (take flush.stamp history)) flush.node (histories_keep_sound first history flush.stamp is legal).sound live

-- what fsyncs raise covers what was covered
raised_cover : (first : TreeState) (history : List Entry) {cut : Cut} {inodes : ℕ → Bool} {flushes : List Flush} {raised : Cut} {after : ℕ → Bool}
    → AreRaised first history every_entry cut inodes flushes raised after → (flush : Flush) → IsCovered first history cut flush
    → IsCovered first history raised flush
raised_cover first history none flush was = was
raised_cover first history (one_more flushes own before raised inodes_before after earlier raise sets) flush was =
    raised_covers first history before inodes_before own raised raise flush (raised_cover first history earlier flush was)

module _ (first : TreeState) (events : List Event) (states : ℕ → MachineState) (is : IsSoundTree first) (run : IsRun first events states)
    (alive : AreAlive first events states) where
  module _ (begin durable commit : ℕ) (flush : Flush) (begun : IsBegun events begin commit flush)
      (stands : slice_get events durable ≡ Some (event.Durable commit)) where
    covered_before : (place : ℕ) → durable < place → place ≤ length events → ((states place).crashed ≡ true → ⊥)
        → IsCovered first (states place).history (states place).cut flush
    covered_before place lt le goes =
        lists_cover first whole (so_far first events states run place every_commit place) (states place).cut (states place).inodes is legal
        (flushed_at first events states is run alive place le place (omega arith) goes) node flush mine
      where
        whole : List Entry
        whole = (states place).history

        legal : IsLegal first whole
        legal = (steady_at first events states run place le).legal

        node : (own : Flush) → IsOneOf (so_far first events states run place every_commit place) own → HasNode first whole own
        node own one =
            let chosen = each_chosen first events states run place every_commit place own one in
            live_is_node first whole is legal own
            (live_begun first events states is run alive place le chosen.begin chosen.commit own (let less = chosen.before in omega arith) chosen.begun)

        began : begin < durable
        began =
            let fly = durable_flies first events states is run alive (omega arith) durable commit stands in
            let before = begin_before first events states is run alive place le durable (omega arith) fly.0 fly.1 in
            let same = begun_once first events states run before.0 begin commit fly.0.flush flush (rw fly.2 at before.2) begun in
            let less = before.1 in
            omega arith

        mine : IsOneOf (so_far first events states run place every_commit place) flush
        mine = more_so_far first events states run place every_commit (suc durable) place (omega arith) flush
            (rw (one_durable first events states run place every_commit durable commit begin flush stands refl (let less = began in omega arith) begun)
            (in_right (so_far first events states run place every_commit durable) (flush ∷ []) flush (inl refl)))

    -- the event that ends a run covers what was covered
    ended_covers : (old : MachineState) (e : Event) (new : MachineState) → Accepts old e new → old.first ≡ first → (old.crashed ≡ true → ⊥) → new.crashed ≡ true
        → IsCovered first old.history old.cut flush → IsCovered first new.history new.cut flush
    ended_covers old (event.Call entry) new takes start goes ended was = absurd (goes (sym (ap (λ (s : MachineState). s.crashed) takes.moves.1) ∙ ended))
    ended_covers old (event.CutAt other node stamp) new takes start goes ended was =
        absurd (goes (sym (ap (λ (s : MachineState). s.crashed) takes.moves.2) ∙ ended))
    ended_covers old (event.Opened other) new takes start goes ended was = absurd (goes (sym (ap (λ (s : MachineState). s.crashed) takes.moves) ∙ ended))
    ended_covers old (event.Fail other) new takes start goes ended was = absurd (goes (sym (ap (λ (s : MachineState). s.crashed) takes.moves) ∙ ended))
    ended_covers old (event.Durable other) new takes start goes ended was =
        absurd (goes (sym (ap (λ (s : MachineState). s.crashed) takes.moves.3.others) ∙ sym (ap (λ (s : MachineState). s.crashed) takes.moves.4) ∙ ended))
    ended_covers old (event.Crash kept) new takes start goes ended was =
        subst (λ (s : MachineState). IsCovered first s.history s.cut flush) (sym takes.moves.2)
        (subst (λ (h : List Entry). IsCovered first h takes.moves.0.cut flush) (sym (ap (λ (s : MachineState). s.history) takes.moves.1.others))
        (raised_cover first old.history (rw start at takes.moves.1.raised) flush was))

    durable_goes : (states (suc durable)).crashed ≡ true → ⊥
    durable_goes ended =
        let takes = run.steps durable (event.Durable commit) stands in
        let lt = slice_get_within events durable (event.Durable commit) stands in
        goes_on_at first events states is run alive durable (omega arith) durable lt
        (sym (ap (λ (s : MachineState). s.crashed) takes.moves.3.others) ∙ sym (ap (λ (s : MachineState). s.crashed) takes.moves.4) ∙ ended)

    pub covered_at : (place : ℕ) → durable < place → place ≤ length events → IsCovered first (states place).history (states place).cut flush
    covered_at zero lt le = absurd (omega arith)
    covered_at (suc place) lt le =
        elim (states (suc place)).crashed as (λ b. (states (suc place)).crashed ≡ b
        → IsCovered first (states (suc place)).history (states (suc place)).cut flush) [
          | false ↦ λ goes. covered_before (suc place) lt le (λ ended. not_both ended goes)
          | true ↦ λ ended. elim (below_or durable place) [
            | inr ge ↦ absurd (durable_goes (rw (at_once ge lt) at ended))
            | inl less ↦
                let there = event_there events place (omega arith) in
                ended_covers (states place) there.0 (states (suc place)) (run.steps place there.0 there.1)
                (steady_at first events states run place (omega arith)).start
                (goes_on_at first events states is run alive place (omega arith) place (omega arith)) ended
                (covered_before place less (omega arith) (goes_on_at first events states is run alive place (omega arith) place (omega arith)))
          ]
        ] refl
      where
        at_once : place ≤ durable → durable < suc place → suc place ≡ suc durable
        at_once ge less = omega arith

pub durables_are_covered : DurablesAreCovered
durables_are_covered first events states begin durable place commit flush is run alive begun stands lt le =
    covered_at first events states is run alive begin durable commit flush begun stands place lt le

-- a step after a failure that is no crash leaves the cut, and the failure
record StaysFailed (old new : MachineState) (commit : ℕ) : Type 0 where
  same : HasSameCut old new
  failed : new.failed ≡ Some commit

failed_step : (old : MachineState) (e : Event) (new : MachineState) (commit : ℕ) → Accepts old e new → old.failed ≡ Some commit → (new.crashed ≡ true → ⊥)
    → StaysFailed old new commit
failed_step old (event.Call entry) new commit takes failed goes = rw takes.moves.1 (record { same = record { cut = refl; inodes = refl }; failed = failed })
failed_step old (event.CutAt other node stamp) new commit takes failed goes = absurd (takes.free (refused.Stopped commit) (refl, failed))
failed_step old (event.Opened other) new commit takes failed goes = absurd (takes.free (refused.Stopped commit) (refl, failed))
failed_step old (event.Durable other) new commit takes failed goes = absurd (takes.free (refused.Stopped commit) (refl, failed))
failed_step old (event.Fail other) new commit takes failed goes =
    rw takes.moves (record { same = record { cut = refl; inodes = refl }; failed = ap (λ (o : Option ℕ). option_or o (Some other)) failed })
failed_step old (event.Crash kept) new commit takes failed goes = absurd (goes (ap (λ (s : MachineState). s.crashed) takes.moves.2))

module _ (first : TreeState) (events : List Event) (states : ℕ → MachineState) (run : IsRun first events states) (place commit : ℕ)
    (failed : (states place).failed ≡ Some commit) where
  failed_at : (later : ℕ) → place ≤ later → later ≤ length events → ((states later).crashed ≡ true → ⊥) → StaysFailed (states place) (states later) commit
  failed_at zero le within goes = subst (λ (p : ℕ). StaysFailed (states place) (states p) commit) (none_below place le) here
    where
      here : StaysFailed (states place) (states place) commit
      here = record { same = record { cut = refl; inodes = refl }; failed = failed }
  failed_at (suc later) le within goes = elim (below_or later place) [
    | inl lt ↦
        subst (λ (p : ℕ). StaysFailed (states place) (states p) commit) (is_next place later le lt)
        (record { same = record { cut = refl; inodes = refl }; failed = failed })
    | inr less ↦
        let there = event_there events later (omega arith) in
        let was = failed_at later less (omega arith) ((run.steps later there.0 there.1).free refused.Crashed) in
        let now = failed_step (states later) there.0 (states (suc later)) commit (run.steps later there.0 there.1) was.failed goes in
        record { same = record { cut = now.same.cut ∙ was.same.cut; inodes = now.same.inodes ∙ was.same.inodes }; failed = now.failed }
  ]

pub failures_stop_cuts : FailuresStopCuts
failures_stop_cuts first events states place later commit run le within failed goes =
    (failed_at first events states run place commit failed later le within (λ ended. not_both ended goes)).same
