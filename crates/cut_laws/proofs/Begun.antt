-- Where the commits of a run begin.
use Rattle.std.proofs.Common.{◌≡◌, ℕ, zero, suc, ◌<◌, ◌≤◌, true, List, [], ◌∷◌, length, Some, inl, inr, refl, sym, ap, subst, ◌∙◌, arith}
use Rattle.std.specs.Prelude.{slice_get}
use Rattle.std.proofs.lemmas.Option.{slice_get_within}
use Rattle.sfs_base.specs.declared.numbers.NodeId.{NodeId}
use Rattle.sfs_base.specs.declared.numbers.Stamp.{Stamp}
use Rattle.tree_laws.specs.Tree.{TreeState}
use Rattle.cut_laws.specs.declared.event.Event.{Event}
use Rattle.cut_laws.specs.declared.event.Event.TheVariants as event
use Rattle.cut_laws.specs.declared.event.Refused.TheVariants as refused
use Rattle.cut_laws.specs.Rules.{IsOneOf}
use Rattle.cut_laws.specs.Closure.{Flush}
use Rattle.cut_laws.specs.Machine.{Flight, MachineState, IsShared, Accepts}
use Rattle.cut_laws.specs.Runs.{IsRun, flush_by, IsBegun, view_of, Concerns}
use Rattle.cut_laws.proofs.Basics.{below_or, in_left, in_right, is_next, none_below}
use Rattle.sfs_base.proofs.BasicOptions.{some_same}
use Rattle.cut_laws.proofs.RunFacts.{steady_at, event_there}

-- The event that begins a commit.
pub record IsCutAt (e : Event) (commit : ℕ) (flush : Flush) : Type 0 where
  pub node : NodeId
  pub stamp : Stamp
  pub same : e ≡ event.CutAt commit node stamp
  pub own : record { node = node.0; stamp = stamp.0 } ≡ flush

pub cut_at : (e : Event) (commit : ℕ) (flush : Flush) → flush_by e ≡ Some (commit, flush) → IsCutAt e commit flush
cut_at (event.CutAt other node stamp) commit flush e =
    record {
      node = node;
      stamp = stamp;
      same = ap (λ (c : ℕ). event.CutAt c node stamp) (ap (λ (begun : ℕ × Flush). begun.0) (some_same e));
      own = ap (λ (begun : ℕ × Flush). begun.1) (some_same e);
    }
cut_at (event.Call entry) commit flush e = cc
cut_at (event.Opened other) commit flush e = cc
cut_at (event.Durable other) commit flush e = cc
cut_at (event.Fail other) commit flush e = cc
cut_at (event.Crash kept) commit flush e = cc

-- a number that was used stays so
used_step : (old : MachineState) (e : Event) (new : MachineState) (commit : ℕ) → Accepts old e new → IsOneOf old.used commit → IsOneOf new.used commit
used_step old (event.Call entry) new commit takes used = subst (λ (s : MachineState). IsOneOf s.used commit) (sym takes.moves.1) used
used_step old (event.CutAt other node stamp) new commit takes used =
    subst (λ (s : MachineState). IsOneOf s.used commit) (sym takes.moves.2) (in_left old.used (other ∷ []) commit used)
used_step old (event.Opened other) new commit takes used = subst (λ (s : MachineState). IsOneOf s.used commit) (sym takes.moves) used
used_step old (event.Durable other) new commit takes used =
    rw takes.moves.4 (rw (ap (λ (s : MachineState). s.used) takes.moves.3.others) used)
used_step old (event.Fail other) new commit takes used = subst (λ (s : MachineState). IsOneOf s.used commit) (sym takes.moves) used
used_step old (event.Crash kept) new commit takes used =
    rw takes.moves.2 (rw (ap (λ (s : MachineState). s.used) takes.moves.1.others) used)

-- no flight concerns what a commit concerns that begins
none_shared : (old : MachineState) (commit : ℕ) (node : NodeId) (stamp : Stamp) (new : MachineState) → Accepts old (event.CutAt commit node stamp) new
    → (bound x : ℕ) → x < bound → IsShared old (record { node = node.0; stamp = stamp.0 }) x → ⊥
none_shared old commit node stamp new takes zero x lt shared = absurd (omega arith)
none_shared old commit node stamp new takes (suc bound) x lt shared =
    takes.free (refused.Meets (record { 0 = x })) (
      shared,
      λ other also. elim (below_or other x) [
        | inl less ↦ absurd (none_shared old commit node stamp new takes bound other (omega arith) also)
        | inr le ↦ le
      ],
    )

module _ (first : TreeState) (events : List Event) (states : ℕ → MachineState) (run : IsRun first events states) where
  -- a commit begins within the events
  pub begun_within : (place commit : ℕ) (flush : Flush) → IsBegun events place commit flush → place < length events
  begun_within place commit flush begun = slice_get_within events place begun.event begun.stands

  -- a state takes the event that begins a commit
  pub takes_cut : (place commit : ℕ) (flush : Flush) (begun : IsBegun events place commit flush) → let cut = cut_at begun.event commit flush begun.begins in
      Accepts (states place) (event.CutAt commit cut.node cut.stamp) (states (suc place))
  takes_cut place commit flush begun =
      let cut = cut_at begun.event commit flush begun.begins in
      run.steps place (event.CutAt commit cut.node cut.stamp) (begun.stands ∙ ap Some cut.same)

  -- its stamp is at most the count of calls
  pub begun_low : (place commit : ℕ) (flush : Flush) → IsBegun events place commit flush → flush.stamp ≤ length (states place).history
  begun_low place commit flush begun =
      let cut = cut_at begun.event commit flush begun.begins in
      subst (λ (f : Flush). f.stamp ≤ length (states place).history) cut.own (elim (below_or (length (states place).history) cut.stamp.0) [
        | inl lt ↦ absurd ((takes_cut place commit flush begun).free (refused.Late cut.stamp) (lt, refl))
        | inr le ↦ le
      ])

  -- the numbers that are used in a state are so in later ones
  used_later : (place later commit : ℕ) → place ≤ later → later ≤ length events → IsOneOf (states place).used commit → IsOneOf (states later).used commit
  used_later place zero commit le within used = subst (λ (p : ℕ). IsOneOf (states p).used commit) (none_below place le) used
  used_later place (suc later) commit le within used = elim (below_or later place) [
    | inl lt ↦ rw (is_next place later le lt) at used
    | inr less ↦
        let there = event_there events later (omega arith) in
        used_step (states later) there.0 (states (suc later)) commit (run.steps later there.0 there.1) (used_later place later commit less (omega arith) used)
  ]

  begun_used : (place commit : ℕ) (flush : Flush) → IsBegun events place commit flush → IsOneOf (states (suc place)).used commit
  begun_used place commit flush begun =
      let takes = takes_cut place commit flush begun in
      rw takes.moves.2 (in_right (states place).used (commit ∷ []) commit (inl refl))

  never_again : (place later commit : ℕ) (flush other : Flush) → place < later → IsBegun events place commit flush → IsBegun events later commit other → ⊥
  never_again place later commit flush other lt begun again =
      let within = begun_within later commit other again in
      (takes_cut later commit other again).free (refused.Used commit)
      (used_later (suc place) later commit (omega arith) (omega arith) (begun_used place commit flush begun), refl)

  -- a commit begins once
  pub begun_once : (place later commit : ℕ) (flush other : Flush) → IsBegun events place commit flush → IsBegun events later commit other → place ≡ later
  begun_once place later commit flush other begun again = elim (below_or place later) [
    | inl lt ↦ absurd (never_again place later commit flush other lt begun again)
    | inr le ↦ elim (below_or later place) [
      | inl lt ↦ absurd (never_again later place commit other flush lt again begun)
      | inr ge ↦ omega arith
    ]
  ]

  -- for one fsync
  pub one_flush : (place later commit : ℕ) (flush other : Flush) → IsBegun events place commit flush → IsBegun events later commit other → flush ≡ other
  one_flush place later commit flush other begun again =
      let e = begun_once place later commit flush other begun again in
      ap (λ (pair : ℕ × Flush). pair.1)
      (some_same (sym begun.begins ∙ ap flush_by (some_same (sym begun.stands ∙ ap (slice_get events) e ∙ again.stands)) ∙ again.begins))

  -- at one place one commit begins
  pub one_begun : (place commit other : ℕ) (flush other_flush : Flush) → IsBegun events place commit flush → IsBegun events place other other_flush
      → commit ≡ other
  one_begun place commit other flush other_flush begun also =
      ap (λ (pair : ℕ × Flush). pair.0) (some_same (sym begun.begins ∙ ap flush_by (some_same (sym begun.stands ∙ also.stands)) ∙ also.begins))

  -- it concerns no node that a flight concerns
  pub begun_apart : (place commit : ℕ) (flush : Flush) → IsBegun events place commit flush → (flight : Flight) → IsOneOf (states place).flights flight
      → (node : ℕ) → flight.concerned node ≡ true → Concerns first flush (view_of (states place)) node → ⊥
  begun_apart place commit flush begun flight one node theirs concerned =
      let cut = cut_at begun.event commit flush begun.begins in
      let within = begun_within place commit flush begun in
      let start = (steady_at first events states run place (omega arith)).start in
      none_shared (states place) commit cut.node cut.stamp (states (suc place)) (takes_cut place commit flush begun) (suc node) node (omega arith) (record {
        concerned = rw start (rw cut.own concerned);
        flight = flight;
        flies = one;
        theirs = theirs;
      })
