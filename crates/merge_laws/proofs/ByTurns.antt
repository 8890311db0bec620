-- The order of turns gives that of acknowledgements.
use borrow.Author.Tests.{leb-true, leb-false}
use Rattle.std.specs.Prelude.{filter}
use Rattle.std.specs.List.{cons_option}
use Rattle.std.proofs.Common.{◌≡◌, ◌≢◌, ◌<◌, ◌≤◌, ◌∷◌, ◌++◌, ◌∙◌, ℕ, nat_le, Bool, true, false, cond, List, [], Option, Some, None, inl, inr, refl, sym, ap, subst, arith, nat_eq}
use Rattle.std.proofs.lemmas.Bool.Decides.{nat_tests}
use Rattle.std.proofs.lemmas.List.{append_assoc}
use Rattle.sfs_base.proofs.BasicNumbers.{same_number}
use Rattle.sfs_dev.specs.Disk.{View}
use Rattle.tree_laws.specs.declared.history.Entry.{Entry}
use Rattle.tree_laws.specs.declared.turns.Turn.{Turn}
use Rattle.tree_laws.specs.declared.turns.TurnAct.{TurnAct}
use Rattle.tree_laws.specs.declared.turns.TurnAct.TheVariants as act
use Rattle.tree_laws.specs.History.{IsLegal}
use Rattle.tree_laws.specs.Tree.{TreeState}
use Rattle.cut_laws.specs.Closure.{Flush}
use Rattle.cut_laws.specs.Covers.{IsAcknowledged}
use Rattle.cut_laws.specs.Rules.{IsOneOf}
use Rattle.cut_laws.proofs.RunFacts.{in_filter}
use Rattle.crash_laws.specs.Listed.{StampsDiffer, IsAcknowledgedBy}
use Rattle.crash_laws.specs.Survives.{Ascend, RaisesInOrder}
use Rattle.crash_laws.proofs.Fsyncs.{acknowledged_once}
use Rattle.turn_laws.specs.Books.{flush_at}
use Rattle.turn_laws.specs.LawsTurns.{durable_by_act}
use Rattle.image_laws.proofs.Places.{le_true}
use Rattle.merge_laws.specs.Laws.{IsFrontUntil, MomentsCutTurns, DurablesAreAcknowledged, DurablesSurvive, DurablesReadBack}
use Rattle.merge_laws.specs.LeftByTurns.{turns_until, TimesRise, BeginsWithDurables}
use Rattle.merge_laws.specs.Plays.{durables, PensMerge}
use Rattle.merge_laws.specs.Tell.{TurnsTell}
use Rattle.merge_laws.proofs.Told.{merged_tell, none_behind}
use Rattle.cut_laws.proofs.Listed.{to_filter}

-- A Durable of an fsync is among turns.
abbrev pub IsDurableAmong : List Turn → Flush → Type 0
IsDurableAmong turns flush = (turn : Turn) × IsOneOf turns turn × (turn.act ≡ act.Durable) × (flush_at turn ≡ flush)

-- one of the durable fsyncs is that of a Durable, and the other way round
pub of_durables : (turns : List Turn) (flush : Flush) → IsOneOf (durables turns) flush → IsDurableAmong turns flush
of_durables [] flush one = absurd one
of_durables (turn ∷ turns) flush one = by turn.act refl one (of_durables turns flush)
  where
    later : IsDurableAmong turns flush → IsDurableAmong (turn ∷ turns) flush
    later is = (is.0, inr is.1, is.2, is.3)

    by : (a : TurnAct) → turn.act ≡ a → IsOneOf (cons_option (durable_by_act a (flush_at turn)) (durables turns)) flush
        → (IsOneOf (durables turns) flush → IsDurableAmong turns flush) → IsDurableAmong (turn ∷ turns) flush
    by act.Granted e one rest = later (rest one)
    by act.GivenBack e one rest = later (rest one)
    by (act.Short kind need free) e one rest = later (rest one)
    by act.Halted e one rest = later (rest one)
    by act.CutAt e one rest = later (rest one)
    by act.Opened e one rest = later (rest one)
    by act.Fail e one rest = later (rest one)
    by act.Durable e (inl same) rest = (turn, inl refl, e, same)
    by act.Durable e (inr one) rest = later (rest one)

in_option : (o : Option Flush) (l : List Flush) (flush : Flush) → IsOneOf l flush → IsOneOf (cons_option o l) flush
in_option None l flush one = one
in_option (Some x) l flush one = inr one

pub to_durables : (turns : List Turn) (turn : Turn) → IsOneOf turns turn → turn.act ≡ act.Durable → IsOneOf (durables turns) (flush_at turn)
to_durables [] turn one did = absurd one
to_durables (first ∷ turns) turn (inl same) did =
    subst (λ (a : TurnAct). IsOneOf (cons_option (durable_by_act a (flush_at first)) (durables turns)) (flush_at turn))
    (sym (ap (λ (t : Turn). t.act) same ∙ did)) (inl (ap flush_at same))
to_durables (first ∷ turns) turn (inr one) did =
    in_option (durable_by_act first.act (flush_at first)) (durables turns) (flush_at turn) (to_durables turns turn one did)

-- what passes a test rises
rises_still : (test : Turn → Bool) (turns : List Turn) → TimesRise turns → TimesRise (filter test turns)
rises_still test [] rises = tt
rises_still test (turn ∷ turns) rises = by (test turn) (rises_still test turns rises.1)
  where
    by : (b : Bool) → TimesRise (filter test turns) → TimesRise (cond b (turn ∷ filter test turns) (filter test turns))
    by true rest = (λ later one. rises.0 later (in_filter test turns later one).0, rest)
    by false rest = rest

module _ (first : TreeState) (history : List Entry) (legal : IsLegal first history) where
  -- Durables whose moments don't fall stand in the order of their acknowledgements
  ascends : (turns : List Turn) → TimesRise turns
      → ((turn : Turn) → IsOneOf turns turn → turn.act ≡ act.Durable → IsAcknowledged history (flush_at turn) turn.now) → Ascend history (durables turns)
  ascends [] rises told = tt
  ascends (turn ∷ turns) rises told = by turn.act refl (ascends turns rises.1 (λ other one. told other (inr one)))
    where
      in_order : turn.act ≡ act.Durable → (later : Flush) (ack late : ℕ) → IsOneOf (durables turns) later → IsAcknowledged history (flush_at turn) ack
          → IsAcknowledged history later late → ack ≤ late
      in_order did later ack late one its their =
          let is = of_durables turns later one in
          let here : ack ≡ turn.now = acknowledged_once first history legal (flush_at turn) ack turn.now its (told turn (inl refl) did) in
          let there : late ≡ is.0.now =
          acknowledged_once first history legal later late is.0.now their
          (subst (λ (f : Flush). IsAcknowledged history f is.0.now) is.3 (told is.0 (inr is.1) is.2)) in
          let low = rises.0 is.0 is.1 in
          omega (arith, here, there, low)

      by : (a : TurnAct) → turn.act ≡ a → Ascend history (durables turns)
          → Ascend history (cons_option (durable_by_act a (flush_at turn)) (durables turns))
      by act.Granted e rest = rest
      by act.GivenBack e rest = rest
      by (act.Short kind need free) e rest = rest
      by act.Halted e rest = rest
      by act.CutAt e rest = rest
      by act.Opened e rest = rest
      by act.Fail e rest = rest
      by act.Durable e rest = (in_order e, rest)

  -- a durable fsync up to a moment was acknowledged by it, and the other way round
  was_acknowledged : (turns : List Turn) (moment : ℕ) (flush : Flush) → TurnsTell history turns → IsOneOf (durables (turns_until moment turns)) flush
      → IsAcknowledgedBy history moment flush
  was_acknowledged turns moment flush tell one =
      let is = of_durables (turns_until moment turns) flush one in
      let passed = in_filter (λ (t : Turn). nat_le t.now moment) turns is.0 is.1 in
      (is.0.now, subst (λ (f : Flush). IsAcknowledged history f is.0.now) is.3 (tell.durable is.0 passed.0 is.2), leb-true is.0.now moment passed.1)

  is_durable_until : (turns : List Turn) (moment : ℕ) (flush : Flush) → TurnsTell history turns → IsAcknowledgedBy history moment flush
      → IsOneOf (durables (turns_until moment turns)) flush
  is_durable_until turns moment flush tell acked =
      let was = tell.acknowledged flush acked.0 acked.1 in
      subst (IsOneOf (durables (turns_until moment turns))) was.own
      (to_durables (turns_until moment turns) was.turn
      (to_filter (λ (t : Turn). nat_le t.now moment) turns was.turn was.among
      (le_true was.turn.now moment (subst (λ (n : ℕ). n ≤ moment) (sym was.now) acked.2))) was.did)

  -- the durable fsyncs up to a moment are those acknowledged by it, in their order
  pub acknowledged_first : (turns : List Turn) (moment : ℕ) (flushes : List Flush) → TurnsTell history turns → TimesRise turns
      → BeginsWithDurables history turns moment flushes → RaisesInOrder history moment flushes
  acknowledged_first turns moment flushes tell rises begins = record {
    firsts = durables (turns_until moment turns);
    others = begins.others;
    whole = begins.whole;
    acknowledged = λ flush. (was_acknowledged turns moment flush tell, is_durable_until turns moment flush tell);
    ascending =
        ascends (turns_until moment turns) (rises_still (λ (t : Turn). nat_le t.now moment) turns rises)
        (λ turn one did. tell.durable turn (in_filter (λ (t : Turn). nat_le t.now moment) turns turn one).0 did);
    answered = begins.answered;
    once = begins.once;
  }

  -- no fsync is durable twice
  differs : (turns : List Turn) (merge : PensMerge first history turns) (front back : List Turn) → turns ≡ front ++ back → StampsDiffer (durables back)
  differs turns merge front [] whole = tt
  differs turns merge front (turn ∷ back) whole =
      by turn.act refl (differs turns merge (front ++ turn ∷ []) back (whole ∙ sym (append_assoc front (turn ∷ []) back)))
    where
      not_again : turn.act ≡ act.Durable → (other : Flush) → IsOneOf (durables back) other → other.stamp ≢ turn.stamp.0
      not_again did other one same =
          let is = of_durables back other one in
          subst (λ (l : List Turn). IsOneOf l is.0) (none_behind first history turns legal merge front turn back whole did)
          (to_filter (λ (t : Turn). nat_eq t.stamp.0 turn.stamp.0) back is.0 is.1
          (subst (λ (n : ℕ). nat_eq n turn.stamp.0 ≡ true) (sym (ap (λ (f : Flush). f.stamp) is.3 ∙ same)) (same_number turn.stamp.0)))

      by : (a : TurnAct) → turn.act ≡ a → StampsDiffer (durables back)
          → StampsDiffer (cons_option (durable_by_act a (flush_at turn)) (durables back))
      by act.Granted e rest = rest
      by act.GivenBack e rest = rest
      by (act.Short kind need free) e rest = rest
      by act.Halted e rest = rest
      by act.CutAt e rest = rest
      by act.Opened e rest = rest
      by act.Fail e rest = rest
      by act.Durable e rest = (not_again e, rest)

  pub durable_once : (turns : List Turn) → PensMerge first history turns → StampsDiffer (durables turns)
  durable_once turns merge = differs turns merge [] turns refl

pub durables_are_acknowledged : DurablesAreAcknowledged
durables_are_acknowledged first history turns moment flushes legal told begins =
    acknowledged_first first history legal turns moment flushes told.tell told.rise begins

pub durables_survive : (disk : View) → DurablesSurvive disk
durables_survive disk share from first history turns legal told survives moment image since until left =
    let safe = survives moment image since until left in
    record {
      flushes = safe.flushes;
      cut = safe.cut;
      inodes = safe.inodes;
      closed = safe.closed;
      covers = safe.covers;
      raises = acknowledged_first first history legal turns moment safe.flushes told.tell told.rise safe.begins;
      raised = safe.raised;
      read = safe.read;
    }

-- exactly the acknowledged fsyncs are durable
all_acknowledged : (history : List Entry) (turns : List Turn) (flush : Flush) → TurnsTell history turns → IsOneOf (durables turns) flush
    → (ack : ℕ) × IsAcknowledged history flush ack
all_acknowledged history turns flush tell one =
    let its = of_durables turns flush one in
    (its.0.now, subst (λ (f : Flush). IsAcknowledged history f its.0.now) its.3 (tell.durable its.0 its.1 its.2))

all_durable : (history : List Entry) (turns : List Turn) (flush : Flush) → TurnsTell history turns → (ack : ℕ) × IsAcknowledged history flush ack
    → IsOneOf (durables turns) flush
all_durable history turns flush tell acked =
    let was = tell.acknowledged flush acked.0 acked.1 in
    subst (IsOneOf (durables turns)) was.own (to_durables turns was.turn was.among was.did)

pub durables_read_back : (disk : View) → DurablesReadBack disk
durables_read_back disk share first history turns legal merge rises reads none =
    let is = reads none in
    let tell = merged_tell first history turns legal merge in
    record {
      flushes = durables turns;
      cut = is.cut;
      inodes = is.inodes;
      exactly = λ flush. (all_acknowledged history turns flush tell, all_durable history turns flush tell);
      ascending = ascends first history legal turns rises tell.durable;
      once = durable_once first history legal turns merge;
      raised = is.raised;
      read = is.read;
    }

-- none of some that are all later passes
none_until : (turns : List Turn) (moment : ℕ) → ((turn : Turn) → IsOneOf turns turn → moment < turn.now) → turns_until moment turns ≡ []
none_until [] moment later = refl
none_until (turn ∷ turns) moment later =
    let lt : moment < turn.now = later turn (inl refl) in
    let not_yet : nat_le turn.now moment ≡ false = grind (arith, nat_tests) in
    ap (λ (b : Bool). cond b (turn ∷ turns_until moment turns) (turns_until moment turns)) not_yet
    ∙ none_until turns moment (λ other one. later other (inr one))

pub moments_cut_turns : MomentsCutTurns
moments_cut_turns [] moment rises = record { behind = []; whole = refl; later = λ turn one. absurd one }
moments_cut_turns (turn ∷ turns) moment rises = by (nat_le turn.now moment) refl (moments_cut_turns turns moment rises.1)
  where
    by : (b : Bool) → nat_le turn.now moment ≡ b → IsFrontUntil turns moment → IsFrontUntil (turn ∷ turns) moment
    by true e rest = record {
      behind = rest.behind;
      whole =
          ap (λ (l : List Turn). turn ∷ l) rest.whole
          ∙ ap (λ (b : Bool). cond b (turn ∷ turns_until moment turns) (turns_until moment turns) ++ rest.behind) (sym e);
      later = rest.later;
    }
    by false e rest = record {
      behind = turn ∷ turns;
      whole = ap (λ (l : List Turn). l ++ turn ∷ turns) (sym (none_until (turn ∷ turns) moment all));
      later = all;
    }
      where
        all : (other : Turn) → IsOneOf (turn ∷ turns) other → moment < other.now
        all other (inl same) = subst (λ (t : Turn). moment < t.now) same (leb-false turn.now moment e)
        all other (inr one) = let first = leb-false turn.now moment e in let low = rises.0 other one in omega (arith, first, low)
