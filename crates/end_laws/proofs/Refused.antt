-- The number of the commit in a turn that is refused one or halts: that of what was made for its fsync, or none.
-- an fsync is refused or halted
use Rattle.std.proofs.Common.{◌≡◌, ◌∙◌, ◌∷◌, ◌++◌, Option, ℕ, None, Some, subst, inl, ap, sym, inr, List, [], flat_map}
use Rattle.tree_laws.specs.declared.turns.TurnAct.{TurnAct}
use Rattle.tree_laws.specs.declared.turns.Turn.{Turn}
use Rattle.tree_laws.specs.declared.turns.TurnAct.TheVariants as act
use Rattle.cut_laws.specs.Rules.{IsOneOf}
use Rattle.cut_laws.specs.Closure.{Flush}
use Rattle.cut_laws.proofs.Basics.{in_either}
use Rattle.merge_laws.proofs.Lists.{in_part}
use Rattle.slot_laws.specs.declared.label.Label.{Label}
use Rattle.slot_laws.specs.Telling.{IsOfWork, IsOfFlight, AreOfWork, AreOfFlight, turn_refuses, BoxTurn, IsTurnFor, labels_in, turn_works, turn_reserves, turn_returns, turn_empties, turn_begins, turn_opens, turn_lands, turn_fails, turn_fails_begun, TellTurns, at_box, turns_told}
use Rattle.slot_laws.specs.Rules.{IsTurnBy}
use Rattle.slot_laws.specs.declared.label.Label.TheVariants as label
use Rattle.slot_laws.specs.Labels.{OwnTold, own_from}
use Rattle.flush_agrees.specs.Made.{FlushMade, TurnIsOf}

abbrev pub IsRefused : TurnAct → Type 0
IsRefused (act.Short kind need free) = Unit {0}
IsRefused act.Halted = Unit {0}
IsRefused _ = ⊥

-- the number of what was made for an fsync, where something was
abbrev pub number_of : Option FlushMade → ℕ
number_of None = 0
number_of (Some made) = made.number

work_none : (fact : Label) (turn : Turn) → IsOfWork fact → IsOneOf (turns_told fact) turn → ⊥
work_none label.Took turn is among = is
work_none label.Gave turn is among = is
work_none (label.Noted own) turn is among = is
work_none (label.Reserved commit seen grant) turn is among = is
work_none (label.Returned commit) turn is among = is
work_none (label.Began filling commit node stamp blocks inodes) turn is among = is
work_none (label.Filled slot piece done) turn is among = among
work_none (label.Synced now) turn is among = among
work_none (label.Opened slot done cut opened) turn is among = is
work_none (label.Settled slot own) turn is among = among
work_none (label.Learned own) turn is among = is
work_none (label.Placed slot n done) turn is among = among
work_none (label.Shut slot done) turn is among = among
work_none (label.Idled slot) turn is among = among
work_none (label.Empty commit cut opened durable) turn is among = is

not_refused : (did own : TurnAct) → own ≡ did → (IsRefused did → ⊥) → IsRefused own → ⊥
not_refused did own is never refused = never (subst IsRefused is refused)

flight_none : (core number : ℕ) (flush : Flush) (fact : Label) (turn : Turn) → IsOfFlight core number flush fact → IsOneOf (turns_told fact) turn
    → IsRefused turn.act → ⊥
flight_none core number flush (label.Opened slot done cut opened) turn is among refused = elim among [
  | inl same ↦ not_refused act.CutAt turn.act (ap (λ (t : Turn). t.act) (sym same) ∙ is.0.did_is) (λ n. n) refused
  | inr more ↦ elim more [
    | inl same ↦ not_refused act.Opened turn.act (ap (λ (t : Turn). t.act) (sym same) ∙ is.1.did_is) (λ n. n) refused
    | inr never ↦ never
  ]
]
flight_none core number flush label.Took turn is among refused = is
flight_none core number flush label.Gave turn is among refused = is
flight_none core number flush (label.Noted own) turn is among refused = is
flight_none core number flush (label.Reserved commit seen grant) turn is among refused = is
flight_none core number flush (label.Returned commit) turn is among refused = is
flight_none core number flush (label.Began filling commit node stamp blocks inodes) turn is among refused = is
flight_none core number flush (label.Filled slot piece done) turn is among refused = among
flight_none core number flush (label.Synced now) turn is among refused = among
flight_none core number flush (label.Settled slot own) turn is among refused = among
flight_none core number flush (label.Learned own) turn is among refused = is
flight_none core number flush (label.Placed slot n done) turn is among refused = among
flight_none core number flush (label.Shut slot done) turn is among refused = among
flight_none core number flush (label.Idled slot) turn is among refused = among
flight_none core number flush (label.Empty commit cut opened durable) turn is among refused = is

works_are : (facts : List Label) → AreOfWork facts → (fact : Label) → IsOneOf facts fact → IsOfWork fact
works_are [] are fact among = absurd among
works_are (first ∷ facts) are fact (inl same) = subst IsOfWork same are.0
works_are (first ∷ facts) are fact (inr among) = works_are facts are.1 fact among

flights_are : (core number : ℕ) (flush : Flush) (facts : List Label) → AreOfFlight core number flush facts → (fact : Label) → IsOneOf facts fact
    → IsOfFlight core number flush fact
flights_are core number flush [] are fact among = absurd among
flights_are core number flush (first ∷ facts) are fact (inl same) = subst (IsOfFlight core number flush) same are.0
flights_are core number flush (first ∷ facts) are fact (inr among) = flights_are core number flush facts are.1 fact among

-- a turn by an act that refuses nothing is not one that does
other_by : (did : TurnAct) (core number : ℕ) (flush : Flush) (turn own : Turn) → IsTurnBy own did core number flush → (IsRefused did → ⊥) → own ≡ turn
    → IsRefused turn.act → ⊥
other_by did core number flush turn own by never same refused = not_refused did turn.act (ap (λ (t : Turn). t.act) (sym same) ∙ by.did_is) never refused

refuses_with : (made : Option FlushMade) (own turn : Turn) → TurnIsOf made (turn_refuses own) → own ≡ turn → turn.commit ≡ number_of made
refuses_with None own turn is same = ap (λ (t : Turn). t.commit) (sym same) ∙ is
refuses_with (Some m) own turn is same = ap (λ (t : Turn). t.commit) (sym same) ∙ is

-- one of some turns in one turn at the box is told there by a label
module _ (core number : ℕ) (flush : Flush) (turn : Turn) (refused : IsRefused turn.act) where
  pub refused_commit : (made : Option FlushMade) (one : BoxTurn) → IsTurnFor core number flush one → TurnIsOf made one
      → IsOneOf (flat_map turns_told (labels_in one)) turn → turn.commit ≡ number_of made
  refused_commit made (turn_works facts) is of among =
      let told = in_part turns_told facts turn among in absurd (work_none told.x turn (works_are facts is told.x told.among) told.has)
  refused_commit made (turn_refuses own) is of among = elim among [ inl same ↦ refuses_with made own turn of same | inr never ↦ absurd never ]
  refused_commit made (turn_reserves own seen grant granted) is of among = elim among [
    | inl same ↦ absurd (other_by act.Granted core number flush turn granted is.1 (λ n. n) same refused)
    | inr never ↦ absurd never
  ]
  refused_commit made (turn_returns own back) is of among = elim among [
    | inl same ↦ absurd (other_by act.GivenBack core number flush turn back is.1 (λ n. n) same refused)
    | inr never ↦ absurd never
  ]
  refused_commit made (turn_empties own seen cut opened durable) is of among = elim among [
    | inl same ↦ absurd (other_by act.CutAt core number flush turn cut is.1 (λ n. n) same refused)
    | inr more ↦ elim more [
      | inl same ↦ absurd (other_by act.Opened core number flush turn opened is.2 (λ n. n) same refused)
      | inr last ↦ elim last [
        | inl same ↦ absurd (other_by act.Durable core number flush turn durable is.3 (λ n. n) same refused)
        | inr never ↦ absurd never
      ]
    ]
  ]
  refused_commit made (turn_begins filling own node stamp blocks inodes) is of among = absurd among
  refused_commit made (turn_opens slot done cut opened) is of among = elim among [
    | inl same ↦ absurd (other_by act.CutAt core number flush turn cut is.0 (λ n. n) same refused)
    | inr more ↦ elim more [
      | inl same ↦ absurd (other_by act.Opened core number flush turn opened is.1 (λ n. n) same refused)
      | inr never ↦ absurd never
    ]
  ]
  refused_commit made (turn_lands own) is of among = elim among [
    | inl same ↦ absurd (other_by act.Durable core number flush turn own is (λ n. n) same refused)
    | inr never ↦ absurd never
  ]
  refused_commit made (turn_fails facts cut fail) is of among =
      let told = in_part turns_told (facts ++ label.Noted cut ∷ label.Noted fail ∷ []) turn among in
      elim (in_either facts (label.Noted cut ∷ label.Noted fail ∷ []) told.x told.among) [
        | inl work ↦ absurd (work_none told.x turn (works_are facts is.0 told.x work) told.has)
        | inr noted ↦ elim noted [
          | inl same ↦ noted_cut told.x told.has same
          | inr more ↦ elim more [ inl same ↦ noted_fail told.x told.has same | inr never ↦ absurd never ]
        ]
      ]
    where
      noted_cut : (x : Label) → IsOneOf (turns_told x) turn → label.Noted cut ≡ x → turn.commit ≡ number_of made
      noted_cut x has same = elim (subst (λ f. IsOneOf (turns_told f) turn) (sym same) has) [
        | inl own ↦ absurd (other_by act.CutAt core number flush turn cut is.1 (λ n. n) own refused)
        | inr never ↦ absurd never
      ]

      noted_fail : (x : Label) → IsOneOf (turns_told x) turn → label.Noted fail ≡ x → turn.commit ≡ number_of made
      noted_fail x has same = elim (subst (λ f. IsOneOf (turns_told f) turn) (sym same) has) [
        | inl own ↦ absurd (other_by act.Fail core number flush turn fail is.2 (λ n. n) own refused)
        | inr never ↦ absurd never
      ]
  refused_commit made (turn_fails_begun facts fail) is of among =
      let told = in_part turns_told (facts ++ label.Noted fail ∷ []) turn among in
      elim (in_either facts (label.Noted fail ∷ []) told.x told.among) [
        | inl work ↦ absurd (flight_none core number flush told.x turn (flights_are core number flush facts is.0 told.x work) told.has refused)
        | inr noted ↦ elim noted [ inl same ↦ noted_fail told.x told.has same | inr never ↦ absurd never ]
      ]
    where
      noted_fail : (x : Label) → IsOneOf (turns_told x) turn → label.Noted fail ≡ x → turn.commit ≡ number_of made
      noted_fail x has same = elim (subst (λ f. IsOneOf (turns_told f) turn) (sym same) has) [
        | inl own ↦ absurd (other_by act.Fail core number flush turn fail is.1 (λ n. n) own refused)
        | inr never ↦ absurd never
      ]

-- each of a core's turns at the box is of one of its commits
pub told_for : (stamps : ℕ → ℕ) (core : ℕ) (own : OwnTold) (turns : List BoxTurn) → TellTurns stamps core own turns → (one : BoxTurn) → IsOneOf turns one
    → (number : ℕ) × (flush : Flush) × IsTurnFor core number flush one
told_for stamps core own [] tells one among = absurd among
told_for stamps core own (first ∷ turns) tells one (inl same) =
    (tells.0.number, tells.0.flush, subst (IsTurnFor core tells.0.number tells.0.flush) same tells.0.is)
told_for stamps core own (first ∷ turns) tells one (inr among) =
    told_for stamps core (own_from (at_box core (labels_in first)) own) turns tells.1 one among
