-- For which fsync a number is reserved that is told at the box.
use Rattle.std.proofs.Common.{◌≡◌, ◌∷◌, ◌∙◌, ◌++◌, ℕ, List, [], inl, subst, inr, Option, Some, None, sym, ap, refl, nat_eq}
use Rattle.sfs_base.specs.Lists.{Roomy}
use Rattle.sfs_base.specs.declared.numbers.CoreId.{CoreId}
use Rattle.sfs_base.proofs.BasicNumbers.{same_number}
use Rattle.space_map.specs.Space.{GrantedNumbers}
use Rattle.cut_laws.specs.Rules.{IsOneOf}
use Rattle.cut_laws.proofs.Basics.{in_either}
use Rattle.cut_laws.proofs.Listed.{from_map, to_filter}
use Rattle.merge_laws.proofs.Lists.{in_part}
use Rattle.stamp_table.specs.declared.event.Event.TheVariants.{Told}
use Rattle.stamp_table.specs.declared.event.Event.{Event}
use Rattle.stamp_table.specs.Events.{event_core}
use Rattle.slot_laws.specs.Telling.{BoxTurn, turn_reserves, turn_empties, AreSteps, IsOfStep, TellsTurn, labels_in, turn_works, turn_refuses, turn_returns, turn_begins, turn_opens, turn_lands, turn_fails, turn_fails_begun, at_box, TellTurns, events_in}
use Rattle.slot_laws.specs.declared.label.Label.{Label}
use Rattle.slot_laws.specs.declared.label.Seen.{Seen}
use Rattle.sfs_base.proofs.BasicOptions.{none_some, some_same}
use Rattle.slot_laws.specs.declared.label.Label.TheVariants as label
use Rattle.slot_laws.specs.Labels.{OwnTold, own_from, nothing_told}
use Rattle.slot_laws.specs.Nodes.{no_numbers}
use Rattle.close_laws.specs.Maps.{Numbered}
use Rattle.close_laws.proofs.PensStand.{works_steps, flights_steps}
use Rattle.flush_agrees.specs.Made.{TellsNoNumber, FlushMade, TurnMade}
use Rattle.flush_agrees.specs.Agreement.{FlushTold}
use Rattle.end_laws.specs.Mount.{MountEnd, IsFsyncAt, MountEnds, AreNamedAlong}
use Rattle.end_laws.proofs.Landed.{pens, has_fsyncs}

-- a turn at the box reserves this number
abbrev ReservesIt : ℕ → BoxTurn → Type 0
ReservesIt number (turn_reserves own seen grant turn) = own ≡ number
ReservesIt number (turn_empties own seen cut opened durable) = own ≡ number
ReservesIt number _ = ⊥

step_among : (facts : List Label) (fact : Label) → AreSteps facts → IsOneOf facts fact → IsOfStep fact
step_among [] fact steps among = absurd among
step_among (one ∷ facts) fact steps (inl same) = subst IsOfStep same steps.0
step_among (one ∷ facts) fact steps (inr among) = step_among facts fact steps.1 among

module _ (number : ℕ) (seen : Roomy Seen) (grant : GrantedNumbers) where
  abbrev it : Label
  it = label.Reserved number seen grant

  -- whether a label reserves a number, and which
  abbrev number_told : Label → Option ℕ
  number_told (label.Reserved own seen grant) = Some own
  number_told _ = None

  not_it : (one : Label) → number_told one ≡ None → one ≡ it → ⊥
  not_it one none same = none_some (sym none ∙ ap number_told same)

  is_it : (own : ℕ) (one : Label) → number_told one ≡ Some own → one ≡ it → own ≡ number
  is_it own one some same = some_same (sym some ∙ ap number_told same)

  in_turn : (stamps : ℕ → ℕ) (core : ℕ) (own : OwnTold) (one : BoxTurn) → TellsTurn stamps core own one → IsOneOf (labels_in one) it → ReservesIt number one
  in_turn stamps core own (turn_works facts) tells among = step_among facts it (works_steps facts tells.is) among
  in_turn stamps core own (turn_refuses turn) tells among = elim among [ inl same ↦ not_it (label.Noted turn) refl same | inr never ↦ never ]
  in_turn stamps core own (turn_reserves other seen_there grant_there turn) tells among = elim among [
    | inl same ↦ is_it other (label.Reserved other seen_there grant_there) refl same
    | inr more ↦ elim more [ inl same ↦ absurd (not_it (label.Noted turn) refl same) | inr never ↦ absurd never ]
  ]
  in_turn stamps core own (turn_returns other turn) tells among = elim among [
    | inl same ↦ not_it (label.Returned other) refl same
    | inr more ↦ elim more [ inl same ↦ not_it (label.Noted turn) refl same | inr never ↦ never ]
  ]
  in_turn stamps core own (turn_empties other seen_there cut opened durable) tells among = elim among [
    | inl same ↦ is_it other (label.Reserved other seen_there no_numbers) refl same
    | inr more ↦ elim more [ inl same ↦ absurd (not_it (label.Empty other cut opened durable) refl same) | inr never ↦ absurd never ]
  ]
  in_turn stamps core own (turn_begins filling other node stamp blocks inodes) tells among = elim among [
    | inl same ↦ not_it (label.Began filling other node stamp blocks inodes) refl same
    | inr never ↦ never
  ]
  in_turn stamps core own (turn_opens slot done cut opened) tells among = elim among [
    | inl same ↦ not_it (label.Opened slot done cut opened) refl same
    | inr never ↦ never
  ]
  in_turn stamps core own (turn_lands turn) tells among = elim among [ inl same ↦ not_it (label.Learned turn) refl same | inr never ↦ never ]
  in_turn stamps core own (turn_fails facts cut fail) tells among = elim (in_either facts (label.Noted cut ∷ label.Noted fail ∷ []) it among) [
    | inl step ↦ step_among facts it (works_steps facts tells.is.0) step
    | inr more ↦ elim more [
      | inl same ↦ not_it (label.Noted cut) refl same
      | inr last ↦ elim last [ inl same ↦ not_it (label.Noted fail) refl same | inr never ↦ never ]
    ]
  ]
  in_turn stamps core own (turn_fails_begun facts fail) tells among = elim (in_either facts (label.Noted fail ∷ []) it among) [
    | inl step ↦ step_among facts it (flights_steps core tells.number tells.flush facts tells.is.0) step
    | inr last ↦ elim last [ inl same ↦ not_it (label.Noted fail) refl same | inr never ↦ never ]
  ]

  -- so it stands in one of them
  in_box : (stamps : ℕ → ℕ) (core : ℕ) (own : OwnTold) (one : BoxTurn) → TellsTurn stamps core own one
      → IsOneOf (at_box core (labels_in one)) (Told (record { 0 = core }) it) → ReservesIt number one
  in_box stamps core own one tells among =
      let was = from_map (Told (record { 0 = core })) (label.Took ∷ labels_in one ++ label.Gave ∷ []) (Told (record { 0 = core }) it) among in
      let same : was.0 ≡ it = cc was.2 in
      by (subst (IsOneOf (label.Took ∷ labels_in one ++ label.Gave ∷ [])) same was.1)
    where
      by : IsOneOf (label.Took ∷ labels_in one ++ label.Gave ∷ []) it → ReservesIt number one
      by (inl took) = absurd (not_it label.Took refl took)
      by (inr there) = elim (in_either (labels_in one) (label.Gave ∷ []) it there) [
        | inl mine ↦ in_turn stamps core own one tells mine
        | inr gave ↦ elim gave [ inl same ↦ absurd (not_it label.Gave refl same) | inr never ↦ absurd never ]
      ]

  pub in_turns : (stamps : ℕ → ℕ) (core : ℕ) (own : OwnTold) (turns : List BoxTurn) → TellTurns stamps core own turns
      → IsOneOf (events_in core turns) (Told (record { 0 = core }) it) → (one : BoxTurn) × IsOneOf turns one × ReservesIt number one
  in_turns stamps core own [] tells among = absurd among
  in_turns stamps core own (one ∷ turns) tells among =
      elim (in_either (at_box core (labels_in one)) (events_in core turns) (Told (record { 0 = core }) it) among) [
        | inl here ↦ (one, inl refl, in_box stamps core own one tells.0 here)
        | inr there ↦
            let rest = in_turns stamps core (own_from (at_box core (labels_in one)) own) turns tells.1 there in (rest.0, inr rest.1, rest.2)
      ]

-- a turn that reserves a number tells one, and it is that of what was made
no_reserve : (number : ℕ) (one : BoxTurn) → ReservesIt number one → TellsNoNumber one → ⊥
no_reserve number (turn_reserves own seen grant turn) is none = none
no_reserve number (turn_empties own seen cut opened durable) is none = none
no_reserve number (turn_works facts) is none = is
no_reserve number (turn_refuses turn) is none = is
no_reserve number (turn_returns own turn) is none = is
no_reserve number (turn_begins filling own node stamp blocks inodes) is none = is
no_reserve number (turn_opens slot done cut opened) is none = is
no_reserve number (turn_lands turn) is none = is
no_reserve number (turn_fails facts cut fail) is none = is
no_reserve number (turn_fails_begun facts fail) is none = is

made_number : (number : ℕ) (made : FlushMade) (one : BoxTurn) → ReservesIt number one → TurnMade made one → number ≡ made.number
made_number number made (turn_reserves own seen grant turn) is of_made = sym is ∙ of_made.0
made_number number made (turn_empties own seen cut opened durable) is of_made = sym is ∙ of_made.0
made_number number made (turn_works facts) is of_made = absurd is
made_number number made (turn_refuses turn) is of_made = absurd is
made_number number made (turn_returns own turn) is of_made = absurd is
made_number number made (turn_begins filling own node stamp blocks inodes) is of_made = absurd is
made_number number made (turn_opens slot done cut opened) is of_made = absurd is
made_number number made (turn_lands turn) is of_made = absurd is
made_number number made (turn_fails facts cut fail) is of_made = absurd is
made_number number made (turn_fails_begun facts fail) is of_made = absurd is

-- A number is reserved for what was made of an fsync.
pub record ReservedFor (at : MountEnd) (number : ℕ) : Type 0 where
  pub one : FlushTold
  pub there : IsFsyncAt at one
  pub made : FlushMade
  pub is : one.made ≡ Some made
  pub number_is : number ≡ made.number

module _ (D : Type 0) (at : MountEnd) (named : Numbered) (ends : MountEnds D at) (are : AreNamedAlong at named) where
  pub reserved_for : (core : CoreId) (number : ℕ) (seen : Roomy Seen) (grant : GrantedNumbers)
      → IsOneOf at.told.log (Told core (label.Reserved number seen grant)) → ReservedFor at number
  reserved_for core number seen grant among =
      let event : Event Label = Told core (label.Reserved number seen grant) in
      let has = has_fsyncs D at named ends are core.0 (ends.own event among) in
      let told = (pens D at named ends are).pens.pens core.0 in
      let own =
      subst (λ l. IsOneOf l event) told.mine_is
      (to_filter (λ (e : Event Label). nat_eq (event_core e) core.0) at.told.log event among (same_number core.0)) in
      let found = in_turns number seen grant named.stamps core.0 nothing_told told.turns told.tells own in
      let from =
      in_part (λ (one : FlushTold). one.turns) has.0 found.0
      (subst (λ l. IsOneOf l found.0) ((pens D at named ends are).turns core.0 has.0 has.1) found.1) in
      by from.x (record { core = core.0; fsyncs = has.0; there = has.1; among = from.among }) found.0 from.has found.2 from.x.made refl
    where
      by : (one : FlushTold) → IsFsyncAt at one → (turn : BoxTurn) → IsOneOf one.turns turn → ReservesIt number turn → (o : Option FlushMade)
          → one.made ≡ o → ReservedFor at number
      by one there turn in_one reserves None none =
          absurd (no_reserve number turn reserves
          ((ends.each there.core there.fsyncs there.there).agree.unnumbered one there.among none turn in_one))
      by one there turn in_one reserves (Some made) is = record {
        one = one;
        there = there;
        made = made;
        is = is;
        number_is = made_number number made turn reserves
            (((ends.each there.core there.fsyncs there.there).agree.made one made there.among is).turns turn in_one);
      }
