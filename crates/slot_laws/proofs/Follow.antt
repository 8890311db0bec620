-- Of commits that share an inode the one with the greater stamp became durable later.
use Rattle.std.proofs.Common.{◌≡◌, ◌≢◌, ◌<◌, ◌∷◌, ◌++◌, ◌∙◌, ℕ, true, false, List, [], Some, None, inl, inr, refl, sym, ap, subst, arith}
use Rattle.std.proofs.lemmas.List.{append-nil, append_assoc}
use Rattle.sfs_base.proofs.BasicOptions.{some_same}
use Rattle.sfs_base.proofs.BasicTruth.{not_both}
use Rattle.sfs_image.specs.Super.{Layout}
use Rattle.journal_one.specs.Job.{Job}
use Rattle.tree_laws.specs.declared.turns.Turn.{Turn}
use Rattle.cut_laws.specs.Closure.{Flush}
use Rattle.cut_laws.proofs.Basics.{in_left}
use Rattle.merge_laws.proofs.Blocks.{same_or_not}
use Rattle.merge_laws.proofs.Lists.{among_at}
use Rattle.stamp_table.specs.declared.event.Event.{Event}
use Rattle.stamp_table.specs.declared.event.Event.TheVariants.{Called, Told}
use Rattle.slot_laws.specs.declared.label.Label.{Label}
use Rattle.slot_laws.specs.declared.label.Label.TheVariants as label
use Rattle.slot_laws.specs.Slots.{SlotKnown, SlotWork, begun_work, knowing, known_synced, known_filled, known_placed, known_gated, settled_work, open_gate, shut_gate, Slots, with_at, changed_slot, synced_slots}
use Rattle.slot_laws.specs.Labels.{fsync_told, BoxPast, first_past, after_label, past_from}
use Rattle.slot_laws.specs.Rules.{MayLabel, MayFrom}
use Rattle.slot_laws.specs.Fits.{PastFits}
use Rattle.slot_laws.specs.Rings.{ShareInode, BeginApart, RingsFit, IsSettling, WasSettled, WasSettledBefore, StampsFollow, GreaterStampsAreNewer, AreInSlots}
use Rattle.slot_laws.proofs.Basics.{at_same, at_other, none_there}
use Rattle.slot_laws.proofs.Came.{KeepsTold, Came, knowing_told, told_itself, same_came, changed_came, synced_came, idled_came}
use Rattle.slot_laws.proofs.Labels.{label_fits}
use Rattle.slot_laws.proofs.Lawful.{first_fits}
use Rattle.slot_laws.proofs.Rings.{before_settled, is_settled, share_back, rings_label, first_rings, in_slots}

-- What became durable did so by its turn, and in the order of the stamps.
record TurnsFollow (slots : Slots) (turns : List Turn) : Type 0 where
  settled : (k : ℕ) (work : SlotWork) → slots k ≡ Some work → work.settled ≡ true → WasSettled turns work
  order : (j k : ℕ) (one other : SlotWork) → AreInSlots slots j k one other true true → ShareInode one.job other.job → one.job.stamp < other.job.stamp
      → WasSettledBefore turns one other

-- A commit was in the same slot before, and is told the same but for what is known.
abbrev CameWith : Slots → ℕ → SlotWork → Type 0
CameWith = Came (λ (k : ℕ). KeepsTold)

settling_of : (turn : Turn) (work new : SlotWork) → new.commit ≡ work.commit → new.flush ≡ work.flush → IsSettling turn work → IsSettling turn new
settling_of turn work new commit flush is = record { did = is.did; number = is.number ∙ sym commit; own = is.own ∙ sym flush }

settled_of : (turns : List Turn) (work new : SlotWork) → new.commit ≡ work.commit → new.flush ≡ work.flush → WasSettled turns work → WasSettled turns new
settled_of turns work new commit flush was =
    record { turn = was.turn; among = was.among; settles = settling_of was.turn work new commit flush was.settles }

-- more turns take nothing away
settled_still : (turns more : List Turn) (work : SlotWork) → WasSettled turns work → WasSettled (turns ++ more) work
settled_still turns more work was = record { turn = was.turn; among = in_left turns more was.turn was.among; settles = was.settles }

before_still : (turns more : List Turn) (one other : SlotWork) → WasSettledBefore turns one other → WasSettledBefore (turns ++ more) one other
before_still turns more one other was = record {
  front = was.front;
  turn = was.turn;
  back = was.back ++ more;
  whole = ap (λ (l : List Turn). l ++ more) was.whole ∙ append_assoc was.front (was.turn ∷ was.back) more;
  settles = was.settles;
  earlier = was.earlier;
}

follow_on : (slots later : Slots) (turns more : List Turn) → TurnsFollow slots turns → ((k : ℕ) (new : SlotWork) → later k ≡ Some new → CameWith slots k new)
    → TurnsFollow later (turns ++ more)
follow_on slots later turns more follows come = record {
  settled = λ k new there durable.
      let was = come k new there in
      settled_still turns more new
      (settled_of turns was.work new was.stays.numbers.commit was.stays.flush (follows.settled k was.work was.there (sym was.stays.settled ∙ durable)));
  order = λ j k one other pair shares low.
      let away = pair.away in
      let here = pair.here in
      let there = pair.there in
      let durable = pair.one_is in
      let too = pair.other_is in
      let was = come j one here in
      let had = come k other there in
      let shared = subst (λ (job : Job). ShareInode job had.work.job) was.stays.numbers.job (subst (ShareInode one.job) had.stays.numbers.job shares) in
      let less = subst (λ (job : Job). job.stamp < had.work.job.stamp) was.stays.numbers.job
      (subst (λ (job : Job). one.job.stamp < job.stamp) had.stays.numbers.job low) in
      let before = follows.order j k was.work had.work
      (in_slots away was.there had.there (sym was.stays.settled ∙ durable) (sym had.stays.settled ∙ too)) shared less in
      before_still turns more one other (record {
        front = before.front;
        turn = before.turn;
        back = before.back;
        whole = before.whole;
        settles = settling_of before.turn had.work other had.stays.numbers.commit had.stays.flush before.settles;
        earlier = settled_of before.front was.work one was.stays.numbers.commit was.stays.flush before.earlier;
      });
}

follow_same : (slots : Slots) (k : ℕ) (new : SlotWork) → slots k ≡ Some new → CameWith slots k new
follow_same slots = same_came (λ (j : ℕ). KeepsTold) slots (λ j. told_itself)

-- where no turn is told
no_more : (slots : Slots) (turns : List Turn) → TurnsFollow slots (turns ++ []) → TurnsFollow slots turns
no_more slots turns = subst (TurnsFollow slots) (append-nil turns)

-- one slot's commit of which something else is known
changed_with : (slots : Slots) (k : ℕ) (change : SlotKnown → SlotKnown) (j : ℕ) (new : SlotWork) → changed_slot slots k (knowing change) j ≡ Some new
    → CameWith slots j new
changed_with slots k change =
    changed_came (λ (j : ℕ). KeepsTold) slots (λ j. told_itself) k (knowing change) (λ work there. knowing_told change work)

synced_with : (slots : Slots) (k : ℕ) (new : SlotWork) → synced_slots slots k ≡ Some new → CameWith slots k new
synced_with slots = synced_came (λ (j : ℕ). KeepsTold) slots (λ j. knowing_told known_synced)

idled_with : (slots : Slots) (k j : ℕ) (new : SlotWork) → with_at slots k None j ≡ Some new → CameWith slots j new
idled_with slots = idled_came (λ (j : ℕ). KeepsTold) slots (λ j. told_itself)

-- a commit that begins is not durable
begun_follows : (slots : Slots) (turns : List Turn) (k : ℕ) (job : Job) (commit : ℕ) (flush : Flush) → TurnsFollow slots turns
    → TurnsFollow (with_at slots k (Some (begun_work job commit flush))) turns
begun_follows slots turns k job commit flush follows = record {
  settled = λ j work there durable. follows.settled j work (before j work there durable) durable;
  order = λ j i one other pair shares low.
      let away = pair.away in
      let here = pair.here in
      let there = pair.there in
      let durable = pair.one_is in
      let too = pair.other_is in
      follows.order j i one other (in_slots away (before j one here durable) (before i other there too) durable too) shares low;
}
  where
    before : (j : ℕ) (work : SlotWork) → with_at slots k (Some (begun_work job commit flush)) j ≡ Some work → work.settled ≡ true → slots j ≡ Some work
    before j work is durable = elim (same_or_not j k) [
      | inl same ↦
          absurd
          (not_both durable
          (ap (λ (w : SlotWork). w.settled) (sym (some_same (sym (at_same slots k (Some (begun_work job commit flush)) j same) ∙ is)))))
      | inr apart ↦ sym (at_other slots k (Some (begun_work job commit flush)) j apart) ∙ is
    ]

-- a commit becomes durable by the last turn, behind all that it shares an inode with
settled_follows : (slots : Slots) (turns : List Turn) (k : ℕ) (turn : Turn) (work : SlotWork) → RingsFit slots × TurnsFollow slots turns
    → slots k ≡ Some work × (work.settled ≡ false) → IsSettling turn work → TurnsFollow (changed_slot slots k settled_work) (turns ++ turn ∷ [])
settled_follows slots turns k turn work fits at settles = record {
  settled = λ j other there durable. elim (same_or_not j k) [
    | inl same ↦ subst (WasSettled (turns ++ turn ∷ [])) (is_settled slots k work at.0 j other there same) (record {
      turn = turn;
      among = among_at turns turn [];
      settles = settling_of turn work (settled_work work) refl refl settles;
    })
    | inr apart ↦ settled_still turns (turn ∷ []) other (fits.1.settled j other (before_settled slots k j other there apart) durable)
  ];
  order = λ j i one other pair shares low.
      let away = pair.away in
      let here = pair.here in
      let there = pair.there in
      let durable = pair.one_is in
      let too = pair.other_is in elim (same_or_not i k) [
        | inl at_i ↦
            let off : j ≢ k = λ same. away (same ∙ sym at_i) in
            subst (WasSettledBefore (turns ++ turn ∷ []) one) (is_settled slots k work at.0 i other there at_i) (record {
              front = turns;
              turn = turn;
              back = [];
              whole = refl;
              settles = settling_of turn work (settled_work work) refl refl settles;
              earlier = fits.1.settled j one (before_settled slots k j one here off) durable;
            })
        | inr out ↦ elim (same_or_not j k) [
          | inl at_j ↦
              let later = fits.0.later i k other work (in_slots out (before_settled slots k i other there out) at.0 too at.1)
              (share_back work.job other.job
              (subst (λ (w : SlotWork). ShareInode w.job other.job) (sym (is_settled slots k work at.0 j one here at_j)) shares)) in
              let first = subst (λ (w : SlotWork). w.job.stamp < other.job.stamp) (sym (is_settled slots k work at.0 j one here at_j)) low in
              absurd (omega (arith, later, first))
          | inr off ↦
              before_still turns (turn ∷ []) one other
              (fits.1.order j i one other
              (in_slots away (before_settled slots k j one here off) (before_settled slots k i other there out) durable too) shares low)
        ]
      ];
}

module _ (layout : Layout) (before : ℕ) where
  -- each label leaves what follows
  follow_label : (core : ℕ) (past : BoxPast) → RingsFit past.slots → TurnsFollow past.slots past.turns → (fact : Label)
      → MayLabel layout before core fact past → TurnsFollow (after_label layout core fact past).slots (after_label layout core fact past).turns
  follow_label core past rings follows label.Took rule = follows
  follow_label core past rings follows label.Gave rule = follows
  follow_label core past rings follows (label.Noted turn) rule =
      follow_on past.slots past.slots past.turns (turn ∷ []) follows (follow_same past.slots)
  follow_label core past rings follows (label.Reserved commit seen grant) rule = follows
  follow_label core past rings follows (label.Returned commit) rule = follows
  follow_label core past rings follows (label.Began filling commit node stamp blocks inodes) rule =
      begun_follows past.slots past.turns filling.job.place.slot filling.job commit (fsync_told node stamp) follows
  follow_label core past rings follows (label.Filled k piece done) rule =
      no_more (changed_slot past.slots k (knowing (known_filled done piece))) past.turns
      (follow_on past.slots (changed_slot past.slots k (knowing (known_filled done piece))) past.turns [] follows
      (changed_with past.slots k (known_filled done piece)))
  follow_label core past rings follows (label.Synced now) rule =
      no_more (synced_slots past.slots) past.turns (follow_on past.slots (synced_slots past.slots) past.turns [] follows (synced_with past.slots))
  follow_label core past rings follows (label.Opened k done cut opened) rule =
      follow_on past.slots (changed_slot past.slots k (knowing (known_gated done open_gate))) past.turns (cut ∷ opened ∷ []) follows
      (changed_with past.slots k (known_gated done open_gate))
  follow_label core past rings follows (label.Settled k turn) rule =
      settled_follows past.slots past.turns k turn rule.has.work (rings, follows) (rule.has.there, rule.has.aloft)
      (record { did = rule.is.did_is; number = rule.is.commit_is; own = rule.is.flush_is })
  follow_label core past rings follows (label.Learned turn) rule = follows
  follow_label core past rings follows (label.Placed k n done) rule =
      no_more (changed_slot past.slots k (knowing (known_placed done n))) past.turns
      (follow_on past.slots (changed_slot past.slots k (knowing (known_placed done n))) past.turns [] follows
      (changed_with past.slots k (known_placed done n)))
  follow_label core past rings follows (label.Shut k done) rule =
      no_more (changed_slot past.slots k (knowing (known_gated done shut_gate))) past.turns
      (follow_on past.slots (changed_slot past.slots k (knowing (known_gated done shut_gate))) past.turns [] follows
      (changed_with past.slots k (known_gated done shut_gate)))
  follow_label core past rings follows (label.Idled k) rule =
      no_more (with_at past.slots k None) past.turns
      (follow_on past.slots (with_at past.slots k None) past.turns [] follows (idled_with past.slots k))
  follow_label core past rings follows (label.Empty commit cut opened durable) rule =
      follow_on past.slots past.slots past.turns (cut ∷ opened ∷ durable ∷ []) follows (follow_same past.slots)

  follow_all : (log : List (Event Label)) (past : BoxPast) → PastFits layout before past → RingsFit past.slots → TurnsFollow past.slots past.turns
      → MayFrom layout before log past → BeginApart layout log past
      → StampsFollow (past_from layout log past).slots (past_from layout log past).turns
  follow_all [] past all rings follows may apart = record { one_durable = rings.apart; aloft = rings.later; durable = follows.order }
  follow_all (Called entry ∷ log) past all rings follows may apart = absurd may.0
  follow_all (Told teller fact ∷ log) past all rings follows may apart =
      follow_all log (after_label layout teller.0 fact past) (label_fits layout before teller.0 past all fact may.0.1)
      (rings_label layout before teller.0 teller past all rings fact may.0.1 apart.0) (follow_label teller.0 past rings follows fact may.0.1) may.1 apart.1

pub greater_stamps_are_newer : GreaterStampsAreNewer
greater_stamps_are_newer layout before moment log may apart =
    follow_all layout before log (first_past moment) (first_fits layout before moment) first_rings
    (record {
      settled = λ k work there durable. none_there there;
      order = λ j k one other pair shares low.
          let away = pair.away in
          let here = pair.here in
          let there = pair.there in
          let durable = pair.one_is in
          let too = pair.other_is in none_there here;
    })
    may apart
