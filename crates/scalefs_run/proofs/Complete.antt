-- What is due is done where nothing fails.
use Rattle.std.proofs.Common.{◌≡◌, ℕ, ◌≤◌, Bool, true, false, List, [], ◌∷◌, Option, Some, None, inl, inr, refl, sym, ap, subst, ◌∙◌, arith}
use Rattle.sfs_base.proofs.BasicOptions.{some_same}
use Rattle.sfs_base.proofs.Causes.{Rose-earlier}
use Rattle.sfs_base.proofs.BasicTruth.{true_not_false}
use Rattle.sfs_base.specs.Ends.{HasRisen}
use Rattle.sfs_dev.specs.Disk.{View, OnlyTold, images}
use Rattle.sfs_dev.specs.Memory.{memory_view}
use Rattle.tree_laws.specs.declared.history.Entry.{Entry}
use Rattle.tree_laws.specs.declared.reply.Reply.{Reply}
use Rattle.tree_laws.specs.declared.turns.Turn.{Turn}
use Rattle.tree_laws.specs.declared.turns.TurnAct.{TurnAct}
use Rattle.tree_laws.specs.declared.turns.TurnAct.TheVariants as act
use Rattle.cut_laws.specs.Rules.{IsOneOf}
use Rattle.cut_laws.proofs.Basics.{in_either}
use Rattle.turn_laws.specs.Books.{Books, CountsFaults, Does, AreTurns, no_turns, one_turn}
use Rattle.turn_laws.specs.Recorded.{last_turn, EndsWith, EndsBy}
use Rattle.turn_laws.proofs.Causes.{last_among}
use Rattle.scalefs_run.specs.Complete.{IsDone, GoesWell, IsAnsweredInCalm, WentWell, RunsAreComplete, MakingsAreComplete, ShowingsAreComplete, FreshDisksAreAsked, FreshDisksCountOn}
use Rattle.scalefs_run.specs.Image.{making_due, showing_due}
use Rattle.scalefs_run.specs.Outcome.{HasStatus}
use Rattle.scalefs_run.specs.Served.{IsMountedBy}
use Rattle.scalefs_run.specs.Turns.{HasTurns, HasTurnsBy}
use Rattle.scalefs_run.specs.declared.outcome.Status.{Status}
use Rattle.scalefs_run.specs.declared.outcome.Status.TheVariants.{Done, BadWords, BadScript, ReadFault, WriteFault, DiskFault, BadImage, NoMemory, TooManyWorkers, TooLong, TooSmall, WrongHistory, NotAccepted}

-- a status of a call for which Done is due, where nothing failed
is_done : (Source Sink Disk : Type 0) (status : Status) → HasStatus Done Source Sink Disk status → (Source → ⊥) → (Sink → ⊥) → (Disk → ⊥) → IsDone status
is_done Source Sink Disk Done is no_source no_sink no_disk = inl refl
is_done Source Sink Disk NoMemory is no_source no_sink no_disk = inr refl
is_done Source Sink Disk ReadFault is no_source no_sink no_disk = absurd (no_source is.0)
is_done Source Sink Disk WriteFault is no_source no_sink no_disk = absurd (no_sink is.0)
is_done Source Sink Disk DiskFault is no_source no_sink no_disk = absurd (no_disk is.0)
is_done Source Sink Disk (BadWords place) is no_source no_sink no_disk = absurd (let never : Done ≡ BadWords place = is in cc)
is_done Source Sink Disk (BadScript line) is no_source no_sink no_disk = absurd (let never : Done ≡ BadScript line = is in cc)
is_done Source Sink Disk (BadImage fault) is no_source no_sink no_disk = absurd (let never : Done ≡ BadImage fault = is in cc)
is_done Source Sink Disk (TooManyWorkers asked have) is no_source no_sink no_disk = absurd (let never : Done ≡ TooManyWorkers asked have = is in cc)
is_done Source Sink Disk (TooLong measure) is no_source no_sink no_disk = absurd (let never : Done ≡ TooLong measure = is in cc)
is_done Source Sink Disk (TooSmall need have) is no_source no_sink no_disk = absurd (let never : Done ≡ TooSmall need have = is in cc)
is_done Source Sink Disk (WrongHistory line) is no_source no_sink no_disk = absurd (let never : Done ≡ WrongHistory line = is in cc)
is_done Source Sink Disk NotAccepted is no_source no_sink no_disk = absurd (let never : Done ≡ NotAccepted = is in cc)

-- the same of one for which something due is Done
due_done : (Source Sink Disk : Type 0) (due status : Status) → due ≡ Done → HasStatus due Source Sink Disk status → (Source → ⊥) → (Sink → ⊥)
    → (Disk → ⊥) → IsDone status
due_done Source Sink Disk due status is has = is_done Source Sink Disk status (subst (λ (s : Status). HasStatus s Source Sink Disk status) is has)

-- a count that has risen to some has risen to more, and from less
risen_more : (before faults most : ℕ) → HasRisen before faults → faults ≤ most → HasRisen before most
risen_more before faults most risen within = omega (arith, risen, within)

-- a turn of a calm disk goes well, and none has failed behind it
well : (before most : ℕ) (books : Books) (turn : Turn) (next : Books) → (HasRisen before most → ⊥) → books.failed ≡ None → (a : TurnAct)
    → CountsFaults before most None a turn.faults → Does a books turn next → GoesWell a × (next.failed ≡ None)
well before most books turn next calm none act.Granted counts does = (tt, ap (λ (b : Books). b.failed) does.later_is ∙ none)
well before most books turn next calm none act.GivenBack counts does = (tt, ap (λ (b : Books). b.failed) does.later_is ∙ none)
well before most books turn next calm none (act.Short kind need free) counts does = (tt, ap (λ (b : Books). b.failed) does.later_is ∙ none)
well before most books turn next calm none act.Halted counts does = absurd counts
well before most books turn next calm none act.CutAt counts does = (tt, ap (λ (b : Books). b.failed) does.later_is ∙ none)
well before most books turn next calm none act.Opened counts does = (tt, ap (λ (b : Books). b.failed) does.later_is ∙ none)
well before most books turn next calm none act.Durable counts does = (tt, ap (λ (b : Books). b.failed) does.later_is ∙ none)
well before most books turn next calm none act.Fail counts does = absurd (calm (risen_more before turn.faults most counts.0 counts.1))

-- and so do all of them
all_well : (before most : ℕ) (start : Books) {turns : List Turn} {books : Books} → AreTurns before most start turns books → start.failed ≡ None
    → (HasRisen before most → ⊥) → (books.failed ≡ None) × ((turn : Turn) → IsOneOf turns turn → GoesWell turn.act)
all_well before most start no_turns none calm = (none, λ turn one. absurd one)
all_well before most start (one_turn turns last books next are is) none calm =
    let so_far = all_well before most start are none calm in
    let own =
    well before most books last next calm so_far.0 last.act (subst (λ (o : Option ℕ). CountsFaults before most o last.act last.faults) so_far.0 is.faults) is.does in (
      own.1,
      λ turn one. elim (in_either turns (last ∷ []) turn one) [
        | inl earlier ↦ so_far.1 turn earlier
        | inr here ↦ elim here [
          | inl same ↦ subst (λ (t : Turn). GoesWell t.act) same own.0
          | inr nothing ↦ absurd nothing
        ]
      ],
    )

-- an fsync whose last turn goes well is answered well
answered_by : (turns : List Turn) (entry : Entry) (failed ack : Option ℕ) (turn : Turn) → IsOneOf turns turn → turn.stamp.0 ≡ entry.stamp.0 → (a : TurnAct)
    → turn.act ≡ a → GoesWell a → (given : Reply) → EndsWith failed a turn given ack → IsAnsweredInCalm turns entry given
answered_by turns entry failed ack turn among own act.Granted did good given ends = absurd ends
answered_by turns entry failed ack turn among own act.GivenBack did good given ends = subst (IsAnsweredInCalm turns entry) (sym ends) tt
answered_by turns entry failed ack turn among own (act.Short kind need free) did good given ends =
    subst (IsAnsweredInCalm turns entry) (sym ends) (record { turn = turn; among = among; own = own; did = did })
answered_by turns entry failed ack turn among own act.Halted did good given ends = absurd good
answered_by turns entry failed ack turn among own act.CutAt did good given ends = absurd ends
answered_by turns entry failed ack turn among own act.Opened did good given ends = absurd ends
answered_by turns entry failed ack turn among own act.Durable did good given ends = subst (IsAnsweredInCalm turns entry) (sym ends.0) tt
answered_by turns entry failed ack turn among own act.Fail did good given ends = absurd good

answered : (turns : List Turn) (entry : Entry) (failed : Option ℕ) → ((turn : Turn) → IsOneOf turns turn → GoesWell turn.act)
    → EndsBy failed (last_turn entry.stamp.0 turns) entry.reply entry.ack → IsAnsweredInCalm turns entry entry.reply
answered turns entry failed good ends = by (last_turn entry.stamp.0 turns) refl ends
  where
    by : (o : Option Turn) → last_turn entry.stamp.0 turns ≡ o → EndsBy failed o entry.reply entry.ack → IsAnsweredInCalm turns entry entry.reply
    by None none ends = subst (IsAnsweredInCalm turns entry) (sym ends) tt
    by (Some turn) is ends =
        let there = last_among entry.stamp.0 turns turn is in
        answered_by turns entry failed entry.ack turn there.0 there.1 turn.act refl (good turn there.0) entry.reply ends

-- a run that was not mounted has no call
no_call : (status : Status) (history : List Entry) (mounted : Bool) → IsDone status → IsMountedBy status history mounted → mounted ≡ false → history ≡ []
no_call status history mounted (inl done) is not =
    absurd (true_not_false (sym (subst (λ (s : Status). IsMountedBy s history mounted) done is) ∙ not))
no_call status history mounted (inr want) is not = subst (λ (s : Status). IsMountedBy s history mounted) want is not

pub runs_are_complete : (old new : View) → RunsAreComplete old new
runs_are_complete old new due_by nodes phases writing ends before after status history turns served due nothing =
    by served.mounted refl served.turns_are
  where
    done : IsDone status
    done =
        due_done (HasRisen ends.source_before ends.source_after) (HasRisen ends.sink_before ends.sink_after) (HasRisen old.faults new.faults)
        (due_by served.caused.judged) status due served.caused.status_is nothing.source nothing.sink nothing.disk

    mounted : HasTurns old new served.first history turns → WentWell served.first status history turns
    mounted has =
        let recorded = has.recorded in
        let good =
        all_well recorded.before new.faults _ recorded.kept refl (λ risen. nothing.disk (Rose-earlier old.faults recorded.before new.faults recorded.since risen)) in
        record {
          done = done;
          turns_are = good.1;
          answers = λ entry node live. answered turns entry recorded.books.failed good.1 (recorded.ends entry node live);
        }

    by : (was : Bool) → served.mounted ≡ was → HasTurnsBy was old new served.first history turns → WentWell served.first status history turns
    by true was has = mounted has
    by false was none = record {
      done = done;
      turns_are = λ turn one. absurd (subst (λ (l : List Turn). IsOneOf l turn) none one);
      answers = λ entry node live. absurd (subst (λ (h : List Entry). IsOneOf h entry) (no_call status history served.mounted done served.mounted_is was) live.among);
    }

pub makings_are_complete : (old new : View) → MakingsAreComplete old new
makings_are_complete old new layout ends before after status makes due nothing =
    due_done ⊥ (HasRisen ends.sink_before ends.sink_after) (HasRisen old.faults new.faults) (making_due layout old.size) status due makes.status_is
    (λ never. never) nothing.sink nothing.disk

pub showings_are_complete : (old new : View) → ShowingsAreComplete old new
showings_are_complete old new ends before after status image shows told faultless nothing =
    let due : shows.due ≡ Done = shows.due_told image told ∙ ap showing_due faultless in
    due_done ⊥ (HasRisen ends.sink_before ends.sink_after) (HasRisen old.faults new.faults) shows.due status due shows.status_is (λ never. never)
    nothing.sink nothing.disk

pub fresh_disks_are_asked : FreshDisksAreAsked
fresh_disks_are_asked old new bytes test fresh counts asked =
    asked bytes fresh.content (calm (memory_view old).content fresh.content) counts
  where
    calm : (o : Option (List ℕ)) → o ≡ Some bytes → OnlyTold o (images (memory_view old))
    calm (Some content) is = λ image left. fresh.left image left ∙ sym (some_same is)
    calm None is = tt

pub fresh_disks_count_on : FreshDisksCountOn
fresh_disks_count_on memory bytes fresh = let none = fresh.now in omega (arith, none)
