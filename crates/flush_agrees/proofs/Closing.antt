-- A core and its pen that agree do so on the whole of what a mount leaves.
use mathlib.Core.List.{IsPrefix}
use Rattle.std.proofs.Common.{◌∷◌, ◌||◌, ◌≡◌, ◌∙◌, ◌++◌, ◌≢◌, ◌⊎◌, Bool, true, false, List, [], map, inl, ap, inr, refl, sym, flat_map, filter, cond, subst, Some, ℕ, append_assoc}
use Rattle.std.proofs.lemmas.Grind.{flat_map-append}
use Rattle.sfs_base.specs.declared.numbers.NodeId.{NodeId}
use Rattle.sfs_base.specs.declared.numbers.Stamp.{Stamp}
use Rattle.sfs_base.proofs.BasicTruth.{true_not_false}
use Rattle.tree_laws.specs.declared.turns.TurnAct.{TurnAct}
use Rattle.tree_laws.specs.declared.turns.Turn.{Turn}
use Rattle.tree_laws.specs.declared.turns.TurnAct.TheVariants as act
use Rattle.tree_laws.specs.declared.reply.Reply.TheVariants as reply
use Rattle.tree_laws.specs.declared.reply.Reply.{Reply}
use Rattle.tree_laws.specs.declared.history.Entry.{Entry}
use Rattle.cut_laws.specs.Rules.{IsOneOf}
use Rattle.cut_laws.specs.Closure.{Flush}
use Rattle.cut_laws.proofs.RunFacts.{in_filter}
use Rattle.cut_laws.proofs.Listed.{from_map, to_filter, to_map}
use Rattle.turn_laws.specs.Ways.{no_turn, lacked, returned, committed, at_once, doubted, opened_doubted, halted, granted_halted, begun_halted, opened_halted, Way, acts_of_way, answer_of, GoesWay}
use Rattle.turn_laws.specs.Books.{flush_at}
use Rattle.merge_laws.specs.Pens.{FsyncTurns, FsyncsDiffer, HasTurnsFor, PenAgrees}
use Rattle.book_laws.specs.Along.{LackTold}
use Rattle.stamp_table.specs.declared.event.Event.TheVariants.{Told}
use Rattle.stamp_table.specs.declared.event.Event.{Event}
use Rattle.stamp_table.proofs.Keeps.{begins_on, begins_itself}
use Rattle.mem_values.specs.Start.{FileState, FileHand, given_by}
use Rattle.mem_values.specs.declared.fact.Fact.{Fact}
use Rattle.mem_values.specs.Account.{Commitment}
use Rattle.note_laws.specs.Run.{TableRun, IsTableRun}
use Rattle.made_laws.specs.Made.{run_on, CoreMaking, MadeEitherWay}
use Rattle.made_laws.specs.Own.{TellsMaking}
use Rattle.made_laws.proofs.Later.{makings_go_on}
use Rattle.made_laws.proofs.Owns.{tellings_go_on}
use Rattle.slot_laws.specs.declared.label.Label.TheVariants as label
use Rattle.slot_laws.specs.Telling.{turns_in, BoxTurn, turns_told, labels_in, events_in, TellTurns}
use Rattle.slot_laws.specs.Labels.{nothing_told}
use Rattle.disk_box.specs.Pens.{PenHand}
use Rattle.disk_box.specs.Box.{past_of}
use Rattle.pen_laws.specs.Agreement.{HasTurnsOf, AgreeOn, IsServedFsync}
use Rattle.pen_laws.proofs.Closing.{agreements_close}
use Rattle.flush_agrees.specs.Closing.{LacksAtEnd, has_turns, any_turn, MountLogs, ReachesEnd, ToldAtEnd, pen_fsyncs, MadeAtEnd, AgreeAtEnd, AgreementsEnd}
use Rattle.flush_agrees.specs.Agreement.{FlushTold, fsync_turns, turns_of, CoresAgree, run_to, ToldInSight, EntryAgrees, HasFlushFor, MadeIsAgreed}
use Rattle.flush_agrees.specs.Made.{FlushMade, TurnIsOf}
use Rattle.flush_agrees.proofs.Failed.{failure_stays}

-- whether an act makes a commit durable
abbrev is_durable : TurnAct → Bool
is_durable act.Durable = true
is_durable _ = false

abbrev any_durable : List TurnAct → Bool
any_durable [] = false
any_durable (did ∷ acts) = is_durable did || any_durable acts

durable_among : (turns : List Turn) (turn : Turn) → IsOneOf turns turn → turn.act ≡ act.Durable → any_durable (map (λ (one : Turn). one.act) turns) ≡ true
durable_among [] turn among is = absurd among
durable_among (one ∷ turns) turn (inl same) is =
    ap (λ a. is_durable a || any_durable (map (λ (one : Turn). one.act) turns)) (ap (λ (t : Turn). t.act) same ∙ is)
durable_among (one ∷ turns) turn (inr among) is = either (is_durable one.act) (durable_among turns turn among is)
  where
    either : (b : Bool) → any_durable (map (λ (one : Turn). one.act) turns) ≡ true
        → (b || any_durable (map (λ (one : Turn). one.act) turns)) ≡ true
    either true later = refl
    either false later = later

-- an fsync with a durable turn was answered Ok
way_ok : (way : Way) → any_durable (acts_of_way way) ≡ true → answer_of way ≡ reply.Ok
way_ok no_turn is = absurd (true_not_false (sym is))
way_ok (lacked kind need free) is = absurd (true_not_false (sym is))
way_ok returned is = absurd (true_not_false (sym is))
way_ok committed is = refl
way_ok at_once is = refl
way_ok doubted is = absurd (true_not_false (sym is))
way_ok opened_doubted is = absurd (true_not_false (sym is))
way_ok (halted faults) is = absurd (true_not_false (sym is))
way_ok (granted_halted faults) is = absurd (true_not_false (sym is))
way_ok (begun_halted faults) is = absurd (true_not_false (sym is))
way_ok (opened_halted faults) is = absurd (true_not_false (sym is))

durable_ok : (turns : List Turn) (given : Reply) (turn : Turn) → GoesWay turns given → IsOneOf turns turn → turn.act ≡ act.Durable → given ≡ reply.Ok
durable_ok turns given turn way among is = way.answered ∙ way_ok way.way (sym (ap any_durable way.acts) ∙ durable_among turns turn among is)

-- whether an act tells a shortage
abbrev tells_short : TurnAct → Bool
tells_short (act.Short kind need free) = true
tells_short _ = false

abbrev any_short : List TurnAct → Bool
any_short [] = false
any_short (did ∷ acts) = tells_short did || any_short acts

short_among : (turns : List Turn) (turn : Turn) → IsOneOf turns turn → tells_short turn.act ≡ true → any_short (map (λ (one : Turn). one.act) turns) ≡ true
short_among [] turn among is = absurd among
short_among (one ∷ turns) turn (inl same) is =
    ap (λ a. tells_short a || any_short (map (λ (one : Turn). one.act) turns)) (ap (λ (t : Turn). t.act) same) ∙ first (tells_short turn.act) is
  where
    first : (b : Bool) → b ≡ true → (b || any_short (map (λ (one : Turn). one.act) turns)) ≡ true
    first true e = refl
    first false e = absurd (true_not_false (sym e))
short_among (one ∷ turns) turn (inr among) is = either (tells_short one.act) (short_among turns turn among is)
  where
    either : (b : Bool) → any_short (map (λ (one : Turn). one.act) turns) ≡ true → (b || any_short (map (λ (one : Turn). one.act) turns)) ≡ true
    either true later = refl
    either false later = later

-- A way that tells a shortage tells nothing else, and is answered so.
record TellsOneShort (way : Way) : Type 0 where
  lack : LackTold
  acts : acts_of_way way ≡ act.Short lack.kind lack.asked lack.have ∷ []
  answered : answer_of way ≡ reply.NoSpace lack.kind lack.asked lack.have

way_short : (way : Way) → any_short (acts_of_way way) ≡ true → TellsOneShort way
way_short (lacked kind need free) is = record { lack = record { kind = kind; asked = need; have = free }; acts = refl; answered = refl }
way_short no_turn is = absurd (true_not_false (sym is))
way_short returned is = absurd (true_not_false (sym is))
way_short committed is = absurd (true_not_false (sym is))
way_short at_once is = absurd (true_not_false (sym is))
way_short doubted is = absurd (true_not_false (sym is))
way_short opened_doubted is = absurd (true_not_false (sym is))
way_short (halted faults) is = absurd (true_not_false (sym is))
way_short (granted_halted faults) is = absurd (true_not_false (sym is))
way_short (begun_halted faults) is = absurd (true_not_false (sym is))
way_short (opened_halted faults) is = absurd (true_not_false (sym is))

only_act : (turns : List Turn) (did : TurnAct) → map (λ (t : Turn). t.act) turns ≡ did ∷ [] → (turn : Turn) → IsOneOf turns turn → turn.act ≡ did
only_act [] did e turn among = absurd among
only_act (own ∷ []) did e turn (inl same) = ap (λ (t : Turn). t.act) (sym same) ∙ cc e
only_act (own ∷ []) did e turn (inr never) = absurd never
only_act (own ∷ other ∷ others) did e turn among = absurd (cc e)

-- an fsync with a turn that tells a shortage is answered so
short_answered : (turns : List Turn) (given : Reply) (turn : Turn) (lack : LackTold) → GoesWay turns given → IsOneOf turns turn
    → turn.act ≡ act.Short lack.kind lack.asked lack.have → given ≡ reply.NoSpace lack.kind lack.asked lack.have
short_answered turns given turn lack way among is =
    let one = way_short way.way (sym (ap any_short way.acts) ∙ short_among turns turn among (ap tells_short is)) in
    let same : act.Short lack.kind lack.asked lack.have ≡ act.Short one.lack.kind one.lack.asked one.lack.have =
    sym is ∙ only_act turns (act.Short one.lack.kind one.lack.asked one.lack.have) (way.acts ∙ one.acts) turn among
    in
    way.answered ∙ (one.answered ∙ sym (again lack one.lack same))
  where
    again : (a b : LackTold) → act.Short a.kind a.asked a.have ≡ act.Short b.kind b.asked b.have
        → reply.NoSpace a.kind a.asked a.have ≡ reply.NoSpace b.kind b.asked b.have
    again a b same = cc same

-- and one without turns NoMemory
way_none : (way : Way) → acts_of_way way ≡ [] → answer_of way ≡ reply.NoMemory
way_none no_turn is = refl
way_none (lacked kind need free) is = absurd (cc is)
way_none returned is = absurd (cc is)
way_none committed is = absurd (cc is)
way_none at_once is = absurd (cc is)
way_none doubted is = absurd (cc is)
way_none opened_doubted is = absurd (cc is)
way_none (halted faults) is = absurd (cc is)
way_none (granted_halted faults) is = absurd (cc is)
way_none (begun_halted faults) is = absurd (cc is)
way_none (opened_halted faults) is = absurd (cc is)

abbrev turns_had : FsyncTurns → List Turn
turns_had one = one.turns

-- those without turns add none
some_turns : (all : List FsyncTurns) → flat_map turns_had (filter has_turns all) ≡ flat_map turns_had all
some_turns [] = refl
some_turns (one ∷ all) = by one.turns refl (some_turns all)
  where
    by : (turns : List Turn) → one.turns ≡ turns → flat_map turns_had (filter has_turns all) ≡ flat_map turns_had all
        → flat_map turns_had (filter has_turns (one ∷ all)) ≡ one.turns ++ flat_map turns_had all
    by [] is later =
        (λ i. flat_map turns_had (cond (any_turn (is i)) (one ∷ filter has_turns all) (filter has_turns all)))
        ∙ (later ∙ sym (ap (λ l. l ++ flat_map turns_had all) is))
    by (turn ∷ turns) is later =
        (λ i. flat_map turns_had (cond (any_turn (is i)) (one ∷ filter has_turns all) (filter has_turns all)))
        ∙ ap (λ l. one.turns ++ l) later

turns_each : (fsyncs : List FlushTold) → flat_map turns_had (map fsync_turns fsyncs) ≡ turns_in (turns_of fsyncs)
turns_each [] = refl
turns_each (one ∷ fsyncs) =
    ap (λ l. turns_in one.turns ++ l) (turns_each fsyncs)
    ∙ sym (flat_map-append (λ (turn : BoxTurn). flat_map turns_told (labels_in turn)) one.turns (turns_of fsyncs))

differ_some : (all : List FsyncTurns) → FsyncsDiffer all → FsyncsDiffer (filter has_turns all)
differ_some [] once = tt
differ_some (one ∷ all) once = by (has_turns one) (differ_some all once.1)
  where
    by : (b : Bool) → FsyncsDiffer (filter has_turns all) → FsyncsDiffer (cond b (one ∷ filter has_turns all) (filter has_turns all))
    by true later = ((λ other among. once.0 other (in_filter has_turns all other among).0), later)
    by false later = later

module _ {D : Type 0} (t : FileState) (hand : FileHand) (pen : PenHand D) (fsyncs : List FlushTold) (logs : MountLogs) (agree : CoresAgree t hand pen fsyncs)
    (ends : ReachesEnd t hand pen logs) where
  abbrev run : TableRun
  run = run_to t logs.log

  -- the run goes on from each log that the core has seen
  goes_on : (log : List (Event Fact)) → IsPrefix log hand.view.seen → IsPrefix log logs.log
  goes_on log since = begins_on log hand.view.seen logs.log since ends.seen

  run_is : (log : List (Event Fact)) (on : IsPrefix log logs.log) → run_on (run_to t log) on.0 ≡ run
  run_is log on = λ i. record { given = given_by t; first = t.first; log = on.1 i }

  made_then : (log : List (Event Fact)) (making : CoreMaking) → IsPrefix log logs.log → MadeEitherWay (run_to t log) making → MadeEitherWay run making
  made_then log making on made =
      subst (λ r. MadeEitherWay r making) (run_is log on)
      (makings_go_on (run_to t log) on.0 making (subst IsTableRun (sym (run_is log on)) ends.table) made)

  told_then : (one : FlushMade) (told : Commitment) → ToldInSight t hand one told → ToldAtEnd run one told
  told_then one told sight =
      let on = goes_on sight.log sight.since in
      record {
        tells = subst (λ r. TellsMaking r one.making told) (run_is sight.log on)
            (tellings_go_on (run_to t sight.log) on.0 one.making told (subst IsTableRun (sym (run_is sight.log on)) ends.table) sight.made);
        number_is = sight.number_is;
        wrote = sight.wrote;
      }

  abbrev record_turns : List Turn
  record_turns = (past_of pen.table.given logs.labels).turns

  -- the turns of an fsync agree with its entry over the whole record
  has_turns_of : (one : FlushTold) (entry : Entry) (node : NodeId) → EntryAgrees hand pen one entry node → turns_in one.turns ≢ []
      → HasTurnsOf record_turns entry node (fsync_turns one)
  has_turns_of one entry node entered some = record {
    own_stamp = sym (ap (λ (f : Flush). f.stamp) entered.flush_is);
    each = entered.each;
    some = some;
    way = entered.way;
    ack = entered.ack;
    stopped = λ faults stops.
        let sees = entered.stopped faults stops in
        failure_stays pen.table.given sees.front logs.labels faults ends.lawful (begins_on sees.front pen.view.seen logs.labels sees.seen ends.saw) sees.failed;
  }

  agree_on : (one : FsyncTurns) → IsOneOf (pen_fsyncs fsyncs) one → AgreeOn hand record_turns one
  agree_on one among =
      let in_map = in_filter has_turns (map fsync_turns fsyncs) one among in
      let from = from_map fsync_turns fsyncs one in_map.0 in
      let was = agree.each from.0 from.1 in
      let some : turns_in from.0.turns ≢ [] =
      λ empty. true_not_false (sym (ap has_turns from.2 ∙ in_map.1) ∙ ap any_turn empty) in
      subst (AgreeOn hand record_turns) from.2 (record {
        entry = was.entry;
        node = was.node;
        own = was.entered.own;
        past = was.entered.past;
        has = has_turns_of from.0 was.entry was.node was.entered some;
      })

  others_end : (entry : Entry) (node : NodeId) → IsServedFsync hand entry node → (entry.reply ≡ reply.NoMemory) ⊎ HasTurnsFor (pen_fsyncs fsyncs) entry.stamp.0
  others_end entry node own = by (turns_in has.one.turns) refl
    where
      has : HasFlushFor hand pen fsyncs entry node
      has = agree.others entry node own

      by : (turns : List Turn) → turns_in has.one.turns ≡ turns → (entry.reply ≡ reply.NoMemory) ⊎ HasTurnsFor (pen_fsyncs fsyncs) entry.stamp.0
      by [] is =
          let way = has.entered.way in
          inl (way.answered ∙ way_none way.way (sym way.acts ∙ ap (map (λ (turn : Turn). turn.act)) is))
      by (turn ∷ turns) is = inr (record {
        one = fsync_turns has.one;
        among = to_filter has_turns (map fsync_turns fsyncs) (fsync_turns has.one) (to_map fsync_turns fsyncs has.one has.among) (ap any_turn is);
        own = ap (λ (f : Flush). f.stamp) has.entered.flush_is;
      })

  agrees_end : PenAgrees t.first logs.history record_turns hand.view.core (pen_fsyncs fsyncs)
  agrees_end =
      agreements_close t.first logs.history hand.view.core hand record_turns record_turns (pen_fsyncs fsyncs) ends.legal ends.entries
      (begins_itself record_turns)
      (record { each = agree_on; once = differ_some (map fsync_turns fsyncs) agree.once; others = others_end })

  of_flush_end : (one : FlushTold) (turn : Turn) → IsOneOf fsyncs one → IsOneOf (turns_in one.turns) turn → flush_at turn ≡ one.flush
  of_flush_end one turn among there =
      let was = agree.each one among in
      let is = was.entered.each turn there in
      (λ i. record { node = ap (λ (n : NodeId). n.0) is.node_is i; stamp = ap (λ (s : Stamp). s.0) is.stamp_is i }) ∙ sym was.entered.flush_is

  made_end : (one : FlushTold) (made : FlushMade) → IsOneOf fsyncs one → one.made ≡ Some made
      → MadeAtEnd run hand.view.core pen.table.given.layout one made
  made_end one made among is =
      let was = agree.each one among in
      let has = subst (MadeIsAgreed t hand pen one.flush) is was.made in
      record {
        made_in = made_then has.sight.log made.making (goes_on has.sight.log has.sight.since) has.sight.made;
        core_is = has.sight.core_is;
        flush_is = has.sight.flush_is;
        grants = has.grants;
        turns = λ turn there. subst (λ o. TurnIsOf o turn) is (was.turns turn there);
      }

  lacked_end : (one : FlushTold) (turn : Turn) (lack : LackTold) → IsOneOf fsyncs one → IsOneOf (turns_in one.turns) turn
      → turn.act ≡ act.Short lack.kind lack.asked lack.have → LacksAtEnd run pen.table.given logs.labels one.flush turn lack
  lacked_end one turn lack among there did =
      let was = agree.each one among in
      let has = was.lacked lack.kind lack.asked lack.have
      (short_answered (turns_in one.turns) was.entry.reply turn lack was.entered.way there did) in
      let same : has.turn ≡ turn = only_there has.turn (subst (λ l. IsOneOf l turn) has.only there) in
      record {
        making = has.making;
        made_in = made_then has.sight.log has.making (goes_on has.sight.log has.sight.since) has.sight.made;
        flush_is = has.sight.flush_is;
        seen = has.seen;
        sees = has.sees;
        few = has.few;
        core = has.core;
        front = has.front;
        back = has.back ++ ends.saw.0;
        whole = sym ends.saw.1
            ∙ (ap (λ l. l ++ ends.saw.0) (has.whole ∙ ap (λ t. has.front ++ Told has.core (label.Noted t) ∷ has.back) same)
            ∙ append_assoc has.front (Told has.core (label.Noted turn) ∷ has.back) ends.saw.0);
        unmoved = has.unmoved;
        space = has.space;
        goes = has.goes;
        short = has.short;
      }
    where
      only_there : (own : Turn) → IsOneOf (own ∷ []) turn → own ≡ turn
      only_there own (inl same) = same
      only_there own (inr never) = absurd never

  pub agree_end : AgreeAtEnd t hand pen fsyncs logs
  agree_end = record {
    mine = sym ends.mine ∙ subst (λ c. pen.view.mine ≡ events_in c (turns_of fsyncs)) agree.one agree.told;
    tells = λ stamps has. subst (λ c. TellTurns stamps c nothing_told (turns_of fsyncs)) agree.one (agree.tells stamps has);
    made = made_end;
    unnumbered = λ one among is turn there. subst (λ o. TurnIsOf o turn) is ((agree.each one among).turns turn there);
    told = λ told among. let one = agree.commits told among in
        record { one = one.one; among = one.among; landed = one.landed; made = one.made; is = one.is; tells = told_then one.made told one.tells };
    landed = λ one turn among there durable.
        let was = agree.each one among in
        let has = was.landed (durable_ok (turns_in one.turns) was.entry.reply turn was.entered.way there durable) in
        record { made = has.made; is = has.is; told = has.told; tells = told_then has.made has.told has.tells };
    lacked = lacked_end;
    of_flush = of_flush_end;
    turns = sym (some_turns (map fsync_turns fsyncs) ∙ turns_each fsyncs);
    agrees = agrees_end;
  }

pub agreements_end : (D : Type 0) → AgreementsEnd D
agreements_end D t hand pen fsyncs logs agree ends = agree_end t hand pen fsyncs logs agree ends
