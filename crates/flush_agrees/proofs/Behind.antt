-- How a core and its pen stand behind an fsync that was served.
use Rattle.std.proofs.Common.{◌≡◌, ◌++◌, ◌∷◌, ◌∙◌, ◌≢◌, ◌<◌, ◌≤◌, List, Option, ℕ, Some, filter_map, [], sym, append-nil, ap, append_assoc, flat_map, false, refl, inl, inr, subst, arith, map}
use Rattle.std.proofs.lemmas.List.Elements.{filter_map-append}
use Rattle.std.proofs.lemmas.List.{append_cancel_left, map-append}
use Rattle.std.proofs.lemmas.Grind.{flat_map-append}
use Rattle.sfs_base.specs.declared.numbers.NodeId.{NodeId}
use Rattle.sfs_base.specs.declared.numbers.SpaceKind.{SpaceKind}
use Rattle.tree_laws.specs.declared.reply.Reply.{Reply}
use Rattle.tree_laws.specs.declared.reply.Reply.TheVariants as reply
use Rattle.tree_laws.specs.declared.history.Entry.{Entry}
use Rattle.tree_laws.specs.declared.turns.Turn.{Turn}
use Rattle.tree_laws.specs.declared.turns.TurnAct.TheVariants as act
use Rattle.tree_laws.specs.declared.call.Call.{Call}
use Rattle.tree_laws.specs.declared.call.Call.TheVariants as call
use Rattle.cut_laws.specs.Closure.{Flush}
use Rattle.cut_laws.specs.Rules.{IsOneOf}
use Rattle.cut_laws.proofs.Basics.{in_either, in_left, in_right}
use Rattle.cut_laws.proofs.Listed.{from_map}
use Rattle.turn_laws.specs.Ways.{no_turn, lacked, returned, committed, at_once, doubted, opened_doubted, halted, granted_halted, begun_halted, opened_halted, Way, acts_of_way, answer_of, GoesWay}
use Rattle.merge_laws.specs.Pens.{FsyncTurns, FsyncsDiffer}
use Rattle.stamp_table.specs.Answered.{is_refusal}
use Rattle.stamp_table.specs.Table.{with_answer}
use Rattle.stamp_table.specs.declared.view.View.{View}
use Rattle.stamp_table.specs.declared.event.Event.TheVariants.{Called}
use Rattle.stamp_table.specs.declared.event.Event.{Event}
use Rattle.stamp_table.proofs.Keeps.{begins_on}
use Rattle.mem_values.specs.Start.{FileState, FileHand}
use Rattle.mem_values.specs.Account.{Commitment, commit_told}
use Rattle.mem_values.proofs.Told.{calls_grow}
use Rattle.slot_laws.specs.Labels.{fsync_told, OwnTold, own_from, nothing_told}
use Rattle.slot_laws.specs.Telling.{BoxTurn, events_in, TellTurns, turns_in, at_box, labels_in, turns_told}
use Rattle.slot_laws.specs.declared.label.Label.{Label}
use Rattle.slot_laws.proofs.Telling.{own_both, box_own, labels_told, events_both, tell_both}
use Rattle.disk_box.specs.Pens.{PenHand, own_at, PenGoes}
use Rattle.journal_set.specs.Telling.{AreTurns}
use Rattle.journal_set.specs.Ways.{TakesWay}
use Rattle.journal_set.specs.Flying.{SeesFailure}
use Rattle.journal_set.specs.Numbering.{IsNewerThan, numbers_reserved}
use Rattle.fsync_stamp.specs.declared.copying.StampedFsync.{StampedFsync}
use Rattle.fsync_stamp.specs.Stamping.{StampsFsync}
use Rattle.fsync_stamp.specs.Adding.{calls_seen}
use Rattle.fsync_stamp.proofs.Waiting.{last_same}
use Rattle.fsync_catch.specs.declared.looking.WaitingFsync.{WaitingFsync}
use Rattle.fsync_dir.specs.Answering.{EndsWaiting}
use Rattle.fsync_dir.proofs.Pens.{numbers_more}
use Rattle.pen_laws.specs.Agreement.{IsServedFsync}
use Rattle.flush_agrees.specs.Made.{FlushMade, TurnIsOf}
use Rattle.flush_agrees.specs.Agreement.{LacksInSight, ToldInSight, MadeIsAgreed, FlushTold, CoresAgree, EntryAgrees, FlushAgrees, turns_of, NumbersHave, fsync_turns, NumbersDiffer, HasFlushFor, IsDurableFsync, IsToldOfOne}
use Rattle.flush_agrees.specs.Laws.{FlushPlace}
use Rattle.flush_agrees.proofs.Turns.{TakesOwn, OwnTurn, own_each}
use Rattle.flush_agrees.proofs.Growing.{GoesFurther, one_on, flush_on, entry_on}
use Rattle.flush_agrees.proofs.Planned.{own_behind}
use Rattle.flush_agrees.proofs.BoxTurns.{each_turn}

-- an fsync that waits, as turns name it
abbrev pub flush_waiting : WaitingFsync → Flush
flush_waiting fsync = fsync_told fsync.node fsync.stamp

-- An fsync that waited has its answer: its core's turns at the box, what was made of it and what was told.
pub record ServedBehind {D : Type 0} (t : FileState) (fsync : WaitingFsync) (waiting after : FileHand) (pen done : PenHand D) (given : Reply) : Type 0 where
  pub turns : List BoxTurn
  pub made : Option FlushMade
  pub mine_is : done.view.mine ≡ pen.view.mine ++ events_in pen.view.core turns
  pub tells : (stamps : ℕ → ℕ) → ((one : FlushMade) → made ≡ Some one → stamps one.number ≡ fsync.stamp.0)
      → TellTurns stamps pen.view.core (own_at pen) turns
  pub are : AreTurns (TurnIsOf made) turns
  pub ack : Option ℕ
  pub ends : EndsWaiting t fsync given ack waiting after
  pub own : TakesOwn pen.view.core (flush_waiting fsync) ack (own_at pen) (own_at done)
  pub way : TakesWay given (own_at pen) (own_at done)
  pub stopped : (faults : ℕ) → given ≡ reply.Stopped faults → SeesFailure done faults
  pub told : List Commitment
  pub commits : filter_map commit_told after.view.mine ≡ filter_map commit_told waiting.view.mine ++ told
  pub told_ok : (one : Commitment) → IsOneOf told one → given ≡ reply.Ok
  pub told_of : (one : Commitment) → IsOneOf told one → (m : FlushMade) × (made ≡ Some m) × ToldInSight t after m one
  pub agreed : MadeIsAgreed t after done (flush_waiting fsync) made
  pub newer : (one : FlushMade) → made ≡ Some one → IsNewerThan pen.view.mine one.number
  pub landed : given ≡ reply.Ok → (m : FlushMade) × (made ≡ Some m) × (one : Commitment) × ToldInSight t after m one
  pub lacked : (kind : SpaceKind) (need free : ℕ) → given ≡ reply.NoSpace kind need free
      → LacksInSight t after done (record { flush = flush_waiting fsync; turns = turns; made = made }) kind need free

-- the turns that turns at the box make of what a core told
pub turns_more : (core : ℕ) (turns : List BoxTurn) (own : OwnTold) → (own_from (events_in core turns) own).told ≡ own.told ++ turns_in turns
turns_more core [] own = sym (append-nil own.told)
turns_more core (one ∷ turns) own =
    ap (λ (o : OwnTold). o.told) (own_both (at_box core (labels_in one)) (events_in core turns) own)
    ∙ (turns_more core turns (own_from (at_box core (labels_in one)) own)
    ∙ (ap (λ (o : OwnTold). o.told ++ turns_in turns) (box_own core (labels_in one) own)
    ∙ (ap (λ l. l ++ turns_in turns) (labels_told core (labels_in one) own)
    ∙ append_assoc own.told (flat_map turns_told (labels_in one)) (turns_in turns))))

-- no fsync that goes one of the ways is refused
way_served : (way : Way) → is_refusal (answer_of way) ≡ false
way_served no_turn = refl
way_served (lacked kind need free) = refl
way_served returned = refl
way_served committed = refl
way_served at_once = refl
way_served doubted = refl
way_served opened_doubted = refl
way_served (halted faults) = refl
way_served (granted_halted faults) = refl
way_served (begun_halted faults) = refl
way_served (opened_halted faults) = refl

-- one that is answered Ok has a turn that makes it durable
way_landed : (way : Way) → answer_of way ≡ reply.Ok → IsOneOf (acts_of_way way) act.Durable
way_landed committed is = inr (inr (inr (inl refl)))
way_landed at_once is = inr (inr (inl refl))
way_landed no_turn is = absurd (cc is)
way_landed (lacked kind need free) is = absurd (cc is)
way_landed returned is = absurd (cc is)
way_landed doubted is = absurd (cc is)
way_landed opened_doubted is = absurd (cc is)
way_landed (halted faults) is = absurd (cc is)
way_landed (granted_halted faults) is = absurd (cc is)
way_landed (begun_halted faults) is = absurd (cc is)
way_landed (opened_halted faults) is = absurd (cc is)

ok_landed : (one : FlushTold) (given : Reply) → GoesWay (turns_in one.turns) given → given ≡ reply.Ok → IsDurableFsync one
ok_landed one given way is =
    let there = way_landed way.way (sym way.answered ∙ is) in
    let from = from_map (λ (turn : Turn). turn.act) (turns_in one.turns) act.Durable (subst (λ l. IsOneOf l act.Durable) (sym way.acts) there) in
    record { turn = from.0; among = from.1; durable = from.2 }

-- one more, with another stamp than all before
differ_more : (fsyncs : List FsyncTurns) (one : FsyncTurns) → FsyncsDiffer fsyncs → ((other : FsyncTurns) → IsOneOf fsyncs other → other.stamp ≢ one.stamp)
    → FsyncsDiffer (fsyncs ++ one ∷ [])
differ_more [] one once apart = ((λ other among. absurd among), tt)
differ_more (first ∷ fsyncs) one once apart = (
  (λ other among. elim (in_either fsyncs (one ∷ []) other among) [
    | inl old ↦ once.0 other old
    | inr last ↦ elim last [ inl same ↦ (λ is. apart first (inl refl) (sym is ∙ sym (ap (λ (f : FsyncTurns). f.stamp) same))) | inr past ↦ absurd past ]
  ]),
  differ_more fsyncs one once.1 (λ other among. apart other (inr among)),
)

module _ {D : Type 0} (at : FlushPlace D) (given : Reply) (fsyncs : List FlushTold) (goes : PenGoes at.pen at.done) (stamped : StampedFsync)
    (waiting : FileHand)
    (stamps : StampsFsync at.t at.node stamped.stamp.0 at.before waiting)
    (is : ServedBehind at.t (record { node = at.node; stamp = stamped.stamp }) waiting at.after at.pen at.done given)
    (agree : CoresAgree at.t at.before at.pen fsyncs) where
  abbrev core : ℕ
  core = at.pen.view.core

  abbrev one : FlushTold
  one = record { flush = fsync_told at.node stamped.stamp; turns = is.turns; made = is.made }

  abbrev entry : Entry
  entry = with_answer stamps.entry given is.ack

  entries : at.after.entries ≡ at.before.entries ++ entry ∷ []
  entries =
      let found = is.ends.answered in
      let pair = last_same found.0 at.before.entries found.1 stamps.entry (sym found.3 ∙ stamps.entries) in
      found.4 ∙ (λ i. pair.0 i ++ with_answer (pair.1 i) given is.ack ∷ [])

  number_same : at.done.view.core ≡ at.pen.view.core
  number_same = ap (λ (v : View _ _). v.core) goes.view

  core_after : at.after.view.core ≡ at.before.view.core
  core_after = is.ends.same.number ∙ stamps.waits.same.number

  stamp_same : stamped.stamp.0 ≡ entry.stamp.0
  stamp_same = stamps.stamp_is ∙ sym (ap (λ (e : Entry). e.stamp.0) stamps.entry_is)

  mine_waits : filter_map commit_told waiting.view.mine ≡ filter_map commit_told at.before.view.mine
  mine_waits =
      ap (filter_map commit_told) stamps.mine
      ∙ (filter_map-append commit_told at.before.view.mine (Called stamps.entry ∷ []) ∙ append-nil (filter_map commit_told at.before.view.mine))

  commits_after : filter_map commit_told at.after.view.mine ≡ filter_map commit_told at.before.view.mine ++ is.told
  commits_after = is.commits ∙ ap (λ l. l ++ is.told) mine_waits

  -- what was agreed on is so still
  on : GoesFurther at.before at.after at.pen at.done
  on = record {
    core = core_after;
    seen = begins_on at.before.view.seen waiting.view.seen at.after.view.seen stamps.waits.adds.seen is.ends.seen;
    commits = λ told among. subst (λ l. IsOneOf l told) (sym commits_after) (in_left (filter_map commit_told at.before.view.mine) is.told told among);
    served = λ old node own. record {
      among = subst (λ l. IsOneOf l old) (sym entries) (in_left at.before.entries (entry ∷ []) old own.among);
      asked = own.asked;
      served = own.served;
    };
    table = ap (λ (h : PenHand D). h.table) goes.frame;
    saw = goes.seen;
    numbers = λ number among.
        subst (λ l. IsOneOf l number) (sym (ap numbers_reserved is.mine_is ∙ numbers_more at.pen.view.mine (events_in core is.turns)))
        (in_left (numbers_reserved at.pen.view.mine) (numbers_reserved (events_in core is.turns)) number among);
  }

  -- its turns are those that its core told
  told_more : (own_at at.done).told ≡ (own_at at.pen).told ++ turns_in is.turns
  told_more = ap (λ (o : OwnTold). o.told) (own_behind at.pen at.done is.turns is.mine_is) ∙ turns_more core is.turns (own_at at.pen)

  own_turns_are : is.own.turns ≡ turns_in is.turns
  own_turns_are = append_cancel_left (own_at at.pen).told is.own.turns (turns_in is.turns) (sym is.own.told_is ∙ told_more)

  way_turns_are : is.way.turns ≡ turns_in is.turns
  way_turns_are = append_cancel_left (own_at at.pen).told is.way.turns (turns_in is.turns) (sym is.way.told_is ∙ told_more)

  own_turn : (turn : Turn) → IsOneOf (turns_in is.turns) turn → OwnTurn core one.flush is.ack turn
  own_turn turn among = own_each core one.flush is.ack is.own.turns is.own.own turn (subst (λ l. IsOneOf l turn) (sym own_turns_are) among)

  core_entry : entry.core.0 ≡ at.before.view.core
  core_entry = ap (λ (e : Entry). e.core.0) stamps.entry_is

  own : IsServedFsync at.after entry at.node
  own = record {
    among = subst (λ l. IsOneOf l entry) (sym entries) (in_right at.before.entries (entry ∷ []) entry (inl refl));
    asked = ap (λ (e : Entry). e.call) stamps.entry_is;
    served = ap is_refusal is.way.way.answered ∙ way_served is.way.way.way;
  }

  early : stamped.stamp.0 < calls_seen at.after
  early =
      let first = stamps.waits.adds.early in let same = stamps.waits.stamped in
      let more = calls_grow waiting.view.seen at.after.view.seen is.ends.seen in omega (arith, first, same, more)

  late : calls_seen at.before ≤ stamped.stamp.0
  late = let first = stamps.waits.adds.late in let same = stamps.waits.stamped in omega (arith, first, same)

  entered : EntryAgrees at.after at.done one entry at.node
  entered = record {
    own = own;
    past = let first = early in let same = stamp_same in omega (arith, first, same);
    core_is = core_entry ∙ sym core_after;
    flush_is = λ i. record { node = at.node.0; stamp = stamp_same i };
    each = λ turn among. let mine = own_turn turn among in record {
      core_is = λ i. record { 0 = (mine.core_is ∙ (agree.one ∙ sym core_entry)) i };
      node_is = λ i. record { 0 = ap (λ (f : Flush). f.node) mine.flush_is i };
      stamp_is = λ i. record { 0 = (ap (λ (f : Flush). f.stamp) mine.flush_is ∙ stamp_same) i };
    };
    way = subst (λ l. GoesWay l given) way_turns_are is.way.way;
    ack = λ turn among durable. (own_turn turn among).ack_is durable;
    stopped = is.stopped;
  }

  agrees_new : FlushAgrees at.t at.after at.done one
  agrees_new = record {
    entry = entry;
    node = at.node;
    entered = entered;
    turns = λ turn among. each_turn (TurnIsOf is.made) is.turns is.are turn among;
    made = is.agreed;
    landed = λ ok. let has = is.landed ok in record { made = has.0; is = has.1; told = has.2; tells = has.3 };
    lacked = is.lacked;
  }

  -- all turns, with its own
  turns_after : turns_of (fsyncs ++ one ∷ []) ≡ turns_of fsyncs ++ is.turns
  turns_after = flat_map-append (λ (f : FlushTold). f.turns) fsyncs (one ∷ []) ∙ ap (λ l. turns_of fsyncs ++ l) (append-nil is.turns)

  mine_after : at.done.view.mine ≡ events_in core (turns_of (fsyncs ++ one ∷ []))
  mine_after =
      is.mine_is
      ∙ (ap (λ l. l ++ events_in core is.turns) agree.told
      ∙ (sym (events_both core (turns_of fsyncs) is.turns) ∙ ap (events_in core) (sym turns_after)))

  tells_after : (names : ℕ → ℕ) → NumbersHave names (fsyncs ++ one ∷ []) → TellTurns names core nothing_told (turns_of (fsyncs ++ one ∷ []))
  tells_after names has =
      subst (TellTurns names core nothing_told) (sym turns_after)
      (tell_both names core nothing_told (turns_of fsyncs) is.turns
      (agree.tells names (λ other made among. has other made (in_left fsyncs (one ∷ []) other among)))
      (subst (λ (l : List (Event Label)). TellTurns names core (own_from l nothing_told) is.turns) agree.told
      (is.tells names (λ made same. has one made (in_right fsyncs (one ∷ []) one (inl refl)) same))))

  -- each stamp of before is below its own
  stamp_below : (other : FlushTold) → IsOneOf fsyncs other → other.flush.stamp < stamped.stamp.0
  stamp_below other among =
      let was = (agree.each other among).entered in
      let past = was.past in let same = ap (λ (f : Flush). f.stamp) was.flush_is in let up = late in omega (arith, past, same, up)

  once_after : FsyncsDiffer (map fsync_turns (fsyncs ++ one ∷ []))
  once_after =
      subst FsyncsDiffer (sym (map-append fsync_turns fsyncs (one ∷ [])))
      (differ_more (map fsync_turns fsyncs) (fsync_turns one) agree.once (λ other among is_same.
      let from = from_map fsync_turns fsyncs other among in
      let low = stamp_below from.0 from.1 in let same = ap (λ (f : FsyncTurns). f.stamp) from.2 in omega (arith, low, same, is_same)))

  -- and each number
  number_below : (other : FlushTold) (made : FlushMade) → IsOneOf fsyncs other → other.made ≡ Some made → (m : FlushMade) → is.made ≡ Some m
      → made.number < m.number
  number_below other made among same m mine =
      let was = subst (MadeIsAgreed at.t at.before at.pen other.flush) same (agree.each other among).made in
      is.newer m mine made.number was.reserved

  numbers_after : NumbersDiffer (fsyncs ++ one ∷ [])
  numbers_after a b made also first second is_a is_b same =
      elim (in_either fsyncs (one ∷ []) a first) [
        | inl old ↦ elim (in_either fsyncs (one ∷ []) b second) [
          | inl other ↦ agree.numbers a b made also old other is_a is_b same
          | inr new ↦ elim new [
            | inl mine ↦ absurd
                (let low = number_below a made old is_a also (ap (λ (f : FlushTold). f.made) mine ∙ is_b) in omega (arith, low, same))
            | inr past ↦ absurd past
          ]
        ]
        | inr new ↦ elim new [
          | inl mine ↦ elim (in_either fsyncs (one ∷ []) b second) [
            | inl other ↦ absurd
                (let low = number_below b also other is_b made (ap (λ (f : FlushTold). f.made) mine ∙ is_a) in omega (arith, low, same))
            | inr last ↦ elim last [ inl also_mine ↦ ap (λ (f : FlushTold). f.flush.stamp) (sym mine ∙ also_mine) | inr past ↦ absurd past ]
          ]
          | inr past ↦ absurd past
        ]
      ]

  others_after : (old : Entry) (node : NodeId) → IsServedFsync at.after old node → HasFlushFor at.after at.done (fsyncs ++ one ∷ []) old node
  others_after old node served = elim (in_either at.before.entries (entry ∷ []) old (subst (λ l. IsOneOf l old) entries served.among)) [
    | inl before ↦
        let has = agree.others old node (record { among = before; asked = served.asked; served = served.served }) in
        record {
          one = has.one;
          among = in_left fsyncs (one ∷ []) has.one has.among;
          entered = entry_on at.t at.before at.after at.pen at.done on has.one old node has.entered;
        }
    | inr new ↦ elim new [
      | inl same ↦ record {
        one = one;
        among = in_right fsyncs (one ∷ []) one (inl refl);
        entered = subst (λ (z : Entry × NodeId). EntryAgrees at.after at.done one z.0 z.1)
            (λ i. (same i, same_node (own.asked) (ap (λ (e : Entry). e.call) same ∙ served.asked) i)) entered;
      }
      | inr past ↦ absurd past
    ]
  ]
    where
      same_node : {c : Call} {a b : NodeId} → c ≡ call.Fsync a → c ≡ call.Fsync b → a ≡ b
      same_node first second = cc (sym first ∙ second)

  commits_all : (told : Commitment) → IsOneOf (filter_map commit_told at.after.view.mine) told → IsToldOfOne at.t at.after (fsyncs ++ one ∷ []) told
  commits_all told among =
      elim (in_either (filter_map commit_told at.before.view.mine) is.told told (subst (λ l. IsOneOf l told) commits_after among)) [
        | inl before ↦
            let was = one_on at.t at.before at.after at.pen at.done on fsyncs told (agree.commits told before) in
            record {
              one = was.one;
              among = in_left fsyncs (one ∷ []) was.one was.among;
              landed = was.landed;
              made = was.made;
              is = was.is;
              tells = was.tells;
            }
        | inr new ↦
            let has = is.told_of told new in
            record {
              one = one;
              among = in_right fsyncs (one ∷ []) one (inl refl);
              landed = ok_landed one given entered.way (is.told_ok told new);
              made = has.0;
              is = has.1;
              tells = has.2;
            }
      ]

  -- so they agree on one more
  pub agrees_more : CoresAgree at.t at.after at.done (fsyncs ++ one ∷ [])
  agrees_more = record {
    one = number_same ∙ (agree.one ∙ sym core_after);
    told = subst (λ c. at.done.view.mine ≡ events_in c (turns_of (fsyncs ++ one ∷ []))) (sym number_same) mine_after;
    tells = λ names has. subst (λ c. TellTurns names c nothing_told (turns_of (fsyncs ++ one ∷ []))) (sym number_same) (tells_after names has);
    each = λ other among. elim (in_either fsyncs (one ∷ []) other among) [
      | inl old ↦ flush_on at.t at.before at.after at.pen at.done on other (agree.each other old)
      | inr new ↦ elim new [ inl same ↦ subst (FlushAgrees at.t at.after at.done) same agrees_new | inr past ↦ absurd past ]
    ];
    once = once_after;
    numbers = numbers_after;
    others = others_after;
    commits = commits_all;
  }
