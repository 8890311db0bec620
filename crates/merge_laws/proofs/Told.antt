-- What turns tell of answers and acknowledgements, where they are what fsyncs do.
use Rattle.std.specs.List.{list_any}
use Rattle.std.specs.Option.{option_or}
use Rattle.std.proofs.Common.{◌≡◌, ◌∷◌, ◌++◌, ◌∙◌, ◌||◌, ℕ, Bool, true, false, cond, List, [], map, Option, Some, None, inl, inr, refl, sym, ap, subst, nat_eq}
use Rattle.std.proofs.lemmas.List.{append_assoc, map-append}
use Rattle.sfs_base.specs.declared.numbers.NodeId.{NodeId}
use Rattle.sfs_base.specs.declared.numbers.Stamp.{Stamp}
use Rattle.sfs_base.proofs.BasicOptions.{some_same}
use Rattle.sfs_base.proofs.BasicTruth.{false_not_true, or_true}
use Rattle.sfs_base.proofs.BasicNumbers.{same_number}
use Rattle.tree_laws.specs.declared.history.Entry.{Entry}
use Rattle.tree_laws.specs.declared.reply.Reply.{Reply}
use Rattle.tree_laws.specs.declared.reply.Reply.TheVariants as reply
use Rattle.tree_laws.specs.declared.turns.Turn.{Turn}
use Rattle.tree_laws.specs.declared.turns.TurnAct.{TurnAct}
use Rattle.tree_laws.specs.declared.turns.TurnAct.TheVariants as act
use Rattle.tree_laws.specs.History.{IsLegal}
use Rattle.tree_laws.specs.Tree.{TreeState}
use Rattle.cut_laws.specs.Closure.{Flush, HasLiveNode}
use Rattle.cut_laws.specs.Covers.{IsAcknowledged}
use Rattle.cut_laws.specs.Rules.{IsOneOf}
use Rattle.cut_laws.proofs.Basics.{in_right}
use Rattle.cut_laws.proofs.Entries.{stamps_are_once}
use Rattle.crash_laws.specs.Listed.{MayBeWritten, IsListedFsync}
use Rattle.crash_laws.specs.Survives.{IsFailure, HasFailure}
use Rattle.crash_laws.proofs.Fsyncs.{listed_live, acknowledged_listed}
use Rattle.turn_laws.specs.Books.{flush_at}
use Rattle.turn_laws.specs.Recorded.{IsLiveFsync, IsOfFsync, last_turn, EndsWith, EndsBy}
use Rattle.turn_laws.specs.Ways.{Way, committed, at_once, doubted, opened_doubted, halted, granted_halted, begun_halted, opened_halted, acts_of_way, answer_of, own_turns, GoesWay, HasCommit}
use Rattle.turn_laws.proofs.Causes.{fsync_same, last_among}
use Rattle.merge_laws.specs.Laws.{MergedTell}
use Rattle.merge_laws.specs.Phases.{no_turn_yet, goes_from}
use Rattle.merge_laws.specs.Pens.{failed_in}
use Rattle.merge_laws.specs.Plays.{PensMerge}
use Rattle.merge_laws.specs.Tell.{WasDurable, Lands}
use Rattle.merge_laws.proofs.Lists.{StandsAt, stands_at, among_at}
use Rattle.merge_laws.proofs.Phases.{ways_go, durable_is_last, own_at}
use Rattle.merge_laws.proofs.Merged.{last_of, last_own, last_behind}
use Rattle.cut_laws.proofs.Listed.{to_filter}

-- whether an act opens a commit
opens : TurnAct → Bool
opens act.Opened = true
opens _ = false

opens_one : (acts : List TurnAct) → IsOneOf acts act.Opened → list_any opens acts ≡ true
unfolding opens
opens_one [] one = absurd one
opens_one (did ∷ acts) (inl same) = ap (λ (a : TurnAct). opens a || list_any opens acts) same
opens_one (did ∷ acts) (inr one) = ap (λ (b : Bool). opens did || b) (opens_one acts one) ∙ or_true (opens did)

-- an fsync whose commit was opened is answered Ok, DiskFailed or Stopped
opened_answers : (way : Way) → list_any opens (acts_of_way way) ≡ true → MayBeWritten (answer_of way)
unfolding opens
opened_answers committed e = tt
opened_answers at_once e = tt
opened_answers opened_doubted e = tt
opened_answers (opened_halted faults) e = tt
opened_answers doubted e = tt
opened_answers (halted faults) e = tt
opened_answers (granted_halted faults) e = tt
opened_answers (begun_halted faults) e = tt
opened_answers _ e = absurd (false_not_true e)

-- where it was answered so and none failed, it was answered Ok
not_failed : (given : Reply) → MayBeWritten given → (IsFailure given → ⊥) → given ≡ reply.Ok
not_failed reply.Ok may never = refl
not_failed reply.DiskFailed may never = absurd (never tt)
not_failed (reply.Stopped faults) may never = absurd (never tt)
not_failed _ may never = absurd may

-- an fsync that ends with an answer of Ok ends with a Durable
ends_ok : (failed : Option ℕ) (a : TurnAct) (turn : Turn) (given : Reply) (ack : Option ℕ) → EndsWith failed a turn given ack → given ≡ reply.Ok
    → (a ≡ act.Durable) × (ack ≡ Some turn.now)
ends_ok failed act.Granted turn given ack ends ok = absurd ends
ends_ok failed act.GivenBack turn given ack ends ok = absurd (cc (sym ends ∙ ok))
ends_ok failed (act.Short kind need free) turn given ack ends ok = absurd (cc (sym ends ∙ ok))
ends_ok failed act.Halted turn given ack ends ok = absurd (cc (sym ends.2 ∙ ok))
ends_ok failed act.CutAt turn given ack ends ok = absurd ends
ends_ok failed act.Opened turn given ack ends ok = absurd ends
ends_ok failed act.Durable turn given ack ends ok = (refl, ends.1)
ends_ok failed act.Fail turn given ack ends ok = absurd (cc (sym ends ∙ ok))

-- The last turn of an fsync that was answered Ok.
record EndsDurable (turns : List Turn) (entry : Entry) : Type 0 where
  turn : Turn
  last : last_turn entry.stamp.0 turns ≡ Some turn
  did : turn.act ≡ act.Durable
  told : entry.ack ≡ Some turn.now

ends_durable : (failed : Option ℕ) (turns : List Turn) (entry : Entry) (last : Option Turn) → last_turn entry.stamp.0 turns ≡ last
    → EndsBy failed last entry.reply entry.ack → entry.reply ≡ reply.Ok → EndsDurable turns entry
ends_durable failed turns entry None e ends ok = absurd (cc (sym ends ∙ ok))
ends_durable failed turns entry (Some turn) e ends ok =
    let its = ends_ok failed turn.act turn entry.reply entry.ack ends ok in
    record { turn = turn; last = e; did = its.0; told = its.1 }

-- the last among turns of which one has the stamp
last_behind_own : (front : List Turn) (turn : Turn) (back : List Turn)
    → last_turn turn.stamp.0 (front ++ turn ∷ back) ≡ option_or (last_turn turn.stamp.0 back) (Some turn)
last_behind_own [] turn back =
    ap (λ (b : Bool). option_or (last_turn turn.stamp.0 back) (cond b (Some turn) None)) (same_number turn.stamp.0)
last_behind_own (first ∷ front) turn back =
    ap (λ (o : Option Turn). option_or o (cond (nat_eq first.stamp.0 turn.stamp.0) (Some first) None)) (last_behind_own front turn back)
    ∙ by (last_turn turn.stamp.0 back)
  where
    by : (o : Option Turn) → option_or (option_or o (Some turn)) (cond (nat_eq first.stamp.0 turn.stamp.0) (Some first) None) ≡ option_or o (Some turn)
    by None = refl
    by (Some later) = refl

opened_or_durable : act.Opened ≡ act.Durable → ⊥
opened_or_durable e = cc

module _ (first : TreeState) (history : List Entry) (turns : List Turn) (legal : IsLegal first history) (merge : PensMerge first history turns) where
  stamp_of : (turn : Turn) (is : IsOfFsync first history turn) → turn.stamp.0 ≡ is.entry.stamp.0
  stamp_of turn is = ap (λ (s : Stamp). s.0) is.stamp

  -- behind a Durable its fsync has no turn
  pub none_behind : (front : List Turn) (turn : Turn) (back : List Turn) → turns ≡ front ++ turn ∷ back → turn.act ≡ act.Durable
      → own_turns turn.stamp.0 back ≡ []
  none_behind front turn back whole did = by (own_turns turn.stamp.0 back) refl
    where
      its : IsOfFsync first history turn
      its = merge.each turn (subst (λ (l : List Turn). IsOneOf l turn) (sym whole) (among_at front turn back))

      way : GoesWay (own_turns its.entry.stamp.0 turns) its.entry.reply
      way = merge.goes its.entry turn.node its.fsync

      acts : acts_of_way way.way ≡ map (λ (t : Turn). t.act) (own_turns turn.stamp.0 front) ++ act.Durable ∷ map (λ (t : Turn). t.act)
          (own_turns turn.stamp.0 back)
      acts =
          sym way.acts
          ∙ ap (map (λ (t : Turn). t.act)) (ap (λ (n : ℕ). own_turns n turns) (sym (stamp_of turn its)) ∙ ap (own_turns turn.stamp.0) whole
          ∙ own_at turn front back)
          ∙ map-append (λ (t : Turn). t.act) (own_turns turn.stamp.0 front) (turn ∷ own_turns turn.stamp.0 back)
          ∙ ap (λ (a : TurnAct). map (λ (t : Turn). t.act) (own_turns turn.stamp.0 front) ++ a ∷ map (λ (t : Turn). t.act) (own_turns turn.stamp.0 back)) did

      by : (rest : List Turn) → own_turns turn.stamp.0 back ≡ rest → own_turns turn.stamp.0 back ≡ []
      by [] e = e
      by (next ∷ rest) e =
          absurd
          (durable_is_last no_turn_yet (map (λ (t : Turn). t.act) (own_turns turn.stamp.0 front)) next.act (map (λ (t : Turn). t.act) rest)
          (ap (goes_from no_turn_yet)
          (ap (λ (l : List Turn). map (λ (t : Turn). t.act) (own_turns turn.stamp.0 front) ++ act.Durable ∷ map (λ (t : Turn). t.act) l) (sym e)
          ∙ sym acts) ∙ ways_go way.way))

  -- so it is the last turn of its fsync
  durable_last : (turn : Turn) → IsOneOf turns turn → turn.act ≡ act.Durable → last_turn turn.stamp.0 turns ≡ Some turn
  durable_last turn one did =
      let there = stands_at turns turn one in
      ap (last_turn turn.stamp.0) there.whole ∙ last_own turn.stamp.0 (there.front ++ turn ∷ there.back)
      ∙ ap last_of (own_at turn there.front there.back)
      ∙ ap (λ (l : List Turn). last_of (own_turns turn.stamp.0 there.front ++ turn ∷ l)) (none_behind there.front turn there.back there.whole did)
      ∙ last_behind (own_turns turn.stamp.0 there.front) turn

  durable : (turn : Turn) → IsOneOf turns turn → turn.act ≡ act.Durable → IsAcknowledged history (flush_at turn) turn.now
  durable turn one did =
      let its = merge.each turn one in
      let last : last_turn its.entry.stamp.0 turns ≡ Some turn =
      ap (λ (n : ℕ). last_turn n turns) (sym (stamp_of turn its)) ∙ durable_last turn one did in
      let ends : EndsWith (failed_in turns) act.Durable turn its.entry.reply its.entry.ack =
      subst (λ (a : TurnAct). EndsWith (failed_in turns) a turn its.entry.reply its.entry.ack) did
      (subst (λ (o : Option Turn). EndsBy (failed_in turns) o its.entry.reply its.entry.ack) last (merge.ends its.entry turn.node its.fsync)) in
      record {
        entry = its.entry;
        among = its.fsync.among;
        node = turn.node;
        asked = its.fsync.asked;
        own = λ i. record { node = turn.node.0; stamp = stamp_of turn its i };
        answered = ends.0;
        moment = ends.1;
      }

  -- an fsync that was answered Ok ends with a Durable
  ok_ends : (entry : Entry) (node : NodeId) → IsLiveFsync first history entry node → entry.reply ≡ reply.Ok → EndsDurable turns entry
  ok_ends entry node live ok = ends_durable (failed_in turns) turns entry (last_turn entry.stamp.0 turns) refl (merge.ends entry node live) ok

  acknowledged : (flush : Flush) (moment : ℕ) → IsAcknowledged history flush moment → WasDurable turns flush moment
  acknowledged flush moment is =
      let live : IsLiveFsync first history is.entry is.node = record {
        among = is.among;
        asked = is.asked;
        alive = subst (HasLiveNode first history) is.own (listed_live first history legal flush (acknowledged_listed history flush moment is));
      } in
      let last = ok_ends is.entry is.node live is.answered in
      let there = last_among is.entry.stamp.0 turns last.turn last.last in
      let its = merge.each last.turn there.0 in
      let same = stamps_are_once first history its.entry is.entry legal its.fsync.among is.among (sym (stamp_of last.turn its) ∙ there.1) in
      let node = fsync_same (sym its.fsync.asked ∙ ap (λ (e : Entry). e.call) same ∙ is.asked) in
      record {
        turn = last.turn;
        among = there.0;
        did = last.did;
        own = (λ i. record { node = (node i).0; stamp = there.1 i }) ∙ sym is.own;
        now = some_same (sym last.told ∙ is.moment);
      }

  opened_is_own : (turn : Turn) (one : IsOneOf turns turn) (its : IsOfFsync first history turn) → IsOneOf (own_turns its.entry.stamp.0 turns) turn
  opened_is_own turn one its =
      to_filter (λ (t : Turn). nat_eq t.stamp.0 its.entry.stamp.0) turns turn one
      (subst (λ (n : ℕ). nat_eq n its.entry.stamp.0 ≡ true) (sym (stamp_of turn its)) (same_number its.entry.stamp.0))

  mapped : (l : List Turn) (turn : Turn) → IsOneOf l turn → IsOneOf (map (λ (t : Turn). t.act) l) turn.act
  mapped [] turn one = absurd one
  mapped (t ∷ l) turn (inl same) = inl (ap (λ (u : Turn). u.act) same)
  mapped (t ∷ l) turn (inr one) = inr (mapped l turn one)

  written : (turn : Turn) → IsOneOf turns turn → turn.act ≡ act.Opened → (its : IsOfFsync first history turn) → MayBeWritten its.entry.reply
  written turn one did its =
      let way = merge.goes its.entry turn.node its.fsync in
      let opened : IsOneOf (acts_of_way way.way) act.Opened =
      subst (λ (l : List TurnAct). IsOneOf l act.Opened) way.acts
      (subst (IsOneOf (map (λ (t : Turn). t.act) (own_turns its.entry.stamp.0 turns))) did
      (mapped (own_turns its.entry.stamp.0 turns) turn (opened_is_own turn one its))) in
      subst MayBeWritten (sym way.answered) (opened_answers way.way (opens_one (acts_of_way way.way) opened))

  answered : (turn : Turn) → IsOneOf turns turn → turn.act ≡ act.Opened → IsListedFsync history (flush_at turn)
  answered turn one did =
      let its = merge.each turn one in
      record {
        entry = its.entry;
        among = its.fsync.among;
        fsync = record { node = turn.node; asked = its.fsync.asked; own = λ i. record { node = turn.node.0; stamp = stamp_of turn its i } };
        answered = written turn one did its;
      }

  lands : (HasFailure history → ⊥) → (turn : Turn) → IsOneOf turns turn → turn.act ≡ act.Opened → Lands turns turn
  lands none turn one did = by (last_turn turn.stamp.0 there.back) refl
    where
      there : StandsAt turns turn
      there = stands_at turns turn one

      its : IsOfFsync first history turn
      its = merge.each turn one

      way : GoesWay (own_turns its.entry.stamp.0 turns) its.entry.reply
      way = merge.goes its.entry turn.node its.fsync

      in_turns : (landing : Turn) → IsOneOf there.back landing → IsOneOf turns landing
      in_turns landing among = subst (λ (l : List Turn). IsOneOf l landing) (sym there.whole) (in_right there.front (turn ∷ there.back) landing (inr among))

      landing_own : (landing : Turn) → landing.stamp.0 ≡ turn.stamp.0 → IsOneOf turns landing → IsOneOf (own_turns its.entry.stamp.0 turns) landing
      landing_own landing same among =
          to_filter (λ (t : Turn). nat_eq t.stamp.0 its.entry.stamp.0) turns landing among
          (subst (λ (n : ℕ). nat_eq n its.entry.stamp.0 ≡ true) (sym (same ∙ stamp_of turn its)) (same_number its.entry.stamp.0))

      ok : its.entry.reply ≡ reply.Ok
      ok = not_failed its.entry.reply (written turn one did its) (λ f. none (record { entry = its.entry; among = its.fsync.among; failed = f }))

      last : EndsDurable turns its.entry
      last = ok_ends its.entry turn.node its.fsync ok

      found : option_or (last_turn turn.stamp.0 there.back) (Some turn) ≡ Some last.turn
      found =
          sym (last_behind_own there.front turn there.back) ∙ ap (last_turn turn.stamp.0) (sym there.whole)
          ∙ ap (λ (n : ℕ). last_turn n turns) (stamp_of turn its) ∙ last.last

      by : (o : Option Turn) → last_turn turn.stamp.0 there.back ≡ o → Lands turns turn
      by None e =
          let same : turn ≡ last.turn = some_same (ap (λ (o : Option Turn). option_or o (Some turn)) (sym e) ∙ found) in
          absurd (opened_or_durable (sym did ∙ ap (λ (t : Turn). t.act) same ∙ last.did))
      by (Some landing) e =
          let same : landing ≡ last.turn = some_same (ap (λ (o : Option Turn). option_or o (Some turn)) (sym e) ∙ found) in
          let among = last_among turn.stamp.0 there.back landing e in
          let at = stands_at there.back landing among.0 in
          let theirs = merge.each landing (in_turns landing among.0) in
          let entry = stamps_are_once first history theirs.entry its.entry legal theirs.fsync.among its.fsync.among
          (sym (stamp_of landing theirs) ∙ among.1 ∙ stamp_of turn its) in
          let node = fsync_same (sym theirs.fsync.asked ∙ ap (λ (x : Entry). x.call) entry ∙ its.fsync.asked) in
          record {
            front = there.front;
            between = at.front;
            landing = landing;
            back = at.back;
            whole = there.whole ∙ ap (λ (l : List Turn). there.front ++ turn ∷ l) at.whole
                ∙ sym (append_assoc there.front (turn ∷ at.front) (landing ∷ at.back));
            did = ap (λ (t : Turn). t.act) same ∙ last.did;
            own = λ i. record { node = (node i).0; stamp = among.1 i };
            commit =
                subst (λ (a : TurnAct). HasCommit way.number a landing.commit) (ap (λ (t : Turn). t.act) same ∙ last.did)
                (way.commits landing (landing_own landing among.1 (in_turns landing among.0)))
                ∙ sym (subst (λ (a : TurnAct). HasCommit way.number a turn.commit) did (way.commits turn (opened_is_own turn one its)));
          }

pub merged_tell : MergedTell
merged_tell first history turns legal merge = record {
  durable = durable first history turns legal merge;
  acknowledged = acknowledged first history turns legal merge;
  answered = answered first history turns legal merge;
  lands = lands first history turns legal merge;
}
