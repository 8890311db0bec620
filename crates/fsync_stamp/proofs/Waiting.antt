-- An fsync that waits: from its stamp, and up to its answer.
use Rattle.std.proofs.Common.{◌≡◌, ◌<◌, ◌≤◌, ℕ, Bool, true, false, List, [], ◌∷◌, ◌++◌, length, Some, None, refl, sym, ap, subst, ◌∙◌, arith}
use mathlib.Core.List.{IsPrefix}
use Rattle.std.proofs.lemmas.List.{length-append}
use Rattle.std.specs.Prelude.{MatchOption}
use Rattle.std.proofs.lemmas.List.{append_cancel_left}
use Rattle.sfs_base.specs.declared.numbers.NodeId.{NodeId}
use Rattle.sfs_base.specs.declared.numbers.Stamp.{Stamp}
use Rattle.tree_laws.specs.Tree.{TreeState}
use Rattle.tree_laws.specs.declared.call.Call.TheVariants as call
use Rattle.tree_laws.specs.declared.reply.Reply.TheVariants as reply
use Rattle.tree_laws.specs.declared.reply.Code.TheVariants as code
use Rattle.tree_laws.specs.declared.history.Entry.{Entry}
use Rattle.tree_laws.specs.History.{tree_after}
use Rattle.tree_laws.specs.Verdict.{Verdict}
use Rattle.stamp_table.specs.declared.event.Event.{Event}
use Rattle.stamp_table.specs.declared.event.Event.TheVariants.{Called}
use Rattle.stamp_table.specs.declared.held.HeldCell.{HeldCell}
use Rattle.stamp_table.specs.declared.view.View.{View}
use Rattle.stamp_table.specs.Events.{calls_in}
use Rattle.stamp_table.specs.Table.{IsSameCore, entry_numbered, with_answer}
use Rattle.stamp_table.proofs.Calling.{calls_snoc}
use Rattle.stamp_table.proofs.Keeps.{begins_on, begins_longer}
use Rattle.mem_values.specs.Start.{FileHand, FileState}
use Rattle.mem_values.specs.declared.cell.Cell.{Cell}
use Rattle.mem_values.specs.declared.fact.Fact.{Fact}
use Rattle.mem_values.proofs.Told.{calls_grow}
use Rattle.mem_calls.specs.Outcome.{IsAnswered}
use Rattle.mem_calls.specs.Working.{WorksOn}
use Rattle.fsync_stamp.specs.Adding.{calls_seen}
use Rattle.fsync_stamp.specs.Stamping.{EndsStamp, StampsFsync, ComesToStamp, WaitingLasts, AnswersEndWaiting, reply_for_now}
use Rattle.fsync_stamp.proofs.Fsyncs.{verdict_is}

-- two cores that are the same as a third one's pause before
pub same_on : (before mid after : FileHand) → IsSameCore before mid → IsSameCore mid after → IsSameCore before after
same_on before mid after first then = record {
  table = then.table ∙ first.table;
  cores = then.cores ∙ first.cores;
  leads = then.leads ∙ first.leads;
  number = then.number ∙ first.number;
}

-- an entry right behind a log that begins with all that was seen is counted above that, and was seen since
pub behind_log : (before after : FileHand) (log : List (Event Fact)) (entry : Entry) → IsPrefix before.view.seen log
    → after.view.seen ≡ log ++ Called entry ∷ [] → entry.stamp.0 ≡ length (calls_in log)
    → (calls_seen before ≤ entry.stamp.0) × ((entry.stamp.0 < calls_seen after) × IsPrefix before.view.seen after.view.seen)
behind_log before after log entry began seen stamped =
    let grown = calls_grow before.view.seen log began in
    let more = ap (λ l. length (calls_in l)) seen in
    let last = ap (λ (l : List Entry). length l) (calls_snoc log entry) in
    let longer = length-append (calls_in log) (entry ∷ []) in (
      omega (arith, grown, stamped),
      (omega (arith, more, last, longer, stamped), subst (IsPrefix before.view.seen) (sym seen) (begins_longer before.view.seen log (Called entry ∷ []) began)),
    )

-- what a core does while it works on leaves the stamp of an fsync as it is
abbrev pub on_stamp : (t : FileState) (node : NodeId) (lives : Bool) (stamp : ℕ) (before mid after : FileHand) → WorksOn before mid
    → EndsStamp t node lives stamp mid after → EndsStamp t node lives stamp before after
on_stamp t node lives stamp before mid after on ends =
    let core_is = ap (λ (v : View TreeState (Event Fact)). v.core) on.view in
    record {
      table_is = ends.table_is;
      first_is = ends.first_is;
      core_is = ends.core_is;
      holds_none = ends.holds_none;
      none_held = ends.none_held;
      same = same_on before mid after (record {
        table = ap (λ (h : FileHand). h.table) on.frame;
        cores = ap (λ (h : FileHand). h.cores) on.frame;
        leads = ap (λ (h : FileHand). h.leads) on.frame;
        number = core_is;
      }) ends.same;
      waiting = ends.waiting;
      log = ends.log;
      entry = ends.entry;
      entry_is = ends.entry_is ∙ ap (λ core. entry_numbered core (call.Fsync node) (reply_for_now lives) (length (calls_in ends.log))) core_is;
      stamp_is = ends.stamp_is;
      began = begins_on before.view.seen mid.view.seen ends.log on.seen ends.began;
      seen = ends.seen;
      entries = ends.entries ∙ ap (λ (h : FileHand). h.entries ++ ends.entry ∷ []) on.frame;
      mine = ends.mine ∙ ap (λ (v : View TreeState (Event Fact)). v.mine ++ Called ends.entry ∷ []) on.view;
      alive = ends.alive;
      room = ends.room ∙ on.room;
      spare = ends.spare ∙ ap (λ (h : FileHand). h.spare) on.frame;
    }

-- the fsync of a live node waits
abbrev pub stamps_live : (t : FileState) (node : NodeId) (stamp : ℕ) (before after : FileHand) → before.held ≡ [] → EndsStamp t node true stamp before after
    → StampsFsync t node stamp before after
stamps_live t node stamp before after none ends =
    let stamped : ends.entry.stamp.0 ≡ length (calls_in ends.log) = ap (λ (e : Entry). e.stamp.0) ends.entry_is in
    let behind = behind_log before after ends.log ends.entry ends.began ends.seen stamped in
    let empty = ap (λ (l : List (HeldCell Cell)). length l) none in
    let room = ends.room in
    record {
      waits = record {
        table_is = ends.table_is;
        first_is = ends.first_is;
        core_is = ends.core_is;
        holds_none = ends.holds_none;
        none_held = ends.none_held;
        same = ends.same;
        adds = record {
          entry = ends.entry;
          entries = ends.entries;
          call_is = ap (λ (e : Entry). e.call) ends.entry_is;
          reply_is = ap (λ (e : Entry). e.reply) ends.entry_is;
          late = behind.0;
          early = behind.1.0;
          seen = behind.1.1;
        };
        stamped = stamped ∙ sym ends.stamp_is;
        waits = ends.waiting;
      };
      log = ends.log;
      entry = ends.entry;
      entry_is = ends.entry_is;
      stamp_is = ends.stamp_is;
      began = ends.began;
      seen = ends.seen;
      entries = ends.entries;
      mine = ends.mine;
      alive = ends.alive;
      room = omega (arith, room, empty);
      spare = ends.spare;
    }

-- the fsync of a dead node is answered
pub answers_dead : (t : FileState) (node : NodeId) (stamp : ℕ) (before after : FileHand) → EndsStamp t node false stamp before after
    → IsAnswered t (call.Fsync node) (reply.Error code.NoEntry) before after
answers_dead t node stamp before after ends = record {
  between = record {
    table_is = ends.table_is;
    first_is = ends.first_is;
    core_is = ends.core_is;
    holds_none = ends.holds_none;
    none_held = ends.none_held;
    none_waits = ends.waiting;
  };
  same = ends.same;
  room = ends.room;
  spare = ends.spare;
  stands = (
    ends.log,
    ends.entry,
    record {
      entry_is = ends.entry_is;
      began = ends.began;
      seen = ends.seen;
      due = ap (λ (v : Verdict). v.reply) (sym (verdict_is (tree_after t.first (calls_in ends.log)) before.view.core node false (sym ends.alive)));
    },
    ends.entries,
    ends.mine,
  );
}

-- what the stamp of an fsync comes to
pub comes_to : (t : FileState) (node : NodeId) (lives : Bool) (stamp : Stamp) (before after : FileHand) → before.held ≡ []
    → EndsStamp t node lives stamp.0 before after
    → ComesToStamp t node before after (Rattle.std.specs.Prelude.if◌then◌else◌ lives (Some stamp) None)
comes_to t node true stamp before after none ends = stamps_live t node stamp.0 before after none ends
comes_to t node false stamp before after none ends = answers_dead t node stamp.0 before after ends

-- an fsync that waits does so as long as its core makes no call and gives no answer
pub waiting_lasts : WaitingLasts
waiting_lasts t node stamp before mid after waits on = record {
  table_is = on.same.table ∙ waits.table_is;
  first_is = on.first ∙ waits.first_is;
  core_is = subst (λ n. n < length t.first.made) (sym on.same.number) waits.core_is;
  holds_none = on.holds_none;
  none_held = on.none_held;
  same = same_on before mid after waits.same on.same;
  adds = record {
    entry = waits.adds.entry;
    entries = on.entries ∙ waits.adds.entries;
    call_is = waits.adds.call_is;
    reply_is = waits.adds.reply_is;
    late = waits.adds.late;
    early = let e = waits.adds.early in let g = calls_grow mid.view.seen after.view.seen on.seen in omega (arith, e, g);
    seen = begins_on before.view.seen mid.view.seen after.view.seen waits.adds.seen on.seen;
  };
  stamped = waits.stamped;
  waits = on.waiting ∙ waits.waits;
}

-- the last of two lists
pub last_same : (front other : List Entry) (one two : Entry) → front ++ one ∷ [] ≡ other ++ two ∷ [] → (front ≡ other) × (one ≡ two)
last_same [] [] one two same = (refl, cc (same))
last_same [] (x ∷ other) one two same =
    let long = ap (λ (l : List Entry). length l) same in
    let more = length-append other (two ∷ []) in absurd (omega (arith, long, more))
last_same (x ∷ front) [] one two same =
    let long = ap (λ (l : List Entry). length l) same in
    let more = length-append front (one ∷ []) in absurd (omega (arith, long, more))
last_same (x ∷ front) (y ∷ other) one two same =
    let heads : x ≡ y = cc (same) in
    let rest = last_same front other one two (let tails : front ++ one ∷ [] ≡ other ++ two ∷ [] = cc (same) in tails) in
    ((λ i. heads i ∷ rest.0 i), rest.1)

-- an answer ends the waiting
pub answers_end_waiting : AnswersEndWaiting
answers_end_waiting t node reply ack before mid after (stamp, waits) gives =
    let found = gives.answered in
    let pair = last_same found.0 before.entries found.1 waits.adds.entry (sym found.3 ∙ waits.adds.entries) in
    let view : after.view ≡ mid.view = ap (λ (h : FileHand). h.view) gives.frame in
    let table : after.table ≡ mid.table = ap (λ (h : FileHand). h.table) gives.frame in
    record {
      adds = record {
        entry = with_answer waits.adds.entry reply ack;
        entries = found.4 ∙ (λ i. pair.0 i ++ with_answer (pair.1 i) reply ack ∷ []);
        call_is = waits.adds.call_is;
        reply_is = refl;
        late = waits.adds.late;
        early = subst (λ (v : View TreeState (Event Fact)). waits.adds.entry.stamp.0 < length (calls_in v.seen)) (sym view) waits.adds.early;
        seen = subst (λ (v : View TreeState (Event Fact)). IsPrefix before.view.seen v.seen) (sym view) waits.adds.seen;
      };
      between = record {
        table_is = table ∙ waits.table_is;
        first_is = ap (λ (v : View TreeState (Event Fact)). v.first) view ∙ waits.first_is;
        core_is = subst (λ (v : View TreeState (Event Fact)). v.core < length t.first.made) (sym view) waits.core_is;
        holds_none = ap (λ (h : FileHand). h.held) gives.frame ∙ waits.holds_none;
        none_held = ap (λ (v : View TreeState (Event Fact)). v.held) view ∙ waits.none_held;
        none_waits = gives.waiting;
      };
      same = same_on before mid after waits.same (record {
        table = table;
        cores = ap (λ (h : FileHand). h.cores) gives.frame;
        leads = ap (λ (h : FileHand). h.leads) gives.frame;
        number = ap (λ (v : View TreeState (Event Fact)). v.core) view;
      });
    }
