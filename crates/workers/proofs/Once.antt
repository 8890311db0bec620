-- A worker makes one call.
use Rattle.std.proofs.Common.{◌≡◌, ◌≤◌, ◌∙◌, ◌++◌, ◌∷◌, ℕ, List, [], Result, Ok, Err, sym, ap, subst, arith}
use Rattle.sfs_base.specs.declared.fault.NoMemory.{NoMemory}
use Rattle.tree_laws.specs.declared.call.Call.{Call}
use Rattle.tree_laws.specs.declared.history.Entry.{Entry}
use Rattle.tree_laws.specs.declared.reply.Reply.{Reply}
use Rattle.stamp_table.specs.Table.{IsBetweenCalls, IsSameCore}
use Rattle.stamp_table.proofs.Keeps.{begins_on}
use Rattle.mem_values.specs.Start.{FileHand, FileState}
use Rattle.mem_values.proofs.Told.{calls_grow}
use Rattle.fsync_stamp.specs.Adding.{AddsCall, calls_seen}
use Rattle.workers.specs.Keeping.{AddsNone, AddsOrRefused}
use Rattle.workers.specs.Phases.{AreBefore}
use Rattle.workers.specs.Works.{Rests}
use Rattle.workers.specs.declared.worker.Worker.{Worker}
use Rattle.workers.proofs.Added.{OnlySeesMore, more_between, more_entries, more_same, same_after}
use Rattle.workers.proofs.UnderWay.{before_both, before_higher}

-- a call that is made between two looks is made
module _ (before looked called after : FileHand) (first : OnlySeesMore before looked) (last : OnlySeesMore called after) where
  adds_between : (asked : Call) (reply : Reply) → AddsCall asked reply looked called → AddsCall asked reply before after
  adds_between asked reply adds =
      let earlier = calls_grow before.view.seen looked.view.seen first.seen in
      let further = calls_grow called.view.seen after.view.seen last.seen in
      let late = adds.late in
      let early = adds.early in
      record {
        entry = adds.entry;
        entries = more_entries called after last
            ∙ (adds.entries ∙ ap (λ (l : List Entry). l ++ adds.entry ∷ []) (more_entries before looked first));
        call_is = adds.call_is;
        reply_is = adds.reply_is;
        late = omega (arith, late, earlier);
        early = omega (arith, early, further);
        seen = begins_on before.view.seen called.view.seen after.view.seen
            (begins_on before.view.seen looked.view.seen called.view.seen first.seen adds.seen) last.seen;
      }

  none_between : AddsNone looked called → AddsNone before after
  none_between none = record {
    entries = more_entries called after last ∙ (none.entries ∙ more_entries before looked first);
    seen = begins_on before.view.seen called.view.seen after.view.seen
        (begins_on before.view.seen looked.view.seen called.view.seen first.seen none.seen) last.seen;
  }

  pub made_between : (asked : Call) (result : Result Reply NoMemory) → AddsOrRefused asked looked called result → AddsOrRefused asked before after result
  made_between asked (Ok reply) made = adds_between asked reply made
  made_between asked (Err fault) made = none_between made

-- Its entries lie below the calls that were seen behind it, where those of before lie below what was seen before it.
module _ (before after : FileHand) (until : ℕ) (past : AreBefore until before.entries) (low : until ≤ calls_seen before) where
  past_made : (asked : Call) (reply : Reply) → AddsCall asked reply before after → AreBefore (calls_seen after) after.entries
  past_made asked reply adds =
      let grew = calls_grow before.view.seen after.view.seen adds.seen in
      subst (AreBefore (calls_seen after)) (sym adds.entries)
      (before_both (calls_seen after) before.entries (adds.entry ∷ [])
      (before_higher until (calls_seen after) (omega (arith, grew, low)) before.entries past) (adds.early, tt))

  past_none : AddsNone before after → AreBefore (calls_seen after) after.entries
  past_none none =
      let grew = calls_grow before.view.seen after.view.seen none.seen in
      subst (AreBefore (calls_seen after)) (sym none.entries)
      (before_higher until (calls_seen after) (omega (arith, grew, low)) before.entries past)

  past_called : (asked : Call) (result : Result Reply NoMemory) → AddsOrRefused asked before after result → AreBefore (calls_seen after) after.entries
  past_called asked (Ok reply) made = past_made asked reply made
  past_called asked (Err fault) made = past_none made

-- A worker that rested has looked at the calls that it knew of, made one, and looked again.
pub record CallsOnce {P : Type 0} (t : FileState) (agrees : FileHand → P → Type 0) (asked : Call) (before after : Worker P) (result : Result Reply NoMemory)
    : Type 0 where
  pub looked : FileHand
  pub called : FileHand
  pub first_look : OnlySeesMore before.core looked
  pub enough : before.until ≤ calls_seen looked
  pub made : AddsOrRefused asked looked called result
  pub between : IsBetweenCalls t called
  pub same : IsSameCore looked called
  pub last_look : OnlySeesMore called after.core
  pub until_is : after.until ≡ calls_seen after.core
  pub agree : agrees after.core after.pen
  pub rests : Rests t agrees before

module _ {P : Type 0} (t : FileState) (agrees : FileHand → P → Type 0) (asked : Call) (before after : Worker P) (result : Result Reply NoMemory)
    (once : CallsOnce t agrees asked before after result) where
  pub once_made : AddsOrRefused asked before.core after.core result
  once_made = made_between before.core once.looked once.called after.core once.first_look once.last_look asked result once.made

  pub once_rests : Rests t agrees after
  once_rests = record {
    between = more_between once.called after.core once.last_look t once.between;
    agree = once.agree;
    past =
        let entries = more_entries before.core once.looked once.first_look in
        let grew = calls_grow once.called.view.seen after.core.view.seen once.last_look.seen in
        let until = once.until_is in
        subst (AreBefore after.until) (sym (more_entries once.called after.core once.last_look))
        (before_higher (calls_seen once.called) after.until (omega (arith, grew, until)) once.called.entries
        (past_called once.looked once.called before.until (subst (AreBefore before.until) (sym entries) once.rests.past) once.enough asked result once.made));
  }

  pub once_same : IsSameCore before.core after.core
  once_same = same_after before.core once.called after.core
      (same_after before.core once.looked once.called (more_same before.core once.looked once.first_look) once.same)
      (more_same once.called after.core once.last_look)
