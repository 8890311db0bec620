-- What calls, looks and reserving add to a core, and what they leave alone.
use Rattle.std.proofs.Common.{◌≡◌, ◌<◌, ℕ, Bool, false, cond, Result, Ok, Err, List, [], ◌∷◌, ◌++◌, length, filter, refl, sym, ap, ◌∙◌, subst, arith, append-nil}
use Rattle.std.proofs.lemmas.List.Elements.{filter-append}
use mathlib.Core.List.{IsPrefix}
use Rattle.sfs_base.specs.declared.fault.NoMemory.{NoMemory}
use Rattle.tree_laws.specs.Tree.{TreeState}
use Rattle.tree_laws.specs.declared.call.Call.{Call}
use Rattle.tree_laws.specs.declared.call.Call.TheVariants as call
use Rattle.tree_laws.specs.declared.history.Entry.{Entry}
use Rattle.tree_laws.specs.declared.reply.Reply.{Reply}
use Rattle.stamp_table.specs.declared.event.Event.{Event}
use Rattle.stamp_table.specs.declared.event.Event.TheVariants.{Called}
use Rattle.stamp_table.specs.declared.view.View.{View}
use Rattle.stamp_table.specs.Answered.{asks_fsync}
use Rattle.stamp_table.specs.Table.{IsBetweenCalls, IsSameCore, Looked}
use Rattle.stamp_table.proofs.Calling.{stamps_are_calls}
use Rattle.stamp_table.proofs.Keeps.{begins_itself, begins_on}
use Rattle.mem_values.specs.Facts.{IsLawfulLog}
use Rattle.mem_values.specs.Stands.{StandsAt}
use Rattle.mem_values.specs.Start.{FileHand, FileState, given_by}
use Rattle.mem_values.specs.declared.fact.Fact.{Fact}
use Rattle.mem_values.proofs.Told.{calls_grow}
use Rattle.mem_calls.specs.Calls.{IsPlainCall}
use Rattle.mem_calls.specs.Outcome.{ComesTo, IsAnswered, IsRefusedMemory}
use Rattle.fsync_stamp.specs.Adding.{AddsCall, calls_seen}
use Rattle.fsync_stamp.proofs.Waiting.{behind_log}
use Rattle.workers.specs.Keeping.{AddsNone, AddsOrRefused, KeepsFsyncs, is_of_fsync, is_fsync_entry}

-- a plain call is no fsync
pub plain_no_fsync : (c : Call) → IsPlainCall c → asks_fsync c ≡ false
plain_no_fsync (call.Fsync node) plain = absurd plain
plain_no_fsync (call.Rename d n e m) plain = absurd plain
plain_no_fsync (call.Look d n) plain = refl
plain_no_fsync (call.Make d n k) plain = refl
plain_no_fsync (call.Link f d n) plain = refl
plain_no_fsync (call.Unlink d n) plain = refl
plain_no_fsync (call.Rmdir d n) plain = refl
plain_no_fsync (call.Write f at bytes) plain = refl
plain_no_fsync (call.Read f at count) plain = refl
plain_no_fsync (call.Trunc f size) plain = refl
plain_no_fsync (call.Stat d) plain = refl
plain_no_fsync (call.List d) plain = refl

-- a list without what does not pass its test
dropped : {A : Type 0} (test : A → Bool) (list : List A) (last : A) → test last ≡ false → filter test (list ++ last ∷ []) ≡ filter test list
dropped test list last not = filter-append test list (last ∷ []) ∙ (ap (λ b. filter test list ++ cond b (last ∷ []) []) not ∙ append-nil (filter test list))

-- nothing differs but what was seen, and for how much there is room
pub record OnlySeesMore (before after : FileHand) : Type 0 where
  pub frame : record after { view = before.view; spare = before.spare; room = before.room } ≡ before
  pub view : record after.view { seen = before.view.seen } ≡ before.view
  pub seen : IsPrefix before.view.seen after.view.seen

pub sees_more : (t : FileState) (before after : FileHand) (number : ℕ) → Looked (IsLawfulLog (given_by t)) (StandsAt (given_by t)) before number after
    → OnlySeesMore before after
sees_more t before after number looked = record {
  frame = ap (λ (h : FileHand). record h { spare = before.spare; room = before.room }) looked.frame;
  view = looked.saw.frame;
  seen = looked.saw.seen;
}

pub reserves : (before after : FileHand) → record after { spare = before.spare; room = before.room } ≡ before → OnlySeesMore before after
reserves before after frame = record {
  frame = ap (λ (h : FileHand). record h { view = before.view }) frame;
  view = ap (λ (h : FileHand). record h.view { seen = before.view.seen }) frame;
  seen = subst (λ (v : View TreeState (Event Fact)). IsPrefix before.view.seen v.seen) (sym (ap (λ (h : FileHand). h.view) frame))
      (begins_itself before.view.seen);
}

-- a look counts the calls that were seen
pub counts_seen : (t : FileState) (before after : FileHand) (number : ℕ) → Looked (IsLawfulLog (given_by t)) (StandsAt (given_by t)) before number after
    → number ≡ calls_seen after
counts_seen t before after number looked = looked.saw.number_is ∙ stamps_are_calls after.view.seen

module _ (before after : FileHand) (more : OnlySeesMore before after) where
  pub more_same : IsSameCore before after
  more_same = record {
    table = ap (λ (h : FileHand). h.table) more.frame;
    cores = ap (λ (h : FileHand). h.cores) more.frame;
    leads = ap (λ (h : FileHand). h.leads) more.frame;
    number = ap (λ (v : View TreeState (Event Fact)). v.core) more.view;
  }

  pub more_entries : after.entries ≡ before.entries
  more_entries = ap (λ (h : FileHand). h.entries) more.frame

  pub more_keeps : KeepsFsyncs before after
  more_keeps = record {
    same = more_same;
    first = ap (λ (v : View TreeState (Event Fact)). v.first) more.view;
    events = ap (λ (v : View TreeState (Event Fact)). filter is_of_fsync v.mine) more.view;
    entries = ap (filter is_fsync_entry) more_entries;
    seen = more.seen;
  }

  pub more_none : AddsNone before after
  more_none = record { entries = more_entries; seen = more.seen }

  pub more_between : (t : FileState) → IsBetweenCalls t before → IsBetweenCalls t after
  more_between t between = record {
    table_is = ap (λ (h : FileHand). h.table) more.frame ∙ between.table_is;
    first_is = ap (λ (v : View TreeState (Event Fact)). v.first) more.view ∙ between.first_is;
    core_is = subst (λ n. n < length t.first.made) (sym (ap (λ (v : View TreeState (Event Fact)). v.core) more.view)) between.core_is;
    holds_none = ap (λ (h : FileHand). h.held) more.frame ∙ between.holds_none;
    none_held = ap (λ (v : View TreeState (Event Fact)). v.held) more.view ∙ between.none_held;
    none_waits = ap (λ (h : FileHand). h.waiting) more.frame ∙ between.none_waits;
  }

-- a call that was made
pub adds_call : (t : FileState) (c : Call) (reply : Reply) (before after : FileHand) → IsAnswered t c reply before after → AddsCall c reply before after
adds_call t c reply before after made =
    let log = made.stands.0 in
    let entry = made.stands.1 in
    let behind = made.stands.2 in
    let seen = behind_log before after log entry behind.began behind.seen (ap (λ (e : Entry). e.stamp.0) behind.entry_is) in
    record {
      entry = entry;
      entries = made.stands.3;
      call_is = ap (λ (e : Entry). e.call) behind.entry_is;
      reply_is = ap (λ (e : Entry). e.reply) behind.entry_is;
      late = seen.0;
      early = seen.1.0;
      seen = seen.1.1;
    }

-- and is no fsync
pub made_keeps : (t : FileState) (c : Call) (reply : Reply) (before after : FileHand) → IsBetweenCalls t before → asks_fsync c ≡ false
    → IsAnswered t c reply before after → KeepsFsyncs before after
made_keeps t c reply before after between not made =
    let entry = made.stands.1 in
    let asks : asks_fsync entry.call ≡ false = ap (λ (e : Entry). asks_fsync e.call) made.stands.2.entry_is ∙ not in
    record {
      same = made.same;
      first = made.between.first_is ∙ sym between.first_is;
      events = ap (filter is_of_fsync) made.stands.4 ∙ dropped is_of_fsync before.view.mine (Called entry) asks;
      entries = ap (filter is_fsync_entry) made.stands.3 ∙ dropped is_fsync_entry before.entries entry asks;
      seen = (adds_call t c reply before after made).seen;
    }

-- a call that was refused memory
pub refused_keeps : (t : FileState) (before after : FileHand) → IsBetweenCalls t before → IsRefusedMemory t before after → KeepsFsyncs before after
refused_keeps t before after between refused = record {
  same = refused.same;
  first = refused.between.first_is ∙ sym between.first_is;
  events = ap (filter is_of_fsync) refused.mine;
  entries = ap (filter is_fsync_entry) refused.entries;
  seen = refused.seen;
}

pub refused_none : (t : FileState) (before after : FileHand) → IsRefusedMemory t before after → AddsNone before after
refused_none t before after refused = record { entries = refused.entries; seen = refused.seen }

-- what came after more was seen came after what was seen before
pub adds_later : (c : Call) (reply : Reply) (before mid after : FileHand) → OnlySeesMore before mid → AddsCall c reply mid after → AddsCall c reply before after
adds_later c reply before mid after more adds = record {
  entry = adds.entry;
  entries = adds.entries ∙ ap (λ l. l ++ adds.entry ∷ []) (more_entries before mid more);
  call_is = adds.call_is;
  reply_is = adds.reply_is;
  late = let l = adds.late in let g = calls_grow before.view.seen mid.view.seen more.seen in omega (arith, l, g);
  early = adds.early;
  seen = begins_on before.view.seen mid.view.seen after.view.seen more.seen adds.seen;
}

pub none_later : (before mid after : FileHand) → OnlySeesMore before mid → AddsNone mid after → AddsNone before after
none_later before mid after more none = record {
  entries = none.entries ∙ more_entries before mid more;
  seen = begins_on before.view.seen mid.view.seen after.view.seen more.seen none.seen;
}

pub same_after : (before mid after : FileHand) → IsSameCore before mid → IsSameCore mid after → IsSameCore before after
same_after before mid after one two = record {
  table = two.table ∙ one.table;
  cores = two.cores ∙ one.cores;
  leads = two.leads ∙ one.leads;
  number = two.number ∙ one.number;
}

-- A core has made room for a call that is no fsync.
pub record IsReadyFor (t : FileState) (c : Call) (before mid : FileHand) : Type 0 where
  pub more : OnlySeesMore before mid
  pub between : IsBetweenCalls t mid
  pub no_fsync : asks_fsync c ≡ false

-- What such a call comes to.
pub record HasCome (t : FileState) (c : Call) (before mid after : FileHand) (result : Result Reply NoMemory) : Type 0 where
  pub made : AddsOrRefused c before after result
  pub between : IsBetweenCalls t after
  pub same : IsSameCore before after
  pub keeps : KeepsFsyncs mid after

pub has_come : (t : FileState) (c : Call) (before mid after : FileHand) (result : Result Reply NoMemory) → IsReadyFor t c before mid
    → ComesTo t c mid after result → HasCome t c before mid after result
has_come t c before mid after (Ok reply) ready made = record {
  made = adds_later c reply before mid after ready.more (adds_call t c reply mid after made);
  between = made.between;
  same = same_after before mid after (more_same before mid ready.more) made.same;
  keeps = made_keeps t c reply mid after ready.between ready.no_fsync made;
}
has_come t c before mid after (Err fault) ready refused = record {
  made = none_later before mid after ready.more (refused_none t mid after refused);
  between = refused.between;
  same = same_after before mid after (more_same before mid ready.more) refused.same;
  keeps = refused_keeps t mid after ready.between refused;
}
