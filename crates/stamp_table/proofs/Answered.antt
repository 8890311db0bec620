-- Entries that differ in their answers alone, and when a history with other answers is legal.
use Rattle.std.proofs.Common.{◌≡◌, ℕ, suc, ◌<◌, Bool, true, false, not, ◌&&◌, List, [], ◌∷◌, ◌++◌, length, map, Option, IsSome, sym, refl, ap, ◌∙◌, subst, ⊎_elim}
use Rattle.std.proofs.lemmas.Bool.{cases_Bool, both_ways, not-true}
use Rattle.std.specs.Prelude.{◌↔◌, IsTrue, if◌then◌else◌}
use Rattle.sfs_base.specs.declared.numbers.CoreId.{CoreId}
use Rattle.sfs_base.specs.declared.numbers.Stamp.{Stamp}
use Rattle.tree_laws.specs.Tree.{TreeState}
use Rattle.tree_laws.specs.History.{tree_after_entry, flushes, IsFsyncReply, is_ok_reply, IsDue, MayCome, IsLegalFrom}
use Rattle.tree_laws.specs.Verdict.{verdict, tree_after_call}
use Rattle.tree_laws.specs.declared.call.Call.{Call}
use Rattle.tree_laws.specs.declared.call.Call.TheVariants as call
use Rattle.tree_laws.specs.declared.reply.Reply.{Reply}
use Rattle.tree_laws.specs.declared.reply.Reply.TheVariants as reply
use Rattle.tree_laws.specs.declared.history.Entry.{Entry}
use Rattle.stamp_table.specs.Answered.{asks_fsync, is_refusal, is_want, is_served, without_answer, unanswered, IsWellAnswered, AreWellAnswered, waits_for_answer}
use Rattle.stamp_table.specs.Table.{with_answer}
use Rattle.sfs_base.proofs.BasicTruth.{and_second}

left_true : (a b : Bool) → (a && b) ≡ true → a ≡ true
left_true true b is = refl
left_true false b is = is

-- an entry that differs from another in its answer alone: where the other is no fsync that was served, they are equal
pub record IsSameCall (r h : Entry) : Type 0 where
  pub stamp : r.stamp ≡ h.stamp
  pub core : r.core ≡ h.core
  pub call_is : r.call ≡ h.call
  pub served : is_served r ≡ is_served h
  pub rest : is_served h ≡ false → r ≡ h

-- what has want of memory in place of its answer is served where its call is an fsync
masked_served : (e : Entry) → is_served e ≡ true → is_served (without_answer e) ≡ true
masked_served e served = rw (left_true (asks_fsync e.call) (not (is_refusal e.reply)) served) refl

same_masked : (r h : Entry) → is_served r ≡ true → is_served h ≡ true → without_answer r ≡ without_answer h → IsSameCall r h
same_masked r h mine other same = record {
  stamp = ap (λ (e : Entry). e.stamp) same;
  core = ap (λ (e : Entry). e.core) same;
  call_is = ap (λ (e : Entry). e.call) same;
  served = mine ∙ sym other;
  rest = λ not. absurd (cc (other, not));
}

same_whole : (r h : Entry) → r ≡ h → IsSameCall r h
same_whole r h same = record {
  stamp = ap (λ (e : Entry). e.stamp) same;
  core = ap (λ (e : Entry). e.core) same;
  call_is = ap (λ (e : Entry). e.call) same;
  served = ap is_served same;
  rest = λ not. same;
}

same_by : (r h : Entry) (b c : Bool) → is_served r ≡ b → is_served h ≡ c → (if b then without_answer r else r) ≡ (if c then without_answer h else h)
    → IsSameCall r h
same_by r h true true mine other same = same_masked r h mine other same
same_by r h true false mine other same = let one : is_served (without_answer r) ≡ is_served h = ap is_served same in
    absurd (cc (masked_served r mine, one, other))
same_by r h false true mine other same = let one : is_served r ≡ is_served (without_answer h) = ap is_served same in
    absurd (cc (masked_served h other, one, mine))
same_by r h false false mine other same = same_whole r h same

-- entries that are one but for their answers are of one call
pub same_call : (r h : Entry) → unanswered r ≡ unanswered h → IsSameCall r h
same_call r h same = same_by r h (is_served r) (is_served h) refl refl same

-- an fsync that flushes nothing is refused
refused_flush : (tree : TreeState) (core : ℕ) (c : Call) → asks_fsync c ≡ true → flushes tree c ≡ false → is_refusal (verdict tree core c).reply ≡ true
refused_flush tree core (call.Look directory name) is not = absurd (cc)
refused_flush tree core (call.Make directory name kind) is not = absurd (cc)
refused_flush tree core (call.Link file directory name) is not = absurd (cc)
refused_flush tree core (call.Unlink directory name) is not = absurd (cc)
refused_flush tree core (call.Rmdir directory name) is not = absurd (cc)
refused_flush tree core (call.Rename directory name to_directory to_name) is not = absurd (cc)
refused_flush tree core (call.Write file at bytes) is not = absurd (cc)
refused_flush tree core (call.Read file at count) is not = absurd (cc)
refused_flush tree core (call.Trunc file size) is not = absurd (cc)
refused_flush tree core (call.Stat node) is not = absurd (cc)
refused_flush tree core (call.List directory) is not = absurd (cc)
refused_flush tree core (call.Fsync node) is not = rw not refl

-- where its node is not alive an entry that may come was refused
refused : (tree : TreeState) (stamp : ℕ) (entry : Entry) → MayCome tree stamp entry → flushes tree entry.call ≡ false → is_served entry ≡ true → ⊥
refused tree stamp entry may is served =
    let asks : asks_fsync entry.call ≡ true = left_true (asks_fsync entry.call) (not (is_refusal entry.reply)) served in
    let kept : not (is_refusal entry.reply) ≡ true = and_second (asks_fsync entry.call) (not (is_refusal entry.reply)) served in
    let due : entry.reply ≡ (verdict tree entry.core.0 entry.call).reply =
    subst (λ b. IsDue b (verdict tree entry.core.0 entry.call).reply entry.reply) is may.due in
    both_ways (is_refusal entry.reply) (not-true (is_refusal entry.reply) kept) (ap is_refusal due ∙ refused_flush tree entry.core.0 entry.call asks is)

well_by : (tree : TreeState) (stamp : ℕ) (entry : Entry) (b : Bool) → flushes tree entry.call ≡ b → MayCome tree stamp entry → IsWellAnswered entry
well_by tree stamp entry true is may served = (
  subst (λ b. IsDue b (verdict tree entry.core.0 entry.call).reply entry.reply) is may.due,
  subst (λ b. IsSome entry.ack ↔ IsTrue (b && is_ok_reply entry.reply)) is may.acknowledged,
)
well_by tree stamp entry false is may served = absurd (refused tree stamp entry may is served)

-- an entry that may come has an answer that it may have
pub comes_well : (tree : TreeState) (stamp : ℕ) (entry : Entry) → MayCome tree stamp entry → IsWellAnswered entry
comes_well tree stamp entry may = well_by tree stamp entry (flushes tree entry.call) refl may

-- the last entry of a legal history has an answer that it may have
pub last_comes_well : (tree : TreeState) (stamp : ℕ) (history : List Entry) (entry : Entry) → IsLegalFrom tree stamp (history ++ entry ∷ [])
    → IsWellAnswered entry
last_comes_well tree stamp [] entry legal = comes_well tree stamp entry legal.0
last_comes_well tree stamp (first ∷ history) entry legal = last_comes_well (tree_after_entry tree first) (suc stamp) history entry legal.1

-- a call that flushes is an fsync
flushes_fsync : (tree : TreeState) (c : Call) → flushes tree c ≡ true → asks_fsync c ≡ true
flushes_fsync tree (call.Look directory name) is = absurd (cc)
flushes_fsync tree (call.Make directory name kind) is = absurd (cc)
flushes_fsync tree (call.Link file directory name) is = absurd (cc)
flushes_fsync tree (call.Unlink directory name) is = absurd (cc)
flushes_fsync tree (call.Rmdir directory name) is = absurd (cc)
flushes_fsync tree (call.Rename directory name to_directory to_name) is = absurd (cc)
flushes_fsync tree (call.Write file at bytes) is = absurd (cc)
flushes_fsync tree (call.Read file at count) is = absurd (cc)
flushes_fsync tree (call.Trunc file size) is = absurd (cc)
flushes_fsync tree (call.Stat node) is = absurd (cc)
flushes_fsync tree (call.List directory) is = absurd (cc)
flushes_fsync tree (call.Fsync node) is = refl

-- a reply that an fsync of a live node may have is no error
pub fsync_reply_serves : (r : Reply) → IsFsyncReply r → is_refusal r ≡ false
fsync_reply_serves reply.Ok may = refl
fsync_reply_serves (reply.Node node kind) may = absurd may
fsync_reply_serves (reply.Bytes bytes) may = absurd may
fsync_reply_serves (reply.Stat kind links size) may = absurd may
fsync_reply_serves (reply.Names rows) may = absurd may
fsync_reply_serves (reply.Error code) may = absurd may
fsync_reply_serves reply.DiskFailed may = refl
fsync_reply_serves (reply.NoSpace kind need free) may = refl
fsync_reply_serves (reply.Stopped faults) may = refl
fsync_reply_serves reply.NoMemory may = refl

-- an entry that may come where a node is alive is served
served_where_flushes : (tree : TreeState) (stamp : ℕ) (entry : Entry) → MayCome tree stamp entry → flushes tree entry.call ≡ true → is_served entry ≡ true
served_where_flushes tree stamp entry may is =
    let due : IsFsyncReply entry.reply = subst (λ b. IsDue b (verdict tree entry.core.0 entry.call).reply entry.reply) is may.due in
    rw (flushes_fsync tree entry.call is, fsync_reply_serves entry.reply due) refl

-- the entry with another answer may come, where its node is alive
flushed_comes : (tree : TreeState) (stamp : ℕ) (r h : Entry) → MayCome tree stamp h → IsSameCall r h → IsWellAnswered r → flushes tree h.call ≡ true
    → MayCome tree stamp r
flushed_comes tree stamp r h may same well is =
    let flush : flushes tree r.call ≡ true = ap (flushes tree) same.call_is ∙ is in
    let answer = well (same.served ∙ served_where_flushes tree stamp h may is) in
    record {
      stamped = ap (λ (s : Stamp). s.0) same.stamp ∙ may.stamped;
      core = subst (λ (c : CoreId). c.0 < length tree.made) (sym same.core) may.core;
      due = subst (λ b. IsDue b (verdict tree r.core.0 r.call).reply r.reply) (sym flush) answer.0;
      acknowledged = subst (λ b. IsSome r.ack ↔ IsTrue (b && is_ok_reply r.reply)) (sym flush) answer.1;
    }

-- where it is not, the entry is no fsync that was served, and there is no other answer
other_comes : (tree : TreeState) (stamp : ℕ) (r h : Entry) → MayCome tree stamp h → IsSameCall r h → flushes tree h.call ≡ false → MayCome tree stamp r
other_comes tree stamp r h may same is =
    ⊎_elim (λ served. absurd (refused tree stamp h may is served)) (λ not. subst (λ e. MayCome tree stamp e) (sym (same.rest not)) may)
    (cases_Bool (is_served h))

comes_by : (tree : TreeState) (stamp : ℕ) (r h : Entry) (b : Bool) → flushes tree h.call ≡ b → MayCome tree stamp h → IsSameCall r h → IsWellAnswered r
    → MayCome tree stamp r
comes_by tree stamp r h true is may same well = flushed_comes tree stamp r h may same well is
comes_by tree stamp r h false is may same well = other_comes tree stamp r h may same is

-- an entry that differs in its answer alone, which it may have, may come in the place of another
pub comes_answered : (tree : TreeState) (stamp : ℕ) (r h : Entry) → unanswered r ≡ unanswered h → IsWellAnswered r → MayCome tree stamp h → MayCome tree stamp r
comes_answered tree stamp r h same well may = comes_by tree stamp r h (flushes tree h.call) refl may (same_call r h same) well

-- A history that differs from a legal one in its answers alone, which its entries may have, is legal.
pub legal_answered : (tree : TreeState) (stamp : ℕ) (history filled : List Entry) → map unanswered filled ≡ map unanswered history → AreWellAnswered filled
    → IsLegalFrom tree stamp history → IsLegalFrom tree stamp filled
legal_answered tree stamp [] [] same well legal = tt
legal_answered tree stamp [] (r ∷ filled) same well legal = absurd (cc)
legal_answered tree stamp (h ∷ history) [] same well legal = absurd (cc)
legal_answered tree stamp (h ∷ history) (r ∷ filled) same well legal =
    let one : unanswered r ≡ unanswered h = cc (same) in
    let rest : map unanswered filled ≡ map unanswered history = cc (same) in
    let call = same_call r h one in
    let next : tree_after_entry tree h ≡ tree_after_entry tree r = (λ i. tree_after_call tree (sym call.core i).0 (sym call.call_is i)) in (
      comes_answered tree stamp r h one well.0 legal.0,
      subst (λ t. IsLegalFrom t (suc stamp) filled) next (legal_answered (tree_after_entry tree h) (suc stamp) history filled rest well.1 legal.1),
    )

want_serves : (r : Reply) → is_want r ≡ true → is_refusal r ≡ false
want_serves reply.Ok is = refl
want_serves (reply.Node node kind) is = refl
want_serves (reply.Bytes bytes) is = refl
want_serves (reply.Stat kind links size) is = refl
want_serves (reply.Names rows) is = refl
want_serves (reply.Error code) is = absurd (cc)
want_serves reply.DiskFailed is = refl
want_serves (reply.NoSpace kind need free) is = refl
want_serves (reply.Stopped faults) is = refl
want_serves reply.NoMemory is = refl

-- an answer to an fsync that waits is one that it may have, and leaves the rest as it was
pub record IsAnsweredAs (last : Entry) (answer : Entry) : Type 0 where
  pub same : unanswered answer ≡ unanswered last
  pub well : IsWellAnswered answer

pub answered_well : (last : Entry) (reply : Reply) (ack : Option ℕ) → waits_for_answer last.call last.reply ≡ true → IsFsyncReply reply
    → (IsSome ack ↔ IsTrue (is_ok_reply reply)) → IsAnsweredAs last (with_answer last reply ack)
answered_well last reply ack waits may acknowledged =
    let asks : asks_fsync last.call ≡ true = left_true (asks_fsync last.call) (is_want last.reply) waits in
    let want : is_want last.reply ≡ true = and_second (asks_fsync last.call) (is_want last.reply) waits in
    let served : is_served last ≡ true = rw (asks, want_serves last.reply want) refl in
    let serves : is_served (with_answer last reply ack) ≡ true = rw (asks, fsync_reply_serves reply may) refl in
    record { same = rw (served, serves) refl; well = λ _. (may, acknowledged) }
