-- One line tells of one entry.
use Rattle.std.proofs.Common.{◌≡◌, ℕ, true, false, List, [], ◌∷◌, ◌++◌, refl, sym, ap, ◌∙◌, subst, arith, append_assoc}
use Rattle.std.specs.List.{before_first}
use Rattle.sfs_base.specs.declared.numbers.NodeId.{NodeId}
use Rattle.sfs_base.specs.declared.numbers.CoreId.{CoreId}
use Rattle.tree_laws.specs.declared.call.Call.{Call}
use Rattle.tree_laws.specs.declared.call.Call.TheVariants as call
use Rattle.tree_laws.specs.declared.reply.Reply.{Reply}
use Rattle.tree_laws.specs.declared.history.Entry.{Entry}
use Rattle.tree_laws.specs.Tree.{TreeState}
use Rattle.tree_laws.specs.Verdict.{verdict}
use Rattle.tree_laws.specs.History.{flushes, IsDue}
use Rattle.sfs_base.proofs.BasicOptions.{some_same}
use Rattle.script.specs.Texts.{entry_text}
use Rattle.history_check.specs.Reading.{is_line_end, line_core, line_call, line_flush_reply}
use Rattle.history_check.specs.Values.{HasNumbers}
use Rattle.history_check.specs.Laws.{LinesTellOneEntry}
use Rattle.history_check.proofs.FirstWords.{line_first}
use Rattle.history_check.proofs.LineTexts.{line_text, line_plain, line_core_again, line_call_again, line_flush_reply_again}

-- the first line of a text that begins with an entry's, without its end
pub first_told : (entry : Entry) (rest : List ℕ) → before_first is_line_end (entry_text entry ++ rest) ≡ line_text entry
first_told entry rest = ap (before_first is_line_end) (append_assoc (line_text entry) (10 ∷ []) rest) ∙ line_first (line_text entry) rest (line_plain entry)

-- what flushes is an fsync
pub is_fsync : (tree : TreeState) (c : Call) → flushes tree c ≡ true → (node : NodeId) × (c ≡ call.Fsync node)
is_fsync tree (call.Fsync node) e = (node, refl)
is_fsync tree (call.Look d name) e = cc
is_fsync tree (call.Make d name kind) e = cc
is_fsync tree (call.Link file d name) e = cc
is_fsync tree (call.Unlink d name) e = cc
is_fsync tree (call.Rmdir d name) e = cc
is_fsync tree (call.Rename d name to to_name) e = cc
is_fsync tree (call.Write file at bytes) e = cc
is_fsync tree (call.Read file at count) e = cc
is_fsync tree (call.Trunc file size) e = cc
is_fsync tree (call.Stat node) e = cc
is_fsync tree (call.List d) e = cc

-- two entries of one call that are told in one line, and the reply that the table gives to the call
record OneCall (tree : TreeState) (due : Reply) (entry other : Entry) : Type 0 where
  same : entry.call ≡ other.call
  lines : line_text entry ≡ line_text other
  first : IsDue (flushes tree entry.call) due entry.reply
  second : IsDue (flushes tree entry.call) due other.reply
  first_numbers : flushes tree entry.call ≡ true → HasNumbers entry.reply
  second_numbers : flushes tree entry.call ≡ true → HasNumbers other.reply

-- they have one reply
one_reply : (tree : TreeState) (due : Reply) (entry other : Entry) → OneCall tree due entry other → entry.reply ≡ other.reply
one_reply tree due entry other both =
    elim (flushes tree entry.call) as (λ t. flushes tree entry.call ≡ t → IsDue t due entry.reply → IsDue t due other.reply → entry.reply ≡ other.reply) [
      | true ↦ λ t given told.
          let fsync = is_fsync tree entry.call t in
          some_same
          (sym (line_flush_reply_again entry fsync.0 fsync.1 given (both.first_numbers t)) ∙ ap line_flush_reply both.lines
          ∙ line_flush_reply_again other fsync.0 (sym both.same ∙ fsync.1) told (both.second_numbers t))
      | false ↦ λ _ given told. given ∙ sym told
    ] refl both.first both.second

-- Entries that begin one text and may stand at one place have one core, one call and one reply.
pub lines_tell_one_entry : LinesTellOneEntry
lines_tell_one_entry tree stamp entry other behind rest few may other_may texts =
    let lines : line_text entry ≡ line_text other = sym (first_told entry behind) ∙ ap (before_first is_line_end) texts ∙ first_told other rest in
    let lt = may.core in
    let other_lt = other_may.core in
    let number : entry.core.0 ≡ other.core.0 =
    some_same (sym (line_core_again entry (omega arith)) ∙ ap line_core lines ∙ line_core_again other (omega arith)) in
    let core : entry.core ≡ other.core = ap core_number number in
    let c : entry.call ≡ other.call = some_same (sym (line_call_again entry may.call) ∙ ap line_call lines ∙ line_call_again other other_may.call) in
    let due = subst (λ (k : Call). IsDue (flushes tree k) (verdict tree entry.core.0 k).reply other.reply) (sym c)
    (subst (λ (n : ℕ). IsDue (flushes tree other.call) (verdict tree n other.call).reply other.reply) (sym number) other_may.due) in
    record {
      core = core;
      call = c;
      reply = one_reply tree (verdict tree entry.core.0 entry.call).reply entry other (record {
        same = c;
        lines = lines;
        first = may.due;
        second = due;
        first_numbers = may.numbers;
        second_numbers = λ t. other_may.numbers (ap (flushes tree) (sym c) ∙ t);
      });
    }
  where
    core_number : ℕ → CoreId
    core_number number = record { 0 = number }
