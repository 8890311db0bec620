-- A line that is followed, or not, by the entry that it is read as.
use Rattle.std.proofs.Common.{◌≡◌, ℕ, ◌+◌, ◌<◌, Bool, true, false, cond, List, [], ◌∷◌, ◌++◌, length, take, drop, get_or, Option, Some, None, option_map, refl, sym, ap, ◌∙◌, subst, arith, nat_lt, MatchOption, take-append-drop, Fits, w8}
use borrow.Author.Tests.{lt-ltb, ltb-true}
use Rattle.std.specs.List.{before_first, position_or_len}
use Rattle.std.specs.Str.{bytes_eq}
use Rattle.std.specs.Borrow.{Bor}
use Rattle.std.proofs.Math.Facts.{Fits-lt-pow}
use Rattle.std.proofs.lemmas.List.Elements.{All-take}
use Rattle.std.proofs.lemmas.Slice.Eq.{bytes_eq-Decides}
use Rattle.std.proofs.Math.Seq.{take-append_seam}
use Rattle.sfs_base.proofs.BasicTruth.{not_both}
use Rattle.tree_laws.specs.declared.call.Call.TheVariants as call
use Rattle.tree_laws.specs.Step.{IsReadable}
use Rattle.sfs_base.specs.declared.numbers.CoreId.{CoreId}
use Rattle.sfs_base.proofs.BasicOptions.{none_some, some_same}
use Rattle.tree_laws.specs.declared.call.Call.{Call}
use Rattle.tree_laws.specs.declared.reply.Reply.{Reply}
use Rattle.tree_laws.specs.declared.history.Entry.{Entry}
use Rattle.tree_laws.specs.Tree.{TreeState}
use Rattle.tree_laws.specs.Verdict.{verdict}
use Rattle.tree_laws.specs.History.{flushes, IsDue, tree_after_entry}
use Rattle.script.specs.Texts.{entry_text}
use Rattle.history_check.specs.Reading.{behind, is_line_end, line_core, line_call, line_flush_reply}
use Rattle.hex.specs.Hex.{IsBytes}
use Rattle.history_check.proofs.Spelled.{each_byte, are_bytes}
use Rattle.history_check.specs.Values.{IsCall, HasNumbers}
use Rattle.history_check.specs.Told.{MayBePrinted}
use Rattle.history_check.specs.Steps.{core_below, either_reply, line_reply, IsFollowed}
use Rattle.history_check.proofs.LineTexts.{line_text, line_core_again, line_call_again, line_flush_reply_again}
use Rattle.history_check.proofs.Deeds.{first_told, is_fsync}
use Rattle.history_check.proofs.ReadValues.{line_call_is, flush_reply_is}

-- the first line of a text, without its end
abbrev first_line : List ℕ → List ℕ
first_line text = before_first is_line_end text

-- the words of a line's reply
abbrev reply_words : List ℕ → List ℕ
reply_words line = behind (behind (behind (behind (behind line))))

-- The first line of a text, and the tree of so many cores in which its entry is to stand.
pub record LineAt : Type 0 where
  pub tree : TreeState
  pub stamp : ℕ
  pub cores : ℕ
  pub text : List ℕ
  pub line : List ℕ
  pub all : cores ≡ length tree.made
  pub few : cores < 256
  pub first : line ≡ first_line text
  pub bytes : IsBytes line

-- what an entry's line begins a text with
record Stands (l : LineAt) (entry : Entry) : Type 0 where
  left : List ℕ
  may : MayBePrinted l.tree l.stamp entry
  begins : l.text ≡ entry_text entry ++ left

-- the line is the entry's
line_stands : (l : LineAt) (entry : Entry) → Stands l entry → l.line ≡ line_text entry
line_stands l entry stands = l.first ∙ ap first_line stands.begins ∙ first_told entry stands.left

-- Where the text begins with the line of an entry that may stand there, its core is read,
core_found : (l : LineAt) (entry : Entry) → Stands l entry → core_below l.cores (line_core l.line) ≡ Some entry.core
core_found l entry stands =
    let lt = stands.may.core in
    let all = l.all in
    let few = l.few in
    ap (λ line. core_below l.cores (line_core line)) (line_stands l entry stands)
    ∙ ap (core_below l.cores) (line_core_again entry (omega (arith, lt, all, few)))
    ∙ ap (λ t. cond t (Some (record { 0 = entry.core.0 })) None) (lt-ltb entry.core.0 l.cores (omega (arith, lt, all)))

-- its call,
call_found : (l : LineAt) (entry : Entry) → Stands l entry → line_call l.line ≡ Some entry.call
call_found l entry stands = ap line_call (line_stands l entry stands) ∙ line_call_again entry stands.may.call

-- and its reply.
reply_found : (l : LineAt) (entry : Entry) → Stands l entry → line_reply l.tree entry.core.0 entry.call l.line ≡ Some entry.reply
reply_found l entry stands =
    elim (flushes l.tree entry.call) as (λ t. flushes l.tree entry.call ≡ t → IsDue t due entry.reply → either_reply t due l.line ≡ Some entry.reply) [
      | true ↦ λ t given.
          let fsync = is_fsync l.tree entry.call t in
          ap line_flush_reply (line_stands l entry stands) ∙ line_flush_reply_again entry fsync.0 fsync.1 given (stands.may.numbers t)
      | false ↦ λ _ given. ap Some (sym given)
    ] refl stands.may.due
  where
    due : Reply
    due = (verdict l.tree entry.core.0 entry.call).reply

-- The text begins with the line of no entry that may stand there.
abbrev pub NoneStands : LineAt → Type 0
NoneStands l = (entry : Entry) (left : List ℕ) → MayBePrinted l.tree l.stamp entry → l.text ≡ entry_text entry ++ left → ⊥

-- A line has no core of the tree,
pub core_missing : (l : LineAt) → core_below l.cores (line_core l.line) ≡ None → NoneStands l
core_missing l none entry left may begins = none_some (sym none ∙ core_found l entry (record { left = left; may = may; begins = begins }))

-- or no call.
pub call_missing : (l : LineAt) → line_call l.line ≡ None → NoneStands l
call_missing l none entry left may begins = none_some (sym none ∙ call_found l entry (record { left = left; may = may; begins = begins }))

-- What is read of a line is the entry's.
core_one : (l : LineAt) (core : CoreId) (entry : Entry) → core_below l.cores (line_core l.line) ≡ Some core → Stands l entry → entry.core ≡ core
core_one l core entry read stands = some_same (sym (core_found l entry stands) ∙ read)

call_one : (l : LineAt) (c : Call) (entry : Entry) → line_call l.line ≡ Some c → Stands l entry → entry.call ≡ c
call_one l c entry read stands = some_same (sym (call_found l entry stands) ∙ read)

reply_one : (l : LineAt) (core : CoreId) (c : Call) (entry : Entry) → entry.core ≡ core → entry.call ≡ c → Stands l entry
    → line_reply l.tree core.0 c l.line ≡ Some entry.reply
reply_one l core c entry same_core same stands =
    ap (λ (k : CoreId). line_reply l.tree k.0 c l.line) (sym same_core)
    ∙ ap (λ (d : Call). line_reply l.tree entry.core.0 d l.line) (sym same)
    ∙ reply_found l entry stands

-- A line has no reply that is due to its call.
pub reply_missing : (l : LineAt) (core : CoreId) (c : Call) → core_below l.cores (line_core l.line) ≡ Some core → line_call l.line ≡ Some c
    → line_reply l.tree core.0 c l.line ≡ None → NoneStands l
reply_missing l core c read_core read_call none entry left may begins =
    let stands : Stands l entry = record { left = left; may = may; begins = begins } in
    none_some (sym none ∙ reply_one l core c entry (core_one l core entry read_core stands) (call_one l c entry read_call stands) stands)

-- what is read of a line is due
reply_due : (t : Bool) (due : Reply) (line : List ℕ) (r : Reply) → either_reply t due line ≡ Some r → IsDue t due r
reply_due true due line r e = (flush_reply_is (reply_words line) r e).0
reply_due false due line r e = sym (some_same e)

reply_numbers : (t : Bool) (due : Reply) (line : List ℕ) (r : Reply) → either_reply t due line ≡ Some r → t ≡ true → HasNumbers r
reply_numbers true due line r e is = (flush_reply_is (reply_words line) r e).1
reply_numbers false due line r e is = cc

core_in : (cores : ℕ) (found : Option ℕ) (core : CoreId) → core_below cores found ≡ Some core → core.0 < cores
core_in cores None core e = cc
core_in cores (Some number) core e =
    elim (nat_lt number cores) as (λ t. nat_lt number cores ≡ t → cond t (Some (record { 0 = number })) None ≡ Some core → core.0 < cores) [
      | true ↦ λ t e. subst (λ (c : CoreId). c.0 < cores) (some_same e) (ltb-true number cores t)
      | false ↦ λ _ e. cc
    ] refl e

-- The entry that a line is read as, with the stamp that is due.
pub record IsRead (l : LineAt) (own : Entry) : Type 0 where
  pub stamp_is : own.stamp.0 ≡ l.stamp
  pub core_is : core_below l.cores (line_core l.line) ≡ Some own.core
  pub call_is : line_call l.line ≡ Some own.call
  pub reply_is : line_reply l.tree own.core.0 own.call l.line ≡ Some own.reply

-- it may be told
entry_read : (l : LineAt) (own : Entry) → IsRead l own → MayBePrinted l.tree l.stamp own
entry_read l own read =
    let lt = core_in l.cores (line_core l.line) own.core read.core_is in
    let all = l.all in
    record {
      stamped = read.stamp_is;
      core = omega (arith, lt, all);
      call = line_call_is l.line own.call l.bytes read.call_is;
      due = reply_due (flushes l.tree own.call) (verdict l.tree own.core.0 own.call).reply l.line own.reply read.reply_is;
      numbers = reply_numbers (flushes l.tree own.call) (verdict l.tree own.core.0 own.call).reply l.line own.reply read.reply_is;
    }

-- two entries of one stamp, core, call and reply have one text
same_text : (entry own : Entry) → entry.stamp.0 ≡ own.stamp.0 → entry.core ≡ own.core → entry.call ≡ own.call → entry.reply ≡ own.reply
    → entry_text entry ≡ entry_text own
same_text entry own stamp core c reply =
    ap (λ l. l ++ 10 ∷ [])
    (ap (λ (n : ℕ). parts n entry.core entry.call entry.reply) stamp
    ∙ ap (λ (k : CoreId). parts own.stamp.0 k entry.call entry.reply) core
    ∙ ap (λ (d : Call). parts own.stamp.0 own.core d entry.reply) c
    ∙ ap (λ (r : Reply). parts own.stamp.0 own.core own.call r) reply)
  where
    parts : ℕ → CoreId → Call → Reply → List ℕ
    parts n k d r = line_text (record { stamp = record { 0 = n }; core = k; call = d; reply = r; ack = None })

-- another entry whose line begins the text has the text of the one that is read
one_text : (l : LineAt) (own entry : Entry) → IsRead l own → Stands l entry → entry_text entry ≡ entry_text own
one_text l own entry read stands =
    let core = core_one l own.core entry read.core_is stands in
    let c = call_one l own.call entry read.call_is stands in
    let reply = some_same (sym (reply_one l own.core own.call entry core c stands) ∙ read.reply_is) in
    same_text entry own (stands.may.stamped ∙ sym read.stamp_is) core c reply

-- what is known where the front of a text is taken off it, or is not there
abbrev pub TakesFront : List ℕ → List ℕ → Option (Bor (List ℕ)) → Type 0
TakesFront text due found =
    MatchOption found (bytes_eq (take (length due) text) due ≡ false)
    (λ left. (bytes_eq (take (length due) text) due ≡ true) × (left.now ≡ drop (length due) text) × (length left.now + length due ≡ length text))

-- The text begins with the line that is due, or with that of no entry that may stand there.
pub followed : (l : LineAt) (own : Entry) (due : List ℕ) (found : Option (Bor (List ℕ))) → IsRead l own → due ≡ entry_text own → TakesFront l.text due found
    → IsFollowed l.tree l.stamp l.text (tree_after_entry l.tree own) (option_map (λ left. left.now) found)
followed l own due (Some left) read is cases =
    let front = (bytes_eq-Decides (take (length due) l.text) due).0 cases.0 in
    let begins : l.text ≡ entry_text own ++ left.now =
    sym (take-append-drop (length due) l.text) ∙ ap (λ t. t ++ drop (length due) l.text) (front ∙ is) ∙ ap (λ t. entry_text own ++ t) (sym cases.1) in
    (own, record { may = entry_read l own read; begins = begins; goes = refl })
followed l own due None read is cases = λ entry left may begins.
    let same : entry_text entry ≡ due = one_text l own entry read (record { left = left; may = may; begins = begins }) ∙ sym is in
    let front : take (length due) l.text ≡ due = ap (take (length due)) (begins ∙ ap (λ t. t ++ left) same) ∙ take-append_seam due left in
    not_both ((bytes_eq-Decides (take (length due) l.text) due).1 front) cases

-- a call that can be made is one that a tree can do
pub readable : (c : Call) → IsCall c → IsReadable c
readable (call.Look d name) is = tt
readable (call.Make d name kind) is = tt
readable (call.Link file d name) is = tt
readable (call.Unlink d name) is = tt
readable (call.Rmdir d name) is = tt
readable (call.Rename d name to to_name) is = tt
readable (call.Write file at bytes) is = tt
readable (call.Read file at count) is = is.1
readable (call.Trunc file size) is = tt
readable (call.Stat node) is = tt
readable (call.List d) is = tt
readable (call.Fsync node) is = tt

-- the first line of bytes is bytes
pub line_bytes : (text line : List ℕ) → ((i : ℕ) → Fits w8 (get_or text i 0)) → line ≡ first_line text → IsBytes line
line_bytes text line fits is =
    subst IsBytes (sym is)
    (are_bytes (first_line text) (All-take (λ byte. byte < 256) (position_or_len is_line_end text) text (each_byte text are)))
  where
    are : IsBytes text
    are i = Fits-lt-pow (fits i)
