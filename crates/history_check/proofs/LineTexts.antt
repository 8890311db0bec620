-- The line of an entry: where it ends, and that it is read as the entry.
use Rattle.std.proofs.Common.{◌≡◌, ℕ, ◌<◌, List, [], ◌∷◌, ◌++◌, codes, Some, refl, ap, ◌∙◌, arith, append_assoc}
use Rattle.std.specs.Fmt.{decimal}
use Rattle.sfs_base.specs.declared.numbers.NodeId.{NodeId}
use Rattle.sfs_base.specs.declared.numbers.Kind.{Kind}
use Rattle.sfs_base.specs.declared.numbers.Kind.TheVariants.{File, Directory}
use Rattle.tree_laws.specs.declared.call.Call.{Call}
use Rattle.tree_laws.specs.declared.call.Call.TheVariants as call
use Rattle.tree_laws.specs.declared.history.Entry.{Entry}
use Rattle.tree_laws.specs.History.{IsFsyncReply}
use Rattle.script.specs.Texts.{name_text, number_text, row_text, bytes_text, make_text, call_text, reply_text, entry_text}
use Rattle.script.specs.Words.{number_up_to}
use Rattle.history_check.specs.Lines.{whole_lines}
use Rattle.history_check.specs.Reading.{word, behind, spelled_call_in, flush_reply_in, line_core, line_call, line_flush_reply}
use Rattle.history_check.specs.Values.{IsCall, HasNumbers}
use Rattle.history_check.proofs.FirstWords.{IsPlain, plain_of_solid, word_first, behind_first, lines_first}
use Rattle.history_check.proofs.Solid.{plain_both, decimal_solid, name_solid, bytes_solid}
use Rattle.history_check.proofs.Spelled.{number_again}
use Rattle.history_check.proofs.CallTexts.{call_again, three_more, four_more}
use Rattle.history_check.proofs.ReplyTexts.{flush_reply_again, reply_plain, number_plain}

-- a line without its end
abbrev pub line_text : Entry → List ℕ
line_text entry = decimal entry.stamp.0 ++ codes " " ++ decimal entry.core.0 ++ codes " " ++ call_text entry.call ++ codes " = " ++ reply_text entry.reply

pub line_ends : (entry : Entry) → entry_text entry ≡ line_text entry ++ 10 ∷ []
line_ends entry = refl

-- a line, word by word
spread : (entry : Entry)
    → line_text entry ≡ decimal entry.stamp.0 ++ 32 ∷ (decimal entry.core.0 ++ 32 ∷ (call_text entry.call ++ 32 ∷ (61 ∷ 32 ∷ reply_text entry.reply)))
spread entry =
    four_more (decimal entry.stamp.0 ++ codes " " ++ decimal entry.core.0) (codes " ") (call_text entry.call) (codes " = ") (reply_text entry.reply)
    ∙ three_more (decimal entry.stamp.0) (codes " ") (decimal entry.core.0) (32 ∷ (call_text entry.call ++ 32 ∷ (61 ∷ 32 ∷ reply_text entry.reply)))

-- the words of a line behind its stamp, and behind its core
behind_stamp : (entry : Entry) → behind (line_text entry) ≡ decimal entry.core.0 ++ 32 ∷ (call_text entry.call ++ 32 ∷ (61 ∷ 32 ∷ reply_text entry.reply))
behind_stamp entry = ap behind (spread entry) ∙ behind_first (decimal entry.stamp.0) _ (decimal_solid entry.stamp.0)

behind_core : (entry : Entry) → behind (behind (line_text entry)) ≡ call_text entry.call ++ 32 ∷ (61 ∷ 32 ∷ reply_text entry.reply)
behind_core entry = ap behind (behind_stamp entry) ∙ behind_first (decimal entry.core.0) _ (decimal_solid entry.core.0)

-- A line is read as its entry: the core,
pub line_core_again : (entry : Entry) → entry.core.0 < 256 → line_core (line_text entry) ≡ Some entry.core.0
line_core_again entry small =
    ap (λ left. number_up_to 255 (word left)) (behind_stamp entry)
    ∙ ap (number_up_to 255) (word_first (decimal entry.core.0) (call_text entry.call ++ 32 ∷ (61 ∷ 32 ∷ reply_text entry.reply)) (decimal_solid entry.core.0))
    ∙ number_again 255 entry.core.0 (omega arith) (omega arith)

-- the call,
pub line_call_again : (entry : Entry) → IsCall entry.call → line_call (line_text entry) ≡ Some entry.call
line_call_again entry is = ap spelled_call_in (behind_core entry) ∙ call_again entry.call (61 ∷ 32 ∷ reply_text entry.reply) is

-- and of an fsync the reply.
behind_fsync : (node : ℕ) (text : List ℕ) → behind (behind (behind (codes "fsync" ++ number_text node ++ 32 ∷ (61 ∷ 32 ∷ text)))) ≡ text
behind_fsync node text =
    ap (λ left. behind (behind (behind left))) (append_assoc (codes "fsync") (number_text node) (32 ∷ (61 ∷ 32 ∷ text)))
    ∙ ap (λ left. behind (behind left)) (behind_first (codes "fsync") (decimal node ++ 32 ∷ (61 ∷ 32 ∷ text)) refl)
    ∙ ap behind (behind_first (decimal node) (61 ∷ 32 ∷ text) (decimal_solid node))
    ∙ behind_first (61 ∷ []) text refl

pub line_flush_reply_again : (entry : Entry) (node : NodeId) → entry.call ≡ call.Fsync node → IsFsyncReply entry.reply → HasNumbers entry.reply
    → line_flush_reply (line_text entry) ≡ Some entry.reply
line_flush_reply_again entry node e is has =
    ap (λ left. flush_reply_in (behind (behind (behind left)))) (behind_core entry)
    ∙ ap (λ c. flush_reply_in (behind (behind (behind (call_text c ++ 32 ∷ (61 ∷ 32 ∷ reply_text entry.reply)))))) e
    ∙ ap flush_reply_in (behind_fsync node.0 (reply_text entry.reply))
    ∙ flush_reply_again entry.reply is has

-- no call's text has an end of a line
row_plain : (d : ℕ) (name : List ℕ) → IsPlain (row_text d name)
row_plain d name =
    plain_both (number_text d ++ codes " ") (name_text name) (plain_both (number_text d) (codes " ") (number_plain d) refl)
    (plain_of_solid (name_text name) (name_solid name))

make_plain : (kind : Kind) → IsPlain (make_text kind)
make_plain File = refl
make_plain Directory = refl

call_plain : (c : Call) → IsPlain (call_text c)
call_plain (call.Look d name) = plain_both (codes "look") (row_text d.0 name) refl (row_plain d.0 name)
call_plain (call.Make d name kind) = plain_both (make_text kind) (row_text d.0 name) (make_plain kind) (row_plain d.0 name)
call_plain (call.Link file d name) =
    plain_both (codes "link" ++ number_text file.0) (row_text d.0 name) (plain_both (codes "link") (number_text file.0) refl (number_plain file.0))
    (row_plain d.0 name)
call_plain (call.Unlink d name) = plain_both (codes "unlink") (row_text d.0 name) refl (row_plain d.0 name)
call_plain (call.Rmdir d name) = plain_both (codes "rmdir") (row_text d.0 name) refl (row_plain d.0 name)
call_plain (call.Rename d name to to_name) =
    plain_both (codes "rename" ++ row_text d.0 name) (row_text to.0 to_name) (plain_both (codes "rename") (row_text d.0 name) refl (row_plain d.0 name))
    (row_plain to.0 to_name)
call_plain (call.Write file at bytes) =
    let first = plain_both (codes "write") (number_text file.0) refl (number_plain file.0) in
    let second = plain_both (codes "write" ++ number_text file.0) (number_text at) first (number_plain at) in
    plain_both (codes "write" ++ number_text file.0 ++ number_text at ++ codes " ") (bytes_text bytes)
    (plain_both (codes "write" ++ number_text file.0 ++ number_text at) (codes " ") second refl) (plain_of_solid (bytes_text bytes) (bytes_solid bytes))
call_plain (call.Read file at count) =
    let first = plain_both (codes "read") (number_text file.0) refl (number_plain file.0) in
    plain_both (codes "read" ++ number_text file.0 ++ number_text at) (number_text count)
    (plain_both (codes "read" ++ number_text file.0) (number_text at) first (number_plain at)) (number_plain count)
call_plain (call.Trunc file size) =
    plain_both (codes "trunc" ++ number_text file.0) (number_text size) (plain_both (codes "trunc") (number_text file.0) refl (number_plain file.0))
    (number_plain size)
call_plain (call.Stat node) = plain_both (codes "stat") (number_text node.0) refl (number_plain node.0)
call_plain (call.List d) = plain_both (codes "list") (number_text d.0) refl (number_plain d.0)
call_plain (call.Fsync node) = plain_both (codes "fsync") (number_text node.0) refl (number_plain node.0)

-- No line ends before its end.
pub line_plain : (entry : Entry) → IsPlain (line_text entry)
line_plain entry =
    let stamp = number_plain entry.stamp.0 in
    let spaced = plain_both (decimal entry.stamp.0) (codes " ") stamp refl in
    let first = plain_both (decimal entry.stamp.0 ++ codes " ") (decimal entry.core.0) spaced (number_plain entry.core.0) in
    let head = decimal entry.stamp.0 ++ codes " " ++ decimal entry.core.0 in
    let second = plain_both (head ++ codes " ") (call_text entry.call) (plain_both head (codes " ") first refl) (call_plain entry.call) in
    plain_both (head ++ codes " " ++ call_text entry.call ++ codes " = ") (reply_text entry.reply)
    (plain_both (head ++ codes " " ++ call_text entry.call) (codes " = ") second refl) (reply_plain entry.reply)

-- The first line of a text that begins with an entry's is that one.
pub entry_first : (entry : Entry) (rest : List ℕ) → whole_lines (entry_text entry ++ rest) ≡ entry_text entry ∷ whole_lines rest
entry_first entry rest = ap whole_lines (append_assoc (line_text entry) (10 ∷ []) rest) ∙ lines_first (line_text entry) rest (line_plain entry)
