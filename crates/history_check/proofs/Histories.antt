-- A legal text is that of a legal history.
use Rattle.std.proofs.Common.{◌≡◌, ℕ, suc, Bool, true, false, ◌&&◌, List, [], ◌∷◌, ◌++◌, length, Option, Some, None, IsSome, IsTrue, ◌↔◌, refl, sym, ap, ◌∙◌}
use Rattle.std.specs.List.{concat}
use Rattle.tree_laws.specs.declared.history.Entry.{Entry}
use Rattle.tree_laws.specs.Tree.{TreeState}
use Rattle.tree_laws.specs.History.{MayCome, IsLegalFrom, flushes, is_ok_reply, tree_after_entry}
use Rattle.script.specs.Texts.{entry_text, history_text}
use Rattle.history_check.specs.Lines.{whole_lines}
use Rattle.history_check.specs.Told.{MayBePrinted, AreLegalLines}
use Rattle.history_check.specs.Laws.{LegalTextsHaveLegalHistories}
use Rattle.history_check.proofs.FirstWords.{lines_all}

-- a moment of acknowledgement, where there has to be one
abbrev moment : Bool → Option ℕ
moment true = Some 0
moment false = None

moment_is : (acknowledged : Bool) → IsSome (moment acknowledged) ↔ IsTrue acknowledged
moment_is true = (λ _. refl, λ _. refl)
moment_is false = (λ some. some, λ is. is)

-- an entry with such a moment
abbrev with_moment : TreeState → Entry → Entry
with_moment tree entry = record {
  stamp = entry.stamp;
  core = entry.core;
  call = entry.call;
  reply = entry.reply;
  ack = moment (flushes tree entry.call && is_ok_reply entry.reply);
}

may_come : (tree : TreeState) (stamp : ℕ) (entry : Entry) → MayBePrinted tree stamp entry → MayCome tree stamp (with_moment tree entry)
may_come tree stamp entry may =
    record { stamped = may.stamped; core = may.core; due = may.due; acknowledged = moment_is (flushes tree entry.call && is_ok_reply entry.reply) }

-- a legal history from a tree and a stamp on, of these lines
record HistoryOf (tree : TreeState) (stamp : ℕ) (lines : List (List ℕ)) : Type 0 where
  history : List Entry
  legal : IsLegalFrom tree stamp history
  text : history_text history ≡ concat lines
  count : length history ≡ length lines

history_of : (tree : TreeState) (stamp : ℕ) (lines : List (List ℕ)) → AreLegalLines tree stamp lines → HistoryOf tree stamp lines
history_of tree stamp [] told = record { history = []; legal = tt; text = refl; count = refl }
history_of tree stamp (line ∷ lines) told =
    let entry = told.0 in
    let later = history_of (tree_after_entry tree entry) (suc stamp) lines told.2 in
    record {
      history = with_moment tree entry ∷ later.history;
      legal = (may_come tree stamp entry told.1.may, later.legal);
      text = ap (λ t. entry_text entry ++ t) later.text ∙ ap (λ l. l ++ concat lines) (sym told.1.text);
      count = ap suc later.count;
    }

-- A legal text is that of a legal history of so many entries.
pub legal_texts_have_legal_histories : LegalTextsHaveLegalHistories
legal_texts_have_legal_histories first bytes count legal =
    let of = history_of first 0 (whole_lines bytes) legal.told in
    (of.history, of.legal, of.text ∙ lines_all bytes, of.count ∙ sym legal.counted)
