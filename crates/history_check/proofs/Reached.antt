-- How far a text was followed.
use Rattle.std.proofs.Common.{◌≡◌, ℕ, zero, suc, ◌+◌, ◌-◌, ◌<◌, ◌≤◌, Some, Bool, true, false, cond, nat_lt, nat_eq, List, [], ◌∷◌, ◌++◌, length, take, refl, sym, ap, ◌∙◌, subst, arith, append_assoc, append-nil}
use borrow.Author.Tests.{ltb-true, ltb-false}
use Rattle.std.specs.List.{concat, AllByRecursion}
use Rattle.std.proofs.lemmas.List.{length-append}
use Rattle.std.proofs.Math.Seq.{take-append_seam}
use Rattle.script.specs.Lines.{first_longer}
use Rattle.sfs_base.specs.declared.numbers.CoreId.{CoreId}
use Rattle.tree_laws.specs.declared.history.Entry.{Entry}
use Rattle.tree_laws.specs.Tree.{TreeState}
use Rattle.tree_laws.specs.Sound.{IsSound}
use Rattle.tree_laws.specs.History.{IsLegalFrom, tree_after_entry}
use Rattle.tree_laws.specs.Verdict.{tree_after_call}
use Rattle.tree_laws.proofs.Cores.{cores_after}
use Rattle.script.specs.Texts.{entry_text, history_text}
use Rattle.history_check.specs.Lines.{whole_lines}
use Rattle.history_check.specs.Told.{MayBePrinted, IsLineOf, AreLegalLines}
use Rattle.history_check.specs.Legal.{IsLegalText, IsFirstWrong}
use Rattle.history_check.specs.Steps.{BeginsWithLine, IsFollowed}
use Rattle.history_check.specs.Laws.{IsEntry, LegalHistoriesHaveLegalTexts, CountsAreOne, AnswersAreOne}
use Rattle.history_check.proofs.FirstWords.{lines_all}
use Rattle.history_check.proofs.LineTexts.{entry_first}
use Rattle.history_check.proofs.Deeds.{lines_tell_one_entry}

-- fewer lines are told too
told_less : (tree : TreeState) (stamp n m : ℕ) (lines : List (List ℕ)) → n ≤ m → AreLegalLines tree stamp (take m lines)
    → AreLegalLines tree stamp (take n lines)
told_less tree stamp zero m lines le told = tt
told_less tree stamp (suc n) zero lines le told = absurd (omega arith)
told_less tree stamp (suc n) (suc m) [] le told = tt
told_less tree stamp (suc n) (suc m) (line ∷ lines) le told =
    (told.0, told.1, told_less (tree_after_entry tree told.0) (suc stamp) n m lines (omega arith) told.2)

told_front : (tree : TreeState) (stamp n : ℕ) (lines : List (List ℕ)) → AreLegalLines tree stamp lines → AreLegalLines tree stamp (take n lines)
told_front tree stamp zero lines told = tt
told_front tree stamp (suc n) [] told = tt
told_front tree stamp (suc n) (line ∷ lines) told = (told.0, told.1, told_front (tree_after_entry tree told.0) (suc stamp) n lines told.2)

-- the lines of a legal history
legal_lines : (tree : TreeState) (stamp : ℕ) (history : List Entry) → IsLegalFrom tree stamp history → AllByRecursion IsEntry history
    → AreLegalLines tree stamp (whole_lines (history_text history)) × (length history ≡ length (whole_lines (history_text history)))
legal_lines tree stamp [] legal entries = (tt, refl)
legal_lines tree stamp (entry ∷ history) legal entries =
    let later = legal_lines (tree_after_entry tree entry) (suc stamp) history legal.1 entries.1 in
    let lines = entry_first entry (history_text history) in
    let may : MayBePrinted tree stamp entry = record {
      stamped = legal.0.stamped;
      core = legal.0.core;
      call = entries.0.call;
      due = legal.0.due;
      numbers = λ _. entries.0.numbers;
    } in
    (subst (AreLegalLines tree stamp) (sym lines) (entry, record { may = may; text = refl }, later.0), ap suc later.1 ∙ ap length (sym lines))

-- The text of a legal history is a legal text.
pub legal_histories_have_legal_texts : LegalHistoriesHaveLegalTexts
legal_histories_have_legal_texts first history legal entries =
    let lines = legal_lines first 0 history legal entries in
    record { told = lines.0; counted = lines.1 }

-- A text is legal for one number of entries at most.
pub counts_are_one : CountsAreOne
counts_are_one first bytes count other one two = one.counted ∙ sym two.counted

-- no line before the first wrong one is wrong
earlier : (first : TreeState) (bytes : List ℕ) (line other : ℕ) → IsFirstWrong first bytes line → IsFirstWrong first bytes other → line < other → ⊥
earlier first bytes line other one two lt = one.wrong (told_less first 0 line (other - 1) (whole_lines bytes) (omega arith) two.before)

-- A text has one answer at most.
pub answers_are_one : AnswersAreOne
answers_are_one first bytes = record {
  apart = λ count line legal wrong. wrong.wrong (told_front first 0 line (whole_lines bytes) legal.told);
  line = λ line other one two.
      elim (nat_lt line other) as (λ t. nat_lt line other ≡ t → line ≡ other) [
        | true ↦ λ t. absurd (earlier first bytes line other one two (ltb-true line other t))
        | false ↦ λ t. elim (nat_lt other line) as (λ s. nat_lt other line ≡ s → line ≡ other) [
          | true ↦ λ s. absurd (earlier first bytes other line two one (ltb-true other line s))
          | false ↦ λ s. let le = ltb-false line other t in let ge = ltb-false other line s in omega arith
        ] refl
      ] refl;
}

-- lines that tell of entries, and the tree behind them
abbrev pub Reaches : TreeState → ℕ → List (List ℕ) → TreeState → Type 0
Reaches tree stamp [] after = after ≡ tree
Reaches tree stamp (line ∷ lines) after =
    (entry : Entry) × IsLineOf tree stamp line entry × Reaches (tree_after_entry tree entry) (suc stamp) lines after

told_of_reach : (tree : TreeState) (stamp : ℕ) (lines : List (List ℕ)) (after : TreeState) → Reaches tree stamp lines after → AreLegalLines tree stamp lines
told_of_reach tree stamp [] after reach = tt
told_of_reach tree stamp (line ∷ lines) after reach = (reach.0, reach.1, told_of_reach (tree_after_entry tree reach.0) (suc stamp) lines after reach.2)

-- one line more
reach_more : (tree : TreeState) (stamp : ℕ) (lines : List (List ℕ)) (after : TreeState) (line : List ℕ) (entry : Entry)
    → Reaches tree stamp lines after → IsLineOf after (stamp + length lines) line entry → Reaches tree stamp (lines ++ line ∷ []) (tree_after_entry after entry)
reach_more tree stamp [] after line entry reach tells =
    let at : stamp + length {A = List ℕ} [] ≡ stamp = omega arith in
    let told = subst (λ (place : ℕ). IsLineOf after place line entry) at tells in
    (entry, subst (λ t. IsLineOf t stamp line entry) reach told, ap (λ t. tree_after_entry t entry) reach)
reach_more tree stamp (head ∷ lines) after line entry reach tells =
    let at : stamp + length (head ∷ lines) ≡ suc stamp + length lines = omega arith in
    let told = subst (λ (place : ℕ). IsLineOf after place line entry) at tells in
    (reach.0, reach.1, reach_more (tree_after_entry tree reach.0) (suc stamp) lines after line entry reach.2 told)

-- the last of some lines
abbrev LastTold : TreeState → ℕ → List (List ℕ) → List ℕ → Type 0
LastTold tree stamp lines line =
    (after : TreeState) × Reaches tree stamp lines after × ((entry : Entry) × IsLineOf after (stamp + length lines) line entry)

told_split : (tree : TreeState) (stamp : ℕ) (lines : List (List ℕ)) (line : List ℕ) → AreLegalLines tree stamp (lines ++ line ∷ [])
    → LastTold tree stamp lines line
told_split tree stamp [] line told =
    let at : stamp ≡ stamp + length {A = List ℕ} [] = omega arith in
    (tree, refl, (told.0, subst (λ (place : ℕ). IsLineOf tree place line told.0) at told.1))
told_split tree stamp (head ∷ lines) line told =
    let at : suc stamp + length lines ≡ stamp + length (head ∷ lines) = omega arith in
    let later = told_split (tree_after_entry tree told.0) (suc stamp) lines line told.2 in
    (later.0, (told.0, told.1, later.1), (later.2.0, subst (λ (place : ℕ). IsLineOf later.0 place line later.2.0) at later.2.1))

-- the tree behind some lines is one
reach_once : (tree : TreeState) (stamp : ℕ) (lines : List (List ℕ)) (after other : TreeState) → length tree.made ≤ 256
    → Reaches tree stamp lines after → Reaches tree stamp lines other → after ≡ other
reach_once tree stamp [] after other few one two = one ∙ sym two
reach_once tree stamp (line ∷ lines) after other few one two =
    let same = lines_tell_one_entry tree stamp one.0 two.0 [] [] few one.1.may two.1.may (ap (λ (text : List ℕ). text ++ []) (sym one.1.text ∙ two.1.text)) in
    let trees : tree_after_entry tree two.0 ≡ tree_after_entry tree one.0 =
    ap (λ (c : CoreId). tree_after_call tree c.0 two.0.call) (sym same.core) ∙ ap (tree_after_call tree one.0.core.0) (sym same.call) in
    let long = cores_after tree one.0.core.0 one.0.call in
    reach_once (tree_after_entry tree one.0) (suc stamp) lines after other (omega (arith, long)) one.2
    (subst (λ t. Reaches t (suc stamp) lines other) trees two.2)

-- How far a text was followed: the tree, how many lines tell of entries up to it, and what stands behind them.
pub record Point : Type 0 where
  pub tree : TreeState
  pub count : ℕ
  pub left : List ℕ

-- Lines that tell of entries lead to a point of a text.
pub record IsReached (first : TreeState) (text : List ℕ) (point : Point) : Type 0 where
  pub done : List (List ℕ)
  pub reach : Reaches first 0 done point.tree
  pub counted : point.count ≡ length done
  pub lines : whole_lines text ≡ done ++ whole_lines point.left

-- the point behind an entry's line
abbrev pub next_point : Point → TreeState → List ℕ → Point
next_point point after behind = record { tree = after; count = point.count + 1; left = behind }

reached_more : (first : TreeState) (text : List ℕ) (point : Point) (behind : List ℕ) (after : TreeState) (entry : Entry)
    → IsReached first text point → BeginsWithLine point.tree point.count point.left behind after entry → IsReached first text (next_point point after behind)
reached_more first text point behind after entry so step =
    let at : point.count ≡ 0 + length so.done = (let counted = so.counted in omega (arith, counted)) in
    let counted = so.counted in
    let long = length-append so.done (entry_text entry ∷ []) in
    let tells = subst (λ (place : ℕ). IsLineOf point.tree place (entry_text entry) entry) at (record { may = step.may; text = refl }) in
    let reach = reach_more first 0 so.done point.tree (entry_text entry) entry so.reach tells in
    record {
      done = so.done ++ entry_text entry ∷ [];
      reach = subst (Reaches first 0 (so.done ++ entry_text entry ∷ [])) (sym step.goes) reach;
      counted = omega (arith, counted, long);
      lines = so.lines ∙ ap (λ l. so.done ++ l) (ap whole_lines step.begins ∙ entry_first entry behind)
          ∙ sym (append_assoc so.done (entry_text entry ∷ []) (whole_lines behind));
    }

-- All lines are followed.
pub reached_end : (first : TreeState) (text : List ℕ) (point : Point) → IsReached first text point → point.left ≡ [] → IsLegalText first text point.count
reached_end first text point so none =
    let all : whole_lines text ≡ so.done = so.lines ∙ ap (λ l. so.done ++ whole_lines l) none ∙ append-nil so.done in
    record {
      told = subst (AreLegalLines first 0) (sym all) (told_of_reach first 0 so.done point.tree so.reach);
      counted = so.counted ∙ ap length (sym all);
    }

-- what is left begins with the line of no entry that may stand there
abbrev pub NoneIsNext : Point → Type 0
NoneIsNext point = (entry : Entry) (behind : List ℕ) → MayBePrinted point.tree point.count entry → point.left ≡ entry_text entry ++ behind → ⊥

-- the first of some lines, and the others
abbrev FirstOf : List ℕ → Type 0
FirstOf bytes = (line : List ℕ) × (later : List (List ℕ)) × (whole_lines bytes ≡ line ∷ later)

one_more : (done : List (List ℕ)) (line : List ℕ) (later : List (List ℕ)) → take (length done + 1) (done ++ line ∷ later) ≡ done ++ line ∷ []
one_more [] line later = refl
one_more (head ∷ done) line later =
    let e : length (head ∷ done) + 1 ≡ suc (length done + 1) = omega arith in
    ap (λ n. take n ((head ∷ done) ++ line ∷ later)) e ∙ ap (λ l. head ∷ l) (one_more done line later)

-- a line that is followed by no entry is the first wrong one
wrong_line : (first : TreeState) (text : List ℕ) (point : Point) (cut : FirstOf point.left) → length first.made ≤ 256
    → IsReached first text point → NoneIsNext point → IsFirstWrong first text (point.count + 1)
wrong_line first text point cut few so none =
    let at = so.counted in
    let here : whole_lines text ≡ so.done ++ (cut.0 ∷ cut.1) = so.lines ∙ ap (λ l. so.done ++ l) cut.2 in
    let before : point.count + 1 - 1 ≡ length so.done = omega (arith, at) in
    let with_it : point.count + 1 ≡ length so.done + 1 = omega (arith, at) in
    let less : take (point.count + 1 - 1) (whole_lines text) ≡ so.done =
    ap (λ n. take n (whole_lines text)) before ∙ ap (take (length so.done)) here ∙ take-append_seam so.done (cut.0 ∷ cut.1) in
    let more : take (point.count + 1) (whole_lines text) ≡ so.done ++ cut.0 ∷ [] =
    ap (λ n. take n (whole_lines text)) with_it ∙ ap (take (length so.done + 1)) here ∙ one_more so.done cut.0 cut.1 in
    record {
      number = omega arith;
      before = subst (AreLegalLines first 0) (sym less) (told_of_reach first 0 so.done point.tree so.reach);
      wrong = λ told.
          let parts = told_split first 0 so.done cut.0 (subst (AreLegalLines first 0) more told) in
          let same = reach_once first 0 so.done parts.0 point.tree few parts.1 so.reach in
          let place : 0 + length so.done ≡ point.count = omega (arith, at) in
          let tells = subst (λ t. IsLineOf t point.count cut.0 parts.2.0) same (subst (λ (n : ℕ). IsLineOf parts.0 n cut.0 parts.2.0) place parts.2.1) in
          let begins : point.left ≡ entry_text parts.2.0 ++ concat cut.1 =
          sym (lines_all point.left) ∙ ap concat cut.2 ∙ ap (λ l. l ++ concat cut.1) tells.text in
          none parts.2.0 (concat cut.1) tells.may begins;
    }

-- A line that is followed by no entry is the first wrong one.
pub reached_wrong : (first : TreeState) (text : List ℕ) (point : Point) → length first.made ≤ 256 → IsReached first text point
    → 0 < length point.left → NoneIsNext point → IsFirstWrong first text (point.count + 1)
reached_wrong first text point few so some none = wrong_line first text point (lines_some point.left some) few so none
  where
    longer : (byte : ℕ) (lines : List (List ℕ)) → (line : List ℕ) × (later : List (List ℕ)) × (first_longer byte lines ≡ line ∷ later)
    longer byte [] = (byte ∷ [], [], refl)
    longer byte (line ∷ lines) = (byte ∷ line, lines, refl)

    cut_at : (byte : ℕ) (bytes : List ℕ) (t : Bool)
        → (line : List ℕ) × (later : List (List ℕ)) × (cond t ((10 ∷ []) ∷ whole_lines bytes) (first_longer byte (whole_lines bytes)) ≡ line ∷ later)
    cut_at byte bytes true = (10 ∷ [], whole_lines bytes, refl)
    cut_at byte bytes false = longer byte (whole_lines bytes)

    lines_some : (bytes : List ℕ) → 0 < length bytes → FirstOf bytes
    lines_some [] some = absurd (omega arith)
    lines_some (byte ∷ bytes) some = cut_at byte bytes (nat_eq byte 10)

-- no text has more lines than bytes
lines_few : (bytes : List ℕ) → length (whole_lines bytes) ≤ length bytes
lines_few [] = omega arith
lines_few (byte ∷ bytes) =
    let few = lines_few bytes in
    elim (nat_eq byte 10) as (λ t. length (cond t ((10 ∷ []) ∷ whole_lines bytes) (first_longer byte (whole_lines bytes))) ≤ suc (length bytes)) [
      | true ↦ omega arith
      | false ↦ longer (whole_lines bytes) few
    ]
  where
    longer : (lines : List (List ℕ)) → length lines ≤ length bytes → length (first_longer byte lines) ≤ suc (length bytes)
    longer [] few = omega arith
    longer (line ∷ lines) few = omega arith

-- No more lines are followed than the text has bytes.
pub reached_few : (first : TreeState) (text : List ℕ) (point : Point) → IsReached first text point → point.count ≤ length text
reached_few first text point so =
    let at = so.counted in
    let few = lines_few text in
    let all = ap length so.lines in
    let long = length-append so.done (whole_lines point.left) in
    omega (arith, at, few, all, long)

-- What is checked: a text, the tree that its history begins with, and how many cores that has.
pub record Task : Type 0 where
  pub first : TreeState
  pub text : List ℕ
  pub cores : ℕ

-- A text that is followed line by line: how far it was, and that the tree is sound and has the same cores.
pub record Follows (task : Task) (point : Point) : Type 0 where
  pub reached : IsReached task.first task.text point
  pub sound : IsSound point.tree
  pub same : task.cores ≡ length point.tree.made

-- nothing was followed yet
pub follows_first : (task : Task) → IsSound task.first → task.cores ≡ length task.first.made
    → Follows task (record { tree = task.first; count = 0; left = task.text })
follows_first task sound same = record { reached = record { done = []; reach = refl; counted = refl; lines = refl }; sound = sound; same = same }

-- one line more
pub follows_more : (task : Task) (point : Point) (behind : List ℕ) (after : TreeState) → Follows task point
    → IsFollowed point.tree point.count point.left after (Some behind) → IsSound after → length after.made ≡ length point.tree.made
    → Follows task (next_point point after behind)
follows_more task point behind after so step sound same = record {
  reached = reached_more task.first task.text point behind after step.0 so.reached step.1;
  sound = sound;
  same = so.same ∙ sym same;
}

pub nothing_left : (left : List ℕ) → length left ≡ 0 → left ≡ []
nothing_left [] e = refl
nothing_left (byte ∷ left) e = absurd (omega (arith, e))
