-- Copies of all logs, taken one after another, are notes for an fsync that waits.
use Rattle.std.specs.Prelude.{if◌then◌else◌, ◌-◌, ◌^◌, All, slice_index_or}
use mathlib.Core.List.{IsPrefix}
use borrow.Author.Tests.{eqb-true}
use Rattle.std.proofs.Common.{◌≡◌, ◌<◌, ◌≤◌, ◌∷◌, ◌++◌, ◌∙◌, ℕ, zero, suc, Bool, true, false, List, [], map, length, filter, slice_get, Option, Some, None, inl, inr, refl, sym, ap, subst, arith, append-nil, is_some}
use Rattle.std.proofs.lemmas.Bool.{ltb-true}
use Rattle.std.proofs.lemmas.Option.{get_or_from_slice_get}
use Rattle.sfs_base.specs.declared.numbers.NodeId.{NodeId}
use Rattle.sfs_base.specs.Listed.{is_listed}
use Rattle.sfs_base.proofs.BasicOptions.{none_some}
use Rattle.tree_laws.specs.NameRow.{node_number}
use Rattle.tree_laws.specs.History.{IsLegal}
use Rattle.tree_laws.specs.Tree.{TreeState}
use Rattle.tree_laws.specs.Logged.{is_logged_in}
use Rattle.tree_laws.specs.declared.changes.Change.{Change}
use Rattle.mem_cells.specs.Part.{CoreLog, changes_kept}
use Rattle.mem_cells.specs.Log.{is_from}
use Rattle.disk_nodes.specs.OldKept.{OldKept}
use Rattle.cut_laws.specs.Rules.{IsOneOf}
use Rattle.cut_laws.proofs.Listed.{from_map, listed_one}
use Rattle.cut_laws.proofs.RunFacts.{in_filter}
use Rattle.log_merge.specs.Merge.{is_under}
use Rattle.log_copy.specs.Copies.{KeepsFor, is_one_of}
use Rattle.dep_closure.specs.declared.gathered.DirectoryChanges.{DirectoryChanges}
use Rattle.dep_closure.proofs.Looked.{one_of_all}
use Rattle.core_logs.specs.Logs.{blank_part}
use Rattle.core_logs.proofs.Ordered.{all_of}
use Rattle.stamp_table.specs.declared.event.Event.{Event}
use Rattle.stamp_table.specs.Events.{calls_in}
use Rattle.stamp_table.proofs.Keeps.{begins_on}
use Rattle.mem_values.specs.Start.{FileHand}
use Rattle.mem_values.specs.declared.fact.Fact.{Fact}
use Rattle.mem_values.specs.declared.cell.Pending.{Pending}
use Rattle.mem_values.specs.Account.{account_of}
use Rattle.mem_values.specs.Facts.{HasFsync, IsLawfulLog}
use Rattle.mem_values.specs.Logs.{own_logged}
use Rattle.mem_values.specs.Stands.{StandsPending}
use Rattle.mem_values.proofs.Told.{calls_grow}
use Rattle.mem_values.proofs.Writers.{fsync_later}
use Rattle.note_laws.specs.Run.{TableRun}
use Rattle.note_laws.specs.Notes.{CoreNotes, PartNote, IsLeftBy, AreMarksOf, HasMarks, HasNotedAll, IsNotedPart}
use Rattle.note_laws.specs.Merged.{EndBelow, is_seen_by, AreMergedOf, AreMergedFor}
use Rattle.note_laws.proofs.Marks.{parts_have_marks}
use Rattle.note_laws.proofs.Along.{lawful_begin, calls_begin, legal_begin}
use Rattle.note_laws.proofs.Parted.{first_logged}
use Rattle.note_laws.proofs.There.{in_whole}
use Rattle.mem_calls.specs.Held.{pending_held}
use Rattle.fsync_look.specs.Look.{IsBelow, IsCopyOf, AreCopies, SawMore}
use Rattle.fsync_gather.specs.Gathers.{KeepOwn}
use Rattle.fsync_catch.specs.Catch.{HasItsFsync, saw_of}
use Rattle.fsync_catch.specs.declared.looking.WaitingFsync.{WaitingFsync}

-- copies up to a moment are copies up to a later one
pub copies_later : (given : ℕ → Option OldKept) (nodes cores : ℕ) (list : List NodeId) (before mid after : FileHand) (logs : List CoreLog)
    → IsPrefix mid.view.seen after.view.seen → AreCopies given nodes cores list before mid logs → AreCopies given nodes cores list before after logs
copies_later given nodes cores list before mid after logs on copies = record {
  count = copies.count;
  each = λ number log is. let copy = copies.each number log is in record {
    log = copy.log;
    keeps = copy.keeps;
    at = copy.at;
    since = copy.since;
    until = begins_on copy.at mid.view.seen after.view.seen copy.until on;
    made = copy.made;
    stands = copy.stands;
    kept = copy.kept;
  };
}

-- an fsync that waits is among the calls of each longer history
pub fsync_on : (log longer : List (Event Fact)) (core node stamp : ℕ) → IsPrefix log longer → HasFsync (calls_in log) core node stamp
    → HasFsync (calls_in longer) core node stamp
fsync_on log longer core node stamp on fsync =
    subst (λ calls. HasFsync calls core node stamp) (calls_begin log on.0 longer on.1) (fsync_later (calls_in log) (calls_in on.0) core node stamp fsync)

-- a log that is one of some has a place among them
place_of : (logs : List CoreLog) (log : CoreLog) → IsOneOf logs log → (place : ℕ) × (slice_get logs place ≡ Some log)
place_of [] log one = absurd one
place_of (first ∷ logs) log one = elim one [
  | inl same ↦ (0, ap Some same)
  | inr later ↦ let found = place_of logs log later in (suc found.0, found.1)
]

-- so many logs, each by its place
pub listed_from : (ℕ → CoreLog) → ℕ → List CoreLog
listed_from log_at zero = []
listed_from log_at (suc count) = log_at 0 ∷ listed_from (λ place. log_at (suc place)) count

length_listed : (log_at : ℕ → CoreLog) (count : ℕ) → length (listed_from log_at count) ≡ count
unfolding listed_from
length_listed log_at zero = refl
length_listed log_at (suc count) = ap suc (length_listed (λ place. log_at (suc place)) count)

listed_at : (log_at : ℕ → CoreLog) (count place : ℕ) (other : CoreLog) → place < count
    → slice_index_or (listed_from log_at count) place other ≡ log_at place
unfolding listed_from
listed_at log_at zero place other within = absurd (omega (arith, within))
listed_at log_at (suc count) zero other within = refl
listed_at log_at (suc count) (suc place) other within = listed_at (λ place. log_at (suc place)) count place other (omega (arith, within))

-- what is kept for some nodes is kept for fewer
keeps_less : {some fewer : ℕ → Bool} {log copy : CoreLog} → ((node : ℕ) → fewer node ≡ true → some node ≡ true) → KeepsFor some log copy
    → KeepsFor fewer log copy
keeps_less less keeps = record {
  each = keeps.each;
  own = λ directory own. keeps.own directory (less directory own);
  naming = λ directory change one child. keeps.naming directory change one (less change.child.0 child);
}

there_is : (logs : List CoreLog) (place : ℕ) → place < length logs → (log : CoreLog) × (slice_get logs place ≡ Some log)
there_is [] place within = absurd (omega (arith, within))
there_is (log ∷ logs) zero within = (log, refl)
there_is (log ∷ logs) (suc place) within = there_is logs place (omega (arith, within))

-- The copies of what all logs keep for some nodes, for an fsync that waits, and what the core holds of these nodes.
pub record Copying : Type 0 where
  pub given : ℕ → Option OldKept
  pub nodes : ℕ
  pub fsync : WaitingFsync
  pub list : List NodeId
  pub before : FileHand
  pub after : FileHand
  pub copies : List CoreLog

pub record IsCopying (s : Copying) : Type 0 where
  pub copies : AreCopies s.given s.nodes (length s.before.view.first.made) s.list s.before s.after s.copies
  pub saw : SawMore s.before s.after
  pub legal : IsLegal s.before.view.first (calls_in s.after.view.seen)
  pub lawful : IsLawfulLog s.given s.before.view.first s.after.view.seen
  pub waits : HasItsFsync s.before s.fsync
  pub within : All (IsBelow s.nodes) s.list
  pub few : length (calls_in s.after.view.seen) ≤ 2 ^ 64 - 1

module _ (s : Copying) (is : IsCopying s) where
  abbrev pub first : TreeState
  first = s.before.view.first

  abbrev pub saw : ℕ → Option Pending
  saw = saw_of s.nodes s.list s.before

  lawful_at : (at : List (Event Fact)) → IsPrefix at s.after.view.seen → IsLawfulLog s.given first at
  lawful_at at until = lawful_begin s.given first at until.0 s.after.view.seen until.1 is.lawful

  legal_at : (at : List (Event Fact)) → IsPrefix at s.after.view.seen → IsLegal first (calls_in at)
  legal_at at until = legal_begin first at until.0 s.after.view.seen until.1 is.legal

  -- a copy of one of the logs
  abbrev IsCopy : ℕ → CoreLog → Type 0
  IsCopy part copy = IsCopyOf s.given s.nodes s.list s.before s.after part copy

  -- a copied log has marks, as its value stood
  marks_of : (part : ℕ) (log : CoreLog) → (copy : IsCopy part log) → HasMarks first (account_of copy.at) part copy.log
  marks_of part log copy =
      parts_have_marks s.given first copy.at part (record { log = copy.log; made = copy.made }) (lawful_at copy.at copy.until) copy.stands

  -- what a core saw of a node that it held stood at that moment
  stood : (part : ℕ) (log : CoreLog) → (copy : IsCopy part log) → (node : ℕ) (value : Pending) → saw node ≡ Some value
      → StandsPending s.given first (account_of copy.at) node value
  stood part log copy node value = by (is_listed (map node_number s.list) node) refl
    where
      by : (b : Bool) → is_listed (map node_number s.list) node ≡ b
          → (if b then pending_held s.nodes s.before.held (record { 0 = node }) else None) ≡ Some value
          → StandsPending s.given first (account_of copy.at) node value
      by false listed none = absurd (none_some none)
      by true listed held =
          let found = from_map node_number s.list node ((listed_one (map node_number s.list) node).0 listed) in
          copy.kept (record { 0 = node }) value (subst (λ n. n < s.nodes) found.2 (one_of_all (IsBelow s.nodes) s.list found.0 is.within found.1)) held

  -- The note of a part says what it has to say of its log.
  pub record IsNote (part : ℕ) (log : CoreLog) (note : PartNote) : Type 0 where
    pub until : IsPrefix note.at s.after.view.seen
    pub stamped : HasFsync (calls_in note.at) s.before.view.core s.fsync.node.0 s.fsync.stamp.0
    pub left : IsLeftBy first (calls_in note.at) part log note.mark
    pub marks : AreMarksOf (account_of note.at) part note.mark
    pub stands : (node : ℕ) (value : Pending) → saw node ≡ Some value → StandsPending s.given first (account_of note.at) node value

  -- A part that was noted: its whole log and its note, by which its copy keeps what the look asks for.
  pub record HasNote (part : ℕ) (log : CoreLog) (note : PartNote) : Type 0 where
    pub notes : IsNote part log note
    pub keeps : KeepsFor (is_one_of s.list) log (slice_index_or s.copies part blank_part)

  -- the log of a part and its note, by its copy where there is one
  pub note_of : (part : ℕ) (o : Option CoreLog) → slice_get s.copies part ≡ o
      → (log : CoreLog) × (note : PartNote) × (part < length s.copies → HasNote part log note)
  note_of part None none = (
    blank_part,
    record { at = []; mark = λ directory. 0 },
    λ within. let log = there_is s.copies part within in absurd (none_some (sym none ∙ log.1)),
  )
  note_of part (Some log) some =
      let copy = is.copies.each part log some in
      let marks = marks_of part log copy in (
        copy.log,
        record { at = copy.at; mark = marks.mark },
        λ within. record {
          notes = record {
            until = copy.until;
            stamped = fsync_on s.before.view.seen copy.at s.before.view.core s.fsync.node.0 s.fsync.stamp.0 copy.since is.waits;
            left = marks.left;
            marks = marks.are;
            stands = stood part log copy;
          };
          keeps = subst (KeepsFor (is_one_of s.list) copy.log) (sym (get_or_from_slice_get s.copies part log blank_part some)) copy.keeps;
        },
      )

  -- the log of a part, and its note
  abbrev log_at : ℕ → CoreLog
  log_at part = (note_of part (slice_get s.copies part) refl).0

  abbrev note_at : ℕ → PartNote
  note_at part = (note_of part (slice_get s.copies part) refl).1

  has_note : (part : ℕ) → part < length s.copies → HasNote part (log_at part) (note_at part)
  has_note part within = (note_of part (slice_get s.copies part) refl).2 within

  abbrev pub noted : CoreNotes
  noted = record {
    core = s.before.view.core;
    node = s.fsync.node.0;
    stamp = s.fsync.stamp.0;
    pending = saw;
    parts = listed_from log_at (length s.copies);
    notes = note_at;
  }

  abbrev run : TableRun
  run = record { given = s.given; first = first; log = s.after.view.seen }

  noted_part : (part : ℕ) → part < length s.copies → IsNote part (log_at part) (note_at part) → IsNotedPart run noted part
  noted_part part within note = record {
    rest = note.until.0;
    whole = note.until.1;
    stamped = note.stamped;
    left = subst (λ l. IsLeftBy first (calls_in (note_at part).at) part l (note_at part).mark)
        (sym (listed_at log_at (length s.copies) part blank_part within)) note.left;
    marks = note.marks;
    stands = note.stands;
  }

  as_many : length noted.parts ≡ length s.copies
  as_many = length_listed log_at (length s.copies)

  -- so all parts are noted
  pub has_noted : HasNotedAll run noted
  has_noted = record {
    as_many = as_many ∙ is.copies.count;
    each = λ part known.
        let within = subst (λ n. part < n) (sym is.copies.count) known in noted_part part within (has_note part within).notes;
  }

  -- what it saw it held
  saw_held : (node : ℕ) → is_seen_by noted node ≡ true → is_one_of s.list node ≡ true
  saw_held node = by (is_one_of s.list node)
    where
      by : (b : Bool) → is_some (if b then pending_held s.nodes s.before.held (record { 0 = node }) else None) ≡ true → b ≡ true
      by true some = refl
      by false none = none

  -- what is merged of the copies is merged for the notes
  pub merged_for : (logs : List DirectoryChanges) → AreMergedOf s.copies logs → AreMergedFor noted logs
  merged_for logs merged = record {
    copies = s.copies;
    as_many = sym as_many;
    keep = λ part known.
        let within = subst (λ n. part < n) as_many known in
        subst (λ log. KeepsFor (is_seen_by noted) log (slice_index_or s.copies part blank_part))
        (sym (listed_at log_at (length s.copies) part blank_part within)) (keeps_less saw_held (has_note part within).keeps);
    merged = merged;
  }

  -- a change that a copy keeps of a directory is one of it, and of a call that the core has seen
  kept_logged : (part : ℕ) (log : CoreLog) (directory : ℕ) (change : Change) → IsCopy part log
      → IsOneOf (changes_kept log directory) change → (change.dir.0 ≡ directory) × (change.stamp.0 < length (calls_in s.after.view.seen))
  kept_logged part log directory change copy one =
      let marks = marks_of part log copy in
      let own = own_logged first part (calls_in copy.at) in
      let from = in_filter (is_from (marks.mark directory)) (filter (is_logged_in directory) own) change
      (subst (λ l. IsOneOf l change) (marks.left directory) (in_whole copy.keeps directory change one)) in
      let logged = in_filter (is_logged_in directory) own change from.0 in
      let legal : IsLegal first (calls_in copy.at ++ []) = subst (IsLegal first) (sym (append-nil (calls_in copy.at))) (legal_at copy.at copy.until) in
      let under = (in_filter (is_under (length (calls_in copy.at))) _ change
      (subst (λ l. IsOneOf l change) (first_logged first part (calls_in copy.at) [] legal) logged.0)).1 in
      let less = ltb-true change.stamp.0 (length (calls_in copy.at)) under in
      let grown = calls_grow copy.at s.after.view.seen copy.until in
      (eqb-true change.dir.0 directory logged.1, omega (arith, less, grown))

  pub keep_own : KeepOwn s.copies
  keep_own log directory one =
      let place = place_of s.copies log one in
      all_of (λ (change : Change). change.dir.0 ≡ directory) (changes_kept log directory)
      (λ change among. (kept_logged place.0 log directory change (is.copies.each place.0 log place.1) among).0)

  pub end_below : (bound : ℕ) → length (calls_in s.after.view.seen) ≤ bound → EndBelow s.copies bound
  end_below bound few part directory within =
      let log = there_is s.copies part within in
      subst (λ (l : CoreLog). All (λ (change : Change). change.stamp.0 < bound) (changes_kept l directory))
      (sym (get_or_from_slice_get s.copies part log.0 blank_part log.1))
      (all_of (λ (change : Change). change.stamp.0 < bound) (changes_kept log.0 directory)
      (λ change among. let less = (kept_logged part log.0 directory change (is.copies.each part log.0 log.1) among).1 in omega (arith, less, few)))
