-- What a note of a part tells of the commits of the run.
use Rattle.std.proofs.Common.{◌<◌, ◌≡◌, ◌≤◌, ℕ, length, List, Some, ap, filter_map, subst, sym, inl, inr, [], arith}
use Rattle.std.proofs.lemmas.List.Elements.{filter_map-append}
use Rattle.tree_laws.specs.History.{IsLegal}
use Rattle.cut_laws.specs.Rules.{IsOneOf}
use Rattle.cut_laws.proofs.Basics.{in_either}
use Rattle.stamp_table.specs.declared.event.Event.{Event}
use Rattle.stamp_table.specs.Events.{calls_in}
use Rattle.mem_values.specs.declared.fact.Fact.{Fact}
use Rattle.mem_values.specs.Facts.{IsLawfulLog}
use Rattle.mem_values.specs.declared.cell.Pending.{Pending}
use Rattle.mem_values.specs.Writers.{Writes}
use Rattle.mem_values.specs.Stands.{flushed_in, Flushed, IsTrimmedFor}
use Rattle.mem_values.specs.Account.{account_of, Commitment, commit_told}
use Rattle.mem_values.proofs.Lawful.{lawful_behind}
use Rattle.mem_values.proofs.Writers.{commits_have_fsyncs, earlier_writers_are_trimmed, writers_rise}
use Rattle.note_laws.specs.Run.{TableRun, IsTableRun}
use Rattle.note_laws.specs.Notes.{CoreNotes, IsNotedPart, IsBehind, RaisesOver, NotesGive, NotesAreEnough}
use Rattle.note_laws.proofs.Along.{lawful_begin, legal_begin, told_later, stamp_within, passed}

module _ (run : TableRun) (noted : CoreNotes) (part : ℕ) (is : IsTableRun run) (within : part < length run.first.made) (has : IsNotedPart run noted part) where
  abbrev at : List (Event Fact)
  at = (noted.notes part).at

  lawful : IsLawfulLog run.given run.first at
  lawful = lawful_begin run.given run.first at has.rest run.log has.whole is.lawful

  legal : IsLegal run.first (calls_in at)
  legal = legal_begin run.first at has.rest run.log has.whole is.legal

  last_is : (node : ℕ) (value : Pending) → noted.pending node ≡ Some value → value.last ≡ (flushed_in run.given (account_of at) node).last
  last_is node value there = ap (λ (f : Flushed). f.last) (has.stands node value there).flushed

  cut_is : (node : ℕ) (value : Pending) → noted.pending node ≡ Some value → value.cut.0 ≡ (flushed_in run.given (account_of at) node).cut
  cut_is node value there = ap (λ (f : Flushed). f.cut) (has.stands node value there).flushed

  -- a commit behind the core's had been told by then
  told_by_then : (commit : Commitment) → IsOneOf (account_of run.log).commits commit → IsBehind noted commit → IsOneOf (account_of at).commits commit
  told_by_then commit one behind =
      elim (in_either (account_of at).commits (filter_map commit_told has.rest) commit
      (subst (λ l. IsOneOf l commit) (filter_map-append commit_told at has.rest) (subst (λ l. IsOneOf (account_of l).commits commit) (sym has.whole) one))) [
        | inl before ↦ before
        | inr later ↦
            let above =
            told_later run.given run.first behind.node at has.rest commit behind.theirs
            (lawful_behind run.given run.first [] at has.rest (subst (IsLawfulLog run.given run.first) (sym has.whole) is.lawful)) later behind.holds in
            let last = last_is behind.node behind.value behind.seen in
            let known = behind.known in absurd (omega (arith, above, last, known))
      ]

  stamped_by_then : (commit : Commitment) → IsOneOf (account_of run.log).commits commit → IsBehind noted commit → commit.stamp < length (calls_in at)
  stamped_by_then commit one behind =
      let fsync = commits_have_fsyncs run.given run.first at commit lawful (told_by_then commit one behind) in
      subst (λ n. n < length (calls_in at)) fsync.stamped (stamp_within run.first (calls_in at) fsync.entry legal fsync.among)

  -- the part was trimmed for it
  trimmed_for : (commit : Commitment) (directory : ℕ) → IsOneOf (account_of run.log).commits commit → IsBehind noted commit
      → IsOneOf commit.members directory → IsTrimmedFor (account_of at) commit part
  trimmed_for commit directory one behind member =
      elim (earlier_writers_are_trimmed run.given run.first at behind.node commit behind.theirs lawful
      (record { among = told_by_then commit one behind; holds = behind.holds })) [
        | inl last ↦ (has.stands behind.node behind.value behind.seen).trimmed (commit, behind.theirs) directory last member part within
        | inr all ↦ all directory part member within
      ]

  own_mark : (node : ℕ) (value : Pending) → noted.pending node ≡ Some value → (noted.notes part).mark node ≤ value.cut.0
  own_mark node value there = elim (has.marks.capped node) [
    | inl none_yet ↦ omega (arith, none_yet)
    | inr cap ↦
        let rise = (writers_rise run.given run.first at node cap.0 cap.1 lawful (record { among = cap.2; holds = cap.3 })).1 in
        let le = cap.4 in
        let cut = cut_is node value there in omega (arith, rise, le, cut)
  ]

  reached : (directory below : ℕ) → below < (noted.notes part).mark directory → RaisesOver run.given at directory below
  reached directory below less = elim (has.marks.capped directory) [
    | inl none_yet ↦ absurd (omega (arith, none_yet, less))
    | inr cap ↦
        let rise = (writers_rise run.given run.first at directory cap.0 cap.1 lawful (record { among = cap.2; holds = cap.3 })).1 in
        let le = cap.4 in passed run.given run.first directory at below lawful (omega (arith, rise, le, less))
  ]

  gives : NotesGive run noted part
  gives = record {
    late = let fsync = has.stamped in
        subst (λ n. n < length (calls_in at)) fsync.stamped (stamp_within run.first (calls_in at) fsync.entry legal fsync.among);
    late_others = stamped_by_then;
    trimmed = λ commit directory one behind member.
        has.marks.trimmed commit directory (told_by_then commit one behind) (trimmed_for commit directory one behind member) member;
    cuts = λ commit one behind.
        let writes : Writes (account_of at) behind.node commit behind.theirs =
        record { among = told_by_then commit one behind; holds = behind.holds } in
        let rise = (writers_rise run.given run.first at behind.node commit behind.theirs lawful writes).1 in
        let cut = cut_is behind.node behind.value behind.seen in omega (arith, rise, cut);
    own_marks = own_mark;
    reached = reached;
    knew = λ commit node value theirs one there holds.
        let rise = (writers_rise run.given run.first at node commit theirs lawful (record { among = one; holds = holds })).0 in
        let last = last_is node value there in omega (arith, rise, last);
  }

pub notes_are_enough : NotesAreEnough
notes_are_enough run noted part is within has = gives run noted part is within has
