-- A commit that is made from notes has its notes.
use Rattle.std.proofs.Common.{◌≤◌, ◌≡◌, ◌∷◌, ◌<◌, ◌++◌, ◌∙◌, ◌↔◌, if◌then◌else◌, List, ℕ, length, [], refl, zero, arith, suc, inl, inr, true, subst, take, Bool, false, sym, nat_lt, filter, eqb-true, ap, not, Some, None, is_some}
use Rattle.std.proofs.lemmas.Bool.Decides.{nat_tests}
use Rattle.tree_laws.specs.declared.history.Entry.{Entry}
use Rattle.tree_laws.specs.Changes.{RowChange}
use Rattle.tree_laws.specs.Tree.{is_directory, is_alive, TreeState}
use Rattle.tree_laws.specs.History.{tree_after, IsDue, MayCome, IsLegal, flushes}
use Rattle.tree_laws.specs.declared.reply.Reply.TheVariants as reply
use Rattle.tree_laws.specs.Logged.{is_logged_in}
use Rattle.tree_laws.specs.NameRow.{number_of}
use Rattle.tree_laws.specs.declared.call.Call.TheVariants as call
use Rattle.tree_laws.specs.Verdict.{verdict, or_else, node_fault, answered}
use Rattle.tree_laws.specs.declared.reply.Code.TheVariants.{NoEntry}
use Rattle.cut_laws.specs.Rules.{IsChange, IsOneOf, births_of}
use Rattle.cut_laws.specs.Closure.{HasLiveNode}
use Rattle.cut_laws.proofs.Basics.{below_or, in_left}
use Rattle.cut_laws.proofs.MemberKinds.{own_directory}
use Rattle.cut_laws.proofs.Along.{made_at}
use Rattle.cut_laws.proofs.Entries.{entries_may_come}
use Rattle.cut_laws.proofs.Listed.{from_map, to_map}
use Rattle.cut_laws.proofs.RunFacts.{in_filter}
use Rattle.look_laws.specs.Look.{Look, Noted, Touches}
use Rattle.look_laws.specs.Fit.{IsNoted, IsTrue}
use Rattle.beside_laws.specs.Commits.{CoreCommit, commit_fsync, HasNotes, IsOfHeld}
use Rattle.dep_closure.specs.Gathered.{look_of, noted_in, noted_as}
use Rattle.dep_closure.specs.History.{logged_of}
use Rattle.dep_closure.proofs.True.{logs_are_true, logged_row, stands_in_history}
use Rattle.dep_closure.proofs.Looked.{from_flat, to_flat}
use Rattle.stamp_table.specs.declared.event.Event.{Event}
use Rattle.stamp_table.specs.Events.{calls_in}
use Rattle.mem_values.specs.declared.fact.Fact.{Fact}
use Rattle.mem_values.specs.Facts.{HasFsync}
use Rattle.mem_values.specs.Logs.{birthplace}
use Rattle.home_laws.proofs.Birthplaces.{birthplaces_stay}
use Rattle.note_laws.specs.Merged.{caller_of, GathersNoted, is_noted_by, mark_noted, is_seen_by, IsOfSeen}
use Rattle.note_laws.specs.Run.{TableRun, IsTableRun, calls_of}
use Rattle.note_laws.specs.Joined.{NotedCommit, IsMadeFromNotes, MadeHaveNotes}
use Rattle.note_laws.specs.Notes.{CoreNotes, NotesGive, calls_noted}
use Rattle.note_laws.proofs.Parted.{caller_within}
use Rattle.note_laws.proofs.Along.{calls_begin}
use Rattle.note_laws.proofs.Enough.{notes_are_enough}
use Rattle.note_laws.proofs.Gathered.{notes_are_logs}
use Rattle.note_laws.proofs.Born.{birthplace_is}

-- past the last call the caller is core 0
caller_past : (calls : List Entry) (stamp : ℕ) → length calls ≤ stamp → caller_of calls stamp ≡ 0
caller_past [] stamp le = refl
caller_past (entry ∷ calls) zero le = absurd (omega (arith, le))
caller_past (entry ∷ calls) (suc stamp) le = caller_past calls stamp (omega (arith, le))

-- an entry of an fsync that waits for its answer is of a node that is alive
pub waits_alive : (tree : TreeState) (stamp : ℕ) (entry : Entry) (node : ℕ) → MayCome tree stamp entry → entry.call ≡ call.Fsync (record { 0 = node })
    → entry.reply ≡ reply.NoMemory → is_alive tree node ≡ true
waits_alive tree stamp entry node may fsync waits =
    by (is_alive tree node) refl
    (subst (λ c. IsDue (flushes tree c) (verdict tree entry.core.0 c).reply entry.reply) fsync may.due)
  where
    by : (b : Bool) → is_alive tree node ≡ b
        → IsDue (is_alive tree node) (or_else (node_fault tree node) (answered reply.Ok)).reply entry.reply → is_alive tree node ≡ true
    by true alive due = alive
    by false dead due =
        let given : entry.reply ≡ (or_else (if not false then Some NoEntry else None) (answered reply.Ok)).reply =
        subst (λ b. IsDue b (or_else (if not b then Some NoEntry else None) (answered reply.Ok)).reply entry.reply) dead due in
        let never = sym waits ∙ given in absurd (cc never)

module _ (run : TableRun) (is : IsTableRun run) where
  abbrev calls : List Entry
  calls = calls_of run

  -- the caller of each stamp is a core
  pub caller_known : 0 < length run.first.made → (stamp : ℕ) → caller_of calls stamp < length run.first.made
  caller_known some stamp = elim (below_or stamp (length calls)) [
    | inl less ↦ caller_within run.first calls 0 stamp is.legal less
    | inr past ↦ let same = caller_past calls stamp past in omega (arith, some, same)
  ]

  -- what changes is a directory
  pub directory_of : (change : RowChange) → IsChange run.first calls change → is_directory (tree_after run.first calls) change.directory ≡ true
  directory_of change one =
      own_directory run.first calls is.sound is.legal change.stamp change (made_at run.first calls is.sound is.legal change one)

  -- an fsync that waits for its answer is of a node that was alive
  live_there : (at rest : List (Event Fact)) (core node stamp : ℕ) → at ++ rest ≡ run.log → HasFsync (calls_in at) core node stamp
      → HasLiveNode run.first calls (record { node = node; stamp = stamp })
  live_there at rest core node stamp whole fsync =
      let among : IsOneOf calls fsync.entry =
      subst (λ l. IsOneOf l fsync.entry) (calls_begin at rest run.log whole) (in_left (calls_in at) (calls_in rest) fsync.entry fsync.among) in
      let may = (entries_may_come run.first calls fsync.entry is.legal among).may in
      subst (λ n. is_alive (tree_after run.first (take n calls)) node ≡ true) fsync.stamped
      (waits_alive (tree_after run.first (take fsync.entry.stamp.0 calls)) fsync.entry.stamp.0 fsync.entry node may fsync.fsync fsync.waits)

  module _ (made : NotedCommit) (from : IsMadeFromNotes run made) where
    abbrev noted : CoreNotes
    noted = made.noted

    abbrev commit : CoreCommit
    commit = made.commit

    part_of_stamp : (stamp : ℕ) → caller_of calls stamp < length run.first.made
    part_of_stamp stamp = caller_known from.some_core stamp

    gives : (part : ℕ) → part < length run.first.made → NotesGive run noted part
    gives part known = notes_are_enough run noted part is known (from.has.each part known)

    early : (stamp : ℕ) → stamp < commit.late → commit.counts stamp ≡ true
    early stamp less =
        subst (λ (c : ℕ → Bool). c stamp ≡ true) (sym from.counts)
        (counted (length (calls_noted noted (caller_of calls stamp))) (from.early (caller_of calls stamp) (part_of_stamp stamp)))
      where
        counted : (n : ℕ) → commit.late ≤ n → nat_lt stamp n ≡ true
        counted n le = grind (arith, nat_tests, less, le)

    stamped : (commit_fsync commit).stamp ≤ commit.late
    stamped =
        subst (λ (look : Look). look.flush.stamp ≤ commit.late) (sym from.look)
        (from.late noted.stamp (λ part known. let less = (gives part known).late in omega (arith, less)))

    live : HasLiveNode run.first calls (commit_fsync commit)
    live =
        let first_part = from.has.each 0 from.some_core in
        subst (λ (look : Look). HasLiveNode run.first calls look.flush) (sym from.look)
        (live_there (noted.notes 0).at first_part.rest noted.core noted.node noted.stamp first_part.whole first_part.stamped)

    abbrev gathered : GathersNoted run noted made.gathered.logs.items
    gathered = notes_are_logs run noted made.gathered.logs.items is from.has from.merged

    abbrev look_there : Look
    look_there = look_of (record { 0 = noted.node }) (record { 0 = noted.stamp }) made.gathered

    truths : (one : Noted) → IsOneOf commit.look.noted one → IsTrue run.first calls commit.counts one
    truths one has =
        subst (λ (c : ℕ → Bool). IsTrue run.first calls c one) (sym from.counts)
        (logs_are_true run.first calls (is_noted_by run noted) made.gathered (record { 0 = noted.node }) (record { 0 = noted.stamp }) is.sound is.legal
        (λ log among. (gathered.each log among).is) one (subst (λ (look : Look). IsOneOf look.noted one) from.look has))

    unmarked_there : (one : Noted) → IsOneOf look_there.noted one → mark_noted run noted one.change.stamp one.change.directory ≤ one.change.stamp
    unmarked_there one has =
        let in_log = from_flat noted_in made.gathered.logs.items one has in
        let log = in_log.0 in
        let change = from_map (noted_as log.changes.items) log.changes.items one in_log.2 in
        let each = gathered.each log in_log.1 in
        let kept =
        in_filter (λ c. each.is.keeps c.stamp.0) (filter (is_logged_in log.dir.0) (logged_of run.first calls)) change.0
        (subst (λ l. IsOneOf l change.0) each.is.changes change.1) in
        let own : change.0.dir.0 ≡ log.dir.0 =
        eqb-true change.0.dir.0 log.dir.0 (in_filter (is_logged_in log.dir.0) (logged_of run.first calls) change.0 kept.0).1 in
        subst (λ (n : Noted). mark_noted run noted n.change.stamp n.change.directory ≤ n.change.stamp) change.2
        (subst (λ d. mark_noted run noted change.0.stamp.0 d ≤ change.0.stamp.0) (sym own)
        (each.unmarked change.0.stamp.0 kept.1))

    unmarked : (one : Noted) → IsOneOf commit.look.noted one → commit.mark one.change.stamp one.change.directory ≤ one.change.stamp
    unmarked one has =
        subst (λ m. m ≤ one.change.stamp)
        (sym (from.marks.directories one.change.stamp one.change.directory (directory_of one.change (truths one has).is_change)))
        (unmarked_there one (subst (λ (look : Look). IsOneOf look.noted one) from.look has))

    -- what the commit holds its core saw
    seen_of : (node : ℕ) → commit.holds node ≡ true → is_seen_by noted node ≡ true
    seen_of node holds = let value = from.seen node holds in ap is_some value.1.seen

    is_noted : (change : RowChange) → IsChange run.first calls change → IsOfHeld commit change → commit.counts change.stamp ≡ true
        → commit.mark change.stamp change.directory ≤ change.stamp → IsNoted commit.look change
    is_noted change one of_held counted le =
        let logged = logged_row run.first calls change is.sound is.legal one in
        let row = logged.0 in
        let counts_row : is_noted_by run noted row.stamp.0 ≡ true =
        subst (λ (r : RowChange). is_noted_by run noted r.stamp ≡ true) (sym logged.2)
        (subst (λ (c : ℕ → Bool). c change.stamp ≡ true) from.counts counted) in
        let mark_row : mark_noted run noted row.stamp.0 row.dir.0 ≤ row.stamp.0 =
        subst (λ (r : RowChange). mark_noted run noted r.stamp r.directory ≤ r.stamp) (sym logged.2)
        (subst (λ m. m ≤ change.stamp) (from.marks.directories change.stamp change.directory (directory_of change one)) le) in
        let seen_row : IsOfSeen noted row =
        elim of_held [
          | inl own ↦ inl (seen_of row.dir.0 (subst (λ (r : RowChange). commit.holds r.directory ≡ true) (sym logged.2) own))
          | inr child ↦ inr (seen_of row.child.0 (subst (λ (r : RowChange). commit.holds r.child ≡ true) (sym logged.2) child))
        ] in
        let there = gathered.changes row logged.1 seen_row counts_row mark_row in
        let log = there.0 in
        let stands = stands_in_history run.first calls (is_noted_by run noted) log is.legal (gathered.each log there.1).is row there.2 in
        subst (λ (look : Look). IsNoted look change) (sym from.look) (
          noted_as log.changes.items row,
          to_flat noted_in made.gathered.logs.items log (noted_as log.changes.items row) there.1
              (to_map (noted_as log.changes.items) log.changes.items row there.2),
          ap (λ (n : Noted). n.change) stands.noted ∙ logged.2,
        )

    holds_touched : (node : ℕ) → Touches commit.look node → commit.holds node ≡ true
    holds_touched node touched = (from.by_look.holds node).1 touched

    born : (node directory : ℕ) → Touches commit.look node
        → IsOneOf commit.look.born (record { node = node; directory = directory }) ↔
        ((stamp : ℕ) × IsOneOf (births_of run.first calls) (record { stamp = stamp; directory = directory; node = node }))
    born node directory touched =
        let value = from.seen node (holds_touched node touched) in
        let seen = value.1 in
        let part = from.has.each seen.part seen.known in
        let place : number_of value.0.made_in ≡ birthplace run.first calls node =
        (part.stands node value.0 seen.seen).made_in
        ∙ sym (birthplaces_stay run.first (calls_noted noted seen.part) (calls_in part.rest) node is.sound
        (subst (IsLegal run.first) (sym (calls_begin (noted.notes seen.part).at part.rest run.log part.whole)) is.legal) seen.there)
        ∙ ap (λ l. birthplace run.first l node) (calls_begin (noted.notes seen.part).at part.rest run.log part.whole) in
        let births = birthplace_is run.first calls is.sound is.legal node directory in
        let here = seen.born directory in (
          (λ one. births.0 (sym place ∙ here.0 one)),
          (λ birth. here.1 (place ∙ births.1 birth)),
        )

    own_marks : (stamp directory : ℕ) → commit.holds directory ≡ true → commit.mark stamp directory ≤ commit.look.cut directory
    own_marks stamp node holds = by (is_directory (tree_after run.first calls) node) refl
      where
        by : (b : Bool) → is_directory (tree_after run.first calls) node ≡ b → commit.mark stamp node ≤ commit.look.cut node
        by true kind =
            let value = from.seen node holds in
            let le = (gives (caller_of calls stamp) (part_of_stamp stamp)).own_marks node value.0 value.1.seen in
            let mark = from.marks.directories stamp node kind in
            let cut = value.1.cut in omega (arith, le, mark, cut)
        by false kind = let mark = from.marks.held stamp node kind holds in omega (arith, mark)

    pub has_notes : HasNotes run.first calls commit
    has_notes = record {
      early = early;
      stamp = stamped;
      live = live;
      truths = truths;
      unmarked = unmarked;
      noted = is_noted;
      born = born;
      own_marks = own_marks;
    }

pub made_have_notes : MadeHaveNotes
made_have_notes run made is from = has_notes run is made from
