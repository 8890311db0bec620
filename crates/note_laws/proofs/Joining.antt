-- A commit that is made from notes is ruled by those that are done, and saw what they left.
use Rattle.std.specs.FinMap.{get}
use Rattle.std.proofs.Common.{◌<◌, ◌≡◌, ◌≤◌, List, ℕ, length, Some, true, arith, refl, Bool, false, subst, inl, inr, is_some, sym}
use Rattle.sfs_base.proofs.BasicTruth.{not_both}
use Rattle.tree_laws.specs.declared.history.Entry.{Entry}
use Rattle.tree_laws.specs.Tree.{is_directory}
use Rattle.tree_laws.specs.History.{tree_after}
use Rattle.tree_laws.specs.Changes.{RowChange}
use Rattle.cut_laws.specs.Rules.{IsOneOf, IsChange}
use Rattle.cut_laws.specs.Cut.{Cut}
use Rattle.look_laws.specs.Look.{Touches}
use Rattle.beside_laws.specs.Commits.{CoreCommit, Share, commit_fsync, IsByItsLook, RaisedOver, HasNotes}
use Rattle.beside_laws.specs.Progress.{HasLeft, KnownAtReserving}
use Rattle.beside_laws.specs.Box.{KnewLast}
use Rattle.mem_values.specs.Account.{Account, account_of, Commitment, held_by}
use Rattle.mem_values.specs.declared.fact.HeldNode.{HeldNode}
use Rattle.mem_values.specs.Stands.{flushed_in, Flushed}
use Rattle.mem_values.proofs.Basics.{is_value, some_of}
use Rattle.mem_values.proofs.Writers.{commits_have_fsyncs}
use Rattle.note_laws.specs.Joined.{Reserving, MayReserve, NotesOrFiles, progress_at, JoinsGive}
use Rattle.note_laws.specs.Run.{TableRun, calls_of, TellsCommit, IsToldIn, WroteNode}
use Rattle.note_laws.specs.Notes.{CoreNotes, NotesGive, IsBehind, IsNotedPart, RaisesOver}
use Rattle.note_laws.specs.Merged.{caller_of}
use Rattle.note_laws.proofs.Noting.{caller_known, directory_of, made_have_notes}
use Rattle.note_laws.proofs.Enough.{notes_are_enough}
use Rattle.note_laws.proofs.Saws.{told_one, saws_are_left}
use Rattle.note_laws.proofs.Along.{stamp_within, tells_on, told_once}

module _ (at : Reserving) (may : MayReserve at) where
  abbrev run : TableRun
  run = at.run

  abbrev calls : List Entry
  calls = calls_of run

  abbrev noted : CoreNotes
  noted = at.made.noted

  abbrev commit : CoreCommit
  commit = at.made.commit

  abbrev account : Account
  account = account_of run.log

  part_known : (stamp : ℕ) → caller_of calls stamp < length run.first.made
  part_known stamp = caller_known run may.table may.notes.some_core stamp

  gives : (part : ℕ) → part < length run.first.made → NotesGive run noted part
  gives part known = notes_are_enough run noted part may.table known (may.notes.has.each part known)

  -- what a told commit holds of a node
  abbrev Holding : Commitment → ℕ → Type 0
  Holding told node = (held : HeldNode) × (held_by told node ≡ Some held)

  holding : (other : CoreCommit) (told : Commitment) (node : ℕ) → TellsCommit run other told → other.holds node ≡ true → Holding told node
  holding other told node tells holds = is_value (held_by told node) ((tells.holds node).0 holds)

  -- one that is done and holds a node of the commit is behind it
  behind_at : (other : CoreCommit) (told : Commitment) (node : ℕ) → IsOneOf at.box.done other → TellsCommit run other told → commit.holds node ≡ true
      → other.holds node ≡ true → IsBehind noted told
  behind_at other told node one tells mine theirs =
      let value = may.notes.seen node mine in
      let held = holding other told node tells theirs in
      record {
        node = node;
        value = value.0;
        theirs = held.0;
        seen = value.1.seen;
        holds = held.1;
        known =
            let le = may.box_knows.gives.known other node one mine theirs in
            let number = tells.number in
            let last = value.1.last in omega (arith, le, number, last);
      }

  earlier : (other : CoreCommit) → IsOneOf at.box.done other → Share commit other → (commit_fsync other).stamp ≤ commit.late
  earlier other one share =
      let told = may.box_knows.told other one in
      let behind = behind_at other told.0 share.node one told.1 share.one share.two in
      may.notes.late (commit_fsync other).stamp (λ part known.
      let less = (gives part known).late_others told.0 (told_one run.log told.0 told.1.there) behind in
      let stamp = told.1.stamp in omega (arith, less, stamp))

  -- what a member's cut is lifted to is its commit's stamp at least
  member_lifted : (other : CoreCommit) → IsByItsLook other → (node : ℕ) → IsOneOf other.members node → (commit_fsync other).stamp ≤ other.makes.lifted node
  member_lifted other by_look node member =
      let lifted = by_look.makes.lifts.members node ((by_look.members node).0 member) in omega (arith, lifted)

  member_held : (other : CoreCommit) → IsByItsLook other → (node : ℕ) → IsOneOf other.members node → other.holds node ≡ true
  member_held other by_look node member = (by_look.holds node).1 (Touches.member node ((by_look.members node).0 member))

  trimmed : (other : CoreCommit) → IsOneOf at.box.done other → Share commit other → (stamp node : ℕ) → IsOneOf other.members node
      → (commit_fsync other).stamp ≤ commit.mark stamp node
  unfolding behind_at
  trimmed other one share stamp node member = by (is_directory (tree_after run.first calls) node) refl (commit.holds node) refl
    where
      told : (told : Commitment) × TellsCommit run other told
      told = may.box_knows.told other one

      among : IsOneOf account.commits told.0
      among = told_one run.log told.0 told.1.there

      by_look : IsByItsLook other
      by_look = may.all_of.by_look other (may.box_knows.among other one)

      by : (b : Bool) → is_directory (tree_after run.first calls) node ≡ b → (h : Bool) → commit.holds node ≡ h
          → (commit_fsync other).stamp ≤ commit.mark stamp node
      by true kind h holds =
          let behind = behind_at other told.0 share.node one told.1 share.one share.two in
          let le = (gives (caller_of calls stamp) (part_known stamp)).trimmed told.0 node among behind (told.1.members node member kind) in
          let mark = may.notes.marks.directories stamp node kind in
          let same = told.1.stamp in omega (arith, le, mark, same)
      by false kind true holds =
          let held = member_held other by_look node member in
          let behind = behind_at other told.0 node one told.1 holds held in
          let le = (gives 0 may.notes.some_core).cuts told.0 among behind in
          let lifted = (told.1.wrote node behind.theirs behind.holds).lifted in
          let cut = (may.notes.seen node holds).1.cut in
          let mark = may.notes.marks.held stamp node kind holds in
          let high = member_lifted other by_look node member in omega (arith, le, lifted, cut, mark, high)
      by false kind false holds =
          let fsync = commits_have_fsyncs run.given run.first run.log told.0 may.table.lawful among in
          let less = stamp_within run.first calls fsync.entry may.table.legal fsync.among in
          let own = fsync.stamped in
          let same = told.1.stamp in
          let mark = may.notes.marks.others stamp node kind holds in omega (arith, less, own, same, mark)

  reached : (change : RowChange) → IsChange run.first calls change → change.stamp < commit.mark change.stamp change.directory
      → (other : CoreCommit) × RaisedOver run.first calls other change.directory change.stamp × (Share commit other → IsOneOf at.box.done other)
  reached change is_change less =
      (other, record { made = may.all_of.by_look other told.1; notes = by_notes (may.all_of.notes other told.1); held = held; from = from; over = over }, done)
    where
      node : ℕ
      node = change.directory

      part : ℕ
      part = caller_of calls change.stamp

      has : IsNotedPart run noted part
      has = may.notes.has.each part (part_known change.stamp)

      kind : is_directory (tree_after run.first calls) node ≡ true
      kind = directory_of run may.table change is_change

      raises : RaisesOver run.given (noted.notes part).at node change.stamp
      raises = (gives part (part_known change.stamp)).reached node change.stamp
          (subst (λ m. change.stamp < m) (may.notes.marks.directories change.stamp node kind) less)

      there : IsToldIn run.log raises.commit
      there = tells_on (noted.notes part).at has.rest run.log raises.commit has.whole raises.told

      told : (commit : CoreCommit) × IsOneOf at.all commit × TellsCommit run commit raises.commit
      told = may.all_of.told raises.commit (told_one run.log raises.commit there)

      other : CoreCommit
      other = told.0

      held : other.holds node ≡ true
      held = (told.2.holds node).1 (some_of (held_by raises.commit node) raises.theirs raises.holds)

      by_notes : NotesOrFiles run other → HasNotes run.first calls other
      by_notes (inl notes) = notes
      by_notes (inr files) = absurd (not_both kind (files node held))

      wrote : WroteNode run.given (account_of told.2.there.before) other node raises.theirs
      wrote = told.2.wrote node raises.theirs raises.holds

      same_before : raises.told.before ≡ told.2.there.before
      same_before = told_once run.given run.first run.log raises.commit may.table.lawful there told.2.there

      from : other.look.cut node ≤ change.stamp
      from =
          let low = subst (λ l. (flushed_in run.given (account_of l) node).cut ≤ change.stamp) same_before raises.from in
          let saw = wrote.saw in omega (arith, low, saw)

      over : change.stamp < other.makes.lifted node
      over = let high = raises.over in let lifted = wrote.lifted in omega (arith, high, lifted)

      among : IsOneOf (account_of (noted.notes part).at).commits raises.commit
      among = told_one (noted.notes part).at raises.commit raises.told

      done : Share commit other → IsOneOf at.box.done other
      done share =
          let value = may.notes.seen share.node share.one in
          let theirs = holding other raises.commit share.node told.2 share.two in
          let le = (gives part (part_known change.stamp)).knew raises.commit share.node value.0 theirs.0 among value.1.seen theirs.1 in
          let number = told.2.number in
          let last = value.1.last in
          may.box_knows.gives.behind other share.node told.1 share.one share.two (omega (arith, le, number, last))

  saw : (node : ℕ) → commit.holds node ≡ true
      → HasLeft at.box.done node (is_some (get run.first.nodes node)) (record { stamp = commit.look.cut node; inode = commit.look.inodes node })
  saw node holds =
      let value = may.notes.seen node holds in
      let part = may.notes.has.each 0 may.notes.some_core in
      let seen : Flushed = record { cut = value.0.cut.0; last = value.0.last; old = value.0.old } in
      let left =
      saws_are_left run at.box.done node seen may.table (record {
        at = (noted.notes 0).at;
        rest = part.rest;
        whole = part.whole;
        saw = (part.stands node value.0 value.1.seen).flushed;
        told = may.box_knows.told;
        knew = subst (KnewLast at.box.done node) value.1.last (may.box_knows.unmoved.knew node holds);
      }) in
      subst (HasLeft at.box.done node (is_some (get run.first.nodes node)))
      (λ i. record { stamp = sym value.1.cut i; inode = sym value.1.inode i }) left.1

  pub known : (cut : Cut) (inodes : ℕ → Bool) → KnownAtReserving (progress_at at cut inodes) commit
  known cut inodes = record {
    made = may.notes.by_look;
    notes = made_have_notes run at.made may.table may.notes;
    ruled = record { earlier = earlier; trimmed = trimmed; reached = reached };
    fresh = saw;
  }

pub joins_give : JoinsGive
joins_give at cut inodes may = known at may cut inodes
