-- The commit of what a core made follows from its look and is made from its notes.
use Rattle.std.proofs.Common.{◌<◌, ◌≤◌, ◌≡◌, if◌then◌else◌, ◌∙◌, ℕ, length, zero, arith, suc, inl, inr, subst, sym, List, true, map, ap, length-append, refl}
use Rattle.sfs_base.specs.Listed.{is_listed}
use Rattle.tree_laws.specs.declared.history.Entry.{Entry}
use Rattle.tree_laws.specs.NameRow.{node_number}
use Rattle.disk_change.specs.Nodes.{enter_node}
use Rattle.cut_laws.proofs.Basics.{below_or}
use Rattle.cut_laws.proofs.Listed.{listed_one}
use Rattle.look_laws.specs.Look.{Look, Touches}
use Rattle.beside_laws.specs.Commits.{CoreCommit, IsByItsLook}
use Rattle.dep_closure.specs.Gathered.{look_of}
use Rattle.flush_plan.specs.Moved.{cuts_after, found_by}
use Rattle.plan_laws.proofs.Moves.{moved_but_root}
use Rattle.stamp_table.specs.Events.{calls_in}
use Rattle.mem_values.specs.declared.cell.Pending.{Pending}
use Rattle.note_laws.specs.Notes.{CoreNotes, calls_noted}
use Rattle.note_laws.specs.Run.{TableRun, IsTableRun, calls_of}
use Rattle.note_laws.specs.Joined.{HasNotedMarks, HasSeen, IsMadeFromNotes}
use Rattle.note_laws.specs.Merged.{mark_noted}
use Rattle.note_laws.proofs.Along.{calls_begin}
use Rattle.note_laws.proofs.Noting.{made_have_notes}
use Rattle.made_laws.specs.Tells.{earliest, commit_made, last_of_seen, IsKnownMade, MadesAreKnown}
use Rattle.made_laws.specs.Made.{CoreMaking, CoreMade, is_concerned, cut_gathered}
use Rattle.made_laws.proofs.There.{touched_there}

-- the earliest note is no later than each, nor than the bound, and no earlier than what is no later than all of them
earliest_each : (noted : CoreNotes) (most count part : ℕ) → part < count → earliest noted most count ≤ length (calls_noted noted part)
earliest_each noted most zero part less = absurd (omega (arith, less))
earliest_each noted most (suc count) part less = elim (below_or part count) [
  | inl before ↦ let low = earliest_each noted most count part before in omega (arith, low)
  | inr behind ↦
      let same : part ≡ count = omega (arith, less, behind) in
      let low : earliest noted most (suc count) ≤ length (calls_noted noted count) = omega arith in
      subst (λ p. earliest noted most (suc count) ≤ length (calls_noted noted p)) (sym same) low
]

earliest_most : (noted : CoreNotes) (most count : ℕ) (stamp : ℕ) → stamp ≤ most
    → ((part : ℕ) → part < count → stamp ≤ length (calls_noted noted part)) → stamp ≤ earliest noted most count
earliest_most noted most zero stamp low all = low
earliest_most noted most (suc count) stamp low all =
    let more = earliest_most noted most count stamp low (λ part less. all part (omega (arith, less))) in
    let here = all count (omega arith) in omega (arith, more, here)

module _ (run : TableRun) (making : CoreMaking) (number : ℕ) (is : IsTableRun run) (made : CoreMade run making) where
  abbrev calls : List Entry
  calls = calls_of run

  abbrev look : Look
  look = look_of (record { 0 = making.noted.node }) (record { 0 = making.noted.stamp }) making.gathered

  abbrev commit : CoreCommit
  commit = commit_made run making made.plans number

  root_inode : Touches look 0 → look.inodes 0 ≡ true
  root_inode touches = made.gathers.root ((made.concern_is.nodes.each 0).1 touches)

  pub by_look : IsByItsLook commit
  by_look = record {
    members = λ node. (
      λ one. (made.concern_is.members.each node).0 ((listed_one (map node_number making.concern.members.items) node).1 one),
      λ gathers. (listed_one (map node_number making.concern.members.items) node).0 ((made.concern_is.members.each node).1 gathers),
    );
    holds = λ node. made.concern_is.nodes.each node;
    makes = record {
      lifts = made.plans.moves.lifts;
      moved = moved_but_root look (cuts_after (record { 0 = making.noted.stamp }) making.gathered making.concern)
          (found_by making.old making.concern.nets.items making.is_file) (is_listed (map enter_node made.plans.enter))
          (is_listed (map node_number making.plan.leave.items)) root_inode made.plans.moves.moved;
    };
    blank = made.gathers.others;
  }

  counts_low : (part : ℕ) → part < length run.first.made → length (calls_noted making.noted part) ≤ length calls
  counts_low part known =
      let one = made.notes.each part known in
      let long = ap length (calls_begin (making.noted.notes part).at one.rest run.log one.whole) in
      let sum = length-append (calls_noted making.noted part) (calls_in one.rest) in omega (arith, long, sum)

  marks_are : HasNotedMarks run (record { noted = making.noted; gathered = making.gathered; commit = commit })
  marks_are = record {
    directories = λ stamp node kind. ap (λ b. if b then mark_noted run making.noted stamp node
        else (if is_concerned making node then cut_gathered making node else length calls)) kind;
    held = λ stamp node kind holds. ap (λ b. if b then mark_noted run making.noted stamp node
        else (if is_concerned making node then cut_gathered making node else length calls)) kind
        ∙ ap (λ b. if b then cut_gathered making node else length calls) holds;
    others = λ stamp node kind holds. ap (λ b. if b then mark_noted run making.noted stamp node
        else (if is_concerned making node then cut_gathered making node else length calls)) kind
        ∙ ap (λ b. if b then cut_gathered making node else length calls) holds;
  }

  seen_there : (node : ℕ) → is_concerned making node ≡ true
      → (value : Pending) × HasSeen run (record { noted = making.noted; gathered = making.gathered; commit = commit }) node value
  seen_there node concerned =
      let value = made.gathers.seen node concerned in
      let there = touched_there run making is made node ((made.concern_is.nodes.each node).0 concerned) in (
        value.0,
        record {
          seen = value.1.seen;
          cut = value.1.cut;
          inode = value.1.inode;
          last = ap last_of_seen value.1.seen;
          born = value.1.born;
          part = there.part;
          known = there.known;
          there = there.there;
        },
      )

  pub from_notes : IsMadeFromNotes run (record { noted = making.noted; gathered = making.gathered; commit = commit })
  from_notes = record {
    some_core = made.some_core;
    has = made.notes;
    merged = made.gathers.merged;
    look = refl;
    by_look = by_look;
    counts = refl;
    early = λ part known. earliest_each making.noted (length calls) (length run.first.made) part known;
    late = λ stamp low. earliest_most making.noted (length calls) (length run.first.made) stamp
        (let first = low 0 made.some_core in let most = counts_low 0 made.some_core in omega (arith, first, most)) low;
    marks = marks_are;
    seen = seen_there;
  }

  pub is_known : IsKnownMade run making commit
  is_known = record {
    from = from_notes;
    notes = made_have_notes run (record { noted = making.noted; gathered = making.gathered; commit = commit }) is from_notes;
  }

pub mades_are_known : MadesAreKnown
mades_are_known run making number is made = is_known run making number is made
