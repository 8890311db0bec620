-- What a core made so far it made so in each run that goes on from there.
use Rattle.std.proofs.Common.{◌++◌, ◌≡◌, ◌∙◌, ◌+◌, List, sym, append_assoc, ap, refl, ℕ, arith, subst, length}
use Rattle.tree_laws.specs.History.{IsLegal, tree_after}
use Rattle.tree_laws.specs.Tree.{is_directory}
use Rattle.tree_laws.specs.declared.history.Entry.{Entry}
use Rattle.disk_change.specs.declared.files.FileChange.{FileChange}
use Rattle.cut_laws.specs.Closure.{Flush}
use Rattle.cut_laws.proofs.Along.{nodes_at, first_nodes}
use Rattle.cut_laws.proofs.Prefixes.{live_node}
use Rattle.stamp_table.specs.declared.event.Event.{Event}
use Rattle.stamp_table.specs.Events.{calls_in}
use Rattle.mem_values.specs.declared.fact.Fact.{Fact}
use Rattle.mem_values.specs.Facts.{HasFsync}
use Rattle.mem_values.proofs.Moves.{tree_after-append, sound_after, legal_front, legal_behind}
use Rattle.home_laws.specs.Laws.{IsNodeOf}
use Rattle.note_laws.specs.Run.{TableRun, IsTableRun, calls_of}
use Rattle.note_laws.specs.Notes.{IsNotedPart}
use Rattle.note_laws.proofs.Along.{legal_begin, calls_begin}
use Rattle.note_laws.proofs.There.{live_there}
use Rattle.made_laws.specs.Made.{HasMadeFile, too_late, in_copy, CoreMaking, run_on, CoreMade, IsMadeOfCopy, MadesGoOn, making_flush, cut_gathered, OwnFileMaking, OwnFileMade, OwnFileChanges, own_flush, OwnsGoOn, OwnMade, MakingsGoOn, of_notes, of_file}

module _ (run : TableRun) (more : List (Event Fact)) (is : IsTableRun (run_on run more)) where
  abbrev after : TableRun
  after = run_on run more

  -- what was a beginning is one of the longer log
  pub begins_later : (at rest : List (Event Fact)) → at ++ rest ≡ run.log → at ++ (rest ++ more) ≡ after.log
  begins_later at rest whole = sym (append_assoc at rest more) ∙ ap (λ log. log ++ more) whole

  pub legal_then : IsLegal run.first (calls_of run)
  legal_then = legal_begin run.first run.log more after.log refl is.legal

  pub kinds_on : (node : ℕ) (calls rest all : List Entry) → calls ++ rest ≡ all → IsLegal run.first all → IsNodeOf (tree_after run.first calls) node
      → is_directory (tree_after run.first all) node ≡ is_directory (tree_after run.first calls) node
  kinds_on node calls rest all whole legal there =
      subst (λ l. is_directory (tree_after run.first l) node ≡ is_directory (tree_after run.first calls) node) whole
      (subst (λ tree. is_directory tree node ≡ is_directory (tree_after run.first calls) node)
      (sym (tree_after-append run.first calls rest))
      (first_nodes (tree_after run.first calls) rest (0 + length calls)
      (sound_after run.first 0 calls is.sound (legal_front run.first 0 calls rest (subst (IsLegal run.first) (sym whole) legal)))
      (legal_behind run.first 0 calls rest (subst (IsLegal run.first) (sym whole) legal)) node there).1)

  -- the node of an fsync that waits was there, so it keeps its kind
  own_kind : (core node stamp : ℕ) (at rest : List (Event Fact)) → at ++ rest ≡ run.log → HasFsync (calls_in at) core node stamp
      → is_directory (tree_after run.first (calls_of after)) node ≡ is_directory (tree_after run.first (calls_of run)) node
  own_kind core node stamp at rest whole stamped =
      let legal_at = legal_begin run.first at rest run.log whole legal_then in
      let live = live_there run.first at core node stamp legal_at stamped in
      let there = (nodes_at run.first (calls_in at) stamp is.sound legal_at node
      (live_node run.first (calls_in at) is.sound legal_at (record { node = node; stamp = stamp }) live stamp (omega arith))).0 in
      let now = kinds_on node (calls_in at) (calls_in rest) (calls_of run) (calls_begin at rest run.log whole) legal_then there in
      let later = kinds_on node (calls_in at) (calls_in (rest ++ more)) (calls_of after)
      (calls_begin at (rest ++ more) after.log (begins_later at rest whole)) is.legal there in later ∙ sym now

  copy_later : (flush : Flush) (cut : ℕ) (change : FileChange) → IsMadeOfCopy run flush cut change → IsMadeOfCopy after flush cut change
  copy_later flush cut change copy = record {
    copied = record {
      at = copy.copied.at;
      rest = copy.copied.rest ++ more;
      whole = begins_later copy.copied.at copy.copied.rest copy.copied.whole;
      node = copy.copied.node;
      value = copy.copied.value;
      stands = copy.copied.stands;
    };
    own = copy.own;
    drawn = copy.drawn;
    is = copy.is;
  }

module _ (run : TableRun) (more : List (Event Fact)) (making : CoreMaking) (is : IsTableRun (run_on run more)) (made : CoreMade run making) where
  abbrev then : TableRun
  then = run_on run more

  part_later : (part : ℕ) → IsNotedPart run making.noted part → IsNotedPart then making.noted part
  part_later part one = record {
    rest = one.rest ++ more;
    whole = begins_later run more is (making.noted.notes part).at one.rest one.whole;
    stamped = one.stamped;
    left = one.left;
    marks = one.marks;
    stands = one.stands;
  }

  kind_later : is_directory (tree_after run.first (calls_of then)) making.noted.node ≡ is_directory (tree_after run.first (calls_of run)) making.noted.node
  kind_later =
      let part = made.notes.each 0 made.some_core in
      own_kind run more is making.noted.core making.noted.node making.noted.stamp (making.noted.notes 0).at part.rest part.whole part.stamped

  file_later : HasMadeFile run making → HasMadeFile then making
  file_later (HasMadeFile.directory kind is_file none) = HasMadeFile.directory (kind_later ∙ kind) is_file none
  file_later (too_late kind is_file none late) = too_late (kind_later ∙ kind) is_file none late
  file_later (in_copy change kind is_file some copy) =
      in_copy change (kind_later ∙ kind) is_file some (copy_later run more is (making_flush making) (cut_gathered making making.noted.node) change copy)

  pub goes_on : CoreMade then making
  goes_on = record {
    some_core = made.some_core;
    notes = record { as_many = made.notes.as_many; each = λ part known. part_later part (made.notes.each part known) };
    gathers = made.gathers;
    concern_is = made.concern_is;
    old_is = made.old_is;
    file_is = file_later made.file_is;
    plans = made.plans;
  }

module _ (run : TableRun) (more : List (Event Fact)) (own : OwnFileMaking) (is : IsTableRun (run_on run more)) (made : OwnFileMade run own) where
  changes_later : OwnFileChanges run own → OwnFileChanges (run_on run more) own
  changes_later (OwnFileChanges.too_late none late) = OwnFileChanges.too_late none late
  changes_later (OwnFileChanges.in_copy change some early copy) =
      OwnFileChanges.in_copy change some early (copy_later run more is (own_flush own) own.value.cut.0 change copy)

  pub own_goes_on : OwnFileMade (run_on run more) own
  own_goes_on = record {
    at = made.at;
    rest = made.rest ++ more;
    whole = begins_later run more is made.at made.rest made.whole;
    stamped = made.stamped;
    stands = made.stands;
    is_file = own_kind run more is own.core own.node own.stamp made.at made.rest made.whole made.stamped ∙ made.is_file;
    has = made.has;
    changes = changes_later made.changes;
  }

pub mades_go_on : MadesGoOn
mades_go_on run more making is made = goes_on run more making is made

pub owns_go_on : OwnsGoOn
owns_go_on run more own is made = own_goes_on run more own is made

-- And so it is in the words of what it makes for any fsync.
abbrev pub alone_goes_on : (run : TableRun) (more : List (Event Fact)) (making : CoreMaking) → IsTableRun (run_on run more) → OwnMade run making
    → OwnMade (run_on run more) making
alone_goes_on run more making is one = record {
  own = one.own;
  made = owns_go_on run more one.own is one.made;
  core_is = one.core_is;
  flush_is = one.flush_is;
  no_parts = one.no_parts;
  concerns = one.concerns;
  members_are = one.members_are;
  saw = one.saw;
  old_is = one.old_is;
  change_is = one.change_is;
}

pub makings_go_on : MakingsGoOn
makings_go_on run more making is (of_notes made) = of_notes (mades_go_on run more making is made)
makings_go_on run more making is (of_file one) = of_file (alone_goes_on run more making is one)
