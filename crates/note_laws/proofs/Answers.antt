-- What is known of a commit is so whatever fsyncs were answered.
use Rattle.std.proofs.Common.{◌≡◌, ◌↔◌, ◌∷◌, ◌++◌, ◌∙◌, List, map, subst, sym, true, ℕ, [], refl, ap, filter, fold, length, arith}
use Rattle.mem_files.specs.File.{is_touched, File}
use Rattle.tree_laws.specs.Tree.{TreeState, is_alive, bytes_of}
use Rattle.tree_laws.specs.declared.history.Entry.{Entry}
use Rattle.tree_laws.specs.Changes.{RowChange, FileChange, edits_by, edits_of, is_edit_below}
use Rattle.tree_laws.specs.Sound.{Above}
use Rattle.tree_laws.specs.declared.changes.Change.{Change}
use Rattle.tree_laws.specs.Logged.{logged_by, is_logged_in}
use Rattle.tree_laws.specs.Verdict.{verdict, tree_after_call}
use Rattle.tree_laws.specs.History.{tree_after_entry}
use Rattle.tree_laws.specs.Effect.{edited}
use Rattle.cut_laws.specs.Rules.{IsChange, IsOneOf, IsMove, MovesDirectory}
use Rattle.cut_laws.specs.Closure.{Counts}
use Rattle.look_laws.specs.Look.{Noted}
use Rattle.look_laws.specs.Fit.{IsTrue}
use Rattle.beside_laws.specs.Answers.{asked, ComeToTheSame, Asked}
use Rattle.beside_laws.specs.Commits.{CoreCommit, HasNotes, commit_fsync, RaisedOver}
use Rattle.beside_laws.proofs.Answers.{answers_tell_nothing}
use Rattle.dep_closure.specs.History.{logged_of, IsLogOf}
use Rattle.dep_closure.specs.declared.gathered.DirectoryChanges.{DirectoryChanges}
use Rattle.raise_laws.specs.Next.{IsMountedHistory}
use Rattle.mark_laws.specs.Touched.{IsTouchedBetween, touched_by}
use Rattle.mark_laws.specs.FileAt.{IsFileAt}
use Rattle.mark_laws.proofs.Kept.{longer_histories_keep_files}
use Rattle.stamp_table.specs.Events.{calls_in}
use Rattle.mem_values.proofs.Moves.{legal_front}
use Rattle.home_laws.proofs.Files.{values_are_files}
use Rattle.note_laws.specs.Joined.{KnownWhateverAnswered, AlikeWhateverAnswered, CopiesAreFiles}
use Rattle.note_laws.proofs.Along.{calls_begin}

module _ (first : TreeState) (history other : List Entry) (same : map asked history ≡ map asked other) where
  abbrev alike : ComeToTheSame first history other
  alike = answers_tell_nothing first history other same

  is_change : (change : RowChange) → IsChange first history change → IsChange first other change
  is_change change one = subst (λ l. IsOneOf l change) alike.changes one

  was_change : (change : RowChange) → IsChange first other change → IsChange first history change
  was_change change one = subst (λ l. IsOneOf l change) (sym alike.changes) one

  is_move : (change : RowChange) → IsMove first history change → IsMove first other change
  is_move change move = record {
    is_change = is_change change move.is_change;
    moves = subst (λ (tree : TreeState). MovesDirectory tree change) (alike.trees change.stamp) move.moves;
  }

  was_move : (change : RowChange) → IsMove first other change → IsMove first history change
  was_move change move = record {
    is_change = was_change change move.is_change;
    moves = subst (λ (tree : TreeState). MovesDirectory tree change) (sym (alike.trees change.stamp)) move.moves;
  }

  is_true : (counts : Counts) (noted : Noted) → IsTrue first history counts noted → IsTrue first other counts noted
  is_true counts noted true_there = record {
    is_change = is_change noted.change true_there.is_change;
    counted = true_there.counted;
    told = λ above move stands. true_there.told above (was_move noted.change move)
        (subst (λ (tree : TreeState). Above tree noted.change.directory above) (sym (alike.trees noted.change.stamp)) stands);
    moves = λ node one. is_move noted.change (true_there.moves node one);
    stands = λ node one. subst (λ (tree : TreeState). Above tree noted.change.directory noted.above) (alike.trees noted.change.stamp)
        (true_there.stands node one);
  }

  has_notes : (commit : CoreCommit) → HasNotes first history commit → HasNotes first other commit
  has_notes commit notes = record {
    early = notes.early;
    stamp = notes.stamp;
    live = subst (λ (tree : TreeState). is_alive tree (commit_fsync commit).node ≡ true) (alike.trees (commit_fsync commit).stamp) notes.live;
    truths = λ noted one. is_true commit.counts noted (notes.truths noted one);
    unmarked = notes.unmarked;
    noted = λ change one. notes.noted change (was_change change one);
    born = λ node directory touched.
        subst (λ births. IsOneOf commit.look.born (record { node = node; directory = directory }) ↔
        ((stamp : ℕ) × IsOneOf births (record { stamp = stamp; directory = directory; node = node }))) alike.births (notes.born node directory touched);
    own_marks = notes.own_marks;
  }

  raised_over : (commit : CoreCommit) (directory stamp : ℕ) → RaisedOver first history commit directory stamp → RaisedOver first other commit directory stamp
  raised_over commit directory stamp raised = record {
    made = raised.made;
    notes = has_notes commit raised.notes;
    held = raised.held;
    from = raised.from;
    over = raised.over;
  }

pub known_whatever_answered : KnownWhateverAnswered
known_whatever_answered progress history commit same known = record {
  made = known.made;
  notes = has_notes progress.first progress.history history same commit known.notes;
  ruled = record {
    earlier = known.ruled.earlier;
    trimmed = known.ruled.trimmed;
    reached = λ change one less.
        let there = known.ruled.reached change (was_change progress.first progress.history history same change one) less in
        (there.0, raised_over progress.first progress.history history same there.0 change.directory change.stamp there.1, there.2);
  };
  fresh = known.fresh;
}

logged_asked : TreeState → List Asked → List Change
logged_asked first [] = []
logged_asked first (one ∷ rest) =
    logged_by first one.core.0 one.stamp.0 (verdict first one.core.0 one.call).effect (verdict first one.core.0 one.call).makes
    ++ logged_asked (tree_after_call first one.core.0 one.call) rest

logged_is : (first : TreeState) (history : List Entry) → logged_of first history ≡ logged_asked first (map asked history)
unfolding logged_asked
logged_is first [] = refl
logged_is first (entry ∷ history) =
    ap (λ l. logged_by first entry.core.0 entry.stamp.0 (verdict first entry.core.0 entry.call).effect (verdict first entry.core.0 entry.call).makes ++ l)
    (logged_is (tree_after_entry first entry) history)

edits_asked : TreeState → List Asked → List FileChange
edits_asked first [] = []
edits_asked first (one ∷ rest) =
    edits_by one.stamp.0 (verdict first one.core.0 one.call).effect ++ edits_asked (tree_after_call first one.core.0 one.call) rest

edits_are : (first : TreeState) (history : List Entry) → edits_of first history ≡ edits_asked first (map asked history)
unfolding edits_asked
edits_are first [] = refl
edits_are first (entry ∷ history) =
    ap (λ l. edits_by entry.stamp.0 (verdict first entry.core.0 entry.call).effect ++ l) (edits_are (tree_after_entry first entry) history)

module _ (first : TreeState) (history other : List Entry) (same : map asked history ≡ map asked other) where
  same_logged : logged_of first history ≡ logged_of first other
  same_logged = logged_is first history ∙ ap (logged_asked first) same ∙ sym (logged_is first other)

  same_edits : edits_of first history ≡ edits_of first other
  same_edits = edits_are first history ∙ ap (edits_asked first) same ∙ sym (edits_are first other)

  same_log : (counts : Counts) (log : DirectoryChanges) → IsLogOf first history counts log → IsLogOf first other counts log
  same_log counts log is = record {
    keeps = is.keeps;
    counted = is.counted;
    changes = is.changes
        ∙ ap (λ l. filter (λ change. is.keeps change.stamp.0) (filter (is_logged_in log.dir.0) l)) same_logged;
  }

  -- what a file is by the edits of a history
  abbrev bytes_by : List FileChange → ℕ → ℕ → List ℕ
  bytes_by edits node stamp =
      fold (λ bytes change. edited change.edit bytes) (bytes_of first node) (filter (is_edit_below node stamp) edits)

  touched_still : (node since below block : ℕ) (history other : List Entry) → edits_of first history ≡ edits_of first other
      → IsTouchedBetween first history node since below block → IsTouchedBetween first other node since below block
  touched_still node since below block history other edits touched = record {
    change = touched.change;
    among = subst (λ l. IsOneOf l touched.change) edits touched.among;
    own = touched.own;
    since = touched.since;
    below = touched.below;
    touches = subst (λ l. is_touched (touched_by touched.change.edit (length (bytes_by l node touched.change.stamp))) block ≡ true) edits touched.touches;
  }

  same_file : (node stamp : ℕ) (file : File) → IsFileAt first history node stamp file → IsFileAt first other node stamp file
  same_file node stamp file is = record {
    bytes = is.bytes ∙ ap (λ l. bytes_by l node stamp) same_edits;
    marks = λ since block. (
      (λ marked. touched_still node since stamp block history other same_edits ((is.marks since block).0 marked)),
      (λ touched. (is.marks since block).1 (touched_still node since stamp block other history (sym same_edits) touched)),
    );
  }

pub alike_whatever_answered : AlikeWhateverAnswered
alike_whatever_answered first history other same = record { logs = same_log first history other same; files = same_file first history other same }

pub copies_are_files : CopiesAreFiles
copies_are_files run copied mounted =
    let whole = calls_begin copied.at copied.rest run.log copied.whole in
    let longer : IsMountedHistory run.first (calls_in copied.at ++ calls_in copied.rest) = subst (IsMountedHistory run.first) (sym whole) mounted in
    let begun : IsMountedHistory run.first (calls_in copied.at) =
    record {
      sound = longer.sound;
      limits = longer.limits;
      alive = longer.alive;
      legal = legal_front run.first 0 (calls_in copied.at) (calls_in copied.rest) longer.legal;
    } in
    subst (λ l. IsFileAt run.first l copied.node (length (calls_in copied.at)) copied.value.file) whole
    (longer_histories_keep_files run.first (calls_in copied.at) (calls_in copied.rest) copied.node (length (calls_in copied.at)) copied.value.file longer
    (omega arith) (values_are_files run.first (calls_in copied.at) copied.node copied.value begun copied.stands))
