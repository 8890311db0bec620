-- What a core made for the fsync of a file that has an inode tells of its pair.
use Rattle.std.specs.FinMap.{get, FinMap}
use Rattle.std.proofs.Common.{◌≡◌, ◌<◌, ◌≤◌, ◌∙◌, ◌≢◌, ◌↔◌, if◌then◌else◌, ◌∷◌, ◌||◌, List, ap, subst, is_some, false, length, arith, length-append, take, sym, true, ℕ, inl, inr, refl, map, nat_eq, Bool, eqb-true, max, [], filter}
use Rattle.std.proofs.lemmas.List.{take-append-le}
use Rattle.sfs_base.proofs.BasicNumbers.{same_number}
use Rattle.sfs_base.proofs.BasicTruth.{not_both, true_not_false, false_not_true}
use Rattle.tree_laws.specs.Tree.{TreeState, is_directory, is_alive}
use Rattle.tree_laws.specs.History.{tree_after, IsLegal}
use Rattle.tree_laws.specs.Order.{key_cmp}
use Rattle.tree_laws.specs.Changes.{RowChange}
use Rattle.tree_laws.proofs.RowFacts.{alive_named, named_alive}
use Rattle.disk_nodes.specs.declared.old.OldEntry.{OldEntry}
use Rattle.cut_laws.specs.Cut.{cut_of, rows_at_cut}
use Rattle.cut_laws.specs.Closure.{HasLiveNode, IsNamedIn, every_entry}
use Rattle.cut_laws.specs.Rules.{IsOneOf, Birth, births_of}
use Rattle.cut_laws.proofs.MemberKinds.{root_directory}
use Rattle.look_laws.specs.Look.{Noted, member, itself}
use Rattle.beside_laws.specs.Commits.{CoreCommit}
use Rattle.beside_laws.specs.OwnFile.{own_commit, noted_alone, born_at}
use Rattle.beside_laws.specs.Progress.{HasLeft}
use Rattle.beside_laws.specs.Box.{KnewLast}
use Rattle.beside_laws.proofs.Ruled.{left_once}
use Rattle.beside_laws.proofs.Answers.{answers_tell_nothing}
use Rattle.flush_laws.specs.Volume.{Volume, tree_held}
use Rattle.flush_plan.specs.Touched.{IsFileChange}
use Rattle.mark_laws.specs.FileAt.{IsFileAt}
use Rattle.book_laws.specs.Imagined.{entries_once}
use Rattle.book_laws.specs.Pairs.{run_with, Pair, commit_under}
use Rattle.book_laws.specs.Walk.{brought_under}
use Rattle.book_laws.proofs.Kept.{entries_are_kept}
use Rattle.reserve_laws.specs.OwnFile.{ChangesOwn, in_time, OwnMaking, MakesOwnFile}
use Rattle.reserve_laws.specs.Olds.{IsKeptIn, DoneBeside, AreDoneBeside}
use Rattle.reserve_laws.specs.Fits.{TellsPair, by_own}
use Rattle.reserve_laws.proofs.Olds.{olds_are_left}
use Rattle.reserve_laws.proofs.OwnFile.{open_own}
use Rattle.stamp_table.specs.Events.{calls_in}
use Rattle.mem_values.specs.Stands.{Flushed}
use Rattle.note_laws.specs.Run.{TableRun, SawNode, calls_of, IsTableRun, AreToldIn}
use Rattle.note_laws.specs.Joined.{BoxKnows}
use Rattle.note_laws.proofs.Along.{stamp_within, legal_begin, calls_begin}
use Rattle.note_laws.proofs.Saws.{saws_are_left}
use Rattle.note_laws.proofs.There.{live_there}
use Rattle.made_laws.specs.Made.{OwnFileMaking, own_flush, OwnFileChanges, OwnFileMade}
use Rattle.made_laws.specs.Own.{namings_past, are_none, commit_of_own}
use Rattle.tell_laws.specs.Tells.{OwnPlace, OwnThere, done_there, making_own, box_there, OwnsTell, IsVolumeThere}
use Rattle.tell_laws.specs.Kept.{TellsDisk}
use Rattle.tell_laws.proofs.Kept.{saws_are_kept}
use Rattle.tell_laws.proofs.Telling.{same_tree, as_long, copy_there}

-- What is known of an own file's fsync at a place, whatever its pair is: what the core made, and the commits that are done there, of which it knew the last
-- one.
pub record OwnKnown (run : TableRun) (own : OwnFileMaking) (beside : DoneBeside) : Type 0 where
  pub table : IsTableRun run
  pub made : OwnFileMade run own
  pub told : AreToldIn run (map (commit_under beside.pairs) beside.done)
  pub knew : KnewLast (map (commit_under beside.pairs) beside.done) own.node own.value.last
  pub disk : TellsDisk run beside
  pub done : AreDoneBeside beside
  pub volume : IsVolumeThere run beside.volume (map (commit_under beside.pairs) beside.done)

module _ (run : TableRun) (own : OwnFileMaking) (beside : DoneBeside) (is : OwnKnown run own beside) where
  abbrev volume : Volume
  volume = beside.volume

  abbrev done : List CoreCommit
  done = map (commit_under beside.pairs) beside.done

  abbrev seen : Flushed
  seen = record { cut = own.value.cut.0; last = own.value.last; old = own.value.old }

  saw : SawNode run done own.node seen
  saw = record {
    at = is.made.at;
    rest = is.made.rest;
    whole = is.made.whole;
    saw = is.made.stands.flushed;
    told = is.told;
    knew = is.knew;
  }

  pub left : (own.value.cut.0 ≡ cut_of volume.cut own.node) × (is_some own.value.old ≡ volume.inodes own.node)
  left =
      left_once done own.node (is_some (get run.first.nodes own.node))
      (record { stamp = own.value.cut.0; inode = is_some own.value.old })
      (record { stamp = cut_of volume.cut own.node; inode = volume.inodes own.node }) is.volume.standing.numbered
      (saws_are_left run done own.node seen is.table saw).1
      (subst (λ (first : TreeState). HasLeft done own.node (is_some (get first.nodes own.node))
      (record { stamp = cut_of volume.cut own.node; inode = volume.inodes own.node })) is.volume.first (is.volume.standing.left own.node))

  same_tree_there : tree_after run.first (calls_of run) ≡ tree_after volume.first volume.history
  same_tree_there = same_tree run volume done is.table is.volume

  is_file : is_directory (tree_after volume.first volume.history) own.node ≡ false
  is_file = subst (λ tree. is_directory tree own.node ≡ false) same_tree_there is.made.is_file

  legal_at : IsLegal run.first (calls_in is.made.at)
  legal_at = legal_begin run.first is.made.at is.made.rest run.log is.made.whole is.table.legal

  stamped_low : own.stamp < length (calls_in is.made.at)
  stamped_low =
      let within = stamp_within run.first (calls_in is.made.at) is.made.stamped.entry legal_at is.made.stamped.among in
      let same = is.made.stamped.stamped in omega (arith, within, same)

  low : own.stamp ≤ length volume.history
  low =
      let within = stamped_low in
      let long = ap length (calls_begin is.made.at is.made.rest run.log is.made.whole) in
      let sum = length-append (calls_in is.made.at) (calls_in is.made.rest) in
      let same = as_long (calls_of run) volume.history is.volume.asks in omega (arith, within, long, sum, same)

  live : HasLiveNode volume.first volume.history (own_flush own)
  live =
      let before = live_there run.first is.made.at own.core own.node own.stamp legal_at is.made.stamped in
      let whole = calls_begin is.made.at is.made.rest run.log is.made.whole in
      let front : take own.stamp (calls_of run) ≡ take own.stamp (calls_in is.made.at) =
      ap (take own.stamp) (sym whole)
      ∙ take-append-le own.stamp (calls_in is.made.at) (calls_in is.made.rest) (let less = stamped_low in omega (arith, less)) in
      subst (λ (first : TreeState). is_alive (tree_after first (take own.stamp volume.history)) own.node ≡ true) (sym is.volume.first)
      (subst (λ tree. is_alive tree own.node ≡ true)
      ((answers_tell_nothing run.first (calls_of run) volume.history is.volume.asks).trees own.stamp)
      (subst (λ calls. is_alive (tree_after run.first calls) own.node ≡ true) (sym front) before))

  no_root : own.node ≢ 0
  no_root same =
      not_both
      (root_directory volume.first volume.history is.volume.stands.between.history_is.sound is.volume.stands.between.history_is.legal)
      (subst (λ n. is_directory (tree_after volume.first volume.history) n ≡ false) same is_file)

  abbrev rows : FinMap key_cmp ℕ
  rows = rows_at_cut volume.first volume.history volume.cut

  is_named : (is_alive (tree_held volume) own.node ≡ true) ↔ IsNamedIn rows own.node
  is_named = (
    λ alive. elim (alive_named (tree_held volume) own.node alive) [
      | inl root ↦ absurd (no_root root)
      | inr named ↦ record { directory = named.directory; name = named.name; row = named.row }
    ],
    λ named. named_alive (tree_held volume) own.node (record { directory = named.directory; name = named.name; row = named.row }),
  )

  changes : OwnFileChanges run own → ChangesOwn volume (own_flush own) own.files
  changes (OwnFileChanges.too_late none late) =
      subst (ChangesOwn volume (own_flush own)) (sym none) (ChangesOwn.too_late (subst (λ cut. own.stamp < cut) left.0 late))
  changes (OwnFileChanges.in_copy change some early copy) =
      subst (ChangesOwn volume (own_flush own)) (sym some)
      (in_time copy.copied.value.file change (subst (λ cut. cut ≤ own.stamp) left.0 early)
      (subst (λ (p : ℕ × ℕ). IsFileAt volume.first volume.history p.0 p.1 copy.copied.value.file) (λ i. (copy.own i, copy.drawn i))
      (copy_there run volume done is.table is.volume copy.copied))
      (subst (λ cut. IsFileChange (record { 0 = own.node }) cut copy.copied.value.file change) left.0 copy.is))

  abbrev entries : List OldEntry
  entries = entries_once (brought_under beside.pairs beside.done) beside.entries

  kept_in : IsKeptIn entries own.node own.value.old
  kept_in = olds_are_left beside own.node own.value.old is.done (saws_are_kept run beside own.node seen is.table is.disk saw)

  pub makes : (number : ℕ) → MakesOwnFile volume done (making_own volume own number)
  makes number = record {
    stands = is.volume.stands;
    short = is.volume.short;
    standing = is.volume.standing;
    is_own = record { live = live; file = is_file; has = sym left.1 ∙ ap is_some is.made.has; named = is_named };
    low = low;
    entry_is = record {
      entries = entries;
      keeps = entries_are_kept beside.start volume (brought_under beside.pairs beside.done) beside.entries is.done.keeps is.done.imagines;
      there = (kept_in own.kept).0 is.made.has;
      own = refl;
    };
    changes = changes is.made.changes;
  }

  -- the commit by what the core saw of the file is the one by its look there
  same_cut : (node : ℕ) → (if nat_eq node own.node then own.value.cut.0 else 0) ≡ (if nat_eq node own.node then cut_of volume.cut node else 0)
  same_cut node = by (nat_eq node own.node) refl
    where
      by : (b : Bool) → nat_eq node own.node ≡ b → (if b then own.value.cut.0 else 0) ≡ (if b then cut_of volume.cut node else 0)
      by true same = left.0 ∙ ap (cut_of volume.cut) (sym (eqb-true node own.node same))
      by false other = refl

  same_lifted : (node : ℕ) → (if nat_eq node own.node then max own.value.cut.0 own.stamp else 0)
      ≡ (if nat_eq node own.node then max (cut_of volume.cut node) own.stamp else 0)
  same_lifted node = by (nat_eq node own.node) refl
    where
      by : (b : Bool) → nat_eq node own.node ≡ b → (if b then max own.value.cut.0 own.stamp else 0) ≡ (if b then max (cut_of volume.cut node) own.stamp else 0)
      by true same = ap (λ cut. max cut own.stamp) (left.0 ∙ ap (cut_of volume.cut) (sym (eqb-true node own.node same)))
      by false other = refl

  abbrev namings : List RowChange
  namings = namings_past volume.first volume.history (cut_of volume.cut) own.node

  no_naming : (changes : List RowChange) → are_none changes ≡ true → (noted : Noted) → IsOneOf (map noted_alone changes) noted → ⊥
  no_naming [] none noted among = among
  no_naming (change ∷ changes) none noted among = true_not_false (sym none)

  -- where no change that names it is left, a row does
  named_there : (number : ℕ) → are_none namings ≡ true → is_alive (tree_held volume) own.node ≡ true
  named_there number none = by (is_alive (tree_held volume) own.node) refl
    where
      by : (b : Bool) → is_alive (tree_held volume) own.node ≡ b → b ≡ true
      by true named = refl
      by false unnamed =
          let by_look = (open_own volume done (making_own volume own number) (makes number)).made in
          absurd (false_not_true ((by_look.makes.moved.leaves own.node).1 (
            same_number own.node,
            member own.node itself,
            record { no_root = no_root; unnamed = unnamed; flushed = λ sees. no_naming namings none sees.noted sees.is_noted },
          )))

  same_named : (number : ℕ) → (is_alive (tree_held volume) own.node || are_none namings) ≡ is_alive (tree_held volume) own.node
  same_named number = by (is_alive (tree_held volume) own.node) (are_none namings) (named_there number)
    where
      by : (alive none : Bool) → (none ≡ true → alive ≡ true) → (alive || none) ≡ alive
      by true none so = refl
      by false true so = sym (so refl)
      by false false so = refl

  pub commit_same : (number : ℕ) → commit_of_own volume.first volume.history (cut_of volume.cut) own number
      ≡ own_commit (run_with volume done) (own_flush own) (making_own volume own number).numbers
  commit_same number = λ i. record {
    number = number;
    look = record {
      flush = own_flush own;
      cut = λ node. same_cut node i;
      inodes = λ node. nat_eq node own.node;
      born = map born_at (filter (λ (birth : Birth). nat_eq birth.node own.node) (births_of volume.first volume.history));
      noted = map noted_alone namings;
    };
    counts = every_entry;
    late = max (length volume.history) own.stamp;
    mark = λ stamp node. 0;
    members = own.node ∷ [];
    holds = λ node. nat_eq node own.node;
    last = λ node. own.value.last;
    makes = record {
      lifted = λ node. same_lifted node i;
      found = record { named = λ node. same_named number i; directory = false };
      gets = λ node. false;
      loses = λ node. false;
    };
  }

module _ (at : OwnPlace) (there : OwnThere at) where
  abbrev of_own : OwnMaking
  of_own = making_own at.beside.volume at.own at.pair.commit.number

  abbrev commit : CoreCommit
  commit = own_commit (run_with at.beside.volume (done_there at)) (own_flush at.own) of_own.numbers

  box : BoxKnows at.run (box_there at) at.all commit
  box = subst (BoxKnows at.run (box_there at) at.all) (ap (λ (p : Pair). p.commit) there.pair) there.box_knows

  known : OwnKnown at.run at.own at.beside
  known = record {
    table = there.table;
    made = there.made;
    told = box.told;
    knew = box.unmoved.knew at.own.node (same_number at.own.node);
    disk = there.disk;
    done = there.done;
    volume = there.volume;
  }

  pub own_tells : TellsPair at.beside.volume (done_there at) at.pair
  own_tells = by_own of_own (makes at.run at.own at.beside known at.pair.commit.number) box.gives.later there.pair

pub owns_tell : OwnsTell
owns_tell at there = own_tells at there
