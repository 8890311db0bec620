-- A commit that was not moved as it reserved knows enough.
use Rattle.std.proofs.Common.{◌≡◌, ℕ, ◌<◌, ◌≤◌, Bool, true, max, List, inl, inr, sym, ap, subst, ◌∙◌, arith}
use Rattle.sfs_base.proofs.BasicTruth.{not_both, true_or_false}
use Rattle.tree_laws.specs.Changes.{RowChange}
use Rattle.cut_laws.specs.Cut.{cut_of}
use Rattle.cut_laws.specs.Rules.{IsOneOf, IsChange}
use Rattle.cut_laws.proofs.Basics.{below_or}
use Rattle.look_laws.specs.Look.{Look, InSight, Gathers, Touches, member, named}
use Rattle.look_laws.specs.Fit.{IsNoted}
use Rattle.beside_laws.specs.Commits.{CoreCommit, commit_fsync, has_inode_behind, Share, RaisedOver}
use Rattle.beside_laws.specs.Progress.{Progress, IsLastOf, Left, HasLeft, nobody, somebody, HasPassed, Standing, KnownAtReserving}
use Rattle.beside_laws.specs.Laws.{KnowsRun, RuledKnow}

-- two that are the last of one list to hold a node are one
last_once : (done : List CoreCommit) (node : ℕ) (one two : CoreCommit)
    → ((a b : CoreCommit) → IsOneOf done a → IsOneOf done b → a.number ≡ b.number → a ≡ b)
    → IsLastOf done node one → IsLastOf done node two → one ≡ two
last_once done node one two numbered last also =
    let up = last.latest two also.among also.held in
    let down = also.latest one last.among last.held in
    numbered one two last.among also.among (omega arith)

-- what commits left of a node is one
pub left_once : (done : List CoreCommit) (node : ℕ) (at_first : Bool) (one two : Left)
    → ((a b : CoreCommit) → IsOneOf done a → IsOneOf done b → a.number ≡ b.number → a ≡ b)
    → HasLeft done node at_first one → HasLeft done node at_first two → (one.stamp ≡ two.stamp) × (one.inode ≡ two.inode)
left_once done node at_first one two numbered (nobody none stamp inode) (nobody also stamp_too inode_too) =
    (stamp ∙ sym stamp_too, inode ∙ sym inode_too)
left_once done node at_first one two numbered (nobody none stamp inode) (somebody commit last stamp_too inode_too) =
    absurd (not_both last.held (none commit last.among))
left_once done node at_first one two numbered (somebody commit last stamp inode) (nobody none stamp_too inode_too) =
    absurd (not_both last.held (none commit last.among))
left_once done node at_first one two numbered (somebody commit last stamp inode) (somebody other also stamp_too inode_too) =
    let same = last_once done node commit other numbered last also in (
      stamp ∙ ap (λ (c : CoreCommit). c.makes.lifted node) same ∙ sym stamp_too,
      inode ∙ ap (λ (c : CoreCommit). has_inode_behind c node) same ∙ sym inode_too,
    )

-- a commit that raised a directory's cut over a change holds the change's child, and has the directory as a member
pub raised_over : (run : Progress) (commit : CoreCommit) (change : RowChange) → IsChange run.first run.history change
    → RaisedOver run.first run.history commit change.directory change.stamp → HasPassed change commit
raised_over run commit change is_change over = elim (over.made.makes.lifts.others change.directory) [
  | inr same ↦ let from = over.from in let past = over.over in absurd (omega arith)
  | inl own ↦ by own (over.made.makes.lifts.members change.directory own)
]
  where
    by : Gathers commit.look change.directory
        → commit.makes.lifted change.directory ≡ max (commit.look.cut change.directory) (commit_fsync commit).stamp → HasPassed change commit
    by own lifted =
        let from = over.from in
        let past = over.over in
        let below : change.stamp < (commit_fsync commit).stamp = omega arith in
        let at_most = over.notes.stamp in
        let mark = over.notes.own_marks change.stamp change.directory over.held in
        let noted : IsNoted commit.look change = over.notes.noted change is_change (inl over.held) (over.notes.early change.stamp (omega arith)) (omega arith) in
        let there = subst (λ (c : RowChange). Gathers commit.look c.directory) (sym noted.2) own in
        let sight : InSight commit.look noted.0 = record {
          is_noted = noted.1;
          from = subst (λ (c : RowChange). commit.look.cut c.directory ≤ c.stamp) (sym noted.2) from;
          below = subst (λ (c : RowChange). c.stamp < (commit_fsync commit).stamp) (sym noted.2) below;
        } in
        record {
          member = (over.made.members change.directory).1 own;
          child = (over.made.holds change.child).1 (subst (λ (c : RowChange). Touches commit.look c.child) noted.2 (named noted.0 there sight));
          stamp = below;
        }

module _ (run : Progress) (commit : CoreCommit) (stands : Standing run) (reserves : KnownAtReserving run commit) where
  abbrev look : Look
  look = commit.look

  held : (node : ℕ) → Touches look node → commit.holds node ≡ true
  held node touched = (reserves.made.holds node).1 touched

  -- of a node that it holds it saw what stands
  saw : (node : ℕ) → commit.holds node ≡ true → (look.cut node ≡ cut_of run.cut node) × (look.inodes node ≡ run.inodes node)
  saw node holds = left_once run.done node _ _ _ stands.numbered (reserves.fresh node holds) (stands.left node)

  low : (node : ℕ) → look.cut node ≤ cut_of run.cut node
  low node = elim (true_or_false (commit.holds node)) [
    | inl holds ↦ let same = (saw node holds).0 in omega arith
    | inr none ↦ let blank = reserves.made.blank node none in omega arith
  ]

  -- a naming that is not flushed of a node that it holds was not cut off by its part's mark
  unmarked : (change : RowChange) → Touches look change.child → IsChange run.first run.history change → cut_of run.cut change.directory ≤ change.stamp
      → commit.mark change.stamp change.directory ≤ change.stamp
  unmarked change touched is_change open_one = elim (below_or change.stamp (commit.mark change.stamp change.directory)) [
    | inr le ↦ le
    | inl less ↦
        let reached = reserves.ruled.reached change is_change less in
        let passed = raised_over run reached.0 change is_change reached.1 in
        let done = reached.2 (record { node = change.child; one = held change.child touched; two = passed.child }) in
        let past = stands.members reached.0 change.directory done passed.member in
        let below = passed.stamp in
        absurd (omega arith)
  ]

  -- what is flushed of a node that it holds was flushed by one whose parts were trimmed
  flushed_by : (change : RowChange) → Touches look change.child → IsChange run.first run.history change → change.stamp < cut_of run.cut change.directory
      → (other : CoreCommit) × HasPassed change other × ((commit_fsync other).stamp ≤ commit.late)
      × ((stamp : ℕ) → (commit_fsync other).stamp ≤ commit.mark stamp change.directory)
  flushed_by change touched is_change within =
      let passed = stands.passed change is_change within in
      let share : Share commit passed.0 = record { node = change.child; one = held change.child touched; two = passed.2.child } in (
        passed.0,
        passed.2,
        reserves.ruled.earlier passed.0 passed.1 share,
        λ stamp. reserves.ruled.trimmed passed.0 passed.1 share stamp change.directory passed.2.member,
      )

  pub knows : KnowsRun run commit
  knows = record {
    enough = record {
      cuts = λ node touched. (saw node (held node touched)).0;
      cuts_low = low;
      same_inodes = λ node touched. (saw node (held node touched)).1;
      born = reserves.notes.born;
      truths = reserves.notes.truths;
      spans = λ change own span.
          let holds = held change.directory (member change.directory own) in
          let mark = reserves.notes.own_marks change.stamp change.directory holds in
          let same = (saw change.directory holds).0 in
          let from = span.from in
          reserves.notes.noted change span.is_change (inl holds) span.counted (omega arith);
      namings = λ change touched is_change counted open_one.
          reserves.notes.noted change is_change (inr (held change.child touched)) counted (unmarked change touched is_change open_one);
      unflushed = λ noted one touched from. elim (below_or noted.change.stamp (cut_of run.cut noted.change.directory)) [
        | inr le ↦ le
        | inl within ↦
            let other = flushed_by noted.change touched (reserves.notes.truths noted one).is_change within in
            let below = other.1.stamp in
            let trimmed = other.3 noted.change.stamp in
            let mark = reserves.notes.unmarked noted one in
            absurd (omega arith)
      ];
    };
    early = reserves.notes.early;
    stamp = reserves.notes.stamp;
    unflushed = λ change touched is_change since. elim (below_or change.stamp (cut_of run.cut change.directory)) [
      | inr le ↦ le
      | inl within ↦
          let other = flushed_by change touched is_change within in
          let below = other.1.stamp in
          let earlier = other.2 in
          absurd (omega arith)
    ];
    live = reserves.notes.live;
  }

pub ruled_know : RuledKnow
ruled_know run commit stands reserves = knows run commit stands reserves
