-- What is made by a look that knows enough is what the fsync makes.
use Rattle.std.proofs.Common.{◌≡◌, ℕ, ◌≤◌, Bool, max, List, sym, ap, ◌∙◌, subst, inl, inr, arith}
use Rattle.tree_laws.specs.declared.history.Entry.{Entry}
use Rattle.tree_laws.specs.Tree.{TreeState, is_directory}
use Rattle.tree_laws.specs.Changes.{RowChange}
use Rattle.tree_laws.specs.History.{tree_after}
use Rattle.sfs_base.proofs.BasicNumbers.{not_less}
use Rattle.sfs_base.proofs.BasicTruth.{not_both, true_or_false}
use Rattle.cut_laws.specs.Cut.{Cut, cut_of}
use Rattle.cut_laws.specs.Closure.{Counts, HasNaming, IsRaised, IsReached, IsDead}
use Rattle.cut_laws.proofs.Basics.{below_or}
use Rattle.cut_laws.proofs.Raises.{cuts_rise}
use Rattle.look_laws.specs.Look.{Look, SeesNaming, Touches, member}
use Rattle.look_laws.specs.Made.{Lifts, Found, SeesReached, SeesDead}
use Rattle.look_laws.specs.Fit.{KnowsEnough, FindsRight}
use Rattle.look_laws.specs.Laws.{LooksAreMade}
use Rattle.look_laws.proofs.Fitting.{fits}

module _ (first : TreeState) (history : List Entry) (counts : Counts) (cut raised : Cut) (inodes : ℕ → Bool) (look : Look) (lifted : ℕ → ℕ)
    (knows : KnowsEnough first history counts cut inodes look) (raise : IsRaised first history counts cut inodes look.flush raised)
    (lifts : Lifts look lifted) where
  -- the stamp of a touched node is that of the raised cut
  same_stamp : (node : ℕ) → Touches look node → lifted node ≡ cut_of raised node
  same_stamp node touched = elim (lifts.others node) [
    | inl own ↦
        lifts.members node own ∙ ap (λ n. max n look.flush.stamp) (knows.cuts node touched)
        ∙ sym (raise.member node (((fits first history counts cut inodes look knows).members node).0 own))
    | inr same ↦ elim (raise.other node) [
      | inl own ↦
          lifts.members node (((fits first history counts cut inodes look knows).members node).1 own)
          ∙ ap (λ n. max n look.flush.stamp) (knows.cuts node touched) ∙ sym (raise.member node own)
      | inr also ↦ same ∙ knows.cuts node touched ∙ sym also
    ]
  ]

  -- a stamp that does not reach the raised cut of a directory
  open_still : (directory stamp : ℕ) → (look.cut directory ≤ stamp → cut_of cut directory ≤ stamp) → lifted directory ≤ stamp → cut_of raised directory ≤ stamp
  open_still directory stamp opens low = elim (raise.other directory) [
    | inl own ↦ let same = same_stamp directory (member directory (((fits first history counts cut inodes look knows).members directory).1 own)) in omega arith
    | inr still ↦ elim (lifts.others directory) [
      | inl own ↦ let same = same_stamp directory (member directory own) in omega arith
      | inr also ↦ let opened = opens (omega arith) in omega arith
    ]
  ]

  -- a naming that is seen at the new stamps is one at the raised cut
  pub naming_raised : (node : ℕ) → Touches look node → SeesNaming look lifted node → HasNaming first history counts raised node
  naming_raised node touched sees =
      let true_one = knows.truths sees.noted sees.is_noted in
      record {
        change = sees.noted.change;
        is_change = true_one.is_change;
        counted = true_one.counted;
        child = sees.child;
        unflushed =
            open_still sees.noted.change.directory sees.noted.change.stamp
            (knows.unflushed sees.noted sees.is_noted (subst (Touches look) (sym sees.child) touched)) sees.unflushed;
      }

  -- and one at the raised cut is seen
  pub raised_seen : (node : ℕ) → Touches look node → HasNaming first history counts raised node → SeesNaming look lifted node
  raised_seen node touched naming =
      let change = naming.change in
      let lower : cut_of cut change.directory ≤ change.stamp =
      (let low = cuts_rise first history counts cut inodes look.flush raised raise change.directory in let from = naming.unflushed in omega arith) in
      let noted = knows.namings change (subst (Touches look) (sym naming.child) touched) naming.is_change naming.counted lower in
      record {
        noted = noted.0;
        is_noted = noted.1;
        child = ap (λ (c : RowChange). c.child) noted.2 ∙ naming.child;
        unflushed = subst (λ (c : RowChange). lifted c.directory ≤ c.stamp) (sym noted.2) (elim (lifts.others change.directory) [
          | inl own ↦ let same = same_stamp change.directory (member change.directory own) in let from = naming.unflushed in omega arith
          | inr same ↦ let low = knows.cuts_low change.directory in omega arith
        ]);
      }

  module _ (found : Found) (right : FindsRight first history counts raised look found) where
    reached_there : (node : ℕ) → Touches look node → SeesReached look lifted found node → IsReached first history counts look.flush raised node
    reached_there node touched (inl named) = inl ((right.named node touched).0 named)
    reached_there node touched (inr (own, file, sees)) =
        inr (own, ap (is_directory (tree_after first history)) own ∙ sym right.directory ∙ file, naming_raised node touched sees)

    reached_here : (node : ℕ) → Touches look node → IsReached first history counts look.flush raised node → SeesReached look lifted found node
    reached_here node touched (inl named) = inl ((right.named node touched).1 named)
    reached_here node touched (inr (own, file, naming)) =
        inr (own, right.directory ∙ sym (ap (is_directory (tree_after first history)) own) ∙ file, raised_seen node touched naming)

    dead_there : (node : ℕ) → Touches look node → SeesDead look lifted found node → IsDead first history counts raised node
    dead_there node touched dead = record {
      no_root = dead.no_root;
      unnamed = λ named. not_both ((right.named node touched).1 named) dead.unnamed;
      flushed = λ change is counted child. elim (below_or change.stamp (cut_of raised change.directory)) [
        | inl less ↦ less
        | inr open_one ↦
            absurd (dead.flushed (raised_seen node touched (record { change = change; is_change = is; counted = counted; child = child; unflushed = open_one })))
      ];
    }

    dead_here : (node : ℕ) → Touches look node → IsDead first history counts raised node → SeesDead look lifted found node
    dead_here node touched dead = record {
      no_root = dead.no_root;
      unnamed = elim (true_or_false (found.named node)) [ inl named ↦ absurd (dead.unnamed ((right.named node touched).0 named)) | inr none ↦ none ];
      flushed = λ sees. let naming = naming_raised node touched sees in
          not_less (dead.flushed naming.change naming.is_change naming.counted naming.child) naming.unflushed;
    }

pub looks_are_made : LooksAreMade
looks_are_made first history counts cut raised inodes look lifted found gets loses knows raise lifts right moved = record {
  stamps = same_stamp first history counts cut raised inodes look lifted knows raise lifts;
  enters = λ node touched lacks. (
    λ one. reached_there first history counts cut raised inodes look lifted knows raise lifts found right node touched ((moved.enters node).0 one).2,
    λ reached. (moved.enters node).1 (
      knows.same_inodes node touched
          ∙ lacks,
      touched,
      reached_here first history counts cut raised inodes look lifted knows raise lifts found right node touched reached,
    ),
  );
  leaves = λ node touched has. (
    λ one. dead_there first history counts cut raised inodes look lifted knows raise lifts found right node touched ((moved.leaves node).0 one).2,
    λ dead. (moved.leaves node).1 (
      knows.same_inodes node touched
          ∙ has,
      touched,
      dead_here first history counts cut raised inodes look lifted knows raise lifts found right node touched dead,
    ),
  );
}
