-- A look that knows enough gathers the closure, and touches the concerned nodes.
use Rattle.std.proofs.Common.{◌≡◌, ℕ, ◌<◌, ◌≤◌, Bool, List, take, refl, sym, ap, ◌∙◌, subst, arith}
use Rattle.tree_laws.specs.declared.history.Entry.{Entry}
use Rattle.tree_laws.specs.Tree.{TreeState}
use Rattle.tree_laws.specs.Sound.{Above}
use Rattle.tree_laws.specs.Changes.{RowChange}
use Rattle.tree_laws.specs.History.{tree_after}
use Rattle.cut_laws.specs.Cut.{Cut}
use Rattle.cut_laws.specs.Rules.{IsOneOf, IsMove}
use Rattle.cut_laws.specs.Closure.{Counts, every_entry, Flush, HasLiveNode, InSpan, HasNaming, Closure, IsConcerned}
use Rattle.cut_laws.specs.Closure as closure
use Rattle.cut_laws.proofs.Recount.{recounts}
use Rattle.look_laws.specs.Look.{Noted, Look, InSight, SeesNaming, Gathers, itself, other_side, ended, ancestor, birth_place, Touches, member, named}
use Rattle.look_laws.specs.Fit.{KnowsEnough}
use Rattle.look_laws.specs.Laws.{FitsHistory, LooksFit, LateEntriesMayBeMissing}

module _ (first : TreeState) (history : List Entry) (counts : Counts) (cut : Cut) (inodes : ℕ → Bool) (look : Look)
    (knows : KnowsEnough first history counts cut inodes look) where
  -- a change in sight of a member is in its span
  span_of : (noted : Noted) → Gathers look noted.change.directory → InSight look noted → InSpan first history counts cut look.flush.stamp noted.change
  span_of noted own sight =
      let true_one = knows.truths noted sight.is_noted in
      record {
        is_change = true_one.is_change;
        counted = true_one.counted;
        from = subst (λ n. n ≤ noted.change.stamp) (knows.cuts noted.change.directory (member noted.change.directory own)) sight.from;
        below = sight.below;
      }

  -- and one in its span is in sight
  pub sight_of : (change : RowChange) → Gathers look change.directory → InSpan first history counts cut look.flush.stamp change
      → (noted : Noted) × InSight look noted × (noted.change ≡ change)
  sight_of change own span =
      let found = knows.spans change own span in (
        found.0,
        record {
          is_noted = found.1;
          from =
              subst (λ (c : RowChange). look.cut c.directory ≤ c.stamp) (sym found.2)
              (subst (λ n. n ≤ change.stamp) (sym (knows.cuts change.directory (member change.directory own))) span.from);
          below = subst (λ (c : RowChange). c.stamp < look.flush.stamp) (sym found.2) span.below;
        },
        found.2,
      )

  -- a naming that is seen of a touched node is one
  naming_of : (node : ℕ) → Touches look node → SeesNaming look look.cut node → HasNaming first history counts cut node
  naming_of node touched sees =
      let true_one = knows.truths sees.noted sees.is_noted in
      record {
        change = sees.noted.change;
        is_change = true_one.is_change;
        counted = true_one.counted;
        child = sees.child;
        unflushed = knows.unflushed sees.noted sees.is_noted (subst (Touches look) (sym sees.child) touched) sees.unflushed;
      }

  -- and one of a touched node is seen
  seen_of_naming : (node : ℕ) → Touches look node → HasNaming first history counts cut node → SeesNaming look look.cut node
  seen_of_naming node touched naming =
      let found = knows.namings naming.change (subst (Touches look) (sym naming.child) touched) naming.is_change naming.counted naming.unflushed in
      record {
        noted = found.0;
        is_noted = found.1;
        child = ap (λ (c : RowChange). c.child) found.2 ∙ naming.child;
        unflushed =
            subst (λ (c : RowChange). look.cut c.directory ≤ c.stamp) (sym found.2)
            (let low = knows.cuts_low naming.change.directory in let from = naming.unflushed in omega arith);
      }

  -- what is gathered are members
  gathered_member : {node : ℕ} → Gathers look node → Closure first history counts cut inodes look.flush node
  gathered_member itself = closure.itself
  gathered_member (other_side noted other own sight two) = closure.other_side noted.change other (gathered_member own) (span_of noted own sight) two
  gathered_member (ended noted own sight ends) = closure.ended noted.change (gathered_member own) (span_of noted own sight) ends
  gathered_member (ancestor noted node own sight among) =
      let true_one = knows.truths noted sight.is_noted in
      closure.ancestor noted.change noted.above node (gathered_member own) (span_of noted own sight) (true_one.moves node among)
      (true_one.stands node among) among
  gathered_member (birth_place born own one lacks sees) =
      let touched = member born.node own in
      let birth = (knows.born born.node born.directory touched).0 one in
      closure.birth_place (record { stamp = birth.0; directory = born.directory; node = born.node }) (gathered_member own) birth.1
      (sym (knows.same_inodes born.node touched) ∙ lacks) (naming_of born.node touched sees)

  -- and members are gathered
  member_gathered : {node : ℕ} → Closure first history counts cut inodes look.flush node → Gathers look node
  member_gathered closure.itself = itself
  member_gathered (closure.other_side change other own span two) =
      let there = member_gathered own in
      let seen = sight_of change there span in
      other_side seen.0 other (subst (λ (c : RowChange). Gathers look c.directory) (sym seen.2) there) seen.1 (ap (λ (c : RowChange). c.other) seen.2 ∙ two)
  member_gathered (closure.ended change own span ends) =
      let there = member_gathered own in
      let seen = sight_of change there span in
      subst (λ (c : RowChange). Gathers look c.child) seen.2
      (ended seen.0 (subst (λ (c : RowChange). Gathers look c.directory) (sym seen.2) there) seen.1 (ap (λ (c : RowChange). c.ends) seen.2 ∙ ends))
  member_gathered (closure.ancestor change above node own span move way among) =
      let there = member_gathered own in
      let seen = sight_of change there span in
      let told =
      (knows.truths seen.0 seen.1.is_noted).told above (subst (IsMove first history) (sym seen.2) move)
      (subst (λ (c : RowChange). Above (tree_after first (take c.stamp history)) c.directory above) (sym seen.2) way) in
      ancestor seen.0 node (subst (λ (c : RowChange). Gathers look c.directory) (sym seen.2) there) seen.1
      (subst (λ (l : List ℕ). IsOneOf l node) (sym told) among)
  member_gathered (closure.birth_place birth own one lacks naming) =
      let there = member_gathered own in
      let touched = member birth.node there in
      birth_place (record { node = birth.node; directory = birth.directory }) there ((knows.born birth.node birth.directory touched).1 (birth.stamp, one))
      (knows.same_inodes birth.node touched ∙ lacks) (seen_of_naming birth.node touched naming)

  touched_concerned : (node : ℕ) → Touches look node → IsConcerned first history counts cut inodes look.flush node
  touched_concerned node (member _ own) = closure.member node (gathered_member own)
  touched_concerned _ (named noted own sight) = closure.named noted.change (gathered_member own) (span_of noted own sight)

  concerned_touched : (node : ℕ) → IsConcerned first history counts cut inodes look.flush node → Touches look node
  concerned_touched node (closure.member _ own) = member node (member_gathered own)
  concerned_touched _ (closure.named change own span) =
      let there = member_gathered own in
      let seen = sight_of change there span in
      subst (λ (c : RowChange). Touches look c.child) seen.2 (named seen.0 (subst (λ (c : RowChange). Gathers look c.directory) (sym seen.2) there) seen.1)

  pub fits : FitsHistory first history counts cut inodes look
  fits = record { members = λ node. (gathered_member, member_gathered); concerned = λ node. (touched_concerned node, concerned_touched node) }

pub looks_fit : LooksFit
looks_fit first history counts cut inodes look knows = fits first history counts cut inodes look knows

pub late_entries_may_be_missing : LateEntriesMayBeMissing
late_entries_may_be_missing first history late counts cut inodes look sound legal kept live all low stamp knows =
    let alike =
    recounts first history late counts every_entry look.flush cut inodes sound legal all (λ t less. refl) low stamp live
    (record { kept = kept.kept; named = kept.named }) in
    let fit = fits first history counts cut inodes look knows in
    record {
      members = λ node. (λ own. (alike.members node).0 ((fit.members node).0 own), λ own. (fit.members node).1 ((alike.members node).1 own));
      concerned = λ node. (λ own. (alike.concerned node).0 ((fit.concerned node).0 own), λ own. (fit.concerned node).1 ((alike.concerned node).1 own));
    }
