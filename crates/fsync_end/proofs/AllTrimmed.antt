-- Logs that are trimmed one after another.
use Rattle.std.proofs.Common.{◌≡◌, ◌<◌, ◌∷◌, ◌++◌, ◌∙◌, ℕ, zero, suc, List, [], length, map, filter_map, Option, refl, sym, ap, subst, append-nil, append_assoc, arith}
use mathlib.Core.List.{IsPrefix}
use Rattle.std.proofs.lemmas.List.Elements.{filter_map-append}
use Rattle.stamp_table.proofs.Keeps.{begins_itself}
use Rattle.tree_laws.specs.Tree.{TreeState}
use Rattle.disk_nodes.specs.OldKept.{OldKept}
use Rattle.cut_laws.specs.Rules.{IsOneOf}
use Rattle.cut_laws.proofs.Basics.{in_left}
use Rattle.stamp_table.specs.declared.event.Event.{Event}
use Rattle.stamp_table.specs.declared.view.View.{View}
use Rattle.mem_values.specs.Start.{FileHand}
use Rattle.mem_values.specs.declared.fact.Fact.{Fact}
use Rattle.mem_values.specs.Account.{commit_told}
use Rattle.fsync_end.specs.Trimming.{HasTold, trim_event, trim_events, TrimsPart, TrimsAll}
use Rattle.fsync_end.proofs.Homewards.{homeward_more}

-- what was told is told when more is
pub told_still : (mine more : List (Event Fact)) (core number stamp : ℕ) (members : List ℕ) → HasTold mine core number stamp members
    → HasTold (mine ++ more) core number stamp members
told_still mine more core number stamp members told = record {
  commit = told.commit;
  among = subst (λ l. IsOneOf l told.commit) (sym (filter_map-append commit_told mine more))
      (in_left (filter_map commit_told mine) (filter_map commit_told more) told.commit told.among);
  own = told.own;
  numbered = told.numbered;
  stamped = told.stamped;
  members_are = told.members_are;
}

pub trims_none : (given : ℕ → Option OldKept) (number : ℕ) (hand : FileHand) → TrimsAll given number 0 hand hand
trims_none given number hand = record {
  frame = refl;
  view = refl;
  seen = begins_itself hand.view.seen;
  mine = sym (append-nil hand.view.mine);
  home = λ way numbered has home. home;
}

module _ (given : ℕ → Option OldKept) (number count : ℕ) (begun before after : FileHand) (all : TrimsAll given number count begun before) where
  pub held_same : before.view.held ≡ begun.view.held
  held_same = ap (λ (v : View TreeState (Event Fact)). v.held) all.view

  pub room_same : before.room ≡ begun.room
  room_same = ap (λ (h : FileHand). h.room) all.frame

  core_same : before.view.core ≡ begun.view.core
  core_same = ap (λ (v : View TreeState (Event Fact)). v.core) all.view

  first_same : before.view.first ≡ begun.view.first
  first_same = ap (λ (v : View TreeState (Event Fact)). v.first) all.view

  pub still_told : (stamp : ℕ) (members : List ℕ) → HasTold begun.view.mine begun.view.core number stamp members
      → HasTold before.view.mine before.view.core number stamp members
  still_told stamp members told = subst (λ (z : List (Event Fact) × ℕ). HasTold z.0 z.1 number stamp members) (λ i. (sym all.mine i, sym core_same i))
      (told_still begun.view.mine (trim_events begun.view.core number count) begun.view.core number stamp members told)

  pub trims_more : TrimsPart given number count before after → count < length begun.view.first.made → TrimsAll given number (suc count) begun after
  trims_more one within = record {
    frame = (λ i. record (one.frame i) { view = begun.view }) ∙ all.frame;
    view = (λ i. record (one.view i) { seen = begun.view.seen; mine = begun.view.mine }) ∙ all.view;
    seen = (
      all.seen.0 ++ (one.seen.0 ++ trim_event before.view.core number count ∷ []),
      sym (append_assoc begun.view.seen all.seen.0 (one.seen.0 ++ trim_event before.view.core number count ∷ []))
          ∙ (ap (λ l. l ++ (one.seen.0 ++ trim_event before.view.core number count ∷ [])) all.seen.1
          ∙ (sym (append_assoc before.view.seen one.seen.0 (trim_event before.view.core number count ∷ []))
          ∙ (ap (λ l. l ++ trim_event before.view.core number count ∷ []) one.seen.1 ∙ sym one.last))),
    );
    mine =
        one.mine
        ∙ ((λ i. all.mine i ++ trim_event (core_same i) number count ∷ [])
        ∙ append_assoc begun.view.mine (trim_events begun.view.core number count) (trim_event begun.view.core number count ∷ []));
    home = λ way numbered has home. let member = has (omega arith) in
        homeward_more given way count before after (all.home way numbered (λ some. member) home)
        (subst (λ n. TrimsPart given n count before after) (sym numbered) one) member.0
        (subst (λ (f : TreeState). count < length f.made) (sym first_same) within) member.1;
  }
