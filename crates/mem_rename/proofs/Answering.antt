-- A core that is ready may stamp its rename, whose verdict at the stamp is what the held values say.
use Rattle.std.proofs.Common.{◌≡◌, ℕ, List, length, Option, inl, inr, refl, sym, ap, subst}
use Rattle.std.specs.Prelude.{is_some}
use Rattle.sfs_base.proofs.BasicTruth.{true_or_false, not_both}
use Rattle.disk_nodes.specs.OldKept.{OldKept}
use Rattle.tree_laws.specs.Tree.{TreeState}
use Rattle.tree_laws.specs.declared.reply.Reply.{Reply}
use Rattle.tree_laws.specs.Verdict.{Verdict, verdict}
use Rattle.stamp_table.specs.Rule.{Has}
use Rattle.stamp_table.specs.Table.{MayCall, Stamps}
use Rattle.mem_values.specs.Start.{FileHand, FileState}
use Rattle.mem_values.specs.Places.{cell_place, IsCell}
use Rattle.mem_values.specs.Stands.{StandsAt}
use Rattle.mem_values.specs.Facts.{IsLawfulLog}
use Rattle.mem_values.specs.Laws.{CallFits}
use Rattle.mem_values.proofs.Stamping.{calls_may_come}
use Rattle.mem_calls.specs.Table.{IsFileTable}
use Rattle.mem_calls.proofs.Stamped as stamped
use Rattle.mem_rename.specs.declared.sides.Move.{Move}
use Rattle.mem_rename.specs.declared.plans.Plan.{Plan}
use Rattle.mem_rename.specs.Sights.{Sight, rename_call, rename_by}
use Rattle.mem_rename.specs.Ready.{sight_of, AreSidesWithin, HoldsRename, MayMeetOn}
use Rattle.mem_rename.proofs.Verdicts.{renames_are_as_seen}
use Rattle.mem_rename.proofs.Stamped.{still_read, calls_may_come_on_a_way}
use Rattle.mem_rename.proofs.Readies as readies
use Rattle.mem_rename.proofs.Fitted.{keeps_or_holds}

module _ (given : ℕ → Option OldKept) (t : FileState) (nodes : ℕ) (table : IsFileTable t nodes) (move : Move) (within : AreSidesWithin nodes move)
    (plan : Plan) (above : List ℕ) (hand : FileHand)
    (ready : HoldsRename given t nodes move plan above hand) where
  abbrev seen : Sight
  seen = sight_of nodes hand.held move plan above

  -- in each tree that the core may meet the verdict is what the values say
  pub verdict_on : (tree : TreeState) → MayMeetOn plan move.to_directory.0 above hand tree
      → verdict tree hand.view.core (rename_call move) ≡ rename_by seen move
  verdict_on tree on = renames_are_as_seen tree hand.view.core move seen on.meets.sound
      (readies.shows_move given t nodes table move within plan above hand ready tree on)

  fits : (tree : TreeState) → MayMeetOn plan move.to_directory.0 above hand tree → CallFits hand.view tree (rename_call move) (rename_by seen move).reply
  fits tree on = record {
    due = sym (ap (λ (w : Verdict). w.reply) (verdict_on tree on));
    unanswered = refl;
    keeps = λ which is_cell.
        elim (keeps_or_holds given t nodes table move within plan above hand ready tree on which
        (subst (λ (f : TreeState). IsCell nodes (length f.made) which) ready.work.first
        (subst (λ n. IsCell n (length hand.view.first.made) which) (sym (stamped.counted given t nodes hand table ready.work)) is_cell))) [
          | inl kept ↦ inl kept
          | inr held ↦ inr (subst (λ n. Has hand.view.held (cell_place n which)) (stamped.counted given t nodes hand table ready.work)
              (stamped.held_has given t nodes hand table ready.work which held))
        ];
  }

  -- So it may be stamped.
  pub may_come : MayCall (IsLawfulLog given) (StandsAt given) hand.view (rename_call move) (rename_by seen move).reply
  may_come = elim (true_or_false (is_some plan.comes)) [
    | inl comes ↦ calls_may_come_on_a_way given hand.view hand.held move.to_directory.0 above (rename_call move) (rename_by seen move).reply
        (stamped.sound given t nodes hand table ready.work) (stamped.core_known given t nodes hand table ready.work)
        ready.work.knows (ready.read comes) (λ tree meets holders. fits tree (record { meets = meets; holders = λ _. holders }))
    | inr none ↦ calls_may_come given hand.view hand.held (rename_call move) (rename_by seen move).reply (stamped.sound given t nodes hand table ready.work)
        (stamped.core_known given t nodes hand table ready.work)
        ready.work.knows (λ tree meets. fits tree (record { meets = meets; holders = λ comes. absurd (not_both comes none) }))
  ]

  -- at its stamp it may meet the tree, on the way that it has read
  pub on_stamped : (reply : Reply) (number : ℕ) (mid : FileHand)
      (stamps : Stamps (IsLawfulLog given) (StandsAt given) (rename_call move) reply hand number mid)
      → MayMeetOn plan move.to_directory.0 above hand (stamped.tree given t nodes hand table ready.work (rename_call move) reply number mid stamps)
  on_stamped reply number mid stamps = record {
    meets = stamped.meets given t nodes hand table ready.work (rename_call move) reply number mid stamps;
    holders = λ comes. still_read given hand.view
        (stamped.log given t nodes hand table ready.work (rename_call move) reply number mid stamps) move.to_directory.0 above
        (stamped.sound given t nodes hand table ready.work)
        (stamped.past given t nodes hand table ready.work (rename_call move) reply number mid stamps) (ready.read comes);
  }

  -- and the verdict is this
  pub verdict_stamped : (reply : Reply) (number : ℕ) (mid : FileHand)
      (stamps : Stamps (IsLawfulLog given) (StandsAt given) (rename_call move) reply hand number mid)
      → verdict (stamped.tree given t nodes hand table ready.work (rename_call move) reply number mid stamps) hand.view.core
      (rename_call move) ≡ rename_by seen move
  verdict_stamped reply number mid stamps = verdict_on (stamped.tree given t nodes hand table ready.work (rename_call move) reply number mid stamps)
      (on_stamped reply number mid stamps)
