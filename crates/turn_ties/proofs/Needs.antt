-- A plan whose pages are those of touched blocks needs as much as the books say.
use Rattle.std.proofs.Common.{◌≡◌, ℕ, ◌<◌, true, List, [], ◌∷◌, ◌++◌, map, refl, sym, ap, ◌∙◌, count_by, Contains}
use Rattle.std.specs.Prelude.{◌&&◌, sum_by}
use Rattle.sfs_base.proofs.BasicTruth.{and_first, and_second}
use Rattle.image_laws.specs.Need.{Rewrite, blocks_needed}
use Rattle.disk_change.specs.Built.{rewrite_in}
use Rattle.disk_change.specs.Directory.{is_among}
use Rattle.disk_change.specs.Nodes.{enter_node}
use Rattle.disk_change.specs.Planned.{Planned, blocks_taken, enters}
use Rattle.disk_change.specs.Seated.{Seated}
use Rattle.commit_laws.specs.CommitMade.{seated_nodes}
use Rattle.commit_laws.specs.CommitOfPlan.{change_planned}
use Rattle.commit_laws.proofs.Ranked.{needs_are_those}
use Rattle.commit_laws.proofs.Rewritten.{take_same, needs_same}
use Rattle.cut_laws.specs.Closure.{one_more}
use Rattle.cut_laws.specs.Cut.{cut_of}
use Rattle.cut_laws.specs.Machine.{MachineState}
use Rattle.cut_laws.proofs.Lists.{lists_keep}
use Rattle.turn_laws.specs.LawsNeed.{ListsNodes}
use Rattle.turn_laws.specs.Need.{Made, rewrite_needed, node_bound, need_of}
use Rattle.turn_laws.specs.Touched.{is_touched_between}
use Rattle.turn_laws.proofs.ListedNeeds.{blocks_are_listed, inodes_are_listed, nodes_are_counted}
use Rattle.space_laws.proofs.Asked.{enters_counted}
use Rattle.tree_laws.specs.Tree.{TreeState}
use Rattle.sfs_image.specs.Seen.{SeenInodes}
use Rattle.flush_laws.specs.Ready.{IsBetweenCommits}
use Rattle.commit_laws.specs.Rewritten.{SayTheSame}
use Rattle.turn_ties.specs.Laws.{NeedsAreTheBooks}
use Rattle.turn_ties.specs.Plans.{image_held, HasPlan, HasTouchedPages, Planning, made_of, machine_of_rest}
use Rattle.flush_laws.specs.Volume.{Volume}
use Rattle.turn_ties.proofs.Planned.{old, new, image, ready, from, between}
use Rattle.turn_ties.proofs.Rewrites.{seats_say}
use Rattle.turn_ties.proofs.Seats.{nodes_once, nodes_listed, enters_once, enters_listed}

module _ (volume : Volume) (used : List ℕ) (planning : Planning) (is : HasPlan volume planning) where
  abbrev change : Planned
  change = change_planned planning.plan

  abbrev state : MachineState
  state = machine_of_rest volume used

  abbrev made : Made
  made = made_of planning

  abbrev later : TreeState
  later = new volume planning is

  abbrev held : SeenInodes
  held = image volume planning is

  abbrev between_commits : IsBetweenCommits volume
  between_commits = ready volume planning is

  -- a node with an inode afterwards is counted
  counted : (node : ℕ) → planning.after node ≡ true → node < node_bound volume.first
  counted node has =
      let history_is = between_commits.history_is in
      let flushed = one_more volume.flushes planning.flush volume.cut planning.raised volume.inodes planning.after between_commits.flushed is.raises
      is.inodes_after in
      let keeps = lists_keep volume.first volume.history (volume.flushes ++ planning.flush ∷ []) planning.raised planning.after history_is.sound
      history_is.legal flushed in
      nodes_are_counted volume.first volume.history node history_is.sound history_is.legal (keeps.nodes node has)

  pub inodes_needed : (need_of state (image_held volume) made).inodes ≡ count_by enters change.seats
  inodes_needed =
      inodes_are_listed state (image_held volume) made (map enter_node planning.plan.enter) (record {
        once = enters_once volume.num planning.nodes later held volume.inodes planning.after planning.plan (from volume planning is) is.plans.moves
            between_commits.numbers;
        each = enters_listed volume.num planning.nodes later held volume.inodes planning.after planning.plan (from volume planning is) is.plans.moves
            between_commits.numbers;
        below = λ node enters. counted node (and_first (planning.after node) _ enters);
      })
      ∙ sym (enters_counted planning.plan)

  -- what is planned of a node says what the turns say
  abbrev needed : ℕ → Rewrite
  needed = rewrite_needed state (image_held volume) made

  nodes_list : ListsNodes volume.first (λ node. made.concerns node && made.after node) (seated_nodes change)
  nodes_list = record {
    once = nodes_once volume.num planning.nodes later held volume.inodes planning.after planning.plan (from volume planning is) is.plans.moves
        between_commits.numbers;
    each = nodes_listed volume.num planning.nodes later held volume.inodes planning.after planning.plan (from volume planning is) is.plans.moves
        between_commits.numbers;
    below = λ node listed. counted node (and_second (is_among planning.nodes node) (planning.after node) listed);
  }

  of_nodes : (seats : List Seated) → map needed (map (λ (seat : Seated). seat.node) seats) ≡ map (λ (seat : Seated). needed seat.node) seats
  of_nodes [] = refl
  of_nodes (seat ∷ seats) = ap (λ rest. needed seat.node ∷ rest) (of_nodes seats)

  pub seat_says : HasTouchedPages volume planning → (seat : Seated) → Contains change.seats seat → SayTheSame (rewrite_in seat) (needed seat.node)
  seat_says tells = seats_say volume.num planning.nodes (old volume planning is) later held planning.plan (between volume planning is)
      (λ node. is_touched_between volume.first volume.history node (cut_of volume.cut node) (cut_of planning.raised node)) tells

  pub blocks_needed_are : HasTouchedPages volume planning → (need_of state (image_held volume) made).blocks ≡ sum_by blocks_taken change.seats
  blocks_needed_are tells =
      blocks_are_listed state (image_held volume) made (seated_nodes change) nodes_list
      ∙ ap blocks_needed (of_nodes change.seats)
      ∙ sym (needs_same rewrite_in (λ (seat : Seated). needed seat.node) change.seats
      (λ seat there. take_same (rewrite_in seat) (needed seat.node) (seat_says tells seat there)))
      ∙ needs_are_those change.seats

pub needs_are_the_books : NeedsAreTheBooks
needs_are_the_books volume used planning is tells = λ i. record {
  inodes = inodes_needed volume used planning is i;
  blocks = blocks_needed_are volume used planning is tells i;
}
