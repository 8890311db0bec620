-- An fsync whose commit has become durable may end.
use Rattle.std.proofs.Common.{◌≡◌, ◌∙◌, ◌≤◌, ℕ, List, map, length, Option, Some, refl, sym, ap, subst}
use Rattle.std.proofs.lemmas.List.{length-map}
use Rattle.std.specs.List.Sorted.{IsStrictlyIncreasing}
use Rattle.sfs_base.specs.declared.numbers.NodeId.{NodeId}
use Rattle.sfs_base.specs.declared.numbers.Stamp.{Stamp}
use Rattle.tree_laws.specs.NameRow.{node_number}
use Rattle.tree_laws.specs.Tree.{TreeState}
use Rattle.tree_laws.specs.History.{tree_after}
use Rattle.disk_nodes.specs.OldKept.{OldKept}
use Rattle.disk_nodes.specs.declared.old.OldEntry.{OldEntry}
use Rattle.stamp_table.specs.Events.{calls_in, told_by}
use Rattle.stamp_table.specs.Table.{IsBetweenCalls, values_in, with_values}
use Rattle.stamp_table.specs.declared.event.Event.{Event}
use Rattle.stamp_table.specs.declared.held.HeldCell.{HeldCell}
use Rattle.stamp_table.specs.declared.view.View.{View}
use Rattle.mem_values.specs.Account.{commit_told}
use Rattle.mem_values.specs.Start.{FileHand, FileState, given_by}
use Rattle.mem_values.specs.Telling.{MayTellCommit}
use Rattle.mem_values.specs.declared.cell.Cell.{Cell}
use Rattle.mem_values.specs.declared.fact.Fact.{Fact}
use Rattle.mem_calls.specs.Table.{IsFileTable}
use Rattle.mem_calls.specs.Working.{IsWorking}
use Rattle.fsync_look.specs.Look.{flushed_place}
use Rattle.fsync_catch.specs.declared.looking.WaitingFsync.{WaitingFsync}
use Rattle.fsync_commit.specs.declared.landing.Landed.{Landed}
use Rattle.fsync_draft.proofs.Drafts.{back_again, hollow_long, value_of}
use Rattle.fsync_values.specs.Renewing.{boxes_asked, values_renewed}
use Rattle.fsync_end.specs.Finishing.{AreWritten, Finishes, MayEnd, TellsEnding}
use Rattle.fsync_end.specs.declared.finishing.Ending.{Ending}
use Rattle.landing_laws.specs.Telling.{HasLanded, tree_seen}
use Rattle.landing_laws.specs.Written.{nodes_wrote}
use Rattle.landing_laws.proofs.ToldDrafts.{landed_may_be_told}
use Rattle.landing_laws.proofs.Written.{renewed_are_written}
use Rattle.landing_laws.specs.Landed.{LandedFsync, commitment_of, done_of, nodes_landed}
use Rattle.landing_laws.proofs.Landed.{fsyncs_have_landed}
use Rattle.fsync_dir.specs.Ending.{HasLandedHere, LandsSo, nodes_told}
use Rattle.fsync_dir.specs.declared.ending.PlanLeft.{PlanLeft}
use Rattle.fsync_dir.proofs.Told.{fact_of, lents_ask, lents_renewed, told_is_written}

-- The commit as it lands: the table, its number of nodes, the fsync, what is left of the plan, what the commit hands out, and the core.
pub record EndPlace : Type 0 where
  pub t : FileState
  pub nodes : ℕ
  pub fsync : WaitingFsync
  pub left : PlanLeft
  pub landed : Landed
  pub s : LandedFsync
  pub hand : FileHand

pub record LandsThere (e : EndPlace) : Type 0 where
  pub table : IsFileTable e.t e.nodes
  pub is : HasLandedHere e.t e.fsync e.left e.landed e.s e.hand

module _ (e : EndPlace) (there : LandsThere e) where
  abbrev s : LandedFsync
  s = e.s

  abbrev held : List (HeldCell Cell)
  held = s.planned.hand.held

  abbrev list : List NodeId
  list = nodes_landed s

  abbrev is : HasLandedHere e.t e.fsync e.left e.landed s e.hand
  is = there.is

  nodes_same : s.planned.nodes ≡ e.nodes
  nodes_same = is.durable.table.counted ∙ sym there.table.counted

  lands : HasLanded s.planned.given s.planned.nodes list s.planned.hand (done_of s) (commitment_of s)
  lands = fsyncs_have_landed e.t s is.durable

  count_held : length held ≡ length list
  count_held =
      sym (length-map held (λ (c : HeldCell Cell). c.place)) ∙ (ap length lands.holds.places ∙ length-map list (flushed_place s.planned.nodes))

  -- what renewing asks
  pub count : length e.left.values.items ≡ length e.left.nodes.items
  count = ap length is.lent
      ∙ (length-map (values_in held) Rattle.fsync_values.specs.Lending.lent_value
      ∙ (length-map held value_of
      ∙ (count_held ∙ ap length (sym is.nodes_are))))

  pub ascend : IsStrictlyIncreasing (map node_number e.left.nodes.items)
  ascend = subst (λ (l : List NodeId). IsStrictlyIncreasing (map node_number l)) (sym is.nodes_are) lands.holds.ascend

  pub members_ascend : IsStrictlyIncreasing (map node_number e.left.members.items)
  members_ascend = subst (λ (l : List NodeId). IsStrictlyIncreasing (map node_number l)) (sym is.members_are)
      is.durable.planned.members_ascend

  pub enough : (after : List OldEntry) → boxes_asked after e.left.nodes.items e.left.values.items ≤ length e.left.spares.items
  enough after = subst (λ (n : ℕ). n ≤ length e.left.spares.items)
      (sym (ap (boxes_asked after e.left.nodes.items) is.lent ∙ lents_ask after e.left.nodes.items (values_in held)))
      (is.boxes after e.left.nodes.items)

  -- the renewed values are those of what the core knew
  renewed_same : values_renewed (record { number = e.landed.ack.commit; stamp = e.fsync.stamp }) e.left.members.items e.landed.nodes.after e.left.nodes.items
      e.left.values.items
      ≡ values_renewed (done_of s).renewal (done_of s).members (done_of s).after list (values_in held)
  renewed_same =
      (λ i. values_renewed (record { number = sym is.number_is i; stamp = ap (λ (f : WaitingFsync). f.stamp) (sym is.fsync_is) i }) (is.members_are i)
      (is.after_is i)
      (is.nodes_are i) (is.lent i))
      ∙ lents_renewed (done_of s).renewal (done_of s).members (done_of s).after list (values_in held)

  module _ (ending : Ending) (number_is : ending.number ≡ e.landed.ack.commit) (node_is : ending.node ≡ e.fsync.node) (stamp_is : ending.stamp ≡ e.fsync.stamp)
      (members_are : ending.members.items ≡ e.left.directories.items) (nodes_are : ending.nodes.items ≡ e.left.nodes.items)
      (values_are : ending.values.items
      ≡ values_renewed (record { number = e.landed.ack.commit; stamp = e.fsync.stamp }) e.left.members.items e.landed.nodes.after e.left.nodes.items
      e.left.values.items) where
    view_same : e.hand.view ≡ s.planned.hand.view
    view_same = ap (λ (h : FileHand). h.view) is.hollow.after_is

    core_same : e.hand.view.core ≡ s.planned.hand.view.core
    core_same = ap (λ (v : View TreeState (Event Fact)). v.core) view_same

    told_held : nodes_told ending.nodes.items ending.values.items ≡ nodes_wrote (done_of s) list (values_in held)
    told_held =
        (λ i. nodes_told ((nodes_are ∙ is.nodes_are) i) ((values_are ∙ renewed_same) i))
        ∙ told_is_written s.planned.nodes (done_of s) list held lands.holds.places lands.holds.ascend lands.holds.held

    pub tells_core : (core : ℕ) → core ≡ s.planned.hand.view.core → commit_told (told_by core (fact_of ending) 0) ≡ Some (commitment_of s)
    tells_core core same = λ i. Some (record {
      core = same i;
      number = (number_is ∙ sym is.number_is) i;
      node = (ap (λ (n : NodeId). n.0) node_is ∙ ap (λ (f : WaitingFsync). f.node.0) (sym is.fsync_is)) i;
      stamp = (ap (λ (n : Stamp). n.0) stamp_is ∙ ap (λ (f : WaitingFsync). f.stamp.0) (sym is.fsync_is)) i;
      members = map node_number ((members_are ∙ is.directories_are) i);
      held = told_held i;
    })

    tells : TellsEnding e.hand.view.core (fact_of ending) ending (commitment_of s)
    tells = record {
      tells = tells_core e.hand.view.core core_same;
      numbered = is.number_is ∙ sym number_is;
      of_node = ap (λ (f : WaitingFsync). f.node.0) is.fsync_is ∙ ap (λ (n : NodeId). n.0) (sym node_is);
      stamped = ap (λ (f : WaitingFsync). f.stamp.0) is.fsync_is ∙ ap (λ (n : Stamp). n.0) (sym stamp_is);
      members_are = ap (map node_number) (sym (members_are ∙ is.directories_are));
    }

    back : record e.hand { held = with_values (values_in held) e.hand.held } ≡ s.planned.hand
    back = back_again s.planned.hand e.hand (record e.hand { held = with_values (values_in held) e.hand.held }) is.hollow refl

    held_back : with_values (values_in held) e.hand.held ≡ held
    held_back = ap (λ (h : FileHand). h.held) back

    tree_same : tree_seen s.planned.hand ≡ tree_after e.t.first (calls_in e.hand.view.seen)
    tree_same = λ i. tree_after (is.durable.work.first i) (calls_in (sym view_same i).seen)

    written : AreWritten (tree_after e.t.first (calls_in e.hand.view.seen)) e.nodes (commitment_of s) (with_values (values_in held) e.hand.held)
        ending.values.items
    written =
        subst (λ (z : TreeState × ℕ × List (HeldCell Cell) × List Cell). AreWritten z.0 z.1 (commitment_of s) z.2 z.3)
        (λ i. (tree_same i, nodes_same i, sym held_back i, sym (values_are ∙ renewed_same) i))
        (renewed_are_written (tree_seen s.planned.hand) s.planned.nodes list held (done_of s) (commitment_of s) lands.holds)

    -- so it may end
    pub may_end : MayEnd (given_by e.t) e.t e.nodes (Some (fact_of ending)) ending e.hand
    may_end = record {
      told = fact_of ending;
      told_is = refl;
      commit = commitment_of s;
      tells = tells;
      may = subst (λ (z : (ℕ → Option OldKept) × View TreeState (Event Fact)). MayTellCommit z.0 z.1 (commitment_of s))
          (λ i. (is.given_is i, sym view_same i))
          (landed_may_be_told s.planned.given s.planned.nodes list s.planned.hand (done_of s) (commitment_of s) lands);
      known = values_in held;
      as_many = length-map held value_of ∙ sym (hollow_long s.planned.hand e.hand is.hollow);
      work = subst (IsWorking (given_by e.t) e.t) (sym back)
          (subst (λ given. IsWorking given e.t s.planned.hand) is.given_is is.durable.work);
      written = written;
    }

    -- and has ended so
    pub lands_so : (after : FileHand) → ending.ack ≡ e.landed.ack.moment → IsBetweenCalls e.t after
        → Finishes (given_by e.t) (length e.t.first.made) (fact_of ending) ending e.hand after
        → LandsSo e.t e.fsync s e.landed.ack e.hand after
    lands_so after ack_is between finishes = record {
      told = fact_of ending;
      tells = tells_core e.hand.view.core core_same;
      ending = ending;
      number_is = number_is ∙ sym is.number_is;
      stamp_is = stamp_is;
      members_are = members_are ∙ is.directories_are;
      ack_is = ack_is;
      between = between;
      finishes = finishes;
    }
