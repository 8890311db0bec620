-- What a core made for an fsync is one commit, whichever proof says that its plan is made so; and what the pair of it brings.
use Rattle.std.proofs.Common.{◌≡◌, ◌↔◌, Bool, true, refl, false, sym, ℕ, map, ap, length, []}
use Rattle.sfs_base.specs.Listed.{is_listed}
use Rattle.tree_laws.specs.NameRow.{node_number}
use Rattle.disk_change.specs.Nodes.{enter_node}
use Rattle.dep_closure.specs.Gathered.{look_of}
use Rattle.flush_plan.specs.Moved.{cuts_after}
use Rattle.plan_laws.specs.Leads.{found_from}
use Rattle.note_laws.specs.Run.{TableRun, calls_of}
use Rattle.note_laws.specs.Merged.{is_noted_by}
use Rattle.made_laws.specs.Made.{CoreMaking, IsPlanMade, is_concerned, sources_of}
use Rattle.made_laws.specs.Tells.{commit_made, earliest, mark_made, last_of_seen}

-- tests that are true of the same are one
same_test : {X : Type 0} (one other : Bool) → (one ≡ true) ↔ X → (other ≡ true) ↔ X → one ≡ other
same_test true true first second = refl
same_test true false first second = sym (second.1 (first.0 refl))
same_test false true first second = first.1 (second.0 refl)
same_test false false first second = refl

-- the nodes that get an inode are those that the rule of an fsync moves
same_gets : (making : CoreMaking) (one other : IsPlanMade making) (node : ℕ)
    → is_listed (map enter_node one.enter) node ≡ is_listed (map enter_node other.enter) node
same_gets making one other node =
    same_test (is_listed (map enter_node one.enter) node) (is_listed (map enter_node other.enter) node) (one.moves.moved.enters node)
    (other.moves.moved.enters node)

-- so the commit is one
pub same_commit_made : (run : TableRun) (making : CoreMaking) (one other : IsPlanMade making) (number : ℕ)
    → commit_made run making one number ≡ commit_made run making other number
same_commit_made run making one other number =
    ap (λ (gets : ℕ → Bool). record {
      number = number;
      look = look_of (record { 0 = making.noted.node }) (record { 0 = making.noted.stamp }) making.gathered;
      counts = is_noted_by run making.noted;
      late = earliest making.noted (length (calls_of run)) (length run.first.made);
      mark = mark_made run making;
      members = map node_number making.concern.members.items;
      holds = is_concerned making;
      last = λ node. last_of_seen (making.noted.pending node);
      makes = record {
        lifted = cuts_after (record { 0 = making.noted.stamp }) making.gathered making.concern;
        found = found_from (sources_of making []);
        gets = gets;
        loses = is_listed (map node_number making.plan.leave.items);
      };
    }) (λ i node. same_gets making one other node i)
