-- A core that begins again, and one that has come to hold all.
use Rattle.std.proofs.Common.{◌≡◌, ℕ, Bool, true, false, ◌&&◌, [], ◌++◌, length, Option, Some, None, inl, inr, refl, sym, ap, ◌∙◌, arith, append-nil, append_assoc}
use borrow.Author.Tests.{eqb-true}
use Rattle.std.specs.Option.{option_and_then}
use Rattle.sfs_base.specs.Name.{bucket as name_bucket}
use Rattle.sfs_base.specs.declared.numbers.NodeId.{NodeId}
use Rattle.sfs_base.proofs.BasicTruth.{and_first, and_second, not_true, false_not_true}
use Rattle.sfs_base.proofs.BasicOptions.{none_some}
use Rattle.disk_nodes.specs.OldKept.{OldKept}
use Rattle.cut_laws.specs.Rules.{IsOneOf}
use Rattle.tree_laws.specs.History.{IsLegal}
use Rattle.tree_laws.specs.Tree.{TreeState}
use Rattle.stamp_table.specs.declared.event.Event.{Event}
use Rattle.stamp_table.specs.declared.view.View.{View}
use Rattle.stamp_table.specs.Events.{calls_in}
use Rattle.stamp_table.specs.Table.{IsBetweenCalls}
use Rattle.mem_values.specs.Start.{FileHand, FileState}
use Rattle.mem_values.specs.declared.cell_id.CellId.TheVariants as id
use Rattle.mem_values.specs.declared.fact.Fact.{Fact}
use Rattle.mem_calls.specs.Outcome.{IsRefusedMemory}
use Rattle.mem_calls.specs.Held.{as_bucket, bucket_held, HoldsPart}
use Rattle.mem_calls.specs.Table.{IsFileTable}
use Rattle.mem_calls.specs.Working.{IsWorking, WorksOn, StillHolds}
use Rattle.mem_calls.proofs.Left.{on_again}
use Rattle.mem_rename.specs.declared.sides.Move.{Move}
use Rattle.mem_rename.specs.declared.plans.Plan.{Plan}
use Rattle.mem_rename.specs.declared.settling.Settled.{Settled}
use Rattle.mem_rename.specs.Decisions.{look_seen, look_by}
use Rattle.mem_rename.specs.Plans.{no_plan, is_same_node, same_truth, is_plan, plan_by, asked_cells}
use Rattle.mem_rename.specs.Ready.{bucket_or}
use Rattle.mem_rename.specs.Rounds.{IsPlanWithin, HoldsRound, KeepsLook, SettlesRename, sight_settled, way_read}
use Rattle.mem_rename.proofs.SoFar.{holds_still}
use Rattle.mem_rename.proofs.Gathered.{way_stays}

pub refused_same : (t : FileState) (hand : FileHand) → IsBetweenCalls t hand → IsRefusedMemory t hand hand
refused_same t hand between = record {
  between = between;
  same = record { table = refl; cores = refl; leads = refl; number = refl };
  room = (let none = ap length between.holds_none in omega (arith, none));
  spare = refl;
  seen = ([], append-nil hand.view.seen);
  entries = refl;
  mine = refl;
}

pub refused_both : (t : FileState) (a b c : FileHand) → IsRefusedMemory t a b → IsRefusedMemory t b c → IsRefusedMemory t a c
refused_both t a b c one two = record {
  between = two.between;
  same = record {
    table = two.same.table ∙ one.same.table;
    cores = two.same.cores ∙ one.same.cores;
    leads = two.same.leads ∙ one.same.leads;
    number = two.same.number ∙ one.same.number;
  };
  room = (let r = one.room in let s = two.room in let none = ap length one.between.holds_none in omega (arith, r, s, none));
  spare = two.spare ∙ one.spare;
  seen = (one.seen.0 ++ two.seen.0, sym (append_assoc a.view.seen one.seen.0 two.seen.0) ∙ (ap (λ l. l ++ two.seen.0) one.seen.1 ∙ two.seen.1));
  entries = two.entries ∙ one.entries;
  mine = two.mine ∙ one.mine;
}

pub refused_after : (t : FileState) (a b c : FileHand) → WorksOn a b → IsRefusedMemory t b c → IsRefusedMemory t a c
refused_after t a b c on two = record {
  between = two.between;
  same = record {
    table = two.same.table ∙ ap (λ (h : FileHand). h.table) on.frame;
    cores = two.same.cores ∙ ap (λ (h : FileHand). h.cores) on.frame;
    leads = two.same.leads ∙ ap (λ (h : FileHand). h.leads) on.frame;
    number = two.same.number ∙ ap (λ (v : View TreeState (Event Fact)). v.core) on.view;
  };
  room = two.room ∙ on.room;
  spare = two.spare ∙ ap (λ (h : FileHand). h.spare) on.frame;
  seen = (on.seen.0 ++ two.seen.0, sym (append_assoc a.view.seen on.seen.0 two.seen.0) ∙ (ap (λ l. l ++ two.seen.0) on.seen.1 ∙ two.seen.1));
  entries = two.entries ∙ ap (λ (h : FileHand). h.entries) on.frame;
  mine = two.mine ∙ ap (λ (v : View TreeState (Event Fact)). v.mine) on.view;
}

pub none_within : (nodes : ℕ) → IsPlanWithin nodes no_plan
none_within nodes = record { comes = λ node is. absurd (none_some is); directory = λ node is. absurd (none_some is); file = λ node is. absurd (none_some is) }

node_same : (a b : Option NodeId) → is_same_node a b ≡ true → a ≡ b
node_same None None is = refl
node_same None (Some b) is = absurd (false_not_true is)
node_same (Some a) None is = absurd (false_not_true is)
node_same (Some a) (Some b) is = ap (λ (n : ℕ). Some (record { 0 = n })) (eqb-true _ _ is)

truth_same : (a b : Bool) → same_truth a b ≡ true → a ≡ b
truth_same true b is = sym is
truth_same false b is = sym (not_true b is)

-- two plans that are found to be one are one
pub plan_same : (a b : Plan) → is_plan a b ≡ true → a ≡ b
plan_same a b is =
    let four = and_first _ _ is in
    let three = and_first _ _ four in
    let two = and_first _ _ three in
    λ i. record {
      old_file = truth_same a.old_file b.old_file (and_first _ _ two) i;
      new_file = truth_same a.new_file b.new_file (and_second (same_truth a.old_file b.old_file) _ two) i;
      comes = node_same a.comes b.comes (and_second (same_truth a.old_file b.old_file && same_truth a.new_file b.new_file) _ three) i;
      directory = node_same a.directory b.directory
          (and_second (same_truth a.old_file b.old_file && same_truth a.new_file b.new_file && is_same_node a.comes b.comes) _ four) i;
      file = node_same a.file b.file
          (and_second (same_truth a.old_file b.old_file && same_truth a.new_file b.new_file && is_same_node a.comes b.comes
          && is_same_node a.directory b.directory) _ is) i;
    }

-- A round that holds what follows from it has settled once the own log is held.
module _ (given : ℕ → Option OldKept) (t : FileState) (nodes : ℕ) (table : IsFileTable t nodes) (move : Move) (settle : Settled) (next : Plan)
    (begun hand after : FileHand) (round : HoldsRound given t nodes move settle.plan (way_read settle) begun hand) (work : IsWorking given t after) (on : WorksOn hand after)
    (still : StillHolds nodes hand after) (legal : IsLegal after.view.first (calls_in after.view.seen)) where
  -- a bucket that was asked for is the same
  bucket_stays : (node : NodeId) (number : ℕ) → IsOneOf (asked_cells move settle.plan) (id.Bucket node number)
      → bucket_or (bucket_held nodes after.held node number) ≡ bucket_or (bucket_held nodes hand.held node number)
  bucket_stays node number among =
      let cell = round.cells (id.Bucket node number) among in
      ap (λ o. bucket_or (option_and_then as_bucket o)) (still.values (id.Bucket node number) cell.0 cell.1 ∙ sym cell.1)

  look_stays : look_seen (sight_settled nodes after.held move settle) move ≡ look_seen (sight_settled nodes hand.held move settle) move
  look_stays = λ i. look_by (bucket_stays move.directory (name_bucket move.name) (inl refl) i)
      (bucket_stays move.to_directory (name_bucket move.to_name) (inr (inl refl)) i) move

  pub settled : (start : FileHand) → IsPlanWithin nodes settle.plan → IsRefusedMemory t start begun → KeepsLook nodes hand.held move settle
      → next ≡ plan_by settle.look move → is_plan next settle.plan ≡ true → HoldsPart nodes after
      → SettlesRename given t nodes move settle start after
  settled start within again look asked same part = record {
    begun = begun;
    again = again;
    on = on_again begun hand after round.on on;
    within = within;
    look = look ∙ sym look_stays;
    ready = record {
      work = work;
      answered = ap (λ (h : FileHand). h.waiting) on.frame ∙ (ap (λ (h : FileHand). h.waiting) round.on.frame ∙ again.between.none_waits);
      part = part;
      cells = λ cell among. holds_still nodes hand after cell still (round.cells cell among);
      lock = λ comes. holds_still nodes hand after id.Lock still (round.lock comes);
      read = λ comes. way_stays given t nodes table move.to_directory.0 (way_read settle) hand after round.work work on still legal (round.lock comes).0
          (round.lock comes).1
          (round.read comes).holders;
      ends = round.ends;
      asked = sym (plan_same next settle.plan same) ∙ (asked ∙ ap (λ look. plan_by look move) (look ∙ sym look_stays));
    };
  }
