-- The worked table can be met.
use Rattle.std.specs.FinMap.{get}
use Rattle.std.specs.Option.{option_or}
use mathlib.Core.Logic.{dite}
use native.Mathlib.Decide.{ℕ_discrete}
use Rattle.std.proofs.Common.{◌∷◌, ◌≡◌, if◌then◌else◌, ◌≢◌, ◌∙◌, ◌<◌, ◌≤◌, ◌++◌, ◌==◌, ℕ, ⊎_elim, refl, find, [], Some, ap, eq-eqb, ne_eqb, None, subst, List, map, sym, inl, inr, Option, true, arith, false, IsSome, length, zero, suc, option_map, Bool, filter}
use Rattle.std.proofs.lemmas.Bool.{cases_Bool}
use Rattle.std.proofs.lemmas.List.Elements.{All-nil}
use Rattle.sfs_base.specs.declared.numbers.NodeId.{NodeId}
use Rattle.sfs_base.proofs.BasicOptions.{some_same}
use Rattle.tree_laws.specs.Tree.{TreeState, is_alive, is_directory, made_by}
use Rattle.tree_laws.specs.Footprints.{DoesNothing}
use Rattle.tree_laws.specs.Verdict.{verdict, tree_after_call}
use Rattle.tree_laws.specs.declared.call.Call.TheVariants as call
use Rattle.tree_laws.specs.Logged.{numbered_node, logged_by, is_logged_in}
use Rattle.tree_laws.specs.NameRow.{node_number, number_of}
use Rattle.tree_laws.specs.declared.history.Entry.{Entry}
use Rattle.tree_laws.specs.History.{MayCome, IsDue, IsLegal, tree_after, tree_after_entry}
use Rattle.tree_laws.specs.Merged.{is_core}
use Rattle.tree_laws.specs.declared.changes.Change.{Change}
use Rattle.tree_laws.proofs.KeepsNodes.{directory_node}
use Rattle.mem_cells.specs.Log.{is_from}
use Rattle.mem_cells.specs.Part.{mark_kept}
use Rattle.disk_nodes.specs.OldKept.{OldKept}
use Rattle.cut_laws.specs.Rules.{IsOneOf, births_of, births_by, Birth}
use Rattle.stamp_table.specs.declared.event.Event.{Event}
use Rattle.mem_values.specs.declared.fact.HeldNode.{HeldNode}
use Rattle.mem_values.specs.Account.{is_held_of, Commitment, held_by, Trimming, Account, last_writer, writes_by, account_of}
use Rattle.mem_values.specs.Worked.{WorkedCommit, IsWorkedCommit, AreWorkedNodes, worked_fsync, worked_log, IsWorkedPending, IsWorkedPart, TablesCanBeMet}
use Rattle.mem_values.specs.Telling.{commit_by}
use Rattle.mem_values.specs.declared.fact.Fact.{Fact}
use Rattle.mem_values.specs.Facts.{IsBelowInodes, MayHoldNode, MayBeCommitted, RaisesMember, IsLawfulLog, MayBeTrimmed, KeepsRoot}
use Rattle.mem_values.specs.Stands.{flushed_by, Flushed, IsTrimmedFor, StandsPending, StandsPart, KeepFrom}
use Rattle.mem_values.specs.Logs.{entry_logged, own_logged}
use Rattle.mem_values.specs.declared.cell.Pending.{Pending}
use Rattle.mem_values.specs.declared.cell.PartCell.{PartCell}
use Rattle.mem_values.proofs.Kept.{same_tree}

-- an fsync does nothing
fsync_quiet : (tree : TreeState) (core node : ℕ) → DoesNothing (verdict tree core (call.Fsync (numbered_node node)))
fsync_quiet tree core node =
    ⊎_elim (λ is. rw is (record { effect = refl; makes = refl })) (λ is. rw is (record { effect = refl; makes = refl })) (cases_Bool (is_alive tree node))

-- what is found among two held nodes
module _ (a b : HeldNode) where
  found_first : find (is_held_of a.node.0) (a ∷ b ∷ []) ≡ Some a
  found_first = ap (λ t. if t then Some a else find (is_held_of a.node.0) (b ∷ [])) (eq-eqb a.node.0 a.node.0 refl)

  found_second : a.node.0 ≢ b.node.0 → find (is_held_of b.node.0) (a ∷ b ∷ []) ≡ Some b
  found_second apart =
      ap (λ t. if t then Some a else find (is_held_of b.node.0) (b ∷ [])) (ne_eqb a.node.0 b.node.0 apart)
      ∙ ap (λ t. if t then Some b else None) (eq-eqb b.node.0 b.node.0 refl)

  found_none : (node : ℕ) → a.node.0 ≢ node → b.node.0 ≢ node → find (is_held_of node) (a ∷ b ∷ []) ≡ None
  found_none node not_a not_b =
      ap (λ t. if t then Some a else find (is_held_of node) (b ∷ [])) (ne_eqb a.node.0 node not_a)
      ∙ ap (λ t. if t then Some b else None) (ne_eqb b.node.0 node not_b)

-- a commit of the table, as it is told
module _ {inodes : ℕ} (third cut core number stamp : ℕ) (commit : WorkedCommit) (is : IsWorkedCommit inodes third cut commit) (apart : commit.own ≢ third) where
  abbrev told : Commitment
  told = commit_by core number (numbered_node commit.own) (record { 0 = stamp }) commit.members commit.held

  abbrev own_held : HeldNode
  own_held = record { node = numbered_node commit.own; new_cut = record { 0 = cut }; new = commit.new }

  abbrev third_held : HeldNode
  third_held = record { node = numbered_node third; new_cut = record { 0 = cut }; new = commit.new_third }

  holds_own : held_by told commit.own ≡ Some own_held
  holds_own = ap (find (is_held_of commit.own)) is.held_are ∙ found_first own_held third_held

  holds_third : held_by told third ≡ Some third_held
  holds_third = ap (find (is_held_of third)) is.held_are ∙ found_second own_held third_held apart

  holds_no_other : (node : ℕ) → commit.own ≢ node → third ≢ node → held_by told node ≡ None
  holds_no_other node not_own not_third = ap (find (is_held_of node)) is.held_are ∙ found_none own_held third_held node not_own not_third

  own_member : IsOneOf told.members commit.own
  own_member = subst (λ (l : List NodeId). IsOneOf (map node_number l) commit.own) (sym is.members_are) (inl refl)

  third_member : IsOneOf told.members third
  third_member = subst (λ (l : List NodeId). IsOneOf (map node_number l) third) (sym is.members_are) (inr (inl refl))

  -- what holds of both members holds of each
  each_member : (P : ℕ → Type 0) → P commit.own → P third → (member : ℕ) → IsOneOf told.members member → P member
  each_member P own other member among = elim (subst (λ (l : List NodeId). IsOneOf (map node_number l) member) is.members_are among) [
    | inl here ↦ subst P here own
    | inr there ↦ elim there [ inl here ↦ subst P here other | inr none ↦ absurd none ]
  ]

  -- and so it is of what is held
  each_held : (P : HeldNode → Type 0) → P own_held → P third_held → (held : HeldNode) → IsOneOf told.held held → P held
  each_held P own other held among = elim (subst (λ (l : List HeldNode). IsOneOf l held) is.held_are among) [
    | inl here ↦ subst P here own
    | inr there ↦ elim there [ inl here ↦ subst P here other | inr none ↦ absurd none ]
  ]

module _ (given : ℕ → Option OldKept) (first : TreeState) (third : ℕ) (one two : WorkedCommit) (nodes : AreWorkedNodes first one.own two.own third)
    (one_is : IsWorkedCommit first.first third 1 one) (two_is : IsWorkedCommit first.first third 2 two) where
  abbrev calls : List Entry
  calls = worked_fsync 0 0 one.own ∷ worked_fsync 1 1 two.own ∷ []

  abbrev log : List (Event Fact)
  log = worked_log one two

  abbrev c_one : Commitment
  c_one = told third 1 0 1 0 one one_is nodes.apart.1.0

  abbrev c_two : Commitment
  c_two = told third 2 1 2 1 two two_is nodes.apart.1.1

  same_after : (core node : ℕ) → tree_after_call first core (call.Fsync (numbered_node node)) ≡ first
  same_after core node = same_tree first core (call.Fsync (numbered_node node)) (fsync_quiet first core node)

  comes : (stamp core node : ℕ) → core < 2 → is_alive first node ≡ true → MayCome first stamp (worked_fsync stamp core node)
  comes stamp core node lt alive = record {
    stamped = refl;
    core = let n = nodes.cores in omega (arith, lt, n);
    due = subst (λ b. IsDue b (verdict first core (call.Fsync (numbered_node node))).reply (worked_fsync stamp core node).reply) (sym alive) tt;
    acknowledged =
        subst (λ b. Rattle.std.specs.Prelude.◌↔◌ (Rattle.std.specs.Prelude.IsSome (worked_fsync stamp core node).ack)
        (Rattle.std.specs.Prelude.IsTrue (Rattle.std.specs.Prelude.◌&&◌ b false)))
        (sym alive) ((λ is. absurd (cc)), (λ is. absurd (cc)));
  }

  legal : IsLegal first calls
  legal = (
    comes 0 0 one.own (omega arith) nodes.one_lives,
    subst (λ t. MayCome t 1 (worked_fsync 1 1 two.own) × Unit {0}) (sym (same_after 0 one.own)) (comes 1 1 two.own (omega arith) nodes.two_lives, tt),
  )

  tree_is : tree_after first calls ≡ first
  tree_is = ap (λ t. tree_after_entry t (worked_fsync 1 1 two.own)) (same_after 0 one.own) ∙ same_after 1 two.own

  directory_there : (node : ℕ) → is_directory first node ≡ true → is_directory (tree_after first calls) node ≡ true
  directory_there node is = ap (λ t. is_directory t node) tree_is ∙ is

  node_there : (node : ℕ) → is_directory first node ≡ true → IsSome (get (tree_after first calls).nodes node)
  node_there node is = directory_node (tree_after first calls) node (directory_there node is)

  abbrev trimmings_one : List Trimming
  trimmings_one = record { core = 0; number = 1; part = 0 } ∷ record { core = 0; number = 1; part = 1 } ∷ []

  abbrev before_one : Account
  before_one = record { calls = calls; commits = []; trimmings = [] }

  abbrev before_two : Account
  before_two = record { calls = calls; commits = c_one ∷ []; trimmings = trimmings_one }

  -- the first commit finds nothing flushed
  one_holds : (node : ℕ) (new : Option OldKept) → is_directory first node ≡ true → IsOneOf c_one.members node → IsBelowInodes first.first new
      → KeepsRoot node new → MayHoldNode given first before_one c_one (record { node = numbered_node node; new_cut = record { 0 = 1 }; new = new })
  one_holds node new is member inode root = record {
    node = node_there node is;
    trimmed = λ writer has last among part lt. absurd (cc last);
    later = omega arith;
    rises = omega arith;
    within = omega arith;
    stays = λ directory none. absurd (none member);
    below = inode;
    root = root;
  }

  one_may : MayBeCommitted given first before_one c_one
  one_may = record {
    own = record { entry = worked_fsync 0 0 one.own; among = inl refl; own = refl; stamped = refl; fsync = refl; waits = refl };
    fresh = λ other among core number. among;
    holds = each_held third 1 0 1 0 one one_is nodes.apart.1.0 (MayHoldNode given first before_one c_one)
        (one_holds one.own one.new nodes.one_is (own_member third 1 0 1 0 one one_is nodes.apart.1.0) one_is.inode_is one_is.root)
        (one_holds third one.new_third nodes.third_is (third_member third 1 0 1 0 one one_is nodes.apart.1.0) one_is.third_inode_is
        one_is.third_root);
    raises = each_member third 1 0 1 0 one one_is nodes.apart.1.0 (RaisesMember c_one)
        (own_held third 1 0 1 0 one one_is nodes.apart.1.0, holds_own third 1 0 1 0 one one_is nodes.apart.1.0, omega arith)
        (third_held third 1 0 1 0 one one_is nodes.apart.1.0, holds_third third 1 0 1 0 one one_is nodes.apart.1.0, omega arith);
    directories = each_member third 1 0 1 0 one one_is nodes.apart.1.0 (λ d. is_directory (tree_after first calls) d ≡ true)
        (directory_there one.own nodes.one_is) (directory_there third nodes.third_is);
  }

  -- what the first commit left
  left_own : last_writer one.own (c_one ∷ []) ≡ Some (c_one, own_held third 1 0 1 0 one one_is nodes.apart.1.0)
  left_own = ap (writes_by c_one) (holds_own third 1 0 1 0 one one_is nodes.apart.1.0)

  left_third : last_writer third (c_one ∷ []) ≡ Some (c_one, third_held third 1 0 1 0 one one_is nodes.apart.1.0)
  left_third = ap (writes_by c_one) (holds_third third 1 0 1 0 one one_is nodes.apart.1.0)

  left_two : last_writer two.own (c_one ∷ []) ≡ None
  left_two = ap (writes_by c_one) (holds_no_other third 1 0 1 0 one one_is nodes.apart.1.0 two.own nodes.apart.0 (λ same. nodes.apart.1.1 (sym same)))

  both_parts : (core number : ℕ) (rest : List Trimming) (part : ℕ) → part < length first.made
      → IsOneOf (record { core = core; number = number; part = 0 } ∷ record { core = core; number = number; part = 1 } ∷ rest)
      (record { core = core; number = number; part = part })
  both_parts core number rest zero lt = inl refl
  both_parts core number rest (suc zero) lt = inr (inl refl)
  both_parts core number rest (suc (suc part)) lt = absurd (let n = nodes.cores in omega (arith, lt, n))

  two_fresh : (other : Commitment) → IsOneOf (c_one ∷ []) other → other.core ≡ 1 → other.number ≡ 2 → ⊥
  two_fresh other among core number = elim among [
    | inl same ↦ (let n = ap (λ (c : Commitment). c.number) same in absurd (omega (arith, n, number)))
    | inr none ↦ none
  ]

  two_holds_own : MayHoldNode given first before_two c_two (own_held third 2 1 2 1 two two_is nodes.apart.1.1)
  two_holds_own = record {
    node = node_there two.own nodes.two_is;
    trimmed = λ writer has last among part lt. absurd (let never = sym left_two ∙ last in cc never);
    later = subst (λ (w : Option (Commitment × HeldNode)). (flushed_by given two.own w).last < 2) (sym left_two) (omega arith);
    rises = subst (λ (w : Option (Commitment × HeldNode)). (flushed_by given two.own w).cut ≤ 2) (sym left_two) (omega arith);
    within = omega arith;
    stays = λ directory none. absurd (none (own_member third 2 1 2 1 two two_is nodes.apart.1.1));
    below = two_is.inode_is;
    root = two_is.root;
  }

  two_holds_third : MayHoldNode given first before_two c_two (third_held third 2 1 2 1 two two_is nodes.apart.1.1)
  two_holds_third = record {
    node = node_there third nodes.third_is;
    trimmed = λ writer has last among part lt.
        subst (λ (w : Commitment × HeldNode). IsOneOf trimmings_one (record { core = w.0.core; number = w.0.number; part = part }))
        (some_same (sym left_third ∙ last)) (both_parts 0 1 [] part lt);
    later = subst (λ (w : Option (Commitment × HeldNode)). (flushed_by given third w).last < 2) (sym left_third) (omega arith);
    rises = subst (λ (w : Option (Commitment × HeldNode)). (flushed_by given third w).cut ≤ 2) (sym left_third) (omega arith);
    within = omega arith;
    stays = λ directory none. absurd (none (third_member third 2 1 2 1 two two_is nodes.apart.1.1));
    below = two_is.third_inode_is;
    root = two_is.third_root;
  }

  two_may : MayBeCommitted given first before_two c_two
  two_may = record {
    own = record { entry = worked_fsync 1 1 two.own; among = inr (inl refl); own = refl; stamped = refl; fsync = refl; waits = refl };
    fresh = two_fresh;
    holds = each_held third 2 1 2 1 two two_is nodes.apart.1.1 (MayHoldNode given first before_two c_two) two_holds_own two_holds_third;
    raises = each_member third 2 1 2 1 two two_is nodes.apart.1.1 (RaisesMember c_two)
        (own_held third 2 1 2 1 two two_is nodes.apart.1.1, holds_own third 2 1 2 1 two two_is nodes.apart.1.1, omega arith)
        (third_held third 2 1 2 1 two two_is nodes.apart.1.1, holds_third third 2 1 2 1 two two_is nodes.apart.1.1, omega arith);
    directories = each_member third 2 1 2 1 two two_is nodes.apart.1.1 (λ d. is_directory (tree_after first calls) d ≡ true)
        (directory_there two.own nodes.two_is) (directory_there third nodes.third_is);
  }

  lawful_told : IsLawfulLog given first log
  lawful_told =
      let one_trims : MayBeTrimmed (record before_one { commits = c_one ∷ [] }) 0 1 =
      record { commit = c_one; among = inl refl; own = refl; numbered = refl } in
      let two_trims : MayBeTrimmed (record before_two { commits = c_one ∷ c_two ∷ [] }) 1 2 =
      record { commit = c_two; among = inr (inl refl); own = refl; numbered = refl } in (
        tt,
        (
          tt,
          (
            one_may,
            (
              one_trims,
              (
                record { commit = c_one; among = inl refl; own = refl; numbered = refl },
                (two_may, (two_trims, (record { commit = c_two; among = inr (inl refl); own = refl; numbered = refl }, tt))),
              ),
            ),
          ),
        ),
      )

  none_born : births_of first calls ≡ []
  none_born =
      (λ i. births_by 0 ((fsync_quiet first 0 one.own).effect i) ((fsync_quiet first 0 one.own).makes i)
      ++ births_of (same_after 0 one.own i) (worked_fsync 1 1 two.own ∷ []))
      ∙ (λ i. births_by 1 ((fsync_quiet first 1 two.own).effect i) ((fsync_quiet first 1 two.own).makes i) ++ [])

  -- a commit that is the last one of a node leaves what goes home
  written_home : (node number : ℕ) (new : Option OldKept) (pending : Pending) (writer : Commitment × HeldNode) → last_writer node
      (c_one ∷ c_two ∷ []) ≡ Some writer
      → ◌≡◌ {A = Flushed} (record { cut = number; last = number; old = new })
      (record { cut = writer.1.new_cut.0; last = writer.0.number; old = writer.1.new })
      → ((part : ℕ) → part < length first.made → IsTrimmedFor (account_of log) writer.0 part) → IsWorkedPending pending number new
      → StandsPending given first (account_of log) node pending
  written_home node number new pending writer last wrote trimmed is = record {
    flushed = (λ i. record { cut = is.cut i; last = is.last i; old = is.old i }) ∙ (wrote ∙ ap (flushed_by given node) (sym last));
    made_in =
        ap number_of is.made_in ∙ sym (ap (λ l. option_map (λ (b : Birth). b.directory) (find (λ (b : Birth). b.node == node) l)) none_born);
    trimmed = λ other member other_last has part lt.
        subst (λ (w : Commitment × HeldNode). IsTrimmedFor (account_of log) w.0 part) (some_same (sym last ∙ other_last)) (trimmed part lt);
  }

  one_trimmed : (part : ℕ) → part < length first.made → IsTrimmedFor (account_of log) c_one part
  one_trimmed part lt = both_parts 0 1 (record { core = 1; number = 2; part = 0 } ∷ record { core = 1; number = 2; part = 1 } ∷ []) part lt

  two_trimmed : (part : ℕ) → part < length first.made → IsTrimmedFor (account_of log) c_two part
  two_trimmed part lt = inr (inr (both_parts 1 2 [] part lt))

  last_own : last_writer one.own (c_one ∷ c_two ∷ []) ≡ Some (c_one, own_held third 1 0 1 0 one one_is nodes.apart.1.0)
  last_own =
      ap (λ o. option_or (writes_by c_two o) (writes_by c_one (held_by c_one one.own)))
      (holds_no_other third 2 1 2 1 two two_is nodes.apart.1.1 one.own (λ same. nodes.apart.0 (sym same)) (λ same. nodes.apart.1.0 (sym same)))
      ∙ left_own

  last_two : last_writer two.own (c_one ∷ c_two ∷ []) ≡ Some (c_two, own_held third 2 1 2 1 two two_is nodes.apart.1.1)
  last_two = ap (λ o. option_or (writes_by c_two o) (writes_by c_one (held_by c_one two.own))) (holds_own third 2 1 2 1 two two_is nodes.apart.1.1)

  last_third : last_writer third (c_one ∷ c_two ∷ []) ≡ Some (c_two, third_held third 2 1 2 1 two two_is nodes.apart.1.1)
  last_third = ap (λ o. option_or (writes_by c_two o) (writes_by c_one (held_by c_one third))) (holds_third third 2 1 2 1 two two_is nodes.apart.1.1)

  nothing_logged : (tree : TreeState) (stamp by node : ℕ) → entry_logged tree (worked_fsync stamp by node) ≡ []
  nothing_logged tree stamp by node =
      λ i. logged_by tree by stamp ((fsync_quiet tree by node).effect i) ((fsync_quiet tree by node).makes i)

  none_logged : (core : ℕ) → own_logged first core calls ≡ []
  none_logged core = both (0 == core) (1 == core)
    where
      both : (a b : Bool) → (if a then entry_logged first (worked_fsync 0 0 one.own) else [])
          ++ ((if b then entry_logged (tree_after_entry first (worked_fsync 0 0 one.own)) (worked_fsync 1 1 two.own) else []) ++ []) ≡ []
      both true true = rw (nothing_logged first 0 0 one.own, nothing_logged (tree_after_entry first (worked_fsync 0 0 one.own)) 1 1 two.own) refl
      both true false = rw (nothing_logged first 0 0 one.own) refl
      both false true = rw (nothing_logged (tree_after_entry first (worked_fsync 0 0 one.own)) 1 1 two.own) refl
      both false false = refl

  one_entry : (core : ℕ) → core < 2 → length (filter (is_core core) calls) ≡ 1
  one_entry zero lt = refl
  one_entry (suc zero) lt = refl
  one_entry (suc (suc core)) lt = absurd (omega (arith, lt))

  parts_home : (core : ℕ) (part : PartCell) → core < 2 → IsWorkedPart first core third part → StandsPart first (account_of log) core part
  parts_home core part lt is = record {
    left = record {
      changes_left = λ d. is.changes d ∙ sym (ap (λ l. filter (is_from (mark_kept part.log d)) (filter (is_logged_in d) l)) (none_logged core));
      entries_counted = is.entries ∙ sym (one_entry core lt);
    };
    made = is.made ∙ sym (ap (λ t. made_by t core) tree_is);
    kept = record {
      capped = λ d. dite (ℕ_discrete d third)
          (λ same. inr (
            c_one,
            third_held third 1 0 1 0 one one_is nodes.apart.1.0,
            inl refl,
            ap (held_by c_one) same ∙ holds_third third 1 0 1 0 one one_is nodes.apart.1.0,
            (let m = ap (mark_kept part.log) same in let own = is.third_mark in omega (arith, m, own)),
          ))
          (λ other. inl (is.other_marks d other));
      trimmed = λ other d among trimmed member. subst (KeepFrom other.stamp) (sym (is.changes d)) (All-nil (λ (change : Change). other.stamp ≤ change.stamp.0));
    };
  }

pub tables_can_be_met : TablesCanBeMet
tables_can_be_met given first third one two nodes one_is two_is = record {
  lawful = record { legal_calls = legal given first third one two nodes one_is two_is; told = lawful_told given first third one two nodes one_is two_is };
  one_home = λ pending is. written_home given first third one two nodes one_is two_is one.own 1 one.new pending
      (c_one given first third one two nodes one_is two_is, own_held third 1 0 1 0 one one_is nodes.apart.1.0)
      (last_own given first third one two nodes one_is two_is) refl (one_trimmed given first third one two nodes one_is two_is) is;
  two_home = λ pending is. written_home given first third one two nodes one_is two_is two.own 2 two.new pending
      (c_two given first third one two nodes one_is two_is, own_held third 2 1 2 1 two two_is nodes.apart.1.1)
      (last_two given first third one two nodes one_is two_is) refl (two_trimmed given first third one two nodes one_is two_is) is;
  third_home = λ pending is. written_home given first third one two nodes one_is two_is third 2 two.new_third pending
      (c_two given first third one two nodes one_is two_is, third_held third 2 1 2 1 two two_is nodes.apart.1.1)
      (last_third given first third one two nodes one_is two_is) refl (two_trimmed given first third one two nodes one_is two_is) is;
  parts_home = parts_home given first third one two nodes one_is two_is;
}
