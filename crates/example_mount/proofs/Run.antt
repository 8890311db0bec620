-- The table of the two fsyncs has a run, in which both are under way before either commit is told.
use Rattle.std.specs.FinMap.{get}
use Rattle.std.specs.declared.alloc.Global.{Global}
use Rattle.std.proofs.Common.{◌<◌, ◌≡◌, ◌∙◌, ◌∷◌, ℕ, List, [], None, Option, Some, IsSome, ap, arith, cond, inl, inr, is_some, ne_eqb, nat_eq, option_map, refl, subst, sym, true}
use Rattle.sfs_base.proofs.BasicNumbers.{same_number}
use Rattle.sfs_base.proofs.BasicOptions.{none_some, some_same}
use Rattle.tree_laws.specs.Tree.{Node, TreeState, is_directory}
use Rattle.tree_laws.specs.History.{IsLegal, tree_after}
use Rattle.tree_laws.specs.declared.history.Entry.{Entry}
use Rattle.tree_laws.specs.declared.reply.Reply.TheVariants as reply
use Rattle.disk_nodes.specs.Nodes.{entry_old}
use Rattle.disk_nodes.specs.OldKept.{OldKept}
use Rattle.disk_nodes.specs.declared.old.OldEntry.{OldEntry}
use Rattle.cut_laws.specs.Rules.{IsOneOf, births_of}
use Rattle.beside_laws.proofs.Answers.{answers_tell_nothing}
use Rattle.merge_laws.specs.Worked.{TWO_CORES, BOTH_HISTORY, other_fsync, own_fsync}
use Rattle.merge_laws.proofs.Worked.{worked_legal}
use Rattle.mem_values.specs.Account.{Account, Commitment, Trimming, held_by, last_writer}
use Rattle.mem_values.specs.Facts.{HasFsync, IsLawfulLog, MayBeCommitted, MayHoldNode, RaisesMember}
use Rattle.mem_values.specs.Stands.{flushed_by, flushed_in}
use Rattle.mem_values.specs.Start.{given_by}
use Rattle.mem_values.specs.declared.fact.HeldNode.{HeldNode}
use Rattle.note_laws.specs.Run.{IsTableRun}
use Rattle.example_laws.specs.Fsyncs.{Flushing, entry_at}
use Rattle.example_laws.proofs.Telling.{IsTold as IsFlushed, first_told, second_told}
use Rattle.example_laws.proofs.Tree.{node_is, nothing_is_born, one_there, root_there, same_after, two_sound}
use Rattle.example_mount.specs.Table.{OTHER_FLUSH, OWN_FLUSH, TWO_TABLE, held_by_flush, table_log, two_run}

-- the two calls, which wait for their answers
abbrev pub CALLS : List Entry
CALLS = own_fsync reply.NoMemory None ∷ other_fsync reply.NoMemory None ∷ []

calls_legal : IsLegal TWO_CORES CALLS
calls_legal = worked_legal reply.NoMemory reply.NoMemory None None tt tt (λ s. cc, λ s. cc) (λ s. cc, λ s. cc)

-- they leave the tree as it is, and make no node
pub same_tree : tree_after TWO_CORES CALLS ≡ TWO_CORES
same_tree = (answers_tell_nothing TWO_CORES CALLS BOTH_HISTORY refl).whole ∙ same_after

pub none_born : births_of TWO_CORES CALLS ≡ []
none_born = (answers_tell_nothing TWO_CORES CALLS BOTH_HISTORY refl).births ∙ nothing_is_born

-- the disk has something of exactly the two nodes
pub given_exactly : (node : ℕ) → is_some (given_by TWO_TABLE node) ≡ is_some (get TWO_CORES.nodes node)
given_exactly node = elim (node_is node) [
  | inl known ↦ elim known [
    | inl root ↦
        ap (λ n. is_some (given_by TWO_TABLE n)) root
        ∙ sym (ap (λ n. is_some (get TWO_CORES.nodes n)) root ∙ ap (λ (o : Option Node). is_some o) root_there)
    | inr one ↦
        ap (λ n. is_some (given_by TWO_TABLE n)) one
        ∙ sym (ap (λ n. is_some (get TWO_CORES.nodes n)) one ∙ ap (λ (o : Option Node). is_some o) one_there)
  ]
  | inr none ↦
      ap (λ b. is_some (option_map entry_old (cond b (Some (entry_at 0)) (cond (nat_eq 1 node) (Some (entry_at 1)) None))))
      (ne_eqb 0 node (λ same. none.0 (sym same)))
      ∙ ap (λ b. is_some (option_map entry_old (cond b (Some (entry_at 1)) (let o : Option OldEntry = None in o)))) (ne_eqb 1 node (λ same. none.1 (sym same)))
      ∙ sym (ap (λ (o : Option Node). is_some o) none.2)
]

-- One of the two fsyncs in the mount: what the example of labels tells of it, what the disk has of its node, and its call.
pub record IsUnderWay (core : ℕ) (f : Flushing) : Type 0 where
  pub told : IsFlushed f
  pub low : f.node < 2
  pub some : 0 < f.number
  pub given : given_by TWO_TABLE f.node ≡ Some (entry_at f.node).old
  pub fsync : HasFsync CALLS core f.node f.stamp

pub own_way : IsUnderWay 0 OWN_FLUSH
own_way = record {
  told = record {
    directory = first_told.directory;
    some_node = first_told.some_node;
    live = first_told.live;
    low = first_told.low;
    kind = first_told.kind;
    entry = first_told.entry;
    is_entry = first_told.is_entry;
    needs = first_told.needs;
  };
  low = omega arith;
  some = omega arith;
  given = refl;
  fsync = record { entry = own_fsync reply.NoMemory None; among = inl refl; own = refl; stamped = refl; fsync = refl; waits = refl };
}

pub other_way : IsUnderWay 1 OTHER_FLUSH
other_way = record {
  told = record {
    directory = second_told.directory;
    some_node = second_told.some_node;
    live = second_told.live;
    low = second_told.low;
    kind = second_told.kind;
    entry = second_told.entry;
    is_entry = second_told.is_entry;
    needs = second_told.needs;
  };
  low = omega arith;
  some = omega arith;
  given = refl;
  fsync = record { entry = other_fsync reply.NoMemory None; among = inr (inl refl); own = refl; stamped = refl; fsync = refl; waits = refl };
}

-- a commit as the table's log has it
abbrev pub commitment_of : ℕ → Flushing → Commitment
commitment_of core f = record { core = core; number = f.number; node = f.node; stamp = f.stamp; members = f.node ∷ []; held = held_by_flush f ∷ [] }

pub holds_own : (core : ℕ) (f : Flushing) → held_by (commitment_of core f) f.node ≡ Some (held_by_flush f)
holds_own core f = ap (λ b. cond b (Some (held_by_flush f)) (let o : Option HeldNode = None in o)) (same_number f.node)

-- behind commits of which none holds its node and none is its core's, a commit may come
module _ (core : ℕ) (f : Flushing) (way : IsUnderWay core f) (commits : List Commitment) (trimmings : List Trimming)
    (none : last_writer f.node commits ≡ None) (others : (other : Commitment) → IsOneOf commits other → other.core ≡ core → ⊥) where
  abbrev account : Account
  account = record { calls = CALLS; commits = commits; trimmings = trimmings }

  never_flushed : (flushed_in (given_by TWO_TABLE) account f.node).cut ≡ 0
  never_flushed = ap (λ o. (flushed_by (given_by TWO_TABLE) f.node o).cut) none

  no_last : (flushed_in (given_by TWO_TABLE) account f.node).last ≡ 0
  no_last = ap (λ o. (flushed_by (given_by TWO_TABLE) f.node o).last) none

  may_hold : MayHoldNode (given_by TWO_TABLE) TWO_CORES account (commitment_of core f) (held_by_flush f)
  may_hold = record {
    node = subst (λ (tree : TreeState). IsSome (get tree.nodes f.node)) (sym same_tree) way.told.some_node;
    trimmed = λ writer member is. absurd (none_some (sym none ∙ is));
    later = let zero = no_last in let some = way.some in omega (arith, zero, some);
    rises = let zero = never_flushed in omega (arith, zero);
    within = way.told.low;
    stays = λ directory outside. absurd (outside (inl refl));
    below = λ kept is. let number = ap (λ (o : OldKept). o.number) (some_same is) in let low = way.low in omega (arith, number, low);
    root = λ root. refl;
  }

  raises : RaisesMember (commitment_of core f) f.node
  raises = (held_by_flush f, holds_own core f, omega arith)

  pub may_commit : MayBeCommitted (given_by TWO_TABLE) TWO_CORES account (commitment_of core f)
  may_commit = record {
    own = way.fsync;
    fresh = λ other one same number. others other one same;
    holds = λ held one. elim one [
      | inl same ↦ subst (MayHoldNode (given_by TWO_TABLE) TWO_CORES account (commitment_of core f)) same may_hold
      | inr never ↦ absurd never
    ];
    raises = λ directory one. elim one [ inl same ↦ subst (RaisesMember (commitment_of core f)) same raises | inr never ↦ absurd never ];
    directories = λ directory one. elim one [
      | inl same ↦
          subst (λ n. is_directory (tree_after TWO_CORES CALLS) n ≡ true) same
          (subst (λ (tree : TreeState). is_directory tree f.node ≡ true) (sym same_tree) way.told.directory)
      | inr never ↦ absurd never
    ];
  }

module _ (alloc : Global) where
  -- what was told may stand where it does
  lawful : IsLawfulLog (given_by TWO_TABLE) TWO_CORES (table_log alloc)
  lawful = (
    tt,
    (
      tt,
      (
        may_commit 1 OTHER_FLUSH other_way [] [] refl (λ other one. absurd one),
        (
          record { commit = commitment_of 1 OTHER_FLUSH; among = inl refl; own = refl; numbered = refl },
          (
            record { commit = commitment_of 1 OTHER_FLUSH; among = inl refl; own = refl; numbered = refl },
            (
              may_commit 0 OWN_FLUSH own_way (commitment_of 1 OTHER_FLUSH ∷ []) _ refl other_core,
              (
                record { commit = commitment_of 0 OWN_FLUSH; among = inr (inl refl); own = refl; numbered = refl },
                (record { commit = commitment_of 0 OWN_FLUSH; among = inr (inl refl); own = refl; numbered = refl }, tt),
              ),
            ),
          ),
        ),
      ),
    ),
  )
    where
      other_core : (other : Commitment) → IsOneOf (commitment_of 1 OTHER_FLUSH ∷ []) other → other.core ≡ 0 → ⊥
      other_core other one same = elim one [
        | inl is ↦ absurd (let wrong : 1 ≡ 0 = ap (λ (c : Commitment). c.core) is ∙ same in omega (arith, wrong))
        | inr never ↦ absurd never
      ]

  pub table_runs : IsTableRun (two_run alloc)
  table_runs = record { sound = two_sound; legal = calls_legal; lawful = lawful; disk = given_exactly }
