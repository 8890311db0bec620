-- A core that flushes the root before any other call may reserve.
use Rattle.std.specs.FinMap.{get}
use Rattle.std.proofs.Common.{◌<◌, ◌≡◌, ◌∙◌, ◌∷◌, if◌then◌else◌, ◌==◌, ◌++◌, ℕ, Option, length, is_some, refl, Bool, List, cond, [], true, false, slice_index_or, replicate, zero, suc, Some, inl, sym, ap, inr, None, ne_eqb, subst, eqb-true, eq-eqb, arith, IsSome, filter}
use Rattle.std.proofs.lemmas.Bool.{cases_eq}
use Rattle.std.proofs.lemmas.List.{length-replicate}
use Rattle.sfs_base.specs.Listed.{is_listed}
use Rattle.sfs_base.proofs.BasicOptions.{some_same}
use Rattle.sfs_base.proofs.BasicTruth.{false_not_true, true_not_false}
use Rattle.tree_laws.specs.Tree.{TreeState}
use Rattle.tree_laws.specs.Laws.{IsSoundTree}
use Rattle.tree_laws.specs.declared.changes.Change.{Change}
use Rattle.tree_laws.specs.History.{tree_after}
use Rattle.tree_laws.specs.Logged.{is_logged_in}
use Rattle.tree_laws.specs.Merged.{is_core}
use Rattle.tree_laws.proofs.KeepsNodes.{directory_node}
use Rattle.mem_cells.specs.Part.{CoreLog, changes_kept}
use Rattle.mem_cells.specs.Log.{is_from}
use Rattle.disk_nodes.specs.OldKept.{OldKept}
use Rattle.cut_laws.proofs.Basics.{none_some}
use Rattle.look_laws.specs.Look.{Gathers, Touches, itself, other_side, ended, ancestor, birth_place, member, named}
use Rattle.beside_laws.specs.Commits.{CoreCommit, IsByItsLook}
use Rattle.beside_laws.specs.Box.{KnewLast}
use Rattle.core_logs.specs.Logs.{blank_part}
use Rattle.stamp_table.specs.declared.event.Event.TheVariants.{Called}
use Rattle.mem_values.specs.declared.cell.Pending.{Pending}
use Rattle.mem_values.specs.Stands.{StandsPending}
use Rattle.mem_values.specs.Account.{account_of}
use Rattle.home_laws.specs.Laws.{IsNodeOf}
use Rattle.note_laws.specs.Run.{TableRun, IsTableRun}
use Rattle.note_laws.specs.Worked.{run_of_one, root_notes, root_commit, root_pending, ROOT_FSYNC, ROOT_GATHERED, root_reserving, NotesCanBeMet}
use Rattle.note_laws.specs.Notes.{CoreNotes, IsNotedPart}
use Rattle.note_laws.specs.Joined.{IsMadeFromNotes, MayReserve}

some_true : {X : Type 0} (o : Option X) → IsSome o → is_some o ≡ true
some_true None some = absurd (cc some)
some_true (Some x) some = refl

module _ (given : ℕ → Option OldKept) (first : TreeState) (sound : IsSoundTree first) (some : 0 < length first.made)
    (disk : (node : ℕ) → is_some (given node) ≡ is_some (get first.nodes node)) where
  abbrev run : TableRun
  run = run_of_one given first

  abbrev noted : CoreNotes
  noted = root_notes given first

  abbrev commit : CoreCommit
  commit = root_commit given first

  table : IsTableRun run
  table = record {
    sound = sound;
    legal = (record { stamped = refl; core = some; due = tt; acknowledged = (λ has. cc has, λ never. absurd (cc never)) }, tt);
    lawful = (tt, tt);
    disk = disk;
  }

  nothing_logged : (b : Bool) → ◌≡◌ {A = List Change} (cond b [] []) []
  nothing_logged true = refl
  nothing_logged false = refl

  blank_there : (n part : ℕ) → slice_index_or (replicate n blank_part) part blank_part ≡ blank_part
  blank_there zero part = refl
  blank_there (suc n) zero = refl
  blank_there (suc n) (suc part) = blank_there n part

  own_value : (node : ℕ) (value : Pending) → noted.pending node ≡ Some value → (node ≡ 0) × (value ≡ root_pending given)
  own_value node value is = elim (cases_eq node 0) [
    | inl root ↦ (root, sym (some_same (ap noted.pending (sym root) ∙ is)))
    | inr other ↦ absurd (none_some (ap (λ b. cond b (Some (root_pending given)) (let o : Option Pending = None in o)) (sym (ne_eqb node 0 other)) ∙ is))
  ]

  noted_part : (part : ℕ) → part < length first.made → IsNotedPart run noted part
  noted_part part known = record {
    rest = [];
    whole = refl;
    stamped = record { entry = ROOT_FSYNC; among = inl refl; own = refl; stamped = refl; fsync = refl; waits = refl };
    left = λ directory.
        ap (λ (log : CoreLog). changes_kept log directory) (blank_there (length first.made) part)
        ∙ sym (ap (λ (l : List Change). filter (is_from 0) (filter (is_logged_in directory) (l ++ []))) (nothing_logged (is_core part ROOT_FSYNC)));
    marks = record { capped = λ directory. inl refl; trimmed = λ commit directory one. absurd one };
    stands = λ node value is. let own = own_value node value is in
        subst (λ n. StandsPending given first (account_of (Called ROOT_FSYNC ∷ [])) n value) (sym own.0)
        (subst (StandsPending given first (account_of (Called ROOT_FSYNC ∷ [])) 0) (sym own.1)
        (record { flushed = refl; made_in = refl; trimmed = λ writer member never. absurd (none_some never) }));
  }

  root_gathered : (node : ℕ) → Gathers commit.look node → node ≡ 0
  root_gathered node itself = refl
  root_gathered node (other_side one other gathers sight is) = absurd sight.is_noted
  root_gathered node (ended one gathers sight is) = absurd sight.is_noted
  root_gathered node (ancestor one other gathers sight is) = absurd sight.is_noted
  root_gathered node (birth_place born gathers one inode sees) = absurd one

  root_touched : (node : ℕ) → Touches commit.look node → node ≡ 0
  root_touched node (member other gathers) = root_gathered node gathers
  root_touched node (named one gathers sight) = absurd sight.is_noted

  gathers_root : (node : ℕ) → node ≡ 0 → Gathers commit.look node
  gathers_root node same = subst (Gathers commit.look) (sym same) itself

  by_look : IsByItsLook commit
  by_look = record {
    members = λ node. (
      λ one. elim one [ inl same ↦ gathers_root node (sym same) | inr never ↦ absurd never ],
      λ gathers. inl (sym (root_gathered node gathers)),
    );
    holds = λ node. (
      λ holds. member node (gathers_root node (eqb-true node 0 holds)),
      λ touched. eq-eqb node 0 (root_touched node touched),
    );
    makes = record {
      lifts = record { members = λ node gathers. refl; others = λ node. inr refl };
      moved = record {
        enters = λ node. (
          λ never. absurd (false_not_true never),
          λ must. absurd (true_not_false (sym (ap (is_listed (0 ∷ [])) (root_touched node must.1)) ∙ must.0)),
        );
        leaves = λ node. (λ never. absurd (false_not_true never), λ must. absurd (must.2.no_root (root_touched node must.1)));
      };
    };
    blank = λ node holds. refl;
  }

  root_node : IsNodeOf (tree_after first (ROOT_FSYNC ∷ [])) 0
  root_node = directory_node first 0 sound.sound.root

  made : IsMadeFromNotes run (record { noted = noted; gathered = ROOT_GATHERED; commit = commit })
  made = record {
    some_core = some;
    has = record { as_many = length-replicate (length first.made) blank_part; each = noted_part };
    merged = record {
      copies = noted.parts;
      as_many = refl;
      keep = λ part known. record {
        each = λ directory. inl refl;
        own = λ directory own. refl;
        naming = λ directory change one child. refl;
      };
      merged = record {
        merged = λ log one. absurd one;
        whole = λ part directory known. inl (ap (λ (log : CoreLog). changes_kept log directory) (blank_there (length first.made) part));
      };
    };
    look = refl;
    by_look = by_look;
    counts = refl;
    early = λ part known. omega arith;
    late = λ stamp low. low 0 some;
    marks = record {
      directories = λ stamp node kind. ap (λ b. if b then 0 else (if node == 0 then 0 else 1)) kind;
      held = λ stamp node kind holds.
          ap (λ b. if b then 0 else (if node == 0 then 0 else 1)) kind ∙ ap (λ b. if b then 0 else 1) holds;
      others = λ stamp node kind holds.
          ap (λ b. if b then 0 else (if node == 0 then 0 else 1)) kind ∙ ap (λ b. if b then 0 else 1) holds;
    };
    seen = λ node holds. let root = eqb-true node 0 holds in (
      root_pending given,
      record {
        seen = ap noted.pending root;
        cut = refl;
        inode = ap (is_listed (0 ∷ [])) root ∙ sym (disk 0 ∙ some_true (get first.nodes 0) (directory_node first 0 sound.sound.root));
        last = refl;
        born = λ directory. (λ one. absurd one, λ never. absurd (none_some never));
        part = 0;
        known = some;
        there = subst (IsNodeOf (tree_after first (ROOT_FSYNC ∷ []))) (sym root) root_node;
      },
    );
  }

  may : MayReserve (root_reserving given first)
  may = record {
    table = table;
    notes = made;
    all_of = record { by_look = λ other one. absurd one; notes = λ other one. absurd one; told = λ told one. absurd one };
    box_knows = record {
      unmoved = record { none_open = λ other one. absurd one; knew = λ node holds. KnewLast.nobody (λ other one. absurd one) refl };
      gives = record {
        later = record { other_number = λ other one. absurd one; greater = λ other one. absurd one };
        apart = λ other one. absurd one;
        other_open = λ other one. absurd one;
        known = λ other node one. absurd one;
        behind = λ other node one. absurd one;
      };
      among = λ other one. absurd one;
      told = λ other one. absurd one;
    };
  }

pub notes_can_be_met : NotesCanBeMet
notes_can_be_met given first sound some disk = may given first sound some disk
