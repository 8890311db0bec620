-- What came of each step of a commit.
use Rattle.std.proofs.Common.{◌≡◌, ◌∙◌, ◌<◌, ℕ, zero, suc, true, false, nat_eq, List, [], length, Result, Ok, Err, refl, sym, ap, subst, arith, count_by, eqb-true, sum_by}
use Rattle.std.proofs.lemmas.List.{nil_from_length}
use Rattle.sfs_base.specs.Lists.{Roomy}
use Rattle.space_map.specs.declared.grant.Need.{Need}
use Rattle.space_map.specs.Space.{GrantedNumbers}
use Rattle.cut_laws.specs.Closure.{Flush}
use Rattle.disk_nodes.specs.declared.old.OldEntry.{OldEntry}
use Rattle.disk_change.specs.Planned.{Planned, as_u32, blocks_taken, enters}
use Rattle.disk_change.specs.declared.transaction.Built.{Built as BuiltNodes}
use Rattle.slot_laws.specs.declared.label.Seen.{Seen}
use Rattle.slot_laws.specs.Nodes.{no_numbers}
use Rattle.disk_box.specs.Pens.{PenGoes, PenHand}
use Rattle.journal_set.specs.declared.fault.Ack.{Ack}
use Rattle.journal_set.specs.declared.fault.CommitFault.{CommitFault}
use Rattle.journal_set.specs.Reserving.{ReserveRequest, Reserves}
use Rattle.journal_set.specs.Telling.{IsOneTurn, TellsCall, reserve_labels}
use Rattle.fsync_commit.specs.Asked.{CommitRequest, need_planned, reserving_of}
use Rattle.fsync_commit.specs.Coming.{HandsBack, ReservesItsNumber, IsUnnumbered, HandsLanded}
use Rattle.fsync_commit.specs.Granting.{IsBuiltOf}
use Rattle.fsync_commit.specs.declared.landing.CommitRefusal.{CommitRefusal}
use Rattle.fsync_commit.specs.declared.landing.Landed.{Landed}

-- a list of which none are, and one of which some are
pub none_are : {X : Type 0} (items : List X) → nat_eq (length items) 0 ≡ true → items ≡ []
none_are items is = nil_from_length items (eqb-true (length items) 0 is)

pub some_are : (count : ℕ) → nat_eq count 0 ≡ false → 0 < count
some_are zero is = absurd (cc (is))
some_are (suc count) is = omega arith

-- a grant of nothing has no numbers
pub nothing_granted : (grant : GrantedNumbers) → grant.inodes ≡ [] → grant.blocks ≡ [] → grant ≡ no_numbers
nothing_granted grant inodes blocks = λ i. record { inodes = inodes i; blocks = blocks i }

-- what a change needs
pub need_is : (change : Planned) (need : Need) → need.inodes ≡ as_u32 (count_by enters change.seats) → need.blocks ≡ as_u32 (sum_by blocks_taken change.seats)
    → need ≡ need_planned change
need_is change need inodes blocks = λ i. record { inodes = inodes i; blocks = blocks i }

-- what is handed out of what was built, and handed back
pub lands : (change : Planned) (grant : GrantedNumbers) (built : BuiltNodes) (ack : Ack) → IsBuiltOf change grant built
    → HandsLanded change grant ack (record { ack = ack; nodes = built.nodes })
lands change grant built ack of = record { ack_is = refl; old_is = of.old; after_is = of.after; ascends = of.ascends }

pub back : (change : Planned) (why : CommitFault) (refusal : CommitRefusal) (old : Roomy OldEntry) → refusal ≡ record { fault = why; old = old }
    → old.items ≡ change.old → HandsBack change why refusal
back change why refusal old is same = record {
  fault_is = ap (λ (r : CommitRefusal). r.fault) is;
  old_is = ap (λ (r : CommitRefusal). r.old.items) is ∙ same;
}

module _ {D : Type 0} (asked : CommitRequest) (before after : PenHand D) (need : Need) (same : need ≡ need_planned asked.change) where
  -- a reserving of so much is one of what the change needs
  abbrev asking : Need → ReserveRequest
  asking n = record { flush = asked.flush; seen = asked.seen; need = n }

  pub numbers : (grant : GrantedNumbers) → PenGoes before after → Reserves (asking need) before after (Ok grant)
      → TellsCall (IsOneTurn (reserve_labels before.view.core (asking need) (Ok grant))) before after → ReservesItsNumber asked before after grant
  numbers grant goes comes tells = record {
    goes = goes;
    comes = subst (λ n. Reserves (asking n) before after (Ok grant)) same comes;
    tells = subst (λ n. TellsCall (IsOneTurn (reserve_labels before.view.core (asking n) (Ok grant))) before after) same tells;
  }

  pub unnumbers : (why : CommitFault) → Reserves (asking need) before after (Err why)
      → TellsCall (IsOneTurn (reserve_labels before.view.core (asking need) (Err why))) before after → IsUnnumbered asked before after why
  unnumbers why comes tells = record {
    comes = subst (λ n. Reserves (asking n) before after (Err why)) same comes;
    tells = subst (λ n. TellsCall (IsOneTurn (reserve_labels before.view.core (asking n) (Err why))) before after) same tells;
  }
