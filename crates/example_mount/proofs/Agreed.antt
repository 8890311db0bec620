-- Each core and its pen have come to the end of the mount, and agree on its fsync.
use base.Growing.{prefix_refl}
use Rattle.std.specs.declared.alloc.Global.{Global}
use Rattle.std.proofs.Common.{◌<◌, ◌≡◌, ◌∙◌, ◌∷◌, Some, List, None, [], ap, arith, false, inl, inr, is_some, filter, filter_map, refl, subst, sym, ℕ, Bool, cond, option_map, true, nat_eq, Option, ne_eqb, Contains, zero, suc}
use Rattle.std.proofs.lemmas.Bool.{cases_eq}
use Rattle.sfs_base.specs.declared.numbers.NodeId.{NodeId}
use Rattle.sfs_base.specs.declared.numbers.SpaceKind.{SpaceKind}
use Rattle.sfs_base.proofs.BasicTruth.{or_false}
use Rattle.sfs_base.proofs.BasicOptions.{some_same, none_some}
use Rattle.tree_laws.specs.declared.call.Call.TheVariants as call
use Rattle.tree_laws.specs.declared.history.Entry.{Entry}
use Rattle.tree_laws.specs.declared.reply.Reply.TheVariants as reply
use Rattle.tree_laws.specs.Merged.{is_core}
use Rattle.tree_laws.specs.declared.turns.Turn.{Turn}
use Rattle.tree_laws.specs.declared.turns.TurnAct.{TurnAct}
use Rattle.tree_laws.specs.declared.turns.TurnAct.TheVariants as act
use Rattle.disk_nodes.specs.OldKept.{OldKept}
use Rattle.disk_nodes.specs.declared.old.OldEntry.{OldEntry}
use Rattle.disk_change.specs.AllBuilt.{after_commit, entry_keyed}
use Rattle.disk_change.specs.Planned.{as_u32}
use Rattle.disk_change.specs.Records.{records_written}
use Rattle.commit_laws.specs.CommitOfPlan.{change_planned}
use Rattle.cut_laws.specs.Rules.{IsOneOf}
use Rattle.turn_laws.specs.Ways.{at_once}
use Rattle.turn_laws.proofs.Causes.{fsync_same}
use Rattle.merge_laws.specs.Pens.{IsTurnOf}
use Rattle.merge_laws.specs.Worked.{BOTH_HISTORY}
use Rattle.merge_laws.proofs.Worked.{goes_with, never_durable, of_each}
use Rattle.mem_values.specs.Account.{Commitment, account_of, commit_told, last_writer, held_by}
use Rattle.mem_values.specs.Start.{FileHand}
use Rattle.mem_values.specs.declared.fact.HeldNode.{HeldNode}
use Rattle.note_laws.specs.Run.{IsToldIn}
use Rattle.made_laws.specs.Made.{is_concerned}
use Rattle.made_laws.specs.Tells.{last_of_seen}
use Rattle.slot_laws.specs.Nodes.{last_seen}
use Rattle.slot_laws.specs.Rules.{IsTurnBy}
use Rattle.slot_laws.specs.Telling.{TellTurns, events_in, turns_in}
use Rattle.slot_laws.specs.Labels.{nothing_told}
use Rattle.slot_laws.specs.Worked.{seen_one}
use Rattle.slot_laws.specs.declared.label.Seen.{Seen}
use Rattle.disk_box.specs.Pens.{PenHand}
use Rattle.journal_set.specs.Numbering.{numbers_reserved}
use Rattle.example_laws.specs.Fsyncs.{Flushing, NO_GRANT, commit_plan, entry_at}
use Rattle.example_laws.specs.Image.{TWELVE_BLOCKS}
use Rattle.example_laws.proofs.Labels.{last_none}
use Rattle.example_laws.proofs.Mapped.{transaction_none, tx_of}
use Rattle.example_laws.proofs.Tree.{history_legal}
use Rattle.pen_laws.specs.Agreement.{IsServedFsync}
use Rattle.flush_agrees.specs.Agreement.{CoresAgree, EntryAgrees, FlushAgrees, FlushTold, HasFlushFor, IsToldOfOne, NumbersHave, ToldInSight, turns_of}
use Rattle.flush_agrees.specs.Closing.{ReachesEnd}
use Rattle.flush_agrees.specs.Made.{FlushMade, GrantsNeed, SeesConcerned, TurnMade, LeavesOfNode}
use Rattle.end_laws.specs.Reaches.{CoreReaches}
use Rattle.example_mount.specs.Box.{TURN_BY_TURN, ends_at, flush_turn, pen_at_end}
use Rattle.example_mount.specs.Mount.{flush_told, flush_made, two_mount}
use Rattle.example_mount.specs.Making.{core_making, notes_of, pending_seen}
use Rattle.example_mount.specs.Table.{TWO_TABLE, hand_at_end, table_log, held_by_flush}
use Rattle.example_mount.proofs.Made.{made_by_notes, told_by_notes}
use Rattle.example_mount.proofs.Labels.{labels_may}
use Rattle.example_mount.proofs.Run.{CALLS, IsUnderWay, commitment_of, table_runs, holds_own}

-- what a core told of its commit it wrote of its node as the plan leaves it
module _ (core : ℕ) (f : Flushing) where
  leaves : after_commit (change_planned (commit_plan f)) NO_GRANT ≡ entry_at f.node ∷ [] → (node : ℕ) (held : HeldNode)
      → held_by (commitment_of core f) node ≡ Some held → LeavesOfNode (flush_made core f) node held.new
  leaves left node held is = elim (cases_eq f.node node) [
    | inl same ↦
        let own : held_by_flush f ≡ held = some_same (sym (holds_own core f) ∙ ap (held_by (commitment_of core f)) same ∙ is) in
        subst (λ n. LeavesOfNode (flush_made core f) n held.new) same (subst (λ (h : HeldNode). LeavesOfNode (flush_made core f) f.node h.new) own own_leaves)
    | inr other ↦
        absurd (none_some (sym (ap (λ b. cond b (Some (held_by_flush f)) (let o : Option HeldNode = None in o)) (ne_eqb f.node node other)) ∙ is))
  ]
    where
      in_one : (old : OldKept) → Contains (entry_at f.node ∷ []) (entry_keyed (f.node, old)) → Some (entry_at f.node).old ≡ Some old
      in_one old (zero, low, is) = ap (λ (e : OldEntry). Some e.old) is
      in_one old (suc k, low, is) = absurd (omega (arith, low))

      own_leaves : LeavesOfNode (flush_made core f) f.node (Some (entry_at f.node).old)
      own_leaves old = (
        λ is. subst (λ (l : List OldEntry). Contains l (entry_keyed (f.node, old))) (sym left)
            (0, omega arith, λ i. record { node = record { 0 = f.node }; old = some_same is i }),
        λ has. in_one old (subst (λ (l : List OldEntry). Contains l (entry_keyed (f.node, old))) left has),
      )

-- the entry of an fsync that was answered Ok
abbrev pub answered_entry : ℕ → Flushing → ℕ → Entry
answered_entry core f now =
    record { stamp = record { 0 = f.stamp }; core = record { 0 = core }; call = call.Fsync (record { 0 = f.node }); reply = reply.Ok; ack = Some now }

-- What the log and the labels of the mount have of one of the two fsyncs: its place in the table's log, and the core's own parts.
pub record IsInMount (D : Type 0) (alloc : Global) (core : ℕ) (f : Flushing) (now : ℕ) : Type 0 where
  pub way : IsUnderWay core f
  pub left : after_commit (change_planned (commit_plan f)) NO_GRANT ≡ entry_at f.node ∷ []
  pub unwritten : records_written (change_planned (commit_plan f)) NO_GRANT ≡ []
  pub early : f.stamp < 2
  pub told : filter_map commit_told (hand_at_end alloc core (answered_entry core f now)).view.mine ≡ commitment_of core f ∷ []
  pub there : IsToldIn (table_log alloc) (commitment_of core f)
  pub calls : (account_of there.before).calls ≡ CALLS
  pub none : last_writer f.node (account_of there.before).commits ≡ None
  pub events : (pen_at_end {D = D} core).view.mine ≡ events_in core (ends_at core f now ∷ [])
  pub reserved : IsOneOf (numbers_reserved (pen_at_end {D = D} core).view.mine) f.number
  pub entries : answered_entry core f now ∷ [] ≡ filter (is_core core) BOTH_HISTORY

module _ (D : Type 0) (alloc : Global) (core : ℕ) (f : Flushing) (now : ℕ) (is : IsInMount D alloc core f now) where
  abbrev hand : FileHand
  hand = hand_at_end alloc core (answered_entry core f now)

  abbrev pen : PenHand D
  pen = pen_at_end {D = D} core

  abbrev one : FlushTold
  one = flush_told core f now

  abbrev made : FlushMade
  made = flush_made core f

  turn_is : (did : TurnAct) → IsTurnOf (answered_entry core f now) (record { 0 = f.node }) (flush_turn core f now did)
  turn_is did = record { core_is = refl; node_is = refl; stamp_is = refl }

  entered : EntryAgrees hand pen one (answered_entry core f now) (record { 0 = f.node })
  entered = record {
    own = record { among = inl refl; asked = refl; served = refl };
    past = is.early;
    core_is = refl;
    flush_is = refl;
    each = of_each (IsTurnOf (answered_entry core f now) (record { 0 = f.node })) (turns_in one.turns) (turn_is _, (turn_is _, (turn_is _, tt)));
    way = goes_with f.number is.way.some at_once (turns_in one.turns) refl (refl, (refl, (refl, tt)));
    ack = of_each (λ (turn : Turn). turn.act ≡ act.Durable → Some now ≡ Some turn.now) (turns_in one.turns)
        (never_durable (λ e. cc), (never_durable (λ e. cc), (λ e. refl, tt)));
    stopped = λ faults stopped. absurd (wrong faults stopped);
  }
    where
      wrong : (faults : ℕ) → reply.Ok ≡ reply.Stopped faults → ⊥
      wrong faults e = cc

  -- it asked for its one node, of which no commit was known
  sees : SeesConcerned (core_making core f) (seen_one f.node 0).items
  sees = record { holds = holds; last = known }
    where
      by : (b : Bool) → b ≡ is_some (option_map (λ (one : Seen). one.last) (cond b (Some (record { node = record { 0 = f.node }; last = 0 })) None))
      by true = refl
      by false = refl

      holds : (node : ℕ) → is_concerned (core_making core f) node ≡ is_some (last_seen (seen_one f.node 0).items node)
      holds node = or_false (nat_eq f.node node) ∙ by (nat_eq f.node node)

      none_last : (b : Bool) → last_of_seen (cond b (Some (pending_seen f)) None) ≡ 0
      none_last true = refl
      none_last false = refl

      known : (node number : ℕ) → last_seen (seen_one f.node 0).items node ≡ Some number → last_of_seen ((notes_of core f).pending node) ≡ number
      known node number seen = none_last (nat_eq node f.node) ∙ last_none f node number seen

  -- each turn is of its commit
  turn_by : (did : TurnAct) → IsTurnBy (flush_turn core f now did) did core f.number one.flush
  turn_by did = record { did_is = refl; core_is = refl; commit_is = refl; flush_is = refl }

  turn_made : TurnMade made (ends_at core f now)
  turn_made =
      (refl, sees, record { grant_is = refl; tx = tx_of (commit_plan f); is = transaction_none f is.way.told.needs; none = is.unwritten })

  grants : GrantsNeed TWELVE_BLOCKS made
  grants = record {
    need = λ i. record { inodes = as_u32 (is.way.told.needs.inodes i); blocks = as_u32 (is.way.told.needs.blocks i) };
    few = let none = is.way.told.needs.inodes in omega (arith, none);
    blocks = omega arith;
  }

  in_sight : ToldInSight TWO_TABLE hand made (commitment_of core f)
  in_sight = record {
    log = table_log alloc;
    since = prefix_refl (table_log alloc);
    among = subst (λ (l : List Commitment). IsOneOf l (commitment_of core f)) (sym is.told) (inl refl);
    made = told_by_notes alloc core f is.way is.there is.calls is.none;
    number_is = refl;
    wrote = leaves core f is.left;
  }

  flush_agrees : FlushAgrees TWO_TABLE hand pen one
  flush_agrees = record {
    entry = answered_entry core f now;
    node = record { 0 = f.node };
    entered = entered;
    turns = λ turn among. elim among [ inl same ↦ subst (TurnMade made) same turn_made | inr never ↦ absurd never ];
    made = record {
      sight = record {
        log = table_log alloc;
        since = prefix_refl (table_log alloc);
        made = made_by_notes alloc core f is.way;
        core_is = refl;
        flush_is = refl;
      };
      reserved = is.reserved;
      grants = grants;
    };
    landed = λ ok. record { made = made; is = refl; told = commitment_of core f; tells = in_sight };
    lacked = λ kind need free short. absurd (never_short kind need free short);
  }
    where
      never_short : (kind : SpaceKind) (need free : ℕ) → reply.Ok ≡ reply.NoSpace kind need free → ⊥
      never_short kind need free e = cc

  tells : (stamps : ℕ → ℕ) → NumbersHave stamps (one ∷ []) → TellTurns stamps core nothing_told (turns_of (one ∷ []))
  tells stamps have = (
    record {
      number = f.number;
      flush = one.flush;
      is = (refl, turn_by act.CutAt, turn_by act.Opened, turn_by act.Durable);
      mine = tt;
      named = have one made (inl refl) refl;
    },
    tt,
  )

  agree : CoresAgree TWO_TABLE hand pen (one ∷ [])
  agree = record {
    one = refl;
    told = is.events;
    tells = tells;
    each = λ other among. elim among [ inl same ↦ subst (FlushAgrees TWO_TABLE hand pen) same flush_agrees | inr never ↦ absurd never ];
    once = (λ other among. absurd among, tt);
    numbers = λ first second one_made also_made among among_too _ _ _. only first among ∙ sym (only second among_too);
    others = others;
    commits = commits;
  }
    where
      only : (other : FlushTold) → IsOneOf (one ∷ []) other → other.flush.stamp ≡ f.stamp
      only other among = elim among [ inl same ↦ ap (λ (o : FlushTold). o.flush.stamp) (sym same) | inr never ↦ absurd never ]

      others : (entry : Entry) (node : NodeId) → IsServedFsync hand entry node → HasFlushFor hand pen (one ∷ []) entry node
      others entry node served = elim served.among [
        | inl same ↦
            let own : record { 0 = f.node } ≡ node = fsync_same (ap (λ (e : Entry). e.call) same ∙ served.asked) in
            record {
              one = one;
              among = inl refl;
              entered = subst (λ (e : Entry). EntryAgrees hand pen one e node) same (subst (EntryAgrees hand pen one (answered_entry core f now)) own entered);
            }
        | inr never ↦ absurd never
      ]

      of_own : IsToldOfOne TWO_TABLE hand (one ∷ []) (commitment_of core f)
      of_own = record {
        one = one;
        among = inl refl;
        landed = record { turn = flush_turn core f now act.Durable; among = inr (inr (inl refl)); durable = refl };
        made = made;
        is = refl;
        tells = in_sight;
      }

      commits : (told : Commitment) → IsOneOf (filter_map commit_told hand.view.mine) told → IsToldOfOne TWO_TABLE hand (one ∷ []) told
      commits told among = elim (subst (λ (l : List Commitment). IsOneOf l told) is.told among) [
        | inl same ↦ subst (IsToldOfOne TWO_TABLE hand (one ∷ [])) same of_own
        | inr never ↦ absurd never
      ]

  reaches : ReachesEnd TWO_TABLE hand pen (two_mount alloc).logs
  reaches = record {
    table = table_runs alloc;
    seen = prefix_refl (table_log alloc);
    legal = history_legal;
    entries = is.entries;
    lawful = labels_may;
    saw = prefix_refl TURN_BY_TURN.log;
    mine = refl;
  }

  pub core_reaches : CoreReaches D (two_mount alloc) core (one ∷ [])
  core_reaches = record {
    hand = hand;
    pen = pen;
    core_is = refl;
    layout_is = refl;
    start_is = refl;
    space_is = refl;
    agrees = agree;
    reaches = reaches;
    mine = refl;
  }
