-- The worked records meet what is asked of cores and pens.
use Rattle.std.specs.Prelude.{◌||◌, ◌==◌, slice_get, not, count_by}
use Rattle.std.specs.Option.{option_or}
use Rattle.std.specs.FinMap.{entries-from_sorted}
use Rattle.std.proofs.Common.{◌≡◌, ◌≢◌, ◌<◌, ◌∷◌, ◌++◌, ◌∙◌, ◌↔◌, ◌&&◌, ◌⊎◌, ◌≤◌, ℕ, zero, suc, Bool, true, List, [], Option, Some, None, inl, inr, refl, sym, ap, subst, arith, IsSome, IsTrue, append-nil, append_assoc, map, take, false, drop}
use Rattle.sfs_base.specs.declared.numbers.NodeId.{NodeId}
use Rattle.sfs_base.proofs.BasicOptions.{none_some, some_same}
use Rattle.tree_laws.specs.Order.{key_cmp}
use Rattle.tree_laws.specs.Tree.{TreeState, is_alive, names_it}
use Rattle.tree_laws.specs.declared.call.Call.TheVariants as call
use Rattle.tree_laws.specs.declared.history.Entry.{Entry}
use Rattle.tree_laws.specs.declared.reply.Reply.{Reply}
use Rattle.tree_laws.specs.declared.reply.Reply.TheVariants as reply
use Rattle.tree_laws.specs.declared.turns.Turn.{Turn}
use Rattle.tree_laws.specs.declared.turns.TurnAct.TheVariants as act
use Rattle.tree_laws.specs.History.{IsLegal, IsFsyncReply, is_ok_reply, IsDue}
use Rattle.tree_laws.specs.Verdict.{verdict}
use Rattle.tree_laws.specs.declared.turns.TurnAct.{TurnAct}
use Rattle.tree_laws.proofs.Cores.{cores_after}
use Rattle.cut_laws.specs.Rules.{IsOneOf}
use Rattle.cut_laws.specs.Closure.{HasLiveNode}
use Rattle.turn_laws.specs.Books.{CountsFaults}
use Rattle.turn_laws.specs.Recorded.{IsLiveFsync}
use Rattle.turn_laws.specs.Ways.{GoesWay, committed, HasCommit, Way, acts_of_way, answer_of}
use Rattle.merge_laws.specs.Pens.{failure_by, failed_in, FsyncTurns, IsTurnOf, IsPenFsync, PenAgrees, AgreesAll, turns_of_core}
use Rattle.merge_laws.specs.Worked.{TWO_CORES, own_fsync, other_fsync, own_turn, other_turn, BOTH_HISTORY, BOTH_TURNS, BOTH_PENS, BOTH_OWN, BOTH_OTHER, TwoPensAgree}
use Rattle.merge_laws.specs.Plays.{Aloft, Plays, nothing_played, one_play, no_play}
use Rattle.merge_laws.specs.LeftByTurns.{TimesRise}
use Rattle.merge_laws.proofs.Lists.{nothing_there, heads_are}
use Rattle.merge_laws.proofs.Follows.{failed_more}
use Rattle.merge_laws.proofs.Blocks.{pen_turns}

-- the directory is alive
alive_there : is_alive TWO_CORES 1 ≡ true
alive_there = ap (λ (l : List _). (1 == 0) || not (count_by (names_it 1) l == 0)) (entries-from_sorted key_cmp (((0, 97 ∷ []), 1) ∷ []) _)

-- a fact of each of a list
abbrev pub Each : {X : Type 0} → (X → Type 0) → List X → Type 0
Each P [] = Unit {0}
Each P (x ∷ xs) = P x × Each P xs

pub of_each : {X : Type 0} (P : X → Type 0) (xs : List X) → Each P xs → (x : X) → IsOneOf xs x → P x
of_each P [] all x one = absurd one
of_each P (y ∷ xs) all x (inl same) = subst P same all.0
of_each P (y ∷ xs) all x (inr one) = of_each P xs all.1 x one

-- two fsyncs, of the first core and of the second, whose answers are an fsync's are a legal history
pub worked_legal : (own other : Reply) (own_ack other_ack : Option ℕ) → IsFsyncReply own → IsFsyncReply other → (IsSome own_ack ↔ IsTrue (is_ok_reply own))
    → (IsSome other_ack ↔ IsTrue (is_ok_reply other)) → IsLegal TWO_CORES (own_fsync own own_ack ∷ other_fsync other other_ack ∷ [])
worked_legal own other own_ack other_ack due other_due acked other_acked = (
  record {
    stamped = refl;
    core = omega arith;
    due = subst (λ (b : Bool). IsDue b (verdict TWO_CORES 0 (call.Fsync (record { 0 = 1 }))).reply own) (sym alive_there) due;
    acknowledged = subst (λ (b : Bool). IsSome own_ack ↔ IsTrue (b && is_ok_reply own)) (sym alive_there) acked;
  },
  (
    record {
      stamped = refl;
      core = subst (λ (n : ℕ). 1 < n) (sym (cores_after TWO_CORES 0 (call.Fsync (record { 0 = 1 })))) (omega arith);
      due = other_due;
      acknowledged = other_acked;
    },
    tt,
  ),
)

-- both are fsyncs of live nodes
pub own_live : (own other : Entry) (given : Reply) (ack : Option ℕ) → own ≡ own_fsync given ack
    → IsLiveFsync TWO_CORES (own ∷ other ∷ []) own (record { 0 = 1 })
own_live own other given ack is = record {
  among = inl refl;
  asked = ap (λ (e : Entry). e.call) is;
  alive = subst (λ (e : Entry). HasLiveNode TWO_CORES (own ∷ other ∷ []) (record { node = 1; stamp = e.stamp.0 })) (sym is) alive_there;
}

pub other_live : (own : Entry) (given : Reply) (ack : Option ℕ)
    → IsLiveFsync TWO_CORES (own ∷ other_fsync given ack ∷ []) (other_fsync given ack) (record { 0 = 0 })
other_live own given ack = record { among = inr (inl refl); asked = refl; alive = refl }

-- counts of faults that are right from a front on
abbrev pub CountsFrom : ℕ → ℕ → Option ℕ → List Turn → Type 0
CountsFrom before most failed [] = Unit {0}
CountsFrom before most failed (turn ∷ turns) =
    CountsFaults before most failed turn.act turn.faults × CountsFrom before most (option_or failed (failure_by turn.act turn.faults)) turns

module _ (before most : ℕ) where
  counts_from : (turns front : List Turn) → CountsFrom before most (failed_in front) turns → (more back : List Turn) (turn : Turn)
      → turns ≡ more ++ turn ∷ back → CountsFaults before most (failed_in (front ++ more)) turn.act turn.faults
  counts_from [] front right more back turn e = absurd (nothing_there more turn back e)
  counts_from (first ∷ turns) front right [] back turn e =
      subst (λ (t : Turn). CountsFaults before most (failed_in (front ++ [])) t.act t.faults) (heads_are first turn turns back e).0
      (subst (λ (l : List Turn). CountsFaults before most (failed_in l) first.act first.faults) (sym (append-nil front)) right.0)
  counts_from (first ∷ turns) front right (next ∷ more) back turn e =
      let same = heads_are first next turns (more ++ turn ∷ back) e in
      subst (λ (l : List Turn). CountsFaults before most (failed_in l) turn.act turn.faults)
      (append_assoc front (first ∷ []) more ∙ ap (λ (t : Turn). front ++ t ∷ more) same.0)
      (counts_from turns (front ++ first ∷ [])
      (subst (λ (o : Option ℕ). CountsFrom before most o turns) (sym (failed_more front first)) right.1) more back turn same.1)

-- an fsync of a core that no other entry is of, as its pen has it
module _ (first : TreeState) (history : List Entry) (turns : List Turn) (core : ℕ) (entry : Entry) (node : NodeId)
    (live : IsLiveFsync first history entry node) (own_core : entry.core.0 ≡ core)
    (only : (other : Entry) (n : NodeId) → IsLiveFsync first history other n → other.core.0 ≡ core → entry ≡ other) where
  pub pen_none : entry.reply ≡ reply.NoMemory → PenAgrees first history turns core []
  pen_none given = record {
    each = λ one among. absurd among;
    once = tt;
    others = λ other n is same. inl (ap (λ (e : Entry). e.reply) (sym (only other n is same)) ∙ given);
  }

  pub pen_one : (all : List Turn) → all ≢ [] → Each (IsTurnOf entry node) all → GoesWay all entry.reply
      → Each (λ t. t.act ≡ act.Durable → entry.ack ≡ Some t.now) all
      → ((faults : ℕ) → entry.reply ≡ reply.Stopped faults → failed_in turns ≡ Some faults)
      → PenAgrees first history turns core (record { stamp = entry.stamp.0; turns = all } ∷ [])
  pen_one all some each way told stopped = record {
    each = λ one among. elim among [
      | inl same ↦ subst (IsPenFsync first history turns core) same (record {
        entry = entry;
        node = node;
        live = live;
        own_core = own_core;
        own_stamp = refl;
        each = of_each (IsTurnOf entry node) all each;
        some = some;
        way = way;
        ack = of_each (λ (t : Turn). t.act ≡ act.Durable → entry.ack ≡ Some t.now) all told;
        stopped = stopped;
      })
      | inr nothing ↦ absurd nothing
    ];
    once = (λ other among. absurd among, tt);
    others = λ other n is same. inr (record {
      one = record { stamp = entry.stamp.0; turns = all };
      among = inl refl;
      own = ap (λ (e : Entry). e.stamp.0) (only other n is same);
    });
  }

-- what two pens have are the turns of a record
module _ (history : List Entry) (most : ℕ) (turns : List Turn) where
  pub two_agree : (own other : List FsyncTurns) → PenAgrees TWO_CORES history turns 0 own
      → PenAgrees TWO_CORES history turns 1 other → (turns_of_core 0 turns ≡ pen_turns own) × (turns_of_core 1 turns ≡ pen_turns other)
      → Each (λ turn. turn.core.0 < 2) turns → CountsFrom 0 most None turns → AgreesAll TWO_CORES history 0 most turns (own ∷ other ∷ [])
  two_agree own other own_agrees other_agrees merged cores counts = record {
    cores = refl;
    each = each;
    merges = record { own = has; cores = of_each (λ (turn : Turn). turn.core.0 < 2) turns cores };
    counts = λ front back turn whole. counts_from 0 most turns [] counts front back turn whole;
  }
    where
      each : (core : ℕ) (fsyncs : List FsyncTurns) → slice_get (own ∷ other ∷ []) core ≡ Some fsyncs → PenAgrees TWO_CORES history turns core fsyncs
      each zero fsyncs e = subst (PenAgrees TWO_CORES history turns 0) (some_same e) own_agrees
      each (suc zero) fsyncs e = subst (PenAgrees TWO_CORES history turns 1) (some_same e) other_agrees
      each (suc (suc core)) fsyncs e = absurd (none_some e)

      has : (core : ℕ) (fsyncs : List FsyncTurns) → slice_get (own ∷ other ∷ []) core ≡ Some fsyncs → turns_of_core core turns ≡ pen_turns fsyncs
      has zero fsyncs e = merged.0 ∙ ap pen_turns (some_same e)
      has (suc zero) fsyncs e = merged.1 ∙ ap pen_turns (some_same e)
      has (suc (suc core)) fsyncs e = absurd (none_some e)

-- the turns of each fsync are its own
pub own_is : (given : Reply) (ack : Option ℕ) (now faults : ℕ) (did : TurnAct) → IsTurnOf (own_fsync given ack) (record { 0 = 1 }) (own_turn now faults did)
own_is given ack now faults did = record { core_is = refl; node_is = refl; stamp_is = refl }

pub other_is : (given : Reply) (ack : Option ℕ) (now faults : ℕ) (did : TurnAct)
    → IsTurnOf (other_fsync given ack) (record { 0 = 0 }) (other_turn now faults did)
other_is given ack now faults did = record { core_is = refl; node_is = refl; stamp_is = refl }

module _ (given other_given : Reply) (ack other_ack : Option ℕ) where
  -- each core has one entry
  pub own_only : (other : Entry) (n : NodeId) → IsLiveFsync TWO_CORES (own_fsync given ack ∷ other_fsync other_given other_ack ∷ []) other n → other.core.0 ≡ 0
      → own_fsync given ack ≡ other
  own_only other n is same = elim is.among [
    | inl e ↦ e
    | inr more ↦ elim more [
      | inl e ↦ absurd (let wrong : 1 ≡ 0 = ap (λ (x : Entry). x.core.0) e ∙ same in omega (arith, wrong))
      | inr nothing ↦ absurd nothing
    ]
  ]

  pub other_only : (other : Entry) (n : NodeId) → IsLiveFsync TWO_CORES (own_fsync given ack ∷ other_fsync other_given other_ack ∷ []) other n
      → other.core.0 ≡ 1
      → other_fsync other_given other_ack ≡ other
  other_only other n is same = elim is.among [
    | inl e ↦ absurd (let wrong : 0 ≡ 1 = ap (λ (x : Entry). x.core.0) e ∙ same in omega (arith, wrong))
    | inr more ↦ elim more [
      | inl e ↦ e
      | inr nothing ↦ absurd nothing
    ]
  ]

pub never_durable : {did : TurnAct} {ack : Option ℕ} {now : ℕ} → (did ≡ act.Durable → ⊥) → did ≡ act.Durable → ack ≡ Some now
never_durable never e = absurd (never e)

pub some_turns : {turn : Turn} {turns : List Turn} → turn ∷ turns ≢ []
some_turns e = cc

pub never_stopped : {given : Reply} {o : Option ℕ} → (given ≡ reply.Ok) ⊎ ((given ≡ reply.DiskFailed) ⊎ (given ≡ reply.NoMemory)) → (faults : ℕ)
    → given ≡ reply.Stopped faults → o ≡ Some faults
never_stopped which faults stopped = absurd (elim which [
  | inl ok ↦ other_ok (sym ok ∙ stopped)
  | inr more ↦ elim more [ inl failed ↦ other_failed (sym failed ∙ stopped) | inr none ↦ other_none (sym none ∙ stopped) ]
])
  where
    other_ok : reply.Ok ≡ reply.Stopped faults → ⊥
    other_ok e = cc

    other_failed : reply.DiskFailed ≡ reply.Stopped faults → ⊥
    other_failed e = cc

    other_none : reply.NoMemory ≡ reply.Stopped faults → ⊥
    other_none e = cc

-- a way with the numbers of its commit
pub goes_with : (number : ℕ) → 0 < number → (way : Way) (turns : List Turn) → map (λ turn. turn.act) turns ≡ acts_of_way way
    → Each (λ turn. HasCommit number turn.act turn.commit) turns → GoesWay turns (answer_of way)
goes_with number some way turns acts commits = record {
  way = way;
  acts = acts;
  answered = refl;
  number = number;
  numbered = some;
  commits = of_each (λ (turn : Turn). HasCommit number turn.act turn.commit) turns commits;
}

both_own : PenAgrees TWO_CORES BOTH_HISTORY BOTH_TURNS 0 (record { stamp = 0; turns = BOTH_OWN } ∷ [])
both_own =
    pen_one TWO_CORES BOTH_HISTORY BOTH_TURNS 0 (own_fsync reply.Ok (Some 8)) (record { 0 = 1 })
    (own_live (own_fsync reply.Ok (Some 8)) (other_fsync reply.Ok (Some 5)) reply.Ok (Some 8) refl) refl
    (own_only reply.Ok reply.Ok (Some 8) (Some 5)) BOTH_OWN some_turns
    (own_is _ _ _ _ _, (own_is _ _ _ _ _, (own_is _ _ _ _ _, (own_is _ _ _ _ _, tt))))
    (goes_with 1 (omega arith) committed BOTH_OWN refl (inl refl, (refl, (refl, (refl, tt)))))
    (never_durable (λ e. cc), (never_durable (λ e. cc), (never_durable (λ e. cc), (λ e. refl, tt))))
    (never_stopped (inl refl))

both_other : PenAgrees TWO_CORES BOTH_HISTORY BOTH_TURNS 1 (record { stamp = 1; turns = BOTH_OTHER } ∷ [])
both_other =
    pen_one TWO_CORES BOTH_HISTORY BOTH_TURNS 1 (other_fsync reply.Ok (Some 5)) (record { 0 = 0 })
    (other_live (own_fsync reply.Ok (Some 8)) reply.Ok (Some 5)) refl
    (other_only reply.Ok reply.Ok (Some 8) (Some 5)) BOTH_OTHER some_turns
    (other_is _ _ _ _ _, (other_is _ _ _ _ _, (other_is _ _ _ _ _, (other_is _ _ _ _ _, tt))))
    (goes_with 2 (omega arith) committed BOTH_OTHER refl (inl refl, (refl, (refl, (refl, tt)))))
    (never_durable (λ e. cc), (never_durable (λ e. cc), (never_durable (λ e. cc), (λ e. refl, tt))))
    (never_stopped (inl refl))

-- both cores agree with their pens
both_agree : AgreesAll TWO_CORES BOTH_HISTORY 0 0 BOTH_TURNS BOTH_PENS
both_agree =
    two_agree BOTH_HISTORY 0 BOTH_TURNS (record { stamp = 0; turns = BOTH_OWN } ∷ []) (record { stamp = 1; turns = BOTH_OTHER } ∷ []) both_own both_other
    (refl, refl) (omega arith, (omega arith, (omega arith, (omega arith, (omega arith, (omega arith, (omega arith, (omega arith, tt))))))))
    (refl, (refl, (refl, (refl, (refl, (refl, (refl, (refl, tt))))))))

-- the first six turns, played one by one
one_apart : (a b : ℕ) → (a ≡ b → ⊥) → IsOneOf (a ∷ []) b → ⊥
one_apart a b apart one = elim one [ inl e ↦ apart e | inr nothing ↦ nothing ]

flight_apart : (flight other : Aloft) (stamp : ℕ) → IsOneOf (flight ∷ []) other → flight.stamp ≢ stamp → other.stamp ≢ stamp
flight_apart flight other stamp one apart = elim one [
  | inl e ↦ subst (λ (f : Aloft). f.stamp ≢ stamp) e apart
  | inr nothing ↦ absurd nothing
]

flight : ℕ → Bool → Aloft
flight stamp opened = record { stamp = stamp; opened = opened }

zero_not_one : ◌≡◌ {A = ℕ} 0 1 → ⊥
zero_not_one e = omega (arith, e)

one_not_zero : ◌≡◌ {A = ℕ} 1 0 → ⊥
one_not_zero e = omega (arith, e)

both_wait : Plays (take 2 BOTH_TURNS) (record nothing_played { waiting = 0 ∷ 1 ∷ [] })
both_wait =
    one_play (take 1 BOTH_TURNS) (other_turn 0 0 act.Granted) (record nothing_played { waiting = 0 ∷ [] }) _
    (one_play [] (own_turn 0 0 act.Granted) nothing_played _ no_play
    (record { calm = refl; first = refl; fresh = λ one. one; later_is = refl }))
    (record { calm = refl; first = refl; fresh = one_apart 0 1 zero_not_one; later_is = refl })

both_begun : Plays (take 4 BOTH_TURNS) (record nothing_played { aloft = flight 0 false ∷ flight 1 false ∷ [] })
unfolding flight
both_begun =
    one_play (take 3 BOTH_TURNS) (other_turn 0 0 act.CutAt) (record nothing_played { waiting = 1 ∷ []; aloft = flight 0 false ∷ [] }) _
    (one_play (take 2 BOTH_TURNS) (own_turn 0 0 act.CutAt) (record nothing_played { waiting = 0 ∷ 1 ∷ [] }) _ both_wait
    (record {
      calm = refl;
      left = 1 ∷ [];
      waited = inl (record { before = []; behind = 1 ∷ []; waits = record { whole = refl; once = one_apart 1 0 one_not_zero }; left_is = refl });
      fresh = λ other one. absurd one;
      later_is = refl;
    }))
    (record {
      calm = refl;
      left = [];
      waited = inl (record { before = []; behind = []; waits = record { whole = refl; once = λ one. one }; left_is = refl });
      fresh = λ other one. flight_apart (flight 0 false) other 1 one zero_not_one;
      later_is = refl;
    })

both_opened : Plays (take 6 BOTH_TURNS) (record nothing_played { aloft = flight 0 true ∷ flight 1 true ∷ [] })
unfolding flight
both_opened =
    one_play (take 5 BOTH_TURNS) (own_turn 4 0 act.Opened) (record nothing_played { aloft = flight 0 false ∷ flight 1 true ∷ [] }) _
    (one_play (take 4 BOTH_TURNS) (other_turn 3 0 act.Opened) (record nothing_played { aloft = flight 0 false ∷ flight 1 false ∷ [] }) _ both_begun
    (record {
      calm = refl;
      before = flight 0 false ∷ [];
      behind = [];
      flies = record { whole = refl; once = λ other one. flight_apart (flight 0 false) other 1 one zero_not_one };
      later_is = refl;
    }))
    (record {
      calm = refl;
      before = [];
      behind = flight 1 true ∷ [];
      flies = record { whole = refl; once = λ other one. flight_apart (flight 1 true) other 0 one one_not_zero };
      later_is = refl;
    })

both_rise : TimesRise BOTH_TURNS
both_rise = (
  of_each (λ (t : Turn). 0 ≤ t.now) (drop 1 BOTH_TURNS)
      (omega arith, (omega arith, (omega arith, (omega arith, (omega arith, (omega arith, (omega arith, tt))))))),
  (
    of_each (λ (t : Turn). 0 ≤ t.now) (drop 2 BOTH_TURNS) (omega arith, (omega arith, (omega arith, (omega arith, (omega arith, (omega arith, tt)))))),
    (
      of_each (λ (t : Turn). 0 ≤ t.now) (drop 3 BOTH_TURNS) (omega arith, (omega arith, (omega arith, (omega arith, (omega arith, tt))))),
      (
        of_each (λ (t : Turn). 0 ≤ t.now) (drop 4 BOTH_TURNS) (omega arith, (omega arith, (omega arith, (omega arith, tt)))),
        (
          of_each (λ (t : Turn). 3 ≤ t.now) (drop 5 BOTH_TURNS) (omega arith, (omega arith, (omega arith, tt))),
          (
            of_each (λ (t : Turn). 4 ≤ t.now) (drop 6 BOTH_TURNS) (omega arith, (omega arith, tt)),
            (
              of_each (λ (t : Turn). 5 ≤ t.now) (drop 7 BOTH_TURNS) (omega arith, tt),
              (λ later one. absurd one, tt),
            ),
          ),
        ),
      ),
    ),
  ),
)

pub two_pens_agree : TwoPensAgree
unfolding flight
two_pens_agree = record {
  legal = worked_legal reply.Ok reply.Ok (Some 8) (Some 5) tt tt (λ s. refl, λ s. refl) (λ s. refl, λ s. refl);
  agrees = both_agree;
  rises = both_rise;
  both = both_opened;
  ends = refl;
}
