-- Both cores agree with their pens, and both commits are aloft at a time.
use Rattle.std.specs.Prelude.{slice_get}
use Rattle.std.proofs.Common.{◌≡◌, ◌≢◌, ◌<◌, ◌∷◌, ◌++◌, ◌∙◌, ℕ, zero, suc, true, false, List, [], Some, inl, inr, refl, sym, ap, subst, arith, append-nil, append_assoc, take, Bool}
use Rattle.sfs_base.specs.declared.numbers.NodeId.{NodeId}
use Rattle.sfs_base.proofs.BasicOptions.{none_some, some_same}
use Rattle.tree_laws.specs.Tree.{TreeState, is_alive}
use Rattle.tree_laws.specs.declared.call.Call.TheVariants as call
use Rattle.tree_laws.specs.declared.history.Entry.{Entry}
use Rattle.tree_laws.specs.declared.turns.Turn.{Turn}
use Rattle.tree_laws.specs.declared.turns.TurnAct.TheVariants as act
use Rattle.tree_laws.specs.declared.turns.TurnAct.{TurnAct}
use Rattle.cut_laws.specs.Rules.{IsOneOf}
use Rattle.turn_laws.specs.Books.{CountsFaults}
use Rattle.turn_laws.specs.Recorded.{IsLiveFsync}
use Rattle.turn_laws.specs.Ways.{committed}
use Rattle.merge_laws.specs.Pens.{failed_in, FsyncTurns, IsTurnOf, PenAgrees, AgreesAll, turns_of_core}
use Rattle.merge_laws.specs.Plays.{Aloft, Plays, nothing_played, one_play, no_play}
use Rattle.merge_laws.proofs.Lists.{nothing_there, heads_are}
use Rattle.merge_laws.proofs.Blocks.{pen_turns}
use Rattle.merge_laws.proofs.Worked.{of_each, pen_one, some_turns, goes_with, never_durable, never_stopped}
use Rattle.example_grants.specs.Calls.{FIRST_TREE, WRITES_AND_FSYNCS, own_file_flush, other_file_flush}
use Rattle.example_grants.specs.Turns.{own_act, other_act, FILES_TURNS, OWN_TURNS, OTHER_TURNS, FILES_PENS}
use Rattle.example_grants.proofs.Telling.{own_is, other_is}

-- what holds at each place of turns behind a front
module _ (P : List Turn → Turn → Type 0) where
  abbrev pub HoldsFrom : List Turn → List Turn → Type 0
  HoldsFrom front [] = Unit {0}
  HoldsFrom front (turn ∷ turns) = P front turn × HoldsFrom (front ++ turn ∷ []) turns

  pub holds_each : (turns front : List Turn) → HoldsFrom front turns → (more back : List Turn) (turn : Turn) → turns ≡ more ++ turn ∷ back
      → P (front ++ more) turn
  holds_each [] front holds more back turn e = absurd (nothing_there more turn back e)
  holds_each (first ∷ turns) front holds [] back turn e =
      subst (P (front ++ [])) (heads_are first turn turns back e).0 (subst (λ (l : List Turn). P l first) (sym (append-nil front)) holds.0)
  holds_each (first ∷ turns) front holds (next ∷ more) back turn e =
      let same = heads_are first next turns (more ++ turn ∷ back) e in
      subst (λ (l : List Turn). P l turn) (append_assoc front (first ∷ []) more ∙ ap (λ (t : Turn). front ++ t ∷ more) same.0)
      (holds_each turns (front ++ first ∷ []) holds.1 more back turn same.1)

-- both are fsyncs of live files
own_live : IsLiveFsync FIRST_TREE WRITES_AND_FSYNCS own_file_flush (record { 0 = 1 })
own_live = record {
  among = inr (inr (inl refl));
  asked = refl;
  alive = subst (λ (t : TreeState). is_alive t 1 ≡ true) (sym own_is.then_is) own_is.alive;
}

other_live : IsLiveFsync FIRST_TREE WRITES_AND_FSYNCS other_file_flush (record { 0 = 2 })
other_live = record {
  among = inr (inr (inr (inl refl)));
  asked = refl;
  alive = subst (λ (t : TreeState). is_alive t 2 ≡ true) (sym other_is.then_is) other_is.alive;
}

-- each core has no other fsync
no_fsync : (file node : NodeId) (at : ℕ) (bytes : List ℕ) → call.Write file at bytes ≡ call.Fsync node → ⊥
no_fsync file node at bytes e = cc

fsync_cases : (other : Entry) (node : NodeId) → IsLiveFsync FIRST_TREE WRITES_AND_FSYNCS other node → IsOneOf (own_file_flush ∷ other_file_flush ∷ []) other
fsync_cases other node is = elim is.among [
  | inl e ↦ absurd (no_fsync _ node _ _ (ap (λ (x : Entry). x.call) e ∙ is.asked))
  | inr rest ↦ elim rest [ inl e ↦ absurd (no_fsync _ node _ _ (ap (λ (x : Entry). x.call) e ∙ is.asked)) | inr more ↦ more ]
]

own_only : (other : Entry) (node : NodeId) → IsLiveFsync FIRST_TREE WRITES_AND_FSYNCS other node → other.core.0 ≡ 0 → own_file_flush ≡ other
own_only other node is same = elim (fsync_cases other node is) [
  | inl e ↦ e
  | inr more ↦ elim more [
    | inl e ↦ absurd (let wrong : 1 ≡ 0 = ap (λ (x : Entry). x.core.0) e ∙ same in omega (arith, wrong))
    | inr nothing ↦ absurd nothing
  ]
]

other_only : (other : Entry) (node : NodeId) → IsLiveFsync FIRST_TREE WRITES_AND_FSYNCS other node → other.core.0 ≡ 1 → other_file_flush ≡ other
other_only other node is same = elim (fsync_cases other node is) [
  | inl e ↦ absurd (let wrong : 0 ≡ 1 = ap (λ (x : Entry). x.core.0) e ∙ same in omega (arith, wrong))
  | inr more ↦ elim more [ inl e ↦ e | inr nothing ↦ absurd nothing ]
]

own_of : (now : ℕ) (did : TurnAct) → IsTurnOf own_file_flush (record { 0 = 1 }) (own_act now did)
own_of now did = record { core_is = refl; node_is = refl; stamp_is = refl }

other_of : (now : ℕ) (did : TurnAct) → IsTurnOf other_file_flush (record { 0 = 2 }) (other_act now did)
other_of now did = record { core_is = refl; node_is = refl; stamp_is = refl }

own_pen : PenAgrees FIRST_TREE WRITES_AND_FSYNCS FILES_TURNS 0 (record { stamp = 2; turns = OWN_TURNS } ∷ [])
own_pen =
    pen_one FIRST_TREE WRITES_AND_FSYNCS FILES_TURNS 0 own_file_flush (record { 0 = 1 }) own_live refl own_only OWN_TURNS some_turns
    (own_of _ _, (own_of _ _, (own_of _ _, (own_of _ _, tt))))
    (goes_with 1 (omega arith) committed OWN_TURNS refl (inl refl, (refl, (refl, (refl, tt)))))
    (never_durable (λ e. cc), (never_durable (λ e. cc), (never_durable (λ e. cc), (λ e. refl, tt))))
    (never_stopped (inl refl))

other_pen : PenAgrees FIRST_TREE WRITES_AND_FSYNCS FILES_TURNS 1 (record { stamp = 3; turns = OTHER_TURNS } ∷ [])
other_pen =
    pen_one FIRST_TREE WRITES_AND_FSYNCS FILES_TURNS 1 other_file_flush (record { 0 = 2 }) other_live refl other_only OTHER_TURNS some_turns
    (other_of _ _, (other_of _ _, (other_of _ _, (other_of _ _, tt))))
    (goes_with 2 (omega arith) committed OTHER_TURNS refl (inl refl, (refl, (refl, (refl, tt)))))
    (never_durable (λ e. cc), (never_durable (λ e. cc), (never_durable (λ e. cc), (λ e. refl, tt))))
    (never_stopped (inl refl))

-- both cores agree with their pens
pub pens_agree : AgreesAll FIRST_TREE WRITES_AND_FSYNCS 0 0 FILES_TURNS FILES_PENS
pens_agree = record {
  cores = refl;
  each = each;
  merges = record {
    own = has;
    cores = of_each (λ (turn : Turn). turn.core.0 < 2) FILES_TURNS
        (omega arith, (omega arith, (omega arith, (omega arith, (omega arith, (omega arith, (omega arith, (omega arith, tt))))))));
  };
  counts = λ front back turn whole.
      holds_each (λ front turn. CountsFaults 0 0 (failed_in front) turn.act turn.faults) FILES_TURNS []
      (refl, (refl, (refl, (refl, (refl, (refl, (refl, (refl, tt)))))))) front back turn whole;
}
  where
    each : (core : ℕ) (fsyncs : List FsyncTurns) → slice_get FILES_PENS core ≡ Some fsyncs
        → PenAgrees FIRST_TREE WRITES_AND_FSYNCS FILES_TURNS core fsyncs
    each zero fsyncs e = subst (PenAgrees FIRST_TREE WRITES_AND_FSYNCS FILES_TURNS 0) (some_same e) own_pen
    each (suc zero) fsyncs e = subst (PenAgrees FIRST_TREE WRITES_AND_FSYNCS FILES_TURNS 1) (some_same e) other_pen
    each (suc (suc core)) fsyncs e = absurd (none_some e)

    has : (core : ℕ) (fsyncs : List FsyncTurns) → slice_get FILES_PENS core ≡ Some fsyncs → turns_of_core core FILES_TURNS ≡ pen_turns fsyncs
    has zero fsyncs e = ap pen_turns (some_same e)
    has (suc zero) fsyncs e = ap pen_turns (some_same e)
    has (suc (suc core)) fsyncs e = absurd (none_some e)

-- the first six turns, played one by one
apart_from : (a b : ℕ) → (a ≡ b → ⊥) → IsOneOf (a ∷ []) b → ⊥
apart_from a b apart one = elim one [ inl e ↦ apart e | inr nothing ↦ nothing ]

flies_apart : (flight other : Aloft) (stamp : ℕ) → IsOneOf (flight ∷ []) other → flight.stamp ≢ stamp → other.stamp ≢ stamp
flies_apart flight other stamp one apart = elim one [
  | inl e ↦ subst (λ (f : Aloft). f.stamp ≢ stamp) e apart
  | inr nothing ↦ absurd nothing
]

abbrev flight : ℕ → Bool → Aloft
flight stamp opened = record { stamp = stamp; opened = opened }

own_no_other : ◌≡◌ {A = ℕ} 2 3 → ⊥
own_no_other e = omega (arith, e)

other_no_own : ◌≡◌ {A = ℕ} 3 2 → ⊥
other_no_own e = omega (arith, e)

both_wait : Plays (take 2 FILES_TURNS) (record nothing_played { waiting = 2 ∷ 3 ∷ [] })
both_wait =
    one_play (take 1 FILES_TURNS) (other_act 0 act.Granted) (record nothing_played { waiting = 2 ∷ [] }) _
    (one_play [] (own_act 0 act.Granted) nothing_played _ no_play
    (record { calm = refl; first = refl; fresh = λ one. one; later_is = refl }))
    (record { calm = refl; first = refl; fresh = apart_from 2 3 own_no_other; later_is = refl })

other_begun : Plays (take 3 FILES_TURNS) (record nothing_played { waiting = 2 ∷ []; aloft = flight 3 false ∷ [] })
other_begun =
    one_play (take 2 FILES_TURNS) (other_act 10 act.CutAt) (record nothing_played { waiting = 2 ∷ 3 ∷ [] }) _ both_wait
    (record {
      calm = refl;
      left = 2 ∷ [];
      waited = inl (record { before = 2 ∷ []; behind = []; waits = record { whole = refl; once = apart_from 2 3 own_no_other }; left_is = refl });
      fresh = λ other one. absurd one;
      later_is = refl;
    })

other_opened : Plays (take 4 FILES_TURNS) (record nothing_played { waiting = 2 ∷ []; aloft = flight 3 true ∷ [] })
other_opened =
    one_play (take 3 FILES_TURNS) (other_act 10 act.Opened) (record nothing_played { waiting = 2 ∷ []; aloft = flight 3 false ∷ [] }) _ other_begun
    (record { calm = refl; before = []; behind = []; flies = record { whole = refl; once = λ other one. absurd one }; later_is = refl })

own_begun : Plays (take 5 FILES_TURNS) (record nothing_played { aloft = flight 3 true ∷ flight 2 false ∷ [] })
own_begun =
    one_play (take 4 FILES_TURNS) (own_act 11 act.CutAt) (record nothing_played { waiting = 2 ∷ []; aloft = flight 3 true ∷ [] }) _ other_opened
    (record {
      calm = refl;
      left = [];
      waited = inl (record { before = []; behind = []; waits = record { whole = refl; once = λ one. one }; left_is = refl });
      fresh = λ other one. flies_apart (flight 3 true) other 2 one other_no_own;
      later_is = refl;
    })

pub both_opened : Plays (take 6 FILES_TURNS) (record nothing_played { aloft = flight 3 true ∷ flight 2 true ∷ [] })
both_opened =
    one_play (take 5 FILES_TURNS) (own_act 11 act.Opened) (record nothing_played { aloft = flight 3 true ∷ flight 2 false ∷ [] }) _ own_begun
    (record {
      calm = refl;
      before = flight 3 true ∷ [];
      behind = [];
      flies = record { whole = refl; once = λ other one. flies_apart (flight 3 true) other 2 one other_no_own };
      later_is = refl;
    })
