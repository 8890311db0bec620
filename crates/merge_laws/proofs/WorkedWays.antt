-- Each way that the turns of an fsync go is met by cores that agree with their pens.
use Rattle.std.proofs.Common.{◌≡◌, ◌≢◌, ◌<◌, ◌∷◌, ◌↔◌, ◌≤◌, Option, ℕ, [], Some, None, inl, inr, refl, IsSome, IsTrue, map, arith, subst, sym}
use Rattle.sfs_base.specs.Ends.{HasRisen}
use Rattle.tree_laws.specs.History.{IsFsyncReply, is_ok_reply, IsLegal}
use Rattle.tree_laws.specs.declared.turns.TurnAct.TheVariants as act
use Rattle.tree_laws.specs.declared.reply.Reply.TheVariants as reply
use Rattle.turn_laws.specs.Ways.{Way, no_turn, lacked, returned, committed, at_once, doubted, opened_doubted, halted, granted_halted, begun_halted, opened_halted, acts_of_way, answer_of, HasCommit, GoesWay}
use Rattle.merge_laws.specs.Worked.{other_answer, worked_ack, TWO_CORES, worked_history, worked_own, own_fsync, worked_turns, other_fsync, failing_turns, EachWayIsMet}
use Rattle.merge_laws.specs.Pens.{IsTurnOf, failed_in, PenAgrees}
use Rattle.merge_laws.proofs.Worked.{worked_legal, Each, pen_one, own_live, own_only, goes_with, pen_none, other_live, other_only, some_turns, other_is, never_durable, never_stopped, two_agree, own_is}

answers_due : (way : Way) → IsFsyncReply (answer_of way)
answers_due no_turn = tt
answers_due (lacked kind need free) = tt
answers_due returned = tt
answers_due committed = tt
answers_due at_once = tt
answers_due doubted = tt
answers_due opened_doubted = tt
answers_due (halted faults) = tt
answers_due (granted_halted faults) = tt
answers_due (begun_halted faults) = tt
answers_due (opened_halted faults) = tt

others_due : (way : Way) → IsFsyncReply (other_answer way)
others_due (halted faults) = tt
others_due (granted_halted faults) = tt
others_due (begun_halted faults) = tt
others_due (opened_halted faults) = tt
others_due _ = tt

acks_due : (way : Way) → IsSome (worked_ack way) ↔ IsTrue (is_ok_reply (answer_of way))
acks_due committed = (λ s. refl, λ s. refl)
acks_due at_once = (λ s. refl, λ s. refl)
acks_due _ = (λ s. cc, λ s. cc)

abbrev nothing_told : Option ℕ
nothing_told = None

no_acks_due : (way : Way) → IsSome nothing_told ↔ IsTrue (is_ok_reply (other_answer way))
no_acks_due (halted faults) = (λ s. cc, λ s. cc)
no_acks_due (granted_halted faults) = (λ s. cc, λ s. cc)
no_acks_due (begun_halted faults) = (λ s. cc, λ s. cc)
no_acks_due (opened_halted faults) = (λ s. cc, λ s. cc)
no_acks_due _ = (λ s. cc, λ s. cc)

legal_way : (way : Way) → IsLegal TWO_CORES (worked_history way)
legal_way way =
    worked_legal (answer_of way) (other_answer way) (worked_ack way) None (answers_due way) (others_due way) (acks_due way) (no_acks_due way)

module _ (way : Way) where
  -- the pen of the own fsync, with turns and without any
  own_pen : worked_own way ≢ [] → Each (IsTurnOf (own_fsync (answer_of way) (worked_ack way)) (record { 0 = 1 })) (worked_own way)
      → map (λ turn. turn.act) (worked_own way) ≡ acts_of_way way → Each (λ turn. HasCommit 1 turn.act turn.commit) (worked_own way)
      → Each (λ turn. turn.act ≡ act.Durable → worked_ack way ≡ Some turn.now) (worked_own way)
      → ((faults : ℕ) → answer_of way ≡ reply.Stopped faults → failed_in (worked_turns way) ≡ Some faults)
      → PenAgrees TWO_CORES (worked_history way) (worked_turns way) 0 (record { stamp = 0; turns = worked_own way } ∷ [])
  own_pen some each acts commits told stopped =
      pen_one TWO_CORES (worked_history way) (worked_turns way) 0 (own_fsync (answer_of way) (worked_ack way)) (record { 0 = 1 })
      (own_live (own_fsync (answer_of way) (worked_ack way)) (other_fsync (other_answer way) None) (answer_of way) (worked_ack way) refl) refl
      (own_only (answer_of way) (other_answer way) (worked_ack way) None) (worked_own way) some each
      (goes_with 1 (omega arith) way (worked_own way) acts commits) told stopped

  own_none : answer_of way ≡ reply.NoMemory → PenAgrees TWO_CORES (worked_history way) (worked_turns way) 0 []
  own_none given =
      pen_none TWO_CORES (worked_history way) (worked_turns way) 0 (own_fsync (answer_of way) (worked_ack way)) (record { 0 = 1 })
      (own_live (own_fsync (answer_of way) (worked_ack way)) (other_fsync (other_answer way) None) (answer_of way) (worked_ack way) refl) refl
      (own_only (answer_of way) (other_answer way) (worked_ack way) None) given

  -- and of the other one
  other_none : other_answer way ≡ reply.NoMemory → PenAgrees TWO_CORES (worked_history way) (worked_turns way) 1 []
  other_none given =
      pen_none TWO_CORES (worked_history way) (worked_turns way) 1 (other_fsync (other_answer way) None) (record { 0 = 0 })
      (other_live (own_fsync (answer_of way) (worked_ack way)) (other_answer way) None) refl
      (other_only (answer_of way) (other_answer way) (worked_ack way) None) given

  other_fails : (faults : ℕ) → other_answer way ≡ reply.DiskFailed
      → PenAgrees TWO_CORES (worked_history way) (worked_turns way) 1 (record { stamp = 1; turns = failing_turns faults } ∷ [])
  other_fails faults given =
      pen_one TWO_CORES (worked_history way) (worked_turns way) 1 (other_fsync (other_answer way) None) (record { 0 = 0 })
      (other_live (own_fsync (answer_of way) (worked_ack way)) (other_answer way) None) refl
      (other_only (answer_of way) (other_answer way) (worked_ack way) None) (failing_turns faults) some_turns
      (other_is _ _ _ _ _, (other_is _ _ _ _ _, (other_is _ _ _ _ _, tt)))
      (subst (GoesWay (failing_turns faults)) (sym given)
      (goes_with 2 (omega arith) doubted (failing_turns faults) refl (inl refl, (refl, (refl, tt)))))
      (never_durable (λ e. cc), (never_durable (λ e. cc), (never_durable (λ e. cc), tt)))
      (never_stopped (inr (inl given)))

module _ (faults : ℕ) (some : 0 < faults) where
  -- the count of the failure has risen, and halts come with it
  risen : HasRisen 0 faults × (faults ≤ faults)
  risen = (omega (arith, some), omega arith)

  stays : (faults ≤ faults) × (faults ≤ faults)
  stays = (omega arith, omega arith)

stopped_same : (count faults : ℕ) → reply.Stopped count ≡ reply.Stopped faults → Some count ≡ Some faults
stopped_same count faults e = cc

pub each_way_is_met : EachWayIsMet
each_way_is_met no_turn some = record {
  legal = legal_way no_turn;
  agrees = two_agree (worked_history no_turn) 1 [] [] [] (own_none no_turn refl) (other_none no_turn refl) (refl, refl) tt tt;
  goes = refl;
}
each_way_is_met (lacked kind need free) some = record {
  legal = legal_way (lacked kind need free);
  agrees = two_agree (worked_history (lacked kind need free)) 1 (worked_own (lacked kind need free))
      (record { stamp = 0; turns = worked_own (lacked kind need free) } ∷ []) []
      (own_pen (lacked kind need free) some_turns (own_is _ _ _ _ _, tt) refl (inl refl, tt) (never_durable (λ e. cc), tt) (λ faults e. absurd
      (not_stopped faults e)))
      (other_none (lacked kind need free) refl) (refl, refl) (omega arith, tt) (refl, tt);
  goes = refl;
}
  where
    not_stopped : (faults : ℕ) → reply.NoSpace kind need free ≡ reply.Stopped faults → ⊥
    not_stopped faults e = cc
each_way_is_met returned some = record {
  legal = legal_way returned;
  agrees = two_agree (worked_history returned) 1 (worked_own returned) (record { stamp = 0; turns = worked_own returned } ∷ []) []
      (own_pen returned some_turns (own_is _ _ _ _ _, (own_is _ _ _ _ _, tt)) refl (inl refl, (inl refl, tt))
      (never_durable (λ e. cc), (never_durable (λ e. cc), tt)) (never_stopped (inr (inr refl))))
      (other_none returned refl) (refl, refl) (omega arith, (omega arith, tt)) (refl, (refl, tt));
  goes = refl;
}
each_way_is_met committed some = record {
  legal = legal_way committed;
  agrees = two_agree (worked_history committed) 1 (worked_own committed) (record { stamp = 0; turns = worked_own committed } ∷ []) []
      (own_pen committed some_turns (own_is _ _ _ _ _, (own_is _ _ _ _ _, (own_is _ _ _ _ _, (own_is _ _ _ _ _, tt)))) refl
      (inl refl, (refl, (refl, (refl, tt))))
      (never_durable (λ e. cc), (never_durable (λ e. cc), (never_durable (λ e. cc), (λ e. refl, tt)))) (never_stopped (inl refl)))
      (other_none committed refl) (refl, refl) (omega arith, (omega arith, (omega arith, (omega arith, tt)))) (refl, (refl, (refl, (refl, tt))));
  goes = refl;
}
each_way_is_met at_once some = record {
  legal = legal_way at_once;
  agrees = two_agree (worked_history at_once) 1 (worked_own at_once) (record { stamp = 0; turns = worked_own at_once } ∷ []) []
      (own_pen at_once some_turns (own_is _ _ _ _ _, (own_is _ _ _ _ _, (own_is _ _ _ _ _, tt))) refl (refl, (refl, (refl, tt)))
      (never_durable (λ e. cc), (never_durable (λ e. cc), (λ e. refl, tt))) (never_stopped (inl refl)))
      (other_none at_once refl) (refl, refl) (omega arith, (omega arith, (omega arith, tt))) (refl, (refl, (refl, tt)));
  goes = refl;
}
each_way_is_met doubted some = record {
  legal = legal_way doubted;
  agrees = two_agree (worked_history doubted) 1 (worked_own doubted) (record { stamp = 0; turns = worked_own doubted } ∷ []) []
      (own_pen doubted some_turns (own_is _ _ _ _ _, (own_is _ _ _ _ _, (own_is _ _ _ _ _, tt))) refl (inl refl, (refl, (refl, tt)))
      (never_durable (λ e. cc), (never_durable (λ e. cc), (never_durable (λ e. cc), tt))) (never_stopped (inr (inl refl))))
      (other_none doubted refl) (refl, refl) (omega arith, (omega arith, (omega arith, tt))) (refl, (refl, (risen 1 (omega arith), tt)));
  goes = refl;
}
each_way_is_met opened_doubted some = record {
  legal = legal_way opened_doubted;
  agrees = two_agree (worked_history opened_doubted) 1 (worked_own opened_doubted) (record { stamp = 0; turns = worked_own opened_doubted } ∷ []) []
      (own_pen opened_doubted some_turns (own_is _ _ _ _ _, (own_is _ _ _ _ _, (own_is _ _ _ _ _, (own_is _ _ _ _ _, tt)))) refl
      (inl refl, (refl, (refl, (refl, tt))))
      (never_durable (λ e. cc), (never_durable (λ e. cc), (never_durable (λ e. cc), (never_durable (λ e. cc), tt)))) (never_stopped (inr (inl refl))))
      (other_none opened_doubted refl) (refl, refl) (omega arith, (omega arith, (omega arith, (omega arith, tt))))
      (refl, (refl, (refl, (risen 1 (omega arith), tt))));
  goes = refl;
}
each_way_is_met (halted faults) some = record {
  legal = legal_way (halted faults);
  agrees = two_agree (worked_history (halted faults)) faults (worked_turns (halted faults))
      (record { stamp = 0; turns = worked_own (halted faults) } ∷ []) (record { stamp = 1; turns = failing_turns faults } ∷ [])
      (own_pen (halted faults) some_turns (own_is _ _ _ _ _, tt) refl (inl refl, tt) (never_durable (λ e. cc), tt) (stopped_same faults))
      (other_fails (halted faults) faults refl) (refl, refl)
      (omega arith, (omega arith, (omega arith, (omega arith, tt)))) (refl, (refl, (risen faults some, (stays faults some, tt))));
  goes = refl;
}
each_way_is_met (granted_halted faults) some = record {
  legal = legal_way (granted_halted faults);
  agrees = two_agree (worked_history (granted_halted faults)) faults (worked_turns (granted_halted faults))
      (record { stamp = 0; turns = worked_own (granted_halted faults) } ∷ []) (record { stamp = 1; turns = failing_turns faults } ∷ [])
      (own_pen (granted_halted faults) some_turns (own_is _ _ _ _ _, (own_is _ _ _ _ _, tt)) refl (inl refl, (inl refl, tt))
      (never_durable (λ e. cc), (never_durable (λ e. cc), tt)) (stopped_same faults))
      (other_fails (granted_halted faults) faults refl) (refl, refl)
      (omega arith, (omega arith, (omega arith, (omega arith, (omega arith, tt)))))
      (refl, (refl, (refl, (risen faults some, (stays faults some, tt)))));
  goes = refl;
}
each_way_is_met (begun_halted faults) some = record {
  legal = legal_way (begun_halted faults);
  agrees = two_agree (worked_history (begun_halted faults)) faults (worked_turns (begun_halted faults))
      (record { stamp = 0; turns = worked_own (begun_halted faults) } ∷ []) (record { stamp = 1; turns = failing_turns faults } ∷ [])
      (own_pen (begun_halted faults) some_turns (own_is _ _ _ _ _, (own_is _ _ _ _ _, (own_is _ _ _ _ _, tt))) refl (inl refl, (refl, (inl refl, tt)))
      (never_durable (λ e. cc), (never_durable (λ e. cc), (never_durable (λ e. cc), tt))) (stopped_same faults))
      (other_fails (begun_halted faults) faults refl) (refl, refl)
      (omega arith, (omega arith, (omega arith, (omega arith, (omega arith, (omega arith, tt))))))
      (refl, (refl, (refl, (refl, (risen faults some, (stays faults some, tt))))));
  goes = refl;
}
each_way_is_met (opened_halted faults) some = record {
  legal = legal_way (opened_halted faults);
  agrees = two_agree (worked_history (opened_halted faults)) faults (worked_turns (opened_halted faults))
      (record { stamp = 0; turns = worked_own (opened_halted faults) } ∷ []) (record { stamp = 1; turns = failing_turns faults } ∷ [])
      (own_pen (opened_halted faults) some_turns (own_is _ _ _ _ _, (own_is _ _ _ _ _, (own_is _ _ _ _ _, (own_is _ _ _ _ _, tt)))) refl
      (inl refl, (refl, (refl, (inl refl, tt))))
      (never_durable (λ e. cc), (never_durable (λ e. cc), (never_durable (λ e. cc), (never_durable (λ e. cc), tt)))) (stopped_same faults))
      (other_fails (opened_halted faults) faults refl) (refl, refl)
      (omega arith, (omega arith, (omega arith, (omega arith, (omega arith, (omega arith, (omega arith, tt)))))))
      (refl, (refl, (refl, (refl, (refl, (risen faults some, (stays faults some, tt)))))));
  goes = refl;
}
