-- What comes of an fsync from an earlier moment on, and how its core and pen stand behind it.
use Rattle.std.proofs.Common.{◌≡◌, ◌∙◌, ◌∷◌, ◌++◌, ℕ, zero, suc, List, [], length, filter_map, Option, None, Some, Ok, Err, inl, inr, refl, sym, ap, subst, append_assoc, arith}
use Rattle.std.proofs.lemmas.List.{append-nil}
use Rattle.std.proofs.lemmas.List.Elements.{filter_map-append}
use Rattle.std.specs.List.{cons_option}
use Rattle.sfs_base.specs.declared.numbers.NodeId.{NodeId}
use Rattle.tree_laws.specs.Tree.{TreeState}
use Rattle.tree_laws.specs.declared.call.Call.TheVariants as call
use Rattle.tree_laws.specs.declared.history.Entry.{Entry}
use Rattle.tree_laws.specs.declared.reply.Code.TheVariants as code
use Rattle.tree_laws.specs.declared.reply.Reply.{Reply}
use Rattle.tree_laws.specs.declared.reply.Reply.TheVariants as reply
use Rattle.cut_laws.specs.Rules.{IsOneOf}
use Rattle.cut_laws.proofs.Basics.{in_either}
use Rattle.slot_laws.specs.Labels.{OwnTold}
use Rattle.stamp_table.specs.Events.{told_by}
use Rattle.stamp_table.specs.Table.{with_answer}
use Rattle.stamp_table.specs.declared.event.Event.{Event}
use Rattle.stamp_table.specs.declared.event.Event.TheVariants.{Called}
use Rattle.stamp_table.specs.declared.view.View.{View}
use Rattle.stamp_table.proofs.Keeps.{begins_on}
use Rattle.mem_values.specs.Account.{Commitment, commit_told}
use Rattle.mem_values.specs.Start.{FileHand, FileState}
use Rattle.mem_values.specs.declared.fact.Fact.{Fact}
use Rattle.mem_values.proofs.Told.{calls_grow}
use Rattle.mem_calls.specs.Outcome.{IsAnswered}
use Rattle.disk_box.specs.Pens.{PenGoes, PenHand, own_at}
use Rattle.journal_set.specs.Numbering.{numbers_reserved}
use Rattle.journal_set.specs.Ways.{TakesWay}
use Rattle.journal_set.proofs.Turned.{goes_twice}
use Rattle.fsync_stamp.specs.Copying.{StampsCopied}
use Rattle.fsync_stamp.specs.Stamping.{AnswersFsync}
use Rattle.fsync_stamp.specs.declared.copying.StampedFsync.{StampedFsync}
use Rattle.slot_laws.specs.Telling.{BoxTurn, events_in}
use Rattle.slot_laws.proofs.Telling.{events_both}
use Rattle.journal_set.specs.Telling.{AreTurns, TellsNothing}
use Rattle.fsync_stamp.proofs.Waiting.{behind_log, last_same, same_on}
use Rattle.fsync_catch.specs.Catch.{GoesOn}
use Rattle.fsync_catch.specs.declared.looking.WaitingFsync.{WaitingFsync}
use Rattle.fsync_catch.proofs.Going.{goes_again}
use Rattle.fsync_end.specs.Finishing.{logs_trimmed}
use Rattle.fsync_end.specs.Trimming.{trim_events}
use Rattle.landing_laws.specs.Made.{PlannedFsync}
use Rattle.landing_laws.specs.Landed.{LandedFsync, commitment_of, directories_of}
use Rattle.fsync_dir.specs.Answering.{EndsWaiting}
use Rattle.fsync_dir.specs.Flush.{AttemptComes, BeginsAnew, FlushAt, FsyncComes, IsServed, IsTried, TellsNoTurn, asked_by, flushed, refused, wanting}
use Rattle.fsync_dir.specs.Site.{ToldAsReserved}
use Rattle.fsync_dir.proofs.Pens.{TellsMore, number_reserved, plan_more, still_reserved}
use Rattle.fsync_dir.proofs.Waiting.{ends_since, ends_waiting_since}

-- nothing is told in some turns and others
both_idle : (turns more : List BoxTurn) → AreTurns TellsNothing turns → AreTurns TellsNothing more → AreTurns TellsNothing (turns ++ more)
both_idle [] more are rest = rest
both_idle (one ∷ turns) more are rest = (are.0, both_idle turns more are.1 rest)

-- a pen that has told no turn twice has told none
pub no_turn_again : {D : Type 0} (a b c : PenHand D) → TellsNoTurn a b → TellsNoTurn b c → TellsNoTurn a c
no_turn_again a b c one two = record {
  goes = goes_twice a b c one.goes two.goes;
  room = two.room ∙ one.room;
  own = two.own ∙ one.own;
  numbers = two.numbers ∙ one.numbers;
  tells = record {
    turns = one.tells.turns ++ two.tells.turns;
    are = both_idle one.tells.turns two.tells.turns one.tells.are two.tells.are;
    mine_is = subst (λ core. c.view.mine ≡ b.view.mine ++ events_in core two.tells.turns) (ap (λ (v : View _ _). v.core) one.goes.view) two.tells.mine_is
        ∙ (ap (λ l. l ++ events_in a.view.core two.tells.turns) one.tells.mine_is
        ∙ (append_assoc a.view.mine (events_in a.view.core one.tells.turns) (events_in a.view.core two.tells.turns)
        ∙ ap (λ l. a.view.mine ++ l) (sym (events_both a.view.core one.tells.turns two.tells.turns))));
  };
}

-- From before its core went on, and before its pen told no turn.
module _ {D : Type 0} (at : FlushAt D) (mid : FileHand) (pen : PenHand D) (on : GoesOn at.hand mid) (tells : TellsNoTurn at.pen pen) where
  tried_since : (planned : PlannedFsync) → IsTried (record at { hand = mid; pen = pen }) planned → IsTried at planned
  tried_since planned tried = record {
    given_is = tried.given_is;
    nodes_are = tried.nodes_are;
    fsync_is = tried.fsync_is;
    file_is = tried.file_is;
    since = goes_again at.hand mid planned.hand on tried.since;
    work = tried.work;
    is = tried.is;
  }

  comes_since : (after : FileHand) (done : PenHand D) (given : Reply) → FsyncComes (record at { hand = mid; pen = pen }) after done given
      → FsyncComes at after done given
  comes_since after done given (wanting none is ends) =
      wanting (no_turn_again at.pen pen done tells none) is (ends_since at.t at.fsync given at.hand mid after on ends)
  comes_since after done given (refused planned from refusal tried none comes is ends since) =
      refused planned from refusal (tried_since planned tried) (no_turn_again at.pen pen from tells none) comes is
      (ends_since at.t at.fsync given at.hand mid after on ends) since
  comes_since after done given (flushed s from landed tried none comes lands is same) =
      flushed s from landed (tried_since s.planned tried) (no_turn_again at.pen pen from tells none) comes (record {
        durable = lands.durable;
        number_is = lands.number_is;
        told = lands.told;
        tells = lands.tells;
        behind = lands.behind;
        lawful = lands.lawful;
        own = lands.own;
        mine = lands.mine;
        ends = ends_waiting_since at.t at.fsync reply.Ok (Some landed.ack.moment) at.hand mid after on lands.ends;
      }) is same

  pub served_since : (after : FileHand) (done : PenHand D) (given : Reply) → IsServed (record at { hand = mid; pen = pen }) after done given
      → IsServed at after done given
  served_since after done given served = record {
    comes = comes_since after done given served.comes;
    way = subst (λ (o : OwnTold). TakesWay given o (own_at done)) tells.own served.way;
  }

  anew_since : (after : FileHand) (done : PenHand D) → BeginsAnew (record at { hand = mid; pen = pen }) after done → BeginsAnew at after done
  anew_since after done anew = record {
    lets = record {
      work = anew.lets.work;
      on = goes_again at.hand mid after on anew.lets.on;
      holds_none = anew.lets.holds_none;
      none_held = anew.lets.none_held;
    };
    no_turn = no_turn_again at.pen pen done tells anew.no_turn;
  }

  pub attempt_since : (after : FileHand) (done : PenHand D) (given : Option Reply) → AttemptComes (record at { hand = mid; pen = pen }) after done given
      → AttemptComes at after done given
  attempt_since after done None anew = anew_since after done anew
  attempt_since after done (Some given) served = served_since after done given served

-- trimming tells no commit
trims_tell_none : (core number count : ℕ) → filter_map commit_told (trim_events core number count) ≡ []
trims_tell_none core number zero = refl
trims_tell_none core number (suc count) =
    filter_map-append commit_told (trim_events core number count) _
    ∙ (append-nil (filter_map commit_told (trim_events core number count)) ∙ trims_tell_none core number count)

-- each commit that is told still has a reserved number
pub agree_untold : {D : Type 0} (before after : FileHand) (pen done : PenHand D) → after.view.core ≡ before.view.core → done.view.core ≡ pen.view.core
    → after.view.mine ≡ before.view.mine → TellsMore pen done → ToldAsReserved before pen → ToldAsReserved after done
agree_untold before after pen done core number mine more agree = record {
  one = number ∙ (agree.one ∙ sym core);
  reserved = λ commit told.
      still_reserved pen done commit.number more
      (agree.reserved commit (subst (λ (l : List (Event Fact)). IsOneOf (filter_map commit_told l) commit) mine told));
}

-- what was reserved before no turn was told
pub no_turn_agrees : {D : Type 0} (before after : FileHand) (pen done : PenHand D) → after.view.core ≡ before.view.core → after.view.mine ≡ before.view.mine
    → TellsNoTurn pen done → ToldAsReserved before pen → ToldAsReserved after done
no_turn_agrees before after pen done core mine none agree = record {
  one = ap (λ (v : View _ _). v.core) none.goes.view ∙ (agree.one ∙ sym core);
  reserved = λ commit told.
      subst (λ (l : List ℕ). IsOneOf l commit.number) (sym none.numbers)
      (agree.reserved commit (subst (λ (l : List (Event Fact)). IsOneOf (filter_map commit_told l) commit) mine told));
}

-- a call tells no commit
call_tells_none : (mine : List (Event Fact)) (entry : Entry) → filter_map commit_told (mine ++ Called entry ∷ []) ≡ filter_map commit_told mine
call_tells_none mine entry = filter_map-append commit_told mine (Called entry ∷ []) ∙ append-nil (filter_map commit_told mine)

-- so what was reserved before a call is behind it
pub call_agrees : {D : Type 0} (before after : FileHand) (entry : Entry) (pen : PenHand D) → after.view.core ≡ before.view.core
    → after.view.mine ≡ before.view.mine ++ Called entry ∷ [] → ToldAsReserved before pen → ToldAsReserved after pen
call_agrees before after entry pen core mine agree = record {
  one = agree.one ∙ sym core;
  reserved = λ commit told.
      agree.reserved commit (subst (λ (l : List Commitment). IsOneOf l commit)
      (ap (filter_map commit_told) mine ∙ call_tells_none before.view.mine entry) told);
}

module _ {D : Type 0} (at : FlushAt D) (after : FileHand) (done : PenHand D) (goes : PenGoes at.pen done) (agree : ToldAsReserved at.hand at.pen) where
  number_same : done.view.core ≡ at.pen.view.core
  number_same = ap (λ (v : View _ _). v.core) goes.view

  agree_with : (from : PenHand D) → TellsNoTurn at.pen from → ToldAsReserved at.hand from
  agree_with from none = no_turn_agrees at.hand at.hand at.pen from refl refl none agree

  number_from : (from : PenHand D) → TellsNoTurn at.pen from → done.view.core ≡ from.view.core
  number_from from none = number_same ∙ sym (ap (λ (v : View _ _). v.core) none.goes.view)

  -- the numbers of the commits that were told when one has landed
  landed_told : (s : LandedFsync) (told : Fact) (trims : ℕ) → commit_told (told_by s.planned.hand.view.core told 0) ≡ Some (commitment_of s)
      → after.view.mine ≡ (s.planned.hand.view.mine ++ told_by s.planned.hand.view.core told 0 ∷ []) ++ trim_events s.planned.hand.view.core s.number trims
      → filter_map commit_told after.view.mine ≡ filter_map commit_told s.planned.hand.view.mine ++ commitment_of s ∷ []
  landed_told s told trims tells mine =
      ap (filter_map commit_told) mine
      ∙ (filter_map-append commit_told (s.planned.hand.view.mine ++ told_by s.planned.hand.view.core told 0 ∷ []) _
      ∙ (ap (λ l. filter_map commit_told (s.planned.hand.view.mine ++ told_by s.planned.hand.view.core told 0 ∷ []) ++ l)
      (trims_tell_none s.planned.hand.view.core s.number trims)
      ∙ (append-nil (filter_map commit_told (s.planned.hand.view.mine ++ told_by s.planned.hand.view.core told 0 ∷ []))
      ∙ (filter_map-append commit_told s.planned.hand.view.mine (told_by s.planned.hand.view.core told 0 ∷ [])
      ∙ (λ i. filter_map commit_told s.planned.hand.view.mine ++ cons_option (tells i) [])))))

  agrees_landed : (s : LandedFsync) (from : PenHand D) → GoesOn at.hand s.planned.hand → ToldAsReserved at.hand from → TellsMore from done
      → IsOneOf (numbers_reserved done.view.mine) s.number → after.view.core ≡ at.hand.view.core → done.view.core ≡ from.view.core
      → filter_map commit_told after.view.mine ≡ filter_map commit_told s.planned.hand.view.mine ++ commitment_of s ∷ [] → ToldAsReserved after done
  agrees_landed s from on agreed more reserved core numbered told = record {
    one = numbered ∙ (agreed.one ∙ sym core);
    reserved = λ commit one.
        elim (in_either (filter_map commit_told s.planned.hand.view.mine) (commitment_of s ∷ []) commit
        (subst (λ (l : List Commitment). IsOneOf l commit) told one)) [
          | inl old ↦ still_reserved from done commit.number more
              (agreed.reserved commit (subst (λ (l : List (Event Fact)). IsOneOf (filter_map commit_told l) commit)
              (ap (λ (v : View TreeState (Event Fact)). v.mine) on.view) old))
          | inr new ↦ elim new [
            | inl same ↦ subst (λ (c : Commitment). IsOneOf (numbers_reserved done.view.mine) c.number) same reserved
            | inr none ↦ absurd none
          ]
        ];
  }

  -- so it is behind the fsync
  pub agrees_then : (given : Reply) → FsyncComes at after done given → ToldAsReserved after done
  agrees_then given (wanting none is ends) = no_turn_agrees at.hand after at.pen done ends.ends.same.number ends.mine none agree
  agrees_then given (refused planned from refusal tried none comes is ends since) =
      agree_untold at.hand after from done ends.ends.same.number (number_from from none) ends.mine
      (plan_more (asked_by planned) from done (Err refusal) comes) (agree_with from none)
  agrees_then given (flushed s from landed tried none comes lands is same) =
      agrees_landed s from tried.since (agree_with from none) (plan_more (asked_by s.planned) from done (Ok landed) comes)
      (subst (IsOneOf (numbers_reserved done.view.mine)) (sym lands.number_is) (number_reserved (asked_by s.planned) from done landed comes))
      lands.ends.same.number (number_from from none) (landed_told s lands.told
      (logs_trimmed (directories_of s.planned.file s.planned.fsync.node s.planned.caught.concern.members.items) (length at.t.first.made))
      lands.tells lands.mine)

-- A stamped fsync has its answer.
pub answers_stamped : (t : FileState) (node : NodeId) (stamped : StampedFsync) (fsync : WaitingFsync) (given : Reply) (ack : Option ℕ)
    (before waiting after : FileHand) → StampsCopied t node stamped before waiting → EndsWaiting t fsync given ack waiting after
    → AnswersFsync t node given before after
answers_stamped t node stamped fsync given ack before waiting after stamps ends =
    let waits = stamps.stamps.waits in
    let found = ends.answered in
    let pair = last_same found.0 before.entries found.1 waits.adds.entry (sym found.3 ∙ waits.adds.entries) in
    record {
      adds = record {
        entry = with_answer waits.adds.entry given ack;
        entries = found.4 ∙ (λ i. pair.0 i ++ with_answer (pair.1 i) given ack ∷ []);
        call_is = waits.adds.call_is;
        reply_is = refl;
        late = waits.adds.late;
        early = let e = waits.adds.early in let g = calls_grow waiting.view.seen after.view.seen ends.seen in omega (arith, e, g);
        seen = begins_on before.view.seen waiting.view.seen after.view.seen waits.adds.seen ends.seen;
      };
      between = ends.between;
      same = same_on before waiting after waits.same ends.same;
    }

-- and that of a dead node too
pub answers_dead : (t : FileState) (node : NodeId) (before after : FileHand) → IsAnswered t (call.Fsync node) (reply.Error code.NoEntry) before after
    → AnswersFsync t node (reply.Error code.NoEntry) before after
answers_dead t node before after made =
    let behind = made.stands.2 in
    let seen = behind_log before after made.stands.0 made.stands.1 behind.began behind.seen (ap (λ (e : Entry). e.stamp.0) behind.entry_is) in
    record {
      adds = record {
        entry = made.stands.1;
        entries = made.stands.3;
        call_is = ap (λ (e : Entry). e.call) behind.entry_is;
        reply_is = ap (λ (e : Entry). e.reply) behind.entry_is;
        late = seen.0;
        early = seen.1.0;
        seen = seen.1.1;
      };
      between = made.between;
      same = made.same;
    }

-- whichever way it ended
pub ends_answered : {D : Type 0} (at : FlushAt D) (after : FileHand) (done : PenHand D) (given : Reply) → FsyncComes at after done given
    → (ack : Option ℕ) × EndsWaiting at.t at.fsync given ack at.hand after
ends_answered at after done given (wanting none is ends) = (None, ends.ends)
ends_answered at after done given (refused planned from refusal tried none comes is ends since) = (None, ends.ends)
ends_answered at after done given (flushed s from landed tried none comes lands is same) =
    (Some landed.ack.moment, subst (λ g. EndsWaiting at.t at.fsync g (Some landed.ack.moment) at.hand after) (sym is) lands.ends)
