-- A core and its pen go on agreeing.
use Rattle.std.proofs.Common.{◌≡◌, ◌≢◌, ◌⊎◌, ℕ, ◌+◌, ◌≤◌, List, [], ◌∷◌, ◌++◌, Option, Some, None, inl, inr, refl, sym, ap, ◌∙◌, subst, arith}
use mathlib.Core.List.{IsPrefix}
use Rattle.std.specs.Option.{option_or}
use Rattle.sfs_base.specs.declared.numbers.NodeId.{NodeId}
use Rattle.sfs_base.proofs.BasicOptions.{none_some}
use Rattle.sfs_base.proofs.BasicTruth.{true_not_false}
use Rattle.tree_laws.specs.declared.call.Call.{Call}
use Rattle.tree_laws.specs.declared.call.Call.TheVariants as call
use Rattle.tree_laws.specs.declared.history.Entry.{Entry}
use Rattle.tree_laws.specs.declared.reply.Reply.{Reply}
use Rattle.tree_laws.specs.declared.reply.Reply.TheVariants as reply
use Rattle.tree_laws.specs.declared.turns.Turn.{Turn}
use Rattle.cut_laws.specs.Rules.{IsOneOf}
use Rattle.cut_laws.proofs.Basics.{in_left, in_right, in_either}
use Rattle.merge_laws.specs.Pens.{FsyncTurns, FsyncsDiffer, HasTurnsFor, failed_in, failure_by}
use Rattle.stamp_table.specs.Answered.{asks_fsync, is_refusal}
use Rattle.mem_values.specs.Start.{FileHand}
use Rattle.mem_values.proofs.Told.{calls_grow}
use Rattle.fsync_stamp.specs.Adding.{AddsCall, calls_seen}
use Rattle.pen_laws.specs.Agreement.{IsServedFsync, HasTurnsOf, AgreeOn}
use Rattle.pen_laws.specs.Laws.{NewCoresAgree, AgreementLasts, HasNoTurns, OtherCallsAgree, FsyncsAgree}

-- the first failure of some turns is that of more
pub failed_stays : (turns more : List Turn) (faults : ℕ) → failed_in turns ≡ Some faults → failed_in (turns ++ more) ≡ Some faults
failed_stays [] more faults none = absurd (none_some none)
failed_stays (turn ∷ turns) more faults is = by (failure_by turn.act turn.faults) (failed_stays turns more faults) is
  where
    by : (o : Option ℕ) → (failed_in turns ≡ Some faults → failed_in (turns ++ more) ≡ Some faults) → option_or o (failed_in turns) ≡ Some faults
        → option_or o (failed_in (turns ++ more)) ≡ Some faults
    by None rest found = rest found
    by (Some f) rest found = found

turns_on : (old new : List Turn) (entry : Entry) (node : NodeId) (one : FsyncTurns) → IsPrefix old new → HasTurnsOf old entry node one
    → HasTurnsOf new entry node one
turns_on old new entry node one on has = record {
  own_stamp = has.own_stamp;
  each = has.each;
  some = has.some;
  way = has.way;
  ack = has.ack;
  stopped = λ faults stops. subst (λ l. failed_in l ≡ Some faults) on.1 (failed_stays old on.0 faults (has.stopped faults stops));
}

pub new_cores_agree : NewCoresAgree
new_cores_agree hand seen none = record {
  each = λ one among. absurd among;
  once = tt;
  others = λ entry node served. absurd (subst (λ l. IsOneOf l entry) none served.among);
}

pub agreement_lasts : AgreementLasts
agreement_lasts before after old new fsyncs sees on agree = record {
  each = λ one among. let was = agree.each one among in record {
    entry = was.entry;
    node = was.node;
    own = record {
      among = subst (λ l. IsOneOf l was.entry) (sym sees.entries) was.own.among;
      asked = was.own.asked;
      served = was.own.served;
    };
    past = let less = was.past in let more = calls_grow before.view.seen after.view.seen sees.seen in omega (arith, less, more);
    has = turns_on old new was.entry was.node one on was.has;
  };
  once = agree.once;
  others = λ entry node own. agree.others entry node (record {
    among = subst (λ l. IsOneOf l entry) sees.entries own.among;
    asked = own.asked;
    served = own.served;
  });
}

-- Behind a call the fsyncs that were agreed on are so still.
module _ (c : Call) (given : Reply) (before after : FileHand) (seen : List Turn) (adds : AddsCall c given before after) where
  more_seen : calls_seen before ≤ calls_seen after
  more_seen = calls_grow before.view.seen after.view.seen adds.seen

  pub still_agree : (one : FsyncTurns) → AgreeOn before seen one → AgreeOn after seen one
  still_agree one was = record {
    entry = was.entry;
    node = was.node;
    own = record {
      among = subst (λ l. IsOneOf l was.entry) (sym adds.entries) (in_left before.entries (adds.entry ∷ []) was.entry was.own.among);
      asked = was.own.asked;
      served = was.own.served;
    };
    past = let less = was.past in let more = more_seen in omega (arith, less, more);
    has = was.has;
  }

  -- an entry is one of before, or the call's
  pub old_or_new : (entry : Entry) (node : NodeId) → IsServedFsync after entry node → IsServedFsync before entry node ⊎ (adds.entry ≡ entry)
  old_or_new entry node own = elim (in_either before.entries (adds.entry ∷ []) entry (subst (λ l. IsOneOf l entry) adds.entries own.among)) [
    | inl old ↦ inl (record { among = old; asked = own.asked; served = own.served })
    | inr new ↦ elim new [ inl same ↦ inr same | inr past ↦ absurd past ]
  ]

pub other_calls_agree : OtherCallsAgree
other_calls_agree c given before after seen fsyncs adds none agree = record {
  each = λ one among. still_agree c given before after seen adds one (agree.each one among);
  once = agree.once;
  others = λ entry node own. elim (old_or_new c given before after seen adds entry node own) [
    | inl old ↦ agree.others entry node old
    | inr same ↦ of_new entry node own same none
  ];
}
  where
    of_new : (entry : Entry) (node : NodeId) → IsServedFsync after entry node → adds.entry ≡ entry → HasNoTurns c given
        → (entry.reply ≡ reply.NoMemory) ⊎ HasTurnsFor fsyncs entry.stamp.0
    of_new entry node own same (inl no_fsync) =
        absurd (true_not_false (ap asks_fsync (sym own.asked ∙ ap (λ (e : Entry). e.call) (sym same) ∙ adds.call_is) ∙ no_fsync))
    of_new entry node own same (inr (inl refused)) =
        absurd (true_not_false (sym refused ∙ ap is_refusal (sym adds.reply_is ∙ ap (λ (e : Entry). e.reply) same) ∙ own.served))
    of_new entry node own same (inr (inr wants)) = inl (sym (ap (λ (e : Entry). e.reply) same) ∙ adds.reply_is ∙ wants)

-- one more, with another stamp than all before
differ_push : (fsyncs : List FsyncTurns) (one : FsyncTurns) → FsyncsDiffer fsyncs → ((other : FsyncTurns) → IsOneOf fsyncs other → other.stamp ≢ one.stamp)
    → FsyncsDiffer (fsyncs ++ one ∷ [])
differ_push [] one once apart = ((λ other among. absurd among), tt)
differ_push (first ∷ fsyncs) one once apart = (
  (λ other among. elim (in_either fsyncs (one ∷ []) other among) [
    | inl old ↦ once.0 other old
    | inr last ↦ elim last [ inl same ↦ (λ is. apart first (inl refl) (sym is ∙ sym (ap (λ (f : FsyncTurns). f.stamp) same))) | inr past ↦ absurd past ]
  ]),
  differ_push fsyncs one once.1 (λ other among. apart other (inr among)),
)

pub fsyncs_agree : FsyncsAgree
fsyncs_agree node given before after seen fsyncs one new agree = record {
  each = λ other among. elim (in_either fsyncs (one ∷ []) other among) [
    | inl old ↦ still_agree (call.Fsync node) given before after seen new.adds other (agree.each other old)
    | inr last ↦ elim last [ inl same ↦ subst (AgreeOn after seen) same own | inr past ↦ absurd past ]
  ];
  once = differ_push fsyncs one agree.once (λ other among is.
      let was = agree.each other among in
      let late = new.adds.late in let less = was.past in let mine = new.has.own_stamp in let theirs = was.has.own_stamp in
      omega (arith, is, late, less, mine, theirs));
  others = λ entry of served. elim (old_or_new (call.Fsync node) given before after seen new.adds entry of served) [
    | inl old ↦ of_old entry (agree.others entry of old)
    | inr same ↦ inr (record {
      one = one;
      among = in_right fsyncs (one ∷ []) one (inl refl);
      own = sym new.has.own_stamp ∙ ap (λ (e : Entry). e.stamp.0) same;
    })
  ];
}
  where
    own : AgreeOn after seen one
    own = record {
      entry = new.adds.entry;
      node = node;
      own = record {
        among = subst (λ l. IsOneOf l new.adds.entry) (sym new.adds.entries) (in_right before.entries (new.adds.entry ∷ []) new.adds.entry (inl refl));
        asked = new.adds.call_is;
        served = ap is_refusal new.adds.reply_is ∙ new.served;
      };
      past = new.adds.early;
      has = new.has;
    }

    of_old : (entry : Entry) → (entry.reply ≡ reply.NoMemory) ⊎ HasTurnsFor fsyncs entry.stamp.0
        → (entry.reply ≡ reply.NoMemory) ⊎ HasTurnsFor (fsyncs ++ one ∷ []) entry.stamp.0
    of_old entry (inl wants) = inl wants
    of_old entry (inr has) = inr (record { one = has.one; among = in_left fsyncs (one ∷ []) has.one has.among; own = has.own })
