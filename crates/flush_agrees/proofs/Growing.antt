-- Cores and pens that agree on fsyncs go on agreeing on them.
use mathlib.Core.List.{IsPrefix}
use Rattle.std.proofs.Common.{◌≡◌, ◌∙◌, ◌∷◌, ◌++◌, filter_map, ℕ, sym, subst, Option, None, Some, arith, List, refl, ap, [], append-nil, inl, inr, filter, append_assoc}
use Rattle.std.proofs.lemmas.List.Elements.{filter_map-append}
use Rattle.sfs_base.specs.declared.numbers.NodeId.{NodeId}
use Rattle.sfs_base.specs.declared.numbers.SpaceKind.{SpaceKind}
use Rattle.sfs_base.proofs.BasicTruth.{true_not_false}
use Rattle.tree_laws.specs.declared.history.Entry.{Entry}
use Rattle.tree_laws.specs.declared.call.Call.TheVariants as call
use Rattle.cut_laws.specs.Rules.{IsOneOf}
use Rattle.cut_laws.specs.Closure.{Flush}
use Rattle.cut_laws.proofs.Basics.{in_left, in_either}
use Rattle.cut_laws.proofs.RunFacts.{in_filter}
use Rattle.cut_laws.proofs.Listed.{to_filter}
use Rattle.stamp_table.specs.Hand.{Desk}
use Rattle.stamp_table.specs.declared.event.Event.{Event}
use Rattle.stamp_table.specs.declared.event.Event.TheVariants.{Called, Told}
use Rattle.stamp_table.specs.Answered.{asks_fsync, is_refusal}
use Rattle.stamp_table.proofs.Keeps.{begins_on, begins_itself, begins_longer}
use Rattle.mem_values.specs.Start.{FileHand, FileState}
use Rattle.mem_values.specs.Account.{Commitment, commit_told}
use Rattle.mem_values.specs.declared.fact.Fact.{Fact}
use Rattle.mem_values.proofs.Told.{calls_grow}
use Rattle.made_laws.specs.Made.{CoreMaking}
use Rattle.slot_laws.specs.Grants.{SpaceGoes}
use Rattle.slot_laws.specs.Labels.{first_past}
use Rattle.slot_laws.specs.declared.label.Label.TheVariants as label
use Rattle.disk_box.specs.Box.{past_of}
use Rattle.disk_box.specs.Pens.{PenHand}
use Rattle.disk_box.specs.declared.key.BoxKey.{BoxKey}
use Rattle.journal_set.specs.Numbering.{numbers_reserved}
use Rattle.journal_set.specs.Flying.{SeesFailure}
use Rattle.pen_laws.specs.Agreement.{IsServedFsync}
use Rattle.flush_agrees.specs.Agreement.{LacksInSight, MadeInSight, MadeAgrees, MadeIsAgreed, ToldInSight, FlushTold, EntryAgrees, FlushAgrees, IsToldOfOne}
use Rattle.flush_agrees.specs.Made.{FlushMade, GrantsNeed}
use Rattle.flush_agrees.specs.Laws.{NewPairsAgree, OtherCallsKeep, AnswersKeepServed, RefusedMemoryKeepsServed, SameFsyncsKeepServed, AgreeingCoresTell}

-- A core and its pen have gone further: what was served and told of the core's fsyncs is so still.
pub record GoesFurther {D : Type 0} (before after : FileHand) (pen done : PenHand D) : Type 0 where
  pub core : after.view.core ≡ before.view.core
  pub seen : IsPrefix before.view.seen after.view.seen
  pub commits : (told : Commitment) → IsOneOf (filter_map commit_told before.view.mine) told → IsOneOf (filter_map commit_told after.view.mine) told
  pub served : (entry : Entry) (node : NodeId) → IsServedFsync before entry node → IsServedFsync after entry node
  pub table : done.table ≡ pen.table
  pub saw : IsPrefix pen.view.seen done.view.seen
  pub numbers : (number : ℕ) → IsOneOf (numbers_reserved pen.view.mine) number → IsOneOf (numbers_reserved done.view.mine) number

module _ {D : Type 0} (t : FileState) (before after : FileHand) (pen done : PenHand D) (on : GoesFurther before after pen done) where
  sight_on : (flush : Flush) (making : CoreMaking) → MadeInSight t before flush making → MadeInSight t after flush making
  sight_on flush making sight = record {
    log = sight.log;
    since = begins_on sight.log before.view.seen after.view.seen sight.since on.seen;
    made = sight.made;
    core_is = sight.core_is ∙ sym on.core;
    flush_is = sight.flush_is;
  }

  made_on : (flush : Flush) (one : FlushMade) → MadeAgrees t before pen flush one → MadeAgrees t after done flush one
  made_on flush one made = record {
    sight = sight_on flush one.making made.sight;
    reserved = on.numbers one.number made.reserved;
    grants = subst (λ (k : Desk (BoxKey _)). GrantsNeed k.given.layout one) (sym on.table) made.grants;
  }

  is_made_on : (flush : Flush) (made : Option FlushMade) → MadeIsAgreed t before pen flush made → MadeIsAgreed t after done flush made
  is_made_on flush None made = tt
  is_made_on flush (Some one) made = made_on flush one made

  lacks_on : (one : FlushTold) (kind : SpaceKind) (need free : ℕ) → LacksInSight t before pen one kind need free → LacksInSight t after done one kind need free
  lacks_on one kind need free lacks = record {
    making = lacks.making;
    sight = sight_on one.flush lacks.making lacks.sight;
    seen = lacks.seen;
    sees = lacks.sees;
    few = lacks.few;
    turn = lacks.turn;
    only = lacks.only;
    did = lacks.did;
    core = lacks.core;
    front = lacks.front;
    back = lacks.back ++ on.saw.0;
    whole = sym on.saw.1
        ∙ (ap (λ l. l ++ on.saw.0) lacks.whole ∙ append_assoc lacks.front (Told lacks.core (label.Noted lacks.turn) ∷ lacks.back) on.saw.0);
    unmoved = λ node last seen.
        ap (λ (k : Desk (BoxKey _)). (past_of k.given lacks.front).lasts node) on.table ∙ lacks.unmoved node last seen;
    space = lacks.space;
    goes = subst (λ (k : Desk (BoxKey _)). SpaceGoes k.given.layout lacks.front (first_past k.given.start) k.given.space lacks.space) (sym on.table) lacks.goes;
    short = lacks.short;
  }

  pub told_on : (one : FlushMade) (told : Commitment) → ToldInSight t before one told → ToldInSight t after one told
  told_on one told sight = record {
    log = sight.log;
    since = begins_on sight.log before.view.seen after.view.seen sight.since on.seen;
    among = on.commits told sight.among;
    made = sight.made;
    number_is = sight.number_is;
    wrote = sight.wrote;
  }

  fails_on : (faults : ℕ) → SeesFailure pen faults → SeesFailure done faults
  fails_on faults sees = record {
    front = sees.front;
    seen = begins_on sees.front pen.view.seen done.view.seen sees.seen on.saw;
    failed = subst (λ (k : Desk (BoxKey _)). (past_of k.given sees.front).failed ≡ Some faults) (sym on.table) sees.failed;
  }

  pub entry_on : (one : FlushTold) (entry : Entry) (node : NodeId) → EntryAgrees before pen one entry node → EntryAgrees after done one entry node
  entry_on one entry node was = record {
    own = on.served entry node was.own;
    past = let less = was.past in let more = calls_grow before.view.seen after.view.seen on.seen in omega (arith, less, more);
    core_is = was.core_is ∙ sym on.core;
    flush_is = was.flush_is;
    each = was.each;
    way = was.way;
    ack = was.ack;
    stopped = λ faults stops. fails_on faults (was.stopped faults stops);
  }

  -- they agree on an fsync as before
  pub flush_on : (one : FlushTold) → FlushAgrees t before pen one → FlushAgrees t after done one
  flush_on one was = record {
    entry = was.entry;
    node = was.node;
    entered = entry_on one was.entry was.node was.entered;
    turns = was.turns;
    made = is_made_on one.flush one.made was.made;
    landed = λ ok. let has = was.landed ok in record { made = has.made; is = has.is; told = has.told; tells = told_on has.made has.told has.tells };
    lacked = λ kind need free short. lacks_on one kind need free (was.lacked kind need free short);
  }

  -- and what was told is of one of some fsyncs as before
  pub one_on : (fsyncs : List FlushTold) (told : Commitment) → IsToldOfOne t before fsyncs told → IsToldOfOne t after fsyncs told
  one_on fsyncs told was =
      record { one = was.one; among = was.among; landed = was.landed; made = was.made; is = was.is; tells = told_on was.made told was.tells }

pub new_pairs_agree : (D : Type 0) → NewPairsAgree D
new_pairs_agree D t box hand pen none mine new = record {
  one = new.core_is;
  told = new.none_told;
  tells = λ stamps has. tt;
  each = λ one among. absurd among;
  once = tt;
  numbers = λ one other made also among. absurd among;
  others = λ entry node own. absurd (subst (λ l. IsOneOf l entry) none own.among);
  commits = λ told among. absurd (subst (λ (l : List (Event Fact)). IsOneOf (filter_map commit_told l) told) mine among);
}

pub other_calls_keep : (D : Type 0) → OtherCallsKeep D
other_calls_keep D t before after pen fsyncs keeps was = record {
  one = was.one ∙ sym keeps.core;
  told = was.told;
  tells = was.tells;
  each = λ one among. flush_on t before after pen pen on one (was.each one among);
  once = was.once;
  numbers = was.numbers;
  others = λ entry node own. let has = was.others entry node ((keeps.served entry node).1 own) in
      record { one = has.one; among = has.among; entered = entry_on t before after pen pen on has.one entry node has.entered };
  commits = λ told among. one_on t before after pen pen on fsyncs told (was.commits told (subst (λ l. IsOneOf l told) keeps.commits among));
}
  where
    on : GoesFurther before after pen pen
    on = record {
      core = keeps.core;
      seen = keeps.seen;
      commits = λ told among. subst (λ l. IsOneOf l told) (sym keeps.commits) among;
      served = λ entry node. (keeps.served entry node).0;
      table = refl;
      saw = begins_itself pen.view.seen;
      numbers = λ number among. among;
    }

pub answers_keep_served : AnswersKeepServed
answers_keep_served t c given before after made none =
    let behind = made.stands.2 in
    let entry = made.stands.1 in
    let entries = made.stands.3 in
    record {
      core = made.same.number;
      commits = ap (filter_map commit_told) made.stands.4
          ∙ (filter_map-append commit_told before.view.mine (Called entry ∷ []) ∙ append-nil (filter_map commit_told before.view.mine));
      seen = subst (IsPrefix before.view.seen) (sym behind.seen) (begins_longer before.view.seen made.stands.0 (Called entry ∷ []) behind.began);
      served = λ one node. (
        (λ own. record {
          among = subst (λ l. IsOneOf l one) (sym entries) (in_left before.entries (entry ∷ []) one own.among);
          asked = own.asked;
          served = own.served;
        }),
        (λ own. elim (in_either before.entries (entry ∷ []) one (subst (λ l. IsOneOf l one) entries own.among)) [
          | inl old ↦ record { among = old; asked = own.asked; served = own.served }
          | inr new ↦ elim new [
            | inl same ↦ absurd (elim none [
              | inl no_fsync ↦ true_not_false (ap asks_fsync (sym own.asked ∙ (ap (λ (e : Entry). e.call) (sym same ∙ behind.entry_is))) ∙ no_fsync)
              | inr refused ↦ true_not_false (sym refused ∙ (ap is_refusal (sym (ap (λ (e : Entry). e.reply) (sym same ∙ behind.entry_is))) ∙ own.served))
            ])
            | inr past ↦ absurd past
          ]
        ]),
      );
    }

pub refused_memory_keeps_served : RefusedMemoryKeepsServed
refused_memory_keeps_served t before after refused = record {
  core = refused.same.number;
  commits = ap (filter_map commit_told) refused.mine;
  seen = refused.seen;
  served = λ entry node. (
    (λ own. record { among = subst (λ l. IsOneOf l entry) (sym refused.entries) own.among; asked = own.asked; served = own.served }),
    (λ own. record { among = subst (λ l. IsOneOf l entry) refused.entries own.among; asked = own.asked; served = own.served }),
  );
}

pub same_fsyncs_keep_served : SameFsyncsKeepServed
same_fsyncs_keep_served before after core commits seen entries = record {
  core = core;
  commits = commits;
  seen = seen;
  served = λ entry node. (
    (λ own. record { among = over before.entries after.entries (sym entries) entry node own.asked own.among; asked = own.asked; served = own.served }),
    (λ own. record { among = over after.entries before.entries entries entry node own.asked own.among; asked = own.asked; served = own.served }),
  );
}
  where
    over : (one other : List Entry) → filter (λ (entry : Entry). asks_fsync entry.call) one ≡ filter (λ (entry : Entry). asks_fsync entry.call) other
        → (entry : Entry) (node : NodeId) → entry.call ≡ call.Fsync node → IsOneOf one entry → IsOneOf other entry
    over one other same entry node asked among =
        (in_filter (λ (entry : Entry). asks_fsync entry.call) other entry (subst (λ l. IsOneOf l entry) same
        (to_filter (λ (entry : Entry). asks_fsync entry.call) one entry among (ap asks_fsync asked)))).0

pub agreeing_cores_tell : (D : Type 0) → AgreeingCoresTell D
agreeing_cores_tell D t hand pen fsyncs agree = record {
  one = agree.one;
  reserved = λ told among.
      let of = agree.commits told among in
      let made = subst (MadeIsAgreed t hand pen of.one.flush) of.is (agree.each of.one of.among).made in
      subst (IsOneOf (numbers_reserved pen.view.mine)) (sym of.tells.number_is) made.reserved;
}
