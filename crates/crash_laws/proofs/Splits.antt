-- A list of listed fsyncs begins with those that were acknowledged by a moment.
use Rattle.std.proofs.Common.{◌≡◌, ℕ, ◌<◌, ◌≤◌, ◌⊎◌, true, false, List, [], ◌∷◌, ◌++◌, Option, Some, None, inl, inr, refl, sym, ap, subst, ◌∙◌, arith}
use Rattle.sfs_base.proofs.BasicOptions.{some_same, none_some}
use Rattle.tree_laws.specs.declared.history.Entry.{Entry}
use Rattle.tree_laws.specs.declared.reply.Reply.{Reply}
use Rattle.tree_laws.specs.declared.reply.Reply.TheVariants as reply
use Rattle.tree_laws.specs.History.{IsLegal, is_ok_reply}
use Rattle.tree_laws.specs.Tree.{TreeState}
use Rattle.cut_laws.specs.Closure.{Flush}
use Rattle.cut_laws.specs.Covers.{IsAcknowledged}
use Rattle.cut_laws.specs.Rules.{IsOneOf}
use Rattle.cut_laws.proofs.Basics.{no_true, below_or, in_left, in_right, in_either}
use Rattle.cut_laws.proofs.Entries.{stamps_are_once}
use Rattle.crash_laws.specs.Listed.{IsListedFsync, IsAcknowledgedBy, AreInOrder, AreListed}
use Rattle.crash_laws.specs.Survives.{Ascend, RaisesInOrder}
use Rattle.crash_laws.proofs.Fsyncs.{acknowledged_once}
use Rattle.crash_laws.proofs.Numbers.{le_trans}

ok_of : (r : Reply) → is_ok_reply r ≡ true → r ≡ reply.Ok
ok_of reply.Ok is = refl
ok_of _ is = no_true is

module _ (first : TreeState) (history : List Entry) (legal : IsLegal first history) where
  -- the moment of a listed fsync is that of its entry
  entry_moment : (flush : Flush) (is : IsListedFsync history flush) (ack : ℕ) → IsAcknowledged history flush ack
      → (is.entry.reply ≡ reply.Ok) × (is.entry.ack ≡ Some ack)
  entry_moment flush is ack acked =
      let stamps : is.entry.stamp.0 ≡ acked.entry.stamp.0 = ap (λ (f : Flush). f.stamp) (sym is.fsync.own ∙ acked.own) in
      let same = stamps_are_once first history is.entry acked.entry legal is.among acked.among stamps in
      (ap (λ (e : Entry). e.reply) same ∙ acked.answered, ap (λ (e : Entry). e.ack) same ∙ acked.moment)

  -- a listed fsync was acknowledged by a moment, or not
  acknowledged_or : (moment : ℕ) (flush : Flush) → IsListedFsync history flush
      → IsAcknowledgedBy history moment flush ⊎ (IsAcknowledgedBy history moment flush → ⊥)
  acknowledged_or moment flush is =
      elim (is_ok_reply is.entry.reply) as (λ b. is_ok_reply is.entry.reply ≡ b
      → IsAcknowledgedBy history moment flush ⊎ (IsAcknowledgedBy history moment flush → ⊥)) [
        | true ↦ λ ok. by_ack (ok_of is.entry.reply ok) is.entry.ack refl
        | false ↦ λ not_ok. inr (λ by. no_true (sym not_ok ∙ ap is_ok_reply (entry_moment flush is by.0 by.1).0))
      ] refl
    where
      past : (ack other : ℕ) → other ≤ moment → moment < ack → ack ≡ other → ⊥
      past ack other le lt same = omega arith

      by_ack : is.entry.reply ≡ reply.Ok → (ack : Option ℕ) → is.entry.ack ≡ ack
          → IsAcknowledgedBy history moment flush ⊎ (IsAcknowledgedBy history moment flush → ⊥)
      by_ack ok None none = inr (λ by. none_some (sym none ∙ (entry_moment flush is by.0 by.1).1))
      by_ack ok (Some ack) some = elim (below_or moment ack) [
        | inl later ↦ inr (λ by. past ack by.0 by.2 later (some_same (sym some ∙ (entry_moment flush is by.0 by.1).1)))
        | inr le ↦ inl (
          ack,
          record {
            entry = is.entry;
            among = is.among;
            node = is.fsync.node;
            asked = is.fsync.asked;
            own = is.fsync.own;
            answered = ok;
            moment = some;
          },
          le,
        )
      ]

  -- fsyncs that stand in order are acknowledged in order
  pub ascend : (moment : ℕ) (flushes : List Flush) → AreInOrder history moment flushes
      → ((flush : Flush) → IsOneOf flushes flush → IsAcknowledgedBy history moment flush) → Ascend history flushes
  ascend moment [] order all = tt
  ascend moment (flush ∷ flushes) order all = (head, ascend moment flushes order.1 (λ other one. all other (inr one)))
    where
      head : (later : Flush) (ack late : ℕ) → IsOneOf flushes later → IsAcknowledged history flush ack → IsAcknowledged history later late → ack ≤ late
      head later ack late one is also =
          let by_then = all later (inr one) in
          let late_is : late ≡ by_then.0 = acknowledged_once first history legal later late by_then.0 also by_then.1 in
          let by = order.0 later late one also (rw late_is by_then.2) in
          let ack_is : ack ≡ by.0 = acknowledged_once first history legal flush ack by.0 is by.1 in
          rw ack_is by.2

  -- a list begins with those that were acknowledged by a moment, and has no other such
  record BeginsWithAcked (moment : ℕ) (flushes : List Flush) : Type 0 where
    firsts : List Flush
    others : List Flush
    whole : flushes ≡ firsts ++ others
    each : (flush : Flush) → IsOneOf firsts flush → IsAcknowledgedBy history moment flush
    late : (flush : Flush) → IsOneOf others flush → IsAcknowledgedBy history moment flush → ⊥
    order : AreInOrder history moment firsts

  begins_with : (moment : ℕ) (flushes : List Flush) → ((flush : Flush) → IsOneOf flushes flush → IsListedFsync history flush)
      → AreInOrder history moment flushes → BeginsWithAcked moment flushes
  begins_with moment [] each order =
      record { firsts = []; others = []; whole = refl; each = λ flush one. absurd one; late = λ flush one. absurd one; order = tt }
  begins_with moment (flush ∷ flushes) each order = elim (acknowledged_or moment flush (each flush (inl refl))) [
    | inl by ↦
        let rest = begins_with moment flushes (λ other one. each other (inr one)) order.1 in
        record {
          firsts = flush ∷ rest.firsts;
          others = rest.others;
          whole = ap (λ l. flush ∷ l) rest.whole;
          each = λ other one. elim one [ inl same ↦ rw same at by | inr one ↦ rest.each other one ];
          late = rest.late;
          order = (
            λ later ack one. order.0 later ack (subst (λ (l : List Flush). IsOneOf l later) (sym rest.whole) (in_left rest.firsts rest.others later one)),
            rest.order,
          );
        }
    | inr not_by ↦ record {
      firsts = [];
      others = flush ∷ flushes;
      whole = refl;
      each = λ other one. absurd one;
      late = λ other one by. elim one [
        | inl same ↦ not_by (subst (IsAcknowledgedBy history moment) (sym same) by)
        | inr one ↦ let early = order.0 other by.0 one by.1 by.2 in not_by (early.0, early.1, le_trans early.2 by.2)
      ];
      order = tt;
    }
  ]

  pub list_splits : (moment : ℕ) (flushes : List Flush) → AreListed history moment flushes → RaisesInOrder history moment flushes
  list_splits moment flushes are =
      let split = begins_with moment flushes are.each are.order in
      record {
        firsts = split.firsts;
        others = split.others;
        whole = split.whole;
        acknowledged = λ flush. (
          split.each flush,
          λ by. elim (in_either split.firsts split.others flush (subst (λ (l : List Flush). IsOneOf l flush) split.whole (are.acked flush by.0 by.1 by.2))) [
            | inl one ↦ one
            | inr one ↦ absurd (split.late flush one by)
          ],
        );
        ascending = ascend moment split.firsts split.order split.each;
        answered = λ flush one. are.each flush (subst (λ (l : List Flush). IsOneOf l flush) (sym split.whole) (in_right split.firsts split.others flush one));
        once = are.once;
      }
