-- Listed fsyncs over a history with one more entry.
use Rattle.std.proofs.Common.{◌≡◌, ◌≢◌, ℕ, ◌≤◌, List, [], ◌∷◌, ◌++◌, length, inl, inr, refl, sym, ap, ◌∙◌, arith}
use Rattle.tree_laws.specs.declared.history.Entry.{Entry}
use Rattle.tree_laws.specs.Tree.{TreeState}
use Rattle.cut_laws.specs.Closure.{Flush}
use Rattle.cut_laws.specs.Covers.{IsAcknowledged}
use Rattle.cut_laws.specs.Rules.{IsOneOf}
use Rattle.cut_laws.proofs.Basics.{in_left, in_right, in_either}
use Rattle.crash_laws.specs.Listed.{IsFsyncOf, MayBeWritten, IsListedFsync, IsAcknowledgedBy, AreInOrder, StampsDiffer, AreListed}
use Rattle.crash_laws.proofs.Fsyncs.{HasLast, listed_within, acknowledged_listed, listed_still, listed_last, acknowledged_still, acknowledged_in, own_flush, legal_before, last_may_come}

-- where an entry is not acknowledged by a moment, the same fsyncs are listed
module _ (history : List Entry) (entry : Entry) (moment : ℕ) (none : (flush : Flush) (ack : ℕ) → IsAcknowledged (entry ∷ []) flush ack → ack ≤ moment → ⊥) where
  order_on : (flushes : List Flush) → AreInOrder history moment flushes → AreInOrder (history ++ entry ∷ []) moment flushes
  order_on [] order = tt
  order_on (flush ∷ flushes) order = (
    λ later ack one acked le. elim (acknowledged_in history entry later ack acked) [
      | inl before ↦ let by = order.0 later ack one before le in (by.0, acknowledged_still history entry flush by.0 by.1, by.2)
      | inr last ↦ absurd (none later ack last le)
    ],
    order_on flushes order.1,
  )

  pub listed_on : (flushes : List Flush) → AreListed history moment flushes → AreListed (history ++ entry ∷ []) moment flushes
  listed_on flushes are = record {
    each = λ flush one. listed_still history entry flush (are.each flush one);
    acked = λ flush ack acked le. elim (acknowledged_in history entry flush ack acked) [
      | inl before ↦ are.acked flush ack before le
      | inr last ↦ absurd (none flush ack last le)
    ];
    order = order_on flushes are.order;
    once = are.once;
  }

-- an entry that is an fsync, and may be written, is listed behind those before it
module _ {first : TreeState} {history : List Entry} {entry : Entry} {own : Flush} (last : HasLast first history entry) (fsync : IsFsyncOf entry own)
    (answered : MayBeWritten entry.reply) where
  abbrev longer : List Entry
  longer = history ++ entry ∷ []

  pub own_stamp : own.stamp ≡ length history
  own_stamp = ap (λ (f : Flush). f.stamp) fsync.own ∙ (last_may_come last).stamped

  earlier_stamp : (flush : Flush) → IsListedFsync history flush → flush.stamp ≢ own.stamp
  earlier_stamp flush is same =
      let within = listed_within first history (legal_before last) flush is in
      let whole = own_stamp in
      omega arith

  -- what was listed before is not this entry, and the other way round
  not_own : (flush : Flush) (ack : ℕ) → IsListedFsync history flush → IsAcknowledged (entry ∷ []) flush ack → ⊥
  not_own flush ack is acked = earlier_stamp flush is (ap (λ (f : Flush). f.stamp) (sym (own_flush entry flush ack acked own fsync)))

  not_earlier : (flush : Flush) (ack : ℕ) → own ≡ flush → IsAcknowledged history flush ack → ⊥
  not_earlier flush ack same before = earlier_stamp flush (acknowledged_listed history flush ack before) (ap (λ (f : Flush). f.stamp) (sym same))

  -- where this entry is acknowledged, each of these was, and not later
  abbrev pub AreAckedBefore : List Flush → Type 0
  AreAckedBefore flushes = (ack : ℕ) → IsAcknowledged (entry ∷ []) own ack → (flush : Flush) → IsOneOf flushes flush → IsAcknowledgedBy history ack flush

  -- its stamp is none of theirs
  differ_more : (flushes : List Flush) → ((flush : Flush) → IsOneOf flushes flush → IsListedFsync history flush) → StampsDiffer flushes
      → StampsDiffer (flushes ++ own ∷ [])
  differ_more [] each once = (λ other one. absurd one, tt)
  differ_more (flush ∷ flushes) each once = (
    λ other one. elim (in_either flushes (own ∷ []) other one) [
      | inl before ↦ once.0 other before
      | inr behind ↦ elim behind [
        | inl same ↦ λ e. earlier_stamp flush (each flush (inl refl)) (sym e ∙ ap (λ (f : Flush). f.stamp) (sym same))
        | inr none ↦ absurd none
      ]
    ],
    differ_more flushes (λ other one. each other (inr one)) once.1,
  )

  module _ (moment : ℕ) where
    order_more : (flushes : List Flush) → ((flush : Flush) → IsOneOf flushes flush → IsListedFsync history flush) → AreAckedBefore flushes
        → AreInOrder history moment flushes → AreInOrder longer moment (flushes ++ own ∷ [])
    order_more [] each acked order = (λ later ack one. absurd one, tt)
    order_more (flush ∷ flushes) each acked order =
        (head, order_more flushes (λ other one. each other (inr one)) (λ ack mine other one. acked ack mine other (inr one)) order.1)
      where
        old : (later : Flush) (ack : ℕ) → IsOneOf flushes later → IsAcknowledged longer later ack → ack ≤ moment → IsAcknowledgedBy longer ack flush
        old later ack one is le = elim (acknowledged_in history entry later ack is) [
          | inl before ↦ let by = order.0 later ack one before le in (by.0, acknowledged_still history entry flush by.0 by.1, by.2)
          | inr mine ↦ absurd (not_own later ack (each later (inr one)) mine)
        ]

        new : (later : Flush) (ack : ℕ) → own ≡ later → IsAcknowledged longer later ack → IsAcknowledgedBy longer ack flush
        new later ack same is = elim (acknowledged_in history entry later ack is) [
          | inl before ↦ absurd (not_earlier later ack same before)
          | inr mine ↦ let by = acked ack (rw same mine) flush (inl refl) in (by.0, acknowledged_still history entry flush by.0 by.1, by.2)
        ]

        head : (later : Flush) (ack : ℕ) → IsOneOf (flushes ++ own ∷ []) later → IsAcknowledged longer later ack → ack ≤ moment
            → IsAcknowledgedBy longer ack flush
        head later ack one is le = elim (in_either flushes (own ∷ []) later one) [
          | inl before ↦ old later ack before is le
          | inr behind ↦ elim behind [ inl same ↦ new later ack same is | inr none ↦ absurd none ]
        ]

    pub listed_more : (flushes : List Flush) → AreListed history moment flushes → AreAckedBefore flushes → AreListed longer moment (flushes ++ own ∷ [])
    listed_more flushes are acked = record {
      each = λ flush one. elim (in_either flushes (own ∷ []) flush one) [
        | inl before ↦ listed_still history entry flush (are.each flush before)
        | inr behind ↦ elim behind [ inl same ↦ rw same at (listed_last history entry own fsync answered) | inr none ↦ absurd none ]
      ];
      acked = λ flush ack is le. elim (acknowledged_in history entry flush ack is) [
        | inl before ↦ in_left flushes (own ∷ []) flush (are.acked flush ack before le)
        | inr mine ↦ in_right flushes (own ∷ []) flush (inl (own_flush entry flush ack mine own fsync))
      ];
      order = order_more flushes are.each acked are.order;
      once = differ_more flushes are.each are.once;
    }
