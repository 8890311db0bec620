-- How fsyncs end, over a history with one more entry.
use Rattle.std.proofs.Common.{◌≡◌, ◌≢◌, ℕ, ◌<◌, ◌≤◌, Bool, true, false, cond, List, [], ◌∷◌, ◌++◌, length, take, Option, Some, None, ◌⊎◌, inl, inr, refl, sym, ap, subst, ◌∙◌, arith, nat_eq}
use Rattle.std.specs.Prelude.{filter_map}
use Rattle.std.specs.List.{cons_option}
use Rattle.std.specs.Option.{option_or}
use Rattle.std.proofs.Math.Seq.{take-append_seam}
use Rattle.std.proofs.lemmas.List.{append_assoc, append-nil, length-append}
use Rattle.std.proofs.lemmas.Option.{slice_get_within}
use Rattle.sfs_base.proofs.BasicNumbers.{same_number, not_same}
use Rattle.sfs_base.proofs.BasicOptions.{none_some, some_same}
use Rattle.sfs_base.specs.declared.numbers.CoreId.{CoreId}
use Rattle.sfs_base.specs.declared.numbers.NodeId.{NodeId}
use Rattle.sfs_base.specs.declared.numbers.Stamp.{Stamp}
use Rattle.tree_laws.specs.declared.call.Call.TheVariants as call
use Rattle.tree_laws.specs.declared.history.Entry.{Entry}
use Rattle.tree_laws.specs.declared.reply.Reply.{Reply}
use Rattle.tree_laws.specs.declared.turns.Turn.{Turn}
use Rattle.tree_laws.specs.declared.turns.TurnAct.{TurnAct}
use Rattle.tree_laws.specs.declared.turns.TurnAct.TheVariants as act
use Rattle.tree_laws.specs.History.{tree_after, IsLegal}
use Rattle.tree_laws.specs.Tree.{TreeState, is_alive}
use Rattle.cut_laws.specs.Closure.{Flush}
use Rattle.cut_laws.specs.Rules.{IsOneOf}
use Rattle.cut_laws.proofs.Basics.{in_left, in_right, in_either}
use Rattle.cut_laws.proofs.Entries.{entries_may_come}
use Rattle.cut_laws.proofs.Prefix.{take_take}
use Rattle.turn_laws.specs.Books.{flush_at}
use Rattle.turn_laws.specs.LawsTurns.{durable_by_act, durable_flush}
use Rattle.turn_laws.specs.OneThread.{ComesNext, IsNextFsync}
use Rattle.turn_laws.specs.Recorded.{IsLiveFsync, IsOfFsync, last_turn, EndsWith, EndsBy, EachEnds}
use Rattle.turn_laws.proofs.Causes.{last_among}

-- the last turn of turns with one more
own_last : (stamp : ℕ) (turns : List Turn) (turn : Turn) → turn.stamp.0 ≡ stamp → last_turn stamp (turns ++ turn ∷ []) ≡ Some turn
own_last stamp [] turn e = ap (λ (n : ℕ). cond (nat_eq n stamp) (Some turn) None) e ∙ ap (λ b. cond b (Some turn) None) (same_number stamp)
own_last stamp (first ∷ turns) turn e =
    ap (λ (o : Option Turn). option_or o (cond (nat_eq first.stamp.0 stamp) (Some first) None)) (own_last stamp turns turn e)

other_last : (stamp : ℕ) (turns : List Turn) (turn : Turn) → turn.stamp.0 ≢ stamp → last_turn stamp (turns ++ turn ∷ []) ≡ last_turn stamp turns
other_last stamp [] turn apart = ap (λ b. cond b (Some turn) None) (not_same turn.stamp.0 stamp apart)
other_last stamp (first ∷ turns) turn apart =
    ap (λ (o : Option Turn). option_or o (cond (nat_eq first.stamp.0 stamp) (Some first) None)) (other_last stamp turns turn apart)

-- A turn is this entry's, an fsync of a node.
pub record IsOwn (entry : Entry) (node : NodeId) (turn : Turn) : Type 0 where
  pub core : turn.core ≡ entry.core
  pub node_is : turn.node ≡ node
  pub stamp : turn.stamp ≡ entry.stamp

-- Turns with some more of one entry: the last of these, where there is one, is its last.
pub record Adds (entry : Entry) (node : NodeId) (turns all : List Turn) (last : Option Turn) : Type 0 where
  pub others : (stamp : ℕ) → stamp ≢ entry.stamp.0 → last_turn stamp all ≡ last_turn stamp turns
  pub own : last_turn entry.stamp.0 all ≡ last
  pub each : (turn : Turn) → IsOneOf all turn → IsOneOf turns turn ⊎ IsOwn entry node turn

pub adds_one : (entry : Entry) (node : NodeId) (turns all : List Turn) (last : Option Turn) → Adds entry node turns all last → (turn : Turn)
    → IsOwn entry node turn → Adds entry node turns (all ++ turn ∷ []) (Some turn)
adds_one entry node turns all last was turn is = record {
  others = λ stamp apart. other_last stamp all turn (λ e. apart (sym e ∙ ap (λ (s : Stamp). s.0) is.stamp)) ∙ was.others stamp apart;
  own = own_last entry.stamp.0 all turn (ap (λ (s : Stamp). s.0) is.stamp);
  each = λ other one. elim (in_either all (turn ∷ []) other one) [
    | inl before ↦ was.each other before
    | inr here ↦ elim here [
      | inl e ↦ inr (subst (IsOwn entry node) e is)
      | inr nothing ↦ absurd nothing
    ]
  ];
}

module _ (first : TreeState) (history : List Entry) (entry : Entry) (next : ComesNext first history entry) (legal : IsLegal first history) where
  abbrev longer : List Entry
  longer = history ++ entry ∷ []

  -- an entry of the history has a stamp below its length
  pub below_end : (other : Entry) → IsOneOf history other → other.stamp.0 < length history
  below_end other one = slice_get_within history other.stamp.0 other (entries_may_come first history other legal one).stands

  same_before : (stamp : ℕ) → stamp ≤ length history → take stamp longer ≡ take stamp history
  same_before stamp le = sym (take_take longer stamp (length history) le) ∙ ap (take stamp) (take-append_seam history (entry ∷ []))

  live_on : (other : Entry) (node : NodeId) → IsLiveFsync first history other node → IsLiveFsync first longer other node
  live_on other node is = record {
    among = in_left history (entry ∷ []) other is.among;
    asked = is.asked;
    alive = let lt = below_end other is.among in ap (λ h. is_alive (tree_after first h) node.0) (same_before other.stamp.0 (omega arith)) ∙ is.alive;
  }

  at_end : take entry.stamp.0 longer ≡ history
  at_end = ap (λ k. take k longer) next.stamped ∙ take-append_seam history (entry ∷ [])

  pub next_live : (node : NodeId) → IsNextFsync first history entry node → IsLiveFsync first longer entry node
  next_live node is = record {
    among = in_right history (entry ∷ []) entry (inl refl);
    asked = is.asked;
    alive = ap (λ h. is_alive (tree_after first h) node.0) at_end ∙ is.alive;
  }

  module _ (turns : List Turn) (each : (turn : Turn) → IsOneOf turns turn → IsOfFsync first history turn) where
    -- no turn so far has the next stamp
    none_own : (o : Option Turn) → last_turn entry.stamp.0 turns ≡ o → o ≡ None
    none_own None e = refl
    none_own (Some turn) e =
        let there = last_among entry.stamp.0 turns turn e in
        let of = each turn there.0 in
        let lt = below_end of.entry of.fsync.among in
        let same : of.entry.stamp.0 ≡ length history = ap (λ (s : Stamp). s.0) (sym of.stamp) ∙ there.1 ∙ next.stamped in
        absurd (omega arith)

    pub adds_none : (node : NodeId) → Adds entry node turns turns None
    adds_none node = record {
      others = λ stamp apart. refl;
      own = none_own (last_turn entry.stamp.0 turns) refl;
      each = λ turn one. inl one;
    }

    -- each turn is of an fsync of the longer history
    pub each_still : (turn : Turn) → IsOneOf turns turn → IsOfFsync first longer turn
    each_still turn one = let of = each turn one in record { entry = of.entry; fsync = live_on of.entry turn.node of.fsync; core = of.core; stamp = of.stamp }

    pub each_on : (node : NodeId) (all : List Turn) → IsNextFsync first history entry node
        → ((turn : Turn) → IsOneOf all turn → IsOneOf turns turn ⊎ IsOwn entry node turn) → (turn : Turn) → IsOneOf all turn → IsOfFsync first longer turn
    each_on node all is ways turn one = elim (ways turn one) [
      | inl before ↦ each_still turn before
      | inr own ↦ record {
        entry = entry;
        fsync = subst (IsLiveFsync first longer entry) (sym own.node_is) (next_live node is);
        core = own.core;
        stamp = own.stamp;
      }
    ]

  -- an fsync of the longer history is one of the history, or the next one
  pub back : (other : Entry) (node : NodeId) → IsLiveFsync first longer other node
      → IsLiveFsync first history other node ⊎ ((entry ≡ other) × (is_alive (tree_after first history) node.0 ≡ true))
  back other node is = elim (in_either history (entry ∷ []) other is.among) [
    | inl before ↦ inl (record {
      among = before;
      asked = is.asked;
      alive = let lt = below_end other before in sym (ap (λ h. is_alive (tree_after first h) node.0) (same_before other.stamp.0 (omega arith))) ∙ is.alive;
    })
    | inr here ↦ elim here [
      | inl e ↦ inr (e, sym (ap (λ h. is_alive (tree_after first h) node.0) (ap (λ (x : Entry). take x.stamp.0 longer) (sym e) ∙ at_end)) ∙ is.alive)
      | inr nothing ↦ absurd nothing
    ]
  ]

  -- each fsync ends by its last turn, where the next one does
  pub ends_on : (failed : Option ℕ) (turns all : List Turn) (last : Option Turn) → EachEnds first history turns failed
      → ((stamp : ℕ) → stamp ≢ entry.stamp.0 → last_turn stamp all ≡ last_turn stamp turns) → last_turn entry.stamp.0 all ≡ last
      → ((node : NodeId) → entry.call ≡ call.Fsync node → is_alive (tree_after first history) node.0 ≡ true → EndsBy failed last entry.reply entry.ack)
      → EachEnds first longer all failed
  ends_on failed turns all last was others own given other node is = elim (back other node is) [
    | inl before ↦
        let lt = below_end other before.among in
        let stamped = next.stamped in
        subst (λ (o : Option Turn). EndsBy failed o other.reply other.ack) (sym (others other.stamp.0 (λ e. absurd (omega arith)))) (was other node before)
    | inr here ↦
        subst (λ (x : Entry). EndsBy failed (last_turn x.stamp.0 all) x.reply x.ack) here.0
        (subst (λ (o : Option Turn). EndsBy failed o entry.reply entry.ack) (sym own) (given node (ap (λ (x : Entry). x.call) here.0 ∙ is.asked) here.1))
  ]

-- what ended before any failure has ended so after it
pub ends_then : (first : TreeState) (history : List Entry) (turns : List Turn) (faults : ℕ) → EachEnds first history turns None
    → EachEnds first history turns (Some faults)
ends_then first history turns faults was entry node is = by (last_turn entry.stamp.0 turns) (was entry node is)
  where
    by_act : (a : TurnAct) (turn : Turn) → EndsWith None a turn entry.reply entry.ack → EndsWith (Some faults) a turn entry.reply entry.ack
    by_act act.Granted turn ends = ends
    by_act act.GivenBack turn ends = ends
    by_act (act.Short kind asked have) turn ends = ends
    by_act act.Halted turn ends = absurd (none_some ends.1)
    by_act act.CutAt turn ends = ends
    by_act act.Opened turn ends = ends
    by_act act.Durable turn ends = ends
    by_act act.Fail turn ends = ends

    by : (o : Option Turn) → EndsBy None o entry.reply entry.ack → EndsBy (Some faults) o entry.reply entry.ack
    by None ends = ends
    by (Some turn) ends = by_act turn.act turn ends

-- An fsync is that of a turn.
pub record IsOfTurn (turns : List Turn) (flush : Flush) : Type 0 where
  pub turn : Turn
  pub among : IsOneOf turns turn
  pub own : flush_at turn ≡ flush

-- so is each that was made durable
pub durable_turn : (turns : List Turn) (flush : Flush) → IsOneOf (filter_map durable_flush turns) flush → IsOfTurn turns flush
durable_turn [] flush one = absurd one
durable_turn (turn ∷ turns) flush one = by turn.act one (durable_turn turns flush)
  where
    later : IsOfTurn turns flush → IsOfTurn (turn ∷ turns) flush
    later is = record { turn = is.turn; among = inr is.among; own = is.own }

    by : (a : TurnAct) → IsOneOf (cons_option (durable_by_act a (flush_at turn)) (filter_map durable_flush turns)) flush
        → (IsOneOf (filter_map durable_flush turns) flush → IsOfTurn turns flush) → IsOfTurn (turn ∷ turns) flush
    by act.Granted one rest = later (rest one)
    by act.GivenBack one rest = later (rest one)
    by (act.Short kind asked have) one rest = later (rest one)
    by act.Halted one rest = later (rest one)
    by act.CutAt one rest = later (rest one)
    by act.Opened one rest = later (rest one)
    by act.Fail one rest = later (rest one)
    by act.Durable (inl e) rest = record { turn = turn; among = inl refl; own = e }
    by act.Durable (inr one) rest = later (rest one)
