-- What a core tells while it has the box stands right behind what it has seen.
use Rattle.std.proofs.Common.{◌≡◌, ◌<◌, ◌∷◌, ◌++◌, ◌∙◌, ℕ, List, [], length, Option, Some, None, inl, inr, refl, sym, ap, subst, arith, length-append, append-nil}
use Rattle.std.proofs.lemmas.List.{nil_from_length}
use Rattle.std.proofs.lemmas.List.Elements.{filter-append, filter_map-append}
use Rattle.sfs_dev.specs.Disk.{View}
use Rattle.tree_laws.specs.Tree.{TreeState}
use Rattle.tree_laws.specs.History.{IsLegal}
use Rattle.stamp_table.specs.declared.event.Event.{Event}
use Rattle.stamp_table.specs.declared.event.Event.TheVariants.{Called, Told}
use Rattle.stamp_table.specs.declared.view.View.{View as Sight}
use Rattle.stamp_table.specs.Events.{event_core, is_call, called, calls_in, told_by, IsLawful, stands_for}
use Rattle.stamp_table.specs.Rule.{Has, entries_by, is_by}
use Rattle.stamp_table.specs.Steps.{IsPast}
use Rattle.stamp_table.specs.Table.{TableState, TellsFact, MayTell}
use Rattle.stamp_table.proofs.Logs.{own_comes}
use Rattle.slot_laws.specs.declared.label.Label.{Label}
use Rattle.slot_laws.specs.Labels.{OwnTold, after_label, own_label, own_from, first_past, past_from, nothing_told}
use Rattle.slot_laws.specs.Laws.{AreOfCores}
use Rattle.slot_laws.specs.Rules.{HasTurn, MayLabel}
use Rattle.slot_laws.proofs.NodesTold.{may_parts, past_parts}
use Rattle.slot_laws.proofs.Comes.{may_both}
use Rattle.slot_laws.proofs.Numbered.{last_or_before}
use Rattle.disk_box.specs.declared.key.BoxKey.{BoxKey}
use Rattle.disk_box.specs.declared.desk.Desk.{Desk}
use Rattle.disk_box.specs.Box.{past_of, LawfulBox, StandsBox, WasTold}
use Rattle.disk_box.specs.Pens.{PenHand, past_at, own_at, HoldsBox, PenGoes}
use Rattle.disk_box.proofs.Still.{stands_still}

-- what a core's own labels come to, once there is one more
pub own_more : (log : List (Event Label)) (fact : Label) (core : ℕ) (own : OwnTold)
    → own_from (log ++ Told (record { 0 = core }) fact ∷ []) own ≡ own_label fact (own_from log own)
own_more [] fact core own = refl
own_more (Called entry ∷ log) fact core own = own_more log fact core own
own_more (Told other one ∷ log) fact core own = own_more log fact core (own_label one own)

-- one event more of one of the cores
one_more : (cores core : ℕ) (log : List (Event Label)) (fact : Label) → AreOfCores cores log → core < cores
    → AreOfCores cores (log ++ Told (record { 0 = core }) fact ∷ [])
one_more cores core log fact are low event among = elim (last_or_before log (Told (record { 0 = core }) fact) event among) [
  | inl before ↦ are event before
  | inr same ↦ subst (λ (e : Event Label). event_core e < cores) same low
]

module _ {D : Type 0} (view : D → View) (key : BoxKey D) where
  -- what a box's table asks of a history, and of a value
  abbrev pub Lawful : TreeState → List (Event Label) → Type 0
  Lawful first log = WasTold key log

  abbrev pub Stood : TreeState → List (Event Label) → ℕ → Option (Desk D) → Type 0
  Stood first log place value = place ≡ 0 → StandsBox view key log value

  -- a history that a core may meet
  abbrev pub Met : Sight TreeState (Event Label) → List (Event Label) → Type 0
  Met seat log = IsPast event_core is_call (IsLawful Lawful) (stands_for Stood) seat log

  keeps_place : (seat : Sight TreeState (Event Label)) (fact : Label) (log : List (Event Label)) (number : ℕ) → Has seat.held 0 → (place : ℕ)
      (value : Option (Option (Desk D))) → (Has seat.held place → ⊥) → stands_for Stood seat.first log place value
      → stands_for Stood seat.first (log ++ told_by seat.core fact number ∷ []) place value
  keeps_place seat fact log number has place None not stood = stood
  keeps_place seat fact log number has place (Some value) not stood = λ zero. absurd (not (subst (Has seat.held) (sym zero) has))

  -- a label may be told, by one of the disk's cores, that may be told by the rules behind each history that the core may meet
  pub may_tell : (seat : Sight TreeState (Event Label)) (fact : Label) → Has seat.held 0 → seat.core < key.layout.cores
      → ((log : List (Event Label)) → Met seat log
      → HasTurn seat.core fact (past_of key log).busy × MayLabel key.layout key.faults seat.core fact (past_of key log))
      → MayTell Lawful Stood seat fact
  may_tell seat fact has core may log past =
      let next : List (Event Label) = log ++ told_by seat.core fact 0 ∷ [] in
      let same : calls_in next ≡ calls_in log = filter_map-append called log (told_by seat.core fact 0 ∷ []) ∙ append-nil (calls_in log) in
      record {
        legal_next = record {
          legal_calls = subst (λ l. IsLegal seat.first l) (sym same) past.legal_log.legal_calls;
          told = record {
            rules = may_both key.layout key.faults log (told_by seat.core fact 0 ∷ []) (first_past key.start) past.legal_log.told.rules (may log past, tt);
            cores = one_more key.layout.cores seat.core log fact past.legal_log.told.cores core;
          };
        };
        keeps = keeps_place seat fact log 0 has;
      }

-- what a core with the box has seen, and a history that goes on from there without a label of its, are the same
is_seen : {D : Type 0} (key : BoxKey D) (seen more : List (Event Label)) (core : ℕ) → LawfulBox key (seen ++ more) → (past_of key seen).busy ≡ Some core
    → length (entries_by event_core core (seen ++ more)) ≡ length (entries_by event_core core seen) → more ≡ []
is_seen key seen more core may busy same =
    let parts = filter-append (is_by event_core core) seen more in
    let both = ap length parts ∙ length-append (entries_by event_core core seen) (entries_by event_core core more) in
    stands_still key.layout key.faults core more (past_of key seen) (may_parts key.layout key.faults seen more (first_past key.start) may).1 busy
    (nil_from_length (entries_by event_core core more) (omega (arith, both, same)))

module _ {D : Type 0} (view : D → View) (t : TableState (BoxKey D)) (before : PenHand D) (holds : HoldsBox t before) where
  abbrev key : BoxKey D
  key = before.table.given

  -- each history that it may meet is what it has seen
  pub met_is_seen : (log : List (Event Label)) → Met view key before.view log → log ≡ before.view.seen
  met_is_seen log past =
      let more = past.seen.0 in
      let whole : before.view.seen ++ more ≡ log = past.seen.1 in
      let mine = sym past.mine ∙ holds.mine in
      let none = is_seen key before.view.seen more before.view.core (subst (LawfulBox key) (sym whole) past.legal_log.told.rules) holds.busy
      (ap (λ l. length (entries_by event_core before.view.core l)) whole ∙ ap length mine)
      in
      sym whole ∙ ap (λ l. before.view.seen ++ l) none ∙ append-nil before.view.seen

  -- so a label that may be told by the rules may be told
  pub may_tell_here : (fact : Label) → HasTurn before.view.core fact (past_at before).busy
      → MayLabel key.layout key.faults before.view.core fact (past_at before) → MayTell (Lawful view key) (Stood view key) before.view fact
  may_tell_here fact turn may = may_tell view key before.view fact (subst (λ l. Has l 0) (sym holds.held) (inl refl)) holds.core_is
      (λ log past. subst (λ l. HasTurn before.view.core fact (past_of key l).busy × MayLabel key.layout key.faults before.view.core fact (past_of key l))
      (sym (met_is_seen log past)) (turn, may))

  -- Once it has told one.
  module _ (fact : Label) (after : PenHand D) (tells : TellsFact (Lawful view key) (Stood view key) fact before after) where
    abbrev log : List (Event Label)
    log = tells.told.0

    abbrev event : Event Label
    event = Told (record { 0 = before.view.core }) fact

    log_is : log ≡ before.view.seen
    log_is =
        let drew = tells.told.2 in
        let more = drew.seen.0 in
        let whole : before.view.seen ++ more ≡ log = drew.seen.1 in
        let own = own_comes event_core before.view.core log event refl in
        let counted = ap length (sym drew.mine ∙ drew.own ∙ ap (entries_by event_core before.view.core) drew.entry_last ∙ own) in
        let one = length-append before.view.mine (event ∷ []) in
        let other = length-append (entries_by event_core before.view.core log) (event ∷ []) in
        let mine = ap length holds.mine in
        let may = may_parts key.layout key.faults log (event ∷ []) (first_past key.start) (subst (LawfulBox key) drew.entry_last drew.legal_seen.told.rules) in
        let none = is_seen key before.view.seen more before.view.core (subst (LawfulBox key) (sym whole) may.0) holds.busy
        (ap (λ l. length (entries_by event_core before.view.core l)) whole ∙ omega (arith, counted, one, other, mine))
        in
        sym whole ∙ ap (λ l. before.view.seen ++ l) none ∙ append-nil before.view.seen

    pub seen_is : after.view.seen ≡ before.view.seen ++ event ∷ []
    seen_is = tells.told.2.entry_last ∙ ap (λ l. l ++ event ∷ []) log_is

    -- what was told comes to that of before and the label
    pub past_told : past_at after ≡ after_label key.layout before.view.core fact (past_at before)
    past_told =
        ap (λ (z : BoxKey D × List (Event Label)). past_of z.0 z.1) (λ i. (ap (λ (h : PenHand D). h.table.given) tells.frame i, seen_is i))
        ∙ past_parts key.layout key.faults before.view.seen (event ∷ []) (first_past key.start)

    pub own_told : own_at after ≡ own_label fact (own_at before)
    own_told = ap (λ l. own_from l nothing_told) tells.told.2.mine ∙ own_more before.view.mine fact before.view.core nothing_told

    pub goes_told : PenGoes before after
    goes_told = record {
      frame = λ i. record (tells.frame i) { held = before.held; room = before.room };
      view = λ i. record (tells.told.2.frame i) { held = before.view.held };
      seen = (event ∷ [], sym seen_is);
    }

    -- and the core has the box still, where the label has not taken it from it
    pub holds_told : (after_label key.layout before.view.core fact (past_at before)).busy ≡ Some before.view.core → HoldsBox t after
    holds_told busy =
        let core = ap (λ (v : Sight TreeState (Event Label)). v.core) tells.told.2.frame in
        let same = ap (λ (h : PenHand D). h.table) tells.frame in
        record {
          table_is = same ∙ holds.table_is;
          place = subst (λ (d : Rattle.stamp_table.specs.Hand.Desk (BoxKey D)). 0 < d.id.slots) (sym same) holds.place;
          core_is = subst (λ (z : ℕ × BoxKey D). z.0 < z.1.layout.cores) (λ i. (sym core i, ap (λ (d : Rattle.stamp_table.specs.Hand.Desk (BoxKey D)). d.given) (sym same) i)) holds.core_is;
          holds = ap (λ (h : PenHand D). h.held) tells.frame ∙ holds.holds;
          held = ap (λ (v : Sight TreeState (Event Label)). v.held) tells.told.2.frame ∙ holds.held;
          lawful = subst (λ (d : Rattle.stamp_table.specs.Hand.Desk (BoxKey D)). LawfulBox d.given after.view.seen) (sym same)
              tells.told.2.legal_seen.told.rules;
          mine = tells.told.2.own ∙ ap (λ c. entries_by event_core c after.view.seen) (sym core);
          busy = ap (λ (p : Rattle.slot_laws.specs.Labels.BoxPast). p.busy) past_told ∙ busy ∙ ap Some (sym core);
        }
