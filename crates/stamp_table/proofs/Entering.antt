-- A core's list gets an entry more.
use Rattle.std.proofs.Common.{◌≡◌, ℕ, ◌^◌, ◌<◌, ◌≤◌, true, List, [], ◌∷◌, ◌++◌, map, length, Option, IsSome, sym, ap, ◌∙◌, subst, refl, arith, length-append, append-nil, Some, None, option_map, ⊎_elim}
use Rattle.std.specs.Prelude.{◌↔◌, IsTrue, if◌then◌else◌}
use Rattle.std.proofs.lemmas.Bool.{cases_Bool}
use Rattle.std.proofs.lemmas.List.{map-append, length-map}
use Rattle.std.proofs.lemmas.List.Elements.{filter_map-append}
use Rattle.atomic_table.specs.Seated.{TableId}
use Rattle.atomic_table.specs.declared.shared.Seat.{Seat}
use Rattle.sfs_base.specs.declared.numbers.Stamp.{Stamp}
use Rattle.tree_laws.specs.Tree.{TreeState}
use Rattle.tree_laws.specs.declared.call.Call.{Call}
use Rattle.tree_laws.specs.declared.reply.Reply.{Reply}
use Rattle.tree_laws.specs.declared.history.Entry.{Entry}
use Rattle.tree_laws.specs.History.{IsLegal, IsFsyncReply, is_ok_reply}
use Rattle.stamp_table.specs.declared.event.Event.{Event}
use Rattle.stamp_table.specs.declared.event.Event.TheVariants.{Called}
use Rattle.stamp_table.specs.Rule.{stamps_in}
use Rattle.stamp_table.proofs.Seats.{past_down, draw_up}
use Rattle.stamp_table.proofs.Calling.{stamps_are_calls}
use Rattle.stamp_table.specs.declared.held.HeldCell.{HeldCell}
use Rattle.stamp_table.specs.Ascending.{Falls, AreBelow}
use Rattle.stamp_table.specs.Steps.{MayDraw, IsPast}
use Rattle.stamp_table.specs.Placing.{IsOneToOne, by_given, at_slots}
use Rattle.stamp_table.specs.Events.{event_core, is_call, called, told_by, calls_in, SeatView, tree_view, places_shown, LawfulFrom, StandsFrom}
use Rattle.stamp_table.specs.Hand.{IsCore, WaitsWell, spare_of, empty_slots}
use Rattle.stamp_table.specs.Table.{IsSameSeat, MayCall, MayDrawEntry, AddsEntry, MayTell, MayTellNow, TellsNow, LooksNow, entry_numbered, with_answer}
use Rattle.stamp_table.specs.Answered.{unanswered, IsWellAnswered, AreWellAnswered, AreCallsOf, waits_for_answer}
use Rattle.stamp_table.proofs.Answered.{last_comes_well, answered_well}

-- where there is room for an entry more, the most that a core may have was not reached
pub below_most : (capacity entries : ℕ) → 0 < spare_of capacity entries → entries < 2 ^ 50
below_most capacity entries some = grind (arith, some)

well_snoc : (entries : List Entry) (entry : Entry) → AreWellAnswered entries → IsWellAnswered entry → AreWellAnswered (entries ++ entry ∷ [])
well_snoc [] entry well last = (last, tt)
well_snoc (e ∷ entries) entry well last = (well.0, well_snoc entries entry well.1 last)

well_last : (entries : List Entry) (last entry : Entry) → AreWellAnswered (entries ++ last ∷ []) → IsWellAnswered entry
    → AreWellAnswered (entries ++ entry ∷ [])
well_last [] last entry well new = (new, tt)
well_last (e ∷ entries) last entry well new = (well.0, well_last entries last entry well.1 new)

module _ {X : Type 0} where
  -- a core's entries with one more are the calls of its events with one more
  calls_more : (mine : List (Event X)) (entries : List Entry) (entry : Entry) → AreCallsOf mine entries → IsWellAnswered entry
      → AreCallsOf (mine ++ Called entry ∷ []) (entries ++ entry ∷ [])
  calls_more mine entries entry are well = record {
    same =
        map-append unanswered entries (entry ∷ [])
        ∙ (ap (λ l. l ++ unanswered entry ∷ []) are.same
        ∙ (sym (map-append unanswered (calls_in mine) (entry ∷ [])) ∙ ap (map unanswered) (sym (filter_map-append called mine (Called entry ∷ [])))));
    answered = well_snoc entries entry are.answered well;
  }

  -- a core's entries are the calls of its events with a fact more
  calls_told : (mine : List (Event X)) (entries : List Entry) (core : ℕ) (fact : X) (number : ℕ) → AreCallsOf mine entries
      → AreCallsOf (mine ++ told_by core fact number ∷ []) entries
  calls_told mine entries core fact number are = record {
    same = are.same ∙ ap (map unanswered) (sym (append-nil (calls_in mine)) ∙ sym (filter_map-append called mine (told_by core fact number ∷ [])));
    answered = are.answered;
  }

  -- so are they once the last one that waits has its answer
  pub calls_answered : (mine : List (Event X)) (front : List Entry) (last : Entry) (reply : Reply) (ack : Option ℕ) → AreCallsOf mine (front ++ last ∷ [])
      → waits_for_answer last.call last.reply ≡ true → IsFsyncReply reply → (IsSome ack ↔ IsTrue (is_ok_reply reply))
      → AreCallsOf mine (front ++ with_answer last reply ack ∷ [])
  calls_answered mine front last reply ack are waits may acknowledged = let a = answered_well last reply ack waits may acknowledged in record {
    same =
        map-append unanswered front (with_answer last reply ack ∷ [])
        ∙ (ap (λ e. map unanswered front ++ e ∷ []) a.same ∙ (sym (map-append unanswered front (last ∷ [])) ∙ are.same));
    answered = well_last front last (with_answer last reply ack) are.answered a.well;
  }

  -- the call that was seen last has an answer that it may have
  seen_well : (first : TreeState) (log : List (Event X)) (entry : Entry) (seen : List (Event X)) → seen ≡ log ++ Called entry ∷ []
      → IsLegal first (calls_in seen) → IsWellAnswered entry
  seen_well first log entry seen is legal =
      last_comes_well first 0 (calls_in log) entry (subst (λ l. IsLegal first l) (ap calls_in is ∙ filter_map-append called log (Called entry ∷ [])) legal)

  -- a core has drawn as many stamps as it has entries
  pub stamps_of : (mine : List (Event X)) (entries : List Entry) → AreCallsOf mine entries → stamps_in is_call mine ≡ length entries
  stamps_of mine entries are = let l = ap length are.same in let m = length-map entries unanswered in let n = length-map (calls_in mine) unanswered in
      let s = stamps_are_calls mine in omega (arith, l, m, n, s)

  pub calls_few : (mine : List (Event X)) (entries : List Entry) → AreCallsOf mine entries → length entries ≤ 2 ^ 50 → length (calls_in mine) ≤ 2 ^ 50
  calls_few mine entries are few = let s = stamps_of mine entries are in let c = stamps_are_calls mine in omega (arith, s, c, few)

module _ {C X G : Type 0} (lawful : G → TreeState → List (Event X) → Type 0) (stands : G → TreeState → List (Event X) → ℕ → C → Type 0)
    (slot_at place_at : ℕ → ℕ → ℕ) (one : (measure : ℕ) → IsOneToOne (slot_at measure) (place_at measure))
    (seat : Seat (Option C) (SeatView (G × ℕ) X)) (number : ℕ) (entries : List Entry) (cells : List (HeldCell C))
    (core : IsCore place_at seat number entries cells) (call : Call) (reply : Reply) where
  -- a call that may come may be entered
  pub may_enter : length entries < 2 ^ 50 → MayCall (lawful seat.me.0.first.1.0) (stands seat.me.0.first.1.0) (tree_view place_at seat.me.0) call reply
      → MayDrawEntry (by_given lawful) (at_slots place_at stands) seat.me.0 (entry_numbered number call reply)
  may_enter few may = record {
    own = λ n. sym core.number_known;
    few = let c = stamps_of seat.me.0.mine entries core.entries_are in omega (arith, c, few);
    may =
        subst (λ k. (log : List (Event X)) → IsPast event_core is_call (LawfulFrom (by_given lawful)) (StandsFrom (at_slots place_at stands)) seat.me.0 log
        → MayDraw event_core is_call (LawfulFrom (by_given lawful)) (StandsFrom (at_slots place_at stands)) seat.me.0
        (λ n. Called (entry_numbered k call reply n)) log)
        core.number_known
        (λ log past. draw_up lawful stands slot_at place_at one seat.me.0 (λ n. Called (entry_numbered seat.me.0.core call reply n)) log
        (may log (past_down lawful stands slot_at place_at one seat.me.0 log past)));
  }

  -- and once it was entered the core's parts fit again
  pub entered : (after : Seat (Option C) (SeatView (G × ℕ) X)) (stamp : ℕ) → length entries < 2 ^ 50 → IsSameSeat seat after
      → AddsEntry (by_given lawful) (at_slots place_at stands) (entry_numbered number call reply) seat.me stamp after.me
      → IsCore place_at after number (entries ++ entry_numbered number call reply stamp ∷ []) cells
  entered after stamp few same adds = let drew = adds.1.1 in let held : after.me.0.held ≡ seat.me.0.held = ap (λ v. v.held) drew.frame in
      let shown : places_shown place_at after.me.0 ≡ places_shown place_at seat.me.0 = ap (places_shown place_at) drew.frame in record {
        lives = ap (λ v. v.gone) drew.frame ∙ core.lives;
        calls = ap (λ v. v.gathers) drew.frame ∙ core.calls;
        number_known = ap (λ v. v.core) drew.frame ∙ core.number_known;
        entries_are = subst (λ m. AreCallsOf m (entries ++ entry_numbered number call reply stamp ∷ [])) (sym drew.mine)
            (calls_more seat.me.0.mine entries (entry_numbered number call reply stamp) core.entries_are
            (seen_well seat.me.0.first.0 adds.1.0 (entry_numbered number call reply stamp) after.me.0.seen drew.entry_last drew.legal_seen.legal_calls));
        few = let m = length-append entries (entry_numbered number call reply stamp ∷ []) in omega (arith, m, few);
        places = shown ∙ core.places;
        falls = subst Falls (sym shown) core.falls;
        slots = adds.0 ∙ (core.slots ∙ ap empty_slots (sym held));
        within = subst (λ (z : TableId × List ℕ). AreBelow z.0.slots z.1) (λ i. (sym same.table i, sym shown i)) core.within;
      }

module _ {C X G : Type 0} (lawful : G → TreeState → List (Event X) → Type 0) (stands : G → TreeState → List (Event X) → ℕ → C → Type 0)
    (slot_at place_at : ℕ → ℕ → ℕ) (one : (measure : ℕ) → IsOneToOne (slot_at measure) (place_at measure))
    (seat : Seat (Option C) (SeatView (G × ℕ) X)) (number : ℕ) (entries : List Entry) (cells : List (HeldCell C))
    (core : IsCore place_at seat number entries cells) where
  -- a fact that may stand may be told
  pub may_tell_now : (fact : X) → MayTell (lawful seat.me.0.first.1.0) (stands seat.me.0.first.1.0) (tree_view place_at seat.me.0) fact
      → MayTellNow (by_given lawful) (at_slots place_at stands) seat.me.0 fact
  may_tell_now fact may log past = draw_up lawful stands slot_at place_at one seat.me.0 (told_by seat.me.0.core fact) log
      (may log (past_down lawful stands slot_at place_at one seat.me.0 log past))

  -- once a core has told a fact its parts fit again, and its entries are as before
  pub has_told : (after : Seat (Option C) (SeatView (G × ℕ) X)) (fact : X) → IsSameSeat seat after
      → TellsNow (by_given lawful) (at_slots place_at stands) fact seat.me after.me → IsCore place_at after number entries cells
  has_told after fact same tells = let drew = tells.1.1.1 in let held : after.me.0.held ≡ seat.me.0.held = ap (λ v. v.held) drew.frame in
      let shown : places_shown place_at after.me.0 ≡ places_shown place_at seat.me.0 = ap (places_shown place_at) drew.frame in record {
        lives = ap (λ v. v.gone) drew.frame ∙ core.lives;
        calls = ap (λ v. v.gathers) drew.frame ∙ core.calls;
        number_known = ap (λ v. v.core) drew.frame ∙ core.number_known;
        entries_are = subst (λ m. AreCallsOf m entries) (sym drew.mine) (calls_told seat.me.0.mine entries seat.me.0.core fact tells.0 core.entries_are);
        few = core.few;
        places = shown ∙ core.places;
        falls = subst Falls (sym shown) core.falls;
        slots = tells.1.0 ∙ (core.slots ∙ ap empty_slots (sym held));
        within = subst (λ (z : TableId × List ℕ). AreBelow z.0.slots z.1) (λ i. (sym same.table i, sym shown i)) core.within;
      }

  -- once a core has seen the history its parts fit again
  pub has_looked : (after : Seat (Option C) (SeatView (G × ℕ) X)) (found : ℕ) → IsSameSeat seat after → LooksNow (by_given lawful)
      (at_slots place_at stands) seat.me found after.me
      → IsCore place_at after number entries cells
  has_looked after found same looks = let saw = looks.1 in let held : after.me.0.held ≡ seat.me.0.held = ap (λ v. v.held) saw.frame in
      let shown : places_shown place_at after.me.0 ≡ places_shown place_at seat.me.0 = ap (places_shown place_at) saw.frame in record {
        lives = ap (λ v. v.gone) saw.frame ∙ core.lives;
        calls = ap (λ v. v.gathers) saw.frame ∙ core.calls;
        number_known = ap (λ v. v.core) saw.frame ∙ core.number_known;
        entries_are = subst (λ m. AreCallsOf m entries) (sym (ap (λ v. v.mine) saw.frame)) core.entries_are;
        few = core.few;
        places = shown ∙ core.places;
        falls = subst Falls (sym shown) core.falls;
        slots = looks.0 ∙ (core.slots ∙ ap empty_slots (sym held));
        within = subst (λ (z : TableId × List ℕ). AreBelow z.0.slots z.1) (λ i. (sym same.table i, sym shown i)) core.within;
      }

module _ {C X G : Type 0} (place_at : ℕ → ℕ → ℕ) (seat : Seat (Option C) (SeatView (G × ℕ) X)) (number : ℕ) (entries : List Entry) (cells : List (HeldCell C))
    (core : IsCore place_at seat number entries cells) where
  -- once its last entry has an answer its parts fit again
  pub has_answered : (front : List Entry) (last : Entry) (answer : Reply) (ack : Option ℕ) → entries ≡ front ++ last ∷ []
      → waits_for_answer last.call last.reply ≡ true → IsFsyncReply answer → (IsSome ack ↔ IsTrue (is_ok_reply answer))
      → IsCore place_at seat number (front ++ with_answer last answer ack ∷ []) cells
  has_answered front last answer ack is waits may acknowledged = record {
    lives = core.lives;
    calls = core.calls;
    number_known = core.number_known;
    entries_are = calls_answered seat.me.0.mine front last answer ack (subst (λ l. AreCallsOf seat.me.0.mine l) is core.entries_are) waits may acknowledged;
    few = let f = core.few in let l = ap length is in let m = length-append front (last ∷ []) in
        let n = length-append front (with_answer last answer ack ∷ []) in omega (arith, f, l, m, n);
    places = core.places;
    falls = core.falls;
    slots = core.slots;
    within = core.within;
  }

-- the entry that was added waits where it was noted
pub waits_now : (entries : List Entry) (call : Call) (reply : Reply) (number stamp : ℕ)
    → WaitsWell (entries ++ entry_numbered number call reply stamp ∷ []) (if waits_for_answer call reply then Some (record { 0 = stamp }) else None)
waits_now entries call reply number stamp = ⊎_elim
    (λ is. rw is (record { front = entries; last = entry_numbered number call reply stamp; entries_are = refl; stamped = refl; waits = is }))
    (λ not. rw not tt) (cases_Bool (waits_for_answer call reply))

last_same : {X : Type 0} (xs ys : List X) (x y : X) → xs ++ x ∷ [] ≡ ys ++ y ∷ [] → x ≡ y
last_same [] [] x y same = cc (same)
last_same [] (b ∷ ys) x y same = let l = ap length same in let m = length-append ys (y ∷ []) in absurd (omega (arith, l, m))
last_same (a ∷ xs) [] x y same = let l = ap length same in let m = length-append xs (x ∷ []) in absurd (omega (arith, l, m))
last_same (a ∷ xs) (b ∷ ys) x y same = last_same xs ys x y (cc (same))

-- the last entry waits, where the stamp of one is noted
pub record IsWaitingEntry (entry : Entry) (stamp : ℕ) : Type 0 where
  pub stamped : entry.stamp.0 ≡ stamp
  pub waits : waits_for_answer entry.call entry.reply ≡ true

pub last_waits : (entries front : List Entry) (last : Entry) (waiting : Option Stamp) (stamp : ℕ) → option_map (λ (s : Stamp). s.0) waiting ≡ Some stamp
    → WaitsWell entries waiting → entries ≡ front ++ last ∷ [] → IsWaitingEntry last stamp
last_waits entries front last None stamp is well ends = absurd (cc (is))
last_waits entries front last (Some noted) stamp is well ends =
    let same : well.last ≡ last = last_same well.front front well.last last (sym well.entries_are ∙ ends) in
    let here : noted.0 ≡ stamp = cc (is) in
    subst (λ e. IsWaitingEntry e stamp) same (record { stamped = well.stamped ∙ here; waits = well.waits })
