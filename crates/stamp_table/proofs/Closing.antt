-- The cores' lists make the history.
use Rattle.std.proofs.Common.{◌≡◌, ℕ, zero, suc, ◌+◌, ◌<◌, ◌^◌, ◌==◌, true, List, [], ◌∷◌, ◌++◌, map, filter, reverse, length, Option, Some, None, Vec, slice_get, sym, refl, ap, ◌∙◌, subst, arith, ⊎_elim}
use Rattle.std.specs.List.{AllZip}
use Rattle.std.proofs.lemmas.Bool.{cases_Bool}
use Rattle.std.proofs.lemmas.List.{length-map}
use Rattle.std.specs.declared.alloc.Global.{Global}
use Rattle.atomic_table.specs.Table.{Joins, Final, Seen}
use Rattle.atomic_table.specs.declared.shared.Seat.{Seat}
use Rattle.tree_laws.specs.Tree.{TreeState}
use Rattle.tree_laws.specs.History.{tree_after_entry, IsLegal, IsLegalFrom}
use Rattle.tree_laws.specs.Merged.{is_core, MakeTheHistory}
use Rattle.tree_laws.specs.declared.history.Entry.{Entry}
use Rattle.tree_laws.proofs.Cores.{cores_after}
use Rattle.tree_laws.proofs.OwnEntries.{own_entries_are_cores}
use Rattle.tree_laws.proofs.CoreLists.{cores_make_the_history}
use Rattle.stamp_table.specs.declared.event.Event.{Event}
use Rattle.stamp_table.specs.declared.event.Event.TheVariants.{Called, Told}
use mathlib.Core.Option.{some, some-injective, some-ne-none}
use lib.ListN.{get_elem?}
use Rattle.stamp_table.specs.declared.held.HeldCell.{HeldCell}
use Rattle.stamp_table.specs.Placing.{IsOneToOne, at_slots}
use Rattle.stamp_table.specs.Rule.{Kept, entries_by}
use Rattle.stamp_table.specs.Steps.{gathered, spent}
use Rattle.stamp_table.specs.Events.{event_core, is_call, calls_in, SeatView, LawfulFrom, StandsFrom, NO_TREE}
use Rattle.stamp_table.specs.Answered.{unanswered, AreCallsOf}
use Rattle.stamp_table.specs.Table.{mine_of, events_seen, answered_entries, IsLogAtEnd, AreAtHome}
use Rattle.stamp_table.specs.Hand.{Hand, IsCore, empty_slots, places_of}
use Rattle.stamp_table.proofs.Answered.{legal_answered}
use Rattle.stamp_table.proofs.Calling.{stamps_are_calls}
use Rattle.stamp_table.proofs.Hands.{is_there}
use Rattle.stamp_table.proofs.Refilling.{AreOfCores, AreOwnOf, IsFilled, fills}
use Rattle.stamp_table.proofs.Gathering.{may_join, ends, IsGathered}

-- what maps to nothing is nothing
map_none : (f : ℕ → ℕ) (xs : List ℕ) → map f xs ≡ [] → xs ≡ []
map_none f [] is = refl
map_none f (x ∷ xs) is = absurd (cc is)

module _ {C X G : Type 0} where
  -- a core that holds nothing has no slots
  pub no_slots : (place_at : ℕ → ℕ → ℕ) (seat : Seat (Option C) (SeatView (G × ℕ) X)) (number : ℕ) (entries : List Entry) (cells : List (HeldCell C))
      → IsCore place_at seat number entries cells → cells ≡ [] → (seat.me.0.held ≡ []) × (seat.me.1 ≡ [])
  no_slots place_at seat number entries cells core none =
      let held = map_none (place_at seat.me.0.first.1.1) seat.me.0.held
      (core.places ∙ ap (λ (l : List (HeldCell C)). reverse (places_of l)) none) in
      (held, core.slots ∙ ap empty_slots held)

  -- its list may be gathered where it is the next
  pub asks_join : (lawful : G × ℕ → TreeState → List (Event X) → Type 0) (stands : G × ℕ → TreeState → List (Event X) → ℕ → C → Type 0) (nothing : G × ℕ)
      (place_at : ℕ → ℕ → ℕ) (start : TreeState × (G × ℕ)) (id other : ℕ) (v : SeatView (G × ℕ) X) (seat : Seat (Option C) (SeatView (G × ℕ) X)) (number : ℕ)
      (entries : List Entry)
      (cells : List (HeldCell C)) → IsCore place_at seat number entries cells → cells ≡ [] → v.gathers ≡ true → seat.me.0.core ≡ length v.lists
      → Joins (Kept event_core is_call (LawfulFrom lawful) (StandsFrom stands) start) id v other seat.me.0 (gathered v seat.me.0) (spent (NO_TREE, nothing))
  asks_join lawful stands nothing place_at start id other v seat number entries cells core none does next =
      may_join event_core is_call (LawfulFrom lawful) (StandsFrom stands) start id other v seat.me.0
      (spent (NO_TREE, nothing)) does core.calls core.lives next (no_slots place_at seat number entries cells core none).0 refl refl refl

module _ {X : Type 0} where
  -- a core's calls are the calls of its events
  pub own_calls : (core : ℕ) (log : List (Event X)) → calls_in (entries_by event_core core log) ≡ filter (is_core core) (calls_in log)
  own_calls core [] = refl
  own_calls core (Called entry ∷ log) = let r = own_calls core log in
      ⊎_elim (λ is. rw is (ap (λ l. entry ∷ l) r)) (λ is. rw is r) (cases_Bool (entry.core.0 == core))
  own_calls core (Told other fact ∷ log) = let r = own_calls core log in ⊎_elim (λ is. rw is r) (λ is. rw is r) (cases_Bool (other.0 == core))

-- the entries of a core's part, and none where there is no part
abbrev entries_at : List (Vec Entry Global) → ℕ → List Entry
entries_at [] core = []
entries_at (part ∷ parts) zero = part.items
entries_at (part ∷ parts) (suc core) = entries_at parts core

there_at : (parts : List (Vec Entry Global)) (core : ℕ) (part : Vec Entry Global) → slice_get parts core ≡ Some part → part.items ≡ entries_at parts core
there_at [] core part at = absurd (cc)
there_at (p ∷ parts) zero part at = cc (at)
there_at (p ∷ parts) (suc core) part at = there_at parts core part at

module _ {X : Type 0} where
  -- the events of which a core's entries are the calls
  own_list : (lists : List (List (Event X))) (parts : List (Vec Entry Global)) (core : ℕ) → AllZip AreCallsOf lists (map (λ p. p.items) parts)
      → core < length lists
      → (list : List (Event X)) × (slice_get lists core ≡ Some list) × AreCallsOf list (entries_at parts core)
  own_list [] parts core are lt = absurd (omega (arith, lt))
  own_list (list ∷ lists) [] core are lt = absurd are
  own_list (list ∷ lists) (part ∷ parts) zero are lt = (list, refl, are.0)
  own_list (list ∷ lists) (part ∷ parts) (suc core) are lt = own_list lists parts core are.1 (omega (arith, lt))

-- the entries of a legal history are of the tree's cores
legal_cores : (tree : TreeState) (stamp : ℕ) (history : List Entry) → IsLegalFrom tree stamp history → AreOfCores (length tree.made) history
legal_cores tree stamp [] legal = tt
legal_cores tree stamp (entry ∷ history) legal = (
  legal.0.core,
  subst (λ n. AreOfCores n history) (cores_after tree entry.core.0 entry.call) (legal_cores (tree_after_entry tree entry) (suc stamp) history legal.1),
)

entries_there : {C X G : Type 0} (hands : List (Hand C X G)) (parts : List (Vec Entry Global)) (core : ℕ) (hand : Hand C X G)
    → map (λ p. p.items) parts ≡ map answered_entries hands → slice_get hands core ≡ Some hand → entries_at parts core ≡ hand.entries
entries_there [] parts core hand same at = absurd (cc)
entries_there (h ∷ hands) [] core hand same at = absurd (cc)
entries_there {C} {X} {G} (h ∷ hands) (p ∷ parts) zero hand same at = let here : h ≡ hand = cc (at) in let first : p.items ≡ h.entries = cc (same) in
    first ∙ ap (λ (x : Hand C X G). x.entries) here
entries_there (h ∷ hands) (p ∷ parts) (suc core) hand same at = entries_there hands parts core hand (cc (same)) at

core_within : {X : Type 0} (xs : List X) (core : ℕ) (x : X) → slice_get xs core ≡ Some x → core < length xs
core_within [] core x at = absurd (cc)
core_within (y ∷ xs) zero x at = omega arith
core_within (y ∷ xs) (suc core) x at = let r = core_within xs core x at in omega (arith, r)

-- what stands at a core's number in one list stands there in another that is made of it
there_too : {A B : Type 0} (f : A → B) (xs : List A) (core : ℕ) (x : A) → slice_get xs core ≡ Some x → slice_get (map f xs) core ≡ Some (f x)
there_too f [] core x at = absurd (cc)
there_too f (y ∷ xs) zero x at = let same : y ≡ x = cc (at) in ap (λ z. Some (f z)) same
there_too f (y ∷ xs) (suc core) x at = there_too f xs core x at

-- the history of a table at its end
pub record IsEnd {C X G : Type 0} (lawful : TreeState → List (Event X) → Type 0) (first : TreeState) (hands : List (Hand C X G))
    (parts : List (Vec Entry Global)) (log : List (Event X)) (history : List Entry) : Type 0 where
  pub legal : IsLegal first history
  pub made : MakeTheHistory parts history
  pub own : (core : ℕ) (hand : Hand C X G) → slice_get hands core ≡ Some hand → filter (is_core core) history ≡ hand.entries
  pub log_is : IsLogAtEnd lawful first hands history log

module _ {C X G : Type 0} (lawful : G → TreeState → List (Event X) → Type 0) (stands : G → TreeState → List (Event X) → ℕ → C → Type 0)
    (start : TreeState × G) (lists saws : List (List (Event X))) (cores : ℕ) (log : List (Event X))
    (gathered_all : IsGathered event_core is_call (LawfulFrom lawful) (StandsFrom stands) start lists saws cores log) where
  -- what the cores have are their entries of the history, but for their answers
  own_are : (parts : List (Vec Entry Global)) → AllZip AreCallsOf lists (map (λ p. p.items) parts) → length lists ≡ length start.0.made
      → AreOwnOf (length start.0.made) (entries_at parts) (calls_in log)
  own_are parts are long = record {
    same = λ core lt. let l = own_list lists parts core are (omega (arith, lt, long)) in
        l.2.same ∙ ap (map unanswered) (ap calls_in (gathered_all.own core l.0 l.1) ∙ own_calls core log);
    well = λ core lt. (own_list lists parts core are (omega (arith, lt, long))).2.answered;
  }

  calls_small : (filled : List Entry) → map unanswered filled ≡ map unanswered (calls_in log) → length filled < 2 ^ 64
  calls_small filled same = let w = stamps_are_calls log in let s = gathered_all.small in let l = length-map filled unanswered in
      let r = length-map (calls_in log) unanswered in let e = ap length same in omega (arith, w, s, l, r, e)

  -- the lists of all cores make the history
  ends_filled : {H : Type 0} (hands : List (Hand C X H)) (parts : List (Vec Entry Global)) (filled : List Entry) → map
      (λ p. p.items) parts ≡ map answered_entries hands
      → length parts ≡ length start.0.made → length hands ≡ length start.0.made → lists ≡ map mine_of hands → saws ≡ map events_seen hands
      → IsFilled (length start.0.made) (entries_at parts) (calls_in log) filled → IsEnd (lawful start.1) start.0 hands parts log filled
  ends_filled hands parts filled same long all mine seen is =
      let legal : IsLegal start.0 filled = legal_answered start.0 0 (calls_in log) filled is.same is.well gathered_all.legal_log.legal_calls in
      record {
        legal = legal;
        made = cores_make_the_history parts filled (own_entries_are_cores start.0 filled parts legal (calls_small filled is.same) long
            (λ core part at. there_at parts core part at ∙ sym (is.own_are core (let w = core_within parts core part at in omega (arith, w, long)))));
        own = λ core hand at. is.own_are core (let w = core_within hands core hand at in omega (arith, w, all)) ∙ entries_there hands parts core hand same at;
        log_is = record {
          lawful_log = gathered_all.legal_log;
          calls = is.same;
          mine = λ core hand at. gathered_all.own core hand.view.mine (ap (λ l. slice_get l core) mine ∙ there_too mine_of hands core hand at);
          seen = λ core hand at. gathered_all.seen core hand.view.seen (ap (λ l. slice_get l core) seen ∙ there_too events_seen hands core hand at);
        };
      }

-- what a table's end has: its history, and a value at each place
pub record IsWhole {C X H : Type 0} (lawful : TreeState → List (Event X) → Type 0) (stands : TreeState → List (Event X) → ℕ → C → Type 0) (first : TreeState)
    (hands : List (Hand C X H)) (parts : List (Vec Entry Global)) (slots : List (Option C)) (log : List (Event X)) (history : List Entry) : Type 0 where
  pub end : IsEnd lawful first hands parts log history
  pub inside : List C
  pub slots_are : slots ≡ map Some inside
  pub home : AreAtHome stands first log (length slots) inside

-- slots that all have values have those of a list
record Inside {C X : Type 0} (stands : TreeState → List (Event X) → ℕ → C → Type 0) (first : TreeState) (log : List (Event X)) (more : ℕ)
    (slots : List (Option C)) : Type 0 where
  values : List C
  slots_are : slots ≡ map Some values
  each : (place : ℕ) (value : C) → slice_get values place ≡ Some value → stands first log (more + place) value

inside : {C X : Type 0} (stands : TreeState → List (Event X) → ℕ → C → Type 0) (first : TreeState) (log : List (Event X)) (more : ℕ) (slots : List (Option C))
    → ((place : ℕ) → place < length slots → (value : C) × (get_elem? slots place ≡ some (Some value)) × stands first log (more + place) value)
    → Inside stands first log more slots
inside stands first log more [] home = record { values = []; slots_are = refl; each = λ place value at. absurd (cc) }
inside {C} stands first log more (slot ∷ slots) home =
    let here = home 0 (omega arith) in
    let rest = inside stands first log (more + 1) slots
    (λ place lt. let there = home (suc place) (omega (arith, lt)) in (there.0, there.1, subst (λ p. stands first log p there.0) (omega arith) there.2)) in
    record {
      values = here.0 ∷ rest.values;
      slots_are = (λ i. some-injective slot (Some here.0) here.1 i ∷ rest.slots_are i);
      each = each_of here rest;
    } where
      each_of : (here : (value : C) × (get_elem? (slot ∷ slots) 0 ≡ some (Some value)) × stands first log (more + 0) value)
          (rest : Inside stands first log (more + 1) slots) (place : ℕ) (value : C) → slice_get (here.0 ∷ rest.values) place ≡ Some value
          → stands first log (more + place) value
      each_of here rest zero value at = let same : here.0 ≡ value = cc (at) in subst (λ v. stands first log (more + 0) v) same here.2
      each_of here rest (suc place) value at = subst (λ p. stands first log p value) (omega arith) (rest.each place value at)

module _ {C X G : Type 0} (lawful : G → TreeState → List (Event X) → Type 0) (stands : G → TreeState → List (Event X) → ℕ → C → Type 0)
    (start : TreeState × G) where
  -- where all lists were gathered there is one
  pub closes : {H : Type 0} (words : List ℕ) (slots : List (Option C)) (id : ℕ) (v : SeatView G X) (hands : List (Hand C X H)) (parts : List (Vec Entry Global))
      → Final (Seen (Kept event_core is_call (LawfulFrom lawful) (StandsFrom stands) start) id v) words slots → v.gathers ≡ true
      → v.lists ≡ map mine_of hands → v.saws ≡ map events_seen hands → v.cores ≡ length hands
      → map (λ p. p.items) parts ≡ map answered_entries hands → AllZip AreCallsOf (map mine_of hands) (map answered_entries hands)
      → length hands ≡ length start.0.made
      → (log : List (Event X)) × (history : List Entry) × IsWhole (lawful start.1) (stands start.1) start.0 hands parts slots log history
  closes words slots id v hands parts final does lists saws cores same are long =
      let counted : length v.lists ≡ v.cores = let l = ap length lists in let m = length-map hands mine_of in omega (arith, l, m, cores) in
      let all = ends event_core is_call (LawfulFrom lawful) (StandsFrom stands) start id v final.0 does final.1 counted in
      let count : length parts ≡ length start.0.made = sym (length-map parts (λ p. p.items)) ∙ (ap length same
      ∙ (length-map hands answered_entries ∙ long)) in
      let many : length v.lists ≡ length start.0.made = ap length lists ∙ (length-map hands mine_of ∙ long) in
      let calls : AllZip AreCallsOf v.lists (map (λ p. p.items) parts) =
      subst (λ (z : List (List (Event X)) × List (List Entry)). AllZip AreCallsOf z.0 z.1) (λ i. (sym lists i, sym same i)) are in
      let own = own_are lawful stands start v.lists v.saws v.cores all.0 all.1 parts calls many in
      let filled = fills (length start.0.made) (calls_in all.0) (entries_at parts) (legal_cores start.0 0 (calls_in all.0) all.1.legal_log.legal_calls) own in
      let home = inside (stands start.1) start.0 all.0 0 slots (λ place lt.
      let at = all.2 place (omega (arith, lt, final.3)) in let there = is_there lawful stands start all.0 place at.0 at.2 in (
        there.0,
        final.4 place at.0 at.1 ∙ ap (λ (x : Option C). some x) there.1,
        subst (λ p. stands start.1 start.0 all.0 p there.0) (omega arith) there.2,
      )) in (
        all.0,
        filled.0,
        record {
          end = ends_filled lawful stands start v.lists v.saws v.cores all.0 all.1 hands parts filled.0 same count long lists saws filled.1;
          inside = home.values;
          slots_are = home.slots_are;
          home = record {
            count = sym (length-map home.values Some) ∙ sym (ap length home.slots_are);
            each = λ place value at. subst
                (λ p. stands start.1 start.0 all.0 p value) (omega arith) (home.each place value at);
          };
        },
      )

-- what lies in a list of slots is in the list of their values
inside_at : {C : Type 0} (values : List C) (slot : ℕ) (value : C) → get_elem? (map Some values) slot ≡ some (Some value)
    → slice_get values slot ≡ Some value
inside_at [] slot value at = absurd (some-ne-none (Some value) (sym at))
inside_at (v ∷ values) zero value at = some-injective (Some v) (Some value) at
inside_at (v ∷ values) (suc slot) value at = inside_at values slot value at

-- values that are home by their slots are home by their places
pub home_by_place : {C X G : Type 0} (stands : G → TreeState → List (Event X) → ℕ → C → Type 0) (start : TreeState × (G × ℕ)) (log : List (Event X))
    (slot_at place_at : ℕ → ℕ → ℕ) (inside values : List C) → IsOneToOne (slot_at start.1.1) (place_at start.1.1)
    → AreAtHome (at_slots place_at stands start.1) start.0 log (length (map Some inside)) inside → length values ≡ length (map Some inside)
    → ((place : ℕ) (value : C) → slice_get values place ≡ Some value → get_elem? (map Some inside) (slot_at start.1.1 place) ≡ some (Some value))
    → AreAtHome (stands start.1.0) start.0 log (length (map Some inside)) values
home_by_place stands start log slot_at place_at inside values one home count laid = record {
  count = count;
  each = λ place value at. subst (λ p. stands start.1.0 start.0 log p value) (one.back place)
      (home.each (slot_at start.1.1 place) value (inside_at inside (slot_at start.1.1 place) value (laid place value at)));
}

-- lists of calls with one list more
pub calls_snoc : {X : Type 0} (lists : List (List (Event X))) (parts : List (List Entry)) (mine : List (Event X)) (entries : List Entry)
    → AllZip AreCallsOf lists parts → AreCallsOf mine entries → AllZip AreCallsOf (lists ++ mine ∷ []) (parts ++ entries ∷ [])
calls_snoc [] [] mine entries all are = (are, tt)
calls_snoc [] (part ∷ parts) mine entries all are = absurd all
calls_snoc (list ∷ lists) [] mine entries all are = absurd all
calls_snoc (list ∷ lists) (part ∷ parts) mine entries all are = (all.0, calls_snoc lists parts mine entries all.1 are)

module _ {C : Type 0} where
  -- no slot is empty among those that have values
  pub none_empty : (values : List C) (slots : List (Option C)) (place : ℕ) → slots ≡ map Some values → get_elem? slots place ≡ some None → ⊥
  none_empty values slots place are at = empty_of values place (ap (λ l. get_elem? l place) (sym are) ∙ at) where
    empty_of : (values : List C) (place : ℕ) → get_elem? (map Some values) place ≡ some None → ⊥
    empty_of [] place at = some-ne-none None (sym at)
    empty_of (v ∷ values) zero at = absurd (cc (some-injective (Some v) None at))
    empty_of (v ∷ values) (suc place) at = empty_of values place at
