-- When a call may come: what is asked, in the words of the tree.
use Rattle.std.proofs.Common.{◌≡◌, ℕ, suc, ◌<◌, List, [], ◌∷◌, ◌++◌, length, Option, Some, None, sym, refl, ap, ◌∙◌, subst, arith, append-nil}
use Rattle.std.proofs.lemmas.List.Elements.{filter_map-append}
use Rattle.tree_laws.specs.Tree.{TreeState}
use Rattle.tree_laws.specs.History.{tree_after, MayCome, IsLegal}
use Rattle.tree_laws.specs.declared.history.Entry.{Entry}
use Rattle.tree_laws.specs.declared.call.Call.TheVariants as call
use Rattle.tree_laws.specs.declared.reply.Reply.TheVariants as reply
use Rattle.tree_laws.proofs.Histories.{IsLegal-push}
use Rattle.tree_laws.proofs.Cores.{cores_stay}
use Rattle.stamp_table.specs.declared.event.Event.{Event}
use Rattle.stamp_table.specs.declared.event.Event.TheVariants.{Called, Told}
use Rattle.stamp_table.specs.declared.view.View.{View}
use Rattle.stamp_table.specs.Rule.{Has, stamps_in}
use Rattle.stamp_table.specs.Steps.{IsPast, MayDraw}
use Rattle.stamp_table.specs.Events.{event_core, is_call, called, told_by, calls_in, IsLawful, stands_for}
use Rattle.stamp_table.specs.Table.{MayCall, MayTell, entry_numbered}

module _ {X : Type 0} where
  -- each call drew a stamp, and nothing else did
  pub stamps_are_calls : (log : List (Event X)) → stamps_in is_call log ≡ length (calls_in log)
  stamps_are_calls [] = refl
  stamps_are_calls (Called entry ∷ log) = ap suc (stamps_are_calls log)
  stamps_are_calls (Told core fact ∷ log) = stamps_are_calls log

  pub calls_snoc : (log : List (Event X)) (entry : Entry) → calls_in (log ++ Called entry ∷ []) ≡ calls_in log ++ entry ∷ []
  calls_snoc log entry = filter_map-append called log (Called entry ∷ [])

-- what is asked of the next call after a history: its entry may come in the tree, what was told may still stand, and what stands for
-- each cell that the core does not hold still does
pub record MayFollow {C X : Type 0} (lawful : TreeState → List (Event X) → Type 0) (stands : TreeState → List (Event X) → ℕ → C → Type 0)
    (v : View TreeState (Event X)) (log : List (Event X)) (entry : Entry) : Type 0 where
  pub may_come : MayCome (tree_after v.first (calls_in log)) (length (calls_in log)) entry
  pub told : lawful v.first (log ++ Called entry ∷ [])
  pub keeps : (place : ℕ) (value : C) → (Has v.held place → ⊥) → stands v.first log place value → stands v.first (log ++ Called entry ∷ []) place value

module _ {C X : Type 0} (lawful : TreeState → List (Event X) → Type 0) (stands : TreeState → List (Event X) → ℕ → C → Type 0) where
  keeps_slots : (v : View TreeState (Event X)) (log next : List (Event X))
      → ((place : ℕ) (value : C) → (Has v.held place → ⊥) → stands v.first log place value → stands v.first next place value)
      → (place : ℕ) (value : Option C) → (Has v.held place → ⊥) → stands_for stands v.first log place value → stands_for stands v.first next place value
  keeps_slots v log next keeps place None not stood = stood
  keeps_slots v log next keeps place (Some x) not stood = keeps place x not stood

  -- such a call may draw a stamp
  pub may_follow : (v : View TreeState (Event X)) (entry : ℕ → Entry) (log : List (Event X))
      → IsPast event_core is_call (IsLawful lawful) (stands_for stands) v log → MayFollow lawful stands v log (entry (length (calls_in log)))
      → MayDraw event_core is_call (IsLawful lawful) (stands_for stands) v (λ number. Called (entry number)) log
  may_follow v entry log past may =
      let e : Entry = entry (length (calls_in log)) in
      let same : entry (stamps_in is_call log) ≡ e = ap entry (stamps_are_calls log) in
      record {
        legal_next = subst (λ x. IsLawful lawful v.first (log ++ Called x ∷ [])) (sym same) (record {
          legal_calls = subst (λ l. IsLegal v.first l) (sym (calls_snoc log e)) (IsLegal-push v.first (calls_in log) e past.legal_log.legal_calls may.may_come);
          told = may.told;
        });
        keeps =
            subst (λ x. (place : ℕ) (value : Option C) → (Has v.held place → ⊥) → stands_for stands v.first log place value
            → stands_for stands v.first (log ++ Called x ∷ []) place value)
            (sym same)
            (keeps_slots v log (log ++ Called e ∷ []) may.keeps);
      }

  -- An fsync of the root may come at any time, answered want of memory, where it changes nothing that stands.
  pub root_may_be_flushed : (v : View TreeState (Event X)) → v.core < length v.first.made → ((log : List (Event X)) → lawful v.first log)
      → ((log next : List (Event X)) (place : ℕ) (value : C) → stands v.first log place value → stands v.first next place value)
      → MayCall lawful stands v (call.Fsync (record { 0 = 0 })) reply.NoMemory
  root_may_be_flushed v known told kept log past = may_follow v (entry_numbered v.core (call.Fsync (record { 0 = 0 })) reply.NoMemory) log past (record {
    may_come = record {
      stamped = refl;
      core = let stay = cores_stay v.first (calls_in log) in omega (arith, known, stay);
      due = tt;
      acknowledged = ((λ is. absurd cc), (λ is. absurd cc));
    };
    told = told (log ++ Called (entry_numbered v.core (call.Fsync (record { 0 = 0 })) reply.NoMemory (length (calls_in log))) ∷ []);
    keeps =
        λ place value not stood. kept log
        (log ++ Called (entry_numbered v.core (call.Fsync (record { 0 = 0 })) reply.NoMemory (length (calls_in log))) ∷ []) place value stood;
  })

  -- A fact may be told at any time, where no history refuses it, and it changes nothing that stands.
  pub fact_may_be_told : (v : View TreeState (Event X)) (fact : X) → ((log : List (Event X)) → lawful v.first log)
      → ((log next : List (Event X)) (place : ℕ) (value : C) → stands v.first log place value → stands v.first next place value)
      → MayTell lawful stands v fact
  fact_may_be_told v fact told kept log past =
      let next : List (Event X) = log ++ told_by v.core fact 0 ∷ [] in
      let same : calls_in next ≡ calls_in log = filter_map-append called log (told_by v.core fact 0 ∷ []) ∙ append-nil (calls_in log) in
      record {
        legal_next = record { legal_calls = subst (λ l. IsLegal v.first l) (sym same) past.legal_log.legal_calls; told = told next };
        keeps = keeps_slots v log next (λ place value not stood. kept log next place value stood);
      }
