-- A core sees the history so far.
use Rattle.std.proofs.Common.{◌≡◌, ℕ, suc, Bool, false, List, get_or, set, sym, refl, ap, ◌∙◌, subst, arith, get_or-set_same}
use mathlib.Core.Option.{some}
use lib.ListN.{get_elem?}
use Rattle.atomic_table.specs.Table.{State, keeps, stepped, Allows}
use Rattle.stamp_table.specs.declared.view.View.{View}
use Rattle.stamp_table.specs.Rule.{entries_by, IsAtWork, IsLog, IsKept, Kept, stamps_in}
use Rattle.stamp_table.specs.Steps.{Sees, Looks}
use Rattle.stamp_table.proofs.Keeps.{begins_itself, cells_longer, is_a_core, is_at_work, views_set, holder_is}

module _ {T E S : Type 0} (core_of : E → ℕ) (draws : E → Bool) (legal : T → List E → Type 0) (stands : T → List E → ℕ → S → Type 0) (first : T) where
  abbrev V : Type 0
  V = View T E

  abbrev Keeps : State S V → Type 0
  Keeps = Kept core_of draws legal stands first

  -- the view of a core that has seen a history
  abbrev looking : List E → V → V
  looking log v = record v { seen = log }

  module _ (v : V) (lives : v.gone ≡ false) (calls : v.gathers ≡ false) (s : State S V) (log : List E) (owner : ℕ → ℕ) (hub : V)
      (kept : IsKept core_of draws legal stands first log owner hub s) (core : ℕ) (at : get_elem? s.views (suc core) ≡ some v) where
    work : IsAtWork core_of draws legal stands first core log hub v
    work = is_at_work core_of draws legal stands first log owner hub s.views core v lives kept.views_are at

    looker_works : IsAtWork core_of draws legal stands first core log hub (looking log v)
    looker_works = record {
      hand = record {
        lives = work.hand.lives;
        calls = work.hand.calls;
        first_known = work.hand.first_known;
        core_known = work.hand.core_known;
        seen = begins_itself log;
        mine = work.hand.mine;
        held = λ p x has stood. stood;
      };
      waits = work.waits;
    }

    log_stays : (n : ℕ) → n ≡ stamps_in draws log → IsLog core_of draws legal stands first hub.cores log (set s.words 0 n)
    log_stays n is = record {
      count = get_or-set_same s.words 0 n 0 (let l = kept.cells_are.locks in omega (arith, l)) ∙ is;
      legal_log = kept.log_is.legal_log;
      many = kept.log_is.many;
      known = kept.log_is.known;
      few = kept.log_is.few;
    }

    looked : (n : ℕ) (carried : List (ℕ × S)) → n ≡ stamps_in draws log
        → IsKept core_of draws legal stands first log owner hub (stepped s 0 n (suc core) carried (looking log v) keeps)
    looked n carried is = record {
      log_is = log_stays n is;
      views_are =
          views_set core_of draws legal stands first log log owner owner hub s.views core v (looking log v) at looker_works
          (λ p has. kept.views_are.owned core p v at has)
          (λ p owned. holder_is core_of draws legal stands first log owner hub s.views core p v at kept.views_are owned)
          (record {
            lists_stay = λ c lt. refl;
            saws_stay = λ seen is. is;
            others = λ c u not there w. w;
            theirs = λ c p u not there has o. o;
            back = λ c p not owned. owned;
          })
          kept.views_are;
      cells_are = cells_longer core_of draws legal stands first log log owner s.words s.homes n (λ p x home stood. stood) kept.cells_are;
    }

    sees : (n : ℕ) → n ≡ stamps_in draws log → Sees core_of draws legal stands v n (looking log v)
    sees n is = record {
      frame = refl;
      number_is = is;
      seen = work.hand.seen;
      legal_seen = subst (λ f. legal f log) (sym work.hand.first_known) kept.log_is.legal_log;
      mine = work.hand.mine ∙ ap (λ c. entries_by core_of c log) (sym work.hand.core_known);
      kept = λ other x has. subst (λ f. stands f v.seen other x → stands f log other x) (sym work.hand.first_known) (work.hand.held other x has);
    }

  -- A core may see the history at any time.
  pub may_look : (slots id : ℕ) (v : V) (carried : List (ℕ × S)) → v.gone ≡ false → v.gathers ≡ false
      → Allows Keeps slots id (v, carried) 0 (λ n. n) (Looks core_of draws legal stands (v, carried))
  may_look slots id v carried lives calls s holds wide at _ =
      let log = holds.0 in let owner = holds.1 in let hub = holds.2 in let kept = holds.3 in
      let core = is_a_core core_of draws legal stands first log owner hub s.views id v calls kept.views_are at in
      let n : ℕ = get_or s.words 0 0 in
      let here : get_elem? s.views (suc core.0) ≡ some v = subst (λ i. get_elem? s.views i ≡ some v) core.1 at in
      let is : n ≡ stamps_in draws log = kept.log_is.count in (
        looking log v,
        keeps,
        tt,
        (
          log,
          owner,
          hub,
          subst (λ i. IsKept core_of draws legal stands first log owner hub (stepped s 0 n i carried (looking log v) keeps)) (sym core.1)
              (looked v lives calls s log owner hub kept core.0 here n carried is),
        ),
        (refl, sees v lives calls s log owner hub kept core.0 here n is),
      )
