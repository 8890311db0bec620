-- A core draws a stamp for its next entry, or tells what takes no stamp.
use Rattle.std.proofs.Common.{◌≡◌, ◌≢◌, ℕ, suc, ◌+◌, ◌^◌, ◌%◌, ◌<◌, ◌≤◌, Bool, true, false, List, [], ◌∷◌, ◌++◌, get_or, set, sym, refl, ap, ◌∙◌, subst, arith, get_or-set_same, ⊎_elim}
use Rattle.std.proofs.lemmas.Bool.{cases_Bool}
use mathlib.Core.Logic.{dite}
use mathlib.Core.Option.{some}
use native.Mathlib.Decide.{ℕ_discrete}
use lib.ListN.{get_elem?}
use Rattle.atomic_table.specs.Table.{State, keeps, stepped, Allows}
use Rattle.stamp_table.specs.declared.view.View.{View}
use Rattle.stamp_table.specs.Rule.{Has, entries_by, IsAtWork, IsLog, IsKept, Kept, stamps_in}
use Rattle.stamp_table.specs.Steps.{Adds, Drew, IsPast, MayDraw}
use Rattle.stamp_table.proofs.Logs.{own_comes, other_comes, few_stamps, known_snoc, known_more, drawer_counts, teller_counts_not}
use Rattle.stamp_table.proofs.Keeps.{get_elem_within, begins_itself, begins_longer, cells_longer, is_a_core, is_at_work, views_set, holder_is}

module _ {T E S : Type 0} (core_of : E → ℕ) (draws : E → Bool) (legal : T → List E → Type 0) (stands : T → List E → ℕ → S → Type 0) (first : T) where
  abbrev V : Type 0
  V = View T E

  abbrev Keeps : State S V → Type 0
  Keeps = Kept core_of draws legal stands first

  -- What a core asks that draws a stamp or tells: its entry is its own, it has drawn few stamps where the entry draws one, and the entry
  -- may come in each history that the core may meet.
  pub record MayStamp (v : V) (entry : ℕ → E) : Type 0 where
    pub lives : v.gone ≡ false
    pub calls : v.gathers ≡ false
    pub own : (number : ℕ) → core_of (entry number) ≡ v.core
    pub few : (number : ℕ) → draws (entry number) ≡ true → stamps_in draws v.mine < 2 ^ 50
    pub asks : (log : List E) → IsPast core_of draws legal stands v log → MayDraw core_of draws legal stands v entry log

  -- the view of a core that has drawn
  abbrev drawing : List E → E → V → V
  drawing log e v = record v { seen = log ++ e ∷ []; mine = v.mine ++ e ∷ [] }

  module _ (v : V) (entry : ℕ → E) (may : MayStamp v entry) (s : State S V) (log : List E) (owner : ℕ → ℕ) (hub : V)
      (kept : IsKept core_of draws legal stands first log owner hub s) (core : ℕ) (at : get_elem? s.views (suc core) ≡ some v) where
    abbrev e : E
    e = entry (stamps_in draws log)

    work : IsAtWork core_of draws legal stands first core log hub v
    work = is_at_work core_of draws legal stands first log owner hub s.views core v may.lives kept.views_are at

    own_core : core_of e ≡ core
    own_core = may.own (stamps_in draws log) ∙ work.hand.core_known

    past : IsPast core_of draws legal stands v log
    past = record {
      legal_log = subst (λ f. legal f log) (sym work.hand.first_known) kept.log_is.legal_log;
      seen = work.hand.seen;
      mine = work.hand.mine ∙ ap (λ c. entries_by core_of c log) (sym work.hand.core_known);
      held = λ p x has. subst (λ f. stands f v.seen p x → stands f log p x) (sym work.hand.first_known) (work.hand.held p x has);
    }

    asked : MayDraw core_of draws legal stands v entry log
    asked = may.asks log past

    keeps_others : (p : ℕ) (x : S) → (Has v.held p → ⊥) → stands first log p x → stands first (log ++ e ∷ []) p x
    keeps_others p x not = subst (λ f. stands f log p x → stands f (log ++ e ∷ []) p x) work.hand.first_known (asked.keeps p x not)

    small : stamps_in draws log < 2 ^ 60
    small = let many = kept.log_is.many in
        let le = few_stamps core_of draws 256 (2 ^ 50) log (known_more core_of hub.cores 256 log many kept.log_is.known) kept.log_is.few in omega (arith, le)

    known_core : core < hub.cores
    known_core = let lt = get_elem_within s.views (suc core) v at in let is = kept.views_are.cores in omega (arith, lt, is)

    few_after : (c : ℕ) → stamps_in draws (entries_by core_of c (log ++ e ∷ [])) ≤ 2 ^ 50
    few_after c = dite (ℕ_discrete core c)
        (λ is. let l = ap (stamps_in draws) (own_comes core_of c log e (own_core ∙ is)) in let few = kept.log_is.few c in
        ⊎_elim
        (λ does. let m = drawer_counts draws (entries_by core_of c log) e does in let h = ap (stamps_in draws) work.hand.mine in
        let f = may.few (stamps_in draws log) does in let same = ap (λ k. stamps_in draws (entries_by core_of k log)) is in
        omega (arith, l, m, h, f, same))
        (λ tells. let m = teller_counts_not draws (entries_by core_of c log) e tells in omega (arith, l, m, few))
        (cases_Bool (draws e)))
        (λ not. let l = ap (stamps_in draws) (other_comes core_of c log e (λ is. not (sym own_core ∙ is))) in let few = kept.log_is.few c in
        omega (arith, l, few))

    log_after : (n : ℕ) → n ≡ stamps_in draws (log ++ e ∷ []) → IsLog core_of draws legal stands first hub.cores (log ++ e ∷ []) (set s.words 0 n)
    log_after n is = record {
      count = get_or-set_same s.words 0 n 0 (let l = kept.cells_are.locks in omega (arith, l)) ∙ is;
      legal_log = subst (λ f. legal f (log ++ e ∷ [])) work.hand.first_known asked.legal_next;
      many = kept.log_is.many;
      known = known_snoc core_of hub.cores log e kept.log_is.known (let k = known_core in omega (arith, k, own_core));
      few = few_after;
    }

    drawer_works : IsAtWork core_of draws legal stands first core (log ++ e ∷ []) hub (drawing log e v)
    drawer_works = record {
      hand = record {
        lives = work.hand.lives;
        calls = work.hand.calls;
        first_known = work.hand.first_known;
        core_known = work.hand.core_known;
        seen = begins_itself (log ++ e ∷ []);
        mine = ap (λ l. l ++ e ∷ []) work.hand.mine ∙ sym (own_comes core_of core log e own_core);
        held = λ p x has stood. stood;
      };
      waits = work.waits;
    }

    others_work : (c : ℕ) (u : V) → c ≢ core → get_elem? s.views (suc c) ≡ some u → IsAtWork core_of draws legal stands first c log hub u
        → IsAtWork core_of draws legal stands first c (log ++ e ∷ []) hub u
    others_work c u not there w = record {
      hand = record {
        lives = w.hand.lives;
        calls = w.hand.calls;
        first_known = w.hand.first_known;
        core_known = w.hand.core_known;
        seen = begins_longer u.seen log (e ∷ []) w.hand.seen;
        mine = w.hand.mine ∙ sym (other_comes core_of c log e (λ is. not (sym is ∙ own_core)));
        held =
            λ p x has stood. keeps_others p x
            (λ own. not (let a = kept.views_are.owned core p v at own in let b = kept.views_are.owned c p u there has in omega (arith, a, b)))
            (w.hand.held p x has stood);
      };
      waits = w.waits;
    }

    drawn : (n : ℕ) (carried : List (ℕ × S)) → n ≡ stamps_in draws (log ++ e ∷ [])
        → IsKept core_of draws legal stands first (log ++ e ∷ []) owner hub (stepped s 0 n (suc core) carried (drawing log e v) keeps)
    drawn n carried is = record {
      log_is = log_after n is;
      views_are =
          views_set core_of draws legal stands first log (log ++ e ∷ []) owner owner hub s.views core v (drawing log e v) at drawer_works
          (λ p has. kept.views_are.owned core p v at has)
          (λ p owned. holder_is core_of draws legal stands first log owner hub s.views core p v at kept.views_are owned)
          (record {
            saws_stay = λ seen is. begins_longer seen log (e ∷ []) is;
            back = λ c p not owned. owned;
            lists_stay = λ c lt. other_comes core_of c log e (λ is. let w = work.waits in omega (arith, lt, w, is, own_core));
            others = others_work;
            theirs = λ c p u not there has o. o;
          })
          kept.views_are;
      cells_are = cells_longer core_of draws legal stands first log (log ++ e ∷ []) owner s.words s.homes n
          (λ p x home. keeps_others p x (λ own. let a = kept.views_are.owned core p v at own in omega (arith, a, home))) kept.cells_are;
    }

    tells : (n : ℕ) → n ≡ stamps_in draws log → Drew core_of draws legal stands entry v n (drawing log e v) log
    tells n is = record {
      frame = refl;
      number_is = is;
      seen = work.hand.seen;
      kept = past.held;
      entry_last = ap (λ k. log ++ entry k ∷ []) (sym is);
      mine = ap (λ k. v.mine ++ entry k ∷ []) (sym is);
      legal_seen = asked.legal_next;
      own = ap (λ l. l ++ e ∷ []) past.mine ∙ sym (own_comes core_of v.core log e (may.own (stamps_in draws log)));
    }

  adds : (slots id : ℕ) (v : V) (carried : List (ℕ × S)) (entry : ℕ → E) (f : ℕ → ℕ) → MayStamp v entry
      → ((log : List E) → stamps_in draws log < 2 ^ 60 → f (stamps_in draws log) ≡ stamps_in draws (log ++ entry (stamps_in draws log) ∷ []))
      → Allows Keeps slots id (v, carried) 0 f (Adds core_of draws legal stands entry (v, carried))
  adds slots id v carried entry f may counts s holds wide at _ =
      let log = holds.0 in let owner = holds.1 in let hub = holds.2 in let kept = holds.3 in
      let core = is_a_core core_of draws legal stands first log owner hub s.views id v may.calls kept.views_are at in
      let n : ℕ = get_or s.words 0 0 in
      let here : get_elem? s.views (suc core.0) ≡ some v = subst (λ i. get_elem? s.views i ≡ some v) core.1 at in
      let is : n ≡ stamps_in draws log = kept.log_is.count in
      let lt = small v entry may s log owner hub kept core.0 here in
      let next : f n ≡ stamps_in draws (log ++ entry (stamps_in draws log) ∷ []) = ap f is ∙ counts log lt in (
        drawing log (entry (stamps_in draws log)) v,
        keeps,
        tt,
        (
          log ++ entry (stamps_in draws log) ∷ [],
          owner,
          hub,
          subst (λ i. IsKept core_of draws legal stands first (log ++ entry (stamps_in draws log) ∷ []) owner hub
              (stepped s 0 (f n) i carried (drawing log (entry (stamps_in draws log)) v) keeps))
              (sym core.1)
              (drawn v entry may s log owner hub kept core.0 here (f n) carried next),
        ),
        (refl, (log, tells v entry may s log owner hub kept core.0 here n is)),
      )

  -- A core may draw a stamp for an entry.
  pub may_draw : (slots id : ℕ) (v : V) (carried : List (ℕ × S)) (entry : ℕ → E) → MayStamp v entry → ((number : ℕ) → draws (entry number) ≡ true)
      → Allows Keeps slots id (v, carried) 0 (λ n. (n + 1) % 2 ^ 64) (Adds core_of draws legal stands entry (v, carried))
  may_draw slots id v carried entry may does = adds slots id v carried entry (λ n. (n + 1) % 2 ^ 64) may
      (λ log lt. let c = drawer_counts draws log (entry (stamps_in draws log)) (does (stamps_in draws log)) in omega (arith, c, lt))

  -- A core may tell what takes no stamp.
  pub may_tell : (slots id : ℕ) (v : V) (carried : List (ℕ × S)) (entry : ℕ → E) → MayStamp v entry → ((number : ℕ) → draws (entry number) ≡ false)
      → Allows Keeps slots id (v, carried) 0 (λ n. n) (Adds core_of draws legal stands entry (v, carried))
  may_tell slots id v carried entry may not = adds slots id v carried entry (λ n. n) may
      (λ log lt. sym (teller_counts_not draws log (entry (stamps_in draws log)) (not (stamps_in draws log))))
