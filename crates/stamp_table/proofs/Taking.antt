-- A core takes a cell, and gives it back.
use Rattle.std.proofs.Common.{◌≡◌, ◌≢◌, ℕ, suc, ◌<◌, eqb, Bool, false, List, [], ◌∷◌, length, get_or, set, sym, refl, ap, ◌∙◌, subst, arith, inl, inr, ⊎_elim}
use mathlib.Core.Logic.{dite}
use mathlib.Core.Option.{some}
use native.Mathlib.Decide.{ℕ_discrete}
use lib.ListN.{get_elem?}
use prog.Atomic.{either}
use Rattle.atomic_table.specs.Table.{State, Me, Act, keeps, takes, gives, stepped, Allows, rest}
use Rattle.atomic_table.proofs.Lists.{set_again, exchanged}
use Rattle.stamp_table.specs.declared.view.View.{View}
use Rattle.stamp_table.specs.Rule.{lock_word, Has, entries_by, IsAtWork, AreViews, IsLog, IsKept, Kept}
use Rattle.stamp_table.specs.Steps.{Took, MayTake, Gave, tail}
use Rattle.stamp_table.proofs.Keeps.{begins_itself, owner_with, owner_here, owner_else, other_word, cells_locked, cells_taken, cells_given, is_a_core, is_at_work, views_set, holder_is}

-- a word that is 1 once it was 0 is not 0
pub locked_not_0 : (n : ℕ) → either (eqb n 0) 1 n ≢ 0
locked_not_0 n = exchanged n 0 1 (λ z. z ≢ 0) (λ _ is. omega (arith, is)) (λ not. not)

module _ {T E S : Type 0} (core_of : E → ℕ) (draws : E → Bool) (legal : T → List E → Type 0) (stands : T → List E → ℕ → S → Type 0) (first : T) where
  abbrev V : Type 0
  V = View T E

  abbrev Keeps : State S V → Type 0
  Keeps = Kept core_of draws legal stands first

  -- the history stays, and the stamp word with it
  log_stays : (cores : ℕ) (log : List E) (words : List ℕ) (place n : ℕ) → IsLog core_of draws legal stands first cores log words
      → IsLog core_of draws legal stands first cores log (set words (lock_word place) n)
  log_stays cores log words place n is = record {
    count = other_word words (lock_word place) 0 n (λ same. omega (arith, same)) ∙ is.count;
    legal_log = is.legal_log;
    many = is.many;
    known = is.known;
    few = is.few;
  }

  -- the view of a core that took a cell
  abbrev taking : List E → ℕ → V → V
  taking log place v = record v { seen = log; held = place ∷ v.held }

  taker_works : (log : List E) (hub v : V) (core place : ℕ) → IsAtWork core_of draws legal stands first core log hub v
      → IsAtWork core_of draws legal stands first core log hub (taking log place v)
  taker_works log hub v core place work = record {
    hand = record {
      lives = work.hand.lives;
      calls = work.hand.calls;
      first_known = work.hand.first_known;
      core_known = work.hand.core_known;
      seen = begins_itself log;
      mine = work.hand.mine;
      held = λ p x has stood. stood;
    };
    waits = work.waits;
  }

  module _ (place : ℕ) (me : Me S V) (lives : me.0.gone ≡ false) (calls : me.0.gathers ≡ false) (s : State S V) (log : List E) (owner : ℕ → ℕ) (hub : V)
      (kept : IsKept core_of draws legal stands first log owner hub s) (core : ℕ) (at : get_elem? s.views (suc core) ≡ some me.0) where
    work : IsAtWork core_of draws legal stands first core log hub me.0
    work = is_at_work core_of draws legal stands first log owner hub s.views core me.0 lives kept.views_are at

    taken_views : (homed : owner place ≡ 0)
        → AreViews core_of draws legal stands first log (owner_with owner place (suc core)) hub (set s.views (suc core) (taking log place me.0))
    taken_views homed =
        views_set core_of draws legal stands first log log owner (owner_with owner place (suc core)) hub s.views core me.0 (taking log place me.0) at
        (taker_works log hub me.0 core place work)
        (λ p has. ⊎_elim (λ here. owner_here owner place (suc core) p (sym here))
        (λ old. dite (ℕ_discrete p place) (λ is. owner_here owner place (suc core) p is)
        (λ not. owner_else owner place (suc core) p not ∙ kept.views_are.owned core p me.0 at old))
        has)
        (λ p owned. dite (ℕ_discrete p place) (λ is. inl (sym is))
        (λ not. inr
        (holder_is core_of draws legal stands first log owner hub s.views core p me.0 at kept.views_are
        (sym (owner_else owner place (suc core) p not) ∙ owned))))
        (record {
          lists_stay = λ other lt. refl;
          saws_stay = λ seen is. is;
          back = λ other p not owned. dite (ℕ_discrete p place)
              (λ is. absurd (not (let z = sym (owner_here owner place (suc core) p is) ∙ owned in omega (arith, z))))
              (λ else. sym (owner_else owner place (suc core) p else) ∙ owned);
          others = λ other u not there w. w;
          theirs = λ other p u not there has is. owner_else owner place (suc core) p (λ same. (let z = ap owner same in omega (arith, z, homed, is))) ∙ is;
        })
        kept.views_are

    taken : (n : ℕ) (value : S) → n ≢ 0 → get_elem? s.homes place ≡ some (some value)
        → IsKept core_of draws legal stands first log (owner_with owner place (suc core)) hub
        (stepped s (lock_word place) n (suc core) me.1 (taking log place me.0) (takes place value))
    taken n value not there = record {
      log_is = log_stays hub.cores log s.words place n kept.log_is;
      views_are = taken_views (kept.cells_are.home place value there).0;
      cells_are = cells_taken core_of draws legal stands first log owner s.words s.homes place n core not kept.cells_are;
    }

    tells : (value : S) → get_elem? s.homes place ≡ some (some value) → Took core_of draws legal stands place me (taking log place me.0, (place, value) ∷ me.1)
    tells value there = record {
      saw = record {
        frame = refl;
        seen = work.hand.seen;
        legal_seen = subst (λ f. legal f log) (sym work.hand.first_known) kept.log_is.legal_log;
        mine = work.hand.mine ∙ ap (λ c. entries_by core_of c log) (sym work.hand.core_known);
        kept = λ other x has. subst (λ f. stands f me.0.seen other x → stands f log other x) (sym work.hand.first_known) (work.hand.held other x has);
        held = refl;
      };
      value = (value, refl, subst (λ f. stands f log place value) (sym work.hand.first_known) (kept.cells_are.home place value there).1);
    }

    missed : (n : ℕ) → n ≢ 0 → IsKept core_of draws legal stands first log owner hub (stepped s (lock_word place) n (suc core) me.1 me.0 keeps)
    missed n not = record {
      log_is = log_stays hub.cores log s.words place n kept.log_is;
      views_are = subst (λ vs. AreViews core_of draws legal stands first log owner hub vs) (sym (set_again s.views (suc core) me.0 at)) kept.views_are;
      cells_are = cells_locked core_of draws legal stands first log owner s.words s.homes place n not kept.cells_are;
    }

    takes_or_not : (slots : ℕ) (f : ℕ → ℕ) → place < slots → length s.homes ≡ slots → ((n : ℕ) → f n ≢ 0) → let n = get_or s.words (lock_word place) 0 in
        (w : V) × (a : Act S) × Rattle.atomic_table.specs.Table.Valid s.homes me.1 a × Keeps (stepped s (lock_word place) (f n) (suc core) me.1 w a)
        × MayTake core_of draws legal stands place me n (w, Rattle.atomic_table.specs.Table.carried_after me.1 a)
    takes_or_not slots f within wide not = let n = get_or s.words (lock_word place) 0 in dite (ℕ_discrete n 0)
        (λ is. let at_home = kept.cells_are.free place (omega (arith, within, wide)) is in (
          taking log place me.0,
          takes place at_home.0,
          at_home.1,
          (log, owner_with owner place (suc core), hub, taken (f n) at_home.0 (not n) at_home.1),
          ((λ _. tells at_home.0 at_home.1), λ other. absurd (other is)),
        ))
        (λ other. (me.0, keeps, tt, (log, owner, hub, missed (f n) (not n)), ((λ is. absurd (other is)), λ _. refl)))

  -- A core may take a cell by a step that leaves its lock word not 0.
  pub may_take : (slots id place : ℕ) (me : Me S V) (f : ℕ → ℕ) → me.0.gone ≡ false → me.0.gathers ≡ false → place < slots → ((n : ℕ) → f n ≢ 0)
      → Allows Keeps slots id me (lock_word place) f (MayTake core_of draws legal stands place me)
  may_take slots id place me f lives calls within not s holds wide at _ =
      let log = holds.0 in let owner = holds.1 in let hub = holds.2 in let kept = holds.3 in
      let core = is_a_core core_of draws legal stands first log owner hub s.views id me.0 calls kept.views_are at in
      subst (λ i. (w : V) × (a : Act S) × Rattle.atomic_table.specs.Table.Valid s.homes me.1 a
      × Keeps (stepped s (lock_word place) (f (get_or s.words (lock_word place) 0)) i me.1 w a)
      × MayTake core_of draws legal stands place me (get_or s.words (lock_word place) 0) (w, Rattle.atomic_table.specs.Table.carried_after me.1 a))
      (sym core.1)
      (takes_or_not place me lives calls s log owner hub kept core.0 (subst (λ i. get_elem? s.views i ≡ some me.0) core.1 at) slots f within wide not)

  -- The same, said of the word.
  pub may_take_word : (slots id word place : ℕ) (me : Me S V) (f : ℕ → ℕ) → me.0.gone ≡ false → me.0.gathers ≡ false → place < slots → ((n : ℕ) → f n ≢ 0)
      → word ≡ lock_word place
      → Allows Keeps slots id me word f (λ n m. (p : ℕ) → word ≡ lock_word p → MayTake core_of draws legal stands p me n m)
  may_take_word slots id word place me f lives calls within not is =
      subst (λ w. Allows Keeps slots id me w f (λ n m. (p : ℕ) → w ≡ lock_word p → MayTake core_of draws legal stands p me n m)) (sym is)
      (λ s holds wide at lt. let r = may_take slots id place me f lives calls within not s holds wide at lt in (
        r.0,
        r.1,
        r.2,
        r.3,
        λ p e. let same : place ≡ p = omega (arith, e) in
            subst (λ q. MayTake core_of draws legal stands q me (get_or s.words (lock_word place) 0)
            (r.0, Rattle.atomic_table.specs.Table.carried_after me.1 r.1))
            same r.4,
      ))

  has_tail : (held : List ℕ) (p : ℕ) → Has (tail held) p → Has held p
  has_tail [] p has = has
  has_tail (x ∷ held) p has = inr has

  -- what is held beside the last cell is held once that is gone
  tail_has : (held : List ℕ) (place p : ℕ) → Has held place → (Has (tail held) place → ⊥) → Has held p → p ≢ place → Has (tail held) p
  tail_has [] place p holds once has not = has
  tail_has (x ∷ held) place p holds once has not =
      ⊎_elim (λ here. ⊎_elim (λ mine. absurd (not (sym here ∙ mine))) (λ there. absurd (once there)) holds) (λ there. there) has

  -- the view of a core whose last cell went home
  abbrev giving : V → V
  giving v = record v { held = tail v.held }

  giver_works : (log : List E) (hub v : V) (core : ℕ) → IsAtWork core_of draws legal stands first core log hub v
      → IsAtWork core_of draws legal stands first core log hub (giving v)
  giver_works log hub v core work = record {
    hand = record {
      lives = work.hand.lives;
      calls = work.hand.calls;
      first_known = work.hand.first_known;
      core_known = work.hand.core_known;
      seen = work.hand.seen;
      mine = work.hand.mine;
      held = λ p x has. work.hand.held p x (has_tail v.held p has);
    };
    waits = work.waits;
  }

  -- what a core asks that gives a cell back: it holds it once, and the value stands for what the history that it has seen leaves of the cell
  pub record MayGive (place : ℕ) (v : V) (value : S) : Type 0 where
    pub lives : v.gone ≡ false
    pub calls : v.gathers ≡ false
    pub holds : Has v.held place
    pub once : Has (tail v.held) place → ⊥
    pub stood : stands v.first v.seen place value

  module _ (place : ℕ) (v : V) (value : S) (may : MayGive place v value) (carried : List (ℕ × S)) (s : State S V) (log : List E) (owner : ℕ → ℕ) (hub : V)
      (kept : IsKept core_of draws legal stands first log owner hub s) (core : ℕ) (at : get_elem? s.views (suc core) ≡ some v) where
    given : place < length s.homes
        → IsKept core_of draws legal stands first log (owner_with owner place 0) hub
        (stepped s (lock_word place) 0 (suc core) ((place, value) ∷ carried) (giving v) gives)
    given within = let at_work = is_at_work core_of draws legal stands first log owner hub s.views core v may.lives kept.views_are at in record {
      log_is = log_stays hub.cores log s.words place 0 kept.log_is;
      views_are =
          views_set core_of draws legal stands first log log owner (owner_with owner place 0) hub s.views core v (giving v) at
          (giver_works log hub v core at_work)
          (λ p has. owner_else owner place 0 p (λ same. may.once (subst (λ q. Has (tail v.held) q) same has))
          ∙ kept.views_are.owned core p v at (has_tail v.held p has))
          (λ p owned. dite (ℕ_discrete p place)
          (λ is. absurd (let z = sym (owner_here owner place 0 p is) ∙ owned in omega (arith, z)))
          (λ not. tail_has v.held place p may.holds may.once
          (holder_is core_of draws legal stands first log owner hub s.views core p v at kept.views_are (sym (owner_else owner place 0 p not) ∙ owned)) not))
          (record {
            lists_stay = λ other lt. refl;
            saws_stay = λ seen is. is;
            back = λ other p not owned. dite (ℕ_discrete p place)
                (λ is. absurd (let z = sym (owner_here owner place 0 p is) ∙ owned in omega (arith, z)))
                (λ else. sym (owner_else owner place 0 p else) ∙ owned);
            others = λ other u not there w. w;
            theirs =
                λ other p u not there has is. owner_else owner place 0 p
                (λ same. not (let z = ap owner same in let own = kept.views_are.owned core place v at may.holds in omega (arith, z, own, is)))
                ∙ is;
          })
          kept.views_are;
      cells_are = cells_given core_of draws legal stands first log owner s.words s.homes place 0 value within
          (at_work.hand.held place value may.holds (subst (λ f. stands f v.seen place value) at_work.hand.first_known may.stood)) kept.cells_are;
    }

  -- A core may give back the cell that it took last.
  pub may_give : (slots id place : ℕ) (v : V) (value : S) (carried : List (ℕ × S)) → MayGive place v value → place < slots
      → Allows Keeps slots id (v, (place, value) ∷ carried) (lock_word place) (λ _. 0) (λ _. Gave (v, (place, value) ∷ carried))
  may_give slots id place v value carried may within s holds wide at _ =
      let log = holds.0 in let owner = holds.1 in let hub = holds.2 in let kept = holds.3 in
      let core = is_a_core core_of draws legal stands first log owner hub s.views id v may.calls kept.views_are at in (
        giving v,
        gives,
        tt,
        (
          log,
          owner_with owner place 0,
          hub,
          subst (λ i. IsKept core_of draws legal stands first log (owner_with owner place 0) hub
              (stepped s (lock_word place) 0 i ((place, value) ∷ carried) (giving v) gives))
              (sym core.1)
              (given place v value may carried s log owner hub kept core.0 (subst (λ i. get_elem? s.views i ≡ some v) core.1 at) (omega (arith, within, wide))),
        ),
        refl,
      )
