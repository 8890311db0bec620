-- A table begins, its cores are made, and their lists are gathered.
use Rattle.std.proofs.Common.{◌≡◌, ◌≢◌, ◌⊎◌, ℕ, zero, suc, ◌+◌, ◌^◌, ◌<◌, Bool, true, false, List, [], ◌∷◌, ◌++◌, map, length, get_or, set, sym, refl, ap, ◌∙◌, subst, arith, inl, inr, ⊎_elim, length-set, length-append, true≢false, slice_get, Some}
use mathlib.Core.Option.{none, some, some-injective, some-ne-none}
use lib.ListN.{get_elem?}
use Rattle.std.proofs.lemmas.List.{length-map}
use Rattle.atomic_table.specs.Table.{State, opening, Seen, Splits, Joins}
use Rattle.atomic_table.proofs.Lists.{at_set, set_here, set_else, at_longer, some_there}
use Rattle.stamp_table.specs.declared.view.View.{View}
use mathlib.Core.List.{IsPrefix}
use Rattle.stamp_table.specs.Rule.{Has, entries_by, AreKnown, IsAtWork, AreViews, IsKept, Kept, stamps_in}
use Rattle.stamp_table.specs.Steps.{gatherer, one_more, newcomer, gathered}
use Rattle.stamp_table.proofs.Logs.{known_more, none_yet, few_stamps}
use Rattle.stamp_table.proofs.Keeps.{is_a_core, is_at_work, get_elem_within}
use mathlib.Core.Logic.{dite}
use native.Mathlib.Decide.{ℕ_discrete}

-- what stands behind the others stands at their number
snoc_place : {A : Type 0} (l : List A) (a b : A) (j : ℕ) → get_elem? (l ++ a ∷ []) j ≡ some b → (get_elem? l j ≡ some b) ⊎ ((j ≡ length l) × (a ≡ b))
snoc_place [] a b zero e = inr (refl, some-injective a b e)
snoc_place [] a b (suc j) e = absurd (some-ne-none b (sym e))
snoc_place (x ∷ xs) a b zero e = inl e
snoc_place (x ∷ xs) a b (suc j) e = ⊎_elim (λ old. inl old) (λ new. inr (ap suc new.0, new.1)) (snoc_place xs a b j e)

slice_snoc : {A : Type 0} (l : List A) (a b : A) (j : ℕ) → slice_get (l ++ a ∷ []) j ≡ Some b → (slice_get l j ≡ Some b) ⊎ ((j ≡ length l) × (a ≡ b))
slice_snoc [] a b zero e = inr (refl, cc e)
slice_snoc [] a b (suc j) e = absurd cc
slice_snoc (x ∷ xs) a b zero e = inl e
slice_snoc (x ∷ xs) a b (suc j) e = ⊎_elim (λ old. inl old) (λ new. inr (ap suc new.0, new.1)) (slice_snoc xs a b j e)

-- what stands in a list of homes stood in what they were made of
home_of : {A : Type 0} (xs : List A) (p : ℕ) (x : A) → get_elem? (map some xs) p ≡ some (some x) → get_elem? xs p ≡ some x
home_of [] p x e = absurd (some-ne-none (some x) (sym e))
home_of (y ∷ ys) zero x e = some-injective (some y) (some x) e
home_of (y ∷ ys) (suc p) x e = home_of ys p x e

-- nothing is out of them
none_out : {A : Type 0} (xs : List A) (p : ℕ) → get_elem? (map some xs) p ≡ some none → ⊥
none_out [] p e = some-ne-none none (sym e)
none_out (y ∷ ys) zero e = some-ne-none y (some-injective (some y) none e)
none_out (y ∷ ys) (suc p) e = none_out ys p e

-- what stands at a place of a list
some_at : {A : Type 0} (l : List A) (p : ℕ) → p < length l → (a : A) × (get_elem? l p ≡ some a)
some_at [] p lt = absurd (omega (arith, lt))
some_at (x ∷ xs) zero lt = (x, refl)
some_at (x ∷ xs) (suc p) lt = some_at xs p (omega (arith, lt))

module _ {T E S : Type 0} (core_of : E → ℕ) (draws : E → Bool) (legal : T → List E → Type 0) (stands : T → List E → ℕ → S → Type 0) (first : T) where
  abbrev V : Type 0
  V = View T E

  abbrev Keeps : State S V → Type 0
  Keeps = Kept core_of draws legal stands first

  -- The rule holds at the beginning, where each value stands for what no entry leaves of its cell.
  pub begins : (words : List ℕ) (values : List S) → get_or words 0 0 ≡ 0 → length words ≡ 16 + length values → legal first []
      → ((p : ℕ) (x : S) → get_elem? values p ≡ some x → stands first [] p x) → Keeps (opening words values (gatherer first))
  begins words values zero_stamp long legal_none stood = (
    [],
    (λ p. 0),
    gatherer first,
    record {
      log_is = record { count = zero_stamp; legal_log = legal_none; many = omega arith; known = tt; few = λ core. omega arith };
      views_are = record {
        hub_first = refl;
        gathers = refl;
        hub_knows = refl;
        cores = refl;
        lists = λ core list is. absurd cc;
        saws = λ core seen is. absurd cc;
        holders = λ core p is. absurd (omega (arith, is));
        hands = λ core v at. absurd (some-ne-none v (sym at));
        owned = λ core p v at has. absurd (some-ne-none v (sym at));
      };
      cells_are = record {
        locks = long ∙ ap (λ k. 16 + k) (sym (length-map values some));
        home = λ p x at. (refl, stood p x (home_of values p x at));
        out = λ p at. absurd (none_out values p at);
        free = λ p lt is0. some_there values p (let l = length-map {B = mathlib.Core.Option.Option S} values some in omega (arith, lt, l));
      };
    },
  )

  -- the seat that gathers is the first
  is_the_hub : (log : List E) (owner : ℕ → ℕ) (hub : V) (views : List V) (id : ℕ) (v : V) → v.gathers ≡ true
      → AreViews core_of draws legal stands first log owner hub views
      → get_elem? views id ≡ some v → (id ≡ 0) × (hub ≡ v)
  is_the_hub log owner hub views zero v does are at = (refl, some-injective hub v (sym are.hub_first ∙ at))
  is_the_hub log owner hub views (suc core) v does are at =
      absurd (⊎_elim (λ gone. true≢false (sym does ∙ gone.calls)) (λ work. true≢false (sym does ∙ work.hand.calls)) (are.hands core v at))

  module _ (s : State S V) (log : List E) (owner : ℕ → ℕ) (v : V) (kept : IsKept core_of draws legal stands first log owner v s) where
    abbrev longer : List V
    longer = set s.views 0 (one_more v)

    nonempty : 0 < length s.views
    nonempty = let is = kept.views_are.cores in omega (arith, is)

    newcomer_works : v.lists ≡ [] → IsAtWork core_of draws legal stands first v.cores log (one_more v) (newcomer v)
    newcomer_works none_gathered = record {
      hand = record {
        lives = refl;
        calls = refl;
        first_known = kept.views_are.hub_knows;
        core_known = refl;
        seen = (log, refl);
        mine = sym (none_yet core_of v.cores v.cores log (omega arith) kept.log_is.known);
        held = λ p x has. absurd has;
      };
      waits = let l = ap length none_gathered in omega (arith, l);
    }

    with_newcomer : v.lists ≡ [] → AreViews core_of draws legal stands first log owner (one_more v) (longer ++ newcomer v ∷ [])
    with_newcomer none_gathered = let are = kept.views_are in record {
      hub_first = at_longer longer (newcomer v ∷ []) 0 (one_more v) (set_here s.views 0 (one_more v) nonempty);
      gathers = are.gathers;
      hub_knows = are.hub_knows;
      cores = let l = length-append longer (newcomer v ∷ []) in let m = length-set s.views 0 (one_more v) in let is = are.cores in omega (arith, l, m, is);
      lists = are.lists;
      saws = are.saws;
      holders = λ c p owned. let old = are.holders c p owned in (
        old.0,
        at_longer longer (newcomer v ∷ []) (suc c) old.0 (set_else s.views 0 (suc c) (one_more v) (λ is. omega (arith, is)) ∙ old.1),
        old.2,
      );
      hands = λ c u at. ⊎_elim
          (λ old. ⊎_elim
          (λ gone. inl (record { gone = gone.gone; calls = gone.calls; holds_none = gone.holds_none; gathered = gone.gathered }))
          (λ work. inr (record { hand = work.hand; waits = work.waits }))
          (are.hands c u (sym (set_else s.views 0 (suc c) (one_more v) (λ is. omega (arith, is))) ∙ old)))
          (λ new. inr (subst (λ (z : ℕ × V). IsAtWork core_of draws legal stands first z.0 log (one_more v) z.1)
          (λ i. (
            let place = new.0 in let m = length-set s.views 0 (one_more v) in let is = are.cores in let same : v.cores ≡ c = omega (arith, place, m, is) in
                same i,
            new.1 i,
          ))
          (newcomer_works none_gathered)))
          (snoc_place longer (newcomer v) u (suc c) at);
      owned = λ c p u at has. ⊎_elim
          (λ old. are.owned c p u (sym (set_else s.views 0 (suc c) (one_more v) (λ is. omega (arith, is))) ∙ old) has)
          (λ new. absurd (subst (λ (x : V). Has x.held p) (sym new.1) has))
          (snoc_place longer (newcomer v) u (suc c) at);
    }

    more : v.lists ≡ [] → v.cores < 256
        → IsKept core_of draws legal stands first log owner (one_more v) (record { words = s.words; homes = s.homes; views = longer ++ newcomer v ∷ [] })
    more none_gathered few = record {
      log_is = record {
        count = kept.log_is.count;
        legal_log = kept.log_is.legal_log;
        many = omega (arith, few);
        known = known_more core_of v.cores (v.cores + 1) log (omega arith) kept.log_is.known;
        few = kept.log_is.few;
      };
      views_are = with_newcomer none_gathered;
      cells_are = kept.cells_are;
    }

  -- One more core may be made, as long as no list was gathered.
  pub may_split : (id : ℕ) (v : V) → v.gathers ≡ true → v.lists ≡ [] → v.cores < 256 → Splits Keeps id v (one_more v) (newcomer v)
  may_split id v does none_gathered few s holds at =
      let log = holds.0 in let owner = holds.1 in let hub = holds.2 in let kept = holds.3 in
      let is = is_the_hub log owner hub s.views id v does kept.views_are at in
      subst (λ i. Keeps (record { words = s.words; homes = s.homes; views = set s.views i (one_more v) ++ newcomer v ∷ [] })) (sym is.0)
      (log, owner, one_more v, more s log owner v (subst (λ h. IsKept core_of draws legal stands first log owner h s) is.1 kept) none_gathered few)

  module _ (s : State S V) (log : List E) (owner : ℕ → ℕ) (v w : V) (kept : IsKept core_of draws legal stands first log owner v s) (core : ℕ)
      (at : get_elem? s.views (suc core) ≡ some w) (lives : w.gone ≡ false) (next : w.core ≡ length v.lists) (left : V) (left_gone : left.gone ≡ true)
      (left_calls : left.gathers ≡ false) (left_empty : left.held ≡ []) (empty : w.held ≡ []) where
    abbrev held_by_hub : List V
    held_by_hub = set s.views 0 (gathered v w)

    work : IsAtWork core_of draws legal stands first core log v w
    work = is_at_work core_of draws legal stands first log owner v s.views core w lives kept.views_are at

    is_next : core ≡ length v.lists
    is_next = sym work.hand.core_known ∙ next

    count_lists : length (v.lists ++ w.mine ∷ []) ≡ length v.lists + 1
    count_lists = length-append v.lists (w.mine ∷ [])

    beyond : (c : ℕ) (u : V) → get_elem? held_by_hub (suc c) ≡ some u → get_elem? s.views (suc c) ≡ some u
    beyond c u e = sym (set_else s.views 0 (suc c) (gathered v w) (λ is. omega (arith, is))) ∙ e

    with_list : AreViews core_of draws legal stands first log owner (gathered v w) (set held_by_hub (suc core) left)
    with_list = let are = kept.views_are in record {
      hub_first =
          set_else held_by_hub (suc core) 0 left (λ is. omega (arith, is)) ∙ set_here s.views 0 (gathered v w) (let is = are.cores in omega (arith, is));
      gathers = are.gathers;
      hub_knows = are.hub_knows;
      cores = length-set held_by_hub (suc core) left ∙ (length-set s.views 0 (gathered v w) ∙ are.cores);
      lists = λ k list is. ⊎_elim (λ old. are.lists k list old)
          (λ new. sym new.1 ∙ (work.hand.mine ∙ ap (λ c. entries_by core_of c log) (is_next ∙ sym new.0)))
          (slice_snoc v.lists w.mine list k is);
      saws = λ k seen is. ⊎_elim (λ old. are.saws k seen old) (λ new. subst (λ l. IsPrefix l log) new.1 work.hand.seen) (slice_snoc v.saws w.seen seen k is);
      holders = λ c p owned. let old = are.holders c p owned in dite (ℕ_discrete c core)
          (λ is. absurd
          (let same : old.0 ≡ w = some-injective old.0 w (sym old.1 ∙ (ap (λ k. get_elem? s.views (suc k)) is ∙ at)) in
          subst (λ l. Has l p) (ap (λ (x : V). x.held) same ∙ empty) old.2))
          (λ other. (
            old.0,
            set_else held_by_hub (suc core) (suc c) left (λ is. other (omega (arith, is)))
                ∙ (set_else s.views 0 (suc c) (gathered v w) (λ is. omega (arith, is)) ∙ old.1),
            old.2,
          ));
      hands = λ c u there. ⊎_elim
          (λ here. inl (record {
            gone = ap (λ (x : V). x.gone) (sym here.1) ∙ left_gone;
            calls = ap (λ (x : V). x.gathers) (sym here.1) ∙ left_calls;
            holds_none = ap (λ (x : V). x.held) (sym here.1) ∙ left_empty;
            gathered = let place = here.0 in let n = is_next in let m = count_lists in omega (arith, place, n, m);
          }))
          (λ else. ⊎_elim
          (λ gone. inl
          (record {
            gone = gone.gone;
            calls = gone.calls;
            holds_none = gone.holds_none;
            gathered = let g = gone.gathered in let m = count_lists in
                omega (arith, g, m);
          }))
          (λ still. inr
          (record {
            hand = still.hand;
            waits = let g = still.waits in let m = count_lists in let n = is_next in
                let apart : c ≢ core = λ is. else.0 (ap suc is) in grind (arith, g, m, n, apart);
          }))
          (are.hands c u (beyond c u else.1)))
          (at_set held_by_hub (suc core) (suc c) left u there);
      owned = λ c p u there has. ⊎_elim
          (λ here. absurd (subst (λ l. Has l p) (ap (λ (x : V). x.held) (sym here.1) ∙ left_empty) has))
          (λ else. are.owned c p u (beyond c u else.1) has)
          (at_set held_by_hub (suc core) (suc c) left u there);
    }

    joined : IsKept core_of draws legal stands first log owner (gathered v w)
        (record { words = s.words; homes = s.homes; views = set held_by_hub (suc core) left })
    joined = record {
      log_is =
          record { count = kept.log_is.count; legal_log = kept.log_is.legal_log; many = kept.log_is.many; known = kept.log_is.known; few = kept.log_is.few };
      views_are = with_list;
      cells_are = kept.cells_are;
    }

  -- The list of the next core may be gathered.
  pub may_join : (id other : ℕ) (v w left : V) → v.gathers ≡ true → w.gathers ≡ false → w.gone ≡ false → w.core ≡ length v.lists → w.held ≡ []
      → left.gone ≡ true → left.gathers ≡ false → left.held ≡ [] → Joins Keeps id v other w (gathered v w) left
  may_join id other v w left does calls lives next holds_none gone quiet empty s holds at apart there =
      let log = holds.0 in let owner = holds.1 in let hub = holds.2 in let kept = holds.3 in
      let is = is_the_hub log owner hub s.views id v does kept.views_are at in
      let seen : get_elem? s.views other ≡ some w = sym (set_else s.views id other (gathered v w) apart) ∙ there in
      let core = is_a_core core_of draws legal stands first log owner hub s.views other w calls kept.views_are seen in
      subst (λ (z : ℕ × ℕ). Keeps (record { words = s.words; homes = s.homes; views = set (set s.views z.0 (gathered v w)) z.1 left }))
      (λ i. (sym is.0 i, sym core.1 i)) (
        log,
        owner,
        gathered v w,
        joined s log owner v w (subst (λ h. IsKept core_of draws legal stands first log owner h s) is.1 kept) core.0
            (subst (λ j. get_elem? s.views j ≡ some w) core.1 seen) lives next left gone quiet empty holds_none,
      )

  -- what is known at the end, when all lists were gathered, and what their cores had seen
  pub record IsGathered (lists saws : List (List E)) (cores : ℕ) (log : List E) : Type 0 where
    pub legal_log : legal first log
    pub known : AreKnown core_of cores log
    pub own : (core : ℕ) (list : List E) → slice_get lists core ≡ Some list → list ≡ entries_by core_of core log
    pub seen : (core : ℕ) (seen : List E) → slice_get saws core ≡ Some seen → IsPrefix seen log
    pub small : stamps_in draws log < 2 ^ 60

  -- each cell is at home, and stands for the history
  abbrev pub AreHome : List (mathlib.Core.Option.Option S) → List E → Type 0
  AreHome homes log = (p : ℕ) → p < length homes → (x : S) × (get_elem? homes p ≡ some (some x)) × stands first log p x

  -- where all lists were gathered no core holds a cell
  all_home : (s : State S V) (log : List E) (owner : ℕ → ℕ) (v : V) → IsKept core_of draws legal stands first log owner v s → length v.lists ≡ v.cores
      → AreHome s.homes log
  all_home s log owner v kept all p lt = at_home (some_at s.homes p lt) where
    out_of : (core : ℕ) → owner p ≡ suc core → ⊥
    out_of core owned = let holds = kept.views_are.holders core p owned in ⊎_elim
        (λ gone. subst (λ l. Has l p) gone.holds_none holds.2)
        (λ work. let within = get_elem_within s.views (suc core) holds.0 holds.1 in let is = kept.views_are.cores in let waits = work.waits in
        absurd (omega (arith, within, is, waits, all)))
        (kept.views_are.hands core holds.0 holds.1)

    at_home : (h : mathlib.Core.Option.Option S) × (get_elem? s.homes p ≡ some h) → (x : S) × (get_elem? s.homes p ≡ some (some x)) × stands first log p x
    at_home (none, at) = let out = kept.cells_are.out p at in absurd (out_of out.0 out.1)
    at_home (some x, at) = (x, at, (kept.cells_are.home p x at).1)

  pub ends : (id : ℕ) (v : V) (s : State S V) → v.gathers ≡ true → Seen Keeps id v s → length v.lists ≡ v.cores
      → (log : List E) × IsGathered v.lists v.saws v.cores log × AreHome s.homes log
  ends id v s does seen all =
      let log = seen.0.0 in let owner = seen.0.1 in let hub = seen.0.2 in let kept = seen.0.3 in
      let is = is_the_hub log owner hub s.views id v does kept.views_are seen.1 in
      let kept' = subst (λ h. IsKept core_of draws legal stands first log owner h s) is.1 kept in (
        log,
        record {
          legal_log = kept.log_is.legal_log;
          known = kept'.log_is.known;
          own = kept'.views_are.lists;
          seen = kept'.views_are.saws;
          small = let many = kept'.log_is.many in
              let le = few_stamps core_of draws 256 (2 ^ 50) log (known_more core_of v.cores 256 log many kept'.log_is.known) kept.log_is.few in
              omega (arith, le);
        },
        λ p lt. all_home s log owner v kept' all p lt,
      )
