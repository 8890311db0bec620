-- Each step keeps the rule: what a step on one word does to the parts of the rule.
use Rattle.std.proofs.Common.{◌≡◌, ◌≢◌, ℕ, zero, suc, ◌+◌, ◌<◌, eqb, cond, Bool, false, List, [], ◌∷◌, ◌++◌, length, get_or, set, sym, refl, ap, ◌∙◌, subst, arith, inl, inr, ⊎_elim, eq-eqb, ne_eqb, append-nil, append_assoc, length-set, get_or-set_same, true≢false}
use mathlib.Core.Logic.{dite}
use mathlib.Core.Option.{none, some, some-injective, some-ne-none}
use mathlib.Core.List.{IsPrefix}
use native.Mathlib.Decide.{ℕ_discrete}
use lib.ListN.{get_elem?}
use Rattle.atomic_table.specs.Table.{rest}
use Rattle.atomic_table.proofs.Lists.{at_set, set_here, set_else}
use Rattle.stamp_table.specs.declared.view.View.{View}
use Rattle.stamp_table.specs.Rule.{lock_word, Has, entries_by, IsAtWork, AreViews, AreCells}

-- a list begins with itself
pub begins_itself : {A : Type 0} (log : List A) → IsPrefix log log
begins_itself log = ([], append-nil log)

-- and a longer one begins with what it began with
pub begins_longer : {A : Type 0} (seen log more : List A) → IsPrefix seen log → IsPrefix seen (log ++ more)
begins_longer seen log more p = (p.0 ++ more, sym (append_assoc seen p.0 more) ∙ ap (λ w. w ++ more) p.1)

-- what begins the beginning of a list begins the list
pub begins_on : {A : Type 0} (seen more log : List A) → IsPrefix seen more → IsPrefix more log → IsPrefix seen log
begins_on seen more log one two =
    (one.0 ++ two.0, sym (append_assoc seen one.0 two.0) ∙ (ap (λ l. l ++ two.0) one.1 ∙ two.1))

suc-same : (a b : ℕ) → suc a ≡ suc b → a ≡ b
suc-same a b e = omega (arith, e)

-- a view that is there has a place among them
pub get_elem_within : {A : Type 0} (l : List A) (i : ℕ) (a : A) → get_elem? l i ≡ some a → i < length l
get_elem_within [] i a e = absurd (some-ne-none a (sym e))
get_elem_within (x ∷ xs) zero a e = omega arith
get_elem_within (x ∷ xs) (suc i) a e = let r = get_elem_within xs i a e in omega (arith, r)

-- a word beside the one that is set
pub other_word : (words : List ℕ) (i j n : ℕ) → j ≢ i → get_or (set words i n) j 0 ≡ get_or words j 0
other_word [] i j n not = refl
other_word (x ∷ words) zero zero n not = absurd (not refl)
other_word (x ∷ words) zero (suc j) n not = refl
other_word (x ∷ words) (suc i) zero n not = refl
other_word (x ∷ words) (suc i) (suc j) n not = other_word words i j n (λ is. not (ap suc is))

-- who owns a place once it has another owner
abbrev pub owner_with : (ℕ → ℕ) → ℕ → ℕ → ℕ → ℕ
owner_with owner place new other = cond (eqb other place) new (owner other)

pub owner_here : (owner : ℕ → ℕ) (place new other : ℕ) → other ≡ place → owner_with owner place new other ≡ new
owner_here owner place new other is = ap (λ b. cond b new (owner other)) (eq-eqb other place is)

pub owner_else : (owner : ℕ → ℕ) (place new other : ℕ) → other ≢ place → owner_with owner place new other ≡ owner other
owner_else owner place new other not = ap (λ b. cond b new (owner other)) (ne_eqb other place not)

module _ {T E S : Type 0} (core_of : E → ℕ) (draws : E → Bool) (legal : T → List E → Type 0) (stands : T → List E → ℕ → S → Type 0) (first : T) where
  abbrev V : Type 0
  V = View T E

  -- the cells stay as they are where a lock word is not 0 after a step
  pub cells_locked : (log : List E) (owner : ℕ → ℕ) (words : List ℕ) (homes : List (mathlib.Core.Option.Option S)) (place n : ℕ) → n ≢ 0
      → AreCells core_of draws legal stands first log owner words homes
      → AreCells core_of draws legal stands first log owner (set words (lock_word place) n) homes
  cells_locked log owner words homes place n not cells = record {
    locks = length-set words (lock_word place) n ∙ cells.locks;
    home = cells.home;
    out = cells.out;
    free = λ p lt is0. dite (ℕ_discrete p place)
        (λ is. absurd
        (not
        (sym (get_or-set_same words (lock_word place) n 0 (let l = cells.locks in omega (arith, l, is, lt)))
        ∙ (ap (λ q. get_or (set words (lock_word place) n) (16 + q) 0) (sym is) ∙ is0))))
        (λ other. cells.free p lt (sym (other_word words (lock_word place) (lock_word p) n (λ same. other (omega (arith, same)))) ∙ is0));
  }

  -- a cell is taken from home by a new owner
  pub cells_taken : (log : List E) (owner : ℕ → ℕ) (words : List ℕ) (homes : List (mathlib.Core.Option.Option S)) (place n core : ℕ) → n ≢ 0
      → AreCells core_of draws legal stands first log owner words homes
      → AreCells core_of draws legal stands first log (owner_with owner place (suc core)) (set words (lock_word place) n) (set homes place none)
  cells_taken log owner words homes place n core not cells = let locked = cells_locked log owner words homes place n not cells in record {
    locks = locked.locks ∙ ap (λ k. 16 + k) (sym (length-set homes place none));
    home = λ p x at. ⊎_elim (λ here. absurd (some-ne-none x (sym here.1)))
        (λ there. let old = cells.home p x there.1 in (owner_else owner place (suc core) p there.0 ∙ old.0, old.1))
        (at_set homes place p none (some x) at);
    out = λ p at. dite (ℕ_discrete p place) (λ is. (core, owner_here owner place (suc core) p is))
        (λ other. let old = cells.out p (sym (set_else homes place p none other) ∙ at) in (old.0, owner_else owner place (suc core) p other ∙ old.1));
    free = λ p lt is0. dite (ℕ_discrete p place)
        (λ is. absurd
        (not
        (sym (get_or-set_same words (lock_word place) n 0 (let l = cells.locks in let h = length-set homes place none in omega (arith, l, is, lt, h)))
        ∙ (ap (λ q. get_or (set words (lock_word place) n) (16 + q) 0) (sym is) ∙ is0))))
        (λ other. let old = locked.free p (let h = length-set homes place none in omega (arith, lt, h)) is0 in
        (old.0, set_else homes place p none other ∙ old.1));
  }

  -- a cell goes home with a value that stands for what the history leaves of it
  pub cells_given : (log : List E) (owner : ℕ → ℕ) (words : List ℕ) (homes : List (mathlib.Core.Option.Option S)) (place n : ℕ) (value : S)
      → place < length homes
      → stands first log place value → AreCells core_of draws legal stands first log owner words homes
      → AreCells core_of draws legal stands first log (owner_with owner place 0) (set words (lock_word place) n) (set homes place (some value))
  cells_given log owner words homes place n value within stood cells = record {
    locks = length-set words (lock_word place) n ∙ (cells.locks ∙ ap (λ k. 16 + k) (sym (length-set homes place (some value))));
    home = λ p x at. ⊎_elim
        (λ here.
        (owner_here owner place 0 p here.0, subst (λ (z : ℕ × S). stands first log z.0 z.1) (λ i. (sym here.0 i, some-injective value x here.1 i)) stood))
        (λ there. let old = cells.home p x there.1 in (owner_else owner place 0 p there.0 ∙ old.0, old.1))
        (at_set homes place p (some value) (some x) at);
    out = λ p at. ⊎_elim (λ here. absurd (some-ne-none value here.1))
        (λ there. let old = cells.out p there.1 in (old.0, owner_else owner place 0 p there.0 ∙ old.1))
        (at_set homes place p (some value) none at);
    free = λ p lt is0. dite (ℕ_discrete p place)
        (λ is. (value, ap (λ q. get_elem? (set homes place (some value)) q) is ∙ set_here homes place (some value) within))
        (λ other. let old = cells.free p (let h = length-set homes place (some value) in omega (arith, lt, h))
        (sym (other_word words (lock_word place) (lock_word p) n (λ same. other (omega (arith, same)))) ∙ is0) in
        (old.0, set_else homes place p (some value) other ∙ old.1));
  }

  -- the history gets longer by what keeps the cells at home
  pub cells_longer : (log next : List E) (owner : ℕ → ℕ) (words : List ℕ) (homes : List (mathlib.Core.Option.Option S)) (n : ℕ)
      → ((p : ℕ) (x : S) → owner p ≡ 0 → stands first log p x → stands first next p x)
      → AreCells core_of draws legal stands first log owner words homes → AreCells core_of draws legal stands first next owner (set words 0 n) homes
  cells_longer log next owner words homes n kept cells = record {
    locks = length-set words 0 n ∙ cells.locks;
    home = λ p x at. let old = cells.home p x at in (old.0, kept p x old.0 old.1);
    out = cells.out;
    free = λ p lt is0. cells.free p lt (sym (other_word words 0 (lock_word p) n (λ same. omega (arith, same))) ∙ is0);
  }

  -- a seat that does not gather is a core's
  pub is_a_core : (log : List E) (owner : ℕ → ℕ) (hub : V) (views : List V) (id : ℕ) (v : V) → v.gathers ≡ false
      → AreViews core_of draws legal stands first log owner hub views
      → get_elem? views id ≡ some v → (core : ℕ) × (id ≡ suc core)
  is_a_core log owner hub views zero v not are at = let is : hub ≡ v = some-injective hub v (sym are.hub_first ∙ at) in
      absurd (true≢false (sym are.gathers ∙ (ap (λ (u : V). u.gathers) is ∙ not)))
  is_a_core log owner hub views (suc core) v not are at = (core, refl)

  -- a core whose list was not gathered is at work
  pub is_at_work : (log : List E) (owner : ℕ → ℕ) (hub : V) (views : List V) (core : ℕ) (v : V) → v.gone ≡ false
      → AreViews core_of draws legal stands first log owner hub views
      → get_elem? views (suc core) ≡ some v → IsAtWork core_of draws legal stands first core log hub v
  is_at_work log owner hub views core v not are at = ⊎_elim (λ gone. absurd (true≢false (sym gone.gone ∙ not))) (λ work. work) (are.hands core v at)

  -- what happens to the other cores where a core's view changes
  pub record AreOthers (log next : List E) (owner after : ℕ → ℕ) (hub : V) (views : List V) (core : ℕ) : Type 0 where
    pub lists_stay : (other : ℕ) → other < length hub.lists → entries_by core_of other next ≡ entries_by core_of other log
    pub saws_stay : (seen : List E) → IsPrefix seen log → IsPrefix seen next
    pub others : (other : ℕ) (u : V) → other ≢ core → get_elem? views (suc other) ≡ some u → IsAtWork core_of draws legal stands first other log hub u
        → IsAtWork core_of draws legal stands first other next hub u
    pub theirs : (other p : ℕ) (u : V) → other ≢ core → get_elem? views (suc other) ≡ some u → Has u.held p → owner p ≡ suc other → after p ≡ suc other
    pub back : (other p : ℕ) → other ≢ core → after p ≡ suc other → owner p ≡ suc other

  pub slice_within : {A : Type 0} (xs : List A) (k : ℕ) (x : A) → Rattle.std.specs.List.slice_get xs k ≡ Rattle.std.specs.Prelude.Some x → k < length xs
  slice_within xs k x e = Rattle.std.proofs.lemmas.Option.slice_get_within xs k x e

  -- a core's view changes
  pub views_set : (log next : List E) (owner after : ℕ → ℕ) (hub : V) (views : List V) (core : ℕ) (v w : V) → get_elem? views (suc core) ≡ some v
      → IsAtWork core_of draws legal stands first core next hub w → ((p : ℕ) → Has w.held p → after p ≡ suc core)
      → ((p : ℕ) → after p ≡ suc core → Has w.held p)
      → AreOthers log next owner after hub views core
      → AreViews core_of draws legal stands first log owner hub views → AreViews core_of draws legal stands first next after hub (set views (suc core) w)
  views_set log next owner after hub views core v w at work mine held rest are = record {
    hub_first = set_else views (suc core) 0 w (λ is. omega (arith, is)) ∙ are.hub_first;
    gathers = are.gathers;
    hub_knows = are.hub_knows;
    cores = length-set views (suc core) w ∙ are.cores;
    lists = λ c list is. are.lists c list is ∙ sym (rest.lists_stay c (slice_within hub.lists c list is));
    saws = λ c seen is. rest.saws_stay seen (are.saws c seen is);
    hands = λ c u there. ⊎_elim
        (λ here. inr (subst (λ (z : ℕ × V). IsAtWork core_of draws legal stands first z.0 next hub z.1) (λ i. (suc-same core c (sym here.0) i, here.1 i)) work))
        (λ else. ⊎_elim (λ gone. inl gone) (λ old. inr (rest.others c u (λ is. else.0 (ap suc is)) else.1 old)) (are.hands c u else.1))
        (at_set views (suc core) (suc c) w u there);
    owned = λ c p u there has. ⊎_elim
        (λ here. mine p (subst (λ (x : V). Has x.held p) (sym here.1) has) ∙ sym here.0)
        (λ else. rest.theirs c p u (λ is. else.0 (ap suc is)) else.1 has (are.owned c p u else.1 has))
        (at_set views (suc core) (suc c) w u there);
    holders = λ c p owned. dite (ℕ_discrete c core)
        (λ is. (
          w,
          ap (λ k. get_elem? (set views (suc core) w) (suc k)) is ∙ set_here views (suc core) w (get_elem_within views (suc core) v at),
          held p (owned ∙ ap suc is),
        ))
        (λ other. let old = are.holders c p (rest.back c p other owned) in (
          old.0,
          set_else views (suc core) (suc c) w (λ is. other (suc-same c core is)) ∙ old.1,
          old.2,
        ));
  }

  -- what a core owns it holds, if the view is the core's
  pub holder_is : (log : List E) (owner : ℕ → ℕ) (hub : V) (views : List V) (core p : ℕ) (v : V) → get_elem? views (suc core) ≡ some v
      → AreViews core_of draws legal stands first log owner hub views → owner p ≡ suc core → Has v.held p
  holder_is log owner hub views core p v at are owned = let holds = are.holders core p owned in
      let same : holds.0 ≡ v = some-injective holds.0 v (sym holds.1 ∙ at) in subst (λ (u : V). Has u.held p) same holds.2
