-- What the steps on a table's words ask, in the words of the code.
use Rattle.std.proofs.Common.{◌≡◌, ℕ, ◌+◌, ◌^◌, ◌%◌, ◌<◌, eqb, false, List, Option, Some, MatchBool, nat_eq, sym, refl, subst, arith, eq-eqb, ne_eqb, get_or}
use mathlib.Core.Logic.{dite}
use native.Mathlib.Decide.{ℕ_discrete}
use prog.Atomic.{either}
use Rattle.atomic_table.specs.Table.{State, Me, Allows, carried_after, rest}
use Rattle.tree_laws.specs.Tree.{TreeState}
use Rattle.tree_laws.specs.declared.history.Entry.{Entry}
use Rattle.stamp_table.specs.declared.event.Event.{Event}
use Rattle.stamp_table.specs.declared.event.Event.TheVariants.{Called}
use Rattle.stamp_table.specs.Rule.{lock_word, Kept}
use Rattle.stamp_table.specs.Steps.{MayTake, Gave, Adds}
use Rattle.stamp_table.specs.Events.{event_core, is_call, told_by, SeatView, LawfulFrom, StandsFrom}
use Rattle.stamp_table.specs.Table.{TakesCell, GoesHome, MayDrawEntry, AddsEntry, MayTellNow, LooksNow}
use Rattle.stamp_table.proofs.Taking.{may_take_word, locked_not_0, may_give}
use Rattle.stamp_table.proofs.Drawing.{may_draw, may_tell}
use Rattle.stamp_table.proofs.Looking.{may_look}

module _ {C X G : Type 0} (lawful : G → TreeState → List (Event X) → Type 0) (stands : G → TreeState → List (Event X) → ℕ → C → Type 0) where
  abbrev Tells : ℕ → Me (Option C) (SeatView G X) → ℕ → Me (Option C) (SeatView G X) → Type 0
  Tells word me n m = (p : ℕ) → word ≡ lock_word p → MayTake event_core is_call (LawfulFrom lawful) (StandsFrom stands) p me n m

  -- what is told of a cell that was taken or not
  pub took_or_not : (word place found : ℕ) (me m : Me (Option C) (SeatView G X)) → word ≡ lock_word place → Tells word me found m
      → MatchBool (nat_eq found 0) (TakesCell lawful stands place me m) (m ≡ me)
  took_or_not word place found me m is tells = let t = tells place is in dite (ℕ_discrete found 0)
      (λ zero_found. rw (eq-eqb found 0 zero_found) (t.0 zero_found)) (λ not. rw (ne_eqb found 0 not) (t.1 not))

module _ {C X G : Type 0} (lawful : G → TreeState → List (Event X) → Type 0) (stands : G → TreeState → List (Event X) → ℕ → C → Type 0)
    (start : TreeState × G)
    (slots : ℕ) where
  abbrev V : Type 0
  V = SeatView G X

  abbrev Holds : State (Option C) V → Type 0
  Holds = Kept event_core is_call (LawfulFrom lawful) (StandsFrom stands) start

  -- the lock word may go from 0 to 1
  pub asks_take : (word place id : ℕ) (me : Me (Option C) V) → me.0.gone ≡ false → me.0.gathers ≡ false → place < slots → word ≡ lock_word place
      → Allows Holds slots id me word (λ n. either (eqb n 0) 1 n) (Tells lawful stands word me)
  asks_take word place id me lives calls within is =
      may_take_word event_core is_call (LawfulFrom lawful) (StandsFrom stands) start slots id word place me
      (λ n. either (eqb n 0) 1 n) lives calls within locked_not_0 is

  -- the lock word may become 2
  pub asks_wait : (word place id : ℕ) (me : Me (Option C) V) → me.0.gone ≡ false → me.0.gathers ≡ false → place < slots → word ≡ lock_word place
      → Allows Holds slots id me word (λ _. 2) (Tells lawful stands word me)
  asks_wait word place id me lives calls within is =
      may_take_word event_core is_call (LawfulFrom lawful) (StandsFrom stands) start slots id word place me (λ _. 2) lives calls within
      (λ n two. omega (arith, two)) is

  -- the lock word may become 0, with the value at home
  pub asks_give : (word place id : ℕ) (me : Me (Option C) V) → me.0.gone ≡ false → me.0.gathers ≡ false → place < slots → word ≡ lock_word place
      → GoesHome lawful stands place me
      → Allows Holds slots id me word (λ _. 0) (λ _. Gave me)
  asks_give word place id me lives calls within is home = let value = home.top.0 in
      subst (λ (z : ℕ × List (ℕ × Option C)). Allows Holds slots id (me.0, z.1) z.0 (λ _. 0) (λ _. Gave (me.0, z.1))) (λ i. (sym is i, sym home.top.1 i))
      (may_give event_core is_call (LawfulFrom lawful) (StandsFrom stands) start slots id place me.0 (Some value) (rest me.1)
      (record { lives = lives; calls = calls; holds = home.holds; once = home.once; stood = home.top.2 }) within)

  -- the stamp word may count one more
  pub asks_draw : (id : ℕ) (me : Me (Option C) V) (entry : ℕ → Entry) → me.0.gone ≡ false → me.0.gathers ≡ false → MayDrawEntry lawful stands me.0 entry
      → Allows Holds slots id me 0 (λ n. (n + 1) % 2 ^ 64) (AddsEntry lawful stands entry me)
  asks_draw id me entry lives calls may =
      may_draw event_core is_call (LawfulFrom lawful) (StandsFrom stands) start slots id me.0 me.1 (λ number. Called (entry number))
      (record { lives = lives; calls = calls; own = may.own; few = λ number is. may.few; asks = may.may }) (λ number. refl)

  -- the stamp word may stay as a fact is told
  pub asks_tell : (id : ℕ) (me : Me (Option C) V) (fact : X) → me.0.gone ≡ false → me.0.gathers ≡ false → MayTellNow lawful stands me.0 fact
      → Allows Holds slots id me 0 (λ n. n) (Adds event_core is_call (LawfulFrom lawful) (StandsFrom stands) (told_by me.0.core fact) me)
  asks_tell id me fact lives calls may = may_tell event_core is_call (LawfulFrom lawful) (StandsFrom stands) start slots id me.0 me.1 (told_by me.0.core fact)
      (record { lives = lives; calls = calls; own = λ number. refl; few = λ number is. absurd (cc is); asks = may }) (λ number. refl)

  -- the same, of the fact that was picked
  pub asks_tell_picked : (id : ℕ) (me : Me (Option C) V) (picked : Option X) (fact : X) → me.0.gone ≡ false → me.0.gathers ≡ false → picked ≡ Some fact
      → MayTellNow lawful stands me.0 fact
      → Allows Holds slots id me 0 (λ n. n)
      (λ n m. (x : X) → picked ≡ Some x → Adds event_core is_call (LawfulFrom lawful) (StandsFrom stands) (told_by me.0.core x) me n m)
  asks_tell_picked id me picked fact lives calls is may s holds wide at lt = let r = asks_tell id me fact lives calls may s holds wide at lt in (
    r.0,
    r.1,
    r.2,
    r.3,
    λ x other. let same : fact ≡ x = cc (is, other) in
        subst (λ (y : X). Adds event_core is_call (LawfulFrom lawful) (StandsFrom stands) (told_by me.0.core y) me (get_or s.words 0 0)
        (r.0, carried_after me.1 r.1))
        same r.4,
  )

  -- the stamp word may stay as a core looks at it
  pub asks_look : (id : ℕ) (me : Me (Option C) V) → me.0.gone ≡ false → me.0.gathers ≡ false → Allows Holds slots id me 0 (λ n. n) (LooksNow lawful stands me)
  asks_look id me lives calls = may_look event_core is_call (LawfulFrom lawful) (StandsFrom stands) start slots id me.0 me.1 lives calls
