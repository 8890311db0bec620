-- The fsyncs of some commits, in the order in which they became durable.
use Rattle.std.proofs.Common.{◌≡◌, ℕ, zero, suc, ◌<◌, ◌≤◌, Bool, true, false, cond, List, [], ◌∷◌, ◌++◌, take, Option, Some, None, ◌⊎◌, inl, inr, refl, ap, subst, ◌∙◌, nat_eq, arith}
use borrow.Author.Tests.{eqb-true, eq-eqb}
use Rattle.std.specs.Prelude.{slice_get, filter_map, max}
use Rattle.std.specs.List.{cons_option}
use Rattle.std.proofs.Math.Nat.{le-max_left, le-max_right, max-le}
use Rattle.std.proofs.lemmas.List.{append-nil}
use Rattle.std.proofs.lemmas.List.Elements.{filter_map-append}
use Rattle.tree_laws.specs.Tree.{TreeState}
use Rattle.cut_laws.specs.declared.event.Event.{Event}
use Rattle.cut_laws.specs.declared.event.Event.TheVariants as event
use Rattle.cut_laws.specs.Rules.{IsOneOf}
use Rattle.cut_laws.specs.Closure.{Flush}
use Rattle.cut_laws.specs.Machine.{MachineState}
use Rattle.cut_laws.specs.Runs.{IsRun, flush_by, IsBegun, flush_or, flush_of, durable_by}
use Rattle.cut_laws.proofs.Basics.{below_or, none_some}
use Rattle.sfs_base.proofs.BasicOptions.{some_same}
use Rattle.sfs_base.proofs.BasicNumbers.{not_less}
use Rattle.cut_laws.proofs.Begun.{one_flush}

-- the one at a place comes behind those before it
pub take_next : {X : Type 0} (xs : List X) (place : ℕ) (x : X) → slice_get xs place ≡ Some x → take (suc place) xs ≡ take place xs ++ x ∷ []
take_next [] place x e = none_some e
take_next (y ∷ xs) zero x e = ap (λ z. z ∷ []) (some_same e)
take_next (y ∷ xs) (suc place) x e = ap (λ l. y ∷ l) (take_next xs place x e)

-- one of the first ones stands at its place, and so the other way round
taken_at : {X : Type 0} (xs : List X) (n place : ℕ) (x : X) → slice_get (take n xs) place ≡ Some x → (place < n) × (slice_get xs place ≡ Some x)
taken_at xs zero place x e = none_some e
taken_at [] (suc n) place x e = none_some e
taken_at (y ∷ xs) (suc n) zero x e = (omega arith, e)
taken_at (y ∷ xs) (suc n) (suc place) x e = let rest = taken_at xs n place x e in let lt = rest.0 in (omega arith, rest.1)

at_taken : {X : Type 0} (xs : List X) (n place : ℕ) (x : X) → place < n → slice_get xs place ≡ Some x → slice_get (take n xs) place ≡ Some x
at_taken xs zero place x lt e = absurd (omega arith)
at_taken [] (suc n) place x lt e = none_some e
at_taken (y ∷ xs) (suc n) zero x lt e = e
at_taken (y ∷ xs) (suc n) (suc place) x lt e = at_taken xs n place x (omega arith) e

in_taken : {X : Type 0} (xs : List X) (few many : ℕ) (x : X) → few ≤ many → IsOneOf (take few xs) x → IsOneOf (take many xs) x
in_taken xs zero many x le one = absurd one
in_taken [] (suc few) many x le one = absurd one
in_taken (y ∷ xs) (suc few) zero x le one = absurd (omega arith)
in_taken (y ∷ xs) (suc few) (suc many) x le one = elim one [ inl same ↦ inl same | inr more ↦ inr (in_taken xs few many x (omega arith) more) ]

-- one of a list stands at a place
pub place_of_one : {X : Type 0} (xs : List X) (x : X) → IsOneOf xs x → (place : ℕ) × (slice_get xs place ≡ Some x)
place_of_one [] x one = absurd one
place_of_one (y ∷ xs) x one = elim one [ inl same ↦ (0, ap Some same) | inr rest ↦ let there = place_of_one xs x rest in (suc there.0, there.1) ]

-- what is given of a list is given of one of it, and so the other way round
given_by : {X Y : Type 0} (f : X → Option Y) (xs : List X) (y : Y) → IsOneOf (filter_map f xs) y → (x : X) × IsOneOf xs x × (f x ≡ Some y)
given_by f [] y one = absurd one
given_by {X} {Y} f (x ∷ xs) y one = elim (f x) as (λ o. f x ≡ o → IsOneOf (cons_option o (filter_map f xs)) y → (z : X) × IsOneOf (x ∷ xs) z × (f z ≡ Some y)) [
  | None ↦ λ _ h. let rest = given_by f xs y h in (rest.0, inr rest.1, rest.2)
  | Some z ↦ λ e h. elim h [
    | inl same ↦ (x, inl refl, e ∙ ap Some same)
    | inr more ↦ let rest = given_by f xs y more in (rest.0, inr rest.1, rest.2)
  ]
] refl one

is_given : {X Y : Type 0} (f : X → Option Y) (xs : List X) (x : X) (y : Y) → IsOneOf xs x → f x ≡ Some y → IsOneOf (filter_map f xs) y
is_given f [] x y one e = absurd one
is_given {X} {Y} f (z ∷ xs) x y one e = elim one [
  | inl same ↦ rw (ap f same ∙ e) (inl refl)
  | inr more ↦ elim (f z) as (λ o. IsOneOf (cons_option o (filter_map f xs)) y) [ None ↦ is_given f xs x y more e | Some w ↦ inr (is_given f xs x y more e) ]
]

begun_behind : (e : Event) (events : List Event) (place commit : ℕ) (flush : Flush) → IsBegun events place commit flush
    → IsBegun (e ∷ events) (suc place) commit flush
begun_behind e events place commit flush begun = record { event = begun.event; stands = begun.stands; begins = begun.begins }

-- the fsync of a commit is that of a commit that begins
of_begun : (events : List Event) (commit : ℕ) (flush : Flush) → flush_of events commit ≡ Some flush → (place : ℕ) × IsBegun events place commit flush
of_begun [] commit flush found = none_some found
of_begun (e ∷ events) commit flush found =
    elim (flush_by e) as (λ o. flush_by e ≡ o → flush_or o commit (flush_of events commit) ≡ Some flush
    → (place : ℕ) × IsBegun (e ∷ events) place commit flush) [
      | None ↦ λ _ h. onward (of_begun events commit flush h)
      | Some begun ↦
          λ by h. elim (nat_eq begun.0 commit) as (λ b. nat_eq begun.0 commit ≡ b → cond b (Some begun.1) (flush_of events commit) ≡ Some flush
          → (place : ℕ) × IsBegun (e ∷ events) place commit flush) [
            | true ↦
                λ t it. (
                  0,
                  record {
                    event = e;
                    stands = refl;
                    begins = by ∙ ap (λ (c : ℕ). Some (c, begun.1)) (eqb-true begun.0 commit t) ∙ ap (λ (f : Flush). Some (commit, f)) (some_same it);
                  },
                )
            | false ↦ λ _ it. onward (of_begun events commit flush it)
          ] refl h
    ] refl found
  where
    onward : (place : ℕ) × IsBegun events place commit flush → (place : ℕ) × IsBegun (e ∷ events) place commit flush
    onward rest = (suc rest.0, begun_behind e events rest.0 commit flush rest.1)

-- a commit that begins has an fsync
has_flush : (events : List Event) (place commit : ℕ) (flush : Flush) → IsBegun events place commit flush
    → (other : Flush) × (flush_of events commit ≡ Some other)
has_flush [] place commit flush begun = none_some begun.stands
has_flush (e ∷ events) zero commit flush begun =
    let by : flush_by e ≡ Some (commit, flush) = ap flush_by (some_same begun.stands) ∙ begun.begins in (
      flush,
      ap (λ (o : Option (ℕ × Flush)). flush_or o commit (flush_of events commit)) by
          ∙ ap (λ b. cond b (Some flush) (flush_of events commit)) (eq-eqb commit commit refl),
    )
has_flush (e ∷ events) (suc place) commit flush begun =
    let rest = has_flush events place commit flush (record { event = begun.event; stands = begun.stands; begins = begun.begins }) in
    elim (flush_by e) as (λ o. (other : Flush) × (flush_or o commit (flush_of events commit) ≡ Some other)) [
      | None ↦ rest
      | Some first ↦
          elim (nat_eq first.0 commit) as (λ b. (other : Flush) × (cond b (Some first.1) (flush_of events commit) ≡ Some other)) [
            | true ↦
                (first.1, refl)
            | false ↦ rest
          ]
    ]

-- A commit that is one of some, with its fsync.
pub record IsFsyncOf (events : List Event) (chosen : ℕ → Bool) (commit : ℕ) (flush : Flush) : Type 0 where
  pub is_chosen : chosen commit ≡ true
  pub own : flush_of events commit ≡ Some flush

-- An event by which one of some commits becomes durable.
record IsDurableBy (events : List Event) (chosen : ℕ → Bool) (e : Event) (flush : Flush) : Type 0 where
  pub commit : ℕ
  pub same : e ≡ event.Durable commit
  pub fsync : IsFsyncOf events chosen commit flush

is_durable_by : (events : List Event) (chosen : ℕ → Bool) (e : Event) (flush : Flush) → durable_by events chosen e ≡ Some flush
    → IsDurableBy events chosen e flush
is_durable_by events chosen (event.Call entry) flush e = none_some e
is_durable_by events chosen (event.CutAt commit node stamp) flush e = none_some e
is_durable_by events chosen (event.Opened commit) flush e = none_some e
is_durable_by events chosen (event.Fail commit) flush e = none_some e
is_durable_by events chosen (event.Crash kept) flush e = none_some e
is_durable_by events chosen (event.Durable commit) flush e =
    elim (chosen commit) as (λ b. chosen commit ≡ b → cond b (flush_of events commit) None ≡ Some flush
    → IsDurableBy events chosen (event.Durable commit) flush) [
      | true ↦ λ t own. record { commit = commit; same = refl; fsync = record { is_chosen = t; own = own } }
      | false ↦ λ _ none. none_some none
    ] refl e

pub not_chosen : (events : List Event) (chosen : ℕ → Bool) (commit : ℕ) → chosen commit ≡ false → durable_by events chosen (event.Durable commit) ≡ None
not_chosen events chosen commit is = ap (λ b. cond b (flush_of events commit) None) is

-- A commit that is one of some, begins before a place, and becomes durable before a count of events.
pub record IsChosen (events : List Event) (place so_many : ℕ) (chosen : ℕ → Bool) (flush : Flush) : Type 0 where
  pub commit : ℕ
  pub fsync : IsFsyncOf events chosen commit flush
  pub durable : ℕ
  pub stands : slice_get events durable ≡ Some (event.Durable commit)
  pub earlier : durable < so_many
  pub begin : ℕ
  pub before : begin < place
  pub begun : IsBegun events begin commit flush

module _ (first : TreeState) (events : List Event) (states : ℕ → MachineState) (run : IsRun first events states) (place : ℕ) (chosen : ℕ → Bool) where
  -- the fsyncs that became durable in the first events
  abbrev pub so_far : ℕ → List Flush
  so_far so_many = filter_map (durable_by (take place events) chosen) (take so_many events)

  begun_before : (begin commit : ℕ) (flush : Flush) → IsBegun (take place events) begin commit flush → (begin < place) × IsBegun events begin commit flush
  begun_before begin commit flush begun =
      let at = taken_at events place begin begun.event begun.stands in
      (at.0, record { event = begun.event; stands = at.1; begins = begun.begins })

  -- in a run a commit's fsync is the one for which it begins
  own_flush : (begin commit : ℕ) (flush : Flush) → IsBegun events begin commit flush → flush_of events commit ≡ Some flush
  own_flush begin commit flush begun =
      let has = has_flush events begin commit flush begun in
      let there = of_begun events commit has.0 has.1 in
      has.1 ∙ ap Some (one_flush first events states run there.0 begin commit has.0 flush there.1 begun)

  own_flush_before : (begin commit : ℕ) (flush : Flush) → begin < place → IsBegun events begin commit flush → flush_of (take place events) commit ≡ Some flush
  own_flush_before begin commit flush lt begun =
      let has =
      has_flush (take place events) begin commit flush
      (record { event = begun.event; stands = at_taken events place begin begun.event lt begun.stands; begins = begun.begins }) in
      let there = of_begun (take place events) commit has.0 has.1 in
      has.1 ∙ ap Some (one_flush first events states run there.0 begin commit has.0 flush (begun_before there.0 commit has.0 there.1).1 begun)

  -- each of them is one of the commits
  pub each_chosen : (so_many : ℕ) (flush : Flush) → IsOneOf (so_far so_many) flush → IsChosen events place so_many chosen flush
  each_chosen so_many flush one =
      let given = given_by (durable_by (take place events) chosen) (take so_many events) flush one in
      let by = is_durable_by (take place events) chosen given.0 flush given.2 in
      let there = of_begun (take place events) by.commit flush by.fsync.own in
      let begun = begun_before there.0 by.commit flush there.1 in
      let place_of = place_of_one (take so_many events) given.0 given.1 in
      let at = taken_at events so_many place_of.0 given.0 place_of.1 in
      record {
        commit = by.commit;
        fsync = record { is_chosen = by.fsync.is_chosen; own = own_flush there.0 by.commit flush begun.1 };
        durable = place_of.0;
        stands = at.1 ∙ ap Some by.same;
        earlier = at.0;
        begin = there.0;
        before = begun.0;
        begun = begun.1;
      }

  -- with more events there are more of them
  pub more_so_far : (few many : ℕ) → few ≤ many → (flush : Flush) → IsOneOf (so_far few) flush → IsOneOf (so_far many) flush
  more_so_far few many le flush one =
      let given = given_by (durable_by (take place events) chosen) (take few events) flush one in
      is_given (durable_by (take place events) chosen) (take many events) given.0 flush (in_taken events few many given.0 le given.1) given.2

  next_so_far : (so_many : ℕ) (e : Event) → slice_get events so_many ≡ Some e
      → so_far (suc so_many) ≡ so_far so_many ++ cons_option (durable_by (take place events) chosen e) []
  next_so_far so_many e stands =
      ap (filter_map (durable_by (take place events) chosen)) (take_next events so_many e stands)
      ∙ filter_map-append (durable_by (take place events) chosen) (take so_many events) (e ∷ [])

  -- an event by which none of them becomes durable leaves them
  pub none_more : (so_many : ℕ) (e : Event) → slice_get events so_many ≡ Some e → durable_by (take place events) chosen e ≡ None
      → so_far (suc so_many) ≡ so_far so_many
  none_more so_many e stands none = next_so_far so_many e stands ∙ ap (λ o. so_far so_many ++ cons_option o []) none ∙ append-nil (so_far so_many)

  -- and the fsync of one that does comes behind them
  pub one_durable : (so_many commit begin : ℕ) (flush : Flush) → slice_get events so_many ≡ Some (event.Durable commit) → chosen commit ≡ true → begin < place
      → IsBegun events begin commit flush → so_far (suc so_many) ≡ so_far so_many ++ flush ∷ []
  one_durable so_many commit begin flush stands is lt begun =
      next_so_far so_many (event.Durable commit) stands
      ∙ ap (λ o. so_far so_many ++ cons_option o [])
      (ap (λ b. cond b (flush_of (take place events) commit) None) is ∙ own_flush_before begin commit flush lt begun)

-- the greatest stamp of some fsyncs
abbrev pub greatest : List Flush → ℕ
greatest [] = 0
greatest (flush ∷ flushes) = max flush.stamp (greatest flushes)

pub at_most_greatest : (flushes : List Flush) (flush : Flush) → IsOneOf flushes flush → flush.stamp ≤ greatest flushes
at_most_greatest [] flush one = absurd one
at_most_greatest (other ∷ flushes) flush one = elim one [
  | inl same ↦ subst (λ (f : Flush). f.stamp ≤ max other.stamp (greatest flushes)) same (le-max_left other.stamp (greatest flushes))
  | inr more ↦ let le = at_most_greatest flushes flush more in let up = le-max_right other.stamp (greatest flushes) in omega arith
]

pub greatest_least : (flushes : List Flush) (n : ℕ) → ((flush : Flush) → IsOneOf flushes flush → flush.stamp ≤ n) → greatest flushes ≤ n
greatest_least [] n low = omega arith
greatest_least (flush ∷ flushes) n low = max-le (low flush (inl refl)) (greatest_least flushes n (λ other one. low other (inr one)))

-- what lies below the greater of two lies below one of them
pub below_greater : (t a b : ℕ) → t < max a b → (t < a) ⊎ (t < b)
below_greater t a b lt = elim (below_or t a) [
  | inl less ↦ inl less
  | inr le ↦ elim (below_or t b) [ inl less ↦ inr less | inr more ↦ absurd (let most = max-le le more in not_less lt most) ]
]

pub below_greatest : (flushes : List Flush) (t : ℕ) → t < greatest flushes → (flush : Flush) × IsOneOf flushes flush × (t < flush.stamp)
below_greatest [] t lt = absurd (omega arith)
below_greatest (flush ∷ flushes) t lt = elim (below_greater t flush.stamp (greatest flushes) lt) [
  | inl less ↦ (flush, inl refl, less)
  | inr more ↦ let rest = below_greatest flushes t more in (rest.0, inr rest.1, rest.2)
]
