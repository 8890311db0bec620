-- How the members grow: by a node, by nothing, by one step after the other.
use Rattle.std.proofs.Common.{◌≡◌, ℕ, ◌+◌, true, List, [], ◌∷◌, ◌++◌, length, take, get_or, ◌<◌, ◌⊎◌, inl, inr, refl, sym, ap, ◌∙◌, subst, arith, length-append}
use Rattle.std.specs.Ordering.{nat_cmp, match_ordering, is_eq}
use Rattle.std.specs.FinMap.{nat_cmp-IsAntisymmetric}
use Rattle.std.specs.List.Sorted.{IsStrictlySortedBy}
use Rattle.std.specs.Prelude.{◌||◌, ◌^◌, All}
use Rattle.std.proofs.lemmas.Map.Views.{All-insert_key}
use Rattle.std.specs.Cmp.{nat_cmp_is}
use Rattle.sfs_base.proofs.BasicTruth.{or_true}
use Rattle.std.specs.declared.cmp.Ordering.TheVariants.{Less, Equal, Greater}
use Rattle.std.specs.List.{list_any}
use Rattle.std.specs.BTreeMap.{is_at}
use Rattle.std.specs.BTreeSet.{insert_key, contains, IsOrdered, BTreeSet}
use Rattle.cut_laws.specs.Rules.{IsOneOf}
use Rattle.cut_laws.specs.Elements.{OfSome}
use Rattle.cut_laws.proofs.Listed.{one_more, still_one, next_one}
use Rattle.cut_laws.proofs.Basics.{in_left, in_right, in_either}
use Rattle.dep_closure.specs.declared.members.Found.{Found}
use Rattle.dep_closure.specs.Brought.{AddsTo, GrowsBy}

-- a number that is put among others
pub put_in : (numbers : List ℕ) (number : ℕ) → IsOneOf (insert_key nat_cmp numbers number) number
put_in [] number = inl refl
put_in (first ∷ rest) number =
    elim (nat_cmp number first) as (λ o. nat_cmp number first ≡ o
    → IsOneOf (match_ordering o (number ∷ first ∷ rest) (first ∷ rest) (first ∷ insert_key nat_cmp rest number)) number) [
      | Less ↦ λ is. inl refl
      | Equal ↦ λ is. inl (sym (nat_cmp-IsAntisymmetric number first is))
      | Greater ↦ λ is. inr (put_in rest number)
    ] refl

pub still_in : (numbers : List ℕ) (number other : ℕ) → IsOneOf numbers other → IsOneOf (insert_key nat_cmp numbers number) other
still_in [] number other one = absurd one
still_in (first ∷ rest) number other one =
    elim (nat_cmp number first) as (λ o. IsOneOf (match_ordering o (number ∷ first ∷ rest) (first ∷ rest) (first ∷ insert_key nat_cmp rest number)) other) [
      | Less ↦ inr one
      | Equal ↦ one
      | Greater ↦ elim one [ inl same ↦ inl same | inr later ↦ inr (still_in rest number other later) ]
    ]

pub was_in : (numbers : List ℕ) (number other : ℕ) → IsOneOf (insert_key nat_cmp numbers number) other → IsOneOf numbers other ⊎ (number ≡ other)
was_in [] number other one = elim one [ inl same ↦ inr same | inr none ↦ absurd none ]
was_in (first ∷ rest) number other one =
    elim (nat_cmp number first) as (λ o. IsOneOf (match_ordering o (number ∷ first ∷ rest) (first ∷ rest) (first ∷ insert_key nat_cmp rest number)) other
    → IsOneOf (first ∷ rest) other ⊎ (number ≡ other)) [
      | Less ↦ λ put. elim put [ inl same ↦ inr same | inr old ↦ inl old ]
      | Equal ↦ λ put. inl put
      | Greater ↦ λ put. elim put [
        | inl same ↦ inl (inl same)
        | inr later ↦ elim (was_in rest number other later) [ inl old ↦ inl (inr old) | inr same ↦ inr same ]
      ]
    ] one

-- whether a set has a number
pub has_one : (set : BTreeSet ℕ) (number : ℕ) → contains nat_cmp set number ≡ true → IsOneOf set.keys number
has_one set number = among set.keys
  where
    among : (keys : List ℕ) → list_any (is_at (nat_cmp number)) keys ≡ true → IsOneOf keys number
    among [] e = absurd (cc)
    among (first ∷ rest) e =
        elim (nat_cmp number first) as (λ o. nat_cmp number first ≡ o → (is_eq o || list_any (is_at (nat_cmp number)) rest) ≡ true
        → IsOneOf (first ∷ rest) number) [
          | Less ↦ λ is later. inr (among rest later)
          | Equal ↦ λ is here. inl (sym (nat_cmp-IsAntisymmetric number first is))
          | Greater ↦ λ is later. inr (among rest later)
        ] refl e

pub one_has : (set : BTreeSet ℕ) (number : ℕ) → IsOneOf set.keys number → contains nat_cmp set number ≡ true
one_has set number = among set.keys
  where
    among : (keys : List ℕ) → IsOneOf keys number → list_any (is_at (nat_cmp number)) keys ≡ true
    among [] one = absurd one
    among (first ∷ rest) one = elim one [
      | inl same ↦ ap (λ o. is_eq o || list_any (is_at (nat_cmp number)) rest) (sym (nat_cmp_is number first Equal (sym same)))
      | inr later ↦ ap (λ b. is_eq (nat_cmp number first) || b) (among rest later) ∙ or_true (is_eq (nat_cmp number first))
    ]

-- a set grows by nothing new
pub set_same : (old new : BTreeSet ℕ) (Comes : ℕ → Type 0) → new.keys ≡ old.keys → ((number : ℕ) → Comes number → IsOneOf old.keys number)
    → AddsTo old new Comes
set_same old new Comes keys there number = (
  λ one. inl (subst (λ l. IsOneOf l number) keys one),
  λ from. subst (λ l. IsOneOf l number) (sym keys) (elim from [ inl one ↦ one | inr comes ↦ there number comes ]),
)

-- by one number
pub set_one : (old new : BTreeSet ℕ) (number : ℕ) → new.keys ≡ insert_key nat_cmp old.keys number → AddsTo old new (λ other. number ≡ other)
set_one old new number keys other = (
  λ one. was_in old.keys number other (subst (λ l. IsOneOf l other) keys one),
  λ from. subst (λ l. IsOneOf l other) (sym keys) (elim from [
    | inl one ↦ still_in old.keys number other one
    | inr same ↦ subst (IsOneOf (insert_key nat_cmp old.keys number)) same (put_in old.keys number)
  ]),
)

-- by one step after the other
pub set_both : (start mid end : BTreeSet ℕ) (Comes Further : ℕ → Type 0) → AddsTo start mid Comes → AddsTo mid end Further
    → AddsTo start end (λ number. Comes number ⊎ Further number)
set_both start mid end Comes Further first second number = (
  λ one. elim ((second number).0 one) [
    | inl mid_one ↦ elim ((first number).0 mid_one) [ inl old ↦ inl old | inr early ↦ inr (inl early) ]
    | inr late ↦ inr (inr late)
  ],
  λ from. (second number).1 (elim from [
    | inl old ↦ inl ((first number).1 (inl old))
    | inr come ↦ elim come [ inl early ↦ inl ((first number).1 (inr early)) | inr late ↦ inr late ]
  ]),
)

-- and by the same numbers, said in another way
pub set_as : (old new : BTreeSet ℕ) (Comes Other : ℕ → Type 0) → AddsTo old new Comes → ((number : ℕ) → Comes number → Other number)
    → ((number : ℕ) → Other number → Comes number) → AddsTo old new Other
set_as old new Comes Other grows there back number = (
  λ one. elim ((grows number).0 one) [ inl old_one ↦ inl old_one | inr comes ↦ inr (there number comes) ],
  λ from. (grows number).1 (elim from [ inl old_one ↦ inl old_one | inr other ↦ inr (back number other) ]),
)

-- the members grow by nothing new
pub grows_same : (old new : Found) (Comes : ℕ → Type 0) → new.members.keys ≡ old.members.keys → new.due.items ≡ old.due.items
    → ((node : ℕ) → Comes node → IsOneOf old.members.keys node) → GrowsBy old new Comes
grows_same old new Comes keys due there = record {
  members = set_same old.members new.members Comes keys there;
  due_kept = λ node one. subst (λ l. IsOneOf l node) (sym due) one;
  due = λ node one. inl (subst (λ l. IsOneOf l node) keys one);
  due_only = λ node one. inl (subst (λ l. IsOneOf l node) due one);
  counted = let long = ap length keys in let many = ap length due in omega arith;
  longer = let long = ap length keys in omega arith;
  ordered = λ order. subst (IsStrictlySortedBy nat_cmp) (sym keys) order;
  small = λ small. subst (All (λ number. number < 2 ^ 32)) (sym keys) small;
}

-- by a node that was none of them
pub grows_one : (old new : Found) (node : ℕ) → node < 2 ^ 32 → new.members.keys ≡ insert_key nat_cmp old.members.keys node
    → length new.members.keys ≡ length old.members.keys + 1 → IsOrdered nat_cmp new.members → new.due.items ≡ old.due.items ++ node ∷ []
    → GrowsBy old new (λ other. node ≡ other)
grows_one old new node fits keys long order due = record {
  members = set_one old.members new.members node keys;
  due_kept = λ other one. subst (λ l. IsOneOf l other) (sym due) (in_left old.due.items (node ∷ []) other one);
  due = λ other one. elim (was_in old.members.keys node other (subst (λ l. IsOneOf l other) keys one)) [
    | inl old_one ↦ inl old_one
    | inr same ↦ inr (subst (λ l. IsOneOf l other) (sym due) (in_right old.due.items (node ∷ []) other (inl same)))
  ];
  due_only = λ other one. elim (in_either old.due.items (node ∷ []) other (subst (λ l. IsOneOf l other) due one)) [
    | inl old_one ↦ inl old_one
    | inr new_one ↦ elim new_one [
      | inl same ↦ inr ((set_one old.members new.members node keys other).1 (inr same))
      | inr none ↦ absurd none
    ]
  ];
  counted = let many = ap length due ∙ length-append old.due.items (node ∷ []) in omega arith;
  longer = omega arith;
  ordered = λ _. order;
  small = λ small. subst (All (λ number. number < 2 ^ 32)) (sym keys) (All-insert_key nat_cmp node (λ number. number < 2 ^ 32) old.members.keys small fits);
}

-- by one step after the other
pub grows_both : (start mid end : Found) (Comes Further : ℕ → Type 0) → GrowsBy start mid Comes → GrowsBy mid end Further
    → GrowsBy start end (λ node. Comes node ⊎ Further node)
grows_both start mid end Comes Further first second = record {
  members = set_both start.members mid.members end.members Comes Further first.members second.members;
  due_kept = λ node one. second.due_kept node (first.due_kept node one);
  due = λ node one. elim (second.due node one) [
    | inl mid_one ↦ elim (first.due node mid_one) [ inl old ↦ inl old | inr early ↦ inr (second.due_kept node early) ]
    | inr late ↦ inr late
  ];
  due_only = λ node one. elim (second.due_only node one) [
    | inl mid_one ↦ elim (first.due_only node mid_one) [ inl old ↦ inl old | inr early ↦ inr ((second.members node).1 (inl early)) ]
    | inr late ↦ inr late
  ];
  counted = let one = first.counted in let two = second.counted in omega arith;
  longer = let one = first.longer in let two = second.longer in omega arith;
  ordered = λ order. second.ordered (first.ordered order);
  small = λ small. second.small (first.small small);
}

-- and by the same nodes, said in another way
pub grows_as : (old new : Found) (Comes Other : ℕ → Type 0) → GrowsBy old new Comes → ((node : ℕ) → Comes node → Other node)
    → ((node : ℕ) → Other node → Comes node) → GrowsBy old new Other
grows_as old new Comes Other grows there back = record {
  members = set_as old.members new.members Comes Other grows.members there back;
  due_kept = grows.due_kept;
  due = grows.due;
  due_only = grows.due_only;
  counted = grows.counted;
  longer = grows.longer;
  ordered = grows.ordered;
  small = grows.small;
}

-- What grows so grows by what several things bring, one after the other.
module _ {S : Type 0} (By : S → S → (ℕ → Type 0) → Type 0)
    (both : (start mid end : S) (Comes Further : ℕ → Type 0) → By start mid Comes → By mid end Further → By start end (λ number. Comes number ⊎ Further number))
    (said : (old new : S) (Comes Other : ℕ → Type 0) → By old new Comes → ((number : ℕ) → Comes number → Other number)
    → ((number : ℕ) → Other number → Comes number) → By old new Other)
    {X : Type 0} (Brings : X → ℕ → Type 0) (things : List X) where
  pub by_one_more : (i : ℕ) (d thing : X) (start before after : S) → i < length things → thing ≡ get_or things i d
      → By start before (OfSome (take i things) Brings) → By before after (Brings thing) → By start after (OfSome (take (i + 1) things) Brings)
  by_one_more i d thing start before after within is first next =
      said start after (λ number. OfSome (take i things) Brings number ⊎ Brings thing number) (OfSome (take (i + 1) things) Brings)
      (both start before after (OfSome (take i things) Brings) (Brings thing) first next)
      (λ number come. elim come [
        | inl early ↦ (early.0, still_one things i d early.0 within early.1, early.2)
        | inr brings ↦
            (thing, next_one things i d thing within is, brings)
      ])
      (λ number some. elim (one_more things i d thing some.0 within is some.1) [
        | inl early ↦ inl (some.0, early, some.2)
        | inr same ↦
            inr (subst (λ (x : X). Brings x number) (sym same) some.2)
      ])

pub grows_more : {X : Type 0} (Brings : X → ℕ → Type 0) (things : List X) (i : ℕ) (d thing : X) (start before after : Found) → i < length things
    → thing ≡ get_or things i d
    → GrowsBy start before (OfSome (take i things) Brings) → GrowsBy before after (Brings thing) → GrowsBy start after (OfSome (take (i + 1) things) Brings)
grows_more = by_one_more GrowsBy grows_both grows_as

pub set_more : {X : Type 0} (Brings : X → ℕ → Type 0) (things : List X) (i : ℕ) (d thing : X) (start before after : BTreeSet ℕ) → i < length things
    → thing ≡ get_or things i d
    → AddsTo start before (OfSome (take i things) Brings) → AddsTo before after (Brings thing) → AddsTo start after (OfSome (take (i + 1) things) Brings)
set_more = by_one_more AddsTo set_both set_as
