-- Members that are followed until none is due are those that a look gathers.
use Rattle.std.proofs.Common.{◌≡◌, ℕ, ◌+◌, ◌*◌, ◌-◌, ◌^◌, ◌<◌, true, false, List, [], ◌∷◌, ◌++◌, length, length-append, ◌⊎◌, ◌↔◌, inl, inr, refl, sym, ap, ◌∙◌, subst, arith, nat_eq}
use Rattle.std.specs.Prelude.{◌||◌, All}
use Rattle.std.proofs.lemmas.List.Elements.{All-nil}
use Rattle.std.proofs.lemmas.Map.Views.{length-le_from_below}
use Rattle.std.specs.Ordering.{nat_cmp}
use Rattle.std.specs.BTreeSet.{IsOrdered}
use Rattle.std.specs.List.Sorted.{IsStrictlySortedBy}
use borrow.Author.Tests.{eqb-true}
use Rattle.sfs_base.specs.Listed.{is_listed}
use Rattle.sfs_base.proofs.BasicNumbers.{same_number}
use Rattle.sfs_base.proofs.BasicTruth.{or_true}
use Rattle.cut_laws.specs.Rules.{IsOneOf}
use Rattle.cut_laws.proofs.Basics.{in_left, in_right, in_either}
use Rattle.look_laws.specs.Look.{Look, Gathers, itself, other_side, ended, ancestor, birth_place}
use Rattle.dep_closure.specs.declared.members.Found.{Found}
use Rattle.dep_closure.specs.Brought.{ChangeBrings, MemberBrings, GrowsBy}

-- what a gathered node brings in is gathered
pub brought : (look : Look) (member node : ℕ) → Gathers look member → MemberBrings look member node → Gathers look node
brought look member node gathered (inl span) = by span.brings
  where
    own : Gathers look span.noted.change.directory
    own = subst (Gathers look) (sym span.own) gathered

    by : ChangeBrings span.noted node → Gathers look node
    by (inl other) = other_side span.noted node own span.in_sight other
    by (inr (inl (ends, child))) = subst (Gathers look) child (ended span.noted own span.in_sight ends)
    by (inr (inr above)) = ancestor span.noted node own span.in_sight above
brought look member node gathered (inr birth) = birth_place (record { node = member; directory = node }) gathered birth.born birth.no_inode birth.naming

-- what has the fsync's node and all that its nodes bring in has all that is gathered
pub all_gathered : (look : Look) (Has : ℕ → Type 0) → Has look.flush.node → ((member node : ℕ) → Has member → MemberBrings look member node → Has node)
    → (node : ℕ) → Gathers look node → Has node
all_gathered look Has start closed node itself = start
all_gathered look Has start closed node (other_side noted other own sight two) =
    closed noted.change.directory other (all_gathered look Has start closed noted.change.directory own)
    (inl (record { noted = noted; in_sight = sight; own = refl; brings = inl two }))
all_gathered look Has start closed node (ended noted own sight ends) =
    closed noted.change.directory noted.change.child (all_gathered look Has start closed noted.change.directory own)
    (inl (record { noted = noted; in_sight = sight; own = refl; brings = inr (inl (ends, refl)) }))
all_gathered look Has start closed node (ancestor noted other own sight among) =
    closed noted.change.directory other (all_gathered look Has start closed noted.change.directory own)
    (inl (record { noted = noted; in_sight = sight; own = refl; brings = inr (inr among) }))
all_gathered look Has start closed node (birth_place born own one lacks sees) =
    closed born.node born.directory (all_gathered look Has start closed born.node own) (inr (record { born = one; no_inode = lacks; naming = sees }))

-- The members so far: each is gathered, the fsync's node is one, each that is due is one, and all that another one brings in are.
pub record Closes (look : Look) (found : Found) : Type 0 where
  pub sound : (node : ℕ) → IsOneOf found.members.keys node → Gathers look node
  pub start : IsOneOf found.members.keys look.flush.node
  pub due : (node : ℕ) → IsOneOf found.due.items node → IsOneOf found.members.keys node
  pub followed : (member : ℕ) → IsOneOf found.members.keys member
      → IsOneOf found.due.items member ⊎ ((node : ℕ) → MemberBrings look member node → IsOneOf found.members.keys node)
  pub ordered : IsOrdered nat_cmp found.members
  pub small : All (λ number. number < 2 ^ 32) found.members.keys

-- at first the fsync's node alone
pub closes_first : (look : Look) (empty found : Found) → empty.members.keys ≡ [] → empty.due.items ≡ [] → IsOrdered nat_cmp empty.members
    → GrowsBy empty found (λ node. look.flush.node ≡ node) → Closes look found
closes_first look empty found none none_due order grows = record {
  sound = λ node one. subst (Gathers look) (first node one) itself;
  start = (grows.members look.flush.node).1 (inr refl);
  due = λ node one. elim (grows.due_only node one) [ inl old ↦ absurd (subst (λ l. IsOneOf l node) none_due old) | inr new ↦ new ];
  followed = λ member one. inl (elim (grows.due member one) [ inl old ↦ absurd (subst (λ l. IsOneOf l member) none old) | inr new ↦ new ]);
  ordered = grows.ordered order;
  small = grows.small (subst (All (λ number. number < 2 ^ 32)) (sym none) (All-nil (λ number. number < 2 ^ 32)));
}
  where
    first : (node : ℕ) → IsOneOf found.members.keys node → look.flush.node ≡ node
    first node one = elim ((grows.members node).0 one) [ inl old ↦ absurd (subst (λ l. IsOneOf l node) none old) | inr same ↦ same ]

-- one of them was due and is followed
pub closes_next : (look : Look) (old mid new : Found) (member : ℕ) → Closes look old → mid.members.keys ≡ old.members.keys
    → old.due.items ≡ mid.due.items ++ member ∷ [] → GrowsBy mid new (MemberBrings look member) → Closes look new
closes_next look old mid new member closes keys due grows = record {
  sound = λ node one. elim ((grows.members node).0 one) [
    | inl there ↦ closes.sound node (subst (λ l. IsOneOf l node) keys there)
    | inr brings ↦ brought look member node (closes.sound member member_old) brings
  ];
  start = still look.flush.node closes.start;
  due = λ node one. elim (grows.due_only node one) [
    | inl waits ↦ still node (closes.due node (subst (λ l. IsOneOf l node) (sym due) (in_left mid.due.items (member ∷ []) node waits)))
    | inr new_one ↦ new_one
  ];
  followed = λ other one. elim (grows.due other one) [
    | inr waits ↦ inl waits
    | inl there ↦ elim (closes.followed other (subst (λ l. IsOneOf l other) keys there)) [
      | inr done ↦ inr (λ node brings. still node (done node brings))
      | inl waited ↦ elim (in_either mid.due.items (member ∷ []) other (subst (λ l. IsOneOf l other) due waited)) [
        | inl waits ↦ inl (grows.due_kept other waits)
        | inr own ↦ elim own [
          | inl same ↦ inr (λ node brings. (grows.members node).1 (inr (subst (λ n. MemberBrings look n node) (sym same) brings)))
          | inr none ↦ absurd none
        ]
      ]
    ]
  ];
  ordered = grows.ordered (subst (IsStrictlySortedBy nat_cmp) (sym keys) closes.ordered);
  small = grows.small (subst (All (λ number. number < 2 ^ 32)) (sym keys) closes.small);
}
  where
    still : (node : ℕ) → IsOneOf old.members.keys node → IsOneOf new.members.keys node
    still node one = (grows.members node).1 (inl (subst (λ l. IsOneOf l node) (sym keys) one))

    member_old : IsOneOf old.members.keys member
    member_old = closes.due member (subst (λ l. IsOneOf l member) (sym due) (in_right mid.due.items (member ∷ []) member (inl refl)))

-- and what is left to be done is less
pub closes_sooner : (look : Look) (old mid new : Found) (member : ℕ) → Closes look new → mid.members.keys ≡ old.members.keys
    → old.due.items ≡ mid.due.items ++ member ∷ [] → GrowsBy mid new (MemberBrings look member)
    → 2 * (2 ^ 32 - length new.members.keys) + length new.due.items < 2 * (2 ^ 32 - length old.members.keys) + length old.due.items
closes_sooner look old mid new member closes keys due grows =
    let many = ap length keys in
    let waits = ap length due ∙ length-append mid.due.items (member ∷ []) in
    let few = length-le_from_below (2 ^ 32) new.members.keys closes.ordered closes.small in
    let counted = grows.counted in
    let longer = grows.longer in
    omega arith

-- at last none is due, and they are all that are gathered
pub closes_last : (look : Look) (found : Found) → Closes look found → found.due.items ≡ [] → (node : ℕ) → IsOneOf found.members.keys node ↔ Gathers look node
closes_last look found closes none node = (
  closes.sound node,
  all_gathered look (IsOneOf found.members.keys) closes.start (λ member other one brings. elim (closes.followed member one) [
    | inl waits ↦ absurd (subst (λ l. IsOneOf l member) none waits)
    | inr done ↦ done other brings
  ]) node,
)
