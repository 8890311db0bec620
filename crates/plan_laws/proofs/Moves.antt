-- The nodes that get and lose an inode by a plan are those that get and lose it by the fsync.
use Rattle.std.proofs.Common.{◌≡◌, ◌≢◌, ℕ, ◌+◌, Bool, true, false, cond, not, ◌&&◌, ◌||◌, List, [], ◌∷◌, map, inl, inr, refl, sym, ap, subst, ◌∙◌, arith, nat_eq, Contains}
use Rattle.std.specs.Prelude.{◌↔◌, All}
use Rattle.std.proofs.lemmas.Bool.{eqb-false}
use Rattle.sfs_base.proofs.BasicNumbers.{not_same, zero_plus}
use Rattle.sfs_base.proofs.BasicTruth.{and_first, and_second, not_true, not_both, true_or_false, or_true, true_not_false, false_not_true}
use Rattle.sfs_base.specs.Listed.{is_listed}
use Rattle.tree_laws.specs.declared.history.Entry.{Entry}
use Rattle.tree_laws.specs.NameRow.{node_number}
use Rattle.tree_laws.specs.Tree.{TreeState, kind_of}
use Rattle.tree_laws.proofs.Joined.{count-cons}
use Rattle.cut_laws.specs.Closure.{every_entry, AreInodesAfter}
use Rattle.cut_laws.specs.Cut.{Cut}
use Rattle.look_laws.specs.Look.{Look, Touches}
use Rattle.look_laws.specs.Laws.{FitsHistory, MakesCommit}
use Rattle.look_laws.specs.Made.{Found, AreMoved}
use Rattle.disk_change.specs.Directory.{is_among}
use Rattle.disk_change.specs.Links.{times_in}
use Rattle.keyed_list.specs.Ascending.{AscendBy}
use Rattle.disk_change.specs.Nodes.{enter_node}
use Rattle.disk_change.specs.declared.enter.Enter.{Enter}
use Rattle.commit_laws.specs.CommitOfPlan.{CommitPlan}
use Rattle.commit_laws.proofs.OwnInodes.{mapped_is_in}
use Rattle.commit_laws.proofs.SeatsOfPlan.{in_mapped, in_is_among, among_is_in}
use Rattle.flush_laws.specs.Planned.{HasMoves}
use Rattle.plan_laws.specs.Leads.{but_root}

pub named_but_root : (found : Found) (node : ℕ) → ((but_root found).named node ≡ true) ↔ ((node ≢ 0) × (found.named node ≡ true))
named_but_root found node = (
  λ named. (
    eqb-false node 0 (not_true (nat_eq node 0) (and_first (not (nat_eq node 0)) (found.named node) named)),
    and_second (not (nat_eq node 0)) (found.named node) named,
  ),
  λ (apart, named). ap (λ b. not b && found.named node) (not_same node 0 apart) ∙ named,
)

-- Where the root is seen with an inode, the same nodes move, since the root neither enters nor leaves.
module _ (look : Look) (lifted : ℕ → ℕ) (found : Found) (gets loses : ℕ → Bool) (root : Touches look 0 → look.inodes 0 ≡ true)
    (moved : AreMoved look lifted found gets loses) where
  not_root : (node : ℕ) → Touches look node → look.inodes node ≡ false → nat_eq node 0 ≡ false
  not_root node touches none = not_same node 0 (λ same. not_both (ap look.inodes same ∙ root (subst (Touches look) same touches)) none)

  -- of another node than the root the same is found
  alike : (node : ℕ) → nat_eq node 0 ≡ false → (but_root found).named node ≡ found.named node
  alike node other = ap (λ b. not b && found.named node) other

  pub moved_but_root : AreMoved look lifted (but_root found) gets loses
  moved_but_root = record {
    enters = λ node. (
      λ one. let is = (moved.enters node).0 one in
          (is.0, is.1, elim is.2 [ inl named ↦ inl (alike node (not_root node is.1 is.0) ∙ named) | inr own ↦ inr own ]),
      λ (none, touches, sees). (moved.enters node).1
          (none, touches, elim sees [ inl named ↦ inl (and_second (not (nat_eq node 0)) (found.named node) named) | inr own ↦ inr own ]),
    );
    leaves = λ node. (
      λ one. let is = (moved.leaves node).0 one in
          (is.0, is.1, record { no_root = is.2.no_root; unnamed = alike node (not_same node 0 is.2.no_root) ∙ is.2.unnamed; flushed = is.2.flushed }),
      λ (some, touches, dead). (moved.leaves node).1
          (some, touches, record { no_root = dead.no_root; unnamed = sym (alike node (not_same node 0 dead.no_root)) ∙ dead.unnamed; flushed = dead.flushed }),
    );
  }

-- the nodes with an inode, once some got one and others lost theirs
abbrev pub inodes_then : (ℕ → Bool) → (ℕ → Bool) → (ℕ → Bool) → ℕ → Bool
inodes_then inodes gets loses node = (inodes node && not (loses node)) || gets node

module _ (inodes gets loses : ℕ → Bool) where
  pub then_none : (node : ℕ) → inodes node ≡ false → inodes_then inodes gets loses node ≡ gets node
  then_none node none = ap (λ b. (b && not (loses node)) || gets node) none

  then_some : (node : ℕ) → inodes node ≡ true → gets node ≡ false → inodes_then inodes gets loses node ≡ not (loses node)
  then_some node some stays = ap (λ b. (b && not (loses node)) || gets node) some ∙ ap (λ b. not (loses node) || b) stays ∙ by (loses node)
    where
      by : (b : Bool) → (not b || false) ≡ not b
      by true = refl
      by false = refl

  pub gets_then : (node : ℕ) → gets node ≡ true → inodes_then inodes gets loses node ≡ true
  gets_then node one = ap (λ b. (inodes node && not (loses node)) || b) one ∙ or_true (inodes node && not (loses node))

-- a truth value that is false where another is true
not_when : (b : Bool) → (not b ≡ false) ↔ (b ≡ true)
not_when true = (λ _. refl, λ _. refl)
not_when false = (λ e. absurd (true_not_false e), λ e. absurd (false_not_true e))

module _ (first : TreeState) (history : List Entry) (cut raised : Cut) (inodes : ℕ → Bool) (look : Look) (lifted : ℕ → ℕ) (found : Found)
    (gets loses : ℕ → Bool)
    (alike_inodes : (node : ℕ) → Touches look node → look.inodes node ≡ inodes node) (fits : FitsHistory first history every_entry cut inodes look)
    (moved : AreMoved look lifted found gets loses)
    (makes : MakesCommit first history every_entry inodes look raised lifted gets loses) where
  abbrev after : ℕ → Bool
  after = inodes_then inodes gets loses

  -- a node with an inode gets none
  pub no_gain : (node : ℕ) → inodes node ≡ true → gets node ≡ false
  no_gain node some =
      elim (true_or_false (gets node)) [
        | inl one ↦ let is = (moved.enters node).0 one in
            absurd (not_both (alike_inodes node is.1 ∙ some) is.0)
        | inr none ↦ none
      ]

  pub lost_then : (node : ℕ) → (loses node ≡ true) ↔ ((inodes node ≡ true) × (after node ≡ false))
  lost_then node = (
    λ one. let is = (moved.leaves node).0 one in let some = sym (alike_inodes node is.1)
        ∙ is.0 in (some, then_some inodes gets loses node some (no_gain node some) ∙ (not_when (loses node)).1 one),
    λ (some, gone). (not_when (loses node)).0 (sym (then_some inodes gets loses node some (no_gain node some)) ∙ gone),
  )

  -- these are the nodes with an inode after the fsync
  pub sets : AreInodesAfter first history every_entry cut inodes look.flush raised after
  sets = record {
    enters = λ node none. (
      λ has.
          let one = sym (then_none inodes gets loses node none) ∙ has in
          let touches = ((moved.enters node).0 one).1 in
          ((fits.concerned node).0 touches, (makes.enters node touches none).0 one),
      λ (concerned, reached). then_none inodes gets loses node none ∙ (makes.enters node ((fits.concerned node).1 concerned) none).1 reached,
    );
    leaves = λ node some. (
      λ gone.
          let one = (lost_then node).1 (some, gone) in
          let touches = ((moved.leaves node).0 one).1 in
          ((fits.concerned node).0 touches, (makes.leaves node touches some).0 one),
      λ (concerned, dead). ((lost_then node).0 ((makes.leaves node ((fits.concerned node).1 concerned) some).1 dead)).1,
    );
  }

-- a number stands in a list some times exactly where it is among it
times_among : (numbers : List ℕ) (n : ℕ) → not (nat_eq (times_in numbers n) 0) ≡ is_among numbers n
times_among [] n = refl
times_among (m ∷ numbers) n = ap (λ k. not (nat_eq k 0)) (count-cons (λ other. nat_eq other n) m numbers) ∙ by (nat_eq m n) (times_among numbers n)
  where
    by : (b : Bool) → not (nat_eq (times_in numbers n) 0) ≡ is_among numbers n → not (nat_eq (cond b 1 0 + times_in numbers n) 0) ≡ (b || is_among numbers n)
    by true rest = ap not (not_same (1 + times_in numbers n) 0 (λ e. absurd (omega arith)))
    by false rest = ap (λ k. not (nat_eq k 0)) (zero_plus (times_in numbers n)) ∙ rest

-- what holds of all items holds of one of them
pub of_all : {X : Type 0} (P : X → Type 0) (xs : List X) → All P xs → (x : X) → Contains xs x → P x
of_all P xs all x (k, within, is) = subst P is (all k x within)

-- a plan's moves are those between the nodes with an inode before and after
pub moves_are : (new : TreeState) (inodes after : ℕ → Bool) (plan : CommitPlan) → AscendBy enter_node plan.enter
    → ((node : ℕ) → is_listed (map enter_node plan.enter) node ≡ true → (inodes node ≡ false) × (after node ≡ true))
    → ((node : ℕ) → inodes node ≡ false → after node ≡ true → is_listed (map enter_node plan.enter) node ≡ true)
    → ((node : ℕ) → (is_listed (map node_number plan.leave) node ≡ true) ↔ ((inodes node ≡ true) × (after node ≡ false)))
    → ((one : Enter) → Contains plan.enter one → one.kind ≡ kind_of new one.node.0)
    → HasMoves new inodes after plan
moves_are new inodes after plan up enters all leaves kinds = record {
  ascend = up;
  entering = λ one there. let is = enters one.node.0 (in_is_among (map enter_node plan.enter) one.node.0 (in_mapped enter_node plan.enter one there)) in
      (is.0, is.1, kinds one there);
  all_entering = λ node none has. mapped_is_in enter_node plan.enter node (among_is_in (map enter_node plan.enter) node (all node none has));
  leaving = λ node. let same = times_among (map node_number plan.leave) node in ((λ one. (leaves node).0 (sym same ∙ one)), (λ is. same ∙ (leaves node).1 is));
}
