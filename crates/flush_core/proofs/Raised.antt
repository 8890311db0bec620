-- What an fsync leaves: the raised cut, and the nodes that have an inode.
use Rattle.std.proofs.Common.{◌≡◌, ◌≢◌, ℕ, ◌+◌, ◌<◌, ◌≤◌, Bool, true, false, List, length, take, get_or, ◌↔◌, ◌⊎◌, inl, inr, refl, sym, ap, subst, ◌∙◌, nat_eq, nat_lt, arith}
use Rattle.std.proofs.lemmas.List.{take_all}
use Rattle.std.specs.Prelude.{max, if◌then◌else◌}
use borrow.Author.Tests.{eqb-true, eqb-false, ltb-true, ltb-false}
use Rattle.tree_laws.specs.declared.history.Entry.{Entry}
use Rattle.tree_laws.specs.Tree.{TreeState, is_directory}
use Rattle.tree_laws.specs.Changes.{RowChange}
use Rattle.flush_core.specs.declared.past.Past.{Past}
use Rattle.flush_core.specs.declared.sets.NodeSet.{NodeSet}
use Rattle.cut_laws.specs.Cut.{Cut, cut_of, IsWithin}
use Rattle.cut_laws.specs.Rules.{IsOneOf}
use Rattle.cut_laws.specs.Closure.{every_entry, Flush, IsConcerned, IsReached, IsDead, AreInodesAfter}
use Rattle.flush_core.specs.Past.{IsPast}
use Rattle.flush_core.specs.Stamps.{at_least}
use Rattle.flush_core.specs.NodeSets.{has_node, with_member}
use Rattle.flush_core.specs.Engine.{RaisesThose}
use Rattle.flush_core.specs.Members.{AreConcerned}
use Rattle.flush_core.specs.Named.{AreNamed}
use Rattle.flush_core.specs.Inodes.{GetsInode, LosesInode, Settles}
use Rattle.sfs_base.proofs.BasicTruth.{not_both}
use Rattle.cut_laws.proofs.Listed.{one_more, still_one, next_one}
use Rattle.flush_core.proofs.Marks.{with_in, with_other}
use Rattle.flush_core.proofs.Required.{naming_is, is_naming}

-- a number is another one or not
same_or_not : (x y : ℕ) → (y ≡ x) ⊎ (x ≢ y)
same_or_not x y =
    elim (nat_eq x y) as (λ b. nat_eq x y ≡ b → (y ≡ x) ⊎ (x ≢ y)) [ true ↦ λ e. inl (sym (eqb-true _ _ e)) | false ↦ λ e. inr (eqb-false _ _ e) ] refl

-- one more node's stamp is raised
raised_here : (x stamp : ℕ) (nodes : ℕ → ℕ) → at_least x stamp nodes x ≡ max (nodes x) stamp
raised_here x stamp nodes = elim (nat_eq x x) as (λ b. nat_eq x x ≡ b → (if b then max (nodes x) stamp else nodes x) ≡ max (nodes x) stamp) [
  | true ↦ λ _. refl
  | false ↦ λ e. absurd (eqb-false _ _ e refl)
] refl

raised_there : (x node stamp : ℕ) (nodes : ℕ → ℕ) → x ≢ node → at_least node stamp nodes x ≡ nodes x
raised_there x node stamp nodes differ = elim (nat_eq x node) as (λ b. nat_eq x node ≡ b → (if b then max (nodes x) stamp else nodes x) ≡ nodes x) [
  | true ↦ λ e. absurd (differ (eqb-true _ _ e))
  | false ↦ λ _. refl
] refl

pub raise_more : (cut before after : Cut) (nodes : List ℕ) (i d v stamp : ℕ) → i < length nodes → v ≡ get_or nodes i d
    → RaisesThose cut (take i nodes) stamp before → ((x : ℕ) → cut_of after x ≡ at_least v stamp (cut_of before) x)
    → RaisesThose cut (take (i + 1) nodes) stamp after
raise_more cut before after nodes i d v stamp lt is raises step = record { one = one; other = other }
  where
    here : (x : ℕ) → v ≡ x → cut_of after x ≡ max (cut_of before x) stamp
    here x e = step x ∙ ap (λ n. at_least n stamp (cut_of before) x) e ∙ raised_here x stamp (cut_of before)

    there : (x : ℕ) → x ≢ v → cut_of after x ≡ cut_of before x
    there x differ = step x ∙ raised_there x v stamp (cut_of before) differ

    again : (a b c : ℕ) → a ≡ max b stamp → c ≡ max a stamp → c ≡ max b stamp
    again a b c e f = omega arith

    one : (x : ℕ) → IsOneOf (take (i + 1) nodes) x → cut_of after x ≡ max (cut_of cut x) stamp
    one x in_list = elim (same_or_not x v) [
      | inl e ↦ elim (raises.other x) [
        | inl raised ↦ again (cut_of before x) (cut_of cut x) (cut_of after x) (raises.one x raised) (here x e)
        | inr same ↦ here x e ∙ ap (λ n. max n stamp) same
      ]
      | inr differ ↦ elim (one_more nodes i d v x lt is in_list) [
        | inl raised ↦ there x differ ∙ raises.one x raised
        | inr e ↦ absurd (differ (sym e))
      ]
    ]

    other : (x : ℕ) → IsOneOf (take (i + 1) nodes) x ⊎ (cut_of after x ≡ cut_of cut x)
    other x = elim (same_or_not x v) [
      | inl e ↦ inl (rw e at (next_one nodes i d v lt is))
      | inr differ ↦ elim (raises.other x) [
        | inl raised ↦ inl (still_one nodes i d x lt raised)
        | inr same ↦ inr (there x differ ∙ same)
      ]
    ]

pub raise_none : (cut : Cut) (nodes : List ℕ) (stamp : ℕ) → RaisesThose cut (take 0 nodes) stamp cut
raise_none cut nodes stamp = record { one = λ x none. absurd none; other = λ x. inr refl }

pub raise_whole : (cut raised : Cut) (nodes : List ℕ) (i stamp : ℕ) → length nodes ≤ i → RaisesThose cut (take i nodes) stamp raised
    → RaisesThose cut nodes stamp raised
raise_whole cut raised nodes i stamp le raises = rw (take_all i nodes le) at raises

-- the nodes that are settled so far, and no others have changed
pub record AreSettled (past : Past) (raised : Cut) (inodes named : NodeSet) (own : ℕ) (nodes : List ℕ) (after : NodeSet) : Type 0 where
  pub settled : (node : ℕ) → IsOneOf nodes node → Settles past raised inodes named own node (has_node after node)
  pub others : (node : ℕ) → (has_node after node ≢ has_node inodes node) → IsOneOf nodes node

pub settle_more : (past : Past) (raised : Cut) (inodes named : NodeSet) (own : ℕ) (nodes : List ℕ) (i d v : ℕ) (has : Bool) (before after : NodeSet)
    → i < length nodes → v ≡ get_or nodes i d → AreSettled past raised inodes named own (take i nodes) before
    → Settles past raised inodes named own v has → ((x : ℕ) → has_node after x ≡ with_member v has (has_node before) x)
    → AreSettled past raised inodes named own (take (i + 1) nodes) after
settle_more past raised inodes named own nodes i d v has before after lt is so_far settles step = record {
  settled = λ x in_list. elim (same_or_not x v) [
    | inl e ↦
        subst (λ y. Settles past raised inodes named own y (has_node after y)) e
        (subst (Settles past raised inodes named own v) (sym (step v ∙ with_in v has (has_node before))) settles)
    | inr differ ↦ elim (one_more nodes i d v x lt is in_list) [
      | inl earlier ↦ rw (step x ∙ with_other v x has (has_node before) differ) (so_far.settled x earlier)
      | inr e ↦ absurd (differ (sym e))
    ]
  ];
  others = λ x changed. elim (same_or_not x v) [
    | inl e ↦ rw e at (next_one nodes i d v lt is)
    | inr differ ↦ still_one nodes i d x lt (so_far.others x (λ same. changed (step x ∙ with_other v x has (has_node before) differ ∙ same)))
  ];
}

pub settle_none : (past : Past) (raised : Cut) (inodes named : NodeSet) (own : ℕ) (nodes : List ℕ) (after : NodeSet)
    → ((x : ℕ) → has_node after x ≡ has_node inodes x) → AreSettled past raised inodes named own (take 0 nodes) after
settle_none past raised inodes named own nodes after same = record { settled = λ x none. absurd none; others = λ x changed. absurd (changed (same x)) }

pub settle_whole : (past : Past) (raised : Cut) (inodes named : NodeSet) (own : ℕ) (nodes : List ℕ) (i : ℕ) (after : NodeSet) → length nodes ≤ i
    → AreSettled past raised inodes named own (take i nodes) after → AreSettled past raised inodes named own nodes after
settle_whole past raised inodes named own nodes i after le settled = rw (take_all i nodes le) at settled

module _ (first : TreeState) (history : List Entry) (past : Past) (is : IsPast first history past) (raised : Cut) (named : NodeSet)
    (are_named : AreNamed first history raised named) where
  -- a node that gets an inode is reached
  reached : (flush : Flush) (node : ℕ) → GetsInode past raised named flush.node node → IsReached first history every_entry flush raised node
  reached flush node (inl has) = inl ((are_named node).0 has)
  reached flush node (inr (own, file, naming)) =
      inr (own, sym (ap (λ (t : TreeState). is_directory t node) is.tree) ∙ file, naming_is first history past is raised node naming)

  gets : (flush : Flush) (node : ℕ) → IsReached first history every_entry flush raised node → GetsInode past raised named flush.node node
  gets flush node (inl names) = inl ((are_named node).1 names)
  gets flush node (inr (own, file, naming)) =
      inr (own, ap (λ (t : TreeState). is_directory t node) is.tree ∙ file, is_naming first history past is raised node naming)

  -- one that loses it is dead
  within : (change : RowChange) → (cut_of raised change.directory ≤ change.stamp → ⊥) → IsWithin raised change
  within change not_above =
      elim (nat_lt change.stamp (cut_of raised change.directory)) as (λ b. nat_lt change.stamp (cut_of raised change.directory) ≡ b → IsWithin raised change) [
        | true ↦ λ e. ltb-true _ _ e
        | false ↦ λ e. absurd (not_above (ltb-false _ _ e))
      ] refl

  dead : (node : ℕ) → LosesInode past raised named node → IsDead first history every_entry raised node
  dead node loses = record {
    no_root = loses.no_root;
    unnamed = λ names. not_both ((are_named node).1 names) loses.unnamed;
    flushed =
        λ change one counted child. within change
        (λ above. loses.flushed
        (is_naming first history past is raised node
        (record { change = change; is_change = one; counted = counted; child = child; unflushed = above })));
  }

  out_of : (has : Bool) → (has ≡ true → ⊥) → has ≡ false
  out_of true not_so = absurd (not_so refl)
  out_of false not_so = refl

  loses : (node : ℕ) → IsDead first history every_entry raised node → LosesInode past raised named node
  loses node is_dead = record {
    no_root = is_dead.no_root;
    unnamed = out_of (has_node named node) (λ has. is_dead.unnamed ((are_named node).0 has));
    flushed = λ naming.
        let kept = naming_is first history past is raised node naming in
        let below = is_dead.flushed kept.change kept.is_change kept.counted kept.child in
        let above = kept.unflushed in
        absurd (omega arith);
  }

  -- the concerned nodes are settled, and the others have what they had
  pub are_inodes : (cut : Cut) (inodes concerned after : NodeSet) (flush : Flush) (nodes listed : List ℕ)
      → AreConcerned first history cut inodes flush concerned → ((node : ℕ) → IsOneOf nodes node ↔ (has_node concerned node ≡ true)) → listed ≡ nodes
      → ((node : ℕ) → IsOneOf listed node → Settles past raised inodes named flush.node node (has_node after node))
      → ((node : ℕ) → (has_node after node ≢ has_node inodes node) → IsOneOf listed node)
      → AreInodesAfter first history every_entry cut (has_node inodes) flush raised (has_node after)
  are_inodes cut inodes concerned after flush nodes listed are list same settled others = record {
    enters = λ node out. (
      λ has. let one = others node (λ e. not_both has (e ∙ out)) in (is_concerned node one, reached flush node (((settled node one).enters out).0 has)),
      λ (concerns, is_reached). ((settled node (in_list node concerns)).enters out).1 (gets flush node is_reached),
    );
    leaves = λ node had. (
      λ gone. let one = others node (λ e. not_both (e ∙ had) gone) in (is_concerned node one, dead node (((settled node one).leaves had).0 gone)),
      λ (concerns, is_dead). ((settled node (in_list node concerns)).leaves had).1 (loses node is_dead),
    );
  }
    where
      is_concerned : (node : ℕ) → IsOneOf listed node → IsConcerned first history every_entry cut (has_node inodes) flush node
      is_concerned node one = (are node).0 ((list node).0 (rw same at one))

      in_list : (node : ℕ) → IsConcerned first history every_entry cut (has_node inodes) flush node → IsOneOf listed node
      in_list node concerns = rw same ((list node).1 ((are node).1 concerns))
