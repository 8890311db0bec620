-- What a commit makes of an image is a commit.
use Rattle.std.proofs.Common.{◌≡◌, ℕ, ◌<◌, Bool, true, false, cond, ◌||◌, List, [], ◌∷◌, Option, Some, None, ◌⊎◌, inl, inr, refl, sym, ap, subst, ◌∙◌, nat_eq}
use borrow.Author.Tests.{eqb-true, eq-eqb}
use Rattle.std.specs.List.{list_any, find}
use Rattle.std.specs.Option.{option_map_or}
use Rattle.sfs_base.proofs.BasicOptions.{none_some, some_same}
use Rattle.sfs_base.proofs.BasicTruth.{not_both, or_true}
use Rattle.sfs_base.proofs.BasicNumbers.{same_number}
use Rattle.tree_laws.specs.Tree.{TreeState}
use Rattle.sfs_image.specs.Seen.{Seen, SeenInodes}
use Rattle.image_laws.specs.Renamed.{Numbering}
use Rattle.image_laws.specs.Stands.{IsUnused, StandsForTree}
use Rattle.image_laws.specs.Commit.{Commit, blank, seen_before, IsBuiltAnew, HasBlock, IsCommit}
use Rattle.image_laws.specs.Need.{Rewrite}
use Rattle.image_laws.specs.Made.{has_number, seen_built, image_made, IsMadeFrom}
use Rattle.image_laws.specs.Laws.{MadeImagesAreCommits, NoCommitIsAStep}
use Rattle.image_laws.proofs.Committed.{number_once}
use Rattle.image_laws.proofs.Elsewhere.{no_net}
use Rattle.image_laws.proofs.Ranks.{pointer_has_block}

-- the test of a node's number
pub number_is : (num : Numbering) (i node : ℕ) → has_number num i node ≡ true → num node ≡ Some i
number_is num i node e = by_number (num node) e
  where
    by_number : (o : Option ℕ) → option_map_or (λ j. nat_eq j i) o false ≡ true → o ≡ Some i
    by_number (Some j) e = ap Some (eqb-true _ _ e)
    by_number None e = absurd (not_both e refl)

pub is_number : (num : Numbering) (i node : ℕ) → num node ≡ Some i → has_number num i node ≡ true
is_number num i node e = ap (λ (o : Option ℕ). option_map_or (λ j. nat_eq j i) o false) e ∙ same_number i

-- a node of a list that passes a test
pub record Passes (p : ℕ → Bool) (nodes : List ℕ) (node : ℕ) : Type 0 where
  pub listed : list_any (λ other. nat_eq other node) nodes ≡ true
  pub passes : p node ≡ true

pub found_listed : (p : ℕ → Bool) (nodes : List ℕ) (node : ℕ) → find p nodes ≡ Some node → Passes p nodes node
found_listed p [] node e = absurd (none_some e)
found_listed p (x ∷ nodes) node e = elim (p x) as (λ b. p x ≡ b → cond b (Some x) (find p nodes) ≡ Some node → Passes p (x ∷ nodes) node) [
  | true ↦ λ t f.
      let same : x ≡ node = some_same f in
      record { listed = ap (λ b. b || list_any (λ other. nat_eq other node) nodes) (eq-eqb x node same); passes = ap p (sym same) ∙ t }
  | false ↦ λ t f.
      let rest = found_listed p nodes node f in
      record { listed = ap (λ b. nat_eq x node || b) rest.listed ∙ or_true (nat_eq x node); passes = rest.passes }
] refl e

pub any_listed : (p : ℕ → Bool) (nodes : List ℕ) → list_any p nodes ≡ true → (node : ℕ) × Passes p nodes node
any_listed p [] e = absurd (not_both e refl)
any_listed p (x ∷ nodes) e = elim (p x) as (λ b. p x ≡ b → (b || list_any p nodes) ≡ true → (node : ℕ) × Passes p (x ∷ nodes) node) [
  | true ↦ λ t _. (x, record { listed = ap (λ b. b || list_any (λ other. nat_eq other x) nodes) (same_number x); passes = t })
  | false ↦ λ t f.
      let rest = any_listed p nodes f in
      (rest.0, record { listed = ap (λ b. nat_eq x rest.0 || b) rest.1.listed ∙ or_true (nat_eq x rest.0); passes = rest.1.passes })
] refl e

-- a listed node that passes is found, or another one, and some node passes
pub listed_found : (p : ℕ → Bool) (nodes : List ℕ) (node : ℕ) → list_any (λ other. nat_eq other node) nodes ≡ true → p node ≡ true → list_any p nodes ≡ true
listed_found p [] node listed passes = listed
listed_found p (x ∷ nodes) node listed passes =
    elim (nat_eq x node) as (λ b. nat_eq x node ≡ b → (b || list_any (λ other. nat_eq other node) nodes) ≡ true → (p x || list_any p nodes) ≡ true) [
      | true ↦ λ t _. ap (λ b. b || list_any p nodes) (ap p (eqb-true _ _ t) ∙ passes)
      | false ↦ λ t f. ap (λ b. p x || b) (listed_found p nodes node f passes) ∙ or_true (p x)
    ] refl listed

none_any : (p : ℕ → Bool) (nodes : List ℕ) → find p nodes ≡ None → list_any p nodes ≡ false
none_any p [] e = refl
none_any p (x ∷ nodes) e = elim (p x) as (λ b. p x ≡ b → cond b (Some x) (find p nodes) ≡ None → (b || list_any p nodes) ≡ false) [
  | true ↦ λ t f. absurd (none_some (sym f))
  | false ↦ λ t f. none_any p nodes f
] refl e

module _ (commit : Commit) (old new : TreeState) (image : SeenInodes) (rewrites : ℕ → Rewrite) (concerned : List ℕ) (st : StandsForTree commit.before old image)
    (from : IsMadeFrom commit old new image rewrites concerned) where
  abbrev next : SeenInodes
  next = image_made commit new image rewrites concerned

  is_concerned : (p : ℕ → Bool) (node : ℕ) → Passes p concerned node → commit.concerns node ≡ true
  is_concerned p node found = from.concerns node ∙ found.listed

  -- the inode of a concerned node is built
  pub built_seen : (node i : ℕ) → commit.after node ≡ Some i → commit.concerns node ≡ true → next.seen i ≡ seen_built commit new image rewrites i node
  built_seen node i is listed = by_found (find (has_number commit.after i) concerned) refl
    where
      by_found : (o : Option ℕ) → find (has_number commit.after i) concerned ≡ o → next.seen i ≡ seen_built commit new image rewrites i node
      by_found None e =
          absurd
          (not_both (listed_found (has_number commit.after i) concerned node (sym (from.concerns node) ∙ listed) (is_number commit.after i node is))
          (none_any (has_number commit.after i) concerned e))
      by_found (Some other) e =
          let found = found_listed (has_number commit.after i) concerned other e in
          let same : other ≡ node = number_once commit old image st from.numbers other node i (number_is commit.after i other found.passes) is in
          ap (λ (o : Option ℕ). option_map_or (seen_built commit new image rewrites i) o
          (cond (list_any (has_number commit.before i) concerned) blank (image.seen i)))
          e
          ∙ ap (seen_built commit new image rewrites i) same

  -- the inode of any other node is as it was
  other_seen : (node i : ℕ) → commit.after node ≡ Some i → commit.concerns node ≡ false → next.seen i ≡ image.seen i
  other_seen node i is other = by_found (find (has_number commit.after i) concerned) refl
    where
      before : commit.before node ≡ Some i
      before = sym (from.others node other).0 ∙ is

      none_before : (b : Bool) → list_any (has_number commit.before i) concerned ≡ b → b ≡ false
      none_before false e = refl
      none_before true e =
          let found = any_listed (has_number commit.before i) concerned e in
          let same : found.0 ≡ node = st.once found.0 node i (number_is commit.before i found.0 found.1.passes) before in
          absurd (not_both (ap commit.concerns (sym same) ∙ is_concerned (has_number commit.before i) found.0 found.1) other)

      by_found : (o : Option ℕ) → find (has_number commit.after i) concerned ≡ o → next.seen i ≡ image.seen i
      by_found None e =
          ap (λ (o : Option ℕ). option_map_or (seen_built commit new image rewrites i) o
          (cond (list_any (has_number commit.before i) concerned) blank (image.seen i)))
          e
          ∙ ap (λ b. cond b blank (image.seen i)) (none_before (list_any (has_number commit.before i) concerned) refl)
      by_found (Some x) e =
          let found = found_listed (has_number commit.after i) concerned x e in
          let same : x ≡ node = number_once commit old image st from.numbers x node i (number_is commit.after i x found.passes) is in
          absurd (not_both (ap commit.concerns (sym same) ∙ is_concerned (has_number commit.after i) x found) other)

  abbrev Rests : ℕ → Type 0
  Rests i = ((node : ℕ) × (commit.after node ≡ Some i)) ⊎ IsUnused (next.seen i)

  rests : (i : ℕ) → i < image.count → Rests i
  rests i lt = by_found (find (has_number commit.after i) concerned) refl
    where
      left : (o : Option ℕ) → o ≡ None → (b : Bool) → list_any (has_number commit.before i) concerned ≡ b →
          option_map_or (seen_built commit new image rewrites i) o (cond (list_any (has_number commit.before i) concerned) blank (image.seen i))
          ≡ cond b blank (image.seen i)
      left o none b e =
          ap (λ (p : Option ℕ). option_map_or (seen_built commit new image rewrites i) p
          (cond (list_any (has_number commit.before i) concerned) blank (image.seen i)))
          none
          ∙ ap (λ c. cond c blank (image.seen i)) e

      of_node : (node : ℕ) → commit.before node ≡ Some i → list_any (has_number commit.before i) concerned ≡ false → Rests i
      of_node node was none = elim (commit.concerns node) as (λ b. commit.concerns node ≡ b → Rests i) [
        | true ↦
            λ t. absurd
            (not_both (listed_found (has_number commit.before i) concerned node (sym (from.concerns node) ∙ t) (is_number commit.before i node was)) none)
        | false ↦ λ t. inl (node, (from.others node t).0 ∙ was)
      ] refl

      by_found : (o : Option ℕ) → find (has_number commit.after i) concerned ≡ o → Rests i
      by_found (Some node) e = inl (node, number_is commit.after i node (found_listed (has_number commit.after i) concerned node e).passes)
      by_found None e = elim (list_any (has_number commit.before i) concerned) as (λ b. list_any (has_number commit.before i) concerned ≡ b → Rests i) [
        | true ↦ λ t. inr (subst IsUnused (sym (left (find (has_number commit.after i) concerned) e true t)) (record { kind = refl; blocks = λ _ _. refl }))
        | false ↦ λ t. elim (st.rest i lt) as (λ _. Rests i) [
          | inl node ↦ of_node node.0 node.1 t
          | inr free ↦ inr (subst IsUnused (sym (left (find (has_number commit.after i) concerned) e false t)) free)
        ]
      ] refl

  pub made_commit : IsCommit commit old new image next
  made_commit = record {
    count = refl;
    nets = from.nets;
    numbers = from.numbers;
    built =
        λ node i is listed. subst (IsBuiltAnew commit new node (seen_before commit image node)) (sym (built_seen node i is listed))
        (record { kind = refl; links = refl; size = refl; bytes = refl; slots = refl });
    stays = λ node i is other. (sym (from.others node other).0 ∙ is, other_seen node i is other, (from.others node other).1);
    rest = rests;
    blocks = record {
      has =
          λ node i place small is listed. pointer_has_block commit i place (rewrites node) (seen_before commit image node) (next.seen i)
          (ap (λ (seen : Seen). seen.blocks place) (built_seen node i is listed)) (from.takes node i place is listed small)
          (from.pointers node place listed small);
      unheld = from.unheld;
      once = from.once;
    };
  }

pub made_images_are_commits : MadeImagesAreCommits
made_images_are_commits = made_commit

pub no_commit_is_a_step : NoCommitIsAStep
no_commit_is_a_step num tree image is = record {
  stands = is.stands;
  sound = is.sound;
  commits = record {
    count = refl;
    nets = λ node. no_net (Rattle.tree_laws.specs.Tree.names_of node tree.rows);
    numbers =
        record { comes = λ node i has. Rattle.image_laws.specs.Commit.ComesBy.had has; once = λ node twin i none _ has _. absurd (none_some (sym none ∙ has)) };
    built = λ node i has listed. absurd (not_both listed refl);
    stays = λ node i has other. (has, refl, record { rows = λ _. refl; bytes = refl; naming = λ _ _. (λ row. row, λ row. row) });
    rest = is.stands.rest;
    blocks = record {
      has = λ node i place small has listed. absurd (not_both listed refl);
      unheld = λ i place j other taken. absurd (not_both taken refl);
      once = λ i place j other taken. absurd (not_both taken refl);
    };
  };
  next_sound = is.sound;
  follows = record { kinds = λ _. refl; root = is.stands.root; named = is.stands.named };
  storable = is.storable;
}
