-- An fsync does the same, however the entries past all cuts are counted.
use Rattle.std.proofs.Common.{◌≡◌, ℕ, zero, suc, ◌+◌, ◌<◌, ◌≤◌, Bool, true, false, ◌&&◌, List, length, IsSome, ◌⊎◌, inl, inr, refl, sym, ap, ◌∙◌, nat_lt, arith}
use borrow.Author.Tests.{ltb-true}
use Rattle.std.specs.Prelude.{fold}
use Rattle.std.specs.FinMap.{FinMap, get}
use Rattle.tree_laws.specs.declared.history.Entry.{Entry}
use Rattle.tree_laws.specs.Order.{key_cmp}
use Rattle.tree_laws.specs.Tree.{TreeState}
use Rattle.tree_laws.specs.Changes.{RowChange, changes_of}
use Rattle.tree_laws.specs.History.{IsLegal}
use Rattle.tree_laws.specs.Laws.{IsSoundTree}
use Rattle.tree_laws.proofs.RowFacts.{IsNamed}
use Rattle.cut_laws.specs.Cut.{Cut, cut_of, is_within, is_counted_within, with_own, rows_at_cut, counted_rows_at_cut}
use Rattle.cut_laws.specs.Rules.{IsChange}
use Rattle.cut_laws.specs.Closure.{Counts, Flush, HasLiveNode, HasNaming, IsNamedIn, IsReached, IsDead}
use Rattle.cut_laws.specs.Runs.{view_by}
use Rattle.cut_laws.proofs.Basics.{below_or, filter_same}
use Rattle.sfs_base.proofs.BasicNumbers.{plus_zero, not_less}
use Rattle.sfs_base.proofs.BasicTruth.{and_false, not_both}
use Rattle.cut_laws.proofs.Own.{stamp_of}
use Rattle.cut_laws.proofs.Runs.{Run, Seen}
use Rattle.cut_laws.proofs.Seen.{behind}
use Rattle.cut_laws.proofs.Along.{change_in, effect_at, made_at, run_of, tree_at}
use Rattle.cut_laws.proofs.Closed.{seen_of, seen_past}
use Rattle.cut_laws.proofs.Lives.{later}
use Rattle.cut_laws.proofs.Views.{IsHeld, Recounts}
use Rattle.cut_laws.proofs.RunFacts.{raised_low}
use Rattle.cut_laws.proofs.Children.{IsOpen, naming_since, flushed_or_open, links_named}
use Rattle.cut_laws.proofs.Members.{member_then, concerned_then}
use Rattle.cut_laws.proofs.Alike.{Carries, are_alike}

-- rows at a cut stay from a stamp on that no cut is above
rows_stay : (r : Run) (cut : ℕ → ℕ) (s : Seen r cut) (k more d : ℕ) (n : List ℕ) → cut d ≤ k → get (s.rows (k + more)) (d, n) ≡ get (s.rows k) (d, n)
rows_stay r cut s k zero d n le = ap (λ t. get (s.rows t) (d, n)) (plus_zero k)
rows_stay r cut s k (suc more) d n le =
    let one_more : k + suc more ≡ suc (k + more) = omega arith in
    ap (λ t. get (s.rows t) (d, n)) one_more ∙ behind r cut s (k + more) d n (omega arith) ∙ rows_stay r cut s k more d n le

-- each entry below a stamp counts
abbrev CountBelow : ℕ → Counts → Type 0
CountBelow k counts = (t : ℕ) → t < k → counts t ≡ true

-- where all below a stamp count, and no cut lies above it, what lies below its cut is what counts and does
counted_within : (k : ℕ) (counts : Counts) (cut : Cut) (x : RowChange) → CountBelow k counts → ((node : ℕ) → cut_of cut node ≤ k)
    → is_counted_within counts cut x ≡ is_within cut x
counted_within k counts cut x all low =
    elim (nat_lt x.stamp (cut_of cut x.directory)) as (λ b. nat_lt x.stamp (cut_of cut x.directory) ≡ b → (counts x.stamp && b) ≡ b) [
      | true ↦ λ e. ap (λ b. b && true) (all x.stamp (let lt = ltb-true _ _ e in let le = low x.directory in omega arith))
      | false ↦ λ e. and_false (counts x.stamp)
    ] refl

-- so the rows at it are those at the cut
pub counted_rows-low : (first : TreeState) (history : List Entry) (k : ℕ) (counts : Counts) (cut : Cut) → CountBelow k counts
    → ((node : ℕ) → cut_of cut node ≤ k) → counted_rows_at_cut first history counts cut ≡ rows_at_cut first history cut
counted_rows-low first history k counts cut all low =
    ap (fold with_own first.rows)
    (filter_same (is_counted_within counts cut) (is_within cut) (changes_of first history) (λ x one. counted_within k counts cut x all low))

-- and what a row at the cut names is named by the entries that count
pub counted_named : (first : TreeState) (history : List Entry) (k : ℕ) (counts : Counts) (cut : Cut) → CountBelow k counts → ((node : ℕ) → cut_of cut node ≤ k)
    → (node : ℕ) → IsNamedIn (rows_at_cut first history cut) node → IsNamedIn (counted_rows_at_cut first history counts cut) node
counted_named first history k counts cut all low node named = rw (counted_rows-low first history k counts cut all low) named

module _ (first : TreeState) (history : List Entry) (is : IsSoundTree first) (legal : IsLegal first history) (k : ℕ) where
  abbrev run : Run
  run = run_of first history is legal

  -- what is open below the stamp has a naming that is not flushed
  open_naming : (counts : Counts) (cut : Cut) (node : ℕ) → CountBelow k counts → IsOpen run (cut_of cut) k node → HasNaming first history counts cut node
  open_naming counts cut node all o = record {
    change = o.change;
    is_change = change_in first history o.stamp o.change legal o.made;
    counted = ap counts same ∙ all o.stamp o.before;
    child = o.child;
    unflushed = rw same o.unflushed;
  }
    where
      same : o.change.stamp ≡ o.stamp
      same = stamp_of (tree_at first history o.stamp) o.stamp (effect_at first history o.stamp) o.change o.made

  -- a node that is named at the stamp is named at the cut, or open below the stamp
  pub named_or_open : (cut : Cut) → ((node : ℕ) → cut_of cut node ≤ k) → (node : ℕ) → IsNamed (tree_at first history k).rows node
      → IsNamedIn (rows_at_cut first history cut) node ⊎ IsOpen run (cut_of cut) k node
  named_or_open cut low node named = elim (flushed_or_open run (cut_of cut) (seen_of first history is legal cut) k named.directory named.name node named.row) [
    | inl there ↦ inl (record {
      directory = named.directory;
      name = named.name;
      row =
          ap (λ (rows : FinMap key_cmp ℕ). get rows (named.directory, named.name))
          (sym (seen_past first history is legal cut (k + length history) (omega arith)))
          ∙ rows_stay run (cut_of cut) (seen_of first history is legal cut) k (length history) named.directory named.name (low named.directory)
          ∙ there;
    })
    | inr o ↦ inr o
  ]

  -- so is a node that is there at the stamp and that a change from it on names
  late_naming : (cut : Cut) → ((node : ℕ) → cut_of cut node ≤ k) → (x : RowChange) → IsChange first history x → k ≤ x.stamp
      → IsSome (get (tree_at first history k).nodes x.child) → IsNamedIn (rows_at_cut first history cut) x.child ⊎ IsOpen run (cut_of cut) k x.child
  late_naming cut low x one le some =
      named_or_open cut low x.child (naming_since run (links_named first history is legal) k x.stamp x le (made_at first history is legal x one) some)

  -- a naming by other entries is one, or a row at the cut names the node
  renamed : (counts other : Counts) (cut : Cut) (node : ℕ) → CountBelow k other → ((d : ℕ) → cut_of cut d ≤ k)
      → IsSome (get (tree_at first history k).nodes node) → HasNaming first history counts cut node
      → IsNamedIn (rows_at_cut first history cut) node ⊎ HasNaming first history other cut node
  renamed counts other cut node all low some naming = elim (below_or naming.change.stamp k) [
    | inl lt ↦
        inr
        (record {
          change = naming.change;
          is_change = naming.is_change;
          counted = all naming.change.stamp lt;
          child = naming.child;
          unflushed = naming.unflushed;
        })
    | inr le ↦
        let x = naming.change in
        elim (late_naming cut low x naming.is_change le (rw naming.child some)) [
          | inl named ↦ inl (rw naming.child at named)
          | inr o ↦ inr (rw naming.child at (open_naming other cut x.child all o))
        ]
  ]

  module _ (flush : Flush) (cut : Cut) (inodes : ℕ → Bool) (low : (node : ℕ) → cut_of cut node ≤ k) (stamp : flush.stamp ≤ k)
      (live : HasLiveNode first history flush) (held : IsHeld first history cut inodes) where
    at_k : (node : ℕ) → IsSome (get (tree_at first history flush.stamp).nodes node) → IsSome (get (tree_at first history k).nodes node)
    at_k node some = later run flush.stamp k node stamp some

    module _ (counts other : Counts) (all : CountBelow k counts) (other_all : CountBelow k other) where
      carries : Carries first flush (view_by history counts cut inodes) (view_by history other cut inodes)
      carries = record {
        span =
            λ x own there span. record {
              is_change = span.is_change;
              counted = other_all x.stamp (let lt = span.below in omega arith);
              from = span.from;
              below = span.below;
            };
        moves = λ x span move. move;
        stands = λ x above span way. way;
        births = λ birth own there l. record {
          one = l.one;
          lacks = l.lacks;
          naming =
              elim (renamed counts other cut birth.node other_all low
              (at_k birth.node (member_then first history is legal counts cut inodes flush live own)) l.naming) [
                | inl named ↦ absurd (not_both (held.named birth.node named) l.lacks)
                | inr found ↦ found
              ];
        };
      }

      module _ (raised : Cut) (raised_at_most : (node : ℕ) → cut_of raised node ≤ k) where
        same_rows : counted_rows_at_cut first history counts raised ≡ counted_rows_at_cut first history other raised
        same_rows =
            counted_rows-low first history k counts raised all raised_at_most ∙ sym (counted_rows-low first history k other raised other_all raised_at_most)

        named_other : (node : ℕ) → IsNamedIn (counted_rows_at_cut first history counts raised) node
            → IsNamedIn (counted_rows_at_cut first history other raised) node
        named_other node named = rw same_rows at named

        reached_other : (node : ℕ) → IsSome (get (tree_at first history k).nodes node) → IsReached first history counts flush raised node
            → IsReached first history other flush raised node
        reached_other node some reached = elim reached [
          | inl named ↦ inl (named_other node named)
          | inr file ↦ elim (renamed counts other raised node other_all raised_at_most some file.2) [
            | inl named ↦ inl (named_other node (counted_named first history k counts raised all raised_at_most node named))
            | inr naming ↦ inr (file.0, file.1, naming)
          ]
        ]

        dead_other : (node : ℕ) → IsSome (get (tree_at first history k).nodes node) → IsDead first history other raised node
            → IsDead first history counts raised node
        dead_other node some dead = record {
          no_root = dead.no_root;
          unnamed = λ named. dead.unnamed (named_other node named);
          flushed = λ x one counted child. elim (below_or x.stamp k) [
            | inl lt ↦ dead.flushed x one (other_all x.stamp lt) child
            | inr le ↦ absurd (elim (late_naming raised raised_at_most x one le (rw child some)) [
              | inl named ↦ dead.unnamed (named_other node (counted_named first history k counts raised all raised_at_most node (rw child at named)))
              | inr o ↦
                  let naming = open_naming other raised x.child other_all o in
                  let within = dead.flushed naming.change naming.is_change naming.counted (naming.child ∙ child) in
                  let unflushed = naming.unflushed in
                  not_less within unflushed
            ])
          ];
        }

pub recounts : Recounts
recounts first history k counts other flush cut inodes is legal all other_all low stamp live held =
    are_alike first history counts history other cut inodes flush
    (carries first history is legal k flush cut inodes low stamp live held counts other all other_all)
    (carries first history is legal k flush cut inodes low stamp live held other counts other_all all) (λ raised raise.
    let most = raised_low first history counts cut inodes flush raised k raise low stamp in
    record {
      rows = same_rows first history is legal k flush cut inodes low stamp live held counts other all other_all raised most;
      reached = λ node concerned.
          let some =
          at_k first history is legal k flush cut inodes low stamp live held node
          (concerned_then first history is legal counts cut inodes flush live node concerned) in (
            reached_other first history is legal k flush cut inodes low stamp live held counts other all other_all raised most node some,
            reached_other first history is legal k flush cut inodes low stamp live held other counts other_all all raised most node some,
          );
      dead = λ node concerned.
          let some =
          at_k first history is legal k flush cut inodes low stamp live held node
          (concerned_then first history is legal counts cut inodes flush live node concerned) in (
            dead_other first history is legal k flush cut inodes low stamp live held other counts other_all all raised most node some,
            dead_other first history is legal k flush cut inodes low stamp live held counts other all other_all raised most node some,
          );
    })
