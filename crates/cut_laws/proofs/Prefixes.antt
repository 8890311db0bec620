-- An fsync does the same by a history's first entries as by the whole history where these entries count.
use Rattle.std.proofs.Common.{◌≡◌, ℕ, suc, ◌<◌, ◌≤◌, Bool, true, List, take, IsSome, inl, inr, refl, sym, ap, ◌∙◌, arith}
use borrow.Author.Tests.{ltb-true, lt-ltb}
use Rattle.std.specs.FinMap.{get}
use Rattle.tree_laws.specs.declared.history.Entry.{Entry}
use Rattle.tree_laws.specs.Tree.{TreeState, is_alive, is_directory}
use Rattle.tree_laws.specs.Sound.{IsSound}
use Rattle.tree_laws.specs.Changes.{RowChange}
use Rattle.tree_laws.specs.History.{tree_after, IsLegal}
use Rattle.tree_laws.specs.Laws.{IsSoundTree}
use Rattle.tree_laws.proofs.RowFacts.{alive_named}
use Rattle.tree_laws.proofs.KeepsNodes.{directory_node}
use Rattle.cut_laws.specs.Cut.{Cut, counted_rows_at_cut}
use Rattle.cut_laws.specs.Rules.{IsChange, IsOneOf, Birth, births_of, IsMove}
use Rattle.cut_laws.specs.Closure.{every_entry, Flush, HasLiveNode, InSpan, HasNaming, IsNamedIn, IsReached, IsDead}
use Rattle.cut_laws.proofs.Basics.{below_or}
use Rattle.cut_laws.proofs.Runs.{Run}
use Rattle.cut_laws.proofs.Along.{made_at, tree_at, tree_at-after, run_of, sound_at}
use Rattle.cut_laws.proofs.Lives.{later, no_node_yet}
use Rattle.cut_laws.proofs.Commit.{birth_at}
use Rattle.cut_laws.proofs.Views.{below, PrefixesCount}
use Rattle.cut_laws.proofs.Prefix.{take_take, change_below, change_whole, change_prefix, birth_whole, birth_prefix, kind_whole, counted_rows-take}
use Rattle.cut_laws.proofs.Children.{child_node}
use Rattle.cut_laws.specs.Runs.{CommitView, view_by}
use Rattle.cut_laws.proofs.Alike.{Carries, GiveAlike, are_alike}

-- what is alive is a node
pub alive_node : (tree : TreeState) (x : ℕ) → IsSound tree → is_alive tree x ≡ true → IsSome (get tree.nodes x)
alive_node tree x sound alive = elim (alive_named tree x alive) [
  | inl root ↦ rw root (directory_node tree 0 sound.root)
  | inr named ↦ sound.node named.directory named.name x named.row
]

module _ (first : TreeState) (history : List Entry) (is : IsSoundTree first) (legal : IsLegal first history) where
  abbrev pub run : Run
  run = run_of first history is legal

  -- a node is made before a change names it
  pub born_by : (birth : Birth) (x : RowChange) → IsOneOf (births_of first history) birth → IsChange first history x → x.child ≡ birth.node
      → birth.stamp ≤ x.stamp
  born_by birth x one is_change same = elim (below_or x.stamp birth.stamp) [
    | inr le ↦ le
    | inl lt ↦
        let born = birth_at first history birth legal one in
        absurd
        (no_node_yet run birth.stamp birth.directory born.name birth.node born.kind born.adds born.made (suc x.stamp) (omega arith)
        (rw same at (child_node run x.stamp x (made_at first history is legal x is_change) (suc x.stamp) (omega arith))))
  ]

  -- an fsync's node is one from its stamp on
  pub live_node : (flush : Flush) → HasLiveNode first history flush → (u : ℕ) → flush.stamp ≤ u → IsSome (get (tree_at first history u).nodes flush.node)
  live_node flush live u le =
      later run flush.stamp u flush.node le
      (alive_node (tree_at first history flush.stamp) flush.node (sound_at first history 0 flush.stamp is legal)
      (rw (tree_at-after first history flush.stamp) live))

  module _ (n : ℕ) where
    abbrev prefix : List Entry
    prefix = take n history

    -- the changes and births of the first entries are those of the history that count
    span_whole : (cut : Cut) (stamp : ℕ) (x : RowChange) → InSpan first prefix every_entry cut stamp x → InSpan first history (below n) cut stamp x
    span_whole cut stamp x span = record {
      is_change = change_whole first history n legal x span.is_change;
      counted = lt-ltb x.stamp n (change_below first history n legal x span.is_change);
      from = span.from;
      below = span.below;
    }

    span_prefix : (cut : Cut) (stamp : ℕ) (x : RowChange) → InSpan first history (below n) cut stamp x → InSpan first prefix every_entry cut stamp x
    span_prefix cut stamp x span = record {
      is_change = change_prefix first history n legal x span.is_change (ltb-true x.stamp n span.counted);
      counted = refl;
      from = span.from;
      below = span.below;
    }

    naming_whole : (cut : Cut) (node : ℕ) → HasNaming first prefix every_entry cut node → HasNaming first history (below n) cut node
    naming_whole cut node naming = record {
      change = naming.change;
      is_change = change_whole first history n legal naming.change naming.is_change;
      counted = lt-ltb naming.change.stamp n (change_below first history n legal naming.change naming.is_change);
      child = naming.child;
      unflushed = naming.unflushed;
    }

    naming_prefix : (cut : Cut) (node : ℕ) → HasNaming first history (below n) cut node → HasNaming first prefix every_entry cut node
    naming_prefix cut node naming = record {
      change = naming.change;
      is_change = change_prefix first history n legal naming.change naming.is_change (ltb-true naming.change.stamp n naming.counted);
      counted = refl;
      child = naming.child;
      unflushed = naming.unflushed;
    }

    pub same_tree : (s : ℕ) → s < n → tree_after first (take s prefix) ≡ tree_after first (take s history)
    same_tree s lt = ap (tree_after first) (take_take history s n (omega arith))

    pub move_whole : (x : RowChange) → IsMove first prefix x → IsMove first history x
    move_whole x move = record {
      is_change = change_whole first history n legal x move.is_change;
      moves = rw (same_tree x.stamp (change_below first history n legal x move.is_change)) at move.moves;
    }

    pub move_prefix : (x : RowChange) → x.stamp < n → IsMove first history x → IsMove first prefix x
    move_prefix x lt move = record {
      is_change = change_prefix first history n legal x move.is_change lt;
      moves = rw (same_tree x.stamp lt) move.moves;
    }

    module _ (flush : Flush) (cut : Cut) (inodes : ℕ → Bool) (low : flush.stamp ≤ n) (live : HasLiveNode first history flush) where
      abbrev short : CommitView
      short = view_by prefix every_entry cut inodes

      abbrev whole : CommitView
      whole = view_by history (below n) cut inodes

      to_whole : Carries first flush short whole
      to_whole = record {
        span = λ x own there span. span_whole cut flush.stamp x span;
        moves = λ x span move. move_whole x move;
        stands = λ x above span way. rw (same_tree x.stamp (change_below first history n legal x span.is_change)) at way;
        births =
            λ birth own there l. record { one = birth_whole first history n legal birth l.one; lacks = l.lacks; naming = naming_whole cut birth.node l.naming };
      }

      to_prefix : Carries first flush whole short
      to_prefix = record {
        span = λ x own there span. span_prefix cut flush.stamp x span;
        moves = λ x span move. move_prefix x (ltb-true x.stamp n span.counted) move;
        stands = λ x above span way. rw (same_tree x.stamp (ltb-true x.stamp n span.counted)) way;
        births = λ birth own there l. record {
          one =
              birth_prefix first history n legal birth l.one
              (let le = born_by birth l.naming.change l.one l.naming.is_change l.naming.child in
              let lt = ltb-true l.naming.change.stamp n l.naming.counted in omega arith);
          lacks = l.lacks;
          naming = naming_prefix cut birth.node l.naming;
        };
      }

      module _ (raised : Cut) where
        rows_whole : (node : ℕ) → IsNamedIn (counted_rows_at_cut first prefix every_entry raised) node
            → IsNamedIn (counted_rows_at_cut first history (below n) raised) node
        rows_whole node named = rw (counted_rows-take first history n raised legal) at named

        rows_prefix : (node : ℕ) → IsNamedIn (counted_rows_at_cut first history (below n) raised) node
            → IsNamedIn (counted_rows_at_cut first prefix every_entry raised) node
        rows_prefix node named = rw (counted_rows-take first history n raised legal) named

        own_kind : (node : ℕ) → node ≡ flush.node → is_directory (tree_after first history) node ≡ is_directory (tree_after first prefix) node
        own_kind node same = kind_whole first history n legal node is (rw same (live_node flush live n low))

        reached_whole : (node : ℕ) → IsReached first prefix every_entry flush raised node → IsReached first history (below n) flush raised node
        reached_whole node reached = elim reached [
          | inl named ↦ inl (rows_whole node named)
          | inr file ↦ inr (file.0, own_kind node file.0 ∙ file.1, naming_whole raised node file.2)
        ]

        reached_prefix : (node : ℕ) → IsReached first history (below n) flush raised node → IsReached first prefix every_entry flush raised node
        reached_prefix node reached = elim reached [
          | inl named ↦ inl (rows_prefix node named)
          | inr file ↦ inr (file.0, sym (own_kind node file.0) ∙ file.1, naming_prefix raised node file.2)
        ]

        dead_whole : (node : ℕ) → IsDead first prefix every_entry raised node → IsDead first history (below n) raised node
        dead_whole node dead = record {
          no_root = dead.no_root;
          unnamed = λ named. dead.unnamed (rows_prefix node named);
          flushed = λ x one counted child. dead.flushed x (change_prefix first history n legal x one (ltb-true x.stamp n counted)) refl child;
        }

        dead_prefix : (node : ℕ) → IsDead first history (below n) raised node → IsDead first prefix every_entry raised node
        dead_prefix node dead = record {
          no_root = dead.no_root;
          unnamed = λ named. dead.unnamed (rows_whole node named);
          flushed =
              λ x one counted child. dead.flushed x (change_whole first history n legal x one)
              (lt-ltb x.stamp n (change_below first history n legal x one)) child;
        }

        gives : GiveAlike first prefix every_entry history (below n) cut inodes flush raised
        gives = record {
          rows = counted_rows-take first history n raised legal;
          reached = λ node concerned. (reached_whole node, reached_prefix node);
          dead = λ node concerned. (dead_whole node, dead_prefix node);
        }

pub prefixes_count : PrefixesCount
prefixes_count first history n flush cut inodes is legal le low live =
    are_alike first (take n history) every_entry history (below n) cut inodes flush (to_whole first history is legal n flush cut inodes low live)
    (to_prefix first history is legal n flush cut inodes low live) (λ raised raise. gives first history is legal n flush cut inodes low live raised)
