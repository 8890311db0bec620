-- A call keeps a tree within its limits.
use Rattle.std.proofs.Common.{◌≡◌, ℕ, zero, suc, ◌+◌, ◌-◌, ◌<◌, ◌≤◌, Bool, true, false, cond, not, ◌&&◌, List, [], ◌∷◌, length, take, Option, Some, None, IsSome, ◌⊎◌, inl, inr, refl, sym, ap, subst, ◌∙◌, nat_eq, nat_le, arith}
use Rattle.std.specs.Prelude.{is_some}
use Rattle.std.proofs.lemmas.Bool.{eqb-true}
use Rattle.std.proofs.lemmas.Bool.Decides.{nat_tests}
use Rattle.std.specs.FinMap.{FinMap, find, entries, get, get-entries, insert, remove, len, len-entries, len-insert, len-remove}
use Rattle.std.specs.Option.{option_or}
use Rattle.std.specs.Cmp.Lexicographic.{nat_list_cmp_total}
use Rattle.sfs_base.specs.Name.{bucket}
use Rattle.sfs_base.specs.declared.numbers.Kind.{Kind}
use Rattle.tree_laws.specs.declared.call.Call.{Call}
use Rattle.tree_laws.specs.declared.call.Call.TheVariants as call
use Rattle.tree_laws.specs.declared.history.Entry.{Entry}
use Rattle.tree_laws.specs.declared.reply.Code.{Code}
use Rattle.tree_laws.specs.declared.reply.Code.TheVariants.{NoEntry, NotPermitted, Exists, TooManyLinks, DirFull}
use Rattle.tree_laws.specs.Order.{name_cmp}
use Rattle.tree_laws.specs.Tree.{BUCKET_ROWS, TreeState, row_of, is_alive, is_directory, count_of, bucket_rows, bytes_of}
use Rattle.tree_laws.specs.Effect.{Effect, Stays, Adds, Removes, Moves, Edits, Puts, Resizes, tree_with}
use Rattle.tree_laws.specs.Verdict.{MOST_LINKS, Verdict, verdict, or_else, done, refused, is_full, directory_fault, make_fault, make_node, link_fault, move_fault, place_fault, move_row, names_child, answered}
use Rattle.tree_laws.specs.History.{tree_after, tree_after_entry, IsLegalFrom}
use Rattle.tree_laws.specs.Sound.{IsWithinLimits}
use Rattle.tree_laws.specs.Fits.{Fits}
use Rattle.tree_laws.specs.Parts.{part_without, part_after, bytes_after}
use Rattle.tree_laws.specs.Laws.{IsSoundTree, HistoriesStayWithin}
use Rattle.tree_laws.proofs.FileHistories.{bytes_with}
use Rattle.tree_laws.proofs.Fitting.{neither, not_so}
use Rattle.tree_laws.proofs.Holders.{directory_stays}
use Rattle.tree_laws.proofs.Names.{get-names_where}
use Rattle.tree_laws.proofs.OwnEffects.{of_one, of_child, of_what_it_does}
use Rattle.tree_laws.proofs.Parts.{parts_after}
use Rattle.tree_laws.proofs.SoundTrees.{calls_keep_sound, calls_fit}
use Rattle.sfs_base.proofs.BasicOptions.{some_true}

-- a row that comes finds room in its bucket, or what stands there gives way
abbrev HasRoom : TreeState → Effect → Type 0
HasRoom tree (Adds d n c) = is_full tree d n ≡ false
HasRoom tree (Moves p n q m x) = IsSome (row_of tree q m) ⊎ (is_full tree q m ≡ false)
HasRoom tree _ = Unit {0}

or_else_room : (tree : TreeState) (fault : Option Code) (v : Verdict) → (fault ≡ None → HasRoom tree v.effect) → HasRoom tree (or_else fault v).effect
or_else_room tree (Some code) v room = tt
or_else_room tree None v room = room refl

place_room : (tree : TreeState) (x q : ℕ) (m : List ℕ) (there : Option ℕ) → there ≡ row_of tree q m → place_fault tree x q m there ≡ None
    → IsSome (row_of tree q m) ⊎ (is_full tree q m ≡ false)
place_room tree x q m (Some there) is none = inl (subst IsSome is refl)
place_room tree x q m None is none = inr (not_so _ _ _ none).0

move_room : (tree : TreeState) (p : ℕ) (n : List ℕ) (q : ℕ) (m : List ℕ) (child : Option ℕ) → HasRoom tree (move_row tree p n q m child).effect
move_room tree p n q m None = tt
move_room tree p n q m (Some x) =
    elim (names_child (row_of tree q m) x) as (λ b. HasRoom tree
    (cond b (answered Rattle.tree_laws.specs.declared.reply.Reply.TheVariants.Ok) (or_else (move_fault tree x q m) (done (Moves p n q m x)))).effect) [
      | true ↦ tt
      | false ↦ or_else_room tree (move_fault tree x q m) (done (Moves p n q m x)) (λ none. place_room tree x q m (row_of tree q m) refl (not_so _ _ _ none).1)
    ]

nothing_comes : (tree : TreeState) (core : ℕ) (c : Call)
    → ((effect : Effect) → Rattle.tree_laws.specs.Footprints.own_effect tree core c ≡ Some effect → HasRoom tree effect)
    → HasRoom tree (verdict tree core c).effect
nothing_comes tree core c own = of_what_it_does (HasRoom tree) tree core c tt own

make_room : (tree : TreeState) (core directory : ℕ) (name : List ℕ) → make_fault tree core directory name ≡ None → is_full tree directory name ≡ false
make_room tree core directory name none =
    let both = neither (directory_fault tree directory) _ none in
    let absent = not_so _ _ _ both.1 in
    (not_so _ _ _ absent.1).0

-- the last of the tests that a link passes
last_test : (dead directory : Bool) (fault : Option Code) (exists many full : Bool)
    → cond dead (Some NoEntry)
    (cond directory (Some NotPermitted) (option_or fault (cond exists (Some Exists) (cond many (Some TooManyLinks) (cond full (Some DirFull) None)))))
    ≡ None
    → full ≡ false
last_test true directory fault exists many full none = cc
last_test false true fault exists many full none = cc
last_test false false (Some code) exists many full none = cc
last_test false false None true many full none = cc
last_test false false None false true full none = cc
last_test false false None false false true none = cc
last_test false false None false false false none = refl

link_room : (tree : TreeState) (file directory : ℕ) (name : List ℕ) → link_fault tree file directory name ≡ None → is_full tree directory name ≡ false
link_room tree file directory name none =
    last_test (not (is_alive tree file)) (is_directory tree file) (directory_fault tree directory) (is_some (row_of tree directory name))
    (nat_le MOST_LINKS (count_of tree.rows file)) (is_full tree directory name) none

calls_have_room : (tree : TreeState) (core : ℕ) (c : Call) → HasRoom tree (verdict tree core c).effect
calls_have_room tree core (call.Make d n k) = or_else_room tree (make_fault tree core d.0 n) (make_node tree core d.0 n k) (make_room tree core d.0 n)
calls_have_room tree core (call.Link f d n) = or_else_room tree (link_fault tree f.0 d.0 n) (done (Adds d.0 n f.0)) (link_room tree f.0 d.0 n)
calls_have_room tree core (call.Rename p n q m) =
    or_else_room tree (option_or (directory_fault tree p.0) (directory_fault tree q.0)) (move_row tree p.0 n q.0 m (row_of tree p.0 n))
    (λ none. move_room tree p.0 n q.0 m (row_of tree p.0 n))
calls_have_room tree core (call.Look d n) = nothing_comes tree core (call.Look d n) (λ effect own. absurd (let never : None ≡ Some effect = own in cc))
calls_have_room tree core (call.Read f at count) =
    nothing_comes tree core (call.Read f at count) (λ effect own. absurd (let never : None ≡ Some effect = own in cc))
calls_have_room tree core (call.Stat d) = nothing_comes tree core (call.Stat d) (λ effect own. absurd (let never : None ≡ Some effect = own in cc))
calls_have_room tree core (call.List d) = nothing_comes tree core (call.List d) (λ effect own. absurd (let never : None ≡ Some effect = own in cc))
calls_have_room tree core (call.Fsync d) = nothing_comes tree core (call.Fsync d) (λ effect own. absurd (let never : None ≡ Some effect = own in cc))
calls_have_room tree core (call.Write f at bytes) =
    nothing_comes tree core (call.Write f at bytes) (λ effect own. of_one (HasRoom tree) (Edits f.0 (Puts at bytes)) effect own tt)
calls_have_room tree core (call.Trunc f size) =
    nothing_comes tree core (call.Trunc f size) (λ effect own. of_one (HasRoom tree) (Edits f.0 (Resizes size)) effect own tt)
calls_have_room tree core (call.Unlink d n) =
    nothing_comes tree core (call.Unlink d n) (λ effect own. of_child (HasRoom tree) (Removes d.0 n) (row_of tree d.0 n) effect own (λ x e. tt))
calls_have_room tree core (call.Rmdir d n) =
    nothing_comes tree core (call.Rmdir d n) (λ effect own. of_child (HasRoom tree) (Removes d.0 n) (row_of tree d.0 n) effect own (λ x e. tt))

-- how many rows a bucket has with a row more, and with a row less
with_one : (rows : FinMap name_cmp ℕ) (n : List ℕ) (c : ℕ) → len (insert rows n c) ≡ cond (is_some (get rows n)) (len rows) (len rows + 1)
with_one rows n c = len-insert nat_list_cmp_total rows n c

without_one : (rows : FinMap name_cmp ℕ) (n : List ℕ) → len (remove rows n) ≡ cond (is_some (get rows n)) (len rows - 1) (len rows)
without_one rows n = len-remove nat_list_cmp_total rows n

more_at_most : (rows : FinMap name_cmp ℕ) (n : List ℕ) (c : ℕ) → len (insert rows n c) ≤ len rows + 1
more_at_most rows n c = let one = with_one rows n c in rw one (of (is_some (get rows n)))
  where
    of : (b : Bool) → cond b (len rows) (len rows + 1) ≤ len rows + 1
    of true = omega arith
    of false = omega arith

less_at_most : (rows : FinMap name_cmp ℕ) (n : List ℕ) → len (remove rows n) ≤ len rows
less_at_most rows n = let one = without_one rows n in rw one (of (is_some (get rows n)))
  where
    of : (b : Bool) → cond b (len rows - 1) (len rows) ≤ len rows
    of true = omega arith
    of false = omega arith

-- where a name has a row there is one at least
some_len : (rows : FinMap name_cmp ℕ) (n : List ℕ) (x : ℕ) → get rows n ≡ Some x → 0 < len rows
some_len rows n x there = let length_is = len-entries rows in let some = of (entries rows) (sym (get-entries rows n) ∙ there) in omega arith
  where
    of : (es : List (List ℕ × ℕ)) → find name_cmp n es ≡ Some x → 0 < length es
    of [] none = absurd (let never : None ≡ Some x = none in cc)
    of (e ∷ es) found = omega arith

-- a row of a directory is in its bucket
in_bucket : (tree : TreeState) (d b : ℕ) (n : List ℕ) → bucket n ≡ b → get (bucket_rows d b tree.rows) n ≡ row_of tree d n
in_bucket tree d b n same =
    let test : nat_eq (bucket n) b ≡ true = grind (arith, nat_tests) in
    get-names_where d (λ name. nat_eq (bucket name) b) tree.rows n ∙ ap (λ t. cond t (row_of tree d n) None) test

not_full : (tree : TreeState) (d b : ℕ) (n : List ℕ) → bucket n ≡ b → is_full tree d n ≡ false → len (bucket_rows d b tree.rows) < BUCKET_ROWS
not_full tree d b n same room =
    let test : nat_le BUCKET_ROWS (len (bucket_rows d b tree.rows)) ≡ false =
    subst (λ (k : ℕ). nat_le BUCKET_ROWS (len (bucket_rows d k tree.rows)) ≡ false) same room in
    grind (arith, nat_tests)

module _ (tree : TreeState) (core : ℕ) (within : IsWithinLimits tree) (d b : ℕ) where
  abbrev test : List ℕ → Bool
  test name = nat_eq (bucket name) b

  abbrev rows : FinMap name_cmp ℕ
  rows = bucket_rows d b tree.rows

  -- where a place is in this bucket
  here : (e : ℕ) (n : List ℕ) → (nat_eq e d && test n) ≡ true → (e ≡ d) × (bucket n ≡ b)
  here e n both = of (nat_eq e d) (test n) refl refl both
    where
      of : (s t : Bool) → nat_eq e d ≡ s → test n ≡ t → (s && t) ≡ true → (e ≡ d) × (bucket n ≡ b)
      of true true a c e = (eqb-true _ _ a, eqb-true _ _ c)
      of true false a c e = cc
      of false t a c e = cc

  without : (p : ℕ) (n : List ℕ) → len (part_without d test p n rows) ≤ len rows
  without p n = elim (nat_eq p d && test n) as (λ t. len (cond t (remove rows n) rows) ≤ len rows) [ true ↦ less_at_most rows n | false ↦ omega arith ]

  -- a row that moves away from this bucket makes room in it
  away : (p : ℕ) (n : List ℕ) (x : ℕ) → row_of tree p n ≡ Some x → (nat_eq p d && test n) ≡ true → len (part_without d test p n rows) + 1 ≡ len rows
  away p n x row is =
      let place = here p n is in
      let there : get rows n ≡ Some x = in_bucket tree d b n place.1 ∙ subst (λ (z : ℕ). row_of tree z n ≡ Some x) place.0 row in
      let some : is_some (get rows n) ≡ true = ap is_some there in
      let less : len (remove rows n) ≡ len rows - 1 = without_one rows n ∙ ap (λ t. cond t (len rows - 1) (len rows)) some in
      let more : 0 < len rows = some_len rows n x there in
      ap (λ t. len (cond t (remove rows n) rows) + 1) is ∙ omega arith

  -- a row that comes to this bucket where another one is, which may have moved away before
  gives_way : (p : ℕ) (n : List ℕ) (q : ℕ) (m : List ℕ) (x : ℕ) → row_of tree p n ≡ Some x → IsSome (row_of tree q m) → (nat_eq q d && test m) ≡ true
      → len (insert (part_without d test p n rows) m x) ≤ len rows
  gives_way p n q m x row there is =
      elim (nat_eq p d && test n) as (λ t. (nat_eq p d && test n) ≡ t → len (insert (cond t (remove rows n) rows) m x) ≤ len rows) [
        | true ↦ λ from.
            let less = away p n x row from in
            let same : len (remove rows n) + 1 ≡ len rows = ap (λ t. len (cond t (remove rows n) rows) + 1) (sym from) ∙ less in
            let most = more_at_most (remove rows n) m x in
            omega arith
        | false ↦ λ from.
            let place = here q m is in
            let stands : IsSome (get rows m) = subst IsSome (sym (in_bucket tree d b m place.1)) (subst (λ (z : ℕ). IsSome (row_of tree z m)) place.0 there) in
            let same : len (insert rows m x) ≡ len rows = with_one rows m x ∙ ap (λ t. cond t (len rows) (len rows + 1)) (some_true (get rows m) stands) in
            omega arith
      ] refl

  bounded : (effect : Effect) (makes : Option Kind) → Fits tree core effect makes → HasRoom tree effect → len (part_after d test effect rows) ≤ BUCKET_ROWS
  bounded Stays makes f room = within.buckets d b
  bounded (Edits file edit) makes f room = within.buckets d b
  bounded (Removes e n c) makes f room = let less = without e n in let most = within.buckets d b in omega arith
  bounded (Adds e n c) makes f room =
      elim (nat_eq e d && test n) as (λ t. (nat_eq e d && test n) ≡ t → len (cond t (insert rows n c) rows) ≤ BUCKET_ROWS) [
        | true ↦ λ is.
            let place = here e n is in
            let less = not_full tree d b n place.1 (subst (λ (z : ℕ). is_full tree z n ≡ false) place.0 room) in
            let most = more_at_most rows n c in
            omega arith
        | false ↦ λ is. within.buckets d b
      ] refl
  bounded (Moves p n q m x) (Some kind) f room = absurd f
  bounded (Moves p n q m x) None f room =
      let most = within.buckets d b in
      let less = without p n in
      elim (nat_eq q d && test m) as (λ t. (nat_eq q d && test m) ≡ t
      → len (cond t (insert (part_without d test p n rows) m x) (part_without d test p n rows)) ≤ BUCKET_ROWS) [
        | true ↦ λ is. elim room [
          | inl there ↦ let way = gives_way p n q m x f.row there is in omega arith
          | inr free ↦
              let place = here q m is in
              let fewer = not_full tree d b m place.1 (subst (λ (z : ℕ). is_full tree z m ≡ false) place.0 free) in
              let one = more_at_most (part_without d test p n rows) m x in
              omega arith
        ]
        | false ↦ λ is. omega arith
      ] refl

-- a directory's bytes stay none
plain_after : (tree : TreeState) (core : ℕ) (effect : Effect) (makes : Option Kind) → Fits tree core effect makes → IsWithinLimits tree → (node : ℕ)
    → is_directory (tree_with tree core effect makes) node ≡ true → bytes_of (tree_with tree core effect makes) node ≡ []
plain_after tree core effect makes f within node kind =
    bytes_with tree core effect makes node f ∙ of effect makes f kind
  where
    was : (effect : Effect) (makes : Option Kind) → Fits tree core effect makes → is_directory (tree_with tree core effect makes) node ≡ true
        → bytes_of tree node ≡ []
    was effect makes f kind = there (get tree.nodes node) refl
      where
        there : (o : Option Rattle.tree_laws.specs.Tree.Node) → get tree.nodes node ≡ o → bytes_of tree node ≡ []
        there None none =
            ap (λ (o : Option Rattle.tree_laws.specs.Tree.Node). Rattle.std.specs.Option.option_map_or (λ (n : Rattle.tree_laws.specs.Tree.Node). n.bytes) o [])
            none
        there (Some n) some = within.plain node (sym (directory_stays tree core effect makes node f (subst IsSome (sym some) refl)) ∙ kind)

    of : (effect : Effect) (makes : Option Kind) → Fits tree core effect makes → is_directory (tree_with tree core effect makes) node ≡ true
        → bytes_after effect node (bytes_of tree node) ≡ []
    of Stays makes f kind = was Stays makes f kind
    of (Adds d n c) makes f kind = was (Adds d n c) makes f kind
    of (Removes d n c) makes f kind = was (Removes d n c) makes f kind
    of (Moves p n q m x) makes f kind = was (Moves p n q m x) makes f kind
    of (Edits file edit) (Some k) f kind = absurd f
    of (Edits file edit) None f kind =
        elim (nat_eq file node) as (λ b. nat_eq file node ≡ b
        → cond b (Rattle.tree_laws.specs.Effect.edited edit (bytes_of tree node)) (bytes_of tree node) ≡ []) [
          | true ↦
              λ t. absurd
              (edited_file (subst (λ (z : ℕ). IsSome (get tree.nodes z)) (eqb-true _ _ t) f.node)
              (subst (λ (z : ℕ). is_directory tree z ≡ false) (eqb-true _ _ t) f.kind))
          | false ↦ λ t. was (Edits file edit) None f kind
        ] refl
      where
        edited_file : IsSome (get tree.nodes node) → is_directory tree node ≡ false → ⊥
        edited_file there kind_was = let same = directory_stays tree core (Edits file edit) None node f there in cc

-- a call keeps a tree within its limits
pub calls_stay_within : (tree : TreeState) (core : ℕ) (c : Call) → IsSoundTree tree → core < length tree.made → IsWithinLimits tree
    → IsWithinLimits (Rattle.tree_laws.specs.Verdict.tree_after_call tree core c)
calls_stay_within tree core c is lt within =
    let fits = calls_fit tree core c is lt in
    let effect = (verdict tree core c).effect in
    let makes = (verdict tree core c).makes in
    record {
      buckets =
          λ d b. subst (λ (m : FinMap name_cmp ℕ). len m ≤ BUCKET_ROWS) (sym (parts_after tree core effect makes d (λ name. nat_eq (bucket name) b)))
          (bounded tree core within d b effect makes fits (calls_have_room tree core c));
      plain = plain_after tree core effect makes fits within;
    }

within_from : (stamp k : ℕ) (first : TreeState) (history : List Entry) → IsSoundTree first → IsLegalFrom first stamp history → IsWithinLimits first
    → IsWithinLimits (tree_after first (take k history))
within_from stamp zero first [] is legal within = within
within_from stamp zero first (entry ∷ history) is legal within = within
within_from stamp (suc k) first [] is legal within = within
within_from stamp (suc k) first (entry ∷ history) is legal within =
    within_from (suc stamp) k (tree_after_entry first entry) history (calls_keep_sound first entry.core.0 entry.call is legal.0.core) legal.1
    (calls_stay_within first entry.core.0 entry.call is legal.0.core within)

pub histories_stay_within : HistoriesStayWithin
histories_stay_within first history count is legal within = within_from 0 count first history is legal within
