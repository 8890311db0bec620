-- Why a node can't be made, by the values that are held, and its number.
use Rattle.std.proofs.Common.{◌≡◌, ◌≢◌, ◌<◌, ◌≤◌, ◌+◌, ◌*◌, ℕ, Bool, true, false, not, length, List, Option, Some, None, refl, sym, ap, subst, ◌∙◌, arith}
use Rattle.std.specs.Prelude.{is_some, nat_le, IfSome, if◌then◌else◌}
use Rattle.std.specs.Option.{option_or}
use Rattle.std.specs.FinMap.{get, len}
use Rattle.std.proofs.Math.Nat.{mul-le-mul_left}
use Rattle.sfs_base.specs.Name.{bucket}
use Rattle.sfs_base.specs.declared.numbers.NodeId.{NodeId}
use Rattle.sfs_base.specs.declared.numbers.Kind.{Kind}
use Rattle.sfs_base.proofs.BasicOptions.{none_not_some}
use Rattle.tree_laws.specs.declared.call.Call.TheVariants as call
use Rattle.tree_laws.specs.declared.reply.Code.{Code}
use Rattle.tree_laws.specs.declared.reply.Code.TheVariants.{NoEntry, NotDir, Exists, DirFull, NoNodes}
use Rattle.tree_laws.specs.declared.reply.Reply.TheVariants as reply
use Rattle.tree_laws.specs.Tree.{TreeState, row_of, is_alive, is_directory, made_by, next_number}
use Rattle.tree_laws.specs.Effect.{Adds}
use Rattle.tree_laws.specs.Verdict.{verdict, refused, or_else, directory_fault, make_fault, make_node, is_full}
use Rattle.tree_laws.proofs.Numbers.{fresh_number}
use Rattle.tree_laws.proofs.KeepsNodes.{directory_node}
use Rattle.mem_values.specs.Start.{FileHand, FileState}
use Rattle.mem_values.specs.declared.cell.PartCell.{PartCell}
use Rattle.mem_values.specs.declared.bucket.Bucket.{Bucket}
use Rattle.mem_values.specs.Places.{node_count}
use Rattle.mem_values.specs.Stands.{ShowsBucket}
use Rattle.mem_values.specs.Laws.{MayMeet}
use Rattle.mem_calls.specs.Table.{IsFileTable, AreNumbersOf}
use Rattle.mem_calls.specs.Held.{part_held}
use Rattle.mem_calls.specs.declared.numbers.Numbers.{Numbers}
use Rattle.mem_calls.specs.Creations.{creates, IsNextNumber, HasNext}
use Rattle.mem_calls.proofs.Shown.{part_shows}
use Rattle.mem_calls.proofs.NamedRows.{row_in}
use Rattle.mem_calls.proofs.LinkFaults.{at_most, above}

module _ (tree : TreeState) (core : ℕ) (dir : NodeId) (name : List ℕ) (kind : Kind) where
  abbrev rest : Option Code
  rest = if is_some (row_of tree dir.0 name) then Some Exists else if is_full tree dir.0 name then Some DirFull else if nat_le tree.share
      (made_by tree core) then Some NoNodes else None

  make_by : (fault : Option Code) → make_fault tree core dir.0 name ≡ fault
      → verdict tree core (call.Make dir name kind) ≡ or_else fault (make_node tree core dir.0 name kind)
  make_by fault is = ap (λ f. or_else f (make_node tree core dir.0 name kind)) is

  pub make_refused : (code : Code) → directory_fault tree dir.0 ≡ Some code → verdict tree core (call.Make dir name kind) ≡ refused code
  make_refused code fault = make_by (Some code) (ap (λ f. option_or f rest) fault)

  module _ (place : directory_fault tree dir.0 ≡ None) (b : Bucket) (shows : ShowsBucket tree dir.0 (bucket name) b) where
    chain : (row full out : Bool) → is_some (get b.rows name) ≡ row → nat_le 4096 (len b.rows) ≡ full → nat_le tree.share (made_by tree core) ≡ out
        → make_fault tree core dir.0 name ≡ (if row then Some Exists else if full then Some DirFull else if out then Some NoNodes else None)
    chain row full out row_is full_is out_is =
        ap (λ f. option_or f rest) place
        ∙ (λ i. if (ap is_some (row_in tree dir.0 name b shows) ∙ row_is) i then Some Exists else if
        (ap (λ m. nat_le 4096 (len m)) (sym shows.rows) ∙ full_is) i then Some DirFull
        else if out_is i then Some NoNodes else None)

    pub make_exists : is_some (get b.rows name) ≡ true → verdict tree core (call.Make dir name kind) ≡ refused Exists
    make_exists row = make_by (Some Exists) (chain true (nat_le 4096 (len b.rows)) (nat_le tree.share (made_by tree core)) row refl refl)

    pub make_full : is_some (get b.rows name) ≡ false → 4096 ≤ len b.rows → verdict tree core (call.Make dir name kind) ≡ refused DirFull
    make_full row full = make_by (Some DirFull) (chain false true (nat_le tree.share (made_by tree core)) row (at_most 4096 (len b.rows) full) refl)

    pub make_out : is_some (get b.rows name) ≡ false → len b.rows < 4096 → tree.share ≤ made_by tree core
        → verdict tree core (call.Make dir name kind) ≡ refused NoNodes
    make_out row free out = make_by (Some NoNodes) (chain false false true row (above 4096 (len b.rows) free) (at_most tree.share (made_by tree core) out))

    pub make_done : (child : NodeId) → is_some (get b.rows name) ≡ false → len b.rows < 4096 → made_by tree core < tree.share → next_number tree core ≡ child.0
        → verdict tree core (call.Make dir name kind) ≡ creates child dir name kind
    make_done child row free some number =
        make_by None (chain false false false row (above 4096 (len b.rows) free) (above tree.share (made_by tree core) some))
        ∙ (λ i. record { reply = reply.Node (record { 0 = number i }) kind; effect = Adds dir.0 name (number i); makes = Some kind })

-- the number that a core gives next, in a tree that it may meet
module _ (hand : FileHand) (nodes : ℕ) (counted : nodes ≡ node_count hand.view.first) (next : Option NodeId) (has : HasNext nodes hand next) where
  count_below : (made : ℕ) → made < hand.view.first.share → hand.view.first.first + hand.view.core * hand.view.first.share + made < nodes
  count_below made lt =
      let known = has.known in
      let up : hand.view.core + 1 ≤ length hand.view.first.made = omega (arith, known) in
      let most = mul-le-mul_left hand.view.first.share up in
      omega (arith, lt, most, counted)

  -- a core counts fewer nodes than there are numbers
  made_below : (child : NodeId) → next ≡ Some child → has.part.made < nodes
  made_below child is =
      let n = subst (λ o. IsNextNumber hand.view.first.first hand.view.first.share hand.view.core has.part.made o) is has.next_is in
      let below = count_below has.part.made n.0 in
      omega (arith, below)

  pub few_made : (child : NodeId) → next ≡ Some child → nodes < 4294967296 → (part : PartCell) → part_held nodes hand.held hand.view.core ≡ Some part
      → part.made < 4294967295
  few_made child is fits part held =
      let same : has.part ≡ part = cc (sym has.held ∙ held) in
      subst (λ (p : PartCell). p.made < 4294967295) same (let below = made_below child is in omega (arith, below, fits))

  module _ (tree : TreeState) (meets : MayMeet hand.view hand.held tree) where
    made_is : has.part.made ≡ made_by tree hand.view.core
    made_is = part_shows hand nodes counted tree meets hand.view.core has.part has.known has.held

    pub none_left : next ≡ None → tree.share ≤ made_by tree hand.view.core
    none_left is =
        let n = subst (λ o. IsNextNumber hand.view.first.first hand.view.first.share hand.view.core has.part.made o) is has.next_is in
        let share = meets.share in
        let made = made_is in
        omega (arith, n, share, made)

    pub some_left : (child : NodeId) → next ≡ Some child → made_by tree hand.view.core < tree.share
    some_left child is =
        let n = subst (λ o. IsNextNumber hand.view.first.first hand.view.first.share hand.view.core has.part.made o) is has.next_is in
        let few = n.0 in
        let share = meets.share in
        let made = made_is in
        omega (arith, few, share, made)

    pub number_is : (child : NodeId) → next ≡ Some child → next_number tree hand.view.core ≡ child.0
    number_is child is =
        let n = subst (λ o. IsNextNumber hand.view.first.first hand.view.first.share hand.view.core has.part.made o) is has.next_is in
        (λ i. meets.first i + hand.view.core * meets.share i + sym made_is i) ∙ sym n.1

    -- no node has it yet, so it is not that of a directory
    pub not_there : (child dir : NodeId) → next ≡ Some child → directory_fault tree dir.0 ≡ None → child.0 ≢ dir.0
    not_there child dir is place same =
        let known : hand.view.core < length tree.made = (let k = has.known in let cores = meets.cores in omega (arith, k, cores)) in
        let fresh = fresh_number tree hand.view.core meets.sound.numbered known (some_left child is) in
        let node = directory_node tree dir.0 (is_one (is_alive tree dir.0) (is_directory tree dir.0) place) in
        none_not_some (get tree.nodes dir.0) (ap (get tree.nodes) (sym same ∙ sym (number_is child is)) ∙ fresh) node
      where
        is_one : (a d : Bool) → ◌≡◌ {A = Option Code} (if not a then Some NoEntry else if not d then Some NotDir else None) None → d ≡ true
        is_one false d is = absurd (cc (is))
        is_one true false is = absurd (cc (is))
        is_one true true is = refl

-- the numbers of a table's cores
module _ (t : FileState) (nodes : ℕ) (table : IsFileTable t nodes) (numbers : Numbers) (are : AreNumbersOf t.first numbers) (core : ℕ)
    (known : core < length t.first.made) where
  shares_below : numbers.first + core * numbers.share + numbers.share ≤ nodes
  shares_below =
      let up : core + 1 ≤ length t.first.made = omega (arith, known) in
      let most = mul-le-mul_left t.first.share up in
      let count = table.counted in
      let all : t.first.first + core * t.first.share + t.first.share ≤ nodes = omega (arith, most, count) in
      subst (λ (n : ℕ × ℕ). n.0 + core * n.1 + n.1 ≤ nodes) (λ i. (sym are.first_is i, sym are.share_is i)) all

  pub next_below : (made : ℕ) (next : Option NodeId) → IsNextNumber numbers.first numbers.share core made next → IfSome next (λ child. child.0 < nodes)
  next_below made None is = tt
  next_below made (Some child) is = let below = shares_below in let few = is.0 in let number = is.1 in omega (arith, below, few, number)
