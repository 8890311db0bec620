-- What an fsync makes, needs and leaves, over a longer history.
use Rattle.std.proofs.Common.{◌≡◌, ℕ, ◌*◌, ◌/◌, ◌%◌, ◌<◌, ◌≤◌, Bool, true, false, cond, not, ◌&&◌, ◌||◌, nat_eq, List, [], ◌∷◌, ◌++◌, length, take, Some, IsSome, Option, None, is_some, inl, inr, refl, sym, ap, subst, ◌∙◌, arith}
use borrow.Author.Tests.{lt-ltb}
use Rattle.std.specs.Prelude.{◌↔◌, max}
use Rattle.std.specs.FinMap.{get}
use Rattle.std.proofs.lemmas.Bool.{cases_Bool}
use Rattle.std.proofs.lemmas.List.{length-append}
use Rattle.std.proofs.Math.Path.{fun_ext}
use Rattle.std.proofs.Math.Seq.{take-append_seam}
use Rattle.sfs_base.proofs.BasicTruth.{and_false, and_first}
use Rattle.sfs_base.proofs.BasicOptions.{none_some, some_same}
use Rattle.sfs_base.specs.Listed.{is_listed}
use Rattle.sfs_image.specs.Seen.{PLACES}
use Rattle.tree_laws.specs.declared.history.Entry.{Entry}
use Rattle.tree_laws.specs.History.{tree_after, IsLegal}
use Rattle.tree_laws.specs.Laws.{IsSoundTree}
use Rattle.tree_laws.specs.Tree.{TreeState, names_of, is_directory, bytes_of}
use Rattle.absorb.specs.Net.{IsNet}
use Rattle.image_laws.specs.Commit.{IsCommit, slots_after}
use Rattle.image_laws.specs.Need.{Rewrite, directory_rewrite, file_rewrite, takes_place, pointer_after, rank}
use Rattle.image_laws.specs.Numbers.{grant_for, numbers_after}
use Rattle.cut_laws.specs.Closure.{every_entry, Flush, HasLiveNode, Closure, AreFlushed, one_more}
use Rattle.cut_laws.specs.Cut.{Cut, cut_of, tree_at_cut}
use Rattle.cut_laws.specs.LawsGrowth.{HasMoreNodes}
use Rattle.cut_laws.specs.Laws.{KeepsAll}
use Rattle.cut_laws.specs.Rules.{IsOneOf}
use Rattle.cut_laws.specs.Runs.{view_by}
use Rattle.cut_laws.proofs.Alike.{inodes_alike}
use Rattle.cut_laws.proofs.CutNodes.{cuts_keep_kinds}
use Rattle.cut_laws.proofs.Lists.{lists_keep}
use Rattle.cut_laws.proofs.OneCommit.{alike_on}
use Rattle.cut_laws.proofs.Prefix.{legal_take}
use Rattle.cut_laws.proofs.Prefixes.{prefixes_count}
use Rattle.cut_laws.proofs.Recount.{recounts}
use Rattle.cut_laws.proofs.RunFacts.{cuts_stay_low}
use Rattle.cut_laws.proofs.Views.{below, IsHeld, AreAlike}
use Rattle.cut_laws.proofs.WholeHistory.{none_above, cut_trees_grow}
use Rattle.turn_laws.specs.Need.{ImageState, Made, IsMadeBy, tree_before, tree_made, seen_under, stand_in, rewrite_needed, node_bound, enters_by_made, needs_place, needs_in_row, need_of}
use Rattle.turn_laws.specs.Books.{commit_made, GivesGranted, IsRewritten, Leaves}
use Rattle.turn_laws.specs.OneThread.{Resting, machine_at}
use Rattle.turn_laws.specs.Touched.{is_touched_between}
use Rattle.turn_laws.proofs.LongerEdits.{touched_longer}
use Rattle.turn_laws.proofs.MoreNodes.{directory_more, bytes_more, slots_more, commit_more}

-- An fsync over a history and over one that goes on from it, from a cut that the same fsyncs have raised over both.
pub record GoesOn (first : TreeState) (history more : List Entry) (flushes : List Flush) (rest : Resting) (flush : Flush) : Type 0 where
  pub sound : IsSoundTree first
  pub legal : IsLegal first (history ++ more)
  pub flushed : AreFlushed first history every_entry flushes rest.cut rest.inodes
  pub flushed_whole : AreFlushed first (history ++ more) every_entry flushes rest.cut rest.inodes
  pub stamps : (other : Flush) → IsOneOf flushes other → other.stamp ≤ length history
  pub stamp : flush.stamp ≤ length history
  pub live : HasLiveNode first (history ++ more) flush

module _ (first : TreeState) (history more : List Entry) (flushes : List Flush) (rest : Resting) (flush : Flush)
    (go : GoesOn first history more flushes rest flush) where
  abbrev whole : List Entry
  whole = history ++ more

  abbrev n : ℕ
  n = length history

  before : take n whole ≡ history
  before = take-append_seam history more

  within : n ≤ length whole
  within = let e = length-append history more in omega arith

  legal_before : IsLegal first history
  legal_before = subst (IsLegal first) before (legal_take first whole n go.legal)

  low : (node : ℕ) → cut_of rest.cut node ≤ n
  low = cuts_stay_low first history every_entry n go.flushed (none_above n) go.stamps

  held : IsHeld first whole rest.cut rest.inodes
  held = let all = lists_keep first whole flushes rest.cut rest.inodes go.sound go.legal go.flushed_whole in record { kept = all.kept; named = all.named }

  pub alike : AreAlike first flush (view_by history every_entry rest.cut rest.inodes) (view_by whole every_entry rest.cut rest.inodes)
  alike =
      subst (λ (h : List Entry). AreAlike first flush (view_by h every_entry rest.cut rest.inodes) (view_by whole every_entry rest.cut rest.inodes)) before
      (alike_on first flush (view_by (take n whole) every_entry rest.cut rest.inodes) (view_by whole (below n) rest.cut rest.inodes)
      (view_by whole every_entry rest.cut rest.inodes)
      (prefixes_count first whole n flush rest.cut rest.inodes go.sound go.legal within go.stamp go.live)
      (recounts first whole n (below n) every_entry flush rest.cut rest.inodes go.sound go.legal (λ t lt. lt-ltb t n lt)
      (λ t lt. refl) low go.stamp go.live held))

  module _ (made : Made) (is : IsMadeBy (machine_at first history rest) flush made) where
    raised_low : (node : ℕ) → cut_of made.raised node ≤ n
    raised_low node = elim (is.raises.other node) [
      | inl own ↦ let e = is.raises.member node own in let a = low node in let b = go.stamp in omega arith
      | inr e ↦ let a = low node in omega arith
    ]

    more_old : HasMoreNodes (tree_at_cut first history rest.cut) (tree_at_cut first whole rest.cut)
    more_old =
        subst (λ (h : List Entry). HasMoreNodes (tree_at_cut first h rest.cut) (tree_at_cut first whole rest.cut)) before
        (cut_trees_grow first whole n rest.cut go.sound go.legal low)

    more_new : HasMoreNodes (tree_at_cut first history made.raised) (tree_at_cut first whole made.raised)
    more_new =
        subst (λ (h : List Entry). HasMoreNodes (tree_at_cut first h made.raised) (tree_at_cut first whole made.raised)) before
        (cut_trees_grow first whole n made.raised go.sound go.legal raised_low)

    -- it makes the same
    pub made_longer : IsMadeBy (machine_at first whole rest) flush made
    made_longer = record {
      concerned = λ node. (λ t. (alike.concerned node).0 ((is.concerned node).0 t), λ c. (is.concerned node).1 ((alike.concerned node).1 c));
      raises = (alike.raises made.raised).0 is.raises;
      inodes_after =
          inodes_alike first flush (view_by history every_entry rest.cut rest.inodes)
          (view_by whole every_entry rest.cut rest.inodes) made.raised made.after alike is.raises is.inodes_after;
      each_net = λ node.
          subst (λ rows. IsNet (names_of node rows) (names_of node (tree_at_cut first whole made.raised).rows) (made.nets node)) (sym more_old.rows)
          (subst (λ rows. IsNet (names_of node (tree_at_cut first history rest.cut).rows) (names_of node rows) (made.nets node)) (sym more_new.rows)
          (is.each_net node));
    }

    kept_before : KeepsAll first history rest.cut rest.inodes
    kept_before = lists_keep first history flushes rest.cut rest.inodes go.sound legal_before go.flushed

    kept_after : KeepsAll first history made.raised made.after
    kept_after =
        lists_keep first history (flushes ++ flush ∷ []) made.raised made.after go.sound legal_before
        (one_more flushes flush rest.cut made.raised rest.inodes made.after go.flushed is.raises is.inodes_after)

    -- a node with an inode is one of the trees
    old_node : (node : ℕ) → made.after node ≡ true → IsSome (get (tree_at_cut first history rest.cut).nodes node)
    old_node node has = ((cuts_keep_kinds first history rest.cut).nodes node).1 (kept_after.nodes node has)

    new_node : (node : ℕ) → made.after node ≡ true → IsSome (get (tree_at_cut first history made.raised).nodes node)
    new_node node has = ((cuts_keep_kinds first history made.raised).nodes node).1 (kept_after.nodes node has)

    -- of such a node it rewrites the same
    rewrite_longer : (image : ImageState) (node : ℕ) → made.after node ≡ true
        → rewrite_needed (machine_at first whole rest) image made node ≡ rewrite_needed (machine_at first history rest) image made node
    rewrite_longer image node has =
        let new = tree_at_cut first history made.raised in
        let longer = tree_at_cut first whole made.raised in
        λ i. cond (directory_more new longer kept_after.sound more_new node (new_node node has) i)
        (directory_rewrite (seen_under image node)
        (slots_more new longer kept_after.sound more_new (stand_in image.image) node (names_of node (tree_at_cut first history rest.cut).rows)
        (made.nets node) (is.each_net node) (seen_under image node).slots i))
        (file_rewrite (touched_longer first history more go.sound go.legal node (cut_of rest.cut node) (cut_of made.raised node) (low node) (raised_low node) i)
        (seen_under image node) (bytes_more new longer kept_after.sound more_new node (new_node node has) i))

    takes_longer : (image : ImageState) (p : ℕ)
        → needs_in_row (machine_at first whole rest) image made p ≡ needs_in_row (machine_at first history rest) image made p
    takes_longer image p = elim (cases_Bool (made.after (p / PLACES))) [
      | inl has ↦ ap (λ (r : Rewrite). needs_place made (λ node. r) p) (rewrite_longer image (p / PLACES) has)
      | inr lacks ↦ none _ lacks ∙ sym (none _ lacks)
    ]
      where
        none : (b : Bool) → made.after (p / PLACES) ≡ false → ((made.concerns (p / PLACES) && made.after (p / PLACES)) && b) ≡ false
        none b lacks = ap (λ a. a && b) (ap (λ a. made.concerns (p / PLACES) && a) lacks ∙ and_false (made.concerns (p / PLACES)))

    -- and needs the same
    pub need_longer : (image : ImageState) → need_of (machine_at first whole rest) image made ≡ need_of (machine_at first history rest) image made
    need_longer image = λ i. record {
      inodes = rank (enters_by_made (machine_at first history rest) made) (node_bound first);
      blocks = rank (λ p. takes_longer image p i) (PLACES * node_bound first);
    }

    module _ (granted : List ℕ) (image next : ImageState) (leaves : Leaves (machine_at first history rest) made granted image next) where
      -- a node with a number has an inode
      numbered_after : (node i : ℕ) → next.num node ≡ Some i → made.after node ≡ true
      numbered_after node i is = by (image.num node) refl (sym (leaves.gives.numbers node) ∙ is)
        where
          listed : (entering grant : List ℕ) → grant_for entering grant node ≡ Some i → is_listed entering node ≡ true
          listed [] grant e = absurd (none_some e)
          listed (enters ∷ entering) [] e = absurd (none_some e)
          listed (enters ∷ entering) (j ∷ grant) e = elim (cases_Bool (nat_eq enters node)) [
            | inl t ↦ ap (λ b. b || is_listed entering node) t
            | inr f ↦ ap (λ b. b || is_listed entering node) f ∙ listed entering grant (sym (ap (λ b. cond b (Some j) (grant_for entering grant node)) f) ∙ e)
          ]

          kept : (b : Bool) (old : ℕ) → cond (not b) None (Some old) ≡ Some i → b ≡ true
          kept true old found = refl
          kept false old found = absurd (none_some found)

          by : (o : Option ℕ) → image.num node ≡ o
              → cond (is_some o) (cond (not (made.after node)) None o) (grant_for leaves.gives.entering granted node) ≡ Some i → made.after node ≡ true
          by (Some old) e found = kept (made.after node) old found
          by None e found = and_first (made.after node) (not (rest.inodes node)) (sym (leaves.gives.each node) ∙ listed leaves.gives.entering granted found)

      rewritten_longer : (node i place : ℕ) → made.after node ≡ true
          → IsRewritten (machine_at first history rest) made image next leaves.takes leaves.fresh node i place
          → IsRewritten (machine_at first whole rest) made image next leaves.takes leaves.fresh node i place
      rewritten_longer node i place has was = record {
        taken = was.taken ∙ ap (λ (r : Rewrite). takes_place r place) (sym (rewrite_longer image node has));
        pointer = was.pointer ∙ ap (λ (r : Rewrite). pointer_after r (leaves.fresh i) place) (sym (rewrite_longer image node has));
      }

      -- and leaves the same
      pub leaves_longer : Leaves (machine_at first whole rest) made granted image next
      leaves_longer = record {
        takes = leaves.takes;
        fresh = leaves.fresh;
        commits =
            commit_more (commit_made made image next leaves.takes leaves.fresh) (tree_at_cut first history rest.cut) (tree_at_cut first history made.raised)
            (tree_at_cut first whole rest.cut) (tree_at_cut first whole made.raised) image.image next.image
            kept_before.sound kept_after.sound more_old more_new leaves.commits
            (λ node i numbered. old_node node (numbered_after node i numbered)) (λ node i numbered. new_node node (numbered_after node i numbered));
        gives = record {
          entering = leaves.gives.entering;
          ascending = leaves.gives.ascending;
          each = leaves.gives.each;
          enough = leaves.gives.enough;
          numbers = leaves.gives.numbers;
        };
        rewrites =
            λ node i place numbered concerned within. rewritten_longer node i place (numbered_after node i numbered)
            (leaves.rewrites node i place numbered concerned within);
        lies = leaves.lies;
        first_block = leaves.first_block;
        end_block = leaves.end_block;
      }
