-- What is built shows the image that the commit makes, and this image stands for the new tree.
use Rattle.std.proofs.Common.{◌≡◌, ℕ, ◌-◌, ◌*◌, ◌/◌, Bool, true, false, cond, not, ◌&&◌, List, length, Option, Some, option_map, refl, sym, ap, ◌∙◌, nat_lt, nat_eq}
use Rattle.std.specs.Prelude.{slice_get}
use Rattle.std.specs.Option.{unwrap_or}
use Rattle.std.proofs.lemmas.Option.{slice_get-map}
use Rattle.sfs_image.specs.Seen.{Seen, FILE_BLOCKS}
use Rattle.sfs_image.specs.Slot.{kind_byte}
use Rattle.tree_laws.specs.Tree.{kind_of, links_of, bytes_of}
use Rattle.image_laws.specs.Commit.{seen_before, slots_after}
use Rattle.image_laws.specs.Need.{Rewrite, takes_place, pointer_after, rewrites_table, table_has_pointer}
use Rattle.image_laws.specs.Slots.{in_blocks}
use Rattle.image_laws.proofs.Committed.{commits_keep_standing}
use Rattle.block_map.specs.Remap.{fresh_for}
use Rattle.disk_change.specs.AllBuilt.{numbers_with}
use Rattle.disk_change.specs.Built.{Built, built, rewrite_in}
use Rattle.disk_change.specs.Seated.{Seated, seated, net_of_node}
use Rattle.disk_change.proofs.NumbersGiven.{planned_node}
use Rattle.commit_laws.specs.CommitMade.{seated_nodes, rewrites_seated}
use Rattle.commit_laws.specs.Ranked.{fresh_cut}
use Rattle.commit_laws.specs.Whole.{BuiltNodesShowTheirInodes, ChangesLeaveTrees}
use Rattle.commit_laws.proofs.CommitMade.{by_rank, rewrite_of_node, changes_make_commits}
use Rattle.commit_laws.proofs.Ranked.{nodes_are_built_by_rank}
use Rattle.commit_laws.proofs.Shown.{built_nodes_show}

-- a pointer afterwards asks for a fresh block only where its place takes one
pointers_agree : (rewrite : Rewrite) (fresh other : ℕ → ℕ) (place : ℕ) → (takes_place rewrite place ≡ true → fresh place ≡ other place)
    → pointer_after rewrite fresh place ≡ pointer_after rewrite other place
pointers_agree rewrite fresh other place same =
    by (nat_lt place FILE_BLOCKS) (rewrite.is_rewritten place) (rewrite.is_zero place) (rewrites_table rewrite (place - FILE_BLOCKS))
    (table_has_pointer rewrite (place - FILE_BLOCKS)) (fresh place) (other place) (rewrite.pointers place) same
  where
    by : (low rewritten empty table some : Bool) (a b stands : ℕ) → (cond low (rewritten && not empty) (table && some) ≡ true → a ≡ b)
        → cond low (cond rewritten (cond empty 0 a) stands) (cond table (cond some a 0) stands)
        ≡ cond low (cond rewritten (cond empty 0 b) stands) (cond table (cond some b 0) stands)
    by true true true table some a b stands same = refl
    by true true false table some a b stands same = same refl
    by true false empty table some a b stands same = refl
    by false rewritten empty true true a b stands same = same refl
    by false rewritten empty true false a b stands same = refl
    by false rewritten empty false some a b stands same = refl

pub built_nodes_show_their_inodes : BuiltNodesShowTheirInodes
built_nodes_show_their_inodes commit change grant old new image concerned i m begun is at =
    let numbers : ℕ → Option ℕ = numbers_with change grant.inodes in
    let seat : Seated = seated change.changes begun in
    let seen : Seen = seen_before commit image begun.node in
    let node : seat.node ≡ begun.node = planned_node change.changes begun begun.kind in
    let fresh : List ℕ = fresh_cut change.seats grant.blocks m seat in
    let number : ℕ = unwrap_or (numbers seat.node) 0 in
    let one : Built = built numbers (net_of_node change.changes.nets begun.node) number fresh seat in
    let ranked = nodes_are_built_by_rank change grant m seat at.seat in
    let shows = built_nodes_show old new numbers commit.after seen change.changes begun number fresh at.begins at.leads at.numbers in
    let kind = shows.kind ∙ ap (λ n. kind_byte (kind_of new n)) node in
    let slots =
    shows.slots ∙ ap (λ n. in_blocks (slots_after commit.after new (net_of_node change.changes.nets n) seen.slots)) node
    ∙ ap (λ net. in_blocks (slots_after commit.after new net seen.slots)) (sym (is.nets begun.node)) in
    let own : slice_get (seated_nodes change) m ≡ Some begun.node =
    slice_get-map (λ (s : Seated). s.node) change.seats m ∙ ap (option_map (λ (s : Seated). s.node)) at.seat ∙ ap Some node in
    let rewritten : slice_get (rewrites_seated change) m ≡ Some (rewrite_in seat) =
    slice_get-map rewrite_in change.seats m ∙ ap (option_map rewrite_in) at.seat in
    let ranks = by_rank commit change grant old new image concerned is in (
      one,
      ranked.built ∙ ap (λ n. Some (built numbers (net_of_node change.changes.nets n) number fresh seat)) node,
      record {
        kind = kind;
        links = shows.links ∙ ap (links_of new) node;
        size = shows.size ∙ (λ j. cond (nat_eq (kind j) 2) (4096 * (length (slots j) / 15)) (length (bytes_of new (node j))));
        slots = slots;
        blocks = λ place within.
            shows.blocks place within
            ∙ pointers_agree (rewrite_in seat) (fresh_for (rewrite_in seat) fresh) (commit.fresh i) place
            (λ takes. ranked.fresh place within takes ∙ sym (ranks.fresh i m place at.inode))
            ∙ ap (λ (r : Rewrite). pointer_after r (commit.fresh i) place)
            (sym (rewrite_of_node commit change grant old new image concerned is begun.node m (rewrite_in seat) own rewritten));
      },
    )

pub changes_leave_trees : ChangesLeaveTrees
changes_leave_trees commit change grant old new image concerned making stands sound is leads serves next_sound follows storable =
    commits_keep_standing commit old new image _ making (record {
      stands = stands;
      sound = sound;
      commits = changes_make_commits commit change grant old new image concerned stands is leads serves;
      next_sound = next_sound;
      follows = follows;
      storable = storable;
    })
