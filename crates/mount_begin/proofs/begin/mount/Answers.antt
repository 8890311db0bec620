-- A mount recovers, and gathers what is kept.
use Rattle.std.proofs.Common.{◌≡◌, ℕ, ◌*◌, ◌/◌, ◌≤◌, List, length, map, replicate, Some, refl, sym, ap, subst, ◌∙◌, arith}
use Rattle.std.specs.Prelude.{slice_index}
use Rattle.std.proofs.lemmas.List.{length-replicate}
use Rattle.std.proofs.Math.Nat.{div-mul-le_self}
use Rattle.sfs_image.specs.Super.{Layout}
use Rattle.tree_laws.specs.Sound.{IsSound, IsWithinLimits}
use Rattle.tree_laws.specs.Tree.{TreeState}
use Rattle.image_laws.specs.Image.{tree_of}
use Rattle.keyed_list.specs.Ascending.{AscendBy}
use Rattle.disk_nodes.specs.Nodes.{entry_node}
use Rattle.disk_nodes.specs.declared.old.OldEntry.{OldEntry}
use Rattle.disk_tree.specs.KeptParts.{NumberedKept}
use Rattle.recovery.specs.Freed.{without_unlinked}
use Rattle.recovery.specs.Recovered.{IsSoundReport}
use Rattle.recovery.specs.declared.whole.Report.{Report}
use Rattle.mount_begin.specs.Mounted.{entry_mounted, share_of_nodes}
use Rattle.mount_begin.proofs.EntriesAscend.{entries_ascend}
use Rattle.mount_begin.proofs.Shared.{sound_shared, limits_shared, shared_tree_of}
use Rattle.sfs_base.proofs.BasicLists.{zeros_read}
use Rattle.mount_begin.proofs.begin.mount.Goals as goal

pub entries_of-requires : goal.entries_of-requires
entries_of-requires g c =
    let sound = c.in_ok-layout.ensures.sound in
    subst (λ (kept : List NumberedKept). AscendBy entry_node (map entry_mounted kept)) (sym sound.kept)
    (entries_ascend c.in_ok-layout.field-0.layout.inodes (without_unlinked sound.parts))

pub returns-clause-ok : goal.returns-clause-ok
returns-clause-ok g c image told =
    let report = c.in_ok-layout.field-0 in
    let own = c.in_ok-layout.ensures.ok image told in
    let shared : c.allow.new.self ≡ record report.tree { share = share_of_nodes c.args.nodes report.layout } =
    c.allow.ensures.share ∙ ap (λ share. record report.tree { share = share }) c.share_of.ensures in
    record {
      layout_is = own.layout_is;
      whole = own.whole;
      tree = shared_tree_of image (share_of_nodes c.args.nodes report.layout) report.tree own.tree ∙ ap Some (sym shared);
      entries = c.in_ok-old.ensures ∙ ap (map entry_mounted) own.kept;
    }

pub returns-clause-sound : goal.returns-clause-sound
returns-clause-sound g c =
    let report = c.in_ok-layout.field-0 in
    let own = c.in_ok-layout.ensures.sound in
    let share = share_of_nodes c.args.nodes report.layout in
    let shared : c.allow.new.self ≡ record report.tree { share = share } =
    c.allow.ensures.share ∙ ap (λ share. record report.tree { share = share }) c.share_of.ensures in
    record {
      fits = own.fits;
      sound = record { sound = subst IsSound (sym shared) (sound_shared report.tree share own.sound.sound); numbered = c.allow.ensures.numbered };
      limits = subst IsWithinLimits (sym shared) (limits_shared report.tree share own.limits);
      parts = own.parts;
      whole = own.whole;
      faultless = own.faultless;
      shown = shared ∙ ap (λ (tree : TreeState). record tree { share = share }) own.shown;
      entries = c.in_ok-old.ensures ∙ ap (map entry_mounted) own.kept;
      space = c.in_ok-space.ensures;
    }

pub allow-requires-clause-unmade : goal.allow-requires-clause-unmade
allow-requires-clause-unmade g c core =
    let report = c.in_ok-layout.field-0 in
    let own = c.in_ok-layout.ensures.sound in
    ap (λ (tree : TreeState). slice_index tree.made core) own.shown ∙ zeros_read report.layout.cores core

pub allow-requires-clause-shares : goal.allow-requires-clause-shares
allow-requires-clause-shares g c =
    let report = c.in_ok-layout.field-0 in
    let own = c.in_ok-layout.ensures.sound in
    let cores : length report.tree.made ≡ report.layout.cores =
    ap (λ (tree : TreeState). length tree.made) own.shown ∙ length-replicate {A = ℕ} report.layout.cores 0 in
    subst (λ share. share * length report.tree.made ≤ 65536) (sym c.share_of.ensures) (subst (λ n. c.args.nodes / report.layout.cores * n ≤ 65536) (sym cores)
    (let within = div-mul-le_self c.args.nodes report.layout.cores in let most = c.requires in omega (arith, within, most)))
