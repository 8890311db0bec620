use Rattle.std.proofs.Common.{ℕ, ◌<◌, ap, sym, subst, ◌∙◌}
use Rattle.disk_tree.specs.Apart.{pointer_in}
use Rattle.image_check.specs.declared.reading.ReadImage.{ReadImage}
use Rattle.image_check.proofs.Accepted.{all_climb, children_fit, low, made_said}
use Rattle.image_check.proofs.making.certificate_by.Goals as goal

pub holder_table-requires-clause-within : goal.holder_table-requires-clause-within
holder_table-requires-clause-within c =
    children_fit c.args.image.now c.requires.read c.as_slice-inodes.result.now c.as_slice.result.now (c.as_slice-inodes.ensures.value ∙ ap (λ (r : ReadImage). r.read.inodes.items) c.image.view_is)
    (c.as_slice.ensures.value ∙ ap (λ (r : ReadImage). r.rows.items) c.image.view_is) c.requires.keep

pub holder_list-requires-clause-climbs : goal.holder_list-requires-clause-climbs
holder_list-requires-clause-climbs c =
    all_climb c.args.image.now c.requires.read c.as_slice-inodes.result.now c.as_slice.result.now (c.as_slice-inodes.ensures.value ∙ ap (λ (r : ReadImage). r.read.inodes.items) c.image.view_is)
    (c.as_slice.ensures.value ∙ ap (λ (r : ReadImage). r.rows.items) c.image.view_is) c.requires.keep c.in_ok-above.above.items c.as_slice-2.result.now c.as_slice-2.ensures.value
    c.in_ok-above.ensures.holders

pub owner_list-requires-clause-within : goal.owner_list-requires-clause-within
owner_list-requires-clause-within c = λ i place less inside.
    subst (λ (n : ℕ). pointer_in c.as_slice-inodes.result.now c.as_slice-tables.result.now i place < n)
    (sym (ap (λ (r : ReadImage). r.layout.blocks) c.image.view_is))
    (low c.args.image.now c.requires.read c.as_slice-inodes.result.now c.as_slice.result.now (c.as_slice-inodes.ensures.value ∙ ap (λ (r : ReadImage). r.read.inodes.items) c.image.view_is) (c.as_slice.ensures.value ∙ ap (λ (r : ReadImage). r.rows.items) c.image.view_is)
    c.as_slice-tables.result.now (c.as_slice-tables.ensures.value ∙ ap (λ (r : ReadImage). r.read.tables.items) c.image.view_is) i place less inside)

pub returns : goal.returns
returns c =
    made_said c.args.image.now c.requires.read c.as_slice-inodes.result.now c.as_slice.result.now (c.as_slice-inodes.ensures.value ∙ ap (λ (r : ReadImage). r.read.inodes.items) c.image.view_is)
    (c.as_slice.ensures.value ∙ ap (λ (r : ReadImage). r.rows.items) c.image.view_is) c.requires.keep c.in_ok-above.above.items c.as_slice-2.result.now c.as_slice-2.ensures.value
    c.in_ok-above.ensures.holders _ c.in_ok-holders.ensures c.as_slice-tables.result.now (c.as_slice-tables.ensures.value ∙ ap (λ (r : ReadImage). r.read.tables.items) c.image.view_is) c.in_ok-owners.ensures
    c.args.named.now c.requires.named c.count_files.ensures
