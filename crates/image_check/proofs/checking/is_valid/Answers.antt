use Rattle.std.proofs.Common.{◌≡◌, ℕ, ◌<◌, List, length, ap, sym, subst, ◌∙◌}
use Rattle.sfs_base.specs.Lists.{Roomy}
use Rattle.sfs_image.specs.Inode.{Inode}
use Rattle.sfs_image.specs.Slot.{Row}
use Rattle.disk_tree.specs.Rows.{AreNamingCounts}
use Rattle.image_check.specs.Agreed.{AgreesOn}
use Rattle.image_check.specs.Read.{KeepsRows}
use Rattle.disk_tree.specs.Apart.{pointer_in}
use Rattle.image_check.specs.declared.reading.ReadImage.{ReadImage}
use Rattle.image_check.proofs.Accepted.{agreed_said, as_many, broken_said, disagreed_said, few_names, low, rows_fit, short}
use Rattle.image_check.proofs.checking.is_valid.Goals as goal

-- what was counted of all rows, by the number of inodes
naming : (inodes : List Inode) (rows : List (Roomy Row)) (named shown : List ℕ) → length rows ≡ length inodes → shown ≡ named
    → AreNamingCounts rows (length rows) (length inodes) named → AreNamingCounts rows (length inodes) (length inodes) shown
naming inodes rows named shown count same is =
    subst (AreNamingCounts rows (length inodes) (length inodes)) (sym same)
    (subst (λ (n : ℕ). AreNamingCounts rows n (length inodes) named) count is)

pub returns-then-not-branch : goal.returns-then-not-branch
returns-then-not-branch c =
    let inodes = c.as_slice-inodes.result.now in
    let rows = c.as_slice-rows.result.now in
    broken_said c.args.image.now c.requires.read inodes rows (c.as_slice-inodes.ensures.value ∙ ap (λ (r : ReadImage). r.read.inodes.items) c.image.view_is) (c.as_slice-rows.ensures.value ∙ ap (λ (r : ReadImage). r.rows.items) c.image.view_is) c.args.cert.now
    (subst (KeepsRows inodes rows) c.if-not-branch.true c.in_ok-keeps_rows.ensures)

pub count_named-requires-clause-within : goal.count_named-requires-clause-within
count_named-requires-clause-within c =
    let inodes = c.as_slice-inodes.result.now in
    let rows = c.as_slice-rows.result.now in
    rows_fit c.args.image.now c.requires.read inodes rows (c.as_slice-inodes.ensures.value ∙ ap (λ (r : ReadImage). r.read.inodes.items) c.image.view_is) (c.as_slice-rows.ensures.value ∙ ap (λ (r : ReadImage). r.rows.items) c.image.view_is)
    (subst (KeepsRows inodes rows) c.if-not-branch.false c.in_ok-keeps_rows.ensures)

pub count_named-requires-clause-few : goal.count_named-requires-clause-few
count_named-requires-clause-few c =
    few_names c.args.image.now c.requires.read c.as_slice-inodes.result.now c.as_slice-rows.result.now (c.as_slice-inodes.ensures.value ∙ ap (λ (r : ReadImage). r.read.inodes.items) c.image.view_is)
    (c.as_slice-rows.ensures.value ∙ ap (λ (r : ReadImage). r.rows.items) c.image.view_is)

pub counts_agree-requires-clause-short : goal.counts_agree-requires-clause-short
counts_agree-requires-clause-short c =
    short c.args.image.now c.requires.read c.as_slice-inodes.result.now c.as_slice-rows.result.now (c.as_slice-inodes.ensures.value ∙ ap (λ (r : ReadImage). r.read.inodes.items) c.image.view_is)
    (c.as_slice-rows.ensures.value ∙ ap (λ (r : ReadImage). r.rows.items) c.image.view_is)

pub returns-then-not-counts_agree : goal.returns-then-not-counts_agree
returns-then-not-counts_agree c =
    let inodes = c.as_slice-inodes.result.now in
    let rows = c.as_slice-rows.result.now in
    let count =
    as_many c.args.image.now c.requires.read inodes rows (c.as_slice-inodes.ensures.value ∙ ap (λ (r : ReadImage). r.read.inodes.items) c.image.view_is) (c.as_slice-rows.ensures.value ∙ ap (λ (r : ReadImage). r.rows.items) c.image.view_is) in
    let kept = subst (KeepsRows inodes rows) c.if-not-branch.false c.in_ok-keeps_rows.ensures in
    disagreed_said c.args.image.now c.requires.read inodes rows (c.as_slice-inodes.ensures.value ∙ ap (λ (r : ReadImage). r.read.inodes.items) c.image.view_is) (c.as_slice-rows.ensures.value ∙ ap (λ (r : ReadImage). r.rows.items) c.image.view_is) c.args.cert.now kept
    c.as_slice.result.now (naming inodes rows c.in_ok-named.named.items c.as_slice.result.now count c.as_slice.ensures.value c.in_ok-named.ensures.ok)
    (subst (AgreesOn inodes rows c.as_slice.result.now c.args.cert.now) c.if-not-counts_agree.true c.counts_agree.ensures)

pub owner_list-requires-clause-within : goal.owner_list-requires-clause-within
owner_list-requires-clause-within c = λ i place less inside.
    subst (λ (n : ℕ). pointer_in c.as_slice-inodes.result.now c.as_slice-tables.result.now i place < n)
    (sym (ap (λ (r : ReadImage). r.layout.blocks) c.image.view_is))
    (low c.args.image.now c.requires.read c.as_slice-inodes.result.now c.as_slice-rows.result.now (c.as_slice-inodes.ensures.value ∙ ap (λ (r : ReadImage). r.read.inodes.items) c.image.view_is)
    (c.as_slice-rows.ensures.value ∙ ap (λ (r : ReadImage). r.rows.items) c.image.view_is) c.as_slice-tables.result.now (c.as_slice-tables.ensures.value ∙ ap (λ (r : ReadImage). r.read.tables.items) c.image.view_is) i place less inside)

pub returns : goal.returns
returns c =
    let inodes = c.as_slice-inodes.result.now in
    let rows = c.as_slice-rows.result.now in
    let count =
    as_many c.args.image.now c.requires.read inodes rows (c.as_slice-inodes.ensures.value ∙ ap (λ (r : ReadImage). r.read.inodes.items) c.image.view_is) (c.as_slice-rows.ensures.value ∙ ap (λ (r : ReadImage). r.rows.items) c.image.view_is) in
    let kept = subst (KeepsRows inodes rows) c.if-not-branch.false c.in_ok-keeps_rows.ensures in
    agreed_said c.args.image.now c.requires.read inodes rows (c.as_slice-inodes.ensures.value ∙ ap (λ (r : ReadImage). r.read.inodes.items) c.image.view_is) (c.as_slice-rows.ensures.value ∙ ap (λ (r : ReadImage). r.rows.items) c.image.view_is) c.args.cert.now kept
    c.as_slice.result.now (naming inodes rows c.in_ok-named.named.items c.as_slice.result.now count c.as_slice.ensures.value c.in_ok-named.ensures.ok)
    (subst (AgreesOn inodes rows c.as_slice.result.now c.args.cert.now) c.if-not-counts_agree.false c.counts_agree.ensures)
    c.as_slice-tables.result.now (c.as_slice-tables.ensures.value ∙ ap (λ (r : ReadImage). r.read.tables.items) c.image.view_is) c.in_ok-owners.owners.items c.in_ok-owners.ensures c.are_one.result c.are_one.ensures
