use Rattle.std.proofs.Common.{◌≡◌, ◌++◌, List, [], Option, subst, sym, ap, ◌∙◌, OnOk}
use Rattle.std.specs.Option.{option_copied, option_map_or}
use Rattle.sfs_base.specs.Lists.{Roomy}
use Rattle.disk_change.specs.Parts.{BuiltParts, built_with}
use Rattle.disk_change.specs.Fresh.{fresh_written}
use Rattle.keyed_list.specs.Ascending.{item_with}
use Rattle.disk_change.specs.Nodes.{file_node}
use Rattle.disk_change.specs.declared.files.FileChange.{FileChange}
use Rattle.disk_change.specs.declared.pages.Page.{Page}
use Rattle.disk_change.proofs.all_built.push_blocks.Goals as goal

pub returns-in-Some : goal.returns-in-Some
returns-in-Some c =
    let found =
    ap (λ (b : BuiltParts). item_with file_node b.node c.args.files.now.items) (sym c.node.view_is) ∙ sym c.find.ensures ∙ ap option_copied c.in-Some.is in
    subst (λ (pages : List Page). OnOk c.push_fresh.result (c.push_fresh.new.fresh.items ≡ c.args.blocks.now.items ++ fresh_written (built_with c.args.slots.now c.args.node.now) pages))
    (sym (ap (λ (o : Option FileChange). option_map_or (λ one. one.pages.items) o []) found)) c.push_fresh.ensures

pub returns-in-None : goal.returns-in-None
returns-in-None c =
    let found =
    ap (λ (b : BuiltParts). item_with file_node b.node c.args.files.now.items) (sym c.node.view_is) ∙ sym c.find.ensures ∙ ap option_copied c.in-None.is in
    subst (λ (pages : List Page). OnOk c.push_fresh-in-None-2.result
    (c.push_fresh-in-None-2.new.fresh.items ≡ c.args.blocks.now.items ++ fresh_written (built_with c.args.slots.now c.args.node.now) pages))
    (ap (λ (l : Roomy Page). l.items) c.new.ensures ∙ sym (ap (λ (o : Option FileChange). option_map_or (λ one. one.pages.items) o []) found)) c.push_fresh-in-None-2.ensures
