use Rattle.std.proofs.Common.{◌<◌, ◌++◌, ◌∷◌, [], sym, ap, ◌∙◌, arith, length, get_or, map, take, All, subst, List}
use Rattle.std.proofs.lemmas.List.{take_all}
use Rattle.block_map.specs.declared.changed.ChangedBlock.{ChangedBlock}
use Rattle.disk_change.specs.declared.pages.Page.{Page}
use Rattle.disk_change.specs.Seat.{page_said}
use Rattle.disk_change.proofs.Rewriting.{pages_below}
use Rattle.disk_change.proofs.Blocks.{moved_more}
use Rattle.disk_change.proofs.rewritten.file_changed.Goals as goal

abbrev NO_PAGE : Page
NO_PAGE = record { block = 0; bytes = [] }

pub push-requires-clause-above : goal.push-requires-clause-above
push-requires-clause-above c =
    let same = c.as_slice-pages.ensures.items in
    let long = ap length same in
    let within : c.loop-page.page-index < length c.args.pages.now.items = omega arith in
    let said = c.page_said.ensures ∙ ap (λ those. page_said (get_or those c.loop-page.page-index NO_PAGE)) same in
    let below = pages_below c.args.pages.now.items c.as_slice-pages.ensures.ascending c.loop-page.page-index NO_PAGE within in
    let items = c.in_ok-reserve.ensures.items ∙ c.loop-page.invariant in
    subst (λ (those : List ChangedBlock). All (λ one. one.block < c.page_said.result.block) those) (sym items)
    (subst (λ (page : ChangedBlock). All (λ one. one.block < page.block) (map page_said (take c.loop-page.page-index c.args.pages.now.items)))
    (sym said) below)

pub loop-page-preserved : goal.loop-page-preserved
loop-page-preserved c =
    let same = c.as_slice-pages.ensures.items in
    let long = ap length same in
    let within : c.loop-page.page-index < length c.args.pages.now.items = omega arith in
    let said = c.page_said.ensures ∙ ap (λ those. page_said (get_or those c.loop-page.page-index NO_PAGE)) same in
    c.push.ensures.items ∙ (λ i. (c.in_ok-reserve.ensures.items ∙ c.loop-page.invariant) i ++ said i ∷ [])
    ∙ sym (moved_more page_said c.args.pages.now.items c.loop-page.page-index NO_PAGE within)

pub returns : goal.returns
returns c =
    let long = ap length c.as_slice-pages.ensures.items in
    c.loop-page.invariant ∙ ap (map page_said) (take_all c.loop-page.page-index c.args.pages.now.items (omega arith))
