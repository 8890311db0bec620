use Rattle.std.proofs.Common.{◌≡◌, ◌∷◌, ◌++◌, [], cond, ap, sym, ◌∙◌}
use Rattle.std.proofs.lemmas.List.{append-nil}
use Rattle.sfs_base.specs.Lists.{Roomy}
use Rattle.disk_change.specs.declared.pages.Page.{Page}
use Rattle.flush_plan.specs.Touched.{page_of}
use Rattle.flush_plan.proofs.Pages.{pages_more, below_more}
use Rattle.flush_plan.proofs.touched.touched_pages.Goals as goal
use Rattle.flush_plan.proofs.touched.touched_pages.Goals.{then-is_touched+in_ok-reserve, else-is_touched}

grown : (c : goal.Joined-is_touched)
    → c.if-is_touched.pages.items ≡ c.loop-block.pages.items ++ cond c.is_touched.result (page_of c.args.bytes.now.bytes c.loop-block.block ∷ []) []
grown c =
    elim c.if-is_touched.branch [
      | then-is_touched+in_ok-reserve w ↦
          ap (λ (l : Roomy Page). l.items) w.pages-is ∙ w.push.ensures.items
          ∙ ap (λ l. l ++ w.page_at.result ∷ []) (w.in_ok-reserve.ensures.items)
          ∙ ap (λ page. c.loop-block.pages.items ++ page ∷ []) w.page_at.ensures
          ∙ ap (λ b. c.loop-block.pages.items ++ cond b (page_of c.args.bytes.now.bytes c.loop-block.block ∷ []) []) (sym w.if-is_touched.true)
      | else-is_touched w ↦
          ap (λ (l : Roomy Page). l.items) w.pages-is ∙ sym (append-nil c.loop-block.pages.items)
          ∙ ap (λ b. c.loop-block.pages.items ++ cond b (page_of c.args.bytes.now.bytes c.loop-block.block ∷ []) []) (sym w.if-is_touched.false)
    ]

pub loop-block-preserved : goal.loop-block-preserved
loop-block-preserved c = record {
  pages =
      pages_more c.args.cut.0 c.args.bytes.now c.loop-block.block c.is_touched.result c.is_touched.ensures c.loop-block.pages.items c.if-is_touched.pages.items
      (grown c) c.loop-block.invariant.pages;
  below =
      below_more c.args.cut.0 c.args.bytes.now c.loop-block.block c.is_touched.result c.is_touched.ensures c.loop-block.pages.items c.if-is_touched.pages.items
      (grown c) c.loop-block.invariant.below;
}
