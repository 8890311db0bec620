use Rattle.std.proofs.Common.{◌<◌, ◌≤◌, ◌∙◌, [], length, sym, arith}
use Rattle.std.proofs.lemmas.Grind.{common_steps}
use Rattle.std.proofs.lemmas.Bool.Decides.{nat_tests}
use Rattle.std.proofs.lemmas.List.{get_or_past, get_or_read}
use Rattle.std.proofs.lemmas.Result.{IfOk-weaker}
use Rattle.mem_files.proofs.Fresh.{page_written}
use Rattle.mem_files.proofs.pages.written_page.Goals as goal

pub returns-in-Some : goal.returns-in-Some
returns-in-Some c =
    let inside : c.args.block < length c.args.pages.now = grind (arith, nat_tests, c.in-Some.ensures.lookup.0) in
    let read = get_or_read c.args.pages.now c.args.block _ inside c.in-Some.ensures.lookup.1 [] in
    IfOk-weaker c.written.result _ _ (λ page. page_written c.args.pages.now c.in-Some.page.now page c.args.at c.args.block _ c.args.from.now _ read
    c.piece_in-offset.ensures.piece) c.written.ensures

pub returns-in-None : goal.returns-in-None
returns-in-None c =
    let past : length c.args.pages.now ≤ c.args.block = grind (arith, nat_tests, common_steps) in
    IfOk-weaker c.written-in-None-2.result _ _ (λ page. page_written c.args.pages.now _ page c.args.at c.args.block _ c.args.from.now _
    (c.new.ensures ∙ sym (get_or_past c.args.pages.now c.args.block [] past)) c.piece_in-offset.ensures.piece) c.written-in-None-2.ensures
