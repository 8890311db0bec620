use Rattle.std.proofs.Common.{◌<◌, ◌/◌, ◌%◌, ◌∙◌, ap, List, [], ℕ, length, take, set, get_or, arith}
use Rattle.std.proofs.lemmas.Grind.{common_steps}
use Rattle.std.proofs.lemmas.List.{get_or_read}
use Rattle.mem_files.specs.Pages.{byte_at}
use Rattle.mem_files.proofs.Places.{byte_at-cut}
use Rattle.mem_files.proofs.pages.cut.Goals as goal

pub returns-then-size-len : goal.returns-then-size-len
returns-then-size-len c place =
    let block = c.args.size / 4096 in
    let kept = c.truncate.ensures.items in
    let inside : block < length c.truncate.new.self.items = grind (arith, common_steps) in
    let read = get_or_read c.truncate.new.self.items block _ inside c.index_mut-last.ensures.value [] in
    let last = c.cut.ensures ∙ ap (take (c.args.size % 4096)) (read ∙ ap (λ (pages : List (List ℕ)). get_or pages block []) kept) in
    ap (λ (pages : List (List ℕ)). byte_at (set pages block c.cut.new.self) place) kept
    ∙ byte_at-cut c.args.pages.now.items c.args.size place c.cut.new.self (rw kept at inside) last
