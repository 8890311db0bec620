use Rattle.std.proofs.Common.{◌≡◌, true, false}
use Rattle.log_merge.specs.Merge.{is_first_next}
use Rattle.log_merge.proofs.Taking.{first_taken, second_taken}
use Rattle.log_merge.proofs.merging.take_next.Goals as goal

pub returns-then-goes_first : goal.returns-then-goes_first
returns-then-goes_first c =
    let is : is_first_next c.args.first.now.items c.args.second.now.items ≡ true = cc in
    first_taken c.args.first.now.items c.args.second.now.items c.pop_front.result c.pop_front.new.self.items c.requires.second is c.pop_front.ensures.items
    c.pop_front.ensures.rest

pub returns-else-goes_first : goal.returns-else-goes_first
returns-else-goes_first c =
    let is : is_first_next c.args.first.now.items c.args.second.now.items ≡ false = cc in
    second_taken c.args.first.now.items c.args.second.now.items c.pop_front-else-goes_first.result c.pop_front-else-goes_first.new.self.items c.requires.first
    is c.pop_front-else-goes_first.ensures.items c.pop_front-else-goes_first.ensures.rest
