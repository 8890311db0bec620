use Rattle.std.proofs.Common.{◌≡◌, ◌∙◌, ap, refl, ℕ, List, [], ◌+◌, ◌≤◌, ◌++◌, length, take, arith}
use Rattle.std.proofs.lemmas.List.{append-nil}
use Rattle.std.proofs.lemmas.Grind.{common_steps}
use Rattle.std.proofs.lemmas.Result.{err_from_is_err_and}
use Rattle.sfs_base.specs.declared.transfer.TheConstants.{PIECE}
use Rattle.sfs_base.proofs.Steps.{Consumes-more, Consumes-all}
use Rattle.sfs_base.proofs.transfer.read_all.Goals as goal

pub returns-in_err-extend_from_slice-clause-taken :
    goal.returns-in_err-extend_from_slice-clause-taken
returns-in_err-extend_from_slice-clause-taken g c =
    let fault = err_from_is_err_and c.from_residual-in_err-extend_from_slice.result c.from_residual-in_err-extend_from_slice.ensures.1 in
    let more = take c.in_ok-count.count c.read.new.into in
    let taken = Consumes-more _ _ _ _ _ c.loop-piece.invariant.taken c.in_ok-count.ensures.taken in
    let bounded : length (c.loop-piece.bytes.items ++ more) ≤ c.args.most + PIECE = grind (arith, common_steps) in
    rw (fault.1, fault.2) (c.loop-piece.bytes.items ++ more, taken, bounded)

pub returns-then-count-eq0-clause-taken : goal.returns-then-count-eq0-clause-taken
returns-then-count-eq0-clause-taken g c =
    let bytes = c.loop-piece.bytes.items in
    let into = c.read.new.into in
    let zero : take c.in_ok-count.count into ≡ [] = ap (λ (k : ℕ). take k into) c.if-count-eq0.true in
    let nothing : bytes ++ take c.in_ok-count.count into ≡ bytes = ap (λ (xs : List ℕ). bytes ++ xs) zero ∙ append-nil bytes in
    let all = Consumes-all _ _ _ _ c.loop-piece.invariant.taken c.in_ok-count.ensures.end c.if-count-eq0.true in
    let more = Consumes-more _ _ _ _ _ c.loop-piece.invariant.taken c.in_ok-count.ensures.taken in
    (bytes, rw nothing at more, (refl {A = List ℕ}, omega arith, all))
