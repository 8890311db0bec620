use Rattle.std.proofs.Common.{◌≡◌, ℕ, ◌+◌, List, [], ◌∷◌, ◌++◌, map, take, get_or, sym, ap, ◌∙◌, subst}
use Rattle.std.proofs.lemmas.List.{take_more, take_all, map-append}
use Rattle.sfs_base.specs.declared.numbers.NodeId.{NodeId}
use Rattle.tree_laws.specs.NameRow.{node_number}
use Rattle.core_logs.specs.Logs.{AreTrimmedOf}
use Rattle.core_logs.proofs.Reserving.{trimmed_more}
use Rattle.core_logs.proofs.logs.CoreLogs.trim.Goals as goal

pub loop-directory-preserved : goal.loop-directory-preserved
loop-directory-preserved c =
    let i : ℕ = c.loop-directory.directory-index in
    let all : List NodeId = c.args.directories.now in
    subst (λ l. AreTrimmedOf c.args.self.now l c.args.below.0 c.trim_one.new.self)
    (sym (ap (map node_number) (take_more all i (record { 0 = 0 }) c.loop-directory-test.true) ∙ map-append node_number (take i all) _))
    (trimmed_more c.args.self.now c.loop-directory.self c.trim_one.new.self
    (map node_number (take i all)) _ c.args.below.0 c.loop-directory.invariant c.trim_one.ensures)

pub returns : goal.returns
returns c =
    subst (λ l. AreTrimmedOf c.args.self.now (map node_number l) c.args.below.0 c.loop-directory.self)
    (take_all c.loop-directory.directory-index c.args.directories.now c.loop-directory-test.false) c.loop-directory.invariant
