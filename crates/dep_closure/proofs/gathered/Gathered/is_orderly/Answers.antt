use Rattle.std.proofs.Common.{map, subst, sym}
use Rattle.std.specs.Prelude.{All}
use Rattle.std.specs.List.Sorted.{IsStrictlyIncreasing}
use Rattle.tree_laws.specs.NameRow.{node_number}
use Rattle.dep_closure.specs.Gathered.{IsOwnLog, log_directory, cut_node, birth_node}
use Rattle.dep_closure.proofs.gathered.Gathered.is_orderly.Goals as goal

pub returns : goal.returns
returns c = (
  λ own. record {
    logs = subst (λ (l : _). IsStrictlyIncreasing (map log_directory l)) c.as_slice.ensures (c.ascends.ensures.0 c.if-not-ascends.false);
    cuts =
        subst (λ (l : _). IsStrictlyIncreasing (map cut_node l)) c.as_slice-else-not-ascends.ensures
        (c.ascends-else-not-ascends.ensures.0 c.if-not-ascends-2.false);
    births = subst (λ (l : _). IsStrictlyIncreasing (map birth_node l)) c.as_slice-2.ensures (c.ascends-2.ensures.0 c.if-not-ascends-3.false);
    inodes =
        subst (λ (l : _). IsStrictlyIncreasing (map node_number l)) c.as_slice-else-not-ascends-3.ensures
        (c.ascends-else-not-ascends-3.ensures.0 c.if-not-ascends-4.false);
    own_logs = subst (All IsOwnLog) c.as_slice-3.ensures (c.are_own_logs.ensures.0 own);
  },
  λ orderly. c.are_own_logs.ensures.1 (subst (All IsOwnLog) (sym c.as_slice-3.ensures) orderly.own_logs),
)
