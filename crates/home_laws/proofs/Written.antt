-- With what value what was flushed of a node goes home.
use Rattle.std.proofs.Common.{◌≡◌, ◌++◌, ◌∙◌, sym, ap, subst}
use Rattle.std.proofs.lemmas.List.Elements.{filter_map-append}
use Rattle.sfs_base.proofs.BasicOptions.{some_same}
use Rattle.tree_laws.specs.History.{IsLegal}
use Rattle.cut_laws.specs.Rules.{IsOneOf}
use Rattle.stamp_table.specs.Events.{called, calls_in}
use Rattle.mem_values.specs.Logs.{birthplace}
use Rattle.mem_values.specs.Stands.{flushed_by, IsTrimmedFor}
use Rattle.mem_values.specs.Account.{Commitment, account_of}
use Rattle.mem_values.specs.declared.fact.HeldNode.{HeldNode}
use Rattle.home_laws.specs.Written.{WrittenValuesStand}
use Rattle.home_laws.proofs.Birthplaces.{birthplaces_stay}

pub written_values_stand : WrittenValuesStand
written_values_stand w ready =
    let whole : calls_in w.later ≡ calls_in w.seen ++ calls_in ready.begins.0 =
    sym (ap calls_in ready.begins.1) ∙ filter_map-append called w.seen ready.begins.0 in
    let same : birthplace w.first (calls_in w.later) w.node ≡ birthplace w.first (calls_in w.seen) w.node =
    ap (λ l. birthplace w.first l w.node) whole
    ∙ birthplaces_stay w.first (calls_in w.seen) (calls_in ready.begins.0) w.node ready.sound (subst (IsLegal w.first) whole ready.legal) ready.is_node in
    record {
      flushed = ready.wrote ∙ ap (flushed_by w.given w.node) (sym ready.last);
      made_in = ready.made_in ∙ (ready.stood.made_in ∙ sym same);
      trimmed = λ writer member last has part lt.
          subst (λ (x : Commitment × HeldNode). IsTrimmedFor (account_of w.later) x.0 part) (some_same (sym ready.last ∙ last))
          (ready.trimmed member part
          (subst (λ (x : Commitment × HeldNode). IsOneOf x.0.members member) (some_same (sym last ∙ ready.last)) has) lt);
    }
