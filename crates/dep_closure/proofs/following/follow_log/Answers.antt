use Rattle.std.proofs.Common.{List, filter, sym, ap, subst, refl, ◌∙◌, nat_eq}
use Rattle.std.specs.List.{find}
use Rattle.std.proofs.lemmas.Result.{on_ok_weaker}
use Rattle.tree_laws.specs.declared.changes.Change.{Change}
use Rattle.mem_cells.specs.Log.{IsInOrder}
use Rattle.cut_laws.specs.Elements.{OfSome}
use Rattle.cut_laws.proofs.RunFacts.{found_in}
use Rattle.dep_closure.specs.Brought.{GrowsBy, ChangeBrings, SpanBrings, AreOfOneDirectory}
use Rattle.dep_closure.specs.Gathered.{IsOwnLog, look_of, noted_as, cut_in, log_directory}
use Rattle.dep_closure.specs.Spans.{is_in_span}
use Rattle.dep_closure.proofs.Growing.{grows_as, grows_same}
use Rattle.dep_closure.proofs.Looked.{one_of_all}
use Rattle.dep_closure.proofs.Tying.{span_there, span_back, span_none, span_own}
use Rattle.dep_closure.proofs.following.follow_log.Goals as goal

pub returns-in-Some : goal.returns-in-Some
returns-in-Some c =
    let gathered = c.args.gathered.now in
    let found = ap (find (λ one. nat_eq (log_directory one) c.args.node.0)) (sym c.as_slice.ensures) ∙ sym c.in-Some.ensures in
    let is = c.span.ensures.items ∙ ap (filter (is_in_span c.cut_of-cut.result.0 c.args.below.0)) c.as_slice-in-Some-2.ensures
    ∙ ap (λ f. filter (is_in_span f c.args.below.0) c.in-Some.log.now.changes.items)
    (c.cut_of-cut.ensures ∙ ap (λ cuts. cut_in cuts c.args.node.0) c.as_slice-in-Some.ensures) in
    on_ok_weaker c.follow_span.result
    (λ grows start.
    grows_as c.args.found.now c.follow_span.new.found
    (OfSome (filter (is_in_span (cut_in gathered.cuts.items c.args.node.0) c.args.below.0) c.in-Some.log.now.changes.items)
    (λ change. ChangeBrings
    (noted_as (filter (is_in_span (cut_in gathered.cuts.items c.args.node.0) c.args.below.0) c.in-Some.log.now.changes.items) change)))
    (SpanBrings (look_of start c.args.below gathered) c.args.node.0)
    (subst (λ (l : List Change). GrowsBy c.args.found.now c.follow_span.new.found (OfSome l (λ change. ChangeBrings (noted_as l change)))) is grows)
    (λ other. span_there gathered c.requires start c.args.below c.args.node.0 c.in-Some.log.now other found)
    (λ other. span_back gathered c.requires start c.args.below c.args.node.0 c.in-Some.log.now other found))
    c.follow_span.ensures

pub returns-in-None : goal.returns-in-None
returns-in-None c = λ start.
    let gathered = c.args.gathered.now in
    let none = ap (find (λ one. nat_eq (log_directory one) c.args.node.0)) (sym c.as_slice.ensures) ∙ sym c.in-None.ensures in
    grows_same c.args.found.now c.args.found.now (SpanBrings (look_of start c.args.below gathered) c.args.node.0) refl refl
    (λ other brings. absurd (span_none gathered c.requires start c.args.below c.args.node.0 other none brings))

pub span-requires : goal.span-requires
span-requires c =
    let found = ap (find (λ one. nat_eq (log_directory one) c.args.node.0)) (sym c.as_slice.ensures) ∙ sym c.in-Some.ensures in
    let there = found_in (λ one. nat_eq (log_directory one) c.args.node.0) c.args.gathered.now.logs.items c.in-Some.log.now found in
    subst IsInOrder (sym c.as_slice-in-Some-2.ensures)
    (one_of_all IsOwnLog c.args.gathered.now.logs.items c.in-Some.log.now c.requires.own_logs there.0).in_order

pub follow_span-requires-clause-own : goal.follow_span-requires-clause-own
follow_span-requires-clause-own c =
    let found = ap (find (λ one. nat_eq (log_directory one) c.args.node.0)) (sym c.as_slice.ensures) ∙ sym c.in-Some.ensures in
    let there = found_in (λ one. nat_eq (log_directory one) c.args.node.0) c.args.gathered.now.logs.items c.in-Some.log.now found in
    let test = is_in_span c.cut_of-cut.result.0 c.args.below.0 in
    subst AreOfOneDirectory (sym (c.span.ensures.items ∙ ap (filter test) c.as_slice-in-Some-2.ensures))
    (span_own c.in-Some.log.now.changes.items c.in-Some.log.now.dir.0 test
    (one_of_all IsOwnLog c.args.gathered.now.logs.items c.in-Some.log.now c.requires.own_logs there.0).own)
