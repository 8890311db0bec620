use Rattle.std.proofs.Common.{◌≡◌, ◌+◌, ◌-◌, [], get_or, sym, ap, subst, ◌∙◌, arith, inl, inr, nat_eq}
use Rattle.std.specs.Prelude.{Contains}
use Rattle.std.proofs.lemmas.Bool.{cases_lt, eqb-true}
use Rattle.std.proofs.lemmas.List.{get_or_default}
use Rattle.std.proofs.lemmas.List.Folds.{Any-from_list_any}
use Rattle.disk_nodes.specs.Indexed.{has_name}
use Rattle.disk_nodes.proofs.slots.push_noted.Goals as goal
use Rattle.disk_nodes.proofs.slots.push_noted.Goals.{then-note-ne0+in_ok-push_named, else-note-ne0}

pub loop-k-preserved : goal.loop-k-preserved
loop-k-preserved c = elim c.if-note-ne0.branch [
  | then-note-ne0+in_ok-push_named w ↦
      rw (ap (λ v. v.items) w.places-is) (record {
        kept = λ n has. w.in_ok-push_named.ensures.kept n (c.loop-k.invariant.kept n has);
        each = λ j n low is within has. elim (cases_lt j c.loop-k.k) [
          | inl before ↦ w.in_ok-push_named.ensures.kept n (c.loop-k.invariant.each j n before is within has)
          | inr here ↦
              let same : j ≡ c.loop-k.k = omega (arith, here, low) in
              let note = ap (λ m. get_or c.args.bucket.now.notes m 0) (sym same) ∙ is in
              let at : get_or c.args.bucket.now.notes c.loop-k.k 0 - 1 ≡ n = omega (arith, note) in
              subst (Contains w.push_named.new.places.items) at
              (w.in_ok-push_named.ensures.own (omega (arith, note, within)) (ap (λ m. has_name c.args.name.now (get_or c.args.blocks.now m [])) at ∙ has))
        ];
      })
  | else-note-ne0 w ↦
      rw (ap (λ v. v.items) w.places-is) (record {
        kept = c.loop-k.invariant.kept;
        each = λ j n low is within has. elim (cases_lt j c.loop-k.k) [
          | inl before ↦ c.loop-k.invariant.each j n before is within has
          | inr here ↦
              let same : j ≡ c.loop-k.k = omega (arith, here, low) in
              let note = ap (λ m. get_or c.args.bucket.now.notes m 0) (sym same) ∙ is in
              absurd (let none = w.if-note-ne0.false in omega (arith, note, none))
        ];
      })
]

pub returns-clause-each : goal.returns-clause-each
returns-clause-each c = λ n within noted has.
    let any = Any-from_list_any (λ note. nat_eq note (n + 1)) c.args.bucket.now.notes noted in
    let is : get_or c.args.bucket.now.notes any.0 0 ≡ n + 1 =
    get_or_default c.args.bucket.now.notes any.0 0 any.1 any.2 ∙ any.3 ∙ eqb-true any.1 (n + 1) any.4 in
    c.loop-k.invariant.each any.0 n (omega (arith, any.2)) is within has
