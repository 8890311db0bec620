use Rattle.std.proofs.Common.{Bool, refl, sym, subst}
use Rattle.sfs_base.specs.Ends.{HasRisen}
use Rattle.image_verdict.specs.Texts.{certificate_text}
use Rattle.image_verdict.specs.Verdicts.{WritesAccepted, none}
use Rattle.image_verdict.specs.declared.judging.Verdict.TheVariants.{NoMemory}
use Rattle.image_verdict.proofs.judging.write_if_accepted.Goals as goal

pub returns-in-Err : goal.returns-in-Err
returns-in-Err g c =
    let written = g.K.Sink.written c.args.sink.now in
    let faults = g.K.Sink.faults c.args.sink.now in
    subst (λ (accepted : Bool). WritesAccepted (certificate_text c.args.cert.now) (HasRisen faults faults) written written accepted NoMemory)
    (sym c.if-not-accepted.false) (none refl)
