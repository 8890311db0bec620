use Rattle.std.proofs.Common.{refl, sym, subst}
use Rattle.sfs_base.specs.Ends.{HasRisen}
use Rattle.image_check.specs.declared.fault.VerifyFault.{VerifyFault}
use Rattle.image_verdict.specs.Verdicts.{WritesFault, none}
use Rattle.image_verdict.specs.declared.judging.Verdict.TheVariants.{NoMemory}
use Rattle.image_verdict.proofs.judging.write_fault.Goals as goal

pub returns-in-Err : goal.returns-in-Err
returns-in-Err g c =
    let written = g.K.Sink.written c.args.sink.now in
    let faults = g.K.Sink.faults c.args.sink.now in
    subst (λ (fault : VerifyFault). WritesFault fault (HasRisen faults faults) written written NoMemory) (sym c.in-BadImage.is) (none refl)
