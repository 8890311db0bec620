-- How refusals of recovery are passed on.
use Rattle.std.proofs.Common.{◌≡◌, Result, Ok, Err, sym, subst}
use Rattle.std.specs.Result.{IsErrAnd, IfErr}
use Rattle.recovery.specs.declared.fault.RecoverFault.{RecoverFault}

-- a refusal that is passed on has what it had
pub passed_on : {V : Type 0} (result : Result V RecoverFault) (fault : RecoverFault) (P : RecoverFault → Type 0) → IsErrAnd result (λ passed. passed ≡ fault)
    → P fault → IfErr result P
passed_on (Ok v) fault P is has = tt
passed_on (Err e) fault P is has = subst P (sym is) has
