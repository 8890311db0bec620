use Rattle.std.proofs.Common.{ap, sym, ◌∙◌}
use Rattle.scalefs_run.specs.declared.outcome.ImageFault.{ImageFault}
use Rattle.scalefs_run.specs.Outcome.{status_text}
use Rattle.scalefs_run.specs.declared.outcome.Status.TheVariants.{BadImage}
use Rattle.scalefs_run.proofs.outcome.fault_line.Goals as goal

pub returns-in_ok-format-in-Super : goal.returns-in_ok-format-in-Super
returns-in_ok-format-in-Super c = c.in_ok-format-in-Super.ensures.ok ∙ sym (ap (λ (fault : ImageFault). status_text (BadImage fault)) c.in-Super.is)

pub returns-in_ok-format-in-Journal : goal.returns-in_ok-format-in-Journal
returns-in_ok-format-in-Journal c = c.in_ok-format-in-Journal.ensures.ok ∙ sym (ap (λ (fault : ImageFault). status_text (BadImage fault)) c.in-Journal.is)
